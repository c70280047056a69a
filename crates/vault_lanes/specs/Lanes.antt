-- One request over one connection: what is written of it, what is heard, and when it is settled.
-- Source: this project's own.
use Rattle.std.specs.Prelude.{◌≡◌, ℕ, ◌<◌, ◌≤◌, ◌⊎◌, Bool, true, false, IsTrue, List, [], ◌++◌, Option, Some, None, IfSome, Result, Ok, Err}
use Rattle.std.specs.Io.KnownBytes.{Appends, Consumes}
use Rattle.httparse.specs.Grammar.{HasNoResponse}
use Rattle.vault_lanes.specs.{Allowed.deadline, Allowed.most_reads, Losses.Answer, Losses.loss_of, Stages.reads_with, declared.allowance.Allowance.Allowance, declared.loss.Loss.Loss, declared.stage.RequestStage.RequestStage}
use Rattle.vault_lanes.specs.declared.stage.RequestStage.TheVariants.{Connecting, Coming}
use Rattle.vault_lanes.specs.declared.loss.Loss.TheVariants as losses
use Rattle.vault_http.specs.{Dates.IsDatedReply, Holding.IsWaitedFor, declared.dated_reply.DatedReply.DatedReply, declared.http_fault.HttpFault.HttpFault, declared.known.TheConstants.MOST_MESSAGE}
use Rattle.vault_http.specs.declared.http_fault.HttpFault.TheVariants as https

-- a front of what was still to be sent is written, and the rest is still to be sent
pub record FrontIsWritten (unsent left : List ℕ) (before now : Option (List ℕ)) : Type 0 where
  pub front : List ℕ
  pub parts : unsent ≡ front ++ left
  pub appended : Appends before now front

-- what is still to come: nothing where the end was read
abbrev pub to_come : Bool → Option (List ℕ) → Option (List ℕ)
to_come true None = None
to_come true (Some bytes) = Some []
to_come false remaining = remaining

-- so much came since, and is held
pub record Came (old new : List ℕ) (before now : Option (List ℕ)) : Type 0 where
  pub came : List ℕ
  pub consumed : Consumes before now came
  pub kept : new ≡ old ++ came

-- more than these bytes of a reply is rightly waited for
abbrev pub AreWaitedFor : List ℕ → Type 0
AreWaitedFor bytes = IsWaitedFor HasNoResponse (IsDatedReply MOST_MESSAGE) bytes

-- what came is kept, as long as there is no answer. An answer is that of all the bytes, those to come too, however they are cut;
-- and the bytes are no reply where that is told of them
abbrev pub TellsAnswer : List ℕ → List ℕ → Option (List ℕ) → Option Answer → List ℕ → Type 0
TellsAnswer old came before None new = new ≡ old ++ came
TellsAnswer old came before (Some (Ok dated)) new = IfSome before (λ bytes. IsDatedReply MOST_MESSAGE (old ++ bytes) (Ok dated))
TellsAnswer old came before (Some (Err losses.Reply)) new = IfSome before (λ bytes. (fault : HttpFault) × ((loss_of fault ≡ losses.Reply) × IsDatedReply MOST_MESSAGE (old ++ bytes) (Err fault)))
TellsAnswer old came before (Some (Err loss)) new = Unit {0}

pub record ReplyIsHeard (old : List ℕ) (answer : Option Answer) (new : List ℕ) (before now : Option (List ℕ)) : Type 0 where
  pub came : List ℕ
  pub consumed : Consumes before now came
  pub tells : TellsAnswer old came before answer new

-- why it is lost, at this stage and with this left to be sent: its time is over, or it comes in too many reads; or no byte of it
-- was taken
abbrev pub RequestIsLost : Allowance → ℕ → RequestStage → List ℕ → Loss → Type 0
RequestIsLost a now stage unsent (losses.Connect reason) = stage ≡ Connecting
RequestIsLost a now stage unsent losses.Timeout = (deadline a stage ≤ now) ⊎ (most_reads a ≤ reads_with stage)
RequestIsLost a now stage unsent losses.Closed = stage ≡ Connecting → ⊥
RequestIsLost a now stage unsent losses.Reply = unsent ≡ []
RequestIsLost a now stage unsent (losses.Status status) = ⊥

-- without an answer its deadline is ahead; with a reply all of it was sent
abbrev pub RequestIsSettled : Allowance → ℕ → RequestStage → List ℕ → Option Answer → Type 0
RequestIsSettled a now stage unsent None = now < deadline a stage
RequestIsSettled a now stage unsent (Some (Ok dated)) = unsent ≡ []
RequestIsSettled a now stage unsent (Some (Err loss)) = RequestIsLost a now stage unsent loss

-- where the sending does not fail, all of it was sent, or its deadline is ahead
abbrev pub IsPatient : Allowance → ℕ → RequestStage → List ℕ → Result Unit Loss → Type 0
IsPatient a now stage unsent (Ok sent) = (unsent ≡ []) ⊎ (now < deadline a stage)
IsPatient a now stage unsent (Err loss) = RequestIsLost a now stage unsent loss × (unsent ≡ [] → ⊥)

-- ---- one piece of the reply

-- what bytes are read as is the answer, and a fault of theirs the loss; out of memory is no answer
abbrev pub ReplyIsRead : Result DatedReply HttpFault → Answer → Type 0
ReplyIsRead (Ok dated) answer = answer ≡ Ok dated
ReplyIsRead (Err https.OutOfMemory) answer = ⊥
ReplyIsRead (Err fault) answer = answer ≡ Err (loss_of fault)

-- where there is no answer yet, its read is counted
abbrev pub IsCounted : Allowance → ℕ → RequestStage → Option Answer → RequestStage → Type 0
IsCounted a now old None new = (reads_with old < most_reads a) × (new ≡ Coming (reads_with old) now)
IsCounted a now old (Some (Err losses.Timeout)) new = (most_reads a ≤ reads_with old) × (new ≡ old)
IsCounted a now old (Some (Err (losses.Connect reason))) new = ⊥
IsCounted a now old (Some (Err (losses.Status status))) new = ⊥
IsCounted a now old (Some answer) new = new ≡ old

-- after the end nothing follows
abbrev pub NothingFollowsEnd : Bool → List ℕ → Type 0
NothingFollowsEnd ended more = IsTrue ended → more ≡ []

-- an answer is that of the bytes that have come, whatever follows; or its time is over, and more is rightly waited for
abbrev pub IsToldBy : List ℕ → Bool → Answer → Type 0
IsToldBy came ended (Ok dated) = (more : List ℕ) → NothingFollowsEnd ended more → IsDatedReply MOST_MESSAGE (came ++ more) (Ok dated)
IsToldBy came ended (Err losses.Reply) = (fault : HttpFault) × ((loss_of fault ≡ losses.Reply) × ((more : List ℕ) → NothingFollowsEnd ended more → IsDatedReply MOST_MESSAGE (came ++ more) (Err fault)))
IsToldBy came ended (Err losses.Closed) = (fault : HttpFault) × ((loss_of fault ≡ losses.Closed) × ((more : List ℕ) → NothingFollowsEnd ended more → IsDatedReply MOST_MESSAGE (came ++ more) (Err fault)))
IsToldBy came ended (Err loss) = AreWaitedFor came

-- without an answer what has come is kept, and more is rightly waited for
abbrev pub AnswerIsTold : List ℕ → Bool → Option Answer → List ℕ → Type 0
AnswerIsTold came ended None new = (new ≡ came) × ((IsTrue ended → ⊥) × AreWaitedFor came)
AnswerIsTold came ended (Some answer) new = IsToldBy came ended answer

-- what has come is judged before more is read: it settles the answer, and the connection is not called; or more is rightly waited for
abbrev pub IsJudgedFirst : List ℕ → Bool → Option Answer → Type 0 → Type 0
IsJudgedFirst came ended None IsUncalled = AreWaitedFor came
IsJudgedFirst came ended (Some answer) IsUncalled = AreWaitedFor came ⊎ (IsToldBy came ended answer × IsUncalled)
