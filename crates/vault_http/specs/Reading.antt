-- What reading a message from a source answers, and the count of failures over the reading.
use Rattle.std.specs.Prelude.{◌≡◌, ℕ, ◌+◌, ◌≤◌, ◌⊎◌, List, Option, Some, IfSome, Result, Ok, Err}
use Rattle.std.specs.Io.KnownBytes.{IsAtEnd}
use Rattle.base_device.specs.{declared.one_read.MoreFault.MoreFault, Failures.one_more, declared.limits.TheConstants.MOST_READS, Seen.Input, Whole.PassesReads}
use Rattle.base_device.specs.declared.one_read.MoreFault.TheVariants as more
use Rattle.vault_http.specs.{declared.http_fault.HttpFault.HttpFault, declared.http_fault.HttpFault.TheVariants.ReadFailed, declared.http_fault.HttpFault.TheVariants.TooLong, declared.http_fault.HttpFault.TheVariants.OutOfMemory}
use Rattle.vault_http.specs.{declared.dated_reply.DatedReply.DatedReply, declared.reply.Reply.Reply, declared.request.Request.Request, Dates.IsDatedReply, Holding.HoldsMessage, Holding.HandedNone}
use Rattle.vault_http.specs.{Messages.IsHttpReply, Messages.IsHttpRequest}
use Rattle.httparse.specs.Grammar.{HasNoRequest, HasNoResponse}

-- a read that gave nothing, as the fault of the message
abbrev pub more_fault : MoreFault → HttpFault
more_fault more.ReadFailed = ReadFailed
more_fault more.OutOfMemory = OutOfMemory

-- as many reads were made as are allowed, and more are needed: more was rightly waited for after what they handed out, and
-- where one read more is needed at most, that is for the end alone
pub record IsLate {A : Type 0} (HasNoHead : List ℕ → Type 0) (IsAnswer : List ℕ → Result A HttpFault → Type 0) (bytes : List ℕ) (left : Option (List ℕ)) (before now : ℕ) : Type 0 where
  pub passes : PassesReads before now
  pub none : HandedNone HasNoHead IsAnswer (Some bytes) left
  pub last : now ≤ 1 → IsAtEnd left

-- reading an input answers what the message's relation says of its bytes, unless a read failed, memory was wanting, or
-- more reads were needed than are allowed; `left` is what was not read
abbrev pub SettlesMessage : {A : Type 0} → (List ℕ → Type 0) → (List ℕ → Result A HttpFault → Type 0) → List ℕ → Option (List ℕ) → ℕ → ℕ → Result A HttpFault → Type 0
SettlesMessage HasNoHead IsAnswer bytes left before now (Err OutOfMemory) = Unit {0}
SettlesMessage HasNoHead IsAnswer bytes left before now (Err ReadFailed) = Unit {0}
SettlesMessage HasNoHead IsAnswer bytes left before now (Err TooLong) = IsAnswer bytes (Err TooLong) ⊎ IsLate HasNoHead IsAnswer bytes left before now
SettlesMessage HasNoHead IsAnswer bytes left before now answer = IsAnswer bytes answer

-- the same of an input before and after, where its bytes are known
abbrev pub SettlesFrom : {A : Type 0} → (List ℕ → Type 0) → (List ℕ → Result A HttpFault → Type 0) → Input → Input → Result A HttpFault → Type 0
SettlesFrom HasNoHead IsAnswer before now answer =
    IfSome before.remaining (λ bytes. SettlesMessage HasNoHead IsAnswer bytes now.remaining before.reads_left now.reads_left answer)

-- the same of a reply, of one with its date, and of a request, of at most so many bytes
abbrev pub SettlesReply : ℕ → Input → Input → Result Reply HttpFault → Type 0
SettlesReply max before now answer = SettlesFrom HasNoResponse (IsHttpReply max) before now answer

abbrev pub SettlesDated : ℕ → Input → Input → Result DatedReply HttpFault → Type 0
SettlesDated max before now answer = SettlesFrom HasNoResponse (IsDatedReply max) before now answer

abbrev pub SettlesRequest : ℕ → Input → Input → Result Request HttpFault → Type 0
SettlesRequest max before now answer = SettlesFrom HasNoRequest (IsHttpRequest max) before now answer

abbrev pub HandedNoReply : ℕ → Input → Input → Type 0
HandedNoReply max before now = HandedNone HasNoResponse (IsHttpReply max) before.remaining now.remaining

abbrev pub HandedNoDated : ℕ → Input → Input → Type 0
HandedNoDated max before now = HandedNone HasNoResponse (IsDatedReply max) before.remaining now.remaining

abbrev pub HandedNoRequest : ℕ → Input → Input → Type 0
HandedNoRequest max before now = HandedNone HasNoRequest (IsHttpRequest max) before.remaining now.remaining

-- where the input is handed out in as many reads as are allowed, and one more for its end, and holds a message, `TooLong`
-- is told of its bytes alone
abbrev pub HeldIsRead : {A : Type 0} → (List ℕ → Type 0) → (List ℕ → Result A HttpFault → Type 0) → Type 0
HeldIsRead {A} HasNoHead IsAnswer =
    (bytes : List ℕ) (left : Option (List ℕ)) (before now : ℕ) (message : A) → HoldsMessage IsAnswer bytes message → before ≤ MOST_READS + 1
    → SettlesMessage HasNoHead IsAnswer bytes left before now (Err TooLong) → IsAnswer bytes (Err TooLong)

-- one failure more where a read failed, and else none
abbrev pub CountsMessage : {A : Type 0} → Result A HttpFault → ℕ → ℕ → Type 0
CountsMessage (Ok x) before now = now ≡ before
CountsMessage (Err ReadFailed) before now = now ≡ one_more before
CountsMessage (Err fault) before now = now ≡ before
