-- Why a request is lost at a stage: for `Lane` and `Course`.
use Rattle.std.proofs.Common.{◌≡◌, ℕ, ◌+◌, ◌^◌, ◌<◌, ◌≤◌, arith, inr, List, [], ◌++◌, Bool, refl, sym, subst, ◌∙◌, Result, Ok, Err, None, Some}
use Rattle.vault_lanes.specs.{Allowed.most_reads, Losses.Answer, Stages.reads_with, declared.allowance.Allowance.Allowance, declared.stage.RequestStage.RequestStage}
use Rattle.vault_lanes.specs.Lanes.{IsCounted, IsToldBy, NothingFollowsEnd, ReplyIsRead, RequestIsSettled}
use Rattle.vault_lanes.specs.declared.stage.RequestStage.TheVariants.{Coming, Connecting}
use Rattle.vault_lanes.specs.declared.loss.Loss.TheVariants as losses
use Rattle.vault_http.specs.{Dates.IsDatedReply, Messages.UnlessMemory, declared.dated_reply.DatedReply.DatedReply, declared.http_fault.HttpFault.HttpFault, declared.known.TheConstants.MOST_MESSAGE}
use Rattle.vault_http.specs.declared.http_fault.HttpFault.TheVariants as https

-- what settles the answer, whatever follows, tells it
module _ (came : List ℕ) (ended : Bool) where
  pub told_as : (read : Result DatedReply HttpFault) (said : Answer) → ReplyIsRead read said
      → ((more : List ℕ) → NothingFollowsEnd ended more → UnlessMemory read (IsDatedReply MOST_MESSAGE (came ++ more) read)) → IsToldBy came ended said
  told_as (Ok dated) said is h = subst (IsToldBy came ended) (sym is) h
  told_as (Err https.Truncated) said is h = subst (IsToldBy came ended) (sym is) (https.Truncated, (refl, h))
  told_as (Err https.ReadFailed) said is h = subst (IsToldBy came ended) (sym is) (https.ReadFailed, (refl, h))
  told_as (Err https.BadHead) said is h = subst (IsToldBy came ended) (sym is) (https.BadHead, (refl, h))
  told_as (Err https.BadLength) said is h = subst (IsToldBy came ended) (sym is) (https.BadLength, (refl, h))
  told_as (Err https.BadChunk) said is h = subst (IsToldBy came ended) (sym is) (https.BadChunk, (refl, h))
  told_as (Err https.TooLong) said is h = subst (IsToldBy came ended) (sym is) (https.TooLong, (refl, h))
  told_as (Err https.TwoLengths) said is h = subst (IsToldBy came ended) (sym is) (https.TwoLengths, (refl, h))
  told_as (Err https.OutOfMemory) said is h = absurd is

-- it is at the stage at which it was
pub read_counted : (a : Allowance) (now : ℕ) (stage : RequestStage) (read : Result DatedReply HttpFault) (said : Answer) → ReplyIsRead read said → IsCounted a now stage (Some said) stage
read_counted a now stage (Ok dated) said is = subst (λ s. IsCounted a now stage (Some s) stage) (sym is) refl
read_counted a now stage (Err https.OutOfMemory) said is = absurd is
read_counted a now stage (Err _) said is = subst (λ s. IsCounted a now stage (Some s) stage) (sym is) refl

-- an answer settles a request of which all was sent
pub settled_by : (a : Allowance) (now : ℕ) (old new : RequestStage) (said : Answer) → (old ≡ Connecting → ⊥) → IsCounted a now old (Some said) new → RequestIsSettled a now new [] (Some said)
settled_by a now old new (Ok dated) sent h = refl
settled_by a now old new (Err losses.Reply) sent h = refl
settled_by a now old new (Err losses.Closed) sent h = λ e. sent (sym h ∙ e)
settled_by a now old new (Err losses.Timeout) sent h = inr (subst (λ s. most_reads a ≤ reads_with s) (sym h.1) h.0)
settled_by a now old new (Err _) sent h = absurd h

-- one that goes on is read once more
pub counted_more : (a : Allowance) (now counter : ℕ) (last old new : RequestStage) → old ≡ last → counter < reads_with last → IsCounted a now old None new → most_reads a < 2 ^ 64 → counter + 1 < reads_with new
counted_more a now counter last old new same many h fits =
    let more : counter < reads_with old = subst (λ s. counter < reads_with s) (sym same) many in
    let few : reads_with old < most_reads a = h.0 in
    subst (λ s. counter + 1 < reads_with s) (sym h.1) (omega (arith, more, few, fits))

pub coming_on : (reads since : ℕ) → Coming reads since ≡ Connecting → ⊥
coming_on reads since e = cc
