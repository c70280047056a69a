-- How often a connection has failed, and what a request comes to then.
-- Source: this project's own.
use Rattle.std.specs.Prelude.{◌≡◌, ℕ, ◌+◌, ◌⊎◌, List, ◌++◌, Option, Some, None, IfSome, Result, Ok, Err}
use Rattle.base_device.specs.declared.tried.Tried.{Tried}
use Rattle.base_device.specs.declared.tried.Tried.TheVariants.{Done, Waits, Failed}
use Rattle.vault_lanes.specs.{Losses.Answer, Losses.loss_of, declared.loss.Loss.Loss, declared.reason.ConnectReason.ConnectReason}
use Rattle.vault_lanes.specs.declared.loss.Loss.TheVariants as losses
use Rattle.vault_http.specs.{Dates.IsDatedReply, declared.http_fault.HttpFault.HttpFault, declared.known.TheConstants.MOST_MESSAGE}

-- it has failed so often more, where that is known
abbrev pub FailsMore : ℕ → Option ℕ → Option ℕ → Type 0
FailsMore more before now = IfSome before (λ count. now ≡ Some (more + count))

-- a call that failed is one failure more
abbrev pub failures_in : Tried → ℕ
failures_in (Done n) = 0
failures_in Waits = 0
failures_in Failed = 1

-- what came before and all that comes yet ends too soon for a reply
abbrev pub AreCut : List ℕ → Option (List ℕ) → Type 0
AreCut old remaining = IfSome remaining (λ bytes. (fault : HttpFault) × ((loss_of fault ≡ losses.Closed) × IsDatedReply MOST_MESSAGE (old ++ bytes) (Err fault)))

-- no failure is waited for, and nothing else is taken for one: who has no connection found that it failed, for this reason, and so
-- did who was closed, unless the reply is cut
abbrev pub FailsAs : List ℕ → Option (List ℕ) → ConnectReason → Option Answer → Option ℕ → Option ℕ → Type 0
FailsAs old remaining reason None before now = FailsMore 0 before now
FailsAs old remaining reason (Some (Ok dated)) before now = FailsMore 0 before now
FailsAs old remaining reason (Some (Err (losses.Connect why))) before now = FailsMore 1 before now × (why ≡ reason)
FailsAs old remaining reason (Some (Err losses.Timeout)) before now = FailsMore 0 before now
FailsAs old remaining reason (Some (Err losses.Closed)) before now = FailsMore 1 before now ⊎ (FailsMore 0 before now × AreCut old remaining)
FailsAs old remaining reason (Some (Err losses.Reply)) before now = FailsMore 0 before now
FailsAs old remaining reason (Some (Err (losses.Status status))) before now = FailsMore 0 before now

-- the answer where the sending is over with a loss
abbrev pub answer_of_sending : Result Unit Loss → Option Answer
answer_of_sending (Ok sent) = None
answer_of_sending (Err loss) = Some (Err loss)
