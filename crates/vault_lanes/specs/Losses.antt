-- Why a request has no answer.
-- Source: this project's own.
use Rattle.std.specs.Prelude.{ℕ, ◌==◌, Result, if◌then◌else◌}
use Rattle.vault_lanes.specs.declared.loss.Loss.{Loss}
use Rattle.vault_lanes.specs.declared.loss.Loss.TheVariants.{Closed, Reply, Status}
use Rattle.vault_http.specs.{declared.dated_reply.DatedReply.DatedReply, declared.http_fault.HttpFault.HttpFault}
use Rattle.vault_http.specs.declared.http_fault.HttpFault.TheVariants as https

-- what came of one request: a reply with its date, or why there is none
abbrev pub Answer : Type 0
Answer = Result DatedReply Loss

-- bytes that are no reply: the input ended too soon, or what came cannot be read
abbrev pub loss_of : HttpFault → Loss
loss_of https.Truncated = Closed
loss_of https.ReadFailed = Closed
loss_of fault = Reply

-- why a reply with that status counts as none, where it does
abbrev pub lost_by : ℕ → Loss
lost_by status = if status == 200 then Reply else Status status
