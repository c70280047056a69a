-- Broker step: what a table answers to a request, and what it then is.
-- Source: Vault, "Tokens"; Vault, "Lease, renew, and revoke"; Vault, HTTP API `auth/token` and `sys/leases`. Faults by
-- number and the texts of errors are this project's own.
use Rattle.std.specs.Prelude.{◌≡◌, ℕ, ◌-◌, min, Bool, true, false, List, Option, Some, None, Result, Ok, Err, is_none, if◌then◌else◌}
use Rattle.vault_inventory.specs.declared.limits.TheConstants.{SPAN_MAX}
use Rattle.vault_http.specs.declared.request.Request.{Request}
use Rattle.vault_json.specs.Written.{renewed_self_text, renewed_lease_text, looked_self_text, errors_text, IsLookedLease}
use Rattle.broker_rule.specs.{declared.row.BrokerRow.BrokerRow, declared.call.ApiCall.ApiCall, declared.fault.Fault.Fault, declared.refusal.Refusal.Refusal, declared.served.Served.Served, Table.BrokerTable}
use Rattle.broker_rule.specs.{Renewing.renewal_by_broker, Renewing.rows_after, Subject.Subject, Subject.subject, Sweep.swept}
use Rattle.broker_rule.specs.declared.call.ApiCall.TheVariants.{RenewSelf, RenewLease, LookupSelf, LookupLease}
use Rattle.broker_rule.specs.declared.refusal.Refusal.TheVariants.{UnsupportedPath, UnsupportedMethod}
use Rattle.broker_rule.specs.Faults.{fault_at, next_number, without_fault}
use Rattle.broker_rule.specs.Request.{allows, call_of, is_renewal, status_of_refusal, text_of_refusal}
use Rattle.broker_rule.specs.declared.fault.Fault.TheVariants as faults
use Rattle.broker_rule.specs.declared.served.Served.TheVariants as served

-- what is answered: a refusal, what a call says of a row, or nothing
pub data BrokerAnswer : Type 0 where
  refuses : Refusal → BrokerAnswer
  tells : ApiCall → BrokerRow → BrokerAnswer
  drops : BrokerAnswer

-- an answer, and the table after it
pub record BrokerOutcome : Type 0 where
  pub answer : BrokerAnswer
  pub table : BrokerTable

abbrev pub is_drop : Option Fault → Bool
is_drop None = false
is_drop (Some (faults.Short seconds)) = false
is_drop (Some faults.Drop) = true
is_drop (Some faults.Deny) = false

-- what a lookup answers
abbrev pub lookup_answer : ApiCall → Result Subject Refusal → BrokerAnswer
lookup_answer call (Err refusal) = refuses refusal
lookup_answer call (Ok s) = tells call s.row

-- what a renewal answers; a refusal is sent whatever the fault
abbrev pub renewal_answer : ApiCall → Option Fault → Result BrokerRow Refusal → BrokerAnswer
renewal_answer call fault (Err refusal) = refuses refusal
renewal_answer call fault (Ok row) = if is_drop fault then drops else tells call row

-- a renewal request is counted, and its fault is used
abbrev pub counted_renewal : BrokerTable → ℕ → ApiCall → Option Fault → Result BrokerRow Refusal → BrokerOutcome
counted_renewal l number call fault found = record {
  answer = renewal_answer call fault found;
  table = record { rows = rows_after l.rows found; faults = without_fault l.faults number; count = number };
}

unfoldable pub renewal_outcome : BrokerTable → ℕ → ApiCall → Request → BrokerOutcome
renewal_outcome l t call r =
    counted_renewal l (next_number l.count) call (fault_at l.faults (next_number l.count)) (renewal_by_broker l.rows t call r (fault_at l.faults (next_number l.count)))

abbrev pub by_call : BrokerTable → ℕ → Request → Option ApiCall → BrokerOutcome
by_call l t r None = record { answer = refuses UnsupportedPath; table = l }
by_call l t r (Some call) =
    if allows call r.method then (if is_renewal call then renewal_outcome l t call r else record { answer = lookup_answer call (subject l.rows call r); table = l })
    else record { answer = refuses UnsupportedMethod; table = l }

abbrev pub after_sweep : BrokerTable → ℕ → BrokerTable
after_sweep l t = record { rows = swept t l.rows; faults = l.faults; count = l.count }

-- the Broker step
unfoldable pub broker_step : BrokerTable → ℕ → Request → BrokerOutcome
broker_step l t r = by_call (after_sweep l t) t r (call_of r.path)

-- ---- the text of an answer

-- the seconds to an end, at most the greatest duration; a grant has never more
abbrev pub seconds_to : ℕ → ℕ → ℕ
seconds_to end t = min (end - t) SPAN_MAX

-- the body of a reply that speaks of a row
unfoldable pub IsReplyBody : ApiCall → BrokerRow → ℕ → List ℕ → Type 0
IsReplyBody RenewSelf row t body = body ≡ renewed_self_text (seconds_to row.end t) row.renewable
IsReplyBody RenewLease row t body = body ≡ renewed_lease_text row.credential (seconds_to row.end t) row.renewable
IsReplyBody LookupSelf row t body = body ≡ looked_self_text (seconds_to row.end t) row.issued row.explicit_max (is_none row.parent) row.renewable row.period
IsReplyBody LookupLease row t body = IsLookedLease body row.credential row.issued row.renewable (seconds_to row.end t)

-- a reply that refuses a request
abbrev pub Refuses : Refusal → Served → Type 0
Refuses refusal (served.Reply reply) = (reply.status ≡ status_of_refusal refusal) × (reply.body ≡ errors_text (text_of_refusal refusal))
Refuses refusal served.Dropped = ⊥

-- a reply that speaks of a row
abbrev pub TellsRow : ℕ → ApiCall → BrokerRow → Served → Type 0
TellsRow t call row (served.Reply reply) = (reply.status ≡ 200) × IsReplyBody call row t reply.body
TellsRow t call row served.Dropped = ⊥

-- no reply
abbrev pub DropsReply : Served → Type 0
DropsReply (served.Reply reply) = ⊥
DropsReply served.Dropped = Unit {0}

-- a reply, or none, that says an answer
abbrev pub SaysAnswer : ℕ → BrokerAnswer → Served → Type 0
SaysAnswer t (refuses refusal) served = Refuses refusal served
SaysAnswer t (tells call row) served = TellsRow t call row served
SaysAnswer t drops served = DropsReply served
