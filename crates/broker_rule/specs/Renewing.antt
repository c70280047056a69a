-- A renewal: the end that it gives, and what becomes of the rows.
-- Source: Vault, "Lease, renew, and revoke" (the increment counts from the renewal; maximum TTL); Vault, "Tokens" (period,
-- explicit max TTL). A broker renews with a margin of one second: a row that a sweep at the moment of the request has kept
-- is alive, and so is each row over it.
use Rattle.std.specs.Prelude.{ℕ, ◌+◌, ◌==◌, min, Bool, true, false, List, map, Option, Some, None, Result, Ok, Err, bytes_eq, if◌then◌else◌}
use Rattle.plan_forest.specs.Renewal.{capped}
use Rattle.vault_http.specs.declared.request.Request.{Request}
use Rattle.broker_rule.specs.{declared.row.BrokerRow.BrokerRow, declared.call.ApiCall.ApiCall, declared.fault.Fault.Fault, declared.refusal.Refusal.Refusal, Subject.Subject, Subject.subject}
use Rattle.broker_rule.specs.declared.fault.Fault.TheVariants.{Short, Drop, Deny}
use Rattle.broker_rule.specs.declared.refusal.Refusal.TheVariants.{PermissionDenied, NotRenewable}

-- the increment that is asked for where it is there and not 0, else the row's own step
abbrev pub asked_or : ℕ → Option ℕ → ℕ
asked_or step None = step
asked_or step (Some increment) = if increment == 0 then step else increment

-- the period where it is not 0, else that
unfoldable pub step_of_row : BrokerRow → Option ℕ → ℕ
step_of_row row increment = if row.period == 0 then asked_or row.step increment else row.period

-- a grant that a fault shortens
abbrev pub shortened : Option Fault → ℕ → ℕ → ℕ
shortened None t end = end
shortened (Some (Short seconds)) t end = min end (t + seconds)
shortened (Some Drop) t end = end
shortened (Some Deny) t end = end

-- the end that a renewal at t gives: by the renewal rule, changed by the request's fault
unfoldable pub new_end : Option Fault → ℕ → BrokerRow → Option ℕ → ℕ
new_end fault t row increment = shortened fault t (capped row.ceiling (t + step_of_row row increment))

-- the row with its new end, or why it is not renewed
abbrev pub granted_row : Option Fault → ℕ → Result Subject Refusal → Result BrokerRow Refusal
granted_row fault t (Err refusal) = Err refusal
granted_row fault t (Ok s) = if s.row.renewable then Ok (record s.row { end = new_end fault t s.row s.increment }) else Err NotRenewable

abbrev pub is_deny : Option Fault → Bool
is_deny None = false
is_deny (Some (Short seconds)) = false
is_deny (Some Drop) = false
is_deny (Some Deny) = true

-- what a renewal request with that fault comes to
unfoldable pub renewal_by_broker : List BrokerRow → ℕ → ApiCall → Request → Option Fault → Result BrokerRow Refusal
renewal_by_broker rows t call r fault = if is_deny fault then Err PermissionDenied else granted_row fault t (subject rows call r)

-- the rows, that of the given name replaced
unfoldable pub with_row : List BrokerRow → BrokerRow → List BrokerRow
with_row rows row = map (λ r. if bytes_eq r.name row.name then row else r) rows

-- the rows after a renewal request
abbrev pub rows_after : List BrokerRow → Result BrokerRow Refusal → List BrokerRow
rows_after rows (Err refusal) = rows
rows_after rows (Ok row) = with_row rows row
