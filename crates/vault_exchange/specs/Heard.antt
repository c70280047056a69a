-- What a reply comes to, for who keeps a watch.
-- Source: Vault, HTTP API, "HTTP status codes" (400, 403, 404 and 405 speak of the request; 412, 429, 472, 473 and 5xx of the
-- broker); that a reply which cannot be read counts as none is this project's own.
use Rattle.std.specs.Prelude.{ℕ, ◌==◌, ◌||◌, List, Bool, false, bytes_eq, Option, Some, None, Result, Ok, Err, if◌then◌else◌}
use Rattle.vault_exchange.specs.{Lookups.lookup_in, declared.heard.Heard.Heard, declared.heard.ToldTerms.ToldTerms}
use Rattle.vault_exchange.specs.declared.heard.Heard.TheVariants.{Told, Refused, Busy, Lost}
use Rattle.plan_forest.specs.declared.entry.Kind.{Kind}
use Rattle.plan_forest.specs.declared.entry.Kind.TheVariants.{Token, Lease}
use Rattle.vault_http.specs.declared.dated_reply.DatedReply.{DatedReply}
use Rattle.vault_json.specs.{declared.fault.ReplyFault.ReplyFault, declared.lookup.Lookup.Lookup, declared.renewed.Renewed.Renewed, declared.renewed.RenewedLease.RenewedLease, Lookup.never_ends_answer}
use Rattle.vault_json.specs.{Renewed.renew_lease_answer, Renewed.renew_self_answer}

-- a reply whose status is not 200
abbrev pub refused_by_status : {T : Type 0} → ℕ → Option ℕ → Heard T
refused_by_status status date =
    if status == 400 || (status == 403 || (status == 404 || status == 405)) then Refused status date else (if status == 429 then Busy else Lost)

-- what was told, if it was
abbrev pub told_with_date : {T : Type 0} → Option ℕ → Option T → Heard T
told_with_date date (Some x) = Told x date
told_with_date date None = Lost

-- ---- a renewal

abbrev pub renewed_of_token : Result Renewed ReplyFault → Option Renewed
renewed_of_token (Ok r) = Some r
renewed_of_token (Err fault) = None

-- of a lease, with the lease id that was asked
abbrev pub renewed_of_lease : List ℕ → Result RenewedLease ReplyFault → Option Renewed
renewed_of_lease id (Ok r) = if bytes_eq r.lease_id id then Some (record { seconds = r.seconds; renewable = r.renewable }) else None
renewed_of_lease id (Err fault) = None

abbrev pub renewed_in : Kind → List ℕ → List ℕ → Option Renewed
renewed_in Token id body = renewed_of_token (renew_self_answer body)
renewed_in Lease id body = renewed_of_lease id (renew_lease_answer body)

unfoldable pub renewed_by_reply : Kind → List ℕ → DatedReply → Heard Renewed
renewed_by_reply kind id d = if d.reply.status == 200 then told_with_date d.date (renewed_in kind id d.reply.body) else refused_by_status d.reply.status d.date

-- ---- a lookup

abbrev pub told_or_false : Result Bool ReplyFault → Bool
told_or_false (Ok b) = b
told_or_false (Err fault) = false

-- a lease never tells that it has no end
abbrev pub has_no_end : Kind → List ℕ → Bool
has_no_end Token body = told_or_false (never_ends_answer body)
has_no_end Lease body = false

abbrev pub looked_of : Bool → Result Lookup ReplyFault → Option ToldTerms
looked_of never (Ok lookup) = Some (record { lookup = lookup; never_ends = never })
looked_of never (Err fault) = None

abbrev pub looked_in : Kind → List ℕ → Option ToldTerms
looked_in kind body = looked_of (has_no_end kind body) (lookup_in kind body)

unfoldable pub looked_up_by_reply : Kind → DatedReply → Heard ToldTerms
looked_up_by_reply kind d = if d.reply.status == 200 then told_with_date d.date (looked_in kind d.reply.body) else refused_by_status d.reply.status d.date
