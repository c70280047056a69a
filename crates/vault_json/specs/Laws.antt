-- What one side writes, the other reads: laws of the definitions alone.
use Rattle.std.specs.Prelude.{◌≡◌, ◌↔◌, ℕ, ◌<◌, ◌≤◌, ◌^◌, List, Bool, IsUtf8, Ok, Some}
use Rattle.base_moment.specs.declared.moment.TheConstants.{LAST}
use Rattle.serde_json.specs.Data.{Data}
use Rattle.vault_json.specs.{Duration.duration_of_value, Duration.WritesDuration, Lookup.lookup_self_answer, Lookup.lookup_lease_answer, Renewed.renew_self_answer, Renewed.renew_lease_answer}
use Rattle.vault_json.specs.{Request.increment_answer, Request.lease_id_answer}
use Rattle.vault_json.specs.{Written.renew_text, Written.lease_text, Written.lookup_text, Written.renewed_self_text, Written.renewed_lease_text, Written.looked_self_text, Written.IsLookedLease}
use Rattle.vault_json.specs.{declared.lookup.Lookup.TheVariants.Token, declared.lookup.Lookup.TheVariants.Lease}

-- a duration is read exactly where it is written
abbrev pub DurationsAreRead : Type 0
DurationsAreRead = (d : Data) (seconds : ℕ) → (duration_of_value d ≡ Some seconds) ↔ WritesDuration d seconds

abbrev pub RenewedSelfIsRead : Type 0
RenewedSelfIsRead = (seconds : ℕ) (renewable : Bool) → seconds < 2 ^ 32
    → renew_self_answer (renewed_self_text seconds renewable) ≡ Ok (record { seconds = seconds; renewable = renewable })

abbrev pub RenewedLeaseIsRead : Type 0
RenewedLeaseIsRead = (id : List ℕ) (seconds : ℕ) (renewable : Bool) → IsUtf8 id → seconds < 2 ^ 32
    → renew_lease_answer (renewed_lease_text id seconds renewable) ≡ Ok (record { lease_id = id; seconds = seconds; renewable = renewable })

abbrev pub LookedSelfIsRead : Type 0
LookedSelfIsRead = (ttl created explicit_max : ℕ) (orphan renewable : Bool) (period : ℕ) → ttl < 2 ^ 32 → created ≤ LAST → explicit_max < 2 ^ 32 → period < 2 ^ 32
    → lookup_self_answer (looked_self_text ttl created explicit_max orphan renewable period) ≡ Ok (Token ttl created explicit_max orphan renewable period)

abbrev pub LookedLeaseIsRead : Type 0
LookedLeaseIsRead = (body id : List ℕ) (issued : ℕ) (renewable : Bool) (ttl : ℕ) → IsUtf8 id → issued ≤ LAST → ttl < 2 ^ 32 → IsLookedLease body id issued renewable ttl
    → lookup_lease_answer body ≡ Ok (Lease id issued renewable ttl)

abbrev pub RenewBodyIsRead : Type 0
RenewBodyIsRead = (step : ℕ) → step < 2 ^ 32 → increment_answer (renew_text step) ≡ Ok (Some step)

abbrev pub LeaseBodyIsRead : Type 0
LeaseBodyIsRead = (id : List ℕ) (step : ℕ) → IsUtf8 id → step < 2 ^ 32
    → (lease_id_answer (lease_text id step) ≡ Ok id) × (increment_answer (lease_text id step) ≡ Ok (Some step))

abbrev pub LookupBodyIsRead : Type 0
LookupBodyIsRead = (id : List ℕ) → IsUtf8 id → lease_id_answer (lookup_text id) ≡ Ok id
