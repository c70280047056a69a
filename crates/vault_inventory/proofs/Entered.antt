-- Entered: what holds of an inventory whatever tables it was read from: what its margin gives it and each table keeps.
use Rattle.std.proofs.Common.{◌≡◌, ℕ, ◌≤◌, ◌&&◌, Bool, true, false, cond, List, Some, None, Option, Result, Ok, Err, IfSome, nat_le, refl, subst, arith, unwrap_or}
use Rattle.std.proofs.lemmas.{Bool.and_parts, Bool.Decides.nat_tests}
use Rattle.std.proofs.Math.IntN.{pos, negsuc}
use Rattle.toml.specs.Data.{string, integer, Data, Members, no_items, get_member}
use Rattle.plan_forest.specs.declared.forest.TheConstants.{MARGIN_MAX}
use Rattle.vault_inventory.specs.{declared.limits.TheConstants.SPAN_MAX, declared.limits.TheConstants.SYSTEM_MAX, declared.fault.InvFault.InvFault, declared.fault.InvFault.TheVariants.BadValue, declared.key.Key.Key}
use Rattle.vault_inventory.specs.{Durations.duration_of_text, Keys.top_keys, Keys.key_text, Intake.Intake, Intake.empty_intake}
use Rattle.vault_inventory.specs.declared.key.Key.TheVariants.{SystemMax, Margin, Token, Lease}
use Rattle.vault_inventory.specs.Languages.{Language, strict, full}
use Rattle.vault_inventory.specs.Values.{if_within, in_units, only, read_if, span, tables, value_at, whole}
use Rattle.vault_inventory.specs.Inventory.{token_entered, lease_entered, entered_by, intake_of}
use Rattle.vault_inventory.proofs.{Chains.bind_ok, Taken.KeepsIt, Taken.all_keep}

-- ---- a number of a range, or the one that stands for it where it is absent

pub within_test : (m n : ℕ) → nat_le m n ≡ true → m ≤ n
within_test m n h = grind (arith, nat_tests)

abbrev pub Within : ℕ → ℕ → ℕ → Type 0
Within low high n = (low ≤ n) × (n ≤ high)

ranged : (low high n : ℕ) (b : Bool) → (b ≡ true → Within low high n) → IfSome (cond b (Some n) None) (Within low high)
ranged low high n true h = h refl
ranged low high n false h = tt

both_tests : (low high n : ℕ) → nat_le low n && nat_le n high ≡ true → Within low high n
both_tests low high n h =
    let parts = and_parts (nat_le low n) (nat_le n high) h in
    (within_test low n parts.0, within_test n high parts.1)

whole_is : (low high : ℕ) (d : Data) → IfSome (whole low high d) (Within low high)
whole_is low high (integer (pos n)) = ranged low high n (nat_le low n && nat_le n high) (both_tests low high n)
whole_is low high (integer (negsuc n)) = tt
whole_is low high _ = tt

span_text : (l : Language) (low high : ℕ) (s : List ℕ) → IfSome (in_units l low high s) (Within low high)
span_text strict low high s = tt
span_text full low high s = of_range (duration_of_text s)
  where
    of_range : (o : Option ℕ) → IfSome (if_within low high o) (Within low high)
    of_range None = tt
    of_range (Some n) = ranged low high n (nat_le low n && nat_le n high) (both_tests low high n)

span_is : (l : Language) (low high : ℕ) (d : Data) → IfSome (span l low high d) (Within low high)
span_is l low high (string s) = span_text l low high s
span_is l low high (integer z) = whole_is low high (integer z)
span_is l low high _ = tt

abbrev taken : Option ℕ → Key → Option ℕ → Result (Option ℕ) InvFault
taken place key o = elim o [ Some x ↦ Ok (Some x) | None ↦ Err (BadValue place key) ]

found_is : (P : ℕ → Type 0) (place : Option ℕ) (key : Key) (absent : ℕ) (o found : Option ℕ) → IfSome o P → taken place key o ≡ Ok found → P (unwrap_or found absent)
found_is P place key absent None found h e = absurd cc
found_is P place key absent (Some n) found h e = let same : Some n ≡ found = cc in subst (λ m. P (unwrap_or m absent)) same h

read_is : (l : Language) (low high absent : ℕ) → Within low high absent → (place : Option ℕ) (key : Key) (o : Option Data) (found : Option ℕ) → read_if (span l low high) place key o ≡ Ok found → Within low high (unwrap_or found absent)
read_is l low high absent k place key None found e = let same : None ≡ found = cc in subst (λ m. Within low high (unwrap_or m absent)) same k
read_is l low high absent k place key (Some d) found e = found_is (Within low high) place key absent (span l low high d) found (span_is l low high d) e

pub within_read : (l : Language) (low high absent : ℕ) → Within low high absent → (place : Option ℕ) (key : Key) (ms : Members) (found : Option ℕ) → value_at (span l low high) place key ms ≡ Ok found → Within low high (unwrap_or found absent)
within_read l low high absent k place key ms found e = read_is l low high absent k place key (get_member (key_text key) ms) found e

-- ---- all tables

pub intake_keeps : (First Rest : Intake → Type 0) → ((margin : ℕ) → Within 1 MARGIN_MAX margin → First (empty_intake margin)) → ((s : Intake) → First s → Rest s) →
    (l : Language) → ((system_max : ℕ) → KeepsIt First (token_entered l system_max)) → ((system_max : ℕ) → KeepsIt Rest (lease_entered l system_max)) →
    (ms : Members) (t : Intake) → intake_of l ms ≡ Ok t → Rest t
unfolding intake_of
intake_keeps First Rest begins passes l tokens_keep leases_keep ms t e =
    bind_ok (only top_keys None ms) _ t e (λ known k e1.
    bind_ok (value_at (span l 1 SPAN_MAX) None SystemMax ms) _ t e1 (λ system_max a e2.
    bind_ok (value_at (span l 1 MARGIN_MAX) None Margin ms) _ t e2 (λ margin b e3.
    bind_ok (value_at tables None Token ms) _ t e3 (λ tokens c e4.
    bind_ok (value_at tables None Lease ms) _ t e4 (λ leases d e5.
    bind_ok (entered_by (token_entered l (unwrap_or system_max SYSTEM_MAX)) Token (empty_intake (unwrap_or margin 1)) (unwrap_or tokens no_items)) _ t e5 (λ u f e6.
    let most = unwrap_or system_max SYSTEM_MAX in
    let first = begins (unwrap_or margin 1) (within_read l 1 MARGIN_MAX 1 (omega arith, omega arith) None Margin ms margin b) in
    let second = all_keep First (token_entered l most) (tokens_keep most) Token (empty_intake (unwrap_or margin 1)) u (unwrap_or tokens no_items) first f in
    all_keep Rest (lease_entered l most) (leases_keep most) Lease u t (unwrap_or leases no_items) (passes u second) e6))))))
