-- Equal: what `==` says of entries and terms; and inventories that are the same at each index are the same. For `is_same` and its parts.
use Rattle.std.proofs.Common.{◌≡◌, ◌∙◌, ◌==◌, ◌↔◌, ℕ, ◌<◌, Bool, true, false, [], Option, Some, None, ap, length, refl, subst, sym, true≢false}
use Rattle.std.proofs.lemmas.{Bool.and_parts, Bool.eqb-true, List.ext_get_or}
use Rattle.std.specs.{Bool.beq, Cmp.Lexicographic.bytes_decides, Option.option_eq}
use Rattle.vault_inventory.specs.{contracts.terms.TermsEq.TheImpl.Laws.laws-law as terms_law, declared.terms.Terms.Terms}
use Rattle.vault_inventory.specs.Inventories.{Inventory, IsInventory, credential_at, empty_terms, terms_at}
use Rattle.vault_inventory.specs.contracts.terms.TermsPartialEq.TheImpl as terms_eq
use Rattle.plan_forest.specs.{Forest.entry_at, Forest.no_entry, contracts.entry.EntryEq.TheImpl.Laws.laws-law as entry_law, declared.entry.Entry.Entry, declared.entry.Kind.Kind}
use Rattle.plan_forest.specs.declared.entry.Kind.TheVariants.{Token, Lease}
use Rattle.plan_forest.specs.contracts.entry.EntryPartialEq.TheImpl as entry_eq
use Rattle.plan_forest.specs.contracts.entry.KindPartialEq.TheImpl as kind_eq
use Rattle.agent_standing.specs.code.Same.{IsAsLarge, IsSameAt}

-- ---- what `==` says

same_kind : (a b : Kind) → (kind_eq.ghosts).eq a b ≡ true → a ≡ b
same_kind Token Lease e = absurd (true≢false (sym e))
same_kind Lease Token e = absurd (true≢false (sym e))
same_kind _ _ e = refl

same_bool : (a b : Bool) → beq a b ≡ true → a ≡ b
same_bool true false e = absurd (true≢false (sym e))
same_bool false true e = absurd (true≢false (sym e))
same_bool _ _ e = refl

same_option : (a b : Option ℕ) → option_eq ◌==◌ a b ≡ true → a ≡ b
same_option None None e = refl
same_option (Some x) (Some y) e = ap (λ n. Some n) (eqb-true x y e)
same_option _ _ e = absurd (true≢false (sym e))

same_entry : (a b : Entry) → (entry_eq.ghosts).eq a b ≡ true → a ≡ b
same_entry a b e =
    let from_name = and_parts _ _ e in
    let from_kind = and_parts _ _ from_name.1 in
    let from_parent = and_parts _ _ from_kind.1 in
    let from_end = and_parts _ _ from_parent.1 in
    let from_renewable = and_parts _ _ from_end.1 in
    let from_step = and_parts _ _ from_renewable.1 in
    let from_ceiling = and_parts _ _ from_step.1 in
    let name = (bytes_decides a.name b.name).0 from_name.0 in
    let kind = same_kind a.kind b.kind from_kind.0 in
    let parent = same_option a.parent b.parent from_parent.0 in
    let last = eqb-true a.end b.end from_end.0 in
    let renewable = same_bool a.renewable b.renewable from_renewable.0 in
    let step = eqb-true a.step b.step from_step.0 in
    let ceiling = same_option a.ceiling b.ceiling from_ceiling.0 in
    let need = eqb-true a.need b.need from_ceiling.1 in
    λ i. record { name = name i; kind = kind i; parent = parent i; end = last i; renewable = renewable i; step = step i; ceiling = ceiling i; need = need i }

same_terms : (a b : Terms) → (terms_eq.ghosts).eq a b ≡ true → a ≡ b
same_terms a b e =
    let from_issued = and_parts _ _ e in
    let from_increment = and_parts _ _ from_issued.1 in
    let from_period = and_parts _ _ from_increment.1 in
    let from_max = and_parts _ _ from_period.1 in
    let issued = eqb-true a.issued b.issued from_issued.0 in
    let increment = same_option a.increment b.increment from_increment.0 in
    let period = eqb-true a.period b.period from_period.0 in
    let max_ttl = eqb-true a.max_ttl b.max_ttl from_max.0 in
    let from_explicit = and_parts _ _ from_max.1 in
    let explicit_max = eqb-true a.explicit_max b.explicit_max from_explicit.0 in
    let reissued = same_bool a.reissued b.reissued from_explicit.1 in
    λ i. record { issued = issued i; increment = increment i; period = period i; max_ttl = max_ttl i; explicit_max = explicit_max i; reissued = reissued i }

pub entry_decides : (a b : Entry) → ((entry_eq.ghosts).eq a b ≡ true) ↔ (a ≡ b)
entry_decides a b = (same_entry a b, λ e. subst (λ (x : Entry). (entry_eq.ghosts).eq a x ≡ true) e (entry_law.refl a))

pub terms_decide : (a b : Terms) → ((terms_eq.ghosts).eq a b ≡ true) ↔ (a ≡ b)
terms_decide a b = (same_terms a b, λ e. subst (λ (x : Terms). (terms_eq.ghosts).eq a x ≡ true) e (terms_law.refl a))

pub ruleset deciding = (entry_decides, terms_decide, bytes_decides)

-- ---- inventories

pub same_everywhere :
    (s t : Inventory) → IsInventory s → IsInventory t → IsAsLarge s t → ((i : ℕ) → i < length s.forest.entries → IsSameAt s t i) → s ≡ t
unfolding entry_at credential_at terms_at
same_everywhere s t here there large same =
    let entries = ext_get_or no_entry s.forest.entries t.forest.entries large.0 (λ k h. (same k h).0) in
    let credentials = ext_get_or [] s.credentials t.credentials (here.credentials ∙ large.0 ∙ sym there.credentials) (λ k h. (same k (subst (λ n. k < n) here.credentials h)).1.0) in
    let terms = ext_get_or empty_terms s.terms t.terms (here.terms ∙ large.0 ∙ sym there.terms) (λ k h. (same k (subst (λ n. k < n) here.terms h)).1.1) in
    λ i. record { forest = record { entries = entries i; margin = large.1 i }; credentials = credentials i; terms = terms i }

pub same_large : (s t : Inventory) → s ≡ t → IsAsLarge s t
same_large s t same = (ap (λ (x : Inventory). length x.forest.entries) same, ap (λ (x : Inventory). x.forest.margin) same)

pub same_at : (s t : Inventory) (i : ℕ) → s ≡ t → IsSameAt s t i
same_at s t i same = (
  ap (λ (x : Inventory). entry_at x.forest.entries i) same,
  (ap (λ (x : Inventory). credential_at x.credentials i) same, ap (λ (x : Inventory). terms_at x.terms i) same),
)
