-- Short: no plan keeps exactly where some entry ends before its need at the latest.
use Rattle.std.proofs.Common.{◌≡◌, ◌∙◌, ◌&&◌, ℕ, ◌<◌, true, false, Option, length, nat_lt, sym, ap, subst, arith, inl, inr}
use Rattle.std.proofs.lemmas.{Bool.cases_lt, Bool.Decides.nat_tests}
use Rattle.plan_forest.specs.{declared.entry.Entry.Entry, Over.chain, Over.is_over, Push.IsForest}
use Rattle.plan_forest.specs.Forest.{Forest, end_of, entry_at}
use Rattle.plan_forest.proofs.{Chains.cases_Option, Entries.entry_at_past}
use Rattle.plan_rule.specs.Reach.{reach}
use Rattle.plan_search.specs.Decides.{NoneKeeps, SomeKeeps}
use Rattle.plan_search.proofs.Deciding.{none_keeps, some_keeps}
use Rattle.plan_commands.specs.ReachLaws.{ShortLaw}
use Rattle.plan_commands.specs.ReachText.{binding, binding_reach, is_short, short_at}
use Rattle.plan_commands.proofs.Until.{binding_has, binding_least}

is_later : (s most need : ℕ) → (nat_lt s need && nat_lt most need) ≡ true → s < need
is_later s most need is = grind (arith, nat_tests)

is_before : (s most need : ℕ) → (nat_lt s need && nat_lt most need) ≡ true → most < need
is_before s most need is = grind (arith, nat_tests)

both : (s most need : ℕ) → s < need → most < need → (nat_lt s need && nat_lt most need) ≡ true
both s most need later before = grind (arith, nat_tests)

-- who is needed later is an entry
is_entry : (g : Forest) (s i : ℕ) → s < (entry_at g.entries i).need → i < length g.entries
is_entry g s i later = elim (cases_lt i (length g.entries)) [
  | inl within ↦ within
  | inr past ↦ absurd (let none : s < 0 = subst (λ (e : Entry). s < e.need) (entry_at_past g.entries i past) later in omega (arith, none))
]

short_keeps_none : (g : Forest) (s i : ℕ) → short_at g s i ≡ true → NoneKeeps g s
unfolding binding_reach is_over
short_keeps_none g s i is =
    let p : ℕ → Option ℕ = reach g.entries g.margin s (end_of g.entries) in
    let need = (entry_at g.entries i).need in
    cases_Option (binding p (chain g.entries i)).most (NoneKeeps g s)
    (λ none. absurd (let never : false ≡ true = sym (ap (λ (m : Option ℕ). is_short s m need) none) ∙ is in cc))
    (λ m some.
    let has = binding_has p (chain g.entries i) m some in
    let here : (nat_lt s need && nat_lt m need) ≡ true = sym (ap (λ (m : Option ℕ). is_short s m need) some) ∙ is in
    none_keeps g s has.0 i (record { over = has.1; later = is_later s m need here; most = m; reaches = has.2; short = is_before s m need here }))

none_short_keeps : (g : Forest) (s : ℕ) → IsForest g → ((i : ℕ) → i < length g.entries → short_at g s i ≡ false) → SomeKeeps g s
unfolding binding_reach is_over
none_short_keeps g s forest none = some_keeps g s forest (λ entry other pair.
    let p : ℕ → Option ℕ = reach g.entries g.margin s (end_of g.entries) in
    let need = (entry_at g.entries other).need in
    let least = binding_least p (chain g.entries other) entry pair.most pair.over pair.reaches in
    let below = pair.short in
    let less = least.2 in
    let is : short_at g s other ≡ true = ap (λ (m : Option ℕ). is_short s m need) least.1 ∙ both s least.0 need pair.later (omega (arith, below, less)) in
    let not : short_at g s other ≡ false = none other (is_entry g s other pair.later) in
    absurd cc)

pub short_law : ShortLaw
short_law g s forest = (λ i within is. short_keeps_none g s i is, none_short_keeps g s forest)
