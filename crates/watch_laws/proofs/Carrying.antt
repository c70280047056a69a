-- Carrying: what a change of what is watched makes of a partial outage: lanes are kept as long as they would have been, and whoever waits before
-- an entry waited there, or comes to. For the laws of partial outages.
use Rattle.std.proofs.Common.{◌≡◌, ◌⊎◌, ◌∙◌, ℕ, ◌+◌, ◌≤◌, Bool, true, not, ◌&&◌, Option, Some, None, length, refl, sym, ap, arith, inl, inr}
use Rattle.std.proofs.Math.Nat.{mul-add, mul-le-mul_left}
use Rattle.std.proofs.lemmas.Bool.{and_from, and_parts, cases_Bool}
use Rattle.watch_machine.specs.{Change.former_at, History.Changed, History.IsChanged, State.WatchState, State.track_at}
use Rattle.watch_laws.specs.Outage.{how_many}
use Rattle.watch_laws.specs.Partial.{IsCarried, Partial, comes_before_over, index_over, keeps_lane, stands_before, stood_before, total, waiting_before, waits_before}
use Rattle.watch_laws.proofs.{Bases.kept_flag, Spans.kept_by, Spans.kept_is}
use Rattle.watch_laws.proofs.Counting.{at_some, either, moved_pass}

-- what is as it was
pub late_same : (o p : Partial) (s : WatchState) (c : Changed) → IsCarried o p s c → p.late ≡ o.late
late_same o p s c carried = ap (λ (x : Partial). x.late) carried.rest

pub long_same : (o p : Partial) (s : WatchState) (c : Changed) → IsCarried o p s c → p.patience + p.late ≡ o.patience + o.late
long_same o p s c carried = ap (λ (x : Partial). x.patience + x.late) carried.rest

pub short_same : (o p : Partial) (s : WatchState) (c : Changed) → IsCarried o p s c → p.quick + p.late ≡ o.quick + o.late
short_same o p s c carried = ap (λ (x : Partial). x.quick + x.late) carried.rest

module _ (old : WatchState) (c : Changed) (h : IsChanged old c) where
  -- whoever waits before an entry comes to, or waited there
  waits_over : (i j : ℕ) → waits_before (index_over c i) c.state j ≡ true → (comes_before_over i old c j ≡ true) ⊎ (at_some (waits_before i old) (former_at c.was j) ≡ true)
  waits_over i j waits = by (former_at c.was j) refl where
    parts : (stands_before (index_over c i) c.state j ≡ true) × (not (track_at c.state j).out ≡ true)
    parts = and_parts (stands_before (index_over c i) c.state j) (not (track_at c.state j).out) waits

    by : (was : Option ℕ) → former_at c.was j ≡ was → (stands_before (index_over c i) c.state j && not (stood_before i old was) ≡ true) ⊎ (at_some (waits_before i old) was ≡ true)
    by None said = inl (and_from (stands_before (index_over c i) c.state j) true parts.0 refl)
    by (Some k) said =
        elim (cases_Bool (stands_before i old k)) as (λ _. (stands_before (index_over c i) c.state j && not (stands_before i old k) ≡ true) ⊎ (waits_before i old k ≡ true)) [
          | inl stood ↦ inr (and_from (stands_before i old k) (not (track_at old k).out) stood (ap not (sym (kept_flag old c h k j said)) ∙ parts.1))
          | inr none ↦ inl (and_from (stands_before (index_over c i) c.state j) (not (stands_before i old k)) parts.0 (ap not none))
        ]

  -- those of one kind that pass a test after a change passed one before it, or come to
  kind_over :
      (kind' kind : ℕ → Bool) → ((i j : ℕ) → former_at c.was j ≡ Some i → kind' j ≡ kind i) → (test' came test : ℕ → Bool) →
      ((j : ℕ) → test' j ≡ true → (came j ≡ true) ⊎ (at_some test (former_at c.was j) ≡ true)) →
      how_many (length c.forest.entries) (λ j. kind' j && test' j) ≤ how_many (length c.forest.entries) (λ j. kind' j && came j) + how_many (length old.forest.entries) (λ i. kind i && test i)
  kind_over kind' kind same test' came test each' =
      let n = length c.forest.entries in
      let parts = either n (λ j. kind' j && test' j) (λ j. kind' j && came j) (λ j. at_some (λ i. kind i && test i) (former_at c.was j)) (λ j low both. by j (and_parts (kind' j) (test' j) both)) in
      let moved = moved_pass n (length old.forest.entries) (λ j. former_at c.was j) (λ i. kind i && test i) h.may.within h.may.once in
      omega (arith, parts, moved) where
        was_kind : (j : ℕ) → kind' j ≡ true → (was : Option ℕ) → former_at c.was j ≡ was → at_some test was ≡ true → at_some (λ i. kind i && test i) was ≡ true
        was_kind j is None said passes' = absurd cc
        was_kind j is (Some i) said passes' = and_from (kind i) (test i) (sym (same i j said) ∙ is) passes'

        by : (j : ℕ) → (kind' j ≡ true) × (test' j ≡ true) → (kind' j && came j ≡ true) ⊎ (at_some (λ i. kind i && test i) (former_at c.was j) ≡ true)
        by j both = elim (each' j both.1) as (λ _. (kind' j && came j ≡ true) ⊎ (at_some (λ i. kind i && test i) (former_at c.was j) ≡ true)) [
          | inl comes ↦ inl (and_from (kind' j) (came j) both.0 comes)
          | inr was ↦ inr (was_kind j both.0 (former_at c.was j) refl was)
        ]

  -- so they keep lanes no longer, all in all
  pub fewer_over :
      (o p : Partial) → IsCarried o p old c → (i : ℕ) →
      waiting_before p (length c.forest.entries) (index_over c i) c.state ≤ waiting_before o (length old.forest.entries) i old + total (length c.forest.entries) (keeps_lane p) (comes_before_over i old c)
  fewer_over o p carried i =
      let n = length c.forest.entries in
      let m = length old.forest.entries in
      let long = o.patience + o.late in
      let short = o.quick + o.late in
      let now = waits_before (index_over c i) c.state in
      let came = comes_before_over i old c in
      let was = waits_before i old in
      let is = long_same o p old c carried in
      let is' = short_same o p old c carried in
      let after = kept_by p long short n now is is' in
      let comes = kept_by p long short n came is is' in
      let before = kept_is o m was in
      let hung = kind_over p.hung o.hung carried.hung now came was (waits_over i) in
      let others = kind_over (λ j. not (p.hung j)) (λ j. not (o.hung j)) (λ k j said. ap not (carried.hung k j said)) now came was (waits_over i) in
      let a = mul-le-mul_left long hung in
      let b = mul-le-mul_left short others in
      let x = mul-add long (how_many n (λ j. p.hung j && came j)) (how_many m (λ j. o.hung j && was j)) in
      let y = mul-add short (how_many n (λ j. not (p.hung j) && came j)) (how_many m (λ j. not (o.hung j) && was j)) in
      omega (arith, after, comes, before, a, b, x, y)
