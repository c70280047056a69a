-- The next moment after a wake-up, where no pair is Unkeepable: it comes late enough, lies before LAST, comes in time for
-- every entry, and is forced.
use Rattle.std.proofs.Common.{◌≡◌, ℕ, ◌+◌, ◌-◌, ◌<◌, ◌≤◌, ◌⊎◌, ◌&&◌, true, false, List, Option, Some, None, length, max, min, nat_le, option_map, refl, sym, ap, ◌∙◌, subst, arith, inl, inr}
use Rattle.std.proofs.lemmas.{Bool.cases_Bool, Bool.cases_lt, Bool.cond-true, Bool.cond-false, Bool.Decides.nat_tests}
use Rattle.base_moment.specs.declared.moment.TheConstants.{LAST}
use Rattle.plan_forest.specs.{declared.entry.Entry.Entry, Carried.carried, Forest.Forest, Forest.entry_at, Push.IsForest, Renewal.capped, Renewal.renewal}
use Rattle.plan_forest.proofs.{Carrying.and_left, Carrying.and_right, Carrying.carried_is_of, Entries.entry_at_past}
use Rattle.plan_rule.specs.{Forced.Forced, Forced.bound, Forced.latest_end, Unkeepable.AllKeepable, Reach.reach, Reach.reach_of, Schedule.IsNextMoment}
use Rattle.plan_rule.proofs.{Keeping.end_below_bound, Lists.need_within}

-- an entry that can be led to what it carries: it is renewable, its end leaves room for a renewal, and its ceiling lies
-- no lower than that
pub record CanBeLed (g : Forest) (s : ℕ) (ends : ℕ → ℕ) (i : ℕ) : Type 0 where
  pub renewable : (entry_at g.entries i).renewable ≡ true
  pub room : s + g.margin ≤ ends i
  pub ceiling : (c : ℕ) → (entry_at g.entries i).ceiling ≡ Some c → carried g.entries s i ≤ c

-- the reach of an entry that leaves no such room is its end, and its ceiling where that comes later
reach_fixed : (es : List Entry) (margin s : ℕ) (ends : ℕ → ℕ) (i : ℕ) → (entry_at es i).renewable && nat_le (s + margin) (ends i) ≡ false → reach es margin s ends i ≡ Some (ends i)
unfolding reach reach_of
reach_fixed es margin s ends i none =
    cond-false ((entry_at es i).renewable && nat_le (s + margin) (ends i)) (option_map (λ c. max (ends i) c) (entry_at es i).ceiling) (Some (ends i)) none

reach_capped :
    (es : List Entry) (margin s : ℕ) (ends : ℕ → ℕ) (i c : ℕ) → (entry_at es i).renewable && nat_le (s + margin) (ends i) ≡ true → (entry_at es i).ceiling ≡ Some c →
    reach es margin s ends i ≡ Some (max (ends i) c)
unfolding reach reach_of
reach_capped es margin s ends i c some is =
    cond-true ((entry_at es i).renewable && nat_le (s + margin) (ends i)) (option_map (λ m. max (ends i) m) (entry_at es i).ceiling) (Some (ends i)) some
    ∙ ap (option_map (λ m. max (ends i) m)) is

-- where no pair is Unkeepable, an entry that ends before what it carries can be led there
pub can_be_led : (g : Forest) (s : ℕ) (ends : ℕ → ℕ) → AllKeepable g s ends → (i : ℕ) → ends i < carried g.entries s i → CanBeLed g s ends i
can_be_led g s ends keepable i short =
    let es = g.entries in
    let test = (entry_at es i).renewable && nat_le (s + g.margin) (ends i) in
    let needed = carried_is_of es s i (carried es s i - 1) (omega arith) in
    let need = needed.3 in
    elim (cases_Bool test) [
      | inr fixed ↦ absurd (keepable i needed.0
          (record { over = needed.1; later = needed.2; most = ends i; reaches = reach_fixed es g.margin s ends i fixed; short = omega (arith, need) }))
      | inl room ↦
          record {
            renewable = and_left (entry_at es i).renewable (nat_le (s + g.margin) (ends i)) room;
            room = let t : nat_le (s + g.margin) (ends i) ≡ true = and_right (entry_at es i).renewable (nat_le (s + g.margin) (ends i)) room in grind (arith, nat_tests);
            ceiling = λ c is. elim (cases_lt c (carried es s i)) [
              | inr high ↦ high
              | inl low ↦ absurd (keepable i needed.0
                  (record { over = needed.1; later = needed.2; most = max (ends i) c; reaches = reach_capped es g.margin s ends i c room is; short = omega (arith, need) }))
            ];
          }
    ]

-- what a renewal at t gives an entry that can be led
led_renewal : (ceiling : Option ℕ) (t need : ℕ) → ((c : ℕ) → ceiling ≡ Some c → need ≤ c) → min t need ≤ capped ceiling t
unfolding capped
led_renewal None t need high = omega arith
led_renewal (Some c) t need high = let l : need ≤ c = high c refl in omega arith

pub renewable_within : (es : List Entry) (i : ℕ) → (entry_at es i).renewable ≡ true → i < length es
renewable_within es i renewable =
    elim (cases_lt i (length es)) [
      | inl within ↦ within
      | inr past ↦ absurd (let none : (entry_at es i).renewable ≡ false = ap (λ (e : Entry). e.renewable) (entry_at_past es i past) in cc)
    ]

-- a bound that falls short lies a step after the moment before it, and a step is greater than the margin
bound_behind : (g : Forest) → IsForest g → (s : ℕ) (ends : ℕ → ℕ) (t i : ℕ) → CanBeLed g s ends i → bound g.entries ends (Some t) i < carried g.entries s i → t + g.margin < bound g.entries ends (Some t) i
unfolding bound latest_end renewal
bound_behind g forest s ends t i led short =
    let e = entry_at g.entries i in
    let is = cond-true e.renewable (max (ends i) (renewal e t)) (ends i) led.renewable in
    let high = led_renewal e.ceiling (t + e.step) (carried g.entries s i) led.ceiling in
    let step : g.margin < e.step = (forest.placed i (renewable_within g.entries i led.renewable)).step_past_margin in
    omega (arith, is)

-- what the next moment after prev is
pub record Comes (g : Forest) (s : ℕ) (ends : ℕ → ℕ) (prev : Option ℕ) (t : ℕ) : Type 0 where
  pub late : s ≤ t
  pub behind : (u : ℕ) → prev ≡ Some u → u < t
  pub within : t < LAST
  pub covers : (i : ℕ) → (carried g.entries s i ≤ bound g.entries ends prev i) ⊎ (t + g.margin ≤ bound g.entries ends prev i)
  pub forced : (entry : ℕ) × (needed : ℕ) × Forced g.entries g.margin s ends prev t entry needed

pub next_comes : (g : Forest) → IsForest g → (s : ℕ) (ends : ℕ → ℕ) → AllKeepable g s ends → (prev : Option ℕ) (t : ℕ) → IsNextMoment g.entries g.margin s ends prev t → Comes g s ends prev t
next_comes g forest s ends keepable prev t next =
    let es = g.entries in
    let entry = next.entry in
    let short : bound es ends prev entry < carried es s entry = next.short in
    let from : ends entry ≤ bound es ends prev entry = end_below_bound es ends prev entry in
    let led = can_be_led g s ends keepable entry (omega arith) in
    let room : s + g.margin ≤ ends entry = led.room in
    let is : t ≡ bound es ends prev entry - g.margin = next.moment in
    let needed = carried_is_of es s entry (bound es ends prev entry) short in
    let last = need_within g forest needed.0 in
    let Behind : ℕ → Option ℕ → Type 0 = λ u p. bound es ends p entry < carried es s entry → u + g.margin < bound es ends p entry in
    record {
      late = omega arith;
      behind = λ u e. let l : u + g.margin < bound es ends prev entry = subst (Behind u) (sym e) (λ falls. bound_behind g forest s ends u entry led falls) short in omega arith;
      within = let low = needed.3 in omega arith;
      covers = λ i. elim (cases_lt (bound es ends prev i) (carried es s i)) [
        | inr lasts ↦ inl lasts
        | inl falls ↦ inr (let l = next.earliest i falls in omega arith)
      ];
      forced = (entry, needed.0, record { over = needed.1; later = needed.2; short = needed.3; due = omega arith });
    }
