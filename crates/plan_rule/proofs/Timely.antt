-- Timely moments: bounds alone tell that entries, with all that are over them, last under the Asks until the need of each.
use Rattle.std.proofs.Common.{ℕ, ◌<◌, ◌≤◌, List, [], ◌∷◌, Option, Some, None, sym, subst, arith, inl, inr}
use Rattle.std.proofs.lemmas.Bool.{cases_lt}
use Rattle.plan_forest.specs.{declared.entry.Entry.Entry, Carried.carried, Forest.Forest, Forest.entry_at, Push.IsForest}
use Rattle.plan_forest.proofs.{Carrying.carried_at_least, Carrying.carried_up, Chains.ParentsFirst, Placed.parents_first}
use Rattle.plan_rule.specs.{Asks.asking, Asks.first_of, Asks.with_asks, Ends.ends_after, Ends.ends_after_wake_up, Forced.bound, Forced.latest_end, Keeps.Keeps, Keeps.ends_at, Plans.moments}
use Rattle.plan_rule.proofs.{Asking.Covers, Asking.IsSafe, Covering.CoversAll, Covering.IsNeeded, Covering.asks_grow, Covering.round_covers, Keeping.IsRising, Tail.moments_with_asks, Walk.ends_from, Walk.ends_unchanged}

-- a list of moments with its Asks rises as the moments do
pub asks_rise :
    (es : List Entry) (margin s : ℕ) (e : ℕ → ℕ) (t : ℕ) (ts : List ℕ) → IsRising t ts →
    IsRising t (moments (asking es margin s e t (first_of ts) ∷ with_asks es margin s (ends_after_wake_up es margin e (asking es margin s e t (first_of ts))) ts))
asks_rise es margin s e t ts rising =
    subst (λ us. IsRising t (t ∷ us)) (sym (moments_with_asks es margin s (ends_after_wake_up es margin e (asking es margin s e t (first_of ts))) ts)) (omega arith, rising)

-- for one entry: at each of these moments, and after the last, the bound that the moment before it leaves covers it until n
abbrev pub IsTimely : Entry → ℕ → ℕ → ℕ → Option ℕ → List ℕ → Type 0
IsTimely e margin end n prev [] = Covers margin None n (latest_end e end prev)
IsTimely e margin end n prev (t ∷ ts) = Covers margin (Some t) n (latest_end e end prev) × IsTimely e margin end n (Some t) ts

timely_first : (e : Entry) (margin end n : ℕ) (prev : Option ℕ) (ts : List ℕ) → IsTimely e margin end n prev ts → Covers margin (first_of ts) n (latest_end e end prev)
timely_first e margin end n prev [] timely = timely
timely_first e margin end n prev (t ∷ ts) timely = timely.0

covered_at : (margin t n m end : ℕ) → m < n → m < t → Covers margin (Some t) n end → m < end
covered_at margin t n m end need before covers = elim covers [ inl lasts ↦ omega arith | inr granted ↦ omega arith ]

-- timely moments for each of a set of entries: with their Asks each of these lasts until its need
module _ (es : List Entry) (margin s : ℕ) (above : 0 < margin) (P : ℕ → Type 0) (need : ℕ → ℕ) (set : IsNeeded es s P need) where
  lasts_from :
      (ends : ℕ → ℕ) (ts : List ℕ) (prev : Option ℕ) (from : ℕ) (e : ℕ → ℕ) → ((i : ℕ) → ends i ≤ e i) → IsRising from ts → CoversAll P need margin e (first_of ts) →
      ((i : ℕ) → P i → IsTimely (entry_at es i) margin (ends i) (need i) prev ts) →
      (i m : ℕ) → P i → from ≤ m → m < need i → m < ends_at es margin e (with_asks es margin s e ts) m i
  unfolding with_asks ends_at ends_after bound
  lasts_from ends [] prev from e grown rising covers timely i m here start before =
      let lasts : need i ≤ e i = covers i here in omega arith
  lasts_from ends (t ∷ ts) prev from e grown rising covers timely i m here start before =
      let w = asking es margin s e t (first_of ts) in
      let rest = with_asks es margin s (ends_after_wake_up es margin e w) ts in
      elim (cases_lt m t) [
        | inl early ↦
            subst (λ (f : ℕ → ℕ). m < f i) (sym (ends_unchanged es margin t m e (w ∷ rest) (asks_rise es margin s e t ts rising.1) early))
            (covered_at margin t (need i) m (e i) before early (covers i here))
        | inr due ↦
            let grows : (k : ℕ) → ends k ≤ ends_after_wake_up es margin e w k = λ k. let l : ends k ≤ e k = grown k in let up = asks_grow es margin s e t (first_of ts) k in omega arith in
            let round = round_covers es margin s above P need set ends e grown t (first_of ts) covers
            (λ k there. timely_first (entry_at es k) margin (ends k) (need k) (Some t) ts (timely k there).1) in
            subst (λ (f : ℕ → ℕ). m < f i) (sym (ends_from es margin e m w rest due))
            (lasts_from ends ts (Some t) t (ends_after_wake_up es margin e w) grows rising.1 round (λ k there. (timely k there).1) i m here due before)
      ]

  pub timely_lasts :
      (ends : ℕ → ℕ) (ts : List ℕ) → IsRising s ts → ((i : ℕ) → P i → IsTimely (entry_at es i) margin (ends i) (need i) None ts) →
      (i m : ℕ) → P i → s ≤ m → m < need i → m < ends_at es margin ends (with_asks es margin s ends ts) m i
  unfolding latest_end
  timely_lasts ends ts rising timely =
      lasts_from ends ts None s ends (λ i. omega arith) rising (λ i here. timely_first (entry_at es i) margin (ends i) (need i) None ts (timely i here)) timely

-- ---- all entries, each with the need that it carries

-- each moment comes in time: at it, and after the last, the bounds that the moment before it leaves cover what is carried
abbrev pub AllTimely : List Entry → ℕ → ℕ → (ℕ → ℕ) → Option ℕ → List ℕ → Type 0
AllTimely es margin s ends prev [] = IsSafe es margin s (bound es ends prev) None
AllTimely es margin s ends prev (t ∷ ts) = IsSafe es margin s (bound es ends prev) (Some t) × AllTimely es margin s ends (Some t) ts

timely_each : (es : List Entry) (margin s : ℕ) (ends : ℕ → ℕ) (prev : Option ℕ) (ts : List ℕ) → AllTimely es margin s ends prev ts → (i : ℕ) → IsTimely (entry_at es i) margin (ends i) (carried es s i) prev ts
unfolding bound
timely_each es margin s ends prev [] timely i = timely i
timely_each es margin s ends prev (t ∷ ts) timely i = (timely.0 i, timely_each es margin s ends (Some t) ts timely.1 i)

all_needed : (es : List Entry) → ParentsFirst es → (s : ℕ) → IsNeeded es s (λ i. Unit {0}) (carried es s)
all_needed es first s = record { up = λ a i here over. tt; more = λ a i here over. carried_up es first s a i over; carries = λ i here. omega arith }

-- timely moments are kept with their Asks
pub timely_keeps :
    (g : Forest) → IsForest g → (s : ℕ) (ends : ℕ → ℕ) (ts : List ℕ) → IsRising s ts → AllTimely g.entries g.margin s ends None ts →
    Keeps g.entries g.margin s ends (with_asks g.entries g.margin s ends ts)
timely_keeps g forest s ends ts rising timely i m start before a over =
    let es = g.entries in
    let carries = carried_at_least es s a i over (omega arith) in
    timely_lasts es g.margin s forest.margin_above (λ k. Unit {0}) (carried es s) (all_needed es (parents_first g forest) s) ends ts rising
    (λ k here. timely_each es g.margin s ends None ts timely k) a m tt start (omega (arith, carries))
