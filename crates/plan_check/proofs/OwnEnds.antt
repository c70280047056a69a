-- The end of an entry that is asked by itself: how it grows, where it stays, and that it is the bound of the last moment
-- that came in time.
use Rattle.std.proofs.Common.{◌≡◌, ℕ, ◌+◌, ◌<◌, ◌≤◌, ◌&&◌, true, false, cond, List, [], ◌∷◌, Option, Some, None, max, nat_le, refl, sym, ap, ◌∙◌, subst, arith, inl, inr}
use Rattle.std.proofs.lemmas.Bool.Decides.{nat_tests}
use Rattle.std.proofs.lemmas.Bool.{and_from, and_right, cases_Bool, cases_lt, cond-true, cond-false}
use Rattle.plan_forest.specs.{declared.entry.Entry.Entry, Renewal.capped, Renewal.renewal}
use Rattle.plan_rule.specs.Forced.{latest_end}
use Rattle.plan_rule.proofs.{Keeping.IsRising, Keeping.renewal_later, Timely.IsTimely}
use Rattle.plan_check.specs.{Kept.own_after, Kept.own_end, code.Steps.AllBridged, code.Steps.last_behind}

pub own_yes : (e : Entry) (margin end t : ℕ) → e.renewable ≡ true → t + margin ≤ end → own_after e margin end t ≡ max end (renewal e t)
unfolding own_after
own_yes e margin end t renewable near =
    cond-true (e.renewable && nat_le (t + margin) end) (max end (renewal e t)) end
    (and_from e.renewable (nat_le (t + margin) end) renewable (let l : nat_le (t + margin) end ≡ true = grind (arith, nat_tests) in l))

pub own_late : (e : Entry) (margin end t : ℕ) → end < t + margin → own_after e margin end t ≡ end
unfolding own_after
own_late e margin end t late =
    cond-false (e.renewable && nat_le (t + margin) end) (max end (renewal e t)) end
    (and_right e.renewable (nat_le (t + margin) end) (let l : nat_le (t + margin) end ≡ false = grind (arith, nat_tests) in l))

pub own_fixed : (e : Entry) (margin end t : ℕ) → e.renewable ≡ false → own_after e margin end t ≡ end
unfolding own_after
own_fixed e margin end t fixed = ap (λ b. cond (b && nat_le (t + margin) end) (max end (renewal e t)) end) fixed

pub own_grows : (e : Entry) (margin end t : ℕ) → end ≤ own_after e margin end t
own_grows e margin end t =
    elim (cases_Bool e.renewable) [
      | inr fixed ↦ let is = own_fixed e margin end t fixed in omega arith
      | inl renewable ↦ elim (cases_lt end (t + margin)) [
        | inl late ↦ let is = own_late e margin end t late in omega arith
        | inr near ↦ let is = own_yes e margin end t renewable near in omega arith
      ]
    ]

pub own_least : (e : Entry) (margin end : ℕ) (ts : List ℕ) → end ≤ own_end e margin end ts
unfolding own_end
own_least e margin end [] = omega arith
own_least e margin end (t ∷ ts) =
    let here = own_grows e margin end t in
    let rest = own_least e margin (own_after e margin end t) ts in
    omega arith

-- an end that the next moment finds too near stays
pub own_stuck : (e : Entry) (margin end low : ℕ) (ts : List ℕ) → IsRising low ts → end < low + margin → own_end e margin end ts ≡ end
unfolding own_end
own_stuck e margin end low [] rising late = refl
own_stuck e margin end low (t ∷ ts) rising late =
    let l : low ≤ t = rising.0 in
    ap (λ n. own_end e margin n ts) (own_late e margin end t (omega arith)) ∙ own_stuck e margin end t ts rising.1 (omega arith)

pub own_all_fixed : (e : Entry) (margin end : ℕ) (ts : List ℕ) → e.renewable ≡ false → own_end e margin end ts ≡ end
unfolding own_end
own_all_fixed e margin end [] fixed = refl
own_all_fixed e margin end (t ∷ ts) fixed = ap (λ n. own_end e margin n ts) (own_fixed e margin end t fixed) ∙ own_all_fixed e margin end ts fixed

-- moments after prev: they rise from it
abbrev pub RisingBehind : Option ℕ → List ℕ → Type 0
RisingBehind None ts = (low : ℕ) × IsRising low ts
RisingBehind (Some t) ts = IsRising t ts

pub rising_behind : (prev : Option ℕ) (t : ℕ) (ts : List ℕ) → RisingBehind prev (t ∷ ts) → IsRising t ts
rising_behind None t ts rising = rising.1.1
rising_behind (Some u) t ts rising = rising.1

-- the bound after t is that before it, or what a renewal at t gives
next_bound : (e : Entry) (end : ℕ) (prev : Option ℕ) (t : ℕ) (ts : List ℕ) → RisingBehind prev (t ∷ ts) → e.renewable ≡ true → max (latest_end e end prev) (renewal e t) ≡ latest_end e end (Some t)
unfolding latest_end
next_bound e end None t ts rising renewable = sym (cond-true e.renewable (max end (renewal e t)) end renewable)
next_bound e end (Some u) t ts rising renewable =
    let before = cond-true e.renewable (max end (renewal e u)) end renewable in
    let after = cond-true e.renewable (max end (renewal e t)) end renewable in
    let later = renewal_later e u t rising.0 in
    omega (arith, before, after, later)

fixed_bound : (e : Entry) (end : ℕ) (prev : Option ℕ) → e.renewable ≡ false → latest_end e end prev ≡ end
unfolding latest_end
fixed_bound e end None fixed = refl
fixed_bound e end (Some u) fixed = cond-false e.renewable (max end (renewal e u)) end fixed

bound_grows : (e : Entry) (end : ℕ) (prev : Option ℕ) (t : ℕ) (ts : List ℕ) → RisingBehind prev (t ∷ ts) → latest_end e end prev ≤ latest_end e end (Some t)
bound_grows e end prev t ts rising =
    elim (cases_Bool e.renewable) [
      | inl renewable ↦ let is = next_bound e end prev t ts rising renewable in omega arith
      | inr fixed ↦ let before = fixed_bound e end prev fixed in let after = fixed_bound e end (Some t) fixed in omega arith
    ]

-- a bound that has come to n covers all that comes
own_enough : (e : Entry) (margin end n : ℕ) (prev : Option ℕ) (ts : List ℕ) → RisingBehind prev ts → n ≤ latest_end e end prev → IsTimely e margin end n prev ts
own_enough e margin end n prev [] rising lasts = lasts
own_enough e margin end n prev (t ∷ ts) rising lasts =
    let grows = bound_grows e end prev t ts rising in
    (inl lasts, own_enough e margin end n (Some t) ts (rising_behind prev t ts rising) (omega arith))

-- so an entry that, asked by itself, lasts until n is covered until n
pub own_timely : (e : Entry) (margin end n : ℕ) (prev : Option ℕ) (ts : List ℕ) → RisingBehind prev ts → n ≤ own_end e margin (latest_end e end prev) ts → IsTimely e margin end n prev ts
unfolding own_end
own_timely e margin end n prev [] rising lasts = lasts
own_timely e margin end n prev (t ∷ ts) rising lasts =
    let now = latest_end e end prev in
    let risen = rising_behind prev t ts rising in
    elim (cases_lt now (t + margin)) [
      | inl late ↦
          let stays : own_end e margin (own_after e margin now t) ts ≡ now = ap (λ m. own_end e margin m ts) (own_late e margin now t late) ∙ own_stuck e margin now t ts risen late in
          own_enough e margin end n prev (t ∷ ts) rising (omega (arith, stays, lasts))
      | inr near ↦
          let Lasts : ℕ → Type 0 = λ m. n ≤ own_end e margin m ts in
          let next : own_after e margin now t ≡ latest_end e end (Some t) = elim (cases_Bool e.renewable) [
            | inl renewable ↦ own_yes e margin now t renewable near ∙ next_bound e end prev t ts rising renewable
            | inr fixed ↦ own_fixed e margin now t fixed ∙ fixed_bound e end prev fixed ∙ sym (fixed_bound e end (Some t) fixed)
          ] in
          (inr near, own_timely e margin end n (Some t) ts risen (subst Lasts next lasts))
    ]

pub own_timely_first : (e : Entry) (margin end n s : ℕ) (ts : List ℕ) → IsRising s ts → n ≤ own_end e margin end ts → IsTimely e margin end n None ts
unfolding latest_end
own_timely_first e margin end n s ts rising lasts = own_timely e margin end n None ts (s, rising) lasts

-- where a step bridges every gap, and the first moment comes in time, the last moment decides

reached : (e : Entry) (t v : ℕ) → renewal e t < t + e.step → t ≤ v → renewal e v ≡ renewal e t
unfolding renewal capped
reached e t v short later = by_ceiling e.ceiling short where
  by_ceiling : (c : Option ℕ) → capped c (t + e.step) < t + e.step → capped c (v + e.step) ≡ capped c (t + e.step)
  by_ceiling None h = absurd (omega arith)
  by_ceiling (Some c) h = omega arith

pub last_rises : (t : ℕ) (ts : List ℕ) → IsRising t ts → t ≤ last_behind t ts
last_rises t [] rising = omega arith
last_rises t (u ∷ us) rising = let l : t ≤ u = rising.0 in let r = last_rises u us rising.1 in omega arith

pub own_bridged :
    (e : Entry) (margin end gap : ℕ) → e.renewable ≡ true → gap + margin ≤ e.step → (t : ℕ) (us : List ℕ) → IsRising t us → AllBridged gap t us →
    own_end e margin (max end (renewal e t)) us ≡ max end (renewal e (last_behind t us))
unfolding own_end
own_bridged e margin end gap renewable step t [] rising bridged = refl
own_bridged e margin end gap renewable step t (u ∷ us) rising bridged =
    let now = max end (renewal e t) in
    let l : t ≤ u = rising.0 in
    let near : u ≤ t + gap = bridged.0 in
    elim (cases_lt now (u + margin)) [
      | inr granted ↦
          let is = own_yes e margin now u renewable granted in
          let later = renewal_later e t u l in
          let next : own_after e margin now u ≡ max end (renewal e u) = omega (arith, is, later) in
          ap (λ m. own_end e margin m us) next ∙ own_bridged e margin end gap renewable step u us rising.1 bridged.1
      | inl late ↦
          let stays = ap (λ m. own_end e margin m us) (own_late e margin now u late) ∙ own_stuck e margin now u us rising.1 late in
          let up = last_rises u us rising.1 in
          let same = reached e t (last_behind u us) (omega arith) (omega arith) in
          stays ∙ sym (ap (max end) same)
    ]
