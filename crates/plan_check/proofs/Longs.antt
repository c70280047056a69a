-- From which moment on a wake-up leads an entry up to a need.
use Rattle.std.proofs.Common.{◌≡◌, ℕ, ◌+◌, ◌-◌, ◌<◌, ◌≤◌, true, false, Some, None, max, min, ap, ◌∙◌, arith}
use Rattle.std.proofs.lemmas.Bool.{cond-true, cond-false}
use Rattle.plan_forest.specs.{declared.entry.Entry.Entry, Renewal.capped, Renewal.renewal}
use Rattle.plan_rule.specs.Forced.{latest_end}
use Rattle.plan_check.specs.code.Steps.{LongFrom}

pub long_fixed : (e : Entry) (need : ℕ) → e.renewable ≡ false → e.end < need → (t : ℕ) → latest_end e e.end (Some t) < need
unfolding latest_end
long_fixed e need fixed short t = let is = cond-false e.renewable (max e.end (renewal e t)) e.end fixed in omega (arith, is)

latest_is : (e : Entry) (t new : ℕ) → e.renewable ≡ true → renewal e t ≡ new → latest_end e e.end (Some t) ≡ max e.end new
unfolding latest_end
latest_is e t new renewable is = cond-true e.renewable (max e.end (renewal e t)) e.end renewable ∙ ap (max e.end) is

pub new_capped : (e : Entry) (t ceiling : ℕ) → e.ceiling ≡ Some ceiling → renewal e t ≡ min (t + e.step) ceiling
unfolding renewal capped
new_capped e t ceiling is = ap (λ o. capped o (t + e.step)) is

pub new_free : (e : Entry) (t : ℕ) → e.ceiling ≡ None → renewal e t ≡ t + e.step
unfolding renewal capped
new_free e t is = ap (λ o. capped o (t + e.step)) is

pub long_low : (e : Entry) (need ceiling : ℕ) → e.renewable ≡ true → e.ceiling ≡ Some ceiling → ceiling < need → e.end < need → (t : ℕ) → latest_end e e.end (Some t) < need
long_low e need ceiling renewable is low short t = let l = latest_is e t (min (t + e.step) ceiling) renewable (new_capped e t ceiling is) in omega (arith, l)

pub long_high : (e : Entry) (need ceiling top : ℕ) → e.renewable ≡ true → e.ceiling ≡ Some ceiling → need ≤ ceiling → e.end < need → top ≡ need - e.step → LongFrom e need top
long_high e need ceiling top renewable is high short at = record {
  below = λ t h. let l = latest_is e t (min (t + e.step) ceiling) renewable (new_capped e t ceiling is) in omega (arith, l);
  above = λ t h. let l = latest_is e t (min (t + e.step) ceiling) renewable (new_capped e t ceiling is) in omega (arith, l);
}

pub long_free : (e : Entry) (need top : ℕ) → e.renewable ≡ true → e.ceiling ≡ None → e.end < need → top ≡ need - e.step → LongFrom e need top
long_free e need top renewable is short at = record {
  below = λ t h. let l = latest_is e t (t + e.step) renewable (new_free e t is) in omega (arith, l);
  above = λ t h. let l = latest_is e t (t + e.step) renewable (new_free e t is) in omega (arith, l);
}
