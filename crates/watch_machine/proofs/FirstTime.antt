-- FirstTime: the first time so far, one entry after another; and when the first of all is the next. For `first_time` and `Watch::next`.
use Rattle.std.proofs.Common.{◌≡◌, ◌∙◌, ◌&&◌, nat_lt, ℕ, ◌+◌, ◌<◌, ◌≤◌, Bool, true, false, nat_le, Option, Some, None, refl, sym, ap, subst, arith, inl, inr}
use Rattle.std.proofs.lemmas.{Bool.cases_eq, Bool.Decides.nat_tests}
use Rattle.watch_machine.specs.{declared.outlook.Next.Next, State.WatchState, State.second, code.Outlook.earlier_next, code.Outlook.is_first_ahead}
use Rattle.watch_machine.specs.Outlook.{IsFirst, IsFirstOf, IsNextTime, is_timed_at, time_of}
use Rattle.watch_machine.proofs.Cases.{if_cases}

module _ (counts : ℕ → Bool) (s : WatchState) (n : ℕ) where
  -- one entry more that has no time
  pub not_timed : (o : Option Next) → IsFirstOf counts s n o → counts n ≡ false → IsFirstOf counts s (n + 1) o
  not_timed None before never = λ j below. elim (cases_eq j n) as (λ _. counts j ≡ false) [ inl same ↦ ap counts same ∙ never | inr other ↦ before j (omega arith) ]
  not_timed (Some first) before never = record {
    within = let h = before.within in omega arith;
    counted = before.counted;
    at_is = before.at_is;
    least = λ j below timed. elim (cases_eq j n) as (λ _. first.at ≤ time_of s j) [
      | inl same ↦ let untimed : counts j ≡ false = ap counts same ∙ never in let both : true ≡ false = sym timed ∙ untimed in absurd cc
      | inr other ↦ before.least j (omega arith) timed
    ];
    lowest = before.lowest;
  }

  -- it comes before those so far
  this_first : (o : Option Next) → IsFirstOf counts s n o → counts n ≡ true → ((j : ℕ) → j < n → counts j ≡ true → time_of s n < time_of s j) → IsFirstOf counts s (n + 1) (Some (record { at = time_of s n; entry = n }))
  this_first o before is earliest = record {
    within = omega arith;
    counted = is;
    at_is = refl;
    least = λ j below timed. elim (cases_eq j n) as (λ _. time_of s n ≤ time_of s j) [
      | inl same ↦ let e : time_of s j ≡ time_of s n = ap (time_of s) same in omega arith
      | inr other ↦ let h = earliest j (omega arith) timed in omega arith
    ];
    lowest = earliest;
  }

  -- one entry more that has a time
  more_timed : (o : Option Next) → IsFirstOf counts s n o → counts n ≡ true → IsFirstOf counts s (n + 1) (earlier_next o (time_of s n) n)
  more_timed None before is = this_first None before is (λ j below timed. let never = before j below in let both : true ≡ false = sym timed ∙ never in absurd cc)
  more_timed (Some first) before is = if_cases (IsFirstOf counts s (n + 1)) (nat_le first.at (time_of s n)) (Some first) (Some (record { at = time_of s n; entry = n }))
      (λ still. record {
        within = let h = before.within in omega arith;
        counted = before.counted;
        at_is = before.at_is;
        least = λ j below timed. elim (cases_eq j n) as (λ _. first.at ≤ time_of s j) [
          | inl same ↦ let e : time_of s j ≡ time_of s n = ap (time_of s) same in grind (arith, nat_tests)
          | inr other ↦ before.least j (omega arith) timed
        ];
        lowest = before.lowest;
      })
      (λ less. this_first (Some first) before is (λ j below timed. let h = before.least j below timed in let k : time_of s n < first.at = grind (arith, nat_tests) in omega arith))

  pub is_timed_more : (at : ℕ) (o : Option Next) → IsFirstOf counts s n o → counts n ≡ true → at ≡ time_of s n → IsFirstOf counts s (n + 1) (earlier_next o at n)
  is_timed_more at o before timed is = subst (λ t. IsFirstOf counts s (n + 1) (earlier_next o t n)) (sym is) (more_timed o before timed)

-- ---- the first of all is the next, where it is ahead or there is none

left_of : (a b : Bool) → (a && b) ≡ true → a ≡ true
left_of true b both = refl
left_of false b both = both

pub first_is_next : (s : WatchState) (o : Option Next) → IsFirst (is_timed_at s) s o → is_first_ahead (second s) o ≡ true → IsNextTime s o
first_is_next s None none ahead = (None, (λ i within. ap (λ b. b && nat_lt (second s) (time_of s i)) (none i within), none))
first_is_next s (Some first) is ahead = (
  Some first,
  (
    record {
      within = is.within;
      counted = ap (λ b. b && nat_lt (second s) (time_of s first.entry)) is.counted ∙ ap (nat_lt (second s)) (sym is.at_is) ∙ ahead;
      at_is = is.at_is;
      least = λ i within counted. is.least i within (left_of (is_timed_at s i) _ counted);
      lowest = λ i below counted. is.lowest i below (left_of (is_timed_at s i) _ counted);
    },
    refl,
  ),
)
