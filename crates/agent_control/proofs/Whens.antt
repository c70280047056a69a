-- WHEN: what is read of a word is what it says, and each is read.
use Rattle.std.proofs.Common.{◌≡◌, inl, inr, ℕ, ◌+◌, ◌*◌, ◌/◌, ◌<◌, ◌≤◌, true, false, ◌==◌, List, [], ◌∷◌, drop, get_or, nat_le, bytes_eq, codes, Option, Some, None, option_map, ℤ, pos, negsuc, Result, Ok, Err, refl, sym, ap, ◌∙◌, subst, arith}
use Rattle.std.proofs.lemmas.Bool.{and_parts, cases_Bool, cond-true, cond-false, eqb-true, leb-true, ne_eqb, true≢false}
use Rattle.std.proofs.lemmas.Int.{ints}
use Rattle.std.specs.{Char.is_ascii_digit, Cmp.Lexicographic.bytes_decides, List.list_all, Result.result_ok, Str.Parse.digits_value}
use Rattle.base_moment.specs.{declared.fault.TimeFault.TimeFault, declared.moment.TheConstants.LAST, MomentOf.in_range, MomentOf.moment_of, Rfc3339.seconds_of}
use Rattle.base_moment.proofs.Moments.{moment_found, moment_tells}
use Rattle.vault_inventory.specs.{Languages.full, Values.is_always, Values.need_text, declared.need.Need.Need, Needs.IsNeed}
use Rattle.vault_inventory.specs.declared.need.Need.TheVariants.{Until, Always}
use Rattle.vault_inventory.specs.Values as values
use Rattle.agent_control.specs.declared.when.When.{When}
use Rattle.agent_control.specs.Laws.{AreDigits, SaysNeed, SaysWhen}
use Rattle.agent_control.specs.When.{IsWhen, fixed_if, fixed_of, is_number, seconds_each, span_of, when_of}
use Rattle.agent_control.specs.declared.when.When.TheVariants.{Fixed, FromNow}
use Rattle.agent_control.proofs.Chosen.{mapped, some_same}
use Rattle.agent_control.proofs.Spans.{digits_number, each_found, each_only, number_parts, span_found, span_only}

-- ---- dates

ok_time : (n t : ℕ) → ◌≡◌ {A = Result ℕ TimeFault} (Ok n) (Ok t) → n ≡ t
ok_time n t e = cc

err_time : (fault : TimeFault) (t : ℕ) → ◌≡◌ {A = Result ℕ TimeFault} (Err fault) (Ok t) → ⊥
err_time fault t e = cc

in_range_within : (z : ℤ) (t : ℕ) → in_range z ≡ Ok t → t ≤ LAST
in_range_within (pos n) t e =
    elim (cases_Bool (nat_le n LAST)) [
      | inl few ↦ let is : n ≡ t = ok_time n t (sym (cond-true (nat_le n LAST) _ _ few) ∙ e) in subst (λ k. k ≤ LAST) is (leb-true _ _ few)
      | inr many ↦ absurd (err_time _ t (sym (cond-false (nat_le n LAST) _ _ many) ∙ e))
    ]
in_range_within (negsuc n) t e = absurd (err_time _ t e)

pub moment_within : (word : List ℕ) (t : ℕ) → moment_of word ≡ Ok t → t ≤ LAST
moment_within word t e =
    elim (moment_tells word) [
      | inl p ↦ in_range_within (seconds_of p.0) t (sym p.3 ∙ e)
      | inr p ↦ absurd (err_time _ t (sym p.0 ∙ e))
    ]

-- a date begins with a digit, and its fifth byte is a dash
record IsDated (word : List ℕ) : Type 0 where
  first : is_ascii_digit (get_or word 0 0) ≡ true
  fifth : get_or word 4 0 ≡ 45

first_of_year : (year : ℕ) → year < 10000 → is_ascii_digit (48 + year / 100 / 10) ≡ true
first_of_year year few = let small : year / 100 / 10 < 10 = omega (arith, few) in grind (arith, few, small)

dated : (word : List ℕ) (t : ℕ) → moment_of word ≡ Ok t → IsDated word
dated word t e =
    let f = moment_found word t e in
    let s = f.0 in
    let w = f.2 in
    let small : s.year < 10000 = omega (arith, ints, f.1.date.0) in
    record {
      first = ap (λ l. is_ascii_digit (get_or l 0 0)) w.is ∙ first_of_year s.year small;
      fifth = ap (λ l. get_or l 4 0) w.is;
    }

dash_is_no_digit : (word : List ℕ) → get_or word 4 0 ≡ 45 → list_all is_ascii_digit word ≡ true → ⊥
dash_is_no_digit [] e all = omega (arith, e)
dash_is_no_digit (a ∷ []) e all = omega (arith, e)
dash_is_no_digit (a ∷ b ∷ []) e all = omega (arith, e)
dash_is_no_digit (a ∷ b ∷ c ∷ []) e all = omega (arith, e)
dash_is_no_digit (a ∷ b ∷ c ∷ d ∷ []) e all = omega (arith, e)
dash_is_no_digit (a ∷ b ∷ c ∷ d ∷ x ∷ xs) e all =
    let p = and_parts (is_ascii_digit a) _ all in
    let q = and_parts (is_ascii_digit b) _ p.1 in
    let r = and_parts (is_ascii_digit c) _ q.1 in
    let s = and_parts (is_ascii_digit d) _ r.1 in
    let u = and_parts (is_ascii_digit x) _ s.1 in
    let fails : is_ascii_digit 45 ≡ true = ap is_ascii_digit (sym e) ∙ u.0 in
    true≢false (sym fails)

date_is_no_number : (word : List ℕ) → IsDated word → is_number word ≡ false
date_is_no_number word d =
    elim (cases_Bool (is_number word)) [
      | inl holds ↦ absurd (dash_is_no_digit word d.fifth (number_parts word holds).2)
      | inr fails ↦ fails
    ]

date_is_not_always : (word : List ℕ) → IsDated word → is_always word ≡ false
unfolding is_always
date_is_not_always word d =
    elim (cases_Bool (bytes_eq word (codes "always"))) [
      | inl holds ↦
          let same : word ≡ codes "always" = (bytes_decides word (codes "always")).0 holds in
          let fails : is_ascii_digit 97 ≡ true = ap (λ l. is_ascii_digit (get_or l 0 0)) (sym same) ∙ d.first in
          absurd (true≢false (sym fails))
      | inr fails ↦ fails
    ]

no_plus : (word : List ℕ) → is_ascii_digit (get_or word 0 0) ≡ true → (get_or word 0 0 == 43) ≡ false
no_plus word digit = ne_eqb _ _ (λ e. true≢false (sym (ap is_ascii_digit (sym e) ∙ digit)))

-- ---- found

found_until : (o : Option ℕ) (w : When) → fixed_if o ≡ Some w → (t : ℕ) × (o ≡ Some t) × (w ≡ Fixed (Until t))
found_until None w e = cc
found_until (Some t) w e = (t, refl, sym (some_same _ _ e))

found_date : (o : Result ℕ TimeFault) (need : Need) → values.until_if (result_ok o) ≡ Some need → (t : ℕ) × (o ≡ Ok t) × (need ≡ Until t)
found_date (Ok t) need e = (t, refl, sym (some_same _ _ e))
found_date (Err fault) need e = cc

abbrev Said : List ℕ → When → Type 0
Said word w = SaysWhen w word × IsWhen w

text_found : (word : List ℕ) (need : Need) → need_text full word ≡ Some need → Said word (Fixed need)
unfolding is_always
text_found word need e =
    elim (cases_Bool (bytes_eq word (codes "always"))) [
      | inl holds ↦
          let is : Always ≡ need = some_same _ _ (sym (cond-true (bytes_eq word (codes "always")) _ _ holds) ∙ e) in
          rw (sym is) ((bytes_decides word (codes "always")).0 holds, tt)
      | inr fails ↦
          let d = found_date (moment_of word) need (sym (cond-false (bytes_eq word (codes "always")) _ _ fails) ∙ e) in
          rw d.2 (inr d.1, moment_within word d.0 d.1)
    ]

fixed_found : (word : List ℕ) (w : When) → fixed_of word ≡ Some w → Said word w
unfolding fixed_of
fixed_found word w e =
    elim (cases_Bool (is_number word)) [
      | inl holds ↦
          let u = found_until (seconds_each 1 word) w (sym (cond-true (is_number word) _ _ holds) ∙ e) in
          let f = each_found 1 word u.0 u.1 in
          let value : digits_value 10 word ≡ u.0 = omega (arith, f.2) in
          rw u.2 (inl (f.1.0, f.1.1, f.1.2, value), f.3)
      | inr fails ↦
          let m = mapped (λ need. Fixed need) (need_text full word) w (sym (cond-false (is_number word) _ _ fails) ∙ e) in
          rw m.2 (text_found word m.0 m.1)
    ]

plus_first : (word : List ℕ) → get_or word 0 0 ≡ 43 → word ≡ 43 ∷ drop 1 word
plus_first [] e = absurd (omega (arith, e))
plus_first (x ∷ xs) e = ap (λ y. y ∷ xs) e

pub when_found : (word : List ℕ) (w : When) → when_of word ≡ Some w → SaysWhen w word × IsWhen w
unfolding when_of
when_found word w e =
    elim (cases_Bool (get_or word 0 0 == 43)) [
      | inl holds ↦
          let m = mapped (λ n. FromNow n) (span_of (drop 1 word)) w (sym (cond-true (get_or word 0 0 == 43) _ _ holds) ∙ e) in
          let p = span_found (drop 1 word) m.0 m.1 in
          rw m.2 (
            record {
              digits = p.digits;
              count = p.count;
              are_digits = p.are_digits;
              unit = p.unit;
              size = p.size;
              is_unit = p.is_unit;
              parts = plus_first word (eqb-true _ _ holds) ∙ ap (λ l. 43 ∷ l) p.is;
              product = p.product;
            },
            p.few,
          )
      | inr fails ↦ fixed_found word w (sym (cond-false (get_or word 0 0 == 43) _ _ fails) ∙ e)
    ]

-- ---- only

digits_first : (word : List ℕ) (t : ℕ) → AreDigits word t → is_ascii_digit (get_or word 0 0) ≡ true
digits_first [] t d = absurd (omega (arith, d.0))
digits_first (x ∷ xs) t d = (and_parts (is_ascii_digit x) _ d.2).0

digits_only : (word : List ℕ) (t : ℕ) → AreDigits word t → t ≤ LAST → fixed_of word ≡ Some (Fixed (Until t))
unfolding fixed_of
digits_only word t d few =
    let each : seconds_each 1 word ≡ Some (t * 1) = each_only 1 word t (omega arith) d (omega (arith, few)) in
    let one : t * 1 ≡ t = omega arith in
    cond-true (is_number word) _ _ (digits_number word t d) ∙ ap fixed_if (each ∙ ap (λ k. Some k) one)

date_only : (word : List ℕ) (t : ℕ) → moment_of word ≡ Ok t → fixed_of word ≡ Some (Fixed (Until t))
unfolding fixed_of is_always
date_only word t e =
    let d = dated word t e in
    cond-false (is_number word) _ _ (date_is_no_number word d)
    ∙ ap (option_map (λ need. Fixed need)) (cond-false (bytes_eq word (codes "always")) _ _ (date_is_not_always word d) ∙ ap (λ r. values.until_if (result_ok r)) e)

fixed_only : (word : List ℕ) (need : Need) → SaysNeed need word → IsNeed need → when_of word ≡ Some (Fixed need)
unfolding when_of fixed_of is_number is_always
fixed_only word (Until t) (inl d) few = cond-false (get_or word 0 0 == 43) _ _ (no_plus word (digits_first word t d)) ∙ digits_only word t d few
fixed_only word (Until t) (inr e) few = cond-false (get_or word 0 0 == 43) _ _ (no_plus word (dated word t e).first) ∙ date_only word t e
fixed_only word Always is few = rw is refl

pub when_only : (word : List ℕ) (w : When) → SaysWhen w word → IsWhen w → when_of word ≡ Some w
unfolding when_of
when_only word (Fixed need) says is = fixed_only word need says is
when_only word (FromNow n) says is =
    let few : says.count * says.size ≤ LAST = subst (λ k. k ≤ LAST) says.product is in
    rw says.parts (ap (option_map (λ k. FromNow k)) (span_only says.digits says.unit says.count says.size says.are_digits says.is_unit few) ∙ ap (λ k. Some (FromNow k)) (sym says.product))
