-- One more digit.
use Rattle.std.proofs.Common.{◌≡◌, ℕ, ◌+◌, ◌*◌, ◌<◌, ◌≤◌, ◌^◌, List, length, get_or, take, true, sym, ap, ◌∙◌, arith}
use Rattle.std.specs.{Char.digit_value, List.list_all, Str.Parse.digits_value}
use Rattle.std.proofs.lemmas.{Bool.lt-ltb, Bool.and_from, List.Folds.list_all_more, Int.Digits.digits_value_more}
use Rattle.vault_http.specs.Framing.{is_digit}
use Rattle.vault_http.proofs.Numbers.{small_step, small_power}
use Rattle.vault_http.proofs.framing.number_of.Goals as goal

more_digits : (radix : ℕ) (bytes : List ℕ) (i : ℕ) → i < length bytes → list_all (is_digit radix) (take i bytes) ≡ true → digit_value (get_or bytes i 0) < radix
    → list_all (is_digit radix) (take (i + 1) bytes) ≡ true
more_digits radix bytes i inside so_far digit = list_all_more (is_digit radix) bytes i 0 inside ∙ and_from _ _ so_far (lt-ltb _ _ digit)

fits_after : (n radix digit i : ℕ) → n < 16 ^ i → radix ≤ 16 → digit < radix → i < 15 → n * radix + digit < 2 ^ 60
fits_after n radix digit i small most less few =
    let step = small_step n radix digit i small most less in
    let bound = small_power (i + 1) (omega arith) in
    omega (arith, step, bound)

pub overflow_mul-n : goal.overflow_mul-n
overflow_mul-n c =
    let digit : c.in-Some.digit < c.args.radix = omega (arith, c.in-Some.ensures.value) in
    let fits = fits_after c.loop-byte.n c.args.radix c.in-Some.digit c.loop-byte.byte-index c.loop-byte.invariant.small c.requires.most digit (omega (arith, c.loop-byte-test.true, c.requires.few)) in
    omega (arith, fits)

pub overflow_add-n : goal.overflow_add-n
overflow_add-n c =
    let digit : c.in-Some.digit < c.args.radix = omega (arith, c.in-Some.ensures.value) in
    let fits = fits_after c.loop-byte.n c.args.radix c.in-Some.digit c.loop-byte.byte-index c.loop-byte.invariant.small c.requires.most digit (omega (arith, c.loop-byte-test.true, c.requires.few)) in
    omega (arith, fits)

pub loop-byte-preserved : goal.loop-byte-preserved
loop-byte-preserved c =
    let digit : c.in-Some.digit < c.args.radix = omega (arith, c.in-Some.ensures.value) in
    let is : c.in-Some.digit ≡ digit_value (get_or c.args.value.now c.loop-byte.byte-index 0) = c.in-Some.ensures.value.1 ∙ ap digit_value c.from.ensures in
    let more = digits_value_more c.args.radix c.args.value.now c.loop-byte.byte-index c.loop-byte-test.true in
    record {
      value = ap (λ k. k * c.args.radix + c.in-Some.digit) c.loop-byte.invariant.value
          ∙ ap (λ d. digits_value c.args.radix (take c.loop-byte.byte-index c.args.value.now) * c.args.radix + d) is ∙ sym more;
      digits = more_digits c.args.radix c.args.value.now c.loop-byte.byte-index c.loop-byte-test.true c.loop-byte.invariant.digits (omega (arith, is, digit));
      small = small_step c.loop-byte.n c.args.radix c.in-Some.digit c.loop-byte.byte-index c.loop-byte.invariant.small c.requires.most digit;
    }
