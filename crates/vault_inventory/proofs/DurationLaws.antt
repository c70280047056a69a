-- DurationLaws: what is read as a duration is one, and each is read.
use Rattle.std.proofs.Common.{◌≡◌, ◌≢◌, ℕ, zero, suc, ◌+◌, ◌*◌, ◌<◌, ◌≤◌, Bool, true, false, cond, ◌&&◌, ◌==◌, List, [], ◌∷◌, ◌++◌, append_assoc, length, length-append, take, drop, get_or, nat_lt, nat_le, Some, None, refl, sym, ap, ◌∙◌, subst, arith, inl, inr}
use Rattle.std.proofs.lemmas.{Bool.Decides.nat_tests, List.append-nil, List.drop_more}
use Rattle.std.proofs.lemmas.Bool.{and_parts, cases_Bool, cond-true, cond-false}
use Rattle.std.specs.{Char.is_ascii_digit, List.list_all, Str.Parse.digits_value}
use Rattle.vault_inventory.specs.Durations.{DurationFound, DurationOnly, IsPart, after_part, digits_before, duration_of_text, has_part, hours_on, minutes_on, part_seconds, seconds_on}
use Rattle.vault_inventory.proofs.Durations.{both_true, front_digit, front_other}

less : (a b : ℕ) → nat_lt a b ≡ true → a < b
less a b h = grind (arith, nat_tests)

at_most : (a b : ℕ) → nat_le a b ≡ true → a ≤ b
at_most a b h = grind (arith, nat_tests)

same : (a b : ℕ) → (a == b) ≡ true → a ≡ b
same a b h = grind (arith, nat_tests)

is_less : (a b : ℕ) → a < b → nat_lt a b ≡ true
is_less a b h = grind (arith, nat_tests)

is_at_most : (a b : ℕ) → a ≤ b → nat_le a b ≡ true
is_at_most a b h = grind (arith, nat_tests)

other : (a b : ℕ) → a ≢ b → (a == b) ≡ false
other a b h = grind (arith, nat_tests)

-- ---- lists

take_count : (n : ℕ) (xs : List ℕ) → n ≤ length xs → length (take n xs) ≡ n
take_count zero xs h = refl
take_count (suc n) [] h = absurd (omega (arith, h))
take_count (suc n) (x ∷ xs) h = let rest = take_count n xs (omega (arith, h)) in omega (arith, rest)

taken_apart : (n : ℕ) (xs : List ℕ) → take n xs ++ drop n xs ≡ xs
taken_apart zero xs = refl
taken_apart (suc n) [] = refl
taken_apart (suc n) (x ∷ xs) = ap (λ l. x ∷ l) (taken_apart n xs)

take_front : (xs ys : List ℕ) → take (length xs) (xs ++ ys) ≡ xs
take_front [] ys = refl
take_front (x ∷ xs) ys = ap (λ l. x ∷ l) (take_front xs ys)

drop_front : (xs : List ℕ) (y : ℕ) (ys : List ℕ) → drop (suc (length xs)) (xs ++ y ∷ ys) ≡ ys
drop_front [] y ys = refl
drop_front (x ∷ xs) y ys = drop_front xs y ys

get_front : (xs : List ℕ) (y : ℕ) (ys : List ℕ) → get_or (xs ++ y ∷ ys) (length xs) 0 ≡ y
get_front [] y ys = refl
get_front (x ∷ xs) y ys = get_front xs y ys

no_items : (xs : List ℕ) → length xs ≡ 0 → xs ≡ []
no_items [] h = refl
no_items (x ∷ xs) h = absurd (omega (arith, h))

-- ---- the digits at the front

front_all : (text : List ℕ) → list_all is_ascii_digit (take (digits_before text) text) ≡ true
unfolding digits_before
front_all [] = refl
front_all (b ∷ bs) =
    elim (cases_Bool (is_ascii_digit b)) [
      | inl is ↦
          let more : digits_before (b ∷ bs) ≡ suc (digits_before bs) = let f = front_digit b bs is in omega (arith, f) in
          subst (λ n. list_all is_ascii_digit (take n (b ∷ bs)) ≡ true) (sym more) (both_true (is_ascii_digit b) (list_all is_ascii_digit (take (digits_before bs) bs)) is (front_all bs))
      | inr non ↦ subst (λ n. list_all is_ascii_digit (take n (b ∷ bs)) ≡ true) (sym (front_other b bs non)) refl
    ]

front_count : (digits : List ℕ) (l : ℕ) (rest : List ℕ) → list_all is_ascii_digit digits ≡ true → is_ascii_digit l ≡ false → digits_before (digits ++ l ∷ rest) ≡ length digits
front_count [] l rest all non = front_other l rest non
front_count (d ∷ digits) l rest all non =
    let parts = and_parts (is_ascii_digit d) (list_all is_ascii_digit digits) all in
    let more = front_digit d (digits ++ l ∷ rest) parts.0 in
    let so = front_count digits l rest parts.1 non in
    omega (arith, more, so)

-- ---- found

module _ (letter size : ℕ) (text : List ℕ) where
  with_part : has_part letter text ≡ true → (part : List ℕ) × IsPart letter size part (part_seconds letter size text) × (text ≡ part ++ after_part letter text)
  unfolding has_part part_seconds after_part
  with_part has =
      let k = digits_before text in
      let a = and_parts (nat_lt 0 k) _ has in
      let b = and_parts (nat_le k 10) _ a.1 in
      let c = and_parts (nat_lt k (length text)) _ b.1 in
      let within : k < length text = less k (length text) c.0 in
      let count : length (take k text) ≡ k = take_count k text (omega (arith, within)) in
      let some : 0 < k = less 0 k a.0 in
      let short : k ≤ 10 = at_most k 10 b.0 in
      let here : get_or text k 0 ≡ letter = same (get_or text k 0) letter c.1 in
      let rest : text ≡ take k text ++ letter ∷ drop (k + 1) text =
      sym (taken_apart k text) ∙ ap (λ l. take k text ++ l) (drop_more text k 0 within) ∙ ap (λ x. take k text ++ x ∷ drop (k + 1) text) here in (
        take k text ++ letter ∷ [],
        inr (take k text, (omega (arith, count, some), omega (arith, count, short), front_all text), refl, cond-true (has_part letter text) (digits_value 10 (take k text) * size) 0 has),
        rest ∙ sym (append_assoc (take k text) (letter ∷ []) (drop (k + 1) text)) ∙ ap (λ l. (take k text ++ letter ∷ []) ++ l) (sym (cond-true (has_part letter text) (drop (k + 1) text) text has)),
      )

  part_of : (part : List ℕ) × IsPart letter size part (part_seconds letter size text) × (text ≡ part ++ after_part letter text)
  unfolding part_seconds after_part
  part_of =
      elim (cases_Bool (has_part letter text)) [
        | inl has ↦ with_part has
        | inr non ↦ ([], inl (refl, cond-false (has_part letter text) (digits_value 10 (take (digits_before text) text) * size) 0 non), sym (cond-false (has_part letter text) (drop (digits_before text + 1) text) text non))
      ]

some_is : (b : Bool) (m n : ℕ) → cond b (Some m) None ≡ Some n → (b ≡ true) × (n ≡ m)
some_is true m n e = (refl, cc)
some_is false m n e = absurd cc

pub duration_found : DurationFound
unfolding duration_of_text
duration_found text n e =
    let days = part_of 100 86400 text in
    let hours = part_of 104 3600 (hours_on text) in
    let minutes = part_of 109 60 (minutes_on text) in
    let seconds = part_of 115 1 (seconds_on text) in
    let is = some_is _ _ n e in
    let tests = and_parts (nat_lt 0 (length text)) _ is.0 in
    let none : after_part 115 (seconds_on text) ≡ [] = no_items (after_part 115 (seconds_on text)) (same (length (after_part 115 (seconds_on text))) 0 tests.1) in
    let last : seconds_on text ≡ seconds.0 = seconds.2 ∙ ap (λ l. seconds.0 ++ l) none ∙ append-nil seconds.0 in
    record {
      days = days.0;
      in_days = part_seconds 100 86400 text;
      are_days = days.1;
      hours = hours.0;
      in_hours = part_seconds 104 3600 (hours_on text);
      are_hours = hours.1;
      minutes = minutes.0;
      in_minutes = part_seconds 109 60 (minutes_on text);
      are_minutes = minutes.1;
      seconds = seconds.0;
      in_seconds = part_seconds 115 1 (seconds_on text);
      are_seconds = seconds.1;
      parts = days.2 ∙ ap (λ l. days.0 ++ l) (hours.2 ∙ ap (λ l. hours.0 ++ l) (minutes.2 ∙ ap (λ l. minutes.0 ++ l) last));
      some = less 0 (length text) tests.0;
      sum = is.1;
    }

-- ---- only

three_ands : (a b c : Bool) → a && (b && (c && false)) ≡ false
three_ands false b c = refl
three_ands true false c = refl
three_ands true true false = refl
three_ands true true true = refl

module _ (digits : List ℕ) (l : ℕ) (rest : List ℕ) (all : list_all is_ascii_digit digits ≡ true) (non : is_ascii_digit l ≡ false) where
  abbrev text : List ℕ
  text = digits ++ l ∷ rest

  count : digits_before text ≡ length digits
  count = front_count digits l rest all non

  read : get_or text (digits_before text) 0 ≡ l
  read = ap (λ k. get_or text k 0) count ∙ get_front digits l rest

  within : digits_before text < length text
  within = let size = length-append digits (l ∷ rest) in let k = count in omega (arith, size, k)

  is_part : 0 < length digits → length digits ≤ 10 → has_part l text ≡ true
  unfolding has_part
  is_part some short =
      let k = count in
      both_true _ _ (is_less 0 (digits_before text) (omega (arith, k, some)))
      (both_true _ _ (is_at_most (digits_before text) 10 (omega (arith, k, short)))
      (both_true _ _ (is_less (digits_before text) (length text) within) (let r = read in grind (arith, nat_tests))))

  other_part : (letter : ℕ) → l ≢ letter → has_part letter text ≡ false
  unfolding has_part
  other_part letter apart =
      ap (λ b. nat_lt 0 (digits_before text) && (nat_le (digits_before text) 10 && (nat_lt (digits_before text) (length text) && b))) (ap (λ x. x == letter) read ∙ other l letter apart)
      ∙ three_ands (nat_lt 0 (digits_before text)) (nat_le (digits_before text) 10) (nat_lt (digits_before text) (length text))

  after_is : has_part l text ≡ true → after_part l text ≡ rest
  unfolding after_part
  after_is has =
      let k = count in
      let place : digits_before text + 1 ≡ suc (length digits) = omega (arith, k) in
      cond-true (has_part l text) (drop (digits_before text + 1) text) text has ∙ ap (λ n. drop n text) place ∙ drop_front digits l rest

  worth_is : (size : ℕ) → has_part l text ≡ true → part_seconds l size text ≡ digits_value 10 digits * size
  unfolding part_seconds
  worth_is size has =
      cond-true (has_part l text) (digits_value 10 (take (digits_before text) text) * size) 0 has ∙ ap (λ k. digits_value 10 (take k text) * size) count ∙ ap (λ ds. digits_value 10 ds * size) (take_front digits (l ∷ rest))

-- no part of this letter stands at the front
abbrev Lacks : ℕ → List ℕ → Type 0
Lacks letter text = has_part letter text ≡ false

lacks_nothing : (letter : ℕ) → Lacks letter []
unfolding has_part digits_before
lacks_nothing letter = refl

lacks_part : (letter l size : ℕ) (part : List ℕ) (n : ℕ) (rest : List ℕ) → is_ascii_digit l ≡ false → l ≢ letter → IsPart l size part n → Lacks letter rest → Lacks letter (part ++ rest)
lacks_part letter l size part n rest non apart (inl none) lacks = subst (λ p. Lacks letter (p ++ rest)) (sym none.0) lacks
lacks_part letter l size part n rest non apart (inr is) lacks =
    let digits = is.0 in
    subst (Lacks letter) (sym (ap (λ p. p ++ rest) is.2 ∙ append_assoc digits (l ∷ []) rest)) (other_part digits l rest is.1.2 non letter apart)

reads_part : (letter size : ℕ) (part : List ℕ) (n : ℕ) (rest : List ℕ) → is_ascii_digit letter ≡ false → IsPart letter size part n → Lacks letter rest →
    (after_part letter (part ++ rest) ≡ rest) × (part_seconds letter size (part ++ rest) ≡ n)
unfolding after_part part_seconds
reads_part letter size part n rest non (inl none) lacks =
    subst (λ p. (after_part letter (p ++ rest) ≡ rest) × (part_seconds letter size (p ++ rest) ≡ n)) (sym none.0)
    (cond-false (has_part letter rest) (drop (digits_before rest + 1) rest) rest lacks, cond-false (has_part letter rest) (digits_value 10 (take (digits_before rest) rest) * size) 0 lacks ∙ sym none.1)
reads_part letter size part n rest non (inr is) lacks =
    let digits = is.0 in
    let has = is_part digits letter rest is.1.2 non is.1.0 is.1.1 in
    let parts : part ++ rest ≡ digits ++ letter ∷ rest = ap (λ p. p ++ rest) is.2 ∙ append_assoc digits (letter ∷ []) rest in
    (ap (after_part letter) parts ∙ after_is digits letter rest is.1.2 non has, ap (part_seconds letter size) parts ∙ worth_is digits letter rest is.1.2 non size has ∙ sym is.3)

pub duration_only : DurationOnly
unfolding duration_of_text
duration_only text n d =
    let seconds : d.seconds ++ [] ≡ d.seconds = append-nil d.seconds in
    let lacks_s : (letter : ℕ) → 115 ≢ letter → Lacks letter d.seconds = λ letter apart. subst (Lacks letter) seconds (lacks_part letter 115 1 d.seconds d.in_seconds [] refl apart d.are_seconds (lacks_nothing letter)) in
    let lacks_m : (letter : ℕ) → 115 ≢ letter → 109 ≢ letter → Lacks letter (d.minutes ++ d.seconds) = λ letter s m. lacks_part letter 109 60 d.minutes d.in_minutes d.seconds refl m d.are_minutes (lacks_s letter s) in
    let lacks_h : Lacks 100 (d.hours ++ (d.minutes ++ d.seconds)) = lacks_part 100 104 3600 d.hours d.in_hours (d.minutes ++ d.seconds) refl (λ e. omega (arith, e)) d.are_hours (lacks_m 100 (λ e. omega (arith, e)) (λ e. omega (arith, e))) in
    let days = reads_part 100 86400 d.days d.in_days (d.hours ++ (d.minutes ++ d.seconds)) refl d.are_days lacks_h in
    let hours = reads_part 104 3600 d.hours d.in_hours (d.minutes ++ d.seconds) refl d.are_hours (lacks_m 104 (λ e. omega (arith, e)) (λ e. omega (arith, e))) in
    let minutes = reads_part 109 60 d.minutes d.in_minutes d.seconds refl d.are_minutes (lacks_s 109 (λ e. omega (arith, e))) in
    let last = reads_part 115 1 d.seconds d.in_seconds [] refl d.are_seconds (lacks_nothing 115) in
    let on_hours : hours_on text ≡ d.hours ++ (d.minutes ++ d.seconds) = ap (after_part 100) d.parts ∙ days.0 in
    let on_minutes : minutes_on text ≡ d.minutes ++ d.seconds = ap (after_part 104) on_hours ∙ hours.0 in
    let on_seconds : seconds_on text ≡ d.seconds ++ [] = ap (after_part 109) on_minutes ∙ minutes.0 ∙ sym seconds in
    let none : length (after_part 115 (seconds_on text)) ≡ 0 = ap (λ l. length (after_part 115 l)) on_seconds ∙ ap length last.0 in
    let test = both_true (nat_lt 0 (length text)) (length (after_part 115 (seconds_on text)) == 0) (is_less 0 (length text) d.some) (ap (λ k. k == 0) none) in
    let worth_days : part_seconds 100 86400 text ≡ d.in_days = ap (part_seconds 100 86400) d.parts ∙ days.1 in
    let worth_hours : part_seconds 104 3600 (hours_on text) ≡ d.in_hours = ap (part_seconds 104 3600) on_hours ∙ hours.1 in
    let worth_minutes : part_seconds 109 60 (minutes_on text) ≡ d.in_minutes = ap (part_seconds 109 60) on_minutes ∙ minutes.1 in
    let worth_seconds : part_seconds 115 1 (seconds_on text) ≡ d.in_seconds = ap (part_seconds 115 1) on_seconds ∙ last.1 in
    let all = d.sum in
    cond-true _ (Some (part_seconds 100 86400 text + (part_seconds 104 3600 (hours_on text) + (part_seconds 109 60 (minutes_on text) + part_seconds 115 1 (seconds_on text))))) None test
    ∙ ap (λ (k : ℕ). Some k) (omega (arith, worth_days, worth_hours, worth_minutes, worth_seconds, all))
