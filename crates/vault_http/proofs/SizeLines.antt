-- The line of a size: which texts begin with one, may, or never will. For `size_line`.
use Rattle.std.proofs.Common.{◌≡◌, ℕ, ◌+◌, ◌<◌, ◌≤◌, ◌⊎◌, inl, inr, Bool, true, false, cond, List, [], ◌∷◌, ◌++◌, length, take, drop, take_while, refl, sym, ap, ◌∙◌, arith, append_assoc, subst, length-append, Some, None}
use Rattle.std.specs.{List.list_all, Str.Parse.digits_value}
use Rattle.std.proofs.lemmas.{Bool.both_ways, List.take_at, List.drop_at, List.drop-drop, List.nil_from_length}
use Rattle.vault_http.specs.declared.chunk.Ending.TheVariants as ending
use Rattle.vault_http.specs.declared.chunk.Line.TheVariants as line
use Rattle.vault_http.specs.{Chunks.line_end, Chunks.IsSize, Chunks.size_of_digits, Chunks.MayHave, Chunks.NeverHas, Framing.is_digit, Framing.number_in_digits, Steps.IsEnding, Steps.IsSizeLine}
use Rattle.vault_http.proofs.Runs.{front, take_while-front, Halts, IsRun, run_of, run_within, same_run}

abbrev hex : ℕ → Bool
hex = is_digit 16

-- a text as its digits and the rest
pub record IsCut (text : List ℕ) (n : ℕ) : Type 0 where
  pub digits : List ℕ
  pub rest : List ℕ
  pub run : IsRun hex text digits rest
  pub many : length digits ≡ n
  pub digits_are : take n text ≡ digits
  pub rest_is : drop n text ≡ rest

pub cut : (text : List ℕ) (n : ℕ) → n ≡ length (take_while hex text) → IsCut text n
cut text n e =
    let found = run_of hex text in
    let many : length (front hex text) ≡ n = sym (e ∙ ap length (take_while-front hex text)) in
    record {
      digits = front hex text;
      rest = found.0;
      run = found.1;
      many = many;
      digits_are = ap (take n) found.1.split ∙ take_at (front hex text) found.0 n many;
      rest_is = ap (drop n) found.1.split ∙ drop_at (front hex text) found.0 n many;
    }

-- the text goes on as its digits and what follows them
onward : (text digits rest more : List ℕ) → text ≡ digits ++ rest → text ++ more ≡ digits ++ (rest ++ more)
onward text digits rest more e = ap (λ t. t ++ more) e ∙ append_assoc digits rest more

pub too_many : (text : List ℕ) (n : ℕ) → n ≡ length (take_while hex text) → 8 < n → NeverHas IsSize text
too_many text n e many more part rest has =
    let c = cut text n e in
    let whole = sym (onward text c.digits c.rest more c.run.split) ∙ has.1 in
    let short = run_within hex c.digits part (c.rest ++ more) 13 (10 ∷ rest) c.run.all refl whole in
    omega (arith, short, c.many, has.0.1)

pub none_yet : (text : List ℕ) → text ≡ [] → MayHave IsSize text
none_yet text e = (48 ∷ 13 ∷ 10 ∷ [], omega arith, (48 ∷ [], ((omega arith, omega arith, refl), ap (λ t. t ++ 48 ∷ 13 ∷ 10 ∷ []) e)))

-- the rest begins with a byte
begins : (text rest : List ℕ) → text ≡ rest → (text ≡ [] → ⊥) → (b : ℕ) × (bs : List ℕ) × (rest ≡ b ∷ bs)
begins text [] e some = absurd (some e)
begins text (b ∷ bs) e some = (b, bs, refl)

halted : (rest : List ℕ) (b : ℕ) (bs : List ℕ) → rest ≡ b ∷ bs → Halts hex rest → hex b ≡ false
halted rest b bs e h = subst (Halts hex) e h

no_digits : (digits : List ℕ) → length digits ≡ 0 → digits ≡ []
no_digits digits e = nil_from_length digits e

pub no_digit : (text : List ℕ) (n : ℕ) → n ≡ length (take_while hex text) → n ≡ 0 → (text ≡ [] → ⊥) → NeverHas IsSize text
no_digit text n e zero some more part rest has =
    let c = cut text n e in
    let empty : c.digits ≡ [] = no_digits c.digits (c.many ∙ zero) in
    let all : text ≡ c.rest = c.run.split ∙ ap (λ d. d ++ c.rest) empty in
    let first = begins text c.rest all some in
    let whole : [] ++ (first.0 ∷ (first.1 ++ more)) ≡ part ++ (13 ∷ (10 ∷ rest)) = sym (ap (λ t. t ++ more) (all ∙ first.2)) ∙ has.1 in
    let same = same_run hex [] part first.0 (first.1 ++ more) 13 (10 ∷ rest) refl has.0.2 (halted c.rest first.0 first.1 first.2 c.run.halts) refl whole in
    let none : length part ≡ 0 = sym (ap length same.0) in
    omega (arith, none, has.0.0)

-- the digits are a size
sized : (text : List ℕ) (n : ℕ) (c : IsCut text n) → 0 < n → n ≤ 8 → IsSize c.digits
sized text n c some few = (omega (arith, c.many), omega (arith, c.many), c.run.all)

line_open : (text : List ℕ) (n : ℕ) (c : IsCut text n) → 0 < n → n ≤ 8 → (c.rest ≡ []) ⊎ (c.rest ≡ 13 ∷ []) → MayHave IsSize text
line_open text n c some few (inl e) =
    (13 ∷ 10 ∷ [], omega arith, (c.digits, (sized text n c some few, onward text c.digits c.rest (13 ∷ 10 ∷ []) c.run.split ∙ ap (λ t. c.digits ++ (t ++ 13 ∷ 10 ∷ [])) e)))
line_open text n c some few (inr e) =
    (10 ∷ [], omega arith, (c.digits, (sized text n c some few, onward text c.digits c.rest (10 ∷ []) c.run.split ∙ ap (λ t. c.digits ++ (t ++ 10 ∷ [])) e)))

pub open_line : (text : List ℕ) (n : ℕ) → n ≡ length (take_while hex text) → 0 < n → n ≤ 8 → IsEnding (drop n text) ending.Open → MayHave IsSize text
open_line text n e some few open_end = let c = cut text n e in line_open text n c some few (subst (λ t. (t ≡ []) ⊎ (t ≡ 13 ∷ [])) c.rest_is open_end)

-- the rest is empty or begins with a byte
empty_or : (rest : List ℕ) → (rest ≡ []) ⊎ ((b : ℕ) × (bs : List ℕ) × (rest ≡ b ∷ bs))
empty_or [] = inl refl
empty_or (b ∷ bs) = inr (b, bs, refl)

line_bad : (text : List ℕ) (n : ℕ) (c : IsCut text n) → IsEnding c.rest ending.Bad
    → ((c.rest ≡ []) ⊎ ((b : ℕ) × (bs : List ℕ) × (c.rest ≡ b ∷ bs))) → NeverHas IsSize text
line_bad text n c bad (inl e) more part rest has = bad (13 ∷ 10 ∷ []) [] (ap (λ t. t ++ 13 ∷ 10 ∷ []) e)
line_bad text n c bad (inr first) more part rest has =
    let whole : c.digits ++ (first.0 ∷ (first.1 ++ more)) ≡ part ++ (13 ∷ (10 ∷ rest)) =
    sym (onward text c.digits c.rest more c.run.split ∙ ap (λ t. c.digits ++ (t ++ more)) first.2) ∙ has.1 in
    let same = same_run hex c.digits part first.0 (first.1 ++ more) 13 (10 ∷ rest) c.run.all has.0.2 (halted c.rest first.0 first.1 first.2 c.run.halts) refl whole in
    bad more rest (ap (λ t. t ++ more) first.2 ∙ same.1)

pub bad_line : (text : List ℕ) (n : ℕ) → n ≡ length (take_while hex text) → IsEnding (drop n text) ending.Bad → NeverHas IsSize text
bad_line text n e bad = let c = cut text n e in line_bad text n c (subst (λ t. IsEnding t ending.Bad) c.rest_is bad) (empty_or c.rest)

-- the number of the digits is theirs
number_found : (digits : List ℕ) (value : ℕ) → list_all hex digits ≡ true → Some value ≡ number_in_digits 16 digits → value ≡ size_of_digits digits
number_found digits value all e = given (list_all hex digits) all e
  where
    given : (b : Bool) → b ≡ true → Some value ≡ cond b (Some (digits_value 16 digits)) None → value ≡ digits_value 16 digits
    given true t e = cc
    given false t e = absurd (both_ways false refl t)

pub whole_line : (text : List ℕ) (n value : ℕ) → n ≡ length (take_while hex text) → 0 < n → n ≤ 8 → IsEnding (drop n text) ending.Whole
    → Some value ≡ number_in_digits 16 (take n text) → IsSizeLine text (line.Size n value)
whole_line text n value e some few here number =
    let c = cut text n e in
    let at : c.rest ≡ line_end ++ drop 2 (drop n text) = sym c.rest_is ∙ here in
    let split : text ≡ take n text ++ (line_end ++ drop (n + 2) text) =
    c.run.split ∙ ap (λ d. d ++ c.rest) (sym c.digits_are) ∙ ap (λ r. take n text ++ r) (at ∙ ap (λ r. line_end ++ r) (drop-drop 2 n text)) in
    let is_size : IsSize (take n text) = subst IsSize (sym c.digits_are) (sized text n c some few) in
    let known : value ≡ size_of_digits c.digits = number_found c.digits value c.run.all (number ∙ ap (number_in_digits 16) c.digits_are) in
    let long : length text ≡ length (take n text) + length (line_end ++ drop (n + 2) text) = ap length split ∙ length-append (take n text) (line_end ++ drop (n + 2) text) in
    let count : length (take n text) ≡ n = ap length c.digits_are ∙ c.many in
    ((is_size, split), known ∙ ap size_of_digits (sym c.digits_are), omega (arith, long, count))

pub no_number : (text : List ℕ) (n : ℕ) → n ≡ length (take_while hex text) → None ≡ number_in_digits 16 (take n text) → ⊥
no_number text n e none = let c = cut text n e in given (size_of_digits c.digits) (list_all hex c.digits) c.run.all (none ∙ ap (number_in_digits 16) c.digits_are)
  where
    given : (v : ℕ) (b : Bool) → b ≡ true → None ≡ cond b (Some v) None → ⊥
    given v true t e = cc
    given v false t e = both_ways false refl t
