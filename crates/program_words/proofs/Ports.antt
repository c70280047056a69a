-- Ports: a word that is no path has no slash, and one that is no number of 16 bits says no port.
use Rattle.std.proofs.Common.{◌≡◌, ℕ, ◌^◌, ◌<◌, ◌≤◌, ◌∙◌, Bool, true, false, List, None, Some, Result, Err, MatchBool, arith, length, subst, sym}
use Rattle.std.proofs.lemmas.{List.get_or_default, Str.Pattern.contains_char}
use Rattle.std.specs.Str.Pattern.{FindsChar}
use Rattle.std.specs.Str.Parse.{IsNumeral, ParsesUnsigned, digits_value, without_leading_plus}
use Rattle.base_device.specs.Places.{IsPath}
use Rattle.program_words.specs.Places.{IsPortFrom}

pub no_path : (word : List ℕ) (has : Bool) → MatchBool has ((i : ℕ) × (j : ℕ) × FindsChar 47 word (Some (i, j)) × (i ≤ j) × (j ≤ length word)) (FindsChar 47 word None) → has ≡ false → IsPath word → ⊥
no_path word has cases none path =
    let found = contains_char 47 word has cases (omega arith) in
    let yes : has ≡ true = found.1 path.0 path.1 (get_or_default word path.0 0 47 path.1 ∙ path.2) in
    absurd (let bad : false ≡ true = sym none ∙ yes in cc)

unread : {E : Type 0} (least : ℕ) (word : List ℕ) (read : Result ℕ E) (e : E) → ParsesUnsigned 16 10 word read → read ≡ Err e → IsNumeral 10 (without_leading_plus word) × (digits_value 10 (without_leading_plus word) < 2 ^ 16) → ⊥
unread {E} least word read e parses is = subst (λ (r : Result ℕ E). ParsesUnsigned 16 10 word r) is parses

pub no_port : {E : Type 0} (least : ℕ) (word : List ℕ) (read : Result ℕ E) (e : E) → ParsesUnsigned 16 10 word read → read ≡ Err e → (port : ℕ) → IsPortFrom least word port → ⊥
no_port least word read e parses is port said = unread least word read e parses is (said.digits, omega (arith, sym said.number, said.high))
