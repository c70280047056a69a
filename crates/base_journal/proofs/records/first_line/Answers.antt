use Rattle.std.proofs.Common.{ℕ, ◌+◌, ◌-◌, List, ◌∷◌, ◌++◌, length, take, drop, slice_index, sym, ◌∙◌, ap, arith, length-drop}
use Rattle.std.proofs.lemmas.{Bool.eqb-true, List.take_all, Option.MatchOption-at_some, Option.MatchOption-at_none}
use Rattle.memchr.specs.Find.{Nowhere, Passes, NoneBefore, is_byte}
use Rattle.base_journal.proofs.Readings.{no_feed, line_before, split_at_feed}
use Rattle.base_journal.proofs.records.first_line.Goals as goal

abbrev None_of : List ℕ → Type 0
None_of xs = Nowhere (Passes (is_byte 10) xs) 0 (length xs)

abbrev First_of : List ℕ → ℕ → Type 0
First_of xs k = NoneBefore (Passes (is_byte 10) xs) 0 (length xs) k × Passes (is_byte 10) xs k

pub returns-in_default : goal.returns-in_default
returns-in_default c line rest is =
    let xs = c.args.bytes.now in
    no_feed xs line rest (MatchOption-at_none (None_of xs) (First_of xs) c.in_default.is c.memchr.ensures) is

pub returns : goal.returns
returns c =
    let xs = c.args.bytes.now in
    let k = c.in-Some.end in
    let found : First_of xs k = MatchOption-at_some (None_of xs) (First_of xs) k c.in-Some.is c.memchr.ensures in (
      line_before xs k found.0,
      split_at_feed xs k found.0.high (eqb-true (slice_index xs k) 10 found.1)
          ∙ ap (λ (l : List ℕ). take k xs ++ 10 ∷ l) (sym (take_all (length xs - (k + 1)) (drop (k + 1) xs) (omega (arith, length-drop (k + 1) xs)))),
    )
