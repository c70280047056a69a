-- A vector that is lent whole, as a slice.
use Rattle.std.proofs.Common.{◌≡◌, ℕ, List, ◌++◌, length, take, drop, ap, ◌∙◌, arith, append-nil}
use Rattle.std.proofs.lemmas.List.{drop_all, take_all}

-- what is lent whole, and keeps its length, is what comes back
pub written_back : {X : Type 0} (len : ℕ) (new old : List X) → length new ≡ length old → len ≡ length old → take len (new ++ drop (length new) old) ≡ new
written_back len new old same whole =
    ap (λ l. take len (new ++ l)) (drop_all (length new) old (omega arith)) ∙ ap (λ l. take len l) (append-nil new) ∙ take_all len new (omega arith)
