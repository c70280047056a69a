-- One number more after those of a range: for the loops that go over entries, here and in the crates above.
use Rattle.std.proofs.Common.{◌≡◌, ◌∙◌, ℕ, ◌+◌, [], ◌∷◌, ◌++◌, sym, ap}
use Rattle.std.proofs.lemmas.{List.map-id, List.FromFn.map-range_with_len_more}
use Rattle.std.specs.List.{range_with_len}

pub range_more : (a n j : ℕ) → a + n ≡ j → range_with_len a (n + 1) ≡ range_with_len a n ++ j ∷ []
range_more a n j at =
    sym (map-id (range_with_len a (n + 1))) ∙ map-range_with_len_more (λ k. k) a n j at
    ∙ ap (λ xs. xs ++ j ∷ []) (map-id (range_with_len a n))
