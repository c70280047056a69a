-- A set of texts as a test.
use Rattle.std.specs.Prelude.{ℕ, Bool, List, Vec}
use Rattle.std.specs.{BTreeSet.BTreeSet, BTreeSet.contains_by, Cmp.Lexicographic.slice_cmp, Ordering.nat_cmp, declared.alloc.Global.Global}

-- the set has a text of these bytes
abbrev pub holds_text : BTreeSet (Vec ℕ Global) → List ℕ → Bool
holds_text s q = contains_by (λ k. slice_cmp nat_cmp q k.items) s
