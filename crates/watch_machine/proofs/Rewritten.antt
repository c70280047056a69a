-- Rewritten: what a vector has after its whole slice was written, once, twice and three times. For `clock`.
use Rattle.std.proofs.Common.{◌≡◌, ◌∙◌, List, Vec, length, sym, ap}
use Rattle.std.proofs.lemmas.List.{with_items_is}
use Rattle.std.specs.Vec.{with_items}

module _ {X Z : Type 0} (v : Vec X Z) (read first : List X) (is : read ≡ v.items) (same : length first ≡ length read) where
  first_fits : length first ≡ v.len
  first_fits = same ∙ ap length is ∙ sym v.ok.0

  pub once : (with_items v first).items ≡ first
  once = with_items_is v first first_fits

  module _ (second : List X) (still : length second ≡ length first) where
    pub twice : (with_items (with_items v first) second).items ≡ second
    twice = with_items_is (with_items v first) second (still ∙ first_fits)

    pub thrice : (third : List X) → length third ≡ length second → (with_items (with_items (with_items v first) second) third).items ≡ third
    thrice third kept = with_items_is (with_items (with_items v first) second) third (kept ∙ still ∙ first_fits)
