-- Whether a row is ready, by the one over it.
use Rattle.std.proofs.Common.{◌≡◌, ◌≢◌, ℕ, zero, suc, ◌-◌, Bool, true, false, ◌&&◌, List, Option, Some, None, is_none, is_some, refl, ap, ◌∙◌, arith}
use Rattle.state_changes.specs.declared.row.Row.{Row}
use Rattle.state_store.specs.Handed.{holds_if_parent, is_ready}

pub ready_never : (most : ℕ) (rows : List Row) (row : Row) → most ≡ 0 → is_ready most rows row ≡ false
unfolding is_ready
ready_never zero rows row e = refl
ready_never (suc n) rows row e = cc

step : (most : ℕ) (rows : List Row) (row : Row) → most ≢ 0 → is_ready most rows row ≡ (is_none row.file && holds_if_parent rows (is_ready (most - 1) rows) row.parent)
unfolding is_ready
step zero rows row some = absurd (some refl)
step (suc n) rows row some = let less : n ≡ suc n - 1 = omega arith in ap (λ k. is_none row.file && holds_if_parent rows (is_ready k rows) row.parent) less

without_file : (file : Option (List ℕ)) (b : Bool) → is_some file ≡ false → (is_none file && b) ≡ b
without_file None b e = refl
without_file (Some x) b e = cc

with_file : (file : Option (List ℕ)) (b : Bool) → is_some file ≡ true → (is_none file && b) ≡ false
with_file None b e = cc
with_file (Some y) b e = refl

pub ready_not : (most : ℕ) (rows : List Row) (row : Row) → most ≢ 0 → is_some row.file ≡ true → is_ready most rows row ≡ false
ready_not most rows row some e = step most rows row some ∙ with_file row.file (holds_if_parent rows (is_ready (most - 1) rows) row.parent) e

pub ready_by : (most : ℕ) (rows : List Row) (row : Row) → most ≢ 0 → is_some row.file ≡ false → is_ready most rows row ≡ holds_if_parent rows (is_ready (most - 1) rows) row.parent
ready_by most rows row some e = step most rows row some ∙ without_file row.file (holds_if_parent rows (is_ready (most - 1) rows) row.parent) e
