-- Steps: what is said of one entry more.
use Rattle.std.proofs.Common.{◌≡◌, ℕ, ◌+◌, ◌++◌, ◌||◌, List, Option, add-one, nat_lt, refl}
use Rattle.plan_forest.specs.{Forest.entry_at, declared.entry.Entry.Entry}
use Rattle.vault_lint.specs.{declared.subject.Subject.Subject, declared.what.Whole.Whole}
use Rattle.vault_lint.specs.Doubts.{doubts_of_first, entry_doubts, falls_due, fullest_of_first, has_need_after, one_if}

pub doubts_more : (s : Subject) (whole : Option Whole) (n : ℕ) → doubts_of_first s whole (n + 1) ≡ doubts_of_first s whole n ++ entry_doubts s whole n
doubts_more s whole n = rw add-one refl
