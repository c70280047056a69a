-- Doubts: what is legal in an inventory and probably not meant.
-- Source: this project's own; docs/commands/lint.md.
use Rattle.std.specs.Prelude.{ℕ, zero, suc, ◌+◌, ◌*◌, ◌/◌, ◌==◌, ◌&&◌, ◌||◌, Bool, false, not, nat_lt, if◌then◌else◌, List, [], ◌∷◌, ◌++◌, Option, Some, None, length}
use Rattle.plan_needs.specs.Carried.{load_at}
use Rattle.plan_forest.specs.{Forest.entry_at, declared.entry.Entry.Entry}
use Rattle.vault_lint.specs.{EntryDoubts.entry_list, declared.subject.Subject.Subject, declared.what.Doubt.Doubt, declared.what.EntryDoubt.EntryDoubt, declared.what.Whole.Whole}
use Rattle.vault_lint.specs.declared.what.Whole.TheVariants.{NoEntries, NoNeeds, AllPast}
use Rattle.vault_lint.specs.declared.what.Doubt.TheVariants as variants

-- ---- of all entries together

-- of the first n entries some is needed past a moment
abbrev pub has_need_after : List Entry → ℕ → ℕ → Bool
has_need_after es moment zero = false
has_need_after es moment (suc n) = has_need_after es moment n || nat_lt moment (entry_at es n).need

-- any of these entries is
abbrev pub is_needed_after : List Entry → ℕ → Bool
is_needed_after es moment = has_need_after es moment (length es)

-- there is no entry; none has a need; or all needs are past
abbrev pub whole_of : List Entry → ℕ → Option Whole
whole_of es now =
    if length es == 0 then Some NoEntries
    else (if not (is_needed_after es 0) then Some NoNeeds else (if not (is_needed_after es now) then Some AllPast else None))

unfoldable pub whole_doubt : Subject → Option Whole
whole_doubt s = whole_of s.inventory.forest.entries s.at

-- ---- of the fullest round

-- an entry is needed and can be renewed
abbrev pub falls_due : Subject → ℕ → Bool
falls_due s i = nat_lt s.at (load_at s.carried i).need && (entry_at s.inventory.forest.entries i).renewable

abbrev pub one_if : Bool → ℕ
one_if holds = if holds then 1 else 0

-- how many of the first n entries may fall due at once
abbrev pub fullest_of_first : Subject → ℕ → ℕ
fullest_of_first s zero = 0
fullest_of_first s (suc n) = fullest_of_first s n + one_if (falls_due s n)

-- so many requests, eight side by side and each as slow as it may be, take longer than the margin
abbrev pub is_long : ℕ → ℕ → ℕ → Bool
is_long margin timeout count = nat_lt margin (((count + 7) / 8) * timeout)

abbrev pub long_round : Subject → ℕ → Option Doubt
long_round s count = if s.served.has_margin && is_long s.inventory.forest.margin s.timeout count then Some (variants.LongRound count) else None

unfoldable pub round_doubt : Subject → Option Doubt
round_doubt s = long_round s (fullest_of_first s (length s.inventory.forest.entries))

-- ---- of each entry

abbrev pub told_of : ℕ → Option EntryDoubt → List Doubt
told_of i None = []
told_of i (Some what) = variants.Of i what ∷ []

-- those of these that there are
abbrev pub told : ℕ → List (Option EntryDoubt) → List Doubt
told i [] = []
told i (what ∷ whats) = told_of i what ++ told i whats

unfoldable pub entry_doubts : Subject → Option Whole → ℕ → List Doubt
entry_doubts s whole i = told i (entry_list s whole i)

-- of each of the first n
abbrev pub doubts_of_first : Subject → Option Whole → ℕ → List Doubt
doubts_of_first s whole zero = []
doubts_of_first s whole (suc n) = doubts_of_first s whole n ++ entry_doubts s whole n

-- ---- all

abbrev pub whole_list : Option Whole → List Doubt
whole_list None = []
whole_list (Some whole) = variants.Whole whole ∷ []

abbrev pub doubt_list : Option Doubt → List Doubt
doubt_list None = []
doubt_list (Some doubt) = doubt ∷ []

unfoldable pub doubts : Subject → List Doubt
doubts s = whole_list (whole_doubt s) ++ (doubt_list (round_doubt s) ++ doubts_of_first s (whole_doubt s) (length s.inventory.forest.entries))
