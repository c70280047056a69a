-- EntryDoubts: what is doubted of one entry, each by itself.
-- Source: this project's own; docs/commands/lint.md.
use Rattle.std.specs.Prelude.{ℕ, ◌*◌, ◌%◌, ◌==◌, ◌&&◌, Bool, true, false, not, nat_le, nat_lt, if◌then◌else◌, List, [], ◌∷◌, Option, Some, None, unwrap_or}
use Rattle.vault_inventory.specs.{declared.key.Key.Key, declared.terms.Terms.Terms, Inventories.terms_at}
use Rattle.vault_inventory.specs.declared.key.Key.TheVariants.{Issued, End, Need, Increment, Period}
use Rattle.base_moment.specs.declared.moment.TheConstants.{LAST}
use Rattle.plan_needs.specs.Carried.{load_at}
use Rattle.plan_forest.specs.Forest.{entry_at}
use Rattle.vault_lint.specs.{FaultPlaces.has_key, Limits.is_told, Limits.limit, declared.subject.Subject.Subject, declared.what.EntryDoubt.EntryDoubt, declared.what.Whole.Whole}
use Rattle.vault_lint.specs.Judging.{is_open, is_token_like, written_margin}
use Rattle.vault_lint.specs.declared.what.EntryDoubt.TheVariants as doubts
use Rattle.vault_lint.specs.declared.what.Whole.TheVariants as wholes

abbrev pub only_if : Bool → EntryDoubt → Option EntryDoubt
only_if holds what = if holds then Some what else None

-- a moment past the year 3000
abbrev pub late : Key → ℕ → Option EntryDoubt
late key moment = only_if (nat_lt 32503680000 moment) (doubts.Late key)

-- the same of a need, where the last moment stands for `always`
abbrev pub late_need : ℕ → Option EntryDoubt
late_need need = if need == LAST then None else late Need need

-- an end that is written, not before its issue, and past
abbrev pub ended : Bool → Terms → ℕ → ℕ → Option EntryDoubt
ended is_told t end at = only_if ((is_told && nat_le t.issued end) && nat_le end at) (doubts.Ended end)

-- a duration of over 90 days that is a whole number of thousands
abbrev pub milliseconds : Key → ℕ → Option EntryDoubt
milliseconds key seconds = only_if (nat_lt 7776000 seconds && ((seconds % 1000) == 0)) (doubts.Milliseconds key seconds)

abbrev pub asked : Terms → ℕ
asked t = unwrap_or t.increment 0

-- an increment, without a period, that is longer than the maximum TTL
abbrev pub over_max : Terms → Option EntryDoubt
over_max t = only_if ((t.period == 0) && nat_lt t.max_ttl (asked t)) (doubts.OverMax (asked t) t.max_ttl)

-- an increment beside a period that is another one
abbrev pub beside_period : Terms → Option EntryDoubt
beside_period t = only_if (not (t.period == 0) && not (asked t == 0) && not (asked t == t.period)) doubts.BesidePeriod

-- a step under four thirds of the margin that is written
abbrev pub near_margin : ℕ → Option ℕ → Option EntryDoubt
near_margin step None = None
near_margin step (Some margin) = only_if (nat_lt (step * 3) (margin * 4)) (doubts.NearMargin step)

abbrev pub is_all_past : Option Whole → Bool
is_all_past (Some wholes.AllPast) = true
is_all_past whole = false

abbrev pub has_no_needs : Option Whole → Bool
has_no_needs (Some wholes.NoNeeds) = true
has_no_needs whole = false

-- a need that is past, where not all are
abbrev pub need_past : ℕ → ℕ → Option Whole → Option EntryDoubt
need_past need at whole = only_if (nat_lt 0 need && nat_le need at && not (is_all_past whole)) (doubts.NeedPast need)

-- no need, here or under it, where some entry has one
abbrev pub not_needed : ℕ → Option Whole → Option EntryDoubt
not_needed carried whole = only_if ((carried == 0) && not (has_no_needs whole)) doubts.NotNeeded

-- ---- all of them, in the order in which they are said: those of the name and the file, of the moments, of the terms and of the need. A table
-- that is not found counts as one that has an increment

unfoldable pub entry_list : Subject → Option Whole → ℕ → List (Option EntryDoubt)
entry_list s whole i =
    let e = entry_at s.inventory.forest.entries i in
    let t = terms_at s.inventory.terms i in
    only_if (is_token_like e.name) doubts.TokenLike ∷ only_if (is_open s.open_files.items i) doubts.OpenFile ∷ only_if (nat_lt e.end t.issued) doubts.Swapped
    ∷ late Issued t.issued ∷ late End e.end ∷ late_need e.need ∷ ended (is_told s.served.notes i) t e.end s.at ∷ milliseconds Increment (asked t)
    ∷ milliseconds Period t.period ∷ over_max t ∷ beside_period t
    ∷ only_if ((t.period == 0) && not (has_key s.places.marks.items s.places.heads.items i Increment true)) doubts.NoStep
    ∷ near_margin e.step (written_margin s) ∷ need_past e.need s.at whole ∷ not_needed (load_at s.carried i).need whole ∷ limit s i ∷ []
