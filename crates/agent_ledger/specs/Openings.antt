-- Openings: a state folder is opened that could not be used, and the needs that were given meanwhile are recorded in it.
-- Source: docs/commands/serve.md, "Changes".
use Rattle.std.specs.Prelude.{◌≡◌, ◌⊎◌, ℕ, Bool, true, false, List, [], ◌∷◌, ◌++◌, Option, Some, None, Ok, Err, bytes_eq, codes, is_some}
use Rattle.std.specs.List.{position, slice_set}
use Rattle.state_changes.specs.{Rows.named, declared.row.Row.Row}
use Rattle.state_changes.specs.declared.change.ChangeKind.TheVariants as what
use Rattle.base_log.specs.declared.level.Level.TheVariants.{Alert}
use Rattle.agent_words.specs.{Outcomes.Why, declared.said.About.TheVariants.Folder, declared.said.SaidLine.SaidLine}
use Rattle.agent_ledger.specs.{Keeping.KeepCall, Keeping.Take, declared.opening.NeedMeanwhile.NeedMeanwhile, declared.opening.OpenedLedger.OpenedLedger}

-- ---- the needs that are given while no change is kept: the last one of each entry

abbrev pub is_need_of : List ℕ → NeedMeanwhile → Bool
is_need_of name given = bytes_eq given.name name

-- in the place of the one before, or as the last
abbrev pub noted_at : NeedMeanwhile → List NeedMeanwhile → Option ℕ → List NeedMeanwhile
noted_at given needs None = needs ++ given ∷ []
noted_at given needs (Some i) = slice_set needs i given

abbrev pub noted : NeedMeanwhile → List NeedMeanwhile → List NeedMeanwhile
noted given needs = noted_at given needs (position (is_need_of given.name) needs)

-- ---- what is opened records them

abbrev pub gone_text : List ℕ → List ℕ
gone_text name = codes "has no need of " ++ (name ++ codes ": no entry has that name")

-- that an entry of that name is there no more
pub record IsGoneLine (name : List ℕ) (line : SaidLine) : Type 0 where
  pub level : line.level ≡ Alert
  pub about : line.about ≡ Folder
  pub text : line.text ≡ gone_text name

-- which is to be said, unless memory is wanting for that
abbrev pub LeavesOut : {K : Type 0} → List ℕ → Bool → OpenedLedger K → OpenedLedger K → Type 0
LeavesOut name true old new =
    (line : SaidLine) × (IsGoneLine name line × ((new.news.said.items ≡ old.news.said.items ++ line ∷ []) × (new ≡ record old { news = record old.news { said = new.news.said } })))
LeavesOut name false old new = Unit {0}

module _ {K : Type 0} (does : KeepCall → K → K → Type 0) (rows : K → List Row) (now : ℕ) where
  -- a need is taken, or is not
  abbrev pub TakesNeed : NeedMeanwhile → Bool → OpenedLedger K → OpenedLedger K → Type 0
  TakesNeed n true old new = does (Take now n.name (what.Need n.need) (Ok tt)) old.keeper new.keeper × (new ≡ record old { keeper = new.keeper })
  TakesNeed n false old new = (why : Why) × (does (Take now n.name (what.Need n.need) (Err why)) old.keeper new.keeper × (new ≡ record old { keeper = new.keeper }))

  -- one whose entry is there no more is left out
  abbrev pub RecordsNeed : NeedMeanwhile → Bool → OpenedLedger K → OpenedLedger K → Type 0
  RecordsNeed n holds old new =
      ((is_some (named (rows old.keeper) n.name) ≡ true) × TakesNeed n holds old new) ⊎ ((is_some (named (rows old.keeper) n.name) ≡ false) × LeavesOut n.name holds old new)

  -- those after it follow, unless it cannot be kept
  abbrev pub RecordsOn : Bool → (Bool → OpenedLedger K → OpenedLedger K → Type 0) → Bool → OpenedLedger K → OpenedLedger K → Type 0
  RecordsOn true Follow holds old new = Follow holds old new
  RecordsOn false Follow holds old new = (holds ≡ false) × (new ≡ old)

  abbrev pub RecordsNeeds : List NeedMeanwhile → Bool → OpenedLedger K → OpenedLedger K → Type 0
  RecordsNeeds [] holds old new = (holds ≡ true) × (new ≡ old)
  RecordsNeeds (n ∷ needs) holds old new = (first : Bool) × ((mid : OpenedLedger K) × (RecordsNeed n first old mid × RecordsOn first (RecordsNeeds needs) holds mid new))
