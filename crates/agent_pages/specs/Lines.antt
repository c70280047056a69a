-- Lines: the status and health as lines for people, with dates in UTC.
-- Source: this project's own, docs/running.md, "What the operator sees".
use Rattle.std.specs.Prelude.{◌≡◌, ℕ, Bool, true, false, List, [], ◌∷◌, ◌++◌, codes}
use Rattle.agent_pages.specs.{Folders.folder_line, Points.SaysPoint, Points.point_of, Standing.IsStandingLine, Standing.first_line, declared.board.Board.Board, declared.board.BoardRow.BoardRow, declared.lines.Lines.Lines}
use Rattle.agent_pages.specs.Health.{IsMissingLineIf, is_healthy, is_missing}
use Rattle.agent_pages.specs.declared.lines.Lines.TheVariants.{Standing, Missing}

abbrev pub IsEntryLine : Lines → BoardRow → List ℕ → Type 0
IsEntryLine Standing row line = IsStandingLine row line
IsEntryLine (Missing now) row line = IsMissingLineIf (is_missing now row) row line

-- the lines of these entries, in order
abbrev pub AreEntryLines : Lines → List BoardRow → List ℕ → Type 0
AreEntryLines lines [] text = text ≡ []
AreEntryLines lines (row ∷ rows) text = (line rest : List ℕ) × IsEntryLine lines row line × AreEntryLines lines rows rest × (text ≡ line ++ rest)

-- how the agent stands to others, the next wake-up, how often everything was looked up, and the margin; then a line for each entry
unfoldable pub IsStandingText : Board → List ℕ → Type 0
IsStandingText b text =
    (next rows : List ℕ) × SaysPoint (point_of b.surroundings.next_wake) next × AreEntryLines Standing b.rows rows × (text ≡ first_line b next ++ rows)

-- of the entries: one line where all is kept that is needed, else a line for each that is not
abbrev pub IsHealthIf : Bool → Board → List ℕ → Type 0
IsHealthIf true b text = text ≡ codes "every needed entry is kept\n"
IsHealthIf false b text = AreEntryLines (Missing b.broker_now) b.rows text

-- and then what is said of the state folder
unfoldable pub IsHealthText : Board → List ℕ → Type 0
IsHealthText b text = (entries : List ℕ) × IsHealthIf (is_healthy b) b entries × (text ≡ entries ++ folder_line b.surroundings.state_folder)
