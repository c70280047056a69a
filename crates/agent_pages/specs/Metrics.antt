-- Metrics: the figures of the agent and of each entry, in Prometheus' text format and in that of OpenMetrics.
-- Source: Prometheus, "Exposition formats", text format 0.0.4; OpenMetrics 1.0, "Text Format" and "Counter". Names, help and figures are
-- this project's own: the table `FAMILIES`.
use Rattle.std.specs.Prelude.{ℕ, ◌-◌, Bool, true, false, if◌then◌else◌, List, [], ◌∷◌, ◌++◌, Option, Some, None, bytes_eq, codes, decimal, map, nat_lt}
use Rattle.agent_pages.specs.{declared.board.Board.Board, declared.board.BoardRow.BoardRow, declared.family.Column.Column, declared.family.FamilyKind.FamilyKind, declared.family.Figure.Figure, declared.family.Format.Format}
use Rattle.agent_pages.specs.{declared.family.Tells.Tells, declared.family.TheConstants.FAMILIES, declared.state.EntryState.EntryState, Escapes.label_value, Folders.is_open, States.state_word}
use Rattle.agent_pages.specs.declared.family.FamilyKind.TheVariants.{Gauge, Counter}
use Rattle.agent_pages.specs.declared.family.Format.TheVariants.{Prometheus, OpenMetrics}
use Rattle.agent_pages.specs.declared.family.Tells.TheVariants.{Build, ClockOffset, Agent, Entry}
use Rattle.agent_pages.specs.declared.state.EntryState.TheVariants.{Gone, Ended, Waiting, Short, Unknown, Trying, Kept}
use Rattle.agent_pages.specs.declared.family.Column.TheVariants as columns
use Rattle.agent_pages.specs.declared.family.Figure.TheVariants as figures
use Rattle.base_version.specs.Version.{build_labels}

-- ---- the lines that tell of a family

abbrev pub family_kind_word : FamilyKind → List ℕ
family_kind_word Gauge = codes "gauge"
family_kind_word Counter = codes "counter"

-- the samples of a counter end in `_total`
abbrev pub total_of : FamilyKind → List ℕ
total_of Gauge = []
total_of Counter = codes "_total"

unfoldable pub sample_name : List ℕ → FamilyKind → List ℕ
sample_name name kind = name ++ total_of kind

unfoldable pub help_line : List ℕ → List ℕ → List ℕ
help_line name help = codes "# HELP " ++ name ++ codes " " ++ help ++ codes "\n"

unfoldable pub type_line : List ℕ → FamilyKind → List ℕ
type_line name kind = codes "# TYPE " ++ name ++ codes " " ++ family_kind_word kind ++ codes "\n"

-- a family is named as its samples are; OpenMetrics leaves `_total` out, and has the type first
unfoldable pub family_head : Format → List ℕ → List ℕ → FamilyKind → List ℕ → List ℕ
family_head Prometheus name sample kind help = help_line sample help ++ type_line sample kind
family_head OpenMetrics name sample kind help = type_line name kind ++ help_line name help

-- ---- samples: a name, labels within braces where there are any, and a whole number

-- what stands before the number, the number, and the end of the line
unfoldable pub ends : List ℕ → ℕ → List ℕ
ends front number = front ++ decimal number ++ codes "\n"

-- how far a clock that shows `now` is ahead of the wall's, 0 where they are apart by no more than two seconds
unfoldable pub offset_ends : ℕ → ℕ → List ℕ
offset_ends wall now =
    if nat_lt 2 (now - wall) then ends (codes " ") (now - wall) else (if nat_lt 2 (wall - now) then ends (codes " -") (wall - now) else ends (codes " ") 0)

-- of the agent: none where the number is not known
abbrev pub agent_sample : List ℕ → Option ℕ → List ℕ
agent_sample sample None = []
agent_sample sample (Some number) = sample ++ ends (codes " ") number

abbrev pub one_if : Bool → ℕ
one_if true = 1
one_if false = 0

abbrev pub figure_of : Board → Figure → Option ℕ
figure_of b figures.Written = Some b.surroundings.wall
figure_of b figures.NextWake = b.surroundings.next_wake
figure_of b figures.Margin = Some b.margin
figure_of b figures.FileIsGood = Some (one_if b.surroundings.file.is_good)
figure_of b figures.FileRead = b.surroundings.file.at
figure_of b figures.FileReadGood = b.surroundings.file.good_at
figure_of b figures.ChangesAreKept = Some (one_if (is_open b.surroundings.state_folder))
figure_of b figures.Beginnings = Some b.beginnings
figure_of b figures.DroppedLines = Some b.surroundings.dropped_lines
figure_of b figures.DroppedAlerts = Some b.surroundings.dropped_alerts
figure_of b figures.Behind = Some (one_if b.surroundings.standby.is_behind)
figure_of b figures.LookedAhead = Some b.surroundings.standby.looked_ahead
figure_of b figures.SteppedIn = Some b.surroundings.standby.stepped_in

-- ---- of an entry

-- the label with its name, which more may follow
unfoldable pub entry_front : List ℕ → BoardRow → List ℕ
entry_front sample row = sample ++ codes "{entry=\"" ++ label_value row.name ++ codes "\""

abbrev pub moment_sample : List ℕ → BoardRow → Option ℕ → List ℕ
moment_sample sample row None = []
moment_sample sample row (Some moment) = entry_front sample row ++ ends (codes "} ") moment

unfoldable pub state_sample : List ℕ → BoardRow → EntryState → List ℕ
state_sample sample row s = entry_front sample row ++ codes ",state=\"" ++ state_word s ++ ends (codes "\"} ") (one_if (bytes_eq (state_word s) (state_word row.state)))

unfoldable pub state_samples : List ℕ → BoardRow → List ℕ
state_samples sample row =
    state_sample sample row Gone ++ state_sample sample row Ended ++ state_sample sample row Waiting ++ state_sample sample row Short
    ++ state_sample sample row Unknown ++ state_sample sample row Trying ++ state_sample sample row Kept

unfoldable pub result_sample : List ℕ → BoardRow → List ℕ → ℕ → List ℕ
result_sample sample row came count = entry_front sample row ++ codes ",result=\"" ++ came ++ ends (codes "\"} ") count

unfoldable pub result_samples : List ℕ → BoardRow → List ℕ
result_samples sample row =
    result_sample sample row (codes "granted") row.granted ++ result_sample sample row (codes "refused") row.refused
    ++ result_sample sample row (codes "lost") row.lost

unfoldable pub samples_of : List ℕ → Column → BoardRow → List ℕ
samples_of sample columns.State row = state_samples sample row
samples_of sample columns.End row = moment_sample sample row row.end
samples_of sample columns.NeedWanted row = moment_sample sample row (Some row.need)
samples_of sample columns.NeedCarried row = moment_sample sample row (Some row.carried)
samples_of sample columns.NeedInForce row = moment_sample sample row (Some row.in_force)
samples_of sample columns.LastSuccess row = moment_sample sample row row.last_success
samples_of sample columns.Renewals row = result_samples sample row

-- and of all entries
abbrev pub samples_in : List ℕ → Column → List BoardRow → List ℕ
samples_in sample column [] = []
samples_in sample column (row ∷ rows) = samples_of sample column row ++ samples_in sample column rows

-- ---- all of it

-- the build is told in labels
abbrev pub samples_by : Tells → List ℕ → Board → List ℕ
samples_by Build sample b = sample ++ build_labels ++ ends (codes " ") 1
samples_by ClockOffset sample b = sample ++ offset_ends b.surroundings.wall b.broker_now
samples_by (Agent figure) sample b = agent_sample sample (figure_of b figure)
samples_by (Entry column) sample b = samples_in sample column b.rows

-- a row of the table
abbrev pub Family : Type 0
Family = List ℕ × FamilyKind × Tells × List ℕ

unfoldable pub family_text : Format → Board → Family → List ℕ
family_text format b f = family_head format f.0 (sample_name f.0 f.1) f.1 f.3 ++ samples_by f.2 (sample_name f.0 f.1) b

abbrev pub families_text : Format → Board → List Family → List ℕ
families_text format b [] = []
families_text format b (family ∷ families) = family_text format b family ++ families_text format b families

-- OpenMetrics ends with a line of its own
abbrev pub last_line : Format → List ℕ
last_line Prometheus = []
last_line OpenMetrics = codes "# EOF\n"

unfoldable pub metrics_text : Format → Board → List ℕ
metrics_text format b = families_text format b (map (λ f. (f.0.now, f.1, f.2, f.3.now)) FAMILIES) ++ last_line format
