-- Alike: what is said of two agents, changes, journals, files and secrets that differ in credentials alone. Each law is the contract of a
-- public function without a body.
-- Source: this project's own.
use Rattle.std.specs.Prelude.{◌≡◌, ◌⊎◌, ℕ, List, [], ◌∷◌, Option, Some, Ok, Err, bytes_eq}
use Rattle.agent_standing.specs.{Agent.Agent, declared.shorts.Short.Short, declared.standing.Trouble.Trouble}
use Rattle.vault_asking.specs.declared.told.Said.{Said}
use Rattle.state_changes.specs.{Rows.named, declared.change.Record.Record, declared.change.ChangeKind.ChangeKind, declared.replaying.JournalNote.JournalNote, declared.row.Row.Row, declared.secret.Secret.Secret}
use Rattle.state_changes.specs.declared.change.Record.TheVariants.{Made, Settling}
use Rattle.base_files.specs.Files.{Files}
use Rattle.vault_inventory.specs.{Bare.DocumentsAreAlike, Inventories.credential_at, Inventory.read_served, Laws.DifferInCredentials, Served.Served, declared.fault.InvFault.InvFault, declared.fault.InvFault.TheVariants.NotToml}
use Rattle.program_lines.specs.Text.{name_of}
use Rattle.vault_lint.specs.Marks.{marks_of}
use Rattle.state_notes.specs.Laws.{IsSameBut}
use Rattle.vault_proving.specs.declared.verdict.Verdict.{Verdict}
use Rattle.state_secrets.specs.{Looking.is_held, Outcomes.news_about, Outcomes.news_of, declared.looking.FileSeen.FileSeen, declared.news.Became.Became}
use Rattle.state_store.specs.declared.fault.TakeFault.{TakeFault}
use Rattle.watch_machine.specs.{declared.command.WatchRequest.WatchRequest, declared.event.Operation.Operation, declared.notes.Notes.Notes, declared.outlook.Next.Next}
use Rattle.agent_log.specs.{LinesOfAnswers.answered_lines, LinesOfNexts.next_lines, SecretLines.news_lines, Sockets.need_log_line, declared.mark.Mark.Mark}
use Rattle.agent_log.specs.LinesOfClocks.{clocked_lines, marks_anew, marks_clocked, short_log_lines}
use Rattle.agent_house.specs.{Commands.end_named, Nexts.next_there}
use Rattle.agent_words.specs.{Noting.AreWhysNotServed, Refusing.start_refusal_line, Starts.written_faults, Telling.replaced_text, VerdictWords.kept_words, declared.demands.Demands.Demands, declared.fault.StartFault.StartFault}
use Rattle.agent_words.specs.Filling.{AreUnfilled, FileHolds, FillingFails}
use Rattle.agent_ledger.specs.{Reasons.bare_words, Reasons.take_words, Rereading.said_notes, Takings.judged}

-- two agents that differ in credentials alone, or in terms or beginnings
pub record AgentsAreAlike (a b : Agent) : Type 0 where
  pub machine : b.machine ≡ a.machine
  pub forest : b.inventory.forest ≡ a.inventory.forest
  pub standings : b.standings ≡ a.standings

-- when the time is handed in, the lines are the same, and so are the marks that are left
abbrev pub ClockedAlike : Type 0
ClockedAlike =
    (a b : Agent) → AgentsAreAlike a b → (notes : Notes) (requests : List WatchRequest) (marks : List Mark) →
    (clocked_lines b notes requests marks ≡ clocked_lines a notes requests marks) × (marks_clocked b marks ≡ marks_clocked a marks)

-- of the next time of an entry
abbrev pub NextAlike : Type 0
NextAlike =
    (a b : Agent) → AgentsAreAlike a b → (last : Option (Option Next)) (next : Option Next) →
    next_lines b last (next_there b.machine next) ≡ next_lines a last (next_there a.machine next)

-- of an entry that a client needs until then
abbrev pub NeedAlike : Type 0
NeedAlike = (a b : Agent) → AgentsAreAlike a b → (i until : ℕ) → need_log_line (name_of b.inventory.forest i) until ≡ need_log_line (name_of a.inventory.forest i) until

-- of needs that are past what their entries reach
abbrev pub ShortsAlike : Type 0
ShortsAlike = (a b : Agent) → AgentsAreAlike a b → (shorts : List Short) → short_log_lines b shorts ≡ short_log_lines a shorts

-- and of what came of a request
abbrev pub AnsweredAlike : Type 0
AnsweredAlike =
    (place : List ℕ) (a b : Agent) → AgentsAreAlike a b → (i : ℕ) (operation : Operation) (said : Said) (notes : Notes) (before : Option Trouble) →
    answered_lines place b i operation said notes before ≡ answered_lines place a i operation said notes before

-- once another inventory is served what was said is carried over
abbrev pub CarriedAlike : Type 0
CarriedAlike = (a b : Agent) → AgentsAreAlike a b → (count : ℕ) → marks_anew b count ≡ marks_anew a count

-- ---- what a client is told of its change

-- the end of the entry that it drops
abbrev pub EndAlike : Type 0
EndAlike = (a b : Agent) → AgentsAreAlike a b → (name : List ℕ) → end_named b name ≡ end_named a name

-- why it is not taken
abbrev pub RefusedAlike : Type 0
RefusedAlike = (margin : ℕ) (name : List ℕ) (w v : ChangeKind) (fault : TakeFault) → IsSameBut w v → take_words margin name w fault ≡ take_words margin name v fault

-- that it was replaced, and that the table of an entry has none
abbrev pub ReplacedAlike : Type 0
ReplacedAlike =
    (name : List ℕ) (row : Row) (credential : List ℕ) →
    (replaced_text name (Some (record row { credential = credential })) ≡ replaced_text name (Some row)) × (bare_words (record row { credential = credential }) ≡ bare_words row)

-- which credential an entry keeps, where the broker refuses the new one
abbrev pub KeepsAlike : Type 0
KeepsAlike = (name : List ℕ) (w v : ChangeKind) → IsSameBut w v → kept_words name w ≡ kept_words name v

-- the entries after every change
abbrev pub RowsAreAlike : List Row → List Row → Type 0
RowsAreAlike [] [] = Unit {0}
RowsAreAlike [] (t ∷ ts) = ⊥
RowsAreAlike (r ∷ rs) [] = ⊥
RowsAreAlike (r ∷ rs) (t ∷ ts) = (record r { credential = t.credential } ≡ t) × RowsAreAlike rs ts

abbrev pub ReplacedOfAlike : Type 0
ReplacedOfAlike = (rows others : List Row) (name : List ℕ) → RowsAreAlike rows others → replaced_text name (named others name) ≡ replaced_text name (named rows name)

-- ---- what is said of a journal

-- what the file said of an entry then may be a fingerprint of its credential, and the mark of a file is one of all its bytes
abbrev pub IsRecordBut : Record → Record → Type 0
IsRecordBut (Made c) (Made d) = (c.name ≡ d.name) × IsSameBut c.what d.what
IsRecordBut (Made c) (Settling mark) = ⊥
IsRecordBut (Settling mark) (Made d) = ⊥
IsRecordBut (Settling mark) (Settling other) = Unit {0}

abbrev pub RecordsAreAlike : List Record → List Record → Type 0
RecordsAreAlike [] [] = Unit {0}
RecordsAreAlike [] (t ∷ ts) = ⊥
RecordsAreAlike (r ∷ rs) [] = ⊥
RecordsAreAlike (r ∷ rs) (t ∷ ts) = IsRecordBut r t × RecordsAreAlike rs ts

-- of the changes that do not hold any more
abbrev pub NotesAlike : Type 0
NotesAlike = (margin : ℕ) (records others : List Record) (notes : List JournalNote) → RecordsAreAlike records others → said_notes margin others notes ≡ said_notes margin records notes

-- ---- what is said of a file of an inventory

-- why it is not served, for the same faults
abbrev pub WhysAlike : Type 0
WhysAlike =
    (d : Demands) (bytes other : List ℕ) (v w : Served) (faults : List StartFault) (whys more : List (List ℕ)) → DocumentsAreAlike bytes other → read_served bytes ≡ Ok v → read_served other ≡ Ok w →
    AreWhysNotServed d bytes faults whys → AreWhysNotServed d other faults more → more ≡ whys

-- why it is no inventory, for the same fault, where its lines begin the same
abbrev pub FaultyAlike : Type 0
FaultyAlike =
    (d : Demands) (bytes other : List ℕ) (why : InvFault) (faults others : List StartFault) (whys more : List (List ℕ)) → DocumentsAreAlike bytes other → marks_of other ≡ marks_of bytes → (why ≡ NotToml → ⊥) →
    read_served bytes ≡ Err why → read_served other ≡ Err why → AreWhysNotServed d bytes faults whys → AreWhysNotServed d other others more → more ≡ whys

-- and at a start
abbrev pub StartAlike : Type 0
StartAlike =
    (program : List ℕ) (d : Demands) (bytes other : List ℕ) (v w : Served) (fault : StartFault) → DocumentsAreAlike bytes other → read_served bytes ≡ Ok v → read_served other ≡ Ok w →
    start_refusal_line program d w.inventory.forest fault ≡ start_refusal_line program d v.inventory.forest fault

-- the name of an entry stands for a credential that is not written: it does so of the same entries
pub record ServedAreAlike (v w : Served) : Type 0 where
  pub differ : DifferInCredentials v.inventory w.inventory
  pub notes : w.notes ≡ v.notes
  pub margin : w.has_margin ≡ v.has_margin
  pub names : (i : ℕ) → bytes_eq (credential_at w.inventory.credentials i) (name_of w.inventory.forest i) ≡ bytes_eq (credential_at v.inventory.credentials i) (name_of v.inventory.forest i)

-- all that is wrong with what is written
abbrev pub WrittenAlike : Type 0
WrittenAlike = (d : Demands) (v w : Served) → ServedAreAlike v w → written_faults d w ≡ written_faults d v

-- ---- what is said of files of credentials

-- the file at a path holds a credential with these files as it does with those, or gives none for the same reason
pub record FilesAreAlike (known other : Files) : Type 0 where
  pub hold : (path credential : List ℕ) → FileHolds known path credential → (another : List ℕ) × FileHolds other path another
  pub fail : (path : List ℕ) (i : ℕ) (fault : StartFault) → FillingFails known path i fault → FillingFails other path i fault

-- which of them give none
abbrev pub UnfilledAlike : Type 0
UnfilledAlike =
    (known other : Files) (folder : List ℕ) (i : ℕ) (rows others : List Row) (faults : List StartFault) → FilesAreAlike known other → RowsAreAlike rows others → AreUnfilled known folder i rows faults →
    AreUnfilled other folder i others faults

abbrev pub SecretsAreAlike : List Secret → List Secret → Type 0
SecretsAreAlike [] [] = Unit {0}
SecretsAreAlike [] (t ∷ ts) = ⊥
SecretsAreAlike (s ∷ ss) [] = ⊥
SecretsAreAlike (s ∷ ss) (t ∷ ts) = (record s { credential = t.credential } ≡ t) × SecretsAreAlike ss ts

-- of what came of one, beside what is held
abbrev pub NewsAlike : Type 0
NewsAlike =
    (secrets others : List Secret) (name file : List ℕ) (before : Option FileSeen) (became : Became) → SecretsAreAlike secrets others →
    news_lines (news_about name (news_of before (is_held others name file) became)) ≡ news_lines (news_about name (news_of before (is_held secrets name file) became))

-- what is wrong with what it holds, by the broker's word
abbrev pub JudgedAlike : Type 0
JudgedAlike = (credential other : List ℕ) (verdict : Verdict) → ((judged credential verdict ≡ Ok credential) × (judged other verdict ≡ Ok other)) ⊎ (judged other verdict ≡ judged credential verdict)
