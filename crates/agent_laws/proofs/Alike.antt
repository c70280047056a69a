-- Alike: texts that are the same where credentials alone are others. For `no_credential_is_said`, `no_credential_is_told` and
-- `no_credential_of_a_file_is_said`.
use Rattle.std.proofs.Common.{◌≡◌, ◌∙◌, ◌+◌, ◌++◌, ℕ, zero, suc, true, false, cond, List, [], ◌∷◌, Option, None, Some, Result, Ok, Err, ap, inl, inr, refl, subst, sym, take, length}
use Rattle.std.specs.List.{find, flat_map}
use Rattle.std.specs.Prelude.{◌-◌, not, ◌&&◌, if◌then◌else◌, bytes_eq, codes, is_none, is_some, nat_lt, slice_get}
use Rattle.agent_standing.specs.{Agent.Agent, Status.status_of_entry, declared.shorts.Short.Short, declared.standing.EntryStanding.EntryStanding, declared.standing.Trouble.Trouble}
use Rattle.vault_asking.specs.declared.told.Said.{Said}
use Rattle.state_changes.specs.{declared.change.Record.Record, declared.change.ChangeKind.ChangeKind, declared.replaying.JournalNote.JournalNote, declared.replaying.NotMadeReason.NotMadeReason, declared.row.Row.Row}
use Rattle.state_changes.specs.{Secrets.is_of, Secrets.taken_from, declared.secret.Secret.Secret}
use Rattle.state_changes.specs.Rows.{is_lease_if, is_row_named, named}
use Rattle.state_changes.specs.declared.change.Record.TheVariants.{Made, Settling}
use Rattle.state_changes.specs.declared.change.ChangeKind.TheVariants as what
use Rattle.base_files.specs.Files.{Files}
use Rattle.vault_inventory.proofs.Barely.{served_secrecy_law}
use Rattle.vault_inventory.specs.{Bare.DocumentsAreAlike, Inventory.read_served, Served.Served, declared.fault.InvFault.InvFault, declared.fault.InvFault.TheVariants.NotToml}
use Rattle.vault_lint.specs.Marks.{marks_of}
use Rattle.vault_lint.proofs.Alike.{said_alike}
use Rattle.vault_inventory.specs.declared.note.EntryNote as entries
use Rattle.state_notes.proofs.Secrecy.{note_shows_none}
use Rattle.state_notes.specs.Laws.{IsSameBut}
use Rattle.vault_proving.specs.declared.verdict.Verdict.TheVariants as verdicts
use Rattle.state_secrets.specs.{Credentials.placed, Looking.is_held}
use Rattle.state_keeping.specs.Noted.{line_about, lines_in_note, note_lines}
use Rattle.plan_forest.specs.{Forest.Forest, Forest.index_named, Push.is_lease}
use Rattle.watch_machine.specs.{State.WatchState, declared.command.WatchRequest.WatchRequest, declared.event.Operation.Operation, declared.notes.Notes.Notes, declared.outlook.Next.Next}
use Rattle.agent_log.specs.{LinesOfAnswers.answered_lines, LinesOfNexts.next_lines, declared.mark.Mark.Mark}
use Rattle.agent_log.specs.LinesOfClocks.{clocked_lines, marks_anew, marks_clocked, short_log_lines}
use Rattle.agent_house.specs.{Nexts.next_there, Commands.end_known_at, Commands.end_named}
use Rattle.agent_laws.specs.Alike.{AgentsAreAlike, FilesAreAlike, IsRecordBut, JudgedAlike, RecordsAreAlike, RowsAreAlike, SecretsAreAlike, ServedAreAlike}
use Rattle.agent_words.specs.{Telling.replaced_text, VerdictWords.kept_words, declared.demands.Demands.Demands, declared.fault.StartFault.StartFault}
use Rattle.agent_words.specs.Filling.{AreUnfilled, CannotFill, FillsFrom, FillsRow, IsFaultOfRow}
use Rattle.agent_words.specs.Noting.{AreWhysNotServed, IsAlone, said_faults}
use Rattle.agent_words.specs.Starts.{bare_at, bare_faults, fault_list, least_margin, margin_fault, written_faults}
use Rattle.agent_words.specs.declared.fault.StartFault.TheVariants.{NoCredential, NoMargin, SmallMargin}
use Rattle.agent_ledger.specs.Rereading.{left_lines, said_notes}

-- ---- agents

-- an agent without credentials
abbrev pub bare : WatchState → Forest → List EntryStanding → Agent
bare m f xs = record { machine = m; inventory = record { forest = f; credentials = []; terms = [] }; standings = xs; beginnings = zero }

pub same : {X : Type 0} → (f : WatchState → Forest → List EntryStanding → X) (a b : Agent) → AgentsAreAlike a b → f b.machine b.inventory.forest b.standings ≡ f a.machine a.inventory.forest a.standings
same f a b h = ap (λ m. f m b.inventory.forest b.standings) h.machine ∙ ap (λ g. f a.machine g b.standings) h.forest ∙ ap (λ xs. f a.machine a.inventory.forest xs) h.standings

end_same : (a b : Agent) → AgentsAreAlike a b → (i : Option ℕ) → end_known_at b i ≡ end_known_at a i
end_same a b h None = refl
end_same a b h (Some i) = same (λ m f xs. (status_of_entry (bare m f xs) i).end) a b h

pub end_alike : (a b : Agent) → AgentsAreAlike a b → (name : List ℕ) → end_named b name ≡ end_named a name
end_alike a b h name = ap (λ (g : Forest). end_known_at b (index_named g.entries name)) h.forest ∙ end_same a b h (index_named a.inventory.forest.entries name)

-- ---- what is said of them

pub clocked_alike : (a b : Agent) → AgentsAreAlike a b → (notes : Notes) (requests : List WatchRequest) (marks : List Mark) → clocked_lines b notes requests marks ≡ clocked_lines a notes requests marks
unfolding clocked_lines
clocked_alike a b h notes requests marks = same (λ m f xs. clocked_lines (bare m f xs) notes requests marks) a b h

pub marks_alike : (a b : Agent) → AgentsAreAlike a b → (marks : List Mark) → marks_clocked b marks ≡ marks_clocked a marks
unfolding marks_clocked
marks_alike a b h marks = same (λ m f xs. marks_clocked (bare m f xs) marks) a b h

pub next_alike : (a b : Agent) → AgentsAreAlike a b → (last : Option (Option Next)) (next : Option Next) → next_lines b last (next_there b.machine next) ≡ next_lines a last (next_there a.machine next)
next_alike a b h last next = same (λ m f xs. next_lines (bare m f xs) last (next_there m next)) a b h

pub shorts_alike : (a b : Agent) → AgentsAreAlike a b → (shorts : List Short) → short_log_lines b shorts ≡ short_log_lines a shorts
unfolding short_log_lines
shorts_alike a b h shorts = same (λ m f xs. short_log_lines (bare m f xs) shorts) a b h

pub answered_alike : (place : List ℕ) (a b : Agent) → AgentsAreAlike a b → (i : ℕ) (operation : Operation) (said : Said) (notes : Notes) (before : Option Trouble) → answered_lines place b i operation said notes before ≡ answered_lines place a i operation said notes before
unfolding answered_lines
answered_alike place a b h i operation said notes before = same (λ m f xs. answered_lines place (bare m f xs) i operation said notes before) a b h

pub carried_alike : (a b : Agent) → AgentsAreAlike a b → (count : ℕ) → marks_anew b count ≡ marks_anew a count
unfolding marks_anew
carried_alike a b h count = same (λ m f xs. marks_anew (bare m f xs) count) a b h

-- ---- changes

pub keeps_alike : (name : List ℕ) (w v : ChangeKind) → IsSameBut w v → kept_words name w ≡ kept_words name v
keeps_alike name (what.Need until) (what.Need other) h = refl
keeps_alike name (what.Replace credential) (what.Replace other) h = refl
keeps_alike name (what.Add row) (what.Add other) h = refl
keeps_alike name what.Drop what.Drop h = refl
keeps_alike name _ _ h = absurd h

lease_alike : (name : List ℕ) (rows others : List Row) → RowsAreAlike rows others → is_lease_if (find (is_row_named name) others) ≡ is_lease_if (find (is_row_named name) rows)
lease_alike name [] [] h = refl
lease_alike name (r ∷ rs) (t ∷ ts) h =
    ap (λ b. is_lease_if (cond b (Some t) (find (is_row_named name) ts))) (ap (λ (x : Row). bytes_eq x.name name) (sym h.0))
    ∙ elim (bytes_eq r.name name) as (λ b. is_lease_if (cond b (Some t) (find (is_row_named name) ts)) ≡ is_lease_if (cond b (Some r) (find (is_row_named name) rs))) [
      | true ↦ ap (λ (x : Row). is_lease x.kind) (sym h.0)
      | false ↦ lease_alike name rs ts h.1
    ]
lease_alike name _ _ h = absurd h

pub replaced_alike : (rows others : List Row) (name : List ℕ) → RowsAreAlike rows others → replaced_text name (named others name) ≡ replaced_text name (named rows name)
unfolding named
replaced_alike rows others name h = ap (λ b. name ++ (if b then codes " has a new lease id" else codes " has a new secret")) (lease_alike name rows others h)

-- ---- a journal

line_alike : (margin : ℕ) (why : NotMadeReason) (r t : Record) → IsRecordBut r t → line_about margin why (Some t) ≡ line_about margin why (Some r)
line_alike margin why (Made c) (Made d) h = ap (λ (line : List ℕ). line ∷ []) (sym (note_shows_none margin c d why h.0 h.1))
line_alike margin why (Settling mark) (Settling other) h = refl
line_alike margin why _ _ h = absurd h

about_alike : (margin : ℕ) (why : NotMadeReason) (records others : List Record) (i : ℕ) → RecordsAreAlike records others → line_about margin why (slice_get others i) ≡ line_about margin why (slice_get records i)
about_alike margin why [] [] i h = refl
about_alike margin why (r ∷ rs) (t ∷ ts) zero h = line_alike margin why r t h.0
about_alike margin why (r ∷ rs) (t ∷ ts) (suc i) h = about_alike margin why rs ts i h.1
about_alike margin why _ _ i h = absurd h

lines_alike : (margin : ℕ) (records others : List Record) (notes : List JournalNote) → RecordsAreAlike records others → flat_map (lines_in_note margin others) notes ≡ flat_map (lines_in_note margin records) notes
lines_alike margin records others [] h = refl
lines_alike margin records others (note ∷ notes) h =
    ap (λ l. l ++ flat_map (lines_in_note margin others) notes) (about_alike margin note.why records others note.at h)
    ∙ ap (λ l. lines_in_note margin records note ++ l) (lines_alike margin records others notes h)

pub notes_alike : (margin : ℕ) (records others : List Record) (notes : List JournalNote) → RecordsAreAlike records others → said_notes margin others notes ≡ said_notes margin records notes
unfolding said_notes note_lines
notes_alike margin records others notes h = ap (λ l. l ++ left_lines (length notes - 100)) (lines_alike margin records others (take 100 notes) h)

-- ---- a file of an inventory

pub forests_alike : (bytes other : List ℕ) (v w : Served) → DocumentsAreAlike bytes other → read_served bytes ≡ Ok v → read_served other ≡ Ok w → w.inventory.forest ≡ v.inventory.forest
forests_alike bytes other v w alike reads others = sym (served_secrecy_law bytes other v w alike reads others).0.0

-- of a text that is read
said_of_read : (d : Demands) (bytes : List ℕ) (v : Served) (faults : List StartFault) (whys : List (List ℕ)) → read_served bytes ≡ Ok v → AreWhysNotServed d bytes faults whys → whys ≡ said_faults d v.inventory.forest faults
said_of_read d bytes v faults whys reads (inl h) = absurd (let no : ◌≡◌ {A = Result Served InvFault} (Ok v) (Err h.0) = sym reads ∙ h.1.0 in cc)
said_of_read d bytes v faults whys reads (inr h) =
    let same_read : h.0 ≡ v = let both : ◌≡◌ {A = Result Served InvFault} (Ok h.0) (Ok v) = sym h.1.0 ∙ reads in cc in
    h.1.1 ∙ ap (λ (x : Served). said_faults d x.inventory.forest faults) same_read

pub whys_alike : (d : Demands) (bytes other : List ℕ) (v w : Served) (faults : List StartFault) (whys more : List (List ℕ)) → DocumentsAreAlike bytes other → read_served bytes ≡ Ok v → read_served other ≡ Ok w →
    AreWhysNotServed d bytes faults whys → AreWhysNotServed d other faults more → more ≡ whys
whys_alike d bytes other v w faults whys more alike reads others h k =
    said_of_read d other w faults more others k ∙ ap (λ (g : Forest). said_faults d g faults) (forests_alike bytes other v w alike reads others) ∙ sym (said_of_read d bytes v faults whys reads h)

-- of a text that is no inventory
said_of_none : (d : Demands) (bytes : List ℕ) (why : InvFault) (faults : List StartFault) (whys : List (List ℕ)) → read_served bytes ≡ Err why → AreWhysNotServed d bytes faults whys → IsAlone bytes why whys
said_of_none d bytes why faults whys reads (inl h) =
    let same : h.0 ≡ why = let both : ◌≡◌ {A = Result Served InvFault} (Err h.0) (Err why) = sym h.1.0 ∙ reads in cc in
    subst (λ (w : InvFault). IsAlone bytes w whys) same h.1.1
said_of_none d bytes why faults whys reads (inr h) = absurd (let no : ◌≡◌ {A = Result Served InvFault} (Ok h.0) (Err why) = sym h.1.0 ∙ reads in cc)

pub faulty_alike : (d : Demands) (bytes other : List ℕ) (why : InvFault) (faults others : List StartFault) (whys more : List (List ℕ)) → DocumentsAreAlike bytes other → marks_of other ≡ marks_of bytes → (why ≡ NotToml → ⊥) →
    read_served bytes ≡ Err why → read_served other ≡ Err why → AreWhysNotServed d bytes faults whys → AreWhysNotServed d other others more → more ≡ whys
faulty_alike d bytes other why faults others whys more alike marks toml reads also h k =
    let one = said_of_none d bytes why faults whys reads h in
    let two = said_of_none d other why others more also k in
    two.1.1 ∙ ap (λ (w : List ℕ). w ∷ []) (said_alike bytes other why one.0 two.0 alike marks toml one.1.0 two.1.0) ∙ sym one.1.1

bare_alike : (v w : Served) → ServedAreAlike v w → (i : ℕ) (notes : List entries.EntryNote) → bare_faults w i notes ≡ bare_faults v i notes
bare_alike v w h i [] = refl
bare_alike v w h i (note ∷ notes) =
    ap (λ b. (if is_none note.file && b then NoCredential i ∷ [] else []) ++ bare_faults w (i + 1) notes) (h.names i)
    ∙ ap (λ l. bare_at v i note ++ l) (bare_alike v w h (i + 1) notes)

pub written_alike : (d : Demands) (v w : Served) → ServedAreAlike v w → written_faults d w ≡ written_faults d v
unfolding written_faults
written_alike d v w h =
    let later : Served → List StartFault = λ x. if d.names_are_secrets then [] else bare_faults x 0 x.notes in
    ap (λ b. fault_list (if not b then Some NoMargin else (if nat_lt w.inventory.forest.margin (least_margin d) then Some SmallMargin else None)) ++ later w) h.margin
    ∙ ap (λ (g : Forest). fault_list (if not v.has_margin then Some NoMargin else (if nat_lt g.margin (least_margin d) then Some SmallMargin else None)) ++ later w) (sym h.differ.0)
    ∙ ap (λ (ns : List entries.EntryNote). fault_list (margin_fault d v) ++ (if d.names_are_secrets then [] else bare_faults w 0 ns)) h.notes
    ∙ ap (λ l. fault_list (margin_fault d v) ++ (if d.names_are_secrets then [] else l)) (bare_alike v w h 0 v.notes)

-- ---- files of credentials

fills_alike : (known other : Files) (folder : List ℕ) (r t f : Row) → FilesAreAlike known other → (file : Option (List ℕ)) → FillsFrom known folder r f file → (filled : Row) × FillsFrom other folder t filled file
fills_alike known other folder r t f files None h = (t, refl)
fills_alike known other folder r t f files (Some path) h =
    let one = files.hold (placed folder path) h.0 h.1.0 in
    (record t { credential = one.0; file = None }, (one.0, (one.1, refl)))

fault_alike : (known other : Files) (folder : List ℕ) (i : ℕ) (r t : Row) → FilesAreAlike known other → record r { credential = t.credential } ≡ t → (fault : Option StartFault) → IsFaultOfRow known folder i r fault →
    IsFaultOfRow other folder i t fault
unfolding FillsRow CannotFill
fault_alike known other folder i r t files is None h =
    subst (λ (file : Option (List ℕ)). (filled : Row) × FillsFrom other folder t filled file) (ap (λ (x : Row). x.file) is) (fills_alike known other folder r t h.0 files r.file h.1)
fault_alike known other folder i r t files is (Some fault) h = (h.0, (sym (ap (λ (x : Row). x.file) is) ∙ h.1.0, files.fail (placed folder h.0) i fault h.1.1))

pub unfilled_alike : (known other : Files) (folder : List ℕ) (i : ℕ) (rows others : List Row) (faults : List StartFault) → FilesAreAlike known other → RowsAreAlike rows others → AreUnfilled known folder i rows faults →
    AreUnfilled other folder i others faults
unfilled_alike known other folder i [] [] faults files rows h = h
unfilled_alike known other folder i (r ∷ rs) (t ∷ ts) faults files rows h =
    (h.0, (fault_alike known other folder i r t files rows.0 h.0 h.1.0, (h.1.1.0, (unfilled_alike known other folder (i + 1) rs ts h.1.1.0 files rows.1 h.1.1.1.0, h.1.1.1.1))))
unfilled_alike known other folder i _ _ faults files rows h = absurd rows

found_alike : (name file : List ℕ) (secrets others : List Secret) → SecretsAreAlike secrets others → is_some (find (is_of name file) others) ≡ is_some (find (is_of name file) secrets)
found_alike name file [] [] h = refl
found_alike name file (s ∷ ss) (t ∷ ts) h =
    ap (λ b. is_some (cond b (Some t) (find (is_of name file) ts))) (ap (λ (x : Secret). is_of name file x) (sym h.0))
    ∙ elim (is_of name file s) as (λ b. is_some (cond b (Some t) (find (is_of name file) ts)) ≡ is_some (cond b (Some s) (find (is_of name file) ss))) [
      | true ↦ refl
      | false ↦ found_alike name file ss ts h.1
    ]
found_alike name file _ _ h = absurd h

pub held_alike : (secrets others : List Secret) (name file : List ℕ) → SecretsAreAlike secrets others → is_held others name file ≡ is_held secrets name file
unfolding taken_from
held_alike secrets others name file h = found_alike name file secrets others h

pub judged_alike : JudgedAlike
judged_alike credential other (verdicts.Refused status) = inr refl
judged_alike credential other verdicts.Endless = inr refl
judged_alike credential other _ = inl (refl, refl)
