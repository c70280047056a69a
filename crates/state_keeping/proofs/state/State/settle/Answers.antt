-- FILE becomes what is kept; then the copy is FILE, and the journal without its records.
use Rattle.std.proofs.Common.{◌≡◌, inl, ℕ, IsTrue, List, [], ◌∷◌, ◌++◌, true, false, Option, None, Some, OnOk, refl, sym, ap, subst, ◌∙◌}
use Rattle.std.specs.Prelude.{option_map, string_bytes}
use Rattle.std.specs.Str.{bytes_eq}
use Rattle.state_changes.specs.{Replay.replayed, Words.fingerprint}
use Rattle.base_disk.specs.{Image.File, Image.Image, State.LeavesAlone, State.LeavesOnly}
use Rattle.base_journal.specs.Records.{StandsFor}
use Rattle.base_journal.specs.Journals.{Exchanging, FileIsThere, JournalIsAtRest, bytes_of_file}
use Rattle.state_store.specs.{Books.Book, Compacted.damaged}
use Rattle.state_store.specs.Moved.{IsMovedBook, FailsInSteps, IsMovedIf, LeftByMove, MovesInSteps, mark_line}
use Rattle.state_store.specs.Stores.{FileHolds, book_of, is_sure, journal_of, lines_in, path_of_store}
use Rattle.state_keeping.specs.{Keepers.store_of, Lives.SettlesInSteps, States.Kept, States.store_in}
use Rattle.state_keeping.specs.Settles.{IsSettledState, LeftBySettling, copy_with, mode_of}
use Rattle.base_journal.proofs.Steps.{on_refused}
use Rattle.state_store.proofs.{Copied.on_ok, Staying.damaged_marked}
use Rattle.state_keeping.proofs.Others.{apart_back}
use Rattle.state_keeping.proofs.Filed.{holds_alone, keeps_at, keeps_handed}
use Rattle.state_keeping.proofs.Renewed.{file_is_other, file_past, handed_so, not_copied, on_err, then_handed}
use Rattle.state_keeping.proofs.Stepping.{hand_call, not_settled, read_call, settled}
use Rattle.state_keeping.proofs.state.State.settle.Goals as goal

pub returns-in_err-moved-clause-any_moment : goal.returns-in_err-moved-clause-any_moment
returns-in_err-moved-clause-any_moment g c known =
    let s = g.D.Disk.state in
    let k : Kept g.row.D.Denot = record { keeper = c.self.inside.keeper; disk = c.self.inside.disk; places = c.self.inside.paths.now } in
    let file : File = record { mode = c.in_ok-bytes.field-0.mode; bytes = c.in_ok-bytes.field-0.bytes } in
    let seen : (s k.disk).seen k.places.file ≡ Some file = cc (c.in_ok-bytes.ensures.read known, c.file.ensures.value) in
    subst (λ (k : Kept g.row.D.Denot). LeavesOnly (s k.disk) (s c.settle.new.disk) (LeftBySettling (store_in k) k.places (s k.disk))) c.self.view_is
    (not_copied (store_in k) k.places (s k.disk) file seen (s c.read_file.new.disk) (s c.settle.new.disk) (c.read_file.ensures.alone known) (c.read_file.ensures.any_moment known) (subst (λ (p : List ℕ). LeavesOnly (s c.read_file.new.disk) (s c.settle.new.disk) (LeftByMove (store_in k) p (mode_of c.in_ok-bytes.field-0.mode) (s c.read_file.new.disk))) c.file-2.ensures.value (c.settle.ensures.any_moment known)))

pub returns-in_err-moved-clause-sure : goal.returns-in_err-moved-clause-sure
returns-in_err-moved-clause-sure g c = on_refused c.from_residual-in_err-moved.result (λ sure.
    subst (λ (k : Kept g.row.D.Denot). is_sure (store_in k) ≡ true) c.self.view_is (c.in_err-moved.ensures.sure sure).sure)

pub returns-in_default-clause-any_moment : goal.returns-in_default-clause-any_moment
returns-in_default-clause-any_moment g c known =
    let s = g.D.Disk.state in
    let k : Kept g.row.D.Denot = record { keeper = c.self.inside.keeper; disk = c.self.inside.disk; places = c.self.inside.paths.now } in
    let file : File = record { mode = c.in_ok-bytes.field-0.mode; bytes = c.in_ok-bytes.field-0.bytes } in
    let seen : (s k.disk).seen k.places.file ≡ Some file = cc (c.in_ok-bytes.ensures.read known, c.file.ensures.value) in
    subst (λ (k : Kept g.row.D.Denot). LeavesOnly (s k.disk) (s c.settle.new.disk) (LeftBySettling (store_in k) k.places (s k.disk))) c.self.view_is
    (not_copied (store_in k) k.places (s k.disk) file seen (s c.read_file.new.disk) (s c.settle.new.disk) (c.read_file.ensures.alone known) (c.read_file.ensures.any_moment known) (subst (λ (p : List ℕ). LeavesOnly (s c.read_file.new.disk) (s c.settle.new.disk) (LeftByMove (store_in k) p (mode_of c.in_ok-bytes.field-0.mode) (s c.read_file.new.disk))) c.file-2.ensures.value (c.settle.ensures.any_moment known)))

pub returns-in_default-clause-settled : goal.returns-in_default-clause-settled
returns-in_default-clause-settled g c =
    let s = g.D.Disk.state in
    let k : Kept g.row.D.Denot = record { keeper = c.self.inside.keeper; disk = c.self.inside.disk; places = c.self.inside.paths.now } in
    let new : Kept g.row.D.Denot = record { keeper = c.settle.new.self; disk = c.settle.new.disk; places = c.self.inside.paths.now } in
    let file : File = record { mode = c.in_ok-bytes.field-0.mode; bytes = c.in_ok-bytes.field-0.bytes } in
    let mode = mode_of c.in_ok-bytes.field-0.mode in
    let moved = subst (λ (o : Option _). IsMovedIf g.D.Disk.is_known (store_in k) c.file-2.result.now mode (option_map string_bytes o) (store_of c.settle.new.self) (s c.settle.new.disk)) c.in_default.is c.in_ok-moved.ensures.settled in
    let steps : IsTrue g.D.Disk.is_known → MovesInSteps g.D.Disk.is_known s (store_in k) c.file-2.result.now mode c.list.result.now c.read_file.new.disk None (store_of c.settle.new.self) c.settle.new.disk =
    λ known. subst (λ (o : Option _). MovesInSteps g.D.Disk.is_known s (store_in k) c.file-2.result.now mode c.list.result.now c.read_file.new.disk (option_map string_bytes o) (store_of c.settle.new.self) c.settle.new.disk) c.in_default.is (c.in_ok-moved.ensures.steps known) in
    subst (λ (k : Kept g.row.D.Denot). IsSettledState g.D.Disk.is_known k None new (s k.disk) (s c.settle.new.disk)) c.self.view_is
    (record {
      read = record { bytes = c.in_ok-bytes.field-0.bytes; mode = c.in_ok-bytes.field-0.mode };
      was = λ known. let seen : (s k.disk).seen k.places.file ≡ Some file = cc (c.in_ok-bytes.ensures.read known, c.file.ensures.value) in seen;
      same = ap fingerprint (sym c.list.ensures) ∙ c.in_ok-moved.ensures.same;
      text = None;
      settled = (refl, moved);
      alone = λ known. subst (λ (d : g.row.D.Denot). LeavesAlone (s k.disk) (s d)) (sym (steps known).1) (c.read_file.ensures.alone known);
    })

pub hand_over-left-requires-clause-said : goal.hand_over-left-requires-clause-said
hand_over-left-requires-clause-said g c =
    let s = g.D.Disk.state in
    let moved = subst (λ (o : Option _). IsMovedIf g.D.Disk.is_known (store_of c.self.inside.keeper) c.file-2.result.now (mode_of c.in_ok-bytes.field-0.mode) (option_map string_bytes o) (store_of c.settle.new.self) (s c.settle.new.disk)) c.in-Some.is c.in_ok-moved.ensures.settled in
    moved.by_itself

pub returns-clause-settled : goal.returns-clause-settled
returns-clause-settled g c =
    let s = g.D.Disk.state in
    let k : Kept g.row.D.Denot = record { keeper = c.self.inside.keeper; disk = c.self.inside.disk; places = c.self.inside.paths.now } in
    let new : Kept g.row.D.Denot = record { keeper = c.hand_over-left.new.self; disk = c.hand_over-left.new.disk; places = c.self.inside.paths.now } in
    let file : File = record { mode = c.in_ok-bytes.field-0.mode; bytes = c.in_ok-bytes.field-0.bytes } in
    let text = string_bytes c.in-Some.text in
    let u = s c.settle.new.disk in
    let v = s c.hand_over-left.new.disk in
    let at = c.settle.ensures.path ∙ c.self.invariant.path in
    let p = path_of_store (store_of c.settle.new.self) in
    let P : List ℕ → Type 0 = λ f. StandsFor f (damaged (lines_in (store_of c.settle.new.self))) in
    let moved = subst (λ (o : Option _). IsMovedIf g.D.Disk.is_known (store_in k) c.file-2.result.now (mode_of c.in_ok-bytes.field-0.mode) (option_map string_bytes o) (store_of c.settle.new.self) u) c.in-Some.is c.in_ok-moved.ensures.settled in
    let there = subst (λ (q : List ℕ). IsMovedIf g.D.Disk.is_known (store_in k) q (mode_of c.in_ok-bytes.field-0.mode) (Some text) (store_of c.settle.new.self) u) c.file-2.ensures.value moved in
    let same : damaged (lines_in (store_of c.settle.new.self)) ≡ damaged (lines_in (store_in k)) = ap damaged there.lines ∙ damaged_marked (lines_in (store_in k)) text in
    let run : IsTrue g.D.Disk.is_known → LeavesOnly u v (Exchanging k.places.journal k.places.copy (copy_with text) P u) =
    λ known. subst (λ (q : List ℕ). LeavesOnly u v (Exchanging q k.places.copy (copy_with text) P u)) at
    (subst (λ (q : List ℕ). LeavesOnly u v (Exchanging p q (copy_with text) P u)) c.copy.ensures.value
    (subst (λ (b : List ℕ). LeavesOnly u v (Exchanging p c.copy.result.now (copy_with b) P u)) c.as_bytes.ensures.value (c.hand_over-left.ensures.any_moment known))) in
    let others : IsTrue g.D.Disk.is_known → (other : List ℕ) → bytes_eq k.places.journal other ≡ false → bytes_eq k.places.copy other ≡ false → (v.seen other ≡ u.seen other) × (v.is_sound other ≡ u.is_sound other) =
    λ known other a b. c.hand_over-left.ensures.others known other (ap (λ (q : List ℕ). bytes_eq q other) at ∙ a) (ap (λ (q : List ℕ). bytes_eq q other) c.copy.ensures.value ∙ b) in
    subst (λ (k : Kept g.row.D.Denot). IsSettledState g.D.Disk.is_known k c.err.result new (s k.disk) v) c.self.view_is
    (record {
      read = record { bytes = c.in_ok-bytes.field-0.bytes; mode = c.in_ok-bytes.field-0.mode };
      was = λ known. let seen : (s k.disk).seen k.places.file ≡ Some file = cc (c.in_ok-bytes.ensures.read known, c.file.ensures.value) in seen;
      same = ap fingerprint (sym c.list.ensures) ∙ c.in_ok-moved.ensures.same;
      text = Some text;
      settled = record {
        served = there.served;
        says = there.says;
        book = subst (λ (b : Book). IsMovedBook (book_of (store_in k)) text there.served b) (sym c.hand_over-left.ensures.book) there.book;
        by_itself = subst (λ (b : Book). (replayed b.file []).rows ≡ b.rows) (sym c.hand_over-left.ensures.book) there.by_itself;
        sure = c.hand_over-left.ensures.sure ∙ there.sure;
        there = λ known. file_past k.places c.file.ensures.apart (record { mode = mode_of c.in_ok-bytes.field-0.mode; bytes = text }) P u v (others known) (run known) (g.met.D.Disk.counts_now c.hand_over-left.new.disk) (there.there known);
        handed = handed_so g.D.Disk.is_known k.places (lines_in (store_in k)) text c.hand_over-left.result c.err.result (store_of c.hand_over-left.new.self) v c.err.ensures.value
            (subst (λ (q : List ℕ). OnOk c.hand_over-left.result (IsTrue g.D.Disk.is_known → FileIsThere q (copy_with text) v)) c.copy.ensures.value
            (subst (λ (b : List ℕ). OnOk c.hand_over-left.result (IsTrue g.D.Disk.is_known → FileIsThere c.copy.result.now (copy_with b) v)) c.as_bytes.ensures.value c.hand_over-left.ensures.there))
            (on_ok c.hand_over-left.result (λ taken. (taken.0 ∙ same, taken.1)) c.hand_over-left.ensures.taken_out)
            (on_err c.hand_over-left.result (λ still. still ∙ there.lines) c.hand_over-left.ensures.refused);
      };
      alone = tt;
    })

pub returns-clause-any_moment : goal.returns-clause-any_moment
returns-clause-any_moment g c known =
    let s = g.D.Disk.state in
    let k : Kept g.row.D.Denot = record { keeper = c.self.inside.keeper; disk = c.self.inside.disk; places = c.self.inside.paths.now } in
    let file : File = record { mode = c.in_ok-bytes.field-0.mode; bytes = c.in_ok-bytes.field-0.bytes } in
    let seen : (s k.disk).seen k.places.file ≡ Some file = cc (c.in_ok-bytes.ensures.read known, c.file.ensures.value) in
    let text = string_bytes c.in-Some.text in
    let u = s c.settle.new.disk in
    let v = s c.hand_over-left.new.disk in
    let at = c.settle.ensures.path ∙ c.self.invariant.path in
    let p = path_of_store (store_of c.settle.new.self) in
    let P : List ℕ → Type 0 = λ f. StandsFor f (damaged (lines_in (store_of c.settle.new.self))) in
    let moved = subst (λ (o : Option _). IsMovedIf g.D.Disk.is_known (store_in k) c.file-2.result.now (mode_of c.in_ok-bytes.field-0.mode) (option_map string_bytes o) (store_of c.settle.new.self) u) c.in-Some.is c.in_ok-moved.ensures.settled in
    let there = subst (λ (q : List ℕ). IsMovedIf g.D.Disk.is_known (store_in k) q (mode_of c.in_ok-bytes.field-0.mode) (Some text) (store_of c.settle.new.self) u) c.file-2.ensures.value moved in
    let rest : JournalIsAtRest k.places.journal (lines_in (store_in k) ++ mark_line text ∷ []) (journal_of (store_of c.settle.new.self)).size u =
    subst (λ (ls : List (List ℕ)). JournalIsAtRest k.places.journal ls (journal_of (store_of c.settle.new.self)).size u) there.lines
    (subst (λ (q : List ℕ). JournalIsAtRest q (lines_in (store_of c.settle.new.self)) (journal_of (store_of c.settle.new.self)).size u) at (there.whole known)) in
    let same : damaged (lines_in (store_of c.settle.new.self)) ≡ damaged (lines_in (store_in k)) = ap damaged there.lines ∙ damaged_marked (lines_in (store_in k)) text in
    let run : LeavesOnly u v (Exchanging k.places.journal k.places.copy (copy_with text) (λ f. StandsFor f (damaged (lines_in (store_in k)))) u) =
    subst (λ (ls : List (List ℕ)). LeavesOnly u v (Exchanging k.places.journal k.places.copy (copy_with text) (λ f. StandsFor f ls) u)) same
    (subst (λ (q : List ℕ). LeavesOnly u v (Exchanging q k.places.copy (copy_with text) P u)) at
    (subst (λ (q : List ℕ). LeavesOnly u v (Exchanging p q (copy_with text) P u)) c.copy.ensures.value
    (subst (λ (b : List ℕ). LeavesOnly u v (Exchanging p c.copy.result.now (copy_with b) P u)) c.as_bytes.ensures.value (c.hand_over-left.ensures.any_moment known)))) in
    subst (λ (k : Kept g.row.D.Denot). LeavesOnly (s k.disk) v (LeftBySettling (store_in k) k.places (s k.disk))) c.self.view_is
    (then_handed (store_in k) k.places (s k.disk) file seen (s c.read_file.new.disk) u (c.read_file.ensures.alone known) (c.read_file.ensures.any_moment known) (subst (λ (q : List ℕ). LeavesOnly (s c.read_file.new.disk) u (LeftByMove (store_in k) q (mode_of c.in_ok-bytes.field-0.mode) (s c.read_file.new.disk))) c.file-2.ensures.value (c.settle.ensures.any_moment known))
    c.file.ensures.apart c.self.invariant.path text there.served there.says (journal_of (store_of c.settle.new.self)).size (there.there known) rest (g.met.D.Disk.counts_now c.settle.new.disk) v run)

pub settle-requires-clause-file : goal.settle-requires-clause-file
settle-requires-clause-file g c =
    let s = g.D.Disk.state in
    let store = store_of c.self.inside.keeper in
    subst (λ (p : List ℕ). FileHolds g.D.Disk.is_known store p (s c.read_file.new.disk)) (sym c.file-2.ensures.value)
    (holds_alone g.D.Disk.is_known store store c.self.inside.paths.now.file (s c.self.inside.disk) (s c.read_file.new.disk) c.read_file.ensures.alone refl c.self.invariant.file)

pub invariant_of-self-2 : goal.invariant_of-self-2
invariant_of-self-2 g c =
    let s = g.D.Disk.state in
    let known = g.D.Disk.is_known in
    let places = c.self.inside.paths.now in
    let mid = c.settle.new.self in
    let u = s c.settle.new.disk in
    let v = s c.hand_over-left.new.disk in
    let at = c.settle.ensures.path ∙ c.self.invariant.path in
    let p = path_of_store (store_of mid) in
    let bytes = c.as_bytes.result.now in
    let P : List ℕ → Type 0 = λ f. StandsFor f (damaged (lines_in (store_of mid))) in
    let was = keeps_at known c.self.inside.keeper mid places (s c.self.inside.disk) u c.self.invariant c.settle.ensures.held c.settle.ensures.replayed c.settle.ensures.path c.file-2.result.now c.file-2.ensures.value c.settle.ensures.file in
    keeps_handed known mid c.hand_over-left.new.self places (copy_with bytes) P u v c.file.ensures.apart was c.hand_over-left.ensures.held c.hand_over-left.ensures.replayed c.hand_over-left.ensures.path
    (λ is other a b. c.hand_over-left.ensures.others is other (ap (λ (q : List ℕ). bytes_eq q other) at ∙ a) (ap (λ (q : List ℕ). bytes_eq q other) c.copy.ensures.value ∙ b))
    (λ is. subst (λ (q : List ℕ). LeavesOnly u v (Exchanging q places.copy (copy_with bytes) P u)) at
    (subst (λ (q : List ℕ). LeavesOnly u v (Exchanging p q (copy_with bytes) P u)) c.copy.ensures.value (c.hand_over-left.ensures.any_moment is)))
    (g.met.D.Disk.counts_now c.hand_over-left.new.disk) c.hand_over-left.ensures.kept

pub returns-in_err-bytes-clause-steps : goal.returns-in_err-bytes-clause-steps
returns-in_err-bytes-clause-steps g c known =
    let s = g.D.Disk.state in
    let keeper = c.self.inside.keeper in
    let places = c.self.inside.paths.now in
    let new : Kept g.row.D.Denot = record { keeper = keeper; disk = c.read_file.new.disk; places = places } in
    subst (λ (k : Kept g.row.D.Denot). SettlesInSteps s k new) c.self.view_is
    (inl (read_call g.D.Disk.is_known known s places keeper keeper c.self.inside.disk c.read_file.new.disk c.self.invariant refl (c.read_file.ensures.alone known) (c.read_file.ensures.any_moment known)))

pub returns-in_err-moved-clause-steps : goal.returns-in_err-moved-clause-steps
returns-in_err-moved-clause-steps g c known =
    let s = g.D.Disk.state in
    let keeper = c.self.inside.keeper in
    let places = c.self.inside.paths.now in
    let mode = mode_of c.in_ok-bytes.field-0.mode in
    let present = c.list.result.now in
    let mid = c.settle.new.self in
    let file : File = record { mode = c.in_ok-bytes.field-0.mode; bytes = c.in_ok-bytes.field-0.bytes } in
    let seen : (s c.self.inside.disk).seen places.file ≡ Some file = cc (c.in_ok-bytes.ensures.read known, c.file.ensures.value) in
    let there : bytes_of_file ((s c.read_file.new.disk).seen places.file) ≡ present =
    ap (λ (image : Image). bytes_of_file (image places.file)) (c.read_file.ensures.alone known).seen ∙ ap bytes_of_file seen ∙ sym c.list.ensures in
    let new : Kept g.row.D.Denot = record { keeper = mid; disk = c.settle.new.disk; places = places } in
    let now = keeps_at g.D.Disk.is_known keeper mid places (s c.self.inside.disk) (s c.settle.new.disk) c.self.invariant c.settle.ensures.held c.settle.ensures.replayed c.settle.ensures.path c.file-2.result.now c.file-2.ensures.value c.settle.ensures.file in
    subst (λ (k : Kept g.row.D.Denot). SettlesInSteps s k new) c.self.view_is
    (not_settled g.D.Disk.is_known known s places keeper mid c.self.inside.disk c.read_file.new.disk c.settle.new.disk mode present c.self.invariant (c.read_file.ensures.alone known) (c.read_file.ensures.any_moment known) there
    (subst (λ (q : List ℕ). FailsInSteps g.D.Disk.is_known s (store_of keeper) q mode present c.read_file.new.disk (store_of mid) c.settle.new.disk) c.file-2.ensures.value (c.in_err-moved.ensures.begun known)) now)

pub returns-clause-steps : goal.returns-clause-steps
returns-clause-steps g c known =
    let s = g.D.Disk.state in
    let keeper = c.self.inside.keeper in
    let places = c.self.inside.paths.now in
    let mode = mode_of c.in_ok-bytes.field-0.mode in
    let present = c.list.result.now in
    let text = string_bytes c.in-Some.text in
    let mid = c.settle.new.self in
    let last = c.hand_over-left.new.self in
    let r = c.read_file.new.disk in
    let u = c.settle.new.disk in
    let v = c.hand_over-left.new.disk in
    let file : File = record { mode = c.in_ok-bytes.field-0.mode; bytes = c.in_ok-bytes.field-0.bytes } in
    let seen : (s c.self.inside.disk).seen places.file ≡ Some file = cc (c.in_ok-bytes.ensures.read known, c.file.ensures.value) in
    let there : bytes_of_file ((s r).seen places.file) ≡ present =
    ap (λ (image : Image). bytes_of_file (image places.file)) (c.read_file.ensures.alone known).seen ∙ ap bytes_of_file seen ∙ sym c.list.ensures in
    let new : Kept g.row.D.Denot = record { keeper = last; disk = v; places = places } in
    let now = keeps_at g.D.Disk.is_known keeper mid places (s c.self.inside.disk) (s u) c.self.invariant c.settle.ensures.held c.settle.ensures.replayed c.settle.ensures.path c.file-2.result.now c.file-2.ensures.value c.settle.ensures.file in
    let at = c.settle.ensures.path ∙ c.self.invariant.path in
    let p = path_of_store (store_of mid) in
    let P : List ℕ → Type 0 = λ f. StandsFor f (damaged (lines_in (store_of mid))) in
    let moved = subst (λ (q : List ℕ). IsMovedIf g.D.Disk.is_known (store_of keeper) q mode (Some text) (store_of mid) (s u)) c.file-2.ensures.value
    (subst (λ (o : Option _). IsMovedIf g.D.Disk.is_known (store_of keeper) c.file-2.result.now mode (option_map string_bytes o) (store_of mid) (s u)) c.in-Some.is c.in_ok-moved.ensures.settled) in
    let steps = subst (λ (q : List ℕ). MovesInSteps g.D.Disk.is_known s (store_of keeper) q mode present r (Some text) (store_of mid) u) c.file-2.ensures.value
    (subst (λ (o : Option _). MovesInSteps g.D.Disk.is_known s (store_of keeper) c.file-2.result.now mode present r (option_map string_bytes o) (store_of mid) u) c.in-Some.is (c.in_ok-moved.ensures.steps known)) in
    let run : LeavesOnly (s u) (s v) (Exchanging p places.copy (copy_with text) P (s u)) =
    subst (λ (q : List ℕ). LeavesOnly (s u) (s v) (Exchanging p q (copy_with text) P (s u))) c.copy.ensures.value
    (subst (λ (b : List ℕ). LeavesOnly (s u) (s v) (Exchanging p c.copy.result.now (copy_with b) P (s u))) c.as_bytes.ensures.value (c.hand_over-left.ensures.any_moment known)) in
    let same = (c.hand_over-left.ensures.others known places.file (ap (λ (q : List ℕ). bytes_eq q places.file) at ∙ c.self.invariant.apart)
    (ap (λ (q : List ℕ). bytes_eq q places.file) c.copy.ensures.value ∙ apart_back places.file places.copy (file_is_other places c.file.ensures.apart))).0 in
    let hand = hand_call g.D.Disk.is_known known s places mid last u v (record { mode = mode; bytes = text }) text c.hand_over-left.result moved.by_itself moved.sure (moved.there known)
    (on_ok c.hand_over-left.result (λ taken. taken.0) c.hand_over-left.ensures.taken_out) c.hand_over-left.ensures.refused c.hand_over-left.ensures.book c.hand_over-left.ensures.sure same (invariant_of-self-2 g c) run in
    subst (λ (k : Kept g.row.D.Denot). SettlesInSteps s k new) c.self.view_is
    (settled g.D.Disk.is_known known s places keeper mid c.self.inside.disk r u mode present c.self.invariant (c.read_file.ensures.alone known) (c.read_file.ensures.any_moment known) there text steps now last v hand)
