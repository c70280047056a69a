-- A settling step by step: the mark in the journal, and then the file in its place.
use Rattle.std.proofs.Common.{◌≡◌, ◌⊎◌, ℕ, Bool, List, [], ◌∷◌, ◌++◌, ap, subst, ◌∙◌}
use Rattle.std.specs.Prelude.{string_bytes}
use Rattle.base_disk.specs.Torn.{MovesFile}
use Rattle.base_disk.specs.State.{DiskState, IsAfter, LeavesOnly}
use Rattle.base_journal.specs.Records.{IsBeforeOrAfter}
use Rattle.base_journal.specs.Journals.{CrashLeaves, JournalHolds, JournalIsWhole, KeepsOthers}
use Rattle.state_store.specs.{declared.settling.Moving.Moving, declared.store.Store.Store, code.Moving.IsMoving}
use Rattle.state_store.specs.Moved.{IsInPlace, IsNotInPlace, PutsFile, PutsMark}
use Rattle.state_store.specs.Stores.{FileHolds, IsReplayed, book_of, is_sure, journal_of, lines_in, path_of_store}
use Rattle.state_store.proofs.MovedOn.{marked_replays}

module _ {D : Type 0} (known : Bool) (state : D → DiskState) (old : Store) (m : Moving) (is : IsMoving (book_of old) m) (target : List ℕ) (s t : D) where
  pub puts_mark : (new : Store) → IsReplayed old → book_of new ≡ book_of old → is_sure new ≡ is_sure old → path_of_store new ≡ path_of_store old
      → (lines_in new ≡ lines_in old) ⊎ (lines_in new ≡ lines_in old ++ m.line ∷ []) → JournalHolds known (journal_of new) (state t) → FileHolds known new target (state t)
      → KeepsOthers (path_of_store old) (state s) (state t) → LeavesOnly (state s) (state t) (CrashLeaves (path_of_store old) (IsBeforeOrAfter (lines_in old) m.line) (state s))
      → PutsMark known state old target (string_bytes m.text) s new t
  puts_mark new so book sure path lines held file others run = record {
    book = book;
    sure = sure;
    path = path;
    lines = subst (λ (l : List ℕ). (lines_in new ≡ lines_in old) ⊎ (lines_in new ≡ lines_in old ++ l ∷ [])) is.line_is lines;
    held = held;
    replayed = marked_replays old m is new so book lines;
    file = file;
    others = others;
    any_moment = subst (λ (l : List ℕ). LeavesOnly (state s) (state t) (CrashLeaves (path_of_store old) (IsBeforeOrAfter (lines_in old) l) (state s))) is.line_is run;
  }

  pub puts_file : (mode : ℕ) (present bytes : List ℕ) (marked new : Store) → lines_in marked ≡ lines_in old ++ m.line ∷ [] → JournalIsWhole (journal_of marked) (state s) → journal_of new ≡ journal_of marked
      → bytes ≡ string_bytes m.text → MovesFile target (record { mode = mode; bytes = bytes }) (state s).seen (state t).seen
      → LeavesOnly (state s) (state t) (IsAfter (MovesFile target (record { mode = mode; bytes = bytes })) (state s))
      → IsInPlace target (record { mode = mode; bytes = string_bytes m.text }) is.served marked new (state t) ⊎ IsNotInPlace target present marked new (state t)
      → PutsFile state marked target (record { mode = mode; bytes = string_bytes m.text }) is.served present s new t
  puts_file mode present bytes marked new lines whole journal text seen run outcome = record {
    marked = (lines_in old, lines ∙ ap (λ (l : List ℕ). lines_in old ++ l ∷ []) is.line_is);
    whole = whole;
    journal = journal;
    seen = subst (λ (b : List ℕ). MovesFile target (record { mode = mode; bytes = b }) (state s).seen (state t).seen) text seen;
    any_moment = subst (λ (b : List ℕ). LeavesOnly (state s) (state t) (IsAfter (MovesFile target (record { mode = mode; bytes = b })) (state s))) text run;
    outcome = outcome;
  }
