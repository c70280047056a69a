-- Telling: what a ledger says that is filled, and so what a start says, or a folder that is opened later. For `fill_and_say`, `filled`,
-- `start_with` and `later_with`.
use Rattle.std.proofs.Common.{◌≡◌, ◌∙◌, ℕ, List, [], ◌∷◌, ◌++◌, Option, Some, Result, ap, map, subst}
use Rattle.std.specs.Prelude.{IfOk, OnErr}
use Rattle.std.specs.declared.alloc.AllocError.{AllocError}
use Rattle.agent_ledger.specs.{Ledgers.IsFilledOn, Rereading.said_notes, Untouched.IsAsItWas, declared.ledger.Ledger.Ledger}
use Rattle.agent_words.specs.declared.said.About.TheVariants as abouts
use Rattle.agent_words.specs.declared.said.SaidLine.{SaidLine}
use Rattle.base_files.specs.Files.{Files}
use Rattle.base_log.specs.declared.level.Level.TheVariants as levels
use Rattle.state_changes.specs.declared.replaying.JournalNote.{JournalNote}
use Rattle.state_keeping.specs.{Places.Places, declared.opening.OpenedState.OpenedState}
use Rattle.state_keeping.specs.States.{Kept, book_in, store_in}
use Rattle.state_store.specs.{Records.records_in, Stores.lines_in}
use Rattle.agent_start.specs.{Later.open_text, declared.start.Start.Start}
use Rattle.agent_start.specs.Telling.{SaysAtStart, SaysFilled, SaysLater, SaysStart, after_opened, files_line, said_of_files}
use Rattle.agent_system.specs.{Saying.said_as, Whole.folder_of}

-- the lines about the journal, and then that about files
pub says_filled :
    {D : Type 0} → (known : Files) (folder : List ℕ) (now : ℕ) (notes : List JournalNote) (old new : Kept D) (before heard after : List SaidLine) (lines : List (List ℕ)) (filled : Result (Option (List ℕ)) AllocError) →
    after ≡ heard ++ said_of_files (files_line filled) → IfOk filled (λ line. IsFilledOn known folder now line old new) → OnErr filled (IsAsItWas old new) → heard ≡ before ++ map (said_as levels.Note abouts.Journal) lines →
    lines ≡ said_notes (book_in old).file.margin (records_in (lines_in (store_in old))) notes → SaysFilled known folder now notes old new before after
says_filled known folder now notes old new before heard after lines filled said taken untaken pushed noted =
    record {
      filled = filled;
      taken = taken;
      untaken = untaken;
      said = said ∙ ap (λ (l : List SaidLine). l ++ said_of_files (files_line filled)) (pushed ∙ ap (λ (l : List (List ℕ)). before ++ map (said_as levels.Note abouts.Journal) l) noted);
    }

pub says_at_start :
    {D : Type 0} → (known : Files) (folder : List ℕ) (notes : List JournalNote) (old mid new : Kept D) (before after : List SaidLine) → SaysFilled known folder 0 notes old mid before after → store_in new ≡ store_in mid → SaysAtStart known folder notes old new before after
says_at_start known folder notes old mid new before after says store = record { mid = mid; says = says; store = store }

-- ---- of what was opened

pub says_start :
    {D I L : Type 0} → (known held : Files) (places : Places) (o : OpenedState D) (before heard : List SaidLine) (s : Start (Ledger D I L)) (l : Ledger D I L) (folder : List ℕ) (notes : List JournalNote) (state : Kept D) →
    s.ledger ≡ Some l → SaysAtStart held folder notes state l.state heard s.said.items → held ≡ known → folder ≡ folder_of places.file → notes ≡ o.notes.items → state ≡ o.state → heard ≡ after_opened places o before → SaysStart known places o before s
says_start {D = D} known held places o before heard s l folder notes state there says files within noted is opened =
    record {
      ledger = l;
      is_there = there;
      says =
          subst (λ (h : List SaidLine). SaysAtStart known (folder_of places.file) o.notes.items o.state l.state h s.said.items) opened
          (subst (λ (k : Kept D). SaysAtStart known (folder_of places.file) o.notes.items k l.state heard s.said.items) is
          (subst (λ (n : List JournalNote). SaysAtStart known (folder_of places.file) n state l.state heard s.said.items) noted
          (subst (λ (f : List ℕ). SaysAtStart known f notes state l.state heard s.said.items) within
          (subst (λ (k : Files). SaysAtStart k folder notes state l.state heard s.said.items) files says))));
    }

pub says_later :
    {D I L : Type 0} → (known held : Files) (places : Places) (o : OpenedState D) (name : List ℕ) (now : ℕ) (before heard mid after : List SaidLine) (l : Ledger D I L) (folder : List ℕ) (notes : List JournalNote) (state : Kept D) (words : List ℕ) →
    after ≡ mid ++ said_as levels.Note abouts.Folder words ∷ [] → words ≡ open_text name → SaysFilled held folder now notes state l.state heard mid → held ≡ known → folder ≡ folder_of places.file → notes ≡ o.notes.items → state ≡ o.state →
    heard ≡ after_opened places o before → SaysLater known places o name now before l after
says_later {D = D} known held places o name now before heard mid after l folder notes state words said worded says files within noted is opened =
    record {
      heard = mid;
      says =
          subst (λ (h : List SaidLine). SaysFilled known (folder_of places.file) now o.notes.items o.state l.state h mid) opened
          (subst (λ (k : Kept D). SaysFilled known (folder_of places.file) now o.notes.items k l.state heard mid) is
          (subst (λ (n : List JournalNote). SaysFilled known (folder_of places.file) now n state l.state heard mid) noted
          (subst (λ (f : List ℕ). SaysFilled known f now notes state l.state heard mid) within
          (subst (λ (k : Files). SaysFilled k folder now notes state l.state heard mid) files says))));
      said = said ∙ ap (λ (t : List ℕ). mid ++ said_as levels.Note abouts.Folder t ∷ []) worded;
    }
