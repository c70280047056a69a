-- The line that says that a file holds every change, and what a journal with it gives.
use Rattle.std.proofs.Common.{◌≡◌, ℕ, true, List, [], ◌∷◌, ◌++◌, Option, Some, option_to_list, refl, ap, ◌∙◌}
use Rattle.std.specs.{Cmp.Lexicographic.bytes_decides, Str.bytes_eq}
use Rattle.state_changes.specs.{declared.change.Record.Record, declared.change.Record.TheVariants.Settling, Records.record_of, Replay.ReplayState, Replay.replayed, Words.fingerprint}
use Rattle.state_changes.proofs.{ReadBack.line_law, ReadBack.written_is_read, Settling.unsettled}
use Rattle.base_journal.specs.Records.{IsRecordLine}
use Rattle.vault_inventory.specs.Served.{Served}
use Rattle.state_file.specs.Laws.{GivesRows}
use Rattle.state_file.proofs.Staying.{stays}
use Rattle.state_store.specs.{Laws.MovedLaw, Moved.SaysAllKept, Moved.mark_line, Books.Book, Books.file_of, Records.records_in, Stores.book_of, Stores.lines_in}
use Rattle.state_store.proofs.{Entered.lacking, Lists.records_none, Lists.records_push, Digits.mark_is_word}

pub mark_read : (text : List ℕ) → record_of (mark_line text) ≡ Some (Settling (fingerprint text))
mark_read text = written_is_read (Settling (fingerprint text)) (mark_is_word text)

pub mark_is_line : (text : List ℕ) → IsRecordLine (mark_line text)
mark_is_line text = lacking (mark_line text) (line_law (Settling (fingerprint text)) (mark_is_word text))

records_marked : (lines : List (List ℕ)) (text : List ℕ) → records_in (lines ++ mark_line text ∷ []) ≡ records_in lines ++ Settling (fingerprint text) ∷ []
records_marked lines text = records_push lines (mark_line text) ∙ ap (λ (o : Option Record). records_in lines ++ option_to_list o) (mark_read text)

-- a file with the text that says all, and the mark of it last in the journal
pub marked_gives : (lines : List (List ℕ)) (b : Book) (text : List ℕ) (v : Served) → SaysAllKept b text v → GivesRows (file_of text v) b.rows (records_in (lines ++ mark_line text ∷ []))
marked_gives lines b text v says =
    ap (replayed (file_of text v)) (records_marked lines text) ∙ (stays (Some b.file.margin) b.file.system_max b.rows text v says (file_of text v) refl refl (records_in lines)).0

pub moved_law : MovedLaw
moved_law store so text v says =
    let b = book_of store in
    let rs = records_in (lines_in store) in
    let gives = stays (Some b.file.margin) _ b.rows text v says (file_of text v) refl refl rs in (
      marked_gives (lines_in store) b text v says,
      ap (replayed (file_of text v)) records_none ∙ gives.1,
      λ other. ap (λ (s : ReplayState). s.rows) (ap (replayed b.file) (records_marked (lines_in store) text) ∙ unsettled b.file rs (fingerprint text) other) ∙ so,
    )

pub same_texts : (a b : List ℕ) → bytes_eq a b ≡ true → a ≡ b
same_texts a b same = (bytes_decides a b).0 same
