-- Laws of changes and their records. Each is the contract of a public function without a body.
use Rattle.std.specs.Prelude.{◌≡◌, ℕ, false, List, [], ◌∷◌, ◌++◌, Some, bytes_eq}
use Rattle.base_words.specs.Laws.{Lacks}
use Rattle.state_changes.specs.{declared.change.Record.Record, declared.change.Record.TheVariants.Settling, Compaction.compacted, declared.replaying.File.File, Replay.replay_begun, Replay.replayed}
use Rattle.state_changes.specs.Records.{IsRecord, record_of, record_text}

-- the text of a record is read as that record
abbrev pub RecordWrittenIsRead : Type 0
RecordWrittenIsRead = (r : Record) → IsRecord r → record_of (record_text r) ≡ Some r

-- and no other text is
abbrev pub RecordReadIsWritten : Type 0
RecordReadIsWritten = (text : List ℕ) (r : Record) → record_of text ≡ Some r → IsRecord r × (text ≡ record_text r)

-- no line feed stands in it
abbrev pub RecordLineLaw : Type 0
RecordLineLaw = (r : Record) → IsRecord r → Lacks 10 (record_text r)

-- after the record that a file is to hold every change, that file alone says what there is, without a note
abbrev pub SettledLaw : Type 0
SettledLaw = (f : File) (rs : List Record) → replayed f (rs ++ Settling f.mark ∷ []) ≡ replay_begun f

-- and as long as another file is there, all is as it was
abbrev pub UnsettledLaw : Type 0
UnsettledLaw = (f : File) (rs : List Record) (mark : List ℕ) → bytes_eq mark f.mark ≡ false → replayed f (rs ++ Settling mark ∷ []) ≡ replayed f rs

-- the records without those that are void give the same inventory, whatever the file says
abbrev pub CompactedLaw : Type 0
CompactedLaw = (f : File) (rs : List Record) → (replayed f (compacted rs)).rows ≡ (replayed f rs).rows
