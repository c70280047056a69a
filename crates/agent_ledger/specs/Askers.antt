-- Askers: over the lanes of each of them what one file of a credential holds is looked up, and the broker's word on it is heard.
-- Source: docs/running.md, "Secrets by file".
use Rattle.std.specs.Prelude.{◌≡◌, ℕ, ◌==◌, Bool, false, not, ◌&&◌, ◌||◌, List, [], ◌∷◌, Option, Some, None, Result, Ok, Err, bytes_eq, is_none, is_some, length}
use Rattle.std.specs.declared.alloc.AllocError.{AllocError}
use Rattle.std.specs.List.{list_any, position, slice_get, slice_set}
use Rattle.vault_asking.specs.Sending.{Lanes}
use Rattle.base_clock.specs.declared.reading.Reading.{Reading}
use Rattle.vault_proving.specs.{Lookups.CandidateGoesOut, Lookups.InquiryGoesOn, declared.candidate.Candidate.Candidate}
use Rattle.agent_words.specs.Moments.{second_of}
use Rattle.agent_ledger.specs.{declared.asked_file.AskedFile.AskedFile, declared.asker.Asker.Asker, declared.asker.FileWord.FileWord}

-- ---- which of them look something up

abbrev pub is_free : {L : Type 0} → Asker L → Bool
is_free asker = is_none asker.asked && not (is_some asker.proving.asked)

-- the place of the first that looks nothing up
abbrev pub free_place : {L : Type 0} → List (Asker L) → Option ℕ
free_place askers = position is_free askers

-- files may be looked at: one of them is free, or there are none, and nothing is looked up
abbrev pub may_look : {L : Type 0} → List (Asker L) → Bool
may_look askers = length askers == 0 || list_any is_free askers

-- one of them looks something up
abbrev pub is_any_asking : {L : Type 0} → List (Asker L) → Bool
is_any_asking askers = list_any (λ a. not (is_free a)) askers

-- what that file holds for the entry of that name is looked up
abbrev pub is_file_of : List ℕ → List ℕ → Option AskedFile → Bool
is_file_of name file None = false
is_file_of name file (Some a) = bytes_eq a.due.name name && bytes_eq a.due.file file

abbrev pub asks_for : {L : Type 0} → List ℕ → List ℕ → Asker L → Bool
asks_for name file asker = is_file_of name file asker.asked

abbrev pub is_asked_for : {L : Type 0} → List ℕ → List ℕ → List (Asker L) → Bool
is_asked_for name file askers = list_any (asks_for name file) askers

-- ---- what a file holds is looked up

module _ {L : Type 0} (lanes_seen : L → Lanes) (port : L → ℕ) where
  -- the lookup goes out over its lanes; or memory is wanting for it
  abbrev pub FileGoesOut : Reading → AskedFile → Candidate → Result (Unit {0}) AllocError → Asker L → Asker L → Type 0
  FileGoesOut now a c (Ok x) old new =
      (new.asked ≡ Some a) × ((new.proving.asked ≡ Some c) × CandidateGoesOut (port old.proving.lanes) (second_of now.wall) now.elapsed c (lanes_seen old.proving.lanes) (lanes_seen new.proving.lanes))
  FileGoesOut now a c (Err e) old new = (new.asked ≡ old.asked) × (new.proving.asked ≡ None)

  -- over those of the asker at that place
  abbrev pub AskerAsks : ℕ → Reading → AskedFile → Candidate → Result (Unit {0}) AllocError → List (Asker L) → List (Asker L) → Type 0
  AskerAsks i now a c result old new = (asker : Asker L) × ((after : Asker L) × ((slice_get old i ≡ Some asker) × (FileGoesOut now a c result asker after × (new ≡ slice_set old i after))))

-- ---- and the broker's word on it is heard

module _ {L : Type 0} (lanes_seen : L → Lanes) (now : ℕ) where
  -- once that is there; till then it is waited for. Where memory is wanting for the word, it is waited for no more
  abbrev pub HearsOf : AskedFile → Result (Option FileWord) AllocError → Asker L → Asker L → Type 0
  HearsOf a (Ok None) old new = (new.asked ≡ Some a) × InquiryGoesOn now old.proving.asked (lanes_seen old.proving.lanes) None new.proving.asked (lanes_seen new.proving.lanes)
  HearsOf a (Ok (Some word)) old new =
      (word.asked ≡ a) × ((new.asked ≡ None) × InquiryGoesOn now old.proving.asked (lanes_seen old.proving.lanes) (Some word.verdict) new.proving.asked (lanes_seen new.proving.lanes))
  HearsOf a (Err e) old new = (new.asked ≡ None) × (new.proving.asked ≡ None)

  abbrev pub HearsIf : Option AskedFile → Result (Option FileWord) AllocError → Asker L → Asker L → Type 0
  HearsIf None result old new = (result ≡ Ok None) × (new ≡ old)
  HearsIf (Some a) result old new = HearsOf a result old new

  -- those after it follow, unless there is a word on its file
  abbrev pub HearsByWord : Result (Option FileWord) AllocError → (Result (Option FileWord) AllocError → List (Asker L) → Type 0) → List (Asker L) → Result (Option FileWord) AllocError → List (Asker L) → Type 0
  HearsByWord (Ok None) Follow rest result left = Follow result left
  HearsByWord (Ok (Some word)) Follow rest result left = (result ≡ Ok (Some word)) × (left ≡ rest)
  HearsByWord (Err e) Follow rest result left = (result ≡ Err e) × (left ≡ rest)

  -- one after another, until there is a word on the file of one
  abbrev pub HearsFirst : List (Asker L) → Result (Option FileWord) AllocError → List (Asker L) → Type 0
  HearsFirst [] result new = (result ≡ Ok None) × (new ≡ [])
  HearsFirst (asker ∷ rest) result [] = ⊥
  HearsFirst (asker ∷ rest) result (heard ∷ left) = (word : Result (Option FileWord) AllocError) × (HearsIf asker.asked word asker heard × HearsByWord word (HearsFirst rest) rest result left)
