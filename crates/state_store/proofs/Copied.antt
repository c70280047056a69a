-- A copy that is put in its place, beside the file of a journal, which is left alone.
use Rattle.std.proofs.Common.{◌≡◌, inl, inr, ⊎_elim, ℕ, List, Some, Bool, true, false, if◌then◌else◌, Result, Ok, Err, OnOk, refl, sym, ◌∙◌, ap}
use Rattle.std.proofs.lemmas.Bool.{true≢false, cases_Bool, cond-false}
use Rattle.std.proofs.lemmas.Slice.Eq.{bytes_eq-Decides}
use Rattle.std.specs.Str.{bytes_eq}
use Rattle.base_disk.specs.Torn.{MovesFile}
use Rattle.base_disk.specs.Image.{File, Image, SameElsewhere, with_file_at}
use Rattle.base_disk.specs.State.{DiskState, OutcomesFollow, DiskKeeps}
use Rattle.base_journal.specs.Journals.{FileIsThere, JournalIsAtRest}

pub on_ok : {X E A B : Type 0} (r : Result X E) → (A → B) → OnOk r A → OnOk r B
on_ok (Ok x) f a = f a
on_ok (Err e) f a = tt

-- a path is another than this one either way round
pub apart_back : (path other : List ℕ) → bytes_eq path other ≡ false → bytes_eq other path ≡ false
apart_back path other apart = ⊎_elim
    (λ same. absurd (true≢false (sym ((bytes_eq-Decides path other).1 (sym ((bytes_eq-Decides other path).0 same))) ∙ apart)))
    (λ no. no)
    (cases_Bool (bytes_eq other path))

pub at_path : (path : List ℕ) (file : File) (image : Image) → with_file_at path file image path ≡ Some file
at_path path file image = ap (λ (b : Bool). if b then Some file else image path) ((bytes_eq-Decides path path).1 refl)

pub moves_elsewhere : (copy : List ℕ) (file : File) (a b : Image) → MovesFile copy file a b → SameElsewhere copy a b
moves_elsewhere copy file a b (inl same) other apart = ap (λ (image : Image). image other) same
moves_elsewhere copy file a b (inr moved) other apart = ap (λ (image : Image). image other) moved ∙ cond-false (bytes_eq copy other) (Some file) (a other) apart

pub in_place : (copy : List ℕ) (file : File) (s t : DiskState) → t.seen ≡ with_file_at copy file s.seen → DiskKeeps copy t → FileIsThere copy file t
in_place copy file s t is is_kept = record { seen = ap (λ (image : Image). image copy) is ∙ at_path copy file s.seen; is_kept = is_kept }

module _ (path copy : List ℕ) (file : File) (s t : DiskState) (moves : MovesFile copy file s.seen t.seen) (sound : (other : List ℕ) → bytes_eq copy other ≡ false → t.is_sound other ≡ s.is_sound other) (before : OutcomesFollow (MovesFile copy file) s t) where
  kept_past : bytes_eq copy path ≡ false → DiskKeeps path s → DiskKeeps path t
  kept_past apart is = record {
    sound = sound path apart ∙ is.sound;
    durable = λ c left.
        let from = before c left in
        moves_elsewhere copy file from.0 c from.2 path apart ∙ is.durable from.0 from.1 ∙ sym (moves_elsewhere copy file s.seen t.seen moves path apart);
  }

  pub rest_past : (lines : List (List ℕ)) (size : ℕ) → bytes_eq path copy ≡ false → JournalIsAtRest path lines size s → JournalIsAtRest path lines size t
  rest_past lines size apart rest = record {
    are_lines = rest.are_lines;
    mode = rest.mode;
    seen = moves_elsewhere copy file s.seen t.seen moves path (apart_back path copy apart) ∙ rest.seen;
    size_is = rest.size_is;
    is_kept = kept_past (apart_back path copy apart) rest.is_kept;
  }
