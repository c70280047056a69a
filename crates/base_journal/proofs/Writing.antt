-- What the calls that write a journal's file make of it: a record that is added, a file that is made anew.
use Rattle.std.proofs.Common.{◌≡◌, inl, ℕ, ◌+◌, ◌-◌, List, [], ◌∷◌, ◌++◌, length, length-append, Some, ◌∙◌, ap, refl, arith}
use Rattle.base_disk.specs.{Torn.Torn, Torn.Tears, declared.fault.DiskFault.DiskFault}
use Rattle.base_disk.specs.Image.{Image, image_changed, with_file_at, with_bytes, overwritten}
use Rattle.base_disk.specs.State.{DiskState, DiskKeeps, OutcomesFollow, IsAfter}
use Rattle.base_disk.specs.declared.fault.DiskFault.TheVariants.{Failed, TooLong, OutOfMemory}
use Rattle.base_journal.specs.Records.{IsRecordLine, AreLines, block, blocks, at_rest, StandsFor, IsBeforeOrAfter}
use Rattle.base_journal.specs.Journals.{JournalIsAtRest, CrashLeaves, TellsLength}
use Rattle.base_journal.proofs.Readings.{staged, blocks_push, length-at_rest, length-block, torn_behind, written_behind, torn_gate, written_gate, size_then, lines_push}
use Rattle.base_journal.proofs.Steps.{at_path, seen_then, torn_leaves, torn_again}

-- a record is added
module _ (path : List ℕ) (lines : List (List ℕ)) (size : ℕ) (s : DiskState) (rest : JournalIsAtRest path lines size s) (line : List ℕ) (is_line : IsRecordLine line) where
  pub behind_leaves : (n : ℕ) (c : Image) → IsAfter (Tears path (Torn (size + 1) n)) s c → CrashLeaves path (IsBeforeOrAfter lines line) s c
  behind_leaves n c after = torn_leaves path s (Torn (size + 1) n) (IsBeforeOrAfter lines line) rest.mode (at_rest lines) rest.seen rest.is_kept
      (λ f torn. inl (torn_behind lines size rest.are_lines rest.size_is n f torn)) c after

  -- of what is written behind a closed gate nothing counts
  pub closed_leaves : (n : ℕ) (c : Image) → IsAfter (Tears path (Torn (size + 1) n)) s c → CrashLeaves path (λ f. StandsFor f lines) s c
  closed_leaves n c after = torn_leaves path s (Torn (size + 1) n) (λ f. StandsFor f lines) rest.mode (at_rest lines) rest.seen rest.is_kept
      (λ f torn. torn_behind lines size rest.are_lines rest.size_is n f torn) c after

  module _ (tail : List ℕ) (tail_is : tail ≡ line ++ 10 ∷ 45 ∷ []) (t : DiskState) (written : t.seen ≡ image_changed path (with_bytes (overwritten (size + 1) tail)) s.seen) where
    staged_seen : t.seen path ≡ Some (record { mode = rest.mode; bytes = staged lines line })
    staged_seen =
        let bytes : overwritten (size + 1) tail (at_rest lines) ≡ staged lines line =
        written_behind lines size rest.are_lines rest.size_is tail ∙ ap (λ (l : List ℕ). blocks lines ++ 45 ∷ l) tail_is in
        seen_then path s t (overwritten (size + 1) tail) rest.mode (at_rest lines) rest.seen written
        ∙ (λ i. Some (record { mode = rest.mode; bytes = bytes i }))

    pub appended : (u : DiskState) → u.seen ≡ image_changed path (with_bytes (overwritten size (43 ∷ []))) t.seen → DiskKeeps path u
        → JournalIsAtRest path (lines ++ line ∷ []) (size + (length line + 2)) u
    appended u opened is_kept = record {
      are_lines = lines_push lines line rest.are_lines is_line;
      mode = rest.mode;
      seen = seen_then path t u (overwritten size (43 ∷ [])) rest.mode (staged lines line) staged_seen opened
          ∙ (λ i. Some (record { mode = rest.mode; bytes = written_gate lines size rest.are_lines rest.size_is line is_line i }));
      size_is = size_then lines size rest.are_lines rest.size_is line is_line;
      is_kept = is_kept;
    }

    pub gate_leaves : DiskKeeps path t → (n : ℕ) → OutcomesFollow (Tears path (Torn (size + 1) n)) s t → (c : Image) → IsAfter (Tears path (Torn size 1)) t c
        → CrashLeaves path (IsBeforeOrAfter lines line) s c
    gate_leaves is_kept n before c after =
        torn_again path s t (Torn (size + 1) n) (Torn size 1) (IsBeforeOrAfter lines line) rest.mode (staged lines line) staged_seen is_kept before
        (torn_gate lines size rest.are_lines rest.size_is line is_line) c after

-- a file is made anew
module _ (path : List ℕ) (lines : List (List ℕ)) (are : AreLines lines) (s t : DiskState) (mode : ℕ) (text : List ℕ) (text_is : text ≡ at_rest lines) where
  pub made_anew : (size : ℕ) → size ≡ length text - 1 → t.seen ≡ with_file_at path (record { mode = mode; bytes = text }) s.seen → DiskKeeps path t → JournalIsAtRest path lines size t
  made_anew size size_is placed_is is_kept = record {
    are_lines = are;
    mode = mode;
    seen = ap (λ (image : Image). image path) placed_is ∙ at_path path (λ _. Some (record { mode = mode; bytes = text })) s.seen
        ∙ (λ i. Some (record { mode = mode; bytes = text_is i }));
    size_is = let long : length text ≡ length (at_rest lines) = ap length text_is in omega (arith, size_is, long, length-at_rest lines (length (blocks lines)) are refl);
    is_kept = is_kept;
  }

-- ---- how long a file is

-- with a record more
pub longer : (lines : List (List ℕ)) (line : List ℕ) → length (at_rest (lines ++ line ∷ [])) ≡ length (blocks lines) + (length line + 3)
longer lines line =
    let all : at_rest (lines ++ line ∷ []) ≡ blocks lines ++ (block line ++ 45 ∷ []) = blocks_push lines line (45 ∷ []) in
    let long : length (at_rest (lines ++ line ∷ [])) ≡ length (blocks lines ++ (block line ++ 45 ∷ [])) = ap length all in
    omega (arith, long, length-append (blocks lines) (block line ++ 45 ∷ []), length-append (block line) (45 ∷ []), length-block line)

-- what is too long without it is so with it
pub longer_still : (lines : List (List ℕ)) (line : List ℕ) (fault : DiskFault) → TellsLength (length (at_rest lines)) fault → TellsLength (length (at_rest (lines ++ line ∷ []))) fault
longer_still lines line (Failed why) tells = tt
longer_still lines line TooLong tells = omega (arith, tells, longer lines line, length-append (blocks lines) (45 ∷ []))
longer_still lines line OutOfMemory tells = tt
