-- What runs of several steps leave, and what they keep.
use Rattle.std.proofs.Common.{◌≡◌, inl, ℕ, ◌≤◌, List, false, Some, ◌∙◌, ap}
use Rattle.std.specs.Str.{bytes_eq}
use Rattle.base_disk.specs.Image.{File, Image, with_file_at}
use Rattle.base_disk.specs.State.{DiskState, DiskKeeps, LeavesOnly}
use Rattle.base_disk.proofs.Moments.{weaker, and_then}
use Rattle.base_journal.specs.Records.{at_rest, StandsFor, IsBeforeOrAfter}
use Rattle.base_journal.specs.Journals.{bytes_of_file, JournalIsAtRest, CrashLeaves, KeepsOthers, FileIsThere}
use Rattle.base_journal.proofs.Readings.{stands_at_rest}
use Rattle.base_journal.proofs.Steps.{at_path, at_end, leaves_weaker, leaves_then, kept_has, kept_past}

-- the file's records, where it is at rest with them
pub rest_has : (path : List ℕ) (lines : List (List ℕ)) (size : ℕ) (t : DiskState) → JournalIsAtRest path lines size t → (d : Image) → t.may_leave d → StandsFor (bytes_of_file (d path)) lines
rest_has path lines size t rest = kept_has path t rest.mode (at_rest lines) (λ f. StandsFor f lines) rest.seen rest.is_kept (stands_at_rest lines rest.are_lines)

-- a record is added once the file is at rest
pub put_leaves : (path : List ℕ) (lines : List (List ℕ)) (line : List ℕ) (size : ℕ) (s t u : DiskState) → LeavesOnly s t (CrashLeaves path (λ f. StandsFor f lines) s)
    → ((m : ℕ) (c : Image) → m ≤ t.moment → t.may_leave c → t.left_since m c) → JournalIsAtRest path lines size t
    → LeavesOnly t u (CrashLeaves path (IsBeforeOrAfter lines line) t) → LeavesOnly s u (CrashLeaves path (IsBeforeOrAfter lines line) s)
put_leaves path lines line size s t u first counts rest second =
    and_then s t u (CrashLeaves path (IsBeforeOrAfter lines line) s) (CrashLeaves path (IsBeforeOrAfter lines line) t)
    (weaker s t (CrashLeaves path (λ f. StandsFor f lines) s) (CrashLeaves path (IsBeforeOrAfter lines line) s) first (leaves_weaker path (λ f. StandsFor f lines) (IsBeforeOrAfter lines line) s (λ f stands. inl stands)))
    second
    (leaves_then path s t (λ f. StandsFor f lines) (IsBeforeOrAfter lines line) (IsBeforeOrAfter lines line) (at_end s t (CrashLeaves path (λ f. StandsFor f lines) s) first counts)
    (λ d left. inl (rest_has path lines size t rest d left)) (λ f has. has))

-- or is not, and nothing of it counts
pub unput_leaves : (path : List ℕ) (lines : List (List ℕ)) (size : ℕ) (s t u : DiskState) → LeavesOnly s t (CrashLeaves path (λ f. StandsFor f lines) s)
    → ((m : ℕ) (c : Image) → m ≤ t.moment → t.may_leave c → t.left_since m c) → JournalIsAtRest path lines size t
    → LeavesOnly t u (CrashLeaves path (λ f. StandsFor f lines) t) → LeavesOnly s u (CrashLeaves path (λ f. StandsFor f lines) s)
unput_leaves path lines size s t u first counts rest second =
    and_then s t u (CrashLeaves path (λ f. StandsFor f lines) s) (CrashLeaves path (λ f. StandsFor f lines) t) first second
    (leaves_then path s t (λ f. StandsFor f lines) (λ f. StandsFor f lines) (λ f. StandsFor f lines) (at_end s t (CrashLeaves path (λ f. StandsFor f lines) s) first counts)
    (rest_has path lines size t rest) (λ f has. has))

-- a file is put in its place, which is not the journal's
module _ (path target : List ℕ) (file : File) (apart : bytes_eq path target ≡ false) (s t : DiskState) where
  pub in_place : t.seen ≡ with_file_at target file s.seen → DiskKeeps target t → FileIsThere target file t
  in_place placed_is is_kept = record { seen = ap (λ (image : Image). image target) placed_is ∙ at_path target (λ _. Some file) s.seen; is_kept = is_kept }

  -- it stays there while the journal is made anew
  pub there_past : (P : List ℕ → Type 0) (u : DiskState) → FileIsThere target file t → KeepsOthers path t u → LeavesOnly t u (CrashLeaves path P t)
      → ((m : ℕ) (c : Image) → m ≤ u.moment → u.may_leave c → u.left_since m c) → FileIsThere target file u
  there_past P u there others run counts = record {
    seen = others.seen target apart ∙ there.seen;
    is_kept = kept_past path target t u apart others there.is_kept (λ c left. let l = at_end t u (CrashLeaves path P t) run counts c left in (l.0, l.1, l.2));
  }
