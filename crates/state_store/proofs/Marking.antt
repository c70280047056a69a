-- What a crash leaves while a file takes its place after a mark in the journal, and what stands on the disk then.
use Rattle.std.proofs.Common.{◌≡◌, inl, inr, ℕ, ◌≤◌, List, [], ◌∷◌, ◌++◌, Bool, false, Option, sym, ◌∙◌, ap, subst}
use Rattle.std.specs.Str.{bytes_eq}
use Rattle.base_disk.specs.{Image.File, Image.Image, Torn.MovesFile}
use Rattle.base_disk.specs.State.{DiskState, IsAfter, LeavesAlone, LeavesOnly}
use Rattle.base_disk.proofs.Moments.{and_then, weaker}
use Rattle.base_journal.specs.Records.{IsBeforeOrAfter, StandsFor}
use Rattle.base_journal.specs.Journals.{CrashLeaves, JournalIsAtRest, bytes_of_file}
use Rattle.base_journal.proofs.{Runs.rest_has, Steps.at_end}
use Rattle.state_store.specs.Moved.{Marking}
use Rattle.state_store.proofs.Copied.{apart_back, at_path, moves_elsewhere}

module _ (path target : List ℕ) (file : File) (lines : List (List ℕ)) (mark : List ℕ) (apart : bytes_eq path target ≡ false) (s : DiskState) where
  pub first_marked : (c : Image) → CrashLeaves path (IsBeforeOrAfter lines mark) s c → Marking path target file lines mark s c
  first_marked c left = record {
    was = left.0;
    before = left.1;
    elsewhere = λ other p q. left.2 other p;
    both = inl (left.2 target apart, left.3);
  }

  module _ (t : DiskState) (before : (d : Image) → t.may_leave d → CrashLeaves path (IsBeforeOrAfter lines mark) s d)
      (stands : (d : Image) → t.may_leave d → StandsFor (bytes_of_file (d path)) (lines ++ mark ∷ [])) where
    then_moved : (c : Image) → IsAfter (MovesFile target file) t c → Marking path target file lines mark s c
    then_moved c (d, left, inl same) = subst (Marking path target file lines mark s) (sym same) (first_marked d (before d left))
    then_moved c (d, left, inr moved) =
        let from = before d left in
        let journal : c path ≡ d path = moves_elsewhere target file d c (inr moved) path (apart_back path target apart) in
        record {
          was = from.0;
          before = from.1;
          elsewhere = λ other p q. moves_elsewhere target file d c (inr moved) other q ∙ from.2 other p;
          both = inr (
            ap (λ (image : Image). image target) moved ∙ at_path target file d,
            subst (λ (o : Option File). StandsFor (bytes_of_file o) (lines ++ mark ∷ [])) (sym journal) (stands d left),
          );
        }

  pub marked_leaves : (size : ℕ) (t u : DiskState) → LeavesOnly s t (CrashLeaves path (IsBeforeOrAfter lines mark) s) → ((m : ℕ) (c : Image) → m ≤ t.moment → t.may_leave c → t.left_since m c)
      → JournalIsAtRest path (lines ++ mark ∷ []) size t → LeavesOnly t u (IsAfter (MovesFile target file) t) → LeavesOnly s u (Marking path target file lines mark s)
  marked_leaves size t u first counts rest second =
      and_then s t u (Marking path target file lines mark s) (IsAfter (MovesFile target file) t)
      (weaker s t (CrashLeaves path (IsBeforeOrAfter lines mark) s) (Marking path target file lines mark s) first first_marked)
      second
      (then_moved t (at_end s t (CrashLeaves path (IsBeforeOrAfter lines mark) s) first counts) (rest_has path (lines ++ mark ∷ []) size t rest))

-- a journal at rest is so behind a call that changes nothing
pub rest_alone : (path : List ℕ) (lines : List (List ℕ)) (size : ℕ) (s t : DiskState) → LeavesAlone s t → JournalIsAtRest path lines size s → JournalIsAtRest path lines size t
rest_alone path lines size s t alone rest = record {
  are_lines = rest.are_lines;
  mode = rest.mode;
  seen = ap (λ (image : Image). image path) alone.seen ∙ rest.seen;
  size_is = rest.size_is;
  is_kept = record {
    sound = ap (λ (f : List ℕ → Bool). f path) alone.sound ∙ rest.is_kept.sound;
    durable = λ c left. rest.is_kept.durable c (alone.crash c left) ∙ ap (λ (image : Image). image path) (sym alone.seen);
  };
}
