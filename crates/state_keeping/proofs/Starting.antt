-- What a crash leaves while the journal of a folder is opened, and what stands on the disk then.
use Rattle.std.proofs.Common.{◌≡◌, ◌⊎◌, inl, inr, ⊎_elim, ℕ, suc, ◌-◌, ◌≤◌, List, [], ◌∷◌, ◌++◌, Option, Some, None, IfSome, is_none, option_to_list, length, Bool, false, refl, sym, ap, subst, ◌∙◌, arith}
use Rattle.std.specs.Str.{bytes_eq}
use Rattle.state_changes.specs.{declared.change.Record.Record, Records.record_of}
use Rattle.base_disk.specs.Image.{File, Image, SameElsewhere}
use Rattle.base_disk.specs.State.{DiskState, Elapses, IsAfter, LeavesAlone, LeavesOnly}
use Rattle.base_disk.proofs.Moments.{and_then, goes_on, started}
use Rattle.base_journal.specs.{Journals.Exchanging, Journals.bytes_of_file, Records.StandsFor, Records.lines_kept}
use Rattle.state_store.specs.{Compacted.damages, Compacted.undamaged, Records.records_in}
use Rattle.state_store.proofs.Undamaged.{same_records}
use Rattle.state_keeping.specs.{Places.Places, Recovers.LeftByStart}
use Rattle.state_keeping.proofs.Others.{apart_back, at_end}

module _ (lines : List (List ℕ)) (places : Places) (s : DiskState) where
  -- the journal's file is as in an image that has P, and no other file is changed but those two
  pub from_one : (d c : Image) → LeftByStart lines places s d → c places.journal ≡ d places.journal
      → ((other : List ℕ) → bytes_eq places.journal other ≡ false → bytes_eq places.aside other ≡ false → bytes_eq places.copy other ≡ false → c other ≡ d other) → LeftByStart lines places s c
  from_one d c has same elsewhere = record {
    was = has.was;
    before = has.before;
    journal = ⊎_elim
        (λ old. inl (same ∙ old))
        (λ stands. inr (stands.0, subst (λ (file : Option File). StandsFor (bytes_of_file file) stands.0) (sym same) stands.1, stands.2))
        has.journal;
    elsewhere = λ other a b e. elsewhere other a b e ∙ has.elsewhere other a b e;
  }

  -- or it stands for lines with the same records
  pub anew : (d c : Image) (now : List (List ℕ)) → LeftByStart lines places s d → StandsFor (bytes_of_file (c places.journal)) now → records_in now ≡ records_in lines
      → ((other : List ℕ) → bytes_eq places.journal other ≡ false → bytes_eq places.aside other ≡ false → bytes_eq places.copy other ≡ false → c other ≡ d other) → LeftByStart lines places s c
  anew d c now has stands same elsewhere = record {
    was = has.was;
    before = has.before;
    journal = inr (now, stands, same);
    elsewhere = λ other a b e. elsewhere other a b e ∙ has.elsewhere other a b e;
  }

  pub as_before : (c : Image) → s.may_leave c → LeftByStart lines places s c
  as_before c left = record { was = c; before = left; journal = inl refl; elsewhere = λ other a b e. refl }

  -- the lock, and then the journal is read
  pub begun : (t u : DiskState) → ((c : Image) → s.left_since s.moment c → s.may_leave c) → LeavesAlone s t → Elapses s t → LeavesAlone t u → Elapses t u → LeavesOnly s u (LeftByStart lines places s)
  begun t u only alone time alone_then time_then =
      let locked = goes_on s s t (LeftByStart lines places s) (started s (LeftByStart lines places s) only as_before) time (λ c left. as_before c (alone.crash c left)) in
      goes_on s t u (LeftByStart lines places s) locked time_then (λ c left. as_before c (alone.crash c (alone_then.crash c left)))

  module _ (t u : DiskState) (run : LeavesOnly s t (LeftByStart lines places s)) (counts : (n : ℕ) (c : Image) → n ≤ t.moment → t.may_leave c → t.left_since n c) where
    now_has : (c : Image) → t.may_leave c → LeftByStart lines places s c
    now_has = at_end s t (LeftByStart lines places s) run counts

    pub exchanged : (file : File) → LeavesOnly t u (Exchanging places.journal places.aside file (λ f. StandsFor f (undamaged lines)) t) → LeavesOnly s u (LeftByStart lines places s)
    exchanged file second = and_then s t u (LeftByStart lines places s) (Exchanging places.journal places.aside file (λ f. StandsFor f (undamaged lines)) t) run second means
      where
        means : (c : Image) → Exchanging places.journal places.aside file (λ f. StandsFor f (undamaged lines)) t c → LeftByStart lines places s c
        means c left = elim left.both [
          | inl both ↦ from_one left.was c (now_has left.was left.before) both.1 (λ other a b e. left.elsewhere other a b)
          | inr (there, inl same) ↦ from_one left.was c (now_has left.was left.before) same (λ other a b e. left.elsewhere other a b)
          | inr (there, inr has) ↦ anew left.was c (undamaged lines) (now_has left.was left.before) has (same_records lines) (λ other a b e. left.elsewhere other a b)
        ]

    pub then_aside : (path aside : List ℕ) (read : List (List ℕ)) → path ≡ places.journal → aside ≡ places.aside → read ≡ lines → (file : File)
        → LeavesOnly t u (Exchanging path aside file (λ f. StandsFor f (undamaged read)) t) → LeavesOnly s u (LeftByStart lines places s)
    then_aside path aside read at beside same file second =
        exchanged file (subst (λ (l : List (List ℕ)). LeavesOnly t u (Exchanging places.journal places.aside file (λ f. StandsFor f (undamaged l)) t)) same
        (subst (λ (a : List ℕ). LeavesOnly t u (Exchanging places.journal a file (λ f. StandsFor f (undamaged read)) t)) beside
        (subst (λ (p : List ℕ). LeavesOnly t u (Exchanging p aside file (λ f. StandsFor f (undamaged read)) t)) at second)))

    pub copied : bytes_eq places.journal places.copy ≡ false → LeavesOnly t u (IsAfter (SameElsewhere places.copy) t) → LeavesOnly s u (LeftByStart lines places s)
    copied apart second = and_then s t u (LeftByStart lines places s) (IsAfter (SameElsewhere places.copy) t) run second means
      where
        means : (c : Image) → IsAfter (SameElsewhere places.copy) t c → LeftByStart lines places s c
        means c (d, left, elsewhere) = from_one d c (now_has d left) (elsewhere places.journal (apart_back places.journal places.copy apart)) (λ other a b e. elsewhere other e)

-- ---- lines that are all records

one_more : (lines : List (List ℕ)) (o : Option Record) → length (records_in lines) ≤ length lines → length (option_to_list o ++ records_in lines) ≤ suc (length lines)
one_more lines None so = omega (arith, so)
one_more lines (Some r) so = omega (arith, so)

no_more : (lines : List (List ℕ)) → length (records_in lines) ≤ length lines
unfolding records_in
no_more [] = omega arith
no_more (line ∷ lines) = one_more lines (record_of line) (no_more lines)

module _ (line : List ℕ) (lines : List (List ℕ)) where
  good_first : (o : Option Record) → length (option_to_list o ++ records_in lines) ≡ suc (length lines) → (length (records_in lines) ≡ length lines → undamaged lines ≡ lines)
      → lines_kept (line ∷ lines) (is_none o ∷ damages lines) ≡ line ∷ lines
  good_first None e so = let most = no_more lines in absurd (omega (arith, e, most))
  good_first (Some r) e so = ap (λ (ls : List (List ℕ)). line ∷ ls) (so (omega (arith, e)))

all_good : (lines : List (List ℕ)) → length (records_in lines) ≡ length lines → undamaged lines ≡ lines
unfolding records_in damages
all_good [] e = refl
all_good (line ∷ lines) e = good_first line lines (record_of line) e (all_good lines)

pub none_damaged : (lines : List (List ℕ)) → length lines - length (records_in lines) ≡ 0 → lines ≡ undamaged lines
none_damaged lines none = let most = no_more lines in sym (all_good lines (omega (arith, none, most)))

pub stands_before : (path at : List ℕ) (lines : List (List ℕ)) (s t : DiskState) → path ≡ at → LeavesAlone s t → StandsFor (bytes_of_file (t.seen path)) lines → StandsFor (bytes_of_file (s.seen at)) lines
stands_before path at lines s t same alone stands =
    subst (λ (image : Image). StandsFor (bytes_of_file (image at)) lines) alone.seen (subst (λ (p : List ℕ). StandsFor (bytes_of_file (t.seen p)) lines) same stands)

-- ---- the lock

-- a disk gave the lock of the file that it was asked for
pub lock_is : {X : Type 0} → (given : Option X) (lock asked path : X) → given ≡ Some lock → IfSome given (λ l. l ≡ asked) → asked ≡ path → lock ≡ path
lock_is given lock asked path is held same = subst (λ o. IfSome o (λ l. l ≡ asked)) is held ∙ same

-- and so nobody else holds it
pub none_holds : {X : Type 0} → (given : Option X) (lock : X) (taken : Bool) → given ≡ Some lock → is_none given ≡ taken → taken ≡ false
none_holds given lock taken is none = sym none ∙ ap is_none is
