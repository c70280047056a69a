-- FILE becomes what is kept, and then the copy is FILE and the journal without its records: what a crash leaves meanwhile, and what is there then.
use Rattle.std.proofs.Common.{◌≡◌, ◌⊎◌, inl, inr, ⊎_elim, ℕ, ◌≤◌, Bool, false, ◌||◌, IsTrue, List, [], ◌∷◌, ◌++◌, Option, Some, Result, Ok, Err, OnOk, OnErr, refl, sym, ap, subst, ◌∙◌}
use Rattle.std.specs.{Str.bytes_eq, Result.result_err}
use Rattle.std.proofs.lemmas.Bool.{or_parts}
use Rattle.base_disk.specs.{declared.fault.DiskFault.DiskFault, Image.File, Image.Image}
use Rattle.base_disk.specs.State.{DiskState, LeavesAlone, LeavesOnly}
use Rattle.base_disk.proofs.Moments.{and_then, weaker}
use Rattle.base_journal.specs.Records.{StandsFor}
use Rattle.base_journal.specs.Journals.{Exchanging, FileIsThere, JournalIsAtRest, JournalIsWhole, bytes_of_file}
use Rattle.base_journal.proofs.Runs.{rest_has}
use Rattle.state_keeping.proofs.Others.{apart_back, at_end}
use Rattle.vault_inventory.specs.Served.{Served}
use Rattle.state_store.specs.{declared.store.Store.Store, Compacted.damaged}
use Rattle.state_store.specs.Moved.{LeftByMove, SaysAllKept, mark_line}
use Rattle.state_store.specs.Stores.{book_of, journal_of, lines_in, path_of_store}
use Rattle.state_keeping.specs.Places.{Places, PlacesAreApart}
use Rattle.state_keeping.specs.Settles.{HandingOver, IsHandedOver, LeftBySettling, copy_with, mode_of}

-- FILE is none of the folder's files
pub file_is_other : (p : Places) → PlacesAreApart p → bytes_eq p.file p.copy ≡ false
file_is_other p apart =
    let rest = (or_parts (bytes_eq p.file p.journal) (bytes_eq p.file p.copy || (bytes_eq p.file p.aside || bytes_eq p.file p.lock)) apart.inside).1 in
    (or_parts (bytes_eq p.file p.copy) (bytes_eq p.file p.aside || bytes_eq p.file p.lock) rest).0

pub file_is_no_journal : (p : Places) → PlacesAreApart p → bytes_eq p.file p.journal ≡ false
file_is_no_journal p apart = (or_parts (bytes_eq p.file p.journal) (bytes_eq p.file p.copy || (bytes_eq p.file p.aside || bytes_eq p.file p.lock)) apart.inside).0

-- what a crash leaves before the copy
abbrev Half : Store → Places → DiskState → Image → Type 0
Half store places s c = s.may_leave c ⊎ ((file : File) × (s.seen places.file ≡ Some file) × LeftByMove store places.file (mode_of file.mode) s c)

-- an outcome that is as one before, but for FILE and the journal
record Since (places : Places) (s : DiskState) (d : Image) : Type 0 where
  pub was : Image
  pub before : s.may_leave was
  pub elsewhere : (other : List ℕ) → bytes_eq places.file other ≡ false → bytes_eq places.journal other ≡ false → d other ≡ was other

module _ (store : Store) (places : Places) (s : DiskState) (file : File) (seen : s.seen places.file ≡ Some file) (t u : DiskState) (alone : LeavesAlone s t) (run : LeavesOnly s t s.may_leave)
    (second : LeavesOnly t u (LeftByMove store places.file (mode_of file.mode) t)) where
  move_past : (c : Image) → LeftByMove store places.file (mode_of file.mode) t c → LeftByMove store places.file (mode_of file.mode) s c
  move_past c (inl left) = inl (alone.crash c left)
  move_past c (inr (text, v, says, left)) = inr (text, v, says, record { was = left.was; before = alone.crash left.was left.before; elsewhere = left.elsewhere; both = left.both })

  half_done : LeavesOnly s u (Half store places s)
  half_done = and_then s t u (Half store places s) (LeftByMove store places.file (mode_of file.mode) t) (weaker s t s.may_leave (Half store places s) run (λ c left. inl left)) second
      (λ c left. inr (file, seen, move_past c left))

  means_half : (c : Image) → Half store places s c → LeftBySettling store places s c
  means_half c (inl left) = inl left
  means_half c (inr (f, is, left)) = inr (f, is, inl left)

  pub not_copied : LeavesOnly s u (LeftBySettling store places s)
  not_copied = weaker s u (Half store places s) (LeftBySettling store places s) half_done means_half

  -- FILE is there, and the journal has its mark
  module _ (apart : PlacesAreApart places) (path : path_of_store store ≡ places.journal) (text : List ℕ) (v : Served) (says : SaysAllKept (book_of store) text v) (size : ℕ)
      (there : FileIsThere places.file (record { mode = mode_of file.mode; bytes = text }) u) (rest : JournalIsAtRest places.journal (lines_in store ++ mark_line text ∷ []) size u)
      (counts : (n : ℕ) (c : Image) → n ≤ u.moment → u.may_leave c → u.left_since n c) where
    since_half : (d : Image) → Half store places s d → Since places s d
    since_half d (inl left) = record { was = d; before = left; elsewhere = λ other p q. refl }
    since_half d (inr (f, is, inl left)) = record { was = d; before = left; elsewhere = λ other p q. refl }
    since_half d (inr (f, is, inr (told, w, said, left))) = record {
      was = left.was;
      before = left.before;
      elsewhere = λ other p q. left.elsewhere other (ap (λ (j : List ℕ). bytes_eq j other) path ∙ q) p;
    }

    handing : (c : Image) → Exchanging places.journal places.copy (copy_with text) (λ f. StandsFor f (damaged (lines_in store))) u c → HandingOver store places (mode_of file.mode) text s c
    handing c x =
        let from = since_half x.was (at_end s u (Half store places s) half_done counts x.was x.before) in
        let stands : StandsFor (bytes_of_file (x.was places.journal)) (lines_in store ++ mark_line text ∷ []) = rest_has places.journal (lines_in store ++ mark_line text ∷ []) size u rest x.was x.before in
        let still : c places.journal ≡ x.was places.journal → StandsFor (bytes_of_file (c places.journal)) (lines_in store ++ mark_line text ∷ []) =
        λ same. subst (λ (o : Option File). StandsFor (bytes_of_file o) (lines_in store ++ mark_line text ∷ [])) (sym same) stands in
        let file_back = apart_back places.file places.journal (file_is_no_journal places apart) in
        let copy_back = apart_back places.file places.copy (file_is_other places apart) in
        record {
          was = from.was;
          before = from.before;
          elsewhere = λ other p q r. x.elsewhere other q r ∙ from.elsewhere other p q;
          file = x.elsewhere places.file file_back copy_back ∙ there.is_kept.durable x.was x.before ∙ there.seen;
          both = ⊎_elim
              (λ old. inl (old.0 ∙ from.elsewhere places.copy (file_is_other places apart) apart.journal_copy, still old.1))
              (λ new. inr (new.0, ⊎_elim (λ same. inl (still same)) (λ none. inr none) new.1))
              x.both;
        }

    pub then_handed : (w : DiskState) → LeavesOnly u w (Exchanging places.journal places.copy (copy_with text) (λ f. StandsFor f (damaged (lines_in store))) u) → LeavesOnly s w (LeftBySettling store places s)
    then_handed w third = and_then s u w (LeftBySettling store places s) (Exchanging places.journal places.copy (copy_with text) (λ f. StandsFor f (damaged (lines_in store))) u) not_copied third
        (λ c left. inr (file, seen, inr (text, v, says, handing c left)))

-- FILE is still there once the journal was handed over
pub file_past : (places : Places) → PlacesAreApart places → (file : File) (P : List ℕ → Type 0) (s t : DiskState)
    → ((other : List ℕ) → bytes_eq places.journal other ≡ false → bytes_eq places.copy other ≡ false → (t.seen other ≡ s.seen other) × (t.is_sound other ≡ s.is_sound other))
    → LeavesOnly s t (Exchanging places.journal places.copy (copy_with file.bytes) P s)
    → ((n : ℕ) (c : Image) → n ≤ t.moment → t.may_leave c → t.left_since n c) → FileIsThere places.file file s → FileIsThere places.file file t
file_past places apart file P s t others run counts there =
    let file_back = apart_back places.file places.journal (file_is_no_journal places apart) in
    let copy_back = apart_back places.file places.copy (file_is_other places apart) in
    let same = others places.file file_back copy_back in
    record {
      seen = same.0 ∙ there.seen;
      is_kept = record {
        sound = same.1 ∙ there.is_kept.sound;
        durable = λ c left.
            let x = at_end s t (Exchanging places.journal places.copy (copy_with file.bytes) P s) run counts c left in
            x.elsewhere places.file file_back copy_back ∙ there.is_kept.durable x.was x.before ∙ sym same.0;
      };
    }

pub on_err : {X E A B : Type 0} (r : Result X E) → (A → B) → OnErr r A → OnErr r B
on_err (Ok x) f a = tt
on_err (Err e) f a = f a

-- the copy is FILE and the journal without its records, or the fault says why not
pub handed_so : (known : Bool) (places : Places) (lines : List (List ℕ)) (text : List ℕ) (r : Result (Unit {0}) DiskFault) (left : Option DiskFault) (new : Store) (t : DiskState) → left ≡ result_err r
    → OnOk r (IsTrue known → FileIsThere places.copy (copy_with text) t) → OnOk r ((lines_in new ≡ damaged lines) × (IsTrue known → JournalIsWhole (journal_of new) t))
    → OnErr r (lines_in new ≡ lines ++ mark_line text ∷ []) → IsHandedOver known places lines text left new t
handed_so known places lines text (Ok x) left new t same there taken stays =
    subst (λ (o : Option DiskFault). IsHandedOver known places lines text o new t) (sym same) (taken.0, λ is. (there is, taken.1 is))
handed_so known places lines text (Err e) left new t same there taken stays = subst (λ (o : Option DiskFault). IsHandedOver known places lines text o new t) (sym same) stays
