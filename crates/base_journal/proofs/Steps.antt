-- What each step of a journal leaves on its disk.
use Rattle.std.proofs.Common.{◌≡◌, ◌⊎◌, inl, inr, ⊎_elim, ℕ, ◌≤◌, List, Option, None, Some, Bool, true, false, if◌then◌else◌, Result, Ok, Err, OnOk, OnErr, refl, sym, ◌∙◌, ap, subst}
use Rattle.std.proofs.lemmas.Bool.{true≢false, cases_Bool}
use Rattle.std.proofs.lemmas.Slice.Eq.{bytes_eq-Decides}
use Rattle.std.specs.Str.{bytes_eq}
use Rattle.base_disk.specs.declared.fault.DiskFault.{DiskFault}
use Rattle.base_disk.specs.Image.{File, Image, SameElsewhere, image_changed, with_bytes}
use Rattle.base_disk.specs.Torn.{Tears, MovesFile, IsTornFile}
use Rattle.base_disk.specs.State.{DiskState, DiskKeeps, IsNotTooLong, OutcomesFollow, IsAfter, LeavesOnly}
use Rattle.base_disk.specs.declared.fault.DiskFault.TheVariants.{Failed, TooLong, OutOfMemory}
use Rattle.base_journal.specs.Journals.{bytes_of_file, CrashLeaves, KeepsOthers, Exchanging, TellsLength}

pub other_side : {X : Type 0} (b : Bool) (x y : X) → b ≡ false → (if b then x else y) ≡ y
other_side true x y is = absurd (true≢false is)
other_side false x y is = refl

-- a path is another than this one either way round
pub apart_back : (path other : List ℕ) → bytes_eq path other ≡ false → bytes_eq other path ≡ false
apart_back path other apart = ⊎_elim
    (λ same. absurd (true≢false (sym ((bytes_eq-Decides path other).1 (sym ((bytes_eq-Decides other path).0 same))) ∙ apart)))
    (λ no. no)
    (cases_Bool (bytes_eq other path))

-- the changed path, and each other
pub at_path : (path : List ℕ) (change : Option File → Option File) (image : Image) → image_changed path change image path ≡ change (image path)
at_path path change image = ap (λ (b : Bool). if b then change (image path) else image path) ((bytes_eq-Decides path path).1 refl)

pub elsewhere_changed : (path : List ℕ) (change : Option File → Option File) (image : Image) → SameElsewhere path image (image_changed path change image)
elsewhere_changed path change image other apart = other_side (bytes_eq path other) (change (image other)) (image other) apart

-- what is torn of a file that is known
pub torn_bytes : (step : List ℕ → List ℕ → Type 0) (a b : Option File) (mode : ℕ) (bytes : List ℕ) → a ≡ Some (record { mode = mode; bytes = bytes }) → IsTornFile step a b → step bytes (bytes_of_file b)
torn_bytes step a b mode bytes is torn = there b (subst (λ (o : Option File). IsTornFile step o b) is torn)
  where
    there : (o : Option File) → IsTornFile step (Some (record { mode = mode; bytes = bytes })) o → step bytes (bytes_of_file o)
    there None none = absurd none
    there (Some file) some = some.1

-- a write or a cut of a file that is known
pub seen_then : (path : List ℕ) (s t : DiskState) (change : List ℕ → List ℕ) (mode : ℕ) (bytes : List ℕ) → s.seen path ≡ Some (record { mode = mode; bytes = bytes })
    → t.seen ≡ image_changed path (with_bytes change) s.seen → t.seen path ≡ Some (record { mode = mode; bytes = change bytes })
seen_then path s t change mode bytes was is = ap (λ (image : Image). image path) is ∙ at_path path (with_bytes change) s.seen ∙ ap (with_bytes change) was

-- what is on the disk has what its bytes have
pub kept_has : (path : List ℕ) (t : DiskState) (mode : ℕ) (bytes : List ℕ) (R : List ℕ → Type 0) → t.seen path ≡ Some (record { mode = mode; bytes = bytes }) → DiskKeeps path t → R bytes
    → (d : Image) → t.may_leave d → R (bytes_of_file (d path))
kept_has path t mode bytes R was is_kept has d left = subst (λ (o : Option File). R (bytes_of_file o)) (sym (is_kept.durable d left ∙ was)) has

-- what a crash leaves at the end of a run
pub at_end : (old new : DiskState) (P : Image → Type 0) → LeavesOnly old new P → ((t : ℕ) (c : Image) → t ≤ new.moment → new.may_leave c → new.left_since t c) → (c : Image) → new.may_leave c → P c
at_end old new P run counts c now = run.each c (counts old.moment c run.later now)

-- nothing has changed yet
pub still_leaves : (path : List ℕ) (P : List ℕ → Type 0) (s : DiskState) (c : Image) → s.may_leave c → CrashLeaves path P s c
still_leaves path P s c now = (c, now, (λ other apart. refl), inl refl)

pub leaves_weaker : (path : List ℕ) (P Q : List ℕ → Type 0) (s : DiskState) → ((f : List ℕ) → P f → Q f) → (c : Image) → CrashLeaves path P s c → CrashLeaves path Q s c
leaves_weaker path P Q s means c left = (left.0, left.1, left.2, ⊎_elim (λ same. inl same) (λ p. inr (means (bytes_of_file (c path)) p)) left.3)

-- what one torn call leaves
pub torn_leaves : (path : List ℕ) (s : DiskState) (step : List ℕ → List ℕ → Type 0) (P : List ℕ → Type 0) (mode : ℕ) (bytes : List ℕ)
    → s.seen path ≡ Some (record { mode = mode; bytes = bytes }) → DiskKeeps path s → ((f : List ℕ) → step bytes f → P f) → (c : Image) → IsAfter (Tears path step) s c → CrashLeaves path P s c
torn_leaves path s step P mode bytes was is_kept means c after = (
  after.0,
  after.1,
  after.2.elsewhere,
  inr (means (bytes_of_file (c path)) (torn_bytes step (after.0 path) (c path) mode bytes (is_kept.durable after.0 after.1 ∙ was) after.2.there)),
)

-- and a second one, once the first is synced
pub torn_again : (path : List ℕ) (s t : DiskState) (first second : List ℕ → List ℕ → Type 0) (P : List ℕ → Type 0) (mode : ℕ) (bytes : List ℕ)
    → t.seen path ≡ Some (record { mode = mode; bytes = bytes }) → DiskKeeps path t → OutcomesFollow (Tears path first) s t
    → ((f : List ℕ) → second bytes f → P f) → (c : Image) → IsAfter (Tears path second) t c → CrashLeaves path P s c
torn_again path s t first second P mode bytes was is_kept before means c after =
    let from = before after.0 after.1 in (
      from.0,
      from.1,
      (λ other apart. after.2.elsewhere other apart ∙ from.2.elsewhere other apart),
      inr (means (bytes_of_file (c path)) (torn_bytes second (after.0 path) (c path) mode bytes (is_kept.durable after.0 after.1 ∙ was) after.2.there)),
    )

-- a run after one whose records are on the disk
pub leaves_then : (path : List ℕ) (s t : DiskState) (P Q R : List ℕ → Type 0) → ((d : Image) → t.may_leave d → CrashLeaves path P s d)
    → ((d : Image) → t.may_leave d → R (bytes_of_file (d path))) → ((f : List ℕ) → Q f → R f) → (c : Image) → CrashLeaves path Q t c → CrashLeaves path R s c
leaves_then path s t P Q R before stands means c left =
    let from = before left.0 left.1 in (
      from.0,
      from.1,
      (λ other apart. left.2 other apart ∙ from.2 other apart),
      inr (⊎_elim (λ same. subst (λ (o : Option File). R (bytes_of_file o)) (sym same) (stands left.0 left.1)) (means (bytes_of_file (c path))) left.3),
    )

pub moves_elsewhere : (path : List ℕ) (file : File) (a b : Image) → MovesFile path file a b → SameElsewhere path a b
moves_elsewhere path file a b (inl same) other apart = ap (λ (image : Image). image other) same
moves_elsewhere path file a b (inr moved) other apart = ap (λ (image : Image). image other) moved ∙ elsewhere_changed path (λ _. Some file) a other apart

-- a file that another call left alone is still on the disk
pub kept_past : (path other : List ℕ) (s t : DiskState) → bytes_eq path other ≡ false → KeepsOthers path s t → DiskKeeps other s
    → ((c : Image) → t.may_leave c → (d : Image) × s.may_leave d × SameElsewhere path d c) → DiskKeeps other t
kept_past path other s t apart others was from = record {
  sound = others.sound other apart ∙ was.sound;
  durable = λ c left.
      let d = from c left in
      d.2 other apart ∙ was.durable d.0 d.1 ∙ sym (others.seen other apart);
}

-- the two files of an exchange
module _ (path target : List ℕ) (file : File) (P : List ℕ → Type 0) (apart : bytes_eq path target ≡ false) (s : DiskState) where
  -- the first takes its place
  pub first_in_place : (c : Image) → IsAfter (MovesFile target file) s c → Exchanging path target file P s c
  first_in_place c after = record {
    was = after.0;
    before = after.1;
    elsewhere = λ other p q. moves_elsewhere target file after.0 c after.2 other q;
    both = outcome after.2;
  }
    where
      outcome : MovesFile target file after.0 c → ((c target ≡ after.0 target) × (c path ≡ after.0 path)) ⊎ ((c target ≡ Some file) × ((c path ≡ after.0 path) ⊎ P (bytes_of_file (c path))))
      outcome (inl same) = inl (ap (λ (image : Image). image target) same, ap (λ (image : Image). image path) same)
      outcome (inr moved) = inr (
        ap (λ (image : Image). image target) moved ∙ at_path target (λ _. Some file) after.0,
        inl (ap (λ (image : Image). image path) moved ∙ elsewhere_changed target (λ _. Some file) after.0 path (apart_back path target apart)),
      )

-- a run after a call that changed nothing
pub leaves_past : (path : List ℕ) (P : List ℕ → Type 0) (s t : DiskState) → ((c : Image) → t.may_leave c → s.may_leave c) → (c : Image) → CrashLeaves path P t c → CrashLeaves path P s c
leaves_past path P s t before c left = (left.0, before left.0 left.1, left.2, left.3)

-- two facts of a call that went well, and one that holds either way
pub on_both : {X E A B C : Type 0} (r : Result X E) → (A → B → C) → OnOk r A → OnOk r B → OnOk r C
on_both (Ok x) f a b = f a b
on_both (Err e) f a b = tt

pub on_any : {X E A : Type 0} (r : Result X E) → A → OnOk r A
on_any (Ok x) a = a
on_any (Err e) a = tt

-- and one of a call that was refused
pub on_refused : {X E A : Type 0} (r : Result X E) → A → OnErr r A
on_refused (Ok x) a = tt
on_refused (Err e) a = a

-- a call that finds nothing too long tells no length
pub not_long : (size : ℕ) (fault : DiskFault) → IsNotTooLong fault → TellsLength size fault
not_long size (Failed why) is = tt
not_long size TooLong is = absurd is
not_long size OutOfMemory is = tt
