-- What the calls of a disk in memory make of it, one by one.
use Rattle.std.proofs.Common.{◌≡◌, ℕ, List, [], ◌∷◌, ◌++◌, length, Bool, true, false, if◌then◌else◌, Option, Some, None, Result, Ok, Err, OnOk, refl, sym, ◌∙◌, ap, subst, inl, inr, ◌⊎◌, ⊎_elim, arith, Vec}
use Rattle.std.proofs.lemmas.Bool.{true≢false}
use Rattle.std.proofs.lemmas.Slice.Eq.{bytes_eq-Decides}
use Rattle.std.specs.{declared.alloc.Global.Global, Str.bytes_eq}
use Rattle.base_disk.specs.{Image.File, Image.Image, Image.image_changed, Image.with_file_at, Image.with_bytes, Image.overwritten, Torn.Torn, Torn.Tears, Torn.MovesFile}
use Rattle.base_disk.specs.{State.DiskState, State.Beside, State.Touches, State.Elapses, State.OutcomesFollow, History.state_after_call, History.state_after_calls, History.file_after, History.left_by_call, History.file_after_all}
use Rattle.base_disk.specs.{Memory.state_of, Memory.memory_state, Memory.at_first, Memory.image_of, Memory.kept_of, Memory.beside_of, Memory.IsSame, Memory.HasEntered, Memory.EntersCall, declared.call.DiskCall.DiskCall}
use Rattle.base_disk.specs.{declared.call.CallMade.CallMade, declared.fault.DiskFault.DiskFault, declared.memory.MemoryDisk.MemoryDisk}
use Rattle.base_disk.proofs.Torn.{torn_not, tears_not}
use Rattle.base_disk.specs.declared.call.CallMade.TheVariants as what
use Rattle.base_disk.specs.declared.fault.DiskFault.TheVariants as faults

-- the last call comes after all others
pub after_all_push : (calls : List DiskCall) (call : DiskCall) (s : DiskState) → state_after_calls (calls ++ call ∷ []) s ≡ state_after_call call (state_after_calls calls s)
after_all_push [] call s = refl
after_all_push (first ∷ calls) call s = after_all_push calls call (state_after_call first s)

-- what is seen at one path
pub seen_at : (path : List ℕ) (calls : List DiskCall) (s : DiskState) → (state_after_calls calls s).seen path ≡ file_after_all path calls (s.seen path)
seen_at path [] s = refl
seen_at path (call ∷ calls) s = seen_at path calls (state_after_call call s)

-- a call on another path changes nothing at this one
other_side : {X : Type 0} (b : Bool) (x y : X) → b ≡ false → (if b then x else y) ≡ y
other_side true x y is = absurd (true≢false is)
other_side false x y is = refl

either : {X : Type 0} (b : Bool) (x : X) → (if b then x else x) ≡ x
either true x = refl
either false x = refl

module _ (call : DiskCall) (s : DiskState) (n : ℕ) where
  abbrev next : DiskState
  next = record (state_after_call call s) { faults = n }

  pub touches_after : Touches call.path.items s next
  touches_after = record {
    seen = λ other apart. other_side (bytes_eq call.path.items other) (file_after call.what (s.seen other)) (s.seen other) apart;
    beside = refl;
    sound = λ other apart. other_side (bytes_eq call.path.items other) _ (s.is_sound other) apart;
  }

  pub elapses_after : Elapses s next
  elapses_after = record {
    later = omega arith;
    nothing_else = λ t c le left. ⊎_elim (λ was. inl was) (λ now. inr now.1) left;
    keeps = λ t c le left. inl left;
  }

-- no call at all
pub elapses_still : (s : DiskState) (n : ℕ) → Elapses s (record s { faults = n })
elapses_still s n = record { later = omega arith; nothing_else = λ t c le left. inl left; keeps = λ t c le left. left }

pub touches_still : (path : List ℕ) (s : DiskState) (n : ℕ) → Touches path s (record s { faults = n })
touches_still path s n = record { seen = λ other apart. refl; beside = refl; sound = λ other apart. refl }

module _ (m n : MemoryDisk) (same : IsSame m n) where
  -- no call was entered
  pub still : n.calls.items ≡ m.calls.items → memory_state n ≡ record (memory_state m) { faults = n.faults }
  still calls = λ i. state_of (calls i) (same.files i) (same.kept i) (same.beside i) (same.taken i) n.faults (same.fault i)

  module _ (path : List ℕ) (asked : CallMade) where
    -- one call was
    pub entered : (h : HasEntered path asked m n) → memory_state n ≡ record (state_after_call (record { path = h.name; what = asked }) (memory_state m)) { faults = n.faults }
    entered h =
        (λ i. state_of (h.calls i) (same.files i) (same.kept i) (same.beside i) (same.taken i) n.faults (same.fault i))
        ∙ (λ i. record (after_all_push m.calls.items (record { path = h.name; what = asked }) (at_first (image_of m.files.items) (kept_of m.files.items m.kept) m.fault) i) { beside = beside_of m.beside; taken = λ p. m.taken; faults = n.faults; fault = m.fault })

    pub which : (r : Result Unit DiskFault) → EntersCall path asked m n r → HasEntered path asked m n ⊎ (n.calls.items ≡ m.calls.items)
    which (Ok x) h = inl h
    which (Err faults.OutOfMemory) h = inr h
    which (Err (faults.Failed why)) h = inl h
    which (Err faults.TooLong) h = inl h

    pub at_ok : (A : Type 0) (r : Result Unit DiskFault) → EntersCall path asked m n r → OnOk r A → OnOk r (A × HasEntered path asked m n)
    at_ok A (Ok x) h a = (a, h)
    at_ok A (Err fault) h a = tt

    pub touches : (r : Result Unit DiskFault) → EntersCall path asked m n r → Touches path (memory_state m) (memory_state n)
    touches r e = ⊎_elim
        (λ h. subst (Touches path (memory_state m)) (sym (entered h)) (subst (λ p. Touches p (memory_state m) (record (state_after_call (record { path = h.name; what = asked }) (memory_state m)) { faults = n.faults })) h.name_is (touches_after (record { path = h.name; what = asked }) (memory_state m) n.faults)))
        (λ none. subst (Touches path (memory_state m)) (sym (still none)) (touches_still path (memory_state m) n.faults))
        (which r e)

    pub elapses : (r : Result Unit DiskFault) → EntersCall path asked m n r → Elapses (memory_state m) (memory_state n)
    elapses r e = ⊎_elim
        (λ h. subst (Elapses (memory_state m)) (sym (entered h)) (elapses_after (record { path = h.name; what = asked }) (memory_state m) n.faults))
        (λ none. subst (Elapses (memory_state m)) (sym (still none)) (elapses_still (memory_state m) n.faults))
        (which r e)

    -- what a crash leaves then
    pub leaves : (r : Result Unit DiskFault) → EntersCall path asked m n r → (c : Image) → (memory_state n).may_leave c
        → ((name : Vec ℕ Global) × (name.items ≡ path) × left_by_call (record { path = name; what = asked }) (memory_state m) c) ⊎ (memory_state m).may_leave c
    leaves r e c left = ⊎_elim
        (λ h. inl (h.name, h.name_is, subst (λ s. s.may_leave c) (entered h) left))
        (λ none. inr (subst (λ s. s.may_leave c) (still none) left))
        (which r e)

-- the file that stands beside its place, or this one
abbrev pub file_of : Option Beside → File → File
file_of None file = file
file_of (Some beside) file = beside.file

module _ (m n : MemoryDisk) (same : IsSame m n) (path : List ℕ) where
  abbrev old : DiskState
  old = memory_state m

  abbrev new : DiskState
  new = memory_state n

  pub write_crash : (at : ℕ) (bytes : Vec ℕ Global) (done : Bool) (r : Result Unit DiskFault) → EntersCall path (what.Write at bytes done) m n r → OutcomesFollow (Tears path (Torn at (length bytes.items))) old new
  write_crash at bytes done r e c left = ⊎_elim
      (λ by. (by.2.0, by.2.1, subst (λ p. Tears p (Torn at (length bytes.items)) by.2.0 c) by.1 by.2.2))
      (λ was. (c, was, tears_not path (Torn at (length bytes.items)) (torn_not at (length bytes.items)) c))
      (leaves m n same path (what.Write at bytes done) r e c left)

  pub move_crash : (mode : ℕ) (bytes : Vec ℕ Global) (done : Bool) (r : Result Unit DiskFault) → EntersCall path (what.Move mode bytes done) m n r → OutcomesFollow (MovesFile path (record { mode = mode; bytes = bytes.items })) old new
  move_crash mode bytes done r e c left = ⊎_elim
      (λ by. (by.2.0, by.2.1, subst (λ p. MovesFile p (record { mode = mode; bytes = bytes.items }) by.2.0 c) by.1 by.2.2))
      (λ was. (c, was, inl refl))
      (leaves m n same path (what.Move mode bytes done) r e c left)

  pub sync_crash : (done : Bool) (r : Result Unit DiskFault) → EntersCall path (what.Sync done) m n r → (c : Image) → new.may_leave c → old.may_leave c
  sync_crash true r e c left = ⊎_elim (λ by. by.2.0) (λ was. was) (leaves m n same path (what.Sync true) r e c left)
  sync_crash false r e c left = ⊎_elim (λ by. by.2) (λ was. was) (leaves m n same path (what.Sync false) r e c left)

  -- a call that went well
  pub wrote : (at : ℕ) (bytes : Vec ℕ Global) (done : Bool) → done ≡ true → HasEntered path (what.Write at bytes done) m n → (new.seen ≡ image_changed path (with_bytes (overwritten at bytes.items)) old.seen) × (new.is_sound ≡ old.is_sound)
  wrote at bytes done well h =
      let all : memory_state n ≡ record (state_after_call (record { path = h.name; what = what.Write at bytes done }) (memory_state m)) { faults = n.faults } = entered m n same path (what.Write at bytes done) h in (
        ap (λ (s : DiskState). s.seen) all ∙ (λ i. image_changed (h.name_is i) (file_after (what.Write at bytes (well i))) old.seen),
        ap (λ (s : DiskState). s.is_sound) all ∙ (λ i other. if bytes_eq h.name.items other then (if well i then old.is_sound other else false) else old.is_sound other) ∙ (λ i other. either (bytes_eq h.name.items other) (old.is_sound other) i),
      )

  pub sync_seen : (done : Bool) (r : Result Unit DiskFault) → EntersCall path (what.Sync done) m n r → new.seen ≡ old.seen
  sync_seen done r e = ⊎_elim
      (λ h. ap (λ (s : DiskState). s.seen) (entered m n same path (what.Sync done) h) ∙ (λ i other. either (bytes_eq h.name.items other) (old.seen other) i))
      (λ none. ap (λ (s : DiskState). s.seen) (still m n same none))
      (which m n same path (what.Sync done) r e)

  pub synced : (done : Bool) → done ≡ true → HasEntered path (what.Sync done) m n
      → (old.is_sound path ≡ true → (c : Image) → new.may_leave c → c path ≡ old.seen path) × (new.is_sound ≡ old.is_sound)
  synced done well h =
      let h' : HasEntered path (what.Sync true) m n = subst (λ (b : Bool). HasEntered path (what.Sync b) m n) well h in
      let all : memory_state n ≡ record (state_after_call (record { path = h'.name; what = what.Sync true }) (memory_state m)) { faults = n.faults } = entered m n same path (what.Sync true) h' in (
        λ sound c left. subst (λ (p : List ℕ). old.is_sound p ≡ true → c p ≡ old.seen p) h'.name_is (subst (λ (s : DiskState). s.may_leave c) all left).1 sound,
        ap (λ (s : DiskState). s.is_sound) all ∙ (λ i other. either (bytes_eq h'.name.items other) (old.is_sound other) i),
      )

  pub moved : (mode : ℕ) (bytes : Vec ℕ Global) (done : Bool) → done ≡ true → HasEntered path (what.Move mode bytes done) m n
      → (new.seen ≡ with_file_at path (record { mode = mode; bytes = bytes.items }) old.seen) × (new.is_sound path ≡ true)
  moved mode bytes done well h =
      let all : memory_state n ≡ record (state_after_call (record { path = h.name; what = what.Move mode bytes done }) (memory_state m)) { faults = n.faults } = entered m n same path (what.Move mode bytes done) h in (
        ap (λ (s : DiskState). s.seen) all ∙ (λ i. image_changed (h.name_is i) (file_after (what.Move mode bytes (well i))) old.seen),
        ap (λ (s : DiskState). s.is_sound path) all ∙ here,
      )
    where
      here : (if bytes_eq h.name.items path then (if done then true else old.is_sound path) else old.is_sound path) ≡ true
      here = λ i. if (bytes_eq-Decides h.name.items path).1 h.name_is i then (if well i then true else old.is_sound path) else old.is_sound path

  -- and one that did not
  pub not_moved : (mode : ℕ) (bytes : Vec ℕ Global) (done : Bool) (r : Result Unit DiskFault) → EntersCall path (what.Move mode bytes done) m n r → MovesFile path (record { mode = mode; bytes = bytes.items }) old.seen new.seen
  not_moved mode bytes true r e = ⊎_elim
      (λ h. inr (ap (λ (s : DiskState). s.seen) (entered m n same path (what.Move mode bytes true) h) ∙ (λ i. with_file_at (h.name_is i) (record { mode = mode; bytes = bytes.items }) old.seen)))
      (λ none. inl (ap (λ (s : DiskState). s.seen) (still m n same none)))
      (which m n same path (what.Move mode bytes true) r e)
  not_moved mode bytes false r e = ⊎_elim
      (λ h. inl (ap (λ (s : DiskState). s.seen) (entered m n same path (what.Move mode bytes false) h) ∙ (λ i other. either (bytes_eq h.name.items other) (old.seen other) i)))
      (λ none. inl (ap (λ (s : DiskState). s.seen) (still m n same none)))
      (which m n same path (what.Move mode bytes false) r e)
