-- A file that is synced before a record is put beside it, and what is left of it then.
use Rattle.std.proofs.Common.{◌≡◌, ℕ, ◌≤◌, List, Bool, true, false, IsTrue, IfErr, Result, Ok, Err, sym, ap, ◌∙◌}
use Rattle.std.specs.Str.{bytes_eq}
use Rattle.base_disk.specs.Image.{Image}
use Rattle.base_disk.specs.State.{DiskKeeps, DiskState, Elapses, LeavesAlone, LeavesOnly}
use Rattle.base_disk.proofs.Moments.{and_then, goes_on, started, weaker}
use Rattle.base_journal.specs.declared.journal.Journal.{Journal}
use Rattle.base_journal.specs.Journals.{CrashLeaves, JournalHolds, JournalIsAtRest, KeepsOthers, lines_of_journal, path_of_journal}
use Rattle.base_journal.proofs.Steps.{at_end, leaves_past, still_leaves}
use Rattle.state_store.specs.{declared.fault.TakeFault.TakeFault, declared.store.Store.Store, Entering.may_hold}
use Rattle.state_store.specs.Stores.{FileHolds, KeepsAllBut, is_kept}

pub not_begun : (s : DiskState) → ((c : Image) → s.left_since s.moment c → s.may_leave c) → LeavesOnly s s s.may_leave
not_begun s only = started s s.may_leave only (λ c left. left)

-- one call that leaves nothing new, and another one
pub seen_once : (s t : DiskState) → ((c : Image) → s.left_since s.moment c → s.may_leave c) → ((c : Image) → t.may_leave c → s.may_leave c) → Elapses s t → LeavesOnly s t s.may_leave
seen_once s t only crash time = goes_on s s t s.may_leave (not_begun s only) time crash

pub seen_twice : (s t u : DiskState) → ((c : Image) → s.left_since s.moment c → s.may_leave c) → LeavesAlone s t → Elapses s t → ((c : Image) → u.may_leave c → t.may_leave c) → Elapses t u → LeavesOnly s u s.may_leave
seen_twice s t u only alone time crash next = goes_on s t u s.may_leave (seen_once s t only alone.crash time) next (λ c left. alone.crash c (crash c left))

-- where a crash leaves what it might have left before, the journal is as it was
pub still_leaves_all : (path : List ℕ) (P : List ℕ → Type 0) (s t : DiskState) → LeavesOnly s t s.may_leave → LeavesOnly s t (CrashLeaves path P s)
still_leaves_all path P s t run = weaker s t s.may_leave (CrashLeaves path P s) run (still_leaves path P s)

-- a change that is refused before its record is put is surely not there
pub surely_unput : (r : Result (Unit {0}) TakeFault) (Q : Type 0) → Q → IfErr r (λ fault. may_hold fault ≡ false → Q)
surely_unput (Ok x) Q so = tt
surely_unput (Err fault) Q so = λ sure. so

-- what was synced, and is seen as before
pub synced_holds : (known : Bool) (store : Store) (target : List ℕ) (s t : DiskState) → (IsTrue known → s.is_sound target ≡ true → (c : Image) → t.may_leave c → c target ≡ s.seen target)
    → (IsTrue known → t.is_sound ≡ s.is_sound) → (IsTrue known → t.seen ≡ s.seen) → FileHolds known store target t
synced_holds known store target s t durable same seen is kept sound c left =
    durable is (ap (λ (f : List ℕ → Bool). f target) (sym (same is)) ∙ sound) c left ∙ ap (λ (image : Image). image target) (sym (seen is))

-- a call on another path leaves the file there
pub holds_past : (known : Bool) (old new : Store) (path target : List ℕ) (P : List ℕ → Type 0) (s t : DiskState) → bytes_eq path target ≡ false → (IsTrue known → KeepsOthers path s t)
    → (IsTrue known → LeavesOnly s t (CrashLeaves path P s)) → ((m : ℕ) (c : Image) → m ≤ t.moment → t.may_leave c → t.left_since m c) → is_kept new ≡ is_kept old
    → FileHolds known old target s → FileHolds known new target t
holds_past known old new path target P s t apart others run counts same held is kept sound c left =
    let d = at_end s t (CrashLeaves path P s) (run is) counts c left in
    d.2 target apart ∙ held is (sym same ∙ kept) (sym ((others is).sound target apart) ∙ sound) d.0 d.1 ∙ sym ((others is).seen target apart)

-- the journal, once the file was synced, and then a call on it
module _ (path target : List ℕ) (apart : bytes_eq target path ≡ false) (s t : DiskState) (seen : t.seen ≡ s.seen)
    (sound : (other : List ℕ) → bytes_eq target other ≡ false → t.is_sound other ≡ s.is_sound other) (crash : (c : Image) → t.may_leave c → s.may_leave c) where
  pub rest_synced : (lines : List (List ℕ)) (size : ℕ) → JournalIsAtRest path lines size s → JournalIsAtRest path lines size t
  rest_synced lines size rest = record {
    are_lines = rest.are_lines;
    mode = rest.mode;
    seen = ap (λ (image : Image). image path) seen ∙ rest.seen;
    size_is = rest.size_is;
    is_kept = record {
      sound = sound path apart ∙ rest.is_kept.sound;
      durable = λ c left. rest.is_kept.durable c (crash c left) ∙ ap (λ (image : Image). image path) (sym seen);
    };
  }

  module _ (u : DiskState) (P : List ℕ → Type 0) where
    pub then_leaves : LeavesOnly s t s.may_leave → LeavesOnly t u (CrashLeaves path P t) → LeavesOnly s u (CrashLeaves path P s)
    then_leaves first second = and_then s t u (CrashLeaves path P s) (CrashLeaves path P t) (still_leaves_all path P s t first) second (leaves_past path P s t crash)

    pub but_others : KeepsOthers path t u → KeepsAllBut path target s u
    but_others others = record {
      seen = λ other p. others.seen other p ∙ ap (λ (image : Image). image other) seen;
      sound = λ other p q. others.sound other p ∙ sound other q;
    }

-- the same of a file that is not synced
pub but_synced : (path target : List ℕ) (s t : DiskState) → t.seen ≡ s.seen → ((other : List ℕ) → bytes_eq target other ≡ false → t.is_sound other ≡ s.is_sound other) → KeepsAllBut path target s t
but_synced path target s t seen sound = record { seen = λ other p. ap (λ (image : Image). image other) seen; sound = λ other p q. sound other q }

pub held_synced : (known : Bool) (journal : Journal) (target : List ℕ) (s t : DiskState) → bytes_eq target (path_of_journal journal) ≡ false → (IsTrue known → t.seen ≡ s.seen)
    → (IsTrue known → (other : List ℕ) → bytes_eq target other ≡ false → t.is_sound other ≡ s.is_sound other) → (IsTrue known → (c : Image) → t.may_leave c → s.may_leave c)
    → JournalHolds known journal s → JournalHolds known journal t
held_synced known journal target s t apart seen sound crash held = record {
  are_lines = held.are_lines;
  whole = λ is yes. rest_synced (path_of_journal journal) target apart s t (seen is) (sound is) (crash is) (lines_of_journal journal) journal.size (held.whole is yes);
}

-- a sync that went well, where no call on the file failed before
pub synced_keeps : (path : List ℕ) (s t : DiskState) → (s.is_sound path ≡ true → (c : Image) → t.may_leave c → c path ≡ s.seen path) → t.is_sound ≡ s.is_sound → t.seen ≡ s.seen
    → t.is_sound path ≡ true → DiskKeeps path t
synced_keeps path s t durable same seen sound = record {
  sound = sound;
  durable = λ c left. durable (ap (λ (f : List ℕ → Bool). f path) (sym same) ∙ sound) c left ∙ ap (λ (image : Image). image path) (sym seen);
}
