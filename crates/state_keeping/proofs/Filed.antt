-- FILE is on the disk as it is seen, past calls that leave it alone.
use Rattle.std.proofs.Common.{◌≡◌, ◌⊎◌, inl, inr, ⊎_elim, ℕ, ◌≤◌, List, Bool, true, false, IsTrue, None, refl, sym, ap, subst, ◌∙◌}
use Rattle.std.specs.Str.{bytes_eq}
use Rattle.std.proofs.lemmas.Bool.{true≢false}
use Rattle.base_disk.specs.Image.{File, Image}
use Rattle.base_disk.specs.State.{DiskKeeps, DiskState, LeavesAlone, LeavesOnly}
use Rattle.base_journal.specs.declared.journal.Journal.{Journal}
use Rattle.base_journal.specs.Journals.{CrashLeaves, Exchanging, JournalHolds, KeepsOthers, lines_of_journal, path_of_journal}
use Rattle.state_store.specs.declared.store.Store.{Store}
use Rattle.state_store.specs.Stores.{FileHolds, IsKeptOrNone, IsReplayed, is_kept, journal_of, path_of_store}
use Rattle.state_store.proofs.{Kept.holds_past, Marking.rest_alone}
use Rattle.state_keeping.specs.{declared.keeper.StateKeeper.StateKeeper, Keepers.store_of, Places.Places, Places.PlacesAreApart, States.IsKeeping}
use Rattle.state_keeping.proofs.{Others.apart_back, Others.at_end, Renewed.file_is_no_journal, Renewed.file_is_other}

pub journal_is_other : (p : Places) → PlacesAreApart p → bytes_eq p.journal p.file ≡ false
journal_is_other p apart = apart_back p.file p.journal (file_is_no_journal p apart)

-- FILE is seen past a call on its copy
pub seen_past_copy : (p : Places) (copy : List ℕ) (s t : DiskState) → PlacesAreApart p → copy ≡ p.copy → KeepsOthers copy s t → t.seen p.file ≡ s.seen p.file
seen_past_copy p copy s t apart at others = others.seen p.file (ap (λ (q : List ℕ). bytes_eq q p.file) at ∙ apart_back p.file p.copy (file_is_other p apart))

-- a call that changes nothing
pub holds_alone : (known : Bool) (old new : Store) (target : List ℕ) (s t : DiskState) → (IsTrue known → LeavesAlone s t) → is_kept new ≡ is_kept old → FileHolds known old target s → FileHolds known new target t
holds_alone known old new target s t alone same held is kept sound c left =
    held is (sym same ∙ kept) (ap (λ (f : List ℕ → Bool). f target) (sym (alone is).sound) ∙ sound) c ((alone is).crash c left) ∙ ap (λ (image : Image). image target) (sym (alone is).seen)

-- a file that was read and is not synced yet: nothing is said of it
pub unkept_holds : (known : Bool) (store : Store) (target : List ℕ) (t : DiskState) → is_kept store ≡ false → FileHolds known store target t
unkept_holds known store target t fresh is kept = absurd (true≢false (sym kept ∙ fresh))

-- the journal is handed over
pub holds_exchanged : (known : Bool) (old new : Store) (places : Places) (file : File) (P : List ℕ → Type 0) (s t : DiskState) → PlacesAreApart places
    → (IsTrue known → (other : List ℕ) → bytes_eq places.journal other ≡ false → bytes_eq places.copy other ≡ false → (t.seen other ≡ s.seen other) × (t.is_sound other ≡ s.is_sound other))
    → (IsTrue known → LeavesOnly s t (Exchanging places.journal places.copy file P s)) → ((n : ℕ) (c : Image) → n ≤ t.moment → t.may_leave c → t.left_since n c) → is_kept new ≡ is_kept old
    → FileHolds known old places.file s → FileHolds known new places.file t
holds_exchanged known old new places file P s t apart others run counts same held is kept sound c left =
    let file_back = journal_is_other places apart in
    let copy_back = apart_back places.file places.copy (file_is_other places apart) in
    let now = others is places.file file_back copy_back in
    let x = at_end s t (Exchanging places.journal places.copy file P s) (run is) counts c left in
    x.elsewhere places.file file_back copy_back ∙ held is (sym same ∙ kept) (sym now.1 ∙ sound) x.was x.before ∙ sym now.0

-- once it was synced it is on the disk
pub kept_file : (known : Bool) (store : Store) (target file : List ℕ) (s t : DiskState) → target ≡ file → FileHolds known store target t → IsKeptOrNone known store target s → IsTrue known → t.is_sound file ≡ true
    → DiskKeeps file t ⊎ (s.seen file ≡ None)
kept_file known store target file s t at held kept is sound =
    let now = subst (λ (p : List ℕ). FileHolds known store p t) at held in
    ⊎_elim (λ yes. inl (record { sound = sound; durable = now is yes sound })) (λ none. inr (none is)) (subst (λ (p : List ℕ). IsKeptOrNone known store p s) at kept)

-- a state goes on keeping: where FILE holds at a path that is its place
module _ (known : Bool) (old new : StateKeeper) (places : Places) (s t : DiskState) (was : IsKeeping known old places s) (held : JournalHolds known (journal_of (store_of new)) t) (replayed : IsReplayed (store_of new))
    (path : path_of_store (store_of new) ≡ path_of_store (store_of old)) where
  pub keeps_at : (target : List ℕ) → target ≡ places.file → FileHolds known (store_of new) target t → IsKeeping known new places t
  keeps_at target at file = record {
    held = held;
    replayed = replayed;
    path = path ∙ was.path;
    apart = was.apart;
    file = subst (λ (p : List ℕ). FileHolds known (store_of new) p t) at file;
  }

  -- where it was read, and is not synced yet
  pub keeps_unkept : is_kept (store_of new) ≡ false → IsKeeping known new places t
  keeps_unkept fresh = record { held = held; replayed = replayed; path = path ∙ was.path; apart = was.apart; file = unkept_holds known (store_of new) places.file t fresh }

  -- and past a call on the journal
  pub keeps_past : (P : List ℕ → Type 0) → (IsTrue known → KeepsOthers (path_of_store (store_of old)) s t) → (IsTrue known → LeavesOnly s t (CrashLeaves (path_of_store (store_of old)) P s))
      → ((n : ℕ) (c : Image) → n ≤ t.moment → t.may_leave c → t.left_since n c) → is_kept (store_of new) ≡ is_kept (store_of old) → IsKeeping known new places t
  keeps_past P others run counts same = record {
    held = held;
    replayed = replayed;
    path = path ∙ was.path;
    apart = was.apart;
    file = holds_past known (store_of old) (store_of new) (path_of_store (store_of old)) places.file P s t (ap (λ (p : List ℕ). bytes_eq p places.file) was.path ∙ was.apart) others run counts same was.file;
  }

-- the same store, or one that differs in its rows alone
pub keeps_still : (known : Bool) (old new : StateKeeper) (places : Places) (s : DiskState) → IsKeeping known old places s → journal_of (store_of new) ≡ journal_of (store_of old) → IsReplayed (store_of new)
    → is_kept (store_of new) ≡ is_kept (store_of old) → IsKeeping known new places s
keeps_still known old new places s was journal replayed same = record {
  held = subst (λ (j : Journal). JournalHolds known j s) (sym journal) was.held;
  replayed = replayed;
  path = ap path_of_journal journal ∙ was.path;
  apart = was.apart;
  file = λ is kept. was.file is (sym same ∙ kept);
}

pub keeps_store : (known : Bool) (old new : StateKeeper) (places : Places) (s : DiskState) → IsKeeping known old places s → store_of new ≡ store_of old → IsKeeping known new places s
keeps_store known old new places s was same = keeps_still known old new places s was (ap journal_of same) (subst IsReplayed (sym same) was.replayed) (ap is_kept same)

-- a call that changes nothing
pub keeps_alone : (known : Bool) (keeper : StateKeeper) (places : Places) (s t : DiskState) → IsKeeping known keeper places s → (IsTrue known → LeavesAlone s t) → IsKeeping known keeper places t
keeps_alone known keeper places s t was alone =
    let journal = journal_of (store_of keeper) in
    record {
      held = record {
        are_lines = was.held.are_lines;
        whole = λ is yes. rest_alone (path_of_journal journal) (lines_of_journal journal) journal.size s t (alone is) (was.held.whole is yes);
      };
      replayed = was.replayed;
      path = was.path;
      apart = was.apart;
      file = holds_alone known (store_of keeper) (store_of keeper) places.file s t alone refl was.file;
    }

-- the journal is handed over
pub keeps_handed : (known : Bool) (old new : StateKeeper) (places : Places) (file : File) (P : List ℕ → Type 0) (s t : DiskState) → PlacesAreApart places → IsKeeping known old places s
    → JournalHolds known (journal_of (store_of new)) t → IsReplayed (store_of new) → path_of_store (store_of new) ≡ path_of_store (store_of old)
    → (IsTrue known → (other : List ℕ) → bytes_eq places.journal other ≡ false → bytes_eq places.copy other ≡ false → (t.seen other ≡ s.seen other) × (t.is_sound other ≡ s.is_sound other))
    → (IsTrue known → LeavesOnly s t (Exchanging places.journal places.copy file P s)) → ((n : ℕ) (c : Image) → n ≤ t.moment → t.may_leave c → t.left_since n c)
    → is_kept (store_of new) ≡ is_kept (store_of old) → IsKeeping known new places t
keeps_handed known old new places file P s t apart was held replayed path others run counts same = record {
  held = held;
  replayed = replayed;
  path = path ∙ was.path;
  apart = was.apart;
  file = holds_exchanged known (store_of old) (store_of new) places file P s t apart others run counts same was.file;
}

-- a state at a start
pub keeps_opened : (known : Bool) (keeper : StateKeeper) (store : Store) (places : Places) (t : DiskState) → store_of keeper ≡ store → PlacesAreApart places → JournalHolds known (journal_of store) t → IsReplayed store
    → path_of_store store ≡ places.journal → is_kept store ≡ false → IsKeeping known keeper places t
keeps_opened known keeper store places t is apart held replayed path fresh = record {
  held = subst (λ (st : Store). JournalHolds known (journal_of st) t) (sym is) held;
  replayed = subst IsReplayed (sym is) replayed;
  path = ap path_of_store is ∙ path;
  apart = journal_is_other places apart;
  file = unkept_holds known (store_of keeper) places.file t (ap is_kept is ∙ fresh);
}
