-- A settling is calls one after the other: FILE is read, the mark is put, FILE is put in its place, and the journal is handed over.
use Rattle.std.proofs.Common.{◌≡◌, ◌⊎◌, inl, inr, ⊎_elim, ℕ, Bool, true, false, IsTrue, List, Some, Result, Ok, Err, OnOk, OnErr, refl, sym, ap, subst, ◌∙◌}
use Rattle.std.specs.Str.{bytes_eq}
use Rattle.base_disk.specs.{Image.File, Image.Image, declared.fault.DiskFault.DiskFault}
use Rattle.base_disk.specs.State.{DiskState, LeavesAlone, LeavesOnly}
use Rattle.base_disk.proofs.Moments.{weaker}
use Rattle.vault_inventory.specs.Served.{Served}
use Rattle.base_journal.specs.Records.{StandsFor}
use Rattle.base_journal.specs.Journals.{Exchanging, FileIsThere, bytes_of_file, lines_of_journal}
use Rattle.state_store.specs.{declared.store.Store.Store, Books.Book, Compacted.damaged}
use Rattle.state_store.specs.Moved.{FailsInSteps, MovesInSteps, PutsFile, PutsMark, SaysAllKept, SaysByItself}
use Rattle.state_store.specs.Stores.{book_of, is_sure, lines_in, path_of_store}
use Rattle.state_keeping.specs.{declared.keeper.StateKeeper.StateKeeper, Keepers.store_of, Keepers.waiting_in, Places.Places, Settles.copy_with, States.IsKeeping, States.Kept}
use Rattle.state_keeping.specs.Lives.{Alone, HandOver, IsCall, IsOver, IsReady, IsStill, LeavesAmid, Mark, Place, SettlesInSteps}
use Rattle.state_keeping.proofs.Filed.{keeps_alone, keeps_store}

-- of a disk of which contracts know
pub known_keeping : (known : Bool) (keeper : StateKeeper) (places : Places) (s : DiskState) → IsTrue known → IsKeeping known keeper places s → IsKeeping true keeper places s
known_keeping known keeper places s is keeping = record {
  held = record { are_lines = keeping.held.are_lines; whole = λ yes. keeping.held.whole is };
  replayed = keeping.replayed;
  path = keeping.path;
  apart = keeping.apart;
  file = λ yes. keeping.file is;
}

module _ {D : Type 0} (known : Bool) (is : IsTrue known) (state : D → DiskState) (places : Places) where
  abbrev at : StateKeeper → D → Kept D
  at keeper disk = record { keeper = keeper; disk = disk; places = places }

  -- FILE is read
  pub read_call : (keeper new : StateKeeper) (s t : D) → IsKeeping known keeper places (state s) → store_of new ≡ store_of keeper → LeavesAlone (state s) (state t) → LeavesOnly (state s) (state t) (state s).may_leave
      → IsCall state (at keeper s) (record { aim = Alone; is_acknowledged = true; kept = at new t })
  read_call keeper new s t was same alone run = record {
    done = record { lines = ap lines_in same; file = ap (λ (st : Store). (book_of st).file) same; rows = ap (λ (st : Store). (book_of st).rows) same };
    sure = λ sure. sym (ap is_sure same) ∙ sure;
    seen = ap (λ (image : Image). image places.file) alone.seen;
    places = refl;
    keeping = known_keeping known new places (state t) is (keeps_store known keeper new places (state t) (keeps_alone known keeper places (state s) (state t) was (λ yes. alone)) same);
    any_moment = weaker (state s) (state t) (state s).may_leave (LeavesAmid state Alone (at keeper s)) run (λ c left. left);
  }

  -- the mark is put, or not
  module _ (keeper new : StateKeeper) (s t : D) (text : List ℕ) (v : Served) (was : IsKeeping known keeper places (state s)) (says : SaysAllKept (book_of (store_of keeper)) text v)
      (put : PutsMark known state (store_of keeper) places.file text s (store_of new) t) where
    marked_seen : (state t).seen places.file ≡ (state s).seen places.file
    marked_seen = put.others.seen places.file (ap (λ (p : List ℕ). bytes_eq p places.file) was.path ∙ was.apart)

    marked_keeping : IsKeeping known new places (state t)
    marked_keeping = record { held = put.held; replayed = put.replayed; path = put.path ∙ was.path; apart = was.apart; file = put.file }

    mark_call : IsCall state (at keeper s) (record { aim = Mark text v; is_acknowledged = true; kept = at new t })
    mark_call =
        let file = ap (λ (b : Book). b.file) put.book in
        let rows = ap (λ (b : Book). b.rows) put.book in
        record {
          done = (says, ⊎_elim (λ same. inl (record { lines = same; file = file; rows = rows })) (λ more. inr (record { lines_are = more; file = file; rows = rows })) put.lines);
          sure = λ sure. sym put.sure ∙ sure;
          seen = marked_seen;
          places = refl;
          keeping = known_keeping known new places (state t) is marked_keeping;
          any_moment = weaker (state s) (state t) _ (LeavesAmid state (Mark text v) (at keeper s)) put.any_moment (λ c left. left);
        }

  -- FILE is put in its place, or not
  module _ (keeper new : StateKeeper) (s t : D) (mode : ℕ) (text : List ℕ) (v : Served) (present : List ℕ) (says : SaysAllKept (book_of (store_of keeper)) text v) (there : bytes_of_file ((state s).seen places.file) ≡ present)
      (put : PutsFile state (store_of keeper) places.file (record { mode = mode; bytes = text }) v present s (store_of new) t) (now : IsKeeping known new places (state t)) where
    place_call : (is_placed : Bool) × IsCall state (at keeper s) (record { aim = Place mode text v; is_acknowledged = is_placed; kept = at new t })
    place_call =
        let ready : IsReady state text v (at keeper s) = record { says = says; marked = put.marked; whole = put.whole } in
        let run = weaker (state s) (state t) _ (LeavesAmid state (Place mode text v) (at keeper s)) put.any_moment (λ c left. left) in
        let keeping = known_keeping known new places (state t) is now in
        let lines : lines_in (store_of new) ≡ lines_in (store_of keeper) = ap lines_of_journal put.journal in
        ⊎_elim
        (λ placed. (
          true,
          record {
            done = (ready, record { there = placed.there; file = placed.book.file; rows = placed.book.rows; lines = lines });
            sure = tt;
            seen = put.seen;
            places = refl;
            keeping = keeping;
            any_moment = run;
          },
        ))
        (λ not. (
          false,
          record {
            done = (ready, record { lines = lines; file = ap (λ (b : Book). b.file) not.book; rows = ap (λ (b : Book). b.rows) not.book });
            sure = λ sure. ((not.sure sure).0, (not.sure sure).1 ∙ sym there);
            seen = put.seen;
            places = refl;
            keeping = keeping;
            any_moment = run;
          },
        ))
        put.outcome

  -- the copy is FILE, and the records are taken out of the journal, or not
  pub hand_call : (keeper new : StateKeeper) (s t : D) (file : File) (text : List ℕ) (r : Result (Unit {0}) DiskFault) → SaysByItself (store_of keeper) → is_sure (store_of keeper) ≡ true → FileIsThere places.file file (state s)
      → OnOk r (lines_in (store_of new) ≡ damaged (lines_in (store_of keeper))) → OnErr r (lines_in (store_of new) ≡ lines_in (store_of keeper)) → book_of (store_of new) ≡ book_of (store_of keeper) → is_sure (store_of new) ≡ is_sure (store_of keeper)
      → (state t).seen places.file ≡ (state s).seen places.file → IsKeeping known new places (state t)
      → LeavesOnly (state s) (state t) (Exchanging (path_of_store (store_of keeper)) places.copy (copy_with text) (λ bytes. StandsFor bytes (damaged (lines_in (store_of keeper)))) (state s))
      → IsCall state (at keeper s) (record { aim = HandOver text; is_acknowledged = true; kept = at new t })
  hand_call keeper new s t file text r by_itself sure there taken same book still seen now run =
      let file_is = ap (λ (b : Book). b.file) book in
      let rows_are = ap (λ (b : Book). b.rows) book in
      record {
        done = (record { by_itself = by_itself; sure = sure; durable = there.is_kept }, either_way r taken same file_is rows_are);
        sure = λ now. sym still ∙ now;
        seen = seen;
        places = refl;
        keeping = known_keeping known new places (state t) is now;
        any_moment = weaker (state s) (state t) _ (LeavesAmid state (HandOver text) (at keeper s)) run (λ c left. left);
      }
    where
      either_way : (r : Result (Unit {0}) DiskFault) → OnOk r (lines_in (store_of new) ≡ damaged (lines_in (store_of keeper))) → OnErr r (lines_in (store_of new) ≡ lines_in (store_of keeper))
          → (book_of (store_of new)).file ≡ (book_of (store_of keeper)).file → (book_of (store_of new)).rows ≡ (book_of (store_of keeper)).rows
          → IsStill (at keeper s) (at new t) ⊎ IsOver (damaged (lines_in (store_of keeper))) (at keeper s) (at new t)
      either_way (Ok x) taken same file_is rows_are = inr (record { lines_are = taken; file = file_is; rows = rows_are })
      either_way (Err fault) taken same file_is rows_are = inl (record { lines = same; file = file_is; rows = rows_are })

  -- one after the other
  module _ (keeper new : StateKeeper) (s r t : D) (mode : ℕ) (present : List ℕ) (was : IsKeeping known keeper places (state s)) (alone : LeavesAlone (state s) (state r)) (run : LeavesOnly (state s) (state r) (state s).may_leave)
      (there : bytes_of_file ((state r).seen places.file) ≡ present) where
    was_read : IsKeeping known keeper places (state r)
    was_read = keeps_alone known keeper places (state s) (state r) was (λ yes. alone)

    first_call : IsCall state (at keeper s) (record { aim = Alone; is_acknowledged = true; kept = at keeper r })
    first_call = read_call keeper keeper s r was refl alone run

    pub nothing_moved : store_of new ≡ store_of keeper → t ≡ r → SettlesInSteps state (at keeper s) (at new t)
    nothing_moved same disk = inl (subst (λ (d : D). IsCall state (at keeper s) (record { aim = Alone; is_acknowledged = true; kept = at new d })) (sym disk) (read_call keeper new s r was same alone run))

    module _ (text : List ℕ) (v : Served) (says : SaysAllKept (book_of (store_of keeper)) text v) (marked : Store) (mid : D) (put : PutsMark known state (store_of keeper) places.file text r marked mid)
        (placed : PutsFile state marked places.file (record { mode = mode; bytes = text }) v present mid (store_of new) t) (now : IsKeeping known new places (state t)) where
      abbrev keeper_marked : StateKeeper
      keeper_marked = record { store = marked; waiting = waiting_in keeper }

      second_call : IsCall state (at keeper r) (record { aim = Mark text v; is_acknowledged = true; kept = at keeper_marked mid })
      second_call = mark_call keeper keeper_marked r mid text v was_read says put

      third_call : (is_placed : Bool) × IsCall state (at keeper_marked mid) (record { aim = Place mode text v; is_acknowledged = is_placed; kept = at new t })
      third_call = place_call keeper_marked new mid t mode text v present (subst (λ (b : Book). SaysAllKept b text v) (sym put.book) says)
          (ap bytes_of_file (marked_seen keeper keeper_marked r mid text v was_read says put) ∙ there) placed now

      placed_last : SettlesInSteps state (at keeper s) (at new t)
      placed_last = inr (at keeper r, first_call, (mode, text, v, inr (at keeper_marked mid, second_call, (third_call.0, inl third_call.1))))

      handed_last : (last : StateKeeper) (u : D) → IsCall state (at new t) (record { aim = HandOver text; is_acknowledged = true; kept = at last u }) → SettlesInSteps state (at keeper s) (at last u)
      handed_last last u hand = inr (at keeper r, first_call, (mode, text, v, inr (at keeper_marked mid, second_call, (third_call.0, inr (at new t, third_call.1, hand)))))

    pub not_settled : FailsInSteps known state (store_of keeper) places.file mode present r (store_of new) t → IsKeeping known new places (state t) → SettlesInSteps state (at keeper s) (at new t)
    not_settled (inl (same, disk)) now = nothing_moved same disk
    not_settled (inr (text, v, says, inl put)) now = inr (at keeper r, first_call, (mode, text, v, inl (mark_call keeper new r t text v was_read says put)))
    not_settled (inr (text, v, says, inr (marked, mid, put, placed))) now = placed_last text v says marked mid put placed now

    pub settled : (text : List ℕ) → MovesInSteps known state (store_of keeper) places.file mode present r (Some text) (store_of new) t → IsKeeping known new places (state t)
        → (last : StateKeeper) (u : D) → IsCall state (at new t) (record { aim = HandOver text; is_acknowledged = true; kept = at last u }) → SettlesInSteps state (at keeper s) (at last u)
    settled text (v, says, (marked, mid, put, placed)) now last u hand = handed_last text v says marked mid put placed now last u hand
