-- Taking: the ends that a start takes over, step by step, and how many guests it lets in. For `take_over`, its parts and `places_for`.
use Rattle.std.proofs.Common.{◌≡◌, ◌∙◌, ℕ, Bool, true, false, IsTrue, List, [], Option, Some, None, Result, Ok, Err, String, Vec, ap, inl, inr, is_none, nat_lt, refl, string_bytes, subst, sym}
use Rattle.std.specs.Prelude.{IfOk, MatchOption}
use Rattle.std.specs.{declared.alloc.AllocError.AllocError, declared.alloc.Global.Global}
use Rattle.agent_log.specs.{LinesOfEnds.HearsUnread, LogDesk.Desk}
use Rattle.agent_standing.specs.declared.ends.KnownEnd.{KnownEnd}
use Rattle.base_clock.specs.declared.reading.Reading.{Reading}
use Rattle.base_disk.specs.{Image.File, State.DiskState, State.LeavesAlone, declared.fault.DiskFault.DiskFault}
use Rattle.agent_ends.specs.{Ends.events_for, declared.file.EndsFile.EndsFile}
use Rattle.vault_inventory.specs.Inventories.{Inventory}
use Rattle.base_words.specs.Texts.{stripped}
use Rattle.watch_machine.specs.declared.event.WatchEvent.{WatchEvent}
use Rattle.agent_system.specs.{declared.descriptors.Places.Places, declared.ends.TakenOver.TakenOver}
use Rattle.agent_system.specs.Descriptors.{ArePlaces, WarnsIf, few_text, needed, places_within}
use Rattle.agent_system.specs.TakingOver.{AreEndsOn, AsksForLock, FindsBoot, HandsIn, IsBootId, IsFileTaken, IsNotOwn, IsNothing, IsOwn, SaysHeld, TakesFile, boot_path, fresh_file, lock_of_ends}
use Rattle.agent_system.proofs.SetAside.{alone_twice}

pub are_places :
    (now : Reading) (limit width least : ℕ) (is_behind : Bool) (places : Places) (old new : Desk) → places ≡ places_within limit width is_behind → least ≡ needed width is_behind → WarnsIf (nat_lt limit least) now (few_text limit least) old new →
    ArePlaces now width is_behind places old new
are_places now limit width least is_behind places old new are is warns =
    record { limit = limit; are = are; warns = subst (λ n. WarnsIf (nat_lt limit n) now (few_text limit n) old new) is warns }

-- ---- the id of this boot

-- a file of it was found
pub boot_is :
    (known : Bool) (s : DiskState) (path text boot : List ℕ) (found : Option (List ℕ)) → (IsTrue known → MatchOption found (s.seen path ≡ None) (λ bytes. (file : File) × ((s.seen path ≡ Some file) × (bytes ≡ file.bytes)))) → found ≡ Some text →
    path ≡ boot_path → boot ≡ stripped text → IsBootId known s boot
boot_is known s path text boot found read some at is =
    let stands : IsTrue known → (file : File) × ((s.seen path ≡ Some file) × (text ≡ file.bytes)) =
    subst (λ o. IsTrue known → MatchOption o (s.seen path ≡ None) (λ bytes. (file : File) × ((s.seen path ≡ Some file) × (bytes ≡ file.bytes)))) some read in
    record { stands = λ k. ((stands k).0, (subst (λ p. s.seen p ≡ Some ((stands k).0)) at (stands k).1.0, is ∙ ap stripped (stands k).1.1)) }

-- ---- what the file keeps

pub hands_in :
    (known : Bool) (s : DiskState) (now : Reading) (inventory : Inventory) (path boot from id : List ℕ) (ends told : List KnownEnd) (desk : Desk) (result : Result (Vec WatchEvent Global) AllocError) → AreEndsOn known s from id ends → from ≡ path → id ≡ boot → told ≡ ends →
    IfOk result (λ events. events.items ≡ events_for inventory told) → IfOk result (λ events. HandsIn known s now inventory path boot events.items desk desk)
hands_in known s now inventory path boot from id ends told desk (Ok events) are at same all is =
    record { either = inl (ends, (subst (λ b. AreEndsOn known s path b ends) same (subst (λ p. AreEndsOn known s p id ends) at are), (is ∙ ap (events_for inventory) all, refl))) }
hands_in known s now inventory path boot from id ends told desk (Err e) are at same all is = tt

pub hands_none :
    (known : Bool) (s : DiskState) (now : Reading) (inventory : Inventory) (path boot : List ℕ) (events : List WatchEvent) (fault : DiskFault) (old new : Desk) → events ≡ [] → HearsUnread now fault old new →
    HandsIn known s now inventory path boot events old new
hands_none known s now inventory path boot events fault old new none hears = record { either = inr (fault, (none, hears)) }

module _ {E : Type 0} (known : Bool) (seen : E → DiskState) (now : Reading) where
  -- ---- who holds it

  pub held_by :
      (path lock : List ℕ) (result : Result (Option (List ℕ)) DiskFault) (disk : E) (old new : Desk) → lock ≡ lock_of_ends path → (IsTrue known → IfOk result (λ l. is_none l ≡ (seen disk).taken lock)) → result ≡ Ok None → SaysHeld now path old new →
      AsksForLock known seen now path false disk old new
  held_by path lock result disk old new is taken none says =
      let held : IsTrue known → true ≡ (seen disk).taken lock = subst (λ r. IsTrue known → IfOk r (λ l. is_none l ≡ (seen disk).taken lock)) none taken in
      ((λ k. sym (subst (λ p. true ≡ (seen disk).taken p) is (held k))), says)

  pub own_so :
      (path boot : List ℕ) (is_own : Bool) (disk mid after : E) (old new : Desk) → IsBootId known (seen disk) boot → (IsTrue known → LeavesAlone (seen disk) (seen mid)) → (IsTrue known → LeavesAlone (seen mid) (seen after)) →
      AsksForLock known seen now path is_own mid old new → is_own ≡ true → IsOwn known seen now disk boot after old new
  own_so path boot is_own disk mid after old new is first second asked is_so =
      record { is_boot = is; alone = λ k. alone_twice (seen disk) (seen mid) (seen after) (first k) (second k); silent = subst (λ b. AsksForLock known seen now path b mid old new) is_so asked }

  pub own_anothers :
      (path boot : List ℕ) (is_own : Bool) (disk mid : E) (old new : Desk) → IsBootId known (seen disk) boot → (IsTrue known → LeavesAlone (seen disk) (seen mid)) → AsksForLock known seen now path is_own mid old new → is_own ≡ false →
      IsNotOwn known seen now path disk old new
  own_anothers path boot is_own disk mid old new is alone asked is_not =
      record { either = inl (record { boot = boot; is_boot = is; asked = mid; alone = alone; held = subst (λ b. AsksForLock known seen now path b mid old new) is_not asked }) }

  pub own_unread : (path : List ℕ) (disk : E) (fault : DiskFault) (old new : Desk) → HearsUnread now fault old new → IsNotOwn known seen now path disk old new
  own_unread path disk fault old new hears = record { either = inr (fault, hears) }

  -- ---- what is taken over

  pub file_taken :
      (inventory : Inventory) (file next : EndsFile E) (t : TakenOver E) (old new : Desk) → HandsIn known (seen file.disk) now inventory (string_bytes file.path) file.boot t.known.items old new →
      (IsTrue known → LeavesAlone (seen file.disk) (seen next.disk)) → next ≡ record file { disk = next.disk } → t.file ≡ Some next → IsFileTaken known seen now inventory file t old new
  file_taken inventory file next t old new hands alone rest is =
      record { after = next.disk; alone = alone; file_is = subst (λ f. t.file ≡ Some f) rest is; hands_in = hands }

  pub takes_none :
      (inventory : Inventory) (path : String Global) (from : List ℕ) (found : Option (List ℕ)) (disk after : E) (t : TakenOver E) (old new : Desk) → from ≡ string_bytes path → FindsBoot known seen now from disk found after old new → found ≡ None → IsNothing t →
      TakesFile known seen now inventory path disk t old new
  takes_none inventory path from found disk after t old new at h none nothing =
      let not_own : IsNotOwn known seen now from disk old new = subst (λ f. FindsBoot known seen now from disk f after old new) none h in
      record { either = inr (nothing, subst (λ p. IsNotOwn known seen now p disk old new) at not_own) }

  pub takes_some :
      (inventory : Inventory) (path : String Global) (from boot : List ℕ) (found : Option (List ℕ)) (disk held : E) (file : EndsFile E) (old mid new : Desk) (result : Result (TakenOver E) AllocError) → FindsBoot known seen now from disk found held old mid → found ≡ Some boot →
      file ≡ fresh_file path boot held → IfOk result (λ t. IsFileTaken known seen now inventory file t mid new) → IfOk result (λ t. TakesFile known seen now inventory path disk t old new)
  takes_some inventory path from boot found disk held file old mid new (Ok t) h some is taken =
      let own : IsOwn known seen now disk boot held old mid = subst (λ f. FindsBoot known seen now from disk f held old mid) some h in
      let same = subst (λ d. IsFileTaken known seen now inventory file t d new) own.silent taken in
      record { either = inl (record { boot = boot; is_boot = own.is_boot; held = held; alone = own.alone; taken = subst (λ f. IsFileTaken known seen now inventory f t old new) is same }) }
  takes_some inventory path from boot found disk held file old mid new (Err e) h some is taken = tt
