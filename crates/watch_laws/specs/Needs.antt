-- Needs: who is wanted. The laws are the contract of a public function without a body.
-- Source: this project's own, over Vault, "Tokens" (a token's end ends its children and its leases).
use Rattle.std.specs.Prelude.{◌≡◌, ◌⊎◌, ◌↔◌, ℕ, ◌+◌, ◌<◌, ◌≤◌, Bool, true, false, if◌then◌else◌, map, min, length}
use Rattle.std.specs.List.{range_with_len}
use Rattle.base_moment.specs.declared.moment.TheConstants.{LAST}
use Rattle.plan_forest.specs.{declared.entry.Entry.Entry, Carried.carried, Over.Over}
use Rattle.watch_machine.specs.{declared.clocks.Clocks.Clocks, declared.track.End.End, Beginning.is_called, Clocks.sec}
use Rattle.watch_machine.specs.declared.track.End.TheVariants.{Unknown, At, Never}
use Rattle.watch_machine.specs.State.{WatchState, entry_of, has_last_try, second, track_at}
use Rattle.watch_machine.specs.Wanted.{is_wanted, limit, need_here, seen_entry, wants}

-- by another clock, which showed `there` in the second `here` of this one, a second of this one comes no later than a moment: what
-- that clock shows then is `there`, and as many seconds more as have passed since `here`
abbrev pub ComesBy : ℕ → ℕ → ℕ → ℕ → Type 0
ComesBy here there second moment = there + second ≤ moment + here

-- a need of the inventory, a moment of the broker's, is not past before a second of this clock. 0 asks for nothing; any other need is
-- past only where it is so by the broker's clock and by the wall's, as each was last set (by a date of a reply, by a reading of the
-- wall), in whole seconds as needs are. And this clock never shows a second after the last moment
pub record IsNeedUntil (c : Clocks) (need until : ℕ) : Type 0 where
  pub some : 0 < need
  pub by_a_clock : ComesBy (sec c.broker.here) c.broker.there until need ⊎ ComesBy (sec c.wall.here) (sec c.wall.there) until need
  pub shown : until ≤ LAST

-- an end that has to be led on to a second: it is unknown, or it comes before and is that of an entry that is renewable
abbrev pub IsEndToBeLed : ℕ → Bool → End → Type 0
IsEndToBeLed until renewable Unknown = Unit {0}
IsEndToBeLed until renewable (At end) = (renewable ≡ true) × (end < until)
IsEndToBeLed until renewable Never = ⊥

-- nothing over j (itself too) is fixed before that second: whoever ends before it is renewable, and not at its top
abbrev pub IsOpenUntil : WatchState → ℕ → ℕ → Type 0
IsOpenUntil s j until =
    (a end : ℕ) → Over s.forest.entries a j → (track_at s a).end ≡ At end → end < until → ((track_at s a).renewable ≡ true) × ((track_at s a).top ≡ false)

-- i may be led on to a second for j: it is not at its top, and nothing over j is fixed before that second. Or it has its last try, which is
-- made whatever is fixed
abbrev pub MayBeLed : WatchState → ℕ → ℕ → ℕ → Type 0
MayBeLed s i j until = (((track_at s i).top ≡ false) × IsOpenUntil s j until) ⊎ (has_last_try (track_at s i) ≡ true)

-- i has to be led on to a second that is ahead: it may be, and is over j (itself too), which is needed until then. This is said by the
-- inventory, what was told of each entry and how the clocks were set, and by no rule of the machine
pub record HasToBeLed (s : WatchState) (i j until : ℕ) : Type 0 where
  pub ends : IsEndToBeLed until (track_at s i).renewable (track_at s i).end
  pub may : MayBeLed s i j until
  pub over : Over s.forest.entries i j
  pub needed : IsNeedUntil s.clocks (entry_of s j).need until
  pub ahead : second s < until

-- in every state, an entry that has to be led on is wanted
abbrev pub NeededLaw : Type 0
NeededLaw = (s : WatchState) (i j until : ℕ) → HasToBeLed s i j until → is_wanted s i ≡ true

-- and only such an entry is: whoever is wanted has to be led on to a second that is ahead
abbrev pub WantedLaw : Type 0
WantedLaw = (s : WatchState) (i : ℕ) → is_wanted s i ≡ true → (j : ℕ) × ((until : ℕ) × HasToBeLed s i j until)

-- i is over j (itself too), which is needed until a second that is ahead, with nothing over that fixed before
pub record IsNeededBy (s : WatchState) (i j until : ℕ) : Type 0 where
  pub over : Over s.forest.entries i j
  pub needed : IsNeedUntil s.clocks (entry_of s j).need until
  pub ahead : second s < until
  pub open_until : IsOpenUntil s j until

abbrev pub IsNeeded : WatchState → ℕ → Type 0
IsNeeded s i = (j : ℕ) × ((until : ℕ) × IsNeededBy s i j until)

-- no reply has told the broker's clock yet, and i is over one that has any need
abbrev pub MayBeNeeded : WatchState → ℕ → Type 0
MayBeNeeded s i = (s.clocks.dated ≡ false) × ((j : ℕ) × (Over s.forest.entries i j × (0 < (entry_of s j).need)))

-- just these entries owe a lookup at a beginning, where their ends are ahead or unknown
abbrev pub CalledLaw : Type 0
CalledLaw = (s : WatchState) (i : ℕ) → (is_called s.forest s.tracks s.clocks i ≡ true) ↔ (IsNeeded s i ⊎ MayBeNeeded s i)

-- an entry as it is seen, its need cut to its limit or not, and whether it is wanted, if needs were brought to this clock by a function, and all
-- else were as it is
abbrev pub seen_by : (Clocks → ℕ → ℕ) → WatchState → ℕ → Entry
seen_by here s i = record (seen_entry s.forest.entries s.tracks s.clocks i) { need = min (here s.clocks (entry_of s i).need) (limit s.forest.entries s.tracks i) }

abbrev pub freely_seen_by : (Clocks → ℕ → ℕ) → WatchState → ℕ → Entry
freely_seen_by here s i = record (entry_of s i) { need = here s.clocks (entry_of s i).need }

abbrev pub carried_by : (ℕ → Entry) → WatchState → ℕ → ℕ
carried_by seen s i = carried (map seen (range_with_len 0 (length s.forest.entries))) (second s) i

abbrev pub is_wanted_by : (Clocks → ℕ → ℕ) → WatchState → ℕ → Bool
is_wanted_by here s i = wants (track_at s i) (if has_last_try (track_at s i) then carried_by (freely_seen_by here s) s i else carried_by (seen_by here s) s i)

-- the law of needs, of a machine that brings needs to its clock so
abbrev pub NeededBy : (Clocks → ℕ → ℕ) → Type 0
NeededBy here = (s : WatchState) (i j until : ℕ) → HasToBeLed s i j until → is_wanted_by here s i ≡ true

-- this machine does it by need_here; and of none that drops a need which is ahead, or shortens it, would the law be true
pub record NoneDroppedLaw : Type 0 where
  pub ours : (s : WatchState) (i : ℕ) → is_wanted_by need_here s i ≡ is_wanted s i
  pub no_less : (here : Clocks → ℕ → ℕ) → NeededBy here → (c : Clocks) (need until : ℕ) → IsNeedUntil c need until → sec c.at < until → until ≤ here c need

-- the converse, of such a machine
abbrev pub WantedBy : (Clocks → ℕ → ℕ) → Type 0
WantedBy here = (s : WatchState) (i : ℕ) → is_wanted_by here s i ≡ true → (j : ℕ) × ((until : ℕ) × HasToBeLed s i j until)

-- and of none that takes a need which is past as ahead, or lengthens one, would the converse be true
abbrev pub NoneAddedLaw : Type 0
NoneAddedLaw = (here : Clocks → ℕ → ℕ) → WantedBy here → (c : Clocks) (need until : ℕ) → sec c.at < until → until ≤ LAST → until ≤ here c need → IsNeedUntil c need until
