-- Told: what a lookup that tells makes of its entry, and what else changes what is known of it: a need and an end that are handed in. The laws are
-- the contract of public functions without a body.
-- Source: this project's own, over Vault, HTTP API: `auth/token`, "Lookup a token (self)"; `sys/leases`, "Read lease".
use Rattle.std.specs.Prelude.{◌≡◌, ◌≢◌, ℕ, ◌+◌, ◌<◌, ◌≤◌, Bool, true, false, not, ◌&&◌, if◌then◌else◌, [], ◌∷◌, Option, Some, None, is_some, length, max, min, nat_lt}
use Rattle.base_moment.specs.declared.moment.TheConstants.{LAST}
use Rattle.plan_forest.specs.{declared.entry.Entry.Entry, declared.forest.TheConstants.END_MAX, Push.is_lease}
use Rattle.watch_machine.specs.{declared.event.WatchEvent.WatchEvent, declared.event.WatchReply.TheVariants.Told, declared.event.WatchTerms.WatchTerms, declared.lanes.Out.Out, declared.track.Try.Try, Clocks.sec}
use Rattle.watch_machine.specs.{History.History, History.Turned, Refusal.request_out}
use Rattle.watch_machine.specs.declared.event.WatchEvent.TheVariants.{Clock, Looked, Renewed, Need, Begin, Known}
use Rattle.watch_machine.specs.declared.event.Operation.TheVariants.{Look, Renew}
use Rattle.watch_machine.specs.declared.track.End.TheVariants.{At, Never}
use Rattle.watch_machine.specs.State.{WatchState, attempt_at, entry_of, second, track_at}
use Rattle.watch_machine.specs.Wanted.{believed, is_alive, is_wanted}
use Rattle.watch_laws.specs.{Absence.is_event_taken, Presses.asked_again_at, Time.is_come}

-- the try u that goes on as a renewal from the lookup of the try t: at once, as one that has not failed. It is the same try where that was
-- pressed; else it begins now
pub record GoesOnAsRenewal (now : ℕ) (t u : Try) : Type 0 where
  pub at : u.at ≤ now
  pub operation : u.operation ≡ Renew
  pub pressed : u.pressed ≡ true
  pub failed : u.failed ≡ false
  pub same : t.pressed ≡ true → (u.base ≡ t.base) × (u.fails ≡ t.fails)
  pub anew : t.pressed ≡ false → (u.base ≡ Some now) × (u.fails ≡ 0)

-- the try u that failed, and is not lost, since an end was told which is not ahead
pub record EndsTooSoon (t u : Try) : Type 0 where
  pub failed : u.failed ≡ true
  pub lost : u.lost ≡ false
  pub operation : u.operation ≡ Look
  pub fails : u.fails ≡ min 20 (t.fails + 1)

-- what the answer to the lookup q tells of i: the end is so many seconds after the second in which the request went out, or there is none; and no
-- lookup is owed any more. Where the entry is wanted, as it was told, and its time has come, it is renewed at once; else its try ends, unless the
-- end is not ahead: then it is looked up again
pub record IsToldByLookup (old new : WatchState) (i seconds : ℕ) (renewable : Bool) (terms : WatchTerms) (q : Out) : Type 0 where
  pub end : (track_at new i).end ≡ (if terms.endless then Never else At (sec q.since + seconds))
  pub goes_on : (track_at new i).renewable ≡ renewable
  pub owes : (track_at new i).owes ≡ false
  pub tried : is_wanted new i && is_come new i ≡ true → (t : Try) → attempt_at old i ≡ Some t → is_some (attempt_at new i) ≡ true
  pub renews : is_wanted new i && is_come new i ≡ true → (t u : Try) → attempt_at old i ≡ Some t → attempt_at new i ≡ Some u → GoesOnAsRenewal new.clocks.at t u
  pub done : is_wanted new i && is_come new i ≡ false → is_alive (second new) (track_at new i) ≡ true → attempt_at new i ≡ None
  pub past :
      is_wanted new i && is_come new i ≡ false → is_alive (second new) (track_at new i) ≡ false → (t u : Try) → attempt_at old i ≡ Some t → attempt_at new i ≡ Some u → EndsTooSoon t u

abbrev pub ToldLaw : Type 0
ToldLaw =
    (old : WatchState) (turn : Turned) (i seconds : ℕ) (renewable : Bool) (date : Option ℕ) (terms : WatchTerms) (q : Out) → History old (turn ∷ []) → i < length old.tracks →
    turn.event ≡ Looked i (Told seconds renewable date) terms → is_event_taken turn.result ≡ true → request_out old.out i Look ≡ Some q → IsToldByLookup old turn.state i seconds renewable terms q

-- the try u that only owes a lookup, which it may go out for within half a minute; it is not lost
pub record OwesLater (now : ℕ) (u : Try) : Type 0 where
  pub at : u.at ≤ now + 30000
  pub lost : u.lost ≡ false
  pub operation : u.operation ≡ Look
  pub pressed : u.pressed ≡ false

-- what a grant leaves to be asked of i: nothing, where the end to which it leads is ahead, but the lookup that is owed; and a lookup where it is
-- not, as after a failure
pub record IsDone (old new : WatchState) (i : ℕ) : Type 0 where
  pub done : second old < believed (track_at new i).end → (track_at old i).owes ≡ false → attempt_at new i ≡ None
  pub owes : second old < believed (track_at new i).end → (track_at old i).owes ≡ true → (u : Try) → attempt_at new i ≡ Some u → OwesLater old.clocks.at u
  pub past : believed (track_at new i).end ≤ second old → (t u : Try) → attempt_at old i ≡ Some t → attempt_at new i ≡ Some u → EndsTooSoon t u

abbrev pub DoneLaw : Type 0
DoneLaw =
    (old : WatchState) (turn : Turned) (i seconds : ℕ) (renewable : Bool) (date : Option ℕ) → History old (turn ∷ []) → i < length old.tracks →
    turn.event ≡ Renewed i (Told seconds renewable date) → is_event_taken turn.result ≡ true → IsDone old turn.state i

-- an entry by the terms that are told: its step, where that is more than the margin; its ceiling, or that it has none; and no parent where it is
-- told to be an orphan and is a token
abbrev pub step_by : ℕ → ℕ → Option ℕ → ℕ
step_by margin step None = step
step_by margin step (Some told) = if nat_lt margin told then told else step

abbrev pub ceiling_by : Option ℕ → Option ℕ
ceiling_by None = None
ceiling_by (Some ceiling) = Some (min END_MAX ceiling)

abbrev pub parent_by : WatchTerms → Entry → Option ℕ
parent_by terms e = if terms.orphan && not (is_lease e.kind) then None else e.parent

abbrev pub entry_by : ℕ → WatchTerms → Entry → Entry
entry_by margin terms e = record e { step = step_by margin e.step terms.step; ceiling = ceiling_by terms.ceiling; parent = parent_by terms e }

-- one entry of the forest is this one now, and nothing else of it is another
pub record OneIs (old new : WatchState) (i : ℕ) (e : Entry) : Type 0 where
  pub own : entry_of new i ≡ e
  pub others : (j : ℕ) → j ≢ i → entry_of new j ≡ entry_of old j
  pub margin : new.forest.margin ≡ old.forest.margin

-- an event writes the forest: a need, or a lookup that tells
abbrev pub writes : WatchEvent → Bool
writes (Clock wall elapsed) = false
writes (Looked i (Told seconds renewable date) terms) = true
writes (Looked i reply terms) = false
writes (Renewed i reply) = false
writes (Need i until) = true
writes Begin = false
writes (Known i end renewable) = false

-- a lookup of i is owed, and where its request is not out there is a try, which may go out now, or a second after the entry was last asked
abbrev pub OwesNow : WatchState → WatchState → ℕ → Type 0
OwesNow old new i =
    ((track_at new i).owes ≡ true)
    × ((track_at old i).out ≡ false → (u : Try) × ((attempt_at new i ≡ Some u) × (u.at ≤ max new.clocks.at (asked_again_at (track_at old i).last))))

-- an end that is handed in is believed, and whether the entry is renewable. Where that end is past, a lookup is owed; else what is to be asked stays
pub record IsHandedIn (old new : WatchState) (i end : ℕ) (renewable : Bool) : Type 0 where
  pub end_is : (track_at new i).end ≡ At (min END_MAX end)
  pub goes_on : (track_at new i).renewable ≡ renewable
  pub ahead : second new < min END_MAX end → (attempt_at new i ≡ attempt_at old i) × ((track_at new i).owes ≡ (track_at old i).owes)
  pub past : min END_MAX end ≤ second new → OwesNow old new i

-- a lookup that tells writes its entry so, a need is set, and nothing else writes the forest. An end that is handed in is taken so
pub record ForestWrittenLaw : Type 0 where
  pub terms :
      (old : WatchState) (turn : Turned) (i seconds : ℕ) (renewable : Bool) (date : Option ℕ) (terms : WatchTerms) → History old (turn ∷ []) → i < length old.forest.entries →
      turn.event ≡ Looked i (Told seconds renewable date) terms → is_event_taken turn.result ≡ true → OneIs old turn.state i (entry_by old.forest.margin terms (entry_of old i))
  pub need :
      (old : WatchState) (turn : Turned) (i until : ℕ) → History old (turn ∷ []) → i < length old.forest.entries → turn.event ≡ Need i until → is_event_taken turn.result ≡ true →
      OneIs old turn.state i (record (entry_of old i) { need = min LAST until })
  pub others : (old : WatchState) (turn : Turned) → History old (turn ∷ []) → is_event_taken turn.result && writes turn.event ≡ false → turn.state.forest ≡ old.forest
  pub known :
      (old : WatchState) (turn : Turned) (i end : ℕ) (renewable : Bool) → History old (turn ∷ []) → i < length old.tracks → turn.event ≡ Known i end renewable → is_event_taken turn.result ≡ true →
      IsHandedIn old turn.state i end renewable
