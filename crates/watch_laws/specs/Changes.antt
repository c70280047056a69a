-- Changes: what another forest that is watched costs: no entry anything that is known of it. Each law is the contract of a public function
-- without a body.
-- Source: this project's own.
use Rattle.std.specs.Prelude.{◌≡◌, ◌≢◌, ℕ, ◌<◌, ◌≤◌, true, false, not, ◌&&◌, List, [], ◌∷◌, Option, Some, None, Result, Ok, Err, length, max, min, option_map}
use Rattle.std.specs.List.{All}
use Rattle.plan_forest.specs.{declared.entry.Entry.Entry, Forest.Forest, Forest.entry_at, Push.IsForest, Push.is_lease}
use Rattle.watch_machine.specs.{declared.command.WatchOutput.WatchOutput, declared.event.Operation.Operation, declared.event.Operation.TheVariants.Look, declared.fault.WatchFault.WatchFault, declared.lanes.Out.Out}
use Rattle.watch_machine.specs.{declared.notes.Notes.Notes, declared.track.End.TheVariants.Unknown, declared.track.Track.Track, declared.track.Try.Try, Change.place_now, Change.was_at, Refusal.request_out, Step.nothing_noted}
use Rattle.watch_machine.specs.declared.change.Was.TheVariants.{New, Same, Retold}
use Rattle.watch_machine.specs.History.{Changed, History, IsChanged, IsReached, Turned}
use Rattle.watch_machine.specs.State.{WatchState, entry_of, track_at}
use Rattle.watch_laws.specs.{Backs.is_reply_to, Presence.IsIndexNow, Presses.asked_again_at}

-- ---- an entry that was watched before

-- its request stays out, under the index that it has now, and no other is out under that
abbrev pub KeepsRequest : WatchState → WatchState → ℕ → ℕ → Type 0
KeepsRequest old new i j =
    (operation : Operation) → request_out new.out j operation ≡ option_map (λ (r : Out). record r { entry = j }) (request_out old.out i operation)

-- what lookups have told of it stays written of it: its step, where that is more than the margin; its ceiling; and that it has no parent
pub record KeepsTerms (old : WatchState) (g : Forest) (new : WatchState) (i j : ℕ) : Type 0 where
  pub step : g.margin < (entry_of old i).step → (entry_of new j).step ≡ (entry_of old i).step
  pub ceiling : (entry_of new j).ceiling ≡ (entry_of old i).ceiling
  pub orphan : is_lease (entry_at g.entries j).kind ≡ false → (entry_of old i).parent ≡ None → (entry_of new j).parent ≡ None
  pub need : (entry_of new j).need ≡ (entry_at g.entries j).need

-- one of which the inventory says what it said, but for its need: all that is known of it stays, its end, its word on renewal, its top, its
-- try with all its failures and its pause
pub record KeepsAll (old : WatchState) (c : Changed) (i j : ℕ) : Type 0 where
  pub track : track_at c.state j ≡ track_at old i
  pub request : KeepsRequest old c.state i j
  pub terms : KeepsTerms old c.forest c.state i j

-- its try, from which on it may be asked at once, but no sooner than it has rested: as it was, but no later; where there was none, it is a
-- lookup that is only owed
pub record IsHastened (from : ℕ) (t u : Try) : Type 0 where
  pub at : u.at ≡ min t.at from
  pub rest : u ≡ record t { at = u.at }

pub record IsOwed (from : ℕ) (u : Try) : Type 0 where
  pub at : u.at ≡ from
  pub operation : u.operation ≡ Look
  pub pressed : u.pressed ≡ false
  pub fails : u.fails ≡ 0
  pub lost : u.lost ≡ false
  pub alone : u.alone ≡ false
  pub failed : u.failed ≡ false

abbrev pub IsSoonerThan : ℕ → Option Try → Option Try → Type 0
IsSoonerThan from t None = ⊥
IsSoonerThan from None (Some u) = IsOwed from u
IsSoonerThan from (Some t) (Some u) = IsHastened from t u

-- one of which it says something else: the same, but that it is at its top no more, and a lookup of it is owed, at once where it is not out
pub record KeepsButTop (at : ℕ) (old new : Track) : Type 0 where
  pub end : new.end ≡ old.end
  pub renewable : new.renewable ≡ old.renewable
  pub top : new.top ≡ false
  pub last_try : new.last_try ≡ (not old.top && old.last_try)
  pub grant : new.grant ≡ old.grant
  pub owes : new.owes ≡ true
  pub last : new.last ≡ old.last
  pub out : new.out ≡ old.out
  pub is_out : old.out ≡ true → new.attempt ≡ old.attempt
  pub free : old.out ≡ false → IsSoonerThan (max at (asked_again_at old.last)) old.attempt new.attempt

-- ---- an entry that was not

-- nothing is known of it but what the inventory says, and a lookup of it is owed at once
pub record IsWatchedAnew (at : ℕ) (e : Entry) (x : Track) : Type 0 where
  pub end : x.end ≡ Unknown
  pub renewable : x.renewable ≡ e.renewable
  pub top : x.top ≡ false
  pub last_try : x.last_try ≡ true
  pub grant : x.grant ≡ None
  pub owes : x.owes ≡ true
  pub last : x.last ≡ None
  pub out : x.out ≡ false
  pub attempt : (u : Try) × ((x.attempt ≡ Some u) × IsOwed at u)

-- ---- requests, and all else

-- where a request is that was out: it is the same but for its index, which is that of its entry, or past the last where that is no more
pub record IsMoved (c : Changed) (old new : Out) : Type 0 where
  pub entry : IsIndexNow (length c.forest.entries) (place_now c.was old.entry) new.entry
  pub rest : new ≡ record old { entry = new.entry }

-- and all of them, in their order
abbrev pub AreMoved : Changed → List Out → List Out → Type 0
AreMoved c [] new = new ≡ []
AreMoved c (r ∷ rest) [] = ⊥
AreMoved c (r ∷ rest) (q ∷ more) = IsMoved c r q × AreMoved c rest more

-- no two are out under one index
abbrev pub AreUnderOthers : List Out → Type 0
AreUnderOthers [] = Unit {0}
AreUnderOthers (r ∷ rest) = All (λ (q : Out). q.entry ≢ r.entry) rest × AreUnderOthers rest

-- no beginning, no moment and no pause, and nothing is said of the broker
pub record NothingElse (old new : WatchState) : Type 0 where
  pub width : new.width ≡ old.width
  pub answers : new.answers ≡ old.answers
  pub clocks : new.clocks ≡ old.clocks
  pub presence : new.presence ≡ old.presence
  pub begun : new.begun ≡ old.begun
  pub asked : new.asked ≡ old.asked
  pub stepped : new.stepped ≡ old.stepped

-- an answer to a request whose entry is no more is of no entry: where the broker was there, no track is another. And nothing is noted but
-- what it says of the broker
abbrev pub notes_of_turn : Result WatchOutput WatchFault → Notes
notes_of_turn (Ok output) = output.notes
notes_of_turn (Err fault) = nothing_noted

pub record IsOfNobody (old : WatchState) (turn : Turned) : Type 0 where
  pub forest : turn.state.forest ≡ old.forest
  pub tracks : old.presence.away ≡ false → turn.state.tracks ≡ old.tracks
  pub notes : notes_of_turn turn.result ≡ record nothing_noted { link = (notes_of_turn turn.result).link }

-- ---- the law

-- where another forest is watched
pub record ChangeLaw : Type 0 where
  pub same : (old : WatchState) (c : Changed) (i j : ℕ) → IsForest old.forest → IsChanged old c → was_at c.was j ≡ Same i → KeepsAll old c i j
  pub retold :
      (old : WatchState) (c : Changed) (i j : ℕ) → IsChanged old c → was_at c.was j ≡ Retold i →
      KeepsButTop old.clocks.at (track_at old i) (track_at c.state j) × KeepsRequest old c.state i j
  pub anew : (old : WatchState) (c : Changed) (j : ℕ) → IsChanged old c → j < length c.forest.entries → was_at c.was j ≡ New → IsWatchedAnew old.clocks.at (entry_at c.forest.entries j) (track_at c.state j)
  pub requests : (old : WatchState) (c : Changed) → IsChanged old c → AreMoved c old.out c.state.out
  pub apart : (s : WatchState) → IsReached s → AreUnderOthers s.out
  pub rest : (old : WatchState) (c : Changed) → IsChanged old c → NothingElse old c.state
  pub nobody :
      (old : WatchState) (turn : Turned) (i : ℕ) → IsReached old → History old (turn ∷ []) → length old.forest.entries ≤ i → is_reply_to i turn ≡ true → IsOfNobody old turn
