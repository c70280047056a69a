-- Feeding: what those who follow the log are given in a turn.
-- Source: this project's own; what a connection takes is base_clients'.
use Rattle.std.specs.Prelude.{◌≡◌, ◌≤◌, ℕ, List, [], ◌∷◌, Option, Some, None, Result, Ok, Err, true, filter, nat_lt, not}
use Rattle.std.specs.declared.alloc.AllocError.{AllocError}
use Rattle.agent_answers.specs.{declared.control.Control.Control, declared.lines.RequestLines.RequestLines}
use Rattle.base_clients.specs.{Tables.Feeds, Tables.GuestTable, declared.fed.Fed.Fed}
use Rattle.base_clients.specs.declared.fed.Fed.TheVariants.{Gone, Full, Taken}
use Rattle.base_log.specs.{Waiting.giving, declared.follower.Follower.Follower, declared.form.Form.Form}
use Rattle.agent_log.specs.{LogDesk.TellsIf, Rooms.Rooms}

-- what its connection took waits no more, and then lines that were dropped may be told of
pub record IsGivenOf (form : Form) (moment taken : ℕ) (old new : Follower) : Type 0 where
  pub told : TellsIf (nat_lt 0 taken) form moment (giving taken old.room) new.room
  pub rest : new ≡ record old { room = new.room }

-- by what came of it; where its connection would have to wait, or memory was wanting, all that waits for it goes on waiting
abbrev pub BecomesFed : Form → ℕ → Result Fed AllocError → Follower → Follower → Type 0
BecomesFed form moment (Ok Gone) old new = new ≡ record old { has_gone = true }
BecomesFed form moment (Ok Full) old new = new ≡ old
BecomesFed form moment (Ok (Taken n)) old new = IsGivenOf form moment n old new
BecomesFed form moment (Err e) old new = new ≡ old

-- no more than that was taken
abbrev pub IsFedAtMost : ℕ → Result Fed AllocError → Type 0
IsFedAtMost most (Ok Gone) = Unit {0}
IsFedAtMost most (Ok Full) = Unit {0}
IsFedAtMost most (Ok (Taken n)) = n ≤ most
IsFedAtMost most (Err e) = Unit {0}

-- its connection is given of what waits for it what one call writes
pub record FollowerIsFed {T : Type 0} (form : Form) (moment : ℕ) (old new : Follower) (before after : GuestTable T RequestLines) : Type 0 where
  pub fed : Result Fed AllocError
  pub feeds : Feeds old.id old.room.bytes fed before after
  pub becomes : BecomesFed form moment fed old new

-- each is, one after another
abbrev pub EachIsFed : {T : Type 0} → Form → ℕ → List Follower → List Follower → GuestTable T RequestLines → GuestTable T RequestLines → Type 0
EachIsFed form moment [] new before after = (new ≡ []) × (after ≡ before)
EachIsFed form moment (f ∷ fs) [] before after = ⊥
EachIsFed {T} form moment (f ∷ fs) (n ∷ ns) before after = (mid : GuestTable T RequestLines) × (FollowerIsFed form moment f n before mid × EachIsFed form moment fs ns mid after)

-- and those who have gone follow no more; the log's own room is left alone
abbrev pub AreFed : {T : Type 0} → Form → ℕ → Rooms → Rooms → GuestTable T RequestLines → GuestTable T RequestLines → Type 0
AreFed form moment old new before after =
    (fed : List Follower) × (EachIsFed form moment old.followers fed before after × (new ≡ record old { followers = filter (λ f. not f.has_gone) fed }))

-- where there is no control socket nobody follows
abbrev pub FollowersGoOn : {T D : Type 0} → Form → ℕ → Rooms → Rooms → Option (Control T D) → Option (Control T D) → Type 0
FollowersGoOn form moment old new None after = (new ≡ old) × (after ≡ None)
FollowersGoOn form moment old new (Some before) None = ⊥
FollowersGoOn form moment old new (Some before) (Some after) =
    AreFed form moment old new before.clients after.clients × (after ≡ record before { clients = after.clients })
