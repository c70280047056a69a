-- Line: from when on a try may go out, and who goes out before whom. The laws are the contract of a public function without a body.
-- Source: this project's own.
use Rattle.std.specs.Prelude.{◌≡◌, ◌⊎◌, ◌==◌, ℕ, ◌+◌, ◌<◌, Bool, not, ◌&&◌, if◌then◌else◌, [], ◌∷◌, Option, Some, None, All, max, min}
use Rattle.watch_machine.specs.{declared.command.WatchRequest.WatchRequest, declared.event.Operation.TheVariants.Renew, declared.track.End.End, declared.track.Try.Try, History.History, History.Turned, Lines.ready, Refusal.is_same}
use Rattle.watch_machine.specs.{Wanted.believed, Wanted.is_alive}
use Rattle.watch_machine.specs.State.{WatchState, attempt_at, second, track_at}
use Rattle.watch_laws.specs.{Load.requests_at_turn, Presses.asked_again_at, Recovery.MayGo, Time.is_come}

-- the moment from which on a try may go out. A first try goes out from its own moment on, whatever the broker answered to others. Any other
-- waits until the hold is over, and for its own moment; or, if it was lost and the broker is away, until a second after its entry was last asked,
-- if that comes first
abbrev pub may_go_from : WatchState → ℕ → Try → ℕ
may_go_from s i t =
    if t.pressed && t.fails == 0 then t.at
    else max s.presence.hold (if s.presence.away && t.lost then min t.at (asked_again_at (track_at s i).last) else t.at)

abbrev pub ReadyLaw : Type 0
ReadyLaw = (s : WatchState) (i : ℕ) (t : Try) → ready s.presence (track_at s i) t ≡ may_go_from s i t

-- the parts of the line, as they go out: while the broker is there first tries of ends that are ahead, other first tries, later tries, and lookups
-- that are only owed; while it is away the later tries and those lookups, and then the first tries; and last, in either case, first tries that
-- renew an entry whose time has not come, and go along with others
abbrev pub part_in_line : Bool → Bool → Bool → Try → ℕ
part_in_line away come ahead t =
    if t.pressed && t.fails == 0
    then (if is_same t.operation Renew && not come then 5 else (if ahead then (if away then 3 else 1) else (if away then 4 else 2)))
    else (if t.pressed then (if away then 1 else 3) else (if away then 2 else 4))

-- where a try stands in its part: a first try by the end of its entry, in front where that is unknown; any other by when the entry was last asked,
-- in front where it never was
abbrev pub by_last : Option ℕ → ℕ
by_last None = 0
by_last (Some last) = last + 1

abbrev pub place_in_part : Option ℕ → End → Try → ℕ
place_in_part last end t = if t.pressed && t.fails == 0 then believed end else by_last last

-- the first of two such places is in front of the second: by the part, then by the place in it, then by the lower index
abbrev pub IsInFront : (part place i part' place' j : ℕ) → Type 0
IsInFront part place i part' place' j = (part < part') ⊎ ((part ≡ part') × ((place < place') ⊎ ((place ≡ place') × (i < j))))

-- i stands in front of j, by their tries as they are after a clock, and by when they were asked before it
pub record StandsInFront (old new : WatchState) (i j : ℕ) : Type 0 where
  pub first : Try
  pub first_is : attempt_at new i ≡ Some first
  pub other : Try
  pub other_is : attempt_at new j ≡ Some other
  pub in_front :
      IsInFront (part_in_line new.presence.away (is_come new i) (is_alive (second new) (track_at new i)) first) (place_in_part (track_at old i).last (track_at new i).end first) i
      (part_in_line new.presence.away (is_come new j) (is_alive (second new) (track_at new j)) other) (place_in_part (track_at old j).last (track_at new j).end other) j

-- whatever goes out at a clock stands in front of each entry that may go out and does not
abbrev pub LineLaw : Type 0
LineLaw = (old : WatchState) (turn : Turned) (j : ℕ) → History old (turn ∷ []) → MayGo turn.state j → All (λ (r : WatchRequest). StandsInFront old turn.state r.entry j) (requests_at_turn turn.result)
