-- Answers: what a failure makes of a try, and what any answer says of the broker and of the requests that are out.
-- Source: Vault, HTTP API, "HTTP status codes"; the rest is this project's own.
use Rattle.std.specs.Prelude.{ℕ, ◌+◌, Bool, true, false, not, ◌||◌, ◌==◌, if◌then◌else◌, List, [], ◌∷◌, ◌++◌, Option, Some, None, filter, map, min, slice_set}
use Rattle.watch_machine.specs.{declared.event.Operation.Operation, declared.event.WatchReply.WatchReply, declared.lanes.Out.Out, declared.lanes.Presence.Presence, declared.notes.Link.Link, declared.track.Track.Track}
use Rattle.watch_machine.specs.{declared.track.Try.Try, Lines.rested, Settling.is_real, State.WatchState, State.each}
use Rattle.watch_machine.specs.declared.notes.Link.TheVariants.{Away, Back}

-- a try that failed: what is asked next, whether no answer came or the broker was busy, and whether others were answered meanwhile
abbrev pub failing : Try → Operation → Bool → Bool → Try
failing t next lost alone = record t { operation = next; base = None; fails = min 20 (t.fails + 1); lost = lost; alone = alone; failed = true }

-- the state with another track of i
abbrev pub with_track : WatchState → ℕ → Track → WatchState
with_track s i x = record s { tracks = slice_set s.tracks i x }

-- the requests that are out but for that of i
unfoldable pub without_request : ℕ → List Out → List Out
without_request i out = filter (λ r. not (r.entry == i)) out

-- a real answer came to another
abbrev pub heard : Out → Out
heard r = record r { heard = true }

-- a try that was lost is due at once, but no sooner than its entry has rested: it pauses no longer, and one that failed since the
-- last clock does not begin to
abbrev pub due_again : Try → ℕ → Try
due_again t from = record t { at = if t.failed then from else min t.at from; failed = false }

-- the broker is there again: what was lost is due at once, and what is out was asked in the absence, so that it is no failure
abbrev pub back_try : Track → Option Try → Option Try
back_try x None = None
back_try x (Some t) = if x.out then Some (record t { fails = 0 }) else (if t.lost then Some (due_again t (rested x.last)) else Some t)

unfoldable pub back_track : Track → Track
back_track x = record x { attempt = back_try x x.attempt }

-- nothing is held back any more; and nothing is yet
abbrev pub is_back : Presence → Presence
is_back p = record p { away = false; count = 0; hold = 0 }

abbrev pub presence_gone : Presence → Presence
presence_gone p = record p { away = true; count = 0; hold = 0 }

-- the broker answers: all that are out hear of it, and it is away no more
abbrev pub back : WatchState → WatchState
back s = if s.presence.away then record s { tracks = each (λ i. back_track) s.tracks; presence = is_back s.presence } else s

abbrev pub answers_all : WatchState → WatchState
answers_all s = back (record s { out = map heard s.out })

-- it does not answer a request to which it answered no other meanwhile: it is away
abbrev pub silent : WatchState → WatchState
silent s = if s.presence.away then s else record s { presence = presence_gone s.presence }

-- an answer, as it is kept until the next clock
abbrev pub noted : WatchState → Out → WatchReply → WatchState
noted s r reply = record s { answers = s.answers ++ record { since = r.since; heard = r.heard; reply = reply } ∷ [] }

-- the state after a reply to this request, which is taken for its entry already
abbrev pub lane_freed : WatchState → Out → WatchState
lane_freed s r = record s { out = without_request r.entry s.out }

abbrev pub replied : WatchState → Out → WatchReply → WatchState
replied s r reply = if is_real reply then answers_all (lane_freed s r) else (if r.heard then lane_freed s r else silent (lane_freed s r))

-- what is noted of it
abbrev pub link : WatchState → Out → WatchReply → Option Link
link s r reply =
    if is_real reply then (if s.presence.away then Some Back else None)
    else (if r.heard || s.presence.away then None else Some Away)
