-- Looked: what the answer to a lookup makes of its entry.
-- Source: Vault, HTTP API: `auth/token`, "Lookup a token (self)"; `sys/leases`, "Read lease".
use Rattle.std.specs.Prelude.{ℕ, ◌+◌, Bool, true, false, not, ◌&&◌, if◌then◌else◌, Option, Some, None, is_none, is_some, min, nat_lt, option_map, slice_set}
use Rattle.plan_forest.specs.{declared.entry.Entry.Entry, declared.forest.TheConstants.END_MAX, Push.is_lease}
use Rattle.watch_machine.specs.{declared.event.Operation.Operation, declared.event.WatchReply.WatchReply, declared.event.WatchTerms.WatchTerms, declared.lanes.Out.Out, declared.track.Track.Track, declared.track.Try.Try}
use Rattle.watch_machine.specs.{Answers.failing, Answers.with_track, Clocks.sec, Margins.has_come}
use Rattle.watch_machine.specs.declared.event.Operation.TheVariants.{Look, Renew}
use Rattle.watch_machine.specs.declared.event.WatchReply.TheVariants.{Told, Refused, Busy, Lost}
use Rattle.watch_machine.specs.declared.track.End.TheVariants.{At, Never}
use Rattle.watch_machine.specs.State.{WatchState, entry_of, second, track_at}
use Rattle.watch_machine.specs.Wanted.{is_alive, is_open, is_wanted}

-- a step that is told counts where it is more than the margin
abbrev pub step_told : ℕ → ℕ → Option ℕ → ℕ
step_told margin step None = step
step_told margin step (Some told) = if nat_lt margin told then told else step

-- an entry, alone where the terms say so. A lease keeps its token
abbrev pub parent_told : WatchTerms → Entry → Option ℕ
parent_told terms e = if terms.orphan && not (is_lease e.kind) then None else e.parent

unfoldable pub orphaned : WatchTerms → Entry → Entry
orphaned terms e = record e { parent = parent_told terms e }

-- an entry by the terms that a lookup told
unfoldable pub by_terms : ℕ → WatchTerms → Entry → Entry
by_terms margin terms e = record e {
  step = step_told margin e.step terms.step;
  ceiling = option_map (λ t. min END_MAX t) terms.ceiling;
  parent = parent_told terms e;
}

abbrev pub with_terms : WatchState → ℕ → WatchTerms → WatchState
with_terms s i terms = record s { forest = record s.forest { entries = slice_set s.forest.entries i (by_terms s.forest.margin terms (entry_of s i)) } }

-- a track as a lookup told it that went out at since, but for its try
unfoldable pub told_track : ℕ → ℕ → Bool → Bool → Track → Track
told_track since seconds renewable endless x = record x {
  end = if endless then Never else At (sec since + seconds);
  renewable = renewable;
  owes = false;
  out = false;
}

-- a renewal at once, in the same try; where that was of an owed lookup, the try begins now
unfoldable pub at_once : ℕ → Try → Try
at_once at t =
    if t.pressed
    then record t { at = at; operation = Renew; failed = false }
    else record { at = at; operation = Renew; pressed = true; base = Some at; fails = 0; lost = false; alone = false; failed = false }

-- the try after that: where the entry is to be asked it is renewed at once; an end that is not ahead is a failure; else the try ends
abbrev pub told_try : ℕ → Bool → Track → Option Try → Option Try
told_try at due x None = None
told_try at due x (Some t) = if due then Some (at_once at t) else (if is_alive (sec at) x then None else Some (failing t Look false false))

abbrev pub told_state : WatchState → ℕ → ℕ → ℕ → Bool → WatchTerms → WatchState
told_state s i since seconds renewable terms = with_track (with_terms s i terms) i (told_track since seconds renewable terms.endless (track_at s i))

-- the entry is wanted, and its time has come
abbrev pub is_called_for : WatchState → ℕ → Bool
is_called_for s i = is_wanted s i && has_come s.forest.margin (entry_of s i) (track_at s i) (second s)

abbrev pub with_told_try : WatchState → ℕ → WatchState
with_told_try s i = with_track s i (record (track_at s i) { attempt = told_try s.clocks.at (is_called_for s i) (track_at s i) (track_at s i).attempt })

-- refused: a renewal is tried while the end is ahead or unknown, at once where the lookup was only owed
abbrev pub refused_try : ℕ → Track → Try → Try
refused_try at x t =
    if is_open (sec at) x
    then (if t.pressed then failing t Renew false false else record (failing t Renew false false) { at = at; failed = false })
    else failing t Look false false

-- what is asked after a lookup that had no answer: where the entry is pressed a renewal, unless its end is past
abbrev pub after_look : ℕ → Track → Try → Operation
after_look now x t = if t.pressed && is_open now x then Renew else Look

-- the status of a refusal
abbrev pub status_of : WatchReply → Option ℕ
status_of (Told seconds renewable date) = None
status_of (Refused status date) = Some status
status_of Busy = None
status_of Lost = None

-- the try after a lookup that told nothing
abbrev pub untold_try : ℕ → Bool → WatchReply → Track → Try → Try
untold_try at heard (Told seconds renewable date) x t = t
untold_try at heard (Refused status date) x t = refused_try at x t
untold_try at heard Busy x t = failing t (after_look (sec at) x t) true false
untold_try at heard Lost x t = failing t (after_look (sec at) x t) true heard

abbrev pub untold : ℕ → Bool → WatchReply → Track → Option Try → Option Try
untold at heard reply x None = None
untold at heard reply x (Some t) = Some (untold_try at heard reply x t)

unfoldable pub untold_track : ℕ → Bool → WatchReply → Track → Track
untold_track at heard reply x = record x { owes = x.owes && is_none (status_of reply); out = false; attempt = untold at heard reply x x.attempt }

-- the state after the answer to this request, but for what it says of the broker
abbrev pub looked : WatchState → Out → WatchReply → WatchTerms → WatchState
looked s r (Told seconds renewable date) terms = with_told_try (told_state s r.entry r.since seconds renewable terms) r.entry
looked s r (Refused status date) terms = with_track s r.entry (untold_track s.clocks.at r.heard (Refused status date) (track_at s r.entry))
looked s r Busy terms = with_track s r.entry (untold_track s.clocks.at r.heard Busy (track_at s r.entry))
looked s r Lost terms = with_track s r.entry (untold_track s.clocks.at r.heard Lost (track_at s r.entry))

-- the terms take an entry away from its parent, and it is told for the first time that it never ends
abbrev pub is_orphaned : WatchTerms → Entry → Bool
is_orphaned terms e = terms.orphan && (not (is_lease e.kind) && is_some e.parent)
