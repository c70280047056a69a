-- Step: what one event does that is not refused.
-- Source: this project's own.
use Rattle.std.specs.Prelude.{◌≡◌, ℕ, Bool, true, false, not, ◌&&◌, if◌then◌else◌, List, Option, Some, None, length, min, nat_lt, slice_set}
use Rattle.base_moment.specs.declared.moment.TheConstants.{LAST}
use Rattle.plan_forest.specs.declared.forest.TheConstants.{END_MAX}
use Rattle.watch_machine.specs.{declared.command.WatchCommand.WatchCommand, declared.command.WatchOutput.WatchOutput, declared.event.WatchEvent.WatchEvent, declared.event.WatchReply.WatchReply, declared.event.WatchTerms.WatchTerms}
use Rattle.watch_machine.specs.{declared.lanes.Out.Out, declared.notes.Link.Link, declared.notes.Notes.Notes, declared.notes.BeginReason.BeginReason, declared.track.End.TheVariants.At, declared.track.Track.Track, Press.pressed}
use Rattle.watch_machine.specs.{Refusal.request_out, Round.IsRound, Round.asked_by_round, Sending.RequestsAreSent, Wait.wait, Wanted.is_never}
use Rattle.watch_machine.specs.declared.command.WatchCommand.TheVariants.{Go, Taken}
use Rattle.watch_machine.specs.declared.event.WatchEvent.TheVariants.{Clock, Looked, Renewed, Need, Begin, Known}
use Rattle.watch_machine.specs.declared.event.Operation.TheVariants.{Look, Renew}
use Rattle.watch_machine.specs.declared.event.WatchReply.TheVariants.{Told, Refused, Busy, Lost}
use Rattle.watch_machine.specs.Answers.{link, noted, replied, with_track}
use Rattle.watch_machine.specs.Beginning.{begun, beginning, owing_past}
use Rattle.watch_machine.specs.Looked.{is_orphaned, looked, status_of}
use Rattle.watch_machine.specs.Renewed.{state_renewed, top_by, track_renewed}
use Rattle.watch_machine.specs.Settling.{has_jumped, settled, timed}
use Rattle.watch_machine.specs.State.{WatchState, entry_of, track_at}

-- nothing is noted
abbrev pub nothing_noted : Notes
nothing_noted = record { began = None; round = None; gone = None; top = None; orphan = false; endless = false; link = None }

-- why a clock begins anew, and the state after its steps 1 to 3
unfoldable pub why : WatchState → ℕ → ℕ → Option BeginReason
why s wall elapsed =
    let t = settled (timed s wall elapsed) in
    beginning t.begun t.asked t.stepped (has_jumped s wall elapsed) t.clocks.at t.tracks

unfoldable pub readied : WatchState → ℕ → ℕ → WatchState
readied s wall elapsed = begun (settled (timed s wall elapsed)) (why s wall elapsed)

-- what is commanded, and the state in which all are pressed that have to be asked
abbrev pub StepCommand : WatchState → WatchCommand → WatchState → Type 0
StepCommand mid (Go requests until) new = RequestsAreSent mid requests new × (until ≡ wait new)
StepCommand mid Taken new = ⊥

-- a clock: the clocks move, failures settle, everything begins anew where it has to; then who has to be asked is pressed, a
-- round opens, as many requests go out as lanes are free, and the wait is told
pub record StepClock (old : WatchState) (wall elapsed : ℕ) (output : WatchOutput) (new : WatchState) : Type 0 where
  pub round : Option (List ℕ)
  pub is_round : IsRound (readied old wall elapsed).forest (readied old wall elapsed).tracks (readied old wall elapsed).clocks round
  pub notes : output.notes ≡ record nothing_noted { began = why old wall elapsed; round = round }
  pub command : StepCommand (pressed (readied old wall elapsed) (asked_by_round round)) output.command new

-- there is an entry at i; the request of one that is no more is out under an index at which there is none
abbrev pub is_watched : WatchState → ℕ → Bool
is_watched s i = nat_lt i (length s.forest.entries)

-- what is noted of an answer to a lookup that told of its entry, of one that told nothing, and of either
abbrev pub notes_told : WatchState → ℕ → WatchTerms → Notes
notes_told s i terms = record nothing_noted {
  orphan = is_orphaned terms (entry_of s i);
  endless = is_watched s i && (terms.endless && not (is_never (track_at s i).end));
}

abbrev pub notes_untold : WatchState → ℕ → WatchReply → Notes
notes_untold s i reply = record nothing_noted { gone = if is_watched s i then status_of reply else None }

abbrev pub notes_of : WatchState → Out → WatchReply → WatchTerms → Notes
notes_of s r (Told seconds renewable date) terms = notes_told s r.entry terms
notes_of s r (Refused status date) terms = notes_untold s r.entry (Refused status date)
notes_of s r Busy terms = notes_untold s r.entry Busy
notes_of s r Lost terms = notes_untold s r.entry Lost

-- with what the answer says of the broker
abbrev pub with_link : Notes → Option Link → Notes
with_link notes link = record notes { link = link }

-- what is noted of an answer to a renewal
abbrev pub notes_top : Option ℕ → Notes
notes_top end = record nothing_noted { top = end }

-- the state with a new need, no later than the last moment
abbrev pub with_need_until : WatchState → ℕ → ℕ → WatchState
with_need_until s i until = record s { forest = record s.forest { entries = slice_set s.forest.entries i (record (entry_of s i) { need = min LAST until }) } }

-- and with an end that an earlier watch told; where that is past a lookup is owed
abbrev pub told_earlier : ℕ → Bool → Track → Track
told_earlier end renewable x = record x { end = At (min END_MAX end); renewable = renewable }

abbrev pub known : WatchState → ℕ → ℕ → Bool → WatchState
known s i end renewable = with_track s i (owing_past s.clocks.at (told_earlier end renewable (track_at s i)))

abbrev pub taken : Notes → WatchOutput
taken notes = record { command = Taken; notes = notes }

-- an answer to a request that is out: it is noted, it is taken for its entry, and then for what it says of the broker. Where its entry is no
-- more, there is nothing to be made of that
abbrev pub notes_looked : WatchState → Out → WatchReply → WatchTerms → Notes
notes_looked s r reply terms = with_link (notes_of s r reply terms) (link (looked s r reply terms) r reply)

abbrev pub notes_renewed : WatchState → Out → WatchReply → Notes
notes_renewed s r reply = with_link (notes_top (top_by reply (track_renewed s r reply))) (link (state_renewed s r reply) r reply)

abbrev pub StepLooked : WatchState → Option Out → WatchReply → WatchTerms → WatchOutput → WatchState → Type 0
StepLooked old None reply terms output new = ⊥
StepLooked old (Some r) reply terms output new =
    (output ≡ taken (notes_looked (noted old r reply) r reply terms)) × (new ≡ replied (looked (noted old r reply) r reply terms) r reply)

abbrev pub StepRenewed : WatchState → Option Out → WatchReply → WatchOutput → WatchState → Type 0
StepRenewed old None reply output new = ⊥
StepRenewed old (Some r) reply output new = (output ≡ taken (notes_renewed (noted old r reply) r reply)) × (new ≡ replied (state_renewed (noted old r reply) r reply) r reply)

-- one step that is not refused
abbrev pub Step : WatchState → WatchEvent → WatchOutput → WatchState → Type 0
Step old (Clock wall elapsed) output new = StepClock old wall elapsed output new
Step old (Looked i reply terms) output new = StepLooked old (request_out old.out i Look) reply terms output new
Step old (Renewed i reply) output new = StepRenewed old (request_out old.out i Renew) reply output new
Step old (Need i until) output new = (output ≡ taken nothing_noted) × (new ≡ with_need_until old i until)
Step old Begin output new = (output ≡ taken nothing_noted) × (new ≡ record old { asked = true })
Step old (Known i end renewable) output new = (output ≡ taken nothing_noted) × (new ≡ known old i end renewable)

-- what may want memory: a clock, and an answer
abbrev pub TurnMayWantMemory : WatchEvent → Type 0
TurnMayWantMemory (Clock wall elapsed) = Unit {0}
TurnMayWantMemory (Looked i reply terms) = Unit {0}
TurnMayWantMemory (Renewed i reply) = Unit {0}
TurnMayWantMemory (Need i until) = ⊥
TurnMayWantMemory Begin = ⊥
TurnMayWantMemory (Known i end renewable) = ⊥
