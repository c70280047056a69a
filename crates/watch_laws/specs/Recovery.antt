-- Recovery: how long an entry waits while the broker is there. The law is the contract of a public function without a body.
-- Source: this project's own.
use Rattle.std.specs.Prelude.{◌≡◌, ℕ, ◌+◌, ◌*◌, ◌<◌, ◌≤◌, true, false, List, [], ◌∷◌, Some, Result, Ok, Err, length}
use Rattle.watch_machine.specs.{declared.command.WatchOutput.WatchOutput, declared.event.WatchEvent.WatchEvent, declared.fault.WatchFault.WatchFault, declared.track.Try.Try, Change.former_at, Lines.ready, Settling.timed}
use Rattle.watch_machine.specs.declared.event.WatchEvent.TheVariants.{Clock, Looked, Renewed, Need, Begin, Known}
use Rattle.watch_machine.specs.History.{AllHappen, Changes, Happening, Hands, IsReached, Turned, state_after}
use Rattle.watch_machine.specs.State.{WatchState, attempt_at, track_at}
use Rattle.watch_laws.specs.Absence.{is_clock, is_event_taken}
use Rattle.watch_laws.specs.Outage.{Outage, in_line, outage_next_after}

-- no outage: every request is settled so soon, and every clock comes in time
abbrev pub without_outage : ℕ → ℕ → Outage
without_outage quick late = record { from = 0; until = 0; quick = quick; slow = quick; late = late; rounds = 0 }

-- i waits, and may go out by now
pub record MayGo (s : WatchState) (i : ℕ) : Type 0 where
  pub within : i < length s.forest.entries
  pub free : (track_at s i).out ≡ false
  pub attempt : Try
  pub attempt_is : attempt_at s i ≡ Some attempt
  pub due : ready s.presence (track_at s i) attempt ≤ s.clocks.at

-- a clock comes in time, and after each clock i may go out and has not
abbrev pub IsPassing : ℕ → ℕ → WatchState → WatchEvent → WatchState → Type 0
IsPassing i due old (Clock wall elapsed) new = ((timed old wall elapsed).clocks.at ≤ due) × MayGo new i
IsPassing i due old (Looked j reply terms) new = Unit {0}
IsPassing i due old (Renewed j reply) new = Unit {0}
IsPassing i due old (Need j until) new = Unit {0}
IsPassing i due old Begin new = Unit {0}
IsPassing i due old (Known j end renewable) new = Unit {0}

abbrev pub IsPassedBy : ℕ → ℕ → WatchState → WatchEvent → Result WatchOutput WatchFault → WatchState → Type 0
IsPassedBy i due old event (Ok output) new = IsPassing i due old event new
IsPassedBy i due old event (Err fault) new = Unit {0}

-- turns that pass over i while the broker is there, and changes over which i stays, under the index k
abbrev pub ArePassing : Outage → ℕ → ℕ → WatchState → List Happening → Type 0
ArePassing o i due s [] = Unit {0}
ArePassing o i due s (Hands turn ∷ hs) = IsPassedBy i due s turn.event turn.result turn.state × ArePassing o i (outage_next_after o turn.result turn.state due) turn.state hs
ArePassing o i due s (Changes c ∷ hs) = (k : ℕ) × ((former_at c.was k ≡ Some i) × ArePassing o k due c.state hs)

abbrev pub AllBy : ℕ → List Happening → Type 0
AllBy by [] = Unit {0}
AllBy by (h ∷ hs) = ((state_after h).clocks.at ≤ by) × AllBy by hs

-- while the broker is there, an entry that may go out and does not waits no longer than so many rounds of the lanes as hold those that
-- wait at first and come to wait meanwhile, itself among them. Over changes, too: one counts as the lookups that it brings
abbrev pub RecoveryLaw : Type 0
RecoveryLaw =
    (quick late rounds : ℕ) (old : WatchState) (last : Turned) (hs : List Happening) (i : ℕ) → IsReached old → 0 < old.width → AllHappen old (Hands last ∷ hs) → is_clock last.event ≡ true →
    is_event_taken last.result ≡ true → MayGo last.state i →
    ArePassing (without_outage quick late) i (outage_next_after (without_outage quick late) last.result last.state 0) last.state hs →
    in_line (without_outage quick late) last.state hs ≤ old.width * rounds → AllBy (last.state.clocks.at + (quick + late) * rounds) hs
