-- Laws of ends that are kept over a restart. Each is the contract of a public function without a body.
use Rattle.std.specs.Prelude.{◌≡◌, ℕ, Bool, true, false, List, [], ◌∷◌}
use Rattle.agent_standing.specs.{declared.ends.KnownEnd.KnownEnd, Agent.Agent, Ends.IsKnownEnd, Turns.EventIsTaken}
use Rattle.watch_machine.specs.{declared.command.WatchOutput.WatchOutput, declared.event.WatchEvent.WatchEvent}
use Rattle.watch_machine.specs.declared.event.WatchEvent.TheVariants.{Clock, Looked, Renewed, Need, Begin, Known}
use Rattle.agent_ends.specs.Files.{tells_of_end}
use Rattle.agent_ends.specs.Ends.{ends_in, ends_of, ends_text}

-- each may be kept, and was told in this boot
abbrev pub AreOf : List ℕ → List KnownEnd → Type 0
AreOf boot [] = Unit {0}
AreOf boot (k ∷ ks) = IsKnownEnd k × (k.boot ≡ boot) × AreOf boot ks

-- what is kept is read back, in this boot
abbrev pub ReadBackLaw : Type 0
ReadBackLaw = (boot : List ℕ) (ends : List KnownEnd) → AreOf boot ends → ends_in boot (ends_text ends) ≡ ends

-- an answer that tells of an end, or one that is handed in
abbrev pub tells_end : WatchEvent → Bool
tells_end (Clock wall elapsed) = false
tells_end (Looked i reply terms) = tells_of_end reply
tells_end (Renewed i reply) = tells_of_end reply
tells_end (Need i until) = false
tells_end Begin = false
tells_end (Known i end renewable) = true

-- by no other event does what is kept of an agent change
abbrev pub OnlyToldLaw : Type 0
OnlyToldLaw = (old new : Agent) (event : WatchEvent) (output : WatchOutput) → EventIsTaken old event output new → tells_end event ≡ false → (boot : List ℕ) → ends_of new boot ≡ ends_of old boot
