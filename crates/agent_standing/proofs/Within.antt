-- Within: an event that the Watch takes is of one of its entries, but for an answer, whose entry may be no more. For the turns of an agent.
use Rattle.std.proofs.Common.{◌≡◌, None, length}
use Rattle.watch_machine.specs.{declared.event.WatchEvent.WatchEvent, Refusal.refusal, State.WatchState}
use Rattle.watch_machine.specs.declared.event.WatchEvent.TheVariants.{Need, Known}
use Rattle.agent_standing.specs.code.Within.{IsEventWithin}
use Rattle.agent_standing.proofs.Left.{by_index}

pub taken_within : (s : WatchState) (event : WatchEvent) → refusal s event ≡ None → IsEventWithin (length s.forest.entries) event
unfolding refusal
taken_within s (Need i until) free = by_index s i None free
taken_within s (Known i end renewable) free = by_index s i None free
taken_within s _ free = tt
