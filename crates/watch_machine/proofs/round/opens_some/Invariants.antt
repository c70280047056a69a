-- Whether an entry before the index opens a round is known.
use Rattle.std.proofs.Common.{◌≡◌, ◌<◌, ℕ, false, get_or}
use Rattle.plan_forest.specs.Forest.{entry_at}
use Rattle.watch_machine.specs.{Round.opens, State.no_track, code.View.need_at}
use Rattle.watch_machine.proofs.round.opens_some.Given as goal

-- none so far does
abbrev pub invariant-loop-index : goal.invariant-loop-index
invariant-loop-index l = (k : ℕ) → k < l.index → opens l.margin (entry_at l.forest.entries k) (get_or l.tracks k no_track) (need_at l.needs k) l.now ≡ false
