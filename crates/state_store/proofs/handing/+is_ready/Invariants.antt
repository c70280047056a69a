-- Each step up counts down.
use Rattle.state_store.proofs.handing.+is_ready.Given as goal

abbrev pub decreases-is_ready : goal.decreases-is_ready
decreases-is_ready l = l.most
