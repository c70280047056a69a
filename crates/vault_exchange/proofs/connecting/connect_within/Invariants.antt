-- Each pause leaves less time.
use Rattle.std.specs.Duration.{as_nanos}
use Rattle.vault_exchange.proofs.connecting.connect_within.Given as goal

abbrev pub decreases-loop-left : goal.decreases-loop-left
decreases-loop-left g l = as_nanos l.left
