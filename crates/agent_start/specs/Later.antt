-- Later: a state folder that cannot be used at the start is opened later.
-- Source: docs/commands/serve.md, "Changes".
use Rattle.std.specs.Prelude.{◌≡◌, List, ℕ, ◌++◌, codes}
use Rattle.agent_ledger.specs.declared.ledger.Ledger.{Ledger}
use Rattle.agent_words.specs.declared.demands.Demands.{Demands}
use Rattle.agent_start.specs.Starts.{IsFreshLedger}

-- a ledger that has looked at no file of a credential yet, of an inventory of which this is demanded
pub record IsLaterLedger {D I L : Type 0} (d : Demands) (l : Ledger D I L) : Type 0 where
  pub demands : l.demands ≡ d
  pub fresh : IsFreshLedger l

abbrev pub open_text : List ℕ → List ℕ
open_text name = name ++ codes " can be used: changes are kept from now on"
