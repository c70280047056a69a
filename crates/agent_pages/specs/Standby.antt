-- Standby: how an agent stands to others that serve the same inventory: at its start, and in one word.
-- Source: this project's own, docs/running.md, "What the operator sees".
use Rattle.std.specs.Prelude.{ℕ, Bool, true, false, List, codes}
use Rattle.agent_pages.specs.declared.standby.Standby.{Standby}

-- it has done nothing yet
abbrev pub begun_standby : Bool → Standby
begun_standby is_behind = record { is_behind = is_behind; looked_ahead = 0; stepped_in = 0 }

abbrev pub standby_word : Bool → List ℕ
standby_word true = codes "behind"
standby_word false = codes "first"
