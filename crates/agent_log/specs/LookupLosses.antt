-- LookupLosses: what is said where the broker has said nothing of a credential that was looked up.
-- Source: docs/commands/serve.md, "A lookup first".
use Rattle.std.specs.Prelude.{ℕ, List, ◌++◌, Option, Some, None, codes, decimal}
use Rattle.agent_log.specs.Lines.{reason_text}
use Rattle.vault_lanes.specs.declared.loss.Loss.{Loss}
use Rattle.vault_lanes.specs.declared.loss.Loss.TheVariants as losses

abbrev pub loss_text : Loss → List ℕ
loss_text (losses.Connect reason) = codes "connect: " ++ reason_text reason
loss_text losses.Timeout = codes "timeout"
loss_text losses.Closed = codes "closed"
loss_text losses.Reply = codes "reply"
loss_text (losses.Status status) = decimal status

-- a line, and that the broker has said nothing of the credential, where it was asked and has not
abbrev pub line_with_loss : Option Loss → List ℕ → List ℕ
line_with_loss None line = line
line_with_loss (Some why) line = line ++ (codes " (it could not be looked up: " ++ (loss_text why ++ codes ")"))
