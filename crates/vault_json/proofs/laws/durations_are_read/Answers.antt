-- A duration is read from a value exactly where the value writes it.
use Rattle.vault_json.proofs.DurationLaw as laws
use Rattle.vault_json.proofs.laws.durations_are_read.Goals as goal

pub returns : goal.returns
returns c = laws.durations_are_read
