-- Inventories that differ in secrets alone have rehearsals that write fronts of one text, with one exit.
use Rattle.tick_commands.proofs.SameRehearsal.{rehearse_secrecy}
use Rattle.tick_commands.proofs.laws.secrets_change_no_rehearsal.Goals as goal

pub returns : goal.returns
returns c = rehearse_secrecy
