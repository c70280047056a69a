-- Documents that differ in secrets and lease ids alone have the same forest, the same terms and the same notes.
use Rattle.vault_inventory.proofs.Barely.{secrecy_law, served_secrecy_law}
use Rattle.vault_inventory.proofs.laws.secrets_stay_in_credentials.Goals as goal

pub returns-clause-served : goal.returns-clause-served
returns-clause-served c = served_secrecy_law

pub returns-clause-inventory : goal.returns-clause-inventory
returns-clause-inventory c = secrecy_law
