-- The words of a fault take no credential.
use Rattle.std.proofs.Common.{◌≡◌, List, ℕ, refl}
use Rattle.state_changes.specs.declared.change.ChangeKind.{ChangeKind}
use Rattle.state_notes.proofs.Secrecy.{why_shows_none}
use Rattle.state_notes.specs.Laws.{IsSameBut}
use Rattle.state_store.specs.declared.fault.TakeFault.{TakeFault}
use Rattle.state_store.specs.declared.fault.TakeFault.TheVariants as takes
use Rattle.agent_ledger.specs.Reasons.{take_words}
use Rattle.agent_laws.proofs.Alike.{end_alike, keeps_alike, replaced_alike}
use Rattle.agent_laws.proofs.laws.no_credential_is_told.Goals as goal

refused : (margin : ℕ) (name : List ℕ) (w v : ChangeKind) (fault : TakeFault) → IsSameBut w v → take_words margin name w fault ≡ take_words margin name v fault
refused margin name w v (takes.Refused fault) h = why_shows_none margin name w v fault h
refused margin name w v _ h = refl

pub returns-clause-refused : goal.returns-clause-refused
returns-clause-refused c = refused

pub returns-clause-replaced : goal.returns-clause-replaced
returns-clause-replaced c = λ name row credential. (refl, refl)

pub returns-clause-replaced_of : goal.returns-clause-replaced_of
returns-clause-replaced_of c = replaced_alike

pub returns-clause-keeps : goal.returns-clause-keeps
returns-clause-keeps c = keeps_alike

pub returns-clause-end : goal.returns-clause-end
returns-clause-end c = end_alike
