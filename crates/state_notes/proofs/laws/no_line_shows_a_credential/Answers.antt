-- What is said is the same whatever the credential.
use Rattle.state_notes.proofs.Secrecy.{note_shows_none, why_shows_none}
use Rattle.state_notes.proofs.laws.no_line_shows_a_credential.Goals as goal

pub returns-clause-why : goal.returns-clause-why
returns-clause-why c = why_shows_none

pub returns-clause-note : goal.returns-clause-note
returns-clause-note c = note_shows_none
