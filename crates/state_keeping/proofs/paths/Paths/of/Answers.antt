-- The paths are those of FILE and FOLDER.
use Rattle.std.specs.Prelude.{string_bytes}
use Rattle.state_keeping.proofs.Placed.{places_are}
use Rattle.state_keeping.proofs.paths.Paths.of.Goals as goal

pub returns-clause-made : goal.returns-clause-made
returns-clause-made c = places_are c.args.file.now c.args.folder.now (string_bytes c.in_ok-from_str.field-0) (string_bytes c.in_ok-journal.journal) (string_bytes c.in_ok-copy.copy) (string_bytes c.in_ok-aside.aside) (string_bytes c.in_ok-lock.lock)
    c.in_ok-from_str.ensures.ok c.in_ok-journal.ensures c.in_ok-copy.ensures c.in_ok-aside.ensures c.in_ok-lock.ensures
