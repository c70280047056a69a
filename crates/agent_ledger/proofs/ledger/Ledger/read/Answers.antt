-- The file was read, with some mode, and left alone.
use Rattle.std.proofs.Common.{◌≡◌, ◌∙◌, Some, ap, subst, sym}
use Rattle.base_disk.specs.Image.{Image}
use Rattle.state_keeping.specs.Places.{Places}
use Rattle.agent_ledger.proofs.ledger.Ledger.read.Goals as goal

pub returns-in-Ok-clause-stand : goal.returns-in-Ok-clause-stand
returns-in-Ok-clause-stand g c = (c.in-Ok.read.mode, c.in-Ok.ensures.read)

pub returns-in-Ok-clause-left : goal.returns-in-Ok-clause-left
returns-in-Ok-clause-left g c = (
  c.in-Ok.read.mode,
  λ known.
      let old = c.args.self.now.state in
      let t = g.D.Disk.state c.read_file.new.self.disk in
      subst (λ (p : Places). t.seen p.file ≡ Some (record { mode = c.in-Ok.read.mode; bytes = c.in-Ok.read.bytes })) (sym c.read_file.ensures.places)
      (ap (λ (image : Image). image old.places.file) (c.read_file.ensures.alone known).seen ∙ c.in-Ok.ensures.read known),
)
