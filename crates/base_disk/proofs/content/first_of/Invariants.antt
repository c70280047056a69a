use Rattle.std.proofs.Common.{◌≡◌, drop}
use Rattle.base_disk.specs.Memory.{image_of}
use Rattle.base_disk.proofs.content.first_of.Given as goal

abbrev pub invariant-loop-stored : goal.invariant-loop-stored
invariant-loop-stored l = image_of (drop l.stored-index l.files) l.path ≡ image_of l.files l.path
