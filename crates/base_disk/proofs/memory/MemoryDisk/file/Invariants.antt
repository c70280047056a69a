use Rattle.std.proofs.Common.{◌≡◌, drop}
use Rattle.base_disk.specs.{History.file_after_all, Memory.image_of, Memory.held_file}
use Rattle.base_disk.proofs.memory.MemoryDisk.file.Given as goal

abbrev pub invariant-loop-call : goal.invariant-loop-call
invariant-loop-call l = file_after_all l.path (drop l.call-index l.self.calls.items) (held_file l.file) ≡ file_after_all l.path l.self.calls.items (image_of l.self.files.items l.path)
