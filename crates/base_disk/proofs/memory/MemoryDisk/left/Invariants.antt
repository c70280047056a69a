use Rattle.std.proofs.Common.{take}
use Rattle.base_disk.specs.{History.state_after_calls, Memory.at_first, Memory.image_of, Memory.kept_of, Memory.held_file, Left.PathIsFollowed}
use Rattle.base_disk.proofs.memory.MemoryDisk.left.Given as goal

abbrev pub invariant-loop-call : goal.invariant-loop-call
invariant-loop-call l =
    PathIsFollowed l.path (held_file l.seen) (held_file l.left) l.sound (state_after_calls (take l.call-index l.self.calls.items) (at_first (image_of l.self.files.items) (kept_of l.self.files.items l.self.kept) l.self.fault))
