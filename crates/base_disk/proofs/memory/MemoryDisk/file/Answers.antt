use Rattle.std.proofs.Common.{sym, ◌∙◌, ap, arith, List}
use Rattle.std.proofs.lemmas.List.{drop_all}
use Rattle.base_disk.specs.{History.file_after_all, Memory.at_first, Memory.image_of, Memory.kept_of, Memory.held_file, declared.call.DiskCall.DiskCall}
use Rattle.base_disk.proofs.Runs.{seen_at}
use Rattle.base_disk.proofs.memory.MemoryDisk.file.Goals as goal

pub returns : goal.returns
returns c =
    let m = c.args.self.now in
    let path = c.args.path.now in
    sym (ap (λ (l : List DiskCall). file_after_all path l (held_file c.loop-call.file)) (drop_all c.loop-call.call-index m.calls.items (omega (arith, c.loop-call-test.false))))
    ∙ c.loop-call.invariant
    ∙ sym (seen_at path m.calls.items (at_first (image_of m.files.items) (kept_of m.files.items m.kept) m.fault))
