use Rattle.std.proofs.Common.{sym, ◌∙◌, subst, Bool, true, false, if◌then◌else◌, Ok, Err}
use Rattle.base_disk.specs.{Memory.HasEntered, Memory.EntersCall, Memory.is_turn, declared.call.CallMade.CallMade, declared.fault.DiskTrouble.DiskTrouble, declared.memory.MemoryDisk.MemoryDisk}
use Rattle.base_disk.specs.declared.fault.DiskFault.TheVariants as faults
use Rattle.base_disk.proofs.memory.MemoryDisk.enter.Goals as goal

-- a call that fails is entered too
either_way : {path : _} {asked : CallMade} {m n : MemoryDisk} (b : Bool) (why : DiskTrouble) → HasEntered path asked m n → EntersCall path asked m n (if b then Err (faults.Failed why) else Ok tt)
either_way true why h = h
either_way false why h = h

pub returns-clause-entered : goal.returns-clause-entered
returns-clause-entered c =
    let m = c.args.self.now in
    subst (EntersCall c.args.path.now c.args.what m c.end.new.self) (sym c.end.ensures.told) (either_way (is_turn m.failing) m.fault (record {
      name = c.in_ok-path.path;
      name_is = c.in_ok-path.ensures.items ∙ c.as_bytes.ensures.value;
      calls = c.end.ensures.calls ∙ c.in_ok-push.ensures.items;
    }))
