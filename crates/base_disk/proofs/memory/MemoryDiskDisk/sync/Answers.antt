use Rattle.std.proofs.Common.{◌∙◌, ap, not}
use Rattle.std.proofs.lemmas.Result.{on_ok_weaker}
use Rattle.base_disk.specs.declared.call.CallMade.TheVariants as what
use Rattle.base_disk.proofs.Runs.{touches, elapses, at_ok, synced, sync_crash, sync_seen}
use Rattle.base_disk.proofs.memory.MemoryDiskDisk.sync.Goals as goal

pub returns-clause-durable : goal.returns-clause-durable
returns-clause-durable c =
    let m = c.args.self.now in
    let n = c.enter.new.self in
    let same = c.enter.ensures.same in
    on_ok_weaker c.enter.result (λ ok known. (synced m n same c.args.path.now (not c.is_turn-done.result) (ap not (c.is_turn-done.ensures ∙ ok.0)) ok.1).0) (at_ok m n same c.args.path.now (what.Sync (not c.is_turn-done.result)) _ c.enter.result c.enter.ensures.entered c.enter.ensures.done)

pub returns-clause-sound : goal.returns-clause-sound
returns-clause-sound c =
    let m = c.args.self.now in
    let n = c.enter.new.self in
    let same = c.enter.ensures.same in
    on_ok_weaker c.enter.result (λ ok known. (synced m n same c.args.path.now (not c.is_turn-done.result) (ap not (c.is_turn-done.ensures ∙ ok.0)) ok.1).1) (at_ok m n same c.args.path.now (what.Sync (not c.is_turn-done.result)) _ c.enter.result c.enter.ensures.entered c.enter.ensures.done)

pub returns-clause-touches : goal.returns-clause-touches
returns-clause-touches c =
    let m = c.args.self.now in
    let n = c.enter.new.self in
    let same = c.enter.ensures.same in
    λ known. touches m n same c.args.path.now (what.Sync (not c.is_turn-done.result)) c.enter.result c.enter.ensures.entered

pub returns-clause-time : goal.returns-clause-time
returns-clause-time c =
    let m = c.args.self.now in
    let n = c.enter.new.self in
    let same = c.enter.ensures.same in
    λ known. elapses m n same c.args.path.now (what.Sync (not c.is_turn-done.result)) c.enter.result c.enter.ensures.entered

pub returns-clause-crash : goal.returns-clause-crash
returns-clause-crash c =
    let m = c.args.self.now in
    let n = c.enter.new.self in
    let same = c.enter.ensures.same in
    λ known. sync_crash m n same c.args.path.now (not c.is_turn-done.result) c.enter.result c.enter.ensures.entered

pub returns-clause-seen : goal.returns-clause-seen
returns-clause-seen c =
    let m = c.args.self.now in
    let n = c.enter.new.self in
    let same = c.enter.ensures.same in
    λ known. sync_seen m n same c.args.path.now (not c.is_turn-done.result) c.enter.result c.enter.ensures.entered
