use Rattle.std.proofs.Common.{◌≡◌, ℕ, List, length, ◌∙◌, ap, subst, not}
use Rattle.std.proofs.lemmas.Result.{on_ok_weaker}
use Rattle.base_disk.specs.{Image.image_changed, Image.with_bytes, Image.overwritten, Torn.Torn, Torn.Tears, State.OutcomesFollow, Memory.memory_state}
use Rattle.base_disk.specs.declared.call.CallMade.TheVariants as what
use Rattle.base_disk.proofs.Runs.{touches, elapses, at_ok, wrote, write_crash}
use Rattle.base_disk.proofs.memory.MemoryDiskDisk.write_at.Goals as goal

pub returns-clause-written : goal.returns-clause-written
returns-clause-written c =
    let m = c.args.self.now in
    let n = c.enter.new.self in
    let same = c.enter.ensures.same in
    on_ok_weaker c.enter.result (λ ok known. subst (λ (xs : List ℕ). (memory_state n).seen ≡ image_changed c.args.path.now (with_bytes (overwritten c.args.at xs)) (memory_state m).seen) c.in_ok-bytes.ensures.items (wrote m n same c.args.path.now c.args.at c.in_ok-bytes.bytes (not c.is_turn-done.result) (ap not (c.is_turn-done.ensures ∙ ok.0)) ok.1).0) (at_ok m n same c.args.path.now (what.Write c.args.at c.in_ok-bytes.bytes (not c.is_turn-done.result)) _ c.enter.result c.enter.ensures.entered c.enter.ensures.done)

pub returns-clause-sound : goal.returns-clause-sound
returns-clause-sound c =
    let m = c.args.self.now in
    let n = c.enter.new.self in
    let same = c.enter.ensures.same in
    on_ok_weaker c.enter.result (λ ok known. (wrote m n same c.args.path.now c.args.at c.in_ok-bytes.bytes (not c.is_turn-done.result) (ap not (c.is_turn-done.ensures ∙ ok.0)) ok.1).1) (at_ok m n same c.args.path.now (what.Write c.args.at c.in_ok-bytes.bytes (not c.is_turn-done.result)) _ c.enter.result c.enter.ensures.entered c.enter.ensures.done)

pub returns-clause-touches : goal.returns-clause-touches
returns-clause-touches c =
    let m = c.args.self.now in
    let n = c.enter.new.self in
    let same = c.enter.ensures.same in
    λ known. touches m n same c.args.path.now (what.Write c.args.at c.in_ok-bytes.bytes (not c.is_turn-done.result)) c.enter.result c.enter.ensures.entered

pub returns-clause-time : goal.returns-clause-time
returns-clause-time c =
    let m = c.args.self.now in
    let n = c.enter.new.self in
    let same = c.enter.ensures.same in
    λ known. elapses m n same c.args.path.now (what.Write c.args.at c.in_ok-bytes.bytes (not c.is_turn-done.result)) c.enter.result c.enter.ensures.entered

pub returns-clause-crash : goal.returns-clause-crash
returns-clause-crash c =
    let m = c.args.self.now in
    let n = c.enter.new.self in
    let same = c.enter.ensures.same in
    λ known. subst (λ (xs : List ℕ). OutcomesFollow (Tears c.args.path.now (Torn c.args.at (length xs))) (memory_state m) (memory_state n)) c.in_ok-bytes.ensures.items (write_crash m n same c.args.path.now c.args.at c.in_ok-bytes.bytes (not c.is_turn-done.result) c.enter.result c.enter.ensures.entered)
