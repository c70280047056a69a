-- One wake-up more is played and its lines are written; a run that stops on the way is told as far as it came.
use Rattle.std.proofs.Common.{◌≡◌, ◌∙◌, ◌≤◌, None, Some, arith, refl, subst}
use Rattle.std.specs.Io.KnownBytes.{Appends}
use Rattle.base_device.specs.{Seen.Change, Seen.change, Front.AppendsFront}
use Rattle.tick_runs.specs.{Stops.both, Text.inventory_with}
use Rattle.tick_runs.specs.code.Playing.{MayCome, RunGoes, RunWakes, next_in, requests_in}
use Rattle.tick_runs.proofs.Written.{Going, for_memory, going_done, going_first, going_more, going_stops, going_to_end, going_unwritten, last_played, piece_goes, unwritten_before}
use Rattle.tick_runs.proofs.rehearse.playing.play.Goals as goal

pub returns-in_err-write_all : goal.returns-in_err-write_all
returns-in_err-write_all g c =
    unwritten_before c.args.agent.now.credentials (both c.args.agent.now.keeper (Some c.args.exchange.now)) (both c.args.agent.now.keeper (Some c.args.exchange.now)) c.args.start c.args.lines.now c.from_residual.result c.in_err-write_all.field-0.0 _ c.from_residual.ensures
    c.in_err-write_all.ensures.front c.in_err-write_all.ensures.count

pub loop-wakes-init : goal.loop-wakes-init
loop-wakes-init g c =
    record {
      going = going_first c.args.agent.now.credentials (both c.args.agent.now.keeper (Some c.args.exchange.now)) c.args.start c.args.lines.now _ _ _ _ c.requires.ready c.requires.comes c.in_ok-write_all.ensures.written c.in_ok-write_all.ensures.count;
      credentials = refl;
    }

pub returns-in_err-woken : goal.returns-in_err-woken
returns-in_err-woken g c =
    let cs = c.args.agent.now.credentials in
    let old = both c.args.agent.now.keeper (Some c.args.exchange.now) in
    let now = both c.loop-wakes.agent.keeper (Some c.loop-wakes.exchange) in
    let new = both c.wake.new.agent.keeper (Some c.wake.new.exchange) in
    let out : Change = change g.W.Device.is_in_memory (g.W.Device.seen c.args.out.now) (g.W.Device.seen c.loop-wakes.out) in
    for_memory cs old c.args.start c.args.lines.now new out c.from_residual-in_err-woken.result c.in_err-woken.field-0.0 c.from_residual-in_err-woken.ensures c.in_err-woken.ensures.memory
    (going_stops cs old c.args.start c.args.lines.now out.old.output.written out.old.failed_calls now c.loop-wakes.due c.loop-wakes.wakes c.loop-wakes.requests out.new.output.written out.new.failed_calls c.loop-wakes.invariant.going new out refl refl)

pub returns-in_default : goal.returns-in_default
returns-in_default g c =
    let cs = c.args.agent.now.credentials in
    let now = both c.loop-wakes.agent.keeper (Some c.loop-wakes.exchange) in
    let new = both c.wake.new.agent.keeper (Some c.wake.new.exchange) in
    let wakes = subst (λ ks. RunWakes ks now c.loop-wakes.due c.in_ok-woken.field-0 new c.new-text.result.items c.wake.new.text.items) c.loop-wakes.invariant.credentials c.in_ok-woken.ensures.wakes in
    let piece = subst (λ w. RunWakes cs now c.loop-wakes.due w new c.new-text.result.items c.wake.new.text.items) c.in_default.is wakes in
    let more = piece_goes cs now new c.loop-wakes.due None 0 0 c.new-text.result.items c.wake.new.text.items c.new-text.ensures.items piece in
    going_to_end cs (both c.args.agent.now.keeper (Some c.args.exchange.now)) c.args.start c.args.lines.now _ _ now c.loop-wakes.due c.loop-wakes.wakes c.loop-wakes.requests _ _ new c.wake.new.text.items c.finish.result _ _ c.loop-wakes.invariant.going more
    (let h = c.loop-wakes-test.true in omega arith) c.finish.ensures refl refl refl c.loop-wakes.invariant.going.count refl refl

pub returns-in_err-write_all-2 : goal.returns-in_err-write_all-2
returns-in_err-write_all-2 g c =
    let cs = c.args.agent.now.credentials in
    let now = both c.loop-wakes.agent.keeper (Some c.loop-wakes.exchange) in
    let new = both c.wake.new.agent.keeper (Some c.wake.new.exchange) in
    let wakes = subst (λ ks. RunWakes ks now c.loop-wakes.due c.in_ok-woken.field-0 new c.new-text.result.items c.wake.new.text.items) c.loop-wakes.invariant.credentials c.in_ok-woken.ensures.wakes in
    let piece = subst (λ w. RunWakes cs now c.loop-wakes.due w new c.new-text.result.items c.wake.new.text.items) c.in-Some.is wakes in
    let more = piece_goes cs now new c.loop-wakes.due c.in-Some.woken.next 1 c.in-Some.woken.requests c.new-text.result.items c.wake.new.text.items c.new-text.ensures.items piece in
    let front = subst (AppendsFront (g.W.Device.seen c.loop-wakes.out).output.written (g.W.Device.seen c.write_all-in-loop-wakes.new.sink).output.written) c.deref.ensures.value c.in_err-write_all-2.ensures.front in
    going_unwritten cs (both c.args.agent.now.keeper (Some c.args.exchange.now)) c.args.start c.args.lines.now _ _ now c.loop-wakes.due c.loop-wakes.wakes c.loop-wakes.requests _ _ c.loop-wakes.invariant.going
    c.from_residual-in_err-write_all-2.result c.in_err-write_all-2.field-0.0 new new c.in-Some.woken.next 1 c.in-Some.woken.requests c.wake.new.text.items _ c.from_residual-in_err-write_all-2.ensures more refl refl front
    c.in_err-write_all-2.ensures.count

pub returns-in_default-next : goal.returns-in_default-next
returns-in_default-next g c =
    let cs = c.args.agent.now.credentials in
    let now = both c.loop-wakes.agent.keeper (Some c.loop-wakes.exchange) in
    let new = both c.wake.new.agent.keeper (Some c.wake.new.exchange) in
    let wakes = subst (λ ks. RunWakes ks now c.loop-wakes.due c.in_ok-woken.field-0 new c.new-text.result.items c.wake.new.text.items) c.loop-wakes.invariant.credentials c.in_ok-woken.ensures.wakes in
    let piece = subst (λ w. RunWakes cs now c.loop-wakes.due w new c.new-text.result.items c.wake.new.text.items) c.in-Some.is wakes in
    let more = subst (λ n. RunGoes (inventory_with cs now.keeper.forest) now (Some c.loop-wakes.due) new n 1 c.in-Some.woken.requests c.wake.new.text.items) c.in_default-next.is
    (piece_goes cs now new c.loop-wakes.due c.in-Some.woken.next 1 c.in-Some.woken.requests c.new-text.result.items c.wake.new.text.items c.new-text.ensures.items piece) in
    let all = subst (Appends (g.W.Device.seen c.loop-wakes.out).output.written (g.W.Device.seen c.write_all-in-loop-wakes.new.sink).output.written) c.deref.ensures.value c.in_ok-write_all-2.ensures.written in
    going_done cs (both c.args.agent.now.keeper (Some c.args.exchange.now)) c.args.start c.args.lines.now _ _ now c.loop-wakes.due c.loop-wakes.wakes c.loop-wakes.requests _ _ new c.in-Some.woken.requests c.wake.new.text.items c.new.result.items _
    c.finish-in_default-next.result _ _ c.loop-wakes.invariant.going more c.loop-wakes-test.true all c.new.ensures.items c.finish-in_default-next.ensures refl refl refl (c.in_ok-write_all-2.ensures.count ∙ c.loop-wakes.invariant.going.count) refl refl

pub loop-wakes-preserved : goal.loop-wakes-preserved
loop-wakes-preserved g c =
    let cs = c.args.agent.now.credentials in
    let now = both c.loop-wakes.agent.keeper (Some c.loop-wakes.exchange) in
    let new = both c.wake.new.agent.keeper (Some c.wake.new.exchange) in
    let wakes = subst (λ ks. RunWakes ks now c.loop-wakes.due c.in_ok-woken.field-0 new c.new-text.result.items c.wake.new.text.items) c.loop-wakes.invariant.credentials c.in_ok-woken.ensures.wakes in
    let piece = subst (λ w. RunWakes cs now c.loop-wakes.due w new c.new-text.result.items c.wake.new.text.items) c.in-Some.is wakes in
    let more = subst (λ n. RunGoes (inventory_with cs now.keeper.forest) now (Some c.loop-wakes.due) new n 1 c.in-Some.woken.requests c.wake.new.text.items) c.in-Some-next.is
    (piece_goes cs now new c.loop-wakes.due c.in-Some.woken.next 1 c.in-Some.woken.requests c.new-text.result.items c.wake.new.text.items c.new-text.ensures.items piece) in
    let few = subst (λ w. requests_in w ≤ 4096) c.in-Some.is c.in_ok-woken.ensures.few in
    let comes = subst (MayCome c.wake.new.agent.keeper.last) c.in-Some-next.is (subst (λ w. MayCome c.wake.new.agent.keeper.last (next_in w)) c.in-Some.is c.in_ok-woken.ensures.comes) in
    let all = subst (Appends (g.W.Device.seen c.loop-wakes.out).output.written (g.W.Device.seen c.write_all-in-loop-wakes.new.sink).output.written) c.deref.ensures.value c.in_ok-write_all-2.ensures.written in
    record {
      going = going_more cs (both c.args.agent.now.keeper (Some c.args.exchange.now)) c.args.start c.args.lines.now _ _ now c.loop-wakes.due c.loop-wakes.wakes c.loop-wakes.requests _ _ c.loop-wakes.invariant.going new c.in-Some-next.next c.in-Some.woken.requests
          c.wake.new.text.items _ _ more c.in_ok-woken.ensures.shaped c.in_ok-woken.ensures.ready comes few all c.in_ok-write_all-2.ensures.count;
      credentials = c.in_ok-woken.ensures.credentials ∙ c.loop-wakes.invariant.credentials;
    }

pub returns : goal.returns
returns g c =
    let cs = c.args.agent.now.credentials in
    let now = both c.loop-wakes.agent.keeper (Some c.loop-wakes.exchange) in
    let done : c.loop-wakes.wakes ≡ 100000 = (let a = c.loop-wakes-test.false in let b = c.loop-wakes.auto.wakes-end in omega arith) in
    let old = both c.args.agent.now.keeper (Some c.args.exchange.now) in
    let first = (g.W.Device.seen c.args.out.now).output.written in
    let failed = (g.W.Device.seen c.args.out.now).failed_calls in
    let written = (g.W.Device.seen c.loop-wakes.out).output.written in
    let failed_now = (g.W.Device.seen c.loop-wakes.out).failed_calls in
    let last : Change = change g.W.Device.is_in_memory (g.W.Device.seen c.loop-wakes.out) (g.W.Device.seen c.last.new.out) in
    let out : Change = record last { old = g.W.Device.seen c.args.out.now } in
    let going = subst (λ n. Going cs old c.args.start c.args.lines.now first failed now c.loop-wakes.due n c.loop-wakes.requests written failed_now) done c.loop-wakes.invariant.going in
    last_played cs old c.args.start c.args.lines.now first failed now c.loop-wakes.due c.loop-wakes.requests written failed_now c.last.result c.last.new.agent.keeper last out going (c.last.ensures cs (Some c.loop-wakes.exchange)) refl refl refl
    c.loop-wakes.invariant.going.count refl refl
