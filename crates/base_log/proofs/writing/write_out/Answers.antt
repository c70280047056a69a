-- Each try takes the next piece, or none.
use Rattle.std.proofs.Common.{arith, ap, refl, ◌∙◌, inl, inr}
use Rattle.base_device.specs.Failures.{one_more}
use Rattle.base_device.specs.declared.tried.Tried.TheVariants.{Waits, Failed}
use Rattle.std.proofs.lemmas.Grind.{common_steps}
use Rattle.base_log.proofs.Pieces.{next_piece, no_piece, no_try, one_try}
use Rattle.base_log.proofs.Turning.{going_first, going_next, turn_done, turn_stops}
use Rattle.base_log.proofs.writing.write_out.Goals as goal

pub loop-try-init : goal.loop-try-init
loop-try-init g c = record { within = omega arith; given = no_try _ c.args.bytes.now; turn = going_first _ _; tries = omega arith; failures = refl }

pub loop-try-preserved : goal.loop-try-preserved
loop-try-preserved g c =
    let e = c.in-Done.ensures in
    let i = c.loop-try.invariant in
    let t = one_try (g.S.LogSink.tries c.loop-try.sink) in
    record {
      within = grind (arith, common_steps);
      given = next_piece _ _ _ _ _ _ i.given e.bytes;
      turn = going_next _ _ _ _ _ _ _ i.turn e.tried (omega arith) (omega arith);
      tries = omega (arith, t, e.tries, i.tries);
      failures = e.failures ∙ i.failures;
    }

pub returns-then-taken-bytes-clause-given : goal.returns-then-taken-bytes-clause-given
returns-then-taken-bytes-clause-given g c = c.loop-try.invariant.given

pub returns-then-taken-bytes-clause-turn : goal.returns-then-taken-bytes-clause-turn
returns-then-taken-bytes-clause-turn g c = turn_done _ _ _ _ _ c.loop-try.invariant.turn (inl (omega arith))

pub returns-then-taken-bytes-clause-tries : goal.returns-then-taken-bytes-clause-tries
returns-then-taken-bytes-clause-tries g c = omega (arith, c.loop-try.invariant.tries, c.loop-try.auto._try-end)

pub returns-then-taken-bytes-clause-failures : goal.returns-then-taken-bytes-clause-failures
returns-then-taken-bytes-clause-failures g c = c.loop-try.invariant.failures

pub returns-in-Waits-clause-front : goal.returns-in-Waits-clause-front
returns-in-Waits-clause-front g c = c.loop-try.invariant.within

pub returns-in-Waits-clause-given : goal.returns-in-Waits-clause-given
returns-in-Waits-clause-given g c = no_piece _ _ _ _ c.loop-try.invariant.given c.in-Waits.ensures.bytes

pub returns-in-Waits-clause-turn : goal.returns-in-Waits-clause-turn
returns-in-Waits-clause-turn g c = turn_stops Waits _ _ _ _ _ _ refl refl c.loop-try.invariant.turn c.in-Waits.ensures.tried (omega arith) (omega arith)

pub returns-in-Waits-clause-tries : goal.returns-in-Waits-clause-tries
returns-in-Waits-clause-tries g c =
    let t = one_try (g.S.LogSink.tries c.loop-try.sink) in
    omega (arith, t, c.in-Waits.ensures.tries, c.loop-try.invariant.tries, c.loop-try-test.true)

pub returns-in-Waits-clause-failures : goal.returns-in-Waits-clause-failures
returns-in-Waits-clause-failures g c = c.in-Waits.ensures.failures ∙ c.loop-try.invariant.failures

pub returns-in-Failed-clause-front : goal.returns-in-Failed-clause-front
returns-in-Failed-clause-front g c = c.loop-try.invariant.within

pub returns-in-Failed-clause-given : goal.returns-in-Failed-clause-given
returns-in-Failed-clause-given g c = no_piece _ _ _ _ c.loop-try.invariant.given c.in-Failed.ensures.bytes

pub returns-in-Failed-clause-turn : goal.returns-in-Failed-clause-turn
returns-in-Failed-clause-turn g c = turn_stops Failed _ _ _ _ _ _ refl refl c.loop-try.invariant.turn c.in-Failed.ensures.tried (omega arith) (omega arith)

pub returns-in-Failed-clause-tries : goal.returns-in-Failed-clause-tries
returns-in-Failed-clause-tries g c =
    let t = one_try (g.S.LogSink.tries c.loop-try.sink) in
    omega (arith, t, c.in-Failed.ensures.tries, c.loop-try.invariant.tries, c.loop-try-test.true)

pub returns-in-Failed-clause-failures : goal.returns-in-Failed-clause-failures
returns-in-Failed-clause-failures g c = c.in-Failed.ensures.failures ∙ ap one_more c.loop-try.invariant.failures

pub returns-clause-front : goal.returns-clause-front
returns-clause-front g c = c.loop-try.invariant.within

pub returns-clause-given : goal.returns-clause-given
returns-clause-given g c = c.loop-try.invariant.given

pub returns-clause-turn : goal.returns-clause-turn
returns-clause-turn g c = turn_done _ _ _ _ _ c.loop-try.invariant.turn (inr (omega arith))

pub returns-clause-tries : goal.returns-clause-tries
returns-clause-tries g c = omega (arith, c.loop-try.invariant.tries, c.loop-try.auto._try-end)

pub returns-clause-failures : goal.returns-clause-failures
returns-clause-failures g c = c.loop-try.invariant.failures
