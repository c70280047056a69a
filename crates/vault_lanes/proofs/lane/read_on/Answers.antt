-- An answer is that of the bytes that have come and of those that may follow them; without one they are held, and more is waited for.
use Rattle.std.proofs.Common.{◌≡◌, ◌^◌, ◌<◌, ◌∙◌, [], arith, inr, IsTrue, Some, subst, sym}
use Rattle.std.proofs.KnownBytes.{Keeps-trans}
use Rattle.vault_lanes.specs.{Allowed.most_reads, Failing.FailsMore, Failing.failures_in, code.Courses.came_by}
use Rattle.vault_lanes.specs.Lanes.{AnswerIsTold, AreWaitedFor, Came, IsCounted, IsToldBy, ReplyIsHeard, RequestIsSettled, to_come}
use Rattle.vault_lanes.proofs.{Failed.counted_as, Failed.kept_then, Judged.waited_first, Moved.on_refused}
use Rattle.vault_lanes.proofs.Arrives.{came_as, came_then, cut_answer, heard_answer, heard_failed, heard_late, heard_none}
use Rattle.vault_lanes.proofs.Lost.{coming_on, counted_more, settled_by}
use Rattle.vault_lanes.proofs.lane.read_on.Goals as goal

pub returns-in-Some-clause-heard : goal.returns-in-Some-clause-heard
returns-in-Some-clause-heard g c =
    let came = came_then (came_by c.args.course.now) (came_by c.loop.course) (came_by c.read.new.self) _ _ _ c.loop.invariant.came c.read.ensures.came in
    let told : IsToldBy (came_by c.read.new.self) c.read.new.self.has_ended c.in-Some.answer =
    subst (λ got. AnswerIsTold (came_by c.read.new.self) c.read.new.self.has_ended got (came_by c.hear.new.self)) c.in-Some.is c.in_ok-answer-in-Done.ensures.told in
    subst (λ e. ReplyIsHeard (came_by c.args.course.now) (Some c.in-Some.answer) (came_by c.hear.new.self) (to_come c.args.course.now.has_ended (g.L.Line.remaining c.args.line.now))
    (to_come e (g.L.Line.remaining c.read.new.line))) (sym c.hear.ensures.ended)
    (heard_answer (came_by c.args.course.now) (came_by c.read.new.self) c.read.new.self.has_ended _ (g.L.Line.remaining c.read.new.line) c.in-Some.answer _ came told)

pub returns-in-Some-clause-settled : goal.returns-in-Some-clause-settled
returns-in-Some-clause-settled g c =
    subst (λ a. RequestIsSettled a c.args.now c.hear.new.self.stage [] (Some c.in-Some.answer)) (sym c.hear.ensures.allowance)
    (settled_by c.read.new.self.allowance c.args.now c.read.new.self.stage c.hear.new.self.stage c.in-Some.answer (λ e. c.loop.invariant.sent (sym c.read.ensures.stage ∙ e))
    (subst (λ a. IsCounted c.read.new.self.allowance c.args.now c.read.new.self.stage a c.hear.new.self.stage) c.in-Some.is c.in_ok-answer-in-Done.ensures.counted))

pub returns-in-Some-clause-failing : goal.returns-in-Some-clause-failing
returns-in-Some-clause-failing g c =
    let came = came_then (came_by c.args.course.now) (came_by c.loop.course) (came_by c.read.new.self) _ _ _ c.loop.invariant.came c.read.ensures.came in
    let told : IsToldBy (came_by c.read.new.self) c.read.new.self.has_ended c.in-Some.answer =
    subst (λ got. AnswerIsTold (came_by c.read.new.self) c.read.new.self.has_ended got (came_by c.hear.new.self)) c.in-Some.is c.in_ok-answer-in-Done.ensures.told in
    let unfailed = subst (λ t. FailsMore (failures_in t) (g.L.Line.failures c.loop.line) (g.L.Line.failures c.read.new.line)) c.in-Done.is c.in_ok-read.ensures.failures in
    counted_as c.read.new.self.allowance c.args.now c.read.new.self.stage c.hear.new.self.stage c.in-Some.answer (came_by c.args.course.now) _ _ _ _
    (subst (λ a. IsCounted c.read.new.self.allowance c.args.now c.read.new.self.stage a c.hear.new.self.stage) c.in-Some.is c.in_ok-answer-in-Done.ensures.counted)
    (kept_then 0 _ _ _ c.loop.invariant.failures unfailed)
    (λ closed. cut_answer (came_by c.args.course.now) (came_by c.read.new.self) c.read.new.self.has_ended _ (g.L.Line.remaining c.read.new.line) came
    (subst (IsToldBy (came_by c.read.new.self) c.read.new.self.has_ended) closed told))

pub returns-in_err-answer-in-Done-clause-came : goal.returns-in_err-answer-in-Done-clause-came
returns-in_err-answer-in-Done-clause-came g c =
    let came = came_then (came_by c.args.course.now) (came_by c.loop.course) (came_by c.read.new.self) _ _ _ c.loop.invariant.came c.read.ensures.came in
    on_refused _ (subst (λ e. Came (came_by c.args.course.now) (came_by c.hear.new.self) (to_come c.args.course.now.has_ended (g.L.Line.remaining c.args.line.now))
    (to_come e (g.L.Line.remaining c.read.new.line))) (sym c.hear.ensures.ended)
    (subst (λ l. Came (came_by c.args.course.now) l (to_come c.args.course.now.has_ended (g.L.Line.remaining c.args.line.now))
    (to_come c.read.new.self.has_ended (g.L.Line.remaining c.read.new.line))) (sym c.in_err-answer-in-Done.ensures.kept.0) came))

pub returns-in-Ok-clause-heard : goal.returns-in-Ok-clause-heard
returns-in-Ok-clause-heard g c =
    heard_none (came_by c.args.course.now) (came_by c.read.new.self) _ _
    (came_then (came_by c.args.course.now) (came_by c.loop.course) (came_by c.read.new.self) _ _ _ c.loop.invariant.came c.read.ensures.came)

pub returns-in-Err-clause-heard : goal.returns-in-Err-clause-heard
returns-in-Err-clause-heard g c =
    heard_late c.in-Err.loss _ c.args.now _ (came_by c.args.course.now) (came_by c.read.new.self) _ _ (sym c.in-Err.is ∙ c.waits.ensures)
    (came_then (came_by c.args.course.now) (came_by c.loop.course) (came_by c.read.new.self) _ _ _ c.loop.invariant.came c.read.ensures.came)

pub returns-in-Failed-clause-heard : goal.returns-in-Failed-clause-heard
returns-in-Failed-clause-heard g c =
    heard_failed c.failed.result _ _ (came_by c.args.course.now) (came_by c.read.new.self) _ _ c.failed.ensures
    (came_then (came_by c.args.course.now) (came_by c.loop.course) (came_by c.read.new.self) _ _ _ c.loop.invariant.came c.read.ensures.came)

pub loop-preserved : goal.loop-preserved
loop-preserved g c =
    let i = c.loop.invariant in
    let r = c.read.ensures in
    let told : (came_by c.hear.new.self ≡ came_by c.read.new.self) × ((IsTrue c.read.new.self.has_ended → ⊥) × AreWaitedFor (came_by c.read.new.self)) =
    subst (λ got. AnswerIsTold (came_by c.read.new.self) c.read.new.self.has_ended got (came_by c.hear.new.self)) c.in-None.is c.in_ok-answer-in-Done.ensures.told in
    let unfailed = subst (λ t. FailsMore (failures_in t) (g.L.Line.failures c.loop.line) (g.L.Line.failures c.read.new.line)) c.in-Done.is c.in_ok-read.ensures.failures in
    let most : most_reads c.args.course.now.allowance < 2 ^ 64 = omega (arith, c.most_reads-end.ensures, c.most_reads-end.type_inv) in
    let counted = subst (λ got. IsCounted c.read.new.self.allowance c.args.now c.read.new.self.stage got c.hear.new.self.stage) c.in-None.is c.in_ok-answer-in-Done.ensures.counted in
    let came = came_then (came_by c.args.course.now) (came_by c.loop.course) (came_by c.read.new.self) _ _ _ i.came r.came in record {
      room = r.room ∙ i.room;
      allowance = c.hear.ensures.allowance ∙ r.allowance ∙ i.allowance;
      written = Keeps-trans _ _ _ i.written r.written;
      came = subst (λ e. Came (came_by c.args.course.now) (came_by c.hear.new.self) (to_come c.args.course.now.has_ended (g.L.Line.remaining c.args.line.now)) (to_come e (g.L.Line.remaining c.read.new.line)))
          (sym c.hear.ensures.ended) (came_as _ _ _ _ _ told.0 came);
      failures = kept_then 0 _ _ _ i.failures unfailed;
      counted = counted_more c.read.new.self.allowance c.args.now c.loop.counter c.loop.course.stage c.read.new.self.stage c.hear.new.self.stage r.stage i.counted counted
          (subst (λ a. most_reads a < 2 ^ 64) (sym (r.allowance ∙ i.allowance)) most);
      sent = λ e. coming_on _ _ (sym counted.1 ∙ e);
      first = λ u. inr (waited_first c.loop.counter c.args.line.now c.loop.line c.read.new.line c.args.course.now c.loop.course c.read.new.self i.first r.held told.1.1 u);
      roomy = λ h. let room = i.roomy h in omega (arith, room, r.room, r.capacity, c.hear.ensures.capacity);
      waited = inr (subst AreWaitedFor (sym told.0) told.1.1);
    }
