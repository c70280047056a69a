-- There is no head in the bytes that may be looked at.
use Rattle.std.proofs.Common.{arith, subst, take}
use Rattle.std.proofs.lemmas.List.{take_all}
use Rattle.agent_pages.specs.{Questions.IsHeadFront, declared.asked.TheConstants.HEAD_MAX}
use Rattle.agent_pages.specs.declared.asked.Front.TheVariants as fronts
use Rattle.agent_pages.proofs.asked.read_question.Goals as goal

pub returns-in-Open : goal.returns-in-Open
returns-in-Open c =
    let front : IsHeadFront (take HEAD_MAX c.args.bytes.now) c.read_front.result = subst (λ t. IsHeadFront t c.read_front.result) c.front.ensures c.read_front.ensures in
    (omega (arith, c.if-bytes-ge-HEAD_MAX.true), subst (IsHeadFront (take HEAD_MAX c.args.bytes.now)) c.in-Open.is front)

pub returns-in-Open-2 : goal.returns-in-Open-2
returns-in-Open-2 c =
    let front : IsHeadFront (take HEAD_MAX c.args.bytes.now) c.read_front.result = subst (λ t. IsHeadFront t c.read_front.result) c.front.ensures c.read_front.ensures in
    let all = take_all HEAD_MAX c.args.bytes.now (omega (arith, c.if-bytes-ge-HEAD_MAX.false)) in
    (omega (arith, c.if-bytes-ge-HEAD_MAX.false), subst (λ t. IsHeadFront t fronts.Open) all (subst (IsHeadFront (take HEAD_MAX c.args.bytes.now)) c.in-Open-2.is front))
