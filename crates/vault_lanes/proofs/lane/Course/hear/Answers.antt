-- What is read of the bytes so far is told of all that may follow.
use Rattle.std.proofs.Common.{ℕ, List, ◌++◌, subst}
use Rattle.vault_http.specs.{Dates.IsDatedReply, Messages.UnlessMemory, declared.known.TheConstants.MOST_MESSAGE}
use Rattle.vault_lanes.specs.{Lanes.NothingFollowsEnd, code.Courses.came_by}
use Rattle.vault_lanes.proofs.Lost.{read_counted, told_as}
use Rattle.vault_lanes.proofs.lane.Course.hear.Goals as goal

pub returns-in_ok-answer-in-Some-clause-counted : goal.returns-in_ok-answer-in-Some-clause-counted
returns-in_ok-answer-in-Some-clause-counted c = read_counted c.args.self.now.allowance c.args.now c.args.self.now.stage c.in-Some.read _ c.in_ok-answer-in-Some.ensures.read

pub returns-in_ok-answer-in-Some-clause-told : goal.returns-in_ok-answer-in-Some-clause-told
returns-in_ok-answer-in-Some-clause-told c =
    let old = c.args.self.now in
    told_as (came_by old) old.has_ended c.in-Some.read _ c.in_ok-answer-in-Some.ensures.read
    (subst (λ (piece : List ℕ). (more : List ℕ) → NothingFollowsEnd old.has_ended more → UnlessMemory c.in-Some.read (IsDatedReply MOST_MESSAGE ((old.arriving ++ piece) ++ more) c.in-Some.read))
    c.deref.ensures.value c.in-Some.ensures.answer)
