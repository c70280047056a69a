-- The leader forces the head of the list, and without a leader the list is empty.
use Rattle.std.proofs.Common.{◌≡◌, ◌-◌, None, Some, subst, rules}
use Rattle.plan_rule.specs.declared.force.Force.{Force}
use Rattle.plan_schedule.specs.{Courses.Course, Courses.IsToCome, code.Scanning.IsLeader, Prospect.terms_of, Given.GivesHead}
use Rattle.plan_schedule.proofs.Taking.{gives_head, gives_none}
use Rattle.plan_schedule.proofs.scan.ScanScheduleSchedule.next.Goals as goal

pub returns-in_default : goal.returns-in_default
returns-in_default c =
    let o = c.self.inside.outlook in
    let prev = c.self.inside.last in
    subst (λ (q : Course). GivesHead (IsToCome q) (IsToCome q) None) c.self.view_is
    (gives_none o prev (subst (λ best. IsLeader (terms_of o) prev best) c.in_default.is c.leader.ensures.leader))

pub returns : goal.returns
returns c =
    let o = c.self.inside.outlook in
    let prev = c.self.inside.last in
    let v = c.deadline.result - c.margin.result in
    let x : Force = record { at = c.unwrap.result; entry = c.in-Some.entry; needed = c.from.result } in
    let at : c.unwrap.result ≡ v = search rules in
    subst (λ (q : Course). GivesHead (IsToCome q) (IsToCome (record { prospect = o; last = Some v })) (Some x)) c.self.view_is
    (gives_head o prev v x (subst (λ best. IsLeader (terms_of o) prev best) c.in-Some.is c.leader.ensures.leader) (search rules) at c.from.ensures)
