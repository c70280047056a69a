-- Wake-ups of one entry follow each other at its step less the margin, as long as no other entry leads.
use Rattle.std.proofs.Common.{◌≡◌, ◌+◌, ◌-◌, ◌*◌, ◌/◌, ◌≤◌, arith}
use Rattle.plan_schedule.specs.Prospect.{terms_of}
use Rattle.plan_schedule.proofs.Extending.{grouped_later, in_room, reach_moment, stretched}
use Rattle.plan_schedule.proofs.stretch.extend.Goals as goal

pub overflow_sub-apart : goal.overflow_sub-apart
overflow_sub-apart c = let gains = c.margin.ensures.sound.step c.args.entry c.requires.short in omega arith

pub nonzero_div-until : goal.nonzero_div-until
nonzero_div-until c = let gains = c.margin.ensures.sound.step c.args.entry c.requires.short in omega arith

pub overflow_mul-last : goal.overflow_mul-last
overflow_mul-last c =
    let t = terms_of c.args.outlook.now in
    let gains = c.margin.ensures.sound.step c.args.entry c.requires.short in
    let d = c.step.result - c.margin.result in
    let count = c.min-count.result in
    let fits : count ≤ (c.until-until.result - c.loop-more.last - 1) / d + 1 = omega arith in
    let room = in_room count c.until-until.result c.loop-more.last d c.until-until.ensures.later (omega arith) fits in
    omega arith

pub settle-next-requires-in-loop-more-clause-grouped : goal.settle-next-requires-in-loop-more-clause-grouped
settle-next-requires-in-loop-more-clause-grouped c =
    grouped_later c.args.outlook.now c.loop-more.last (c.loop-more.last + c.min-count.result * (c.step.result - c.margin.result)) c.loop-more.groups (omega arith)
    c.loop-more.invariant.settles.shrinks.grouped

pub settle-next-requires-in-loop-more-clause-within : goal.settle-next-requires-in-loop-more-clause-within
settle-next-requires-in-loop-more-clause-within c =
    let t = terms_of c.args.outlook.now in
    let gains = c.margin.ensures.sound.step c.args.entry c.requires.short in
    let d = c.step.result - c.margin.result in
    let count = c.min-count.result in
    let fits : count ≤ (c.until-until.result - c.loop-more.last - 1) / d + 1 = omega arith in
    let is : d ≡ t.step c.args.entry - t.margin = omega arith in
    reach_moment t c.args.entry c.loop-more.last c.until-until.result count d c.margin.ensures.sound c.requires.short is c.until-until.ensures.later c.until-until.ensures.leads (omega arith) fits

pub loop-more-preserved : goal.loop-more-preserved
loop-more-preserved c =
    let o = c.args.outlook.now in
    let t = terms_of o in
    let gains = c.margin.ensures.sound.step c.args.entry c.requires.short in
    let d = c.step.result - c.margin.result in
    let count = c.min-count.result in
    let fits : count ≤ (c.until-until.result - c.loop-more.last - 1) / d + 1 = omega arith in
    let is : d ≡ t.step c.args.entry - t.margin = omega arith in
    stretched o c.args.entry c.args.first c.args.most c.loop-more.more c.loop-more.last c.until-until.result count d (c.loop-more.last + count * d)
    c.args.groups.now c.loop-more.groups c.settle-next-in-loop-more.new.groups c.loop-more.next c.settle-next-in-loop-more.result
    c.margin.ensures.sound c.requires.short is c.loop-more.invariant c.until-until.ensures.later c.until-until.ensures.leads (omega arith) fits (omega arith) (omega arith) c.settle-next-in-loop-more.ensures
