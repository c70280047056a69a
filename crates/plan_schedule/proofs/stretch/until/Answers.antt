-- Before the moment that is given, no entry that waits or has joined comes in front of the one that leads.
use Rattle.std.proofs.Common.{◌+◌, Some, length, subst, arith}
use Rattle.plan_schedule.specs.{code.Line.FirstOf, Prospect.terms_of}
use Rattle.plan_schedule.proofs.{Extending.until_front, Leading.ahead, Moves.first_key, stretch.until.Goals.else-entry-front, stretch.until.Goals.then-entry-front}
use Rattle.plan_schedule.proofs.stretch.until.Goals as goal

pub overflow_add-over : goal.overflow_add-over
overflow_add-over c =
    let t = terms_of c.args.outlook.now in
    let waits = c.args.groups.now.waits.spots in
    let first = first_key t.end (length c.args.outlook.now.loads) c.in-Some.front waits c.requires.grouped.filed.waits (subst (λ r. FirstOf waits r) c.in-Some.is c.first.ensures) in
    let short = c.requires.grouped.grouped.short c.in-Some.front first.among in
    let need = c.end.ensures.sound.need c.in-Some.front in
    omega arith

pub returns-after-entry-front-clause-leads : goal.returns-after-entry-front-clause-leads
returns-after-entry-front-clause-leads c =
    let t = terms_of c.args.outlook.now in
    let g = c.args.groups.now in
    let f = c.args.entry in
    let h = c.in-Some.front in
    let n = length c.args.outlook.now.loads in
    let front : FirstOf g.waits.spots (Some h) = subst (λ r. FirstOf g.waits.spots r) c.in-Some.is c.first.ensures in
    let now = c.requires.head.waits h (first_key t.end n h g.waits.spots c.requires.grouped.filed.waits front).among in
    elim c.if-entry-front.branch [
      | then-entry-front w ↦ λ v le less.
          until_front c.args.outlook.now c.args.last f h v g c.requires.grouped c.requires.head front le (omega arith)
          (ahead (v + t.step f) f (t.end h) h (omega arith) (λ e. omega arith))
      | else-entry-front w ↦ λ v le less.
          until_front c.args.outlook.now c.args.last f h v g c.requires.grouped c.requires.head front le (omega arith)
          (ahead (v + t.step f) f (t.end h) h (omega arith) (λ e. omega arith))
    ]
