-- One entry more is noted exactly where its least reach falls short of its need.
use Rattle.std.proofs.Common.{◌∙◌, ◌<◌, ap, arith, length, sym}
use Rattle.plan_forest.specs.declared.entry.Entry.{Entry}
use Rattle.tick_keeper.proofs.Passing.{found_short, found_whole, pairs_all, pairs_more, pairs_same}
use Rattle.tick_keeper.proofs.shorten.pairs.Goals as goal
use Rattle.tick_keeper.proofs.shorten.pairs.Goals.{in-Some+in_ok-push, in_default}

pub loop-entry-preserved : goal.loop-entry-preserved
loop-entry-preserved c =
    let g = c.args.forest.now in
    let i = c.loop-entry.entry in
    let within : i < length g.entries = omega (arith, c.len-entry-end.ensures.value) in
    let need = ap (λ (e : Entry). e.need) c.get.ensures.value in
    elim c.match-shorter.branch [
      | in-Some+in_ok-push w ↦
          let short = found_short g c.args.at i _ c.get.result.now.need (c.requires.each i within) need w.in-Some.need (sym w.in-Some.is ∙ c.shorter.ensures) in
          ap (λ v. v.items) w.list-is ∙ w.in_ok-push.ensures.items ∙ pairs_more g c.args.at i w.in-Some.need c.loop-entry.list.items c.loop-entry.invariant short.0 short.1
      | in_default w ↦
          let whole = found_whole g c.args.at i _ c.get.result.now.need (c.requires.each i within) need (sym w.in_default.is ∙ c.shorter.ensures) in
          ap (λ v. v.items) w.list-is ∙ pairs_same g c.args.at i c.loop-entry.list.items c.loop-entry.invariant whole
    ]

pub returns : goal.returns
returns c = c.loop-entry.invariant ∙ pairs_all c.args.forest.now c.args.at c.loop-entry.entry (omega (arith, c.len-entry-end.ensures.value))
