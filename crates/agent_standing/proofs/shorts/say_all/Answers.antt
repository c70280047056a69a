-- One standing more is said.
use Rattle.std.proofs.Common.{◌≡◌, ◌∙◌, ◌<◌, ap, arith, length}
use Rattle.std.proofs.lemmas.List.Elements.{All-set}
use Rattle.plan_forest.specs.Forest.{Forest}
use Rattle.agent_standing.specs.{Agent.IsStanding, Shorts.said_standing, Shorts.said_standings}
use Rattle.agent_standing.proofs.Saying.{said_all, said_more, said_none}
use Rattle.agent_standing.proofs.shorts.say_all.Goals as goal

pub loop-entry-init : goal.loop-entry-init
loop-entry-init c = record { said = said_none (said_standing c.args.watch.now c.args.inventory.now.terms) c.args.standings.now; bounds = c.requires.bounds }

pub loop-entry-preserved : goal.loop-entry-preserved
loop-entry-preserved c =
    let f = said_standing c.args.watch.now c.args.inventory.now.terms in
    let old = c.args.standings.now in
    let now = c.loop-entry.standings in
    let k = c.loop-entry.entry in
    let so = c.loop-entry.invariant.said in
    let same = c.requires.count in
    let all : c.len-entry-end.result ≡ length c.args.watch.now.forest.entries = c.len-entry-end.ensures.value ∙ ap (λ (g : Forest). length g.entries) c.forest.ensures in
    let within : k < length old = omega (arith, all, same) in
    record {
      said = said_more f old now k c.said.result so within c.said.ensures.value;
      bounds = All-set IsStanding now k c.said.result c.said.ensures.bounds c.loop-entry.invariant.bounds;
    }

pub returns-clause-value : goal.returns-clause-value
unfolding said_standings
returns-clause-value c =
    let same = c.requires.count in
    let all : c.len-entry-end.result ≡ length c.args.watch.now.forest.entries = c.len-entry-end.ensures.value ∙ ap (λ (g : Forest). length g.entries) c.forest.ensures in
    said_all (said_standing c.args.watch.now c.args.inventory.now.terms) c.args.standings.now c.loop-entry.standings c.loop-entry.entry c.loop-entry.invariant.said (omega (arith, all, same))
