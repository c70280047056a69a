-- The first entry that falls short is the lowest of an unkeepable pair; where none does, no pair is unkeepable.
use Rattle.std.proofs.Common.{◌≡◌, ◌∙◌, ◌<◌, Some, length, ap, arith, subst, sym, inl, inr}
use Rattle.std.proofs.lemmas.Bool.{cases_lt}
use Rattle.plan_forest.specs.{Carried.carried, Forest.end_of}
use Rattle.plan_forest.proofs.Carrying.{carried_at_least}
use Rattle.plan_rule.specs.{Reach.reach, Unkeepable.Unkeepable}
use Rattle.plan_needs.specs.Carried.{NamesFrom}
use Rattle.plan_schedule.proofs.Bridge.{carried_past}
use Rattle.plan_search.specs.code.FallingShort.{falls_short}
use Rattle.plan_search.proofs.{Deciding.none_keeps, Deciding.some_keeps, Unkeepables.not_unkeepable, Unkeepables.unkeepable_from}
use Rattle.plan_search.proofs.falling_short.shortfall.Goals as goal

pub returns-then-falls_short-clause-pair : goal.returns-then-falls_short-clause-pair
returns-then-falls_short-clause-pair c =
    let g = c.args.forest.now in
    let s = c.args.start in
    let i = c.loop-entry.entry in
    let within : i < length g.entries = omega (arith, c.len-entry-end.ensures.value) in
    let judged : c.falls_short.result ≡ falls_short (reach g.entries g.margin s (end_of g.entries) i) (carried g.entries s i) =
    c.falls_short.ensures ∙ ap (falls_short (reach g.entries g.margin s (end_of g.entries) i)) (c.requires.need i within) in
    let named : NamesFrom g.entries s i (Some c.in_ok-needed.needed) = subst (NamesFrom g.entries s i) (sym c.from.ensures ∙ c.in_ok-needed.was) (c.requires.from i within) in
    record {
      pair = unkeepable_from g.entries g.margin s (end_of g.entries) i c.in_ok-needed.needed (sym judged ∙ c.if-falls_short.true) named.1;
      lowest = λ k f pair. elim (cases_lt k i) [ inl below ↦ absurd (c.loop-entry.invariant k f below pair) | inr least ↦ least ];
      from = named.1;
    }

pub loop-entry-preserved : goal.loop-entry-preserved
loop-entry-preserved c =
    let g = c.args.forest.now in
    let s = c.args.start in
    let i = c.loop-entry.entry in
    let within : i < length g.entries = omega (arith, c.len-entry-end.ensures.value) in
    let judged : c.falls_short.result ≡ falls_short (reach g.entries g.margin s (end_of g.entries) i) (carried g.entries s i) =
    c.falls_short.ensures ∙ ap (falls_short (reach g.entries g.margin s (end_of g.entries) i)) (c.requires.need i within) in
    λ k f below pair. elim (cases_lt k i) [
      | inl before ↦ c.loop-entry.invariant k f before pair
      | inr after ↦ not_unkeepable g.entries g.margin s (end_of g.entries) i f (sym judged ∙ c.if-falls_short.false)
          (let here : k ≡ i = omega arith in subst (λ n. Unkeepable g.entries g.margin s (end_of g.entries) n f) here pair)
    ]

pub returns-clause-pair : goal.returns-clause-pair
returns-clause-pair c =
    let es = c.args.forest.now.entries in
    let count = c.len-entry-end.ensures.value in
    λ k f pair. elim (cases_lt k (length es)) [
      | inl within ↦ c.loop-entry.invariant k f (omega arith) pair
      | inr past ↦
          let none = carried_past c.args.forest.now c.args.start k c.len-entry-end.ensures.sound past in
          let least = carried_at_least es c.args.start k f pair.over pair.later in
          let later = pair.later in
          omega arith
    ]

pub returns-then-falls_short-clause-keeps : goal.returns-then-falls_short-clause-keeps
returns-then-falls_short-clause-keeps c =
    none_keeps c.args.forest.now c.args.start c.loop-entry.entry c.in_ok-needed.needed (returns-then-falls_short-clause-pair c).pair

pub returns-clause-keeps : goal.returns-clause-keeps
returns-clause-keeps c = some_keeps c.args.forest.now c.args.start c.len-entry-end.ensures.sound (returns-clause-pair c)
