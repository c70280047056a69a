-- The last answer leaves what planning anew would, whether the rest of the plan stands or is made anew.
use Rattle.std.proofs.Common.{◌∙◌, ◌++◌, None, Option, ap, arith, refl, subst, sym}
use Rattle.plan_forest.specs.{Forest.entry_at, Push.IsForest}
use Rattle.plan_forest.proofs.Carrying.{and_left, and_right}
use Rattle.plan_rule.specs.Runs.{moments_of}
use Rattle.plan_search.specs.Planned.{to_come}
use Rattle.tick_keeper.specs.{declared.round.OpenRound.OpenRound, code.Hearing.is_rules, code.Keeping.IsKeeper, code.Keeping.seen_round, Replan.Replan, Replan.ReplanTooLong, Shorten.pairs, Shorten.shorten, State.CoreState}
use Rattle.tick_keeper.specs.Step.{entry_after_answer, entry_of_event, state_after_answer, with_entry_changed}
use Rattle.tick_keeper.proofs.{Made.made, Made.made_keeper, Shortening.shorten_forest}
use Rattle.tick_keeper.proofs.Heard.{Stays, answer_fits, answered_keeper, handed_seconds, handed_within, hears, if_some, only_memory, others_are, state_of, stays, stays_planned}
use Rattle.tick_keeper.proofs.keeper.Keeper.close.Goals as goal

pub is_rules-requires-clause-within : goal.is_rules-requires-clause-within
is_rules-requires-clause-within c = handed_within c.args.event c.self.view_is c.self.invariant (sym c.take.ensures.value ∙ c.in-Some.is) c.requires.answer c.requires.taken c.args.i c.requires.entry

pub is_rules-requires-clause-seconds : goal.is_rules-requires-clause-seconds
is_rules-requires-clause-seconds c = handed_seconds c.args.event c.self.view_is c.self.invariant (sym c.take.ensures.value ∙ c.in-Some.is) c.requires.answer c.requires.taken

pub tell-requires-clause-within : goal.tell-requires-clause-within
tell-requires-clause-within c = handed_within c.args.event c.self.view_is c.self.invariant (sym c.take.ensures.value ∙ c.in-Some.is) c.requires.answer c.requires.taken c.args.i c.requires.entry

pub tell-requires-clause-seconds : goal.tell-requires-clause-seconds
tell-requires-clause-seconds c = handed_seconds c.args.event c.self.view_is c.self.invariant (sym c.take.ensures.value ∙ c.in-Some.is) c.requires.answer c.requires.taken

pub invariant_of-self-then-round-is_rules : goal.invariant_of-self-then-round-is_rules
invariant_of-self-then-round-is_rules c =
    let h = c.self.inside.forest in
    let r = c.in-Some.round in
    let event = c.args.event in
    let is = sym c.take.ensures.value ∙ c.in-Some.is in
    let hears = hears h c.self.inside.last c.self.inside.plan c.self.inside.round c.self.inside.shortened.items c.args.self.now r event c.self.view_is c.self.invariant is c.requires.answer c.requires.taken in
    let told = c.tell.ensures ∙ ap (λ i. with_entry_changed h i (entry_after_answer r.at event)) (sym c.requires.entry) in
    let rules = c.is_rules.ensures ∙ ap (λ i. is_rules r.at event (entry_at h.entries i)) (sym c.requires.entry) in
    let now_is = sym (ap (λ (s : CoreState). s.round) c.self.view_is) ∙ ap seen_round is in
    let others = others_are c.args.self.now.round r c.args.i (entry_of_event event) now_is c.requires.entry in
    let p = c.self.inside.plan in
    let k = c.tell.new.forest in
    let both = c.if-round-is_rules.true in
    let none = c.requires.last in
    let stay = stays h k c.self.inside.last p r event hears.keeper hears.taken told (and_left r.by_rule c.is_rules.result both) (sym rules ∙ and_right r.by_rule c.is_rules.result both) (omega arith) in
    subst (IsKeeper k c.self.inside.last p) (sym c.take.ensures.after) stay.keeper

pub returns-then-round-is_rules-clause-planned : goal.returns-then-round-is_rules-clause-planned
returns-then-round-is_rules-clause-planned c =
    let h = c.self.inside.forest in
    let r = c.in-Some.round in
    let event = c.args.event in
    let is = sym c.take.ensures.value ∙ c.in-Some.is in
    let hears = hears h c.self.inside.last c.self.inside.plan c.self.inside.round c.self.inside.shortened.items c.args.self.now r event c.self.view_is c.self.invariant is c.requires.answer c.requires.taken in
    let told = c.tell.ensures ∙ ap (λ i. with_entry_changed h i (entry_after_answer r.at event)) (sym c.requires.entry) in
    let rules = c.is_rules.ensures ∙ ap (λ i. is_rules r.at event (entry_at h.entries i)) (sym c.requires.entry) in
    let now_is = sym (ap (λ (s : CoreState). s.round) c.self.view_is) ∙ ap seen_round is in
    let others = others_are c.args.self.now.round r c.args.i (entry_of_event event) now_is c.requires.entry in
    let p = c.self.inside.plan in
    let k = c.tell.new.forest in
    let both = c.if-round-is_rules.true in
    let none = c.requires.last in
    let stay = stays h k c.self.inside.last p r event hears.keeper hears.taken told (and_left r.by_rule c.is_rules.result both) (sym rules ∙ and_right r.by_rule c.is_rules.result both) (omega arith) in
    let list = c.self.inside.shortened.items in
    let old = state_of h c.self.inside.last p c.self.inside.round list in
    let there = stays_planned (state_after_answer old event r.at None) r.at k p told refl (subst (λ t. Stays k t p) (sym hears.at) stay) in
    let last = subst (λ t. Replan (state_after_answer old event r.at None) r.at (record { forest = k; last = t; to_come = moments_of (to_come p); round = None; shortened = list })) hears.at there in
    let closed = subst (λ (o : Option OpenRound). Replan (state_after_answer old event r.at None) r.at (state_of k c.self.inside.last p o list)) (sym c.take.ensures.after) last in
    if_some c.args.self.now.round _ _ now_is (subst (λ (s : CoreState). Replan (state_after_answer s event r.at None) r.at (state_of k c.self.inside.last p c.take.new.self list)) c.self.view_is closed)

pub replan_with_answer-requires-clause-within : goal.replan_with_answer-requires-clause-within
replan_with_answer-requires-clause-within c = handed_within c.args.event c.self.view_is c.self.invariant (sym c.take.ensures.value ∙ c.in-Some.is) c.requires.answer c.requires.taken c.args.i c.requires.entry

pub replan_with_answer-requires-clause-seconds : goal.replan_with_answer-requires-clause-seconds
replan_with_answer-requires-clause-seconds c = handed_seconds c.args.event c.self.view_is c.self.invariant (sym c.take.ensures.value ∙ c.in-Some.is) c.requires.answer c.requires.taken

pub invariant_of-self-in-Ok-1 : goal.invariant_of-self-in-Ok-1
invariant_of-self-in-Ok-1 c =
    let h = c.self.inside.forest in
    let r = c.in-Some.round in
    let event = c.args.event in
    let is = sym c.take.ensures.value ∙ c.in-Some.is in
    let hears = hears h c.self.inside.last c.self.inside.plan c.self.inside.round c.self.inside.shortened.items c.args.self.now r event c.self.view_is c.self.invariant is c.requires.answer c.requires.taken in
    let k = c.replan_with_answer.new.forest in
    let p = c.in-Ok.plan in
    let heard = answered_keeper h c.self.inside.last c.self.inside.plan r event hears.keeper hears.taken in
    let told = subst (λ i. IsForest (with_entry_changed h i (entry_after_answer r.at event))) c.requires.entry heard in
    let forest = subst IsForest (sym c.in-Ok.ensures.shortened.0) (shorten_forest _ told r.at) in
    let late = c.self.invariant.late in
    subst (IsKeeper k c.self.inside.last p) (sym c.take.ensures.after) (subst (λ t. IsKeeper k t p None) hears.at (made_keeper k r.at p forest (omega (arith, hears.at)) c.in-Ok.ensures.planned))

pub returns-in-Ok-clause-planned : goal.returns-in-Ok-clause-planned
returns-in-Ok-clause-planned c =
    let h = c.self.inside.forest in
    let r = c.in-Some.round in
    let event = c.args.event in
    let is = sym c.take.ensures.value ∙ c.in-Some.is in
    let hears = hears h c.self.inside.last c.self.inside.plan c.self.inside.round c.self.inside.shortened.items c.args.self.now r event c.self.view_is c.self.invariant is c.requires.answer c.requires.taken in
    let k = c.replan_with_answer.new.forest in
    let p = c.in-Ok.plan in
    let list = c.replan_with_answer.new.shortened.items in
    let old = state_of h c.self.inside.last c.self.inside.plan c.self.inside.round c.self.inside.shortened.items in
    let now_is = sym (ap (λ (s : CoreState). s.round) c.self.view_is) ∙ ap seen_round is in
    let told = ap (λ i. with_entry_changed h i (entry_after_answer r.at event)) (sym c.requires.entry) in
    let short = c.in-Ok.ensures.shortened.0 ∙ ap (λ g. shorten g r.at) told in
    let noted = c.in-Ok.ensures.shortened.1 ∙ ap (λ g. c.self.inside.shortened.items ++ pairs g r.at) told in
    let there = made (state_after_answer old event r.at None) r.at k p list short noted c.in-Ok.ensures.planned in
    let last = subst (λ t. Replan (state_after_answer old event r.at None) r.at (record { forest = k; last = t; to_come = moments_of (to_come p); round = None; shortened = list })) hears.at there in
    let closed = subst (λ (o : Option OpenRound). Replan (state_after_answer old event r.at None) r.at (state_of k c.self.inside.last p o list)) (sym c.take.ensures.after) last in
    if_some c.args.self.now.round _ _ now_is (subst (λ (s : CoreState). Replan (state_after_answer s event r.at None) r.at (state_of k c.self.inside.last p c.take.new.self list)) c.self.view_is closed)

pub returns-in-Err-clause-refused : goal.returns-in-Err-clause-refused
returns-in-Err-clause-refused c =
    let h = c.self.inside.forest in
    let r = c.in-Some.round in
    let event = c.args.event in
    let is = sym c.take.ensures.value ∙ c.in-Some.is in
    let hears = hears h c.self.inside.last c.self.inside.plan c.self.inside.round c.self.inside.shortened.items c.args.self.now r event c.self.view_is c.self.invariant is c.requires.answer c.requires.taken in
    only_memory _ r.at c.in-Err.fault c.in-Err.ensures.refused
    (λ long. answer_fits h c.self.inside.last c.self.inside.plan r event hears.keeper hears.taken (subst (λ i. ReplanTooLong (with_entry_changed h i (entry_after_answer r.at event)) r.at) (sym c.requires.entry) long))
