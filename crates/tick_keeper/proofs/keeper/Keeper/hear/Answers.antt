-- An answer that is not the last is heard, and the round goes on waiting for the others.
use Rattle.std.proofs.Common.{◌≡◌, ◌∙◌, ◌+◌, ◌-◌, ◌<◌, ◌&&◌, false, Option, Some, ap, arith, length, refl, set, subst, sym}
use Rattle.std.specs.Vec.{with_item}
use Rattle.plan_forest.specs.Forest.{Forest, entry_at}
use Rattle.tick_keeper.specs.{declared.round.OpenRound.OpenRound, code.Hearing.heard_in_round, code.Hearing.is_rules, code.Keeping.seen_round, code.Keeping.waited_for, State.CoreState}
use Rattle.tick_keeper.specs.Step.{entry_after_answer, entry_of_event, with_entry_changed, without_index}
use Rattle.tick_keeper.proofs.Hearing.{waited_set}
use Rattle.tick_keeper.proofs.Heard.{handed_seconds, handed_within, hears, heard_keeper, others_are, state_of}
use Rattle.tick_keeper.proofs.keeper.Keeper.hear.Goals as goal

pub is_rules-requires-clause-within : goal.is_rules-requires-clause-within
is_rules-requires-clause-within c = handed_within c.args.event c.self.view_is c.self.invariant (sym c.take.ensures.value ∙ c.in-Some.is) c.requires.answer c.requires.taken c.args.i c.requires.entry

pub is_rules-requires-clause-seconds : goal.is_rules-requires-clause-seconds
is_rules-requires-clause-seconds c = handed_seconds c.args.event c.self.view_is c.self.invariant (sym c.take.ensures.value ∙ c.in-Some.is) c.requires.answer c.requires.taken

pub index_mut-requires : goal.index_mut-requires
index_mut-requires c =
    let h = c.self.inside.forest in
    let r = c.in-Some.round in
    let is = sym c.take.ensures.value ∙ c.in-Some.is in
    let hears = hears h c.self.inside.last c.self.inside.plan c.self.inside.round c.self.inside.shortened.items c.args.self.now r c.args.event c.self.view_is c.self.invariant is c.requires.answer c.requires.taken in
    let there : c.args.i < length r.waiting.items = subst (λ i. i < length r.waiting.items) c.requires.entry hears.taken.there in
    let count = r.waiting.ok.0 in
    omega arith

pub tell-requires-clause-within : goal.tell-requires-clause-within
tell-requires-clause-within c = handed_within c.args.event c.self.view_is c.self.invariant (sym c.take.ensures.value ∙ c.in-Some.is) c.requires.answer c.requires.taken c.args.i c.requires.entry

pub tell-requires-clause-seconds : goal.tell-requires-clause-seconds
tell-requires-clause-seconds c = handed_seconds c.args.event c.self.view_is c.self.invariant (sym c.take.ensures.value ∙ c.in-Some.is) c.requires.answer c.requires.taken

pub invariant_of-self-2 : goal.invariant_of-self-2
invariant_of-self-2 c =
    let h = c.self.inside.forest in
    let r = c.in-Some.round in
    let event = c.args.event in
    let is = sym c.take.ensures.value ∙ c.in-Some.is in
    let hears = hears h c.self.inside.last c.self.inside.plan c.self.inside.round c.self.inside.shortened.items c.args.self.now r event c.self.view_is c.self.invariant is c.requires.answer c.requires.taken in
    let told = c.tell.ensures ∙ ap (λ i. with_entry_changed h i (entry_after_answer r.at event)) (sym c.requires.entry) in
    let rules = c.is_rules.ensures ∙ ap (λ i. is_rules r.at event (entry_at h.entries i)) (sym c.requires.entry) in
    let now_is = sym (ap (λ (s : CoreState). s.round) c.self.view_is) ∙ ap seen_round is in
    let others = others_are c.args.self.now.round r c.args.i (entry_of_event event) now_is c.requires.entry in
    let n : OpenRound = record { at = r.at; waiting = with_item r.waiting c.args.i false; left = r.left - 1; by_rule = r.by_rule && c.is_rules.result } in
    let less : n.left + 1 ≡ r.left = (let some = hears.some in omega arith) in
    let flags = ap (λ i. set r.waiting.items i false) (sym c.requires.entry) in
    heard_keeper h c.tell.new.forest c.self.inside.last c.self.inside.plan r n event hears.keeper hears.taken told refl flags less (ap (λ b. r.by_rule && b) rules)
    (let some = c.requires.others in omega arith)

pub returns : goal.returns
returns c =
    let h = c.self.inside.forest in
    let r = c.in-Some.round in
    let event = c.args.event in
    let is = sym c.take.ensures.value ∙ c.in-Some.is in
    let hears = hears h c.self.inside.last c.self.inside.plan c.self.inside.round c.self.inside.shortened.items c.args.self.now r event c.self.view_is c.self.invariant is c.requires.answer c.requires.taken in
    let told = c.tell.ensures ∙ ap (λ i. with_entry_changed h i (entry_after_answer r.at event)) (sym c.requires.entry) in
    let rules = c.is_rules.ensures ∙ ap (λ i. is_rules r.at event (entry_at h.entries i)) (sym c.requires.entry) in
    let now_is = sym (ap (λ (s : CoreState). s.round) c.self.view_is) ∙ ap seen_round is in
    let others = others_are c.args.self.now.round r c.args.i (entry_of_event event) now_is c.requires.entry in
    let n : OpenRound = record { at = r.at; waiting = with_item r.waiting c.args.i false; left = r.left - 1; by_rule = r.by_rule && c.is_rules.result } in
    let old = state_of h c.self.inside.last c.self.inside.plan c.self.inside.round c.self.inside.shortened.items in
    let unanswered : waited_for n.waiting.items ≡ without_index (entry_of_event event) (waited_for r.waiting.items) =
    ap (λ i. waited_for (set r.waiting.items i false)) (sym c.requires.entry) ∙ waited_set r.waiting.items (entry_of_event event) hears.taken.there in
    ap (λ (g : Forest). record old { forest = g; round = seen_round (Some n) }) told
    ∙ ap (λ us. record old { forest = with_entry_changed h (entry_of_event event) (entry_after_answer r.at event); round = Some (record { at = r.at; unanswered = us }) }) unanswered
    ∙ ap (λ (o : Option OpenRound). heard_in_round (seen_round o) old event) (sym is)
    ∙ ap (λ (s : CoreState). heard_in_round s.round s event) c.self.view_is
