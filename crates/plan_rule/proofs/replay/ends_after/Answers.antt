-- One wake-up more leads from the ends before it to those after it, and those after it rise from there.
use Rattle.std.proofs.Common.{◌≡◌, ◌∙◌, ◌+◌, ◌∷◌, ap, arith, drop, length, subst, sym}
use Rattle.std.proofs.lemmas.List.{drop_all}
use Rattle.plan_forest.specs.Forest.{end_of}
use Rattle.plan_rule.specs.{Ends.ends_after, Ends.ends_after_wake_up, Ends.ends_listed, code.Replay.shown_ends}
use Rattle.plan_rule.proofs.{Lists.listed_shown, Lists.rewritten, Lists.unrolled, Walk.Rises, Walk.ends_after_cons, Walk.ends_after_nil, Walk.rises}
use Rattle.plan_rule.proofs.replay.ends_after.Goals as goal

pub loop-wake-init : goal.loop-wake-init
loop-wake-init c =
    let g = c.args.forest.now in
    record {
      ends = c.in_ok-ends.ensures.0;
      lasts = c.in_ok-lasts.ensures.0;
      rises = (c.args.start, rises g.entries c.args.start c.args.wakes.now (sym c.in_default.ensures));
      rest = ap (λ f. ends_after g.entries g.margin f c.args.wakes.now) c.in_ok-ends.ensures.1;
    }

pub loop-wake-preserved : goal.loop-wake-preserved
loop-wake-preserved c =
    let es = c.args.forest.now.entries in
    let margin = c.args.forest.now.margin in
    let ws = c.args.wakes.now in
    let w = c.wake-item.result in
    let ends = c.loop-wake.ends.items in
    let now = c.renew.new.ends in
    let ws' = drop (c.loop-wake.wake-index + 1) ws in
    let rest = unrolled ws c.loop-wake.wake-index w (omega arith) c.wake-item.is in
    let risen : Rises (length es) c.loop-wake.invariant.rises.0 (w ∷ ws') = subst (Rises (length es) c.loop-wake.invariant.rises.0) rest c.loop-wake.invariant.rises.1 in
    let written = rewritten c.loop-wake.ends.len now ends (omega (arith, c.renew.auto.ends, c.deref_mut-in-loop-wake.ensures.len)) in
    record {
      ends = c.loop-wake.invariant.ends;
      lasts = c.loop-wake.invariant.lasts;
      rises = (w.at, risen.1.1);
      rest = ap (λ xs. ends_after es margin (shown_ends xs) ws') written
          ∙ ap (λ f. ends_after es margin f ws') (c.renew.ensures ∙ ap (λ xs. ends_after_wake_up es margin (shown_ends xs) w) c.deref_mut-in-loop-wake.ensures.value)
          ∙ sym (ends_after_cons es margin (shown_ends ends) w ws')
          ∙ sym (ap (ends_after es margin (shown_ends ends)) rest)
          ∙ c.loop-wake.invariant.rest;
    }

pub returns-clause-ends : goal.returns-clause-ends
returns-clause-ends c =
    let es = c.args.forest.now.entries in
    let margin = c.args.forest.now.margin in
    let ws = c.args.wakes.now in
    let ends = c.loop-wake.ends.items in
    let done : shown_ends ends ≡ ends_after es margin (end_of es) ws =
    sym (ends_after_nil es margin (shown_ends ends)) ∙ sym (ap (ends_after es margin (shown_ends ends)) (drop_all c.loop-wake.wake-index ws (omega arith))) ∙ c.loop-wake.invariant.rest in (
      sym c.in_default.ensures,
      c.from_vec.ensures ∙ listed_shown es ends (sym c.loop-wake.ends.ok.0 ∙ c.loop-wake.invariant.ends) ∙ ap (ends_listed es) done,
    )
