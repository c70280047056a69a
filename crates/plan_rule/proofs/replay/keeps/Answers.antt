-- Up to the next wake-up everything is kept exactly where the present ends last; the rest is left to what follows.
use Rattle.std.proofs.Common.{◌≡◌, ◌∙◌, ◌+◌, ◌↔◌, ◌++◌, ◌∷◌, ◌&&◌, [], ℕ, IsTrue, ap, arith, drop, length, subst, sym, take}
use Rattle.std.proofs.lemmas.List.{drop_all}
use Rattle.plan_forest.specs.Forest.{end_of}
use Rattle.plan_rule.specs.{Ends.ends_after_wake_up, Keeps.Keeps, code.Replay.KeptBetween, code.Replay.Lasts, code.Replay.shown_ends}
use Rattle.plan_rule.proofs.{Lists.need_within, Lists.rewritten, Lists.unrolled, Walk.Rises, Walk.kept_first, Walk.kept_last, Walk.kept_more, Walk.rises}
use Rattle.plan_rule.proofs.replay.keeps.Goals as goal

pub loop-wake-init : goal.loop-wake-init
loop-wake-init c =
    let g = c.args.forest.now in
    record {
      ends = c.in_ok-ends.ensures.0;
      lasts = c.in_ok-lasts.ensures.0;
      rises = subst (λ s. Rises (length g.entries) s c.args.wakes.now) (sym c.get-from.ensures.value) (rises g.entries c.args.start c.args.wakes.now (sym c.in_default.ensures));
      rest = kept_first g.entries g.margin c.args.start c.get-from.result (shown_ends c.in_ok-ends.ends.items) (end_of g.entries) c.args.wakes.now c.get-from.ensures.value c.in_ok-ends.ensures.1;
    }

pub loop-wake-preserved : goal.loop-wake-preserved
loop-wake-preserved c =
    let g = c.args.forest.now in
    let es = g.entries in
    let ws = c.args.wakes.now in
    let w = c.wake-item.result in
    let ends = c.loop-wake.ends.items in
    let now = c.renew.new.ends in
    let ws' = drop (c.loop-wake.wake-index + 1) ws in
    let P = Keeps es g.margin c.args.start (end_of es) ws in
    let rest = unrolled ws c.loop-wake.wake-index w (omega arith) c.wake-item.is in
    let risen : Rises (length es) c.loop-wake.from (w ∷ ws') = subst (Rises (length es) c.loop-wake.from) rest c.loop-wake.invariant.rises in
    let whole : (IsTrue c.loop-wake.kept × Keeps es g.margin c.loop-wake.from (shown_ends ends) (w ∷ ws')) ↔ P =
    subst (λ xs. (IsTrue c.loop-wake.kept × Keeps es g.margin c.loop-wake.from (shown_ends ends) xs) ↔ P) rest c.loop-wake.invariant.rest in
    let written = rewritten c.loop-wake.ends.len now ends (omega (arith, c.renew.auto.ends, c.deref_mut-in-loop-wake.ensures.len)) in
    let lasts : c.deref-in-loop-wake.result.now ≡ c.carry_lasts.new.lasts =
    c.deref-in-loop-wake.ensures.value ∙ rewritten c.loop-wake.lasts.len c.carry_lasts.new.lasts c.loop-wake.lasts.items (omega (arith, c.carry_lasts.auto.lasts, c.deref_mut.ensures.len)) in
    let carried : Lasts es (shown_ends ends) c.deref-in-loop-wake.result.now =
    subst (Lasts es (shown_ends ends)) (sym lasts) (subst (λ xs. Lasts es (shown_ends xs) c.carry_lasts.new.lasts) c.deref.ensures.value c.carry_lasts.ensures) in
    let here : IsTrue c.lasts_between-kept.result ↔ KeptBetween es (shown_ends ends) c.loop-wake.from w.at =
    subst (λ to. IsTrue c.lasts_between-kept.result ↔ KeptBetween es (shown_ends ends) c.loop-wake.from to) c.get.ensures.value (c.lasts_between-kept.ensures.between (shown_ends ends) carried) in
    let more = kept_more es g.margin (length es) c.loop-wake.from (shown_ends ends) w ws' c.loop-wake.kept c.lasts_between-kept.result P risen here whole in
    let after_wake : shown_ends (take c.loop-wake.ends.len (now ++ drop (length now) ends)) ≡ ends_after_wake_up es g.margin (shown_ends ends) w =
    ap shown_ends written ∙ c.renew.ensures ∙ ap (λ xs. ends_after_wake_up es g.margin (shown_ends xs) w) c.deref_mut-in-loop-wake.ensures.value in
    let Goal : ℕ → (ℕ → ℕ) → Type 0 = λ from f. (IsTrue (c.loop-wake.kept && c.lasts_between-kept.result) × Keeps es g.margin from f ws') ↔ P in
    record {
      ends = c.loop-wake.invariant.ends;
      lasts = c.loop-wake.invariant.lasts;
      rises = subst (λ from. Rises (length es) from ws') (sym c.get-from-in-loop-wake.ensures.value) risen.1.1;
      rest = subst (λ from. Goal from (shown_ends (take c.loop-wake.ends.len (now ++ drop (length now) ends)))) (sym c.get-from-in-loop-wake.ensures.value) (subst (Goal w.at) (sym after_wake) more);
    }

pub returns-clause-kept : goal.returns-clause-kept
returns-clause-kept c =
    let g = c.args.forest.now in
    let es = g.entries in
    let ws = c.args.wakes.now in
    let ends = c.loop-wake.ends.items in
    let P = Keeps es g.margin c.args.start (end_of es) ws in
    let lasts : c.deref-3.result.now ≡ c.carry_lasts-2.new.lasts =
    c.deref-3.ensures.value ∙ rewritten c.loop-wake.lasts.len c.carry_lasts-2.new.lasts c.loop-wake.lasts.items (omega (arith, c.carry_lasts-2.auto.lasts, c.deref_mut-2.ensures.len)) in
    let carried : Lasts es (shown_ends ends) c.deref-3.result.now =
    subst (Lasts es (shown_ends ends)) (sym lasts) (subst (λ xs. Lasts es (shown_ends xs) c.carry_lasts-2.new.lasts) c.deref-2.ensures.value c.carry_lasts-2.ensures) in
    let whole : (IsTrue c.loop-wake.kept × Keeps es g.margin c.loop-wake.from (shown_ends ends) []) ↔ P =
    subst (λ xs. (IsTrue c.loop-wake.kept × Keeps es g.margin c.loop-wake.from (shown_ends ends) xs) ↔ P) (drop_all c.loop-wake.wake-index ws (omega arith)) c.loop-wake.invariant.rest in (
      sym c.in_default.ensures,
      kept_last es g.margin c.loop-wake.from (shown_ends ends) c.loop-wake.kept c.lasts_between-kept-2.result P (need_within g c.lasts_between-kept-2.ensures.sound) (c.lasts_between-kept-2.ensures.between (shown_ends ends) carried) whole,
    )
