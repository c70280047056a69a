-- The law of the tail: after a round with its Asks, the moments that are left are least and latest.
use Rattle.std.proofs.Common.{◌≡◌, ℕ, suc, List, [], ◌∷◌, refl, sym, ap, subst, arith}
use Rattle.plan_forest.specs.declared.entry.Entry.{Entry}
use Rattle.plan_rule.specs.{Asks.asking, Asks.first_of, Asks.with_asks, Ends.ends_after_wake_up, Keeps.Keeps, Laws.EnoughLaw, LawsOfRounds.TailLaw, Plans.IsPlan, Plans.moments}
use Rattle.plan_rule.proofs.Joining.{InOrder, keeps_joined, order_plan, plan_order}

-- a list of moments with its Asks has these moments
pub moments_with_asks : (es : List Entry) (margin s : ℕ) (ends : ℕ → ℕ) (ts : List ℕ) → moments (with_asks es margin s ends ts) ≡ ts
unfolding with_asks
moments_with_asks es margin s ends [] = refl
moments_with_asks es margin s ends (t ∷ ts) = ap (λ us. t ∷ us) (moments_with_asks es margin s (ends_after_wake_up es margin ends (asking es margin s ends t (first_of ts))) ts)

-- so it is a plan where they are those of one
pub with_asks_plan : (es : List Entry) (margin s : ℕ) (ends : ℕ → ℕ) (ts : List ℕ) → InOrder s ts → IsPlan s (with_asks es margin s ends ts)
with_asks_plan es margin s ends ts order = order_plan s (with_asks es margin s ends ts) (subst (InOrder s) (sym (moments_with_asks es margin s ends ts)) order)

pub tail : EnoughLaw → TailLaw
unfolding with_asks
tail enough g s t ends ts forest best =
    let es = g.entries in
    let margin = g.margin in
    let round = asking es margin s ends t (first_of ts) in
    let rest = with_asks es margin s (ends_after_wake_up es margin ends round) ts in
    let order : IsPlan s (round ∷ rest) = with_asks_plan es margin s ends (t ∷ ts) (subst (InOrder s) best.at_these (plan_order s best.plan best.in_order)) in
    let keeps : Keeps es margin s ends (round ∷ rest) = subst (λ us. Keeps es margin s ends (with_asks es margin s ends us)) best.at_these (enough g s ends best.plan forest best.in_order best.kept) in
    let halves = (keeps_joined es margin s ends round rest order).1 keeps in
    record {
      plan = rest;
      in_order = order.1.1;
      at_these = moments_with_asks es margin s (ends_after_wake_up es margin ends round) ts;
      kept = halves.1;
      least = λ other o k.
          let behind : IsPlan s (round ∷ other) = (order.0, (order.1.0, o)) in
          let most = best.least (round ∷ other) behind ((keeps_joined es margin s ends round other behind).0 (halves.0, k)) in
          omega arith;
      latest = λ other o k n within.
          let behind : IsPlan s (round ∷ other) = (order.0, (order.1.0, o)) in
          best.latest (round ∷ other) behind ((keeps_joined es margin s ends round other behind).0 (halves.0, k)) (suc n) (omega arith);
    }
