-- The law of the margin: moments that come in time do so by each smaller margin too, so the Asks by that margin keep at them.
use Rattle.std.proofs.Common.{◌≡◌, ℕ, ◌≤◌, List, [], ◌∷◌, Option, Some, None, get_or, length, sym, ap, ◌∙◌, subst, arith, inl, inr}
use Rattle.std.proofs.lemmas.List.{length-map}
use Rattle.plan_forest.specs.{declared.entry.Entry.Entry, Forest.Forest}
use Rattle.plan_forest.proofs.Margins.{forest_with, less_allowed, own_allowed}
use Rattle.plan_rule.specs.{Asks.with_asks, Keeps.Keeps, Laws.LeastMarginLaw, Laws.MarginLaw, Plans.IsPlan, Plans.moments}
use Rattle.plan_rule.proofs.{Asking.Covers, Enough.kept_is_timely, Joining.plan_order, Keeping.plan_rises, Tail.moments_with_asks, Tail.with_asks_plan, Timely.AllTimely, Timely.timely_keeps}

less_covers : (margin less : ℕ) (next : Option ℕ) (need end : ℕ) → less ≤ margin → Covers margin next need end → Covers less next need end
less_covers margin less None need end small c = c
less_covers margin less (Some next) need end small c = elim c [ inl lasts ↦ inl lasts | inr granted ↦ inr (omega arith) ]

less_timely : (es : List Entry) (margin less s : ℕ) (ends : ℕ → ℕ) (prev : Option ℕ) (ts : List ℕ) → less ≤ margin → AllTimely es margin s ends prev ts → AllTimely es less s ends prev ts
less_timely es margin less s ends prev [] small timely = timely
less_timely es margin less s ends prev (t ∷ ts) small timely =
    ((λ i. less_covers margin less (Some t) _ _ small (timely.0 i)), less_timely es margin less s ends (Some t) ts small timely.1)

pub margin : MarginLaw
margin g less s ends plan forest above small in_order keeps =
    let es = g.entries in
    let ts = moments plan in
    let smaller : Forest = record g { margin = less } in
    let timely = less_timely es g.margin less s ends None ts small (kept_is_timely es g.margin s ends plan None s [] tt (λ t e. absurd cc) in_order keeps) in (
      with_asks es less s ends ts,
      (
        with_asks_plan es less s ends ts (plan_order s plan in_order),
        (moments_with_asks es less s ends ts, timely_keeps smaller (forest_with g less forest (less_allowed es g.margin less above small (own_allowed g forest))) s ends ts (plan_rises s plan in_order) timely),
      ),
    )

pub least_margin : LeastMarginLaw
least_margin g less s ends ts us forest above small best better =
    let other = margin g less s ends best.plan forest above small best.in_order best.kept in
    let in_order : IsPlan s other.0 = other.1.0 in
    let keeps : Keeps g.entries less s ends other.0 = other.1.1.1 in
    let same : moments other.0 ≡ ts = other.1.1.0 ∙ best.at_these in
    let as_many : length other.0 ≡ length ts = sym (length-map other.0 (λ w. w.at)) ∙ ap length same in
    let least = better.least other.0 in_order keeps in (
      omega (arith, as_many, least),
      λ k h. subst (λ vs. get_or vs k 0 ≤ get_or us k 0) same (better.latest other.0 in_order keeps k h),
    )
