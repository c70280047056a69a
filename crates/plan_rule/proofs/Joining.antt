-- A plan and what comes before it: a plan keeps from an earlier start on where its entries live until it begins, and so
-- does a wake-up with a plan after it. For laws over plans, which may ask any index.
use Rattle.std.proofs.Common.{◌≡◌, ℕ, ◌<◌, ◌≤◌, ◌↔◌, cond, false, List, [], ◌∷◌, filter, nat_le, refl, sym, ap, ◌∙◌, subst, arith, inl, inr}
use Rattle.std.proofs.lemmas.{Bool.cases_lt, Bool.Decides.nat_tests}
use Rattle.std.specs.List.{All}
use Rattle.base_moment.specs.declared.moment.TheConstants.{LAST}
use Rattle.plan_forest.specs.declared.entry.Entry.{Entry}
use Rattle.plan_rule.specs.{declared.wake.Wake.Wake, Ends.ends_after, Ends.ends_after_wake_up, Keeps.Keeps, Keeps.ends_at, Plans.IsPlan, Plans.moments, code.Replay.KeptBetween}
use Rattle.plan_rule.proofs.Walk.{ends_from}

-- the moments of a plan from s
abbrev pub InOrder : ℕ → List ℕ → Type 0
InOrder s [] = Unit {0}
InOrder s (t ∷ ts) = (s ≤ t) × ((t ≤ LAST) × InOrder t ts)

pub plan_order : (s : ℕ) (ws : List Wake) → IsPlan s ws → InOrder s (moments ws)
plan_order s [] plan = tt
plan_order s (w ∷ ws) plan = (plan.0, (plan.1.0, plan_order w.at ws plan.1.1))

pub order_plan : (s : ℕ) (ws : List Wake) → InOrder s (moments ws) → IsPlan s ws
order_plan s [] order = tt
order_plan s (w ∷ ws) order = (order.0, (order.1.0, order_plan w.at ws order.1.1))

-- a plan from t is one from each sooner start, and from each later one that comes after none of its moments
pub plan_sooner : (s t : ℕ) (ws : List Wake) → s ≤ t → IsPlan t ws → IsPlan s ws
plan_sooner s t [] h plan = tt
plan_sooner s t (w ∷ ws) h plan = let l : t ≤ w.at = plan.0 in (omega arith, plan.1)

pub plan_later : (s t : ℕ) (ws : List Wake) → All (λ u. t ≤ u) (moments ws) → IsPlan s ws → IsPlan t ws
plan_later s t [] all plan = tt
plan_later s t (w ∷ ws) all plan = (all 0 0 (omega arith), plan.1)

none_yet : (s m : ℕ) (ws : List Wake) → IsPlan s ws → m < s → filter (λ w. nat_le w.at m) ws ≡ []
none_yet s m [] plan h = refl
none_yet s m (w ∷ ws) plan h =
    let l : s ≤ w.at = plan.0 in
    let late : nat_le w.at m ≡ false = grind (arith, nat_tests) in
    ap (λ b. cond b (w ∷ filter (λ x. nat_le x.at m) ws) (filter (λ x. nat_le x.at m) ws)) late ∙ none_yet w.at m ws plan.1.1 (omega arith)

-- before a plan begins no end has changed
ends_unchanged : (es : List Entry) (margin : ℕ) (ends : ℕ → ℕ) (s m : ℕ) (ws : List Wake) → IsPlan s ws → m < s → ends_at es margin ends ws m ≡ ends
unfolding ends_at ends_after
ends_unchanged es margin ends s m ws plan h = ap (ends_after es margin ends) (none_yet s m ws plan h)

-- what a plan from t keeps from s on lives, by the ends before it, until t
pub kept_before : (es : List Entry) (margin s t : ℕ) (ends : ℕ → ℕ) (ws : List Wake) → IsPlan t ws → Keeps es margin s ends ws → KeptBetween es ends s t
kept_before es margin s t ends ws plan keeps i m from before need a over =
    subst (λ (f : ℕ → ℕ). m < f a) (ends_unchanged es margin ends t m ws plan before) (keeps i m from need a over)

pub keeps_sooner : (es : List Entry) (margin s t : ℕ) (ends : ℕ → ℕ) (ws : List Wake) → IsPlan t ws → KeptBetween es ends s t → Keeps es margin t ends ws → Keeps es margin s ends ws
keeps_sooner es margin s t ends ws plan kept keeps i m from need a over =
    elim (cases_lt m t) [
      | inl before ↦ subst (λ (f : ℕ → ℕ). m < f a) (sym (ends_unchanged es margin ends t m ws plan before)) (kept i m from before need a over)
      | inr due ↦ keeps i m due need a over
    ]

-- a plan keeps where its entries live until its first wake-up, and the rest of it keeps from there
pub keeps_joined :
    (es : List Entry) (margin s : ℕ) (ends : ℕ → ℕ) (w : Wake) (ws : List Wake) → IsPlan s (w ∷ ws) →
    (KeptBetween es ends s w.at × Keeps es margin w.at (ends_after_wake_up es margin ends w) ws) ↔ Keeps es margin s ends (w ∷ ws)
keeps_joined es margin s ends w ws plan =
    let whole : IsPlan w.at (w ∷ ws) = (omega arith, plan.1) in
    let l : s ≤ w.at = plan.0 in (
      λ halves. keeps_sooner es margin s w.at ends (w ∷ ws) whole halves.0
          (λ i m due need a over. subst (λ (f : ℕ → ℕ). m < f a) (sym (ends_from es margin ends m w ws due)) (halves.1 i m due need a over)),
      λ keeps. (
        kept_before es margin s w.at ends (w ∷ ws) whole keeps,
        λ i m due need a over. subst (λ (f : ℕ → ℕ). m < f a) (ends_from es margin ends m w ws due) (keeps i m (omega arith) need a over),
      ),
    )
