-- The Asks at a moment that is due are entries, and what opens the round waits for each of them.
use Rattle.std.proofs.Common.{◌≡◌, ◌∙◌, ◌≤◌, ◌<◌, ℕ, List, ◌∷◌, ap, arith, false, length, refl, subst, sym}
use Rattle.plan_forest.specs.Forest.{end_of}
use Rattle.plan_rule.specs.{Asks.asks, Asks.first_of, Plans.asks_past, declared.force.Force.Force, Runs.moments_of}
use Rattle.plan_search.specs.Planned.{next_after, to_come}
use Rattle.tick_keeper.specs.{Replan.IsPlanOf, code.Waking.AreFlags}
use Rattle.tick_keeper.proofs.Standing.{someone}
use Rattle.tick_keeper.proofs.Waking.{asked_now, asks_few, asks_inside, asks_waited}
use Rattle.tick_keeper.proofs.opening.opening_at.Goals as goal

pub flags-requires : goal.flags-requires
flags-requires c =
    let h = c.args.forest.now in
    let t = c.args.at in
    let p = c.args.plan.now in
    let next = next_after t (to_come p) in
    let all : asks_past (length h.entries) (asks h.entries h.margin p.start (end_of h.entries) t next) ≡ false = asks_inside h.entries h.margin p.start (end_of h.entries) t next in
    ap (λ n. asks_past n c.list.result.now) c.len-entries.ensures.value ∙ ap (asks_past (length h.entries)) (c.list.ensures ∙ c.in_ok-asked.ensures) ∙ all

pub overflow_cast-left : goal.overflow_cast-left
overflow_cast-left c =
    let h = c.args.forest.now in
    let t = c.args.at in
    let p = c.args.plan.now in
    let few = asks_few h.entries h.margin p.start (end_of h.entries) t (next_after t (to_come p)) in
    let is = ap length (c.list-2.ensures ∙ c.in_ok-asked.ensures) in
    let most = c.len-entries.ensures.sound.few in
    omega arith

pub returns-clause-opens : goal.returns-clause-opens
returns-clause-opens c =
    let h = c.args.forest.now in
    let t = c.args.at in
    let p = c.args.plan.now in
    let forest = c.len-entries.ensures.sound in
    let x = c.in-Some.first in
    let xs = c.next.new.self in
    let is : to_come p ≡ x ∷ xs = sym c.wakes.ensures ∙ c.in-Some.ensures.steps in
    let best : IsPlanOf h t (moments_of (x ∷ xs)) = subst (λ (fs : List Force). IsPlanOf h t (moments_of fs)) is c.requires.best in
    let before : x.at ≤ t = omega (arith, c.get.ensures.value, c.get-2.ensures.value, c.if-get.false) in
    let now = asked_now h forest p.start t x xs c.requires.start before best in
    let next = first_of (moments_of xs) in
    let asked : c.in_ok-asked.asked ≡ asks h.entries h.margin t (end_of h.entries) t next =
    c.in_ok-asked.ensures ∙ ap (λ fs. asks h.entries h.margin p.start (end_of h.entries) t (next_after t fs)) is ∙ now.1 in
    let first : moments_of (x ∷ xs) ≡ t ∷ moments_of xs = ap (λ n. n ∷ moments_of xs) now.0 in
    let flags : AreFlags (length h.entries) (asks h.entries h.margin t (end_of h.entries) t next) c.in_ok-waiting.waiting.items =
    subst (λ n. AreFlags n (asks h.entries h.margin t (end_of h.entries) t next) c.in_ok-waiting.waiting.items) c.len-entries.ensures.value
    (subst (λ ns. AreFlags c.len-entries.result ns c.in_ok-waiting.waiting.items) (c.list.ensures ∙ asked) c.in_ok-waiting.ensures) in
    record {
      forest = forest;
      rest = moments_of xs;
      is = ap moments_of is ∙ first;
      asked = asked;
      at = refl;
      count = flags.count;
      waiting = asks_waited h.entries h.margin t (end_of h.entries) t next c.in_ok-waiting.waiting.items flags ∙ sym asked;
      left = ap length c.list-2.ensures;
      some = subst (λ (ns : List ℕ). 0 < length ns) (sym asked) (someone h t t (moments_of xs) forest (subst (IsPlanOf h t) first best));
    }
