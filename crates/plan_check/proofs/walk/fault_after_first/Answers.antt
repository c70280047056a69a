-- After its first wake-up a run fails at the second, or where the bound first reaches the need, or nowhere.
use Rattle.std.proofs.Common.{◌≡◌, ◌∙◌, ℕ, ◌+◌, ◌-◌, ◌*◌, ◌<◌, ◌≤◌, ◌++◌, Some, refl, ap, subst, arith, inl, inr}
use Rattle.std.proofs.Math.Nat.{mul-le-mul_left}
use Rattle.plan_forest.specs.{declared.entry.Entry.Entry, Forest.end_of, Forest.entry_at}
use Rattle.plan_rule.specs.{Forced.latest_end, Runs.wakes_of}
use Rattle.plan_check.specs.{declared.answer.Cause.TheVariants.NotRising, code.Steps.LongFrom, Walk.fault}
use Rattle.plan_check.proofs.Run.{Going, could_wait, stands_still, walks_all, walks_into}
use Rattle.plan_check.proofs.walk.fault_after_first.Goals as goal

pub returns-then-more-eq0 : goal.returns-then-more-eq0
unfolding wakes_of
returns-then-more-eq0 c = λ rest.
    let g = c.args.forest.now in
    let r = c.args.run.now in
    let none : 0 ≡ r.count - 1 = omega (arith, c.if-more-eq0.true) in
    let Goal : ℕ → Type 0 = λ n.
    fault g.entries g.margin c.args.start (end_of g.entries) (Some r.first) c.args.count (wakes_of (r.first + r.step) r.step n r.entry r.needed ++ rest)
    ≡ fault g.entries g.margin c.args.start (end_of g.entries) (Some (r.first + n * r.step)) (c.args.count + n) rest in
    let Same : ℕ → ℕ → Type 0 = λ a b.
    fault g.entries g.margin c.args.start (end_of g.entries) (Some r.first) c.args.count rest ≡ fault g.entries g.margin c.args.start (end_of g.entries) (Some a) b rest in
    let one : r.first ≡ r.first + 0 * r.step = omega arith in
    let two : c.args.count ≡ c.args.count + 0 = omega arith in
    subst Goal none (subst (λ a. Same a (c.args.count + 0)) one (subst (λ b. Same r.first b) two refl))

pub returns-then-step-eq0 : goal.returns-then-step-eq0
returns-then-step-eq0 c = λ rest.
    let g = c.args.forest.now in
    let r = c.args.run.now in
    let none : 0 ≡ r.step = omega (arith, c.if-step-eq0.true) in
    let Goal : ℕ → Type 0 = λ d. fault g.entries g.margin c.args.start (end_of g.entries) (Some r.first) c.args.count (wakes_of (r.first + d) d (r.count - 1) r.entry r.needed ++ rest) ≡ Some (NotRising c.args.count) in
    subst Goal none (stands_still g.entries g.margin c.args.start (end_of g.entries) r.entry r.needed r.first c.args.count (r.count - 1) rest (omega (arith, c.if-more-eq0.false)))

pub returns-then-run-step : goal.returns-then-run-step
unfolding end_of
returns-then-run-step c = λ rest.
    let g = c.args.forest.now in
    let r = c.args.run.now in
    let bound = c.latest_end-bound.ensures ∙ ap (λ (e : Entry). latest_end e e.end (Some r.first)) c.get-entry.ensures.value in
    could_wait g.entries g.margin c.args.start (end_of g.entries) r.entry r.needed r.step r.first c.args.count (r.count - 1) rest
    (omega (arith, c.if-more-eq0.false)) (omega (arith, c.if-step-eq0.false)) c.requires.start (omega (arith, bound, c.margin.ensures, c.if-run-step.true))

pub returns-in-None : goal.returns-in-None
unfolding end_of
returns-in-None c = λ rest.
    let g = c.args.forest.now in
    let es = g.entries in
    let r = c.args.run.now in
    let bound = c.latest_end-bound.ensures ∙ ap (λ (e : Entry). latest_end e e.end (Some r.first)) c.get-entry.ensures.value in
    let need : c.get.result.now.need ≡ (entry_at es r.needed).need = ap (λ (e : Entry). e.need) c.get.ensures.value in
    let short : (t : ℕ) → latest_end (entry_at es r.entry) (entry_at es r.entry).end (Some t) < (entry_at es r.needed).need =
    λ t. subst (λ (e : Entry). latest_end e e.end (Some t) < (entry_at es r.needed).need) c.get-entry.ensures.value
    (subst (λ n. latest_end c.get-entry.result.now c.get-entry.result.now.end (Some t) < n) need (c.in-None.ensures.none refl t)) in
    let going : Going es g.margin c.args.start (end_of es) r.entry r.needed r.step (r.first + (r.count - 1) * r.step) =
    record { over = c.requires.over; later = c.requires.later; apart = omega (arith, c.if-step-eq0.false); short = λ t _. short t } in
    walks_all es g.margin c.args.start (end_of es) r.entry r.needed r.step (r.first + (r.count - 1) * r.step) going (r.count - 1) r.first c.args.count rest
    c.requires.start (omega (arith, bound, c.margin.ensures, c.if-run-step.false)) (omega (arith, c.if-step-eq0.false))

pub returns-then-gaps-more : goal.returns-then-gaps-more
unfolding end_of
returns-then-gaps-more c = λ rest.
    let g = c.args.forest.now in
    let es = g.entries in
    let r = c.args.run.now in
    let bound = c.latest_end-bound.ensures ∙ ap (λ (e : Entry). latest_end e e.end (Some r.first)) c.get-entry.ensures.value in
    let need : c.get.result.now.need ≡ (entry_at es r.needed).need = ap (λ (e : Entry). e.need) c.get.ensures.value in
    let long : LongFrom (entry_at es r.entry) (entry_at es r.needed).need c.in-Some.top =
    subst (λ (e : Entry). LongFrom e (entry_at es r.needed).need c.in-Some.top) c.get-entry.ensures.value
    (subst (λ n. LongFrom c.get-entry.result.now n c.in-Some.top) need c.in-Some.ensures.found.0) in
    let going : Going es g.margin c.args.start (end_of es) r.entry r.needed r.step c.in-Some.top =
    record { over = c.requires.over; later = c.requires.later; apart = omega (arith, c.if-step-eq0.false); short = long.below } in
    walks_into es g.margin c.args.start (end_of es) r.entry r.needed r.step c.in-Some.top going c.gaps_to-gaps.result (r.count - 1) r.first c.args.count rest
    c.requires.start (omega (arith, bound, c.margin.ensures, c.if-run-step.false)) c.gaps_to-gaps.ensures.least c.if-gaps-more.true
    (long.above (r.first + c.gaps_to-gaps.result * r.step) c.gaps_to-gaps.ensures.reached)

pub returns-else-gaps-more : goal.returns-else-gaps-more
unfolding end_of
returns-else-gaps-more c = λ rest.
    let g = c.args.forest.now in
    let es = g.entries in
    let r = c.args.run.now in
    let bound = c.latest_end-bound.ensures ∙ ap (λ (e : Entry). latest_end e e.end (Some r.first)) c.get-entry.ensures.value in
    let need : c.get.result.now.need ≡ (entry_at es r.needed).need = ap (λ (e : Entry). e.need) c.get.ensures.value in
    let long : LongFrom (entry_at es r.entry) (entry_at es r.needed).need c.in-Some.top =
    subst (λ (e : Entry). LongFrom e (entry_at es r.needed).need c.in-Some.top) c.get-entry.ensures.value
    (subst (λ n. LongFrom c.get-entry.result.now n c.in-Some.top) need c.in-Some.ensures.found.0) in
    let going : Going es g.margin c.args.start (end_of es) r.entry r.needed r.step c.in-Some.top =
    record { over = c.requires.over; later = c.requires.later; apart = omega (arith, c.if-step-eq0.false); short = long.below } in
    let q = c.gaps_to-gaps.result in
    let most : r.step * (r.count - 1) ≤ r.step * q = mul-le-mul_left r.step c.if-gaps-more.false in
    walks_all es g.margin c.args.start (end_of es) r.entry r.needed r.step c.in-Some.top going (r.count - 1) r.first c.args.count rest
    c.requires.start (omega (arith, bound, c.margin.ensures, c.if-run-step.false))
    (elim c.gaps_to-gaps.ensures.least [ inl none ↦ absurd (omega (arith, c.if-more-eq0.false, c.if-gaps-more.false, none)) | inr low ↦ omega (arith, most, low) ])
