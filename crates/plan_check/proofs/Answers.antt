-- The laws of answers: the test of a wake-up's force is Forced, there is one answer, and what gets Yes holds.
use Rattle.std.proofs.Common.{◌≡◌, ℕ, suc, zero, ◌+◌, ◌-◌, ◌*◌, ◌<◌, ◌≤◌, ◌⊎◌, ◌&&◌, ◌++◌, Bool, true, false, cond, List, [], ◌∷◌, Option, Some, None, length, nat_le, nat_lt, refl, sym, ap, ◌∙◌, subst, arith, inl, inr}
use Rattle.std.proofs.lemmas.Bool.Decides.{nat_tests}
use Rattle.std.proofs.lemmas.Bool.{and_from, and_parts, cases_lt}
use Rattle.base_moment.specs.declared.moment.TheConstants.{LAST}
use Rattle.plan_forest.specs.{declared.entry.Entry.Entry, Over.is_over}
use Rattle.plan_forest.specs.Forest.{Forest, end_of, entry_at}
use Rattle.plan_rule.specs.{Asks.with_asks, Least.IsLeastAndLatest, Plans.IsPlan, Schedule.RisesStrictly, Unkeepable.Unkeepable, declared.force.Force.Force, declared.run.Run.Run}
use Rattle.plan_rule.specs.Forced.{AllForced, Forced, bound}
use Rattle.plan_rule.specs.Runs.{all_wakes, moments_of, wakes_of}
use Rattle.plan_rule.proofs.{Joining.InOrder, Joining.order_plan, Keeping.forced_is_least, Keeping.unkeepable, Tail.moments_with_asks}
use Rattle.plan_certificate.specs.declared.cert.Body.{Body}
use Rattle.plan_certificate.specs.declared.cert.Body.TheVariants as body
use Rattle.plan_check.specs.{declared.answer.Answer.Answer, declared.answer.Cause.Cause, code.Steps.AllFit, Fit.CanBeJudged}
use Rattle.plan_check.specs.declared.answer.Answer.TheVariants.{No, Yes}
use Rattle.plan_check.specs.declared.answer.Cause.TheVariants.{NotForced, NotKept, NotRising, NotUnkeepable}
use Rattle.plan_check.specs.Answer.{EntryIsKept, IsBodyAnswer, IsPairAnswer, IsWalkAnswer, first_fault}
use Rattle.plan_check.specs.Laws.{AnswerLaw, ClaimHolds, ForcedTestLaw, YesLaw}
use Rattle.plan_check.specs.Walk.{fault, is_forced, rises}

pub forced_parts : (es : List Entry) (margin s : ℕ) (ends : ℕ → ℕ) (prev : Option ℕ) (t entry needed : ℕ) → is_forced es margin s ends prev t entry needed ≡ true → Forced es margin s ends prev t entry needed
unfolding is_forced
forced_parts es margin s ends prev t entry needed yes' =
    let need = (entry_at es needed).need in
    let x = bound es ends prev entry in
    let one = and_parts (is_over es entry needed) (nat_lt s need && (nat_lt x need && nat_le x (t + margin))) yes' in
    let two = and_parts (nat_lt s need) (nat_lt x need && nat_le x (t + margin)) one.1 in
    let three = and_parts (nat_lt x need) (nat_le x (t + margin)) two.1 in
    record {
      over = one.0;
      later = (let l : nat_lt s need ≡ true = two.0 in grind (arith, nat_tests));
      short = (let l : nat_lt x need ≡ true = three.0 in grind (arith, nat_tests));
      due = (let l : nat_le x (t + margin) ≡ true = three.1 in grind (arith, nat_tests));
    }

pub forced_tests : (es : List Entry) (margin s : ℕ) (ends : ℕ → ℕ) (prev : Option ℕ) (t entry needed : ℕ) → Forced es margin s ends prev t entry needed → is_forced es margin s ends prev t entry needed ≡ true
unfolding is_forced
forced_tests es margin s ends prev t entry needed f =
    let need = (entry_at es needed).need in
    let x = bound es ends prev entry in
    let a : s < need = f.later in
    let b : x < need = f.short in
    let c : x ≤ t + margin = f.due in
    and_from (is_over es entry needed) (nat_lt s need && (nat_lt x need && nat_le x (t + margin))) f.over
    (and_from (nat_lt s need) (nat_lt x need && nat_le x (t + margin)) (grind (arith, nat_tests))
    (and_from (nat_lt x need) (nat_le x (t + margin)) (grind (arith, nat_tests)) (grind (arith, nat_tests))))

pub forced_test : ForcedTestLaw
forced_test es margin s ends prev t entry needed = (forced_parts es margin s ends prev t entry needed, forced_tests es margin s ends prev t entry needed)

-- One answer: a No names the fault of the walk, or else the lowest entry that is not kept.

abbrev NamesEntry : Forest → ℕ → List Force → Cause → Type 0
NamesEntry g s ws cause = (i : ℕ) × (cause ≡ NotKept i) × (first_fault g s ws ≡ None) × (EntryIsKept g s ws i → ⊥) × ((j : ℕ) → j < i → EntryIsKept g s ws j)

walk_no : (g : Forest) (s : ℕ) (ws : List Force) (cause : Cause) → IsWalkAnswer g s ws (No cause) → (first_fault g s ws ≡ Some cause) ⊎ NamesEntry g s ws cause
walk_no g s ws (NotKept i) says = inr (i, refl, says.0, says.1.0, says.1.1)
walk_no g s ws _ says = inl says

both_faults : (found : Option Cause) (c d : Cause) → found ≡ Some c → found ≡ Some d → c ≡ d
both_faults found c d e f = cc

no_and_some : (found : Option Cause) (c : Cause) → found ≡ None → found ≡ Some c → ⊥
no_and_some found c e f = cc

same_entry : (g : Forest) (s : ℕ) (ws : List Force) (c d : Cause) → NamesEntry g s ws c → NamesEntry g s ws d → c ≡ d
same_entry g s ws c d x y =
    elim (cases_lt x.0 y.0) [
      | inl less ↦ absurd (x.3 (y.4 x.0 less))
      | inr more ↦ elim (cases_lt y.0 x.0) [
        | inl less ↦ absurd (y.3 (x.4 y.0 less))
        | inr no_more ↦ let same : x.0 ≡ y.0 = omega arith in x.1 ∙ ap NotKept same ∙ sym y.1
      ]
    ]

not_yes : (g : Forest) (s : ℕ) (ws : List Force) (c : Cause) → IsWalkAnswer g s ws Yes → IsWalkAnswer g s ws (No c) → ⊥
not_yes g s ws c yes' no' =
    elim (walk_no g s ws c no') [
      | inl found ↦ no_and_some (first_fault g s ws) c yes'.0 found
      | inr entry ↦ entry.3 (yes'.1 entry.0)
    ]

one_walk_answer : (g : Forest) (s : ℕ) (ws : List Force) (x y : Answer) → IsWalkAnswer g s ws x → IsWalkAnswer g s ws y → x ≡ y
one_walk_answer g s ws Yes Yes a b = refl
one_walk_answer g s ws Yes (No d) a b = absurd (not_yes g s ws d a b)
one_walk_answer g s ws (No c) Yes a b = absurd (not_yes g s ws c b a)
one_walk_answer g s ws (No c) (No d) a b =
    ap No (elim (walk_no g s ws c a) [
      | inl found ↦ elim (walk_no g s ws d b) [
        | inl found' ↦ both_faults (first_fault g s ws) c d found found'
        | inr entry ↦ absurd (no_and_some (first_fault g s ws) c entry.2 found)
      ]
      | inr entry ↦ elim (walk_no g s ws d b) [
        | inl found ↦ absurd (no_and_some (first_fault g s ws) d entry.2 found)
        | inr entry' ↦ same_entry g s ws c d entry entry'
      ]
    ])

pair_no : (g : Forest) (s entry needed : ℕ) (cause : Cause) → IsPairAnswer g s entry needed (No cause) → (cause ≡ NotUnkeepable) × (Unkeepable g.entries g.margin s (end_of g.entries) entry needed → ⊥)
pair_no g s entry needed NotUnkeepable says = (refl, says)
pair_no g s entry needed _ says = absurd says

one_pair_answer : (g : Forest) (s entry needed : ℕ) (x y : Answer) → IsPairAnswer g s entry needed x → IsPairAnswer g s entry needed y → x ≡ y
one_pair_answer g s entry needed Yes Yes a b = refl
one_pair_answer g s entry needed Yes (No d) a b = absurd ((pair_no g s entry needed d b).1 a)
one_pair_answer g s entry needed (No c) Yes a b = absurd ((pair_no g s entry needed c a).1 b)
one_pair_answer g s entry needed (No c) (No d) a b = ap No ((pair_no g s entry needed c a).0 ∙ sym (pair_no g s entry needed d b).0)

one_body_answer : (g : Forest) (s : ℕ) (b : Body) (x y : Answer) → IsBodyAnswer g s b x → IsBodyAnswer g s b y → x ≡ y
one_body_answer g s (body.Runs rs) x y = one_walk_answer g s (all_wakes rs) x y
one_body_answer g s (body.Unkeepable entry needed) x y = one_pair_answer g s entry needed x y

pub one_answer : AnswerLaw
one_answer g c x y = one_body_answer g c.start c.body x y

-- Yes: a walk that finds no fault goes over moments that rise, each forced.

abbrev pub from_behind : ℕ → Option ℕ → ℕ
from_behind s None = s
from_behind s (Some u) = u + 1

rises_parts : (s : ℕ) (prev : Option ℕ) (t : ℕ) → rises s prev t ≡ true → (s ≤ t) × (from_behind s prev ≤ t)
unfolding rises
rises_parts s None t yes' = let l : nat_le s t ≡ true = yes' in let h : s ≤ t = grind (arith, nat_tests) in (h, h)
rises_parts s (Some u) t yes' =
    let parts = and_parts (nat_le s t) (nat_lt u t) yes' in
    let l : nat_le s t ≡ true = parts.0 in
    let m : nat_lt u t ≡ true = parts.1 in
    let h : u < t = grind (arith, nat_tests) in
    (grind (arith, nat_tests), omega arith)

pub first_rises : (s : ℕ) (prev : Option ℕ) (t : ℕ) → rises s prev t ≡ true → s ≤ t
first_rises s prev t yes' = (rises_parts s prev t yes').0

-- the first of two tests that fails gives a fault
no_fault : (a b : Bool) (c d : Cause) (rest : Option Cause) → cond a (cond b rest (Some c)) (Some d) ≡ None → (a ≡ true) × ((b ≡ true) × (rest ≡ None))
no_fault true true c d rest none = (refl, (refl, none))
no_fault true false c d rest none = absurd (no_and_some None c refl (sym none))
no_fault false b c d rest none = absurd (no_and_some None d refl (sym none))

pub faultless :
    (es : List Entry) (margin s : ℕ) (ends : ℕ → ℕ) (prev : Option ℕ) (k : ℕ) (ws : List Force) → fault es margin s ends prev k ws ≡ None →
    RisesStrictly (from_behind s prev) (moments_of ws) × AllForced es margin s ends prev (moments_of ws)
unfolding fault
faultless es margin s ends prev k [] none = (tt, tt)
faultless es margin s ends prev k (w ∷ ws) none =
    let parts = no_fault (rises s prev w.at) (is_forced es margin s ends prev w.at w.entry w.needed) (NotForced k) (NotRising k) (fault es margin s ends (Some w.at) (k + 1) ws) none in
    let rest = faultless es margin s ends (Some w.at) (k + 1) ws parts.1.1 in
    (((rises_parts s prev w.at parts.0).1, rest.0), ((w.entry, w.needed, forced_parts es margin s ends prev w.at w.entry w.needed parts.1.0), rest.1))

abbrev AllAtMost : ℕ → List Force → Type 0
AllAtMost b [] = Unit {0}
AllAtMost b (w ∷ ws) = (w.at ≤ b) × AllAtMost b ws

append_at_most : (b : ℕ) (ws vs : List Force) → AllAtMost b ws → AllAtMost b vs → AllAtMost b (ws ++ vs)
append_at_most b [] vs p q = q
append_at_most b (w ∷ ws) vs p q = (p.0, append_at_most b ws vs p.1 q)

run_at_most : (b first step n entry needed : ℕ) → first + n * step ≤ b → AllAtMost b (wakes_of first step (suc n) entry needed)
unfolding wakes_of
run_at_most b first step zero entry needed h = (omega arith, tt)
run_at_most b first step (suc n) entry needed h = (omega arith, run_at_most b (first + step) step n entry needed (omega arith))

runs_at_most : (n : ℕ) (rs : List Run) → AllFit n rs → AllAtMost LAST (all_wakes rs)
runs_at_most n [] fit = tt
runs_at_most n (r ∷ rs) fit =
    let some : 0 < r.count = fit.0.moments.some in
    let count : suc (r.count - 1) ≡ r.count = omega arith in
    append_at_most LAST (wakes_of r.first r.step r.count r.entry r.needed) (all_wakes rs)
    (subst (λ k. AllAtMost LAST (wakes_of r.first r.step k r.entry r.needed)) count (run_at_most LAST r.first r.step (r.count - 1) r.entry r.needed fit.0.moments.last))
    (runs_at_most n rs fit.1)

in_order : (from low : ℕ) (ws : List Force) → low ≤ from → RisesStrictly from (moments_of ws) → AllAtMost LAST ws → InOrder low (moments_of ws)
in_order from low [] h rises most = tt
in_order from low (w ∷ ws) h rises most = let l : from ≤ w.at = rises.0 in (omega arith, (most.0, in_order (w.at + 1) w.at ws (omega arith) rises.1 most.1))

yes_of_walk : (g : Forest) (s : ℕ) (rs : List Run) → AllFit (length g.entries) rs → IsWalkAnswer g s (all_wakes rs) Yes → IsLeastAndLatest g.entries g.margin s (end_of g.entries) (moments_of (all_wakes rs))
yes_of_walk g s rs fit answer =
    let es = g.entries in
    let ts = moments_of (all_wakes rs) in
    let plan = with_asks es g.margin s (end_of es) ts in
    let walk = faultless es g.margin s (end_of es) None 1 (all_wakes rs) answer.0 in
    let same = moments_with_asks es g.margin s (end_of es) ts in
    let order : IsPlan s plan = order_plan s plan (subst (InOrder s) (sym same) (in_order s s (all_wakes rs) (omega arith) walk.0 (runs_at_most (length es) rs fit))) in
    subst (IsLeastAndLatest es g.margin s (end_of es)) same
    (forced_is_least es g.margin s (end_of es) plan order (λ i. answer.1 i) (subst (AllForced es g.margin s (end_of es) None) (sym same) walk.1))

pub yes_of_body : (g : Forest) (s : ℕ) (b : Body) → CanBeJudged g b → IsBodyAnswer g s b Yes → ClaimHolds g s b
yes_of_body g s (body.Runs rs) fit answer = (yes_of_walk g s rs fit.0 answer, λ i. answer.1 i)
yes_of_body g s (body.Unkeepable entry needed) fit answer = unkeepable g.entries g.margin s (end_of g.entries) entry needed answer

pub yes_holds : YesLaw
yes_holds g c fit answer = yes_of_body g c.start c.body fit answer
