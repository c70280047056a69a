-- The list of forces: there is one where there is a schedule, and no other.
use Rattle.std.proofs.Common.{◌≡◌, ◌==◌, ℕ, zero, suc, ◌+◌, ◌-◌, ◌<◌, ◌≤◌, ◌&&◌, Bool, true, false, List, [], ◌∷◌, Option, Some, None, nat_lt, refl, sym, ap, ◌∙◌, subst, arith, inl, inr}
use Rattle.std.proofs.lemmas.{Bool.and_from, Bool.cases_Bool, Bool.cases_eq, Bool.cases_lt, Bool.Decides.nat_tests}
use Rattle.plan_forest.specs.{declared.entry.Entry.Entry, Carried.IsFrom, Carried.carried, Forest.Forest, Forest.end_of, Forest.entry_at, Over.is_over}
use Rattle.plan_forest.proofs.Carrying.{and_left, and_right, carried_at_least}
use Rattle.plan_rule.specs.{Forced.bound, Schedule.IsNextMoment, Schedule.IsSchedule, Unkeepable.AllKeepable, declared.force.Force.Force, Runs.moments_of}
use Rattle.plan_rule.proofs.{Existence.there_is_one, Keeping.end_below_bound, Next.can_be_led, Schedule.schedule_is_best}
use Rattle.plan_schedule.specs.{Forces.AreForced, Forces.AreForces, Forces.AreLowest, Forces.IsForce, Laws.ForcesLaw, Laws.LowestLaw}
use Rattle.plan_schedule.proofs.{Bridge.carrier, Bridge.forces_schedule, Bridge.one_from, Leading.same_force}

pub one_force : (es : List Entry) (margin s : ℕ) (ends : ℕ → ℕ) (prev : Option ℕ) (x y : Force) → IsForce es margin s ends prev x → IsForce es margin s ends prev y → x ≡ y
one_force es margin s ends prev x y a b =
    let p = a.least y.entry b.short in
    let q = b.least x.entry a.short in
    let l = a.lowest y.entry b.short (omega arith) in
    let m = b.lowest x.entry a.short (omega arith) in
    let entry : x.entry ≡ y.entry = omega arith in
    let at : x.at ≡ y.at = a.moment ∙ (ap (λ i. bound es ends prev i - margin) entry ∙ sym b.moment) in
    let needed : x.needed ≡ y.needed = one_from es s y.entry x.needed y.needed (subst (λ i. IsFrom es s i x.needed) entry a.from) b.from in
    same_force x y at entry needed

pub one_list : (es : List Entry) (margin s : ℕ) (ends : ℕ → ℕ) (prev : Option ℕ) (xs ys : List Force) → AreForces es margin s ends prev xs → AreForces es margin s ends prev ys → xs ≡ ys
one_list es margin s ends prev [] [] a b = refl
one_list es margin s ends prev [] (y ∷ ys) a b = let s' = b.0.short in let l = a y.entry in absurd (omega arith)
one_list es margin s ends prev (x ∷ xs) [] a b = let s' = a.0.short in let l = b x.entry in absurd (omega arith)
one_list es margin s ends prev (x ∷ xs) (y ∷ ys) a b =
    let head : x ≡ y = one_force es margin s ends prev x y a.0 b.0 in
    let rest : xs ≡ ys = one_list es margin s ends (Some y.at) xs ys (subst (λ (z : Force). AreForces es margin s ends (Some z.at) xs) head a.1) b.1 in
    cc

-- the lowest number that passes a test
find : (p : ℕ → Bool) (d k n : ℕ) → k + d ≡ n → ((i : ℕ) → i < k → p i ≡ true → ⊥) → p n ≡ true → (m : ℕ) × ((p m ≡ true) × ((i : ℕ) → p i ≡ true → m ≤ i))
find p zero k n is none passes = (n, (passes, λ i y. elim (cases_lt i n) [ inl less ↦ absurd (none i (omega arith) y) | inr more ↦ more ]))
find p (suc d) k n is none passes =
    elim (cases_Bool (p k)) [
      | inl here ↦ (k, (here, λ i y. elim (cases_lt i k) [ inl less ↦ absurd (none i less y) | inr more ↦ more ]))
      | inr fails ↦ find p d (suc k) n (omega arith) (λ i h y. elim (cases_eq i k) [
        | inl same ↦ absurd (let e : p i ≡ p k = ap p same in let bad : true ≡ false = sym y ∙ (e ∙ fails) in cc)
        | inr other ↦ none i (omega arith) y
      ]) passes
    ]

lowest : (p : ℕ → Bool) (n : ℕ) → p n ≡ true → (m : ℕ) × ((p m ≡ true) × ((i : ℕ) → p i ≡ true → m ≤ i))
lowest p n passes = find p n 0 n (omega arith) (λ i h y. omega arith) passes

from_exists : (es : List Entry) (s i : ℕ) → 0 < carried es s i → (n : ℕ) × IsFrom es s i n
from_exists es s i some =
    let found = carrier es s i some in
    let p : ℕ → Bool = λ f. is_over es i f && ((entry_at es f).need == carried es s i) in
    let least = lowest p found.0 (and_from (is_over es i found.0) ((entry_at es found.0).need == carried es s i) found.1 (let e : (entry_at es found.0).need ≡ carried es s i = found.3 in grind (arith, nat_tests))) in (
      least.0,
      record {
        over = and_left (is_over es i least.0) _ least.1.0;
        need = (let e : ((entry_at es least.0).need == carried es s i) ≡ true = and_right (is_over es i least.0) _ least.1.0 in grind (arith, nat_tests));
        lowest = λ f over need. least.1.1 f (and_from (is_over es i f) ((entry_at es f).need == carried es s i) over (grind (arith, nat_tests)));
      },
    )

force_exists : (es : List Entry) (margin s : ℕ) (ends : ℕ → ℕ) (prev : Option ℕ) (w : ℕ) → IsNextMoment es margin s ends prev w → (x : Force) × (IsForce es margin s ends prev x × (x.at ≡ w))
force_exists es margin s ends prev w next =
    let b : ℕ → ℕ = bound es ends prev in
    let p : ℕ → Bool = λ i. nat_lt (b i) (carried es s i) && (b i == b next.entry) in
    let s0 = next.short in
    let least = lowest p next.entry (and_from (nat_lt (b next.entry) (carried es s next.entry)) (b next.entry == b next.entry) (grind (arith, nat_tests)) (grind (arith, nat_tests))) in
    let f = least.0 in
    let short : b f < carried es s f = (let e = and_left (nat_lt (b f) (carried es s f)) _ least.1.0 in grind (arith, nat_tests)) in
    let same : b f ≡ b next.entry = (let e = and_right (nat_lt (b f) (carried es s f)) _ least.1.0 in grind (arith, nat_tests)) in
    let needed = from_exists es s f (omega arith) in (
      record { at = w; entry = f; needed = needed.0 },
      (
        record {
          short = short;
          moment = next.moment ∙ ap (λ k. k - margin) (sym same);
          least = λ i h. let l = next.earliest i h in (let k : b f ≤ b i = omega arith in k);
          lowest = λ i h e. least.1.1 i (and_from (nat_lt (b i) (carried es s i)) (b i == b next.entry) (grind (arith, nat_tests)) (let k : b i ≡ b next.entry = e ∙ same in grind (arith, nat_tests)));
          from = needed.1;
        },
        refl,
      ),
    )

forces_exist : (es : List Entry) (margin s : ℕ) (ends : ℕ → ℕ) (prev : Option ℕ) (ts : List ℕ) → IsSchedule es margin s ends prev ts → (xs : List Force) × AreForces es margin s ends prev xs
forces_exist es margin s ends prev [] schedule = ([], schedule)
forces_exist es margin s ends prev (t ∷ ts) schedule =
    let first = force_exists es margin s ends prev t schedule.0 in
    let rest = forces_exist es margin s ends (Some t) ts schedule.1 in
    (first.0 ∷ rest.0, (first.1.0, subst (λ v. AreForces es margin s ends (Some v) rest.0) (sym first.1.1) rest.1))

forces_forced : (es : List Entry) (margin s : ℕ) (ends : ℕ → ℕ) (prev : Option ℕ) (xs : List Force) → AreForces es margin s ends prev xs → AreForced es margin s ends prev xs
forces_forced es margin s ends prev [] forces = tt
forces_forced es margin s ends prev (x ∷ xs) forces =
    let short = forces.0.short in
    let need : (entry_at es x.needed).need ≡ carried es s x.entry = forces.0.from.need in
    let found = carrier es s x.entry (omega arith) in
    let later : s < (entry_at es found.0).need = found.2 in
    let is : (entry_at es found.0).need ≡ carried es s x.entry = found.3 in
    let moment = forces.0.moment in (
      record {
        over = forces.0.from.over;
        later = (let l : s < (entry_at es x.needed).need = omega arith in l);
        short = (let l : bound es ends prev x.entry < (entry_at es x.needed).need = omega arith in l);
        due = (let l : bound es ends prev x.entry ≤ x.at + margin = omega arith in l);
      },
      forces_forced es margin s ends (Some x.at) xs forces.1,
    )

-- where no pair is unkeepable, there is one list of forces, and its moments are least and latest
pub forces_are_best : ForcesLaw
forces_are_best g s forest keepable =
    let es = g.entries in
    let ends = end_of es in
    let schedule = there_is_one g s ends forest keepable in
    let forces = forces_exist es g.margin s ends None schedule.0 schedule.1 in
    let best = schedule_is_best g s ends forest keepable (moments_of forces.0) (forces_schedule es g.margin s ends None forces.0 forces.1) in
    (forces.0, (forces.1, (λ ys are. one_list es g.margin s ends None ys forces.0 are forces.1, (forces_forced es g.margin s ends None forces.0 forces.1, (best.0, best.1.1.1)))))

-- each force is the lowest pair that is Forced at its wake-up: whoever is Forced there falls short, by no later bound
forces_lowest :
    (g : Forest) (s : ℕ) (ends : ℕ → ℕ) → AllKeepable g s ends → (prev : Option ℕ) (xs : List Force) → AreForces g.entries g.margin s ends prev xs →
    AreLowest g.entries g.margin s ends prev xs
forces_lowest g s ends keepable prev [] forces = tt
forces_lowest g s ends keepable prev (x ∷ xs) forces =
    let es = g.entries in
    let first = forces.0 in
    let short = first.short in
    let from : ends x.entry ≤ bound es ends prev x.entry = end_below_bound es ends prev x.entry in
    let led = can_be_led g s ends keepable x.entry (omega arith) in
    let room : s + g.margin ≤ ends x.entry = led.room in
    let moment = first.moment in (
      λ i f other.
          let carries = carried_at_least es s i f other.over other.later in
          let lacks = other.short in
          let falls : bound es ends prev i < carried es s i = omega arith in
          let near = first.least i falls in
          let due = other.due in
          let same : bound es ends prev i ≡ bound es ends prev x.entry = omega arith in
          first.lowest i falls same,
      (first.from, forces_lowest g s ends keepable (Some x.at) xs forces.1),
    )

pub forces_are_lowest : LowestLaw
forces_are_lowest g s forest keepable xs forces = forces_lowest g s (end_of g.entries) keepable None xs forces
