-- Taking wake-ups from the list to come: who leads of the first n, and what taking the head leaves.
use Rattle.std.proofs.Common.{◌≡◌, ℕ, ◌-◌, List, [], ◌∷◌, length, Option, Some, None, sym, ap, ◌∙◌, subst, arith, inl, inr}
use Rattle.std.proofs.lemmas.Bool.{cases_lt}
use Rattle.plan_rule.specs.{declared.force.Force.Force, Unkeepable.AllKeepable}
use Rattle.plan_schedule.specs.{code.Scanning.IsLeader, code.Scanning.LeadsBelow, Courses.IsToCome, Prospect.Prospect, Prospect.terms_of, Given.GivesHead, Terms.AreLed, Terms.Leads, Terms.lasts_until, Forces.AreForces}
use Rattle.plan_forest.specs.{Forest.Forest, Forest.end_of, Push.IsForest}
use Rattle.plan_needs.specs.Carried.{CarriedNeed, IsCarried}
use Rattle.plan_schedule.proofs.{Bridge.Shows, Bridge.forces_led, Bridge.led_forces, Bridge.need_past, Bridge.shows_of, Leading.one_leads, Leading.one_led, Leading.same_force}

pub leader_of : (o : Prospect) (prev : Option ℕ) (best : Option ℕ) → LeadsBelow (terms_of o) prev (length o.loads) best → IsLeader (terms_of o) prev best
leader_of o prev None below = λ i. elim (cases_lt i (length o.loads)) [ inl within ↦ below i within | inr past ↦ let z = need_past o i past in omega arith ]
leader_of o prev (Some f) below = record {
  short = below.1.0;
  first = λ i short. elim (cases_lt i (length o.loads)) [ inl within ↦ below.1.1 i within short | inr past ↦ absurd (let z = need_past o i past in omega arith) ];
}

pub gives_none : (o : Prospect) (prev : Option ℕ) → IsLeader (terms_of o) prev None → GivesHead (IsToCome (record { prospect = o; last = prev })) (IsToCome (record { prospect = o; last = prev })) None
unfolding IsToCome
gives_none o prev none = (none, (none, λ xs led. one_led (terms_of o) prev xs [] led none))

pub gives_head :
    (o : Prospect) (prev : Option ℕ) (v : ℕ) (x : Force) → Leads (terms_of o) prev x.entry → v ≡ lasts_until (terms_of o) prev x.entry - (terms_of o).margin → x.at ≡ v → x.needed ≡ (terms_of o).from x.entry →
    GivesHead (IsToCome (record { prospect = o; last = prev })) (IsToCome (record { prospect = o; last = Some v })) (Some x)
unfolding IsToCome
gives_head o prev v x leads at is needed =
    (λ rest led. (leads, (is ∙ at, (needed, subst (λ w. AreLed (terms_of o) (Some w) rest) (sym is) led))), split) where
      split : (xs : List Force) → AreLed (terms_of o) prev xs → (rest : List Force) × ((xs ≡ x ∷ rest) × AreLed (terms_of o) (Some v) rest)
      split [] led = absurd (let s = leads.short in let l = led x.entry in omega arith)
      split (y ∷ ys) led =
          let entry : y.entry ≡ x.entry = one_leads (terms_of o) prev y.entry x.entry led.0 leads in
          let moment : y.at ≡ v = led.1.0 ∙ (ap (λ f. lasts_until (terms_of o) prev f - (terms_of o).margin) entry ∙ sym at) in
          let for' : y.needed ≡ x.needed = led.1.1.0 ∙ (ap (terms_of o).from entry ∙ sym needed) in
          (ys, (ap (λ z. z ∷ ys) (same_force y x (moment ∙ sym is) entry for'), subst (λ w. AreLed (terms_of o) (Some w) ys) moment led.1.1.1))

-- the list that a new schedule stands for is that of the forces
pub comes_forces :
    (o : Prospect) (g : Forest) (loads : List CarriedNeed) (s : ℕ) → o ≡ record { forest = g; loads = loads } → IsForest g → IsCarried g s loads → AllKeepable g s (end_of g.entries) → (xs : List Force) →
    (IsToCome (record { prospect = o; last = None }) xs → AreForces g.entries g.margin s (end_of g.entries) None xs)
    × (AreForces g.entries g.margin s (end_of g.entries) None xs → IsToCome (record { prospect = o; last = None }) xs)
unfolding IsToCome
comes_forces o g loads s is forest carried keepable xs =
    let shows : Shows g s (terms_of o) = subst (λ (p : Prospect). Shows g s (terms_of p)) (sym is) (shows_of (record { forest = g; loads = loads }) s forest carried) in
    (led_forces g s (terms_of o) shows keepable None xs, forces_led g s (terms_of o) shows keepable None xs)
