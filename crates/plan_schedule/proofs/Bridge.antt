-- From a forest to its terms: where no pair is unkeepable, the forces of the forest are those that lead by its terms.
use Rattle.std.proofs.Common.{◌≡◌, ◌==◌, ℕ, zero, suc, ◌+◌, ◌-◌, ◌<◌, ◌≤◌, true, List, [], ◌∷◌, length, max, Option, Some, None, refl, sym, ap, ◌∙◌, subst, arith, inl, inr}
use Rattle.std.specs.Option.{unwrap_or}
use Rattle.std.proofs.lemmas.{Bool.cases_lt, Bool.cond-true, Bool.Decides.nat_tests, List.get_or_past}
use Rattle.plan_forest.specs.{declared.entry.Entry.Entry, Carried.IsFrom, Carried.carried, Forest.Forest, Forest.end_of, Forest.entry_at, Over.Over, Over.is_over, Push.IsForest, Renewal.capped, Renewal.renewal}
use Rattle.plan_forest.proofs.{Carrying.carried_at_least, Carrying.carried_is_of, Carrying.or_parts, Chains.ParentsFirst, Chains.cases_Option, Chains.over_child, Chains.over_root, Entries.entry_at_past, Placed.parents_first}
use Rattle.plan_rule.specs.{Forced.bound, Forced.latest_end, Unkeepable.AllKeepable, Schedule.IsSchedule, declared.force.Force.Force, Runs.moments_of}
use Rattle.plan_rule.proofs.{Keeping.end_below_bound, Lists.need_within, Next.can_be_led}
use Rattle.plan_needs.specs.Carried.{CarriedNeed, IsCarried, NamesFrom, load_at}
use Rattle.plan_schedule.specs.{Forces.AreForces, code.Sound.IsInSight, code.Sound.TermsAreSound, Prospect.Prospect, Prospect.terms_of, Terms.AreLed, Terms.Terms, Terms.lasts_until}
use Rattle.plan_schedule.proofs.Leading.{ahead}

-- the entry whose need is carried
pub carrier : (es : List Entry) (s i : ℕ) → 0 < carried es s i → (f : ℕ) × Over es i f × (s < (entry_at es f).need) × ((entry_at es f).need ≡ carried es s i)
carrier es s i some =
    let found = carried_is_of es s i (carried es s i - 1) (omega arith) in
    let most = carried_at_least es s i found.0 found.1 found.2 in
    let more : carried es s i - 1 < (entry_at es found.0).need = found.3 in
    (found.0, found.1, found.2, (let e : (entry_at es found.0).need ≡ carried es s i = omega arith in e))

capped_short : (c : Option ℕ) (x need : ℕ) → ((m : ℕ) → c ≡ Some m → need ≤ m) → (capped c x < need → capped c x ≡ x) × (x < need → capped c x ≡ x)
unfolding capped
capped_short None x need h = (λ _. refl, λ _. refl)
capped_short (Some m) x need h = let k : need ≤ m = h m refl in (λ l. omega arith, λ l. omega arith)

-- what terms have to show of a forest
pub record Shows (g : Forest) (s : ℕ) (t : Terms) : Type 0 where
  pub end : (i : ℕ) → t.end i ≡ end_of g.entries i
  pub step : (i : ℕ) → t.step i ≡ (entry_at g.entries i).step
  pub need : (i : ℕ) → t.need i ≡ carried g.entries s i
  pub from : (i : ℕ) → 0 < carried g.entries s i → IsFrom g.entries s i (t.from i)
  pub margin : t.margin ≡ g.margin

bound_after : (es : List Entry) (v i : ℕ) → (entry_at es i).renewable ≡ true → bound es (end_of es) (Some v) i ≡ max (end_of es i) (capped (entry_at es i).ceiling (v + (entry_at es i).step))
unfolding bound latest_end renewal
bound_after es v i renewable = cond-true (entry_at es i).renewable _ _ renewable

bound_before : (es : List Entry) (i : ℕ) → bound es (end_of es) None i ≡ end_of es i
unfolding bound latest_end
bound_before es i = refl

-- where the bound falls short, or the deadline, they are the same
pub same_bound :
    (g : Forest) (s : ℕ) (t : Terms) → Shows g s t → AllKeepable g s (end_of g.entries) → (prev : Option ℕ) (i : ℕ) →
    (bound g.entries (end_of g.entries) prev i < carried g.entries s i → bound g.entries (end_of g.entries) prev i ≡ lasts_until t prev i)
    × (lasts_until t prev i < t.need i → bound g.entries (end_of g.entries) prev i ≡ lasts_until t prev i)
same_bound g s t shows keepable None i =
    let b = bound_before g.entries i in let e = shows.end i in
    (λ h. b ∙ sym e, λ h. b ∙ sym e)
same_bound g s t shows keepable (Some v) i =
    let es = g.entries in
    let end = shows.end i in
    let step = shows.step i in
    let need = shows.need i in
    let below = end_below_bound es (end_of es) (Some v) i in (
      λ h.
          let short : end_of es i < carried es s i = omega arith in
          let ok = can_be_led g s (end_of g.entries) keepable i short in
          let is = bound_after es v i ok.renewable in
          let c = capped_short (entry_at es i).ceiling (v + (entry_at es i).step) (carried es s i) ok.ceiling in
          let k = c.0 (omega arith) in
          omega arith,
      λ h.
          let short : end_of es i < carried es s i = omega arith in
          let ok = can_be_led g s (end_of g.entries) keepable i short in
          let is = bound_after es v i ok.renewable in
          let c = capped_short (entry_at es i).ceiling (v + (entry_at es i).step) (carried es s i) ok.ceiling in
          let k = c.1 (omega arith) in
          omega arith,
    )

pub led_forces :
    (g : Forest) (s : ℕ) (t : Terms) → Shows g s t → AllKeepable g s (end_of g.entries) → (prev : Option ℕ) (xs : List Force) →
    AreLed t prev xs → AreForces g.entries g.margin s (end_of g.entries) prev xs
led_forces g s t shows keepable prev [] led = λ i.
    let same = same_bound g s t shows keepable prev i in
    let lasts = led i in
    let need = shows.need i in
    elim (cases_lt (bound g.entries (end_of g.entries) prev i) (carried g.entries s i)) [
      | inl short ↦ absurd (let e = same.0 short in omega arith)
      | inr lasts' ↦ lasts'
    ]
led_forces g s t shows keepable prev (x ∷ xs) led =
    let f = x.entry in
    let mine = (same_bound g s t shows keepable prev f).1 led.0.short in
    let need = shows.need f in
    let short = led.0.short in
    let at = led.1.0 in
    let margin = shows.margin in (
      record {
        short = (let l : bound g.entries (end_of g.entries) prev f < carried g.entries s f = omega arith in l);
        moment = (let e : x.at ≡ bound g.entries (end_of g.entries) prev f - g.margin = omega arith in e);
        least = λ i h.
            let other = (same_bound g s t shows keepable prev i).0 h in
            let n = shows.need i in
            let a = led.0.first i (let l : lasts_until t prev i < t.need i = omega arith in l) in
            (let l : bound g.entries (end_of g.entries) prev f ≤ bound g.entries (end_of g.entries) prev i = omega arith in l);
        lowest = λ i h e.
            let other = (same_bound g s t shows keepable prev i).0 h in
            let n = shows.need i in
            let a = led.0.first i (let l : lasts_until t prev i < t.need i = omega arith in l) in
            (let l : f ≤ i = omega arith in l);
        from = subst (IsFrom g.entries s f) (sym led.1.1.0) (shows.from f (omega arith));
      },
      led_forces g s t shows keepable (Some x.at) xs led.1.1.1,
    )

pub one_from : (es : List Entry) (s i n m : ℕ) → IsFrom es s i n → IsFrom es s i m → n ≡ m
one_from es s i n m a b = let p = a.lowest m b.over b.need in let q = b.lowest n a.over a.need in omega arith

pub forces_led :
    (g : Forest) (s : ℕ) (t : Terms) → Shows g s t → AllKeepable g s (end_of g.entries) → (prev : Option ℕ) (xs : List Force) →
    AreForces g.entries g.margin s (end_of g.entries) prev xs → AreLed t prev xs
forces_led g s t shows keepable prev [] forces = λ i.
    let same = same_bound g s t shows keepable prev i in
    let lasts = forces i in
    let need = shows.need i in
    elim (cases_lt (lasts_until t prev i) (t.need i)) [
      | inl short ↦ absurd (let e = same.1 short in omega arith)
      | inr lasts' ↦ lasts'
    ]
forces_led g s t shows keepable prev (x ∷ xs) forces =
    let f = x.entry in
    let force = forces.0 in
    let short = force.short in
    let mine = (same_bound g s t shows keepable prev f).0 force.short in
    let need = shows.need f in
    let moment = force.moment in
    let margin = shows.margin in (
      record {
        short = (let l : lasts_until t prev f < t.need f = omega arith in l);
        first = λ i h.
            let other = (same_bound g s t shows keepable prev i).1 h in
            let n = shows.need i in
            let falls : bound g.entries (end_of g.entries) prev i < carried g.entries s i = omega arith in
            let l = force.least i falls in
            ahead _ _ _ _ (let k : lasts_until t prev f ≤ lasts_until t prev i = omega arith in k)
            (λ e. force.lowest i falls (let k : bound g.entries (end_of g.entries) prev i ≡ bound g.entries (end_of g.entries) prev f = omega arith in k));
      },
      (
        let e : x.at ≡ lasts_until t prev f - t.margin = omega arith in e,
        (
          one_from g.entries s f x.needed (t.from f) force.from (shows.from f (omega arith)),
          forces_led g s t shows keepable (Some x.at) xs forces.1,
        ),
      ),
    )

pub forces_schedule : (es : List Entry) (margin s : ℕ) (ends : ℕ → ℕ) (prev : Option ℕ) (xs : List Force) → AreForces es margin s ends prev xs → IsSchedule es margin s ends prev (moments_of xs)
forces_schedule es margin s ends prev [] forces = forces
forces_schedule es margin s ends prev (x ∷ xs) forces =
    (record { entry = x.entry; short = forces.0.short; earliest = forces.0.least; moment = forces.0.moment }, forces_schedule es margin s ends (Some x.at) xs forces.1)

-- what is over an entry has no higher index
over_from : (es : List Entry) → ParentsFirst es → (n a f : ℕ) → f < n → Over es a f → a ≤ f
over_from es first zero a f h over = absurd (omega arith)
over_from es first (suc n) a f h over =
    cases_Option (entry_at es f).parent (a ≤ f)
    (λ none. let e : f == a ≡ true = sym (over_root es a f none) ∙ over in let k : f ≡ a = grind (arith, nat_tests) in omega arith)
    (λ p is. or_parts (f == a) (is_over es a p) (a ≤ f) (sym (over_child es a f p first is) ∙ over)
    (λ e. let k : f ≡ a = grind (arith, nat_tests) in omega arith)
    (λ up. let l = first f p is in let k = over_from es first n a p (omega arith) up in omega arith))

pub over_at_most : (es : List Entry) → ParentsFirst es → (a f : ℕ) → Over es a f → a ≤ f
over_at_most es first a f over = over_from es first (suc f) a f (omega arith) over

pub carried_past : (g : Forest) (s i : ℕ) → IsForest g → length g.entries ≤ i → carried g.entries s i ≡ 0
carried_past g s i forest past =
    elim (cases_lt 0 (carried g.entries s i)) [
      | inl some ↦ absurd (
          let found = carrier g.entries s i some in
          let f = found.0 in
          let low = over_at_most g.entries (parents_first g forest) i f found.1 in
          let none : (entry_at g.entries f).need ≡ 0 = ap (λ (e : Entry). e.need) (entry_at_past g.entries f (omega arith)) in
          let later : s < (entry_at g.entries f).need = found.2 in
          omega arith)
      | inr none ↦ omega arith
    ]

names_from : (es : List Entry) (s i : ℕ) (o : Option ℕ) → NamesFrom es s i o → 0 < carried es s i → IsFrom es s i (unwrap_or o 0)
names_from es s i None names some = absurd (omega arith)
names_from es s i (Some n) names some = names.1

pub shows_of : (o : Prospect) (s : ℕ) → IsForest o.forest → IsCarried o.forest s o.loads → Shows o.forest s (terms_of o)
unfolding terms_of load_at
shows_of o s forest is = record {
  end = λ i. refl;
  step = λ i. refl;
  need = λ i.
      elim (cases_lt i (length o.forest.entries)) [
        | inl within ↦ is.need i within
        | inr past ↦
            let c = carried_past o.forest s i forest past in
            let count = is.count in
            ap (λ (l : CarriedNeed). l.need) (get_or_past o.loads i (record { need = 0; from = None }) (omega arith)) ∙ sym c
      ];
  from = λ i some.
      elim (cases_lt i (length o.forest.entries)) [
        | inl within ↦ names_from o.forest.entries s i (load_at o.loads i).from (is.from i within) some
        | inr past ↦ absurd (let c = carried_past o.forest s i forest past in omega arith)
      ];
  margin = refl;
}

pub sound_of : (g : Forest) (s : ℕ) (t : Terms) → Shows g s t → IsForest g → AllKeepable g s (end_of g.entries) → TermsAreSound t
sound_of g s t shows forest keepable = record {
  step = λ i h.
      let end = shows.end i in
      let need = shows.need i in
      let step = shows.step i in
      let margin = shows.margin in
      elim (cases_lt i (length g.entries)) [
        | inl within ↦ let k = (forest.placed i within).step_past_margin in omega arith
        | inr past ↦ absurd (let c = carried_past g s i forest past in omega arith)
      ];
  end = λ i h.
      let end = shows.end i in
      let need = shows.need i in
      let margin = shows.margin in
      let k = (can_be_led g s (end_of g.entries) keepable i (omega arith)).room in
      omega arith;
  need = λ i.
      let need = shows.need i in
      elim (cases_lt 0 (carried g.entries s i)) [
        | inl some ↦
            let found = carrier g.entries s i some in
            let is : (entry_at g.entries found.0).need ≡ carried g.entries s i = found.3 in
            let k = need_within g forest found.0 in
            omega arith
        | inr none ↦ omega arith
      ];
}

pub need_past : (o : Prospect) (i : ℕ) → length o.loads ≤ i → (terms_of o).need i ≡ 0
unfolding terms_of load_at
need_past o i past = ap (λ (l : CarriedNeed). l.need) (get_or_past o.loads i (record { need = 0; from = None }) past)

pub in_sight : (o : Prospect) (s : ℕ) → IsForest o.forest → IsCarried o.forest s o.loads → AllKeepable o.forest s (end_of o.forest.entries) → IsInSight o
in_sight o s forest is keepable = record { count = is.count; sound = sound_of o.forest s (terms_of o) (shows_of o s forest is) forest keepable }
