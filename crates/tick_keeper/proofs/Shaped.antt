-- No event changes an entry but for its end, its need and whether it can be renewed.
use Rattle.std.proofs.Common.{◌≡◌, ℕ, None, Ok, Err, length, set, refl, sym, ap, ◌∙◌, subst, arith, inl, inr}
use Rattle.std.proofs.lemmas.{Bool.cases_eq, Bool.cases_lt, List.length-set}
use Rattle.plan_forest.specs.declared.entry.Entry.{Entry}
use Rattle.plan_forest.specs.Forest.{Forest, entry_at, no_entry}
use Rattle.plan_forest.proofs.Entries.{entry_at_past, entry_at_set_other, entry_at_set_same}
use Rattle.tick_keeper.specs.{declared.event.Event.Event, declared.event.Output.Output, Replan.Replan, Shorten.shorten, State.CoreState, LawsOfSteps.IsShaped, LawsOfSteps.ShapeLaw}
use Rattle.tick_keeper.specs.declared.event.Event.TheVariants.{Tick, Told, Refused, Lost, Need}
use Rattle.tick_keeper.specs.declared.fault.StepFault.TheVariants.{TooLong, OutOfMemory}
use Rattle.tick_keeper.specs.Step.{StepAnswer, StepNeed, StepTick, entry_after_answer, entry_of_event, state_after_answer, with_entry_changed, with_new_need}
use Rattle.tick_keeper.specs.declared.event.Output.TheVariants as out
use Rattle.tick_keeper.proofs.Shortening.{shorten_at, shorten_count, shorten_margin}

abbrev Like : Entry → Entry → Type 0
Like e f = f ≡ record e { end = f.end; renewable = f.renewable; need = f.need }

pub same : (g : Forest) → IsShaped g g
same g = record { margin = refl; count = refl; each = λ i. refl }

like_too : (d e f : Entry) → Like d e → Like e f → Like d f
like_too d e f a b = b ∙ ap (λ (x : Entry). record x { end = f.end; renewable = f.renewable; need = f.need }) a

pub both_shaped : (g h k : Forest) → IsShaped g h → IsShaped h k → IsShaped g k
both_shaped g h k a b = record {
  margin = b.margin ∙ a.margin;
  count = b.count ∙ a.count;
  each = λ i. like_too (entry_at g.entries i) (entry_at h.entries i) (entry_at k.entries i) (a.each i) (b.each i);
}

shortened : (g : Forest) (t : ℕ) → IsShaped g (shorten g t)
shortened g t = record {
  margin = shorten_margin g t;
  count = shorten_count g t;
  each = λ i. elim (cases_lt i (length g.entries)) [
    | inl within ↦ subst (Like (entry_at g.entries i)) (sym (shorten_at g t i within)) refl
    | inr past ↦
        let none = entry_at_past g.entries i past in
        let count = shorten_count g t in
        subst (λ d. Like d (entry_at (shorten g t).entries i)) (sym none) (subst (Like no_entry) (sym (entry_at_past (shorten g t).entries i (omega arith))) refl)
  ];
}

changed : (g : Forest) (i : ℕ) (f : Entry → Entry) → ((e : Entry) → Like e (f e)) → IsShaped g (with_entry_changed g i f)
changed g i f like =
    let es = g.entries in
    let e = f (entry_at es i) in
    let count = length-set es i e in
    record {
      margin = refl;
      count = count;
      each = λ k. elim (cases_eq k i) [
        | inr apart ↦ subst (Like (entry_at es k)) (sym (entry_at_set_other es i k e apart)) refl
        | inl here ↦ elim (cases_lt i (length es)) [
          | inl within ↦ subst (λ n. Like (entry_at es n) (entry_at (set es i e) n)) (sym here) (subst (Like (entry_at es i)) (sym (entry_at_set_same es i e within)) (like (entry_at es i)))
          | inr past ↦
              subst (λ d. Like d (entry_at (set es i e) k)) (sym (entry_at_past es k (omega arith)))
              (subst (Like no_entry) (sym (entry_at_past (set es i e) k (omega arith))) refl)
        ]
      ];
    }

answer_like : (at : ℕ) (event : Event) (e : Entry) → Like e (entry_after_answer at event e)
unfolding entry_after_answer
answer_like at (Told i seconds renewable) e = refl
answer_like at _ e = refl

pub replanned : (g : Forest) (old : CoreState) (t : ℕ) (new : CoreState) → IsShaped g old.forest → Replan old t new → IsShaped g new.forest
replanned g old t new a r = subst (λ (s : CoreState). IsShaped g s.forest) (sym r.is) (both_shaped g old.forest (shorten old.forest t) a (shortened old.forest t))

tick_shaped : (old : CoreState) (t : ℕ) (output : Output) (new : CoreState) → StepTick old t output new → IsShaped old.forest new.forest
tick_shaped old t out.Idle new step = replanned old.forest old t new (same old.forest) step.0
tick_shaped old t (out.Sleep w) new step = replanned old.forest old t new (same old.forest) step.0
tick_shaped old t (out.Ask asked) new step = subst (λ (s : CoreState). IsShaped old.forest s.forest) (sym step.1.1.1.1.1) (replanned old.forest old t step.0 (same old.forest) step.1.0)
tick_shaped old t _ new step = absurd step

answer_shaped : (old : CoreState) (event : Event) (output : Output) (new : CoreState) → StepAnswer old event output new → IsShaped old.forest new.forest
answer_shaped old event out.Waiting new step =
    subst (λ (s : CoreState). IsShaped old.forest s.forest) (sym step.1.1.1) (changed old.forest (entry_of_event event) (entry_after_answer step.0.at event) (answer_like step.0.at event))
answer_shaped old event (out.Round next) new step =
    replanned old.forest (state_after_answer old event step.0.at None) step.0.at new (changed old.forest (entry_of_event event) (entry_after_answer step.0.at event) (answer_like step.0.at event)) step.1.1.1.0
answer_shaped old event _ new step = absurd step

need_shaped : (old : CoreState) (i until : ℕ) (output : Output) (new : CoreState) → StepNeed old i until output new → IsShaped old.forest new.forest
need_shaped old i until out.Planned new step = replanned old.forest (with_new_need old i until) old.last new (changed old.forest i (λ e. record e { need = until }) (λ e. refl)) step
need_shaped old i until _ new step = absurd step

stays : (old new : CoreState) → new ≡ old → IsShaped old.forest new.forest
stays old new is = subst (λ (s : CoreState). IsShaped old.forest s.forest) (sym is) (same old.forest)

pub shape : ShapeLaw
shape old new (Tick t) (Ok output) turn = tick_shaped old t output new turn.1
shape old new (Told i seconds renewable) (Ok output) turn = answer_shaped old (Told i seconds renewable) output new turn.1
shape old new (Refused i) (Ok output) turn = answer_shaped old (Refused i) output new turn.1
shape old new (Lost i) (Ok output) turn = answer_shaped old (Lost i) output new turn.1
shape old new (Need i until) (Ok output) turn = need_shaped old i until output new turn.1
shape old new event (Err TooLong) turn = stays old new turn.1.1
shape old new event (Err OutOfMemory) turn = stays old new turn.1.1
shape old new event (Err _) turn = stays old new turn.1
