-- An open round: what it has left of its opening, at the opening and with one answer more; and that nothing in it is too long.
use Rattle.std.proofs.Common.{◌≡◌, ◌∙◌, ◌==◌, ℕ, ◌<◌, ◌≤◌, true, false, List, ◌∷◌, Some, length, set, refl, sym, ap, subst, arith, inl, inr}
use Rattle.std.proofs.lemmas.{Bool.cases_Bool, Bool.cases_eq, List.length-set}
use Rattle.std.specs.List.{list_any}
use Rattle.plan_rule.specs.{declared.limit.TheConstants.LIMIT, Ends.is_asked}
use Rattle.plan_rule.specs.Asks.{asking, asks, first_of}
use Rattle.plan_forest.specs.{declared.entry.Entry.Entry, Push.IsForest}
use Rattle.plan_forest.specs.Forest.{Forest, end_of, entry_at}
use Rattle.plan_forest.proofs.Entries.{entry_at_set_other, entry_at_set_same}
use Rattle.tick_keeper.specs.{declared.event.Event.Event, declared.event.Event.TheVariants.Tick, Refusal.waits_for, Replan.IsPlanOf, Replan.ReplanTooLong, State.Round, States.ForestIsAnswered, States.RoundIsOpened}
use Rattle.tick_keeper.specs.Step.{entry_after_answer, entry_of_event, left, with_entry_changed, without_index}
use Rattle.tick_keeper.proofs.{NoLonger.no_longer, Orders.none_within}

unanswered_is : (g : Forest) (t : ℕ) (rest : List ℕ) → ForestIsAnswered g g t (first_of rest)
unanswered_is g t rest = record { margin = refl; count = refl; each = λ i. refl; others = λ i _. refl }

-- a round that opens
pub opens :
    (h : Forest) (t : ℕ) (rest : List ℕ) → IsForest h → IsPlanOf h t (t ∷ rest) → length (t ∷ rest) ≤ LIMIT →
    RoundIsOpened h rest (record { at = t; unanswered = asks h.entries h.margin t (end_of h.entries) t (first_of rest) })
unfolding is_asked
opens h t rest forest best few = record {
  before = h;
  forest = forest;
  best = best;
  few = few;
  answered = unanswered_is h t rest;
  asked = λ i waits. waits;
}

-- what an answer changes of an entry
pub answered_only : (at : ℕ) (event : Event) (e : Entry) → entry_after_answer at event e ≡ record e { end = (entry_after_answer at event e).end; renewable = (entry_after_answer at event e).renewable }
unfolding entry_after_answer
answered_only at (Tick t) e = refl
answered_only at _ e = refl

-- who is waited for after an answer, was before it
still_waits : (round : Round) (i j : ℕ) → waits_for (Some (left round i)) j ≡ true → waits_for (Some round) j ≡ true
unfolding without_index
still_waits round i j waits =
    elim (cases_Bool (list_any (λ k. k == j) round.unanswered)) [
      | inl there ↦ there
      | inr none ↦ absurd (let bad : true ≡ false = sym waits ∙ none_within _ j round.unanswered none in cc)
    ]

-- one answer more, of an entry that is waited for
answered_more :
    (g h : Forest) (t : ℕ) (rest : List ℕ) → ForestIsAnswered g h t (first_of rest) → (event : Event) (at : ℕ) → entry_of_event event < length h.entries →
    is_asked (asking g.entries g.margin t (end_of g.entries) t (first_of rest)) (entry_of_event event) ≡ true → ForestIsAnswered g (with_entry_changed h (entry_of_event event) (entry_after_answer at event)) t (first_of rest)
answered_more g h t rest a event at within asked =
    let i = entry_of_event event in
    let e = entry_at h.entries i in
    let new = entry_after_answer at event e in
    let fs = set h.entries i new in
    let Same : Entry → Entry → Type 0 = λ x y. y ≡ record x { end = y.end; renewable = y.renewable } in
    record {
      margin = a.margin;
      count = length-set h.entries i new ∙ a.count;
      each = λ k. elim (cases_eq k i) [
        | inl same ↦
            let here : entry_at fs k ≡ new = ap (entry_at fs) same ∙ entry_at_set_same h.entries i new within in
            let from : Same (entry_at g.entries i) new = answered_only at event e ∙ ap (λ (x : Entry). record x { end = new.end; renewable = new.renewable }) (a.each i) in
            subst (Same (entry_at g.entries k)) (sym here) (subst (λ j. Same (entry_at g.entries j) new) (sym same) from)
        | inr apart ↦ subst (Same (entry_at g.entries k)) (sym (entry_at_set_other h.entries i k new apart)) (a.each k)
      ];
      others = λ k unasked. elim (cases_eq k i) [
        | inl same ↦ absurd (
            let bad : true ≡ false = sym asked ∙ ap (is_asked (asking g.entries g.margin t (end_of g.entries) t (first_of rest))) (sym same) ∙ unasked in cc)
        | inr apart ↦ entry_at_set_other h.entries i k new apart ∙ a.others k unasked
      ];
    }

pub hears_more :
    (h : Forest) (ts : List ℕ) (round : Round) (event : Event) → RoundIsOpened h ts round → entry_of_event event < length h.entries → waits_for (Some round) (entry_of_event event) ≡ true →
    RoundIsOpened (with_entry_changed h (entry_of_event event) (entry_after_answer round.at event)) ts (left round (entry_of_event event))
hears_more h ts round event o within waits = record {
  before = o.before;
  forest = o.forest;
  best = o.best;
  few = o.few;
  answered = answered_more o.before h round.at ts o.answered event round.at within (o.asked (entry_of_event event) waits);
  asked = λ i still. o.asked i (still_waits round (entry_of_event event) i still);
}

-- and the last, which closes the round: planning anew is not too long
pub last_fits :
    (h : Forest) (ts : List ℕ) (round : Round) (event : Event) → RoundIsOpened h ts round → entry_of_event event < length h.entries → waits_for (Some round) (entry_of_event event) ≡ true →
    let k = with_entry_changed h (entry_of_event event) (entry_after_answer round.at event) in IsForest k → ReplanTooLong k round.at → ⊥
last_fits h ts round event o within waits forest long =
    let few = o.few in
    let many = long.many in
    let answered = answered_more o.before h round.at ts o.answered event round.at within (o.asked (entry_of_event event) waits) in
    let most = no_longer.1 o.before _ round.at ts long.moments o.forest forest o.best answered long.best in
    absurd (omega arith)

-- nor is it at a tick
pub tick_fits : (g : Forest) (s t : ℕ) (ts : List ℕ) → IsForest g → s ≤ t → IsPlanOf g s ts → length ts ≤ LIMIT → ReplanTooLong g t → ⊥
tick_fits g s t ts forest later best few long =
    let many = long.many in
    let most = no_longer.0 g s t ts long.moments forest later best long.best in
    absurd (omega arith)
