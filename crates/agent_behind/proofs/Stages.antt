-- Stages: what a lookout does stage by stage, and where an answer is handed in. For `lookout`.
use Rattle.std.proofs.Common.{◌≡◌, ◌⊎◌, ◌∙◌, ◌-◌, ℕ, true, false, [], ◌∷◌, ◌++◌, Option, Some, None, IfSome, eqb-true, length, ap, inl, inr, refl, subst, sym}
use Rattle.agent_standing.specs.Agent.{Agent}
use Rattle.base_clock.specs.declared.reading.Reading.{Reading}
use Rattle.vault_lanes.specs.declared.lanes.Answered.{Answered}
use Rattle.agent_turns.specs.declared.change.AgentChange.{AgentChange}
use Rattle.plan_forest.specs.Forest.{Forest}
use Rattle.watch_machine.specs.declared.event.WatchEvent.{WatchEvent}
use Rattle.watch_scout.specs.State.{ScoutState}
use Rattle.agent_behind.specs.Lookouts.{Ahead, AnswersComeOff, GivesAhead, HandsInBy, HaveComeOff, IsHandedIn, IsMade, LooksBy, LooksOut, NoneComesOff, StandsBeside, change_of, is_beside, none_waits}
use Rattle.agent_behind.specs.Lookups.{AreLookedUp, side}

-- the scout that there is was made beside as many entries
pub beside_as_many : (g : Forest) (o : Option ScoutState) → is_beside g o ≡ true → IfSome o (λ s. length s.seen ≡ length g.entries)
beside_as_many g None is = absurd cc
beside_as_many g (Some s) is = eqb-true (length s.seen) (length g.entries) is

module _ {L : Type 0} where
  -- ---- its scout

  pub stands_there : (g : Forest) (old new : Ahead L) → is_beside g old.scout ≡ true → new ≡ old → StandsBeside g old new
  stands_there g old new is same = inl (is, same)

  pub stands_anew :
      (g : Forest) (old new : Ahead L) → new.number ≡ old.number → new.width ≡ old.width → new.port ≡ old.port → new.lanes ≡ record old.lanes { out = [] } → new.heard ≡ [] → IsMade g new.number new.width new.scout → StandsBeside g old new
  stands_anew g old new number width port lanes heard made =
      inr (record {
        same = record { number = number; width = width; port = port };
        lanes = lanes;
        heard = heard;
        scout = subst (λ n. IsMade g n old.width new.scout) number (subst (λ n. IsMade g new.number n new.scout) width made);
      })

  -- ---- answers come off its lanes

  pub comes_off : (now : ℕ) (old new : Ahead L) → none_waits old ≡ true → HaveComeOff now old new ⊎ NoneComesOff old new → new.scout ≡ old.scout → AnswersComeOff now old new
  comes_off now old new none off scout = record { comes = inr (none, off); scout = scout }

  pub stays_off : (now : ℕ) (old new : Ahead L) → none_waits old ≡ false → new ≡ old → AnswersComeOff now old new
  stays_off now old new some same = record { comes = inl (some, same); scout = ap (λ (x : Ahead L). x.scout) same }

  -- ---- lookups go out

  looks_by : (a : Agent) (r : Reading) (old new : Ahead L) (s t : ScoutState) → old.scout ≡ Some s → new.scout ≡ Some t → AreLookedUp old.port a r (old.width - length old.lanes.out) 0 (side s old.lanes) (side t new.lanes) →
      LooksBy a r old.port (old.width - length old.lanes.out) old.scout old.lanes new.scout new.lanes
  looks_by a r old new s t is becomes looks =
      subst (λ o. LooksBy a r old.port (old.width - length old.lanes.out) o old.lanes new.scout new.lanes) (sym is) (t, (becomes, looks))

  pub looks_some :
      (a : Agent) (r : Reading) (old new : Ahead L) (s t : ScoutState) → old.scout ≡ Some s → new.scout ≡ Some t → AreLookedUp old.port a r (old.width - length old.lanes.out) 0 (side s old.lanes) (side t new.lanes) →
      new.number ≡ old.number → new.width ≡ old.width → new.port ≡ old.port → new.heard ≡ old.heard → LooksOut a r old new
  looks_some a r old new s t is becomes looks number width port heard = record { same = record { number = number; width = width; port = port }; heard = heard; looks = looks_by a r old new s t is becomes looks }

  pub looks_none : (a : Agent) (r : Reading) (old new : Ahead L) → old.scout ≡ None → new ≡ old → LooksOut a r old new
  looks_none a r old new none same =
      subst (λ (x : Ahead L). LooksOut a r old x) (sym same)
      (record {
        same = record { number = refl; width = refl; port = refl };
        heard = refl;
        looks = subst (λ o. LooksBy a r old.port (old.width - length old.lanes.out) o old.lanes o old.lanes) (sym none) (refl, refl);
      })

  -- ---- an answer is handed in

  pub gives_none : (a : Agent) (old new : Ahead L) → old.heard ≡ [] → new ≡ old → GivesAhead a old None new
  gives_none a old new none same = inl (record { heard = none; gives_none = refl; same = same })

  pub hands_none : (a : Agent) (old new : Ahead L) (x : Answered) → old.heard ≡ new.heard ++ x ∷ [] → old.scout ≡ None → new ≡ record old { heard = new.heard } → GivesAhead a old None new
  hands_none a old new x last none rest =
      let scout : new.scout ≡ old.scout = ap (λ (l : Ahead L). l.scout) rest in
      inr (record {
        answer = x;
        last = last;
        scout = subst (λ o. HandsInBy a x o None new.scout) (sym none) (refl, scout ∙ none);
        rest = rest ∙ ap (λ o. record old { heard = new.heard; scout = o }) (sym scout);
      })

  pub hands_some :
      (a : Agent) (old new : Ahead L) (x : Answered) (s t : ScoutState) (event : Option WatchEvent) (change : Option AgentChange) → old.heard ≡ new.heard ++ x ∷ [] → old.scout ≡ Some s → new.scout ≡ Some t → IsHandedIn a x s event t →
      change ≡ change_of event → new ≡ record old { heard = new.heard; scout = new.scout } → GivesAhead a old change new
  hands_some a old new x s t event change last is becomes handed told rest =
      inr (record { answer = x; last = last; scout = subst (λ o. HandsInBy a x o change new.scout) (sym is) (t, (becomes, (event, (handed, told)))); rest = rest })
