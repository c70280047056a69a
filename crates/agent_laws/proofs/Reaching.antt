-- Reaching: what the calls of the loop do to a house that stands behind others. For `whoever_is_told_ok_has_it`.
use Rattle.std.proofs.Common.{◌≡◌, ◌∙◌, ◌⊎◌, ℕ, Bool, true, false, inl, inr, List, Option, Some, None, ap, subst}
use Rattle.agent_standing.specs.Agent.{Agent}
use Rattle.agent_behind.specs.{declared.behind.Behind.Behind, declared.behind.Giver.Giver, declared.behind.Giver.TheVariants.Lookout}
use Rattle.agent_behind.specs.Behinds.{PassesBehind, SettlesBy, StepsBy, StepsIf, giver_of, lead_ahead, renews, requests_at}
use Rattle.base_clock.specs.declared.reading.Reading.{Reading}
use Rattle.agent_turns.specs.{Days.PassesToOthers, Days.SettlesOthers, declared.change.AgentChange.AgentChange, declared.day.EarlyDay.EarlyDay}
use Rattle.agent_turns.specs.Neighbours.{End, Give, GoOn, Hear, NeighbourCall, Rest, Settle, Step, Thing}
use Rattle.agent_turns.specs.declared.change.AgentChange.TheVariants as changes
use Rattle.watch_machine.specs.declared.command.WatchRequest.{WatchRequest}
use Rattle.agent_house.specs.declared.house.House.{House}

-- what is given and the change that waits are left
pub record AreLeft {S T D K E : Type 0} (old new : House S T D K E) : Type 0 where
  pub given : new.given ≡ old.given
  pub awaited : new.awaited ≡ old.awaited

-- and so are the clients
pub record IsHeard {S T D K E : Type 0} (old new : House S T D K E) : Type 0 where
  pub left : AreLeft old new
  pub control : new.control ≡ old.control

pub unheard : {S T D K E : Type 0} → (old new : House S T D K E) → new ≡ old → IsHeard old new
unheard old new same = record { left = record { given = ap (λ x. x.given) same; awaited = ap (λ x. x.awaited) same }; control = ap (λ x. x.control) same }

heard_twice : {S T D K E : Type 0} → (old mid new : House S T D K E) → IsHeard old mid → IsHeard mid new → IsHeard old new
heard_twice old mid new h k = record { left = record { given = k.left.given ∙ h.left.given; awaited = k.left.awaited ∙ h.left.awaited }; control = k.control ∙ h.control }

module _ {S T D K E : Type 0} (does : NeighbourCall → House S T D K E → House S T D K E → Type 0) where
  -- a change that it may have given is settled, or it hears something at most
  abbrev pub SettlesOr : Agent → Bool → House S T D K E → House S T D K E → Type 0
  SettlesOr by is_made old new = does (Settle by is_made) old new ⊎ IsHeard old new

  -- it has given this change and is told whether it was made; or it has given none
  abbrev pub IsChanged : Agent → Reading → Option AgentChange → Agent → Bool → House S T D K E → House S T D K E → House S T D K E → Type 0
  IsChanged a now change by is_made old mid new = (does (Give a now change) old mid × does (Settle by is_made) mid new) ⊎ (does (Give a now None) old mid × SettlesOr by is_made mid new)

  -- of neighbours to which each call does this, this is the house
  pub record Reaches {N : Type 0} (to : NeighbourCall → N → N → Type 0) (house : N → House S T D K E) : Type 0 where
    pub hears : (a : Agent) (thing : Thing) (old new : N) → to (Hear a thing) old new → IsHeard (house old) (house new)
    pub goes_on : (a : Agent) (now : Reading) (is_busy : Bool) (old new : N) → to (GoOn a now is_busy) old new → (busy : Bool) × does (GoOn a now busy) (house old) (house new)
    pub rests : (now : ℕ) (rest : Option ℕ) (old new : N) → to (Rest now rest) old new → IsHeard (house old) (house new)
    pub none : (a : Agent) (now : Reading) (old new : N) → to (Give a now None) old new → does (Give a now None) (house old) (house new)
    pub settles : (by : Agent) (is_made : Bool) (old new : N) → to (Settle by is_made) old new → SettlesOr by is_made (house old) (house new)
    pub one : (a : Agent) (now : Reading) (change : AgentChange) (by : Agent) (is_made : Bool) (old mid new : N) → to (Give a now (Some change)) old mid → to (Settle by is_made) mid new → IsChanged a now (Some change) by is_made (house old) (house mid) (house new)

  module _ {N : Type 0} (to : NeighbourCall → N → N → Type 0) (house : N → House S T D K E) (reaches : Reaches to house) where
    -- ---- behind one that asks for a beginning

    settles_others : (is_own : Bool) (by : Agent) (is_made : Bool) (old new : N) → SettlesOthers to is_own by is_made old new → SettlesOr by is_made (house old) (house new)
    settles_others true by is_made old new h = inr (unheard (house old) (house new) (ap house h))
    settles_others false by is_made old new h = reaches.settles by is_made old new h

    none_on : (a : Agent) (now : Reading) (old new : EarlyDay N) → PassesToOthers to (Give a now None) old new → does (Give a now None) (house old.others) (house new.others)
    none_on a now old new (inl h) = absurd h
    none_on a now old new (inr h) = reaches.none a now old.others new.others h.none

    one_on : (a : Agent) (now : Reading) (change : AgentChange) (by : Agent) (is_made : Bool) (old mid new : EarlyDay N) → PassesToOthers to (Give a now (Some change)) old mid → PassesToOthers to (Settle by is_made) mid new →
        IsChanged a now (Some change) by is_made (house old.others) (house mid.others) (house new.others)
    one_on a now change by is_made old mid new (inl h) k =
        reaches.one a now change by is_made old.others mid.others new.others h.0 (subst (λ (own : Bool). SettlesOthers to own by is_made mid.others new.others) (ap (λ (d : EarlyDay N). d.is_own) h.1) k.0)
    one_on a now change by is_made old mid new (inr h) k = inr (reaches.none a now old.others mid.others h.none, settles_others mid.is_own by is_made mid.others new.others k.0)

    pub reaches_day : Reaches (λ (c : NeighbourCall) (x y : EarlyDay N). PassesToOthers to c x y) (λ (d : EarlyDay N). house d.others)
    reaches_day = record {
      hears = λ a thing old new h. reaches.hears a thing old.others new.others h.0;
      goes_on = λ a now is_busy old new h. reaches.goes_on a now is_busy old.others new.others h.0;
      rests = λ now rest old new h. unheard (house old.others) (house new.others) (ap (λ (d : EarlyDay N). house d.others) h.0);
      none = none_on;
      settles = λ by is_made old new h. settles_others old.is_own by is_made old.others new.others h.0;
      one = one_on;
    }

    -- ---- behind one that looks ahead

    module _ {L : Type 0} (due_by : ℕ → ℕ → L → ℕ) where
      steps_if : (a : Agent) (is : Bool) (lead : ℕ) (requests : List WatchRequest) (old new : N) → StepsIf to is a lead requests old new → IsHeard (house old) (house new)
      steps_if a true lead requests old new h = reaches.hears a (Step lead requests) old new h
      steps_if a false lead requests old new h = unheard (house old) (house new) (ap house h)

      steps_by : (a : Agent) (asked : Option (List WatchRequest)) (lead : Option ℕ) (old new : N) → StepsBy to a asked lead old new → IsHeard (house old) (house new)
      steps_by a None lead old new h = unheard (house old) (house new) (ap house h)
      steps_by a (Some requests) None old new h = unheard (house old) (house new) (ap house h)
      steps_by a (Some requests) (Some lead) old new h = steps_if a (renews requests) lead requests old new h

      settles_by : (giver : Giver) (by : Agent) (is_made : Bool) (old new : Behind N L) → SettlesBy to giver by is_made old new → SettlesOr by is_made (house old.others) (house new.others)
      settles_by (Lookout i end) by is_made old new h = inr (reaches.hears by (End i end) old.others new.others h.0)
      settles_by _ by is_made old new h = reaches.settles by is_made old.others new.others h.0

      settles_own : (change : AgentChange) (by : Agent) (is_made : Bool) (old new : Behind N L) → SettlesBy to (giver_of change) by is_made old new → to (Settle by is_made) old.others new.others
      settles_own (changes.Need i until) by is_made old new h = h.0
      settles_own _ by is_made old new h = h.0

      none_behind : (a : Agent) (now : Reading) (old new : Behind N L) → PassesBehind due_by to (Give a now None) old new → does (Give a now None) (house old.others) (house new.others)
      none_behind a now old new (inl h) = absurd h
      none_behind a now old new (inr h) = reaches.none a now old.others new.others h.0

      one_behind : (a : Agent) (now : Reading) (change : AgentChange) (by : Agent) (is_made : Bool) (old mid new : Behind N L) → PassesBehind due_by to (Give a now (Some change)) old mid → PassesBehind due_by to (Settle by is_made) mid new →
          IsChanged a now (Some change) by is_made (house old.others) (house mid.others) (house new.others)
      one_behind a now change by is_made old mid new (inl h) k =
          reaches.one a now change by is_made old.others mid.others new.others h.0 (settles_own change by is_made mid new (subst (λ (g : Giver). SettlesBy to g by is_made mid new) h.1.1 k))
      one_behind a now change by is_made old mid new (inr h) k = inr (reaches.none a now old.others mid.others h.0, settles_by mid.giver by is_made mid new k)

      pub reaches_behind : Reaches (λ (c : NeighbourCall) (x y : Behind N L). PassesBehind due_by to c x y) (λ (b : Behind N L). house b.others)
      reaches_behind = record {
        hears = λ a thing old new h. heard_twice (house old.others) (house h.others) (house new.others) (reaches.hears a thing old.others h.others h.hears) (steps_by a (requests_at thing) (lead_ahead a.machine old.lookout) h.others new.others h.steps);
        goes_on = λ a now is_busy old new h. reaches.goes_on a now h.0 old.others new.others h.1.0;
        rests = λ now rest old new h. unheard (house old.others) (house new.others) (ap (λ (b : Behind N L). house b.others) h.0);
        none = none_behind;
        settles = λ by is_made old new h. settles_by old.giver by is_made old new h;
        one = one_behind;
      }
