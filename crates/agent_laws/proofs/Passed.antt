-- Passed: what holds of each call of neighbours holds of what they are called for where one more stands before them, who looks ahead or asks
-- for a beginning. For the laws of what a turn calls.
use Rattle.std.proofs.Common.{◌≡◌, ℕ, Bool, true, false, inl, inr, List, Option, None, Some, ap, subst, sym}
use Rattle.agent_standing.specs.Agent.{Agent}
use Rattle.agent_behind.specs.{declared.behind.Behind.Behind, declared.behind.Giver.Giver, declared.behind.Giver.TheVariants.Lookout}
use Rattle.agent_behind.specs.Behinds.{OthersGive, PassesBehind, SettlesBy, StepsBy, StepsIf, lead_ahead, renews, requests_at}
use Rattle.base_clock.specs.declared.reading.Reading.{Reading}
use Rattle.agent_turns.specs.{Days.PassesToOthers, Days.SettlesOthers, declared.change.AgentChange.AgentChange, declared.day.EarlyDay.EarlyDay}
use Rattle.agent_turns.specs.Neighbours.{End, Give, GoOn, Hear, NeighbourCall, Rest, Settle, Step, Thing}
use Rattle.watch_machine.specs.declared.command.WatchRequest.{WatchRequest}

-- what is to hold of calls, for that: to hear twice is as to hear once, and to hear, or nothing, as to be told that a change was made; whether
-- more could be done, and which change is given where they give none, makes no difference
pub record Passes {N : Type 0} (P : NeighbourCall → N → N → Type 0) : Type 0 where
  pub heard : (a : Agent) (one other : Thing) (x y z : N) → P (Hear a one) x y → P (Hear a other) y z → P (Hear a one) x z
  pub settled : (a : Agent) (thing : Thing) (is_made : Bool) (x y : N) → P (Hear a thing) x y → P (Settle a is_made) x y
  pub unsettled : (a : Agent) (is_made : Bool) (x y : N) → y ≡ x → P (Settle a is_made) x y
  pub goes : (a : Agent) (now : Reading) (b c : Bool) (x y : N) → P (GoOn a now b) x y → P (GoOn a now c) x y
  pub gives : (a : Agent) (now : Reading) (change : Option AgentChange) (x y : N) → P (Give a now None) x y → P (Give a now change) x y
  pub rests : (now : ℕ) (rest : Option ℕ) (x y : N) → y ≡ x → P (Rest now rest) x y

module _ {N : Type 0} (does P : NeighbourCall → N → N → Type 0) (passes : Passes P) (by : (call : NeighbourCall) (old new : N) → does call old new → P call old new) where
  -- ---- one that asks for a beginning

  settled_on : (is_own : Bool) (a : Agent) (is_made : Bool) (old new : N) → SettlesOthers does is_own a is_made old new → P (Settle a is_made) old new
  settled_on true a is_made old new h = passes.unsettled a is_made old new h
  settled_on false a is_made old new h = by (Settle a is_made) old new h

  pub by_day : (call : NeighbourCall) (old new : EarlyDay N) → PassesToOthers does call old new → P call old.others new.others
  by_day (Hear a thing) old new h = by (Hear a thing) old.others new.others h.0
  by_day (GoOn a now is_busy) old new h = by (GoOn a now is_busy) old.others new.others h.0
  by_day (Give a now None) old new (inl h) = absurd h
  by_day (Give a now None) old new (inr h) = by (Give a now None) old.others new.others h.none
  by_day (Give a now (Some change)) old new (inl h) = by (Give a now (Some change)) old.others new.others h.0
  by_day (Give a now (Some change)) old new (inr h) = passes.gives a now (Some change) old.others new.others (by (Give a now None) old.others new.others h.none)
  by_day (Settle a is_made) old new h = settled_on old.is_own a is_made old.others new.others h.0
  by_day (Rest now rest) old new h = passes.rests now rest old.others new.others (ap (λ (x : EarlyDay N). x.others) h.0)

  -- ---- one that looks ahead

  steps_if : (a : Agent) (thing : Thing) (steps : Bool) (lead : ℕ) (requests : List WatchRequest) (x y z : N) → P (Hear a thing) x y → StepsIf does steps a lead requests y z → P (Hear a thing) x z
  steps_if a thing true lead requests x y z h k = passes.heard a thing (Step lead requests) x y z h (by (Hear a (Step lead requests)) y z k)
  steps_if a thing false lead requests x y z h k = subst (λ v. P (Hear a thing) x v) (sym k) h

  steps_on : (a : Agent) (thing : Thing) (asked : Option (List WatchRequest)) (ahead : Option ℕ) (x y z : N) → P (Hear a thing) x y → StepsBy does a asked ahead y z → P (Hear a thing) x z
  steps_on a thing None ahead x y z h k = subst (λ v. P (Hear a thing) x v) (sym k) h
  steps_on a thing (Some requests) None x y z h k = subst (λ v. P (Hear a thing) x v) (sym k) h
  steps_on a thing (Some requests) (Some lead) x y z h k = steps_if a thing (renews requests) lead requests x y z h k

module _ {N L : Type 0} (due_by : ℕ → ℕ → L → ℕ) (does P : NeighbourCall → N → N → Type 0) (passes : Passes P) (by : (call : NeighbourCall) (old new : N) → does call old new → P call old new) where
  settled_behind : (giver : Giver) (a : Agent) (is_made : Bool) (old new : Behind N L) → SettlesBy does giver a is_made old new → P (Settle a is_made) old.others new.others
  settled_behind (Lookout i end) a is_made old new h = passes.settled a (End i end) is_made old.others new.others (by (Hear a (End i end)) old.others new.others h.0)
  settled_behind _ a is_made old new h = by (Settle a is_made) old.others new.others h.0

  given_behind : (a : Agent) (now : Reading) (change : Option AgentChange) (old new : Behind N L) → OthersGive does a now change old new → P (Give a now change) old.others new.others
  given_behind a now None old new h = absurd h
  given_behind a now (Some change) old new h = by (Give a now (Some change)) old.others new.others h.0

  pub by_behind : (call : NeighbourCall) (old new : Behind N L) → PassesBehind due_by does call old new → P call old.others new.others
  by_behind (Hear a thing) old new h =
      steps_on does P passes by a thing (requests_at thing) (lead_ahead a.machine old.lookout) old.others h.others new.others (by (Hear a thing) old.others h.others h.hears) h.steps
  by_behind (GoOn a now is_busy) old new h = passes.goes a now h.0 is_busy old.others new.others (by (GoOn a now h.0) old.others new.others h.1.0)
  by_behind (Give a now change) old new (inl h) = given_behind a now change old new h
  by_behind (Give a now change) old new (inr h) = passes.gives a now change old.others new.others (by (Give a now None) old.others new.others h.0)
  by_behind (Settle a is_made) old new h = settled_behind old.giver a is_made old new h
  by_behind (Rest now rest) old new h = passes.rests now rest old.others new.others (ap (λ (x : Behind N L). x.others) h.0)

  -- ---- both

  passes_on : Passes (λ (call : NeighbourCall) (old new : Behind N L). P call old.others new.others)
  passes_on = record {
    heard = λ a one other x y z. passes.heard a one other x.others y.others z.others;
    settled = λ a thing is_made x y. passes.settled a thing is_made x.others y.others;
    unsettled = λ a is_made x y same. passes.unsettled a is_made x.others y.others (ap (λ (v : Behind N L). v.others) same);
    goes = λ a now b c x y. passes.goes a now b c x.others y.others;
    gives = λ a now change x y. passes.gives a now change x.others y.others;
    rests = λ now rest x y same. passes.rests now rest x.others y.others (ap (λ (v : Behind N L). v.others) same);
  }

  pub by_day_behind : (call : NeighbourCall) (old new : EarlyDay (Behind N L)) → PassesToOthers (λ (c : NeighbourCall) (a b : Behind N L). PassesBehind due_by does c a b) call old new → P call old.others.others new.others.others
  by_day_behind = by_day (λ (c : NeighbourCall) (a b : Behind N L). PassesBehind due_by does c a b) (λ (c : NeighbourCall) (a b : Behind N L). P c a.others b.others) passes_on by_behind
