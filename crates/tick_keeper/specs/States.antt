-- States: what holds of every state that events lead to.
-- Source: this project's own.
use Rattle.std.specs.Prelude.{◌≡◌, ◌≢◌, ℕ, ◌≤◌, true, false, List, [], ◌∷◌, Option, Some, length}
use Rattle.base_moment.specs.declared.moment.TheConstants.{LAST}
use Rattle.plan_forest.specs.Push.{IsForest}
use Rattle.plan_forest.specs.Forest.{Forest, end_of, entry_at}
use Rattle.plan_rule.specs.{Asks.asking, Asks.first_of, Ends.is_asked, declared.limit.TheConstants.LIMIT}
use Rattle.tick_keeper.specs.{InForce.InForceBetweenRounds, Refusal.waits_for, Replan.IsPlanOf, State.CoreState, State.Round}

-- h is g after answers to a round at t, whatever they were: an entry has changed in its end and in whether it is renewable
-- alone, and only where it is among the Asks
pub record ForestIsAnswered (g h : Forest) (t : ℕ) (next : Option ℕ) : Type 0 where
  pub margin : h.margin ≡ g.margin
  pub count : length h.entries ≡ length g.entries
  pub each : (i : ℕ) → entry_at h.entries i ≡ record (entry_at g.entries i) { end = (entry_at h.entries i).end; renewable = (entry_at h.entries i).renewable }
  pub others : (i : ℕ) → is_asked (asking g.entries g.margin t (end_of g.entries) t next) i ≡ false → entry_at h.entries i ≡ entry_at g.entries i

-- what an open round has left of its opening, where h is the forest now and ts are the moments to come: a forest for which the
-- round's moment and these moments were the plan in force. Since then answers have changed what was asked alone, and each who
-- is waited for was asked
pub record RoundIsOpened (h : Forest) (ts : List ℕ) (round : Round) : Type 0 where
  pub before : Forest
  pub forest : IsForest before
  pub best : IsPlanOf before round.at (round.at ∷ ts)
  pub few : length (round.at ∷ ts) ≤ LIMIT
  pub answered : ForestIsAnswered before h round.at (first_of ts)
  pub asked : (i : ℕ) → waits_for (Some round) i ≡ true → is_asked (asking before.entries before.margin round.at (end_of before.entries) round.at (first_of ts)) i ≡ true

-- a forest and a last moment; a round that is open since then, in which someone is waited for; and a plan in force wherever
-- no round is open
pub record IsState (s : CoreState) : Type 0 where
  pub forest : IsForest s.forest
  pub last : s.last ≤ LAST
  pub open_since : (round : Round) → s.round ≡ Some round → round.at ≡ s.last
  pub waits : (round : Round) → s.round ≡ Some round → round.unanswered ≢ []
  pub opened : (round : Round) → s.round ≡ Some round → RoundIsOpened s.forest s.to_come round
  pub sound : InForceBetweenRounds s
