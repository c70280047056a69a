-- Waking: what the plan in force says at the moment of a tick. No public clause cites it.
-- Source: this project's own.
use Rattle.std.specs.Prelude.{◌≡◌, ◌==◌, ℕ, ◌<◌, Bool, false, List, [], ◌∷◌, Option, Some, None, IfSome, length, nat_lt}
use Rattle.std.specs.List.{list_any}
use Rattle.plan_forest.specs.{Forest.Forest, Forest.end_of, Push.IsForest}
use Rattle.plan_rule.specs.Asks.{asks, first_of}
use Rattle.tick_keeper.specs.{declared.event.Output.Output, declared.opening.Opening.Opening, code.Keeping.flag_of, code.Keeping.waited_for, State.CoreState, Step.round_opened}
use Rattle.tick_keeper.specs.declared.event.Output.TheVariants as out

-- whether the next wake-up comes before t
abbrev pub is_late : ℕ → Option ℕ → Bool
is_late t None = false
is_late t (Some w) = nat_lt w t

-- for each of n entries whether it is among those asked
pub record AreFlags (n : ℕ) (asked : List ℕ) (flags : List Bool) : Type 0 where
  pub count : length flags ≡ n
  pub each : (i : ℕ) → flag_of flags i ≡ list_any (λ j. j == i) asked

-- the first moment to come is t; the Asks there are asked, and then waited for
pub record IsRoundOpening (h : Forest) (t : ℕ) (ts : List ℕ) (o : Opening) : Type 0 where
  pub forest : IsForest h
  pub rest : List ℕ
  pub is : ts ≡ t ∷ rest
  pub asked : o.asked ≡ asks h.entries h.margin t (end_of h.entries) t (first_of rest)
  pub at : o.round.at ≡ t
  pub count : length o.round.waiting.items ≡ length h.entries
  pub waiting : waited_for o.round.waiting.items ≡ o.asked
  pub left : o.round.left ≡ length o.asked
  pub some : 0 < length o.asked

-- what opens a round at t, None where the first moment to come is after t, or there is none
abbrev pub OpensRound : Forest → ℕ → List ℕ → Option Opening → Type 0
OpensRound h t ts None = IfSome (first_of ts) (λ w. t < w)
OpensRound h t ts (Some o) = IsRoundOpening h t ts o

-- what a state that is planned from its last moment answers there, and what it is then
abbrev pub CoreWakes : CoreState → Output → CoreState → Type 0
CoreWakes old out.Idle new = (old.to_come ≡ []) × (new ≡ old)
CoreWakes old (out.Sleep w) new = (first_of old.to_come ≡ Some w) × ((old.last < w) × (new ≡ old))
CoreWakes old (out.Ask asked) new =
    (rest : List ℕ) × ((old.to_come ≡ old.last ∷ rest)
    × ((asked ≡ (round_opened old old.last (first_of rest)).unanswered) × (new ≡ record old { to_come = rest; round = Some (round_opened old old.last (first_of rest)) })))
CoreWakes old output new = ⊥
