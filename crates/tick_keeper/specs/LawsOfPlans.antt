-- Laws of plans: where the plan in force is what planning anew would give. Each is the contract of a public function without
-- a body.
use Rattle.std.specs.Prelude.{◌≡◌, ℕ, ◌≤◌, ◌<◌, if◌then◌else◌, List, [], ◌∷◌, Option, None, length}
use Rattle.std.specs.List.{All}
use Rattle.plan_forest.specs.{Push.IsForest, Renewal.renewal}
use Rattle.plan_forest.specs.Forest.{Forest, end_of, entry_at}
use Rattle.plan_rule.specs.{Ends.is_asked, Runs.moments_of, declared.force.Force.Force}
use Rattle.plan_rule.specs.Asks.{asking, asks, first_of}
use Rattle.tick_keeper.specs.{InForce.AllForcedAs, InForce.InForce, Replan.IsPlanOf, Replan.Replan, Shorten.pairs, Shorten.shorten, State.CoreState, States.ForestIsAnswered}

-- a tick that is not late: the plan in force is what planning anew gives, and no need is shortened
abbrev pub TickLaw : Type 0
TickLaw =
    (g : Forest) (s t : ℕ) (ts : List ℕ) → s ≤ t → All (λ u. t ≤ u) ts → IsPlanOf g s ts →
    (shorten g t ≡ g) × ((pairs g t ≡ []) × IsPlanOf g t ts)

-- so such a tick changes the last moment alone
abbrev pub KeptPlanLaw : Type 0
KeptPlanLaw = (s : CoreState) (t : ℕ) → InForce s → s.last ≤ t → All (λ u. t ≤ u) s.to_come → Replan s t (record s { last = t })

-- h is g after a round at t in which each entry of the Asks was told the rule's end and stays renewable
pub record IsAnsweredByRule (g h : Forest) (t : ℕ) (next : Option ℕ) : Type 0 where
  pub margin : h.margin ≡ g.margin
  pub count : length h.entries ≡ length g.entries
  pub each : (i : ℕ) → entry_at h.entries i
      ≡ record (entry_at g.entries i) { end = if is_asked (asking g.entries g.margin t (end_of g.entries) t next) i then renewal (entry_at g.entries i) t else (entry_at g.entries i).end }

-- after such a round the rest of the plan is what planning anew gives, and no need is shortened
abbrev pub TailKeptLaw : Type 0
TailKeptLaw =
    (g h : Forest) (t : ℕ) (ts : List ℕ) → IsForest g → IsPlanOf g t (t ∷ ts) → IsAnsweredByRule g h t (first_of ts) →
    (shorten h t ≡ h) × ((pairs h t ≡ []) × IsPlanOf h t ts)

-- a round never opens with nobody to ask
abbrev pub SomeoneLaw : Type 0
SomeoneLaw =
    (g : Forest) (s t : ℕ) (ts : List ℕ) → IsForest g → IsPlanOf g s (t ∷ ts) →
    0 < length (asks g.entries g.margin s (end_of g.entries) t (first_of ts))

-- the forces of a plan stay forces: until its first moment, and after such a round
abbrev pub StillForcedLaw : Type 0
StillForcedLaw =
    (g : Forest) (s : ℕ) (x : Force) (xs : List Force) → IsForest g → IsPlanOf g s (moments_of (x ∷ xs)) → AllForcedAs g.entries g.margin s (end_of g.entries) None (x ∷ xs) →
    ((t : ℕ) → t ≤ x.at → AllForcedAs g.entries g.margin t (end_of g.entries) None (x ∷ xs))
    × ((h : Forest) → IsAnsweredByRule g h x.at (first_of (moments_of xs)) → AllForcedAs h.entries h.margin x.at (end_of h.entries) None xs)

-- planning anew gives no more wake-ups than the plan in force has: at whatever later moment, and at the moment of a round,
-- whatever the answers to it
abbrev pub NoLongerLaw : Type 0
NoLongerLaw =
    ((g : Forest) (s t : ℕ) (ts us : List ℕ) → IsForest g → s ≤ t → IsPlanOf g s ts → IsPlanOf (shorten g t) t us → length us ≤ length ts)
    × ((g h : Forest) (t : ℕ) (ts us : List ℕ) → IsForest g → IsForest h → IsPlanOf g t (t ∷ ts) → ForestIsAnswered g h t (first_of ts) → IsPlanOf (shorten h t) t us →
    length us ≤ length (t ∷ ts))
