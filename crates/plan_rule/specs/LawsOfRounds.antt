-- Laws of rounds: what is least and latest, and what its Asks are, while time passes and from one round to the next.
-- Each is the contract of a public function without a body.
use Rattle.std.specs.Prelude.{◌≡◌, ℕ, ◌≤◌, List, ◌∷◌, Option}
use Rattle.std.specs.List.{All}
use Rattle.plan_forest.specs.{declared.entry.Entry.Entry, Forest.Forest, Push.IsForest}
use Rattle.plan_rule.specs.{declared.wake.Wake.Wake, Asks.asking, Asks.asks, Asks.first_of, Asks.with_asks, Ends.ends_after_wake_up, Keeps.Keeps, Least.IsLeastAndLatest, Plans.IsPlan, Plans.moments, Requests.requests, Requests.times_asked}

-- moments that are least and latest from s are so from each later start that comes after none of them
abbrev pub LaterStartLaw : Type 0
LaterStartLaw =
    (es : List Entry) (margin s t : ℕ) (ends : ℕ → ℕ) (ts : List ℕ) → s ≤ t → All (λ u. t ≤ u) ts →
    IsLeastAndLatest es margin s ends ts → IsLeastAndLatest es margin t ends ts

-- the Asks at u are the same from every start that does not come after u
abbrev pub SameAsksLaw : Type 0
SameAsksLaw =
    (es : List Entry) (margin s t u : ℕ) (ends : ℕ → ℕ) (next : Option ℕ) → s ≤ u → t ≤ u →
    asks es margin s ends u next ≡ asks es margin t ends u next

-- and so is a list of moments with its Asks, from every start that comes after none of them
abbrev pub SameRequestsLaw : Type 0
SameRequestsLaw =
    (es : List Entry) (margin s t : ℕ) (ends : ℕ → ℕ) (ts : List ℕ) → All (λ u. s ≤ u) ts → All (λ u. t ≤ u) ts →
    with_asks es margin s ends ts ≡ with_asks es margin t ends ts

-- after the round of the first moment, with its Asks, the moments that are left are least and latest from that round on
abbrev pub TailLaw : Type 0
TailLaw =
    (g : Forest) (s t : ℕ) (ends : ℕ → ℕ) (ts : List ℕ) → IsForest g → IsLeastAndLatest g.entries g.margin s ends (t ∷ ts) →
    IsLeastAndLatest g.entries g.margin t (ends_after_wake_up g.entries g.margin ends (asking g.entries g.margin s ends t (first_of ts))) ts

-- no plan that keeps asks an entry at fewer of its wake-ups than the Asks at the same moments do
abbrev pub FewestTimesLaw : Type 0
FewestTimesLaw =
    (es : List Entry) (margin s : ℕ) (ends : ℕ → ℕ) (plan : List Wake) → IsPlan s plan → Keeps es margin s ends plan →
    (i : ℕ) → times_asked (with_asks es margin s ends (moments plan)) i ≤ times_asked plan i

-- so none makes fewer requests in all
abbrev pub FewestRequestsLaw : Type 0
FewestRequestsLaw =
    (es : List Entry) (margin s : ℕ) (ends : ℕ → ℕ) (plan : List Wake) → IsPlan s plan → Keeps es margin s ends plan →
    requests (with_asks es margin s ends (moments plan)) ≤ requests plan
