-- Answer: what a certificate gets, over the wake-ups that its runs mean.
-- Source: this project's own.
use Rattle.std.specs.Prelude.{◌≡◌, ℕ, ◌<◌, List, Option, Some, None}
use Rattle.plan_forest.specs.Forest.{Forest, end_of, entry_at}
use Rattle.plan_rule.specs.{Asks.with_asks, Unkeepable.Unkeepable, declared.force.Force.Force, Runs.all_wakes, Runs.moments_of}
use Rattle.plan_certificate.specs.{declared.cert.Body.Body, declared.cert.Cert.Cert}
use Rattle.plan_certificate.specs.declared.cert.Body.TheVariants as body
use Rattle.plan_check.specs.{declared.answer.Answer.Answer, declared.answer.Cause.Cause, Kept.KeptTo, Walk.fault}
use Rattle.plan_check.specs.declared.answer.Answer.TheVariants.{No, Yes}
use Rattle.plan_check.specs.declared.answer.Cause.TheVariants.{NotKept, NotUnkeepable}

-- i is kept to its need when each of these wake-ups asks its Asks
abbrev pub EntryIsKept : Forest → ℕ → List Force → ℕ → Type 0
EntryIsKept g s ws i = KeptTo g.entries g.margin s (end_of g.entries) (with_asks g.entries g.margin s (end_of g.entries) (moments_of ws)) i (entry_at g.entries i).need

-- the first wake-up that does not rise or is not forced
abbrev pub first_fault : Forest → ℕ → List Force → Option Cause
first_fault g s ws = fault g.entries g.margin s (end_of g.entries) None 1 ws

-- wake-ups get the first fault of the walk; if there is none, the lowest entry that is not kept; if there is none, Yes
abbrev pub IsWalkAnswer : Forest → ℕ → List Force → Answer → Type 0
IsWalkAnswer g s ws Yes = (first_fault g s ws ≡ None) × ((i : ℕ) → EntryIsKept g s ws i)
IsWalkAnswer g s ws (No (NotKept i)) = (first_fault g s ws ≡ None) × ((EntryIsKept g s ws i → ⊥) × ((j : ℕ) → j < i → EntryIsKept g s ws j))
IsWalkAnswer g s ws (No cause) = first_fault g s ws ≡ Some cause

-- a pair gets Yes where it is Unkeepable
abbrev pub IsPairAnswer : Forest → ℕ → ℕ → ℕ → Answer → Type 0
IsPairAnswer g s entry needed Yes = Unkeepable g.entries g.margin s (end_of g.entries) entry needed
IsPairAnswer g s entry needed (No NotUnkeepable) = Unkeepable g.entries g.margin s (end_of g.entries) entry needed → ⊥
IsPairAnswer g s entry needed (No cause) = ⊥

abbrev pub IsBodyAnswer : Forest → ℕ → Body → Answer → Type 0
IsBodyAnswer g s (body.Runs rs) answer = IsWalkAnswer g s (all_wakes rs) answer
IsBodyAnswer g s (body.Unkeepable entry needed) answer = IsPairAnswer g s entry needed answer

-- the answer to a certificate, from its own start
abbrev pub IsCertificateAnswer : Forest → Cert → Answer → Type 0
IsCertificateAnswer g c answer = IsBodyAnswer g c.start c.body answer
