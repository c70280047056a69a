-- Opened: the keeper that was made goes on, or what kept it from being made stops the run; for the rehearsal and the live run.
use Rattle.std.proofs.Common.{◌≡◌, ℕ, Result, Ok, Err, IfOk, IfErr, ◌⊎◌, inl, inr, subst, sym}
use Rattle.plan_forest.specs.Forest.{Forest}
use Rattle.tick_keeper.specs.{State.CoreState, State.unplanned, declared.fault.StepFault.StepFault}
use Rattle.tick_keeper.specs.Replan.{PlanFails, Replan, ReplanTooLong}
use Rattle.tick_keeper.specs.declared.fault.StepFault.TheVariants.{TooLong, OutOfMemory}
use Rattle.program_report.specs.declared.stop.Stop.{Stop}
use Rattle.program_report.specs.declared.stop.Stop.TheVariants as stops
use Rattle.tick_runs.specs.code.Playing.{IsPlanFault, stop_of}

plan_fault : (g : Forest) (t : ℕ) (fault : StepFault) → PlanFails g t fault → IsPlanFault fault
plan_fault g t TooLong fails = tt
plan_fault g t OutOfMemory fails = tt
plan_fault g t _ fails = absurd fails

stops_long : (g : Forest) (t : ℕ) (fault : StepFault) (stop : Stop) → PlanFails g t fault → stop ≡ stop_of fault → (stop ≡ stops.Memory) ⊎ ((stop ≡ stops.TooLong) × ReplanTooLong g t)
stops_long g t TooLong stop fails is = inr (is, fails)
stops_long g t OutOfMemory stop fails is = inl is
stops_long g t _ stop fails is = absurd fails

same_keeper : (a b : CoreState) → ◌≡◌ {A = Result CoreState Stop} (Ok a) (Ok b) → a ≡ b
same_keeper a b is = cc

same_stop : (a b : Stop) → ◌≡◌ {A = Result CoreState Stop} (Err a) (Err b) → a ≡ b
same_stop a b is = cc

no_keeper : (k : CoreState) (stop : Stop) → ◌≡◌ {A = Result CoreState Stop} (Ok k) (Err stop) → ⊥
no_keeper k stop is = cc

-- what may keep a keeper from being made
pub refused_as : (g : Forest) (t : ℕ) (made : Result CoreState (StepFault × Forest)) → IfErr made (λ refused. PlanFails g t refused.0 × (refused.1 ≡ g)) → IfErr made (λ refused. IsPlanFault refused.0)
refused_as g t (Ok k) fails = tt
refused_as g t (Err refused) fails = plan_fault g t refused.0 fails.0

-- the keeper that goes on is planned from the start
pub planned_as :
    (g : Forest) (t : ℕ) (made : Result CoreState (StepFault × Forest)) (k : CoreState) → IfOk made (λ keeper. Replan (unplanned g) t keeper) → IfOk made (λ keeper. ◌≡◌ {A = Result CoreState Stop} (Ok k) (Ok keeper)) →
    IfErr made (λ refused. ◌≡◌ {A = Result CoreState Stop} (Ok k) (Err (stop_of refused.0))) → Replan (unplanned g) t k
planned_as g t (Ok made) k planned keeper stop = subst (Replan (unplanned g) t) (sym (same_keeper k made keeper)) planned
planned_as g t (Err refused) k planned keeper stop = absurd (no_keeper k (stop_of refused.0) stop)

-- what stops the run is what kept it from being made
pub stopped_as :
    (g : Forest) (t : ℕ) (made : Result CoreState (StepFault × Forest)) (stop : Stop) → IfErr made (λ refused. PlanFails g t refused.0 × (refused.1 ≡ g)) → IfOk made (λ keeper. ◌≡◌ {A = Result CoreState Stop} (Err stop) (Ok keeper)) →
    IfErr made (λ refused. ◌≡◌ {A = Result CoreState Stop} (Err stop) (Err (stop_of refused.0))) → (stop ≡ stops.Memory) ⊎ ((stop ≡ stops.TooLong) × ReplanTooLong g t)
stopped_as g t (Ok made) stop fails keeper is_stop = absurd (no_keeper made stop (sym keeper))
stopped_as g t (Err refused) stop fails keeper is_stop = stops_long g t refused.0 stop fails.0 (same_stop stop (stop_of refused.0) is_stop)
