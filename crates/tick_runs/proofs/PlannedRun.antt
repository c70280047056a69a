-- The planned rehearsal: it comes to its end, and makes the plan's wake-ups.
use Rattle.std.proofs.Common.{◌≡◌, ◌∙◌, ℕ, ◌+◌, ◌<◌, ◌≤◌, List, [], ◌++◌, Some, Result, Ok, Err, ap, arith, inl, inr, length, subst, sym}
use Rattle.std.proofs.lemmas.List.{length-map}
use Rattle.std.specs.Io.KnownBytes.{Appends}
use Rattle.base_device.specs.Seen.{Change}
use Rattle.base_moment.specs.declared.moment.TheConstants.{LAST}
use Rattle.plan_rule.specs.{declared.force.Force.Force, Runs.moments_of}
use Rattle.plan_search.specs.{declared.decision.Decision.TheVariants.Keep, Decides.Decides, Planned.Planned, Planned.to_come}
use Rattle.tick_keeper.specs.Replan.{IsPlanOf}
use Rattle.vault_start.specs.Start.{inventory_at}
use Rattle.vault_inventory.specs.Inventories.{Inventory}
use Rattle.vault_start.proofs.Started.{start_law}
use Rattle.broker_rule.specs.declared.fault.NumberedFault.{NumberedFault}
use Rattle.vault_exchange.specs.Exchanges.{Behind}
use Rattle.program_report.specs.declared.exit.Exit.TheVariants as exits
use Rattle.program_report.specs.Sent.{IsAll}
use Rattle.tick_runs.specs.{FaultWords.faults_from, FaultWords.faults_of, PlannedRehearsal.IsPlannedRun, PlannedRehearsal.PlannedRehearsalLaw, Rehearse.RunsLong, Text.course_text}
use Rattle.tick_runs.specs.Closed.{IsClosedRun, RunCourse, World, rounds}
use Rattle.tick_runs.proofs.Goes.{joins, wakes_join}
use Rattle.tick_runs.proofs.Whole.{more_to_come, opening_fits, planned_run, rehearsal}

none_written : (faults : List NumberedFault) → faults_of [] ≡ Ok faults → faults ≡ []
unfolding faults_from
none_written faults e = (let same : ◌≡◌ {A = Result (List NumberedFault) ℕ} (Ok []) (Ok faults) = e in cc)

none_bad : (position : ℕ) → faults_of [] ≡ Err position → ⊥
unfolding faults_from
none_bad position e = (let bad : ◌≡◌ {A = Result (List NumberedFault) ℕ} (Ok []) (Err position) = e in cc)

one_inventory : (start : ℕ) (bytes : List ℕ) (a b : Inventory) → inventory_at start bytes ≡ Ok a → inventory_at start bytes ≡ Ok b → b ≡ a
one_inventory start bytes a b x y = (let same = sym y ∙ x in cc)

no_round : (n m : ℕ) → n < m → m ≤ 100000 → n ≡ 100000 → ⊥
no_round n m less most is = omega (arith, less, most, is)

-- the run as it is done
done_as_planned :
    (bytes : List ℕ) (inventory : Inventory) (start : ℕ) (p : Planned) (course : RunCourse) (final : World) (out : Change) (new : Behind) → inventory_at start bytes ≡ Ok inventory → start ≤ LAST → Decides inventory.forest start (Keep p) → length (to_come p) ≤ 100000 →
    IsClosedRun inventory [] start course final → IsAll (course_text inventory course) out → final.behind ≡ Some new → IsPlannedRun inventory start p out new
done_as_planned bytes inventory start p course final out new read late decides few run sent left =
    let ts = moments_of (to_come p) in
    let plan : IsPlanOf inventory.forest start ts = decides.best.least in
    let count : length ts ≡ length (to_come p) = length-map (to_come p) (λ (x : Force). x.at) in
    let is = rehearsal inventory start ts (start_law start bytes inventory read) late plan (omega arith) course final run in
    let text = planned_run bytes inventory start p read late decides few course final run in
    record {
      course = course;
      final = final;
      run = run;
      moments = is.0;
      quiet = is.1.1.1;
      sent = (subst (Appends out.old.output.written out.new.output.written) text.1 sent.0, sent.1);
      left = left;
    }

-- it does not stop
not_long :
    (bytes : List ℕ) (inventory : Inventory) (start : ℕ) (p : Planned) (out : Change) (behind : Behind) → inventory_at start bytes ≡ Ok inventory → start ≤ LAST → Decides inventory.forest start (Keep p) → length (to_come p) ≤ 100000 → RunsLong inventory [] start out behind → ⊥
not_long bytes inventory start p out behind read late decides few (inl long) =
    let ts = moments_of (to_come p) in
    let plan : IsPlanOf inventory.forest start ts = decides.best.least in
    let count : length ts ≡ length (to_come p) = length-map (to_come p) (λ (x : Force). x.at) in
    opening_fits inventory.forest start ts plan (omega arith) long.0
not_long bytes inventory start p out behind read late decides few (inr long) =
    let ts = moments_of (to_come p) in
    let plan : IsPlanOf inventory.forest start ts = decides.best.least in
    let count : length ts ≡ length (to_come p) = length-map (to_come p) (λ (x : Force). x.at) in
    let stopped = long.2 in
    let so_far = stopped.so_far in
    let more = stopped.more in
    let beats = so_far.beats ++ more.beats in
    let played = joins 8200 inventory.credentials so_far.opening long.0 more.mid (Some start) (Some stopped.due) (Some more.at) so_far.beats more.beats so_far.played more.played in
    let less = more_to_come inventory start ts (start_law start bytes inventory read) late plan (omega arith) so_far.short so_far.opening more.mid beats more.at so_far.opened played more.asked more.keeper more.turn in
    let all : length (rounds beats) ≡ length (rounds so_far.beats) + length (rounds more.beats) = wakes_join so_far.beats more.beats in
    let none = ap length more.none_asked in
    let made = so_far.wakes_are in
    no_round (length (rounds beats)) (length ts) less (omega arith) (omega arith)

pub planned_rehearsal : PlannedRehearsalLaw
planned_rehearsal bytes inventory start p exits.Done out old new read late decides few run =
    let same = one_inventory start bytes inventory run.0 read run.2.read in
    let none = none_written run.1 run.2.faults_are in
    let closed : IsClosedRun inventory [] start run.3 run.4 = subst (λ s. IsClosedRun s [] start run.3 run.4) same (subst (λ fs. IsClosedRun run.0 fs start run.3 run.4) none run.5) in
    done_as_planned bytes inventory start p run.3 run.4 out new read late decides few closed (subst (λ s. IsAll (course_text s run.3) out) same run.6) run.7
planned_rehearsal bytes inventory start p exits.Inventory out old new read late decides few run = absurd (let bad = sym read ∙ run.1 in cc)
planned_rehearsal bytes inventory start p exits.CommandLine out old new read late decides few run = none_bad run.2 run.3
planned_rehearsal bytes inventory start p exits.TooLong out old new read late decides few run =
    let same = one_inventory start bytes inventory run.0 read run.2.read in
    let none = none_written run.1 run.2.faults_are in
    not_long bytes inventory start p out new read late decides few (subst (λ s. RunsLong s [] start out new) same (subst (λ fs. RunsLong run.0 fs start out new) none run.3))
planned_rehearsal bytes inventory start p exits.Unkeepable out old new read late decides few run = absurd run
planned_rehearsal bytes inventory start p exits.No out old new read late decides few run = absurd run
planned_rehearsal bytes inventory start p _ out old new read late decides few run = tt
