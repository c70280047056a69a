-- What a decision for a forest holds: it can be printed, and what is printed is read back.
use Rattle.std.proofs.Common.{◌≡◌, ℕ, zero, suc, ◌<◌, ◌≤◌, ◌++◌, List, [], ◌∷◌, Option, Some, None, length, refl, ap, subst, arith, inl, inr}
use Rattle.std.proofs.lemmas.Bool.{cases_lt}
use Rattle.plan_forest.specs.{declared.entry.Entry.Entry, Over.Over, Push.IsForest}
use Rattle.plan_forest.specs.Forest.{Forest, end_of, entry_at}
use Rattle.plan_forest.proofs.{Entries.entry_at_past, Placed.parents_first}
use Rattle.plan_rule.specs.{declared.force.Force.Force, declared.limit.TheConstants.LIMIT, declared.run.Run.Run}
use Rattle.plan_rule.specs.Runs.{all_wakes, wake_count, wakes, wakes_of}
use Rattle.plan_schedule.specs.Forces.{AreForces, IsForce}
use Rattle.plan_search.specs.{declared.decision.Decision.Decision, Decides.Decides, Planned.IsPlanned, Planned.Planned}
use Rattle.plan_search.specs.declared.decision.Decision.TheVariants as decision
use Rattle.plan_rule.specs.Runs as of_rule
use Rattle.plan_schedule.proofs.Bridge.{over_at_most}
use Rattle.plan_search.proofs.Walking.{length_all_cons}
use Rattle.plan_certificate.specs.{declared.cert.Body.Body, declared.cert.Version.TheVariants.Two, Laws.DecidedIsOf, Laws.PrintedIsRead, Printing.certified, Printing.claim}
use Rattle.plan_certificate.specs.declared.cert.Body.TheVariants.{Runs, Unkeepable}
use Rattle.plan_certificate.specs.CertificateText.{AreRunsOf, IsCertificateBody, certificate_text}
use Rattle.plan_certificate.proofs.{FoundRuns.all_among, FoundRuns.among, ReadBackAll.written_is_read}

-- the wake-ups of runs are counted by their lines
pub counted_wakes : (rs : List Run) → wake_count rs ≡ length (all_wakes rs)
counted_wakes [] = refl
counted_wakes (r ∷ rs) = let rest = counted_wakes rs in let here = length_all_cons r rs in omega arith

pub few_planned : (p : Planned) → IsPlanned p → wake_count p.runs ≤ LIMIT
few_planned p sound = let few = sound.few in let same = counted_wakes p.runs in omega arith

-- ---- the indices

-- an entry with a need is one of the forest
needed_within : (es : List Entry) (i : ℕ) → 0 < (entry_at es i).need → i < length es
needed_within es i some =
    elim (cases_lt i (length es)) [
      | inl within ↦ within
      | inr past ↦ absurd (let none : (entry_at es i).need ≡ 0 = ap (λ (e : Entry). e.need) (entry_at_past es i past) in omega arith)
    ]

over_within : (g : Forest) → IsForest g → (a f : ℕ) → Over g.entries a f → f < length g.entries → a < length g.entries
over_within g forest a f over within = let below = over_at_most g.entries (parents_first g forest) a f over in omega arith

force_within : (g : Forest) → IsForest g → (s : ℕ) (prev : Option ℕ) (x : Force) → IsForce g.entries g.margin s (end_of g.entries) prev x → (x.entry < length g.entries) × (x.needed < length g.entries)
force_within g forest s prev x force =
    let short = force.short in
    let need = force.from.need in
    let needed = needed_within g.entries x.needed (omega arith) in
    (over_within g forest x.entry x.needed force.from.over needed, needed)

-- the forces after the first wake-ups of a list
forces_behind : (es : List Entry) (margin s : ℕ) (ends : ℕ → ℕ) (prev : Option ℕ) (xs ys : List Force) → AreForces es margin s ends prev (xs ++ ys) → (later : Option ℕ) × AreForces es margin s ends later ys
forces_behind es margin s ends prev [] ys forces = (prev, forces)
forces_behind es margin s ends prev (x ∷ xs) ys forces = forces_behind es margin s ends (Some x.at) xs ys forces.1

-- the first wake-up of a run names its entries
first_of_run : (g : Forest) → IsForest g → (s : ℕ) (prev : Option ℕ) (first step n entry needed : ℕ) (rest : List Force) → 0 < n
    → AreForces g.entries g.margin s (end_of g.entries) prev (wakes_of first step n entry needed ++ rest) → (entry < length g.entries) × (needed < length g.entries)
unfolding wakes_of
first_of_run g forest s prev first step zero entry needed rest some forces = absurd (omega arith)
first_of_run g forest s prev first step (suc n) entry needed rest some forces =
    force_within g forest s prev (record { at = first; entry = entry; needed = needed }) forces.0

pub runs_within : (g : Forest) → IsForest g → (s : ℕ) (prev : Option ℕ) (rs : List Run) → of_rule.AreRuns rs → AreForces g.entries g.margin s (end_of g.entries) prev (all_wakes rs) → AreRunsOf Two g.entries rs
runs_within g forest s prev [] runs forces = tt
runs_within g forest s prev (r ∷ rs) runs forces =
    let here = first_of_run g forest s prev r.first r.step r.count r.entry r.needed (all_wakes rs) runs.0.moments.some forces in
    let later = forces_behind g.entries g.margin s (end_of g.entries) prev (wakes r) (all_wakes rs) forces in
    (record { among = record { entry = here.0; needed = here.1 }; run = runs.0; form = tt }, runs_within g forest s later.0 rs runs.1 later.1)

pub decided_is_of : DecidedIsOf
decided_is_of g s (decision.Keep p) forest decides = all_among (length g.entries) p.runs (among Two g.entries p.runs (runs_within g forest s None p.runs decides.best.runs decides.best.forces))
decided_is_of g s (decision.Unkeepable entry needed) forest decides =
    let later = decides.0.pair.later in
    let within = needed_within g.entries needed (omega arith) in
    (over_within g forest entry needed decides.0.pair.over within, within)
decided_is_of g s decision.TooLong forest decides = tt

-- ---- reading back

pub claim_is_body : (g : Forest) (s : ℕ) (d : Decision) (body : Body) → IsForest g → Decides g s d → claim d ≡ Some body → IsCertificateBody Two g.entries body
claim_is_body g s (decision.Keep p) body forest decides is =
    let runs = runs_within g forest s None p.runs decides.best.runs decides.best.forces in
    let few_runs = decides.best.few_runs in
    let entries = forest.few in
    let few = decides.best.few in
    let same = counted_wakes p.runs in
    let all : IsCertificateBody Two g.entries (Runs p.runs) = (runs, (omega arith, omega arith)) in
    let is' : Runs p.runs ≡ body = cc in
    subst (IsCertificateBody Two g.entries) is' all
claim_is_body g s (decision.Unkeepable entry needed) body forest decides is =
    let is' : Unkeepable entry needed ≡ body = cc in
    subst (IsCertificateBody Two g.entries) is' (decided_is_of g s (decision.Unkeepable entry needed) forest decides)
claim_is_body g s decision.TooLong body forest decides is = absurd cc

pub printed_is_read : PrintedIsRead
printed_is_read g s d body forest start decides is =
    written_is_read g forest (certificate_text g.entries (certified s body)) (certified s body) (record { certificate = (start, claim_is_body g s d body forest decides is); spelled = refl })
