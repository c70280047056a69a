-- Own texts: what `plan` writes is a certificate that gets Yes, and short enough to be read, so that `check` says `yes`.
use Rattle.std.proofs.Common.{◌≡◌, ◌⊎◌, inl, inr, ℕ, ◌≤◌, List, Option, None, Some, Ok, ap, codes, length, refl, sym, subst, arith}
use Rattle.base_moment.specs.declared.moment.TheConstants.{LAST}
use Rattle.plan_forest.specs.{Forest.Forest, Push.IsForest}
use Rattle.plan_rule.specs.declared.run.Run.{Run}
use Rattle.plan_search.specs.declared.decision.Decision.TheVariants as decision
use Rattle.plan_search.specs.Decides.{AreBest}
use Rattle.plan_certificate.specs.{declared.cert.Body.Body, declared.cert.Cert.Cert, declared.cert.Version.TheVariants.Two, CertificateText.IsCertificateBody, CertificateText.certificate_text, Printing.certified, Reading.certificate_of}
use Rattle.plan_certificate.specs.{declared.cert.TheConstants.MOST_CERTIFICATE}
use Rattle.plan_certificate.specs.declared.cert.Body.TheVariants as body
use Rattle.plan_certificate.proofs.{ReadBackAll.written_is_read, Stated.start_stated}
use Rattle.plan_certificate.proofs.Printing.{claim_is_body, counted_wakes, runs_within}
use Rattle.plan_check.specs.{declared.answer.Answer.TheVariants.Yes, Answer.IsCertificateAnswer}
use Rattle.plan_check.proofs.{Answers.yes_holds, Written.body_fits}
use Rattle.vault_start.proofs.Started.{start_law}
use Rattle.program_report.specs.declared.exit.Exit.{Exit}
use Rattle.program_report.specs.declared.exit.Exit.TheVariants as exits
use Rattle.plan_commands.specs.{Laws.IsOwnText, Laws.OwnTextLaw, PlanRun.IsCertified}
use Rattle.plan_commands.specs.CheckRun.{IsAccepted, StartsAsAsked, or_zero, stated_start}
use Rattle.plan_commands.proofs.{OneText.one_check_text, Own.best_gets_yes, Sizes.HasFewRuns, Sizes.certificate_size}

-- the runs of a plan are those of a certificate
best_is_body : (g : Forest) (s : ℕ) (rs : List Run) → IsForest g → AreBest g s rs → IsCertificateBody Two g.entries (body.Runs rs)
best_is_body g s rs forest best =
    let few_runs = best.few_runs in
    let entries = forest.few in
    let few = best.few in
    let same = counted_wakes rs in
    (runs_within g forest s None rs best.runs best.forces, (omega arith, omega arith))

-- no start, or its own, is what a certificate starts as
own_start : (s : ℕ) (c : Cert) → c.start ≡ s → (asked : Option ℕ) → (asked ≡ None) ⊎ (asked ≡ Some s) → StartsAsAsked asked c
own_start s c is asked (inl none) = subst (λ (o : Option ℕ). StartsAsAsked o c) (sym none) tt
own_start s c is asked (inr own) = subst (λ (o : Option ℕ). StartsAsAsked o c) (sym own) is

is_stated : (g : Forest) (text : List ℕ) (c : Cert) → certificate_of g.entries text ≡ Ok c → stated_start text ≡ c.start
unfolding stated_start
is_stated g text c read = ap or_zero (start_stated g.entries text c read)

body_accepted : (g : Forest) (s : ℕ) (b : Body) (text : List ℕ) → IsForest g → s ≤ LAST → IsCertificateBody Two g.entries b → HasFewRuns g b → IsCertificateAnswer g (certified s b) Yes
    → text ≡ certificate_text g.entries (certified s b) → IsOwnText g s text
body_accepted g s b text forest start is few right spelled =
    let c = certified s b in
    let accepted : (asked : Option ℕ) → StartsAsAsked asked c → IsAccepted asked g text (codes "yes\n") =
    λ asked starts. record {
      cert = c;
      writes = record { certificate = (start, is); spelled = spelled };
      starts = starts;
      answer = right;
      holds = yes_holds g c (body_fits g Two b is) right;
      spelled = refl;
    } in
    record {
      accepted = accepted (Some s) refl;
      alone = λ asked own exit line judged. one_check_text asked g text exit exits.Done line (codes "yes\n") forest judged (accepted asked (own_start s c refl asked own));
      short = subst (λ t. length t ≤ MOST_CERTIFICATE) (sym spelled) (certificate_size g forest s start b is few);
      stated = is_stated g text c (written_is_read g forest text c (record { certificate = (start, is); spelled = spelled }));
    }

certified_is_own : (g : Forest) (s : ℕ) (exit : Exit) (text : List ℕ) → IsForest g → s ≤ LAST → IsCertified g s exit text → IsOwnText g s text
certified_is_own g s exits.Done text forest start is =
    body_accepted g s (body.Runs is.runs) text forest start (best_is_body g s is.runs forest is.best) is.best.few_runs (best_gets_yes g s is.runs forest is.best) is.spelled
certified_is_own g s exits.Unkeepable text forest start is =
    let pair = body.Unkeepable is.entry is.needed in
    body_accepted g s pair text forest start (claim_is_body g s (decision.Unkeepable is.entry is.needed) pair forest (is.short, is.none) refl) tt is.short.pair is.spelled
certified_is_own g s _ text forest start is = absurd is

pub own_text : OwnTextLaw
own_text bytes inventory s exit text read start is =
    let forest = (start_law s bytes inventory read).forest in
    (forest, certified_is_own inventory.forest s exit text forest start is)
