-- Words for the parts of the run `check`. No public clause cites them.
use Rattle.std.specs.Prelude.{◌≡◌, ◌⊎◌, ℕ, ◌<◌, List, Option, codes}
use Rattle.plan_forest.specs.Forest.{Forest}
use Rattle.plan_certificate.specs.declared.cert.Cert.{Cert}
use Rattle.plan_check.specs.{declared.answer.Cause.Cause, Answer.IsCertificateAnswer, Laws.ClaimHolds}
use Rattle.plan_check.specs.declared.answer.Answer.TheVariants.{No, Yes}
use Rattle.plan_check.specs.declared.answer.Cause.TheVariants.{NotForced, NotKept, NotRising, NotUnkeepable}
use Rattle.program_report.specs.declared.exit.Exit.{Exit}
use Rattle.program_report.specs.declared.exit.Exit.TheVariants as exits
use Rattle.plan_commands.specs.{CheckRun.StartsAsAsked, CheckText.no_line, Running.Texts}

-- the entry that a cause names is one of n
abbrev pub CauseIsNamed : ℕ → Cause → Type 0
CauseIsNamed n (NotRising k) = Unit {0}
CauseIsNamed n (NotForced k) = Unit {0}
CauseIsNamed n (NotKept i) = i < n
CauseIsNamed n NotUnkeepable = Unit {0}

-- the line about a certificate that goes with an exit
abbrev pub IsVerdict : Forest → Cert → Exit → List ℕ → Type 0
IsVerdict g c exits.Done line = IsCertificateAnswer g c Yes × (ClaimHolds g c.start c.body × (line ≡ codes "yes\n"))
IsVerdict g c exits.No line = (cause : Cause) × IsCertificateAnswer g c (No cause) × (line ≡ no_line g.entries cause)
IsVerdict g c exit line = ⊥

abbrev pub VerdictTexts : Cert → Texts
VerdictTexts c g exit line = IsVerdict g c exit line

-- the line about a certificate and the start that is asked for
abbrev pub IsStartVerdict : Option ℕ → Forest → Cert → Exit → List ℕ → Type 0
IsStartVerdict asked g c exit line =
    (StartsAsAsked asked c × IsVerdict g c exit line) ⊎ ((StartsAsAsked asked c → ⊥) × (exit ≡ exits.No) × (line ≡ codes "no start\n"))

abbrev pub StartTexts : Option ℕ → Cert → Texts
StartTexts asked c g exit line = IsStartVerdict asked g c exit line
