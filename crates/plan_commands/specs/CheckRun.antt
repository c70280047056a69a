-- The run `check`: which line goes with which exit.
-- Source: this project's own.
use Rattle.std.specs.Prelude.{◌≡◌, ℕ, ◌⊎◌, List, Option, Some, IfSome, Result, Ok, Err, codes}
use Rattle.base_device.specs.Seen.{Change}
use Rattle.plan_forest.specs.Forest.{Forest}
use Rattle.plan_certificate.specs.{declared.cert.Cert.Cert, declared.fault.CertFault.CertFault, CertificateText.WritesCertificate, Reading.certificate_of, Reading.text_start}
use Rattle.plan_check.specs.{declared.answer.Cause.Cause, Answer.IsCertificateAnswer, Laws.ClaimHolds}
use Rattle.plan_check.specs.declared.answer.Answer.TheVariants.{No, Yes}
use Rattle.program_report.specs.declared.exit.Exit.{Exit}
use Rattle.program_report.specs.declared.exit.Exit.TheVariants as exits
use Rattle.plan_commands.specs.CheckText.{no_line, unreadable_line}
use Rattle.plan_commands.specs.Running.{NoHalts, RunOf, Texts}
use Rattle.vault_start.specs.Start.{inventory_at}

abbrev pub or_zero : Result ℕ CertFault → ℕ
or_zero (Ok s) = s
or_zero (Err fault) = 0

-- the start that a certificate's text states, 0 where it states none
unfoldable pub stated_start : List ℕ → ℕ
stated_start text = or_zero (text_start text)

-- the certificate's start is the one that is asked for, if one is
abbrev pub StartsAsAsked : Option ℕ → Cert → Type 0
StartsAsAsked asked c = IfSome asked (λ s. c.start ≡ s)

-- the text writes a certificate from the start that is asked for that gets Yes: its moments are least and latest and keep, or
-- no plan keeps
pub record IsAccepted (asked : Option ℕ) (g : Forest) (text line : List ℕ) : Type 0 where
  pub cert : Cert
  pub writes : WritesCertificate g.entries text cert
  pub starts : StartsAsAsked asked cert
  pub answer : IsCertificateAnswer g cert Yes
  pub holds : ClaimHolds g cert.start cert.body
  pub spelled : line ≡ codes "yes\n"

-- the text writes a certificate from the start that is asked for that gets No for this cause
pub record IsRefused (asked : Option ℕ) (g : Forest) (text line : List ℕ) : Type 0 where
  pub cert : Cert
  pub writes : WritesCertificate g.entries text cert
  pub starts : StartsAsAsked asked cert
  pub cause : Cause
  pub answer : IsCertificateAnswer g cert (No cause)
  pub spelled : line ≡ no_line g.entries cause

-- the text writes a certificate from another start than the one that is asked for
pub record StartsElsewhere (asked : Option ℕ) (g : Forest) (text line : List ℕ) : Type 0 where
  pub cert : Cert
  pub writes : WritesCertificate g.entries text cert
  pub elsewhere : StartsAsAsked asked cert → ⊥
  pub spelled : line ≡ codes "no start\n"

-- the text writes no certificate: this is its first fault
pub record CertificateIsUnreadable (g : Forest) (text line : List ℕ) : Type 0 where
  pub fault : CertFault
  pub fails : certificate_of g.entries text ≡ Err fault
  pub spelled : unreadable_line fault ≡ Some line

-- the line about a text over a forest, and about the start that is asked for, that goes with an exit
abbrev pub IsJudged : Option ℕ → Forest → List ℕ → Exit → List ℕ → Type 0
IsJudged asked g text exits.Done line = IsAccepted asked g text line
IsJudged asked g text exits.No line = IsRefused asked g text line ⊎ (StartsElsewhere asked g text line ⊎ CertificateIsUnreadable g text line)
IsJudged asked g text exit line = ⊥

abbrev pub CheckTexts : Option ℕ → List ℕ → Texts
CheckTexts asked text g exit line = IsJudged asked g text exit line

-- `check` over the bytes of an inventory, from the start on that the certificate states, and of the certificate, with the start that
-- is asked for, if one is
abbrev pub CheckRun : List ℕ → List ℕ → Option ℕ → Exit → Change → Change → Type 0
CheckRun bytes text asked exit out errors = RunOf (CheckTexts asked text) NoHalts (inventory_at (stated_start text) bytes) exit out errors
