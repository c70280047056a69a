-- Laws of the runs. Each is the contract of a public function without a body.
use Rattle.std.specs.Prelude.{◌≡◌, ◌⊎◌, ℕ, ◌≤◌, List, Option, None, Some, Ok, codes, length}
use Rattle.base_moment.specs.declared.moment.TheConstants.{LAST}
use Rattle.plan_forest.specs.{Forest.Forest, Push.IsForest}
use Rattle.plan_search.specs.{declared.decision.Decision.Decision, Decides.Decides}
use Rattle.plan_certificate.specs.{declared.cert.Cert.Cert, Printing.PrintsClaim, Printing.claim, Reading.certificate_of, declared.cert.TheConstants.MOST_CERTIFICATE}
use Rattle.plan_check.specs.{declared.answer.Answer.Answer, declared.answer.Answer.TheVariants.Yes, Answer.IsCertificateAnswer, Fit.CanBeJudged}
use Rattle.vault_inventory.specs.Inventories.{Inventory}
use Rattle.program_report.specs.declared.exit.Exit.{Exit}
use Rattle.program_report.specs.declared.exit.Exit.TheVariants as exits
use Rattle.vault_start.specs.Start.{inventory_at}
use Rattle.plan_commands.specs.PlanRun.{IsCertified}
use Rattle.plan_commands.specs.CheckRun.{IsAccepted, IsJudged, stated_start}

-- what is printed of a decision for a forest is read back over it as a certificate that can be judged, and each right
-- answer to that is Yes
abbrev pub OwnCertificateLaw : Type 0
OwnCertificateLaw =
    (g : Forest) (s : ℕ) (d : Decision) (text : List ℕ) → IsForest g → s ≤ LAST → Decides g s d → PrintsClaim g.entries s (claim d) (Ok text) →
    (c : Cert) × (certificate_of g.entries text ≡ Ok c) × CanBeJudged g c.body × ((answer : Answer) → IsCertificateAnswer g c answer → answer ≡ Yes)

-- a text that `check` accepts with `yes`, with no other line and no other exit, whether this start is asked for or none; that is
-- short enough to be read; and that states this start, so that `check` reads the inventory from it on
pub record IsOwnText (g : Forest) (s : ℕ) (text : List ℕ) : Type 0 where
  pub accepted : IsAccepted (Some s) g text (codes "yes\n")
  pub alone : (asked : Option ℕ) → (asked ≡ None) ⊎ (asked ≡ Some s) → (exit : Exit) (line : List ℕ) → IsJudged asked g text exit line → (exit ≡ exits.Done) × (line ≡ codes "yes\n")
  pub short : length text ≤ MOST_CERTIFICATE
  pub stated : stated_start text ≡ s

-- what `plan` writes of the bytes of an inventory and a start, of whichever exit, is such a text over the forest from that start on
abbrev pub OwnTextLaw : Type 0
OwnTextLaw =
    (bytes : List ℕ) (inventory : Inventory) (s : ℕ) (exit : Exit) (text : List ℕ) → inventory_at s bytes ≡ Ok inventory → s ≤ LAST → IsCertified inventory.forest s exit text →
    IsForest inventory.forest × IsOwnText inventory.forest s text

-- a forest and a start have one text of `plan`, and one exit: nothing else shows in them
abbrev pub OnePlanText : Type 0
OnePlanText = (g : Forest) (s : ℕ) (exit exit' : Exit) (text other : List ℕ) → IsCertified g s exit text → IsCertified g s exit' other → (exit ≡ exit') × (text ≡ other)

-- a forest, a certificate's text and the start that is asked for have one line of `check`, and one exit: nothing else shows in
-- them
abbrev pub OneCheckText : Type 0
OneCheckText =
    (asked : Option ℕ) (g : Forest) (text : List ℕ) (exit exit' : Exit) (line other : List ℕ) → IsForest g → IsJudged asked g text exit line → IsJudged asked g text exit' other →
    (exit ≡ exit') × (line ≡ other)
