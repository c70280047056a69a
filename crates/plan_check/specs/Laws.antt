-- Laws of the checker. Each is the contract of a public function without a body.
use Rattle.std.specs.Prelude.{◌≡◌, ◌↔◌, ℕ, ◌≤◌, ◌<◌, List, Option, true}
use Rattle.plan_forest.specs.{declared.entry.Entry.Entry, Over.Over, Push.IsForest}
use Rattle.plan_forest.specs.Forest.{Forest, end_of, entry_at}
use Rattle.plan_rule.specs.{declared.wake.Wake.Wake, Asks.with_asks, Forced.Forced, Keeps.Keeps, Least.IsLeastAndLatest, Plans.IsPlan, Schedule.RisesStrictly, Runs.all_wakes, Runs.moments_of}
use Rattle.plan_certificate.specs.{declared.cert.Body.Body, declared.cert.Cert.Cert, CertificateText.WritesCertificate}
use Rattle.plan_certificate.specs.declared.cert.Body.TheVariants as body
use Rattle.plan_check.specs.{declared.answer.Answer.Answer, declared.answer.Answer.TheVariants.Yes, Answer.IsCertificateAnswer, Fit.CanBeJudged, Kept.KeptTo, Kept.own, Walk.is_forced}

-- moments with their Asks keep an entry exactly where each entry over it, asked by itself, lasts until its need
abbrev pub KeptToLaw : Type 0
KeptToLaw =
    (g : Forest) (s : ℕ) (ends : ℕ → ℕ) (ts : List ℕ) → IsForest g → RisesStrictly s ts → (i : ℕ) → s < (entry_at g.entries i).need →
    KeptTo g.entries g.margin s ends (with_asks g.entries g.margin s ends ts) i (entry_at g.entries i).need
    ↔ ((a : ℕ) → Over g.entries a i → (entry_at g.entries i).need ≤ own g.entries g.margin ends ts a)

-- the test of a wake-up's force is Forced
abbrev pub ForcedTestLaw : Type 0
ForcedTestLaw =
    (es : List Entry) (margin s : ℕ) (ends : ℕ → ℕ) (prev : Option ℕ) (t entry needed : ℕ) →
    (is_forced es margin s ends prev t entry needed ≡ true) ↔ Forced es margin s ends prev t entry needed

-- at most one answer to a certificate is right
abbrev pub AnswerLaw : Type 0
AnswerLaw = (g : Forest) (c : Cert) (x y : Answer) → IsCertificateAnswer g c x → IsCertificateAnswer g c y → x ≡ y

-- what a certificate claims: its moments are least and latest, and with their Asks they keep; or no plan keeps
abbrev pub ClaimHolds : Forest → ℕ → Body → Type 0
ClaimHolds g s (body.Runs rs) =
    IsLeastAndLatest g.entries g.margin s (end_of g.entries) (moments_of (all_wakes rs))
    × Keeps g.entries g.margin s (end_of g.entries) (with_asks g.entries g.margin s (end_of g.entries) (moments_of (all_wakes rs)))
ClaimHolds g s (body.Unkeepable entry needed) = (plan : List Wake) → IsPlan s plan → Keeps g.entries g.margin s (end_of g.entries) plan → ⊥

-- what gets Yes holds
abbrev pub YesLaw : Type 0
YesLaw = (g : Forest) (c : Cert) → CanBeJudged g c.body → IsCertificateAnswer g c Yes → ClaimHolds g c.start c.body

-- a certificate that a text writes over a forest can be judged over it
abbrev pub WrittenIsJudgedLaw : Type 0
WrittenIsJudgedLaw = (g : Forest) (text : List ℕ) (c : Cert) → WritesCertificate g.entries text c → CanBeJudged g c.body
