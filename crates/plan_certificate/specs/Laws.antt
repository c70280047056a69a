-- Laws of the text: what is read is what was written, and each certificate is read from its text.
use Rattle.std.specs.Prelude.{◌≡◌, ℕ, ◌≤◌, List, Some, Ok}
use Rattle.base_moment.specs.declared.moment.TheConstants.{LAST}
use Rattle.plan_forest.specs.{declared.entry.Entry.Entry, Forest.Forest, Push.IsForest}
use Rattle.plan_search.specs.{declared.decision.Decision.Decision, Decides.Decides}
use Rattle.plan_certificate.specs.{declared.cert.Body.Body, declared.cert.Cert.Cert, CertificateText.WritesCertificate, CertificateText.certificate_text, Reading.certificate_of, Reading.text_start}
use Rattle.plan_certificate.specs.Printing.{IsDecisionOver, certified, claim}

-- a text that is read writes the certificate
abbrev pub CertificateReadIsWritten : Type 0
CertificateReadIsWritten = (es : List Entry) (text : List ℕ) (c : Cert) → certificate_of es text ≡ Ok c → WritesCertificate es text c

-- a text that writes a certificate over a forest is read as that certificate
abbrev pub CertificateWrittenIsRead : Type 0
CertificateWrittenIsRead = (g : Forest) → IsForest g → (text : List ℕ) (c : Cert) → WritesCertificate g.entries text c → certificate_of g.entries text ≡ Ok c

-- the start of a certificate is the one that its text states, whatever the names of the entries
abbrev pub StartIsStated : Type 0
StartIsStated = (es : List Entry) (text : List ℕ) (c : Cert) → certificate_of es text ≡ Ok c → text_start text ≡ Ok c.start

-- a decision for a forest has the indices of its entries
abbrev pub DecidedIsOf : Type 0
DecidedIsOf = (g : Forest) (s : ℕ) (d : Decision) → IsForest g → Decides g s d → IsDecisionOver g.entries d

-- what is printed of a decision for a forest is read as what it claims
abbrev pub PrintedIsRead : Type 0
PrintedIsRead =
    (g : Forest) (s : ℕ) (d : Decision) (body : Body) → IsForest g → s ≤ LAST → Decides g s d → claim d ≡ Some body →
    certificate_of g.entries (certificate_text g.entries (certified s body)) ≡ Ok (certified s body)
