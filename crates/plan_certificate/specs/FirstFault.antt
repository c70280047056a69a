-- First fault: what a fault says of a text, by the lines with which the text of some certificate begins.
-- Source: this project's own.
use Rattle.std.specs.Prelude.{◌≡◌, ◌≢◌, ℕ, ◌+◌, ◌<◌, List, [], ◌∷◌, ◌++◌, Err, length}
use Rattle.plan_forest.specs.{declared.entry.Entry.Entry, Forest.Forest, Push.IsForest}
use Rattle.plan_certificate.specs.{declared.cert.Cert.Cert, declared.fault.CertFault.CertFault, CertificateText.IsCertificate, CertificateText.certificate_text, Lines.lines, Reading.certificate_of}
use Rattle.plan_certificate.specs.declared.fault.CertFault.TheVariants.{BadHeader, BadLine, UnknownName, BadNumber, Truncated, Trailing, OutOfMemory}

-- lines, each with its line feed
abbrev pub whole_lines : List (List ℕ) → List ℕ
whole_lines [] = []
whole_lines (line ∷ ls) = line ++ 10 ∷ whole_lines ls

-- with these bytes the text of some certificate over these entries begins
abbrev pub BeginsCertificate : List Entry → List ℕ → Type 0
BeginsCertificate es text = (c : Cert) × IsCertificate es c × (rest : List ℕ) × (certificate_text es c ≡ text ++ rest)

-- the nth line has its line feed
abbrev pub HasFeed : List ℕ → ℕ → Type 0
HasFeed text n = n < length (lines text)

-- the nth line is the first at fault: the lines before it begin some certificate's text, and with it, where it has its line
-- feed, they begin none
pub record IsFirstAtFault (es : List Entry) (text : List ℕ) (n : ℕ) : Type 0 where
  pub before : List (List ℕ)
  pub line : List ℕ
  pub behind : List (List ℕ)
  pub parts : lines text ≡ before ++ line ∷ behind
  pub place : length before + 1 ≡ n
  pub begins : BeginsCertificate es (whole_lines before)
  pub stops : HasFeed text n → BeginsCertificate es (whole_lines (before ++ line ∷ [])) → ⊥

-- what a fault says of a text. A line without its line feed is a bad header or a bad line; a text is truncated where some
-- certificate's begins with it and goes on, and has something after it where it begins with some certificate's and goes on
abbrev pub SaysFault : List Entry → List ℕ → CertFault → Type 0
SaysFault es text BadHeader = IsFirstAtFault es text 1
SaysFault es text (BadLine n) = IsFirstAtFault es text n
SaysFault es text (BadNumber n) = HasFeed text n × IsFirstAtFault es text n
SaysFault es text (UnknownName n) = HasFeed text n × IsFirstAtFault es text n
SaysFault es text Truncated = (c : Cert) × IsCertificate es c × (rest : List ℕ) × (rest ≢ []) × (certificate_text es c ≡ text ++ rest)
SaysFault es text Trailing = (c : Cert) × IsCertificate es c × (rest : List ℕ) × (rest ≢ []) × (text ≡ certificate_text es c ++ rest)
SaysFault es text OutOfMemory = ⊥

-- so says the fault of each text that writes no certificate over a forest
abbrev pub CertificateFaultLaw : Type 0
CertificateFaultLaw = (g : Forest) → IsForest g → (text : List ℕ) (fault : CertFault) → certificate_of g.entries text ≡ Err fault → SaysFault g.entries text fault

-- at most one line of a text is the first at fault
abbrev pub OneFirstLaw : Type 0
OneFirstLaw = (es : List Entry) (text : List ℕ) (n m : ℕ) → IsFirstAtFault es text n → IsFirstAtFault es text m → n ≡ m
