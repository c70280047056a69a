-- Printing: what is written for a planner's decision.
-- Source: this project's own.
use Rattle.std.specs.Prelude.{◌≡◌, ℕ, ◌<◌, List, All, Option, Some, None, Result, Ok, Err, length}
use Rattle.base_moment.specs.declared.text.Text.{Text}
use Rattle.plan_forest.specs.declared.entry.Entry.{Entry}
use Rattle.plan_rule.specs.Runs.{IsAmong}
use Rattle.plan_search.specs.declared.decision.Decision.{Decision}
use Rattle.plan_search.specs.declared.decision.Decision.TheVariants as decision
use Rattle.plan_certificate.specs.{declared.cert.Body.Body, declared.cert.Cert.Cert, declared.cert.Version.TheVariants.Two, declared.printer.PrintFault.PrintFault, CertificateText.certificate_text}
use Rattle.plan_certificate.specs.declared.cert.Body.TheVariants.{Runs, Unkeepable}
use Rattle.plan_certificate.specs.declared.printer.PrintFault.TheVariants.{NoCertificate, OutOfMemory}

-- what a decision claims: its runs, or its pair; None where it is too long
abbrev pub claim : Decision → Option Body
claim (decision.Keep p) = Some (Runs p.runs)
claim (decision.Unkeepable entry needed) = Some (Unkeepable entry needed)
claim decision.TooLong = None

-- the certificate of a claim from s on
abbrev pub certified : ℕ → Body → Cert
certified s body = record { version = Two; start = s; body = body }

-- the indices of a decision are those of these entries
abbrev pub IsDecisionOver : List Entry → Decision → Type 0
IsDecisionOver es (decision.Keep p) = All (IsAmong (length es)) p.runs
IsDecisionOver es (decision.Unkeepable entry needed) = (entry < length es) × (needed < length es)
IsDecisionOver es decision.TooLong = Unit {0}

-- a claim gets the text of its certificate, unless memory was refused, and where there is none, it gets no certificate
abbrev pub PrintsClaim : List Entry → ℕ → Option Body → Result Text PrintFault → Type 0
PrintsClaim es s None answer = answer ≡ Err NoCertificate
PrintsClaim es s (Some body) (Ok text) = text ≡ certificate_text es (certified s body)
PrintsClaim es s (Some body) (Err fault) = fault ≡ OutOfMemory
