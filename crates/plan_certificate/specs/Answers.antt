-- Answers that are a value or the first fault, and a call's answer against them where memory may be refused.
use Rattle.std.specs.Prelude.{◌≡◌, Result, Ok, Err}
use Rattle.plan_certificate.specs.declared.fault.CertFault.{CertFault}
use Rattle.plan_certificate.specs.declared.fault.CertFault.TheVariants.{BadHeader, BadLine, UnknownName, BadNumber, Truncated, Trailing, OutOfMemory}

-- the next step, or the fault of the first
infixl 10 ◌>>=◌
abbrev pub ◌>>=◌ : {A B : Type 0} → Result A CertFault → (A → Result B CertFault) → Result B CertFault
(Ok x) >>= f = f x
(Err e) >>= f = Err e

-- the call's fault is that of the definition, or lack of memory
abbrev pub FailsWithCertFault : {Y : Type 0} → CertFault → Result Y CertFault → Type 0
FailsWithCertFault OutOfMemory answer = Unit {0}
FailsWithCertFault BadHeader answer = answer ≡ Err BadHeader
FailsWithCertFault (BadLine n) answer = answer ≡ Err (BadLine n)
FailsWithCertFault (UnknownName n) answer = answer ≡ Err (UnknownName n)
FailsWithCertFault (BadNumber n) answer = answer ≡ Err (BadNumber n)
FailsWithCertFault Truncated answer = answer ≡ Err Truncated
FailsWithCertFault Trailing answer = answer ≡ Err Trailing

-- the call gives what the definition gives, unless memory was refused
abbrev pub GivesOrCertFault : {X Y : Type 0} → (X → Y) → Result X CertFault → Result Y CertFault → Type 0
GivesOrCertFault view (Ok x) answer = answer ≡ Ok (view x)
GivesOrCertFault view (Err e) answer = FailsWithCertFault e answer
