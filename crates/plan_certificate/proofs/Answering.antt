-- Faults that a call hands on, against the definition's.
use Rattle.std.proofs.Common.{◌≡◌, Result, Err}
use Rattle.plan_certificate.specs.declared.fault.CertFault.{CertFault}
use Rattle.plan_certificate.specs.declared.fault.CertFault.TheVariants.{BadHeader, BadLine, UnknownName, BadNumber, Truncated, Trailing, OutOfMemory}
use Rattle.plan_certificate.specs.Answers.{FailsWithCertFault}

-- where one definition fails as another does, a call that meets the one meets the other
pub fails_along : {Y Z : Type 0} (e : CertFault) (one : Result Y CertFault) (other : Result Z CertFault)
    → ((f : CertFault) → one ≡ Err f → other ≡ Err f) → FailsWithCertFault e one → FailsWithCertFault e other
fails_along OutOfMemory one other along h = tt
fails_along BadHeader one other along h = along BadHeader h
fails_along (BadLine n) one other along h = along (BadLine n) h
fails_along (UnknownName n) one other along h = along (UnknownName n) h
fails_along (BadNumber n) one other along h = along (BadNumber n) h
fails_along Truncated one other along h = along Truncated h
fails_along Trailing one other along h = along Trailing h

pub fails_with : {Y : Type 0} (e : CertFault) (answer : Result Y CertFault) → answer ≡ Err e → FailsWithCertFault e answer
fails_with OutOfMemory answer h = tt
fails_with _ answer h = h
