-- Check: what the command `check` writes about a certificate.
-- Source: this project's own.
use Rattle.std.specs.Prelude.{ℕ, List, [], ◌∷◌, ◌++◌, Option, Some, None, codes, decimal}
use Rattle.plan_forest.specs.{declared.entry.Entry.Entry, Forest.entry_at}
use Rattle.plan_certificate.specs.declared.fault.CertFault.{CertFault}
use Rattle.plan_certificate.specs.declared.fault.CertFault.TheVariants.{BadHeader, BadLine, UnknownName, BadNumber, Truncated, Trailing, OutOfMemory}
use Rattle.plan_check.specs.declared.answer.Cause.{Cause}
use Rattle.plan_check.specs.declared.answer.Cause.TheVariants.{NotForced, NotKept, NotRising, NotUnkeepable}

-- words, a number and a line feed
unfoldable pub numbered : List ℕ → ℕ → List ℕ
numbered words n = words ++ (decimal n ++ (10 ∷ []))

unfoldable pub not_kept : List ℕ → List ℕ
not_kept name = codes "no not-kept " ++ (name ++ (10 ∷ []))

-- the line of a certificate that does not hold: the first test that it fails
unfoldable pub no_line : List Entry → Cause → List ℕ
no_line es (NotRising k) = numbered (codes "no not-rising ") k
no_line es (NotForced k) = numbered (codes "no not-forced ") k
no_line es (NotKept i) = not_kept (entry_at es i).name
no_line es NotUnkeepable = codes "no not-unkeepable\n"

-- the line of a text that is no certificate: the fault of the first line at fault; lack of memory has none
unfoldable pub unreadable_line : CertFault → Option (List ℕ)
unreadable_line BadHeader = Some (codes "unreadable bad-header\n")
unreadable_line (BadLine n) = Some (numbered (codes "unreadable bad-line ") n)
unreadable_line (UnknownName n) = Some (numbered (codes "unreadable unknown-name ") n)
unreadable_line (BadNumber n) = Some (numbered (codes "unreadable bad-number ") n)
unreadable_line Truncated = Some (codes "unreadable truncated\n")
unreadable_line Trailing = Some (codes "unreadable trailing\n")
unreadable_line OutOfMemory = None
