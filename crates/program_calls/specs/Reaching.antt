-- Reaching: why there is no connection, and what is said of it.
-- Source: this project's own; the words for what a system says are those of POSIX, `strerror`.
use Rattle.std.specs.Prelude.{ℕ, List, Option, Some, None, codes}
use Rattle.std.specs.declared.io.ErrorKind.{ErrorKind}
use Rattle.std.specs.declared.io.ErrorKind.TheVariants as kinds
use Rattle.program_calls.specs.declared.unreached.Unreached.{Unreached}
use Rattle.program_calls.specs.declared.unreached.Unreached.TheVariants as unreached

abbrev pub unreached_of : ErrorKind → Unreached
unreached_of kinds.NotFound = unreached.NotThere
unreached_of kinds.NotADirectory = unreached.NotThere
unreached_of kinds.ConnectionRefused = unreached.NotServed
unreached_of kinds.PermissionDenied = unreached.NotAllowed
unreached_of kinds.WouldBlock = unreached.Late
unreached_of kinds.TimedOut = unreached.Late
unreached_of kinds.OutOfMemory = unreached.Memory
unreached_of kind = unreached.Failed

-- none where memory was wanting
unfoldable pub unreached_words : Unreached → Option (List ℕ)
unreached_words unreached.NotThere = Some (codes
    "No such file or directory; no agent serves there (`serve` takes commands only with --control; --control SOCKET names another place)")
unreached_words unreached.NotServed = Some (codes "Connection refused; no agent serves there (--control SOCKET names another place)")
unreached_words unreached.NotAllowed = Some (codes "Permission denied; the socket is for its user and its group")
unreached_words unreached.Late = Some (codes "no answer")
unreached_words unreached.Failed = Some (codes "it cannot be reached")
unreached_words unreached.Memory = None
