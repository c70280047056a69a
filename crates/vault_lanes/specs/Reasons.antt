-- Why there is no connection.
-- Source: this project's own; what a system says is said by POSIX, connect().
use Rattle.std.specs.declared.io.ErrorKind.{ErrorKind}
use Rattle.std.specs.declared.io.ErrorKind.TheVariants as kinds
use Rattle.vault_lanes.specs.declared.reason.ConnectReason.{ConnectReason}
use Rattle.vault_lanes.specs.declared.reason.ConnectReason.TheVariants as reasons

abbrev pub reason_of : ErrorKind → ConnectReason
reason_of kinds.NotFound = reasons.NoSuchFile
reason_of kinds.NotADirectory = reasons.NoSuchFile
reason_of kinds.PermissionDenied = reasons.Denied
reason_of kinds.ConnectionRefused = reasons.Refused
reason_of kinds.AddrNotAvailable = reasons.Unreachable
reason_of kinds.HostUnreachable = reasons.Unreachable
reason_of kinds.NetworkDown = reasons.Unreachable
reason_of kinds.NetworkUnreachable = reasons.Unreachable
reason_of kinds.TimedOut = reasons.TimedOut
reason_of kind = reasons.Other
