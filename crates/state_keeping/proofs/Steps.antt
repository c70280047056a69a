-- Calls of a disk that change nothing, one after the other.
use Rattle.std.proofs.Common.{◌∙◌}
use Rattle.base_disk.specs.Image.{Image}
use Rattle.base_disk.specs.State.{DiskState, Elapses, LeavesAlone, LeavesOnly}
use Rattle.base_disk.proofs.Moments.{goes_on, started}

pub alone_twice : (s t u : DiskState) → LeavesAlone s t → LeavesAlone t u → LeavesAlone s u
alone_twice s t u first second = record { seen = second.seen ∙ first.seen; sound = second.sound ∙ first.sound; crash = λ c left. first.crash c (second.crash c left) }

pub not_begun : (s : DiskState) → ((c : Image) → s.left_since s.moment c → s.may_leave c) → LeavesOnly s s s.may_leave
not_begun s only = started s s.may_leave only (λ c left. left)

pub read_once : (s t : DiskState) → ((c : Image) → s.left_since s.moment c → s.may_leave c) → LeavesAlone s t → Elapses s t → LeavesOnly s t s.may_leave
read_once s t only alone time = goes_on s s t s.may_leave (not_begun s only) time alone.crash

pub read_twice : (s t u : DiskState) → ((c : Image) → s.left_since s.moment c → s.may_leave c) → LeavesAlone s t → Elapses s t → LeavesAlone t u → Elapses t u → LeavesOnly s u s.may_leave
read_twice s t u only first then second after = goes_on s t u s.may_leave (read_once s t only first then) after (λ c left. first.crash c (second.crash c left))
