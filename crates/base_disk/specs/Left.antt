-- Left: what a crash may leave at one path, whatever it leaves at the others.
-- Source: this project's own.
use Rattle.std.specs.Prelude.{◌≡◌, ◌⊎◌, List, ℕ, length, Option, Some, Bool, true, false, if◌then◌else◌}
use Rattle.base_disk.specs.{Image.File, Image.Image, Image.image_changed, Torn.Torn, Torn.IsTornFile, State.DiskState, declared.call.CallMade.CallMade}
use Rattle.base_disk.specs.declared.call.CallMade.TheVariants as what

-- whatever a crash may leave, it may leave with this file, or none, at the path
abbrev pub MayStand : List ℕ → Option File → DiskState → Type 0
MayStand path file s = (c : Image) → s.may_leave c → s.may_leave (image_changed path (λ _. file) c)

-- what a call may make of the file that a crash leaves at its path, where this one was seen there and was sound or not
abbrev pub MayMake : CallMade → Bool → Option File → Option File → Option File → Type 0
MayMake (what.Write at bytes done) sound seen old new = IsTornFile (Torn at (length bytes.items)) old new
MayMake (what.Sync true) sound seen old new = new ≡ (if sound then seen else old)
MayMake (what.Sync false) sound seen old new = new ≡ old
MayMake (what.Move mode bytes done) sound seen old new = (new ≡ old) ⊎ (new ≡ Some (record { mode = mode; bytes = bytes.items }))

-- what a disk in memory is followed by at a path: the file that is seen there, whether it is sound, and one that a crash may leave
pub record PathIsFollowed (path : List ℕ) (seen left : Option File) (sound : Bool) (s : DiskState) : Type 0 where
  pub seen_is : seen ≡ s.seen path
  pub sound_is : sound ≡ s.is_sound path
  pub stands : MayStand path left s
