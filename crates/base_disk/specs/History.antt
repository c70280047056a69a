-- History: the calls of a disk in memory, and what each does to what is known of it.
-- Source: this project's own.
use Rattle.std.specs.Prelude.{◌≡◌, ◌⊎◌, ℕ, suc, ◌/◌, ◌≤◌, List, [], ◌∷◌, length, take, Option, Some, Bool, true, false, if◌then◌else◌}
use Rattle.std.specs.Str.{bytes_eq}
use Rattle.base_disk.specs.{Image.File, Image.Image, Image.image_changed, Image.with_bytes, Image.overwritten, Torn.Torn, Torn.Tears, Torn.MovesFile, State.DiskState, declared.call.DiskCall.DiskCall, declared.call.CallMade.CallMade}
use Rattle.base_disk.specs.declared.call.CallMade.TheVariants as what

-- the file at a path after a call on it; a write that fails takes half of the bytes
abbrev pub file_after : CallMade → Option File → Option File
file_after (what.Write at bytes done) file = with_bytes (overwritten at (if done then bytes.items else take (length bytes.items / 2) bytes.items)) file
file_after (what.Sync done) file = file
file_after (what.Move mode bytes done) file = if done then Some (record { mode = mode; bytes = bytes.items }) else file

-- whether the file at a path is sound after a call on it
abbrev pub sound_after : CallMade → Bool → Bool
sound_after (what.Write at bytes done) sound = if done then sound else false
sound_after (what.Sync done) sound = if done then sound else false
sound_after (what.Move mode bytes done) sound = if done then true else sound

-- what a crash may leave after a call at a path: from what it might have left before, from whether the file was sound, and
-- from what is read there
abbrev pub left_after_what : CallMade → List ℕ → (Image → Type 0) → Bool → Option File → Image → Type 0
left_after_what (what.Write at bytes done) path may_leave sound file c = (d : Image) × may_leave d × Tears path (Torn at (length bytes.items)) d c
left_after_what (what.Sync true) path may_leave sound file c = may_leave c × (sound ≡ true → c path ≡ file)
left_after_what (what.Sync false) path may_leave sound file c = may_leave c
left_after_what (what.Move mode bytes done) path may_leave sound file c = (d : Image) × may_leave d × MovesFile path (record { mode = mode; bytes = bytes.items }) d c

-- the same of a call
abbrev pub left_by_call : DiskCall → DiskState → Image → Type 0
left_by_call call s = left_after_what call.what call.path.items s.may_leave (s.is_sound call.path.items) (s.seen call.path.items)

-- what is known after a call
abbrev pub state_after_call : DiskCall → DiskState → DiskState
state_after_call call s = record s {
  seen = image_changed call.path.items (file_after call.what) s.seen;
  is_sound = λ other. if bytes_eq call.path.items other then sound_after call.what (s.is_sound other) else s.is_sound other;
  may_leave = left_by_call call s;
  moment = suc s.moment;
  left_since = λ t c. s.left_since t c ⊎ ((t ≤ suc s.moment) × left_by_call call s c);
}

-- and after several, the first of them first
abbrev pub state_after_calls : List DiskCall → DiskState → DiskState
state_after_calls [] s = s
state_after_calls (call ∷ calls) s = state_after_calls calls (state_after_call call s)

-- the file at a path after several calls, the first of them first
abbrev pub file_after_all : List ℕ → List DiskCall → Option File → Option File
file_after_all path [] file = file
file_after_all path (call ∷ calls) file = file_after_all path calls (if bytes_eq call.path.items path then file_after call.what file else file)
