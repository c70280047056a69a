-- Stamps: the calls that are made of files of credentials, and when two stamps are the same.
-- Source: this project's own.
use Rattle.std.specs.Prelude.{◌≡◌, ℕ, ◌==◌, Bool, true, false, ◌&&◌, List, [], ◌∷◌, ◌++◌, Option, Some, None, IfSome, Result}
use Rattle.std.specs.Bool.{beq}
use Rattle.base_device.specs.declared.fault.InputFault.{InputFault}
use Rattle.state_secrets.specs.declared.secret_files.FileStamp.{FileStamp}

-- the stamp of the file at a path was had, or could not be; or at most so many bytes of it were read, or were not
pub data FileCall : Type 0 where
  Stamped : List ℕ → Option FileStamp → FileCall
  Opened : List ℕ → ℕ → Result (List ℕ) InputFault → FileCall

-- one call was made, and this one: what is known of the calls now was known before, and this is one more
abbrev pub Made : FileCall → Option (List FileCall) → Option (List FileCall) → Type 0
Made call old new = IfSome new (λ calls. (before : List FileCall) × ((old ≡ Some before) × (calls ≡ before ++ call ∷ [])))

abbrev pub is_same_stamp : FileStamp → FileStamp → Bool
is_same_stamp a b = a.device == b.device && (a.inode == b.inode && (a.written == b.written && (a.changed == b.changed && (a.size == b.size && (a.mode == b.mode && beq a.is_regular b.is_regular)))))

-- of files that may not be there
abbrev pub is_same_found : Option FileStamp → Option FileStamp → Bool
is_same_found None None = true
is_same_found (Some a) (Some b) = is_same_stamp a b
is_same_found None (Some b) = false
is_same_found (Some a) None = false
