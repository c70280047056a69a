-- Image: what stands on a disk, a file or none at each path.
-- Source: this project's own.
use Rattle.std.specs.Prelude.{◌≡◌, ℕ, ◌+◌, List, ◌++◌, length, take, drop, Option, None, Some, false, if◌then◌else◌}
use Rattle.std.specs.Str.{bytes_eq}

-- the permission bits and the bytes of a file
pub record File : Type 0 where
  pub mode : ℕ
  pub bytes : List ℕ

abbrev pub Image : Type 0
Image = List ℕ → Option File

-- the image with the file at this path changed, and all else as it was
abbrev pub image_changed : List ℕ → (Option File → Option File) → Image → Image
image_changed path change image other = if bytes_eq path other then change (image other) else image other

-- the image with this file at the path
abbrev pub with_file_at : List ℕ → File → Image → Image
with_file_at path file image = image_changed path (λ _. Some file) image

-- the two images differ at this path alone
abbrev pub SameElsewhere : List ℕ → Image → Image → Type 0
SameElsewhere path old new = (other : List ℕ) → bytes_eq path other ≡ false → new other ≡ old other

-- the file with its bytes changed, where there is one
abbrev pub with_bytes : (List ℕ → List ℕ) → Option File → Option File
with_bytes change None = None
with_bytes change (Some file) = Some (record { mode = file.mode; bytes = change file.bytes })

-- these bytes in the place of as many from an offset on
abbrev pub overwritten : ℕ → List ℕ → List ℕ → List ℕ
overwritten at bytes old = take at old ++ (bytes ++ drop (at + length bytes) old)
