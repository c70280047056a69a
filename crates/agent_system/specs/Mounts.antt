-- Mounts: which devices are file systems in memory.
-- Source: proc_pid_mountinfo(5); makedev(3), of the GNU C library.
use Rattle.std.specs.Prelude.{ℕ, ◌+◌, ◌-◌, ◌*◌, ◌/◌, ◌%◌, ◌^◌, ◌==◌, ◌&&◌, ◌||◌, Bool, false, if◌then◌else◌, List, [], ◌∷◌, Option, Some, None, bytes_eq, codes}
use Rattle.std.specs.List.{list_any}
use Rattle.base_words.specs.Numbers.{number_up_to}
use Rattle.base_words.specs.Pieces.{first, pieces, two, words}

-- the number of a device, as stat(2) gives it: bits 0 to 7 and 20 to 43 are its minor number, the others its major number
abbrev pub device_number : ℕ → ℕ → ℕ
device_number major minor = minor % 2 ^ 8 + major % 2 ^ 12 * 2 ^ 8 + minor / 2 ^ 8 * 2 ^ 20 + major / 2 ^ 12 * 2 ^ 44

abbrev pub device_by : Option ℕ → Option ℕ → Option ℕ
device_by None minor = None
device_by (Some major) None = None
device_by (Some major) (Some minor) = Some (device_number major minor)

abbrev pub device_of : Option (List ℕ × List ℕ) → Option ℕ
device_of None = None
device_of (Some parts) = device_by (number_up_to (2 ^ 32 - 1) parts.0) (number_up_to (2 ^ 32 - 1) parts.1)

-- the number of a device that is written `MAJOR:MINOR`
abbrev pub device_in : List ℕ → Option ℕ
device_in word = device_of (two (pieces 58 word))

abbrev pub is_device : ℕ → Option ℕ → Bool
is_device device None = false
is_device device (Some number) = number == device

abbrev pub behind : List (List ℕ) → List (List ℕ)
behind [] = []
behind (w ∷ ws) = ws

abbrev pub second : List (List ℕ) → List ℕ
second ws = first (behind ws)

-- the third word of a mount is its device
abbrev pub third : List (List ℕ) → List ℕ
third ws = second (behind ws)

-- and the first word after the dash its type
abbrev pub type_in : List (List ℕ) → List ℕ
type_in [] = []
type_in (w ∷ ws) = if bytes_eq w (codes "-") then first ws else type_in ws

-- one whose files lie in memory
abbrev pub is_memory : List ℕ → Bool
is_memory kind = bytes_eq kind (codes "tmpfs") || bytes_eq kind (codes "ramfs")

-- a line is of a mount of that device, whose files lie in memory
unfoldable pub is_memory_on : ℕ → List ℕ → Bool
is_memory_on device line = is_device device (device_in (third (words line))) && is_memory (type_in (words line))

-- one of the lines is
unfoldable pub is_in_memory : ℕ → List ℕ → Bool
is_in_memory device mounts = list_any (is_memory_on device) (pieces 10 mounts)
