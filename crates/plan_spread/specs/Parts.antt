-- Parts: the part of a spread that falls to a name.
-- Source: this project's own; the digest is that of FIPS 180-4.
use Rattle.std.specs.Prelude.{ℕ, suc, ◌*◌, ◌/◌, ◌^◌, List, take}
use Rattle.std.specs.Int.{w64, from_be_bytes}
use Rattle.sha2.specs.Sha256.{sha256}

-- the number that the first eight bytes of a name's digest spell, the highest first
abbrev pub number_of : List ℕ → ℕ
number_of name = from_be_bytes w64 (take 8 (sha256 name))

-- a number, of all such numbers, as a part of the seconds from 0 to the spread
abbrev pub part_by : ℕ → ℕ → ℕ
part_by number spread = (number * suc spread) / 2 ^ 64

-- that of a name's number
abbrev pub part_of_spread : List ℕ → ℕ → ℕ
part_of_spread name spread = part_by (number_of name) spread
