-- Stripped: what the standard library trims. For `stripped`.
use Rattle.std.proofs.Common.{◌≡◌, List, ℕ, refl}
use Rattle.std.proofs.lemmas.Str.Ascii.{trim_ascii_is}
use Rattle.std.specs.Str.{IsTrimAscii}
use Rattle.base_words.specs.Texts.{stripped}

pub stripped_is : (text rest : List ℕ) → IsTrimAscii text rest → rest ≡ stripped text
stripped_is text rest is = trim_ascii_is text rest _ refl is
