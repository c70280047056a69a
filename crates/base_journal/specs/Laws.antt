-- Laws of a journal's file: it stands for one list of records and no other, and at rest for those that it was made of.
use Rattle.std.specs.Prelude.{◌≡◌, ℕ, List}
use Rattle.base_journal.specs.Records.{AreLines, at_rest, StandsFor}

-- a file stands for one list of records
abbrev pub OneReading : Type 0
OneReading = (file : List ℕ) (lines others : List (List ℕ)) → StandsFor file lines → StandsFor file others → lines ≡ others

-- lines that are written, at rest, are read back
abbrev pub ReadBack : Type 0
ReadBack = (lines : List (List ℕ)) → AreLines lines → StandsFor (at_rest lines) lines
