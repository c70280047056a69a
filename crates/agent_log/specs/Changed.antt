-- Changed: what the log says of the changes that clients give, and of the file.
-- Source: docs/running.md, "What the operator sees" and "Changes while it runs".
use Rattle.std.specs.Prelude.{ℕ, List, [], ◌∷◌, ◌++◌, Option, Some, None, codes, map}
use Rattle.base_log.specs.declared.level.Level.TheVariants.{Info, Note, Warning, Alert}
use Rattle.agent_log.specs.Lines.{Line, said_line, text_line}
use Rattle.agent_words.specs.declared.reread.Reread.{Reread}

-- an entry has another credential, is added, or is dropped
abbrev pub entry_log_line : List ℕ → List ℕ → Line
entry_log_line event name = text_line Info event name

-- the file holds every change
abbrev pub settled_line : Line
settled_line = said_line Info (codes "settle") []

-- the last good copy of the file could not be kept
abbrev pub copy_lines : Option (List ℕ) → List Line
copy_lines None = []
copy_lines (Some said) = text_line Warning (codes "copy") said ∷ []

-- the file was read anew
abbrev pub reread_line : Line
reread_line = text_line Info (codes "file") (codes "was read anew")

-- all that is said then: of the copy, and of each change of the journal that does not hold any more
unfoldable pub reread_lines : Reread → List Line
reread_lines reread = copy_lines reread.unkept ++ (reread_line ∷ map (text_line Note (codes "journal")) reread.notes.items)

-- the file is not served for each of these reasons
abbrev pub fault_lines : List (List ℕ) → List Line
fault_lines whys = map (text_line Alert (codes "file")) whys
