-- FaultWords: what is said of a text that is no inventory: its first fault, with its line, entry and key, and what helps. Of the text's values
-- nothing is in it but the name of that entry.
-- Source: this project's own; docs/commands/lint.md.
use Rattle.std.specs.Prelude.{◌≡◌, ℕ, ◌==◌, ◌&&◌, ◌||◌, Bool, true, false, if◌then◌else◌, List, [], ◌∷◌, ◌++◌, Option, Some, None, codes, decimal, string_bytes}
use Rattle.std.specs.Str.{is_utf8}
use Rattle.vault_inventory.specs.{Inventory.document_tree, Keys.key_text, declared.fault.InvFault.InvFault, declared.key.Key.Key}
use Rattle.vault_inventory.specs.declared.fault.InvFault.TheVariants as faults
use Rattle.vault_inventory.specs.declared.key.Key.TheVariants as keys
use Rattle.plan_forest.specs.{declared.entry.Kind.Kind, declared.fault.TreeFault.TreeFault}
use Rattle.plan_forest.specs.declared.entry.Kind.TheVariants as kinds
use Rattle.plan_forest.specs.declared.fault.TreeFault.TheVariants as trees
use Rattle.vault_lint.specs.{FaultNames.called_if, Marks.marks_of, Places.heads_of, declared.finding.Finding.Finding, declared.mark.Mark.Mark}
use Rattle.vault_lint.specs.FaultPlaces.{IsSomeLine, has_key, kind_of, line_of, unknown_line}

-- ---- what is to stand there

-- at a key of an entry, or of the top level
unfoldable pub expected_at : Option ℕ → Key → List ℕ
expected_at None keys.Margin = codes "1 to 3600 seconds, or a text such as \"90s\" or \"15m\""
expected_at None keys.Token = codes "[[token]], with two brackets, over each token"
expected_at None keys.Lease = codes "[[lease]], with two brackets, over each lease"
expected_at None key = codes "whole seconds, 1 to 4294967295, or a text such as \"768h\""
expected_at (Some i) keys.Name = codes "1 to 64 letters, digits, -, _, . and /, in quotes"
expected_at (Some i) keys.Parent = codes "the name of a token, in quotes"
expected_at (Some i) keys.Token = codes "the name of a token, in quotes"
expected_at (Some i) keys.Issued = codes "whole seconds since 1970, or a date in quotes such as \"2027-01-31T08:00:00Z\""
expected_at (Some i) keys.End = codes "whole seconds since 1970, or a date in quotes such as \"2027-01-31T08:00:00Z\""
expected_at (Some i) keys.Need = codes "whole seconds since 1970, a date in quotes such as \"2027-01-31T08:00:00Z\", or \"always\""
expected_at (Some i) keys.Renewable = codes "true or false, without quotes"
expected_at (Some i) keys.Reissued = codes "true or false, without quotes"
expected_at (Some i) keys.Secret = codes "1 to 256 printable ASCII characters without blanks, in quotes, and each entry once"
expected_at (Some i) keys.LeaseId = codes "1 to 256 printable ASCII characters without blanks, in quotes, and each entry once"
expected_at (Some i) keys.SecretFile = codes "the path of a file, in quotes, or the credential itself, one of the two"
expected_at (Some i) keys.LeaseIdFile = codes "the path of a file, in quotes, or the credential itself, one of the two"
expected_at (Some i) key = codes "whole seconds, up to 4294967295, or a text such as \"90m\", \"1h\" or \"30d\""

-- which keys a table of that kind has
unfoldable pub keys_words : Option Kind → List ℕ
keys_words (Some kinds.Lease) = codes "look for a misspelling; the keys are name, token, issued, end, renewable, increment, max_ttl, reissued, need, lease_id and lease_id_file"
keys_words kind = codes "look for a misspelling; the keys are name, parent, issued, end, renewable, increment, period, max_ttl, explicit_max_ttl, reissued, need, secret and secret_file"

-- ---- a value

-- at a key of an entry, or of the top level
unfoldable pub value_problem : Option ℕ → Key → List ℕ
value_problem None keys.Token = codes "is not an array of tables"
value_problem None keys.Lease = codes "is not an array of tables"
value_problem (Some i) keys.Secret = codes "is none, or another entry of this kind has it"
value_problem (Some i) keys.LeaseId = codes "is none, or another entry of this kind has it"
value_problem (Some i) keys.SecretFile = codes "is no path, or stands beside the credential itself"
value_problem (Some i) keys.LeaseIdFile = codes "is no path, or stands beside the credential itself"
value_problem entry key = codes "is of the wrong type or out of range"

-- ---- the tree of entries

abbrev pub over_key : Option Kind → Key
over_key (Some kinds.Lease) = keys.Token
over_key kind = keys.Parent

-- the key that is meant
unfoldable pub tree_key : List Mark → List ℕ → ℕ → TreeFault → Key
tree_key found heads i trees.NoParent = over_key (kind_of found heads i)
tree_key found heads i trees.ParentIsLease = over_key (kind_of found heads i)
tree_key found heads i trees.LeaseWithoutToken = over_key (kind_of found heads i)
tree_key found heads i trees.TooDeep = over_key (kind_of found heads i)
tree_key found heads i trees.StepTooSmall = if has_key found heads i keys.Period false then keys.Period else keys.Increment
tree_key found heads i trees.OutOfRange = keys.MaxTtl
tree_key found heads i fault = keys.Name

abbrev pub tree_key_text : List Mark → List ℕ → ℕ → TreeFault → List ℕ
tree_key_text found heads i trees.Full = []
tree_key_text found heads i fault = key_text (tree_key found heads i fault)

unfoldable pub tree_problem : TreeFault → List ℕ
tree_problem trees.BadName = codes "is no name"
tree_problem trees.NameTwice = codes "occurs twice"
tree_problem trees.NoParent = codes "names no token above this table"
tree_problem trees.ParentIsLease = codes "names a lease"
tree_problem trees.LeaseWithoutToken = codes "is missing"
tree_problem trees.StepTooSmall = codes "is not greater than the margin"
tree_problem trees.OutOfRange = codes "leads past the last moment"
tree_problem trees.TooDeep = codes "is the 65th of its chain"
tree_problem trees.Full = codes "is one more than the 4096 entries allowed"
tree_problem trees.OutOfMemory = codes "memory"

unfoldable pub tree_mend : TreeFault → List ℕ
tree_mend trees.BadName = codes "write 1 to 64 letters, digits, -, _, . and /"
tree_mend trees.NameTwice = codes "rename one of them"
tree_mend trees.NoParent = codes "write that token's table before this one, or look for a misspelling"
tree_mend trees.ParentIsLease = codes "name the lease's token"
tree_mend trees.LeaseWithoutToken = codes "add the name of the lease's token"
tree_mend trees.StepTooSmall = codes "ask for more, or lower the margin"
tree_mend trees.OutOfRange = codes "write less"
tree_mend trees.TooDeep = codes "flatten the tree"
tree_mend trees.Full = codes "split the inventory"
tree_mend trees.OutOfMemory = codes "memory"

-- ---- of a fault

-- its line: that of the syntax is the reader's
abbrev pub IsLineOf : List ℕ → List Mark → List ℕ → InvFault → ℕ → Type 0
IsLineOf bytes found heads faults.NotToml line = IsSomeLine bytes line
IsLineOf bytes found heads (faults.MissingKey i key) line = line ≡ line_of found heads (Some i) key
IsLineOf bytes found heads (faults.UnknownKey entry) line = line ≡ unknown_line found heads entry
IsLineOf bytes found heads (faults.BadValue entry key) line = line ≡ line_of found heads entry key
IsLineOf bytes found heads (faults.Tree i fault) line = line ≡ line_of found heads (Some i) (tree_key found heads i fault)
IsLineOf bytes found heads faults.OutOfMemory line = line ≡ 0

-- the index of its entry
abbrev pub entry_of : InvFault → Option ℕ
entry_of (faults.MissingKey i key) = Some i
entry_of (faults.UnknownKey entry) = entry
entry_of (faults.BadValue entry key) = entry
entry_of (faults.Tree i fault) = Some i
entry_of fault = None

abbrev pub called_of : List ℕ → Option ℕ → List ℕ
called_of bytes None = []
called_of bytes (Some i) = called_if (document_tree bytes) i

-- what its entry is called
abbrev pub fault_entry : List ℕ → InvFault → List ℕ
fault_entry bytes fault = called_of bytes (entry_of fault)

abbrev pub fault_key : List Mark → List ℕ → InvFault → List ℕ
fault_key found heads (faults.MissingKey i key) = key_text key
fault_key found heads (faults.BadValue entry key) = key_text key
fault_key found heads (faults.Tree i fault) = tree_key_text found heads i fault
fault_key found heads fault = []

abbrev pub unknown_problem : Option ℕ → List ℕ
unknown_problem None = codes "a key or a table is none of an inventory"
unknown_problem (Some i) = codes "has a key that is none of this table"

abbrev pub syntax_problem : Bool → List ℕ
syntax_problem true = codes "the file is not a TOML document"
syntax_problem false = codes "the file is not UTF-8"

abbrev pub syntax_mend : Bool → List ℕ
syntax_mend true = codes "correct the syntax there: texts and dates stand between straight quotes"
syntax_mend false = codes "save it as UTF-8"

abbrev pub fault_problem : List ℕ → InvFault → List ℕ
fault_problem bytes faults.NotToml = syntax_problem (is_utf8 bytes)
fault_problem bytes (faults.MissingKey i key) = codes "is missing"
fault_problem bytes (faults.UnknownKey entry) = unknown_problem entry
fault_problem bytes (faults.BadValue entry key) = value_problem entry key
fault_problem bytes (faults.Tree i fault) = tree_problem fault
fault_problem bytes faults.OutOfMemory = codes "memory"

abbrev pub unknown_mend : List Mark → List ℕ → Option ℕ → List ℕ
unknown_mend found heads None = codes "look for a misspelling; the keys are margin and system_max, the tables [[token]] and [[lease]]"
unknown_mend found heads (Some i) = keys_words (kind_of found heads i)

abbrev pub fault_mend : List ℕ → List Mark → List ℕ → InvFault → List ℕ
fault_mend bytes found heads faults.NotToml = syntax_mend (is_utf8 bytes)
fault_mend bytes found heads (faults.MissingKey i key) = codes "add " ++ (key_text key ++ (codes ": " ++ expected_at (Some i) key))
fault_mend bytes found heads (faults.UnknownKey entry) = unknown_mend found heads entry
fault_mend bytes found heads (faults.BadValue entry key) = codes "write " ++ expected_at entry key
fault_mend bytes found heads (faults.Tree i fault) = tree_mend fault
fault_mend bytes found heads faults.OutOfMemory = codes "memory"

-- ---- in words

abbrev pub is_none_said : List ℕ → Bool
is_none_said [] = true
is_none_said (b ∷ bs) = false

-- a blank between an entry and a key, where both are meant
abbrev pub between_words : List ℕ → List ℕ → List ℕ
between_words entry key = if is_none_said entry || is_none_said key then [] else codes " "

-- the entry and the key, as far as they are meant
abbrev pub subject_words : List ℕ → List ℕ → List ℕ
subject_words entry key = if is_none_said entry && is_none_said key then [] else entry ++ (between_words entry key ++ (key ++ codes ": "))

abbrev pub mend_words : List ℕ → List ℕ
mend_words mend = if is_none_said mend then [] else codes "; " ++ mend

abbrev pub said_words : List ℕ → List ℕ → List ℕ → List ℕ → List ℕ
said_words entry key problem mend = subject_words entry key ++ (problem ++ mend_words mend)

-- a finding in words: ENTRY KEY: PROBLEM; FIX
unfoldable pub finding_words : Finding → List ℕ
finding_words f = said_words (string_bytes f.entry) f.key.now (string_bytes f.problem) (string_bytes f.mend)

abbrev pub line_words : ℕ → List ℕ
line_words line = if line == 0 then [] else codes "line " ++ (decimal line ++ codes ": ")

abbrev pub fault_words : List ℕ → List Mark → List ℕ → InvFault → List ℕ
fault_words bytes found heads fault =
    said_words (fault_entry bytes fault) (fault_key found heads fault) (fault_problem bytes fault) (fault_mend bytes found heads fault)

-- what is said of a fault of a text: its line, and then its words
abbrev pub IsSaidOf : List ℕ → InvFault → List ℕ → Type 0
IsSaidOf bytes fault said =
    (line : ℕ) × (IsLineOf bytes (marks_of bytes) (heads_of (marks_of bytes)) fault line
    × (said ≡ line_words line ++ fault_words bytes (marks_of bytes) (heads_of (marks_of bytes)) fault))
