-- FileText: the text of a file that says what rows say, line by line.
-- Source: TOML 1.1, "Key/Value Pair" and "Array of Tables"; the keys and their order are this project's own.
use Rattle.std.specs.Prelude.{◌≡◌, ℕ, ◌+◌, ◌/◌, ◌%◌, ◌<◌, ◌≤◌, ◌⊎◌, Bool, true, false, not, ◌||◌, ◌==◌, nat_le, if◌then◌else◌, List, [], ◌∷◌, ◌++◌, Option, Some, None, pos, length, codes}
use Rattle.std.specs.{Fmt.decimal, List.flat_map, Str.is_utf8}
use Rattle.base_moment.specs.{declared.moment.TheConstants.LAST, Rfc3339.IsDateText}
use Rattle.plan_forest.specs.Push.{is_lease}
use Rattle.toml.specs.Text.{IsValueText}
use Rattle.toml.specs.Data.{Data, string, integer, boolean}
use Rattle.vault_inventory.specs.{Keys.key_text, declared.key.Key.Key, declared.limits.TheConstants.MOST_INVENTORY, declared.terms.Terms.Terms}
use Rattle.vault_inventory.specs.declared.need.Need.TheVariants.{Always, Until}
use Rattle.vault_inventory.specs.declared.key.Key.TheVariants as keys
use Rattle.vault_inventory.specs.declared.need.Need as needs
use Rattle.state_changes.specs.declared.row.Row.{Row}
use Rattle.state_file.specs.declared.text.Form.{Form}
use Rattle.state_file.specs.declared.text.Form.TheVariants.{Words, Seconds}

-- ---- the lines of a file

-- a value: a text, a number from 0 on, or a flag
pub data Said : Type 0 where
  quoted : List ℕ → Said
  number : ℕ → Said
  flag : Bool → Said

-- the header of an entry's table, a key with its value, or a key with the date of a moment
pub data Line : Type 0 where
  header : Key → Line
  field : Key → Said → Line
  dated : Key → ℕ → Line

-- a text that is no UTF-8 is left out
unfoldable pub text_lines : Key → List ℕ → List Line
text_lines key text = if is_utf8 text then field key (quoted text) ∷ [] else []

-- and so is a number over the greatest of TOML
unfoldable pub number_lines : Key → ℕ → List Line
number_lines key n = if nat_le n 9223372036854775807 then field key (number n) ∷ [] else []

-- a moment is a date in words; one past the last date is a number in either form
unfoldable pub moment_lines : Form → Key → ℕ → List Line
moment_lines Words key moment = if nat_le moment LAST then dated key moment ∷ [] else number_lines key moment
moment_lines Seconds key moment = number_lines key moment

-- a duration in the greatest unit of which it is a whole number; `0s` for none
unfoldable pub duration_text : ℕ → List ℕ
duration_text n =
    if n == 0 || not (n % 60 == 0) then decimal n ++ codes "s"
    else if not (n % 3600 == 0) then decimal (n / 60) ++ codes "m"
    else if not (n % 86400 == 0) then decimal (n / 3600) ++ codes "h"
    else decimal (n / 86400) ++ codes "d"

unfoldable pub span_lines : Form → Key → ℕ → List Line
span_lines Words key n = field key (quoted (duration_text n)) ∷ []
span_lines Seconds key n = number_lines key n

-- where it is written
unfoldable pub span_lines_if : Form → Key → Option ℕ → List Line
span_lines_if form key None = []
span_lines_if form key (Some n) = span_lines form key n

-- the duration 0 stands for an absent key
unfoldable pub some_lines : Form → Key → ℕ → List Line
some_lines form key n = if n == 0 then [] else span_lines form key n

unfoldable pub header_lines : Row → List Line
header_lines row = header (if is_lease row.kind then keys.Lease else keys.Token) ∷ []

-- the name of the token over it
unfoldable pub parent_lines : Row → List Line
parent_lines row = elim row.parent [ None ↦ [] | Some parent ↦ text_lines (if is_lease row.kind then keys.Token else keys.Parent) parent ]

-- the path of the file that holds the credential, or the credential itself
unfoldable pub credential_lines : Row → List Line
credential_lines row =
    elim row.file [
      | None ↦ text_lines (if is_lease row.kind then keys.LeaseId else keys.Secret) row.credential
      | Some path ↦ text_lines (if is_lease row.kind then keys.LeaseIdFile else keys.SecretFile) path
    ]

-- issue and end, where they are told
unfoldable pub told_lines : Form → Row → List Line
told_lines form row = if row.is_told then moment_lines form keys.Issued row.terms.issued ++ moment_lines form keys.End row.end else []

-- an entry is renewable where nothing else is written
unfoldable pub renewable_lines : Row → List Line
renewable_lines row = if row.renewable then [] else field keys.Renewable (flag false) ∷ []

unfoldable pub reissued_lines : Terms → List Line
reissued_lines terms = if terms.reissued then field keys.Reissued (flag true) ∷ [] else []

unfoldable pub terms_lines : Form → Terms → List Line
terms_lines form terms =
    span_lines_if form keys.Increment terms.increment ++ (some_lines form keys.Period terms.period
    ++ (some_lines form keys.MaxTtl terms.max_ttl ++ (some_lines form keys.ExplicitMaxTtl terms.explicit_max ++ reissued_lines terms)))

-- the moment 0 is no need, and stands for an absent key
unfoldable pub need_lines : Form → needs.Need → List Line
need_lines form (Until moment) = if moment == 0 then [] else moment_lines form keys.Need moment
need_lines form Always = field keys.Need (quoted (codes "always")) ∷ []

-- the table of an entry
unfoldable pub row_lines : Form → Row → List Line
row_lines form row =
    header_lines row ++ (text_lines keys.Name row.name ++ (parent_lines row ++ (credential_lines row
    ++ (told_lines form row ++ (renewable_lines row ++ (terms_lines form row.terms ++ need_lines form row.need))))))

-- the margin and the maximum TTL of the system, where they are written, and a table for each row
unfoldable pub file_lines : Form → Option ℕ → Option ℕ → List Row → List Line
file_lines form margin most rows =
    span_lines_if form keys.Margin margin ++ (span_lines_if form keys.SystemMax most ++ flat_map (row_lines form) rows)

-- ---- the bytes of lines

-- an empty line stands before a header, but at the start
abbrev pub gap : List ℕ → List ℕ
gap [] = []
gap (b ∷ bs) = codes "\n"

abbrev pub data_of : Said → Data
data_of (quoted t) = string t
data_of (number n) = integer (pos n)
data_of (flag b) = boolean b

-- the key with the value as TOML writes it
unfoldable pub AddsField : Key → Data → List ℕ → List ℕ → Type 0
AddsField key d old new =
    (value : List ℕ) × IsValueText false d value × (new ≡ old ++ (key_text key ++ (codes " = " ++ (value ++ codes "\n"))))

-- with the line the text becomes this one
abbrev pub AddsLine : Line → List ℕ → List ℕ → Type 0
AddsLine (header key) old new = new ≡ old ++ (gap old ++ (codes "[[" ++ (key_text key ++ codes "]]\n")))
AddsLine (field key said) old new = AddsField key (data_of said) old new
AddsLine (dated key moment) old new = (date : List ℕ) × IsDateText date moment × AddsField key (string date) old new

-- with these lines it does
unfoldable pub Adds : List Line → List ℕ → List ℕ → Type 0
Adds [] old new = new ≡ old
Adds (line ∷ lines) old new = (between : List ℕ) × AddsLine line old between × Adds lines between new

-- ---- the text of a file

unfoldable pub IsFileText : Form → Option ℕ → Option ℕ → List Row → List ℕ → Type 0
IsFileText form margin most rows text = Adds (file_lines form margin most rows) [] text

-- that text has more bytes than an inventory may
unfoldable pub IsTooLong : Form → Option ℕ → Option ℕ → List Row → Type 0
IsTooLong form margin most rows = (text : List ℕ) × IsFileText form margin most rows text × (MOST_INVENTORY < length text)

-- the text in words, or that in seconds where only that is not too long
unfoldable pub IsPrinted : Option ℕ → Option ℕ → List Row → List ℕ → Type 0
IsPrinted margin most rows text =
    (length text ≤ MOST_INVENTORY) × (IsFileText Words margin most rows text ⊎ (IsTooLong Words margin most rows × IsFileText Seconds margin most rows text))
