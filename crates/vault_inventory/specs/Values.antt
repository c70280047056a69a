-- The value at a key of a table, by its type.
-- Source: TOML 1.1, "Integer", "String" and "Boolean"; RFC 3339, section 5.6; the ranges are this project's own.
use Rattle.std.specs.Prelude.{ℕ, Bool, List, pos, Option, Some, None, Result, Ok, Err, nat_le, nat_lt, not, ◌&&◌, ◌==◌, if◌then◌else◌, is_some, length, codes, bytes_eq}
use Rattle.std.specs.{Result.result_ok, List.list_all, Int.is_in_range}
use Rattle.toml.specs.Text.{are_tables}
use Rattle.toml.specs.Data.{Data, string, integer, boolean, array, Items, Members, get_member}
use Rattle.base_moment.specs.{MomentOf.moment_of, declared.moment.TheConstants.LAST}
use Rattle.plan_forest.specs.declared.forest.TheConstants.{END_MAX}
use Rattle.vault_inventory.specs.{declared.limits.TheConstants.CREDENTIAL_MAX, declared.limits.TheConstants.PATH_MAX, declared.need.Need.Need, declared.key.Key.Key, declared.fault.InvFault.InvFault, Durations.duration_of_text}
use Rattle.vault_inventory.specs.declared.need.Need.TheVariants.{Until, Always}
use Rattle.vault_inventory.specs.declared.fault.InvFault.TheVariants.{MissingKey, UnknownKey, BadValue}
use Rattle.vault_inventory.specs.Languages.{Language, strict, full}
use Rattle.vault_inventory.specs.Keys.{key_text, all_keys, is_one_of}

-- a table has no key but these
abbrev pub only : List Key → Option ℕ → Members → Result (Unit {0}) InvFault
only keys place ms = if all_keys (is_one_of keys) ms then Ok tt else Err (UnknownKey place)

-- a whole number of this range
abbrev pub whole : ℕ → ℕ → Data → Option ℕ
whole low high (integer (pos n)) = if nat_le low n && nat_le n high then Some n else None
whole low high _ = None

abbrev pub if_within : ℕ → ℕ → Option ℕ → Option ℕ
if_within low high None = None
if_within low high (Some n) = if nat_le low n && nat_le n high then Some n else None

-- a text with units, which the strict language has not
abbrev pub in_units : Language → ℕ → ℕ → List ℕ → Option ℕ
in_units strict low high s = None
in_units full low high s = if_within low high (duration_of_text s)

-- a duration: a whole number of seconds, or a text with units
abbrev pub span : Language → ℕ → ℕ → Data → Option ℕ
span l low high (string s) = in_units l low high s
span l low high d = whole low high d

-- a moment: a whole number of seconds, or a date and time by RFC 3339
abbrev pub moment_value : Data → Option ℕ
moment_value (string s) = result_ok (moment_of s)
moment_value d = whole 0 LAST d

-- an end: a moment, or a whole number of seconds up to the greatest end
abbrev pub end_value : Data → Option ℕ
end_value (string s) = result_ok (moment_of s)
end_value d = whole 0 END_MAX d

-- the text `always`, which is no date
unfoldable pub is_always : List ℕ → Bool
is_always s = bytes_eq s (codes "always")

abbrev pub until_if : Option ℕ → Option Need
until_if None = None
until_if (Some t) = Some (Until t)

abbrev pub need_text : Language → List ℕ → Option Need
need_text strict s = until_if (result_ok (moment_of s))
need_text full s = if is_always s then Some Always else until_if (result_ok (moment_of s))

-- a need: a moment, or `always`
abbrev pub need : Language → Data → Option Need
need l (string s) = need_text l s
need l d = until_if (whole 0 LAST d)

abbrev pub flag_value : Data → Option Bool
flag_value (boolean b) = Some b
flag_value _ = None

abbrev pub text : Data → Option (List ℕ)
text (string s) = Some s
text _ = None

-- 1 to 256 bytes from 0x21 to 0x7E
abbrev pub is_credential : List ℕ → Bool
is_credential s = nat_lt 0 (length s) && (nat_le (length s) CREDENTIAL_MAX && list_all (is_in_range 0x21 0x7E) s)

-- a token's own value, or a lease's id
abbrev pub credential : Data → Option (List ℕ)
credential (string s) = if is_credential s then Some s else None
credential _ = None

-- 1 to 4,096 bytes, none of them a control character
unfoldable pub is_path : List ℕ → Bool
is_path s = nat_lt 0 (length s) && (nat_le (length s) PATH_MAX && list_all (λ b. nat_le 0x20 b && not (b == 0x7F)) s)

-- the path of a file
abbrev pub path : Data → Option (List ℕ)
path (string s) = if is_path s then Some s else None
path _ = None

abbrev pub tables : Data → Option Items
tables (array ds) = if are_tables ds then Some ds else None
tables _ = None

abbrev pub read_by : {A : Type 0} → (Data → Option A) → Option ℕ → Key → Data → Result (Option A) InvFault
read_by f place key d = elim (f d) [ Some x ↦ Ok (Some x) | None ↦ Err (BadValue place key) ]

abbrev pub read_if : {A : Type 0} → (Data → Option A) → Option ℕ → Key → Option Data → Result (Option A) InvFault
read_if f place key None = Ok None
read_if f place key (Some d) = read_by f place key d

-- the value at a key, None where the key is absent
abbrev pub value_at : {A : Type 0} → (Data → Option A) → Option ℕ → Key → Members → Result (Option A) InvFault
value_at f place key ms = read_if f place key (get_member (key_text key) ms)

-- whether a key is there
abbrev pub is_key_there : Key → Members → Bool
is_key_there key ms = is_some (get_member (key_text key) ms)

-- a key that has to be there where this is so
abbrev pub has_if : Bool → ℕ → Key → Bool → Result (Unit {0}) InvFault
has_if must index key here = if must && not here then Err (MissingKey index key) else Ok tt

-- a key that may not stand beside another
abbrev pub alone_if : Bool → ℕ → Key → Bool → Result (Unit {0}) InvFault
alone_if beside index key here = if beside && here then Err (BadValue (Some index) key) else Ok tt

-- a value that has to be there
abbrev pub needed_value : {A : Type 0} → ℕ → Key → Option A → Result A InvFault
needed_value index key (Some x) = Ok x
needed_value index key None = Err (MissingKey index key)
