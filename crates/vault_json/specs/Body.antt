-- A body: a JSON object, as serde_json reads it (RFC 8259, nested at most 127 deep).
use Rattle.std.specs.Prelude.{ℕ, List, codes, if◌then◌else◌, Result, Ok, Err, Option, Some, None}
use Rattle.std.specs.Str.{is_utf8}
use Rattle.serde_json.specs.{Data.Data, Data.null, Data.boolean, Data.number, Data.string, Data.array, Data.object, Find.get, Read.read}
use Rattle.vault_json.specs.Answer.{◌>>=◌}
use Rattle.vault_json.specs.{Field.present, declared.fault.ReplyFault.ReplyFault, declared.fault.ReplyFault.TheVariants.NotJson, declared.fault.ReplyFault.TheVariants.Wrapped}

-- the tree that the bytes are: none where they are not UTF-8 or no JSON
abbrev pub json_tree : List ℕ → Option Data
json_tree bytes = if is_utf8 bytes then read bytes else None

abbrev pub or_not_json : Option Data → Result Data ReplyFault
or_not_json None = Err NotJson
or_not_json (Some d) = Ok d

abbrev pub an_object : Data → Result Data ReplyFault
an_object null = Err NotJson
an_object (boolean b) = Err NotJson
an_object (number n) = Err NotJson
an_object (string s) = Err NotJson
an_object (array ds) = Err NotJson
an_object (object ms) = Ok (object ms)

-- the object that the bytes are: NotJson where they are no tree, or it is no object
unfoldable pub object_of_bytes : List ℕ → Result Data ReplyFault
object_of_bytes bytes = or_not_json (json_tree bytes) >>= an_object

abbrev pub or_wrapped : Data → Option Data → Result Data ReplyFault
or_wrapped d None = Ok d
or_wrapped d (Some info) = Err Wrapped

-- Vault, Response wrapping: a reply whose `wrap_info` is there and not null holds no answer.
unfoldable pub unwrapped : Data → Result Data ReplyFault
unwrapped d = or_wrapped d (present (get (codes "wrap_info") d))

-- the object that a reply's bytes are; it is judged whether it is wrapped before any field is looked at
unfoldable pub reply_object : List ℕ → Result Data ReplyFault
reply_object bytes = object_of_bytes bytes >>= unwrapped
