-- Words: how the parts of a record and of a row are written, and which words are read as them.
-- Source: FIPS 180-4 (SHA-256), for fingerprints; the words are this project's own.
use Rattle.std.specs.Prelude.{ℕ, Bool, true, false, if◌then◌else◌, List, [], ◌∷◌, ◌++◌, Option, Some, None, bytes_eq, codes, decimal, option_map}
use Rattle.hex.specs.Hex.{encode_lower}
use Rattle.sha2.specs.Sha256.{sha256}
use Rattle.base_moment.specs.declared.moment.TheConstants.{LAST}
use Rattle.base_words.specs.Numbers.{number_up_to}
use Rattle.vault_inventory.specs.{declared.need.Need.Need, Needs.need_word, Kinds.kind_word}
use Rattle.vault_inventory.specs.declared.need.Need.TheVariants.{Until, Always}
use Rattle.state_changes.specs.declared.row.Row.{Row}

-- the need of a word
unfoldable pub need_in_word : List ℕ → Option Need
need_in_word word = if bytes_eq word (codes "always") then Some Always else option_map (λ t. Until t) (number_up_to LAST word)

-- what bytes are known by: their SHA-256 in 64 hexadecimal digits
unfoldable pub fingerprint : List ℕ → List ℕ
fingerprint bytes = encode_lower (sha256 bytes)

-- a star, which stands in no name and in no number, where there is none
abbrev pub name_word : Option (List ℕ) → List ℕ
name_word None = codes "*"
name_word (Some name) = name

abbrev pub number_word : Option ℕ → List ℕ
number_word None = codes "*"
number_word (Some n) = decimal n

abbrev pub told_word : Bool → List ℕ
told_word true = codes "told"
told_word false = codes "open"

abbrev pub renewable_word : Bool → List ℕ
renewable_word true = codes "renewable"
renewable_word false = codes "fixed"

-- a path is the last of a row, and may have spaces
abbrev pub file_end : Option (List ℕ) → List ℕ
file_end None = []
file_end (Some path) = 32 ∷ path

-- words, each followed by a space
abbrev pub spaced : List (List ℕ) → List ℕ
spaced [] = []
spaced (w ∷ ws) = w ++ 32 ∷ spaced ws

abbrev pub who_words : Row → List (List ℕ)
who_words row = kind_word row.kind ∷ row.name ∷ name_word row.parent ∷ told_word row.is_told ∷ []

abbrev pub life_words : Row → List (List ℕ)
life_words row = decimal row.terms.issued ∷ decimal row.end ∷ renewable_word row.renewable ∷ number_word row.terms.increment ∷ []

abbrev pub terms_words : Row → List (List ℕ)
terms_words row = decimal row.terms.period ∷ decimal row.terms.max_ttl ∷ decimal row.terms.explicit_max ∷ need_word row.need ∷ []

-- a row as a line, whether it is reissued or not
unfoldable pub plain_text : Row → List ℕ
plain_text row = spaced (who_words row) ++ (spaced (life_words row) ++ (spaced (terms_words row) ++ (row.credential ++ file_end row.file)))

-- what stands before a row that is reissued, and before no other: a word that is no kind
abbrev pub mark_text : Bool → List ℕ
mark_text true = codes "reissued "
mark_text false = []

-- a row as a line
unfoldable pub row_text : Row → List ℕ
row_text row = mark_text row.terms.reissued ++ plain_text row
