-- Words: a line as an array of words, as it is read and as it is written.
-- Source: RFC 8259.
use Rattle.std.specs.Prelude.{ℕ, Bool, if◌then◌else◌, List, [], ◌∷◌, get_or, Option, Some, None, option_map, option_and_then, Result, Ok, Err}
use Rattle.serde_json.specs.Find.{as_array, as_str}
use Rattle.serde_json.specs.Data.{Data, string, array, Items, no_items, item}
use Rattle.vault_json.specs.Body.{json_tree}
use Rattle.agent_control.specs.{declared.fault.RequestFault.RequestFault, declared.fault.RequestFault.TheVariants.NotWords}

-- the word at an index
abbrev pub word_at : List (List ℕ) → ℕ → List ℕ
word_at ws i = get_or ws i []

-- ---- as it is read

-- the texts that items are, where each of them is one
abbrev pub texts_of : Items → Option (List (List ℕ))
texts_of no_items = Some []
texts_of (item d ds) = option_and_then (λ w. option_map (λ ws. w ∷ ws) (texts_of ds)) (as_str d)

abbrev pub one_or_more : List (List ℕ) → Option (List (List ℕ))
one_or_more [] = None
one_or_more (w ∷ ws) = Some (w ∷ ws)

-- the words of a tree: an array of texts, one at least
unfoldable pub words_in_tree : Data → Option (List (List ℕ))
words_in_tree d = option_and_then one_or_more (option_and_then texts_of (as_array d))

abbrev pub or_not_words : {A : Type 0} → Option A → Result A RequestFault
or_not_words None = Err NotWords
or_not_words (Some x) = Ok x

-- the words of a line, or that it has none
unfoldable pub words_of : List ℕ → Result (List (List ℕ)) RequestFault
words_of line = or_not_words (option_and_then words_in_tree (json_tree line))

-- ---- as it is written

-- the items that texts are, and their array: what is written of it has no space (`compact_text`)
abbrev pub items_of : List (List ℕ) → Items
items_of [] = no_items
items_of (w ∷ ws) = item (string w) (items_of ws)

abbrev pub tree_of_words : List (List ℕ) → Data
tree_of_words ws = array (items_of ws)

-- the array, where what the words hold is text
abbrev pub texted : Bool → List (List ℕ) → Result Data RequestFault
texted is ws = if is then Ok (tree_of_words ws) else Err NotWords
