-- Escapes: texts within double quotes, in metrics and in JSON.
-- Source: Prometheus, "Exposition formats", "Comments, help text, and type information"; OpenMetrics 1.0, "Escaping"; RFC 8259, section 7.
use Rattle.std.specs.Prelude.{ℕ, ◌+◌, ◌/◌, ◌%◌, ◌||◌, ◌==◌, if◌then◌else◌, List, [], ◌∷◌, ◌++◌, codes, nat_lt}
use Rattle.base_words.specs.Texts.{hex_digit}

-- a byte of a label's value: a backslash stands before a backslash and before a double quote, and a line feed is `\n`
unfoldable pub label_byte : ℕ → List ℕ
label_byte b = if b == 92 || b == 34 then 92 ∷ b ∷ [] else (if b == 10 then 92 ∷ 110 ∷ [] else b ∷ [])

abbrev pub label_value : List ℕ → List ℕ
label_value [] = []
label_value (b ∷ bs) = label_byte b ++ label_value bs

-- a byte of a string of JSON: a backslash stands before a backslash and before a double quote, and a control is `\u00` and its two digits
unfoldable pub json_byte : ℕ → List ℕ
json_byte b = if b == 92 || b == 34 then 92 ∷ b ∷ [] else (if nat_lt b 32 then codes "\\u00" ++ hex_digit (b / 16) ∷ hex_digit (b % 16) ∷ [] else b ∷ [])

abbrev pub json_value : List ℕ → List ℕ
json_value [] = []
json_value (b ∷ bs) = json_byte b ++ json_value bs
