-- Forms: a line of the log as text for people, and as JSON.
-- Source: docs/running.md, "What the operator sees"; RFC 8259, section 7, for the strings of JSON: of the ways that it leaves,
-- the one in which all is ASCII.
use Rattle.std.specs.Prelude.{◌≡◌, ℕ, ◌+◌, ◌/◌, ◌%◌, ◌==◌, ◌&&◌, ◌||◌, if◌then◌else◌, List, [], ◌∷◌, ◌++◌, flat_map, length, nat_le, chars, codes, decimal, Option, Some, None}
use Rattle.std.specs.{Char.Escape.encode_utf16, Str.Lossy.utf8_lossy}
use Rattle.base_moment.specs.Rfc3339.{IsDateText}
use Rattle.base_words.specs.Texts.{hex_digit}
use Rattle.base_log.specs.{Lines.level_mark, Lines.level_name, declared.keys.Key.Key, declared.keys.Rest.Rest, declared.level.Level.Level, declared.line.LineWord.LineWord}
use Rattle.base_log.specs.Keys.{key_name, key_of, shape_of}
use Rattle.base_log.specs.declared.keys.Rest.TheVariants.{Names, Message, One}
use Rattle.base_log.specs.declared.line.LineWord.TheVariants as words

-- ---- for people

-- the text of a word: a moment is a date
abbrev pub SaysWord : LineWord → List ℕ → Type 0
SaysWord (words.Text w) text = text ≡ w
SaysWord (words.Number n) text = text ≡ decimal n
SaysWord (words.Moment m) text = IsDateText text m

-- the texts of words, a space (32) before each
abbrev pub SayWords : List LineWord → List ℕ → Type 0
SayWords [] text = text ≡ []
SayWords (w ∷ ws) text = (front rest : List ℕ) × SaysWord w front × SayWords ws rest × (text ≡ 32 ∷ (front ++ rest))

-- the date, the level unless it is `info`, the event, its words, and a line feed (10)
abbrev pub IsLineText : ℕ → Level → List ℕ → List LineWord → List ℕ → Type 0
IsLineText moment level event ws text =
    (date said : List ℕ) × IsDateText date moment × SayWords ws said
    × (text ≡ date ++ 32 ∷ (level_mark level ++ (event ++ (said ++ 10 ∷ []))))

-- ---- in JSON

-- a unit of UTF-16 as six characters: `\`, `u` and four hexadecimal digits
abbrev pub six_characters : ℕ → List ℕ
six_characters unit = 92 ∷ 117 ∷ hex_digit (unit / 4096) ∷ hex_digit (unit / 256 % 16) ∷ hex_digit (unit / 16 % 16) ∷ hex_digit (unit % 16) ∷ []

-- a character by such escapes; one that is not in the Basic Multilingual Plane by the two of its surrogate pair
abbrev pub escaped : ℕ → List ℕ
escaped c = flat_map six_characters (encode_utf16 c)

-- a character of a string: `"` and `\` after a `\`; backspace, tab, line feed, form feed and carriage return by their escapes of
-- two characters; what else is printable ASCII as it is; all others, control characters among them, escaped
abbrev pub json_char : ℕ → List ℕ
json_char c =
    if (c == 34) || (c == 92) then 92 ∷ c ∷ []
    else (if c == 8 then 92 ∷ 98 ∷ []
    else (if c == 9 then 92 ∷ 116 ∷ []
    else (if c == 10 then 92 ∷ 110 ∷ []
    else (if c == 12 then 92 ∷ 102 ∷ []
    else (if c == 13 then 92 ∷ 114 ∷ []
    else (if nat_le 32 c && nat_le c 126 then c ∷ [] else escaped c))))))

-- what stands between the quotes of a string: the text's characters. What is not UTF-8 stands as U+FFFD
abbrev pub json_text : List ℕ → List ℕ
json_text text = flat_map json_char (chars (utf8_lossy text))

-- a word between quotes: a moment is a date
abbrev pub SaysInside : LineWord → List ℕ → Type 0
SaysInside (words.Text w) text = text ≡ json_text w
SaysInside (words.Number n) text = text ≡ decimal n
SaysInside (words.Moment m) text = IsDateText text m

-- a text between quotes
abbrev pub quoted : List ℕ → List ℕ
quoted inside = 34 ∷ (inside ++ 34 ∷ [])

-- a word as a value: a number as it is, all else as a string
abbrev pub SaysValue : LineWord → List ℕ → Type 0
SaysValue (words.Text w) text = text ≡ quoted (json_text w)
SaysValue (words.Number n) text = text ≡ decimal n
SaysValue (words.Moment m) text = (date : List ℕ) × IsDateText date m × (text ≡ quoted date)

-- words, each after this
abbrev pub SayEach : List ℕ → List LineWord → List ℕ → Type 0
SayEach between [] text = text ≡ []
SayEach between (w ∷ ws) text = (first others : List ℕ) × SaysInside w first × SayEach between ws others × (text ≡ between ++ (first ++ others))

-- one word and others with this between them
abbrev pub SayJoined : List ℕ → LineWord → List LineWord → List ℕ → Type 0
SayJoined between w ws text = (first others : List ℕ) × SaysInside w first × SayEach between ws others × (text ≡ first ++ others)

-- ---- members, each after a comma

abbrev pub member : List ℕ → List ℕ → List ℕ
member key value = codes ", \"" ++ (key ++ (codes "\": " ++ value))

abbrev pub SaysMember : Key → LineWord → List ℕ → Type 0
SaysMember key w text = (value : List ℕ) × SaysValue w value × (text ≡ member (key_name (key_of key w)) value)

-- names, as an array of strings
abbrev pub SaysNames : List LineWord → List ℕ → Type 0
SaysNames [] text = text ≡ codes ", \"entries\": []"
SaysNames (w ∷ ws) text = (names : List ℕ) × SayJoined (codes "\", \"") w ws names × (text ≡ codes ", \"entries\": [\"" ++ (names ++ codes "\"]"))

-- words for people, as one string: the event, and each word after a space, as in a line for people
abbrev pub SaysMessage : List ℕ → List LineWord → List ℕ → Type 0
SaysMessage event [] text = text ≡ []
SaysMessage event (w ∷ ws) text = (said : List ℕ) × SayEach (codes " ") (w ∷ ws) said × (text ≡ codes ", \"message\": \"" ++ (json_text event ++ (said ++ codes "\"")))

abbrev pub SaysRest : List ℕ → Rest → List LineWord → List ℕ → Type 0
SaysRest event Names ws text = SaysNames ws text
SaysRest event Message ws text = SaysMessage event ws text
SaysRest event (One key) [] text = text ≡ []
SaysRest event (One key) (w ∷ ws) text = (first others : List ℕ) × SaysMember key w first × SaysMessage event ws others × (text ≡ first ++ others)

abbrev pub SayMembers : List ℕ → Option Key → Rest → List LineWord → List ℕ → Type 0
SayMembers event None rest ws text = SaysRest event rest ws text
SayMembers event (Some key) rest [] text = SaysRest event rest [] text
SayMembers event (Some key) rest (w ∷ ws) text = (first others : List ℕ) × SaysMember key w first × SaysRest event rest ws others × (text ≡ first ++ others)

-- all that is said of an event
abbrev pub SaysEvent : List ℕ → List LineWord → List ℕ → Type 0
SaysEvent event ws text = SayMembers event (shape_of event (length ws)).lead (shape_of event (length ws)).rest ws text

abbrev pub json_event : List ℕ → List ℕ
json_event event = codes "\", \"event\": \"" ++ (json_text event ++ codes "\"")

abbrev pub json_level : Level → List ℕ → List ℕ
json_level level event = codes "\", \"level\": \"" ++ (level_name level ++ json_event event)

-- an object of the moment as a date, the level, the event and what is said of it, and a line feed
abbrev pub IsLineJson : ℕ → Level → List ℕ → List LineWord → List ℕ → Type 0
IsLineJson moment level event ws text =
    (date said : List ℕ) × IsDateText date moment × SaysEvent event ws said
    × (text ≡ codes "{\"moment\": \"" ++ (date ++ (json_level level event ++ (said ++ codes "}\n"))))
