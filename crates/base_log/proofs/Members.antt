-- What is appended piece by piece is a member, members one after the other, or a line.
use Rattle.std.proofs.Common.{◌≡◌, ◌++◌, ◌∷◌, [], ℕ, List, refl, Some}
use Rattle.std.specs.Prelude.{codes}
use Rattle.base_moment.specs.Rfc3339.{IsDateText}
use Rattle.base_log.specs.{Keys.key_name, Keys.key_of, declared.keys.Key.Key, declared.keys.Rest.Rest, declared.keys.Rest.TheVariants.One, declared.level.Level.Level, declared.line.LineWord.LineWord}
use Rattle.base_log.specs.Forms.{IsLineJson, SayEach, SayJoined, SayMembers, SaysEvent, SaysInside, SaysMember, SaysMessage, SaysNames, SaysRest, SaysValue, json_level, json_text, member, quoted}
use Rattle.base_log.specs.declared.line.LineWord.TheVariants as words
use Rattle.base_log.proofs.Pieces.{two_pushed, three_pushed, four_pushed, five_pieces}

-- a date between quotes is a moment's value
pub date_said : (m : ℕ) (o a b c date : List ℕ) → a ≡ o ++ 34 ∷ [] → IsDateText date m → b ≡ a ++ date → c ≡ b ++ 34 ∷ []
    → (said : List ℕ) × SaysValue (words.Moment m) said × (c ≡ o ++ said)
date_said m o a b c date e d f g = (quoted date, (date, d, refl), three_pushed o a b c (34 ∷ []) date (34 ∷ []) e f g)

-- a key and a value are a member
pub member_said : (key : Key) (w : LineWord) (o a b c d value : List ℕ) → a ≡ o ++ codes ", \"" → b ≡ a ++ key_name (key_of key w) → c ≡ b ++ codes "\": "
    → SaysValue w value → d ≡ c ++ value → (said : List ℕ) × SaysMember key w said × (d ≡ o ++ said)
member_said key w o a b c d value e f g v h =
    (member (key_name (key_of key w)) value, (value, v, refl), four_pushed o a b c d (codes ", \"") (key_name (key_of key w)) (codes "\": ") value e f g h)

-- one word and others are joined
pub joined_said : (between : List ℕ) (w : LineWord) (ws : List LineWord) (o a b first others : List ℕ) → SaysInside w first → a ≡ o ++ first → SayEach between ws others → b ≡ a ++ others
    → (said : List ℕ) × SayJoined between w ws said × (b ≡ o ++ said)
joined_said between w ws o a b first others s e t f = (first ++ others, (first, others, s, t, refl), two_pushed o a b first others e f)

-- and between these pieces they are names
pub names_said : (w : LineWord) (ws : List LineWord) (o a b c names : List ℕ) → a ≡ o ++ codes ", \"entries\": [\"" → SayJoined (codes "\", \"") w ws names → b ≡ a ++ names → c ≡ b ++ codes "\"]"
    → (said : List ℕ) × SaysNames (w ∷ ws) said × (c ≡ o ++ said)
names_said w ws o a b c names e j f g =
    (codes ", \"entries\": [\"" ++ (names ++ codes "\"]"), (names, j, refl), three_pushed o a b c (codes ", \"entries\": [\"") names (codes "\"]") e f g)

-- the event and words are a message
pub message_said : (event : List ℕ) (w : LineWord) (ws : List LineWord) (o a b c d text : List ℕ) → a ≡ o ++ codes ", \"message\": \"" → b ≡ a ++ json_text event → SayEach (codes " ") (w ∷ ws) text
    → c ≡ b ++ text → d ≡ c ++ codes "\"" → (said : List ℕ) × SaysMessage event (w ∷ ws) said × (d ≡ o ++ said)
message_said event w ws o a b c d text e f j g h =
    (codes ", \"message\": \"" ++ (json_text event ++ (text ++ codes "\"")), (text, j, refl), four_pushed o a b c d (codes ", \"message\": \"") (json_text event) text (codes "\"") e f g h)

-- one word with a key stands before a message
pub one_said : (event : List ℕ) (key : Key) (w : LineWord) (ws : List LineWord) (o a b first others : List ℕ) → SaysMember key w first → a ≡ o ++ first → SaysMessage event ws others → b ≡ a ++ others
    → (said : List ℕ) × SaysRest event (One key) (w ∷ ws) said × (b ≡ o ++ said)
one_said event key w ws o a b first others s e t f = (first ++ others, (first, others, s, t, refl), two_pushed o a b first others e f)

-- and the first word before the rest
pub first_said : (event : List ℕ) (key : Key) (rest : Rest) (w : LineWord) (ws : List LineWord) (o a b first others : List ℕ) → SaysMember key w first → a ≡ o ++ first → SaysRest event rest ws others → b ≡ a ++ others
    → (said : List ℕ) × SayMembers event (Some key) rest (w ∷ ws) said × (b ≡ o ++ said)
first_said event key rest w ws o a b first others s e t f = (first ++ others, (first, others, s, t, refl), two_pushed o a b first others e f)

-- the pieces of a line
pub line_said : (moment : ℕ) (level : Level) (event : List ℕ) (ws : List LineWord) (a b c d e date said : List ℕ)
    → a ≡ codes "{\"moment\": \"" → IsDateText date moment → b ≡ a ++ date → c ≡ b ++ json_level level event → SaysEvent event ws said → d ≡ c ++ said → e ≡ d ++ codes "}\n"
    → IsLineJson moment level event ws e
line_said moment level event ws a b c d e date said f i g h s j k =
    (date, said, i, s, five_pieces a b c d e (codes "{\"moment\": \"") date (json_level level event) said (codes "}\n") f g h j k)
