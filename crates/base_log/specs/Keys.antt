-- Keys: the members in which an object of the log has the words of its event.
-- Source: docs/commands/serve.md, "The log as JSON", whose table this is.
use Rattle.std.specs.Prelude.{ℕ, Bool, ◌&&◌, ◌||◌, if◌then◌else◌, List, [], ◌∷◌, codes, bytes_eq, nat_lt, Option, Some, None}
use Rattle.std.specs.List.{list_any}
use Rattle.base_log.specs.{declared.keys.Key.Key, declared.keys.Rest.Rest, declared.keys.Shape.Shape, declared.line.LineWord.LineWord}
use Rattle.base_log.specs.declared.keys.Key.TheVariants.{At, Entry, End, Seconds, Until, Reason, Status, Margin}
use Rattle.base_log.specs.declared.keys.Rest.TheVariants.{Names, Message, One}
use Rattle.base_log.specs.declared.line.LineWord.TheVariants as words

abbrev pub key_name : Key → List ℕ
key_name At = codes "at"
key_name Entry = codes "entry"
key_name End = codes "end"
key_name Seconds = codes "seconds"
key_name Until = codes "until"
key_name Reason = codes "reason"
key_name Status = codes "status"
key_name Margin = codes "margin"

-- a reason that is a number is the status of a reply
abbrev pub number_key : Key → Key
number_key Reason = Status
number_key key = key

abbrev pub key_of : Key → LineWord → Key
key_of key (words.Text w) = key
key_of key (words.Number n) = number_key key
key_of key (words.Moment m) = key

abbrev pub is_one_of : List (List ℕ) → List ℕ → Bool
is_one_of events event = list_any (λ e. bytes_eq event e) events

-- ---- what belongs to an event

-- a reason
unfoldable pub has_reason : List ℕ → Bool
has_reason event = is_one_of (codes "begin" ∷ codes "away" ∷ []) event

-- names of entries
unfoldable pub has_names : List ℕ → Bool
has_names event = is_one_of (codes "look" ∷ codes "renew" ∷ []) event

-- an entry, and the moment up to which it lives or can be kept
unfoldable pub has_end : List ℕ → Bool
has_end event = is_one_of (codes "entry" ∷ codes "ended" ∷ codes "top" ∷ codes "short" ∷ []) event

-- an entry, and for how many seconds it lives
unfoldable pub has_seconds : List ℕ → Bool
has_seconds event = is_one_of (codes "told" ∷ codes "ahead" ∷ []) event

-- an entry, and why, where that is said: what came of a request about it
unfoldable pub is_trouble : List ℕ → Bool
is_trouble event = is_one_of (codes "lost" ∷ codes "refused" ∷ codes "gone" ∷ codes "orphan" ∷ codes "never" ∷ codes "steps-in" ∷ []) event

-- the same of a change
unfoldable pub is_change : List ℕ → Bool
is_change event = is_one_of (codes "replace" ∷ codes "add" ∷ codes "drop" ∷ []) event

-- a file of credentials is that of an entry where more is said than a message
abbrev pub is_about_entry : List ℕ → ℕ → Bool
is_about_entry event count = is_trouble event || (is_change event || (bytes_eq event (codes "secret-file") && nat_lt 1 count))

-- the members of an event with so many words: first that of this key, if there is one, and then the rest
abbrev pub shape : Option Key → Rest → Shape
shape lead rest = record { lead = lead; rest = rest }

-- what is not named is a message for people
unfoldable pub shape_of : List ℕ → ℕ → Shape
shape_of event count =
    if has_reason event then shape None (One Reason)
    else (if has_names event then shape None Names
    else (if bytes_eq event (codes "wake") then shape (Some At) Names
    else (if bytes_eq event (codes "next") then shape (Some At) (One Entry)
    else (if has_end event then shape (Some Entry) (One End)
    else (if has_seconds event then shape (Some Entry) (One Seconds)
    else (if bytes_eq event (codes "need") then shape (Some Entry) (One Until)
    else (if bytes_eq event (codes "behind") then shape None (One Margin)
    else (if is_about_entry event count then shape (Some Entry) (One Reason)
    else shape None Message))))))))
