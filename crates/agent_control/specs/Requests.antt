-- Requests: what the words of a line ask for, and the line that asks for it.
-- Source: this project's own.
use Rattle.std.specs.Prelude.{◌≡◌, ℕ, Bool, true, false, ◌&&◌, ◌==◌, if◌then◌else◌, List, [], ◌∷◌, ◌++◌, Option, Some, None, Result, Ok, Err, length, nat_lt, bytes_eq, codes}
use Rattle.std.specs.Str.{is_utf8}
use Rattle.serde_json.specs.{Data.Data, Written.compact_text}
use Rattle.plan_forest.specs.Push.{is_name}
use Rattle.vault_inventory.specs.Values.{is_credential}
use Rattle.agent_control.specs.Answer.{◌>>=◌}
use Rattle.agent_control.specs.{declared.limits.TheConstants.LINE_MAX, declared.fault.RequestFault.RequestFault, declared.request.ControlRequest.ControlRequest, declared.when.When.When}
use Rattle.agent_control.specs.When.{IsWhen, when_of, when_word}
use Rattle.agent_control.specs.Words.{texted, word_at, words_of}
use Rattle.agent_control.specs.declared.fault.RequestFault.TheVariants.{TooLong, NoCommand, BadName, BadWhen, BadCredential}
use Rattle.agent_control.specs.declared.request.ControlRequest.TheVariants.{Need, Replace, Add, Drop, Status, Health, Settle, Reload, Follow}

-- ---- as it is read

-- so many words, the first of which is this one
unfoldable pub is_command : List ℕ → ℕ → List (List ℕ) → Bool
is_command word count ws = bytes_eq (word_at ws 0) word && (length ws == count)

-- the same, with one more word that is this
unfoldable pub is_command_with : List ℕ → List ℕ → List (List ℕ) → Bool
is_command_with word more ws = is_command word 2 ws && bytes_eq (word_at ws 1) more

abbrev pub need_request : List ℕ → Option When → Result ControlRequest RequestFault
need_request name None = Err BadWhen
need_request name (Some when) = Ok (Need name when)

abbrev pub replace_of : List ℕ → List ℕ → Result ControlRequest RequestFault
replace_of name credential = if is_credential credential then Ok (Replace name credential) else Err BadCredential

abbrev pub if_named : List ℕ → Result ControlRequest RequestFault → Result ControlRequest RequestFault
if_named name answer = if is_name name then answer else Err BadName

-- what the words of a command without a name ask for
unfoldable pub plain_of : List (List ℕ) → Result ControlRequest RequestFault
plain_of ws =
    if is_command (codes "add") 2 ws then Ok (Add (word_at ws 1))
    else (if is_command (codes "status") 1 ws then Ok Status
    else (if is_command (codes "health") 1 ws then Ok Health
    else (if is_command (codes "settle") 1 ws then Ok Settle
    else (if is_command (codes "reload") 1 ws then Ok Reload
    else (if is_command (codes "follow") 1 ws then Ok (Follow false)
    else (if is_command_with (codes "follow") (codes "alerts") ws then Ok (Follow true)
    else Err NoCommand))))))

-- what words ask for, or the first reason why they ask for nothing
unfoldable pub command_of : List (List ℕ) → Result ControlRequest RequestFault
command_of ws =
    if is_command (codes "need") 3 ws then if_named (word_at ws 1) (need_request (word_at ws 1) (when_of (word_at ws 2)))
    else (if is_command (codes "replace") 3 ws then if_named (word_at ws 1) (replace_of (word_at ws 1) (word_at ws 2))
    else (if is_command (codes "drop") 2 ws then if_named (word_at ws 1) (Ok (Drop (word_at ws 1)))
    else plain_of ws))

-- what a line of any length asks for
unfoldable pub asked_by_line : List ℕ → Result ControlRequest RequestFault
asked_by_line line = words_of line >>= command_of

-- what a line asks for, which is without its line feed
unfoldable pub request_in_line : List ℕ → Result ControlRequest RequestFault
request_in_line line = if nat_lt LINE_MAX (length line) then Err TooLong else asked_by_line line

-- ---- as it is written

abbrev pub follow_words : Bool → List (List ℕ)
follow_words false = codes "follow" ∷ []
follow_words true = codes "follow" ∷ codes "alerts" ∷ []

abbrev pub words_for : ControlRequest → List (List ℕ)
words_for (Need name when) = codes "need" ∷ name ∷ when_word when ∷ []
words_for (Replace name credential) = codes "replace" ∷ name ∷ credential ∷ []
words_for (Add table) = codes "add" ∷ table ∷ []
words_for (Drop name) = codes "drop" ∷ name ∷ []
words_for Status = codes "status" ∷ []
words_for Health = codes "health" ∷ []
words_for Settle = codes "settle" ∷ []
words_for Reload = codes "reload" ∷ []
words_for (Follow alerts) = follow_words alerts

-- what it holds is text, which JSON can write
abbrev pub is_request_text : ControlRequest → Bool
is_request_text (Need name when) = is_utf8 name
is_request_text (Replace name credential) = is_utf8 name && is_utf8 credential
is_request_text (Add table) = is_utf8 table
is_request_text (Drop name) = is_utf8 name
is_request_text _ = true

-- the array of its words
unfoldable pub tree_for : ControlRequest → Result Data RequestFault
tree_for r = texted (is_request_text r) (words_for r)

unfoldable pub line_for : ControlRequest → Result (List ℕ) RequestFault
line_for r = tree_for r >>= (λ d. Ok (compact_text d))

-- a line with its line feed, where it is not too long
unfoldable pub ended : List ℕ → Result (List ℕ) RequestFault
ended line = if nat_lt LINE_MAX (length line) then Err TooLong else Ok (line ++ 10 ∷ [])

-- the line that asks for it, with its line feed, or why there is none
unfoldable pub request_line_text : ControlRequest → Result (List ℕ) RequestFault
request_line_text r = line_for r >>= ended

-- ---- which there are

-- a request that a client may make
abbrev pub IsControlRequest : ControlRequest → Type 0
IsControlRequest (Need name when) = (is_name name ≡ true) × IsWhen when
IsControlRequest (Replace name credential) = (is_name name ≡ true) × (is_credential credential ≡ true)
IsControlRequest (Add table) = Unit {0}
IsControlRequest (Drop name) = is_name name ≡ true
IsControlRequest _ = Unit {0}
