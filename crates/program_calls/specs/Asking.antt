-- Asking: the words that a call sends to a running agent, and the line that they make.
-- Source: this project's own; what a line asks for is agent_control's, and JSON is that of RFC 8259.
use Rattle.std.specs.Prelude.{ℕ, List, [], ◌∷◌, ◌++◌, Bool, true, false, Result, Ok, codes}
use Rattle.std.specs.Str.{is_utf8}
use Rattle.serde_json.specs.{Data.Data, Written.compact_text}
use Rattle.agent_control.specs.Answer.{◌>>=◌}
use Rattle.agent_control.specs.{Requests.request_in_line, Words.texted, declared.fault.RequestFault.RequestFault}
use Rattle.base_words.specs.Texts.{stripped}
use Rattle.program_calls.specs.declared.ask.CallWords.{CallWords}
use Rattle.program_calls.specs.declared.ask.CallWords.TheVariants.{Need, Replace, Add, Drop, Status, Health, Settle, Reload, Follow}

abbrev pub command_word : CallWords → List ℕ
command_word (Need name when) = codes "need"
command_word (Replace name) = codes "replace"
command_word Add = codes "add"
command_word (Drop name) = codes "drop"
command_word Status = codes "status"
command_word Health = codes "health"
command_word Settle = codes "settle"
command_word Reload = codes "reload"
command_word (Follow alerts) = codes "follow"

-- whether it takes what standard input holds
abbrev pub takes_input : CallWords → Bool
takes_input (Replace name) = true
takes_input Add = true
takes_input _ = false

-- whether its answer goes on
abbrev pub is_follow : CallWords → Bool
is_follow (Follow alerts) = true
is_follow _ = false

abbrev pub is_health : CallWords → Bool
is_health Health = true
is_health _ = false

-- its words: those of the command line, and what standard input held
abbrev pub words_for_ask : CallWords → List ℕ → List (List ℕ)
words_for_ask (Need name when) input = codes "need" ∷ name.now ∷ when.now ∷ []
words_for_ask (Replace name) input = codes "replace" ∷ name.now ∷ stripped input ∷ []
words_for_ask Add input = codes "add" ∷ input ∷ []
words_for_ask (Drop name) input = codes "drop" ∷ name.now ∷ []
words_for_ask Status input = codes "status" ∷ []
words_for_ask Health input = codes "health" ∷ []
words_for_ask Settle input = codes "settle" ∷ []
words_for_ask Reload input = codes "reload" ∷ []
words_for_ask (Follow false) input = codes "follow" ∷ []
words_for_ask (Follow true) input = codes "follow" ∷ codes "alerts" ∷ []

-- what it takes of standard input is text, which JSON can write
abbrev pub is_ask_text : CallWords → List ℕ → Bool
is_ask_text (Replace name) input = is_utf8 (stripped input)
is_ask_text Add input = is_utf8 input
is_ask_text _ input = true

-- the array of its words
unfoldable pub tree_for_ask : CallWords → List ℕ → Result Data RequestFault
tree_for_ask ask input = texted (is_ask_text ask input) (words_for_ask ask input)

-- its words as a line of JSON
unfoldable pub words_line : CallWords → List ℕ → Result (List ℕ) RequestFault
words_line ask input = tree_for_ask ask input >>= (λ d. Ok (compact_text d))

-- the line that it sends, with its line feed, where an agent reads a request in it; else why it does not
unfoldable pub line_for_ask : CallWords → List ℕ → Result (List ℕ) RequestFault
line_for_ask ask input = words_line ask input >>= (λ line. request_in_line line >>= (λ request. Ok (line ++ 10 ∷ [])))
