-- Laws of calls. Each is the contract of a public function without a body.
use Rattle.std.specs.Prelude.{◌≡◌, ◌⊎◌, ℕ, ◌<◌, List, [], ◌∷◌, ◌++◌, false, Ok, Err, length}
use Rattle.std.specs.Str.{IsUtf8}
use Rattle.agent_control.specs.{Front.IsLineFront, Requests.command_of, Requests.request_in_line, declared.fault.RequestFault.RequestFault, declared.front.Front.TheVariants.Whole, declared.limits.TheConstants.LINE_MAX}
use Rattle.agent_control.specs.{declared.request.ControlRequest.ControlRequest}
use Rattle.agent_control.specs.declared.fault.RequestFault.TheVariants.{TooLong, NotWords}
use Rattle.program_calls.specs.declared.ask.CallWords.{CallWords}
use Rattle.program_calls.specs.Asking.{is_ask_text, line_for_ask, words_for_ask, words_line}
use Rattle.program_calls.specs.declared.ask.CallWords.TheVariants.{Need, Replace, Drop}

-- the words of the command line are text
abbrev pub AreText : CallWords → Type 0
AreText (Need name when) = IsUtf8 name.now × IsUtf8 when.now
AreText (Replace name) = IsUtf8 name.now
AreText (Drop name) = IsUtf8 name.now
AreText _ = Unit {0}

-- one line and its line feed, whatever follows, which an agent reads as this request
pub record SaysOnly (text : List ℕ) (request : ControlRequest) : Type 0 where
  pub line : List ℕ
  pub parts : text ≡ line ++ 10 ∷ []
  pub front : (more : List ℕ) → IsLineFront (text ++ more) (Whole (length line))
  pub read : request_in_line line ≡ Ok request

-- what is sent says what the words of the call ask for, and nothing else
abbrev pub SentIsAsked : Type 0
SentIsAsked = (ask : CallWords) (input text : List ℕ) → AreText ask → line_for_ask ask input ≡ Ok text
    → (request : ControlRequest) × ((command_of (words_for_ask ask input) ≡ Ok request) × SaysOnly text request)

-- the line would be longer than one may be
abbrev pub LineIsTooLong : CallWords → List ℕ → Type 0
LineIsTooLong ask input = (line : List ℕ) × ((words_line ask input ≡ Ok line) × (LINE_MAX < length line))

-- where nothing is sent, standard input holds no text, the line would be too long, or an agent would give this reason to the words
abbrev pub UnsentIsRefused : Type 0
UnsentIsRefused = (ask : CallWords) (input : List ℕ) (fault : RequestFault) → AreText ask → line_for_ask ask input ≡ Err fault
    → ((fault ≡ NotWords) × (is_ask_text ask input ≡ false)) ⊎ (((fault ≡ TooLong) × LineIsTooLong ask input) ⊎ (command_of (words_for_ask ask input) ≡ Err fault))
