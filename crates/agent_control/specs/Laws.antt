-- Laws of the control protocol. Each is the contract of a public function without a body.
use Rattle.std.specs.Prelude.{◌≡◌, ◌⊎◌, ℕ, ◌*◌, ◌<◌, ◌≤◌, true, false, List, [], ◌∷◌, ◌++◌, Ok, Some, length, codes}
use Rattle.std.specs.{Char.is_ascii_digit, List.list_all, Str.Parse.digits_value}
use Rattle.base_moment.specs.MomentOf.{moment_of}
use Rattle.vault_json.specs.Body.{json_tree}
use Rattle.vault_inventory.specs.declared.need.Need.{Need}
use Rattle.vault_inventory.specs.declared.need.Need.TheVariants.{Until, Always}
use Rattle.agent_control.specs.{Front.IsLineFront, Words.tree_of_words, declared.limits.TheConstants.LINE_MAX, declared.fault.RequestFault.RequestFault, declared.front.Front.TheVariants.Whole, declared.reply.ControlReply.ControlReply}
use Rattle.agent_control.specs.{declared.request.ControlRequest.ControlRequest, declared.when.When.When}
use Rattle.agent_control.specs.Replies.{IsControlReply, control_reply_text, reply_in_text, request_fault_text}
use Rattle.agent_control.specs.Requests.{IsControlRequest, request_in_line, request_line_text}
use Rattle.agent_control.specs.declared.when.When.TheVariants.{Fixed, FromNow}
use Rattle.agent_control.specs.declared.reply.ControlReply.TheVariants as replies
use Rattle.agent_control.specs.declared.request.ControlRequest.TheVariants as asks

-- ---- what a line says, whatever reads it

-- 1 to 12 digits of this number
abbrev pub AreDigits : List ℕ → ℕ → Type 0
AreDigits digits n = (0 < length digits) × (length digits ≤ 12) × (list_all is_ascii_digit digits ≡ true) × (digits_value 10 digits ≡ n)

-- no unit, or a letter that stands for so many seconds
abbrev pub IsUnit : List ℕ → ℕ → Type 0
IsUnit unit size =
    ((unit ≡ []) × (size ≡ 1)) ⊎ ((unit ≡ codes "s") × (size ≡ 1)) ⊎ ((unit ≡ codes "m") × (size ≡ 60)) ⊎ ((unit ≡ codes "h") × (size ≡ 3600)) ⊎ ((unit ≡ codes "d") × (size ≡ 86400))

-- a plus, a number, and a unit or none
pub record IsSpan (word : List ℕ) (n : ℕ) : Type 0 where
  pub digits : List ℕ
  pub count : ℕ
  pub are_digits : AreDigits digits count
  pub unit : List ℕ
  pub size : ℕ
  pub is_unit : IsUnit unit size
  pub parts : word ≡ 43 ∷ (digits ++ unit)
  pub product : n ≡ count * size

-- a moment is its digits, or a date
abbrev pub SaysNeed : Need → List ℕ → Type 0
SaysNeed (Until t) word = AreDigits word t ⊎ (moment_of word ≡ Ok t)
SaysNeed Always word = word ≡ codes "always"

abbrev pub SaysWhen : When → List ℕ → Type 0
SaysWhen (Fixed need) word = SaysNeed need word
SaysWhen (FromNow n) word = IsSpan word n

-- these words ask for it
abbrev pub WordsAskFor : ControlRequest → List (List ℕ) → Type 0
WordsAskFor (asks.Need name when) ws = (word : List ℕ) × SaysWhen when word × (ws ≡ codes "need" ∷ name ∷ word ∷ [])
WordsAskFor (asks.Replace name credential) ws = ws ≡ codes "replace" ∷ name ∷ credential ∷ []
WordsAskFor (asks.Add table) ws = ws ≡ codes "add" ∷ table ∷ []
WordsAskFor (asks.Drop name) ws = ws ≡ codes "drop" ∷ name ∷ []
WordsAskFor asks.Status ws = ws ≡ codes "status" ∷ []
WordsAskFor asks.Health ws = ws ≡ codes "health" ∷ []
WordsAskFor asks.Settle ws = ws ≡ codes "settle" ∷ []
WordsAskFor asks.Reload ws = ws ≡ codes "reload" ∷ []
WordsAskFor (asks.Follow false) ws = ws ≡ codes "follow" ∷ []
WordsAskFor (asks.Follow true) ws = ws ≡ codes "follow" ∷ codes "alerts" ∷ []

-- the line asks for it: it is JSON of an array of words that do
pub record LineAsks (line : List ℕ) (r : ControlRequest) : Type 0 where
  pub short : length line ≤ LINE_MAX
  pub is_request : IsControlRequest r
  pub words : List (List ℕ)
  pub tree : json_tree line ≡ Some (tree_of_words words)
  pub says : WordsAskFor r words

-- ---- requests

-- what is read of a line is what it asks for
abbrev pub RequestFound : Type 0
RequestFound = (line : List ℕ) (r : ControlRequest) → request_in_line line ≡ Ok r → LineAsks line r

-- and a line that asks for something is read so
abbrev pub RequestOnly : Type 0
RequestOnly = (line : List ℕ) (r : ControlRequest) → LineAsks line r → request_in_line line ≡ Ok r

-- what is written is one line and a line feed, whatever follows, and is read as the same request
abbrev pub RequestWrittenIsRead : Type 0
RequestWrittenIsRead = (r : ControlRequest) (text more : List ℕ) → IsControlRequest r → request_line_text r ≡ Ok text
    → (line : List ℕ) × (text ≡ line ++ 10 ∷ []) × IsLineFront (text ++ more) (Whole (length line)) × (request_in_line line ≡ Ok r)

-- ---- replies

-- the text of a reply is read as that reply
abbrev pub ReplyFound : Type 0
ReplyFound = (reply : ControlReply) → IsControlReply reply → reply_in_text (control_reply_text reply) ≡ Some reply

-- and no other text is
abbrev pub ReplyOnly : Type 0
ReplyOnly = (text : List ℕ) (reply : ControlReply) → reply_in_text text ≡ Some reply → IsControlReply reply × (text ≡ control_reply_text reply)

-- a refused request is answered in one line
abbrev pub WhyIsLine : Type 0
WhyIsLine = (fault : RequestFault) → IsControlReply (replies.Refused (request_fault_text fault) [])
