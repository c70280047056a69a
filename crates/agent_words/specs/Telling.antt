-- Telling: what the client of a command is told, in words.
-- Source: docs/commands/calls.md.
use Rattle.std.specs.Prelude.{◌≡◌, ℕ, ◌==◌, Bool, true, false, if◌then◌else◌, List, [], ◌∷◌, ◌++◌, Option, Some, None, Ok, Err, codes, min}
use Rattle.state_changes.specs.{Rows.is_lease_if, declared.row.Row.Row}
use Rattle.agent_control.specs.Replies.{control_reply_text}
use Rattle.agent_control.specs.declared.reply.ControlReply.TheVariants as replies
use Rattle.vault_inventory.specs.declared.need.Need.{Need}
use Rattle.vault_inventory.specs.declared.need.Need.TheVariants as needs
use Rattle.base_moment.specs.{Rfc3339.IsDateText, declared.moment.TheConstants.LAST}
use Rattle.agent_words.specs.Outcomes.{Outcome, Why}

-- ---- the lines

-- words with a date after them, no later than the last moment
abbrev pub IsDated : List ℕ → ℕ → List ℕ → Type 0
IsDated front moment text = (date : List ℕ) × (IsDateText date (min moment LAST) × (text ≡ front ++ date))

-- until when that is: 0 where there is none, and the last moment where it always is
abbrev pub until_of_need : Need → ℕ
until_of_need (needs.Until t) = t
until_of_need needs.Always = LAST

-- until when an entry is needed: not at all, always, or until a moment
abbrev pub SaysNeededBy : Bool → Bool → ℕ → List ℕ → Type 0
SaysNeededBy true always until text = text ≡ codes "has no need"
SaysNeededBy false true until text = text ≡ codes "is needed always"
SaysNeededBy false false until text = IsDated (codes "is needed until ") until text

unfoldable pub SaysNeeded : ℕ → List ℕ → Type 0
SaysNeeded until text = SaysNeededBy (until == 0) (until == LAST) until text

-- `NAME is needed until ..`
abbrev pub IsNeedLine : List ℕ → ℕ → List ℕ → Type 0
IsNeedLine name until line = (needed : List ℕ) × (SaysNeeded until needed × (line ≡ name ++ (codes " " ++ needed)))

abbrev pub IsAddLine : List ℕ → ℕ → List ℕ → Type 0
IsAddLine name until line = (needed : List ℕ) × (SaysNeeded until needed × (line ≡ name ++ (codes " is kept from now on: it " ++ needed)))

abbrev pub replaced_text : List ℕ → Option Row → List ℕ
replaced_text name row = name ++ (if is_lease_if row then codes " has a new lease id" else codes " has a new secret")

-- and its end, no later than the last moment, where it is known
abbrev pub IsEndedLine : List ℕ → ℕ → List ℕ → Type 0
IsEndedLine name end line = (date : List ℕ) × (IsDateText date (min end LAST) × (line ≡ name ++ (codes " is no longer kept, and ends at " ++ date)))

abbrev pub IsDropLine : List ℕ → Option ℕ → List ℕ → Type 0
IsDropLine name None line = line ≡ name ++ codes " is no longer kept"
IsDropLine name (Some end) line = IsEndedLine name end line

abbrev pub settle_line : List ℕ → List ℕ
settle_line path = path ++ codes " holds every change"

abbrev pub reload_line : List ℕ → List ℕ
reload_line path = path ++ codes " was read anew"

-- ---- what is sent

-- `ok` and the line, or `error: WHY`; None where memory was wanting for it
abbrev pub IsDoneReply : Option (List ℕ) → Option (List ℕ) → Type 0
IsDoneReply None sent = sent ≡ None
IsDoneReply (Some line) None = Unit {0}
IsDoneReply (Some line) (Some text) = text ≡ control_reply_text (replies.Done (line ∷ []))

abbrev pub IsRefusedReply : Why → Option (List ℕ) → Type 0
IsRefusedReply None sent = sent ≡ None
IsRefusedReply (Some why) None = Unit {0}
IsRefusedReply (Some why) (Some text) = text ≡ control_reply_text (replies.Refused why [])

-- of a need that nothing keeps: that it holds until a restart only
abbrev pub unkept_line : List ℕ
unkept_line = codes "this holds until a restart: the agent keeps no changes"

abbrev pub unkept_lines : Bool → List (List ℕ)
unkept_lines true = []
unkept_lines false = unkept_line ∷ []

-- where the entry does not reach as far as it is needed, until when it can be kept
abbrev pub AreReachLines : Option ℕ → List (List ℕ) → List (List ℕ) → Type 0
AreReachLines None before lines = lines ≡ before
AreReachLines (Some reach) before lines = (said : List ℕ) × (IsDated (codes "it can be kept until ") reach said × (lines ≡ before ++ said ∷ []))

-- the line about a need, that one, and the one about a restart
abbrev pub AreNeedLines : Bool → Option ℕ → List ℕ → List (List ℕ) → Type 0
AreNeedLines is_kept reach line lines = (first : List (List ℕ)) × (AreReachLines reach (line ∷ []) first × (lines ≡ first ++ unkept_lines is_kept))

-- `ok`, the line about a need, and these; None where memory was wanting for them
abbrev pub IsNeedReply : Bool → Option ℕ → Option (List ℕ) → Option (List ℕ) → Type 0
IsNeedReply is_kept reach None sent = sent ≡ None
IsNeedReply is_kept reach (Some line) None = Unit {0}
IsNeedReply is_kept reach (Some line) (Some text) = (lines : List (List ℕ)) × (AreNeedLines is_kept reach line lines × (text ≡ control_reply_text (replies.Done lines)))

-- why it was not done, a reason a line
abbrev pub IsRefusalFor : List (List ℕ) → Option (List ℕ) → Type 0
IsRefusalFor [] sent = sent ≡ None
IsRefusalFor (why ∷ more) None = Unit {0}
IsRefusalFor (why ∷ more) (Some text) = text ≡ control_reply_text (replies.Refused why more)

abbrev pub IsReplyTo : Outcome → Option (List ℕ) → Type 0
IsReplyTo (Ok line) sent = IsDoneReply line sent
IsReplyTo (Err why) sent = IsRefusedReply why sent
