-- Lines: what is said of an agent, and what becomes of it in the room of its log, and in the room of each of those who follow it.
-- Source: docs/running.md, "What the operator sees".
use Rattle.std.specs.Prelude.{◌≡◌, ◌⊎◌, ◌<◌, ℕ, Bool, true, false, if◌then◌else◌, List, [], ◌∷◌, ◌++◌, codes, Option, Some, None}
use Rattle.vault_lanes.specs.{declared.loss.Loss.Loss, declared.reason.ConnectReason.ConnectReason}
use Rattle.vault_lanes.specs.declared.loss.Loss.TheVariants as losses
use Rattle.vault_lanes.specs.declared.reason.ConnectReason.TheVariants as reasons
use Rattle.base_log.specs.{Following.put_if_heard, Forms.IsLineJson, Forms.IsLineText, declared.follower.Follower.Follower, declared.level.Level.Level, declared.level.Level.TheVariants.Warning, declared.line.LineWord.LineWord}
use Rattle.base_log.specs.{declared.form.Form.Form}
use Rattle.base_log.specs.Waiting.{Waiting, dropping, with_line}
use Rattle.base_log.specs.declared.form.Form.TheVariants.{Text, Json}
use Rattle.base_log.specs.declared.line.LineWord.TheVariants as words
use Rattle.agent_log.specs.Rooms.{Rooms, misses, missing_in}

-- ---- a line

-- how much it matters, what happened, and the words that belong to it
pub record Line : Type 0 where
  pub level : Level
  pub event : List ℕ
  pub words : List LineWord

abbrev pub said_line : Level → List ℕ → List LineWord → Line
said_line level event ws = record { level = level; event = event; words = ws }

-- of one text, a name for example
abbrev pub text_line : Level → List ℕ → List ℕ → Line
text_line level event text = said_line level event (words.Text text ∷ [])

-- a line where something is so
abbrev pub line_if : Bool → Line → List Line
line_if is l = if is then l ∷ [] else []

-- why there is no connection
abbrev pub reason_text : ConnectReason → List ℕ
reason_text reasons.NoSuchFile = codes "no such file"
reason_text reasons.Denied = codes "permission denied"
reason_text reasons.Refused = codes "connection refused"
reason_text reasons.Unreachable = codes "unreachable"
reason_text reasons.TimedOut = codes "timed out"
reason_text reasons.Other = codes "the connection failed"

-- why a request counts as lost; where there is no connection, to which place and why
abbrev pub loss_words : List ℕ → Loss → List LineWord
loss_words place (losses.Connect reason) = words.Text (codes "connect") ∷ words.Text (place ++ (codes ": " ++ reason_text reason)) ∷ []
loss_words place losses.Timeout = words.Text (codes "timeout") ∷ []
loss_words place losses.Closed = words.Text (codes "closed") ∷ []
loss_words place losses.Reply = words.Text (codes "reply") ∷ []
loss_words place (losses.Status status) = words.Number status ∷ []

-- ---- what becomes of it

abbrev pub LineIsWritten : Form → ℕ → Line → List ℕ → Type 0
LineIsWritten Text moment l text = IsLineText moment l.level l.event l.words text
LineIsWritten Json moment l text = IsLineJson moment l.level l.event l.words text

-- the line that tells how many were dropped before it
abbrev pub dropped_line : ℕ → Line
dropped_line n = said_line Warning (codes "log") (words.Text (codes "dropped") ∷ words.Number n ∷ words.Text (codes "lines") ∷ [])

abbrev pub TellsDropped : Form → ℕ → ℕ → List ℕ → Type 0
TellsDropped form moment untold notice = (untold ≡ 0) ⊎ LineIsWritten form moment (dropped_line untold) notice

-- the text of a line is put where there is room for it, and before it the line that tells of those that were dropped; where some were, and
-- memory is wanting for that one, it is dropped and counted
abbrev pub TextIsPut : Form → ℕ → List ℕ → Waiting → Waiting → Type 0
TextIsPut form moment text old new =
    ((notice : List ℕ) × (TellsDropped form moment old.untold notice × (new ≡ with_line notice text old))) ⊎ ((0 < old.untold) × (new ≡ dropping 1 old))

-- one who follows the log is told of it in the same way, where it is told of that level
abbrev pub FollowerIsTold : Form → ℕ → Level → List ℕ → Follower → Follower → Type 0
FollowerIsTold form moment level text old new =
    ((notice : List ℕ) × (TellsDropped form moment old.room.untold notice × (new ≡ record old { room = put_if_heard old.alerts_alone level notice text old.room })))
    ⊎ ((0 < old.room.untold) × (new ≡ misses level old))

abbrev pub EachIsTold : Form → ℕ → Level → List ℕ → List Follower → List Follower → Type 0
EachIsTold form moment level text [] new = new ≡ []
EachIsTold form moment level text (f ∷ fs) [] = ⊥
EachIsTold form moment level text (f ∷ fs) (n ∷ ns) = FollowerIsTold form moment level text f n × EachIsTold form moment level text fs ns

-- the first who will follow warnings and alerts alone, where none has come yet
abbrev pub EarlyIsTold : Form → ℕ → Level → List ℕ → Option Follower → Option Follower → Type 0
EarlyIsTold form moment level text None new = new ≡ None
EarlyIsTold form moment level text (Some f) None = ⊥
EarlyIsTold form moment level text (Some f) (Some n) = FollowerIsTold form moment level text f n

-- no room changes what comes into another
abbrev pub ArePut : Form → ℕ → Level → List ℕ → Rooms → Rooms → Type 0
ArePut form moment level text old new =
    TextIsPut form moment text old.log new.log × EachIsTold form moment level text old.followers new.followers × EarlyIsTold form moment level text old.early new.early

-- a line is said at a moment; where memory is wanting for it, it is dropped and counted
unfoldable pub LineIsSaid : Form → ℕ → Line → Rooms → Rooms → Type 0
LineIsSaid form moment l old new = ((text : List ℕ) × (LineIsWritten form moment l text × ArePut form moment l.level text old new)) ⊎ (new ≡ missing_in l.level old)

-- the same of a line that is not counted where memory is wanting for it, but to be said again
abbrev pub IsSaid : Bool → Form → ℕ → Line → Rooms → Rooms → Type 0
IsSaid true form moment l old new = (text : List ℕ) × (LineIsWritten form moment l text × ArePut form moment l.level text old new)
IsSaid false form moment l old new = new ≡ old

-- lines are said, one after another
abbrev pub AreSaid : Form → ℕ → List Line → Rooms → Rooms → Type 0
AreSaid form moment [] old new = new ≡ old
AreSaid form moment (l ∷ ls) old new = (mid : Rooms) × (LineIsSaid form moment l old mid × AreSaid form moment ls mid new)
