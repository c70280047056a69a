-- Replies: the lines that answer a request, and what a client reads of them.
-- Source: this project's own.
use Rattle.std.specs.Prelude.{ℕ, ◌==◌, List, [], ◌∷◌, ◌++◌, if◌then◌else◌, Option, Some, None, option_map, length, take, drop, bytes_eq, codes}
use Rattle.base_words.specs.{Laws.AllLack, Laws.Lacks, Pieces.pieces}
use Rattle.agent_control.specs.{declared.fault.RequestFault.RequestFault, declared.reply.ControlReply.ControlReply}
use Rattle.agent_control.specs.declared.fault.RequestFault.TheVariants.{TooLong, NotWords, NoCommand, BadName, BadWhen, BadCredential, OutOfMemory}
use Rattle.agent_control.specs.declared.reply.ControlReply.TheVariants.{Done, Refused}

-- ---- as it is written

-- each line, and a line feed after it
abbrev pub lines_text : List (List ℕ) → List ℕ
lines_text [] = []
lines_text (line ∷ lines) = line ++ 10 ∷ lines_text lines

abbrev pub reply_lines : ControlReply → List (List ℕ)
reply_lines (Done lines) = codes "ok" ∷ lines
reply_lines (Refused why more) = (codes "error: " ++ why) ∷ more

unfoldable pub control_reply_text : ControlReply → List ℕ
control_reply_text reply = lines_text (reply_lines reply)

-- ---- as it is read

-- the pieces of a text between its line feeds, without the last, where that is empty
abbrev pub closed_lines : List (List ℕ) → Option (List (List ℕ))
closed_lines [] = None
closed_lines (piece ∷ []) = if length piece == 0 then Some [] else None
closed_lines (piece ∷ next ∷ pieces) = option_map (λ lines. piece ∷ lines) (closed_lines (next ∷ pieces))

-- the lines of a text, where each has its line feed
unfoldable pub lines_of_text : List ℕ → Option (List (List ℕ))
lines_of_text text = closed_lines (pieces 10 text)

-- the reason on the first line of a refusal
unfoldable pub refusal_of : List ℕ → Option (List ℕ)
refusal_of line = if bytes_eq (take 7 line) (codes "error: ") then Some (drop 7 line) else None

-- the lines after it are further reasons
abbrev pub refused_in : List ℕ → List (List ℕ) → Option ControlReply
refused_in line more = option_map (λ why. Refused why more) (refusal_of line)

abbrev pub reply_in_lines : List (List ℕ) → Option ControlReply
reply_in_lines [] = None
reply_in_lines (line ∷ lines) = if bytes_eq line (codes "ok") then Some (Done lines) else refused_in line lines

abbrev pub reply_if : Option (List (List ℕ)) → Option ControlReply
reply_if None = None
reply_if (Some lines) = reply_in_lines lines

-- the reply that the bytes are which came before the connection was closed
unfoldable pub reply_in_text : List ℕ → Option ControlReply
reply_in_text text = reply_if (lines_of_text text)

-- ---- which there are

-- each line is one line
abbrev pub IsControlReply : ControlReply → Type 0
IsControlReply (Done lines) = AllLack 10 lines
IsControlReply (Refused why more) = Lacks 10 why × AllLack 10 more

-- ---- why a request was not read

unfoldable pub request_fault_text : RequestFault → List ℕ
request_fault_text TooLong = codes "a request is one line of at most 65536 bytes"
request_fault_text NotWords = codes "send one line of JSON: an array of words"
request_fault_text NoCommand = codes "the commands are: need NAME WHEN, replace NAME, add, drop NAME, status, health, settle, reload, follow [alerts]"
request_fault_text BadName = codes "NAME is 1 to 64 ASCII letters, digits, -, _, . or /"
request_fault_text BadWhen = codes "WHEN is a moment (1764000000), a date (\"2026-11-22T09:00:00Z\") or +90s, +30m, +6h, +2d, or always"
request_fault_text BadCredential = codes "a secret or lease id is 1 to 256 printable ASCII characters without a space"
request_fault_text OutOfMemory = codes "out of memory"
