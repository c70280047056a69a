-- Following: an answer that goes on: what is shown of it, and how it ends.
-- Source: this project's own.
use Rattle.std.specs.Prelude.{◌≡◌, ◌⊎◌, ℕ, ◌-◌, ◌^◌, ◌<◌, ◌≤◌, IsTrue, List, [], ◌++◌, false, IfOk, Option, Some, None, Result, Ok, Err, bytes_eq, codes, length}
use Rattle.std.specs.Io.KnownBytes.{Consumes, IsAtEnd}
use Rattle.agent_control.specs.{Replies.reply_in_text, declared.reply.ControlReply.ControlReply}
use Rattle.base_device.specs.{Failures.CountsMore, Failures.one_more, Whole.MakesAtMost, Whole.input_fault, declared.fault.InputFault.InputFault, declared.limits.TheConstants.MOST_ROOM, declared.one_read.MoreFault.MoreFault}
use Rattle.base_device.specs.Seen.{Change, Receives, Seen, change}
use Rattle.program_report.specs.{FaultLine.fault_line, Told.Reports, declared.stop.Stop.Stop}
use Rattle.program_report.specs.Sent.{IsAll, IsUntouched, SendsText}
use Rattle.program_calls.specs.{Ending.ended_of, Lines.TellsOf, Requesting.ReadsDevice, Showing.ShowsAnswer, Showing.fault_words, declared.call.AgentCall.AgentCall, declared.ended.Ended.Ended, declared.fault.CallFault.CallFault}
use Rattle.program_calls.specs.{declared.following.Begun.Begun, declared.following.Followed.Followed, declared.limits.TheConstants.ANSWER_MAX}
use Rattle.program_calls.specs.Hearing.{IsUnsent, fault_of_read, heard_of}
use Rattle.program_calls.specs.declared.fault.CallFault.TheVariants.{Memory, NoAnswer}
use Rattle.program_calls.specs.declared.following.Begun.TheVariants.{Lines, Answer}
use Rattle.program_calls.specs.declared.ended.Ended.TheVariants as endings
use Rattle.program_calls.specs.declared.following.Followed.TheVariants as ways

-- these bytes were read, and nothing was written
abbrev pub TakesBytes : List ℕ → Change → Type 0
TakesBytes came line = Consumes line.old.input.remaining line.new.input.remaining came × (line.new.output ≡ line.old.output)

-- ---- how it begins

-- as many bytes as the line `ok` has were read, or all where there are fewer; or a read failed, or memory was wanting
pub record ReadsFront (read : Result (List ℕ) MoreFault) (line : Change) : Type 0 where
  pub whole : IfOk read (λ front. Consumes line.old.input.remaining line.new.input.remaining front)
  pub short : IfOk read (λ front. length front ≤ 3)
  pub end : IfOk read (λ front. (length front ≡ 3) ⊎ IsAtEnd line.new.input.remaining)
  pub few : MakesAtMost 3 line.old.input line.new.input
  pub count : CountsMore read line.old.failed_calls line.new.failed_calls

-- its front is not the line `ok`; and then all other bytes were read to the end, or why they were not
pub record ReadsOther (front : List ℕ) (rest : Result (List ℕ) InputFault) (line : Change) : Type 0 where
  pub mid : Seen
  pub first : ReadsFront (Ok front) (change line.is_in_memory line.old mid)
  pub other : bytes_eq front (codes "ok\n") ≡ false
  pub others : ReadsDevice ANSWER_MAX rest (change line.is_in_memory mid line.new)

-- the answer that its front and the other bytes are, where these were read
abbrev pub heard_with : List ℕ → Result (List ℕ) InputFault → Result ControlReply CallFault
heard_with front (Ok rest) = heard_of (front ++ rest)
heard_with front (Err fault) = Err (fault_of_read fault)

-- what was read says this: its front could not be read, or it is another answer than `ok`
abbrev pub ReadsSaid : Result ControlReply CallFault → Change → Type 0
ReadsSaid said line =
    ((fault : MoreFault) × (ReadsFront (Err fault) line × (said ≡ Err (fault_of_read (input_fault fault)))))
    ⊎ ((front : List ℕ) × ((rest : Result (List ℕ) InputFault) × (ReadsOther front rest line × (said ≡ heard_with front rest))))

-- another answer than `ok` was read, and this is the answer, unless memory was refused
abbrev pub ListensToAll : Result ControlReply CallFault → Change → Type 0
ListensToAll heard line = (said : Result ControlReply CallFault) × (ReadsSaid said line × ((said ≡ heard) ⊎ (heard ≡ Err Memory)))

-- it begins with the line `ok`; or it is another answer
abbrev pub AnswerOpens : Result Begun CallFault → Change → Type 0
AnswerOpens (Ok Lines) line = ReadsFront (Ok (codes "ok\n")) line
AnswerOpens (Ok (Answer h)) line = ListensToAll (Ok h.reply) line × (reply_in_text h.text ≡ Some h.reply)
AnswerOpens (Err fault) line = ListensToAll (Err fault) line

-- the request was not sent whole, or it was
abbrev pub HearsOtherAnswer : List ℕ → Result ControlReply CallFault → Change → Type 0
HearsOtherAnswer request heard line = IsUnsent request heard line ⊎ (IsAll request line × ListensToAll heard line)

abbrev pub CallBegins : List ℕ → Result Begun CallFault → Change → Type 0
CallBegins request (Ok Lines) line = IsAll request line × ReadsFront (Ok (codes "ok\n")) line
CallBegins request (Ok (Answer h)) line = HearsOtherAnswer request (Ok h.reply) line × (reply_in_text h.text ≡ Some h.reply)
CallBegins request (Err fault) line = HearsOtherAnswer request (Err fault) line

-- ---- how it goes on

-- what came is shown, and handed on as it came
abbrev pub ShowsAll : List ℕ → Change → Type 0
ShowsAll came out = Receives came out × ((came ≡ []) ⊎ IsTrue out.new.output.is_flushed)

-- no read failed
abbrev pub ReadsOn : Change → Type 0
ReadsOn line = line.new.failed_calls ≡ line.old.failed_calls

-- a read failed; or as many bytes came as a `u64` counts
abbrev pub IsLost : List ℕ → Change → Type 0
IsLost came line = (line.new.failed_calls ≡ one_more line.old.failed_calls) ⊎ (ReadsOn line × (2 ^ 64 - 1 ≤ length came))

-- all pieces that came were shown but the last, at which the output stopped
pub record StopsAtLast (stop : Stop) (came : List ℕ) (out : Change) : Type 0 where
  pub before : List ℕ
  pub last : List ℕ
  pub mid : Seen
  pub parts : came ≡ before ++ last
  pub short : length last ≤ MOST_ROOM
  pub shown : ShowsAll before (change out.is_in_memory out.old mid)
  pub still : mid.failed_calls ≡ out.old.failed_calls
  pub stopped : SendsText (Err stop) last (change out.is_in_memory mid out.new)

-- the agent ended the connection; or it was lost; or the output failed, and a front of what came is shown
abbrev pub PassesBy : Followed → List ℕ → Change → Change → Type 0
PassesBy ways.Ended came line out = ReadsOn line × IsAtEnd line.new.input.remaining × ShowsAll came out
PassesBy ways.Lost came line out = IsLost came line × ShowsAll came out
PassesBy (ways.Stopped stop) came line out = ReadsOn line × StopsAtLast stop came out

abbrev pub PassesOn : Followed → Change → Change → Type 0
PassesOn followed line out = (came : List ℕ) × (TakesBytes came line × PassesBy followed came line out)

-- one read: what it gave is shown, where it gave something, and then there may be more
abbrev pub PassesPiece : Option Followed → List ℕ → Change → Change → Type 0
PassesPiece None came line out = ReadsOn line × (0 < length came) × IsAll came out × (out.new.failed_calls ≡ out.old.failed_calls)
PassesPiece (Some ways.Ended) came line out = ReadsOn line × (came ≡ []) × IsAtEnd line.new.input.remaining × IsUntouched out
PassesPiece (Some ways.Lost) came line out = (line.new.failed_calls ≡ one_more line.old.failed_calls) × (came ≡ []) × IsUntouched out
PassesPiece (Some (ways.Stopped stop)) came line out = ReadsOn line × (length came ≤ MOST_ROOM) × SendsText (Err stop) came out

abbrev pub PassesOne : Option Followed → Change → Change → Type 0
PassesOne followed line out = (came : List ℕ) × (TakesBytes came line × PassesPiece followed came line out)

-- what is told of how it ended
abbrev pub TellsHow : AgentCall → Followed → Ended → Change → Type 0
TellsHow call ways.Ended ended errors = (ended ≡ endings.Done) × IsUntouched errors
TellsHow call ways.Lost ended errors = TellsOf call (fault_words NoAnswer) ended errors
TellsHow call (ways.Stopped stop) ended errors = (ended ≡ ended_of stop) × Reports (fault_line call.program.now stop) errors

-- ---- both

-- the request was sent whole, and the answer began with `ok`; all that came after it is shown as it came
pub record FollowingGoesOn (call : AgentCall) (request : List ℕ) (ended : Ended) (line out errors : Change) : Type 0 where
  pub followed : Followed
  pub came : List ℕ
  pub sent : IsAll request line
  pub read : Consumes line.old.input.remaining line.new.input.remaining (codes "ok\n" ++ came)
  pub passes : PassesBy followed came line out
  pub told : TellsHow call followed ended errors

-- or there is another answer, or none, which is shown as that of any call
abbrev pub FollowingEnds : AgentCall → List ℕ → Ended → Change → Change → Change → Type 0
FollowingEnds call request ended line out errors = (heard : Result ControlReply CallFault) × (HearsOtherAnswer request heard line × ShowsAnswer call heard ended out errors)

-- where memory was wanting, nothing is sent
abbrev pub IsNotBegun : AgentCall → Ended → Change → Change → Change → Type 0
IsNotBegun call ended line out errors = IsUntouched line × (IsUntouched out × TellsOf call None ended errors)

abbrev pub CallFollows : AgentCall → List ℕ → Ended → Change → Change → Change → Type 0
CallFollows call request ended line out errors =
    IsNotBegun call ended line out errors ⊎ (FollowingGoesOn call request ended line out errors ⊎ FollowingEnds call request ended line out errors)
