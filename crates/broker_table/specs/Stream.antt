-- A request served over a stream: what is read, what the table then is, and what is written.
-- Source: RFC 9112 (the message that is read and the reply that is written); which unreadable request gets a reply is this
-- project's own.
use Rattle.std.specs.Prelude.{◌≡◌, ℕ, ◌⊎◌, List, [], Bool, IsTrue, Result, Ok, Err}
use Rattle.std.specs.Io.KnownBytes.{Keeps}
use Rattle.vault_http.specs.{declared.http_fault.HttpFault.HttpFault, declared.request.Request.Request, declared.writing.SendFault.SendFault, Reading.SettlesRequest, RoundTrip.is_sent, Written.reply_text}
use Rattle.vault_http.specs.{declared.known.TheConstants.MOST_MESSAGE}
use Rattle.vault_http.specs.declared.http_fault.HttpFault.TheVariants as https
use Rattle.vault_http.specs.declared.writing.SendFault.TheVariants as sends
use Rattle.base_device.specs.Failures.{one_more}
use Rattle.base_device.specs.Seen.{Change, Receives, ReceivesFront}
use Rattle.broker_rule.specs.{declared.refusal.Refusal.TheVariants.BadRequest, declared.served.Served.Served, Table.BrokerTable}
use Rattle.broker_rule.specs.Step.{Refuses, SaysAnswer, after_sweep, broker_step}
use Rattle.broker_rule.specs.declared.served.Served.TheVariants as served
use Rattle.broker_table.specs.declared.stream.StreamFault.{StreamFault}
use Rattle.broker_table.specs.declared.stream.StreamFault.TheVariants as streams

-- the bytes that are sent
abbrev pub bytes_sent_of : Served → List ℕ
bytes_sent_of (served.Reply reply) = reply_text reply
bytes_sent_of served.Dropped = []

-- what is done with a message: a request is served; one that stream too soon gets no reply; every other that cannot be read
-- is refused, and is not counted
abbrev pub Handles : BrokerTable → ℕ → Result Request HttpFault → BrokerTable → Served → Type 0
Handles l t (Ok r) after done = (SaysAnswer t (broker_step l t r).answer done) × (after ≡ (broker_step l t r).table)
Handles l t (Err https.Truncated) after done = (done ≡ served.Dropped) × (after ≡ l)
Handles l t (Err https.ReadFailed) after done = ⊥
Handles l t (Err https.OutOfMemory) after done = ⊥
Handles l t (Err https.BadHead) after done = (Refuses BadRequest done) × (after ≡ l)
Handles l t (Err https.BadLength) after done = (Refuses BadRequest done) × (after ≡ l)
Handles l t (Err https.BadChunk) after done = (Refuses BadRequest done) × (after ≡ l)
Handles l t (Err https.TooLong) after done = (Refuses BadRequest done) × (after ≡ l)
Handles l t (Err https.TwoLengths) after done = (Refuses BadRequest done) × (after ≡ l)

-- one message is read by its bytes, where the stream tells them, and it is handled; what was not read stays
pub record IsHandled (stream : Change) (l : BrokerTable) (t : ℕ) (after : BrokerTable) : Type 0 where
  pub message : Result Request HttpFault
  pub read : SettlesRequest MOST_MESSAGE stream.old.input stream.new.input message
  pub done : Served
  pub handled : Handles l t message after done

-- a reply may be sent: its status is one of those that are written
abbrev pub MaySend : Served → Type 0
MaySend (served.Reply reply) = IsTrue (is_sent reply.status)
MaySend served.Dropped = Unit {0}

-- a reply that is sent is flushed
abbrev pub IsFlushed : Served → Bool → Type 0
IsFlushed (served.Reply reply) flushed = IsTrue flushed
IsFlushed served.Dropped flushed = Unit {0}

-- one message is handled, and what is sent for it is appended
pub record IsStreamed (stream : Change) (l : BrokerTable) (t : ℕ) (after : BrokerTable) : Type 0 where
  pub done : IsHandled stream l t after
  pub sent : Receives (bytes_sent_of done.done) stream
  pub flushed : IsFlushed done.done stream.new.output.is_flushed

-- what lack of memory leaves of the table: what it was where the message was not read or is refused, and what a sweep leaves
-- where it is a request. No reply to a message that stream too soon is made, so none wants memory
abbrev pub WantsMemory : BrokerTable → ℕ → Result Request HttpFault → BrokerTable → Type 0
WantsMemory l t (Ok r) after = after ≡ after_sweep l t
WantsMemory l t (Err https.Truncated) after = ⊥
WantsMemory l t (Err https.ReadFailed) after = ⊥
WantsMemory l t (Err https.OutOfMemory) after = after ≡ l
WantsMemory l t (Err https.BadHead) after = after ≡ l
WantsMemory l t (Err https.BadLength) after = after ≡ l
WantsMemory l t (Err https.BadChunk) after = after ≡ l
WantsMemory l t (Err https.TooLong) after = after ≡ l
WantsMemory l t (Err https.TwoLengths) after = after ≡ l

-- one message is read by its bytes, where the stream tells them, or was refused memory, and nothing is sent
pub record IsUnserved (stream : Change) (l : BrokerTable) (t : ℕ) (after : BrokerTable) : Type 0 where
  pub message : Result Request HttpFault
  pub read : SettlesRequest MOST_MESSAGE stream.old.input stream.new.input message
  pub unwritten : Keeps stream.old.output.written stream.new.output.written
  pub wants : WantsMemory l t message after

-- one message is handled, and of what is sent for it no more than a front is appended
pub record MessageIsCut (stream : Change) (l : BrokerTable) (t : ℕ) (after : BrokerTable) : Type 0 where
  pub done : IsHandled stream l t after
  pub front : ReceivesFront (bytes_sent_of done.done) stream

-- what a fault leaves: the table as it was where a read failed, and where a write failed what handling the message has left,
-- with a front of what is sent. Memory may be wanting while a message is read, while a request is served, and while the reply
-- is sent
abbrev pub FaultLeaves : Change → BrokerTable → ℕ → StreamFault → BrokerTable → Type 0
FaultLeaves stream l t streams.ReadFailed after = after ≡ l
FaultLeaves stream l t streams.WriteFailed after = MessageIsCut stream l t after
FaultLeaves stream l t streams.OutOfMemory after = IsUnserved stream l t after ⊎ MessageIsCut stream l t after

-- one failure more where a read or a write failed, and else none
abbrev pub CountsStream : {X : Type 0} → Result X StreamFault → ℕ → ℕ → Type 0
CountsStream (Ok x) before now = now ≡ before
CountsStream (Err streams.ReadFailed) before now = now ≡ one_more before
CountsStream (Err streams.WriteFailed) before now = now ≡ one_more before
CountsStream (Err streams.OutOfMemory) before now = now ≡ before

-- what handling a message comes to where it fails
abbrev pub StreamFails : BrokerTable → ℕ → Result Request HttpFault → StreamFault → BrokerTable → Type 0
StreamFails l t message streams.ReadFailed after = (message ≡ Err https.ReadFailed) × (after ≡ l)
StreamFails l t message streams.WriteFailed after = ⊥
StreamFails l t message streams.OutOfMemory after = WantsMemory l t message after

-- a fault of sending
abbrev pub stream_fault : SendFault → StreamFault
stream_fault sends.WriteFailed = streams.WriteFailed
stream_fault sends.OutOfMemory = streams.OutOfMemory

-- the count of failures over the sending alone
abbrev pub CountsSending : {X : Type 0} → Result X StreamFault → ℕ → ℕ → Type 0
CountsSending (Ok x) before now = now ≡ before
CountsSending (Err streams.ReadFailed) before now = ⊥
CountsSending (Err streams.WriteFailed) before now = now ≡ one_more before
CountsSending (Err streams.OutOfMemory) before now = now ≡ before
