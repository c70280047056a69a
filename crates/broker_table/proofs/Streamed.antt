-- What was sent after what was read: for `serve_stream`.
use Rattle.std.proofs.Common.{◌≡◌, ℕ, IsTrue, refl, sym, subst, Result, Ok, Err, IfErr, OnOk, OnErr, inl, inr}
use Rattle.std.specs.Io.KnownBytes.{Keeps}
use Rattle.base_device.specs.{Front.AppendsFront, Seen.Change}
use Rattle.broker_table.specs.declared.stream.StreamFault.{StreamFault}
use Rattle.broker_table.specs.declared.stream.StreamFault.TheVariants as streams
use Rattle.broker_rule.specs.{Table.BrokerTable, declared.refusal.Refusal.Refusal, declared.served.Served.Served, Request.status_of_refusal}
use Rattle.broker_rule.specs.Step.{BrokerAnswer, refuses, tells, drops, Refuses, SaysAnswer, broker_step}
use Rattle.vault_http.specs.{declared.http_fault.HttpFault.HttpFault, declared.request.Request.Request, Reading.SettlesRequest, RoundTrip.is_sent, declared.known.TheConstants.MOST_MESSAGE}
use Rattle.vault_http.specs.declared.http_fault.HttpFault.TheVariants as https
use Rattle.broker_rule.specs.declared.refusal.Refusal.TheVariants as refusals
use Rattle.broker_rule.specs.declared.served.Served.TheVariants as served
use Rattle.broker_table.specs.Stream.{CountsSending, FaultLeaves, Handles, IsHandled, IsUnserved, MaySend, StreamFails, WantsMemory, bytes_sent_of}

pub of_both : {X E : Type 0} (P Q R : Type 0) (r : Result X E) → (P → Q → R) → OnOk r P → OnOk r Q → OnOk r R
of_both P Q R (Ok x) f p q = f p q
of_both P Q R (Err e) f p q = tt

-- a failed sending leaves what handling the message has left
pub left_by_sending :
    {X : Type 0} (stream : Change) (l after : BrokerTable) (t : ℕ) (r : Result X StreamFault) (before now : ℕ) → CountsSending r before now →
    (done : IsHandled stream l t after) → OnErr r (AppendsFront stream.old.output.written stream.new.output.written (bytes_sent_of done.done)) → IfErr r (λ fault. FaultLeaves stream l t fault after)
left_by_sending stream l after t (Ok x) before now count done front = tt
left_by_sending stream l after t (Err streams.ReadFailed) before now count done front = elim count [ ]
left_by_sending stream l after t (Err streams.WriteFailed) before now count done front = record { done = done; front = front }
left_by_sending stream l after t (Err streams.OutOfMemory) before now count done front = inr (record { done = done; front = front })

leaves_unserved : (stream : Change) (l after : BrokerTable) (t : ℕ) (message : Result Request HttpFault) → (WantsMemory l t message after → IsUnserved stream l t after) → (fault : StreamFault) → StreamFails l t message fault after → FaultLeaves stream l t fault after
leaves_unserved stream l after t message wants streams.ReadFailed fails = fails.1
leaves_unserved stream l after t message wants streams.WriteFailed fails = absurd fails
leaves_unserved stream l after t message wants streams.OutOfMemory fails = inl (wants fails)

-- a message that was not handled leaves what handling it says
pub left_unserved :
    {X : Type 0} (stream : Change) (l after : BrokerTable) (t : ℕ) (message : Result Request HttpFault) → SettlesRequest MOST_MESSAGE stream.old.input stream.new.input message →
    Keeps stream.old.output.written stream.new.output.written → (fault : StreamFault) → StreamFails l t message fault after → (r : Result X StreamFault) →
    (y : StreamFault) → r ≡ Err y → y ≡ fault → IfErr r (λ f. FaultLeaves stream l t f after)
left_unserved stream l after t message read unwritten fault fails r y is same =
    subst (λ x. IfErr x (λ f. FaultLeaves stream l t f after)) (sym is)
    (subst (λ f. FaultLeaves stream l t f after) (sym same)
    (leaves_unserved stream l after t message (λ wants. record { message = message; read = read; unwritten = unwritten; wants = wants }) fault fails))

-- ---- what is sent may be sent

sent_status : (a b : ℕ) → a ≡ b → IsTrue (is_sent b) → IsTrue (is_sent a)
sent_status a b e is = subst (λ s. IsTrue (is_sent s)) (sym e) is

status_is_sent : (refusal : Refusal) → IsTrue (is_sent (status_of_refusal refusal))
status_is_sent refusals.UnsupportedPath = refl
status_is_sent _ = refl

refusal_sent : (refusal : Refusal) (done : Served) → Refuses refusal done → MaySend done
refusal_sent refusal (served.Reply reply) h = sent_status reply.status (status_of_refusal refusal) h.0 (status_is_sent refusal)
refusal_sent refusal served.Dropped h = tt

answer_sent : (t : ℕ) (answer : BrokerAnswer) (done : Served) → SaysAnswer t answer done → MaySend done
answer_sent t (refuses refusal) done h = refusal_sent refusal done h
answer_sent t (tells call row) (served.Reply reply) h = sent_status reply.status 200 h.0 refl
answer_sent t drops (served.Reply reply) h = absurd h
answer_sent t _ served.Dropped h = tt

pub handled_sent : (l : BrokerTable) (t : ℕ) (message : Result Request HttpFault) (after : BrokerTable) (done : Served) → Handles l t message after done → MaySend done
handled_sent l t (Ok r) after done h = answer_sent t (broker_step l t r).answer done h.0
handled_sent l t (Err https.Truncated) after done h = subst MaySend (sym h.0) tt
handled_sent l t (Err https.ReadFailed) after done h = absurd h
handled_sent l t (Err https.OutOfMemory) after done h = absurd h
handled_sent l t (Err _) after done h = refusal_sent refusals.BadRequest done h.0
