-- One exchange of messages over the broker's table: for `MemoryExchange`.
use Rattle.std.proofs.Common.{◌≡◌, ℕ, inr, Bool, true, false, List, [], length, refl, sym, subst, ap, ◌∙◌, nat_le, if◌then◌else◌, Option, Some, Result, Ok, Err, IsErr, IsErrAnd}
use Rattle.vault_http.specs.{declared.known.TheConstants.MOST_MESSAGE, declared.reply.Reply.Reply, declared.request.Request.Request, RoundTripRequest.without_port, Written.reply_text}
use Rattle.vault_exchange.specs.declared.fault.ExchangeFault.{ExchangeFault}
use Rattle.vault_exchange.specs.declared.fault.ExchangeFault.TheVariants.{ConnectFailed, WriteFailed, Http, OutOfMemory}
use Rattle.vault_exchange.specs.Exchanges.{Behind, Exchanges, IsExchanged, IsGivenUp, received, reply_that_came, wire_of}
use Rattle.broker_rule.specs.{declared.served.Served.Served, Table.BrokerTable, Renewing.renewal_by_broker, Subject.subject}
use Rattle.broker_rule.specs.Step.{SaysAnswer, broker_step, renewal_outcome}
use Rattle.broker_rule.specs.declared.served.Served.TheVariants as served
use Rattle.broker_table.specs.Stream.{MaySend, bytes_sent_of}
use Rattle.broker_table.proofs.Streamed.{handled_sent}
use Rattle.vault_http.specs.declared.http_fault.HttpFault.TheVariants as https

port_unread : (l : BrokerTable) (t : ℕ) (r : Request) → broker_step l t (without_port r) ≡ broker_step l t r
unfolding broker_step renewal_outcome renewal_by_broker subject
port_unread l t r = refl

-- the port is no part of what is served
pub portless : (l : BrokerTable) (t : ℕ) (r heard : Request) → heard ≡ without_port r → broker_step l t heard ≡ broker_step l t r
portless l t r heard is = ap (broker_step l t) is ∙ port_unread l t r

-- what is served may be sent
pub may_send : (l : BrokerTable) (t : ℕ) (r : Request) (done : Served) → SaysAnswer t (broker_step l t r).answer done → MaySend done
may_send l t r done says = handled_sent l t (Ok r) (broker_step l t r).table done (says, refl)

-- what is received is no lack of memory
received_some : (sent : Served) → ◌≡◌ {A = Result Reply ExchangeFault} (Err OutOfMemory) (received sent) → ⊥
received_some served.Dropped e = cc
received_some (served.Reply reply) e = by_length (nat_le (length (reply_text reply)) MOST_MESSAGE) reply e
  where
    by_length : (b : Bool) (reply : Reply) → ◌≡◌ {A = Result Reply ExchangeFault} (Err OutOfMemory) (if b then Ok reply else Err (Http https.TooLong)) → ⊥
    by_length true reply e = cc
    by_length false reply e = cc

settled : (old : BrokerTable) (t : ℕ) (r : Request) (result : Result Reply ExchangeFault) (new : Option Behind) → IsExchanged old t r result new → Exchanges old t r result new
settled old t r (Ok reply) new done = done
settled old t r (Err ConnectFailed) new done = done
settled old t r (Err WriteFailed) new done = done
settled old t r (Err (Http fault)) new done = done
settled old t r (Err OutOfMemory) new done = absurd (received_some done.sent done.received_as)

-- what is received of what was sent is its text
pub text_received : (sent : Served) (reply : Reply) → ◌≡◌ {A = Result Reply ExchangeFault} (Ok reply) (received sent) → bytes_sent_of sent ≡ reply_text reply
text_received served.Dropped reply e = absurd cc
text_received (served.Reply sent) reply e = by_length (nat_le (length (reply_text sent)) MOST_MESSAGE) sent e
  where
    by_length : (b : Bool) (sent : Reply) → ◌≡◌ {A = Result Reply ExchangeFault} (Ok reply) (if b then Ok sent else Err (Http https.TooLong)) → reply_text sent ≡ reply_text reply
    by_length true sent e = let same : reply ≡ sent = cc in ap reply_text (sym same)
    by_length false sent e = absurd cc

-- the whole way
pub exchanged :
    (old table : BrokerTable) (t : ℕ) (r heard : Request) (sent : Served) (wire : List ℕ) (result : Result Reply ExchangeFault) →
    heard ≡ without_port r → SaysAnswer t (broker_step old t heard).answer sent → table ≡ (broker_step old t heard).table → result ≡ received sent → wire ≡ wire_of r (reply_that_came result) →
    Exchanges old t r result (Some (record { table = table; wire = wire }))
exchanged old table t r heard sent wire result is says after gives carried =
    let same = portless old t r heard is in
    settled old t r result (Some (record { table = table; wire = wire })) (record {
      sent = sent;
      says = subst (λ o. SaysAnswer t o.answer sent) same says;
      received_as = gives;
      is = behind (after ∙ ap (λ o. o.table) same) carried;
    })
  where
    behind : {a b : BrokerTable} {v w : List ℕ} → a ≡ b → v ≡ w → ◌≡◌ {A = Option Behind} (Some (record { table = a; wire = v })) (Some (record { table = b; wire = w }))
    behind {a} {b} {v} {w} e f = ap (λ l. Some (record { table = l; wire = v })) e ∙ ap (λ bs. Some (record { table = b; wire = bs })) f

-- memory was wanting after the step
pub given_up :
    (old table : BrokerTable) (t : ℕ) (r heard : Request) (wire : List ℕ) (result : Result Reply ExchangeFault) →
    heard ≡ without_port r → table ≡ (broker_step old t heard).table → wire ≡ [] → result ≡ Err OutOfMemory →
    Exchanges old t r result (Some (record { table = table; wire = wire }))
given_up old table t r heard wire result is after none gives =
    let new : Option Behind = Some (record { table = table; wire = wire }) in
    let left : IsGivenUp old t r new = record {
      table = table;
      left = inr (inr (after ∙ ap (λ o. o.table) (portless old t r heard is)));
      is = ap (λ bs. Some (record { table = table; wire = bs })) none;
    } in
    subst (λ (x : Result Reply ExchangeFault). Exchanges old t r x new) (sym gives) left

-- a fault that is lack of memory
pub is_memory : (result : Result Reply ExchangeFault) (fault : ExchangeFault) → IsErr result → IsErrAnd result (λ e. e ≡ fault) → fault ≡ OutOfMemory → result ≡ Err OutOfMemory
is_memory (Ok x) fault wrong made is = let no' : false ≡ true = wrong in cc
is_memory (Err e) fault wrong made is = ap (λ (f : ExchangeFault). Err f) (made ∙ is)
