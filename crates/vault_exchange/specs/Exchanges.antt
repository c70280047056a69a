-- Exchange in memory: the Broker step's reply, through the texts of the request and of the reply.
-- Source: RFC 9112 (the texts); this project's own (the Broker step, and which fault is which).
use Rattle.std.specs.Prelude.{◌≡◌, ℕ, ◌⊎◌, List, [], ◌++◌, Option, Some, None, Result, Ok, Err, length, nat_le, if◌then◌else◌}
use Rattle.vault_http.specs.{declared.known.TheConstants.MOST_MESSAGE, declared.http_fault.HttpFault.HttpFault, declared.reply.Reply.Reply, declared.request.Request.Request, declared.writing.SendFault.SendFault}
use Rattle.vault_http.specs.{Written.reply_text, Written.request_text}
use Rattle.vault_exchange.specs.declared.fault.ExchangeFault.{ExchangeFault}
use Rattle.vault_exchange.specs.declared.fault.ExchangeFault.TheVariants.{ConnectFailed, WriteFailed, Http, OutOfMemory}
use Rattle.broker_rule.specs.{declared.served.Served.Served, Table.BrokerTable}
use Rattle.broker_rule.specs.Step.{SaysAnswer, after_sweep, broker_step}
use Rattle.broker_rule.specs.declared.served.Served.TheVariants as served
use Rattle.vault_http.specs.declared.http_fault.HttpFault.TheVariants as https
use Rattle.vault_http.specs.declared.writing.SendFault.TheVariants as sends
use Rattle.base_device.specs.Failures.{one_more}

-- what stands after an exchange in memory: the broker's table, and the bytes of the last request and its reply, if one came
pub record Behind : Type 0 where
  pub table : BrokerTable
  pub wire : List ℕ

-- what is received of what a broker sends: a reply that is not sent ends before it begins, and one of more bytes than are
-- read is too long
abbrev pub received : Served → Result Reply ExchangeFault
received (served.Reply reply) = if nat_le (length (reply_text reply)) MOST_MESSAGE then Ok reply else Err (Http https.TooLong)
received served.Dropped = Err (Http https.Truncated)

-- the reply that came, if one did
abbrev pub reply_that_came : Result Reply ExchangeFault → Option Reply
reply_that_came (Ok reply) = Some reply
reply_that_came (Err fault) = None

-- the bytes that an exchange leaves: those of the request and of its reply, one after the other; and none where no reply came
abbrev pub wire_of : Request → Option Reply → List ℕ
wire_of r (Some reply) = request_text r ++ reply_text reply
wire_of r None = []

-- the request is served at t by the Broker step, and the messages of both are carried
pub record IsExchanged (old : BrokerTable) (t : ℕ) (r : Request) (result : Result Reply ExchangeFault) (new : Option Behind) : Type 0 where
  pub sent : Served
  pub says : SaysAnswer t (broker_step old t r).answer sent
  pub received_as : result ≡ received sent
  pub is : new ≡ Some (record { table = (broker_step old t r).table; wire = wire_of r (reply_that_came result) })

-- memory was wanting, before, while or after the request was served: nothing is told of the messages
pub record IsGivenUp (old : BrokerTable) (t : ℕ) (r : Request) (new : Option Behind) : Type 0 where
  pub table : BrokerTable
  pub left : (table ≡ old) ⊎ ((table ≡ after_sweep old t) ⊎ (table ≡ (broker_step old t r).table))
  pub is : new ≡ Some (record { table = table; wire = [] })

-- what one exchange comes to
abbrev pub Exchanges : BrokerTable → ℕ → Request → Result Reply ExchangeFault → Option Behind → Type 0
Exchanges old t r (Err OutOfMemory) new = IsGivenUp old t r new
Exchanges old t r result new = IsExchanged old t r result new

-- one failure more where a connect, an accept, a write or a read failed, and else none
abbrev pub CountsExchange : {X : Type 0} → Result X ExchangeFault → ℕ → ℕ → Type 0
CountsExchange (Ok x) before now = now ≡ before
CountsExchange (Err ConnectFailed) before now = now ≡ one_more before
CountsExchange (Err WriteFailed) before now = now ≡ one_more before
CountsExchange (Err (Http https.ReadFailed)) before now = now ≡ one_more before
CountsExchange (Err fault) before now = now ≡ before

-- a fault of sending, and one of reading
abbrev pub sending_fault : SendFault → ExchangeFault
sending_fault sends.WriteFailed = WriteFailed
sending_fault sends.OutOfMemory = OutOfMemory

abbrev pub exchange_fault : HttpFault → ExchangeFault
exchange_fault https.OutOfMemory = OutOfMemory
exchange_fault fault = Http fault
