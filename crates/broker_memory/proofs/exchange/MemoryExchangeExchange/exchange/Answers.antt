-- The table serves the request that is heard, whether its reply is delivered, lost or out of memory.
use Rattle.std.proofs.Common.{◌≡◌, Some, Result, Ok, Err, ◌++◌, ◌∙◌, ap, refl, subst}
use Rattle.broker_rule.specs.Table.{BrokerTable}
use Rattle.vault_exchange.specs.{Exchanges.Exchanges, Exchanges.received, declared.fault.ExchangeFault.ExchangeFault, declared.fault.ExchangeFault.TheVariants.OutOfMemory}
use Rattle.broker_table.specs.Stream.{bytes_sent_of}
use Rattle.vault_http.specs.{declared.reply.Reply.Reply, Written.request_text}
use Rattle.broker_memory.proofs.Carried.{exchanged, given_up, is_memory, may_send, text_received}
use Rattle.broker_memory.proofs.exchange.MemoryExchangeExchange.exchange.Goals as goal

pub deliver-requires : goal.deliver-requires
deliver-requires c = may_send _ _ _ c.in_ok-served.served c.in_ok-served.ensures.says

pub returns-in_err-text-clause-exchanged : goal.returns-in_err-text-clause-exchanged
returns-in_err-text-clause-exchanged c =
    let result = c.from_residual-in_err-text.result in
    subst (λ (l : BrokerTable). Exchanges l c.args.t c.args.request.now result (Some (record { table = c.serve.new.self; wire = c.clear.new.self.items }))) (ap (λ b. b.table) c.self.view_is) (given_up c.self.inside.table c.serve.new.self c.args.t c.args.request.now c.in_ok-heard.heard c.clear.new.self.items result
    c.in_ok-heard.ensures.read c.in_ok-served.ensures.after c.clear.ensures.items
    (is_memory result c.in_err-text.field-0.0 c.from_residual-in_err-text.ensures.0 c.from_residual-in_err-text.ensures.1 c.in_err-text.ensures.memory))

pub returns-in_err-extend_from_slice-in-Ok-clause-exchanged : goal.returns-in_err-extend_from_slice-in-Ok-clause-exchanged
returns-in_err-extend_from_slice-in-Ok-clause-exchanged c =
    let result = c.from_residual-in_err-extend_from_slice-in-Ok.result in
    subst (λ (l : BrokerTable). Exchanges l c.args.t c.args.request.now result (Some (record { table = c.serve.new.self; wire = c.clear.new.self.items }))) (ap (λ b. b.table) c.self.view_is) (given_up c.self.inside.table c.serve.new.self c.args.t c.args.request.now c.in_ok-heard.heard c.clear.new.self.items result
    c.in_ok-heard.ensures.read c.in_ok-served.ensures.after c.clear.ensures.items
    (is_memory result OutOfMemory c.from_residual-in_err-extend_from_slice-in-Ok.ensures.0 c.from_residual-in_err-extend_from_slice-in-Ok.ensures.1 refl))

pub returns-in_ok-extend_from_slice-in-Ok-clause-exchanged : goal.returns-in_ok-extend_from_slice-in-Ok-clause-exchanged
returns-in_ok-extend_from_slice-in-Ok-clause-exchanged c =
    let reply = c.in-Ok.reply in
    let came : Ok reply ≡ received c.in_ok-served.served = (let is = c.in-Ok.is in let same = c.in_ok-text.reply-is in let gives = c.in_ok-text.ensures.reply in cc) in
    let lent : c.deref-in-Ok.result.now ≡ bytes_sent_of c.in_ok-served.served = (let is = c.deref-in-Ok.ensures.value in let same = c.in_ok-text.text-is in let gives = c.in_ok-text.ensures.text in cc) in
    subst (λ (l : BrokerTable). Exchanges l c.args.t c.args.request.now (Ok reply) (Some (record { table = c.serve.new.self; wire = c.extend_from_slice.new.self.items }))) (ap (λ b. b.table) c.self.view_is) (exchanged c.self.inside.table c.serve.new.self c.args.t c.args.request.now c.in_ok-heard.heard c.in_ok-served.served c.extend_from_slice.new.self.items (Ok reply)
    c.in_ok-heard.ensures.read c.in_ok-served.ensures.says c.in_ok-served.ensures.after came
    (c.in_ok-extend_from_slice-in-Ok.ensures.items ∙ ap (λ bs. bs ++ c.deref-in-Ok.result.now) c.in_ok-wire.ensures.text ∙ ap (λ bs. request_text c.args.request.now ++ bs) (lent ∙ text_received c.in_ok-served.served reply came)))

pub returns-in-Err-clause-exchanged : goal.returns-in-Err-clause-exchanged
returns-in-Err-clause-exchanged c =
    let came : ◌≡◌ {A = Result Reply ExchangeFault} (Err c.in-Err.fault) (received c.in_ok-served.served) = (let is = c.in-Err.is in let same = c.in_ok-text.reply-is in let gives = c.in_ok-text.ensures.reply in cc) in
    subst (λ (l : BrokerTable). Exchanges l c.args.t c.args.request.now (Err c.in-Err.fault) (Some (record { table = c.serve.new.self; wire = c.clear.new.self.items }))) (ap (λ b. b.table) c.self.view_is) (exchanged c.self.inside.table c.serve.new.self c.args.t c.args.request.now c.in_ok-heard.heard c.in_ok-served.served c.clear.new.self.items (Err c.in-Err.fault)
    c.in_ok-heard.ensures.read c.in_ok-served.ensures.says c.in_ok-served.ensures.after came c.clear.ensures.items)
