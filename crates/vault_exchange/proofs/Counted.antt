-- A read that failed is one failure more, and the same is so of the exchange that it ends.
use Rattle.std.proofs.Common.{◌≡◌, ℕ, Err, subst}
use Rattle.vault_exchange.specs.{Exchanges.CountsExchange, declared.fault.ExchangeFault.TheVariants.Http}
use Rattle.vault_http.specs.{Reading.CountsMessage, declared.http_fault.HttpFault.HttpFault, declared.reply.Reply.Reply}
use Rattle.vault_http.specs.declared.http_fault.HttpFault.TheVariants as https

counts_read : (fault : HttpFault) (before now : ℕ) → CountsMessage {A = Reply} (Err fault) before now → CountsExchange {X = Reply} (Err (Http fault)) before now
counts_read https.ReadFailed before now h = h
counts_read _ before now h = h

pub counts_behind : (fault : HttpFault) (first before now : ℕ) → before ≡ first → CountsMessage {A = Reply} (Err fault) before now → CountsExchange {X = Reply} (Err (Http fault)) first now
counts_behind fault first before now same h = subst (λ (n : ℕ). CountsExchange {X = Reply} (Err (Http fault)) n now) same (counts_read fault before now h)
