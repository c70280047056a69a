-- Lanes with a broker's table in memory.
-- Source: this project's own.
use Rattle.std.specs.Prelude.{◌≡◌, ℕ, List, Result, Ok, Err}
use Rattle.vault_exchange.specs.declared.fault.ExchangeFault.{ExchangeFault}
use Rattle.vault_exchange.specs.declared.fault.ExchangeFault.TheVariants as exchange
use Rattle.vault_lanes.specs.{Losses.Answer, Out.Out, Serving.BehindLanes, Serving.answer_in}
use Rattle.vault_http.specs.declared.reply.Reply.{Reply}

-- what stands in lanes in memory: what is behind them, what is out, how many lanes there are, and the time-out in seconds
pub record InMemory : Type 0 where
  pub behind : BehindLanes
  pub out : List Out
  pub width : ℕ
  pub seconds : ℕ

-- an exchange that was not out of memory gives this answer
abbrev pub AnswersFor : {E : Type 0} → Result Reply ExchangeFault → Result Answer E → Type 0
AnswersFor exchanged (Ok a) = (a ≡ answer_in exchanged) × (exchanged ≡ Err exchange.OutOfMemory → ⊥)
AnswersFor exchanged (Err e) = exchanged ≡ Err exchange.OutOfMemory
