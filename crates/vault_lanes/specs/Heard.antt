-- What an answer comes to, with why it was lost.
-- Source: this project's own, over what a reply comes to.
use Rattle.std.specs.Prelude.{ℕ, List, Ok, Err}
use Rattle.vault_exchange.specs.Heard as exchanged
use Rattle.vault_exchange.specs.declared.heard.Heard as exchange
use Rattle.vault_exchange.specs.declared.heard.Heard.TheVariants as heard
use Rattle.vault_exchange.specs.declared.heard.ToldTerms.{ToldTerms}
use Rattle.vault_lanes.specs.{Losses.Answer, Losses.lost_by, declared.heard.HeardAnswer.HeardAnswer, declared.loss.Loss.Loss}
use Rattle.vault_lanes.specs.declared.heard.HeardAnswer.TheVariants.{Told, Refused, Busy, Lost}
use Rattle.plan_forest.specs.declared.entry.Kind.{Kind}
use Rattle.vault_json.specs.declared.renewed.Renewed.{Renewed}

-- a reply that counts as none is lost for that reason
abbrev pub heard_with : {T : Type 0} → Loss → exchange.Heard T → HeardAnswer T
heard_with why (heard.Told told date) = Told told date
heard_with why (heard.Refused status date) = Refused status date
heard_with why heard.Busy = Busy
heard_with why heard.Lost = Lost why

-- of a renewal, and of a lookup
abbrev pub renewed_by_answer : Kind → List ℕ → Answer → HeardAnswer Renewed
renewed_by_answer kind id (Err loss) = Lost loss
renewed_by_answer kind id (Ok dated) = heard_with (lost_by dated.reply.status) (exchanged.renewed_by_reply kind id dated)

abbrev pub looked_up_by_answer : Kind → Answer → HeardAnswer ToldTerms
looked_up_by_answer kind (Err loss) = Lost loss
looked_up_by_answer kind (Ok dated) = heard_with (lost_by dated.reply.status) (exchanged.looked_up_by_reply kind dated)
