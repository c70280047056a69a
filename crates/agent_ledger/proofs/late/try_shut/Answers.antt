-- It was due, and is opened.
use Rattle.std.proofs.Common.{◌∙◌, inr, refl, sym}
use Rattle.agent_ledger.proofs.late.try_shut.Goals as goal

pub returns-clause-opens : goal.returns-clause-opens
returns-clause-opens g c =
    inr (
      sym c.is_due.ensures ∙ c.if-not-is_due.false,
      record { opened = c.in_ok-opened.opened; mid = c.open.new.shut; opens = c.in_ok-opened.ensures; laid = c.lay_open.ensures; news_is = refl },
    )
