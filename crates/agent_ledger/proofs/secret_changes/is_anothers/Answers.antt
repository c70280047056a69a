-- Another entry has it as its own; or it is what is held of its file.
use Rattle.std.proofs.Common.{◌∙◌, sym}
use Rattle.agent_ledger.proofs.Holders.{else_by_file, own_is}
use Rattle.agent_ledger.proofs.secret_changes.is_anothers.Goals as goal

pub returns-then-is_others_own : goal.returns-then-is_others_own
returns-then-is_others_own c =
    c.if-is_others_own.true
    ∙ sym (own_is c.args.secrets.now c.args.rows.now c.args.credential.now c.args.own.now (sym c.is_others_own.ensures ∙ c.if-is_others_own.true))

pub returns-else-is_others_own : goal.returns-else-is_others_own
returns-else-is_others_own c =
    c.is_others_by_file.ensures
    ∙ else_by_file c.args.secrets.now c.args.rows.now c.args.credential.now c.args.own.now (sym c.is_others_own.ensures ∙ c.if-is_others_own.false)
