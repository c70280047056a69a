-- What is heard is what the bytes are which were read.
use Rattle.program_calls.proofs.Heard.{read_answers, unread_answers}
use Rattle.program_calls.proofs.hearing.listen.Goals as goal

pub returns-in_err-text-clause-heard : goal.returns-in_err-text-clause-heard
returns-in_err-text-clause-heard g c =
    let e = c.in_err-text.ensures in
    unread_answers c.from_residual.result c.in_err-text.field-0.0 _ c.from_residual.ensures
    (record { whole = e.read; short = e.short; end = e.end; few = e.reads; count = e.count })

pub returns-clause-heard : goal.returns-clause-heard
returns-clause-heard g c =
    let e = c.in_ok-text.ensures in
    read_answers c.reply_in.result _ _ (record { whole = e.read; short = e.short; end = e.end; few = e.reads; count = e.count }) c.reply_in.ensures.heard
