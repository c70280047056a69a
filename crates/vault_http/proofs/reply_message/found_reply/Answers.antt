-- What the head of a reply says of it.
use Rattle.std.proofs.Common.{◌++◌, Err, sym, subst, take}
use Rattle.vault_http.specs.{declared.reply.Reply.Reply, Heads.FoundReply, Messages.IsHttpReply}
use Rattle.vault_http.proofs.{MessageLemmas.unless, ReplyLaws.final, ReplyLaws.headed, ReplyLaws.informational_reply, ReplyLaws.lengthless_reply}
use Rattle.vault_http.proofs.reply_message.found_reply.Goals as goal

pub returns-then-status-lt200 : goal.returns-then-status-lt200
returns-then-status-lt200 c = λ more.
    informational_reply c.args.max c.args.bytes.now more c.args.len c.args.status c.args.framing c.requires.found c.if-status-ge100.true c.if-status-lt200.true

pub returns-in-Err : goal.returns-in-Err
returns-in-Err c = λ more.
    let f = subst (FoundReply (take c.args.max c.args.bytes.now) c.args.len c.args.status) c.in-Err.is c.requires.found in
    unless {A = Reply} (Err c.into.result) (IsHttpReply c.args.max (c.args.bytes.now ++ more) (Err c.into.result))
    (subst (λ x. IsHttpReply c.args.max (c.args.bytes.now ++ more) (Err x)) (sym c.into.ensures)
    (lengthless_reply c.args.max c.args.bytes.now more c.args.len c.args.status c.in-Err.fault f (final c.args.status c.else-status-ge100.either)))

pub returns-in-Ok : goal.returns-in-Ok
returns-in-Ok c =
    let f = subst (FoundReply (take c.args.max c.args.bytes.now) c.args.len c.args.status) c.in-Ok.is c.requires.found in
    headed c.args.max c.args.bytes.now c.args.len c.args.status c.in-Ok.framing c.from_vec-body.result f (final c.args.status c.else-status-ge100.either)
