-- Each variant of what is wanted, with its reply or without one.
use Rattle.std.proofs.Common.{refl, sym}
use Rattle.agent_pages.specs.Naming.{beside}
use Rattle.agent_answers.proofs.Replies.{given, replied}
use Rattle.agent_answers.proofs.control.reply_to_one.Goals as goal
use Rattle.agent_answers.proofs.control.reply_to_one.Goals.{in-Do, in-Show+in-Ok-shown, in-Show+in-Err, in-Refused+in-Ok-refused, in-Refused+in-Err-refused}

pub returns : goal.returns
returns g c =
    let asked = sym c.in-Some.ensures in
    let around = beside c.args.around c.args.named.now in
    let given = given c.args.agent.now around c.args.now c.in-Some.bytes.now c.args.clients.now asked in
    let replied = replied c.args.agent.now around c.args.now c.in-Some.bytes.now c.args.clients.now asked c.in-Ok.wanted in
    elim c.match-wanted.branch [
      | in-Do w ↦ replied _ c.match-wanted.result _ c.match-wanted.clients _ w.in-Do.is w.result-is w.clients-is c.in-Ok.ensures (refl, refl)
      | in-Show+in-Ok-shown w ↦ replied _ c.match-wanted.result _ c.match-wanted.clients _ w.in-Show.is w.result-is w.clients-is c.in-Ok.ensures
          (w.in-Ok-shown.reply.items, (w.in-Ok-shown.ensures, given _ _ _ w.answer_first-is_there-in-Ok-shown.ensures))
      | in-Show+in-Err w ↦ replied _ c.match-wanted.result _ c.match-wanted.clients _ w.in-Show.is w.result-is w.clients-is c.in-Ok.ensures
          (w.new-in-Err.result.items, (w.new-in-Err.ensures.items, given _ _ _ w.answer_first-is_there-in-Err.ensures))
      | in-Refused+in-Ok-refused w ↦ replied _ c.match-wanted.result _ c.match-wanted.clients _ w.in-Refused.is w.result-is w.clients-is c.in-Ok.ensures
          (w.in-Ok-refused.reply.items, (w.in-Ok-refused.ensures, given _ _ _ w.answer_first-is_there-in-Ok-refused.ensures))
      | in-Refused+in-Err-refused w ↦ replied _ c.match-wanted.result _ c.match-wanted.clients _ w.in-Refused.is w.result-is w.clients-is c.in-Ok.ensures
          (w.new-in-Err-refused.result.items, (w.new-in-Err-refused.ensures.items, given _ _ _ w.answer_first-is_there-in-Err-refused.ensures))
    ]
