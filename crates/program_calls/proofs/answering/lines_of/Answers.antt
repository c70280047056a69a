-- What stands after the first line of what was done is its lines.
use Rattle.std.proofs.Common.{◌∙◌, ap, drop, length, min}
use Rattle.std.proofs.lemmas.List.{take_rest}
use Rattle.program_calls.proofs.Shown.{lines_after}
use Rattle.program_calls.proofs.answering.lines_of.Goals as goal

pub returns : goal.returns
returns c lines done =
    let text = c.list-text.result.now in
    let whole = c.args.heard.now.text in
    take_rest text c.min.result ∙ ap (λ n. drop n text) c.min.ensures ∙ ap (λ t. drop (min (length t) 3) t) c.list-text.ensures
    ∙ lines_after c.replies_are_read_back.ensures.only whole c.args.heard.now.reply lines c.requires done
