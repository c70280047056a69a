-- No head is whole where the bytes were not looked at.
use Rattle.std.proofs.Common.{refl, subst}
use Rattle.vault_http.specs.Known.{StaysKnown}
use Rattle.vault_http.proofs.Waiting.{unlooked}
use Rattle.vault_http.proofs.known.go_on.Goals as goal

pub returns-then-not-is_due-clause-known : goal.returns-then-not-is_due-clause-known
returns-then-not-is_due-clause-known g c =
    let was = subst (λ k. StaysKnown g.M.Message.has_no_head (g.M.Message.is_answer c.args.max) g.M.Message.with_body c.args.max c.args.bytes.now k) c.in-Head.is c.requires.known in
    unlooked g.M.Message.has_no_head (g.M.Message.is_answer c.args.max) g.M.Message.with_body c.args.max c.args.bytes.now c.in-Head.looked c.in-Head.seen c.in-Head.blank c.blank_front-blank.result
    c.laws.ensures.blank c.laws.ensures.line was c.blank_front-blank.ensures.within c.blank_front-blank.ensures.blank (c.if-not-is_due.ensures.line refl)
