-- The walk is over.
use Rattle.std.proofs.Common.{◌≡◌, [], drop, ap, ◌∙◌, arith}
use Rattle.std.proofs.lemmas.List.{drop_all}
use Rattle.vault_http.proofs.EmptyLines.{meets, none_met}
use Rattle.vault_http.proofs.empty_line.has_empty_line.Goals as goal

pub returns : goal.returns
returns c =
    let over : drop c.loop-byte.byte-index c.args.bytes.now ≡ [] = drop_all c.loop-byte.byte-index c.args.bytes.now (omega (arith, c.loop-byte-test.false)) in
    λ e. none_met c.args.bytes.now (c.loop-byte.invariant ∙ ap (meets c.loop-byte.last) over)
