use Rattle.std.proofs.Common.{◌≡◌, List, ℕ, length, Option, Some, sym, ap, subst, arith}
use Rattle.std.proofs.lemmas.Result.{IfOk-weaker}
use Rattle.base_disk.specs.{Image.File, Image.with_bytes, Image.overwritten, Torn.Torn, Torn.IsTornFile, Memory.held_file}
use Rattle.base_disk.proofs.Left.{torn_in_file}
use Rattle.base_disk.proofs.crash.torn.Goals as goal

pub returns : goal.returns
returns c =
    let n = length c.args.bytes.now in
    let piece = c.deref.result.now in
    let file : File = record { mode = c.in-Some.file.mode; bytes = c.in-Some.file.bytes.items } in
    let long : length piece ≡ length c.in_ok-piece.piece.items = ap (λ (l : List ℕ). length l) c.deref.ensures.value in
    let is_torn = torn_in_file c.args.at n piece file (omega (arith, long, c.in_ok-piece.ensures)) (omega (arith, c.if-at-len.false, c.len.ensures)) in
    IfOk-weaker c.overwrite.result _ _
    (λ after is. subst (λ (o : Option File). IsTornFile (Torn c.args.at n) (held_file c.args.left) o) (sym is)
    (subst (λ (o : Option File). IsTornFile (Torn c.args.at n) o (with_bytes (overwritten c.args.at piece) (Some file))) (sym (ap held_file c.in-Some.is)) is_torn))
    c.overwrite.ensures
