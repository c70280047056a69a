-- As much of it as there is.
use Rattle.std.proofs.Common.{sym, arith}
use Rattle.std.proofs.lemmas.List.{length-take-le, take_all}
use Rattle.base_clients.proofs.left.piece.Goals as goal

pub slice_bounds-result-end : goal.slice_bounds-result-end
slice_bounds-result-end c = sym (length-take-le 4096 c.args.bytes.now (omega arith))

pub returns-then-bytes-le-MOST_PIECE : goal.returns-then-bytes-le-MOST_PIECE
returns-then-bytes-le-MOST_PIECE c = sym (take_all 4096 c.args.bytes.now (omega arith))
