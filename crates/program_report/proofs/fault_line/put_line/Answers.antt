-- The pieces that are written make up the fault line, and a write that fails leaves a front of it.
use Rattle.std.proofs.Common.{ℕ, List, [], ◌++◌, ◌∷◌, ap, sym}
use Rattle.std.specs.Prelude.{codes}
use Rattle.program_report.specs.FaultLine.{fault_line, stop_words}
use Rattle.program_report.proofs.Pieces.{handed_on, piece_cut, piece_more, piece_named}
use Rattle.program_report.proofs.fault_line.put_line.Goals as goal

pub returns-in_err-put-2 : goal.returns-in_err-put-2
unfolding fault_line
returns-in_err-put-2 g c =
    let said = codes ": " ++ (stop_words c.args.stop.now ++ (10 ∷ [])) in
    piece_named c.from_residual-in_err-put-2.result (c.as_bytes.result.now ++ said) (c.args.program.now ++ said) _
    (piece_more c.from_residual-in_err-put-2.result _ c.as_bytes.result.now said _ (g.E.Device.seen c.put.new.errors) _ g.E.Device.is_in_memory c.in_ok-put.ensures
    (piece_cut c.from_residual-in_err-put-2.result c.in_err-put-2.field-0.0 (codes ": ") (stop_words c.args.stop.now ++ (10 ∷ [])) _ (handed_on c.from_residual-in_err-put-2.result c.in_err-put-2.field-0.0 c.from_residual-in_err-put-2.ensures) c.in_err-put-2.ensures))
    (ap (λ (l : List ℕ). l ++ said) (sym c.as_bytes.ensures.value))

pub returns-in_err-put_stop : goal.returns-in_err-put_stop
unfolding fault_line
returns-in_err-put_stop g c =
    let said = codes ": " ++ (stop_words c.args.stop.now ++ (10 ∷ [])) in
    piece_named c.from_residual-in_err-put_stop.result (c.as_bytes.result.now ++ said) (c.args.program.now ++ said) _
    (piece_more c.from_residual-in_err-put_stop.result _ c.as_bytes.result.now said _ (g.E.Device.seen c.put.new.errors) _ g.E.Device.is_in_memory c.in_ok-put.ensures
    (piece_more c.from_residual-in_err-put_stop.result _ (codes ": ") (stop_words c.args.stop.now ++ (10 ∷ [])) _ (g.E.Device.seen c.put-2.new.errors) _ g.E.Device.is_in_memory c.in_ok-put-2.ensures
    (piece_cut c.from_residual-in_err-put_stop.result c.in_err-put_stop.field-0.0 (stop_words c.args.stop.now) (10 ∷ []) _ (handed_on c.from_residual-in_err-put_stop.result c.in_err-put_stop.field-0.0 c.from_residual-in_err-put_stop.ensures) c.in_err-put_stop.ensures)))
    (ap (λ (l : List ℕ). l ++ said) (sym c.as_bytes.ensures.value))

pub returns : goal.returns
unfolding fault_line
returns g c =
    let said = codes ": " ++ (stop_words c.args.stop.now ++ (10 ∷ [])) in
    piece_named c.put-3.result (c.as_bytes.result.now ++ said) (c.args.program.now ++ said) _
    (piece_more c.put-3.result _ c.as_bytes.result.now said _ (g.E.Device.seen c.put.new.errors) _ g.E.Device.is_in_memory c.in_ok-put.ensures
    (piece_more c.put-3.result _ (codes ": ") (stop_words c.args.stop.now ++ (10 ∷ [])) _ (g.E.Device.seen c.put-2.new.errors) _ g.E.Device.is_in_memory c.in_ok-put-2.ensures
    (piece_more c.put-3.result _ (stop_words c.args.stop.now) (10 ∷ []) _ (g.E.Device.seen c.put_stop.new.errors) _ g.E.Device.is_in_memory c.in_ok-put_stop.ensures c.put-3.ensures)))
    (ap (λ (l : List ℕ). l ++ said) (sym c.as_bytes.ensures.value))
