-- A journal over the file that was settled.
use Rattle.std.proofs.Common.{◌≡◌, List, [], ◌∷◌, ◌++◌, sym, ap, ◌∙◌}
use Rattle.state_changes.specs.{declared.change.Record.TheVariants.Settling, declared.row.Row.Row, Replay.ReplayState, Replay.replayed}
use Rattle.state_changes.proofs.Settling.{settled}
use Rattle.state_file.specs.{Order.in_order, Laws.SettledRowsLaw}

begins : List Row → ReplayState
begins rows = record { rows = rows; notes = [] }

pub stays : SettledRowsLaw
unfolding begins replayed
stays margin most rows text v is f same mark rs =
    let so : begins f.rows ≡ begins (in_order rows) = ap begins (same ∙ is.listed) in
    (ap (λ m. replayed f (rs ++ Settling m ∷ [])) (sym mark) ∙ settled f rs ∙ so, so)
