-- Unheard: a rehearsal for whose exchange memory was wanting.
use Rattle.std.proofs.Common.{◌≡◌, ◌∙◌, ℕ, List, [], ap, inl, subst, sym}
use Rattle.base_device.specs.Seen.{Change}
use Rattle.vault_exchange.specs.Exchanges.{Behind}
use Rattle.program_report.specs.{declared.exit.Exit.Exit, declared.stop.Stop.Stop, Exits.exit_of, FaultLine.line_of_stop, Sent.IsUntouched, Told.Reports}
use Rattle.program_report.specs.declared.stop.Stop.TheVariants as stops
use Rattle.tick_commands.specs.RehearseFrom.{Rehearses}

nobody : Behind
nobody = record { table = record { rows = []; faults = []; count = 0 }; wire = [] }

pub unheard :
    (bytes : List ℕ) (start : ℕ) (words : List (List ℕ)) (stop : Stop) (exit : Exit) (out errors : Change) → stop ≡ stops.Memory → exit ≡ exit_of stop → IsUntouched out → Reports (line_of_stop stop) errors →
    Rehearses bytes start words exit out errors
unheard bytes start words stop exit out errors memory is untouched told =
    subst (λ (e : Exit). Rehearses bytes start words e out errors) (sym (is ∙ ap exit_of memory))
    (nobody, nobody, inl untouched, subst (λ (s : Stop). Reports (line_of_stop s) errors) memory told)
