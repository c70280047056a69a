-- Compacting: what becomes of the lines, whatever came of it. For `compact_if`.
use Rattle.std.proofs.Common.{◌≡◌, ℕ, Bool, true, false, if◌then◌else◌, List, Result, Ok, Err, IfOk, OnErr, inl, inr, sym}
use Rattle.base_disk.specs.declared.fault.DiskFault.{DiskFault}
use Rattle.state_store.specs.Compacted.{compacted_lines, is_worth}
use Rattle.agent_ledger.specs.Ledgers.{AreCompacted}

pub are_compacted : (old new : List (List ℕ)) (result : Result Bool DiskFault) → IfOk result (λ done. done ≡ is_worth old) → IfOk result (λ done. new ≡ (if done then compacted_lines old else old)) →
    OnErr result (new ≡ old) → AreCompacted old new
are_compacted old new (Ok true) worth lines refused = inr (sym worth, lines)
are_compacted old new (Ok false) worth lines refused = inl lines
are_compacted old new (Err fault) worth lines refused = inl refused
