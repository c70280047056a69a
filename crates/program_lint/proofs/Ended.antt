-- Ended: a run that ends by its faults ends by what a start would say. For `lint_bytes`.
use Rattle.std.proofs.Common.{◌≡◌, ℕ, Bool, true, false, List, [], ◌∷◌, inl, inr, refl}
use Rattle.base_files.specs.Files.{Files}
use Rattle.program_report.specs.declared.exit.Exit.{Exit}
use Rattle.program_report.specs.declared.exit.Exit.TheVariants.{Done, Inventory, Device, Memory}
use Rattle.agent_words.specs.{Reading.AreFaults, Reading.FirstIsWhy, declared.demands.Demands.Demands, declared.fault.StartFault.StartFault}
use Rattle.program_lint.specs.Ends.{EndsBy, ends_by, is_faulty}

-- where memory was refused
pub memory_ends : (d : Demands) (known : Files) (folder bytes : List ℕ) (refused : Bool) (exit : Exit) → exit ≡ Memory → EndsBy d known folder bytes refused exit
memory_ends d known folder bytes refused Memory e = tt
memory_ends d known folder bytes refused _ e = cc

-- else
pub ended : (d : Demands) (known : Files) (folder bytes : List ℕ) (refused : Bool) (faults : List StartFault) (exit : Exit) → AreFaults d known folder bytes faults → FirstIsWhy d known folder bytes faults
    → ends_by (is_faulty refused faults) exit ≡ true → EndsBy d known folder bytes refused exit
ended d known folder bytes true [] Done all first ends = cc
ended d known folder bytes false [] Done all first ends = (refl, first)
ended d known folder bytes true [] Inventory all first ends = inl refl
ended d known folder bytes refused (fault ∷ faults) Inventory all first ends = inr (fault, (faults, all))
ended d known folder bytes refused faults Device all first ends = tt
ended d known folder bytes refused faults Memory all first ends = tt
ended d known folder bytes _ _ _ all first ends = cc
