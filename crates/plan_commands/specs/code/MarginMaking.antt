-- Words for the parts of the run `margin`. No public clause cites them.
use Rattle.std.specs.Prelude.{◌≡◌, ℕ, ◌<◌, List, Option, length}
use Rattle.plan_forest.specs.Forest.{Forest}
use Rattle.plan_search.specs.{Decides.NoneKeeps, Shortfall.IsShortfall}
use Rattle.program_report.specs.declared.exit.Exit.{Exit}
use Rattle.program_report.specs.declared.exit.Exit.TheVariants as exits
use Rattle.plan_commands.specs.{MarginRun.HasNoCount, MarginText.IsMarginText, MarginText.IsNoMargin, Running.Halts, Running.Texts}

-- the texts about a forest as it stands, and the reason for none
abbrev pub TextsFrom : ℕ → Option ℕ → Texts
TextsFrom s most g exit text = IsMarginText g s most exit text

abbrev pub HaltsFrom : ℕ → Option ℕ → Halts
HaltsFrom s most g stop = HasNoCount g s most stop

-- a pair of entries that no plan keeps
pub record IsPair (g : Forest) (s entry needed : ℕ) : Type 0 where
  pub short : IsShortfall g s entry needed
  pub none : NoneKeeps g s
  pub entry_in : entry < length g.entries
  pub needed_in : needed < length g.entries

-- exit 3, with the pair by the least margin, or with the other text where some plan keeps with that
abbrev pub IsRefusal : Forest → ℕ → List ℕ → Exit → List ℕ → Type 0
IsRefusal g s other exit text = (exit ≡ exits.Unkeepable) × IsNoMargin g s (λ t. t ≡ other) text
