-- Margin: what the command `margin` writes about a forest.
-- Source: this project's own.
use Rattle.std.specs.Prelude.{◌≡◌, ◌⊎◌, ℕ, ◌≤◌, min, if◌then◌else◌, List, [], ◌∷◌, ◌++◌, Option, Some, None, codes, decimal}
use Rattle.plan_forest.specs.Forest.{Forest}
use Rattle.plan_rule.specs.declared.limit.TheConstants.{LIMIT}
use Rattle.plan_search.specs.{declared.widest.Widest.Widest, Decides.NoneKeeps, Decides.SomeKeeps, Shortfall.IsShortfall}
use Rattle.plan_search.specs.Widest.{IsFewest, IsWidest, NoneIsEnough}
use Rattle.plan_certificate.specs.CertificateText.{unkeepable_text}
use Rattle.program_report.specs.declared.exit.Exit.{Exit}
use Rattle.program_report.specs.declared.exit.Exit.TheVariants as exits
use Rattle.plan_commands.specs.{declared.margin.MarginQuery.MarginQuery, Renewed.all_renewed}

-- the forest that is asked about: as it stands, or as one wake-up at the start leaves it which asks every entry
abbrev pub asked_about : MarginQuery → Forest → Forest
asked_about q g = if q.renewed then all_renewed g q.start else g

-- the same forest with the margin of one second, the least there is
abbrev pub with_least : Forest → Forest
with_least g = record g { margin = 1 }

-- a margin, a blank, how many wake-ups the least plan has with it, and a line feed
unfoldable pub margin_line : ℕ → ℕ → List ℕ
margin_line margin wakes = decimal margin ++ (32 ∷ (decimal wakes ++ (10 ∷ [])))

-- the line of the forest's own margin, and that of the widest with which the least plan has no more wake-ups
pub record AreOwnAndWidest (g : Forest) (s : ℕ) (text : List ℕ) : Type 0 where
  pub own : ℕ
  pub fewest : IsFewest g s own
  pub few : own ≤ LIMIT
  pub widest : Widest
  pub is_widest : IsWidest g s own widest
  pub spelled : text ≡ margin_line g.margin own ++ margin_line widest.margin widest.wakes

-- the line of the widest margin with which the least plan has at most so many wake-ups
pub record IsWidestLine (g : Forest) (s most : ℕ) (text : List ℕ) : Type 0 where
  pub widest : Widest
  pub is_widest : IsWidest g s most widest
  pub spelled : text ≡ margin_line widest.margin widest.wakes

-- the line of the lowest entry that cannot be led to a need it carries, and of whose need that is; no plan keeps
pub record IsPairLine (g : Forest) (s : ℕ) (text : List ℕ) : Type 0 where
  pub entry : ℕ
  pub needed : ℕ
  pub short : IsShortfall g s entry needed
  pub none : NoneKeeps g s
  pub spelled : text ≡ unkeepable_text g.entries entry needed

-- the pair with the least margin, where no plan keeps even with that; where some plan does, another text
abbrev pub IsNoMargin : Forest → ℕ → (List ℕ → Type 0) → List ℕ → Type 0
IsNoMargin g s Other text = IsPairLine (with_least g) s text ⊎ (SomeKeeps (with_least g) s × Other text)

abbrev pub IsNone : List ℕ → Type 0
IsNone text = text ≡ codes "none\n"

-- the text that goes with an exit, with WAKES not given, or so many; more than LIMIT count as LIMIT
abbrev pub IsMarginText : Forest → ℕ → Option ℕ → Exit → List ℕ → Type 0
IsMarginText g s None exits.Done text = AreOwnAndWidest g s text
IsMarginText g s None exits.Unkeepable text = NoneKeeps g s × IsNoMargin g s (IsPairLine g s) text
IsMarginText g s (Some most) exits.Done text = IsWidestLine g s (min most LIMIT) text
IsMarginText g s (Some most) exits.Unkeepable text = NoneIsEnough g s (min most LIMIT) × IsNoMargin g s IsNone text
IsMarginText g s most exit text = ⊥

-- a forest and a question have one such text, and one exit: nothing else shows in them
abbrev pub OneMarginText : Type 0
OneMarginText =
    (g : Forest) (s : ℕ) (most : Option ℕ) (exit exit' : Exit) (text other : List ℕ) → IsMarginText g s most exit text → IsMarginText g s most exit' other → (exit ≡ exit') × (text ≡ other)
