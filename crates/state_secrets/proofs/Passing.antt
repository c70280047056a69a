-- Passing: how a pass goes on. For the loop of `Look::pass`.
use Rattle.std.proofs.Common.{ℕ, List, Option, drop}
use Rattle.state_changes.specs.{declared.row.Row.Row, declared.secret.Secret.Secret}
use Rattle.state_secrets.specs.{Looking.Passes, Stamps.FileCall, declared.looking.FileMark.FileMark, declared.looking.Pass.Pass}

module _ {I : Type 0} (calls : I → Option (List FileCall)) (marks : List FileMark) (secrets : List Secret) (folder : List ℕ) (now : ℕ) where
  -- where the pass from a row on ends so, it ends so from the start on
  abbrev pub SoFar : ℕ → List Row → ℕ → I → ℕ → ℕ → I → Type 0
  SoFar start rows most first at left here =
      (pass : Pass) → (last : I) → Passes calls marks secrets folder now at (drop at rows) left here pass last → Passes calls marks secrets folder now start (drop start rows) most first pass last
