-- A new register holds no text.
use Rattle.std.proofs.Common.{List, ℕ, sym, ap, ◌∙◌}
use Rattle.vault_inventory.specs.Intake.{has_text}
use Rattle.vault_inventory.proofs.Registers.{has_none}
use Rattle.vault_inventory.proofs.register.Register.new.Goals as goal

pub invariant_of-result : goal.invariant_of-result
invariant_of-result c =
    λ q. has_none c.new-2.result c.new-2.ensures.empty q ∙ ap (λ (ts : List (List ℕ)). has_text ts q) (sym c.new.ensures.items)
