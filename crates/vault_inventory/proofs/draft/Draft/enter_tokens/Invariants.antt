-- To enter the tokens that are left gives what it gives to enter all of them.
use Rattle.std.proofs.Common.{◌≡◌, drop}
use Rattle.toml.specs.View.{items_view}
use Rattle.vault_inventory.specs.{declared.key.Key.TheVariants.Token, Languages.full, Inventory.token_entered, Inventory.entered_by}
use Rattle.vault_inventory.proofs.draft.Draft.enter_tokens.Given as goal

abbrev pub invariant-loop-token : goal.invariant-loop-token
invariant-loop-token l =
    entered_by (token_entered full l.fn.system_max) Token l.self (items_view (drop l.token-index l.tokens)) ≡ entered_by (token_entered full l.fn.system_max) Token l.initial.self (items_view l.tokens)
