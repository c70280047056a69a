-- A text that is added is held from then on, and is fresh exactly where it was not held before.
use Rattle.std.proofs.Common.{◌≡◌, ◌∙◌, ◌++◌, ◌∷◌, [], ◌+◌, List, ℕ, ap, arith, is_ok, sym, true, not, vec_len, vec_capacity, ◌≤◌}
use Rattle.std.proofs.lemmas.Bool.{cond-true}
use Rattle.vault_inventory.specs.Intake.{has_text}
use Rattle.vault_inventory.proofs.Registers.{registered}
use Rattle.vault_inventory.proofs.register.Register.add.Goals as goal

pub invariant_of-self-2 : goal.invariant_of-self-2
invariant_of-self-2 c =
    let room : vec_len c.reserve.new.self + 1 ≤ vec_capacity c.reserve.new.self = c.in_ok-reserve.ensures.ok in
    let pushed : is_ok c.push.result ≡ true = c.push.ensures.succeeds (omega (arith, room)) in
    let items : c.push.new.self.items ≡ c.self.inside.texts.items ++ c.args.text ∷ [] =
    c.push.ensures.items ∙ cond-true (is_ok c.push.result) _ _ pushed ∙ ap (λ ts. ts ++ c.args.text ∷ []) c.in_ok-reserve.ensures.items in
    let key : c.in_ok-key.key.items ≡ c.args.text = c.in_ok-key.ensures.items ∙ c.list.ensures in
    λ q. registered c.self.inside.texts.items c.args.text c.self.inside.found c.insert.new.self c.in_ok-key.key key c.self.invariant c.in_ok-fresh.ensures.updates q ∙ ap (λ (ts : List (List ℕ)). has_text ts q) (sym items)

pub returns-clause-fresh : goal.returns-clause-fresh
returns-clause-fresh c =
    let key : c.in_ok-key.key.items ≡ c.args.text = c.in_ok-key.ensures.items ∙ c.list.ensures in
    c.in_ok-fresh.ensures.added ∙ ap not (c.self.invariant c.in_ok-key.key.items ∙ ap (has_text c.self.inside.texts.items) key ∙ ap (λ (ts : List (List ℕ)). has_text ts c.args.text) c.self.view_is)
