-- What is written for each fault of an inventory is its words, with the entry and the key that it names.
use Rattle.std.proofs.Common.{ℕ, List, ◌++◌, ◌∷◌, Some, subst, sym}
use Rattle.std.specs.Prelude.{codes}
use Rattle.vault_inventory.specs.declared.fault.InvFault.{InvFault}
use Rattle.program_report.specs.{FaultLine.inventory_words, FaultLine.place_word, Sent.Puts}
use Rattle.base_device.specs.Seen.{change}
use Rattle.program_report.proofs.fault_line.put_inventory.Goals as goal

pub returns-in-NotToml : goal.returns-in-NotToml
unfolding inventory_words
returns-in-NotToml g c =
    subst (λ (f : InvFault). Puts c.put.result (inventory_words f) (change g.E.Device.is_in_memory (g.E.Device.seen c.args.errors.now) (g.E.Device.seen c.put.new.errors)))
    (sym c.in-NotToml.is) c.put.ensures

pub returns-in-MissingKey : goal.returns-in-MissingKey
unfolding inventory_words
returns-in-MissingKey g c =
    subst (λ (f : InvFault). Puts c.put_word.result (inventory_words f) (change g.E.Device.is_in_memory (g.E.Device.seen c.args.errors.now) (g.E.Device.seen c.put_word.new.errors)))
    (sym c.in-MissingKey.is) (subst (λ (l : List ℕ). Puts c.put_word.result (codes "inventory: missing-key " ++ (place_word (Some c.in-MissingKey.entry) ++ 32 ∷ l)) (change g.E.Device.is_in_memory (g.E.Device.seen c.args.errors.now) (g.E.Device.seen c.put_word.new.errors)))
    c.text.ensures c.put_word.ensures)

pub returns-in-UnknownKey : goal.returns-in-UnknownKey
unfolding inventory_words
returns-in-UnknownKey g c =
    subst (λ (f : InvFault). Puts c.put_where.result (inventory_words f) (change g.E.Device.is_in_memory (g.E.Device.seen c.args.errors.now) (g.E.Device.seen c.put_where.new.errors)))
    (sym c.in-UnknownKey.is) c.put_where.ensures

pub returns-in-BadValue : goal.returns-in-BadValue
unfolding inventory_words
returns-in-BadValue g c =
    subst (λ (f : InvFault). Puts c.put_word-in-BadValue.result (inventory_words f) (change g.E.Device.is_in_memory (g.E.Device.seen c.args.errors.now) (g.E.Device.seen c.put_word-in-BadValue.new.errors)))
    (sym c.in-BadValue.is) (subst (λ (l : List ℕ). Puts c.put_word-in-BadValue.result (codes "inventory: bad-value " ++ (place_word c.in-BadValue.place ++ 32 ∷ l)) (change g.E.Device.is_in_memory (g.E.Device.seen c.args.errors.now) (g.E.Device.seen c.put_word-in-BadValue.new.errors)))
    c.text-in-BadValue.ensures c.put_word-in-BadValue.ensures)

pub returns-in-Tree : goal.returns-in-Tree
unfolding inventory_words
returns-in-Tree g c =
    subst (λ (f : InvFault). Puts c.put_word-in-Tree.result (inventory_words f) (change g.E.Device.is_in_memory (g.E.Device.seen c.args.errors.now) (g.E.Device.seen c.put_word-in-Tree.new.errors)))
    (sym c.in-Tree.is) (subst (λ (l : List ℕ). Puts c.put_word-in-Tree.result (codes "inventory: tree " ++ (place_word (Some c.in-Tree.entry) ++ 32 ∷ l)) (change g.E.Device.is_in_memory (g.E.Device.seen c.args.errors.now) (g.E.Device.seen c.put_word-in-Tree.new.errors)))
    c.tree_word-fault.ensures c.put_word-in-Tree.ensures)
