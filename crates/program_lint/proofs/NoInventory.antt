-- NoInventory: a text with a fault that is not lack of memory is none. For `doubted_of`.
use Rattle.std.proofs.Common.{◌≡◌, ℕ, List, Err, refl}
use Rattle.vault_inventory.specs.{Answers.FailsWithInvFault, Inventory.read_served, declared.fault.InvFault.InvFault}
use Rattle.vault_inventory.specs.declared.fault.InvFault.TheVariants.{NotToml, MissingKey, UnknownKey, BadValue, Tree, OutOfMemory}

pub none_of : (text : List ℕ) (fault : InvFault) → (fault ≡ OutOfMemory → ⊥) → FailsWithInvFault fault (read_served text) → (why : InvFault) × (read_served text ≡ Err why)
none_of text OutOfMemory other fails = absurd (other refl)
none_of text NotToml other fails = (NotToml, fails)
none_of text (MissingKey i k) other fails = (MissingKey i k, fails)
none_of text (UnknownKey i) other fails = (UnknownKey i, fails)
none_of text (BadValue i k) other fails = (BadValue i k, fails)
none_of text (Tree i f) other fails = (Tree i f, fails)
