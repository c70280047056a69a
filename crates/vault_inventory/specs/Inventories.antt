-- What an inventory holds: a forest, and beside each entry the credential that is sent for it and its terms.
use Rattle.std.specs.Prelude.{◌≡◌, ℕ, ◌<◌, ◌≤◌, false, List, [], None, length, slice_index_or, slice_set}
use Rattle.std.specs.List.{All}
use Rattle.plan_forest.specs.{Forest.Forest, Forest.entry_at, Push.IsForest}
use Rattle.vault_inventory.specs.{declared.limits.TheConstants.CREDENTIAL_MAX, declared.limits.TheConstants.SPAN_MAX, declared.terms.Terms.Terms, Terms.ceiling_of, Terms.step_of}

pub record Inventory : Type 0 where
  pub forest : Forest
  pub credentials : List (List ℕ)
  pub terms : List Terms

-- what is read past the last entry
abbrev pub empty_terms : Terms
empty_terms = record { issued = 0; increment = None; period = 0; max_ttl = 0; explicit_max = 0; reissued = false }

-- the terms of an entry
unfoldable pub terms_at : List Terms → ℕ → Terms
terms_at ts i = slice_index_or ts i empty_terms

-- the credential of an entry
unfoldable pub credential_at : List (List ℕ) → ℕ → List ℕ
credential_at cs i = slice_index_or cs i []

-- no two tokens have the same credential, and no two leases
abbrev pub CredentialsAreApart : Inventory → Type 0
CredentialsAreApart s =
    (i j : ℕ) → i < length s.forest.entries → j < length s.forest.entries → (entry_at s.forest.entries i).kind ≡ (entry_at s.forest.entries j).kind →
    credential_at s.credentials i ≡ credential_at s.credentials j → i ≡ j

-- 1 to 256 bytes, each from 0x21 to 0x7E: they can stand in the head of a message, and are UTF-8
abbrev pub IsSendableText : List ℕ → Type 0
IsSendableText text = (0 < length text) × (length text ≤ CREDENTIAL_MAX) × All (λ b. (0x21 ≤ b) × (b ≤ 0x7E)) text

-- what every inventory keeps: a forest, one credential and one set of terms for each entry, of one kind no credential
-- twice, and each can be sent; a step is a duration, and step and ceiling are those of the terms
pub record IsInventory (s : Inventory) : Type 0 where
  pub forest : IsForest s.forest
  pub credentials : length s.credentials ≡ length s.forest.entries
  pub terms : length s.terms ≡ length s.forest.entries
  pub apart : CredentialsAreApart s
  pub sendable : All IsSendableText s.credentials
  pub steps : (i : ℕ) → i < length s.forest.entries → (entry_at s.forest.entries i).step ≤ SPAN_MAX
  pub step_is : (i : ℕ) → i < length s.forest.entries → (entry_at s.forest.entries i).step ≡ step_of (terms_at s.terms i)
  pub ceiling_is : (i : ℕ) → i < length s.forest.entries → (entry_at s.forest.entries i).ceiling ≡ ceiling_of (terms_at s.terms i)

-- the inventory with another need of one entry
unfoldable pub inventory_with_need : Inventory → ℕ → ℕ → Inventory
inventory_with_need s i need = record s { forest = record s.forest { entries = slice_set s.forest.entries i (record (entry_at s.forest.entries i) { need = need }) } }
