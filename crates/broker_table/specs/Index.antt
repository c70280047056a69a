-- An index: for each credential the place of the slot whose row has it, listed or not.
use Rattle.std.specs.Prelude.{◌≡◌, ◌≢◌, ℕ, ◌+◌, ◌<◌, Bool, true, List, Option, Some, None, IfSome, Vec, length, map, if◌then◌else◌}
use Rattle.std.specs.{BTreeMap.BTreeMap, BTreeMap.get_by, Cmp.Lexicographic.slice_cmp, Ordering.nat_cmp, declared.alloc.Global.Global}
use Rattle.plan_forest.specs.declared.entry.Kind.{Kind}
use Rattle.broker_rule.specs.{declared.row.BrokerRow.BrokerRow, Subject.is_lease_with, Subject.is_token_with}
use Rattle.broker_table.specs.{declared.slot.Slot.Slot, declared.index.Index.Index, Slots.slot_at}

-- the place that a map has for a credential
abbrev pub place_in : BTreeMap (Vec ℕ Global) ℕ → List ℕ → Option ℕ
place_in places credential = get_by (λ k. slice_cmp nat_cmp credential k.items) places

-- of the first n slots, the map has for each credential the one whose row has it, and no other place
pub record FindsSlots (places : BTreeMap (Vec ℕ Global) ℕ) (has : List ℕ → BrokerRow → Bool) (slots : List Slot) (n : ℕ) : Type 0 where
  pub found : (credential : List ℕ) (i : ℕ) → i < n → has credential (slot_at slots i).row ≡ true → place_in places credential ≡ Some i
  pub within : (credential : List ℕ) → IfSome (place_in places credential) (λ i. (i < n) × (has credential (slot_at slots i).row ≡ true))

-- an index of the first n slots
pub record IsIndexOf (index : Index) (slots : List Slot) (n : ℕ) : Type 0 where
  pub tokens : FindsSlots index.tokens is_token_with slots n
  pub leases : FindsSlots index.leases is_lease_with slots n

-- an index of no slots yet, whatever the slots are
abbrev pub IsIndexOfNone : Index → Type 0
IsIndexOfNone index = (slots : List Slot) → IsIndexOf index slots 0

-- none of the first n slots has the kind and the credential of a row
abbrev pub IsFresh : BrokerRow → List Slot → ℕ → Type 0
IsFresh row slots n = (i : ℕ) → i < n → (slot_at slots i).row.kind ≡ row.kind → (slot_at slots i).row.credential ≢ row.credential

-- the row of slot n is entered: if none before it has its kind and its credential, an index of the first n slots becomes
-- one of the first n + 1
abbrev pub EntersRow : Index → Index → BrokerRow → ℕ → Type 0
EntersRow old new row n = (slots : List Slot) → (slot_at slots n).row ≡ row → IsFresh row slots n → IsIndexOf old slots n → IsIndexOf new slots (n + 1)

-- no two of the slots have the same kind and the same credential
abbrev pub AreUnlike : List Slot → Type 0
AreUnlike slots =
    (i j : ℕ) → i < length slots → j < length slots → (slot_at slots i).row.kind ≡ (slot_at slots j).row.kind →
    (slot_at slots i).row.credential ≡ (slot_at slots j).row.credential → i ≡ j

-- an index of these slots
abbrev pub IsIndexed : Index → List Slot → Type 0
IsIndexed index slots = IsIndexOf index slots (length slots)

-- by what the slots are found
unfoldable pub credentials_of : List Slot → List (Kind × List ℕ)
credentials_of slots = map (λ s. (s.row.kind, s.row.credential)) slots

-- a place where its slot is listed
abbrev pub if_listed : List Slot → Option ℕ → Option ℕ
if_listed slots None = None
if_listed slots (Some p) = if (slot_at slots p).listed then Some p else None
