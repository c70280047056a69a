-- Push: what a forest takes, and what each of its entries therefore keeps.
-- Source: this project's own, over Vault, "Tokens" (a child token has a parent, an orphan none; a lease has a token).
use Rattle.std.specs.Prelude.{◌≡◌, ℕ, ◌+◌, ◌<◌, ◌≤◌, Bool, true, false, not, ◌&&◌, ◌||◌, if◌then◌else◌, List, [], ◌∷◌, Option, Some, None, is_some, is_none, length, nat_lt, nat_le, ◌==◌}
use Rattle.std.specs.{Char.is_ascii_alphanumeric, List.list_all}
use Rattle.base_moment.specs.declared.moment.TheConstants.{LAST}
use Rattle.plan_forest.specs.{declared.entry.Entry.Entry, declared.entry.Kind.Kind, declared.entry.Kind.TheVariants.Token, declared.entry.Kind.TheVariants.Lease, declared.fault.TreeFault.TreeFault}
use Rattle.plan_forest.specs.{declared.fault.TreeFault.TheVariants.BadName, declared.fault.TreeFault.TheVariants.NameTwice, declared.fault.TreeFault.TheVariants.NoParent, declared.fault.TreeFault.TheVariants.ParentIsLease, declared.fault.TreeFault.TheVariants.LeaseWithoutToken, declared.fault.TreeFault.TheVariants.StepTooSmall, declared.fault.TreeFault.TheVariants.OutOfRange, declared.fault.TreeFault.TheVariants.TooDeep, declared.fault.TreeFault.TheVariants.Full}
use Rattle.plan_forest.specs.{declared.forest.TheConstants.END_MAX, declared.forest.TheConstants.MARGIN_MAX, declared.forest.TheConstants.MAX_DEPTH, declared.forest.TheConstants.MAX_ENTRIES, declared.forest.TheConstants.NAME_MAX}
use Rattle.plan_forest.specs.{Forest.Forest, Forest.entry_at, Forest.index_named, Over.chain}

-- an ASCII letter or digit, or one of - _ . /
abbrev pub is_name_byte : ℕ → Bool
is_name_byte b = is_ascii_alphanumeric b || (b == 45 || (b == 95 || (b == 46 || b == 47)))

-- 1 to 64 such bytes
unfoldable pub is_name : List ℕ → Bool
is_name name = nat_lt 0 (length name) && (nat_le (length name) NAME_MAX && list_all is_name_byte name)

abbrev pub is_lease : Kind → Bool
is_lease Token = false
is_lease Lease = true

-- the index is past the last entry
unfoldable pub lacks_parent : List Entry → Option ℕ → Bool
lacks_parent es None = false
lacks_parent es (Some p) = nat_le (length es) p

unfoldable pub is_under_lease : List Entry → Option ℕ → Bool
is_under_lease es None = false
is_under_lease es (Some p) = is_lease (entry_at es p).kind

-- how many entries would stand over a new one with that parent
unfoldable pub depth_under : List Entry → Option ℕ → ℕ
depth_under es None = 0
depth_under es (Some p) = length (chain es p)

-- a ceiling over the greatest
abbrev pub is_too_high : Option ℕ → Bool
is_too_high None = false
is_too_high (Some ceiling) = nat_lt END_MAX ceiling

-- the end or the ceiling is over END_MAX, or the need over LAST
unfoldable pub is_out_of_range : Entry → Bool
is_out_of_range e = nat_lt END_MAX e.end || (is_too_high e.ceiling || nat_lt LAST e.need)

-- the fault beside the first test that is met
abbrev pub first_met : {F : Type 0} → List (Bool × F) → Option F
first_met [] = None
first_met (t ∷ tests) = if t.0 then Some t.1 else first_met tests

-- why a forest does not take an entry, None where it does
abbrev pub entry_refusal : Forest → Entry → Option TreeFault
entry_refusal g e =
    first_met ((not (is_name e.name), BadName)
    ∷ (is_some (index_named g.entries e.name), NameTwice)
    ∷ (lacks_parent g.entries e.parent, NoParent)
    ∷ (is_under_lease g.entries e.parent, ParentIsLease)
    ∷ (is_lease e.kind && is_none e.parent, LeaseWithoutToken)
    ∷ (nat_lt e.step (g.margin + 1), StepTooSmall)
    ∷ (is_out_of_range e, OutOfRange)
    ∷ (nat_le MAX_DEPTH (depth_under g.entries e.parent), TooDeep)
    ∷ (nat_le MAX_ENTRIES (length g.entries), Full)
    ∷ [])

-- what the entry at an index keeps
pub record IsPlaced (g : Forest) (i : ℕ) : Type 0 where
  pub named : is_name (entry_at g.entries i).name ≡ true
  pub alone : index_named g.entries (entry_at g.entries i).name ≡ Some i
  pub parent_first : (p : ℕ) → (entry_at g.entries i).parent ≡ Some p → p < i
  pub parent_is_token : is_under_lease g.entries (entry_at g.entries i).parent ≡ false
  pub lease_has_token : is_lease (entry_at g.entries i).kind && is_none (entry_at g.entries i).parent ≡ false
  pub step_past_margin : g.margin < (entry_at g.entries i).step
  pub in_range : is_out_of_range (entry_at g.entries i) ≡ false
  pub depth : length (chain g.entries i) ≤ MAX_DEPTH

-- what holds of every forest
pub record IsForest (g : Forest) : Type 0 where
  pub margin_above : 0 < g.margin
  pub margin_within : g.margin ≤ MARGIN_MAX
  pub few : length g.entries ≤ MAX_ENTRIES
  pub placed : (i : ℕ) → i < length g.entries → IsPlaced g i
