-- Started: what is read from a start on is an inventory, and what differs from the one that was read is its needs alone.
use Rattle.std.proofs.Common.{◌≡◌, ℕ, zero, suc, ◌+◌, ◌≤◌, Bool, true, false, cond, List, [], ◌∷◌, length, Some, None, Option, Ok, refl, sym, ap, ◌∙◌, subst, arith}
use Rattle.std.proofs.lemmas.Bool.{cond-true}
use Rattle.plan_forest.specs.{declared.entry.Entry.Entry, Forest.Forest, Forest.end_of, Push.IsForest}
use Rattle.plan_rule.specs.Unkeepable.{AllKeepable}
use Rattle.tick_keeper.specs.{code.Passes.needing, LawsOfSteps.IsShaped, Shorten.is_short}
use Rattle.tick_keeper.specs.Always.{forest_from, is_always_needed, need_from, needs_from}
use Rattle.tick_keeper.proofs.Needing.{field_kept, length_needing}
use Rattle.tick_keeper.proofs.AlwaysNeeded.{all_from, always_law, from_is, needs_count, never_law, shaped_from}
use Rattle.vault_inventory.specs.{declared.fault.InvFault.InvFault, declared.limits.TheConstants.SPAN_MAX, declared.note.EntryNote.EntryNote, Inventories.IsInventory, Inventories.Inventory}
use Rattle.vault_inventory.specs.declared.fault.InvFault.TheVariants.{BadValue, MissingKey}
use Rattle.vault_inventory.specs.declared.key.Key.TheVariants.{Issued, Need}
use Rattle.vault_inventory.specs.Inventory.{read_inventory, read_known, read_served}
use Rattle.vault_inventory.specs.Served.{Served, first_open, first_untold, inventory_if_whole, served_if_told, told_unless, unless}
use Rattle.vault_inventory.proofs.{Barely.served_secrecy_law, Chains.bind_ok, Chains.follow, Inventoried.served_law}
use Rattle.vault_start.specs.Start.{from_start, inventory_at}
use Rattle.vault_start.specs.Laws.{AlwaysKeptLaw, StartInventoryLaw, StartSecrecyLaw, WholeLaw}
use Rattle.vault_served.specs.ForGood.{inventory_with_needs, marks}

-- ---- what was read before

known_is : (bytes : List ℕ) (v : Served) → read_known bytes ≡ Ok v → read_served bytes ≡ Ok v
unfolding read_known served_if_told
known_is bytes v e = bind_ok (read_served bytes) _ v e (λ u read e1. by_first u (first_untold 0 u.notes) read e1)
  where
    by_first : (u : Served) (o : Option ℕ) → read_served bytes ≡ Ok u → told_unless u o ≡ Ok v → read_served bytes ≡ Ok v
    by_first u None read e = let same : u ≡ v = cc in subst (λ x. read_served bytes ≡ Ok x) same read
    by_first u (Some i) read e = absurd cc

pub at_is : (s : ℕ) (bytes : List ℕ) (inventory : Inventory) → inventory_at s bytes ≡ Ok inventory → (v : Served) × (read_known bytes ≡ Ok v) × (from_start v.inventory (marks v.notes) s ≡ inventory)
unfolding inventory_at
at_is s bytes inventory e = bind_ok (read_known bytes) _ inventory e (λ v read e1. (v, read, cc))

pub known_at : (s : ℕ) (bytes : List ℕ) (v : Served) → read_known bytes ≡ Ok v → inventory_at s bytes ≡ Ok (from_start v.inventory (marks v.notes) s)
unfolding inventory_at
known_at s bytes v read = follow _ v _ _ read refl

-- ---- needs that are set

pub needs_set : (v : Inventory) (always : List Bool) (s : ℕ) (needs : List ℕ) → needs ≡ needs_from v.forest always s → inventory_with_needs v needs ≡ from_start v always s
unfolding inventory_with_needs from_start needing
needs_set v always s needs are = ap (λ (g : Forest). record v { forest = g }) (all_from v.forest always s needs are)

pub needs_for_each : (g : Forest) (always : List Bool) (s : ℕ) (needs : List ℕ) → needs ≡ needs_from g always s → length needs ≡ length g.entries
needs_for_each g always s needs are = ap (λ ns. length ns) are ∙ needs_count g always s

-- ---- other needs alone

needing_is_inventory : (v : Inventory) → IsInventory v → (f : ℕ → ℕ) → IsForest (record { entries = needing v.forest.entries f; margin = v.forest.margin }) →
    IsInventory (record v { forest = record { entries = needing v.forest.entries f; margin = v.forest.margin } })
needing_is_inventory v inventory f forest =
    let es = v.forest.entries in
    let n = length_needing es f in
    let a = inventory.credentials in
    let b = inventory.terms in
    let kinds = field_kept (λ (e : Entry). e.kind) (λ e n. refl) es f in
    let steps = field_kept (λ (e : Entry). e.step) (λ e n. refl) es f in
    let ceilings = field_kept (λ (e : Entry). e.ceiling) (λ e n. refl) es f in
    record {
      forest = forest;
      credentials = omega (arith, a, n);
      terms = omega (arith, b, n);
      apart = λ j k hj hk kind same. inventory.apart j k (omega (arith, hj, n)) (omega (arith, hk, n)) (sym (kinds j) ∙ kind ∙ kinds k) same;
      sendable = inventory.sendable;
      steps = λ j h. subst (λ x. x ≤ SPAN_MAX) (sym (steps j)) (inventory.steps j (omega (arith, h, n)));
      step_is = λ j h. steps j ∙ inventory.step_is j (omega (arith, h, n));
      ceiling_is = λ j h. ceilings j ∙ inventory.ceiling_is j (omega (arith, h, n));
    }

pub start_is_inventory : (v : Inventory) → IsInventory v → (always : List Bool) (s : ℕ) → IsInventory (from_start v always s)
unfolding from_start
start_is_inventory v inventory always s =
    let g = v.forest in
    let is = from_is g always s in
    subst (λ (h : Forest). IsInventory (record v { forest = h })) (sym is)
    (needing_is_inventory v inventory (need_from g always s) (subst IsForest is (always_law g always s inventory.forest).0))

-- from a start on the forest has the entries that it had, but for their needs
pub shaped_start : (v : Inventory) (always : List Bool) (s : ℕ) → IsShaped v.forest (from_start v always s).forest
unfolding from_start
shaped_start v always s = shaped_from v.forest always s

pub kept_credentials : (v : Inventory) (always : List Bool) (s : ℕ) → (from_start v always s).credentials ≡ v.credentials
unfolding from_start
kept_credentials v always s = refl

pub start_law : StartInventoryLaw
start_law s bytes inventory e =
    let at = at_is s bytes inventory e in
    subst IsInventory at.2 (start_is_inventory at.0.inventory (served_law bytes at.0 (known_is bytes at.0 at.1)).inventory (marks at.0.notes) s)

pub secrecy_law : StartSecrecyLaw
unfolding from_start
secrecy_law s bytes other v w alike e d =
    let at = at_is s bytes v e in
    let there = at_is s other w d in
    let same = served_secrecy_law bytes other at.0 there.0 alike (known_is bytes at.0 at.1) (known_is other there.0 there.1) in
    let notes : marks at.0.notes ≡ marks there.0.notes = ap marks same.1 in
    let forests : forest_from at.0.inventory.forest (marks at.0.notes) s ≡ forest_from there.0.inventory.forest (marks there.0.notes) s =
    ap (λ (g : Forest). forest_from g (marks at.0.notes) s) same.0.0 ∙ ap (λ always. forest_from there.0.inventory.forest always s) notes in (
      ap (λ (x : Inventory). x.forest) (sym at.2) ∙ forests ∙ ap (λ (x : Inventory). x.forest) there.2,
      ap (λ (x : Inventory). x.terms) (sym at.2) ∙ same.0.1 ∙ ap (λ (x : Inventory). x.terms) there.2,
    )

-- ---- nothing open

abbrev or_later : Option InvFault → Option InvFault → Option InvFault
or_later here later = elim here [ Some fault ↦ Some fault | None ↦ later ]

open_parts : (index : ℕ) (told always : Bool) (later : Option InvFault) → or_later (cond told (cond always (Some (BadValue (Some index) Need)) None) (Some (MissingKey index Issued))) later ≡ None →
    (told ≡ true) × (always ≡ false) × (later ≡ None)
open_parts index true true later e = absurd cc
open_parts index true false later e = (refl, refl, e)
open_parts index false always later e = absurd cc

closed : (index : ℕ) (notes : List EntryNote) → first_open index notes ≡ None → (first_untold index notes ≡ None) × ((j : ℕ) → is_always_needed (marks notes) j ≡ false)
unfolding marks
closed index [] e = (refl, λ j. refl)
closed index (note ∷ notes) e =
    let parts = open_parts index note.is_told note.is_always (first_open (index + 1) notes) e in
    let more = closed (index + 1) notes parts.2 in
    (cond-true note.is_told (first_untold (index + 1) notes) (Some index) parts.0 ∙ more.0, by_place parts.1 more.1)
  where
    by_place : note.is_always ≡ false → ((j : ℕ) → is_always_needed (marks notes) j ≡ false) → (j : ℕ) → is_always_needed (marks (note ∷ notes)) j ≡ false
    by_place here later zero = here
    by_place here later (suc j) = later j

whole_parts : (inventory : Inventory) (v : Inventory) (o : Option InvFault) → unless v o ≡ Ok inventory → (o ≡ None) × (v ≡ inventory)
whole_parts inventory v None e = (refl, cc)
whole_parts inventory v (Some fault) e = absurd cc

pub whole_law : WholeLaw
unfolding read_inventory inventory_if_whole inventory_at read_known served_if_told from_start
whole_law s bytes inventory e =
    bind_ok (read_served bytes) _ inventory e (λ v read e1.
    let whole = whole_parts inventory v.inventory (first_open 0 v.notes) e1 in
    let shut = closed 0 v.notes whole.0 in
    let known : read_known bytes ≡ Ok v = follow _ v _ _ read (ap (told_unless v) shut.0) in
    let same : forest_from v.inventory.forest (marks v.notes) s ≡ v.inventory.forest = never_law v.inventory.forest (marks v.notes) s shut.1 in
    follow _ v _ _ known (ap (λ (g : Forest). Ok (record v.inventory { forest = g })) same ∙ ap (λ (x : Inventory). Ok x) whole.1))

-- ---- always

pub kept_law : AlwaysKeptLaw
unfolding from_start
kept_law s bytes v inventory read e =
    let at = at_is s bytes inventory e in
    let same : at.0 ≡ v = let both : Ok at.0 ≡ Ok v = sym at.1 ∙ read in cc in
    let is : from_start v.inventory (marks v.notes) s ≡ inventory = subst (λ (x : Served). from_start x.inventory (marks x.notes) s ≡ inventory) same at.2 in
    let laws = always_law v.inventory.forest (marks v.notes) s (served_law bytes v (known_is bytes v read)).inventory.forest in (
      (λ i marked. subst (λ (x : Inventory). is_short x.forest s i ≡ false) is (laws.1 i marked)),
      (λ early. subst (λ (x : Inventory). AllKeepable x.forest s (end_of x.forest.entries)) is (laws.2 early)),
    )
