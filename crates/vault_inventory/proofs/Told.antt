-- Told: an inventory to which a lookup was applied is an inventory still.
use Rattle.std.proofs.Common.{◌≡◌, ◌≢◌, ℕ, ◌+◌, ◌<◌, ◌≤◌, Bool, true, false, cond, ◌&&◌, List, Option, Some, None, is_some, nat_lt, set, length, refl, sym, ap, ◌∙◌, subst, arith, inl, inr}
use Rattle.std.proofs.lemmas.{Bool.cases_eq, Bool.Decides.nat_tests}
use Rattle.std.proofs.lemmas.List.{get_or-set_same, get_or-set_other, length-set, set-set}
use Rattle.plan_forest.specs.{declared.entry.Entry.Entry, Forest.Forest, Forest.entry_at, Push.IsForest, Push.is_lease}
use Rattle.plan_forest.proofs.Entries.{entry_at_set_other, entry_at_set_same}
use Rattle.vault_json.specs.declared.lookup.Lookup.{Lookup}
use Rattle.vault_json.specs.declared.lookup.Lookup.TheVariants.{Token, Lease}
use Rattle.vault_inventory.specs.{declared.limits.TheConstants.SPAN_MAX, declared.lookup.LookupFault.LookupFault, declared.terms.Terms.Terms, Terms.ceiling_of, Terms.step_of}
use Rattle.vault_inventory.specs.declared.lookup.LookupFault.TheVariants.{OtherKind, OtherTree, NoStep}
use Rattle.vault_inventory.specs.Inventories.{IsInventory, Inventory, empty_terms, terms_at, inventory_with_need}
use Rattle.vault_inventory.specs.Lookup.{lookup_fault, told, told_entry, told_terms}

-- the entry that a lookup makes of the one at an index
abbrev pub entry_then : Inventory → ℕ → Lookup → ℕ → Entry
entry_then s i lookup now = told_entry now lookup (told_terms lookup (terms_at s.terms i)) (entry_at s.forest.entries i)

-- ---- its step is past the margin

passed : (a : Bool) (f : LookupFault) (o : Option LookupFault) → cond a (Some f) o ≡ None → o ≡ None
passed true f o e = absurd cc
passed false f o e = e

not_met : (a : Bool) (f : LookupFault) → cond a (Some f) None ≡ None → a ≡ false
not_met true f e = absurd cc
not_met false f e = refl

at_least : (m n : ℕ) → nat_lt m n ≡ false → n ≤ m
at_least m n h = grind (arith, nat_tests)

pub past_margin : (s : Inventory) → IsInventory s → (i : ℕ) → i < length s.forest.entries → (lookup : Lookup) (now : ℕ) → lookup_fault s i lookup ≡ None → s.forest.margin + 1 ≤ (entry_then s i lookup now).step
unfolding lookup_fault
past_margin s inventory i within (Token ttl created explicit_max orphan renewable period) now none =
    let step = step_of (told_terms (Token ttl created explicit_max orphan renewable period) (terms_at s.terms i)) in
    let one = passed (is_lease (entry_at s.forest.entries i).kind) OtherKind _ none in
    let two = passed (orphan && is_some (entry_at s.forest.entries i).parent) OtherTree _ one in
    at_least step (s.forest.margin + 1) (not_met (nat_lt step (s.forest.margin + 1)) NoStep two)
past_margin s inventory i within (Lease id issued renewable ttl) now none =
    let above = (inventory.forest.placed i within).step_past_margin in omega (arith, above)

-- ---- an entry that is set again and again

abbrev change : Forest → ℕ → (Entry → Entry) → Forest
change g i f = record g { entries = set g.entries i (f (entry_at g.entries i)) }

set_again : (g : Forest) (i : ℕ) (e : Entry) (f : Entry → Entry) → i < length g.entries → change (record g { entries = set g.entries i e }) i f ≡ record g { entries = set g.entries i (f e) }
set_again g i e f within =
    ap (λ (x : Entry). record g { entries = set (set g.entries i e) i (f x) }) (entry_at_set_same g.entries i e within)
    ∙ ap (λ es. record g { entries = es }) (set-set g.entries i e (f e))

pub set_thrice : (g h k l : Forest) (i : ℕ) (a b c : Entry → Entry) → i < length g.entries → h ≡ change g i a → k ≡ change h i b → l ≡ change k i c →
    l ≡ record g { entries = set g.entries i (c (b (a (entry_at g.entries i)))) }
set_thrice g h k l i a b c within one two three =
    let e = entry_at g.entries i in
    let second = two ∙ ap (λ (x : Forest). change x i b) one ∙ set_again g i (a e) b within in
    three ∙ ap (λ (x : Forest). change x i c) second ∙ set_again g i (b (a e)) c within

-- ---- each part of an inventory

terms_set_same : (ts : List Terms) (i : ℕ) (t : Terms) → i < length ts → terms_at (set ts i t) i ≡ t
unfolding terms_at
terms_set_same ts i t h = get_or-set_same ts i t empty_terms h

terms_set_other : (ts : List Terms) (i j : ℕ) (t : Terms) → j ≢ i → terms_at (set ts i t) j ≡ terms_at ts j
unfolding terms_at
terms_set_other ts i j t h = get_or-set_other ts i j t empty_terms h

kind_stays : (now : ℕ) (lookup : Lookup) (t : Terms) (e : Entry) → (told_entry now lookup t e).kind ≡ e.kind
kind_stays now (Token ttl created explicit_max orphan renewable period) t e = refl
kind_stays now (Lease id issued renewable ttl) t e = refl

field_stays : {X : Type 0} (field : Entry → X) (es : List Entry) (i : ℕ) (e : Entry) → i < length es → field e ≡ field (entry_at es i) → (j : ℕ) → field (entry_at (set es i e) j) ≡ field (entry_at es j)
field_stays field es i e within same j =
    elim (cases_eq j i) [
      | inl here ↦ ap (λ n. field (entry_at (set es i e) n)) here ∙ ap field (entry_at_set_same es i e within) ∙ same ∙ ap (λ n. field (entry_at es n)) (sym here)
      | inr there ↦ ap field (entry_at_set_other es i j e there)
    ]

-- the step and the ceiling of the entry are those of the terms
step_told : (now : ℕ) (lookup : Lookup) (t : Terms) (e : Entry) → e.step ≡ step_of t → (told_entry now lookup (told_terms lookup t) e).step ≡ step_of (told_terms lookup t)
step_told now (Token ttl created explicit_max orphan renewable period) t e is = refl
step_told now (Lease id issued renewable ttl) t e is = is

ceiling_told : (now : ℕ) (lookup : Lookup) (t : Terms) (e : Entry) → (told_entry now lookup (told_terms lookup t) e).ceiling ≡ ceiling_of (told_terms lookup t)
ceiling_told now (Token ttl created explicit_max orphan renewable period) t e = refl
ceiling_told now (Lease id issued renewable ttl) t e = refl

-- what holds of an entry and its terms holds of each where it holds of the new ones
each_told : (P : Entry → Terms → Type 0) (es : List Entry) (ts : List Terms) (i : ℕ) (e : Entry) (t : Terms) → length ts ≡ length es → i < length es → P e t →
    ((j : ℕ) → j < length es → P (entry_at es j) (terms_at ts j)) → (j : ℕ) → j < length es → P (entry_at (set es i e) j) (terms_at (set ts i t) j)
each_told P es ts i e t count within new old j inside =
    elim (cases_eq j i) [
      | inl here ↦
          subst (λ n. P (entry_at (set es i e) n) (terms_at (set ts i t) n)) (sym here)
          (subst (λ x. P x (terms_at (set ts i t) i)) (sym (entry_at_set_same es i e within))
          (subst (λ x. P e x) (sym (terms_set_same ts i t (omega (arith, count, within)))) new))
      | inr there ↦
          subst (λ x. P x (terms_at (set ts i t) j)) (sym (entry_at_set_other es i j e there))
          (subst (λ x. P (entry_at es j) x) (sym (terms_set_other ts i j t there)) (old j inside))
    ]

-- the forest that was told and the terms that were written are those of the inventory as it then is
pub is_told : (s : Inventory) (i : ℕ) (lookup : Lookup) (now : ℕ) (g : Forest) (ts : List Terms) (t : Terms) → t ≡ told_terms lookup (terms_at s.terms i) →
    g ≡ record s.forest { entries = set s.forest.entries i (told_entry now lookup t (entry_at s.forest.entries i)) } → ts ≡ set s.terms i t →
    record { forest = g; credentials = s.credentials; terms = ts } ≡ told s i lookup now
unfolding told
is_told s i lookup now g ts t same forest terms =
    ap (λ (x : Forest). record { forest = x; credentials = s.credentials; terms = ts }) forest
    ∙ ap (λ (xs : List Terms). record { forest = record s.forest { entries = set s.forest.entries i (told_entry now lookup t (entry_at s.forest.entries i)) }; credentials = s.credentials; terms = xs }) terms
    ∙ ap (λ (x : Terms). record { forest = record s.forest { entries = set s.forest.entries i (told_entry now lookup x (entry_at s.forest.entries i)) }; credentials = s.credentials; terms = set s.terms i x }) same

pub told_is_inventory : (s : Inventory) → IsInventory s → (i : ℕ) → i < length s.forest.entries → (lookup : Lookup) (now : ℕ) → (entry_then s i lookup now).step ≤ SPAN_MAX → IsForest (told s i lookup now).forest → IsInventory (told s i lookup now)
unfolding told
told_is_inventory s inventory i within lookup now span forest =
    let es = s.forest.entries in
    let ts = s.terms in
    let e = entry_then s i lookup now in
    let t = told_terms lookup (terms_at ts i) in
    let n = length-set es i e in
    let m = length-set ts i t in
    let a = inventory.credentials in
    let b = inventory.terms in
    let kinds = field_stays (λ (x : Entry). x.kind) es i e within (kind_stays now lookup t (entry_at es i)) in
    record {
      forest = forest;
      credentials = omega (arith, a, n);
      terms = omega (arith, b, n, m);
      apart = λ j k hj hk kind same. inventory.apart j k (omega (arith, hj, n)) (omega (arith, hk, n)) (sym (kinds j) ∙ kind ∙ kinds k) same;
      sendable = inventory.sendable;
      steps = λ j h. each_told (λ x y. x.step ≤ SPAN_MAX) es ts i e t b within span inventory.steps j (omega (arith, h, n));
      step_is = λ j h. each_told (λ x y. x.step ≡ step_of y) es ts i e t b within (step_told now lookup (terms_at ts i) (entry_at es i) (inventory.step_is i within)) inventory.step_is j (omega (arith, h, n));
      ceiling_is = λ j h. each_told (λ x y. x.ceiling ≡ ceiling_of y) es ts i e t b within (ceiling_told now lookup (terms_at ts i) (entry_at es i)) inventory.ceiling_is j (omega (arith, h, n));
    }

-- ---- an inventory with another need of one entry is one still

pub needed_is_inventory : (s : Inventory) → IsInventory s → (i : ℕ) → i < length s.forest.entries → (need : ℕ) → IsForest (inventory_with_need s i need).forest → IsInventory (inventory_with_need s i need)
unfolding inventory_with_need
needed_is_inventory s inventory i within need forest =
    let es = s.forest.entries in
    let e : Entry = record (entry_at es i) { need = need } in
    let n = length-set es i e in
    let a = inventory.credentials in
    let b = inventory.terms in
    let kinds = field_stays (λ (x : Entry). x.kind) es i e within refl in
    let steps = field_stays (λ (x : Entry). x.step) es i e within refl in
    let ceilings = field_stays (λ (x : Entry). x.ceiling) es i e within refl in
    record {
      forest = forest;
      credentials = omega (arith, a, n);
      terms = omega (arith, b, n);
      apart = λ j k hj hk kind same. inventory.apart j k (omega (arith, hj, n)) (omega (arith, hk, n)) (sym (kinds j) ∙ kind ∙ kinds k) same;
      sendable = inventory.sendable;
      steps = λ j h. subst (λ x. x ≤ SPAN_MAX) (sym (steps j)) (inventory.steps j (omega (arith, h, n)));
      step_is = λ j h. steps j ∙ inventory.step_is j (omega (arith, h, n));
      ceiling_is = λ j h. ceilings j ∙ inventory.ceiling_is j (omega (arith, h, n));
    }
