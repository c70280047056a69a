-- Inventoried: what is read of a text is an inventory, whatever tables it was read from: the tokens come first, then the leases, and
-- each row that is taken keeps what every inventory keeps.
use Rattle.std.proofs.Common.{◌≡◌, ℕ, ◌+◌, ◌-◌, ◌<◌, ◌≤◌, List, ◌∷◌, [], ◌++◌, length, Bool, Option, Some, None, Ok, refl, sym, ap, ◌∙◌, subst, arith, ⊎_elim}
use Rattle.std.specs.List.{All}
use Rattle.std.proofs.lemmas.{Bool.cases_lt, List.length_push}
use Rattle.std.proofs.lemmas.List.Elements.{All-append, All-nil, All-push}
use Rattle.std.proofs.Math.ListN.{length-append}
use Rattle.toml.specs.Data.{Members}
use Rattle.plan_forest.specs.{declared.entry.Entry.Entry, declared.entry.Kind.Kind, declared.forest.TheConstants.MARGIN_MAX, Forest.Forest, Forest.entry_at, Push.IsForest}
use Rattle.plan_forest.specs.declared.entry.Kind.TheVariants as kind
use Rattle.plan_forest.proofs.{Entries.entry_at_push_old, Entries.entry_at_push_new, Placed.empty_is_forest, Placed.pushed_is_forest}
use Rattle.vault_inventory.specs.{declared.fault.InvFault.InvFault, declared.key.Key.TheVariants.Margin, declared.row.TableRow.TableRow, declared.terms.Terms.Terms, Languages.Language, Languages.full, Values.is_key_there}
use Rattle.vault_inventory.specs.Inventories.{CredentialsAreApart, IsSendableText, IsInventory, Inventory, terms_at}
use Rattle.vault_inventory.specs.Intake.{Intake, empty_intake, inventory_of_intake}
use Rattle.vault_inventory.specs.Served.{IsServedInventory, Served, first_open, inventory_if_whole, unless}
use Rattle.vault_inventory.specs.Inventory.{token_entered, lease_entered, intake_of, read_inventory, read_served, served_of, system_max_in, document_tree}
use Rattle.vault_inventory.specs.Laws.{InventoryLaw, SendableLaw, ServedLaw}
use Rattle.vault_inventory.proofs.{Chains.bind_ok, Entered.Within, Entered.intake_keeps, Sendable.lease_sendable, Sendable.token_sendable}
use Rattle.vault_inventory.proofs.Apart.{Unlike, last_or_before, unlike_more}
use Rattle.vault_inventory.proofs.Parts.{TokenParts, LeaseParts, token_parts, lease_parts}
use Rattle.vault_inventory.proofs.Spans.{IsGood, lease_good, token_good}
use Rattle.vault_inventory.proofs.Inventories.{first_half, second_half, terms_new, terms_old}
use Rattle.vault_inventory.proofs.Taken.{Fits, KeepsIt, lease_entered_ok, token_entered_ok, took_lease, took_token}

-- ---- the tokens first, then the leases

record Sorted (s : Intake) : Type 0 where
  forest : IsForest s.forest
  matched : length s.secrets + length s.lease_ids ≡ length s.forest.entries
  termed : length s.terms ≡ length s.forest.entries
  noted : length s.notes ≡ length s.forest.entries
  tokens : (i : ℕ) → i < length s.secrets → (entry_at s.forest.entries i).kind ≡ kind.Token
  leases : (i : ℕ) → length s.secrets ≤ i → i < length s.forest.entries → (entry_at s.forest.entries i).kind ≡ kind.Lease
  secrets_unlike : Unlike s.secrets
  lease_ids_unlike : Unlike s.lease_ids
  secrets_sendable : All IsSendableText s.secrets
  lease_ids_sendable : All IsSendableText s.lease_ids
  good : (i : ℕ) → i < length s.forest.entries → IsGood (entry_at s.forest.entries i) (terms_at s.terms i)

-- no lease yet
abbrev TokensAlone : Intake → Type 0
TokensAlone s = Sorted s × (length s.lease_ids ≡ 0)

-- what a row has by itself
record IsRowOf (k : Kind) (row : TableRow) : Type 0 where
  kind : row.entry.kind ≡ k
  sendable : IsSendableText row.credential
  good : IsGood row.entry row.terms

kind_old : (es : List Entry) (e : Entry) (k : Kind) (i : ℕ) → i < length es → (entry_at es i).kind ≡ k → (entry_at (es ++ e ∷ []) i).kind ≡ k
kind_old es e k i h is = ap (λ (x : Entry). x.kind) (entry_at_push_old es e i h) ∙ is

kind_new : (es : List Entry) (e : Entry) (k : Kind) (i : ℕ) → i ≡ length es → e.kind ≡ k → (entry_at (es ++ e ∷ []) i).kind ≡ k
kind_new es e k i h is = ap (λ (x : Entry). x.kind) (ap (entry_at (es ++ e ∷ [])) h ∙ entry_at_push_new es e) ∙ is

good_more : (es : List Entry) (ts : List Terms) (e : Entry) (t : Terms) → length ts ≡ length es → ((i : ℕ) → i < length es → IsGood (entry_at es i) (terms_at ts i)) → IsGood e t →
    (i : ℕ) → i < length (es ++ e ∷ []) → IsGood (entry_at (es ++ e ∷ []) i) (terms_at (ts ++ t ∷ []) i)
good_more es ts e t count good new i h =
    let grown = length_push es e in
    last_or_before (length es) i _ (omega arith)
    (λ last.
    subst (λ x. IsGood x (terms_at (ts ++ t ∷ []) i)) (sym (ap (entry_at (es ++ e ∷ [])) last ∙ entry_at_push_new es e))
    (subst (λ x. IsGood e x) (sym (terms_new ts t i (omega arith))) new))
    (λ old.
    subst (λ x. IsGood x (terms_at (ts ++ t ∷ []) i)) (sym (entry_at_push_old es e i old))
    (subst (λ x. IsGood (entry_at es i) x) (sym (terms_old ts t i (omega arith))) (good i old)))

token_sorted : (s : Intake) (row : TableRow) → IsRowOf kind.Token row → Fits s.forest s.secrets row → TokensAlone s → TokensAlone (took_token s row)
token_sorted s row is fits alone =
    let old = alone.0 in
    let l = length_push s.forest.entries row.entry in
    let k = length_push s.secrets row.credential in
    let n = length_push s.terms row.terms in
    let o = length_push s.notes row.note in
    let m = old.matched in
    let c = old.termed in
    let d = old.noted in
    let none = alone.1 in (
      record {
        forest = pushed_is_forest s.forest old.forest row.entry fits.entry;
        matched = omega (arith, l, k, m, none);
        termed = omega (arith, l, n, c);
        noted = omega (arith, l, o, d);
        tokens = λ i h. last_or_before (length s.secrets) i _ (omega (arith, h, k))
            (λ last. kind_new s.forest.entries row.entry kind.Token i (omega (arith, last, m, none)) is.kind)
            (λ before. kind_old s.forest.entries row.entry kind.Token i (omega (arith, before, m, none)) (old.tokens i before));
        leases = λ i past h. absurd (omega (arith, past, h, l, k, m, none));
        secrets_unlike = unlike_more s.secrets row.credential fits.fresh old.secrets_unlike;
        lease_ids_unlike = old.lease_ids_unlike;
        secrets_sendable = All-push IsSendableText s.secrets row.credential old.secrets_sendable is.sendable;
        lease_ids_sendable = old.lease_ids_sendable;
        good = good_more s.forest.entries s.terms row.entry row.terms c old.good is.good;
      },
      none,
    )

lease_sorted : (s : Intake) (row : TableRow) → IsRowOf kind.Lease row → Fits s.forest s.lease_ids row → Sorted s → Sorted (took_lease s row)
lease_sorted s row is fits old =
    let l = length_push s.forest.entries row.entry in
    let k = length_push s.lease_ids row.credential in
    let n = length_push s.terms row.terms in
    let o = length_push s.notes row.note in
    let m = old.matched in
    let c = old.termed in
    let d = old.noted in
    record {
      forest = pushed_is_forest s.forest old.forest row.entry fits.entry;
      matched = omega (arith, l, k, m);
      termed = omega (arith, l, n, c);
      noted = omega (arith, l, o, d);
      tokens = λ i h. kind_old s.forest.entries row.entry kind.Token i (omega (arith, h, m)) (old.tokens i h);
      leases = λ i past h. last_or_before (length s.forest.entries) i _ (omega (arith, h, l))
          (λ last. kind_new s.forest.entries row.entry kind.Lease i last is.kind)
          (λ before. kind_old s.forest.entries row.entry kind.Lease i before (old.leases i past before));
      secrets_unlike = old.secrets_unlike;
      lease_ids_unlike = unlike_more s.lease_ids row.credential fits.fresh old.lease_ids_unlike;
      secrets_sendable = old.secrets_sendable;
      lease_ids_sendable = All-push IsSendableText s.lease_ids row.credential old.lease_ids_sendable is.sendable;
      good = good_more s.forest.entries s.terms row.entry row.terms c old.good is.good;
    }

token_is : (l : Language) (system_max : ℕ) (g : Forest) (texts : List (List ℕ)) (ms : Members) (row : TableRow) → TokenParts l system_max g ms row → Fits g texts row → IsRowOf kind.Token row
token_is l system_max g texts ms row parts fits = record {
  kind = ap (λ (r : TableRow). r.entry.kind) (sym parts.made);
  sendable = token_sendable l system_max g ms row parts fits.entry;
  good = token_good l system_max g ms row parts;
}

lease_is : (l : Language) (system_max : ℕ) (g : Forest) (texts : List (List ℕ)) (ms : Members) (row : TableRow) → LeaseParts l system_max g ms row → Fits g texts row → IsRowOf kind.Lease row
lease_is l system_max g texts ms row parts fits = record {
  kind = ap (λ (r : TableRow). r.entry.kind) (sym parts.made);
  sendable = lease_sendable l system_max g ms row parts fits.entry;
  good = lease_good l system_max g ms row parts;
}

token_step : (l : Language) (system_max : ℕ) → KeepsIt TokensAlone (token_entered l system_max)
token_step l system_max s t ms m e =
    let taken = token_entered_ok l system_max s t ms e in
    let row = taken.0 in
    subst TokensAlone taken.3 (token_sorted s row (token_is l system_max s.forest s.secrets ms row (token_parts l system_max s.forest ms row taken.1) taken.2) taken.2 m)

lease_step : (l : Language) (system_max : ℕ) → KeepsIt Sorted (lease_entered l system_max)
lease_step l system_max s t ms m e =
    let taken = lease_entered_ok l system_max s t ms e in
    let row = taken.0 in
    subst Sorted taken.3 (lease_sorted s row (lease_is l system_max s.forest s.lease_ids ms row (lease_parts l system_max s.forest ms row taken.1) taken.2) taken.2 m)

none_sorted : (margin : ℕ) → Within 1 MARGIN_MAX margin → TokensAlone (empty_intake margin)
none_sorted margin within = (
  record {
    forest = empty_is_forest margin (omega (arith, within.0)) within.1;
    matched = refl;
    termed = refl;
    noted = refl;
    tokens = λ i h. absurd (omega (arith, h));
    leases = λ i past h. absurd (omega (arith, h));
    secrets_unlike = λ i j a b same. absurd (omega (arith, a));
    lease_ids_unlike = λ i j a b same. absurd (omega (arith, a));
    secrets_sendable = All-nil IsSendableText;
    lease_ids_sendable = All-nil IsSendableText;
    good = λ i h. absurd (omega (arith, h));
  },
  refl,
)

-- ---- an inventory

differ : (s : Intake) → Sorted s → (i j : ℕ) → i < length s.secrets → length s.secrets ≤ j → j < length s.forest.entries → (entry_at s.forest.entries i).kind ≡ (entry_at s.forest.entries j).kind → ⊥
differ s sorted i j a b c same =
    let both : kind.Token ≡ kind.Lease = sym (sorted.tokens i a) ∙ same ∙ sorted.leases j b c in cc

sorted_apart : (s : Intake) → Sorted s → CredentialsAreApart (inventory_of_intake s)
sorted_apart s sorted i j a b kinds same =
    let n = length s.secrets in
    let m = sorted.matched in
    ⊎_elim
    (λ ilow. ⊎_elim
    (λ jlow. sorted.secrets_unlike i j ilow jlow (first_half s.secrets s.lease_ids i ilow ∙ same ∙ sym (first_half s.secrets s.lease_ids j jlow)))
    (λ jhigh. absurd (differ s sorted i j ilow jhigh b kinds))
    (cases_lt j n))
    (λ ihigh. ⊎_elim
    (λ jlow. absurd (differ s sorted j i jlow ihigh a (sym kinds)))
    (λ jhigh.
    let one : i - n ≡ j - n = sorted.lease_ids_unlike (i - n) (j - n) (omega (arith, a, ihigh, m)) (omega (arith, b, jhigh, m))
    (second_half s.secrets s.lease_ids i ihigh ∙ same ∙ sym (second_half s.secrets s.lease_ids j jhigh)) in
    omega (arith, one, ihigh, jhigh))
    (cases_lt j n))
    (cases_lt i n)

sorted_is_inventory : (s : Intake) → Sorted s → IsInventory (inventory_of_intake s)
sorted_is_inventory s sorted = record {
  forest = sorted.forest;
  credentials = length-append s.secrets s.lease_ids ∙ sorted.matched;
  terms = sorted.termed;
  apart = sorted_apart s sorted;
  sendable = All-append IsSendableText s.secrets s.lease_ids sorted.secrets_sendable sorted.lease_ids_sendable;
  steps = λ i h. (sorted.good i h).0;
  step_is = λ i h. (sorted.good i h).1;
  ceiling_is = λ i h. (sorted.good i h).2;
}

pub intake_is_served : (l : Language) (ms : Members) (t : Intake) (has_margin : Bool) (most : Option ℕ) → intake_of l ms ≡ Ok t → IsServedInventory (record { inventory = inventory_of_intake t; notes = t.notes; has_margin = has_margin; system_max = most })
intake_is_served l ms t has_margin most e =
    let sorted = intake_keeps TokensAlone Sorted none_sorted (λ s alone. alone.0) l (token_step l) (lease_step l) ms t e in
    record { inventory = sorted_is_inventory t sorted; notes = sorted.noted }

served_of_is : (l : Language) (ms : Members) (v : Served) → served_of l ms ≡ Ok v → IsServedInventory v
unfolding served_of
served_of_is l ms v e =
    bind_ok (intake_of l ms) _ v e (λ t is e1.
    let same : ◌≡◌ {A = Served} (record { inventory = inventory_of_intake t; notes = t.notes; has_margin = is_key_there Margin ms; system_max = system_max_in ms }) v = cc in
    subst IsServedInventory same (intake_is_served l ms t (is_key_there Margin ms) (system_max_in ms) is))

pub served_law : ServedLaw
unfolding read_served
served_law bytes v e = bind_ok (document_tree bytes) _ v e (λ ms read e1. served_of_is full ms v e1)

-- an inventory that is read was read of what is served
pub whole_is : (bytes : List ℕ) (inventory : Inventory) → read_inventory bytes ≡ Ok inventory → (v : Served) × (read_served bytes ≡ Ok v) × (v.inventory ≡ inventory)
unfolding read_inventory inventory_if_whole
whole_is bytes inventory e = bind_ok (read_served bytes) _ inventory e (λ v read e1. (v, read, closed v.inventory (first_open 0 v.notes) e1))
  where
    closed : (i : Inventory) (o : Option InvFault) → unless i o ≡ Ok inventory → i ≡ inventory
    closed i None e = cc
    closed i (Some fault) e = absurd cc

pub inventory_law : InventoryLaw
inventory_law bytes inventory e = let whole = whole_is bytes inventory e in subst IsInventory whole.2 (served_law bytes whole.0 whole.1).inventory

pub sendable_law : SendableLaw
sendable_law bytes v e = (served_law bytes v e).inventory.sendable
