-- What is read at a place, and what a look-up finds among the rows that are listed: for the look-ups and the sweep.
use Rattle.std.proofs.Common.{◌≡◌, ℕ, zero, suc, ◌<◌, Bool, true, false, cond, ◌&&◌, List, [], ◌∷◌, nat_lt, IfSome, Option, Some, None, length, get_or, map, option_map, bytes_eq, refl, sym, ap, ◌∙◌, arith, ⊎_elim}
use Rattle.std.proofs.lemmas.{List.get_or_read, Bool.Decides.nat_tests, List.Folds.find_at, List.Quantifiers.position-Some, Option.slice_get-get_or, Option.slice_get_cases}
use Rattle.std.proofs.lemmas.Bool.{cond-true, cond-false, false_from_ne_true}
use Rattle.std.specs.Cmp.Lexicographic.{bytes_decides}
use Rattle.std.specs.List.{find, filter, position, position_or_len, slice_get}
use Rattle.broker_rule.specs.{declared.row.BrokerRow.BrokerRow, Rows.row_named}
use Rattle.broker_table.specs.declared.slot.Slot.{Slot}
use Rattle.broker_table.specs.Slots.{AreSlots, listed_rows, no_slot, relisted, slot_at}

-- what `&slots[i]` gives
pub slot_read : (slots : List Slot) (i : ℕ) (x : Slot) → i < length slots → x ≡ get_or slots i x → x ≡ slot_at slots i
unfolding slot_at
slot_read slots i x h e = get_or_read slots i x h e no_slot

pub ruleset reading = (slot_read)

pub none_listed : (f : BrokerRow → Bool) (slots : List Slot) → ((i : ℕ) → i < length slots → f (slot_at slots i).row ≡ false) → find f (listed_rows slots) ≡ None
unfolding listed_rows slot_at
none_listed f [] fails = refl
none_listed f (s ∷ slots) fails =
    let more : find f (listed_rows slots) ≡ None = none_listed f slots (λ i h. fails (suc i) (omega arith)) in
    elim s.listed as (λ b. find f (cond b (s.row ∷ listed_rows slots) (listed_rows slots)) ≡ None) [
      | true ↦ cond-false (f s.row) (Some s.row) (find f (listed_rows slots)) (fails zero (omega arith)) ∙ more
      | false ↦ more
    ]

skipped : (f : BrokerRow → Bool) (s : Slot) (slots : List Slot) → f s.row ≡ false → find f (listed_rows (s ∷ slots)) ≡ find f (listed_rows slots)
unfolding listed_rows
skipped f s slots fails =
    elim s.listed as (λ b. find f (cond b (s.row ∷ listed_rows slots) (listed_rows slots)) ≡ find f (listed_rows slots)) [
      | true ↦ cond-false (f s.row) (Some s.row) (find f (listed_rows slots)) fails
      | false ↦ refl
    ]

-- where one slot alone passes, its row is found if it is listed, and else none
pub found_listed :
    (f : BrokerRow → Bool) (slots : List Slot) (p : ℕ) → p < length slots → f (slot_at slots p).row ≡ true →
    ((i : ℕ) → i < length slots → f (slot_at slots i).row ≡ true → i ≡ p) →
    find f (listed_rows slots) ≡ cond (slot_at slots p).listed (Some (slot_at slots p).row) None
unfolding listed_rows slot_at
found_listed f [] p h pass lone = absurd (omega arith)
found_listed f (s ∷ slots) zero h pass lone =
    elim s.listed as (λ b. find f (cond b (s.row ∷ listed_rows slots) (listed_rows slots)) ≡ cond b (Some s.row) None) [
      | true ↦ cond-true (f s.row) (Some s.row) (find f (listed_rows slots)) pass
      | false ↦ none_listed f slots (λ i within. false_from_ne_true (f (slot_at slots i).row) (λ passes. absurd (let e : suc i ≡ 0 = lone (suc i) (omega arith) passes in omega arith)))
    ]
found_listed f (s ∷ slots) (suc p) h pass lone =
    let other : f s.row ≡ false = false_from_ne_true (f s.row) (λ passes. absurd (let e : 0 ≡ suc p = lone 0 (omega arith) passes in omega arith)) in
    skipped f s slots other
    ∙ found_listed f slots p (omega arith) pass (λ i within other_pass. let e : suc i ≡ suc p = lone (suc i) (omega arith) other_pass in omega arith)

-- the first slot that is listed and passes has the first row that passes
pub found_first : (f : BrokerRow → Bool) (slots : List Slot) → option_map (λ (s : Slot). s.row) (find (λ (s : Slot). s.listed && f s.row) slots) ≡ find f (listed_rows slots)
unfolding listed_rows
found_first f [] = refl
found_first f (s ∷ slots) =
    let more = found_first f slots in
    let rest : Option Slot = find (λ (u : Slot). u.listed && f u.row) slots in
    elim s.listed as (λ b. option_map (λ (u : Slot). u.row) (cond (b && f s.row) (Some s) rest) ≡ find f (cond b (s.row ∷ listed_rows slots) (listed_rows slots))) [
      | true ↦ elim (f s.row) as (λ c. option_map (λ (u : Slot). u.row) (cond c (Some s) rest) ≡ cond c (Some s.row) (find f (listed_rows slots))) [ true ↦ refl | false ↦ more ]
      | false ↦ more
    ]

-- the rows of the slots that stay listed are those rows that pass
pub listed_passing : (f : BrokerRow → Bool) (slots : List Slot) → listed_rows (map (relisted f) slots) ≡ filter f (listed_rows slots)
unfolding listed_rows relisted
listed_passing f [] = refl
listed_passing f (s ∷ slots) =
    let more = listed_passing f slots in
    elim s.listed as (λ b. cond (b && f s.row) (s.row ∷ listed_rows (map (relisted f) slots)) (listed_rows (map (relisted f) slots)) ≡ filter f (cond b (s.row ∷ listed_rows slots) (listed_rows slots))) [
      | true ↦ ap (λ rows. cond (f s.row) (s.row ∷ rows) rows) more
      | false ↦ more
    ]

-- the row of a slot's name is that slot's, if it is listed
pub named_listed :
    (slots : List Slot) → AreSlots slots → (p : ℕ) → p < length slots →
    row_named (listed_rows slots) (slot_at slots p).row.name ≡ cond (slot_at slots p).listed (Some (slot_at slots p).row) None
unfolding row_named
named_listed slots sound p h =
    let name = (slot_at slots p).row.name in
    found_listed (λ r. bytes_eq r.name name) slots p h ((bytes_decides name name).1 refl)
    (λ i within same. sound.apart i p within h ((bytes_decides (slot_at slots i).row.name name).0 same))

found_at : {X Y : Type 0} (get : X → Y) (b : Bool) (n : ℕ) (xs : List X) (d : X) → b ≡ nat_lt n (length xs) → option_map (λ i. get (get_or xs i d)) (cond b (Some n) None) ≡ option_map get (slice_get xs n)
found_at get true n xs d e = ap (option_map get) (sym (slice_get-get_or xs n d (let t : nat_lt n (length xs) ≡ true = sym e in grind (arith, nat_tests))))
found_at get false n xs d e =
    ⊎_elim
    (λ here. absurd (let t : nat_lt n (length xs) ≡ false = sym e in let within : n < length xs = here.1 in grind (arith, nat_tests)))
    (λ past. ap (option_map get) (sym past.1))
    (slice_get_cases xs n).1

-- what is at the first place that passes is the first that passes
at_position : {X Y : Type 0} (get : X → Y) (test : X → Bool) (xs : List X) (d : X) → option_map (λ i. get (get_or xs i d)) (position test xs) ≡ option_map get (find test xs)
at_position get test xs d = found_at get (nat_lt (position_or_len test xs) (length xs)) (position_or_len test xs) xs d refl ∙ ap (option_map get) (sym (find_at test xs))

-- the first place that is listed and passes has the first row that passes
pub place_found : (f : BrokerRow → Bool) (slots : List Slot) → option_map (λ i. (slot_at slots i).row) (position (λ (s : Slot). s.listed && f s.row) slots) ≡ find f (listed_rows slots)
unfolding slot_at
place_found f slots = at_position (λ (s : Slot). s.row) (λ (s : Slot). s.listed && f s.row) slots no_slot ∙ found_first f slots

and_first : (a b : Bool) → a && b ≡ true → a ≡ true
and_first true b e = refl
and_first false b e = e

pub place_within : (f : BrokerRow → Bool) (slots : List Slot) (o : Option ℕ) → o ≡ position (λ (s : Slot). s.listed && f s.row) slots → IfSome o (λ i. (i < length slots) × ((slot_at slots i).listed ≡ true))
unfolding slot_at
place_within f slots None e = tt
place_within f slots (Some i) e =
    let there = position-Some (λ (s : Slot). s.listed && f s.row) slots i no_slot (sym e) in
    (there.0, and_first (get_or slots i no_slot).listed (f (get_or slots i no_slot).row) there.1)

pub ruleset places = (place_found, place_within)
