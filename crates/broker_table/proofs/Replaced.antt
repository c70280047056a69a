-- A row with another end in its place is that row replaced in the list of rows: for the renewals.
use Rattle.std.proofs.Common.{◌≡◌, ℕ, zero, suc, ◌<◌, Bool, true, false, cond, List, [], ◌∷◌, length, get_or, map, set, bytes_eq, refl, sym, ap, ◌∙◌, subst, arith, inl, inr}
use Rattle.std.proofs.lemmas.Bool.{cases_eq, cond-true, cond-false, false_from_ne_true}
use Rattle.std.proofs.lemmas.List.{get_or-set_same, get_or-set_other, length-set}
use Rattle.std.specs.Cmp.Lexicographic.{bytes_decides}
use Rattle.broker_rule.specs.{declared.row.BrokerRow.BrokerRow, Renewing.with_row}
use Rattle.broker_table.specs.declared.slot.Slot.{Slot}
use Rattle.broker_table.specs.Slots.{AreSlots, listed_rows, no_slot, slot_at}
use Rattle.broker_table.proofs.Living.{like_sound}

abbrev instead : (BrokerRow → Bool) → BrokerRow → BrokerRow → BrokerRow
instead f new r = cond (f r) new r

untouched : (f : BrokerRow → Bool) (new : BrokerRow) (slots : List Slot) → ((i : ℕ) → i < length slots → f (slot_at slots i).row ≡ false) → listed_rows slots ≡ map (instead f new) (listed_rows slots)
unfolding listed_rows slot_at
untouched f new [] fails = refl
untouched f new (s ∷ slots) fails =
    let more = untouched f new slots (λ i h. fails (suc i) (omega arith)) in
    elim s.listed as (λ b. cond b (s.row ∷ listed_rows slots) (listed_rows slots) ≡ map (instead f new) (cond b (s.row ∷ listed_rows slots) (listed_rows slots))) [
      | true ↦ ap (λ rows. s.row ∷ rows) more ∙ ap (λ r. r ∷ map (instead f new) (listed_rows slots)) (sym (cond-false (f s.row) new s.row (fails zero (omega arith))))
      | false ↦ more
    ]

-- where one slot alone passes
replaced :
    (f : BrokerRow → Bool) (new : BrokerRow) (slots : List Slot) (p : ℕ) → p < length slots → f (slot_at slots p).row ≡ true →
    ((i : ℕ) → i < length slots → f (slot_at slots i).row ≡ true → i ≡ p) →
    listed_rows (set slots p (record (slot_at slots p) { row = new })) ≡ map (instead f new) (listed_rows slots)
unfolding listed_rows slot_at
replaced f new [] p h pass lone = absurd (omega arith)
replaced f new (s ∷ slots) zero h pass lone =
    let more = untouched f new slots (λ i within. false_from_ne_true (f (slot_at slots i).row) (λ passes. absurd (let e : suc i ≡ 0 = lone (suc i) (omega arith) passes in omega arith))) in
    elim s.listed as (λ b. cond b (new ∷ listed_rows slots) (listed_rows slots) ≡ map (instead f new) (cond b (s.row ∷ listed_rows slots) (listed_rows slots))) [
      | true ↦ ap (λ rows. new ∷ rows) more ∙ ap (λ r. r ∷ map (instead f new) (listed_rows slots)) (sym (cond-true (f s.row) new s.row pass))
      | false ↦ more
    ]
replaced f new (s ∷ slots) (suc p) h pass lone =
    let other : f s.row ≡ false = false_from_ne_true (f s.row) (λ passes. absurd (let e : 0 ≡ suc p = lone 0 (omega arith) passes in omega arith)) in
    let more = replaced f new slots p (omega arith) pass (λ i within other_pass. let e : suc i ≡ suc p = lone (suc i) (omega arith) other_pass in omega arith) in
    let set_slots = set slots p (record (slot_at slots p) { row = new }) in
    elim s.listed as (λ b. cond b (s.row ∷ listed_rows set_slots) (listed_rows set_slots) ≡ map (instead f new) (cond b (s.row ∷ listed_rows slots) (listed_rows slots))) [
      | true ↦ ap (λ rows. s.row ∷ rows) more ∙ ap (λ r. r ∷ map (instead f new) (listed_rows slots)) (sym (cond-false (f s.row) new s.row other))
      | false ↦ more
    ]

-- the slots with another end in one place
abbrev pub ended : List Slot → ℕ → ℕ → List Slot
ended slots p end = set slots p (record (slot_at slots p) { row = record (slot_at slots p).row { end = end } })

pub ended_rows : (slots : List Slot) → AreSlots slots → (p end : ℕ) → p < length slots → listed_rows (ended slots p end) ≡ with_row (listed_rows slots) (record (slot_at slots p).row { end = end })
unfolding with_row
ended_rows slots sound p end h =
    let name = (slot_at slots p).row.name in
    replaced (λ r. bytes_eq r.name name) (record (slot_at slots p).row { end = end }) slots p h ((bytes_decides name name).1 refl)
    (λ i within same. sound.apart i p within h ((bytes_decides (slot_at slots i).row.name name).0 same))

pub kept_field : {X : Type 0} (field : Slot → X) (slots : List Slot) (p end i : ℕ) → p < length slots → ((s : Slot) (e : ℕ) → field (record s { row = record s.row { end = e } }) ≡ field s) → field (slot_at (ended slots p end) i) ≡ field (slot_at slots i)
unfolding slot_at
kept_field field slots p end i h keeps =
    let new : Slot = record (slot_at slots p) { row = record (slot_at slots p).row { end = end } } in
    elim (cases_eq i p) [
      | inl here ↦ subst (λ n. field (get_or (set slots p new) n no_slot) ≡ field (get_or slots n no_slot)) (sym here) (ap field (get_or-set_same slots p new no_slot h) ∙ keeps (slot_at slots p) end)
      | inr there ↦ ap field (get_or-set_other slots p i new no_slot there)
    ]

pub ended_sound : (slots : List Slot) → AreSlots slots → (p end : ℕ) → p < length slots → AreSlots (ended slots p end)
ended_sound slots sound p end h =
    like_sound slots (ended slots p end) sound (length-set slots p (record (slot_at slots p) { row = record (slot_at slots p).row { end = end } }))
    (λ i within. (
      kept_field (λ s. s.row.name) slots p end i h (λ s e. refl),
      kept_field (λ s. s.over) slots p end i h (λ s e. refl),
      kept_field (λ s. s.row.parent) slots p end i h (λ s e. refl),
    ))
