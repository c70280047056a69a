-- What the slots of a table keep between two sweeps: with it a sweep before the soonest end does nothing; a sweep, a renewal
-- and an inventory give it.
use Rattle.std.proofs.Common.{◌≡◌, ℕ, zero, suc, ◌+◌, ◌<◌, ◌≤◌, ◌-◌, ◌^◌, min, Bool, true, false, ◌&&◌, List, [], ◌∷◌, Option, Some, None, length, get_or, map, set, nat_lt, refl, sym, ap, ◌∙◌, subst, arith, inl, inr}
use Rattle.std.proofs.lemmas.Bool.Decides.{nat_tests}
use Rattle.std.proofs.lemmas.Bool.{and_from, cases_eq, cond-true}
use Rattle.std.proofs.lemmas.List.{get_or-map, get_or-set_same, get_or-set_other, length-map, length-set}
use Rattle.std.proofs.Math.Nat.{min-le_left, min-le_right}
use Rattle.plan_forest.proofs.Carrying.{and_right}
use Rattle.vault_inventory.specs.Inventories.{Inventory}
use Rattle.broker_rule.specs.{declared.row.BrokerRow.BrokerRow, Sweep.lives}
use Rattle.broker_table.specs.declared.slot.Slot.{Slot}
use Rattle.broker_table.specs.Slots.{AreKept, AreSlots, EndFrom, end_in_slot, is_listed, listed_rows, no_slot, relisted, slot_at, slot_of, slots_of, swept_slots}
use Rattle.broker_table.proofs.Loaded.{count_of_slots, slot_of_place}
use Rattle.broker_table.proofs.Living.{lives_step, over_below, over_passes, swept_sound}
use Rattle.broker_table.proofs.Replaced.{ended, ended_sound, kept_field}

-- ---- before the soonest end

later : (t soonest end : ℕ) → t < soonest → soonest ≤ end → nat_lt t end ≡ true
later t soonest end before from = grind (arith, nat_tests)

over_all :
    (test : BrokerRow → Bool) (slots : List Slot) (over : Option ℕ) → is_listed slots over ≡ true →
    ((p : ℕ) → over ≡ Some p → (slot_at slots p).listed ≡ true → test (slot_at slots p).row ≡ true) → over_passes test slots over ≡ true
unfolding over_passes
over_all test slots None listed passes = refl
over_all test slots (Some p) listed passes = and_from (slot_at slots p).listed (test (slot_at slots p).row) listed (passes p refl listed)

-- each listed slot lives, with those over it
lives_before :
    (soonest t : ℕ) (slots : List Slot) → AreKept soonest slots → t < soonest → (n i : ℕ) → i < n → i < length slots → (slot_at slots i).listed ≡ true →
    lives (listed_rows slots) t (slot_at slots i).row ≡ true
lives_before soonest t slots kept before zero i less h listed = absurd (omega arith)
lives_before soonest t slots kept before (suc n) i less h listed =
    let s = slot_at slots i in
    let test = lives (listed_rows slots) t in
    lives_step slots kept.sound t i h
    ∙ and_from (nat_lt t s.row.end) (over_passes test slots s.over) (later t soonest s.row.end before (kept.ends i h listed))
    (over_all test slots s.over (kept.over i h listed) (λ p e over.
    let below : p < i = over_below slots i s.over s.row.parent (kept.sound.tied i h) p e in
    lives_before soonest t slots kept before n p (omega arith) (omega arith) over))

and_same : (a b : Bool) → (a ≡ true → b ≡ true) → a && b ≡ a
and_same true b follows = follows refl
and_same false b follows = refl

all_same : (f : Slot → Slot) (slots : List Slot) → ((i : ℕ) → i < length slots → f (slot_at slots i) ≡ slot_at slots i) → map f slots ≡ slots
unfolding slot_at
all_same f [] same = refl
all_same f (s ∷ slots) same = ap (λ u. u ∷ map f slots) (same 0 (omega arith)) ∙ ap (λ us. s ∷ us) (all_same f slots (λ i h. same (suc i) (omega arith)))

-- a sweep changes nothing
pub swept_before : (soonest t : ℕ) (slots : List Slot) → AreKept soonest slots → t < soonest → swept_slots t slots ≡ slots
unfolding swept_slots relisted
swept_before soonest t slots kept before =
    let test = lives (listed_rows slots) t in
    all_same (relisted test) slots (λ i h.
    let s = slot_at slots i in
    ap (λ b. record s { listed = b }) (and_same s.listed (test s.row) (λ listed. lives_before soonest t slots kept before (suc i) i (omega arith) h listed)))

-- ---- one pass over the slots

pub ends_first : (soonest : ℕ) (slots : List Slot) → EndFrom soonest 0 slots
ends_first soonest slots i h = absurd (omega arith)

end_listed : (s : Slot) → s.listed ≡ true → end_in_slot s ≡ s.row.end
unfolding end_in_slot
end_listed s listed = cond-true s.listed s.row.end (2 ^ 64 - 1) listed

-- one slot more is judged
pub ends_more :
    (slots now : List Slot) (at soonest : ℕ) (s : Slot) → at < length slots → now ≡ set slots at s → EndFrom soonest at slots →
    EndFrom (min soonest (end_in_slot (slot_at now at))) (at + 1) now
unfolding slot_at
ends_more slots now at soonest s h is ends i less listed =
    let left = min-le_left soonest (end_in_slot (slot_at now at)) in
    let right = min-le_right soonest (end_in_slot (slot_at now at)) in
    elim (cases_eq i at) [
      | inl here ↦ (
          let same : end_in_slot (slot_at now at) ≡ (slot_at now i).row.end = ap (λ n. end_in_slot (slot_at now n)) (sym here) ∙ end_listed (slot_at now i) listed in
          omega arith
          )
      | inr there ↦ (
          let same : slot_at now i ≡ slot_at slots i = ap (λ us. get_or us i no_slot) is ∙ get_or-set_other slots at i s no_slot there in
          let before : i < at = omega arith in
          let end = ends i before (ap (λ (u : Slot). u.listed) (sym same) ∙ listed) in
          let ends_same : (slot_at now i).row.end ≡ (slot_at slots i).row.end = ap (λ (u : Slot). u.row.end) same in
          omega arith
          )
    ]

swept_at : (slots : List Slot) (t i : ℕ) → i < length slots → slot_at (swept_slots t slots) i ≡ relisted (lives (listed_rows slots) t) (slot_at slots i)
unfolding swept_slots slot_at
swept_at slots t i h = get_or-map (relisted (lives (listed_rows slots) t)) slots i no_slot no_slot h

over_swept : (slots : List Slot) (t : ℕ) (over : Option ℕ) → ((p : ℕ) → over ≡ Some p → p < length slots) → is_listed (swept_slots t slots) over ≡ over_passes (lives (listed_rows slots) t) slots over
unfolding over_passes relisted
over_swept slots t None within = refl
over_swept slots t (Some p) within = ap (λ (u : Slot). u.listed) (swept_at slots t p (within p refl))

count_swept : (slots : List Slot) (t : ℕ) → length (swept_slots t slots) ≡ length slots
unfolding swept_slots
count_swept slots t = length-map slots (relisted (lives (listed_rows slots) t))

over_kept :
    (slots : List Slot) → AreSlots slots → (t i : ℕ) → i < length slots → (slot_at (swept_slots t slots) i).listed ≡ true → is_listed (swept_slots t slots) (slot_at (swept_slots t slots) i).over ≡ true
unfolding relisted
over_kept slots sound t i h listed =
    let s = slot_at slots i in
    let test = lives (listed_rows slots) t in
    let same = swept_at slots t i h in
    let lives_now : test s.row ≡ true = and_right s.listed (test s.row) (ap (λ (u : Slot). u.listed) (sym same) ∙ listed) in
    ap (λ (u : Slot). is_listed (swept_slots t slots) u.over) same
    ∙ over_swept slots t s.over (λ p e. let below : p < i = over_below slots i s.over s.row.parent (sound.tied i h) p e in omega arith)
    ∙ and_right (nat_lt t s.row.end) (over_passes test slots s.over) (sym (lives_step slots sound t i h) ∙ lives_now)

-- what a sweep leaves
pub swept_kept : (slots : List Slot) → AreSlots slots → (t soonest : ℕ) → EndFrom soonest (length (swept_slots t slots)) (swept_slots t slots) → AreKept soonest (swept_slots t slots)
swept_kept slots sound t soonest ends =
    let count = count_swept slots t in
    record { sound = swept_sound slots t sound; ends = ends; over = λ i h listed. over_kept slots sound t i (omega arith) listed }

-- ---- another end

same_listed : (slots : List Slot) (p end : ℕ) → p < length slots → (over : Option ℕ) → is_listed (ended slots p end) over ≡ is_listed slots over
same_listed slots p end h None = refl
same_listed slots p end h (Some q) = kept_field (λ s. s.listed) slots p end q h (λ s e. refl)

ends_ended : (slots : List Slot) (soonest p end : ℕ) → p < length slots → EndFrom soonest (length slots) slots → EndFrom (min soonest end) (length slots) (ended slots p end)
unfolding slot_at
ends_ended slots soonest p end h ends i within listed =
    let new : Slot = record (slot_at slots p) { row = record (slot_at slots p).row { end = end } } in
    let left = min-le_left soonest end in
    let right = min-le_right soonest end in
    elim (cases_eq i p) [
      | inl here ↦ (
          let same : (slot_at (ended slots p end) i).row.end ≡ end = ap (λ n. (slot_at (ended slots p end) n).row.end) here ∙ ap (λ (u : Slot). u.row.end) (get_or-set_same slots p new no_slot h) in
          omega arith
          )
      | inr there ↦ (
          let same : slot_at (ended slots p end) i ≡ slot_at slots i = get_or-set_other slots p i new no_slot there in
          let old = ends i within (ap (λ (u : Slot). u.listed) (sym same) ∙ listed) in
          let same_end : (slot_at (ended slots p end) i).row.end ≡ (slot_at slots i).row.end = ap (λ (u : Slot). u.row.end) same in
          omega arith
          )
    ]

pub ended_kept : (soonest : ℕ) (slots : List Slot) → AreKept soonest slots → (p end : ℕ) → p < length slots → AreKept (min soonest end) (ended slots p end)
ended_kept soonest slots kept p end h =
    let count : length (ended slots p end) ≡ length slots = length-set slots p (record (slot_at slots p) { row = record (slot_at slots p).row { end = end } }) in
    record {
      sound = ended_sound slots kept.sound p end h;
      ends = subst (λ n. EndFrom (min soonest end) n (ended slots p end)) (sym count) (ends_ended slots soonest p end h kept.ends);
      over = λ i within listed.
          ap (is_listed (ended slots p end)) (kept_field (λ s. s.over) slots p end i h (λ s e. refl))
          ∙ same_listed slots p end h (slot_at slots i).over
          ∙ kept.over i (omega arith) (sym (kept_field (λ s. s.listed) slots p end i h (λ s e. refl)) ∙ listed);
    }

-- ---- an inventory

all_listed : (s : Inventory) (over : Option ℕ) → ((p : ℕ) → over ≡ Some p → p < length s.forest.entries) → is_listed (slots_of s) over ≡ true
unfolding slot_of
all_listed s None within = refl
all_listed s (Some p) within = ap (λ (u : Slot). u.listed) (slot_of_place s p (within p refl))

kept_of : (s : Inventory) → AreSlots (slots_of s) → AreKept 0 (slots_of s)
kept_of s sound =
    let count = count_of_slots s in
    record {
      sound = sound;
      ends = λ i h listed. omega arith;
      over = λ i h listed.
          let u = slot_at (slots_of s) i in
          all_listed s u.over (λ p e. let below : p < i = over_below (slots_of s) i u.over u.row.parent (sound.tied i h) p e in omega arith);
    }

pub loaded_kept : (s : Inventory) (slots : List Slot) → slots ≡ slots_of s → AreSlots slots → AreKept 0 slots
loaded_kept s slots is sound = subst (AreKept 0) (sym is) (kept_of s (subst AreSlots is sound))
