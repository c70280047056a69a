-- Which slots live at a moment, step by step up the tree, and what one pass over the slots therefore does: for the sweep.
use Rattle.std.proofs.Common.{◌≡◌, ℕ, zero, suc, ◌+◌, ◌<◌, ◌≤◌, ◌-◌, Bool, true, false, cond, ◌&&◌, List, ◌++◌, Option, Some, None, IfSome, length, get_or, map, take, drop, set, nat_lt, refl, sym, ap, ◌∙◌, subst, arith}
use Rattle.std.proofs.lemmas.List.{drop_all, get_or-append_right, get_or_append_left, get_or-drop, get_or-map, get_or-take, get_or_default, append-nil, length-append, length-drop, length-map, length-take-le, take_all}
use Rattle.std.proofs.lemmas.List.Edits.{map_over_more}
use Rattle.plan_forest.specs.declared.forest.TheConstants.{MAX_ENTRIES}
use Rattle.broker_rule.specs.declared.row.BrokerRow.{BrokerRow}
use Rattle.broker_rule.specs.Sweep.{lives, lives_of, parent_passes, passes, swept}
use Rattle.broker_table.specs.declared.slot.Slot.{Slot}
use Rattle.broker_table.specs.Slots.{AreSlots, IsTied, is_listed, listed_rows, no_slot, relisted, slot_at, stands, swept_slots}
use Rattle.broker_table.proofs.Listed.{listed_passing, named_listed}

-- the slot over another, where there is one, is listed and its row passes
unfoldable pub over_passes : (BrokerRow → Bool) → List Slot → Option ℕ → Bool
over_passes test slots None = true
over_passes test slots (Some p) = (slot_at slots p).listed && test (slot_at slots p).row

passes_cond : (test : BrokerRow → Bool) (b : Bool) (r : BrokerRow) → passes test (cond b (Some r) None) ≡ b && test r
passes_cond test true r = refl
passes_cond test false r = refl

-- the parent of a row that is listed by name is the one of its place
by_place :
    (test : BrokerRow → Bool) (slots : List Slot) → AreSlots slots → (i : ℕ) → i < length slots → (over : Option ℕ) (parent : Option (List ℕ)) → IsTied slots i over parent →
    parent_passes test (listed_rows slots) parent ≡ over_passes test slots over
unfolding over_passes
by_place test slots sound i h None parent tied = ap (parent_passes test (listed_rows slots)) tied
by_place test slots sound i h (Some p) parent tied =
    ap (parent_passes test (listed_rows slots)) tied.1
    ∙ ap (passes test) (named_listed slots sound p (let below : p < i = tied.0 in omega arith))
    ∙ passes_cond test (slot_at slots p).listed (slot_at slots p).row

pub over_below : (slots : List Slot) (i : ℕ) (over : Option ℕ) (parent : Option (List ℕ)) → IsTied slots i over parent → (p : ℕ) → over ≡ Some p → p < i
over_below slots i None parent tied p e = absurd cc
over_below slots i (Some q) parent tied p e = let same : q ≡ p = cc in let below : q < i = tied.0 in omega arith

same_over : (f g : BrokerRow → Bool) (slots : List Slot) (over : Option ℕ) → ((p : ℕ) → over ≡ Some p → f (slot_at slots p).row ≡ g (slot_at slots p).row) → over_passes f slots over ≡ over_passes g slots over
unfolding over_passes
same_over f g slots None same = refl
same_over f g slots (Some p) same = ap (λ b. (slot_at slots p).listed && b) (same p refl)

-- more rows than stand in front of a slot are enough to judge it
enough :
    (slots : List Slot) → AreSlots slots → (t n m i : ℕ) → i < length slots → i < n → i < m →
    lives_of n (listed_rows slots) t (slot_at slots i).row ≡ lives_of m (listed_rows slots) t (slot_at slots i).row
unfolding lives_of
enough slots sound t zero m i h less more = absurd (omega arith)
enough slots sound t (suc n) zero i h less more = absurd (omega arith)
enough slots sound t (suc n) (suc m) i h less more =
    let rows = listed_rows slots in
    let s = slot_at slots i in
    ap (λ b. nat_lt t s.row.end && b)
    (by_place (lives_of n rows t) slots sound i h s.over s.row.parent (sound.tied i h)
    ∙ same_over (lives_of n rows t) (lives_of m rows t) slots s.over (λ p e.
    let below : p < i = over_below slots i s.over s.row.parent (sound.tied i h) p e in
    enough slots sound t n m p (omega arith) (omega arith) (omega arith))
    ∙ sym (by_place (lives_of m rows t) slots sound i h s.over s.row.parent (sound.tied i h)))

step_of :
    (slots : List Slot) → AreSlots slots → (t n i : ℕ) → i < length slots → i < n →
    lives_of n (listed_rows slots) t (slot_at slots i).row ≡ nat_lt t (slot_at slots i).row.end && over_passes (lives_of n (listed_rows slots) t) slots (slot_at slots i).over
unfolding lives_of
step_of slots sound t n i h less =
    let rows = listed_rows slots in
    let s = slot_at slots i in
    enough slots sound t n (suc n) i h less (omega arith)
    ∙ ap (λ b. nat_lt t s.row.end && b) (by_place (lives_of n rows t) slots sound i h s.over s.row.parent (sound.tied i h))

-- a slot lives where its end is after t, and the slot over it, if there is one, is listed and lives
pub lives_step :
    (slots : List Slot) → AreSlots slots → (t i : ℕ) → i < length slots →
    lives (listed_rows slots) t (slot_at slots i).row ≡ nat_lt t (slot_at slots i).row.end && over_passes (lives (listed_rows slots) t) slots (slot_at slots i).over
unfolding lives
lives_step slots sound t i h = step_of slots sound t MAX_ENTRIES i h (let few = sound.few in omega arith)

-- ---- one pass over the slots

abbrev passing : List Slot → ℕ → Slot → Slot
passing slots t = relisted (lives (listed_rows slots) t)

-- the slots of which the first k were judged
abbrev pub Judged : List Slot → ℕ → ℕ → List Slot → Type 0
Judged slots t k now = now ≡ map (relisted (lives (listed_rows slots) t)) (take k slots) ++ drop k slots

pub judged_length : (slots : List Slot) (t k : ℕ) (now : List Slot) → k ≤ length slots → Judged slots t k now → length now ≡ length slots
judged_length slots t k now h is =
    ap length is ∙ length-append (map (passing slots t) (take k slots)) (drop k slots)
    ∙ (let a = length-map (take k slots) (passing slots t) in let b = length-take-le k slots h in let c = length-drop k slots in omega arith)

not_judged : (slots : List Slot) (t k : ℕ) (now : List Slot) → k < length slots → Judged slots t k now → slot_at now k ≡ slot_at slots k
unfolding slot_at
not_judged slots t k now h is =
    let first = map (passing slots t) (take k slots) in
    let count : length first ≡ k = length-map (take k slots) (passing slots t) ∙ length-take-le k slots (omega arith) in
    ap (λ us. get_or us k no_slot) is
    ∙ get_or-append_right first (drop k slots) k k no_slot count (omega arith)
    ∙ ap (λ n. get_or (drop k slots) n no_slot) (let z : k - k ≡ 0 = omega arith in z)
    ∙ get_or-drop k slots 0 no_slot
    ∙ ap (λ n. get_or slots n no_slot) (let z : k + 0 ≡ k = omega arith in z)

was_judged : (slots : List Slot) (t k : ℕ) (now : List Slot) → k ≤ length slots → Judged slots t k now → (p : ℕ) → p < k → slot_at now p ≡ relisted (lives (listed_rows slots) t) (slot_at slots p)
unfolding slot_at
was_judged slots t k now h is p below =
    let first = map (passing slots t) (take k slots) in
    let taken : length (take k slots) ≡ k = length-take-le k slots h in
    let count : length first ≡ k = length-map (take k slots) (passing slots t) ∙ taken in
    ap (λ us. get_or us p no_slot) is
    ∙ get_or_append_left first (drop k slots) no_slot p (omega arith)
    ∙ get_or-map (passing slots t) (take k slots) p no_slot no_slot (omega arith)
    ∙ ap (passing slots t) (get_or-take k slots p no_slot below)

some_within : (slots : List Slot) (i n : ℕ) (over : Option ℕ) (parent : Option (List ℕ)) → IsTied slots i over parent → i < n → IfSome over (λ p. p < n)
some_within slots i n None parent tied h = tt
some_within slots i n (Some p) parent tied h = let below : p < i = tied.0 in omega arith

-- what judging a slot asks
pub over_within : (slots : List Slot) → AreSlots slots → (t k : ℕ) (now : List Slot) → k < length slots → Judged slots t k now → IfSome (slot_at now k).over (λ p. p < length now)
over_within slots sound t k now h is =
    let same = not_judged slots t k now h is in
    let s = slot_at slots k in
    let count = judged_length slots t k now (omega arith) is in
    subst (λ (u : Slot). IfSome u.over (λ p. p < length now)) (sym same) (some_within slots k (length now) s.over s.row.parent (sound.tied k h) (omega arith))

over_judged :
    (slots : List Slot) (t k : ℕ) (now : List Slot) → k ≤ length slots → Judged slots t k now → (over : Option ℕ) → ((p : ℕ) → over ≡ Some p → p < k) →
    is_listed now over ≡ over_passes (lives (listed_rows slots) t) slots over
unfolding over_passes relisted
over_judged slots t k now h is None below = refl
over_judged slots t k now h is (Some p) below = ap (λ (u : Slot). u.listed) (was_judged slots t k now h is p (below p refl))

and_and : (a b c d : Bool) → d ≡ b && c → a && b && c ≡ a && d
and_and true b c d e = sym e
and_and false b c d e = refl

judgement :
    (slots : List Slot) → AreSlots slots → (t k : ℕ) (now : List Slot) → k < length slots → Judged slots t k now →
    stands now t (slot_at slots k) ≡ (slot_at slots k).listed && lives (listed_rows slots) t (slot_at slots k).row
unfolding stands
judgement slots sound t k now h is =
    let s = slot_at slots k in
    let over = over_judged slots t k now (omega arith) is s.over (over_below slots k s.over s.row.parent (sound.tied k h)) in
    and_and s.listed (nat_lt t s.row.end) (is_listed now s.over) (lives (listed_rows slots) t s.row)
    (lives_step slots sound t k h ∙ ap (λ b. nat_lt t s.row.end && b) (sym over))

-- one slot more is judged
pub judged_more :
    (slots : List Slot) → AreSlots slots → (t k : ℕ) (now next : List Slot) → k < length slots → Judged slots t k now →
    next ≡ set now k (record (slot_at now k) { listed = stands now t (slot_at now k) }) → Judged slots t (k + 1) next
unfolding relisted slot_at
judged_more slots sound t k now next h is e =
    let same = not_judged slots t k now h is in
    let value : record (slot_at now k) { listed = stands now t (slot_at now k) } ≡ passing slots t (slot_at now k) =
    ap (λ b. record (slot_at now k) { listed = b })
    (ap (λ u. stands now t u) same ∙ judgement slots sound t k now h is ∙ ap (λ (u : Slot). u.listed && lives (listed_rows slots) t u.row) (sym same)) in
    let there : slot_at now k ≡ get_or now k (slot_at now k) = get_or_default now k no_slot (slot_at now k) (let count = judged_length slots t k now (omega arith) is in omega arith) in
    e ∙ ap (λ u. set now k u) value ∙ map_over_more (passing slots t) slots now k (slot_at now k) h is there

-- all slots are judged
pub judged_all : (slots : List Slot) (t k : ℕ) (now : List Slot) → k ≡ length slots → Judged slots t k now → now ≡ swept_slots t slots
unfolding swept_slots
judged_all slots t k now whole is =
    is ∙ ap (λ n. map (passing slots t) (take n slots) ++ drop n slots) whole
    ∙ ap (λ us. map (passing slots t) us ++ drop (length slots) slots) (take_all (length slots) slots (omega arith))
    ∙ ap (λ us. map (passing slots t) slots ++ us) (drop_all (length slots) slots (omega arith))
    ∙ append-nil (map (passing slots t) slots)

-- the rows of the slots that are left are the rows that a sweep keeps
pub swept_rows : (slots : List Slot) (t : ℕ) → listed_rows (swept_slots t slots) ≡ swept t (listed_rows slots)
unfolding swept_slots swept
swept_rows slots t = listed_passing (lives (listed_rows slots) t) slots

tied_like : (slots now : List Slot) (i : ℕ) (over : Option ℕ) (parent : Option (List ℕ)) → ((p : ℕ) → p < i → (slot_at now p).row.name ≡ (slot_at slots p).row.name) → IsTied slots i over parent → IsTied now i over parent
tied_like slots now i None parent names tied = tied
tied_like slots now i (Some p) parent names tied = (tied.0, tied.1 ∙ ap Some (sym (names p tied.0)))

-- slots in which names, parents and places stay are slots of a table again
pub like_sound :
    (slots now : List Slot) → AreSlots slots → length now ≡ length slots →
    ((i : ℕ) → i < length slots → ((slot_at now i).row.name ≡ (slot_at slots i).row.name) × ((slot_at now i).over ≡ (slot_at slots i).over) × ((slot_at now i).row.parent ≡ (slot_at slots i).row.parent)) →
    AreSlots now
like_sound slots now sound count like = record {
  few = let few = sound.few in omega arith;
  apart = λ i j h k same.
      let hi : i < length slots = omega arith in
      let hj : j < length slots = omega arith in
      sound.apart i j hi hj (sym (like i hi).0 ∙ same ∙ (like j hj).0);
  tied = λ i h.
      let hi : i < length slots = omega arith in
      subst (λ o. IsTied now i o (slot_at now i).row.parent) (sym (like i hi).1)
      (subst (λ o. IsTied now i (slot_at slots i).over o) (sym (like i hi).2)
      (tied_like slots now i (slot_at slots i).over (slot_at slots i).row.parent (λ p below. (like p (omega arith)).0) (sound.tied i hi)));
}

pub swept_sound : (slots : List Slot) (t : ℕ) → AreSlots slots → AreSlots (swept_slots t slots)
unfolding swept_slots slot_at relisted
swept_sound slots t sound =
    like_sound slots (map (passing slots t) slots) sound (length-map slots (passing slots t))
    (λ i h.
    let same = get_or-map (passing slots t) slots i no_slot no_slot h in
    (ap (λ (u : Slot). u.row.name) same, ap (λ (u : Slot). u.over) same, ap (λ (u : Slot). u.row.parent) same))

-- none is judged yet
pub judged_first : (slots : List Slot) (t : ℕ) → Judged slots t 0 slots
judged_first slots t = refl
