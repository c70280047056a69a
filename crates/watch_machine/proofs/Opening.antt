-- Opening: a round opens, and asks along, as the definitions say. For step 4 of a clock.
use Rattle.std.proofs.Common.{◌≡◌, ◌∙◌, ℕ, zero, suc, ◌+◌, ◌*◌, ◌/◌, ◌<◌, ◌≤◌, ◌==◌, Bool, true, false, ◌&&◌, ◌||◌, if◌then◌else◌, List, Option, Some, None, length, min, get_or, nat_lt, not, set, refl, sym, ap, arith, inl, inr}
use Rattle.std.proofs.lemmas.{Bool.Decides.nat_tests, List.ext_get_or, List.FromFn.get_or-map-range_with_len, List.FromFn.length-map-range_with_len}
use Rattle.std.proofs.lemmas.Bool.{cases_eq, cases_lt, cond-true, cond-false, or_left, or_right}
use Rattle.std.specs.List.{list_any, range_with_len}
use Rattle.plan_forest.specs.{declared.entry.Entry.Entry, Push.IsForest, Renewal.capped}
use Rattle.plan_forest.specs.Forest.{Forest, entry_at, no_entry}
use Rattle.plan_forest.proofs.Placed.{parents_first}
use Rattle.plan_forest.proofs.Entries.{entry_at_past, entry_at_set_other, entry_at_set_same}
use Rattle.watch_machine.specs.{declared.clocks.Clocks.Clocks, declared.track.Track.Track, Clocks.sec, State.no_track}
use Rattle.watch_machine.specs.Margins.{is_in_plan, lead, own_margin}
use Rattle.watch_machine.specs.Round.{entry_planned, is_hoped, opens, opens_some, plan_view, planned_by, step_in_plan}
use Rattle.watch_machine.specs.Wanted.{need_of, seen_entry, view}
use Rattle.watch_machine.specs.code.View.{HasNeeds, IsView, Loads, need_at, shape}
use Rattle.watch_machine.proofs.{Cases.if_both, Shorting.IsAlike, View.at_shape}

-- a test of numbers in a row
any_at : (p : ℕ → Bool) (n a i : ℕ) → a ≤ i → i < a + n → p i ≡ true → list_any p (range_with_len a n) ≡ true
any_at p zero a i from below yes' = absurd (omega arith)
any_at p (suc n) a i from below yes' =
    elim (cases_eq a i) [
      | inl same ↦ or_left (p a) (list_any p (range_with_len (a + 1) n)) (ap p same ∙ yes')
      | inr other ↦ or_right (p a) (list_any p (range_with_len (a + 1) n)) (any_at p n (a + 1) i (omega arith) (omega arith) yes')
    ]

pub some_opens : (p : ℕ → Bool) (n i : ℕ) → i < n → p i ≡ true → list_any p (range_with_len 0 n) ≡ true
some_opens p n i within yes' = any_at p n 0 i (omega arith) (omega arith) yes'

none_from : (p : ℕ → Bool) (n a : ℕ) → ((i : ℕ) → a ≤ i → i < a + n → p i ≡ false) → list_any p (range_with_len a n) ≡ false
none_from p zero a none = refl
none_from p (suc n) a none = ap (λ b. b || list_any p (range_with_len (a + 1) n)) (none a (omega arith) (omega arith)) ∙ none_from p n (a + 1) (λ i from below. none i (omega arith) (omega arith))

pub none_opens : (p : ℕ → Bool) (n : ℕ) → ((i : ℕ) → i < n → p i ≡ false) → list_any p (range_with_len 0 n) ≡ false
none_opens p n none = none_from p n 0 (λ i from below. none i (omega arith))

same_from : (p q : ℕ → Bool) (n a : ℕ) → ((i : ℕ) → a ≤ i → i < a + n → p i ≡ q i) → list_any p (range_with_len a n) ≡ list_any q (range_with_len a n)
same_from p q zero a same = refl
same_from p q (suc n) a same =
    ap (λ b. b || list_any p (range_with_len (a + 1) n)) (same a (omega arith) (omega arith))
    ∙ ap (λ b. q a || b) (same_from p q n (a + 1) (λ i from below. same i (omega arith) (omega arith)))

pub same_opens : (p q : ℕ → Bool) (n : ℕ) → ((i : ℕ) → i < n → p i ≡ q i) → list_any p (range_with_len 0 n) ≡ list_any q (range_with_len 0 n)
same_opens p q n same = same_from p q n 0 (λ i from below. same i (omega arith))

-- whether one opens a round, by what was read of the entries
pub opens_any :
    (g : Forest) (xs : List Track) (c : Clocks) (loads : Loads) (m now : ℕ) → m ≡ g.margin → now ≡ sec c.at → HasNeeds g.entries xs c loads →
    list_any (λ i. opens m (entry_at g.entries i) (get_or xs i no_track) (need_at loads i) now) (range_with_len 0 (length g.entries)) ≡ opens_some g xs c
unfolding opens_some
opens_any g xs c loads m now margins at has =
    let es = g.entries in
    same_opens (λ i. opens m (entry_at es i) (get_or xs i no_track) (need_at loads i) now) (λ i. opens g.margin (entry_at es i) (get_or xs i no_track) (need_of es xs c i) (sec c.at)) (length es)
    (λ i within.
    ap (λ k. opens k (entry_at es i) (get_or xs i no_track) (need_at loads i) now) margins
    ∙ ap (λ t. opens g.margin (entry_at es i) (get_or xs i no_track) (need_at loads i) t) at
    ∙ ap (λ n. opens g.margin (entry_at es i) (get_or xs i no_track) n (sec c.at)) (has i within))

-- an entry in the plan leads past the margin
pub plan_past : (margin : ℕ) (x : Track) (e : Entry) → 0 < margin → is_in_plan margin e x ≡ true → margin < lead e.step x.grant
unfolding is_in_plan own_margin
plan_past margin x e above keeps =
    let l = lead e.step x.grant in
    let same : min margin (3 * l / 4) ≡ margin = (let t : (min margin (3 * l / 4) == margin) ≡ true = keeps in grind (arith, nat_tests)) in
    omega arith

pub capped_least : (ceiling : Option ℕ) (t : ℕ) → capped ceiling t ≤ t
unfolding capped
capped_least None t = omega arith
capped_least (Some c) t = omega arith

-- each entry below an index is written for the Asks, the others as they are seen
abbrev pub halfway : Forest → List Track → Clocks → ℕ → ℕ → Entry
halfway g xs c n k = if nat_lt k n then entry_planned g xs c k else seen_entry g.entries xs c k

pub halfway_start : (g : Forest) (xs : List Track) (c : Clocks) (k : ℕ) → seen_entry g.entries xs c k ≡ halfway g xs c 0 k
halfway_start g xs c k = sym (cond-false (nat_lt k 0) (entry_planned g xs c k) (seen_entry g.entries xs c k) (grind (arith, nat_tests)))

pub halfway_end : (g : Forest) (xs : List Track) (c : Clocks) (n k : ℕ) → k < n → halfway g xs c n k ≡ entry_planned g xs c k
halfway_end g xs c n k below = cond-true (nat_lt k n) (entry_planned g xs c k) (seen_entry g.entries xs c k) (grind (arith, nat_tests))

pub halfway_more :
    (g : Forest) (xs : List Track) (c : Clocks) (es fs : List Entry) (n m : ℕ) (f : Entry → Entry) → n < length es → n < m → fs ≡ set es n (f (entry_at es n)) →
    f (seen_entry g.entries xs c n) ≡ entry_planned g xs c n → ((k : ℕ) → k < m → entry_at es k ≡ halfway g xs c n k) → (k : ℕ) → k < m → entry_at fs k ≡ halfway g xs c (n + 1) k
halfway_more g xs c es fs n m f there below is writes each k within =
    let here : entry_at es n ≡ seen_entry g.entries xs c n = each n below ∙ cond-false (nat_lt n n) (entry_planned g xs c n) (seen_entry g.entries xs c n) (grind (arith, nat_tests)) in
    ap (λ ys. entry_at ys k) is ∙ elim (cases_eq k n) as (λ _. entry_at (set es n (f (entry_at es n))) k ≡ halfway g xs c (n + 1) k) [
      | inl same ↦
          ap (entry_at (set es n (f (entry_at es n)))) same ∙ entry_at_set_same es n (f (entry_at es n)) there ∙ ap f here ∙ writes ∙ ap (entry_planned g xs c) (sym same)
          ∙ sym (halfway_end g xs c (n + 1) k (omega arith))
      | inr other ↦
          let test : nat_lt k n ≡ nat_lt k (n + 1) = grind (arith, nat_tests) in
          entry_at_set_other es n k (f (entry_at es n)) other ∙ each k within ∙ ap (λ b. if b then entry_planned g xs c k else seen_entry g.entries xs c k) test
    ]

pub plan_written :
    (g : Forest) (xs : List Track) (c : Clocks) (es : List Entry) → length es ≡ length g.entries → ((k : ℕ) → k < length g.entries → entry_at es k ≡ entry_planned g xs c k) → es ≡ plan_view g xs c
unfolding entry_at
plan_written g xs c es count each =
    let n = length g.entries in
    ext_get_or no_entry es (plan_view g xs c) (count ∙ sym (length-map-range_with_len (entry_planned g xs c) 0 n))
    (λ i within. each i (omega arith) ∙ sym (get_or-map-range_with_len (entry_planned g xs c) 0 n i i no_entry (omega arith) (omega arith)))

-- what a view has at an index
pub seen_at : (es : List Entry) (xs : List Track) (c : Clocks) (k : ℕ) → k < length es → entry_at (view es xs c) k ≡ seen_entry es xs c k
unfolding entry_at
seen_at es xs c k within = get_or-map-range_with_len (seen_entry es xs c) 0 (length es) k k no_entry within (omega arith)

planned_at : (g : Forest) (xs : List Track) (c : Clocks) (k : ℕ) → k < length g.entries → entry_at (plan_view g xs c) k ≡ entry_planned g xs c k
unfolding entry_at
planned_at g xs c k within = get_or-map-range_with_len (entry_planned g xs c) 0 (length g.entries) k k no_entry within (omega arith)

-- what is written for the Asks is no part of an entry's shape, nor its need
pub shape_planned : (margin need now : ℕ) (e f : Entry) (x : Track) → shape (planned_by margin e x need now f) ≡ shape f
unfolding planned_by
shape_planned margin need now e f x =
    if_both (λ (y : Entry). shape y ≡ shape f) (is_hoped margin e x need) (record f { end = capped f.ceiling (now + lead e.step x.grant); renewable = false })
    (record f { renewable = x.renewable && not x.top; step = step_in_plan margin e x f.step }) refl refl

need_by : (margin need now : ℕ) (e f : Entry) (x : Track) → (planned_by margin e x need now f).need ≡ f.need
unfolding planned_by
need_by margin need now e f x =
    if_both (λ (y : Entry). y.need ≡ f.need) (is_hoped margin e x need) (record f { end = capped f.ceiling (now + lead e.step x.grant); renewable = false })
    (record f { renewable = x.renewable && not x.top; step = step_in_plan margin e x f.step }) refl refl

need_planned : (g : Forest) (xs : List Track) (c : Clocks) (i : ℕ) → (entry_planned g xs c i).need ≡ (seen_entry g.entries xs c i).need
unfolding entry_planned
need_planned g xs c i = need_by g.margin (need_of g.entries xs c i) (sec c.at) (entry_at g.entries i) (seen_entry g.entries xs c i) (get_or xs i no_track)

needs_planned : (g : Forest) (xs : List Track) (c : Clocks) (i : ℕ) → (entry_at (plan_view g xs c) i).need ≡ (entry_at (view g.entries xs c) i).need
needs_planned g xs c i =
    let n = length g.entries in
    elim (cases_lt i n) [
      | inl within ↦ ap (λ (e : Entry). e.need) (planned_at g xs c i within) ∙ need_planned g xs c i ∙ sym (ap (λ (e : Entry). e.need) (seen_at g.entries xs c i within))
      | inr past ↦
          let few = length-map-range_with_len (entry_planned g xs c) 0 n in
          let many = length-map-range_with_len (seen_entry g.entries xs c) 0 n in
          ap (λ (e : Entry). e.need) (entry_at_past (plan_view g xs c) i (omega arith)) ∙ sym (ap (λ (e : Entry). e.need) (entry_at_past (view g.entries xs c) i (omega arith)))
    ]

-- two views of a forest have the same parents
parents_of_views : (v w g : Forest) (i : ℕ) → IsView v g → IsView w g → (entry_at w.entries i).parent ≡ (entry_at v.entries i).parent
parents_of_views v w g i first other =
    let few = first.count in
    let many = other.count in
    elim (cases_lt i (length g.entries)) [
      | inl within ↦ ap (λ (e : Entry). e.parent) (at_shape w g i other within) ∙ sym (ap (λ (e : Entry). e.parent) (at_shape v g i first within))
      | inr past ↦ ap (λ (e : Entry). e.parent) (entry_at_past w.entries i (omega arith)) ∙ sym (ap (λ (e : Entry). e.parent) (entry_at_past v.entries i (omega arith)))
    ]

-- so the entries carry the same for the Asks
pub plan_alike :
    (v w g : Forest) (xs : List Track) (c : Clocks) → IsForest g → IsView v g → IsView w g → v.entries ≡ view g.entries xs c → w.entries ≡ plan_view g xs c → IsAlike v w
plan_alike v w g xs c sound first other seen_is plan_is = record {
  sound = λ i p child. parents_first g sound i p (parents_of_views v g g i first (record { count = refl; margin = refl; shapes = refl }) ∙ child);
  count = other.count ∙ sym first.count;
  parents = λ i. parents_of_views v w g i first other;
  needs = λ i. ap (λ es. (entry_at es i).need) plan_is ∙ needs_planned g xs c i ∙ sym (ap (λ es. (entry_at es i).need) seen_is);
}

-- what is written of an entry that counts as renewed, and of another
pub hoped_is :
    (m need now end : ℕ) (e f : Entry) (x : Track) → is_hoped m e x need ≡ true → end ≡ capped f.ceiling (now + lead e.step x.grant) →
    record f { end = end; renewable = false } ≡ planned_by m e x need now f
unfolding planned_by
hoped_is m need now end e f x hoped ends =
    ap (λ n. record f { end = n; renewable = false }) ends
    ∙ sym (cond-true (is_hoped m e x need) (record f { end = capped f.ceiling (now + lead e.step x.grant); renewable = false }) (record f { renewable = x.renewable && not x.top; step = step_in_plan m e x f.step }) hoped)

pub kept_is :
    (m need now step : ℕ) (ceiling : Option ℕ) (renewable : Bool) (e f : Entry) (x : Track) → is_hoped m e x need ≡ false → step ≡ step_in_plan m e x f.step → ceiling ≡ f.ceiling →
    renewable ≡ (x.renewable && not x.top) → record f { renewable = renewable; step = step; ceiling = ceiling } ≡ planned_by m e x need now f
unfolding planned_by
kept_is m need now step ceiling renewable e f x kept steps ceilings renewables =
    ap (λ n. record f { renewable = renewable; step = n; ceiling = ceiling }) steps
    ∙ ap (λ o. record f { renewable = renewable; step = step_in_plan m e x f.step; ceiling = o }) ceilings
    ∙ ap (λ b. record f { renewable = b; step = step_in_plan m e x f.step }) renewables
    ∙ sym (cond-false (is_hoped m e x need) (record f { end = capped f.ceiling (now + lead e.step x.grant); renewable = false }) (record f { renewable = x.renewable && not x.top; step = step_in_plan m e x f.step }) kept)
