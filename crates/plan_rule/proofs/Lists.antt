-- Lists as functions of the index, and one element more at a loop's turn: for the replay's loops.
use Rattle.std.proofs.Common.{◌≡◌, ℕ, zero, suc, ◌+◌, nat_le, ◌<◌, ◌≤◌, false, List, [], ◌∷◌, ◌++◌, length, get_or, drop, map, take, subst, sym, ap, ◌∙◌, arith, inl, inr}
use Rattle.std.proofs.lemmas.{Bool.cases_lt, Bool.or_parts, List.drop_more, List.ext_get_or, List.get_or_past, List.take_at, List.FromFn.get_or-map-range_with_len, List.FromFn.length-map-range_with_len, Bool.Decides.nat_tests}
use Rattle.std.proofs.Math.Path.{fun_ext}
use Rattle.std.specs.List.{list_any, range_with_len}
use Rattle.base_moment.specs.declared.moment.TheConstants.{LAST}
use Rattle.plan_forest.specs.{declared.entry.Entry.Entry, Forest.Forest, Forest.end_of, Forest.entry_at, Push.IsForest}
use Rattle.plan_forest.proofs.{Entries.entry_at_past, Placed.range_parts}
use Rattle.plan_rule.specs.{Ends.ends_listed, Plans.asks_past, code.Replay.shown_ends}

-- a list from an index on begins with what is read there
pub unrolled : {X : Type 0} (xs : List X) (i : ℕ) (x : X) → i < length xs → x ≡ get_or xs i x → drop i xs ≡ x ∷ drop (i + 1) xs
unrolled xs i x h e = drop_more xs i x h ∙ ap (λ y. y ∷ drop (i + 1) xs) (sym e)

-- the list of all present ends is the function of the present ends
pub shown_present : (es : List Entry) (ends : List ℕ) → length ends ≡ length es → ((k : ℕ) → k < length es → get_or ends k 0 ≡ end_of es k) → shown_ends ends ≡ end_of es
unfolding shown_ends end_of
shown_present es ends count each = fun_ext λ k.
    elim (cases_lt k (length es)) [
      | inl within ↦ each k within
      | inr past ↦ get_or_past ends k 0 (omega arith) ∙ sym (ap (λ (e : Entry). e.end) (entry_at_past es k past))
    ]

-- no element of what asks nothing past n entries is past them
pub asked_within : (n : ℕ) (asked : List ℕ) → asks_past n asked ≡ false → (i : ℕ) → i < length asked → get_or asked i 0 < n
unfolding asks_past
asked_within n [] none i h = absurd (omega arith)
asked_within n (x ∷ xs) none zero h =
    let t : nat_le n x ≡ false = (or_parts (nat_le n x) (list_any (λ j. nat_le n j) xs) none).0 in
    grind (arith, nat_tests)
asked_within n (x ∷ xs) none (suc i) h = asked_within n xs (or_parts (nat_le n x) (list_any (λ j. nat_le n j) xs) none).1 i (omega arith)

pub read_within : (n : ℕ) (asked items : List ℕ) (i : ℕ) → items ≡ asked → asks_past n asked ≡ false → i < length items → get_or items i 0 < n
read_within n asked items i same none h =
    let Bound : List ℕ → Type 0 = λ xs. i < length xs → get_or xs i 0 < n in
    subst Bound (sym same) (λ within. asked_within n asked none i within) h

-- the list of a function's ends is the list that the function was read from
pub listed_shown : (es : List Entry) (ends : List ℕ) → length ends ≡ length es → ends ≡ ends_listed es (shown_ends ends)
unfolding ends_listed shown_ends
listed_shown es ends count =
    ext_get_or 0 ends (map (λ i. get_or ends i 0) (range_with_len 0 (length es))) (count ∙ sym (length-map-range_with_len (λ i. get_or ends i 0) 0 (length es)))
    (λ i h. sym (get_or-map-range_with_len (λ k. get_or ends k 0) 0 (length es) i i 0 (omega arith) (omega arith)))

-- a Vec whose whole slice was written
pub rewritten : (n : ℕ) (new old : List ℕ) → length new ≡ n → take n (new ++ drop (length new) old) ≡ new
rewritten n new old same = take_at new (drop (length new) old) n same

-- the need of any index is at most LAST
pub need_within : (g : Forest) → IsForest g → (i : ℕ) → (entry_at g.entries i).need ≤ LAST
need_within g forest i =
    elim (cases_lt i (length g.entries)) [
      | inl within ↦ (range_parts (entry_at g.entries i) (forest.placed i within).in_range).need
      | inr past ↦ let none : (entry_at g.entries i).need ≡ 0 = ap (λ (e : Entry). e.need) (entry_at_past g.entries i past) in omega arith
    ]
