-- What is at an index and under a name, after one entry more and after an entry was changed: for `push` and the setters.
use Rattle.std.proofs.Common.{◌≡◌, ℕ, suc, zero, ◌<◌, ◌≤◌, ◌≢◌, Bool, true, false, cond, List, [], ◌∷◌, ◌++◌, Option, Some, None, length, get_or, set, bytes_eq, option_map, IfSome, refl, sym, ap, ◌∙◌, arith}
use Rattle.std.proofs.lemmas.List.{get_or_append_left, get_or_push, get_or-set_same, get_or-set_other, get_or_past, get_or_read}
use Rattle.plan_forest.specs.{declared.entry.Entry.Entry, Forest.entry_at, Forest.index_named, Forest.no_entry}

-- what `&entries[i]` gives
pub entry_read : (es : List Entry) (i : ℕ) (x : Entry) → i < length es → x ≡ get_or es i x → x ≡ entry_at es i
unfolding entry_at
entry_read es i x h e = get_or_read es i x h e no_entry

pub entry_at_push_old : (es : List Entry) (e : Entry) (i : ℕ) → i < length es → entry_at (es ++ e ∷ []) i ≡ entry_at es i
unfolding entry_at
entry_at_push_old es e i h = get_or_append_left es (e ∷ []) no_entry i h

pub entry_at_push_new : (es : List Entry) (e : Entry) → entry_at (es ++ e ∷ []) (length es) ≡ e
unfolding entry_at
entry_at_push_new es e = get_or_push es e no_entry (length es) refl

pub entry_at_set_same : (es : List Entry) (i : ℕ) (e : Entry) → i < length es → entry_at (set es i e) i ≡ e
unfolding entry_at
entry_at_set_same es i e h = get_or-set_same es i e no_entry h

pub entry_at_set_other : (es : List Entry) (i j : ℕ) (e : Entry) → j ≢ i → entry_at (set es i e) j ≡ entry_at es j
unfolding entry_at
entry_at_set_other es i j e h = get_or-set_other es i j e no_entry h

pub entry_at_past : (es : List Entry) (i : ℕ) → length es ≤ i → entry_at es i ≡ no_entry
unfolding entry_at
entry_at_past es i h = get_or_past es i no_entry h

-- the index of a name among the entries and one more
unfoldable pub later_index : Option ℕ → Bool → ℕ → Option ℕ
later_index (Some i) here n = Some i
later_index None here n = cond here (Some n) None

pub later_index_found : (i : ℕ) (here : Bool) (n : ℕ) → later_index (Some i) here n ≡ Some i
unfolding later_index
later_index_found i here n = refl

pub later_index_new : (here : Bool) (n : ℕ) → later_index None here n ≡ cond here (Some n) None
unfolding later_index
later_index_new here n = refl

later_index_suc : (o : Option ℕ) (here : Bool) (n : ℕ) → option_map (λ i. suc i) (later_index o here n) ≡ later_index (option_map (λ i. suc i) o) here (suc n)
unfolding later_index
later_index_suc (Some i) here n = refl
later_index_suc None true n = refl
later_index_suc None false n = refl

pub index_named_push : (es : List Entry) (e : Entry) (q : List ℕ) → index_named (es ++ e ∷ []) q ≡ later_index (index_named es q) (bytes_eq e.name q) (length es)
unfolding index_named later_index
index_named_push [] e q = elim (bytes_eq e.name q) as (λ b. cond b (Some 0) (option_map (λ i. suc i) None) ≡ cond b (Some 0) None) [ true ↦ refl | false ↦ refl ]
index_named_push (x ∷ es) e q =
    elim (bytes_eq x.name q) as (λ b. cond b (Some 0) (option_map (λ i. suc i) (index_named (es ++ e ∷ []) q)) ≡ later_index (cond b (Some 0) (option_map (λ i. suc i) (index_named es q))) (bytes_eq e.name q) (suc (length es)))
    [ true ↦ refl | false ↦ ap (option_map (λ i. suc i)) (index_named_push es e q) ∙ later_index_suc (index_named es q) (bytes_eq e.name q) (length es) ]

pub index_named_set : (es : List Entry) (i : ℕ) (e : Entry) (q : List ℕ) → e.name ≡ (entry_at es i).name → index_named (set es i e) q ≡ index_named es q
unfolding index_named entry_at
index_named_set [] i e q h = refl
index_named_set (x ∷ es) zero e q h = ap (λ name. cond (bytes_eq name q) (Some 0) (option_map (λ k. suc k) (index_named es q))) h
index_named_set (x ∷ es) (suc i) e q h = ap (λ o. cond (bytes_eq x.name q) (Some 0) (option_map (λ k. suc k) o)) (index_named_set es i e q h)

step_within : (here : Bool) (o : Option ℕ) (n i : ℕ) → ((k : ℕ) → o ≡ Some k → k < n) → cond here (Some 0) (option_map (λ k. suc k) o) ≡ Some i → i < suc n
step_within true o n i h e = let z : 0 ≡ i = cc in omega arith
step_within false None n i h e = absurd cc
step_within false (Some k) n i h e =
    let z : suc k ≡ i = cc in
    let l : k < n = h k refl in
    omega arith

-- an index under a name is that of an entry
pub index_named_within : (es : List Entry) (q : List ℕ) (i : ℕ) → index_named es q ≡ Some i → i < length es
unfolding index_named
index_named_within [] q i e = absurd cc
index_named_within (x ∷ es) q i e = step_within (bytes_eq x.name q) (index_named es q) (length es) i (λ k h. index_named_within es q k h) e

pub index_within : (es : List Entry) (q : List ℕ) (o : Option ℕ) → o ≡ index_named es q → IfSome o (λ i. i < length es)
index_within es q None e = tt
index_within es q (Some i) e = index_named_within es q i (sym e)
