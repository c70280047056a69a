-- ForGood: a mark and a need for each entry, and needs that are set one after another.
use Rattle.std.proofs.Common.{◌≡◌, ◌∙◌, ℕ, ◌+◌, ◌<◌, ◌≤◌, ◌++◌, Bool, List, [], ◌∷◌, append_assoc, drop, get_or, length, map, set, take, refl, sym, ap, arith}
use Rattle.std.proofs.Math.Seq.{get_or-append_seam, set-append_seam}
use Rattle.std.proofs.lemmas.List.{append-nil as append_nil, drop_all, drop_more, length-map, length-take-le, map_more, take_all, take_more}
use Rattle.std.proofs.lemmas.List.FromFn.{get_or-map-range_with_len, length-map-range_with_len}
use Rattle.std.specs.List.{range_with_len}
use Rattle.plan_forest.specs.declared.entry.Entry.{Entry}
use Rattle.plan_forest.specs.Forest.{Forest, entry_at, no_entry}
use Rattle.vault_inventory.specs.{declared.note.EntryNote.EntryNote, Inventories.Inventory, Served.IsServedInventory, Served.Served}
use Rattle.vault_served.specs.ForGood.{marks, need_for_good, needs_for_good}

-- ---- marks

pub marks_count : (notes : List EntryNote) → length (marks notes) ≡ length notes
unfolding marks
marks_count notes = length-map notes (λ note. note.is_always)

pub marks_none : (notes : List EntryNote) → marks (take 0 notes) ≡ []
unfolding marks
marks_none notes = refl

pub marks_more : (notes : List EntryNote) (i : ℕ) (note : EntryNote) → i < length notes → note ≡ get_or notes i note → marks (take (i + 1) notes) ≡ marks (take i notes) ++ note.is_always ∷ []
unfolding marks
marks_more notes i note within is = map_more (λ (n : EntryNote). n.is_always) notes i note within ∙ ap (λ (n : EntryNote). map (λ (m : EntryNote). m.is_always) (take i notes) ++ n.is_always ∷ []) (sym is)

pub marks_all : (notes : List EntryNote) (i : ℕ) → length notes ≤ i → marks (take i notes) ≡ marks notes
marks_all notes i past = ap marks (take_all i notes past)

-- there is one for each entry
pub places : (v : Served) → IsServedInventory v → (always : List Bool) (notes : List EntryNote) (inventory : Inventory) → always ≡ marks notes → notes ≡ v.notes → inventory ≡ v.inventory → length always ≡ length inventory.forest.entries
places v served always notes inventory are from is =
    ap (λ bs. length bs) are ∙ marks_count notes ∙ ap (λ (ns : List EntryNote). length ns) from ∙ served.notes ∙ ap (λ (x : Inventory). length x.forest.entries) (sym is)

-- ---- needs

pub good_for_each : (g : Forest) (always : List Bool) (needs : List ℕ) → needs ≡ needs_for_good g always → length needs ≡ length g.entries
unfolding needs_for_good
good_for_each g always needs are = ap (λ ns. length ns) are ∙ length-map-range_with_len (need_for_good g always) 0 (length g.entries)

-- ---- needs that are set

-- the entries with these needs, and with those of the first n alone
abbrev pub with_own : List Entry → List ℕ → ℕ → Entry
with_own es needs i = record (entry_at es i) { need = get_or needs i 0 }

abbrev pub needing : List Entry → List ℕ → List Entry
needing es needs = map (with_own es needs) (range_with_len 0 (length es))

abbrev pub so_far : List Entry → List ℕ → ℕ → List Entry
so_far es needs n = take n (needing es needs) ++ drop n es

needing_count : (es : List Entry) (needs : List ℕ) → length (needing es needs) ≡ length es
needing_count es needs = length-map-range_with_len (with_own es needs) 0 (length es)

front_count : (es : List Entry) (needs : List ℕ) (n : ℕ) → n ≤ length es → length (take n (needing es needs)) ≡ n
front_count es needs n within = (let all = needing_count es needs in length-take-le n (needing es needs) (omega (arith, within, all)))

-- the entry at n and those after it
left : (es : List Entry) (n : ℕ) → n < length es → drop n es ≡ entry_at es n ∷ drop (n + 1) es
unfolding entry_at
left es n within = drop_more es n no_entry within

parts : (es : List Entry) (needs : List ℕ) (n : ℕ) → n < length es → so_far es needs n ≡ take n (needing es needs) ++ entry_at es n ∷ drop (n + 1) es
parts es needs n within = ap (λ xs. take n (needing es needs) ++ xs) (left es n within)

seam : (xs ys : List Entry) (y : Entry) (n : ℕ) → length xs ≡ n → entry_at (xs ++ y ∷ ys) n ≡ y
unfolding entry_at
seam xs ys y n count = ap (λ k. get_or (xs ++ y ∷ ys) k no_entry) (sym count) ∙ get_or-append_seam xs y ys no_entry

set_seam : (xs ys : List Entry) (y z : Entry) (n : ℕ) → length xs ≡ n → set (xs ++ y ∷ ys) n z ≡ xs ++ z ∷ ys
set_seam xs ys y z n count = ap (λ k. set (xs ++ y ∷ ys) k z) (sym count) ∙ set-append_seam xs y ys z

-- one need more is set
pub one_set : (es : List Entry) (needs : List ℕ) (n : ℕ) → n < length es → set (so_far es needs n) n (record (entry_at (so_far es needs n) n) { need = get_or needs n 0 }) ≡ so_far es needs (n + 1)
one_set es needs n within =
    let all = needing es needs in
    let size = needing_count es needs in
    let front = take n all in
    let rest = drop (n + 1) es in
    let count = front_count es needs n (omega (arith, within)) in
    let split = parts es needs n within in
    let here : entry_at (so_far es needs n) n ≡ entry_at es n = ap (λ xs. entry_at xs n) split ∙ seam front rest (entry_at es n) n count in
    let more : take (n + 1) all ≡ front ++ with_own es needs n ∷ [] =
    take_more all n no_entry (omega (arith, within, size)) ∙ ap (λ e. front ++ e ∷ []) (get_or-map-range_with_len (with_own es needs) 0 (length es) n n no_entry within (omega arith)) in
    ap (λ (e : Entry). set (so_far es needs n) n (record e { need = get_or needs n 0 })) here
    ∙ ap (λ xs. set xs n (with_own es needs n)) split
    ∙ set_seam front rest (entry_at es n) (with_own es needs n) n count
    ∙ sym (append_assoc front (with_own es needs n ∷ []) rest)
    ∙ ap (λ xs. xs ++ rest) (sym more)

-- and all are
pub all_set : (es : List Entry) (needs : List ℕ) (n : ℕ) → length es ≤ n → so_far es needs n ≡ needing es needs
all_set es needs n whole =
    let size = needing_count es needs in
    ap (λ xs. take n (needing es needs) ++ xs) (drop_all n es whole) ∙ append_nil (take n (needing es needs)) ∙ take_all n (needing es needs) (omega (arith, whole, size))

pub so_far_count : (es : List Entry) (needs : List ℕ) (n : ℕ) → n < length es → n < length (so_far es needs n)
so_far_count es needs n within =
    let count = front_count es needs n (omega (arith, within)) in
    let split = ap length (parts es needs n within) in
    let whole = length_seam (take n (needing es needs)) (drop (n + 1) es) (entry_at es n) in
    omega (arith, count, split, whole) where
      length_seam : (xs ys : List Entry) (y : Entry) → length (xs ++ y ∷ ys) ≡ length xs + (length ys + 1)
      length_seam [] ys y = omega arith
      length_seam (x ∷ xs) ys y = (let rest = length_seam xs ys y in omega (arith, rest))
