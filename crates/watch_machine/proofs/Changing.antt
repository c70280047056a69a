-- Changing: where entries are after a change, what is written of them, and the requests that are out. For `change`.
use Rattle.std.proofs.Common.{◌≡◌, ◌∙◌, ℕ, suc, ◌+◌, ◌<◌, ◌++◌, true, false, List, [], ◌∷◌, Option, Some, None, IfSome, drop, get_or, length, map, option_map, set, take, refl, sym, ap, arith}
use Rattle.std.proofs.lemmas.{Bool.cond-false, Bool.cond-true, List.FromFn.length-map-range_with_len}
use Rattle.std.proofs.lemmas.List.{append_assoc, drop_more, get_or_at, length-take, set-get_or, set_at, take_more}
use Rattle.std.proofs.lemmas.List.Elements.{All-cons, All-head, All-tail}
use Rattle.std.specs.List.{All}
use Rattle.plan_forest.specs.declared.entry.Entry.{Entry}
use Rattle.plan_forest.specs.Forest.{Forest, entry_at, no_entry}
use Rattle.watch_machine.specs.{declared.change.Was.Was, declared.lanes.Out.Out, declared.track.Track.Track}
use Rattle.watch_machine.specs.declared.change.Was.TheVariants.{New, Same, Retold}
use Rattle.watch_machine.specs.Change.{entry_by, former, forest_after, is_former, moved_out, out_after, place_now, track_by, tracks_after, was_at}

-- where an entry is, if it is among those from an index on
further : (k : ℕ) (o : Option ℕ) → option_map (λ j. k + j) (option_map (λ j. suc j) o) ≡ option_map (λ j. (k + 1) + j) o
further k None = refl
further k (Some j) = ap (λ n. Some n) (omega arith)

pub place_further :
    (k : ℕ) (w : Was) (ws : List Was) (i : ℕ) → is_former i (former w) ≡ false → option_map (λ j. k + j) (place_now (w ∷ ws) i) ≡ option_map (λ j. (k + 1) + j) (place_now ws i)
unfolding place_now
place_further k w ws i other = ap (option_map (λ j. k + j)) (cond-false (is_former i (former w)) (Some 0) (option_map (λ j. suc j) (place_now ws i)) other) ∙ further k (place_now ws i)

pub place_here : (k : ℕ) (w : Was) (ws : List Was) (i : ℕ) → is_former i (former w) ≡ true → option_map (λ j. k + j) (place_now (w ∷ ws) i) ≡ Some k
unfolding place_now
place_here k w ws i here = ap (option_map (λ j. k + j)) (cond-true (is_former i (former w)) (Some 0) (option_map (λ j. suc j) (place_now ws i)) here) ∙ ap (λ n. Some n) (omega arith)

pub place_all : (o : Option ℕ) → option_map (λ j. 0 + j) o ≡ o
place_all None = refl
place_all (Some j) = ap (λ n. Some n) (omega arith)

-- requests one after another
pub out_append : (was : List Was) (n : ℕ) (xs ys : List Out) → out_after was n (xs ++ ys) ≡ out_after was n xs ++ out_after was (n + length xs) ys
out_append was n [] ys = ap (λ k. out_after was k ys) (omega arith)
out_append was n (x ∷ xs) ys = ap (λ rest. moved_out was n x ∷ rest) (out_append was (suc n) xs ys ∙ ap (λ k. out_after was (suc n) xs ++ out_after was k ys) (omega arith))

pub out_length : (was : List Was) (n : ℕ) (out : List Out) → length (out_after was n out) ≡ length out
out_length was n [] = refl
out_length was n (r ∷ rest) = ap (λ k. suc k) (out_length was (suc n) rest)

-- nothing is written of an entry but where the inventory says of it what it said
pub unwritten : (margin : ℕ) (es gs : List Entry) (i : ℕ) (w : Was) → ((k : ℕ) → w ≡ Same k → ⊥) → gs ≡ set gs i (entry_by margin es (entry_at gs i) w)
unfolding entry_at
unwritten margin es gs i New other = sym (set-get_or gs i no_entry)
unwritten margin es gs i (Same k) other = absurd (other k refl)
unwritten margin es gs i (Retold k) other = sym (set-get_or gs i no_entry)

-- as many entries and tracks as the other forest has
pub after_length : (es : List Entry) (g : Forest) (was : List Was) → length (forest_after es g was).entries ≡ length g.entries
unfolding forest_after
after_length es g was = length-map-range_with_len (λ j. entry_by g.margin es (entry_at g.entries j) (was_at was j)) 0 (length g.entries)

pub tracks_length : (at : ℕ) (xs : List Track) (g : Forest) (was : List Was) → length (tracks_after at xs g was) ≡ length g.entries
unfolding tracks_after
tracks_length at xs g was = length-map-range_with_len (λ j. track_by at xs (entry_at g.entries j) (was_at was j)) 0 (length g.entries)

-- what holds of each whatever its index is holds after a change too, and what else it tells is as before
module _ (was : List Was) where
  pub all_after : (P : Out → Type 0) → ((k : ℕ) (r : Out) → P r → P (moved_out was k r)) → (n : ℕ) (out : List Out) → All P out → All P (out_after was n out)
  all_after P kept n [] all = all
  all_after P kept n (r ∷ rest) all = All-cons P (moved_out was n r) (out_after was (suc n) rest) (kept n r (All-head P r rest all)) (all_after P kept (suc n) rest (All-tail P r rest all))

-- one request more
pub out_more :
    (was : List Was) (n : ℕ) (old now : List Out) (k : ℕ) (x y : Out) → k < length old → now ≡ out_after was n (take k old) ++ drop k old → x ≡ get_or now k x →
    y ≡ moved_out was (n + k) x → set now k y ≡ out_after was n (take (k + 1) old) ++ drop (k + 1) old
out_more was n old now k x y within is read made =
    let front = out_after was n (take k old) in
    let long : length front ≡ k = out_length was n (take k old) ∙ (let l = length-take k old in omega (arith, l)) in
    let parts : now ≡ front ++ get_or old k x ∷ drop (k + 1) old = is ∙ ap (λ rest. front ++ rest) (drop_more old k x within) in
    let was_x : x ≡ get_or old k x = read ∙ ap (λ os. get_or os k x) parts ∙ get_or_at front _ _ x k long in
    let one : out_after was n (take (k + 1) old) ≡ front ++ y ∷ [] =
    ap (out_after was n) (take_more old k x within) ∙ out_append was n (take k old) (get_or old k x ∷ [])
    ∙ ap (λ m. front ++ moved_out was m (get_or old k x) ∷ []) (let l = length-take k old in omega (arith, l))
    ∙ ap (λ z. front ++ moved_out was (n + k) z ∷ []) (sym was_x) ∙ ap (λ z. front ++ z ∷ []) (sym made) in
    ap (λ os. set os k y) parts ∙ set_at front _ _ y k long ∙ sym (append_assoc front (y ∷ []) _) ∙ ap (λ os. os ++ drop (k + 1) old) (sym one)

-- an index that is told of is one of so many
pub within_some : (n : ℕ) (o : Option ℕ) → ((i : ℕ) → o ≡ Some i → i < n) → IfSome o (λ i. i < n)
within_some n None h = tt
within_some n (Some i) h = h i refl
