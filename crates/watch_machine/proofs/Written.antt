-- Written: what a loop that makes each track anew has made so far, and what it has made in the end. For the loops in place.
use Rattle.std.proofs.Common.{◌≡◌, ◌∙◌, ℕ, ◌+◌, ◌<◌, ◌≤◌, ◌++◌, ◌∷◌, [], List, length, map, get_or, set, take, refl, sym, ap, arith, subst, zero, suc}
use Rattle.std.proofs.lemmas.List.FromFn.{length-map-range_with_len, map-range_with_len_more}
use Rattle.std.proofs.lemmas.List.{get_or_default, get_or-set_other, length-set, take_all, take_more_set}
use Rattle.std.specs.List.{range_with_len}
use Rattle.watch_machine.specs.declared.track.Track.{Track}
use Rattle.watch_machine.specs.State.{each, no_track, track_in}

-- those before k are made by f, the others are as they were
pub record Written (f : ℕ → Track → Track) (old now : List Track) (k : ℕ) : Type 0 where
  pub count : length now ≡ length old
  pub done : take k now ≡ map (λ i. f i (track_in old i)) (range_with_len 0 k)
  pub rest : (j : ℕ) → k ≤ j → track_in now j ≡ track_in old j

-- nothing is written yet
pub written_none : (f : ℕ → Track → Track) (old : List Track) → Written f old old 0
written_none f old = record { count = refl; done = refl; rest = λ j past. refl }

-- what is read next is as it was
pub written_read : (f : ℕ → Track → Track) (old now : List Track) (k : ℕ) (d : Track) → Written f old now k → k < length old → get_or now k d ≡ track_in old k
written_read f old now k d so within = get_or_default now k d no_track (let count = so.count in omega (arith, count, within)) ∙ so.rest k (omega arith)

-- one more is
pub written_more : (f : ℕ → Track → Track) (old now next : List Track) (k : ℕ) (x : Track) → Written f old now k → k < length old → next ≡ set now k x → x ≡ f k (track_in old k) → Written f old next (k + 1)
written_more f old now next k x so within is made = let g : ℕ → Track = λ i. f i (track_in old i) in record {
  count = ap length is ∙ length-set now k x ∙ so.count;
  done =
      ap (take (k + 1)) is ∙ take_more_set now k x (let count = so.count in omega (arith, count)) ∙ ap (λ xs. xs ++ x ∷ []) so.done
      ∙ ap (λ y. map g (range_with_len 0 k) ++ y ∷ []) made ∙ sym (map-range_with_len_more g 0 k k (omega arith));
  rest = λ j past. ap (λ xs. get_or xs j no_track) is ∙ get_or-set_other now k j x no_track (omega (arith, past)) ∙ so.rest j (omega (arith, past));
}

-- all are
pub written_all : (f : ℕ → Track → Track) (old now : List Track) (k : ℕ) → Written f old now k → k ≡ length old → now ≡ each f old
unfolding each
written_all f old now k so whole =
    sym (take_all k now (let count = so.count in omega (arith, count, whole))) ∙ so.done ∙ ap (λ n. map (λ i. f i (track_in old i)) (range_with_len 0 n)) whole

-- there are as many as before
pub each_length : (f : ℕ → Track → Track) (xs : List Track) → length (each f xs) ≡ length xs
unfolding each
each_length f xs = length-map-range_with_len (λ i. f i (track_in xs i)) 0 (length xs)

-- two functions that are the same below n make the same of so many indices
pub range_same : {Y : Type 0} (f h : ℕ → Y) (n : ℕ) → ((i : ℕ) → i < n → f i ≡ h i) → map f (range_with_len 0 n) ≡ map h (range_with_len 0 n)
range_same f h zero same = refl
range_same f h (suc n) same =
    let one : n + 1 ≡ suc n = omega arith in
    subst (λ k. map f (range_with_len 0 k) ≡ map h (range_with_len 0 k)) one
    (map-range_with_len_more f 0 n n (omega arith) ∙ ap (λ ys. ys ++ f n ∷ []) (range_same f h n (λ i below. same i (omega (arith, below))))
    ∙ ap (λ y. map h (range_with_len 0 n) ++ y ∷ []) (same n (omega arith)) ∙ sym (map-range_with_len_more h 0 n n (omega arith)))

-- and the same of so many tracks
pub each_same : (f h : ℕ → Track → Track) (xs : List Track) → ((i : ℕ) → i < length xs → f i (track_in xs i) ≡ h i (track_in xs i)) → each f xs ≡ each h xs
unfolding each
each_same f h xs same = range_same (λ i. f i (track_in xs i)) (λ i. h i (track_in xs i)) (length xs) same
