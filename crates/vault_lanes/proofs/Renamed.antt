-- Those that are out, under other indices: for `index_in` and `rename`.
use Rattle.std.proofs.Common.{◌≡◌, ◌∙◌, ◌==◌, ℕ, ◌+◌, ◌<◌, ◌≤◌, ◌++◌, true, false, List, [], ◌∷◌, Option, drop, get_or, length, map, set, take, refl, sym, ap, ap₂, arith}
use Rattle.std.proofs.lemmas.Bool.{cond-false, cond-true}
use Rattle.std.proofs.lemmas.List.{append-nil, append_assoc, drop_all, drop_more, get_or_at, length-map, length-take, map-append, set_at, take_all, take_more}
use Rattle.vault_lanes.specs.{Out.index_in, Out.renamed, declared.coming.Coming.Coming, declared.seats.Seat.Seat}
use Rattle.vault_lanes.specs.Seats.{out_of_seat, outs, under}

-- the first of two lists are not those of this index, or are
pub in_rest : (k j : ℕ) (ks js : List ℕ) (index : ℕ) → (k == index) ≡ false → index_in (k ∷ ks) (j ∷ js) index ≡ index_in ks js index
unfolding index_in
in_rest k j ks js index other = cond-false (k == index) j (index_in ks js index) other

pub in_front : (k j : ℕ) (ks js : List ℕ) (index : ℕ) → (k == index) ≡ true → index_in (k ∷ ks) (j ∷ js) index ≡ j
unfolding index_in
in_front k j ks js index here = cond-true (k == index) j (index_in ks js index) here

-- it stands in none where one of them is at its end
pub in_no_first : (others : List ℕ) (index : ℕ) → index_in [] others index ≡ index
unfolding index_in
in_no_first others index = refl

pub in_no_second : (ks : List ℕ) (index : ℕ) → index_in ks [] index ≡ index
unfolding index_in
in_no_second [] index = refl
in_no_second (k ∷ ks) index = refl

-- both have one more
pub in_both :
    (from to : List ℕ) (k index : ℕ) → k < length from → k < length to → index_in (drop k from) (drop k to) index ≡ index_in (get_or from k 0 ∷ drop (k + 1) from) (get_or to k 0 ∷ drop (k + 1) to) index
in_both from to k index one other = ap₂ (λ xs ys. index_in xs ys index) (drop_more from k 0 one) (drop_more to k 0 other)

module _ {T : Type 0} where
  pub renamed_outs : (comes : T → Option Coming) (from to : List ℕ) (seats : List (Seat T)) → outs comes (map (under from to) seats) ≡ renamed from to (outs comes seats)
  renamed_outs comes from to [] = refl
  renamed_outs comes from to (s ∷ ss) = ap (λ os. out_of_seat comes (under from to s) ∷ os) (renamed_outs comes from to ss)

  -- one seat more
  pub renamed_more :
      (from to : List ℕ) (old now : List (Seat T)) (k : ℕ) (x y : Seat T) → k < length old → now ≡ map (under from to) (take k old) ++ drop k old → x ≡ get_or now k x → y ≡ under from to x →
      set now k y ≡ map (under from to) (take (k + 1) old) ++ drop (k + 1) old
  renamed_more from to old now k x y within is read made =
      let front = map (under from to) (take k old) in
      let long : length front ≡ k = length-map (take k old) (under from to) ∙ (let l = length-take k old in omega (arith, l, within)) in
      let parts : now ≡ front ++ get_or old k x ∷ drop (k + 1) old = is ∙ ap (λ rest. front ++ rest) (drop_more old k x within) in
      let was_x : x ≡ get_or old k x = read ∙ ap (λ os. get_or os k x) parts ∙ get_or_at front _ _ x k long in
      let one : map (under from to) (take (k + 1) old) ≡ front ++ y ∷ [] =
      ap (map (under from to)) (take_more old k x within) ∙ map-append (under from to) (take k old) (get_or old k x ∷ []) ∙ ap (λ z. front ++ under from to z ∷ []) (sym was_x) ∙ ap (λ z. front ++ z ∷ []) (sym made) in
      ap (λ os. set os k y) parts ∙ set_at front _ _ y k long ∙ sym (append_assoc front (y ∷ []) _) ∙ ap (λ os. os ++ drop (k + 1) old) (sym one)

  abbrev seat_of : ℕ → T → Seat T
  seat_of index standing = record { index = index; standing = standing }

  pub is_under : (from to : List ℕ) (x y : Seat T) (index : ℕ) → index ≡ index_in from to y.index → x ≡ y → seat_of index y.standing ≡ under from to x
  is_under from to x y index one same = ap₂ seat_of (one ∙ ap (λ (s : Seat T). index_in from to s.index) (sym same)) (ap (λ (s : Seat T). s.standing) (sym same))

  -- and all of them
  pub under_all : (from to : List ℕ) (old now : List (Seat T)) (k : ℕ) → length old ≤ k → now ≡ map (under from to) (take k old) ++ drop k old → now ≡ map (under from to) old
  under_all from to old now k past is =
      is ∙ ap₂ (λ (xs : List (Seat T)) (ys : List (Seat T)). map (under from to) xs ++ ys) (take_all k old past) (drop_all k old past) ∙ append-nil (map (under from to) old)

  pub renamed_all :
      (comes : T → Option Coming) (from to : List ℕ) (old now : List (Seat T)) (k : ℕ) → length old ≤ k → now ≡ map (under from to) (take k old) ++ drop k old → outs comes now ≡ renamed from to (outs comes old)
  renamed_all comes from to old now k past is = ap (outs comes) (under_all from to old now k past is) ∙ renamed_outs comes from to old
