-- InLine: those that are due, sorted by the order that is derived of their places, stand in line as the definition says. For the
-- requests that go out at a clock.
use Rattle.std.proofs.Common.{◌≡◌, ◌∙◌, ℕ, ◌+◌, ◌<◌, Bool, true, false, cond, ◌&&◌, ◌||◌, ◌==◌, List, [], ◌∷◌, ◌++◌, IsPermutation, IsSortedBy, filter, get_or, length, map, min, nat_lt, take, refl, sym, ap, subst, arith}
use Rattle.std.proofs.lemmas.{Bool.cond-true, Bool.cond-false, List.Sorted.IsPermutation-map}
use Rattle.std.proofs.lemmas.List.{append-nil, get_or-map, length-map, map-append, map_push, take-map, take_min}
use Rattle.std.specs.List.{range_with_len}
use Rattle.std.specs.Ordering.{is_lt, nat_cmp, ordering_then}
use Rattle.std.specs.declared.cmp.Ordering.TheVariants.{Less, Equal, Greater}
use Rattle.plan_search.proofs.Wanted.{asked_more}
use Rattle.plan_forest.specs.Forest.{Forest}
use Rattle.watch_machine.specs.{declared.command.WatchRequest.WatchRequest, declared.lanes.Presence.Presence, declared.sending.Place.Place, declared.track.Track.Track, Clocks.sec, Lines.is_due, State.track_in, code.Places.place_is}
use Rattle.watch_machine.specs.Sending.{IsGoing, IsSendingOrder, due, is_before, place, request}
use Rattle.watch_machine.specs.Sending as Sending

-- the places of those below n that may go out now
abbrev pub due_below : Forest → Presence → ℕ → List Track → ℕ → List Sending.Place
due_below g p at xs n = map (place g p.away (sec at) xs) (filter (λ i. is_due p at (track_in xs i)) (range_with_len 0 n))

below_more :
    (g : Forest) (p : Presence) (at : ℕ) (xs : List Track) (n : ℕ) →
    due_below g p at xs (n + 1) ≡ due_below g p at xs n ++ map (place g p.away (sec at) xs) (cond (is_due p at (track_in xs n)) (n ∷ []) [])
below_more g p at xs n =
    let test : ℕ → Bool = λ i. is_due p at (track_in xs i) in
    ap (map (place g p.away (sec at) xs)) (asked_more test n) ∙ map-append (place g p.away (sec at) xs) (filter test (range_with_len 0 n)) (cond (test n) (n ∷ []) [])

-- one more is due, in this place
pub due_taken :
    (g : Forest) (p : Presence) (at : ℕ) (xs : List Track) (n : ℕ) (ps : List Place) (q : Place) → map place_is ps ≡ due_below g p at xs n → is_due p at (track_in xs n) ≡ true →
    place_is q ≡ place g p.away (sec at) xs n → map place_is (ps ++ q ∷ []) ≡ due_below g p at xs (n + 1)
due_taken g p at xs n ps q so_far is there =
    map_push place_is ps q ∙ ap (λ ys. ys ++ place_is q ∷ []) so_far ∙ ap (λ y. due_below g p at xs n ++ y ∷ []) there
    ∙ sym (below_more g p at xs n ∙ ap (λ is. due_below g p at xs n ++ map (place g p.away (sec at) xs) is) (cond-true (is_due p at (track_in xs n)) (n ∷ []) [] is))

-- or it is not
pub due_left :
    (g : Forest) (p : Presence) (at : ℕ) (xs : List Track) (n : ℕ) (ps : List Place) → map place_is ps ≡ due_below g p at xs n → is_due p at (track_in xs n) ≡ false →
    map place_is ps ≡ due_below g p at xs (n + 1)
due_left g p at xs n ps so_far is =
    so_far
    ∙ sym (below_more g p at xs n ∙ ap (λ is. due_below g p at xs n ++ map (place g p.away (sec at) xs) is) (cond-false (is_due p at (track_in xs n)) (n ∷ []) [] is)
    ∙ append-nil (due_below g p at xs n))

-- the order that is derived of a part, a rank and an index
by_tests :
    (l e m f n g : Bool) →
    is_lt (ordering_then (cond l Less (cond e Equal Greater)) (ordering_then (cond m Less (cond f Equal Greater)) (cond n Less (cond g Equal Greater)))) ≡ l || (e && (m || (f && n)))
by_tests true e m f n g = refl
by_tests false true true f n g = refl
by_tests false true false true true g = refl
by_tests false true false true false true = refl
by_tests false true false true false false = refl
by_tests false true false false n g = refl
by_tests false false m f n g = refl

pub before_is : (x y : Place) → is_lt (ordering_then (nat_cmp x.part y.part) (ordering_then (nat_cmp x.rank y.rank) (nat_cmp x.entry y.entry))) ≡ is_before (place_is x) (place_is y)
before_is x y = by_tests (nat_lt x.part y.part) (x.part == y.part) (nat_lt x.rank y.rank) (x.rank == y.rank) (nat_lt x.entry y.entry) (x.entry == y.entry)

-- sorted, they stand in line
pub line_is :
    (g : Forest) (p : Presence) (at : ℕ) (xs : List Track) (ps qs : List Place) → map place_is ps ≡ due g p at xs → IsPermutation ps qs →
    IsSortedBy (λ a b. is_before (place_is a) (place_is b)) qs → IsSendingOrder g p at xs (map place_is qs)
line_is g p at xs ps qs are all sorted = record {
  all = subst (λ ys. IsPermutation ys (map place_is qs)) are (IsPermutation-map place_is ps qs all);
  in_order = λ k d from within.
      let len = length-map qs place_is in
      let e : Place = record { part = d.part; rank = d.rank; entry = d.entry } in
      let here : k < length qs = omega arith in
      let next : k + 1 < length qs = omega arith in
      subst (λ a. is_before (get_or (map place_is qs) (k + 1) d) a ≡ false) (sym (get_or-map place_is qs k e d here))
      (subst (λ b. is_before b (place_is (get_or qs k e)) ≡ false) (sym (get_or-map place_is qs (k + 1) e d next)) (sorted k e (omega arith) next));
}

pub each_place : (g : Sending.Place → WatchRequest) (qs : List Place) → map (λ q. g (place_is q)) qs ≡ map g (map place_is qs)
each_place g [] = refl
each_place g (q ∷ qs) = ap (λ rs. g (place_is q) ∷ rs) (each_place g qs)

-- and the requests of the first of them go out
pub going_is :
    (g : Forest) (p : Presence) (at : ℕ) (xs : List Track) (lanes many : ℕ) (ps qs : List Place) (requests : List WatchRequest) → map place_is ps ≡ due g p at xs → IsPermutation ps qs →
    IsSortedBy (λ a b. is_before (place_is a) (place_is b)) qs → many ≡ min lanes (length qs) → requests ≡ map (λ q. request p (sec at) xs (place_is q)) (take many qs) →
    IsGoing g p at xs lanes requests
going_is g p at xs lanes many ps qs requests are all sorted most made =
    let f : Place → WatchRequest = λ q. request p (sec at) xs (place_is q) in record {
      picked = take lanes (map place_is qs);
      is_picked = (map place_is qs, (line_is g p at xs ps qs are all sorted, refl));
      requests_are =
          made ∙ ap (λ n. map f (take n qs)) most ∙ ap (map f) (take_min lanes qs) ∙ each_place (request p (sec at) xs) (take lanes qs)
          ∙ ap (map (request p (sec at) xs)) (sym (take-map place_is lanes qs));
    }
