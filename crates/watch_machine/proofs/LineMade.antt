-- LineMade: what a clock finds of the entries is a line, and those in its front go out. For `Line::of` and a whole clock.
use Rattle.std.proofs.Common.{◌≡◌, ◌∙◌, ℕ, zero, suc, ◌<◌, ◌≤◌, ◌==◌, Bool, true, false, Option, Some, None, List, [], ◌∷◌, IsPermutation, filter, length, map, min, get_or, refl, sym, ap, ap₂, subst, arith, inl, inr}
use Rattle.std.proofs.lemmas.{Bool.cases_lt, List.get_or-map, List.length-map, Bool.Decides.nat_tests, List.Folds.list_any_at, Map.Keys.IsDistinct-IsPermutation}
use Rattle.std.proofs.lemmas.List.Sorted.{All-permutation, IsPermutation-map, list_any-IsPermutation}
use Rattle.std.specs.List.{All, list_any, range_with_len}
use Rattle.plan_forest.specs.{declared.entry.Entry.Entry, Forest.Forest, Forest.entry_at}
use Rattle.watch_machine.specs.{declared.clocks.Clocks.Clocks, declared.lanes.Presence.Presence, declared.line.Line.Line, declared.lull.TheConstants.NEVER, declared.sending.Place.Place, declared.track.Track.Track, declared.track.Try.Try}
use Rattle.watch_machine.specs.{Clocks.sec, Lines.is_due, State.track_in, code.Places.place_is}
use Rattle.watch_machine.specs.Sending.{IsSendingOrder, due, is_alone_try, place, place_of}
use Rattle.watch_machine.specs.Wanted.{believed, least, need_of}
use Rattle.watch_machine.specs.code.Line.{IsInLine, IsLine, calm, entries_of, first_left, has, left_at, left_by, rest_of, time_in}
use Rattle.watch_machine.specs.code.View.{HasNeeds, Loads, need_at}
use Rattle.watch_machine.specs.Sending as Sending
use Rattle.watch_machine.proofs.{Cases.not_both, InRound.is_due_paced, Leasts.least_min, Written.range_same}
use Rattle.watch_machine.proofs.Members.{flips, passing_distinct, passing_past, passing_within}

-- a line, by what the entries are found to carry
module _ (g : Forest) (xs : List Track) (c : Clocks) (p : Presence) (needs : Loads) (line : Line) (clocks_are : line.clocks ≡ c) (now : ℕ) (now_is : now ≡ sec c.at) (has' : HasNeeds g.entries xs c needs) where
  abbrev found : ℕ → ℕ
  found i = (need_at needs i)

  left_found : (i : ℕ) → i < length g.entries → left_by g xs (need_of g.entries xs c) p c.at i ≡ left_by g xs found p c.at i
  left_found i within = ap (λ n. left_at g.margin (entry_at g.entries i) n p c.at (track_in xs i)) (sym (has' i within))

  first_found : (last : ℕ) → last ≤ NEVER → line.next ≡ first_left NEVER g xs found p c.at → first_left last g xs (need_of g.entries xs c) p c.at ≡ min last line.next
  first_found last low next =
      let lefts = map (left_by g xs found p c.at) (range_with_len 0 (length g.entries)) in
      ap (least last) (range_same (left_by g xs (need_of g.entries xs c) p c.at) (left_by g xs found p c.at) (length g.entries) left_found)
      ∙ (let e : last ≡ min last NEVER = omega (arith, low) in ap (λ n. least n lefts) e) ∙ least_min last NEVER lefts ∙ ap (min last) (sym next)

  pub line_by :
      IsInLine g p c.at xs (rest_of line) → line.next ≡ first_left NEVER g xs found p c.at →
      ((i : ℕ) → i < length g.entries → is_due p c.at (track_in xs i) ≡ true → line.beyond ≤ left_by g xs found p c.at i) →
      ((i : ℕ) → i < length g.entries → 0 < found i → line.lasting ≤ found i) →
      ((i : ℕ) → i < length g.entries → now < believed (track_in xs i).end → line.lasting ≤ believed (track_in xs i).end) →
      ((i : ℕ) → i < length g.entries → is_due p c.at (track_in xs i) ≡ true → sec c.at < time_in g xs i → line.lasting ≤ time_in g xs i) → p.away ≡ false →
      list_any (λ (x : Track). is_alone_try x.attempt) xs ≡ false → IsLine g xs p (record line { clocks = c })
  line_by order next beyond needed ended timed there together = record {
    order = order;
    next = λ last low never. first_found last never next;
    beyond = λ i within due. let far = beyond i within due in let e = left_found i within in omega (arith, far, e);
    needed = λ i within some. let e = has' i within in let n = needed i within (omega (arith, e, some)) in omega (arith, e, n);
    ended = λ i within living. ended i within (omega (arith, now_is, living));
    timed = timed;
    there = there;
    together = together;
  }

-- the places of entries, and the entries of places
entry_of_place : (margin : ℕ) (e : Entry) (away : Bool) (now i : ℕ) (x : Track) (o : Option Try) → (place_of margin e away now i x o).entry ≡ i
entry_of_place margin e away now i x None = refl
entry_of_place margin e away now i x (Some t) = refl

place_names : (g : Forest) (away : Bool) (now : ℕ) (xs : List Track) (i : ℕ) → (place g away now xs i).entry ≡ i
place_names g away now xs i = entry_of_place g.margin (entry_at g.entries i) away now i (track_in xs i) (track_in xs i).attempt

entries_back : (g : Forest) (p : Presence) (at : ℕ) (xs : List Track) (es : List ℕ) → map (λ (q : Sending.Place). q.entry) (map (place g p.away (sec at) xs) es) ≡ es
entries_back g p at xs [] = refl
entries_back g p at xs (i ∷ es) = ap₂ (λ j js. j ∷ js) (place_names g p.away (sec at) xs i) (entries_back g p at xs es)

places_back : (qs : List Place) → map (λ (q : Sending.Place). q.entry) (map place_is qs) ≡ entries_of qs
places_back [] = refl
places_back (q ∷ qs) = ap (λ es. q.entry ∷ es) (places_back qs)

all_placed : (P : Sending.Place → Type 0) (qs : List Place) → All P (map place_is qs) → All (λ (q : Place). P (place_is q)) qs
all_placed P qs all = λ k d below. subst P (get_or-map place_is qs k d (place_is d) below) (all k (place_is d) (let count = length-map qs place_is in omega (arith, below, count)))

all_mapped : {X Y : Type 0} (P : Y → Type 0) (f : X → Y) (xs : List X) → ((k : ℕ) (d : X) → k < length xs → P (f (get_or xs k d))) → All P (map f xs)
all_mapped P f [] all = λ k d below. absurd (omega (arith, below))
all_mapped P f (x ∷ xs) all = λ k d below. elim k as (λ m. m < length (f x ∷ map f xs) → P (get_or (f x ∷ map f xs) m d)) [
  | zero ↦ (λ _. all 0 x (omega arith))
  | suc m ↦ (λ b. all_mapped P f xs (λ j e low. all (suc j) e (omega (arith, low))) m d (omega (arith, b)))
] below

member_at : (es : List ℕ) (k d : ℕ) → k < length es → has (get_or es k d) es ≡ true
member_at es k d below = list_any_at (λ j. j == get_or es k d) es k d below (let i = get_or es k d in let same : (i == i) ≡ true = grind (arith, nat_tests) in same)

module _ (g : Forest) (p : Presence) (at : ℕ) (xs : List Track) where
  abbrev is_now : ℕ → Bool
  is_now i = is_due p at (track_in xs i)

  abbrev due_ones : List ℕ
  due_ones = filter is_now (range_with_len 0 (length xs))

  abbrev there : ℕ → Sending.Place
  there i = place g p.away (sec at) xs i

  abbrev IsThere : Sending.Place → Type 0
  IsThere q = (q ≡ there q.entry) × (q.entry < length xs)

  within_all : (k d : ℕ) → k < length due_ones → get_or due_ones k d < length xs
  within_all k d below = elim (cases_lt (get_or due_ones k d) (length xs)) [
    | inl inside ↦ inside
    | inr past ↦ absurd (not_both (member_at due_ones k d below) (passing_past is_now (length xs) (get_or due_ones k d) past))
  ]

  all_there : All IsThere (map (place g p.away (sec at) xs) due_ones)
  all_there =
      all_mapped IsThere (place g p.away (sec at) xs) due_ones
      (λ k d below.
      let i = get_or due_ones k d in
      let same = place_names g p.away (sec at) xs i in
      let inside = within_all k d below in
      (sym (ap there same), (omega (arith, same, inside))))

  -- those that are due, sorted, stand in line, whatever answers take
  pub line_in_order : (qs : List Place) → IsSendingOrder g p at xs (map place_is qs) → IsInLine g (calm p) at xs qs
  line_in_order qs is =
      let entry : Sending.Place → ℕ = λ q. q.entry in
      let places = map (place g p.away (sec at) xs) due_ones in
      let order : IsPermutation due_ones (entries_of qs) =
      subst (λ ys. IsPermutation ys (entries_of qs)) (entries_back g p at xs due_ones) (subst (IsPermutation (map entry places)) (places_back qs) (IsPermutation-map entry places (map place_is qs) is.all)) in
      let each : All (λ (q : Place). IsThere (place_is q)) qs = all_placed IsThere qs (All-permutation IsThere places (map place_is qs) is.all all_there) in
      record {
        sorted = is.in_order;
        placed = λ k d below. (each k d below).0;
        within = λ k d below. (each k d below).1;
        distinct = IsDistinct-IsPermutation (λ i j. i == j) flips due_ones (entries_of qs) order (passing_distinct is_now (length xs));
        members = λ i below. is_due_paced p 0 at (track_in xs i) ∙ sym (passing_within is_now (length xs) i below) ∙ list_any-IsPermutation (λ j. j == i) due_ones (entries_of qs) order;
      }
