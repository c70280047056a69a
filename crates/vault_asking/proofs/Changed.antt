-- Changed: where another forest is watched, the requests on lanes stay those that the machine has out. For the law of lanes that stay in step.
use Rattle.std.proofs.Common.{◌≡◌, ◌∙◌, ◌==◌, ℕ, ◌+◌, ◌<◌, ◌≤◌, Bool, true, false, cond, if◌then◌else◌, List, [], ◌∷◌, ◌++◌, Option, Some, None, length, map, nat_lt, refl, sym, ap, subst, arith, inl, inr}
use Rattle.std.proofs.lemmas.{Bool.Decides.nat_tests, List.length-map, List.map-append, List.FromFn.length-map-range_with_len, List.Sums.sum_by-cons}
use Rattle.std.proofs.lemmas.Bool.{cases_Bool, cases_lt, cond-false, cond-true, eqb-true}
use Rattle.vault_lanes.specs.Out as lanes
use Rattle.vault_lanes.specs.Out.{index_in, renamed, with_index}
use Rattle.vault_lanes.proofs.Renamed.{in_front, in_rest}
use Rattle.plan_forest.specs.Forest.{Forest, entry_at}
use Rattle.watch_machine.specs.{declared.change.Was.Was, declared.lanes.Out.Out, declared.track.Track.Track, Beginning.untopped_track, State.WatchState, State.track_at}
use Rattle.watch_machine.specs.declared.change.Was.TheVariants.{New, Same, Retold}
use Rattle.watch_machine.specs.Change.{IsChange, changed, entry_by, forest_after, former, former_at, out_after, track_by, tracks_after, was_at}
use Rattle.watch_machine.proofs.Changing.{out_length}
use Rattle.watch_machine.proofs.Moved.{changed_track, former_low, place_there, times_moved, times_new, times_nobody, times_out}
use Rattle.vault_asking.specs.Laws.{ChangeLaw}
use Rattle.vault_asking.specs.InStep.{MachineIsSound, entries_on, entries_out, seats_of, times}
use Rattle.vault_asking.proofs.Sound.{at_most_one, counts, lookup_flag, same_index, skips, times_append, times_cons}

-- ---- the same indices, under others

-- an index that is among some stands between those before it and those behind it
abbrev StandsIn : List ℕ → ℕ → Type 0
StandsIn xs i = (a : List ℕ) × ((b : List ℕ) × (xs ≡ a ++ i ∷ b))

split : (i : ℕ) (xs : List ℕ) → 0 < times i xs → StandsIn xs i
split i [] some = absurd (omega (arith, some))
split i (x ∷ xs) some = elim (cases_Bool (x == i)) as (λ _. StandsIn (x ∷ xs) i) [
  | inl same ↦ ([], (xs, ap (λ n. n ∷ xs) (eqb-true x i same)))
  | inr other ↦ (let s = skips i x xs other in let more = split i xs (omega (arith, some, s)) in (x ∷ more.0, (more.1.0, ap (λ ns. x ∷ ns) more.1.1)))
]

-- lists with the same indices as often have the same ones as often under others
times_map : (f : ℕ → ℕ) (xs ys : List ℕ) → ((i : ℕ) → times i xs ≡ times i ys) → (j : ℕ) → times j (map f xs) ≡ times j (map f ys)
times_map f [] [] same j = refl
times_map f [] (y ∷ ys) same j = absurd (let none = same y in let one = counts y y ys (same_index y) in omega (arith, none, one))
times_map f (x ∷ xs) ys same j =
    let first = counts x x xs (same_index x) in
    let there = same x in
    let parts = split x ys (omega (arith, first, there)) in
    let a = parts.0 in
    let b = parts.1.0 in
    let rest = times_map f xs (a ++ b)
    (λ i.
    (let all = same i in
    let here = times_cons i x xs in
    let whole = ap (times i) parts.1.1 ∙ times_append i a (x ∷ b) in
    let one = times_cons i x b in
    let without = times_append i a b in
    omega (arith, all, here, whole, one, without)))
    j in
    let left = times_cons j (f x) (map f xs) in
    let whole = ap (λ ns. times j (map f ns)) parts.1.1 ∙ ap (times j) (map-append f a (x ∷ b)) ∙ times_append j (map f a) (f x ∷ map f b) in
    let one = times_cons j (f x) (map f b) in
    let without = ap (times j) (map-append f a b) ∙ times_append j (map f a) (map f b) in
    omega (arith, rest, left, whole, one, without)

-- indices that differ from the first are looked for among the others
past_first : (k t : ℕ) (from to xs : List ℕ) → times k xs ≡ 0 → map (index_in (k ∷ from) (t ∷ to)) xs ≡ map (index_in from to) xs
past_first k t from to [] none = refl
past_first k t from to (x ∷ xs) none = elim (cases_Bool (x == k)) [
  | inl same ↦ absurd (let one = counts k x xs same in omega (arith, none, one))
  | inr other ↦
      let less = skips k x xs other in
      let apart : (k == x) ≡ false = grind (arith, nat_tests) in
      ap (λ n. n ∷ map (index_in (k ∷ from) (t ∷ to)) xs) (in_rest k t from to x apart) ∙ ap (λ ns. index_in from to x ∷ ns) (past_first k t from to xs (omega (arith, none, less)))
]

-- those of a list in which none stands twice are the others
all_renamed : (from to : List ℕ) → ((i : ℕ) → times i from ≤ 1) → length from ≡ length to → map (index_in from to) from ≡ to
all_renamed [] [] once long = refl
all_renamed (k ∷ from) (t ∷ to) once long =
    let first = counts k k from (same_index k) in
    let few = once k in
    let rest = all_renamed from to (λ i. (let more = times_cons i k from in let few = once i in omega (arith, more, few))) (omega (arith, long)) in
    ap (λ n. n ∷ map (index_in (k ∷ from) (t ∷ to)) from) (in_front k t from to k (same_index k)) ∙ ap (λ ns. t ∷ ns) (past_first k t from to from (omega (arith, first, few)) ∙ rest)
all_renamed _ _ once long = absurd (omega (arith, long))

indices_renamed : (from to : List ℕ) (out : List lanes.Out) → entries_on (renamed from to out) ≡ map (index_in from to) (entries_on out)
indices_renamed from to [] = refl
indices_renamed from to (o ∷ os) = ap (λ ns. index_in from to o.index ∷ ns) (indices_renamed from to os)

-- ---- what the machine has out

-- how often an index is among those of requests
times_under : (i : ℕ) (out : List Out) → times i (map (λ (r : Out). r.entry) out) ≡ times_out i out
times_under i [] = refl
times_under i (r ∷ rest) =
    times_cons i r.entry (map (λ (q : Out). q.entry) rest) ∙ ap (λ k. cond (r.entry == i) 1 0 + k) (times_under i rest) ∙ sym (sum_by-cons (λ (q : Out). cond (q.entry == i) 1 0) r rest)

module _ (old : WatchState) (g : Forest) (was : List Was) (may : IsChange (length old.forest.entries) g was) where
  low : (i j : ℕ) → former_at was j ≡ Some i → j < length g.entries
  low i j said = former_low (length old.forest.entries) g was may i j said

  -- one may be out where one might
  its_seats : (i j : ℕ) → former_at was j ≡ Some i → (track_by old.clocks.at old.tracks (entry_at g.entries j) (was_at was j)).out ≡ (track_at old i).out → seats_of (changed old g was) j ≡ seats_of old i
  unfolding forest_after
  its_seats i j said flag =
      let many : length (changed old g was).forest.entries ≡ length g.entries =
      length-map-range_with_len (λ k. entry_by g.margin old.forest.entries (entry_at g.entries k) (was_at was k)) 0 (length g.entries) in
      let within = low i j said in
      let before = may.within i j said in
      let here : nat_lt j (length (changed old g was).forest.entries) ≡ true = grind (arith, nat_tests) in
      let there : nat_lt i (length old.forest.entries) ≡ true = grind (arith, nat_tests) in
      let marked : (track_at (changed old g was) j).out ≡ (track_at old i).out = ap (λ (x : Track). x.out) (changed_track old g was j within) ∙ flag in
      cond-true (nat_lt j (length (changed old g was).forest.entries)) (if (track_at (changed old g was) j).out then 1 else 0) 1 here
      ∙ ap {B = ℕ} (λ (b : Bool). if b then 1 else 0) marked
      ∙ sym (cond-true (nat_lt i (length old.forest.entries)) (if (track_at old i).out then 1 else 0) 1 there)

  flag_by : (j i : ℕ) (w : Was) → former w ≡ Some i → (track_by old.clocks.at old.tracks (entry_at g.entries j) w).out ≡ (track_at old i).out
  flag_by j i New said = absurd cc
  flag_by j i (Same k) said = let same : k ≡ i = cc in ap (λ n. (track_at old n).out) same
  flag_by j i (Retold k) said = let same : k ≡ i = cc in lookup_flag old.clocks.at (untopped_track (track_at old k)) ∙ ap (λ n. (track_at old n).out) same

  once_now : MachineIsSound old → (j : ℕ) → times j (entries_out (changed old g was)) ≤ seats_of (changed old g was) j
  unfolding forest_after
  once_now sound j =
      let n = length g.entries in
      let many : length (changed old g was).forest.entries ≡ n = length-map-range_with_len (λ k. entry_by g.margin old.forest.entries (entry_at g.entries k) (was_at was k)) 0 n in
      let under = times_under j (out_after was n old.out) in
      elim (cases_lt j n) as (λ _. times j (entries_out (changed old g was)) ≤ seats_of (changed old g was) j) [
        | inl within ↦ by within (former_at was j) refl
        | inr past ↦
            let few = times_nobody n was low n j old.out past in
            let free : nat_lt j (length (changed old g was).forest.entries) ≡ false = grind (arith, nat_tests) in
            let one : seats_of (changed old g was) j ≡ 1 = cond-false (nat_lt j (length (changed old g was).forest.entries)) (if (track_at (changed old g was) j).out then 1 else 0) 1 free in
            omega (arith, under, few, one)
      ] where
        by : j < length g.entries → (o : Option ℕ) → former_at was j ≡ o → times j (entries_out (changed old g was)) ≤ seats_of (changed old g was) j
        by within None new =
            let under = times_under j (out_after was (length g.entries) old.out) in
            let none = times_new (length g.entries) (length g.entries) was j old.out (omega arith) within new in
            omega (arith, under, none)
        by within (Some i) said =
            let under = times_under j (out_after was (length g.entries) old.out) in
            let before = times_under i old.out in
            let there = place_there was i j said (λ k other. may.once i j k said other) in
            let same = times_moved (length g.entries) (length g.entries) was i j old.out (omega arith) within said there in
            let few = sound.once i in
            let seats = its_seats i j said (flag_by j i (was_at was j) said) in
            omega (arith, under, before, same, few, seats)

  sound_now : MachineIsSound old → MachineIsSound (changed old g was)
  unfolding forest_after tracks_after
  sound_now sound = record {
    count = length-map-range_with_len (λ k. track_by old.clocks.at old.tracks (entry_at g.entries k) (was_at was k)) 0 (length g.entries)
        ∙ sym (length-map-range_with_len (λ k. entry_by g.margin old.forest.entries (entry_at g.entries k) (was_at was k)) 0 (length g.entries));
    once = once_now sound;
  }

-- ---- the lanes

pub change_law : ChangeLaw
change_law old c width out h abreast =
    let state = h.state in
    let from = entries_out old in
    let to = entries_out c.state in
    let sound : MachineIsSound c.state = subst MachineIsSound (sym state) (sound_now old c.forest c.was h.may abreast.sound) in
    let many : length c.state.out ≡ length old.out = ap (λ (s : WatchState). length s.out) state ∙ out_length c.was (length c.forest.entries) old.out in
    let long : length from ≡ length to = length-map old.out (λ (r : Out). r.entry) ∙ sym many ∙ sym (length-map c.state.out (λ (r : Out). r.entry)) in
    let all = all_renamed from to (λ i. (let few = abreast.sound.once i in let one = at_most_one old i in omega (arith, few, one))) long in
    let count = length-map out (with_index from to) in
    let room = abreast.room in
    record {
      width_is = ap (λ (s : WatchState). s.width) state ∙ abreast.width_is;
      room = omega (arith, count, room);
      sound = sound;
      in_step = record {
        count = count ∙ abreast.in_step.count ∙ sym many;
        each = λ j. ap (times j) (indices_renamed from to out) ∙ times_map (index_in from to) (entries_on out) from abreast.in_step.each j ∙ ap (times j) all;
      };
    }
