-- Needing: an entry that has to be led on is wanted, and no other; it would not be so if a need were dropped or added. For the laws of needs.
use Rattle.std.proofs.Common.{◌≡◌, ◌⊎◌, ◌∙◌, ℕ, zero, suc, ◌+◌, ◌-◌, ◌<◌, ◌≤◌, Bool, true, false, not, ◌&&◌, ◌||◌, ◌==◌, List, [], ◌∷◌, Option, Some, None, filter, fold, length, map, min, nat_lt, refl, sym, ap, arith, inl, inr}
use Rattle.std.proofs.lemmas.{Bool.Decides.nat_tests, List.FromFn.get_or-map-range_with_len, List.FromFn.length-map-range_with_len}
use Rattle.std.proofs.lemmas.Bool.{and_from, cases_Bool, cases_lt, or_left, or_right}
use Rattle.std.specs.List.{list_any, range_with_len}
use Rattle.base_moment.specs.declared.moment.TheConstants.{LAST}
use Rattle.plan_forest.specs.{declared.entry.Entry.Entry, declared.entry.Kind.TheVariants.Token, declared.forest.TheConstants.END_MAX, Carried.carried, Forest.entry_at, Forest.no_entry}
use Rattle.plan_forest.specs.Over.{Over, chain, chain_of, is_over}
use Rattle.plan_forest.proofs.Entries.{entry_at_past}
use Rattle.plan_forest.proofs.Carrying.{and_left, and_right, carried_at_least, carried_is_of, or_parts}
use Rattle.watch_machine.specs.{declared.clocks.Clocks.Clocks, declared.track.End.End, declared.track.Track.Track, Beginning.is_called, Clocks.sec, Clocks.to_here}
use Rattle.watch_machine.specs.declared.track.End.TheVariants.{Unknown, At, Never}
use Rattle.watch_machine.specs.State.{WatchState, entry_of, has_last_try, opened, second, track_at, track_in}
use Rattle.watch_machine.specs.Wanted.{believed, cut_need, fixed_ends, free_entry, free_need, is_fixed, is_known, is_never, is_unknown, is_wanted, least, least_over, limit, need_here, need_of, seen_entry, view, wanted_need, wants}
use Rattle.watch_machine.proofs.{Cases.if_cases, Cases.not_both, Leasts.least_start, Opening.seen_at}
use Rattle.watch_laws.specs.Calm.{planned_need}
use Rattle.watch_laws.specs.Needs.{CalledLaw, HasToBeLed, IsEndToBeLed, IsNeedUntil, IsNeeded, IsNeededBy, IsOpenUntil, MayBeNeeded, NeededBy, NeededLaw, NoneAddedLaw, NoneDroppedLaw, WantedLaw, is_wanted_by, seen_by}
use Rattle.watch_laws.proofs.Trying.{need_cut, need_free}

-- the chain above an entry, by its parent
abbrev up : ℕ → List Entry → Option ℕ → List ℕ
up n es o = elim o [ None ↦ [] | Some p ↦ chain_of n es p ]

-- entries of the same parents stand over one another alike
module _ (es fs : List Entry) (same : (i : ℕ) → (entry_at fs i).parent ≡ (entry_at es i).parent) where
  up_same : (n : ℕ) → ((p : ℕ) → chain_of n fs p ≡ chain_of n es p) → (o : Option ℕ) → up n fs o ≡ up n es o
  up_same n each None = refl
  up_same n each (Some p) = each p

  chain_of_same : (n i : ℕ) → chain_of n fs i ≡ chain_of n es i
  unfolding chain_of
  chain_of_same zero i = refl
  chain_of_same (suc n) i = ap (λ o. i ∷ up n fs o) (same i) ∙ ap (λ is. i ∷ is) (up_same n (λ p. chain_of_same n p) ((entry_at es i).parent))

  over_same : (a i : ℕ) → is_over fs a i ≡ is_over es a i
  unfolding is_over chain
  over_same a i = ap (list_any (λ b. b == a)) (chain_of_same (suc i) i)

-- and entries as they are seen have the same parents
seen_parent : (es : List Entry) (xs : List Track) (c : Clocks) (i : ℕ) → (seen_entry es xs c i).parent ≡ (entry_at es i).parent
unfolding seen_entry
seen_parent es xs c i = refl

view_parent : (es : List Entry) (xs : List Track) (c : Clocks) (i : ℕ) → (entry_at (view es xs c) i).parent ≡ (entry_at es i).parent
view_parent es xs c i =
    elim (cases_lt i (length es)) [
      | inl within ↦ ap (λ (e : Entry). e.parent) (seen_at es xs c i within) ∙ seen_parent es xs c i
      | inr past ↦
          let count = length-map-range_with_len (seen_entry es xs c) 0 (length es) in
          ap (λ (e : Entry). e.parent) (entry_at_past (view es xs c) i (omega (arith, count, past)) ∙ sym (entry_at_past es i past))
    ]

-- the least of a number and of the ends that are fixed is not before a second before which none is
least_at_least :
    (xs : List Track) (until m : ℕ) (is : List ℕ) → until ≤ m → ((a : ℕ) → list_any (λ b. b == a) is ≡ true → is_fixed (track_in xs a) ≡ true → until ≤ believed (track_in xs a).end) →
    until ≤ least m (fixed_ends xs is)
least_at_least xs until m [] h open' = h
least_at_least xs until m (i ∷ is) h open' =
    let rest : (a : ℕ) → list_any (λ b. b == a) is ≡ true → is_fixed (track_in xs a) ≡ true → until ≤ believed (track_in xs a).end =
    λ a there. open' a (or_right (i == a) (list_any (λ b. b == a) is) there) in
    if_cases (λ (ys : List ℕ). until ≤ fold min m (map (λ a. believed (track_in xs a).end) ys)) (is_fixed (track_in xs i)) (i ∷ filter (λ a. is_fixed (track_in xs a)) is)
    (filter (λ a. is_fixed (track_in xs a)) is)
    (λ fixed. let here = open' i (or_left (i == i) (list_any (λ b. b == i) is) (grind (arith, nat_tests))) fixed in
    least_at_least xs until (min m (believed (track_in xs i).end)) is (omega (arith, h, here)) rest)
    (λ other. least_at_least xs until m is h rest)

limit_at_least :
    (es : List Entry) (xs : List Track) (until j : ℕ) → until ≤ END_MAX → ((a : ℕ) → Over es a j → is_fixed (track_in xs a) ≡ true → until ≤ believed (track_in xs a).end) →
    until ≤ limit es xs j
unfolding least_over is_over
limit_at_least es xs until j low open' = least_at_least xs until END_MAX (chain es j) low open'

-- there is no need past the last entry
need_inside : (es : List Entry) (j : ℕ) → 0 < (entry_at es j).need → j < length es
need_inside es j some =
    elim (cases_lt j (length es)) [
      | inl within ↦ within
      | inr past ↦ let none = ap (λ (e : Entry). e.need) (entry_at_past es j past) in absurd (omega (arith, none, some))
    ]

-- and a need that is ahead by a clock is so here
need_ahead : (c : Clocks) (need until : ℕ) → IsNeedUntil c need until → until ≤ need_here c need
unfolding need_here to_here
need_ahead c need until h =
    let some = h.some in
    let shown = h.shown in
    if_cases (λ n. until ≤ n) (need == 0) 0 _ (λ none. absurd (let is : need ≡ 0 = grind (arith, nat_tests) in omega (arith, is, some)))
    (λ other. elim (h.by_a_clock) [ inl by ↦ omega (arith, by, shown) | inr by ↦ omega (arith, by, shown) ])

-- nothing over j is fixed before that second, by the machine's words
not_before : (x : Track) (until end : ℕ) → x.end ≡ At end → (end < until → (x.renewable ≡ true) × (x.top ≡ false)) → is_fixed x ≡ true → until ≤ end
not_before x until end is may fixed =
    elim (cases_lt end until) [
      | inr after ↦ after
      | inl before ↦
          let leads = (may before).0 in
          let led = (may before).1 in
          absurd (led_on x leads led fixed)
    ] where
      by : (known renewable top : Bool) → renewable ≡ true → top ≡ false → known && (not renewable || top) ≡ true → ⊥
      by true true false leads led yes' = absurd cc
      by false true false leads led yes' = absurd cc
      by known false top leads led yes' = absurd cc
      by known true true leads led yes' = absurd cc

      led_on : (x : Track) → x.renewable ≡ true → x.top ≡ false → is_fixed x ≡ true → ⊥
      led_on x leads led yes' = by (is_known x.end) x.renewable x.top leads led yes'

open_to : (x : Track) (until : ℕ) → until ≤ LAST → ((end : ℕ) → x.end ≡ At end → end < until → (x.renewable ≡ true) × (x.top ≡ false)) → is_fixed x ≡ true → until ≤ believed x.end
open_to x until shown may fixed = by x.end refl where
  by : (it : End) → x.end ≡ it → until ≤ believed x.end
  by Unknown is = absurd (let none : is_known x.end ≡ false = ap is_known is in let some : is_known x.end ≡ true = and_left (is_known x.end) (not x.renewable || x.top) fixed in grind (arith, none, some))
  by (At end) is =
      let here : believed x.end ≡ end = ap believed is in
      let late = not_before x until end is (may end is) fixed in
      omega (arith, here, late)
  by Never is = let here : believed x.end ≡ END_MAX = ap believed is in omega (arith, here, shown)

open_here : (s : WatchState) (j until : ℕ) → until ≤ LAST → IsOpenUntil s j until → (a : ℕ) → Over s.forest.entries a j → is_fixed (track_at s a) ≡ true → until ≤ believed (track_at s a).end
open_here s j until shown open' a over fixed = open_to (track_at s a) until shown (λ end is before. open' a end over is before) fixed

seen_need : (es : List Entry) (xs : List Track) (c : Clocks) (j : ℕ) → (seen_entry es xs c j).need ≡ min (need_here c (entry_at es j).need) (limit es xs j)
unfolding seen_entry
seen_need es xs c j = refl

-- so much is carried
carries :
    (es : List Entry) (xs : List Track) (c : Clocks) (i j until : ℕ) → j < length es → Over es i j → until ≤ need_here c (entry_at es j).need → until ≤ limit es xs j → sec c.at < until →
    until ≤ cut_need es xs c i
unfolding cut_need
carries es xs c i j until within over needed limited ahead =
    let v = view es xs c in
    let is = ap (λ (e : Entry). e.need) (seen_at es xs c j within) ∙ seen_need es xs c j in
    let high : until ≤ (entry_at v j).need = omega (arith, is, needed, limited) in
    let least = carried_at_least v (sec c.at) i j (over_same es v (view_parent es xs c) i j ∙ over) (omega (arith, high, ahead)) in
    omega (arith, least, high)

-- and with no limit at all
abbrev frees : List Entry → Clocks → List Entry
frees es c = map (free_entry es c) (range_with_len 0 (length es))

free_at : (es : List Entry) (c : Clocks) (k : ℕ) → k < length es → entry_at (frees es c) k ≡ free_entry es c k
unfolding entry_at
free_at es c k within = get_or-map-range_with_len (free_entry es c) 0 (length es) k k no_entry within (omega arith)

free_parent : (es : List Entry) (c : Clocks) (i : ℕ) → (entry_at (frees es c) i).parent ≡ (entry_at es i).parent
free_parent es c i =
    elim (cases_lt i (length es)) [
      | inl within ↦ ap (λ (e : Entry). e.parent) (free_at es c i within)
      | inr past ↦
          let count = length-map-range_with_len (free_entry es c) 0 (length es) in
          ap (λ (e : Entry). e.parent) (entry_at_past (frees es c) i (omega (arith, count, past)) ∙ sym (entry_at_past es i past))
    ]

free_carries : (es : List Entry) (c : Clocks) (i j until : ℕ) → j < length es → Over es i j → until ≤ need_here c (entry_at es j).need → sec c.at < until → until ≤ free_need es c i
unfolding free_need
free_carries es c i j until within over needed ahead =
    let v = frees es c in
    let is = ap (λ (e : Entry). e.need) (free_at es c j within) in
    let high : until ≤ (entry_at v j).need = omega (arith, is, needed) in
    let least = carried_at_least v (sec c.at) i j (over_same es v (free_parent es c) i j ∙ over) (omega (arith, high, ahead)) in
    omega (arith, least, high)

-- who has to be led on to a need is wanted
wanted_by : (x : Track) (need until : ℕ) → IsEndToBeLed until x.renewable x.end → (not x.top || x.last_try) ≡ true → 0 < until → until ≤ need → wants x need ≡ true
unfolding wants
wanted_by x need until ends led some carried' = of x.end refl ends where
  by :
      (x.renewable || is_unknown x.end) ≡ true → not (is_never x.end) ≡ true → believed x.end < need →
      ((x.renewable || is_unknown x.end) && ((not x.top || x.last_try) && (not (is_never x.end) && nat_lt (believed x.end) need))) ≡ true
  by leads ended after =
      and_from (x.renewable || is_unknown x.end) ((not x.top || x.last_try) && (not (is_never x.end) && nat_lt (believed x.end) need)) leads
      (and_from (not x.top || x.last_try) (not (is_never x.end) && nat_lt (believed x.end) need) led (and_from (not (is_never x.end)) (nat_lt (believed x.end) need) ended (grind (arith, nat_tests))))

  of : (it : End) → x.end ≡ it → IsEndToBeLed until x.renewable it → ((x.renewable || is_unknown x.end) && ((not x.top || x.last_try) && (not (is_never x.end) && nat_lt (believed x.end) need))) ≡ true
  of Unknown is h =
      let here : believed x.end ≡ 0 = ap believed is in
      by (or_right x.renewable (is_unknown x.end) (ap is_unknown is)) (ap (λ e. not (is_never e)) is) (omega (arith, here, some, carried'))
  of (At end) is h =
      let here : believed x.end ≡ end = ap believed is in
      let before = h.1 in
      by (or_left x.renewable (is_unknown x.end) h.0) (ap (λ e. not (is_never e)) is) (omega (arith, here, before, carried'))
  of Never is h = absurd h

tried : (top last : Bool) → top && last ≡ true → (not top || last) ≡ true
tried true last h = h
tried false last h = absurd cc

pub needed : NeededLaw
needed s i j until h =
    let es = s.forest.entries in
    let x = track_at s i in
    let ahead = h.ahead in
    let shown = h.needed.shown in
    let within = need_inside es j h.needed.some in
    let here = need_ahead s.clocks ((entry_of s j).need) until h.needed in
    elim h.may as (λ _. is_wanted s i ≡ true) [
      | inl may ↦
          let limited = limit_at_least es s.tracks until j (omega (arith, shown)) (open_here s j until shown may.1) in
          let n = need_cut es s.tracks s.clocks i may.0 in
          let c = carries es s.tracks s.clocks i j until within h.over here limited ahead in
          wanted_by x (wanted_need s i) until h.ends (or_left (not x.top) x.last_try (ap not may.0)) (omega (arith, ahead)) (omega (arith, n, c))
      | inr tries ↦
          let n = need_free es s.tracks s.clocks i tries in
          let c = free_carries es s.clocks i j until within h.over here ahead in
          wanted_by x (wanted_need s i) until h.ends (tried x.top x.last_try tries) (omega (arith, ahead)) (omega (arith, n, c))
    ]

ours : (s : WatchState) (i : ℕ) → is_wanted_by need_here s i ≡ is_wanted s i
unfolding need_of cut_need free_need seen_entry
ours s i = refl

-- one entry alone, renewable, with that need and that end
abbrev lone_entry : ℕ → Entry
lone_entry need = record { name = []; kind = Token; parent = None; end = 0; renewable = true; step = 0; ceiling = None; need = need }

abbrev lone_track : ℕ → Track
lone_track end = record { end = At end; renewable = true; top = false; last_try = false; grant = None; owes = false; attempt = None; last = None; out = false }

abbrev alone : Clocks → ℕ → ℕ → WatchState
alone c need end = record (opened (record { entries = lone_entry need ∷ []; margin = 0 }) 1) { tracks = lone_track end ∷ []; clocks = c }

-- has to be led on to a need that is ahead
alone_open : (c : Clocks) (need end a e : ℕ) → (track_at (alone c need end) a).end ≡ At e → ((track_at (alone c need end) a).renewable ≡ true) × ((track_at (alone c need end) a).top ≡ false)
alone_open c need end zero e is = (refl, refl)
alone_open c need end (suc a) e is = absurd cc

alone_led : (c : Clocks) (need until : ℕ) → IsNeedUntil c need until → sec c.at < until → HasToBeLed (alone c need (until - 1)) 0 0 until
unfolding is_over chain chain_of entry_at
alone_led c need until h ahead = record {
  ends = (refl, omega arith);
  may = inl (refl, λ a end over is before. alone_open c need (until - 1) a end is);
  over = refl;
  needed = h;
  ahead = ahead;
}

-- and carries no more than what its need is brought to
alone_need : (here : Clocks → ℕ → ℕ) (c : Clocks) (need end k : ℕ) → (entry_at (map (seen_by here (alone c need end)) (range_with_len 0 1)) k).need ≤ here c need
unfolding entry_at
alone_need here c need end zero =
    let is = ap (λ (e : Entry). e.need) (get_or-map-range_with_len (seen_by here (alone c need end)) 0 1 0 0 no_entry (omega arith) (omega arith)) in
    omega (arith, is)
alone_need here c need end (suc k) =
    let es = map (seen_by here (alone c need end)) (range_with_len 0 1) in
    let count = length-map-range_with_len (seen_by here (alone c need end)) 0 1 in
    let none = ap (λ (e : Entry). e.need) (entry_at_past es (suc k) (omega (arith, count))) in
    omega (arith, none)

after_end : (x : Track) (need end : ℕ) → x.end ≡ At end → wants x need ≡ true → end < need
unfolding wants
after_end x need end is wanted =
    let rest = and_right (x.renewable || is_unknown x.end) ((not x.top || x.last_try) && (not (is_never x.end) && nat_lt (believed x.end) need)) wanted in
    let last = and_right (not (is_never x.end)) (nat_lt (believed x.end) need) (and_right (not x.top || x.last_try) (not (is_never x.end) && nat_lt (believed x.end) need) rest) in
    let here : believed x.end ≡ end = ap believed is in
    let after : believed x.end < need = grind (arith, nat_tests) in
    omega (arith, here, after)

no_less : (here : Clocks → ℕ → ℕ) → NeededBy here → (c : Clocks) (need until : ℕ) → IsNeedUntil c need until → sec c.at < until → until ≤ here c need
no_less here law c need until h ahead =
    let s = alone c need (until - 1) in
    let v = map (seen_by here s) (range_with_len 0 1) in
    let wanted = law s 0 0 until (alone_led c need until h ahead) in
    let f = carried_is_of v (sec c.at) 0 (until - 1) (after_end (lone_track (until - 1)) (carried v (sec c.at) 0) (until - 1) refl wanted) in
    let more = f.3 in
    let most = alone_need here c need (until - 1) f.0 in
    omega (arith, more, most)

pub none_dropped : NoneDroppedLaw
none_dropped = record { ours = ours; no_less = no_less }

-- the contrary: a second that a need reaches here is no later than it by one of the clocks
need_is : (c : Clocks) (need until : ℕ) → 0 < until → until ≤ need_here c need → IsNeedUntil c need until
unfolding need_here to_here
need_is c need until some reaches =
    if_cases (λ n. until ≤ n → IsNeedUntil c need until) (need == 0) 0 _ (λ none high. absurd (omega (arith, some, high)))
    (λ other high. let asks : 0 < need = grind (arith, nat_tests, other) in
    elim (cases_lt (to_here c.broker need) until) [
      | inr by ↦ record { some = asks; by_a_clock = inl (omega (arith, by, some)); shown = omega (arith, high) }
      | inl less ↦ record { some = asks; by_a_clock = inr (omega (arith, less, high, some)); shown = omega (arith, high) }
    ])
    reaches

-- no limit is after an end over it that is fixed
least_at_most :
    (xs : List Track) (m : ℕ) (is : List ℕ) (a : ℕ) → list_any (λ b. b == a) is ≡ true → is_fixed (track_in xs a) ≡ true → least m (fixed_ends xs is) ≤ believed (track_in xs a).end
least_at_most xs m [] a there fixed = absurd cc
least_at_most xs m (i ∷ is) a there fixed =
    if_cases (λ (ys : List ℕ). fold min m (map (λ b. believed (track_in xs b).end) ys) ≤ believed (track_in xs a).end) (is_fixed (track_in xs i))
    (i ∷ filter (λ b. is_fixed (track_in xs b)) is) (filter (λ b. is_fixed (track_in xs b)) is)
    (λ yes'. or_parts (i == a) (list_any (λ b. b == a) is) _ there
    (λ same. let is_i : i ≡ a = grind (arith, nat_tests, same) in
    let end_is : believed (track_in xs i).end ≡ believed (track_in xs a).end = ap (λ k. believed (track_in xs k).end) is_i in
    let start = least_start (min m (believed (track_in xs i).end)) (fixed_ends xs is) in
    omega (arith, end_is, start))
    (λ later. least_at_most xs (min m (believed (track_in xs i).end)) is a later fixed))
    (λ no'. or_parts (i == a) (list_any (λ b. b == a) is) _ there
    (λ same. let is_i : i ≡ a = grind (arith, nat_tests, same) in absurd (not_both fixed (ap (λ k. is_fixed (track_in xs k)) (sym is_i) ∙ no')))
    (λ later. least_at_most xs m is a later fixed))

limit_at_most : (es : List Entry) (xs : List Track) (a j : ℕ) → Over es a j → is_fixed (track_in xs a) ≡ true → limit es xs j ≤ believed (track_in xs a).end
unfolding least_over is_over
limit_at_most es xs a j over fixed = least_at_most xs END_MAX (chain es j) a over fixed

-- who is not fixed, and ends, is renewable and not at its top
not_fixed : (x : Track) (end : ℕ) → x.end ≡ At end → is_fixed x ≡ false → (x.renewable ≡ true) × (x.top ≡ false)
not_fixed x end is open' = by x.renewable x.top (ap (λ e. is_known e && (not x.renewable || x.top)) (sym is) ∙ open') where
  by : (renewable top : Bool) → (not renewable || top) ≡ false → (renewable ≡ true) × (top ≡ false)
  by true false leads = (refl, refl)
  by true true leads = absurd cc
  by false top leads = absurd cc

-- so nothing over it is fixed before its limit
open_before : (s : WatchState) (j until : ℕ) → until ≤ limit s.forest.entries s.tracks j → IsOpenUntil s j until
open_before s j until low a end over is before =
    elim (cases_Bool (is_fixed (track_at s a))) [
      | inl fixed ↦
          let most = limit_at_most s.forest.entries s.tracks a j over fixed in
          let here : believed (track_at s a).end ≡ end = ap believed is in
          absurd (omega (arith, low, most, here, before))
      | inr open' ↦ not_fixed (track_at s a) end is open'
    ]

-- an entry that is wanted has an end that has to be led on, is not at its top or has its last try, and its end is before what it carries
end_led : (until : ℕ) (renewable : Bool) (it : End) → (renewable || is_unknown it) ≡ true → not (is_never it) ≡ true → believed it < until → IsEndToBeLed until renewable it
end_led until renewable Unknown leads ended before = tt
end_led until true (At end) leads ended before = (refl, before)
end_led until _ _ leads ended before = absurd cc

pub is_not : (b : Bool) → not b ≡ true → b ≡ false
is_not true h = absurd cc
is_not false h = refl

pub wants_parts : (x : Track) (need : ℕ) → wants x need ≡ true → ((x.renewable || is_unknown x.end) ≡ true) × (((not x.top || x.last_try) ≡ true) × ((not (is_never x.end) ≡ true) × (believed x.end < need)))
unfolding wants
wants_parts x need wanted =
    let leads = and_left (x.renewable || is_unknown x.end) ((not x.top || x.last_try) && (not (is_never x.end) && nat_lt (believed x.end) need)) wanted in
    let rest = and_right (x.renewable || is_unknown x.end) ((not x.top || x.last_try) && (not (is_never x.end) && nat_lt (believed x.end) need)) wanted in
    let led = and_left (not x.top || x.last_try) (not (is_never x.end) && nat_lt (believed x.end) need) rest in
    let last = and_right (not x.top || x.last_try) (not (is_never x.end) && nat_lt (believed x.end) need) rest in
    let ended = and_left (not (is_never x.end)) (nat_lt (believed x.end) need) last in
    let test = and_right (not (is_never x.end)) (nat_lt (believed x.end) need) last in
    let after : believed x.end < need = grind (arith, nat_tests, test) in
    (leads, (led, (ended, after)))

-- so is one with another need after its end
pub wants_by : (x : Track) (m n : ℕ) → wants x m ≡ true → believed x.end < n → wants x n ≡ true
unfolding wants
wants_by x m n wanted before =
    let parts = wants_parts x m wanted in
    and_from (x.renewable || is_unknown x.end) ((not x.top || x.last_try) && (not (is_never x.end) && nat_lt (believed x.end) n)) parts.0
    (and_from (not x.top || x.last_try) (not (is_never x.end) && nat_lt (believed x.end) n) parts.1.0 (and_from (not (is_never x.end)) (nat_lt (believed x.end) n) parts.1.1.0 (grind (arith, nat_tests, before))))

-- and whoever is at its top then has its last try
pub tries_last : (x : Track) (need : ℕ) → x.top ≡ true → wants x need ≡ true → has_last_try x ≡ true
tries_last x need topped wanted = by x.top x.last_try topped (wants_parts x need wanted).1.0 where
  by : (top last : Bool) → top ≡ true → (not top || last) ≡ true → top && last ≡ true
  by true last is more = more
  by false last is more = absurd cc

-- and what it carries is the need of one that it is over
needed_past : (s : WatchState) (i b : ℕ) → b < planned_need s i → (j : ℕ) × ((until : ℕ) × ((b < until) × IsNeededBy s i j until))
unfolding cut_need
needed_past s i b more =
    let es = s.forest.entries in
    let v = view es s.tracks s.clocks in
    let f = carried_is_of v (second s) i b more in
    let j = f.0 in
    let until = (entry_at v j).need in
    let ahead : second s < until = f.2 in
    let count = length-map-range_with_len (seen_entry es s.tracks s.clocks) 0 (length es) in
    let some : 0 < until = omega (arith, ahead) in
    let within : j < length es = let inside = need_inside v j some in omega (arith, count, inside) in
    let is = ap (λ (e : Entry). e.need) (seen_at es s.tracks s.clocks j within) ∙ seen_need es s.tracks s.clocks j in (
      j,
      (
        until,
        (
          f.3,
          record {
            over = sym (over_same es v (view_parent es s.tracks s.clocks) i j) ∙ f.1;
            needed = need_is s.clocks (entry_of s j).need until some (omega (arith, is));
            ahead = ahead;
            open_until = open_before s j until (omega (arith, is));
          },
        ),
      ),
    )

-- that of one with its last try with no limit
record IsCarriedFreely (s : WatchState) (i j until : ℕ) : Type 0 where
  over : Over s.forest.entries i j
  needed : IsNeedUntil s.clocks (entry_of s j).need until
  ahead : second s < until

freely_past : (s : WatchState) (i b : ℕ) → b < free_need s.forest.entries s.clocks i → (j : ℕ) × ((until : ℕ) × ((b < until) × IsCarriedFreely s i j until))
unfolding free_need
freely_past s i b more =
    let es = s.forest.entries in
    let v = frees es s.clocks in
    let f = carried_is_of v (second s) i b more in
    let j = f.0 in
    let until = (entry_at v j).need in
    let ahead : second s < until = f.2 in
    let count = length-map-range_with_len (free_entry es s.clocks) 0 (length es) in
    let some : 0 < until = omega (arith, ahead) in
    let within : j < length es = let inside = need_inside v j some in omega (arith, count, inside) in
    let is = ap (λ (e : Entry). e.need) (free_at es s.clocks j within) in (
      j,
      (
        until,
        (
          f.3,
          record {
            over = sym (over_same es v (free_parent es s.clocks) i j) ∙ f.1;
            needed = need_is s.clocks (entry_of s j).need until some (omega (arith, is));
            ahead = ahead;
          },
        ),
      ),
    )

not_at_top : (top last : Bool) → top && last ≡ false → (not top || last) ≡ true → top ≡ false
not_at_top true last none more = absurd (not_both more none)
not_at_top false last none more = refl

pub only_needed : WantedLaw
only_needed s i wanted =
    let es = s.forest.entries in
    let x = track_at s i in
    let parts = wants_parts x (wanted_need s i) wanted in
    let after = parts.1.1.1 in
    elim (cases_Bool (has_last_try x)) as (λ _. (j : ℕ) × ((until : ℕ) × HasToBeLed s i j until)) [
      | inl tries ↦
          let n = need_free es s.tracks s.clocks i tries in
          let f = freely_past s i (believed x.end) (omega (arith, n, after)) in
          let until = f.1.0 in
          let h = f.1.1.1 in
          (f.0, (until, record { ends = end_led until x.renewable x.end parts.0 parts.1.1.0 f.1.1.0; may = inr tries; over = h.over; needed = h.needed; ahead = h.ahead }))
      | inr none ↦
          let led = not_at_top x.top x.last_try none parts.1.0 in
          let n = need_cut es s.tracks s.clocks i led in
          let f = needed_past s i (believed x.end) (omega (arith, n, after)) in
          let until = f.1.0 in
          let h = f.1.1.1 in
          (f.0, (until, record { ends = end_led until x.renewable x.end parts.0 parts.1.1.0 f.1.1.0; may = inl (led, h.open_until); over = h.over; needed = h.needed; ahead = h.ahead }))
    ]

-- who is looked up at a beginning
called_by_need : (s : WatchState) (i j until : ℕ) → IsNeededBy s i j until → 0 < planned_need s i
called_by_need s i j until h =
    let es = s.forest.entries in
    let ahead = h.ahead in
    let shown = h.needed.shown in
    let limited = limit_at_least es s.tracks until j (omega (arith, shown)) (open_here s j until shown h.open_until) in
    let least = carries es s.tracks s.clocks i j until (need_inside es j h.needed.some) h.over (need_ahead s.clocks ((entry_of s j).need) until h.needed) limited ahead in
    omega (arith, least, ahead)

is_called_by : (s : WatchState) (i : ℕ) → IsNeeded s i ⊎ MayBeNeeded s i → is_called s.forest s.tracks s.clocks i ≡ true
is_called_by s i (inl h) =
    let some = called_by_need s i h.0 h.1.0 h.1.1 in
    or_left (nat_lt 0 (planned_need s i)) (not s.clocks.dated && nat_lt 0 (carried s.forest.entries 0 i)) (grind (arith, nat_tests, some))
is_called_by s i (inr h) =
    let needed' = h.1.1.1 in
    let least = carried_at_least s.forest.entries 0 i h.1.0 h.1.1.0 needed' in
    let some : 0 < carried s.forest.entries 0 i = omega (arith, least, needed') in
    or_right (nat_lt 0 (planned_need s i)) (not s.clocks.dated && nat_lt 0 (carried s.forest.entries 0 i))
    (and_from (not s.clocks.dated) (nat_lt 0 (carried s.forest.entries 0 i)) (ap not h.0) (grind (arith, nat_tests, some)))

may_be_needed : (s : WatchState) (i : ℕ) → not s.clocks.dated && nat_lt 0 (carried s.forest.entries 0 i) ≡ true → MayBeNeeded s i
may_be_needed s i test =
    let undated = is_not s.clocks.dated (and_left (not s.clocks.dated) (nat_lt 0 (carried s.forest.entries 0 i)) test) in
    let more = and_right (not s.clocks.dated) (nat_lt 0 (carried s.forest.entries 0 i)) test in
    let some : 0 < carried s.forest.entries 0 i = grind (arith, nat_tests, more) in
    let f = carried_is_of s.forest.entries 0 i 0 some in
    (undated, (f.0, (f.1, f.3)))

needed_so : (s : WatchState) (i : ℕ) → nat_lt 0 (planned_need s i) ≡ true → IsNeeded s i
needed_so s i test =
    let some : 0 < planned_need s i = grind (arith, nat_tests, test) in
    let f = needed_past s i 0 some in
    (f.0, (f.1.0, f.1.1.1))

pub called_so : CalledLaw
called_so s i = (
  (λ called. or_parts (nat_lt 0 (planned_need s i)) (not s.clocks.dated && nat_lt 0 (carried s.forest.entries 0 i)) (IsNeeded s i ⊎ MayBeNeeded s i) called
      (λ test. inl (needed_so s i test)) (λ test. inr (may_be_needed s i test))),
  (λ h. is_called_by s i h),
)

-- one entry alone, renewable, has no limit
lone_limit : (need end j : ℕ) → limit (lone_entry need ∷ []) (lone_track end ∷ []) 0 ≡ END_MAX
unfolding least_over chain chain_of entry_at
lone_limit need end j = refl

-- and carries what its need is brought to
alone_carries : (here : Clocks → ℕ → ℕ) (c : Clocks) (need until : ℕ) → sec c.at < until → until ≤ LAST → until ≤ here c need → is_wanted_by here (alone c need (until - 1)) 0 ≡ true
unfolding entry_at is_over chain chain_of
alone_carries here c need until ahead low reaches =
    let s = alone c need (until - 1) in
    let v = map (seen_by here s) (range_with_len 0 1) in
    let limited = lone_limit need (until - 1) 0 in
    let is : (entry_at v 0).need ≡ min (here c need) (limit s.forest.entries s.tracks 0) = ap (λ (e : Entry). e.need) (get_or-map-range_with_len (seen_by here s) 0 1 0 0 no_entry (omega arith) (omega arith)) in
    let high : until ≤ (entry_at v 0).need = omega (arith, is, limited, low, reaches) in
    let least = carried_at_least v (sec c.at) 0 0 refl (omega (arith, high, ahead)) in
    wanted_by (lone_track (until - 1)) (carried v (sec c.at) 0) until (refl, omega (arith, ahead)) refl (omega (arith, ahead)) (omega (arith, least, high))

-- only the entry itself has a need there
alone_at : (c : Clocks) (need end j : ℕ) → 0 < (entry_of (alone c need end) j).need → (entry_of (alone c need end) j).need ≡ need
unfolding entry_at
alone_at c need end zero some = refl
alone_at c need end (suc j) some = absurd (omega (arith, some))

-- what has to be led on there to a second has to be led on to any before it
shorter : (c : Clocks) (need end j until further : ℕ) → end < further → until ≤ end + 1 → HasToBeLed (alone c need end) 0 j further → IsNeedUntil c need until
shorter c need end j until further after low h =
    let is = alone_at c need end j h.needed.some in
    let some = h.needed.some in
    let shown = h.needed.shown in
    record {
      some = omega (arith, is, some);
      by_a_clock =
          elim (h.needed.by_a_clock) [
            | inl by ↦ inl (omega (arith, is, by, after, low))
            | inr by ↦ inr (omega (arith, is, by, after, low))
          ];
      shown = omega (arith, shown, after, low);
    }

pub none_added : NoneAddedLaw
none_added here law c need until ahead low reaches =
    let f = law (alone c need (until - 1)) 0 (alone_carries here c need until ahead low reaches) in
    let h = f.1.1 in
    shorter c need (until - 1) f.0 until f.1.0 (h.ends.1) (omega arith) h
