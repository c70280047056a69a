-- Lanes: how many lookups are out. For the law of the lanes.
use Rattle.std.proofs.Common.{◌≡◌, ◌⊎◌, ◌∙◌, ℕ, zero, suc, ◌+◌, ◌-◌, ◌<◌, ◌≤◌, Bool, true, false, ◌==◌, List, [], ◌∷◌, Option, Some, None, is_some, length, nat_lt, replicate, refl, sym, ap, subst, arith, inl, inr}
use Rattle.std.proofs.lemmas.{Bool.cases_eq, Bool.cases_lt, Bool.Decides.nat_tests}
use Rattle.std.proofs.lemmas.List.{get_or-set_same, get_or_past, length-set}
use Rattle.watch_machine.specs.{State.WatchState, State.track_at, Wanted.is_wanted}
use Rattle.watch_machine.proofs.Cases.{if_both, if_cases}
use Rattle.watch_laws.specs.Outage.{how_many, one_where}
use Rattle.watch_laws.proofs.Counting.{either, more, none, one_more}
use Rattle.watch_scout.specs.{declared.scout.Seen.Seen, Hearing.freed, Hearing.freed_where}
use Rattle.watch_scout.specs.Looking.{Found, came_up, first_from, found, goes_out, had_look, is_at_hand, known_end, looked_up, passed_over, with_seen}
use Rattle.watch_scout.specs.State.{ScoutState, opened_scout, seen_at, seen_in, unseen}
use Rattle.watch_scout.proofs.Coming.{none_out, same_width}
use Rattle.watch_scout_laws.specs.Looks.{LanesLaw, is_asked}
use Rattle.watch_scout_laws.specs.Steps.{AllSteps, Hears, IsStep, ScoutStep, Seeks, scout_after, scout_after_all}
use Rattle.watch_scout_laws.proofs.Lookups.{found_keeps, seen_elsewhere}

one_most : (b : Bool) → one_where b ≤ 1
one_most true = omega arith
one_most false = omega arith

none_below : (n i : ℕ) → n ≤ i → how_many n (λ j. i == j) ≡ 0
none_below zero i le = refl
none_below (suc n) i le =
    let rest = none_below n i (omega (arith, le)) in
    let other : (i == n) ≡ false = grind (arith, nat_tests) in
    let here = ap one_where other in
    omega (arith, rest, here)

only_one : (n i : ℕ) → how_many n (λ j. i == j) ≤ 1
only_one zero i = omega arith
only_one (suc n) i =
    elim (cases_eq i n) as (λ _. one_where (i == n) + how_many n (λ j. i == j) ≤ 1) [
      | inl is ↦
          let rest = none_below n i (omega (arith, is)) in
          let here = one_most (i == n) in
          omega (arith, rest, here)
      | inr apart ↦
          let rest = only_one n i in
          let other : (i == n) ≡ false = grind (arith, nat_tests) in
          let here = ap one_where other in
          omega (arith, rest, here)
    ]

-- the lookups that are out are counted
record IsCounted (n : ℕ) (s : ScoutState) : Type 0 where
  many : length s.seen ≡ n
  few : how_many n (is_asked s) ≤ s.out

-- one lookup more, at most
looked_counted : (n : ℕ) (s : ScoutState) (i : ℕ) (x : Seen) → IsCounted n s → IsCounted n (record (with_seen s i x) { out = s.out + 1 })
looked_counted n s i x h =
    let new = with_seen s i x in
    let most : how_many n (is_asked (record new { out = s.out + 1 })) ≤ how_many n (is_asked s) + how_many n (λ j. i == j) =
    either n (is_asked new) (is_asked s) (λ j. i == j)
    (λ j low yes'.
    elim (cases_eq j i) as (λ _. (is_asked s j ≡ true) ⊎ ((i == j) ≡ true)) [
      | inl same ↦ inr (grind (arith, nat_tests))
      | inr apart ↦ inl (sym (ap (λ (y : Seen). is_some y.since) (seen_elsewhere s i j x apart)) ∙ yes')
    ]) in
    let one = only_one n i in
    let few = h.few in
    record { many = length-set s.seen i x ∙ h.many; few = omega (arith, most, one, few) }

-- an entry that is passed over keeps its lookup
same_asked : (s : ScoutState) (i : ℕ) (x : Seen) → x.since ≡ (seen_at s i).since → (j : ℕ) → is_asked (with_seen s i x) j ≡ is_asked s j
same_asked s i x same j =
    elim (cases_eq j i) as (λ _. is_asked (with_seen s i x) j ≡ is_asked s j) [
      | inl is ↦ subst (λ k. is_asked (with_seen s k x) j ≡ is_asked s j) is (own (ap (λ k. (seen_at s k).since) (sym is)) (cases_lt j (length s.seen)))
      | inr apart ↦ ap (λ (y : Seen). is_some y.since) (seen_elsewhere s i j x apart)
    ] where
      own : (seen_at s i).since ≡ (seen_at s j).since → (j < length s.seen) ⊎ (length s.seen ≤ j) → is_asked (with_seen s j x) j ≡ is_asked s j
      own here (inl within) = ap (λ (y : Seen). is_some y.since) (get_or-set_same s.seen j x unseen within) ∙ ap is_some (same ∙ here)
      own here (inr past) =
          let many : length (with_seen s j x).seen ≡ length s.seen = length-set s.seen j x in
          ap (λ (y : Seen). is_some y.since) (get_or_past (with_seen s j x).seen j unseen (omega (arith, many, past)) ∙ sym (get_or_past s.seen j unseen past))

passed_counted : (n : ℕ) (s : ScoutState) (i : ℕ) (x : Seen) → x.since ≡ (seen_at s i).since → IsCounted n s → IsCounted n (with_seen s i x)
passed_counted n s i x same h =
    let most = more n (is_asked (with_seen s i x)) (is_asked s) (λ j yes'. sym (same_asked s i x same j) ∙ yes') in
    let few = h.few in
    record { many = length-set s.seen i x ∙ h.many; few = omega (arith, most, few) }

came_counted : (n : ℕ) (s : ScoutState) (w : WatchState) (i : ℕ) → IsCounted n s → IsCounted n (came_up s w i)
came_counted n s w i h =
    let x : Seen = record { looked = known_end (track_at w i).end; since = Some w.clocks.at } in
    let y : Seen = record (seen_at s i) { looked = known_end (track_at w i).end } in
    if_both (IsCounted n) (is_at_hand s w i) (had_look s w i) s (if_both (IsCounted n) (is_wanted w i) (looked_up s w i) (passed_over s w i) (looked_counted n s i x h) (passed_counted n s i y refl h)) h

-- an answer: one less
freed_counted : (n : ℕ) (s : ScoutState) (i : ℕ) (since : Option ℕ) → (seen_at s i).since ≡ since → IsCounted n s → IsCounted n (freed_where s i since)
freed_counted n s i None is h = h
freed_counted n s i (Some since) is h =
    let x : Seen = record (seen_at s i) { since = None } in
    let new = with_seen s i x in
    let old' : is_asked s i ≡ true = ap is_some is in
    let many = h.many in
    let within : i < length s.seen = elim (cases_lt i (length s.seen)) as (λ _. i < length s.seen) [
      | inl low ↦ low
      | inr past ↦ absurd (let bad : None ≡ Some since = ap (λ (y : Seen). y.since) (sym (get_or_past s.seen i unseen past)) ∙ is in cc)
    ] in
    let new' : is_asked new i ≡ false = ap (λ (y : Seen). is_some y.since) (get_or-set_same s.seen i x unseen within) in
    let less : 1 + how_many n (is_asked (freed_where s i (Some since))) ≤ how_many n (is_asked s) =
    one_more n i (is_asked new) (is_asked s) (omega (arith, within, many)) new' old'
    (λ j yes'.
    elim (cases_eq j i) as (λ _. is_asked s j ≡ true) [
      | inl same ↦ subst (λ k. is_asked s k ≡ true) (sym same) old'
      | inr apart ↦ sym (ap (λ (y : Seen). is_some y.since) (seen_elsewhere s i j x apart)) ∙ yes'
    ]) in
    let few = h.few in
    record { many = length-set s.seen i x ∙ h.many; few = omega (arith, less, few) }

-- ---- no more than the width
came_out : (s : ScoutState) (w : WatchState) (i : ℕ) → (came_up s w i).out ≤ s.out + 1
came_out s w i =
    let P : ScoutState → Type 0 = λ t. t.out ≤ s.out + 1 in
    if_both P (is_at_hand s w i) (had_look s w i) s (if_both P (is_wanted w i) (looked_up s w i) (passed_over s w i) (omega arith) (omega arith)) (omega arith)

one_goes : (w : WatchState) (n i : ℕ) (s : ScoutState) → (first_from w i n s).state.out ≤ s.out + 1
one_goes w zero i s = omega arith
one_goes w (suc n) i s =
    if_cases (λ (f : Found). f.state.out ≤ s.out + 1) (goes_out s w i) (record { entry = Some i; state = came_up s w i }) (first_from w (suc i) n (came_up s w i)) (λ goes. came_out s w i)
    (λ stays.
    let rest = one_goes w n (suc i) (came_up s w i) in
    let same = none_out s w i stays in
    omega (arith, rest, same))

found_out : (s : ScoutState) (w : WatchState) (from : ℕ) → s.out ≤ s.width → (found s w from).state.out ≤ s.width
unfolding found
found_out s w from h =
    if_cases (λ (f : Found). f.state.out ≤ s.width) (nat_lt s.out s.width) (first_from w from (length w.forest.entries - from) s) (record { entry = None; state = s })
    (λ free.
    let low : s.out < s.width = grind (arith, nat_tests) in
    let one = one_goes w (length w.forest.entries - from) from s in
    omega (arith, low, one))
    (λ full. h)

record Fits (n width : ℕ) (s : ScoutState) : Type 0 where
  counted : IsCounted n s
  wide : s.width ≡ width
  out : s.out ≤ width

freed_width : (s : ScoutState) (i : ℕ) (since : Option ℕ) → ((freed_where s i since).width ≡ s.width) × ((freed_where s i since).out ≤ s.out)
freed_width s i None = (refl, omega arith)
freed_width s i (Some since) = (refl, omega arith)

step_fits : (n width : ℕ) (s : ScoutState) (x : ScoutStep) → IsStep s x → Fits n width s → Fits n width (scout_after x)
unfolding freed
step_fits n width s (Seeks x) step h =
    let wide = h.wide in
    let out = h.out in
    let most = found_out s x.watch x.from (omega (arith, wide, out)) in
    subst (Fits n width) (sym step.1)
    (record {
      counted = found_keeps (IsCounted n) x.watch (λ t i k. came_counted n t x.watch i k) s x.from h.counted;
      wide = found_keeps (λ t. t.width ≡ width) x.watch (λ t i k. same_width t x.watch i ∙ k) s x.from h.wide;
      out = omega (arith, most, wide);
    })
step_fits n width s (Hears x) step h =
    let since = (seen_at s x.entry).since in
    let less = (freed_width s x.entry since).1 in
    let out = h.out in
    subst (Fits n width) (sym step.1)
    (record { counted = freed_counted n s x.entry since refl h.counted; wide = (freed_width s x.entry since).0 ∙ h.wide; out = omega (arith, less, out) })

all_fit : (n width : ℕ) (s : ScoutState) (xs : List ScoutStep) → AllSteps s xs → Fits n width s → Fits n width (scout_after_all s xs)
all_fit n width s [] steps h = h
all_fit n width s (x ∷ xs) steps h = all_fit n width (scout_after x) xs steps.1 (step_fits n width s x steps.0 h)

unseen_all : (n j : ℕ) → seen_in (replicate n unseen) j ≡ unseen
unseen_all zero j = refl
unseen_all (suc n) zero = refl
unseen_all (suc n) (suc j) = unseen_all n j

pub lanes_hold : LanesLaw
lanes_hold g margin width xs steps =
    let s = opened_scout g margin width in
    let n = length s.seen in
    let first : how_many n (is_asked s) ≡ 0 = none n (is_asked s) (λ j. ap (λ (y : Seen). is_some y.since) (unseen_all (length g.entries) j)) in
    let end = all_fit n width s xs steps (record { counted = record { many = refl; few = omega (arith, first) }; wide = refl; out = omega arith }) in
    let few = end.counted.few in
    let out = end.out in
    subst (λ m. how_many m (is_asked (scout_after_all s xs)) ≤ width) (sym end.counted.many) (omega (arith, few, out))
