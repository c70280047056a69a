-- LineClock: while a line lasts a clock leaves all entries as they are, and those who wait are all that are due. For `round_until`.
use Rattle.std.proofs.Common.{◌≡◌, ◌∙◌, ℕ, suc, ◌<◌, ◌≤◌, ◌==◌, Bool, true, false, ◌&&◌, ◌||◌, List, [], ◌∷◌, IsPermutation, filter, length, map, min, get_or, nat_le, refl, sym, ap, ap₂, subst, arith, inl, inr}
use Rattle.std.proofs.lemmas.{Bool.cases_lt, Bool.or_parts, Bool.Decides.nat_tests, List.Sorted.IsPermutation-map}
use Rattle.std.specs.List.{All, list_any, range_with_len}
use Rattle.plan_forest.specs.Forest.{Forest, entry_at}
use Rattle.watch_machine.specs.{declared.clocks.Clocks.Clocks, declared.lanes.Presence.Presence, declared.line.Line.Line, declared.reading.TheConstants.READING_MAX, declared.sending.Place.Place, declared.track.Track.Track, Clocks.sec}
use Rattle.watch_machine.specs.{Lines.is_due, Margins.has_come, Press.pressed_alone, Press.pressed_track, Round.opens, Round.opens_some, Settling.settled_track, State.each, State.track_in, Wait.latest, Wait.next_of}
use Rattle.watch_machine.specs.{code.Lull.GoesOn, code.Lull.wait_by, code.Places.place_is}
use Rattle.watch_machine.specs.Sending.{IsSendingOrder, due, is_alone, is_alone_try, is_partial, place}
use Rattle.watch_machine.specs.Wanted.{believed, is_alive, is_open, need_of}
use Rattle.watch_machine.specs.code.Line.{IsLine, entries_of, first_left, has, left_at, left_by, rest_of, time_in}
use Rattle.watch_machine.specs.Sending as Sending
use Rattle.watch_machine.proofs.{Carries.need_on, Leasts.least_capped, Leasts.least_each, LineSent.each_has, Opening.none_opens, Quiet.latest_low}
use Rattle.watch_machine.proofs.InRound.{IsLeft, is_due_paced, left_is, next_paced, place_on}
use Rattle.watch_machine.proofs.Lulls.{alive_alike, each_kept, later}
use Rattle.watch_machine.proofs.Members.{members_order, passing_distinct, passing_past, passing_within}

-- places by their entries
pub places_by : (f : ℕ → Sending.Place) (qs : List Place) → All (λ (q : Place). place_is q ≡ f q.entry) qs → map place_is qs ≡ map f (entries_of qs)
places_by f [] all = refl
places_by f (q ∷ qs) all = ap₂ (λ r rs. r ∷ rs) (all 0 q (omega arith)) (places_by f qs (λ k d below. all (suc k) d (omega (arith, below))))

-- an index past all of them is not among them
pub has_past : (n i : ℕ) (qs : List Place) → All (λ (q : Place). q.entry < n) qs → n ≤ i → has i (entries_of qs) ≡ false
has_past n i [] all past = refl
has_past n i (q ∷ qs) all past =
    let here = all 0 q (omega arith) in
    let other : (q.entry == i) ≡ false = grind (arith, nat_tests, here, past) in
    ap (λ b. b || has i (entries_of qs)) other ∙ has_past n i qs (λ k d below. all (suc k) d (omega (arith, below))) past

-- nobody is asked alone
and_false : (a b : Bool) → a ≡ false → a && b ≡ false
and_false true b no' = absurd cc
and_false false b no' = refl

none_alone : (now : ℕ) (xs : List Track) → list_any (λ (x : Track). is_alone_try x.attempt) xs ≡ false → list_any (is_alone now) xs ≡ false
none_alone now [] none = refl
none_alone now (x ∷ xs) none =
    let two = or_parts (is_alone_try x.attempt) (list_any (λ (y : Track). is_alone_try y.attempt) xs) none in
    ap (λ b. b || list_any (is_alone now) xs) (and_false (is_alone_try x.attempt) (is_open now x) two.0) ∙ none_alone now xs two.1

pub none_partial : (now : ℕ) (xs : List Track) → list_any (λ (x : Track). is_alone_try x.attempt) xs ≡ false → is_partial now xs ≡ false
unfolding is_partial
none_partial now xs none = none_alone now xs none

-- a time that has not come by a second that it would have to be past by
come_alike : (then' now time last : ℕ) → then' ≤ now → now < last → (then' < time → last ≤ time) → nat_le time now ≡ nat_le time then'
come_alike then' now time last later early ahead =
    elim (cases_lt then' time) as (λ _. nat_le time now ≡ nat_le time then') [
      | inl yet ↦
          let most = ahead yet in
          let here : nat_le time now ≡ false = grind (arith, nat_tests) in
          let before : nat_le time then' ≡ false = grind (arith, nat_tests) in
          here ∙ sym before
      | inr come ↦
          let here : nat_le time now ≡ true = grind (arith, nat_tests) in
          let before : nat_le time then' ≡ true = grind (arith, nat_tests) in
          here ∙ sym before
    ]

module _ (g : Forest) (xs : List Track) (p : Presence) (line : Line) (is : IsLine g xs p line) (beside : length xs ≡ length g.entries) (c : Clocks) (on : GoesOn c line.clocks) (low : c.at ≤ READING_MAX) (far : latest g.margin c.at ≤ line.beyond) (before : c.at < line.next) (early : sec c.at < line.lasting) where
  abbrev since : ℕ
  since = line.clocks.at

  abbrev need : ℕ → ℕ
  need = need_of g.entries xs c

  abbrev old_need : ℕ → ℕ
  old_need = need_of g.entries xs line.clocks

  abbrev last : ℕ
  last = latest g.margin c.at

  abbrev left : ℕ → ℕ
  left i = left_by g xs old_need p since i

  -- they carry what they carried
  carries_on : (i : ℕ) → i < length g.entries → need i ≡ old_need i
  carries_on i within = need_on g.entries xs c line.clocks i on (λ some. let ahead = is.needed i within some in omega (arith, ahead, early))

  -- and no end has come
  alive_on : (i : ℕ) → i < length g.entries → is_alive (sec c.at) (track_in xs i) ≡ is_alive (sec since) (track_in xs i)
  alive_on i within = alive_alike (sec since) (sec c.at) (believed (track_in xs i).end) line.lasting (later on) early (is.ended i within)

  -- nor the time of one that was due
  come_on : (i : ℕ) → i < length g.entries → is_due p since (track_in xs i) ≡ true → has_come g.margin (entry_at g.entries i) (track_in xs i) (sec c.at) ≡ has_come g.margin (entry_at g.entries i) (track_in xs i) (sec since)
  unfolding has_come
  come_on i within due = come_alike (sec since) (sec c.at) (time_in g xs i) line.lasting (later on) early (is.timed i within due)

  -- nothing is to be done of any of them
  first_is : first_left last g xs old_need p since ≡ min last line.next
  first_is = is.next last far (latest_low g.margin c.at low)

  ahead : c.at < last
  unfolding latest
  ahead = omega arith

  each_ahead : (i : ℕ) → i < length g.entries → c.at < left i
  each_ahead i within =
      let first = first_is in
      let least' = least_each left last 0 (length g.entries) i (omega arith) (omega (arith, within)) in
      let a = ahead in
      omega (arith, before, first, least', a)

  needed_ahead : (i : ℕ) → i < length g.entries → c.at < left_by g xs need p since i
  needed_ahead i within = subst (λ n. c.at < left_at g.margin (entry_at g.entries i) n p since (track_in xs i)) (sym (carries_on i within)) (each_ahead i within)

  left_on : (i : ℕ) → i < length g.entries → IsLeft g.margin (entry_at g.entries i) (need i) p since c.at (track_in xs i) (left_by g xs need p since i)
  left_on i within = left_is g.margin (entry_at g.entries i) (need i) p since c.at (track_in xs i) low on.at (needed_ahead i within)

  pub all_settled : each (λ i. settled_track g.margin c.at) xs ≡ xs
  all_settled = each_kept (λ i. settled_track g.margin c.at) xs (λ i below. (left_on i (omega (arith, beside, below))).settled)

  pub all_pressed : pressed_alone g c xs ≡ xs
  all_pressed = each_kept (λ i. pressed_track g.margin (entry_at g.entries i) (need i) c.at) xs (λ i below. (left_on i (omega (arith, beside, below))).pressed)

  pub none_open : opens_some g xs c ≡ false
  unfolding opens_some
  none_open = none_opens (λ i. opens g.margin (entry_at g.entries i) (track_in xs i) (need i) (sec c.at)) (length g.entries) (λ i below. (left_on i below).shut)

  pub nobody_alone : is_partial (sec c.at) xs ≡ false
  nobody_alone = none_partial (sec c.at) xs is.together

  -- and so it waits
  next_same : (pace i : ℕ) → i < length g.entries → min last (next_of g.margin (entry_at g.entries i) (need i) (record p { pace = pace }) c.at (track_in xs i)) ≡ min last (left i)
  next_same pace i within =
      ap (min last) (next_paced g.margin (entry_at g.entries i) (need i) p pace c.at (track_in xs i)) ∙ (left_on i within).waits
      ∙ ap (λ n. min last (left_at g.margin (entry_at g.entries i) n p since (track_in xs i))) (carries_on i within)

  pub waits_on : (pace : ℕ) → min last line.next ≡ wait_by g c (record p { pace = pace }) xs need
  waits_on pace =
      sym
      (least_capped (λ i. next_of g.margin (entry_at g.entries i) (need i) (record p { pace = pace }) c.at (track_in xs i)) left last last 0 (length g.entries) (omega arith)
      (λ i from below. next_same pace i (omega (arith, below)))
      ∙ first_is)

  -- those in line are all that are due
  module _ (pace : ℕ) where
    abbrev q : Presence
    q = record p { pace = pace }

    abbrev rest : List Place
    rest = rest_of line

    abbrev is_now : ℕ → Bool
    is_now i = is_due q c.at (track_in xs i)

    member_of : (i : ℕ) → has i (filter is_now (range_with_len 0 (length xs))) ≡ has i (entries_of rest)
    member_of i = elim (cases_lt i (length xs)) [
      | inl within ↦
          passing_within is_now (length xs) i within ∙ is_due_paced p pace c.at (track_in xs i) ∙ (left_on i (omega (arith, beside, within))).due
          ∙ is.order.members i within
      | inr past ↦ passing_past is_now (length xs) i past ∙ sym (has_past (length xs) i rest is.order.within past)
    ]

    order_of : IsPermutation (filter is_now (range_with_len 0 (length xs))) (entries_of rest)
    order_of = members_order (filter is_now (range_with_len 0 (length xs))) (entries_of rest) (passing_distinct is_now (length xs)) is.order.distinct member_of

    places_are : map place_is rest ≡ map (place g q.away (sec c.at) xs) (entries_of rest)
    places_are =
        places_by (place g q.away (sec c.at) xs) rest
        (λ k d below.
        let r = get_or rest k d in
        let i = r.entry in
        let inside = is.order.within k d below in
        let within : i < length g.entries = omega (arith, beside, inside) in
        let due : is_due p since (track_in xs i) ≡ true = is.order.members i inside ∙ each_has rest k d below in
        is.order.placed k d below
        ∙ sym (place_on g.margin (entry_at g.entries i) p.away (sec c.at) (sec since) i (track_in xs i) (track_in xs i).attempt (alive_on i within) (come_on i within due)))

    pub order_on : IsSendingOrder g q c.at xs (map place_is rest)
    order_on = record {
      all = subst (λ ys. IsPermutation (due g q c.at xs) ys) (sym places_are) (IsPermutation-map (place g q.away (sec c.at) xs) (filter is_now (range_with_len 0 (length xs))) (entries_of rest) order_of);
      in_order = is.order.sorted;
    }
