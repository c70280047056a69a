-- LookedOnce: from a beginning on an entry that is needed is looked up once. For the law of lookups.
use Rattle.std.proofs.Common.{◌≡◌, ◌≢◌, ◌⊎◌, ◌∙◌, ℕ, zero, suc, ◌+◌, ◌<◌, ◌≤◌, Bool, true, false, not, ◌&&◌, ◌||◌, ◌==◌, if◌then◌else◌, List, [], ◌∷◌, Option, Some, None, Result, Ok, Err, filter, is_some, length, map, min, nat_lt, refl, sym, ap, subst, arith, inl, inr}
use Rattle.std.proofs.lemmas.{Bool.Decides.nat_tests, List.Elements.filter-append}
use Rattle.std.proofs.lemmas.Bool.{and_from, and_parts, cases_Bool, cases_eq, cond-true, or_left, or_right}
use Rattle.std.proofs.lemmas.List.{get_or-set_other, get_or-set_same, length-append, length-set}
use Rattle.std.specs.List.{list_any}
use Rattle.plan_forest.specs.{declared.forest.TheConstants.END_MAX, Carried.carried, Forest.Forest}
use Rattle.watch_machine.specs.{declared.clocks.Clocks.Clocks, declared.command.WatchOutput.WatchOutput, declared.command.WatchRequest.WatchRequest, declared.event.WatchEvent.WatchEvent, declared.event.WatchReply.WatchReply}
use Rattle.watch_machine.specs.{declared.event.WatchReply.TheVariants.Told, declared.event.WatchTerms.WatchTerms, declared.fault.WatchFault.WatchFault, declared.lanes.Out.Out, declared.notes.Notes.Notes}
use Rattle.watch_machine.specs.{declared.notes.BeginReason.BeginReason, declared.notes.BeginReason.TheVariants.Start, declared.track.End.End, declared.track.End.TheVariants.Unknown, declared.track.Track.Track, declared.track.Try.Try}
use Rattle.watch_machine.specs.{Clocks.sec, Lines.is_due, Press.pressed, Refusal.is_same, Refusal.request_out}
use Rattle.watch_machine.specs.declared.event.WatchEvent.TheVariants.{Clock, Looked, Renewed, Known}
use Rattle.watch_machine.specs.declared.event.Operation.TheVariants.{Look, Renew}
use Rattle.watch_machine.specs.Answers.{back_track, noted, replied}
use Rattle.watch_machine.specs.Beginning.{begun, called_by, is_called, is_start, owing, owing_all, owing_lookup, owing_past, soon, sooner_try, untopped, untopped_track}
use Rattle.watch_machine.specs.History.{History, Turn, Turned, after_all}
use Rattle.watch_machine.specs.Looked.{is_called_for, looked, told_state, told_track, told_try, with_told_try}
use Rattle.watch_machine.specs.Renewed.{from_try, granted_from, renewed_track, state_renewed}
use Rattle.watch_machine.specs.Sending.{out_at, sent, sent_in, sent_track}
use Rattle.watch_machine.specs.Settling.{settled, settled_track, timed}
use Rattle.watch_machine.specs.State.{WatchState, attempt_at, entry_of, no_track, second, track_at, track_in}
use Rattle.watch_machine.specs.Step.{Step, StepClock, StepLooked, StepRenewed, known, readied, told_earlier, why}
use Rattle.watch_machine.specs.Wanted.{believed, is_alive, is_never, is_open, is_unknown, is_wanted, wanted_need, wants}
use Rattle.watch_machine.proofs.{Within.out_entry, Written.each_length}
use Rattle.watch_machine.proofs.Cases.{if_both, not_both, value_is}
use Rattle.watch_machine.proofs.Seeing.{SameSeen, both_seen, cut_same, each_read}
use Rattle.watch_machine.proofs.Unseen.{owing_seen, pressed_seen, sent_seen}
use Rattle.watch_laws.specs.{Load.requests_asked_by, Load.requests_at_turn, Outage.is_tried}
use Rattle.watch_laws.specs.Beginnings.{GoWell, GoesWell, GoesWellAt, IsForLookup, OneLookupLaw, TellsAhead, is_lookup, is_loose_look, is_needed, looks, lookups, why_begun}
use Rattle.watch_laws.proofs.{Answering.looked_begins, Answering.replied_rest, Bases.reached_base, Begins.begun_top, Clocking.refused_stays, Lanes.Ticks, Lanes.ticks, Owed.due_some, Topping.readied_count, Topping.turn_count}
use Rattle.watch_laws.proofs.{Trying.need_cut}
use Rattle.watch_laws.proofs.Alone.{IsAlone, flag, turn_alone}
use Rattle.watch_laws.proofs.Going.{named_of, operation_of, times}
use Rattle.watch_laws.proofs.Lasting.{Bears, both_bear, calm_ready, clock_bears, mid_bears, same_bears, sent_bears}
use Rattle.watch_laws.proofs.Lookups.{AsksRenewal, IsTold, LooseAsks, asks_loose, back_told, few_go, found_looks, granted_owes, granted_told, look_goes, looked_told, loose_asks, loose_settled, looks_few, mid_told, other_looks, own_looks, pressed_told, renewal_looks, sent_looks, sent_told, settled_told, told_rid}
use Rattle.watch_laws.proofs.Spacing.{free_of, looked_other, looked_out, mid_flag, readied_out}
use Rattle.watch_laws.proofs.Tracking.{back_kept, each_kept, set_kept}

-- since a beginning i was not looked up yet, and owes a lookup if it did; or it was once, and its lookup is out or told
abbrev Holds : WatchState → ℕ → Bool → ℕ → Type 0
Holds s i due n =
    ((n ≡ 0) × ((looks i s.out ≡ 0) × (due ≡ true → (track_at s i).owes ≡ true)))
    ⊎ ((n ≡ 1) × ((looks i s.out ≡ 1) ⊎ ((looks i s.out ≡ 0) × IsTold (track_at s i))))

abbrev Owes : Track → Track → Type 0
Owes y x = x.owes ≡ true → y.owes ≡ true

-- ---- a clock

cases_one : (n : ℕ) → n ≤ 1 → (n ≡ 0) ⊎ (n ≡ 1)
cases_one zero le = inl refl
cases_one (suc zero) le = inr refl
cases_one (suc (suc n)) le = absurd (omega arith)

open_parts : (a b : Bool) → a ≡ false → a || b ≡ true → b ≡ true
open_parts true b no' h = absurd cc
open_parts false b no' h = h

not_look : (o : Option Try) → AsksRenewal o → is_some o ≡ true → operation_of o ≡ Look → ⊥
not_look None asks some look = cc
not_look (Some t) asks some look = let bad : Look ≡ Renew = sym look ∙ asks in cc

none_asks : (o : Option Try) → is_some o ≡ false → AsksRenewal o
none_asks None idle = tt
none_asks (Some t) idle = absurd cc

called_same : (new old : List Track) → SameSeen new old → (g : Forest) (c : Clocks) (i : ℕ) → is_called g new c i ≡ is_called g old c i
called_same new old seen g c i = ap (λ n. called_by c.dated n (carried g.entries 0 i)) (cut_same new old seen g.entries c i)

past_need : (n need : ℕ) → nat_lt n need ≡ true → nat_lt 0 need ≡ true
past_need n need h = grind (arith, nat_tests)

-- whoever is wanted is needed, where it is not at its top
wants_needs : (x : Track) (need written : ℕ) (dated : Bool) → wants x need ≡ true → called_by dated need written ≡ true
unfolding wants
wants_needs x need written dated h =
    let far = nat_lt (believed x.end) need in
    let one = (and_parts (x.renewable || is_unknown x.end) ((not x.top || x.last_try) && (not (is_never x.end) && far)) h).1 in
    let two = (and_parts (not x.top || x.last_try) (not (is_never x.end) && far) one).1 in
    or_left (nat_lt 0 need) (not dated && nat_lt 0 written) (past_need (believed x.end) need (and_parts (not (is_never x.end)) far two).1)

wanted_needed : (s : WatchState) (i : ℕ) → (track_at s i).top ≡ false → is_wanted s i ≡ true → is_needed s i ≡ true
wanted_needed s i led wanted =
    subst (λ n. called_by s.clocks.dated n (carried s.forest.entries 0 i) ≡ true) (need_cut s.forest.entries s.tracks s.clocks i led)
    (wants_needs (track_at s i) (wanted_need s i) (carried s.forest.entries 0 i) s.clocks.dated wanted)

not_wanted : (s : WatchState) (i : ℕ) → (track_at s i).top ≡ false → is_needed s i ≡ false → is_wanted s i ≡ false
not_wanted s i led none =
    elim (cases_Bool (is_wanted s i)) [
      | inl yes' ↦ absurd (not_both (wanted_needed s i led yes') none)
      | inr no' ↦ no'
    ]

known_end : (now : ℕ) (end : End) → nat_lt now (believed end) ≡ true → is_unknown end ≡ false
known_end now Unknown h = absurd (grind (arith, nat_tests))
known_end now _ h = refl

neither : (a b : Bool) → a ≡ false → b ≡ false → a || b ≡ true → ⊥
neither true b h k e = cc
neither false true h k e = cc
neither false false h k e = cc

module _ (old new : WatchState) (wall elapsed : ℕ) (output : WatchOutput) (i : ℕ) (h : Ticks old new wall elapsed output) where
  abbrev ready : WatchState
  ready = readied old wall elapsed

  abbrev mid : WatchState
  mid = pressed ready h.round

  abbrev go : ℕ
  go = length (filter (is_lookup i) h.requests)

  -- what is out after it
  looks_after : looks i new.out ≡ looks i old.out + go
  looks_after =
      ap (λ (x : WatchState). looks i x.out) h.new_is
      ∙ ap length (filter-append (λ (q : Out). q.entry == i && is_same q.operation Look) mid.out (map (out_at mid.clocks.at) h.requests))
      ∙ length-append (filter (λ (q : Out). q.entry == i && is_same q.operation Look) mid.out) (filter (λ (q : Out). q.entry == i && is_same q.operation Look) (map (out_at mid.clocks.at) h.requests))
      ∙ ap (λ n. n + looks i (map (out_at mid.clocks.at) h.requests)) (ap (looks i) (readied_out old wall elapsed))
      ∙ ap (λ n. looks i old.out + n) (sent_looks i mid.clocks.at h.requests)

  few : go ≤ 1
  few =
      let once = h.going.once i in
      let less = few_go mid.presence (sec mid.clocks.at) mid.tracks i h.going.entries in
      let is = ap (λ rs. length (filter (is_lookup i) rs)) h.going.requests_are in
      omega (arith, once, less, is)

  -- a lookup that goes out is asked by a try of an entry that is not out
  record Goes : Type 0 where
    free : (track_at old i).out ≡ false
    tried : is_some (attempt_at mid i) ≡ true
    unmarked : (track_at mid i).out ≡ false
    look : operation_of (attempt_at mid i) ≡ Look

  goes_so : 1 ≤ go → Goes
  goes_so some =
      let p = mid.presence in
      let at = mid.clocks.at in
      let once = h.going.once i in
      let less = few_go p (sec at) mid.tracks i h.going.entries in
      let is = ap (λ rs. length (filter (is_lookup i) rs)) h.going.requests_are in
      let one : times i h.going.entries ≡ 1 = omega (arith, once, less, is, some) in
      let due = named_of (λ j. (j < length mid.tracks) × (is_due p at (track_in mid.tracks j) ≡ true)) i h.going.entries h.going.due one in
      let free' = (free_of p at (track_at mid i) due.1).0 in
      record {
        free = sym (mid_flag old wall elapsed h.round i) ∙ free';
        tried = due_some p at (track_at mid i) due.1;
        unmarked = free';
        look = look_goes p (sec at) mid.tracks i h.going.entries (omega (arith, is, some));
      }

  -- none goes out of one that is out
  none_beside : i < length old.tracks → IsAlone old → looks i old.out ≡ 1 → go ≡ 0
  none_beside within alone one =
      let once = alone.once i within in
      let less = looks_few i old.out in
      elim (cases_one go few) as (λ _. go ≡ 0) [
        | inl none ↦ none
        | inr some ↦ absurd (let e = ap flag (goes_so (omega (arith, some))).free in omega (arith, once, less, one, e))
      ]

  -- nor of one that was told
  none_told : IsTold (track_at mid i) → go ≡ 0
  none_told told =
      elim (cases_one go few) as (λ _. go ≡ 0) [
        | inl none ↦ none
        | inr some ↦ (let g = goes_so (omega (arith, some)) in absurd (not_look (attempt_at mid i) (told.asks g.unmarked) g.tried g.look))
      ]

  -- nor of one that has nothing to be asked
  tried_same : is_tried new i ≡ is_some (attempt_at mid i)
  tried_same =
      ap (λ (x : WatchState). is_tried x i) h.new_is
      ∙ each_kept (λ (y x : Track). is_some y.attempt ≡ is_some x.attempt) refl (sent_in mid.clocks.at h.requests) mid.tracks
      (λ j x. if_both (λ (y : Track). is_some y.attempt ≡ is_some x.attempt) (list_any (λ (r : WatchRequest). r.entry == j) h.requests) (sent_track mid.clocks.at x) x refl refl) i

  none_idle : is_tried new i ≡ false → go ≡ 0
  none_idle idle =
      elim (cases_one go few) as (λ _. go ≡ 0) [
        | inl none ↦ none
        | inr some ↦ absurd (not_both (tried_same ∙ (goes_so (omega (arith, some))).tried) idle)
      ]

  -- pressing and sending leave the end, and what is owed
  bears : Bears (track_at new i) (track_at ready i)
  bears =
      subst (λ (x : WatchState). Bears (track_at x i) (track_at ready i)) (sym h.new_is)
      (both_bear (track_at (sent mid h.requests) i) (track_at mid i) (track_at ready i)
      (each_kept Bears (same_bears no_track) (sent_in mid.clocks.at h.requests) mid.tracks (λ j x. sent_bears mid.clocks.at h.requests j x) i) (mid_bears ready h.round i))

  now : second new ≡ second ready
  now = ap second h.new_is

  alive_same : is_alive (second new) (track_at new i) ≡ is_alive (second ready) (track_at ready i)
  alive_same = ap (λ e. nat_lt (second new) (believed e)) bears.0 ∙ ap (λ n. nat_lt n (believed (track_at ready i).end)) now

  seen : SameSeen new.tracks ready.tracks
  seen =
      subst (λ (x : WatchState). SameSeen x.tracks ready.tracks) (sym h.new_is)
      (both_seen (sent mid h.requests).tracks mid.tracks ready.tracks (sent_seen mid.clocks.at h.requests mid.tracks) (pressed_seen ready.forest ready.clocks h.round ready.tracks))

  -- of one that is told, where its end is ahead or it has nothing to be asked
  kept_told : i < length old.tracks → (is_tried new i ≡ true → is_open (second new) (track_at new i) ≡ true) → IsTold (track_at ready i) → IsTold (track_at new i) × (go ≡ 0)
  kept_told within ahead there =
      let many = readied_count old wall elapsed in
      let known : is_unknown (track_at new i).end ≡ false = ap is_unknown bears.0 ∙ there.known in
      elim (cases_Bool (is_tried new i)) as (λ _. IsTold (track_at new i) × (go ≡ 0)) [
        | inl tried ↦
            let alive = sym alive_same ∙ open_parts (is_unknown (track_at new i).end) (is_alive (second new) (track_at new i)) known (ahead tried) in
            let told =
            mid_told ready h.round i (omega (arith, many, within))
            (pressed_told ready.forest.margin (entry_of ready i) (wanted_need ready i) ready.clocks.at (track_at ready i) there.owes there.known alive (λ e free. there.asks free)
            (λ free. asks_loose (track_at ready i).attempt (there.asks free))) in
            (subst (λ (x : WatchState). IsTold (track_at x i)) (sym h.new_is) (sent_told mid h.requests i told.0), none_told told.0)
        | inr idle ↦ (record { owes = bears.1.1.0 ∙ there.owes; known = known; asks = λ free. none_asks (attempt_at new i) idle }, none_idle idle)
      ]

  calm_told : why old wall elapsed ≡ None → IsTold (track_at old i) → IsTold (track_at ready i)
  calm_told none told =
      let t = timed old wall elapsed in
      subst (λ (x : WatchState). IsTold (track_at x i)) (sym (calm_ready old wall elapsed none))
      (each_kept (λ y x. IsTold x → IsTold y) (λ k. k) (λ j. settled_track t.forest.margin t.clocks.at) t.tracks (λ j x. settled_told t.forest.margin t.clocks.at x) i told)

  calm_owes : why old wall elapsed ≡ None → (track_at old i).owes ≡ true → (track_at new i).owes ≡ true
  calm_owes none owes = (clock_bears old new wall elapsed output i h none).1.1.0 ∙ owes

  clock_holds :
      (n : ℕ) (due : Bool) → why old wall elapsed ≡ None → IsAlone old → i < length old.tracks → (is_tried new i ≡ true → is_open (second new) (track_at new i) ≡ true) → Holds old i due n → Holds new i due (n + go)
  clock_holds n due none alone within ahead (inl not_yet) =
      let z = not_yet.0 in
      let l = not_yet.1.0 in
      let after = looks_after in
      elim (cases_one go few) as (λ _. Holds new i due (n + go)) [
        | inl none' ↦ inl (omega (arith, z, none'), (omega (arith, l, none', after), λ d. calm_owes none (not_yet.1.1 d)))
        | inr one ↦ inr (omega (arith, z, one), inl (omega (arith, l, one, after)))
      ]
  clock_holds n due none alone within ahead (inr (one, inl out)) =
      let none' = none_beside within alone out in
      let after = looks_after in
      inr (omega (arith, one, none'), inl (omega (arith, out, none', after)))
  clock_holds n due none alone within ahead (inr (one, inr told)) =
      let kept = kept_told within ahead (calm_told none told.1) in
      let none' = kept.1 in
      let quiet = told.0 in
      let after = looks_after in
      inr (omega (arith, one, none'), inr (omega (arith, quiet, none', after), kept.0))

  -- at a beginning
  clock_starts : i < length old.tracks → IsAlone old → Holds new i (track_at new i).owes (looks i old.out + go)
  clock_starts within alone =
      let once = alone.single i in
      let less = looks_few i old.out in
      let after = looks_after in
      let most = few in
      elim (cases_one (looks i old.out) (omega (arith, once, less))) as (λ _. Holds new i (track_at new i).owes (looks i old.out + go)) [
        | inl none ↦ elim (cases_one go few) as (λ _. Holds new i (track_at new i).owes (looks i old.out + go)) [
          | inl none' ↦ inl (omega (arith, none, none'), (omega (arith, none, none', after), λ d. d))
          | inr one ↦ inr (omega (arith, none, one), inl (omega (arith, none, one, after)))
        ]
        | inr out ↦ (let none' = none_beside within alone out in inr (omega (arith, out, none'), inl (omega (arith, out, none', after))))
      ]

  -- whoever is needed after it was needed at it
  needed_same : is_needed new i ≡ is_called ready.forest ready.tracks ready.clocks i
  needed_same =
      ap (λ (x : WatchState). is_called x.forest x.tracks x.clocks i) h.new_is
      ∙ called_same (sent mid h.requests).tracks ready.tracks (subst (λ (x : WatchState). SameSeen x.tracks ready.tracks) h.new_is seen) ready.forest ready.clocks i

  -- where nobody needs it, its end is ahead, it owes no lookup, and none that is not pressed is to be tried again, it is told
  unneeded_told : i < length old.tracks → is_needed new i ≡ false → is_alive (second new) (track_at new i) ≡ true → (track_at ready i).top ≡ false → (track_at ready i).owes ≡ false → LooseAsks (track_at ready i).attempt →
      IsTold (track_at new i) × (go ≡ 0)
  unneeded_told within unneeded alive led owes loose =
      let many = readied_count old wall elapsed in
      let x = track_at ready i in
      let here : is_alive (second ready) x ≡ true = sym alive_same ∙ alive in
      let unwanted : wants x (wanted_need ready i) ≡ false = not_wanted ready i led (sym needed_same ∙ unneeded) in
      let told =
      mid_told ready h.round i (omega (arith, many, within))
      (pressed_told ready.forest.margin (entry_of ready i) (wanted_need ready i) ready.clocks.at x owes (known_end (second ready) x.end here) here
      (λ yes' free. absurd (neither (wants x (wanted_need ready i)) x.out unwanted free yes')) (λ free. loose)) in
      (subst (λ (y : WatchState). IsTold (track_at y i)) (sym h.new_is) (sent_told mid h.requests i told.0), none_told told.0)

-- ---- a beginning

owing_same : (at : ℕ) (first called : Bool) (x : Track) → called ≡ false → owing at first called x ≡ x
unfolding owing
owing_same at first called x none = ap (λ b. if b && (first || is_open (sec at) x) then owing_lookup at x else x) none

owing_owes : (at : ℕ) (first called : Bool) (x : Track) → called ≡ true → first || is_open (sec at) x ≡ true → (owing at first called x).owes ≡ true
unfolding owing
owing_owes at first called x needed' ahead =
    ap (λ (y : Track). y.owes) (cond-true (called && (first || is_open (sec at) x)) (owing_lookup at x) x (and_from called (first || is_open (sec at) x) needed' ahead))
    ∙ if_both (λ (y : Track). y.owes ≡ true) x.out (record x { owes = true }) (record x { owes = true; attempt = Some (sooner_try (soon at x) x.attempt) }) refl refl

owing_end : (at : ℕ) (first called : Bool) (x : Track) → (owing at first called x).end ≡ x.end
unfolding owing
owing_end at first called x =
    if_both (λ (y : Track). y.end ≡ x.end) (called && (first || is_open (sec at) x)) (owing_lookup at x) x
    (if_both (λ (y : Track). y.end ≡ x.end) x.out (record x { owes = true }) (record x { owes = true; attempt = Some (sooner_try (soon at x) x.attempt) }) refl refl) refl

some_why : (o : Option BeginReason) → is_some o ≡ true → (w : BeginReason) × (o ≡ Some w)
some_why None h = absurd cc
some_why (Some w) h = (w, refl)

module _ (old : WatchState) (wall elapsed i : ℕ) (w : BeginReason) (is : why old wall elapsed ≡ Some w) where
  abbrev t : WatchState
  t = timed old wall elapsed

  -- the tracks at a beginning, before anybody is called
  abbrev fresh : List Track
  fresh = untopped (settled t).tracks

  begins_so : readied old wall elapsed ≡ begun (settled t) (Some w)
  unfolding readied
  begins_so = ap (begun (settled t)) is

  ready_is : i < length old.tracks → track_at (readied old wall elapsed) i ≡ owing t.clocks.at (is_start w) (is_called t.forest fresh t.clocks i) (track_in fresh i)
  ready_is within =
      let one = each_length (λ j. settled_track t.forest.margin t.clocks.at) t.tracks in
      let two = each_length (λ j. untopped_track) (settled t).tracks in
      ap (λ (x : WatchState). track_at x i) begins_so ∙ each_read (λ j. owing t.clocks.at (is_start w) (is_called t.forest fresh t.clocks j)) fresh i (omega (arith, one, two, within))

  called_so : is_called (readied old wall elapsed).forest (readied old wall elapsed).tracks (readied old wall elapsed).clocks i ≡ is_called t.forest fresh t.clocks i
  called_so =
      ap (λ (x : WatchState). is_called x.forest x.tracks x.clocks i) begins_so
      ∙ called_same (owing_all t.forest t.clocks (is_start w) fresh) fresh (owing_seen t.forest t.clocks (is_start w) fresh) t.forest t.clocks i

  ready_led : i < length old.tracks → (track_at (readied old wall elapsed) i).top ≡ false
  ready_led within =
      let count = each_length (λ j. settled_track t.forest.margin t.clocks.at) t.tracks in
      ap (λ (x : WatchState). (track_at x i).top) begins_so ∙ begun_top (settled t) (Some w) i refl (omega (arith, count, within))

  owes_fresh : (track_in fresh i).owes ≡ (track_at old i).owes
  unfolding settled_track
  owes_fresh =
      each_kept (λ (y x : Track). y.owes ≡ x.owes) refl (λ j. untopped_track) (settled t).tracks (λ j x. refl) i
      ∙ each_kept (λ (y x : Track). y.owes ≡ x.owes) refl (λ j. settled_track t.forest.margin t.clocks.at) t.tracks (λ j x. refl) i

  ready_owes : i < length old.tracks → is_called (readied old wall elapsed).forest (readied old wall elapsed).tracks (readied old wall elapsed).clocks i ≡ true →
      is_start w || is_open (second (readied old wall elapsed)) (track_at (readied old wall elapsed) i) ≡ true → (track_at (readied old wall elapsed) i).owes ≡ true
  ready_owes within called ahead =
      let y = ready_is within in
      let x = track_in fresh i in
      let c = is_called t.forest fresh t.clocks i in
      let at : second (readied old wall elapsed) ≡ sec t.clocks.at = ap second begins_so in
      let end : (track_at (readied old wall elapsed) i).end ≡ x.end = ap (λ (z : Track). z.end) y ∙ owing_end t.clocks.at (is_start w) c x in
      let there : is_start w || is_open (sec t.clocks.at) x ≡ true =
      sym (ap (λ e. is_start w || (is_unknown e || nat_lt (second (readied old wall elapsed)) (believed e))) end ∙ ap (λ n. is_start w || (is_unknown x.end || nat_lt n (believed x.end))) at) ∙ ahead in
      ap (λ (z : Track). z.owes) y ∙ owing_owes t.clocks.at (is_start w) c x (sym called_so ∙ called) there

  ready_free : i < length old.tracks → is_called (readied old wall elapsed).forest (readied old wall elapsed).tracks (readied old wall elapsed).clocks i ≡ false → (track_at old i).owes ≡ false →
      (track_at (readied old wall elapsed) i).owes ≡ false
  ready_free within none free =
      ap (λ (z : Track). z.owes) (ready_is within ∙ owing_same t.clocks.at (is_start w) (is_called t.forest fresh t.clocks i) (track_in fresh i) (sym called_so ∙ none)) ∙ owes_fresh ∙ free

  ready_loose : i < length old.tracks → is_called (readied old wall elapsed).forest (readied old wall elapsed).tracks (readied old wall elapsed).clocks i ≡ false → LooseAsks (track_at old i).attempt →
      LooseAsks (track_at (readied old wall elapsed) i).attempt
  ready_loose within none loose =
      let Still : Track → Track → Type 0 = λ y x. LooseAsks x.attempt → LooseAsks y.attempt in
      let same = ready_is within ∙ owing_same t.clocks.at (is_start w) (is_called t.forest fresh t.clocks i) (track_in fresh i) (sym called_so ∙ none) in
      subst (λ (x : Track). LooseAsks x.attempt) (sym same)
      (each_kept Still (λ k. k) (λ j. untopped_track) (settled t).tracks (λ j x k. k) i
      (each_kept Still (λ k. k) (λ j. settled_track t.forest.margin t.clocks.at) t.tracks (λ j x. loose_settled t.forest.margin t.clocks.at x) i loose))

-- ---- other events

stays : (new old : WatchState) (i n : ℕ) (due : Bool) → looks i new.out ≡ looks i old.out → Owes (track_at new i) (track_at old i) → (IsTold (track_at old i) → IsTold (track_at new i)) → Holds old i due n → Holds new i due n
stays new old i n due same owes told (inl (none, (quiet, owing'))) = inl (none, (same ∙ quiet, λ d. owes (owing' d)))
stays new old i n due same owes told (inr (one, inl out)) = inr (one, inl (same ∙ out))
stays new old i n due same owes told (inr (one, inr (quiet, here))) = inr (one, inr (same ∙ quiet, told here))

back_owes : (x : Track) → Owes (back_track x) x
unfolding back_track
back_owes x h = h

back_end : (x : Track) → (back_track x).end ≡ x.end
unfolding back_track
back_end x = refl

-- an answer, where mid is the state before what it says of the broker
module _ (old mid new : WatchState) (q : Out) (reply : WatchReply) (is : new ≡ replied mid q reply) (out : mid.out ≡ old.out) where
  other_holds : (i n : ℕ) (due : Bool) → q.entry ≢ i → track_at mid i ≡ track_at old i → Holds old i due n → Holds new i due n
  other_holds i n due apart same holds =
      subst (λ (x : WatchState). Holds x i due n) (sym is)
      (stays (replied mid q reply) old i n due (other_looks mid q reply i apart ∙ ap (looks i) out)
      (λ owes. back_kept Owes (λ x k. k) (λ x. back_owes x) mid q reply i (ap (λ (x : Track). x.owes) same ∙ owes))
      (λ told. back_kept (λ y x. IsTold x → IsTold y) (λ x k. k) (λ x. back_told x) mid q reply i (subst IsTold (sym same) told)) holds)

  own_quiet : looks q.entry new.out ≡ 0
  own_quiet = ap (λ (x : WatchState). looks q.entry x.out) is ∙ own_looks mid q reply

  own_told : IsTold (track_at mid q.entry) → IsTold (track_at new q.entry)
  own_told told = subst (λ (x : WatchState). IsTold (track_at x q.entry)) (sym is) (back_kept (λ y x. IsTold x → IsTold y) (λ x k. k) (λ x. back_told x) mid q reply q.entry told)

  own_owes : (track_at mid q.entry).owes ≡ true → (track_at new q.entry).owes ≡ true
  own_owes owes = subst (λ (x : WatchState). (track_at x q.entry).owes ≡ true) (sym is) (back_kept Owes (λ x k. k) (λ x. back_owes x) mid q reply q.entry owes)

  own_alive : is_alive (second new) (track_at new q.entry) ≡ is_alive (second mid) (track_at mid q.entry)
  own_alive =
      let end = back_kept (λ (y x : Track). y.end ≡ x.end) (λ x. refl) (λ x. back_end x) mid q reply q.entry in
      let clocks = ap (λ (x : WatchState). x.clocks) (replied_rest mid q reply) in
      ap (λ (x : WatchState). is_alive (second x) (track_at x q.entry)) is
      ∙ ap (λ e. nat_lt (second (replied mid q reply)) (believed e)) end ∙ ap (λ c. nat_lt (sec c.at) (believed (track_at mid q.entry).end)) clocks

-- of a lookup of the entry
own_looked :
    (old new : WatchState) (q : Out) (reply : WatchReply) (terms : WatchTerms) (n : ℕ) (due : Bool) → new ≡ replied (looked (noted old q reply) q reply terms) q reply → request_out old.out q.entry Look ≡ Some q →
    q.entry < length old.tracks → TellsAhead new q.entry reply → Holds old q.entry due n → Holds new q.entry due n
own_looked old new q (Told seconds renewable date) terms n due is found within well holds =
    let reply : WatchReply = Told seconds renewable date in
    let s = noted old q reply in
    let i = q.entry in
    let told = told_state s i q.since seconds renewable terms in
    let end = with_told_try told i in
    let x = told_track q.since seconds renewable terms.endless (track_at s i) in
    let there : track_at told i ≡ x = get_or-set_same s.tracks i x no_track within in
    let y = track_at told i in
    let z = record y { attempt = told_try told.clocks.at (is_called_for told i) y y.attempt } in
    let count : length told.tracks ≡ length s.tracks = length-set s.tracks i x in
    let last : track_at end i ≡ z = get_or-set_same told.tracks i z no_track (omega (arith, count, within)) in
    let rid = told_rid q.since seconds renewable terms.endless (track_at s i) in
    let alive : is_alive (second told) y ≡ true = sym (ap (is_alive (second told)) last) ∙ sym (own_alive old end new q reply is refl) ∙ well in
    let is_told : IsTold (track_at end i) = subst IsTold (sym last) (looked_told told.clocks.at (is_called_for told i) y (ap (λ (v : Track). v.owes) there ∙ rid.0, ap (λ (v : Track). is_unknown v.end) there ∙ rid.1) alive) in
    let some = found_looks i old.out q found in
    elim holds as (λ _. Holds new i due n) [
      | inl not_yet ↦ (let z' = not_yet.1.0 in absurd (omega (arith, some, z')))
      | inr was ↦ inr (was.0, inr (own_quiet old end new q reply is refl, own_told old end new q reply is refl is_told))
    ]
own_looked old new q _ terms n due is found within well holds = absurd well

-- and of a renewal
own_renewed :
    (old new : WatchState) (q : Out) (reply : WatchReply) (n : ℕ) (due : Bool) → new ≡ replied (state_renewed (noted old q reply) q reply) q reply → request_out old.out q.entry Renew ≡ Some q → IsAlone old →
    q.entry < length old.tracks → TellsAhead new q.entry reply → Holds old q.entry due n → Holds new q.entry due n
unfolding renewed_track
own_renewed old new q (Told seconds renewable date) n due is found alone within well holds =
    let reply : WatchReply = Told seconds renewable date in
    let s = noted old q reply in
    let i = q.entry in
    let mid = state_renewed s q reply in
    let step = (entry_of s i).step in
    let x = track_at s i in
    let from = from_try s.forest.margin step seconds s.clocks.at q.since x.attempt in
    let y = granted_from step s.clocks.at seconds renewable from x in
    let last : track_at mid i ≡ y = get_or-set_same s.tracks i y no_track within in
    let alive : is_alive (second s) y ≡ true = sym (ap (is_alive (second s)) last) ∙ sym (own_alive old mid new q reply is refl) ∙ well in
    let once = alone.single i in
    let beside = renewal_looks i old.out q found in
    let quiet = own_quiet old mid new q reply is refl in
    elim holds as (λ _. Holds new i due n) [
      | inl not_yet ↦ inl (
        not_yet.0,
        (quiet, λ d. own_owes old mid new q reply is refl (ap (λ (v : Track). v.owes) last ∙ granted_owes step s.clocks.at seconds renewable from x ∙ not_yet.1.1 d)),
      )
      | inr was ↦ elim was.1 as (λ _. Holds new i due n) [
        | inl out' ↦ absurd (omega (arith, once, beside, out'))
        | inr told ↦ inr (was.0, inr (quiet, own_told old mid new q reply is refl (subst IsTold (sym last) (granted_told step s.clocks.at seconds renewable from x alive told.1))))
      ]
    ]
own_renewed old new q _ n due is found alone within well holds = absurd well

looked_holds :
    (old new : WatchState) (found : Option Out) (j i n : ℕ) (reply : WatchReply) (terms : WatchTerms) (output : WatchOutput) (due : Bool) → request_out old.out j Look ≡ found → StepLooked old found reply terms output new →
    i < length old.tracks → (j ≡ i → TellsAhead new i reply) → Holds old i due n → Holds new i due n
looked_holds old new None j i n reply terms output due is step within well holds = absurd step
looked_holds old new (Some q) j i n reply terms output due is step within well holds =
    let s = noted old q reply in
    let entry = out_entry old.out j Look q is in
    elim (cases_eq q.entry i) as (λ _. Holds new i due n) [
      | inl same ↦ subst (λ k. Holds new k due n) same
          (own_looked old new q reply terms n due step.1 (ap (λ k. request_out old.out k Look) entry ∙ is) (omega (arith, same, within)) (subst (λ k. TellsAhead new k reply) (sym same) (well (sym entry ∙ same)))
          (subst (λ k. Holds old k due n) (sym same) holds))
      | inr apart ↦ other_holds old (looked s q reply terms) new q reply step.1 (looked_out s q reply terms) i n due apart (looked_other s q reply terms i apart) holds
    ]

renewed_holds :
    (old new : WatchState) (found : Option Out) (j i n : ℕ) (reply : WatchReply) (output : WatchOutput) (due : Bool) → request_out old.out j Renew ≡ found → StepRenewed old found reply output new → IsAlone old →
    i < length old.tracks → (j ≡ i → TellsAhead new i reply) → Holds old i due n → Holds new i due n
renewed_holds old new None j i n reply output due is step alone within well holds = absurd step
renewed_holds old new (Some q) j i n reply output due is step alone within well holds =
    let s = noted old q reply in
    let entry = out_entry old.out j Renew q is in
    elim (cases_eq q.entry i) as (λ _. Holds new i due n) [
      | inl same ↦ subst (λ k. Holds new k due n) same
          (own_renewed old new q reply n due step.1 (ap (λ k. request_out old.out k Renew) entry ∙ is) alone (omega (arith, same, within)) (subst (λ k. TellsAhead new k reply) (sym same) (well (sym entry ∙ same)))
          (subst (λ k. Holds old k due n) (sym same) holds))
      | inr apart ↦ other_holds old (state_renewed s q reply) new q reply step.1 refl i n due apart (get_or-set_other s.tracks q.entry i _ no_track (λ e. apart (sym e))) holds
    ]

known_told : (x : Track) (end : ℕ) (renewable : Bool) → IsTold x → IsTold (told_earlier end renewable x)
known_told x end renewable told = record { owes = told.owes; known = refl; asks = told.asks }

-- an end that is handed in leaves the others; and one that is ahead leaves what is asked of its own
known_kept :
    (R : Track → Track → Type 0) → ((x : Track) → R x x) → (old : WatchState) (j end i : ℕ) (renewable : Bool) → (j ≡ i → second old < min END_MAX end) → ((x : Track) → R (told_earlier end renewable x) x) →
    R (track_at (known old j end renewable) i) (track_at old i)
unfolding owing_past
known_kept R same old j end i renewable ahead told =
    let x = track_at old j in
    let y = told_earlier end renewable x in
    let z = owing_past old.clocks.at y in
    let own' : second old < min END_MAX end → R z x = λ low.
    let alive : is_alive (second old) y ≡ true = grind (arith, nat_tests, low) in
    subst (λ w. R w x) (sym (cond-true (is_alive (second old) y) y (owing_lookup old.clocks.at y) alive)) (told x) in
    elim (cases_eq j i) as (λ _. R (track_at (known old j end renewable) i) (track_at old i)) [
      | inl own ↦ set_kept R same old.tracks j z (own' (ahead own)) i
      | inr apart ↦ subst (λ w. R w (track_at old i)) (sym (get_or-set_other old.tracks j i z no_track (λ e. apart (sym e)))) (same (track_at old i))
    ]

known_holds : (old : WatchState) (j end i n : ℕ) (renewable due : Bool) → (j ≡ i → second old < min END_MAX end) → Holds old i due n → Holds (known old j end renewable) i due n
known_holds old j end i n renewable due ahead holds =
    stays (known old j end renewable) old i n due refl (known_kept Owes (λ x k. k) old j end i renewable ahead (λ x k. k))
    (known_kept (λ y x. IsTold x → IsTold y) (λ x k. k) old j end i renewable ahead (λ x. known_told x end renewable)) holds

-- nothing goes out at an event that is taken and no more
quiet : (new : WatchState) (i n : ℕ) (due : Bool) (output out : WatchOutput) → output ≡ out → requests_asked_by out.command ≡ [] → Holds new i due n → Holds new i due (n + length (filter (is_lookup i) (requests_asked_by output.command)))
quiet new i n due output out is none holds =
    let e : length (filter (is_lookup i) (requests_asked_by output.command)) ≡ 0 = ap (λ (x : WatchOutput). length (filter (is_lookup i) (requests_asked_by x.command))) is ∙ ap (λ rs. length (filter (is_lookup i) rs)) none in
    subst (Holds new i due) (let k : n ≡ n + length (filter (is_lookup i) (requests_asked_by output.command)) = omega (arith, e) in k) holds

goes_of : (old new : WatchState) (wall elapsed : ℕ) (output : WatchOutput) (i : ℕ) (h : Ticks old new wall elapsed output) → length (filter (is_lookup i) (requests_asked_by output.command)) ≡ length (filter (is_lookup i) h.requests)
goes_of old new wall elapsed output i h = ap (λ c. length (filter (is_lookup i) (requests_asked_by c))) h.command

step_holds :
    (old new : WatchState) (event : WatchEvent) (output : WatchOutput) (i n : ℕ) (due : Bool) → Step old event output new → GoesWell i new event output → IsAlone old → i < length old.tracks → Holds old i due n →
    Holds new i due (n + length (filter (is_lookup i) (requests_asked_by output.command)))
step_holds old new (Clock wall elapsed) output i n due step well alone within holds =
    let h = ticks old new wall elapsed output step in
    let none : why old wall elapsed ≡ None = sym (ap (λ (x : Notes). x.began) step.notes) ∙ well.0 in
    subst (λ k. Holds new i due (n + k)) (sym (goes_of old new wall elapsed output i h)) (clock_holds old new wall elapsed output i h n due none alone within well.1 holds)
step_holds old new (Looked j reply terms) output i n due step well alone within holds =
    looked_turn (request_out old.out j Look) refl step where
      looked_turn : (found : Option Out) → request_out old.out j Look ≡ found → StepLooked old found reply terms output new → Holds new i due (n + length (filter (is_lookup i) (requests_asked_by output.command)))
      looked_turn None is step' = absurd step'
      looked_turn (Some q) is step' = quiet new i n due output _ step'.0 refl (looked_holds old new (Some q) j i n reply terms output due is step' within well holds)
step_holds old new (Renewed j reply) output i n due step well alone within holds =
    renewed_turn (request_out old.out j Renew) refl step where
      renewed_turn : (found : Option Out) → request_out old.out j Renew ≡ found → StepRenewed old found reply output new → Holds new i due (n + length (filter (is_lookup i) (requests_asked_by output.command)))
      renewed_turn None is step' = absurd step'
      renewed_turn (Some q) is step' = quiet new i n due output _ step'.0 refl (renewed_holds old new (Some q) j i n reply output due is step' alone within well holds)
step_holds old new (Known j end renewable) output i n due step well alone within holds =
    quiet new i n due output _ step.0 refl (subst (λ (x : WatchState). Holds x i due n) (sym step.1)
    (known_holds old j end i n renewable due (λ own. subst (λ k. k < min END_MAX end) (ap second step.1) (well own)) holds))
step_holds old new _ output i n due step well alone within holds = quiet new i n due output _ step.0 refl (subst (λ (x : WatchState). Holds x i due n) (sym step.1) holds)

turn_holds :
    (old new : WatchState) (event : WatchEvent) (result : Result WatchOutput WatchFault) (i n : ℕ) (due : Bool) → Turn old event result new → GoesWellAt i new event result → IsAlone old → i < length old.tracks →
    Holds old i due n → Holds new i due (n + length (filter (is_lookup i) (requests_at_turn result)))
turn_holds old new event (Ok output) i n due turn well alone within holds = step_holds old new event output i n due turn.1 well alone within holds
turn_holds old new event (Err fault) i n due turn well alone within holds =
    subst (Holds new i due) (let e : n ≡ n + 0 = omega arith in e) (subst (λ (x : WatchState). Holds x i due n) (sym (refused_stays old new event fault turn)) holds)

ran : (turns : List Turned) (old : WatchState) (i n : ℕ) (due : Bool) → History old turns → GoWell i turns → IsAlone old → i < length old.tracks → Holds old i due n → Holds (after_all old turns) i due (n + lookups i turns)
ran [] old i n due history well alone within holds = subst (Holds old i due) (let e : n ≡ n + 0 = omega arith in e) holds
ran (turn ∷ turns) old i n due history well alone within holds =
    let here = turn_holds old turn.state turn.event turn.result i n due history.0 well.0 alone within holds in
    let count = turn_count old turn.state turn.event turn.result history.0 in
    let k = length (filter (is_lookup i) (requests_at_turn turn.result)) in
    let rest = ran turns turn.state i (n + k) due history.1 well.1 (turn_alone old turn.state turn.event turn.result history.0 alone) (omega (arith, count, within)) here in
    subst (Holds (after_all turn.state turns) i due) (let e : n + k + lookups i turns ≡ n + (k + lookups i turns) = omega arith in e) rest

-- ---- the law

-- what holds after a beginning
record Started (old new : WatchState) (result : Result WatchOutput WatchFault) (i : ℕ) : Type 0 where
  holds : Holds new i (track_at new i).owes (looks i old.out + length (filter (is_lookup i) (requests_at_turn result)))
  led : (track_at new i).top ≡ false
  owes : is_needed new i ≡ true → IsForLookup (why_begun result) new i → (track_at new i).owes ≡ true
  free : is_needed new i ≡ false → is_alive (second new) (track_at new i) ≡ true → (track_at old i).owes ≡ false → is_loose_look (attempt_at old i) ≡ false →
      Holds new i false 1 × (length (filter (is_lookup i) (requests_at_turn result)) ≡ 0)

clock_started : (old new : WatchState) (wall elapsed : ℕ) (output : WatchOutput) (i : ℕ) → StepClock old wall elapsed output new → is_some output.notes.began ≡ true → IsAlone old → i < length old.tracks → Started old new (Ok output) i
clock_started old new wall elapsed output i step begins alone within =
    let h = ticks old new wall elapsed output step in
    let go = goes_of old new wall elapsed output i h in
    let w = some_why (why old wall elapsed) (sym (ap (λ (x : Notes). is_some x.began) step.notes) ∙ begins) in
    let ready' = readied old wall elapsed in
    let same = needed_same old new wall elapsed output i h in
    let bear = bears old new wall elapsed output i h in
    let at = now old new wall elapsed output i h in
    record {
      holds = subst (λ k. Holds new i (track_at new i).owes (looks i old.out + k)) (sym go) (clock_starts old new wall elapsed output i h within alone);
      led = ap (λ (x : Track). x.top) ((seen old new wall elapsed output i h).tracks i) ∙ ready_led old wall elapsed i w.0 w.1 within;
      owes = λ called how.
          let there : is_start w.0 || is_open (second ready') (track_at ready' i) ≡ true =
          elim how as (λ _. is_start w.0 || is_open (second ready') (track_at ready' i) ≡ true) [
            | inl start ↦
                let same_why : Some w.0 ≡ Some Start = sym w.1 ∙ sym (ap (λ (x : Notes). x.began) step.notes) ∙ start in
                or_left (is_start w.0) (is_open (second ready') (track_at ready' i)) (ap is_start (value_is w.0 Start same_why))
            | inr ahead ↦
                or_right (is_start w.0) (is_open (second ready') (track_at ready' i))
                (sym (ap (λ e. is_unknown e || nat_lt (second new) (believed e)) bear.0 ∙ ap (λ n. is_unknown (track_at ready' i).end || nat_lt n (believed (track_at ready' i).end)) at) ∙ ahead)
          ] in
          bear.1.1.0 ∙ ready_owes old wall elapsed i w.0 w.1 within (sym same ∙ called) there;
      free = λ none alive owes loose.
          let free' = ready_free old wall elapsed i w.0 w.1 within (sym same ∙ none) owes in
          let told = unneeded_told old new wall elapsed output i h within none alive (ready_led old wall elapsed i w.0 w.1 within) free'
          (ready_loose old wall elapsed i w.0 w.1 within (sym same ∙ none) (loose_asks (attempt_at old i) loose)) in
          let after = looks_after old new wall elapsed output i h in
          let z = told.1 in
          let once = alone.single i in
          let less = looks_few i old.out in (
            elim (cases_one (looks i old.out) (omega (arith, once, less))) as (λ _. Holds new i false 1) [
              | inl quiet' ↦ inr (refl, inr (omega (arith, after, quiet', z), told.0))
              | inr out' ↦ inr (refl, inl (omega (arith, after, out', z)))
            ],
            go ∙ z,
          );
    }

none_begins : (output out : WatchOutput) → output ≡ out → out.notes.began ≡ None → is_some output.notes.began ≡ true → ⊥
none_begins output out is none begins = not_both (sym (ap (λ (x : WatchOutput). is_some x.notes.began) is) ∙ begins) (ap is_some none)

started : (old new : WatchState) (event : WatchEvent) (result : Result WatchOutput WatchFault) (i : ℕ) → Turn old event result new → is_some (why_begun result) ≡ true → IsAlone old → i < length old.tracks → Started old new result i
started old new (Clock wall elapsed) (Ok output) i turn begins alone within = clock_started old new wall elapsed output i turn.1 begins alone within
started old new (Looked j reply terms) (Ok output) i turn begins alone within = absurd (by (request_out old.out j Look) turn.1) where
  by : (found : Option Out) → StepLooked old found reply terms output new → ⊥
  by None step = step
  by (Some q) step = none_begins output _ step.0 (looked_begins (noted old q reply) q reply terms) begins
started old new (Renewed j reply) (Ok output) i turn begins alone within = absurd (by (request_out old.out j Renew) turn.1) where
  by : (found : Option Out) → StepRenewed old found reply output new → ⊥
  by None step = step
  by (Some q) step = none_begins output _ step.0 refl begins
started old new event (Err fault) i turn begins alone within = absurd cc
started old new _ (Ok output) i turn begins alone within = absurd (none_begins output _ turn.1.0 refl begins)

-- what holds at last
once : (last : WatchState) (i n : ℕ) (due : Bool) → Holds last i due n → (n ≤ 1) × (due ≡ true → (track_at last i).owes ≡ false → n ≡ 1)
once last i n due (inl not_yet) = ((let z = not_yet.0 in omega (arith, z)), λ owed free. absurd (not_both (not_yet.1.1 owed) free))
once last i n due (inr was) = ((let z = was.0 in omega (arith, z)), λ owed free. was.0)

pub looked_once : OneLookupLaw
looked_once old turn after i reached history within begins well =
    let last = after_all turn.state after in
    let base = reached_base old reached in
    let count = base.count in
    let start = started old turn.state turn.event turn.result i history.0 begins base.alone (omega (arith, count, within)) in
    let more = turn_count old turn.state turn.event turn.result history.0 in
    let alone = turn_alone old turn.state turn.event turn.result history.0 base.alone in
    let goes : (k : ℕ) (due : Bool) → Holds turn.state i due k → Holds last i due (k + lookups i after) =
    λ k due holds. ran after turn.state i k due history.1 well alone (omega (arith, count, more, within)) holds in
    let k = length (filter (is_lookup i) (requests_at_turn turn.result)) in
    let ends = once last i (looks i old.out + k + lookups i after) (track_at turn.state i).owes (goes (looks i old.out + k) (track_at turn.state i).owes start.holds) in
    let most = ends.0 in
    record {
      at_most = omega (arith, most);
      wanted = λ wanted. wanted_needed turn.state i start.led wanted;
      owes = start.owes;
      once = λ called ahead free. (let is = ends.1 (start.owes called ahead) free in let e : looks i old.out + (k + lookups i after) ≡ 1 = omega (arith, is) in e);
      never = λ called alive free loose.
          let so = start.free called alive free loose in
          let none = so.1 in
          let rest = (once last i (1 + lookups i after) false (goes 1 false so.0)).0 in
          (let e : k + lookups i after ≡ 0 = omega (arith, none, rest) in e);
    }
