-- Presses: whom a clock presses, and whom it lets go. For the law of presses.
use Rattle.std.proofs.Common.{◌≡◌, ◌∙◌, ℕ, ◌+◌, ◌<◌, Bool, true, false, not, ◌&&◌, ◌||◌, ◌⊎◌, ◌==◌, if◌then◌else◌, List, Option, Some, None, Result, Ok, Err, length, max, nat_le, nat_lt, refl, sym, ap, subst, arith, inl, inr, true≢false}
use Rattle.std.proofs.lemmas.Bool.{and_from, and_parts, cases_Bool, cases_lt, cond-false, cond-true, or_left, or_right}
use Rattle.std.specs.List.{list_any}
use Rattle.plan_forest.specs.declared.entry.Entry.{Entry}
use Rattle.watch_machine.specs.{declared.command.WatchOutput.WatchOutput, declared.command.WatchRequest.WatchRequest, declared.event.WatchEvent.WatchEvent, declared.event.WatchEvent.TheVariants.Clock, declared.fault.WatchFault.WatchFault}
use Rattle.watch_machine.specs.{declared.notes.Notes.Notes, declared.notes.BeginReason.BeginReason, declared.track.End.End, declared.track.Track.Track, declared.track.Try.Try, Clocks.sec, History.Turn, Lines.rested, Margins.has_come}
use Rattle.watch_machine.specs.{Pauses.pause, Round.IsRound, Round.asked_by_round, Sending.sent}
use Rattle.watch_machine.specs.declared.event.Operation.TheVariants.{Look, Renew}
use Rattle.watch_machine.specs.Beginning.{begun, is_called, is_pressed, is_pressed_try, is_start, owing, owing_lookup, soon, sooner_try, untopped, untopped_track}
use Rattle.watch_machine.specs.Press.{asked_track, dropped, is_fresh, press, pressed, pressed_track, track_asked_in}
use Rattle.watch_machine.specs.Settling.{settled, settled_track, settled_try, timed}
use Rattle.watch_machine.specs.State.{WatchState, attempt_at, entry_of, no_track, second, track_at, track_in}
use Rattle.watch_machine.specs.Step.{Step, StepClock, readied, why}
use Rattle.watch_machine.specs.Wanted.{believed, is_open, is_wanted, wanted_need, wants}
use Rattle.watch_machine.proofs.Unseen.{pressed_seen, sent_seen}
use Rattle.watch_machine.proofs.Cases.{if_both, if_cases, value_is}
use Rattle.watch_machine.proofs.Seeing.{SameSeen, both_seen, need_same}
use Rattle.watch_laws.specs.Absence.{is_event_taken}
use Rattle.watch_laws.specs.Presses.{HasPressed, HasToBeAsked, IsPressedNow, IsSameTry, KeepsTry, PressLaw, asked_again_at}
use Rattle.watch_laws.specs.Time.{is_come, is_named_in_round, round_of}
use Rattle.watch_laws.proofs.{Clocking.sent_by, Minding.some_within, Once.names_none, Topping.readied_count, Tracking.each_kept}
use Rattle.watch_laws.proofs.OnPlan.{attempt_sent, end_pressed, mid_read, new_count, out_pressed, owes_kept, past_kept, stays}
use Rattle.watch_laws.proofs.Opener.{come_same, mid_bears, wants_same}

-- what stays of a try while it waits
abbrev kept_of : Option Try → Option Try
kept_of None = None
kept_of (Some t) = Some (record t { at = 0; alone = false; failed = false })

-- until all are pressed, a clock leaves when an entry was asked, its end, whether it is out, whether it is pressed, and what stays of its try
-- then
pub record Keeps (y x : Track) : Type 0 where
  pub last : y.last ≡ x.last
  pub end : y.end ≡ x.end
  pub out : y.out ≡ x.out
  pub pressed : is_pressed y ≡ is_pressed x
  pub try : is_pressed x ≡ true → kept_of y.attempt ≡ kept_of x.attempt

keeps_same : (x : Track) → Keeps x x
keeps_same x = record { last = refl; end = refl; out = refl; pressed = refl; try = λ _. refl }

keeps_both : (z y x : Track) → Keeps z y → Keeps y x → Keeps z x
keeps_both z y x h k = record { last = h.last ∙ k.last; end = h.end ∙ k.end; out = h.out ∙ k.out; pressed = h.pressed ∙ k.pressed; try = λ p. h.try (k.pressed ∙ p) ∙ k.try p }

settled_is : (margin at : ℕ) (x : Track) (o : Option Try) → is_pressed_try (settled_try margin at x o) ≡ is_pressed_try o
settled_is margin at x None = refl
settled_is margin at x (Some t) =
    if_both (λ o. is_pressed_try o ≡ t.pressed) t.failed (Some (record t { at = at + pause margin at x t; alone = t.alone && nat_le (rested x.last) at; failed = false })) (Some t) refl refl

settled_kept : (margin at : ℕ) (x : Track) (o : Option Try) → kept_of (settled_try margin at x o) ≡ kept_of o
settled_kept margin at x None = refl
settled_kept margin at x (Some t) =
    if_both (λ o. kept_of o ≡ kept_of (Some t)) t.failed (Some (record t { at = at + pause margin at x t; alone = t.alone && nat_le (rested x.last) at; failed = false })) (Some t) refl refl

pub settled_keeps : (margin at : ℕ) (x : Track) → Keeps (settled_track margin at x) x
unfolding settled_track
settled_keeps margin at x = record { last = refl; end = refl; out = refl; pressed = settled_is margin at x x.attempt; try = λ _. settled_kept margin at x x.attempt }

sooner_is : (from : ℕ) (o : Option Try) → (sooner_try from o).pressed ≡ is_pressed_try o
sooner_is from None = refl
sooner_is from (Some t) = refl

sooner_kept : (from : ℕ) (o : Option Try) → is_pressed_try o ≡ true → kept_of (Some (sooner_try from o)) ≡ kept_of o
sooner_kept from None is = absurd cc
sooner_kept from (Some t) is = refl

owing_keeps : (at : ℕ) (first called : Bool) (x : Track) → Keeps (owing at first called x) x
unfolding owing
owing_keeps at first called x =
    if_both (λ y. Keeps y x) (called && (first || is_open (sec at) x)) (owing_lookup at x) x
    (if_both (λ y. Keeps y x) x.out (record x { owes = true }) (record x { owes = true; attempt = Some (sooner_try (soon at x) x.attempt) }) (record { last = refl; end = refl; out = refl; pressed = refl; try = λ _. refl })
    (record { last = refl; end = refl; out = refl; pressed = sooner_is (soon at x) x.attempt; try = λ p. sooner_kept (soon at x) x.attempt p })) (keeps_same x)

begun_keeps : (s : WatchState) (w : Option BeginReason) (i : ℕ) → Keeps (track_at (begun s w) i) (track_at s i)
begun_keeps s None i = keeps_same (track_at s i)
begun_keeps s (Some w) i =
    let xs = untopped s.tracks in
    keeps_both (track_at (begun s (Some w)) i) (track_in xs i) (track_at s i)
    (each_kept Keeps (keeps_same no_track) (λ j. owing s.clocks.at (is_start w) (is_called s.forest xs s.clocks j)) xs (λ j x. owing_keeps s.clocks.at (is_start w) (is_called s.forest xs s.clocks j) x) i)
    (each_kept Keeps (keeps_same no_track) (λ j. untopped_track) s.tracks (λ j x. record { last = refl; end = refl; out = refl; pressed = refl; try = λ _. refl }) i)

pub readied_keeps : (s : WatchState) (wall elapsed i : ℕ) → Keeps (track_at (readied s wall elapsed) i) (track_at s i)
unfolding readied
readied_keeps s wall elapsed i =
    let t = timed s wall elapsed in
    keeps_both (track_at (begun (settled t) (why s wall elapsed)) i) (track_at (settled t) i) (track_at s i) (begun_keeps (settled t) (why s wall elapsed) i)
    (each_kept Keeps (keeps_same no_track) (λ j. settled_track t.forest.margin t.clocks.at) s.tracks (λ j x. settled_keeps t.forest.margin t.clocks.at x) i)

-- the try of one that is pressed
pub again_is : (last : Option ℕ) → rested last ≡ asked_again_at last
again_is None = refl
again_is (Some last) = refl

press_is : (old new : WatchState) (i : ℕ) (y : Track) → y.last ≡ (track_at old i).last → (track_at new i).end ≡ y.end → IsPressedNow old new i (press new.clocks.at y)
unfolding press
press_is old new i y last end = record {
  at = ap (λ l. max new.clocks.at (rested l)) last ∙ ap (max new.clocks.at) (again_is (track_at old i).last);
  operation = ap (λ (e : End). if nat_lt (second new) (believed e) then Renew else Look) (sym end);
  pressed = refl;
  base = refl;
  fails = refl;
}

pub pressed_last : (margin : ℕ) (e : Entry) (need at : ℕ) (x : Track) → (pressed_track margin e need at x).last ≡ x.last
unfolding pressed_track
pressed_last margin e need at x =
    if_both (λ (y : Track). y.last ≡ x.last) (is_fresh margin e x need (sec at)) (record x { attempt = Some (press at x) }) (if wants x need || x.out then x else record x { attempt = dropped x x.attempt }) refl
    (if_both (λ (y : Track). y.last ≡ x.last) (wants x need || x.out) x (record x { attempt = dropped x x.attempt }) refl refl)

-- one whose time has come
module _ (at : ℕ) (round : List ℕ) (i : ℕ) where
  named_try : (y : Track) → y.out ≡ false → list_any (λ j. j == i) round ≡ true → (track_asked_in at round i y).attempt ≡ Some (press at y)
  unfolding asked_track
  named_try y free named =
      ap (λ (z : Track). z.attempt) (cond-true (list_any (λ j. j == i) round) (asked_track at y) y named)
      ∙ ap (λ (z : Track). z.attempt) (cond-false y.out y (record y { attempt = Some (press at y) }) free)

  other_track : (y : Track) → list_any (λ j. j == i) round ≡ false → track_asked_in at round i y ≡ y
  other_track y other = cond-false (list_any (λ j. j == i) round) (asked_track at y) y other

  fresh_track : (margin : ℕ) (e : Entry) (x : Track) (need : ℕ) → wants x need ≡ true → has_come margin e x (sec at) ≡ true → is_pressed x ≡ false → x.out ≡ false → pressed_track margin e need at x ≡ record x { attempt = Some (press at x) }
  unfolding pressed_track is_fresh
  fresh_track margin e x need wanted come loose free =
      cond-true (wants x need && (has_come margin e x (sec at) && (not (is_pressed x) && not x.out))) (record x { attempt = Some (press at x) })
      (if wants x need || x.out then x else record x { attempt = dropped x x.attempt })
      (and_from (wants x need) (has_come margin e x (sec at) && (not (is_pressed x) && not x.out)) wanted
      (and_from (has_come margin e x (sec at)) (not (is_pressed x) && not x.out) come (and_from (not (is_pressed x)) (not x.out) (ap not loose) (ap not free))))

  again_same : (x : Track) (o : Option Try) → press at (record x { attempt = o }) ≡ press at x
  unfolding press
  again_same x o = refl

  come_try : (margin : ℕ) (e : Entry) (x : Track) (need : ℕ) → wants x need ≡ true → has_come margin e x (sec at) ≡ true → is_pressed x ≡ false → x.out ≡ false →
      (track_asked_in at round i (pressed_track margin e need at x)).attempt ≡ Some (press at x)
  come_try margin e x need wanted come loose free =
      let y : Track = record x { attempt = Some (press at x) } in
      ap (λ (z : Track). (track_asked_in at round i z).attempt) (fresh_track margin e x need wanted come loose free)
      ∙ if_cases (λ (z : Track). z.attempt ≡ Some (press at x)) (list_any (λ j. j == i) round) (asked_track at y) y
      (λ named.
      ap (λ (z : Track). z.attempt) (sym (cond-true (list_any (λ j. j == i) round) (asked_track at y) y named)) ∙ named_try y free named
      ∙ ap (λ t. Some t) (again_same x (Some (press at x)))) (λ _. refl)

  -- one that is wanted no more
  gone_track : (margin : ℕ) (e : Entry) (x : Track) (need : ℕ) → wants x need ≡ false → x.out ≡ false → pressed_track margin e need at x ≡ record x { attempt = dropped x x.attempt }
  unfolding pressed_track is_fresh
  gone_track margin e x need unwanted free =
      let rest = has_come margin e x (sec at) && (not (is_pressed x) && not x.out) in
      let keep = if wants x need || x.out then x else record x { attempt = dropped x x.attempt } in
      cond-false (wants x need && rest) (record x { attempt = Some (press at x) }) keep (ap (λ b. b && rest) unwanted)
      ∙ cond-false (wants x need || x.out) x (record x { attempt = dropped x x.attempt }) (ap (λ b. b || x.out) unwanted ∙ free)

left_over : (x : Track) (o : Option Try) (u : Try) → dropped x o ≡ Some u → (u.pressed ≡ false) × ((x.owes ≡ true) ⊎ (is_pressed_try o ≡ false))
left_over x None u is = absurd cc
left_over x (Some t) u is = by t.pressed x.owes refl refl is where
  by :
      (p w : Bool) → t.pressed ≡ p → x.owes ≡ w → (if p then (if w then Some (record t { at = max t.at (rested x.last); operation = Look; pressed = false }) else None) else Some t) ≡ Some u →
      (u.pressed ≡ false) × ((x.owes ≡ true) ⊎ (t.pressed ≡ false))
  by true true p w is' = (ap (λ (v : Try). v.pressed) (sym (value_is (record t { at = max t.at (rested x.last); operation = Look; pressed = false }) u is')), inl w)
  by true false p w is' = absurd cc
  by false w p v is' = (ap (λ (v : Try). v.pressed) (sym (value_is t u is')) ∙ p, inr p)

-- whoever was not pressed before, and is now, had to be asked, or a round names it
left_loose : (x : Track) (o : Option Try) → is_pressed_try o ≡ false → is_pressed_try (dropped x o) ≡ false
left_loose x None loose = refl
left_loose x (Some t) loose = by t.pressed x.owes loose where
  by : (p w : Bool) → p ≡ false → is_pressed_try (if p then (if w then Some (record t { at = max t.at (rested x.last); operation = Look; pressed = false }) else None) else Some t) ≡ false
  by true w p = absurd cc
  by false w p = loose

out_asked_same : (at : ℕ) (round : List ℕ) (i : ℕ) (y : Track) → y.out ≡ true → track_asked_in at round i y ≡ y
unfolding asked_track
out_asked_same at round i y out =
    if_both (λ z. z ≡ y) (list_any (λ j. j == i) round) (asked_track at y) y (cond-true y.out y (record y { attempt = Some (press at y) }) out) refl

loose_pressed : (margin : ℕ) (e : Entry) (need at : ℕ) (x : Track) → is_pressed x ≡ false → is_fresh margin e x need (sec at) ≡ false → is_pressed (pressed_track margin e need at x) ≡ false
unfolding pressed_track
loose_pressed margin e need at x loose stale =
    ap is_pressed (cond-false (is_fresh margin e x need (sec at)) (record x { attempt = Some (press at x) }) (if wants x need || x.out then x else record x { attempt = dropped x x.attempt }) stale)
    ∙ if_both (λ y. is_pressed y ≡ false) (wants x need || x.out) x (record x { attempt = dropped x x.attempt }) loose (left_loose x x.attempt loose)

fresh_parts : (margin : ℕ) (e : Entry) (x : Track) (need now : ℕ) → is_fresh margin e x need now ≡ true → (wants x need ≡ true) × (has_come margin e x now ≡ true)
unfolding is_fresh
fresh_parts margin e x need now fresh =
    let a = and_parts (wants x need) (has_come margin e x now && (not (is_pressed x) && not x.out)) fresh in
    (a.0, (and_parts (has_come margin e x now) (not (is_pressed x) && not x.out) a.1).0)

stale_asked : (margin : ℕ) (e : Entry) (x : Track) (need now : ℕ) → is_pressed x || x.out ≡ true → is_fresh margin e x need now ≡ false
unfolding is_fresh
stale_asked margin e x need now asked = by (wants x need) (has_come margin e x now) (is_pressed x) x.out asked where
  by : (w c p o : Bool) → p || o ≡ true → w && (c && (not p && not o)) ≡ false
  by false c p o h = refl
  by true false p o h = refl
  by true true true o h = refl
  by true true false true h = refl
  by true true false false h = absurd cc

-- what stays of a try is a try
at_try : (o : Option Try) (t : Try) → kept_of o ≡ kept_of (Some t) → (u : Try) × ((o ≡ Some u) × IsSameTry t u)
at_try None t same = absurd cc
at_try (Some u) t same =
    let is : record u { at = 0; alone = false; failed = false } ≡ record t { at = 0; alone = false; failed = false } = value_is (record u { at = 0; alone = false; failed = false }) (record t { at = 0; alone = false; failed = false }) same in (
      u,
      (
        refl,
        record {
          operation = ap (λ (v : Try). v.operation) is;
          pressed = ap (λ (v : Try). v.pressed) is;
          base = ap (λ (v : Try). v.base) is;
          fails = ap (λ (v : Try). v.fails) is;
          lost = ap (λ (v : Try). v.lost) is;
        },
      ),
    )

-- a clock
named_is : (round : Option (List ℕ)) (i : ℕ) → list_any (λ j. j == i) (asked_by_round round) ≡ is_named_in_round round i
named_is None i = refl
named_is (Some asked) i = refl

module _ (old : WatchState) (wall elapsed : ℕ) (round : List ℕ) (requests : List WatchRequest) (i : ℕ) where
  abbrev r : WatchState
  r = readied old wall elapsed

  abbrev n : WatchState
  n = sent (pressed r round) requests

  abbrev x : Track
  x = track_at r i

  abbrev y : Track
  y = pressed_track r.forest.margin (entry_of r i) (wanted_need r i) r.clocks.at x

  keeps : Keeps x (track_at old i)
  keeps = readied_keeps old wall elapsed i

  end_is : (track_at n i).end ≡ x.end
  end_is = ap (λ (z : Track). z.end) (mid_bears r round requests i)

  pub wanted_is : is_wanted n i ≡ wants x (wanted_need r i)
  wanted_is =
      let g = r.forest in
      let c = r.clocks in
      let seen : SameSeen n.tracks r.tracks = both_seen n.tracks (pressed r round).tracks r.tracks (sent_seen c.at requests (pressed r round).tracks) (pressed_seen g c round r.tracks) in
      ap (wants (track_at n i)) (need_same n.tracks r.tracks seen g.entries c i) ∙ wants_same (track_at n i) x (wanted_need r i) (mid_bears r round requests i)

  pub come_is : is_come n i ≡ has_come r.forest.margin (entry_of r i) x (second r)
  come_is = come_same r.forest.margin (entry_of r i) (track_at n i) x (second r) (mid_bears r round requests i)

  within_r : i < length old.tracks → i < length r.tracks
  within_r within = let count = readied_count old wall elapsed in omega (arith, within, count)

  try_is : i < length r.tracks → attempt_at n i ≡ (track_asked_in r.clocks.at round i y).attempt
  try_is within = attempt_sent r round requests i ∙ ap (λ (z : Track). z.attempt) (mid_read r round requests i within)

  come_pressed : i < length old.tracks → (track_at old i).out ≡ false → is_pressed (track_at old i) ≡ false → is_wanted n i ≡ true → is_come n i ≡ true → HasPressed old n i
  come_pressed within free loose wanted come = (
    press r.clocks.at x,
    (
      try_is (within_r within)
          ∙ come_try r.clocks.at round i r.forest.margin (entry_of r i) x (wanted_need r i) (sym wanted_is ∙ wanted) (sym come_is ∙ come) (keeps.pressed ∙ loose) (keeps.out ∙ free),
      press_is old n i x keeps.last end_is,
    ),
  )

  named_pressed : i < length old.tracks → (track_at old i).out ≡ false → list_any (λ j. j == i) round ≡ true → HasPressed old n i
  named_pressed within free named =
      let m = r.forest.margin in
      let e = entry_of r i in
      let need = wanted_need r i in
      let at = r.clocks.at in (
        press at y,
        (
          try_is (within_r within) ∙ named_try at round i y (out_pressed m e need at x ∙ keeps.out ∙ free) named,
          press_is old n i y (pressed_last m e need at x ∙ keeps.last) (end_is ∙ sym (end_pressed m e need at x)),
        ),
      )

  let_go_so : (u : Try) → (track_at old i).out ≡ false → is_wanted n i ≡ false → list_any (λ j. j == i) round ≡ false → attempt_at n i ≡ Some u → (u.pressed ≡ false) × (((track_at n i).owes ≡ true) ⊎ (is_pressed (track_at old i) ≡ false))
  let_go_so u free unwanted other is =
      let m = r.forest.margin in
      let e = entry_of r i in
      let need = wanted_need r i in
      let at = r.clocks.at in
      let within : i < length r.tracks = (let low = some_within n.tracks i u is in let count = new_count r round requests in omega (arith, low, count)) in
      let gone = gone_track at round i m e x need (sym wanted_is ∙ unwanted) (keeps.out ∙ free) in
      let there : dropped x x.attempt ≡ Some u = ap (λ (z : Track). z.attempt) (sym gone) ∙ ap (λ (z : Track). z.attempt) (sym (other_track at round i y other)) ∙ sym (try_is within) ∙ is in
      let left = left_over x x.attempt u there in
      (left.0, elim left.1 [ inl owes ↦ inl (owes_kept r round requests i ∙ owes) | inr loose ↦ inr (sym keeps.pressed ∙ loose) ])

  -- whoever is pressed that was not
  only_so : is_pressed (track_at old i) ≡ false → is_pressed (track_at n i) ≡ true → ((track_at old i).out ≡ false) × (((is_wanted n i ≡ true) × (is_come n i ≡ true)) ⊎ (list_any (λ j. j == i) round ≡ true))
  only_so loose now =
      let m = r.forest.margin in
      let e = entry_of r i in
      let need = wanted_need r i in
      let at = r.clocks.at in
      let unpressed : is_pressed x ≡ false = keeps.pressed ∙ loose in
      elim (cases_lt i (length r.tracks)) [
        | inr past ↦ absurd (true≢false (sym now ∙ ap is_pressed_try (attempt_sent r round requests i ∙ past_kept r round requests i past) ∙ unpressed))
        | inl within ↦
            let is : is_pressed (track_asked_in at round i y) ≡ true = sym (ap is_pressed_try (try_is within)) ∙ now in
            elim (cases_Bool x.out) [
              | inl out ↦ absurd (true≢false (sym is ∙ ap is_pressed (out_asked_same at round i y (out_pressed m e need at x ∙ out)) ∙ loose_pressed m e need at x unpressed (stale_asked m e x need (sec at) (or_right (is_pressed x) x.out out))))
              | inr free ↦ (
                sym keeps.out ∙ free,
                elim (cases_Bool (list_any (λ j. j == i) round)) [
                  | inl named ↦ inr named
                  | inr other ↦
                      let own : is_pressed y ≡ true = sym (ap is_pressed (other_track at round i y other)) ∙ is in
                      elim (cases_Bool (is_fresh m e x need (sec at))) [
                        | inl fresh ↦ (let parts = fresh_parts m e x need (sec at) fresh in inl (wanted_is ∙ parts.0, come_is ∙ parts.1))
                        | inr stale ↦ absurd (true≢false (sym own ∙ loose_pressed m e need at x unpressed stale))
                      ]
                ],
              )
            ]
      ]

  -- the try of whoever is pressed, wanted and not named
  kept_so : is_pressed (track_at old i) ≡ true → is_wanted n i ≡ true → list_any (λ j. j == i) round ≡ false → kept_of (attempt_at n i) ≡ kept_of (attempt_at old i)
  kept_so pressed' wanted other =
      let stale = stale_asked r.forest.margin (entry_of r i) x (wanted_need r i) (second r) (or_left (is_pressed x) x.out (keeps.pressed ∙ pressed')) in
      ap kept_of (attempt_sent r round requests i ∙ stays r round requests i stale other (inr (sym wanted_is ∙ wanted))) ∙ keeps.try pressed'

-- a turn
pub clock_of :
    (P : WatchState → Option (List ℕ) → Type 0) (old new : WatchState) (event : WatchEvent) (result : Result WatchOutput WatchFault) (wall elapsed : ℕ) → Turn old event result new → event ≡ Clock wall elapsed → is_event_taken result ≡ true →
    ((round : Option (List ℕ)) (requests : List WatchRequest) → IsRound (readied old wall elapsed).forest (readied old wall elapsed).tracks (readied old wall elapsed).clocks round →
    P (sent (pressed (readied old wall elapsed) (asked_by_round round)) requests) round) → P new (round_of result)
clock_of P old new event (Err fault) wall elapsed turn is taken' all = absurd (true≢false (sym taken'))
clock_of P old new event (Ok output) wall elapsed turn is taken' all =
    let step : StepClock old wall elapsed output new = subst (λ e. Step old e output new) is turn.1 in
    let go = sent_by (pressed (readied old wall elapsed) (asked_by_round step.round)) new output.command step.command in
    subst (P new) (sym (ap (λ (o : Notes). o.round) step.notes)) (subst (λ x. P x step.round) (sym go.1) (all step.round go.0 step.is_round))

pub presses_so : PressLaw
presses_so = record {
  come = λ old turn wall elapsed i h clock within free loose.
      clock_of (λ n round. is_wanted n i ≡ true → is_come n i ≡ true → HasPressed old n i) old turn.state turn.event turn.result wall elapsed h.0 clock.0 clock.1
      (λ round requests _. come_pressed old wall elapsed (asked_by_round round) requests i within free loose);
  named = λ old turn wall elapsed i h clock within free.
      clock_of (λ n round. is_named_in_round round i ≡ true → HasPressed old n i) old turn.state turn.event turn.result wall elapsed h.0 clock.0 clock.1
      (λ round requests _ named. named_pressed old wall elapsed (asked_by_round round) requests i within free (named_is round i ∙ named));
  only = λ old turn wall elapsed i h clock loose.
      clock_of (λ n round. is_pressed (track_at n i) ≡ true → HasToBeAsked old n round i) old turn.state turn.event turn.result wall elapsed h.0 clock.0 clock.1
      (λ round requests _ now.
      let why = only_so old wall elapsed (asked_by_round round) requests i loose now in
      (why.0, elim why.1 [ inl come ↦ inl come | inr named ↦ inr (sym (named_is round i) ∙ named) ]));
  kept = λ old turn wall elapsed i t h clock is pressed'.
      clock_of (λ n round. is_wanted n i ≡ true → KeepsTry n i t) old turn.state turn.event turn.result wall elapsed h.0 clock.0 clock.1
      (λ round requests real wanted.
      let r = readied old wall elapsed in
      let asked = asked_by_round round in
      let was : is_pressed (track_at old i) ≡ true = ap is_pressed_try is ∙ pressed' in
      let other = names_none r.forest r.tracks r.clocks round i real ((readied_keeps old wall elapsed i).pressed ∙ was) (sym (wanted_is old wall elapsed asked requests i) ∙ wanted) in
      at_try (attempt_at (sent (pressed r asked) requests) i) t (kept_so old wall elapsed asked requests i was wanted other ∙ ap kept_of is));
  dropped = λ old turn wall elapsed i u h clock free.
      clock_of (λ n round. is_wanted n i ≡ false → is_named_in_round round i ≡ false → attempt_at n i ≡ Some u → (u.pressed ≡ false) × (((track_at n i).owes ≡ true) ⊎ (is_pressed (track_at old i) ≡ false))) old turn.state turn.event turn.result wall elapsed h.0 clock.0
      clock.1 (λ round requests _ unwanted other. let_go_so old wall elapsed (asked_by_round round) requests i u free unwanted (named_is round i ∙ other));
}
