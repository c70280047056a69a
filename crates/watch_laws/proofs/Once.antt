-- Once: an entry that is pressed and never answered comes to no first try again. For the law of one stand.
use Rattle.std.proofs.Common.{◌≡◌, ◌⊎◌, ◌∙◌, ℕ, zero, suc, ◌+◌, ◌<◌, ◌≤◌, Bool, true, false, not, ◌&&◌, ◌||◌, ◌==◌, if◌then◌else◌, List, [], ◌∷◌, Option, Some, None, Result, Ok, Err, filter, length, min, nat_le, nat_lt, set, refl, sym, ap, ap₂, subst, arith, inl, inr}
use Rattle.std.proofs.lemmas.Bool.Decides.{nat_tests}
use Rattle.std.proofs.lemmas.Bool.{and_from, and_parts, cases_Bool, cond-false, cond-true, eqb-true, or_left, or_right, cases_eq, cases_lt}
use Rattle.std.proofs.lemmas.List.{get_or-set_other, get_or-set_same, get_or_past, set_past}
use Rattle.std.specs.List.{list_any, range_with_len}
use Rattle.base_moment.specs.declared.moment.TheConstants.{LAST}
use Rattle.plan_forest.specs.{declared.entry.Entry.Entry, Renewal.capped}
use Rattle.plan_forest.specs.Forest.{Forest, end_of, entry_at}
use Rattle.plan_forest.proofs.Entries.{entry_at_set_other, entry_at_set_same}
use Rattle.plan_rule.specs.Asks.{asks, is_to_be_asked as is_asked_for}
use Rattle.watch_machine.specs.{declared.change.Was.TheVariants.New, declared.clocks.Clocks.Clocks, declared.command.WatchCommand.WatchCommand, declared.command.WatchOutput.WatchOutput, declared.command.WatchRequest.WatchRequest}
use Rattle.watch_machine.specs.{declared.event.WatchEvent.WatchEvent, declared.event.Operation.Operation, declared.event.WatchReply.WatchReply, declared.event.WatchTerms.WatchTerms, declared.fault.WatchFault.WatchFault}
use Rattle.watch_machine.specs.{declared.lanes.Out.Out, declared.notes.BeginReason.BeginReason, declared.track.End.End, declared.track.Track.Track, declared.track.Try.Try, Clocks.sec, Lines.is_first, Refusal.is_same, Refusal.request_out}
use Rattle.watch_machine.specs.declared.command.WatchCommand.TheVariants.{Go, Taken}
use Rattle.watch_machine.specs.declared.event.WatchEvent.TheVariants.{Clock, Looked, Renewed, Need, Begin, Known}
use Rattle.watch_machine.specs.declared.event.Operation.TheVariants.{Look, Renew}
use Rattle.watch_machine.specs.declared.event.WatchReply.TheVariants.{Told, Refused, Busy, Lost}
use Rattle.watch_machine.specs.Answers.{answers_all, failing, lane_freed, noted, replied, silent, with_track}
use Rattle.watch_machine.specs.Beginning.{begun, is_called, is_pressed, is_pressed_try, is_start, owing, owing_lookup, soon, sooner_try, untopped, untopped_track}
use Rattle.watch_machine.specs.Change.{former, former_at, index_or, place_now}
use Rattle.watch_machine.specs.History.{AllHappen, Changed, Changes, Happening, Hands, IsChanged, Turn, Turned}
use Rattle.watch_machine.specs.Looked.{after_look, by_terms, looked, refused_try, untold, untold_track}
use Rattle.watch_machine.specs.Margins.{has_come, is_in_plan, lead}
use Rattle.watch_machine.specs.Press.{asked_track, dropped, is_fresh, press, pressed, pressed_alone, pressed_track, track_asked_in}
use Rattle.watch_machine.specs.Renewed.{after_renewal, renewed_track, state_renewed, ungranted, ungranted_track}
use Rattle.watch_machine.specs.Round.{IsRound, asked_by_round as round_of, entry_planned, is_hoped, plan_view, planned_by, step_in_plan}
use Rattle.watch_machine.specs.Sending.{sent, sent_in, sent_track}
use Rattle.watch_machine.specs.Settling.{is_real, settled, settled_track, settled_try, timed}
use Rattle.watch_machine.specs.State.{WatchState, attempt_at, each, entry_of, has_last_try, no_track, second, track_at, track_in}
use Rattle.watch_machine.specs.Step.{Step, StepClock, StepCommand, StepLooked, StepRenewed, known, readied, why, with_need_until}
use Rattle.watch_machine.specs.Wanted.{believed, is_alive, is_open, is_unknown, is_wanted, need_of, seen_entry, wants}
use Rattle.watch_machine.proofs.{Moved.place_said, Unseen.pressed_seen, Unseen.sent_seen, Within.out_entry}
use Rattle.watch_machine.proofs.Cases.{if_both, if_cases, not_both}
use Rattle.watch_machine.proofs.Seeing.{SameSeen, both_seen, each_past, each_read, need_same}
use Rattle.watch_laws.specs.{Absence.is_event_taken, Outage.one_where, Presence.is_told, Time.is_come}
use Rattle.watch_laws.specs.Partial.{AreHung, IsHung, IsUntoldOf, OnceInFrontLaw, comes_before, comes_before_over, index_over, is_own_first, is_own_try, is_put_before, is_put_from, often_before, put_before, stands_before, waits_before}
use Rattle.watch_laws.proofs.{Bases.changed_base, Bases.reached_base, Believed.written_at, Believed.written_count, Clocking.readied_clocks, Clocking.refused_stays, Counting.at_some, Following.changed_entries, Following.kept_over}
use Rattle.watch_laws.proofs.{Forested.readied_forest, Grounds.IsBase, Grounds.turn_base, Holding.looked_presence, OnPlan.sec_rises, Opener.mid_bears, Retrying.IsPast, Retrying.rises, Shapes.turn_shape, Spacing.looked_other}
use Rattle.watch_laws.proofs.{Trying.time_same, Trying.time_sooner}
use Rattle.watch_laws.proofs.Answering.{looked_leaves, renewed_leaves, rest_of}
use Rattle.watch_laws.proofs.Tracking.{each_at, each_kept, replied_forest}

-- what of a track says whether its try is a first one, whether it is pressed and out, when it ends, and how long before that it is asked
record Alike (y x : Track) : Type 0 where
  own : (come : Bool) → is_own_try come y.attempt ≡ is_own_try come x.attempt
  pressed' : is_pressed y ≡ is_pressed x
  out : y.out ≡ x.out
  end : y.end ≡ x.end
  grant : y.grant ≡ x.grant
  fewer : has_last_try y ≡ true → has_last_try x ≡ true

same_alike : (x : Track) → Alike x x
same_alike x = record { own = λ come. refl; pressed' = refl; out = refl; end = refl; grant = refl; fewer = λ tries. tries }

both_alike : (z y x : Track) → Alike z y → Alike y x → Alike z x
both_alike z y x h k = record { own = λ come. h.own come ∙ k.own come; pressed' = h.pressed' ∙ k.pressed'; out = h.out ∙ k.out; end = h.end ∙ k.end; grant = h.grant ∙ k.grant; fewer = λ tries. k.fewer (h.fewer tries) }

-- before who has to be asked is pressed, all stay so
settled_alike : (margin at : ℕ) (x : Track) → Alike (settled_track margin at x) x
unfolding settled_track
settled_alike margin at x = record { own = λ come. own' come x.attempt; pressed' = pressed'' x.attempt; out = refl; end = refl; grant = refl; fewer = λ tries. tries } where
  own' : (come : Bool) (o : Option Try) → is_own_try come (settled_try margin at x o) ≡ is_own_try come o
  own' come None = refl
  own' come (Some t) = if_both (λ u. is_own_try come u ≡ is_own_try come (Some t)) t.failed _ (Some t) refl refl

  pressed'' : (o : Option Try) → is_pressed_try (settled_try margin at x o) ≡ is_pressed_try o
  pressed'' None = refl
  pressed'' (Some t) = if_both (λ u. is_pressed_try u ≡ is_pressed_try (Some t)) t.failed _ (Some t) refl refl

lookup_alike : (at : ℕ) (x : Track) → Alike (owing_lookup at x) x
lookup_alike at x =
    if_both (λ y. Alike y x) x.out (record x { owes = true }) (record x { owes = true; attempt = Some (sooner_try (soon at x) x.attempt) }) (record { own = λ come. refl; pressed' = refl; out = refl; end = refl; grant = refl; fewer = λ tries. tries })
    (record { own = λ come. own' come x.attempt; pressed' = pressed'' x.attempt; out = refl; end = refl; grant = refl; fewer = λ tries. tries }) where
      own' : (come : Bool) (o : Option Try) → is_own_try come (Some (sooner_try (soon at x) o)) ≡ is_own_try come o
      own' come None = refl
      own' come (Some t) = refl

      pressed'' : (o : Option Try) → is_pressed_try (Some (sooner_try (soon at x) o)) ≡ is_pressed_try o
      pressed'' None = refl
      pressed'' (Some t) = refl

owing_alike : (at : ℕ) (first called : Bool) (x : Track) → Alike (owing at first called x) x
unfolding owing
owing_alike at first called x = if_both (λ y. Alike y x) (called && (first || is_open (sec at) x)) (owing_lookup at x) x (lookup_alike at x) (same_alike x)

untopped_alike : (x : Track) → Alike (untopped_track x) x
untopped_alike x = record { own = λ come. refl; pressed' = refl; out = refl; end = refl; grant = refl; fewer = λ tries. absurd cc }

begun_alike : (s : WatchState) (w : Option BeginReason) (j : ℕ) → Alike (track_at (begun s w) j) (track_at s j)
begun_alike s None j = same_alike (track_at s j)
begun_alike s (Some w) j =
    let xs = untopped s.tracks in
    both_alike (track_at (begun s (Some w)) j) (track_in xs j) (track_at s j)
    (each_kept Alike (same_alike no_track) (λ k. owing s.clocks.at (is_start w) (is_called s.forest xs s.clocks k)) xs (λ k x. owing_alike s.clocks.at (is_start w) (is_called s.forest xs s.clocks k) x) j)
    (each_kept Alike (same_alike no_track) (λ k. untopped_track) s.tracks (λ k x. untopped_alike x) j)

readied_alike : (s : WatchState) (wall elapsed j : ℕ) → Alike (track_at (readied s wall elapsed) j) (track_at s j)
unfolding readied
readied_alike s wall elapsed j =
    let t = timed s wall elapsed in
    both_alike (track_at (readied s wall elapsed) j) (track_at (settled t) j) (track_at s j) (begun_alike (settled t) (why s wall elapsed) j)
    (each_kept Alike (same_alike no_track) (λ k. settled_track t.forest.margin t.clocks.at) s.tracks (λ k x. settled_alike t.forest.margin t.clocks.at x) j)

-- and so does whoever is pressed already and wanted
abbrev Kept : ℕ → Track → Track → Type 0
Kept need y x = is_pressed x ≡ true → wants x need ≡ true → Alike y x

pressed_kept : (margin : ℕ) (e : Entry) (need at : ℕ) (x : Track) → Kept need (pressed_track margin e need at x) x
unfolding pressed_track is_fresh
pressed_kept margin e need at x is wanted =
    let fresh = wants x need && (has_come margin e x (sec at) && (not (is_pressed x) && not x.out)) in
    if_cases (λ y. Alike y x) fresh (record x { attempt = Some (press at x) }) (if wants x need || x.out then x else record x { attempt = dropped x x.attempt })
    (λ yes'. absurd (not_both (and_parts (not (is_pressed x)) (not x.out) (and_parts (has_come margin e x (sec at)) (not (is_pressed x) && not x.out) (and_parts (wants x need) _ yes').1).1).0 (ap not is)))
    (λ no'. if_cases (λ y. Alike y x) (wants x need || x.out) x (record x { attempt = dropped x x.attempt }) (λ kept. same_alike x) (λ let_go. absurd (not_both (ap (λ b. b || x.out) wanted) let_go)))

-- a round names nobody who is pressed and wanted
any_filter : (p : ℕ → Bool) (n a j : ℕ) → list_any (λ k. k == j) (filter p (range_with_len a n)) ≡ true → (j < a + n) × (p j ≡ true)
any_filter p zero a j h = absurd cc
any_filter p (suc n) a j h =
    let rest = filter p (range_with_len (a + 1) n) in
    let up : (j < (a + 1) + n) × (p j ≡ true) → (j < a + suc n) × (p j ≡ true) = λ r. (let low = r.0 in omega (arith, low), r.1) in
    elim (cases_Bool (p a)) as (λ _. (j < a + suc n) × (p j ≡ true)) [
      | inl yes' ↦
          let named : (a == j) || list_any (λ k. k == j) rest ≡ true = sym (ap (list_any (λ k. k == j)) (cond-true (p a) (a ∷ rest) rest yes')) ∙ h in
          elim (cases_Bool (a == j)) as (λ _. (j < a + suc n) × (p j ≡ true)) [
            | inl here ↦ (let e = eqb-true a j here in (omega (arith, e), subst (λ k. p k ≡ true) e yes'))
            | inr there ↦ up (any_filter p n (a + 1) j (sym (ap (λ b. b || list_any (λ k. k == j) rest) there) ∙ named))
          ]
      | inr no' ↦ up (any_filter p n (a + 1) j (sym (ap (list_any (λ k. k == j)) (cond-false (p a) (a ∷ rest) rest no')) ∙ h))
    ]

pub renewable_of : (es : List Entry) (margin s : ℕ) (ends : ℕ → ℕ) (t : ℕ) (next : Option ℕ) (j : ℕ) → list_any (λ k. k == j) (asks es margin s ends t next) ≡ true → (j < length es) × ((entry_at es j).renewable ≡ true)
unfolding asks is_asked_for
renewable_of es margin s ends t next j h =
    let both = any_filter (is_asked_for es margin s ends t next) (length es) 0 j h in
    (let low = both.0 in omega (arith, low), (and_parts (entry_at es j).renewable _ both.1).0)

hope : (w p u b o : Bool) → w ≡ true → b ≡ true → w && (not p || (u || (b || o))) ≡ true
hope true false u b o e f = refl
hope true true true b o e f = refl
hope true true false true o e f = refl
hope true true false false o e f = absurd cc
hope false p u b o e f = absurd cc

hoped_for : (g : Forest) (xs : List Track) (c : Clocks) (j : ℕ) → is_pressed (track_in xs j) ≡ true → wants (track_in xs j) (need_of g.entries xs c j) ≡ true → (entry_planned g xs c j).renewable ≡ false
unfolding entry_planned planned_by is_hoped
hoped_for g xs c j is wanted =
    let e = entry_at g.entries j in
    let x = track_in xs j in
    let y = seen_entry g.entries xs c j in
    let need = need_of g.entries xs c j in
    let hoped = wants x need && (not (is_in_plan g.margin e x) || (is_unknown x.end || (is_pressed x || x.out))) in
    if_cases (λ (z : Entry). z.renewable ≡ false) hoped (record y { end = capped y.ceiling (sec c.at + lead e.step x.grant); renewable = false })
    (record y { renewable = x.renewable && not x.top; step = step_in_plan g.margin e x y.step }) (λ yes'. refl)
    (λ no'. absurd (not_both (hope (wants x need) (is_in_plan g.margin e x) (is_unknown x.end) (is_pressed x) x.out wanted is) no'))

pub names_none : (g : Forest) (xs : List Track) (c : Clocks) (round : Option (List ℕ)) (j : ℕ) → IsRound g xs c round → is_pressed (track_in xs j) ≡ true → wants (track_in xs j) (need_of g.entries xs c j) ≡ true →
    list_any (λ k. k == j) (round_of round) ≡ false
names_none g xs c None j h is wanted = refl
names_none g xs c (Some asked) j h is wanted =
    elim (cases_Bool (list_any (λ k. k == j) asked)) as (λ _. list_any (λ k. k == j) asked ≡ false) [
      | inl named ↦
          let es = plan_view g xs c in
          let there = renewable_of es g.margin (sec c.at) (end_of es) (sec c.at) h.1.0 j (sym (ap (list_any (λ k. k == j)) h.1.1.1) ∙ named) in
          let count = written_count (entry_planned g xs c) (length g.entries) in
          let low = there.0 in
          absurd (not_both there.1 (ap (λ (e : Entry). e.renewable) (written_at (entry_planned g xs c) (length g.entries) j (omega (arith, low, count))) ∙ hoped_for g xs c j is wanted))
      | inr none ↦ none
    ]

-- a clock
sent_made : (mid new : WatchState) (command : WatchCommand) → StepCommand mid command new → (requests : List WatchRequest) × (new ≡ sent mid requests)
sent_made mid new (Go requests until) h = (requests, h.0.1)
sent_made mid new Taken h = absurd h

mid_alike : (s : WatchState) (round : Option (List ℕ)) (j : ℕ) → IsRound s.forest s.tracks s.clocks round → is_pressed (track_at s j) ≡ true → is_wanted s j ≡ true → Alike (track_at (pressed s (round_of round)) j) (track_at s j)
mid_alike s round j h is wanted =
    let c = s.clocks in
    let g = s.forest in
    let asked = round_of round in
    let alone = pressed_alone g c s.tracks in
    let e = entry_at g.entries j in
    let need = need_of g.entries s.tracks c j in
    let none = names_none g s.tracks c round j h is wanted in
    let same : track_at (pressed s asked) j ≡ track_in alone j =
    each_at (track_asked_in c.at asked) alone j (λ x. cond-false (list_any (λ k. k == j) asked) (asked_track c.at x) x none) in
    subst (λ y. Alike y (track_at s j)) (sym same)
    (each_kept_at (λ k. pressed_track g.margin (entry_at g.entries k) (need_of g.entries s.tracks c k) c.at) s.tracks j (pressed_kept g.margin e need c.at (track_at s j) is wanted)) where
      each_kept_at : (f : ℕ → Track → Track) (xs : List Track) (i : ℕ) → Alike (f i (track_in xs i)) (track_in xs i) → Alike (track_in (each f xs) i) (track_in xs i)
      each_kept_at f xs i made =
          elim (cases_lt i (length xs)) as (λ _. Alike (track_in (each f xs) i) (track_in xs i)) [
            | inl within ↦ subst (λ y. Alike y (track_in xs i)) (sym (each_read f xs i within)) made
            | inr past ↦ subst (λ y. Alike y (track_in xs i)) (sym (each_past f xs i past ∙ sym (get_or_past xs i no_track past))) (same_alike (track_in xs i))
          ]

-- whoever goes out is out
record Sends (y x : Track) : Type 0 where
  attempt : y.attempt ≡ x.attempt
  end : y.end ≡ x.end
  grant : y.grant ≡ x.grant
  fewer : has_last_try y ≡ true → has_last_try x ≡ true
  out : x.out ≡ true → y.out ≡ true

sent_sends : (s : WatchState) (rs : List WatchRequest) (j : ℕ) → Sends (track_at (sent s rs) j) (track_at s j)
sent_sends s rs j =
    each_kept Sends (record { attempt = refl; end = refl; grant = refl; fewer = λ tries. tries; out = λ h. h }) (sent_in s.clocks.at rs) s.tracks
    (λ k x. if_both (λ y. Sends y x) (list_any (λ (r : WatchRequest). r.entry == k) rs) (sent_track s.clocks.at x) x (record { attempt = refl; end = refl; grant = refl; fewer = λ tries. tries; out = λ h. refl })
    (record { attempt = refl; end = refl; grant = refl; fewer = λ tries. tries; out = λ h. h })) j

-- a try that is the entry's own is so when its time has come, too
own_more : (b c : Bool) (o : Option Try) → (b ≡ true → c ≡ true) → is_own_try b o ≡ true → is_own_try c o ≡ true
own_more b c None more h = absurd cc
own_more b c (Some t) more h = by b c (is_first t) (is_same t.operation Renew) more h where
  by : (b c f r : Bool) → (b ≡ true → c ≡ true) → f && not (r && not b) ≡ true → f && not (r && not c) ≡ true
  by b true true true more h = refl
  by true false f r more h = absurd (let bad = more refl in cc)
  by false false f r more h = h
  by b true true false more h = refl
  by b true false r more h = absurd cc

-- a first try of j, if it has one, does not go along with others
abbrev NotAlong : WatchState → ℕ → Type 0
NotAlong s j = is_own_try true (attempt_at s j) ≡ true → is_own_try (is_come s j) (attempt_at s j) ≡ true

-- what a turn leaves of an entry that is pressed: it stays pressed. One whose first try goes along with no others still does not, and has no
-- first try that is its own but where it had one; with the same end, and where its request is out still if it was
record Stays (old new : WatchState) (j : ℕ) : Type 0 where
  pressed' : is_pressed (track_at new j) ≡ true
  own_still : NotAlong old j → NotAlong new j
  end : is_own_first new j ≡ true → (track_at new j).end ≡ (track_at old j).end
  own : is_own_first new j ≡ true → NotAlong old j → is_own_first old j ≡ true
  out : is_own_first new j ≡ true → (track_at old j).out ≡ true → (track_at new j).out ≡ true

later_alive : (a b : ℕ) (e : End) → a ≤ b → nat_lt (sec b) (believed e) ≡ true → nat_lt (sec a) (believed e) ≡ true
later_alive a b e up h = let less = sec_rises a b up in grind (arith, nat_tests)

-- a time that has come has come later, too
sooner_come :
    (margin : ℕ) (e : Entry) (y x : Track) (now : ℕ) → y.end ≡ x.end → y.grant ≡ x.grant → (has_last_try y ≡ true → has_last_try x ≡ true) → has_come margin e x now ≡ true → has_come margin e y now ≡ true
unfolding has_come
sooner_come margin e y x now ends grants fewer h = let l = time_sooner margin margin e e y x refl refl ends grants fewer in grind (arith, nat_tests, l, h)

later_come : (margin : ℕ) (e : Entry) (x : Track) (a b : ℕ) → a ≤ b → has_come margin e x a ≡ true → has_come margin e x b ≡ true
unfolding has_come
later_come margin e x a b up h = grind (arith, nat_tests)

clock_stays :
    (old new : WatchState) (wall elapsed : ℕ) (output : WatchOutput) (j : ℕ) → StepClock old wall elapsed output new → IsPast old → is_pressed (track_at old j) ≡ true → is_wanted new j ≡ true → Stays old new j
unfolding wants
clock_stays old new wall elapsed output j step past is wanted =
    let s = readied old wall elapsed in
    let round = step.round in
    let mid = pressed s (round_of round) in
    let made = sent_made mid new output.command step.command in
    let rs = made.0 in
    let end' = sent mid rs in
    let c = s.clocks in
    let g = s.forest in
    let ready = readied_alike old wall elapsed j in
    let seen : SameSeen end'.tracks s.tracks = both_seen end'.tracks mid.tracks s.tracks (sent_seen c.at rs mid.tracks) (pressed_seen g c (round_of round) s.tracks) in
    let needs = need_same end'.tracks s.tracks seen g.entries c j in
    let wanted' : wants (track_at end' j) (need_of g.entries end'.tracks c j) ≡ true = subst (λ (x : WatchState). is_wanted x j ≡ true) made.1 wanted in
    let bears = mid_bears s (round_of round) rs j in
    let wanted_before : is_wanted s j ≡ true = sym (ap (λ (x : Track). wants x (need_of g.entries s.tracks c j)) bears) ∙ sym (ap (λ k. wants (track_at end' j) k) needs) ∙ wanted' in
    let pressed_there : is_pressed (track_at s j) ≡ true = ready.pressed' ∙ is in
    let alike = both_alike (track_at mid j) (track_at s j) (track_at old j) (mid_alike s round j step.is_round pressed_there wanted_before) ready in
    let sends = sent_sends mid rs j in
    let up = rises old wall elapsed past.start in
    let clock : end'.clocks.at ≡ (timed old wall elapsed).clocks.at = ap (λ x. x.at) (readied_clocks old wall elapsed) in
    let end_same : (track_at end' j).end ≡ (track_at old j).end = sends.end ∙ alike.end in
    let tries : (b : Bool) → is_own_try b (attempt_at end' j) ≡ is_own_try b (attempt_at old j) = λ b. ap (is_own_try b) sends.attempt ∙ alike.own b in
    let m = old.forest.margin in
    let before = old.clocks.at in
    let now = end'.clocks.at in
    let come : is_come old j ≡ true → is_come end' j ≡ true =
    λ h. ap (λ (f : Forest). has_come f.margin (entry_at f.entries j) (track_at end' j) (sec now)) (readied_forest old wall elapsed)
    ∙ sooner_come m (entry_of old j) (track_at end' j) (track_at old j) (sec now) end_same (sends.grant ∙ alike.grant) (λ tries. alike.fewer (sends.fewer tries))
    (later_come m (entry_of old j) (track_at old j) (sec before) (sec now) (sec_rises before now (omega (arith, up, clock))) h) in
    subst (λ (x : WatchState). Stays old x j) (sym made.1)
    (record {
      pressed' = ap is_pressed_try sends.attempt ∙ alike.pressed' ∙ is;
      own_still = λ h first. own_more (is_come old j) (is_come end' j) (attempt_at end' j) come (tries (is_come old j) ∙ h (sym (tries true) ∙ first));
      end = λ own. end_same;
      own = λ own h.
          let both = and_parts (is_own_try (is_come end' j) (attempt_at end' j)) (is_alive (sec end'.clocks.at) (track_at end' j)) own in
          let first : is_own_try true (attempt_at old j) ≡ true = sym (tries true) ∙ own_more (is_come end' j) true (attempt_at end' j) (λ _. refl) both.0 in
          and_from (is_own_try (is_come old j) (attempt_at old j)) (is_alive (sec old.clocks.at) (track_at old j)) (h first)
          (later_alive old.clocks.at end'.clocks.at (track_at old j).end (omega (arith, up, clock)) (sym (ap (λ e. nat_lt (sec end'.clocks.at) (believed e)) end_same) ∙ both.1));
      out = λ own out. sends.out (alike.out ∙ out);
    })

-- what is as it was, at the same clock: the track of an entry, and what else tells when its time comes
record IsLeft (new old : WatchState) (j : ℕ) : Type 0 where
  track : track_at new j ≡ track_at old j
  margin : new.forest.margin ≡ old.forest.margin
  step : (entry_of new j).step ≡ (entry_of old j).step

come_left : (new old : WatchState) (j : ℕ) → IsLeft new old j → new.clocks.at ≡ old.clocks.at → is_come new j ≡ is_come old j
unfolding has_come
come_left new old j left clock =
    ap₂ (λ t n. nat_le t n)
    (time_same new.forest.margin old.forest.margin (entry_of new j) (entry_of old j) (track_at new j) (track_at old j) left.margin left.step (ap (λ (x : Track). x.end) left.track)
    (ap (λ (x : Track). x.grant) left.track) (ap has_last_try left.track))
    (ap sec clock)

same_stays : (old new : WatchState) (j : ℕ) → IsLeft new old j → new.clocks.at ≡ old.clocks.at → is_pressed (track_at old j) ≡ true → Stays old new j
same_stays old new j left clock is =
    let same = left.track in
    let come = come_left new old j left clock in
    let tries : (b : Bool) → is_own_try b (attempt_at new j) ≡ is_own_try b (attempt_at old j) = λ b. ap (λ (x : Track). is_own_try b x.attempt) same in
    let mine : is_own_try (is_come new j) (attempt_at new j) ≡ is_own_try (is_come old j) (attempt_at old j) = ap (λ b. is_own_try b (attempt_at new j)) come ∙ tries (is_come old j) in
    let alive : is_alive (second new) (track_at new j) ≡ is_alive (second old) (track_at old j) =
    ap (λ (x : Track). nat_lt (second new) (believed x.end)) same ∙ ap (λ n. nat_lt (sec n) (believed (track_at old j).end)) clock in
    record {
      pressed' = ap is_pressed same ∙ is;
      own_still = λ h first. mine ∙ h (sym (tries true) ∙ first);
      end = λ h. ap (λ (x : Track). x.end) same;
      own = λ h _. sym (ap₂ (λ a b. a && b) mine alive) ∙ h;
      out = λ h out. ap (λ (x : Track). x.out) same ∙ out;
    }

-- what is tried past the last entry is not pressed
pressed_within : (xs : List Track) (j : ℕ) → is_pressed (track_in xs j) ≡ true → j < length xs
pressed_within xs j is =
    elim (cases_lt j (length xs)) as (λ _. j < length xs) [
      | inl within ↦ within
      | inr past ↦ absurd (not_both is (ap is_pressed (get_or_past xs j no_track past)))
    ]

-- a reply that tells nothing leaves the try pressed, and no first one
never_first : (n : ℕ) → (min 20 (n + 1) == 0) ≡ false
never_first n = grind (arith, nat_tests)

abbrev IsLater : Option Try → Type 0
IsLater o = (is_pressed_try o ≡ true) × ((come : Bool) → is_own_try come o ≡ false)

failing_later : (t : Try) (next : Operation) (lost alone : Bool) → t.pressed ≡ true → IsLater (Some (failing t next lost alone))
failing_later t next lost alone is =
    (is, λ come. ap (λ b. (b && (min 20 (t.fails + 1) == 0)) && not (is_same next Renew && not come)) is ∙ ap (λ b. b && not (is_same next Renew && not come)) (never_first t.fails))

refused_later : (at : ℕ) (x : Track) (t : Try) → t.pressed ≡ true → IsLater (Some (refused_try at x t))
refused_later at x t is =
    let P : Try → Type 0 = λ u. IsLater (Some u) in
    if_both P (is_open (sec at) x) (if t.pressed then failing t Renew false false else record (failing t Renew false false) { at = at; failed = false }) (failing t Look false false)
    (if_cases P t.pressed (failing t Renew false false) (record (failing t Renew false false) { at = at; failed = false }) (λ e. failing_later t Renew false false is) (λ e. absurd (not_both is e)))
    (failing_later t Look false false is)

untold_later : (at : ℕ) (heard' : Bool) (reply : WatchReply) (x : Track) (o : Option Try) → is_told reply ≡ false → is_pressed_try o ≡ true → IsLater (untold at heard' reply x o)
untold_later at heard' reply x None none is = absurd cc
untold_later at heard' (Told seconds renewable date) x (Some t) none is = absurd cc
untold_later at heard' (Refused status date) x (Some t) none is = refused_later at x t is
untold_later at heard' Busy x (Some t) none is = failing_later t (after_look (sec at) x t) true false is
untold_later at heard' Lost x (Some t) none is = failing_later t (after_look (sec at) x t) true heard' is

ungranted_later : (at : ℕ) (heard' : Bool) (reply : WatchReply) (x : Track) (o : Option Try) → is_told reply ≡ false → is_pressed_try o ≡ true → IsLater (ungranted at heard' reply x o)
ungranted_later at heard' reply x None none is = absurd cc
ungranted_later at heard' (Told seconds renewable date) x (Some t) none is = absurd cc
ungranted_later at heard' (Refused status date) x (Some t) none is = failing_later t Look false false is
ungranted_later at heard' Busy x (Some t) none is = failing_later t (after_renewal (sec at) x) true false is
ungranted_later at heard' Lost x (Some t) none is = failing_later t (after_renewal (sec at) x) true heard' is

-- so that of a reply which tells nothing
abbrev LeavesLater : WatchState → ℕ → Track → Type 0
LeavesLater s i x = IsLater (track_at (with_track s i x) i).attempt

untold_at : (s : WatchState) (q : Out) (reply : WatchReply) → is_told reply ≡ false → is_pressed (track_at s q.entry) ≡ true → LeavesLater s q.entry (untold_track s.clocks.at q.heard reply (track_at s q.entry))
unfolding untold_track
untold_at s q reply none is =
    let x = track_at s q.entry in
    subst (λ (y : Track). IsLater y.attempt) (sym (get_or-set_same s.tracks q.entry (untold_track s.clocks.at q.heard reply x) no_track (pressed_within s.tracks q.entry is)))
    (untold_later s.clocks.at q.heard reply x x.attempt none is)

ungranted_at : (s : WatchState) (q : Out) (reply : WatchReply) → is_told reply ≡ false → is_pressed (track_at s q.entry) ≡ true → LeavesLater s q.entry (ungranted_track s.clocks.at q.heard reply (track_at s q.entry))
unfolding ungranted_track
ungranted_at s q reply none is =
    let x = track_at s q.entry in
    subst (λ (y : Track). IsLater y.attempt) (sym (get_or-set_same s.tracks q.entry (ungranted_track s.clocks.at q.heard reply x) no_track (pressed_within s.tracks q.entry is)))
    (ungranted_later s.clocks.at q.heard reply x x.attempt none is)

looked_later : (s : WatchState) (q : Out) (reply : WatchReply) (terms : WatchTerms) → is_told reply ≡ false → is_pressed (track_at s q.entry) ≡ true → IsLater (track_at (looked s q reply terms) q.entry).attempt
looked_later s q (Told seconds renewable date) terms none is = absurd cc
looked_later s q (Refused status date) terms none is = untold_at s q (Refused status date) none is
looked_later s q Busy terms none is = untold_at s q Busy none is
looked_later s q Lost terms none is = untold_at s q Lost none is

renewed_later : (s : WatchState) (q : Out) (reply : WatchReply) → is_told reply ≡ false → is_pressed (track_at s q.entry) ≡ true → IsLater (track_at (state_renewed s q reply) q.entry).attempt
unfolding renewed_track
renewed_later s q (Told seconds renewable date) none is = absurd cc
renewed_later s q (Refused status date) none is = ungranted_at s q (Refused status date) none is
renewed_later s q Busy none is = ungranted_at s q Busy none is
renewed_later s q Lost none is = ungranted_at s q Lost none is

-- an answer leaves the tracks but for its own, while the broker is there
tracks_left : (s : WatchState) (q : Out) (reply : WatchReply) → s.presence.away ≡ false → (replied s q reply).tracks ≡ s.tracks
tracks_left s q reply there =
    let free = lane_freed s q in
    let P : WatchState → Type 0 = λ t. t.tracks ≡ s.tracks in
    if_both P (is_real reply) (answers_all free) (if q.heard then free else silent free) (if_cases P s.presence.away _ _ (λ yes'. absurd (not_both yes' there)) (λ no'. refl))
    (if_both P q.heard free (silent free) refl (if_both P s.presence.away _ _ refl refl))

answer_stays :
    (old mid new : WatchState) (q : Out) (reply : WatchReply) (j : ℕ) → new ≡ replied mid q reply → mid.presence.away ≡ false → new.clocks ≡ old.clocks → is_pressed (track_at old j) ≡ true →
    IsLeft mid old j ⊎ IsLater (track_at mid j).attempt → Stays old new j
answer_stays old mid new q reply j made there clocks is what =
    let left : track_at new j ≡ track_at mid j = ap (λ (x : WatchState). track_at x j) made ∙ ap (λ xs. track_in xs j) (tracks_left mid q reply there) in
    let forest : new.forest ≡ mid.forest = ap (λ (x : WatchState). x.forest) made ∙ replied_forest mid q reply in
    elim what as (λ _. Stays old new j) [
      | inl same ↦
          same_stays old new j (record { track = left ∙ same.track; margin = ap (λ (f : Forest). f.margin) forest ∙ same.margin; step = ap (λ (f : Forest). (entry_at f.entries j).step) forest ∙ same.step })
          (ap (λ c. c.at) clocks) is
      | inr later ↦
          let never : (come : Bool) → is_own_try come (attempt_at new j) ≡ false = λ come. ap (λ (x : Track). is_own_try come x.attempt) left ∙ later.1 come in
          let none : is_own_first new j ≡ false = ap (λ b. b && is_alive (second new) (track_at new j)) (never (is_come new j)) in
          record {
            pressed' = ap is_pressed left ∙ later.0;
            own_still = λ h first. absurd (not_both first (never true));
            end = λ own. absurd (not_both own none);
            own = λ own. absurd (not_both own none);
            out = λ own. absurd (not_both own none);
          }
    ]

-- an answer to a lookup leaves what tells when the time of another entry comes
looked_margin : (s : WatchState) (q : Out) (reply : WatchReply) (terms : WatchTerms) → (looked s q reply terms).forest.margin ≡ s.forest.margin
looked_margin s q (Told seconds renewable date) terms = refl
looked_margin s q _ terms = refl

looked_entry : (s : WatchState) (q : Out) (reply : WatchReply) (terms : WatchTerms) (j : ℕ) → (j ≡ q.entry → ⊥) → entry_of (looked s q reply terms) j ≡ entry_of s j
looked_entry s q (Told seconds renewable date) terms j apart = entry_at_set_other s.forest.entries q.entry j (by_terms s.forest.margin terms (entry_of s q.entry)) apart
looked_entry s q _ terms j apart = refl

looked_stays :
    (old new : WatchState) (k j : ℕ) (found : Option Out) (reply : WatchReply) (terms : WatchTerms) (output : WatchOutput) → request_out old.out k Look ≡ found → StepLooked old found reply terms output new → (k ≡ j → is_told reply ≡ false) →
    old.presence.away ≡ false → is_pressed (track_at old j) ≡ true → Stays old new j
looked_stays old new k j None reply terms output is_found step untold' there is = absurd step
looked_stays old new k j (Some q) reply terms output is_found step untold' there is =
    let s = noted old q reply in
    let mid = looked s q reply terms in
    let entry = out_entry old.out k Look q is_found in
    answer_stays old mid new q reply j step.1 (ap (λ p. p.away) (looked_presence s q reply terms) ∙ there) (ap (λ (x : WatchState). x.clocks) (ap rest_of step.1 ∙ looked_leaves old q reply terms)) is
    (elim (cases_Bool (q.entry == j)) as (λ _. IsLeft mid old j ⊎ IsLater (track_at mid j).attempt) [
      | inl same ↦
          let e = eqb-true q.entry j same in
          let none = untold' (sym entry ∙ e) in
          inr (subst (λ m. IsLater (track_at mid m).attempt) e (looked_later s q reply terms none (ap (λ m. is_pressed (track_at old m)) e ∙ is)))
      | inr other ↦
          inl (record {
            track = looked_other s q reply terms j (λ e. not_both (same_index q.entry j e) other);
            margin = looked_margin s q reply terms;
            step = ap (λ (e : Entry). e.step) (looked_entry s q reply terms j (λ e. not_both (same_index q.entry j (sym e)) other));
          })
    ]) where
      same_index : (a b : ℕ) → a ≡ b → (a == b) ≡ true
      same_index a b e = grind (arith, nat_tests)

renewed_stays :
    (old new : WatchState) (k j : ℕ) (found : Option Out) (reply : WatchReply) (output : WatchOutput) → request_out old.out k Renew ≡ found → StepRenewed old found reply output new → (k ≡ j → is_told reply ≡ false) →
    old.presence.away ≡ false → is_pressed (track_at old j) ≡ true → Stays old new j
renewed_stays old new k j None reply output is_found step untold' there is = absurd step
renewed_stays old new k j (Some q) reply output is_found step untold' there is =
    let s = noted old q reply in
    let mid = state_renewed s q reply in
    let entry = out_entry old.out k Renew q is_found in
    answer_stays old mid new q reply j step.1 there (ap (λ (x : WatchState). x.clocks) (ap rest_of step.1 ∙ renewed_leaves old q reply)) is
    (elim (cases_Bool (q.entry == j)) as (λ _. IsLeft mid old j ⊎ IsLater (track_at mid j).attempt) [
      | inl same ↦
          let e = eqb-true q.entry j same in
          let none = untold' (sym entry ∙ e) in
          inr (subst (λ m. IsLater (track_at mid m).attempt) e (renewed_later s q reply none (ap (λ m. is_pressed (track_at old m)) e ∙ is)))
      | inr other ↦ inl (record { track = get_or-set_other s.tracks q.entry j _ no_track (λ e. not_both (same_index q.entry j (sym e)) other); margin = refl; step = refl })
    ]) where
      same_index : (a b : ℕ) → a ≡ b → (a == b) ≡ true
      same_index a b e = grind (arith, nat_tests)

-- and so does a new need
need_step : (s : WatchState) (k until j : ℕ) → (entry_of (with_need_until s k until) j).step ≡ (entry_of s j).step
need_step s k until j =
    let es = s.forest.entries in
    let e : Entry = record (entry_of s k) { need = min LAST until } in
    elim (cases_lt k (length es)) as (λ _. (entry_at (set es k e) j).step ≡ (entry_at es j).step) [
      | inl within ↦
          elim (cases_eq j k) as (λ _. (entry_at (set es k e) j).step ≡ (entry_at es j).step) [
            | inl same ↦ subst (λ i. (entry_at (set es k e) i).step ≡ (entry_at es i).step) (sym same) (ap (λ (f : Entry). f.step) (entry_at_set_same es k e within))
            | inr other ↦ ap (λ (f : Entry). f.step) (entry_at_set_other es k j e other)
          ]
      | inr past ↦ ap (λ fs. (entry_at fs j).step) (set_past es k e past)
    ]

step_stays :
    (old new : WatchState) (event : WatchEvent) (output : WatchOutput) (j : ℕ) → Step old event output new → IsUntoldOf j event → IsPast old → old.presence.away ≡ false → is_pressed (track_at old j) ≡ true → is_wanted new j ≡ true →
    Stays old new j
step_stays old new (Clock wall elapsed) output j step quiet past there is wanted = clock_stays old new wall elapsed output j step past is wanted
step_stays old new (Looked k reply terms) output j step quiet past there is wanted = looked_stays old new k j (request_out old.out k Look) reply terms output refl step quiet there is
step_stays old new (Renewed k reply) output j step quiet past there is wanted = renewed_stays old new k j (request_out old.out k Renew) reply output refl step quiet there is
step_stays old new (Need k until) output j step quiet past there is wanted = subst (λ (x : WatchState). Stays old x j) (sym step.1) (same_stays old (with_need_until old k until) j (record { track = refl; margin = refl; step = need_step old k until j }) refl is)
step_stays old new Begin output j step quiet past there is wanted = subst (λ (x : WatchState). Stays old x j) (sym step.1) (same_stays old (record old { asked = true }) j (record { track = refl; margin = refl; step = refl }) refl is)
step_stays old new (Known k told renewable) output j step quiet past there is wanted =
    subst (λ (x : WatchState). Stays old x j) (sym step.1) (same_stays old (known old k told renewable) j (record { track = get_or-set_other old.tracks k j _ no_track (λ e. quiet (sym e)); margin = refl; step = refl }) refl is)

turn_stays :
    (old new : WatchState) (event : WatchEvent) (result : Result WatchOutput WatchFault) (j : ℕ) → Turn old event result new → (is_event_taken result ≡ true → IsUntoldOf j event) → IsPast old → old.presence.away ≡ false →
    is_pressed (track_at old j) ≡ true → is_wanted new j ≡ true → Stays old new j
turn_stays old new event (Ok output) j turn quiet past there is wanted = step_stays old new event output j turn.1 (quiet refl) past there is wanted
turn_stays old new event (Err fault) j turn quiet past there is wanted =
    subst (λ (x : WatchState). Stays old x j) (sym (refused_stays old new event fault turn)) (same_stays old old j (record { track = refl; margin = refl; step = refl }) refl is)

-- so it does not come to stand before another
no_coming : (i j : ℕ) (old new : WatchState) → Stays old new j → NotAlong old j → (track_at new i).end ≡ (track_at old i).end → comes_before i old new j ≡ false
no_coming i j old new stays apart same =
    elim (cases_Bool (comes_before i old new j)) as (λ _. comes_before i old new j ≡ false) [
      | inl comes ↦
          let earlier : End → End → Bool = λ x y. nat_lt (believed x) (believed y) || (believed x == believed y && nat_lt j i) in
          let stood = stands_before i old j in
          let both = and_parts (stands_before i new j) (not stood || ((track_at old j).out && not (track_at new j).out)) comes in
          let parts = and_parts (is_own_first new j) (earlier (track_at new j).end (track_at new i).end) both.0 in
          let own = parts.0 in
          let before : earlier (track_at old j).end (track_at old i).end ≡ true =
          sym (ap (λ e. earlier e (track_at new i).end) (stays.end own) ∙ ap (λ e. earlier (track_at old j).end e) same) ∙ parts.1 in
          let stood' : stood ≡ true = and_from (is_own_first old j) (earlier (track_at old j).end (track_at old i).end) (stays.own own apart) before in
          let answered = sym (ap (λ b. not b || ((track_at old j).out && not (track_at new j).out)) stood') ∙ both.1 in
          let outs = and_parts (track_at old j).out (not (track_at new j).out) answered in
          absurd (not_both outs.1 (ap not (stays.out own outs.0)))
      | inr none ↦ none
    ]

own_pressed : (come : Bool) (o : Option Try) → is_own_try come o ≡ true → is_pressed_try o ≡ true
own_pressed come None h = absurd cc
own_pressed come (Some t) h = (and_parts t.pressed (t.fails == 0) (and_parts (is_first t) (not (is_same t.operation Renew && not come)) h).0).0

stands_own : (i j : ℕ) (s : WatchState) → stands_before i s j ≡ true → is_own_try (is_come s j) (attempt_at s j) ≡ true
stands_own i j s h = (and_parts (is_own_try (is_come s j) (attempt_at s j)) (is_alive (second s) (track_at s j)) (and_parts (is_own_first s j) _ h).0).0

stands_pressed : (i j : ℕ) (s : WatchState) → stands_before i s j ≡ true → is_pressed (track_at s j) ≡ true
stands_pressed i j s h = own_pressed (is_come s j) (attempt_at s j) (stands_own i j s h)

-- ---- the place of an entry before others

-- it is spent: the entry is pressed, and a first try of it, if it has one, goes along with no others
abbrev pub is_spent : WatchState → ℕ → Bool
is_spent s j = is_pressed (track_at s j) && (not (is_own_try true (attempt_at s j)) || is_own_try (is_come s j) (attempt_at s j))

not_along : (a b : Bool) → not a || b ≡ true → a ≡ true → b ≡ true
not_along true b h e = h
not_along false b h e = absurd cc

along_not : (a b : Bool) → (a ≡ true → b ≡ true) → not a || b ≡ true
along_not true b h = h refl
along_not false b h = refl

spent_parts : (s : WatchState) (j : ℕ) → is_spent s j ≡ true → (is_pressed (track_at s j) ≡ true) × NotAlong s j
spent_parts s j h =
    let first = is_own_try true (attempt_at s j) in
    let own = is_own_try (is_come s j) (attempt_at s j) in
    let both = and_parts (is_pressed (track_at s j)) (not first || own) h in
    (both.0, not_along first own both.1)

spent_from : (s : WatchState) (j : ℕ) → is_pressed (track_at s j) ≡ true → NotAlong s j → is_spent s j ≡ true
spent_from s j is apart =
    let first = is_own_try true (attempt_at s j) in
    let own = is_own_try (is_come s j) (attempt_at s j) in
    and_from (is_pressed (track_at s j)) (not first || own) is (along_not first own apart)

stands_spent : (i j : ℕ) (s : WatchState) → stands_before i s j ≡ true → is_spent s j ≡ true
stands_spent i j s h = spent_from s j (stands_pressed i j s h) (λ _. stands_own i j s h)

-- who waits there, or comes to, has spent it
one_of : (a b : Bool) → (a ≡ true → b ≡ true) → one_where a + one_where (not b) ≤ 1
one_of true true h = omega arith
one_of true false h = absurd (let bad = h refl in cc)
one_of false true h = omega arith
one_of false false h = omega arith

pub waits_first : (i j : ℕ) (s : WatchState) → one_where (waits_before i s j) + one_where (not (is_spent s j)) ≤ 1
waits_first i j s = one_of (waits_before i s j) (is_spent s j) (λ waits. stands_spent i j s (and_parts (stands_before i s j) (not (track_at s j).out) waits).0)

comes_first : (i j : ℕ) (old new : WatchState) → one_where (comes_before i old new j) + one_where (not (is_spent new j)) ≤ 1
comes_first i j old new = one_of (comes_before i old new j) (is_spent new j) (λ comes. stands_spent i j new (and_parts (stands_before i new j) _ comes).0)

comes_first_over : (i j : ℕ) (old : WatchState) (c : Changed) → one_where (comes_before_over i old c j) + one_where (not (is_spent c.state j)) ≤ 1
comes_first_over i j old c =
    one_of (comes_before_over i old c j) (is_spent c.state j) (λ comes. stands_spent (index_over c i) j c.state (and_parts (stands_before (index_over c i) c.state j) _ comes).0)

-- at a turn at which the entry is hung it does so once
pub spends_turn :
    (i j : ℕ) (old : WatchState) (turn : Turned) → Turn old turn.event turn.result turn.state → IsHung i j old turn → IsPast old → old.presence.away ≡ false →
    one_where (comes_before i old turn.state j) + one_where (not (is_spent turn.state j)) ≤ one_where (not (is_spent old j))
spends_turn i j old turn is hung past there =
    let new = turn.state in
    elim (cases_Bool (is_spent old j)) as (λ _. one_where (comes_before i old new j) + one_where (not (is_spent new j)) ≤ one_where (not (is_spent old j))) [
      | inl spent ↦
          let parts = spent_parts old j spent in
          let stays = turn_stays old new turn.event turn.result j is hung.untold past there parts.0 hung.wanted in
          let none = ap one_where (no_coming i j old new stays parts.1 hung.same) in
          let still = ap (λ b. one_where (not b)) (spent_from new j stays.pressed' (stays.own_still parts.1)) in
          omega (arith, none, still)
      | inr fresh ↦ (let one = ap (λ b. one_where (not b)) fresh in let most = comes_first i j old new in omega (arith, one, most))
    ]

-- and over a change, but where that puts it there anew
retold_alike : (at : ℕ) (x : Track) → Alike (owing_lookup at (untopped_track x)) x
retold_alike at x = both_alike (owing_lookup at (untopped_track x)) (untopped_track x) x (lookup_alike at (untopped_track x)) (untopped_alike x)

module _ (old : WatchState) (c : Changed) (h : IsChanged old c) (i k j : ℕ) (said : former_at c.was j ≡ Some k) where
  abbrev moved_up : Bool
  moved_up = is_own_first old k && comes_before_over i old c j

  abbrev put_off : Bool
  put_off = is_pressed (track_at old k) && (is_come old k && not (is_come c.state j))

  alike : Alike (track_at c.state j) (track_at old k)
  alike = kept_over old c h Alike same_alike (λ x. retold_alike old.clocks.at x) k j said

  own_before : is_spent old k ≡ true → is_own_first c.state j ≡ true → is_own_first old k ≡ true
  own_before spent own =
      let both = and_parts (is_own_try (is_come c.state j) (attempt_at c.state j)) (is_alive (second c.state) (track_at c.state j)) own in
      let first : is_own_try true (attempt_at old k) ≡ true = sym (alike.own true) ∙ own_more (is_come c.state j) true (attempt_at c.state j) (λ _. refl) both.0 in
      let clock : second c.state ≡ second old = ap (λ (s : WatchState). second s) h.state in
      let alive : is_alive (second c.state) (track_at c.state j) ≡ is_alive (second old) (track_at old k) = ap₂ (λ n e. nat_lt n (believed e)) clock alike.end in
      and_from (is_own_try (is_come old k) (attempt_at old k)) (is_alive (second old) (track_at old k)) ((spent_parts old k spent).1 first) (sym alive ∙ both.1)

  none_comes : is_spent old k ≡ true → moved_up || put_off ≡ false → comes_before_over i old c j ≡ false
  none_comes spent unput =
      elim (cases_Bool (comes_before_over i old c j)) as (λ _. comes_before_over i old c j ≡ false) [
        | inl comes ↦
            let stands = (and_parts (stands_before (index_over c i) c.state j) _ comes).0 in
            let own = (and_parts (is_own_first c.state j) _ stands).0 in
            absurd (not_both (or_left moved_up put_off (and_from (is_own_first old k) (comes_before_over i old c j) (own_before spent own) comes)) unput)
        | inr none ↦ none
      ]

  still_spent : is_spent old k ≡ true → moved_up || put_off ≡ false → is_spent c.state j ≡ true
  still_spent spent unput =
      let parts = spent_parts old k spent in
      spent_from c.state j (alike.pressed' ∙ parts.0)
      (λ first. own_more (is_come old k) (is_come c.state j) (attempt_at c.state j) (still_come parts.0) (alike.own (is_come old k) ∙ parts.1 (sym (alike.own true) ∙ first))) where
        still_come : is_pressed (track_at old k) ≡ true → is_come old k ≡ true → is_come c.state j ≡ true
        still_come is come = elim (cases_Bool (is_come c.state j)) as (λ _. is_come c.state j ≡ true) [
          | inl yes' ↦ yes'
          | inr no' ↦
              absurd (not_both (or_right moved_up put_off (and_from (is_pressed (track_at old k)) (is_come old k && not (is_come c.state j)) is (and_from (is_come old k) (not (is_come c.state j)) come (ap not no')))) unput)
        ]

  spends_kept : one_where (comes_before_over i old c j) + one_where (not (is_spent c.state j)) ≤ one_where (not (is_spent old k)) + one_where (moved_up || put_off)
  spends_kept =
      let most = comes_first_over i j old c in
      elim (cases_Bool (moved_up || put_off)) as (λ _. one_where (comes_before_over i old c j) + one_where (not (is_spent c.state j)) ≤ one_where (not (is_spent old k)) + one_where (moved_up || put_off)) [
        | inl put ↦ (let one = ap one_where put in omega (arith, one, most))
        | inr unput ↦
            elim (cases_Bool (is_spent old k)) as (λ _. one_where (comes_before_over i old c j) + one_where (not (is_spent c.state j)) ≤ one_where (not (is_spent old k)) + one_where (moved_up || put_off)) [
              | inl spent ↦
                  let none = ap one_where (none_comes spent unput) in
                  let still = ap (λ b. one_where (not b)) (still_spent spent unput) in
                  omega (arith, none, still)
              | inr fresh ↦ (let one = ap (λ b. one_where (not b)) fresh in omega (arith, one, most))
            ]
      ]

pub spends_over :
    (old : WatchState) (c : Changed) → IsChanged old c → (i j : ℕ) →
    one_where (comes_before_over i old c j) + one_where (not (is_spent c.state j)) ≤ one_where (at_some (λ k. not (is_spent old k)) (former_at c.was j)) + one_where (is_put_before i old c j)
spends_over old c h i j = by (former_at c.was j) refl where
  by : (was : Option ℕ) → former_at c.was j ≡ was → one_where (comes_before_over i old c j) + one_where (not (is_spent c.state j)) ≤ one_where (at_some (λ k. not (is_spent old k)) was) + one_where (is_put_from i old c was j)
  by None said = (let most = comes_first_over i j old c in omega (arith, most))
  by (Some k) said = spends_kept old c h i k j said

-- ---- the law of one stand

-- what is told of the index that an entry has after a change is that it was this one, if anything
index_said : (p : ℕ → Bool) (c : Changed) (j : ℕ) → one_where (at_some p (former_at c.was (index_over c j))) ≤ one_where (p j)
index_said p c j = by (place_now c.was j) refl where
  by : (o : Option ℕ) → place_now c.was j ≡ o → one_where (at_some p (former_at c.was (index_or (length c.was) o))) ≤ one_where (p j)
  by None place = (let none : one_where (at_some p (former_at c.was (length c.was))) ≡ 0 = ap (λ w. one_where (at_some p (former w))) (get_or_past c.was (length c.was) New (omega arith)) in omega (arith, none))
  by (Some k) place = (let is = ap (λ o. one_where (at_some p o)) (place_said c.was j k place) in omega (arith, is))

stands_often :
    (hs : List Happening) (width n i j : ℕ) (s : WatchState) → AllHappen s hs → AreHung i j s hs → IsBase width n s → length s.forest.entries ≡ n → s.presence.away ≡ false →
    often_before i j s hs ≤ one_where (not (is_spent s j)) + put_before i j s hs
stands_often [] width n i j s happens hung base entries there = omega arith
stands_often (Hands turn ∷ hs) width n i j s happens hung base entries there =
    let new = turn.state in
    let base' = turn_base width n s new turn.event turn.result happens.0 base in
    let here = spends_turn i j s turn happens.0 hung.0 base.past there in
    let rest = stands_often hs width n i j new happens.1 hung.1 base' ((turn_shape s new turn.event turn.result happens.0).0 ∙ entries) hung.0.there in
    omega (arith, here, rest)
stands_often (Changes c ∷ hs) width n i j s happens hung base entries there =
    let h = happens.0 in
    let k = index_over c j in
    let here = spends_over s c h i k in
    let was = index_said (λ m. not (is_spent s m)) c j in
    let there' = ap (λ (t : WatchState). t.presence.away) h.state ∙ there in
    let rest = stands_often hs width (length c.forest.entries) (index_over c i) k c.state happens.1 hung (changed_base s c h width n entries base) (changed_entries s c h) there' in
    omega (arith, here, was, rest)

pub stands_once : OnceInFrontLaw
stands_once old hs i j reached happens there hung =
    let often = stands_often hs old.width (length old.forest.entries) i j old happens hung (reached_base old reached) refl there in
    let first = waits_first i j old in
    omega (arith, often, first)
