-- Handing: what a scout hands in, and what the watch makes of it. For the laws of what is handed in, and of outages.
use Rattle.std.proofs.Common.{◌≡◌, ◌∙◌, ℕ, ◌-◌, ◌<◌, ◌≤◌, Bool, true, false, not, ◌&&◌, Option, Some, None, Result, Ok, Err, length, min, nat_le, nat_lt, refl, sym, ap, subst, arith}
use Rattle.std.proofs.lemmas.{Bool.Decides.nat_tests, List.get_or-set_same}
use Rattle.std.proofs.lemmas.Bool.{and_parts, cond-false, cond-true}
use Rattle.plan_forest.specs.{declared.entry.Entry.Entry, declared.forest.TheConstants.END_MAX}
use Rattle.watch_machine.specs.{declared.command.WatchOutput.WatchOutput, declared.event.WatchEvent.WatchEvent, declared.event.WatchEvent.TheVariants.Known, declared.event.WatchReply.WatchReply, declared.fault.WatchFault.WatchFault}
use Rattle.watch_machine.specs.{declared.track.End.End, declared.track.End.TheVariants.At, declared.track.Track.Track, Answers.with_track, Clocks.sec, History.Turn, Lines.rested, Outlook.time_of, Refusal.refusal, Step.told_earlier}
use Rattle.watch_machine.specs.declared.event.WatchReply.TheVariants.{Told, Refused, Busy, Lost}
use Rattle.watch_machine.specs.declared.fault.WatchFault.TheVariants.{BadIndex, OutOfMemory}
use Rattle.watch_machine.specs.Beginning.{is_pressed, owing_lookup, owing_past}
use Rattle.watch_machine.specs.Margins.{asking_margin, is_in_plan, own_margin, time, time_before}
use Rattle.watch_machine.specs.State.{WatchState, entry_of, no_track, second, track_at}
use Rattle.watch_machine.specs.Wanted.{believed, is_alive, is_wanted}
use Rattle.watch_machine.proofs.Cases.{if_cases, value_is}
use Rattle.watch_laws.specs.Absence.{is_event_taken}
use Rattle.watch_laws.specs.Outage.{IsBefore, IsIncident, Outage}
use Rattle.watch_scout.specs.State.{seen_at}
use Rattle.watch_scout.specs.Hearing.{end_told, event_by, event_of, event_where, is_later, is_news}
use Rattle.watch_scout_laws.specs.Resting.{IsStillBefore}
use Rattle.watch_scout_laws.specs.Behind.{HandedLaw, IsKept, IsLaterEnd, KeptLaw, later_track}

lt_from : (m n : ℕ) → nat_lt m n ≡ true → m < n
lt_from m n h = grind (arith, nat_tests)

lt_true : (m n : ℕ) → m < n → nat_lt m n ≡ true
lt_true m n h = grind (arith, nat_tests)

free_from : (b c : Bool) → (not b && c) ≡ true → b ≡ false
free_from true c h = absurd cc
free_from false c h = refl

rest_from : (b c : Bool) → (not b && c) ≡ true → c ≡ true
rest_from true c h = absurd cc
rest_from false c h = h

abbrev pub end_in : WatchEvent → ℕ
end_in (Known j end renewable) = end
end_in _ = 0

-- ---- what is handed in
later_end : (e : End) (end : ℕ) → is_later e end ≡ true → (k : ℕ) × ((e ≡ At k) × (k < end))
later_end (At k) end h = (k, (refl, lt_from k end h))
later_end _ end h = absurd cc

news_later : (w : WatchState) (i end : ℕ) (renewable : Bool) (event : WatchEvent) → is_news w i end ≡ true → Some (Known i end renewable) ≡ Some event → IsLaterEnd w i event
unfolding is_news
news_later w i end renewable event news is =
    let both = and_parts (is_later (track_at w i).end end) (nat_lt (second w) end) (rest_from (track_at w i).out (is_later (track_at w i).end end && nat_lt (second w) end) news) in
    let later = later_end (track_at w i).end end both.0 in
    record {
      end = end;
      renewable = renewable;
      is = sym (value_is (Known i end renewable) event is);
      free = free_from (track_at w i).out (is_later (track_at w i).end end && nat_lt (second w) end) news;
      believed = later.0;
      known = later.1.0;
      later = later.1.1;
      ahead = lt_from (second w) end both.1;
    }

pub told_news : (w : WatchState) (i since seconds : ℕ) (renewable : Bool) (date : Option ℕ) (event : WatchEvent) → event_by w i since (Told seconds renewable date) ≡ Some event →
    (is_news w i (end_told since seconds) ≡ true) × (Some (Known i (end_told since seconds) renewable) ≡ Some event)
told_news w i since seconds renewable date event is =
    let end = end_told since seconds in
    let Q : Option WatchEvent → Type 0 = λ o. o ≡ Some event → (is_news w i end ≡ true) × (Some (Known i end renewable) ≡ Some event) in
    if_cases Q (is_news w i end) (Some (Known i end renewable)) None (λ news e. (news, e)) (λ none e. absurd cc) is

pub hands : HandedLaw
unfolding event_of
hands s w i reply event is = by (seen_at s i).since reply is where
  by : (since : Option ℕ) (r : WatchReply) → event_where w i since r ≡ Some event → IsLaterEnd w i event
  by None r e = absurd cc
  by (Some since) (Told seconds renewable date) e =
      let news = told_news w i since seconds renewable date event e in
      news_later w i (end_told since seconds) renewable event news.0 news.1
  by (Some since) (Refused status date) e = absurd cc
  by (Some since) Busy e = absurd cc
  by (Some since) Lost e = absurd cc

-- ---- what the watch makes of it
-- an end that is ahead sets no try
no_try : (at end : ℕ) (renewable : Bool) (x : Track) → sec at < end → end ≤ END_MAX → owing_past at (told_earlier end renewable x) ≡ later_track end renewable x
unfolding owing_past
no_try at end renewable x ahead few =
    let y = told_earlier end renewable x in
    let e : min END_MAX end ≡ end = omega (arith, few) in
    let alive : is_alive (sec at) y ≡ true = ap (nat_lt (sec at)) e ∙ lt_true (sec at) end ahead in
    cond-true (is_alive (sec at) y) y (owing_lookup at y) alive ∙ ap (λ n. record x { end = At n; renewable = renewable }) e

-- how long before its end an entry is asked does not hang on that end
same_asking : (m end : ℕ) (renewable : Bool) (e : Entry) (x : Track) → time m e (later_track end renewable x) ≡ end - asking_margin m e x
unfolding time asking_margin own_margin
same_asking m end renewable e x = refl

time_known : (m k : ℕ) (e : Entry) (x : Track) → x.end ≡ At k → time m e x ≡ k - asking_margin m e x
unfolding time
time_known m k e x is = ap (λ d. time_before d (asking_margin m e x)) is

pub track_kept : (old : WatchState) (i : ℕ) (y : Track) → i < length old.tracks → track_at (with_track old i y) i ≡ y
track_kept old i y counted = get_or-set_same old.tracks i y no_track counted

not_refused : (old : WatchState) (i end : ℕ) (renewable : Bool) → i < length old.forest.entries → refusal old (Known i end renewable) ≡ None
unfolding refusal
not_refused old i end renewable within =
    let within' : nat_le (length old.forest.entries) i ≡ false = grind (arith, nat_tests) in
    cond-false (nat_le (length old.forest.entries) i) (Some BadIndex) None within'

kept_by : (old : WatchState) (i end : ℕ) (renewable : Bool) (result : Result WatchOutput WatchFault) (new : WatchState) → Turn old (Known i end renewable) result new → i < length old.forest.entries → i < length old.tracks →
    second old < end → end ≤ END_MAX → (is_event_taken result ≡ true) × IsKept old new i end renewable
kept_by old i end renewable (Ok output) new turn within counted ahead few =
    let y = later_track end renewable (track_at old i) in
    let state : new ≡ with_track old i y = turn.1.1 ∙ ap (with_track old i) (no_try old.clocks.at end renewable (track_at old i) ahead few) in (
      refl,
      record {
        state = state;
        time = ap (λ (v : WatchState). time_of v i) state ∙ ap (time old.forest.margin (entry_of old i)) (track_kept old i y counted) ∙ same_asking old.forest.margin end renewable (entry_of old i) (track_at old i);
      },
    )
kept_by old i end renewable (Err OutOfMemory) new turn within counted ahead few = absurd turn.1.0
kept_by old i end renewable (Err _) new turn within counted ahead few = absurd (let none = not_refused old i end renewable within in let bad = sym none ∙ turn.0 in cc)

pub keeps : KeptLaw
keeps old turn i end renewable h is within counted ahead few =
    kept_by old i end renewable turn.result turn.state (subst (λ e. Turn old e turn.result turn.state) is h) within counted ahead few

-- ---- nothing rests on the agent in front
pub another : (o : Outage) (w : WatchState) (i j due : ℕ) (event : WatchEvent) → IsLaterEnd w j event → (j ≡ i → ⊥) → IsIncident o i due w event
another o w i j due event h apart = subst (IsIncident o i due w) (sym h.is) apart

plan_kept : (m end : ℕ) (renewable : Bool) (e : Entry) (x : Track) → is_in_plan m e x ≡ true → is_in_plan m e (later_track end renewable x) ≡ true
unfolding is_in_plan own_margin
plan_kept m end renewable e x h = h

pub still : (old : WatchState) (i k end : ℕ) (renewable : Bool) → i < length old.tracks → (track_at old i).end ≡ At k → k < end → IsBefore old i →
    is_wanted (with_track old i (later_track end renewable (track_at old i))) i ≡ true → IsStillBefore old (with_track old i (later_track end renewable (track_at old i))) i
still old i k end renewable counted known later b wanted =
    let x = track_at old i in
    let y = later_track end renewable x in
    let new = with_track old i y in
    let m = old.forest.margin in
    let e = entry_of old i in
    let there : track_at new i ≡ y = track_kept old i y counted in
    let was = time_known m k e x known in
    let is : time_of new i ≡ end - asking_margin m e x = ap (time m e) there ∙ same_asking m end renewable e x in
    let sooner : time_of old i ≤ time_of new i = omega (arith, was, is, later) in
    let ahead = b.ahead in
    let last = ap (λ (z : Track). rested z.last) there in
    let rest = b.rested in
    let before_end = ap believed known in
    let after_end = ap (λ (z : Track). believed z.end) there in
    record {
      before = record {
        within = b.within;
        wanted = wanted;
        in_plan = ap (is_in_plan m e) there ∙ plan_kept m end renewable e x b.in_plan;
        not_topped = ap (λ (z : Track). z.top) there ∙ b.not_topped;
        loose = ap is_pressed there ∙ b.loose;
        ahead = omega (arith, ahead, sooner);
        rested = omega (arith, last, rest, sooner);
      };
      time = sooner;
      end = omega (arith, before_end, after_end, later);
    }
