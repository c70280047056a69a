-- CalmClock: a clock keeps a watch on its plan, whether it opens a round or not. For the law of calm.
use Rattle.std.proofs.Common.{◌≡◌, ◌⊎◌, ◌∙◌, ℕ, ◌+◌, ◌<◌, ◌≤◌, Bool, true, false, cond, not, ◌&&◌, ◌==◌, List, [], ◌∷◌, Option, Some, None, is_none, length, nat_le, nat_lt, refl, sym, ap, ap₂, subst, arith, inl, inr}
use Rattle.std.proofs.lemmas.Bool.Decides.{nat_tests}
use Rattle.std.proofs.lemmas.Bool.{cases_Bool, cases_lt, cond-false, cond-true}
use Rattle.std.proofs.Math.Path.{fun_ext}
use Rattle.std.specs.List.{list_any}
use Rattle.plan_forest.specs.{declared.entry.Entry.Entry, Carried.carried, Forest.Forest, Forest.entry_at, Push.IsForest, Renewal.all_last, Renewal.renewal}
use Rattle.plan_forest.proofs.Carrying.{and_left, and_right}
use Rattle.plan_rule.specs.{declared.wake.Wake.Wake, Ends.ends_after_wake_up, Ends.is_asked, Forced.bound, Forced.latest_end, Least.IsLeastAndLatest, Schedule.IsSchedule, Unkeepable.AllKeepable}
use Rattle.plan_rule.specs.Asks.{asking, first_of, is_to_be_asked as is_asked_now, with_asks}
use Rattle.plan_rule.proofs.{Covering.after_unwanted, Covering.after_wanted, Enough.enough as asks_enough, Keeping.one_least, LaterStart.later_start, LaterStart.same_asks, Next.renewable_within, Tail.tail}
use Rattle.plan_rule.proofs.Asking.{asked_end, asks_wanted, wanted_renewable}
use Rattle.watch_machine.specs.{declared.command.WatchRequest.WatchRequest, declared.lanes.Out.Out, declared.track.Track.Track, declared.track.Try.Try, Beginning.is_pressed, Beginning.is_pressed_try, Clocks.sec}
use Rattle.watch_machine.specs.{Margins.has_come, Margins.time, Outlook.time_of, Sending.RequestsAreSent as IsSending, Sending.sent}
use Rattle.watch_machine.specs.declared.event.Operation.TheVariants.{Look, Renew}
use Rattle.watch_machine.specs.Press.{asked_track, is_fresh, press, pressed, pressed_track}
use Rattle.watch_machine.specs.Round.{IsRound, asked_by_round, opens}
use Rattle.watch_machine.specs.State.{WatchState, attempt_at, entry_of, second, track_at}
use Rattle.watch_machine.specs.Wanted.{believed, is_alive, is_wanted, wanted_need}
use Rattle.watch_machine.proofs.Cases.{value_is}
use Rattle.watch_laws.specs.Calm.{IsCalm, IsCalmSecond, IsKeepable, IsPlanNow, NonePassed, asks_now, believed_forest, ends, in_plan_at, leads_to, terms}
use Rattle.watch_laws.proofs.Believed.{believed_at, believed_count, believed_is_forest, believed_margin, carried_believed}
use Rattle.watch_laws.proofs.Calming.{AreAlike, IsIdle, IsKept, ends_alike, forest_alike, idle_on, kept_same, lead_alike, need_kept, need_less, plan_alike, terms_alike, unpressed, untopped_on}
use Rattle.watch_laws.proofs.Foreseen.{led_by, led_parts, short_led, time_is, wanted_short}
use Rattle.watch_laws.proofs.OfPlan.{come_asked, come_at, none_opens, of_plan, opens_at, opens_now, some_opens}
use Rattle.watch_laws.proofs.OnPlan.{Goes, IsOn, IsTimed, IsTried, attempt_sent, bears_alike, end_pressed, mid_read, need_alike, new_count, none_passed, out_idle, out_pressed, owes_kept, past_kept, plan_keepable, plan_schedule, rise_behind, rise_later, sends, some_not_none, stays, timed_alike, tried_on, waits_new, wanted_alike}
use Rattle.watch_laws.proofs.Opener.{bearing, mid_bears}

-- ---- a clock that opens nothing

-- the words of a state for whether it is pressed now
abbrev pub fresh_at : WatchState → ℕ → Bool
fresh_at s i = is_fresh s.forest.margin (entry_of s i) (track_at s i) (wanted_need s i) (second s)

-- a state, the one that its clock has readied, and what goes out then
pub record IsStep (s r : WatchState) (round : List ℕ) (requests : List WatchRequest) : Type 0 where
  pub timed : IsTimed r s
  pub begun : is_none r.begun ≡ false
  pub going : IsSending (pressed r round) requests (sent (pressed r round) requests)

-- the state after such a clock
abbrev pub after_clock : WatchState → List ℕ → List WatchRequest → WatchState
after_clock r round requests = sent (pressed r round) requests

pressed_alike : (r : WatchState) (round : List ℕ) (requests : List WatchRequest) → AreAlike (after_clock r round requests) r
pressed_alike r round requests = bears_alike (after_clock r round requests) r refl refl refl (mid_bears r round requests)

timed_bears : (r s : WatchState) → IsTimed r s → (i : ℕ) → bearing (track_at r i) ≡ bearing (track_at s i)
timed_bears r s h i = ap bearing (h.tracks i)

-- what is kept of a track whose try stays
kept_on : (s r : WatchState) (round : List ℕ) (requests : List WatchRequest) → IsTimed r s → (i : ℕ) → attempt_at (pressed r round) i ≡ attempt_at r i → IsKept (track_at (after_clock r round requests) i) (track_at s i)
kept_on s r round requests timed i kept = record {
  bears = mid_bears r round requests i ∙ timed_bears r s timed i;
  attempt = attempt_sent r round requests i ∙ kept ∙ ap (λ (x : Track). x.attempt) (timed.tracks i);
  owes = owes_kept r round requests i ∙ ap (λ (x : Track). x.owes) (timed.tracks i);
}

all_alike : (s r : WatchState) (round : List ℕ) (requests : List WatchRequest) → IsTimed r s → AreAlike (after_clock r round requests) s
all_alike s r round requests timed = bears_alike (after_clock r round requests) s timed.forest timed.broker timed.wall (λ i. mid_bears r round requests i ∙ timed_bears r s timed i)

pub forest_of : (s : WatchState) (g : Forest) (e : ℕ → ℕ) (last : Wake) (ts : List ℕ) → Goes s g e last ts → IsForest g
forest_of s g e last ts goes = subst IsForest goes.same (believed_is_forest s goes.forest)

pub keepable_of : (s : WatchState) (g : Forest) (e : ℕ → ℕ) (last : Wake) (ts : List ℕ) → Goes s g e last ts → AllKeepable (believed_forest s) (second s) e
keepable_of s g e last ts goes = subst (λ h. AllKeepable h (second s) e) (sym goes.same) (plan_keepable g (second s) e ts goes.plan)

quiet_on :
    (s r : WatchState) (g : Forest) (e : ℕ → ℕ) (last : Wake) (wakes : List Wake) (ts : List ℕ) (s0 : ℕ) (requests : List WatchRequest) →
    Goes s g e last ts → IsStep s r [] requests → wakes ≡ with_asks g.entries g.margin s0 e ts → s0 ≤ second s →
    ((i : ℕ) → i < length r.forest.entries → fresh_at r i ≡ false) → IsLeastAndLatest g.entries g.margin (second r) e ts → ((i : ℕ) → IsTried s e last ts i → second r < ends s i) →
    IsOn (after_clock r [] requests) g s0 e last wakes None requests
quiet_on s r g e last wakes ts s0 requests goes step to_come from not_fresh plan alive =
    let new = after_clock r [] requests in
    let forest_r : IsForest r.forest = subst IsForest (sym step.timed.forest) goes.forest in
    let alike_r = timed_alike r s step.timed in
    let c = goes.count in
    let tc = step.timed.count in
    let f = ap (λ (g' : Forest). length g'.entries) step.timed.forest in
    let later = step.timed.later in
    let own : (i : ℕ) → (attempt_at r i ≡ None) ⊎ (is_wanted r i ≡ true) = λ i. elim (goes.each i) as (λ _. (attempt_at r i ≡ None) ⊎ (is_wanted r i ≡ true)) [
      | inl idle ↦ inl (ap (λ (x : Track). x.attempt) (step.timed.tracks i) ∙ idle.none)
      | inr tried ↦
          let short = wanted_short s i tried.wanted tried.top in
          let ahead = alive i tried in
          inr (wanted_alike r s i (timed_bears r s step.timed i) tried.top (need_kept r s forest_r goes.forest alike_r later i (omega arith)) ∙ tried.wanted)
    ] in
    let kept : (i : ℕ) → attempt_at (pressed r []) i ≡ attempt_at r i = λ i. elim (cases_lt i (length r.forest.entries)) as (λ _. attempt_at (pressed r []) i ≡ attempt_at r i) [
      | inl within ↦ stays r [] requests i (not_fresh i within) refl (own i)
      | inr past ↦ past_kept r [] requests i (omega arith)
    ] in
    let alike = all_alike s r [] requests step.timed in
    let forest : IsForest new.forest = forest_r in
    let each : (i : ℕ) → IsIdle new e i ⊎ IsTried new e last ts i = λ i. elim (goes.each i) as (λ _. IsIdle new e i ⊎ IsTried new e last ts i) [
      | inl idle ↦
          let none : attempt_at (pressed r []) i ≡ None = kept i ∙ ap (λ (x : Track). x.attempt) (step.timed.tracks i) ∙ idle.none in
          let out : (track_at new i).out ≡ false = out_idle r [] requests step.going i none ∙ ap (λ (x : Track). x.out) (step.timed.tracks i) ∙ idle.out in
          inl (idle_on new s e forest goes.forest alike step.timed.later (keepable_of s g e last ts goes) i (kept_on s r [] requests step.timed i (kept i)) out idle)
      | inr tried ↦ inr (tried_on new s e last ts forest goes.forest alike later i (kept_on s r [] requests step.timed i (kept i)) (alive i tried) tried)
    ] in
    let nc = new_count r [] requests in
    record {
      now = last;
      next = wakes;
      e = e;
      ts = ts;
      opens = (refl, (refl, subst (λ ws. NonePassed new ws) (sym to_come) (none_passed g.entries g.margin s0 e e new ts (plan_schedule g (forest_of s g e last ts goes) (second new) e ts plan).1)));
      sends = sends r [] requests step.going e last ts each;
      goes = record {
        forest = forest;
        count = nc ∙ tc ∙ c ∙ sym f;
        begun = step.begun;
        there = step.timed.away ∙ goes.there;
        same = forest_alike new s alike ∙ goes.same;
        plan = plan;
        each = each;
        waits = waits_new r [] requests step.going (λ i waiting none. goes.waits i (sym (ap (list_any (λ (q : Out). q.entry == i)) step.timed.out) ∙ waiting) (sym (kept_on s r [] requests step.timed i (kept i)).attempt ∙ none));
      };
      to_come = to_come;
      from = omega arith;
      so = refl;
    }

-- ---- while someone is being renewed

time_alike : (new old : WatchState) → new.forest ≡ old.forest → (i : ℕ) → track_at new i ≡ track_at old i → time_of new i ≡ time_of old i
time_alike new old forest i same = ap₂ (λ (g : Forest) (x : Track). time g.margin (entry_at g.entries i) x) forest same

bound_none : (es : List Entry) (e : ℕ → ℕ) (i : ℕ) → bound es e None i ≡ e i
unfolding bound latest_end
bound_none es e i = refl

fresh_parts : (s : WatchState) (i : ℕ) → fresh_at s i ≡ true → (is_wanted s i ≡ true) × ((time_of s i ≤ second s) × (is_pressed (track_at s i) ≡ false))
unfolding is_fresh has_come
fresh_parts s i fresh =
    let x = track_at s i in
    let free = not (is_pressed x) && not x.out in
    let rest = and_right (is_wanted s i) (come_at s i && free) fresh in
    let come : nat_le (time_of s i) (second s) ≡ true = and_left (come_at s i) free rest in
    (and_left (is_wanted s i) (come_at s i && free) fresh, (grind (arith, nat_tests), not_so (is_pressed x) (and_left (not (is_pressed x)) (not x.out) (and_right (come_at s i) free rest)))) where
      not_so : (b : Bool) → not b ≡ true → b ≡ false
      not_so true h = absurd cc
      not_so false h = refl

is_pressed_so : (s : WatchState) (i : ℕ) (t : Try) → attempt_at s i ≡ Some t → t.pressed ≡ true → is_pressed (track_at s i) ≡ true
is_pressed_so s i t is yes' = ap is_pressed_try is ∙ yes'

has_try : (s : WatchState) (e : ℕ → ℕ) (last : Wake) (ts : List ℕ) (i : ℕ) → IsTried s e last ts i → is_none (attempt_at s i) ≡ false
has_try s e last ts i tried = ap is_none tried.is

-- before any round can open nobody's time has come who is not asked
none_fresh : (s r : WatchState) (g : Forest) (e : ℕ → ℕ) (last : Wake) (ts : List ℕ) → Goes s g e last ts → IsTimed r s → IsCalmSecond s last.at (second r) → (i : ℕ) → fresh_at r i ≡ false
none_fresh s r g e last ts goes timed' between i =
    elim (cases_Bool (fresh_at r i)) as (λ _. fresh_at r i ≡ false) [
      | inr no' ↦ no'
      | inl yes' ↦ absurd (
          let parts = fresh_parts r i yes' in
          let same = timed'.tracks i in
          let forest_r : IsForest r.forest = subst IsForest (sym timed'.forest) goes.forest in
          let at : attempt_at r i ≡ attempt_at s i = ap (λ (x : Track). x.attempt) same in
          let come = parts.1.0 in
          elim (goes.each i) as (λ _. ⊥) [
            | inr tried ↦ (let p = is_pressed_so r i tried.try (at ∙ tried.is) tried.pressed in let q = parts.1.1 in absurd cc)
            | inl idle ↦
                let less = need_less r s forest_r goes.forest (timed_alike r s timed') timed'.later i in
                let short = wanted_short r i parts.0 (untopped_on r s (timed_alike r s timed') timed'.later i (ap bearing same) idle.untopped parts.0) in
                let end = ends_alike r s i (ap bearing same) in
                let led = led_by s goes.forest e (keepable_of s g e last ts goes) i (sym idle.end) (omega arith) in
                let l = between.others i led.within led.wanted (unpressed s i idle.none) in
                let t' = time_alike r s timed'.forest i same in
                omega arith
          ])
    ]

-- nor has the next moment of the plan come
next_ahead : (s : WatchState) (g : Forest) (e : ℕ → ℕ) (last : Wake) (ts : List ℕ) → Goes s g e last ts → (now : ℕ) → IsCalmSecond s last.at now → (u : ℕ) → first_of ts ≡ Some u → now < u
next_ahead s g e last ts goes now between u first = comes ts first (plan_schedule g (forest_of s g e last ts goes) (second s) e ts goes.plan).0 where
  comes : (ts' : List ℕ) → first_of ts' ≡ Some u → IsSchedule g.entries g.margin (second s) e None ts' → now < u
  comes [] first' schedule = absurd cc
  comes (v ∷ vs) first' schedule =
      let is : v ≡ u = value_is v u first' in
      let k = schedule.0.entry in
      let short = schedule.0.short in
      let b = bound_none g.entries e k in
      let c = carried_believed s goes.forest k in
      let same_c = ap (λ (h : Forest). carried h.entries (second s) k) goes.same in
      let at = schedule.0.moment in
      let m = ap (λ (h : Forest). h.margin) goes.same in
      let m' = believed_margin s in
      elim (goes.each k) as (λ _. now < u) [
        | inl idle ↦
            let end = idle.end in
            let led = led_by s goes.forest e (keepable_of s g e last ts goes) k (sym end) (omega arith) in
            let t = time_is s k led (idle.in_plan led.wanted) in
            let l = between.others k led.within led.wanted (unpressed s k idle.none) in
            omega arith
        | inr tried ↦
            let to : leads_to s last.at k ≡ e k = sym tried.gains in
            let l = between.own k tried.within (has_try s e last ts k tried) (omega arith) in
            omega arith
      ]

opens_fresh : (s : WatchState) (i : ℕ) → opens_at s i ≡ true → fresh_at s i ≡ true
unfolding opens
opens_fresh s i h = and_left (fresh_at s i) (in_plan_at s i && is_alive (second s) (track_at s i)) h

pub going_on :
    (s r : WatchState) (g : Forest) (e : ℕ → ℕ) (last : Wake) (wakes : List Wake) (ts : List ℕ) (s0 : ℕ) (requests : List WatchRequest) (round : Option (List ℕ)) →
    Goes s g e last ts → IsStep s r (asked_by_round round) requests → wakes ≡ with_asks g.entries g.margin s0 e ts → s0 ≤ second s → IsRound r.forest r.tracks r.clocks round →
    IsCalmSecond s last.at (second r) → IsOn (after_clock r (asked_by_round round) requests) g s0 e last wakes round requests
going_on s r g e last wakes ts s0 requests (Some asked) goes step to_come from round between =
    let some = some_opens r round.0 in
    let fresh = opens_fresh r some.0 some.1.1 in
    let none = none_fresh s r g e last ts goes step.timed between some.0 in
    absurd cc
going_on s r g e last wakes ts s0 requests None goes step to_come from round between =
    let schedule = plan_schedule g (forest_of s g e last ts goes) (second s) e ts goes.plan in
    let all = rise_behind (second s) (second r) ts (λ u first. let l = next_ahead s g e last ts goes (second r) between u first in omega arith) schedule.1 in
    quiet_on s r g e last wakes ts s0 requests goes step to_come from (λ k within. none_fresh s r g e last ts goes step.timed between k)
    (later_start g.entries g.margin (second s) (second r) e ts step.timed.later all goes.plan) (λ k tried. between.alive k tried.within (has_try s e last ts k tried))

-- ---- at rest

-- at rest nothing is fresh where nothing opens
rest_fresh : (r : WatchState) → (forest : IsForest r.forest) → (calm : IsCalm r) → IsRound r.forest r.tracks r.clocks None → (i : ℕ) → i < length r.forest.entries → fresh_at r i ≡ false
rest_fresh r forest calm round i within =
    elim (cases_Bool (fresh_at r i)) as (λ _. fresh_at r i ≡ false) [
      | inr no' ↦ no'
      | inl yes' ↦ (let parts = fresh_parts r i yes' in absurd (none_opens r round i within (opens_now r forest calm i within parts.0 parts.1.0)))
    ]

-- what an entry that the Asks name falls short of
asked_short : (es : List Entry) (margin s : ℕ) (e : ℕ → ℕ) (t : ℕ) (next : Option ℕ) (i : ℕ) → is_asked_now es margin s e t next i ≡ true → e i < carried es s i
unfolding is_asked_now
asked_short es margin s e t next i asked =
    let low : nat_lt (e i) (carried es s i) ≡ true = and_left (nat_lt (e i) (carried es s i)) _ (and_right (all_last es e (t + 1) i) _ (and_right (entry_at es i).renewable _ asked)) in
    grind (arith, nat_tests)

-- an entry that is named, and not out, has the try of a round
named_try : (r : WatchState) (round : List ℕ) (requests : List WatchRequest) (i : ℕ) → i < length r.tracks → list_any (λ j. j == i) round ≡ true → (track_at r i).out ≡ false → (x : Track) × ((attempt_at (pressed r round) i ≡ Some (press r.clocks.at x)) × (x.end ≡ (track_at r i).end))
unfolding asked_track
named_try r round requests i within named free =
    let e = entry_of r i in
    let m = r.forest.margin in
    let at = r.clocks.at in
    let x = pressed_track m e (wanted_need r i) at (track_at r i) in
    let out : x.out ≡ false = out_pressed m e (wanted_need r i) at (track_at r i) ∙ free in
    let read = mid_read r round requests i within ∙ cond-true (list_any (λ j. j == i) round) (asked_track at x) x named
    ∙ cond-false x.out x (record x { attempt = Some (press at x) }) out in
    (x, (ap (λ (y : Track). y.attempt) read, end_pressed m e (wanted_need r i) at (track_at r i)))

press_renews : (at : ℕ) (x : Track) → sec at < believed x.end → (press at x).operation ≡ Renew
unfolding press
press_renews at x ahead =
    let alive : nat_lt (sec at) (believed x.end) ≡ true = grind (arith, nat_tests) in
    ap (λ b. cond b Renew Look) alive

press_pressed : (at : ℕ) (x : Track) → ((press at x).pressed ≡ true) × (((press at x).failed ≡ false) × ((press at x).base ≡ Some at))
unfolding press
press_pressed at x = (refl, (refl, refl))

-- an entry that a round asks
opened_tried :
    (r : WatchState) (asked : List ℕ) (requests : List WatchRequest) (now : Wake) (e : ℕ → ℕ) (us : List ℕ) (i : ℕ) → IsForest r.forest → IsCalm r → length r.tracks ≡ length r.forest.entries →
    is_wanted r i ≡ true → list_any (λ j. j == i) asked ≡ true → is_asked now i ≡ true → second r ≡ now.at →
    e i ≡ renewal (terms r i) (second r) → ends r i < e i → (track_at r i).owes ≡ false → IsTried (after_clock r asked requests) e now us i
unfolding ends
opened_tried r asked requests now e us i forest calm count wanted named is_named at gains grows owes =
    let new = after_clock r asked requests in
    let alike = pressed_alike r asked requests in
    let led = short_led r forest calm.keepable i (wanted_short r i wanted (calm.untopped i wanted)) in
    let parts = led_parts (track_at r i).renewable (track_at r i).top led.led in
    let room = led.room in
    let above = forest.margin_above in
    let t = terms_alike new r alike i in
    let need = need_alike new r forest forest alike refl i in
    let w = led.within in
    let bears = mid_bears r asked requests i in
    let lead = lead_alike new r refl i (ap (λ (x : Track). x.grant) bears) in
    let same_end = ends_alike new r i bears in
    let got = named_try r asked requests i (omega arith) named (calm.unasked i w) in
    let what = press_pressed r.clocks.at got.0 in
    let end = ap believed got.1.1 in
    record {
      within = w;
      try = press r.clocks.at got.0;
      is = attempt_sent r asked requests i ∙ got.1.0;
      pressed = what.0;
      failed = what.1.0;
      operation = press_renews r.clocks.at got.0 (omega arith);
      base = r.clocks.at;
      base_is = what.1.1;
      base_now = at;
      asked = is_named;
      now = omega arith;
      gains = gains ∙ ap (λ n. renewal (terms r i) n) at ∙ sym (ap (λ (x : Entry). renewal x now.at) t);
      grows = omega arith;
      ahead = omega arith;
      wanted = wanted_alike new r i bears parts.1 need ∙ wanted;
      in_plan = plan_alike new r refl i lead ∙ calm.in_plan i w wanted;
      led = lead ∙ calm.led i w wanted;
      renewable = ap (λ (x : Track). x.renewable) bears ∙ parts.0;
      top = ap (λ (x : Track). x.top) bears ∙ parts.1;
      more = λ c is'. (let k = led.more c (sym (ap (λ (x : Entry). x.ceiling) t) ∙ is') in omega arith);
      owes = owes_kept r asked requests i ∙ owes;
    }

with_end : (s : WatchState) (e d : ℕ → ℕ) (i : ℕ) → e i ≡ d i → IsIdle s e i → IsIdle s d i
with_end s e d i same idle = record { none = idle.none; end = idle.end ∙ same; owes = idle.owes; out = idle.out; in_plan = idle.in_plan; led = idle.led; untopped = idle.untopped }

-- a round opens
opening_on :
    (s r : WatchState) (last : Wake) (wakes : List Wake) (ts us : List ℕ) (s0 : ℕ) (requests : List WatchRequest) (asked : List ℕ) →
    Goes s (believed_forest r) (ends r) last ts → IsStep s r asked requests → wakes ≡ with_asks (believed_forest r).entries (believed_forest r).margin s0 (ends r) ts → s0 ≤ second s →
    IsForest r.forest → IsCalm r → ((i : ℕ) → IsIdle s (ends r) i) → IsLeastAndLatest (believed_forest r).entries (believed_forest r).margin (second r) (ends r) ts →
    IsPlanNow r (second r ∷ us) → asked ≡ asks_now r (first_of us) → IsOn (after_clock r asked requests) (believed_forest r) s0 (ends r) last wakes (Some asked) requests
unfolding believed_forest with_asks is_asked
opening_on s r last wakes ts us s0 requests asked goes step to_come from forest_r calm idle plan best is =
    let new = after_clock r asked requests in
    let g = believed_forest r in
    let es = g.entries in
    let m = r.forest.margin in
    let t = second r in
    let e = ends r in
    let next = first_of us in
    let w = asking es m t e t next in
    let d = ends_after_wake_up es m e w in
    let forest_g : IsForest g = believed_is_forest r forest_r in
    let same_ts : ts ≡ t ∷ us = one_least es m t e ts (t ∷ us) plan best in
    let rest : IsLeastAndLatest es m t d us = tail asks_enough g t t e us forest_g best in
    let now : Wake = record { at = t; asked = asked } in
    let f = step.timed.later in
    let first : asking es m s0 e t next ≡ w = ap (λ a. record { at = t; asked = a }) (same_asks es m s0 t t e next (omega arith) (omega arith)) in
    let here : w ≡ now = ap (λ a. record { at = t; asked = a }) (sym is) in
    let comes : wakes ≡ now ∷ with_asks es m s0 d us =
    to_come ∙ ap (λ xs. with_asks es m s0 e xs) same_ts
    ∙ ap (λ x. x ∷ with_asks es m s0 (ends_after_wake_up es m e x) us) first
    ∙ ap (λ x. x ∷ with_asks es m s0 d us) here in
    let alike = pressed_alike r asked requests in
    let p = is_asked_now es m t e t next in
    let named : (i : ℕ) → list_any (λ j. j == i) asked ≡ p i = λ i. ap (list_any (λ j. j == i)) is ∙ asks_wanted es m t e t next i in
    let c = goes.count in
    let tc = step.timed.count in
    let fc = ap (λ (h : Forest). length h.entries) step.timed.forest in
    let count_r : length r.tracks ≡ length r.forest.entries = tc ∙ c ∙ sym fc in
    let none_r : (i : ℕ) → attempt_at r i ≡ None = λ i. ap (λ (x : Track). x.attempt) (step.timed.tracks i) ∙ (idle i).none in
    let each : (i : ℕ) → IsIdle new d i ⊎ IsTried new d now us i = λ i. elim (cases_Bool (p i)) as (λ _. IsIdle new d i ⊎ IsTried new d now us i) [
      | inl yes' ↦
          let within' = renewable_within es i (wanted_renewable es m t e t next i yes') in
          let count = believed_count r in
          let within : i < length r.forest.entries = omega arith in
          let short = asked_short es m t e t next i yes' in
          let carries = carried_believed r forest_r i in
          let led = short_led r forest_r calm.keepable i (omega arith) in
          let gains : d i ≡ renewal (terms r i) t = after_wanted es m t e t next i yes' ∙ ap (λ (x : Entry). renewal x t) (believed_at r i within) in
          let grows = (asked_end es m t e t next i yes').1 in
          let after' = after_wanted es m t e t next i yes' in
          let owes : (track_at r i).owes ≡ false = ap (λ (x : Track). x.owes) (step.timed.tracks i) ∙ (idle i).owes in
          inr (opened_tried r asked requests now d us i forest_r calm count_r led.wanted (named i ∙ yes') (named i ∙ yes') refl gains (omega arith) owes)
      | inr no' ↦
          let kept : attempt_at (pressed r asked) i ≡ attempt_at r i = elim (cases_lt i (length r.forest.entries)) as (λ _. attempt_at (pressed r asked) i ≡ attempt_at r i) [
            | inl within ↦ stays r asked requests i (not_fresh i within no') (named i ∙ no') (inl (none_r i))
            | inr past ↦ past_kept r asked requests i (omega arith)
          ] in
          let out : (track_at new i).out ≡ false = out_idle r asked requests step.going i (kept ∙ none_r i) ∙ ap (λ (x : Track). x.out) (step.timed.tracks i) ∙ (idle i).out in
          let in_new = idle_on new s e forest_r goes.forest (all_alike s r asked requests step.timed) step.timed.later (keepable_of s g e last ts goes) i (kept_on s r asked requests step.timed i kept) out (idle i) in
          inl (with_end new e d i (sym (after_unwanted es m t e t next i no')) in_new)
    ] in
    let nc = new_count r asked requests in
    record {
      now = now;
      next = with_asks es m s0 d us;
      e = d;
      ts = us;
      opens = (refl, comes);
      sends = sends r asked requests step.going d now us each;
      goes = record {
        forest = forest_r;
        count = nc ∙ count_r;
        begun = step.begun;
        there = step.timed.away ∙ goes.there;
        same = forest_alike new r alike;
        plan = rest;
        each = each;
        waits = waits_new r asked requests step.going (λ i waiting none. goes.waits i (sym (ap (list_any (λ (q : Out). q.entry == i)) step.timed.out) ∙ waiting) (idle i).none);
      };
      to_come = refl;
      from = omega arith;
      so = ap (ends_after_wake_up es m e) here;
    } where
      not_fresh : (i : ℕ) → i < length r.forest.entries → is_asked_now (believed_forest r).entries r.forest.margin (second r) (ends r) (second r) (first_of us) i ≡ false → fresh_at r i ≡ false
      not_fresh i within no' =
          elim (cases_Bool (fresh_at r i)) as (λ _. fresh_at r i ≡ false) [
            | inr so ↦ so
            | inl yes' ↦ absurd (
                let parts = fresh_parts r i yes' in
                let forest_g = believed_is_forest r forest_r in
                let later = rise_later (second r) us (plan_schedule (believed_forest r) forest_g (second r) (ends r) (second r ∷ us) best).1.1 in
                let asked' = come_asked r forest_r calm (first_of us) later i within parts.0 parts.1.0 in
                cc)
          ]

-- a clock that finds a watch at rest
pub resting_on :
    (s r : WatchState) (g : Forest) (e : ℕ → ℕ) (last : Wake) (wakes : List Wake) (ts : List ℕ) (s0 : ℕ) (requests : List WatchRequest) (round : Option (List ℕ)) →
    Goes s g e last ts → IsStep s r (asked_by_round round) requests → wakes ≡ with_asks g.entries g.margin s0 e ts → s0 ≤ second s → IsRound r.forest r.tracks r.clocks round →
    ((i : ℕ) → IsIdle s e i) → ((i : ℕ) → i < length s.forest.entries → is_wanted s i ≡ true → second r ≤ time_of s i) → IsOn (after_clock r (asked_by_round round) requests) g s0 e last wakes round requests
resting_on s r g e last wakes ts s0 requests round goes step to_come from is_round idle in_time =
    let forest_g = forest_of s g e last ts goes in
    let forest_r : IsForest r.forest = subst IsForest (sym step.timed.forest) goes.forest in
    let alike = timed_alike r s step.timed in
    let schedule = plan_schedule g forest_g (second s) e ts goes.plan in
    let later = step.timed.later in
    let all = rise_behind (second s) (second r) ts (λ u first. comes u ts first schedule.0) schedule.1 in
    let plan : IsLeastAndLatest g.entries g.margin (second r) e ts = later_start g.entries g.margin (second s) (second r) e ts later all goes.plan in
    let idle_r : (i : ℕ) → IsIdle r e i = λ i. idle_on r s e forest_r goes.forest alike later (keepable_of s g e last ts goes) i (kept_same (track_at r i) (track_at s i) (step.timed.tracks i)) (ap (λ (x : Track). x.out) (step.timed.tracks i) ∙ (idle i).out) (idle i) in
    let own : ends r ≡ e = fun_ext λ i. (idle_r i).end in
    let same : believed_forest r ≡ g = forest_alike r s alike ∙ goes.same in
    let keepable : IsKeepable r = subst (λ h. AllKeepable h (second r) (ends r)) (sym same) (subst (λ d. AllKeepable g (second r) d) (sym own) (plan_keepable g (second r) e ts plan)) in
    let calm : IsCalm r = record {
      keepable = keepable;
      in_plan = λ i within wanted. (idle_r i).in_plan wanted;
      untopped = λ i wanted. (idle_r i).untopped wanted;
      led = λ i within wanted. (idle_r i).led wanted;
      unpressed = λ i within. unpressed r i (idle_r i).none;
      unasked = λ i within. (idle_r i).out;
    } in
    by_round round step is_round calm plan same own where
      comes : (u : ℕ) (ts' : List ℕ) → first_of ts' ≡ Some u → IsSchedule g.entries g.margin (second s) e None ts' → second r ≤ u
      comes u [] first schedule = absurd cc
      comes u (v ∷ vs) first schedule =
          let is : v ≡ u = value_is v u first in
          let k = schedule.0.entry in
          let short = schedule.0.short in
          let b = bound_none g.entries e k in
          let c = carried_believed s goes.forest k in
          let same_c = ap (λ (h : Forest). carried h.entries (second s) k) goes.same in
          let end = (idle k).end in
          let led = led_by s goes.forest e (keepable_of s g e last ts goes) k (sym end) (omega arith) in
          let t = time_is s k led ((idle k).in_plan led.wanted) in
          let l = in_time k led.within led.wanted in
          let at = schedule.0.moment in
          let m = ap (λ (h : Forest). h.margin) goes.same in
          let m' = believed_margin s in
          omega arith

      by_round : (round' : Option (List ℕ)) → IsStep s r (asked_by_round round') requests → IsRound r.forest r.tracks r.clocks round' → IsCalm r → IsLeastAndLatest g.entries g.margin (second r) e ts → believed_forest r ≡ g → ends r ≡ e → IsOn (after_clock r (asked_by_round round') requests) g s0 e last wakes round' requests
      by_round None step' is_round' calm plan same own =
          quiet_on s r g e last wakes ts s0 requests goes step' to_come from (rest_fresh r (subst IsForest (sym step.timed.forest) goes.forest) calm is_round') plan (λ i tried. absurd (some_not_none (attempt_at s i) tried.try tried.is (idle i).none))
      by_round (Some asked) step' is_round' calm plan same own =
          let forest_r : IsForest r.forest = subst IsForest (sym step.timed.forest) goes.forest in
          let of = of_plan r forest_r calm (Some asked) is_round' in
          let P : Forest → (ℕ → ℕ) → Type 0 = λ h d. Goes s h d last ts × ((wakes ≡ with_asks h.entries h.margin s0 d ts) × (((i : ℕ) → IsIdle s d i) × IsLeastAndLatest h.entries h.margin (second r) d ts)) in
          let all : P (believed_forest r) (ends r) = subst (λ h. P h (ends r)) (sym same) (subst (λ d. P g d) (sym own) (goes, (to_come, (idle, plan)))) in
          subst (λ d. IsOn (after_clock r asked requests) g s0 d last wakes (Some asked) requests) own
          (subst (λ h. IsOn (after_clock r asked requests) h s0 (ends r) last wakes (Some asked) requests) same
          (opening_on s r last wakes ts of.0 s0 requests asked all.0 step' all.1.0 from forest_r calm all.1.1.0 all.1.1.1 of.1.0 of.1.1))
