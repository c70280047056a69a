-- OfPlan: what a clock opens in calm is the round of the least and latest plan. For the law of the round of the plan.
use Rattle.std.proofs.Common.{◌≡◌, ◌∙◌, ℕ, ◌+◌, ◌-◌, ◌<◌, ◌≤◌, Bool, true, false, cond, not, ◌&&◌, ◌==◌, List, [], ◌∷◌, Option, Some, None, Ok, filter, get_or, length, max, nat_le, nat_lt, refl, sym, ap, ap₂, subst, arith, inl, inr, if◌then◌else◌, ◌||◌, suc, zero}
use Rattle.std.proofs.lemmas.{Bool.Decides.nat_tests, List.Folds.list_any_at, List.FromFn.get_or-range_with_len, List.FromFn.length-range_with_len}
use Rattle.std.proofs.lemmas.Bool.{cases_Bool, cases_lt, cond-true, cond-false}
use Rattle.std.proofs.Math.Path.{fun_ext}
use Rattle.std.specs.List.{list_any, range_with_len}
use Rattle.plan_forest.specs.{declared.entry.Entry.Entry, Carried.carried, Forest.end_of, Forest.entry_at, Over.Over, Over.is_over, Push.IsForest}
use Rattle.plan_forest.specs.Renewal.{all_last, capped, is_granted, renewal, renewed}
use Rattle.plan_forest.proofs.{Chains.ParentsFirst, Entries.entry_at_past, Placed.parents_first}
use Rattle.plan_forest.proofs.Carrying.{and_left, and_right, carried_up, or_parts}
use Rattle.plan_rule.specs.{Forced.bound, Forced.latest_end, Schedule.IsNextMoment, Schedule.IsSchedule}
use Rattle.plan_rule.specs.Asks.{asks, first_of, is_end_due, is_to_be_asked as is_asked_now}
use Rattle.plan_rule.proofs.{Asking.short_over, Keeping.end_below_bound}
use Rattle.watch_machine.specs.{declared.command.WatchOutput.WatchOutput, declared.event.WatchEvent.WatchEvent, declared.event.WatchEvent.TheVariants.Clock, declared.notes.Notes.Notes, Beginning.is_pressed, Margins.has_come, Press.is_fresh}
use Rattle.watch_machine.specs.{Outlook.time_of, Step.StepClock, Step.readied}
use Rattle.watch_machine.specs.History.{History, Turn, Turned}
use Rattle.watch_machine.specs.Round.{IsRound, IsSecond, entry_planned, is_hoped, opens, opens_some, plan_view, planned_by, step_in_plan}
use Rattle.watch_machine.specs.State.{WatchState, entry_of, second, track_at}
use Rattle.watch_machine.specs.Wanted.{believed, is_alive, is_unknown, is_wanted, seen_entry, wanted_need}
use Rattle.watch_machine.proofs.Cases.{if_cases}
use Rattle.watch_laws.specs.Calm.{AllRight, IsCalm, IsOfPlan, IsPlanNow, RoundOfPlanLaw, RoundsRight, asks_now, believed_forest, ends, in_plan_at, lead_at, planned_need, terms}
use Rattle.watch_laws.proofs.Believed.{AreSameNeeds, believed_at, believed_count, believed_is_forest, believed_margin, carried_believed, carried_within, same_carried, same_chain, written_at, written_count, written_same}
use Rattle.watch_laws.proofs.Foreseen.{IsScheduled, short_led, there_is_plan, time_is, wanted_short}
use Rattle.watch_laws.proofs.Forested.{reached_forest, readied_forest, turned_forest}

-- the words of a state of which the machine's parts speak by their values
abbrev pub planned_at : WatchState → ℕ → Entry
planned_at s i = entry_planned s.forest s.tracks s.clocks i

abbrev pub hoped_at : WatchState → ℕ → Bool
hoped_at s i = is_hoped s.forest.margin (entry_of s i) (track_at s i) (wanted_need s i)

abbrev pub opens_at : WatchState → ℕ → Bool
opens_at s i = opens s.forest.margin (entry_of s i) (track_at s i) (wanted_need s i) (second s)

abbrev pub come_at : WatchState → ℕ → Bool
come_at s i = has_come s.forest.margin (entry_of s i) (track_at s i) (second s)

abbrev pub seen_at : WatchState → ℕ → Entry
seen_at s i = seen_entry s.forest.entries s.tracks s.clocks i

-- an entry that counts as renewed, and one that does not
abbrev pub hoped_entry : WatchState → ℕ → Entry
hoped_entry s i = record (seen_at s i) { end = capped (seen_at s i).ceiling (second s + lead_at s i); renewable = false }

abbrev pub own_entry : WatchState → ℕ → Entry
own_entry s i = record (seen_at s i) { renewable = (track_at s i).renewable && not (track_at s i).top; step = step_in_plan s.forest.margin (entry_of s i) (track_at s i) (seen_at s i).step }

pub planned_is : (s : WatchState) (i : ℕ) → planned_at s i ≡ (if hoped_at s i then hoped_entry s i else own_entry s i)
unfolding entry_planned planned_by
planned_is s i = refl

-- an entry in the plan, of a known end, not pressed and not out is taken as it is believed
pub no_hope : (wanted planned unknown pressed out : Bool) → planned ≡ true → unknown ≡ false → pressed ≡ false → out ≡ false → wanted && (not planned || (unknown || (pressed || out))) ≡ false
no_hope false planned unknown pressed out p u q o = refl
no_hope true true false false false p u q o = refl
no_hope true true false false true p u q o = absurd cc
no_hope true true false true out p u q o = absurd cc
no_hope true true true pressed out p u q o = absurd cc
no_hope true false unknown pressed out p u q o = absurd cc

-- the Asks take an entry that is not wanted as it is believed
pub unwanted_end : (s : WatchState) (i : ℕ) → is_wanted s i ≡ false → (planned_at s i).end ≡ ends s i
unfolding seen_entry ends is_hoped
unwanted_end s i not_wanted =
    let x = track_at s i in
    ap (λ (e : Entry). e.end) (planned_is s i)
    ∙ by_test (is_wanted s i) (not (in_plan_at s i) || (is_unknown x.end || (is_pressed x || x.out))) (hoped_entry s i) (own_entry s i) not_wanted where
      by_test : (b c : Bool) (y z : Entry) → b ≡ false → (cond (b && c) y z).end ≡ z.end
      by_test true c y z h = absurd cc
      by_test false c y z h = refl

-- the Asks take an entry as it is believed
record IsTaken (s : WatchState) (i : ℕ) : Type 0 where
  pub renewable : (planned_at s i).renewable ≡ (terms s i).renewable
  pub ceiling : (planned_at s i).ceiling ≡ (terms s i).ceiling
  pub step : (planned_at s i).step ≡ (terms s i).step
  pub end : (planned_at s i).end ≡ ends s i

wanted_taken : (s : WatchState) → IsForest s.forest → IsCalm s → (i : ℕ) → i < length s.forest.entries → is_wanted s i ≡ true → IsTaken s i
unfolding terms seen_entry ends is_hoped
wanted_taken s forest calm i within wanted =
    let led = short_led s forest calm.keepable i (wanted_short s i wanted (calm.untopped i wanted)) in
    let x = track_at s i in
    let in_plan = calm.in_plan i within wanted in
    let hoped : hoped_at s i ≡ false =
    no_hope (is_wanted s i) (in_plan_at s i) (is_unknown x.end) (is_pressed x) x.out in_plan (ap is_unknown led.known) (calm.unpressed i within) (calm.unasked i within) in
    let is : planned_at s i ≡ own_entry s i = planned_is s i ∙ cond-false (hoped_at s i) (hoped_entry s i) (own_entry s i) hoped in
    record {
      renewable = ap (λ (e : Entry). e.renewable) is;
      ceiling = ap (λ (e : Entry). e.ceiling) is;
      step = ap (λ (e : Entry). e.step) is ∙ (cond-true (in_plan_at s i) (lead_at s i) (entry_of s i).step in_plan ∙ calm.led i within wanted);
      end = ap (λ (e : Entry). e.end) is;
    }

pub planned_same : (s : WatchState) (i : ℕ) → ((planned_at s i).parent ≡ (terms s i).parent) × ((planned_at s i).need ≡ (terms s i).need)
unfolding terms
planned_same s i = (
  ap (λ (e : Entry). e.parent) (planned_is s i) ∙ if_cases (λ (e : Entry). e.parent ≡ (terms s i).parent) (hoped_at s i) (hoped_entry s i) (own_entry s i) (λ e. refl) (λ e. refl),
  ap (λ (e : Entry). e.need) (planned_is s i) ∙ if_cases (λ (e : Entry). e.need ≡ (terms s i).need) (hoped_at s i) (hoped_entry s i) (own_entry s i) (λ e. refl) (λ e. refl),
)

-- one of those that a test finds
some_of : (p : ℕ → Bool) (n a : ℕ) → list_any p (range_with_len a n) ≡ true → (i : ℕ) × ((i < a + n) × (p i ≡ true))
some_of p zero a h = absurd cc
some_of p (suc n) a h =
    or_parts (p a) (list_any p (range_with_len (a + 1) n)) ((i : ℕ) × ((i < a + suc n) × (p i ≡ true))) h
    (λ here. (a, (omega arith, here)))
    (λ there. (let rest = some_of p n (a + 1) there in let w = rest.1.0 in (rest.0, (omega (arith, w), rest.1.1))))

-- somebody opens the round
pub some_opens : (s : WatchState) → opens_some s.forest s.tracks s.clocks ≡ true → (i : ℕ) × ((i < 0 + length s.forest.entries) × (opens_at s i ≡ true))
unfolding opens_some
some_opens s some = some_of (opens_at s) (length s.forest.entries) 0 some

-- and nobody does where none opens
pub none_opens : (s : WatchState) → opens_some s.forest s.tracks s.clocks ≡ false → (i : ℕ) → i < length s.forest.entries → opens_at s i ≡ true → ⊥
unfolding opens_some
none_opens s none i within yes' =
    let n = length s.forest.entries in
    let at = get_or-range_with_len 0 n i 0 within in
    let is : get_or (range_with_len 0 n) i 0 ≡ i = omega arith in
    let c = list_any_at (opens_at s) (range_with_len 0 n) i 0 (let l = length-range_with_len 0 n in omega arith) (subst (λ k. opens_at s k ≡ true) (sym is) yes') in
    cc

pub three : (a b c d : Bool) → c ≡ false → a && (b && (c && d)) ≡ false
three true true true d e = absurd cc
three true true false d e = refl
three true false c d e = refl
three false b c d e = refl

all_true : (a b c d e : Bool) → a ≡ true → b ≡ true → c ≡ true → d ≡ true → e ≡ true → a && (b && (c && (d && e))) ≡ true
all_true a b c d e p q r t u = cc

pub all_six : (a b c d e f : Bool) → a ≡ true → b ≡ true → c ≡ false → d ≡ false → e ≡ true → f ≡ true → (a && (b && (not c && not d))) && (e && f) ≡ true
all_six a b c d e f p q r t u v = cc

pub one : (a b : Bool) → a ≡ false → a && b ≡ false
one true b e = absurd cc
one false b e = refl

module _ (s : WatchState) (forest : IsForest s.forest) (calm : IsCalm s) where
  abbrev es : List Entry
  es = (believed_forest s).entries

  abbrev fs : List Entry
  fs = plan_view s.forest s.tracks s.clocks

  abbrev now : ℕ
  now = second s

  first : ParentsFirst es
  first = parents_first (believed_forest s) (believed_is_forest s forest)

  view_count : length fs ≡ length s.forest.entries
  view_count = written_count (planned_at s) (length s.forest.entries)

  view_at : (i : ℕ) → i < length s.forest.entries → entry_at fs i ≡ planned_at s i
  view_at i within = written_at (planned_at s) (length s.forest.entries) i within

  same : AreSameNeeds es fs
  unfolding believed_forest
  same = written_same (terms s) (planned_at s) (length s.forest.entries) first (λ i h. planned_same s i)

  carried_view : (i : ℕ) → carried fs now i ≡ planned_need s i
  carried_view i = same_carried es fs same now i ∙ carried_believed s forest i

  -- the ends for the Asks
  end_taken : (i : ℕ) → i < length s.forest.entries → is_wanted s i ≡ true → end_of fs i ≡ ends s i
  unfolding end_of
  end_taken i within wanted = ap (λ (e : Entry). e.end) (view_at i within) ∙ (wanted_taken s forest calm i within wanted).end

  -- an entry that is not wanted lasts, for the Asks too
  lasts : (i : ℕ) → is_wanted s i ≡ false → (planned_need s i ≤ ends s i) × (planned_need s i ≤ end_of fs i)
  unfolding end_of
  lasts i not_wanted =
      let own : planned_need s i ≤ ends s i = elim (cases_lt (ends s i) (planned_need s i)) [
        | inl short ↦ absurd (let led = short_led s forest calm.keepable i short in let w = led.wanted in cc)
        | inr so ↦ so
      ] in (
        own,
        elim (cases_lt i (length s.forest.entries)) as (λ _. planned_need s i ≤ (entry_at fs i).end) [
          | inl within ↦ (let is = ap (λ (e : Entry). e.end) (view_at i within) ∙ unwanted_end s i not_wanted in omega arith)
          | inr past ↦ elim (cases_lt 0 (planned_need s i)) as (λ _. planned_need s i ≤ (entry_at fs i).end) [
            | inl some ↦ absurd (let c = carried_believed s forest i in let b = believed_count s in let inside = carried_within es first now i (omega arith) in omega arith)
            | inr none ↦ omega arith
          ]
        ],
      )

  -- the bounds after a wake-up
  bound_taken : (t i : ℕ) → i < length s.forest.entries → is_wanted s i ≡ true → bound fs (end_of fs) (Some t) i ≡ bound es (ends s) (Some t) i
  unfolding bound latest_end renewal
  bound_taken t i within wanted =
      let taken = wanted_taken s forest calm i within wanted in
      let f = view_at i within in
      let e = believed_at s i within in
      let end = end_taken i within wanted in
      let r : (entry_at fs i).renewable ≡ (entry_at es i).renewable = ap (λ (x : Entry). x.renewable) f ∙ taken.renewable ∙ sym (ap (λ (x : Entry). x.renewable) e) in
      let c : (entry_at fs i).ceiling ≡ (entry_at es i).ceiling = ap (λ (x : Entry). x.ceiling) f ∙ taken.ceiling ∙ sym (ap (λ (x : Entry). x.ceiling) e) in
      let l : (entry_at fs i).step ≡ (entry_at es i).step = ap (λ (x : Entry). x.step) f ∙ taken.step ∙ sym (ap (λ (x : Entry). x.step) e) in
      ap (λ b. cond b (max (end_of fs i) (capped (entry_at fs i).ceiling (t + (entry_at fs i).step))) (end_of fs i)) r
      ∙ ap (λ n. cond (entry_at es i).renewable (max n (capped (entry_at fs i).ceiling (t + (entry_at fs i).step))) n) end
      ∙ ap₂ (λ o n. cond (entry_at es i).renewable (max (ends s i) (capped o (t + n))) (ends s i)) c l

  -- whoever falls short is wanted
  short_is : (t i : ℕ) → bound es (ends s) (Some t) i < carried es now i → (i < length s.forest.entries) × (is_wanted s i ≡ true)
  short_is t i short =
      let c = carried_believed s forest i in
      let low = end_below_bound es (ends s) (Some t) i in
      let led = short_led s forest calm.keepable i (omega arith) in
      (led.within, led.wanted)

  short_view : (t i : ℕ) → bound fs (end_of fs) (Some t) i < carried fs now i → (i < length s.forest.entries) × (is_wanted s i ≡ true)
  short_view t i short =
      let c = carried_view i in
      let low = end_below_bound fs (end_of fs) (Some t) i in
      elim (cases_Bool (is_wanted s i)) as (λ _. (i < length s.forest.entries) × (is_wanted s i ≡ true)) [
        | inl wanted ↦ (let led = short_led s forest calm.keepable i (wanted_short s i wanted (calm.untopped i wanted)) in (led.within, wanted))
        | inr not_wanted ↦ absurd (let l = (lasts i not_wanted).1 in omega arith)
      ]

  next_taken : (margin t u : ℕ) → IsNextMoment fs margin now (end_of fs) (Some t) u → IsNextMoment es margin now (ends s) (Some t) u
  next_taken margin t u next =
      let e = next.entry in
      let h = next.short in
      let there = short_view t e h in
      let b = bound_taken t e there.0 there.1 in
      let c = same_carried es fs same now e in
      record {
        entry = e;
        short = omega arith;
        earliest = λ i short.
            let here = short_is t i short in
            let bi = bound_taken t i here.0 here.1 in
            let ci = same_carried es fs same now i in
            let l = next.earliest i (omega arith) in
            omega arith;
        moment = next.moment ∙ ap (λ n. n - margin) b;
      }

  next_once : (margin t u v : ℕ) → IsNextMoment es margin now (ends s) (Some t) u → IsNextMoment es margin now (ends s) (Some t) v → u ≡ v
  next_once margin t u v x y =
      let a = x.earliest y.entry y.short in
      let b = y.earliest x.entry x.short in
      let m = x.moment in
      let n = y.moment in
      omega arith

  none_short : (t u margin : ℕ) → IsNextMoment es margin now (ends s) (Some t) u → ((i : ℕ) → carried fs now i ≤ bound fs (end_of fs) (Some t) i) → ⊥
  none_short t u margin next none =
      let e = next.entry in
      let h = next.short in
      let there = short_is t e h in
      let b = bound_taken t e there.0 there.1 in
      let c = same_carried es fs same now e in
      let l = none e in
      omega arith

  -- the second moment
  second_is : (margin : ℕ) (next : Option ℕ) → IsSecond fs margin now next → (us : List ℕ) → IsSchedule es margin now (ends s) (Some now) us → next ≡ first_of us
  second_is margin None none [] schedule = refl
  second_is margin None none (u ∷ us) schedule = absurd (none_short now u margin schedule.0 none)
  second_is margin (Some v) next [] schedule = absurd (let there = next_taken margin now v next in let h = there.short in let l = schedule there.entry in omega arith)
  second_is margin (Some v) next (u ∷ us) schedule = ap (λ n. Some n) (next_once margin now v u (next_taken margin now v next) schedule.0)

  -- all that are over one that is wanted last until a margin from now
  room_over : (i a : ℕ) → is_wanted s i ≡ true → Over es a i → (now + s.forest.margin ≤ ends s a) × (now + s.forest.margin ≤ end_of fs a)
  room_over i a wanted over =
      let short = wanted_short s i wanted (calm.untopped i wanted) in
      let led = short_led s forest calm.keepable i short in
      let r = led.room in
      let up = carried_up es first now a i over in
      let ca = carried_believed s forest a in
      let ci = carried_believed s forest i in
      elim (cases_Bool (is_wanted s a)) as (λ _. (now + s.forest.margin ≤ ends s a) × (now + s.forest.margin ≤ end_of fs a)) [
        | inl wanted' ↦
            let led' = short_led s forest calm.keepable a (wanted_short s a wanted' (calm.untopped a wanted')) in
            let r' = led'.room in
            let e = end_taken a led'.within wanted' in
            (r', omega arith)
        | inr not_wanted ↦ (let l = lasts a not_wanted in let l0 = l.0 in let l1 = l.1 in (omega arith, omega arith))
      ]

  over_view : (a i : ℕ) → is_over fs a i ≡ is_over es a i
  unfolding is_over
  over_view a i = ap (list_any (λ b. b == a)) (same_chain es fs same i)

  all_from : (xs : List Entry) (e : ℕ → ℕ) (m i : ℕ) → ((a : ℕ) → Over xs a i → m ≤ e a) → all_last xs e m i ≡ true
  all_from xs e m i each =
      elim (cases_Bool (all_last xs e m i)) as (λ _. all_last xs e m i ≡ true) [
        | inl so ↦ so
        | inr not_so ↦ absurd (let a = short_over xs e m i not_so in let l = each a.0 a.1 in let k = a.2 in omega arith)
      ]

  pub lasting : (m i : ℕ) → m ≤ now + s.forest.margin → is_wanted s i ≡ true → (all_last fs (end_of fs) m i ≡ true) × (all_last es (ends s) m i ≡ true)
  lasting m i low wanted = (
    all_from fs (end_of fs) m i (λ a over. let r = (room_over i a wanted (sym (over_view a i) ∙ over)).1 in omega arith),
    all_from es (ends s) m i (λ a over. let r = (room_over i a wanted over).0 in omega arith),
  )

  pub granted_is : (xs : List Entry) (e : ℕ → ℕ) (i : ℕ) → (entry_at xs i).renewable ≡ true → all_last xs e (now + s.forest.margin) i ≡ true → renewed xs s.forest.margin e now i ≡ renewal (entry_at xs i) now
  unfolding renewed is_granted
  granted_is xs e i renewable all =
      cond-true ((entry_at xs i).renewable && all_last xs e (now + s.forest.margin) i) (renewal (entry_at xs i) now) (e i) (ap (λ b. b && all_last xs e (now + s.forest.margin) i) renewable ∙ all)

  asked_wanted : (next : Option ℕ) (i : ℕ) → i < length s.forest.entries → is_wanted s i ≡ true → is_asked_now fs s.forest.margin now (end_of fs) now next i ≡ is_asked_now es s.forest.margin now (ends s) now next i
  unfolding is_asked_now renewal terms
  asked_wanted next i within wanted =
      let margin = s.forest.margin in
      let above = forest.margin_above in
      let led = short_led s forest calm.keepable i (wanted_short s i wanted (calm.untopped i wanted)) in
      let taken = wanted_taken s forest calm i within wanted in
      let f = view_at i within in
      let e = believed_at s i within in
      let end = end_taken i within wanted in
      let r : (entry_at es i).renewable ≡ true = ap (λ (x : Entry). x.renewable) e ∙ led.led in
      let q : (entry_at fs i).renewable ≡ true = ap (λ (x : Entry). x.renewable) f ∙ taken.renewable ∙ led.led in
      let c : (entry_at fs i).ceiling ≡ (entry_at es i).ceiling = ap (λ (x : Entry). x.ceiling) f ∙ taken.ceiling ∙ sym (ap (λ (x : Entry). x.ceiling) e) in
      let l : (entry_at fs i).step ≡ (entry_at es i).step = ap (λ (x : Entry). x.step) f ∙ taken.step ∙ sym (ap (λ (x : Entry). x.step) e) in
      let alive = lasting (now + 1) i (omega arith) wanted in
      let all = lasting (now + margin) i (omega arith) wanted in
      let new : renewed fs margin (end_of fs) now i ≡ renewed es margin (ends s) now i =
      granted_is fs (end_of fs) i q all.0 ∙ ap₂ (λ o n. capped o (now + n)) c l ∙ sym (granted_is es (ends s) i r all.1) in
      let carries = same_carried es fs same now i in
      let A = alive.0 in
      let B = alive.1 in
      cc

  asked_same : (next : Option ℕ) (i : ℕ) → is_asked_now fs s.forest.margin now (end_of fs) now next i ≡ is_asked_now es s.forest.margin now (ends s) now next i
  unfolding is_asked_now
  asked_same next i =
      let margin = s.forest.margin in
      let count = view_count in
      let count' = believed_count s in
      elim (cases_lt i (length s.forest.entries)) as (λ _. is_asked_now fs margin now (end_of fs) now next i ≡ is_asked_now es margin now (ends s) now next i) [
        | inr past ↦
            one (entry_at fs i).renewable _ (ap (λ (x : Entry). x.renewable) (entry_at_past fs i (omega arith)))
            ∙ sym (one (entry_at es i).renewable _ (ap (λ (x : Entry). x.renewable) (entry_at_past es i (omega arith))))
        | inl within ↦ elim (cases_Bool (is_wanted s i)) as (λ _. is_asked_now fs margin now (end_of fs) now next i ≡ is_asked_now es margin now (ends s) now next i) [
          | inl wanted ↦ asked_wanted next i within wanted
          | inr not_wanted ↦
              let l = lasts i not_wanted in
              let l0 = l.0 in
              let l1 = l.1 in
              let c = carried_view i in
              let d = carried_believed s forest i in
              let no_view : nat_lt (end_of fs i) (carried fs now i) ≡ false = grind (arith, nat_tests) in
              let no_own : nat_lt (ends s i) (carried es now i) ≡ false = grind (arith, nat_tests) in
              three (entry_at fs i).renewable (all_last fs (end_of fs) (now + 1) i) _ _ no_view
              ∙ sym (three (entry_at es i).renewable (all_last es (ends s) (now + 1) i) _ _ no_own)
        ]
      ]

  -- the Asks
  asks_same : (next : Option ℕ) → asks fs s.forest.margin now (end_of fs) now next ≡ asks_now s next
  unfolding asks
  asks_same next =
      ap (λ n. filter (is_asked_now fs s.forest.margin now (end_of fs) now next) (range_with_len 0 n)) (view_count ∙ sym (believed_count s))
      ∙ ap (λ p. filter p (range_with_len 0 (length es))) (fun_ext (asked_same next))

  -- whose time has come, it is now
  pub come_now : (i : ℕ) → i < length s.forest.entries → is_wanted s i ≡ true → now ≤ time_of s i
  come_now i within wanted =
      let led = short_led s forest calm.keepable i (wanted_short s i wanted (calm.untopped i wanted)) in
      let at = time_is s i led (calm.in_plan i within wanted) in
      let r = led.room in
      omega arith

  pub opened_now : (i : ℕ) → i < length s.forest.entries → opens_at s i ≡ true → (is_wanted s i ≡ true) × (time_of s i ≤ now)
  unfolding opens is_fresh has_come
  opened_now i within opens' =
      let x = track_at s i in
      let rest = in_plan_at s i && is_alive now x in
      let free = not (is_pressed x) && not x.out in
      let fresh = and_left (is_wanted s i && (come_at s i && free)) rest opens' in
      let come : nat_le (time_of s i) now ≡ true = and_left (come_at s i) free (and_right (is_wanted s i) (come_at s i && free) fresh) in
      (and_left (is_wanted s i) (come_at s i && free) fresh, grind (arith, nat_tests))

  pub opens_now : (i : ℕ) → i < length s.forest.entries → is_wanted s i ≡ true → time_of s i ≤ now → opens_at s i ≡ true
  unfolding opens is_fresh has_come ends
  opens_now i within wanted come =
      let x = track_at s i in
      let led = short_led s forest calm.keepable i (wanted_short s i wanted (calm.untopped i wanted)) in
      let r = led.room in
      let above = forest.margin_above in
      let now' : nat_le (time_of s i) now ≡ true = grind (arith, nat_tests) in
      let alive : nat_lt now (believed x.end) ≡ true = (let l : now < believed x.end = omega arith in grind (arith, nat_tests)) in
      all_six (is_wanted s i) (come_at s i) (is_pressed x) x.out (in_plan_at s i) (is_alive now x) wanted now' (calm.unpressed i within) (calm.unasked i within) (calm.in_plan i within wanted) alive

  later_due : (next : Option ℕ) → ((u : ℕ) → next ≡ Some u → now < u) → is_end_due s.forest.margin next (now + s.forest.margin) ≡ true
  later_due None later = refl
  later_due (Some u) later = let l : now < u = later u refl in grind (arith, nat_tests)

  gains_over : (ceiling : Option ℕ) (step need : ℕ) → s.forest.margin < step → now + s.forest.margin < need → ((c : ℕ) → ceiling ≡ Some c → need ≤ c) → now + s.forest.margin < capped ceiling (now + step)
  unfolding capped
  gains_over None step need more short high = omega arith
  gains_over (Some c) step need more short high = let l : need ≤ c = high c refl in omega arith

  -- whose time has come is among the Asks
  pub come_asked : (next : Option ℕ) → ((u : ℕ) → next ≡ Some u → now < u) → (i : ℕ) → i < length s.forest.entries → is_wanted s i ≡ true → time_of s i ≤ now → is_asked_now es s.forest.margin now (ends s) now next i ≡ true
  unfolding is_asked_now renewal terms
  come_asked next later i within wanted come =
      let margin = s.forest.margin in
      let above = forest.margin_above in
      let short = wanted_short s i wanted (calm.untopped i wanted) in
      let led = short_led s forest calm.keepable i short in
      let room = led.room in
      let at = time_is s i led (calm.in_plan i within wanted) in
      let end : ends s i ≡ now + margin = omega arith in
      let e = believed_at s i within in
      let r : (entry_at es i).renewable ≡ true = ap (λ (x : Entry). x.renewable) e ∙ led.led in
      let alive = (lasting (now + 1) i (omega arith) wanted).1 in
      let all = (lasting (now + margin) i (omega arith) wanted).1 in
      let new = granted_is es (ends s) i r all in
      let carries = carried_believed s forest i in
      let placed = (believed_is_forest s forest).placed i (let c = believed_count s in omega arith) in
      let m = believed_margin s in
      let above_margin = placed.step_past_margin in
      let step : margin < (entry_at es i).step = omega arith in
      let high : (c : ℕ) → (entry_at es i).ceiling ≡ Some c → planned_need s i ≤ c = λ c is. led.more c (sym (ap (λ (x : Entry). x.ceiling) e) ∙ is) in
      let gain = gains_over (entry_at es i).ceiling (entry_at es i).step (planned_need s i) step (omega arith) high in
      let A : nat_lt (ends s i) (carried es now i) ≡ true = (let l : ends s i < carried es now i = omega arith in grind (arith, nat_tests)) in
      let B : nat_lt (ends s i) (renewed es margin (ends s) now i) ≡ true = (let l : ends s i < renewed es margin (ends s) now i = omega arith in grind (arith, nat_tests)) in
      let C : is_end_due margin next (ends s i) ≡ true = ap (is_end_due margin next) end ∙ later_due next later in
      all_true (entry_at es i).renewable (all_last es (ends s) (now + 1) i) _ _ _ r alive A B C

  pub of_plan : (round : Option (List ℕ)) → IsRound s.forest s.tracks s.clocks round → IsOfPlan s round
  of_plan (Some asked) round =
      let some = there_is_plan s forest calm.keepable calm.in_plan calm.untopped in
      let opener = some_opens s round.0 in
      let who = opened_now opener.0 (let w = opener.1.0 in omega arith) opener.1.1 in
      by_plan some.0 some.1 opener.0 (let w = opener.1.0 in omega arith) who.0 who.1 where
        by_plan : (ts : List ℕ) → IsScheduled s ts → (i : ℕ) → i < length s.forest.entries → is_wanted s i ≡ true → time_of s i ≤ now → IsOfPlan s (Some asked)
        by_plan [] plan i within wanted come = absurd (let none = plan.least i within in cc)
        by_plan (t ∷ us) plan i within wanted come =
            let least = plan.least in
            let e = least.0.0 in
            let from = come_now e least.0.1.0 least.0.1.1.0 in
            let is = least.0.1.1.1 in
            let low = least.1 i within wanted in
            let here : t ≡ now = omega arith in
            let behind : IsSchedule es (believed_forest s).margin now (ends s) (Some now) us = subst (λ n. IsSchedule es (believed_forest s).margin now (ends s) (Some n) us) here plan.schedule.1 in
            let next = round.1.0 in
            let same_next : next ≡ first_of us = second_is s.forest.margin next round.1.1.0 us (subst (λ m. IsSchedule es m now (ends s) (Some now) us) (believed_margin s) behind) in
            (us, (subst (λ n. IsPlanNow s (n ∷ us)) here plan.best, round.1.1.1 ∙ asks_same next ∙ ap (asks_now s) same_next))
  of_plan None round =
      let some = there_is_plan s forest calm.keepable calm.in_plan calm.untopped in
      (some.0, (some.1.best, λ t is. later some.0 some.1 t is)) where
        later : (ts : List ℕ) → IsScheduled s ts → (t : ℕ) → first_of ts ≡ Some t → now < t
        later [] plan t is = absurd cc
        later (u ∷ us) plan t is =
            let same' : u ≡ t = cc in
            let least = plan.least in
            let e = least.0.0 in
            let from = come_now e least.0.1.0 least.0.1.1.0 in
            let at = least.0.1.1.1 in
            elim (cases_lt now t) as (λ _. now < t) [
              | inl so ↦ so
              | inr come ↦ absurd (none_opens s round e least.0.1.0 (opens_now e least.0.1.0 least.0.1.1.0 (omega arith)))
            ]

clock_of_plan : (old new : WatchState) (wall elapsed : ℕ) (output : WatchOutput) → IsForest old.forest → StepClock old wall elapsed output new → IsCalm (readied old wall elapsed) → IsOfPlan (readied old wall elapsed) output.notes.round
clock_of_plan old new wall elapsed output forest step calm =
    let r = readied old wall elapsed in
    subst (IsOfPlan r) (sym (ap (λ (x : Notes). x.round) step.notes)) (of_plan r (subst IsForest (sym (readied_forest old wall elapsed)) forest) calm step.round step.is_round)

turn_of_plan : (old : WatchState) (turn : Turned) → IsForest old.forest → Turn old turn.event turn.result turn.state → RoundsRight old turn
turn_of_plan old turn forest h wall elapsed output event result calm =
    let at_clock : Turn old (Clock wall elapsed) turn.result turn.state = subst (λ (e : WatchEvent). Turn old e turn.result turn.state) event h in
    let taken : Turn old (Clock wall elapsed) (Ok output) turn.state = subst (λ x. Turn old (Clock wall elapsed) x turn.state) result at_clock in
    clock_of_plan old turn.state wall elapsed output forest taken.1 calm

ran : (turns : List Turned) (old : WatchState) → History old turns → IsForest old.forest → AllRight old turns
ran [] old h forest = tt
ran (turn ∷ turns) old h forest = (turn_of_plan old turn forest h.0, ran turns turn.state h.1 (turned_forest old turn.state turn.event turn.result h.0 forest))

pub rounds_of_plan : RoundOfPlanLaw
rounds_of_plan old turns reached forest h = ran turns old h (reached_forest old reached forest)
