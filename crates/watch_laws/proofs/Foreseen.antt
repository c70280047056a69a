-- Foreseen: the least time of the entries that are wanted is the first moment of the least and latest plan. For the law of the next
-- moment.
use Rattle.std.proofs.Common.{◌≡◌, ◌∙◌, ℕ, ◌+◌, ◌-◌, ◌<◌, ◌≤◌, Bool, true, false, not, ◌&&◌, ◌||◌, List, [], ◌∷◌, Some, None, length, nat_lt, refl, sym, ap, arith, inl, inr}
use Rattle.std.proofs.lemmas.{Bool.cases_Bool, Bool.Decides.nat_tests}
use Rattle.base_moment.specs.declared.moment.TheConstants.{LAST}
use Rattle.plan_forest.specs.{declared.entry.Entry.Entry, Carried.carried, Push.IsForest}
use Rattle.plan_forest.proofs.Carrying.{and_right, carried_is_of}
use Rattle.plan_rule.specs.{Asks.first_of, Forced.bound, Forced.latest_end, Schedule.IsNextMoment, Schedule.IsSchedule, Unkeepable.AllKeepable}
use Rattle.plan_rule.proofs.{Existence.there_is_one, Lists.need_within, Schedule.schedule_is_best}
use Rattle.plan_rule.proofs.Next.{CanBeLed, can_be_led, renewable_within}
use Rattle.watch_machine.specs.{declared.track.End.End, History.History, History.Turned, Outlook.time_of}
use Rattle.watch_machine.specs.declared.track.End.TheVariants.{Unknown, At, Never}
use Rattle.watch_machine.specs.Margins.{asking_margin, is_in_plan, own_margin, time, time_before}
use Rattle.watch_machine.specs.State.{WatchState, entry_of, second, track_at}
use Rattle.watch_machine.specs.Wanted.{believed, is_never, is_unknown, is_wanted, wanted_need, wants}
use Rattle.watch_laws.specs.Calm.{AllForeseen, AllInPlan, IsForeseen, IsKeepable, IsLeastTime, IsPlanNow, NextMomentLaw, NobodyTriesLast, believed_forest, ends, in_plan_at, planned_need, terms}
use Rattle.watch_laws.proofs.{Forested.reached_forest, Forested.turned_forest, Trying.asking_own, Trying.need_cut}
use Rattle.watch_laws.proofs.Believed.{believed_at, believed_count, believed_is_forest, believed_margin, carried_believed}

-- the need that counts for an entry which is not at its top is that of the plan
pub need_planned : (s : WatchState) (i : ℕ) → (track_at s i).top ≡ false → wanted_need s i ≡ planned_need s i
need_planned s i led = need_cut s.forest.entries s.tracks s.clocks i led

-- an entry that is wanted, and not at its top, ends before it is needed no more
pub wanted_short : (s : WatchState) (i : ℕ) → is_wanted s i ≡ true → (track_at s i).top ≡ false → ends s i < planned_need s i
unfolding wants ends
wanted_short s i wanted led =
    let x = track_at s i in
    let same = need_planned s i led in
    let short = nat_lt (believed x.end) (wanted_need s i) in
    let more = not x.top || x.last_try in
    let low : short ≡ true = and_right (not (is_never x.end)) short (and_right more (not (is_never x.end) && short) (and_right (x.renewable || is_unknown x.end) (more && (not (is_never x.end) && short)) wanted)) in
    let before : believed x.end < wanted_need s i = grind (arith, nat_tests, low) in
    omega (arith, before, same)

pub led_parts : (renewable top : Bool) → renewable && not top ≡ true → (renewable ≡ true) × (top ≡ false)
led_parts true false h = (refl, refl)
led_parts true true h = absurd cc
led_parts false top h = absurd cc

pub never_ends : (e : End) → believed e ≤ LAST → is_never e ≡ false
never_ends Never low = absurd (omega arith)
never_ends _ low = refl

known_end : (e : End) → is_never e ≡ false → 0 < believed e → e ≡ At (believed e)
known_end Unknown h some = absurd (omega arith)
known_end (At end) h some = refl
known_end Never h some = absurd cc

all_wanted :
    (renewable unknown top last endless short : Bool) → renewable && not top ≡ true → endless ≡ false → short ≡ true → (renewable || unknown) && ((not top || last) && (not endless && short)) ≡ true
all_wanted true unknown false last false true r e s = refl
all_wanted true unknown false last false false r e s = absurd cc
all_wanted true unknown false last true short r e s = absurd cc
all_wanted true unknown true last endless short r e s = absurd cc
all_wanted false unknown top last endless short r e s = absurd cc

-- what is known of an entry that has to be led further, where no pair is Unkeepable
pub record IsLed (s : WatchState) (i : ℕ) : Type 0 where
  pub within : i < length s.forest.entries
  pub wanted : is_wanted s i ≡ true
  pub room : second s + s.forest.margin ≤ ends s i
  pub endless : is_never (track_at s i).end ≡ false
  pub led : (track_at s i).renewable && not (track_at s i).top ≡ true
  pub known : (track_at s i).end ≡ At (ends s i)
  pub more : (c : ℕ) → (terms s i).ceiling ≡ Some c → planned_need s i ≤ c

pub led_by : (s : WatchState) → IsForest s.forest → (e : ℕ → ℕ) → AllKeepable (believed_forest s) (second s) e → (i : ℕ) → e i ≡ ends s i → ends s i < planned_need s i → IsLed s i
unfolding wants ends terms
led_by s forest e keepable i own short =
    let g = believed_forest s in
    let x = track_at s i in
    let forest' = believed_is_forest s forest in
    let carries = carried_believed s forest i in
    let past : e i < carried g.entries (second s) i = omega arith in
    let led : CanBeLed g (second s) e i = can_be_led g (second s) e keepable i past in
    let count = believed_count s in
    let inside = renewable_within g.entries i led.renewable in
    let within : i < length s.forest.entries = omega arith in
    let is = believed_at s i within in
    let m = believed_margin s in
    let above = forest.margin_above in
    let r = led.room in
    let room : second s + s.forest.margin ≤ ends s i = omega arith in
    let needed = carried_is_of g.entries (second s) i (e i) past in
    let low = need_within g forest' needed.0 in
    let end_low : believed x.end ≤ LAST = (let l = needed.3 in omega arith) in
    let endless = never_ends x.end end_low in
    let renewable : x.renewable && not x.top ≡ true = sym (ap (λ (e : Entry). e.renewable) is) ∙ led.renewable in
    let same = need_planned s i (led_parts x.renewable x.top renewable).1 in
    let before : believed x.end < wanted_need s i = omega arith in
    let after : nat_lt (believed x.end) (wanted_need s i) ≡ true = grind (arith, nat_tests, before) in
    record {
      within = within;
      wanted = all_wanted x.renewable (is_unknown x.end) x.top x.last_try (is_never x.end) (nat_lt (believed x.end) (wanted_need s i)) renewable endless after;
      room = room;
      endless = endless;
      led = renewable;
      known = known_end x.end endless (omega arith);
      more = λ c e. (let l = led.ceiling c (ap (λ (y : Entry). y.ceiling) is ∙ e) in omega arith);
    }

pub short_led : (s : WatchState) → IsForest s.forest → IsKeepable s → (i : ℕ) → ends s i < planned_need s i → IsLed s i
short_led s forest keepable i short = led_by s forest (ends s) keepable i refl short

-- its time comes a margin before its end
pub time_is : (s : WatchState) (i : ℕ) → IsLed s i → in_plan_at s i ≡ true → time_of s i ≡ ends s i - s.forest.margin
unfolding time is_in_plan
time_is s i led planned =
    let x = track_at s i in
    let mine = own_margin s.forest.margin (entry_of s i) x in
    let own : mine ≡ s.forest.margin = grind (arith, nat_tests) in
    let asking = asking_own s.forest.margin (entry_of s i) x (led_parts x.renewable x.top led.led).1 in
    ap (λ o. time_before o (asking_margin s.forest.margin (entry_of s i) x)) led.known ∙ ap (λ m. ends s i - m) (asking ∙ own)

bound_none : (es : List Entry) (e : ℕ → ℕ) (i : ℕ) → bound es e None i ≡ e i
unfolding bound latest_end
bound_none es e i = refl

least_time : (s : WatchState) → IsForest s.forest → IsKeepable s → AllInPlan s → NobodyTriesLast s → (ts : List ℕ) → IsSchedule (believed_forest s).entries (believed_forest s).margin (second s) (ends s) None ts → IsLeastTime s (first_of ts)
least_time s forest keepable in_plan untopped [] schedule = λ i within.
    elim (cases_Bool (is_wanted s i)) as (λ _. is_wanted s i ≡ false) [
      | inr no' ↦ no'
      | inl wanted ↦ absurd (
          let short = wanted_short s i wanted (untopped i wanted) in
          let b = bound_none (believed_forest s).entries (ends s) i in
          let c = carried_believed s forest i in
          let l = schedule i in
          omega arith)
    ]
least_time s forest keepable in_plan untopped (t ∷ ts) schedule =
    let es = (believed_forest s).entries in
    let next : IsNextMoment es (believed_forest s).margin (second s) (ends s) None t = schedule.0 in
    let e = next.entry in
    let b = bound_none es (ends s) e in
    let c = carried_believed s forest e in
    let h = next.short in
    let led = short_led s forest keepable e (omega arith) in
    let at = time_is s e led (in_plan e led.within led.wanted) in
    let m = believed_margin s in
    let is = next.moment in (
      (e, (led.within, (led.wanted, omega arith))),
      λ i within wanted.
          let short = wanted_short s i wanted (untopped i wanted) in
          let bi = bound_none es (ends s) i in
          let ci = carried_believed s forest i in
          let early = next.earliest i (omega arith) in
          let led' = short_led s forest keepable i short in
          let there = time_is s i led' (in_plan i within wanted) in
          omega arith,
    )

-- the plan with its schedule
pub record IsScheduled (s : WatchState) (ts : List ℕ) : Type 0 where
  pub schedule : IsSchedule (believed_forest s).entries (believed_forest s).margin (second s) (ends s) None ts
  pub best : IsPlanNow s ts
  pub least : IsLeastTime s (first_of ts)

pub there_is_plan : (s : WatchState) → IsForest s.forest → IsKeepable s → AllInPlan s → NobodyTriesLast s → (ts : List ℕ) × IsScheduled s ts
unfolding believed_forest
there_is_plan s forest keepable in_plan untopped =
    let g = believed_forest s in
    let forest' = believed_is_forest s forest in
    let some = there_is_one g (second s) (ends s) forest' keepable in
    let all = schedule_is_best g (second s) (ends s) forest' keepable some.0 some.1 in
    (some.0, record { schedule = some.1; best = all.1.1.1; least = least_time s forest keepable in_plan untopped some.0 some.1 })

pub foreseen : (s : WatchState) → IsForest s.forest → IsForeseen s
foreseen s forest keepable in_plan untopped =
    let some = there_is_plan s forest keepable in_plan untopped in
    (some.0, (some.1.best, some.1.least))

ran : (turns : List Turned) (old : WatchState) → History old turns → IsForest old.forest → AllForeseen turns
ran [] old h forest = tt
ran (turn ∷ turns) old h forest =
    let there = turned_forest old turn.state turn.event turn.result h.0 forest in
    (foreseen turn.state there, ran turns turn.state h.1 there)

pub next_moments : NextMomentLaw
next_moments old turns reached forest h = ran turns old h (reached_forest old reached forest)
