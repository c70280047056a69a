-- OnPlan: what a watch holds that goes by its plan, and what a clock leaves of it. For the law of calm.
use Rattle.std.proofs.Common.{◌≡◌, ◌⊎◌, ◌∙◌, ℕ, ◌+◌, ◌-◌, ◌<◌, ◌≤◌, Bool, true, false, ◌||◌, ◌==◌, if◌then◌else◌, List, [], ◌∷◌, Option, Some, None, IfSome, get_or, is_none, length, map, refl, sym, ap, ap₂, subst, arith, inl, inr}
use Rattle.std.proofs.lemmas.{List.get_or_past, List.Folds.list_any-append}
use Rattle.std.proofs.lemmas.Bool.{cases_Bool, cases_lt, cond-false, cond-true, eqb-true, or_left, or_right}
use Rattle.std.proofs.lemmas.List.Elements.{All-cons, All-head, All-map, All-nil, All-tail}
use Rattle.std.specs.List.{All, list_any}
use Rattle.plan_forest.specs.{declared.entry.Entry.Entry, Carried.carried, Forest.Forest, Forest.entry_at, Push.IsForest, Renewal.renewal}
use Rattle.plan_forest.proofs.Carrying.{or_parts}
use Rattle.plan_rule.specs.{declared.wake.Wake.Wake, Asks.first_of, Asks.with_asks, Ends.is_asked, Least.IsLeastAndLatest, Schedule.IsSchedule, Schedule.RisesStrictly, Unkeepable.AllKeepable}
use Rattle.plan_rule.proofs.{Existence.there_is_one, Keeping.one_least, Keeping.unkeepable, Schedule.schedule_is_best}
use Rattle.watch_machine.specs.{declared.command.WatchRequest.WatchRequest, declared.event.Operation.TheVariants.Renew, declared.lanes.LaneAnswer.LaneAnswer, declared.lanes.Out.Out, declared.lanes.Presence.Presence}
use Rattle.watch_machine.specs.{declared.track.Track.Track, declared.track.Try.Try, Beginning.begun, Clocks.sec, Lines.is_due, Lines.is_due_try, Step.readied}
use Rattle.watch_machine.specs.Press.{asked_track, dropped, is_fresh, press, pressed, pressed_alone, pressed_track, track_asked_in}
use Rattle.watch_machine.specs.Sending.{RequestsAreSent as IsSending, out_at, sent, sent_in, sent_track}
use Rattle.watch_machine.specs.Settling.{held_back, presence_after, settled, settled_track, settled_try, timed}
use Rattle.watch_machine.specs.State.{WatchState, attempt_at, each, entry_of, no_track, second, track_at, track_in}
use Rattle.watch_machine.specs.Wanted.{believed, is_fixed, is_wanted, need_of, wanted_need, wants}
use Rattle.watch_machine.proofs.{Cases.if_both, Cases.value_is, Seeing.each_past, Seeing.each_read, Written.each_length}
use Rattle.watch_laws.specs.Calm.{IsCalmClock, NonePassed, OpensNextWakeUp, believed_forest, ends, ends_left_by, in_plan_at, lead_at, planned_need, terms}
use Rattle.watch_laws.proofs.{Believed.carried_believed, Clocking.clock_rises, Foreseen.need_planned, Foreseen.wanted_short, Opener.bearing, Opener.wants_same, Spacing.free_of, Tracking.each_at, Tracking.each_kept}
use Rattle.watch_laws.proofs.Calming.{AreAlike, IsIdle, IsKept, ends_alike, entry_step, forest_alike, lead_alike, need_kept, plan_alike, terms_alike}
use Rattle.watch_laws.proofs.Going.{asks_by, entry_by, goes as going, operation_of, request_at}

-- ---- plans

-- where there is a least and latest plan, no pair is Unkeepable
pub plan_keepable : (g : Forest) (s : ℕ) (e : ℕ → ℕ) (ts : List ℕ) → IsLeastAndLatest g.entries g.margin s e ts → AllKeepable g s e
plan_keepable g s e ts best entry needed pair = unkeepable g.entries g.margin s e entry needed pair best.plan best.in_order best.kept

-- it is a schedule, and rises
pub plan_schedule : (g : Forest) → IsForest g → (s : ℕ) (e : ℕ → ℕ) (ts : List ℕ) → IsLeastAndLatest g.entries g.margin s e ts → IsSchedule g.entries g.margin s e None ts × RisesStrictly s ts
plan_schedule g forest s e ts best =
    let keepable = plan_keepable g s e ts best in
    let some = there_is_one g s e forest keepable in
    let all = schedule_is_best g s e forest keepable some.0 some.1 in
    let same : some.0 ≡ ts = one_least g.entries g.margin s e some.0 ts all.1.1.1 best in
    (subst (IsSchedule g.entries g.margin s e None) same some.1, subst (RisesStrictly s) same all.0)

rise_from : (low b : ℕ) (ts : List ℕ) → b ≤ low → RisesStrictly low ts → All (λ u. b ≤ u) ts
rise_from low b [] h rises = All-nil (λ u. b ≤ u)
rise_from low b (t ∷ ts) h rises = let l : low ≤ t = rises.0 in All-cons (λ u. b ≤ u) t ts (omega arith) (rise_from (t + 1) b ts (omega arith) rises.1)

pub rise_behind : (low b : ℕ) (ts : List ℕ) → ((u : ℕ) → first_of ts ≡ Some u → b ≤ u) → RisesStrictly low ts → All (λ u. b ≤ u) ts
rise_behind low b [] first rises = All-nil (λ u. b ≤ u)
rise_behind low b (t ∷ ts) first rises = let l : b ≤ t = first t refl in All-cons (λ u. b ≤ u) t ts l (rise_from (t + 1) b ts (omega arith) rises.1)

pub rise_later : (t : ℕ) (ts : List ℕ) → RisesStrictly (t + 1) ts → (u : ℕ) → first_of ts ≡ Some u → t < u
rise_later t [] rises u is = absurd cc
rise_later t (v ∷ ts) rises u is = let l : t + 1 ≤ v = rises.0 in let e : v ≡ u = value_is v u is in omega arith

-- none of its wake-ups is before its start
pub none_passed : (es : List Entry) (margin s0 : ℕ) (e d : ℕ → ℕ) (s : WatchState) (ts : List ℕ) → RisesStrictly (second s) ts → NonePassed s (with_asks es margin s0 d ts)
unfolding with_asks
none_passed es margin s0 e d s [] rises = tt
none_passed es margin s0 e d s (t ∷ ts) rises = rises.0

-- ---- time passes

pub sec_rises : (a b : ℕ) → a ≤ b → sec a ≤ sec b
unfolding sec
sec_rises a b h = omega arith

-- time alone has passed
pub record IsTimed (new old : WatchState) : Type 0 where
  pub forest : new.forest ≡ old.forest
  pub count : length new.tracks ≡ length old.tracks
  pub tracks : (i : ℕ) → track_at new i ≡ track_at old i
  pub broker : new.clocks.broker ≡ old.clocks.broker
  pub wall : new.clocks.wall ≡ old.clocks.wall
  pub later : second old ≤ second new
  pub away : new.presence.away ≡ old.presence.away
  pub out : new.out ≡ old.out

-- as much is believed where no more of the tracks has changed than tries
pub bears_alike : (new old : WatchState) → new.forest ≡ old.forest → new.clocks.broker ≡ old.clocks.broker → new.clocks.wall ≡ old.clocks.wall → ((i : ℕ) → bearing (track_at new i) ≡ bearing (track_at old i)) → AreAlike new old
bears_alike new old forest broker wall bears = record {
  forest = forest;
  broker = broker;
  wall = wall;
  renewable = λ i. ap (λ (x : Track). x.renewable) (bears i);
  top = λ i. ap (λ (x : Track). x.top) (bears i);
  fixed = λ i. ap is_fixed (bears i);
  held = λ i _. ap (λ (x : Track). believed x.end) (bears i);
}

pub timed_alike : (new old : WatchState) → IsTimed new old → AreAlike new old
timed_alike new old h = bears_alike new old h.forest h.broker h.wall (λ i. ap bearing (h.tracks i))

settled_same : (margin at : ℕ) (x : Track) (o : Option Try) → IfSome o (λ t. t.failed ≡ false) → settled_try margin at x o ≡ o
settled_same margin at x None h = refl
settled_same margin at x (Some t) h = cond-false t.failed _ (Some t) h

settled_is : (margin at : ℕ) (x : Track) → IfSome x.attempt (λ t. t.failed ≡ false) → settled_track margin at x ≡ x
unfolding settled_track
settled_is margin at x whole = ap (λ o. record x { attempt = o }) (settled_same margin at x x.attempt whole)

pub presence_away : (margin at : ℕ) (xs : List Track) (answers : List LaneAnswer) (p : Presence) → (presence_after margin at xs answers p).away ≡ p.away
unfolding presence_after held_back
presence_away margin at xs answers p = if_both (λ (q : Presence). q.away ≡ p.away) _ _ p refl refl

pub readied_timed : (s : WatchState) (began wall elapsed : ℕ) → is_none s.begun ≡ false → IsCalmClock s began wall elapsed → ((i : ℕ) → IfSome (attempt_at s i) (λ t. t.failed ≡ false)) → IsTimed (readied s wall elapsed) s
unfolding readied
readied_timed s began wall elapsed begun' clock whole =
    let t = timed s wall elapsed in
    let r = settled t in
    let rises = clock_rises s wall elapsed begun' in
    let is : IsTimed r s = record {
      forest = refl;
      count = each_length (λ i. settled_track t.forest.margin t.clocks.at) t.tracks;
      tracks = λ i. tracks_same t.forest.margin t.clocks.at i;
      broker = clock.broker_stays;
      wall = clock.wall_stays;
      later = sec_rises s.clocks.at t.clocks.at rises;
      away = presence_away t.forest.margin t.clocks.at t.tracks t.answers t.presence;
      out = refl;
    } in
    subst (λ x. IsTimed x s) (sym (ap (begun r) clock.goes_on)) is where
      tracks_same : (margin at i : ℕ) → track_in (each (λ j. settled_track margin at) s.tracks) i ≡ track_at s i
      tracks_same margin at i =
          elim (cases_lt i (length s.tracks)) [
            | inl within ↦ each_read (λ j. settled_track margin at) s.tracks i within ∙ settled_is margin at (track_at s i) (whole i)
            | inr past ↦ each_past (λ j. settled_track margin at) s.tracks i past ∙ sym (get_or_past s.tracks i no_track past)
          ]

-- ---- what a watch holds

-- an entry that is being renewed: by the rule it comes to end as it should
pub record IsTried (s : WatchState) (e : ℕ → ℕ) (last : Wake) (ts : List ℕ) (i : ℕ) : Type 0 where
  pub within : i < length s.forest.entries
  pub try : Try
  pub is : attempt_at s i ≡ Some try
  pub pressed : try.pressed ≡ true
  pub failed : try.failed ≡ false
  pub operation : try.operation ≡ Renew
  pub base : ℕ
  pub base_is : try.base ≡ Some base
  pub base_now : sec base ≡ last.at
  pub asked : is_asked last i ≡ true
  pub now : last.at ≤ second s
  pub gains : e i ≡ renewal (terms s i) last.at
  pub grows : ends s i < e i
  pub ahead : second s < ends s i
  pub wanted : is_wanted s i ≡ true
  pub in_plan : in_plan_at s i ≡ true
  pub led : lead_at s i ≡ (entry_of s i).step
  pub renewable : (track_at s i).renewable ≡ true
  pub top : (track_at s i).top ≡ false
  pub more : (c : ℕ) → (terms s i).ceiling ≡ Some c → planned_need s i ≤ c
  pub owes : (track_at s i).owes ≡ false

pub need_alike : (new old : WatchState) → IsForest new.forest → IsForest old.forest → AreAlike new old → second new ≡ second old → (i : ℕ) → planned_need new i ≡ planned_need old i
need_alike new old forest forest' a now i =
    sym (carried_believed new forest i) ∙ ap₂ (λ (g : Forest) (t : ℕ). carried g.entries t i) (forest_alike new old a) now ∙ carried_believed old forest' i

pub wanted_alike :
    (new old : WatchState) (i : ℕ) → bearing (track_at new i) ≡ bearing (track_at old i) → (track_at old i).top ≡ false → planned_need new i ≡ planned_need old i → is_wanted new i ≡ is_wanted old i
wanted_alike new old i same led need =
    let n = need_planned new i (ap (λ (x : Track). x.top) same ∙ led) in
    wants_same (track_at new i) (track_at old i) (wanted_need new i) same ∙ ap (wants (track_at old i)) (n ∙ need ∙ sym (need_planned old i led))

pub tried_on :
    (new old : WatchState) (e : ℕ → ℕ) (last : Wake) (ts : List ℕ) → IsForest new.forest → IsForest old.forest → AreAlike new old → second old ≤ second new →
    (i : ℕ) → IsKept (track_at new i) (track_at old i) → second new < ends old i → IsTried old e last ts i → IsTried new e last ts i
tried_on new old e last ts forest forest' a later i same alive h =
    let short = wanted_short old i h.wanted h.top in
    let need = need_kept new old forest forest' a later i (omega arith) in
    let l = lead_alike new old a.forest i (ap (λ (x : Track). x.grant) same.bears) in
    let t = terms_alike new old a i in
    let w = h.within in
    let count = ap (λ (g : Forest). length g.entries) a.forest in
    let end = ends_alike new old i same.bears in
    record {
      within = omega arith;
      try = h.try;
      is = same.attempt ∙ h.is;
      pressed = h.pressed;
      failed = h.failed;
      operation = h.operation;
      base = h.base;
      base_is = h.base_is;
      base_now = h.base_now;
      asked = h.asked;
      now = (let k = h.now in omega arith);
      gains = h.gains ∙ sym (ap (λ (x : Entry). renewal x last.at) t);
      grows = (let k = h.grows in omega arith);
      ahead = omega arith;
      wanted = wanted_alike new old i same.bears h.top need ∙ h.wanted;
      in_plan = plan_alike new old a.forest i l ∙ h.in_plan;
      led = l ∙ h.led ∙ sym (entry_step new old a.forest i);
      renewable = ap (λ (x : Track). x.renewable) same.bears ∙ h.renewable;
      top = ap (λ (x : Track). x.top) same.bears ∙ h.top;
      more = λ c is. (let k = h.more c (sym (ap (λ (x : Entry). x.ceiling) t) ∙ is) in omega arith);
      owes = same.owes ∙ h.owes;
    }

-- a watch that goes by its plan: what it believes but for ends is g, it is to end up with the ends e, and from then on the moments to
-- come are ts. Whoever is out is being renewed
pub record Goes (s : WatchState) (g : Forest) (e : ℕ → ℕ) (last : Wake) (ts : List ℕ) : Type 0 where
  pub forest : IsForest s.forest
  pub count : length s.tracks ≡ length s.forest.entries
  pub begun : is_none s.begun ≡ false
  pub there : s.presence.away ≡ false
  pub same : believed_forest s ≡ g
  pub plan : IsLeastAndLatest g.entries g.margin (second s) e ts
  pub each : (i : ℕ) → IsIdle s e i ⊎ IsTried s e last ts i
  pub waits : (i : ℕ) → list_any (λ (r : Out). r.entry == i) s.out ≡ true → attempt_at s i ≡ None → ⊥

-- what goes out are renewals that a wake-up asks, from its second on
abbrev pub IsSent : Wake → WatchState → WatchRequest → Type 0
IsSent now s r = (r.operation ≡ Renew) × ((is_asked now r.entry ≡ true) × (now.at ≤ second s))

-- a turn goes by the wake-ups to come
pub record IsOn (new : WatchState) (g : Forest) (s0 : ℕ) (was : ℕ → ℕ) (last : Wake) (wakes : List Wake) (round : Option (List ℕ)) (requests : List WatchRequest) : Type 0 where
  pub now : Wake
  pub next : List Wake
  pub e : ℕ → ℕ
  pub ts : List ℕ
  pub opens : OpensNextWakeUp new round last wakes now next
  pub sends : All (IsSent now new) requests
  pub goes : Goes new g e now ts
  pub to_come : next ≡ with_asks g.entries g.margin s0 e ts
  pub from : s0 ≤ second new
  pub so : e ≡ ends_left_by g was round now

-- ---- what a clock leaves of the state that it has readied

pub some_not_none : (o : Option Try) (t : Try) → o ≡ Some t → o ≡ None → ⊥
some_not_none o t a b = let c : Some t ≡ None = sym a ∙ b in cc

due_tried : (p : Presence) (at : ℕ) (x : Track) (o : Option Try) → is_due_try p at x o ≡ true → o ≡ None → ⊥
due_tried p at x None h none = absurd cc
due_tried p at x (Some t) h none = absurd cc

-- a track that is pressed, asked by a round, and sent, keeps what it owes
owes_pressed : (margin : ℕ) (e : Entry) (need at : ℕ) (x : Track) → (pressed_track margin e need at x).owes ≡ x.owes
unfolding pressed_track
owes_pressed margin e need at x =
    if_both (λ (y : Track). y.owes ≡ x.owes) (is_fresh margin e x need (sec at)) (record x { attempt = Some (press at x) }) (if wants x need || x.out then x else record x { attempt = dropped x x.attempt }) refl
    (if_both (λ (y : Track). y.owes ≡ x.owes) (wants x need || x.out) x (record x { attempt = dropped x x.attempt }) refl refl)

owes_asked : (at : ℕ) (round : List ℕ) (i : ℕ) (x : Track) → (track_asked_in at round i x).owes ≡ x.owes
unfolding asked_track
owes_asked at round i x =
    if_both (λ (y : Track). y.owes ≡ x.owes) (list_any (λ j. j == i) round) (asked_track at x) x
    (if_both (λ (y : Track). y.owes ≡ x.owes) x.out x (record x { attempt = Some (press at x) }) refl refl) refl

pub out_pressed : (margin : ℕ) (e : Entry) (need at : ℕ) (x : Track) → (pressed_track margin e need at x).out ≡ x.out
unfolding pressed_track
out_pressed margin e need at x =
    if_both (λ (y : Track). y.out ≡ x.out) (is_fresh margin e x need (sec at)) (record x { attempt = Some (press at x) }) (if wants x need || x.out then x else record x { attempt = dropped x x.attempt }) refl
    (if_both (λ (y : Track). y.out ≡ x.out) (wants x need || x.out) x (record x { attempt = dropped x x.attempt }) refl refl)

pub end_pressed : (margin : ℕ) (e : Entry) (need at : ℕ) (x : Track) → (pressed_track margin e need at x).end ≡ x.end
unfolding pressed_track
end_pressed margin e need at x =
    if_both (λ (y : Track). y.end ≡ x.end) (is_fresh margin e x need (sec at)) (record x { attempt = Some (press at x) }) (if wants x need || x.out then x else record x { attempt = dropped x x.attempt }) refl
    (if_both (λ (y : Track). y.end ≡ x.end) (wants x need || x.out) x (record x { attempt = dropped x x.attempt }) refl refl)

out_asked : (at : ℕ) (round : List ℕ) (i : ℕ) (x : Track) → (track_asked_in at round i x).out ≡ x.out
unfolding asked_track
out_asked at round i x =
    if_both (λ (y : Track). y.out ≡ x.out) (list_any (λ j. j == i) round) (asked_track at x) x
    (if_both (λ (y : Track). y.out ≡ x.out) x.out x (record x { attempt = Some (press at x) }) refl refl) refl

module _ (r : WatchState) (round : List ℕ) (requests : List WatchRequest) where
  abbrev pub mid : WatchState
  mid = pressed r round

  abbrev pub new : WatchState
  new = sent mid requests

  abbrev alone : List Track
  alone = pressed_alone r.forest r.clocks r.tracks

  pub owes_kept : (i : ℕ) → (track_at new i).owes ≡ (track_at r i).owes
  owes_kept i =
      let c = r.clocks in
      let g = r.forest in
      let R : Track → Track → Type 0 = λ y x. y.owes ≡ x.owes in
      each_kept R refl (sent_in c.at requests) mid.tracks (λ j x. if_both (λ y. R y x) (list_any (λ (q : WatchRequest). q.entry == j) requests) (sent_track c.at x) x refl refl) i
      ∙ each_kept R refl (track_asked_in c.at round) alone (owes_asked c.at round) i
      ∙ each_kept R refl (λ j. pressed_track g.margin (entry_at g.entries j) (need_of g.entries r.tracks c j) c.at) r.tracks
      (λ j x. owes_pressed g.margin (entry_at g.entries j) (need_of g.entries r.tracks c j) c.at x) i

  -- sending leaves tries
  pub attempt_sent : (i : ℕ) → attempt_at new i ≡ attempt_at mid i
  attempt_sent i =
      each_kept (λ y x. y.attempt ≡ x.attempt) refl (sent_in r.clocks.at requests) mid.tracks
      (λ j x. if_both (λ (y : Track). y.attempt ≡ x.attempt) (list_any (λ (q : WatchRequest). q.entry == j) requests) (sent_track r.clocks.at x) x refl refl) i

  -- the track that is pressed and asked by a round
  pub mid_read : (i : ℕ) → i < length r.tracks → track_at mid i ≡ track_asked_in r.clocks.at round i (pressed_track r.forest.margin (entry_of r i) (wanted_need r i) r.clocks.at (track_at r i))
  mid_read i within =
      let c = r.clocks in
      let g = r.forest in
      let count = each_length (λ j. pressed_track g.margin (entry_at g.entries j) (need_of g.entries r.tracks c j) c.at) r.tracks in
      each_read (track_asked_in c.at round) alone i (omega (arith, count, within))
      ∙ ap (track_asked_in c.at round i) (each_read (λ j. pressed_track g.margin (entry_at g.entries j) (need_of g.entries r.tracks c j) c.at) r.tracks i within)

  pub new_count : length new.tracks ≡ length r.tracks
  new_count =
      let c = r.clocks in
      let g = r.forest in
      each_length (sent_in c.at requests) mid.tracks ∙ each_length (track_asked_in c.at round) alone
      ∙ each_length (λ j. pressed_track g.margin (entry_at g.entries j) (need_of g.entries r.tracks c j) c.at) r.tracks

  pub out_mid : (i : ℕ) → (track_at mid i).out ≡ (track_at r i).out
  out_mid i =
      let c = r.clocks in
      let g = r.forest in
      let R : Track → Track → Type 0 = λ y x. y.out ≡ x.out in
      each_kept R refl (track_asked_in c.at round) alone (out_asked c.at round) i
      ∙ each_kept R refl (λ j. pressed_track g.margin (entry_at g.entries j) (need_of g.entries r.tracks c j) c.at) r.tracks
      (λ j x. out_pressed g.margin (entry_at g.entries j) (need_of g.entries r.tracks c j) c.at x) i

  -- past the tracks nothing is read
  pub past_kept : (i : ℕ) → length r.tracks ≤ i → attempt_at mid i ≡ attempt_at r i
  past_kept i past =
      let c = r.clocks in
      let g = r.forest in
      let count = each_length (λ j. pressed_track g.margin (entry_at g.entries j) (need_of g.entries r.tracks c j) c.at) r.tracks in
      ap (λ (x : Track). x.attempt) (each_past (track_asked_in c.at round) alone i (omega (arith, count, past)))
      ∙ sym (ap (λ (x : Track). x.attempt) (get_or_past r.tracks i no_track past))

  -- a try that stays
  pub stays : (i : ℕ) → is_fresh r.forest.margin (entry_of r i) (track_at r i) (wanted_need r i) (second r) ≡ false → list_any (λ j. j == i) round ≡ false → (attempt_at r i ≡ None) ⊎ (is_wanted r i ≡ true) → attempt_at mid i ≡ attempt_at r i
  unfolding pressed_track
  stays i not_fresh apart own =
      elim (cases_lt i (length r.tracks)) [
        | inr past ↦ past_kept i past
        | inl within ↦
            let x = track_at r i in
            let e = entry_of r i in
            let m = r.forest.margin in
            let at = r.clocks.at in
            let alone' = pressed_track m e (wanted_need r i) at x in
            ap (λ (y : Track). y.attempt) (mid_read i within ∙ cond-false (list_any (λ j. j == i) round) (asked_track at alone') alone' apart)
            ∙ ap (λ (y : Track). y.attempt) (cond-false (is_fresh m e x (wanted_need r i) (sec at)) (record x { attempt = Some (press at x) }) (if is_wanted r i || x.out then x else record x { attempt = dropped x x.attempt }) not_fresh)
            ∙ rest (is_wanted r i || x.out) own
      ] where
        rest : (b : Bool) → (attempt_at r i ≡ None) ⊎ (is_wanted r i ≡ true) → (if is_wanted r i || (track_at r i).out then track_at r i else record (track_at r i) { attempt = dropped (track_at r i) (attempt_at r i) }).attempt ≡ attempt_at r i
        rest b (inl none) =
            if_both (λ (y : Track). y.attempt ≡ attempt_at r i) (is_wanted r i || (track_at r i).out) (track_at r i) (record (track_at r i) { attempt = dropped (track_at r i) (attempt_at r i) }) refl
            (ap (dropped (track_at r i)) none ∙ sym none)
        rest b (inr wanted) =
            ap (λ (y : Track). y.attempt)
            (cond-true (is_wanted r i || (track_at r i).out) (track_at r i) (record (track_at r i) { attempt = dropped (track_at r i) (attempt_at r i) }) (ap (λ c. c || (track_at r i).out) wanted))

  module _ (h : IsSending mid requests new) where
    -- whoever goes out has a try
    pub sent_tried : (i : ℕ) → list_any (λ (q : WatchRequest). q.entry == i) requests ≡ true → attempt_at mid i ≡ None → ⊥
    sent_tried i named none =
        let out = going mid.forest mid.presence mid.clocks.at mid.tracks (mid.width - length mid.out) requests h.0 in
        by out.entries out.due (sym (ap (list_any (λ (q : WatchRequest). q.entry == i)) out.requests_are) ∙ named) where
          by : (is : List ℕ) → All (λ j. (j < length mid.tracks) × (is_due mid.presence mid.clocks.at (track_in mid.tracks j) ≡ true)) is → list_any (λ (q : WatchRequest). q.entry == i) (map (request_at mid.presence (sec mid.clocks.at) mid.tracks) is) ≡ true → ⊥
          by [] due some = absurd cc
          by (j ∷ js) due some =
              let e = entry_by mid.presence (sec mid.clocks.at) mid.tracks j in
              or_parts ((request_at mid.presence (sec mid.clocks.at) mid.tracks j).entry == i) (list_any (λ (q : WatchRequest). q.entry == i) (map (request_at mid.presence (sec mid.clocks.at) mid.tracks) js)) ⊥ some
              (λ here.
              let same : j ≡ i = sym e ∙ eqb-true _ i here in
              due_tried mid.presence mid.clocks.at (track_at mid i) (attempt_at mid i)
              (free_of mid.presence mid.clocks.at (track_at mid i) (subst (λ k. is_due mid.presence mid.clocks.at (track_in mid.tracks k) ≡ true) same (All-head (λ k. (k < length mid.tracks) × (is_due mid.presence mid.clocks.at (track_in mid.tracks k) ≡ true)) j js due).1)).1 none)
              (λ later. by js (All-tail (λ k. (k < length mid.tracks) × (is_due mid.presence mid.clocks.at (track_in mid.tracks k) ≡ true)) j js due) later)

    -- so whoever has none is not marked
    pub out_idle : (i : ℕ) → attempt_at mid i ≡ None → (track_at new i).out ≡ (track_at r i).out
    out_idle i none =
        elim (cases_Bool (list_any (λ (q : WatchRequest). q.entry == i) requests)) [
          | inl named ↦ absurd (sent_tried i named none)
          | inr apart ↦
              ap (λ (x : Track). x.out) (each_at (sent_in r.clocks.at requests) mid.tracks i (λ x. cond-false (list_any (λ (q : WatchRequest). q.entry == i) requests) (sent_track r.clocks.at x) x apart))
              ∙ out_mid i
        ]

    -- what goes out are renewals of those whom the wake-up asks
    pub sends : (e : ℕ → ℕ) (now : Wake) (ts : List ℕ) → ((i : ℕ) → IsIdle new e i ⊎ IsTried new e now ts i) → All (IsSent now new) requests
    sends e now ts each =
        let out = going mid.forest mid.presence mid.clocks.at mid.tracks (mid.width - length mid.out) requests h.0 in
        let rq : ℕ → WatchRequest = request_at mid.presence (sec mid.clocks.at) mid.tracks in
        subst (All (IsSent now new)) (sym out.requests_are) (All-map (IsSent now new) rq out.entries (λ k d within. one (get_or out.entries k d) (out.due k d within).1)) where
          one : (i : ℕ) → is_due mid.presence mid.clocks.at (track_in mid.tracks i) ≡ true → IsSent now new (request_at mid.presence (sec mid.clocks.at) mid.tracks i)
          one i due =
              let p = mid.presence in
              let t = sec mid.clocks.at in
              elim (each i) as (λ _. IsSent now new (request_at p t mid.tracks i)) [
                | inl idle ↦ absurd (due_tried p mid.clocks.at (track_at mid i) (attempt_at mid i) (free_of p mid.clocks.at (track_at mid i) due).1 (sym (attempt_sent i) ∙ idle.none))
                | inr tried ↦
                    (asks_by p t mid.tracks i ∙ ap operation_of (sym (attempt_sent i) ∙ tried.is) ∙ tried.operation, (ap (is_asked now) (entry_by p t mid.tracks i) ∙ tried.asked, tried.now))
              ]

    -- whoever is out after it has a try
    pub waits_new : ((i : ℕ) → list_any (λ (q : Out). q.entry == i) r.out ≡ true → attempt_at new i ≡ None → ⊥) → (i : ℕ) → list_any (λ (q : Out). q.entry == i) new.out ≡ true → attempt_at new i ≡ None → ⊥
    waits_new before i waiting none =
        or_parts (list_any (λ (q : Out). q.entry == i) r.out) (list_any (λ (q : Out). q.entry == i) (map (out_at r.clocks.at) requests)) ⊥ (sym (list_any-append (λ (q : Out). q.entry == i) r.out (map (out_at r.clocks.at) requests)) ∙ waiting)
        (λ old. before i old none) (λ fresh. sent_tried i (mapped requests fresh) (sym (attempt_sent i) ∙ none)) where
          mapped : (rs : List WatchRequest) → list_any (λ (q : Out). q.entry == i) (map (out_at r.clocks.at) rs) ≡ true → list_any (λ (q : WatchRequest). q.entry == i) rs ≡ true
          mapped [] some = some
          mapped (q ∷ rs) some =
              or_parts (q.entry == i) (list_any (λ (o : Out). o.entry == i) (map (out_at r.clocks.at) rs)) (list_any (λ (o : WatchRequest). o.entry == i) (q ∷ rs) ≡ true) some
              (λ here. or_left (q.entry == i) (list_any (λ (o : WatchRequest). o.entry == i) rs) here) (λ later. or_right (q.entry == i) (list_any (λ (o : WatchRequest). o.entry == i) rs) (mapped rs later))
