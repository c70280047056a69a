-- LastTries: an entry at its top has its last try just where the grant before the last one led it further; and it is asked for that, and for nothing
-- else. For the law of the last try.
use Rattle.std.proofs.Common.{◌≡◌, ◌∙◌, ℕ, ◌+◌, ◌-◌, ◌/◌, ◌<◌, ◌≤◌, Bool, true, false, not, ◌&&◌, ◌||◌, ◌==◌, List, [], ◌∷◌, Option, Some, None, length, refl, sym, ap, subst, arith, inl, inr}
use Rattle.std.proofs.lemmas.List.{length-map}
use Rattle.std.proofs.lemmas.Bool.{and_from, and_parts, cases_Bool, cond-false, cond-true, eqb-true}
use Rattle.std.specs.List.{list_any}
use Rattle.plan_forest.specs.{Renewal.capped, declared.entry.Entry.Entry}
use Rattle.plan_forest.specs.Forest.{Forest, end_of, entry_at}
use Rattle.watch_machine.specs.{declared.clocks.Clocks.Clocks, declared.event.WatchEvent.WatchEvent, declared.event.WatchEvent.TheVariants.Renewed, declared.lanes.Out.Out, declared.track.End.End, declared.track.Track.Track}
use Rattle.watch_machine.specs.{Answers.back_track, Beginning.is_pressed, Change.former_at, Clocks.sec, Margins.lead, Outlook.time_of, Renewed.granted_from, Step.readied}
use Rattle.watch_machine.specs.declared.event.WatchReply.TheVariants.{Told, Refused, Busy, Lost}
use Rattle.watch_machine.specs.History.{AllHappen, Changed, Changes, Hands, Happening, History, IsChanged, IsReached, Turn, Turned, state_after_all, stood, stood_at_some}
use Rattle.watch_machine.specs.Round.{IsRound, asked_by_round, entry_planned, is_hoped, plan_view, planned_by, step_in_plan}
use Rattle.watch_machine.specs.State.{WatchState, fresh_track, has_last_try, keeps_last_try, opened, second, track_at, track_in}
use Rattle.watch_machine.specs.Wanted.{is_wanted, need_of, seen_entry, wanted_need}
use Rattle.watch_machine.proofs.Cases.{if_both, not_both}
use Rattle.watch_laws.specs.{Absence.is_event_taken, Clocks.IsClock, Needs.IsEndToBeLed, Presses.HasPressed}
use Rattle.watch_laws.specs.Margins.{IsTimeBefore, asked_before, own_before}
use Rattle.watch_laws.specs.Time.{is_come, is_named_in_round, round_of}
use Rattle.watch_laws.specs.Tops.{IsNeededBeyond, LastTryLaw, first_topped_after, first_topped_at, is_first_topped, is_first_topped_from, is_grant_of, is_granted_at, topped_after, topped_at}
use Rattle.watch_laws.proofs.{Believed.written_at, Believed.written_count, GrantedFrom.made, GrantedFrom.turn_holds, Needing.needed, Needing.tries_last, Once.renewable_of, Opener.mid_bears, Presses.clock_of, Presses.presses_so}
use Rattle.watch_laws.proofs.{Timing.timed_so}
use Rattle.watch_laws.proofs.Following.{IsCounted, changed_counted, changed_tracks, kept_over, new_over, opened_counted, reached_counted, stays_there, turn_counted}
use Rattle.watch_laws.proofs.Topping.{Tops, first_track, owed_lower, turn_count, turn_lower}

-- what the grants so far say of the track: whether the last one left it at its top, and whether that was the first
record Tried (before first : Bool) (x : Track) : Type 0 where
  led : x.top ≡ true → before ≡ true
  try : x.last_try ≡ (not before || (x.top && first))

begun_try : (before first top last : Bool) → (top ≡ true → before ≡ true) → last ≡ (not before || (top && first)) → (not top && last) ≡ (not before || (false && first))
begun_try false first true last led is = absurd (let bad : false ≡ true = led refl in cc)
begun_try false first false last led is = is
begun_try true first true last led is = refl
begun_try true first false last led is = is

-- what is no grant leaves it so
tops_tried : (before first : Bool) (y x : Track) → Tops y x → Tried before first x → Tried before first y
tops_tried before first y x (inl same) h = record {
  led = λ top. h.led (sym same.0 ∙ top);
  try = same.1 ∙ h.try ∙ ap (λ t. not before || (t && first)) (sym same.0);
}
tops_tried before first y x (inr gone) h = record {
  led = λ top. absurd (not_both top gone.0);
  try = gone.1 ∙ begun_try before first x.top x.last_try h.led h.try ∙ ap (λ t. not before || (t && first)) (sym gone.0);
}

-- and a grant
grant_try :
    (before first top top' last last' : Bool) → (top ≡ true → before ≡ true) → last ≡ (not before || (top && first)) → last' ≡ (not top' || (not top && last)) →
    last' ≡ (not top' || (top' && (top' && not before)))
grant_try before first top false last last' led is is' = is'
grant_try true first true true last last' led is is' = is'
grant_try false first true true last last' led is is' = absurd (let bad : false ≡ true = led refl in cc)
grant_try true first false true last last' led is is' = is' ∙ is
grant_try false first false true last last' led is is' = is' ∙ is

granted_tried : (before first : Bool) (y x : Track) → y.last_try ≡ (not y.top || keeps_last_try x) → Tried before first x → Tried y.top (y.top && not before) y
granted_tried before first y x is h = record { led = λ top. top; try = grant_try before first x.top y.top x.last_try y.last_try h.led h.try is }

-- the last try that a grant leaves
made_try : (old : WatchState) (i seconds : ℕ) (renewable : Bool) (q : Out) → (made old i seconds renewable q).last_try ≡ (not (made old i seconds renewable q).top || keeps_last_try (track_at old i))
unfolding granted_from
made_try old i seconds renewable q = refl

back_try : (x y : Track) → y.last_try ≡ (not y.top || keeps_last_try x) → (back_track y).last_try ≡ (not (back_track y).top || keeps_last_try x)
unfolding back_track
back_try x y h = h

-- the words of a turn that grants
record Grants (i : ℕ) (event : WatchEvent) : Type 0 where
  seconds : ℕ
  renewable : Bool
  date : Option ℕ
  is : event ≡ Renewed i (Told seconds renewable date)

grants : (i : ℕ) (event : WatchEvent) → is_grant_of i event ≡ true → Grants i event
grants i (Renewed j (Told seconds renewable date)) h =
    record { seconds = seconds; renewable = renewable; date = date; is = ap (λ k. Renewed k (Told seconds renewable date)) (eqb-true j i (and_parts (j == i) true h).0) }
grants i (Renewed j (Refused status date)) h = absurd (let bad = (and_parts (j == i) false h).1 in cc)
grants i (Renewed j Busy) h = absurd (let bad = (and_parts (j == i) false h).1 in cc)
grants i (Renewed j Lost) h = absurd (let bad = (and_parts (j == i) false h).1 in cc)
grants i _ h = absurd cc

turn_tried :
    (old : WatchState) (turn : Turned) (i : ℕ) (before first : Bool) → Turn old turn.event turn.result turn.state → i < length old.tracks → Tried before first (track_at old i) →
    Tried (topped_after i before turn) (first_topped_after i before first turn) (track_at turn.state i)
turn_tried old turn i before first h within tried =
    let new = turn.state in
    let x = track_at old i in
    let y = track_at new i in
    let granted = is_granted_at i turn in
    elim (cases_Bool granted) as (λ _. Tried (topped_after i before turn) (first_topped_after i before first turn) y) [
      | inl yes' ↦
          let both = and_parts (is_event_taken turn.result) (is_grant_of i turn.event) yes' in
          let g = grants i turn.event both.1 in
          let is =
          (turn_holds (λ q z. z.last_try ≡ (not z.top || keeps_last_try x)) (λ q z k. back_try x z k) old new turn.event turn.result i g.seconds g.renewable g.date h within g.is both.0
          (λ q. made_try old i g.seconds g.renewable q)).1.1 in
          subst (λ b. Tried b (first_topped_after i before first turn) y) (sym (cond-true granted y.top before yes'))
          (subst (λ b. Tried y.top b y) (sym (cond-true granted (y.top && not before) first yes')) (granted_tried before first y x is tried))
      | inr no' ↦
          subst (λ b. Tried b (first_topped_after i before first turn) y) (sym (cond-false granted y.top before no'))
          (subst (λ b. Tried before b y) (sym (cond-false granted (y.top && not before) first no'))
          (tops_tried before first y x (turn_lower old new turn.event turn.result i h no').1 tried))
    ]

-- so where it stands
abbrev TriedAt : WatchState → Option ℕ → Bool → Bool → Type 0
TriedAt s None before first = (before ≡ false) × (first ≡ false)
TriedAt s (Some i) before first = i < length s.tracks → Tried before first (track_at s i)

turn_at :
    (old : WatchState) (turn : Turned) (e : Option ℕ) (before first : Bool) → Turn old turn.event turn.result turn.state → TriedAt old e before first →
    TriedAt turn.state e (topped_at e before turn) (first_topped_at e before first turn)
turn_at old turn None before first h none = none
turn_at old turn (Some i) before first h tried = λ within.
    let count = turn_count old turn.state turn.event turn.result h in
    let low : i < length old.tracks = omega (arith, count, within) in
    turn_tried old turn i before first h low (tried low)

fresh_tried : (e : Entry) → Tried false false (fresh_track e)
fresh_tried e = record { led = λ top. absurd cc; try = refl }

changed_at : (old : WatchState) (c : Changed) → IsChanged old c → (e : Option ℕ) (before first : Bool) → IsCounted old → TriedAt old (stood_at_some (Changes c) e) before first → TriedAt c.state e before first
changed_at old c h None before first count none = none
changed_at old c h (Some j) before first count tried = λ within. by (former_at c.was j) refl tried within where
  by : (was : Option ℕ) → former_at c.was j ≡ was → TriedAt old was before first → j < length c.state.tracks → Tried before first (track_at c.state j)
  by None said none within =
      subst (λ b. Tried b first (track_at c.state j)) (sym none.0)
      (subst (λ b. Tried false b (track_at c.state j)) (sym none.1)
      (new_over old c h (Tried false false) (λ e. record { led = λ top. absurd cc; try = refl }) j (let many = changed_tracks old c h in omega (arith, many, within)) said))
  by (Some i) said tried' within =
      kept_over old c h (λ (y x : Track). Tried before first x → Tried before first y) (λ x k. k) (λ x k. tops_tried before first _ x (owed_lower old.clocks.at x).1 k) i j said
      (tried' (let there = h.may.within i j said in omega (arith, there, count)))

ran :
    (k : ℕ) (hs : List Happening) (old : WatchState) (before first : Bool) → AllHappen old hs → IsCounted old → TriedAt old (stood hs k) before first →
    (b : Bool) × TriedAt (state_after_all old hs) (Some k) b (is_first_topped_from k before first hs)
ran k [] old before first h count tried = (before, tried)
ran k (Hands turn ∷ hs) old before first h count tried =
    let e = stood hs k in
    ran k hs turn.state (topped_at e before turn) (first_topped_at e before first turn) h.1 (turn_counted old turn.state turn.event turn.result h.0 count)
    (turn_at old turn e before first h.0 (subst (λ d. TriedAt old d before first) (stays_there turn e) tried))
ran k (Changes c ∷ hs) old before first h count tried = ran k hs c.state before first h.1 (changed_counted old c h.0) (changed_at old c h.0 (stood hs k) before first count tried)

first_tried : (g : Forest) (width : ℕ) (e : Option ℕ) → TriedAt (opened g width) e false false
first_tried g width None = (refl, refl)
first_tried g width (Some i) = λ within.
    let count = length-map g.entries fresh_track in
    subst (Tried false false) (sym (first_track g.entries i (omega (arith, count, within)))) (fresh_tried (entry_at g.entries i))

-- a clock grants nothing
clock_none : (i : ℕ) (turn : Turned) (wall elapsed : ℕ) → IsClock wall elapsed turn → is_granted_at i turn ≡ false
clock_none i turn wall elapsed clock =
    ap (λ e. is_event_taken turn.result && is_grant_of i e) clock.0 ∙ none (is_event_taken turn.result) where
      none : (b : Bool) → b && false ≡ false
      none true = refl
      none false = refl

-- at a clock an entry that is at its top after it has its last try just where the last grant before it was the first there
by_first : (before first top last : Bool) → (top ≡ true → before ≡ true) → last ≡ (not before || (top && first)) → top ≡ true → last ≡ first
by_first true first true last led is top = is
by_first false first true last led is top = absurd (let bad : false ≡ true = led refl in cc)
by_first before first false last led is top = absurd cc

module _ (old : WatchState) (r : IsReached old) (turn : Turned) (wall elapsed i : ℕ) (h : Turn old turn.event turn.result turn.state) (within : i < length old.forest.entries) (clock : IsClock wall elapsed turn) where
  counts : i < length old.tracks
  counts = let count = reached_counted old r in omega (arith, count, within)

  last_is : (track_at turn.state i).top ≡ true → (track_at turn.state i).last_try ≡ is_first_topped i r.run
  last_is topped =
      let first' = is_first_topped i r.run in
      let all = ran i r.run (opened r.forest r.width) false false r.is_run (opened_counted r.forest r.width) (first_tried r.forest r.width (stood r.run i)) in
      let there : TriedAt old (Some i) all.0 first' = subst (λ (x : WatchState). TriedAt x (Some i) all.0 first') r.leads all.1 in
      let none = clock_none i turn wall elapsed clock in
      let y = track_at turn.state i in
      let tried = tops_tried all.0 first' y (track_at old i) (turn_lower old turn.state turn.event turn.result i h none).1 (there counts) in
      by_first all.0 first' y.top y.last_try tried.led tried.try topped

-- a last try is asked for
asked_so :
    (old : WatchState) (turn : Turned) (wall elapsed i end j until : ℕ) → History old (turn ∷ []) → IsClock wall elapsed turn → i < length old.tracks → (track_at old i).out ≡ false →
    is_pressed (track_at old i) ≡ false → has_last_try (track_at turn.state i) ≡ true → IsNeededBeyond turn.state i end j until → end - own_before turn.state i / 2 ≤ second turn.state → HasPressed old turn.state i
asked_so old turn wall elapsed i end j until h clock within free loose tries n time =
    let s = turn.state in
    let wanted = needed s i j until (record {
      ends = subst (λ (e : End). IsEndToBeLed until (track_at s i).renewable e) (sym n.ends) (n.renewable, n.beyond);
      may = inr tries;
      over = n.over;
      needed = n.needed;
      ahead = n.ahead;
    }) in
    let long : asked_before s i ≡ own_before s i / 2 = cond-true (has_last_try (track_at s i)) (own_before s i / 2) (own_before s i) tries in
    let at : time_of s i ≡ end - asked_before s i = subst (λ (e : End). IsTimeBefore (asked_before s i) e (time_of s i)) n.ends (timed_so.time s i) in
    let come = (timed_so.come s i).1 (omega (arith, at, long, time)) in
    presses_so.come old turn wall elapsed i h clock within free loose wanted come

-- a round names nobody at its top
planned_top : (r t : Bool) → t ≡ true → r && not t ≡ false
planned_top true true h = refl
planned_top true false h = absurd cc
planned_top false t h = refl

topped_planned : (g : Forest) (xs : List Track) (c : Clocks) (j : ℕ) → (track_in xs j).top ≡ true → (entry_planned g xs c j).renewable ≡ false
unfolding entry_planned planned_by
topped_planned g xs c j topped =
    let e = entry_at g.entries j in
    let x = track_in xs j in
    let y = seen_entry g.entries xs c j in
    if_both (λ (z : Entry). z.renewable ≡ false) (is_hoped g.margin e x (need_of g.entries xs c j)) (record y { end = capped y.ceiling (sec c.at + lead e.step x.grant); renewable = false })
    (record y { renewable = x.renewable && not x.top; step = step_in_plan g.margin e x y.step }) refl (planned_top x.renewable x.top topped)

names_untopped : (g : Forest) (xs : List Track) (c : Clocks) (round : Option (List ℕ)) (j : ℕ) → IsRound g xs c round → (track_in xs j).top ≡ true → is_named_in_round round j ≡ false
names_untopped g xs c None j h topped = refl
names_untopped g xs c (Some asked) j h topped =
    elim (cases_Bool (list_any (λ k. k == j) asked)) as (λ _. list_any (λ k. k == j) asked ≡ false) [
      | inl named ↦
          let es = plan_view g xs c in
          let there = renewable_of es g.margin (sec c.at) (end_of es) (sec c.at) h.1.0 j (sym (ap (list_any (λ k. k == j)) h.1.1.1) ∙ named) in
          let count = written_count (entry_planned g xs c) (length g.entries) in
          let low = there.0 in
          absurd (not_both there.1 (ap (λ (e : Entry). e.renewable) (written_at (entry_planned g xs c) (length g.entries) j (omega (arith, low, count))) ∙ topped_planned g xs c j topped))
      | inr none ↦ none
    ]

unnamed : (old : WatchState) (turn : Turned) (wall elapsed i : ℕ) → Turn old turn.event turn.result turn.state → IsClock wall elapsed turn → (track_at turn.state i).top ≡ true → is_named_in_round (round_of turn.result) i ≡ false
unnamed old turn wall elapsed i h clock =
    let r = readied old wall elapsed in
    clock_of (λ n round. (track_at n i).top ≡ true → is_named_in_round round i ≡ false) old turn.state turn.event turn.result wall elapsed h clock.0 clock.1
    (λ round requests real topped. names_untopped r.forest r.tracks r.clocks round i real (sym (ap (λ (x : Track). x.top) (mid_bears r (asked_by_round round) requests i)) ∙ topped))

pub last_tries : LastTryLaw
last_tries = record {
  asked = λ old r turn wall elapsed i end j until h within clock free loose topped first n time.
      let last = last_is old r turn wall elapsed i h.0 within clock topped in
      asked_so old turn wall elapsed i end j until h clock (counts old r turn wall elapsed i h.0 within clock) free loose
      (and_from (track_at turn.state i).top (track_at turn.state i).last_try topped (last ∙ first)) n time;
  only = λ old r turn wall elapsed i h within clock loose now topped.
      let s = turn.state in
      let last = last_is old r turn wall elapsed i h.0 within clock topped in
      elim (presses_so.only old turn wall elapsed i h clock loose now).1 as (λ _. (is_first_topped i r.run ≡ true) × ((is_wanted s i ≡ true) × (is_come s i ≡ true))) [
        | inl come ↦ (sym last ∙ (and_parts (track_at s i).top (track_at s i).last_try (tries_last (track_at s i) (wanted_need s i) topped come.0)).1, come)
        | inr named ↦ absurd (not_both named (unnamed old turn wall elapsed i h.0 clock topped))
      ];
}
