-- Quiet: before the moment at which something is to be done of an entry a clock leaves it as it is. For a clock at which all is quiet.
use Rattle.std.proofs.Common.{◌≡◌, ◌∙◌, ℕ, ◌/◌, ◌<◌, ◌≤◌, Bool, true, false, min, not, ◌&&◌, ◌||◌, if◌then◌else◌, Option, Some, None, nat_lt, refl, sym, ap, ap₂, subst, arith, inl, inr}
use Rattle.std.proofs.lemmas.Bool.Decides.{nat_tests}
use Rattle.std.proofs.lemmas.Bool.{and_from, and_parts, cases_Bool, cond-false, cond-true}
use Rattle.plan_forest.specs.declared.entry.Entry.{Entry}
use Rattle.watch_machine.specs.{declared.lanes.Presence.Presence, declared.lull.TheConstants.NEVER, declared.reading.TheConstants.READING_MAX, declared.track.Track.Track, declared.track.Try.Try, Beginning.is_pressed, Clocks.ms, Clocks.sec}
use Rattle.watch_machine.specs.{Round.opens, Settling.settled_track, Settling.settled_try, Wanted.is_alive, Wanted.wants}
use Rattle.watch_machine.specs.Lines.{is_due, is_due_try, ready}
use Rattle.watch_machine.specs.Margins.{has_come, is_in_plan, time}
use Rattle.watch_machine.specs.Press.{dropped, is_fresh, let_go, press, pressed_track}
use Rattle.watch_machine.specs.Wait.{latest, next_of, time_at, try_at}
use Rattle.watch_machine.specs.code.Lull.{due_at, is_failed_try, is_owed_alone, time_due, try_due}
use Rattle.watch_machine.proofs.Tests.{and_no, not_true}

-- of an entry nothing is to be done at this moment, but at that one
pub record IsStill (margin : ℕ) (e : Entry) (need : ℕ) (p : Presence) (at : ℕ) (x : Track) (then' : ℕ) : Type 0 where
  pub settled : settled_track margin at x ≡ x
  pub pressed : pressed_track margin e need at x ≡ x
  pub shut : opens margin e x need (sec at) ≡ false
  pub due : is_due p at x ≡ false
  pub waits : min (latest margin at) (next_of margin e need p at x) ≡ min (latest margin at) then'

-- the latest wait is before what never comes
pub latest_low : (margin at : ℕ) → at ≤ READING_MAX → latest margin at ≤ NEVER
unfolding latest
latest_low margin at low = omega (arith, low)

module _ (margin : ℕ) (e : Entry) (need : ℕ) (p : Presence) (at : ℕ) (x : Track) where
  abbrev last : ℕ
  last = latest margin at

  -- no pause is set
  try_settled : (o : Option Try) → is_failed_try o ≡ false → settled_try margin at x o ≡ o
  try_settled None h = refl
  try_settled (Some t) h = cond-false t.failed (Some _) (Some t) h

  pub is_settled : is_failed_try x.attempt ≡ false → settled_track margin at x ≡ x
  unfolding settled_track
  is_settled h = ap (λ o. record x { attempt = o }) (try_settled x.attempt h)

  -- it is not to be pressed
  abbrev fresh : Bool
  fresh = is_fresh margin e x need (sec at)

  pub unwanted_fresh : wants x need ≡ false → fresh ≡ false
  unfolding is_fresh
  unwanted_fresh h = ap (λ b. b && (has_come margin e x (sec at) && (not (is_pressed x) && not x.out))) h

  pub out_fresh : x.out ≡ true → fresh ≡ false
  unfolding is_fresh
  out_fresh h =
      and_no (wants x need) (has_come margin e x (sec at) && (not (is_pressed x) && not x.out))
      (and_no (has_come margin e x (sec at)) (not (is_pressed x) && not x.out) (and_no (not (is_pressed x)) (not x.out) (ap not h)))

  pressed_fresh : is_pressed x ≡ true → fresh ≡ false
  unfolding is_fresh
  pressed_fresh h =
      and_no (wants x need) (has_come margin e x (sec at) && (not (is_pressed x) && not x.out))
      (and_no (has_come margin e x (sec at)) (not (is_pressed x) && not x.out) (ap (λ b. not b && not x.out) h))

  early : at < ms (time margin e x) → has_come margin e x (sec at) ≡ false
  unfolding has_come sec
  early h = let less : at / 1000 < time margin e x = omega (arith, h) in grind (arith, nat_tests)

  early_fresh : at < ms (time margin e x) → fresh ≡ false
  unfolding is_fresh
  early_fresh h =
      and_no (wants x need) (has_come margin e x (sec at) && (not (is_pressed x) && not x.out)) (ap (λ b. b && (not (is_pressed x) && not x.out)) (early h))

  -- where it is not, it stays as it is, while it is wanted or out
  pub stays : fresh ≡ false → wants x need || x.out ≡ true → pressed_track margin e need at x ≡ x
  unfolding pressed_track
  stays not_fresh kept =
      cond-false fresh (record x { attempt = Some (press at x) }) (if wants x need || x.out then x else record x { attempt = dropped x x.attempt }) not_fresh
      ∙ cond-true (wants x need || x.out) x (record x { attempt = dropped x x.attempt }) kept

  -- or where it has nothing to be let go
  try_kept : (o : Option Try) → is_owed_alone x.owes o ≡ true → dropped x o ≡ o
  try_kept None h = refl
  try_kept (Some t) h =
      cond-false t.pressed (let_go x t) (Some t) (not_true t.pressed (and_parts (not t.pressed) x.owes h).0)

  pub is_kept : fresh ≡ false → wants x need || x.out ≡ false → is_owed_alone x.owes x.attempt ≡ true → pressed_track margin e need at x ≡ x
  unfolding pressed_track
  is_kept not_fresh left alone =
      cond-false fresh (record x { attempt = Some (press at x) }) (if wants x need || x.out then x else record x { attempt = dropped x x.attempt }) not_fresh
      ∙ cond-false (wants x need || x.out) x (record x { attempt = dropped x x.attempt }) left ∙ ap (λ o. record x { attempt = o }) (try_kept x.attempt alone)

  -- it opens no round
  pub opens_none : fresh ≡ false → opens margin e x need (sec at) ≡ false
  unfolding opens
  opens_none h = ap (λ b. b && (is_in_plan margin e x && is_alive (sec at) x)) h

  -- its try does not go out
  pub out_due : x.out ≡ true → is_due p at x ≡ false
  unfolding is_due
  out_due h = ap (λ b. not b && is_due_try p at x x.attempt) h

  try_later : (o : Option Try) → at < try_due p x o → is_due_try p at x o ≡ false
  try_later None h = refl
  try_later (Some t) h = grind (arith, nat_tests)

  later_due : at < try_due p x x.attempt → is_due p at x ≡ false
  unfolding is_due
  later_due h = and_no (not x.out) (is_due_try p at x x.attempt) (try_later x.attempt h)

  -- what it waits for
  module _ (low : at ≤ READING_MAX) where
    pub never_waits : min last last ≡ min last NEVER
    never_waits = let l = latest_low margin at low in omega (arith, l)

    try_waits : (o : Option Try) → at < try_due p x o → min last (try_at p at last x o) ≡ min last (try_due p x o)
    try_waits None h = never_waits
    try_waits (Some t) h =
        let test : nat_lt at (ready p x t) ≡ true = grind (arith, nat_tests) in
        ap (min last) (cond-true (nat_lt at (ready p x t)) (ready p x t) last test)

    pub time_waits : wants x need ≡ true → min last (time_at margin e x need last) ≡ min last (time_due margin e x)
    time_waits wanted =
        elim (cases_Bool (is_pressed x)) as (λ _. min last (time_at margin e x need last) ≡ min last (time_due margin e x)) [
          | inl is ↦
              ap (min last) (cond-false (wants x need && not (is_pressed x)) (ms (time margin e x)) last (and_no (wants x need) (not (is_pressed x)) (ap not is)))
              ∙ never_waits ∙ sym (ap (min last) (cond-true (is_pressed x) NEVER (ms (time margin e x)) is))
          | inr loose ↦
              ap (min last) (cond-true (wants x need && not (is_pressed x)) (ms (time margin e x)) last (and_from (wants x need) (not (is_pressed x)) wanted (ap not loose)))
              ∙ sym (ap (min last) (cond-false (is_pressed x) NEVER (ms (time margin e x)) loose))
        ]

    pub idle_time : wants x need ≡ false → time_at margin e x need last ≡ last
    idle_time unwanted = cond-false (wants x need && not (is_pressed x)) (ms (time margin e x)) last (ap (λ b. b && not (is_pressed x)) unwanted)

    pub next_free : x.out ≡ false → next_of margin e need p at x ≡ min (try_at p at last x x.attempt) (time_at margin e x need last)
    unfolding next_of
    next_free free = cond-false x.out last (min (try_at p at last x x.attempt) (time_at margin e x need last)) free

    pub next_out : x.out ≡ true → next_of margin e need p at x ≡ last
    unfolding next_of
    next_out out = cond-true x.out last (min (try_at p at last x x.attempt) (time_at margin e x need last)) out

    -- its request is out
    still_out : is_failed_try x.attempt ≡ false → x.out ≡ true → IsStill margin e need p at x NEVER
    still_out settled out = record {
      settled = is_settled settled;
      pressed = stays (out_fresh out) (ap (λ b. wants x need || b) out ∙ or_true (wants x need));
      shut = opens_none (out_fresh out);
      due = out_due out;
      waits = ap (min last) (next_out out) ∙ never_waits;
    } where
      or_true : (b : Bool) → b || true ≡ true
      or_true true = refl
      or_true false = refl

    -- it is wanted, and neither its try may go out nor has its time come
    pub not_yet : at < time_due margin e x → fresh ≡ false
    not_yet h =
        elim (cases_Bool (is_pressed x)) as (λ _. fresh ≡ false) [
          | inl is ↦ pressed_fresh is
          | inr loose ↦ early_fresh (let e' = cond-false (is_pressed x) NEVER (ms (time margin e x)) loose in omega (arith, h, e'))
        ]

    still_wanted :
        is_failed_try x.attempt ≡ false → x.out ≡ false → wants x need ≡ true → at < try_due p x x.attempt → at < time_due margin e x →
        IsStill margin e need p at x (min (try_due p x x.attempt) (time_due margin e x))
    still_wanted settled free wanted later ahead = record {
      settled = is_settled settled;
      pressed = stays (not_yet ahead) (ap (λ b. b || x.out) wanted);
      shut = opens_none (not_yet ahead);
      due = later_due later;
      waits =
          let a = next_free free in
          let b = try_waits x.attempt later in
          let d = time_waits wanted in
          omega (arith, a, b, d);
    }

    -- it is wanted no more, and has nothing to be let go
    still_left :
        is_failed_try x.attempt ≡ false → x.out ≡ false → wants x need ≡ false → is_owed_alone x.owes x.attempt ≡ true → at < try_due p x x.attempt →
        IsStill margin e need p at x (try_due p x x.attempt)
    still_left settled free unwanted alone later = record {
      settled = is_settled settled;
      pressed = is_kept (unwanted_fresh unwanted) (ap₂ (λ b d. b || d) unwanted free) alone;
      shut = opens_none (unwanted_fresh unwanted);
      due = later_due later;
      waits =
          let a = next_free free in
          let b = try_waits x.attempt later in
          let d = idle_time unwanted in
          omega (arith, a, b, d);
    }

    -- all of these
    abbrev left : ℕ
    left = if is_owed_alone x.owes x.attempt then try_due p x x.attempt else 0

    abbrev both : ℕ
    both = min (try_due p x x.attempt) (time_due margin e x)

    abbrev free_due : ℕ
    free_due = if wants x need then both else left

    abbrev any_due : ℕ
    any_due = if x.out then NEVER else free_due

    left_still : is_failed_try x.attempt ≡ false → x.out ≡ false → wants x need ≡ false → at < left → IsStill margin e need p at x left
    left_still settled free unwanted ahead =
        elim (cases_Bool (is_owed_alone x.owes x.attempt)) as (λ _. IsStill margin e need p at x left) [
          | inl alone ↦
              let is = cond-true (is_owed_alone x.owes x.attempt) (try_due p x x.attempt) 0 alone in
              subst (IsStill margin e need p at x) (sym is) (still_left settled free unwanted alone (subst (λ n. at < n) is ahead))
          | inr other ↦ absurd (let is = cond-false (is_owed_alone x.owes x.attempt) (try_due p x x.attempt) 0 other in omega (arith, ahead, is))
        ]

    free_still : is_failed_try x.attempt ≡ false → x.out ≡ false → at < free_due → IsStill margin e need p at x free_due
    free_still settled free ahead =
        elim (cases_Bool (wants x need)) as (λ _. IsStill margin e need p at x free_due) [
          | inl wanted ↦
              let is = cond-true (wants x need) both left wanted in
              let before = subst (λ n. at < n) is ahead in
              subst (IsStill margin e need p at x) (sym is) (still_wanted settled free wanted (omega (arith, before)) (omega (arith, before)))
          | inr unwanted ↦
              let is = cond-false (wants x need) both left unwanted in
              subst (IsStill margin e need p at x) (sym is) (left_still settled free unwanted (subst (λ n. at < n) is ahead))
        ]

    any_still : is_failed_try x.attempt ≡ false → at < any_due → IsStill margin e need p at x any_due
    any_still settled ahead =
        elim (cases_Bool x.out) as (λ _. IsStill margin e need p at x any_due) [
          | inl out ↦ subst (IsStill margin e need p at x) (sym (cond-true x.out NEVER free_due out)) (still_out settled out)
          | inr free ↦
              let is = cond-false x.out NEVER free_due free in
              subst (IsStill margin e need p at x) (sym is) (free_still settled free (subst (λ n. at < n) is ahead))
        ]

    pub still : at < due_at margin e need p x → IsStill margin e need p at x (due_at margin e need p x)
    unfolding due_at
    still ahead =
        elim (cases_Bool (is_failed_try x.attempt)) as (λ _. IsStill margin e need p at x (if is_failed_try x.attempt then 0 else any_due)) [
          | inl failed ↦ absurd (let is = cond-true (is_failed_try x.attempt) 0 any_due failed in omega (arith, ahead, is))
          | inr settled ↦
              let is = cond-false (is_failed_try x.attempt) 0 any_due settled in
              subst (IsStill margin e need p at x) (sym is) (any_still settled (subst (λ n. at < n) is ahead))
        ]

-- how long answers take does not matter to it
try_paced : (p : Presence) (pace : ℕ) (x : Track) (o : Option Try) → try_due (record p { pace = pace }) x o ≡ try_due p x o
unfolding ready
try_paced p pace x None = refl
try_paced p pace x (Some t) = refl

pub due_paced : (margin : ℕ) (e : Entry) (need : ℕ) (p : Presence) (pace : ℕ) (x : Track) → due_at margin e need (record p { pace = pace }) x ≡ due_at margin e need p x
unfolding due_at
due_paced margin e need p pace x =
    ap (λ n. if is_failed_try x.attempt then 0 else (if x.out then NEVER else (if wants x need then min n (time_due margin e x) else (if is_owed_alone x.owes x.attempt then n else 0))))
    (try_paced p pace x x.attempt)
