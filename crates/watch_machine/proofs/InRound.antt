-- InRound: before the moment at which something is to be done of an entry a clock leaves it as it is, and it stands in line where it
-- stood. For clocks at which lanes are filled.
use Rattle.std.proofs.Common.{◌≡◌, ◌∙◌, ℕ, ◌+◌, ◌<◌, ◌≤◌, Bool, true, false, min, not, ◌&&◌, ◌||◌, if◌then◌else◌, Option, Some, None, nat_le, nat_lt, refl, sym, ap, ap₂, subst, arith, inl, inr}
use Rattle.std.proofs.lemmas.Bool.Decides.{nat_tests}
use Rattle.std.proofs.lemmas.Bool.{cases_Bool, cond-false, cond-true}
use Rattle.plan_forest.specs.declared.entry.Entry.{Entry}
use Rattle.watch_machine.specs.{declared.event.Operation.TheVariants.Renew, declared.lanes.Presence.Presence, declared.lull.TheConstants.NEVER, declared.reading.TheConstants.READING_MAX, declared.track.Track.Track, declared.track.Try.Try}
use Rattle.watch_machine.specs.{Clocks.sec, Margins.has_come, Press.pressed_track, Refusal.is_same, Round.opens, Sending.Place, Sending.place_of, Settling.settled_track, Wanted.is_alive, Wanted.wants, code.Line.left_at, code.Line.try_left}
use Rattle.watch_machine.specs.Lines.{is_due, is_due_try, is_first, part_of_later, rank, ready}
use Rattle.watch_machine.specs.Wait.{latest, next_of, time_at, try_at}
use Rattle.watch_machine.specs.code.Lull.{is_failed_try, is_owed_alone, time_due}
use Rattle.watch_machine.proofs.Quiet.{idle_time, is_kept, is_settled, never_waits, next_free, next_out, not_yet, opens_none, out_due, out_fresh, stays, time_waits, unwanted_fresh}

-- of an entry nothing is to be done at this moment but to go out where it is due, as it was before; and then at that one
pub record IsLeft (margin : ℕ) (e : Entry) (need : ℕ) (p : Presence) (since at : ℕ) (x : Track) (then' : ℕ) : Type 0 where
  pub settled : settled_track margin at x ≡ x
  pub pressed : pressed_track margin e need at x ≡ x
  pub shut : opens margin e x need (sec at) ≡ false
  pub due : is_due p at x ≡ is_due p since x
  pub waits : min (latest margin at) (next_of margin e need p at x) ≡ min (latest margin at) then'

module _ (margin : ℕ) (e : Entry) (need : ℕ) (p : Presence) (since at : ℕ) (x : Track) (low : at ≤ READING_MAX) (later : since ≤ at) where
  abbrev last : ℕ
  last = latest margin at

  abbrev own : ℕ
  own = try_left p since x x.attempt

  -- its try may go out where it might
  try_same : (o : Option Try) → at < try_left p since x o → is_due_try p at x o ≡ is_due_try p since x o
  try_same None h = refl
  try_same (Some t) h =
      let r = ready p x t in
      elim (cases_Bool (nat_le r since)) as (λ _. nat_le r at ≡ nat_le r since) [
        | inl was ↦ (let now : nat_le r at ≡ true = grind (arith, nat_tests) in now ∙ sym was)
        | inr ahead ↦
            let is = cond-false (nat_le r since) NEVER r ahead in
            let here : at < r = omega (arith, h, is) in
            let now : nat_le r at ≡ false = grind (arith, nat_tests) in
            now ∙ sym ahead
      ]

  due_same : at < own → is_due p at x ≡ is_due p since x
  unfolding is_due
  due_same h = ap (λ b. not x.out && b) (try_same x.attempt h)

  -- what it waits for
  never : min last last ≡ min last NEVER
  never = never_waits margin e need p at x low

  try_left_waits : (o : Option Try) → at < try_left p since x o → min last (try_at p at last x o) ≡ min last (try_left p since x o)
  try_left_waits None h = never
  try_left_waits (Some t) h =
      let r = ready p x t in
      elim (cases_Bool (nat_le r since)) as (λ _. min last (if nat_lt at r then r else last) ≡ min last (if nat_le r since then NEVER else r)) [
        | inl was ↦
            let past : nat_lt at r ≡ false = grind (arith, nat_tests) in
            ap (min last) (cond-false (nat_lt at r) r last past) ∙ never ∙ sym (ap (min last) (cond-true (nat_le r since) NEVER r was))
        | inr ahead ↦
            let is = cond-false (nat_le r since) NEVER r ahead in
            let here : at < r = omega (arith, h, is) in
            let test : nat_lt at r ≡ true = grind (arith, nat_tests) in
            ap (min last) (cond-true (nat_lt at r) r last test) ∙ sym (ap (min last) is)
      ]

  or_true : (b : Bool) → b || true ≡ true
  or_true true = refl
  or_true false = refl

  -- its request is out
  left_out : is_failed_try x.attempt ≡ false → x.out ≡ true → IsLeft margin e need p since at x NEVER
  left_out settled out = record {
    settled = is_settled margin e need p at x settled;
    pressed = stays margin e need p at x (out_fresh margin e need p at x out) (ap (λ b. wants x need || b) out ∙ or_true (wants x need));
    shut = opens_none margin e need p at x (out_fresh margin e need p at x out);
    due = out_due margin e need p at x out ∙ sym (out_due margin e need p since x out);
    waits = ap (min last) (next_out margin e need p at x low out) ∙ never;
  }

  -- it is wanted
  left_wanted :
      is_failed_try x.attempt ≡ false → x.out ≡ false → wants x need ≡ true → at < own → at < time_due margin e x → IsLeft margin e need p since at x (min own (time_due margin e x))
  left_wanted settled free wanted ahead yet =
      let old = not_yet margin e need p at x low yet in record {
        settled = is_settled margin e need p at x settled;
        pressed = stays margin e need p at x old (ap (λ b. b || x.out) wanted);
        shut = opens_none margin e need p at x old;
        due = due_same ahead;
        waits =
            let a = next_free margin e need p at x low free in
            let b = try_left_waits x.attempt ahead in
            let d = time_waits margin e need p at x low wanted in
            omega (arith, a, b, d);
      }

  -- it is wanted no more, and has nothing to be let go
  left_loose :
      is_failed_try x.attempt ≡ false → x.out ≡ false → wants x need ≡ false → is_owed_alone x.owes x.attempt ≡ true → at < own → IsLeft margin e need p since at x own
  left_loose settled free unwanted alone ahead =
      let old = unwanted_fresh margin e need p at x unwanted in record {
        settled = is_settled margin e need p at x settled;
        pressed = is_kept margin e need p at x old (ap₂ (λ b d. b || d) unwanted free) alone;
        shut = opens_none margin e need p at x old;
        due = due_same ahead;
        waits =
            let a = next_free margin e need p at x low free in
            let b = try_left_waits x.attempt ahead in
            let d = idle_time margin e need p at x low unwanted in
            omega (arith, a, b, d);
      }

  abbrev loose : ℕ
  loose = if is_owed_alone x.owes x.attempt then own else 0

  abbrev both : ℕ
  both = min own (time_due margin e x)

  abbrev free_left : ℕ
  free_left = if wants x need then both else loose

  abbrev any_left : ℕ
  any_left = if x.out then NEVER else free_left

  loose_is : is_failed_try x.attempt ≡ false → x.out ≡ false → wants x need ≡ false → at < loose → IsLeft margin e need p since at x loose
  loose_is settled free unwanted ahead =
      elim (cases_Bool (is_owed_alone x.owes x.attempt)) as (λ _. IsLeft margin e need p since at x loose) [
        | inl alone ↦
            let is = cond-true (is_owed_alone x.owes x.attempt) own 0 alone in
            subst (IsLeft margin e need p since at x) (sym is) (left_loose settled free unwanted alone (subst (λ n. at < n) is ahead))
        | inr other ↦ absurd (let is = cond-false (is_owed_alone x.owes x.attempt) own 0 other in omega (arith, ahead, is))
      ]

  free_is : is_failed_try x.attempt ≡ false → x.out ≡ false → at < free_left → IsLeft margin e need p since at x free_left
  free_is settled free ahead =
      elim (cases_Bool (wants x need)) as (λ _. IsLeft margin e need p since at x free_left) [
        | inl wanted ↦
            let is = cond-true (wants x need) both loose wanted in
            let before = subst (λ n. at < n) is ahead in
            subst (IsLeft margin e need p since at x) (sym is) (left_wanted settled free wanted (omega (arith, before)) (omega (arith, before)))
        | inr unwanted ↦
            let is = cond-false (wants x need) both loose unwanted in
            subst (IsLeft margin e need p since at x) (sym is) (loose_is settled free unwanted (subst (λ n. at < n) is ahead))
      ]

  any_is : is_failed_try x.attempt ≡ false → at < any_left → IsLeft margin e need p since at x any_left
  any_is settled ahead =
      elim (cases_Bool x.out) as (λ _. IsLeft margin e need p since at x any_left) [
        | inl out ↦ subst (IsLeft margin e need p since at x) (sym (cond-true x.out NEVER free_left out)) (left_out settled out)
        | inr free ↦
            let is = cond-false x.out NEVER free_left free in
            subst (IsLeft margin e need p since at x) (sym is) (free_is settled free (subst (λ n. at < n) is ahead))
      ]

  pub left_is : at < left_at margin e need p since x → IsLeft margin e need p since at x (left_at margin e need p since x)
  unfolding left_at
  left_is ahead =
      elim (cases_Bool (is_failed_try x.attempt)) as (λ _. IsLeft margin e need p since at x (if is_failed_try x.attempt then 0 else any_left)) [
        | inl failed ↦ absurd (let is = cond-true (is_failed_try x.attempt) 0 any_left failed in omega (arith, ahead, is))
        | inr settled ↦
            let is = cond-false (is_failed_try x.attempt) 0 any_left settled in
            subst (IsLeft margin e need p since at x) (sym is) (any_is settled (subst (λ n. at < n) is ahead))
      ]

-- how long answers take does not matter to it
try_at_paced : (p : Presence) (pace at most : ℕ) (x : Track) (o : Option Try) → try_at (record p { pace = pace }) at most x o ≡ try_at p at most x o
unfolding ready
try_at_paced p pace at most x None = refl
try_at_paced p pace at most x (Some t) = refl

pub next_paced : (margin : ℕ) (e : Entry) (need : ℕ) (p : Presence) (pace at : ℕ) (x : Track) → next_of margin e need (record p { pace = pace }) at x ≡ next_of margin e need p at x
unfolding next_of
next_paced margin e need p pace at x =
    ap (λ n. if x.out then latest margin at else min n (time_at margin e x need (latest margin at))) (try_at_paced p pace at (latest margin at) x x.attempt)

due_try_paced : (p : Presence) (pace at : ℕ) (x : Track) (o : Option Try) → is_due_try (record p { pace = pace }) at x o ≡ is_due_try p at x o
unfolding ready
due_try_paced p pace at x None = refl
due_try_paced p pace at x (Some t) = refl

pub is_due_paced : (p : Presence) (pace at : ℕ) (x : Track) → is_due (record p { pace = pace }) at x ≡ is_due p at x
unfolding is_due
is_due_paced p pace at x = ap (λ b. not x.out && b) (due_try_paced p pace at x x.attempt)

abbrev place_by : ℕ → ℕ → ℕ → Place
place_by part rank i = record { part = part; rank = rank; entry = i }

-- nor does the second, as long as neither its time comes nor its end passes, to where it stands
pub place_on :
    (margin : ℕ) (e : Entry) (away : Bool) (now then' i : ℕ) (x : Track) (o : Option Try) → is_alive now x ≡ is_alive then' x → has_come margin e x now ≡ has_come margin e x then' →
    place_of margin e away now i x o ≡ place_of margin e away then' i x o
place_on margin e away now then' i x None same come = refl
place_on margin e away now then' i x (Some t) same come =
    ap₂
    (λ b d. place_by (if is_first t then (if is_same t.operation Renew && not d then 4 else ((if away then 2 else 0) + (if b then 0 else 1))) else part_of_later away t) (rank x t) i)
    same come
