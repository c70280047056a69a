-- When those that are out have to be looked at again: for `due` and `go_on` of them all.
use Rattle.std.proofs.Common.{◌≡◌, ℕ, ◌<◌, ◌≤◌, ◌^◌, Bool, true, false, cond, not, filter, List, [], ◌∷◌, Option, Result, Ok, Err, IfOk, OnOk, min, if◌then◌else◌, arith, ap, ◌∙◌, ◌||◌, refl, subst, sym}
use Rattle.std.specs.List.{list_any}
use Rattle.vault_lanes.specs.{declared.reason.ConnectReason.ConnectReason, Allowed.deadline, Allowed.millis_after, Out.IsDueAfter, Seats.AreTakenOut, declared.lanes.Answered.Answered, declared.seats.Seat.Seat, declared.way.Way.Way}
use Rattle.vault_lanes.specs.code.Ways.{AreAhead, DeadlineIsAhead, Move, is_way_over, sooner, soonest, soonest_or_now}
use Rattle.vault_lanes.specs.declared.way.Way.TheVariants.{Out, Over}

-- those that went on have their deadlines ahead
moved_ahead : {L : Type 0} (written remaining : L → Option (List ℕ)) (failures : L → Option ℕ) (reason : L → ConnectReason) (now : ℕ) (old new : List (Seat (Way L))) → Move written remaining failures reason now old new → AreAhead now new
moved_ahead written remaining failures reason now [] new h = subst (λ l. AreAhead now l) (sym h) tt
moved_ahead written remaining failures reason now (o ∷ os) [] h = absurd h
moved_ahead written remaining failures reason now (o ∷ os) (x ∷ xs) h = (h.0.1.1, moved_ahead written remaining failures reason now os xs h.1)

pub back_ahead : {L X E : Type 0} (written remaining : L → Option (List ℕ)) (failures : L → Option ℕ) (reason : L → ConnectReason) (now : ℕ) (r : Result X E) (old new back : List (Seat (Way L))) → back ≡ new → OnOk r (Move written remaining failures reason now old new)
    → OnOk r (AreAhead now back)
back_ahead written remaining failures reason now (Ok x) old new back is h = subst (λ l. AreAhead now l) (sym is) (moved_ahead written remaining failures reason now old new h)
back_ahead written remaining failures reason now (Err e) old new back is h = tt

module _ {L : Type 0} (restless : L → Bool) (now : ℕ) where
  -- a moment that is no later
  one_within : (b : Bool) (x moment : ℕ) → (if b then min (min moment x) (millis_after now 20) else min moment x) ≤ moment
  one_within true x moment = omega arith
  one_within false x moment = omega arith

  sooner_within : (way : Way L) (moment : ℕ) → sooner restless now moment way ≤ moment
  sooner_within (Over a) moment = omega arith
  sooner_within (Out lane) moment = one_within (restless lane.line) (deadline lane.course.allowance lane.course.stage) moment

  pub soonest_within : (seats : List (Seat (Way L))) (moment : ℕ) → soonest restless now moment seats ≤ moment
  soonest_within [] moment = omega arith
  soonest_within (s ∷ ss) moment =
      let first : sooner restless now moment s.standing ≤ moment = sooner_within s.standing moment in
      let others : soonest restless now (sooner restless now moment s.standing) ss ≤ sooner restless now moment s.standing = soonest_within ss (sooner restless now moment s.standing) in
      omega arith

  -- and one that is ahead
  one_ahead : (b : Bool) (x moment : ℕ) → now < x → now < moment → moment < 2 ^ 64 → now < (if b then min (min moment x) (millis_after now 20) else min moment x)
  one_ahead true x moment first later bound = omega arith
  one_ahead false x moment first later bound = omega arith

  sooner_ahead : (way : Way L) (moment : ℕ) → DeadlineIsAhead now way → now < moment → moment < 2 ^ 64 → now < sooner restless now moment way
  sooner_ahead (Over a) moment ahead later bound = later
  sooner_ahead (Out lane) moment ahead later bound = one_ahead (restless lane.line) (deadline lane.course.allowance lane.course.stage) moment ahead later bound

  abbrev left : List (Seat (Way L)) → List (Seat (Way L))
  left seats = filter (λ seat. not (is_way_over seat.standing)) seats

  ahead_test : (s : Seat (Way L)) (others : List (Seat (Way L))) (b : Bool) (moment : ℕ) → DeadlineIsAhead now s.standing → now < moment → moment < 2 ^ 64
      → ((m : ℕ) → now < m → m < 2 ^ 64 → now < soonest restless now m others) → now < soonest restless now moment (cond b (s ∷ others) others)
  ahead_test s others true moment ahead later bound h =
      let within : sooner restless now moment s.standing ≤ moment = sooner_within s.standing moment in
      h (sooner restless now moment s.standing) (sooner_ahead s.standing moment ahead later bound) (omega arith)
  ahead_test s others false moment ahead later bound h = h moment later bound

  soonest_ahead : (seats : List (Seat (Way L))) (moment : ℕ) → AreAhead now seats → now < moment → moment < 2 ^ 64 → now < soonest restless now moment (left seats)
  soonest_ahead [] moment ahead later bound = later
  soonest_ahead (s ∷ ss) moment ahead later bound = ahead_test s (left ss) (not (is_way_over s.standing)) moment ahead.0 later bound (λ m l b. soonest_ahead ss m ahead.1 l b)

  -- none of those that are left is over
  over_test : (s : Seat (Way L)) (others : List (Seat (Way L))) (b : Bool) → is_way_over s.standing ≡ b → list_any (λ seat. is_way_over seat.standing) others ≡ false
      → list_any (λ seat. is_way_over seat.standing) (cond (not b) (s ∷ others) others) ≡ false
  over_test s others true is h = h
  over_test s others false is h = ap (λ x. x || list_any (λ seat. is_way_over seat.standing) others) is ∙ h

  none_over : (seats : List (Seat (Way L))) → list_any (λ seat. is_way_over seat.standing) (left seats) ≡ false
  none_over [] = refl
  none_over (s ∷ ss) = over_test s (left ss) (is_way_over s.standing) refl (none_over ss)

  due_ahead : (seats : List (Seat (Way L))) → AreAhead now seats → IsDueAfter now (λ moment. soonest_or_now restless now moment (left seats))
  due_ahead seats ahead moment later bound =
      subst (λ b. now < (if b then min now moment else soonest restless now moment (left seats))) (sym (none_over seats)) (soonest_ahead seats moment ahead later bound)

  pub left_due : {X E : Type 0} (r : Result X E) (items : X → List Answered) (old new : List (Seat (Way L))) → AreAhead now old → IfOk r (λ a. AreTakenOut (λ way. is_way_over way) old new (items a))
      → OnOk r (IsDueAfter now (λ moment. soonest_or_now restless now moment new))
  left_due (Ok a) items old new ahead h = subst (λ l. IsDueAfter now (λ moment. soonest_or_now restless now moment l)) (sym h.left) (due_ahead old ahead)
  left_due (Err e) items old new ahead h = tt
