-- Each of those that are out goes on for itself: for `go_on` of them all.
use Rattle.std.proofs.Common.{◌≡◌, ℕ, zero, suc, vec_capacity, ◌<◌, ◌+◌, Some, List, [], ◌∷◌, ◌++◌, filter, length, take, drop, get_or, set, Option, None, Result, Ok, Err, IfOk, OnErr, OnOk, ◌≤◌, ◌⊎◌, inl, inr, take-append-drop, refl, sym, subst, ap, ◌∙◌, arith}
use Rattle.std.proofs.lemmas.Grind.{drop_more_same}
use Rattle.std.proofs.lemmas.List.{drop-set-lt, drop_more, length-take-le, set_at, take_more_set}
use Rattle.std.proofs.Math.Seq.{take-add}
use Rattle.vault_lanes.specs.{declared.reason.ConnectReason.ConnectReason, Losses.Answer, declared.allowance.Allowance.Allowance, declared.lane.Lane.Lane, declared.lanes.Answered.Answered, declared.seats.Seat.Seat, declared.way.Way.Way}
use Rattle.vault_lanes.specs.Seats.{AreTakenOut, answers_of, out_of_seat, outs}
use Rattle.vault_lanes.specs.code.Ways.{DeadlineIsAhead, GoOnUpTo, HasBegun, HasUnjudged, LaneGoesOn, LaneIsFresh, LaneWants, Move, WayHasRoom, WayHolds, WayMoves, WaysGoOn, WayWants, answer_of_way, is_way_over}
use Rattle.vault_lanes.specs.declared.way.Way.TheVariants.{Out, Over}
use Rattle.vault_lanes.specs.Out as outs_of

-- what holds anyway holds where it is refused
pub on_refused : {X E A : Type 0} (r : Result X E) → A → OnErr r A
on_refused (Ok x) a = tt
on_refused (Err e) a = a

pub refused_then : {X E : Type 0} (A B : Type 0) (r : Result X E) → OnErr r (A → B) → A → OnErr r B
refused_then A B (Ok x) h a = tt
refused_then A B (Err e) h a = h a

module _ {L : Type 0} (written remaining : L → Option (List ℕ)) (failures : L → Option ℕ) (reason : L → ConnectReason) (now : ℕ) where
  pub move_more : (old new : List (Seat (Way L))) (s n : Seat (Way L)) → Move written remaining failures reason now old new
      → (n.index ≡ s.index) × (WayMoves written remaining failures reason now s.standing n.standing × DeadlineIsAhead now n.standing) → Move written remaining failures reason now (old ++ s ∷ []) (new ++ n ∷ [])
  move_more [] new s n h one = subst (λ l. Move written remaining failures reason now (s ∷ []) (l ++ n ∷ [])) (sym h) (one, refl)
  move_more (o ∷ os) [] s n h one = absurd h
  move_more (o ∷ os) (x ∷ xs) s n h one = (h.0, move_more os xs s n h.1 one)

  pub rest_next : (old out : List (Seat (Way L))) (i : ℕ) (n : Seat (Way L)) → drop i out ≡ drop i old → drop (i + 1) (set out i n) ≡ drop (i + 1) old
  rest_next old out i n rest = drop-set-lt (i + 1) out i n (omega arith) ∙ drop_more_same out old i rest

  pub move_next : (old out : List (Seat (Way L))) (i : ℕ) (d n : Seat (Way L)) → i < length out → drop i out ≡ drop i old
      → Move written remaining failures reason now (take i old) (take i out) → WayMoves written remaining failures reason now (get_or out i d).standing n.standing → DeadlineIsAhead now n.standing
      → n.index ≡ (get_or out i d).index → Move written remaining failures reason now (take (i + 1) old) (take (i + 1) (set out i n))
  move_next old out i d n within rest h moved ahead same =
      let s = get_or out i d in
      let here : drop i old ≡ s ∷ drop (i + 1) out = sym rest ∙ drop_more out i d within in
      let front : take (i + 1) old ≡ take i old ++ s ∷ [] = take-add i 1 old ∙ ap (λ l. take i old ++ take 1 l) here in
      subst (λ l. Move written remaining failures reason now l (take (i + 1) (set out i n))) (sym front)
      (subst (λ l. Move written remaining failures reason now (take i old ++ s ∷ []) l) (sym (take_more_set out i n within))
      (move_more (take i old) (take i out) s n h (same, (moved, ahead))))

  -- one goes on, and is answered
  pub moves_over : (old : Way L) (lane next : Lane L) (got : Option Answer) (a : Answer) → old ≡ Out lane → got ≡ Some a → LaneGoesOn written remaining failures reason now lane next got
      → WayMoves written remaining failures reason now old (Over a)
  moves_over old lane next got a is answered goes =
      subst (λ w. WayMoves written remaining failures reason now w (Over a)) (sym is) (next, subst (λ g. LaneGoesOn written remaining failures reason now lane next g) answered goes)

-- one that goes on from its begin has begun
pub begun : {L E : Type 0} (written remaining : L → Option (List ℕ)) (failures : L → Option ℕ) (reason : L → ConnectReason) (text : List ℕ) (allowance : Allowance) (lane : Lane L) (way : Way L) (r : Result Unit E) → LaneIsFresh written text allowance lane
    → OnOk r (WayMoves written remaining failures reason allowance.asked (Out lane) way) → OnErr r (WayWants written remaining failures (Out lane) way) → OnErr r (WayHolds way) → HasBegun written remaining failures reason text allowance way
begun written remaining failures reason text allowance lane way (Ok x) fresh goes wants holds = (lane, (fresh, inl goes))
begun written remaining failures reason text allowance lane way (Err e) fresh goes wants holds = (lane, (fresh, inr (wants, holds)))

-- memory is wanting to one behind those that went on
module _ {L : Type 0} (written remaining : L → Option (List ℕ)) (failures : L → Option ℕ) (reason : L → ConnectReason) (now : ℕ) where
  moved_up_to : (old new rest : List (Seat (Way L))) (s n : Seat (Way L)) → Move written remaining failures reason now old new → n.index ≡ s.index → WayWants written remaining failures s.standing n.standing
      → GoOnUpTo written remaining failures reason now (old ++ s ∷ rest) (new ++ n ∷ rest)
  moved_up_to [] new rest s n h same wants = subst (λ l. GoOnUpTo written remaining failures reason now (s ∷ rest) (l ++ n ∷ rest)) (sym h) (same, inl (wants, refl))
  moved_up_to (o ∷ os) [] rest s n h same wants = absurd h
  moved_up_to (o ∷ os) (x ∷ xs) rest s n h same wants = (h.0.0, inr (h.0.1.0, (h.0.1.1, moved_up_to os xs rest s n h.1 same wants)))

  pub up_to : (old out : List (Seat (Way L))) (i : ℕ) (d n : Seat (Way L)) → i < length out → drop i out ≡ drop i old → Move written remaining failures reason now (take i old) (take i out)
      → n.index ≡ (get_or out i d).index → WayWants written remaining failures (get_or out i d).standing n.standing → GoOnUpTo written remaining failures reason now old (set out i n)
  up_to old out i d n within rest h same wants =
      let s = get_or out i d in
      let behind = drop (i + 1) out in
      let was : old ≡ take i old ++ s ∷ behind = sym (take-append-drop i old) ∙ ap (λ l. take i old ++ l) (sym rest ∙ drop_more out i d within) in
      let parts : out ≡ take i out ++ s ∷ behind = sym (take-append-drop i out) ∙ ap (λ l. take i out ++ l) (drop_more out i d within) in
      let long : length (take i out) ≡ i = length-take-le i out (omega arith) in
      let is : set out i n ≡ take i out ++ n ∷ behind = ap (λ l. set l i n) parts ∙ set_at (take i out) s behind n i long in
      subst (λ l. GoOnUpTo written remaining failures reason now l (set out i n)) (sym was)
      (subst (λ l. GoOnUpTo written remaining failures reason now (take i old ++ s ∷ behind) l) (sym is) (moved_up_to (take i old) (take i out) behind s n h same wants))

-- and one is left so
pub wants_as : {L : Type 0} (written remaining : L → Option (List ℕ)) (failures : L → Option ℕ) (old : Way L) (lane next : Lane L) → old ≡ Out lane → LaneWants written remaining failures lane next → WayWants written remaining failures old (Out next)
wants_as written remaining failures old lane next is h = subst (λ w. WayWants written remaining failures w (Out next)) (sym is) h

pub holds_as : {L : Type 0} (n : ℕ) (old : Way L) (lane next : Lane L) → old ≡ Out lane → (n ≤ vec_capacity lane.course.piece → HasUnjudged next) → WayHasRoom n old → WayHolds (Out next)
holds_as n old lane next is h room = h (subst (WayHasRoom n) is room)

-- a change of one under its index
pub outs_set : {L : Type 0} (out : List (Seat (Way L))) (i : ℕ) (d n : Seat (Way L)) → n.index ≡ (get_or out i d).index → outs (λ _. None) (set out i n) ≡ outs (λ _. None) out
outs_set [] i d n e = refl
outs_set (o ∷ os) zero d n e = ap (λ (i : ℕ). let it : outs_of.Out = record { index = i; comes = None } in it ∷ outs (λ _. None) os) e
outs_set (o ∷ os) (suc i) d n e = ap (λ l. out_of_seat (λ _. None) o ∷ l) (outs_set os i d n e)

-- those that are over are handed back, and the others are left
pub gone_on : {L X E : Type 0} (written remaining : L → Option (List ℕ)) (failures : L → Option ℕ) (reason : L → ConnectReason) (now : ℕ) (r : Result X E) (items : X → List Answered) (old gone new : List (Seat (Way L)))
    → Move written remaining failures reason now old gone → IfOk r (λ x. items x ≡ answers_of (λ (way : Way L). answer_of_way way) (filter (λ (seat : Seat (Way L)). is_way_over seat.standing) gone)) → IfOk r (λ x. AreTakenOut (λ (way : Way L). is_way_over way) gone new (items x))
    → IfOk r (λ x. WaysGoOn written remaining failures reason now (items x) old new)
gone_on written remaining failures reason now (Ok x) items old gone new moved said there = record { gone = gone; moved = moved; answers_are = said; left = there.left }
gone_on written remaining failures reason now (Err e) items old gone new moved said there = tt

-- and where they are lent for it
pub back_moved : {L X E : Type 0} (written remaining : L → Option (List ℕ)) (failures : L → Option ℕ) (reason : L → ConnectReason) (now : ℕ) (r : Result X E) (old lent new back : List (Seat (Way L))) → lent ≡ old → back ≡ new
    → OnOk r (Move written remaining failures reason now lent new) → OnOk r (Move written remaining failures reason now old back)
back_moved written remaining failures reason now (Ok x) old lent new back was is h =
    subst (λ l. Move written remaining failures reason now l back) was (subst (λ l. Move written remaining failures reason now lent l) (sym is) h)
back_moved written remaining failures reason now (Err e) old lent new back was is h = tt

pub back_up_to : {L X E : Type 0} (written remaining : L → Option (List ℕ)) (failures : L → Option ℕ) (reason : L → ConnectReason) (now : ℕ) (r : Result X E) (old lent new back : List (Seat (Way L))) → lent ≡ old → back ≡ new
    → OnErr r (GoOnUpTo written remaining failures reason now lent new) → OnErr r ((back ≡ old) ⊎ GoOnUpTo written remaining failures reason now old back)
back_up_to written remaining failures reason now (Ok x) old lent new back was is h = tt
back_up_to written remaining failures reason now (Err e) old lent new back was is h =
    inr (subst (λ l. GoOnUpTo written remaining failures reason now l back) was (subst (λ l. GoOnUpTo written remaining failures reason now lent l) (sym is) h))
