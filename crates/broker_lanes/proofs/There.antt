-- Those that are taken out of lanes in memory are those that are there: for `MemoryLanes`.
use Rattle.std.proofs.Common.{◌≡◌, ℕ, ◌<◌, List, [], ◌∷◌, Bool, true, false, cond, not, filter, map, nat_le, Option, None, Some, Result, Ok, Err, IfOk, OnOk, arith, refl, ap, subst, sym, ◌∙◌}
use Rattle.std.proofs.lemmas.Bool.{false≢true, leb-false}
use Rattle.base_device.specs.Moments.{earlier}
use Rattle.vault_lanes.specs.{declared.coming.Coming.Coming, declared.lanes.Answered.Answered, declared.seats.Seat.Seat}
use Rattle.vault_lanes.specs.Out.{AreThereAt, IsDueAfter, Out, first_at, is_there, is_there_at, sooner_at}
use Rattle.vault_lanes.specs.Seats.{AreTakenOut, out_of_seat, outs}

abbrev known : Seat Coming → Out
known seat = out_of_seat (λ coming. Some coming) seat

kept_or_not : (b : Bool) (s : Seat Coming) (rest : List (Seat Coming)) → map known (cond b (s ∷ rest) rest) ≡ cond b (known s ∷ map known rest) (map known rest)
kept_or_not true s rest = refl
kept_or_not false s rest = refl

filter_known : (p : Out → Bool) (seats : List (Seat Coming)) → map known (filter (λ s. p (known s)) seats) ≡ filter p (map known seats)
filter_known p [] = refl
filter_known p (s ∷ ss) = kept_or_not (p (known s)) s (filter (λ x. p (known x)) ss) ∙ ap (λ l. cond (p (known s)) (known s ∷ l) l) (filter_known p ss)

indices_known : (seats : List (Seat Coming)) → map (λ (o : Out). o.index) (map known seats) ≡ map (λ (s : Seat Coming). s.index) seats
indices_known [] = refl
indices_known (s ∷ ss) = ap (λ l. s.index ∷ l) (indices_known ss)

are_there_at : (moment : ℕ) (old new : List (Seat Coming)) (answers : List Answered) → AreTakenOut (λ (coming : Coming). nat_le coming.at moment) old new answers
    → AreThereAt moment (outs (λ coming. Some coming) old) answers (outs (λ coming. Some coming) new)
are_there_at moment old new answers taken = record {
  left = ap (map known) taken.left ∙ filter_known (λ o. not (is_there moment o)) old;
  indices = taken.indices ∙ sym (ap (map (λ (o : Out). o.index)) (sym (filter_known (is_there moment) old)) ∙ indices_known (filter (λ s. is_there moment (known s)) old));
}

pub there_at : {X E : Type 0} (r : Result X E) (items : X → List Answered) (moment : ℕ) (old new : List (Seat Coming))
    → IfOk r (λ a. AreTakenOut (λ (coming : Coming). nat_le coming.at moment) old new (items a)) → IfOk r (λ a. AreThereAt moment (outs (λ coming. Some coming) old) (items a) (outs (λ coming. Some coming) new))
there_at (Ok a) items moment old new h = are_there_at moment old new (items a) h
there_at (Err e) items moment old new h = tt

-- ---- what is left is due later

abbrev ahead : ℕ → Option ℕ → Type 0
ahead now None = Unit {0}
ahead now (Some moment) = now < moment

away : (b : Bool) → not b ≡ true → b ≡ false
away true is = absurd (false≢true is)
away false is = refl

first_ahead : (now at : ℕ) (others : Option ℕ) → now < at → ahead now others → now < earlier at others
first_ahead now at None first h = first
first_ahead now at (Some m) first h = omega (arith, first, h)

still_ahead : (now : ℕ) (c : Option Coming) (others : Option ℕ) → not (is_there_at now c) ≡ true → ahead now others → ahead now (sooner_at c others)
still_ahead now None others is h = h
still_ahead now (Some c) others is h = first_ahead now c.at others (leb-false c.at now (away (nat_le c.at now) is)) h

abbrev left : ℕ → List Out → List Out
left now os = filter (λ o. not (is_there now o)) os

by_test : (now : ℕ) (o : Out) (b : Bool) (os : List Out) → not (is_there now o) ≡ b → ahead now (first_at os) → ahead now (first_at (cond b (o ∷ os) os))
by_test now o true os is h = still_ahead now o.comes (first_at os) is h
by_test now o false os is h = h

left_ahead : (now : ℕ) (os : List Out) → ahead now (first_at (left now os))
left_ahead now [] = tt
left_ahead now (o ∷ os) = by_test now o (not (is_there now o)) (left now os) refl (left_ahead now os)

pub left_due : {X E : Type 0} (r : Result X E) (items : X → List Answered) (now : ℕ) (old new : List Out) → IfOk r (λ a. AreThereAt now old (items a) new)
    → OnOk r (IsDueAfter now (λ due. earlier due (first_at new)))
left_due (Ok a) items now old new h = λ due later bound. first_ahead now due (first_at new) later (subst (λ l. ahead now (first_at l)) (sym h.left) (left_ahead now old))
left_due (Err e) items now old new h = tt
