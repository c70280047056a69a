-- Coming: entries that come up one after another. For `look`, and for whoever holds a scout.
use Rattle.std.proofs.Common.{◌≡◌, ◌∙◌, ℕ, zero, suc, ◌+◌, ◌-◌, ◌<◌, true, false, Option, Some, None, length, nat_lt, refl, ap, arith, inl, inr}
use Rattle.std.proofs.lemmas.List.{length-set}
use Rattle.std.proofs.lemmas.Bool.{and_from, cases_Bool, cond-false, cond-true}
use Rattle.watch_machine.specs.{State.WatchState, Wanted.is_wanted}
use Rattle.watch_machine.proofs.Cases.{if_both, not_both}
use Rattle.watch_scout.specs.{Hearing.freed, Hearing.freed_where, State.ScoutState, State.seen_at}
use Rattle.watch_scout.specs.Looking.{Found, came_up, first_from, found, goes_out, had_look, is_at_hand, looked_up, passed_over}

-- there is one more to come
one_left : (i n : ℕ) → i < n → n - i ≡ suc (n - suc i)
one_left i n within = omega (arith, within)

-- the lookup of the first one goes out, or the next one comes up
pub first_goes : (w : WatchState) (i n : ℕ) (s : ScoutState) → i < n → goes_out s w i ≡ true → first_from w i (n - i) s ≡ record { entry = Some i; state = came_up s w i }
first_goes w i n s within goes =
    let here : Found = record { entry = Some i; state = came_up s w i } in
    ap (λ k. first_from w i k s) (one_left i n within) ∙ cond-true (goes_out s w i) here (first_from w (suc i) (n - suc i) (came_up s w i)) goes

pub next_comes : (w : WatchState) (i n : ℕ) (s : ScoutState) → i < n → goes_out s w i ≡ false → first_from w i (n - i) s ≡ first_from w (i + 1) (n - (i + 1)) (came_up s w i)
next_comes w i n s within goes =
    let here : Found = record { entry = Some i; state = came_up s w i } in
    let after : suc i ≡ i + 1 = omega arith in
    ap (λ k. first_from w i k s) (one_left i n within) ∙ cond-false (goes_out s w i) here (first_from w (suc i) (n - suc i) (came_up s w i)) goes
    ∙ ap (λ j. first_from w j (n - j) (came_up s w i)) after

-- each is still seen
pub all_seen : (s : ScoutState) (w : WatchState) (i : ℕ) → length (came_up s w i).seen ≡ length s.seen
all_seen s w i =
    if_both (λ (t : ScoutState). length t.seen ≡ length s.seen) (is_at_hand s w i) (had_look s w i) s
    (if_both (λ (t : ScoutState). length t.seen ≡ length s.seen) (is_wanted w i) (looked_up s w i) (passed_over s w i) (length-set s.seen i _) (length-set s.seen i _)) refl

-- where no lookup goes out, as many lanes are free
pub none_out : (s : ScoutState) (w : WatchState) (i : ℕ) → goes_out s w i ≡ false → (came_up s w i).out ≡ s.out
none_out s w i stays =
    elim (cases_Bool (is_at_hand s w i)) as (λ _. (came_up s w i).out ≡ s.out) [
      | inl at_hand ↦
          elim (cases_Bool (is_wanted w i)) as (λ _. (came_up s w i).out ≡ s.out) [
            | inl wanted ↦ absurd (not_both (and_from (is_at_hand s w i) (is_wanted w i) at_hand wanted) stays)
            | inr unwanted ↦ ap (λ (t : ScoutState). t.out) (cond-true (is_at_hand s w i) (had_look s w i) s at_hand ∙ cond-false (is_wanted w i) (looked_up s w i) (passed_over s w i) unwanted)
          ]
      | inr away ↦ ap (λ (t : ScoutState). t.out) (cond-false (is_at_hand s w i) (had_look s w i) s away)
    ]

pub same_width : (s : ScoutState) (w : WatchState) (i : ℕ) → (came_up s w i).width ≡ s.width
same_width s w i =
    if_both (λ (t : ScoutState). t.width ≡ s.width) (is_at_hand s w i) (had_look s w i) s
    (if_both (λ (t : ScoutState). t.width ≡ s.width) (is_wanted w i) (looked_up s w i) (passed_over s w i) refl refl) refl

first_seen : (w : WatchState) (i n : ℕ) (s : ScoutState) → length (first_from w i n s).state.seen ≡ length s.seen
first_seen w i zero s = refl
first_seen w i (suc n) s =
    let here : Found = record { entry = Some i; state = came_up s w i } in
    if_both (λ (f : Found). length f.state.seen ≡ length s.seen) (goes_out s w i) here (first_from w (suc i) n (came_up s w i)) (all_seen s w i) (first_seen w (suc i) n (came_up s w i) ∙ all_seen s w i)

pub found_seen : (s : ScoutState) (w : WatchState) (from : ℕ) → length (found s w from).state.seen ≡ length s.seen
unfolding found
found_seen s w from =
    let none : Found = record { entry = None; state = s } in
    if_both (λ (f : Found). length f.state.seen ≡ length s.seen) (nat_lt s.out s.width) (first_from w from (length w.forest.entries - from) s) none (first_seen w from (length w.forest.entries - from) s) refl

freed_seen_where : (s : ScoutState) (i : ℕ) (since : Option ℕ) → length (freed_where s i since).seen ≡ length s.seen
freed_seen_where s i None = refl
freed_seen_where s i (Some since) = length-set s.seen i _

pub freed_seen : (s : ScoutState) (i : ℕ) → length (freed s i).seen ≡ length s.seen
unfolding freed
freed_seen s i = freed_seen_where s i (seen_at s i).since
