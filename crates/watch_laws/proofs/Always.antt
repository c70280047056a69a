-- Always: what holds of every state that a run leads to, and of every turn from it on. For the laws of owed lookups, retries, failures, the width
-- and changes.
use Rattle.std.proofs.Common.{◌≡◌, ℕ, ◌≤◌, Bool, true, false, cond, ◌==◌, List, [], ◌∷◌, filter, length, refl, ap, subst, arith}
use Rattle.watch_machine.specs.{declared.lanes.Out.Out, State.WatchState, State.opened}
use Rattle.watch_laws.specs.{Changes.AreUnderOthers, Changes.ChangeLaw, Failures.StaysLostLaw, Load.WidthLaw, Waiting.OwedLaw, Waiting.RetryLaw}
use Rattle.watch_laws.proofs.{Alone.lanes_of, Bases.changed_fits, Bases.reached_base, Following.reached_counted, Marked.none_of, Owed.ran_owed, Reached.all_keep, Retrying.ran_lost, Retrying.ran_retried, Spacing.same_index}
use Rattle.watch_laws.proofs.{Width.Fits, Width.turn_fits}
use Rattle.watch_laws.proofs.Changing.{are_moved, keeps_all, keeps_but_top, keeps_request, nobody, nothing_else, watched_anew}

pub all_owed : OwedLaw
all_owed old turns reached h = ran_owed turns old h (reached_base old reached).tries

pub retried : RetryLaw
retried old turns reached h = ran_retried turns old h (reached_base old reached).past

pub stays_lost : StaysLostLaw
stays_lost old turns reached h = ran_lost turns old h (reached_base old reached).past

-- no more requests are out than the width
pub width : WidthLaw
width s r =
    subst (λ (x : WatchState). length x.out ≤ r.width) r.leads
    (all_keep (Fits r.width) (turn_fits r.width) (λ old c h. changed_fits old c h r.width) r.run (opened r.forest r.width) r.is_run (refl, omega arith)).1

-- no two requests are out under one index
no_other : (out : List Out) → ((i : ℕ) → lanes_of i out ≤ 1) → AreUnderOthers out
no_other [] once = tt
no_other (r ∷ rest) once =
    let under : ℕ → List Out = λ i. filter (λ (q : Out). q.entry == i) rest in
    let few = once r.entry in
    let one : lanes_of r.entry (r ∷ rest) ≡ length (r ∷ under r.entry) = ap (λ b. length (cond b (r ∷ under r.entry) (under r.entry))) (same_index r.entry) in
    let none : lanes_of r.entry rest ≡ 0 = omega (arith, one, few) in
    (none_of r.entry rest none, no_other rest (λ i. let all = once i in let less = fewer (r.entry == i) (under i) in omega (arith, all, less))) where
      fewer : (b : Bool) (xs : List Out) → length xs ≤ length (cond b (r ∷ xs) xs)
      fewer true xs = omega arith
      fewer false xs = omega arith

pub change_so : ChangeLaw
change_so = record {
  same = λ old c i j forest h said. keeps_all old c h i j forest said;
  retold = λ old c i j h said. (keeps_but_top old c h i j said, keeps_request old c h i j said);
  anew = λ old c j h within said. watched_anew old c h j within said;
  requests = λ old c h. are_moved old c h;
  apart = λ s reached. no_other s.out (reached_base s reached).alone.single;
  rest = λ old c h. nothing_else old c h;
  nobody = λ old turn i reached h past is. nobody old turn.state turn.event turn.result i h.0 (reached_counted old reached) past is;
}
