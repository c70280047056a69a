-- Topped: the last grants of an entry, wherever it stood when they came. For the law of the top.
use Rattle.std.proofs.Common.{◌≡◌, ℕ, ◌<◌, List, [], ◌∷◌, ◌++◌, Option, Some, None, length, refl, sym, ap, subst, arith}
use Rattle.std.proofs.lemmas.List.{append_assoc, length-map}
use Rattle.plan_forest.specs.Forest.{Forest}
use Rattle.watch_machine.specs.{declared.track.Track.Track, Change.former_at}
use Rattle.watch_machine.specs.History.{AllHappen, Changed, Changes, Happening, Hands, IsChanged, Turn, Turned, state_after_all, stood, stood_at_some}
use Rattle.watch_machine.specs.State.{WatchState, fresh_track, opened, track_at}
use Rattle.watch_laws.specs.Tops.{Granted, ToppedLaw, grant_of_some, grants_through}
use Rattle.watch_laws.proofs.Following.{IsCounted, changed_counted, changed_tracks, kept_over, new_over, opened_counted, reached_counted, stays_there, turn_counted}
use Rattle.watch_laws.proofs.Topping.{Kept, first_track, lower_kept, none_more, owed_lower, turn_count, turn_kept}

-- what its track tells of its grants, where it stands; there are none of one that is not there yet
abbrev KeptAt : WatchState → Option ℕ → List Granted → Type 0
KeptAt s None gs = gs ≡ []
KeptAt s (Some i) gs = i < length s.tracks → Kept gs (track_at s i)

turn_at : (old : WatchState) (turn : Turned) (e : Option ℕ) (gs : List Granted) → Turn old turn.event turn.result turn.state → KeptAt old e gs → KeptAt turn.state e (gs ++ grant_of_some e turn)
turn_at old turn None gs h none = ap (λ xs. xs ++ []) none
turn_at old turn (Some i) gs h kept = λ within.
    let count = turn_count old turn.state turn.event turn.result h in
    let low : i < length old.tracks = omega (arith, count, within) in
    turn_kept old turn.state turn.event turn.result i gs h low (kept low)

changed_at : (old : WatchState) (c : Changed) → IsChanged old c → (e : Option ℕ) (gs : List Granted) → IsCounted old → KeptAt old (stood_at_some (Changes c) e) gs → KeptAt c.state e gs
changed_at old c h None gs count none = none
changed_at old c h (Some j) gs count kept = λ within. by (former_at c.was j) refl kept within where
  by : (was : Option ℕ) → former_at c.was j ≡ was → KeptAt old was gs → j < length c.state.tracks → Kept gs (track_at c.state j)
  by None said none within =
      subst (λ xs. Kept xs (track_at c.state j)) (sym none)
      (new_over old c h (Kept []) (λ e. record { last = tt; topped = λ top. absurd cc }) j (let many = changed_tracks old c h in omega (arith, many, within)) said)
  by (Some i) said kept' within =
      kept_over old c h (λ (y x : Track). Kept gs x → Kept gs y) (λ x k. k) (λ x k. lower_kept gs _ x (owed_lower old.clocks.at x) k) i j said
      (kept' (let there = h.may.within i j said in omega (arith, there, count)))

ran : (k : ℕ) (hs : List Happening) (old : WatchState) (gs : List Granted) → AllHappen old hs → IsCounted old → KeptAt old (stood hs k) gs → KeptAt (state_after_all old hs) (Some k) (gs ++ grants_through k hs)
ran k [] old gs h count kept = λ within. none_more gs (track_at old k) (kept within)
ran k (Hands turn ∷ hs) old gs h count kept =
    let e = stood hs k in
    let here = turn_at old turn e gs h.0 (subst (λ d. KeptAt old d gs) (stays_there turn e) kept) in
    let rest = ran k hs turn.state (gs ++ grant_of_some e turn) h.1 (turn_counted old turn.state turn.event turn.result h.0 count) here in
    subst (λ xs. KeptAt (state_after_all turn.state hs) (Some k) xs) (append_assoc gs (grant_of_some e turn) (grants_through k hs)) rest
ran k (Changes c ∷ hs) old gs h count kept = ran k hs c.state gs h.1 (changed_counted old c h.0) (changed_at old c h.0 (stood hs k) gs count kept)

first_kept : (g : Forest) (width : ℕ) (e : Option ℕ) → KeptAt (opened g width) e []
first_kept g width None = refl
first_kept g width (Some i) = λ within.
    let count = length-map g.entries fresh_track in
    subst (Kept []) (sym (first_track g.entries i (omega (arith, count, within)))) (record { last = tt; topped = λ top. absurd cc })

pub topped : ToppedLaw
topped s r k within top =
    let all = ran k r.run (opened r.forest r.width) [] r.is_run (opened_counted r.forest r.width) (first_kept r.forest r.width (stood r.run k)) in
    let there : KeptAt s (Some k) (grants_through k r.run) = subst (λ (x : WatchState). KeptAt x (Some k) (grants_through k r.run)) r.leads all in
    let count = reached_counted s r in
    (there (omega (arith, count, within))).topped top
