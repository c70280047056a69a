-- A clock at which everything begins anew leaves the tracks of step 3, and any other leaves them as they were.
use Rattle.std.proofs.Common.{◌≡◌, ◌∙◌, Result, Ok, Err, IfOk, ap, sym}
use Rattle.watch_machine.specs.Beginning.{begun_tracks, owing_all, untopped}
use Rattle.watch_machine.proofs.Cases.{ok_map}
use Rattle.watch_machine.proofs.clock_step.begin.Goals as goal

-- what holds anyway
ok_any : {X E : Type 0} (P : Type 0) → P → (r : Result X E) → IfOk r (λ _. P)
ok_any P p (Ok x) = p
ok_any P p (Err e) = tt

pub returns-in-None-clause-tracks : goal.returns-in-None-clause-tracks
returns-in-None-clause-tracks c = ok_any _ (ap (λ why. begun_tracks c.args.forest.now c.args.clocks why c.args.tracks.now) (sym c.in-None.is)) c.needs_of.result

pub returns-in-Some-clause-tracks : goal.returns-in-Some-clause-tracks
returns-in-Some-clause-tracks c =
    let g = c.args.forest.now in
    let k = c.args.clocks in
    let old = c.args.tracks.now in
    let new = c.begin_anew.new.tracks in
    ok_map (λ needs. new ≡ owing_all g k c.is_start.result (untopped old)) (λ needs. new ≡ begun_tracks g k c.args.why old)
    (λ needs so. so ∙ ap (λ first. owing_all g k first (untopped old)) c.is_start.ensures ∙ ap (λ why. begun_tracks g k why old) (sym c.in-Some.is)) c.begin_anew.result c.begin_anew.ensures.tracks
