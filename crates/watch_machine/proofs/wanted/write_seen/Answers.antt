-- An entry is written as it is seen, within its bounds.
use Rattle.std.proofs.Common.{◌≡◌, ◌∙◌, ◌<◌, false, get_or, length, min, set, refl, ap, arith}
use Rattle.std.proofs.lemmas.List.{get_or_default}
use Rattle.plan_forest.specs.{declared.entry.Entry.Entry, declared.forest.TheConstants.END_MAX, Forest.Forest}
use Rattle.plan_forest.proofs.Placed.{read_range, read_step}
use Rattle.watch_machine.specs.{declared.track.Track.Track, State.no_track}
use Rattle.watch_machine.specs.Wanted.{believed, least_over, need_here}
use Rattle.watch_machine.proofs.View.{believed_within, ceiling_low, seen_is, set_again, view_set}
use Rattle.watch_machine.proofs.wanted.write_seen.Goals as goal

-- what the code reads past the last track
abbrev unread : Track
unread = record no_track { top = false }

pub need_here-requires-clause-need : goal.need_here-requires-clause-need
need_here-requires-clause-need c =
    (read_range c.args.forest.now c.get-entry.ensures.sound c.args.index c.get-entry.result.now c.requires.within c.get-entry.ensures.value).need

pub ceiling_here-requires-clause-ceiling : goal.ceiling_here-requires-clause-ceiling
ceiling_here-requires-clause-ceiling c =
    ceiling_low c.get-entry.result.now.ceiling (read_range c.args.forest.now c.get-entry.ensures.sound c.args.index c.get-entry.result.now c.requires.within c.get-entry.ensures.value).ceiling

pub set_terms-requires-clause-step : goal.set_terms-requires-clause-step
set_terms-requires-clause-step c =
    let past = read_step c.args.forest.now c.get-entry.ensures.sound c.args.index c.get-entry.result.now c.requires.within c.get-entry.ensures.value in
    omega (arith, c.requires.view.margin)

pub returns-clause-view : goal.returns-clause-view
returns-clause-view c =
    let v = c.args.view.now in
    let g = c.args.forest.now in
    let i = c.args.index in
    view_set c.set_renewable.new.self c.set_need.new.self g i _ c.set_need.ensures refl
    (view_set c.set_end.new.self c.set_renewable.new.self g i _ c.set_renewable.ensures refl
    (view_set c.set_terms.new.self c.set_end.new.self g i _ c.set_end.ensures refl
    (view_set v c.set_terms.new.self g i _ c.set_terms.ensures refl c.requires.view)))

pub set_end-requires-clause-range : goal.set_end-requires-clause-range
set_end-requires-clause-range c =
    let xs = c.args.tracks.now in
    let x = get_or xs c.args.index no_track in
    let most = believed_within x.end (c.requires.bounds c.args.index no_track (omega arith)).end in
    let is : c.believed.result ≡ believed x.end = c.believed.ensures.value ∙ ap (λ (y : Track). believed y.end) (get_or_default xs c.args.index _ no_track (omega arith)) in
    omega arith

pub returns-clause-written : goal.returns-clause-written
returns-clause-written c =
    let v = c.args.view.now in
    let g = c.args.forest.now in
    let i = c.args.index in
    let xs = c.args.tracks.now in
    let e = c.get-entry.result.now in
    let x = get_or xs i no_track in
    let y = get_or xs i unread in
    let there : i < length v.entries = omega (arith, c.requires.within, c.requires.view.count) in
    let end_is : c.believed.result ≡ believed x.end = c.believed.ensures.value ∙ ap (λ (z : Track). believed z.end) (get_or_default xs i _ no_track (omega arith)) in
    let renewable_is = ap (λ (z : Track). z.renewable) (get_or_default xs i unread no_track (omega arith)) in
    let need_is : c.moment_at.result ≡ min (need_here c.args.clocks e.need) (least_over g.entries xs END_MAX i) =
    c.moment_at.ensures ∙ c.min-need.ensures ∙ ap (λ n. min n c.limit.result) c.need_here.ensures.value ∙ ap (min (need_here c.args.clocks e.need)) c.limit.ensures in
    let ended = set_again v c.set_terms.new.self c.set_end.new.self i _ (λ (f : Entry). record f { end = c.believed.result }) there c.set_terms.ensures c.set_end.ensures in
    let renewed = set_again v c.set_end.new.self c.set_renewable.new.self i _ (λ (f : Entry). record f { renewable = y.renewable }) there ended c.set_renewable.ensures in
    let needed = set_again v c.set_renewable.new.self c.set_need.new.self i _ (λ (f : Entry). record f { need = c.moment_at.result }) there renewed c.set_need.ensures in
    ap (λ (f : Forest). f.entries) needed
    ∙ ap (set v.entries i) (seen_is v g xs c.args.clocks i e c.believed.result c.moment_at.result y.renewable c.ceiling_here.result c.requires.view c.requires.within c.get-entry.ensures.value end_is renewable_is c.ceiling_here.ensures.value need_is)
