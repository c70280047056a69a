-- Each entry is written as it is planned, after those before it.
use Rattle.std.proofs.Common.{◌≡◌, ◌∙◌, ◌<◌, ℕ, List, length, ap, arith}
use Rattle.std.proofs.lemmas.List.{get_or_default}
use Rattle.plan_forest.specs.{declared.entry.Entry.Entry, Forest.Forest, Forest.entry_at}
use Rattle.watch_machine.specs.{declared.clocks.Clocks.Clocks, declared.track.Track.Track, Clocks.sec, Round.entry_planned, Round.planned_by, State.no_track, State.track_in, Wanted.need_of, Wanted.seen_entry}
use Rattle.watch_machine.proofs.View.{view_set}
use Rattle.watch_machine.proofs.Opening.{halfway_end, halfway_more, halfway_start, plan_written, seen_at, shape_planned}
use Rattle.watch_machine.proofs.round.write_plan_view.Goals as goal

-- an entry as the Asks take it, by what was read of it
planned_read :
    (g : Forest) (xs : List Track) (c : Clocks) (i m need now : ℕ) (e : Entry) (x : Track) → m ≡ g.margin → e ≡ entry_at g.entries i → x ≡ track_in xs i →
    need ≡ need_of g.entries xs c i → now ≡ sec c.at → planned_by m e x need now (seen_entry g.entries xs c i) ≡ entry_planned g xs c i
unfolding entry_planned
planned_read g xs c i m need now e x margins entries tracks needs at =
    let f = seen_entry g.entries xs c i in
    ap (λ n. planned_by n e x need now f) margins ∙ ap (λ y. planned_by g.margin y x need now f) entries
    ∙ ap (λ y. planned_by g.margin (entry_at g.entries i) y need now f) tracks
    ∙ ap (λ n. planned_by g.margin (entry_at g.entries i) (track_in xs i) n now f) needs
    ∙ ap (λ n. planned_by g.margin (entry_at g.entries i) (track_in xs i) (need_of g.entries xs c i) n f) at

pub loop-index-init : goal.loop-index-init
loop-index-init c = record {
  view = c.requires.view;
  planned = λ is has k within.
      ap (λ es. entry_at es k) is ∙ seen_at c.args.forest.now.entries c.args.tracks.now c.args.clocks k within ∙ halfway_start c.args.forest.now c.args.tracks.now c.args.clocks k;
}

pub loop-index-preserved : goal.loop-index-preserved
loop-index-preserved c =
    let g = c.args.forest.now in
    let xs = c.args.tracks.now in
    let v = c.loop-index.view in
    let n = c.loop-index.index in
    let within : n < length g.entries = omega (arith, c.len-index-end.ensures.value) in
    let there : n < length v.entries = omega (arith, c.loop-index.invariant.view.count) in
    let track = get_or_default xs n _ no_track (omega (arith, c.requires.count)) in
    let at : c.moment_at-now.result ≡ sec c.args.clocks.at = c.moment_at-now.ensures ∙ c.second.ensures.value in
    record {
      view = view_set v c.write_planned.new.view g n _ c.write_planned.ensures (shape_planned v.margin c.need-need.result c.moment_at-now.result c.get.result.now (entry_at v.entries n) _) c.loop-index.invariant.view;
      planned = λ is has.
          halfway_more g xs c.args.clocks v.entries c.write_planned.new.view.entries n (length g.entries) (planned_by v.margin c.get.result.now _ c.need-need.result c.moment_at-now.result) there within
          (ap (λ (w : Forest). w.entries) c.write_planned.ensures)
          (planned_read g xs c.args.clocks n v.margin c.need-need.result c.moment_at-now.result c.get.result.now _ c.loop-index.invariant.view.margin c.get.ensures.value track (c.need-need.ensures ∙ has n within) at)
          (c.loop-index.invariant.planned is has);
    }

pub returns-clause-planned : goal.returns-clause-planned
returns-clause-planned c = λ is has.
    plan_written c.args.forest.now c.args.tracks.now c.args.clocks c.loop-index.view.entries c.loop-index.invariant.view.count
    (λ k within. c.loop-index.invariant.planned is has k within ∙ halfway_end c.args.forest.now c.args.tracks.now c.args.clocks c.loop-index.index k (omega (arith, c.len-index-end.ensures.value)))
