-- Each entry is pressed or let go after those before it, and in the end all are.
use Rattle.std.proofs.Common.{◌≡◌, ◌∙◌, ℕ, ◌<◌, arith, length, refl}
use Rattle.std.proofs.lemmas.List.Elements.{All-set}
use Rattle.plan_forest.specs.{declared.entry.Entry.Entry, Forest.entry_at}
use Rattle.watch_machine.specs.{declared.track.Track.Track, Press.pressed_track, code.Bounds.IsTrack, code.View.need_at}
use Rattle.watch_machine.proofs.Written.{written_all, written_more, written_none, written_read}
use Rattle.watch_machine.proofs.press.press_alone.Goals as goal

-- what is made of a track, by what was read of its entry
pressed_same : (at margin m need n : ℕ) (e d : Entry) (x y : Track) → margin ≡ m → e ≡ d → need ≡ n → x ≡ y → pressed_track margin e need at x ≡ pressed_track m d n at y
pressed_same at margin m need n e d x y margins entries needs tracks = cc

pub loop-index-init : goal.loop-index-init
loop-index-init c = let g = c.args.forest.now in record {
  written = written_none (λ i. pressed_track g.margin (entry_at g.entries i) (need_at c.args.needs.now i) c.args.at) c.args.tracks.now;
  bounds = c.requires.tracks;
}

pub loop-index-preserved : goal.loop-index-preserved
loop-index-preserved c =
    let g = c.args.forest.now in
    let old = c.args.tracks.now in
    let now = c.loop-index.tracks in
    let k = c.loop-index.index in
    let so = c.loop-index.invariant.written in
    let f : ℕ → Track → Track = λ i. pressed_track g.margin (entry_at g.entries i) (need_at c.args.needs.now i) c.args.at in
    let within : k < length old = omega arith in
    record {
      written = written_more f old now _ k c.pressed.result so within refl
          (c.pressed.ensures.value ∙ pressed_same c.args.at _ _ _ _ _ _ _ _ c.margin-margin.ensures c.get-entry.ensures.value c.need.ensures (written_read f old now k _ so within));
      bounds = All-set IsTrack now k c.pressed.result c.pressed.ensures.bounds c.loop-index.invariant.bounds;
    }

pub returns-clause-value : goal.returns-clause-value
returns-clause-value c =
    let g = c.args.forest.now in
    let f : ℕ → Track → Track = λ i. pressed_track g.margin (entry_at g.entries i) (need_at c.args.needs.now i) c.args.at in
    written_all f c.args.tracks.now c.loop-index.tracks c.loop-index.index c.loop-index.invariant.written (omega arith)
