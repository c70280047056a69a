-- Each track is made anew after those before it, and in the end all are.
use Rattle.std.proofs.Common.{◌≡◌, ◌∙◌, ℕ, ◌<◌, Bool, arith, length, refl}
use Rattle.std.proofs.lemmas.List.Elements.{All-set}
use Rattle.plan_needs.specs.Carried.{load_at}
use Rattle.watch_machine.specs.{declared.track.Track.Track, Beginning.called_by, Beginning.owing, code.Bounds.IsTrack}
use Rattle.watch_machine.proofs.Written.{written_all, written_more, written_none, written_read}
use Rattle.watch_machine.proofs.beginning.owe_all.Goals as goal

-- what is made of a track, by what was read of its entry
owing_same :
    (at need n written w : ℕ) (first dated called : Bool) (x y : Track) → called ≡ called_by dated need written → need ≡ n → written ≡ w → x ≡ y →
    owing at first called x ≡ owing at first (called_by dated n w) y
owing_same at need n written w first dated called x y is needs writtens same = cc

pub loop-index-init : goal.loop-index-init
loop-index-init c = record {
  written = written_none (λ i. owing c.args.at c.args.first (called_by c.args.dated (load_at c.args.needs.now i).need (load_at c.args.written.now i).need)) c.args.tracks.now;
  bounds = c.requires.tracks;
}

pub loop-index-preserved : goal.loop-index-preserved
loop-index-preserved c =
    let old = c.args.tracks.now in
    let now = c.loop-index.tracks in
    let k = c.loop-index.index in
    let so = c.loop-index.invariant.written in
    let f : ℕ → Track → Track = λ i. owing c.args.at c.args.first (called_by c.args.dated (load_at c.args.needs.now i).need (load_at c.args.written.now i).need) in
    let within : k < length old = omega arith in
    record {
      written = written_more f old now _ k c.owing.result so within refl
          (c.owing.ensures.value ∙ owing_same c.args.at _ _ _ _ c.args.first c.args.dated _ _ _ c.is_called-called.ensures c.need.ensures c.need-in-loop-index.ensures (written_read f old now k _ so within));
      bounds = All-set IsTrack now k c.owing.result c.owing.ensures.bounds c.loop-index.invariant.bounds;
    }

pub returns-clause-value : goal.returns-clause-value
returns-clause-value c =
    let f : ℕ → Track → Track = λ i. owing c.args.at c.args.first (called_by c.args.dated (load_at c.args.needs.now i).need (load_at c.args.written.now i).need) in
    written_all f c.args.tracks.now c.loop-index.tracks c.loop-index.index c.loop-index.invariant.written (omega arith)
