-- Each moment is compared with the first one before it; in the end that is the first of all.
use Rattle.std.proofs.Common.{◌≡◌, ◌∙◌, ℕ, ap, arith, length, map, min, sym}
use Rattle.std.proofs.lemmas.{List.get_or_default, List.FromFn.map-range_with_len_more, List.Sums.fold_push}
use Rattle.std.specs.List.{range_with_len}
use Rattle.plan_forest.specs.{declared.entry.Entry.Entry, Forest.entry_at}
use Rattle.watch_machine.specs.{declared.lanes.Presence.Presence, declared.lull.TheConstants.NEVER, declared.track.Track.Track, State.no_track, State.track_in, Wanted.least, code.Line.left_at, code.View.need_at}
use Rattle.watch_machine.proofs.line.first_left.Goals as goal

-- the moment of an entry, by what was read of it
left_read :
    (m left need load since : ℕ) (p : Presence) (e f : Entry) (x y : Track) → left ≡ left_at m e need p since x → e ≡ f → need ≡ load → x ≡ y → left ≡ left_at m f load p since y
left_read m left need load since p e f x y is entries needs tracks = cc

pub loop-index-preserved : goal.loop-index-preserved
loop-index-preserved c =
    let g = c.args.forest.now in
    let xs = c.args.tracks.now in
    let needs = c.args.needs.now in
    let m = c.margin-margin.result in
    let k = c.loop-index.index in
    let f : ℕ → ℕ = λ i. left_at m (entry_at g.entries i) (need_at needs i) c.args.presence c.args.since (track_in xs i) in
    let made : c.left_at-left.result ≡ f k =
    left_read m c.left_at-left.result c.need.result (need_at needs k) c.args.since c.args.presence c.get-entry.result.now (entry_at g.entries k) _ (track_in xs k) c.left_at-left.ensures
    c.get-entry.ensures.value c.need.ensures (get_or_default xs k _ no_track (omega (arith, c.len-index-end.ensures.value, c.requires.count))) in
    c.min-least.ensures ∙ ap (λ n. min n c.left_at-left.result) c.loop-index.invariant ∙ ap (min (least NEVER (map f (range_with_len 0 k)))) made
    ∙ sym (ap (least NEVER) (map-range_with_len_more f 0 k k (omega arith)) ∙ fold_push min NEVER (map f (range_with_len 0 k)) (f k))

pub returns : goal.returns
returns c =
    let g = c.args.forest.now in
    let xs = c.args.tracks.now in
    let needs = c.args.needs.now in
    let f : ℕ → ℕ → ℕ = λ m i. left_at m (entry_at g.entries i) (need_at needs i) c.args.presence c.args.since (track_in xs i) in
    let m = c.margin-margin.result in
    let whole : c.loop-index.index ≡ length g.entries = omega (arith, c.len-index-end.ensures.value, c.loop-index-test.false, c.loop-index.auto.index-end) in
    c.loop-index.invariant ∙ ap (λ n. least NEVER (map (f m) (range_with_len 0 n))) whole
    ∙ ap (λ n. least NEVER (map (f n) (range_with_len 0 (length g.entries)))) c.margin-margin.ensures
