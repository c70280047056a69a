-- Each moment is compared with the least one before it; in the end that is the wait.
use Rattle.std.proofs.Common.{◌≡◌, ◌∙◌, ℕ, ap, arith, length, map, min, sym}
use Rattle.std.proofs.lemmas.{List.get_or_default, List.FromFn.map-range_with_len_more, List.Sums.fold_push}
use Rattle.std.specs.List.{range_with_len}
use Rattle.plan_forest.specs.{declared.entry.Entry.Entry, Forest.entry_at}
use Rattle.watch_machine.specs.{declared.lanes.Presence.Presence, declared.track.Track.Track, State.no_track, State.track_in, Wait.latest, Wait.next_of, Wanted.least, code.View.need_at}
use Rattle.watch_machine.proofs.waiting.wait.Goals as goal

-- the moment of an entry, by what was read of it
next_read :
    (m at next need load : ℕ) (p : Presence) (e f : Entry) (x y : Track) → next ≡ next_of m e need p at x → e ≡ f → need ≡ load → x ≡ y → next ≡ next_of m f load p at y
next_read m at next need load p e f x y is entries needs tracks = cc

pub loop-index-preserved : goal.loop-index-preserved
loop-index-preserved c =
    let g = c.args.forest.now in
    let xs = c.args.tracks.now in
    let needs = c.args.needs.now in
    let m = c.margin-margin.result in
    let k = c.loop-index.index in
    let first = latest m c.args.at in
    let f : ℕ → ℕ = λ i. next_of m (entry_at g.entries i) (need_at needs i) c.args.presence c.args.at (track_in xs i) in
    let made : c.next_of-next.result ≡ f k =
    next_read m c.args.at c.next_of-next.result c.need.result (need_at needs k) c.args.presence c.get-entry.result.now (entry_at g.entries k) _ (track_in xs k) c.next_of-next.ensures
    c.get-entry.ensures.value c.need.ensures (get_or_default xs k _ no_track (omega (arith, c.len-index-end.ensures.value, c.requires.count))) in
    c.min-least.ensures ∙ ap (λ n. min n c.next_of-next.result) c.loop-index.invariant ∙ ap (min (least first (map f (range_with_len 0 k)))) made
    ∙ sym (ap (least first) (map-range_with_len_more f 0 k k (omega arith)) ∙ fold_push min first (map f (range_with_len 0 k)) (f k))

pub returns : goal.returns
returns c =
    let g = c.args.forest.now in
    let xs = c.args.tracks.now in
    let needs = c.args.needs.now in
    let f : ℕ → ℕ → ℕ = λ m i. next_of m (entry_at g.entries i) (need_at needs i) c.args.presence c.args.at (track_in xs i) in
    let m = c.margin-margin.result in
    let whole : c.loop-index.index ≡ length g.entries = omega (arith, c.len-index-end.ensures.value, c.loop-index-test.false, c.loop-index.auto.index-end) in
    c.loop-index.invariant ∙ ap (λ n. least (latest m c.args.at) (map (f m) (range_with_len 0 n))) whole
    ∙ ap (λ n. least (latest n c.args.at) (map (f n) (range_with_len 0 (length g.entries)))) c.margin-margin.ensures
