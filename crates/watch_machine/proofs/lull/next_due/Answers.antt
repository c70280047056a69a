-- Each moment is compared with the first one before it; in the end that is the first of all.
use Rattle.std.proofs.Common.{◌≡◌, ◌∙◌, ℕ, ap, arith, length, map, min, sym}
use Rattle.std.proofs.lemmas.{List.get_or_default, List.FromFn.map-range_with_len_more, List.Sums.fold_push}
use Rattle.std.specs.List.{range_with_len}
use Rattle.plan_forest.specs.{declared.entry.Entry.Entry, Forest.entry_at}
use Rattle.watch_machine.specs.{declared.lanes.Presence.Presence, declared.lull.TheConstants.NEVER, declared.track.Track.Track, State.no_track, State.track_in, Wanted.least, code.Lull.due_at, code.Lull.next_due, code.View.need_at}
use Rattle.watch_machine.proofs.lull.next_due.Goals as goal

-- the moment of an entry, by what was read of it
due_read :
    (m due need load : ℕ) (p : Presence) (e f : Entry) (x y : Track) → due ≡ due_at m e need p x → e ≡ f → need ≡ load → x ≡ y → due ≡ due_at m f load p y
due_read m due need load p e f x y is entries needs tracks = cc

pub loop-index-preserved : goal.loop-index-preserved
loop-index-preserved c =
    let g = c.args.forest.now in
    let xs = c.args.tracks.now in
    let needs = c.args.needs.now in
    let m = c.margin-margin.result in
    let k = c.loop-index.index in
    let f : ℕ → ℕ = λ i. due_at m (entry_at g.entries i) (need_at needs i) c.args.presence (track_in xs i) in
    let made : c.due_at-due.result ≡ f k =
    due_read m c.due_at-due.result c.need.result (need_at needs k) c.args.presence c.get-entry.result.now (entry_at g.entries k) _ (track_in xs k) c.due_at-due.ensures
    c.get-entry.ensures.value c.need.ensures (get_or_default xs k _ no_track (omega (arith, c.len-index-end.ensures.value, c.requires.count))) in
    c.min-least.ensures ∙ ap (λ n. min n c.due_at-due.result) c.loop-index.invariant ∙ ap (min (least NEVER (map f (range_with_len 0 k)))) made
    ∙ sym (ap (least NEVER) (map-range_with_len_more f 0 k k (omega arith)) ∙ fold_push min NEVER (map f (range_with_len 0 k)) (f k))

pub returns : goal.returns
unfolding next_due
returns c =
    let g = c.args.forest.now in
    let xs = c.args.tracks.now in
    let needs = c.args.needs.now in
    let f : ℕ → ℕ → ℕ = λ m i. due_at m (entry_at g.entries i) (need_at needs i) c.args.presence (track_in xs i) in
    let m = c.margin-margin.result in
    let whole : c.loop-index.index ≡ length g.entries = omega (arith, c.len-index-end.ensures.value, c.loop-index-test.false, c.loop-index.auto.index-end) in
    c.loop-index.invariant ∙ ap (λ n. least NEVER (map (f m) (range_with_len 0 n))) whole
    ∙ ap (λ n. least NEVER (map (f n) (range_with_len 0 (length g.entries)))) c.margin-margin.ensures
