-- Whether an entry opens a round is told of each after those before it.
use Rattle.std.proofs.Common.{◌≡◌, ◌∙◌, ℕ, Bool, true, false, below_more, get_or, length, sym, arith}
use Rattle.std.proofs.lemmas.List.{get_or_default}
use Rattle.plan_forest.specs.{declared.entry.Entry.Entry, Forest.entry_at}
use Rattle.watch_machine.specs.{declared.track.Track.Track, Round.opens, State.no_track, code.View.need_at}
use Rattle.watch_machine.proofs.Opening.{none_opens, opens_any, some_opens}
use Rattle.watch_machine.proofs.round.opens_some.Goals as goal

-- an entry opens a round, by what was read of it
opens_read :
    (m need load now : ℕ) (e f : Entry) (x y : Track) (b r : Bool) → b ≡ opens m e x need now → e ≡ f → x ≡ y → need ≡ load → b ≡ r →
    opens m f y load now ≡ r
opens_read m need load now e f x y b r is entries tracks needs result = cc

pub loop-index-preserved : goal.loop-index-preserved
loop-index-preserved c =
    let g = c.args.forest.now in
    let i = c.loop-index.index in
    let m = c.margin-margin.result in
    let now = c.second-now.result in
    let x = get_or_default c.args.tracks.now i _ no_track (omega (arith, c.len-index-end.ensures.value, c.requires.count)) in
    below_more (λ k. opens m (entry_at g.entries k) (get_or c.args.tracks.now k no_track) (need_at c.args.needs.now k) now ≡ false) i c.loop-index.invariant
    (opens_read m _ (need_at c.args.needs.now i) now _ (entry_at g.entries i) _ (get_or c.args.tracks.now i no_track) c.opens.result false c.opens.ensures c.get.ensures.value x c.need.ensures c.if-opens.false)

pub returns-then-opens : goal.returns-then-opens
returns-then-opens c = λ has.
    let g = c.args.forest.now in
    let i = c.loop-index.index in
    let m = c.margin-margin.result in
    let now = c.second-now.result in
    let x = get_or_default c.args.tracks.now i _ no_track (omega (arith, c.len-index-end.ensures.value, c.requires.count)) in
    sym (some_opens (λ k. opens m (entry_at g.entries k) (get_or c.args.tracks.now k no_track) (need_at c.args.needs.now k) now) (length g.entries) i
    (omega (arith, c.len-index-end.ensures.value))
    (opens_read m _ (need_at c.args.needs.now i) now _ (entry_at g.entries i) _ (get_or c.args.tracks.now i no_track) c.opens.result true c.opens.ensures c.get.ensures.value x c.need.ensures c.if-opens.true))
    ∙ opens_any g c.args.tracks.now c.args.clocks c.args.needs.now m now c.margin-margin.ensures c.second-now.ensures.value has

pub returns : goal.returns
returns c = λ has.
    let g = c.args.forest.now in
    let m = c.margin-margin.result in
    let now = c.second-now.result in
    sym (none_opens (λ k. opens m (entry_at g.entries k) (get_or c.args.tracks.now k no_track) (need_at c.args.needs.now k) now) (length g.entries)
    (λ k within. c.loop-index.invariant k (omega (arith, c.len-index-end.ensures.value))))
    ∙ opens_any g c.args.tracks.now c.args.clocks c.args.needs.now m now c.margin-margin.ensures c.second-now.ensures.value has
