-- Each time is compared with the first one before it; in the end that is the first of all.
use Rattle.std.proofs.Common.{◌≡◌, ◌∙◌, ℕ, ◌+◌, ◌<◌, Bool, true, false, length, refl, sym, subst, arith}
use Rattle.std.proofs.lemmas.List.{get_or_default}
use Rattle.plan_forest.specs.{declared.entry.Entry.Entry, Forest.entry_at}
use Rattle.watch_machine.specs.{declared.track.Track.Track, Clocks.sec, Margins.time, Outlook.IsFirstOf, Outlook.time_of, Wanted.need_of, Wanted.wanted_need, code.Lull.shown_by, code.Outlook.counts, code.Outlook.is_counted}
use Rattle.watch_machine.specs.State.{WatchState, no_track, second, track_at, track_in}
use Rattle.watch_machine.proofs.{FirstTime.is_timed_more, FirstTime.not_timed, outlook.first_time.Goals.then-is_counted, outlook.first_time.Goals.else-is_counted}
use Rattle.watch_machine.proofs.outlook.first_time.Goals as goal

-- whether an entry is counted, and its time, by what was read of it
counted_at : (ahead : Bool) (s : WatchState) (i : ℕ) → is_counted ahead (second s) (track_at s i) (wanted_need s i) (time_of s i) ≡ counts ahead s i
counted_at false s i = refl
counted_at true s i = refl

counted_read : (r ahead : Bool) (n now need load at there : ℕ) (x y : Track) → r ≡ is_counted ahead n x need at → n ≡ now → x ≡ y → need ≡ load → at ≡ there → r ≡ is_counted ahead now y load there
counted_read r ahead n now need load at there x y is nows tracks needs times = cc

time_read : (at m margin : ℕ) (e f : Entry) (x y : Track) → at ≡ time m e x → m ≡ margin → e ≡ f → x ≡ y → at ≡ time margin f y
time_read at m margin e f x y is margins entries tracks = cc

pub loop-index-preserved : goal.loop-index-preserved
loop-index-preserved c = λ has.
    let g = c.args.forest.now in
    let xs = c.args.tracks.now in
    let k = c.args.clocks in
    let s = shown_by g xs k in
    let n = c.loop-index.index in
    let first = c.loop-index.first in
    let within : n < length g.entries = omega (arith, c.len-index-end.ensures.value, c.loop-index-test.true) in
    let before : IsFirstOf (counts c.args.is_ahead s) s n first = c.loop-index.invariant has in
    let read = get_or_default xs n _ no_track (omega (arith, c.requires.count, within)) in
    let ahead = c.args.is_ahead in
    let at : c.time-at.result ≡ time_of s n =
    time_read c.time-at.result c.margin-margin.result g.margin c.get.result.now (entry_at g.entries n) _ (track_in xs n) c.time-at.ensures.value c.margin-margin.ensures c.get.ensures.value read in
    let counted : c.is_counted.result ≡ counts ahead s n =
    counted_read c.is_counted.result ahead c.second-now.result (sec k.at) c.need.result (need_of g.entries xs k n) c.time-at.result (time_of s n) _ (track_in xs n) c.is_counted.ensures c.second-now.ensures.value read (c.need.ensures ∙ has n within) at
    ∙ counted_at ahead s n in
    elim c.if-is_counted.branch [
      | then-is_counted w ↦ subst (IsFirstOf (counts ahead s) s (n + 1)) (sym (w.first-is ∙ w.earlier-first.ensures)) (is_timed_more (counts ahead s) s n c.time-at.result first before (sym counted ∙ w.if-is_counted.true) at)
      | else-is_counted w ↦ subst (IsFirstOf (counts ahead s) s (n + 1)) (sym w.first-is) (not_timed (counts ahead s) s n first before (sym counted ∙ w.if-is_counted.false))
    ]

pub returns : goal.returns
returns c = λ has.
    let s = shown_by c.args.forest.now c.args.tracks.now c.args.clocks in
    let whole : c.loop-index.index ≡ length c.args.forest.now.entries = omega (arith, c.len-index-end.ensures.value, c.loop-index-test.false, c.loop-index.auto.index-end) in
    subst (λ n. IsFirstOf (counts c.args.is_ahead s) s n c.loop-index.first) whole (c.loop-index.invariant has)
