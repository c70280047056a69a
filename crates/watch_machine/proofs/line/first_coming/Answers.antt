-- Each time that is ahead, of one that is due, is compared with the first one before it.
use Rattle.std.proofs.Common.{◌≡◌, ◌∙◌, ℕ, ◌≤◌, true, ap, arith, length, sym, inl, inr}
use Rattle.std.proofs.lemmas.{Bool.cases_eq, List.get_or_default}
use Rattle.plan_forest.specs.{declared.entry.Entry.Entry, Forest.entry_at}
use Rattle.watch_machine.specs.{declared.track.Track.Track, Lines.is_due, Margins.time, State.no_track, State.track_in}
use Rattle.watch_machine.proofs.line.first_coming.Goals as goal

-- the time of an entry, by what was read of it
time_read : (m found : ℕ) (e f : Entry) (x y : Track) → found ≡ time m e x → e ≡ f → x ≡ y → found ≡ time m f y
time_read m found e f x y is entries tracks = cc

pub loop-index-preserved : goal.loop-index-preserved
loop-index-preserved c =
    let g = c.args.forest.now in
    let xs = c.args.tracks.now in
    let p = c.args.presence in
    let m = c.margin-margin.result in
    let k = c.loop-index.index in
    let read = get_or_default xs k _ no_track (omega (arith, c.len-index-end.ensures.value, c.requires.count)) in
    let found : c.time-time.result ≡ time m (entry_at g.entries k) (track_in xs k) =
    time_read m c.time-time.result c.get.result.now (entry_at g.entries k) _ (track_in xs k) c.time-time.ensures.value c.get.ensures.value read in
    let new = c.coming_with-coming.result in
    λ i below due yet. elim (cases_eq i k) as (λ _. new ≤ time m (entry_at g.entries i) (track_in xs i)) [
      | inl same ↦
          let is : c.is_due.result ≡ true = c.is_due.ensures ∙ ap (is_due p c.args.since) (read ∙ sym (ap (track_in xs) same)) ∙ due in
          let there = ap (λ j. time m (entry_at g.entries j) (track_in xs j)) same in
          let low = c.coming_with-coming.ensures.due is (omega (arith, found, there, yet)) in
          omega (arith, low, found, there)
      | inr other ↦ (let before = c.loop-index.invariant i (omega (arith, below, other)) due yet in let least = c.coming_with-coming.ensures.least in omega (arith, before, least))
    ]

pub returns : goal.returns
returns c = λ i within due yet.
    let g = c.args.forest.now in
    let x = track_in c.args.tracks.now i in
    let whole : c.loop-index.index ≡ length g.entries = omega (arith, c.len-index-end.ensures.value, c.loop-index-test.false, c.loop-index.auto.index-end) in
    let m = ap (λ m. time m (entry_at g.entries i) x) c.margin-margin.ensures in
    let now = c.second-now.ensures.value in
    let low = c.loop-index.invariant i (omega (arith, within, whole)) due (omega (arith, now, m, yet)) in
    omega (arith, low, m)
