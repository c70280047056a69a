-- Each moment of one that is due is compared with the first one before it.
use Rattle.std.proofs.Common.{◌≡◌, ◌∙◌, ℕ, ◌≤◌, true, ap, arith, length, sym, inl, inr}
use Rattle.std.proofs.lemmas.{Bool.cases_eq, List.get_or_default}
use Rattle.plan_forest.specs.{declared.entry.Entry.Entry, Forest.entry_at}
use Rattle.watch_machine.specs.{declared.lanes.Presence.Presence, declared.track.Track.Track, Lines.is_due, State.no_track, State.track_in, code.Line.left_at, code.View.need_at}
use Rattle.watch_machine.proofs.line.first_beyond.Goals as goal

-- the moment of an entry, by what was read of it
left_read :
    (m left need load since : ℕ) (p : Presence) (e f : Entry) (x y : Track) → left ≡ left_at m e need p since x → e ≡ f → need ≡ load → x ≡ y → left ≡ left_at m f load p since y
left_read m left need load since p e f x y is entries needs tracks = cc

pub loop-index-preserved : goal.loop-index-preserved
loop-index-preserved c =
    let g = c.args.forest.now in
    let xs = c.args.tracks.now in
    let needs = c.args.needs.now in
    let p = c.args.presence in
    let since = c.args.since in
    let m = c.margin-margin.result in
    let k = c.loop-index.index in
    let read = get_or_default xs k _ no_track (omega (arith, c.len-index-end.ensures.value, c.requires.count)) in
    let made : c.left_at-left.result ≡ left_at m (entry_at g.entries k) (need_at needs k) p since (track_in xs k) =
    left_read m c.left_at-left.result c.need.result (need_at needs k) since p c.get-entry.result.now (entry_at g.entries k) _ (track_in xs k) c.left_at-left.ensures c.get-entry.ensures.value c.need.ensures read in
    let new = c.beyond_with-beyond.result in
    λ i below due. elim (cases_eq i k) as (λ _. new ≤ left_at m (entry_at g.entries i) (need_at needs i) p since (track_in xs i)) [
      | inl same ↦
          let is : c.is_due.result ≡ true = c.is_due.ensures ∙ ap (is_due p since) (read ∙ sym (ap (track_in xs) same)) ∙ due in
          let low = c.beyond_with-beyond.ensures.due is in
          let there = ap (λ j. left_at m (entry_at g.entries j) (need_at needs j) p since (track_in xs j)) same in
          omega (arith, low, made, there)
      | inr other ↦ (let before = c.loop-index.invariant i (omega (arith, below, other)) due in let least = c.beyond_with-beyond.ensures.least in omega (arith, before, least))
    ]

pub returns : goal.returns
returns c = λ i within due.
    let g = c.args.forest.now in
    let xs = c.args.tracks.now in
    let needs = c.args.needs.now in
    let whole : c.loop-index.index ≡ length g.entries = omega (arith, c.len-index-end.ensures.value, c.loop-index-test.false, c.loop-index.auto.index-end) in
    let low = c.loop-index.invariant i (omega (arith, within, whole)) due in
    let m = ap (λ m. left_at m (entry_at g.entries i) (need_at needs i) c.args.presence c.args.since (track_in xs i)) c.margin-margin.ensures in
    omega (arith, low, m)
