-- Each entry that is due is gathered after those before it.
use Rattle.std.proofs.Common.{◌≡◌, ◌∙◌, ℕ, ◌<◌, Bool, ap, arith, length, map, sym}
use Rattle.std.proofs.lemmas.List.{get_or_default}
use Rattle.plan_forest.specs.declared.entry.Entry.{Entry}
use Rattle.watch_machine.specs.{declared.track.Track.Track, Lines.is_due, Sending.place_of, State.no_track, State.track_in, code.Places.place_is}
use Rattle.watch_machine.proofs.InLine.{due_left, due_taken}
use Rattle.watch_machine.proofs.sending.due.Goals as goal
use Rattle.watch_machine.proofs.sending.due.Goals.{then-is_due+in_ok-push, else-is_due}

-- the place of an entry, by what was read of it
place_same :
    (away : Bool) (k margin m now i : ℕ) (e f : Entry) (x y : Track) → k ≡ margin → e ≡ f → m ≡ now → x ≡ y → place_of k e away m i x x.attempt ≡ place_of margin f away now i y y.attempt
place_same away k margin m now i e f x y margins entries at same = cc

pub loop-index-preserved : goal.loop-index-preserved
loop-index-preserved c =
    let g = c.args.forest.now in
    let p = c.args.presence in
    let at = c.args.at in
    let xs = c.args.tracks.now in
    let n = c.loop-index.index in
    let ps = c.loop-index.places.items in
    let within : n < length xs = omega (arith, c.len-index-end.ensures.value, c.requires.count) in
    let is : c.is_due.result ≡ is_due p at (track_in xs n) = c.is_due.ensures ∙ ap (is_due p at) (get_or_default xs n _ no_track within) in
    elim c.if-is_due.branch [
      | then-is_due+in_ok-push w ↦
          ap (λ v. map place_is v.items) w.places-is ∙ ap (map place_is) w.in_ok-push.ensures.items
          ∙ due_taken g p at xs n ps w.place_of.result c.loop-index.invariant (sym is ∙ w.if-is_due.true)
          (w.place_of.ensures
          ∙ place_same p.away _ _ _ _ n _ _ _ _ c.margin-margin.ensures w.get-entry.ensures.value c.second-now.ensures.value (get_or_default xs n _ no_track within))
      | else-is_due w ↦ ap (λ v. map place_is v.items) w.places-is ∙ due_left g p at xs n ps c.loop-index.invariant (sym is ∙ w.if-is_due.false)
    ]
