-- Each entry that the round asks is pressed after those before it, and in the end all are.
use Rattle.std.proofs.Common.{◌≡◌, ◌∙◌, ℕ, ◌+◌, ◌<◌, ◌≤◌, if◌then◌else◌, Option, Some, ap, arith, get_or, length, refl, set, subst, sym, inl, inr}
use Rattle.std.proofs.lemmas.{List.get_or_default, List.set_past, List.Elements.All-set}
use Rattle.std.proofs.lemmas.Bool.{cases_Bool, cond-true, cond-false}
use Rattle.std.specs.List.{All}
use Rattle.watch_machine.specs.{declared.track.Track.Track, declared.track.Try.Try, Press.asked_track, Press.press, State.no_track, State.track_in, code.Bounds.IsTrack}
use Rattle.watch_machine.proofs.press.press_round.Goals.{then-index-tracks, else-index-tracks}
use Rattle.watch_machine.proofs.Marked.{Marked, marked_all, marked_more, marked_none}
use Rattle.watch_machine.proofs.press.press_round.Goals as goal

-- one that is asked twice is asked once
abbrev ask : (Track → Try) → Track → Track
ask p x = if x.out then x else record x { attempt = Some (p x) }

ask_again : (p : Track → Try) (x : Track) → ((a : Option Try) → p (record x { attempt = a }) ≡ p x) → ask p (ask p x) ≡ ask p x
ask_again p x same =
    let y : Track = record x { attempt = Some (p x) } in
    elim (cases_Bool x.out) [
      | inl yes' ↦ ap (ask p) (cond-true x.out x y yes')
      | inr no' ↦
          ap (ask p) (cond-false x.out x y no') ∙ cond-false x.out y (record x { attempt = Some (p y) }) no' ∙ ap (λ t. record x { attempt = Some t }) (same (Some (p x)))
          ∙ sym (cond-false x.out x y no')
    ]

asked_again : (at : ℕ) (x : Track) → asked_track at (asked_track at x) ≡ asked_track at x
unfolding asked_track press
asked_again at x = ask_again (press at) x (λ a. refl)

pub loop-entry-init : goal.loop-entry-init
loop-entry-init c = record {
  marked = marked_none (λ (j : ℕ). j) (λ i. asked_track c.args.at) c.args.tracks.now c.args.round.now;
  bounds = c.requires.tracks;
}

pub loop-entry-preserved : goal.loop-entry-preserved
loop-entry-preserved c =
    let at = c.args.at in
    let old = c.args.tracks.now in
    let now = c.loop-entry.tracks in
    let next = c.if-index-tracks.tracks in
    let round = c.args.round.now in
    let k = c.loop-entry.entry-index in
    let e = get_or round k 0 in
    let f : ℕ → Track → Track = λ i. asked_track at in
    let within : k < length round = c.loop-entry-test.true in
    let more : next ≡ set now e (f e (track_in now e)) → Marked (λ (j : ℕ). j) f old next round (k + 1) =
    λ made. marked_more (λ (j : ℕ). j) f (λ i. asked_again at) old now next round k e c.loop-entry.invariant.marked within (get_or_default round k 0 e within) made in
    elim c.if-index-tracks.branch [
      | then-index-tracks w ↦
          let here : e < length now = w.if-index-tracks.true in
          record {
            marked = more (w.tracks-is ∙ ap (set now e) (w.asked.ensures.value ∙ ap (asked_track at) (get_or_default now e _ no_track here)));
            bounds = subst (All IsTrack) (sym w.tracks-is) (All-set IsTrack now e w.asked.result w.asked.ensures.bounds c.loop-entry.invariant.bounds);
          }
      | else-index-tracks w ↦
          let past : length now ≤ e = w.if-index-tracks.false in
          record {
            marked = more (w.tracks-is ∙ sym (set_past now e (f e (track_in now e)) past));
            bounds = subst (All IsTrack) (sym w.tracks-is) c.loop-entry.invariant.bounds;
          }
    ]

pub returns-clause-value : goal.returns-clause-value
returns-clause-value c =
    marked_all (λ (j : ℕ). j) (λ i. asked_track c.args.at) c.args.tracks.now c.loop-entry.tracks c.args.round.now c.loop-entry.entry-index
    c.loop-entry.invariant.marked (omega arith)
