-- By what the entries carry, those are pressed whose time has come, and those whom a round asks.
use Rattle.std.proofs.Common.{◌≡◌, ◌∙◌, ap, sym}
use Rattle.watch_machine.specs.{Round.asked_by_round, State.each}
use Rattle.watch_machine.specs.Press.{pressed_alone, pressed_tracks, track_asked_in}
use Rattle.watch_machine.proofs.{Owing.none_asked, Owing.pressed_are, clock_step.press.Goals.in-Some, clock_step.press.Goals.in_default}
use Rattle.watch_machine.proofs.clock_step.press.Goals as goal

pub round-requires-clause-needs : goal.round-requires-clause-needs
round-requires-clause-needs c = c.requires.needs.cut.count ∙ c.requires.view.count

pub press_alone-requires-clause-needs : goal.press_alone-requires-clause-needs
press_alone-requires-clause-needs c = c.requires.needs.cut.count ∙ c.requires.view.count

pub returns-clause-tracks : goal.returns-clause-tracks
returns-clause-tracks c =
    let g = c.args.forest.now in
    let k = c.args.clocks in
    let old = c.args.tracks.now in
    let mid = c.press_alone.new.tracks in
    let needs = c.args.needs.now in
    let round = c.in_ok-round.round in
    let alone : mid ≡ pressed_alone g k old = c.press_alone.ensures.value ∙ pressed_are g old k needs c.requires.count c.requires.needs.needs in
    elim c.match-round.branch [
      | in-Some w ↦
          w.tracks-is ∙ w.press_round.ensures.value ∙ ap (λ r. each (track_asked_in k.at r) mid) w.list.ensures ∙ ap (each (track_asked_in k.at w.in-Some.asked)) alone
          ∙ ap (λ r. pressed_tracks g k (asked_by_round r) old) (sym w.in-Some.is)
      | in_default w ↦ w.tracks-is ∙ alone ∙ sym (none_asked g k old) ∙ ap (λ r. pressed_tracks g k (asked_by_round r) old) (sym w.in_default.is)
    ]
