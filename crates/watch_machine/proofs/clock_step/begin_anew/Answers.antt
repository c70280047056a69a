-- By what the entries carry, everybody who is called owes a lookup.
use Rattle.std.proofs.Common.{◌≡◌, ◌∙◌, List, ap, length, subst}
use Rattle.plan_needs.specs.Carried.{CarriedNeed, IsCarried, load_at}
use Rattle.watch_machine.specs.State.{each}
use Rattle.watch_machine.specs.Beginning.{called_by, owing, owing_all}
use Rattle.watch_machine.proofs.{Owing.owed_are, Owing.owed_sees, Written.each_length}
use Rattle.watch_machine.proofs.clock_step.begin_anew.Goals as goal

pub returns-clause-tracks : goal.returns-clause-tracks
returns-clause-tracks c =
    let g = c.args.forest.now in
    let k = c.args.clocks in
    let first = c.args.first in
    let mid = c.clear_tops.new.tracks in
    let needs = c.in_ok-needs.needs in
    let written = c.in_ok-written.written in
    let wrote : IsCarried g 0 written = subst (λ t. IsCarried g t written) c.moment_at.ensures c.in_ok-written.ensures in
    let beside : length mid ≡ length g.entries = ap length c.clear_tops.ensures.value ∙ each_length _ c.args.tracks.now ∙ c.requires.count in
    owed_are g mid k needs beside first c.needs_of.new.view written c.owe_all.new.tracks c.in_ok-needs.ensures.needs wrote
    (c.owe_all.ensures.value ∙ ap (λ (cut : List CarriedNeed). each (λ i. owing k.at first (called_by k.dated (load_at cut i).need (load_at written i).need)) mid) c.cut.ensures)
    ∙ ap (owing_all g k first) c.clear_tops.ensures.value

pub returns-clause-needs : goal.returns-clause-needs
returns-clause-needs c =
    let g = c.args.forest.now in
    let k = c.args.clocks in
    let first = c.args.first in
    let mid = c.clear_tops.new.tracks in
    let needs = c.in_ok-needs.needs in
    let written = c.in_ok-written.written in
    let view = c.needs_of.new.view in
    let new = c.owe_all.new.tracks in
    let wrote : IsCarried g 0 written = subst (λ t. IsCarried g t written) c.moment_at.ensures c.in_ok-written.ensures in
    let beside : length mid ≡ length g.entries = ap length c.clear_tops.ensures.value ∙ each_length _ c.args.tracks.now ∙ c.requires.count in
    let made : new ≡ owing_all g k first mid =
    owed_are g mid k needs beside first view written new c.in_ok-needs.ensures.needs wrote
    (c.owe_all.ensures.value ∙ ap (λ (cut : List CarriedNeed). each (λ i. owing k.at first (called_by k.dated (load_at cut i).need (load_at written i).need)) mid) c.cut.ensures) in
    owed_sees g mid k needs beside first view new c.in_ok-needs.ensures.needs made
