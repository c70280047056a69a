-- What is out has room in the second list, too, and another inventory is served.
use Rattle.std.proofs.Common.{◌≡◌, ◌∙◌, List, Option, ap, ap₂, arith, length, map, sym}
use Rattle.vault_asking.specs.{InStep.entries_out, Sending.Lanes, Sending.lanes_of}
use Rattle.vault_lanes.specs.Out as lanes
use Rattle.vault_lanes.specs.{Out.renamed, Serving.BehindLanes}
use Rattle.watch_machine.specs.{declared.lanes.Out.Out, State.WatchState}
use Rattle.agent_turns.specs.Held.{Held}
use Rattle.agent_turns.proofs.Changed.{another_served, as_many_out, both_none}
use Rattle.agent_turns.proofs.serving.Serving.serve_another.Goals as goal

pub entries_in-to-requires-clause-room : goal.entries_in-to-requires-clause-room
entries_in-to-requires-clause-room g c =
    let same = as_many_out c.self.inside.agent c.change.new.self c.args.inventory c.in_ok-change.ensures.changed in
    let after = ap length (c.out-2.ensures ∙ ap (λ (m : WatchState). m.out) c.watch-3.ensures.value) in
    let before = ap length (c.out-count.ensures ∙ ap (λ (m : WatchState). m.out) c.watch.ensures.value) in
    let room = c.in_ok-to.ensures.capacity in
    omega (arith, same, after, before, room)

pub returns-clause-served : goal.returns-clause-served
returns-clause-served g c =
    let h = c.args.self.now in
    let w = c.self.inside in
    let new = c.change.new.self in
    let l : Lanes = lanes_of (g.L.Lanes.behind c.args.lanes.now) (g.L.Lanes.out c.args.lanes.now) (g.L.Lanes.seconds c.args.lanes.now) in
    let m : Lanes = lanes_of (g.L.Lanes.behind c.rename.new.self) (g.L.Lanes.out c.rename.new.self) (g.L.Lanes.seconds c.rename.new.self) in
    let k : Held = record { agent = new; pending = w.pending.items; unsent = w.unsent.items; asked = w.asked; until = w.until } in
    let idle = both_none h.pending h.unsent (sym c.is_idle.ensures ∙ c.if-not-is_idle.false) in
    let from : c.deref.result.now ≡ entries_out w.agent.machine =
    c.deref.ensures.value ∙ c.entries_in-from.ensures ∙ ap (map (λ (r : Out). r.entry)) (c.out.ensures ∙ ap (λ (s : WatchState). s.out) c.watch-2.ensures.value) in
    let to : c.deref-2.result.now ≡ entries_out new.machine =
    c.deref-2.ensures.value ∙ c.entries_in-to.ensures ∙ ap (map (λ (r : Out). r.entry)) (c.out-2.ensures ∙ ap (λ (s : WatchState). s.out) c.watch-3.ensures.value) in
    let lanes_are : m ≡ record l { out = renamed c.deref.result.now c.deref-2.result.now l.out } =
    ap₂ (λ (b : Option BehindLanes) (o : List lanes.Out). lanes_of b o m.seconds) c.rename.ensures.behind c.rename.ensures.renamed ∙ ap (lanes_of l.behind (renamed c.deref.result.now c.deref-2.result.now l.out)) c.rename.ensures.seconds in
    another_served c.args.inventory h k w.agent new l m c.deref.result.now c.deref-2.result.now idle.0 idle.1 (ap (λ (x : Held). x.agent) c.self.view_is) c.in_ok-change.ensures.changed
    (ap (λ (x : Held). record x { agent = new }) c.self.view_is) from to lanes_are
