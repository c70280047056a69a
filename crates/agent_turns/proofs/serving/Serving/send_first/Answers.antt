-- The first request that was not sent is of an entry, and finds a lane; where memory is wanting for it nothing was done.
use Rattle.std.proofs.Common.{◌≡◌, length, ap, arith, slice_index_or}
use Rattle.vault_asking.specs.Sending.{lanes_of}
use Rattle.agent_turns.specs.Held.{Held}
use Rattle.agent_turns.proofs.{InStep.first_within, Sent.kept_back, Sent.on_err}
use Rattle.agent_turns.proofs.serving.Serving.send_first.Goals as goal

pub ask_for-requires-clause-within : goal.ask_for-requires-clause-within
ask_for-requires-clause-within g c =
    let items = ap (λ (h : Held). h.unsent) c.self.view_is in
    let is : c.index-request.result.now ≡ slice_index_or c.args.self.now.unsent 0 c.index-request.result.now = cc (c.index-request.ensures, items) in
    let within = first_within _ _ c.args.self.now c.index-request.result.now c.requires.in_step c.requires.some is in
    let same = ap (λ m. length m.forest.entries) c.watch-watch.ensures.value in
    let seen = ap (λ (h : Held). length h.agent.machine.forest.entries) c.self.view_is in
    omega (arith, within, same, seen)

pub returns-in_err-ask-clause-kept : goal.returns-in_err-ask-clause-kept
returns-in_err-ask-clause-kept g c =
    on_err c.from_residual.result _
    (kept_back (g.L.Lanes.host_port c.args.lanes.now) c.args.self.now (lanes_of (g.L.Lanes.behind c.args.lanes.now) (g.L.Lanes.out c.args.lanes.now) (g.L.Lanes.seconds c.args.lanes.now)) c.requires.some)
