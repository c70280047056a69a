-- The exit of a live run, and its fault line if it stops, are those of what it did.
use Rattle.tick_runs.proofs.LiveListening.{done_runs, stopped_runs}
use Rattle.tick_runs.proofs.live.run_live.Goals as goal

pub returns-in-Ok : goal.returns-in-Ok
returns-in-Ok g c = done_runs _ _ _ (g.E.Exchange.behind c.args.exchange.now) _ _ _ (g.F.Device.seen c.args.streams.now.errors) g.F.Device.is_in_memory c.in-Ok.ensures

pub returns-in-Err : goal.returns-in-Err
returns-in-Err g c = stopped_runs _ _ _ (g.E.Exchange.behind c.args.exchange.now) _ c.report.result _ _ _ _ c.report.ensures.exit c.in-Err.ensures c.report.ensures.told
