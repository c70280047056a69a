-- What was started has run.
use Rattle.std.proofs.Common.{◌∙◌, ap, refl, subst}
use Rattle.std.specs.Prelude.{◌&&◌, is_none}
use Rattle.agent_start.specs.Starts.{IsStart}
use Rattle.agent_run.proofs.Having.{has_run}
use Rattle.leasekeep.proofs.Ran.{ran_if, served_alone}
use Rattle.leasekeep.proofs.running.run_among.Goals as goal

pub returns-in-Ok-clause-runs : goal.returns-in-Ok-clause-runs
returns-in-Ok-clause-runs g c done =
    let folder = c.as_ref-folder.ensures.variant ∙ c.state_folder-kept.ensures in
    has_run _ _ _ _ _ _ _ _ _ _ _ _ c.args.asked.words.now c.args.parts.log c.args.asked.demands c.in-Ok.start c.later_folder-later.result c.sources_of-sources.result.files c.sources_of-sources.result.secrets c.args.parts c.args.doors c.args.timed.now.clock c.run_over-ran.new.clock c.args.timed.now.lanes c.run_over-ran.new.lanes c.requires.demanded
    (subst (λ b. IsStart c.args.asked.demands b c.in-Ok.start) folder c.in-Ok.ensures.start)
    (c.later_folder-later.ensures ∙ ap (λ b. b && is_none c.in-Ok.start.ledger) folder)
    (λ none. served_alone _ _ _ _ _ _ _ _ folder c.sources_of-sources.ensures (c.in-Ok.ensures.alone none))
    refl c.requires.ends c.requires.free c.requires.port c.requires.seconds c.requires.width (ran_if c.run_over-ran.result c.ended.result c.run_over-ran.ensures.runs c.ended.ensures.not_done done)
