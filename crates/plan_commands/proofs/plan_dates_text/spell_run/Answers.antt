-- The line of a run is that of its words.
use Rattle.std.proofs.Common.{◌∙◌, ◌++◌, ap, codes}
use Rattle.plan_commands.proofs.Dated.{run_spelled}
use Rattle.plan_commands.proofs.plan_dates_text.spell_run.Goals as goal

pub returns : goal.returns
returns c =
    run_spelled c.args.forest.now.entries c.args.run c.args.date.now _ _ _ _ _ _ c.from_vec.result (c.in_ok-extend_from_slice.ensures.items ∙ ap (λ t. t ++ codes "run ") c.new-line.ensures.items) c.in_ok-extend_from_slice-2.ensures.items c.in_ok-push.ensures.items
    c.in_ok-push_spaced.ensures c.in_ok-push_spaced-2.ensures c.in_ok-push_pair.ensures c.from_vec.ensures
