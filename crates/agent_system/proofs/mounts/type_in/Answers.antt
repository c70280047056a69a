-- One word less is left; behind the dash stands the type.
use Rattle.std.proofs.Common.{◌∙◌, sym}
use Rattle.agent_pages.proofs.Ranges.{shorter}
use Rattle.agent_system.proofs.Mounted.{typed_word}
use Rattle.agent_system.proofs.mounts.type_in.Goals as goal

pub loop-word-smaller : goal.loop-word-smaller
loop-word-smaller c = shorter 32 c.loop-word.rest.now c.in-Some.word.now c.in-Some.words.now c.in-Some.ensures

pub returns-then-is_dash : goal.returns-then-is_dash
returns-then-is_dash c =
    c.keyword.ensures
    ∙ typed_word c.args.line.now c.loop-word.rest.now c.in-Some.word.now c.in-Some.words.now c.loop-word.invariant c.in-Some.ensures (sym c.is_dash.ensures ∙ c.if-is_dash.true)
