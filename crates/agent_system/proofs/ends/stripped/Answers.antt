-- What the standard library trims.
use Rattle.base_words.proofs.Stripped.{stripped_is}
use Rattle.agent_system.proofs.ends.stripped.Goals as goal

pub returns : goal.returns
returns c = stripped_is c.args.text.now c.trim_ascii.result.now c.trim_ascii.ensures.value
