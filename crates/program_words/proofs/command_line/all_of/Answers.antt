-- What is collected are all words that there are.
use Rattle.std.proofs.Common.{refl}
use Rattle.std.specs.Vec.Iter.{into_iter_items}
use Rattle.std.proofs.lemmas.{Iterator.items_from_collect, Iterator.Adapters.YieldsList-from_vec}
use Rattle.program_words.proofs.command_line.all_of.Goals as goal

pub returns : goal.returns
returns c = items_from_collect c.collect.result c.collect.ensures.ran (YieldsList-from_vec {s = c.args.words} (into_iter_items c.args.words) refl c.args.words.rest.ok.0)
