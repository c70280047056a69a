-- Where no line of a size can come of the front, the body fails with BadChunk however the bytes go on.
use Rattle.std.proofs.Common.{subst}
use Rattle.vault_http.specs.Chunks.{IsSize, NeverHas}
use Rattle.vault_http.proofs.ChunkSteps.{bad_front}
use Rattle.vault_http.proofs.chunk.next_step.Goals as goal

pub returns-in-Bad : goal.returns-in-Bad
returns-in-Bad c = bad_front c.args.text.now c.args.room (subst (NeverHas IsSize) c.front_of.ensures c.in-Bad.ensures)
