-- A reply that was written is the only answer to its bytes, as `ReplyRoundTrip` shows.
use Rattle.vault_http.proofs.ReplyRoundTrip.{reads_back}
use Rattle.vault_http.proofs.round_trip.reply_reads_back.Goals as goal

pub returns : goal.returns
returns c = reads_back c.args.reply.now
