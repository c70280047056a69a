-- A reply that was written, read with its date, is read back without one, as `DatedRoundTrip` shows.
use Rattle.vault_http.proofs.DatedRoundTrip.{reads_back_undated}
use Rattle.vault_http.proofs.round_trip.undated_reply_reads_back.Goals as goal

pub returns : goal.returns
returns c = reads_back_undated c.args.reply.now
