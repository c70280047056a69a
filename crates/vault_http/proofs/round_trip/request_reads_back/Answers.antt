-- A request that was written, with port 0, is the only answer to its bytes, as `RequestRoundTrip` shows.
use Rattle.vault_http.proofs.RequestRoundTrip.{reads_back}
use Rattle.vault_http.proofs.round_trip.request_reads_back.Goals as goal

pub returns : goal.returns
returns c = reads_back c.args.request.now
