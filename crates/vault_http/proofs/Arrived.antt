-- What is known of a reply that comes in piece by piece: for `Arriving`.
use Rattle.std.proofs.Common.{ℕ, List, ◌++◌, Option, Some, None, Ok}
use Rattle.httparse.specs.Grammar.{HasNoResponse}
use Rattle.vault_http.specs.{Arriving.IsDatedFront, Arriving.IsDatedSoFar, Dates.IsDatedReply, Dates.dated_with, Holding.IsWaitedFor, declared.dated_reply.DatedReply.DatedReply, declared.known.Known.Known}
use Rattle.vault_http.specs.{declared.known.TheConstants.MOST_MESSAGE}
use Rattle.vault_http.proofs.Waiting.{known_on, waited}

-- it stays true however the bytes go on
pub known_of_front : (bytes more : List ℕ) (known : Option (Known DatedReply)) → IsDatedSoFar bytes known → IsDatedFront (bytes ++ more) known
known_of_front bytes more None h = tt
known_of_front bytes more (Some k) h = known_on HasNoResponse (IsDatedReply MOST_MESSAGE) dated_with MOST_MESSAGE bytes more k h.0

-- where there is no answer yet, more is rightly waited for
pub waited_for : (bytes : List ℕ) (k : Known DatedReply) → ((max : ℕ) (whole : List ℕ) (message : DatedReply) → IsDatedReply max whole (Ok message) → HasNoResponse whole → ⊥)
    → IsDatedSoFar bytes (Some k) → IsWaitedFor HasNoResponse (IsDatedReply MOST_MESSAGE) bytes
waited_for bytes k heads h = waited HasNoResponse (IsDatedReply MOST_MESSAGE) dated_with MOST_MESSAGE bytes k (heads MOST_MESSAGE bytes) h.0 h.1
