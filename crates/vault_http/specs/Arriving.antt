-- What is known of a reply that comes in piece by piece. The words are the code's own: no contract of the crate that is public
-- names them.
use Rattle.std.specs.Prelude.{ℕ, List, Option, Some, None}
use Rattle.httparse.specs.Grammar.{HasNoResponse}
use Rattle.vault_http.specs.{Dates.IsDatedReply, Dates.dated_with, Known.IsCurrent, Known.StaysKnown, declared.dated_reply.DatedReply.DatedReply, declared.known.Known.Known, declared.known.TheConstants.MOST_MESSAGE}

-- of a reply with its date of which these bytes have come, so much is known; nothing is known at first, and once memory was
-- wanting
abbrev pub IsDatedSoFar : List ℕ → Option (Known DatedReply) → Type 0
IsDatedSoFar bytes None = Unit {0}
IsDatedSoFar bytes (Some k) = StaysKnown HasNoResponse (IsDatedReply MOST_MESSAGE) dated_with MOST_MESSAGE bytes k × IsCurrent MOST_MESSAGE bytes k

-- the same was known of a front of these bytes
abbrev pub IsDatedFront : List ℕ → Option (Known DatedReply) → Type 0
IsDatedFront bytes None = Unit {0}
IsDatedFront bytes (Some k) = StaysKnown HasNoResponse (IsDatedReply MOST_MESSAGE) dated_with MOST_MESSAGE bytes k
