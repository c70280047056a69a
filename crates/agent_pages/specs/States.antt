-- States: what an operator has to know of an entry, in one word.
-- Source: this project's own, docs/running.md, "What the operator sees".
use Rattle.std.specs.Prelude.{ℕ, Bool, true, false, List, Option, Some, None, codes}
use Rattle.agent_standing.specs.declared.status.Condition.{Condition}
use Rattle.agent_standing.specs.declared.status.Condition.TheVariants as conditions
use Rattle.agent_pages.specs.declared.state.EntryState.{EntryState}
use Rattle.agent_pages.specs.declared.state.EntryState.TheVariants.{Gone, Ended, Waiting, Short, Unknown, Trying, Kept}

-- of an entry of which a request failed, or which was never asked for: nothing is known yet of one without an end
abbrev pub tried_state : Option ℕ → EntryState
tried_state None = Unknown
tried_state (Some end) = Trying

-- of an entry that is served, by its condition and its end
abbrev pub state_of : Condition → Option ℕ → EntryState
state_of conditions.Gone end = Gone
state_of conditions.Ended end = Ended
state_of conditions.Short end = Short
state_of conditions.Trying end = tried_state end
state_of conditions.Kept end = Kept

abbrev pub state_word : EntryState → List ℕ
state_word Gone = codes "gone"
state_word Ended = codes "ended"
state_word Waiting = codes "waiting"
state_word Short = codes "short"
state_word Unknown = codes "unknown"
state_word Trying = codes "trying"
state_word Kept = codes "kept"

-- an entry that lives and is asked again is kept
abbrev pub is_kept : EntryState → Bool
is_kept Trying = true
is_kept Kept = true
is_kept state = false
