-- Event lines: what a line of the program's input says.
-- Source: this project's own: `tick T` and `need NAME T`, words parted by one space, T a moment spelled in decimal.
use Rattle.std.specs.Prelude.{ℕ, ◌==◌, ◌<◌, List, [], ◌∷◌, Option, Some, None, codes, bytes_eq, length, nat_lt, option_map, if◌then◌else◌}
use Rattle.base_moment.specs.declared.moment.TheConstants.{LAST}
use Rattle.program_lines.specs.{declared.event_line.HeardLine.HeardLine, declared.limits.TheConstants.MOST_LINE}
use Rattle.program_lines.specs.declared.event_line.HeardLine.TheVariants.{Tick, Need, Unknown}
use Rattle.plan_forest.specs.Forest.{Forest, index_named}
use Rattle.base_words.specs.{Numbers.number_up_to, Pieces.words}

-- `tick T`
abbrev pub tick_in : List ℕ → List ℕ → Option HeardLine
tick_in word t = if bytes_eq word (codes "tick") then option_map Tick (number_up_to LAST t) else None

-- the entry of that name, if there is one
abbrev pub need_heard : Option ℕ → ℕ → HeardLine
need_heard (Some i) until = Need i until
need_heard None until = Unknown

-- `need NAME T`, where a name has at least one byte
abbrev pub need_in : Forest → List ℕ → List ℕ → List ℕ → Option HeardLine
need_in g word name until =
    if bytes_eq word (codes "need") then (if length name == 0 then None else option_map (need_heard (index_named g.entries name)) (number_up_to LAST until)) else None

abbrev pub event_in_words : Forest → List (List ℕ) → Option HeardLine
event_in_words g (word ∷ t ∷ []) = tick_in word t
event_in_words g (word ∷ name ∷ until ∷ []) = need_in g word name until
event_in_words g ws = None

-- what a line without its line feed says, which has 256 bytes at most with it; none where it is no event line
unfoldable pub heard_in : Forest → List ℕ → Option HeardLine
heard_in g line = if nat_lt (length line) MOST_LINE then event_in_words g (words line) else None

-- the entry that is needed, if one is, is among so many
abbrev pub IsEventLineWithin : ℕ → HeardLine → Type 0
IsEventLineWithin n (Tick t) = Unit {0}
IsEventLineWithin n (Need i until) = i < n
IsEventLineWithin n Unknown = Unit {0}
