-- Hearing: what the lines of an input mean to what hears them.
-- Source: this project's own.
use Rattle.std.specs.Prelude.{◌≡◌, ℕ, ◌⊎◌, ◌++◌, List, [], Result, Ok, Err, min}
use Rattle.base_device.specs.Seen.{Change}
use Rattle.program_report.specs.{declared.stop.Stop.Stop, Sent.IsAll, Sent.IsUntouched}
use Rattle.program_report.specs.declared.stop.Stop.TheVariants as stops

-- a line is none at a state; it is heard at a state, leads to another, and is answered by this text; or it stops the program, at a
-- state, after this text, for this reason, and leaves this state and this output
pub record Hearing (S : Type 0) : Type 1 where
  pub is_none : S → List ℕ → Type 0
  pub is_heard : S → List ℕ → S → List ℕ → Type 0
  pub stops : S → List ℕ → List ℕ → Stop → S → Change → Type 0

-- a line's number as it is counted: from 1 on, and no further than 2^64 - 1
abbrev pub counted_line : ℕ → ℕ
counted_line n = min n 18446744073709551615

-- a text was written and flushed, if there is any; else nothing was done
abbrev pub TextIsSaid : List ℕ → Change → Type 0
TextIsSaid text out = IsAll text out ⊎ ((text ≡ []) × IsUntouched out)

-- and no call failed
abbrev pub IsSaidWhole : List ℕ → Change → Type 0
IsSaidWhole text out = TextIsSaid text out × (out.new.failed_calls ≡ out.old.failed_calls)

-- the line of that number is heard, and its text written and flushed; or it is none, and nothing is done; or it stops the program
abbrev pub HearsLine : (S : Type 0) → Hearing S → ℕ → S → List ℕ → Result (Unit {0}) Stop → S → Change → Type 0
HearsLine S h number old line (Ok u) new out = (text : List ℕ) × (h.is_heard old line new text × (IsAll text out × (out.new.failed_calls ≡ out.old.failed_calls)))
HearsLine S h number old line (Err (stops.Line n)) new out = (n ≡ number) × (h.is_none old line × ((new ≡ old) × IsUntouched out))
HearsLine S h number old line (Err stops.Read) new out = ⊥
HearsLine S h number old line (Err stop) new out = h.stops old line [] stop new out

-- a call that ended between two lines: all of its lines were heard, or one was none, or no more could be read
abbrev pub EndsBetweenLines : {X : Type 0} → Result X Stop → Type 0
EndsBetweenLines (Ok x) = Unit {0}
EndsBetweenLines (Err (stops.Line n)) = Unit {0}
EndsBetweenLines (Err stops.Read) = Unit {0}
EndsBetweenLines (Err stop) = ⊥

-- what was done of one output, and then of another state of it
abbrev pub joined_changes : Change → Change → Change
joined_changes a b = record { old = a.old; new = b.new; is_in_memory = b.is_in_memory }

-- a stop at a line is one after what was written before it, too
abbrev pub StopsAfter : (S : Type 0) → Hearing S → Type 0
StopsAfter S h =
    (a b : Change) (old : S) (line t u : List ℕ) (stop : Stop) (new : S) → a.new ≡ b.old → IsSaidWhole t a → h.stops old line u stop new b →
    h.stops old line (t ++ u) stop new (joined_changes a b)
