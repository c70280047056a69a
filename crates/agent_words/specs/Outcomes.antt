-- Outcomes: what came of a request of a client's, and why something was not done.
-- Source: this project's own.
use Rattle.std.specs.Prelude.{◌≡◌, ℕ, List, Option, Some, None, Vec, Result, Ok, Err, codes}
use Rattle.std.specs.declared.alloc.Global.{Global}

-- why something was not done, in words; None where memory was wanting for them
abbrev pub Why : Type 0
Why = Option (List ℕ)

-- why the file is not served, a reason a line; none where memory was wanting for them
abbrev pub Whys : Type 0
Whys = Vec (List ℕ) Global

-- ---- what came of a request of a client's: it was done, with a line that says so; or it was not

-- the line, None where memory was wanting for it; or why
abbrev pub Outcome : Type 0
Outcome = Result (Option (List ℕ)) Why

abbrev pub done_of : Outcome → Result (Unit {0}) Why
done_of (Ok line) = Ok tt
done_of (Err why) = Err why

-- the line says this
abbrev pub SaysSo : (List ℕ → Type 0) → Outcome → Type 0
SaysSo Says (Ok None) = Unit {0}
SaysSo Says (Ok (Some line)) = Says line
SaysSo Says (Err why) = Unit {0}

-- nobody keeps changes
abbrev pub nothing_kept : List ℕ
nothing_kept = codes "this agent keeps no changes; start it with --state FOLDER"

abbrev pub IsNotKept : {X : Type 0} → Result X Why → Type 0
IsNotKept (Ok x) = ⊥
IsNotKept (Err None) = Unit {0}
IsNotKept (Err (Some why)) = why ≡ nothing_kept
