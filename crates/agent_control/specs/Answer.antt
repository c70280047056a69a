-- The answer of a reader: a value, or the first fault. Definitions never answer lack of memory, which only code can meet.
use Rattle.std.specs.Prelude.{◌≡◌, Result, Ok, Err}
use Rattle.agent_control.specs.declared.fault.RequestFault.{RequestFault}
use Rattle.agent_control.specs.declared.fault.RequestFault.TheVariants.{TooLong, NotWords, NoCommand, BadName, BadWhen, BadCredential, OutOfMemory}

-- one step after the other, up to the first fault
infixl 10 ◌>>=◌
abbrev pub ◌>>=◌ : {A B : Type 0} → Result A RequestFault → (A → Result B RequestFault) → Result B RequestFault
(Ok x) >>= f = f x
(Err e) >>= f = Err e

-- the answer is this fault; of lack of memory nothing is said
abbrev pub FailsWithRequestFault : {Y : Type 0} → RequestFault → Result Y RequestFault → Type 0
FailsWithRequestFault OutOfMemory answer = Unit {0}
FailsWithRequestFault TooLong answer = answer ≡ Err TooLong
FailsWithRequestFault NotWords answer = answer ≡ Err NotWords
FailsWithRequestFault NoCommand answer = answer ≡ Err NoCommand
FailsWithRequestFault BadName answer = answer ≡ Err BadName
FailsWithRequestFault BadWhen answer = answer ≡ Err BadWhen
FailsWithRequestFault BadCredential answer = answer ≡ Err BadCredential

-- what a call gave, seen by `view`, is the answer, unless memory ran out
abbrev pub GivesOrRequestFault : {X Y : Type 0} → (X → Y) → Result X RequestFault → Result Y RequestFault → Type 0
GivesOrRequestFault view (Ok x) answer = answer ≡ Ok (view x)
GivesOrRequestFault view (Err fault) answer = FailsWithRequestFault fault answer
