-- A body's answer: a value, or the first fault. Definitions never answer lack of memory, which only code can meet.
use Rattle.std.specs.Prelude.{◌≡◌, Result, Ok, Err, Option, Some, None}
use Rattle.vault_json.specs.{declared.field.Field.Field, declared.fault.ReplyFault.ReplyFault}
use Rattle.vault_json.specs.{declared.fault.ReplyFault.TheVariants.NotJson, declared.fault.ReplyFault.TheVariants.Missing, declared.fault.ReplyFault.TheVariants.BadField, declared.fault.ReplyFault.TheVariants.Wrapped, declared.fault.ReplyFault.TheVariants.OutOfMemory}

-- one step after the other, up to the first fault
infixl 10 ◌>>=◌
abbrev pub ◌>>=◌ : {A B : Type 0} → Result A ReplyFault → (A → Result B ReplyFault) → Result B ReplyFault
(Ok x) >>= f = f x
(Err e) >>= f = Err e

-- the answer is this fault; of lack of memory nothing is said
abbrev pub FailsWithReplyFault : {Y : Type 0} → ReplyFault → Result Y ReplyFault → Type 0
FailsWithReplyFault OutOfMemory answer = Unit {0}
FailsWithReplyFault NotJson answer = answer ≡ Err NotJson
FailsWithReplyFault (Missing field) answer = answer ≡ Err (Missing field)
FailsWithReplyFault (BadField field) answer = answer ≡ Err (BadField field)
FailsWithReplyFault Wrapped answer = answer ≡ Err Wrapped

-- what a call gave, seen by `view`, is the answer, unless memory ran out
abbrev pub GivesOrReplyFault : {X Y : Type 0} → (X → Y) → Result X ReplyFault → Result Y ReplyFault → Type 0
GivesOrReplyFault view (Ok x) answer = answer ≡ Ok (view x)
GivesOrReplyFault view (Err fault) answer = FailsWithReplyFault fault answer

-- a value that has no such reading is a bad field
abbrev pub or_bad : {A : Type 0} → Field → Option A → Result A ReplyFault
or_bad field None = Err (BadField field)
or_bad field (Some x) = Ok x
