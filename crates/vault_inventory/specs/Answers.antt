-- Answers that are a value or the first fault, and a call's answer against them where memory may be refused.
use Rattle.std.specs.Prelude.{◌≡◌, Result, Ok, Err}
use Rattle.vault_inventory.specs.declared.fault.InvFault.{InvFault}
use Rattle.vault_inventory.specs.declared.fault.InvFault.TheVariants.{NotToml, MissingKey, UnknownKey, BadValue, Tree, OutOfMemory}

-- the next step, or the fault of the first
infixl 10 ◌>>=◌
abbrev pub ◌>>=◌ : {A B : Type 0} → Result A InvFault → (A → Result B InvFault) → Result B InvFault
(Ok x) >>= f = f x
(Err e) >>= f = Err e

-- the call's fault is that of the definition, or lack of memory
abbrev pub FailsWithInvFault : {Y : Type 0} → InvFault → Result Y InvFault → Type 0
FailsWithInvFault OutOfMemory answer = Unit {0}
FailsWithInvFault NotToml answer = answer ≡ Err NotToml
FailsWithInvFault (MissingKey i k) answer = answer ≡ Err (MissingKey i k)
FailsWithInvFault (UnknownKey i) answer = answer ≡ Err (UnknownKey i)
FailsWithInvFault (BadValue i k) answer = answer ≡ Err (BadValue i k)
FailsWithInvFault (Tree i f) answer = answer ≡ Err (Tree i f)

-- the call gives what the definition gives, unless memory was refused
abbrev pub GivesOrInvFault : {X Y : Type 0} → (X → Y) → Result X InvFault → Result Y InvFault → Type 0
GivesOrInvFault view (Ok x) answer = answer ≡ Ok (view x)
GivesOrInvFault view (Err e) answer = FailsWithInvFault e answer
