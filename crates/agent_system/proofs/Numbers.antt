-- Numbers: the name by which an agent has its number. For `own_number`.
use Rattle.std.proofs.Common.{◌≡◌, ◌∙◌, ℕ, List, [], ◌∷◌, ◌++◌, ap}
use Rattle.std.specs.Prelude.{codes}
use Rattle.plan_spread.specs.Parts.{number_of}
use Rattle.agent_system.specs.Numbers.{IsOwnName, IsOwnNumber}

-- the code of a colon is 58
pub is_own : (host with_colon file written name : List ℕ) → with_colon ≡ host ++ 58 ∷ [] → written ≡ file → name ≡ with_colon ++ written → IsOwnName file name
is_own host with_colon file written name colon same is =
    record { host = host; is = is ∙ (ap (λ w. w ++ written) colon ∙ ap (λ f. (host ++ codes ":") ++ f) same) }

pub is_number : (file name read : List ℕ) (number : ℕ) → IsOwnName file name → read ≡ name → number ≡ number_of read → IsOwnNumber file number
is_number file name read number own same is = record { name = name; own = own; is = is ∙ ap number_of same }
