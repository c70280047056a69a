-- Ends: the one line that keeps an end over a restart, and the end that a line keeps.
-- Source: this project's own.
use Rattle.std.specs.Prelude.{◌≡◌, ℕ, ◌≤◌, Bool, true, false, ◌&&◌, if◌then◌else◌, List, [], ◌∷◌, Option, Some, None, bytes_eq, codes, decimal}
use Rattle.std.specs.List.{join_with_byte}
use Rattle.vault_inventory.specs.Values.{is_credential}
use Rattle.plan_forest.specs.{declared.forest.TheConstants.END_MAX, Push.is_name}
use Rattle.base_words.specs.{Laws.Lacks, Numbers.number_up_to, Pieces.words, Texts.yes_or_no}
use Rattle.agent_standing.specs.{declared.ends.KnownEnd.KnownEnd, declared.standing.Told.Told}

-- ---- as it is written

-- the name, the end in whole seconds of the clock that never steps, whether the entry can be renewed, the fingerprint of its
-- credential, and the boot
abbrev pub end_words : KnownEnd → List (List ℕ)
end_words k = k.name ∷ decimal k.told.end ∷ yes_or_no k.told.renewable ∷ k.fingerprint ∷ k.boot ∷ []

-- its words, parted by one space
unfoldable pub end_text : KnownEnd → List ℕ
end_text k = join_with_byte 32 (end_words k)

-- ---- as it is read

abbrev pub renewable_of : List ℕ → Option Bool
renewable_of word = if bytes_eq word (codes "yes") then Some true else (if bytes_eq word (codes "no") then Some false else None)

abbrev pub told_by_words : Option ℕ → Option Bool → Option Told
told_by_words None renewable = None
told_by_words (Some end) None = None
told_by_words (Some end) (Some renewable) = Some (record { end = end; renewable = renewable })

unfoldable pub told_of_words : List ℕ → List ℕ → Option Told
told_of_words end renewable = told_by_words (number_up_to END_MAX end) (renewable_of renewable)

abbrev pub known_end_by : List ℕ → List ℕ → List ℕ → Option Told → Option KnownEnd
known_end_by name fingerprint boot None = None
known_end_by name fingerprint boot (Some told) =
    if is_name name && (is_credential fingerprint && is_credential boot) then Some (record { name = name; fingerprint = fingerprint; boot = boot; told = told }) else None

abbrev pub five : List (List ℕ) → Option (List ℕ × List ℕ × List ℕ × List ℕ × List ℕ)
five (a ∷ b ∷ c ∷ d ∷ e ∷ []) = Some (a, b, c, d, e)
five ws = None

-- the end that a line keeps
unfoldable pub end_of_text : List ℕ → Option KnownEnd
end_of_text text = elim (five (words text)) [ None ↦ None | Some w ↦ known_end_by w.0 w.3 w.4 (told_of_words w.1 w.2) ]

-- one that was told in another boot is worth nothing
abbrev pub in_boot : List ℕ → Option KnownEnd → Option KnownEnd
in_boot boot None = None
in_boot boot (Some k) = if bytes_eq k.boot boot then Some k else None

-- ---- which there are

-- an end that may be kept
pub record IsKnownEnd (k : KnownEnd) : Type 0 where
  pub name : is_name k.name ≡ true
  pub end : k.told.end ≤ END_MAX
  pub fingerprint : is_credential k.fingerprint ≡ true
  pub boot : is_credential k.boot ≡ true

-- ---- laws: each is the contract of a public function without a body

-- the text of an end is read as that end
abbrev pub EndWrittenIsRead : Type 0
EndWrittenIsRead = (k : KnownEnd) → IsKnownEnd k → end_of_text (end_text k) ≡ Some k

-- and no other text is
abbrev pub EndReadIsWritten : Type 0
EndReadIsWritten = (text : List ℕ) (k : KnownEnd) → end_of_text text ≡ Some k → IsKnownEnd k × (text ≡ end_text k)

-- no line feed stands in it
abbrev pub EndLineLaw : Type 0
EndLineLaw = (k : KnownEnd) → IsKnownEnd k → Lacks 10 (end_text k)

-- in another boot it is worth nothing
abbrev pub BootLaw : Type 0
BootLaw = (k : KnownEnd) → IsKnownEnd k → (boot : List ℕ) → bytes_eq k.boot boot ≡ false → in_boot boot (end_of_text (end_text k)) ≡ None
