-- Lines of moments: by which whoever drives a broker says when each connection is served. This project's own.
use Rattle.std.specs.Prelude.{◌≡◌, ℕ, ◌<◌, ◌≤◌, ◌⊎◌, not, ◌==◌, true, List, [], ◌∷◌, ◌++◌, decimal, length, Option, IfSome, Result, Ok, Err}
use Rattle.std.specs.{List.list_all, Io.KnownBytes.Consumes, Io.KnownBytes.IsAtEnd}
use Rattle.base_moment.specs.declared.moment.TheConstants.{LAST}
use Rattle.base_device.specs.{Failures.one_more, Seen.Input, Seen.Seen}
use Rattle.broker_table.specs.{declared.moment_line.LineFault.LineFault, declared.moment_line.Moments.Moments, declared.moment_line.TheConstants.MOST_LINE}
use Rattle.broker_table.specs.declared.moment_line.LineFault.TheVariants as lines
use Rattle.broker_table.specs.declared.moment_line.Moments.TheVariants as moments

-- the seconds since 1970-01-01T00:00:00Z in decimal digits, without zeros in front, and a line feed
abbrev pub moment_line : ℕ → List ℕ
moment_line m = decimal m ++ 10 ∷ []

-- the bytes begin with the line of a moment, of as many bytes as a line may have
abbrev pub BeginsWith : List ℕ → ℕ → List ℕ → Type 0
BeginsWith bytes m rest = (m ≤ LAST) × (length (moment_line m) ≤ MOST_LINE) × (bytes ≡ moment_line m ++ rest)

-- no line of a moment stands in front
abbrev pub HasNoMoment : List ℕ → Type 0
HasNoMoment bytes = (m : ℕ) (rest : List ℕ) → BeginsWith bytes m rest → ⊥

-- ---- a line of whatever it holds

-- no line feed stands in the text
abbrev pub IsOneLine : List ℕ → Type 0
IsOneLine text = list_all (λ b. not (b == 10)) text ≡ true

-- no line of as many bytes as a line may have stands in front
abbrev pub HasNoLine : List ℕ → Type 0
HasNoLine bytes = (text rest : List ℕ) → IsOneLine text → length text < MOST_LINE → bytes ≡ text ++ (10 ∷ rest) → ⊥

-- of an input whose next line tells no moment, what stands after the line is left; or the end, where the line has no line
-- feed; or what stands after as many bytes as a line may have
abbrev pub PassesLine : Option (List ℕ) → Option (List ℕ) → Type 0
PassesLine before now =
    (text : List ℕ) × IsOneLine text
    × (((length text < MOST_LINE) × Consumes before now (text ++ 10 ∷ [])) ⊎ (Consumes before now text × ((length text ≡ MOST_LINE) ⊎ IsAtEnd now)))

-- where the reading breaks off, no byte is lost but those of a front of the line
abbrev pub BreaksOff : Option (List ℕ) → Option (List ℕ) → Type 0
BreaksOff before now = (front : List ℕ) × IsOneLine front × (length front ≤ MOST_LINE) × Consumes before now front

-- one failure more where a read failed, and else none
abbrev pub CountsLine : {X : Type 0} → Result X LineFault → ℕ → ℕ → Type 0
CountsLine (Ok x) before now = now ≡ before
CountsLine (Err lines.ReadFailed) before now = now ≡ one_more before
CountsLine (Err lines.NoMoment) before now = now ≡ before
CountsLine (Err lines.OutOfMemory) before now = now ≡ before

-- the moment of a line that was read, and no byte after it; or that none stands in front; and what is left
abbrev pub TellsMomentLine : Result ℕ LineFault → Input → Input → Type 0
TellsMomentLine (Ok m) before now = Consumes before.remaining now.remaining (moment_line m)
TellsMomentLine (Err lines.NoMoment) before now = IfSome before.remaining HasNoMoment × PassesLine before.remaining now.remaining
TellsMomentLine (Err fault) before now = BreaksOff before.remaining now.remaining

-- the moment at which the next connection is served: the one of all, or that of the next line
abbrev pub TellsMoment : Moments → Result ℕ LineFault → Seen → Seen → Type 0
TellsMoment (moments.All m) result before now = result ≡ Ok m
TellsMoment moments.Lines result before now = TellsMomentLine result before.input now.input × CountsLine result before.failed_calls now.failed_calls

-- where all connections have one moment, nothing is read
abbrev pub ReadsNothing : {S : Type 0} → Moments → S → S → Type 0
ReadsNothing (moments.All m) before now = now ≡ before
ReadsNothing moments.Lines before now = Unit {0}
