-- Listening: lines, one after another: which are heard, what is written of them, and how listening ends.
-- Source: this project's own.
use Rattle.std.specs.Prelude.{◌≡◌, ℕ, ◌+◌, ◌-◌, ◌^◌, ◌<◌, ◌≤◌, ◌⊎◌, ◌++◌, List, [], ◌∷◌, Option, None, Some, Result, Ok, Err, IfSome, length, take}
use Rattle.std.specs.Io.KnownBytes.{Consumes, IsAtEnd}
use Rattle.base_device.specs.{Failures.one_more, Whole.MakesAtMost}
use Rattle.base_device.specs.Seen.{Change, Input, Receives}
use Rattle.program_report.specs.declared.stop.Stop.{Stop}
use Rattle.program_report.specs.declared.stop.Stop.TheVariants as stops
use Rattle.program_lines.specs.{declared.limits.InputLimits.InputLimits, declared.limits.TheConstants.MOST_LINE, declared.limits.TheConstants.ROOM}
use Rattle.program_lines.specs.Hearing.{Hearing, TextIsSaid, counted_line}
use Rattle.base_words.specs.Pieces.{pieces}

-- ---- lines

-- lines are heard, one after another, and their texts stand one after another
abbrev pub AreHeard : (S : Type 0) → Hearing S → S → List (List ℕ) → S → List ℕ → Type 0
AreHeard S h old [] new text = (new ≡ old) × (text ≡ [])
AreHeard S h old (line ∷ lines) new text =
    (mid : S) × ((first : List ℕ) × ((rest : List ℕ) × (h.is_heard old line mid first × (AreHeard S h mid lines new rest × (text ≡ first ++ rest)))))

-- the pieces of these bytes between line feeds are lines that are heard, and then these, of which the last has no line feed
pub record IsHeardFirst (S : Type 0) (h : Hearing S) (old : S) (bytes : List ℕ) (lines behind : List (List ℕ)) (new : S) (text : List ℕ) : Type 0 where
  pub parts : pieces 10 bytes ≡ lines ++ behind
  pub heard : AreHeard S h old lines new text

-- ---- where a line stops it

-- the first of these pieces, where it has a line feed
abbrev pub whole_line : List (List ℕ) → Option (List ℕ)
whole_line (line ∷ next ∷ more) = Some line
whole_line behind = None

-- the first of these pieces is no line: it is none to the hearer; or it has no line feed, and is as long as a line may be, or the
-- input has ended
abbrev pub IsNoLine : (S : Type 0) → Hearing S → S → List (List ℕ) → Type 0 → Type 0
IsNoLine S h old [] HasEnded = ⊥
IsNoLine S h old (rest ∷ []) HasEnded = (MOST_LINE ≤ length rest) ⊎ (HasEnded × (0 < length rest))
IsNoLine S h old (line ∷ next ∷ more) HasEnded = h.is_none old line

-- the first of these pieces is a whole line, at which the hearer stops for this reason after this text
abbrev pub HearerIsStopped : (S : Type 0) → Hearing S → S → List (List ℕ) → List ℕ → Stop → S → Change → Type 0
HearerIsStopped S h old behind text stop new out = (line : List ℕ) × ((whole_line behind ≡ Some line) × h.stops old line text stop new out)

-- why listening stops after the lines of this text, at the piece that stands first, which would be the line of that number: it is no
-- line; or memory was wanting before it was heard; or hearing it stops
abbrev pub ListeningHalts : (S : Type 0) → Hearing S → ℕ → S → List (List ℕ) → List ℕ → Stop → S → Type 0 → Change → Type 0
ListeningHalts S h number old behind text (stops.Line n) new HasEnded out = (n ≡ number) × (IsNoLine S h old behind HasEnded × ((new ≡ old) × TextIsSaid text out))
ListeningHalts S h number old behind text stops.Memory new HasEnded out = ((new ≡ old) × Receives text out) ⊎ HearerIsStopped S h old behind text stops.Memory new out
ListeningHalts S h number old behind text stops.Read new HasEnded out = ⊥
ListeningHalts S h number old behind text stop new HasEnded out = HearerIsStopped S h old behind text stop new out

-- ---- the input

-- the bytes that may be heard of these
abbrev pub part_to_hear : Option ℕ → List ℕ → List ℕ
part_to_hear None read = read
part_to_hear (Some most) read = take most read

-- these are no more than may be heard
abbrev pub IsReadWithin : Option ℕ → List ℕ → Type 0
IsReadWithin None read = Unit {0}
IsReadWithin (Some most) read = length read ≤ most

-- they are more
abbrev pub IsOver : Option ℕ → List ℕ → Type 0
IsOver None read = ⊥
IsOver (Some most) read = most < length read

-- the input has ended, and is as long as it may be at most
abbrev pub HasEnded : InputLimits → List ℕ → Change → Type 0
HasEnded limits read fed = IsAtEnd fed.new.input.remaining × IsReadWithin limits.bytes read

-- where its bytes are known, at least so many reads were made of the input between the two states, or the count is at its
-- greatest
abbrev pub MakesAtLeast : ℕ → Input → Input → Type 0
MakesAtLeast least before now = IfSome before.remaining (λ _. (before.reads_made + least ≤ now.reads_made) ⊎ (2 ^ 64 - 1 ≤ now.reads_made))

-- why the input is not read to its end: a read failed; or it is longer than it may be, or as many reads were made as there may be,
-- of a byte each at least
abbrev pub InputIsCutOff : InputLimits → List ℕ → Change → Type 0
InputIsCutOff limits read fed =
    (fed.new.failed_calls ≡ one_more fed.old.failed_calls)
    ⊎ ((fed.new.failed_calls ≡ fed.old.failed_calls)
    × (IsOver limits.bytes read ⊎ ((limits.reads ≤ length read) × MakesAtLeast limits.reads fed.old.input fed.new.input)))

-- of what was read before the last read, which handed out at most 4,096 bytes, the whole lines are among these that were heard,
-- and less than a line stands after them
pub record IsPrompt (most : Option ℕ) (read : List ℕ) (lines : List (List ℕ)) : Type 0 where
  pub before : List ℕ
  pub last : List ℕ
  pub parts : read ≡ before ++ last
  pub room : length last ≤ ROOM
  pub few : IsReadWithin most before
  pub first : List (List ℕ)
  pub later : List (List ℕ)
  pub heard : lines ≡ first ++ later
  pub rest : List ℕ
  pub whole : pieces 10 before ≡ first ++ (rest ∷ [])
  pub short : length rest < MOST_LINE

-- how listening ends after the lines of this text, before these pieces: the input has ended in a line feed, or with no line at
-- all; or it is cut off; or a line stops it
abbrev pub ListensTo : (S : Type 0) → Hearing S → InputLimits → List ℕ → ℕ → S → List (List ℕ) → List ℕ → Result (Unit {0}) Stop → S → Change → Change → Type 0
ListensTo S h limits read number old behind text (Ok u) new fed out =
    (behind ≡ [] ∷ []) × (HasEnded limits read fed × ((fed.new.failed_calls ≡ fed.old.failed_calls) × ((new ≡ old) × TextIsSaid text out)))
ListensTo S h limits read number old behind text (Err stops.Read) new fed out =
    (rest : List ℕ) × ((behind ≡ rest ∷ []) × ((length rest < MOST_LINE) × (InputIsCutOff limits read fed × ((new ≡ old) × TextIsSaid text out))))
ListensTo S h limits read number old behind text (Err stop) new fed out =
    (fed.new.failed_calls ≡ fed.old.failed_calls) × ListeningHalts S h number old behind text stop new (HasEnded limits read fed) out

-- listening to an input: what was read of it, by as many reads as there may be at most; the lines of what may be heard of that
-- which were heard, and what that came to; and how it ended after them
pub record Listens (S : Type 0) (h : Hearing S) (limits : InputLimits) (old : S) (result : Result (Unit {0}) Stop) (new : S) (fed : Change) (out : Change) : Type 0 where
  pub read : List ℕ
  pub consumed : Consumes fed.old.input.remaining fed.new.input.remaining read
  pub reads : MakesAtMost limits.reads fed.old.input fed.new.input
  pub lines : List (List ℕ)
  pub behind : List (List ℕ)
  pub mid : S
  pub text : List ℕ
  pub heard : IsHeardFirst S h old (part_to_hear limits.bytes read) lines behind mid text
  pub prompt : IsPrompt limits.bytes read lines
  pub ends : ListensTo S h limits read (counted_line (length lines + 1)) mid behind text result new fed out
