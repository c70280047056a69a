-- LineByLine: words for the parts of listening. No public clause cites them.
-- Source: this project's own.
use Rattle.std.specs.Prelude.{◌≡◌, ℕ, ◌+◌, ◌-◌, ◌<◌, ◌≤◌, List, [], ◌∷◌, Option, None, Some, length, min}
use Rattle.std.specs.Io.KnownBytes.{Consumes}
use Rattle.base_device.specs.{Seen.Change, Whole.MakesAtMost}
use Rattle.program_report.specs.declared.stop.Stop.{Stop}
use Rattle.program_lines.specs.{declared.limits.InputLimits.InputLimits, declared.limits.TheConstants.MOST_LINE}
use Rattle.program_lines.specs.Hearing.{Hearing, IsSaidWhole, counted_line}
use Rattle.program_lines.specs.Listening.{IsHeardFirst, ListeningHalts, MakesAtLeast}

-- as many of so many bytes as may be heard where so many are left
abbrev pub part_left_to_hear : Option ℕ → ℕ → ℕ
part_left_to_hear None n = n
part_left_to_hear (Some left) n = min n left

-- how many are left after so many more
abbrev pub left_after : Option ℕ → ℕ → Option ℕ
left_after None taken = None
left_after (Some left) taken = Some (left - taken)

-- so many are left of what may be heard, after so many
abbrev pub SoManyAreLeft : Option ℕ → Option ℕ → ℕ → Type 0
SoManyAreLeft None None read = Unit {0}
SoManyAreLeft (Some most) (Some left) read = left + read ≡ most
SoManyAreLeft None (Some left) read = ⊥
SoManyAreLeft (Some most) None read = ⊥

-- after so many lines, those of these bytes are heard up to these pieces, and their text is written and flushed
pub record HearsUpTo (S : Type 0) (h : Hearing S) (first : ℕ) (old : S) (bytes : List ℕ) (behind : List (List ℕ)) (new : S) (last : ℕ) (out : Change) : Type 0 where
  pub lines : List (List ℕ)
  pub text : List ℕ
  pub heard : IsHeardFirst S h old bytes lines behind new text
  pub count : last ≡ counted_line (first + length lines)
  pub sent : IsSaidWhole text out

-- after so many lines, one of these bytes stops listening
pub record HaltsWithin (S : Type 0) (h : Hearing S) (first : ℕ) (old : S) (bytes : List ℕ) (stop : Stop) (new : S) (out : Change) : Type 0 where
  pub lines : List (List ℕ)
  pub behind : List (List ℕ)
  pub mid : S
  pub text : List ℕ
  pub heard : IsHeardFirst S h old bytes lines behind mid text
  pub halts : ListeningHalts S h (counted_line (first + length lines + 1)) mid behind text stop new ⊥ out

-- listening under way: by so many reads, of a byte each at least, all of what was read may be heard, of which these bytes are after
-- the last line, and so many more may be read
pub record IsListening (S : Type 0) (h : Hearing S) (limits : InputLimits) (old : S) (reads : ℕ) (pending : List ℕ) (left : Option ℕ) (now : S) (last : ℕ) (fed : Change) (out : Change) : Type 0 where
  pub read : List ℕ
  pub consumed : Consumes fed.old.input.remaining fed.new.input.remaining read
  pub most : MakesAtMost reads fed.old.input fed.new.input
  pub least : MakesAtLeast reads fed.old.input fed.new.input
  pub many : reads ≤ length read
  pub failed : fed.new.failed_calls ≡ fed.old.failed_calls
  pub up_to : HearsUpTo S h 0 old read (pending ∷ []) now last out
  pub short : length pending < MOST_LINE
  pub within : SoManyAreLeft limits.bytes left (length read)
