-- The certificate of a text, or the first fault: what each of its lines says, in order.
-- Source: this project's own.
use Rattle.std.specs.Prelude.{ℕ, ◌+◌, ◌-◌, ◌*◌, Bool, true, false, ◌&&◌, ◌==◌, if◌then◌else◌, List, [], ◌∷◌, ◌++◌, Result, Ok, Err, bytes_eq, codes, length, nat_le, nat_lt}
use Rattle.std.specs.{Bool.beq, Option.ok_or}
use Rattle.base_moment.specs.declared.moment.TheConstants.{LAST}
use Rattle.plan_forest.specs.{declared.entry.Entry.Entry, Forest.index_named}
use Rattle.plan_rule.specs.{declared.run.Run.Run, declared.limit.TheConstants.LIMIT, Runs.wake_count}
use Rattle.plan_certificate.specs.{declared.cert.Body.Body, declared.cert.Cert.Cert, declared.cert.Version.Version, declared.cert.TheConstants.MAX_LINES, declared.fault.CertFault.CertFault}
use Rattle.plan_certificate.specs.declared.cert.Body.TheVariants.{Runs, Unkeepable}
use Rattle.plan_certificate.specs.declared.cert.Version.TheVariants.{One, Two}
use Rattle.plan_certificate.specs.declared.fault.CertFault.TheVariants.{BadHeader, BadLine, UnknownName, BadNumber, Truncated, Trailing}
use Rattle.plan_certificate.specs.Lines.{cut_off, four_words, line_at, lines, number_at, six_words, three_words, two_words}
use Rattle.plan_certificate.specs.Answers.{◌>>=◌}
use Rattle.base_words.specs.Pieces.{keyword}

-- the entry that a word of the nth line names
unfoldable pub entry_named : ℕ → List Entry → List ℕ → Result ℕ CertFault
entry_named n es word = ok_or (index_named es word) (UnknownName n)

-- the first line
unfoldable pub version_of : List ℕ → Result Version CertFault
version_of line =
    if bytes_eq line (codes "leasekeep-plan 1") then Ok One
    else (if bytes_eq line (codes "leasekeep-plan 2") then Ok Two else Err BadHeader)

unfoldable pub header_of : List (List ℕ) → Result (Version × List (List ℕ)) CertFault
header_of (line ∷ next ∷ more) = version_of line >>= λ version. Ok (version, next ∷ more)
header_of ls = Err BadHeader

-- the second line, `start N`
unfoldable pub start_of : List ℕ → Result ℕ CertFault
start_of line =
    if bytes_eq (keyword line) (codes "start") then (two_words 2 line >>= λ w. number_at 2 w.1) else Err (BadLine 2)

-- the start that a text states, whatever follows it
unfoldable pub text_start : List ℕ → Result ℕ CertFault
text_start text = do
  head ← header_of (lines text)
  second ← line_at 2 head.1
  start_of second.0

-- the line `wake N ENTRY NEEDED`: one wake-up
unfoldable pub wake_of : ℕ → List Entry → List ℕ → Result Run CertFault
wake_of n es line = do
  w ← four_words n line
  at_moment ← number_at n w.1
  entry ← entry_named n es w.2
  needed ← entry_named n es w.3
  Ok (record { first = at_moment; step = 0; count = 1; entry = entry; needed = needed })

-- numbers that a run can have after so many wake-ups: with these they are at most LIMIT, it has a wake-up, a step only
-- where it has more than one, and its last moment is at most LAST
unfoldable pub is_run : ℕ → ℕ → ℕ → ℕ → Bool
is_run before at_first step count =
    nat_le (before + count) LIMIT && (nat_lt 0 count && (beq (step == 0) (count == 1) && nat_le (at_first + (count - 1) * step) LAST))

-- the numbers of the nth line are right
abbrev pub right : ℕ → Bool → Result (Unit {0}) CertFault
right n true = Ok tt
right n false = Err (BadNumber n)

-- the line `run FIRST STEP COUNT ENTRY NEEDED`, after so many wake-ups
unfoldable pub run_of : ℕ → List Entry → ℕ → List ℕ → Result Run CertFault
run_of n es before line = do
  w ← six_words n line
  at_first ← number_at n w.1
  step ← number_at n w.2
  count ← number_at n w.3
  fits ← right n (is_run before at_first step count)
  entry ← entry_named n es w.4
  needed ← entry_named n es w.5
  Ok (record { first = at_first; step = step; count = count; entry = entry; needed = needed })

-- the word with which the lines of wake-ups begin, and what such a line says
unfoldable pub run_keyword : Version → List ℕ
run_keyword One = codes "wake"
run_keyword Two = codes "run"

unfoldable pub run_in_line : Version → ℕ → List Entry → ℕ → List ℕ → Result Run CertFault
run_in_line One n es before line = wake_of n es line
run_in_line Two n es before line = run_of n es before line

-- nothing stands after the last line
unfoldable pub nothing_behind : List (List ℕ) → Result (Unit {0}) CertFault
nothing_behind ([] ∷ []) = Ok tt
nothing_behind ls = Err Trailing

-- the nth line, `end COUNT`, with this count
unfoldable pub end_of_runs : ℕ → ℕ → List ℕ → Result (Unit {0}) CertFault
end_of_runs n count line =
    if bytes_eq (keyword line) (codes "end")
    then (two_words n line >>= λ w. number_at n w.1 >>= λ said. right n (said == count))
    else Err (BadLine n)

-- the nth line is the last one, with this count
unfoldable pub ending : ℕ → ℕ → List ℕ → List (List ℕ) → Result (Unit {0}) CertFault
ending n count line rest = end_of_runs n count line >>= λ u. nothing_behind rest

-- the runs of the lines after `start`, of which so many were found in the lines before these
unfoldable pub runs_of : Version → List Entry → List Run → List (List ℕ) → Result (List Run) CertFault
runs_of v es found [] = Err Truncated
runs_of v es found (rest ∷ []) = Err (cut_off (length found + 3) rest)
runs_of v es found (line ∷ next ∷ more) =
    if bytes_eq (keyword line) (run_keyword v) && nat_lt (length found) MAX_LINES
    then (run_in_line v (length found + 3) es (wake_count found) line >>= λ run. runs_of v es (found ++ run ∷ []) (next ∷ more))
    else (ending (length found + 3) (wake_count found) line (next ∷ more) >>= λ u. Ok found)

-- the line `unkeepable ENTRY NEEDED`
unfoldable pub unkeepable_of : List Entry → List ℕ → Result Body CertFault
unkeepable_of es line = do
  w ← three_words 3 line
  entry ← entry_named 3 es w.1
  needed ← entry_named 3 es w.2
  Ok (Unkeepable entry needed)

-- what the lines after `start` say
unfoldable pub body_of : Version → List Entry → List (List ℕ) → Result Body CertFault
body_of v es ls = do
  head ← line_at 3 ls
  (if bytes_eq (keyword head.0) (codes "unkeepable") then (unkeepable_of es head.0 >>= λ body. nothing_behind head.1 >>= λ u. Ok body) else (runs_of v es [] ls >>= λ rs. Ok (Runs rs)))

-- the certificate that a text writes over these entries, or its first fault
unfoldable pub certificate_of : List Entry → List ℕ → Result Cert CertFault
certificate_of es text = do
  head ← header_of (lines text)
  second ← line_at 2 head.1
  start ← start_of second.0
  body ← body_of head.0 es second.1
  Ok (record { version = head.0; start = start; body = body })
