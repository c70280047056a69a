-- Certificate text: how a certificate over a forest is written, in both versions, and which certificates there are.
-- Source: this project's own.
use Rattle.std.specs.Prelude.{◌≡◌, ℕ, ◌<◌, ◌≤◌, List, [], ◌∷◌, ◌++◌, codes, decimal, flat_map, length}
use Rattle.std.specs.List.{AllByRecursion, join_with_byte}
use Rattle.base_moment.specs.declared.moment.TheConstants.{LAST}
use Rattle.plan_forest.specs.{declared.entry.Entry.Entry, Forest.entry_at}
use Rattle.plan_rule.specs.{declared.run.Run.Run, declared.limit.TheConstants.LIMIT}
use Rattle.plan_rule.specs.Runs.{IsAmong, IsRun, wake_count}
use Rattle.plan_certificate.specs.{declared.cert.Body.Body, declared.cert.Cert.Cert, declared.cert.Version.Version, declared.cert.TheConstants.MAX_LINES}
use Rattle.plan_certificate.specs.declared.cert.Body.TheVariants.{Runs, Unkeepable}
use Rattle.plan_certificate.specs.declared.cert.Version.TheVariants.{One, Two}

-- ---- the text

-- a line: its words, parted by one space, and a line feed
unfoldable pub line_text : List (List ℕ) → List ℕ
line_text words = join_with_byte 32 words ++ 10 ∷ []

-- the name of the entry at an index
unfoldable pub name_of_entry : List Entry → ℕ → List ℕ
name_of_entry es i = (entry_at es i).name

unfoldable pub header_text : Version → List ℕ
header_text One = codes "leasekeep-plan 1\n"
header_text Two = codes "leasekeep-plan 2\n"

unfoldable pub start_text : ℕ → List ℕ
start_text start = line_text (codes "start" ∷ decimal start ∷ [])

-- version 1 has a line for a wake-up, version 2 for a run
unfoldable pub run_text : Version → List Entry → Run → List ℕ
run_text One es r = line_text (codes "wake" ∷ decimal r.first ∷ name_of_entry es r.entry ∷ name_of_entry es r.needed ∷ [])
run_text Two es r = line_text (codes "run" ∷ decimal r.first ∷ decimal r.step ∷ decimal r.count ∷ name_of_entry es r.entry ∷ name_of_entry es r.needed ∷ [])

unfoldable pub end_line_text : ℕ → List ℕ
end_line_text count = line_text (codes "end" ∷ decimal count ∷ [])

unfoldable pub unkeepable_text : List Entry → ℕ → ℕ → List ℕ
unkeepable_text es entry needed = line_text (codes "unkeepable" ∷ name_of_entry es entry ∷ name_of_entry es needed ∷ [])

unfoldable pub body_text : Version → List Entry → Body → List ℕ
body_text v es (Runs rs) = flat_map (run_text v es) rs ++ end_line_text (wake_count rs)
body_text v es (Unkeepable entry needed) = unkeepable_text es entry needed

-- the one text of a certificate
unfoldable pub certificate_text : List Entry → Cert → List ℕ
certificate_text es c = header_text c.version ++ (start_text c.start ++ body_text c.version es c.body)

-- ---- what it says

-- version 1 knows runs of one wake-up alone
abbrev pub HasForm : Version → Run → Type 0
HasForm One r = r.count ≡ 1
HasForm Two r = Unit {0}

-- a run of these entries, in the form of the version
pub record IsRunOf (v : Version) (es : List Entry) (r : Run) : Type 0 where
  pub among : IsAmong (length es) r
  pub run : IsRun r
  pub form : HasForm v r

abbrev pub AreRunsOf : Version → List Entry → List Run → Type 0
AreRunsOf v es rs = AllByRecursion (IsRunOf v es) rs

-- runs that a certificate can have, or a pair of entries
abbrev pub IsCertificateBody : Version → List Entry → Body → Type 0
IsCertificateBody v es (Runs rs) = AreRunsOf v es rs × ((length rs ≤ MAX_LINES) × (wake_count rs ≤ LIMIT))
IsCertificateBody v es (Unkeepable entry needed) = (entry < length es) × (needed < length es)

abbrev pub IsCertificate : List Entry → Cert → Type 0
IsCertificate es c = (c.start ≤ LAST) × IsCertificateBody c.version es c.body

-- the text writes this certificate over these entries
pub record WritesCertificate (es : List Entry) (text : List ℕ) (c : Cert) : Type 0 where
  pub certificate : IsCertificate es c
  pub spelled : text ≡ certificate_text es c

-- a body of runs that are each so, and of LIMIT wake-ups in all at most, or of a pair of these entries
abbrev pub IsMadeOf : (Run → Type 0) → List Entry → Body → Type 0
IsMadeOf P es (Runs rs) = AllByRecursion P rs × (wake_count rs ≤ LIMIT)
IsMadeOf P es (Unkeepable entry needed) = (entry < length es) × (needed < length es)

-- a body whose indices are those of these entries
abbrev pub CanBeWritten : List Entry → Body → Type 0
CanBeWritten es body = IsMadeOf (IsAmong (length es)) es body
