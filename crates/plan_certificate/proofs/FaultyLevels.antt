-- The levels of reading around the lines of runs: the body, the line `start`, the header. Where each stops, the lines before
-- begin one of its texts. For the law of the first fault.
use Rattle.std.proofs.Common.{◌≡◌, ◌≢◌, ℕ, ◌+◌, ◌≤◌, true, false, List, [], ◌∷◌, ◌++◌, bytes_eq, codes, length, Result, Ok, Err, refl, sym, ap, ◌∙◌, subst, arith, inl, inr}
use Rattle.std.proofs.lemmas.Bool.{cases_Bool, cond-false, cond-true}
use Rattle.base_moment.specs.declared.moment.TheConstants.{LAST}
use Rattle.plan_forest.specs.declared.entry.Entry.{Entry}
use Rattle.plan_certificate.specs.{declared.cert.Body.Body, declared.cert.Body.TheVariants.Runs, declared.cert.Cert.Cert, declared.cert.Version.Version, declared.cert.Version.TheVariants.Two, declared.fault.CertFault.CertFault}
use Rattle.plan_certificate.specs.{FirstFault.whole_lines}
use Rattle.plan_certificate.specs.declared.fault.CertFault.TheVariants.{BadHeader, BadLine, UnknownName, BadNumber, Truncated, Trailing, OutOfMemory}
use Rattle.plan_certificate.specs.CertificateText.{IsCertificate, IsCertificateBody, body_text, certificate_text, header_text, start_text}
use Rattle.plan_certificate.specs.Lines.{cut_off, line_at, lines}
use Rattle.plan_certificate.specs.Reading.{body_of, certificate_of, header_of, nothing_behind, runs_of, start_of, unkeepable_of, version_of}
use Rattle.plan_certificate.specs.Answers.{◌>>=◌}
use Rattle.base_words.specs.Pieces.{keyword}
use Rattle.plan_certificate.proofs.Turns.{fault_on, value_on}
use Rattle.plan_certificate.proofs.FoundRuns.{few_at_last, none_are_few, start_found, unkeepable_found, version_found}
use Rattle.plan_certificate.proofs.LineFaults.{IsAt, err_same, header_fault, not_err, pair_fault, start_fault, step_err}
use Rattle.plan_certificate.proofs.ReadingLevels.{Faulty, HasText, Starts, StopsAt, cut_here, one_line_more, some_lines, stops_here, with_feed}
use Rattle.plan_certificate.proofs.FaultyRuns.{RunsText, no_line_is_none, no_runs_more, runs_faulty, trails}

-- ---- the body

abbrev BodyText : Version → List Entry → List ℕ → Type 0
BodyText v es text = (body : Body) × IsCertificateBody v es body × (text ≡ body_text v es body)

runs_are_body : (v : Version) (es : List Entry) (text : List ℕ) → RunsText v es [] text → BodyText v es text
unfolding body_text
runs_are_body v es text h = (Runs h.0, (h.1, (h.2, few_at_last v h.0 h.3 h.2)), h.4)

no_run : (v : Version) (es : List Entry) → HasText (RunsText v es [])
no_run v es = no_runs_more v es [] (omega arith) (none_are_few v)

no_body : (v : Version) (es : List Entry) → HasText (BodyText v es)
no_body v es = let none = no_run v es in record { text = none.text; is = runs_are_body v es none.text none.is; some = none.some }

module _ (v : Version) (es : List Entry) (line : List ℕ) where
  pair_read : (ls : List (List ℕ)) → ls ≢ [] → bytes_eq (keyword line) (codes "unkeepable") ≡ true
      → body_of v es (line ∷ ls) ≡ (unkeepable_of es line >>= λ body. nothing_behind ls >>= λ u. Ok body)
  unfolding body_of line_at
  pair_read [] some key = absurd (some refl)
  pair_read (next ∷ more) some key = cond-true _ _ _ key

  runs_read : (ls : List (List ℕ)) → ls ≢ [] → bytes_eq (keyword line) (codes "unkeepable") ≡ false
      → body_of v es (line ∷ ls) ≡ (runs_of v es [] (line ∷ ls) >>= λ rs. Ok (Runs rs))
  unfolding body_of line_at
  runs_read [] some key = absurd (some refl)
  runs_read (next ∷ more) some key = cond-false _ _ _ key

  module _ (other : bytes_eq (keyword line) (codes "unkeepable") ≡ false) where
    -- what follows begins with the same line
    body_local : (front : List (List ℕ)) (at : List ℕ) (behind more ls : List (List ℕ)) (e : CertFault) → line ∷ ls ≡ front ++ at ∷ behind → more ≢ []
        → runs_of v es [] (front ++ at ∷ more) ≡ Err e → body_of v es (front ++ at ∷ more) ≡ Err e
    body_local [] at behind more ls e parts some h =
        let same : at ≡ line = cc in
        let bad : runs_of v es [] (line ∷ more) ≡ Err e = ap (λ x. runs_of v es [] (x ∷ more)) (sym same) ∙ h in
        ap (λ x. body_of v es (x ∷ more)) same ∙ runs_read more some other ∙ fault_on (runs_of v es [] (line ∷ more)) _ e bad
    body_local (first ∷ front) at behind more ls e parts some h =
        let same : first ≡ line = cc in
        let rest = front ++ at ∷ more in
        let bad : runs_of v es [] (line ∷ rest) ≡ Err e = ap (λ x. runs_of v es [] (x ∷ rest)) (sym same) ∙ h in
        ap (λ x. body_of v es (x ∷ rest)) same ∙ runs_read rest (some_lines front at more) other ∙ fault_on (runs_of v es [] (line ∷ rest)) _ e bad

    stops_too : (front ls : List (List ℕ)) (e : CertFault) → Starts (RunsText v es []) (whole_lines front) → StopsAt (runs_of v es []) (length front + 3) front (line ∷ ls) e
        → (fronts : List (List ℕ)) × Starts (BodyText v es) (whole_lines fronts) × StopsAt (body_of v es) (length fronts + 3) fronts (line ∷ ls) e
    stops_too front ls e s stops = (
      front,
      (s.0, runs_are_body v es s.0 s.1, s.2, s.3),
      record {
        line = stops.line;
        behind = stops.behind;
        parts = stops.parts;
        at = stops.at;
        feed = stops.feed;
        local = λ some more h. body_local front stops.line stops.behind more ls e stops.parts h (stops.local some more h);
      },
    )

    runs_in_body : (ls : List (List ℕ)) (e : CertFault) → Faulty (runs_of v es []) 3 (RunsText v es []) (line ∷ ls) e → Faulty (body_of v es) 3 (BodyText v es) (line ∷ ls) e
    runs_in_body ls BadHeader h = stops_too h.0 ls BadHeader h.1 h.2
    runs_in_body ls (BadLine k) h = stops_too h.0 ls (BadLine k) h.1 h.2
    runs_in_body ls (BadNumber k) h = stops_too h.0 ls (BadNumber k) h.1 h.2
    runs_in_body ls (UnknownName k) h = stops_too h.0 ls (UnknownName k) h.1 h.2
    runs_in_body ls Truncated h = (h.0, h.1, h.2, runs_are_body v es h.2 h.3, h.4, h.5, h.6)
    runs_in_body ls Trailing h = (h.0, h.1, h.2, h.3, h.4, runs_are_body v es (whole_lines h.0) h.5)
    runs_in_body ls OutOfMemory h = stops_too h.0 ls OutOfMemory h.1 h.2

body_faulty : (v : Version) (es : List Entry) (ls : List (List ℕ)) (e : CertFault) → ls ≢ [] → body_of v es ls ≡ Err e → Faulty (body_of v es) 3 (BodyText v es) ls e
unfolding body_of line_at
body_faulty v es [] e some h = absurd (some refl)
body_faulty v es (last ∷ []) e some h = cut_here (body_of v es) 3 (BodyText v es) (no_body v es) last e (err_same {A = Body} (cut_off 3 last) e h)
body_faulty v es (line ∷ next ∷ more) e some h =
    let ls = next ∷ more in
    let fed = no_line_is_none more next in
    elim (cases_Bool (bytes_eq (keyword line) (codes "unkeepable"))) [
      | inl t ↦
          step_err (unkeepable_of es line) _ e (sym (pair_read v es line ls fed t) ∙ h)
          (λ bad. stops_here (body_of v es) 3 (BodyText v es) (no_body v es) line ls e (pair_fault es line e bad) (with_feed e ls fed)
          (λ some others o. pair_read v es line others o t ∙ fault_on (unkeepable_of es line) _ e bad))
          (λ body hb h1.
          step_err (nothing_behind ls) _ e h1
          (λ bad. let is = unkeepable_found v es line body t hb in trails (body_of v es) 3 (BodyText v es) line next more e (body, is.1, is.0) bad)
          (λ u hu h2. not_err body e h2))
      | inr f ↦
          step_err (runs_of v es [] (line ∷ ls)) _ e (sym (runs_read v es line ls fed f) ∙ h)
          (λ bad. runs_in_body v es line f ls e (runs_faulty v es [] (line ∷ ls) e (no_line_is_none ls line) (omega arith) (none_are_few v) bad))
          (λ rs hr h1. not_err (Runs rs) e h1)
    ]

-- ---- the line `start`

-- what the lines after the header say
pub rest_of : List Entry → Version → List (List ℕ) → Result Cert CertFault
rest_of es v ls = do
  second ← line_at 2 ls
  start ← start_of second.0
  body ← body_of v es second.1
  Ok (record { version = v; start = start; body = body })

abbrev RestText : Version → List Entry → List ℕ → Type 0
RestText v es text = (start : ℕ) × (start ≤ LAST) × (rest : List ℕ) × BodyText v es rest × (text ≡ start_text start ++ rest)

front_some : (front text : List ℕ) → text ≢ [] → front ++ text ≢ []
front_some [] text some = some
front_some (b ∷ bs) text some = λ no. cc

no_rest : (v : Version) (es : List Entry) → HasText (RestText v es)
no_rest v es =
    let none = no_body v es in
    record { text = start_text 0 ++ none.text; is = (0, omega arith, none.text, none.is, refl); some = front_some (start_text 0) none.text none.some }

rest_read : (es : List Entry) (v : Version) (line : List ℕ) (ls : List (List ℕ)) → ls ≢ []
    → rest_of es v (line ∷ ls) ≡ (start_of line >>= λ start. body_of v es ls >>= λ body. Ok (record { version = v; start = start; body = body }))
unfolding rest_of line_at
rest_read es v line [] some = absurd (some refl)
rest_read es v line (next ∷ more) some = refl

rest_faulty : (v : Version) (es : List Entry) (ls : List (List ℕ)) (e : CertFault) → ls ≢ [] → rest_of es v ls ≡ Err e → Faulty (rest_of es v) 2 (RestText v es) ls e
unfolding rest_of line_at
rest_faulty v es [] e some h = absurd (some refl)
rest_faulty v es (last ∷ []) e some h = cut_here (rest_of es v) 2 (RestText v es) (no_rest v es) last e (err_same {A = Cert} (cut_off 2 last) e h)
rest_faulty v es (line ∷ next ∷ more) e some h =
    let ls = next ∷ more in
    let fed = no_line_is_none more next in
    step_err (start_of line) _ e (sym (rest_read es v line ls fed) ∙ h)
    (λ bad. stops_here (rest_of es v) 2 (RestText v es) (no_rest v es) line ls e (start_fault line e bad) (with_feed e ls fed)
    (λ some others o. rest_read es v line others o ∙ fault_on (start_of line) _ e bad))
    (λ start hs h1.
    step_err (body_of v es ls) _ e h1
    (λ bad.
    let is = start_found line start hs in
    one_line_more (body_of v es) (rest_of es v) 2 (BodyText v es) (RestText v es) line (start_text start) is.0 (λ text b. (start, is.1, text, b, refl))
    (λ others fault o no. rest_read es v line others o ∙ value_on (start_of line) _ start hs ∙ fault_on (body_of v es others) _ fault no)
    ls e (body_faulty v es ls e fed bad))
    (λ body hb h2. not_err {A = Cert} _ e h2))

-- ---- all lines

-- what all the lines say
pub all_of : List Entry → List (List ℕ) → Result Cert CertFault
all_of es ls = header_of ls >>= λ head. rest_of es head.0 head.1

pub read_by_lines : (es : List Entry) (text : List ℕ) → certificate_of es text ≡ all_of es (lines text)
unfolding certificate_of all_of rest_of
read_by_lines es text = refl

abbrev pub AllText : List Entry → List ℕ → Type 0
AllText es text = (c : Cert) × IsCertificate es c × (text ≡ certificate_text es c)

header_goes_on : (v : Version) (es : List Entry) (text : List ℕ) → RestText v es text → AllText es (header_text v ++ text)
unfolding certificate_text
header_goes_on v es text h =
    let body = h.3 in
    (record { version = v; start = h.0; body = body.0 }, (h.1, body.1), ap (λ t. header_text v ++ t) (h.4 ∙ ap (λ t. start_text h.0 ++ t) body.2))

no_text : (es : List Entry) → HasText (AllText es)
no_text es =
    let none = no_rest Two es in
    record { text = header_text Two ++ none.text; is = header_goes_on Two es none.text none.is; some = front_some (header_text Two) none.text none.some }

all_read : (es : List Entry) (line : List ℕ) (ls : List (List ℕ)) → ls ≢ [] → header_of (line ∷ ls) ≡ (version_of line >>= λ v. Ok (v, ls))
unfolding header_of
all_read es line [] some = absurd (some refl)
all_read es line (next ∷ more) some = refl

read_behind : (es : List Entry) (v : Version) (line : List ℕ) (ls : List (List ℕ)) → ls ≢ [] → version_of line ≡ Ok v → all_of es (line ∷ ls) ≡ rest_of es v ls
unfolding all_of
read_behind es v line ls some h =
    value_on (header_of (line ∷ ls)) _ (v, ls) (all_read es line ls some ∙ value_on (version_of line) _ v h)

no_header_read : (es : List Entry) (line : List ℕ) (ls : List (List ℕ)) (e : CertFault) → ls ≢ [] → version_of line ≡ Err e → all_of es (line ∷ ls) ≡ Err e
unfolding all_of
no_header_read es line ls e some h = fault_on (header_of (line ∷ ls)) _ e (all_read es line ls some ∙ fault_on (version_of line) _ e h)

split_version : {P : Type 0} (r : Result Version CertFault) → ((v : Version) → r ≡ Ok v → P) → ((e : CertFault) → r ≡ Err e → P) → P
split_version (Ok v) good bad = good v refl
split_version (Err e) good bad = bad e refl

pub all_faulty : (es : List Entry) (ls : List (List ℕ)) (e : CertFault) → ls ≢ [] → all_of es ls ≡ Err e → Faulty (all_of es) 1 (AllText es) ls e
unfolding all_of header_of
all_faulty es [] e some h = absurd (some refl)
all_faulty es (last ∷ []) e some h =
    subst (Faulty (all_of es) 1 (AllText es) (last ∷ [])) (err_same {A = Cert} BadHeader e h)
    (stops_here (all_of es) 1 (AllText es) (no_text es) last [] BadHeader refl tt (λ some. absurd (some refl)))
all_faulty es (line ∷ next ∷ more) e some h =
    let ls = next ∷ more in
    let fed = no_line_is_none more next in
    split_version (version_of line)
    (λ v hv.
    one_line_more (rest_of es v) (all_of es) 1 (RestText v es) (AllText es) line (header_text v) (version_found line v hv) (header_goes_on v es)
    (λ others fault o no. read_behind es v line others o hv ∙ no)
    ls e (rest_faulty v es ls e fed (sym (read_behind es v line ls fed hv) ∙ h)))
    (λ d bad.
    let same : d ≡ e = err_same {A = Cert} d e (sym (no_header_read es line ls d fed bad) ∙ h) in
    let is : d ≡ BadHeader = header_fault line d bad in
    subst (Faulty (all_of es) 1 (AllText es) (line ∷ ls)) same
    (stops_here (all_of es) 1 (AllText es) (no_text es) line ls d (subst (IsAt 1) (sym is) refl) (with_feed d ls fed)
    (λ some others o. no_header_read es line others d o bad)))
