-- What is read is written: all lines of a certificate.
use Rattle.std.proofs.Common.{◌≡◌, ℕ, ◌+◌, ◌≤◌, true, ◌&&◌, List, [], ◌∷◌, ◌++◌, append_assoc, bytes_eq, codes, flat_map, length, length-append, nat_lt, Result, Ok, Err, refl, sym, ap, ◌∙◌, subst, arith, ltb-true, inl, inr, All, IfOk}
use Rattle.std.proofs.lemmas.{List.append-nil, List.Elements.All-cons, List.Elements.All-nil, List.Splits.join_with_byte-slice_split}
use Rattle.std.proofs.lemmas.Bool.{and_parts, cases_Bool, cond-false, cond-true}
use Rattle.std.specs.{Cmp.Lexicographic.bytes_decides, List.AllByRecursion, List.join_with_byte}
use Rattle.base_moment.specs.declared.moment.TheConstants.{LAST}
use Rattle.plan_forest.specs.declared.entry.Entry.{Entry}
use Rattle.plan_rule.specs.{declared.run.Run.Run, declared.limit.TheConstants.LIMIT, Runs.IsAmong, Runs.wake_count}
use Rattle.plan_certificate.specs.{declared.cert.Body.Body, declared.cert.Cert.Cert, declared.cert.Version.Version, declared.cert.TheConstants.MAX_LINES, declared.fault.CertFault.CertFault, declared.fault.CertFault.TheVariants.BadHeader}
use Rattle.plan_certificate.specs.{Answers.GivesOrCertFault}
use Rattle.plan_certificate.specs.declared.cert.Body.TheVariants.{Runs, Unkeepable}
use Rattle.plan_certificate.specs.declared.cert.Version.TheVariants.{One, Two}
use Rattle.plan_certificate.specs.CertificateText.{AreRunsOf, CanBeWritten, IsCertificateBody, IsRunOf, WritesCertificate, body_text, certificate_text, end_line_text, header_text, name_of_entry, run_text, start_text, unkeepable_text}
use Rattle.plan_certificate.specs.Lines.{line_at, lines, three_words, two_words}
use Rattle.plan_certificate.specs.Reading.{body_of, certificate_of, ending, entry_named, header_of, nothing_behind, run_in_line, run_keyword, runs_of, start_of, unkeepable_of, version_of}
use Rattle.base_words.specs.Pieces.{keyword, pieces, three, two}
use Rattle.plan_certificate.proofs.Turns.{counted_push, ok_same}
use Rattle.plan_certificate.proofs.Found.{entry_found, keyword_is, line_from_words, number_spelled, some_from_ok, step_ok, three_is, two_is}
use Rattle.plan_certificate.proofs.FoundLines.{RoomFor, end_found, if_ok, nothing_found, run_line_found}

-- the text whose lines these are
abbrev pub joined : List (List ℕ) → List ℕ
joined ls = join_with_byte 10 ls

-- the wake-ups that were found are few: in version 1 each line has one
abbrev pub AreFew : Version → List Run → Type 0
AreFew One rs = wake_count rs ≤ length rs
AreFew Two rs = wake_count rs ≤ LIMIT

pub few_more : (v : Version) (es : List Entry) (found : List Run) (r : Run) → AreFew v found → IsRunOf v es r → RoomFor v (wake_count found) r → AreFew v (found ++ r ∷ [])
few_more One es found r few run room = omega (arith, counted_push found r, length-append found (r ∷ []), few, run.form)
few_more Two es found r few run room = omega (arith, counted_push found r, room)

pub none_are_few : (v : Version) → AreFew v []
none_are_few One = omega arith
none_are_few Two = omega arith

pub few_at_last : (v : Version) (rs : List Run) → AreFew v rs → length rs ≤ MAX_LINES → wake_count rs ≤ LIMIT
few_at_last One rs few lines = omega (arith, few, lines)
few_at_last Two rs few lines = few

-- the lines write the runs that stand after those which were found before
record AreRunLines (v : Version) (es : List Entry) (found : List Run) (ls : List (List ℕ)) (rs : List Run) : Type 0 where
  new : List Run
  is : rs ≡ found ++ new
  text : joined ls ≡ flat_map (run_text v es) new ++ end_line_text (wake_count rs)
  each : AreRunsOf v es new
  few_lines : length rs ≤ MAX_LINES
  few : AreFew v rs

pub no_ok : {A P : Type 0} (d : CertFault) (x : A) → ◌≡◌ {A = Result A CertFault} (Err d) (Ok x) → P
no_ok d x e = absurd cc

-- one line in front of the others
pub front_line : (line : List ℕ) (rest text : List ℕ) (before : List ℕ) → line ++ 10 ∷ [] ≡ before → rest ≡ text → line ++ 10 ∷ rest ≡ before ++ text
front_line line rest text before e h = ap (λ t. line ++ 10 ∷ t) h ∙ sym (append_assoc line (10 ∷ []) text) ∙ ap (λ l. l ++ text) e

runs_found : (v : Version) (es : List Entry) (found : List Run) (ls : List (List ℕ)) (rs : List Run)
    → length found ≤ MAX_LINES → AreFew v found → runs_of v es found ls ≡ Ok rs → AreRunLines v es found ls rs
unfolding runs_of
runs_found v es found [] rs lines few e = no_ok _ rs e
runs_found v es found (last ∷ []) rs lines few e = no_ok _ rs e
runs_found v es found (line ∷ next ∷ more) rs lines few e =
    elim (cases_Bool (bytes_eq (keyword line) (run_keyword v) && nat_lt (length found) MAX_LINES)) [
      | inl t ↦
          let p = and_parts (bytes_eq (keyword line) (run_keyword v)) (nat_lt (length found) MAX_LINES) t in
          step_ok (run_in_line v (length found + 3) es (wake_count found) line) _ rs (sym (cond-true _ _ _ t) ∙ e) (λ r hr e1.
          let is_line = run_line_found v (length found + 3) es (wake_count found) line r p.0 hr in
          let room : length (found ++ r ∷ []) ≤ MAX_LINES = omega (arith, length-append found (r ∷ []), ltb-true _ _ p.1) in
          let later = runs_found v es (found ++ r ∷ []) (next ∷ more) rs room (few_more v es found r few is_line.run is_line.room) e1 in
          record {
            new = r ∷ later.new;
            is = later.is ∙ append_assoc found (r ∷ []) later.new;
            text = front_line line (joined (next ∷ more)) _ (run_text v es r) is_line.text later.text
                ∙ sym (append_assoc (run_text v es r) (flat_map (run_text v es) later.new) (end_line_text (wake_count rs)));
            each = (is_line.run, later.each);
            few_lines = later.few_lines;
            few = later.few;
          })
      | inr f ↦
          step_ok (ending (length found + 3) (wake_count found) line (next ∷ more)) _ rs (sym (cond-false _ _ _ f) ∙ e) (λ u hu e1.
          let h = end_found (length found + 3) (wake_count found) line (next ∷ more) u hu in
          let same : found ≡ rs = ok_same found rs e1 in
          record {
            new = [];
            is = sym same ∙ sym (append-nil found);
            text = ap (λ l. line ++ 10 ∷ joined l) h.1 ∙ h.0 ∙ ap (λ x. end_line_text (wake_count x)) same;
            each = tt;
            few_lines = subst (λ x. length x ≤ MAX_LINES) same lines;
            few = subst (AreFew v) same few;
          })
    ]

-- ---- the other lines

line_off : (n : ℕ) (ls : List (List ℕ)) (line : List ℕ) (rest : List (List ℕ)) → line_at n ls ≡ Ok (line, rest) → joined ls ≡ line ++ 10 ∷ joined rest
unfolding line_at
line_off n [] line rest e = no_ok {A = List ℕ × List (List ℕ)} _ (line, rest) e
line_off n (last ∷ []) line rest e = no_ok {A = List ℕ × List (List ℕ)} _ (line, rest) e
line_off n (l ∷ next ∷ more) line rest e = ap (λ p. p.0 ++ 10 ∷ joined p.1) (ok_same {A = List ℕ × List (List ℕ)} (l, next ∷ more) (line, rest) e)

pub unkeepable_found : (v : Version) (es : List Entry) (line : List ℕ) (body : Body) → bytes_eq (keyword line) (codes "unkeepable") ≡ true → unkeepable_of es line ≡ Ok body
    → (line ++ 10 ∷ [] ≡ body_text v es body) × IsCertificateBody v es body
unfolding unkeepable_of three_words body_text unkeepable_text
unkeepable_found v es line body key e =
    step_ok (three_words 3 line) _ body e (λ w hw e1.
    step_ok (entry_named 3 es w.1) _ body e1 (λ i hi e2.
    step_ok (entry_named 3 es w.2) _ body e2 (λ j hj e3.
    let words = three_is (pieces 32 line) w (some_from_ok (three (pieces 32 line)) _ w hw) in
    let front : w.0 ≡ codes "unkeepable" = keyword_is line (codes "unkeepable") w.0 _ words key in
    let entry = entry_found 3 es w.1 i hi in
    let needed = entry_found 3 es w.2 j hj in
    let same : pieces 32 line ≡ codes "unkeepable" ∷ name_of_entry es i ∷ name_of_entry es j ∷ [] = words
    ∙ ap (λ x. x ∷ w.1 ∷ w.2 ∷ []) front ∙ ap (λ x. codes "unkeepable" ∷ x ∷ w.2 ∷ []) entry.1 ∙ ap (λ x. codes "unkeepable" ∷ name_of_entry es i ∷ x ∷ []) needed.1 in
    subst (λ b. (line ++ 10 ∷ [] ≡ body_text v es b) × IsCertificateBody v es b) (ok_same (Unkeepable i j) body e3) (line_from_words line _ same, (entry.0, needed.0)))))

body_found : (v : Version) (es : List Entry) (ls : List (List ℕ)) (body : Body) → body_of v es ls ≡ Ok body → (joined ls ≡ body_text v es body) × IsCertificateBody v es body
unfolding body_of body_text
body_found v es ls body e =
    step_ok (line_at 3 ls) _ body e (λ head hh e1.
    elim (cases_Bool (bytes_eq (keyword head.0) (codes "unkeepable"))) [
      | inl t ↦
          step_ok (unkeepable_of es head.0) _ body (sym (cond-true _ _ _ t) ∙ e1) (λ b hb e2.
          step_ok (nothing_behind head.1) _ body e2 (λ u hu e3.
          let h = unkeepable_found v es head.0 b t hb in
          let whole : joined ls ≡ body_text v es b = line_off 3 ls head.0 head.1 hh ∙ ap (λ l. head.0 ++ 10 ∷ joined l) (nothing_found head.1 u hu) ∙ h.0 in
          subst (λ x. (joined ls ≡ body_text v es x) × IsCertificateBody v es x) (ok_same b body e3) (whole, h.1)))
      | inr f ↦
          step_ok (runs_of v es [] ls) _ body (sym (cond-false _ _ _ f) ∙ e1) (λ rs hr e2.
          let a = runs_found v es [] ls rs (omega arith) (none_are_few v) hr in
          let whole : joined ls ≡ body_text v es (Runs rs) = a.text ∙ ap (λ x. flat_map (run_text v es) x ++ end_line_text (wake_count rs)) (sym a.is) in
          let runs : IsCertificateBody v es (Runs rs) = (subst (AreRunsOf v es) (sym a.is) a.each, (a.few_lines, few_at_last v rs a.few a.few_lines)) in
          subst (λ x. (joined ls ≡ body_text v es x) × IsCertificateBody v es x) (ok_same (Runs rs) body e2) (whole, runs))
    ])

pub version_found : (line : List ℕ) (v : Version) → version_of line ≡ Ok v → line ++ 10 ∷ [] ≡ header_text v
unfolding version_of header_text
version_found line v e =
    elim (cases_Bool (bytes_eq line (codes "leasekeep-plan 1"))) [
      | inl t ↦
          let is : One ≡ v = ok_same One v (sym (cond-true _ _ _ t) ∙ e) in
          subst (λ x. line ++ 10 ∷ [] ≡ header_text x) is (ap (λ l. l ++ 10 ∷ []) ((bytes_decides line (codes "leasekeep-plan 1")).0 t))
      | inr f ↦
          let h = if_ok (bytes_eq line (codes "leasekeep-plan 2")) (Ok Two) BadHeader v (sym (cond-false _ _ _ f) ∙ e) in
          subst (λ x. line ++ 10 ∷ [] ≡ header_text x) (ok_same Two v h.1) (ap (λ l. l ++ 10 ∷ []) ((bytes_decides line (codes "leasekeep-plan 2")).0 h.0))
    ]

header_found : (ls : List (List ℕ)) (p : Version × List (List ℕ)) → header_of ls ≡ Ok p → joined ls ≡ header_text p.0 ++ joined p.1
unfolding header_of
header_found [] p e = no_ok _ p e
header_found (last ∷ []) p e = no_ok _ p e
header_found (line ∷ next ∷ more) p e =
    step_ok (version_of line) _ p e (λ v hv e1.
    subst (λ (q : Version × List (List ℕ)). line ++ 10 ∷ joined (next ∷ more) ≡ header_text q.0 ++ joined q.1) (ok_same {A = Version × List (List ℕ)} (v, next ∷ more) p e1)
    (front_line line (joined (next ∷ more)) (joined (next ∷ more)) (header_text v) (version_found line v hv) refl))

pub start_found : (line : List ℕ) (start : ℕ) → start_of line ≡ Ok start → (line ++ 10 ∷ [] ≡ start_text start) × (start ≤ LAST)
unfolding start_of two_words start_text
start_found line start e =
    let h = if_ok (bytes_eq (keyword line) (codes "start")) _ _ start e in
    step_ok (two_words 2 line) _ start h.1 (λ w hw e1.
    let words = two_is (pieces 32 line) w (some_from_ok (two (pieces 32 line)) _ w hw) in
    let front : w.0 ≡ codes "start" = keyword_is line (codes "start") w.0 _ words h.0 in
    let number = number_spelled 2 w.1 start e1 in
    (line_from_words line _ (words ∙ ap (λ x. x ∷ w.1 ∷ []) front ∙ ap (λ x. codes "start" ∷ x ∷ []) number.0), number.1))

-- ---- all of it

pub read_is_written : (es : List Entry) (text : List ℕ) (c : Cert) → certificate_of es text ≡ Ok c → WritesCertificate es text c
unfolding certificate_of certificate_text pieces
read_is_written es text c e =
    step_ok (header_of (lines text)) _ c e (λ head hh e1.
    step_ok (line_at 2 head.1) _ c e1 (λ second hs e2.
    step_ok (start_of second.0) _ c e2 (λ start ht e3.
    step_ok (body_of head.0 es second.1) _ c e3 (λ body hb e4.
    let first = start_found second.0 start ht in
    let rest = body_found head.0 es second.1 body hb in
    let from_start : joined head.1 ≡ start_text start ++ body_text head.0 es body =
    line_off 2 head.1 second.0 second.1 hs ∙ front_line second.0 (joined second.1) (body_text head.0 es body) (start_text start) first.0 rest.0 in
    subst (WritesCertificate es text) (ok_same {A = Cert} (record { version = head.0; start = start; body = body }) c e4)
    (record {
      certificate = (first.1, rest.1);
      spelled = sym (join_with_byte-slice_split 10 text) ∙ header_found (lines text) head hh ∙ ap (λ x. header_text head.0 ++ x) from_start;
    })))))

pub found_writes : (es : List Entry) (text : List ℕ) (r : Result Cert CertFault) → GivesOrCertFault (λ c. c) r (certificate_of es text) → IfOk r (λ c. WritesCertificate es text c)
found_writes es text (Ok c) h = read_is_written es text c h
found_writes es text (Err e) h = tt

pub among : (v : Version) (es : List Entry) (rs : List Run) → AreRunsOf v es rs → AllByRecursion (IsAmong (length es)) rs
among v es [] each = tt
among v es (r ∷ rs) each = (each.0.among, among v es rs each.1)

pub all_among : (n : ℕ) (rs : List Run) → AllByRecursion (IsAmong n) rs → All (IsAmong n) rs
all_among n [] each = All-nil (IsAmong n)
all_among n (r ∷ rs) each = All-cons (IsAmong n) r rs each.0 (all_among n rs each.1)

can_be_written : (v : Version) (es : List Entry) (body : Body) → IsCertificateBody v es body → CanBeWritten es body
can_be_written v es (Runs rs) h = (among v es rs h.0, h.1.1)
can_be_written v es (Unkeepable entry needed) h = h

-- what was read can be written
pub found_can_be_written : (es : List Entry) (text : List ℕ) (r : Result Cert CertFault) → GivesOrCertFault (λ c. c) r (certificate_of es text) → IfOk r (λ c. CanBeWritten es c.body)
found_can_be_written es text (Ok c) h = can_be_written c.version es c.body ((read_is_written es text c h).certificate.1)
found_can_be_written es text (Err e) h = tt
