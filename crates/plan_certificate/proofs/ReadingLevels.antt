-- A level of reading: the lines from the nth on, and the texts that they may write. With which of them it stops, whatever
-- follows; and what that says of the level around it, which has one line more in front. For the law of the first fault.
use Rattle.std.proofs.Common.{◌≡◌, ◌≢◌, ℕ, suc, ◌+◌, List, [], ◌∷◌, ◌++◌, append_assoc, length, Result, Err, refl, sym, ap, ◌∙◌, subst, arith}
use Rattle.plan_certificate.specs.{declared.fault.CertFault.CertFault, FirstFault.whole_lines, Lines.cut_off}
use Rattle.plan_certificate.specs.declared.fault.CertFault.TheVariants.{BadHeader, BadLine, UnknownName, BadNumber, Truncated, Trailing, OutOfMemory}
use Rattle.plan_certificate.proofs.{FoundRuns.front_line, LineFaults.IsAt}

-- a fault other than that of a missing line feed comes of a line that has its own
abbrev pub NeedsFeed : CertFault → List (List ℕ) → Type 0
NeedsFeed (BadNumber n) behind = behind ≢ []
NeedsFeed (UnknownName n) behind = behind ≢ []
NeedsFeed fault behind = Unit {0}

pub with_feed : (e : CertFault) (behind : List (List ℕ)) → behind ≢ [] → NeedsFeed e behind
with_feed (BadNumber n) behind some = some
with_feed (UnknownName n) behind some = some
with_feed _ behind some = tt

-- reading stops at the line after these, the nth, whatever follows it
pub record StopsAt {A : Type 0} (read : List (List ℕ) → Result A CertFault) (n : ℕ) (front ls : List (List ℕ)) (e : CertFault) : Type 0 where
  pub line : List ℕ
  pub behind : List (List ℕ)
  pub parts : ls ≡ front ++ line ∷ behind
  pub at : IsAt n e
  pub feed : NeedsFeed e behind
  pub local : behind ≢ [] → (more : List (List ℕ)) → more ≢ [] → read (front ++ line ∷ more) ≡ Err e

-- one of these texts begins with these bytes
abbrev pub Starts : (List ℕ → Type 0) → List ℕ → Type 0
Starts Text front = (text : List ℕ) × Text text × (rest : List ℕ) × (text ≡ front ++ rest)

-- what a fault says of the lines of a level whose first is the nth and whose texts are these
abbrev pub Faulty : {A : Type 0} → (List (List ℕ) → Result A CertFault) → ℕ → (List ℕ → Type 0) → List (List ℕ) → CertFault → Type 0
Faulty read n Text ls Truncated =
    (front : List (List ℕ)) × (ls ≡ front ++ [] ∷ []) × (text : List ℕ) × Text text × (rest : List ℕ) × (rest ≢ []) × (text ≡ whole_lines front ++ rest)
Faulty read n Text ls Trailing =
    (front : List (List ℕ)) × (behind : List (List ℕ)) × (ls ≡ front ++ behind) × (behind ≢ []) × (behind ≢ [] ∷ []) × Text (whole_lines front)
Faulty read n Text ls e = (front : List (List ℕ)) × Starts Text (whole_lines front) × StopsAt read (length front + n) front ls e

-- a level has a text
pub record HasText (Text : List ℕ → Type 0) : Type 0 where
  pub text : List ℕ
  pub is : Text text
  pub some : text ≢ []

module _ {A : Type 0} (read : List (List ℕ) → Result A CertFault) (n : ℕ) (Text : List ℕ → Type 0) (has : HasText Text) where
  here : (line : List ℕ) (behind : List (List ℕ)) (e : CertFault) → IsAt n e → NeedsFeed e behind
      → (behind ≢ [] → (more : List (List ℕ)) → more ≢ [] → read (line ∷ more) ≡ Err e) → (front : List (List ℕ)) × Starts Text (whole_lines front) × StopsAt read (length front + n) front (line ∷ behind) e
  here line behind e at feed local =
      let place : n ≡ 0 + n = omega arith in
      ([], (has.text, has.is, has.text, refl), record { line = line; behind = behind; parts = refl; at = subst (λ k. IsAt k e) place at; feed = feed; local = local })

  -- its first line is at fault
  pub stops_here : (line : List ℕ) (behind : List (List ℕ)) (e : CertFault) → IsAt n e → NeedsFeed e behind
      → (behind ≢ [] → (more : List (List ℕ)) → more ≢ [] → read (line ∷ more) ≡ Err e) → Faulty read n Text (line ∷ behind) e
  stops_here line behind BadHeader at feed local = here line behind BadHeader at feed local
  stops_here line behind (BadLine k) at feed local = here line behind (BadLine k) at feed local
  stops_here line behind (BadNumber k) at feed local = here line behind (BadNumber k) at feed local
  stops_here line behind (UnknownName k) at feed local = here line behind (UnknownName k) at feed local
  stops_here line behind _ at feed local = absurd at

  -- its first line has no line feed
  pub cut_here : (last : List ℕ) (e : CertFault) → cut_off n last ≡ e → Faulty read n Text (last ∷ []) e
  cut_here [] e h = subst (Faulty read n Text ([] ∷ [])) h ([], refl, has.text, has.is, has.text, has.some, refl)
  cut_here (b ∷ bs) e h = subst (Faulty read n Text ((b ∷ bs) ∷ [])) h (stops_here (b ∷ bs) [] (BadLine n) refl tt (λ some. absurd (some refl)))

pub some_lines : (front : List (List ℕ)) (line : List ℕ) (more : List (List ℕ)) → front ++ line ∷ more ≢ []
some_lines [] line more = λ no. cc
some_lines (l ∷ front) line more = λ no. cc

-- one line more, in front of a level
module _ {A B : Type 0} (read : List (List ℕ) → Result A CertFault) (outer : List (List ℕ) → Result B CertFault) (n : ℕ) (Text Outer : List ℕ → Type 0) (line word : List ℕ)
    (spelled : line ++ 10 ∷ [] ≡ word) (wrap : (text : List ℕ) → Text text → Outer (word ++ text))
    (onto : (ls : List (List ℕ)) (e : CertFault) → ls ≢ [] → read ls ≡ Err e → outer (line ∷ ls) ≡ Err e) where
  stops_more : (front ls : List (List ℕ)) (e : CertFault) → StopsAt read (length front + suc n) front ls e → StopsAt outer (length (line ∷ front) + n) (line ∷ front) (line ∷ ls) e
  stops_more front ls e s =
      let place : length front + suc n ≡ length (line ∷ front) + n = omega arith in
      record {
        line = s.line;
        behind = s.behind;
        parts = ap (λ x. line ∷ x) s.parts;
        at = subst (λ k. IsAt k e) place s.at;
        feed = s.feed;
        local = λ some more h. onto (front ++ s.line ∷ more) e (some_lines front s.line more) (s.local some more h);
      }

  goes_on : (front : List (List ℕ)) (text rest : List ℕ) → text ≡ whole_lines front ++ rest → word ++ text ≡ whole_lines (line ∷ front) ++ rest
  goes_on front text rest e =
      ap (λ t. word ++ t) e ∙ sym (append_assoc word (whole_lines front) rest) ∙ ap (λ t. t ++ rest) (sym (front_line line (whole_lines front) (whole_lines front) word spelled refl))

  more_front : (front ls : List (List ℕ)) (e : CertFault) → Starts Text (whole_lines front) → StopsAt read (length front + suc n) front ls e
      → (fronts : List (List ℕ)) × Starts Outer (whole_lines fronts) × StopsAt outer (length fronts + n) fronts (line ∷ ls) e
  more_front front ls e s stops = (line ∷ front, (word ++ s.0, wrap s.0 s.1, s.2, goes_on front s.0 s.2 s.3), stops_more front ls e stops)

  pub one_line_more : (ls : List (List ℕ)) (e : CertFault) → Faulty read (suc n) Text ls e → Faulty outer n Outer (line ∷ ls) e
  one_line_more ls BadHeader h = more_front h.0 ls BadHeader h.1 h.2
  one_line_more ls (BadLine k) h = more_front h.0 ls (BadLine k) h.1 h.2
  one_line_more ls (BadNumber k) h = more_front h.0 ls (BadNumber k) h.1 h.2
  one_line_more ls (UnknownName k) h = more_front h.0 ls (UnknownName k) h.1 h.2
  one_line_more ls Truncated h = (line ∷ h.0, ap (λ x. line ∷ x) h.1, word ++ h.2, wrap h.2 h.3, h.4, h.5, goes_on h.0 h.2 h.4 h.6)
  one_line_more ls Trailing h =
      (line ∷ h.0, h.1, ap (λ x. line ∷ x) h.2, h.3, h.4, subst Outer (sym (front_line line (whole_lines h.0) (whole_lines h.0) word spelled refl)) (wrap (whole_lines h.0) h.5))
  one_line_more ls OutOfMemory h = more_front h.0 ls OutOfMemory h.1 h.2
