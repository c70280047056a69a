-- The first fault: what the fault of reading says of a text, in the words of the law.
use Rattle.std.proofs.Common.{◌≡◌, ◌≢◌, ℕ, suc, ◌+◌, ◌<◌, false, ◌==◌, List, [], ◌∷◌, ◌++◌, append_assoc, length, length-append, Ok, Err, refl, sym, ap, ◌∙◌, subst, arith, inl, inr}
use Rattle.std.proofs.lemmas.List.{append-nil}
use Rattle.std.proofs.lemmas.Bool.{and_from, cases_Bool, cases_lt, not_from_false}
use Rattle.std.proofs.lemmas.List.Splits.{join_with_byte-slice_split, slice_split-cons_no, slice_split-cons_yes}
use Rattle.std.specs.List.{onto_first}
use Rattle.plan_forest.specs.{declared.entry.Entry.Entry, Forest.Forest, Push.IsForest}
use Rattle.plan_certificate.specs.{declared.fault.CertFault.CertFault, CertificateText.certificate_text, Lines.lines, Reading.certificate_of}
use Rattle.plan_certificate.specs.declared.fault.CertFault.TheVariants.{BadHeader, BadLine, UnknownName, BadNumber, Truncated, Trailing, OutOfMemory}
use Rattle.plan_certificate.specs.FirstFault.{BeginsCertificate, HasFeed, IsFirstAtFault, SaysFault, whole_lines}
use Rattle.base_words.specs.{Laws.AllLack, Pieces.pieces}
use Rattle.base_words.proofs.Cutting.{has_piece}
use Rattle.plan_certificate.proofs.{FoundRuns.joined, ReadBackAll.written_is_read, Words.feed_back, LineFaults.not_err, FaultyRuns.no_line_is_none}
use Rattle.plan_certificate.proofs.ReadingLevels.{Faulty, Starts, StopsAt}
use Rattle.plan_certificate.proofs.FaultyLevels.{AllText, all_faulty, all_of, read_by_lines}

onto_first_lacks : (b x : ℕ) (ws : List (List ℕ)) → (x == b) ≡ false → AllLack b ws → AllLack b (onto_first x ws)
onto_first_lacks b x [] other h = (and_from _ _ (not_from_false _ other) refl, tt)
onto_first_lacks b x (w ∷ ws) other h = (and_from _ _ (not_from_false _ other) h.0, h.1)

pieces_lack : (b : ℕ) (text : List ℕ) → AllLack b (pieces b text)
unfolding pieces
pieces_lack b [] = (refl, tt)
pieces_lack b (x ∷ xs) =
    elim (cases_Bool (x == b)) [
      | inl t ↦ subst (AllLack b) (sym (slice_split-cons_yes (λ c. c == b) x xs t)) (refl, pieces_lack b xs)
      | inr f ↦ subst (AllLack b) (sym (slice_split-cons_no (λ c. c == b) x xs f)) (onto_first_lacks b x (pieces b xs) f (pieces_lack b xs))
    ]

front_lacks : (front : List (List ℕ)) (line : List ℕ) (behind : List (List ℕ)) → AllLack 10 (front ++ line ∷ behind) → AllLack 10 (front ++ line ∷ [])
front_lacks [] line behind h = (h.0, tt)
front_lacks (l ∷ front) line behind h = (h.0, front_lacks front line behind h.1)

-- whole lines are the first lines of a text that begins with them
lines_back : (ls : List (List ℕ)) (rest : List ℕ) → AllLack 10 ls → lines (whole_lines ls ++ rest) ≡ ls ++ lines rest
lines_back [] rest h = refl
lines_back (l ∷ ls) rest h =
    ap (pieces 10) (append_assoc l (10 ∷ whole_lines ls) rest) ∙ feed_back l (whole_lines ls ++ rest) h.0 ∙ ap (λ x. l ∷ x) (lines_back ls rest h.1)

whole_front : (front behind : List (List ℕ)) → behind ≢ [] → joined (front ++ behind) ≡ whole_lines front ++ joined behind
whole_front [] behind some = refl
whole_front (l ∷ []) [] some = absurd (some refl)
whole_front (l ∷ []) (b ∷ bs) some = sym (append_assoc l (10 ∷ []) (joined (b ∷ bs)))
whole_front (l ∷ x ∷ front) behind some =
    ap (λ t. l ++ 10 ∷ t) (whole_front (x ∷ front) behind some) ∙ sym (append_assoc l (10 ∷ whole_lines (x ∷ front)) (joined behind))

text_is : (text : List ℕ) (front behind : List (List ℕ)) → behind ≢ [] → lines text ≡ front ++ behind → text ≡ whole_lines front ++ joined behind
unfolding pieces
text_is text front behind some parts = sym (join_with_byte-slice_split 10 text) ∙ ap joined parts ∙ whole_front front behind some

joined_some : (ls : List (List ℕ)) → ls ≢ [] → ls ≢ [] ∷ [] → joined ls ≢ []
joined_some [] some bare = absurd (some refl)
joined_some ([] ∷ []) some bare = absurd (bare refl)
joined_some ((b ∷ bs) ∷ []) some bare = λ no. cc
joined_some ([] ∷ l ∷ ls) some bare = λ no. cc
joined_some ((b ∷ bs) ∷ l ∷ ls) some bare = λ no. cc

-- ---- what the fault says

some_behind : (behind : List (List ℕ)) (n all : ℕ) → behind ≢ [] → all ≡ n + suc (length behind) → n + 1 < all
some_behind [] n all some e = absurd (some refl)
some_behind (l ∷ ls) n all some e = omega (arith, e)

module _ (g : Forest) (f : IsForest g) (text : List ℕ) where
  module _ (e : CertFault) (front : List (List ℕ)) (s : StopsAt (all_of g.entries) (length front + 1) front (lines text) e) where
    fed_behind : HasFeed text (length front + 1) → s.behind ≢ []
    fed_behind more none =
        let count : length (lines text) ≡ length front + 1 = ap length s.parts ∙ length-append front (s.line ∷ s.behind) ∙ ap (λ x. length front + length (s.line ∷ x)) none in
        omega (arith, more, count)

    behind_fed : s.behind ≢ [] → HasFeed text (length front + 1)
    behind_fed some = some_behind s.behind (length front) (length (lines text)) some (ap length s.parts ∙ length-append front (s.line ∷ s.behind))

    -- with the line at fault no certificate's text begins
    none_begins : HasFeed text (length front + 1) → BeginsCertificate g.entries (whole_lines (front ++ s.line ∷ [])) → ⊥
    none_begins more b =
        let es = g.entries in
        let lack : AllLack 10 (front ++ s.line ∷ []) = front_lacks front s.line s.behind (subst (AllLack 10) s.parts (pieces_lack 10 text)) in
        let parts : lines (certificate_text es b.0) ≡ front ++ s.line ∷ lines b.2 =
        ap lines b.3 ∙ lines_back (front ++ s.line ∷ []) b.2 lack ∙ append_assoc front (s.line ∷ []) (lines b.2) in
        let bad : certificate_of es (certificate_text es b.0) ≡ Err e = read_by_lines es (certificate_text es b.0) ∙ ap (all_of es) parts ∙ s.local (fed_behind more) (lines b.2) (has_piece 10 b.2) in
        let good : certificate_of es (certificate_text es b.0) ≡ Ok b.0 = written_is_read g f (certificate_text es b.0) b.0 (record { certificate = b.1; spelled = refl }) in
        not_err b.0 e (sym good ∙ bad)

    begins_of : Starts (AllText g.entries) (whole_lines front) → BeginsCertificate g.entries (whole_lines front)
    begins_of h = (h.1.0, h.1.1, h.2, sym h.1.2 ∙ h.3)

    first_at_fault : Starts (AllText g.entries) (whole_lines front) → (n : ℕ) → length front + 1 ≡ n → IsFirstAtFault g.entries text n
    first_at_fault h n place =
        record {
          before = front;
          line = s.line;
          behind = s.behind;
          parts = s.parts;
          place = place;
          begins = begins_of h;
          stops = λ more. none_begins (subst (HasFeed text) (sym place) more);
        }

  says : (e : CertFault) → Faulty (all_of g.entries) 1 (AllText g.entries) (lines text) e → SaysFault g.entries text e
  says BadHeader h = first_at_fault BadHeader h.0 h.2 h.1 1 h.2.at
  says (BadLine n) h = first_at_fault (BadLine n) h.0 h.2 h.1 n (sym h.2.at)
  says (BadNumber n) h = (subst (HasFeed text) (sym h.2.at) (behind_fed (BadNumber n) h.0 h.2 h.2.feed), first_at_fault (BadNumber n) h.0 h.2 h.1 n (sym h.2.at))
  says (UnknownName n) h = (subst (HasFeed text) (sym h.2.at) (behind_fed (UnknownName n) h.0 h.2 h.2.feed), first_at_fault (UnknownName n) h.0 h.2 h.1 n (sym h.2.at))
  says Truncated h =
      let t = h.3 in
      let is : text ≡ whole_lines h.0 = text_is text h.0 ([] ∷ []) (no_line_is_none [] []) h.1 ∙ append-nil (whole_lines h.0) in
      (t.0, t.1, h.4, h.5, sym t.2 ∙ h.6 ∙ ap (λ x. x ++ h.4) (sym is))
  says Trailing h =
      let t = h.5 in
      (t.0, t.1, joined h.1, joined_some h.1 h.3 h.4, text_is text h.0 h.1 h.3 h.2 ∙ ap (λ x. x ++ joined h.1) t.2)
  says OutOfMemory h = absurd h.2.at

pub fault_says : (g : Forest) → IsForest g → (text : List ℕ) (e : CertFault) → certificate_of g.entries text ≡ Err e → SaysFault g.entries text e
fault_says g f text e h = says g f text e (all_faulty g.entries (lines text) e (has_piece 10 text) (sym (read_by_lines g.entries text) ∙ h))

-- ---- one line alone

-- the shorter of two fronts of a list, with what follows it, is a front of the longer
longer_front : (xs ys us vs : List (List ℕ)) (x u : List ℕ) → xs ++ x ∷ ys ≡ us ++ u ∷ vs → length xs < length us → (more : List (List ℕ)) × (us ≡ xs ++ x ∷ more)
longer_front [] ys [] vs x u e less = absurd (omega (arith, less))
longer_front [] ys (w ∷ us) vs x u e less = let same : w ≡ x = cc in (us, ap (λ a. a ∷ us) same)
longer_front (a ∷ xs) ys [] vs x u e less = absurd (omega (arith, less))
longer_front (a ∷ xs) ys (w ∷ us) vs x u e less =
    let rest : xs ++ x ∷ ys ≡ us ++ u ∷ vs = cc in
    let fewer : length xs < length us = omega (arith, less) in
    let later = longer_front xs ys us vs x u rest fewer in
    let same : w ≡ a = cc in
    (later.0, ap (λ b. b ∷ us) same ∙ ap (λ l. a ∷ l) later.1)

whole_append : (xs ys : List (List ℕ)) → whole_lines (xs ++ ys) ≡ whole_lines xs ++ whole_lines ys
whole_append [] ys = refl
whole_append (x ∷ xs) ys = ap (λ t. x ++ 10 ∷ t) (whole_append xs ys) ∙ sym (append_assoc x (10 ∷ whole_lines xs) (whole_lines ys))

module _ (es : List Entry) (text : List ℕ) where
  not_earlier : (n m : ℕ) → IsFirstAtFault es text n → IsFirstAtFault es text m → n < m → ⊥
  not_earlier n m first other less =
      let shorter : length first.before < length other.before = omega (arith, first.place, other.place, less) in
      let longer = longer_front first.before first.behind other.before other.behind first.line other.line (sym first.parts ∙ other.parts) shorter in
      let count : length (lines text) ≡ length other.before + suc (length other.behind) = ap length other.parts ∙ length-append other.before (other.line ∷ other.behind) in
      let fed : HasFeed text n = omega (arith, less, other.place, count) in
      let b = other.begins in
      let split : other.before ≡ (first.before ++ first.line ∷ []) ++ longer.0 = longer.1 ∙ sym (append_assoc first.before (first.line ∷ []) longer.0) in
      let is : whole_lines other.before ≡ whole_lines (first.before ++ first.line ∷ []) ++ whole_lines longer.0 = ap whole_lines split ∙ whole_append (first.before ++ first.line ∷ []) longer.0 in
      first.stops fed (b.0, b.1, whole_lines longer.0 ++ b.2, b.3 ∙ ap (λ t. t ++ b.2) is ∙ append_assoc (whole_lines (first.before ++ first.line ∷ [])) (whole_lines longer.0) b.2)

  pub one_first : (n m : ℕ) → IsFirstAtFault es text n → IsFirstAtFault es text m → n ≡ m
  one_first n m first other =
      elim (cases_lt n m) [
        | inl less ↦ absurd (not_earlier n m first other less)
        | inr no_less ↦ elim (cases_lt m n) [
          | inl more ↦ absurd (not_earlier m n other first more)
          | inr no_more ↦ omega (arith, no_less, no_more)
        ]
      ]
