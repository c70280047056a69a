-- LineByLine: lines after lines, and a stop after lines.
use Rattle.std.proofs.Common.{◌≡◌, ℕ, ◌+◌, ◌-◌, ◌<◌, ◌≤◌, min, inl, inr, IsTrue, List, [], ◌∷◌, ◌++◌, Result, Ok, Err, drop, length, length-append, refl, sym, ap, ◌∙◌, subst, arith}
use Rattle.std.proofs.{KnownBytes.Appends-nil, KnownBytes.Appends-trans, Math.Seq.drop-append_seam}
use Rattle.std.proofs.lemmas.List.{append-nil, append_assoc, drop-drop}
use Rattle.std.specs.{Io.KnownBytes.Appends, Result.IsErr, Result.IsErrAnd}
use Rattle.base_device.specs.Seen.{Change, Seen}
use Rattle.program_report.specs.{declared.stop.Stop.Stop, Sent.IsAll, Sent.IsUntouched}
use Rattle.program_report.specs.declared.stop.Stop.TheVariants as stops
use Rattle.program_lines.specs.{code.LineByLine.HaltsWithin, code.LineByLine.HearsUpTo, declared.limits.InputLimits.InputLimits, declared.limits.TheConstants.MOST_LINE}
use Rattle.program_lines.specs.Hearing.{Hearing, HearsLine, IsSaidWhole, StopsAfter, TextIsSaid, counted_line, joined_changes}
use Rattle.program_lines.specs.Listening.{AreHeard, HasEnded, HearerIsStopped, IsNoLine, ListeningHalts, ListensTo}
use Rattle.program_lines.proofs.Cut.{cut_back, first_piece}
use Rattle.base_words.specs.Pieces.{pieces}

-- ---- what was sent, and then more

pub untouched_appends : (out : Change) → IsUntouched out → Appends out.old.output.written out.new.output.written []
untouched_appends out none = subst (λ (s : Seen). Appends out.old.output.written s.output.written []) (sym none) (Appends-nil out.old.output.written)

pub said_appends : (t : List ℕ) (a : Change) → TextIsSaid t a → Appends a.old.output.written a.new.output.written t
said_appends t a (inl all) = all.0
said_appends t a (inr none) = subst (Appends a.old.output.written a.new.output.written) (sym none.0) (untouched_appends a none.1)

module _ (a b : Change) (same : a.new ≡ b.old) where
  pub appends_then : (t u : List ℕ) → Appends a.old.output.written a.new.output.written t → Appends b.old.output.written b.new.output.written u → Appends a.old.output.written b.new.output.written (t ++ u)
  appends_then t u first second = Appends-trans a.old.output.written a.new.output.written b.new.output.written t u first (subst (λ (o : Seen). Appends o.output.written b.new.output.written u) (sym same) second)

  all_then : (t u : List ℕ) → TextIsSaid t a → IsAll u b → TextIsSaid (t ++ u) (joined_changes a b)
  all_then t u first second = inl (appends_then t u (said_appends t a first) second.0, second.1)

  pub said_then : (t u : List ℕ) → TextIsSaid t a → TextIsSaid u b → TextIsSaid (t ++ u) (joined_changes a b)
  said_then t u first (inl all) = all_then t u first all
  said_then t u (inl all) (inr none) =
      inl (
        appends_then t u all.0 (subst (Appends b.old.output.written b.new.output.written) (sym none.0) (untouched_appends b none.1)),
        subst (λ (s : Seen). IsTrue s.output.is_flushed) (same ∙ sym none.1) all.1,
      )
  said_then t u (inr nothing) (inr none) = inr (ap (λ x. x ++ u) nothing.0 ∙ none.0, none.1 ∙ sym same ∙ nothing.1)

  pub sent_then : (t u : List ℕ) → IsSaidWhole t a → IsSaidWhole u b → IsSaidWhole (t ++ u) (joined_changes a b)
  sent_then t u first second = (said_then t u first.0 second.0, second.1 ∙ sym (ap (λ (s : Seen). s.failed_calls) same) ∙ first.1)

-- ---- a stop that is handed on

pub handed_on : {X : Type 0} (answer : Result X Stop) (stop : Stop) (P : Result X Stop → Type 0) → IsErr answer × IsErrAnd answer (λ (q : Stop). q ≡ stop) → P (Err stop) → P answer
handed_on (Ok x) stop P is h = absurd (let none = is.0 in cc)
handed_on (Err q) stop P is h = subst (λ (r : Stop). P (Err r)) (sym is.1) h

-- ---- bytes

-- what stands after the first line of what stands after others
pub behind_line :
    (bytes rest line behind : List ℕ) → pieces 10 rest ≡ line ∷ pieces 10 behind → drop (length bytes - length rest) bytes ≡ rest → length rest ≤ length bytes →
    (drop (length bytes - length behind) bytes ≡ behind) × (length behind < length rest)
behind_line bytes rest line behind e before within =
    let whole : rest ≡ (line ++ 10 ∷ []) ++ behind = cut_back 10 rest line behind e ∙ sym (append_assoc line (10 ∷ []) behind) in
    let front : length (line ++ 10 ∷ []) ≡ length line + 1 = length-append line (10 ∷ []) in
    let both' : length ((line ++ 10 ∷ []) ++ behind) ≡ length (line ++ 10 ∷ []) + length behind = length-append (line ++ 10 ∷ []) behind in
    let longer : length rest ≡ length (line ++ 10 ∷ []) + length behind = ap length whole ∙ both' in
    let place : length bytes - length behind ≡ (length bytes - length rest) + length (line ++ 10 ∷ []) = omega (arith, longer, within) in (
      ap (λ n. drop n bytes) place
          ∙ sym (drop-drop (length (line ++ 10 ∷ [])) (length bytes - length rest) bytes)
          ∙ ap (drop (length (line ++ 10 ∷ []))) (before ∙ whole)
          ∙ drop-append_seam (line ++ 10 ∷ []) behind,
      omega (arith, longer, front),
    )

module _ (S : Type 0) (h : Hearing S) where
  -- ---- whether the input has ended

  no_line_where : (old : S) (behind : List (List ℕ)) (P Q : Type 0) → (P → Q) → IsNoLine S h old behind P → IsNoLine S h old behind Q
  no_line_where old [] P Q f none = none
  no_line_where old (rest ∷ []) P Q f none = elim none [ inl long ↦ inl long | inr short ↦ inr (f short.0, short.1) ]
  no_line_where old (line ∷ next ∷ more) P Q f none = none

  pub halts_where :
      (number : ℕ) (old : S) (behind : List (List ℕ)) (text : List ℕ) (stop : Stop) (new : S) (P Q : Type 0) (out : Change) → (P → Q) → ListeningHalts S h number old behind text stop new P out →
      ListeningHalts S h number old behind text stop new Q out
  halts_where number old behind text (stops.Line n) new P Q out f halts = (halts.0, (no_line_where old behind P Q f halts.1.0, halts.1.1))
  halts_where number old behind text _ new P Q out f halts = halts

  -- ---- one line that stops

  pub line_halts :
      (number : ℕ) (old : S) (line : List ℕ) (next : List ℕ) (more : List (List ℕ)) (stop : Stop) (new : S) (out : Change) → HearsLine S h number old line (Err stop) new out →
      ListeningHalts S h number old (line ∷ next ∷ more) [] stop new ⊥ out
  line_halts number old line next more stops.Read new out one = absurd one
  line_halts number old line next more (stops.Line n) new out one = (one.0, (one.1.0, (one.1.1.0, inr (refl, one.1.1.1))))
  line_halts number old line next more stops.Memory new out one = inr (line, (refl, one))
  line_halts number old line next more _ new out one = (line, (refl, one))

  -- ---- lines

  pub heard_then : (old mid new : S) (lines more : List (List ℕ)) (t u : List ℕ) → AreHeard S h old lines mid t → AreHeard S h mid more new u → AreHeard S h old (lines ++ more) new (t ++ u)
  heard_then old mid new [] more t u first second =
      subst (λ (s : S). AreHeard S h s more new (t ++ u)) first.0 (subst (λ x. AreHeard S h mid more new (x ++ u)) (sym first.1) second)
  heard_then old mid new (line ∷ lines) more t u first second =
      let rest = heard_then first.0 mid new lines more first.1.1.0 u first.1.1.1.1.0 second in
      (first.0, (first.1.0, (first.1.1.0 ++ u, (first.1.1.1.0, (rest, ap (λ x. x ++ u) first.1.1.1.1.1 ∙ append_assoc first.1.0 first.1.1.0 u)))))

  heard_one : (old new : S) (line text : List ℕ) → h.is_heard old line new text → AreHeard S h old (line ∷ []) new text
  heard_one old new line text one = (new, (text, ([], (one, ((refl, refl), sym (append-nil text))))))

  -- ---- lines of these bytes

  -- none
  pub up_to_first : (first : ℕ) (old : S) (bytes : List ℕ) (out : Change) → first ≤ 18446744073709551615 → IsSaidWhole [] out → HearsUpTo S h first old bytes (pieces 10 bytes) old first out
  up_to_first first old bytes out few sent = record { lines = []; text = []; heard = record { parts = refl; heard = (refl, refl) }; count = omega (arith, few); sent = sent }

  -- one more
  up_to_line :
      (first : ℕ) (old : S) (bytes line : List ℕ) (behind : List (List ℕ)) (mid : S) (last : ℕ) (a b : Change) (new : S) (text : List ℕ) → a.new ≡ b.old →
      HearsUpTo S h first old bytes (line ∷ behind) mid last a → h.is_heard mid line new text → IsSaidWhole text b → HearsUpTo S h first old bytes behind new (counted_line (last + 1)) (joined_changes a b)
  up_to_line first old bytes line behind mid last a b new text same before one sent =
      let count : last ≡ min (first + length before.lines) 18446744073709551615 = before.count in
      let longer : length (before.lines ++ (line ∷ [])) ≡ length before.lines + 1 = length-append before.lines (line ∷ []) in
      record {
        lines = before.lines ++ (line ∷ []);
        text = before.text ++ text;
        heard = record {
          parts = before.heard.parts ∙ sym (append_assoc before.lines (line ∷ []) behind);
          heard = heard_then old mid new before.lines (line ∷ []) before.text text before.heard.heard (heard_one mid new line text one);
        };
        count = omega (arith, count, longer);
        sent = sent_then a b same before.text text before.sent sent;
      }

  -- those of what stands after
  abbrev pub up_to_then :
      (first : ℕ) (old : S) (bytes rest : List ℕ) (behind : List (List ℕ)) (mid : S) (middle : ℕ) (a b : Change) (new : S) (last : ℕ) → a.new ≡ b.old →
      HearsUpTo S h first old bytes (pieces 10 rest) mid middle a → HearsUpTo S h middle mid rest behind new last b → HearsUpTo S h first old bytes behind new last (joined_changes a b)
  up_to_then first old bytes rest behind mid middle a b new last same one other =
      let before : middle ≡ min (first + length one.lines) 18446744073709551615 = one.count in
      let then' : last ≡ min (middle + length other.lines) 18446744073709551615 = other.count in
      let longer : length (one.lines ++ other.lines) ≡ length one.lines + length other.lines = length-append one.lines other.lines in
      record {
        lines = one.lines ++ other.lines;
        text = one.text ++ other.text;
        heard = record {
          parts = one.heard.parts ∙ ap (λ l. one.lines ++ l) other.heard.parts ∙ sym (append_assoc one.lines other.lines behind);
          heard = heard_then old mid new one.lines other.lines one.text other.text one.heard.heard other.heard.heard;
        };
        count = omega (arith, before, then', longer);
        sent = sent_then a b same one.text other.text one.sent other.sent;
      }

  -- by the names that the loop over lines has
  pub heard_on :
      (first : ℕ) (old : S) (bytes rest line behind : List ℕ) (mid : S) (last : ℕ) (a b : Change) (new : S) → a.new ≡ b.old →
      HearsUpTo S h first old bytes (pieces 10 rest) mid last a → pieces 10 rest ≡ line ∷ pieces 10 behind → HearsLine S h (counted_line (last + 1)) mid line (Ok tt) new b →
      HearsUpTo S h first old bytes (pieces 10 behind) new (counted_line (last + 1)) (joined_changes a b)
  heard_on first old bytes rest line behind mid last a b new same before e one =
      up_to_line first old bytes line (pieces 10 behind) mid last a b new one.0 same (subst (λ ps. HearsUpTo S h first old bytes ps mid last a) e before) one.1.0 (inl one.1.1.0, one.1.1.1)

  module _ (after : StopsAfter S h) where
    stopped_then :
        (a b : Change) → a.new ≡ b.old → (old : S) (behind : List (List ℕ)) (t u : List ℕ) (stop : Stop) (new : S) → IsSaidWhole t a → HearerIsStopped S h old behind u stop new b →
        HearerIsStopped S h old behind (t ++ u) stop new (joined_changes a b)
    stopped_then a b same old behind t u stop new first second = (second.0, (second.1.0, after a b old second.0 t u stop new same first second.1.1))

    -- a stop after a text that was sent before
    pub halts_then :
        (a b : Change) → a.new ≡ b.old → (number : ℕ) (old : S) (behind : List (List ℕ)) (t u : List ℕ) (stop : Stop) (new : S) (P : Type 0) → IsSaidWhole t a → ListeningHalts S h number old behind u stop new P b →
        ListeningHalts S h number old behind (t ++ u) stop new P (joined_changes a b)
    halts_then a b same number old behind t u (stops.Inventory fault) new P first halts = stopped_then a b same old behind t u (stops.Inventory fault) new first halts
    halts_then a b same number old behind t u (stops.Moments fault) new P first halts = stopped_then a b same old behind t u (stops.Moments fault) new first halts
    halts_then a b same number old behind t u (stops.FaultWord n) new P first halts = stopped_then a b same old behind t u (stops.FaultWord n) new first halts
    halts_then a b same number old behind t u stops.TooLong new P first halts = stopped_then a b same old behind t u stops.TooLong new first halts
    halts_then a b same number old behind t u stops.Read new P first halts = absurd halts
    halts_then a b same number old behind t u stops.Write new P first halts = stopped_then a b same old behind t u stops.Write new first halts
    halts_then a b same number old behind t u (stops.Broker name) new P first halts = stopped_then a b same old behind t u (stops.Broker name) new first halts
    halts_then a b same number old behind t u (stops.Line n) new P first halts = (halts.0, (halts.1.0, (halts.1.1.0, said_then a b same t u first.0 halts.1.1.1)))
    halts_then a b same number old behind t u stops.Memory new P first halts =
        elim halts [
          | inl none ↦ inl (none.0, appends_then a b same t u (said_appends t a first.0) none.1)
          | inr some ↦ inr (stopped_then a b same old behind t u stops.Memory new first some)
        ]

    -- a stop at the next line
    halts_at :
        (first : ℕ) (old : S) (bytes : List ℕ) (behind : List (List ℕ)) (mid : S) (last : ℕ) (a b : Change) (stop : Stop) (new : S) → a.new ≡ b.old →
        HearsUpTo S h first old bytes behind mid last a → ListeningHalts S h (counted_line (last + 1)) mid behind [] stop new ⊥ b → HaltsWithin S h first old bytes stop new (joined_changes a b)
    halts_at first old bytes behind mid last a b stop new same before halts =
        let count : last ≡ min (first + length before.lines) 18446744073709551615 = before.count in
        let number : counted_line (last + 1) ≡ counted_line (first + length before.lines + 1) = omega (arith, count) in
        record {
          lines = before.lines;
          behind = behind;
          mid = mid;
          text = before.text;
          heard = before.heard;
          halts =
              subst (λ n. ListeningHalts S h n mid behind before.text stop new ⊥ (joined_changes a b)) number
              (subst (λ t. ListeningHalts S h (counted_line (last + 1)) mid behind t stop new ⊥ (joined_changes a b)) (append-nil before.text)
              (halts_then a b same (counted_line (last + 1)) mid behind before.text [] stop new ⊥ before.sent halts));
        }

    -- a stop within what stands after
    abbrev pub halts_behind :
        (first : ℕ) (old : S) (bytes rest : List ℕ) (mid : S) (middle : ℕ) (a b : Change) (stop : Stop) (new : S) → a.new ≡ b.old →
        HearsUpTo S h first old bytes (pieces 10 rest) mid middle a → HaltsWithin S h middle mid rest stop new b → HaltsWithin S h first old bytes stop new (joined_changes a b)
    halts_behind first old bytes rest mid middle a b stop new same one other =
        let count : middle ≡ min (first + length one.lines) 18446744073709551615 = one.count in
        let longer : length (one.lines ++ other.lines) ≡ length one.lines + length other.lines = length-append one.lines other.lines in
        let number : counted_line (middle + length other.lines + 1) ≡ counted_line (first + length (one.lines ++ other.lines) + 1) = omega (arith, count, longer) in
        record {
          lines = one.lines ++ other.lines;
          behind = other.behind;
          mid = other.mid;
          text = one.text ++ other.text;
          heard = record {
            parts = one.heard.parts ∙ ap (λ l. one.lines ++ l) other.heard.parts ∙ sym (append_assoc one.lines other.lines other.behind);
            heard = heard_then old mid other.mid one.lines other.lines one.text other.text one.heard.heard other.heard.heard;
          };
          halts =
              subst (λ n. ListeningHalts S h n other.mid other.behind (one.text ++ other.text) stop new ⊥ (joined_changes a b)) number
              (halts_then a b same (counted_line (middle + length other.lines + 1)) other.mid other.behind one.text other.text stop new ⊥ one.sent other.halts);
        }

    pub stopped_on :
        (first : ℕ) (old : S) (bytes rest line behind : List ℕ) (mid : S) (last : ℕ) (a b : Change) (stop : Stop) (new : S) → a.new ≡ b.old →
        HearsUpTo S h first old bytes (pieces 10 rest) mid last a → pieces 10 rest ≡ line ∷ pieces 10 behind → HearsLine S h (counted_line (last + 1)) mid line (Err stop) new b →
        HaltsWithin S h first old bytes stop new (joined_changes a b)
    stopped_on first old bytes rest line behind mid last a b stop new same before e one =
        let f = first_piece 10 behind in
        let all : pieces 10 rest ≡ line ∷ f.0 ∷ f.1.0 = e ∙ ap (λ ps. line ∷ ps) f.1.1 in
        halts_at first old bytes (line ∷ f.0 ∷ f.1.0) mid last a b stop new same (subst (λ ps. HearsUpTo S h first old bytes ps mid last a) all before)
        (line_halts (counted_line (last + 1)) mid line f.0 f.1.0 stop new b one)

    -- listening that ends after a text that was sent before
    pub listens_then :
        (a b : Change) → a.new ≡ b.old → (limits : InputLimits) (read : List ℕ) (number : ℕ) (old : S) (behind : List (List ℕ)) (t u : List ℕ) (result : Result (Unit {0}) Stop) (new : S) (fed : Change) → IsSaidWhole t a →
        ListensTo S h limits read number old behind u result new fed b → ListensTo S h limits read number old behind (t ++ u) result new fed (joined_changes a b)
    listens_then a b same limits read number old behind t u (Ok v) new fed first ends = (ends.0, (ends.1.0, (ends.1.1.0, (ends.1.1.1.0, said_then a b same t u first.0 ends.1.1.1.1))))
    listens_then a b same limits read number old behind t u (Err stops.Read) new fed first ends = (ends.0, (ends.1.0, (ends.1.1.0, (ends.1.1.1.0, (ends.1.1.1.1.0, said_then a b same t u first.0 ends.1.1.1.1.1)))))
    listens_then a b same limits read number old behind t u (Err (stops.Inventory fault)) new fed first ends = (ends.0, halts_then a b same number old behind t u (stops.Inventory fault) new (HasEnded limits read fed) first ends.1)
    listens_then a b same limits read number old behind t u (Err (stops.Moments fault)) new fed first ends = (ends.0, halts_then a b same number old behind t u (stops.Moments fault) new (HasEnded limits read fed) first ends.1)
    listens_then a b same limits read number old behind t u (Err (stops.FaultWord n)) new fed first ends = (ends.0, halts_then a b same number old behind t u (stops.FaultWord n) new (HasEnded limits read fed) first ends.1)
    listens_then a b same limits read number old behind t u (Err stops.TooLong) new fed first ends = (ends.0, halts_then a b same number old behind t u stops.TooLong new (HasEnded limits read fed) first ends.1)
    listens_then a b same limits read number old behind t u (Err stops.Write) new fed first ends = (ends.0, halts_then a b same number old behind t u stops.Write new (HasEnded limits read fed) first ends.1)
    listens_then a b same limits read number old behind t u (Err (stops.Broker name)) new fed first ends = (ends.0, halts_then a b same number old behind t u (stops.Broker name) new (HasEnded limits read fed) first ends.1)
    listens_then a b same limits read number old behind t u (Err (stops.Line n)) new fed first ends = (ends.0, halts_then a b same number old behind t u (stops.Line n) new (HasEnded limits read fed) first ends.1)
    listens_then a b same limits read number old behind t u (Err stops.Memory) new fed first ends = (ends.0, halts_then a b same number old behind t u stops.Memory new (HasEnded limits read fed) first ends.1)
