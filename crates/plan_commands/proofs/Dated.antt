-- Dated: the lines of `plan --dates`, and that they are told by the forest.
use Rattle.std.proofs.Common.{◌≡◌, ◌∙◌, ℕ, ◌+◌, ◌<◌, ◌≤◌, ◌++◌, true, List, [], ◌∷◌, Ok, Err, codes, decimal, get_or, length, take, refl, sym, ap, subst}
use Rattle.std.proofs.lemmas.List.{append_assoc, append-nil, take_all, take_more}
use Rattle.base_moment.specs.declared.text.Text.{Text}
use Rattle.plan_forest.specs.{declared.entry.Entry.Entry, Forest.Forest}
use Rattle.plan_rule.specs.{declared.run.Run.Run, Runs.wake_count}
use Rattle.plan_search.specs.{declared.decision.Decision.Decision, Decides.Decides}
use Rattle.plan_search.specs.declared.decision.Decision.TheVariants as decision
use Rattle.plan_certificate.specs.CertificateText.{end_line_text, line_text, name_of_entry, unkeepable_text}
use Rattle.program_report.specs.declared.exit.Exit.TheVariants as exits
use Rattle.program_report.specs.declared.stop.Stop.{Stop}
use Rattle.program_report.specs.declared.stop.Stop.TheVariants as stops
use Rattle.plan_commands.specs.{PlanRun.PlanHalts, ReachText.IsMomentWord}
use Rattle.plan_commands.specs.code.Making.{DatesOf, MakesOf, decided_exit}
use Rattle.plan_commands.specs.PlanDates.{AreRunLines, AreRunsInDates, IsInDates, IsNoneInDates, IsPairInDates, IsPlanInDates, IsRunLine, OnePlanInDates, PlanDatesTexts, run_line, start_line}
use Rattle.plan_commands.proofs.Reaching.{one_moment}
use Rattle.plan_commands.proofs.OneText.{best_or_none, one_best, one_shortfall}

-- ---- what is written

pub run_is : (es : List Entry) (r : Run) (date line : List ℕ) → IsMomentWord true r.first date → line ≡ run_line es r date → IsRunLine es r line
run_is es r date line word spelled = (date, word, spelled)

pub runs_are : (es : List Entry) (s : ℕ) (rs : List Run) (count : ℕ) (date lines text : List ℕ) → IsMomentWord true s date → AreRunLines es rs lines → count ≡ wake_count rs →
    text ≡ start_line date ++ (lines ++ end_line_text count) → AreRunsInDates es s rs text
runs_are es s rs count date lines text word are is spelled =
    record { start = date; is_start = word; lines = lines; are_lines = are; spelled = spelled ∙ ap (λ n. start_line date ++ (lines ++ end_line_text n)) is }

pub pair_is : (es : List Entry) (s entry needed : ℕ) (date text : List ℕ) → IsMomentWord true s date → text ≡ start_line date ++ unkeepable_text es entry needed → IsPairInDates es s entry needed text
pair_is es s entry needed date text word spelled = record { start = date; is_start = word; spelled = spelled }

-- ---- the words of a run

-- what is appended in turn is the line of these words
pub run_spelled :
    (es : List Entry) (r : Run) (date a b c d e f line : List ℕ) → a ≡ [] ++ codes "run " → b ≡ a ++ date → c ≡ b ++ 32 ∷ [] → d ≡ c ++ (decimal r.step ++ 32 ∷ []) → e ≡ d ++ (decimal r.count ++ 32 ∷ []) →
    f ≡ e ++ (name_of_entry es r.entry ++ (32 ∷ (name_of_entry es r.needed ++ 10 ∷ []))) → line ≡ f → line ≡ run_line es r date
unfolding run_line line_text
run_spelled es r date a b c d e f line one two three four five six is =
    let s = decimal r.step in
    let n = decimal r.count in
    let x = name_of_entry es r.entry in
    let y = name_of_entry es r.needed in
    let z : List ℕ = x ++ (32 ∷ (y ++ 10 ∷ [])) in
    let q : List ℕ = x ++ (32 ∷ y) in
    let end : q ++ (10 ∷ []) ≡ z = append_assoc x (32 ∷ y) (10 ∷ []) in
    let counted' : (n ++ (32 ∷ q)) ++ (10 ∷ []) ≡ (n ++ 32 ∷ []) ++ z = append_assoc n (32 ∷ q) (10 ∷ []) ∙ ap (λ t. n ++ (32 ∷ t)) end ∙ sym (append_assoc n (32 ∷ []) z) in
    let stepped : (s ++ (32 ∷ (n ++ (32 ∷ q)))) ++ (10 ∷ []) ≡ (s ++ 32 ∷ []) ++ ((n ++ 32 ∷ []) ++ z) =
    append_assoc s (32 ∷ (n ++ (32 ∷ q))) (10 ∷ []) ∙ ap (λ t. s ++ (32 ∷ t)) counted' ∙ sym (append_assoc s (32 ∷ []) ((n ++ 32 ∷ []) ++ z)) in
    let dated : (date ++ (32 ∷ (s ++ (32 ∷ (n ++ (32 ∷ q)))))) ++ (10 ∷ []) ≡ (date ++ 32 ∷ []) ++ ((s ++ 32 ∷ []) ++ ((n ++ 32 ∷ []) ++ z)) =
    append_assoc date (32 ∷ (s ++ (32 ∷ (n ++ (32 ∷ q))))) (10 ∷ []) ∙ ap (λ t. date ++ (32 ∷ t)) stepped ∙ sym (append_assoc date (32 ∷ []) ((s ++ 32 ∷ []) ++ ((n ++ 32 ∷ []) ++ z))) in
    let front : c ≡ codes "run " ++ (date ++ 32 ∷ []) = three ∙ ap (λ t. t ++ 32 ∷ []) (two ∙ ap (λ t. t ++ date) one) ∙ append_assoc (codes "run ") date (32 ∷ []) in
    is ∙ six
    ∙ ap (λ t. t ++ z) (five ∙ ap (λ t. t ++ (n ++ 32 ∷ [])) (four ∙ ap (λ t. t ++ (s ++ 32 ∷ [])) front))
    ∙ append_assoc ((codes "run " ++ (date ++ 32 ∷ [])) ++ (s ++ 32 ∷ [])) (n ++ 32 ∷ []) z
    ∙ append_assoc (codes "run " ++ (date ++ 32 ∷ [])) (s ++ 32 ∷ []) ((n ++ 32 ∷ []) ++ z)
    ∙ append_assoc (codes "run ") (date ++ 32 ∷ []) ((s ++ 32 ∷ []) ++ ((n ++ 32 ∷ []) ++ z))
    ∙ ap (λ t. codes "run " ++ t) (sym dated)

-- ---- one line more

lines_then : (es : List Entry) (rs : List Run) (r : Run) (text line : List ℕ) → AreRunLines es rs text → IsRunLine es r line → AreRunLines es (rs ++ r ∷ []) (text ++ line)
lines_then es [] r text line are is = (line, [], is, refl, ap (λ t. t ++ line) are ∙ sym (append-nil line))
lines_then es (q ∷ rs) r text line are is =
    (are.0, are.1 ++ line, are.2, lines_then es rs r are.1 line are.3 is, ap (λ t. t ++ line) are.4 ∙ append_assoc are.0 are.1 line)

pub lines_more : (es : List Entry) (rs : List Run) (i : ℕ) (r other : Run) (text line next : List ℕ) → i < length rs → r ≡ get_or rs i other → AreRunLines es (take i rs) text → IsRunLine es r line →
    next ≡ text ++ line → AreRunLines es (take (i + 1) rs) next
lines_more es rs i r other text line next within is are here spelled =
    let more : take i rs ++ r ∷ [] ≡ take (i + 1) rs = ap (λ (x : Run). take i rs ++ x ∷ []) is ∙ sym (take_more rs i other within) in
    subst (λ t. AreRunLines es (take (i + 1) rs) t) (sym spelled) (subst (λ (xs : List Run). AreRunLines es xs (text ++ line)) more (lines_then es (take i rs) r text line are here))

pub lines_all : (es : List Entry) (rs : List Run) (i : ℕ) (text : List ℕ) → length rs ≤ i → AreRunLines es (take i rs) text → AreRunLines es rs text
lines_all es rs i text past are = subst (λ (xs : List Run). AreRunLines es xs text) (take_all i rs past) are

-- ---- a forest's decision

pub dated_text : (g : Forest) (s : ℕ) (d : Decision) (text : Text) → Decides g s d → DatesOf g.entries s (Ok text) d → IsInDates g s (decided_exit d) text
dated_text g s (decision.Keep p) text decides dated = record { runs = p.runs; best = decides.best; dated = dated }
dated_text g s (decision.Unkeepable entry needed) text decides dated = record { entry = entry; needed = needed; short = decides.0; none = decides.1; dated = dated }
dated_text g s decision.TooLong text decides dated = absurd dated

pub dated_stop : (g : Forest) (s : ℕ) (d : Decision) (stop : Stop) → Decides g s d → DatesOf g.entries s (Err stop) d → MakesOf (PlanDatesTexts s) (PlanHalts s) g (Err stop)
dated_stop g s d stops.Memory decides dated = tt
dated_stop g s d stops.TooLong decides dated = (refl, subst (Decides g s) dated decides)
dated_stop g s d _ decides dated = absurd dated

-- ---- one text

one_line : (es : List Entry) (r : Run) (line other : List ℕ) → IsRunLine es r line → IsRunLine es r other → line ≡ other
one_line es r line other a b = a.2 ∙ ap (run_line es r) (one_moment true r.first a.0 b.0 a.1 b.1) ∙ sym b.2

one_lines : (es : List Entry) (rs : List Run) (text other : List ℕ) → AreRunLines es rs text → AreRunLines es rs other → text ≡ other
one_lines es [] text other a b = a ∙ sym b
one_lines es (r ∷ rs) text other a b =
    a.4 ∙ ap (λ line. line ++ a.1) (one_line es r a.0 b.0 a.2 b.2) ∙ ap (λ rest. b.0 ++ rest) (one_lines es rs a.1 b.1 a.3 b.3) ∙ sym b.4

one_of_runs : (es : List Entry) (s : ℕ) (rs : List Run) (text other : List ℕ) → AreRunsInDates es s rs text → AreRunsInDates es s rs other → text ≡ other
one_of_runs es s rs text other a b =
    a.spelled ∙ ap (λ date. start_line date ++ (a.lines ++ end_line_text (wake_count rs))) (one_moment true s a.start b.start a.is_start b.is_start)
    ∙ ap (λ lines. start_line b.start ++ (lines ++ end_line_text (wake_count rs))) (one_lines es rs a.lines b.lines a.are_lines b.are_lines) ∙ sym b.spelled

one_of_pair : (es : List Entry) (s entry needed : ℕ) (text other : List ℕ) → IsPairInDates es s entry needed text → IsPairInDates es s entry needed other → text ≡ other
one_of_pair es s entry needed text other a b =
    a.spelled ∙ ap (λ date. start_line date ++ unkeepable_text es entry needed) (one_moment true s a.start b.start a.is_start b.is_start) ∙ sym b.spelled

one_plan : (g : Forest) (s : ℕ) (text other : List ℕ) → IsPlanInDates g s text → IsPlanInDates g s other → text ≡ other
one_plan g s text other a b =
    one_of_runs g.entries s b.runs text other (subst (λ (rs : List Run). AreRunsInDates g.entries s rs text) (one_best g s a.runs b.runs a.best b.best) a.dated) b.dated

one_none : (g : Forest) (s : ℕ) (text other : List ℕ) → IsNoneInDates g s text → IsNoneInDates g s other → text ≡ other
one_none g s text other a b =
    let same = one_shortfall g s a.entry a.needed b.entry b.needed a.short b.short in
    one_of_pair g.entries s b.entry b.needed text other
    (subst (λ n. IsPairInDates g.entries s b.entry n text) same.1 (subst (λ i. IsPairInDates g.entries s i a.needed text) same.0 a.dated)) b.dated

plan_or_none : {X : Type 0} (g : Forest) (s : ℕ) (text other : List ℕ) → IsPlanInDates g s text → IsNoneInDates g s other → X
plan_or_none g s text other a b = best_or_none g s a.runs a.best b.none

pub one_plan_in_dates : OnePlanInDates
one_plan_in_dates g s exits.Done exits.Done text other a b = (refl, one_plan g s text other a b)
one_plan_in_dates g s exits.Unkeepable exits.Unkeepable text other a b = (refl, one_none g s text other a b)
one_plan_in_dates g s exits.Done exits.Unkeepable text other a b = plan_or_none g s text other a b
one_plan_in_dates g s exits.Unkeepable exits.Done text other a b = plan_or_none g s other text b a
one_plan_in_dates g s exits.Done _ text other a b = absurd b
one_plan_in_dates g s exits.Unkeepable _ text other a b = absurd b
one_plan_in_dates g s _ exit text other a b = absurd a
