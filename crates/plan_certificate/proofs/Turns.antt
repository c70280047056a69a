-- The lines that follow each other: for the code that reads the first line and the lines of runs.
use Rattle.std.proofs.Common.{◌≡◌, ◌≢◌, ℕ, ◌+◌, ◌<◌, ◌≤◌, true, false, ◌&&◌, if◌then◌else◌, List, [], ◌∷◌, ◌++◌, length, Result, Ok, Err, bytes_eq, nat_le, nat_lt, refl, sym, ap, ◌∙◌, subst, arith}
use Rattle.std.proofs.lemmas.List.Splits.{join_with_byte-slice_split}
use Rattle.std.proofs.lemmas.Bool.{and_from, and_left, and_parts, and_right, cond-false, cond-true, le-ltb, leb-true, lt-ltb}
use Rattle.std.specs.List.{join_with_byte}
use Rattle.plan_forest.specs.declared.entry.Entry.{Entry}
use Rattle.plan_rule.specs.{declared.run.Run.Run, declared.limit.TheConstants.LIMIT, Runs.wake_count}
use Rattle.plan_certificate.specs.{declared.cert.TheConstants.MAX_LINES, declared.cert.Version.Version, declared.fault.CertFault.CertFault, Lines.line_at}
use Rattle.plan_certificate.specs.declared.fault.CertFault.TheVariants.{BadHeader, Trailing}
use Rattle.plan_certificate.specs.Reading.{ending, header_of, is_run, nothing_behind, run_in_line, run_keyword, runs_of, version_of}
use Rattle.plan_certificate.specs.Answers.{◌>>=◌}
use Rattle.base_words.specs.Pieces.{keyword, pieces}
use Rattle.base_words.proofs.Cutting.{has_piece}

-- ---- the first line and what follows the last

header_whole : (line : List ℕ) (ls : List (List ℕ)) → ls ≢ [] → header_of (line ∷ ls) ≡ (version_of line >>= λ v. Ok (v, ls))
unfolding header_of
header_whole line [] some = absurd (some refl)
header_whole line (next ∷ more) some = refl

pub header_line : (line rest : List ℕ) → header_of (line ∷ pieces 10 rest) ≡ (version_of line >>= λ v. Ok (v, pieces 10 rest))
header_line line rest = header_whole line (pieces 10 rest) (has_piece 10 rest)

pub no_header : (line : List ℕ) → header_of (line ∷ []) ≡ Err BadHeader
unfolding header_of
no_header line = refl

pub behind_nothing : (rest : List ℕ) → length rest ≡ 0 → nothing_behind (pieces 10 rest) ≡ Ok tt
unfolding nothing_behind pieces
behind_nothing [] e = refl
behind_nothing (b ∷ bs) e = absurd (omega (arith, e))

not_bare : (ls : List (List ℕ)) → ls ≢ [] ∷ [] → nothing_behind ls ≡ Err Trailing
unfolding nothing_behind
not_bare [] some = refl
not_bare ([] ∷ []) some = absurd (some refl)
not_bare ([] ∷ l ∷ ls) some = refl
not_bare ((b ∷ bs) ∷ ls) some = refl

bare_is_empty : (text : List ℕ) → pieces 10 text ≡ [] ∷ [] → length text ≡ 0
unfolding pieces
bare_is_empty text e = ap length (sym (join_with_byte-slice_split 10 text) ∙ ap (join_with_byte 10) e)

pub behind_something : (rest : List ℕ) → length rest ≢ 0 → nothing_behind (pieces 10 rest) ≡ Err Trailing
behind_something rest some = not_bare (pieces 10 rest) (λ e. some (bare_is_empty rest e))

-- ---- one line of runs more

pub counted_push : (rs : List Run) (r : Run) → wake_count (rs ++ r ∷ []) ≡ wake_count rs + r.count
counted_push [] r = omega arith
counted_push (x ∷ xs) r = omega (arith, counted_push xs r)

-- what the lines say, after so many runs, where this is the first of them
abbrev pub turn : Version → List Entry → List Run → List ℕ → List (List ℕ) → Result (List Run) CertFault
turn v es found line rest =
    if bytes_eq (keyword line) (run_keyword v) && nat_lt (length found) MAX_LINES
    then (run_in_line v (length found + 3) es (wake_count found) line >>= λ run. runs_of v es (found ++ run ∷ []) rest)
    else (ending (length found + 3) (wake_count found) line rest >>= λ u. Ok found)

pub ok_same : {A : Type 0} (x y : A) → ◌≡◌ {A = Result A CertFault} (Ok x) (Ok y) → x ≡ y
ok_same x y e = cc

turned : (v : Version) (es : List Entry) (found : List Run) (ls : List (List ℕ)) (line : List ℕ) (rest : List (List ℕ))
    → line_at (length found + 3) ls ≡ Ok (line, rest) → runs_of v es found ls ≡ turn v es found line rest
unfolding line_at runs_of
turned v es found [] line rest e = cc
turned v es found (last ∷ []) line rest e = cc
turned v es found (l ∷ next ∷ more) line rest e = ap (λ p. turn v es found p.0 p.1) (ok_same {A = List ℕ × List (List ℕ)} (l, next ∷ more) (line, rest) e)

not_turned : (v : Version) (es : List Entry) (found : List Run) (ls : List (List ℕ)) (f : CertFault)
    → line_at (length found + 3) ls ≡ Err f → runs_of v es found ls ≡ Err f
unfolding line_at runs_of
not_turned v es found [] f e = cc
not_turned v es found (last ∷ []) f e = cc
not_turned v es found (l ∷ next ∷ more) f e = cc

-- a fault is handed on, and so is a value
pub fault_on : {A B : Type 0} (r : Result A CertFault) (f : A → Result B CertFault) (e : CertFault) → r ≡ Err e → (r >>= f) ≡ Err e
fault_on (Ok x) f e h = cc
fault_on (Err x) f e h = cc

pub value_on : {A B : Type 0} (r : Result A CertFault) (f : A → Result B CertFault) (x : A) → r ≡ Ok x → (r >>= f) ≡ f x
value_on (Ok y) f x h = ap f (ok_same y x h)
value_on (Err y) f x h = cc

-- after these runs, which have so many wake-ups, these lines say what all of them say
pub record Behind (v : Version) (es : List Entry) (found : List Run) (n total : ℕ) (ls : List (List ℕ)) (all : Result (List Run) CertFault) : Type 0 where
  pub place : length found + 3 ≡ n
  pub counts : total ≡ wake_count found
  pub same : runs_of v es found ls ≡ all

module _ (v : Version) (es : List Entry) (found : List Run) (n total : ℕ) (ls : List (List ℕ)) (all : Result (List Run) CertFault) (b : Behind v es found n total ls all) where
  pub no_turn : (f : CertFault) → line_at n ls ≡ Err f → all ≡ Err f
  no_turn f e = sym b.same ∙ not_turned v es found ls f (subst (λ k. line_at k ls ≡ Err f) (sym b.place) e)

  module _ (line : List ℕ) (rest : List (List ℕ)) (first : line_at n ls ≡ Ok (line, rest)) where
    all_turned : all ≡ turn v es found line rest
    all_turned = sym b.same ∙ turned v es found ls line rest (subst (λ k. line_at k ls ≡ Ok (line, rest)) (sym b.place) first)

    -- a line of a run
    run_next : bytes_eq (keyword line) (run_keyword v) ≡ true → length found < MAX_LINES → all ≡ (run_in_line v n es total line >>= λ run. runs_of v es (found ++ run ∷ []) rest)
    run_next key few =
        all_turned ∙ cond-true _ _ _ (and_from _ _ key (lt-ltb _ _ few))
        ∙ ap (λ k. run_in_line v k es (wake_count found) line >>= λ run. runs_of v es (found ++ run ∷ []) rest) b.place
        ∙ ap (λ t. run_in_line v n es t line >>= λ run. runs_of v es (found ++ run ∷ []) rest) (sym b.counts)

    pub run_fault : bytes_eq (keyword line) (run_keyword v) ≡ true → length found < MAX_LINES → (f : CertFault) → run_in_line v n es total line ≡ Err f → all ≡ Err f
    run_fault key few f e = run_next key few ∙ fault_on (run_in_line v n es total line) _ f e

    pub run_more : bytes_eq (keyword line) (run_keyword v) ≡ true → length found < MAX_LINES → (run : Run) → run_in_line v n es total line ≡ Ok run → runs_of v es (found ++ run ∷ []) rest ≡ all
    run_more key few run e = sym (run_next key few ∙ value_on (run_in_line v n es total line) _ run e)

    -- a line of another kind, or one too many
    end_next : (bytes_eq (keyword line) (run_keyword v) && nat_lt (length found) MAX_LINES) ≡ false → all ≡ (ending n total line rest >>= λ u. Ok found)
    end_next key =
        all_turned ∙ cond-false _ _ _ key
        ∙ ap (λ k. ending k (wake_count found) line rest >>= λ u. Ok found) b.place
        ∙ ap (λ t. ending n t line rest >>= λ u. Ok found) (sym b.counts)

    pub other_fault : bytes_eq (keyword line) (run_keyword v) ≡ false → (f : CertFault) → ending n total line rest ≡ Err f → all ≡ Err f
    other_fault key f e = end_next (and_left _ _ key) ∙ fault_on (ending n total line rest) _ f e

    pub other_done : bytes_eq (keyword line) (run_keyword v) ≡ false → (u : Unit {0}) → ending n total line rest ≡ Ok u → all ≡ Ok found
    other_done key u e = end_next (and_left _ _ key) ∙ value_on (ending n total line rest) _ u e

    pub full_fault : MAX_LINES ≤ length found → (f : CertFault) → ending n total line rest ≡ Err f → all ≡ Err f
    full_fault many f e = end_next (and_right _ _ (le-ltb _ _ many)) ∙ fault_on (ending n total line rest) _ f e

    pub full_done : MAX_LINES ≤ length found → (u : Unit {0}) → ending n total line rest ≡ Ok u → all ≡ Ok found
    full_done many u e = end_next (and_right _ _ (le-ltb _ _ many)) ∙ value_on (ending n total line rest) _ u e

-- a run that may be has at most LIMIT wake-ups
pub run_is_small : (before at_first step count : ℕ) → is_run before at_first step count ≡ true → count ≤ LIMIT
unfolding is_run
run_is_small before at_first step count e = let few = leb-true _ _ (and_parts (nat_le (before + count) LIMIT) _ e).0 in omega (arith, few)
