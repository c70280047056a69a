-- One line, one index or one wake-up more: for the loops that make the text of `ends`.
use Rattle.std.proofs.Common.{◌≡◌, ℕ, zero, suc, ◌+◌, ◌<◌, List, [], ◌∷◌, ◌++◌, length, get_or, map, take, flat_map, refl, sym, ap, ◌∙◌, arith}
use Rattle.std.proofs.lemmas.{Grind.flat_map-append, List.FromFn.get_or-map-range_with_len, List.FromFn.length-map-range_with_len}
use Rattle.std.proofs.lemmas.List.{append-nil, map-append, take_more}
use Rattle.std.specs.List.{range_with_len}
use Rattle.plan_forest.specs.{declared.entry.Entry.Entry, Forest.entry_at}
use Rattle.plan_forest.proofs.Ranges.{range_more}
use Rattle.plan_rule.specs.{declared.wake.Wake.Wake, Ends.ends_listed}
use Rattle.plan_commands.specs.code.Making.{at_index}
use Rattle.plan_commands.specs.EndsText.{all_asked, end_lines, name_end_line}

pub end_lines_none : (es : List Entry) (ends : ℕ → ℕ) → end_lines es ends 0 ≡ []
unfolding end_lines
end_lines_none es ends = refl

pub end_lines_more : (es : List Entry) (ends : ℕ → ℕ) (n : ℕ) → end_lines es ends (n + 1) ≡ end_lines es ends n ++ name_end_line (entry_at es n) (ends n)
unfolding end_lines
end_lines_more es ends n =
    let line : ℕ → List ℕ = λ i. name_end_line (entry_at es i) (ends i) in
    ap (flat_map line) (range_more 0 n n (omega arith)) ∙ flat_map-append line (range_with_len 0 n) (n ∷ []) ∙ ap (λ xs. flat_map line (range_with_len 0 n) ++ xs) (append-nil (line n))

pub all_asked_none : (n : ℕ) → all_asked n [] ≡ []
unfolding all_asked
all_asked_none n = refl

pub all_asked_more : (n : ℕ) (moments : List ℕ) (i : ℕ) (w : Wake) → i < length moments → w.at ≡ get_or moments i 0 → w.asked ≡ range_with_len 0 n → all_asked n (take (i + 1) moments) ≡ all_asked n (take i moments) ++ w ∷ []
unfolding all_asked
all_asked_more n moments i w h at_moment all =
    let wake : ℕ → Wake = λ t. record { at = t; asked = range_with_len 0 n } in
    ap (map wake) (take_more moments i 0 h) ∙ map-append wake (take i moments) (get_or moments i 0 ∷ [])
    ∙ ap (λ (t : ℕ). map wake (take i moments) ++ wake t ∷ []) (sym at_moment)
    ∙ ap (λ (xs : List ℕ). map wake (take i moments) ++ record { at = w.at; asked = xs } ∷ []) (sym all)

-- the lines of ends that are the same
pub end_lines_same : (es : List Entry) (f g : ℕ → ℕ) (n : ℕ) → ((i : ℕ) → i < n → f i ≡ g i) → end_lines es f n ≡ end_lines es g n
end_lines_same es f g zero same = end_lines_none es f ∙ sym (end_lines_none es g)
end_lines_same es f g (suc n) same =
    let one : suc n ≡ n + 1 = omega arith in
    ap (end_lines es f) one ∙ end_lines_more es f n
    ∙ ap (λ xs. xs ++ name_end_line (entry_at es n) (f n)) (end_lines_same es f g n (λ i h. same i (omega arith)))
    ∙ ap (λ e. end_lines es g n ++ name_end_line (entry_at es n) e) (same n (omega arith))
    ∙ sym (ap (end_lines es g) one ∙ end_lines_more es g n)

pub at_index_listed : (es : List Entry) (ends : List ℕ) (f : ℕ → ℕ) → ends ≡ ends_listed es f → (i : ℕ) → i < length es → at_index ends i ≡ f i
unfolding at_index ends_listed
at_index_listed es ends f is i h = ap (λ xs. get_or xs i 0) is ∙ get_or-map-range_with_len f 0 (length es) i i 0 h (omega arith)

pub length_listed : (es : List Entry) (f : ℕ → ℕ) → length (ends_listed es f) ≡ length es
unfolding ends_listed
length_listed es f = length-map-range_with_len f 0 (length es)
