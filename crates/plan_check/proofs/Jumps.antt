-- Runs that an entry, asked by itself, passes at once: those before any moment gains, and those whose gaps its step bridges.
use Rattle.std.proofs.Common.{◌≡◌, ℕ, suc, zero, ◌+◌, ◌-◌, ◌<◌, ◌≤◌, ◌⊎◌, ◌++◌, true, List, [], ◌∷◌, max, get_or, drop, take, length, append_assoc, refl, sym, ap, ◌∙◌, subst, arith, inl, inr}
use Rattle.std.proofs.lemmas.Bool.Decides.{nat_tests}
use Rattle.std.proofs.lemmas.Bool.{cases_Bool, cases_eq, cases_lt}
use Rattle.std.proofs.lemmas.List.{drop_more, drop-drop, get_or-drop}
use Rattle.std.specs.List.Sorted.{IsNonDecreasingBy}
use Rattle.plan_forest.specs.{declared.entry.Entry.Entry, Renewal.renewal}
use Rattle.plan_rule.proofs.Keeping.{IsRising}
use Rattle.plan_rule.specs.{declared.force.Force.Force, declared.run.Run.Run}
use Rattle.plan_rule.specs.Runs.{all_wakes, moments_of, wakes, wakes_of}
use Rattle.plan_check.specs.{code.Steps.AllFit, code.Steps.last_behind, Fit.RunIsFit, Kept.own_after, Kept.own_end}
use Rattle.plan_check.specs.code.Gaps.{AllNarrow, gap_of, gap_within, gaps_of, last_moment}
use Rattle.plan_check.proofs.{Run.run_first, Spans.bridged_spaced, Spans.last_run}
use Rattle.plan_check.proofs.OwnEnds.{own_bridged, own_fixed, own_late, own_yes}
use Rattle.plan_check.proofs.OwnRuns.{blank, own_append, renewal_most, rising_turn}

-- what holds of the runs holds from a place on

pub fit_at : (n : ℕ) (rs : List Run) (at : ℕ) → AllFit n rs → at < length rs → RunIsFit n (get_or rs at blank)
fit_at n [] at fit within = absurd (omega arith)
fit_at n (r ∷ rs) zero fit within = fit.0
fit_at n (r ∷ rs) (suc at) fit within = fit_at n rs at fit.1 (omega arith)

fit_from : (n : ℕ) (at : ℕ) (rs : List Run) → AllFit n rs → AllFit n (drop at rs)
fit_from n zero rs fit = fit
fit_from n (suc at) [] fit = tt
fit_from n (suc at) (r ∷ rs) fit = fit_from n at rs fit.1

pub rising_from : (low : ℕ) (at : ℕ) (rs : List Run) → IsRising low (moments_of (all_wakes rs)) → (from : ℕ) × IsRising from (moments_of (all_wakes (drop at rs)))
rising_from low zero rs rising = (low, rising)
rising_from low (suc at) [] rising = (low, tt)
rising_from low (suc at) (r ∷ rs) rising = let rest = rising_turn low r rs rising in rising_from rest.0 at rs rest.1

gaps_from : (at : ℕ) (rs : List Run) → gaps_of (drop at rs) ≡ drop at (gaps_of rs)
gaps_from zero rs = refl
gaps_from (suc at) [] = refl
gaps_from (suc at) (r ∷ rs) = gaps_from at rs

pub length-gaps : (rs : List Run) → length (gaps_of rs) ≡ length rs
length-gaps [] = refl
length-gaps (r ∷ rs) = ap suc (length-gaps rs)

wakes_split : (k : ℕ) (rs : List Run) → all_wakes rs ≡ all_wakes (take k rs) ++ all_wakes (drop k rs)
wakes_split zero rs = refl
wakes_split (suc k) [] = refl
wakes_split (suc k) (r ∷ rs) = ap (λ (ws : List Force). wakes r ++ ws) (wakes_split k rs) ∙ sym (append_assoc (wakes r) (all_wakes (take k rs)) (all_wakes (drop k rs)))

-- the first wake-up of a run
abbrev pub first_wake : Run → Force
first_wake r = record { at = r.first; entry = r.entry; needed = r.needed }

later_wakes : Run → List Run → List Force
later_wakes r rs = wakes_of (r.first + r.step) r.step (r.count - 1) r.entry r.needed ++ all_wakes rs

wakes_start : (r : Run) (rs : List Run) → 0 < r.count → all_wakes (r ∷ rs) ≡ first_wake r ∷ later_wakes r rs
unfolding later_wakes
wakes_start r rs some = ap (λ (ws : List Force). ws ++ all_wakes rs) (run_first r.first r.step r.count r.entry r.needed some)

-- runs before one that begins with a moment that does not gain

idle_one : (e : Entry) (margin end t : ℕ) → t + e.step ≤ end → own_after e margin end t ≡ end
idle_one e margin end t idle =
    elim (cases_Bool e.renewable) [
      | inr fixed ↦ own_fixed e margin end t fixed
      | inl renewable ↦ elim (cases_lt end (t + margin)) [
        | inl late ↦ own_late e margin end t late
        | inr near ↦ let is = own_yes e margin end t renewable near in let most = renewal_most e t in omega (arith, is, most)
      ]
    ]

comes_by : (t : ℕ) (us : List Force) (w : Force) (ws : List Force) → IsRising t (moments_of (us ++ w ∷ ws)) → t ≤ w.at
comes_by t [] w ws rising = rising.0
comes_by t (u ∷ us) w ws rising = let l : t ≤ u.at = rising.0 in let r = comes_by u.at us w ws rising.1 in omega arith

idle_front :
    (e : Entry) (margin end low : ℕ) (us : List Force) (w : Force) (ws : List Force) → IsRising low (moments_of (us ++ w ∷ ws)) → w.at + e.step ≤ end →
    own_end e margin end (moments_of (us ++ w ∷ ws)) ≡ own_end e margin end (moments_of (w ∷ ws))
unfolding own_end
idle_front e margin end low [] w ws rising idle = refl
idle_front e margin end low (u ∷ us) w ws rising idle =
    let by = comes_by u.at us w ws rising.1 in
    ap (λ m. own_end e margin m (moments_of (us ++ w ∷ ws))) (idle_one e margin end u.at (omega (arith, by, idle))) ∙ idle_front e margin end u.at us w ws rising.1 idle

pub skips :
    (e : Entry) (margin end low n at : ℕ) (rs : List Run) → AllFit n rs → IsRising low (moments_of (all_wakes rs)) → at < length rs → (get_or rs at blank).first + e.step ≤ end →
    own_end e margin end (moments_of (all_wakes (drop at rs))) ≡ own_end e margin end (moments_of (all_wakes rs))
skips e margin end low n at rs fit rising within idle =
    let r = get_or rs at blank in
    let rest = drop (at + 1) rs in
    let here : all_wakes (drop at rs) ≡ first_wake r ∷ later_wakes r rest = ap all_wakes (drop_more rs at blank within) ∙ wakes_start r rest (fit_at n rs at fit within).moments.some in
    let whole : all_wakes rs ≡ all_wakes (take at rs) ++ first_wake r ∷ later_wakes r rest = wakes_split at rs ∙ ap (λ (ws : List Force). all_wakes (take at rs) ++ ws) here in
    let risen = subst (λ (ws : List Force). IsRising low (moments_of ws)) whole rising in
    ap (λ (ws : List Force). own_end e margin end (moments_of ws)) here
    ∙ sym (idle_front e margin end low (all_wakes (take at rs)) (first_wake r) (later_wakes r rest) risen idle)
    ∙ sym (ap (λ (ws : List Force). own_end e margin end (moments_of ws)) whole)

-- runs whose gaps a step bridges

rising_front : (t : ℕ) (us vs : List Force) → IsRising t (moments_of (us ++ vs)) → IsRising t (moments_of us)
rising_front t [] vs rising = tt
rising_front t (u ∷ us) vs rising = (rising.0, rising_front u.at us vs rising.1)

rising_back : (t : ℕ) (us vs : List Force) → IsRising t (moments_of (us ++ vs)) → IsRising (last_behind t (moments_of us)) (moments_of vs)
rising_back t [] vs rising = rising
rising_back t (u ∷ us) vs rising = rising_back u.at us vs rising.1

few_or_near : (r : Run) (gap : ℕ) → gap_within r ≤ gap → (r.count ≤ 1) ⊎ (r.step ≤ gap)
few_or_near r gap small = elim (cases_eq r.count 1) [
  | inl one ↦ inl (omega arith)
  | inr more ↦ inr (let l : r.step ≤ gap = grind (arith, nat_tests, small, more) in l)
]

gap_least : (r : Run) (rs : List Run) → gap_within r ≤ gap_of r rs
gap_least r [] = omega arith
gap_least r (next ∷ rs) = omega arith

one_run :
    (e : Entry) (margin end gap t : ℕ) (r : Run) (rs : List Run) → e.renewable ≡ true → gap + margin ≤ e.step → 0 < r.count → r.first ≤ t + gap → gap_within r ≤ gap → IsRising t (moments_of (all_wakes (r ∷ rs))) →
    own_end e margin (max end (renewal e t)) (moments_of (all_wakes (r ∷ rs))) ≡ own_end e margin (max end (renewal e (last_moment r))) (moments_of (all_wakes rs))
one_run e margin end gap t r rs renewable bridged some near small rising =
    let ws = moments_of (wakes r) in
    let all = bridged_spaced gap r.step r.count t r.first r.entry r.needed near (few_or_near r gap small) in
    own_append e margin (max end (renewal e t)) (wakes r) (all_wakes rs)
    ∙ ap (λ m. own_end e margin m (moments_of (all_wakes rs))) (own_bridged e margin end gap renewable bridged t ws (rising_front t (wakes r) (all_wakes rs) rising) all ∙ ap (λ v. max end (renewal e v)) (last_run t r some))

rising_next : (t : ℕ) (r : Run) (rs : List Run) → 0 < r.count → IsRising t (moments_of (all_wakes (r ∷ rs))) → IsRising (last_moment r) (moments_of (all_wakes rs))
rising_next t r rs some rising = subst (λ v. IsRising v (moments_of (all_wakes rs))) (last_run t r some) (rising_back t (wakes r) (all_wakes rs) rising)

bridge :
    (e : Entry) (margin end gap m : ℕ) → e.renewable ≡ true → gap + margin ≤ e.step → (n : ℕ) (rs : List Run) (t : ℕ) → AllFit m rs → n < length rs → ((k : ℕ) → k ≤ n → get_or (gaps_of rs) k 0 ≤ gap) →
    (get_or rs 0 blank).first ≤ t + gap → IsRising t (moments_of (all_wakes rs)) →
    own_end e margin (max end (renewal e t)) (moments_of (all_wakes rs)) ≡ own_end e margin (max end (renewal e (last_moment (get_or rs n blank)))) (moments_of (all_wakes (drop (suc n) rs)))
bridge e margin end gap m renewable bridged n [] t fit within narrow near rising = absurd (omega arith)
bridge e margin end gap m renewable bridged zero (r ∷ rs) t fit within narrow near rising =
    let here = narrow 0 (omega arith) in
    let least = gap_least r rs in
    one_run e margin end gap t r rs renewable bridged fit.0.moments.some near (omega (arith, here, least)) rising
bridge e margin end gap m renewable bridged (suc n) (r ∷ []) t fit within narrow near rising = absurd (omega arith)
bridge e margin end gap m renewable bridged (suc n) (r ∷ (next ∷ rs)) t fit within narrow near rising =
    let here : gap_of r (next ∷ rs) ≤ gap = narrow 0 (omega arith) in
    one_run e margin end gap t r (next ∷ rs) renewable bridged fit.0.moments.some near (omega (arith, here)) rising
    ∙ bridge e margin end gap m renewable bridged n (next ∷ rs) (last_moment r) fit.1 (omega arith) (λ k few. narrow (suc k) (omega arith)) (omega (arith, here)) (rising_next t r (next ∷ rs) fit.0.moments.some rising)

-- the first moments of the runs rise

low_first : (n low : ℕ) (r : Run) (rs : List Run) → AllFit n (r ∷ rs) → IsRising low (moments_of (all_wakes (r ∷ rs))) → low ≤ r.first
low_first n low r rs fit rising = (subst (λ (ws : List Force). IsRising low (moments_of ws)) (wakes_start r rs fit.0.moments.some) rising).0

firsts_from : (n low : ℕ) (rs : List Run) (at : ℕ) (d : Run) → AllFit n rs → IsRising low (moments_of (all_wakes rs)) → at < length rs → low ≤ (get_or rs at d).first
firsts_from n low [] at d fit rising within = absurd (omega arith)
firsts_from n low (r ∷ rs) zero d fit rising within = low_first n low r rs fit rising
firsts_from n low (r ∷ rs) (suc at) d fit rising within =
    let here = low_first n low r rs fit rising in
    let next = firsts_from n (last_moment r) rs at d fit.1 (rising_next low r rs fit.0.moments.some rising) (omega arith) in
    omega (arith, here, next)

pub firsts_rise : (n low : ℕ) (rs : List Run) → AllFit n rs → IsRising low (moments_of (all_wakes rs)) → IsNonDecreasingBy (λ (r : Run). r.first) rs
firsts_rise n low [] fit rising i j d up within = absurd (omega arith)
firsts_rise n low (r ∷ rs) fit rising zero zero d up within = omega arith
firsts_rise n low (r ∷ rs) fit rising zero (suc j) d up within =
    let next = firsts_from n (last_moment r) rs j d fit.1 (rising_next low r rs fit.0.moments.some rising) (omega arith) in
    omega (arith, next)
firsts_rise n low (r ∷ rs) fit rising (suc i) zero d up within = absurd (omega arith)
firsts_rise n low (r ∷ rs) fit rising (suc i) (suc j) d up within =
    firsts_rise n (last_moment r) rs fit.1 (rising_next low r rs fit.0.moments.some rising) i j d (omega arith) (omega arith)

-- an end that the first moment finds in time may be asked for twice there
starts :
    (e : Entry) (margin end : ℕ) (w : Force) (ws : List Force) → e.renewable ≡ true → w.at + margin ≤ end →
    own_end e margin end (moments_of (w ∷ ws)) ≡ own_end e margin (max end (renewal e w.at)) (moments_of (w ∷ ws))
unfolding own_end
starts e margin end w ws renewable first =
    let now = max end (renewal e w.at) in
    let once = own_yes e margin end w.at renewable first in
    let twice = own_yes e margin now w.at renewable (omega (arith, first)) in
    let same : own_after e margin end w.at ≡ own_after e margin now w.at = omega (arith, once, twice) in
    ap (λ m. own_end e margin m (moments_of ws)) same

bridge_from :
    (e : Entry) (margin end gap low m n : ℕ) (rs : List Run) → e.renewable ≡ true → gap + margin ≤ e.step → AllFit m rs → IsRising low (moments_of (all_wakes rs)) → n < length rs →
    ((k : ℕ) → k ≤ n → get_or (gaps_of rs) k 0 ≤ gap) → (get_or rs 0 blank).first + margin ≤ end →
    own_end e margin end (moments_of (all_wakes rs)) ≡ own_end e margin (max end (renewal e (last_moment (get_or rs n blank)))) (moments_of (all_wakes (drop (suc n) rs)))
bridge_from e margin end gap low m n [] renewable bridged fit rising within narrow first = absurd (omega arith)
bridge_from e margin end gap low m n (r ∷ rs) renewable bridged fit rising within narrow first =
    let is = wakes_start r rs fit.0.moments.some in
    let risen : IsRising low (moments_of (first_wake r ∷ later_wakes r rs)) = subst (λ (ws : List Force). IsRising low (moments_of ws)) is rising in
    let again : IsRising r.first (moments_of (first_wake r ∷ later_wakes r rs)) = (omega arith, risen.1) in
    ap (λ (ws : List Force). own_end e margin end (moments_of ws)) is
    ∙ starts e margin end (first_wake r) (later_wakes r rs) renewable first
    ∙ sym (ap (λ (ws : List Force). own_end e margin (max end (renewal e r.first)) (moments_of ws)) is)
    ∙ bridge e margin end gap m renewable bridged n (r ∷ rs) r.first fit within narrow (omega arith) (subst (λ (ws : List Force). IsRising r.first (moments_of ws)) (sym is) again)

pub jumps :
    (e : Entry) (margin end total too_wide low m at wide : ℕ) (rs : List Run) → e.renewable ≡ true → too_wide ≡ e.step + 1 - margin → AllFit m rs → IsRising low (moments_of (all_wakes rs)) → at < wide →
    wide ≤ length rs → AllNarrow (gaps_of rs) at wide too_wide → (get_or rs at blank).first + margin ≤ end → own_end e margin end (moments_of (all_wakes (drop at rs))) ≡ total →
    own_end e margin (max end (renewal e (last_moment (get_or rs (wide - 1) blank)))) (moments_of (all_wakes (drop wide rs))) ≡ total
jumps e margin end total too_wide low m at wide rs renewable is fit rising more within narrow first whole =
    let n = wide - 1 - at in
    let gap = e.step - margin in
    let here = narrow at (omega arith) more in
    let risen = rising_from low at rs rising in
    let count = drop_length at rs in
    let place : (get_or (drop at rs) 0 blank).first ≡ (get_or rs at blank).first = ap (λ (r : Run). r.first) (get_or-drop at rs 0 blank ∙ ap (λ k. get_or rs k blank) (omega arith)) in
    let narrow_here : (k : ℕ) → k ≤ n → get_or (gaps_of (drop at rs)) k 0 ≤ gap = λ k few.
    let l = narrow (at + k) (omega arith) (omega (arith, few, more)) in
    let same : get_or (gaps_of (drop at rs)) k 0 ≡ get_or (gaps_of rs) (at + k) 0 = ap (λ gs. get_or gs k 0) (gaps_from at rs) ∙ get_or-drop at (gaps_of rs) k 0 in
    omega (arith, l, same, is) in
    let by = bridge_from e margin end gap risen.0 m n (drop at rs) renewable (omega (arith, here, is)) (fit_from m at rs fit) risen.1 (omega (arith, count, more, within)) narrow_here (omega (arith, place, first)) in
    let last : get_or (drop at rs) n blank ≡ get_or rs (wide - 1) blank = get_or-drop at rs n blank ∙ ap (λ k. get_or rs k blank) (let e' : at + n ≡ wide - 1 = omega (arith, more) in e') in
    let rest : drop (suc n) (drop at rs) ≡ drop wide rs = drop-drop (suc n) at rs ∙ ap (λ k. drop k rs) (let e' : at + suc n ≡ wide = omega (arith, more) in e') in
    sym (ap (λ (r : Run). own_end e margin (max end (renewal e (last_moment r))) (moments_of (all_wakes (drop (suc n) (drop at rs))))) last
    ∙ ap (λ (us : List Run). own_end e margin (max end (renewal e (last_moment (get_or rs (wide - 1) blank)))) (moments_of (all_wakes us))) rest)
    ∙ sym by ∙ whole where
      drop_length : (k : ℕ) (us : List Run) → length (drop k us) ≡ length us - k
      drop_length zero us = omega arith
      drop_length (suc k) [] = omega arith
      drop_length (suc k) (u ∷ us) = drop_length k us ∙ omega arith
