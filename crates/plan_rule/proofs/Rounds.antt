-- One wake-up over a list of ends: what lasts over an entry is carried down, and each asked entry gets its end.
use Rattle.std.proofs.Common.{◌≡◌, ◌==◌, ℕ, ◌+◌, ◌<◌, ◌&&◌, ◌||◌, Bool, true, false, cond, List, length, get_or, set, take, min, nat_le, Some, None, refl, sym, ap, ◌∙◌, subst, arith, inl, inr}
use Rattle.std.proofs.lemmas.{Bool.cases_Bool, Bool.cases_eq, Bool.cond-true, Bool.cond-false, Bool.or_right, Bool.Decides.nat_tests, List.get_or-set_same, List.get_or-set_other, List.Folds.list_any_more}
use Rattle.std.proofs.{Math.Bool.or-false, Math.Path.fun_ext}
use Rattle.std.specs.List.{list_any}
use Rattle.plan_forest.specs.{declared.entry.Entry.Entry, Forest.entry_at, Renewal.all_last, Renewal.is_granted, Renewal.renewal, Renewal.renewed}
use Rattle.plan_forest.proofs.Chains.{ParentsFirst, all_last_child, all_last_root}
use Rattle.plan_rule.specs.{declared.wake.Wake.Wake, Ends.ends_after_wake_up, Ends.is_asked, code.Replay.Lasts, code.Replay.end_renewed_by, code.Replay.shown_ends}

-- each of the first n of lasts is the least end over its entry
abbrev pub LastsBelow : List Entry → (ℕ → ℕ) → List ℕ → ℕ → Type 0
LastsBelow es ends lasts n = (k m : ℕ) → k < n → nat_le m (get_or lasts k 0) ≡ all_last es ends m k

written : (es : List Entry) (ends : ℕ → ℕ) (lasts : List ℕ) (i v : ℕ) → i < length lasts → LastsBelow es ends lasts i → ((m : ℕ) → nat_le m v ≡ all_last es ends m i) → LastsBelow es ends (set lasts i v) (i + 1)
written es ends lasts i v h below here k m l =
    elim (cases_eq k i) [
      | inl same ↦ subst (λ n. nat_le m (get_or (set lasts i v) n 0) ≡ all_last es ends m n) (sym same) (ap (nat_le m) (get_or-set_same lasts i v 0 h) ∙ here m)
      | inr other ↦ ap (nat_le m) (get_or-set_other lasts i k v 0 other) ∙ below k m (omega arith)
    ]

pub lasts_root : (es : List Entry) (ends lasts : List ℕ) (i : ℕ) → i < length lasts → (entry_at es i).parent ≡ None → LastsBelow es (shown_ends ends) lasts i → LastsBelow es (shown_ends ends) (set lasts i (get_or ends i 0)) (i + 1)
unfolding shown_ends
lasts_root es ends lasts i h root below = written es (λ k. get_or ends k 0) lasts i (get_or ends i 0) h below (λ m. sym (all_last_root es (λ k. get_or ends k 0) m i root))

pub le_min : (m a b : ℕ) → nat_le m (min a b) ≡ nat_le m a && nat_le m b
le_min m a b = grind (arith, nat_tests)

pub lasts_child : (es : List Entry) (ends lasts : List ℕ) (i p : ℕ) → i < length lasts → ParentsFirst es → (entry_at es i).parent ≡ Some p → LastsBelow es (shown_ends ends) lasts i → LastsBelow es (shown_ends ends) (set lasts i (min (get_or ends i 0) (get_or lasts p 0))) (i + 1)
unfolding shown_ends
lasts_child es ends lasts i p h first child below =
    let f : ℕ → ℕ = λ k. get_or ends k 0 in
    written es f lasts i (min (get_or ends i 0) (get_or lasts p 0)) h below
    (λ m. le_min m (get_or ends i 0) (get_or lasts p 0) ∙ ap (λ b. nat_le m (get_or ends i 0) && b) (below p m (first i p child)) ∙ sym (all_last_child es f m i p first child))

-- what the ends are once the first n requests of a wake-up at t are served
abbrev pub ServedTo : List Entry → ℕ → List ℕ → ℕ → List ℕ → List ℕ → ℕ → Type 0
ServedTo es margin before t asked now n = (k : ℕ) → get_or now k 0 ≡ cond (list_any (λ j. j == k) (take n asked)) (renewed es margin (shown_ends before) t k) (shown_ends before k)

new_end : (es : List Entry) (margin : ℕ) (ends : ℕ → ℕ) (t j last end : ℕ) → nat_le (t + margin) last ≡ all_last es ends (t + margin) j → (was : Bool) → end ≡ cond was (renewed es margin ends t j) (ends j) → end_renewed_by (entry_at es j) margin t last end ≡ renewed es margin ends t j
unfolding renewed is_granted
new_end es margin ends t j last end lasts was old =
    let granted = (entry_at es j).renewable && all_last es ends (t + margin) j in
    ap (λ b. cond ((entry_at es j).renewable && b) (renewal (entry_at es j) t) end) lasts
    ∙ elim (cases_Bool granted) [
      | inl yes' ↦ cond-true granted (renewal (entry_at es j) t) end yes' ∙ sym (cond-true granted (renewal (entry_at es j) t) (ends j) yes')
      | inr no' ↦ cond-false granted (renewal (entry_at es j) t) end no' ∙ old
          ∙ ap (λ e. cond was e (ends j)) (cond-false granted (renewal (entry_at es j) t) (ends j) no') ∙ either was (ends j)
          ∙ sym (cond-false granted (renewal (entry_at es j) t) (ends j) no')
    ] where
      either : (b : Bool) (e : ℕ) → cond b e e ≡ e
      either true e = refl
      either false e = refl

pub served_more :
    (es : List Entry) (margin : ℕ) (before lasts : List ℕ) (t : ℕ) (asked now : List ℕ) (i j : ℕ) → i < length asked → j ≡ get_or asked i 0 → j < length now → j < length es →
    Lasts es (shown_ends before) lasts → ServedTo es margin before t asked now i →
    ServedTo es margin before t asked (set now j (end_renewed_by (entry_at es j) margin t (get_or lasts j 0) (get_or now j 0))) (i + 1)
served_more es margin before lasts t asked now i j within is there entry carried served k =
    let v = end_renewed_by (entry_at es j) margin t (get_or lasts j 0) (get_or now j 0) in
    let more = list_any_more (λ n. n == k) asked i 0 within in
    elim (cases_eq k j) [
      | inl same ↦
          let new : v ≡ renewed es margin (shown_ends before) t j = new_end es margin (shown_ends before) t j (get_or lasts j 0) (get_or now j 0) (carried.least j (t + margin) entry) (list_any (λ n. n == j) (take i asked)) (served j) in
          let hit : list_any (λ n. n == k) (take (i + 1) asked) ≡ true = more ∙ or_right (list_any (λ n. n == k) (take i asked)) (get_or asked i 0 == k) (grind (arith, nat_tests)) in
          ap (λ n. get_or (set now j v) n 0) same ∙ get_or-set_same now j v 0 there ∙ new ∙ ap (renewed es margin (shown_ends before) t) (sym same)
          ∙ sym (cond-true _ (renewed es margin (shown_ends before) t k) (shown_ends before k) hit)
      | inr other ↦
          let miss : (get_or asked i 0 == k) ≡ false = grind (arith, nat_tests) in
          get_or-set_other now j k v 0 other ∙ served k
          ∙ ap (λ b. cond b (renewed es margin (shown_ends before) t k) (shown_ends before k)) (sym (more ∙ ap (λ b. list_any (λ n. n == k) (take i asked) || b) miss ∙ or-false (list_any (λ n. n == k) (take i asked))))
    ]

pub served_all : (es : List Entry) (margin : ℕ) (before : List ℕ) (w : Wake) (now : List ℕ) (n : ℕ) → take n w.asked ≡ w.asked → ServedTo es margin before w.at w.asked now n → shown_ends now ≡ ends_after_wake_up es margin (shown_ends before) w
unfolding shown_ends ends_after_wake_up is_asked
served_all es margin before w now n whole served = fun_ext λ k.
    served k ∙ ap (λ asked. cond (list_any (λ j. j == k) asked) (renewed es margin (λ i. get_or before i 0) w.at k) (get_or before k 0)) whole
