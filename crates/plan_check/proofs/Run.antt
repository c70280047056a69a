-- A walk over the wake-ups of one run, after its first: how far it goes, and where it stops.
use Rattle.std.proofs.Common.{◌≡◌, ℕ, suc, zero, ◌+◌, ◌-◌, ◌*◌, ◌<◌, ◌≤◌, ◌⊎◌, ◌++◌, Bool, true, false, cond, List, [], ◌∷◌, Option, Some, None, max, nat_le, nat_lt, refl, sym, ap, ◌∙◌, subst, arith, inl, inr}
use Rattle.std.proofs.lemmas.Bool.Decides.{nat_tests}
use Rattle.std.proofs.lemmas.Bool.{and_from, and_right, false_from_ne_true}
use Rattle.plan_forest.specs.{declared.entry.Entry.Entry, Over.Over, Renewal.capped, Renewal.renewal}
use Rattle.plan_forest.specs.Forest.{Forest, end_of, entry_at}
use Rattle.plan_rule.specs.{declared.force.Force.Force, Runs.wakes_of}
use Rattle.plan_rule.specs.Forced.{Forced, bound, latest_end}
use Rattle.plan_check.specs.{declared.answer.Cause.Cause, code.Steps.WalkFinds}
use Rattle.plan_check.specs.declared.answer.Cause.TheVariants.{NotForced, NotRising}
use Rattle.plan_check.specs.Walk.{fault, is_forced, rises}
use Rattle.plan_check.proofs.Answers.{forced_parts, forced_tests}

-- a wake-up in front of others

pub fault_at_none : (es : List Entry) (margin s : ℕ) (ends : ℕ → ℕ) (prev : Option ℕ) (k : ℕ) → fault es margin s ends prev k [] ≡ None
unfolding fault
fault_at_none es margin s ends prev k = refl

pub falls : (es : List Entry) (margin s : ℕ) (ends : ℕ → ℕ) (prev : Option ℕ) (k : ℕ) (w : Force) (ws : List Force) → rises s prev w.at ≡ false → fault es margin s ends prev k (w ∷ ws) ≡ Some (NotRising k)
unfolding fault
falls es margin s ends prev k w ws no' =
    ap (λ b. cond b (cond (is_forced es margin s ends prev w.at w.entry w.needed) (fault es margin s ends (Some w.at) (k + 1) ws) (Some (NotForced k))) (Some (NotRising k))) no'

pub unforced :
    (es : List Entry) (margin s : ℕ) (ends : ℕ → ℕ) (prev : Option ℕ) (k : ℕ) (w : Force) (ws : List Force) → rises s prev w.at ≡ true →
    is_forced es margin s ends prev w.at w.entry w.needed ≡ false → fault es margin s ends prev k (w ∷ ws) ≡ Some (NotForced k)
unfolding fault
unforced es margin s ends prev k w ws yes' no' =
    ap (λ b. cond b (cond (is_forced es margin s ends prev w.at w.entry w.needed) (fault es margin s ends (Some w.at) (k + 1) ws) (Some (NotForced k))) (Some (NotRising k))) yes'
    ∙ ap (λ b. cond b (fault es margin s ends (Some w.at) (k + 1) ws) (Some (NotForced k))) no'

pub goes_on :
    (es : List Entry) (margin s : ℕ) (ends : ℕ → ℕ) (prev : Option ℕ) (k : ℕ) (w : Force) (ws : List Force) → rises s prev w.at ≡ true →
    is_forced es margin s ends prev w.at w.entry w.needed ≡ true → fault es margin s ends prev k (w ∷ ws) ≡ fault es margin s ends (Some w.at) (k + 1) ws
unfolding fault
goes_on es margin s ends prev k w ws yes' yes'' =
    ap (λ b. cond b (cond (is_forced es margin s ends prev w.at w.entry w.needed) (fault es margin s ends (Some w.at) (k + 1) ws) (Some (NotForced k))) (Some (NotRising k))) yes'
    ∙ ap (λ b. cond b (fault es margin s ends (Some w.at) (k + 1) ws) (Some (NotForced k))) yes''

rises_later : (s t u : ℕ) → s ≤ u → t < u → rises s (Some t) u ≡ true
unfolding rises
rises_later s t u h l = and_from (nat_le s u) (nat_lt t u) (grind (arith, nat_tests)) (grind (arith, nat_tests))

stays : (s t u : ℕ) → u ≤ t → rises s (Some t) u ≡ false
unfolding rises
stays s t u h = and_right (nat_le s u) (nat_lt t u) (grind (arith, nat_tests))

-- the bound grows by no more than the moment does
capped_slow : (c : Option ℕ) (x gap : ℕ) → capped c (x + gap) ≤ capped c x + gap
unfolding capped
capped_slow None x gap = omega arith
capped_slow (Some c) x gap = omega arith

renewal_slow : (e : Entry) (t gap : ℕ) → renewal e (t + gap) ≤ renewal e t + gap
unfolding renewal
renewal_slow e t gap =
    let l = capped_slow e.ceiling (t + e.step) gap in
    let same : t + gap + e.step ≡ t + e.step + gap = omega arith in
    subst (λ n. capped e.ceiling n ≤ capped e.ceiling (t + e.step) + gap) (sym same) l

bound_slow : (e : Entry) (end t gap : ℕ) → latest_end e end (Some (t + gap)) ≤ latest_end e end (Some t) + gap
unfolding latest_end
bound_slow e end t gap = by_test e.renewable (renewal e t) (renewal e (t + gap)) (renewal_slow e t gap) where
  by_test : (b : Bool) (x y : ℕ) → y ≤ x + gap → cond b (max end y) end ≤ cond b (max end x) end + gap
  by_test true x y h = omega arith
  by_test false x y h = omega arith

-- what stays the same over a run whose first wake-up is forced, with a moment before which wake-ups leave the need ahead
pub record Going (es : List Entry) (margin s : ℕ) (ends : ℕ → ℕ) (entry needed gap top : ℕ) : Type 0 where
  pub over : Over es entry needed
  pub later : s < (entry_at es needed).need
  pub apart : 0 < gap
  pub short : (t : ℕ) → t < top → latest_end (entry_at es entry) (ends entry) (Some t) < (entry_at es needed).need

-- q wake-ups more are forced
pub walks :
    (es : List Entry) (margin s : ℕ) (ends : ℕ → ℕ) (entry needed gap top : ℕ) → Going es margin s ends entry needed gap top → (q c n t u k m : ℕ) (rest : List Force) →
    c ≡ q + n → u ≡ t + q * gap → m ≡ k + q → s ≤ t → latest_end (entry_at es entry) (ends entry) (Some t) ≤ t + gap + margin → (q ≡ 0) ⊎ (t + q * gap < top + gap) →
    fault es margin s ends (Some t) k (wakes_of (t + gap) gap c entry needed ++ rest) ≡ fault es margin s ends (Some u) m (wakes_of (u + gap) gap n entry needed ++ rest)
unfolding wakes_of bound
walks es margin s ends entry needed gap top going zero c n t u k m rest count moment number start due low =
    let Goal : ℕ → ℕ → ℕ → Type 0 = λ a b d. fault es margin s ends (Some t) k (wakes_of (t + gap) gap c entry needed ++ rest) ≡ fault es margin s ends (Some a) b (wakes_of (a + gap) gap d entry needed ++ rest) in
    let one : t ≡ u = omega arith in
    let two : k ≡ m = omega arith in
    let three : c ≡ n = omega arith in
    subst (λ a. Goal a m n) one (subst (λ b. Goal t b n) two (subst (λ d. Goal t k d) three refl))
walks es margin s ends entry needed gap top going (suc q) zero n t u k m rest count moment number start due low = absurd (omega arith)
walks es margin s ends entry needed gap top going (suc q) (suc c) n t u k m rest count moment number start due low =
    let near : t + suc q * gap < top + gap = elim low [ inl none ↦ absurd (omega arith) | inr h ↦ h ] in
    let more : suc q * gap ≡ gap + q * gap = omega arith in
    let apart : 0 < gap = going.apart in
    let short = going.short t (omega arith) in
    let w : Force = record { at = t + gap; entry = entry; needed = needed } in
    let forced : is_forced es margin s ends (Some t) (t + gap) entry needed ≡ true =
    forced_tests es margin s ends (Some t) (t + gap) entry needed (by_bound short due) in
    let next = bound_slow (entry_at es entry) (ends entry) t gap in
    goes_on es margin s ends (Some t) k w (wakes_of (t + gap + gap) gap c entry needed ++ rest) (rises_later s t (t + gap) (omega arith) (omega arith)) forced
    ∙ walks es margin s ends entry needed gap top going q c n (t + gap) u (k + 1) m rest (omega arith) (omega arith) (omega arith) (omega arith) (omega arith) (inr (omega arith)) where
      by_bound :
          latest_end (entry_at es entry) (ends entry) (Some t) < (entry_at es needed).need → latest_end (entry_at es entry) (ends entry) (Some t) ≤ t + gap + margin →
          Forced es margin s ends (Some t) (t + gap) entry needed
      by_bound short due = record { over = going.over; later = going.later; short = short; due = due }

-- the next wake-up is not forced where the bound has come to the need, or is later than the margin after it
not_short : (es : List Entry) (margin s : ℕ) (ends : ℕ → ℕ) (t u entry needed : ℕ) → (entry_at es needed).need ≤ latest_end (entry_at es entry) (ends entry) (Some t) → is_forced es margin s ends (Some t) u entry needed ≡ false
unfolding bound
not_short es margin s ends t u entry needed long = false_from_ne_true (is_forced es margin s ends (Some t) u entry needed) (λ yes'. let f = forced_parts es margin s ends (Some t) u entry needed yes' in let l = f.short in omega arith)

not_due : (es : List Entry) (margin s : ℕ) (ends : ℕ → ℕ) (t u entry needed : ℕ) → u + margin < latest_end (entry_at es entry) (ends entry) (Some t) → is_forced es margin s ends (Some t) u entry needed ≡ false
unfolding bound
not_due es margin s ends t u entry needed late = false_from_ne_true (is_forced es margin s ends (Some t) u entry needed) (λ yes'. let f = forced_parts es margin s ends (Some t) u entry needed yes' in let l = f.due in omega arith)

pub stands_still : (es : List Entry) (margin s : ℕ) (ends : ℕ → ℕ) (entry needed t k n : ℕ) (rest : List Force) → 0 < n → fault es margin s ends (Some t) k (wakes_of (t + 0) 0 n entry needed ++ rest) ≡ Some (NotRising k)
unfolding wakes_of
stands_still es margin s ends entry needed t k zero rest some = absurd (omega arith)
stands_still es margin s ends entry needed t k (suc n) rest some =
    falls es margin s ends (Some t) k (record { at = t + 0; entry = entry; needed = needed }) (wakes_of (t + 0 + 0) 0 n entry needed ++ rest) (stays s t (t + 0) (omega arith))

pub could_wait :
    (es : List Entry) (margin s : ℕ) (ends : ℕ → ℕ) (entry needed gap t k n : ℕ) (rest : List Force) → 0 < n → 0 < gap → s ≤ t → t + gap + margin < latest_end (entry_at es entry) (ends entry) (Some t) →
    fault es margin s ends (Some t) k (wakes_of (t + gap) gap n entry needed ++ rest) ≡ Some (NotForced k)
unfolding wakes_of
could_wait es margin s ends entry needed gap t k zero rest some apart start late = absurd (omega arith)
could_wait es margin s ends entry needed gap t k (suc n) rest some apart start late =
    unforced es margin s ends (Some t) k (record { at = t + gap; entry = entry; needed = needed }) (wakes_of (t + gap + gap) gap n entry needed ++ rest)
    (rises_later s t (t + gap) (omega arith) (omega arith)) (not_due es margin s ends t (t + gap) entry needed late)

pub is_long :
    (es : List Entry) (margin s : ℕ) (ends : ℕ → ℕ) (entry needed gap t k n : ℕ) (rest : List Force) → 0 < n → 0 < gap → s ≤ t → (entry_at es needed).need ≤ latest_end (entry_at es entry) (ends entry) (Some t) →
    fault es margin s ends (Some t) k (wakes_of (t + gap) gap n entry needed ++ rest) ≡ Some (NotForced k)
unfolding wakes_of
is_long es margin s ends entry needed gap t k zero rest some apart start long = absurd (omega arith)
is_long es margin s ends entry needed gap t k (suc n) rest some apart start long =
    unforced es margin s ends (Some t) k (record { at = t + gap; entry = entry; needed = needed }) (wakes_of (t + gap + gap) gap n entry needed ++ rest)
    (rises_later s t (t + gap) (omega arith) (omega arith)) (not_short es margin s ends t (t + gap) entry needed long)

-- a run with a wake-up begins with that
pub run_first : (first step count entry needed : ℕ) → 0 < count → wakes_of first step count entry needed ≡ record { at = first; entry = entry; needed = needed } ∷ wakes_of (first + step) step (count - 1) entry needed
unfolding wakes_of
run_first first step zero entry needed some = absurd (omega arith)
run_first first step (suc n) entry needed some = ap (λ m. record { at = first; entry = entry; needed = needed } ∷ wakes_of (first + step) step m entry needed) (let e : n ≡ suc n - 1 = omega arith in e)

-- all n wake-ups that follow are forced
pub walks_all :
    (es : List Entry) (margin s : ℕ) (ends : ℕ → ℕ) (entry needed gap top : ℕ) → Going es margin s ends entry needed gap top → (n t k : ℕ) (rest : List Force) →
    s ≤ t → latest_end (entry_at es entry) (ends entry) (Some t) ≤ t + gap + margin → t + n * gap < top + gap →
    fault es margin s ends (Some t) k (wakes_of (t + gap) gap n entry needed ++ rest) ≡ fault es margin s ends (Some (t + n * gap)) (k + n) rest
unfolding wakes_of
walks_all es margin s ends entry needed gap top going n t k rest start due low =
    walks es margin s ends entry needed gap top going n n 0 t (t + n * gap) k (k + n) rest (omega arith) refl refl start due (inr low)

-- q of them are, and the next is not
pub walks_into :
    (es : List Entry) (margin s : ℕ) (ends : ℕ → ℕ) (entry needed gap top : ℕ) → Going es margin s ends entry needed gap top → (q n t k : ℕ) (rest : List Force) →
    s ≤ t → latest_end (entry_at es entry) (ends entry) (Some t) ≤ t + gap + margin → (q ≡ 0) ⊎ (t + q * gap < top + gap) → q < n →
    (entry_at es needed).need ≤ latest_end (entry_at es entry) (ends entry) (Some (t + q * gap)) →
    fault es margin s ends (Some t) k (wakes_of (t + gap) gap n entry needed ++ rest) ≡ Some (NotForced (k + q))
walks_into es margin s ends entry needed gap top going q n t k rest start due low some long =
    walks es margin s ends entry needed gap top going q n (n - q) t (t + q * gap) k (k + q) rest (omega arith) refl refl start due low
    ∙ is_long es margin s ends entry needed gap (t + q * gap) (k + q) (n - q) rest (omega arith) going.apart (omega arith) long

-- what a walk finds after a first wake-up that rises and is forced, it finds
pub found_behind :
    (g : Forest) (s : ℕ) (prev : Option ℕ) (k : ℕ) (w : Force) (us : List Force) (last k' : ℕ) (found : Option Cause) → rises s prev w.at ≡ true →
    is_forced g.entries g.margin s (end_of g.entries) prev w.at w.entry w.needed ≡ true → WalkFinds g s (Some w.at) (k + 1) us last k' found → WalkFinds g s prev k (w ∷ us) last k' found
found_behind g s prev k w us last k' None yes' forced finds = λ rest. goes_on g.entries g.margin s (end_of g.entries) prev k w (us ++ rest) yes' forced ∙ finds rest
found_behind g s prev k w us last k' (Some cause) yes' forced finds = λ rest. goes_on g.entries g.margin s (end_of g.entries) prev k w (us ++ rest) yes' forced ∙ finds rest
