-- No plan that keeps asks an entry less often than the Asks: asking later never gives an earlier end.
use Rattle.std.proofs.Common.{◌≡◌, ℕ, ◌+◌, ◌<◌, ◌≤◌, ◌⊎◌, Bool, true, false, cond, List, [], ◌∷◌, Option, max, nat_lt, refl, ap, ◌∙◌, arith, inl, inr}
use Rattle.std.proofs.lemmas.{Bool.cond-false, Bool.Decides.nat_tests, List.Sums.sum_by-cons}
use Rattle.plan_forest.specs.{declared.entry.Entry.Entry, Carried.carried, Forest.entry_at, Renewal.all_last, Renewal.is_granted, Renewal.renewal, Renewal.renewed}
use Rattle.plan_forest.proofs.{Carrying.and_left, Carrying.and_right, Carrying.carried_is_of, Chains.over_self}
use Rattle.plan_rule.specs.{declared.wake.Wake.Wake, Asks.asking, Asks.first_of, Asks.is_end_due, Asks.is_to_be_asked, Asks.with_asks, Ends.ends_after_wake_up, Ends.is_asked, Keeps.Keeps, LawsOfRounds.FewestTimesLaw}
use Rattle.plan_rule.specs.{Plans.IsPlan, Plans.moments, Requests.times_asked}
use Rattle.plan_rule.proofs.{Alive.alive_from_last, Asking.asked_end, Asking.asks_wanted, Joining.keeps_joined, Keeping.renewal_later, Keeping.stuck_from, Stuck.AllStuck, Stuck.gone}
use Rattle.plan_rule.proofs.{Covering.after_unwanted, Covering.after_wanted, Covering.asks_grow}

pub times_cons : (w : Wake) (ws : List Wake) (i : ℕ) → times_asked (w ∷ ws) i ≡ cond (is_asked w i) 1 0 + times_asked ws i
times_cons w ws i = sum_by-cons (λ v. cond (is_asked v i) 1 0) w ws

-- of an entry that ends at x under the Asks and at y under the plan, and is asked m times by the former and n times by
-- the latter from there on
abbrev Fewer : ℕ → ℕ → ℕ → ℕ → Type 0
Fewer x y m n = (y ≤ x → m ≤ n) × (m ≤ 1 + n)

-- one wake-up more, at which a renewal gives `new`: whether the Asks and the plan ask the entry, and its ends after it
compared :
    (asks plan : Bool) (x y x' y' new m n m' n' : ℕ) → m ≡ cond asks 1 0 + m' → n ≡ cond plan 1 0 + n' →
    (asks ≡ true → (x' ≡ new) × (x < new)) → (asks ≡ false → x' ≡ x) → (plan ≡ false → y' ≡ y) → (y' ≡ new) ⊎ (y' ≡ y) → y ≤ max x new →
    (asks ≡ true → plan ≡ false → y ≤ x → ⊥) → Fewer x' y' m' n' → Fewer x y m n
compared true true x y x' y' new m n m' n' more more' wanted unwanted left either low never rest =
    let k : m ≡ 1 + m' = more in
    let l : n ≡ 1 + n' = more' in
    let here = wanted refl in (
      λ h. let below : y' ≤ x' = elim either [ inl renewed' ↦ omega (arith, here.0) | inr same ↦ omega (arith, here.0, here.1) ] in omega (arith, rest.0 below),
      omega (arith, rest.1),
    )
compared true false x y x' y' new m n m' n' more more' wanted unwanted left either low never rest =
    let k : m ≡ 1 + m' = more in
    let l : n ≡ 0 + n' = more' in
    let here = wanted refl in
    let same = left refl in (
      λ h. absurd (never refl refl h),
      (let below : y' ≤ x' = omega (arith, here.0, here.1) in omega (arith, rest.0 below)),
    )
compared false true x y x' y' new m n m' n' more more' wanted unwanted left either low never rest =
    let k : m ≡ 0 + m' = more in
    let l : n ≡ 1 + n' = more' in
    (λ h. omega (arith, rest.1), omega (arith, rest.1))
compared false false x y x' y' new m n m' n' more more' wanted unwanted left either low never rest =
    let k : m ≡ 0 + m' = more in
    let l : n ≡ 0 + n' = more' in
    let here = unwanted refl in
    let same = left refl in
    (λ h. let below : y' ≤ x' = omega arith in omega (arith, rest.0 below), omega (arith, rest.1))

after_unasked : (es : List Entry) (margin : ℕ) (ends : ℕ → ℕ) (w : Wake) (i : ℕ) → is_asked w i ≡ false → ends_after_wake_up es margin ends w i ≡ ends i
unfolding ends_after_wake_up
after_unasked es margin ends w i e = cond-false (is_asked w i) (renewed es margin ends w.at i) (ends i) e

after_either : (es : List Entry) (margin : ℕ) (ends : ℕ → ℕ) (w : Wake) (i : ℕ) → (ends_after_wake_up es margin ends w i ≡ renewal (entry_at es i) w.at) ⊎ (ends_after_wake_up es margin ends w i ≡ ends i)
unfolding ends_after_wake_up renewed
after_either es margin ends w i = by_tests (is_asked w i) (is_granted es margin ends w.at i) (renewal (entry_at es i) w.at) (ends i) where
  by_tests : (asked granted : Bool) (new old : ℕ) → (cond asked (cond granted new old) old ≡ new) ⊎ (cond asked (cond granted new old) old ≡ old)
  by_tests true true new old = inl refl
  by_tests true false new old = inr refl
  by_tests false granted new old = inr refl

-- what the Asks ask is alive, falls short of what it carries, and cannot wait
wanted_parts : (es : List Entry) (margin s : ℕ) (ends : ℕ → ℕ) (t : ℕ) (next : Option ℕ) (i : ℕ) → is_to_be_asked es margin s ends t next i ≡ true → (t < ends i) × (ends i < carried es s i) × (is_end_due margin next (ends i) ≡ true)
unfolding is_to_be_asked
wanted_parts es margin s ends t next i wanted =
    let lives = and_right (entry_at es i).renewable _ wanted in
    let short = and_right (all_last es ends (t + 1) i) _ lives in
    let gains = and_right (nat_lt (ends i) (carried es s i)) _ short in
    let falls : nat_lt (ends i) (carried es s i) ≡ true = and_left (nat_lt (ends i) (carried es s i)) _ short in (
      alive_from_last es ends t i (and_left (all_last es ends (t + 1) i) _ lives) i (over_self es i),
      grind (arith, nat_tests),
      and_right (nat_lt (ends i) (renewed es margin ends t i)) _ gains,
    )

-- for an end that cannot wait for the next wake-up, all that come are too late
too_late : (es : List Entry) (margin i end t : ℕ) (ws : List Wake) → IsPlan t ws → is_end_due margin (first_of (moments ws)) end ≡ true → AllStuck es margin i end ws
too_late es margin i end t [] plan due = tt
too_late es margin i end t (w ∷ ws) plan due =
    let near : end < w.at + margin = (let test : nat_lt end (w.at + margin) ≡ true = due in grind (arith, nat_tests)) in
    stuck_from es margin w.at i end (λ u h. inr (inl (omega arith))) (w ∷ ws) (omega arith, plan.1)

-- so a plan asks it as well, where it ends no later under the plan
asked_too :
    (es : List Entry) (margin s i : ℕ) (w : Wake) (ws : List Wake) (ends present : ℕ → ℕ) → IsPlan w.at ws → Keeps es margin w.at (ends_after_wake_up es margin present w) ws →
    is_to_be_asked es margin s ends w.at (first_of (moments ws)) i ≡ true → is_asked w i ≡ false → present i ≤ ends i → ⊥
asked_too es margin s i w ws ends present plan keeps wanted unasked below =
    let parts = wanted_parts es margin s ends w.at (first_of (moments ws)) i wanted in
    let needed = carried_is_of es s i (ends i) parts.1 in
    gone es margin w.at (ends_after_wake_up es margin present w) ws i needed.0 (ends i) needed.1 (omega (arith, parts.0, needed.3)) needed.3
    (omega (arith, after_unasked es margin present w i unasked)) (too_late es margin i (ends i) w.at ws plan parts.2) keeps

fewer :
    (es : List Entry) (margin s i : ℕ) (ws : List Wake) (now : ℕ) (ends present : ℕ → ℕ) → IsPlan now ws → Keeps es margin now present ws →
    ((u : ℕ) → now ≤ u → present i ≤ max (ends i) (renewal (entry_at es i) u)) →
    Fewer (ends i) (present i) (times_asked (with_asks es margin s ends (moments ws)) i) (times_asked ws i)
unfolding with_asks
fewer es margin s i [] now ends present plan keeps low = none (ends i) (present i) where
  none : (x y : ℕ) → Fewer x y 0 0
  none x y = (λ h. omega arith, omega arith)
fewer es margin s i (w ∷ ws) now ends present plan keeps low =
    let next = first_of (moments ws) in
    let round = asking es margin s ends w.at next in
    let ends' = ends_after_wake_up es margin ends round in
    let present' = ends_after_wake_up es margin present w in
    let rest = with_asks es margin s ends' (moments ws) in
    let start : now ≤ w.at = plan.0 in
    let grown = asks_grow es margin s ends w.at next i in
    let kept = ((keeps_joined es margin now present w ws plan).1 keeps).1 in
    let either = after_either es margin present w i in
    let low' : (u : ℕ) → w.at ≤ u → present' i ≤ max (ends' i) (renewal (entry_at es i) u) =
    λ u h. elim either [
      | inl new ↦ let l = renewal_later (entry_at es i) w.at u h in omega (arith, new)
      | inr same ↦ let l = low u (omega arith) in omega (arith, same, grown)
    ] in
    compared (is_to_be_asked es margin s ends w.at next i) (is_asked w i) (ends i) (present i) (ends' i) (present' i) (renewal (entry_at es i) w.at)
    (times_asked (round ∷ rest) i) (times_asked (w ∷ ws) i) (times_asked rest i) (times_asked ws i)
    (times_cons round rest i ∙ ap (λ b. cond b 1 0 + times_asked rest i) (asks_wanted es margin s ends w.at next i)) (times_cons w ws i)
    (λ wanted. (after_wanted es margin s ends w.at next i wanted, (asked_end es margin s ends w.at next i wanted).1)) (after_unwanted es margin s ends w.at next i)
    (after_unasked es margin present w i) either (low w.at start)
    (asked_too es margin s i w ws ends present plan.1.1 kept)
    (fewer es margin s i ws w.at ends' present' plan.1.1 kept low')

pub fewest_times : FewestTimesLaw
fewest_times es margin s ends plan in_order keeps i = (fewer es margin s i plan s ends ends in_order keeps (λ u h. omega arith)).0 (omega arith)
