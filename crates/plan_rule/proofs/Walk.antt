-- A walk over the wake-ups: what is left to keep goes wake-up by wake-up.
use Rattle.std.proofs.Common.{◌≡◌, ℕ, ◌+◌, ◌<◌, ◌≤◌, ◌↔◌, ◌&&◌, Bool, true, false, cond, List, [], ◌∷◌, Option, Some, None, length, filter, is_some, nat_le, nat_lt, refl, sym, ap, ◌∙◌, subst, arith, inl, inr, IsTrue}
use Rattle.std.proofs.lemmas.{Bool.and_from, Bool.and_parts, Bool.cases_lt, Bool.Decides.nat_tests}
use Rattle.base_moment.specs.declared.moment.TheConstants.{LAST}
use Rattle.plan_forest.specs.{declared.entry.Entry.Entry, Forest.entry_at}
use Rattle.plan_rule.specs.{declared.wake.Wake.Wake, declared.wake.WakeFault.WakeFault, declared.wake.WakeFault.TheVariants.BeforeStart, declared.wake.WakeFault.TheVariants.Unordered, declared.wake.WakeFault.TheVariants.BadIndex}
use Rattle.plan_rule.specs.{Ends.ends_after, Ends.ends_after_wake_up, Keeps.Keeps, Keeps.ends_at, Plans.asks_past, Plans.fault_from, Plans.first_some, Plans.moments, Plans.wake_fault, Plans.wake_fault_at, code.Replay.KeptBetween}
use Rattle.plan_rule.proofs.Keeping.{IsRising}

-- wake-ups in order from s on, that ask no index past n entries
abbrev pub Rises : ℕ → ℕ → List Wake → Type 0
Rises n s [] = Unit {0}
Rises n s (w ∷ ws) = (s ≤ w.at) × ((asks_past n w.asked ≡ false) × Rises n w.at ws)

none_first : (a b : Option WakeFault) → first_some a b ≡ None → (a ≡ None) × (b ≡ None)
none_first None b e = (refl, e)
none_first (Some x) b e = absurd cc

pub first_some_none : (a b : Option WakeFault) → is_some a ≡ false → first_some a b ≡ b
first_some_none None b e = refl
first_some_none (Some x) b e = absurd cc

pub first_some_some : (a b : Option WakeFault) → is_some a ≡ true → first_some a b ≡ a
first_some_some None b e = absurd cc
first_some_some (Some x) b e = refl

no_fault_at : (n s prev k : ℕ) (w : Wake) → wake_fault_at n s prev k w ≡ None → (prev ≤ w.at) × (asks_past n w.asked ≡ false)
unfolding wake_fault_at
no_fault_at n s prev k w e = tests (nat_lt w.at s) (nat_lt w.at prev) (asks_past n w.asked) refl e where
  tests : (a b c : Bool) → nat_lt w.at prev ≡ b → cond a (Some (BeforeStart k)) (cond b (Some (Unordered k)) (cond c (Some (BadIndex k)) None)) ≡ None → (prev ≤ w.at) × (c ≡ false)
  tests true b c same none = absurd cc
  tests false true c same none = absurd cc
  tests false false true same none = absurd cc
  tests false false false same none = (grind (arith, nat_tests), refl)

rises_from : (n s prev k : ℕ) (ws : List Wake) → fault_from n s prev k ws ≡ None → Rises n prev ws
unfolding fault_from
rises_from n s prev k [] e = tt
rises_from n s prev k (w ∷ ws) e =
    let parts = none_first (wake_fault_at n s prev k w) (fault_from n s w.at (k + 1) ws) e in
    let here = no_fault_at n s prev k w parts.0 in
    (here.0, (here.1, rises_from n s w.at (k + 1) ws parts.1))

pub rises : (es : List Entry) (s : ℕ) (ws : List Wake) → wake_fault es s ws ≡ None → Rises (length es) s ws
unfolding wake_fault
rises es s ws e = rises_from (length es) s s 1 ws e

pub fault_from_nil : (n s prev k : ℕ) → fault_from n s prev k [] ≡ None
unfolding fault_from
fault_from_nil n s prev k = refl

pub fault_from_cons : (n s prev k : ℕ) (w : Wake) (ws : List Wake) → fault_from n s prev k (w ∷ ws) ≡ first_some (wake_fault_at n s prev k w) (fault_from n s w.at (k + 1) ws)
unfolding fault_from
fault_from_cons n s prev k w ws = refl

pub ends_after_nil : (es : List Entry) (margin : ℕ) (ends : ℕ → ℕ) → ends_after es margin ends [] ≡ ends
unfolding ends_after
ends_after_nil es margin ends = refl

pub ends_after_cons : (es : List Entry) (margin : ℕ) (ends : ℕ → ℕ) (w : Wake) (ws : List Wake) → ends_after es margin ends (w ∷ ws) ≡ ends_after es margin (ends_after_wake_up es margin ends w) ws
unfolding ends_after
ends_after_cons es margin ends w ws = refl

rises_rising : (n s : ℕ) (ws : List Wake) → Rises n s ws → IsRising s (moments ws)
rises_rising n s [] r = tt
rises_rising n s (w ∷ ws) r = (r.0, rises_rising n w.at ws r.1.1)

-- before the first wake-up no end has changed
none_yet : (from m : ℕ) (ws : List Wake) → IsRising from (moments ws) → m < from → filter (λ w. nat_le w.at m) ws ≡ []
none_yet from m [] rising h = refl
none_yet from m (w ∷ ws) rising h =
    let l : from ≤ w.at = rising.0 in
    let late : nat_le w.at m ≡ false = grind (arith, nat_tests) in
    ap (λ b. cond b (w ∷ filter (λ x. nat_le x.at m) ws) (filter (λ x. nat_le x.at m) ws)) late ∙ none_yet w.at m ws rising.1 (omega arith)

pub ends_unchanged : (es : List Entry) (margin from m : ℕ) (e : ℕ → ℕ) (ws : List Wake) → IsRising from (moments ws) → m < from → ends_at es margin e ws m ≡ e
unfolding ends_at ends_after
ends_unchanged es margin from m e ws rising h = ap (ends_after es margin e) (none_yet from m ws rising h)

ends_before : (es : List Entry) (margin : ℕ) (ends : ℕ → ℕ) (n m : ℕ) (w : Wake) (ws : List Wake) → Rises n w.at ws → m < w.at → ends_at es margin ends (w ∷ ws) m ≡ ends
ends_before es margin ends n m w ws r h = ends_unchanged es margin w.at m ends (w ∷ ws) (omega arith, rises_rising n w.at ws r) h

pub ends_from : (es : List Entry) (margin : ℕ) (ends : ℕ → ℕ) (m : ℕ) (w : Wake) (ws : List Wake) → w.at ≤ m → ends_at es margin ends (w ∷ ws) m ≡ ends_at es margin (ends_after_wake_up es margin ends w) ws m
unfolding ends_at ends_after
ends_from es margin ends m w ws h =
    let due : nat_le w.at m ≡ true = grind (arith, nat_tests) in
    ap (ends_after es margin ends) (ap (λ b. cond b (w ∷ filter (λ x. nat_le x.at m) ws) (filter (λ x. nat_le x.at m) ws)) due)

ends_at_nil : (es : List Entry) (margin : ℕ) (ends : ℕ → ℕ) (m : ℕ) → ends_at es margin ends [] m ≡ ends
unfolding ends_at ends_after
ends_at_nil es margin ends m = refl

-- a plan keeps where its entries live until its first wake-up, and the rest of it keeps from there
pub keeps_cons :
    (es : List Entry) (margin s n : ℕ) (ends : ℕ → ℕ) (w : Wake) (ws : List Wake) → Rises n s (w ∷ ws) →
    (KeptBetween es ends s w.at × Keeps es margin w.at (ends_after_wake_up es margin ends w) ws) ↔ Keeps es margin s ends (w ∷ ws)
keeps_cons es margin s n ends w ws r = (
  λ parts i m from need a over.
      elim (cases_lt m w.at) [
        | inl before ↦ subst (λ (f : ℕ → ℕ). m < f a) (sym (ends_before es margin ends n m w ws r.1.1 before)) (parts.0 i m from before need a over)
        | inr due ↦ subst (λ (f : ℕ → ℕ). m < f a) (sym (ends_from es margin ends m w ws due)) (parts.1 i m due need a over)
      ],
  λ keeps. (
    λ i m from before need a over. subst (λ (f : ℕ → ℕ). m < f a) (ends_before es margin ends n m w ws r.1.1 before) (keeps i m from need a over),
    λ i m due need a over. let l : s ≤ w.at = r.0 in subst (λ (f : ℕ → ℕ). m < f a) (ends_from es margin ends m w ws due) (keeps i m (omega arith) need a over),
  ),
)

-- and after the last wake-up where they live until their needs, which are at most LAST
pub keeps_nil :
    (es : List Entry) (margin s : ℕ) (ends : ℕ → ℕ) → ((i : ℕ) → (entry_at es i).need ≤ LAST) → KeptBetween es ends s (LAST + 1) ↔ Keeps es margin s ends []
keeps_nil es margin s ends needs = (
  λ kept i m from need a over.
      let l : (entry_at es i).need ≤ LAST = needs i in
      subst (λ (f : ℕ → ℕ). m < f a) (sym (ends_at_nil es margin ends m)) (kept i m from (omega arith) need a over),
  λ keeps i m from before need a over. subst (λ (f : ℕ → ℕ). m < f a) (ends_at_nil es margin ends m) (keeps i m from need a over),
)

-- for the loop of `keeps`: what was kept so far, and what is left to keep, are together what is to be shown
pub kept_first : (es : List Entry) (margin s from : ℕ) (ends present : ℕ → ℕ) (ws : List Wake) → from ≡ s → ends ≡ present → (IsTrue true × Keeps es margin from ends ws) ↔ Keeps es margin s present ws
kept_first es margin s from ends present ws start same = (
  λ kept. subst (λ n. Keeps es margin n present ws) start (subst (λ f. Keeps es margin from f ws) same kept.1),
  λ kept. (refl, subst (λ f. Keeps es margin from f ws) (sym same) (subst (λ n. Keeps es margin n present ws) (sym start) kept)),
)

pub kept_more :
    (es : List Entry) (margin n from : ℕ) (ends : ℕ → ℕ) (w : Wake) (ws : List Wake) (kept here : Bool) (P : Type 0) → Rises n from (w ∷ ws) → IsTrue here ↔ KeptBetween es ends from w.at →
    (IsTrue kept × Keeps es margin from ends (w ∷ ws)) ↔ P → (IsTrue (kept && here) × Keeps es margin w.at (ends_after_wake_up es margin ends w) ws) ↔ P
kept_more es margin n from ends w ws kept here P r between whole =
    let walk = keeps_cons es margin from n ends w ws r in (
      λ h. let k = and_parts kept here h.0 in whole.0 (k.0, walk.0 (between.0 k.1, h.1)),
      λ p. let k = whole.1 p in let h = walk.1 k.1 in (and_from kept here k.0 (between.1 h.0), h.1),
    )

pub kept_last :
    (es : List Entry) (margin from : ℕ) (ends : ℕ → ℕ) (kept here : Bool) (P : Type 0) → ((i : ℕ) → (entry_at es i).need ≤ LAST) → IsTrue here ↔ KeptBetween es ends from (LAST + 1) →
    (IsTrue kept × Keeps es margin from ends []) ↔ P → IsTrue (kept && here) ↔ P
kept_last es margin from ends kept here P needs between whole =
    let walk = keeps_nil es margin from ends needs in (
      λ h. let k = and_parts kept here h in whole.0 (k.0, walk.0 (between.0 k.1)),
      λ p. let k = whole.1 p in and_from kept here k.0 (between.1 (walk.1 k.1)),
    )
