-- No plan at some moments leads an end past that of the entry asked by itself at each of them.
use Rattle.std.proofs.Common.{◌≡◌, ℕ, ◌+◌, ◌<◌, ◌≤◌, true, List, [], ◌∷◌, Option, max, sym, ap, ◌∙◌, subst, arith, inl, inr}
use Rattle.std.proofs.lemmas.Bool.{cases_Bool, cases_lt, cond-false}
use Rattle.plan_forest.specs.{declared.entry.Entry.Entry, Forest.entry_at, Over.Over}
use Rattle.plan_forest.specs.Renewal.{is_granted, renewal, renewed}
use Rattle.plan_rule.specs.{Ends.ends_after, Ends.ends_after_wake_up, Keeps.ends_at}
use Rattle.plan_rule.specs.Asks.{asking, first_of, is_to_be_asked, with_asks}
use Rattle.plan_rule.proofs.{Asking.asked_end, Keeping.IsRising, Stuck.IsStuck, Stuck.granted_parts, Covering.after_unwanted, Covering.after_wanted, Timely.asks_rise, Walk.ends_from, Walk.ends_unchanged}
use Rattle.plan_check.specs.Kept.{KeptTo, own_after, own_end}
use Rattle.plan_check.proofs.OwnEnds.{own_late, own_least, own_stuck, own_yes}

-- From kept to own ends: no plan with these moments leads an end past the own end.

abbrev StuckAt : List Entry → ℕ → ℕ → ℕ → List ℕ → Type 0
StuckAt es margin i b [] = Unit {0}
StuckAt es margin i b (t ∷ ts) = IsStuck es margin i b t × StuckAt es margin i b ts

own_holds : (es : List Entry) (margin i end low : ℕ) (ts : List ℕ) → IsRising low ts → StuckAt es margin i (own_end (entry_at es i) margin end ts) ts
unfolding own_end
own_holds es margin i end low [] rising = tt
own_holds es margin i end low (t ∷ ts) rising =
    let e = entry_at es i in
    let now = own_after e margin end t in
    let last = own_end e margin now ts in
    let here : IsStuck es margin i last t = elim (cases_Bool e.renewable) [
      | inr fixed ↦ inl fixed
      | inl renewable ↦ elim (cases_lt end (t + margin)) [
        | inl late ↦
            let stays : last ≡ end = ap (λ n. own_end e margin n ts) (own_late e margin end t late) ∙ own_stuck e margin end t ts rising.1 late in
            inr (inl (omega (arith, stays)))
        | inr near ↦
            let is = own_yes e margin end t renewable near in
            let least = own_least e margin now ts in
            inr (inr (omega (arith, is, least)))
      ]
    ] in
    (here, own_holds es margin i now t ts rising.1)

-- what the Asks ask is granted
wanted_granted : (es : List Entry) (margin s : ℕ) (e : ℕ → ℕ) (t : ℕ) (next : Option ℕ) (a : ℕ) → is_to_be_asked es margin s e t next a ≡ true → is_granted es margin e t a ≡ true
unfolding renewed
wanted_granted es margin s e t next a wanted =
    let new = asked_end es margin s e t next a wanted in
    elim (cases_Bool (is_granted es margin e t a)) [
      | inl granted ↦ granted
      | inr refused ↦ absurd (let same = cond-false (is_granted es margin e t a) (renewal (entry_at es a) t) (e a) refused in let is = new.0 in let more = new.1 in omega (arith, same, is))
    ]

round_below : (es : List Entry) (margin s : ℕ) (e : ℕ → ℕ) (t : ℕ) (next : Option ℕ) (a b : ℕ) → e a ≤ b → IsStuck es margin a b t → ends_after_wake_up es margin e (asking es margin s e t next) a ≤ b
round_below es margin s e t next a b below stuck =
    elim (cases_Bool (is_to_be_asked es margin s e t next a)) [
      | inr unwanted ↦ let is = after_unwanted es margin s e t next a unwanted in omega arith
      | inl wanted ↦
          let is = after_wanted es margin s e t next a wanted in
          let granted = granted_parts es margin e t a (wanted_granted es margin s e t next a wanted) in
          let near : t + margin ≤ e a = granted.1 in
          let renewable = granted.0 in
          elim stuck [
            | inl fixed ↦ absurd cc
            | inr other ↦ elim other [ inl late ↦ absurd (omega arith) | inr small ↦ omega arith ]
          ]
    ]

-- so no end passes a bound at which the moments find it stuck
asks_below :
    (es : List Entry) (margin s a b : ℕ) (ts : List ℕ) (e : ℕ → ℕ) (low : ℕ) → IsRising low ts → e a ≤ b → StuckAt es margin a b ts → (m : ℕ) → ends_at es margin e (with_asks es margin s e ts) m a ≤ b
unfolding with_asks ends_at ends_after
asks_below es margin s a b [] e low rising below stuck m = below
asks_below es margin s a b (t ∷ ts) e low rising below stuck m =
    let w = asking es margin s e t (first_of ts) in
    let rest = with_asks es margin s (ends_after_wake_up es margin e w) ts in
    elim (cases_lt m t) [
      | inl before ↦ subst (λ (f : ℕ → ℕ). f a ≤ b) (sym (ends_unchanged es margin t m e (w ∷ rest) (asks_rise es margin s e t ts rising.1) before)) below
      | inr due ↦
          subst (λ (f : ℕ → ℕ). f a ≤ b) (sym (ends_from es margin e m w rest due))
          (asks_below es margin s a b ts (ends_after_wake_up es margin e w) t rising.1 (round_below es margin s e t (first_of ts) a b below stuck.0) stuck.1 m)
    ]

pub kept_lasts :
    (es : List Entry) (margin s : ℕ) (ends : ℕ → ℕ) (ts : List ℕ) → IsRising s ts → (i n : ℕ) → s < n → KeptTo es margin s ends (with_asks es margin s ends ts) i n →
    (a : ℕ) → Over es a i → n ≤ own_end (entry_at es a) margin (ends a) ts
kept_lasts es margin s ends ts rising i n later kept a over =
    let b = own_end (entry_at es a) margin (ends a) ts in
    elim (cases_lt b n) [
      | inr lasts ↦ lasts
      | inl short ↦
          let m = max s b in
          let past : m < ends_at es margin ends (with_asks es margin s ends ts) m a = kept m (omega arith) (omega arith) a over in
          let low = asks_below es margin s a b ts ends s rising (own_least (entry_at es a) margin (ends a) ts) (own_holds es margin a (ends a) s ts rising) m in
          absurd (omega arith)
    ]
