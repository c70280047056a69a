-- What the Asks of a wake-up hand on: over entries with all that are over them, and a need for each, ends that cover the needs
-- until a moment cover them, after its Asks, until the next.
use Rattle.std.proofs.Common.{◌≡◌, ℕ, ◌+◌, ◌<◌, ◌≤◌, ◌⊎◌, ◌&&◌, Bool, true, false, cond, List, Option, Some, max, nat_lt, refl, sym, ap, ◌∙◌, subst, arith, inl, inr}
use Rattle.std.proofs.lemmas.{Bool.cases_Bool, Bool.cond-true, Bool.cond-false, Bool.Decides.nat_tests}
use Rattle.plan_forest.specs.{declared.entry.Entry.Entry, Carried.carried, Forest.entry_at, Over.Over, Renewal.all_last, Renewal.is_granted, Renewal.renewal, Renewal.renewed}
use Rattle.plan_rule.specs.{Asks.asking, Asks.is_end_due, Asks.is_to_be_asked, Ends.ends_after_wake_up, Ends.is_asked, Forced.bound, Forced.latest_end}
use Rattle.plan_rule.proofs.Asking.{Covers, asked_end, asks_wanted, covers_more, covers_need, covers_not_due, short_over}

pub bound_at_most : (es : List Entry) (ends : ℕ → ℕ) (t i m : ℕ) → ends i ≤ m → renewal (entry_at es i) t ≤ m → bound es ends (Some t) i ≤ m
unfolding bound latest_end
bound_at_most es ends t i m end new = by_test (entry_at es i).renewable (ends i) (renewal (entry_at es i) t) end new where
  by_test : (b : Bool) (x y : ℕ) → x ≤ m → y ≤ m → cond b (max x y) x ≤ m
  by_test true x y p q = omega arith
  by_test false x y p q = p

pub bound_fixed : (es : List Entry) (ends : ℕ → ℕ) (t i : ℕ) → (entry_at es i).renewable ≡ false → bound es ends (Some t) i ≡ ends i
unfolding bound latest_end
bound_fixed es ends t i fixed = cond-false (entry_at es i).renewable (max (ends i) (renewal (entry_at es i) t)) (ends i) fixed

-- the ends after a wake-up with its Asks
pub after_wanted : (es : List Entry) (margin s : ℕ) (e : ℕ → ℕ) (t : ℕ) (next : Option ℕ) (i : ℕ) → is_to_be_asked es margin s e t next i ≡ true → ends_after_wake_up es margin e (asking es margin s e t next) i ≡ renewal (entry_at es i) t
unfolding ends_after_wake_up
after_wanted es margin s e t next i wanted =
    cond-true (is_asked (asking es margin s e t next) i) (renewed es margin e t i) (e i) (asks_wanted es margin s e t next i ∙ wanted) ∙ (asked_end es margin s e t next i wanted).0

pub after_unwanted : (es : List Entry) (margin s : ℕ) (e : ℕ → ℕ) (t : ℕ) (next : Option ℕ) (i : ℕ) → is_to_be_asked es margin s e t next i ≡ false → ends_after_wake_up es margin e (asking es margin s e t next) i ≡ e i
unfolding ends_after_wake_up
after_unwanted es margin s e t next i unwanted = cond-false (is_asked (asking es margin s e t next) i) (renewed es margin e t i) (e i) (asks_wanted es margin s e t next i ∙ unwanted)

-- no end falls under the Asks
pub asks_grow : (es : List Entry) (margin s : ℕ) (e : ℕ → ℕ) (t : ℕ) (next : Option ℕ) (i : ℕ) → e i ≤ ends_after_wake_up es margin e (asking es margin s e t next) i
asks_grow es margin s e t next i =
    elim (cases_Bool (is_to_be_asked es margin s e t next i)) [
      | inl wanted ↦ let is = after_wanted es margin s e t next i wanted in let later = (asked_end es margin s e t next i wanted).1 in omega arith
      | inr unwanted ↦ let is = after_unwanted es margin s e t next i unwanted in omega arith
    ]

-- ---- a set of entries and their needs

-- with an entry all that are over it, none of which has a lesser need; and no need is greater than what its entry carries
pub record IsNeeded (es : List Entry) (s : ℕ) (P : ℕ → Type 0) (need : ℕ → ℕ) : Type 0 where
  pub up : (a i : ℕ) → P i → Over es a i → P a
  pub more : (a i : ℕ) → P i → Over es a i → need i ≤ need a
  pub carries : (i : ℕ) → P i → need i ≤ carried es s i

-- each of them has an end that covers its need
abbrev pub CoversAll : (ℕ → Type 0) → (ℕ → ℕ) → ℕ → (ℕ → ℕ) → Option ℕ → Type 0
CoversAll P need margin e next = (i : ℕ) → P i → Covers margin next (need i) (e i)

-- a test of five that fails, fails at one of them
fails_at : (a b c d e : Bool) (P : Type 0) → a && (b && (c && (d && e))) ≡ false → (a ≡ false → P) → (b ≡ false → P) → (c ≡ false → P) → (d ≡ false → P) → (e ≡ false → P) → P
fails_at false b c d e P h p q r s t = p refl
fails_at true false c d e P h p q r s t = q refl
fails_at true true false d e P h p q r s t = r refl
fails_at true true true false e P h p q r s t = s refl
fails_at true true true true e P h p q r s t = t h

module _ (es : List Entry) (margin s : ℕ) (above : 0 < margin) (P : ℕ → Type 0) (need : ℕ → ℕ) (set : IsNeeded es s P need) where
  -- where an end over an entry comes too soon for a renewal at t, the entry lasts until its need
  lasts_under : (t : ℕ) (e : ℕ → ℕ) → CoversAll P need margin e (Some t) → (a i : ℕ) → P i → Over es a i → e a < t + margin → need i ≤ e i
  lasts_under t e safe a i here over short =
      let more = set.more a i here over in
      elim (safe a (set.up a i here over)) [
        | inl lasts ↦ elim (safe i here) [ inl so ↦ so | inr granted ↦ omega (arith, more) ]
        | inr granted ↦ absurd (omega arith)
      ]

  -- an end that a request at t would not make later is at least the bound that t leaves, or lasts until the need
  no_gain :
      (ends e : ℕ → ℕ) → ((i : ℕ) → ends i ≤ e i) → (t : ℕ) → CoversAll P need margin e (Some t) →
      (i : ℕ) → P i → nat_lt (e i) (renewed es margin e t i) ≡ false → (bound es ends (Some t) i ≤ e i) ⊎ (need i ≤ e i)
  unfolding renewed is_granted
  no_gain ends e grown t safe i here none =
      let less : renewed es margin e t i ≤ e i = grind (arith, nat_tests) in
      let from : ends i ≤ e i = grown i in
      elim (cases_Bool (entry_at es i).renewable) [
        | inr fixed ↦ inl (let is = bound_fixed es ends t i fixed in omega arith)
        | inl renewable ↦ elim (cases_Bool (all_last es e (t + margin) i)) [
          | inl all ↦
              let granted : (entry_at es i).renewable && all_last es e (t + margin) i ≡ true = ap (λ b. b && all_last es e (t + margin) i) renewable ∙ all in
              let is = cond-true ((entry_at es i).renewable && all_last es e (t + margin) i) (renewal (entry_at es i) t) (e i) granted in
              inl (bound_at_most es ends t i (e i) from (subst (λ n. n ≤ e i) is less))
          | inr not_all ↦
              let short = short_over es e (t + margin) i not_all in
              inr (lasts_under t e safe short.0 i here short.1 short.2)
        ]
      ]

  -- an entry that the Asks leave out is covered without a renewal
  still_covered :
      (ends e : ℕ → ℕ) → ((i : ℕ) → ends i ≤ e i) → (t : ℕ) (next : Option ℕ) →
      CoversAll P need margin e (Some t) → CoversAll P need margin (bound es ends (Some t)) next →
      (i : ℕ) → P i → is_to_be_asked es margin s e t next i ≡ false → Covers margin next (need i) (e i)
  unfolding is_to_be_asked
  still_covered ends e grown t next safe bounds i here unwanted =
      fails_at (entry_at es i).renewable (all_last es e (t + 1) i) (nat_lt (e i) (carried es s i)) (nat_lt (e i) (renewed es margin e t i)) (is_end_due margin next (e i))
      (Covers margin next (need i) (e i)) unwanted
      (λ fixed.
      let is = bound_fixed es ends t i fixed in
      let from : ends i ≤ e i = grown i in
      covers_more margin next (need i) (bound es ends (Some t) i) (e i) (omega arith) (bounds i here))
      (λ gone.
      let short = short_over es e (t + 1) i gone in
      covers_need margin next (need i) (e i) (lasts_under t e safe short.0 i here short.1 (omega (arith, short.2))))
      (λ lasts.
      let carries = set.carries i here in
      let last : carried es s i ≤ e i = grind (arith, nat_tests) in
      covers_need margin next (need i) (e i) (omega arith))
      (λ none. elim (no_gain ends e grown t safe i here none) [
        | inl high ↦ covers_more margin next (need i) (bound es ends (Some t) i) (e i) high (bounds i here)
        | inr lasts ↦ covers_need margin next (need i) (e i) lasts
      ])
      (λ waits. covers_not_due margin next (need i) (e i) waits)

  -- ends that cover until t do, after its Asks, cover until the next moment, where the bounds that t leaves do
  pub round_covers :
      (ends e : ℕ → ℕ) → ((i : ℕ) → ends i ≤ e i) → (t : ℕ) (next : Option ℕ) →
      CoversAll P need margin e (Some t) → CoversAll P need margin (bound es ends (Some t)) next →
      CoversAll P need margin (ends_after_wake_up es margin e (asking es margin s e t next)) next
  round_covers ends e grown t next safe bounds i here =
      elim (cases_Bool (is_to_be_asked es margin s e t next i)) [
        | inl wanted ↦
            let is = after_wanted es margin s e t next i wanted in
            let later = (asked_end es margin s e t next i wanted).1 in
            let from : ends i ≤ e i = grown i in
            let high = bound_at_most es ends t i (renewal (entry_at es i) t) (omega arith) (omega arith) in
            subst (Covers margin next (need i)) (sym is) (covers_more margin next (need i) (bound es ends (Some t) i) (renewal (entry_at es i) t) high (bounds i here))
        | inr unwanted ↦
            subst (Covers margin next (need i)) (sym (after_unwanted es margin s e t next i unwanted))
            (still_covered ends e grown t next safe bounds i here unwanted)
      ]
