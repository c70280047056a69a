-- An end that cannot pass a bound: under wake-ups that come too late for it, or give no more than it, it stays below.
use Rattle.std.proofs.Common.{◌≡◌, ℕ, ◌+◌, ◌<◌, ◌≤◌, ◌⊎◌, Bool, true, false, cond, List, [], ◌∷◌, filter, max, nat_le, sym, subst, arith, inl, inr}
use Rattle.std.proofs.lemmas.{Bool.and_parts, Bool.cases_Bool, Bool.cases_lt, Bool.cond-true, Bool.cond-false, Bool.Decides.nat_tests}
use Rattle.plan_forest.specs.{declared.entry.Entry.Entry, Forest.entry_at, Over.Over, Renewal.all_last, Renewal.is_granted, Renewal.renewal, Renewal.renewed}
use Rattle.plan_forest.proofs.Chains.{all_last_head}
use Rattle.plan_rule.specs.{declared.wake.Wake.Wake, Ends.ends_after, Ends.ends_after_wake_up, Ends.is_asked, Keeps.Keeps, Keeps.ends_at}

-- a wake-up at t leads no end of i that is at most b past b
abbrev pub IsStuck : List Entry → ℕ → ℕ → ℕ → ℕ → Type 0
IsStuck es margin i b t = ((entry_at es i).renewable ≡ false) ⊎ ((b < t + margin) ⊎ (renewal (entry_at es i) t ≤ b))

abbrev pub AllStuck : List Entry → ℕ → ℕ → ℕ → List Wake → Type 0
AllStuck es margin i b [] = Unit {0}
AllStuck es margin i b (w ∷ ws) = IsStuck es margin i b w.at × AllStuck es margin i b ws

-- a request that is granted finds the end at the margin or later, on an entry that is renewable
pub granted_parts : (es : List Entry) (margin : ℕ) (ends : ℕ → ℕ) (t i : ℕ) → is_granted es margin ends t i ≡ true → ((entry_at es i).renewable ≡ true) × (t + margin ≤ ends i)
unfolding is_granted
granted_parts es margin ends t i granted =
    let parts = and_parts (entry_at es i).renewable (all_last es ends (t + margin) i) granted in (
      parts.0,
      elim (cases_lt (ends i) (t + margin)) [
        | inl early ↦ absurd (
            let short : nat_le (t + margin) (ends i) ≡ false = grind (arith, nat_tests) in
            let none : all_last es ends (t + margin) i ≡ false = all_last_head es ends (t + margin) i short in
            cc)
        | inr last ↦ last
      ],
    )

renewed_below : (es : List Entry) (margin : ℕ) (ends : ℕ → ℕ) (t i b : ℕ) → ends i ≤ b → IsStuck es margin i b t → renewed es margin ends t i ≤ b
unfolding renewed
renewed_below es margin ends t i b below stuck =
    elim (cases_Bool (is_granted es margin ends t i)) [
      | inl granted ↦
          let parts = granted_parts es margin ends t i granted in
          let new : renewal (entry_at es i) t ≤ b = elim stuck [
            | inl fixed ↦ absurd (let yes' = parts.0 in cc)
            | inr other ↦ elim other [ inl late ↦ absurd (omega (arith, parts.1)) | inr small ↦ small ]
          ] in
          subst (λ n. n ≤ b) (sym (cond-true (is_granted es margin ends t i) (renewal (entry_at es i) t) (ends i) granted)) new
      | inr refused ↦ subst (λ n. n ≤ b) (sym (cond-false (is_granted es margin ends t i) (renewal (entry_at es i) t) (ends i) refused)) below
    ]

after_below : (es : List Entry) (margin : ℕ) (ends : ℕ → ℕ) (w : Wake) (i b : ℕ) → ends i ≤ b → IsStuck es margin i b w.at → ends_after_wake_up es margin ends w i ≤ b
unfolding ends_after_wake_up
after_below es margin ends w i b below stuck =
    elim (cases_Bool (is_asked w i)) [
      | inl asked ↦ subst (λ n. n ≤ b) (sym (cond-true (is_asked w i) (renewed es margin ends w.at i) (ends i) asked)) (renewed_below es margin ends w.at i b below stuck)
      | inr other ↦ subst (λ n. n ≤ b) (sym (cond-false (is_asked w i) (renewed es margin ends w.at i) (ends i) other)) below
    ]

stays_below : (es : List Entry) (margin : ℕ) (ends : ℕ → ℕ) (ws : List Wake) (i b : ℕ) → ends i ≤ b → AllStuck es margin i b ws → ends_after es margin ends ws i ≤ b
unfolding ends_after
stays_below es margin ends [] i b below stuck = below
stays_below es margin ends (w ∷ ws) i b below stuck = stays_below es margin (ends_after_wake_up es margin ends w) ws i b (after_below es margin ends w i b below stuck.0) stuck.1

either_stuck : (es : List Entry) (margin i b : ℕ) (w : Wake) (ws : List Wake) (due : Bool) → IsStuck es margin i b w.at → AllStuck es margin i b ws → AllStuck es margin i b (cond due (w ∷ ws) ws)
either_stuck es margin i b w ws true here rest = (here, rest)
either_stuck es margin i b w ws false here rest = rest

filtered_stuck : (es : List Entry) (margin i b m : ℕ) (ws : List Wake) → AllStuck es margin i b ws → AllStuck es margin i b (filter (λ w. nat_le w.at m) ws)
filtered_stuck es margin i b m [] stuck = tt
filtered_stuck es margin i b m (w ∷ ws) stuck = either_stuck es margin i b w (filter (λ x. nat_le x.at m) ws) (nat_le w.at m) stuck.0 (filtered_stuck es margin i b m ws stuck.1)

-- a plan does not keep under which an end stays below a need that the entry is to outlast
pub gone :
    (es : List Entry) (margin s : ℕ) (ends : ℕ → ℕ) (ws : List Wake) (i f b : ℕ) → Over es i f → s < (entry_at es f).need → b < (entry_at es f).need →
    ends i ≤ b → AllStuck es margin i b ws → Keeps es margin s ends ws → ⊥
unfolding ends_at
gone es margin s ends ws i f b over later short below stuck keeps =
    let m = max s b in
    let past : m < ends_at es margin ends ws m i = keeps f m (omega arith) (omega arith) i over in
    let low : ends_at es margin ends ws m i ≤ b = stays_below es margin ends (filter (λ w. nat_le w.at m) ws) i b below (filtered_stuck es margin i b m ws stuck) in
    omega arith
