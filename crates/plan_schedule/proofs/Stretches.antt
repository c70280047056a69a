-- Runs of wake-ups: while one entry leads, its wake-ups are its step less the margin apart.
use Rattle.std.proofs.Common.{◌≡◌, ℕ, zero, suc, ◌+◌, ◌-◌, ◌*◌, ◌<◌, ◌≤◌, ◌++◌, max, List, [], ◌∷◌, Some, refl, ap, ◌∙◌, subst, arith}
use Rattle.plan_rule.specs.{declared.force.Force.Force, Runs.wakes_of}
use Rattle.plan_schedule.specs.{Terms.AreLed, Terms.Leads, Terms.Terms, code.Stretches.LeadsAll}
use Rattle.plan_schedule.proofs.Leading.{one_leads, same_force}

tail_leads : (t : Terms) (w d f n : ℕ) → LeadsAll t w d f (suc n) → LeadsAll t (w + d) d f n
tail_leads t w d f n leads k h = subst (λ (v : ℕ). Leads t (Some v) f) (let e : w + suc k * d ≡ (w + d) + k * d = omega arith in e) (leads (suc k) (omega arith))

pub run_led :
    (t : Terms) (f d n w : ℕ) → d ≡ t.step f - t.margin → t.margin < t.step f → t.end f ≤ w + t.step f → LeadsAll t w d f n → (rest : List Force) →
    AreLed t (Some (w + n * d)) rest → AreLed t (Some w) (wakes_of (w + d) d n f (t.from f) ++ rest)
unfolding wakes_of
run_led t f d zero w is gains joined leads rest led = subst (λ (v : ℕ). AreLed t (Some v) rest) (let e : w + zero * d ≡ w = omega arith in e) led
run_led t f d (suc n) w is gains joined leads rest led = (
  subst (λ (v : ℕ). Leads t (Some v) f) (let e : w + zero * d ≡ w = omega arith in e) (leads zero (omega arith)),
  (
    let e : w + d ≡ max (t.end f) (w + t.step f) - t.margin = omega arith in e,
    (
      refl,
      run_led t f d n (w + d) is gains (omega arith) (tail_leads t w d f n leads) rest
          (subst (λ (v : ℕ). AreLed t (Some v) rest) (let e : w + suc n * d ≡ (w + d) + n * d = omega arith in e) led),
    ),
  ),
)

pub led_run :
    (t : Terms) (f d n w : ℕ) → d ≡ t.step f - t.margin → t.margin < t.step f → t.end f ≤ w + t.step f → LeadsAll t w d f n → (xs : List Force) →
    AreLed t (Some w) xs → (rest : List Force) × ((xs ≡ wakes_of (w + d) d n f (t.from f) ++ rest) × AreLed t (Some (w + n * d)) rest)
unfolding wakes_of
led_run t f d zero w is gains joined leads xs led = (xs, (refl, subst (λ (v : ℕ). AreLed t (Some v) xs) (let e : w ≡ w + zero * d = omega arith in e) led))
led_run t f d (suc n) w is gains joined leads [] led =
    let s = (leads zero (omega arith)).short in
    let l = led f in
    absurd (omega arith)
led_run t f d (suc n) w is gains joined leads (x ∷ xs) led =
    let here : Leads t (Some w) f = subst (λ (v : ℕ). Leads t (Some v) f) (let e : w + zero * d ≡ w = omega arith in e) (leads zero (omega arith)) in
    let entry : x.entry ≡ f = one_leads t (Some w) x.entry f led.0 here in
    let at : x.at ≡ w + d = led.1.0 ∙ (ap (λ i. max (t.end i) (w + t.step i) - t.margin) entry ∙ (let e : max (t.end f) (w + t.step f) - t.margin ≡ w + d = omega arith in e)) in
    let needed : x.needed ≡ t.from f = led.1.1.0 ∙ ap t.from entry in
    let head : x ≡ record { at = w + d; entry = f; needed = t.from f } = same_force x (record { at = w + d; entry = f; needed = t.from f }) at entry needed in
    let more = led_run t f d n (w + d) is gains (omega arith) (tail_leads t w d f n leads) xs (subst (λ (v : ℕ). AreLed t (Some v) xs) at led.1.1.1) in (
      more.0,
      (
        let e : xs ≡ wakes_of (w + d + d) d n f (t.from f) ++ more.0 = more.1.0 in cc,
        subst (λ (v : ℕ). AreLed t (Some v) more.0) (let e : (w + d) + n * d ≡ w + suc n * d = omega arith in e) more.1.1,
      ),
    )
