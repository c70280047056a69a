-- Who leads: at most one entry at a time, and so at most one list of wake-ups.
use Rattle.std.proofs.Common.{◌≡◌, ℕ, ◌-◌, ◌<◌, ◌≤◌, List, [], ◌∷◌, Option, Some, None, refl, sym, ap, ◌∙◌, subst, arith, inl, inr}
use Rattle.std.proofs.lemmas.Bool.{cases_lt}
use Rattle.plan_rule.specs.declared.force.Force.{Force}
use Rattle.plan_schedule.specs.Terms.{Ahead, AreLed, Leads, Terms, lasts_until}

pub ahead : (x i y j : ℕ) → x ≤ y → (x ≡ y → i ≤ j) → Ahead x i y j
ahead x i y j le tie = elim (cases_lt x y) [ inl less ↦ inl less | inr more ↦ let e : x ≡ y = omega arith in inr (e, tie e) ]

-- an entry that falls short after some wake-up fell short before any
pub short_before : (t : Terms) (prev : Option ℕ) (i : ℕ) → lasts_until t prev i < t.need i → t.end i < t.need i
short_before t None i h = h
short_before t (Some v) i h = omega arith

pub end_below_deadline : (t : Terms) (prev : Option ℕ) (i : ℕ) → t.end i ≤ lasts_until t prev i
end_below_deadline t None i = omega arith
end_below_deadline t (Some v) i = omega arith

pub one_leads : (t : Terms) (prev : Option ℕ) (f g : ℕ) → Leads t prev f → Leads t prev g → f ≡ g
one_leads t prev f g a b = let p = a.first g b.short in let q = b.first f a.short in omega arith

pub same_force : (x y : Force) → x.at ≡ y.at → x.entry ≡ y.entry → x.needed ≡ y.needed → x ≡ y
same_force x y a e n =
    let X : ℕ → ℕ → ℕ → Force = λ p q r. record { at = p; entry = q; needed = r } in
    ap (λ p. X p x.entry x.needed) a ∙ (ap (λ q. X y.at q x.needed) e ∙ ap (λ r. X y.at y.entry r) n)

pub one_led : (t : Terms) (prev : Option ℕ) (xs ys : List Force) → AreLed t prev xs → AreLed t prev ys → xs ≡ ys
one_led t prev [] [] a b = refl
one_led t prev [] (y ∷ ys) a b = let s = b.0.short in let l = a y.entry in absurd (omega arith)
one_led t prev (x ∷ xs) [] a b = let s = a.0.short in let l = b x.entry in absurd (omega arith)
one_led t prev (x ∷ xs) (y ∷ ys) a b =
    let entry : x.entry ≡ y.entry = one_leads t prev x.entry y.entry a.0 b.0 in
    let at : x.at ≡ y.at = a.1.0 ∙ (ap (λ f. lasts_until t prev f - t.margin) entry ∙ sym b.1.0) in
    let needed : x.needed ≡ y.needed = a.1.1.0 ∙ (ap t.from entry ∙ sym b.1.1.0) in
    let head : x ≡ y = same_force x y at entry needed in
    let rest : xs ≡ ys = one_led t (Some y.at) xs ys (subst (λ v. AreLed t (Some v) xs) at a.1.1.1) b.1.1.1 in
    cc
