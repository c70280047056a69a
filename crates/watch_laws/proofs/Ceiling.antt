-- Ceiling: a grant that led no further than the one before was cut by the ceiling. For the law of the ceiling.
use Rattle.std.proofs.Common.{◌≡◌, ◌∙◌, ℕ, ◌+◌, ◌≤◌, List, [], ◌∷◌, ◌++◌, All, refl, ap, subst, arith}
use Rattle.std.proofs.lemmas.List.Elements.{All-head, All-tail}
use Rattle.watch_laws.specs.Tops.{CeilingLaw, EndAtCeiling, EndNoFurther, Granted, IsNoFurther, IsRuled, end, grants_through}
use Rattle.watch_laws.proofs.Topped.{topped}

-- what holds of all holds of the last two
last_two : (P : Granted → Type 0) (earlier : List Granted) (first second : Granted) → All P (earlier ++ first ∷ second ∷ []) → P first × P second
last_two P [] first second all = (All-head P first (second ∷ []) all, All-head P second [] (All-tail P first (second ∷ []) all))
last_two P (g ∷ earlier) first second all = last_two P earlier first second (All-tail P g (earlier ++ first ∷ second ∷ []) all)

append_one : (earlier : List Granted) (first second : Granted) → earlier ++ first ∷ second ∷ [] ≡ (earlier ++ first ∷ []) ++ second ∷ []
append_one [] first second = refl
append_one (g ∷ earlier) first second = ap (λ gs. g ∷ gs) (append_one earlier first second)

cut : (most ceiling within : ℕ) (first second : Granted) → IsRuled most ceiling within first → IsRuled most ceiling within second → IsNoFurther first second → (ceiling ≤ end second + within) × (end second ≤ ceiling)
cut most ceiling within first second one two less =
    let a = one.left in
    let b = one.granted in
    let c = two.soon in
    let d = two.left in
    let e = two.granted in
    let f = less.apart in
    let g = less.no_further in
    (omega (arith, a, b, c, d, e, f, g), omega (arith, a, b, c, d, e, f, g))

at_ceiling : (most ceiling within : ℕ) (gs : List Granted) → All (IsRuled most ceiling within) gs → EndNoFurther gs → EndAtCeiling ceiling within gs
at_ceiling most ceiling within gs all less =
    let earlier = less.0 in
    let first = less.1.0 in
    let second = less.1.1.0 in
    let is = less.1.1.1.0 in
    let both = last_two (IsRuled most ceiling within) earlier first second (subst (All (IsRuled most ceiling within)) is all) in
    (earlier ++ first ∷ [], (second, (is ∙ append_one earlier first second, cut most ceiling within first second both.0 both.1 less.1.1.1.1)))

pub ceiling_reached : CeilingLaw
ceiling_reached s r k most ceiling within there all top = at_ceiling most ceiling within (grants_through k r.run) all (topped s r k there top)
