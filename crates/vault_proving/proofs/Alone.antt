-- Alone: one request is out where none was. For `ask` and the law that a lookup ends in time.
use Rattle.std.proofs.Common.{◌≡◌, ◌∙◌, List, [], ◌∷◌, ◌++◌, ap, refl, sym}
use Rattle.vault_lanes.specs.Out.{Out, OutIsPut}

no_more : {X : Type 0} (xs ys : List X) → [] ≡ xs ++ ys → (xs ≡ []) × (ys ≡ [])
no_more [] ys is = (refl, sym is)
no_more (x ∷ xs) ys is = absurd cc

pub put_one : (o : Out) (old new : List Out) → OutIsPut o old new → old ≡ [] → new ≡ o ∷ []
put_one o old new put none =
    let parts = no_more put.before put.behind (sym none ∙ put.old_is) in
    put.new_is ∙ ap (λ l. l ++ o ∷ put.behind) parts.0 ∙ ap (λ l. o ∷ l) parts.1

pub the_same : (o p : Out) → o ∷ [] ≡ p ∷ [] → o ≡ p
the_same o p is = ap (λ l. elim l [ [] ↦ o | z ∷ zs ↦ z ]) is
