-- One more of those that are out is handed back, or stays: for `take_out`.
use Rattle.std.proofs.Common.{◌++◌, inl, inr, List, [], ◌∷◌, refl, ap}
use Rattle.vault_lanes.specs.declared.lanes.Answered.{Answered}
use Rattle.vault_lanes.specs.Out.{IsAnswerTo, IsParted, Out}

pub parted_there : (os : List Out) (o : Out) (as' : List Answered) (a : Answered) (ls : List Out) → IsParted os as' ls → IsAnswerTo o a → IsParted (os ++ o ∷ []) (as' ++ a ∷ []) ls
parted_there [] o as' a ls (none, left) is = inl (a, [], (ap (λ xs. xs ++ a ∷ []) none, (is, (refl, left))))
parted_there (x ∷ os) o as' a ls (inl (b, later, (e, (first, rest)))) is = inl (b, later ++ a ∷ [], (ap (λ xs. xs ++ a ∷ []) e, (first, parted_there os o later a ls rest is)))
parted_there (x ∷ os) o as' a ls (inr (rest, (e, p))) is = inr (rest, (e, parted_there os o as' a rest p is))

pub parted_left : (os : List Out) (o : Out) (as' : List Answered) (ls : List Out) → IsParted os as' ls → IsParted (os ++ o ∷ []) as' (ls ++ o ∷ [])
parted_left [] o as' ls (none, left) = inr ([], (ap (λ xs. xs ++ o ∷ []) left, (none, refl)))
parted_left (x ∷ os) o as' ls (inl (b, later, (e, (first, rest)))) = inl (b, later, (e, (first, parted_left os o later ls rest)))
parted_left (x ∷ os) o as' ls (inr (rest, (e, p))) = inr (rest ++ o ∷ [], (ap (λ xs. xs ++ o ∷ []) e, parted_left os o as' rest p))
