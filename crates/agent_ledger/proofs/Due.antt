-- Due: memory may be wanting only for what is due. For `due`.
use Rattle.std.proofs.Common.{◌≡◌, Bool, true, false, Option, None, Result, Ok, Err, OnErr, refl, subst, sym}

pub due_where_wanting : {X E : Type 0} (is_due : Bool) (given : Result (Option X) E) → (is_due ≡ false → given ≡ Ok None) → OnErr given (is_due ≡ true)
due_where_wanting true (Ok x) early = tt
due_where_wanting true (Err e) early = refl
due_where_wanting {X} {E} false given early = subst (λ (g : Result (Option X) E). OnErr g (false ≡ true)) (sym (early refl)) tt
