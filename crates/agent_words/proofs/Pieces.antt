-- Pieces: what is appended piece by piece.
use Rattle.std.proofs.Common.{◌≡◌, ℕ, List, ◌++◌, arith}
use Rattle.std.proofs.lemmas.Grind.{common_steps}

pub four_pieces : (new c b : List ℕ) (w x y z : List ℕ) → b ≡ w ++ x → c ≡ b ++ y → new ≡ c ++ z → new ≡ w ++ (x ++ (y ++ z))
four_pieces new c b w x y z p q r = grind (arith, common_steps)

pub seven_pieces :
    (new f e d c b a o : List ℕ) (t u v w x y z : List ℕ) → a ≡ o ++ t → b ≡ a ++ u → c ≡ b ++ v → d ≡ c ++ w → e ≡ d ++ x → f ≡ e ++ y → new ≡ f ++ z →
    new ≡ o ++ (t ++ (u ++ (v ++ (w ++ (x ++ (y ++ z))))))
seven_pieces new f e d c b a o t u v w x y z p q r s m n l = grind (arith, common_steps)

pub five_pieces : (new d c b a o : List ℕ) (v w x y z : List ℕ) → a ≡ o ++ v → b ≡ a ++ w → c ≡ b ++ x → d ≡ c ++ y → new ≡ d ++ z → new ≡ o ++ (v ++ (w ++ (x ++ (y ++ z))))
five_pieces new d c b a o v w x y z p q r s t = grind (arith, common_steps)
