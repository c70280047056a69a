-- A register's look-up: the set has what the list of texts holds, also after one text more.
use Rattle.std.proofs.Common.{◌≡◌, ℕ, Bool, true, false, cond, ◌||◌, List, ◌++◌, ◌∷◌, [], bytes_eq, refl, sym, ap, ◌∙◌, subst, ⊎_elim, Vec, Global}
use Rattle.std.proofs.lemmas.Bool.{cases_Bool, cond-true, cond-false}
use Rattle.std.specs.{Cmp.eq_by_cmp_equiv, List.list_any, Map.IsKeyTest, Map.AreApart, Ordering.nat_cmp, Ordering.is_eq, Set.KeepsOthers}
use Rattle.std.specs.BTreeSet.{BTreeSet, IsEmpty, Updates}
use Rattle.std.specs.Cmp.Lexicographic.{slice_cmp, nat_list_cmp_total, bytes_decides}
use Rattle.plan_forest.proofs.Names.{apart}
use Rattle.vault_inventory.specs.{Found.holds_text, Intake.has_text}

-- a set with no text
pub has_none : (s : BTreeSet (Vec ℕ Global)) → IsEmpty s → (q : List ℕ) → holds_text s q ≡ has_text [] q
unfolding has_text
has_none s empty q = ap (list_any (λ k. is_eq (slice_cmp nat_cmp q k.items))) empty

module _ {K : Type 0} (eq : K → K → Bool) (test : K → Bool) where
  other_keys : (old new : List K) → KeepsOthers eq test old new → (other : K → Bool) → IsKeyTest eq other → AreApart test other → list_any other new ≡ list_any other old
  unfolding KeepsOthers
  other_keys old new h = h

has-insert : (m n : BTreeSet (Vec ℕ Global)) (key : Vec ℕ Global) → Updates (λ x y. slice_cmp nat_cmp x.items y.items) m n key true → (q : List ℕ) → holds_text n q ≡ cond (bytes_eq key.items q) true (holds_text m q)
has-insert m n key h q =
    ⊎_elim
    (λ y. subst (λ l. holds_text n l ≡ true) ((bytes_decides key.items q).0 y) h.1 ∙ sym (cond-true (bytes_eq key.items q) true (holds_text m q) y))
    (λ e. other_keys _ _ _ _ h.3 _ (λ x y. (eq_by_cmp_equiv nat_list_cmp_total).congr q x.items y.items) (λ k. apart key.items q k.items e)
    ∙ sym (cond-false (bytes_eq key.items q) true (holds_text m q) e))
    (cases_Bool (bytes_eq key.items q))

or_last : (a b c : Bool) → cond a true (b || c) ≡ (b || cond a true c)
or_last true true c = refl
or_last true false c = refl
or_last false b c = refl

or_none : (a : Bool) → cond a true false ≡ (a || false)
or_none true = refl
or_none false = refl

any_push : (p : List ℕ → Bool) (texts : List (List ℕ)) (text : List ℕ) → cond (p text) true (list_any p texts) ≡ list_any p (texts ++ text ∷ [])
any_push p [] text = or_none (p text)
any_push p (t ∷ ts) text = or_last (p text) (p t) (list_any p ts) ∙ ap (λ b. p t || b) (any_push p ts text)

-- one text more in the set, and one more in the list, at the end
pub registered : (texts : List (List ℕ)) (text : List ℕ) (m n : BTreeSet (Vec ℕ Global)) (key : Vec ℕ Global) → key.items ≡ text → ((q : List ℕ) → holds_text m q ≡ has_text texts q) → Updates (λ x y. slice_cmp nat_cmp x.items y.items) m n key true → (q : List ℕ) → holds_text n q ≡ has_text (texts ++ text ∷ []) q
unfolding has_text
registered texts text m n key is found updates q =
    has-insert m n key updates q
    ∙ ap (λ k. cond (bytes_eq k q) true (holds_text m q)) is
    ∙ ap (λ b. cond (bytes_eq text q) true b) (found q)
    ∙ any_push (λ t. bytes_eq t q) texts text
