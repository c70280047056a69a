-- Reaching: the least reach over an entry, and whether a lookup is owed of one, up its chain. For what falls short.
use Rattle.std.proofs.Common.{◌≡◌, ◌∙◌, ℕ, Bool, true, false, ◌||◌, List, Some, None, map, min, sym, ap}
use Rattle.std.proofs.lemmas.Bool.{or_left}
use Rattle.std.specs.List.{list_any}
use Rattle.plan_forest.specs.{declared.entry.Entry.Entry, Forest.entry_at, Over.chain, Over.chain_of}
use Rattle.plan_forest.proofs.Chains.{ParentsFirst, chain_child, chain_root}
use Rattle.watch_machine.specs.Wanted.{least}

module _ (es : List Entry) (i : ℕ) where
  pub least_root : (f : ℕ → ℕ) (above own : ℕ) → (entry_at es i).parent ≡ None → own ≡ f i → min above own ≡ least above (map f (chain es i))
  least_root f above own root is = ap (min above) is ∙ sym (ap (λ is. least above (map f is)) (chain_root es i root))

  pub least_child :
      (f : ℕ → ℕ) (above own p : ℕ) → ParentsFirst es → (entry_at es i).parent ≡ Some p → own ≡ f i →
      least (min above own) (map f (chain es p)) ≡ least above (map f (chain es i))
  least_child f above own p first child is =
      ap (λ n. least (min above n) (map f (chain es p))) is ∙ sym (ap (λ is. least above (map f is)) (chain_child es i p first child))

  pub any_root : (f : ℕ → Bool) → (entry_at es i).parent ≡ None → f i ≡ false → false ≡ list_any f (chain es i)
  any_root f root never = sym (ap (list_any f) (chain_root es i root) ∙ ap (λ b. b || false) never)

  pub any_child : (f : ℕ → Bool) (p : ℕ) → ParentsFirst es → (entry_at es i).parent ≡ Some p → f i ≡ false → list_any f (chain es p) ≡ list_any f (chain es i)
  any_child f p first child never = sym (ap (list_any f) (chain_child es i p first child) ∙ ap (λ b. b || list_any f (chain es p)) never)

  -- the entry itself will do
  pub any_own : (f : ℕ → Bool) → f i ≡ true → true ≡ list_any f (chain es i)
  unfolding chain chain_of
  any_own f this = sym (or_left (f i) _ this)
