-- Ends that are gathered of an agent, and the events of ends, one after another.
use Rattle.std.proofs.Common.{◌≡◌, ℕ, ◌+◌, ◌<◌, ◌≤◌, List, [], ◌∷◌, ◌++◌, length, take, get_or, refl, sym, ap, ◌∙◌, arith}
use Rattle.std.proofs.lemmas.Grind.{flat_map-append}
use Rattle.std.proofs.lemmas.List.{append-nil, flat_map_more, take_all, take_more}
use Rattle.std.specs.List.{flat_map, range_with_len}
use Rattle.plan_forest.proofs.Ranges.{range_more}
use Rattle.agent_standing.specs.declared.ends.KnownEnd.{KnownEnd}
use Rattle.vault_inventory.specs.Inventories.{Inventory}
use Rattle.agent_ends.specs.Ends.{events_for, events_for_known}

-- one entry more of an agent
pub told_more : (f : ℕ → List KnownEnd) (n : ℕ) → flat_map f (range_with_len 0 n) ++ f n ≡ flat_map f (range_with_len 0 (n + 1))
told_more f n =
    ap (λ xs. flat_map f (range_with_len 0 n) ++ xs) (sym (append-nil (f n))) ∙ sym (flat_map-append f (range_with_len 0 n) (n ∷ [])) ∙ ap (flat_map f) (sym (range_more 0 n n (omega arith)))

pub told_step : (f : ℕ → List KnownEnd) (n : ℕ) (old new last : List KnownEnd) → old ≡ flat_map f (range_with_len 0 n) → new ≡ old ++ last → last ≡ f n → new ≡ flat_map f (range_with_len 0 (n + 1))
told_step f n old new last so is same =
    is ∙ ap (λ (xs : List KnownEnd). xs ++ last) so ∙ ap (λ (xs : List KnownEnd). flat_map f (range_with_len 0 n) ++ xs) same ∙ told_more f n

pub events_none : (s : Inventory) → events_for s [] ≡ []
unfolding events_for
events_none s = refl

pub events_more : (s : Inventory) (ends : List KnownEnd) (i : ℕ) (k : KnownEnd) → i < length ends → k ≡ get_or ends i k → events_for s (take (i + 1) ends) ≡ events_for s (take i ends) ++ events_for_known s k
unfolding events_for
events_more s ends i k h read =
    ap (flat_map (events_for_known s)) (take_more ends i k h ∙ ap (λ (x : KnownEnd). take i ends ++ x ∷ []) (sym read))
    ∙ sym (flat_map_more (events_for_known s) [] (take i ends) k)

pub events_all : (s : Inventory) (ends : List KnownEnd) (i : ℕ) → length ends ≤ i → events_for s (take i ends) ≡ events_for s ends
events_all s ends i past = ap (events_for s) (take_all i ends past)
