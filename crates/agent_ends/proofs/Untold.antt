-- Untold: an event that tells of no end leaves what is kept as it was.
use Rattle.std.proofs.Common.{◌≡◌, ◌∙◌, ℕ, zero, suc, false, List, [], ◌∷◌, ◌++◌, Option, Some, None, length, refl, sym, ap, subst, slice_index_or}
use Rattle.std.proofs.lemmas.{List.length-set, List.Concat.flat_map-cons}
use Rattle.std.specs.List.{flat_map, range_with_len}
use Rattle.std.specs.Prelude.{slice_set}
use Rattle.plan_forest.specs.{declared.entry.Entry.Entry, Forest.entry_at, Forest.no_entry}
use Rattle.vault_inventory.specs.Inventories.{Inventory, credential_at, inventory_with_need}
use Rattle.watch_machine.specs.{declared.event.WatchEvent.WatchEvent, State.WatchState}
use Rattle.watch_machine.specs.declared.event.WatchEvent.TheVariants.{Looked, Renewed, Need, Known}
use Rattle.watch_machine.specs.declared.event.WatchReply.TheVariants.{Told, Refused, Busy, Lost}
use Rattle.agent_standing.specs.{declared.ends.KnownEnd.KnownEnd, declared.standing.EntryStanding.EntryStanding, Agent.Agent, Turns.inventory_after}
use Rattle.agent_standing.specs.Standings.{fresh_standing, standing_in, standings_after}
use Rattle.agent_standing.specs.declared.standing.Told as told
use Rattle.agent_ends.specs.Laws.{OnlyToldLaw, tells_end}
use Rattle.agent_ends.specs.Ends.{end_with, ends_of, ends_told_at, known_by, mark_of}

-- one element is another, of which something is as it was of the one before
set_same : {X Y : Type 0} (f : X → Y) (d : X) (xs : List X) (j : ℕ) (y : X) → f y ≡ f (slice_index_or xs j d) → (i : ℕ) → f (slice_index_or (slice_set xs j y) i d) ≡ f (slice_index_or xs i d)
set_same f d [] j y made i = refl
set_same f d (x ∷ xs) zero y made zero = made
set_same f d (x ∷ xs) (suc j) y made (suc i) = set_same f d xs j y made i
set_same f d (x ∷ xs) _ y made _ = refl

-- ---- what was told of each entry

set_told : (xs : List EntryStanding) (j : ℕ) (y : EntryStanding) → y.told ≡ (standing_in xs j).told → (i : ℕ) → (standing_in (slice_set xs j y) i).told ≡ (standing_in xs i).told
set_told xs = set_same (λ (x : EntryStanding). x.told) fresh_standing xs

told_same : (m : WatchState) (event : WatchEvent) (xs : List EntryStanding) → tells_end event ≡ false → (i : ℕ) → (standing_in (standings_after m event xs) i).told ≡ (standing_in xs i).told
told_same m (Looked j (Told seconds renewable date) terms) xs quiet i = cc
told_same m (Looked j (Refused status date) terms) xs quiet i = set_told xs j _ refl i
told_same m (Looked j Busy terms) xs quiet i = set_told xs j _ refl i
told_same m (Looked j Lost terms) xs quiet i = set_told xs j _ refl i
told_same m (Renewed j (Told seconds renewable date)) xs quiet i = cc
told_same m (Renewed j (Refused status date)) xs quiet i = set_told xs j _ refl i
told_same m (Renewed j Busy) xs quiet i = set_told xs j _ refl i
told_same m (Renewed j Lost) xs quiet i = set_told xs j _ refl i
told_same m (Known j end renewable) xs quiet i = cc
told_same m _ xs quiet i = refl

-- ---- what each entry is known by

-- two inventories with the same entries, but for their needs and what does not matter here
record AreKnownAlike (s t : Inventory) : Type 0 where
  count : length t.forest.entries ≡ length s.forest.entries
  name : (i : ℕ) → (entry_at t.forest.entries i).name ≡ (entry_at s.forest.entries i).name
  kind : (i : ℕ) → (entry_at t.forest.entries i).kind ≡ (entry_at s.forest.entries i).kind
  credentials : t.credentials ≡ s.credentials

itself : (s : Inventory) → AreKnownAlike s s
itself s = record { count = refl; name = λ i. refl; kind = λ i. refl; credentials = refl }

needed : (s : Inventory) (j need : ℕ) → AreKnownAlike s (inventory_with_need s j need)
unfolding inventory_with_need entry_at
needed s j need = record {
  count = length-set s.forest.entries j _;
  name = set_same (λ (e : Entry). e.name) no_entry s.forest.entries j _ refl;
  kind = set_same (λ (e : Entry). e.kind) no_entry s.forest.entries j _ refl;
  credentials = refl;
}

served_alike : (event : WatchEvent) (s : Inventory) → AreKnownAlike s (inventory_after event s)
served_alike (Need i until) s = needed s i _
served_alike _ s = itself s

mark_same : (s t : Inventory) → AreKnownAlike s t → (i : ℕ) → mark_of t i ≡ mark_of s i
mark_same s t alike i =
    ap (λ k. known_by k (credential_at t.credentials i)) (alike.kind i) ∙ ap (λ c. known_by (entry_at s.forest.entries i).kind (credential_at c i)) alike.credentials

end_same : (s t : Inventory) → AreKnownAlike s t → (boot : List ℕ) (i : ℕ) (o : Option told.Told) → end_with t boot i o ≡ end_with s boot i o
end_same s t alike boot i None = refl
end_same s t alike boot i (Some end) =
    ap (λ n. record { name = n; fingerprint = mark_of t i; boot = boot; told = end } ∷ []) (alike.name i)
    ∙ ap (λ m. record { name = (entry_at s.forest.entries i).name; fingerprint = m; boot = boot; told = end } ∷ []) (mark_same s t alike i)

-- ---- all together

all_same : (f g : ℕ → List KnownEnd) → ((i : ℕ) → g i ≡ f i) → (xs : List ℕ) → flat_map g xs ≡ flat_map f xs
all_same f g same [] = refl
all_same f g same (x ∷ xs) =
    flat_map-cons g x xs ∙ ap (λ l. l ++ flat_map g xs) (same x) ∙ ap (λ l. f x ++ l) (all_same f g same xs) ∙ sym (flat_map-cons f x xs)

alike_after : (old new : Agent) (event : WatchEvent) → new.inventory ≡ inventory_after event old.inventory → AreKnownAlike old.inventory new.inventory
alike_after old new event is = subst (λ s. AreKnownAlike old.inventory s) (sym is) (served_alike event old.inventory)

pub untold : OnlyToldLaw
unfolding ends_of
untold old new event output taken quiet boot =
    let alike = alike_after old new event taken.inventory in
    let same : (i : ℕ) → (standing_in new.standings i).told ≡ (standing_in old.standings i).told =
    λ i. ap (λ (xs : List EntryStanding). (standing_in xs i).told) taken.standings ∙ told_same new.machine event old.standings quiet i in
    ap (λ n. flat_map (ends_told_at new boot) (range_with_len 0 n)) alike.count
    ∙ all_same (ends_told_at old boot) (ends_told_at new boot) (λ i. ap (end_with new.inventory boot i) (same i) ∙ end_same old.inventory new.inventory alike boot i (standing_in old.standings i).told) (range_with_len 0 (length old.inventory.forest.entries))
