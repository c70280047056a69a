-- Believed: the forest as it is believed is a forest, and what an entry carries in it is its wanted need. For the laws of calm.
use Rattle.std.proofs.Common.{◌≡◌, ◌∙◌, ℕ, zero, suc, ◌<◌, ◌≤◌, true, false, ◌==◌, List, Option, Some, None, length, map, max, min, nat_lt, set, refl, sym, ap, subst, arith, inl, inr}
use Rattle.std.proofs.lemmas.{Bool.cases_eq, Bool.cases_lt, Bool.Decides.nat_tests, List.ext_get_or, List.length-set, List.FromFn.get_or-map-range_with_len, List.FromFn.length-map-range_with_len}
use Rattle.std.specs.List.{range_with_len}
use Rattle.base_moment.specs.declared.moment.TheConstants.{LAST}
use Rattle.plan_forest.specs.{declared.entry.Entry.Entry, declared.forest.TheConstants.END_MAX, Carried.carried, Carried.carried_of, Push.IsForest, Push.is_too_high}
use Rattle.plan_forest.specs.Forest.{Forest, entry_at, no_entry}
use Rattle.plan_forest.specs.Over.{Over, is_over, chain}
use Rattle.plan_forest.proofs.Carrying.{carried_is_of, or_parts}
use Rattle.plan_forest.proofs.Chains.{ParentsFirst, chain_same, cases_Option, over_child, over_root}
use Rattle.plan_forest.proofs.Entries.{entry_at_past, entry_at_set_other, entry_at_set_same}
use Rattle.plan_forest.proofs.Placed.{Replaces, parents_first, range_from_parts, replaced_is_forest}
use Rattle.watch_machine.specs.{declared.clocks.Clocks.Clocks, Clocks.of_wall, Clocks.to_here, State.WatchState, State.second}
use Rattle.watch_machine.specs.Wanted.{ceiling_here, cut_need, need_here, seen_entry, view}
use Rattle.watch_machine.proofs.Cases.{if_cases}
use Rattle.watch_laws.specs.Calm.{believed_forest, planned_need, terms}

-- entries that are written by their index
pub written_at : (f : ℕ → Entry) (n i : ℕ) → i < n → entry_at (map f (range_with_len 0 n)) i ≡ f i
unfolding entry_at
written_at f n i within = get_or-map-range_with_len f 0 n i i no_entry within (omega arith)

pub written_count : (f : ℕ → Entry) (n : ℕ) → length (map f (range_with_len 0 n)) ≡ n
written_count f n = length-map-range_with_len f 0 n

-- the first n entries, replaced one after another
replaced : (ℕ → Entry) → ℕ → List Entry → List Entry
replaced f zero es = es
replaced f (suc k) es = set (replaced f k es) k (f k)

record IsReplaced (g : Forest) (f : ℕ → Entry) (k : ℕ) (es : List Entry) : Type 0 where
  pub forest : IsForest (record { entries = es; margin = g.margin })
  pub count : length es ≡ length g.entries
  pub done : (i : ℕ) → i < k → entry_at es i ≡ f i
  pub rest : (i : ℕ) → k ≤ i → entry_at es i ≡ entry_at g.entries i

replaced_so : (g : Forest) → IsForest g → (f : ℕ → Entry) → ((i : ℕ) → i < length g.entries → Replaces g i (f i)) → (k : ℕ) → k ≤ length g.entries → IsReplaced g f k (replaced f k g.entries)
unfolding replaced
replaced_so g forest f each zero h = record { forest = forest; count = refl; done = λ i low. absurd (omega arith); rest = λ i low. refl }
replaced_so g forest f each (suc k) h =
    let es = replaced f k g.entries in
    let before = replaced_so g forest f each k (omega arith) in
    let c = before.count in
    let within : k < length es = omega arith in
    let here = each k (omega arith) in
    let is = before.rest k (omega arith) in
    let fits : Replaces (record { entries = es; margin = g.margin }) k (f k) = record {
      within = within;
      name = here.name ∙ sym (ap (λ (e : Entry). e.name) is);
      kind = here.kind ∙ sym (ap (λ (e : Entry). e.kind) is);
      parent = here.parent ∙ sym (ap (λ (e : Entry). e.parent) is);
      step = here.step;
      range = here.range;
    } in
    record {
      forest = replaced_is_forest (record { entries = es; margin = g.margin }) before.forest k (f k) fits;
      count = length-set es k (f k) ∙ c;
      done = λ i low. elim (cases_eq i k) as (λ _. entry_at (set es k (f k)) i ≡ f i) [
        | inl same ↦ subst (λ j. entry_at (set es k (f k)) j ≡ f j) (sym same) (entry_at_set_same es k (f k) within)
        | inr other ↦ entry_at_set_other es k i (f k) other ∙ before.done i (omega arith)
      ];
      rest = λ i low. entry_at_set_other es k i (f k) (λ same. absurd (omega arith)) ∙ before.rest i (omega arith);
    }

-- so a forest in which each entry is replaced is one
pub all_replaced : (g : Forest) → IsForest g → (f : ℕ → Entry) → ((i : ℕ) → i < length g.entries → Replaces g i (f i)) → IsForest (record { entries = map f (range_with_len 0 (length g.entries)); margin = g.margin })
unfolding entry_at
all_replaced g forest f each =
    let n = length g.entries in
    let all = replaced_so g forest f each n (omega arith) in
    let c = all.count in
    let w = written_count f n in
    let same : replaced f n g.entries ≡ map f (range_with_len 0 n) =
    ext_get_or no_entry (replaced f n g.entries) (map f (range_with_len 0 n)) (c ∙ sym w) (λ i h. let low : i < n = omega arith in all.done i low ∙ sym (written_at f n i low)) in
    subst (λ es. IsForest (record { entries = es; margin = g.margin })) same all.forest

-- what is believed is in range
need_within : (c : Clocks) (need : ℕ) → need_here c need ≤ LAST
unfolding need_here
need_within c need =
    if_cases (λ n. n ≤ LAST) (need == 0) 0 (min LAST (max (to_here c.broker need) (to_here (of_wall c.wall) need))) (λ e. omega arith) (λ e. omega arith)

ceiling_within : (c : Clocks) (o : Option ℕ) → is_too_high (ceiling_here c o) ≡ false
ceiling_within c None = refl
ceiling_within c (Some t) = capped_low (to_here c.broker t) where
  capped_low : (x : ℕ) → nat_lt END_MAX (min END_MAX x) ≡ false
  capped_low x = let l : min END_MAX x ≤ END_MAX = omega arith in grind (arith, nat_tests)

terms_replace : (s : WatchState) → IsForest s.forest → (i : ℕ) → i < length s.forest.entries → Replaces s.forest i (terms s i)
unfolding terms seen_entry
terms_replace s forest i within =
    let n = need_within s.clocks (entry_at s.forest.entries i).need in
    record {
      within = within;
      name = refl;
      kind = refl;
      parent = refl;
      step = (forest.placed i within).step_past_margin;
      range = range_from_parts (terms s i) (record { end = omega arith; ceiling = ceiling_within s.clocks (entry_at s.forest.entries i).ceiling; need = omega arith });
    }

pub believed_is_forest : (s : WatchState) → IsForest s.forest → IsForest (believed_forest s)
unfolding believed_forest
believed_is_forest s forest = all_replaced s.forest forest (terms s) (terms_replace s forest)

pub believed_margin : (s : WatchState) → (believed_forest s).margin ≡ s.forest.margin
unfolding believed_forest
believed_margin s = refl

pub believed_count : (s : WatchState) → length (believed_forest s).entries ≡ length s.forest.entries
unfolding believed_forest
believed_count s = written_count (terms s) (length s.forest.entries)

pub believed_at : (s : WatchState) (i : ℕ) → i < length s.forest.entries → entry_at (believed_forest s).entries i ≡ terms s i
unfolding believed_forest
believed_at s i within = written_at (terms s) (length s.forest.entries) i within

-- two lists of as many entries, with the same parents and needs
pub record AreSameNeeds (es fs : List Entry) : Type 0 where
  pub first : ParentsFirst es
  pub count : length fs ≡ length es
  pub parent : (i : ℕ) → (entry_at fs i).parent ≡ (entry_at es i).parent
  pub need : (i : ℕ) → (entry_at fs i).need ≡ (entry_at es i).need

pub same_chain : (es fs : List Entry) → AreSameNeeds es fs → (i : ℕ) → chain fs i ≡ chain es i
same_chain es fs same i = chain_same (suc i) es fs same.first (λ k _. same.parent k) i (omega arith)

carried_of_same : (es fs : List Entry) → AreSameNeeds es fs → (s i n : ℕ) → carried_of fs s i n ≡ carried_of es s i n
unfolding carried_of is_over
carried_of_same es fs same s i zero = refl
carried_of_same es fs same s i (suc n) =
    let r = carried_of_same es fs same s i n in
    let c = same_chain es fs same n in
    let d = same.need n in
    cc

pub same_carried : (es fs : List Entry) → AreSameNeeds es fs → (s i : ℕ) → carried fs s i ≡ carried es s i
unfolding carried
same_carried es fs same s i = ap (carried_of fs s i) same.count ∙ carried_of_same es fs same s i (length es)

-- entries that are written by two functions with the same parents and needs
pub written_same : (f h : ℕ → Entry) (n : ℕ) → ParentsFirst (map f (range_with_len 0 n)) → ((i : ℕ) → i < n → ((h i).parent ≡ (f i).parent) × ((h i).need ≡ (f i).need)) → AreSameNeeds (map f (range_with_len 0 n)) (map h (range_with_len 0 n))
written_same f h n first each =
    let es = map f (range_with_len 0 n) in
    let fs = map h (range_with_len 0 n) in
    let a = written_count f n in
    let b = written_count h n in
    record {
      first = first;
      count = b ∙ sym a;
      parent = λ i. elim (cases_lt i n) as (λ _. (entry_at fs i).parent ≡ (entry_at es i).parent) [
        | inl within ↦ ap (λ (e : Entry). e.parent) (written_at h n i within) ∙ (each i within).0 ∙ sym (ap (λ (e : Entry). e.parent) (written_at f n i within))
        | inr past ↦ ap (λ (e : Entry). e.parent) (entry_at_past fs i (omega arith) ∙ sym (entry_at_past es i (omega arith)))
      ];
      need = λ i. elim (cases_lt i n) as (λ _. (entry_at fs i).need ≡ (entry_at es i).need) [
        | inl within ↦ ap (λ (e : Entry). e.need) (written_at h n i within) ∙ (each i within).1 ∙ sym (ap (λ (e : Entry). e.need) (written_at f n i within))
        | inr past ↦ ap (λ (e : Entry). e.need) (entry_at_past fs i (omega arith) ∙ sym (entry_at_past es i (omega arith)))
      ];
    }

-- what an entry carries
pub carried_believed : (s : WatchState) → IsForest s.forest → (i : ℕ) → carried (believed_forest s).entries (second s) i ≡ planned_need s i
unfolding believed_forest cut_need terms
carried_believed s forest i =
    let n = length s.forest.entries in
    let first = parents_first (believed_forest s) (believed_is_forest s forest) in
    let same : AreSameNeeds (map (terms s) (range_with_len 0 n)) (map (seen_entry s.forest.entries s.tracks s.clocks) (range_with_len 0 n)) = written_same (terms s) (seen_entry s.forest.entries s.tracks s.clocks) n first (λ k h. (refl, refl)) in
    sym (same_carried (map (terms s) (range_with_len 0 n)) (view s.forest.entries s.tracks s.clocks) same (second s) i)

-- what is over an entry does not stand behind it
pub over_before : (es : List Entry) → ParentsFirst es → (n a f : ℕ) → f < n → Over es a f → a ≤ f
over_before es first zero a f h over = absurd (omega arith)
over_before es first (suc n) a f h over =
    cases_Option (entry_at es f).parent (a ≤ f)
    (λ root. let same : (f == a) ≡ true = sym (over_root es a f root) ∙ over in
    let e : f ≡ a = grind (arith, nat_tests) in omega arith)
    (λ p child.
    let below : p < f = first f p child in
    or_parts (f == a) (is_over es a p) (a ≤ f) (sym (over_child es a f p first child) ∙ over)
    (λ same. let e : f ≡ a = grind (arith, nat_tests) in omega arith)
    (λ up. let l = over_before es first n a p (omega arith) up in omega arith))

-- past the entries nothing is carried
pub carried_within : (es : List Entry) → ParentsFirst es → (s i : ℕ) → 0 < carried es s i → i < length es
carried_within es first s i some =
    let f = carried_is_of es s i 0 some in
    let low = over_before es first (suc f.0) i f.0 (omega arith) f.1 in
    elim (cases_lt f.0 (length es)) [
      | inl within ↦ omega arith
      | inr past ↦ absurd (let none : (entry_at es f.0).need ≡ 0 = ap (λ (e : Entry). e.need) (entry_at_past es f.0 past) in let later = f.2 in omega arith)
    ]
