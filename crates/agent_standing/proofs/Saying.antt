-- Saying: standings that are made anew one after another, and what is told in a list of news. For `say_all`, `shorts_of` and `say_shorts`.
use Rattle.std.proofs.Common.{◌≡◌, ◌∙◌, ℕ, zero, suc, ◌+◌, ◌<◌, ◌≤◌, Bool, List, [], ◌∷◌, ◌++◌, Option, Some, None, All, flat_map, length, map, set, take, refl, sym, ap, subst, arith, inl, inr}
use Rattle.std.proofs.lemmas.{Bool.cases_lt, Grind.flat_map-append}
use Rattle.std.proofs.lemmas.List.{append-nil, get_or_past, get_or-set_other, length-set, take_all, take_more_set}
use Rattle.std.proofs.lemmas.List.FromFn.{fill_by_all, get_or-map-range_with_len, length-map-range_with_len, map-range_with_len_more}
use Rattle.std.specs.List.{range_with_len}
use Rattle.plan_forest.proofs.Ranges.{range_more}
use Rattle.vault_inventory.specs.{Inventories.terms_at, declared.terms.Terms.Terms}
use Rattle.watch_machine.specs.State.{WatchState, track_at}
use Rattle.agent_standing.specs.{declared.shorts.Short.Short, declared.standing.EntryStanding.EntryStanding, Standings.fresh_standing, Standings.standing_in}
use Rattle.agent_standing.specs.Agent.{Agent, Believes, IsAgent, IsStanding}
use Rattle.agent_standing.specs.Shorts.{all_said, news_of_entry, said_short, said_standing, said_standings, short_at, shorts_in}

-- those before k are made by f, the others are as they were
pub record Said (f : ℕ → EntryStanding → EntryStanding) (old now : List EntryStanding) (k : ℕ) : Type 0 where
  pub count : length now ≡ length old
  pub done : take k now ≡ map (λ i. f i (standing_in old i)) (range_with_len 0 k)
  pub rest : (j : ℕ) → k ≤ j → standing_in now j ≡ standing_in old j

pub said_none : (f : ℕ → EntryStanding → EntryStanding) (old : List EntryStanding) → Said f old old 0
said_none f old = record { count = refl; done = refl; rest = λ j past. refl }

pub said_more : (f : ℕ → EntryStanding → EntryStanding) (old now : List EntryStanding) (k : ℕ) (x : EntryStanding) → Said f old now k → k < length old → x ≡ f k (standing_in now k) → Said f old (set now k x) (k + 1)
said_more f old now k x so within is = let g : ℕ → EntryStanding = λ i. f i (standing_in old i) in record {
  count = length-set now k x ∙ so.count;
  done =
      take_more_set now k x (let count = so.count in omega (arith, count)) ∙ ap (λ xs. xs ++ x ∷ []) so.done
      ∙ ap (λ y. map g (range_with_len 0 k) ++ y ∷ []) (is ∙ ap (f k) (so.rest k (omega arith))) ∙ sym (map-range_with_len_more g 0 k k (omega arith));
  rest = λ j past. get_or-set_other now k j x fresh_standing (λ same. omega (arith, same, past)) ∙ so.rest j (omega (arith, past));
}

pub said_all : (f : ℕ → EntryStanding → EntryStanding) (old now : List EntryStanding) (k : ℕ) → Said f old now k → k ≡ length old → now ≡ map (λ i. f i (standing_in old i)) (range_with_len 0 (length old))
said_all f old now k so whole =
    sym (take_all k now (let count = so.count in omega (arith, count, whole))) ∙ so.done ∙ ap (λ n. map (λ i. f i (standing_in old i)) (range_with_len 0 n)) whole

-- one entry more in a list of news
pub news_more : (f : ℕ → List Short) (n : ℕ) → flat_map f (range_with_len 0 n) ++ f n ≡ flat_map f (range_with_len 0 (n + 1))
news_more f n =
    ap (λ xs. flat_map f (range_with_len 0 n) ++ xs) (sym (append-nil (f n))) ∙ sym (flat_map-append f (range_with_len 0 n) (n ∷ [])) ∙ ap (flat_map f) (sym (range_more 0 n n (omega arith)))

-- ---- where there is no news, all is said

nil_parts : (xs ys : List Short) → xs ++ ys ≡ [] → (xs ≡ []) × (ys ≡ [])
nil_parts [] ys none = (refl, none)
nil_parts (x ∷ xs) ys none = let long : suc (length (xs ++ ys)) ≡ zero = ap length none in absurd (omega (arith, long))

no_piece : (f : ℕ → List Short) (a n : ℕ) → flat_map f (range_with_len a n) ≡ [] → (i : ℕ) → i < n → f (a + i) ≡ []
no_piece f a zero none i within = absurd (omega (arith, within))
no_piece f a (suc n) none zero within = ap f (let e : a + 0 ≡ a = omega arith in e) ∙ (nil_parts (f a) (flat_map f (range_with_len (a + 1) n)) none).0
no_piece f a (suc n) none (suc i) within =
    ap f (let e : a + suc i ≡ a + 1 + i = omega arith in e) ∙ no_piece f (a + 1) n (nil_parts (f a) (flat_map f (range_with_len (a + 1) n)) none).1 i (omega (arith, within))

unsaid : (i : ℕ) (reissued : Bool) (news : Option ℕ) → short_at i reissued news ≡ [] → news ≡ None
unsaid i reissued None none = refl
unsaid i reissued (Some reach) none = let long : suc zero ≡ zero = ap length none in absurd (omega (arith, long))

as_said : (m : WatchState) (ts : List Terms) (i : ℕ) (x : EntryStanding) → news_of_entry m ts i x ≡ None → x ≡ said_standing m ts i x
unfolding said_standing
as_said m ts i x none = ap (λ news. record x { short = said_short x.short news }) (sym none)

pub nothing_said : (m : WatchState) (ts : List Terms) (xs : List EntryStanding) → shorts_in m ts xs ≡ [] → xs ≡ said_standings m ts xs
unfolding said_standings shorts_in
nothing_said m ts xs none =
    let f : ℕ → List Short = λ i. short_at i (terms_at ts i).reissued (news_of_entry m ts i (standing_in xs i)) in
    fill_by_all (λ i. said_standing m ts i (standing_in xs i)) xs (length xs) fresh_standing refl
    (λ k within. as_said m ts k (standing_in xs k) (unsaid k (terms_at ts k).reissued (news_of_entry m ts k (standing_in xs k)) (subst (λ j. f j ≡ []) (let e : 0 + k ≡ k = omega arith in e) (no_piece f 0 (length xs) none k within))))

-- ---- what is said leaves what was told

said_told : (m : WatchState) (ts : List Terms) (i : ℕ) (x : EntryStanding) → (said_standing m ts i x).told ≡ x.told
unfolding said_standing
said_told m ts i x = refl

all_told : (m : WatchState) (ts : List Terms) (xs : List EntryStanding) (i : ℕ) → (standing_in (said_standings m ts xs) i).told ≡ (standing_in xs i).told
unfolding said_standings
all_told m ts xs i =
    let f : ℕ → EntryStanding = λ j. said_standing m ts j (standing_in xs j) in
    let count = length-map-range_with_len f 0 (length xs) in
    elim (cases_lt i (length xs)) [
      | inl within ↦ ap (λ (x : EntryStanding). x.told) (get_or-map-range_with_len f 0 (length xs) i i fresh_standing within (omega arith)) ∙ said_told m ts i (standing_in xs i)
      | inr past ↦
          ap (λ (x : EntryStanding). x.told) (get_or_past (map f (range_with_len 0 (length xs))) i fresh_standing (omega (arith, past, count)) ∙ sym (get_or_past xs i fresh_standing past))
    ]

said_count : (m : WatchState) (ts : List Terms) (xs : List EntryStanding) → length (said_standings m ts xs) ≡ length xs
unfolding said_standings
said_count m ts xs = length-map-range_with_len (λ j. said_standing m ts j (standing_in xs j)) 0 (length xs)

pub said_is_agent : (a : Agent) → IsAgent a → All IsStanding (said_standings a.machine a.inventory.terms a.standings) → IsAgent (all_said a)
said_is_agent a h bounded = record {
  entries = h.entries;
  tracks = h.tracks;
  standings = said_count a.machine a.inventory.terms a.standings ∙ h.standings;
  phase = h.phase;
  bounded = bounded;
  believed = λ i. subst (λ t. Believes (track_at a.machine i).end (track_at a.machine i).renewable t) (sym (all_told a.machine a.inventory.terms a.standings i)) (h.believed i);
}
