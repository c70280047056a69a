-- Needed: what entries would carry with no limit at all is what a view carries in which their needs are written so; and what counts for each is
-- found. For `Needs` and `need_of`.
use Rattle.std.proofs.Common.{◌≡◌, ◌∙◌, ℕ, ◌+◌, ◌<◌, ◌≤◌, ◌&&◌, Bool, true, false, if◌then◌else◌, List, Option, Some, None, length, map, max, nat_lt, set, refl, sym, ap, ap₂, subst, arith, inl, inr}
use Rattle.std.proofs.lemmas.{List.get_or_past, List.Folds.list_any_at, List.FromFn.get_or-map-range_with_len, List.FromFn.length-map-range_with_len}
use Rattle.std.proofs.lemmas.Bool.{cases_eq, cases_lt, cond-false}
use Rattle.std.specs.List.{list_any, range_with_len}
use Rattle.plan_needs.specs.Carried.{CarriedNeed, IsCarried, load_at}
use Rattle.plan_forest.specs.{declared.entry.Entry.Entry, Carried.carried, Carried.carried_of, Over.is_over}
use Rattle.plan_forest.specs.Forest.{Forest, entry_at, no_entry}
use Rattle.plan_forest.proofs.Entries.{entry_at_past, entry_at_set_other, entry_at_set_same}
use Rattle.watch_machine.specs.{declared.clocks.Clocks.Clocks, declared.track.Track.Track, Clocks.sec}
use Rattle.watch_machine.specs.State.{has_last_try, no_track, track_in}
use Rattle.watch_machine.specs.Wanted.{cut_need, free_entry, free_need, need_here, need_of, seen_entry, view}
use Rattle.watch_machine.specs.code.View.{HasNeeds, IsFree, IsView, Loads, Sees, last_by, need_by}
use Rattle.watch_machine.proofs.{Carries.carries_alike, Carries.over_alike, Cases.not_both, Seeing.has_cut, View.at_shape, View.carried_more}

-- one need more that is written
pub need_written :
    (f : ℕ → ℕ) (es fs : List Entry) (n : ℕ) (e : Entry) → n < length es → fs ≡ set es n e → e.need ≡ f n → ((k : ℕ) → k < n → (entry_at es k).need ≡ f k) →
    (k : ℕ) → k < n + 1 → (entry_at fs k).need ≡ f k
need_written f es fs n e within is made each k below =
    ap (λ xs. (entry_at xs k).need) is ∙ elim (cases_eq k n) as (λ _. (entry_at (set es n e) k).need ≡ f k) [
      | inl same ↦ ap (λ j. (entry_at (set es n e) j).need) same ∙ ap (λ (x : Entry). x.need) (entry_at_set_same es n e within) ∙ made ∙ ap f (sym same)
      | inr other ↦ ap (λ (x : Entry). x.need) (entry_at_set_other es n k e other) ∙ each k (omega arith)
    ]

-- a view in which each need is written as it is on this clock carries what the entries would with no limit at all
module _ (v g : Forest) (c : Clocks) (is : IsView v g) (written : (k : ℕ) → k < length g.entries → (entry_at v.entries k).need ≡ need_here c (entry_at g.entries k).need) where
  abbrev frees : List Entry
  frees = map (free_entry g.entries c) (range_with_len 0 (length g.entries))

  free_count : length frees ≡ length g.entries
  free_count = length-map-range_with_len (free_entry g.entries c) 0 (length g.entries)

  free_at : (k : ℕ) → k < length g.entries → entry_at frees k ≡ free_entry g.entries c k
  unfolding entry_at
  free_at k within = get_or-map-range_with_len (free_entry g.entries c) 0 (length g.entries) k k no_entry within (omega arith)

  past_alike : (k : ℕ) → length g.entries ≤ k → entry_at v.entries k ≡ entry_at frees k
  past_alike k past =
      let few = is.count in
      let many = free_count in
      entry_at_past v.entries k (omega (arith, past, few)) ∙ sym (entry_at_past frees k (omega (arith, past, many)))

  parents : (k : ℕ) → (entry_at v.entries k).parent ≡ (entry_at frees k).parent
  parents k = elim (cases_lt k (length g.entries)) [
    | inl within ↦ ap (λ (e : Entry). e.parent) (at_shape v g k is within) ∙ sym (ap (λ (e : Entry). e.parent) (free_at k within))
    | inr past ↦ ap (λ (e : Entry). e.parent) (past_alike k past)
  ]

  needs : (k : ℕ) → (entry_at v.entries k).need ≡ (entry_at frees k).need
  needs k = elim (cases_lt k (length g.entries)) [
    | inl within ↦ written k within ∙ sym (ap (λ (e : Entry). e.need) (free_at k within))
    | inr past ↦ ap (λ (e : Entry). e.need) (past_alike k past)
  ]

  pub free_carried : (i : ℕ) → carried v.entries (sec c.at) i ≡ free_need g.entries c i
  unfolding free_need
  free_carried i = carries_alike frees v.entries (is.count ∙ sym free_count) parents needs (sec c.at) i

  -- and so the loads of such a view are free
  pub is_free : (xs : List Track) (loads : List CarriedNeed) → IsCarried v (sec c.at) loads → IsFree g.entries xs c (Some loads)
  is_free xs loads carries = (
    carries.count ∙ is.count,
    (λ i within. let count = is.count in carries.need i (omega (arith, within, count)) ∙ free_carried i),
  )

-- where nobody has its last try, none has
none_last : (xs : List Track) → list_any has_last_try xs ≡ false → (i : ℕ) → has_last_try (track_in xs i) ≡ false
none_last xs none i = by (has_last_try (track_in xs i)) refl where
  by : (b : Bool) → has_last_try (track_in xs i) ≡ b → has_last_try (track_in xs i) ≡ false
  by false is = is
  by true is = elim (cases_lt i (length xs)) [
    | inl within ↦ absurd (not_both (list_any_at has_last_try xs i no_track within is) none)
    | inr past ↦ absurd (let e : track_in xs i ≡ no_track = get_or_past xs i no_track past in let bad : true ≡ false = sym is ∙ ap has_last_try e in cc)
  ]

-- what is found counts for each
counts : (es : List Entry) (xs : List Track) (c : Clocks) (cut : List CarriedNeed) (free : Option (List CarriedNeed)) → length xs ≡ length es → IsFree es xs c free →
    ((i : ℕ) → i < length es → (load_at cut i).need ≡ cut_need es xs c i) → HasNeeds es xs c (record { cut = cut; last = last_by xs cut free })
unfolding need_of
counts es xs c cut None beside none carries i within =
    carries i within ∙ sym (cond-false (has_last_try (track_in xs i)) (free_need es c i) (cut_need es xs c i) (none_last xs none i))
counts es xs c cut (Some free) beside is carries i within =
    get_or-map-range_with_len (λ k. need_by (track_in xs k) (load_at cut k).need (load_at free k).need) 0 (length xs) i i (load_at cut i).need (omega (arith, within, beside)) (omega arith)
    ∙ ap₂ (λ f n. if has_last_try (track_in xs i) then f else n) (is.1 i within) (carries i within)

pub sees_all :
    (v g : Forest) (xs : List Track) (c : Clocks) (cut : List CarriedNeed) (free : Option (List CarriedNeed)) (loads : Loads) → length xs ≡ length g.entries → v.entries ≡ view g.entries xs c →
    IsCarried v (sec c.at) cut → IsFree g.entries xs c free → loads ≡ record { cut = cut; last = last_by xs cut free } → Sees v g xs c loads
sees_all v g xs c cut free loads beside seen carries is_free made = subst (Sees v g xs c) (sym made) (record {
  seen = seen;
  cut = carries;
  needs = counts g.entries xs c cut free beside is_free (has_cut v g xs c cut seen carries);
})

-- the entries by what counts of each: its need cut to no limit, or to its own
abbrev pub counted_entry : List Entry → List Track → Clocks → Bool → ℕ → Entry
counted_entry es xs c free i = if free then free_entry es c i else seen_entry es xs c i

abbrev pub counted : List Entry → List Track → Clocks → Bool → List Entry
counted es xs c free = map (counted_entry es xs c free) (range_with_len 0 (length es))

pub counted_need : (es : List Entry) (xs : List Track) (c : Clocks) (free : Bool) (i : ℕ) → (counted_entry es xs c free i).need ≡ (if free then (free_entry es c i).need else (seen_entry es xs c i).need)
counted_need es xs c true i = refl
counted_need es xs c false i = refl

module _ (es : List Entry) (xs : List Track) (c : Clocks) (free : Bool) where
  same_parent : (b : Bool) (k : ℕ) → (counted_entry es xs c b k).parent ≡ (entry_at es k).parent
  unfolding seen_entry
  same_parent true k = refl
  same_parent false k = refl

  counted_count : length (counted es xs c free) ≡ length es
  counted_count = length-map-range_with_len (counted_entry es xs c free) 0 (length es)

  counted_at : (k : ℕ) → k < length es → entry_at (counted es xs c free) k ≡ counted_entry es xs c free k
  unfolding entry_at
  counted_at k within = get_or-map-range_with_len (counted_entry es xs c free) 0 (length es) k k no_entry within (omega arith)

  counted_parent : (k : ℕ) → (entry_at (counted es xs c free) k).parent ≡ (entry_at es k).parent
  counted_parent k = elim (cases_lt k (length es)) [
    | inl within ↦ ap (λ (e : Entry). e.parent) (counted_at k within) ∙ same_parent free k
    | inr past ↦
        let many = counted_count in
        ap (λ (e : Entry). e.parent) (entry_at_past (counted es xs c free) k (omega (arith, past, many)) ∙ sym (entry_at_past es k past))
  ]

  -- one entry more that one may be over
  pub counted_more :
      (s i n most need : ℕ) (over : Bool) → n < length es → most ≡ carried_of (counted es xs c free) s i n → over ≡ is_over es i n → need ≡ (counted_entry es xs c free n).need →
      (if over && nat_lt s need then max most need else most) ≡ carried_of (counted es xs c free) s i (n + 1)
  counted_more s i n most need over within so_far is needs =
      carried_more (counted es xs c free) s i n most need over so_far (is ∙ sym (over_alike es (counted es xs c free) counted_parent i n))
      (needs ∙ sym (ap (λ (e : Entry). e.need) (counted_at n within)))

  counted_by : (b : Bool) (i : ℕ) → carried (counted es xs c b) (sec c.at) i ≡ (if b then free_need es c i else cut_need es xs c i)
  unfolding free_need cut_need
  counted_by true i = refl
  counted_by false i = refl

  -- what is carried of all of them is what counts
  pub counted_all : (i : ℕ) → free ≡ has_last_try (track_in xs i) → carried_of (counted es xs c free) (sec c.at) i (length es) ≡ need_of es xs c i
  unfolding need_of carried
  counted_all i last = ap (carried_of (counted es xs c free) (sec c.at) i) (sym counted_count) ∙ counted_by free i ∙ ap (λ b. if b then free_need es c i else cut_need es xs c i) last
