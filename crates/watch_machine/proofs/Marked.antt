-- Marked: a loop makes anew, one after another, the tracks of the entries that a list names. One that is named twice is made as if it
-- were named once. For those whom a round asks, and for those whose requests go out.
use Rattle.std.proofs.Common.{◌≡◌, ◌∙◌, ℕ, ◌+◌, ◌<◌, ◌≤◌, Bool, true, false, ◌||◌, ◌==◌, if◌then◌else◌, List, [], ◌∷◌, get_or, length, map, refl, set, sym, take, ap, arith, inl, inr}
use Rattle.std.proofs.lemmas.{Bool.cases_eq, Bool.Decides.nat_tests, List.Folds.list_any-append, List.FromFn.get_or-map-range_with_len, List.FromFn.length-map-range_with_len}
use Rattle.std.proofs.lemmas.List.{ext_get_or, get_or-set_other, get_or-set_same, length-set, take_all, take_more}
use Rattle.std.specs.List.{list_any, range_with_len}
use Rattle.watch_machine.specs.declared.track.Track.{Track}
use Rattle.watch_machine.specs.State.{each, no_track, track_in}

-- the track of an entry, made anew by f where one of these names it
abbrev pub marked : {R : Type 0} → (R → ℕ) → (ℕ → Track → Track) → List R → ℕ → Track → Track
marked key f rs i x = if list_any (λ r. key r == i) rs then f i x else x

-- those that the first k name are made anew, the others are as they were
pub record Marked {R : Type 0} (key : R → ℕ) (f : ℕ → Track → Track) (old now : List Track) (rs : List R) (k : ℕ) : Type 0 where
  pub count : length now ≡ length old
  pub each : (i : ℕ) → i < length old → track_in now i ≡ marked key f (take k rs) i (track_in old i)

or_true : (b : Bool) → b || true ≡ true
or_true true = refl
or_true false = refl

or_none : (b : Bool) → b || false ≡ b
or_none true = refl
or_none false = refl

-- what is made anew twice is made anew once
twice : (f : ℕ → Track → Track) (i : ℕ) (x : Track) (b : Bool) → f i (f i x) ≡ f i x → f i (if b then f i x else x) ≡ f i x
twice f i x true again = again
twice f i x false again = refl

module _ {R : Type 0} (key : R → ℕ) (f : ℕ → Track → Track) where
  -- none is named yet
  pub marked_none : (old : List Track) (rs : List R) → Marked key f old old rs 0
  marked_none old rs = record { count = refl; each = λ i below. refl }

  -- one more is named
  pub marked_more :
      ((i : ℕ) (x : Track) → f i (f i x) ≡ f i x) → (old now next : List Track) (rs : List R) (k : ℕ) (r : R) → Marked key f old now rs k → k < length rs → r ≡ get_or rs k r →
      next ≡ set now (key r) (f (key r) (track_in now (key r))) → Marked key f old next rs (k + 1)
  marked_more again old now next rs k r so within is made = record {
    count = ap length made ∙ length-set now (key r) (f (key r) (track_in now (key r))) ∙ so.count;
    each = λ i below.
        let x = track_in old i in
        let e = key r in
        let count = so.count in
        let test : R → Bool = λ s. key s == i in
        let so_far = list_any test (take k rs) in
        let any : list_any test (take (k + 1) rs) ≡ so_far || (e == i || false) =
        ap (list_any test) (take_more rs k r within) ∙ list_any-append test (take k rs) (get_or rs k r ∷ []) ∙ ap (λ (s : R). so_far || (key s == i || false)) (sym is) in
        elim (cases_eq e i) [
          | inl same ↦
              let yes' : e == i ≡ true = grind (arith, nat_tests) in
              let all : list_any test (take (k + 1) rs) ≡ true = any ∙ ap (λ b. so_far || (b || false)) yes' ∙ or_true so_far in
              ap (λ xs. track_in xs i) made ∙ ap (λ n. track_in (set now n (f n (track_in now n))) i) same
              ∙ get_or-set_same now i (f i (track_in now i)) no_track (omega (arith, count, below)) ∙ ap (f i) (so.each i below) ∙ twice f i x so_far (again i x)
              ∙ sym (ap (λ b. if b then f i x else x) all)
          | inr other ↦
              let no' : e == i ≡ false = grind (arith, nat_tests) in
              let all : list_any test (take (k + 1) rs) ≡ so_far = any ∙ ap (λ b. so_far || (b || false)) no' ∙ or_none so_far in
              ap (λ xs. track_in xs i) made ∙ get_or-set_other now e i (f e (track_in now e)) no_track (λ eq. other (sym eq)) ∙ so.each i below
              ∙ sym (ap (λ b. if b then f i x else x) all)
        ];
  }

  -- all are
  pub marked_all : (old now : List Track) (rs : List R) (k : ℕ) → Marked key f old now rs k → length rs ≤ k → now ≡ each (marked key f rs) old
  unfolding each
  marked_all old now rs k so past =
      let g : ℕ → Track = λ i. marked key f rs i (track_in old i) in
      let count = so.count in
      ext_get_or no_track now (map g (range_with_len 0 (length old))) (so.count ∙ sym (length-map-range_with_len g 0 (length old)))
      (λ i below.
      so.each i (omega (arith, count, below)) ∙ ap (λ ss. marked key f ss i (track_in old i)) (take_all k rs past)
      ∙ sym (get_or-map-range_with_len g 0 (length old) i i no_track (omega (arith, count, below)) (omega arith)))
