-- Moves between the groups: one that has reached its need leaves, one whose end a wake-up reaches joins.
use Rattle.std.proofs.Common.{◌≡◌, ◌≢◌, ℕ, ◌+◌, ◌<◌, ◌≤◌, ◌⊎◌, List, ◌∷◌, length, Some, refl, sym, ap, subst, arith, inl, inr}
use Rattle.std.proofs.lemmas.{Bool.cases_eq, List.Elements.All-cons, List.Elements.All-contains, List.Elements.All-tail}
use Rattle.std.proofs.lemmas.{List.Sorted.All-permutation, List.Sorted.Contains-permutation, List.Sorted.IsPermutation-sym, List.Sorted.length_permutation}
use Rattle.std.specs.{List.Contains, List.Sorted.IsPermutation}
use Rattle.plan_schedule.specs.{declared.groups.Groups.Groups, declared.groups.Turn.TheVariants.Comes, declared.groups.Turn.TheVariants.Leaves}
use Rattle.plan_schedule.specs.{code.Groups.IsGrouped, code.Groups.IsKeyed, code.Groups.IsTurnOfGroups, code.Groups.Shrinks, code.Groups.size_of_groups}
use Rattle.plan_schedule.specs.{code.Line.FirstOf, code.Line.IsFirstInLine, code.Line.Lined, code.Line.Spot, code.Line.spot, Prospect.Prospect, Prospect.terms_of, Terms.Ahead, Terms.Terms}
use Rattle.plan_schedule.proofs.Lines.{contains_cons, contains_head, contains_more}

-- what stays in a line that another leaves
stays : (old new : List Spot) (k f l i : ℕ) → IsPermutation old (spot k f ∷ new) → i ≢ f → Contains old (spot l i) → Contains new (spot l i)
stays old new k f l i moved other among =
    elim (contains_cons (spot l i) (spot k f) new (Contains-permutation old (spot k f ∷ new) (spot l i) moved among)) [
      | inl same ↦ absurd (other (sym (ap (λ (x : Spot). x.0.1) same)))
      | inr rest ↦ rest
    ]

-- what is in a line that another left was there before
was : (old new : List Spot) (x y : Spot) → IsPermutation old (x ∷ new) → Contains new y → Contains old y
was old new x y moved among = Contains-permutation (x ∷ new) old y (IsPermutation-sym old (x ∷ new) moved) (contains_more y x new among)

keyed_left : (key : ℕ → ℕ) (n : ℕ) (old new : List Spot) (x : Spot) → IsPermutation old (x ∷ new) → IsKeyed key n old → IsKeyed key n new
keyed_left key n old new x moved keyed = All-tail (λ (y : Spot). (y.0.0 ≡ key y.0.1) × (y.0.1 < n)) x new (All-permutation (λ (y : Spot). (y.0.0 ≡ key y.0.1) × (y.0.1 < n)) old (x ∷ new) moved keyed)

left_length : (old new : List Spot) (x : Spot) → IsPermutation old (x ∷ new) → length old ≡ length new + 1
left_length old new x moved = let e = length_permutation old (x ∷ new) moved in omega arith

more_length : (old new : List Spot) (x : Spot) → IsPermutation (x ∷ old) new → length new ≡ length old + 1
more_length old new x moved = let e = length_permutation (x ∷ old) new moved in omega arith

pub first_within : (key : ℕ → ℕ) (n f : ℕ) (spots : List Spot) → IsKeyed key n spots → Contains spots (spot (key f) f) → f < n
first_within key n f spots keyed among = (All-contains (λ (x : Spot). (x.0.0 ≡ key x.0.1) × (x.0.1 < n)) spots (spot (key f) f) keyed among).1

-- the first that has joined has reached its need, and left
pub left :
    (o : Prospect) (v f : ℕ) (old new : Groups) → IsGrouped o (Some v) old → (terms_of o).need f ≤ v + (terms_of o).step f →
    IsPermutation old.joined.spots (spot ((terms_of o).step f) f ∷ new.joined.spots) → new.joined.room ≡ old.joined.room → new.waits ≡ old.waits →
    IsGrouped o (Some v) new × (size_of_groups new < size_of_groups old)
left o v f old new grouped done moved room waits =
    let g = grouped.grouped in
    let filed = grouped.filed in
    let fewer = left_length old.joined.spots new.joined.spots (spot ((terms_of o).step f) f) moved in
    let same : new.waits.spots ≡ old.waits.spots = ap (λ (l : Lined). l.spots) waits in
    let length_same : length new.waits.spots ≡ length old.waits.spots = ap length same in
    let r = filed.room in (
      record {
        filed = record {
          waits = subst (IsKeyed (terms_of o).end (length o.loads)) (sym same) filed.waits;
          joined = keyed_left (terms_of o).step (length o.loads) old.joined.spots new.joined.spots (spot ((terms_of o).step f) f) moved filed.joined;
          room = omega arith;
        };
        grouped = record {
          all = λ i short. elim (g.all i short) [
            | inl w ↦ inl (subst (λ l. Contains l (spot ((terms_of o).end i) i)) (sym same) w)
            | inr j ↦ elim (cases_eq i f) [
              | inl e ↦ absurd (let at : (terms_of o).need f ≡ (terms_of o).need i = ap (terms_of o).need (sym e) in let step : (terms_of o).step f ≡ (terms_of o).step i = ap (terms_of o).step (sym e) in omega arith)
              | inr other ↦ inr (stays old.joined.spots new.joined.spots ((terms_of o).step f) f ((terms_of o).step i) i moved other j)
            ]
          ];
          short = λ i w. g.short i (subst (λ l. Contains l (spot ((terms_of o).end i) i)) same w);
          joined = λ i j. g.joined i (was old.joined.spots new.joined.spots (spot ((terms_of o).step f) f) (spot ((terms_of o).step i) i) moved j);
        };
      },
      omega arith,
    )

pub joins_was : (t : Terms) (f i : ℕ) (old new : List Spot) → IsPermutation (spot (t.step f) f ∷ old) new → Contains new (spot (t.step i) i) → (f ≡ i) ⊎ Contains old (spot (t.step i) i)
joins_was t f i old new added j =
    elim (contains_cons (spot (t.step i) i) (spot (t.step f) f) old (Contains-permutation new (spot (t.step f) f ∷ old) (spot (t.step i) i) (IsPermutation-sym (spot (t.step f) f ∷ old) new added) j)) [
      | inl same ↦ inl (ap (λ (x : Spot). x.0.1) same)
      | inr rest ↦ inr rest
    ]

-- the first that waits has its end reached, and joined
pub joined :
    (o : Prospect) (v f : ℕ) (old new : Groups) → IsGrouped o (Some v) old → f < length o.loads → (terms_of o).end f ≤ v + (terms_of o).step f →
    IsPermutation old.waits.spots (spot ((terms_of o).end f) f ∷ new.waits.spots) → IsPermutation (spot ((terms_of o).step f) f ∷ old.joined.spots) new.joined.spots → old.joined.room ≤ new.joined.room →
    IsGrouped o (Some v) new × (size_of_groups new + 1 ≡ size_of_groups old)
joined o v f old new grouped within reached moved added room =
    let g = grouped.grouped in
    let filed = grouped.filed in
    let fewer = left_length old.waits.spots new.waits.spots (spot ((terms_of o).end f) f) moved in
    let more = more_length old.joined.spots new.joined.spots (spot ((terms_of o).step f) f) added in
    let r = filed.room in (
      record {
        filed = record {
          waits = keyed_left (terms_of o).end (length o.loads) old.waits.spots new.waits.spots (spot ((terms_of o).end f) f) moved filed.waits;
          joined = All-permutation (λ (y : Spot). (y.0.0 ≡ (terms_of o).step y.0.1) × (y.0.1 < length o.loads)) (spot ((terms_of o).step f) f ∷ old.joined.spots) new.joined.spots added (All-cons (λ (y : Spot). (y.0.0 ≡ (terms_of o).step y.0.1) × (y.0.1 < length o.loads)) (spot ((terms_of o).step f) f) old.joined.spots (refl, within) filed.joined);
          room = omega arith;
        };
        grouped = record {
          all = λ i short. elim (g.all i short) [
            | inl w ↦ elim (cases_eq i f) [
              | inl e ↦ inr (Contains-permutation (spot ((terms_of o).step f) f ∷ old.joined.spots) new.joined.spots (spot ((terms_of o).step i) i) added (subst (λ k. Contains (spot ((terms_of o).step f) f ∷ old.joined.spots) (spot ((terms_of o).step k) k)) (sym e) (contains_head (spot ((terms_of o).step f) f) old.joined.spots)))
              | inr other ↦ inl (stays old.waits.spots new.waits.spots ((terms_of o).end f) f ((terms_of o).end i) i moved other w)
            ]
            | inr j ↦ inr (Contains-permutation (spot ((terms_of o).step f) f ∷ old.joined.spots) new.joined.spots (spot ((terms_of o).step i) i) added (contains_more (spot ((terms_of o).step i) i) (spot ((terms_of o).step f) f) old.joined.spots j))
          ];
          short = λ i w. g.short i (was old.waits.spots new.waits.spots (spot ((terms_of o).end f) f) (spot ((terms_of o).end i) i) moved w);
          joined = λ i j. elim (joins_was (terms_of o) f i old.joined.spots new.joined.spots added j) [
            | inl same ↦ subst (λ k. (terms_of o).end k ≤ v + (terms_of o).step k) same reached
            | inr rest ↦ g.joined i rest
          ];
        };
      },
      omega arith,
    )

pub shrinks_more : (o : Prospect) (v : ℕ) (first old new : Groups) → Shrinks o v first old → IsGrouped o (Some v) new → size_of_groups new < size_of_groups old → Shrinks o v first new
shrinks_more o v first old new shrinks grouped less =
    let f = shrinks.fewer in
    record { grouped = grouped; fewer = omega arith; same = λ e. absurd (omega arith) }

-- none stands ahead of the first
pub none_ahead : (key : ℕ → ℕ) (f : ℕ) (spots : List Spot) → IsFirstInLine spots (spot (key f) f) → (i : ℕ) → Contains spots (spot (key i) i) → Ahead (key f) f (key i) i
none_ahead key f spots first i among = All-contains (λ (y : Spot). Ahead (key f) f y.0.0 y.0.1) spots (spot (key i) i) first.ahead among

pub turn_left :
    (o : Prospect) (v f : ℕ) (first old new : Groups) → Shrinks o v first old → IsTurnOfGroups o v old (Leaves f) →
    ((x : Spot) → IsFirstInLine old.joined.spots x → IsPermutation old.joined.spots (x ∷ new.joined.spots)) → new.joined.room ≡ old.joined.room → new.waits ≡ old.waits →
    Shrinks o v first new × (size_of_groups new < size_of_groups old)
turn_left o v f first old new shrinks turn moved room waits =
    let done = left o v f old new shrinks.grouped turn.1.1 (moved (spot ((terms_of o).step f) f) turn.0) room waits in
    (shrinks_more o v first old new shrinks done.0 done.1, done.1)

pub turn_joined :
    (o : Prospect) (v f : ℕ) (first old new : Groups) → Shrinks o v first old → IsTurnOfGroups o v old (Comes f) → (terms_of o).end f ≤ v + (terms_of o).step f →
    IsPermutation old.waits.spots (spot ((terms_of o).end f) f ∷ new.waits.spots) → IsPermutation (spot ((terms_of o).step f) f ∷ old.joined.spots) new.joined.spots → old.joined.room ≤ new.joined.room →
    Shrinks o v first new × (size_of_groups new < size_of_groups old)
turn_joined o v f first old new shrinks turn reached moved added room =
    let done = joined o v f old new shrinks.grouped turn.1.0 reached moved added room in
    let e = done.1 in
    let less : size_of_groups new < size_of_groups old = omega arith in
    (shrinks_more o v first old new shrinks done.0 less, less)

-- the key of the first of a line
pub first_key : (key : ℕ → ℕ) (n h : ℕ) (spots : List Spot) → IsKeyed key n spots → FirstOf spots (Some h) → IsFirstInLine spots (spot (key h) h)
first_key key n h spots keyed (k, first) =
    let is : k ≡ key h = (All-contains (λ (y : Spot). (y.0.0 ≡ key y.0.1) × (y.0.1 < n)) spots (spot k h) keyed first.among).0 in
    subst (λ l. IsFirstInLine spots (spot l h)) is first
