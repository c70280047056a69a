-- Trying: what counts for an entry at its top that has its last try, and for one that is not there. For the laws of needs, of times and of tops.
use Rattle.std.proofs.Common.{◌≡◌, ◌∙◌, ℕ, ◌/◌, ◌≤◌, Bool, true, false, ◌&&◌, if◌then◌else◌, List, Option, ap, subst, sym, arith, inl, inr}
use Rattle.std.proofs.lemmas.Bool.{cases_Bool, cond-false, cond-true}
use Rattle.plan_forest.specs.declared.entry.Entry.{Entry}
use Rattle.watch_machine.specs.{declared.clocks.Clocks.Clocks, declared.track.End.End, declared.track.End.TheVariants.At, declared.track.Grant.Grant, declared.track.Track.Track, State.has_last_try, State.track_in}
use Rattle.watch_machine.specs.Margins.{asking_margin, lead, own_by, own_margin, time, time_before}
use Rattle.watch_machine.specs.Wanted.{cut_need, free_need, need_of}

-- the need of an entry that is not at its top is cut to its limit; and that of one with its last try is not
pub need_cut : (es : List Entry) (xs : List Track) (c : Clocks) (i : ℕ) → (track_in xs i).top ≡ false → need_of es xs c i ≡ cut_need es xs c i
unfolding need_of
need_cut es xs c i led = ap (λ b. if b && (track_in xs i).last_try then free_need es c i else cut_need es xs c i) led

pub need_free : (es : List Entry) (xs : List Track) (c : Clocks) (i : ℕ) → has_last_try (track_in xs i) ≡ true → need_of es xs c i ≡ free_need es c i
unfolding need_of
need_free es xs c i tries = cond-true (has_last_try (track_in xs i)) (free_need es c i) (cut_need es xs c i) tries

-- one that is not at its top is asked its own margin before its end, one with its last try half of that; nobody is asked sooner
pub asking_own : (margin : ℕ) (e : Entry) (x : Track) → x.top ≡ false → asking_margin margin e x ≡ own_margin margin e x
unfolding asking_margin
asking_own margin e x led = ap (λ b. if b && x.last_try then own_margin margin e x / 2 else own_margin margin e x) led

half_least : (b : Bool) (n : ℕ) → (if b then n / 2 else n) ≤ n
half_least true n = omega arith
half_least false n = omega arith

pub asking_least : (margin : ℕ) (e : Entry) (x : Track) → asking_margin margin e x ≤ own_margin margin e x
unfolding asking_margin
asking_least margin e x = half_least (has_last_try x) (own_margin margin e x)

-- an own margin is by the margin, the step and the last grant
pub own_same : (m n : ℕ) (e f : Entry) (y x : Track) → m ≡ n → e.step ≡ f.step → y.grant ≡ x.grant → own_margin m e y ≡ own_margin n f x
unfolding own_margin
own_same m n e f y x margin step grant =
    ap (λ k. own_by k (lead e.step y.grant)) margin ∙ ap (λ k. own_by n (lead k y.grant)) step ∙ ap (λ (g : Option Grant). own_by n (lead f.step g)) grant

-- whoever is asked longer before its end is asked sooner
pub before_sooner : (it : End) (long short : ℕ) → short ≤ long → time_before it long ≤ time_before it short
before_sooner (At end) long short le = omega (arith, le)
before_sooner _ long short le = omega arith

-- so the time of an entry comes no later where as much is known of it, and it has its last try only where it had it
pub time_sooner :
    (m n : ℕ) (e f : Entry) (y x : Track) → m ≡ n → e.step ≡ f.step → y.end ≡ x.end → y.grant ≡ x.grant → (has_last_try y ≡ true → has_last_try x ≡ true) → time m e y ≤ time n f x
unfolding time asking_margin
time_sooner m n e f y x margin step ends grant fewer =
    let own = own_same m n e f y x margin step grant in
    let a = own_margin m e y in
    let b = own_margin n f x in
    let long = if has_last_try y then a / 2 else a in
    let short = if has_last_try x then b / 2 else b in
    let less : short ≤ long =
    elim (cases_Bool (has_last_try y)) as (λ _. short ≤ long) [
      | inl yes' ↦ (let l = cond-true (has_last_try x) (b / 2) b (fewer yes') in let r = cond-true (has_last_try y) (a / 2) a yes' in omega (arith, own, l, r))
      | inr no' ↦ (let l = half_least (has_last_try x) b in let r = cond-false (has_last_try y) (a / 2) a no' in omega (arith, own, l, r))
    ] in
    subst (λ it. time_before it long ≤ time_before x.end short) (sym ends) (before_sooner x.end long short less)

-- and at the same second where it has its last try just where it had it
pub time_same :
    (m n : ℕ) (e f : Entry) (y x : Track) → m ≡ n → e.step ≡ f.step → y.end ≡ x.end → y.grant ≡ x.grant → has_last_try y ≡ has_last_try x → time m e y ≡ time n f x
time_same m n e f y x margin step ends grant tries =
    let one = time_sooner m n e f y x margin step ends grant (λ t. sym tries ∙ t) in
    let two = time_sooner n m f e x y (sym margin) (sym step) (sym ends) (sym grant) (λ t. tries ∙ t) in
    omega (arith, one, two)
