-- The law of existence: where no pair is Unkeepable, there is a schedule. Its moments rise, and all lie before LAST.
use Rattle.std.proofs.Common.{ℕ, zero, suc, ◌+◌, ◌-◌, ◌<◌, ◌≤◌, ◌⊎◌, List, [], ◌∷◌, Option, Some, None, length, refl, sym, subst, arith, inl, inr}
use Rattle.std.proofs.lemmas.Bool.{cases_eq, cases_lt}
use Rattle.base_moment.specs.declared.moment.TheConstants.{LAST}
use Rattle.plan_forest.specs.{Carried.carried, Forest.Forest, Push.IsForest}
use Rattle.plan_rule.specs.{Forced.bound, Laws.ExistenceLaw, Unkeepable.AllKeepable, Schedule.IsNextMoment, Schedule.IsSchedule}
use Rattle.plan_rule.proofs.{Keeping.end_below_bound, Next.Comes, Next.can_be_led, Next.next_comes, Next.renewable_within}

-- the earliest of the ends that fall short among the first n
record Earliest (need end : ℕ → ℕ) (n : ℕ) : Type 0 where
  entry : ℕ
  short : end entry < need entry
  first : (i : ℕ) → i < n → end i < need i → end entry ≤ end i

one_more : (P : ℕ → Type 0) (n : ℕ) → ((i : ℕ) → i < n → P i) → P n → (i : ℕ) → i < suc n → P i
one_more P n each here i h = elim (cases_eq i n) [ inl same ↦ subst P (sym same) here | inr other ↦ each i (omega arith) ]

find_earliest : (need end : ℕ → ℕ) (n : ℕ) → ((i : ℕ) → i < n → need i ≤ end i) ⊎ Earliest need end n
find_earliest need end zero = inl (λ i h. absurd (omega arith))
find_earliest need end (suc n) =
    elim (cases_lt (end n) (need n)) [
      | inr lasts ↦ elim (find_earliest need end n) [
        | inl all ↦ inl (one_more (λ i. need i ≤ end i) n all lasts)
        | inr found ↦ inr (keeps found (λ falls. absurd (omega arith)))
      ]
      | inl short ↦ elim (find_earliest need end n) [
        | inl all ↦ inr (takes short (λ i h falls. absurd (let l = all i h in omega arith)))
        | inr found ↦ elim (cases_lt (end n) (end found.entry)) [
          | inl sooner ↦ inr (takes short (λ i h falls. let l = found.first i h falls in omega arith))
          | inr later ↦ inr (keeps found (λ falls. later))
        ]
      ]
    ] where
      takes : end n < need n → ((i : ℕ) → i < n → end i < need i → end n ≤ end i) → Earliest need end (suc n)
      takes short before = record { entry = n; short = short; first = one_more (λ i. end i < need i → end n ≤ end i) n before (λ falls. omega arith) }

      keeps : (found : Earliest need end n) → (end n < need n → end found.entry ≤ end n) → Earliest need end (suc n)
      keeps found here = record { entry = found.entry; short = found.short; first = one_more (λ i. end i < need i → end found.entry ≤ end i) n found.first here }

-- after a wake-up there is a next moment, or no bound falls short
next_or_done :
    (g : Forest) (s : ℕ) (ends : ℕ → ℕ) → AllKeepable g s ends → (prev : Option ℕ) →
    IsSchedule g.entries g.margin s ends prev [] ⊎ ((t : ℕ) × IsNextMoment g.entries g.margin s ends prev t)
next_or_done g s ends keepable prev =
    let es = g.entries in
    let within : (i : ℕ) → bound es ends prev i < carried es s i → i < length es =
    λ i short. let from : ends i ≤ bound es ends prev i = end_below_bound es ends prev i in
    renewable_within es i (can_be_led g s ends keepable i (omega arith)).renewable in
    elim (find_earliest (carried es s) (bound es ends prev) (length es)) [
      | inl all ↦ inl (λ i. elim (cases_lt (bound es ends prev i) (carried es s i)) [ inl short ↦ absurd (let l = all i (within i short) in omega arith) | inr lasts ↦ lasts ])
      | inr found ↦ inr (
        bound es ends prev found.entry - g.margin,
        record { entry = found.entry; short = found.short; earliest = λ i short. found.first i (within i short) short; moment = refl },
      )
    ]

-- no more than n moments can still come after prev
abbrev Left : ℕ → Option ℕ → Type 0
Left n None = LAST + 1 < n
Left n (Some t) = LAST < t + n

one_less : (g : Forest) (s : ℕ) (ends : ℕ → ℕ) (n : ℕ) (prev : Option ℕ) (t : ℕ) → Comes g s ends prev t → Left (suc n) prev → Left n (Some t)
one_less g s ends n None t next left = omega arith
one_less g s ends n (Some u) t next left = let l : u < t = next.behind u refl in omega arith

none_left : (g : Forest) (s : ℕ) (ends : ℕ → ℕ) (prev : Option ℕ) (t : ℕ) → Comes g s ends prev t → Left zero prev → ⊥
none_left g s ends None t next left = absurd (omega arith)
none_left g s ends (Some u) t next left = let l : u < t = next.behind u refl in let k : t < LAST = next.within in absurd (omega arith)

schedule_behind :
    (g : Forest) → IsForest g → (s : ℕ) (ends : ℕ → ℕ) → AllKeepable g s ends → (n : ℕ) (prev : Option ℕ) → Left n prev →
    (ts : List ℕ) × IsSchedule g.entries g.margin s ends prev ts
schedule_behind g forest s ends keepable zero prev left =
    elim (next_or_done g s ends keepable prev) [
      | inl done ↦ ([], done)
      | inr next ↦ absurd (none_left g s ends prev next.0 (next_comes g forest s ends keepable prev next.0 next.1) left)
    ]
schedule_behind g forest s ends keepable (suc n) prev left =
    elim (next_or_done g s ends keepable prev) [
      | inl done ↦ ([], done)
      | inr next ↦
          let fewer = one_less g s ends n prev next.0 (next_comes g forest s ends keepable prev next.0 next.1) left in
          let rest = schedule_behind g forest s ends keepable n (Some next.0) fewer in
          (next.0 ∷ rest.0, (next.1, rest.1))
    ]

pub there_is_one : ExistenceLaw
there_is_one g s ends forest keepable = schedule_behind g forest s ends keepable (LAST + 2) None (omega arith)
