-- Shorting: the first bound that falls short gives the moment of the next round, and the entries carry for the Asks what they carry
-- as they are seen. For step 4 of a clock.
use Rattle.std.proofs.Common.{◌≡◌, ◌∙◌, ℕ, zero, suc, ◌+◌, ◌-◌, ◌<◌, ◌≤◌, ◌==◌, true, false, ◌&&◌, if◌then◌else◌, List, Option, Some, None, length, max, min, nat_lt, refl, sym, ap, subst, arith, inl, inr}
use Rattle.std.proofs.lemmas.Bool.Decides.{nat_tests}
use Rattle.std.proofs.lemmas.Bool.{and_from, cases_eq, cases_lt, cond-true, cond-false}
use Rattle.std.specs.List.{list_any}
use Rattle.base_moment.specs.declared.moment.TheConstants.{LAST}
use Rattle.plan_needs.specs.Carried.{CarriedNeed, IsCarried, NamesFrom, load_at}
use Rattle.plan_rule.specs.Forced.{bound, latest_end}
use Rattle.plan_rule.proofs.Lists.{need_within}
use Rattle.plan_schedule.proofs.Bridge.{carried_past}
use Rattle.plan_forest.specs.{declared.entry.Entry.Entry, Carried.carried, Carried.carried_of, Over.is_over, Push.IsForest}
use Rattle.plan_forest.specs.Forest.{Forest, end_of, entry_at}
use Rattle.plan_forest.proofs.{Carrying.carried_is_of, Chains.ParentsFirst, Chains.chain_same}
use Rattle.watch_machine.specs.Round.{IsSecond}
use Rattle.watch_machine.specs.code.Rounds.{IsEarliest, IsFirstShort, first_with, is_sooner}
use Rattle.watch_machine.proofs.Tests.{and_no}

-- it is the first so far; or it is not
with_it : (first : Option ℕ) (b need : ℕ) → b < need → is_sooner b first ≡ true → first_with first b need ≡ Some b
with_it first b need short sooner =
    cond-true (nat_lt b need && is_sooner b first) (Some b) first (and_from (nat_lt b need) (is_sooner b first) (let t : nat_lt b need ≡ true = grind (arith, nat_tests) in t) sooner)

without_it : (first : Option ℕ) (b need : ℕ) → nat_lt b need && is_sooner b first ≡ false → first_with first b need ≡ first
without_it first b need no' = cond-false (nat_lt b need && is_sooner b first) (Some b) first no'

enough : (first : Option ℕ) (b need : ℕ) → need ≤ b → first_with first b need ≡ first
enough first b need at_least = without_it first b need (ap (λ t. t && is_sooner b first) (let t : nat_lt b need ≡ false = grind (arith, nat_tests) in t))

later : (f b need : ℕ) → f ≤ b → first_with (Some f) b need ≡ Some f
later f b need no_sooner = without_it (Some f) b need (and_no (nat_lt b need) (nat_lt b f) (grind (arith, nat_tests)))

sooner_test : (b f : ℕ) → b < f → nat_lt b f ≡ true
sooner_test b f h = grind (arith, nat_tests)

-- one bound more
module _ (B N : ℕ → ℕ) (n : ℕ) where
  more_none : IsFirstShort B N n None → IsFirstShort B N (n + 1) (first_with None (B n) (N n))
  more_none none =
      elim (cases_lt (B n) (N n)) [
        | inl short ↦ subst (IsFirstShort B N (n + 1)) (sym (with_it None (B n) (N n) short refl)) (record {
          entry = n;
          within = omega arith;
          is = refl;
          short = short;
          earliest = λ i below falls. elim (cases_eq i n) [
            | inl same ↦ subst (λ k. B n ≤ B k) (sym same) (omega arith)
            | inr other ↦ absurd (let e = none i (omega arith) in omega arith)
          ];
        })
        | inr least ↦ subst (IsFirstShort B N (n + 1)) (sym (enough None (B n) (N n) least)) (λ i below. elim (cases_eq i n) [
          | inl same ↦ subst (λ k. N k ≤ B k) (sym same) least
          | inr other ↦ none i (omega arith)
        ])
      ]

  -- the earliest of one more is the earliest before, where the new one does not fall short of it
  keeps_it : (f : ℕ) → IsEarliest B N n f → (B n < N n → f ≤ B n) → IsEarliest B N (n + 1) f
  keeps_it f first behind = let there = first.within in record {
    entry = first.entry;
    within = omega arith;
    is = first.is;
    short = first.short;
    earliest = λ i below falls. elim (cases_eq i n) [
      | inl same ↦ subst (λ k. f ≤ B k) (sym same) (behind (subst (λ k. B k < N k) same falls))
      | inr other ↦ first.earliest i (omega arith) falls
    ];
  }

  more_some : (f : ℕ) → IsEarliest B N n f → IsFirstShort B N (n + 1) (first_with (Some f) (B n) (N n))
  more_some f first =
      elim (cases_lt (B n) (N n)) [
        | inl short ↦ elim (cases_lt (B n) f) [
          | inl sooner ↦ subst (IsFirstShort B N (n + 1)) (sym (with_it (Some f) (B n) (N n) short (sooner_test (B n) f sooner))) (record {
            entry = n;
            within = omega arith;
            is = refl;
            short = short;
            earliest = λ i below falls. elim (cases_eq i n) [
              | inl same ↦ subst (λ k. B n ≤ B k) (sym same) (omega arith)
              | inr other ↦ (let e = first.earliest i (omega arith) falls in omega arith)
            ];
          })
          | inr behind ↦ subst (IsFirstShort B N (n + 1)) (sym (later f (B n) (N n) behind)) (keeps_it f first (λ _. behind))
        ]
        | inr least ↦ subst (IsFirstShort B N (n + 1)) (sym (enough (Some f) (B n) (N n) least)) (keeps_it f first (λ falls. absurd (omega arith)))
      ]

  pub first_more : (first : Option ℕ) → IsFirstShort B N n first → IsFirstShort B N (n + 1) (first_with first (B n) (N n))
  first_more None none = more_none none
  first_more (Some f) first = more_some f first

-- the bounds of entries by their own ends, and what they carry
abbrev pub bounds : List Entry → ℕ → ℕ → ℕ
bounds es now i = latest_end (entry_at es i) (entry_at es i).end (Some now)

abbrev pub loads_of : List CarriedNeed → ℕ → ℕ
loads_of loads i = (load_at loads i).need

-- a need that is carried is no later than the last moment
pub carried_within : (g : Forest) (s i : ℕ) → IsForest g → carried g.entries s i ≤ LAST
carried_within g s i sound =
    elim (cases_lt LAST (carried g.entries s i)) [
      | inl past ↦ (let f = carried_is_of g.entries s i LAST past in let low = need_within g sound f.0 in let high = f.3 in absurd (omega arith))
      | inr within ↦ within
    ]

pub no_second : (g : Forest) (now : ℕ) (loads : List CarriedNeed) → IsForest g → IsCarried g now loads → IsFirstShort (bounds g.entries now) (loads_of loads) (length g.entries) None → IsSecond g.entries g.margin now None
unfolding bound end_of
no_second g now loads sound is none = λ i.
    elim (cases_lt i (length g.entries)) [
      | inl within ↦ subst (λ n. n ≤ bounds g.entries now i) (is.need i within) (none i within)
      | inr past ↦ (let zero = carried_past g now i sound past in omega arith)
    ]

pub is_second :
    (g : Forest) (now t b : ℕ) (loads : List CarriedNeed) → IsForest g → IsCarried g now loads → IsEarliest (bounds g.entries now) (loads_of loads) (length g.entries) b →
    t ≡ min (b - g.margin) LAST → IsSecond g.entries g.margin now (Some t)
unfolding bound end_of
is_second g now t b loads sound is first at =
    let e = first.entry in
    let carries : loads_of loads e ≡ carried g.entries now e = is.need e first.within in
    let short : b < carried g.entries now e = subst (λ n. b < n) carries first.short in
    let last = carried_within g now e sound in
    record {
      entry = e;
      short = subst (λ n. n < carried g.entries now e) (sym first.is) short;
      earliest = λ i falls. elim (cases_lt i (length g.entries)) [
        | inl within ↦ subst (λ n. n ≤ bounds g.entries now i) (sym first.is) (first.earliest i within (subst (λ n. bounds g.entries now i < n) (sym (is.need i within)) falls))
        | inr past ↦ absurd (let zero = carried_past g now i sound past in omega arith)
      ];
      moment = at ∙ (let e : min (b - g.margin) LAST ≡ b - g.margin = omega arith in e) ∙ ap (λ n. n - g.margin) (sym first.is);
    }

-- two forests of the same parents and needs carry the same
pub record IsAlike (g h : Forest) : Type 0 where
  pub sound : ParentsFirst g.entries
  pub count : length h.entries ≡ length g.entries
  pub parents : (i : ℕ) → (entry_at h.entries i).parent ≡ (entry_at g.entries i).parent
  pub needs : (i : ℕ) → (entry_at h.entries i).need ≡ (entry_at g.entries i).need

module _ (g h : Forest) (alike : IsAlike g h) where
  over_alike : (a f : ℕ) → is_over h.entries a f ≡ is_over g.entries a f
  unfolding is_over
  over_alike a f = ap (list_any (λ b. b == a)) (chain_same (suc f) g.entries h.entries alike.sound (λ i _. alike.parents i) f (omega arith))

  carried_of_alike : (s i n : ℕ) → carried_of h.entries s i n ≡ carried_of g.entries s i n
  unfolding carried_of
  carried_of_alike s i zero = refl
  carried_of_alike s i (suc n) =
      ap (λ m. if is_over h.entries i n && nat_lt s (entry_at h.entries n).need then max m (entry_at h.entries n).need else m) (carried_of_alike s i n)
      ∙ ap (λ b. if b && nat_lt s (entry_at h.entries n).need then max (carried_of g.entries s i n) (entry_at h.entries n).need else carried_of g.entries s i n) (over_alike i n)
      ∙ ap (λ need. if is_over g.entries i n && nat_lt s need then max (carried_of g.entries s i n) need else carried_of g.entries s i n) (alike.needs n)

  carried_alike : (s i : ℕ) → carried h.entries s i ≡ carried g.entries s i
  unfolding carried
  carried_alike s i = ap (carried_of h.entries s i) alike.count ∙ carried_of_alike s i (length g.entries)

  from_alike : (s i : ℕ) (from : Option ℕ) → NamesFrom g.entries s i from → NamesFrom h.entries s i from
  from_alike s i None none = carried_alike s i ∙ none
  from_alike s i (Some needed) named = (
    subst (λ n. 0 < n) (sym (carried_alike s i)) named.0,
    record {
      over = over_alike i needed ∙ named.1.over;
      need = alike.needs needed ∙ named.1.need ∙ sym (carried_alike s i);
      lowest = λ f over need. named.1.lowest f (sym (over_alike i f) ∙ over) (sym (alike.needs f) ∙ need ∙ carried_alike s i);
    },
  )

  pub carries_alike : (s : ℕ) (loads : List CarriedNeed) → IsCarried g s loads → IsCarried h s loads
  carries_alike s loads is = record {
    count = is.count ∙ sym alike.count;
    need = λ i within. is.need i (subst (λ n. i < n) alike.count within) ∙ sym (carried_alike s i);
    from = λ i within. from_alike s i (load_at loads i).from (is.from i (subst (λ n. i < n) alike.count within));
  }
