-- A round whose answers were the rule's so far: at its opening, with one answer more, and when it is answered.
use Rattle.std.proofs.Common.{◌≡◌, ◌==◌, ◌∙◌, ℕ, ◌+◌, ◌<◌, ◌≤◌, ◌&&◌, Bool, true, false, cond, not, List, [], ◌∷◌, Option, Some, None, length, nat_lt, set, refl, sym, ap, subst, arith, inl, inr}
use Rattle.std.proofs.lemmas.{Bool.cases_Bool, Bool.cases_eq, Bool.Decides.nat_tests}
use Rattle.std.proofs.lemmas.List.{get_or-set_other, get_or-set_same, length-set}
use Rattle.std.specs.List.{list_any}
use Rattle.std.proofs.Math.Bool.{and-true}
use Rattle.plan_forest.specs.{declared.entry.Entry.Entry, Push.IsForest, Renewal.renewal}
use Rattle.plan_forest.specs.Forest.{Forest, end_of, entry_at}
use Rattle.plan_forest.proofs.{Carrying.and_left, Entries.entry_at_set_other, Entries.entry_at_set_same}
use Rattle.plan_rule.specs.{Ends.is_asked, Schedule.RisesStrictly, declared.force.Force.Force, Runs.moments_of}
use Rattle.plan_rule.specs.Asks.{asking, asks, first_of, is_to_be_asked}
use Rattle.plan_rule.proofs.{Asking.asks_wanted, Existence.there_is_one, Keeping.one_least, Schedule.schedule_is_best}
use Rattle.plan_search.specs.Planned.{Planned, next_after, to_come}
use Rattle.tick_keeper.specs.{InForce.AllForcedAs, LawsOfPlans.IsAnsweredByRule, Replan.IsPlanOf, Shorten.pairs, Shorten.shorten}
use Rattle.tick_keeper.specs.code.Keeping.{RoundIsByRule, flag_of, waited_for}
use Rattle.tick_keeper.proofs.{Forces.still_forced, Standing.best_keepable, Standing.tail_kept, Waiting.waits_flag}

-- the moments of a least and latest plan rise strictly
pub rises_strictly : (g : Forest) → IsForest g → (s : ℕ) (ts : List ℕ) → IsPlanOf g s ts → RisesStrictly s ts
rises_strictly g forest s ts best =
    let ends = end_of g.entries in
    let keepable = best_keepable g s ts best in
    let schedule = there_is_one g s ends forest keepable in
    let is = schedule_is_best g s ends forest keepable schedule.0 schedule.1 in
    subst (RisesStrictly s) (one_least g.entries g.margin s ends schedule.0 ts is.1.1.1 best) is.0

-- so the next moment after the first is that of the second wake-up
pub next_is : (t : ℕ) (x : Force) (rest : List Force) → x.at ≡ t → RisesStrictly (x.at + 1) (moments_of rest) → next_after t (x ∷ rest) ≡ first_of (moments_of rest)
next_is t x [] at rises = let here : nat_lt t x.at ≡ false = grind (arith, nat_tests) in ap (λ b. cond b (Some x.at) None) here
next_is t x (y ∷ ys) at rises =
    let here : nat_lt t x.at ≡ false = grind (arith, nat_tests) in
    let later : x.at + 1 ≤ y.at = rises.0 in
    let there : nat_lt t y.at ≡ true = grind (arith, nat_tests) in
    ap (λ b. cond b (Some x.at) (cond (nat_lt t y.at) (Some y.at) (next_after t ys))) here ∙ ap (λ b. cond b (Some y.at) (next_after t ys)) there

neither : (a b : Bool) → (a ≡ true → b ≡ true) → a && not b ≡ false
neither true true f = refl
neither true false f = absurd (let y = f refl in cc)
neither false b f = refl

-- at the opening nobody has answered
pub opens_by_rule :
    (h : Forest) → IsForest h → (t : ℕ) (x : Force) (p : Planned) → x.at ≡ t → IsPlanOf h t (t ∷ moments_of (to_come p)) → AllForcedAs h.entries h.margin t (end_of h.entries) None (x ∷ to_come p) →
    (flags : List Bool) → waited_for flags ≡ asks h.entries h.margin t (end_of h.entries) t (first_of (moments_of (to_come p))) → RoundIsByRule h t p flags
unfolding is_asked
opens_by_rule h forest t x p at best forced flags same =
    let next = first_of (moments_of (to_come p)) in
    let asked : ℕ → Bool = λ i. list_any (λ j. j == i) (asks h.entries h.margin t (end_of h.entries) t next) in
    record {
      g = h;
      forest = forest;
      x = x;
      at = at;
      best = best;
      forced = forced;
      margin = refl;
      count = refl;
      asked = λ i yes'. ap (list_any (λ j. j == i)) (sym same) ∙ waits_flag flags i ∙ yes';
      each = λ i.
          let none = neither (asked i) (flag_of flags i) (λ yes'. sym (waits_flag flags i) ∙ ap (list_any (λ j. j == i)) same ∙ yes') in
          ap (λ b. record (entry_at h.entries i) { end = cond b (renewal (entry_at h.entries i) t) (entry_at h.entries i).end }) (sym none);
    }

asked_renewable : (es : List Entry) (margin t : ℕ) (ends : ℕ → ℕ) (next : Option ℕ) (i : ℕ) → is_asked (asking es margin t ends t next) i ≡ true → (entry_at es i).renewable ≡ true
unfolding is_to_be_asked
asked_renewable es margin t ends next i asked = and_left (entry_at es i).renewable _ (sym (asks_wanted es margin t ends t next i) ∙ asked)

-- an entry that is waited for is as it was at the opening
pub waits_as_was : (h : Forest) (t : ℕ) (p : Planned) (flags : List Bool) (rule : RoundIsByRule h t p flags) (i : ℕ) → flag_of flags i ≡ true → entry_at h.entries i ≡ entry_at rule.g.entries i
waits_as_was h t p flags rule i yes' =
    let g = rule.g in
    let asked = is_asked (asking g.entries g.margin t (end_of g.entries) t (first_of (moments_of (to_come p)))) i in
    rule.each i
    ∙ ap (λ b. record (entry_at g.entries i) { end = cond (asked && not b) (renewal (entry_at g.entries i) t) (entry_at g.entries i).end }) yes'
    ∙ ap (λ b. record (entry_at g.entries i) { end = cond b (renewal (entry_at g.entries i) t) (entry_at g.entries i).end }) (neither asked true (λ _. refl))

-- one more answer that is the rule's
pub more_by_rule :
    (h : Forest) (t : ℕ) (p : Planned) (flags : List Bool) → RoundIsByRule h t p flags → (i end : ℕ) → i < length flags → i < length h.entries → flag_of flags i ≡ true →
    end ≡ renewal (entry_at h.entries i) t →
    RoundIsByRule (record { entries = set h.entries i (record (entry_at h.entries i) { end = end; renewable = true }); margin = h.margin }) t p (set flags i false)
more_by_rule h t p flags rule i end there within yes' is =
    let g = rule.g in
    let next = first_of (moments_of (to_come p)) in
    let asked : ℕ → Bool = λ k. is_asked (asking g.entries g.margin t (end_of g.entries) t next) k in
    let was = waits_as_was h t p flags rule i yes' in
    let e : Entry = record (entry_at h.entries i) { end = end; renewable = true } in
    let able = asked_renewable g.entries g.margin t (end_of g.entries) next i (rule.asked i yes') in
    record {
      g = g;
      forest = rule.forest;
      x = rule.x;
      at = rule.at;
      best = rule.best;
      forced = rule.forced;
      margin = rule.margin;
      count = length-set h.entries i e ∙ rule.count;
      asked = λ k still. elim (cases_eq k i) [
        | inl same ↦ absurd (let no' : flag_of (set flags i false) k ≡ false = ap (flag_of (set flags i false)) same ∙ get_or-set_same flags i false false there in cc)
        | inr apart ↦ rule.asked k (sym (get_or-set_other flags i k false false apart) ∙ still)
      ];
      each = λ k. elim (cases_eq k i) [
        | inl same ↦
            let off : flag_of (set flags i false) k ≡ false = ap (flag_of (set flags i false)) same ∙ get_or-set_same flags i false false there in
            let on : asked k && not (flag_of (set flags i false) k) ≡ true = ap (λ b. asked k && not b) off ∙ ap (λ b. b && true) (ap asked same ∙ rule.asked i yes') in
            ap (entry_at (set h.entries i e)) same ∙ entry_at_set_same h.entries i e within
            ∙ ap (λ n. record (entry_at h.entries i) { end = n; renewable = true }) is
            ∙ ap (λ (w : Entry). record w { end = renewal w t; renewable = true }) was
            ∙ ap (λ b. record (entry_at g.entries i) { end = renewal (entry_at g.entries i) t; renewable = b }) (sym able)
            ∙ ap (λ (n : ℕ). record (entry_at g.entries n) { end = renewal (entry_at g.entries n) t }) (sym same)
            ∙ ap (λ b. record (entry_at g.entries k) { end = cond b (renewal (entry_at g.entries k) t) (entry_at g.entries k).end }) (sym on)
        | inr apart ↦
            entry_at_set_other h.entries i k e apart ∙ rule.each k
            ∙ ap (λ b. record (entry_at g.entries k) { end = cond (asked k && not b) (renewal (entry_at g.entries k) t) (entry_at g.entries k).end }) (sym (get_or-set_other flags i k false false apart))
      ];
    }

no_flag : (flags : List Bool) (i : ℕ) → waited_for flags ≡ [] → flag_of flags i ≡ false
no_flag flags i none = elim (cases_Bool (flag_of flags i)) [
  | inr no' ↦ no'
  | inl yes' ↦ absurd (let bad : true ≡ false = sym (waits_flag flags i ∙ yes') ∙ ap (list_any (λ j. j == i)) none in cc)
]

-- where all have answered, the rest of the plan is what planning anew gives, with its forces, and nothing is shortened
pub closes_by_rule :
    (h : Forest) (t : ℕ) (p : Planned) (flags : List Bool) → RoundIsByRule h t p flags → waited_for flags ≡ [] →
    (shorten h t ≡ h) × (pairs h t ≡ []) × IsPlanOf h t (moments_of (to_come p)) × AllForcedAs h.entries h.margin t (end_of h.entries) None (to_come p)
closes_by_rule h t p flags rule none =
    let g = rule.g in
    let next = first_of (moments_of (to_come p)) in
    let asked : ℕ → Bool = λ k. is_asked (asking g.entries g.margin t (end_of g.entries) t next) k in
    let answered : IsAnsweredByRule g h t next = record {
      margin = rule.margin;
      count = rule.count;
      each = λ i. rule.each i
          ∙ ap (λ b. record (entry_at g.entries i) { end = cond (asked i && not b) (renewal (entry_at g.entries i) t) (entry_at g.entries i).end }) (no_flag flags i none)
          ∙ ap (λ b. record (entry_at g.entries i) { end = cond b (renewal (entry_at g.entries i) t) (entry_at g.entries i).end }) (and-true (asked i));
    } in
    let stays = tail_kept g h t (moments_of (to_come p)) rule.forest rule.best answered in
    let best : IsPlanOf g t (moments_of (rule.x ∷ to_come p)) = subst (λ n. IsPlanOf g t (n ∷ moments_of (to_come p))) (sym rule.at) rule.best in
    let forced = (still_forced g t rule.x (to_come p) rule.forest best rule.forced).1 in
    let at_x : AllForcedAs h.entries h.margin rule.x.at (end_of h.entries) None (to_come p) = forced h (subst (λ n. IsAnsweredByRule g h n next) (sym rule.at) answered) in
    (stays.0, stays.1.0, stays.1.1, subst (λ n. AllForcedAs h.entries h.margin n (end_of h.entries) None (to_come p)) rule.at at_x)
