-- A round under way: those of the Asks that have answered were told the rule's end.
use Rattle.std.proofs.Common.{◌≡◌, ◌==◌, ℕ, zero, suc, ◌+◌, ◌<◌, ◌≤◌, ◌&&◌, ◌||◌, Bool, true, false, not, cond, List, [], ◌∷◌, Some, None, Ok, filter, length, nat_le, nat_lt, set, refl, sym, ap, ◌∙◌, subst, arith, inl, inr}
use Rattle.std.proofs.lemmas.Bool.Decides.{nat_tests}
use Rattle.std.proofs.lemmas.Bool.{cases_Bool, cases_eq, cases_lt, cond-true, cond-false}
use Rattle.std.specs.List.{list_any, range_with_len}
use Rattle.std.proofs.Math.Bool.{and-false, and-true}
use Rattle.plan_forest.specs.{declared.entry.Entry.Entry, Over.chain, Over.is_over, Push.IsForest, Renewal.all_last, Renewal.renewal}
use Rattle.plan_forest.specs.Forest.{Forest, end_of, entry_at}
use Rattle.plan_forest.proofs.{Carrying.and_left, Carrying.and_right, Chains.chain_same, Chains.over_self, Entries.entry_at_past, Placed.parents_first}
use Rattle.plan_rule.specs.{declared.wake.Wake.Wake, Ends.is_asked, Schedule.RisesStrictly, declared.limit.TheConstants.LIMIT}
use Rattle.plan_rule.specs.Asks.{asking, asks, first_of, is_to_be_asked}
use Rattle.plan_rule.proofs.{Alive.alive_from_last, Alive.last_from_alive, Asking.asked_end, Asking.asks_wanted}
use Rattle.tick_keeper.specs.{declared.event.Event.TheVariants.Told, declared.event.Output.Output, LawsOfPlans.IsAnsweredByRule, Refusal.step_refusal, Refusal.unless_waited_for, Replan.IsPlanOf, Replan.Replan, History.CoreTurn}
use Rattle.tick_keeper.specs.{Shorten.shorten, State.CoreState}
use Rattle.tick_keeper.specs.Step.{entry_after_answer, with_entry_changed, without_index}
use Rattle.tick_keeper.specs.declared.event.Output.TheVariants as out
use Rattle.tick_keeper.proofs.Standing.{tail_kept}
use Rattle.broker_rule.specs.Listed.{is_entry_alive}
use Rattle.tick_runs.specs.Mirrors.{with_entry_end}
use Rattle.tick_runs.proofs.Mirroring.{ended_count, ended_other, ended_same}

-- ---- lists of indices that rise

pub rises_from : (a b : ℕ) (xs : List ℕ) → a ≤ b → RisesStrictly b xs → RisesStrictly a xs
rises_from a b [] h r = tt
rises_from a b (x ∷ xs) h r = let l : b ≤ x = r.0 in (omega arith, r.1)

pub filter_rises : (p : ℕ → Bool) (n a : ℕ) → RisesStrictly a (filter p (range_with_len a n))
filter_rises p zero a = tt
filter_rises p (suc n) a =
    let rest = filter p (range_with_len (a + 1) n) in
    let more : RisesStrictly (a + 1) rest = filter_rises p n (a + 1) in
    elim (cases_Bool (p a)) [
      | inl yes' ↦ subst (λ b. RisesStrictly a (cond b (a ∷ rest) rest)) (sym yes') (omega arith, more)
      | inr no' ↦ subst (λ b. RisesStrictly a (cond b (a ∷ rest) rest)) (sym no') (rises_from a (a + 1) rest (omega arith) more)
    ]

pub not_below : (i a : ℕ) (xs : List ℕ) → i < a → RisesStrictly a xs → list_any (λ j. j == i) xs ≡ false
not_below i a [] h r = refl
not_below i a (x ∷ xs) h r =
    let l : a ≤ x = r.0 in
    let miss : (x == i) ≡ false = grind (arith, nat_tests) in
    ap (λ b. b || list_any (λ j. j == i) xs) miss ∙ not_below i (x + 1) xs (omega arith) r.1

stays_without : (i a : ℕ) (xs : List ℕ) → i < a → RisesStrictly a xs → without_index i xs ≡ xs
unfolding without_index
stays_without i a [] h r = refl
stays_without i a (x ∷ xs) h r =
    let l : a ≤ x = r.0 in
    let miss : (x == i) ≡ false = grind (arith, nat_tests) in
    ap (λ b. cond (not b) (x ∷ filter (λ j. not (j == i)) xs) (filter (λ j. not (j == i)) xs)) miss
    ∙ ap (λ ys. x ∷ ys) (stays_without i (x + 1) xs (omega arith) r.1)

pub without_first : (i : ℕ) (xs : List ℕ) → RisesStrictly (i + 1) xs → without_index i (i ∷ xs) ≡ xs
unfolding without_index
without_first i xs r =
    let hit : (i == i) ≡ true = grind (arith, nat_tests) in
    ap (λ b. cond (not b) (i ∷ filter (λ j. not (j == i)) xs) (filter (λ j. not (j == i)) xs)) hit ∙ stays_without i (i + 1) xs (omega arith) r

-- ---- the forest of a round under way

abbrev pub wake_of : Forest → ℕ → List ℕ → Wake
wake_of g t rest = asking g.entries g.margin t (end_of g.entries) t (first_of rest)

abbrev pub is_among : List ℕ → ℕ → Bool
is_among xs i = list_any (λ j. j == i) xs

-- h is g, in which those of the Asks that are no more in `todo` have the rule's end
pub record Midway (g : Forest) (t : ℕ) (rest todo : List ℕ) (h : Forest) : Type 0 where
  pub margin : h.margin ≡ g.margin
  pub count : length h.entries ≡ length g.entries
  pub each : (i : ℕ) → entry_at h.entries i
      ≡ record (entry_at g.entries i) { end = cond (is_asked (wake_of g t rest) i && not (is_among todo i)) (renewal (entry_at g.entries i) t) (entry_at g.entries i).end }
  pub asked : (i : ℕ) → is_among todo i ≡ true → is_asked (wake_of g t rest) i ≡ true
  pub low : ℕ
  pub rises : RisesStrictly low todo

and_not : (b : Bool) → b && not b ≡ false
and_not true = refl
and_not false = refl

pub midway_first : (g : Forest) (t : ℕ) (rest : List ℕ) → Midway g t rest (asks g.entries g.margin t (end_of g.entries) t (first_of rest)) g
unfolding is_asked asks
midway_first g t rest = record {
  margin = refl;
  count = refl;
  each = λ i. sym (ap (λ b. record (entry_at g.entries i) { end = cond b (renewal (entry_at g.entries i) t) (entry_at g.entries i).end })
      (and_not (is_among (asks g.entries g.margin t (end_of g.entries) t (first_of rest)) i)));
  asked = λ i there. there;
  low = 0;
  rises = filter_rises (is_to_be_asked g.entries g.margin t (end_of g.entries) t (first_of rest)) (length g.entries) 0;
}

pub midway_last : (g : Forest) (t : ℕ) (rest : List ℕ) (h : Forest) → Midway g t rest [] h → IsAnsweredByRule g h t (first_of rest)
midway_last g t rest h m = record {
  margin = m.margin;
  count = m.count;
  each = λ i. m.each i ∙ ap (λ b. record (entry_at g.entries i) { end = cond b (renewal (entry_at g.entries i) t) (entry_at g.entries i).end }) (and-true (is_asked (wake_of g t rest) i));
}

pub here_first : (i : ℕ) (xs : List ℕ) → is_among (i ∷ xs) i ≡ true
here_first i xs = let hit : (i == i) ≡ true = grind (arith, nat_tests) in ap (λ b. b || is_among xs i) hit

-- who is still to answer is as before the round
pub as_it_was : (g : Forest) (t : ℕ) (rest todo : List ℕ) (h : Forest) → Midway g t rest todo h → (i : ℕ) → is_among todo i ≡ true → entry_at h.entries i ≡ entry_at g.entries i
as_it_was g t rest todo h m i there =
    m.each i
    ∙ ap (λ b. record (entry_at g.entries i) { end = cond (is_asked (wake_of g t rest) i && not b) (renewal (entry_at g.entries i) t) (entry_at g.entries i).end }) there
    ∙ ap (λ b. record (entry_at g.entries i) { end = cond b (renewal (entry_at g.entries i) t) (entry_at g.entries i).end }) (and-false (is_asked (wake_of g t rest) i))

pub margin_of : (h : Forest) (i end : ℕ) → (with_entry_end h i end).margin ≡ h.margin
unfolding with_entry_end
margin_of h i end = refl

pub midway_more :
    (g : Forest) (t : ℕ) (rest : List ℕ) (i : ℕ) (todo : List ℕ) (h : Forest) → Midway g t rest (i ∷ todo) h → i < length h.entries →
    Midway g t rest todo (with_entry_end h i (renewal (entry_at h.entries i) t))
midway_more g t rest i todo h m within =
    let end = renewal (entry_at h.entries i) t in
    let k = with_entry_end h i end in
    let asked : ℕ → Bool = is_asked (wake_of g t rest) in
    let was = as_it_was g t rest (i ∷ todo) h m i (here_first i todo) in
    let gone : is_among todo i ≡ false = not_below i (i + 1) todo (omega arith) m.rises.1 in
    let on : asked i && not (is_among todo i) ≡ true = ap (λ b. asked i && not b) gone ∙ ap (λ b. b && true) (m.asked i (here_first i todo)) in
    record {
      margin = margin_of h i end ∙ m.margin;
      count = ended_count h i end ∙ m.count;
      each = λ j. elim (cases_eq j i) [
        | inl here ↦
            ap (entry_at k.entries) here ∙ ended_same h i end within
            ∙ ap (λ (e : Entry). record e { end = renewal e t }) was
            ∙ ap (λ b. record (entry_at g.entries i) { end = cond b (renewal (entry_at g.entries i) t) (entry_at g.entries i).end }) (sym on)
            ∙ ap (λ n. record (entry_at g.entries n) { end = cond (asked n && not (is_among todo n)) (renewal (entry_at g.entries n) t) (entry_at g.entries n).end }) (sym here)
        | inr apart ↦
            let miss : (i == j) ≡ false = grind (arith, nat_tests) in
            ended_other h i end j apart ∙ m.each j
            ∙ ap (λ b. record (entry_at g.entries j) { end = cond (asked j && not (b || is_among todo j)) (renewal (entry_at g.entries j) t) (entry_at g.entries j).end }) miss
      ];
      asked = λ j there. m.asked j (or_too (i == j) (is_among todo j) there);
      low = i + 1;
      rises = m.rises.1;
    } where
      or_too : (a b : Bool) → b ≡ true → a || b ≡ true
      or_too true b e = refl
      or_too false b e = e

-- ends only grow
pub ends_grow : (g : Forest) (t : ℕ) (rest todo : List ℕ) (h : Forest) → Midway g t rest todo h → (a : ℕ) → (entry_at g.entries a).end ≤ (entry_at h.entries a).end
unfolding end_of
ends_grow g t rest todo h m a =
    let e = entry_at g.entries a in
    let asked = is_asked (wake_of g t rest) a in
    let is : (entry_at h.entries a).end ≡ cond (asked && not (is_among todo a)) (renewal e t) e.end = ap (λ (x : Entry). x.end) (m.each a) in
    elim (cases_Bool (asked && not (is_among todo a))) [
      | inl yes' ↦
          let wanted = sym (asks_wanted g.entries g.margin t (λ k. (entry_at g.entries k).end) t (first_of rest) a) ∙ and_left asked (not (is_among todo a)) yes' in
          let grows : e.end < renewal e t = (asked_end g.entries g.margin t (λ k. (entry_at g.entries k).end) t (first_of rest) a wanted).1 in
          let now = is ∙ cond-true (asked && not (is_among todo a)) (renewal e t) e.end yes' in
          omega arith
      | inr no' ↦ let now = is ∙ cond-false (asked && not (is_among todo a)) (renewal e t) e.end no' in omega arith
    ]

pub midway_chain : (g : Forest) → IsForest g → (t : ℕ) (rest todo : List ℕ) (h : Forest) → Midway g t rest todo h → (i : ℕ) → chain h.entries i ≡ chain g.entries i
midway_chain g forest t rest todo h m i = chain_same (suc i) g.entries h.entries (parents_first g forest) (λ k _. ap (λ (e : Entry). e.parent) (m.each k)) i (omega arith)

-- what is known of an entry that is still to answer
pub record IsDue (g h : Forest) (t i : ℕ) : Type 0 where
  pub was : entry_at h.entries i ≡ entry_at g.entries i
  pub able : (entry_at h.entries i).renewable ≡ true
  pub within : i < length h.entries
  pub alive : is_entry_alive h t i ≡ true
  pub later : t < (entry_at h.entries i).end
  pub grows : (entry_at h.entries i).end < renewal (entry_at h.entries i) t

pub is_due : (g : Forest) → IsForest g → (t : ℕ) (rest todo : List ℕ) (h : Forest) → Midway g t rest todo h → (i : ℕ) → is_among todo i ≡ true → IsDue g h t i
unfolding is_to_be_asked is_entry_alive end_of is_over
is_due g forest t rest todo h m i there =
    let es = g.entries in
    let ends : ℕ → ℕ = λ k. (entry_at es k).end in
    let was = as_it_was g t rest todo h m i there in
    let wanted : is_to_be_asked es g.margin t ends t (first_of rest) i ≡ true = sym (asks_wanted es g.margin t ends t (first_of rest) i) ∙ m.asked i there in
    let able : (entry_at es i).renewable ≡ true = and_left (entry_at es i).renewable _ wanted in
    let alive : all_last es ends (t + 1) i ≡ true = and_left (all_last es ends (t + 1) i) _ (and_right (entry_at es i).renewable _ wanted) in
    let all = alive_from_last es ends t i alive in
    let now : all_last h.entries (λ k. (entry_at h.entries k).end) (t + 1) i ≡ true = last_from_alive h.entries (λ k. (entry_at h.entries k).end) t i (λ a over.
    let before : t < (entry_at es a).end = all a (ap (list_any (λ b. b == a)) (sym (midway_chain g forest t rest todo h m i)) ∙ over) in
    let grown : (entry_at es a).end ≤ (entry_at h.entries a).end = ends_grow g t rest todo h m a in
    omega arith) in
    let inside : i < length es = elim (cases_lt i (length es)) [
      | inl h' ↦ h'
      | inr past ↦ absurd (let none : (entry_at es i).renewable ≡ false = ap (λ (x : Entry). x.renewable) (entry_at_past es i past) in cc)
    ] in
    let more : (entry_at es i).end < renewal (entry_at es i) t = (asked_end es g.margin t ends t (first_of rest) i wanted).1 in
    let first : t < (entry_at es i).end = all i (over_self es i) in
    record {
      was = was;
      able = ap (λ (e : Entry). e.renewable) was ∙ able;
      within = let c = m.count in omega arith;
      alive = now;
      later = subst (λ (e : Entry). t < e.end) (sym was) first;
      grows = subst (λ (e : Entry). e.end < renewal e t) (sym was) more;
    }

-- ---- the keeper's turn

abbrev pub waiting : Forest → ℕ → List ℕ → List ℕ → CoreState
waiting h t rest todo = record { forest = h; last = t; to_come = rest; round = Some (record { at = t; unanswered = todo }); shortened = [] }

abbrev pub settled : Forest → ℕ → List ℕ → CoreState
settled h t rest = record { forest = h; last = t; to_come = rest; round = None; shortened = [] }

abbrev pub heard_as : List ℕ → List ℕ → Output
heard_as rest [] = out.Round (first_of rest)
heard_as rest (j ∷ more) = out.Waiting

abbrev pub heard_state : Forest → ℕ → List ℕ → List ℕ → CoreState
heard_state h t rest [] = settled h t rest
heard_state h t rest (j ∷ more) = waiting h t rest (j ∷ more)

takes_told : (h : Forest) (t : ℕ) (rest : List ℕ) (i : ℕ) (todo : List ℕ) (n : ℕ) → i < length h.entries → n ≤ 4294967295 → step_refusal (waiting h t rest (i ∷ todo)) (Told i n true) ≡ None
unfolding step_refusal
takes_told h t rest i todo n within small =
    let s = waiting h t rest (i ∷ todo) in
    let a : nat_lt 4294967295 n ≡ false = grind (arith, nat_tests) in
    let b : nat_le (length h.entries) i ≡ false = grind (arith, nat_tests) in
    cond-false (nat_lt 4294967295 n) _ (unless_waited_for s i) a
    ∙ cond-false (nat_le (length h.entries) i) _ _ b
    ∙ cond-true (is_among (i ∷ todo) i) None _ (here_first i todo)

told_change :
    (h : Forest) (t i n : ℕ) → (entry_at h.entries i).renewable ≡ true → t + n ≡ renewal (entry_at h.entries i) t →
    with_entry_changed h i (entry_after_answer t (Told i n true)) ≡ with_entry_end h i (renewal (entry_at h.entries i) t)
unfolding entry_after_answer with_entry_end
told_change h t i n able sums =
    let e = entry_at h.entries i in
    let put : Entry → Forest = λ x. record { entries = set h.entries i x; margin = h.margin } in
    ap (λ k. put (record e { end = k; renewable = true })) sums
    ∙ ap (λ b. put (record e { end = renewal e t; renewable = b })) (sym able)

-- an answer by the rule is taken, and leads on
pub told_turn :
    (g : Forest) → IsForest g → (t : ℕ) (rest : List ℕ) (i : ℕ) (todo : List ℕ) (h : Forest) → IsPlanOf g t (t ∷ rest) → length rest ≤ LIMIT → Midway g t rest (i ∷ todo) h → IsDue g h t i →
    (n : ℕ) → n ≤ 4294967295 → t + n ≡ renewal (entry_at h.entries i) t →
    CoreTurn (waiting h t rest (i ∷ todo)) (Told i n true) (Ok (heard_as rest todo)) (heard_state (with_entry_end h i (renewal (entry_at h.entries i) t)) t rest todo)
told_turn g forest t rest i [] h plan few m due n small sums =
    let end = renewal (entry_at h.entries i) t in
    let k = with_entry_end h i end in
    let changed = told_change h t i n due.able sums in
    let after = midway_last g t rest k (midway_more g t rest i [] h m due.within) in
    let stays = tail_kept g k t rest forest plan after in
    let replan : Replan (settled k t rest) t (settled k t rest) = record {
      moments = rest;
      best = subst (λ x. IsPlanOf x t rest) (sym stays.0) stays.1.1;
      few = few;
      is = ap (λ x. settled x t rest) (sym stays.0) ∙ ap (λ ps. record (settled (shorten k t) t rest) { shortened = ps }) (sym stays.1.0);
    } in (
      takes_told h t rest i [] n due.within small,
      (
        record { at = t; unanswered = i ∷ [] },
        (refl, (without_first i [] tt, (subst (λ x. Replan (settled x t rest) t (settled k t rest)) (sym changed) replan, refl))),
      ),
    )
told_turn g forest t rest i (j ∷ more) h plan few m due n small sums =
    let end = renewal (entry_at h.entries i) t in
    let gone = without_first i (j ∷ more) m.rises.1 in (
      takes_told h t rest i (j ∷ more) n due.within small,
      (
        record { at = t; unanswered = i ∷ j ∷ more },
        (
          refl,
          (
            (λ none. let bad : j ∷ more ≡ [] = sym gone ∙ none in absurd cc),
            ap (λ x. waiting x t rest (j ∷ more)) (sym (told_change h t i n due.able sums))
                ∙ ap (λ xs. waiting (with_entry_changed h i (entry_after_answer t (Told i n true))) t rest xs) (sym gone),
          ),
        ),
      ),
    )
