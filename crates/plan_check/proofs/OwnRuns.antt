-- The end of an entry that is asked by itself, over the moments of a run and of a list of runs.
use Rattle.std.proofs.Common.{◌≡◌, ℕ, suc, zero, ◌+◌, ◌-◌, ◌*◌, ◌<◌, ◌≤◌, ◌⊎◌, ◌++◌, true, List, [], ◌∷◌, Option, Some, None, max, refl, sym, ap, ◌∙◌, subst, arith, inl, inr}
use Rattle.plan_forest.specs.{declared.entry.Entry.Entry, Renewal.capped, Renewal.renewal}
use Rattle.plan_rule.proofs.Keeping.{IsRising, renewal_later}
use Rattle.plan_rule.specs.{declared.force.Force.Force, declared.run.Run.Run}
use Rattle.plan_rule.specs.Runs.{all_wakes, moments_of, wakes, wakes_of}
use Rattle.plan_check.specs.{Kept.own_after, Kept.own_end, code.Steps.Stops}
use Rattle.plan_check.proofs.{OwnEnds.own_stuck, OwnEnds.own_yes, Longs.new_capped, Longs.new_free, Run.run_first}

-- where the step does not bridge the gap, the end decides; where it does, the ceiling, if there is one

pub renewal_most : (e : Entry) (t : ℕ) → renewal e t ≤ t + e.step
unfolding renewal capped
renewal_most e t = by_ceiling e.ceiling where
  by_ceiling : (c : Option ℕ) → capped c (t + e.step) ≤ t + e.step
  by_ceiling None = omega arith
  by_ceiling (Some n) = omega arith

pub stops_early : (e : Entry) (margin end gap t k n : ℕ) → e.step < gap + margin → t + margin ≤ end → t + k * gap ≤ end - margin → (k ≡ n) ⊎ (end - margin < t + k * gap + gap) → Stops e margin end gap t k n
stops_early e margin end gap t k n short first low stop = record {
  reach = end;
  within = λ u h. omega arith;
  last = omega arith;
  stop = elim stop [ inl all ↦ inl all | inr later ↦ inr (let l = renewal_most e (t + k * gap) in omega arith) ];
}

pub stops_at_ceiling :
    (e : Entry) (margin end gap t k n c : ℕ) → gap + margin ≤ e.step → e.ceiling ≡ Some c → t + margin ≤ end → t + k * gap ≤ max end c - margin →
    (k ≡ n) ⊎ (max end c - margin < t + k * gap + gap) → Stops e margin end gap t k n
stops_at_ceiling e margin end gap t k n c bridged is first low stop = record {
  reach = max end c;
  within = λ u h. let l = new_capped e u c is in omega (arith, l);
  last = omega arith;
  stop = elim stop [ inl all ↦ inl all | inr later ↦ inr (let l = new_capped e (t + k * gap) c is in omega (arith, l)) ];
}

pub stops_at_last : (e : Entry) (margin end gap t n : ℕ) → gap + margin ≤ e.step → e.ceiling ≡ None → Stops e margin end gap t n n
stops_at_last e margin end gap t n bridged is = record {
  reach = t + n * gap + margin;
  within = λ u h. let l = new_free e u is in omega (arith, l);
  last = omega arith;
  stop = inl refl;
}

-- over moments at equal distances

spaced_rising : (t gap n entry needed : ℕ) → IsRising t (moments_of (wakes_of t gap n entry needed))
unfolding wakes_of
spaced_rising t gap zero entry needed = tt
spaced_rising t gap (suc n) entry needed = (omega arith, later gap t (t + gap) n (omega arith)) where
  later : (g low u m : ℕ) → low ≤ u → IsRising low (moments_of (wakes_of u g m entry needed))
  later g low u zero h = tt
  later g low u (suc m) h = (h, later g u (u + g) m (omega arith))

own_spaced :
    (e : Entry) (margin end gap reach entry needed : ℕ) → e.renewable ≡ true → ((u : ℕ) → u + gap + margin ≤ reach → u + gap + margin ≤ max end (renewal e u)) → (k n t v : ℕ) →
    v ≡ t + k * gap → k ≤ n → v + margin ≤ reach → (k ≡ n) ⊎ (max end (renewal e v) < v + gap + margin) →
    own_end e margin (max end (renewal e t)) (moments_of (wakes_of (t + gap) gap n entry needed)) ≡ max end (renewal e v)
unfolding wakes_of own_end
own_spaced e margin end gap reach entry needed renewable within zero zero t v at few last stop =
    let same : t ≡ v = omega arith in ap (λ u. max end (renewal e u)) same
own_spaced e margin end gap reach entry needed renewable within zero (suc n) t v at few last stop =
    let same : t ≡ v = omega arith in
    let late : max end (renewal e t) < t + gap + margin = subst (λ u. max end (renewal e u) < u + gap + margin) (sym same) (elim stop [ inl none ↦ absurd (omega arith) | inr h ↦ h ]) in
    own_stuck e margin (max end (renewal e t)) (t + gap) (moments_of (wakes_of (t + gap) gap (suc n) entry needed)) (spaced_rising (t + gap) gap (suc n) entry needed) late
    ∙ ap (λ u. max end (renewal e u)) same
own_spaced e margin end gap reach entry needed renewable within (suc k) zero t v at few last stop = absurd (omega arith)
own_spaced e margin end gap reach entry needed renewable within (suc k) (suc n) t v at few last stop =
    let near : t + gap + margin ≤ max end (renewal e t) = within t (omega arith) in
    let is = own_yes e margin (max end (renewal e t)) (t + gap) renewable near in
    let later = renewal_later e t (t + gap) (omega arith) in
    let next : own_after e margin (max end (renewal e t)) (t + gap) ≡ max end (renewal e (t + gap)) = omega (arith, is, later) in
    ap (λ m. own_end e margin m (moments_of (wakes_of (t + gap + gap) gap n entry needed))) next
    ∙ own_spaced e margin end gap reach entry needed renewable within k n (t + gap) v (omega arith) (omega arith) last (elim stop [ inl all ↦ inl (omega arith) | inr h ↦ inr h ])

pub own_run :
    (e : Entry) (margin end : ℕ) (r : Run) (k : ℕ) → e.renewable ≡ true → 0 < r.count → r.first + margin ≤ end → k ≤ r.count - 1 → Stops e margin end r.step r.first k (r.count - 1) →
    max end (renewal e (r.first + k * r.step)) ≡ own_end e margin end (moments_of (wakes r))
unfolding own_end
own_run e margin end r k renewable some first few stops =
    sym (ap (λ ws. own_end e margin end (moments_of ws)) (run_first r.first r.step r.count r.entry r.needed some)
    ∙ ap (λ m. own_end e margin m (moments_of (wakes_of (r.first + r.step) r.step (r.count - 1) r.entry r.needed))) (own_yes e margin end r.first renewable first)
    ∙ own_spaced e margin end r.step stops.reach r.entry r.needed renewable stops.within k (r.count - 1) r.first (r.first + k * r.step) refl few stops.last stops.stop)

-- over a list of runs

pub own_append : (e : Entry) (margin end : ℕ) (ws vs : List Force) → own_end e margin end (moments_of (ws ++ vs)) ≡ own_end e margin (own_end e margin end (moments_of ws)) (moments_of vs)
unfolding own_end
own_append e margin end [] vs = refl
own_append e margin end (w ∷ ws) vs = own_append e margin (own_after e margin end w.at) ws vs

pub own_turn : (e : Entry) (margin end now total : ℕ) (r : Run) (rs : List Run) → own_end e margin end (moments_of (all_wakes (r ∷ rs))) ≡ total → now ≡ own_end e margin end (moments_of (wakes r)) → own_end e margin now (moments_of (all_wakes rs)) ≡ total
own_turn e margin end now total r rs whole is = ap (λ m. own_end e margin m (moments_of (all_wakes rs))) is ∙ sym (own_append e margin end (wakes r) (all_wakes rs)) ∙ whole

pub own_nothing : (e : Entry) (margin end : ℕ) → own_end e margin end [] ≡ end
unfolding own_end
own_nothing e margin end = refl

rising_tail : (low : ℕ) (ws vs : List Force) → IsRising low (moments_of (ws ++ vs)) → (from : ℕ) × IsRising from (moments_of vs)
rising_tail low [] vs rising = (low, rising)
rising_tail low (w ∷ ws) vs rising = rising_tail w.at ws vs rising.1

pub rising_turn : (low : ℕ) (r : Run) (rs : List Run) → IsRising low (moments_of (all_wakes (r ∷ rs))) → (from : ℕ) × IsRising from (moments_of (all_wakes rs))
rising_turn low r rs rising = rising_tail low (wakes r) (all_wakes rs) rising

-- an end that the first moment of the first run finds too near stays
pub own_done :
    (e : Entry) (margin end low : ℕ) (r : Run) (rs : List Run) → 0 < r.count → IsRising low (moments_of (all_wakes (r ∷ rs))) → end < r.first + margin →
    own_end e margin end (moments_of (all_wakes (r ∷ rs))) ≡ end
own_done e margin end low r rs some rising late =
    let us : List Force = record { at = r.first; entry = r.entry; needed = r.needed } ∷ wakes_of (r.first + r.step) r.step (r.count - 1) r.entry r.needed in
    let same = run_first r.first r.step r.count r.entry r.needed some in
    let risen : IsRising low (moments_of (us ++ all_wakes rs)) = subst (λ (ws : List Force). IsRising low (moments_of (ws ++ all_wakes rs))) same rising in
    ap (λ (ws : List Force). own_end e margin end (moments_of (ws ++ all_wakes rs))) same
    ∙ own_stuck e margin end r.first (moments_of (us ++ all_wakes rs)) (omega arith, risen.1) late

-- what is read past the last run
abbrev pub blank : Run
blank = record { first = 0; step = 0; count = 0; entry = 0; needed = 0 }
