-- The requests of a plan stay what they are from round to round.
use Rattle.std.proofs.Common.{◌≡◌, ℕ, zero, suc, ◌+◌, ◌&&◌, Bool, cond, List, [], ◌∷◌, Option, filter, length, max, nat_lt, refl, sym, ap, ◌∙◌}
use Rattle.std.proofs.Math.Path.{fun_ext}
use Rattle.std.specs.List.{range_with_len}
use Rattle.plan_forest.specs.{declared.entry.Entry.Entry, Carried.carried, Carried.carried_of, Over.is_over, Push.IsForest, Renewal.all_last, Renewal.renewed}
use Rattle.plan_forest.specs.Forest.{Forest, end_of, entry_at}
use Rattle.plan_rule.specs.{declared.wake.Wake.Wake, Ends.ends_after_wake_up}
use Rattle.plan_rule.specs.Asks.{asking, asks, first_of, is_end_due, is_to_be_asked, with_asks}
use Rattle.tick_keeper.specs.LawsOfPlans.{IsAnsweredByRule}
use Rattle.tick_keeper.proofs.Standing.{after_answers, answered_alike}
use Rattle.tick_keeper.proofs.Alike.{Alike, after_alike, all_last_alike, over_alike, renewed_alike}

-- alike, with the same needs
record Twins (es fs : List Entry) : Type 0 where
  alike : Alike es fs
  count : length fs ≡ length es
  need : (i : ℕ) → (entry_at fs i).need ≡ (entry_at es i).need

carried_of_twins : (es fs : List Entry) → Twins es fs → (s i n : ℕ) → carried_of fs s i n ≡ carried_of es s i n
unfolding carried_of
carried_of_twins es fs t s i zero = refl
carried_of_twins es fs t s i (suc n) =
    ap (λ b. cond (b && nat_lt s (entry_at fs n).need) (max (carried_of fs s i n) (entry_at fs n).need) (carried_of fs s i n)) (over_alike es fs t.alike i n)
    ∙ ap (λ (k : ℕ). cond (is_over es i n && nat_lt s k) (max (carried_of fs s i n) k) (carried_of fs s i n)) (t.need n)
    ∙ ap (λ c. cond (is_over es i n && nat_lt s (entry_at es n).need) (max c (entry_at es n).need) c) (carried_of_twins es fs t s i n)

carried_twins : (es fs : List Entry) → Twins es fs → (s i : ℕ) → carried fs s i ≡ carried es s i
unfolding carried
carried_twins es fs t s i = ap (carried_of fs s i) t.count ∙ carried_of_twins es fs t s i (length es)

wanted_twins : (es fs : List Entry) → Twins es fs → (margin s : ℕ) (ends : ℕ → ℕ) (u : ℕ) (next : Option ℕ) (i : ℕ) → is_to_be_asked fs margin s ends u next i ≡ is_to_be_asked es margin s ends u next i
unfolding is_to_be_asked
wanted_twins es fs t margin s ends u next i =
    let due = is_end_due margin next (ends i) in
    ap (λ b. b && (all_last fs ends (u + 1) i && (nat_lt (ends i) (carried fs s i) && (nat_lt (ends i) (renewed fs margin ends u i) && due)))) (t.alike.renewable i)
    ∙ ap (λ b. (entry_at es i).renewable && (b && (nat_lt (ends i) (carried fs s i) && (nat_lt (ends i) (renewed fs margin ends u i) && due)))) (all_last_alike es fs t.alike ends (u + 1) i)
    ∙ ap (λ n. (entry_at es i).renewable && (all_last es ends (u + 1) i && (nat_lt (ends i) n && (nat_lt (ends i) (renewed fs margin ends u i) && due)))) (carried_twins es fs t s i)
    ∙ ap (λ n. (entry_at es i).renewable && (all_last es ends (u + 1) i && (nat_lt (ends i) (carried es s i) && (nat_lt (ends i) n && due)))) (renewed_alike es fs t.alike margin ends u i)

asks_twins : (es fs : List Entry) → Twins es fs → (margin s : ℕ) (ends : ℕ → ℕ) (u : ℕ) (next : Option ℕ) → asks fs margin s ends u next ≡ asks es margin s ends u next
unfolding asks
asks_twins es fs t margin s ends u next =
    ap (λ (p : ℕ → Bool). filter p (range_with_len 0 (length fs))) (fun_ext λ i. wanted_twins es fs t margin s ends u next i)
    ∙ ap (λ n. filter (is_to_be_asked es margin s ends u next) (range_with_len 0 n)) t.count

with_asks_twins : (es fs : List Entry) → Twins es fs → (margin s : ℕ) (ends : ℕ → ℕ) (ts : List ℕ) → with_asks fs margin s ends ts ≡ with_asks es margin s ends ts
unfolding with_asks
with_asks_twins es fs t margin s ends [] = refl
with_asks_twins es fs t margin s ends (u ∷ ts) =
    let next = first_of ts in
    let wake : List ℕ → Wake = λ xs. record { at = u; asked = xs } in
    let go : List ℕ → (ℕ → ℕ) → List Wake = λ xs e. wake xs ∷ with_asks fs margin s e ts in
    ap (λ xs. go xs (ends_after_wake_up fs margin ends (wake xs))) (asks_twins es fs t margin s ends u next)
    ∙ ap (go (asks es margin s ends u next)) (after_alike es fs t.alike margin ends (asking es margin s ends u next))
    ∙ ap (λ ws. asking es margin s ends u next ∷ ws) (with_asks_twins es fs t margin s (ends_after_wake_up es margin ends (asking es margin s ends u next)) ts)

-- after a round that was answered by the rule, the plan asks what it asked
pub asks_on :
    (g h : Forest) → IsForest g → (t : ℕ) (ts : List ℕ) → IsAnsweredByRule g h t (first_of ts) →
    with_asks g.entries g.margin t (end_of g.entries) (t ∷ ts) ≡ asking g.entries g.margin t (end_of g.entries) t (first_of ts) ∷ with_asks h.entries h.margin t (end_of h.entries) ts
unfolding with_asks
asks_on g h forest t ts answered =
    let es = g.entries in
    let wake = asking es g.margin t (end_of es) t (first_of ts) in
    let twins : Twins es h.entries = record {
      alike = answered_alike g h forest t (first_of ts) answered;
      count = answered.count;
      need = λ i. ap (λ (e : Entry). e.need) (answered.each i);
    } in
    ap (λ (e : ℕ → ℕ). wake ∷ with_asks es g.margin t e ts) (after_answers g h t (first_of ts) answered)
    ∙ ap (λ m. wake ∷ with_asks es m t (end_of h.entries) ts) (sym answered.margin)
    ∙ ap (λ ws. wake ∷ ws) (sym (with_asks_twins es h.entries twins h.margin t (end_of h.entries) ts))
