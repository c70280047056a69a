-- Loads: what is read at an index, as callers see it and after a load was set, and the order of weights.
use Rattle.std.proofs.Common.{◌≡◌, ◌≢◌, ℕ, ◌<◌, List, get_or, length, map, set, ap, sym, subst, ◌∙◌, arith}
use Rattle.std.proofs.lemmas.List.{get_or_read, get_or-map, get_or-set_other, get_or-set_same, length-map}
use Rattle.plan_needs.specs.{declared.load.Load.Load, Carried.CarriedNeed, Carried.load_at, code.Loads.IsAtMost, code.Loads.nth, code.Loads.seen_load}

pub load_seen : (loads : List Load) (i : ℕ) → i < length loads → load_at (map seen_load loads) i ≡ seen_load (nth loads i)
unfolding load_at nth
load_seen loads i within = get_or-map seen_load loads i _ _ within

-- what `loads[i]` gives is what callers see at i
pub seen_read : (loads : List Load) (shown : List CarriedNeed) (i : ℕ) (l : Load) → map seen_load loads ≡ shown → i < length shown → l ≡ get_or loads i l → seen_load l ≡ load_at shown i
unfolding nth
seen_read loads shown i l same within read =
    let count : length (map seen_load loads) ≡ length loads = length-map loads seen_load in
    let there : i < length loads = subst (λ k. i < k) (sym (ap length same) ∙ count) within in
    ap seen_load (get_or_read loads i l there read _) ∙ sym (load_seen loads i there) ∙ ap (λ ns. load_at ns i) same

pub nth_set_same : (loads : List Load) (i : ℕ) (l : Load) → i < length loads → nth (set loads i l) i ≡ l
unfolding nth
nth_set_same loads i l within = get_or-set_same loads i l _ within

pub nth_set_other : (loads : List Load) (i j : ℕ) (l : Load) → j ≢ i → nth (set loads i l) j ≡ nth loads j
unfolding nth
nth_set_other loads i j l other = get_or-set_other loads i j l _ other

pub at_most_self : (a : Load) → IsAtMost a a
at_most_self a = record { need = omega arith; from = λ _. omega arith }

pub at_most_trans : (a b c : Load) → IsAtMost a b → IsAtMost b c → IsAtMost a c
at_most_trans a b c ab bc = record {
  need = let x = ab.need in let y = bc.need in omega arith;
  from = λ same.
      let x = ab.need in
      let y = bc.need in
      let first : a.need ≡ b.need = omega arith in
      let second : b.need ≡ c.need = omega arith in
      let p = ab.from first in
      let q = bc.from second in
      omega arith;
}
