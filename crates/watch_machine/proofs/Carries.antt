-- Carries: what entries carry, and would with no limit at all, is the same while these needs are ahead; and entries of the same parents and
-- needs carry the same. For lulls and lines.
use Rattle.std.proofs.Common.{◌≡◌, ◌∙◌, ℕ, zero, suc, ◌-◌, ◌<◌, ◌≤◌, ◌==◌, Bool, true, false, ◌&&◌, if◌then◌else◌, List, [], ◌∷◌, Option, Some, None, length, map, max, min, nat_lt, option_map, refl, ap, ap₂, arith, inl, inr}
use Rattle.std.proofs.Math.Path.{fun_ext}
use Rattle.std.proofs.lemmas.Bool.{cases_lt}
use Rattle.std.specs.List.{list_any, range_with_len}
use Rattle.base_moment.specs.declared.moment.TheConstants.{LAST}
use Rattle.plan_forest.specs.{declared.entry.Entry.Entry, declared.forest.TheConstants.END_MAX, Carried.carried, Carried.carried_of, Forest.entry_at}
use Rattle.plan_forest.specs.Over.{chain, chain_of, is_over}
use Rattle.plan_forest.proofs.Carrying.{carried_at_least, carried_is_of}
use Rattle.watch_machine.specs.{declared.clocks.BrokerOffset.BrokerOffset, declared.clocks.Clocks.Clocks, declared.clocks.WallOffset.WallOffset, declared.track.Track.Track, State.has_last_try, State.track_in, code.Lull.GoesOn}
use Rattle.watch_machine.specs.Clocks.{of_wall, sec, to_here}
use Rattle.watch_machine.specs.Wanted.{believed, cut_need, free_entry, free_need, limit, need_here, need_of, seen_entry}

-- while time passes, no more is carried
pub carried_less : (es : List Entry) (s t i : ℕ) → s ≤ t → carried es t i ≤ carried es s i
carried_less es s t i later =
    elim (cases_lt (carried es s i) (carried es t i)) [
      | inl more ↦
          let f = carried_is_of es t i (carried es s i) more in
          let l : (entry_at es f.0).need ≤ carried es s i = carried_at_least es s i f.0 f.1 (omega (arith, f.2)) in
          absurd (omega (arith, f.3))
      | inr no_more ↦ no_more
    ]

-- and as much, as long as the need is ahead
pub carried_same : (es : List Entry) (s t i : ℕ) → s ≤ t → t < carried es s i → carried es t i ≡ carried es s i
carried_same es s t i later ahead =
    let c = carried es s i in
    let less = carried_less es s t i later in
    let f = carried_is_of es s i (c - 1) (omega arith) in
    let most = f.3 in
    let l : (entry_at es f.0).need ≤ carried es t i = carried_at_least es t i f.0 f.1 (omega arith) in
    omega arith

-- an entry is seen as before while the other clocks go beside this one as before
abbrev seen_by : Entry → Track → ℕ → BrokerOffset → WallOffset → Entry
seen_by e x most broker wall = record e {
  end = believed x.end;
  renewable = x.renewable;
  ceiling = option_map (λ t. min END_MAX (to_here broker t)) e.ceiling;
  need = min (if e.need == 0 then 0 else min LAST (max (to_here broker e.need) (to_here (of_wall wall) e.need))) most;
}

seen_on : (es : List Entry) (xs : List Track) (c d : Clocks) → c.broker ≡ d.broker → c.wall ≡ d.wall → (i : ℕ) → seen_entry es xs c i ≡ seen_entry es xs d i
unfolding seen_entry need_here
seen_on es xs c d broker wall i = ap₂ (seen_by (entry_at es i) (track_in xs i) (limit es xs i)) broker wall

free_on : (es : List Entry) (c d : Clocks) → c.broker ≡ d.broker → c.wall ≡ d.wall → (i : ℕ) → free_entry es c i ≡ free_entry es d i
unfolding need_here
free_on es c d broker wall i =
    let e = entry_at es i in
    ap₂ (λ b w. record e { need = if e.need == 0 then 0 else min LAST (max (to_here b e.need) (to_here (of_wall w) e.need)) }) broker wall

carries_on :
    (f h : ℕ → Entry) (n i : ℕ) (new old : Clocks) → GoesOn new old → ((k : ℕ) → f k ≡ h k) →
    (0 < carried (map h (range_with_len 0 n)) (sec old.at) i → sec new.at < carried (map h (range_with_len 0 n)) (sec old.at) i) →
    carried (map f (range_with_len 0 n)) (sec new.at) i ≡ carried (map h (range_with_len 0 n)) (sec old.at) i
unfolding sec
carries_on f h n i new old on same ahead =
    let v = map h (range_with_len 0 n) in
    let s = sec old.at in
    let t = sec new.at in
    let later : s ≤ t = (let at = on.at in omega (arith, at)) in
    ap (λ (k : ℕ → Entry). carried (map k (range_with_len 0 n)) t i) (fun_ext same)
    ∙ elim (cases_lt 0 (carried v s i)) as (λ _. carried v t i ≡ carried v s i) [
      | inl some ↦ carried_same v s t i later (ahead some)
      | inr none ↦ (let less = carried_less v s t i later in omega (arith, less, none))
    ]

module _ (es : List Entry) (xs : List Track) (new old : Clocks) (i : ℕ) (on : GoesOn new old) where
  cut_on : (0 < cut_need es xs old i → sec new.at < cut_need es xs old i) → cut_need es xs new i ≡ cut_need es xs old i
  unfolding cut_need
  cut_on ahead = carries_on (seen_entry es xs new) (seen_entry es xs old) (length es) i new old on (seen_on es xs new old on.broker on.wall) ahead

  free_need_on : (0 < free_need es old i → sec new.at < free_need es old i) → free_need es new i ≡ free_need es old i
  unfolding free_need
  free_need_on ahead = carries_on (free_entry es new) (free_entry es old) (length es) i new old on (free_on es new old on.broker on.wall) ahead

  counts_on :
      (b : Bool) → (0 < (if b then free_need es old i else cut_need es xs old i) → sec new.at < (if b then free_need es old i else cut_need es xs old i)) →
      (if b then free_need es new i else cut_need es xs new i) ≡ (if b then free_need es old i else cut_need es xs old i)
  counts_on true ahead = free_need_on ahead
  counts_on false ahead = cut_on ahead

  pub need_on : (0 < need_of es xs old i → sec new.at < need_of es xs old i) → need_of es xs new i ≡ need_of es xs old i
  unfolding need_of
  need_on ahead = counts_on (has_last_try (track_in xs i)) ahead

-- entries of the same parents and needs carry the same
abbrev next_over : ℕ → (ℕ → List ℕ) → Option ℕ → List ℕ
next_over i f o = i ∷ elim o [ None ↦ [] | Some p ↦ f p ]

module _ (es fs : List Entry) (parents : (i : ℕ) → (entry_at fs i).parent ≡ (entry_at es i).parent) where
  chain_alike : (n i : ℕ) → chain_of n fs i ≡ chain_of n es i
  unfolding chain_of
  chain_alike zero i = refl
  chain_alike (suc n) i = ap₂ (next_over i) (fun_ext (chain_alike n)) (parents i)

  pub over_alike : (a f : ℕ) → is_over fs a f ≡ is_over es a f
  unfolding is_over chain
  over_alike a f = ap (list_any (λ b. b == a)) (chain_alike (suc f) f)

module _ (es fs : List Entry) (count : length fs ≡ length es) (parents : (i : ℕ) → (entry_at fs i).parent ≡ (entry_at es i).parent) (needs : (i : ℕ) → (entry_at fs i).need ≡ (entry_at es i).need) where
  carried_alike : (s i n : ℕ) → carried_of fs s i n ≡ carried_of es s i n
  unfolding carried_of
  carried_alike s i zero = refl
  carried_alike s i (suc n) =
      ap (λ m. if is_over fs i n && nat_lt s (entry_at fs n).need then max m (entry_at fs n).need else m) (carried_alike s i n)
      ∙ ap (λ b. if b && nat_lt s (entry_at fs n).need then max (carried_of es s i n) (entry_at fs n).need else carried_of es s i n) (over_alike es fs parents i n)
      ∙ ap (λ need. if is_over es i n && nat_lt s need then max (carried_of es s i n) need else carried_of es s i n) (needs n)

  pub carries_alike : (s i : ℕ) → carried fs s i ≡ carried es s i
  unfolding carried
  carries_alike s i = ap (carried_of fs s i) count ∙ carried_alike s i (length es)
