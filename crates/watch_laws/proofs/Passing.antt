-- Passing: what is held up is passed over once by each hung entry, and once more where a change puts that before it anew. For the law of hung
-- entries.
use Rattle.std.proofs.Common.{◌≡◌, ◌∙◌, ℕ, ◌+◌, ◌*◌, ◌<◌, ◌≤◌, Bool, true, false, not, ◌&&◌, List, [], ◌∷◌, Option, Some, None, length, refl, ap, arith}
use Rattle.std.proofs.Math.Nat.{mul-add, mul-le-mul_left}
use Rattle.watch_machine.specs.{Change.former_at, State.WatchState}
use Rattle.watch_machine.specs.History.{AllHappen, Changed, Changes, Happening, Hands, IsChanged, Turn, Turned}
use Rattle.watch_laws.specs.Outage.{how_many, one_where}
use Rattle.watch_laws.specs.Partial.{AllHung, AreHolding, HungLaw, IsCarried, IsHung, Partial, answered_before, answered_coming, comes_before, comes_before_over, coming_before, hung_anew, index_over, is_put_before, is_put_from, outage_then, partial_next_after, waits_before}
use Rattle.watch_laws.proofs.{Bases.changed_base, Bases.next_base, Carrying.long_same, Carrying.short_same, Following.changed_entries, Held.held_up, Retrying.IsPast, Shapes.turn_shape, Spans.kept_by, Spans.kept_is}
use Rattle.watch_laws.proofs.Counting.{at_some, moved_pass, none, sums}
use Rattle.watch_laws.proofs.Grounds.{IsBase, first_happen, turn_base}
use Rattle.watch_laws.proofs.Once.{is_spent, spends_over, spends_turn, waits_first}

-- how often hung entries come to stand before i
unfoldable hung_coming : (ℕ → Partial) → ℕ → WatchState → List Happening → ℕ
hung_coming o i old [] = 0
hung_coming o i old (Hands turn ∷ hs) = how_many (length old.forest.entries) (λ j. (o 0).hung j && comes_before i old turn.state j) + hung_coming o i turn.state hs
hung_coming o i old (Changes c ∷ hs) = how_many (length c.forest.entries) (λ j. (outage_then o 0).hung j && comes_before_over i old c j) + hung_coming (outage_then o) (index_over c i) c.state hs

-- what those that come to keep of lanes is so much for each that is hung, and so much for each other
coming_is :
    (hs : List Happening) (long short : ℕ) (o : ℕ → Partial) (i due : ℕ) (s : WatchState) → (o 0).patience + (o 0).late ≡ long → (o 0).quick + (o 0).late ≡ short → AreHolding o i due s hs →
    coming_before o i s hs ≡ long * hung_coming o i s hs + short * answered_coming o i s hs
unfolding hung_coming
coming_is [] long short o i due s is is' holding = omega arith
coming_is (Hands turn ∷ hs) long short o i due s is is' holding =
    let n = length s.forest.entries in
    let rest = coming_is hs long short o i (partial_next_after (o 0) turn.result turn.state due) turn.state is is' holding.1 in
    let here = kept_by (o 0) long short n (comes_before i s turn.state) is is' in
    let x = mul-add long (how_many n (λ j. (o 0).hung j && comes_before i s turn.state j)) (hung_coming o i turn.state hs) in
    let y = mul-add short (how_many n (λ j. not ((o 0).hung j) && comes_before i s turn.state j)) (answered_coming o i turn.state hs) in
    omega (arith, rest, here, x, y)
coming_is (Changes c ∷ hs) long short o i due s is is' holding =
    let n = length c.forest.entries in
    let p = outage_then o 0 in
    let k = index_over c i in
    let same = long_same (o 0) p s c holding.0 ∙ is in
    let same' = short_same (o 0) p s c holding.0 ∙ is' in
    let rest = coming_is hs long short (outage_then o) k due c.state same same' holding.1 in
    let here = kept_by p long short n (comes_before_over i s c) same same' in
    let x = mul-add long (how_many n (λ j. p.hung j && comes_before_over i s c j)) (hung_coming (outage_then o) k c.state hs) in
    let y = mul-add short (how_many n (λ j. not (p.hung j) && comes_before_over i s c j)) (answered_coming (outage_then o) k c.state hs) in
    omega (arith, rest, here, x, y)

-- ---- hung entries, each by its place

-- what holds of one that is hung, of another that is not
where_hung : (hung a b d : Bool) → (hung ≡ true → one_where a + one_where b ≤ one_where d) → one_where (hung && a) + one_where (hung && b) ≤ one_where (hung && d) + one_where false + one_where false
where_hung true a b d less = let le = less refl in omega (arith, le)
where_hung false a b d less = omega arith

where_one : (hung a b : Bool) → one_where a + one_where b ≤ 1 → one_where (hung && a) + one_where (hung && b) ≤ one_where hung + one_where false + one_where false
where_one true a b le = omega (arith, le)
where_one false a b le = omega arith

where_new : (hung a b e : Bool) → one_where a + one_where b ≤ one_where false + one_where e → one_where (hung && a) + one_where (hung && b) ≤ one_where false + one_where (hung && e) + one_where false
where_new true a b e le = omega (arith, le)
where_new false a b e le = omega arith

where_kept :
    (hung was a b d e : Bool) → hung ≡ was → one_where a + one_where b ≤ one_where d + one_where e → one_where (hung && a) + one_where (hung && b) ≤ one_where (was && d) + one_where (hung && e) + one_where false
where_kept true true a b d e same le = omega (arith, le)
where_kept true false a b d e same le = absurd cc
where_kept false was a b d e same le = omega arith

-- those that wait before i have spent their places
hung_first : (n : ℕ) (hung : ℕ → Bool) (i : ℕ) (s : WatchState) → how_many n (λ j. hung j && waits_before i s j) + how_many n (λ j. hung j && not (is_spent s j)) ≤ how_many n hung
hung_first n hung i s =
    let zero' = none n (λ j. false) (λ j. refl) in
    let few = sums n (λ j. hung j && waits_before i s j) (λ j. hung j && not (is_spent s j)) hung (λ j. false) (λ j. false) (λ j low. where_one (hung j) (waits_before i s j) (not (is_spent s j)) (waits_first i j s)) in
    omega (arith, few, zero')

-- those that come to spend them
hung_turn :
    (n : ℕ) (hung : ℕ → Bool) (i : ℕ) (old : WatchState) (turn : Turned) → Turn old turn.event turn.result turn.state → IsPast old → ((j : ℕ) → j < n → hung j ≡ true → IsHung i j old turn) →
    ((j : ℕ) → j < n → hung j ≡ true → old.presence.away ≡ false) →
    how_many n (λ j. hung j && comes_before i old turn.state j) + how_many n (λ j. hung j && not (is_spent turn.state j)) ≤ how_many n (λ j. hung j && not (is_spent old j))
hung_turn n hung i old turn is past all there =
    let new = turn.state in
    let zero' = none n (λ j. false) (λ j. refl) in
    let few = sums n (λ j. hung j && comes_before i old new j) (λ j. hung j && not (is_spent new j)) (λ j. hung j && not (is_spent old j)) (λ j. false) (λ j. false)
    (λ j low. where_hung (hung j) (comes_before i old new j) (not (is_spent new j)) (not (is_spent old j)) (λ yes'. spends_turn i j old turn is (all j low yes') past (there j low yes'))) in
    omega (arith, few, zero')

hung_over :
    (o p : Partial) (i : ℕ) (old : WatchState) (c : Changed) → IsChanged old c → IsCarried o p old c →
    how_many (length c.forest.entries) (λ j. p.hung j && comes_before_over i old c j) + how_many (length c.forest.entries) (λ j. p.hung j && not (is_spent c.state j))
    ≤ how_many (length old.forest.entries) (λ j. o.hung j && not (is_spent old j)) + how_many (length c.forest.entries) (λ j. p.hung j && is_put_before i old c j)
hung_over o p i old c h carried =
    let n = length c.forest.entries in
    let zero' = none n (λ j. false) (λ j. refl) in
    let few = sums n (λ j. p.hung j && comes_before_over i old c j) (λ j. p.hung j && not (is_spent c.state j)) (λ j. at_some (λ k. o.hung k && not (is_spent old k)) (former_at c.was j)) (λ j. p.hung j && is_put_before i old c j) (λ j. false)
    (λ j low. by j (former_at c.was j) refl (spends_over old c h i j)) in
    let moved = moved_pass n (length old.forest.entries) (λ j. former_at c.was j) (λ k. o.hung k && not (is_spent old k)) h.may.within h.may.once in
    omega (arith, few, moved, zero') where
      by : (j : ℕ) (was : Option ℕ) → former_at c.was j ≡ was →
          one_where (comes_before_over i old c j) + one_where (not (is_spent c.state j)) ≤ one_where (at_some (λ k. not (is_spent old k)) was) + one_where (is_put_from i old c was j) →
          one_where (p.hung j && comes_before_over i old c j) + one_where (p.hung j && not (is_spent c.state j))
          ≤ one_where (at_some (λ k. o.hung k && not (is_spent old k)) was) + one_where (p.hung j && is_put_from i old c was j) + one_where false
      by j None said le = where_new (p.hung j) (comes_before_over i old c j) (not (is_spent c.state j)) true le
      by j (Some k) said le =
          where_kept (p.hung j) (o.hung k) (comes_before_over i old c j) (not (is_spent c.state j)) (not (is_spent old k)) (is_put_from i old c (Some k) j) (carried.hung k j said) le

-- so each comes to stand before i once, and once more where a change puts it there anew
few_hung :
    (hs : List Happening) (o : ℕ → Partial) (width n i due : ℕ) (s : WatchState) → AllHappen s hs → AreHolding o i due s hs → AllHung o i s hs → IsBase width n s → length s.forest.entries ≡ n →
    ((j : ℕ) → j < n → (o 0).hung j ≡ true → s.presence.away ≡ false) → hung_coming o i s hs ≤ how_many n (λ j. (o 0).hung j && not (is_spent s j)) + hung_anew o i s hs
unfolding hung_coming
few_hung [] o width n i due s happens holding hung base entries there = omega arith
few_hung (Hands turn ∷ hs) o width n i due s happens holding hung base entries there =
    let new = turn.state in
    let is = happens.0 in
    let all : (j : ℕ) → j < n → (o 0).hung j ≡ true → IsHung i j s turn = λ j low yes'. hung.0 j (omega (arith, low, entries)) yes' in
    let base' = turn_base width n s new turn.event turn.result is base in
    let rest = few_hung hs o width n i (partial_next_after (o 0) turn.result new due) new happens.1 holding.1 hung.1 base' ((turn_shape s new turn.event turn.result is).0 ∙ entries) (λ j low yes'. (all j low yes').there) in
    let here = hung_turn n (o 0).hung i s turn is base.past all there in
    let same = ap (λ m. how_many m (λ j. (o 0).hung j && comes_before i s new j)) entries in
    omega (arith, rest, here, same)
few_hung (Changes c ∷ hs) o width n i due s happens holding hung base entries there =
    let h = happens.0 in
    let rest = few_hung hs (outage_then o) width (length c.forest.entries) (index_over c i) due c.state happens.1 holding.1 hung.1 (changed_base s c h width n entries base) (changed_entries s c h) (λ j low yes'. hung.0) in
    let here = hung_over (o 0) (outage_then o 0) i s c h holding.0 in
    let same = ap (λ m. how_many m (λ j. (o 0).hung j && not (is_spent s j))) entries in
    omega (arith, rest, here, same)

pub passes_hung : HungLaw
passes_hung outages old first hs next i reached happens clock taken' may there out holding hung clock' taken'' in_time =
    let o = outages 0 in
    let n = length old.forest.entries in
    let s = first.state in
    let due = partial_next_after o first.result s 0 in
    let base = next_base old first [] reached (happens.0, tt) in
    let entries = (turn_shape old s first.event first.result happens.0).0 in
    let by = held_up outages old first hs next i reached happens clock taken' may out holding clock' taken'' in_time in
    let few = few_hung hs outages old.width n i due s (first_happen hs (Hands next ∷ []) s happens.1) holding hung base entries (λ j low yes'. there) in
    let start = hung_first n o.hung i s in
    let once : how_many n (λ j. o.hung j && waits_before i s j) + hung_coming outages i s hs ≤ how_many n o.hung + hung_anew outages i s hs = omega (arith, few, start) in
    let p = o.patience + o.late in
    let q = o.quick + o.late in
    let waiting' = kept_is o n (waits_before i s) in
    let coming = coming_is hs p q outages i due s refl refl holding in
    let x = mul-add p (how_many n (λ j. o.hung j && waits_before i s j)) (hung_coming outages i s hs) in
    let y = mul-add q (answered_before o n i s) (answered_coming outages i s hs) in
    let z = mul-le-mul_left p once in
    omega (arith, by, waiting', coming, x, y, z)
