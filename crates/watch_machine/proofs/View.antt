-- View: a view keeps the names, kinds and parents of its forest, and what is written of an entry is how it is seen. For the steps
-- that write a view.
use Rattle.std.proofs.Common.{◌≡◌, ◌∙◌, ℕ, suc, ◌+◌, ◌<◌, ◌≤◌, Bool, true, false, ◌&&◌, if◌then◌else◌, List, [], ◌∷◌, Option, Some, None, filter, IfSome, get_or, length, map, min, max, nat_lt, not, set, sym, ap, subst, arith, inl, inr}
use Rattle.std.proofs.Math.Seq.{map-set_same}
use Rattle.std.proofs.lemmas.{Bool.Decides.nat_tests, List.FromFn.get_or-map-range_with_len, List.FromFn.length-map-range_with_len}
use Rattle.std.proofs.lemmas.Bool.{cases_Bool, cases_eq, cond-true, cond-false}
use Rattle.std.proofs.lemmas.List.{ext_get_or, get_or-map, length-set, map-set, set-get_or, set-set}
use Rattle.plan_forest.specs.{declared.entry.Entry.Entry, declared.forest.TheConstants.END_MAX, Over.chain, Over.is_over, Carried.carried_of, Push.is_lease, Push.is_too_high}
use Rattle.plan_forest.specs.Forest.{Forest, entry_at, no_entry}
use Rattle.plan_forest.proofs.Entries.{entry_at_set_other, entry_at_set_same}
use Rattle.plan_forest.proofs.Chains.{ParentsFirst, chain_child, chain_root}
use Rattle.watch_machine.specs.{declared.event.WatchTerms.WatchTerms, declared.track.Track.Track, declared.clocks.Clocks.Clocks, State.no_track, declared.track.End.End, Looked.by_terms, Looked.orphaned, code.Bounds.IsEnd}
use Rattle.watch_machine.specs.{code.View.IsView, code.View.shape}
use Rattle.watch_machine.specs.declared.track.End.TheVariants.{Unknown, At, Never}
use Rattle.watch_machine.specs.Wanted.{believed, ceiling_here, fixed_ends, is_fixed, least, least_over, need_here, seen_entry, view}

pub at_shape : (v g : Forest) (i : ℕ) → IsView v g → i < length g.entries → shape (entry_at v.entries i) ≡ shape (entry_at g.entries i)
unfolding entry_at
at_shape v g i is within =
    let count = is.count in
    sym (get_or-map shape v.entries i no_entry no_entry (omega arith)) ∙ ap (λ es. get_or es i no_entry) is.shapes
    ∙ get_or-map shape g.entries i no_entry no_entry within

-- after a write of what is no part of its shape it is still a view
pub view_set :
    (v w g : Forest) (i : ℕ) (e : Entry) → w ≡ record v { entries = set v.entries i e } → shape e ≡ shape (entry_at v.entries i) → IsView v g → IsView w g
unfolding entry_at
view_set v w g i e is same view = subst (λ u. IsView u g) (sym is) (record {
  count = length-set v.entries i e ∙ view.count;
  margin = view.margin;
  shapes = map-set_same shape v.entries i e no_entry same ∙ view.shapes;
})

-- and so it is of a forest after such a write
pub view_of_set :
    (v g h : Forest) (i : ℕ) (e : Entry) → h ≡ record g { entries = set g.entries i e } → shape e ≡ shape (entry_at g.entries i) → IsView v g → IsView v h
unfolding entry_at
view_of_set v g h i e is same view = subst (IsView v) (sym is) (record {
  count = view.count ∙ sym (length-set g.entries i e);
  margin = view.margin;
  shapes = view.shapes ∙ sym (map-set_same shape g.entries i e no_entry same);
})

-- and where both are written alike
pub view_both :
    (v w g h : Forest) (i : ℕ) (e f : Entry) → w ≡ record v { entries = set v.entries i e } → h ≡ record g { entries = set g.entries i f } → shape e ≡ shape f →
    IsView v g → IsView w h
view_both v w g h i e f is is' same view = subst (λ x. IsView x h) (sym is) (subst (IsView (record v { entries = set v.entries i e })) (sym is') (record {
  count = length-set v.entries i e ∙ view.count ∙ sym (length-set g.entries i f);
  margin = view.margin;
  shapes = map-set shape v.entries i e ∙ ap (λ xs. set xs i (shape e)) view.shapes ∙ ap (set (map shape g.entries) i) same ∙ sym (map-set shape g.entries i f);
}))

-- one write after another of the same entry
pub set_again :
    (v u w : Forest) (i : ℕ) (e : Entry) (f : Entry → Entry) → i < length v.entries → u ≡ record v { entries = set v.entries i e } →
    w ≡ record u { entries = set u.entries i (f (entry_at u.entries i)) } → w ≡ record v { entries = set v.entries i (f e) }
set_again v u w i e f within first again =
    again ∙ ap (λ (x : Forest). record x { entries = set x.entries i (f (entry_at x.entries i)) }) first
    ∙ ap (λ es. record v { entries = es }) (set-set v.entries i e (f (entry_at (set v.entries i e) i)) ∙ ap (λ x. set v.entries i (f x)) (entry_at_set_same v.entries i e within))

-- the least over an entry: its own end first, then those over its parent
limit_one :
    (xs : List Track) (above i : ℕ) (is : List ℕ) →
    least above (fixed_ends xs (i ∷ is)) ≡ least (if is_fixed (get_or xs i no_track) then min above (believed (get_or xs i no_track).end) else above) (fixed_ends xs is)
limit_one xs above i is =
    let x = get_or xs i no_track in
    let ends : List ℕ → List ℕ = λ js. map (λ a. believed (get_or xs a no_track).end) js in
    let rest = filter (λ a. is_fixed (get_or xs a no_track)) is in
    elim (cases_Bool (is_fixed x)) [
      | inl yes' ↦
          ap (λ js. least above (ends js)) (cond-true (is_fixed x) (i ∷ rest) rest yes')
          ∙ ap (λ n. least n (ends rest)) (sym (cond-true (is_fixed x) (min above (believed x.end)) above yes'))
      | inr no' ↦
          ap (λ js. least above (ends js)) (cond-false (is_fixed x) (i ∷ rest) rest no')
          ∙ ap (λ n. least n (ends rest)) (sym (cond-false (is_fixed x) (min above (believed x.end)) above no'))
    ]

pub limit_root :
    (es : List Entry) (xs : List Track) (above i least : ℕ) → (entry_at es i).parent ≡ None →
    least ≡ (if is_fixed (get_or xs i no_track) then min above (believed (get_or xs i no_track).end) else above) → least ≡ least_over es xs above i
unfolding least_over
limit_root es xs above i n root is = is ∙ sym (ap (λ js. least above (fixed_ends xs js)) (chain_root es i root) ∙ limit_one xs above i [])

pub limit_child :
    (es : List Entry) (xs : List Track) (above i p n : ℕ) → ParentsFirst es → (entry_at es i).parent ≡ Some p →
    n ≡ (if is_fixed (get_or xs i no_track) then min above (believed (get_or xs i no_track).end) else above) → least_over es xs n p ≡ least_over es xs above i
unfolding least_over
limit_child es xs above i p n first child is =
    ap (λ m. least m (fixed_ends xs (chain es p))) is ∙ sym (ap (λ js. least above (fixed_ends xs js)) (chain_child es i p first child) ∙ limit_one xs above i (chain es p))

-- one entry more that it may be over
pub carried_more :
    (es : List Entry) (s i n most need : ℕ) (over : Bool) → most ≡ carried_of es s i n → over ≡ is_over es i n → need ≡ (entry_at es n).need →
    (if over && nat_lt s need then max most need else most) ≡ carried_of es s i (n + 1)
unfolding carried_of
carried_more es s i n most need over so_far is needs =
    ap (λ m. if over && nat_lt s need then max m need else m) so_far
    ∙ ap (λ b. if b && nat_lt s need then max (carried_of es s i n) need else carried_of es s i n) is
    ∙ ap (λ k. if is_over es i n && nat_lt s k then max (carried_of es s i n) k else carried_of es s i n) needs
    ∙ ap (carried_of es s i) (let e : suc n ≡ n + 1 = omega arith in e)

-- where each entry is written as it is seen, the view is that of the definition
pub view_written :
    (gs : List Entry) (xs : List Track) (c : Clocks) (es : List Entry) → length es ≡ length gs → ((k : ℕ) → k < length gs → entry_at es k ≡ seen_entry gs xs c k) → es ≡ view gs xs c
unfolding entry_at
view_written gs xs c es count each =
    let n = length gs in
    ext_get_or no_entry es (view gs xs c) (count ∙ sym (length-map-range_with_len (seen_entry gs xs c) 0 n))
    (λ i within. each i (omega arith) ∙ sym (get_or-map-range_with_len (seen_entry gs xs c) 0 n i i no_entry (omega arith) (omega arith)))

-- one entry more that is written
pub written_more :
    (f : ℕ → Entry) (es fs : List Entry) (n : ℕ) → n < length es → fs ≡ set es n (f n) → ((k : ℕ) → k < n → entry_at es k ≡ f k) →
    (k : ℕ) → k < n + 1 → entry_at fs k ≡ f k
written_more f es fs n within is each k below =
    ap (λ xs. entry_at xs k) is ∙ elim (cases_eq k n) as (λ _. entry_at (set es n (f n)) k ≡ f k) [
      | inl same ↦ ap (entry_at (set es n (f n))) same ∙ entry_at_set_same es n (f n) within ∙ ap f (sym same)
      | inr other ↦ entry_at_set_other es n k (f n) other ∙ each k (omega arith)
    ]

-- a believed end is one that an entry may have
pub believed_within : (end : End) → IsEnd end → believed end ≤ END_MAX
believed_within Unknown h = omega arith
believed_within (At end) h = h
believed_within Never h = omega arith

-- the ceiling of an entry of a forest
pub ceiling_low : (ceiling : Option ℕ) → is_too_high ceiling ≡ false → IfSome ceiling (λ t. t ≤ END_MAX)
ceiling_low None low = tt
ceiling_low (Some t) low = grind (arith, nat_tests)

-- what is written of an entry is how it is seen
pub seen_is :
    (v g : Forest) (xs : List Track) (c : Clocks) (i : ℕ) (e : Entry) (end need : ℕ) (renewable : Bool) (ceiling : Option ℕ) → IsView v g → i < length g.entries →
    e ≡ entry_at g.entries i → end ≡ believed (get_or xs i no_track).end → renewable ≡ (get_or xs i no_track).renewable → ceiling ≡ ceiling_here c e.ceiling →
    need ≡ min (need_here c e.need) (least_over g.entries xs END_MAX i) →
    record (entry_at v.entries i) { step = e.step; ceiling = ceiling; end = end; renewable = renewable; need = need } ≡ seen_entry g.entries xs c i
unfolding seen_entry
seen_is v g xs c i e end need renewable ceiling view within is ends renewables ceilings needs =
    let x = get_or xs i no_track in
    let it = entry_at g.entries i in
    ap (λ (f : Entry). record f { step = e.step; ceiling = ceiling; end = end; renewable = renewable; need = need }) (at_shape v g i view within)
    ∙ ap (λ b. record it { step = e.step; ceiling = ceiling; end = end; renewable = b; need = need }) renewables
    ∙ ap (λ n. record it { step = e.step; ceiling = ceiling; end = n; renewable = x.renewable; need = need }) ends
    ∙ ap (λ o. record it { step = e.step; ceiling = o; end = believed x.end; renewable = x.renewable; need = need }) ceilings
    ∙ ap (λ n. record it { step = e.step; ceiling = ceiling_here c e.ceiling; end = believed x.end; renewable = x.renewable; need = n }) needs
    ∙ ap (λ (f : Entry). record it { step = f.step; ceiling = ceiling_here c f.ceiling; end = believed x.end; renewable = x.renewable; need = min (need_here c f.need) (least_over g.entries xs END_MAX i) }) is

-- an entry that keeps its parent, and one that loses it
pub not_orphaned : (terms : WatchTerms) (es : List Entry) (i : ℕ) → (terms.orphan && not (is_lease (entry_at es i).kind)) ≡ false → es ≡ set es i (orphaned terms (entry_at es i))
unfolding orphaned entry_at
not_orphaned terms es i kept =
    let e = get_or es i no_entry in
    sym (ap (λ b. set es i (record e { parent = if b then None else e.parent })) kept ∙ set-get_or es i no_entry)

pub now_orphaned : (terms : WatchTerms) (es : List Entry) (i : ℕ) → (terms.orphan && not (is_lease (entry_at es i).kind)) ≡ true → record (entry_at es i) { parent = None } ≡ orphaned terms (entry_at es i)
unfolding orphaned
now_orphaned terms es i lost = let e = entry_at es i in ap (λ b. record e { parent = if b then None else e.parent }) (sym lost)

-- a lookup's terms leave a view of the forest
pub told_alike :
    (v g : Forest) (i margin : ℕ) (terms : WatchTerms) → IsView v g → i < length g.entries → shape (orphaned terms (entry_at v.entries i)) ≡ shape (by_terms margin terms (entry_at g.entries i))
unfolding orphaned by_terms
told_alike v g i margin terms view within = ap (λ (e : Entry). shape (orphaned terms e)) (at_shape v g i view within)
