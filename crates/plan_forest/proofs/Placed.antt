-- What holds of every forest holds of the empty one, of one with an entry more that was not refused, and of one with a
-- field of an entry changed within its range: for `with_margin`, `push` and the setters.
use Rattle.std.proofs.Common.{◌≡◌, ℕ, ◌+◌, ◌<◌, ◌≤◌, Bool, true, false, cond, ◌&&◌, ◌||◌, List, [], ◌∷◌, ◌++◌, Option, Some, None, length, set, nat_lt, nat_le, bytes_eq, is_some, is_none, IfSome, refl, sym, ap, ◌∙◌, arith, subst, inl, inr}
use Rattle.std.proofs.lemmas.{Bool.Decides.nat_tests, List.length_push, List.length-set, Bool.cases_lt, Bool.cases_eq, Bool.not-false}
use Rattle.std.proofs.Math.Bool.{or-true}
use Rattle.std.specs.Cmp.Lexicographic.{nat_list_eq_equiv}
use Rattle.base_moment.specs.declared.moment.TheConstants.{LAST}
use Rattle.plan_forest.specs.{declared.entry.Entry.Entry, declared.fault.TreeFault.TreeFault}
use Rattle.plan_forest.specs.{declared.forest.TheConstants.END_MAX, declared.forest.TheConstants.MARGIN_MAX, declared.forest.TheConstants.MAX_DEPTH, declared.forest.TheConstants.MAX_ENTRIES}
use Rattle.plan_forest.specs.{Forest.Forest, Forest.entry_at, Forest.index_named, Over.chain}
use Rattle.plan_forest.specs.{Push.IsForest, Push.IsPlaced, Push.depth_under, Push.entry_refusal, Push.is_lease, Push.is_name, Push.is_out_of_range, Push.is_too_high, Push.is_under_lease, Push.lacks_parent}
use Rattle.plan_forest.proofs.Entries.{entry_at_past, entry_at_push_new, entry_at_push_old, entry_at_set_other, entry_at_set_same, index_named_push, index_named_set, later_index, later_index_found, later_index_new}
use Rattle.plan_forest.proofs.Chains.{FewerParents, ParentsFirst, SameParents, cases_Option, chain_child, chain_fewer, chain_root, chain_same}

pub parents_first : (g : Forest) → IsForest g → ParentsFirst g.entries
parents_first g forest i p child =
    elim (cases_lt i (length g.entries)) [
      | inl within ↦ (forest.placed i within).parent_first p child
      | inr past ↦ absurd (let none : (entry_at g.entries i).parent ≡ None = ap (λ (e : Entry). e.parent) (entry_at_past g.entries i past) in cc)
    ]

-- two lists in which the first k entries have the same kinds
abbrev SameKinds : ℕ → List Entry → List Entry → Type 0
SameKinds k es fs = (i : ℕ) → i < k → (entry_at fs i).kind ≡ (entry_at es i).kind

under_same : (k : ℕ) (es fs : List Entry) → SameKinds k es fs → (o : Option ℕ) → ((p : ℕ) → o ≡ Some p → p < k) → is_under_lease fs o ≡ is_under_lease es o
unfolding is_under_lease
under_same k es fs same None below = refl
under_same k es fs same (Some p) below = ap is_lease (same p (below p refl))

-- an entry of a changed forest keeps what it kept, where its name, and the kinds and parents up to it, are as before
placed_like :
    (g h : Forest) → IsForest g → (k i : ℕ) → i < k → IsPlaced g i → SameParents k g.entries h.entries → SameKinds k g.entries h.entries →
    (entry_at h.entries i).name ≡ (entry_at g.entries i).name → index_named h.entries (entry_at g.entries i).name ≡ Some i →
    h.margin < (entry_at h.entries i).step → is_out_of_range (entry_at h.entries i) ≡ false → IsPlaced h i
placed_like g h forest k i within placed parents kinds name alone step range = record {
  named = ap is_name name ∙ placed.named;
  alone = ap (index_named h.entries) name ∙ alone;
  parent_first = λ p child. placed.parent_first p (sym (parents i within) ∙ child);
  parent_is_token = ap (is_under_lease h.entries) (parents i within)
      ∙ under_same k g.entries h.entries kinds (entry_at g.entries i).parent (λ p child. let below : p < i = placed.parent_first p child in omega arith)
      ∙ placed.parent_is_token;
  lease_has_token = ap (λ kind. is_lease kind && is_none (entry_at h.entries i).parent) (kinds i within)
      ∙ ap (λ (o : Option ℕ). is_lease (entry_at g.entries i).kind && is_none o) (parents i within)
      ∙ placed.lease_has_token;
  step_past_margin = step;
  in_range = range;
  depth = subst (λ (c : List ℕ). length c ≤ MAX_DEPTH) (sym (chain_same k g.entries h.entries (parents_first g forest) parents i within)) placed.depth;
}

pub empty_is_forest : (margin : ℕ) → 0 < margin → margin ≤ MARGIN_MAX → IsForest (record { entries = []; margin = margin })
empty_is_forest margin above within = record { margin_above = above; margin_within = within; few = omega arith; placed = λ i h. absurd (omega arith) }

-- an entry with the name, kind and parent of the one that it replaces, and with its step and moments in range
pub record Replaces (g : Forest) (i : ℕ) (e : Entry) : Type 0 where
  pub within : i < length g.entries
  pub name : e.name ≡ (entry_at g.entries i).name
  pub kind : e.kind ≡ (entry_at g.entries i).kind
  pub parent : e.parent ≡ (entry_at g.entries i).parent
  pub step : g.margin < e.step
  pub range : is_out_of_range e ≡ false

-- a field of the entries is as it was where the new entry has it from the old one
kept : {X : Type 0} (field : Entry → X) (es : List Entry) (i : ℕ) (e : Entry) → i < length es → field e ≡ field (entry_at es i) → (j : ℕ) → field (entry_at (set es i e) j) ≡ field (entry_at es j)
kept field es i e within same j =
    elim (cases_eq j i) [
      | inl here ↦ subst (λ n. field (entry_at (set es i e) n) ≡ field (entry_at es n)) (sym here) (ap field (entry_at_set_same es i e within) ∙ same)
      | inr there ↦ ap field (entry_at_set_other es i j e there)
    ]

pub replaced_is_forest : (g : Forest) → IsForest g → (i : ℕ) (e : Entry) → Replaces g i e → IsForest (record { entries = set g.entries i e; margin = g.margin })
replaced_is_forest g forest i e with = record {
  margin_above = forest.margin_above;
  margin_within = forest.margin_within;
  few = let l = length-set g.entries i e in let f = forest.few in omega arith;
  placed = λ j h.
      let fs = set g.entries i e in
      let l = length-set g.entries i e in
      let there : j < length g.entries = omega arith in
      placed_like g (record { entries = fs; margin = g.margin }) forest (length g.entries) j there (forest.placed j there)
      (λ n _. kept (λ (x : Entry). x.parent) g.entries i e with.within with.parent n)
      (λ n _. kept (λ (x : Entry). x.kind) g.entries i e with.within with.kind n)
      (kept (λ (x : Entry). x.name) g.entries i e with.within with.name j)
      (index_named_set g.entries i e (entry_at g.entries j).name with.name ∙ (forest.placed j there).alone)
      (elim (cases_eq j i) [
        | inl here ↦ subst (λ (x : Entry). g.margin < x.step) (sym (ap (entry_at fs) here ∙ entry_at_set_same g.entries i e with.within)) with.step
        | inr other ↦ subst (λ (x : Entry). g.margin < x.step) (sym (entry_at_set_other g.entries i j e other)) (forest.placed j there).step_past_margin
      ])
      (elim (cases_eq j i) [
        | inl here ↦ ap is_out_of_range (ap (entry_at fs) here ∙ entry_at_set_same g.entries i e with.within) ∙ with.range
        | inr other ↦ ap is_out_of_range (entry_at_set_other g.entries i j e other) ∙ (forest.placed j there).in_range
      ]);
}

-- a token without its parent, in its place
abbrev alone_now : List Entry → ℕ → Entry
alone_now es i = record (entry_at es i) { parent = None }

fewer_parents : (es : List Entry) (i : ℕ) → i < length es → FewerParents es (set es i (alone_now es i))
fewer_parents es i within j p child =
    elim (cases_eq j i) [
      | inl here ↦ absurd (let none : (entry_at (set es i (alone_now es i)) j).parent ≡ None = ap (λ (x : Entry). x.parent) (ap (entry_at (set es i (alone_now es i))) here ∙ entry_at_set_same es i (alone_now es i) within) in cc)
      | inr other ↦ sym (ap (λ (x : Entry). x.parent) (entry_at_set_other es i j (alone_now es i) other)) ∙ child
    ]

under_fewer : (es fs : List Entry) → ((p : ℕ) → (entry_at fs p).kind ≡ (entry_at es p).kind) → (o : Option ℕ) (was : Option ℕ) → ((p : ℕ) → o ≡ Some p → was ≡ Some p) → is_under_lease es was ≡ false → is_under_lease fs o ≡ false
unfolding is_under_lease
under_fewer es fs kinds None was fewer token = refl
under_fewer es fs kinds (Some p) was fewer token = ap is_lease (kinds p) ∙ subst (λ (o : Option ℕ). is_under_lease es o ≡ false) (fewer p refl) token

token_alone : (es : List Entry) (i j : ℕ) → i < length es → is_lease (entry_at es i).kind ≡ false → is_lease (entry_at es j).kind && is_none (entry_at es j).parent ≡ false →
    is_lease (entry_at (set es i (alone_now es i)) j).kind && is_none (entry_at (set es i (alone_now es i)) j).parent ≡ false
token_alone es i j within token old =
    elim (cases_eq j i) [
      | inl here ↦ ap (λ (x : Entry). is_lease x.kind && is_none x.parent) (ap (entry_at (set es i (alone_now es i))) here ∙ entry_at_set_same es i (alone_now es i) within) ∙ ap (λ b. b && true) token
      | inr other ↦ ap (λ (x : Entry). is_lease x.kind && is_none x.parent) (entry_at_set_other es i j (alone_now es i) other) ∙ old
    ]

pub orphaned_is_forest : (g : Forest) → IsForest g → (i : ℕ) → i < length g.entries → is_lease (entry_at g.entries i).kind ≡ false → IsForest (record { entries = set g.entries i (alone_now g.entries i); margin = g.margin })
unfolding is_out_of_range
orphaned_is_forest g forest i within token = record {
  margin_above = forest.margin_above;
  margin_within = forest.margin_within;
  few = let l = length-set g.entries i (alone_now g.entries i) in let f = forest.few in omega arith;
  placed = λ j h.
      let es = g.entries in
      let e = alone_now es i in
      let fs = set es i e in
      let l = length-set es i e in
      let there : j < length es = omega arith in
      let old = forest.placed j there in
      let name : (entry_at fs j).name ≡ (entry_at es j).name = kept (λ (x : Entry). x.name) es i e within refl j in
      let fewer = fewer_parents es i within in
      record {
        named = ap is_name name ∙ old.named;
        alone = ap (index_named fs) name ∙ (index_named_set es i e (entry_at es j).name refl ∙ old.alone);
        parent_first = λ p child. old.parent_first p (fewer j p child);
        parent_is_token = under_fewer es fs (λ p. kept (λ (x : Entry). x.kind) es i e within refl p) (entry_at fs j).parent (entry_at es j).parent (fewer j) old.parent_is_token;
        lease_has_token = token_alone es i j within token old.lease_has_token;
        step_past_margin = subst (λ s. g.margin < s) (sym (kept (λ (x : Entry). x.step) es i e within refl j)) old.step_past_margin;
        in_range = kept is_out_of_range es i e within refl j ∙ old.in_range;
        depth = let d = chain_fewer es fs fewer j in let o = old.depth in omega arith;
      };
}

-- what an entry that is not refused has
pub record IsTaken (g : Forest) (e : Entry) : Type 0 where
  pub named : is_name e.name ≡ true
  pub new : is_some (index_named g.entries e.name) ≡ false
  pub parent_there : lacks_parent g.entries e.parent ≡ false
  pub parent_is_token : is_under_lease g.entries e.parent ≡ false
  pub lease_has_token : is_lease e.kind && is_none e.parent ≡ false
  pub step_past_margin : g.margin < e.step
  pub in_range : is_out_of_range e ≡ false
  pub shallow : depth_under g.entries e.parent < MAX_DEPTH
  pub room : length g.entries < MAX_ENTRIES

passed : (met : Bool) (fault : TreeFault) (others : Option TreeFault) → cond met (Some fault) others ≡ None → (met ≡ false) × (others ≡ None)
passed true fault others e = absurd cc
passed false fault others e = (refl, e)

pub taken_from_refusal : (g : Forest) (e : Entry) → entry_refusal g e ≡ None → IsTaken g e
taken_from_refusal g e none =
    let a = passed _ _ _ none in
    let b = passed _ _ _ a.1 in
    let c = passed _ _ _ b.1 in
    let d = passed _ _ _ c.1 in
    let f = passed _ _ _ d.1 in
    let h = passed _ _ _ f.1 in
    let i = passed _ _ _ h.1 in
    let j = passed _ _ _ i.1 in
    let k = passed _ _ _ j.1 in
    record {
      named = not-false (is_name e.name) a.0;
      new = b.0;
      parent_there = c.0;
      parent_is_token = d.0;
      lease_has_token = f.0;
      step_past_margin = let t : nat_lt e.step (g.margin + 1) ≡ false = h.0 in grind (arith, nat_tests);
      in_range = i.0;
      shallow = let t : nat_le MAX_DEPTH (depth_under g.entries e.parent) ≡ false = j.0 in grind (arith, nat_tests);
      room = let t : nat_le MAX_ENTRIES (length g.entries) ≡ false = k.0 in grind (arith, nat_tests);
    }

-- the parent of an entry that is not refused is there
pub parent_below : (es : List Entry) (o : Option ℕ) → lacks_parent es o ≡ false → (p : ℕ) → o ≡ Some p → p < length es
unfolding lacks_parent
parent_below es None there p e = absurd cc
parent_below es (Some q) there p e =
    let same : q ≡ p = cc in
    let t : nat_le (length es) q ≡ false = there in
    grind (arith, nat_tests)

chain_of_new : (g : Forest) → IsForest g → (e : Entry) → ParentsFirst (g.entries ++ e ∷ []) → IsTaken g e → length (chain (g.entries ++ e ∷ []) (length g.entries)) ≤ MAX_DEPTH
unfolding depth_under
chain_of_new g forest e first taken =
    let es = g.entries ++ e ∷ [] in
    let n = length g.entries in
    let same : entry_at es n ≡ e = entry_at_push_new g.entries e in
    cases_Option e.parent (length (chain es n) ≤ MAX_DEPTH)
    (λ root. let one : chain es n ≡ n ∷ [] = chain_root es n (ap (λ (x : Entry). x.parent) same ∙ root) in
    subst (λ (c : List ℕ). length c ≤ MAX_DEPTH) (sym one) (omega arith))
    (λ p child.
    let one : chain es n ≡ n ∷ chain es p = chain_child es n p first (ap (λ (x : Entry). x.parent) same ∙ child) in
    let below : p < n = parent_below g.entries e.parent taken.parent_there p child in
    let old : chain es p ≡ chain g.entries p = chain_same n g.entries es (parents_first g forest) (λ i h. ap (λ (x : Entry). x.parent) (entry_at_push_old g.entries e i h)) p below in
    let shallow : length (chain g.entries p) < MAX_DEPTH = subst (λ o. depth_under g.entries o < MAX_DEPTH) child taken.shallow in
    subst (λ (c : List ℕ). length c ≤ MAX_DEPTH) (sym (one ∙ ap (λ c. n ∷ c) old)) (omega arith))

pushed_parents : (g : Forest) → IsForest g → (e : Entry) → IsTaken g e → ParentsFirst (g.entries ++ e ∷ [])
pushed_parents g forest e taken i p child =
    elim (cases_lt i (length g.entries)) [
      | inl within ↦ parents_first g forest i p (sym (ap (λ (x : Entry). x.parent) (entry_at_push_old g.entries e i within)) ∙ child)
      | inr past ↦ elim (cases_eq i (length g.entries)) [
        | inl new ↦ let below : p < length g.entries = parent_below g.entries e.parent taken.parent_there p
            (sym (ap (λ (x : Entry). x.parent) (ap (entry_at (g.entries ++ e ∷ [])) new ∙ entry_at_push_new g.entries e)) ∙ child) in omega arith
        | inr later ↦ absurd (let l = length_push g.entries e in
            let none : (entry_at (g.entries ++ e ∷ []) i).parent ≡ None = ap (λ (x : Entry). x.parent) (entry_at_past (g.entries ++ e ∷ []) i (omega arith)) in cc)
      ]
    ]

bytes_eq_same : (name : List ℕ) → bytes_eq name name ≡ true
bytes_eq_same name = nat_list_eq_equiv.refl name

pub none_from_is_some : (o : Option ℕ) → is_some o ≡ false → o ≡ None
none_from_is_some None e = refl
none_from_is_some (Some x) e = absurd cc

new_is_placed : (g : Forest) → IsForest g → (e : Entry) → IsTaken g e → IsPlaced (record { entries = g.entries ++ e ∷ []; margin = g.margin }) (length g.entries)
new_is_placed g forest e taken =
    let es = g.entries ++ e ∷ [] in
    let n = length g.entries in
    let same : entry_at es n ≡ e = entry_at_push_new g.entries e in
    let first = pushed_parents g forest e taken in
    record {
      named = ap (λ (x : Entry). is_name x.name) same ∙ taken.named;
      alone = ap (λ (x : Entry). index_named es x.name) same ∙ index_named_push g.entries e e.name
          ∙ ap (λ o. later_index o (bytes_eq e.name e.name) n) (none_from_is_some (index_named g.entries e.name) taken.new)
          ∙ later_index_new (bytes_eq e.name e.name) n
          ∙ ap (λ here. cond here (Some n) None) (bytes_eq_same e.name);
      parent_first = λ p child. first n p child;
      parent_is_token = ap (λ (x : Entry). is_under_lease es x.parent) same
          ∙ under_same n g.entries es (λ i h. ap (λ (x : Entry). x.kind) (entry_at_push_old g.entries e i h)) e.parent (parent_below g.entries e.parent taken.parent_there)
          ∙ taken.parent_is_token;
      lease_has_token = ap (λ (x : Entry). is_lease x.kind && is_none x.parent) same ∙ taken.lease_has_token;
      step_past_margin = subst (λ (x : Entry). g.margin < x.step) (sym same) taken.step_past_margin;
      in_range = ap is_out_of_range same ∙ taken.in_range;
      depth = chain_of_new g forest e first taken;
    }

pub pushed_is_forest : (g : Forest) → IsForest g → (e : Entry) → entry_refusal g e ≡ None → IsForest (record { entries = g.entries ++ e ∷ []; margin = g.margin })
pushed_is_forest g forest e none =
    let taken = taken_from_refusal g e none in
    let es = g.entries ++ e ∷ [] in
    let n = length g.entries in
    let l = length_push g.entries e in
    record {
      margin_above = forest.margin_above;
      margin_within = forest.margin_within;
      few = let room : n < MAX_ENTRIES = taken.room in omega arith;
      placed = λ i h. elim (cases_eq i n) [
        | inl new ↦ subst (λ k. IsPlaced (record { entries = es; margin = g.margin }) k) (sym new) (new_is_placed g forest e taken)
        | inr other ↦
            let within : i < n = omega arith in
            let old = forest.placed i within in
            let same : entry_at es i ≡ entry_at g.entries i = entry_at_push_old g.entries e i within in
            placed_like g (record { entries = es; margin = g.margin }) forest n i within old
            (λ k below. ap (λ (x : Entry). x.parent) (entry_at_push_old g.entries e k below))
            (λ k below. ap (λ (x : Entry). x.kind) (entry_at_push_old g.entries e k below))
            (ap (λ (x : Entry). x.name) same)
            (index_named_push g.entries e (entry_at g.entries i).name
            ∙ ap (λ o. later_index o (bytes_eq e.name (entry_at g.entries i).name) n) old.alone
            ∙ later_index_found i (bytes_eq e.name (entry_at g.entries i).name) n)
            (subst (λ (x : Entry). g.margin < x.step) (sym same) old.step_past_margin)
            (ap is_out_of_range same ∙ old.in_range)
      ];
    }

-- the end, the ceiling and the need of an entry in range
pub record InRange (e : Entry) : Type 0 where
  pub end : e.end ≤ END_MAX
  pub ceiling : is_too_high e.ceiling ≡ false
  pub need : e.need ≤ LAST

range_tests : (end need : ℕ) (high : Bool) → nat_lt END_MAX end || (high || nat_lt LAST need) ≡ false → (end ≤ END_MAX) × ((high ≡ false) × (need ≤ LAST))
range_tests end need true e = absurd (let t = or-true (nat_lt END_MAX end) in cc)
range_tests end need false e = (grind (arith, nat_tests), (refl, grind (arith, nat_tests)))

pub range_parts : (e : Entry) → is_out_of_range e ≡ false → InRange e
unfolding is_out_of_range
range_parts e h =
    let parts = range_tests e.end e.need (is_too_high e.ceiling) h in
    record { end = parts.0; ceiling = parts.1.0; need = parts.1.1 }

pub range_from_parts : (e : Entry) → InRange e → is_out_of_range e ≡ false
unfolding is_out_of_range
range_from_parts e parts =
    let end : nat_lt END_MAX e.end ≡ false = (let l : e.end ≤ END_MAX = parts.end in grind (arith, nat_tests)) in
    let need : nat_lt LAST e.need ≡ false = (let l : e.need ≤ LAST = parts.need in grind (arith, nat_tests)) in
    ap (λ b. b || (is_too_high e.ceiling || nat_lt LAST e.need)) end ∙ ap (λ b. b || nat_lt LAST e.need) parts.ceiling ∙ need

-- for the setters: the entry that was read at an index, with a field changed
pub replaces_read :
    (g : Forest) → IsForest g → (i : ℕ) (x e : Entry) → i < length g.entries → x ≡ entry_at g.entries i → e.name ≡ x.name → e.kind ≡ x.kind → e.parent ≡ x.parent →
    g.margin < e.step → InRange e → Replaces g i e
replaces_read g forest i x e within read name kind parent step range = record {
  within = within;
  name = name ∙ ap (λ (y : Entry). y.name) read;
  kind = kind ∙ ap (λ (y : Entry). y.kind) read;
  parent = parent ∙ ap (λ (y : Entry). y.parent) read;
  step = step;
  range = range_from_parts e range;
}

-- what was read keeps what its index keeps
pub read_step : (g : Forest) → IsForest g → (i : ℕ) (x : Entry) → i < length g.entries → x ≡ entry_at g.entries i → g.margin < x.step
read_step g forest i x within read = subst (λ (y : Entry). g.margin < y.step) (sym read) (forest.placed i within).step_past_margin

pub read_range : (g : Forest) → IsForest g → (i : ℕ) (x : Entry) → i < length g.entries → x ≡ entry_at g.entries i → InRange x
read_range g forest i x within read = range_parts x (ap is_out_of_range read ∙ (forest.placed i within).in_range)

-- the forest after a change of what was read, in the words of the setters' clauses
pub change_returns :
    (old : Forest) (es : List Entry) (margin i : ℕ) (x : Entry) (change : Entry → Entry) → record { entries = es; margin = margin } ≡ old → x ≡ entry_at es i →
    record { entries = set es i (change x); margin = margin } ≡ record old { entries = set old.entries i (change (entry_at old.entries i)) }
change_returns old es margin i x change view read =
    let Goal : Forest → Type 0 = λ g. record { entries = set es i (change x); margin = margin } ≡ record g { entries = set g.entries i (change (entry_at g.entries i)) } in
    subst Goal view (ap (λ y. record { entries = set es i (change y); margin = margin }) read)

pub ceiling_within : (ceiling : Option ℕ) → IfSome ceiling (λ c. c ≤ END_MAX) → is_too_high ceiling ≡ false
ceiling_within None h = refl
ceiling_within (Some c) h = grind (arith, nat_tests)
