-- The look-up by name: a row is found by going back from where it stood, since rows before it may have been taken out since.
use Rattle.std.proofs.Common.{◌≡◌, ℕ, zero, suc, ◌+◌, ◌<◌, ◌≤◌, Bool, true, false, not, cond, ◌&&◌, List, [], ◌∷◌, ◌++◌, Option, Some, None, is_none, is_some, length, take, drop, get_or, IfSome, bytes_eq, nat_lt, refl, sym, ap, ◌∙◌, subst, arith, inl, inr, Vec, Global, lt-ltb}
use Rattle.std.proofs.lemmas.Bool.Decides.{nat_tests}
use Rattle.std.proofs.lemmas.Bool.{and_from, and_parts, cases_Bool, cond-true, cond-false, leb-true, le-leb}
use Rattle.std.proofs.Math.Seq.{drop-cons}
use Rattle.std.specs.{BTreeMap.BTreeMap, BTreeMap.Updates, Cmp.Lexicographic.bytes_decides, Cmp.Lexicographic.slice_cmp, Map.lookup, Ordering.nat_cmp, Ordering.is_eq}
use Rattle.std.specs.List.{find, position, position_or_len}
use Rattle.plan_forest.proofs.Names.{at_bytes-insert}
use Rattle.state_changes.specs.declared.row.Row.{Row}
use Rattle.state_changes.specs.Rows.{is_row_named, named, with_named, without_row}
use Rattle.state_changes.specs.code.Index.{are_apart, are_found, are_seen, at_bytes, begins_with, has_seen, is_index, is_not_before}

-- ---- what is there, and what is not

none_yes : {A : Type 0} (o : Option A) → is_none o ≡ true → o ≡ None
none_yes None e = refl
none_yes (Some x) e = cc

none_from : {A : Type 0} (o : Option A) → o ≡ None → is_none o ≡ true
none_from None e = refl
none_from (Some x) e = cc

pub no_row : (b : Bool) (r : Row) (o : Option Row) → cond b (Some r) o ≡ None → (b ≡ false) × (o ≡ None)
no_row true r o e = cc
no_row false r o e = (refl, e)

none_more : (name : List ℕ) (r : Row) (rows : List Row) → is_row_named name r ≡ false → named rows name ≡ None → named (r ∷ rows) name ≡ None
unfolding named
none_more name r rows other e = cond-false (is_row_named name r) (Some r) (find (is_row_named name) rows) other ∙ e

none_less : (name : List ℕ) (r : Row) (rows : List Row) → named (r ∷ rows) name ≡ None → (is_row_named name r ≡ false) × (named rows name ≡ None)
unfolding named
none_less name r rows e = no_row (is_row_named name r) r (find (is_row_named name) rows) e

same_name : (name : List ℕ) (r : Row) → is_row_named name r ≡ true → r.name ≡ name
same_name name r e = (bytes_decides r.name name).0 e

far : (name : List ℕ) (rows : List Row) → named rows name ≡ None → length rows ≤ position_or_len (is_row_named name) rows
far name [] e = omega arith
far name (r ∷ rows) e =
    let k = none_less name r rows e in
    let more = far name rows k.1 in
    let here : position_or_len (is_row_named name) (r ∷ rows) ≡ 1 + position_or_len (is_row_named name) rows = ap (λ b. cond (not b) (1 + position_or_len (is_row_named name) rows) 0) k.0 in
    omega (arith, more, here)

-- where no row has the name, it has no place
pub no_place : (name : List ℕ) (rows : List Row) → named rows name ≡ None → position (is_row_named name) rows ≡ None
no_place name rows e = cond-false _ (Some (position_or_len (is_row_named name) rows)) None (not_below _ _ (far name rows e))
  where
    not_below : (m n : ℕ) → n ≤ m → nat_lt m n ≡ false
    not_below m n h = grind (arith, nat_tests)

-- ---- looked for before it stands

is_before_suc : (i : ℕ) (o : Option ℕ) → is_not_before (suc i) o ≡ true → is_not_before i o ≡ true
is_before_suc i None e = cc
is_before_suc i (Some place) e = le-leb i place (omega (arith, leb-true (suc i) place e))

found_sooner : (look : List ℕ → Option ℕ) (i : ℕ) (rows : List Row) → are_found look (suc i) rows ≡ true → are_found look i rows ≡ true
found_sooner look i [] e = refl
found_sooner look i (r ∷ rows) e =
    let p = and_parts (is_not_before (suc i) (look r.name)) (are_found look (suc (suc i)) rows) e in
    and_from (is_not_before i (look r.name)) (are_found look (suc i) rows) (is_before_suc i (look r.name) p.0) (found_sooner look (suc i) rows p.1)

-- where a name is not found, no row has it
none_looked : (look : List ℕ → Option ℕ) (name : List ℕ) → look name ≡ None → (i : ℕ) (rows : List Row) → are_found look i rows ≡ true → named rows name ≡ None
unfolding named
none_looked look name lost i [] e = refl
none_looked look name lost i (r ∷ rows) e =
    let p = and_parts (is_not_before i (look r.name)) (are_found look (suc i) rows) e in
    elim (cases_Bool (is_row_named name r)) [
      | inl here ↦
          let both : false ≡ true = sym (ap (is_not_before i) (ap look (same_name name r here) ∙ lost)) ∙ p.0 in
          cc
      | inr other ↦ none_more name r rows other (none_looked look name lost (suc i) rows p.1)
    ]

past_it : (i place : ℕ) → place < i → is_not_before i (Some place) ≡ true → ⊥
past_it i place h e = omega (arith, h, leb-true i place e)

-- and where none of the rows up to its place has it, no row has
none_up_to : (look : List ℕ → Option ℕ) (name : List ℕ) (place : ℕ) → look name ≡ Some place → (i n : ℕ) → place < n + i → (rows : List Row) → are_found look i rows ≡ true → named (take n rows) name ≡ None → named rows name ≡ None
unfolding named
none_up_to look name place at i n h [] e none = refl
none_up_to look name place at i zero h (r ∷ rows) e none =
    let p = and_parts (is_not_before i (look r.name)) (are_found look (suc i) rows) e in
    elim (cases_Bool (is_row_named name r)) [
      | inl here ↦ absurd (past_it i place (omega (arith, h)) (sym (ap (is_not_before i) (ap look (same_name name r here) ∙ at)) ∙ p.0))
      | inr other ↦ none_more name r rows other (none_up_to look name place at (suc i) zero (omega (arith, h)) rows p.1 refl)
    ]
none_up_to look name place at i (suc n) h (r ∷ rows) e none =
    let p = and_parts (is_not_before i (look r.name)) (are_found look (suc i) rows) e in
    let k = none_less name r (take n rows) none in
    none_more name r rows k.0 (none_up_to look name place at (suc i) n (omega (arith, h)) rows p.1 k.1)

-- ---- the one place of a name

begins_found : (name : List ℕ) (i : ℕ) (rows : List Row) → begins_with name (drop i rows) ≡ true → is_none (named rows name) ≡ false
unfolding named
begins_found name zero [] e = cc
begins_found name (suc i) [] e = cc
begins_found name zero (r ∷ rows) e = ap is_none (cond-true (is_row_named name r) (Some r) (find (is_row_named name) rows) e)
begins_found name (suc i) (r ∷ rows) e =
    elim (is_row_named name r) as (λ b. is_none (cond b (Some r) (find (is_row_named name) rows)) ≡ false) [ true ↦ refl | false ↦ begins_found name i rows e ]

record IsAt (name : List ℕ) (rows : List Row) (i : ℕ) : Type 0 where
  first : position_or_len (is_row_named name) rows ≡ i
  within : i < length rows

at_its_place : (name : List ℕ) (i : ℕ) (rows : List Row) → are_apart rows ≡ true → begins_with name (drop i rows) ≡ true → IsAt name rows i
at_its_place name zero [] apart e = cc
at_its_place name (suc i) [] apart e = cc
at_its_place name zero (r ∷ rows) apart e = record {
  first = ap (λ b. cond (not b) (1 + position_or_len (is_row_named name) rows) 0) e;
  within = omega arith;
}
at_its_place name (suc i) (r ∷ rows) apart e =
    let p = and_parts (is_none (named rows r.name)) (are_apart rows) apart in
    let more = at_its_place name i rows p.1 e in
    let first = more.first in
    let within = more.within in
    elim (cases_Bool (is_row_named name r)) [
      | inl here ↦
          let both : true ≡ false = sym p.0 ∙ ap (λ n. is_none (named rows n)) (same_name name r here) ∙ begins_found name i rows e in
          cc
      | inr other ↦
          let here : position_or_len (is_row_named name) (r ∷ rows) ≡ 1 + position_or_len (is_row_named name) rows = ap (λ b. cond (not b) (1 + position_or_len (is_row_named name) rows) 0) other in
          record { first = omega (arith, here, first); within = omega (arith, within) }
    ]

its_place : (name : List ℕ) (i : ℕ) (rows : List Row) → are_apart rows ≡ true → begins_with name (drop i rows) ≡ true → position (is_row_named name) rows ≡ Some i
its_place name i rows apart e =
    let at = at_its_place name i rows apart e in
    subst (λ k. position (is_row_named name) rows ≡ Some k) at.first (cond-true _ (Some (position_or_len (is_row_named name) rows)) None (lt-ltb _ _ (subst (λ k. k < length rows) (sym at.first) at.within)))

begins_taken : (name : List ℕ) (i n : ℕ) (rows : List Row) → begins_with name (drop i (take n rows)) ≡ true → begins_with name (drop i rows) ≡ true
begins_taken name zero zero rows e = cc
begins_taken name (suc i) zero rows e = cc
begins_taken name zero (suc n) [] e = cc
begins_taken name (suc i) (suc n) [] e = cc
begins_taken name zero (suc n) (r ∷ rows) e = e
begins_taken name (suc i) (suc n) (r ∷ rows) e = begins_taken name i n rows e

-- ---- for the look-up

pub not_found : (m : BTreeMap (Vec ℕ Global) ℕ) (name : List ℕ) (rows : List Row) → is_index true m rows ≡ true → at_bytes m name ≡ None → position (is_row_named name) rows ≡ None
unfolding is_index
not_found m name rows e lost = no_place name rows (none_looked (at_bytes m) name lost 0 rows (and_parts (are_apart rows) (are_found (at_bytes m) 0 rows) e).1)

pub found_before : (m : BTreeMap (Vec ℕ Global) ℕ) (name : List ℕ) (rows : List Row) (place i : ℕ) → is_index true m rows ≡ true → begins_with name (drop i (take (place + 1) rows)) ≡ true → position (is_row_named name) rows ≡ Some i
unfolding is_index
found_before m name rows place i e there = its_place name i rows (and_parts (are_apart rows) (are_found (at_bytes m) 0 rows) e).0 (begins_taken name i (place + 1) rows there)

pub none_before : (m : BTreeMap (Vec ℕ Global) ℕ) (name : List ℕ) (rows : List Row) (place : ℕ) → is_index true m rows ≡ true → at_bytes m name ≡ Some place → named (take (place + 1) rows) name ≡ None → position (is_row_named name) rows ≡ None
unfolding is_index
none_before m name rows place e at none =
    no_place name rows (none_up_to (at_bytes m) name place at 0 (place + 1) (omega arith) rows (and_parts (are_apart rows) (are_found (at_bytes m) 0 rows) e).1 none)

-- what was found going back from there is the place
pub placed : (m : BTreeMap (Vec ℕ Global) ℕ) (name : List ℕ) (rows : List Row) (place : ℕ) (o : Option ℕ) → is_index true m rows ≡ true → at_bytes m name ≡ Some place
    → (o ≡ None → named (take (place + 1) rows) name ≡ None) → IfSome o (λ i. begins_with name (drop i (take (place + 1) rows)) ≡ true) → o ≡ position (is_row_named name) rows
placed m name rows place None e at none some = sym (none_before m name rows place e at (none refl))
placed m name rows place (Some i) e at none some = sym (found_before m name rows place i e some)

-- ---- going back

past : (rows : List Row) (i : ℕ) → length rows ≤ i → drop i rows ≡ []
past [] zero h = refl
past [] (suc i) h = refl
past (r ∷ rows) zero h = absurd (omega (arith, h))
past (r ∷ rows) (suc i) h = past rows i (omega (arith, h))

pub nothing_left : (name : List ℕ) (rows : List Row) (n : ℕ) → n ≡ length rows → named (drop n rows) name ≡ None
unfolding named
nothing_left name rows n e = ap (λ l. named l name) (past rows n (omega (arith, e)))

pub none_drop : (name : List ℕ) (rows : List Row) (i j : ℕ) (x : Row) → j ≡ i + 1 → i < length rows → x ≡ get_or rows i x → bytes_eq x.name name ≡ false → named (drop j rows) name ≡ None → named (drop i rows) name ≡ None
none_drop name rows i j x next h read other none =
    let more : j ≡ suc i = omega (arith, next) in
    ap (λ l. named l name) (drop-cons rows i x h ∙ ap (λ r. r ∷ drop (suc i) rows) (sym read))
    ∙ none_more name x (drop (suc i) rows) other (subst (λ k. named (drop k rows) name ≡ None) more none)

pub begins_drop : (name : List ℕ) (rows : List Row) (i : ℕ) (x : Row) → i < length rows → x ≡ get_or rows i x → bytes_eq x.name name ≡ true → begins_with name (drop i rows) ≡ true
begins_drop name rows i x h read there = ap (begins_with name) (drop-cons rows i x h ∙ ap (λ r. r ∷ drop (suc i) rows) (sym read)) ∙ there

-- ---- rows with one more, one changed, or one taken out

named_push : (q : List ℕ) (rows : List Row) (x : Row) → named rows q ≡ None → is_row_named q x ≡ false → named (rows ++ x ∷ []) q ≡ None
unfolding named
named_push q [] x e other = cond-false (is_row_named q x) (Some x) None other
named_push q (r ∷ rows) x e other =
    let k = none_less q r rows e in
    none_more q r (rows ++ x ∷ []) k.0 (named_push q rows x k.1 other)

other_name : (r x : Row) (rows : List Row) → is_row_named x.name r ≡ false → is_row_named r.name x ≡ false
other_name r x rows unlike = decided (bytes_eq x.name r.name) refl
  where
    decided : (b : Bool) → bytes_eq x.name r.name ≡ b → b ≡ false
    decided false e = refl
    decided true e = let both : true ≡ false = sym ((bytes_decides r.name x.name).1 (sym ((bytes_decides x.name r.name).0 e))) ∙ unlike in cc

pub apart_push : (rows : List Row) (x : Row) → are_apart rows ≡ true → named rows x.name ≡ None → are_apart (rows ++ x ∷ []) ≡ true
unfolding named
apart_push [] x e none = refl
apart_push (r ∷ rows) x e none =
    let p = and_parts (is_none (named rows r.name)) (are_apart rows) e in
    let k = none_less x.name r rows none in
    and_from (is_none (named (rows ++ x ∷ []) r.name)) (are_apart (rows ++ x ∷ []))
    (none_from (named (rows ++ x ∷ []) r.name) (named_push r.name rows x (none_yes (named rows r.name) p.0) (other_name r x rows k.0)))
    (apart_push rows x p.1 k.1)

looked_more : (m n : BTreeMap (Vec ℕ Global) ℕ) (key : Vec ℕ Global) (w i : ℕ) (q : List ℕ) → Updates (λ x y. slice_cmp nat_cmp x.items y.items) m n key (Some w) → i ≤ w → is_not_before i (at_bytes m q) ≡ true → is_not_before i (at_bytes n q) ≡ true
looked_more m n key w i q updates h e =
    ap (is_not_before i) (at_bytes-insert m n key (Some w) updates q)
    ∙ elim (bytes_eq key.items q) as (λ b. is_not_before i (cond b (Some w) (at_bytes m q)) ≡ true) [ true ↦ le-leb i w h | false ↦ e ]

found_more : (m n : BTreeMap (Vec ℕ Global) ℕ) (key : Vec ℕ Global) (w : ℕ) → Updates (λ x y. slice_cmp nat_cmp x.items y.items) m n key (Some w) → (i : ℕ) (rows : List Row) → i + length rows ≤ suc w → are_found (at_bytes m) i rows ≡ true → are_found (at_bytes n) i rows ≡ true
found_more m n key w updates i [] h e = refl
found_more m n key w updates i (r ∷ rows) h e =
    let p = and_parts (is_not_before i (at_bytes m r.name)) (are_found (at_bytes m) (suc i) rows) e in
    and_from (is_not_before i (at_bytes n r.name)) (are_found (at_bytes n) (suc i) rows)
    (looked_more m n key w i r.name updates (omega (arith, h)) p.0)
    (found_more m n key w updates (suc i) rows (omega (arith, h)) p.1)

found_push : (look : List ℕ → Option ℕ) (i : ℕ) (rows : List Row) (x : Row) → are_found look i rows ≡ true → is_not_before (i + length rows) (look x.name) ≡ true → are_found look i (rows ++ x ∷ []) ≡ true
found_push look i [] x e last = and_from (is_not_before i (look x.name)) true (subst (λ k. is_not_before k (look x.name) ≡ true) (omega arith) last) refl
found_push look i (r ∷ rows) x e last =
    let p = and_parts (is_not_before i (look r.name)) (are_found look (suc i) rows) e in
    and_from (is_not_before i (look r.name)) (are_found look (suc i) (rows ++ x ∷ [])) p.0
    (found_push look (suc i) rows x p.1 (subst (λ k. is_not_before k (look x.name) ≡ true) (omega arith) last))

pub at_key : (m n : BTreeMap (Vec ℕ Global) ℕ) (key : Vec ℕ Global) (w : ℕ) (q : List ℕ) → Updates (λ x y. slice_cmp nat_cmp x.items y.items) m n key (Some w) → key.items ≡ q → at_bytes n q ≡ Some w
at_key m n key w q updates is =
    at_bytes-insert m n key (Some w) updates q ∙ cond-true (bytes_eq key.items q) (Some w) (at_bytes m q) ((bytes_decides key.items q).1 is)

pub index_off : (m : BTreeMap (Vec ℕ Global) ℕ) (rows : List Row) → is_index false m rows ≡ true
unfolding is_index
index_off m rows = refl

-- the map with one name more finds the same rows
pub index_more : (b : Bool) (m n : BTreeMap (Vec ℕ Global) ℕ) (key : Vec ℕ Global) (rows : List Row) → Updates (λ x y. slice_cmp nat_cmp x.items y.items) m n key (Some (length rows)) → is_index b m rows ≡ true → is_index b n rows ≡ true
unfolding is_index
index_more false m n key rows updates e = refl
index_more true m n key rows updates e =
    let p = and_parts (are_apart rows) (are_found (at_bytes m) 0 rows) e in
    and_from (are_apart rows) (are_found (at_bytes n) 0 rows) p.0 (found_more m n key (length rows) updates 0 rows (omega arith) p.1)

-- and then the new row
pub index_push : (b : Bool) (m n : BTreeMap (Vec ℕ Global) ℕ) (key : Vec ℕ Global) (rows : List Row) (x : Row) → Updates (λ x y. slice_cmp nat_cmp x.items y.items) m n key (Some (length rows)) → key.items ≡ x.name → named rows x.name ≡ None → is_index b m rows ≡ true → is_index b n (rows ++ x ∷ []) ≡ true
unfolding is_index
index_push false m n key rows x updates is none e = refl
index_push true m n key rows x updates is none e =
    let p = and_parts (are_apart rows) (are_found (at_bytes m) 0 rows) e in
    let q = found_more m n key (length rows) updates 0 rows (omega arith) p.1 in
    let last : is_not_before (0 + length rows) (at_bytes n x.name) ≡ true = ap (is_not_before (0 + length rows)) (at_key m n key (length rows) x.name updates is) ∙ le-leb (0 + length rows) (length rows) (omega arith) in
    and_from (are_apart (rows ++ x ∷ [])) (are_found (at_bytes n) 0 (rows ++ x ∷ [])) (apart_push rows x p.0 none) (found_push (at_bytes n) 0 rows x q last)

-- a name that the map does not have is that of no row
pub index_none : (m : BTreeMap (Vec ℕ Global) ℕ) (name : List ℕ) (rows : List Row) → is_index true m rows ≡ true → at_bytes m name ≡ None → named rows name ≡ None
unfolding is_index
index_none m name rows e lost = none_looked (at_bytes m) name lost 0 rows (and_parts (are_apart rows) (are_found (at_bytes m) 0 rows) e).1

-- one row more, whose name was looked up before
pub index_step : (b : Bool) (o : Option ℕ) (m n : BTreeMap (Vec ℕ Global) ℕ) (key : Vec ℕ Global) (rows : List Row) (x : Row) → o ≡ at_bytes m key.items → Updates (λ x y. slice_cmp nat_cmp x.items y.items) m n key (Some (length rows)) → key.items ≡ x.name → is_index b m rows ≡ true → is_index (b && is_none o) n (rows ++ x ∷ []) ≡ true
index_step false o m n key rows x old updates is e = index_off n (rows ++ x ∷ [])
index_step true (Some place) m n key rows x old updates is e = index_off n (rows ++ x ∷ [])
index_step true None m n key rows x old updates is e = index_push true m n key rows x updates is (index_none m x.name rows e (ap (at_bytes m) (sym is) ∙ sym old)) e

pub index_empty : (b : Bool) (m : BTreeMap (Vec ℕ Global) ℕ) → is_index b m [] ≡ true
unfolding is_index
index_empty false m = refl
index_empty true m = refl

module _ (f : Row → Row) (named_same : (r : Row) → (f r).name ≡ r.name) (name : List ℕ) where
  names_kept : (q : List ℕ) (rows : List Row) → is_none (named (with_named f name rows) q) ≡ is_none (named rows q)
  unfolding named with_named
  names_kept q [] = refl
  names_kept q (r ∷ rows) =
      elim (is_row_named name r) as (λ b. is_none (find (is_row_named q) (cond b (f r ∷ rows) (r ∷ with_named f name rows))) ≡ is_none (find (is_row_named q) (r ∷ rows))) [
        | true ↦
            ap (λ n. is_none (cond (bytes_eq n q) (Some (f r)) (find (is_row_named q) rows))) (named_same r)
            ∙ elim (is_row_named q r) as (λ b. is_none (cond b (Some (f r)) (find (is_row_named q) rows)) ≡ is_none (cond b (Some r) (find (is_row_named q) rows))) [ true ↦ refl | false ↦ refl ]
        | false ↦
            elim (is_row_named q r) as (λ b. is_none (cond b (Some r) (find (is_row_named q) (with_named f name rows))) ≡ is_none (cond b (Some r) (find (is_row_named q) rows))) [ true ↦ refl | false ↦ names_kept q rows ]
      ]

  apart_with : (rows : List Row) → are_apart (with_named f name rows) ≡ are_apart rows
  unfolding with_named
  apart_with [] = refl
  apart_with (r ∷ rows) =
      elim (is_row_named name r) as (λ b. are_apart (cond b (f r ∷ rows) (r ∷ with_named f name rows)) ≡ are_apart (r ∷ rows)) [
        | true ↦ ap (λ n. is_none (named rows n) && are_apart rows) (named_same r)
        | false ↦ ap (λ b. b && are_apart (with_named f name rows)) (names_kept r.name rows) ∙ ap (λ b. is_none (named rows r.name) && b) (apart_with rows)
      ]

  found_with : (look : List ℕ → Option ℕ) (i : ℕ) (rows : List Row) → are_found look i (with_named f name rows) ≡ are_found look i rows
  unfolding with_named
  found_with look i [] = refl
  found_with look i (r ∷ rows) =
      elim (is_row_named name r) as (λ b. are_found look i (cond b (f r ∷ rows) (r ∷ with_named f name rows)) ≡ are_found look i (r ∷ rows)) [
        | true ↦ ap (λ n. is_not_before i (look n) && are_found look (suc i) rows) (named_same r)
        | false ↦ ap (λ b. is_not_before i (look r.name) && b) (found_with look (suc i) rows)
      ]

  -- a change of a row that keeps its name
  pub index_with : (b : Bool) (m : BTreeMap (Vec ℕ Global) ℕ) (rows : List Row) → is_index b m rows ≡ true → is_index b m (with_named f name rows) ≡ true
  unfolding is_index
  index_with false m rows e = refl
  index_with true m rows e = ap (λ b. b && are_found (at_bytes m) 0 (with_named f name rows)) (apart_with rows) ∙ ap (λ b. are_apart rows && b) (found_with (at_bytes m) 0 rows) ∙ e

none_without : (name q : List ℕ) (rows : List Row) → named rows q ≡ None → named (without_row name rows) q ≡ None
unfolding named without_row
none_without name q [] e = refl
none_without name q (r ∷ rows) e =
    let k = none_less q r rows e in
    elim (is_row_named name r) as (λ b. find (is_row_named q) (cond b rows (r ∷ without_row name rows)) ≡ None) [
      | true ↦ k.1
      | false ↦ none_more q r (without_row name rows) k.0 (none_without name q rows k.1)
    ]

apart_without : (name : List ℕ) (rows : List Row) → are_apart rows ≡ true → are_apart (without_row name rows) ≡ true
unfolding without_row
apart_without name [] e = refl
apart_without name (r ∷ rows) e =
    let p = and_parts (is_none (named rows r.name)) (are_apart rows) e in
    elim (is_row_named name r) as (λ b. are_apart (cond b rows (r ∷ without_row name rows)) ≡ true) [
      | true ↦ p.1
      | false ↦
          and_from (is_none (named (without_row name rows) r.name)) (are_apart (without_row name rows))
          (none_from (named (without_row name rows) r.name) (none_without name r.name rows (none_yes (named rows r.name) p.0)))
          (apart_without name rows p.1)
    ]

found_without : (name : List ℕ) (look : List ℕ → Option ℕ) (i : ℕ) (rows : List Row) → are_found look i rows ≡ true → are_found look i (without_row name rows) ≡ true
unfolding without_row
found_without name look i [] e = refl
found_without name look i (r ∷ rows) e =
    let p = and_parts (is_not_before i (look r.name)) (are_found look (suc i) rows) e in
    elim (is_row_named name r) as (λ b. are_found look i (cond b rows (r ∷ without_row name rows)) ≡ true) [
      | true ↦ found_sooner look i rows p.1
      | false ↦ and_from (is_not_before i (look r.name)) (are_found look (suc i) (without_row name rows)) p.0 (found_without name look (suc i) rows p.1)
    ]

-- a row that is taken out
pub index_without : (b : Bool) (m : BTreeMap (Vec ℕ Global) ℕ) (name : List ℕ) (rows : List Row) → is_index b m rows ≡ true → is_index b m (without_row name rows) ≡ true
unfolding is_index
index_without false m name rows e = refl
index_without true m name rows e =
    let p = and_parts (are_apart rows) (are_found (at_bytes m) 0 rows) e in
    and_from (are_apart (without_row name rows)) (are_found (at_bytes m) 0 (without_row name rows)) (apart_without name rows p.0) (found_without name (at_bytes m) 0 rows p.1)

-- ---- a map that stayed as it was

looked_same : (m n : BTreeMap (Vec ℕ Global) ℕ) → n.entries ≡ m.entries → (q : List ℕ) → at_bytes n q ≡ at_bytes m q
looked_same m n e q = ap (lookup (λ k. is_eq (slice_cmp nat_cmp q k.items))) e

found_same : (look other : List ℕ → Option ℕ) → ((q : List ℕ) → other q ≡ look q) → (i : ℕ) (rows : List Row) → are_found other i rows ≡ are_found look i rows
found_same look other same i [] = refl
found_same look other same i (r ∷ rows) =
    ap (λ o. is_not_before i o && are_found other (suc i) rows) (same r.name) ∙ ap (λ b. is_not_before i (look r.name) && b) (found_same look other same (suc i) rows)

pub index_same : (b : Bool) (m n : BTreeMap (Vec ℕ Global) ℕ) (rows : List Row) → n.entries ≡ m.entries → is_index b m rows ≡ true → is_index b n rows ≡ true
unfolding is_index
index_same false m n rows same e = refl
index_same true m n rows same e = ap (λ b. are_apart rows && b) (found_same (at_bytes m) (at_bytes n) (looked_same m n same) 0 rows) ∙ e

seen_as : (look other : List ℕ → Option ℕ) → ((q : List ℕ) → other q ≡ look q) → (rows : List Row) → are_seen other rows ≡ are_seen look rows
seen_as look other same [] = refl
seen_as look other same (r ∷ rows) = ap (λ o. is_some o && are_seen other rows) (same r.credential) ∙ ap (λ b. is_some (look r.credential) && b) (seen_as look other same rows)

pub seen_same : (m n : BTreeMap (Vec ℕ Global) ℕ) (rows : List Row) → n.entries ≡ m.entries → has_seen m rows ≡ true → has_seen n rows ≡ true
unfolding has_seen
seen_same m n rows same e = seen_as (at_bytes m) (at_bytes n) (looked_same m n same) rows ∙ e
