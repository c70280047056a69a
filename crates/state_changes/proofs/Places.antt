-- The first entry of a name: what is done at its place is done to the entry of that name.
use Rattle.std.proofs.Common.{◌≡◌, ℕ, suc, ◌+◌, ◌<◌, ◌≤◌, Bool, true, false, not, cond, List, [], ◌∷◌, Option, Some, None, is_some, length, get_or, set, refl, sym, ap, ◌∙◌, subst, arith, ltb-true, ltb-false, Vec, Global}
use Rattle.std.proofs.lemmas.Bool.{cond-false}
use Rattle.std.specs.{BTreeMap.BTreeMap, BTreeMap.Updates, Cmp.Lexicographic.slice_cmp, Ordering.nat_cmp}
use Rattle.std.specs.List.{find, position, position_or_len, remove}
use Rattle.vault_inventory.specs.declared.need.Need.{Need}
use Rattle.state_changes.specs.declared.change.ChangeKind.TheVariants as what
use Rattle.state_changes.specs.{declared.fault.ChangeFault.ChangeFault, declared.fault.ChangeFault.TheVariants.NameTwice, declared.row.Row.Row, Changes.change_refusal, Changes.refused_row, code.Index.has_seen, code.Index.is_index}
use Rattle.state_changes.specs.Rows.{is_row_named, named, with_named, without_row}
use Rattle.state_changes.proofs.Seen.{seen_credential, seen_need, seen_without}
use Rattle.state_changes.proofs.Finding.{index_with, index_without, no_row}

chosen : (b : Bool) (m n : ℕ) → cond b (Some m) None ≡ Some n → (b ≡ true) × (m ≡ n)
chosen true m n e = (refl, cc)
chosen false m n e = cc

-- the place is that of an entry
pub place_within : (name : List ℕ) (rows : List Row) (i : ℕ) → position (is_row_named name) rows ≡ Some i → i < length rows
place_within name rows i e =
    let h = chosen _ (position_or_len (is_row_named name) rows) i e in
    subst (λ k. k < length rows) h.1 (ltb-true _ _ h.0)

module _ (f : Row → Row) (name : List ℕ) where
  set_more : (b : Bool) (r : Row) (rows : List Row) (d : Row) (k : ℕ)
      → (k < length rows → set rows k (f (get_or rows k d)) ≡ with_named f name rows)
      → cond (not b) (1 + k) 0 < length (r ∷ rows)
      → set (r ∷ rows) (cond (not b) (1 + k) 0) (f (get_or (r ∷ rows) (cond (not b) (1 + k) 0) d)) ≡ cond b (f r ∷ rows) (r ∷ with_named f name rows)
  set_more true r rows d k before h = refl
  set_more false r rows d k before h =
      let one : suc k ≡ 1 + k = omega arith in
      subst (λ j. set (r ∷ rows) j (f (get_or (r ∷ rows) j d)) ≡ r ∷ with_named f name rows) one (ap (λ l. r ∷ l) (before (omega (arith, h))))

  set_first : (rows : List Row) (d : Row) → position_or_len (is_row_named name) rows < length rows
      → set rows (position_or_len (is_row_named name) rows) (f (get_or rows (position_or_len (is_row_named name) rows) d)) ≡ with_named f name rows
  unfolding with_named
  set_first [] d h = absurd (omega (arith, h))
  set_first (r ∷ rows) d h = set_more (is_row_named name r) r rows d (position_or_len (is_row_named name) rows) (λ l. set_first rows d l) h

  -- the entry at the place, changed
  pub set_named : (rows : List Row) (i : ℕ) (x : Row) → position (is_row_named name) rows ≡ Some i → x ≡ get_or rows i x → set rows i (f x) ≡ with_named f name rows
  set_named rows i x e read =
      let h = chosen _ (position_or_len (is_row_named name) rows) i e in
      let there = ltb-true _ _ h.0 in
      ap (λ r. set rows i (f r)) read ∙ subst (λ k. set rows k (f (get_or rows k x)) ≡ with_named f name rows) h.1 (set_first rows x there)

module _ (name : List ℕ) where
  remove_more : (b : Bool) (r : Row) (rows : List Row) (k : ℕ)
      → (k < length rows → remove rows k ≡ without_row name rows)
      → cond (not b) (1 + k) 0 < length (r ∷ rows)
      → remove (r ∷ rows) (cond (not b) (1 + k) 0) ≡ cond b rows (r ∷ without_row name rows)
  remove_more true r rows k before h = refl
  remove_more false r rows k before h =
      let one : suc k ≡ 1 + k = omega arith in
      subst (λ j. remove (r ∷ rows) j ≡ r ∷ without_row name rows) one (ap (λ l. r ∷ l) (before (omega (arith, h))))

  remove_first : (rows : List Row) → position_or_len (is_row_named name) rows < length rows → remove rows (position_or_len (is_row_named name) rows) ≡ without_row name rows
  unfolding without_row
  remove_first [] h = absurd (omega (arith, h))
  remove_first (r ∷ rows) h = remove_more (is_row_named name r) r rows (position_or_len (is_row_named name) rows) (λ l. remove_first rows l) h

  -- the entry at the place, taken out
  pub remove_named : (rows : List Row) (i : ℕ) → position (is_row_named name) rows ≡ Some i → remove rows i ≡ without_row name rows
  remove_named rows i e =
      let h = chosen _ (position_or_len (is_row_named name) rows) i e in
      subst (λ k. remove rows k ≡ without_row name rows) h.1 (remove_first rows (ltb-true _ _ h.0))

pub need_named : (name : List ℕ) (u : Need) (rows : List Row) (i : ℕ) (x : Row) → position (is_row_named name) rows ≡ Some i → x ≡ get_or rows i x → set rows i (record x { need = u }) ≡ with_named (λ row. record row { need = u }) name rows
need_named name u rows i x e read = set_named (λ row. record row { need = u }) name rows i x e read

pub credential_named : (name c : List ℕ) (rows : List Row) (i : ℕ) (x : Row) → position (is_row_named name) rows ≡ Some i → x ≡ get_or rows i x → set rows i (record x { credential = c }) ≡ with_named (λ row. record row { credential = c }) name rows
credential_named name c rows i x e read = set_named (λ row. record row { credential = c }) name rows i x e read

-- ---- where no entry has the name

not_chosen : (b : Bool) (m : ℕ) → cond b (Some m) None ≡ None → b ≡ false
not_chosen true m e = cc
not_chosen false m e = refl

absent_more : (b : Bool) (r : Row) (o : Option Row) (k n : ℕ) → (n ≤ k → o ≡ None) → suc n ≤ cond (not b) (1 + k) 0 → cond b (Some r) o ≡ None
absent_more true r o k n before h = absurd (omega (arith, h))
absent_more false r o k n before h = before (omega (arith, h))

absent : (name : List ℕ) (rows : List Row) → length rows ≤ position_or_len (is_row_named name) rows → named rows name ≡ None
unfolding named
absent name [] h = refl
absent name (r ∷ rows) h = absent_more (is_row_named name r) r (find (is_row_named name) rows) (position_or_len (is_row_named name) rows) (length rows) (λ l. absent name rows l) h

-- it is not there
pub unplaced : (name : List ℕ) (rows : List Row) → position (is_row_named name) rows ≡ None → named rows name ≡ None
unplaced name rows e = absent name rows (ltb-false _ _ (not_chosen _ (position_or_len (is_row_named name) rows) e))

-- nor is anything done to it
nobody : (f : Row → Row) (name : List ℕ) (rows : List Row) → named rows name ≡ None → with_named f name rows ≡ rows
unfolding named with_named
nobody f name [] e = refl
nobody f name (r ∷ rows) e =
    let k = no_row (is_row_named name r) r (find (is_row_named name) rows) e in
    cond-false (is_row_named name r) (f r ∷ rows) (r ∷ with_named f name rows) k.0 ∙ ap (λ l. r ∷ l) (nobody f name rows k.1)

no_drop : (name : List ℕ) (rows : List Row) → named rows name ≡ None → without_row name rows ≡ rows
unfolding named without_row
no_drop name [] e = refl
no_drop name (r ∷ rows) e =
    let k = no_row (is_row_named name r) r (find (is_row_named name) rows) e in
    cond-false (is_row_named name r) rows (r ∷ without_row name rows) k.0 ∙ ap (λ l. r ∷ l) (no_drop name rows k.1)

pub nobody_needs : (name : List ℕ) (u : Need) (rows : List Row) → position (is_row_named name) rows ≡ None → with_named (λ row. record row { need = u }) name rows ≡ rows
nobody_needs name u rows e = nobody (λ row. record row { need = u }) name rows (unplaced name rows e)

pub nobody_has : (name c : List ℕ) (rows : List Row) → position (is_row_named name) rows ≡ None → with_named (λ row. record row { credential = c }) name rows ≡ rows
nobody_has name c rows e = nobody (λ row. record row { credential = c }) name rows (unplaced name rows e)

pub nobody_dropped : (name : List ℕ) (rows : List Row) → position (is_row_named name) rows ≡ None → without_row name rows ≡ rows
nobody_dropped name rows e = no_drop name rows (unplaced name rows e)

-- ---- the look-up by name

found_more : (b : Bool) (r : Row) (o : Option Row) (rows : List Row) (k : ℕ) (x : Row)
    → (k < length rows → x ≡ get_or rows k x → o ≡ Some x)
    → cond (not b) (1 + k) 0 < length (r ∷ rows) → x ≡ get_or (r ∷ rows) (cond (not b) (1 + k) 0) x → cond b (Some r) o ≡ Some x
found_more true r o rows k x before h e = ap Some (sym e)
found_more false r o rows k x before h e =
    let one : 1 + k ≡ suc k = omega arith in
    before (omega (arith, h)) (subst (λ j. x ≡ get_or (r ∷ rows) j x) one e)

found_first : (name : List ℕ) (rows : List Row) (x : Row) → position_or_len (is_row_named name) rows < length rows → x ≡ get_or rows (position_or_len (is_row_named name) rows) x → named rows name ≡ Some x
unfolding named
found_first name [] x h e = absurd (omega (arith, h))
found_first name (r ∷ rows) x h e = found_more (is_row_named name r) r (find (is_row_named name) rows) rows (position_or_len (is_row_named name) rows) x (found_first name rows x) h e

-- the entry at the place
pub found_at : (name : List ℕ) (rows : List Row) (i : ℕ) (x : Row) → position (is_row_named name) rows ≡ Some i → x ≡ get_or rows i x → named rows name ≡ Some x
found_at name rows i x e read =
    let h = chosen _ (position_or_len (is_row_named name) rows) i e in
    found_first name rows x (ltb-true _ _ h.0) (subst (λ k. x ≡ get_or rows k x) (sym h.1) read)

pub index_need : (b : Bool) (m : BTreeMap (Vec ℕ Global) ℕ) (name : List ℕ) (u : Need) (rows : List Row) (i : ℕ) (x : Row) → position (is_row_named name) rows ≡ Some i → x ≡ get_or rows i x → is_index b m rows ≡ true → is_index b m (set rows i (record x { need = u })) ≡ true
index_need b m name u rows i x e read is = subst (λ l. is_index b m l ≡ true) (sym (need_named name u rows i x e read)) (index_with (λ row. record row { need = u }) (λ r. refl) name b m rows is)

pub index_credential : (b : Bool) (m : BTreeMap (Vec ℕ Global) ℕ) (name c : List ℕ) (rows : List Row) (i : ℕ) (x : Row) → position (is_row_named name) rows ≡ Some i → x ≡ get_or rows i x → is_index b m rows ≡ true → is_index b m (set rows i (record x { credential = c })) ≡ true
index_credential b m name c rows i x e read is = subst (λ l. is_index b m l ≡ true) (sym (credential_named name c rows i x e read)) (index_with (λ row. record row { credential = c }) (λ r. refl) name b m rows is)

pub index_removed : (b : Bool) (m : BTreeMap (Vec ℕ Global) ℕ) (name : List ℕ) (rows : List Row) (i : ℕ) → position (is_row_named name) rows ≡ Some i → is_index b m rows ≡ true → is_index b m (remove rows i) ≡ true
index_removed b m name rows i e is = subst (λ l. is_index b m l ≡ true) (sym (remove_named name rows i e)) (index_without b m name rows is)

pub seen_set_need : (m : BTreeMap (Vec ℕ Global) ℕ) (name : List ℕ) (u : Need) (rows : List Row) (i : ℕ) (x : Row) → position (is_row_named name) rows ≡ Some i → x ≡ get_or rows i x → has_seen m rows ≡ true → has_seen m (set rows i (record x { need = u })) ≡ true
seen_set_need m name u rows i x e read seen = subst (λ l. has_seen m l ≡ true) (sym (need_named name u rows i x e read)) (seen_need m name u rows seen)

pub seen_set_credential : (m n : BTreeMap (Vec ℕ Global) ℕ) (key : Vec ℕ Global) (w : ℕ) (name c : List ℕ) (rows : List Row) (i : ℕ) (x : Row) → Updates (λ x y. slice_cmp nat_cmp x.items y.items) m n key (Some w) → key.items ≡ c → position (is_row_named name) rows ≡ Some i → x ≡ get_or rows i x → has_seen m rows ≡ true → has_seen n (set rows i (record x { credential = c })) ≡ true
seen_set_credential m n key w name c rows i x updates is e read seen = subst (λ l. has_seen n l ≡ true) (sym (credential_named name c rows i x e read)) (seen_credential m n key w name c rows updates is seen)

pub seen_removed : (m : BTreeMap (Vec ℕ Global) ℕ) (name : List ℕ) (rows : List Row) (i : ℕ) → position (is_row_named name) rows ≡ Some i → has_seen m rows ≡ true → has_seen m (remove rows i) ≡ true
seen_removed m name rows i e seen = subst (λ l. has_seen m l ≡ true) (sym (remove_named name rows i e)) (seen_without m name rows seen)

-- ---- a name that is free

not_met : (b : Bool) (fault : ChangeFault) (o : Option ChangeFault) → cond b (Some fault) o ≡ None → b ≡ false
not_met true fault o e = cc
not_met false fault o e = refl

nobody_there : (o : Option Row) → is_some o ≡ false → o ≡ None
nobody_there None e = refl
nobody_there (Some r) e = cc

-- the name of a row that is not refused
pub free_name : (margin : ℕ) (rows : List Row) (name : List ℕ) (row : Row) → change_refusal margin rows name (what.Add row) ≡ None → named rows row.name ≡ None
unfolding change_refusal refused_row
free_name margin rows name row e = nobody_there (named rows row.name) (not_met (is_some (named rows row.name)) NameTwice _ e)
