-- The look-up by name: a map from bytes to indices finds what the walk over the entries finds, also after one name more.
use Rattle.std.proofs.Common.{◌≡◌, ℕ, Bool, true, false, cond, List, ◌++◌, ◌∷◌, [], Option, Some, None, length, bytes_eq, refl, sym, ap, ◌∙◌, subst, ⊎_elim, Vec, Global}
use Rattle.std.proofs.lemmas.{Bool.cases_Bool, Bool.cond-true, Bool.cond-false, Map.Text.is_eq-slice_cmp, Map.Entries.lookup_clone}
use Rattle.std.specs.{List.AllZip, Option.IsSomeAnd, Option.MatchOption, BTreeMap.BTreeMap, BTreeMap.IsEmpty, BTreeMap.get_by, BTreeMap.Updates, Cmp.eq_by_cmp_equiv}
use Rattle.std.specs.{Cmp.Lexicographic.slice_cmp, Cmp.Lexicographic.nat_list_eq_equiv, Cmp.Lexicographic.nat_list_cmp_total, Cmp.Lexicographic.bytes_decides, Map.KeepsOthers, Map.IsKeyTest, Map.AreApart, Map.lookup}
use Rattle.std.specs.{Ordering.nat_cmp, Ordering.is_eq}
use Rattle.plan_forest.specs.{declared.entry.Entry.Entry, Forest.Forest, Forest.index_named, Push.entry_refusal}
use Rattle.plan_forest.proofs.{Entries.index_named_push, Entries.later_index, Placed.none_from_is_some, Placed.taken_from_refusal}

-- what the map has at these bytes
abbrev pub at_bytes : BTreeMap (Vec ℕ Global) ℕ → List ℕ → Option ℕ
at_bytes m q = get_by (λ k. slice_cmp nat_cmp q k.items) m

pub none_at_bytes : (m : BTreeMap (Vec ℕ Global) ℕ) → IsEmpty m → (q : List ℕ) → at_bytes m q ≡ index_named [] q
unfolding index_named
none_at_bytes m empty q = ap (lookup (λ k. is_eq (slice_cmp nat_cmp q k.items))) empty

found_copied : (o p : Option ℕ) → MatchOption o (p ≡ None) (λ v. IsSomeAnd p (λ w. w ≡ v)) → p ≡ o
found_copied None p h = h
found_copied (Some v) None h = absurd h
found_copied (Some v) (Some w) h = ap Some h

-- a copy of the map has the same at all bytes
pub names_copied :
    (C : Vec ℕ Global → Vec ℕ Global → Type 0) → ((x y : Vec ℕ Global) → C x y → y.items ≡ x.items) → (m n : BTreeMap (Vec ℕ Global) ℕ) →
    AllZip (λ p q. C p.0 q.0 × (q.1 ≡ p.1)) m.entries n.entries → (q : List ℕ) → at_bytes n q ≡ at_bytes m q
names_copied C same m n copied q =
    found_copied (at_bytes m q) (at_bytes n q) (lookup_clone C (λ v w. w ≡ v) (λ k. is_eq (slice_cmp nat_cmp q k.items)) (λ x y h. ap (λ bs. is_eq (slice_cmp nat_cmp q bs)) (same x y h)) m.entries n.entries copied)

pub apart : (bs cs ks : List ℕ) → bytes_eq bs cs ≡ false → is_eq (slice_cmp nat_cmp bs ks) ≡ true → is_eq (slice_cmp nat_cmp cs ks) ≡ false
apart bs cs ks n y =
    is_eq-slice_cmp cs ks ∙ nat_list_eq_equiv.symm cs ks ∙ sym (nat_list_eq_equiv.congr bs ks cs (sym (is_eq-slice_cmp bs ks) ∙ y)) ∙ n

module _ {K : Type 0} (eq : K → K → Bool) (test : K → Bool) where
  other_entries : {X : Type 0} (old new : List (K × X)) → KeepsOthers eq test old new → (other : K → Bool) → IsKeyTest eq other → AreApart test other → lookup other new ≡ lookup other old
  unfolding KeepsOthers
  other_entries old new h = h

pub at_bytes-insert : (m n : BTreeMap (Vec ℕ Global) ℕ) (key : Vec ℕ Global) (w : Option ℕ) → Updates (λ x y. slice_cmp nat_cmp x.items y.items) m n key w → (q : List ℕ) → at_bytes n q ≡ cond (bytes_eq key.items q) w (at_bytes m q)
at_bytes-insert m n key w h q =
    ⊎_elim
    (λ y. subst (λ l. at_bytes n l ≡ w) ((bytes_decides key.items q).0 y) h.1 ∙ sym (cond-true (bytes_eq key.items q) w (at_bytes m q) y))
    (λ e. other_entries _ _ _ _ h.3 _ (λ x y. (eq_by_cmp_equiv nat_list_cmp_total).congr q x.items y.items) (λ k. apart key.items q k.items e)
    ∙ sym (cond-false (bytes_eq key.items q) w (at_bytes m q) e))
    (cases_Bool (bytes_eq key.items q))

-- one name more in the map, and one entry more in the list, at the end
later_index_is : (o : Option ℕ) (here : Bool) (n : ℕ) → (here ≡ true → o ≡ None) → later_index o here n ≡ cond here (Some n) o
unfolding later_index
later_index_is None here n new = refl
later_index_is (Some i) true n new = absurd (let e : Some i ≡ None = new refl in cc)
later_index_is (Some i) false n new = refl

pub named_push :
    (g : Forest) (e : Entry) (m n : BTreeMap (Vec ℕ Global) ℕ) (key : Vec ℕ Global) → key.items ≡ e.name → entry_refusal g e ≡ None →
    ((q : List ℕ) → at_bytes m q ≡ index_named g.entries q) →
    Updates (λ x y. slice_cmp nat_cmp x.items y.items) m n key (Some (length g.entries)) →
    (q : List ℕ) → at_bytes n q ≡ index_named (g.entries ++ e ∷ []) q
named_push g e m n key name none index updates q =
    let new : index_named g.entries e.name ≡ None = none_from_is_some (index_named g.entries e.name) (taken_from_refusal g e none).new in
    at_bytes-insert m n key (Some (length g.entries)) updates q
    ∙ ap (λ k. cond (bytes_eq k q) (Some (length g.entries)) (at_bytes m q)) name
    ∙ ap (cond (bytes_eq e.name q) (Some (length g.entries))) (index q)
    ∙ sym (later_index_is (index_named g.entries q) (bytes_eq e.name q) (length g.entries) (λ y. ap (index_named g.entries) (sym ((bytes_decides e.name q).0 y)) ∙ new))
    ∙ sym (index_named_push g.entries e q)
