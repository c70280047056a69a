-- Credentials: one that no row has had is no other's.
use Rattle.std.proofs.Common.{◌≡◌, ℕ, ◌+◌, ◌<◌, length, take, get_or, subst, Bool, true, false, not, cond, ◌&&◌, ◌||◌, List, [], ◌∷◌, ◌++◌, Option, Some, None, is_some, bytes_eq, refl, sym, ap, ◌∙◌, Vec, Global}
use Rattle.std.proofs.lemmas.{Bool.and_from, Bool.and_parts, List.take_more}
use Rattle.std.specs.{Bool.beq, BTreeMap.BTreeMap, BTreeMap.Updates, Cmp.Lexicographic.bytes_decides, Cmp.Lexicographic.slice_cmp, List.list_any, Ordering.nat_cmp}
use Rattle.plan_forest.specs.Push.{is_lease}
use Rattle.plan_forest.proofs.Names.{at_bytes-insert}
use Rattle.vault_inventory.specs.declared.need.Need.{Need}
use Rattle.state_changes.specs.declared.row.Row.{Row}
use Rattle.state_changes.specs.Rows.{is_row_named, is_taken, with_named, without_row}
use Rattle.state_changes.specs.code.Index.{are_seen, at_bytes, has_seen}
use Rattle.state_changes.proofs.Finding.{at_key}

there_yes : {A : Type 0} (o : Option A) → is_some o ≡ true → o ≡ None → ⊥
there_yes None e none = absurd (let both : false ≡ true = e in cc)
there_yes (Some x) e none = absurd (let both : Some x ≡ None = none in cc)

unlike : (look : List ℕ → Option ℕ) (c d : List ℕ) → look c ≡ None → is_some (look d) ≡ true → (b : Bool) → bytes_eq d c ≡ b → b ≡ false
unlike look c d lost seen false e = refl
unlike look c d lost seen true e = absurd (there_yes (look d) seen (ap look ((bytes_decides d c).0 e) ∙ lost))

none_so : (a b c : Bool) → c ≡ false → (a && (b && c)) ≡ false
none_so true true c e = e
none_so true false c e = refl
none_so false b c e = refl

none_taken : (look : List ℕ → Option ℕ) (row : Row) (c : List ℕ) → look c ≡ None → (rows : List Row) → are_seen look rows ≡ true → is_taken rows row c ≡ false
unfolding is_taken
none_taken look row c lost [] e = refl
none_taken look row c lost (r ∷ rows) e =
    let p = and_parts (is_some (look r.credential)) (are_seen look rows) e in
    ap (λ b. b || list_any (λ x. not (bytes_eq x.name row.name) && (beq (is_lease x.kind) (is_lease row.kind) && bytes_eq x.credential c)) rows)
    (none_so (not (bytes_eq r.name row.name)) (beq (is_lease r.kind) (is_lease row.kind)) (bytes_eq r.credential c) (unlike look c r.credential lost p.0 (bytes_eq r.credential c) refl))
    ∙ none_taken look row c lost rows p.1

-- a credential that was never seen is no other's
pub never_seen : (m : BTreeMap (Vec ℕ Global) ℕ) (row : Row) (c : List ℕ) (rows : List Row) → has_seen m rows ≡ true → at_bytes m c ≡ None → is_taken rows row c ≡ false
unfolding has_seen
never_seen m row c rows e lost = none_taken (at_bytes m) row c lost rows e

seen_more : (m n : BTreeMap (Vec ℕ Global) ℕ) (key : Vec ℕ Global) (w : ℕ) (q : List ℕ) → Updates (λ x y. slice_cmp nat_cmp x.items y.items) m n key (Some w) → is_some (at_bytes m q) ≡ true → is_some (at_bytes n q) ≡ true
seen_more m n key w q updates e =
    ap is_some (at_bytes-insert m n key (Some w) updates q)
    ∙ elim (bytes_eq key.items q) as (λ b. is_some (cond b (Some w) (at_bytes m q)) ≡ true) [ true ↦ refl | false ↦ e ]

all_seen_more : (m n : BTreeMap (Vec ℕ Global) ℕ) (key : Vec ℕ Global) (w : ℕ) → Updates (λ x y. slice_cmp nat_cmp x.items y.items) m n key (Some w) → (rows : List Row) → are_seen (at_bytes m) rows ≡ true → are_seen (at_bytes n) rows ≡ true
all_seen_more m n key w updates [] e = refl
all_seen_more m n key w updates (r ∷ rows) e =
    let p = and_parts (is_some (at_bytes m r.credential)) (are_seen (at_bytes m) rows) e in
    and_from (is_some (at_bytes n r.credential)) (are_seen (at_bytes n) rows) (seen_more m n key w r.credential updates p.0) (all_seen_more m n key w updates rows p.1)

all_seen_push : (look : List ℕ → Option ℕ) (rows : List Row) (x : Row) → are_seen look rows ≡ true → is_some (look x.credential) ≡ true → are_seen look (rows ++ x ∷ []) ≡ true
all_seen_push look [] x e h = and_from (is_some (look x.credential)) true h refl
all_seen_push look (r ∷ rows) x e h =
    let p = and_parts (is_some (look r.credential)) (are_seen look rows) e in
    and_from (is_some (look r.credential)) (are_seen look (rows ++ x ∷ [])) p.0 (all_seen_push look rows x p.1 h)

all_seen_with : (look : List ℕ → Option ℕ) (f : Row → Row) (name : List ℕ) → ((r : Row) → is_some (look r.credential) ≡ true → is_some (look (f r).credential) ≡ true) → (rows : List Row) → are_seen look rows ≡ true → are_seen look (with_named f name rows) ≡ true
unfolding with_named
all_seen_with look f name h [] e = refl
all_seen_with look f name h (r ∷ rows) e =
    let p = and_parts (is_some (look r.credential)) (are_seen look rows) e in
    elim (is_row_named name r) as (λ b. are_seen look (cond b (f r ∷ rows) (r ∷ with_named f name rows)) ≡ true) [
      | true ↦ and_from (is_some (look (f r).credential)) (are_seen look rows) (h r p.0) p.1
      | false ↦ and_from (is_some (look r.credential)) (are_seen look (with_named f name rows)) p.0 (all_seen_with look f name h rows p.1)
    ]

all_seen_without : (look : List ℕ → Option ℕ) (name : List ℕ) (rows : List Row) → are_seen look rows ≡ true → are_seen look (without_row name rows) ≡ true
unfolding without_row
all_seen_without look name [] e = refl
all_seen_without look name (r ∷ rows) e =
    let p = and_parts (is_some (look r.credential)) (are_seen look rows) e in
    elim (is_row_named name r) as (λ b. are_seen look (cond b rows (r ∷ without_row name rows)) ≡ true) [
      | true ↦ p.1
      | false ↦ and_from (is_some (look r.credential)) (are_seen look (without_row name rows)) p.0 (all_seen_without look name rows p.1)
    ]

pub seen_none : (m : BTreeMap (Vec ℕ Global) ℕ) → has_seen m [] ≡ true
unfolding has_seen
seen_none m = refl

-- one credential more
pub seen_again : (m n : BTreeMap (Vec ℕ Global) ℕ) (key : Vec ℕ Global) (w : ℕ) (rows : List Row) → Updates (λ x y. slice_cmp nat_cmp x.items y.items) m n key (Some w) → has_seen m rows ≡ true → has_seen n rows ≡ true
unfolding has_seen
seen_again m n key w rows updates e = all_seen_more m n key w updates rows e

pub seen_push : (m n : BTreeMap (Vec ℕ Global) ℕ) (key : Vec ℕ Global) (w : ℕ) (rows : List Row) (x : Row) → Updates (λ x y. slice_cmp nat_cmp x.items y.items) m n key (Some w) → key.items ≡ x.credential → has_seen m rows ≡ true → has_seen n (rows ++ x ∷ []) ≡ true
unfolding has_seen
seen_push m n key w rows x updates is e = all_seen_push (at_bytes n) rows x (all_seen_more m n key w updates rows e) (ap is_some (at_key m n key w x.credential updates is))

pub seen_need : (m : BTreeMap (Vec ℕ Global) ℕ) (name : List ℕ) (u : Need) (rows : List Row) → has_seen m rows ≡ true → has_seen m (with_named (λ row. record row { need = u }) name rows) ≡ true
unfolding has_seen
seen_need m name u rows e = all_seen_with (at_bytes m) (λ row. record row { need = u }) name (λ r h. h) rows e

pub seen_credential : (m n : BTreeMap (Vec ℕ Global) ℕ) (key : Vec ℕ Global) (w : ℕ) (name c : List ℕ) (rows : List Row) → Updates (λ x y. slice_cmp nat_cmp x.items y.items) m n key (Some w) → key.items ≡ c → has_seen m rows ≡ true → has_seen n (with_named (λ row. record row { credential = c }) name rows) ≡ true
unfolding has_seen
seen_credential m n key w name c rows updates is e =
    all_seen_with (at_bytes n) (λ row. record row { credential = c }) name (λ r h. ap is_some (at_key m n key w c updates is)) rows (all_seen_more m n key w updates rows e)

pub seen_without : (m : BTreeMap (Vec ℕ Global) ℕ) (name : List ℕ) (rows : List Row) → has_seen m rows ≡ true → has_seen m (without_row name rows) ≡ true
unfolding has_seen
seen_without m name rows e = all_seen_without (at_bytes m) name rows e

-- the rows up to one more
pub seen_next : (m n : BTreeMap (Vec ℕ Global) ℕ) (key : Vec ℕ Global) (w : ℕ) (rows : List Row) (i : ℕ) (x : Row) → Updates (λ x y. slice_cmp nat_cmp x.items y.items) m n key (Some w) → key.items ≡ x.credential → i < length rows → x ≡ get_or rows i x → has_seen m (take i rows) ≡ true → has_seen n (take (i + 1) rows) ≡ true
seen_next m n key w rows i x updates is h read e =
    subst (λ l. has_seen n l ≡ true) (sym (take_more rows i x h ∙ ap (λ r. take i rows ++ r ∷ []) (sym read))) (seen_push m n key w (take i rows) x updates is e)
