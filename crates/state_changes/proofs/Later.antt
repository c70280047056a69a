-- The answers of the records from a place on, by the needs that come after it.
use Rattle.std.proofs.Common.{◌≡◌, ℕ, zero, suc, ◌+◌, ◌<◌, ◌≤◌, Bool, true, false, not, cond, ◌&&◌, ◌||◌, List, [], ◌∷◌, ◌++◌, bytes_eq, length, get_or, drop, reverse, refl, sym, ap, subst, ◌∙◌, arith}
use Rattle.std.proofs.Math.Seq.{drop-cons}
use Rattle.std.proofs.lemmas.{List.reverse-append, Map.Text.is_eq-slice_cmp}
use Rattle.std.specs.{Cmp.Lexicographic.slice_cmp, List.list_any, declared.cmp.Ordering.Ordering}
use Rattle.std.specs.BTreeSet.{BTreeSet, Updates, contains}
use Rattle.std.specs.Ordering.{is_eq, nat_cmp, ordering_then}
use Rattle.std.specs.declared.cmp.Ordering.TheVariants.{Less, Equal, Greater}
use Rattle.state_changes.specs.{declared.change.Change.Change, declared.change.Record.Record, declared.compaction.Needed.Needed, code.Needed.AreNeedsOf, code.Needed.needed_cmp}
use Rattle.state_changes.specs.declared.change.Record.TheVariants.{Made, Settling}
use Rattle.state_changes.specs.Compaction.{is_need, is_need_of, is_void, voids}

pub voids_next : (rs : List Record) (i : ℕ) (x : Record) → i < length rs → x ≡ get_or rs i x → voids (drop i rs) ≡ is_void x (drop (i + 1) rs) ∷ voids (drop (i + 1) rs)
unfolding voids
voids_next rs i x h e =
    let more : suc i ≡ i + 1 = omega arith in
    ap voids (drop-cons rs i x h) ∙ ap (λ r. is_void r (drop (suc i) rs) ∷ voids (drop (suc i) rs)) (sym e) ∙ ap (λ k. is_void x (drop k rs) ∷ voids (drop k rs)) more

past : (rs : List Record) (i : ℕ) → length rs ≤ i → drop i rs ≡ []
past [] zero h = refl
past [] (suc i) h = refl
past (r ∷ rs) zero h = absurd (omega (arith, h))
past (r ∷ rs) (suc i) h = past rs i (omega (arith, h))

pub voids_end : (rs : List Record) (i : ℕ) → length rs ≤ i → voids (drop i rs) ≡ []
unfolding voids
voids_end rs i h = ap voids (past rs i h)

-- ---- the needs that come later

pub needs_none : (set : BTreeSet Needed) → set.keys ≡ [] → AreNeedsOf set []
needs_none set none = λ name was. ap (list_any (λ k. is_eq (needed_cmp (record { name = name; was = was }) k))) none

not_need : (set : BTreeSet Needed) (r : Record) (rs : List Record) → ((name was : List ℕ) → is_need_of name was r ≡ false) → AreNeedsOf set rs → AreNeedsOf set (r ∷ rs)
not_need set r rs other are = λ name was. are name was ∙ sym (ap (λ b. b || list_any (is_need_of name was) rs) (other name was))

both_equal : (o p : Ordering) → is_eq (ordering_then o p) ≡ (is_eq o && is_eq p)
both_equal Less p = refl
both_equal Equal p = refl
both_equal Greater p = refl

or_cond : (b c : Bool) → cond b true c ≡ (b || c)
or_cond true c = refl
or_cond false c = refl

not_not : (b : Bool) → not (not b) ≡ b
not_not true = refl
not_not false = refl

-- a key is that of a need of this name beside this word
is_its_key : (c : Change) (key : Needed) → is_need c.what ≡ true → key.name ≡ c.name → key.was ≡ c.was → (name was : List ℕ) → is_eq (needed_cmp key (record { name = name; was = was })) ≡ is_need_of name was (Made c)
is_its_key c key need named worded name was =
    both_equal (slice_cmp nat_cmp key.name name) (slice_cmp nat_cmp key.was was)
    ∙ ap (λ b. b && is_eq (slice_cmp nat_cmp key.was was)) (is_eq-slice_cmp key.name name ∙ ap (λ n. bytes_eq n name) named)
    ∙ ap (λ b. bytes_eq c.name name && b) (is_eq-slice_cmp key.was was ∙ ap (λ w. bytes_eq w was) worded)
    ∙ ap (λ b. b && (bytes_eq c.name name && bytes_eq c.was was)) (sym need)

need_more : (set new : BTreeSet Needed) (c : Change) (key : Needed) (rs : List Record) → is_need c.what ≡ true → key.name ≡ c.name → key.was ≡ c.was → Updates needed_cmp set new key true → AreNeedsOf set rs → AreNeedsOf new (Made c ∷ rs)
need_more set new c key rs need named worded updates are = λ name was.
    let q : Needed = record { name = name; was = was } in
    updates.0 q ∙ or_cond (is_eq (needed_cmp key q)) (contains needed_cmp set q)
    ∙ ap (λ b. b || contains needed_cmp set q) (is_its_key c key need named worded name was)
    ∙ ap (λ b. is_need_of name was (Made c) || b) (are name was)

is_given : (set : BTreeSet Needed) (c : Change) (key : Needed) (rs : List Record) (void fresh : Bool) → is_need c.what ≡ true → key.name ≡ c.name → key.was ≡ c.was → fresh ≡ not (contains needed_cmp set key) → void ≡ not fresh →
    AreNeedsOf set rs → void ≡ is_void (Made c) rs
is_given set c key rs void fresh need named worded new out are =
    out ∙ ap not new ∙ not_not (contains needed_cmp set key)
    ∙ ap (λ n. contains needed_cmp set (record { name = n; was = key.was })) named ∙ ap (λ w. contains needed_cmp set (record { name = c.name; was = w })) worded
    ∙ are c.name c.was ∙ ap (λ b. b && list_any (is_need_of c.name c.was) rs) (sym need)

-- ---- the answers, the last first

pub outs_none : (rs : List Record) (outs : List Bool) → outs ≡ [] → reverse outs ≡ voids (drop (length rs) rs)
outs_none rs outs none = ap reverse none ∙ sym (voids_end rs (length rs) (omega arith))

pub needs_end : (set : BTreeSet Needed) (rs : List Record) → set.keys ≡ [] → AreNeedsOf set (drop (length rs) rs)
needs_end set rs none = subst (AreNeedsOf set) (sym (past rs (length rs) (omega arith))) (needs_none set none)

pub outs_more : (rs : List Record) (k i : ℕ) (x : Record) (outs new : List Bool) (void : Bool) → k ≡ i + 1 → i < length rs → x ≡ get_or rs i x → void ≡ is_void x (drop k rs) → new ≡ outs ++ void ∷ [] →
    reverse outs ≡ voids (drop k rs) → reverse new ≡ voids (drop i rs)
outs_more rs k i x outs new void one h read out pushed so =
    ap reverse pushed ∙ reverse-append outs (void ∷ []) ∙ ap (λ b. b ∷ reverse outs) out ∙ ap (λ l. is_void x (drop k rs) ∷ l) so
    ∙ ap (λ n. is_void x (drop n rs) ∷ voids (drop n rs)) one ∙ sym (voids_next rs i x h read)

-- one record more in front
pub needs_next : (set : BTreeSet Needed) (rs : List Record) (k i : ℕ) (x : Record) → k ≡ i + 1 → i < length rs → x ≡ get_or rs i x → AreNeedsOf set (x ∷ drop k rs) → AreNeedsOf set (drop i rs)
needs_next set rs k i x one h read are =
    let more : suc i ≡ k = omega (arith, one) in
    subst (AreNeedsOf set) (sym (drop-cons rs i x h ∙ ap (λ r. r ∷ drop (suc i) rs) (sym read) ∙ ap (λ n. x ∷ drop n rs) more)) are

pub outs_all : (rs : List Record) (i : ℕ) (outs new : List Bool) → i ≡ 0 → new ≡ reverse outs → reverse outs ≡ voids (drop i rs) → new ≡ voids rs
outs_all rs i outs new none backwards so = backwards ∙ so ∙ ap (λ n. voids (drop n rs)) none

-- ---- of one record

pub given_settling : (set : BTreeSet Needed) (mark : List ℕ) (rs : List Record) → AreNeedsOf set rs → (false ≡ is_void (Settling mark) rs) × AreNeedsOf set (Settling mark ∷ rs)
given_settling set mark rs are = (refl, not_need set (Settling mark) rs (λ name was. refl) are)

pub given_not : (set : BTreeSet Needed) (c : Change) (rs : List Record) → is_need c.what ≡ false → AreNeedsOf set rs → (false ≡ is_void (Made c) rs) × AreNeedsOf set (Made c ∷ rs)
given_not set c rs other are = (
  sym (ap (λ b. b && list_any (is_need_of c.name c.was) rs) other),
  not_need set (Made c) rs (λ name was. ap (λ b. b && (bytes_eq c.name name && bytes_eq c.was was)) other) are,
)

pub given_again : (set new : BTreeSet Needed) (c : Change) (key : Needed) (rs : List Record) (void fresh : Bool) → is_need c.what ≡ true → key.name ≡ c.name → key.was ≡ c.was → fresh ≡ not (contains needed_cmp set key) → void ≡ not fresh →
    Updates needed_cmp set new key true → AreNeedsOf set rs → (void ≡ is_void (Made c) rs) × AreNeedsOf new (Made c ∷ rs)
given_again set new c key rs void fresh need named worded is_new out updates are =
    (is_given set c key rs void fresh need named worded is_new out are, need_more set new c key rs need named worded updates are)
