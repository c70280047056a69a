-- One name more in the map: the flag stays where the name was in no place.
use Rattle.std.proofs.Common.{◌≡◌, ◌++◌, ◌∷◌, [], Bool, true, false, not, ℕ, length, Some, is_none, is_some, ap, sym, subst, Vec, Global}
use Rattle.std.specs.{BTreeMap.Updates, Cmp.Lexicographic.slice_cmp, Ordering.nat_cmp}
use Rattle.state_changes.specs.code.Index.{is_index}
use Rattle.state_changes.proofs.Finding.{index_off, index_step}
use Rattle.state_changes.proofs.index.add_place.Goals as goal

flipped : (a b : Bool) → a ≡ not b → b ≡ not a
flipped a true e = ap not (sym e)
flipped a false e = ap not (sym e)

pub returns-then-is_apart : goal.returns-then-is_apart
returns-then-is_apart c rows x long name e =
    let m = c.args.places.now in
    let n = c.insert.new.self in
    let key = c.args.name in
    let updates : Updates (λ (v w : Vec ℕ Global). slice_cmp nat_cmp v.items w.items) m n key (Some (length rows)) =
    subst (λ k. Updates (λ (v w : Vec ℕ Global). slice_cmp nat_cmp v.items w.items) m n key (Some k)) (sym long) c.in_ok-old.ensures.updates in
    let is : c.is_none.result ≡ is_none c.in_ok-old.old = flipped (is_some c.in_ok-old.old) c.is_none.result c.is_none.ensures in
    subst (λ b. is_index b n (rows ++ x ∷ []) ≡ true) (sym is)
    (index_step true c.in_ok-old.old m n key rows x c.in_ok-old.ensures.old updates name (subst (λ b. is_index b m rows ≡ true) c.if-is_apart.true e))

pub returns-else-is_apart : goal.returns-else-is_apart
returns-else-is_apart c rows x long name e = subst (λ b. is_index b c.insert.new.self (rows ++ x ∷ []) ≡ true) (sym c.if-is_apart.false) (index_off c.insert.new.self (rows ++ x ∷ []))
