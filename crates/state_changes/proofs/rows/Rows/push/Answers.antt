-- A map that took a name or a credential more, or none, finds the rows, and then the new one.
use Rattle.std.proofs.Common.{◌≡◌, ◌∙◌, ◌++◌, ◌∷◌, [], ◌+◌, ◌≤◌, List, ℕ, Some, None, ap, arith, is_ok, length, subst, sym, true, vec_len, vec_capacity, Vec, Global}
use Rattle.std.proofs.lemmas.Bool.{cond-true}
use Rattle.std.specs.{BTreeMap.Updates, Cmp.Lexicographic.slice_cmp, Ordering.nat_cmp}
use Rattle.state_changes.specs.{declared.row.Row.Row, Rows.named, code.Index.has_seen, code.Index.is_index}
use Rattle.state_changes.proofs.Seen.{seen_push}
use Rattle.state_changes.proofs.Finding.{index_more, index_push, index_same, seen_same}
use Rattle.state_changes.proofs.rows.Rows.push.Goals as goal

pub invariant_of-self-in_err-insert : goal.invariant_of-self-in_err-insert
invariant_of-self-in_err-insert c =
    let rows = c.self.inside.items.items in
    let items : c.reserve.new.self.items ≡ rows = c.in_ok-reserve.ensures.items in (
      subst (λ (l : List Row). is_index c.self.inside.is_apart c.insert.new.self l ≡ true) (sym items) (index_same c.self.inside.is_apart c.self.inside.places c.insert.new.self rows c.in_err-insert.ensures.err c.self.invariant.0),
      subst (λ (l : List Row). has_seen c.self.inside.credentials l ≡ true) (sym items) c.self.invariant.1,
    )

pub invariant_of-self-in_err-insert-2 : goal.invariant_of-self-in_err-insert-2
invariant_of-self-in_err-insert-2 c =
    let rows = c.self.inside.items.items in
    let items : c.reserve.new.self.items ≡ rows = c.in_ok-reserve.ensures.items in
    let updates : Updates (λ (x y : Vec ℕ Global). slice_cmp nat_cmp x.items y.items) c.self.inside.places c.insert.new.self c.in_ok-name.name (Some (length rows)) =
    subst (λ n. Updates (λ (x y : Vec ℕ Global). slice_cmp nat_cmp x.items y.items) c.self.inside.places c.insert.new.self c.in_ok-name.name (Some n)) (c.len-place.ensures ∙ c.self.inside.items.ok.0) c.in_ok-insert.ensures.updates in (
      subst (λ (l : List Row). is_index c.self.inside.is_apart c.insert.new.self l ≡ true) (sym items) (index_more c.self.inside.is_apart c.self.inside.places c.insert.new.self c.in_ok-name.name rows updates c.self.invariant.0),
      subst (λ (l : List Row). has_seen c.insert-2.new.self l ≡ true) (sym items) (seen_same c.self.inside.credentials c.insert-2.new.self rows c.in_err-insert-2.ensures.err c.self.invariant.1),
    )

pub invariant_of-self-2 : goal.invariant_of-self-2
invariant_of-self-2 c =
    let rows = c.self.inside.items.items in
    let x = c.args.row in
    let none : named rows x.name ≡ None = ap (λ (l : List Row). named l x.name) c.self.view_is ∙ c.requires in
    let room : vec_len c.reserve.new.self + 1 ≤ vec_capacity c.reserve.new.self = c.in_ok-reserve.ensures.ok in
    let pushed : is_ok c.push.result ≡ true = c.push.ensures.succeeds (omega (arith, room)) in
    let items : c.push.new.self.items ≡ rows ++ x ∷ [] =
    c.push.ensures.items ∙ cond-true (is_ok c.push.result) _ _ pushed ∙ ap (λ es. es ++ x ∷ []) c.in_ok-reserve.ensures.items in
    let name : c.in_ok-name.name.items ≡ x.name = c.in_ok-name.ensures.items ∙ c.list.ensures in
    let credential : c.in_ok-credential.credential.items ≡ x.credential = c.in_ok-credential.ensures.items ∙ c.list-2.ensures in
    let updates : Updates (λ (x y : Vec ℕ Global). slice_cmp nat_cmp x.items y.items) c.self.inside.places c.insert.new.self c.in_ok-name.name (Some (length rows)) =
    subst (λ n. Updates (λ (x y : Vec ℕ Global). slice_cmp nat_cmp x.items y.items) c.self.inside.places c.insert.new.self c.in_ok-name.name (Some n)) (c.len-place.ensures ∙ c.self.inside.items.ok.0) c.in_ok-insert.ensures.updates in (
      subst (λ (l : List Row). is_index c.self.inside.is_apart c.insert.new.self l ≡ true) (sym items) (index_push c.self.inside.is_apart c.self.inside.places c.insert.new.self c.in_ok-name.name rows x updates name none c.self.invariant.0),
      subst (λ (l : List Row). has_seen c.insert-2.new.self l ≡ true) (sym items) (seen_push c.self.inside.credentials c.insert-2.new.self c.in_ok-credential.credential c.len-place.result rows x c.in_ok-insert-2.ensures.updates credential c.self.invariant.1),
    )
