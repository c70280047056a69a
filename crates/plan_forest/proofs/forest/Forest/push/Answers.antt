-- An entry that is not refused makes a longer forest, and its name then leads to its index.
use Rattle.std.proofs.Common.{◌≡◌, ◌∙◌, ◌++◌, ◌∷◌, [], ◌+◌, List, ℕ, Some, None, ap, arith, is_ok, length, subst, sym, true, vec_len, vec_capacity, ◌≤◌, Vec, Global}
use Rattle.std.proofs.lemmas.Bool.{cond-true}
use Rattle.std.specs.{BTreeMap.Updates, Cmp.Lexicographic.slice_cmp, Ordering.nat_cmp}
use Rattle.plan_forest.specs.{declared.entry.Entry.Entry, Forest.Forest, Forest.index_named, Push.IsForest, Push.entry_refusal}
use Rattle.plan_forest.proofs.{Names.named_push, Placed.pushed_is_forest}
use Rattle.plan_forest.proofs.forest.Forest.push.Goals as goal

pub invariant_of-self-2 : goal.invariant_of-self-2
invariant_of-self-2 c =
    let g : Forest = record { entries = c.self.inside.entries.items; margin = c.self.inside.margin } in
    let e : Entry = c.args.entry in
    let none : entry_refusal g e ≡ None = subst (λ (h : Forest). entry_refusal h e ≡ None) (sym c.self.view_is) (sym c.in_default.ensures) in
    let room : vec_len c.reserve.new.self + 1 ≤ vec_capacity c.reserve.new.self = c.in_ok-reserve.ensures.ok in
    let pushed : is_ok c.push.result ≡ true = c.push.ensures.succeeds (omega (arith, room)) in
    let items : c.push.new.self.items ≡ g.entries ++ e ∷ [] =
    c.push.ensures.items ∙ cond-true (is_ok c.push.result) _ _ pushed ∙ ap (λ es. es ++ e ∷ []) c.in_ok-reserve.ensures.items in
    let name : c.in_ok-name.name.items ≡ e.name = c.in_ok-name.ensures.items ∙ c.list.ensures in
    let count : c.len-index.result ≡ length g.entries = c.len-index.ensures ∙ c.self.inside.entries.ok.0 in
    let updates : Updates (λ (x y : Vec ℕ Global). slice_cmp nat_cmp x.items y.items) c.self.inside.names c.insert.new.self c.in_ok-name.name (Some (length g.entries)) =
    subst (λ n. Updates (λ (x y : Vec ℕ Global). slice_cmp nat_cmp x.items y.items) c.self.inside.names c.insert.new.self c.in_ok-name.name (Some n)) count c.in_ok-insert.ensures.updates in (
      subst (λ (es : List Entry). IsForest (record { entries = es; margin = g.margin })) (sym items) (pushed_is_forest g c.self.invariant.0 e none),
      λ q. named_push g e c.self.inside.names c.insert.new.self c.in_ok-name.name name none c.self.invariant.1 updates q ∙ ap (λ (es : List Entry). index_named es q) (sym items),
    )
