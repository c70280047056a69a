-- The copy has the same entries and margin, and finds each name where the original does.
use Rattle.std.proofs.Common.{◌≡◌, ◌∙◌, List, ap, subst, sym}
use Rattle.std.specs.List.{each_same}
use Rattle.plan_forest.specs.{declared.entry.Entry.Entry, Forest.index_named, Push.IsForest}
use Rattle.plan_forest.proofs.Names.{names_copied}
use Rattle.plan_forest.proofs.forest.Forest.copy.Goals as goal

pub invariant_of-result : goal.invariant_of-result
invariant_of-result c =
    let same : c.in_ok-entries.entries.items ≡ c.self.inside.entries.items = c.in_ok-entries.ensures ∙ c.deref.ensures.value in (
      subst (λ (es : List Entry). IsForest (record { entries = es; margin = c.self.inside.margin })) (sym same) c.self.invariant.0,
      λ q. names_copied _ (λ x y h. each_same _ _ h.0) c.self.inside.names c.in_ok-names.names c.in_ok-names.ensures.cases q ∙ c.self.invariant.1 q ∙ ap (λ (es : List Entry). index_named es q) (sym same),
    )

pub returns : goal.returns
returns c =
    let same : c.in_ok-entries.entries.items ≡ c.self.inside.entries.items = c.in_ok-entries.ensures ∙ c.deref.ensures.value in
    ap (λ (es : List Entry). record { entries = es; margin = c.self.inside.margin }) same ∙ c.self.view_is
