-- What a lookup tells, where it is not refused, has a step over the margin and leaves an inventory.
use Rattle.std.proofs.Common.{◌≡◌, ◌∙◌, ◌<◌, ◌≤◌, ◌+◌, ap, length, subst, sym, refl, None}
use Rattle.plan_forest.specs.{Forest.entry_at, Push.IsForest}
use Rattle.vault_inventory.specs.{declared.limits.TheConstants.SPAN_MAX, declared.terms.Terms.Terms}
use Rattle.vault_inventory.specs.Inventories.{IsInventory, Inventory, terms_at}
use Rattle.vault_inventory.specs.Lookup.{lookup_fault, told, told_entry, told_terms}
use Rattle.vault_inventory.proofs.Told.{entry_then, is_told, past_margin, told_is_inventory}
use Rattle.vault_inventory.proofs.inventory.Inventory.apply_lookup.Goals as goal

pub tell-requires-clause-step : goal.tell-requires-clause-step
tell-requires-clause-step c =
    let s : Inventory = record { forest = c.self.inside.forest; credentials = c.self.inside.credentials; terms = c.self.inside.terms.items } in
    let within : c.args.index < length s.forest.entries = subst (λ (x : Inventory). c.args.index < length x.forest.entries) (sym c.self.view_is) c.requires in
    let none : lookup_fault s c.args.index c.args.lookup.now ≡ None = ap (λ (x : Inventory). lookup_fault x c.args.index c.args.lookup.now) c.self.view_is ∙ sym c.lookup_fault.ensures ∙ c.in_default.is in
    let terms : c.told_terms-terms.result ≡ told_terms c.args.lookup.now (terms_at s.terms c.args.index) =
    c.told_terms-terms.ensures ∙ ap (told_terms c.args.lookup.now) (c.terms.ensures.value ∙ ap (λ (x : Inventory). terms_at x.terms c.args.index) (sym c.self.view_is)) in
    subst (λ (t : Terms). s.forest.margin + 1 ≤ (told_entry c.args.now c.args.lookup.now t (entry_at s.forest.entries c.args.index)).step) (sym terms) (past_margin s c.self.invariant c.args.index within c.args.lookup.now c.args.now none)

pub invariant_of-self : goal.invariant_of-self
invariant_of-self c =
    let s : Inventory = record { forest = c.self.inside.forest; credentials = c.self.inside.credentials; terms = c.self.inside.terms.items } in
    let within : c.args.index < length s.forest.entries = subst (λ (x : Inventory). c.args.index < length x.forest.entries) (sym c.self.view_is) c.requires in
    let terms : c.told_terms-terms.result ≡ told_terms c.args.lookup.now (terms_at s.terms c.args.index) =
    c.told_terms-terms.ensures ∙ ap (told_terms c.args.lookup.now) (c.terms.ensures.value ∙ ap (λ (x : Inventory). terms_at x.terms c.args.index) (sym c.self.view_is)) in
    let is = is_told s c.args.index c.args.lookup.now c.args.now c.tell.new.forest c.write_terms.new.terms.items c.told_terms-terms.result terms c.tell.ensures.told c.write_terms.ensures in
    let span : (entry_then s c.args.index c.args.lookup.now c.args.now).step ≤ SPAN_MAX = subst (λ (t : Terms). (told_entry c.args.now c.args.lookup.now t (entry_at s.forest.entries c.args.index)).step ≤ SPAN_MAX) terms c.tell.ensures.span in
    subst IsInventory (sym is) (told_is_inventory s c.self.invariant c.args.index within c.args.lookup.now c.args.now span (subst (λ (x : Inventory). IsForest x.forest) is c.tell.ensures.sound))

pub returns-clause-applied : goal.returns-clause-applied
returns-clause-applied c = λ none.
    let s : Inventory = record { forest = c.self.inside.forest; credentials = c.self.inside.credentials; terms = c.self.inside.terms.items } in
    let terms : c.told_terms-terms.result ≡ told_terms c.args.lookup.now (terms_at s.terms c.args.index) =
    c.told_terms-terms.ensures ∙ ap (told_terms c.args.lookup.now) (c.terms.ensures.value ∙ ap (λ (x : Inventory). terms_at x.terms c.args.index) (sym c.self.view_is)) in
    let is = is_told s c.args.index c.args.lookup.now c.args.now c.tell.new.forest c.write_terms.new.terms.items c.told_terms-terms.result terms c.tell.ensures.told c.write_terms.ensures in
    (refl, is ∙ ap (λ (x : Inventory). told x c.args.index c.args.lookup.now c.args.now) c.self.view_is)
