-- The first entry whose table leaves its end to a lookup is one of the forest's, and its name is told.
use Rattle.std.proofs.Common.{◌∙◌, ℕ, List, ap, codes, subst}
use Rattle.base_device.specs.Seen.{change}
use Rattle.plan_forest.specs.{declared.entry.Entry.Entry, Forest.Forest, Forest.entry_at}
use Rattle.vault_inventory.specs.Inventories.{Inventory}
use Rattle.program_report.specs.Told.{Reports}
use Rattle.program_words.specs.Advice.{advice_line}
use Rattle.program_words.proofs.Opened.{advised, found, open_within}
use Rattle.program_words.proofs.advice.advise_on_open.Goals as goal

pub get-requires : goal.get-requires
get-requires g c =
    let forest = c.forest.ensures.value ∙ ap (λ (x : Inventory). x.forest) c.inventory-inventory.ensures.value in
    open_within c.args.served.now c.forest.result.now c.in-Some.index c.notes.ensures.sound forest
    (found c.args.served.now c.first_untold.result c.notes.result.now c.in-Some.index c.first_untold.ensures c.notes.ensures.value c.in-Some.is)

pub returns-in-Some : goal.returns-in-Some
returns-in-Some g c =
    let forest = c.forest.ensures.value ∙ ap (λ (x : Inventory). x.forest) c.inventory-inventory.ensures.value in
    let first = found c.args.served.now c.first_untold.result c.notes.result.now c.in-Some.index c.first_untold.ensures c.notes.ensures.value c.in-Some.is in
    let out = change g.E.Device.is_in_memory (g.E.Device.seen c.args.errors.now) (g.E.Device.seen c.tell_line.new.errors) in
    let words = codes "issued and end are not written; serve and run look them up" in
    let name = c.list-name.ensures ∙ ap (λ (e : Entry). e.name) c.get.ensures.value ∙ ap (λ (f : Forest). (entry_at f.entries c.in-Some.index).name) forest in
    advised c.args.program.now c.args.served.now c.in-Some.index out first
    (subst (λ (p : List ℕ). Reports (advice_line p (entry_at c.args.served.now.inventory.forest.entries c.in-Some.index).name words) out) c.as_bytes.ensures.value
    (subst (λ (n : List ℕ). Reports (advice_line c.as_bytes.result.now n words) out) name c.tell_line.ensures))
