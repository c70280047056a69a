-- Opened: the first entry whose table leaves its end to a lookup, for the line that names it.
use Rattle.std.proofs.Common.{◌≡◌, ◌∙◌, ℕ, suc, ◌+◌, ◌<◌, Bool, true, false, List, [], ◌∷◌, Option, Some, length, sym, ap, subst, arith, if◌then◌else◌}
use Rattle.base_device.specs.Seen.{Change}
use Rattle.plan_forest.specs.Forest.{Forest}
use Rattle.vault_inventory.specs.declared.note.EntryNote.{EntryNote}
use Rattle.vault_inventory.specs.Served.{IsServedInventory, Served, first_untold}
use Rattle.program_words.specs.Advice.{Advises, open_line, open_line_of}

untold_if : (b : Bool) (from : ℕ) (notes : List EntryNote) (index : ℕ) → (first_untold (from + 1) notes ≡ Some index → index < (from + 1) + length notes) →
    (if b then first_untold (from + 1) notes else Some from) ≡ Some index → index < from + suc (length notes)
untold_if true from notes index later is = let below = later is in omega arith
untold_if false from notes index later is = let same : from ≡ index = cc in omega arith

-- it is one of the tables
untold_within : (from : ℕ) (notes : List EntryNote) (index : ℕ) → first_untold from notes ≡ Some index → index < from + length notes
untold_within from [] index is = absurd cc
untold_within from (note ∷ notes) index is = untold_if note.is_told from notes index (untold_within (from + 1) notes index) is

pub found : (v : Served) (answer : Option ℕ) (notes : List EntryNote) (index : ℕ) → answer ≡ first_untold 0 notes → notes ≡ v.notes → answer ≡ Some index → first_untold 0 v.notes ≡ Some index
found v answer notes index is of some = ap (λ (ns : List EntryNote). first_untold 0 ns) (sym of) ∙ sym is ∙ some

-- so it is one of the forest's entries
pub open_within : (v : Served) (forest : Forest) (index : ℕ) → IsServedInventory v → forest ≡ v.inventory.forest → first_untold 0 v.notes ≡ Some index → index < length forest.entries
open_within v forest index served is first =
    let below = untold_within 0 v.notes index first in
    let count = served.notes in
    subst (λ (g : Forest). index < length g.entries) (sym is) (omega arith)

pub advised : (program : List ℕ) (v : Served) (index : ℕ) (errors : Change) → first_untold 0 v.notes ≡ Some index → Advises (open_line_of program v (Some index)) errors → Advises (open_line program v) errors
unfolding open_line
advised program v index errors first told = subst (λ (o : Option ℕ). Advises (open_line_of program v o) errors) (sym first) told
