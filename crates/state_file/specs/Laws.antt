-- Laws of settling. Each is the contract of a public function without a body.
use Rattle.std.specs.Prelude.{◌≡◌, ℕ, List, [], ◌∷◌, ◌++◌, Option}
use Rattle.vault_inventory.specs.Served.{Served}
use Rattle.state_changes.specs.{declared.change.Record.Record, declared.change.Record.TheVariants.Settling, declared.replaying.File.File, declared.row.Row.Row, Listed.rows_of_served, Replay.replayed, Words.fingerprint}
use Rattle.state_file.specs.{declared.text.Form.Form, FileText.IsFileText, Order.in_order, Settled.TextIsSettled}

-- a file with a settled text, and what the records of a journal make of it: these rows in order, and no note
abbrev pub GivesRows : File → List Row → List Record → Type 0
GivesRows f rows rs = replayed f rs ≡ record { rows = in_order rows; notes = [] }

-- once a settled text is the file, a journal that ends with the mark of it gives the rows that were settled, and so does one that
-- has been emptied
abbrev pub SettledRowsLaw : Type 0
SettledRowsLaw = (margin most : Option ℕ) (rows : List Row) (text : List ℕ) (v : Served) → TextIsSettled margin most rows text v
    → (f : File) → f.rows ≡ rows_of_served v → f.mark ≡ fingerprint text
    → (rs : List Record) → GivesRows f rows (rs ++ Settling (fingerprint text) ∷ []) × GivesRows f rows []

-- in each form, rows with a margin and a maximum TTL of the system have one text
abbrev pub OneFileText : Type 0
OneFileText = (form : Form) (margin most : Option ℕ) (rows : List Row) (text other : List ℕ) → IsFileText form margin most rows text
    → IsFileText form margin most rows other → text ≡ other
