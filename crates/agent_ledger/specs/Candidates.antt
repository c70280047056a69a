-- Candidates: what is looked up before a change is made that brings a credential.
-- Source: this project's own.
use Rattle.std.specs.Prelude.{◌≡◌, ◌⊎◌, ℕ, true, false, List, [], ◌∷◌, Option, Some, None, Ok, option_map, is_none, is_some, if◌then◌else◌}
use Rattle.state_changes.specs.{Changes.change_refusal, Listed.rows_of_served, Rows.named, declared.change.ChangeKind.ChangeKind, declared.row.Row.Row}
use Rattle.state_changes.specs.declared.change.ChangeKind.TheVariants as what
use Rattle.vault_inventory.specs.{Inventory.read_served, Served.Served}
use Rattle.vault_proving.specs.declared.candidate.Candidate.{Candidate}
use Rattle.vault_served.specs.ForGood.{inventory_for_good}
use Rattle.state_file.specs.Settled.{TextIsSettled}
use Rattle.plan_forest.specs.{Forest.index_named, declared.entry.Kind.Kind}
use Rattle.plan_forest.specs.declared.entry.Kind.TheVariants.{Token, Lease}

-- an entry with that credential, which stands in it and in no file
abbrev pub with_credential : List ℕ → Row → Row
with_credential credential row = record row { credential = credential; file = None }

abbrev pub row_with_credential : List Row → List ℕ → List ℕ → Option Row
row_with_credential rows name credential = option_map (with_credential credential) (named rows name)

-- the row that a change brings with its credential, where it brings one
abbrev pub brought : List Row → List ℕ → ChangeKind → Option Row
brought rows name (what.Need need) = None
brought rows name (what.Replace credential) = row_with_credential rows name credential
brought rows name (what.Add row) = if is_none row.file then Some row else None
brought rows name what.Drop = None

abbrev pub as_root : Row → Row
as_root row = record row { parent = None }

-- a token by itself; a lease with its token over it, where that is there
abbrev pub under_of : List Row → Row → Option (List ℕ) → Option (List Row)
under_of rows row None = Some (row ∷ [])
under_of rows row (Some name) = option_map (λ token. as_root token ∷ row ∷ []) (named rows name)

abbrev pub alone_as : Kind → List Row → Row → Option (List Row)
alone_as Token rows row = Some (as_root row ∷ [])
alone_as Lease rows row = under_of rows row row.parent

abbrev pub alone_of : List Row → Row → Option (List Row)
alone_of rows row = alone_as row.kind rows row

-- the entry of that name in the inventory that a file of these rows says
abbrev pub IsAlone : ℕ → List Row → List ℕ → Candidate → Type 0
IsAlone margin rows name c =
    (text : List ℕ) × ((v : Served) × (TextIsSettled (Some margin) None rows text v × ((inventory_for_good text ≡ Ok c.inventory) × (index_named c.inventory.forest.entries name ≡ Some c.entry))))

-- what is looked up of a row that has its credential: it by itself, unless there is no row, or its token is not served
abbrev pub candidate_rows : List Row → Option Row → Option (List Row)
candidate_rows rows None = None
candidate_rows rows (Some row) = alone_of rows row

abbrev pub IsCandidateOf : ℕ → List Row → Option Row → List ℕ → Option Candidate → Type 0
IsCandidateOf margin served row name None = candidate_rows served row ≡ None
IsCandidateOf margin served row name (Some c) = (alone : List Row) × ((candidate_rows served row ≡ Some alone) × IsAlone margin alone name c)

abbrev pub AreRowsOf : List ℕ → List Row → Type 0
AreRowsOf text rows = (v : Served) × ((read_served text ≡ Ok v) × (rows ≡ rows_of_served v))

-- what is looked up before the change of the entry of that name: nothing where it is refused anyway. Rows are those after every change,
-- and text says what is served
abbrev pub IsCandidateFor : ℕ → List Row → List ℕ → List ℕ → ChangeKind → Option Candidate → Type 0
IsCandidateFor margin rows text name w c =
    ((is_some (change_refusal margin rows name w) ≡ true) × (c ≡ None))
    ⊎ ((is_some (change_refusal margin rows name w) ≡ false) × ((served : List Row) × (AreRowsOf text served × IsCandidateOf margin served (brought served name w) name c)))

-- and what, before what a file holds is taken as the credential of the entry of that name
abbrev pub IsFileCandidate : ℕ → List Row → List ℕ → List ℕ → List ℕ → Option Candidate → Type 0
IsFileCandidate margin rows text name credential c = (served : List Row) × (AreRowsOf text served × IsCandidateOf margin served (row_with_credential rows name credential) name c)
