-- Decided: what is decided of changes, files of credentials and journals beside others that differ in credentials alone: it hangs on which
-- credentials are equal, and on nothing else of them. Each law is the contract of a public function without a body.
-- Source: this project's own.
use Rattle.std.specs.Prelude.{◌≡◌, ℕ, List, Result, Ok, Err, bytes_eq, map}
use Rattle.std.specs.List.{AllZip}
use Rattle.state_changes.specs.{Changes.change_refusal, Changes.rows_changed, Replay.is_as_then, Replay.replayed, Rows.named, declared.change.Record.Record, declared.change.ChangeKind.ChangeKind, declared.fault.ChangeFault.ChangeFault}
use Rattle.state_changes.specs.{declared.replaying.File.File, declared.row.Row.Row, declared.secret.Secret.Secret}
use Rattle.state_changes.specs.declared.change.Record.TheVariants.{Made, Settling}
use Rattle.state_changes.specs.declared.change.ChangeKind.TheVariants as what
use Rattle.state_secrets.specs.{Outcomes.has_it, Outcomes.secrets_with, declared.looking.DueFile.DueFile}
use Rattle.state_store.specs.Handed.{handed}
use Rattle.agent_ledger.specs.{Shared.may_be_apart, Takings.may_be_anothers}

-- ---- the other side

-- each credential has one beside it: two of these are equal exactly where the two are
abbrev pub IsPairing : (List ℕ → List ℕ) → Type 0
IsPairing beside = (a b : List ℕ) → bytes_eq (beside a) (beside b) ≡ bytes_eq a b

module _ (beside : List ℕ → List ℕ) where
  -- what has the other credential in place of the one
  abbrev pub row_beside : Row → Row
  row_beside row = record row { credential = beside row.credential }

  abbrev pub secret_beside : Secret → Secret
  secret_beside secret = record secret { credential = beside secret.credential }

  abbrev pub what_beside : ChangeKind → ChangeKind
  what_beside (what.Need until) = what.Need until
  what_beside (what.Replace credential) = what.Replace (beside credential)
  what_beside (what.Add row) = what.Add (row_beside row)
  what_beside what.Drop = what.Drop

  abbrev pub rows_beside : List Row → List Row
  rows_beside rows = map row_beside rows

  abbrev pub secrets_beside : List Secret → List Secret
  secrets_beside secrets = map secret_beside secrets

  -- rows beside those, or the same fault
  abbrev pub made_beside : Result (List Row) ChangeFault → Result (List Row) ChangeFault
  made_beside (Ok rows) = Ok (rows_beside rows)
  made_beside (Err fault) = Err fault

-- ---- changes

-- why a change is refused is the same
abbrev pub RefusedBeside : Type 0
RefusedBeside =
    (beside : List ℕ → List ℕ) → IsPairing beside → (margin : ℕ) (rows : List Row) (name : List ℕ) (w : ChangeKind) →
    change_refusal margin (rows_beside beside rows) name (what_beside beside w) ≡ change_refusal margin rows name w

-- what it makes is rows beside those that it makes here
abbrev pub MadeBeside : Type 0
MadeBeside =
    (beside : List ℕ → List ℕ) → IsPairing beside → (margin : ℕ) (rows : List Row) (name : List ℕ) (w : ChangeKind) →
    rows_changed margin (rows_beside beside rows) name (what_beside beside w) ≡ made_beside beside (rows_changed margin rows name w)

-- ---- files of credentials

-- whether an entry has what its file holds is the same
abbrev pub HeldBeside : Type 0
HeldBeside =
    (beside : List ℕ → List ℕ) → IsPairing beside → (secrets : List Secret) (name file credential : List ℕ) → has_it (secrets_beside beside secrets) name file (beside credential) ≡ has_it secrets name file credential

-- and whether another may have it
abbrev pub AnothersBeside : Type 0
AnothersBeside =
    (beside : List ℕ → List ℕ) → IsPairing beside → (secrets : List Secret) (rows : List Row) (due : DueFile) (credential : List ℕ) →
    may_be_anothers (secrets_beside beside secrets) (rows_beside beside rows) due (beside credential) (named (rows_beside beside rows) due.name) ≡ may_be_anothers secrets rows due credential (named rows due.name)

-- what is held once it is taken is beside what is held here
abbrev pub TakenBeside : Type 0
TakenBeside =
    (beside : List ℕ → List ℕ) (rows : List Row) (secrets : List Secret) (secret : Secret) →
    secrets_with (rows_beside beside rows) (secrets_beside beside secrets) (secret_beside beside secret) ≡ secrets_beside beside (secrets_with rows secrets secret)

-- so are the entries that are served
abbrev pub HandedBeside : Type 0
HandedBeside =
    (beside : List ℕ → List ℕ) (secrets : List Secret) (rows : List Row) → handed (secrets_beside beside secrets) (rows_beside beside rows) ≡ rows_beside beside (handed secrets rows)

-- and whether they may not go together is the same
abbrev pub ApartBeside : Type 0
ApartBeside = (beside : List ℕ → List ℕ) → IsPairing beside → (rows : List Row) → may_be_apart (rows_beside beside rows) ≡ may_be_apart rows

-- ---- a journal

-- what another file says
pub record IsFileBeside (beside : List ℕ → List ℕ) (f g : File) : Type 0 where
  pub rows : g.rows ≡ rows_beside beside f.rows
  pub margin : g.margin ≡ f.margin

-- the same is recorded, and fingerprints that are compared are equal exactly where they are here: that of what the file said when a change was
-- made, and that of a settled file
abbrev pub IsRecordBeside : (List ℕ → List ℕ) → File → File → Record → Record → Type 0
IsRecordBeside beside f g (Made c) (Made d) = (d.name ≡ c.name) × ((d.what ≡ what_beside beside c.what) × (is_as_then g.rows d ≡ is_as_then f.rows c))
IsRecordBeside beside f g (Made c) (Settling mark) = ⊥
IsRecordBeside beside f g (Settling mark) (Made d) = ⊥
IsRecordBeside beside f g (Settling mark) (Settling other) = bytes_eq other g.mark ≡ bytes_eq mark f.mark

-- such a journal gives rows beside those that it gives here, with the same notes
abbrev pub ReplayedBeside : Type 0
ReplayedBeside =
    (beside : List ℕ → List ℕ) → IsPairing beside → (f g : File) → IsFileBeside beside f g → (records others : List Record) → AllZip (IsRecordBeside beside f g) records others →
    replayed g others ≡ record { rows = rows_beside beside (replayed f records).rows; notes = (replayed f records).notes }
