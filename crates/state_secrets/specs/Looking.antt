-- Looking: which files of credentials are looked at in a turn, and which of them is to be read.
-- Source: docs/running.md, "Secrets by file"; the bounds are this project's own.
use Rattle.std.specs.Prelude.{◌≡◌, ◌≢◌, ◌⊎◌, ℕ, ◌+◌, ◌-◌, Bool, true, false, not, ◌&&◌, ◌||◌, if◌then◌else◌, List, [], ◌∷◌, ◌++◌, Option, Some, None, bytes_eq, is_none, is_some, length, min, nat_le, nat_lt, option_map, slice_set}
use Rattle.std.specs.List.{find, position}
use Rattle.state_changes.specs.{declared.row.Row.Row, Secrets.taken_from, declared.secret.Secret.Secret}
use Rattle.state_secrets.specs.{Credentials.placed, declared.looking.DueFile.DueFile, declared.looking.FileMark.FileMark, declared.looking.FileSeen.FileSeen, declared.looking.Looking.Looking, declared.looking.Pass.Pass}
use Rattle.state_secrets.specs.{declared.looking.Step.Step, declared.secret_files.FileStamp.FileStamp}
use Rattle.state_secrets.specs.Stamps.{FileCall, Made, Stamped, is_same_found}
use Rattle.state_secrets.specs.declared.looking.Pass.TheVariants.{End, Later, Due, Want}
use Rattle.state_secrets.specs.declared.looking.Step.TheVariants.{Bare, Same, Ends}
use Rattle.state_secrets.specs.declared.looking.TheConstants.{LOOK_EVERY, MOST_MARKS, NEVER}

-- ---- what is known of a file

abbrev pub is_mark_of : List ℕ → List ℕ → FileMark → Bool
is_mark_of name file mark = bytes_eq mark.name name && bytes_eq mark.file file

-- what came of the last reading of the file of that path for the entry of that name
abbrev pub seen_of : List FileMark → List ℕ → List ℕ → Option FileSeen
seen_of marks name file = option_map (λ (mark : FileMark). mark.seen) (find (is_mark_of name file) marks)

-- something of it is held
abbrev pub is_held : List Secret → List ℕ → List ℕ → Bool
is_held secrets name file = is_some (taken_from secrets name file)

-- it is to be read: it never was, or has another stamp, or its time has come; or nothing of it is held though nothing was wrong
abbrev pub is_to_be_read : Option FileSeen → Bool → Option FileStamp → ℕ → Bool
is_to_be_read None is_held stamp now = true
is_to_be_read (Some seen) is_held stamp now = not (is_same_found seen.stamp stamp) || (nat_le seen.again now || (is_none seen.trouble && not is_held))

-- the mark in the place of the one of its file, or as the last
abbrev pub with_mark_at : FileMark → List FileMark → Option ℕ → List FileMark
with_mark_at mark marks None = marks ++ mark ∷ []
with_mark_at mark marks (Some i) = slice_set marks i mark

abbrev pub with_mark : FileMark → List FileMark → List FileMark
with_mark mark marks = with_mark_at mark marks (position (is_mark_of mark.name mark.file) marks)

-- unless memory is wanting for it
abbrev pub MaySet : FileMark → List FileMark → List FileMark → Type 0
MaySet mark old new = (new ≡ with_mark mark old) ⊎ (new ≡ old)

-- ---- a pass over the rows

pub record IsDueFile (at : ℕ) (name file path : List ℕ) (stamp : Option FileStamp) (due : DueFile) : Type 0 where
  pub at_is : due.at ≡ at
  pub name_is : due.name ≡ name
  pub file_is : due.file ≡ file
  pub path_is : due.path.items ≡ path
  pub stamp_is : due.stamp ≡ stamp

module _ {I : Type 0} (calls : I → Option (List FileCall)) (marks : List FileMark) (secrets : List Secret) (folder : List ℕ) (now : ℕ) where
  -- the file is looked at once, and has this stamp
  abbrev pub IsLookedAt : List ℕ → Option FileStamp → I → I → Type 0
  IsLookedAt file stamp old new = Made (Stamped (placed folder file) stamp) (calls old) (calls new)

  abbrev pub is_due_of : Row → List ℕ → Option FileStamp → Bool
  is_due_of row file stamp = is_to_be_read (seen_of marks row.name file) (is_held secrets row.name file) stamp now

  -- it is as it was; or it is to be read
  pub record IsFileUnchanged (row : Row) (left : ℕ) (old new : I) : Type 0 where
    pub file : List ℕ
    pub named : row.file ≡ Some file
    pub more : left ≢ 0
    pub stamp : Option FileStamp
    pub looked : IsLookedAt file stamp old new
    pub due : is_due_of row file stamp ≡ false

  pub record IsDue (i : ℕ) (row : Row) (left : ℕ) (old : I) (due : DueFile) (new : I) : Type 0 where
    pub file : List ℕ
    pub named : row.file ≡ Some file
    pub more : left ≢ 0
    pub stamp : Option FileStamp
    pub looked : IsLookedAt file stamp old new
    pub is_due : is_due_of row file stamp ≡ true
    pub which : IsDueFile i row.name file (placed folder file) stamp due

  -- the row at a place, where so many more files may be looked at
  abbrev pub Steps : ℕ → Row → ℕ → I → Step → I → Type 0
  Steps i row left old Bare new = (row.file ≡ None) × (new ≡ old)
  Steps i row left old Same new = IsFileUnchanged row left old new
  Steps i row left old (Ends End) new = ⊥
  Steps i row left old (Ends (Later at)) new = (at ≡ i) × ((left ≡ 0) × (new ≡ old))
  Steps i row left old (Ends (Due due)) new = IsDue i row left old due new
  Steps i row left old (Ends Want) new = (new ≡ old) ⊎ ((file : List ℕ) × ((stamp : Option FileStamp) × ((row.file ≡ Some file) × ((left ≢ 0) × IsLookedAt file stamp old new))))

  -- the rows after it follow, unless the pass ends there for now
  abbrev pub PassesByStep : Step → (ℕ → I → Pass → I → Type 0) → ℕ → I → Pass → I → Type 0
  PassesByStep Bare Follow left old pass new = Follow left old pass new
  PassesByStep Same Follow left old pass new = Follow (left - 1) old pass new
  PassesByStep (Ends end) Follow left old pass new = (pass ≡ end) × (new ≡ old)

  -- the rows from that place on
  abbrev pub Passes : ℕ → List Row → ℕ → I → Pass → I → Type 0
  Passes i [] left old pass new = (pass ≡ End) × (new ≡ old)
  Passes i (row ∷ rows) left old pass new = (step : Step) × ((mid : I) × (Steps i row left old step mid × PassesByStep step (Passes (i + 1) rows) left mid pass new))

-- ---- from pass to pass

pub record IsBegun (looking : Looking) : Type 0 where
  pub marks : looking.marks.items ≡ []
  pub next : looking.next ≡ 0
  pub from : looking.from ≡ 0

-- the next begins in the first turn ten seconds later. Marks of rows that went are not kept for ever
pub record IsPassed (now : ℕ) (old new : Looking) : Type 0 where
  pub marks : new.marks.items ≡ (if nat_lt MOST_MARKS (length old.marks.items) then [] else old.marks.items)
  pub next : new.next ≡ 0
  pub from : new.from ≡ min (now + LOOK_EVERY) NEVER

-- a pass begins in the next turn
abbrev pub begun_anew : Looking → Looking
begun_anew looking = record looking { next = 0; from = 0 }
