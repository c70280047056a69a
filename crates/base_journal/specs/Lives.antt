-- Lives: a journal's file from one process to the next, through kills and losses of power.
-- Source: this project's own.
use Rattle.std.specs.Prelude.{◌≡◌, ◌⊎◌, ℕ, Bool, true, false, List, [], ◌∷◌, ◌++◌, Option, Some, None, Result, Ok, Err, OnOk, OnErr}
use Rattle.std.proofs.Common.{inl, inr}
use Rattle.base_disk.specs.{Image.File, Image.Image, State.DiskState, State.LeavesOnly, declared.fault.DiskFault.DiskFault}
use Rattle.base_journal.specs.declared.journal.Journal.{Journal}
use Rattle.base_journal.specs.Journals.{CrashLeaves, Exchanging, JournalIsWhole, bytes_of_file, lines_of_journal, path_of_journal}
use Rattle.base_journal.specs.Records.{IsBeforeOrAfter, StandsFor, lines_kept}

-- ---- calls

-- what a call is for: one record more; the marked ones taken out; the marked ones taken out once another file has its place; or anything
-- with other files
pub data Aim : Type 0 where
  Put : List ℕ → Aim
  Compact : List Bool → Aim
  Exchange : List ℕ → File → List Bool → Aim
  Elsewhere : Aim

-- what it makes of the records
abbrev pub lines_with : Aim → List (List ℕ) → List (List ℕ)
lines_with (Put line) lines = lines ++ line ∷ []
lines_with (Compact outs) lines = lines_kept lines outs
lines_with (Exchange target file outs) lines = lines_kept lines outs
lines_with Elsewhere lines = lines

-- a call, and whether it was acknowledged
pub record Answered : Type 0 where
  pub aim : Aim
  pub is_acknowledged : Bool

-- the first lines are made the second ones by these calls in their order: by each that was acknowledged, and with or without each other
abbrev pub CallsMake : List Answered → List (List ℕ) → List (List ℕ) → Type 0
CallsMake [] from lines = lines ≡ from
CallsMake (call ∷ calls) from lines = CallsMake calls (lines_with call.aim from) lines ⊎ ((call.is_acknowledged ≡ false) × CallsMake calls from lines)

-- a process with its journal and its disk, and the calls that it and those before it have made, in order
pub record Standing (D : Type 0) : Type 0 where
  pub calls : List Answered
  pub journal : Journal
  pub disk : D

-- a call: its answer, and the journal and the disk then
pub record Call (D : Type 0) : Type 0 where
  pub aim : Aim
  pub answer : Result (Unit {0}) DiskFault
  pub journal : Journal
  pub disk : D

-- the end of a process, between two calls or amid one that would have gone like this; what is seen behind it, and the journal and the
-- disk of the next process, which has read that
pub record End (D : Type 0) : Type 0 where
  pub amid : Option (Call D)
  pub seen : Image
  pub journal : Journal
  pub disk : D

abbrev pub Event : Type 0 → Type 0
Event D = Call D ⊎ End D

-- ---- what the contracts of the calls say

-- what a crash amid a call leaves
abbrev pub LeavesAmid : Aim → List ℕ → List (List ℕ) → DiskState → Image → Type 0
LeavesAmid (Put line) path lines old c = CrashLeaves path (IsBeforeOrAfter lines line) old c
LeavesAmid (Compact outs) path lines old c = CrashLeaves path (λ bytes. StandsFor bytes (lines_kept lines outs)) old c
LeavesAmid (Exchange target file outs) path lines old c = Exchanging path target file (λ bytes. StandsFor bytes (lines_kept lines outs)) old c
LeavesAmid Elsewhere path lines old c = (d : Image) × old.may_leave d × (c path ≡ d path)

-- an acknowledged call has made its lines the journal's, and they are on the disk
abbrev pub IsDone : Aim → Journal → Journal → DiskState → Type 0
IsDone (Put line) old new s = (lines_of_journal new ≡ lines_of_journal old ++ line ∷ []) × JournalIsWhole new s
IsDone (Compact outs) old new s = (lines_of_journal new ≡ lines_kept (lines_of_journal old) outs) × JournalIsWhole new s
IsDone (Exchange target file outs) old new s = (lines_of_journal new ≡ lines_kept (lines_of_journal old) outs) × JournalIsWhole new s
IsDone Elsewhere old new s = lines_of_journal new ≡ lines_of_journal old

pub record IsCall {D : Type 0} (state : D → DiskState) (old : Standing D) (call : Call D) : Type 0 where
  pub acknowledged : OnOk call.answer (IsDone call.aim old.journal call.journal (state call.disk))
  pub refused : OnErr call.answer (lines_of_journal call.journal ≡ lines_of_journal old.journal)
  pub path : path_of_journal call.journal ≡ path_of_journal old.journal
  pub any_moment : LeavesOnly (state old.disk) (state call.disk) (LeavesAmid call.aim (path_of_journal old.journal) (lines_of_journal old.journal) (state old.disk))

-- ---- what happens

-- what a loss of power might have left at that end
abbrev pub LeftAtEnd : {D : Type 0} → (D → DiskState) → Standing D → Option (Call D) → Image → Type 0
LeftAtEnd state old None c = (state old.disk).may_leave c
LeftAtEnd state old (Some call) c = IsCall state old call × (state call.disk).left_since (state old.disk).moment c

-- A loss of power leaves one such image, which is seen then, and nothing else is left to be lost. A kill leaves in the system's memory
-- what the system might have written at that moment, and on the disk whatever it has written: each is such an image.
pub record IsEnd {D : Type 0} (state : D → DiskState) (old : Standing D) (e : End D) : Type 0 where
  pub seen : LeftAtEnd state old e.amid e.seen
  pub left : (c : Image) → (state e.disk).may_leave c → LeftAtEnd state old e.amid c
  pub read : StandsFor (bytes_of_file (e.seen (path_of_journal e.journal))) (lines_of_journal e.journal)
  pub path : path_of_journal e.journal ≡ path_of_journal old.journal

abbrev pub Happens : {D : Type 0} → (D → DiskState) → Standing D → Event D → Type 0
Happens state old (inl call) = IsCall state old call
Happens state old (inr e) = IsEnd state old e

abbrev pub answered : Aim → Result (Unit {0}) DiskFault → Answered
answered aim (Ok x) = record { aim = aim; is_acknowledged = true }
answered aim (Err fault) = record { aim = aim; is_acknowledged = false }

-- a call that its process did not live to see answered is one that was not acknowledged
abbrev pub calls_at_end : {D : Type 0} → List Answered → Option (Call D) → List Answered
calls_at_end calls None = calls
calls_at_end calls (Some call) = calls ++ record { aim = call.aim; is_acknowledged = false } ∷ []

abbrev pub standing_after : {D : Type 0} → Standing D → Event D → Standing D
standing_after old (inl call) = record { calls = old.calls ++ answered call.aim call.answer ∷ []; journal = call.journal; disk = call.disk }
standing_after old (inr e) = record { calls = calls_at_end old.calls e.amid; journal = e.journal; disk = e.disk }

-- what happened, one after the other
abbrev pub AllHappen : {D : Type 0} → (D → DiskState) → Standing D → List (Event D) → Type 0
AllHappen state old [] = Unit {0}
AllHappen state old (e ∷ es) = Happens state old e × AllHappen state (standing_after old e) es

abbrev pub standing_after_all : {D : Type 0} → Standing D → List (Event D) → Standing D
standing_after_all old [] = old
standing_after_all old (e ∷ es) = standing_after_all (standing_after old e) es

-- ---- what holds then

-- these lines were there at first: the first process has read them, or a loss of power might have left them then
abbrev pub WereThere : {D : Type 0} → (D → DiskState) → Standing D → List (List ℕ) → Type 0
WereThere state first lines = (lines ≡ lines_of_journal first.journal)
    ⊎ ((c : Image) × (state first.disk).may_leave c × StandsFor (bytes_of_file (c (path_of_journal first.journal))) lines)

-- these lines are what the calls since have made of such lines
abbrev pub AreMade : {D : Type 0} → (D → DiskState) → Standing D → List Answered → List (List ℕ) → Type 0
AreMade state first calls lines = (from : List (List ℕ)) × WereThere state first from × CallsMake calls from lines

-- so are those that the process holds, and those of each file that a loss of power may leave
pub record HoldsAll {D : Type 0} (state : D → DiskState) (first s : Standing D) : Type 0 where
  pub held : AreMade state first s.calls (lines_of_journal s.journal)
  pub left : (c : Image) → (state s.disk).may_leave c → (lines : List (List ℕ)) → StandsFor (bytes_of_file (c (path_of_journal s.journal))) lines → AreMade state first s.calls lines

-- it is so after any number of calls, kills and losses of power, in any order
abbrev pub OverStarts : {D : Type 0} → (D → DiskState) → Type 0
OverStarts {D} state = (first : Standing D) → first.calls ≡ [] → (events : List (Event D)) → AllHappen state first events → HoldsAll state first (standing_after_all first events)
