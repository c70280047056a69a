-- Takings: a file of a credential is looked at and read, and what it holds is looked up at the broker and taken into a state.
-- Source: docs/running.md, "Secrets by file".
use Rattle.std.specs.Prelude.{◌≡◌, ◌⊎◌, ◌<◌, ◌≤◌, ℕ, ◌+◌, Bool, true, false, not, ◌&&◌, ◌||◌, List, Option, Some, None, IfOk, Result, Ok, Err, bytes_eq, drop, length, min}
use Rattle.std.specs.{Bool.beq, List.list_any, declared.alloc.AllocError.AllocError}
use Rattle.agent_standing.specs.Waiting.{changed}
use Rattle.vault_asking.specs.Sending.{Lanes}
use Rattle.plan_forest.specs.Push.{is_lease}
use Rattle.state_changes.specs.{Rows.has_under, Rows.named, declared.row.Row.Row, declared.secret.Secret.Secret}
use Rattle.base_clock.specs.declared.reading.Reading.{Reading}
use Rattle.vault_lanes.specs.declared.loss.Loss.{Loss}
use Rattle.vault_proving.specs.{declared.candidate.Candidate.Candidate, declared.verdict.Verdict.Verdict}
use Rattle.vault_proving.specs.declared.verdict.Verdict.TheVariants.{Good, Refused, Endless, Missing}
use Rattle.state_keeping.specs.Keepers.{waiting_in}
use Rattle.state_keeping.specs.States.{Kept, book_in, store_in}
use Rattle.state_store.specs.{Books.Book, Books.HasSecrets, Stores.lines_in}
use Rattle.state_secrets.specs.{Stamps.FileCall, declared.looking.DueFile.DueFile, declared.looking.Looking.Looking, declared.looking.Pass.Pass, declared.looking.SecretTrouble.SecretTrouble}
use Rattle.state_secrets.specs.{declared.looking.TheConstants.MOST_LOOKS, declared.looking.TheConstants.NEVER, declared.news.Became.Became, declared.news.Looked.Looked}
use Rattle.state_secrets.specs.Looking.{IsPassed, Passes, is_held, seen_of}
use Rattle.state_secrets.specs.Outcomes.{IsNoted, MayRead, ReadsFile, has_it, names_file, news_about, news_of, secret_for, secrets_with, seen_after}
use Rattle.state_secrets.specs.declared.news.Became.TheVariants.{Taken, Same, Troubled}
use Rattle.state_secrets.specs.declared.looking.Pass.TheVariants as passes
use Rattle.state_secrets.specs.declared.looking.SecretTrouble.TheVariants as troubles
use Rattle.agent_ledger.specs.{Candidates.IsFileCandidate, Untouched.IsAsItWas, declared.asked_file.AskedFile.AskedFile, declared.asker.FileWord.FileWord, declared.keeping.FileLook.FileLook, declared.ledger.Ledger.Ledger}
use Rattle.agent_ledger.specs.{declared.secret_changes.TheConstants.ALWAYS_FIT}
use Rattle.agent_ledger.specs.Askers.{AskerAsks, HearsFirst, free_place, is_asked_for, may_look}

-- ---- why a credential is not taken

-- an entry has it: as its own, or by its file
abbrev pub has_credential : List Secret → List ℕ → Row → Option (List ℕ) → Bool
has_credential secrets credential row None = bytes_eq row.credential credential
has_credential secrets credential row (Some file) = has_it secrets row.name file credential

-- another entry of the kind has it
abbrev pub is_anothers : List Secret → List Row → List ℕ → Row → Bool
is_anothers secrets rows credential own = list_any (λ row. not (bytes_eq row.name own.name) && (beq (is_lease row.kind) (is_lease own.kind) && has_credential secrets credential row row.file)) rows

-- nothing was held of its file, and entries stand under it, which come to be handed on with it: one of them may have what another has
abbrev pub brings_others : List Secret → List Row → DueFile → Bool
brings_others secrets rows due = not (is_held secrets due.name due.file) && has_under rows due.name

abbrev pub may_be_anothers : List Secret → List Row → DueFile → List ℕ → Option Row → Bool
may_be_anothers secrets rows due credential None = false
may_be_anothers secrets rows due credential (Some own) = is_anothers secrets rows credential own || brings_others secrets rows due

-- it may be another's; or there are so many entries that the text of all of them may be too long
abbrev pub IsWhyNotTaken : Book → DueFile → List ℕ → SecretTrouble → Type 0
IsWhyNotTaken book due credential trouble =
    ((trouble ≡ troubles.Another) × (may_be_anothers book.secrets book.rows due credential (named book.rows due.name) ≡ true))
    ⊎ ((trouble ≡ troubles.TooLong) × (ALWAYS_FIT < length book.rows))

-- ---- a credential

abbrev pub is_held_already : {D : Type 0} → DueFile → List ℕ → Kept D → Bool
is_held_already due credential kept = has_it (book_in kept).secrets due.name due.file credential

module _ {D : Type 0} (now : ℕ) (due : DueFile) (credential : List ℕ) (old : Kept D) (became : Became) (new : Kept D) where
  -- the entry has it
  pub record IsHeldAlready : Type 0 where
    pub is_held : is_held_already due credential old ≡ true
    pub became_is : became ≡ Same
    pub untouched : IsAsItWas old new

  -- it is taken, beside what is held of all other files that are named still, and waits to be served; the journal stays as it is
  pub record IsTakenNow : Type 0 where
    pub is_new : is_held_already due credential old ≡ false
    pub became_is : became ≡ Taken
    pub has : HasSecrets (book_in old) (secrets_with (book_in old).rows (book_in old).secrets (secret_for due credential)) (book_in new)
    pub waiting : waiting_in new.keeper ≡ changed (waiting_in old.keeper) now
    pub lines : lines_in (store_in new) ≡ lines_in (store_in old)

  -- it cannot be handed on
  pub record IsNotTaken : Type 0 where
    pub is_new : is_held_already due credential old ≡ false
    pub trouble : SecretTrouble
    pub why : IsWhyNotTaken (book_in old) due credential trouble
    pub became_is : became ≡ Troubled trouble
    pub untouched : IsAsItWas old new

  abbrev pub TakesCredential : Type 0
  TakesCredential = IsHeldAlready ⊎ (IsTakenNow ⊎ IsNotTaken)

-- what the file gives is that, or nothing but what is wrong with it
abbrev pub TakesHeld : {D : Type 0} → ℕ → DueFile → Result (List ℕ) SecretTrouble → Kept D → Became → Kept D → Type 0
TakesHeld now due (Ok credential) old became new = TakesCredential now due credential old became new
TakesHeld now due (Err trouble) old became new = (became ≡ Troubled trouble) × IsAsItWas old new

-- ---- what came of a file is kept and told

abbrev pub quiet : Bool → Looked
quiet goes_on = record { news = None; goes_on = goes_on; is_enough = true }

abbrev pub wanting : Looked
wanting = record { news = None; goes_on = false; is_enough = false }

module _ {D : Type 0} (now : ℕ) (due : DueFile) (held : Result (List ℕ) SecretTrouble) (old : Looking) (kept : Kept D) (looked : Looked) (new : Looking) (left : Kept D) where
  -- what the file gives is taken, and that is kept and told. The disk is left alone
  pub record IsTakenUp : Type 0 where
    pub became : Became
    pub taken : TakesHeld now due held kept became left
    pub noted : IsNoted due (seen_after (seen_of old.marks.items due.name due.file) due.stamp now became) old new
    pub told : looked ≡ record { news = news_about due.name (news_of (seen_of old.marks.items due.name due.file) (is_held (book_in kept).secrets due.name due.file) became); goes_on = true; is_enough = true }
    pub disk : left.disk ≡ kept.disk

  -- memory was wanting: nothing is taken, and it is due still
  pub record IsPutOff : Type 0 where
    pub same : new ≡ old
    pub untouched : IsAsItWas kept left
    pub disk : left.disk ≡ kept.disk
    pub told : looked ≡ wanting

  abbrev pub TakesUpFile : Type 0
  TakesUpFile = IsTakenUp ⊎ IsPutOff

-- it is read; or it may have been, and memory was wanting
abbrev pub IsFileReadAs : {I : Type 0} → (I → Option (List FileCall)) → DueFile → Result (Result (List ℕ) SecretTrouble) AllocError → I → I → Type 0
IsFileReadAs calls due (Ok held) before after = ReadsFile calls due.path.items due.stamp held before after
IsFileReadAs calls due (Err e) before after = MayRead calls due.path.items before after

-- ---- it is looked up first

-- by the broker's word: it says nothing against the credential, or refuses it, or has no end for it
abbrev pub judged : List ℕ → Verdict → Result (List ℕ) SecretTrouble
judged credential Good = Ok credential
judged credential (Refused status) = Err (troubles.Refused status)
judged credential Endless = Err troubles.Endless
judged credential (Missing why) = Ok credential

-- the look goes on after that row
abbrev pub past : ℕ → Looking → Looking
past at looking = record looking { next = min (at + 1) NEVER }

module _ {D I L : Type 0} (calls : I → Option (List FileCall)) (lanes_seen : L → Lanes) (port : L → ℕ) (now : Reading) (looked : Looked) where
  pub record TakesHeldUp (due : DueFile) (held : Result (List ℕ) SecretTrouble) (old new : Ledger D I L) : Type 0 where
    pub takes : TakesUpFile now.elapsed due held old.looking old.state looked new.looking new.state
    pub rest : new ≡ record old { looking = new.looking; state = new.state }

  -- it waits for the broker's word, and the look goes on; or memory is wanting, and it is due still
  abbrev pub AwaitsIf : DueFile → Result (Unit {0}) AllocError → Ledger D I L → Ledger D I L → Type 0
  AwaitsIf due (Ok x) old new = (looked ≡ quiet true) × (new ≡ record old { looking = past due.at old.looking })
  AwaitsIf due (Err e) old new = (looked ≡ wanting) × (new ≡ old)

  -- the first asker that is free looks it up
  pub record IsLookedUp (a : AskedFile) (c : Candidate) (old new : Ledger D I L) : Type 0 where
    pub place : ℕ
    pub free : free_place old.askers.items ≡ Some place
    pub result : Result (Unit {0}) AllocError
    pub mid : Ledger D I L
    pub asks : AskerAsks lanes_seen port place now a c result old.askers.items mid.askers.items
    pub beside : mid ≡ record old { askers = mid.askers }
    pub then : AwaitsIf a.due result mid new

  -- where there is nothing to be looked up, or nobody who does that, it is taken at once
  abbrev pub LooksUpBy : AskedFile → Result (Option Candidate) AllocError → Ledger D I L → Ledger D I L → Type 0
  LooksUpBy a (Ok None) old new = TakesHeldUp a.due (Ok a.credential) old new
  LooksUpBy a (Ok (Some c)) old new = ((free_place old.askers.items ≡ None) × TakesHeldUp a.due (Ok a.credential) old new) ⊎ IsLookedUp a c old new
  LooksUpBy a (Err e) old new = (looked ≡ wanting) × (new ≡ old)

  -- the entry by itself, with this credential, is looked up
  pub record LooksUpNew (due : DueFile) (credential : List ℕ) (old new : Ledger D I L) : Type 0 where
    pub candidate : Result (Option Candidate) AllocError
    pub which : IfOk candidate (IsFileCandidate (book_in old.state).file.margin (book_in old.state).rows (book_in old.state).text due.name credential)
    pub looks : LooksUpBy (record { due = due; credential = credential }) candidate old new

  -- one that the entry has already is not looked up
  abbrev pub TakesRead : DueFile → Result (Result (List ℕ) SecretTrouble) AllocError → Ledger D I L → Ledger D I L → Type 0
  TakesRead due (Ok (Ok credential)) old new =
      ((is_held_already due credential old.state ≡ true) × TakesHeldUp due (Ok credential) old new)
      ⊎ ((is_held_already due credential old.state ≡ false) × LooksUpNew due credential old new)
  TakesRead due (Ok (Err trouble)) old new = TakesHeldUp due (Err trouble) old new
  TakesRead due (Err e) old new = (looked ≡ wanting) × (new ≡ old)

  pub record ReadsUp (due : DueFile) (old new : Ledger D I L) : Type 0 where
    pub read : Result (Result (List ℕ) SecretTrouble) AllocError
    pub files : I
    pub reads : IsFileReadAs calls due read old.inputs files
    pub then : TakesRead due read (record old { inputs = files }) new

  -- ---- the broker's word is there

  -- what a file gives is taken, and the look goes on where it was
  pub record TakesBeside (due : DueFile) (held : Result (List ℕ) SecretTrouble) (old new : Ledger D I L) : Type 0 where
    pub mid : Ledger D I L
    pub takes : TakesHeldUp due held old mid
    pub rest : new ≡ record mid { looking = record mid.looking { next = old.looking.next } }

  -- it is what the verdict leaves of that. Where the entry names another file by then, or has gone, nothing is taken
  abbrev pub JudgesFile : AskedFile → Verdict → Ledger D I L → Ledger D I L → Type 0
  JudgesFile a verdict old new =
      ((names_file (named (book_in old.state).rows a.due.name) a.due.file ≡ false) × ((looked ≡ quiet true) × (new ≡ old)))
      ⊎ ((names_file (named (book_in old.state).rows a.due.name) a.due.file ≡ true)
      × TakesBeside a.due (judged a.credential verdict) old new)

  -- ---- a look

  -- a file of which the lookup is out is not read meanwhile
  abbrev pub ReadsNew : DueFile → Ledger D I L → Ledger D I L → Type 0
  ReadsNew due old new =
      ((is_asked_for due.name due.file old.askers.items ≡ true) × ((looked ≡ quiet true) × (new ≡ record old { looking = past due.at old.looking })))
      ⊎ ((is_asked_for due.name due.file old.askers.items ≡ false) × ReadsUp due old new)

  -- how a pass ends
  abbrev pub LooksBy : Pass → Ledger D I L → Ledger D I L → Type 0
  LooksBy passes.End old new = (looked ≡ quiet false) × (IsPassed now.elapsed old.looking new.looking × (new ≡ record old { looking = new.looking }))
  LooksBy (passes.Later at) old new = (looked ≡ quiet true) × (new ≡ record old { looking = record old.looking { next = at } })
  LooksBy (passes.Due due) old new = ReadsNew due old new
  LooksBy passes.Want old new = (looked ≡ wanting) × (new ≡ old)

  -- a pass over the rows goes on
  pub record IsPass (old new : Ledger D I L) : Type 0 where
    pub time : old.looking.from ≤ now.elapsed
    pub pass : Pass
    pub files : I
    pub passes : Passes calls old.looking.marks.items (book_in old.state).secrets old.folder.now now.elapsed old.looking.next (drop old.looking.next (book_in old.state).rows) MOST_LOOKS old.inputs pass files
    pub ends : LooksBy pass (record old { inputs = files }) new

  -- before its time none is looked at
  pub record IsEarly (old new : Ledger D I L) : Type 0 where
    pub early : now.elapsed < old.looking.from
    pub told : looked ≡ quiet false
    pub same : new ≡ old

  -- where nobody could look up what they hold no file is looked at
  abbrev pub LooksOn : Ledger D I L → Ledger D I L → Type 0
  LooksOn old new =
      ((may_look old.askers.items ≡ true) × (IsEarly old new ⊎ IsPass old new)) ⊎ ((may_look old.askers.items ≡ false) × ((looked ≡ quiet false) × (new ≡ old)))

  -- files are looked at where there is no word yet on what others hold. Where memory is wanting for a word, its file is due still
  abbrev pub LooksByWord : Result (Option FileWord) AllocError → Ledger D I L → Ledger D I L → Type 0
  LooksByWord (Ok None) old new = LooksOn old new
  LooksByWord (Ok (Some word)) old new = JudgesFile word.asked word.verdict old new
  LooksByWord (Err e) old new = (looked ≡ wanting) × (new ≡ old)

-- why the broker has said nothing, where it was asked and has not
abbrev pub unproved_by : Verdict → Option Loss
unproved_by Good = None
unproved_by (Refused status) = None
unproved_by Endless = None
unproved_by (Missing why) = Some why

abbrev pub unproved_in : Result (Option FileWord) AllocError → Option Loss
unproved_in (Ok None) = None
unproved_in (Ok (Some word)) = unproved_by word.verdict
unproved_in (Err e) = None

-- a look of a ledger: the broker's word on a file is heard, where there is one, or files are looked at
pub record LooksOrHears {D I L : Type 0} (calls : I → Option (List FileCall)) (lanes_seen : L → Lanes) (port : L → ℕ) (now : Reading) (look : FileLook) (old new : Ledger D I L) : Type 0 where
  pub word : Result (Option FileWord) AllocError
  pub heard : Ledger D I L
  pub hears : HearsFirst lanes_seen now.elapsed old.askers.items word heard.askers.items
  pub beside : heard ≡ record old { askers = heard.askers }
  pub looks : LooksByWord calls lanes_seen port now look.looked word heard new
  pub unproved : look.unproved ≡ unproved_in word
