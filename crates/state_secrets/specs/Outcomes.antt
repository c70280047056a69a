-- Outcomes: what a file of a credential holds, what is held then, when it is read again, and what is said of it.
-- Source: docs/running.md, "Secrets by file".
use Rattle.std.specs.Prelude.{◌≡◌, ◌⊎◌, ℕ, ◌+◌, ◌*◌, ◌==◌, Bool, true, false, not, ◌&&◌, if◌then◌else◌, List, [], ◌∷◌, ◌++◌, Option, Some, None, Result, Ok, Err, bytes_eq, is_none, is_some, min, nat_lt}
use Rattle.std.specs.List.{filter}
use Rattle.state_changes.specs.{Rows.named, declared.row.Row.Row, Secrets.taken_from, declared.secret.Secret.Secret}
use Rattle.base_device.specs.declared.fault.InputFault.{InputFault}
use Rattle.base_device.specs.declared.fault.InputFault.TheVariants as inputs
use Rattle.state_secrets.specs.{Credentials.credential_in, Looking.MaySet, declared.credential.TheConstants.MOST_SECRET, declared.looking.DueFile.DueFile, declared.looking.FileMark.FileMark, declared.looking.FileSeen.FileSeen}
use Rattle.state_secrets.specs.{declared.looking.Looking.Looking, declared.looking.SecretTrouble.SecretTrouble, declared.looking.TheConstants.LOOK_EVERY, declared.looking.TheConstants.NEVER, declared.outcome.TheConstants.LONGEST_PAUSE}
use Rattle.state_secrets.specs.{declared.secret_files.FileStamp.FileStamp, declared.news.Became.Became, declared.news.SecretNews.SecretNews, declared.news.SecretWord.SecretWord}
use Rattle.state_secrets.specs.Stamps.{FileCall, Made, Opened, is_same_found}
use Rattle.state_secrets.specs.declared.looking.SecretTrouble.TheVariants.{Unread, NotRegular, NoSecret, Another, TooLong, Endless, Refused}
use Rattle.state_secrets.specs.declared.news.Became.TheVariants.{Taken, Same, Troubled}
use Rattle.state_secrets.specs.declared.news.SecretWord.TheVariants as words

-- ---- what a file holds

-- a credential; or what is wrong
abbrev pub or_trouble : Option (List ℕ) → Result (List ℕ) SecretTrouble
or_trouble None = Err NoSecret
or_trouble (Some credential) = Ok credential

abbrev pub secret_of : List ℕ → Result (List ℕ) SecretTrouble
secret_of text = or_trouble (credential_in text)

abbrev pub held_in : Result (List ℕ) InputFault → Result (List ℕ) SecretTrouble
held_in (Ok text) = secret_of text
held_in (Err inputs.TooLong) = Err NoSecret
held_in (Err inputs.ReadFailed) = Err Unread
held_in (Err inputs.OutOfMemory) = Err Unread

module _ {I : Type 0} (calls : I → Option (List FileCall)) (path : List ℕ) (stamp : Option FileStamp) where
  -- there is no file, or it is no regular one: it is not opened
  pub record IsAway (held : Result (List ℕ) SecretTrouble) (old new : I) : Type 0 where
    pub stamp_is : stamp ≡ None
    pub told : held ≡ Err Unread
    pub unopened : new ≡ old

  pub record IsNoFile (held : Result (List ℕ) SecretTrouble) (old new : I) : Type 0 where
    pub found : FileStamp
    pub stamp_is : stamp ≡ Some found
    pub is_not : found.is_regular ≡ false
    pub told : held ≡ Err NotRegular
    pub unopened : new ≡ old

  -- else it is read once
  pub record IsReadOnce (held : Result (List ℕ) SecretTrouble) (old new : I) : Type 0 where
    pub found : FileStamp
    pub stamp_is : stamp ≡ Some found
    pub is : found.is_regular ≡ true
    pub read : Result (List ℕ) InputFault
    pub made : Made (Opened path MOST_SECRET read) (calls old) (calls new)
    pub told : held ≡ held_in read

  abbrev pub ReadsFile : Result (List ℕ) SecretTrouble → I → I → Type 0
  ReadsFile held old new = IsAway held old new ⊎ (IsNoFile held old new ⊎ IsReadOnce held old new)

-- at most once, where memory was wanting
abbrev pub MayRead : {I : Type 0} → (I → Option (List FileCall)) → List ℕ → I → I → Type 0
MayRead calls path old new = (new ≡ old) ⊎ ((read : Result (List ℕ) InputFault) × Made (Opened path MOST_SECRET read) (calls old) (calls new))

-- ---- what becomes of it

-- that credential is held already
abbrev pub is_credential_of : List ℕ → Option Secret → Bool
is_credential_of credential None = false
is_credential_of credential (Some secret) = bytes_eq secret.credential credential

abbrev pub has_it : List Secret → List ℕ → List ℕ → List ℕ → Bool
has_it secrets name file credential = is_credential_of credential (taken_from secrets name file)

-- an entry is there, and its credential stands in that file
abbrev pub is_own_file : Option (List ℕ) → List ℕ → Bool
is_own_file None file = false
is_own_file (Some own) file = bytes_eq own file

abbrev pub names_file : Option Row → List ℕ → Bool
names_file None file = false
names_file (Some row) file = is_own_file row.file file

-- what is held of another entry stays, where that still names the file
abbrev pub stays : List Row → List ℕ → Secret → Bool
stays rows name secret = not (bytes_eq secret.name name) && names_file (named rows secret.name) secret.file

abbrev pub secrets_with : List Row → List Secret → Secret → List Secret
secrets_with rows secrets secret = filter (stays rows secret.name) secrets ++ secret ∷ []

abbrev pub secret_for : DueFile → List ℕ → Secret
secret_for due credential = record { name = due.name; file = due.file; credential = credential }

-- ---- what is kept of it

abbrev pub is_confirmed : Option FileSeen → Option FileStamp → Bool
is_confirmed None stamp = false
is_confirmed (Some seen) stamp = is_none seen.trouble && is_same_found seen.stamp stamp

-- once more after ten seconds, and then never, as long as its stamp stays the same
abbrev pub again_after : Option FileSeen → Option FileStamp → ℕ → ℕ
again_after before stamp now = if is_confirmed before stamp then NEVER else min (now + LOOK_EVERY) NEVER

abbrev pub is_troubled_still : Option FileSeen → Option FileStamp → Bool
is_troubled_still None stamp = false
is_troubled_still (Some seen) stamp = is_some seen.trouble && is_same_found seen.stamp stamp

abbrev pub pause_in : Option FileSeen → ℕ
pause_in None = 0
pause_in (Some seen) = seen.pause

abbrev pub doubled_pause : ℕ → ℕ
doubled_pause pause = if nat_lt pause 150000 then pause * 2 else LONGEST_PAUSE

-- after ten seconds, and then each time after twice as long, and after five minutes at most
abbrev pub pause_after : Option FileSeen → Option FileStamp → ℕ
pause_after before stamp = if is_troubled_still before stamp then doubled_pause (pause_in before) else LOOK_EVERY

abbrev pub seen_after : Option FileSeen → Option FileStamp → ℕ → Became → FileSeen
seen_after before stamp now Taken = record { stamp = stamp; trouble = None; pause = LOOK_EVERY; again = again_after before stamp now }
seen_after before stamp now Same = record { stamp = stamp; trouble = None; pause = LOOK_EVERY; again = again_after before stamp now }
seen_after before stamp now (Troubled trouble) = record { stamp = stamp; trouble = Some trouble; pause = pause_after before stamp; again = min (now + pause_after before stamp) NEVER }

abbrev pub mark_with : DueFile → FileSeen → FileMark
mark_with due seen = record { name = due.name; file = due.file; seen = seen }

-- unless memory is wanting for that; and the next row is the one after it
pub record IsNoted (due : DueFile) (seen : FileSeen) (old new : Looking) : Type 0 where
  pub marks : MaySet (mark_with due seen) old.marks.items new.marks.items
  pub next : new.next ≡ min (due.at + 1) NEVER
  pub from : new.from ≡ old.from

-- ---- what is said of it

abbrev pub trouble_number : SecretTrouble → ℕ
trouble_number Unread = 0
trouble_number NotRegular = 1
trouble_number NoSecret = 2
trouble_number Another = 3
trouble_number TooLong = 4
trouble_number Endless = 5
trouble_number (Refused status) = 6 + status

abbrev pub is_trouble : Option SecretTrouble → SecretTrouble → Bool
is_trouble None trouble = false
is_trouble (Some other) trouble = trouble_number other == trouble_number trouble

-- the file was in that trouble before
abbrev pub was_told : Option FileSeen → SecretTrouble → Bool
was_told None trouble = false
was_told (Some seen) trouble = is_trouble seen.trouble trouble

-- something was wrong with it before
abbrev pub was_troubled : Option FileSeen → Bool
was_troubled None = false
was_troubled (Some seen) = is_some seen.trouble

abbrev pub word_of : Bool → SecretTrouble → SecretWord
word_of was_held trouble = if was_held then words.Kept trouble else words.Without trouble

abbrev pub news_of : Option FileSeen → Bool → Became → Option SecretWord
news_of before was_held Taken = Some words.Taken
news_of before was_held Same = if was_troubled before then Some words.Mended else None
news_of before was_held (Troubled trouble) = if was_told before trouble then None else Some (word_of was_held trouble)

abbrev pub news_about : List ℕ → Option SecretWord → Option SecretNews
news_about name None = None
news_about name (Some what) = Some (record { name = name; what = what })
