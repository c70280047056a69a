-- SetAside: what is read of a journal and what comes after its records, and what a crash leaves while that is put in a file aside. For the
-- functions of `aside`.
use Rattle.std.proofs.Common.{◌≡◌, ◌≢◌, ◌∙◌, inl, inr, ⊎_elim, ℕ, ◌+◌, ◌<◌, Bool, true, false, List, [], ◌∷◌, ◌++◌, Some, ap, append_assoc, arith, drop, get_or, length, length-append, refl, subst, sym}
use Rattle.std.proofs.lemmas.Bool.{cond-false, cond-true}
use Rattle.std.proofs.lemmas.List.{drop-drop, drop_at, drop_more}
use Rattle.std.specs.Str.{bytes_eq}
use Rattle.base_disk.specs.Torn.{MovesFile}
use Rattle.base_disk.specs.Image.{File, Image, with_file_at}
use Rattle.base_disk.specs.State.{DiskKeeps, DiskState, Elapses, IsAfter, LeavesAlone, LeavesOnly}
use Rattle.base_disk.proofs.Moments.{and_then, goes_on, started, weaker}
use Rattle.base_journal.specs.Journals.{FileIsThere, KeepsOthers, bytes_of_file}
use Rattle.base_journal.specs.Records.{StandsFor, block, blocks}
use Rattle.base_journal.proofs.Steps.{at_path, moves_elsewhere}
use Rattle.agent_system.specs.SettingAside.{AddsUnread, IsUnread, KeepsUnread, SetsAside, file_with, is_closed, unread_of, unread_said, with_end}
use Rattle.agent_words.specs.declared.said.SaidLine.{SaidLine}

-- ---- what comes after the records

long_block : (line : List ℕ) → length (block line) ≡ length line + 2
long_block line = omega (arith, length-append line (10 ∷ []))

pub after_block : (bytes line end : List ℕ) → bytes ≡ block line ++ end → drop 2 (drop (length line) bytes) ≡ end
after_block bytes line end is = ap (λ (l : List ℕ). drop 2 (drop (length line) l)) is ∙ (drop-drop 2 (length line) (block line ++ end) ∙ drop_at (block line) end (length line + 2) (long_block line))

-- one record more
pub record_then : (lines : List (List ℕ)) (i : ℕ) (line end : List ℕ) → i < length lines → line ≡ get_or lines i line → blocks (drop i lines) ++ end ≡ block line ++ (blocks (drop (i + 1) lines) ++ end)
record_then lines i line end within is =
    ap (λ (l : List (List ℕ)). blocks l ++ end) (drop_more lines i line within ∙ ap (λ (x : List ℕ). x ∷ drop (i + 1) lines) (sym is)) ∙ append_assoc (block line) (blocks (drop (i + 1) lines)) end

pub unread_closed : (rest end : List ℕ) → rest ≡ end → is_closed rest ≡ true → [] ≡ unread_of end
unread_closed rest end same closed = sym (cond-true (is_closed end) [] end (ap is_closed (sym same) ∙ closed))

pub unread_open : (rest end : List ℕ) → rest ≡ end → is_closed rest ≡ false → rest ≡ unread_of end
unread_open rest end same apart = same ∙ sym (cond-false (is_closed end) [] end (ap is_closed (sym same) ∙ apart))

pub unread_read : (file bytes result : List ℕ) (lines : List (List ℕ)) → StandsFor file lines → bytes ≡ file → ((end : List ℕ) → bytes ≡ blocks lines ++ end → result ≡ unread_of end) → IsUnread file result
unread_read file bytes result lines h same so = record { lines = lines; stands = h; is = so h.end (same ∙ h.split) }

-- ---- calls that change nothing

pub read_once : (s t : DiskState) → ((c : Image) → s.left_since s.moment c → s.may_leave c) → LeavesAlone s t → Elapses s t → LeavesOnly s t s.may_leave
read_once s t only alone time = goes_on s s t s.may_leave (started s s.may_leave only (λ c left. left)) time alone.crash

pub read_twice : (s t u : DiskState) → ((c : Image) → s.left_since s.moment c → s.may_leave c) → LeavesAlone s t → Elapses s t → LeavesAlone t u → Elapses t u → LeavesOnly s u s.may_leave
read_twice s t u only first then second after = goes_on s t u s.may_leave (read_once s t only first then) after (λ c left. first.crash c (second.crash c left))

pub alone_twice : (s t u : DiskState) → LeavesAlone s t → LeavesAlone t u → LeavesAlone s u
alone_twice s t u first second = record { seen = second.seen ∙ first.seen; sound = second.sound ∙ first.sound; crash = λ c left. first.crash c (second.crash c left) }

pub others_alone : (path : List ℕ) (s t : DiskState) → LeavesAlone s t → KeepsOthers path s t
others_alone path s t alone = record { seen = λ other apart. ap (λ (image : Image). image other) alone.seen; sound = λ other apart. ap (λ (sound : List ℕ → Bool). sound other) alone.sound }

pub others_past : (path : List ℕ) (s t u : DiskState) → LeavesAlone s t → KeepsOthers path t u → KeepsOthers path s u
others_past path s t u alone others =
    let first = others_alone path s t alone in
    record { seen = λ other apart. others.seen other apart ∙ first.seen other apart; sound = λ other apart. others.sound other apart ∙ first.sound other apart }

-- ---- the file aside

not_moved : (path : List ℕ) (file : File) (s t : DiskState) → LeavesOnly s t s.may_leave → LeavesOnly s t (IsAfter (MovesFile path file) s)
not_moved path file s t run = weaker s t s.may_leave (IsAfter (MovesFile path file) s) run (λ c left. (c, left, inl refl))

pub not_added : (path : List ℕ) (file : File) (s t : DiskState) → ((c : Image) → s.left_since s.moment c → s.may_leave c) → LeavesAlone s t → Elapses s t → LeavesOnly s t (IsAfter (MovesFile path file) s)
not_added path file s t only alone time = not_moved path file s t (read_once s t only alone time)

placed : (path : List ℕ) (file : File) (t u : DiskState) → u.seen ≡ with_file_at path file t.seen → DiskKeeps path u → FileIsThere path file u
placed path file t u is kept = record { seen = ap (λ (image : Image). image path) is ∙ at_path path (λ _. Some file) t.seen; is_kept = kept }

-- these bytes are in the place of what was read at the path
module _ (path more : List ℕ) (s t u : DiskState) (whole : List ℕ) (is : whole ≡ with_end more (bytes_of_file (s.seen path))) where
  abbrev file : File
  file = record { mode = 384; bytes = whole }

  is_file : file ≡ file_with more (s.seen path)
  is_file = λ i. record { mode = 384; bytes = is i }

  pub added_there : u.seen ≡ with_file_at path file t.seen → DiskKeeps path u → FileIsThere path (file_with more (s.seen path)) u
  added_there seen kept = subst (λ (f : File). FileIsThere path f u) is_file (placed path file t u seen kept)

  pub added_others : LeavesAlone s t → MovesFile path file t.seen u.seen → ((other : List ℕ) → bytes_eq path other ≡ false → u.is_sound other ≡ t.is_sound other) → KeepsOthers path s u
  added_others alone moves sound = others_past path s t u alone (record { seen = moves_elsewhere path file t.seen u.seen moves; sound = sound })

  pub added_moment : ((c : Image) → s.left_since s.moment c → s.may_leave c) → LeavesAlone s t → Elapses s t → LeavesOnly t u (IsAfter (MovesFile path file) t) → LeavesOnly s u (IsAfter (MovesFile path (file_with more (s.seen path))) s)
  added_moment only alone time second =
      subst (λ (f : File). LeavesOnly s u (IsAfter (MovesFile path f) s)) is_file
      (and_then s t u (IsAfter (MovesFile path file) s) (IsAfter (MovesFile path file) t) (not_added path file s t only alone time) second (λ c after. (after.0, alone.crash after.0 after.1, after.2)))

-- ---- both

module _ (read path : List ℕ) (s : DiskState) where
  pub nothing_added : (t : DiskState) → LeavesOnly s t s.may_leave → LeavesOnly s t (IsAfter (AddsUnread read path s) s)
  nothing_added t run = weaker s t s.may_leave (IsAfter (AddsUnread read path s) s) run (λ c left. (c, left, inl refl))

  pub none_unread : (t : DiskState) (bytes : List ℕ) → IsUnread read bytes → length bytes ≡ 0 → LeavesAlone s t → KeepsUnread read path s t 0
  none_unread t bytes unread none alone = record { bytes = bytes; unread = unread; count_is = sym none; none = λ zero. alone; there = λ some. absurd (some refl) }

  module _ (t u : DiskState) (bytes : List ℕ) (unread : IsUnread read bytes) (alone : LeavesAlone s t) where
    pub kept_unread : (count : ℕ) → count ≡ length bytes → length bytes ≢ 0 → FileIsThere path (file_with bytes (t.seen path)) u → KeepsUnread read path s u count
    kept_unread count is some there = record {
      bytes = bytes;
      unread = unread;
      count_is = is;
      none = λ zero. absurd (some (sym is ∙ zero));
      there = λ _. subst (λ (image : Image). FileIsThere path (file_with bytes (image path)) u) alone.seen there;
    }

    pub then_added : LeavesOnly s t s.may_leave → LeavesOnly t u (IsAfter (MovesFile path (file_with bytes (t.seen path))) t) → LeavesOnly s u (IsAfter (AddsUnread read path s) s)
    then_added run second = and_then s t u (IsAfter (AddsUnread read path s) s) (IsAfter (MovesFile path (file_with bytes (t.seen path))) t) (nothing_added t run) second means
      where
        means : (c : Image) → IsAfter (MovesFile path (file_with bytes (t.seen path))) t c → IsAfter (AddsUnread read path s) s c
        means c after = (
          after.0,
          alone.crash after.0 after.1,
          ⊎_elim (λ same. inl same) (λ moved. inr (bytes, unread, subst (λ (image : Image). c ≡ with_file_at path (file_with bytes (image path)) after.0) alone.seen moved)) after.2,
        )

pub sets_aside : (journal aside : List ℕ) (s t : DiskState) (old new : List SaidLine) (count : ℕ) → KeepsUnread (bytes_of_file (s.seen journal)) aside s t count → new ≡ old ++ unread_said aside count → SetsAside journal aside s t old new
sets_aside journal aside s t old new count kept said = record { count = count; kept = kept; said = said }
