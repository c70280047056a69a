-- Reach: what the command `reach` writes about a forest.
-- Source: this project's own; how far renewals lead is Vault, "Lease, renew, and revoke" (maximum TTL), and an entry ends with
-- what it stands under by Vault, "Tokens".
use Rattle.std.specs.Prelude.{◌≡◌, ◌⊎◌, ℕ, zero, suc, ◌-◌, ◌≤◌, ◌<◌, Bool, true, false, if◌then◌else◌, ◌&&◌, nat_le, nat_lt, List, [], ◌∷◌, ◌++◌, Option, Some, None, codes, decimal, length, max, replicate}
use Rattle.base_moment.specs.{declared.moment.TheConstants.LAST, Rfc3339.IsDateText}
use Rattle.plan_forest.specs.{declared.entry.Entry.Entry, Over.chain}
use Rattle.plan_forest.specs.Forest.{Forest, end_of, entry_at}
use Rattle.plan_rule.specs.Reach.{reach}
use Rattle.plan_search.specs.Decides.{NoneKeeps, SomeKeeps}
use Rattle.plan_commands.specs.{declared.bound.Bound.Bound, EndsText.keeps_line}

-- of an entry's own reach and what binds its parent, what binds the entry: the lesser, of equals the parent's; None is
-- without limit
abbrev pub nearer : Option ℕ → ℕ → Option ℕ → ℕ → Bound
nearer own i None by = record { most = own; by = i }
nearer None i (Some most) by = record { most = Some most; by = by }
nearer (Some reach) i (Some most) by = if nat_le most reach then (record { most = Some most; by = by }) else (record { most = Some reach; by = i })

-- what binds the first of these entries, each of which stands under the next: the least of their reaches, and who has it,
-- of several the last; without a limit it is the first itself
abbrev pub binding : (ℕ → Option ℕ) → List ℕ → Bound
binding reach [] = record { most = None; by = 0 }
binding reach (i ∷ over) = nearer (reach i) i (binding reach over).most (binding reach over).by

-- the least reach from s over the entry i, and the lowest entry over it that has it
unfoldable pub binding_reach : Forest → ℕ → ℕ → Bound
binding_reach g s i = binding (reach g.entries g.margin s (end_of g.entries)) (chain g.entries i)

-- a moment as a number, or as a date where it has one
abbrev pub IsMomentWord : Bool → ℕ → List ℕ → Type 0
IsMomentWord false moment word = word ≡ decimal moment
IsMomentWord true moment word = ((moment ≤ LAST) × IsDateText word moment) ⊎ ((LAST < moment) × (word ≡ decimal moment))

abbrev pub IsUntilWord : Bool → Option ℕ → List ℕ → Type 0
IsUntilWord dates None word = word ≡ codes "always"
IsUntilWord dates (Some most) word = IsMomentWord dates most word

-- 0, which is no need, is a number always
abbrev pub IsNeedWord : Bool → ℕ → List ℕ → Type 0
IsNeedWord dates zero word = word ≡ decimal 0
IsNeedWord dates (suc n) word = IsMomentWord dates (suc n) word

-- four words, parted by blanks, and a line feed
unfoldable pub four_word_line : List ℕ → List ℕ → List ℕ → List ℕ → List ℕ
four_word_line a b c d = a ++ (32 ∷ (b ++ (32 ∷ (c ++ (32 ∷ (d ++ (10 ∷ [])))))))

-- whether a need comes after s and after the moment at which the entry ends at the latest; None is without limit
abbrev pub is_short : ℕ → Option ℕ → ℕ → Bool
is_short s None need = false
is_short s (Some most) need = nat_lt s need && nat_lt most need

-- whether that is so of the entry i
abbrev pub short_at : Forest → ℕ → ℕ → Bool
short_at g s i = is_short s (binding_reach g s i).most (entry_at g.entries i).need

-- ---- lines in columns

-- the length of the longest of the first n names, or of `NAME`
unfoldable pub widest : List Entry → ℕ → ℕ
widest es zero = 4
widest es (suc n) = max (widest es n) (length (entry_at es n).name)

-- a text with blanks after it, up to a width
unfoldable pub padded : ℕ → List ℕ → List ℕ
padded width text = text ++ replicate (width - length text) 32

-- a text in its column, and the two blanks before the next one
unfoldable pub column : ℕ → List ℕ → List ℕ
column width text = padded width text ++ (32 ∷ 32 ∷ [])

-- four words in columns: that of a moment is as wide as a date
unfoldable pub columns : ℕ → List ℕ → List ℕ → List ℕ → List ℕ → List ℕ
columns width a b c d = column width a ++ (column 20 b ++ (column width c ++ d))

-- what ends a line in columns
unfoldable pub line_end : Bool → List ℕ
line_end true = codes "  SHORT\n"
line_end false = codes "\n"

-- with dates lines are in columns, and the first line names them
abbrev pub head : Bool → ℕ → List ℕ
head false width = []
head true width = columns width (codes "NAME") (codes "UNTIL") (codes "BY") (codes "NEED") ++ line_end false

-- the line of these words, in the form that goes with or without dates
abbrev pub word_line : Bool → ℕ → Bool → List ℕ → List ℕ → List ℕ → List ℕ → List ℕ
word_line false width short a b c d = four_word_line a b c d
word_line true width short a b c d = columns width a b c d ++ line_end short

-- ---- the whole text

-- `NAME UNTIL BY NEED` and a line feed; with dates in columns, and `SHORT` where the entry ends before its need
pub record IsReachLine (g : Forest) (s : ℕ) (dates : Bool) (i : ℕ) (line : List ℕ) : Type 0 where
  pub until : List ℕ
  pub is_until : IsUntilWord dates (binding_reach g s i).most until
  pub need : List ℕ
  pub is_need : IsNeedWord dates (entry_at g.entries i).need need
  pub spelled : line ≡ word_line dates (widest g.entries (length g.entries)) (short_at g s i) (entry_at g.entries i).name until (entry_at g.entries (binding_reach g s i).by).name need

-- the lines of the first n entries, in order
abbrev pub AreReachLines : Forest → ℕ → Bool → ℕ → List ℕ → Type 0
AreReachLines g s dates zero text = text ≡ []
AreReachLines g s dates (suc n) text = (front : List ℕ) × (line : List ℕ) × AreReachLines g s dates n front × IsReachLine g s dates n line × (text ≡ front ++ line)

-- whether some plan keeps
abbrev pub SaysWhetherKept : Forest → ℕ → Bool → Type 0
SaysWhetherKept g s true = SomeKeeps g s
SaysWhetherKept g s false = NoneKeeps g s

-- the head, a line for each entry, and a line that says whether some plan from s keeps each entry until its need
pub record IsReachText (g : Forest) (s : ℕ) (dates : Bool) (text : List ℕ) : Type 0 where
  pub lines : List ℕ
  pub are_lines : AreReachLines g s dates (length g.entries) lines
  pub kept : Bool
  pub judged : SaysWhetherKept g s kept
  pub spelled : text ≡ head dates (widest g.entries (length g.entries)) ++ (lines ++ keeps_line kept)

-- a forest and a start have one such text: nothing else shows in it
abbrev pub OneReachText : Type 0
OneReachText = (g : Forest) (s : ℕ) (dates : Bool) (text other : List ℕ) → IsReachText g s dates text → IsReachText g s dates other → text ≡ other
