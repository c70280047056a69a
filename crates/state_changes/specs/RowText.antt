-- Row text: the row that a line writes as `row_text` writes it, and which rows a table can write.
-- Source: this project's own.
use Rattle.std.specs.Prelude.{◌≡◌, ℕ, ◌≤◌, Bool, true, false, ◌&&◌, ◌||◌, not, ◌==◌, if◌then◌else◌, List, [], ◌∷◌, Option, Some, None, is_some, option_map, nat_lt, IfSome, bytes_eq, codes}
use Rattle.std.specs.{List.join_with_byte, Str.is_utf8}
use Rattle.base_moment.specs.declared.moment.TheConstants.{LAST}
use Rattle.base_words.specs.{Numbers.number_up_to, Pieces.words}
use Rattle.plan_forest.specs.{declared.entry.Kind.Kind, declared.forest.TheConstants.END_MAX, Push.is_name}
use Rattle.plan_forest.specs.declared.entry.Kind.TheVariants.{Token, Lease}
use Rattle.vault_inventory.specs.{declared.limits.TheConstants.SPAN_MAX, Values.is_credential, Values.is_path, Needs.IsNeed}
use Rattle.state_changes.specs.{declared.row.Row.Row, declared.row_text.Who.Who, declared.row_text.Life.Life, declared.row_text.Limits.Limits, declared.row_text.Sent.Sent, Words.need_in_word}

-- the next step, where there was one
infixl 10 ◌>>=◌
abbrev pub ◌>>=◌ : {A B : Type 0} → Option A → (A → Option B) → Option B
None >>= f = None
(Some x) >>= f = f x

-- ---- words

-- a word: 1 to 256 bytes from 0x21 to 0x7E, as a credential has them
abbrev pub is_word : List ℕ → Bool
is_word w = is_credential w

-- what stands before the first space of these words, and what follows it
abbrev pub parts : List (List ℕ) → Option (List ℕ × List ℕ)
parts [] = None
parts (w ∷ []) = None
parts (w ∷ x ∷ ws) = Some (w, join_with_byte 32 (x ∷ ws))

-- the same of a line, where it has a space
unfoldable pub one_and_rest : List ℕ → Option (List ℕ × List ℕ)
one_and_rest line = parts (words line)

-- its first four words, and what follows them
unfoldable pub four_and_rest : List ℕ → Option (List ℕ × List ℕ × List ℕ × List ℕ × List ℕ)
four_and_rest line = do
  a ← one_and_rest line
  b ← one_and_rest a.1
  c ← one_and_rest b.1
  d ← one_and_rest c.1
  Some (a.0, b.0, c.0, d.0, d.1)

unfoldable pub kind_of : List ℕ → Option Kind
kind_of w = if bytes_eq w (codes "token") then Some Token else (if bytes_eq w (codes "lease") then Some Lease else None)

-- whether it is the first of two words, or the second
unfoldable pub either : List ℕ → List ℕ → List ℕ → Option Bool
either a b w = if bytes_eq w a then Some true else (if bytes_eq w b then Some false else None)

-- a star stands for no name, and for no number
unfoldable pub name_or_star : List ℕ → Option (Option (List ℕ))
name_or_star w = if bytes_eq w (codes "*") then Some None else (if is_name w then Some (Some w) else None)

unfoldable pub span_or_star : List ℕ → Option (Option ℕ)
span_or_star w = if bytes_eq w (codes "*") then Some None else option_map (λ n. Some n) (number_up_to SPAN_MAX w)

-- a path as a table can write it, which is a text
unfoldable pub is_file : List ℕ → Bool
is_file path = is_path path && is_utf8 path

-- ---- rows

unfoldable pub who_of : List ℕ → List ℕ → List ℕ → List ℕ → Option Who
who_of kind name parent told = do
  k ← kind_of kind
  p ← name_or_star parent
  t ← either (codes "told") (codes "open") told
  if is_name name then Some (record { kind = k; name = name; parent = p; is_told = t }) else None

unfoldable pub life_of : List ℕ → List ℕ → List ℕ → List ℕ → Option Life
life_of issued ends renewable increment = do
  i ← number_up_to LAST issued
  e ← number_up_to END_MAX ends
  r ← either (codes "renewable") (codes "fixed") renewable
  n ← span_or_star increment
  Some (record { issued = i; end = e; renewable = r; increment = n })

unfoldable pub limits_of : List ℕ → List ℕ → List ℕ → List ℕ → Option Limits
limits_of period max_ttl explicit_max need = do
  p ← number_up_to SPAN_MAX period
  m ← number_up_to SPAN_MAX max_ttl
  x ← number_up_to SPAN_MAX explicit_max
  u ← need_in_word need
  Some (record { period = p; max_ttl = m; explicit_max = x; need = u })

abbrev pub sent_alone : List ℕ → Option Sent
sent_alone credential = if is_word credential then Some (record { credential = credential; file = None }) else None

abbrev pub sent_beside : List ℕ → List ℕ → Option Sent
sent_beside credential file = if is_word credential && is_file file then Some (record { credential = credential; file = Some file }) else None

-- a credential, and after a space the path of its file
unfoldable pub sent_of : List ℕ → Option Sent
sent_of text = elim (one_and_rest text) [ None ↦ sent_alone text | Some w ↦ sent_beside w.0 w.1 ]

abbrev pub row_with : Bool → Who → Life → Limits → Sent → Row
row_with reissued who life limits sent = record {
  name = who.name;
  kind = who.kind;
  parent = who.parent;
  is_told = who.is_told;
  end = life.end;
  renewable = life.renewable;
  terms = record { issued = life.issued; increment = life.increment; period = limits.period; max_ttl = limits.max_ttl; explicit_max = limits.explicit_max; reissued = reissued };
  need = limits.need;
  credential = sent.credential;
  file = sent.file;
}

-- a token has a period or an increment; a lease has a token and an increment, and neither a period nor an explicit maximum
abbrev pub suits : Row → Kind → Bool
suits row Token = not (row.terms.period == 0) || is_some row.terms.increment
suits row Lease = (is_some row.parent && is_some row.terms.increment) && (row.terms.period == 0 && row.terms.explicit_max == 0)

-- the name stands for a credential in a file
abbrev pub stands_for : Row → Option (List ℕ) → Bool
stands_for row None = true
stands_for row (Some path) = bytes_eq row.credential row.name

-- a table can write it
unfoldable pub is_written : Row → Bool
is_written row =
    (suits row row.kind && nat_lt 0 row.terms.max_ttl)
    && ((row.is_told || (row.terms.issued == 0 && row.end == 0)) && stands_for row row.file)

abbrev pub if_written : Row → Option Row
if_written row = if is_written row then Some row else None

-- the row of a line before which no mark stands, whether it is reissued or not
unfoldable pub row_of_words : Bool → List ℕ → Option Row
row_of_words reissued line = do
  a ← four_and_rest line
  b ← four_and_rest a.4
  c ← four_and_rest b.4
  who ← who_of a.0 a.1 a.2 a.3
  life ← life_of b.0 b.1 b.2 b.3
  limits ← limits_of c.0 c.1 c.2 c.3
  sent ← sent_of c.4
  if_written (row_with reissued who life limits sent)

-- the row of a line
unfoldable pub row_of_line : List ℕ → Option Row
row_of_line line = do
  w ← one_and_rest line
  if bytes_eq w.0 (codes "reissued") then row_of_words true w.1 else row_of_words false line

-- ---- which rows there are

-- a row as a table can write it
pub record IsRow (row : Row) : Type 0 where
  pub name : is_name row.name ≡ true
  pub parent : IfSome row.parent (λ p. is_name p ≡ true)
  pub issued : row.terms.issued ≤ LAST
  pub end : row.end ≤ END_MAX
  pub increment : IfSome row.terms.increment (λ n. n ≤ SPAN_MAX)
  pub period : row.terms.period ≤ SPAN_MAX
  pub max_ttl : row.terms.max_ttl ≤ SPAN_MAX
  pub explicit_max : row.terms.explicit_max ≤ SPAN_MAX
  pub need : IsNeed row.need
  pub credential : is_word row.credential ≡ true
  pub file : IfSome row.file (λ path. is_file path ≡ true)
  pub written : is_written row ≡ true
