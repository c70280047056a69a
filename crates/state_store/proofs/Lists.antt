-- One element more of a list: its records, its filled rows, and its rows that are ready.
use Rattle.std.proofs.Common.{◌≡◌, ℕ, ◌+◌, ◌<◌, ◌≤◌, Bool, true, false, List, [], ◌∷◌, ◌++◌, Option, Some, None, append-nil, length, take, get_or, option_to_list, refl, sym, ap, ◌∙◌}
use Rattle.std.proofs.lemmas.{Bool.cond-true, Bool.cond-false, List.Elements.filter-append}
use Rattle.std.proofs.lemmas.List.{flat_map_more, map_more, take_all, take_more}
use Rattle.std.specs.List.{filter}
use Rattle.plan_forest.specs.declared.forest.TheConstants.{MAX_DEPTH}
use Rattle.state_changes.specs.{declared.change.Record.Record, declared.row.Row.Row, Records.record_of, declared.secret.Secret.Secret}
use Rattle.state_store.specs.Records.{record_in, records_in}
use Rattle.state_store.specs.Handed.{all_filled, filled, is_ready}

-- ---- records

pub records_push : (lines : List (List ℕ)) (line : List ℕ) → records_in (lines ++ line ∷ []) ≡ records_in lines ++ record_in line
unfolding records_in
records_push lines line = sym (flat_map_more record_in [] lines line)

records_more : (lines : List (List ℕ)) (i : ℕ) (line : List ℕ) → i < length lines → line ≡ get_or lines i line → records_in (take (i + 1) lines) ≡ records_in (take i lines) ++ record_in line
records_more lines i line h read = ap records_in (take_more lines i line h ∙ ap (λ (l : List ℕ). take i lines ++ l ∷ []) (sym read)) ∙ records_push (take i lines) line

pub records_none : records_in [] ≡ []
unfolding records_in
records_none = refl

pub record_found : (lines : List (List ℕ)) (i : ℕ) (line : List ℕ) (r : Record) → i < length lines → line ≡ get_or lines i line → record_of line ≡ Some r → records_in (take (i + 1) lines) ≡ records_in (take i lines) ++ r ∷ []
record_found lines i line r h read is = records_more lines i line h read ∙ ap (λ (o : Option Record). records_in (take i lines) ++ option_to_list o) is

pub record_not : (lines : List (List ℕ)) (i : ℕ) (line : List ℕ) → i < length lines → line ≡ get_or lines i line → record_of line ≡ None → records_in (take (i + 1) lines) ≡ records_in (take i lines)
record_not lines i line h read is = records_more lines i line h read ∙ ap (λ (o : Option Record). records_in (take i lines) ++ option_to_list o) is ∙ append-nil (records_in (take i lines))

pub records_all : (lines : List (List ℕ)) (i : ℕ) → length lines ≤ i → records_in (take i lines) ≡ records_in lines
records_all lines i past = ap records_in (take_all i lines past)

-- ---- rows that are filled

pub filled_none : (secrets : List Secret) → all_filled secrets [] ≡ []
unfolding all_filled
filled_none secrets = refl

pub filled_more : (secrets : List Secret) (rows : List Row) (i : ℕ) (row : Row) → i < length rows → row ≡ get_or rows i row → all_filled secrets (take (i + 1) rows) ≡ all_filled secrets (take i rows) ++ filled secrets row ∷ []
unfolding all_filled
filled_more secrets rows i row h read = map_more (filled secrets) rows i row h ∙ ap (λ (r : Row). all_filled secrets (take i rows) ++ filled secrets r ∷ []) (sym read)

pub filled_all : (secrets : List Secret) (rows : List Row) (i : ℕ) → length rows ≤ i → all_filled secrets (take i rows) ≡ all_filled secrets rows
filled_all secrets rows i past = ap (all_filled secrets) (take_all i rows past)

-- ---- rows that are ready

module _ (p : Row → Bool) (rows : List Row) (i : ℕ) (x : Row) (h : i < length rows) (read : x ≡ get_or rows i x) where
  more : filter p (take (i + 1) rows) ≡ filter p (take i rows) ++ filter p (x ∷ [])
  more = ap (filter p) (take_more rows i x h ∙ ap (λ r. take i rows ++ r ∷ []) (sym read)) ∙ filter-append p (take i rows) (x ∷ [])

  pub row_in : p x ≡ true → filter p (take (i + 1) rows) ≡ filter p (take i rows) ++ x ∷ []
  row_in is = more ∙ ap (λ l. filter p (take i rows) ++ l) (cond-true (p x) (x ∷ []) [] is)

  pub row_out : p x ≡ false → filter p (take (i + 1) rows) ≡ filter p (take i rows)
  row_out is = more ∙ ap (λ l. filter p (take i rows) ++ l) (cond-false (p x) (x ∷ []) [] is) ∙ append-nil (filter p (take i rows))

pub ready_in : (all rows : List Row) (i : ℕ) (x : Row) → i < length rows → x ≡ get_or rows i x → is_ready MAX_DEPTH all x ≡ true → filter (is_ready MAX_DEPTH all) (take (i + 1) rows) ≡ filter (is_ready MAX_DEPTH all) (take i rows) ++ x ∷ []
ready_in all rows i x h read is = row_in (is_ready MAX_DEPTH all) rows i x h read is

pub ready_out : (all rows : List Row) (i : ℕ) (x : Row) → i < length rows → x ≡ get_or rows i x → is_ready MAX_DEPTH all x ≡ false → filter (is_ready MAX_DEPTH all) (take (i + 1) rows) ≡ filter (is_ready MAX_DEPTH all) (take i rows)
ready_out all rows i x h read is = row_out (is_ready MAX_DEPTH all) rows i x h read is

pub ready_all : (all rows : List Row) (i : ℕ) → length rows ≤ i → filter (is_ready MAX_DEPTH all) (take i rows) ≡ filter (is_ready MAX_DEPTH all) rows
ready_all all rows i past = ap (filter (is_ready MAX_DEPTH all)) (take_all i rows past)
