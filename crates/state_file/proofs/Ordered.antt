-- One row more of a kind, or of the other kind.
use Rattle.std.proofs.Common.{◌≡◌, ℕ, ◌+◌, ◌<◌, Bool, true, false, not, List, [], ◌∷◌, ◌++◌, append-nil, length, take, get_or, sym, ap, ◌∙◌}
use Rattle.std.proofs.lemmas.{Bool.cond-true, Bool.cond-false, List.take_more, List.Elements.filter-append}
use Rattle.std.specs.List.{filter}
use Rattle.plan_forest.specs.Push.{is_lease}
use Rattle.state_changes.specs.declared.row.Row.{Row}
use Rattle.state_file.specs.Order.{is_lease_row, is_token_row}

module _ (p : Row → Bool) (rows : List Row) (i : ℕ) (x : Row) (h : i < length rows) (read : x ≡ get_or rows i x) where
  more : filter p (take (i + 1) rows) ≡ filter p (take i rows) ++ filter p (x ∷ [])
  more = ap (filter p) (take_more rows i x h ∙ ap (λ r. take i rows ++ r ∷ []) (sym read)) ∙ filter-append p (take i rows) (x ∷ [])

  row_in : p x ≡ true → filter p (take (i + 1) rows) ≡ filter p (take i rows) ++ x ∷ []
  row_in is = more ∙ ap (λ l. filter p (take i rows) ++ l) (cond-true (p x) (x ∷ []) [] is)

  row_out : p x ≡ false → filter p (take (i + 1) rows) ≡ filter p (take i rows)
  row_out is = more ∙ ap (λ l. filter p (take i rows) ++ l) (cond-false (p x) (x ∷ []) [] is) ∙ append-nil (filter p (take i rows))

pub token_in : (rows : List Row) (i : ℕ) (x : Row) → i < length rows → x ≡ get_or rows i x → is_lease x.kind ≡ false → filter is_token_row (take (i + 1) rows) ≡ filter is_token_row (take i rows) ++ x ∷ []
token_in rows i x h read is = row_in is_token_row rows i x h read (ap not is)

pub token_out : (rows : List Row) (i : ℕ) (x : Row) → i < length rows → x ≡ get_or rows i x → is_lease x.kind ≡ true → filter is_token_row (take (i + 1) rows) ≡ filter is_token_row (take i rows)
token_out rows i x h read is = row_out is_token_row rows i x h read (ap not is)

pub lease_in : (rows : List Row) (i : ℕ) (x : Row) → i < length rows → x ≡ get_or rows i x → is_lease x.kind ≡ true → filter is_lease_row (take (i + 1) rows) ≡ filter is_lease_row (take i rows) ++ x ∷ []
lease_in rows i x h read is = row_in is_lease_row rows i x h read is

pub lease_out : (rows : List Row) (i : ℕ) (x : Row) → i < length rows → x ≡ get_or rows i x → is_lease x.kind ≡ false → filter is_lease_row (take (i + 1) rows) ≡ filter is_lease_row (take i rows)
lease_out rows i x h read is = row_out is_lease_row rows i x h read is
