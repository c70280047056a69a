-- The lines that write no record are left of a journal whose records are handed over.
use Rattle.std.proofs.Common.{◌≡◌, ℕ, ◌+◌, ◌<◌, ◌≤◌, Bool, not, List, [], ◌∷◌, ◌++◌, Option, Some, None, append-nil, if◌then◌else◌, is_none, is_some, length, take, get_or, option_to_list, refl, sym, ap, ◌∙◌}
use Rattle.std.proofs.lemmas.{List.map_more, List.take_all, List.Elements.filter-append}
use Rattle.state_changes.specs.{declared.change.Record.Record, Records.record_of}
use Rattle.base_journal.specs.Records.{lines_kept}
use Rattle.state_store.specs.{Compacted.damaged, Moved.mark_line, Records.records_in, code.Moving.written}
use Rattle.state_store.proofs.{Lists.records_none, Marked.mark_read, Undamaged.record_first}

-- ---- of each line, whether it writes a record

pub written_none : written [] ≡ []
unfolding written
written_none = refl

is_other : (o : Option Record) → is_some o ≡ not (is_none o)
is_other None = refl
is_other (Some r) = refl

pub written_more : (lines : List (List ℕ)) (i : ℕ) (line : List ℕ) → i < length lines → line ≡ get_or lines i line → written (take (i + 1) lines) ≡ written (take i lines) ++ not (is_none (record_of line)) ∷ []
unfolding written
written_more lines i line h read =
    map_more (λ (l : List ℕ). is_some (record_of l)) lines i line h
    ∙ ap (λ (l : List ℕ). written (take i lines) ++ is_some (record_of l) ∷ []) (sym read)
    ∙ ap (λ (b : Bool). written (take i lines) ++ b ∷ []) (is_other (record_of line))

pub written_all : (lines : List (List ℕ)) (i : ℕ) → length lines ≤ i → written (take i lines) ≡ written lines
written_all lines i past = ap written (take_all i lines past)

-- ---- those that write none

without_first : (line : List ℕ) (lines : List (List ℕ)) (o : Option Record) → lines_kept lines (written lines) ≡ damaged lines
    → lines_kept (line ∷ lines) (is_some o ∷ written lines) ≡ (if is_none o then line ∷ damaged lines else damaged lines)
without_first line lines None so = ap (λ (ls : List (List ℕ)). line ∷ ls) so
without_first line lines (Some r) so = so

pub unwritten_stay : (lines : List (List ℕ)) → lines_kept lines (written lines) ≡ damaged lines
unfolding written damaged
unwritten_stay [] = refl
unwritten_stay (line ∷ lines) = without_first line lines (record_of line) (unwritten_stay lines)

first_is_none : (line : List ℕ) (lines : List (List ℕ)) (o : Option Record) → record_of line ≡ o → records_in (damaged lines) ≡ [] → records_in (if is_none o then line ∷ damaged lines else damaged lines) ≡ []
first_is_none line lines None e so = record_first line (damaged lines) ∙ ap (λ (o : Option Record). option_to_list o ++ records_in (damaged lines)) e ∙ so
first_is_none line lines (Some r) e so = so

-- they are no records
pub damaged_records : (lines : List (List ℕ)) → records_in (damaged lines) ≡ []
unfolding damaged
damaged_records [] = records_none
damaged_records (line ∷ lines) = first_is_none line lines (record_of line) refl (damaged_records lines)

-- and a mark is none of them
pub damaged_marked : (lines : List (List ℕ)) (text : List ℕ) → damaged (lines ++ mark_line text ∷ []) ≡ damaged lines
unfolding damaged
damaged_marked lines text =
    filter-append (λ (line : List ℕ). is_none (record_of line)) lines (mark_line text ∷ [])
    ∙ ap (λ (o : Option Record). damaged lines ++ (if is_none o then mark_line text ∷ [] else [])) (mark_read text)
    ∙ append-nil (damaged lines)
