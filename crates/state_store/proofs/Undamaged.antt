-- Lines that write no record, and lines whose records are void, are taken out of a journal.
use Rattle.std.proofs.Common.{◌≡◌, ℕ, suc, ◌+◌, ◌<◌, ◌≤◌, Bool, true, false, ◌&&◌, nat_le, List, [], ◌∷◌, ◌++◌, Option, Some, None, is_none, length, take, get_or, option_to_list, refl, sym, ap, ◌∙◌, arith}
use Rattle.std.proofs.lemmas.{Bool.and_parts, Bool.eqb-true, List.map_more, List.take_all}
use Rattle.state_changes.specs.{declared.change.Record.Record, Records.record_of, Replay.replayed}
use Rattle.state_changes.specs.Compaction as changes
use Rattle.state_changes.proofs.Compacting.{compaction}
use Rattle.base_journal.specs.Records.{lines_kept}
use Rattle.state_store.specs.{declared.store.Store.Store, Books.Book, Records.record_in, Records.records_in}
use Rattle.state_store.specs.Compacted.{are_records, compacted_lines, damages, is_time_to_look, is_worth, undamaged, void_count}
use Rattle.state_store.specs.Stores.{IsReplayed, book_of, lines_in}

-- ---- of each line, whether it writes no record

pub damages_none : damages [] ≡ []
unfolding damages
damages_none = refl

pub damages_more : (lines : List (List ℕ)) (i : ℕ) (line : List ℕ) → i < length lines → line ≡ get_or lines i line → damages (take (i + 1) lines) ≡ damages (take i lines) ++ is_none (record_of line) ∷ []
unfolding damages
damages_more lines i line h read = map_more (λ (l : List ℕ). is_none (record_of l)) lines i line h ∙ ap (λ (l : List ℕ). damages (take i lines) ++ is_none (record_of l) ∷ []) (sym read)

pub damages_all : (lines : List (List ℕ)) (i : ℕ) → length lines ≤ i → damages (take i lines) ≡ damages lines
damages_all lines i past = ap damages (take_all i lines past)

-- ---- without them the records are the same

pub record_first : (line : List ℕ) (lines : List (List ℕ)) → records_in (line ∷ lines) ≡ record_in line ++ records_in lines
unfolding records_in
record_first line lines = refl

without_first : (line : List ℕ) (lines : List (List ℕ)) (o : Option Record) → record_of line ≡ o → records_in (undamaged lines) ≡ records_in lines → records_in (lines_kept (line ∷ lines) (is_none o ∷ damages lines)) ≡ records_in (line ∷ lines)
without_first line lines None e so = so ∙ ap (λ (o : Option Record). option_to_list o ++ records_in lines) (sym e) ∙ sym (record_first line lines)
without_first line lines (Some r) e so = record_first line (undamaged lines) ∙ ap (λ (rs : List Record). record_in line ++ rs) so ∙ sym (record_first line lines)

pub same_records : (lines : List (List ℕ)) → records_in (undamaged lines) ≡ records_in lines
unfolding damages
same_records [] = refl
same_records (line ∷ lines) = without_first line lines (record_of line) refl (same_records lines)

-- ---- the records that are void are taken out by their lines

one_more : (lines : List (List ℕ)) (o : Option Record) → length (records_in lines) ≤ length lines → length (option_to_list o ++ records_in lines) ≤ suc (length lines)
one_more lines None so = omega (arith, so)
one_more lines (Some r) so = omega (arith, so)

no_more : (lines : List (List ℕ)) → length (records_in lines) ≤ length lines
unfolding records_in
no_more [] = omega arith
no_more (line ∷ lines) = one_more lines (record_of line) (no_more lines)

module _ (line : List ℕ) (lines : List (List ℕ)) where
  all_after : (o : Option Record) → length (option_to_list o ++ records_in lines) ≡ suc (length lines) → length (records_in lines) ≡ length lines
  all_after None e = let most = no_more lines in absurd (omega (arith, e, most))
  all_after (Some r) e = omega (arith, e)

  kept_first : (o : Option Record) (outs : List Bool) → length (option_to_list o ++ records_in lines) ≡ suc (length lines)
      → ((rest : List Bool) → records_in (lines_kept lines rest) ≡ changes.records_kept (records_in lines) rest) → record_of line ≡ o
      → records_in (lines_kept (line ∷ lines) outs) ≡ changes.records_kept (option_to_list o ++ records_in lines) outs
  unfolding records_in changes.records_kept
  kept_first None outs e so is = let most = no_more lines in absurd (omega (arith, e, most))
  kept_first (Some r) [] e so is = ap (λ (o : Option Record). option_to_list o ++ records_in lines) is
  kept_first (Some r) (true ∷ outs) e so is = so outs
  kept_first (Some r) (false ∷ outs) e so is = ap (λ (o : Option Record). option_to_list o ++ records_in (lines_kept lines outs)) is ∙ ap (λ (rs : List Record). r ∷ rs) (so outs)

kept_records : (lines : List (List ℕ)) → length (records_in lines) ≡ length lines → (outs : List Bool) → records_in (lines_kept lines outs) ≡ changes.records_kept (records_in lines) outs
unfolding records_in changes.records_kept
kept_records [] e outs = refl
kept_records (line ∷ lines) e outs = kept_first line lines (record_of line) outs e (kept_records lines (all_after line lines (record_of line) e)) refl

pub compacted_records : (lines : List (List ℕ)) → length (records_in lines) ≡ length lines → records_in (compacted_lines lines) ≡ changes.compacted (records_in lines)
unfolding compacted_lines changes.compacted
compacted_records lines e = kept_records lines e (changes.voids (records_in lines))

pub worth_records : (lines : List (List ℕ)) → is_worth lines ≡ true → length (records_in lines) ≡ length lines
unfolding is_worth
worth_records lines is =
    let some = and_parts (is_time_to_look lines) (are_records lines && nat_le 1000 (void_count lines)) is in
    let all = and_parts (are_records lines) (nat_le 1000 (void_count lines)) some.1 in
    eqb-true (length (records_in lines)) (length lines) all.0

pub compacted_is : (lines : List (List ℕ)) (outs : List Bool) → outs ≡ changes.voids (records_in lines) → lines_kept lines outs ≡ compacted_lines lines
unfolding compacted_lines
compacted_is lines outs same = ap (lines_kept lines) same

-- what is kept stays as it is
pub compacted_replays : (old new : Store) → IsReplayed old → is_worth (lines_in old) ≡ true → book_of new ≡ book_of old → lines_in new ≡ compacted_lines (lines_in old) → IsReplayed new
compacted_replays old new so worth booked lined =
    ap (λ (b : Book). (replayed b.file (records_in (lines_in new))).rows) booked
    ∙ ap (λ (ls : List (List ℕ)). (replayed (book_of old).file (records_in ls)).rows) lined
    ∙ ap (λ (rs : List Record). (replayed (book_of old).file rs).rows) (compacted_records (lines_in old) (worth_records (lines_in old) worth))
    ∙ compaction (book_of old).file (records_in (lines_in old))
    ∙ so ∙ ap (λ (b : Book). b.rows) (sym booked)
