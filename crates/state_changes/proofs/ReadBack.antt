-- The text of a record is one line, and is read as that record.
use Rattle.std.proofs.Common.{◌≡◌, ℕ, true, cond, List, [], ◌∷◌, ◌++◌, Option, Some, None, bytes_eq, codes, refl, ap, ◌∙◌}
use Rattle.std.proofs.lemmas.Bool.{and_from, cond-true}
use Rattle.std.specs.List.{join_with_byte}
use Rattle.base_words.specs.Laws.{Lacks}
use Rattle.base_words.specs.Pieces.{four, keyword, pieces, three, two}
use Rattle.base_words.proofs.Joined.{lacks_append}
use Rattle.plan_forest.specs.Push.{is_name}
use Rattle.vault_inventory.specs.{declared.need.Need.Need, Needs.IsNeed, Needs.need_word}
use Rattle.state_changes.specs.{declared.change.Record.Record, declared.change.ChangeKind.ChangeKind, Laws.RecordLineLaw, Laws.RecordWrittenIsRead, declared.row.Row.Row, RowText.IsRow, RowText.is_word, Words.need_in_word, Words.row_text}
use Rattle.state_changes.specs.declared.change.Record.TheVariants.{Made, Settling}
use Rattle.state_changes.specs.Records.{IsWhat, add_line, change_words, drop_line, made_of, need_line, record_of, record_text, record_with_need, record_words, replace_line, settling_line}
use Rattle.state_changes.specs.declared.change.ChangeKind.TheVariants as what
use Rattle.state_changes.proofs.{Cuts.cut_back, Cuts.pieces_of, RowBack.row_back, RowBack.row_lacks}
use Rattle.state_changes.proofs.Spelling.{ArePlain, keyword_back, line_lacks, name_is_plain, need_back, need_is_plain, word_is_plain, words_back}

-- what is read of a line by its keyword
abbrev by_keyword : List ℕ → List ℕ → Option Record
by_keyword k text =
    cond (bytes_eq k (codes "need")) (need_line text)
    (cond (bytes_eq k (codes "replace")) (replace_line text)
    (cond (bytes_eq k (codes "add")) (add_line text)
    (cond (bytes_eq k (codes "drop")) (drop_line text)
    (cond (bytes_eq k (codes "settling")) (settling_line text) None))))

by_keyword_is : (text k : List ℕ) → keyword text ≡ k → record_of text ≡ by_keyword k text
unfolding record_of
by_keyword_is text k e = ap (λ w. by_keyword w text) e

made_back : (name was : List ℕ) (w : ChangeKind) → is_name name ≡ true → is_word was ≡ true → made_of name was w ≡ Some (Made (record { name = name; was = was; what = w }))
unfolding made_of
made_back name was w named worded = cond-true _ _ _ (and_from (is_name name) (is_word was) named worded)

-- what is written of a change but for an added row
abbrev IsPlainWhat : List ℕ → ChangeKind → Type 0
IsPlainWhat name (what.Need u) = IsNeed u
IsPlainWhat name (what.Replace c) = is_word c ≡ true
IsPlainWhat name (what.Add row) = ⊥
IsPlainWhat name what.Drop = Unit {0}

plain_change : (name was : List ℕ) (w : ChangeKind) → is_name name ≡ true → is_word was ≡ true → IsPlainWhat name w → ArePlain (change_words name was w)
plain_change name was (what.Need u) named worded h = (record { spaces = refl; feeds = refl }, (name_is_plain name named, (word_is_plain was worded, (need_is_plain u h, tt))))
plain_change name was (what.Replace c) named worded h = (record { spaces = refl; feeds = refl }, (name_is_plain name named, (word_is_plain was worded, (word_is_plain c h, tt))))
plain_change name was (what.Add row) named worded h = absurd h
plain_change name was what.Drop named worded h = (record { spaces = refl; feeds = refl }, (name_is_plain name named, (word_is_plain was worded, tt)))

need_line_back : (name was : List ℕ) (u : Need) → is_name name ≡ true → is_word was ≡ true → IsNeed u → (text : List ℕ) → pieces 32 text ≡ codes "need" ∷ name ∷ was ∷ need_word u ∷ []
    → need_line text ≡ Some (Made (record { name = name; was = was; what = what.Need u }))
unfolding need_line
need_line_back name was u named worded h text e =
    ap (λ ws. elim (four ws) [ None ↦ None | Some w ↦ record_with_need w.1 w.2 (need_in_word w.3) ]) e ∙ ap (record_with_need name was) (need_back u h) ∙ made_back name was (what.Need u) named worded

replace_line_back : (name was c : List ℕ) → is_name name ≡ true → is_word was ≡ true → is_word c ≡ true → (text : List ℕ) → pieces 32 text ≡ codes "replace" ∷ name ∷ was ∷ c ∷ []
    → replace_line text ≡ Some (Made (record { name = name; was = was; what = what.Replace c }))
unfolding replace_line
replace_line_back name was c named worded h text e =
    ap (λ ws. elim (four ws) [ None ↦ None | Some w ↦ cond (is_word w.3) (made_of w.1 w.2 (what.Replace w.3)) None ]) e
    ∙ cond-true (is_word c) _ _ h ∙ made_back name was (what.Replace c) named worded

drop_line_back : (name was : List ℕ) → is_name name ≡ true → is_word was ≡ true → (text : List ℕ) → pieces 32 text ≡ codes "drop" ∷ name ∷ was ∷ []
    → drop_line text ≡ Some (Made (record { name = name; was = was; what = what.Drop }))
unfolding drop_line
drop_line_back name was named worded text e =
    ap (λ ws. elim (three ws) [ None ↦ None | Some w ↦ made_of w.1 w.2 what.Drop ]) e ∙ made_back name was what.Drop named worded

settling_line_back : (mark : List ℕ) → is_word mark ≡ true → (text : List ℕ) → pieces 32 text ≡ codes "settling" ∷ mark ∷ [] → settling_line text ≡ Some (Settling mark)
unfolding settling_line
settling_line_back mark h text e =
    ap (λ ws. elim (two ws) [ None ↦ None | Some w ↦ cond (is_word w.1) (Some (Settling w.1)) None ]) e ∙ cond-true (is_word mark) _ _ h

add_line_back : (was : List ℕ) (row : Row) → is_word was ≡ true → IsRow row → add_line (codes "add" ++ 32 ∷ (was ++ 32 ∷ row_text row)) ≡ Some (Made (record { name = row.name; was = was; what = what.Add row }))
unfolding add_line
add_line_back was row worded h =
    rw (cut_back (codes "add") (was ++ 32 ∷ row_text row) refl, cut_back was (row_text row) (word_is_plain was worded).spaces, row_back row h) (made_back row.name was (what.Add row) h.name worded)

change_back : (name was : List ℕ) (w : ChangeKind) → is_name name ≡ true → is_word was ≡ true → IsWhat name w
    → record_of (join_with_byte 32 (change_words name was w)) ≡ Some (Made (record { name = name; was = was; what = w }))
change_back name was (what.Need u) named worded h =
    let text = join_with_byte 32 (change_words name was (what.Need u)) in
    let cut : pieces 32 text ≡ codes "need" ∷ name ∷ was ∷ need_word u ∷ [] = words_back _ _ (plain_change name was (what.Need u) named worded h) in
    by_keyword_is text (codes "need") (keyword_back text _ _ cut) ∙ need_line_back name was u named worded h text cut
change_back name was (what.Replace c) named worded h =
    let text = join_with_byte 32 (change_words name was (what.Replace c)) in
    let cut : pieces 32 text ≡ codes "replace" ∷ name ∷ was ∷ c ∷ [] = words_back _ _ (plain_change name was (what.Replace c) named worded h) in
    by_keyword_is text (codes "replace") (keyword_back text _ _ cut) ∙ replace_line_back name was c named worded h text cut
change_back name was (what.Add row) named worded h =
    let text = codes "add" ++ 32 ∷ (was ++ 32 ∷ row_text row) in
    by_keyword_is text (codes "add") (keyword_back text _ _ (pieces_of (codes "add") (was ++ 32 ∷ row_text row) refl)) ∙ add_line_back was row worded h.0
    ∙ ap (λ n. Some (Made (record { name = n; was = was; what = what.Add row }))) h.1
change_back name was what.Drop named worded h =
    let text = join_with_byte 32 (change_words name was what.Drop) in
    let cut : pieces 32 text ≡ codes "drop" ∷ name ∷ was ∷ [] = words_back _ _ (plain_change name was what.Drop named worded h) in
    by_keyword_is text (codes "drop") (keyword_back text _ _ cut) ∙ drop_line_back name was named worded text cut

plain_settling : (mark : List ℕ) → is_word mark ≡ true → ArePlain (record_words (Settling mark))
plain_settling mark h = (record { spaces = refl; feeds = refl }, (word_is_plain mark h, tt))

pub written_is_read : RecordWrittenIsRead
unfolding record_text
written_is_read (Made c) h = change_back c.name c.was c.what h.0 h.1 h.2
written_is_read (Settling mark) h =
    let text = join_with_byte 32 (codes "settling" ∷ mark ∷ []) in
    let cut : pieces 32 text ≡ codes "settling" ∷ mark ∷ [] = words_back _ _ (plain_settling mark h) in
    by_keyword_is text (codes "settling") (keyword_back text _ _ cut) ∙ settling_line_back mark h text cut

change_lacks : (name was : List ℕ) (w : ChangeKind) → is_name name ≡ true → is_word was ≡ true → IsWhat name w → Lacks 10 (join_with_byte 32 (change_words name was w))
change_lacks name was (what.Need u) named worded h = line_lacks (change_words name was (what.Need u)) (plain_change name was (what.Need u) named worded h)
change_lacks name was (what.Replace c) named worded h = line_lacks (change_words name was (what.Replace c)) (plain_change name was (what.Replace c) named worded h)
change_lacks name was (what.Add row) named worded h =
    lacks_append 10 (codes "add") (32 ∷ (was ++ 32 ∷ row_text row)) refl (lacks_append 10 was (32 ∷ row_text row) (word_is_plain was worded).feeds (row_lacks row h.0))
change_lacks name was what.Drop named worded h = line_lacks (change_words name was what.Drop) (plain_change name was what.Drop named worded h)

pub line_law : RecordLineLaw
unfolding record_text
line_law (Made c) h = change_lacks c.name c.was c.what h.0 h.1 h.2
line_law (Settling mark) h = line_lacks (record_words (Settling mark)) (plain_settling mark h)
