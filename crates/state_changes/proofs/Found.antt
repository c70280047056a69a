-- A text that is read as a record is the text of that record.
use Rattle.std.proofs.Common.{◌≡◌, ℕ, true, cond, ◌&&◌, List, [], ◌∷◌, ◌++◌, Option, Some, None, bytes_eq, codes, refl, sym, ap, ◌∙◌, inl, inr}
use Rattle.std.proofs.lemmas.Bool.{and_parts}
use Rattle.std.specs.{Cmp.Lexicographic.bytes_decides, List.join_with_byte}
use Rattle.base_words.specs.Pieces.{first, four, keyword, pieces, three, two}
use Rattle.base_words.proofs.Joined.{joined_back}
use Rattle.plan_forest.specs.Push.{is_name}
use Rattle.vault_inventory.specs.{declared.need.Need.Need, Needs.need_word}
use Rattle.state_changes.specs.{declared.change.Record.Record, declared.change.ChangeKind.ChangeKind, Laws.RecordReadIsWritten, declared.row.Row.Row, Words.need_in_word, Words.row_text}
use Rattle.state_changes.specs.declared.change.Record.TheVariants.{Made, Settling}
use Rattle.state_changes.specs.RowText.{is_word, one_and_rest, parts, row_of_line}
use Rattle.state_changes.specs.Records.{IsRecord, IsWhat, add_line, added_of, change_words, drop_line, made_of, need_line, record_of, record_text, record_with_need, replace_line, settling_line}
use Rattle.state_changes.specs.declared.change.ChangeKind.TheVariants as what
use Rattle.state_changes.proofs.{Cuts.cut_only, RowBack.row_only, Spelling.keyword_back, Spelling.need_only}
use Rattle.state_changes.proofs.RowWords.{bound, branch, passed, some_same}

two_is : (ws : List (List ℕ)) (w : List ℕ × List ℕ) → two ws ≡ Some w → ws ≡ w.0 ∷ w.1 ∷ []
two_is [] w e = cc
two_is (a ∷ []) w e = cc
two_is (a ∷ b ∷ []) w e = ap (λ p. p.0 ∷ p.1 ∷ []) (some_same {A = List ℕ × List ℕ} (a, b) w e)
two_is (a ∷ b ∷ c ∷ ws) w e = cc

three_is : (ws : List (List ℕ)) (w : List ℕ × List ℕ × List ℕ) → three ws ≡ Some w → ws ≡ w.0 ∷ w.1 ∷ w.2 ∷ []
three_is [] w e = cc
three_is (a ∷ []) w e = cc
three_is (a ∷ b ∷ []) w e = cc
three_is (a ∷ b ∷ c ∷ []) w e = ap (λ p. p.0 ∷ p.1 ∷ p.2 ∷ []) (some_same {A = List ℕ × List ℕ × List ℕ} (a, b, c) w e)
three_is (a ∷ b ∷ c ∷ d ∷ ws) w e = cc

four_is : (ws : List (List ℕ)) (w : List ℕ × List ℕ × List ℕ × List ℕ) → four ws ≡ Some w → ws ≡ w.0 ∷ w.1 ∷ w.2 ∷ w.3 ∷ []
four_is [] w e = cc
four_is (a ∷ []) w e = cc
four_is (a ∷ b ∷ []) w e = cc
four_is (a ∷ b ∷ c ∷ []) w e = cc
four_is (a ∷ b ∷ c ∷ d ∷ []) w e = ap (λ p. p.0 ∷ p.1 ∷ p.2 ∷ p.3 ∷ []) (some_same {A = List ℕ × List ℕ × List ℕ × List ℕ} (a, b, c, d) w e)
four_is (a ∷ b ∷ c ∷ d ∷ x ∷ ws) w e = cc

-- a text by its words
spelled : (text : List ℕ) (ws : List (List ℕ)) → pieces 32 text ≡ ws → text ≡ join_with_byte 32 ws
spelled text ws e = sym (joined_back 32 text) ∙ ap (join_with_byte 32) e

-- the first of them is the keyword
first_is : (text word w : List ℕ) (ws : List (List ℕ)) → pieces 32 text ≡ w ∷ ws → bytes_eq (keyword text) word ≡ true → w ≡ word
first_is text word w ws e key = sym (keyword_back text w ws e) ∙ (bytes_decides (keyword text) word).0 key

made_only : (name was : List ℕ) (w : ChangeKind) (r : Record) → made_of name was w ≡ Some r → (is_name name ≡ true) × (is_word was ≡ true) × (r ≡ Made (record { name = name; was = was; what = w }))
unfolding made_of
made_only name was w r e =
    let p = passed (is_name name && is_word was) _ r e in
    let q = and_parts (is_name name) (is_word was) p.0 in
    (q.0, q.1, sym (some_same _ _ p.1))

abbrev Written : List ℕ → Record → Type 0
Written text r = IsRecord r × (text ≡ record_text r)

-- a line of these words writes the change
change_written : (text name was : List ℕ) (w : ChangeKind) (r : Record) → text ≡ join_with_byte 32 (change_words name was w) → IsWhat name w → made_of name was w ≡ Some r → Written text r
unfolding record_text
change_written text name was w r e h made =
    let p = made_only name was w r made in
    rw p.2 ((p.0, p.1, h), e)

with_need_only : (name was : List ℕ) (o : Option Need) (r : Record) → record_with_need name was o ≡ Some r → (u : Need) × (o ≡ Some u) × (made_of name was (what.Need u) ≡ Some r)
with_need_only name was None r e = cc
with_need_only name was (Some u) r e = (u, refl, e)

-- the words of a line that has so many
of_four : (text : List ℕ) (o : Option (List ℕ × List ℕ × List ℕ × List ℕ)) (f : List ℕ × List ℕ × List ℕ × List ℕ → Option Record) (r : Record)
    → four (pieces 32 text) ≡ o → elim o [ None ↦ None | Some w ↦ f w ] ≡ Some r
    → (w : List ℕ × List ℕ × List ℕ × List ℕ) × (pieces 32 text ≡ w.0 ∷ w.1 ∷ w.2 ∷ w.3 ∷ []) × (f w ≡ Some r)
of_four text None f r is e = cc
of_four text (Some w) f r is e = (w, four_is (pieces 32 text) w is, e)

of_three : (text : List ℕ) (o : Option (List ℕ × List ℕ × List ℕ)) (f : List ℕ × List ℕ × List ℕ → Option Record) (r : Record)
    → three (pieces 32 text) ≡ o → elim o [ None ↦ None | Some w ↦ f w ] ≡ Some r
    → (w : List ℕ × List ℕ × List ℕ) × (pieces 32 text ≡ w.0 ∷ w.1 ∷ w.2 ∷ []) × (f w ≡ Some r)
of_three text None f r is e = cc
of_three text (Some w) f r is e = (w, three_is (pieces 32 text) w is, e)

of_two : (text : List ℕ) (o : Option (List ℕ × List ℕ)) (f : List ℕ × List ℕ → Option Record) (r : Record)
    → two (pieces 32 text) ≡ o → elim o [ None ↦ None | Some w ↦ f w ] ≡ Some r
    → (w : List ℕ × List ℕ) × (pieces 32 text ≡ w.0 ∷ w.1 ∷ []) × (f w ≡ Some r)
of_two text None f r is e = cc
of_two text (Some w) f r is e = (w, two_is (pieces 32 text) w is, e)

need_found : (text : List ℕ) (r : Record) → bytes_eq (keyword text) (codes "need") ≡ true → need_line text ≡ Some r → Written text r
unfolding need_line
need_found text r key e =
    let p = of_four text (four (pieces 32 text)) (λ w. record_with_need w.1 w.2 (need_in_word w.3)) r refl e in
    let w = p.0 in
    let q = with_need_only w.1 w.2 (need_in_word w.3) r p.2 in
    let u = q.0 in
    let n = need_only w.3 u q.1 in
    let is : text ≡ join_with_byte 32 (codes "need" ∷ w.1 ∷ w.2 ∷ need_word u ∷ []) =
    spelled text _ p.1 ∙ ap (λ k. join_with_byte 32 (k ∷ w.1 ∷ w.2 ∷ w.3 ∷ [])) (first_is text (codes "need") w.0 _ p.1 key) ∙ ap (λ k. join_with_byte 32 (codes "need" ∷ w.1 ∷ w.2 ∷ k ∷ [])) n.0 in
    change_written text w.1 w.2 (what.Need u) r is n.1 q.2

replace_found : (text : List ℕ) (r : Record) → bytes_eq (keyword text) (codes "replace") ≡ true → replace_line text ≡ Some r → Written text r
unfolding replace_line
replace_found text r key e =
    let p = of_four text (four (pieces 32 text)) (λ w. cond (is_word w.3) (made_of w.1 w.2 (what.Replace w.3)) None) r refl e in
    let w = p.0 in
    let q = passed (is_word w.3) _ r p.2 in
    let is : text ≡ join_with_byte 32 (codes "replace" ∷ w.1 ∷ w.2 ∷ w.3 ∷ []) =
    spelled text _ p.1 ∙ ap (λ k. join_with_byte 32 (k ∷ w.1 ∷ w.2 ∷ w.3 ∷ [])) (first_is text (codes "replace") w.0 _ p.1 key) in
    change_written text w.1 w.2 (what.Replace w.3) r is q.0 q.1

added_only : (was : List ℕ) (o : Option Row) (r : Record) → added_of was o ≡ Some r → (row : Row) × (o ≡ Some row) × (made_of row.name was (what.Add row) ≡ Some r)
added_only was None r e = cc
added_only was (Some row) r e = (row, refl, e)

-- what is cut off first is the keyword
keyword_of : (ws : List (List ℕ)) (w rest : List ℕ) → parts ws ≡ Some (w, rest) → first ws ≡ w
keyword_of [] w rest e = cc
keyword_of (a ∷ []) w rest e = cc
keyword_of (a ∷ b ∷ ws) w rest e = ap (λ (p : Option (List ℕ × List ℕ)). elim p [ None ↦ a | Some q ↦ q.0 ]) e

keyword_is : (text w rest word : List ℕ) → one_and_rest text ≡ Some (w, rest) → bytes_eq (keyword text) word ≡ true → w ≡ word
unfolding one_and_rest keyword
keyword_is text w rest word e key = sym (keyword_of (pieces 32 text) w rest e) ∙ (bytes_decides (keyword text) word).0 key

drop_found : (text : List ℕ) (r : Record) → bytes_eq (keyword text) (codes "drop") ≡ true → drop_line text ≡ Some r → Written text r
unfolding drop_line
drop_found text r key e =
    let p = of_three text (three (pieces 32 text)) (λ w. made_of w.1 w.2 what.Drop) r refl e in
    let w = p.0 in
    let is : text ≡ join_with_byte 32 (codes "drop" ∷ w.1 ∷ w.2 ∷ []) =
    spelled text _ p.1 ∙ ap (λ k. join_with_byte 32 (k ∷ w.1 ∷ w.2 ∷ [])) (first_is text (codes "drop") w.0 _ p.1 key) in
    change_written text w.1 w.2 what.Drop r is tt p.2

settling_found : (text : List ℕ) (r : Record) → bytes_eq (keyword text) (codes "settling") ≡ true → settling_line text ≡ Some r → Written text r
unfolding settling_line record_text
settling_found text r key e =
    let p = of_two text (two (pieces 32 text)) (λ w. cond (is_word w.1) (Some (Settling w.1)) None) r refl e in
    let w = p.0 in
    let q = passed (is_word w.1) _ r p.2 in
    let is : text ≡ join_with_byte 32 (codes "settling" ∷ w.1 ∷ []) =
    spelled text _ p.1 ∙ ap (λ k. join_with_byte 32 (k ∷ w.1 ∷ [])) (first_is text (codes "settling") w.0 _ p.1 key) in
    rw (sym (some_same _ _ q.1)) (q.0, is)

add_found : (text : List ℕ) (r : Record) → bytes_eq (keyword text) (codes "add") ≡ true → add_line text ≡ Some r → Written text r
unfolding add_line record_text
add_found text r key e =
    let a = bound (one_and_rest text) _ r e in
    let b = bound (one_and_rest a.0.1) _ r a.2 in
    let o = added_only b.0.0 (row_of_line b.0.1) r b.2 in
    let row = o.0 in
    let w = row_only b.0.1 row o.1 in
    let made = made_only row.name b.0.0 (what.Add row) r o.2 in
    let is : text ≡ codes "add" ++ 32 ∷ (b.0.0 ++ 32 ∷ row_text row) =
    cut_only text a.0.0 a.0.1 a.1
    ∙ ap (λ k. k ++ 32 ∷ a.0.1) (keyword_is text a.0.0 a.0.1 (codes "add") a.1 key)
    ∙ ap (λ l. codes "add" ++ 32 ∷ l) (cut_only a.0.1 b.0.0 b.0.1 b.1 ∙ ap (λ l. b.0.0 ++ 32 ∷ l) w.1) in
    rw made.2 ((made.0, made.1, (w.0, refl)), is)

pub read_is_written : RecordReadIsWritten
unfolding record_of
read_is_written text r e =
    elim (branch (bytes_eq (keyword text) (codes "need")) _ _ r e) [
      | inl p ↦ need_found text r p.0 p.1
      | inr e2 ↦ elim (branch (bytes_eq (keyword text) (codes "replace")) _ _ r e2) [
        | inl p ↦ replace_found text r p.0 p.1
        | inr e3 ↦ elim (branch (bytes_eq (keyword text) (codes "add")) _ _ r e3) [
          | inl p ↦ add_found text r p.0 p.1
          | inr e4 ↦ elim (branch (bytes_eq (keyword text) (codes "drop")) _ _ r e4) [
            | inl p ↦ drop_found text r p.0 p.1
            | inr e5 ↦
                let p = passed (bytes_eq (keyword text) (codes "settling")) _ r e5 in
                settling_found text r p.0 p.1
          ]
        ]
      ]
    ]
