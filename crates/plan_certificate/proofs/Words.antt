-- Words without spaces and line feeds: what is joined is cut into the same pieces.
use Rattle.std.proofs.Common.{◌≡◌, ℕ, ◌+◌, ◌^◌, ◌<◌, Bool, true, false, not, ◌==◌, List, [], ◌∷◌, ◌++◌, append_assoc, bytes_eq, decimal, refl, sym, ap, ◌∙◌, arith, inl}
use Rattle.std.proofs.lemmas.List.Splits.{slice_split_at}
use Rattle.std.proofs.lemmas.Bool.{and_from, and_parts, ne_eqb, not_from_false}
use Rattle.std.specs.{Cmp.Lexicographic.bytes_decides, List.join_with_byte, List.list_all}
use Rattle.base_words.specs.Laws.{AllLack, Lacks}
use Rattle.base_words.specs.Pieces.{first, keyword, pieces}
use Rattle.base_words.proofs.Joined.{cut_back, decimal_lacks, lacks_append, lacks_each}
use Rattle.plan_forest.specs.Push.{is_name, is_name_byte}
use Rattle.plan_certificate.specs.CertificateText.{line_text}

pub record IsWord (w : List ℕ) : Type 0 where
  pub spaces : Lacks 32 w
  pub feeds : Lacks 10 w

abbrev pub AreWords : List (List ℕ) → Type 0
AreWords [] = Unit {0}
AreWords (w ∷ ws) = IsWord w × AreWords ws

-- ---- numbers and names are words

pub decimal_is_word : (n : ℕ) → n < 2 ^ 64 → IsWord (decimal n)
decimal_is_word n small = record { spaces = decimal_lacks 32 (inl (omega arith)) n small; feeds = decimal_lacks 10 (inl (omega arith)) n small }

each_weaker : (p q : ℕ → Bool) → ((x : ℕ) → p x ≡ true → q x ≡ true) → (xs : List ℕ) → list_all p xs ≡ true → list_all q xs ≡ true
each_weaker p q weaker [] h = refl
each_weaker p q weaker (x ∷ xs) h = let k = and_parts (p x) (list_all p xs) h in and_from _ _ (weaker x k.0) (each_weaker p q weaker xs k.1)

name_byte_is_not : (b : ℕ) → is_name_byte b ≡ false → (x : ℕ) → is_name_byte x ≡ true → not (x == b) ≡ true
name_byte_is_not b lacks x h = not_from_false _ (ne_eqb x b (λ e. let both : true ≡ false = sym h ∙ ap is_name_byte e ∙ lacks in cc))

pub name_is_word : (name : List ℕ) → is_name name ≡ true → IsWord name
unfolding is_name
name_is_word name h =
    let bytes = (and_parts _ (list_all is_name_byte name) (and_parts _ _ h).1).1 in
    record {
      spaces = each_weaker is_name_byte (λ x. not (x == 32)) (name_byte_is_not 32 refl) name bytes;
      feeds = each_weaker is_name_byte (λ x. not (x == 10)) (name_byte_is_not 10 refl) name bytes;
    }

-- ---- words and lines

lack_spaces : (ws : List (List ℕ)) → AreWords ws → AllLack 32 ws
lack_spaces [] h = tt
lack_spaces (w ∷ ws) h = (h.0.spaces, lack_spaces ws h.1)

pub words_back : (w : List ℕ) (ws : List (List ℕ)) → AreWords (w ∷ ws) → pieces 32 (join_with_byte 32 (w ∷ ws)) ≡ w ∷ ws
words_back w ws h = cut_back 32 w ws (lack_spaces (w ∷ ws) h)

line_lacks : (ws : List (List ℕ)) → AreWords ws → Lacks 10 (join_with_byte 32 ws)
line_lacks [] h = refl
line_lacks (w ∷ []) h = h.0.feeds
line_lacks (w ∷ x ∷ ws) h = lacks_append 10 w (32 ∷ join_with_byte 32 (x ∷ ws)) h.0.feeds (line_lacks (x ∷ ws) h.1)

pub feed_back : (line rest : List ℕ) → Lacks 10 line → pieces 10 (line ++ 10 ∷ rest) ≡ line ∷ pieces 10 rest
unfolding pieces
feed_back line rest h = slice_split_at (λ c. c == 10) line 10 rest (lacks_each 10 line h) refl

pub line_back : (ws : List (List ℕ)) (rest : List ℕ) → AreWords ws → pieces 10 (line_text ws ++ rest) ≡ join_with_byte 32 ws ∷ pieces 10 rest
unfolding line_text
line_back ws rest h =
    ap (pieces 10) (append_assoc (join_with_byte 32 ws) (10 ∷ []) rest) ∙ feed_back (join_with_byte 32 ws) rest (line_lacks ws h)

-- the first of them is the keyword
pub keyword_back : (line w : List ℕ) (ws : List (List ℕ)) → pieces 32 line ≡ w ∷ ws → keyword line ≡ w
unfolding keyword
keyword_back line w ws e = ap first e

pub keyword_test : (line w : List ℕ) (ws : List (List ℕ)) → pieces 32 line ≡ w ∷ ws → bytes_eq (keyword line) w ≡ true
keyword_test line w ws e = (bytes_decides (keyword line) w).1 (keyword_back line w ws e)
