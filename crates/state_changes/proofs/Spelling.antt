-- The words of a record: no space and no line feed stands in them, and each is read as what it writes.
use Rattle.std.proofs.Common.{◌≡◌, ℕ, ◌≤◌, Bool, true, false, not, cond, ◌==◌, List, [], ◌∷◌, Option, Some, None, option_map, bytes_eq, codes, decimal, refl, sym, ap, ◌∙◌, arith, inl, inr}
use Rattle.std.proofs.lemmas.Bool.{and_from, and_parts, cases_Bool, cond-true, cond-false, ne_eqb, not_from_false}
use Rattle.std.specs.{Cmp.Lexicographic.bytes_decides, Int.is_in_range, List.join_with_byte, List.list_all}
use Rattle.base_moment.specs.declared.moment.TheConstants.{LAST}
use Rattle.base_words.specs.{Laws.AllLack, Laws.Lacks, Numbers.is_spelled, Numbers.number_up_to}
use Rattle.base_words.specs.Pieces.{first, keyword, pieces}
use Rattle.base_words.proofs.Numbers.{number_back, number_spelled}
use Rattle.base_words.proofs.Joined.{cut_back, decimal_lacks, lacks_append}
use Rattle.plan_forest.specs.Push.{is_name, is_name_byte}
use Rattle.vault_inventory.specs.{Values.is_credential, declared.need.Need.Need, Needs.IsNeed, Needs.need_word}
use Rattle.vault_inventory.specs.declared.need.Need.TheVariants.{Until, Always}
use Rattle.state_changes.specs.Words.{need_in_word}

pub record IsPlain (w : List ℕ) : Type 0 where
  pub spaces : Lacks 32 w
  pub feeds : Lacks 10 w

abbrev pub ArePlain : List (List ℕ) → Type 0
ArePlain [] = Unit {0}
ArePlain (w ∷ ws) = IsPlain w × ArePlain ws

-- ---- names, words and needs are plain

pub each_weaker : (p q : ℕ → Bool) → ((x : ℕ) → p x ≡ true → q x ≡ true) → (xs : List ℕ) → list_all p xs ≡ true → list_all q xs ≡ true
each_weaker p q weaker [] h = refl
each_weaker p q weaker (x ∷ xs) h = let k = and_parts (p x) (list_all p xs) h in and_from _ _ (weaker x k.0) (each_weaker p q weaker xs k.1)

pub byte_is_not : (test : ℕ → Bool) (b : ℕ) → test b ≡ false → (x : ℕ) → test x ≡ true → not (x == b) ≡ true
byte_is_not test b lacks x h = not_from_false _ (ne_eqb x b (λ e. let both : true ≡ false = sym h ∙ ap test e ∙ lacks in cc))

bytes_are_plain : (test : ℕ → Bool) → test 32 ≡ false → test 10 ≡ false → (w : List ℕ) → list_all test w ≡ true → IsPlain w
bytes_are_plain test no_space no_feed w h = record {
  spaces = each_weaker test (λ x. not (x == 32)) (byte_is_not test 32 no_space) w h;
  feeds = each_weaker test (λ x. not (x == 10)) (byte_is_not test 10 no_feed) w h;
}

pub name_is_plain : (name : List ℕ) → is_name name ≡ true → IsPlain name
unfolding is_name
name_is_plain name h = bytes_are_plain is_name_byte refl refl name (and_parts _ (list_all is_name_byte name) (and_parts _ _ h).1).1

pub word_is_plain : (w : List ℕ) → is_credential w ≡ true → IsPlain w
word_is_plain w h = bytes_are_plain (is_in_range 0x21 0x7E) refl refl w (and_parts _ (list_all (is_in_range 0x21 0x7E) w) (and_parts _ _ h).1).1

pub need_is_plain : (u : Need) → IsNeed u → IsPlain (need_word u)
need_is_plain (Until t) h = record { spaces = decimal_lacks 32 (inl (omega arith)) t (omega (arith, h)); feeds = decimal_lacks 10 (inl (omega arith)) t (omega (arith, h)) }
need_is_plain Always h = record { spaces = refl; feeds = refl }

-- ---- lines of plain words

lack_spaces : (ws : List (List ℕ)) → ArePlain ws → AllLack 32 ws
lack_spaces [] h = tt
lack_spaces (w ∷ ws) h = (h.0.spaces, lack_spaces ws h.1)

pub words_back : (w : List ℕ) (ws : List (List ℕ)) → ArePlain (w ∷ ws) → pieces 32 (join_with_byte 32 (w ∷ ws)) ≡ w ∷ ws
words_back w ws h = cut_back 32 w ws (lack_spaces (w ∷ ws) h)

pub line_lacks : (ws : List (List ℕ)) → ArePlain ws → Lacks 10 (join_with_byte 32 ws)
line_lacks [] h = refl
line_lacks (w ∷ []) h = h.0.feeds
line_lacks (w ∷ x ∷ ws) h = lacks_append 10 w (32 ∷ join_with_byte 32 (x ∷ ws)) h.0.feeds (line_lacks (x ∷ ws) h.1)

pub keyword_back : (line w : List ℕ) (ws : List (List ℕ)) → pieces 32 line ≡ w ∷ ws → keyword line ≡ w
unfolding keyword
keyword_back line w ws e = ap first e

-- ---- needs

some_same : {A : Type 0} (x y : A) → Some x ≡ Some y → x ≡ y
some_same x y e = cc

not_always : (t : ℕ) → t ≤ LAST → (b : Bool) → bytes_eq (decimal t) (codes "always") ≡ b → b ≡ false
unfolding number_up_to is_spelled
not_always t h false e = refl
not_always t h true e =
    let same : decimal t ≡ codes "always" = (bytes_decides (decimal t) (codes "always")).0 e in
    let none : number_up_to LAST (codes "always") ≡ None = refl in
    let both : Some t ≡ None = sym (number_back LAST (omega arith) t h) ∙ ap (number_up_to LAST) same ∙ none in
    cc

-- the word of a need is read as that need
pub need_back : (u : Need) → IsNeed u → need_in_word (need_word u) ≡ Some u
unfolding need_in_word
need_back (Until t) h =
    cond-false (bytes_eq (decimal t) (codes "always")) _ _ (not_always t h (bytes_eq (decimal t) (codes "always")) refl)
    ∙ ap (option_map (λ k. Until k)) (number_back LAST (omega arith) t h)
need_back Always h = refl

mapped : (o : Option ℕ) (u : Need) → option_map (λ t. Until t) o ≡ Some u → (t : ℕ) × (o ≡ Some t) × (u ≡ Until t)
mapped None u e = cc
mapped (Some t) u e = (t, refl, sym (some_same _ _ e))

-- and no other word is
pub need_only : (w : List ℕ) (u : Need) → need_in_word w ≡ Some u → (w ≡ need_word u) × IsNeed u
unfolding need_in_word
need_only w u e =
    elim (cases_Bool (bytes_eq w (codes "always"))) [
      | inl t ↦
          let same : Always ≡ u = some_same Always u (sym (cond-true (bytes_eq w (codes "always")) _ _ t) ∙ e) in
          rw (sym same) ((bytes_decides w (codes "always")).0 t, tt)
      | inr f ↦
          let m = mapped (number_up_to LAST w) u (sym (cond-false (bytes_eq w (codes "always")) _ _ f) ∙ e) in
          let k = number_spelled LAST (omega arith) w m.0 m.1 in
          rw m.2 k
    ]
