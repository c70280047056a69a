-- EndLines: the words of a line that keeps an end, and that it is read as that end and no other line is. For `five_words` and the laws of
-- ends.
use Rattle.std.proofs.Common.{◌≡◌, ◌∙◌, ℕ, ◌≤◌, Bool, true, false, not, cond, ◌&&◌, ◌==◌, List, [], ◌∷◌, Option, Some, None, bytes_eq, codes, decimal, refl, sym, ap, arith, inl, inr}
use Rattle.std.proofs.lemmas.Bool.{and_from, and_parts, cases_Bool, cond-false, cond-true, ne_eqb, not_from_false}
use Rattle.std.specs.{Cmp.Lexicographic.bytes_decides, Int.is_in_range, List.join_with_byte, List.list_all, Option.option_map}
use Rattle.base_words.specs.{Laws.AllLack, Laws.Lacks, Numbers.number_up_to, Pieces.four, Pieces.pieces, Texts.yes_or_no}
use Rattle.base_words.proofs.Numbers.{number_back, number_spelled}
use Rattle.base_words.proofs.Joined.{cut_back, decimal_lacks, joined_back, lacks_append}
use Rattle.vault_inventory.specs.Values.{is_credential}
use Rattle.plan_forest.specs.{declared.forest.TheConstants.END_MAX, Push.is_name, Push.is_name_byte}
use Rattle.agent_standing.specs.{declared.ends.KnownEnd.KnownEnd, declared.standing.Told.Told}
use Rattle.agent_standing.specs.Ends.{BootLaw, EndLineLaw, EndReadIsWritten, EndWrittenIsRead, IsKnownEnd, end_of_text, end_text, end_words, five, in_boot, known_end_by, renewable_of, told_by_words, told_of_words}

-- one word more in front
pub five_after : (a : List ℕ) (ws : List (List ℕ)) → five (a ∷ ws) ≡ option_map (λ w. (a, w.0, w.1, w.2, w.3)) (four ws)
five_after a [] = refl
five_after a (b ∷ []) = refl
five_after a (b ∷ c ∷ []) = refl
five_after a (b ∷ c ∷ d ∷ []) = refl
five_after a (b ∷ c ∷ d ∷ e ∷ []) = refl
five_after a (b ∷ c ∷ d ∷ e ∷ f ∷ ws) = refl

-- ---- no space and no line feed stands in a word

pub record IsPlain (w : List ℕ) : Type 0 where
  pub spaces : Lacks 32 w
  pub feeds : Lacks 10 w

abbrev pub ArePlain : List (List ℕ) → Type 0
ArePlain [] = Unit {0}
ArePlain (w ∷ ws) = IsPlain w × ArePlain ws

each_weaker : (p q : ℕ → Bool) → ((x : ℕ) → p x ≡ true → q x ≡ true) → (xs : List ℕ) → list_all p xs ≡ true → list_all q xs ≡ true
each_weaker p q weaker [] h = refl
each_weaker p q weaker (x ∷ xs) h = let k = and_parts (p x) (list_all p xs) h in and_from _ _ (weaker x k.0) (each_weaker p q weaker xs k.1)

byte_is_not : (test : ℕ → Bool) (b : ℕ) → test b ≡ false → (x : ℕ) → test x ≡ true → not (x == b) ≡ true
byte_is_not test b lacks x h = not_from_false _ (ne_eqb x b (λ e. let both : true ≡ false = sym h ∙ ap test e ∙ lacks in cc))

bytes_are_plain : (test : ℕ → Bool) → test 32 ≡ false → test 10 ≡ false → (w : List ℕ) → list_all test w ≡ true → IsPlain w
bytes_are_plain test no_space no_feed w h = record {
  spaces = each_weaker test (λ x. not (x == 32)) (byte_is_not test 32 no_space) w h;
  feeds = each_weaker test (λ x. not (x == 10)) (byte_is_not test 10 no_feed) w h;
}

name_is_plain : (name : List ℕ) → is_name name ≡ true → IsPlain name
unfolding is_name
name_is_plain name h = bytes_are_plain is_name_byte refl refl name (and_parts _ (list_all is_name_byte name) (and_parts _ _ h).1).1

word_is_plain : (w : List ℕ) → is_credential w ≡ true → IsPlain w
word_is_plain w h = bytes_are_plain (is_in_range 0x21 0x7E) refl refl w (and_parts _ (list_all (is_in_range 0x21 0x7E) w) (and_parts _ _ h).1).1

number_is_plain : (n : ℕ) → n ≤ END_MAX → IsPlain (decimal n)
number_is_plain n h = record { spaces = decimal_lacks 32 (inl (omega arith)) n (omega (arith, h)); feeds = decimal_lacks 10 (inl (omega arith)) n (omega (arith, h)) }

said_is_plain : (b : Bool) → IsPlain (yes_or_no b)
said_is_plain true = record { spaces = refl; feeds = refl }
said_is_plain false = record { spaces = refl; feeds = refl }

plain_end : (k : KnownEnd) → IsKnownEnd k → ArePlain (end_words k)
plain_end k h = (name_is_plain k.name h.name, (number_is_plain k.told.end h.end, (said_is_plain k.told.renewable, (word_is_plain k.fingerprint h.fingerprint, (word_is_plain k.boot h.boot, tt)))))

lack_spaces : (ws : List (List ℕ)) → ArePlain ws → AllLack 32 ws
lack_spaces [] h = tt
lack_spaces (w ∷ ws) h = (h.0.spaces, lack_spaces ws h.1)

line_lacks : (ws : List (List ℕ)) → ArePlain ws → Lacks 10 (join_with_byte 32 ws)
line_lacks [] h = refl
line_lacks (w ∷ []) h = h.0.feeds
line_lacks (w ∷ x ∷ ws) h = lacks_append 10 w (32 ∷ join_with_byte 32 (x ∷ ws)) h.0.feeds (line_lacks (x ∷ ws) h.1)

pub line_law : EndLineLaw
unfolding end_text
line_law k h = line_lacks (end_words k) (plain_end k h)

-- ---- each word is read as what it writes

renewable_back : (b : Bool) → renewable_of (yes_or_no b) ≡ Some b
renewable_back true = refl
renewable_back false = refl

told_back : (t : Told) → t.end ≤ END_MAX → told_of_words (decimal t.end) (yes_or_no t.renewable) ≡ Some t
unfolding told_of_words
told_back t h = ap (λ o. told_by_words o (renewable_of (yes_or_no t.renewable))) (number_back END_MAX (omega arith) t.end h) ∙ ap (told_by_words (Some t.end)) (renewable_back t.renewable)

known_back : (k : KnownEnd) → IsKnownEnd k → known_end_by k.name k.fingerprint k.boot (Some k.told) ≡ Some k
known_back k h = cond-true _ _ _ (and_from (is_name k.name) _ h.name (and_from (is_credential k.fingerprint) (is_credential k.boot) h.fingerprint h.boot))

pub written_is_read : EndWrittenIsRead
unfolding end_of_text end_text
written_is_read k h =
    let cut : pieces 32 (join_with_byte 32 (end_words k)) ≡ end_words k = cut_back 32 k.name _ (lack_spaces (end_words k) (plain_end k h)) in
    ap (λ ws. elim (five ws) [ None ↦ None | Some w ↦ known_end_by w.0 w.3 w.4 (told_of_words w.1 w.2) ]) cut ∙ ap (known_end_by k.name k.fingerprint k.boot) (told_back k.told h.end) ∙ known_back k h

-- ---- and no other line is

some_same : {A : Type 0} (x y : A) → Some x ≡ Some y → x ≡ y
some_same x y e = cc

abbrev Five : Type 0
Five = List ℕ × List ℕ × List ℕ × List ℕ × List ℕ

five_is : (ws : List (List ℕ)) (w : Five) → five ws ≡ Some w → ws ≡ w.0 ∷ w.1 ∷ w.2 ∷ w.3 ∷ w.4 ∷ []
five_is [] w e = cc
five_is (a ∷ []) w e = cc
five_is (a ∷ b ∷ []) w e = cc
five_is (a ∷ b ∷ c ∷ []) w e = cc
five_is (a ∷ b ∷ c ∷ d ∷ []) w e = cc
five_is (a ∷ b ∷ c ∷ d ∷ x ∷ []) w e = ap (λ p. p.0 ∷ p.1 ∷ p.2 ∷ p.3 ∷ p.4 ∷ []) (some_same {A = Five} (a, b, c, d, x) w e)
five_is (a ∷ b ∷ c ∷ d ∷ x ∷ y ∷ ws) w e = cc

passed : {A : Type 0} (b : Bool) (x y : A) → cond b (Some x) None ≡ Some y → (b ≡ true) × (x ≡ y)
passed true x y e = (refl, some_same x y e)
passed false x y e = cc

of_five : (text : List ℕ) (o : Option Five) (f : Five → Option KnownEnd) (k : KnownEnd) → five (pieces 32 text) ≡ o → elim o [ None ↦ None | Some w ↦ f w ] ≡ Some k →
    (w : Five) × ((pieces 32 text ≡ w.0 ∷ w.1 ∷ w.2 ∷ w.3 ∷ w.4 ∷ []) × (f w ≡ Some k))
of_five text None f k is e = cc
of_five text (Some w) f k is e = (w, (five_is (pieces 32 text) w is, e))

said_only : (word : List ℕ) (b : Bool) → renewable_of word ≡ Some b → word ≡ yes_or_no b
said_only word b e =
    elim (cases_Bool (bytes_eq word (codes "yes"))) [
      | inl is_yes ↦
          let same : true ≡ b = some_same true b (sym (cond-true (bytes_eq word (codes "yes")) (Some true) _ is_yes) ∙ e) in
          (bytes_decides word (codes "yes")).0 is_yes ∙ ap yes_or_no same
      | inr other ↦
          let q = passed (bytes_eq word (codes "no")) false b (sym (cond-false (bytes_eq word (codes "yes")) (Some true) _ other) ∙ e) in
          (bytes_decides word (codes "no")).0 q.0 ∙ ap yes_or_no q.1
    ]

told_only : (end renewable : List ℕ) (t : Told) → told_of_words end renewable ≡ Some t → (end ≡ decimal t.end) × ((t.end ≤ END_MAX) × (renewable ≡ yes_or_no t.renewable))
unfolding told_of_words
told_only end renewable t e = by (number_up_to END_MAX end) (renewable_of renewable) refl refl e where
  by : (n : Option ℕ) (b : Option Bool) → number_up_to END_MAX end ≡ n → renewable_of renewable ≡ b → told_by_words n b ≡ Some t → (end ≡ decimal t.end) × ((t.end ≤ END_MAX) × (renewable ≡ yes_or_no t.renewable))
  by None b number said e = absurd cc
  by (Some n) None number said e = absurd cc
  by (Some n) (Some b) number said e =
      let same : record { end = n; renewable = b } ≡ t = some_same {A = Told} (record { end = n; renewable = b }) t e in
      let is = number_spelled END_MAX (omega arith) end n number in
      rw (sym same) (is.0, (is.1, said_only renewable b said))

known_only : (name fingerprint boot : List ℕ) (o : Option Told) (k : KnownEnd) → known_end_by name fingerprint boot o ≡ Some k →
    (o ≡ Some k.told) × ((is_name name ≡ true) × ((is_credential fingerprint ≡ true) × ((is_credential boot ≡ true) × ((name ≡ k.name) × ((fingerprint ≡ k.fingerprint) × (boot ≡ k.boot))))))
known_only name fingerprint boot None k e = cc
known_only name fingerprint boot (Some t) k e =
    let p = passed (is_name name && (is_credential fingerprint && is_credential boot)) (record { name = name; fingerprint = fingerprint; boot = boot; told = t }) k e in
    let q = and_parts (is_name name) _ p.0 in
    let r = and_parts (is_credential fingerprint) (is_credential boot) q.1 in
    (ap (λ (x : KnownEnd). Some x.told) p.1, (q.0, (r.0, (r.1, (ap (λ (x : KnownEnd). x.name) p.1, (ap (λ (x : KnownEnd). x.fingerprint) p.1, ap (λ (x : KnownEnd). x.boot) p.1))))))

pub read_is_written : EndReadIsWritten
unfolding end_of_text end_text
read_is_written text k e =
    let p = of_five text (five (pieces 32 text)) (λ w. known_end_by w.0 w.3 w.4 (told_of_words w.1 w.2)) k refl e in
    let w = p.0 in
    let q = known_only w.0 w.3 w.4 (told_of_words w.1 w.2) k p.1.1 in
    let t = told_only w.1 w.2 k.told q.0 in
    let names = q.1.1.1.1 in
    let words : w.0 ∷ w.1 ∷ w.2 ∷ w.3 ∷ w.4 ∷ [] ≡ end_words k =
    (let a = names.0 in let b = t.0 in let c = t.1.1 in let d = names.1.0 in let f = names.1.1 in cc) in (
      record {
        name = ap is_name (sym names.0) ∙ q.1.0;
        end = t.1.0;
        fingerprint = ap is_credential (sym names.1.0) ∙ q.1.1.0;
        boot = ap is_credential (sym names.1.1) ∙ q.1.1.1.0;
      },
      sym (joined_back 32 text) ∙ ap (join_with_byte 32) (p.1.0 ∙ words),
    )

-- ---- in another boot

elsewhere : (boot : List ℕ) (k : KnownEnd) → bytes_eq k.boot boot ≡ false → in_boot boot (Some k) ≡ None
elsewhere boot k other = cond-false (bytes_eq k.boot boot) (Some k) None other

pub boot_law : BootLaw
boot_law k h boot other = ap (in_boot boot) (written_is_read k h) ∙ elsewhere boot k other
