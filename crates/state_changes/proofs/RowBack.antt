-- A row is read back from its text, and from no other; and its text is one line.
use Rattle.std.proofs.Common.{◌≡◌, ℕ, ◌^◌, ◌<◌, ◌≤◌, Bool, true, false, cond, not, ◌==◌, ◌&&◌, nat_le, List, [], ◌∷◌, ◌++◌, append_assoc, bytes_eq, Option, Some, None, codes, decimal, IfSome, refl, sym, ap, ◌∙◌, subst, arith, inl, inr}
use Rattle.std.proofs.lemmas.Bool.{and_parts, cond-true, cond-false}
use Rattle.std.specs.Cmp.Lexicographic.{bytes_decides}
use Rattle.base_moment.specs.declared.moment.TheConstants.{LAST}
use Rattle.base_words.specs.{Laws.Lacks, Numbers.number_up_to}
use Rattle.base_words.proofs.{Joined.decimal_lacks, Joined.lacks_append, Numbers.number_back, Numbers.number_spelled}
use Rattle.plan_forest.specs.{declared.entry.Kind.Kind, declared.forest.TheConstants.END_MAX, Push.is_name}
use Rattle.plan_forest.specs.declared.entry.Kind.TheVariants.{Token, Lease}
use Rattle.vault_inventory.specs.{declared.limits.TheConstants.SPAN_MAX, Values.is_path, Needs.IsNeed, Needs.need_word, Kinds.kind_word}
use Rattle.state_changes.specs.{declared.row.Row.Row, declared.row_text.Who.Who, declared.row_text.Life.Life, declared.row_text.Limits.Limits}
use Rattle.state_changes.specs.RowText.{IsRow, either, four_and_rest, is_file, is_written, kind_of, life_of, limits_of, name_or_star, one_and_rest, row_of_line, row_of_words, row_with, sent_of, span_or_star, who_of}
use Rattle.state_changes.specs.Words.{file_end, life_words, mark_text, name_word, need_in_word, number_word, plain_text, renewable_word, row_text, spaced, terms_words, told_word, who_words}
use Rattle.state_changes.proofs.Cuts.{cut_back, cut_only}
use Rattle.state_changes.proofs.RowWords.{bound, branch, kind_back, kind_only, name_or_star_back, name_or_star_only, passed, renewable_back, renewable_only, sent_back, sent_only, some_same, span_or_star_back, span_or_star_only, told_back, told_only}
use Rattle.state_changes.proofs.Spelling.{ArePlain, IsPlain, each_weaker, byte_is_not, name_is_plain, need_back, need_is_plain, need_only, word_is_plain}

-- ---- four words and what follows them

-- words before a rest, each followed by a space
abbrev led : List (List ℕ) → List ℕ → List ℕ
led [] rest = rest
led (w ∷ ws) rest = w ++ 32 ∷ led ws rest

led_is : (ws : List (List ℕ)) (rest : List ℕ) → spaced ws ++ rest ≡ led ws rest
led_is [] rest = refl
led_is (w ∷ ws) rest = append_assoc w (32 ∷ spaced ws) rest ∙ ap (λ l. w ++ 32 ∷ l) (led_is ws rest)

four_back : (a b c d rest : List ℕ) → ArePlain (a ∷ b ∷ c ∷ d ∷ []) → four_and_rest (spaced (a ∷ b ∷ c ∷ d ∷ []) ++ rest) ≡ Some (a, b, c, d, rest)
unfolding four_and_rest
four_back a b c d rest h =
    ap four_and_rest (led_is (a ∷ b ∷ c ∷ d ∷ []) rest)
    ∙ rw (cut_back a (b ++ 32 ∷ (c ++ 32 ∷ (d ++ 32 ∷ rest))) h.0.spaces, cut_back b (c ++ 32 ∷ (d ++ 32 ∷ rest)) h.1.0.spaces, cut_back c (d ++ 32 ∷ rest) h.1.1.0.spaces, cut_back d rest h.1.1.1.0.spaces) refl

four_only : (line : List ℕ) (w : List ℕ × List ℕ × List ℕ × List ℕ × List ℕ) → four_and_rest line ≡ Some w → line ≡ spaced (w.0 ∷ w.1 ∷ w.2 ∷ w.3 ∷ []) ++ w.4
unfolding four_and_rest
four_only line w e =
    let a = bound (one_and_rest line) _ w e in
    let b = bound (one_and_rest a.0.1) _ w a.2 in
    let c = bound (one_and_rest b.0.1) _ w b.2 in
    let d = bound (one_and_rest c.0.1) _ w c.2 in
    let is = some_same {A = List ℕ × List ℕ × List ℕ × List ℕ × List ℕ} (a.0.0, b.0.0, c.0.0, d.0.0, d.0.1) w d.2 in
    cut_only line a.0.0 a.0.1 a.1
    ∙ ap (λ l. a.0.0 ++ 32 ∷ l) (cut_only a.0.1 b.0.0 b.0.1 b.1
    ∙ ap (λ l. b.0.0 ++ 32 ∷ l) (cut_only b.0.1 c.0.0 c.0.1 c.1
    ∙ ap (λ l. c.0.0 ++ 32 ∷ l) (cut_only c.0.1 d.0.0 d.0.1 d.1)))
    ∙ ap (λ (p : List ℕ × List ℕ × List ℕ × List ℕ × List ℕ). led (p.0 ∷ p.1 ∷ p.2 ∷ p.3 ∷ []) p.4) is
    ∙ sym (led_is (w.0 ∷ w.1 ∷ w.2 ∷ w.3 ∷ []) w.4)

-- ---- each four

who_back : (who : Who) → is_name who.name ≡ true → IfSome who.parent (λ n. is_name n ≡ true) → who_of (kind_word who.kind) who.name (name_word who.parent) (told_word who.is_told) ≡ Some who
unfolding who_of
who_back who named parent = rw (kind_back who.kind, name_or_star_back who.parent parent, told_back who.is_told, named) refl

record IsWho (a b c d : List ℕ) (who : Who) : Type 0 where
  kind : a ≡ kind_word who.kind
  name : b ≡ who.name
  parent : c ≡ name_word who.parent
  told : d ≡ told_word who.is_told
  named : is_name who.name ≡ true
  over : IfSome who.parent (λ n. is_name n ≡ true)

who_only : (a b c d : List ℕ) (who : Who) → who_of a b c d ≡ Some who → IsWho a b c d who
unfolding who_of
who_only a b c d who e =
    let k = bound (kind_of a) _ who e in
    let p = bound (name_or_star c) _ who k.2 in
    let t = bound (either (codes "told") (codes "open") d) _ who p.2 in
    let n = passed (is_name b) _ who t.2 in
    let q = name_or_star_only c p.0 p.1 in
    subst (IsWho a b c d) (some_same _ who n.1) (record {
      kind = kind_only a k.0 k.1;
      name = refl;
      parent = q.0;
      told = told_only d t.0 t.1;
      named = n.0;
      over = q.1;
    })

life_back : (life : Life) → life.issued ≤ LAST → life.end ≤ END_MAX → IfSome life.increment (λ n. n ≤ SPAN_MAX)
    → life_of (decimal life.issued) (decimal life.end) (renewable_word life.renewable) (number_word life.increment) ≡ Some life
unfolding life_of
life_back life issued ends increment =
    rw (number_back LAST (omega arith) life.issued issued, number_back END_MAX (omega arith) life.end ends, renewable_back life.renewable, span_or_star_back life.increment increment) refl

record IsLife (a b c d : List ℕ) (life : Life) : Type 0 where
  issued : a ≡ decimal life.issued
  end : b ≡ decimal life.end
  renewable : c ≡ renewable_word life.renewable
  increment : d ≡ number_word life.increment
  issued_within : life.issued ≤ LAST
  end_within : life.end ≤ END_MAX
  increment_within : IfSome life.increment (λ n. n ≤ SPAN_MAX)

life_only : (a b c d : List ℕ) (life : Life) → life_of a b c d ≡ Some life → IsLife a b c d life
unfolding life_of
life_only a b c d life e =
    let i = bound (number_up_to LAST a) _ life e in
    let x = bound (number_up_to END_MAX b) _ life i.2 in
    let r = bound (either (codes "renewable") (codes "fixed") c) _ life x.2 in
    let n = bound (span_or_star d) _ life r.2 in
    let issued = number_spelled LAST (omega arith) a i.0 i.1 in
    let ends = number_spelled END_MAX (omega arith) b x.0 x.1 in
    let increment = span_or_star_only d n.0 n.1 in
    subst (IsLife a b c d) (some_same _ life n.2) (record {
      issued = issued.0;
      end = ends.0;
      renewable = renewable_only c r.0 r.1;
      increment = increment.0;
      issued_within = issued.1;
      end_within = ends.1;
      increment_within = increment.1;
    })

limits_back : (l : Limits) → l.period ≤ SPAN_MAX → l.max_ttl ≤ SPAN_MAX → l.explicit_max ≤ SPAN_MAX → IsNeed l.need
    → limits_of (decimal l.period) (decimal l.max_ttl) (decimal l.explicit_max) (need_word l.need) ≡ Some l
unfolding limits_of
limits_back l period max_ttl explicit_max need =
    rw (number_back SPAN_MAX (omega arith) l.period period, number_back SPAN_MAX (omega arith) l.max_ttl max_ttl, number_back SPAN_MAX (omega arith) l.explicit_max explicit_max, need_back l.need need) refl

record AreLimits (a b c d : List ℕ) (l : Limits) : Type 0 where
  period : a ≡ decimal l.period
  max_ttl : b ≡ decimal l.max_ttl
  explicit_max : c ≡ decimal l.explicit_max
  need : d ≡ need_word l.need
  period_within : l.period ≤ SPAN_MAX
  max_ttl_within : l.max_ttl ≤ SPAN_MAX
  explicit_max_within : l.explicit_max ≤ SPAN_MAX
  is_need : IsNeed l.need

limits_only : (a b c d : List ℕ) (l : Limits) → limits_of a b c d ≡ Some l → AreLimits a b c d l
unfolding limits_of
limits_only a b c d l e =
    let p = bound (number_up_to SPAN_MAX a) _ l e in
    let m = bound (number_up_to SPAN_MAX b) _ l p.2 in
    let x = bound (number_up_to SPAN_MAX c) _ l m.2 in
    let u = bound (need_in_word d) _ l x.2 in
    let period = number_spelled SPAN_MAX (omega arith) a p.0 p.1 in
    let max_ttl = number_spelled SPAN_MAX (omega arith) b m.0 m.1 in
    let explicit_max = number_spelled SPAN_MAX (omega arith) c x.0 x.1 in
    let need = need_only d u.0 u.1 in
    subst (AreLimits a b c d) (some_same _ l u.2) (record {
      period = period.0;
      max_ttl = max_ttl.0;
      explicit_max = explicit_max.0;
      need = need.0;
      period_within = period.1;
      max_ttl_within = max_ttl.1;
      explicit_max_within = explicit_max.1;
      is_need = need.1;
    })

-- ---- plain words

number_is_plain : (n : ℕ) → n < 2 ^ 64 → IsPlain (decimal n)
number_is_plain n h = record { spaces = decimal_lacks 32 (inl (omega arith)) n h; feeds = decimal_lacks 10 (inl (omega arith)) n h }

kind_is_plain : (k : Kind) → IsPlain (kind_word k)
kind_is_plain Token = record { spaces = refl; feeds = refl }
kind_is_plain Lease = record { spaces = refl; feeds = refl }

told_is_plain : (b : Bool) → IsPlain (told_word b)
told_is_plain true = record { spaces = refl; feeds = refl }
told_is_plain false = record { spaces = refl; feeds = refl }

renewable_is_plain : (b : Bool) → IsPlain (renewable_word b)
renewable_is_plain true = record { spaces = refl; feeds = refl }
renewable_is_plain false = record { spaces = refl; feeds = refl }

parent_is_plain : (p : Option (List ℕ)) → IfSome p (λ n. is_name n ≡ true) → IsPlain (name_word p)
parent_is_plain None h = record { spaces = refl; feeds = refl }
parent_is_plain (Some n) h = name_is_plain n h

increment_is_plain : (o : Option ℕ) → IfSome o (λ n. n ≤ SPAN_MAX) → IsPlain (number_word o)
increment_is_plain None h = record { spaces = refl; feeds = refl }
increment_is_plain (Some n) h = number_is_plain n (omega (arith, h))

who_is_plain : (r : Row) → IsRow r → ArePlain (who_words r)
who_is_plain r h = (kind_is_plain r.kind, (name_is_plain r.name h.name, (parent_is_plain r.parent h.parent, (told_is_plain r.is_told, tt))))

life_is_plain : (r : Row) → IsRow r → ArePlain (life_words r)
life_is_plain r h =
    let issued = h.issued in
    let ends = h.end in
    (number_is_plain r.terms.issued (omega (arith, issued)), (number_is_plain r.end (omega (arith, ends)), (renewable_is_plain r.renewable, (increment_is_plain r.terms.increment h.increment, tt))))

terms_are_plain : (r : Row) → IsRow r → ArePlain (terms_words r)
terms_are_plain r h =
    let period = h.period in
    let max_ttl = h.max_ttl in
    let explicit_max = h.explicit_max in
    (number_is_plain r.terms.period (omega (arith, period)), (number_is_plain r.terms.max_ttl (omega (arith, max_ttl)), (number_is_plain r.terms.explicit_max (omega (arith, explicit_max)), (need_is_plain r.need h.need, tt))))

-- ---- a row

plain_back : (r : Row) → IsRow r → row_of_words r.terms.reissued (plain_text r) ≡ Some r
unfolding row_of_words plain_text
plain_back r h =
    let who : Who = record { kind = r.kind; name = r.name; parent = r.parent; is_told = r.is_told } in
    let life : Life = record { issued = r.terms.issued; end = r.end; renewable = r.renewable; increment = r.terms.increment } in
    let limits : Limits = record { period = r.terms.period; max_ttl = r.terms.max_ttl; explicit_max = r.terms.explicit_max; need = r.need } in
    rw (
      four_back (kind_word r.kind) r.name (name_word r.parent) (told_word r.is_told) (spaced (life_words r) ++ (spaced (terms_words r) ++ (r.credential ++ file_end r.file))) (who_is_plain r h),
      four_back (decimal r.terms.issued) (decimal r.end) (renewable_word r.renewable) (number_word r.terms.increment) (spaced (terms_words r) ++ (r.credential ++ file_end r.file)) (life_is_plain r h),
      four_back (decimal r.terms.period) (decimal r.terms.max_ttl) (decimal r.terms.explicit_max) (need_word r.need) (r.credential ++ file_end r.file) (terms_are_plain r h),
      who_back who h.name h.parent,
      life_back life h.issued h.end h.increment,
      limits_back limits h.period h.max_ttl h.explicit_max h.need,
      sent_back r.credential r.file h.credential (word_is_plain r.credential h.credential).spaces h.file,
    )
    (cond-true (is_written r) (Some r) None h.written)

same_four : (a b c d w x y z : List ℕ) → a ≡ w → b ≡ x → c ≡ y → d ≡ z → spaced (a ∷ b ∷ c ∷ d ∷ []) ≡ spaced (w ∷ x ∷ y ∷ z ∷ [])
same_four a b c d w x y z e f g h =
    ap (λ l. spaced (l ∷ b ∷ c ∷ d ∷ [])) e ∙ ap (λ l. spaced (w ∷ l ∷ c ∷ d ∷ [])) f ∙ ap (λ l. spaced (w ∷ x ∷ l ∷ d ∷ [])) g ∙ ap (λ l. spaced (w ∷ x ∷ y ∷ l ∷ [])) h

abbrev Written : Bool → List ℕ → Row → Type 0
Written reissued line r = IsRow r × (line ≡ plain_text r) × (r.terms.reissued ≡ reissued)

plain_only : (reissued : Bool) (line : List ℕ) (r : Row) → row_of_words reissued line ≡ Some r → Written reissued line r
unfolding row_of_words plain_text
plain_only reissued line r e =
    let a = bound (four_and_rest line) _ r e in
    let b = bound (four_and_rest a.0.4) _ r a.2 in
    let c = bound (four_and_rest b.0.4) _ r b.2 in
    let w = bound (who_of a.0.0 a.0.1 a.0.2 a.0.3) _ r c.2 in
    let l = bound (life_of b.0.0 b.0.1 b.0.2 b.0.3) _ r w.2 in
    let m = bound (limits_of c.0.0 c.0.1 c.0.2 c.0.3) _ r l.2 in
    let s = bound (sent_of c.0.4) _ r m.2 in
    let row : Row = row_with reissued w.0 l.0 m.0 s.0 in
    let p = passed (is_written row) (Some row) r s.2 in
    let who = who_only a.0.0 a.0.1 a.0.2 a.0.3 w.0 w.1 in
    let life = life_only b.0.0 b.0.1 b.0.2 b.0.3 l.0 l.1 in
    let limits = limits_only c.0.0 c.0.1 c.0.2 c.0.3 m.0 m.1 in
    let sent = sent_only c.0.4 s.0 s.1 in
    let first : spaced (a.0.0 ∷ a.0.1 ∷ a.0.2 ∷ a.0.3 ∷ []) ≡ spaced (who_words row) = same_four a.0.0 a.0.1 a.0.2 a.0.3 (kind_word row.kind) row.name (name_word row.parent) (told_word row.is_told) who.kind who.name who.parent who.told in
    let second : spaced (b.0.0 ∷ b.0.1 ∷ b.0.2 ∷ b.0.3 ∷ []) ≡ spaced (life_words row) = same_four b.0.0 b.0.1 b.0.2 b.0.3 (decimal row.terms.issued) (decimal row.end) (renewable_word row.renewable) (number_word row.terms.increment) life.issued life.end life.renewable life.increment in
    let third : spaced (c.0.0 ∷ c.0.1 ∷ c.0.2 ∷ c.0.3 ∷ []) ≡ spaced (terms_words row) = same_four c.0.0 c.0.1 c.0.2 c.0.3 (decimal row.terms.period) (decimal row.terms.max_ttl) (decimal row.terms.explicit_max) (need_word row.need) limits.period limits.max_ttl limits.explicit_max limits.need in
    let spelled : line ≡ plain_text row =
    four_only line a.0 a.1 ∙ ap (λ l. spaced (a.0.0 ∷ a.0.1 ∷ a.0.2 ∷ a.0.3 ∷ []) ++ l) (four_only a.0.4 b.0 b.1
    ∙ ap (λ l. spaced (b.0.0 ∷ b.0.1 ∷ b.0.2 ∷ b.0.3 ∷ []) ++ l) (four_only b.0.4 c.0 c.1
    ∙ ap (λ l. spaced (c.0.0 ∷ c.0.1 ∷ c.0.2 ∷ c.0.3 ∷ []) ++ l) sent.spelled))
    ∙ ap (λ l. l ++ (spaced (b.0.0 ∷ b.0.1 ∷ b.0.2 ∷ b.0.3 ∷ []) ++ (spaced (c.0.0 ∷ c.0.1 ∷ c.0.2 ∷ c.0.3 ∷ []) ++ (row.credential ++ file_end row.file)))) first
    ∙ ap (λ l. spaced (who_words row) ++ (l ++ (spaced (c.0.0 ∷ c.0.1 ∷ c.0.2 ∷ c.0.3 ∷ []) ++ (row.credential ++ file_end row.file)))) second
    ∙ ap (λ l. spaced (who_words row) ++ (spaced (life_words row) ++ (l ++ (row.credential ++ file_end row.file)))) third in
    subst (Written reissued line) (some_same row r p.1) (
      record {
        name = who.named;
        parent = who.over;
        issued = life.issued_within;
        end = life.end_within;
        increment = life.increment_within;
        period = limits.period_within;
        max_ttl = limits.max_ttl_within;
        explicit_max = limits.explicit_max_within;
        need = limits.is_need;
        credential = sent.word;
        file = sent.file;
        written = p.0;
      },
      spelled,
      refl,
    )

-- ---- the mark

no_mark : (k : Kind) → bytes_eq (kind_word k) (codes "reissued") ≡ false
no_mark Token = refl
no_mark Lease = refl

plain_cut : (r : Row) → (w : List ℕ) × (one_and_rest (plain_text r) ≡ Some (kind_word r.kind, w))
unfolding plain_text
plain_cut r =
    let rest = spaced (life_words r) ++ (spaced (terms_words r) ++ (r.credential ++ file_end r.file)) in
    (_, ap one_and_rest (led_is (who_words r) rest) ∙ cut_back (kind_word r.kind) _ (kind_is_plain r.kind).spaces)

marked_back : (r : Row) → IsRow r → (b : Bool) → r.terms.reissued ≡ b → row_of_line (mark_text b ++ plain_text r) ≡ Some r
unfolding row_of_line
marked_back r h true e = rw (cut_back (codes "reissued") (plain_text r) refl) (ap (λ b. row_of_words b (plain_text r)) (sym e) ∙ plain_back r h)
marked_back r h false e =
    let parts = plain_cut r in
    rw (parts.1) (cond-false (bytes_eq (kind_word r.kind) (codes "reissued")) _ _ (no_mark r.kind) ∙ ap (λ b. row_of_words b (plain_text r)) (sym e) ∙ plain_back r h)

pub row_back : (r : Row) → IsRow r → row_of_line (row_text r) ≡ Some r
unfolding row_text
row_back r h = marked_back r h r.terms.reissued refl

pub row_only : (line : List ℕ) (r : Row) → row_of_line line ≡ Some r → IsRow r × (line ≡ row_text r)
unfolding row_of_line row_text
row_only line r e =
    let w = bound (one_and_rest line) _ r e in
    elim (branch (bytes_eq w.0.0 (codes "reissued")) (row_of_words true w.0.1) (row_of_words false line) r w.2) [
      | inl q ↦
          let p = plain_only true w.0.1 r q.1 in
          (p.0, cut_only line w.0.0 w.0.1 w.1 ∙ ap (λ l. l ++ 32 ∷ w.0.1) ((bytes_decides w.0.0 (codes "reissued")).0 q.0) ∙ ap (λ l. codes "reissued " ++ l) p.1 ∙ ap (λ b. mark_text b ++ plain_text r) (sym p.2))
      | inr f ↦ let p = plain_only false line r f in (p.0, p.1 ∙ ap (λ b. mark_text b ++ plain_text r) (sym p.2))
    ]

-- ---- one line

spaced_lacks : (ws : List (List ℕ)) → ArePlain ws → Lacks 10 (spaced ws)
spaced_lacks [] h = refl
spaced_lacks (w ∷ ws) h = lacks_append 10 w (32 ∷ spaced ws) h.0.feeds (spaced_lacks ws h.1)

abbrev is_path_byte : ℕ → Bool
is_path_byte b = nat_le 0x20 b && not (b == 0x7F)

file_lacks : (f : Option (List ℕ)) → IfSome f (λ path. is_file path ≡ true) → Lacks 10 (file_end f)
unfolding is_file is_path
file_lacks None h = refl
file_lacks (Some path) h =
    let control = (and_parts _ _ (and_parts _ _ (and_parts _ _ h).0).1).1 in
    each_weaker is_path_byte (λ x. not (x == 10)) (byte_is_not is_path_byte 10 refl) path control

plain_lacks : (r : Row) → IsRow r → Lacks 10 (plain_text r)
unfolding plain_text
plain_lacks r h =
    lacks_append 10 (spaced (who_words r)) _ (spaced_lacks (who_words r) (who_is_plain r h))
    (lacks_append 10 (spaced (life_words r)) _ (spaced_lacks (life_words r) (life_is_plain r h))
    (lacks_append 10 (spaced (terms_words r)) _ (spaced_lacks (terms_words r) (terms_are_plain r h))
    (lacks_append 10 r.credential (file_end r.file) (word_is_plain r.credential h.credential).feeds (file_lacks r.file h.file))))

mark_lacks : (b : Bool) → Lacks 10 (mark_text b)
mark_lacks true = refl
mark_lacks false = refl

pub row_lacks : (r : Row) → IsRow r → Lacks 10 (row_text r)
unfolding row_text
row_lacks r h = lacks_append 10 (mark_text r.terms.reissued) (plain_text r) (mark_lacks r.terms.reissued) (plain_lacks r h)
