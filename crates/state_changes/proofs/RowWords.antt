-- The words of a row: each is read as what it writes, and no other word is.
use Rattle.std.proofs.Common.{◌≡◌, ℕ, ◌≤◌, Bool, true, false, cond, ◌&&◌, List, ◌∷◌, ◌++◌, append-nil, Option, Some, None, option_map, bytes_eq, codes, decimal, IfSome, refl, sym, ap, ◌∙◌, subst, arith, ◌⊎◌, inl, inr}
use Rattle.std.proofs.lemmas.Bool.{and_from, and_parts, cond-true, cond-false}
use Rattle.std.specs.Cmp.Lexicographic.{bytes_decides}
use Rattle.base_words.specs.{Laws.Lacks, Numbers.is_spelled, Numbers.number_up_to}
use Rattle.base_words.proofs.Numbers.{number_back, number_spelled}
use Rattle.plan_forest.specs.{declared.entry.Kind.Kind, Push.is_name}
use Rattle.plan_forest.specs.declared.entry.Kind.TheVariants.{Token, Lease}
use Rattle.vault_inventory.specs.{declared.limits.TheConstants.SPAN_MAX, Kinds.kind_word}
use Rattle.state_changes.specs.declared.row_text.Sent.{Sent}
use Rattle.state_changes.specs.Words.{file_end, name_word, number_word, renewable_word, told_word}
use Rattle.state_changes.specs.RowText.{◌>>=◌, either, is_file, is_word, kind_of, name_or_star, one_and_rest, sent_alone, sent_beside, sent_of, span_or_star}
use Rattle.state_changes.proofs.Cuts.{cut_back, cut_only, not_cut}

pub some_same : {A : Type 0} (x y : A) → Some x ≡ Some y → x ≡ y
some_same x y e = cc

-- what stands where a test was passed
pub passed : {A : Type 0} (b : Bool) (x : Option A) (z : A) → cond b x None ≡ Some z → (b ≡ true) × (x ≡ Some z)
passed true x z e = (refl, e)
passed false x z e = cc

-- a test that is passed, or what comes after it
pub branch : {A : Type 0} (b : Bool) (x y : Option A) (z : A) → cond b x y ≡ Some z → ((b ≡ true) × (x ≡ Some z)) ⊎ (y ≡ Some z)
branch true x y z e = inl (refl, e)
branch false x y z e = inr e

-- what a step was made with
pub bound : {A B : Type 0} (o : Option A) (f : A → Option B) (z : B) → (o >>= f) ≡ Some z → (x : A) × (o ≡ Some x) × (f x ≡ Some z)
bound None f z e = cc
bound (Some x) f z e = (x, refl, e)

-- ---- kinds and flags

pub kind_back : (k : Kind) → kind_of (kind_word k) ≡ Some k
unfolding kind_of
kind_back Token = refl
kind_back Lease = refl

pub kind_only : (w : List ℕ) (k : Kind) → kind_of w ≡ Some k → w ≡ kind_word k
unfolding kind_of
kind_only w k e =
    elim (branch (bytes_eq w (codes "token")) (Some Token) _ k e) [
      | inl p ↦ (bytes_decides w (codes "token")).0 p.0 ∙ ap kind_word (some_same Token k p.1)
      | inr f ↦ let p = passed (bytes_eq w (codes "lease")) (Some Lease) k f in (bytes_decides w (codes "lease")).0 p.0 ∙ ap kind_word (some_same Lease k p.1)
    ]

either_only : (a b w : List ℕ) (t : Bool) → either a b w ≡ Some t → w ≡ cond t a b
unfolding either
either_only a b w t e =
    elim (branch (bytes_eq w a) (Some true) _ t e) [
      | inl p ↦ (bytes_decides w a).0 p.0 ∙ ap (λ x. cond x a b) (some_same true t p.1)
      | inr f ↦ let p = passed (bytes_eq w b) (Some false) t f in (bytes_decides w b).0 p.0 ∙ ap (λ x. cond x a b) (some_same false t p.1)
    ]

told_is : (b : Bool) → cond b (codes "told") (codes "open") ≡ told_word b
told_is true = refl
told_is false = refl

renewable_is : (b : Bool) → cond b (codes "renewable") (codes "fixed") ≡ renewable_word b
renewable_is true = refl
renewable_is false = refl

pub told_back : (b : Bool) → either (codes "told") (codes "open") (told_word b) ≡ Some b
unfolding either
told_back true = refl
told_back false = refl

pub told_only : (w : List ℕ) (b : Bool) → either (codes "told") (codes "open") w ≡ Some b → w ≡ told_word b
told_only w b e = either_only (codes "told") (codes "open") w b e ∙ told_is b

pub renewable_back : (b : Bool) → either (codes "renewable") (codes "fixed") (renewable_word b) ≡ Some b
unfolding either
renewable_back true = refl
renewable_back false = refl

pub renewable_only : (w : List ℕ) (b : Bool) → either (codes "renewable") (codes "fixed") w ≡ Some b → w ≡ renewable_word b
renewable_only w b e = either_only (codes "renewable") (codes "fixed") w b e ∙ renewable_is b

-- ---- names, numbers, and the star

no_star : (name : List ℕ) → is_name name ≡ true → (b : Bool) → bytes_eq name (codes "*") ≡ b → b ≡ false
unfolding is_name
no_star name h false e = refl
no_star name h true e =
    let same : name ≡ codes "*" = (bytes_decides name (codes "*")).0 e in
    let none : is_name (codes "*") ≡ false = refl in
    let both : true ≡ false = sym h ∙ ap is_name same ∙ none in
    cc

pub name_or_star_back : (p : Option (List ℕ)) → IfSome p (λ n. is_name n ≡ true) → name_or_star (name_word p) ≡ Some p
unfolding name_or_star
name_or_star_back None h = refl
name_or_star_back (Some n) h =
    cond-false (bytes_eq n (codes "*")) (Some None) (cond (is_name n) (Some (Some n)) None) (no_star n h (bytes_eq n (codes "*")) refl)
    ∙ cond-true (is_name n) (Some (Some n)) None h

abbrev IsNameWord : List ℕ → Option (List ℕ) → Type 0
IsNameWord w p = (w ≡ name_word p) × IfSome p (λ n. is_name n ≡ true)

pub name_or_star_only : (w : List ℕ) (p : Option (List ℕ)) → name_or_star w ≡ Some p → (w ≡ name_word p) × IfSome p (λ n. is_name n ≡ true)
unfolding name_or_star
name_or_star_only w p e =
    elim (branch (bytes_eq w (codes "*")) (Some None) _ p e) [
      | inl q ↦ subst (IsNameWord w) (some_same None p q.1) ((bytes_decides w (codes "*")).0 q.0, tt)
      | inr f ↦ let q = passed (is_name w) (Some (Some w)) p f in subst (IsNameWord w) (some_same (Some w) p q.1) (refl, q.0)
    ]

star_is_none : number_up_to SPAN_MAX (codes "*") ≡ None
unfolding number_up_to is_spelled
star_is_none = refl

number_no_star : (n : ℕ) → n ≤ SPAN_MAX → (b : Bool) → bytes_eq (decimal n) (codes "*") ≡ b → b ≡ false
number_no_star n h false e = refl
number_no_star n h true e =
    let same : decimal n ≡ codes "*" = (bytes_decides (decimal n) (codes "*")).0 e in
    let both : Some n ≡ None = sym (number_back SPAN_MAX (omega arith) n h) ∙ ap (number_up_to SPAN_MAX) same ∙ star_is_none in
    cc

pub span_or_star_back : (o : Option ℕ) → IfSome o (λ n. n ≤ SPAN_MAX) → span_or_star (number_word o) ≡ Some o
unfolding span_or_star
span_or_star_back None h = refl
span_or_star_back (Some n) h =
    cond-false (bytes_eq (decimal n) (codes "*")) (Some None) (option_map (λ k. Some k) (number_up_to SPAN_MAX (decimal n))) (number_no_star n h (bytes_eq (decimal n) (codes "*")) refl)
    ∙ ap (option_map (λ k. Some k)) (number_back SPAN_MAX (omega arith) n h)

abbrev IsNumberWord : List ℕ → Option ℕ → Type 0
IsNumberWord w o = (w ≡ number_word o) × IfSome o (λ n. n ≤ SPAN_MAX)

number_found : (w : List ℕ) (n o : Option ℕ) → number_up_to SPAN_MAX w ≡ n → option_map (λ k. Some k) n ≡ Some o → IsNumberWord w o
number_found w None o is e = cc
number_found w (Some k) o is e = subst (IsNumberWord w) (some_same (Some k) o e) (number_spelled SPAN_MAX (omega arith) w k is)

pub span_or_star_only : (w : List ℕ) (o : Option ℕ) → span_or_star w ≡ Some o → (w ≡ number_word o) × IfSome o (λ n. n ≤ SPAN_MAX)
unfolding span_or_star
span_or_star_only w o e =
    elim (branch (bytes_eq w (codes "*")) (Some None) _ o e) [
      | inl q ↦ subst (IsNumberWord w) (some_same None o q.1) ((bytes_decides w (codes "*")).0 q.0, tt)
      | inr f ↦ number_found w (number_up_to SPAN_MAX w) o refl f
    ]

-- ---- a credential, and the path of its file

pub sent_back : (c : List ℕ) (f : Option (List ℕ)) → is_word c ≡ true → Lacks 32 c → IfSome f (λ path. is_file path ≡ true) → sent_of (c ++ file_end f) ≡ Some (record { credential = c; file = f })
unfolding sent_of
sent_back c None word plain h =
    ap sent_of (append-nil c) ∙ ap (λ (o : Option (List ℕ × List ℕ)). elim o [ None ↦ sent_alone c | Some w ↦ sent_beside w.0 w.1 ]) (not_cut c plain) ∙ cond-true (is_word c) _ None word
sent_back c (Some path) word plain h =
    ap (λ (o : Option (List ℕ × List ℕ)). elim o [ None ↦ sent_alone (c ++ 32 ∷ path) | Some w ↦ sent_beside w.0 w.1 ]) (cut_back c path plain)
    ∙ cond-true (is_word c && is_file path) _ None (and_from (is_word c) (is_file path) word h)

-- what a text writes as
pub record IsSent (text : List ℕ) (s : Sent) : Type 0 where
  pub spelled : text ≡ s.credential ++ file_end s.file
  pub word : is_word s.credential ≡ true
  pub file : IfSome s.file (λ path. is_file path ≡ true)

sent_by : (text : List ℕ) (o : Option (List ℕ × List ℕ)) (s : Sent) → one_and_rest text ≡ o → elim o [ None ↦ sent_alone text | Some w ↦ sent_beside w.0 w.1 ] ≡ Some s → IsSent text s
sent_by text None s is e =
    let p = passed (is_word text) _ s e in
    subst (IsSent text) (some_same _ s p.1) (record { spelled = sym (append-nil text); word = p.0; file = tt })
sent_by text (Some w) s is e =
    let p = passed (is_word w.0 && is_file w.1) _ s e in
    let q = and_parts (is_word w.0) (is_file w.1) p.0 in
    subst (IsSent text) (some_same _ s p.1) (record { spelled = cut_only text w.0 w.1 is; word = q.0; file = q.1 })

pub sent_only : (text : List ℕ) (s : Sent) → sent_of text ≡ Some s → IsSent text s
unfolding sent_of
sent_only text s e = sent_by text (one_and_rest text) s refl e
