-- Reaching: what binds an entry by its parent, and the lines of `reach` one by one; and that they are told by the forest.
use Rattle.std.proofs.Common.{◌≡◌, ◌∙◌, ℕ, zero, suc, ◌+◌, ◌++◌, Bool, true, false, List, Option, Some, None, length, max, refl, sym, ap, subst, arith, inl, inr}
use Rattle.std.proofs.lemmas.List.{append_assoc}
use Rattle.base_moment.proofs.Moments.{one_date_text}
use Rattle.plan_forest.specs.declared.entry.Entry.{Entry}
use Rattle.plan_forest.specs.Forest.{Forest, end_of, entry_at}
use Rattle.plan_forest.proofs.Chains.{ParentsFirst, chain_child, chain_root}
use Rattle.plan_rule.specs.Reach.{reach}
use Rattle.plan_commands.specs.{declared.bound.Bound.Bound, EndsText.keeps_line}
use Rattle.plan_commands.specs.ReachText.{AreReachLines, IsMomentWord, IsNeedWord, IsReachLine, IsReachText, IsUntilWord, OneReachText, SaysWhetherKept, binding, binding_reach, column, columns, head, is_short, nearer, short_at, widest, word_line}

-- ---- what binds an entry

pub bound_root : (g : Forest) (s i : ℕ) → (entry_at g.entries i).parent ≡ None → binding_reach g s i ≡ record { most = reach g.entries g.margin s (end_of g.entries) i; by = i }
unfolding binding_reach
bound_root g s i root = ap (binding (reach g.entries g.margin s (end_of g.entries))) (chain_root g.entries i root)

pub bound_child : (g : Forest) (s i p : ℕ) → ParentsFirst g.entries → (entry_at g.entries i).parent ≡ Some p →
    binding_reach g s i ≡ nearer (reach g.entries g.margin s (end_of g.entries) i) i (binding_reach g s p).most (binding_reach g s p).by
unfolding binding_reach
bound_child g s i p first child = ap (binding (reach g.entries g.margin s (end_of g.entries))) (chain_child g.entries i p first child)

abbrev made : Option ℕ → ℕ → Bound
made m by = record { most = m; by = by }

pub root_binds : (g : Forest) (s i : ℕ) (most : Option ℕ) → most ≡ reach g.entries g.margin s (end_of g.entries) i → (entry_at g.entries i).parent ≡ None → made most i ≡ binding_reach g s i
root_binds g s i most is root = ap (λ (m : Option ℕ). made m i) is ∙ sym (bound_root g s i root)

pub child_binds : (g : Forest) (s i p : ℕ) (most : Option ℕ) (over result : Bound) → ParentsFirst g.entries → (entry_at g.entries i).parent ≡ Some p →
    most ≡ reach g.entries g.margin s (end_of g.entries) i → over ≡ binding_reach g s p → result ≡ nearer most i over.most over.by → result ≡ binding_reach g s i
child_binds g s i p most over result first child is over_is made_is =
    made_is ∙ ap (λ (m : Option ℕ). nearer m i over.most over.by) is
    ∙ ap (λ (o : Bound). nearer (reach g.entries g.margin s (end_of g.entries) i) i o.most o.by) over_is ∙ sym (bound_child g s i p first child)

-- ---- columns

pub widest_none : (es : List Entry) → widest es 0 ≡ 4
unfolding widest
widest_none es = refl

pub widest_more : (es : List Entry) (n : ℕ) → widest es (n + 1) ≡ max (widest es n) (length (entry_at es n).name)
unfolding widest
widest_more es n = let next : n + 1 ≡ suc n = omega arith in ap (widest es) next

pub in_columns : (width : ℕ) (a b c d x1 x2 x3 x4 x5 : List ℕ) → x2 ≡ x1 ++ column width a → x3 ≡ x2 ++ column 20 b → x4 ≡ x3 ++ column width c → x5 ≡ x4 ++ d →
    x5 ≡ x1 ++ columns width a b c d
unfolding columns
in_columns width a b c d x1 x2 x3 x4 x5 e2 e3 e4 e5 =
    let front = x1 ++ column width a in
    e5 ∙ ap (λ x. x ++ d) (e4 ∙ ap (λ x. x ++ column width c) (e3 ∙ ap (λ x. x ++ column 20 b) e2))
    ∙ append_assoc (front ++ column 20 b) (column width c) d ∙ append_assoc front (column 20 b) (column width c ++ d)
    ∙ append_assoc x1 (column width a) (column 20 b ++ (column width c ++ d))

-- ---- the line of an entry

pub line_of : (g : Forest) (s : ℕ) (dates : Bool) (width i : ℕ) (b : Bound) (name until by need line : List ℕ) (needed needed' : ℕ) (short : Bool) →
    width ≡ widest g.entries (length g.entries) → b ≡ binding_reach g s i → name ≡ (entry_at g.entries i).name →
    by ≡ (entry_at g.entries b.by).name → needed ≡ (entry_at g.entries i).need → IsUntilWord dates b.most until → IsNeedWord dates needed need →
    needed' ≡ (entry_at g.entries i).need → short ≡ is_short s b.most needed' → line ≡ word_line dates width short name until by need → IsReachLine g s dates i line
line_of g s dates width i b name until by need line needed needed' short wide binds named by_named is_needed is_until is_need is_needed' is_short' spelled =
    let same_short : short ≡ short_at g s i = is_short' ∙ ap (is_short s b.most) is_needed' ∙ ap (λ (x : Bound). is_short s x.most (entry_at g.entries i).need) binds in
    record {
      until = until;
      is_until = subst (λ (x : Bound). IsUntilWord dates x.most until) binds is_until;
      need = need;
      is_need = subst (λ n. IsNeedWord dates n need) is_needed is_need;
      spelled = spelled ∙ ap (λ w. word_line dates w short name until by need) wide ∙ ap (λ b. word_line dates (widest g.entries (length g.entries)) b name until by need) same_short
          ∙ ap (λ n. word_line dates (widest g.entries (length g.entries)) (short_at g s i) n until by need) named
          ∙ ap (λ n. word_line dates (widest g.entries (length g.entries)) (short_at g s i) (entry_at g.entries i).name until n need) (by_named ∙ ap (λ (x : Bound). (entry_at g.entries x.by).name) binds);
    }

-- ---- one line more

pub lines_more : (g : Forest) (s : ℕ) (dates : Bool) (n : ℕ) (front line text : List ℕ) → AreReachLines g s dates n front → IsReachLine g s dates n line → text ≡ front ++ line → AreReachLines g s dates (n + 1) text
lines_more g s dates n front line text before here is =
    let next : suc n ≡ n + 1 = omega arith in
    subst (λ k. AreReachLines g s dates k text) next (front, line, before, here, is)

-- ---- the whole text

pub text_of : (g : Forest) (s : ℕ) (dates : Bool) (width : ℕ) (lines text : List ℕ) (kept : Bool) → width ≡ widest g.entries (length g.entries) →
    AreReachLines g s dates (length g.entries) lines → SaysWhetherKept g s kept → text ≡ head dates width ++ (lines ++ keeps_line kept) → IsReachText g s dates text
text_of g s dates width lines text kept wide are_lines judged spelled = record {
  lines = lines;
  are_lines = are_lines;
  kept = kept;
  judged = judged;
  spelled = spelled ∙ ap (λ w. head dates w ++ (lines ++ keeps_line kept)) wide;
}

-- ---- one text

pub one_moment : (dates : Bool) (n : ℕ) (a b : List ℕ) → IsMomentWord dates n a → IsMomentWord dates n b → a ≡ b
one_moment false n a b x y = x ∙ sym y
one_moment true n a b (inl x) (inl y) = one_date_text a b n x.1 y.1
one_moment true n a b (inr x) (inr y) = x.1 ∙ sym y.1
one_moment true n a b (inl x) (inr y) = absurd (let low = x.0 in let high = y.0 in omega (arith, low, high))
one_moment true n a b (inr x) (inl y) = absurd (let low = y.0 in let high = x.0 in omega (arith, low, high))

one_until : (dates : Bool) (most : Option ℕ) (a b : List ℕ) → IsUntilWord dates most a → IsUntilWord dates most b → a ≡ b
one_until dates None a b x y = x ∙ sym y
one_until dates (Some most) a b x y = one_moment dates most a b x y

one_need : (dates : Bool) (need : ℕ) (a b : List ℕ) → IsNeedWord dates need a → IsNeedWord dates need b → a ≡ b
one_need dates zero a b x y = x ∙ sym y
one_need dates (suc n) a b x y = one_moment dates (suc n) a b x y

module _ (g : Forest) (s : ℕ) (dates : Bool) where
  one_line : (i : ℕ) (line other : List ℕ) → IsReachLine g s dates i line → IsReachLine g s dates i other → line ≡ other
  one_line i line other a b =
      let until = one_until dates (binding_reach g s i).most a.until b.until a.is_until b.is_until in
      let need = one_need dates (entry_at g.entries i).need a.need b.need a.is_need b.is_need in
      let by = (entry_at g.entries (binding_reach g s i).by).name in
      let line : List ℕ → List ℕ → List ℕ = λ u n. word_line dates (widest g.entries (length g.entries)) (short_at g s i) (entry_at g.entries i).name u by n in
      a.spelled ∙ ap (λ u. line u a.need) until ∙ ap (line b.until) need ∙ sym b.spelled

  one_lines : (n : ℕ) (text other : List ℕ) → AreReachLines g s dates n text → AreReachLines g s dates n other → text ≡ other
  one_lines zero text other a b = a ∙ sym b
  one_lines (suc n) text other a b =
      a.4 ∙ ap (λ front. front ++ a.1) (one_lines n a.0 b.0 a.2 b.2) ∙ ap (λ line. b.0 ++ line) (one_line n a.1 b.1 a.3 b.3) ∙ sym b.4

  one_kept : (a b : Bool) → SaysWhetherKept g s a → SaysWhetherKept g s b → a ≡ b
  one_kept true false x y = absurd (y x.0 x.1.0 x.1.1)
  one_kept false true x y = absurd (x y.0 y.1.0 y.1.1)
  one_kept _ _ x y = refl

pub one_reach_text : OneReachText
one_reach_text g s dates text other a b =
    let first = head dates (widest g.entries (length g.entries)) in
    a.spelled ∙ ap (λ front. first ++ (front ++ keeps_line a.kept)) (one_lines g s dates _ a.lines b.lines a.are_lines b.are_lines)
    ∙ ap (λ kept. first ++ (b.lines ++ keeps_line kept)) (one_kept g s dates a.kept b.kept a.judged b.judged) ∙ sym b.spelled
