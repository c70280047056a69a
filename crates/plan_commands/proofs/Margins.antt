-- Margins: what `margin` writes is a function of the forest and the question; and from the parts of its text to the run.
use Rattle.std.proofs.Common.{◌≡◌, ◌∙◌, ℕ, ◌++◌, min, IfOk, List, MatchOption, Option, Some, None, Result, Ok, Err, refl, sym, ap, subst, arith, inl, inr}
use Rattle.std.specs.{Option.IsSome, Result.IfErr}
use Rattle.plan_forest.specs.{Carried.IsFrom, Forest.Forest, Forest.end_of, Push.IsForest}
use Rattle.plan_forest.proofs.Margins.{own_allowed}
use Rattle.plan_rule.specs.{declared.limit.TheConstants.LIMIT, Unkeepable.AllKeepable}
use Rattle.plan_schedule.proofs.Bridge.{one_from}
use Rattle.plan_search.specs.declared.decision.Decision.TheVariants as decision
use Rattle.plan_search.specs.{declared.pair.Shortfall.Shortfall, declared.widest.Widest.Widest, Shortfall.IsShortfall}
use Rattle.plan_search.specs.Decides.{NoneKeeps, PlanIsTooLong, SomeKeeps}
use Rattle.plan_search.specs.Widest.{IsFewest, IsWidest, NoneIsEnough}
use Rattle.plan_certificate.specs.CertificateText.{unkeepable_text}
use Rattle.plan_certificate.proofs.Printing.{decided_is_of}
use Rattle.program_report.specs.{declared.exit.Exit.Exit, declared.stop.Stop.Stop}
use Rattle.program_report.specs.declared.exit.Exit.TheVariants as exits
use Rattle.program_report.specs.declared.stop.Stop.TheVariants as stops
use Rattle.plan_commands.specs.{declared.margin.MarginQuery.MarginQuery, declared.outcome.Outcome.Outcome, code.Making.MakesOf}
use Rattle.plan_commands.specs.code.MarginMaking.{HaltsFrom, IsPair, IsRefusal, TextsFrom}
use Rattle.plan_commands.specs.MarginRun.{HasNoCount, MarginHalts, MarginTexts}
use Rattle.plan_commands.specs.MarginText.{AreOwnAndWidest, IsMarginText, IsNoMargin, IsNone, IsPairLine, IsWidestLine, OneMarginText, asked_about, margin_line, with_least}

-- ---- the pair that no plan keeps

pub pair_found : (g : Forest) (s entry needed : ℕ) → IsForest g → IsShortfall g s entry needed → NoneKeeps g s → IsPair g s entry needed
pair_found g s entry needed forest short none =
    let within = decided_is_of g s (decision.Unkeepable entry needed) forest (short, none) in
    record { short = short; none = none; entry_in = within.0; needed_in = within.1 }

-- the pair that was found, or none
pub pair_matched : (g : Forest) (s : ℕ) (found : Option Shortfall) → IsForest g → MatchOption found (AllKeepable g s (end_of g.entries)) (λ p. IsShortfall g s p.entry p.needed) →
    MatchOption found (SomeKeeps g s) (λ p. NoneKeeps g s) → MatchOption found (SomeKeeps g s) (λ p. IsPair g s p.entry p.needed)
pair_matched g s None forest all some = some
pair_matched g s (Some p) forest short none = pair_found g s p.entry p.needed forest short none

-- ---- the text of each question

-- a text that is so where it is another that is
no_margin_else : (g : Forest) (s : ℕ) (Other : List ℕ → Type 0) (other text : List ℕ) → Other other → IsNoMargin g s (λ t. t ≡ other) text → IsNoMargin g s Other text
no_margin_else g s Other other text is (inl pair) = inl pair
no_margin_else g s Other other text is (inr some) = inr (some.0, subst Other (sym some.1) is)

pub none_refused : (g : Forest) (s most : ℕ) (other text : List ℕ) (exit : Exit) → NoneIsEnough g s (min most LIMIT) → IsNone other → IsRefusal g s other exit text → IsMarginText g s (Some most) exit text
none_refused g s most other text exit none spelled refusal =
    subst (λ (e : Exit). IsMarginText g s (Some most) e text) (sym refusal.0) (none, no_margin_else g s IsNone other text spelled refusal.1)

-- the own margin is enough for as many wake-ups as it takes
pub own_is_enough : (g : Forest) (s own : ℕ) → IsForest g → IsFewest g s own → NoneIsEnough g s own → ⊥
own_is_enough g s own forest fewest none = none g.margin (record { allowed = own_allowed g forest; keeps = fewest.some })

pub own_found : (g : Forest) (s own : ℕ) (found : Option Widest) → IsForest g → IsFewest g s own → MatchOption found (NoneIsEnough g s own) (λ w. IsWidest g s own w) → IsSome found
own_found g s own None forest fewest none = absurd (own_is_enough g s own forest fewest none)
own_found g s own (Some w) forest fewest widest = refl

pub none_makes : (g h : Forest) (s most n : ℕ) (found : Option Widest) (other : List ℕ) (made : Result Outcome Stop) → h ≡ g → n ≡ min most LIMIT → found ≡ None →
    MatchOption found (NoneIsEnough g s n) (λ w. IsWidest g s n w) → IsNone other → IfOk made (λ o. IsRefusal h s other o.exit o.text) → IfErr made (λ stop. stop ≡ stops.Memory) →
    MakesOf (TextsFrom s (Some most)) (HaltsFrom s (Some most)) g made
none_makes g h s most n found other (Ok outcome) same count is none spelled text memory =
    let there : NoneIsEnough g s n = subst (λ (o : Option Widest). MatchOption o (NoneIsEnough g s n) (λ w. IsWidest g s n w)) is none in
    none_refused g s most other outcome.text outcome.exit (subst (NoneIsEnough g s) count there) spelled (subst (λ (f : Forest). IsRefusal f s other outcome.exit outcome.text) same text)
none_makes g h s most n found other (Err stop) same count is none spelled text memory = subst (λ (x : Stop). MakesOf (TextsFrom s (Some most)) (HaltsFrom s (Some most)) g (Err x)) (sym memory) tt

-- ---- the run

pub asked_makes : (q : MarginQuery) (g : Forest) (made : Result Outcome Stop) → MakesOf (TextsFrom q.start q.most_wakes) (HaltsFrom q.start q.most_wakes) (asked_about q g) made → MakesOf (MarginTexts q) (MarginHalts q) g made
asked_makes q g (Ok outcome) makes = makes
asked_makes q g (Err stops.Memory) makes = tt
asked_makes q g (Err _) makes = makes

-- ---- one text

one_fewest : (g : Forest) (s a b : ℕ) → IsFewest g s a → IsFewest g s b → a ≡ b
one_fewest g s a b x y =
    let xs = x.some in
    let ys = y.some in
    let p = x.least ys.0 ys.1.0 ys.1.1.0 in
    let q = y.least xs.0 xs.1.0 xs.1.1.0 in
    let l = xs.1.1.1 in
    let m = ys.1.1.1 in
    omega (arith, p, q, l, m)

abbrev made_of : ℕ → ℕ → Widest
made_of margin wakes = record { margin = margin; wakes = wakes }

one_widest : (g : Forest) (s most : ℕ) (v w : Widest) → IsWidest g s most v → IsWidest g s most w → v ≡ w
one_widest g s most v w x y =
    let p = x.widest w.margin y.enough in
    let q = y.widest v.margin x.enough in
    let margin : v.margin ≡ w.margin = omega (arith, p, q) in
    let there : IsFewest (record g { margin = w.margin }) s v.wakes = subst (λ m. IsFewest (record g { margin = m }) s v.wakes) margin x.fewest in
    let wakes : v.wakes ≡ w.wakes = one_fewest (record g { margin = w.margin }) s v.wakes w.wakes there y.fewest in
    ap (λ m. made_of m v.wakes) margin ∙ ap (λ n. made_of w.margin n) wakes

one_own : (g : Forest) (s : ℕ) (text other : List ℕ) → AreOwnAndWidest g s text → AreOwnAndWidest g s other → text ≡ other
one_own g s text other a b =
    let own = one_fewest g s a.own b.own a.fewest b.fewest in
    let widest = one_widest g s b.own a.widest b.widest (subst (λ n. IsWidest g s n a.widest) own a.is_widest) b.is_widest in
    a.spelled ∙ ap (λ n. margin_line g.margin n ++ margin_line a.widest.margin a.widest.wakes) own
    ∙ ap (λ (w : Widest). margin_line g.margin b.own ++ margin_line w.margin w.wakes) widest ∙ sym b.spelled

one_line : (g : Forest) (s most : ℕ) (text other : List ℕ) → IsWidestLine g s most text → IsWidestLine g s most other → text ≡ other
one_line g s most text other a b =
    a.spelled ∙ ap (λ (w : Widest). margin_line w.margin w.wakes) (one_widest g s most a.widest b.widest a.is_widest b.is_widest) ∙ sym b.spelled

one_pair : (g : Forest) (s : ℕ) (text other : List ℕ) → IsPairLine g s text → IsPairLine g s other → text ≡ other
one_pair g s text other a b =
    let p = a.short.lowest b.entry b.needed b.short.pair in
    let q = b.short.lowest a.entry a.needed a.short.pair in
    let entry : a.entry ≡ b.entry = omega (arith, p, q) in
    let needed : a.needed ≡ b.needed = one_from g.entries s b.entry a.needed b.needed (subst (λ i. IsFrom g.entries s i a.needed) entry a.short.from) b.short.from in
    a.spelled ∙ ap (λ i. unkeepable_text g.entries i a.needed) entry ∙ ap (λ i. unkeepable_text g.entries b.entry i) needed ∙ sym b.spelled

pair_or_some : {X : Type 0} (g : Forest) (s : ℕ) (text : List ℕ) → IsPairLine g s text → SomeKeeps g s → X
pair_or_some g s text pair some = absurd (pair.none some.0 some.1.0 some.1.1)

one_no_margin : (g : Forest) (s : ℕ) (Other : List ℕ → Type 0) → ((t u : List ℕ) → Other t → Other u → t ≡ u) → (text other : List ℕ) → IsNoMargin g s Other text → IsNoMargin g s Other other → text ≡ other
one_no_margin g s Other one text other (inl a) (inl b) = one_pair (with_least g) s text other a b
one_no_margin g s Other one text other (inr a) (inr b) = one text other a.1 b.1
one_no_margin g s Other one text other (inl a) (inr b) = pair_or_some (with_least g) s text a b.0
one_no_margin g s Other one text other (inr a) (inl b) = pair_or_some (with_least g) s other b a.0

own_or_none : {X : Type 0} (g : Forest) (s : ℕ) (text : List ℕ) → AreOwnAndWidest g s text → NoneKeeps g s → X
own_or_none g s text own none = let some = own.fewest.some in absurd (none some.0 some.1.0 some.1.1.0)

widest_or_none : {X : Type 0} (g : Forest) (s most : ℕ) (text : List ℕ) → IsWidestLine g s most text → NoneIsEnough g s most → X
widest_or_none g s most text widest none = absurd (none widest.widest.margin widest.is_widest.enough)

-- a text of either exit comes with no other exit
abbrev IsDoneOrNot : Exit → (Type 0) → (Type 0) → Type 0
IsDoneOrNot exits.Done Done Not = Done
IsDoneOrNot exits.Unkeepable Done Not = Not
IsDoneOrNot exit Done Not = ⊥

by_exit : (g : Forest) (s : ℕ) (most : Option ℕ) (exit : Exit) (text : List ℕ) → IsMarginText g s most exit text → IsDoneOrNot exit (IsMarginText g s most exits.Done text) (IsMarginText g s most exits.Unkeepable text)
by_exit g s None exits.Done text is = is
by_exit g s (Some most) exits.Done text is = is
by_exit g s _ _ text is = is

one_done : (g : Forest) (s : ℕ) (most : Option ℕ) (text other : List ℕ) → IsMarginText g s most exits.Done text → IsMarginText g s most exits.Done other → text ≡ other
one_done g s None text other a b = one_own g s text other a b
one_done g s (Some most) text other a b = one_line g s (min most LIMIT) text other a b

one_refusal : (g : Forest) (s : ℕ) (most : Option ℕ) (text other : List ℕ) → IsMarginText g s most exits.Unkeepable text → IsMarginText g s most exits.Unkeepable other → text ≡ other
one_refusal g s None text other a b = one_no_margin g s (IsPairLine g s) (one_pair g s) text other a.1 b.1
one_refusal g s (Some most) text other a b = one_no_margin g s IsNone (λ t u x y. x ∙ sym y) text other a.1 b.1

done_or_refusal : {X : Type 0} (g : Forest) (s : ℕ) (most : Option ℕ) (text other : List ℕ) → IsMarginText g s most exits.Done text → IsMarginText g s most exits.Unkeepable other → X
done_or_refusal g s None text other a b = own_or_none g s text a b.0
done_or_refusal g s (Some most) text other a b = widest_or_none g s (min most LIMIT) text a b.0

module _ (g : Forest) (s : ℕ) (most : Option ℕ) where
  two_exits : (exit exit' : Exit) (text other : List ℕ) → IsDoneOrNot exit (IsMarginText g s most exits.Done text) (IsMarginText g s most exits.Unkeepable text) →
      IsDoneOrNot exit' (IsMarginText g s most exits.Done other) (IsMarginText g s most exits.Unkeepable other) → (exit ≡ exit') × (text ≡ other)
  two_exits exits.Done exits.Done text other a b = (refl, one_done g s most text other a b)
  two_exits exits.Unkeepable exits.Unkeepable text other a b = (refl, one_refusal g s most text other a b)
  two_exits exits.Done exits.Unkeepable text other a b = done_or_refusal g s most text other a b
  two_exits exits.Unkeepable exits.Done text other a b = done_or_refusal g s most other text b a
  two_exits exits.Done _ text other a b = absurd b
  two_exits exits.Unkeepable _ text other a b = absurd b
  two_exits _ exit' text other a b = absurd a

pub one_margin_text : OneMarginText
one_margin_text g s most exit exit' text other a b = two_exits g s most exit exit' text other (by_exit g s most exit text a) (by_exit g s most exit' other b)

-- ---- there is a text, or a reason for none

pub one_reason : (g : Forest) (s : ℕ) (most : Option ℕ) (x y : Stop) → HasNoCount g s most x → HasNoCount g s most y → x ≡ y
one_reason g s None x y a b = a.0 ∙ sym b.0
one_reason g s (Some most) x y a b = absurd a

long_or_own : {X : Type 0} (g : Forest) (s : ℕ) (text : List ℕ) → AreOwnAndWidest g s text → PlanIsTooLong g s → X
long_or_own g s text own long =
    let some = own.fewest.some in
    let more = long.long some.0 some.1.0 some.1.1.0 in
    let few = own.few in
    let l = some.1.1.1 in
    absurd (omega (arith, more, few, l))

apart_by_exit : (g : Forest) (s : ℕ) (exit : Exit) (text : List ℕ) → IsDoneOrNot exit (IsMarginText g s None exits.Done text) (IsMarginText g s None exits.Unkeepable text) → PlanIsTooLong g s → ⊥
apart_by_exit g s exits.Done text is long = long_or_own g s text is long
apart_by_exit g s exits.Unkeepable text is long = is.0 long.some.0 long.some.1.0 long.some.1.1
apart_by_exit g s _ text is long = is

pub text_or_reason : (g : Forest) (s : ℕ) (most : Option ℕ) (exit : Exit) (text : List ℕ) (stop : Stop) → IsMarginText g s most exit text → HasNoCount g s most stop → ⊥
text_or_reason g s None exit text stop is none = apart_by_exit g s exit text (by_exit g s None exit text is) none.1
text_or_reason g s (Some most) exit text stop is none = none
