-- The order of answers: a history of answers leads to a state that the answers alone decide, entry by entry.
use Rattle.std.proofs.Common.{◌≡◌, ◌≢◌, ◌==◌, ℕ, ◌<◌, ◌⊎◌, ◌||◌, Bool, true, false, cond, not, List, [], ◌∷◌, Option, Some, None, Result, Ok, Err, filter, is_none, length, map, nat_lt, refl, sym, ap, ◌∙◌, subst, arith, inl, inr}
use Rattle.std.proofs.lemmas.{Bool.Decides.nat_tests, List.length-set, List.FromFn.get_or-map-range_with_len, List.FromFn.length-map-range_with_len}
use Rattle.std.proofs.lemmas.Bool.{cases_eq, cases_lt, cond-true, cond-false}
use Rattle.std.proofs.Math.Path.{fun_ext}
use Rattle.std.specs.List.{list_any, range_with_len}
use Rattle.plan_forest.specs.declared.entry.Entry.{Entry}
use Rattle.plan_forest.specs.Forest.{Forest, end_of, entry_at, no_entry}
use Rattle.plan_forest.proofs.Entries.{entry_at_past, entry_at_set_other, entry_at_set_same}
use Rattle.plan_rule.proofs.Keeping.{one_least}
use Rattle.tick_keeper.specs.{declared.event.Event.Event, declared.event.Output.Output, declared.fault.StepFault.StepFault, declared.fault.StepFault.TheVariants.OutOfRange, declared.refusal.TheConstants.LONGEST, History.CoreHistory}
use Rattle.tick_keeper.specs.{Shorten.shorten, State.CoreState, State.Round}
use Rattle.tick_keeper.specs.declared.event.Event.TheVariants.{Tick, Told, Refused, Lost, Need}
use Rattle.tick_keeper.specs.LawsOfHistories.{AllTaken, IsAnswerEvent, answer_for}
use Rattle.tick_keeper.specs.Refusal.{step_refusal, unless_waited_for, waits_for}
use Rattle.tick_keeper.specs.Replan.{ReplanTooLong, Replan, state_planned}
use Rattle.tick_keeper.specs.Step.{CoreStep, StepAnswer, entry_after_answer, entry_of_event, left, state_after_answer, with_entry_changed, without_index}
use Rattle.tick_keeper.specs.declared.event.Output.TheVariants as out
use Rattle.tick_keeper.proofs.{Refusals.asked_parts, Refusals.first_none, Kept.same_entries}

abbrev pub AreAnswers : List Event → Type 0
AreAnswers [] = Unit {0}
AreAnswers (event ∷ events) = IsAnswerEvent event × AreAnswers events

-- what an answer, if there is one, makes of an entry
unfoldable pub applied : ℕ → Option Event → Entry → Entry
applied at None e = e
applied at (Some event) e = entry_after_answer at event e

-- the forest after these answers, entry by entry
unfoldable pub told : ℕ → (ℕ → Option Event) → Forest → Forest
told at ans g = record { entries = map (λ i. applied at (ans i) (entry_at g.entries i)) (range_with_len 0 (length g.entries)); margin = g.margin }

-- those who have no answer
unfoldable pub left_over : (ℕ → Option Event) → List ℕ → List ℕ
left_over ans us = filter (λ j. is_none (ans j)) us

-- the state that still waits, and the one that is planned anew
abbrev waiting : CoreState → Round → (ℕ → Option Event) → CoreState
waiting old round ans = record old { forest = told round.at ans old.forest; round = Some (record { at = round.at; unanswered = left_over ans round.unanswered }) }

abbrev closing : CoreState → Round → (ℕ → Option Event) → CoreState
closing old round ans = record old { forest = told round.at ans old.forest; round = None }

abbrev Waits : CoreState → Round → (ℕ → Option Event) → CoreState → Type 0
Waits old round ans new = (left_over ans round.unanswered ≢ []) × (new ≡ waiting old round ans)

abbrev Closes : CoreState → Round → (ℕ → Option Event) → CoreState → Type 0
Closes old round ans new = (left_over ans round.unanswered ≡ []) × Replan (closing old round ans) round.at new

-- where a history of answers leads; who is not unanswered has no answer
record Outcome (old : CoreState) (round : Round) (ans : ℕ → Option Event) (new : CoreState) : Type 0 where
  asked : (i : ℕ) → list_any (λ j. j == i) round.unanswered ≡ false → ans i ≡ None
  ends : Waits old round ans new ⊎ Closes old round ans new

-- lists without an element
not_there : (i : ℕ) (us : List ℕ) → list_any (λ j. j == i) (without_index i us) ≡ false
unfolding without_index
not_there i [] = refl
not_there i (u ∷ us) = by_test (u == i) refl (not_there i us) where
  by_test : (b : Bool) → (u == i) ≡ b → list_any (λ j. j == i) (filter (λ j. not (j == i)) us) ≡ false → list_any (λ j. j == i) (cond (not (u == i)) (u ∷ filter (λ j. not (j == i)) us) (filter (λ j. not (j == i)) us)) ≡ false
  by_test true is rest = ap (λ b. list_any (λ j. j == i) (cond (not b) (u ∷ filter (λ j. not (j == i)) us) (filter (λ j. not (j == i)) us))) is ∙ rest
  by_test false is rest = ap (λ b. list_any (λ j. j == i) (cond (not b) (u ∷ filter (λ j. not (j == i)) us) (filter (λ j. not (j == i)) us))) is
      ∙ ap (λ b. b || list_any (λ j. j == i) (filter (λ j. not (j == i)) us)) is ∙ rest

or_false_left : (a b : Bool) → a || b ≡ false → a ≡ false
or_false_left true b e = absurd cc
or_false_left false b e = refl

or_false_right : (a b : Bool) → a || b ≡ false → b ≡ false
or_false_right true b e = absurd cc
or_false_right false b e = e

pub none_within : (p : ℕ → Bool) (i : ℕ) (us : List ℕ) → list_any (λ j. j == i) us ≡ false → list_any (λ j. j == i) (filter p us) ≡ false
none_within p i [] none = refl
none_within p i (u ∷ us) none =
    let head = or_false_left (u == i) (list_any (λ j. j == i) us) none in
    let rest = none_within p i us (or_false_right (u == i) (list_any (λ j. j == i) us) none) in
    by_test (p u) head rest where
      by_test : (b : Bool) → (u == i) ≡ false → list_any (λ j. j == i) (filter p us) ≡ false → list_any (λ j. j == i) (cond b (u ∷ filter p us) (filter p us)) ≡ false
      by_test true head rest = ap (λ c. c || list_any (λ j. j == i) (filter p us)) head ∙ rest
      by_test false head rest = rest

answer_first : (event : Event) (rest : List Event) (j : ℕ) → answer_for (event ∷ rest) j ≡ cond (entry_of_event event == j) (Some event) (answer_for rest j)
unfolding answer_for
answer_first event rest j = refl

answer_none : (j : ℕ) → answer_for [] j ≡ None
unfolding answer_for
answer_none j = refl

-- who is left over after a first answer and others
left_more : (event : Event) (rest : List Event) (us : List ℕ) → left_over (answer_for (event ∷ rest)) us ≡ left_over (answer_for rest) (without_index (entry_of_event event) us)
unfolding left_over without_index answer_for
left_more event rest [] = refl
left_more event rest (u ∷ us) = elim (cases_eq u (entry_of_event event)) [
  | inl same ↦
      let i = entry_of_event event in
      let one : (i == u) ≡ true = grind (arith, nat_tests) in
      let other : (u == i) ≡ true = grind (arith, nat_tests) in
      let p : ℕ → Bool = λ j. is_none (cond (i == j) (Some event) (answer_for rest j)) in
      let q : ℕ → Bool = λ j. is_none (answer_for rest j) in
      let ws = filter (λ j. not (j == i)) us in
      ap (λ b. cond (is_none (cond b (Some event) (answer_for rest u))) (u ∷ filter p us) (filter p us)) one
      ∙ left_more event rest us
      ∙ sym (ap (λ b. filter q (cond (not b) (u ∷ ws) ws)) other)
  | inr apart ↦
      let i = entry_of_event event in
      let one : (i == u) ≡ false = grind (arith, nat_tests) in
      let other : (u == i) ≡ false = grind (arith, nat_tests) in
      let p : ℕ → Bool = λ j. is_none (cond (i == j) (Some event) (answer_for rest j)) in
      let q : ℕ → Bool = λ j. is_none (answer_for rest j) in
      let ws = filter (λ j. not (j == i)) us in
      ap (λ b. cond (is_none (cond b (Some event) (answer_for rest u))) (u ∷ filter p us) (filter p us)) one
      ∙ ap (λ xs. cond (q u) (u ∷ xs) xs) (left_more event rest us)
      ∙ sym (ap (λ b. filter q (cond (not b) (u ∷ ws) ws)) other)
]

left_none : (us : List ℕ) → left_over (answer_for []) us ≡ us
unfolding left_over answer_for
left_none [] = refl
left_none (u ∷ us) = ap (λ xs. u ∷ xs) (left_none us)

length_told : (at : ℕ) (ans : ℕ → Option Event) (g : Forest) → length (told at ans g).entries ≡ length g.entries
unfolding told
length_told at ans g = length-map-range_with_len (λ i. applied at (ans i) (entry_at g.entries i)) 0 (length g.entries)

told_at : (at : ℕ) (ans : ℕ → Option Event) (g : Forest) (i : ℕ) → i < length g.entries → entry_at (told at ans g).entries i ≡ applied at (ans i) (entry_at g.entries i)
unfolding told entry_at
told_at at ans g i within = get_or-map-range_with_len (λ k. applied at (ans k) (entry_at g.entries k)) 0 (length g.entries) i i no_entry within (omega arith)

told_margin : (at : ℕ) (ans : ℕ → Option Event) (g : Forest) → (told at ans g).margin ≡ g.margin
unfolding told
told_margin at ans g = refl

applied_none : (at : ℕ) (e : Entry) → applied at None e ≡ e
unfolding applied
applied_none at e = refl

applied_some : (at : ℕ) (event : Event) (e : Entry) → applied at (Some event) e ≡ entry_after_answer at event e
unfolding applied
applied_some at event e = refl

pub same_forest : (g h : Forest) → length g.entries ≡ length h.entries → g.margin ≡ h.margin → ((i : ℕ) → i < length g.entries → entry_at g.entries i ≡ entry_at h.entries i) → g ≡ h
same_forest g h count margin each =
    let entries = same_entries g.entries h.entries count (λ i. elim (cases_lt i (length g.entries)) [
      | inl within ↦ each i within
      | inr past ↦ entry_at_past g.entries i past ∙ sym (entry_at_past h.entries i (omega arith))
    ]) in
    ap (λ es. record { entries = es; margin = g.margin }) entries ∙ ap (λ m. record { entries = h.entries; margin = m }) margin

told_none : (at : ℕ) (g : Forest) → told at (answer_for []) g ≡ g
told_none at g = same_forest (told at (answer_for []) g) g (length_told at (answer_for []) g) (told_margin at (answer_for []) g)
    (λ i h. told_at at (answer_for []) g i (let l = length_told at (answer_for []) g in omega arith) ∙ ap (λ o. applied at o (entry_at g.entries i)) (answer_none i) ∙ applied_none at (entry_at g.entries i))

-- a first answer, and others to the round that it leaves
pub told_more :
    (at : ℕ) (event : Event) (rest : List Event) (g : Forest) → entry_of_event event < length g.entries → answer_for rest (entry_of_event event) ≡ None →
    told at (answer_for rest) (with_entry_changed g (entry_of_event event) (entry_after_answer at event)) ≡ told at (answer_for (event ∷ rest)) g
told_more at event rest g within once =
    let i = entry_of_event event in
    let e = entry_after_answer at event (entry_at g.entries i) in
    let h = with_entry_changed g i (entry_after_answer at event) in
    let size : length h.entries ≡ length g.entries = length-set g.entries i e in
    let one = length_told at (answer_for rest) h in
    let other = length_told at (answer_for (event ∷ rest)) g in
    same_forest (told at (answer_for rest) h) (told at (answer_for (event ∷ rest)) g) (omega arith) (told_margin at (answer_for rest) h ∙ sym (told_margin at (answer_for (event ∷ rest)) g))
    (λ k inside.
    let there : k < length g.entries = omega arith in
    told_at at (answer_for rest) h k (omega arith)
    ∙ elim (cases_eq k i) [
      | inl same ↦
          let hit : (i == k) ≡ true = grind (arith, nat_tests) in
          let none : answer_for rest k ≡ None = ap (answer_for rest) same ∙ once in
          let is : entry_at h.entries k ≡ e = ap (entry_at h.entries) same ∙ entry_at_set_same g.entries i e within in
          let first : answer_for (event ∷ rest) k ≡ Some event = answer_first event rest k ∙ cond-true (i == k) (Some event) (answer_for rest k) hit in
          ap (λ o. applied at o (entry_at h.entries k)) none ∙ applied_none at (entry_at h.entries k) ∙ is ∙ ap (λ n. entry_after_answer at event (entry_at g.entries n)) (sym same)
          ∙ sym (applied_some at event (entry_at g.entries k)) ∙ ap (λ o. applied at o (entry_at g.entries k)) (sym first)
      | inr apart ↦
          let miss : (i == k) ≡ false = grind (arith, nat_tests) in
          let first : answer_for (event ∷ rest) k ≡ answer_for rest k = answer_first event rest k ∙ cond-false (i == k) (Some event) (answer_for rest k) miss in
          ap (applied at (answer_for rest k)) (entry_at_set_other g.entries i k e apart) ∙ ap (λ o. applied at o (entry_at g.entries k)) (sym first)
    ]
    ∙ sym (told_at at (answer_for (event ∷ rest)) g k there))

never_asked : (s : CoreState) (i : ℕ) → s.round ≡ None → unless_waited_for s i ≡ None → ⊥
never_asked s i closed none =
    let waits = (asked_parts s i none).1 in
    let bad : false ≡ true = sym (ap (λ r. waits_for r i) closed) ∙ waits in absurd cc

taken : (s : CoreState) (event : Event) → IsAnswerEvent event → step_refusal s event ≡ None → unless_waited_for s (entry_of_event event) ≡ None
unfolding step_refusal
taken s (Told i seconds renewable) answer none = (first_none (nat_lt LONGEST seconds) OutOfRange (unless_waited_for s i) none).1
taken s (Refused i) answer none = none
taken s (Lost i) answer none = none
taken s _ answer none = absurd answer

pub step_taken : (old : CoreState) (event : Event) (output : Output) (new : CoreState) → IsAnswerEvent event → CoreStep old event output new → StepAnswer old event output new
step_taken old (Tick t) output new answer step = absurd answer
step_taken old (Need i until) output new answer step = absurd answer
step_taken old _ output new answer step = step

-- no answer is taken once the round is closed
closed_end : (s new : CoreState) (rest : List Event) (results : List (Result Output StepFault)) → s.round ≡ None → AreAnswers rest → AllTaken results → CoreHistory s rest results new → (rest ≡ []) × (new ≡ s)
closed_end s new [] [] closed answers well history = (refl, history)
closed_end s new [] (result ∷ results) closed answers well history = absurd history
closed_end s new (event ∷ rest) [] closed answers well history = absurd history
closed_end s new (event ∷ rest) (Ok output ∷ results) closed answers well history = absurd (never_asked s (entry_of_event event) closed (taken s event answers.0 history.1.0.0))
closed_end s new (event ∷ rest) (Err fault ∷ results) closed answers well history = absurd well

asked_more :
    (event : Event) (rest : List Event) (us : List ℕ) → list_any (λ j. j == entry_of_event event) us ≡ true → ((j : ℕ) → list_any (λ k. k == j) (without_index (entry_of_event event) us) ≡ false → answer_for rest j ≡ None) →
    (j : ℕ) → list_any (λ k. k == j) us ≡ false → answer_for (event ∷ rest) j ≡ None
unfolding without_index
asked_more event rest us there asked j none = elim (cases_eq (entry_of_event event) j) [
  | inl same ↦ absurd (let bad : true ≡ false = sym there ∙ ap (λ n. list_any (λ k. k == n) us) same ∙ none in cc)
  | inr apart ↦
      let miss : (entry_of_event event == j) ≡ false = grind (arith, nat_tests) in
      answer_first event rest j ∙ cond-false (entry_of_event event == j) (Some event) (answer_for rest j) miss ∙ asked j (none_within (λ k. not (k == entry_of_event event)) j us none)
]

-- the state that one answer closes, in words of the answers
one_closes : (old : CoreState) (round : Round) (event : Event) → entry_of_event event < length old.forest.entries → closing old round (answer_for (event ∷ [])) ≡ state_after_answer old event round.at None
one_closes old round event within =
    ap (λ g. record old { forest = g; round = None })
    (sym (told_more round.at event [] old.forest within (answer_none (entry_of_event event))) ∙ told_none round.at (with_entry_changed old.forest (entry_of_event event) (entry_after_answer round.at event)))

one_left : (event : Event) (us : List ℕ) → left_over (answer_for (event ∷ [])) us ≡ without_index (entry_of_event event) us
one_left event us = left_more event [] us ∙ left_none (without_index (entry_of_event event) us)

-- an answer before others
more_waits :
    (old : CoreState) (round : Round) (event : Event) (rest : List Event) → entry_of_event event < length old.forest.entries → answer_for rest (entry_of_event event) ≡ None →
    waiting (state_after_answer old event round.at (Some (left round (entry_of_event event)))) (left round (entry_of_event event)) (answer_for rest) ≡ waiting old round (answer_for (event ∷ rest))
more_waits old round event rest within once =
    ap (λ g. record old { forest = g; round = Some (record { at = round.at; unanswered = left_over (answer_for rest) (without_index (entry_of_event event) round.unanswered) }) }) (told_more round.at event rest old.forest within once)
    ∙ ap (λ us. record old { forest = told round.at (answer_for (event ∷ rest)) old.forest; round = Some (record { at = round.at; unanswered = us }) }) (sym (left_more event rest round.unanswered))

more_closes :
    (old : CoreState) (round : Round) (event : Event) (rest : List Event) → entry_of_event event < length old.forest.entries → answer_for rest (entry_of_event event) ≡ None →
    closing (state_after_answer old event round.at (Some (left round (entry_of_event event)))) (left round (entry_of_event event)) (answer_for rest) ≡ closing old round (answer_for (event ∷ rest))
more_closes old round event rest within once = ap (λ g. record old { forest = g; round = None }) (told_more round.at event rest old.forest within once)

one_more :
    (old new : CoreState) (round : Round) (event : Event) (rest : List Event) → entry_of_event event < length old.forest.entries → list_any (λ j. j == entry_of_event event) round.unanswered ≡ true →
    Outcome (state_after_answer old event round.at (Some (left round (entry_of_event event)))) (left round (entry_of_event event)) (answer_for rest) new → Outcome old round (answer_for (event ∷ rest)) new
one_more old new round event rest within there o =
    let once : answer_for rest (entry_of_event event) ≡ None = o.asked (entry_of_event event) (not_there (entry_of_event event) round.unanswered) in
    let same = left_more event rest round.unanswered in
    record {
      asked = asked_more event rest round.unanswered there o.asked;
      ends = elim o.ends [
        | inl waits ↦ inl (λ none. waits.0 (sym same ∙ none), waits.1 ∙ more_waits old round event rest within once)
        | inr closes ↦ inr (same ∙ closes.0, subst (λ (s : CoreState). Replan s round.at new) (more_closes old round event rest within once) closes.1)
      ];
    }

-- the last answer, which closes the round
last_closes :
    (old mid : CoreState) (round : Round) (event : Event) → entry_of_event event < length old.forest.entries → list_any (λ j. j == entry_of_event event) round.unanswered ≡ true →
    without_index (entry_of_event event) round.unanswered ≡ [] → Replan (state_after_answer old event round.at None) round.at mid → Outcome old round (answer_for (event ∷ [])) mid
last_closes old mid round event within there none replan = record {
  asked = asked_more event [] round.unanswered there (λ j _. answer_none j);
  ends = inr (one_left event round.unanswered ∙ none, subst (λ (s : CoreState). Replan s round.at mid) (sym (one_closes old round event within)) replan);
}

pub same_round : (old : CoreState) (r round : Round) → old.round ≡ Some r → old.round ≡ Some round → r ≡ round
same_round old r round a b = let both : Some r ≡ Some round = sym a ∙ b in cc

abbrev FromHere : List Event → List (Result Output StepFault) → CoreState → Type 0
FromHere rest results new =
    (s : CoreState) (r : Round) → s.round ≡ Some r → r.unanswered ≢ [] → CoreHistory s rest results new → Outcome s r (answer_for rest) new

step_outcome :
    (old mid new : CoreState) (round : Round) (event : Event) (rest : List Event) (output : Output) (results : List (Result Output StepFault)) → old.round ≡ Some round →
    unless_waited_for old (entry_of_event event) ≡ None → AreAnswers rest → AllTaken results → StepAnswer old event output mid → CoreHistory mid rest results new → FromHere rest results new →
    Outcome old round (answer_for (event ∷ rest)) new
step_outcome old mid new round event rest out.Waiting results is asked answers well step history onward =
    let parts = asked_parts old (entry_of_event event) asked in
    let there : list_any (λ j. j == entry_of_event event) round.unanswered ≡ true = sym (ap (λ r. waits_for r (entry_of_event event)) is) ∙ parts.1 in
    let r = same_round old step.0 round step.1.0 is in
    let some : without_index (entry_of_event event) round.unanswered ≢ [] = subst (λ (x : Round). without_index (entry_of_event event) x.unanswered ≢ []) r step.1.1.0 in
    let heard_is : mid ≡ state_after_answer old event round.at (Some (left round (entry_of_event event))) = subst (λ (x : Round). mid ≡ state_after_answer old event x.at (Some (left x (entry_of_event event)))) r step.1.1.1 in
    one_more old new round event rest parts.0 there
    (onward (state_after_answer old event round.at (Some (left round (entry_of_event event)))) (left round (entry_of_event event)) refl some (subst (λ s. CoreHistory s rest results new) heard_is history))
step_outcome old mid new round event rest (out.Round next) results is asked answers well step history onward =
    let parts = asked_parts old (entry_of_event event) asked in
    let there : list_any (λ j. j == entry_of_event event) round.unanswered ≡ true = sym (ap (λ r. waits_for r (entry_of_event event)) is) ∙ parts.1 in
    let r = same_round old step.0 round step.1.0 is in
    let none : without_index (entry_of_event event) round.unanswered ≡ [] = subst (λ (x : Round). without_index (entry_of_event event) x.unanswered ≡ []) r step.1.1.0 in
    let replan : Replan (state_after_answer old event round.at None) round.at mid = subst (λ (x : Round). Replan (state_after_answer old event x.at None) x.at mid) r step.1.1.1.0 in
    let closed : mid.round ≡ None = ap (λ (s : CoreState). s.round) replan.is in
    let end = closed_end mid new rest results closed answers well history in
    let here = last_closes old mid round event parts.0 there none replan in
    subst (λ s. Outcome old round (answer_for (event ∷ rest)) s) (sym end.1) (subst (λ es. Outcome old round (answer_for (event ∷ es)) mid) (sym end.0) here)
step_outcome old mid new round event rest _ results is asked answers well step history onward = absurd step

no_answers : (old new : CoreState) (round : Round) → old.round ≡ Some round → round.unanswered ≢ [] → new ≡ old → Outcome old round (answer_for []) new
no_answers old new round is some same = record {
  asked = λ i _. answer_none i;
  ends = inl (
    λ none. some (sym (left_none round.unanswered) ∙ none),
    same ∙ ap (λ r. record old { round = r }) is ∙ ap (λ g. record old { forest = g; round = Some round }) (sym (told_none round.at old.forest))
        ∙ ap (λ us. record old { forest = told round.at (answer_for []) old.forest; round = Some (record { at = round.at; unanswered = us }) }) (sym (left_none round.unanswered)),
  );
}

outcome :
    (events : List Event) (results : List (Result Output StepFault)) (old new : CoreState) (round : Round) → old.round ≡ Some round → round.unanswered ≢ [] → AreAnswers events → AllTaken results →
    CoreHistory old events results new → Outcome old round (answer_for events) new
outcome [] [] old new round is some answers well history = no_answers old new round is some history
outcome [] (result ∷ results) old new round is some answers well history = absurd history
outcome (event ∷ rest) [] old new round is some answers well history = absurd history
outcome (event ∷ rest) (Ok output ∷ results) old new round is some answers well history =
    let turn = history.1.0 in
    step_outcome old history.0 new round event rest output results is (taken old event answers.0 turn.0) answers.1 well (step_taken old event output history.0 answers.0 turn.1) history.1.1
    (λ s r open_here unanswered onward. outcome rest results s new r open_here unanswered answers.1 well onward)
outcome (event ∷ rest) (Err fault ∷ results) old new round is some answers well history = absurd well

-- planning anew gives one state
pub replan_once : (s : CoreState) (t : ℕ) (x y : CoreState) → Replan s t x → Replan s t y → x ≡ y
replan_once s t x y a b =
    let h = shorten s.forest t in
    a.is ∙ ap (state_planned s t) (one_least h.entries h.margin t (end_of h.entries) a.moments b.moments a.best b.best) ∙ sym b.is

-- and is not too long where it gives one
pub not_both : (s : CoreState) (t : ℕ) (x : CoreState) → Replan s t x → ReplanTooLong s.forest t → ⊥
not_both s t x a b =
    let h = shorten s.forest t in
    let same = ap length (one_least h.entries h.margin t (end_of h.entries) a.moments b.moments a.best b.best) in
    let few = a.few in
    let many = b.many in
    absurd (omega arith)

agree : (old x y : CoreState) (round : Round) (ans : ℕ → Option Event) → Outcome old round ans x → Outcome old round ans y → x ≡ y
agree old x y round ans a b =
    elim a.ends [
      | inl waits ↦ elim b.ends [ inl too ↦ waits.1 ∙ sym too.1 | inr closes ↦ absurd (waits.0 closes.0) ]
      | inr closes ↦ elim b.ends [ inl waits ↦ absurd (waits.0 closes.0) | inr too ↦ replan_once (closing old round ans) round.at x y closes.1 too.1 ]
    ]

-- two orders of the same answers to one round, none refused, end in equal states
pub taken_alike :
    (old x y : CoreState) (round : Round) → old.round ≡ Some round → round.unanswered ≢ [] → (these others : List Event) → AreAnswers these → AreAnswers others →
    ((i : ℕ) → answer_for these i ≡ answer_for others i) → (results more : List (Result Output StepFault)) → AllTaken results → AllTaken more →
    CoreHistory old these results x → CoreHistory old others more y → x ≡ y
taken_alike old x y round is some these others answers too same results more well also history onward =
    let a = outcome these results old x round is some answers well history in
    let b = outcome others more old y round is some too also onward in
    agree old x y round (answer_for others) (subst (λ ans. Outcome old round ans x) (fun_ext same) a) b
