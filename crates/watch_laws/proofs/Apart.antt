-- Apart: two requests of an entry are a second apart, wherever it stands when they go out. For the laws of the second between and of load.
use Rattle.std.proofs.Common.{◌≡◌, ◌⊎◌, ◌∙◌, ℕ, ◌<◌, true, List, [], ◌∷◌, ◌++◌, Option, Some, None, IfSome, Result, All, is_none, length, refl, sym, ap, subst, arith, inl, inr}
use Rattle.std.proofs.lemmas.{Bool.cases_lt, List.Elements.All-nil}
use Rattle.watch_machine.specs.{declared.command.WatchOutput.WatchOutput, declared.event.WatchEvent.WatchEvent, declared.event.Operation.Operation, declared.fault.WatchFault.WatchFault, declared.lanes.Out.Out, declared.track.Track.Track}
use Rattle.watch_machine.specs.{Change.former_at}
use Rattle.watch_machine.specs.History.{AllHappen, Changed, Changes, Happening, Hands, IsChanged, Turn, stood, stood_at_some}
use Rattle.watch_machine.specs.State.{WatchState, opened, track_at}
use Rattle.watch_laws.specs.Load.{IsApart, Sent, SpacedLaw, requests_at_turn, sent_of_some, sent_through}
use Rattle.watch_laws.proofs.{Bases.kept_flag, Resting.Rests, Resting.owed_rests, Topping.turn_count}
use Rattle.watch_laws.proofs.Following.{IsCounted, changed_counted, changed_tracks, kept_over, named_new, named_over, opened_counted, stays_there, turn_counted}
use Rattle.watch_laws.proofs.Spacing.{Any, AreApartAfter, IsOf, Keeps, Outcome, none_after, one_more, turn_past, turned}

-- what holds of the last request of an entry, where it stands; none went out of one that is not there yet
abbrev KeepsAt : WatchState → Option ℕ → Option Sent → Type 0
KeepsAt s None o = o ≡ None
KeepsAt s (Some i) o = i < length s.tracks → Keeps s i o

-- a turn
abbrev OutcomeAt : WatchState → Option ℕ → Option Sent → List Sent → Type 0
OutcomeAt new e o xs = ((xs ≡ []) × KeepsAt new e o) ⊎ ((x : Sent) × ((xs ≡ x ∷ []) × (IfSome o (λ r. IsApart r x) × KeepsAt new e (Some x))))

turned_at :
    (old new : WatchState) (event : WatchEvent) (result : Result WatchOutput WatchFault) (e : Option ℕ) (o : Option Sent) → Turn old event result new → KeepsAt old e o →
    OutcomeAt new e o (sent_of_some e new.clocks.at (requests_at_turn result))
unfolding Outcome
turned_at old new event result None o turn kept = inl (refl, kept)
turned_at old new event result (Some i) o turn kept =
    let count = turn_count old new event result turn in
    elim (cases_lt i (length old.tracks)) as (λ _. OutcomeAt new (Some i) o (sent_of_some (Some i) new.clocks.at (requests_at_turn result))) [
      | inl low ↦
          elim (turned old new event result i o turn (kept low)) as (λ _. OutcomeAt new (Some i) o (sent_of_some (Some i) new.clocks.at (requests_at_turn result))) [
            | inl quiet ↦ inl (quiet.0, λ within. quiet.1)
            | inr goes' ↦ inr (goes'.0, (goes'.1.0, (goes'.1.1.0, λ within. goes'.1.1.1)))
          ]
      | inr past ↦ inl (turn_past old new event result i turn past, λ within. absurd (omega (arith, count, past, within)))
    ]

-- a change: its request is out as it was, and it was last asked as it was
is_of_over : (old : WatchState) (c : Changed) (h : IsChanged old c) (i j : ℕ) (P : Operation → Type 0) → former_at c.was j ≡ Some i → All (IsOf old i P) old.out → All (IsOf c.state j P) c.state.out
is_of_over old c h i j P said all =
    let flag = kept_flag old c h i j said in
    subst (λ b. All (λ (q : Out). q.entry ≡ j → (b ≡ true) × P q.operation) c.state.out) (sym flag)
    (named_over (λ (q : Out). ((track_at old i).out ≡ true) × P q.operation) (λ r m of. of) old c h i j said all)

kept_change : (old : WatchState) (c : Changed) (h : IsChanged old c) (i j : ℕ) (o : Option Sent) → former_at c.was j ≡ Some i → Keeps old i o → Keeps c.state j o
kept_change old c h i j None said kept = is_of_over old c h i j Any said kept
kept_change old c h i j (Some r) said kept = record {
  begun = ap (λ (s : WatchState). is_none s.begun) h.state ∙ kept.begun;
  past = (let clock = ap (λ (s : WatchState). s.clocks.at) h.state in let past = kept.past in omega (arith, clock, past));
  out = is_of_over old c h i j (λ y. r.operation ≡ y) said kept.out;
  rests = kept_over old c h (λ (y x : Track). Rests r x → Rests r y) (λ x k. k) (λ x k. owed_rests r old.clocks.at x k) i j said kept.rests;
}

changed_at : (old : WatchState) (c : Changed) → IsChanged old c → (e : Option ℕ) (o : Option Sent) → IsCounted old → KeepsAt old (stood_at_some (Changes c) e) o → KeepsAt c.state e o
changed_at old c h None o count kept = kept
changed_at old c h (Some j) o count kept = λ within. by (former_at c.was j) refl kept within where
  by : (was : Option ℕ) → former_at c.was j ≡ was → KeepsAt old was o → j < length c.state.tracks → Keeps c.state j o
  by None said none within =
      subst (Keeps c.state j) (sym none)
      (named_new (λ (q : Out). ((track_at c.state j).out ≡ true) × Any q.operation) old c h j (let many = changed_tracks old c h in omega (arith, many, within)) said)
  by (Some i) said kept' within = kept_change old c h i j o said (kept' (let there = h.may.within i j said in omega (arith, there, count)))

ran : (k : ℕ) (hs : List Happening) (old : WatchState) (o : Option Sent) → AllHappen old hs → IsCounted old → KeepsAt old (stood hs k) o → AreApartAfter o (sent_through k hs)
ran k [] old o h count kept = none_after o
ran k (Hands turn ∷ hs) old o h count kept =
    let new = turn.state in
    let many = turn_counted old new turn.event turn.result h.0 count in
    elim (turned_at old new turn.event turn.result (stood hs k) o h.0 (subst (λ e. KeepsAt old e o) (stays_there turn (stood hs k)) kept)) as (λ _. AreApartAfter o (sent_through k (Hands turn ∷ hs))) [
      | inl quiet ↦ subst (λ xs. AreApartAfter o (xs ++ sent_through k hs)) (sym quiet.0) (ran k hs new o h.1 many quiet.1)
      | inr goes' ↦ subst (λ xs. AreApartAfter o (xs ++ sent_through k hs)) (sym goes'.1.0) (one_more o goes'.0 (sent_through k hs) goes'.1.1.0 (ran k hs new (Some goes'.0) h.1 many goes'.1.1.1))
    ]
ran k (Changes c ∷ hs) old o h count kept = ran k hs c.state o h.1 (changed_counted old c h.0) (changed_at old c h.0 (stood hs k) o count kept)

pub spaced : SpacedLaw
spaced g width hs run k = ran k hs (opened g width) None run (opened_counted g width) (by (stood hs k)) where
  by : (e : Option ℕ) → KeepsAt (opened g width) e None
  by None = refl
  by (Some i) = λ within. All-nil (IsOf (opened g width) i Any)
