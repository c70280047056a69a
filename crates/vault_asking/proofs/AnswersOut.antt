-- AnswersOut: an answer is to a request that is out, and what is out after it. For the law of lanes that stay in step.
use Rattle.std.proofs.Common.{◌≡◌, ◌≢◌, ◌∙◌, ℕ, ◌+◌, ◌<◌, ◌≤◌, ◌==◌, List, [], ◌∷◌, ◌++◌, Some, None, Ok, length, map, refl, sym, ap, subst, arith, inl, inr}
use Rattle.std.proofs.lemmas.Bool.{cases_Bool, cond-false, cond-true, eqb-true}
use Rattle.vault_inventory.specs.Inventories.{Inventory}
use Rattle.vault_lanes.specs.declared.lanes.Answered as lanes
use Rattle.watch_machine.specs.{declared.command.WatchOutput.WatchOutput, declared.event.Operation.Operation, declared.event.WatchReply.WatchReply, declared.event.WatchTerms.WatchTerms, declared.lanes.Out.Out, History.Turn}
use Rattle.watch_machine.specs.{State.WatchState}
use Rattle.watch_machine.specs.declared.event.Operation.TheVariants.{Look, Renew}
use Rattle.vault_asking.specs.Told.{event_as}
use Rattle.vault_asking.specs.Handing.{AreHandedIn, IsHandedIn, out_of}
use Rattle.vault_asking.specs.InStep.{AreOut, MachineIsSound, entries_answered, entries_out, times}
use Rattle.vault_asking.proofs.Sound.{Answered, at_most_one, counts, same_index, skips, times_append, turn_looked, turn_renewed}

-- ---- the request that an answer is to

-- an entry that is out of some has a request among them
pub some_out : (out : List Out) (i : ℕ) → 0 < times i (map (λ (r : Out). r.entry) out) → out_of out i ≢ None
some_out [] i some = absurd (omega (arith, some))
some_out (r ∷ out) i some =
    elim (cases_Bool (r.entry == i)) [
      | inl same ↦ λ none. (let bad : Some r ≡ None = sym (cond-true (r.entry == i) (Some r) (out_of out i) same) ∙ none in cc)
      | inr other ↦
          let fewer = skips i r.entry (map (λ (q : Out). q.entry) out) other in
          let rest = some_out out i (omega (arith, some, fewer)) in
          λ none. rest (sym (cond-false (r.entry == i) (Some r) (out_of out i) other) ∙ none)
    ]

-- ---- what is then out

turned : (old new : WatchState) (operation : Operation) (i : ℕ) (reply : WatchReply) (terms : WatchTerms) (output : WatchOutput) → Turn old (event_as operation i reply terms) (Ok output) new → MachineIsSound old → Answered old i new
turned old new Look i reply terms output turn sound = turn_looked old new i reply terms output turn sound
turned old new Renew i reply terms output turn sound = turn_renewed old new i reply output turn sound

handed_one : (s : Inventory) (a : lanes.Answered) (old new : WatchState) → IsHandedIn s a old new → MachineIsSound old → Answered old a.index new
handed_one s a old new h sound = turned old new h.request.operation a.index h.said.reply h.said.terms h.output h.turn sound

-- answers were handed in, each to another request that was out: the others are out
pub record AreOver (old : WatchState) (answers : List lanes.Answered) (new : WatchState) : Type 0 where
  pub width : new.width ≡ old.width
  pub each : (i : ℕ) → times i (entries_out new) + times i (entries_answered answers) ≡ times i (entries_out old)
  pub count : length new.out + length answers ≡ length old.out
  pub sound : MachineIsSound new

pub are_over : (s : Inventory) (answers : List lanes.Answered) (old new : WatchState) → AreHandedIn s answers old new → MachineIsSound old → AreOut old answers → AreOver old answers new
are_over s [] old new h sound out =
    subst (AreOver old []) (sym h) (record { width = refl; each = λ i. omega arith; count = omega arith; sound = sound })
are_over s (a ∷ rest) old new h sound out =
    let mid = h.0 in
    let one = handed_one s a old mid h.1.0 sound in
    let own = one.own in
    let first = counts a.index a.index (entries_answered rest) (same_index a.index) in
    let there = out a.index in
    let once = sound.once a.index in
    let most = at_most_one old a.index in
    let single : times a.index (entries_out old) ≡ 1 = omega (arith, first, there, once, most) in
    let left : AreOut mid rest = λ i. elim (cases_Bool (a.index == i)) [
      | inl same ↦
          let none : times i (entries_answered rest) ≤ times i (entries_out mid) = subst (λ k. times k (entries_answered rest) ≤ times k (entries_out mid)) (eqb-true a.index i same) (omega (arith, first, there, single, own)) in
          none
      | inr other ↦
          let fewer = skips i a.index (entries_answered rest) other in
          let as_was = one.others i other in
          let all = out i in
          omega (arith, fewer, as_was, all)
    ] in
    let more = are_over s rest mid new h.1.1 one.sound left in
    let count = more.count in
    let one_count = one.count in
    record {
      width = more.width ∙ one.width;
      each = λ i. elim (cases_Bool (a.index == i)) [
        | inl same ↦
            subst (λ k. times k (entries_out new) + times k (entries_answered (a ∷ rest)) ≡ times k (entries_out old)) (eqb-true a.index i same)
            (let all = more.each a.index in omega (arith, all, first, single, own))
        | inr other ↦
            let all = more.each i in
            let fewer = skips i a.index (entries_answered rest) other in
            let as_was = one.others i other in
            omega (arith, all, fewer, as_was)
      ];
      count = omega (arith, count, one_count, single);
      sound = more.sound;
    }

-- of answers that are each to another request that is out the next one is to a request that is out still
pub next_out :
    (s : Inventory) (answers : List lanes.Answered) (old now : WatchState) (a : lanes.Answered) (later all : List lanes.Answered) → AreHandedIn s answers old now → answers ++ a ∷ later ≡ all → MachineIsSound old → AreOut old all →
    (out_of now.out a.index ≢ None) × MachineIsSound now
next_out s answers old now a later all h is sound out =
    let i = a.index in
    let split : (k : ℕ) → times k (entries_answered (answers ++ a ∷ later)) ≡ times k (entries_answered answers) + times k (entries_answered (a ∷ later)) = λ k. ap (times k) (entries_append answers (a ∷ later)) ∙ times_append k (entries_answered answers) (entries_answered (a ∷ later)) in
    let so_far : AreOut old answers = λ k.
    (let most : times k (entries_answered (answers ++ a ∷ later)) ≤ times k (entries_out old) = subst (λ xs. times k (entries_answered xs) ≤ times k (entries_out old)) (sym is) (out k) in
    let parts = split k in
    omega (arith, most, parts)) in
    let over = are_over s answers old now h sound so_far in
    let most : times i (entries_answered (answers ++ a ∷ later)) ≤ times i (entries_out old) = subst (λ xs. times i (entries_answered xs) ≤ times i (entries_out old)) (sym is) (out i) in
    let parts = split i in
    let first = counts i i (entries_answered later) (same_index i) in
    let each = over.each i in
    (some_out now.out i (omega (arith, most, parts, first, each)), over.sound) where
      entries_append : (xs ys : List lanes.Answered) → entries_answered (xs ++ ys) ≡ entries_answered xs ++ entries_answered ys
      entries_append [] ys = refl
      entries_append (x ∷ xs) ys = ap (λ ns. x.index ∷ ns) (entries_append xs ys)
