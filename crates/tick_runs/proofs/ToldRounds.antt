-- ToldRounds: answers after answers, each told before the next is asked; and where that stops short.
use Rattle.std.proofs.Common.{◌≡◌, ℕ, ◌+◌, ◌<◌, inl, inr, List, [], ◌∷◌, ◌++◌, Option, Ok, Err, drop, get_or, length, take, take-append-drop, refl, sym, ap, ◌∙◌, subst}
use Rattle.std.proofs.KnownBytes.{Appends-kept, Appends-trans}
use Rattle.std.proofs.lemmas.List.{append_assoc, map-append, take_more}
use Rattle.std.specs.Io.KnownBytes.{Appends, Keeps}
use Rattle.base_device.specs.{Seen.Change, Seen.Seen, Failures.HasFailed}
use Rattle.tick_keeper.specs.{LawsOfSteps.IsShaped, State.CoreState, declared.event.Output.Output}
use Rattle.vault_exchange.specs.Exchanges.{Behind}
use Rattle.program_report.specs.declared.stop.Stop.{Stop}
use Rattle.program_report.specs.declared.stop.Stop.TheVariants as stops
use Rattle.tick_runs.specs.{code.Playing.Answers, code.Playing.AnswersAll, Hearing.IsAskLeft, Stops.both, Text.inventory_with}
use Rattle.tick_runs.specs.Closed.{Exchanged, World, told_next}
use Rattle.tick_runs.specs.code.Telling.{IsSentWhole, IsOneCut, IsRoundBroken, IsRoundCut, IsRoundSoFar, IsRoundUpTo, TellsOne, TellsRound}
use Rattle.program_lines.specs.Hearing.{joined_changes}
use Rattle.tick_runs.proofs.{LineByLine.sent_then, Loops.answer_more, Rounds.answers_more, Texts.same_answer_text}

-- ---- a round so far

-- these were asked, and those after them were not
abbrev pub so_far :
    (port : ℕ) (cs : List (List ℕ)) (t : ℕ) (old new : World) (asked done others : List ℕ) (next : Option ℕ) (text : List ℕ) → done ++ others ≡ asked → AnswersAll port cs t old done next new [] text →
    IsRoundSoFar port cs t old asked new text
so_far port cs t old new asked done others next text parts a = record {
  xs = a.xs;
  others = others;
  who = ap (λ is. is ++ others) a.who ∙ parts;
  answered = a.answered;
  told_is = a.text_is;
}

-- one more was asked
pub up_to :
    (port : ℕ) (cs : List (List ℕ)) (t : ℕ) (old mid new : World) (asked done : List ℕ) (i : ℕ) (others : List ℕ) (next : Option ℕ) (output : Output) (told own : List ℕ) → done ++ i ∷ others ≡ asked →
    IsShaped old.keeper.forest mid.keeper.forest → AnswersAll port cs t old done next mid [] told → Answers port cs t mid i output new [] own → IsRoundUpTo port cs t old asked new told own
up_to port cs t old mid new asked done i others next output told own parts like a one =
    let more = answer_more port cs t old mid new a.xs one.x a.answered one.answered in
    let s = inventory_with cs old.keeper.forest in
    record {
      before = a.xs;
      x = one.x;
      others = others;
      who = ap (λ is. is ++ others)
          (map-append (λ (x : Exchanged). x.entry) a.xs (one.x ∷ []) ∙ ap (λ is. is ++ one.x.entry ∷ []) a.who ∙ ap (λ j. done ++ j ∷ []) one.entry)
          ∙ append_assoc done (i ∷ []) others
          ∙ parts;
      answered = more.0;
      told_is = a.text_is;
      own_is = one.text_is ∙ same_answer_text s (inventory_with cs mid.keeper.forest) like refl one.x;
    }

-- an answer after those before, whose text is told on its own
answers_told :
    (port : ℕ) (cs : List (List ℕ)) (t : ℕ) (old : World) (i : ℕ) (output : Output) (new : World) (before text : List ℕ) → Answers port cs t old i output new [] text → Answers port cs t old i output new before (before ++ text)
answers_told port cs t old i output new before text a = record {
  x = a.x;
  entry = a.entry;
  output_is = a.output_is;
  answered = a.answered;
  text_is = ap (λ l. before ++ l) a.text_is;
}

-- ---- over an exchange

-- by the names that the loop over the asked has
module _ (port : ℕ) (cs : List (List ℕ)) (t : ℕ) (o mid : Option Behind) (start now : CoreState) (asked : List ℕ) (k : ℕ) (next : Option ℕ) (a b : Change) (same : a.new ≡ b.old)
    (more : k < length asked) (like : IsShaped start.forest now.forest) where
  abbrev pub i : ℕ
  i = get_or asked k 0

  parts : take k asked ++ i ∷ drop (k + 1) asked ≡ asked
  parts = sym (append_assoc (take k asked) (i ∷ []) (drop (k + 1) asked)) ∙ ap (λ l. l ++ drop (k + 1) asked) (sym (take_more asked k 0 more)) ∙ take-append-drop (k + 1) asked

  abbrev pub Before : Type 0
  Before = (text : List ℕ) × (AnswersAll port cs t (both start o) (take k asked) next (both now mid) [] text × IsSentWhole text a)

  -- the next answer is told
  pub told_more :
      (new : Option Behind) (after : CoreState) (output : Output) (then' : Option ℕ) → then' ≡ told_next next output → Before → TellsOne port cs t (both now mid) i (Ok output) (both after new) b →
      (text : List ℕ) × (AnswersAll port cs t (both start o) (take (k + 1) asked) then' (both after new) [] text × IsSentWhole text (joined_changes a b))
  told_more new after output then' closes h one = (
    h.0 ++ one.0,
    (
      subst (λ is. AnswersAll port cs t (both start o) is then' (both after new) [] (h.0 ++ one.0)) (sym (take_more asked k 0 more))
          (subst (λ n. AnswersAll port cs t (both start o) (take k asked ++ i ∷ []) n (both after new) [] (h.0 ++ one.0)) (sym closes)
          (answers_more port cs t (both start o) (both now mid) (both after new) (take k asked) i next output [] h.0 (h.0 ++ one.0) like h.1.0
          (answers_told port cs t (both now mid) i output (both after new) h.0 one.0 one.1.0))),
      sent_then a b same h.0 one.0 h.1.1 one.1.1,
    ),
  )

  -- only a front of its lines is
  cut_on : (new : Option Behind) (after : CoreState) → Before → IsOneCut port cs t (both now mid) i (both after new) b → IsRoundCut port cs t (both start o) asked (both after new) (joined_changes a b)
  cut_on new after h one = record {
    told = h.0;
    own = one.1.0;
    up_to = up_to port cs t (both start o) (both now mid) (both after new) asked (take k asked) i (drop (k + 1) asked) next one.0 h.0 one.1.0 parts like h.1.0 one.1.1.0;
    n = one.1.1.1.0;
    front = Appends-trans a.old.output.written a.new.output.written b.new.output.written h.0 (take one.1.1.1.0 one.1.0) h.1.1.0.0 (subst (λ (w : Seen). Appends w.output.written b.new.output.written (take one.1.1.1.0 one.1.0)) (sym same) one.1.1.1.1);
  }

  broken_on : (new : World) → Before → Keeps b.old.output.written b.new.output.written → IsAskLeft port cs t (both now mid) (i ∷ []) new.behind → IsRoundBroken port cs t (both start o) asked new (joined_changes a b)
  broken_on new h none left = record {
    told = h.0;
    mid = both now mid;
    so_far = so_far port cs t (both start o) (both now mid) asked (take k asked) (i ∷ drop (k + 1) asked) next h.0 parts h.1.0;
    left = left;
    written = Appends-kept a.old.output.written a.new.output.written b.new.output.written h.0 h.1.1.0.0 (subst (λ (w : Seen). Keeps w.output.written b.new.output.written) (sym same) none);
  }

  -- why the round stops
  pub stopped_on :
      (stop : Stop) (new : Option Behind) (after : CoreState) → Before → TellsOne port cs t (both now mid) i (Err stop) (both after new) b → TellsRound port cs t (both start o) asked (Err stop) (both after new) (joined_changes a b)
  stopped_on stops.Write new after h one = (subst (λ n. HasFailed n b.new.failed_calls) (sym (ap (λ (s : Seen). s.failed_calls) same) ∙ h.1.1.1) one.0, cut_on new after h one.1)
  stopped_on stops.Memory new after h (inl none) = inl (broken_on (both after new) h none.0 none.1)
  stopped_on stops.Memory new after h (inr cut) = inr (cut.0, cut_on new after h cut.1)
  stopped_on _ new after h one = absurd one
