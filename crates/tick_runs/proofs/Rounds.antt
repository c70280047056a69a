-- Rounds: one answer more.
use Rattle.std.proofs.Common.{ℕ, List, [], ◌∷◌, ◌++◌, Option, None, refl, sym, ap, ◌∙◌}
use Rattle.std.proofs.lemmas.List.{append-nil, flat_map_more, map-append}
use Rattle.tick_keeper.specs.{LawsOfSteps.IsShaped, declared.event.Output.Output}
use Rattle.tick_runs.specs.{code.Playing.Answers, code.Playing.AnswersAll, Text.answer_text, Text.inventory_with}
use Rattle.tick_runs.specs.Closed.{Exchanged, World, closing, told_next}
use Rattle.tick_runs.proofs.{Loops.answer_more, Texts.same_answer_text}

pub none_answered : (port : ℕ) (cs : List (List ℕ)) (t : ℕ) (old : World) (text : List ℕ) → AnswersAll port cs t old [] None old text text
none_answered port cs t old text = record { xs = []; who = refl; answered = refl; next_is = refl; text_is = sym (append-nil text) }

pub answers_more :
    (port : ℕ) (cs : List (List ℕ)) (t : ℕ) (old mid new : World) (done : List ℕ) (i : ℕ) (next : Option ℕ) (output : Output) (before middle after : List ℕ) → IsShaped old.keeper.forest mid.keeper.forest →
    AnswersAll port cs t old done next mid before middle → Answers port cs t mid i output new middle after → AnswersAll port cs t old (done ++ i ∷ []) (told_next next output) new before after
answers_more port cs t old mid new done i next output before middle after like a one =
    let more = answer_more port cs t old mid new a.xs one.x a.answered one.answered in
    let s = inventory_with cs old.keeper.forest in
    record {
      xs = a.xs ++ one.x ∷ [];
      who = map-append (λ (x : Exchanged). x.entry) a.xs (one.x ∷ []) ∙ ap (λ is. is ++ one.x.entry ∷ []) a.who ∙ ap (λ j. done ++ j ∷ []) one.entry;
      answered = more.0;
      next_is = ap (λ n. told_next n output) a.next_is ∙ ap (λ o. told_next (closing None a.xs) o) (sym one.output_is) ∙ sym (more.1 None);
      text_is = one.text_is
          ∙ ap (λ l. middle ++ l) (same_answer_text s (inventory_with cs mid.keeper.forest) like refl one.x)
          ∙ ap (λ l. l ++ answer_text s one.x) a.text_is
          ∙ flat_map_more (answer_text s) before a.xs one.x;
    }
