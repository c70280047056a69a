-- Texts: the lines of a run are those of its inventory's names, also by a forest as it was told.
use Rattle.std.proofs.Common.{◌≡◌, ℕ, List, [], ◌∷◌, ◌++◌, Option, codes, decimal, flat_map, refl, ap, ◌∙◌}
use Rattle.plan_forest.specs.{declared.entry.Entry.Entry, Forest.Forest}
use Rattle.vault_inventory.specs.Inventories.{Inventory, credential_at}
use Rattle.vault_http.specs.declared.reply.Reply.{Reply}
use Rattle.tick_keeper.specs.{LawsOfSteps.IsShaped, declared.event.Event.Event, declared.event.Output.Output, declared.shortened.ShortNeed.ShortNeed}
use Rattle.tick_keeper.specs.declared.event.Event.TheVariants.{Told, Refused, Lost}
use Rattle.tick_keeper.specs.declared.event.Output.TheVariants as out
use Rattle.tick_runs.specs.Replies.{event_of}
use Rattle.tick_runs.specs.Closed.{Beat, Exchanged, event_in}
use Rattle.tick_runs.specs.Text.{answer_line, answer_text, beat_text, short_need_line, short_need_lines, status_in, wake_line_of_output}
use Rattle.program_lines.specs.Text.{line, name_of, names_of}

module _ (g h : Forest) (like : IsShaped g h) where
  same_name : (i : ℕ) → name_of h i ≡ name_of g i
  same_name i = ap (λ (e : Entry). e.name) (like.each i)

  same_names : (is : List ℕ) → names_of h is ≡ names_of g is
  same_names [] = refl
  same_names (i ∷ is) = ap (λ n. n ∷ names_of h is) (same_name i) ∙ ap (λ ns. name_of g i ∷ ns) (same_names is)

  pub same_shorts : (ps : List ShortNeed) → short_need_lines h ps ≡ short_need_lines g ps
  unfolding short_need_lines
  same_shorts [] = refl
  same_shorts (p ∷ ps) = ap (λ n. line (codes "short" ∷ n ∷ decimal p.need ∷ []) ++ flat_map (short_need_line h) ps) (same_name p.entry) ∙ ap (λ xs. short_need_line g p ++ xs) (same_shorts ps)

  pub same_wake : (t : ℕ) (output : Output) → wake_line_of_output h t output ≡ wake_line_of_output g t output
  same_wake t (out.Ask asked) = ap (λ ns. line (codes "wake" ∷ decimal t ∷ ns)) (same_names asked)
  same_wake t _ = refl

  pub same_event : (cs : List (List ℕ)) (x : Exchanged) → event_in cs h x ≡ event_in cs g x
  unfolding event_in
  same_event cs x = ap (λ (e : Entry). event_of e.kind (credential_at cs x.entry) x.entry x.reply) (like.each x.entry)

  same_answer : (event : Event) (reply : Option Reply) → answer_line h event reply ≡ answer_line g event reply
  same_answer (Told i seconds renewable) reply = ap (λ n. line (codes "told" ∷ n ∷ decimal seconds ∷ [])) (same_name i)
  same_answer (Refused i) reply = ap (λ n. line (codes "refused" ∷ n ∷ decimal (status_in reply) ∷ [])) (same_name i)
  same_answer (Lost i) reply = ap (λ n. line (codes "lost" ∷ n ∷ [])) (same_name i)
  same_answer _ reply = refl

-- of two inventories with the same credentials, and forests of one shape
module _ (s u : Inventory) (like : IsShaped s.forest u.forest) (credentials : u.credentials ≡ s.credentials) where
  pub same_answer_text : (x : Exchanged) → answer_text u x ≡ answer_text s x
  unfolding answer_text
  same_answer_text x =
      let event : event_in u.credentials u.forest x ≡ event_in s.credentials s.forest x = ap (λ cs. event_in cs u.forest x) credentials ∙ same_event s.forest u.forest like s.credentials x in
      let reply = x.reply in
      ap (λ e. answer_line u.forest e reply ++ short_need_lines u.forest x.short) event
      ∙ ap (λ xs. xs ++ short_need_lines u.forest x.short) (same_answer s.forest u.forest like (event_in s.credentials s.forest x) reply)
      ∙ ap (λ xs. answer_line s.forest (event_in s.credentials s.forest x) reply ++ xs) (same_shorts s.forest u.forest like x.short)

  pub same_answer_texts : (xs : List Exchanged) → flat_map (answer_text u) xs ≡ flat_map (answer_text s) xs
  same_answer_texts [] = refl
  same_answer_texts (x ∷ xs) = ap (λ l. l ++ flat_map (answer_text u) xs) (same_answer_text x) ∙ ap (λ l. answer_text s x ++ l) (same_answer_texts xs)

  pub same_beat_text : (b : Beat) → beat_text u b ≡ beat_text s b
  unfolding beat_text
  same_beat_text b =
      ap (λ l. l ++ (wake_line_of_output u.forest b.at b.output ++ flat_map (answer_text u) b.answers)) (same_shorts s.forest u.forest like b.short)
      ∙ ap (λ l. short_need_lines s.forest b.short ++ (l ++ flat_map (answer_text u) b.answers)) (same_wake s.forest u.forest like b.at b.output)
      ∙ ap (λ l. short_need_lines s.forest b.short ++ (wake_line_of_output s.forest b.at b.output ++ l)) (same_answer_texts b.answers)

  pub same_beat_texts : (bs : List Beat) → flat_map (beat_text u) bs ≡ flat_map (beat_text s) bs
  same_beat_texts [] = refl
  same_beat_texts (b ∷ bs) = ap (λ l. l ++ flat_map (beat_text u) bs) (same_beat_text b) ∙ ap (λ l. beat_text s b ++ l) (same_beat_texts bs)
