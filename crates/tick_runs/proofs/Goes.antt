-- Goes: a run goes on, by a wake-up and by another run.
use Rattle.std.proofs.Common.{◌≡◌, ℕ, ◌+◌, List, [], ◌∷◌, ◌++◌, Option, Some, None, length, refl, sym, ap, ◌∙◌, subst, map, flat_map, arith}
use Rattle.std.proofs.lemmas.{Grind.flat_map-append, List.Elements.filter-append, List.Sums.sum_by-append}
use Rattle.std.proofs.lemmas.List.{append-nil, append_assoc, length-append, length-map}
use Rattle.vault_inventory.specs.Inventories.{Inventory}
use Rattle.vault_exchange.specs.Exchanges.{Behind}
use Rattle.tick_keeper.specs.{LawsOfSteps.IsShaped, State.CoreState}
use Rattle.tick_keeper.specs.declared.event.Output.TheVariants as out
use Rattle.tick_runs.specs.Stops.{WakeUpIsDue, both}
use Rattle.tick_runs.specs.Closed.{AreAnswered, Beat, Exchanged, IsBeat, Played, World, asks_some, next_tick, request_count, rounds}
use Rattle.tick_runs.specs.code.Playing.{AnswersAll, OpensAfterTicks, RunEnds, RunGoes}
use Rattle.tick_runs.specs.Text.{answer_text, beat_text, inventory_with, short_need_lines, wake_line_of_output}
use Rattle.tick_runs.proofs.Texts.{same_answer_texts, same_beat_texts, same_shorts, same_wake}

-- ---- one run after another

pub joins :
    (port : ℕ) (cs : List (List ℕ)) (old mid new : World) (due then' next : Option ℕ) (bs more : List Beat) → Played port cs old due bs mid then' → Played port cs mid then' more new next →
    Played port cs old due (bs ++ more) new next
joins port cs old mid new due then' next [] more first second =
    subst (λ w. Played port cs w due more new next) first.0 (subst (λ d. Played port cs mid d more new next) first.1 second)
joins port cs old mid new None then' next (b ∷ bs) more first second = absurd first
joins port cs old mid new (Some t) then' next (b ∷ bs) more first second =
    (first.0, (first.1.0, (first.1.1.0, joins port cs first.1.0 mid new (next_tick b) then' next bs more first.1.1.1 second)))

pub wakes_join : (bs more : List Beat) → length (rounds (bs ++ more)) ≡ length (rounds bs) + length (rounds more)
unfolding rounds
wakes_join bs more = ap length (filter-append (λ (b : Beat). asks_some b.output) bs more) ∙ length-append (rounds bs) (rounds more)

requests_join : (bs more : List Beat) → request_count (bs ++ more) ≡ request_count bs + request_count more
unfolding request_count
requests_join bs more = sum_by-append (λ (b : Beat). length b.answers) bs more

pub goes_on :
    (s : Inventory) (old mid new : World) (due then' next : Option ℕ) (w v a c : ℕ) (x y : List ℕ) → RunGoes s old due mid then' w a x → RunGoes s mid then' new next v c y → RunGoes s old due new next (w + v) (a + c) (x ++ y)
goes_on s old mid new due then' next w v a c x y g h = record {
  beats = g.beats ++ h.beats;
  played = joins 8200 s.credentials old mid new due then' next g.beats h.beats g.played h.played;
  wakes_are = (let e = wakes_join g.beats h.beats in let l = g.wakes_are in let r = h.wakes_are in omega arith);
  asked_are = (let e = requests_join g.beats h.beats in let l = g.asked_are in let r = h.asked_are in omega arith);
  text_is = ap (λ l. l ++ y) g.text_is ∙ ap (λ l. flat_map (beat_text s) g.beats ++ l) h.text_is ∙ sym (flat_map-append (beat_text s) g.beats h.beats);
}

-- nothing yet
pub goes_nowhere : (s : Inventory) (old : World) (due : Option ℕ) → RunGoes s old due old due 0 0 []
unfolding rounds request_count
goes_nowhere s old due = record { beats = []; played = (refl, refl); wakes_are = refl; asked_are = refl; text_is = refl }

-- of another forest of that shape
pub goes_as :
    (s u : Inventory) (old new : World) (due next : Option ℕ) (w a : ℕ) (x : List ℕ) → IsShaped s.forest u.forest → u.credentials ≡ s.credentials → RunGoes u old due new next w a x → RunGoes s old due new next w a x
goes_as s u old new due next w a x like credentials g = record {
  beats = g.beats;
  played = subst (λ cs. Played 8200 cs old due g.beats new next) credentials g.played;
  wakes_are = g.wakes_are;
  asked_are = g.asked_are;
  text_is = g.text_is ∙ same_beat_texts s u like credentials g.beats;
}

-- ---- to the end without a round

pub ends_go : (cs : List (List ℕ)) (behind : Option Behind) (old new : CoreState) (due : ℕ) (before after : List ℕ) → RunEnds cs behind old due new before after →
    (text : List ℕ) × (RunGoes (inventory_with cs old.forest) (both old behind) (Some due) (both new behind) None 0 0 text × (after ≡ before ++ text))
ends_go cs behind old new due before after e = (
  flat_map (beat_text (inventory_with cs old.forest)) e.beats,
  (
    record { beats = e.beats; played = e.quiet.played; wakes_are = sym (ap length e.quiet.none_asked); asked_are = sym e.quiet.none_sent; text_is = refl },
    e.text_is,
  ),
)

-- ---- to the end of the first round

module _ (cs : List (List ℕ)) (behind : Option Behind) (old k : CoreState) (new : World) (due t : ℕ) (asked before mid after : List ℕ) (next : Option ℕ) (like : IsShaped old.forest k.forest)
    (o : OpensAfterTicks cs behind old due t asked k before mid) (a : AnswersAll 8200 cs t (both k behind) asked next new mid after) where
  s : Inventory
  s = inventory_with cs old.forest

  u : Inventory
  u = inventory_with cs k.forest

  round_of : Beat
  round_of = record { at = t; output = out.Ask asked; short = o.ticks.keeper.shortened; answers = a.xs }

  is_round : IsBeat 8200 cs (both o.mid behind) round_of new
  unfolding round_of
  is_round = record {
    keeper = o.ticks.keeper;
    turn = o.ticks.turn;
    short = refl;
    asked = a.who;
    answered = subst (λ q. AreAnswered 8200 cs t (both q behind) a.xs new) o.ticks.is a.answered;
  }

  all_beats : List Beat
  all_beats = o.beats ++ round_of ∷ []

  played : Played 8200 cs (both old behind) (Some due) all_beats new next
  unfolding all_beats round_of
  played = joins 8200 cs (both old behind) (both o.mid behind) new (Some due) (Some t) next o.beats (round_of ∷ []) o.quiet.played (refl, (new, (is_round, (refl, a.next_is))))

  one_wake : 1 ≡ length (rounds all_beats)
  unfolding all_beats rounds round_of
  one_wake = sym (wakes_join o.beats (round_of ∷ []) ∙ ap (λ bs. length bs + 1) o.quiet.none_asked)

  all_requests : length asked ≡ request_count all_beats
  unfolding all_beats request_count round_of
  all_requests =
      let count : length (map (λ (x : Exchanged). x.entry) a.xs) ≡ length a.xs = length-map a.xs (λ (x : Exchanged). x.entry) in
      let join : request_count all_beats ≡ request_count o.beats + (0 + length a.xs) = requests_join o.beats (round_of ∷ []) in
      let none = o.quiet.none_sent in
      let who = ap length a.who in
      omega arith

  round_text : beat_text s round_of ≡ (short_need_lines k.forest o.ticks.keeper.shortened ++ wake_line_of_output k.forest t (out.Ask asked)) ++ flat_map (answer_text u) a.xs
  unfolding beat_text round_of s u
  round_text = sym (
      ap (λ l. (l ++ wake_line_of_output k.forest t (out.Ask asked)) ++ flat_map (answer_text u) a.xs) (same_shorts old.forest k.forest like o.ticks.keeper.shortened)
      ∙ ap (λ l. (short_need_lines old.forest o.ticks.keeper.shortened ++ l) ++ flat_map (answer_text u) a.xs) (same_wake old.forest k.forest like t (out.Ask asked))
      ∙ ap (λ l. (short_need_lines old.forest o.ticks.keeper.shortened ++ wake_line_of_output old.forest t (out.Ask asked)) ++ l) (same_answer_texts s u like refl a.xs)
      ∙ append_assoc (short_need_lines old.forest o.ticks.keeper.shortened) (wake_line_of_output old.forest t (out.Ask asked)) (flat_map (answer_text s) a.xs))

  texts : after ≡ before ++ flat_map (beat_text s) all_beats
  unfolding all_beats s u
  texts =
      let quiet = flat_map (beat_text s) o.beats in
      let lines = short_need_lines k.forest o.ticks.keeper.shortened ++ wake_line_of_output k.forest t (out.Ask asked) in
      let answers = flat_map (answer_text u) a.xs in
      a.text_is
      ∙ ap (λ l. l ++ answers) (o.ticks.text_is ∙ ap (λ l. l ++ lines) o.quiet_text ∙ append_assoc before quiet lines)
      ∙ append_assoc before (quiet ++ lines) answers
      ∙ ap (λ l. before ++ l) (append_assoc quiet lines answers
      ∙ ap (λ l. quiet ++ l) (sym round_text ∙ sym (append-nil (beat_text s round_of)))
      ∙ sym (flat_map-append (beat_text s) o.beats (round_of ∷ [])))

  pub round_goes_on : (text : List ℕ) × (RunGoes (inventory_with cs old.forest) (both old behind) (Some due) new next 1 (length asked) text × (after ≡ before ++ text))
  unfolding s u
  round_goes_on = (
    flat_map (beat_text s) all_beats,
    (record { beats = all_beats; played = played; wakes_are = one_wake; asked_are = all_requests; text_is = refl }, texts),
  )

pub due_of : (cs : List (List ℕ)) (behind : Option Behind) (old k : CoreState) (due t : ℕ) (asked before after : List ℕ) → OpensAfterTicks cs behind old due t asked k before after → WakeUpIsDue cs (both old behind) due
due_of cs behind old k due t asked before after o = record {
  beats = o.beats;
  mid = both o.mid behind;
  at = t;
  played = o.quiet.played;
  none_asked = o.quiet.none_asked;
  asked = asked;
  keeper = o.ticks.keeper;
  turn = o.ticks.turn;
}
