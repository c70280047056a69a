-- LiveTicks: what an event line comes to over an exchange, from what the calls of its code say.
use Rattle.std.proofs.Common.{◌≡◌, ℕ, inl, inr, false, cond, List, [], ◌∷◌, ◌++◌, Option, None, OnOk, Result, Ok, Err, refl, sym, ap, ◌∙◌, subst, flat_map, map}
use Rattle.std.proofs.lemmas.List.{append-nil, append_assoc}
use Rattle.base_device.specs.Seen.{Change}
use Rattle.tick_keeper.specs.declared.event.Event.TheVariants as events
use Rattle.tick_keeper.specs.{declared.event.Event.TheVariants.Tick, declared.event.Output.Output, declared.fault.StepFault.StepFault, History.CoreTurn, LawsOfSteps.IsShaped, State.CoreState}
use Rattle.tick_keeper.specs.declared.event.Output.TheVariants as out
use Rattle.tick_keeper.specs.declared.fault.StepFault.TheVariants as steps
use Rattle.vault_exchange.specs.Exchanges.{Behind}
use Rattle.vault_inventory.specs.Inventories.{Inventory}
use Rattle.program_report.specs.declared.stop.Stop.{Stop}
use Rattle.tick_runs.specs.Stops.{both}
use Rattle.tick_runs.specs.Closed.{AreAnswered, Beat, Exchanged, IsBeat, World, asked_by_output, asks_some, closing, shorts_taken}
use Rattle.tick_runs.specs.Hearing.{IsBetweenEvents, TickIsUnderWay, TicksLive, TicksSoFar, TicksUpTo, last_tick_line, next_tick_line, tick_text}
use Rattle.tick_runs.specs.code.Telling.{IsRoundSoFar, IsRoundUpTo, StopsNeed, TellsRound}
use Rattle.tick_runs.specs.code.Playing.{AnswersAll, IsPlanFault, Ticks, stop_of}
use Rattle.tick_runs.specs.Text.{answer_text, beat_text, inventory_with, short_need_lines, wake_line_of_output}
use Rattle.program_lines.specs.declared.event_line.HeardLine.TheVariants.{Need}
use Rattle.tick_runs.proofs.Opens.{ticks_shaped}
use Rattle.tick_runs.proofs.Texts.{same_answer_text, same_answer_texts, same_shorts, same_wake}

-- ---- what a keeper stays

pub ready_on : (k new : CoreState) → new ≡ shorts_taken k → new.round ≡ None → IsBetweenEvents new
ready_on k new is closed = record { quiet = ap (λ (s : CoreState). s.shortened) is; closed = closed }

pub ticks_ready : (t : ℕ) (old new : CoreState) (output : Output) (before after : List ℕ) → Ticks t old output new before after → new.round ≡ None → IsBetweenEvents new
ticks_ready t old new output before after ticks closed = ready_on ticks.keeper new ticks.is closed

-- a tick that neither asks nor sleeps has nothing to do
pub only_idle : (t : ℕ) (old new : CoreState) (output : Output) → CoreTurn old (Tick t) (Ok output) new → ((asked : List ℕ) → output ≡ out.Ask asked → ⊥) → ((w : ℕ) → output ≡ out.Sleep w → ⊥) → output ≡ out.Idle
only_idle t old new (out.Ask asked) turn no_ask no_sleep = absurd (no_ask asked refl)
only_idle t old new (out.Sleep w) turn no_ask no_sleep = absurd (no_sleep w refl)
only_idle t old new out.Idle turn no_ask no_sleep = refl
only_idle t old new _ turn no_ask no_sleep = absurd turn.1

-- ---- a tick

module _ (port : ℕ) (cs : List (List ℕ)) (t : ℕ) (old : CoreState) where
  s : Inventory
  s = inventory_with cs old.forest

  -- that asks nobody
  pub quiet_heard :
      (b : Option Behind) (new : CoreState) (output : Output) (mid after : List ℕ) → Ticks t old output new [] mid → asked_by_output output ≡ [] → asks_some output ≡ false → after ≡ mid ++ last_tick_line output [] →
      TicksLive port cs t (both old b) (both new b) after × TicksUpTo port cs t (both old b) (both new b) [] after
  unfolding s beat_text
  quiet_heard b new output mid after ticks none nobody last =
      let beat : Beat = record { at = t; output = output; short = ticks.keeper.shortened; answers = [] } in
      let like = ticks_shaped t old new output [] mid ticks in
      let shorts = short_need_lines old.forest ticks.keeper.shortened in
      let wake = wake_line_of_output old.forest t output in
      let text : after ≡ tick_text s beat =
      last
      ∙ ap (λ l. l ++ last_tick_line output []) (ticks.text_is
      ∙ ap (λ l. l ++ wake_line_of_output new.forest t output) (same_shorts old.forest new.forest like ticks.keeper.shortened)
      ∙ ap (λ l. shorts ++ l) (same_wake old.forest new.forest like t output ∙ sym (append-nil wake))) in
      let answered = ap (λ k. both k b) ticks.is in
      let is : IsBeat port cs (both old b) beat (both new b) = record { keeper = ticks.keeper; turn = ticks.turn; short = refl; asked = sym none; answered = answered } in
      let under : TickIsUnderWay port cs (both old b) beat [] (both new b) = record { keeper = ticks.keeper; turn = ticks.turn; short = refl; asked = sym none; answered = answered } in (
        (beat, (refl, (is, text))),
        (beat, ([], (refl, (under, inl (refl, (refl, text ∙ sym (ap (λ q. cond q (beat_text s beat) (tick_text s beat)) nobody))))))),
      )

  -- that asks these, after its lines before the first request
  module _ (k : CoreState) (asked mid : List ℕ) (ticks : Ticks t old (out.Ask asked) k [] mid) where
    abbrev u : Inventory
    u = inventory_with cs k.forest

    abbrev beat : List Exchanged → Beat
    beat xs = record { at = t; output = out.Ask asked; short = ticks.keeper.shortened; answers = xs }

    like : IsShaped old.forest k.forest
    like = ticks_shaped t old k (out.Ask asked) [] mid ticks

    told_text : (xs : List Exchanged) → mid ++ flat_map (answer_text u) xs ≡ beat_text s (beat xs)
    unfolding s beat_text
    told_text xs =
        let shorts = short_need_lines old.forest ticks.keeper.shortened in
        let wake = wake_line_of_output old.forest t (out.Ask asked) in
        let answers = flat_map (answer_text s) xs in
        ap (λ l. mid ++ l) (same_answer_texts s u like refl xs)
        ∙ ap (λ l. l ++ answers) (ticks.text_is
        ∙ ap (λ l. l ++ wake_line_of_output k.forest t (out.Ask asked)) (same_shorts old.forest k.forest like ticks.keeper.shortened)
        ∙ ap (λ l. shorts ++ l) (same_wake old.forest k.forest like t (out.Ask asked)))
        ∙ append_assoc shorts wake answers

    under_way : (b : Option Behind) (xs : List Exchanged) (others : List ℕ) (new : World) → map (λ (x : Exchanged). x.entry) xs ++ others ≡ asked → AreAnswered port cs t (both k b) xs new → TickIsUnderWay port cs (both old b) (beat xs) others new
    under_way b xs others new who answered = record {
      keeper = ticks.keeper;
      turn = ticks.turn;
      short = refl;
      asked = who;
      answered = subst (λ q. AreAnswered port cs t (both q b) xs new) ticks.is answered;
    }

    -- nobody is asked yet
    pub none_asked : (b : Option Behind) → TicksUpTo port cs t (both old b) (both k b) [] mid
    unfolding s
    none_asked b = (beat [], (asked, (refl, (under_way b [] asked (both k b) refl refl, inl (refl, (refl, sym (append-nil mid) ∙ told_text []))))))

    -- some are answered
    pub some_answered : (b : Option Behind) (new : World) (told : List ℕ) (r : IsRoundSoFar port cs t (both k b) asked new told) → TicksSoFar port cs t (both old b) r.others new (mid ++ told)
    unfolding s
    some_answered b new told r = (beat r.xs, (refl, (refl, (under_way b r.xs r.others new r.who r.answered, ap (λ l. mid ++ l) r.told_is ∙ told_text r.xs))))

    -- and the lines of the last answer are under way
    pub one_more : (b : Option Behind) (new : World) (told own : List ℕ) → IsRoundUpTo port cs t (both k b) asked new told own → TicksUpTo port cs t (both old b) new (mid ++ told) own
    unfolding s
    one_more b new told own r = (
      beat (r.before ++ r.x ∷ []),
      (
        r.others,
        (
          refl,
          (
            under_way b (r.before ++ r.x ∷ []) r.others new r.who r.answered,
            inr (inl (r.before, (r.x, (refl, (ap (λ l. mid ++ l) r.told_is ∙ told_text r.before, r.own_is ∙ same_answer_text s u like refl r.x))))),
          ),
        ),
      ),
    )

    module _ (b : Option Behind) (new : World) (next : Option ℕ) (told : List ℕ) (a : AnswersAll port cs t (both k b) asked next new [] told) where
      -- all are answered, and the last line is under way
      pub last_under_way : TicksUpTo port cs t (both old b) new (mid ++ told) (next_tick_line next)
      unfolding s
      last_under_way = (
        beat a.xs,
        (
          [],
          (
            refl,
            (
              under_way b a.xs [] new (append-nil (map (λ (x : Exchanged). x.entry) a.xs) ∙ a.who) a.answered,
              inr (inr (refl, (refl, (ap (λ l. mid ++ l) a.text_is ∙ told_text a.xs, ap next_tick_line a.next_is)))),
            ),
          ),
        ),
      )

      -- the whole tick
      pub round_heard : TicksLive port cs t (both old b) new ((mid ++ told) ++ next_tick_line next)
      unfolding s
      round_heard =
          let is : IsBeat port cs (both old b) (beat a.xs) new = record {
            keeper = ticks.keeper;
            turn = ticks.turn;
            short = refl;
            asked = a.who;
            answered = subst (λ q. AreAnswered port cs t (both q b) a.xs new) ticks.is a.answered;
          } in
          (beat a.xs, (refl, (is, ap (λ n. (mid ++ told) ++ next_tick_line n) a.next_is ∙ ap (λ l. l ++ next_tick_line (closing None a.xs)) (ap (λ l. mid ++ l) a.text_is ∙ told_text a.xs))))

-- ---- by the names that the code has

-- a tick, with another name for the moment and the output
pub ticks_as :
    (at t : ℕ) (old new : CoreState) (output is : Output) (before after : List ℕ) → at ≡ t → output ≡ is → before ≡ [] → Ticks at old output new before after → Ticks t old is new [] after
ticks_as at t old new output is before after same says empty ticks =
    subst (λ n. Ticks n old is new [] after) same (subst (λ (o : Output). Ticks at old o new [] after) says (subst (λ l. Ticks at old output new l after) empty ticks))

pub on_ok : {X E : Type 0} {P : Type 0} (result : Result X E) → P → OnOk result P
on_ok (Ok x) p = p
on_ok (Err e) p = tt

pub round_as :
    (port : ℕ) (cs : List (List ℕ)) (t : ℕ) (old new : World) (lent asked : List ℕ) (result : Result (Option ℕ) Stop) (out : Change) → lent ≡ asked → TellsRound port cs t old lent result new out → TellsRound port cs t old asked result new out
round_as port cs t old new lent asked result out same h = subst (λ (is : List ℕ). TellsRound port cs t old is result new out) same h

-- why the keeper refuses a need, as the stop of a run
pub need_stops :
    (old new : CoreState) (i at until : ℕ) (fault : StepFault) (stop : Stop) (behind : Option Behind) → at ≡ until → IsPlanFault fault → CoreTurn old (events.Need i at) (Err fault) new → stop ≡ stop_of fault →
    StopsNeed (both old behind) (Need i until) stop (both new behind)
need_stops old new i at until steps.TooLong stop behind same is turn e =
    subst (λ (q : Stop). StopsNeed (both old behind) (Need i until) q (both new behind)) (sym e) (subst (λ n. CoreTurn old (events.Need i n) (Err steps.TooLong) new) same turn, refl)
need_stops old new i at until steps.OutOfMemory stop behind same is turn e = subst (λ (q : Stop). StopsNeed (both old behind) (Need i until) q (both new behind)) (sym e) tt
need_stops old new i at until _ stop behind same is turn e = absurd is
