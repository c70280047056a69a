-- Alike lines: over two brokers whose tables differ in credentials alone, one keeper says the same to the same event lines.
use Rattle.std.proofs.Common.{◌≡◌, ◌∙◌, ℕ, ◌<◌, true, List, [], ◌∷◌, ◌++◌, Option, Some, None, Ok, codes, nat_lt, refl, sym, ap, subst, arith, inl, inr}
use Rattle.std.proofs.lemmas.Bool.Decides.{nat_tests}
use Rattle.std.proofs.lemmas.Bool.{cases_Bool, cond-true, cond-false}
use Rattle.base_moment.specs.declared.moment.TheConstants.{LAST}
use Rattle.plan_forest.specs.Forest.{Forest}
use Rattle.vault_inventory.specs.{Inventories.IsInventory, declared.terms.Terms.Terms}
use Rattle.tick_keeper.specs.declared.event.Event.TheVariants as events
use Rattle.tick_keeper.specs.{declared.event.Output.Output, History.CoreTurn, Refusal.step_refusal, Refusal.unless_closed, State.CoreState}
use Rattle.tick_keeper.specs.declared.fault.StepFault.TheVariants.{ClockBack, OutOfRange}
use Rattle.tick_keeper.specs.declared.event.Output.TheVariants as out
use Rattle.tick_keeper.proofs.{Once.once, Shaped.shape}
use Rattle.vault_exchange.specs.Exchanges.{Behind}
use Rattle.broker_alike.specs.Alike.{AreBrokersAlike, KeepsSupplied}
use Rattle.tick_runs.specs.{Secrecy.AlikeAnswersLaw, Secrecy.AreWorldsAlike, Listening.EventLineIsHeard, Listening.EventLinesAreHeard, Stops.both}
use Rattle.tick_runs.specs.Closed.{Exchanged, World, next_by, shorts_taken}
use Rattle.tick_runs.specs.Hearing.{EventIsHeard, NeedIsInForce, TicksLive, last_tick_line, next_tick_line}
use Rattle.tick_runs.specs.Text.{beat_text, inventory_with, short_need_lines}
use Rattle.program_lines.specs.declared.event_line.HeardLine.{HeardLine}
use Rattle.program_lines.specs.declared.event_line.HeardLine.TheVariants.{Tick, Need, Unknown}
use Rattle.tick_runs.proofs.{Shaped.kept_shaped, AlikeRuns.beats_both}

-- a tick before the last moment is no step
late_refused : (s k : CoreState) (t : ℕ) (output : Output) → t < s.last → CoreTurn s (events.Tick t) (Ok output) k → ⊥
unfolding step_refusal
late_refused s k t output late turn =
    let back : nat_lt t s.last ≡ true = grind (arith, nat_tests) in
    let rest = cond-true (nat_lt t s.last) (Some ClockBack) (unless_closed s) back in
    elim (cases_Bool (nat_lt LAST t)) [
      | inl far ↦ (let bad : None ≡ Some OutOfRange = sym turn.0 ∙ cond-true (nat_lt LAST t) (Some OutOfRange) _ far in cc)
      | inr near ↦ (let bad : None ≡ Some ClockBack = sym turn.0 ∙ cond-false (nat_lt LAST t) (Some OutOfRange) _ near ∙ rest in cc)
    ]

last_of : (o : Output) (xs ys : List Exchanged) → next_by o ys ≡ next_by o xs → last_tick_line o ys ≡ last_tick_line o xs
last_of (out.Ask asked) xs ys same = ap next_tick_line same
last_of _ xs ys same = refl

last_same : (o p : Output) (xs ys : List Exchanged) → p ≡ o → next_by p ys ≡ next_by o xs → last_tick_line p ys ≡ last_tick_line o xs
last_same o p xs ys same next = ap (λ (q : Output). last_tick_line q ys) same ∙ last_of o xs ys (ap (λ (q : Output). next_by q ys) (sym same) ∙ next)

module _ (g : Forest) (cs ds : List (List ℕ)) (ts : List Terms) (one : IsInventory (record { forest = g; credentials = cs; terms = ts })) (two : IsInventory (record { forest = g; credentials = ds; terms = ts })) where
  -- what one line leaves
  record AreHeardAlike (new last : World) (text more : List ℕ) : Type 0 where
    text_is : more ≡ text
    keeper : last.keeper ≡ new.keeper
    brokers : AreBrokersAlike g cs ds new.behind last.behind
    kept : KeepsSupplied g new.keeper.forest

  nothing_done : (k : CoreState) (b c : Option Behind) (new last : World) (text more said : List ℕ) → KeepsSupplied g k.forest → AreBrokersAlike g cs ds b c → new ≡ both k b → last ≡ both k c → text ≡ said → more ≡ said → AreHeardAlike new last text more
  nothing_done k b c new last text more said like alike stays stays' is is' = record {
    text_is = is' ∙ sym is;
    keeper = ap (λ (w : World). w.keeper) stays' ∙ ap (λ (w : World). w.keeper) (sym stays);
    brokers = subst (λ (w : World). AreBrokersAlike g cs ds w.behind last.behind) (sym stays) (subst (λ (w : World). AreBrokersAlike g cs ds b w.behind) (sym stays') alike);
    kept = subst (λ (w : World). KeepsSupplied g w.keeper.forest) (sym stays) like;
  }

  ticks_alike : (port other t : ℕ) (k : CoreState) (b c : Option Behind) (new last : World) (text more : List ℕ) → KeepsSupplied g k.forest → AreBrokersAlike g cs ds b c → TicksLive port cs t (both k b) new text → TicksLive other ds t (both k c) last more →
      AreHeardAlike new last text more
  ticks_alike port other t k b c new last text more like alike a d =
      let x = a.0 in
      let y = d.0 in
      let beats = beats_both g cs ds ts one two k.forest [] like port other k b c x y new last like (d.1.0 ∙ sym a.1.0) alike a.1.1.0 d.1.1.0 in
      record {
        text_is = d.1.1.1
            ∙ ap (λ l. l ++ last_tick_line y.output y.answers) beats.text
            ∙ ap (λ l. beat_text (inventory_with cs k.forest) x ++ l) (last_same x.output y.output x.answers y.answers beats.output beats.next)
            ∙ sym a.1.1.1;
        keeper = beats.keeper;
        brokers = beats.brokers;
        kept = beats.kept;
      }

  needs_alike : (i until : ℕ) (k : CoreState) (b c : Option Behind) (new last : World) (text more : List ℕ) → KeepsSupplied g k.forest → AreBrokersAlike g cs ds b c → NeedIsInForce i until (both k b) new text → NeedIsInForce i until (both k c) last more → AreHeardAlike new last text more
  needs_alike i until k b c new last text more like alike a d =
      let event = events.Need i until in
      let turns = once k a.keeper d.keeper event (Ok out.Planned) (Ok out.Planned) (λ bad. cc) (λ bad. cc) a.turn d.turn in
      let first : new.keeper ≡ shorts_taken a.keeper = ap (λ (w : World). w.keeper) a.is in
      record {
        text_is = d.text_is ∙ ap (λ (z : CoreState). short_need_lines z.forest z.shortened ++ codes "planned\n") (sym turns.1) ∙ sym a.text_is;
        keeper = ap (λ (w : World). w.keeper) d.is ∙ ap shorts_taken (sym turns.1) ∙ sym first;
        brokers = subst (λ (w : World). AreBrokersAlike g cs ds w.behind last.behind) (sym a.is) (subst (λ (w : World). AreBrokersAlike g cs ds b w.behind) (sym d.is) alike);
        kept = subst (λ (z : CoreState). KeepsSupplied g z.forest) (sym first) (kept_shaped g k.forest a.keeper.forest like (shape k a.keeper event (Ok out.Planned) a.turn));
      }

  heard_alike : (port other : ℕ) (says : HeardLine) (k : CoreState) (b c : Option Behind) (new last : World) (text more : List ℕ) → KeepsSupplied g k.forest → AreBrokersAlike g cs ds b c → EventIsHeard port cs (both k b) says new text → EventIsHeard other ds (both k c) says last more →
      AreHeardAlike new last text more
  heard_alike port other (Tick t) k b c new last text more like alike (inl a) (inl d) = nothing_done k b c new last text more (codes "fault clock-back\n") like alike a.1.0 d.1.0 a.1.1 d.1.1
  heard_alike port other (Tick t) k b c new last text more like alike (inl a) (inr d) =
      absurd (late_refused k d.1.1.0.keeper t d.0.output a.0 (subst (λ n. CoreTurn k (events.Tick n) (Ok d.0.output) d.1.1.0.keeper) d.1.0 d.1.1.0.turn))
  heard_alike port other (Tick t) k b c new last text more like alike (inr a) (inl d) =
      absurd (late_refused k a.1.1.0.keeper t a.0.output d.0 (subst (λ n. CoreTurn k (events.Tick n) (Ok a.0.output) a.1.1.0.keeper) a.1.0 a.1.1.0.turn))
  heard_alike port other (Tick t) k b c new last text more like alike (inr a) (inr d) = ticks_alike port other t k b c new last text more like alike a d
  heard_alike port other (Need i until) k b c new last text more like alike a d = needs_alike i until k b c new last text more like alike a d
  heard_alike port other Unknown k b c new last text more like alike a d = nothing_done k b c new last text more (codes "fault unknown-name\n") like alike a.0 d.0 a.1 d.1

  line_alike : (port other : ℕ) (k : CoreState) (b c : Option Behind) (line : List ℕ) (new last : World) (text more : List ℕ) → KeepsSupplied g k.forest → AreBrokersAlike g cs ds b c → EventLineIsHeard port cs (both k b) line new text →
      EventLineIsHeard other ds (both k c) line last more → (more ≡ text) × (AreWorldsAlike g cs ds new last × KeepsSupplied g new.keeper.forest)
  line_alike port other k b c line new last text more like alike a d =
      let says : d.says ≡ a.says = (let e = sym d.is ∙ a.is in cc) in
      let heard = heard_alike port other a.says k b c new last text more like alike a.heard (subst (λ (h : HeardLine). EventIsHeard other ds (both k c) h last more) says d.heard) in
      (heard.text_is, (record { keeper = heard.keeper; brokers = heard.brokers }, heard.kept))

  lines_alike : (port other : ℕ) (old begun new last : World) (lines : List (List ℕ)) (text more : List ℕ) → KeepsSupplied g old.keeper.forest → AreWorldsAlike g cs ds old begun → EventLinesAreHeard port cs old lines new text → EventLinesAreHeard other ds begun lines last more →
      (more ≡ text) × AreWorldsAlike g cs ds new last
  lines_alike port other old begun new last [] text more like alike a d = (
    d.1 ∙ sym a.1,
    subst (λ (x : World). AreWorldsAlike g cs ds x last) (sym a.0) (subst (AreWorldsAlike g cs ds old) (sym d.0) alike),
  )
  lines_alike port other old begun new last (line ∷ lines) text more like alike a d =
      let k = old.keeper in
      let second = subst (λ (z : CoreState). EventLineIsHeard other ds (both z begun.behind) line d.0 d.1.0) alike.keeper d.1.1.1.0 in
      let here = line_alike port other k old.behind begun.behind line a.0 d.0 a.1.0 d.1.0 like alike.brokers a.1.1.1.0 second in
      let rest = lines_alike port other a.0 d.0 new last lines a.1.1.0 d.1.1.0 here.1.1 here.1.0 a.1.1.1.1.0 d.1.1.1.1.0 in
      (d.1.1.1.1.1 ∙ ap (λ l. l ++ d.1.1.0) here.0 ∙ ap (λ l. a.1.0 ++ l) rest.0 ∙ sym a.1.1.1.1.1, rest.1)

pub alike_answers : AlikeAnswersLaw
alike_answers g cs ds ts one two port other old begun new last lines text more like alike a d = lines_alike g cs ds ts one two port other old begun new last lines text more like alike a d
