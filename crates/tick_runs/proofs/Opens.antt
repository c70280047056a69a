-- Opens: from ticks to an opened wake-up.
use Rattle.std.proofs.Common.{◌≡◌, ℕ, false, cond, List, [], ◌∷◌, ◌++◌, Option, Some, None, Ok, refl, sym, ap, ◌∙◌, subst, flat_map}
use Rattle.std.proofs.lemmas.List.{append-nil}
use Rattle.vault_exchange.specs.Exchanges.{Behind}
use Rattle.plan_rule.specs.Asks.{first_of}
use Rattle.tick_keeper.specs.{LawsOfSteps.IsShaped, declared.event.Event.TheVariants.Tick, declared.event.Output.Output, InForce.InForce, State.CoreState}
use Rattle.tick_keeper.specs.declared.event.Output.TheVariants as out
use Rattle.tick_keeper.proofs.{Once.next_asks, Shaped.shape, Turns.replan_force}
use Rattle.tick_runs.specs.Stops.{both}
use Rattle.tick_runs.specs.Closed.{Beat, IsBeat, asked_by_output, asks_some, next_by, rounds, request_count}
use Rattle.tick_runs.specs.code.Playing.{IsQuietTo, OpensAfterTicks, RunEnds, Ticks}
use Rattle.tick_runs.specs.Text.{beat_text, inventory_with, short_need_lines, wake_line_of_output}
use Rattle.tick_runs.proofs.Texts.{same_shorts, same_wake}

pub ticks_shaped : (t : ℕ) (old new : CoreState) (output : Output) (before after : List ℕ) → Ticks t old output new before after → IsShaped old.forest new.forest
ticks_shaped t old new output before after ticks =
    subst (λ (s : CoreState). IsShaped old.forest s.forest) (sym ticks.is) (shape old ticks.keeper (Tick t) (Ok output) ticks.turn)

-- a tick that asks nobody, as a tick of a run
silent : (t : ℕ) (old new : CoreState) (output : Output) (before after : List ℕ) → Ticks t old output new before after → Beat
silent t old new output before after ticks = record { at = t; output = output; short = ticks.keeper.shortened; answers = [] }

is_beat :
    (cs : List (List ℕ)) (behind : Option Behind) (t : ℕ) (old new : CoreState) (output : Output) (before after : List ℕ) → (ticks : Ticks t old output new before after) → asked_by_output output ≡ [] →
    IsBeat 8200 cs (both old behind) (silent t old new output before after ticks) (both new behind)
unfolding silent
is_beat cs behind t old new output before after ticks none = record {
  keeper = ticks.keeper;
  turn = ticks.turn;
  short = refl;
  asked = sym none;
  answered = ap (λ s. both s behind) ticks.is;
}

silent_text :
    (cs : List (List ℕ)) (t : ℕ) (old new : CoreState) (output : Output) (before after : List ℕ) → (ticks : Ticks t old output new before after) →
    after ≡ before ++ flat_map (beat_text (inventory_with cs old.forest)) (silent t old new output before after ticks ∷ [])
unfolding beat_text silent
silent_text cs t old new output before after ticks =
    let like = ticks_shaped t old new output before after ticks in
    let shorts = short_need_lines old.forest ticks.keeper.shortened in
    let wake = wake_line_of_output old.forest t output in
    ticks.text_is
    ∙ ap (λ l. before ++ (l ++ wake_line_of_output new.forest t output)) (same_shorts old.forest new.forest like ticks.keeper.shortened)
    ∙ ap (λ l. before ++ (shorts ++ l)) (same_wake old.forest new.forest like t output ∙ sym (append-nil wake))
    ∙ ap (λ l. before ++ l) (sym (append-nil (shorts ++ (wake ++ []))))

quiet_to :
    (cs : List (List ℕ)) (behind : Option Behind) (t : ℕ) (old new : CoreState) (output : Output) (before after : List ℕ) (next : Option ℕ) → (ticks : Ticks t old output new before after) → asked_by_output output ≡ [] →
    asks_some output ≡ false → next ≡ next_by output [] → IsQuietTo cs (both old behind) (Some t) (both new behind) next (silent t old new output before after ticks ∷ [])
unfolding rounds request_count silent
quiet_to cs behind t old new output before after next ticks none not_some leads = record {
  played = (refl, (both new behind, (is_beat cs behind t old new output before after ticks none, (refl, leads))));
  none_asked = ap (λ b. cond b (silent t old new output before after ticks ∷ []) []) not_some;
  none_sent = refl;
}

pub at_once : (cs : List (List ℕ)) (behind : Option Behind) (due : ℕ) (old new : CoreState) (asked before after : List ℕ) → Ticks due old (out.Ask asked) new before after → OpensAfterTicks cs behind old due due asked new before after
unfolding rounds request_count
at_once cs behind due old new asked before after ticks = record {
  beats = [];
  mid = old;
  quiet = record { played = (refl, refl); none_asked = refl; none_sent = refl };
  middle = before;
  quiet_text = sym (append-nil before);
  ticks = ticks;
}

pub after_sleep :
    (cs : List (List ℕ)) (behind : Option Behind) (due w : ℕ) (old mid new : CoreState) (asked before middle after : List ℕ) → Ticks due old (out.Sleep w) mid before middle → Ticks w mid (out.Ask asked) new middle after →
    OpensAfterTicks cs behind old due w asked new before after
after_sleep cs behind due w old mid new asked before middle after sleeps ticks = record {
  beats = silent due old mid (out.Sleep w) before middle sleeps ∷ [];
  mid = mid;
  quiet = quiet_to cs behind due old mid (out.Sleep w) before middle (Some w) sleeps refl refl refl;
  middle = middle;
  quiet_text = silent_text cs due old mid (out.Sleep w) before middle sleeps;
  ticks = ticks;
}

at_end :
    (cs : List (List ℕ)) (behind : Option Behind) (due : ℕ) (old new : CoreState) (output : Output) (before after : List ℕ) → (ticks : Ticks due old output new before after) → asked_by_output output ≡ [] →
    asks_some output ≡ false → None ≡ next_by output [] → RunEnds cs behind old due new before after
at_end cs behind due old new output before after ticks none not_some leads = record {
  beats = silent due old new output before after ticks ∷ [];
  quiet = quiet_to cs behind due old new output before after None ticks none not_some leads;
  text_is = silent_text cs due old new output before after ticks;
}

pub ends :
    (cs : List (List ℕ)) (behind : Option Behind) (due : ℕ) (old new : CoreState) (output : Output) (before after : List ℕ) → Ticks due old output new before after → ((w : ℕ) → output ≡ out.Sleep w → ⊥) →
    ((asked : List ℕ) → output ≡ out.Ask asked → ⊥) → RunEnds cs behind old due new before after
ends cs behind due old new out.Idle before after ticks not_sleep not_ask = at_end cs behind due old new out.Idle before after ticks refl refl refl
ends cs behind due old new out.Waiting before after ticks not_sleep not_ask = at_end cs behind due old new out.Waiting before after ticks refl refl refl
ends cs behind due old new (out.Round next) before after ticks not_sleep not_ask = at_end cs behind due old new (out.Round next) before after ticks refl refl refl
ends cs behind due old new out.Planned before after ticks not_sleep not_ask = at_end cs behind due old new out.Planned before after ticks refl refl refl
ends cs behind due old new (out.Sleep w) before after ticks not_sleep not_ask = absurd (not_sleep w refl)
ends cs behind due old new (out.Ask asked) before after ticks not_sleep not_ask = absurd (not_ask asked refl)

-- the tick after a sleep asks
pub then_asks :
    (due w : ℕ) (old mid new : CoreState) (output : Output) (before middle after : List ℕ) → Ticks due old (out.Sleep w) mid before middle → Ticks w mid output new middle after →
    (asked : List ℕ) × (output ≡ out.Ask asked)
then_asks due w old mid new output before middle after sleeps ticks =
    let step = sleeps.turn.1 in
    let in_force : InForce mid = subst InForce (sym sleeps.is) (replan_force old due sleeps.keeper step.0) in
    let first : first_of mid.to_come ≡ Some w = subst (λ (s : CoreState). first_of s.to_come ≡ Some w) (sym sleeps.is) step.1.0 in
    next_asks mid ticks.keeper w output in_force first ticks.turn
