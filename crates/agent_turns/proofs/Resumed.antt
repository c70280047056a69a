-- Resumed: ends that were told before are handed in one after another, and each leaves what is held in step with the lanes. For `resume`
-- and its parts.
use Rattle.std.proofs.Common.{ℕ, ◌+◌, ◌<◌, List, [], ◌∷◌, ◌++◌, length, slice_index_or, take, refl, sym, subst}
use Rattle.std.proofs.lemmas.List.{take_more}
use Rattle.agent_standing.specs.Agent.{Agent}
use Rattle.vault_asking.proofs.Sound.{turn_known}
use Rattle.vault_lanes.specs.Out as lanes
use Rattle.watch_machine.specs.declared.event.WatchEvent.{WatchEvent}
use Rattle.watch_machine.specs.declared.event.WatchEvent.TheVariants as events
use Rattle.agent_turns.specs.{Held.Held, Held.IsInStep, Resuming.AreResumed, Resuming.IsResumed}
use Rattle.agent_turns.proofs.Changed.{turned_in_step}

resumed_join : (es : List WatchEvent) (e : WatchEvent) (old mid new : Agent) → AreResumed es old mid → IsResumed e mid new → AreResumed (es ++ e ∷ []) old new
resumed_join [] e old mid new h one = (new, (subst (λ (a : Agent). IsResumed e a new) h one, refl))
resumed_join (x ∷ xs) e old mid new h one = (h.0, (h.1.0, resumed_join xs e h.0 mid new h.1.1 one))

-- one more of a list
pub resumed_on : (es : List WatchEvent) (i : ℕ) (d : WatchEvent) (old mid new : Agent) → i < length es → AreResumed (take i es) old mid → IsResumed (slice_index_or es i d) mid new → AreResumed (take (i + 1) es) old new
resumed_on es i d old mid new within h one = subst (λ (l : List WatchEvent). AreResumed l old new) (sym (take_more es i d within)) (resumed_join (take i es) (slice_index_or es i d) old mid new h one)

-- it stays in step
resumed_in_step : (width : ℕ) (out : List lanes.Out) (e : WatchEvent) (h : Held) (new : Agent) → IsResumed e h.agent new → IsInStep width out h → IsInStep width out (record h { agent = new })
resumed_in_step width out (events.Known i end renewable) h new is step =
    turned_in_step width out (events.Known i end renewable) h new (λ output turn. turn_known h.agent.machine new.machine i end renewable output turn.machine step.sound) is.0 is.1 step
resumed_in_step width out _ h new is step = subst (λ (a : Agent). IsInStep width out (record h { agent = a })) (sym is) step

pub all_resumed_in_step : (width : ℕ) (out : List lanes.Out) (es : List WatchEvent) (h : Held) (new : Agent) → AreResumed es h.agent new → IsInStep width out h → IsInStep width out (record h { agent = new })
all_resumed_in_step width out [] h new all step = subst (λ (a : Agent). IsInStep width out (record h { agent = a })) (sym all) step
all_resumed_in_step width out (e ∷ rest) h new all step =
    all_resumed_in_step width out rest (record h { agent = all.0 }) new all.1.1 (resumed_in_step width out e h all.0 all.1.0 step)
