-- Reached: what a new watch has, and every turn and every change keeps, holds of each state that a run leads to. For every law over runs.
use Rattle.std.proofs.Common.{ℕ, List, [], ◌∷◌, Result, subst}
use Rattle.plan_forest.specs.Forest.{Forest}
use Rattle.watch_machine.specs.{declared.command.WatchOutput.WatchOutput, declared.event.WatchEvent.WatchEvent, declared.fault.WatchFault.WatchFault, State.WatchState, State.opened}
use Rattle.watch_machine.specs.History.{AllHappen, Changed, Changes, Happening, Hands, History, IsChanged, IsReached, Turn, Turned, after_all, state_after_all}

module _ (P : WatchState → Type 0) (turns : (old new : WatchState) (event : WatchEvent) (result : Result WatchOutput WatchFault) → Turn old event result new → P old → P new) where
  pub ran_keeps : (ts : List Turned) (old : WatchState) → History old ts → P old → P (after_all old ts)
  ran_keeps [] old h p = p
  ran_keeps (turn ∷ ts) old h p = ran_keeps ts turn.state h.1 (turns old turn.state turn.event turn.result h.0 p)

  module _ (changes : (old : WatchState) (c : Changed) → IsChanged old c → P old → P c.state) where
    pub all_keep : (hs : List Happening) (old : WatchState) → AllHappen old hs → P old → P (state_after_all old hs)
    all_keep [] old h p = p
    all_keep (Hands turn ∷ hs) old h p = all_keep hs turn.state h.1 (turns old turn.state turn.event turn.result h.0 p)
    all_keep (Changes c ∷ hs) old h p = all_keep hs c.state h.1 (changes old c h.0 p)

    pub reached_has : ((g : Forest) (width : ℕ) → P (opened g width)) → (s : WatchState) → IsReached s → P s
    reached_has first s r = subst P r.leads (all_keep r.run (opened r.forest r.width) r.is_run (first r.forest r.width))
