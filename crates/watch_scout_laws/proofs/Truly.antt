-- Truly: an end that a true reply tells a scout comes no later than the real one. For the laws of real ends.
use Rattle.std.proofs.Common.{◌≡◌, ℕ, ◌+◌, List, [], ◌∷◌, Option, Some, None, ap, subst}
use Rattle.watch_machine.specs.{declared.event.WatchEvent.WatchEvent, declared.event.WatchEvent.TheVariants.Known, declared.event.WatchReply.WatchReply, State.WatchState, State.opened}
use Rattle.watch_machine.specs.declared.event.WatchReply.TheVariants.{Told, Refused, Busy, Lost}
use Rattle.watch_machine.specs.History.{Changes, Happening, Hands, state_after, stood}
use Rattle.watch_machine.proofs.Cases.{value_is}
use Rattle.watch_laws.specs.Ends.{AreLivedFrom, IsHonest, IsNoLater, IsTrueAt, IsTrueEvent, IsTrueReply, Lived, TimedWorld, asked_at, happened}
use Rattle.watch_laws.proofs.Ends.{never_past, told_end}
use Rattle.watch_scout.specs.State.{seen_at}
use Rattle.watch_scout.specs.Hearing.{end_told, event_of, event_where}
use Rattle.watch_scout_laws.specs.RealEnds.{AreLivedBehind, BehindLaw, HarmlessLaw, IsSinceBy, IsTrueBehind, IsTrueThere}
use Rattle.watch_scout_laws.proofs.Handing.{end_in, told_news}

pub harmless : HarmlessLaw
unfolding event_of
harmless w honest v i end renewable real o h = by (seen_at h.scout i).since h.reply h.since h.so h.event where
  by : (since : Option ℕ) (reply : WatchReply) → IsSinceBy since (w.reading h.asked + v.clocks.phase) → IsTrueReply h.asked real o reply → event_where v i since reply ≡ Some (Known i end renewable) →
      IsNoLater w v.clocks.phase end real o
  by None reply shown so is = absurd cc
  by (Some since) (Told seconds renewable' date) shown so is =
      let news = told_news v i since seconds renewable' date (Known i end renewable) is in
      let same : end_told since seconds ≡ end = ap end_in (value_is (Known i (end_told since seconds) renewable') (Known i end renewable) news.1) in
      subst (λ n. IsNoLater w v.clocks.phase n real o) same (told_end w honest h.asked since seconds v.clocks.phase real o shown so.0 so.1.0 so.1.1)
  by (Some since) (Refused status date) shown so is = absurd cc
  by (Some since) Busy shown so is = absurd cc
  by (Some since) Lost shown so is = absurd cc

-- what was lived behind another was lived by a watch
true_event : (w : TimedWorld) → IsHonest w → (i asked : ℕ) (s : WatchState) (l : Lived) (event : WatchEvent) → IsTrueBehind w i asked s l event → IsTrueEvent w i asked s l event
true_event w honest i asked s l (Known j end renewable) so = λ same. harmless w honest s i end renewable l.real l.origin (so same)
true_event w honest i asked s l _ so = so

true_there : (w : TimedWorld) → IsHonest w → (e : Option ℕ) (asked : ℕ) (s : WatchState) (l : Lived) (h : Happening) → IsTrueThere w e asked s l h → IsTrueAt w e asked s l h
true_there w honest None asked s l (Hands turn) so = so
true_there w honest None asked s l (Changes c) so = tt
true_there w honest (Some i) asked s l (Hands turn) so = true_event w honest i asked s l turn.event so
true_there w honest (Some i) asked s l (Changes c) so = tt

lived : (w : TimedWorld) → IsHonest w → (k : ℕ) (s : WatchState) (last asked real : ℕ) (ls : List Lived) → AreLivedBehind w k s last asked real ls → AreLivedFrom w k s last asked real ls
lived w honest k s last asked real [] h = tt
lived w honest k s last asked real (l ∷ ls) h =
    let e = stood (happened ls) k in
    (h.0, (h.1.0, (true_there w honest e asked s l l.happening h.1.1.0, (h.1.1.1.0, lived w honest k (state_after l.happening) l.at (asked_at e asked l l.happening) l.real ls h.1.1.1.1))))

pub behind : BehindLaw
behind w honest g width k real ls h = never_past w honest g width k real ls (lived w honest k (opened g width) 0 0 real ls h)
