-- Remembered: where another inventory is served, nothing is forgotten of the entries that were served before. For `nothing_is_forgotten`.
use Rattle.std.proofs.Common.{◌≡◌, ◌∙◌, ℕ, ◌<◌, Option, Some, None, length, refl, ap, arith}
use Rattle.std.proofs.lemmas.{Bool.cond-true, List.FromFn.get_or-map-range_with_len}
use Rattle.vault_inventory.specs.Inventories.{Inventory}
use Rattle.plan_forest.specs.Forest.{entry_at}
use Rattle.watch_machine.specs.{declared.change.Was.Was, declared.track.Track.Track, Beginning.untopped_track, Change.track_by, State.WatchState, State.track_at}
use Rattle.watch_machine.specs.declared.change.Was.TheVariants.{New, Same, Retold}
use Rattle.watch_machine.proofs.{Cases.if_both, Moved.changed_track}
use Rattle.agent_standing.specs.{Agent.Agent, Agent.standing_at, Laws.FreshLaw, Laws.RememberedLaw, Standings.fresh_standing, Standings.standing_in}
use Rattle.agent_standing.specs.Changed.{AgentIsChanged, all_was, carried_standing, former, is_said_again, standing_of, was_by, was_of}
use Rattle.agent_standing.proofs.Left.{Word, lookup_word, word}

module _ (old new : Agent) (s : Inventory) (h : AgentIsChanged old s new) (j : ℕ) (within : j < length s.forest.entries) where
  its_standing : (from : Option ℕ) → former old.inventory s j ≡ from → standing_at new j ≡ standing_of old from
  unfolding carried_standing
  its_standing from is =
      ap (λ xs. standing_in xs j) h.standings ∙ get_or-map-range_with_len (carried_standing old s) 0 (length s.forest.entries) j j fresh_standing within (omega arith) ∙ ap (standing_of old) is

  its_track : (from : Option ℕ) → former old.inventory s j ≡ from → track_at new.machine j ≡ track_by old.machine.clocks.at old.machine.tracks (entry_at s.forest.entries j) (was_by old.inventory s j from)
  unfolding all_was was_of
  its_track from is =
      ap (λ (m : WatchState). track_at m j) h.machine.state ∙ changed_track old.machine s.forest (all_was old.inventory s) j within
      ∙ ap (track_by old.machine.clocks.at old.machine.tracks (entry_at s.forest.entries j))
      (get_or-map-range_with_len (was_of old.inventory s) 0 (length s.forest.entries) j j New within (omega arith) ∙ ap (was_by old.inventory s j) is)

  -- of one that was served before: the two words are those that were believed
  its_word : (i : ℕ) → former old.inventory s j ≡ Some i → Word (track_at new.machine j) (track_at old.machine i)
  its_word i is =
      let x = track_at old.machine i in
      let at = old.machine.clocks.at in
      ap word (its_track (Some i) is)
      ∙ if_both (λ (w : Was). Word (track_by at old.machine.tracks (entry_at s.forest.entries j) w) x) (is_said_again old.inventory s i j) (Same i) (Retold i) refl (lookup_word at (untopped_track x))

pub remembered : RememberedLaw
remembered old new s h i j within is =
    let same = its_word old new s h j within i is in (
      its_standing old new s h j within (Some i) is,
      (
        ap (λ (x : Track). x.end) same,
        (
          ap (λ (x : Track). x.renewable) same,
          λ again.
              its_track old new s h j within (Some i) is
              ∙ ap (track_by old.machine.clocks.at old.machine.tracks (entry_at s.forest.entries j)) (cond-true (is_said_again old.inventory s i j) (Same i) (Retold i) again),
        ),
      ),
    )

pub fresh_elsewhere : FreshLaw
fresh_elsewhere old new s h j within is = (its_standing old new s h j within None is, its_track old new s h j within None is)
