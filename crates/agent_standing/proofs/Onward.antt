-- Onward: an agent that serves another inventory is one. For `change`.
use Rattle.std.proofs.Common.{◌≡◌, ◌∙◌, ℕ, List, Option, Some, None, All, ap, arith, inl, inr, length, map, refl, subst, sym}
use Rattle.std.proofs.lemmas.{Bool.cases_lt, List.get_or_past, List.FromFn.get_or-map-range_with_len, List.FromFn.length-map-range_with_len}
use Rattle.std.specs.List.{range_with_len}
use Rattle.vault_inventory.specs.Inventories.{Inventory}
use Rattle.plan_forest.specs.{declared.entry.Entry.Entry, Forest.entry_at}
use Rattle.watch_machine.specs.{declared.change.Was.Was, declared.track.Track.Track, Beginning.owing_lookup, Beginning.untopped_track}
use Rattle.watch_machine.specs.declared.change.Was.TheVariants.{New, Same, Retold}
use Rattle.watch_machine.specs.Change.{changed, entry_by, forest_after, track_by, tracks_after, was_at}
use Rattle.watch_machine.specs.State.{fresh_track, no_track, track_at}
use Rattle.watch_machine.proofs.Cases.{if_both}
use Rattle.agent_standing.specs.{declared.standing.EntryStanding.EntryStanding, declared.standing.Told.Told, Standings.fresh_standing, Standings.standing_in}
use Rattle.agent_standing.specs.Agent.{Agent, Believes, IsAgent, IsStanding, standing_at}
use Rattle.agent_standing.specs.Changed.{all_was, carried_standing, former, is_said_again, standing_of, was_by, was_of}
use Rattle.agent_standing.proofs.{Believing.still_believed, Fresh.unknown_believed, Left.lookup_word}

abbrev Believed : Track → Option Told → Type 0
Believed x told = Believes x.end x.renewable told

-- what is believed of an entry, by where it was, is what was told of it there
by_was : (old : Agent) (s : Inventory) (e : Entry) (at j : ℕ) → IsAgent old → (o : Option ℕ) → Believed (track_by at old.machine.tracks e (was_by old.inventory s j o)) (standing_of old o).told
by_was old s e at j agent None = unknown_believed (owing_lookup at (fresh_track e)) (ap (λ (x : Track). x.end) (lookup_word at (fresh_track e)))
by_was old s e at j agent (Some i) =
    let x = track_at old.machine i in
    if_both (λ (w : Was). Believed (track_by at old.machine.tracks e w) (standing_at old i).told) (is_said_again old.inventory s i j) (Same i) (Retold i) (agent.believed i)
    (still_believed (owing_lookup at (untopped_track x)) x (standing_at old i).told (lookup_word at (untopped_track x)) (agent.believed i))

module _ (old : Agent) (s : Inventory) (agent : IsAgent old) where
  -- of each
  it_is_believed : (j : ℕ) → Believed (track_at (changed old.machine s.forest (all_was old.inventory s)) j) (standing_in (map (carried_standing old s) (range_with_len 0 (length s.forest.entries))) j).told
  unfolding tracks_after all_was was_of carried_standing
  it_is_believed j =
      let n = length s.forest.entries in
      let at = old.machine.clocks.at in
      let xs = old.machine.tracks in
      let e = entry_at s.forest.entries j in
      let made : ℕ → Track = λ k. track_by at xs (entry_at s.forest.entries k) (was_at (all_was old.inventory s) k) in
      elim (cases_lt j n) as (λ _. Believed (track_at (changed old.machine s.forest (all_was old.inventory s)) j) (standing_in (map (carried_standing old s) (range_with_len 0 n)) j).told) [
        | inl within ↦
            subst (λ (x : Track). Believed x (standing_in (map (carried_standing old s) (range_with_len 0 n)) j).told)
            (sym (get_or-map-range_with_len made 0 n j j no_track within (omega arith) ∙ ap (track_by at xs e) (get_or-map-range_with_len (was_of old.inventory s) 0 n j j New within (omega arith))))
            (subst (λ (x : EntryStanding). Believed (track_by at xs e (was_of old.inventory s j)) x.told)
            (sym (get_or-map-range_with_len (carried_standing old s) 0 n j j fresh_standing within (omega arith)))
            (by_was old s e at j agent (former old.inventory s j)))
        | inr past ↦
            subst (λ (x : Track). Believed x (standing_in (map (carried_standing old s) (range_with_len 0 n)) j).told)
            (sym (get_or_past (map made (range_with_len 0 n)) j no_track (let l = length-map-range_with_len made 0 n in omega (arith, l, past))))
            (subst (λ (x : EntryStanding). Believed no_track x.told)
            (sym (get_or_past (map (carried_standing old s) (range_with_len 0 n)) j fresh_standing (let l = length-map-range_with_len (carried_standing old s) 0 n in omega (arith, l, past))))
            (unknown_believed no_track refl))
      ]

  pub changed_is_agent :
      (xs : List EntryStanding) (n : ℕ) → xs ≡ map (carried_standing old s) (range_with_len 0 (length s.forest.entries)) → All IsStanding xs →
      IsAgent (record { machine = changed old.machine s.forest (all_was old.inventory s); inventory = s; standings = xs; beginnings = n })
  unfolding forest_after tracks_after
  changed_is_agent xs n standings bounded =
      let es = old.machine.forest.entries in
      let was = all_was old.inventory s in
      let many = length s.forest.entries in
      let entries = length-map-range_with_len (λ j. entry_by s.forest.margin es (entry_at s.forest.entries j) (was_at was j)) 0 many in
      let tracks = length-map-range_with_len (λ j. track_by old.machine.clocks.at old.machine.tracks (entry_at s.forest.entries j) (was_at was j)) 0 many in
      record {
        entries = entries;
        tracks = tracks ∙ sym entries;
        standings = ap length standings ∙ length-map-range_with_len (carried_standing old s) 0 many;
        phase = agent.phase;
        bounded = bounded;
        believed = λ j. subst (λ ys. Believed (track_at (changed old.machine s.forest was) j) (standing_in ys j).told) (sym standings) (it_is_believed j);
      }
