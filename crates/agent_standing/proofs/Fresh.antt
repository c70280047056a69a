-- Fresh: an agent that serves from now on is one. For `new`.
use Rattle.std.proofs.Common.{◌≡◌, ℕ, zero, suc, None, All, length, map, replicate, refl, sym, ap, subst, arith, inl, inr}
use Rattle.std.proofs.lemmas.{Bool.cases_lt, List.Elements.All-cons, List.Elements.All-nil}
use Rattle.std.proofs.lemmas.List.{get_or-map, get_or_past, length-map, length-replicate}
use Rattle.vault_inventory.specs.Inventories.{Inventory}
use Rattle.plan_forest.specs.Forest.{Forest, no_entry}
use Rattle.watch_machine.specs.{declared.track.End.TheVariants.Unknown, declared.track.Track.Track}
use Rattle.watch_machine.specs.State.{fresh_track, no_track, opened, track_at}
use Rattle.agent_standing.specs.{declared.standing.EntryStanding.EntryStanding, Standings.fresh_standing, Standings.standing_in}
use Rattle.agent_standing.specs.Agent.{Believes, IsAgent, IsStanding, fresh}

-- nobody has told an end of a Watch that is new
pub opened_unknown : (g : Forest) (width i : ℕ) → (track_at (opened g width) i).end ≡ Unknown
opened_unknown g width i =
    elim (cases_lt i (length g.entries)) [
      | inl within ↦ ap (λ (x : Track). x.end) (get_or-map fresh_track g.entries i no_entry no_track within)
      | inr past ↦ ap (λ (x : Track). x.end) (get_or_past (map fresh_track g.entries) i no_track (let n = length-map g.entries fresh_track in omega (arith, n, past)))
    ]

fresh_in : (n i : ℕ) → standing_in (replicate n fresh_standing) i ≡ fresh_standing
fresh_in zero i = refl
fresh_in (suc n) zero = refl
fresh_in (suc n) (suc i) = fresh_in n i

all_fresh : (n : ℕ) → All IsStanding (replicate n fresh_standing)
all_fresh zero = All-nil IsStanding
all_fresh (suc n) = All-cons IsStanding fresh_standing (replicate n fresh_standing) tt (all_fresh n)

-- nothing is believed, and nothing was told
pub unknown_believed : (x : Track) → x.end ≡ Unknown → Believes x.end x.renewable None
unknown_believed x is = subst (λ e. Believes e x.renewable None) (sym is) refl

pub fresh_is_agent : (s : Inventory) (width : ℕ) → IsAgent (fresh s width)
fresh_is_agent s width = record {
  entries = refl;
  tracks = length-map s.forest.entries fresh_track;
  standings = length-replicate (length s.forest.entries) fresh_standing;
  phase = omega arith;
  bounded = all_fresh (length s.forest.entries);
  believed = λ i.
      subst (λ (x : EntryStanding). Believes (track_at (opened s.forest width) i).end (track_at (opened s.forest width) i).renewable x.told) (sym (fresh_in (length s.forest.entries) i))
      (unknown_believed (track_at (opened s.forest width) i) (opened_unknown s.forest width i));
}
