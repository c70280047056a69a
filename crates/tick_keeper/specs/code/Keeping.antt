-- Keeping: what a keeper holds beside its state. No public clause cites it.
-- Source: this project's own.
use Rattle.std.specs.Prelude.{◌≡◌, ℕ, ◌≤◌, ◌<◌, Bool, true, false, not, ◌&&◌, if◌then◌else◌, List, ◌∷◌, Option, Some, None, filter, length, slice_index_or}
use Rattle.std.specs.List.{range_with_len}
use Rattle.base_moment.specs.declared.moment.TheConstants.{LAST}
use Rattle.plan_forest.specs.{Push.IsForest, Renewal.renewal}
use Rattle.plan_forest.specs.Forest.{Forest, end_of, entry_at}
use Rattle.plan_rule.specs.{Asks.asking, Asks.first_of, Ends.is_asked, declared.force.Force.Force, Runs.moments_of, declared.limit.TheConstants.LIMIT}
use Rattle.plan_needs.specs.Carried.{IsCarried}
use Rattle.plan_search.specs.Planned.{Planned, to_come}
use Rattle.tick_keeper.specs.{declared.round.OpenRound.OpenRound, InForce.AllForcedAs, Replan.IsPlanOf, State.Round, States.RoundIsOpened}

-- whether the answer of an entry is waited for
abbrev pub flag_of : List Bool → ℕ → Bool
flag_of flags i = slice_index_or flags i false

-- the entries whose answers are waited for, by index
unfoldable pub waited_for : List Bool → List ℕ
waited_for flags = filter (flag_of flags) (range_with_len 0 (length flags))

-- what callers see of a round
abbrev pub shown_round : OpenRound → Round
shown_round r = record { at = r.at; unanswered = waited_for r.waiting.items }

abbrev pub seen_round : Option OpenRound → Option Round
seen_round None = None
seen_round (Some r) = Some (shown_round r)

-- g is the forest at the opening of a round at t, with a plan whose first wake-up was x and whose others are still to come;
-- of the entries that were asked, those that are no longer waited for were told the rule's end and stay renewable
pub record RoundIsByRule (h : Forest) (t : ℕ) (p : Planned) (flags : List Bool) : Type 0 where
  pub g : Forest
  pub forest : IsForest g
  pub x : Force
  pub at : x.at ≡ t
  pub best : IsPlanOf g t (t ∷ moments_of (to_come p))
  pub forced : AllForcedAs g.entries g.margin t (end_of g.entries) None (x ∷ to_come p)
  pub margin : h.margin ≡ g.margin
  pub count : length h.entries ≡ length g.entries
  pub asked : (i : ℕ) → flag_of flags i ≡ true → is_asked (asking g.entries g.margin t (end_of g.entries) t (first_of (moments_of (to_come p)))) i ≡ true
  pub each : (i : ℕ) → entry_at h.entries i
      ≡ record (entry_at g.entries i) { end = if is_asked (asking g.entries g.margin t (end_of g.entries) t (first_of (moments_of (to_come p)))) i && not (flag_of flags i) then renewal (entry_at g.entries i) t else (entry_at g.entries i).end }

-- a round that is open since the last moment
pub record IsOpen (h : Forest) (last : ℕ) (p : Planned) (r : OpenRound) : Type 0 where
  pub at : r.at ≡ last
  pub count : length r.waiting.items ≡ length h.entries
  pub left : r.left ≡ length (waited_for r.waiting.items)
  pub some : 0 < r.left
  pub opened : RoundIsOpened h (moments_of (to_come p)) (shown_round r)
  pub by_rule : r.by_rule ≡ true → RoundIsByRule h last p r.waiting.items

-- a forest, the last moment, a plan and a round, if one is open, that belong together
pub record IsKeeper (h : Forest) (last : ℕ) (p : Planned) (round : Option OpenRound) : Type 0 where
  pub forest : IsForest h
  pub late : last ≤ LAST
  pub carried : IsCarried h p.start p.carried
  pub start : p.start ≤ last
  pub few : length (to_come p) ≤ LIMIT
  pub best : round ≡ None → IsPlanOf h last (moments_of (to_come p))
  pub forced : round ≡ None → AllForcedAs h.entries h.margin last (end_of h.entries) None (to_come p)
  pub open_round : (r : OpenRound) → round ≡ Some r → IsOpen h last p r
