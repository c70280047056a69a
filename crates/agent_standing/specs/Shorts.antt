-- Shorts: which needs are said to be past what their entries reach, and when.
-- Source: this project's own.
use Rattle.std.specs.Prelude.{ℕ, ◌+◌, ◌/◌, Bool, not, ◌&&◌, ◌||◌, if◌then◌else◌, List, [], ◌∷◌, Option, Some, None, length, map, min, nat_le}
use Rattle.std.specs.List.{flat_map, range_with_len}
use Rattle.base_moment.specs.declared.moment.TheConstants.{LAST}
use Rattle.vault_inventory.specs.{Inventories.terms_at, declared.terms.Terms.Terms}
use Rattle.watch_machine.specs.{Outlook.broker_now, Shortness.is_news, Shortness.short_of}
use Rattle.watch_machine.specs.State.{WatchState, entry_of, track_at}
use Rattle.agent_standing.specs.{declared.shorts.Short.Short, declared.standing.EntryStanding.EntryStanding, Agent.Agent, Standings.standing_in, Status.has_ended, Status.is_gone}

-- how long before its reach an entry has to be issued again: the margin, and no more than a twentieth of its step
unfoldable pub notice_of : ℕ → ℕ → ℕ
notice_of margin step = min margin (step / 20)

-- of an entry that is reissued it is said no sooner than its notice before; of another, where its need never ends, than a day before
abbrev pub is_near : Bool → ℕ → ℕ → ℕ → ℕ → Bool
is_near reissued notice now need reach = if reissued then nat_le reach (now + notice) else (not (nat_le LAST need) || nat_le reach (now + 86400))

abbrev pub news_of_reach : Bool → ℕ → ℕ → ℕ → ℕ → Option ℕ → Option ℕ → Option ℕ
news_of_reach reissued margin notice now need last None = None
news_of_reach reissued margin notice now need last (Some reach) = if is_news margin last reach && is_near reissued notice now need reach then Some reach else None

-- the reach of an entry that is to be said, given what was said last
abbrev pub news_in : WatchState → List Terms → ℕ → Option ℕ → Option ℕ
news_in m ts i last = news_of_reach (terms_at ts i).reissued m.forest.margin (notice_of m.forest.margin (entry_of m i).step) (broker_now m) (entry_of m i).need last (short_of m i)

-- nothing of one that is gone or has ended: that was said, and says more
abbrev pub news_of_entry : WatchState → List Terms → ℕ → EntryStanding → Option ℕ
news_of_entry m ts i x = if is_gone x.trouble || has_ended m (track_at m i).end then None else news_in m ts i x.short

abbrev pub short_at : ℕ → Bool → Option ℕ → List Short
short_at i reissued None = []
short_at i reissued (Some reach) = record { entry = i; reach = reach; reissued = reissued } ∷ []

-- all that is to be said, by entry
unfoldable pub shorts_in : WatchState → List Terms → List EntryStanding → List Short
shorts_in m ts xs = flat_map (λ i. short_at i (terms_at ts i).reissued (news_of_entry m ts i (standing_in xs i))) (range_with_len 0 (length xs))

abbrev pub shorts_of : Agent → List Short
shorts_of a = shorts_in a.machine a.inventory.terms a.standings

-- once it is said
abbrev pub said_short : Option ℕ → Option ℕ → Option ℕ
said_short last None = last
said_short last (Some reach) = Some reach

unfoldable pub said_standing : WatchState → List Terms → ℕ → EntryStanding → EntryStanding
said_standing m ts i x = record x { short = said_short x.short (news_of_entry m ts i x) }

unfoldable pub said_standings : WatchState → List Terms → List EntryStanding → List EntryStanding
said_standings m ts xs = map (λ i. said_standing m ts i (standing_in xs i)) (range_with_len 0 (length xs))

abbrev pub all_said : Agent → Agent
all_said a = record a { standings = said_standings a.machine a.inventory.terms a.standings }
