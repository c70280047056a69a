-- Closed run: the Keeper step and the Broker step in turn. Ticks and answers are those of a live run too, over any exchange.
-- Source: this project's own.
use Rattle.std.specs.Prelude.{◌≡◌, ℕ, ◌≤◌, Bool, true, false, List, [], ◌∷◌, Option, Some, None, IfSome, Ok, length, map}
use Rattle.std.specs.List.{filter, sum_by}
use Rattle.plan_forest.specs.Forest.{Forest}
use Rattle.vault_inventory.specs.Inventories.{Inventory}
use Rattle.vault_exchange.specs.{Exchanges.Behind, Requests.RequestIsAsked, Requests.renewal_request}
use Rattle.vault_http.specs.declared.reply.Reply.{Reply}
use Rattle.broker_rule.specs.{declared.fault.NumberedFault.NumberedFault, Rows.broker_rows}
use Rattle.tick_keeper.specs.{declared.event.Event.Event, declared.event.Event.TheVariants.Tick, declared.event.Output.Output, declared.shortened.ShortNeed.ShortNeed, Replan.Replan, History.CoreTurn, State.CoreState, State.unplanned}
use Rattle.tick_keeper.specs.declared.event.Output.TheVariants as out
use Rattle.tick_runs.specs.{declared.rehearse.playing.TheConstants.MOST_WAKES, Replies.event_for}

-- both sides: the keeper, whose shortened needs were taken, and what stands after the exchange, where it is known: the broker's
-- table, and the bytes of the last request and its reply
pub record World : Type 0 where
  pub keeper : CoreState
  pub behind : Option Behind

-- one asked entry: the reply to its request, if one came; what the keeper put out, and the needs that it then shortened
pub record Exchanged : Type 0 where
  pub entry : ℕ
  pub reply : Option Reply
  pub output : Output
  pub short : List ShortNeed

-- one tick: its moment, what the keeper put out, the needs that it then shortened, and the answers of those who are asked
pub record Beat : Type 0 where
  pub at : ℕ
  pub output : Output
  pub short : List ShortNeed
  pub answers : List Exchanged

-- ---- one answer

-- a keeper whose shortened needs are taken
abbrev pub shorts_taken : CoreState → CoreState
shorts_taken s = record s { shortened = [] }

-- what the reply of an exchange means
unfoldable pub event_in : List (List ℕ) → Forest → Exchanged → Event
event_in cs g x = event_for cs g x.entry x.reply

-- the entry sends its request at t, and the reply gives the keeper's event. Where the broker's table is known, the reply is that of
-- its step; else it is whatever came
pub record RequestIsAnswered (port : ℕ) (cs : List (List ℕ)) (t : ℕ) (old : World) (x : Exchanged) (new : World) : Type 0 where
  pub asked : IfSome old.behind (λ b. RequestIsAsked b.table t (renewal_request port cs old.keeper.forest x.entry) x.reply new.behind)
  pub keeper : CoreState
  pub turn : CoreTurn old.keeper (event_in cs old.keeper.forest x) (Ok x.output) keeper
  pub short : x.short ≡ keeper.shortened
  pub taken_is : new.keeper ≡ shorts_taken keeper

-- one after another
abbrev pub AreAnswered : ℕ → List (List ℕ) → ℕ → World → List Exchanged → World → Type 0
AreAnswered port cs t old [] new = new ≡ old
AreAnswered port cs t old (x ∷ xs) new = (mid : World) × (RequestIsAnswered port cs t old x mid × AreAnswered port cs t mid xs new)

-- ---- one tick

-- who is asked
abbrev pub asked_by_output : Output → List ℕ
asked_by_output (out.Ask asked) = asked
asked_by_output output = []

-- the keeper is told the moment; whom it then asks, by index, is answered
pub record IsBeat (port : ℕ) (cs : List (List ℕ)) (old : World) (b : Beat) (new : World) : Type 0 where
  pub keeper : CoreState
  pub turn : CoreTurn old.keeper (Tick b.at) (Ok b.output) keeper
  pub short : b.short ≡ keeper.shortened
  pub asked : map (λ x. x.entry) b.answers ≡ asked_by_output b.output
  pub answered : AreAnswered port cs b.at (record { keeper = shorts_taken keeper; behind = old.behind }) b.answers new

-- the moment that closing a round told
abbrev pub told_next : Option ℕ → Output → Option ℕ
told_next before (out.Round next) = next
told_next before output = before

abbrev pub closing : Option ℕ → List Exchanged → Option ℕ
closing next [] = next
closing next (x ∷ xs) = closing (told_next next x.output) xs

-- the moment of the next tick: that of a Sleep or of the Round
abbrev pub next_by : Output → List Exchanged → Option ℕ
next_by (out.Sleep w) answers = Some w
next_by (out.Ask asked) answers = closing None answers
next_by output answers = None

abbrev pub next_tick : Beat → Option ℕ
next_tick b = next_by b.output b.answers

-- ---- the run

-- these ticks one after another, the first of them, if any, at `due`; then the next is at `next`, if any
abbrev pub Played : ℕ → List (List ℕ) → World → Option ℕ → List Beat → World → Option ℕ → Type 0
Played port cs old due [] new next = (new ≡ old) × (next ≡ due)
Played port cs old None (b ∷ bs) new next = ⊥
Played port cs old (Some t) (b ∷ bs) new next = (b.at ≡ t) × ((mid : World) × (IsBeat port cs old b mid × Played port cs mid (next_tick b) bs new next))

-- the keeper planned from the start, and the broker's table, of the same inventory
pub record IsRunOpening (inventory : Inventory) (faults : List NumberedFault) (start : ℕ) (short : List ShortNeed) (world : World) : Type 0 where
  pub keeper : CoreState
  pub planned : Replan (unplanned inventory.forest) start keeper
  pub short_is : short ≡ keeper.shortened
  pub is : world ≡ record { keeper = shorts_taken keeper; behind = Some (record { table = record { rows = broker_rows inventory; faults = faults; count = 0 }; wire = [] }) }

-- whether entries were asked: a wake-up
abbrev pub asks_some : Output → Bool
asks_some (out.Ask asked) = true
asks_some output = false

-- the rounds: the ticks at which entries were asked
unfoldable pub rounds : List Beat → List Beat
rounds bs = filter (λ b. asks_some b.output) bs

-- how many requests
unfoldable pub request_count : List Beat → ℕ
request_count bs = sum_by (λ b. length b.answers) bs

-- what a run was: the needs that were shortened at the opening, and its ticks
pub record RunCourse : Type 0 where
  pub short : List ShortNeed
  pub beats : List Beat

-- the Closed run of an inventory from a start with these faults, over memory: it ends where no tick is next, and has at most
-- 100,000 wake-ups
pub record IsClosedRun (inventory : Inventory) (faults : List NumberedFault) (start : ℕ) (course : RunCourse) (final : World) : Type 0 where
  pub opening : World
  pub opened : IsRunOpening inventory faults start course.short opening
  pub played : Played 8200 inventory.credentials opening (Some start) course.beats final None
  pub few : length (rounds course.beats) ≤ MOST_WAKES
