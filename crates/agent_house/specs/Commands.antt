-- Commands: what clients ask for is carried out, and what comes of it.
-- Source: this project's own; docs/running.md, "Changes while it runs".
use Rattle.std.specs.Prelude.{◌≡◌, ◌≢◌, ◌⊎◌, ◌==◌, ◌&&◌, ℕ, Bool, true, false, not, nat_lt, List, [], Option, Some, None, IfSome, Vec, Result, Ok, Err, codes, length, replicate}
use Rattle.std.specs.{declared.alloc.AllocError.AllocError, declared.alloc.Global.Global}
use Rattle.agent_standing.specs.{Agent.Agent, Status.status_of_entry}
use Rattle.agent_answers.specs.{declared.asked.ClientOrder.ClientOrder, declared.control.Control.Control}
use Rattle.agent_answers.specs.declared.asked.ClientOrder.TheVariants as asked
use Rattle.state_changes.specs.{Rows.named, declared.row.Row.Row}
use Rattle.state_changes.specs.declared.change.ChangeKind.TheVariants as what
use Rattle.base_clock.specs.declared.reading.Reading.{Reading}
use Rattle.vault_inventory.specs.{Inventories.Inventory, declared.need.Need.Need}
use Rattle.program_lines.specs.Text.{name_of}
use Rattle.base_moment.specs.declared.moment.TheConstants.{LAST}
use Rattle.agent_turns.specs.declared.change.AgentChange.{AgentChange}
use Rattle.agent_turns.specs.declared.change.AgentChange.TheVariants as changes
use Rattle.plan_forest.specs.Forest.{index_named}
use Rattle.watch_machine.specs.{Shortness.short_of, State.WatchState}
use Rattle.agent_house.specs.{Admitting.FollowsLog, Awaiting.HearsVerdict, Awaiting.LooksUpFirst, declared.given.Given.Given, declared.given.GivenNeed.GivenNeed, declared.house.House.House}
use Rattle.agent_house.specs.Retries.{TriesAgain, is_any_asked, keeps_in, read_badly, read_well}
use Rattle.agent_house.specs.Houses.{ClientIsAnswered, ClientIsSent, ClientsAsk, Concludes, IsAnsweredAside, SendsAside, WillRefuse, WillTell}
use Rattle.agent_log.specs.{LinesOfClocks.marks_anew, Marks.fresh_mark, Sockets.need_log_line, declared.mark.Mark.Mark}
use Rattle.agent_log.specs.Changed.{entry_log_line, fault_lines, reread_lines, settled_line}
use Rattle.agent_log.specs.LogDesk.{Desk, HearsRefusal, SaysLine, SaysLines}
use Rattle.agent_words.specs.declared.reread.Reread.{Reread}
use Rattle.agent_words.specs.Outcomes.{IsNotKept, Outcome, Why, Whys}
use Rattle.agent_words.specs.Telling.{IsDropLine, IsNeedLine, IsNeedReply, reload_line, settle_line, until_of_need}
use Rattle.agent_ledger.specs.Keeping.{KeepCall, KeeperIsAsked, MarkServed, Reload, Settle, Take}
use Rattle.agent_house.specs.declared.given.Given.TheVariants as givens

-- the end of the entry of that name, where an agent knows it
abbrev pub end_known_at : Agent → Option ℕ → Option ℕ
end_known_at a None = None
end_known_at a (Some i) = (status_of_entry a i).end

abbrev pub end_named : Agent → List ℕ → Option ℕ
end_named a name = end_known_at a (index_named a.inventory.forest.entries name)

-- ---- need

-- the agent has the entry, where nobody keeps changes
abbrev pub no_entry_text : List ℕ
no_entry_text = codes "no entry has that name"

abbrev pub EntryIsThere : Option ℕ → Result (Unit {0}) Why → Type 0
EntryIsThere (Some i) result = result ≡ Ok tt
EntryIsThere None (Ok x) = ⊥
EntryIsThere None (Err None) = Unit {0}
EntryIsThere None (Err (Some why)) = why ≡ no_entry_text

-- whoever keeps changes takes the need; where they do not yet, the agent has to have the entry
abbrev pub TakesIfThere : {K : Type 0} → (KeepCall → K → K → Type 0) → Reading → List ℕ → Need → Result (Unit {0}) Why → Result (Unit {0}) Why → K → K → Type 0
TakesIfThere does now name need (Ok x) result old new = does (Take now.elapsed name (what.Need need) result) old new
TakesIfThere does now name need (Err why) result old new = (result ≡ Err why) × (new ≡ old)

abbrev pub TakesNeedBy : {K : Type 0} → (KeepCall → K → K → Type 0) → Bool → Agent → Reading → List ℕ → Need → Result (Unit {0}) Why → K → K → Type 0
TakesNeedBy does keeps agent now name need result old new =
    ((keeps ≡ true) × does (Take now.elapsed name (what.Need need) result) old new)
    ⊎ ((keeps ≡ false) × ((there : Result (Unit {0}) Why) × (EntryIsThere (index_named agent.inventory.forest.entries name) there × TakesIfThere does now name need there result old new)))

-- as it has where there is nobody
abbrev pub NeedIsKept : {K : Type 0} → (KeepCall → K → K → Type 0) → (K → Bool) → Agent → Reading → List ℕ → Need → Result (Unit {0}) Why → Option K → Option K → Type 0
NeedIsKept does keeps agent now name need result None new = EntryIsThere (index_named agent.inventory.forest.entries name) result × (new ≡ None)
NeedIsKept does keeps agent now name need result (Some old) None = ⊥
NeedIsKept does keeps agent now name need result (Some old) (Some new) = TakesNeedBy does (keeps old) agent now name need result old new

-- it is given for the entry that the agent has; one that it is to have holds once it is served, and the log says so
abbrev pub GivesNeed : {S T D K E : Type 0} → Agent → Reading → List ℕ → ℕ → Option ℕ → AgentChange → House S T D K E → House S T D K E → Type 0
GivesNeed agent now name until (Some i) change old new =
    (change ≡ changes.Need i until) × (new ≡ record old { given = Some (givens.Need (record { entry = i; until = until; at = now.elapsed })) })
GivesNeed agent now name until None change old new =
    (change ≡ changes.Kept) × ((line : Option (List ℕ)) × (IfSome line (IsNeedLine name until) × Concludes agent (need_log_line name until) (Ok line) now.elapsed old new))

abbrev pub NeedsIf : {S T D K E : Type 0} → Agent → Reading → List ℕ → ℕ → Result (Unit {0}) Why → AgentChange → House S T D K E → House S T D K E → Type 0
NeedsIf agent now name until (Ok x) change old new = GivesNeed agent now name until (index_named agent.inventory.forest.entries name) change old new
NeedsIf agent now name until (Err why) change old new = (change ≡ changes.Kept) × WillTell (Err why) now.elapsed old new

pub record Needs {S T D K E : Type 0} (does : KeepCall → K → K → Type 0) (keeps : K → Bool) (agent : Agent) (now : Reading) (name : List ℕ) (need : Need) (change : AgentChange) (old new : House S T D K E) : Type 0 where
  pub result : Result (Unit {0}) Why
  pub state : Option K
  pub kept : NeedIsKept does keeps agent now name need result old.state state
  pub then : NeedsIf agent now name (until_of_need need) result change (record old { state = state }) new

-- ---- drop, settle

pub record DropsEntry {S T D K E : Type 0} (does : KeepCall → K → K → Type 0) (agent : Agent) (now : Reading) (name : List ℕ) (old new : House S T D K E) : Type 0 where
  pub outcome : Outcome
  pub state : Option K
  pub comes : KeeperIsAsked does (λ done. Take now.elapsed name what.Drop done) (λ k line. IsDropLine name (end_named agent name) line) outcome old.state state
  pub concludes : Concludes agent (entry_log_line (codes "drop") name) outcome now.elapsed (record old { state = state }) new

pub record SettlesFile {S T D K E : Type 0} (does : KeepCall → K → K → Type 0) (path : K → List ℕ) (agent : Agent) (now : Reading) (old new : House S T D K E) : Type 0 where
  pub outcome : Outcome
  pub state : Option K
  pub comes : KeeperIsAsked does Settle (λ k line. line ≡ settle_line (path k)) outcome old.state state
  pub concludes : Concludes agent settled_line outcome now.elapsed (record old { state = state }) new

-- ---- add

abbrev pub ReadsIf : {K : Type 0} → (K → List ℕ → Result Row Why → Type 0) → List ℕ → Result Row Why → Option K → Type 0
ReadsIf reads table result None = IsNotKept result
ReadsIf reads table result (Some k) = reads k table result

-- what the table writes; or why it is not taken, as that nobody keeps changes, or that memory was wanting
abbrev pub ReadsRow : {K : Type 0} → (K → List ℕ → Result Row Why → Type 0) → List ℕ → Result Row Why → Option K → Type 0
ReadsRow reads table (Err None) state = Unit {0}
ReadsRow reads table (Err (Some why)) state = ReadsIf reads table (Err (Some why)) state
ReadsRow reads table (Ok row) state = ReadsIf reads table (Ok row) state

-- beside a name
abbrev pub row_in : Result (List ℕ × Row) Why → Result Row Why
row_in (Ok named) = Ok named.1
row_in (Err why) = Err why

-- it is looked up first
abbrev pub AddsIf : {S T D K E : Type 0} → (KeepCall → K → K → Type 0) → (K → List Row) → Agent → Reading → Result Row Why → House S T D K E → House S T D K E → Type 0
AddsIf does rows agent now (Ok row) old new = LooksUpFirst does rows agent now row.name (what.Add row) old new
AddsIf does rows agent now (Err why) old new = WillTell (Err why) now.elapsed old new

pub record AddsEntry {S T D K E : Type 0} (does : KeepCall → K → K → Type 0) (rows : K → List Row) (reads : K → List ℕ → Result Row Why → Type 0) (agent : Agent) (now : Reading) (table : List ℕ) (old new : House S T D K E) : Type 0 where
  pub read : Result Row Why
  pub reads_row : ReadsRow reads table read old.state
  pub then : AddsIf does rows agent now read old new

-- ---- reload

-- the file is read anew, where somebody keeps changes
abbrev pub AsksToReload : {K : Type 0} → (KeepCall → K → K → Type 0) → Reading → Option (Result Reread Whys) → K → K → Type 0
AsksToReload does now None old new = ⊥
AsksToReload does now (Some result) old new = does (Reload now.elapsed result) old new

abbrev pub RereadIf : {K : Type 0} → (KeepCall → K → K → Type 0) → Bool → Reading → Option (Result Reread Whys) → K → K → Type 0
RereadIf does keeps now result old new = ((keeps ≡ true) × AsksToReload does now result old new) ⊎ ((keeps ≡ false) × ((result ≡ None) × (new ≡ old)))

abbrev pub RereadBy : {K : Type 0} → (KeepCall → K → K → Type 0) → (K → Bool) → Reading → Option (Result Reread Whys) → Option K → Option K → Type 0
RereadBy does keeps now result None new = (result ≡ None) × (new ≡ None)
RereadBy does keeps now result (Some old) None = ⊥
RereadBy does keeps now result (Some old) (Some new) = RereadIf does (keeps old) now result old new

abbrev pub path_if_kept : {K : Type 0} → (K → List ℕ) → Option K → List ℕ
path_if_kept path None = []
path_if_kept path (Some k) = path k

-- the log says what came of it, and the client is to be told
pub record TellsReread {S T D K E : Type 0} (path : K → List ℕ) (agent : Agent) (now : Reading) (reread : Reread) (old new : House S T D K E) : Type 0 where
  pub desk : Desk
  pub heard : SaysLines agent (reread_lines reread) old.desk.marks old.desk desk
  pub line : Option (List ℕ)
  pub says : IfSome line (λ l. l ≡ reload_line (path_if_kept path old.state))
  pub will : WillTell (Ok line) now.elapsed (record old { desk = desk; file = read_well now }) new

pub record TellsUnread {S T D K E : Type 0} (agent : Agent) (now : Reading) (whys : List (List ℕ)) (old new : House S T D K E) : Type 0 where
  pub desk : Desk
  pub heard : SaysLines agent (fault_lines whys) old.desk.marks old.desk desk
  pub will : WillRefuse whys now.elapsed (record old { desk = desk; file = read_badly now old.file }) new

pub record TellsNotKept {S T D K E : Type 0} (agent : Agent) (now : Reading) (old new : House S T D K E) : Type 0 where
  pub why : Why
  pub is_not : IsNotKept {X = Unit {0}} (Err why)
  pub will : WillTell (Err why) now.elapsed old new

abbrev pub TellsReload : {S T D K E : Type 0} → (K → List ℕ) → Agent → Reading → Option (Result Reread Whys) → House S T D K E → House S T D K E → Type 0
TellsReload path agent now None old new = TellsNotKept agent now old new
TellsReload path agent now (Some (Ok reread)) old new = TellsReread path agent now reread old new
TellsReload path agent now (Some (Err whys)) old new = TellsUnread agent now whys.items old new

pub record Reloads {S T D K E : Type 0} (does : KeepCall → K → K → Type 0) (keeps : K → Bool) (path : K → List ℕ) (agent : Agent) (now : Reading) (old new : House S T D K E) : Type 0 where
  pub result : Option (Result Reread Whys)
  pub state : Option K
  pub asks : RereadBy does keeps now result old.state state
  pub tells : TellsReload path agent now result (record old { state = state }) new

-- ---- each of them, and an inventory that is due

-- an inventory is given where one is due, with marks for its entries; memory may be wanting for it, or for them
abbrev pub InventoryIsDue : {K : Type 0} → (ℕ → Result (Option Inventory) AllocError → K → Type 0) → Reading → Result (Option (Inventory × Vec Mark Global)) AllocError → Option K → Type 0
InventoryIsDue gives now (Err e) None = ⊥
InventoryIsDue gives now (Err e) (Some k) = gives now.elapsed (Err e) k ⊎ ((inventory : Inventory) × gives now.elapsed (Ok (Some inventory)) k)
InventoryIsDue gives now (Ok None) None = Unit {0}
InventoryIsDue gives now (Ok (Some p)) None = ⊥
InventoryIsDue gives now (Ok None) (Some k) = gives now.elapsed (Ok None) k
InventoryIsDue gives now (Ok (Some p)) (Some k) = gives now.elapsed (Ok (Some p.0)) k × (p.1.items ≡ replicate (length p.0.forest.entries) fresh_mark)

-- what is given with an inventory: whether it is served already, or these marks for another one
abbrev pub IsGivenWith : Agent → Inventory → List Mark → Option Given → Type 0
IsGivenWith agent s marks None = ⊥
IsGivenWith agent s marks (Some (givens.Need need)) = ⊥
IsGivenWith agent s marks (Some (givens.Answer sent at)) = ⊥
IsGivenWith agent s marks (Some (givens.Aside aside)) = ⊥
IsGivenWith agent s marks (Some (givens.Served given)) = (s ≢ agent.inventory) × (given.items ≡ marks)
IsGivenWith agent s marks (Some givens.Unchanged) = s ≡ agent.inventory

module _ {S T D K E : Type 0} (does : KeepCall → K → K → Type 0) (rows : K → List Row) (keeps : K → Bool) (path : K → List ℕ) (reads : K → List ℕ → Result Row Why → Type 0)
    (gives : ℕ → Result (Option Inventory) AllocError → K → Type 0) (agent : Agent) (now : Reading) where
  abbrev pub CarriesOut : ClientOrder → AgentChange → House S T D K E → House S T D K E → Type 0
  CarriesOut (asked.Need name need) change old new = Needs does keeps agent now name need change old new
  CarriesOut (asked.Replace name credential) change old new = (change ≡ changes.Kept) × LooksUpFirst does rows agent now name (what.Replace credential) old new
  CarriesOut (asked.Add table) change old new = (change ≡ changes.Kept) × AddsEntry does rows reads agent now table old new
  CarriesOut (asked.Drop name) change old new = (change ≡ changes.Kept) × DropsEntry does agent now name old new
  CarriesOut asked.Settle change old new = (change ≡ changes.Kept) × SettlesFile does path agent now old new
  CarriesOut asked.Reload change old new = (change ≡ changes.Kept) × Reloads does keeps path agent now old new
  CarriesOut (asked.Follow alerts) change old new = (change ≡ changes.Kept) × FollowsLog now alerts old new

  -- memory was wanting, and that is said
  abbrev pub LacksMemory : Option AgentChange → House S T D K E → House S T D K E → Type 0
  LacksMemory change old new = (change ≡ None) × (HearsRefusal agent old.desk new.desk × (new ≡ record old { desk = new.desk }))

  abbrev pub CarriesIf : Result (Option ClientOrder) AllocError → Option AgentChange → House S T D K E → House S T D K E → Type 0
  CarriesIf (Ok None) change old new = (change ≡ None) × (new ≡ old)
  CarriesIf (Ok (Some asked)) None old new = ⊥
  CarriesIf (Ok (Some asked)) (Some change) old new = CarriesOut asked change old new
  CarriesIf (Err e) change old new = LacksMemory change old new

  -- what the first of the clients asks for is carried out, once who does not keep changes yet has tried again to
  pub record ServesClients (change : Option AgentChange) (old new : House S T D K E) : Type 0 where
    pub asked : Result (Option ClientOrder) AllocError
    pub control : Option (Control T D)
    pub clients : ClientsAsk now asked old.control control
    pub tried : House S T D K E
    pub tries : TriesAgain does now (is_any_asked asked) (record old { control = control }) tried
    pub then : CarriesIf asked change tried new

  -- what has waited for the broker's word comes before what the clients ask for
  abbrev pub GoesOnIf : Bool → Option AgentChange → House S T D K E → House S T D K E → Type 0
  GoesOnIf true change old new = (change ≡ Some changes.Kept) × (new ≡ old)
  GoesOnIf false change old new = ServesClients change old new

  pub record GoesOnWithClients (change : Option AgentChange) (old new : House S T D K E) : Type 0 where
    pub heard : Bool
    pub mid : House S T D K E
    pub hears : HearsVerdict does rows agent now heard old mid
    pub then : GoesOnIf heard change mid new

  -- before all that
  abbrev pub AsksIf : Result (Option (Inventory × Vec Mark Global)) AllocError → Option AgentChange → House S T D K E → House S T D K E → Type 0
  AsksIf (Ok None) change old new = GoesOnWithClients change old new
  AsksIf (Ok (Some p)) change old new = (change ≡ Some (changes.Serve p.0)) × (IsGivenWith agent p.0 p.1.items new.given × (new ≡ record old { given = new.given }))
  AsksIf (Err e) change old new = LacksMemory change old new

  abbrev pub AsksFor : Option AgentChange → House S T D K E → House S T D K E → Type 0
  AsksFor change old new = (due : Result (Option (Inventory × Vec Mark Global)) AllocError) × (InventoryIsDue gives now due old.state × AsksIf due change old new)

-- ---- what was given is settled

-- another inventory was given last
abbrev pub is_served : Option Given → Bool
is_served None = false
is_served (Some (givens.Need need)) = false
is_served (Some (givens.Answer sent now)) = false
is_served (Some (givens.Aside aside)) = false
is_served (Some (givens.Served marks)) = true
is_served (Some givens.Unchanged) = false

abbrev pub reach_if : Bool → Option ℕ → Option ℕ
reach_if true reach = reach
reach_if false reach = None

-- until when an entry can be kept that is needed until then, where that is less. `always` asks for no more than it reaches
abbrev pub reach_of_need : WatchState → ℕ → ℕ → Option ℕ
reach_of_need m i until = reach_if (nat_lt i (length m.forest.entries) && not (until == LAST)) (short_of m i)

-- the log says that the entry is needed until then, and its client is told, also if it reaches less far; where nothing keeps changes,
-- also that a restart ends it
pub record TellsNeed {S T D K E : Type 0} (keeps : K → Bool) (agent : Agent) (name : List ℕ) (reach : Option ℕ) (until now : ℕ) (old new : House S T D K E) : Type 0 where
  pub desk : Desk
  pub heard : SaysLine agent (need_log_line name until) old.desk desk
  pub line : Option (List ℕ)
  pub says : IfSome line (IsNeedLine name until)
  pub sent : Option (List ℕ)
  pub reply : IsNeedReply (keeps_in keeps old.state) reach line sent
  pub sends : ClientIsSent agent sent now (record old { desk = desk }) new

-- where it was not made, the client is told nothing, and its connection is closed
abbrev pub ClosesClient : {S T D K E : Type 0} → ℕ → House S T D K E → House S T D K E → Type 0
ClosesClient now old new = ClientIsAnswered [] now old.control new.control × (new ≡ record old { control = new.control })

abbrev pub SettlesNeed : {S T D K E : Type 0} → (K → Bool) → Agent → Bool → GivenNeed → House S T D K E → House S T D K E → Type 0
SettlesNeed keeps agent true need old new =
    TellsNeed keeps agent (name_of agent.inventory.forest need.entry) (reach_of_need agent.machine need.entry need.until) need.until need.at old new
SettlesNeed keeps agent false need old new = ClosesClient need.at old new

abbrev pub SettlesAnswer : {S T D K E : Type 0} → Agent → Bool → Option (List ℕ) → ℕ → House S T D K E → House S T D K E → Type 0
SettlesAnswer agent true sent now old new = ClientIsSent agent sent now old new
SettlesAnswer agent false sent now old new = ClosesClient now old new

-- a client that was set aside is told
abbrev pub SettlesAside : {S T D K E : Type 0} → Agent → Bool → Option ℕ → Option (List ℕ) → ℕ → House S T D K E → House S T D K E → Type 0
SettlesAside agent true client sent now old new = SendsAside agent client sent now old new
SettlesAside agent false client sent now old new = IsAnsweredAside client [] now old.control new.control × (new ≡ record old { control = new.control })

abbrev pub StateIsServed : {K : Type 0} → (KeepCall → K → K → Type 0) → Option K → Option K → Type 0
StateIsServed does None new = new ≡ None
StateIsServed does (Some old) None = ⊥
StateIsServed does (Some old) (Some new) = does MarkServed old new

-- the inventory is served, and what was said of its entries is carried over
abbrev pub SettlesServed : {S T D K E : Type 0} → (KeepCall → K → K → Type 0) → Agent → Bool → List Mark → House S T D K E → House S T D K E → Type 0
SettlesServed does agent true marks old new =
    StateIsServed does old.state new.state × (new ≡ record old { state = new.state; desk = record old.desk { marks = marks_anew agent (length marks) } })
SettlesServed does agent false marks old new = new ≡ old

-- it is served already: no change waits for it any more, and nothing else is another
abbrev pub SettlesUnchanged : {S T D K E : Type 0} → (KeepCall → K → K → Type 0) → Bool → House S T D K E → House S T D K E → Type 0
SettlesUnchanged does true old new = StateIsServed does old.state new.state × (new ≡ record old { state = new.state })
SettlesUnchanged does false old new = new ≡ old

abbrev pub SettlesBy : {S T D K E : Type 0} → (KeepCall → K → K → Type 0) → (K → Bool) → Agent → Bool → Option Given → House S T D K E → House S T D K E → Type 0
SettlesBy does keeps agent is_made None old new = new ≡ old
SettlesBy does keeps agent is_made (Some (givens.Need need)) old new = SettlesNeed keeps agent is_made need old new
SettlesBy does keeps agent is_made (Some (givens.Answer sent now)) old new = SettlesAnswer agent is_made sent now old new
SettlesBy does keeps agent is_made (Some (givens.Aside aside)) old new = SettlesAside agent is_made aside.client aside.sent aside.at old new
SettlesBy does keeps agent is_made (Some (givens.Served marks)) old new = SettlesServed does agent is_made marks.items old new
SettlesBy does keeps agent is_made (Some givens.Unchanged) old new = SettlesUnchanged does is_made old new

abbrev pub SettlesGiven : {S T D K E : Type 0} → (KeepCall → K → K → Type 0) → (K → Bool) → Agent → Bool → House S T D K E → House S T D K E → Type 0
SettlesGiven does keeps agent is_made old new = SettlesBy does keeps agent is_made old.given (record old { given = None }) new
