-- Putting: what a start puts together is what its parts are. For `begin`, `run_over` and their parts.
use Rattle.std.proofs.Common.{◌≡◌, ◌∙◌, ℕ, Bool, List, [], None, Ok, Err, Option, Result, Some, String, Vec, ap, length, min, refl, subst}
use Rattle.std.specs.Prelude.{IfOk, is_some}
use Rattle.std.specs.{Result.result_ok, declared.alloc.AllocError.AllocError, declared.alloc.Global.Global}
use Rattle.agent_ledger.specs.{declared.asker.Asker.Asker, declared.late.Late.Late, declared.late.Shut.Shut, declared.ledger.Ledger.Ledger}
use Rattle.agent_log.specs.LogDesk.{Desk, HearsNoSocket}
use Rattle.vault_asking.specs.Sending.{Lanes}
use Rattle.vault_proving.specs.declared.proving.Proving.{Proving}
use Rattle.agent_behind.specs.{Lookouts.Ahead, declared.behind.Behind.Behind}
use Rattle.base_clock.specs.declared.reading.Reading.{Reading}
use Rattle.base_clock.specs.Seen.{CallIsMade, ClockSeen, read_call}
use Rattle.base_device.specs.{declared.fault.Failed.Failed, declared.place.Place.Place}
use Rattle.base_disk.specs.State.{DiskState}
use Rattle.agent_house.specs.declared.house.House.{House}
use Rattle.vault_inventory.specs.Inventories.{Inventory}
use Rattle.base_log.specs.declared.form.Form.{Form}
use Rattle.state_changes.specs.declared.row.Row.{Row}
use Rattle.state_secrets.specs.Stamps.{FileCall}
use Rattle.agent_turns.specs.{Neighbours.NeighbourCall, declared.change.AgentChange.AgentChange, declared.day.EarlyDay.EarlyDay}
use Rattle.program_commands.specs.declared.job.ServeWords.{ServeWords}
use Rattle.agent_system.specs.{Descriptors.ArePlaces, Saying.BeginsDesk, Stalls.WarnsOfDisks, TakingOver.TakesOver}
use Rattle.agent_words.specs.declared.said.SaidLine.{SaidLine}
use Rattle.agent_start.specs.declared.start.Start.{Start}
use Rattle.watch_machine.specs.declared.event.WatchEvent.{WatchEvent}
use Rattle.agent_run.specs.{Running.RunsFrom, Waits.IsResumedFrom, Waits.WaitsFor, declared.begun.Begun.Begun, declared.begun.Parts.Parts, declared.begun.Ready.Ready, declared.doors.Guests.Guests}
use Rattle.agent_run.specs.Begun.{BeginsLog, IsBegun, IsLateOf, IsLookout, IsReady, IsShutAtFirst, LooksAhead, SaysIfBehind, beside, day_of, ends_folder, house_of, place_text}
use Rattle.agent_run.specs.Doors.{DoorCall, IsDoor, SaysNoDoor, cost_without}
use Rattle.agent_run.specs.Run.{IsRun, ReadsFirst, reading_or_none}
use Rattle.agent_run.specs.declared.doors.Guests.TheVariants.{Clients, Onlookers}

-- ---- what it is put together from

pub says_no_door : (now : Reading) (socket word why cost : List ℕ) (who : Guests) (old new : Desk) → socket ≡ word → cost ≡ cost_without who → HearsNoSocket now socket why cost old new → SaysNoDoor now word who old new
says_no_door now socket word why cost who old new same is hears =
    record { why = why; hears = subst (λ w. HearsNoSocket now w why (cost_without who) old new) same (subst (λ c. HearsNoSocket now socket why c old new) is hears) }

pub is_lookout : {L : Type 0} → (number : ℕ) (lanes : L) (l : Ahead L) → l.number ≡ number → l.own ≡ lanes → l.scout ≡ None → l.heard ≡ [] → IsLookout number lanes l
is_lookout number lanes l its own none nothing = record { number = its; own = own; scout = none; heard = nothing }

pub is_shut :
    {F L : Type 0} → (opening : F) (lane : L) (askers : Vec (Asker L) Global) (named : Option (List Row)) (s : Shut F L) (proving : Proving L) → s ≡ record { opening = opening; proving = Some proving; askers = askers; next = 0; needs = s.needs; read = named } →
    proving ≡ record { lanes = lane; asked = None } → s.needs.items ≡ [] → IsShutAtFirst opening lane askers named s
is_shut {F} {L} opening lane askers named s proving is over none =
    record { needs = none; is = subst (λ (p : Proving L). s ≡ record { opening = opening; proving = Some p; askers = askers; next = 0; needs = s.needs; read = named }) over is }

pub begins_log :
    {P : Type 0} → (calls : P → Option (List FileCall)) (now : Reading) (form : Form) (place : Place) (words : List ℕ) (count : ℕ) (said heard : List SaidLine) (warned : Vec SaidLine Global) (path : Option (String Global)) (folder : Option (List ℕ)) (files after : P) (result : Result Desk AllocError) →
    words ≡ place_text place → folder ≡ ends_folder path → WarnsOfDisks calls folder files after said warned.items → heard ≡ warned.items → IfOk result (BeginsDesk form words count now heard) → IfOk result (BeginsLog calls now form place count said path files)
begins_log calls now form place words count said heard warned path folder files after (Ok desk) is in_folder warns same begins =
    record {
      after = after;
      warned = warned.items;
      warns = subst (λ f. WarnsOfDisks calls f files after said warned.items) in_folder warns;
      begins = subst (λ s. BeginsDesk form (place_text place) count now s desk) same (subst (λ w. BeginsDesk form w count now heard desk) is begins);
    }
begins_log calls now form place words count said heard warned path folder files after (Err e) is in_folder warns same begins = tt

pub is_ready :
    {D E P : Type 0} → (calls : P → Option (List FileCall)) (asked : P → Option (List (DoorCall D))) (known : Bool) (seen : E → DiskState) (now : Reading) (served : ServeWords) (behind : Option ℕ) (inventory : Inventory) (said : List SaidLine) (path : Option (String Global)) (disk : E) (doors doors_reckoned doors_opened doors_after : P) (r : Ready D E) (count width margin : ℕ) (is_behind : Bool)
    (begun told placed reckoned opened : Desk) →
    BeginsLog calls now served.form served.place count said path doors begun → count ≡ length inventory.forest.entries → TakesOver known seen now inventory path disk r.taken begun told → SaysIfBehind now behind margin told placed → margin ≡ inventory.forest.margin →
    ArePlaces now width is_behind r.entrances.places placed reckoned → width ≡ min served.width 32 → is_behind ≡ is_some behind →
    IsDoor asked now served.control Clients r.entrances.control doors_reckoned doors_opened reckoned opened → IsDoor asked now served.listen Onlookers r.entrances.onlookers doors_opened doors_after opened r.desk → IsReady calls asked known seen now served behind inventory said path disk doors doors_after r
is_ready calls asked known seen now served behind inventory said path disk doors doors_reckoned doors_opened doors_after r count width margin is_behind begun told placed reckoned opened begins many takes stands by places wide is control onlookers =
    record {
      begun = begun;
      told = told;
      placed = placed;
      reckoned = reckoned;
      opened = opened;
      doors_reckoned = doors_reckoned;
      doors_opened = doors_opened;
      begins = subst (λ n. BeginsLog calls now served.form served.place n said path doors begun) many begins;
      takes = takes;
      stands = subst (λ m. SaysIfBehind now behind m told placed) by stands;
      places = subst (λ w. ArePlaces now w (is_some behind) r.entrances.places placed reckoned) wide (subst (λ b. ArePlaces now width b r.entrances.places placed reckoned) is places);
      control = control;
      onlookers = onlookers;
    }

pub put_together :
    {D I L S T O E P G : Type 0} → (calls : P → Option (List FileCall)) (asked : P → Option (List (DoorCall O))) (known : Bool) (seen : E → DiskState) (now : Reading) (served : ServeWords) (start : Start (Ledger D I L)) (later : Option G) (parts : Parts S E L) (doors doors_after : P) (width : ℕ) (b : Begun S T O (Late D I L G) E L) (ready : Ready O E) (desk : Desk)
    (lookout : Option (Ahead L)) (events : List WatchEvent) (state : Option (Late D I L G)) (house : House S T O (Late D I L G) E) (neighbours : Behind (House S T O (Late D I L G) E) L) → IsReady calls asked known seen now served start.behind start.inventories.served start.said.items parts.ends.path parts.ends.disk doors doors_after ready →
    IsResumedFrom events start.inventories.served width b.serving → events ≡ ready.taken.known.items → WaitsFor events width now start.part b.serving.agent start.inventories.again b.wait ready.desk desk → IsLateOf parts.lane parts.askers start.inventories.named start.ledger later state →
    house ≡ house_of now start.is_good start.behind state parts.log desk ready.entrances ready.taken.file → LooksAhead start.behind parts.ahead lookout → neighbours ≡ beside house lookout →
    b.neighbours ≡ day_of start.part neighbours → IsBegun calls asked known seen now served start later parts doors doors_after width b
put_together calls asked known seen now served start later parts doors doors_after width b ready desk lookout events state house neighbours is agent handed waits keeps h ahead by n =
    record {
      ready = ready;
      desk = desk;
      lookout = lookout;
      is_ready = is;
      agent = subst (λ k. IsResumedFrom k start.inventories.served width b.serving) handed agent;
      waits = subst (λ k. WaitsFor k width now start.part b.serving.agent start.inventories.again b.wait ready.desk desk) handed waits;
      ahead = ahead;
      state = state;
      keeps = keeps;
      neighbours = n ∙ ap (day_of start.part) (by ∙ ap (λ k. beside k lookout) h);
    }

-- ---- what it reads first, and its run

module _ {C : Type 0} (clock_seen : C → ClockSeen) where
  pub reads_some : (result : Result Reading Failed) (now : Reading) (old new : C) → result ≡ Ok now → CallIsMade (read_call (result_ok result)) (clock_seen old) (clock_seen new) → ReadsFirst clock_seen now old new
  reads_some result now old new is made = record { reading = Some now; is = refl; made = subst (λ r. CallIsMade (read_call (result_ok r)) (clock_seen old) (clock_seen new)) is made }

  pub reads_none :
      (result : Result Reading Failed) (fault : Failed) (now : Reading) (old new : C) → result ≡ Err fault → now ≡ reading_or_none None → CallIsMade (read_call (result_ok result)) (clock_seen old) (clock_seen new) → ReadsFirst clock_seen now old new
  reads_none result fault now old new is none made = record { reading = None; is = none; made = subst (λ r. CallIsMade (read_call (result_ok r)) (clock_seen old) (clock_seen new)) is made }

pub runs_so :
    {D I L S T O E C P G : Type 0} → (does : NeighbourCall → EarlyDay (Behind (House S T O (Late D I L G) E) L) → EarlyDay (Behind (House S T O (Late D I L G) E) L) → Type 0) (given : EarlyDay (Behind (House S T O (Late D I L G) E) L) → Option (List AgentChange)) (calls : P → Option (List FileCall)) (asked : P → Option (List (DoorCall O))) (known : Bool) (disk_seen : E → DiskState)
    (clock_seen : C → ClockSeen) (seen : L → Lanes) (port width : L → ℕ) (served : ServeWords) (start : Start (Ledger D I L)) (later : Option G) (parts : Parts S E L) (doors doors_after : P) (clock clock_read clock_after : C) (lanes lanes_after : L) (now : Reading) (begun : Begun S T O (Late D I L G) E L)
    (after : EarlyDay (Behind (House S T O (Late D I L G) E) L)) → ReadsFirst clock_seen now clock clock_read → IsBegun calls asked known disk_seen now served start later parts doors doors_after (width lanes) begun →
    RunsFrom does given clock_seen seen port begun.wait begun.serving lanes clock_read begun.neighbours lanes_after clock_after after →
    IsRun does given calls asked known disk_seen clock_seen seen port width served start later parts doors clock lanes clock_after lanes_after
runs_so does given calls asked known disk_seen clock_seen seen port width served start later parts doors doors_after clock clock_read clock_after lanes lanes_after now begun after reads begins runs =
    record { now = now; clock_read = clock_read; doors_after = doors_after; begun = begun; after = after; reads = reads; begins = begins; runs = runs }
