-- Keepers: a house does the same where whoever keeps its changes has other credentials. For `no_kept_credential_shows`.
use Rattle.std.proofs.Common.{◌≡◌, ◌∙◌, ℕ, Bool, true, false, List, [], ◌∷◌, Option, Some, None, Result, ap, map, option_map, refl, subst, sym}
use Rattle.std.specs.declared.alloc.AllocError.{AllocError}
use Rattle.agent_standing.specs.Agent.{Agent}
use Rattle.state_changes.specs.declared.row.Row.{Row}
use Rattle.base_clients.specs.{Doors.DoorLog, declared.talk.TalkCall.TalkCall}
use Rattle.base_clock.specs.declared.reading.Reading.{Reading}
use Rattle.base_device.specs.declared.tried.Tried.{Tried}
use Rattle.base_disk.specs.State.{DiskState}
use Rattle.vault_inventory.specs.Inventories.{Inventory}
use Rattle.watch_machine.specs.declared.outlook.Next.{Next}
use Rattle.agent_pages.specs.{Naming.beside as around_with, declared.state_folder.StateFolder.StateFolder}
use Rattle.agent_turns.specs.Neighbours.{AllCalled, Answer, End, Give, GoOn, Hear, Needs, NeighbourCall, Rest, Settle, Step, Thing, Time, Want}
use Rattle.agent_words.specs.{Outcomes.Why, Telling.IsNeedReply}
use Rattle.agent_ledger.specs.Keeping.{KeepCall}
use Rattle.agent_house.specs.{Commands.SettlesBy, Commands.reach_of_need, Nexts.HearsNext, Retries.folder_in, declared.given.Given.Given, declared.house.House.House}
use Rattle.agent_house.specs.Doing.{HearsOf, HearsServedIf, HouseGoesOn, SettlesChange}
use Rattle.agent_house.specs.Houses.{Attends, ClientIsSent, around_of, named_in}
use Rattle.agent_house.specs.declared.given.Given.TheVariants as givens
use Rattle.agent_laws.specs.Keepers.{AreKeepersBeside, AsksSame, DoesBy, agent_beside, call_beside, house_beside}
use Rattle.agent_laws.proofs.Asks.{asked_for, settled_given}
use Rattle.agent_laws.proofs.Heard.{clients, ends_none, heard, heard_ends, onlookers, served_ends, settled, went_on}
use Rattle.agent_laws.proofs.Kept.{alike_beside, around_beside, asks_for, boards, folder_same, keeps_same, looked_by, marked_by, named_beside_in, rests_so}

module _ {S T D K E : Type 0} (does : KeepCall → K → K → Type 0) (rows : K → List Row) (keeps : K → Bool) (path : K → List ℕ) (reads : K → List ℕ → Result Row Why → Type 0)
    (gives : ℕ → Result (Option Inventory) AllocError → K → Type 0) (beside : List ℕ → List ℕ) (other : K → K) (h : AreKeepersBeside does rows keeps path reads gives beside other) where
  abbrev twin : House S T D K E → House S T D K E
  twin x = house_beside other x

  -- ---- what is heard, and what is settled

  nexts_so : (a : Agent) (next : Option (Option Next)) (old new : House S T D K E) → HearsNext a next old new → HearsNext a next (twin old) (twin new)
  nexts_so a None old new x = ap twin x
  nexts_so a (Some next) old new x = record { desk = x.desk; rest = ap twin x.rest }

  heard_so : (a : Agent) (thing : Thing) (old new : House S T D K E) → HearsOf a thing old new → HearsOf a thing (twin old) (twin new)
  heard_so a (Time notes requests next) old new x = record { timed = x.timed; desk = x.desk; time = x.time; clock = x.clock; then = nexts_so a next (record old { desk = x.desk }) new x.then }
  heard_so a (Needs (Some shorts)) old new x = (x.0, ap twin x.1)
  heard_so a (Needs None) old new x = (x.0, ap twin x.1)
  heard_so a (Answer entry operation said notes) old new x = (x.0, ap twin x.1)
  heard_so a (End entry end) old new x = (x.0, ap twin x.1)
  heard_so a (Step lead requests) old new x = (x.0, ap twin x.1)
  heard_so a Want old new x = (x.0, ap twin x.1)

  served_so : (is : Bool) (old new : House S T D K E) → HearsServedIf is old new → HearsServedIf is (twin old) (twin new)
  served_so true old new x = ap twin x
  served_so false old new x = ap twin x

  sent_so : (a : Agent) (sent : Option (List ℕ)) (now : ℕ) (old new : House S T D K E) → ClientIsSent a sent now old new → ClientIsSent a sent now (twin old) (twin new)
  sent_so a sent now old new x = record { client = x.client; desk = x.desk; rest = ap twin x.rest }

  settles_so : (a : Agent) (is_made : Bool) (given : Option Given) (old new : House S T D K E) → SettlesBy (AsksSame beside does) keeps a is_made given old new → SettlesBy does keeps a is_made given (twin old) (twin new)
  settles_so a is_made None old new x = ap twin x
  settles_so a true (Some (givens.Need need)) old new x = record {
    desk = x.desk;
    heard = x.heard;
    line = x.line;
    says = x.says;
    sent = x.sent;
    reply = subst (λ (is : Bool). IsNeedReply is (reach_of_need a.machine need.entry need.until) x.line x.sent) (sym (keeps_same does rows keeps path reads gives beside other h old.state)) x.reply;
    sends = sent_so a x.sent need.at (record old { desk = x.desk }) new x.sends;
  }
  settles_so a true (Some (givens.Answer sent at)) old new x = sent_so a sent at old new x
  settles_so a true (Some (givens.Aside aside)) old new x = record { answered = x.answered; desk = x.desk; rest = ap twin x.rest }
  settles_so a true (Some (givens.Served marks)) old new x = (marked_by does rows keeps path reads gives beside other h old.state new.state x.0, ap twin x.1)
  settles_so a false (Some (givens.Served marks)) old new x = ap twin x
  settles_so a true (Some givens.Unchanged) old new x = (marked_by does rows keeps path reads gives beside other h old.state new.state x.0, ap twin x.1)
  settles_so a false (Some givens.Unchanged) old new x = ap twin x
  settles_so a false (Some _) old new x = (x.0, ap twin x.1)

  settled_so : (a : Agent) (is_made : Bool) (old new : House S T D K E) → SettlesChange (AsksSame beside does) keeps a is_made old new → SettlesChange does keeps a is_made (twin old) (twin new)
  settled_so a is_made old new x = record {
    heard = twin x.heard;
    settled = twin x.settled;
    served = served_so _ old x.heard x.served;
    settles = settles_so a is_made x.heard.given (record x.heard { given = None }) x.settled x.settles;
    unmade = x.unmade;
    rest = ap twin x.rest;
  }

  -- ---- a house goes on

  module _ (given : S → Option (List ℕ)) (failures tries : S → ℕ) (tried : S → Option (List Tried)) (remaining written : T → Option (List ℕ)) (calls : T → Option (List TalkCall)) (log : D → Option (DoorLog T))
      (known : Bool) (state : E → DiskState) where
    attends_so : (a : Agent) (now : Reading) (goes_on : Bool) (old new : House S T D K E) → Attends given failures tries tried remaining written calls log rows keeps a now goes_on old new →
        Attends given failures tries tried remaining written calls log rows keeps a now goes_on (twin old) (twin new)
    attends_so a now goes_on old new x = record {
      room = x.room;
      rooms = x.rooms;
      fed = x.fed;
      is_more = x.is_more;
      shown = x.shown;
      answered = x.answered;
      gives = x.gives;
      few = x.few;
      follow = x.follow;
      around = around_beside beside x.around;
      around_is =
          ap (around_beside beside) x.around_is
          ∙ ap (λ (l : List Row). around_with (around_of old.next old.file (folder_in keeps old.state) old.standby x.rooms.log.dropped now.wall) l)
          (sym (named_beside_in does rows keeps path reads gives beside other h old.state))
          ∙ ap (λ (folder : StateFolder). around_with (around_of old.next old.file folder old.standby x.rooms.log.dropped now.wall) (named_in rows (option_map other old.state)))
          (sym (folder_same does rows keeps path reads gives beside other h old.state));
      onlookers = onlookers a a x.around (around_beside beside x.around) (boards beside a x.around) remaining written calls log now x.shown old.onlookers new.onlookers x.onlookers;
      clients = clients a a x.around (around_beside beside x.around) (boards beside a x.around) remaining written calls log now x.answered x.fed new.control x.clients;
      desk = x.desk;
      rest = ap twin x.rest;
      more = x.more;
    }

    goes_on_so : (a : Agent) (now : Reading) (is_busy : Bool) (old new : House S T D K E) → HouseGoesOn given failures tries tried remaining written calls log (AsksSame beside does) rows keeps path reads gives known state a now is_busy old new →
        HouseGoesOn given failures tries tried remaining written calls log does rows keeps path reads gives known state a now is_busy (twin old) (twin new)
    goes_on_so a now is_busy old new x = record {
      kept = twin x.kept;
      looked = twin x.looked;
      goes_on = x.goes_on;
      is_more = x.is_more;
      ends = record { tried = x.ends.tried; ends = x.ends.ends; desk = x.ends.desk; rest = ap twin x.ends.rest };
      look = record {
        look = x.look.look;
        asks = looked_by does rows keeps path reads gives beside other h now x.look.look x.kept.state x.looked.state x.look.asks;
        desk = x.look.desk;
        rest = ap twin x.look.rest;
        more = x.look.more;
      };
      attend = attends_so a now x.is_more x.looked new x.attend;
      busy = x.busy;
    }

    -- ---- each call

    abbrev DoesIt : (KeepCall → K → K → Type 0) → NeighbourCall → House S T D K E → House S T D K E → Type 0
    DoesIt asks call old new = DoesBy given failures tries tried remaining written calls log does rows keeps path reads gives known state asks call old new

    pub call_so : (call : NeighbourCall) (old new : House S T D K E) → old.ends ≡ None → DoesIt (AsksSame beside does) call old new → DoesIt does (call_beside beside call) (twin old) (twin new)
    call_so (Hear a thing) old new none x = heard_so (agent_beside beside a) thing old new (heard a (agent_beside beside a) (alike_beside beside a) thing old new x)
    call_so (GoOn a now is_busy) old new none x =
        goes_on_so (agent_beside beside a) now is_busy old new
        (went_on a (agent_beside beside a) (alike_beside beside a) refl given failures tries tried remaining written calls log (AsksSame beside does) rows keeps path reads gives known state now is_busy old new none x)
    call_so (Give a now change) old new none x = asks_for does rows keeps path reads gives beside other h a now change old new x
    call_so (Settle a is_made) old new none x = settled_so (agent_beside beside a) is_made old new (settled a (agent_beside beside a) (alike_beside beside a) (AsksSame beside does) keeps is_made old new x)
    call_so (Rest now rest) old new none x = (
      ap twin x.0,
      record { kept = x.1.kept; keeper = rests_so does rows keeps path reads gives beside other h now x.1.kept old.state x.1.keeper; shortest = x.1.shortest },
    )

    -- a house without a file of the ends stays one
    call_none : (call : NeighbourCall) (old new : House S T D K E) → old.ends ≡ None → DoesIt (AsksSame beside does) call old new → new.ends ≡ None
    call_none (Hear a thing) old new none x = heard_ends a thing old new none x
    call_none (GoOn a now is_busy) old new none x =
        ap (λ (y : House S T D K E). y.ends) x.attend.rest ∙ ap (λ (y : House S T D K E). y.ends) x.look.rest ∙ ends_none known state a now.elapsed x.ends.tried old.ends x.kept.ends none x.ends.ends
    call_none (Give a now change) old new none x = (asked_for (AsksSame beside does) rows keeps path reads gives a now x.0 change old new x.1.1).ends ∙ none
    call_none (Settle a is_made) old new none x = ap (λ (y : House S T D K E). y.ends) x.rest ∙ (settled_given (AsksSame beside does) keeps a is_made x.heard x.settled x.settles).ends ∙ served_ends _ old x.heard none x.served
    call_none (Rest now rest) old new none x = ap (λ (y : House S T D K E). y.ends) x.0 ∙ none

    pub run_so : (made : List NeighbourCall) (old new : House S T D K E) → old.ends ≡ None → AllCalled (DoesIt (AsksSame beside does)) made old new → AllCalled (DoesIt does) (map (call_beside beside) made) (twin old) (twin new)
    run_so [] old new none run = ap twin run
    run_so (call ∷ made) old new none run = (twin run.0, (call_so call old run.0 none run.1.0, run_so made run.0 new (call_none call old run.0 none run.1.0) run.1.1))
