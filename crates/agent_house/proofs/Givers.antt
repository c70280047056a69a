-- Givers: which changes are given in a turn: none but those that clients ask for and that are kept. For the impl of Neighbours.
use Rattle.std.proofs.Common.{◌≡◌, ◌∙◌, ◌⊎◌, ℕ, Bool, true, false, inl, inr, List, [], Option, Some, None, Result, Ok, Err, ap, refl, subst, sym}
use Rattle.std.proofs.lemmas.Bool.{true≢false}
use Rattle.std.specs.Prelude.{◌||◌, Vec, is_some, option_to_list}
use Rattle.std.specs.{declared.alloc.AllocError.AllocError, declared.alloc.Global.Global}
use Rattle.agent_standing.specs.Agent.{Agent}
use Rattle.agent_answers.specs.{declared.asked.ClientOrder.ClientOrder, declared.control.Control.Control, declared.went.Went.Went}
use Rattle.agent_answers.specs.declared.asked.ClientOrder.TheVariants as asked
use Rattle.state_changes.specs.{Rows.named, declared.row.Row.Row, declared.change.ChangeKind.ChangeKind}
use Rattle.state_changes.specs.declared.change.ChangeKind.TheVariants as what
use Rattle.base_clients.specs.{Doors.DoorLog, declared.talk.TalkCall.TalkCall}
use Rattle.base_device.specs.declared.tried.Tried.{Tried}
use Rattle.base_clock.specs.declared.reading.Reading.{Reading}
use Rattle.vault_inventory.specs.{Inventories.Inventory, declared.need.Need.Need}
use Rattle.agent_pages.specs.Naming.{Around}
use Rattle.agent_turns.specs.{Changes.AllGiven, declared.change.AgentChange.AgentChange}
use Rattle.agent_house.specs.{Retries.KeeperTries, Retries.is_any_asked, Looks.AsksToLook, Looks.LooksAround, declared.given.Awaited.Awaited, declared.given.Given.Given, declared.house.House.House}
use Rattle.agent_house.specs.Admitting.{AdmitsIf, AnswerBeginsWith, FollowsLog, asking_in}
use Rattle.agent_house.specs.Awaiting.{HearsFor, IsAddedLine, Judges, LooksUpBy, LooksUpFirst, LooksUpIf, Makes, ProvesBy, VerdictIs}
use Rattle.agent_house.specs.Commands.{AddsIf, AsksFor, AsksIf, CarriesIf, CarriesOut, GivesNeed, InventoryIsDue, NeedIsKept, StateIsServed, GoesOnIf, GoesOnWithClients, LacksMemory, NeedsIf, RereadBy, ServesClients, SettlesBy, SettlesGiven, TellsReload, end_named}
use Rattle.agent_house.specs.Houses.{Attends, ClientIsAnswered, ClientIsAside, ClientIsSent, ClientsAsk, ClientsGoOn, Concludes, IsAnsweredAs, IsAnsweredAside, WillRefuse, WillTell, bytes_sent, changes_given, given_where}
use Rattle.agent_log.specs.{Feeding.FollowersGoOn, LookupLosses.line_with_loss, Lines.Line, Rooms.Rooms, declared.mark.Mark.Mark}
use Rattle.agent_ledger.specs.{declared.keeping.FileLook.FileLook, declared.keeping.KeepNews.KeepNews, declared.keeping.LookedUp.LookedUp}
use Rattle.agent_ledger.specs.Keeping.{KeepCall, KeeperIsAsked, Settle, Take}
use Rattle.agent_words.specs.declared.reread.Reread.{Reread}
use Rattle.agent_words.specs.Outcomes.{Outcome, Why, Whys}
use Rattle.agent_words.specs.Telling.{IsDropLine, replaced_text, settle_line, until_of_need}
use Rattle.base_log.specs.declared.form.Form.{Form}
use Rattle.vault_lanes.specs.declared.loss.Loss.{Loss}
use Rattle.vault_proving.specs.declared.verdict.Verdict.{Verdict}
use Rattle.vault_proving.specs.declared.verdict.Verdict.TheVariants as verdicts
use Rattle.agent_house.specs.declared.given.Given.TheVariants as givens
use Rattle.agent_ledger.specs.declared.keeping.LookedUp.TheVariants as lookups

-- ---- who is there stays there, and the log's reader is left alone

pub record AreSame {S T D K E : Type 0} (old new : House S T D K E) : Type 0 where
  pub sink : new.sink ≡ old.sink
  pub control : is_some new.control ≡ is_some old.control
  pub state : is_some new.state ≡ is_some old.state

answered : {T D : Type 0} (answer : List ℕ) (now : ℕ) (old new : Option (Control T D)) → ClientIsAnswered answer now old new → is_some new ≡ is_some old
answered answer now None new h = ap is_some h
answered answer now (Some old) None h = absurd h
answered answer now (Some old) (Some new) h = refl

clients_asked : {T D : Type 0} (now : Reading) (result : Result (Option ClientOrder) AllocError) (old new : Option (Control T D)) → ClientsAsk now result old new → is_some new ≡ is_some old
clients_asked now result None new h = ap is_some h.1
clients_asked now result (Some old) None h = absurd h
clients_asked now result (Some old) (Some new) h = refl

comes : {K : Type 0} (does : KeepCall → K → K → Type 0) (call : Result (Unit {0}) Why → KeepCall) (Says : K → List ℕ → Type 0) (outcome : Outcome) (old new : Option K) → KeeperIsAsked does call Says outcome old new → is_some new ≡ is_some old
comes does call Says outcome None new h = ap is_some h.0
comes does call Says outcome (Some old) None h = absurd h
comes does call Says outcome (Some old) (Some new) h = refl

kept : {K : Type 0} (does : KeepCall → K → K → Type 0) (keeps : K → Bool) (agent : Agent) (now : Reading) (name : List ℕ) (need : Need) (result : Result (Unit {0}) Why) (old new : Option K) → NeedIsKept does keeps agent now name need result old new → is_some new ≡ is_some old
kept does keeps agent now name need result None new h = ap is_some h.1
kept does keeps agent now name need result (Some old) None h = absurd h
kept does keeps agent now name need result (Some old) (Some new) h = refl

reread : {K : Type 0} (does : KeepCall → K → K → Type 0) (keeps : K → Bool) (now : Reading) (result : Option (Result Reread Whys)) (old new : Option K) → RereadBy does keeps now result old new → is_some new ≡ is_some old
reread does keeps now result None new h = ap is_some h.1
reread does keeps now result (Some old) None h = absurd h
reread does keeps now result (Some old) (Some new) h = refl

keeper_tried : {K : Type 0} (does : KeepCall → K → K → Type 0) (now : ℕ) (is_asked : Bool) (news : Option KeepNews) (old new : Option K) → KeeperTries does now is_asked news old new → is_some new ≡ is_some old
keeper_tried does now is_asked news None new h = ap is_some h.1
keeper_tried does now is_asked news (Some old) None h = absurd h
keeper_tried does now is_asked news (Some old) (Some new) h = refl

marked_served : {K : Type 0} (does : KeepCall → K → K → Type 0) (old new : Option K) → StateIsServed does old new → is_some new ≡ is_some old
marked_served does None new h = ap is_some h
marked_served does (Some old) None h = absurd h
marked_served does (Some old) (Some new) h = refl

begun : {T D : Type 0} (answer : List ℕ) (old new : Option (Control T D)) → AnswerBeginsWith answer old new → is_some new ≡ is_some old
begun answer None new h = ap is_some h
begun answer (Some old) None h = absurd h
begun answer (Some old) (Some new) h = refl

set_aside : {T D : Type 0} (number : Option ℕ) (old new : Option (Control T D)) → ClientIsAside number old new → is_some new ≡ is_some old
set_aside number None new h = ap is_some h.1
set_aside number (Some old) None h = absurd h
set_aside number (Some old) (Some new) h = refl

told_as : {T D : Type 0} (number : ℕ) (answer : List ℕ) (now : ℕ) (old new : Option (Control T D)) → IsAnsweredAs number answer now old new → is_some new ≡ is_some old
told_as number answer now None new h = ap is_some h
told_as number answer now (Some old) None h = absurd h
told_as number answer now (Some old) (Some new) h = refl

told_aside : {T D : Type 0} (client : Option ℕ) (answer : List ℕ) (now : ℕ) (old new : Option (Control T D)) → IsAnsweredAside client answer now old new → is_some new ≡ is_some old
told_aside None answer now old new h = ap is_some h
told_aside (Some number) answer now old new h = told_as number answer now old new h

asked_keeper : {K : Type 0} (does : KeepCall → K → K → Type 0) (now : Reading) (name : List ℕ) (w : ChangeKind) (result : Result LookedUp AllocError) (old new : Option K) → LooksUpBy does now name w result old new → is_some new ≡ is_some old
asked_keeper does now name w result None new h = ap is_some h.1
asked_keeper does now name w result (Some old) None h = absurd h
asked_keeper does now name w result (Some old) (Some new) h = refl

proved_by : {K : Type 0} (does : KeepCall → K → K → Type 0) (now : ℕ) (result : Result (Option Verdict) AllocError) (old new : Option K) → ProvesBy does now result old new → is_some new ≡ is_some old
proved_by does now result None new h = ap is_some h.1
proved_by does now result (Some old) None h = absurd h
proved_by does now result (Some old) (Some new) h = refl

none_proved : {K : Type 0} (does : KeepCall → K → K → Type 0) (now : ℕ) (result : Result (Option Verdict) AllocError) (state : Option K) → ProvesBy does now result None state → result ≡ Ok None
none_proved does now result state h = h.0

left_none : {C : Type 0} (old mid : Option C) → is_some mid ≡ is_some old → old ≡ None → mid ≡ None
left_none old None same none = refl
left_none old (Some c) same none = absurd (true≢false (same ∙ ap is_some none))

some_is_none : {X : Type 0} (x : X) (a : Result (Option X) AllocError) → a ≡ Ok (Some x) → a ≡ Ok None → ⊥
some_is_none x a one other = cc

module _ {S T D K E : Type 0} where
  same : (old new : House S T D K E) → new ≡ old → AreSame old new
  same old new is = record { sink = ap (λ h. h.sink) is; control = ap (λ h. is_some h.control) is; state = ap (λ h. is_some h.state) is }

  -- from a house with another state, or another desk
  after_state : (state : Option K) (old new : House S T D K E) → is_some state ≡ is_some old.state → AreSame (record old { state = state }) new → AreSame old new
  after_state state old new is h = record { sink = h.sink; control = h.control; state = h.state ∙ is }

  sent : (agent : Agent) (text : Option (List ℕ)) (now : ℕ) (old new : House S T D K E) → ClientIsSent agent text now old new → AreSame old new
  sent agent text now old new h = record {
    sink = ap (λ x. x.sink) h.rest;
    control = answered (bytes_sent text) now old.control new.control h.client;
    state = ap (λ x. is_some x.state) h.rest;
  }

  will_tell : (outcome : Outcome) (now : ℕ) (old new : House S T D K E) → WillTell outcome now old new → AreSame old new
  will_tell outcome now old new h = record { sink = ap (λ x. x.sink) h.rest; control = ap (λ x. is_some x.control) h.rest; state = ap (λ x. is_some x.state) h.rest }

  will_refuse : (whys : List (List ℕ)) (now : ℕ) (old new : House S T D K E) → WillRefuse whys now old new → AreSame old new
  will_refuse whys now old new h = record { sink = ap (λ x. x.sink) h.rest; control = ap (λ x. is_some x.control) h.rest; state = ap (λ x. is_some x.state) h.rest }

  concluded : (agent : Agent) (l : Line) (outcome : Outcome) (now : ℕ) (old new : House S T D K E) → Concludes agent l outcome now old new → AreSame old new
  concluded agent l outcome now old new h = let all = will_tell outcome now (record old { desk = h.desk }) new h.will in record { sink = all.sink; control = all.control; state = all.state }

  -- ---- what clients ask for

  need_given : (agent : Agent) (now : Reading) (name : List ℕ) (until : ℕ) (i : Option ℕ) (change : AgentChange) (old new : House S T D K E) → GivesNeed agent now name until i change old new → AreSame old new
  need_given agent now name until (Some i) change old new h = record { sink = ap (λ x. x.sink) h.1; control = ap (λ x. is_some x.control) h.1; state = ap (λ x. is_some x.state) h.1 }
  need_given agent now name until None change old new h = concluded agent _ _ _ old new h.1.1.1

  need_if : (agent : Agent) (now : Reading) (name : List ℕ) (until : ℕ) (result : Result (Unit {0}) Why) (change : AgentChange) (old new : House S T D K E) → NeedsIf agent now name until result change old new → AreSame old new
  need_if agent now name until (Ok x) change old new h = need_given agent now name until _ change old new h
  need_if agent now name until (Err why) change old new h = will_tell (Err why) now.elapsed old new h.1

  -- ---- a credential is looked up first

  module _ (does : KeepCall → K → K → Type 0) (rows : K → List Row) (agent : Agent) (now : Reading) where
    made : (name : List ℕ) (w : ChangeKind) (why : Option Loss) (old new : House S T D K E) → Makes does rows agent now name w why old new → AreSame old new
    made name (what.Need need) why old new h = will_tell (Err None) now.elapsed old new h
    made name (what.Replace credential) why old new h =
        after_state h.state old new (comes does (λ done. Take now.elapsed name (what.Replace credential) done) (λ k line. line ≡ line_with_loss why (replaced_text name (named (rows k) name))) h.outcome old.state h.state h.comes) (concluded agent _ h.outcome now.elapsed (record old { state = h.state }) new h.concludes)
    made name (what.Add row) why old new h =
        after_state h.state old new (comes does (λ done. Take now.elapsed name (what.Add row) done) (λ k line. IsAddedLine name (until_of_need row.need) why line) h.outcome old.state h.state h.comes) (concluded agent _ h.outcome now.elapsed (record old { state = h.state }) new h.concludes)
    made name what.Drop why old new h = will_tell (Err None) now.elapsed old new h

    judged : (name : List ℕ) (w : ChangeKind) (verdict : Verdict) (old new : House S T D K E) → Judges does rows agent now name w verdict old new → AreSame old new
    judged name w verdicts.Good old new h = made name w None old new h
    judged name w (verdicts.Refused status) old new h = will_tell (Err h.0) now.elapsed old new h.1.1
    judged name w verdicts.Endless old new h = will_tell (Err h.0) now.elapsed old new h.1.1
    judged name w (verdicts.Missing why) old new h = made name w (Some why) old new h

    looked_if : (name : List ℕ) (w : ChangeKind) (result : Result LookedUp AllocError) (old new : House S T D K E) → LooksUpIf does rows agent now name w result old new → AreSame old new
    looked_if name w (Ok lookups.Out) old new h = record { sink = ap (λ x. x.sink) h.rest; control = set_aside h.client old.control new.control h.aside; state = ap (λ x. is_some x.state) h.rest }
    looked_if name w (Ok lookups.Later) old new h = will_tell (Err h.0) now.elapsed old new h.1.1
    looked_if name w (Ok lookups.Nothing) old new h = made name w None old new h
    looked_if name w (Err e) old new h = will_tell (Err None) now.elapsed old new h

    looked_up : (name : List ℕ) (w : ChangeKind) (old new : House S T D K E) → LooksUpFirst does rows agent now name w old new → AreSame old new
    looked_up name w old new h = after_state h.state old new (asked_keeper does now name w h.looked_up old.state h.state h.asks) (looked_if name w h.looked_up (record old { state = h.state }) new h.then)

    addressed_as : (mid new : House S T D K E) (given : Option Given) → new ≡ record mid { given = given } → AreSame mid new
    addressed_as mid new given is = record { sink = ap (λ x. x.sink) is; control = ap (λ x. is_some x.control) is; state = ap (λ x. is_some x.state) is }

    both_same : (old mid new : House S T D K E) → AreSame old mid → AreSame mid new → AreSame old new
    both_same old mid new a b = record { sink = b.sink ∙ a.sink; control = b.control ∙ a.control; state = b.state ∙ a.state }

    verdict_is : (a : Awaited) (verdict : Result (Option Verdict) AllocError) (heard : Bool) (old new : House S T D K E) → VerdictIs does rows agent now a verdict heard old new → AreSame old new
    verdict_is a (Ok None) heard old new h = record { sink = ap (λ x. x.sink) h.1; control = ap (λ x. is_some x.control) h.1; state = ap (λ x. is_some x.state) h.1 }
    verdict_is a (Ok (Some verdict)) heard old new h = both_same old h.1.0 new (judged a.name a.what verdict old h.1.0 h.1.1.0) (addressed_as h.1.0 new _ h.1.1.1)
    verdict_is a (Err e) heard old new h = both_same old h.1.0 new (will_tell (Err None) now.elapsed old h.1.0 h.1.1.0) (addressed_as h.1.0 new _ h.1.1.1)

    heard_for : (a : Option Awaited) (heard : Bool) (old new : House S T D K E) → HearsFor does rows agent now a heard old new → AreSame old new
    heard_for None heard old new h = same old new h.1
    heard_for (Some a) heard old new h =
        let all = verdict_is a h.verdict heard (record old { state = h.state; awaited = None }) new h.then in
        record { sink = all.sink; control = all.control; state = all.state ∙ proved_by does now.elapsed h.verdict old.state h.state h.proves }

    -- where nothing is kept there is none
    none_heard_by : (a : Awaited) (verdict : Result (Option Verdict) AllocError) (heard : Bool) (old new : House S T D K E) → verdict ≡ Ok None → VerdictIs does rows agent now a verdict heard old new → heard ≡ false
    none_heard_by a (Ok None) heard old new is h = h.0
    none_heard_by a (Ok (Some verdict)) heard old new is h = absurd (some_is_none verdict (Ok (Some verdict)) refl is)
    none_heard_by a (Err e) heard old new is h = absurd cc

    none_heard : (a : Option Awaited) (heard : Bool) (old new : House S T D K E) → old.state ≡ None → HearsFor does rows agent now a heard old new → heard ≡ false
    none_heard None heard old new none h = h.0
    none_heard (Some a) heard old new none h =
        none_heard_by a h.verdict heard (record old { state = h.state; awaited = None }) new
        (none_proved does now.elapsed h.verdict h.state (subst (λ (o : Option K). ProvesBy does now.elapsed h.verdict o h.state) none h.proves)) h.then

  add_if : (does : KeepCall → K → K → Type 0) (rows : K → List Row) (agent : Agent) (now : Reading) (read : Result Row Why) (old new : House S T D K E) → AddsIf does rows agent now read old new → AreSame old new
  add_if does rows agent now (Ok row) old new h = looked_up does rows agent now row.name (what.Add row) old new h
  add_if does rows agent now (Err why) old new h = will_tell (Err why) now.elapsed old new h

  reload_told : (path : K → List ℕ) (agent : Agent) (now : Reading) (result : Option (Result Reread Whys)) (old new : House S T D K E) → TellsReload path agent now result old new → AreSame old new
  reload_told path agent now None old new h = will_tell (Err h.why) now.elapsed old new h.will
  reload_told path agent now (Some (Ok r)) old new h = let all = will_tell (Ok h.line) now.elapsed _ new h.will in record { sink = all.sink; control = all.control; state = all.state }
  reload_told path agent now (Some (Err whys)) old new h = let all = will_refuse whys.items now.elapsed _ new h.will in record { sink = all.sink; control = all.control; state = all.state }

  -- ---- the log is followed

  admitted : (id : Option ℕ) (alerts : Bool) (old new : House S T D K E) → AdmitsIf id alerts old new → AreSame old new
  admitted None alerts old new h = same old new h
  admitted (Some id) alerts old new h = record { sink = ap (λ x. x.sink) h.rest; control = begun _ old.control new.control h.client; state = ap (λ x. is_some x.state) h.rest }

  admits : (now : Reading) (alerts : Bool) (old new : House S T D K E) → AdmitsIf (asking_in old.control) alerts old new ⊎ WillTell (Err None) now.elapsed old new → AreSame old new
  admits now alerts old new (inl h) = admitted (asking_in old.control) alerts old new h
  admits now alerts old new (inr h) = will_tell (Err None) now.elapsed old new h

  log_followed : (now : Reading) (alerts : Bool) (old new : House S T D K E) → FollowsLog now alerts old new → AreSame old new
  log_followed now alerts old new (inl h) = will_tell (Err h.why) now.elapsed old new h.will
  log_followed now alerts old new (inr h) = admits now alerts old new h.admits

module _ {S T D K E : Type 0} (does : KeepCall → K → K → Type 0) (rows : K → List Row) (keeps : K → Bool) (path : K → List ℕ) (reads : K → List ℕ → Result Row Why → Type 0)
    (gives : ℕ → Result (Option Inventory) AllocError → K → Type 0) (agent : Agent) (now : Reading) where
  carried_out : (a : ClientOrder) (change : AgentChange) (old new : House S T D K E) → CarriesOut does rows keeps path reads gives agent now a change old new → AreSame old new
  carried_out (asked.Need name need) change old new h =
      after_state h.state old new (kept does keeps agent now name need h.result old.state h.state h.kept) (need_if agent now name _ h.result change (record old { state = h.state }) new h.then)
  carried_out (asked.Replace name credential) change old new h = looked_up does rows agent now name (what.Replace credential) old new h.1
  carried_out (asked.Add table) change old new h = add_if does rows agent now h.1.read old new h.1.then
  carried_out (asked.Drop name) change old new h =
      after_state h.1.state old new (comes does (λ done. Take now.elapsed name what.Drop done) (λ k line. IsDropLine name (end_named agent name) line) h.1.outcome old.state h.1.state h.1.comes) (concluded agent _ h.1.outcome now.elapsed (record old { state = h.1.state }) new h.1.concludes)
  carried_out asked.Settle change old new h =
      after_state h.1.state old new (comes does Settle (λ k line. line ≡ settle_line (path k)) h.1.outcome old.state h.1.state h.1.comes) (concluded agent _ h.1.outcome now.elapsed (record old { state = h.1.state }) new h.1.concludes)
  carried_out asked.Reload change old new h =
      after_state h.1.state old new (reread does keeps now h.1.result old.state h.1.state h.1.asks) (reload_told path agent now h.1.result (record old { state = h.1.state }) new h.1.tells)
  carried_out (asked.Follow alerts) change old new h = log_followed now alerts old new h.1

  lacked : (change : Option AgentChange) (old new : House S T D K E) → LacksMemory does rows keeps path reads gives agent now change old new → AreSame old new
  lacked change old new h = record { sink = ap (λ x. x.sink) h.1.1; control = ap (λ x. is_some x.control) h.1.1; state = ap (λ x. is_some x.state) h.1.1 }

  carried_if : (a : Result (Option ClientOrder) AllocError) (change : Option AgentChange) (old new : House S T D K E) → CarriesIf does rows keeps path reads gives agent now a change old new → AreSame old new
  carried_if (Ok None) change old new h = same old new h.1
  carried_if (Ok (Some a)) None old new h = absurd h
  carried_if (Ok (Some a)) (Some change) old new h = carried_out a change old new h
  carried_if (Err e) change old new h = lacked change old new h

  served_clients : (change : Option AgentChange) (old new : House S T D K E) → ServesClients does rows keeps path reads gives agent now change old new → AreSame old new
  served_clients change old new h =
      let all = carried_if h.asked change h.tried new h.then in
      let tried = h.tries.rest in
      record {
        sink = all.sink ∙ ap (λ x. x.sink) tried;
        control = all.control ∙ (ap (λ x. is_some x.control) tried ∙ clients_asked now h.asked old.control h.control h.clients);
        state = all.state ∙ keeper_tried does now.elapsed (is_any_asked h.asked) h.tries.news old.state h.tried.state h.tries.tries;
      }

  goes_on_if : (heard : Bool) (change : Option AgentChange) (old new : House S T D K E) → GoesOnIf does rows keeps path reads gives agent now heard change old new → AreSame old new
  goes_on_if true change old new h = same old new h.1
  goes_on_if false change old new h = served_clients change old new h

  gone_on : (change : Option AgentChange) (old new : House S T D K E) → GoesOnWithClients does rows keeps path reads gives agent now change old new → AreSame old new
  gone_on change old new h = both_same does rows agent now old h.mid new (heard_for does rows agent now old.awaited h.heard old h.mid h.hears) (goes_on_if h.heard change h.mid new h.then)

  pub asked_for : (due : Result (Option (Inventory × Vec Mark Global)) AllocError) (change : Option AgentChange) (old new : House S T D K E) → AsksIf does rows keeps path reads gives agent now due change old new → AreSame old new
  asked_for (Ok None) change old new h = gone_on change old new h
  asked_for (Ok (Some p)) change old new h = record { sink = ap (λ x. x.sink) h.1.1; control = ap (λ x. is_some x.control) h.1.1; state = ap (λ x. is_some x.state) h.1.1 }
  asked_for (Err e) change old new h = lacked change old new h

  -- nobody asks, and nothing is kept: none is given
  no_client : (a : Result (Option ClientOrder) AllocError) (change : Option AgentChange) (old new : House S T D K E) → a ≡ Ok None → CarriesIf does rows keeps path reads gives agent now a change old new → change ≡ None
  no_client (Ok None) change old new is h = h.0
  no_client (Ok (Some a)) change old new is h = absurd (some_is_none a (Ok (Some a)) refl is)
  no_client (Err e) change old new is h = h.0

  served_none : (change : Option AgentChange) (old new : House S T D K E) → old.control ≡ None → ServesClients does rows keeps path reads gives agent now change old new → change ≡ None
  served_none change old new none h =
      no_client h.asked change h.tried new (subst (λ (o : Option (Control T D)). ClientsAsk now h.asked o h.control) none h.clients).0 h.then

  none_if : (heard : Bool) (change : Option AgentChange) (old new : House S T D K E) → heard ≡ false → old.control ≡ None → GoesOnIf does rows keeps path reads gives agent now heard change old new → change ≡ None
  none_if true change old new is none h = absurd (true≢false is)
  none_if false change old new is none h = served_none change old new none h

  none_of : (due : Result (Option (Inventory × Vec Mark Global)) AllocError) (change : Option AgentChange) (old new : House S T D K E) (control : Option (Control T D)) (state : Option K) → old.control ≡ control → old.state ≡ state →
      (is_some control || is_some state) ≡ false → InventoryIsDue gives now due state → AsksIf does rows keeps path reads gives agent now due change old new → change ≡ None
  none_of due change old new (Some control) state c s is is_due h = absurd (true≢false is)
  none_of due change old new None (Some state) c s is is_due h = absurd (true≢false is)
  none_of (Ok None) change old new None None c s is is_due h =
      let all = heard_for does rows agent now old.awaited h.heard old h.mid h.hears in
      none_if h.heard change h.mid new (none_heard does rows agent now old.awaited h.heard old h.mid s h.hears) (left_none old.control h.mid.control all.control c) h.then
  none_of (Ok (Some p)) change old new None None c s is is_due h = absurd is_due
  none_of (Err e) change old new None None c s is is_due h = h.0

-- ---- by what is there

given_as : {S T D K E : Type 0} (old new : House S T D K E) → AreSame old new → changes_given new.control new.state ≡ changes_given old.control old.state
given_as old new h = ap (λ b. given_where (b || is_some new.state)) h.control ∙ ap (λ b. given_where (is_some old.control || b)) h.state

by_case : (b : Bool) (change : Option AgentChange) → (b ≡ false → change ≡ None) → AllGiven (option_to_list change) (given_where b) (given_where b)
by_case true change none = tt
by_case false change none = subst (λ (c : Option AgentChange). AllGiven (option_to_list c) (Some []) (Some [])) (sym (none refl)) ([], (refl, refl))

-- ---- a turn gives none

same_goers : {T D : Type 0} (remaining written : T → Option (List ℕ)) (calls : T → Option (List TalkCall)) (log : D → Option (DoorLog T)) (agent : Agent) (around : Around) (now : Reading) (went : Went)
    (old new : Option (Control T D)) → ClientsGoOn remaining written calls log agent around now went old new → is_some new ≡ is_some old
same_goers remaining written calls log agent around now went None new h = ap is_some h.1
same_goers remaining written calls log agent around now went (Some old) None h = absurd h
same_goers remaining written calls log agent around now went (Some old) (Some new) h = refl

same_fed : {T D : Type 0} (form : Form) (moment : ℕ) (old new : Rooms) (before after : Option (Control T D)) → FollowersGoOn form moment old new before after → is_some after ≡ is_some before
same_fed form moment old new None after h = ap is_some h.1
same_fed form moment old new (Some before) None h = absurd h
same_fed form moment old new (Some before) (Some after) h = refl

pub none_by_attending : {S T D K E : Type 0} (given : S → Option (List ℕ)) (failures tries : S → ℕ) (tried : S → Option (List Tried)) (remaining written : T → Option (List ℕ)) (calls : T → Option (List TalkCall)) (log : D → Option (DoorLog T))
    (rows : K → List Row) (keeps : K → Bool) (agent : Agent) (now : Reading) (goes_on : Bool) (old new : House S T D K E) → Attends given failures tries tried remaining written calls log rows keeps agent now goes_on old new → changes_given new.control new.state ≡ changes_given old.control old.state
none_by_attending given failures tries tried remaining written calls log rows keeps agent now goes_on old new h =
    ap (λ b. given_where (b || is_some new.state)) (same_goers remaining written calls log agent _ now h.answered h.fed new.control h.clients ∙ same_fed _ _ _ h.rooms old.control h.fed h.follow)
    ∙ ap (λ x. given_where (is_some old.control || is_some x.state)) h.rest

-- nor does a look at files of credentials
looked_at : {K : Type 0} (does : KeepCall → K → K → Type 0) (now : Reading) (look : FileLook) (old new : Option K) → AsksToLook does now look old new → is_some new ≡ is_some old
looked_at does now look None new h = ap is_some h.1
looked_at does now look (Some old) None h = absurd h
looked_at does now look (Some old) (Some new) h = refl

pub none_by_looking : {S T D K E : Type 0} (does : KeepCall → K → K → Type 0) (agent : Agent) (now : Reading) (goes_on : Bool) (old new : House S T D K E) → LooksAround does agent now goes_on old new → changes_given new.control new.state ≡ changes_given old.control old.state
none_by_looking does agent now goes_on old new h =
    ap (λ x. given_where (is_some x.control || is_some new.state)) h.rest
    ∙ ap (λ b. given_where (is_some old.control || b)) (looked_at does now h.look old.state new.state h.asks)

-- ---- a client gives one, or an inventory that is due

pub one_by_asking : {S T D K E : Type 0} (does : KeepCall → K → K → Type 0) (rows : K → List Row) (keeps : K → Bool) (path : K → List ℕ) (reads : K → List ℕ → Result Row Why → Type 0) (gives : ℕ → Result (Option Inventory) AllocError → K → Type 0)
    (agent : Agent) (now : Reading) (change : Option AgentChange) (old new : House S T D K E) → AsksFor does rows keeps path reads gives agent now change old new →
    AllGiven (option_to_list change) (changes_given old.control old.state) (changes_given new.control new.state)
one_by_asking does rows keeps path reads gives agent now change old new h =
    subst (λ g. AllGiven (option_to_list change) (changes_given old.control old.state) g) (sym (given_as old new (asked_for does rows keeps path reads gives agent now h.0 change old new h.1.1)))
    (by_case (is_some old.control || is_some old.state) change (λ none. none_of does rows keeps path reads gives agent now h.0 change old new old.control old.state refl refl none h.1.0 h.1.1))

-- ---- settling gives none

settled_by : {S T D K E : Type 0} (does : KeepCall → K → K → Type 0) (keeps : K → Bool) (agent : Agent) (is_made : Bool) (given : Option Given) (old new : House S T D K E) → SettlesBy does keeps agent is_made given old new → AreSame old new
settled_by does keeps agent is_made None old new h = same old new h
settled_by does keeps agent true (Some (givens.Need need)) old new h = let all = sent agent h.sent need.at (record old { desk = h.desk }) new h.sends in record { sink = all.sink; control = all.control; state = all.state }
settled_by does keeps agent false (Some (givens.Need need)) old new h = record { sink = ap (λ x. x.sink) h.1; control = answered [] need.at old.control new.control h.0; state = ap (λ x. is_some x.state) h.1 }
settled_by does keeps agent true (Some (givens.Answer text at)) old new h = sent agent text at old new h
settled_by does keeps agent false (Some (givens.Answer text at)) old new h = record { sink = ap (λ x. x.sink) h.1; control = answered [] at old.control new.control h.0; state = ap (λ x. is_some x.state) h.1 }
settled_by does keeps agent true (Some (givens.Aside aside)) old new h =
    record { sink = ap (λ x. x.sink) h.rest; control = told_aside aside.client (bytes_sent aside.sent) aside.at old.control new.control h.answered; state = ap (λ x. is_some x.state) h.rest }
settled_by does keeps agent false (Some (givens.Aside aside)) old new h = record { sink = ap (λ x. x.sink) h.1; control = told_aside aside.client [] aside.at old.control new.control h.0; state = ap (λ x. is_some x.state) h.1 }
settled_by does keeps agent true (Some (givens.Served marks)) old new h = record { sink = ap (λ x. x.sink) h.1; control = ap (λ x. is_some x.control) h.1; state = marked_served does old.state new.state h.0 }
settled_by does keeps agent false (Some (givens.Served marks)) old new h = same old new h
settled_by does keeps agent true (Some givens.Unchanged) old new h = record { sink = ap (λ x. x.sink) h.1; control = ap (λ x. is_some x.control) h.1; state = marked_served does old.state new.state h.0 }
settled_by does keeps agent false (Some givens.Unchanged) old new h = same old new h

pub settled_given : {S T D K E : Type 0} (does : KeepCall → K → K → Type 0) (keeps : K → Bool) (agent : Agent) (is_made : Bool) (old new : House S T D K E) → SettlesGiven does keeps agent is_made old new → AreSame old new
settled_given does keeps agent is_made old new h = let all = settled_by does keeps agent is_made old.given (record old { given = None }) new h in record { sink = all.sink; control = all.control; state = all.state }

pub none_by_settling : {S T D K E : Type 0} (does : KeepCall → K → K → Type 0) (keeps : K → Bool) (agent : Agent) (is_made : Bool) (old new : House S T D K E) → SettlesGiven does keeps agent is_made old new → changes_given new.control new.state ≡ changes_given old.control old.state
none_by_settling does keeps agent is_made old new h = given_as old new (settled_given does keeps agent is_made old new h)
