-- Owed: where a house owes its client an `ok`, the client has asked for it, and it is done. For `whoever_is_told_ok_has_it`.
use Rattle.std.proofs.Common.{◌≡◌, ◌∙◌, ◌⊎◌, ℕ, Bool, true, false, inl, inr, List, [], ◌∷◌, ◌++◌, Option, Some, None, Result, Ok, Err, ap, arith, codes, refl, slice_index, subst, sym}
use Rattle.std.specs.Prelude.{Vec}
use Rattle.std.specs.{declared.alloc.AllocError.AllocError, declared.alloc.Global.Global}
use Rattle.agent_standing.specs.Agent.{Agent}
use Rattle.agent_answers.specs.{declared.asked.ClientOrder.ClientOrder, declared.control.Control.Control}
use Rattle.agent_answers.specs.declared.asked.ClientOrder.TheVariants as asked
use Rattle.state_changes.specs.{declared.change.ChangeKind.ChangeKind, declared.row.Row.Row}
use Rattle.state_changes.specs.declared.change.ChangeKind.TheVariants as what
use Rattle.base_clock.specs.declared.reading.Reading.{Reading}
use Rattle.agent_control.specs.Replies.{control_reply_text}
use Rattle.agent_control.specs.declared.reply.ControlReply.TheVariants as replies
use Rattle.vault_inventory.specs.{Inventories.Inventory, declared.need.Need.Need}
use Rattle.vault_lanes.specs.declared.loss.Loss.{Loss}
use Rattle.vault_proving.specs.declared.verdict.Verdict.{Verdict}
use Rattle.vault_proving.specs.declared.verdict.Verdict.TheVariants as verdicts
use Rattle.agent_turns.specs.declared.change.AgentChange.{AgentChange}
use Rattle.agent_log.specs.{Lines.Line, declared.mark.Mark.Mark}
use Rattle.agent_words.specs.declared.reread.Reread.{Reread}
use Rattle.agent_words.specs.Outcomes.{Outcome, Why, Whys}
use Rattle.agent_words.specs.Telling.{IsRefusalFor, IsRefusedReply, IsReplyTo}
use Rattle.agent_ledger.specs.declared.keeping.LookedUp.{LookedUp}
use Rattle.agent_ledger.specs.Keeping.{KeepCall, KeeperIsAsked, Reload, Settle, Take}
use Rattle.agent_ledger.specs.declared.keeping.LookedUp.TheVariants as lookups
use Rattle.agent_house.specs.{Retries.read_badly, Retries.read_well, declared.given.Awaited.Awaited, declared.given.Given.Given, declared.house.House.House}
use Rattle.agent_house.specs.Admitting.{AdmitsIf, FollowsLog, asking_in}
use Rattle.agent_house.specs.Awaiting.{HearsFor, Judges, LooksUpFirst, LooksUpIf, Makes, VerdictIs, addressed}
use Rattle.agent_house.specs.Commands.{AddsIf, AsksFor, AsksIf, CarriesIf, CarriesOut, GivesNeed, GoesOnIf, IsGivenWith, NeedIsKept, NeedsIf, ReadsRow, RereadBy, RereadIf, TakesIfThere, TakesNeedBy, TellsReload}
use Rattle.agent_house.specs.Houses.{ClientIsAside, ClientsAsk, Concludes, WillRefuse, WillTell, bytes_sent}
use Rattle.agent_house.specs.declared.given.Given.TheVariants as givens

abbrev got : {X : Type 0} → X → Option X → X
got d None = d
got d (Some x) = x

-- ---- a refusal does not begin with `ok`

abbrev pub BeginsOk : Option (List ℕ) → Type 0
BeginsOk sent = (more : List ℕ) × (bytes_sent sent ≡ codes "ok" ++ more)

not_nothing : BeginsOk None → ⊥
not_nothing ok = (let first : 0 ≡ 111 = ap (λ (l : List ℕ). slice_index l 0) ok.1 in absurd (omega (arith, first)))

refusal_first : (why : List ℕ) (more : List (List ℕ)) → slice_index (control_reply_text (replies.Refused why more)) 0 ≡ 101
unfolding control_reply_text
refusal_first why more = refl

not_refusal : (why : List ℕ) (more : List (List ℕ)) (text : List ℕ) → text ≡ control_reply_text (replies.Refused why more) → BeginsOk (Some text) → ⊥
not_refusal why more text is ok =
    let first : 101 ≡ 111 = sym (refusal_first why more) ∙ ap (λ (l : List ℕ). slice_index l 0) (sym is ∙ ok.1) in
    absurd (omega (arith, first))

not_refused : (why : Why) (sent : Option (List ℕ)) → IsRefusedReply why sent → BeginsOk sent → ⊥
not_refused None sent is ok = not_nothing (subst BeginsOk is ok)
not_refused (Some why) None is ok = not_nothing ok
not_refused (Some why) (Some text) is ok = not_refusal why [] text is ok

not_faulty : (whys : List (List ℕ)) (sent : Option (List ℕ)) → IsRefusalFor whys sent → BeginsOk sent → ⊥
not_faulty [] sent is ok = not_nothing (subst BeginsOk is ok)
not_faulty (why ∷ more) None is ok = not_nothing ok
not_faulty (why ∷ more) (Some text) is ok = not_refusal why more text is ok

-- it was done
abbrev WasDone : Outcome → Type 0
WasDone (Ok line) = Unit {0}
WasDone (Err why) = ⊥

was_done : (outcome : Outcome) (sent : Option (List ℕ)) → IsReplyTo outcome sent → BeginsOk sent → WasDone outcome
was_done (Ok line) sent is ok = tt
was_done (Err why) sent is ok = absurd (not_refused why sent is ok)

-- ---- what is owed

module _ {S T D K E : Type 0} where
  -- an answer is given, and where it begins with `ok` this is so
  record Answers (Q : Option K → Type 0) (old new : House S T D K E) : Type 0 where
    sent : Option (List ℕ)
    at : ℕ
    given : new.given ≡ Some (givens.Answer sent at)
    ok : BeginsOk sent → Q new.state
    control : new.control ≡ old.control
    awaited : new.awaited ≡ old.awaited

  tell : (Q : Option K → Type 0) (outcome : Outcome) (now : ℕ) (old new : House S T D K E) → WillTell outcome now old new → (WasDone outcome → Q old.state) → Answers Q old new
  tell Q outcome now old new h so = record {
    sent = h.sent;
    at = now;
    given = ap (λ x. x.given) h.rest;
    ok = λ ok. subst Q (sym (ap (λ x. x.state) h.rest)) (so (was_done outcome h.sent h.reply ok));
    control = ap (λ x. x.control) h.rest;
    awaited = ap (λ x. x.awaited) h.rest;
  }

  refuse : (Q : Option K → Type 0) (whys : List (List ℕ)) (now : ℕ) (old new : House S T D K E) → WillRefuse whys now old new → Answers Q old new
  refuse Q whys now old new h = record {
    sent = h.sent;
    at = now;
    given = ap (λ x. x.given) h.rest;
    ok = λ ok. absurd (not_faulty whys h.sent h.reply ok);
    control = ap (λ x. x.control) h.rest;
    awaited = ap (λ x. x.awaited) h.rest;
  }

  -- from a house with another desk, state or file
  from : (Q : Option K → Type 0) (mid old new : House S T D K E) → mid.control ≡ old.control → mid.awaited ≡ old.awaited → Answers Q mid new → Answers Q old new
  from Q mid old new control awaited h = record { sent = h.sent; at = h.at; given = h.given; ok = h.ok; control = h.control ∙ control; awaited = h.awaited ∙ awaited }

  conclude : (Q : Option K → Type 0) (agent : Agent) (l : Line) (outcome : Outcome) (now : ℕ) (old new : House S T D K E) → Concludes agent l outcome now old new → (WasDone outcome → Q old.state) → Answers Q old new
  conclude Q agent l outcome now old new h so = from Q (record old { desk = h.desk }) old new refl refl (tell Q outcome now (record old { desk = h.desk }) new h.will so)

-- ---- what a call for a change leaves owed

-- the change of that entry that is asked for, where a table writes a row
abbrev pub IsChangeOf : {K : Type 0} → (K → List ℕ → Result Row Why → Type 0) → ClientOrder → List ℕ → ChangeKind → Type 0
IsChangeOf reads (asked.Need n need) name w = (name ≡ n) × (w ≡ what.Need need)
IsChangeOf reads (asked.Replace n credential) name w = (name ≡ n) × (w ≡ what.Replace credential)
IsChangeOf {K} reads (asked.Add table) name w = (k : K) × ((row : Row) × (reads k table (Ok row) × ((name ≡ row.name) × (w ≡ what.Add row))))
IsChangeOf reads (asked.Drop n) name w = (name ≡ n) × (w ≡ what.Drop)
IsChangeOf reads asked.Settle name w = ⊥
IsChangeOf reads asked.Reload name w = ⊥
IsChangeOf reads (asked.Follow alerts) name w = ⊥

-- what is asked for is done where the change was taken, where the file was settled or read anew, and where it is a need and nothing keeps it
pub record AreDone {K : Type 0} (does : KeepCall → K → K → Type 0) (reads : K → List ℕ → Result Row Why → Type 0) (Done : ClientOrder → Option K → Type 0) : Type 0 where
  pub taken : (a : ClientOrder) (now : ℕ) (name : List ℕ) (w : ChangeKind) (x : Unit {0}) (l m : K) → IsChangeOf reads a name w → does (Take now name w (Ok x)) l m → Done a (Some m)
  pub settled : (x : Unit {0}) (l m : K) → does (Settle (Ok x)) l m → Done asked.Settle (Some m)
  pub reloaded : (now : ℕ) (reread : Reread) (l m : K) → does (Reload now (Ok reread)) l m → Done asked.Reload (Some m)
  pub unkept : (name : List ℕ) (need : Need) → Done (asked.Need name need) None

module _ {K : Type 0} (Done : ClientOrder → Option K → Type 0) (has : ℕ → ClientOrder → Type 0) where
  -- the client of that number has asked for something that is done
  abbrev pub IsTold : Option ℕ → Option K → Type 0
  IsTold who state = (id : ℕ) → who ≡ Some id → (a : ClientOrder) × (has id a × Done a state)

  abbrev pub IsOwed : Option ℕ → Option K → Option Given → Type 0
  IsOwed who state None = Unit {0}
  IsOwed who state (Some (givens.Need need)) = IsTold who state
  IsOwed who state (Some (givens.Answer sent at)) = BeginsOk sent → IsTold who state
  IsOwed who state (Some (givens.Aside aside)) = BeginsOk aside.sent → IsTold aside.client state
  IsOwed who state (Some _) = Unit {0}

-- the client of a change that waits has asked for it
abbrev pub WaitsFor : {K : Type 0} → (K → List ℕ → Result Row Why → Type 0) → (ℕ → ClientOrder → Type 0) → Option Awaited → Type 0
WaitsFor reads has None = Unit {0}
WaitsFor reads has (Some w) = (id : ℕ) → w.client ≡ Some id → (a : ClientOrder) × (has id a × IsChangeOf reads a w.name w.what)

pub record Owes {S T D K E : Type 0} (reads : K → List ℕ → Result Row Why → Type 0) (Done : ClientOrder → Option K → Type 0) (has : ℕ → ClientOrder → Type 0) (h : House S T D K E) : Type 0 where
  pub given : IsOwed Done has (asking_in h.control) h.state h.given
  pub waits : WaitsFor reads has h.awaited

-- it is the turn of a client
abbrev pub IsTurnOf : {T D : Type 0} → Reading → Option (Control T D) → ℕ → ClientOrder → Type 0
IsTurnOf {T} {D} now control id a = (after : Option (Control T D)) × (ClientsAsk now (Ok (Some a)) control after × (asking_in after ≡ Some id))

set_aside : {T D : Type 0} (client : Option ℕ) (old new : Option (Control T D)) → ClientIsAside client old new → client ≡ asking_in old
set_aside client None new h = h.0
set_aside client (Some old) None h = absurd h
set_aside client (Some old) (Some new) h = h.0

given_with : {K : Type 0} (Done : ClientOrder → Option K → Type 0) (has : ℕ → ClientOrder → Type 0) (agent : Agent) (s : Inventory) (marks : List Mark) (who : Option ℕ) (state : Option K) (given : Option Given) → IsGivenWith agent s marks given → IsOwed Done has who state given
given_with Done has agent s marks who state None h = tt
given_with Done has agent s marks who state (Some (givens.Served given)) h = tt
given_with Done has agent s marks who state (Some givens.Unchanged) h = tt
given_with Done has agent s marks who state (Some _) h = absurd h

module _ {K : Type 0} (does : KeepCall → K → K → Type 0) (reads : K → List ℕ → Result Row Why → Type 0) (Done : ClientOrder → Option K → Type 0) (so : AreDone does reads Done) where
  settler : (Says : K → List ℕ → Type 0) (outcome : Outcome) (old new : Option K) → KeeperIsAsked does Settle Says outcome old new → WasDone outcome → Done asked.Settle new
  settler Says (Ok line) None new h done = absurd h.1
  settler Says (Ok line) (Some l) None h done = absurd h
  settler Says (Ok line) (Some l) (Some m) h done = so.settled tt l m h.0
  settler Says (Err why) old new h done = absurd done

  -- it was taken, whether it is kept or not
  taken_if : (now : Reading) (name : List ℕ) (need : Need) (there : Result (Unit {0}) Why) (x : Unit {0}) (l m : K) → TakesIfThere does now name need there (Ok x) l m → does (Take now.elapsed name (what.Need need) (Ok x)) l m
  taken_if now name need (Ok y) x l m h = h
  taken_if now name need (Err why) x l m h = absurd (let clash = h.0 in cc)

  taken_by : (keeps : Bool) (agent : Agent) (now : Reading) (name : List ℕ) (need : Need) (x : Unit {0}) (l m : K) → TakesNeedBy does keeps agent now name need (Ok x) l m → does (Take now.elapsed name (what.Need need) (Ok x)) l m
  taken_by keeps agent now name need x l m (inl h) = h.1
  taken_by keeps agent now name need x l m (inr h) = taken_if now name need h.1.0 x l m h.1.1.1

  need_done : (keeps : K → Bool) (agent : Agent) (now : Reading) (name : List ℕ) (need : Need) (x : Unit {0}) (old new : Option K) → NeedIsKept does keeps agent now name need (Ok x) old new → Done (asked.Need name need) new
  need_done keeps agent now name need x None new h = subst (Done (asked.Need name need)) (sym h.1) (so.unkept name need)
  need_done keeps agent now name need x (Some l) None h = absurd h
  need_done keeps agent now name need x (Some l) (Some m) h = so.taken (asked.Need name need) now.elapsed name (what.Need need) x l m (refl, refl) (taken_by (keeps l) agent now name need x l m h)

  read_is : (table : List ℕ) (row : Row) (state : Option K) → ReadsRow reads table (Ok row) state → IsChangeOf reads (asked.Add table) row.name (what.Add row)
  read_is table row None h = absurd h
  read_is table row (Some k) h = (k, (row, (h, (refl, refl))))

  reread_so : (keeps : Bool) (now : Reading) (reread : Reread) (l m : K) → RereadIf does keeps now (Some (Ok reread)) l m → does (Reload now.elapsed (Ok reread)) l m
  reread_so keeps now reread l m (inl h) = h.1
  reread_so keeps now reread l m (inr h) = absurd (let clash = h.1.0 in cc)

  reload_done : (keeps : K → Bool) (now : Reading) (reread : Reread) (old new : Option K) → RereadBy does keeps now (Some (Ok reread)) old new → Done asked.Reload new
  reload_done keeps now reread None new h = absurd (let clash = h.0 in cc)
  reload_done keeps now reread (Some l) None h = absurd h
  reload_done keeps now reread (Some l) (Some m) h = so.reloaded now.elapsed reread l m (reread_so (keeps l) now reread l m h)

-- whoever keeps changes was asked for one, from which this follows
module _ {K : Type 0} (does : KeepCall → K → K → Type 0) (now : ℕ) (name : List ℕ) (w : ChangeKind) (Q : Option K → Type 0) (made : (x : Unit {0}) (l m : K) → does (Take now name w (Ok x)) l m → Q (Some m)) where
  keeper : (Says : K → List ℕ → Type 0) (outcome : Outcome) (old new : Option K) → KeeperIsAsked does (λ done. Take now name w done) Says outcome old new → WasDone outcome → Q new
  keeper Says (Ok line) None new h done = absurd h.1
  keeper Says (Ok line) (Some l) None h done = absurd h
  keeper Says (Ok line) (Some l) (Some m) h done = made tt l m h.0
  keeper Says (Err why) old new h done = absurd done

module _ {S T D K E : Type 0} (does : KeepCall → K → K → Type 0) (rows : K → List Row) (keeps : K → Bool) (path : K → List ℕ) (reads : K → List ℕ → Result Row Why → Type 0)
    (gives : ℕ → Result (Option Inventory) AllocError → K → Type 0) (Done : ClientOrder → Option K → Type 0) (so : AreDone does reads Done) (has : ℕ → ClientOrder → Type 0) where
  abbrev Owing : House S T D K E → Type 0
  Owing h = Owes reads Done has h

  -- the client whose request was taken last is to be answered, which has asked for this
  abbrev Links : ClientOrder → House S T D K E → Type 0
  Links a h = (id : ℕ) → asking_in h.control ≡ Some id → has id a

  owed : (a : ClientOrder) (old new : House S T D K E) → Links a old → WaitsFor reads has old.awaited → Answers (Done a) old new → Owing new
  owed a old new link waits h = record {
    given = subst (λ (g : Option Given). IsOwed Done has (asking_in new.control) new.state g) (sym h.given) (λ ok id e. (a, (link id (ap asking_in (sym h.control) ∙ e), h.ok ok)));
    waits = subst (λ (a : Option Awaited). WaitsFor reads has a) (sym h.awaited) waits;
  }

  -- nothing is given
  none_owed : (old new : House S T D K E) → new.given ≡ old.given → old.given ≡ None → WaitsFor reads has new.awaited → Owing new
  none_owed old new same none waits = record { given = subst (λ (g : Option Given). IsOwed Done has (asking_in new.control) new.state g) (sym (same ∙ none)) tt; waits = waits }

  module _ (agent : Agent) (now : Reading) where
    -- ---- a change is made, from which this follows

    module _ (name : List ℕ) (w : ChangeKind) (Q : Option K → Type 0) (made : (x : Unit {0}) (l m : K) → does (Take now.elapsed name w (Ok x)) l m → Q (Some m)) where
      taken_so : (Says : K → List ℕ → Type 0) (l : Line) (outcome : Outcome) (state : Option K) (old new : House S T D K E) → KeeperIsAsked does (λ done. Take now.elapsed name w done) Says outcome old.state state →
          Concludes agent l outcome now.elapsed (record old { state = state }) new → Answers Q old new
      taken_so Says l outcome state old new comes concludes =
          from Q (record old { state = state }) old new refl refl (conclude Q agent l outcome now.elapsed (record old { state = state }) new concludes (keeper does now.elapsed name w Q made Says outcome old.state state comes))

    makes : (name : List ℕ) (w : ChangeKind) (Q : Option K → Type 0) → ((x : Unit {0}) (l m : K) → does (Take now.elapsed name w (Ok x)) l m → Q (Some m)) → (why : Option Loss) (old new : House S T D K E) → Makes does rows agent now name w why old new → Answers Q old new
    makes name (what.Replace credential) Q made why old new h = taken_so name (what.Replace credential) Q made _ _ h.outcome h.state old new h.comes h.concludes
    makes name (what.Add row) Q made why old new h = taken_so name (what.Add row) Q made _ _ h.outcome h.state old new h.comes h.concludes
    makes name _ Q made why old new h = tell Q (Err None) now.elapsed old new h (λ done. absurd done)

    judges : (name : List ℕ) (w : ChangeKind) (Q : Option K → Type 0) → ((x : Unit {0}) (l m : K) → does (Take now.elapsed name w (Ok x)) l m → Q (Some m)) → (verdict : Verdict) (old new : House S T D K E) → Judges does rows agent now name w verdict old new → Answers Q old new
    judges name w Q made verdicts.Good old new h = makes name w Q made None old new h
    judges name w Q made (verdicts.Missing why) old new h = makes name w Q made (Some why) old new h
    judges name w Q made _ old new h = tell Q (Err h.0) now.elapsed old new h.1.1 (λ done. absurd done)

    -- ---- a client that was set aside

    aside_none : (name : List ℕ) (w : ChangeKind) (verdict : Verdict) (old mid : House S T D K E) → old.awaited ≡ None → Judges does rows agent now name w verdict old mid → Owing (record mid { given = addressed None mid.given })
    aside_none name w verdict old mid none h =
        let all = judges name w (λ (s : Option K). Unit {0}) (λ x l m taken. tt) verdict old mid h in record {
          given = subst (λ (g : Option Given). IsOwed Done has (asking_in mid.control) mid.state (addressed None g)) (sym all.given) (λ ok id e. absurd cc);
          waits = subst (λ (a : Option Awaited). WaitsFor reads has a) (sym (all.awaited ∙ none)) tt;
        }

    aside_some : (x : ClientOrder) (number : ℕ) (name : List ℕ) (w : ChangeKind) (verdict : Verdict) (old mid : House S T D K E) → has number x → IsChangeOf reads x name w → old.awaited ≡ None → Judges does rows agent now name w verdict old mid →
        Owing (record mid { given = addressed (Some number) mid.given })
    aside_some x number name w verdict old mid asked_it is none h =
        let all = judges name w (Done x) (λ u l m taken. so.taken x now.elapsed name w u l m is taken) verdict old mid h in record {
          given = subst (λ (g : Option Given). IsOwed Done has (asking_in mid.control) mid.state (addressed (Some number) g)) (sym all.given)
              (λ ok id e. (x, (subst (λ (i : ℕ). has i x) (ap (got 0) e) asked_it, all.ok ok)));
          waits = subst (λ (a : Option Awaited). WaitsFor reads has a) (sym (all.awaited ∙ none)) tt;
        }

    aside_by : (client : Option ℕ) (name : List ℕ) (w : ChangeKind) (verdict : Verdict) (old mid : House S T D K E) → WaitsFor reads has (Some (record { client = client; name = name; what = w })) → old.awaited ≡ None → Judges does rows agent now name w verdict old mid →
        Owing (record mid { given = addressed client mid.given })
    aside_by None name w verdict old mid waits none h = aside_none name w verdict old mid none h
    aside_by (Some number) name w verdict old mid waits none h = (let it = waits number refl in aside_some it.0 number name w verdict old mid it.1.0 it.1.1 none h)

    -- the broker's word on a change that waits
    verdict_owed : (a : Awaited) (verdict : Result (Option Verdict) AllocError) (heard : Bool) (old mid : House S T D K E) → old.given ≡ None → old.awaited ≡ None → WaitsFor reads has (Some a) → VerdictIs does rows agent now a verdict heard old mid → Owing mid
    verdict_owed a (Ok None) heard old mid none gone waits h = none_owed old mid (ap (λ x. x.given) h.1) none (subst (λ (a : Option Awaited). WaitsFor reads has a) (sym (ap (λ x. x.awaited) h.1)) waits)
    verdict_owed a (Ok (Some verdict)) heard old mid none gone waits h = subst Owing (sym h.1.1.1) (aside_by a.client a.name a.what verdict old h.1.0 waits gone h.1.1.0)
    verdict_owed a (Err e) heard old mid none gone waits h =
        let all = tell (λ (s : Option K). ⊥) (Err None) now.elapsed old h.1.0 h.1.1.0 (λ done. absurd done) in
        subst Owing (sym h.1.1.1) (record {
          given = subst (λ (g : Option Given). IsOwed Done has (asking_in h.1.0.control) h.1.0.state (addressed a.client g)) (sym all.given) (λ ok id e. absurd (all.ok ok));
          waits = subst (λ (a : Option Awaited). WaitsFor reads has a) (sym (all.awaited ∙ gone)) tt;
        })

    heard_owed : (awaited : Option Awaited) (old mid : House S T D K E) → old.given ≡ None → WaitsFor reads has awaited → HearsFor does rows agent now awaited true old mid → Owing mid
    heard_owed None old mid none waits h = absurd (let clash : true ≡ false = h.0 in cc)
    heard_owed (Some a) old mid none waits h = verdict_owed a h.verdict true (record old { awaited = None; state = h.state }) mid none refl waits h.then

    -- there is no word, and all is as it was
    record Stays (old new : House S T D K E) : Type 0 where
      given : new.given ≡ old.given
      control : new.control ≡ old.control
      waits : WaitsFor reads has new.awaited

    verdict_stays : (a : Awaited) (verdict : Result (Option Verdict) AllocError) (old mid : House S T D K E) → WaitsFor reads has (Some a) → VerdictIs does rows agent now a verdict false old mid → Stays old mid
    verdict_stays a (Ok None) old mid waits h = record { given = ap (λ x. x.given) h.1; control = ap (λ x. x.control) h.1; waits = subst (λ (a : Option Awaited). WaitsFor reads has a) (sym (ap (λ x. x.awaited) h.1)) waits }
    verdict_stays a (Ok (Some verdict)) old mid waits h = absurd (let clash : false ≡ true = h.0 in cc)
    verdict_stays a (Err e) old mid waits h = absurd (let clash : false ≡ true = h.0 in cc)

    heard_stays : (awaited : Option Awaited) (old mid : House S T D K E) → old.awaited ≡ awaited → WaitsFor reads has awaited → HearsFor does rows agent now awaited false old mid → Stays old mid
    heard_stays None old mid is waits h = record { given = ap (λ x. x.given) h.1; control = ap (λ x. x.control) h.1; waits = subst (λ (a : Option Awaited). WaitsFor reads has a) (sym (ap (λ x. x.awaited) h.1 ∙ is)) tt }
    heard_stays (Some a) old mid is waits h = (let all = verdict_stays a h.verdict (record old { awaited = None; state = h.state }) mid waits h.then in record { given = all.given; control = all.control; waits = all.waits })

    -- ---- what a client asks for is carried out

    module _ (x : ClientOrder) where
      looks_if : (name : List ℕ) (w : ChangeKind) (result : Result LookedUp AllocError) (old new : House S T D K E) → IsChangeOf reads x name w → old.given ≡ None → Links x old → WaitsFor reads has old.awaited → LooksUpIf does rows agent now name w result old new → Owing new
      looks_if name w (Ok lookups.Out) old new is none link waits h =
          none_owed old new (ap (λ y. y.given) h.rest) none
          (subst (λ (a : Option Awaited). WaitsFor reads has a) (sym (ap (λ y. y.awaited) h.rest)) (λ id e. (x, (link id (sym (set_aside h.client old.control new.control h.aside) ∙ e), is))))
      looks_if name w (Ok lookups.Later) old new is none link waits h = owed x old new link waits (tell (Done x) (Err h.0) now.elapsed old new h.1.1 (λ done. absurd done))
      looks_if name w (Ok lookups.Nothing) old new is none link waits h = owed x old new link waits (makes name w (Done x) (λ u l m taken. so.taken x now.elapsed name w u l m is taken) None old new h)
      looks_if name w (Err e) old new is none link waits h = owed x old new link waits (tell (Done x) (Err None) now.elapsed old new h (λ done. absurd done))

      looks : (name : List ℕ) (w : ChangeKind) (old new : House S T D K E) → IsChangeOf reads x name w → old.given ≡ None → Links x old → WaitsFor reads has old.awaited → LooksUpFirst does rows agent now name w old new → Owing new
      looks name w old new is none link waits h = looks_if name w h.looked_up (record old { state = h.state }) new is none link waits h.then

    need_given : (name : List ℕ) (need : Need) (until : ℕ) (i : Option ℕ) (change : AgentChange) (old new : House S T D K E) → Done (asked.Need name need) old.state → Links (asked.Need name need) old → WaitsFor reads has old.awaited → GivesNeed agent now name until i change old new → Owing new
    need_given name need until (Some i) change old new done link waits h =
        subst Owing (sym h.1) (record { given = λ id e. (asked.Need name need, (link id e, done)); waits = waits })
    need_given name need until None change old new done link waits h =
        owed (asked.Need name need) old new link waits (conclude (Done (asked.Need name need)) agent _ (Ok h.1.0) now.elapsed old new h.1.1.1 (λ was. done))

    need_if : (name : List ℕ) (need : Need) (until : ℕ) (result : Result (Unit {0}) Why) (change : AgentChange) (state : Option K) (old new : House S T D K E) → NeedIsKept does keeps agent now name need result old.state state → Links (asked.Need name need) old → WaitsFor reads has old.awaited →
        NeedsIf agent now name until result change (record old { state = state }) new → Owing new
    need_if name need until (Ok x) change state old new kept link waits h = need_given name need until _ change (record old { state = state }) new (need_done does reads Done so keeps agent now name need x old.state state kept) link waits h
    need_if name need until (Err why) change state old new kept link waits h =
        owed (asked.Need name need) old new link waits (from (Done (asked.Need name need)) (record old { state = state }) old new refl refl (tell (Done (asked.Need name need)) (Err why) now.elapsed (record old { state = state }) new h.1 (λ done. absurd done)))

    add_if : (table : List ℕ) (read : Result Row Why) (old new : House S T D K E) → ReadsRow reads table read old.state → old.given ≡ None → Links (asked.Add table) old → WaitsFor reads has old.awaited → AddsIf does rows agent now read old new → Owing new
    add_if table (Ok row) old new reads_row none link waits h = looks (asked.Add table) row.name (what.Add row) old new (read_is does reads Done so table row old.state reads_row) none link waits h
    add_if table (Err why) old new reads_row none link waits h = owed (asked.Add table) old new link waits (tell (Done (asked.Add table)) (Err why) now.elapsed old new h (λ done. absurd done))

    reload_told : (result : Option (Result Reread Whys)) (state : Option K) (old new : House S T D K E) → RereadBy does keeps now result old.state state → TellsReload path agent now result (record old { state = state }) new → Answers (Done asked.Reload) old new
    reload_told None state old new asks h = from (Done asked.Reload) (record old { state = state }) old new refl refl (tell (Done asked.Reload) (Err h.why) now.elapsed (record old { state = state }) new h.will (λ done. absurd done))
    reload_told (Some (Ok r)) state old new asks h =
        from (Done asked.Reload) (record old { state = state; desk = h.desk; file = read_well now }) old new refl refl
        (tell (Done asked.Reload) (Ok h.line) now.elapsed (record old { state = state; desk = h.desk; file = read_well now }) new h.will (λ done. reload_done does reads Done so keeps now r old.state state asks))
    reload_told (Some (Err whys)) state old new asks h =
        from (Done asked.Reload) (record old { state = state; desk = h.desk; file = read_badly now old.file }) old new refl refl
        (refuse (Done asked.Reload) whys.items now.elapsed (record old { state = state; desk = h.desk; file = read_badly now old.file }) new h.will)

    admits_if : (id : Option ℕ) (alerts : Bool) (old new : House S T D K E) → old.given ≡ None → WaitsFor reads has old.awaited → AdmitsIf id alerts old new → Owing new
    admits_if None alerts old new none waits h = none_owed old new (ap (λ y. y.given) h) none (subst (λ (a : Option Awaited). WaitsFor reads has a) (sym (ap (λ y. y.awaited) h)) waits)
    admits_if (Some id) alerts old new none waits h = none_owed old new (ap (λ y. y.given) h.rest) none (subst (λ (a : Option Awaited). WaitsFor reads has a) (sym (ap (λ y. y.awaited) h.rest)) waits)

    admits : (alerts : Bool) (old new : House S T D K E) → old.given ≡ None → Links (asked.Follow alerts) old → WaitsFor reads has old.awaited → AdmitsIf (asking_in old.control) alerts old new ⊎ WillTell (Err None) now.elapsed old new → Owing new
    admits alerts old new none link waits (inl h) = admits_if (asking_in old.control) alerts old new none waits h
    admits alerts old new none link waits (inr h) = owed (asked.Follow alerts) old new link waits (tell (Done (asked.Follow alerts)) (Err None) now.elapsed old new h (λ done. absurd done))

    follows : (alerts : Bool) (old new : House S T D K E) → old.given ≡ None → Links (asked.Follow alerts) old → WaitsFor reads has old.awaited → FollowsLog now alerts old new → Owing new
    follows alerts old new none link waits (inl h) = owed (asked.Follow alerts) old new link waits (tell (Done (asked.Follow alerts)) (Err h.why) now.elapsed old new h.will (λ done. absurd done))
    follows alerts old new none link waits (inr h) = admits alerts old new none link waits h.admits

    carries : (x : ClientOrder) (change : AgentChange) (old new : House S T D K E) → old.given ≡ None → Links x old → WaitsFor reads has old.awaited → CarriesOut does rows keeps path reads gives agent now x change old new → Owing new
    carries (asked.Need name need) change old new none link waits h = need_if name need _ h.result change h.state old new h.kept link waits h.then
    carries (asked.Replace name credential) change old new none link waits h = looks (asked.Replace name credential) name (what.Replace credential) old new (refl, refl) none link waits h.1
    carries (asked.Add table) change old new none link waits h = add_if table h.1.read old new h.1.reads_row none link waits h.1.then
    carries (asked.Drop name) change old new none link waits h =
        owed (asked.Drop name) old new link waits
        (taken_so name what.Drop (Done (asked.Drop name)) (λ u l m taken. so.taken (asked.Drop name) now.elapsed name what.Drop u l m (refl, refl) taken) _ _ h.1.outcome h.1.state old new h.1.comes h.1.concludes)
    carries asked.Settle change old new none link waits h =
        owed asked.Settle old new link waits
        (from (Done asked.Settle) (record old { state = h.1.state }) old new refl refl
        (conclude (Done asked.Settle) agent _ h.1.outcome now.elapsed (record old { state = h.1.state }) new h.1.concludes (settler does reads Done so _ h.1.outcome old.state h.1.state h.1.comes)))
    carries asked.Reload change old new none link waits h = owed asked.Reload old new link waits (reload_told h.1.result h.1.state old new h.1.asks h.1.tells)
    carries (asked.Follow alerts) change old new none link waits h = follows alerts old new none link waits h.1

    -- ---- a change is asked for

    carries_if : (x : Result (Option ClientOrder) AllocError) (change : Option AgentChange) (control : Option (Control T D)) (old tried new : House S T D K E) → ((id : ℕ) (a : ClientOrder) → IsTurnOf now old.control id a → has id a) → ClientsAsk now x old.control control → tried.control ≡ control → tried.given ≡ None →
        WaitsFor reads has tried.awaited → CarriesIf does rows keeps path reads gives agent now x change tried new → Owing new
    carries_if (Ok None) change control old tried new asks turn same none waits h = none_owed tried new (ap (λ y. y.given) h.1) none (subst (λ (a : Option Awaited). WaitsFor reads has a) (sym (ap (λ y. y.awaited) h.1)) waits)
    carries_if (Ok (Some x)) None control old tried new asks turn same none waits h = absurd h
    carries_if (Ok (Some x)) (Some change) control old tried new asks turn same none waits h = carries x change tried new none (λ id e. asks id x (control, (turn, ap asking_in (sym same) ∙ e))) waits h
    carries_if (Err e) change control old tried new asks turn same none waits h = none_owed tried new (ap (λ y. y.given) h.1.1) none (subst (λ (a : Option Awaited). WaitsFor reads has a) (sym (ap (λ y. y.awaited) h.1.1)) waits)

    goes_on_if : (heard : Bool) (change : Option AgentChange) (old mid new : House S T D K E) → ((id : ℕ) (a : ClientOrder) → IsTurnOf now old.control id a → has id a) → old.given ≡ None → WaitsFor reads has old.awaited → HearsFor does rows agent now old.awaited heard old mid →
        GoesOnIf does rows keeps path reads gives agent now heard change mid new → Owing new
    goes_on_if true change old mid new asks none waits hears h = subst Owing (sym h.1) (heard_owed old.awaited old mid none waits hears)
    goes_on_if false change old mid new asks none waits hears h =
        let all = heard_stays old.awaited old mid refl waits hears in
        let tried = h.tries.rest in
        carries_if h.asked change h.control mid h.tried new (λ id a turn. asks id a (subst (λ (c : Option (Control T D)). IsTurnOf now c id a) all.control turn)) h.clients (ap (λ (x : House S T D K E). x.control) tried)
        (ap (λ (x : House S T D K E). x.given) tried ∙ (all.given ∙ none)) (subst (λ (a : Option Awaited). WaitsFor reads has a) (sym (ap (λ (x : House S T D K E). x.awaited) tried)) all.waits) h.then

    asks_if : (due : Result (Option (Inventory × Vec Mark Global)) AllocError) (change : Option AgentChange) (old new : House S T D K E) → ((id : ℕ) (a : ClientOrder) → IsTurnOf now old.control id a → has id a) → old.given ≡ None → WaitsFor reads has old.awaited →
        AsksIf does rows keeps path reads gives agent now due change old new → Owing new
    asks_if (Ok None) change old new asks none waits h = goes_on_if h.heard change old h.mid new asks none waits h.hears h.then
    asks_if (Ok (Some p)) change old new asks none waits h = record {
      given = given_with Done has agent p.0 p.1.items (asking_in new.control) new.state new.given h.1.0;
      waits = subst (λ (a : Option Awaited). WaitsFor reads has a) (sym (ap (λ y. y.awaited) h.1.1)) waits;
    }
    asks_if (Err e) change old new asks none waits h = none_owed old new (ap (λ y. y.given) h.1.1) none (subst (λ (a : Option Awaited). WaitsFor reads has a) (sym (ap (λ y. y.awaited) h.1.1)) waits)

    -- what is owed then
    pub asked_for : (change : Option AgentChange) (old new : House S T D K E) → ((id : ℕ) (a : ClientOrder) → IsTurnOf now old.control id a → has id a) → old.given ≡ None → WaitsFor reads has old.awaited → AsksFor does rows keeps path reads gives agent now change old new → Owing new
    asked_for change old new asks none waits h = asks_if h.0 change old new asks none waits h.1.1

    -- where there is no change nothing is given
    carried_none : (x : Result (Option ClientOrder) AllocError) (old new : House S T D K E) → CarriesIf does rows keeps path reads gives agent now x None old new → new.given ≡ old.given
    carried_none (Ok None) old new h = ap (λ y. y.given) h.1
    carried_none (Ok (Some x)) old new h = absurd h
    carried_none (Err e) old new h = ap (λ y. y.given) h.1.1

    went_none : (heard : Bool) (old mid new : House S T D K E) → WaitsFor reads has old.awaited → HearsFor does rows agent now old.awaited heard old mid → GoesOnIf does rows keeps path reads gives agent now heard None mid new → new.given ≡ old.given
    went_none true old mid new waits hears h = absurd (let clash = h.0 in cc)
    went_none false old mid new waits hears h = carried_none h.asked h.tried new h.then ∙ (ap (λ (x : House S T D K E). x.given) h.tries.rest ∙ (heard_stays old.awaited old mid refl waits hears).given)

    asked_none : (due : Result (Option (Inventory × Vec Mark Global)) AllocError) (old new : House S T D K E) → WaitsFor reads has old.awaited → AsksIf does rows keeps path reads gives agent now due None old new → new.given ≡ old.given
    asked_none (Ok None) old new waits h = went_none h.heard old h.mid new waits h.hears h.then
    asked_none (Ok (Some p)) old new waits h = absurd (let clash = h.0 in cc)
    asked_none (Err e) old new waits h = ap (λ y. y.given) h.1.1

    pub none_given : (old new : House S T D K E) → WaitsFor reads has old.awaited → AsksFor does rows keeps path reads gives agent now None old new → new.given ≡ old.given
    none_given old new waits h = asked_none h.0 old new waits h.1.1
