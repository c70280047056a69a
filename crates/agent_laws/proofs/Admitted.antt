-- Admitted: where a change is asked for, nobody is told `ok` but a client that follows the log from then on, which has asked for that. For
-- `whoever_is_told_ok_has_it`.
use Rattle.std.proofs.Common.{◌≡◌, ◌∙◌, ◌⊎◌, ℕ, zero, suc, Bool, true, false, ◌&&◌, inl, inr, List, [], ◌∷◌, ◌++◌, get_or, nat_eq, Option, Some, None, Result, Ok, Err, ap, codes, refl, slice_get, slice_set, subst, sym}
use Rattle.std.proofs.lemmas.{Bool.and_parts, Bool.eqb-true, List.Quantifiers.position-Some}
use Rattle.std.specs.{List.position, declared.alloc.AllocError.AllocError, declared.alloc.Global.Global}
use Rattle.std.specs.Prelude.{Vec}
use Rattle.agent_standing.specs.Agent.{Agent}
use Rattle.agent_answers.specs.{Controlling.FollowsAsking, declared.asked.ClientOrder.ClientOrder, declared.control.Control.Control}
use Rattle.agent_answers.specs.declared.asked.ClientOrder.TheVariants as asked
use Rattle.state_changes.specs.{declared.change.ChangeKind.ChangeKind, declared.row.Row.Row}
use Rattle.state_changes.specs.declared.change.ChangeKind.TheVariants as what
use Rattle.base_clients.specs.{Guests.is_stage_asked, Guests.is_waiting, declared.clients.GuestRequest.GuestRequest, declared.guest.Guest.Guest, declared.stage.GuestStage.GuestStage}
use Rattle.base_clients.specs.Tables.{BecomesAt, GuestTable, TakesAt, following, waits_as}
use Rattle.base_clients.specs.declared.stage.GuestStage.TheVariants as stages
use Rattle.base_clock.specs.declared.reading.Reading.{Reading}
use Rattle.vault_inventory.specs.Inventories.{Inventory}
use Rattle.vault_lanes.specs.declared.loss.Loss.{Loss}
use Rattle.vault_proving.specs.declared.verdict.Verdict.{Verdict}
use Rattle.vault_proving.specs.declared.verdict.Verdict.TheVariants as verdicts
use Rattle.agent_turns.specs.declared.change.AgentChange.{AgentChange}
use Rattle.agent_log.specs.{Lines.Line, declared.mark.Mark.Mark}
use Rattle.agent_words.specs.declared.reread.Reread.{Reread}
use Rattle.agent_words.specs.Outcomes.{Outcome, Why, Whys}
use Rattle.agent_ledger.specs.{Keeping.KeepCall, declared.keeping.LookedUp.LookedUp}
use Rattle.agent_ledger.specs.declared.keeping.LookedUp.TheVariants as lookups
use Rattle.agent_house.specs.{Retries.read_badly, Retries.read_well, declared.given.Awaited.Awaited, declared.house.House.House}
use Rattle.agent_house.specs.Admitting.{AdmitsIf, AnswerBeginsWith, FollowsLog, asking_in}
use Rattle.agent_house.specs.Awaiting.{HearsFor, Judges, LooksUpIf, Makes, VerdictIs}
use Rattle.agent_house.specs.Commands.{AddsIf, AsksFor, AsksIf, CarriesIf, CarriesOut, GivesNeed, GoesOnIf, NeedsIf, TellsReload}
use Rattle.agent_house.specs.Houses.{ClientIsAside, ClientsAsk, Concludes, WillRefuse, WillTell}
use Rattle.agent_laws.specs.Acknowledged.{TellsOk, answer_in, guests_in}
use Rattle.agent_laws.proofs.Owed.{IsTurnOf}

abbrev the : {X : Type 0} → X → Option X → X
the d None = d
the d (Some x) = x

-- ---- a client at its place

-- what it was where one of them alone becomes another
pub set_back : {X : Type 0} (xs : List X) (i place : ℕ) (g n after : X) → slice_get xs i ≡ Some g → slice_get (slice_set xs i n) place ≡ Some after →
    (before : X) × ((slice_get xs place ≡ Some before) × (((before ≡ g) × (after ≡ n)) ⊎ (after ≡ before)))
set_back [] i place g n after here is = absurd cc
set_back (x ∷ xs) zero zero g n after here is = (x, (refl, inl (ap (the g) here, ap (the n) (sym is))))
set_back (x ∷ xs) zero (suc place) g n after here is = (after, (is, inr refl))
set_back (x ∷ xs) (suc i) zero g n after here is = (x, (refl, inr (ap (the x) (sym is))))
set_back (x ∷ xs) (suc i) (suc place) g n after here is = set_back xs i place g n after here is

-- one that waits is given no answer yet
no_answer : (s : GuestStage) (text : List ℕ) → s ≡ stages.Waiting → answer_in s ≡ Some text → ⊥
no_answer s text waits is = absurd (let none : None ≡ Some text = sym (ap answer_in waits) ∙ is in cc)

module _ {T : Type 0} where
  -- all are as they were
  pub same_ok : (IsWhy : Guest T → Guest T → Type 0) (xs ys : List (Guest T)) → ys ≡ xs → TellsOk xs ys IsWhy
  same_ok IsWhy xs ys same ok = record { before = ok.client; was = ap (λ (l : List (Guest T)). slice_get l ok.place) (sym same) ∙ ok.there; same = refl; so = inl refl }

  first_is : (xs : List (Guest T)) (i : ℕ) (g : Guest T) → slice_get xs i ≡ Some g → get_or xs i g ≡ g
  first_is [] i g is = refl
  first_is (x ∷ xs) zero g is = ap (the g) is
  first_is (x ∷ xs) (suc i) g is = first_is xs i g is

  pub waits_number : (id : ℕ) (xs : List (Guest T)) (i : ℕ) (g : Guest T) → position (waits_as id) xs ≡ Some i → slice_get xs i ≡ Some g → g.id ≡ id
  waits_number id xs i g at here =
      let first = position-Some (waits_as id) xs i g at in
      let it : (is_waiting g.stage && nat_eq g.id id) ≡ true = ap (waits_as id) (sym (first_is xs i g here)) ∙ first.1 in
      eqb-true g.id id (and_parts (is_waiting g.stage) (nat_eq g.id id) it).1

  -- it is as it was, or its request was taken and it waits
  record WasTaken (xs : List (Guest T)) (place : ℕ) (client : Guest T) : Type 0 where
    before : Guest T
    was : slice_get xs place ≡ Some before
    same : before.id ≡ client.id
    so : (client ≡ before) ⊎ (client.stage ≡ stages.Waiting)

  abbrev AreTaken : List (Guest T) → List (Guest T) → Type 0
  AreTaken xs ys = (place : ℕ) (client : Guest T) → slice_get ys place ≡ Some client → WasTaken xs place client

  none_taken : (xs ys : List (Guest T)) → ys ≡ xs → AreTaken xs ys
  none_taken xs ys same place client is = record { before = client; was = ap (λ (l : List (Guest T)). slice_get l place) (sym same) ∙ is; same = refl; so = inl refl }

  taken_one : (xs : List (Guest T)) (i : ℕ) (g n : Guest T) → slice_get xs i ≡ Some g → n ≡ record g { stage = stages.Waiting } → AreTaken xs (slice_set xs i n)
  taken_one xs i g n here waits place client is =
      let back = set_back xs i place g n client here is in
      record {
        before = back.0;
        was = back.1.0;
        same = elim back.1.1 [ inl it ↦ ap (λ (x : Guest T). x.id) it.0 ∙ sym (ap (λ (x : Guest T). x.id) (it.1 ∙ waits)) | inr same ↦ ap (λ (x : Guest T). x.id) (sym same) ];
        so = elim back.1.1 [ inl it ↦ inr (ap (λ (x : Guest T). x.stage) (it.1 ∙ waits)) | inr same ↦ inl same ];
      }

  taken_at : {F : Type 0} (at : Option ℕ) (request : GuestRequest) (old new : GuestTable T F) → TakesAt at old (Some request) new → AreTaken old.guests new.guests
  taken_at None request old new h = absurd (let clash : Some request ≡ None = h.0 in cc)
  taken_at {F} (Some i) request old new h =
      let g = h.0 in
      let n = h.1.0 in
      subst (λ (t : GuestTable T F). AreTaken old.guests t.guests) (sym h.1.1.1.1) (taken_one old.guests i g n h.1.1.0 h.1.1.1.0.1.1)

  -- so nobody is told `ok`
  taken_tells : (IsWhy : Guest T → Guest T → Type 0) (xs ys zs : List (Guest T)) → AreTaken xs ys → zs ≡ ys → TellsOk xs zs IsWhy
  taken_tells IsWhy xs ys zs taken same ok =
      let it = taken ok.place ok.client (ap (λ (l : List (Guest T)). slice_get l ok.place) (sym same) ∙ ok.there) in
      record { before = it.before; was = it.was; same = it.same; so = elim it.so [ inl as_was ↦ inl as_was | inr waits ↦ absurd (no_answer ok.client.stage (codes "ok" ++ ok.more) waits ok.says) ] }

-- ---- a client follows the log from now on

-- those who have asked to
module _ {T : Type 0} (has : ℕ → Bool → Type 0) where
  abbrev pub Follows : Guest T → Guest T → Type 0
  Follows before client = ((alerts : Bool) × has before.id alerts) × (client.stage ≡ stages.Following (codes "ok\n"))

  module _ (xs : List (Guest T)) (id : ℕ) (alerts : Bool) (asks : has id alerts) where
    followed_one : (ys : List (Guest T)) (i : ℕ) (g : Guest T) → AreTaken xs ys → slice_get ys i ≡ Some g → g.id ≡ id → TellsOk xs (slice_set ys i (following (codes "ok\n") g)) Follows
    followed_one ys i g taken here number ok =
        let back = set_back ys i ok.place g (following (codes "ok\n") g) ok.client here ok.there in
        let was = taken ok.place back.0 back.1.0 in
        elim back.1.1 [
          | inl it ↦ (
              let numbered : was.before.id ≡ id = was.same ∙ ap (λ (x : Guest T). x.id) it.0 ∙ number in
              record {
                before = was.before;
                was = was.was;
                same = was.same ∙ ap (λ (x : Guest T). x.id) it.0 ∙ sym (ap (λ (x : Guest T). x.id) it.1);
                so = inr ((alerts, subst (λ (n : ℕ). has n alerts) (sym numbered) asks), ap (λ (x : Guest T). x.stage) it.1);
              })
          | inr same ↦ (
              let there : slice_get ys ok.place ≡ Some ok.client = back.1.0 ∙ ap Some (sym same) in
              let it = taken ok.place ok.client there in
              record { before = it.before; was = it.was; same = it.same; so = elim it.so [ inl as_was ↦ inl as_was | inr waits ↦ absurd (no_answer ok.client.stage (codes "ok" ++ ok.more) waits ok.says) ] })
        ]

    followed_at : {F : Type 0} (at : Option ℕ) (given : Bool) (old new : GuestTable T F) → AreTaken xs old.guests → position (waits_as id) old.guests ≡ at → BecomesAt at (following (codes "ok\n")) given old new → TellsOk xs new.guests Follows
    followed_at {F} None given old new taken at h = taken_tells Follows xs old.guests new.guests taken (ap (λ (t : GuestTable T F). t.guests) h.1)
    followed_at {F} (Some i) given old new taken at h =
        let number = waits_number id old.guests i h.1.0 at h.1.1.0 in
        subst (λ (t : GuestTable T F). TellsOk xs t.guests Follows) (sym h.1.1.1) (followed_one old.guests i h.1.0 taken h.1.1.0 number)

  follows_by : {D : Type 0} (xs : List (Guest T)) (alerts : Bool) (asking number : Option ℕ) (old new : Control T D) → ((id : ℕ) → asking ≡ Some id → has id alerts) → AreTaken xs old.clients.guests → FollowsAsking asking (codes "ok\n") number old new →
      TellsOk xs new.clients.guests Follows
  follows_by {D} xs alerts None number old new asks taken h = taken_tells Follows xs old.clients.guests new.clients.guests taken (ap (λ (c : Control T D). c.clients.guests) h.1)
  follows_by xs alerts (Some id) number old new asks taken h = followed_at xs id alerts (asks id refl) (position (waits_as id) old.clients.guests) h.0 old.clients new.clients taken refl h.1.0

  begins : {D : Type 0} (xs : List (Guest T)) (alerts : Bool) (old new : Option (Control T D)) → ((id : ℕ) → asking_in old ≡ Some id → has id alerts) → AreTaken xs (guests_in old) → AnswerBeginsWith (codes "ok\n") old new → TellsOk xs (guests_in new) Follows
  begins xs alerts None new asks taken h = taken_tells Follows xs [] (guests_in new) taken (ap guests_in h)
  begins xs alerts (Some old) None asks taken h = absurd h
  begins xs alerts (Some old) (Some new) asks taken h = follows_by xs alerts old.asking h.0 old new asks taken h.1

-- ---- what else is done leaves the clients

module _ {T D : Type 0} where
  aside_left : (client : Option ℕ) (old new : Option (Control T D)) → ClientIsAside client old new → guests_in new ≡ guests_in old
  aside_left client None new h = ap guests_in h.1
  aside_left client (Some old) None h = absurd h
  aside_left client (Some old) (Some new) h = ap (λ (c : Control T D). c.clients.guests) h.1

  asked_taken : (now : Reading) (x : ClientOrder) (old new : Option (Control T D)) → ClientsAsk {T = T} {D = D} now (Ok (Some x)) old new → AreTaken (guests_in old) (guests_in new)
  asked_taken now x None new h = absurd (let clash = h.0 in cc)
  asked_taken now x (Some old) None h = absurd h
  asked_taken now x (Some old) (Some new) h = taken_at (position (λ (g : Guest T). is_stage_asked g.stage) old.clients.guests) h.1.request old.clients new.clients h.1.taken

  none_asked : (now : Reading) (old new : Option (Control T D)) → ClientsAsk {T = T} {D = D} now (Ok None) old new → new ≡ old
  none_asked now None new h = h.1
  none_asked now (Some old) None h = absurd h
  none_asked now (Some old) (Some new) h = ap Some h.0

  not_asked : (now : Reading) (e : AllocError) (old new : Option (Control T D)) → ClientsAsk {T = T} {D = D} now (Err e) old new → new ≡ old
  not_asked now e None new h = absurd (let clash = h.0 in cc)
  not_asked now e (Some old) None h = absurd h
  not_asked now e (Some old) (Some new) h = ap Some h

module _ {S T D K E : Type 0} where
  told : (outcome : Outcome) (now : ℕ) (old new : House S T D K E) → WillTell outcome now old new → new.control ≡ old.control
  told outcome now old new h = ap (λ x. x.control) h.rest

  refused : (whys : List (List ℕ)) (now : ℕ) (old new : House S T D K E) → WillRefuse whys now old new → new.control ≡ old.control
  refused whys now old new h = ap (λ x. x.control) h.rest

  concluded : (agent : Agent) (l : Line) (outcome : Outcome) (now : ℕ) (old new : House S T D K E) → Concludes agent l outcome now old new → new.control ≡ old.control
  concluded agent l outcome now old new h = told outcome now (record old { desk = h.desk }) new h.will

  given_need : (agent : Agent) (now : Reading) (name : List ℕ) (until : ℕ) (i : Option ℕ) (change : AgentChange) (old new : House S T D K E) → GivesNeed agent now name until i change old new → new.control ≡ old.control
  given_need agent now name until (Some i) change old new h = ap (λ x. x.control) h.1
  given_need agent now name until None change old new h = concluded agent _ (Ok h.1.0) now.elapsed old new h.1.1.1

  need_if : (agent : Agent) (now : Reading) (name : List ℕ) (until : ℕ) (result : Result (Unit {0}) Why) (change : AgentChange) (old new : House S T D K E) → NeedsIf agent now name until result change old new → new.control ≡ old.control
  need_if agent now name until (Ok x) change old new h = given_need agent now name until _ change old new h
  need_if agent now name until (Err why) change old new h = told (Err why) now.elapsed old new h.1

  reload_told : (path : K → List ℕ) (agent : Agent) (now : Reading) (result : Option (Result Reread Whys)) (old new : House S T D K E) → TellsReload path agent now result old new → new.control ≡ old.control
  reload_told path agent now None old new h = told (Err h.why) now.elapsed old new h.will
  reload_told path agent now (Some (Ok reread)) old new h = told (Ok h.line) now.elapsed (record old { desk = h.desk; file = read_well now }) new h.will
  reload_told path agent now (Some (Err whys)) old new h = refused whys.items now.elapsed (record old { desk = h.desk; file = read_badly now old.file }) new h.will

module _ {S T D K E : Type 0} (does : KeepCall → K → K → Type 0) (rows : K → List Row) (agent : Agent) (now : Reading) where
  made : (name : List ℕ) (w : ChangeKind) (why : Option Loss) (old new : House S T D K E) → Makes does rows agent now name w why old new → new.control ≡ old.control
  made name (what.Replace credential) why old new h = concluded agent _ h.outcome now.elapsed (record old { state = h.state }) new h.concludes
  made name (what.Add row) why old new h = concluded agent _ h.outcome now.elapsed (record old { state = h.state }) new h.concludes
  made name _ why old new h = told (Err None) now.elapsed old new h

  judged : (name : List ℕ) (w : ChangeKind) (verdict : Verdict) (old new : House S T D K E) → Judges does rows agent now name w verdict old new → new.control ≡ old.control
  judged name w verdicts.Good old new h = made name w None old new h
  judged name w (verdicts.Missing why) old new h = made name w (Some why) old new h
  judged name w _ old new h = told (Err h.0) now.elapsed old new h.1.1

  looked_if : (name : List ℕ) (w : ChangeKind) (result : Result LookedUp AllocError) (old new : House S T D K E) → LooksUpIf does rows agent now name w result old new → guests_in new.control ≡ guests_in old.control
  looked_if name w (Ok lookups.Out) old new h = aside_left h.client old.control new.control h.aside
  looked_if name w (Ok lookups.Later) old new h = ap guests_in (told (Err h.0) now.elapsed old new h.1.1)
  looked_if name w (Ok lookups.Nothing) old new h = ap guests_in (made name w None old new h)
  looked_if name w (Err e) old new h = ap guests_in (told (Err None) now.elapsed old new h)

  added_if : (read : Result Row Why) (old new : House S T D K E) → AddsIf does rows agent now read old new → guests_in new.control ≡ guests_in old.control
  added_if (Ok row) old new h = looked_if row.name (what.Add row) h.looked_up (record old { state = h.state }) new h.then
  added_if (Err why) old new h = ap guests_in (told (Err why) now.elapsed old new h)

  verdict_is : (a : Awaited) (verdict : Result (Option Verdict) AllocError) (heard : Bool) (old new : House S T D K E) → VerdictIs does rows agent now a verdict heard old new → new.control ≡ old.control
  verdict_is a (Ok None) heard old new h = ap (λ x. x.control) h.1
  verdict_is a (Ok (Some verdict)) heard old new h = ap (λ x. x.control) h.1.1.1 ∙ judged a.name a.what verdict old h.1.0 h.1.1.0
  verdict_is a (Err e) heard old new h = ap (λ x. x.control) h.1.1.1 ∙ told (Err None) now.elapsed old h.1.0 h.1.1.0

  heard_for : (awaited : Option Awaited) (heard : Bool) (old new : House S T D K E) → HearsFor does rows agent now awaited heard old new → new.control ≡ old.control
  heard_for None heard old new h = ap (λ x. x.control) h.1
  heard_for (Some a) heard old new h = verdict_is a h.verdict heard (record old { awaited = None; state = h.state }) new h.then

-- ---- a change is asked for

-- it is the turn of the client of that number, which asks to follow the log
abbrev HasAskedBy : {T D : Type 0} → Reading → Option (Control T D) → ℕ → Bool → Type 0
HasAskedBy now first id alerts = IsTurnOf now first id (asked.Follow alerts)

module _ {S T D K E : Type 0} (does : KeepCall → K → K → Type 0) (rows : K → List Row) (keeps : K → Bool) (path : K → List ℕ) (reads : K → List ℕ → Result Row Why → Type 0)
    (gives : ℕ → Result (Option Inventory) AllocError → K → Type 0) (agent : Agent) (now : Reading) (first : Option (Control T D)) where
  abbrev IsTold : House S T D K E → Type 0
  IsTold new = TellsOk (guests_in first) (guests_in new.control) (Follows (HasAskedBy now first))

  module _ (old new : House S T D K E) (taken : AreTaken (guests_in first) (guests_in old.control)) where
    left : guests_in new.control ≡ guests_in old.control → IsTold new
    left same = taken_tells (Follows (HasAskedBy now first)) (guests_in first) (guests_in old.control) (guests_in new.control) taken same

    admitted : (alerts : Bool) → ((id : ℕ) → asking_in old.control ≡ Some id → HasAskedBy now first id alerts) → (id : Option ℕ) → AdmitsIf id alerts old new → IsTold new
    admitted alerts asks None h = left (ap (λ (x : House S T D K E). guests_in x.control) h)
    admitted alerts asks (Some id) h = begins (HasAskedBy now first) (guests_in first) alerts old.control new.control asks taken h.client

    admits : (alerts : Bool) → ((id : ℕ) → asking_in old.control ≡ Some id → HasAskedBy now first id alerts) → AdmitsIf (asking_in old.control) alerts old new ⊎ WillTell (Err None) now.elapsed old new → IsTold new
    admits alerts asks (inl h) = admitted alerts asks (asking_in old.control) h
    admits alerts asks (inr h) = left (ap guests_in (told (Err None) now.elapsed old new h))

    follows : (alerts : Bool) → ((id : ℕ) → asking_in old.control ≡ Some id → HasAskedBy now first id alerts) → FollowsLog now alerts old new → IsTold new
    follows alerts asks (inl h) = left (ap guests_in (told (Err h.why) now.elapsed old new h.will))
    follows alerts asks (inr h) = admits alerts asks h.admits

    carried : (x : ClientOrder) (change : AgentChange) → ((id : ℕ) → asking_in old.control ≡ Some id → IsTurnOf now first id x) → CarriesOut does rows keeps path reads gives agent now x change old new → IsTold new
    carried (asked.Need name need) change asks h = left (ap guests_in (need_if agent now name _ h.result change (record old { state = h.state }) new h.then))
    carried (asked.Replace name credential) change asks h = left (looked_if does rows agent now name (what.Replace credential) h.1.looked_up (record old { state = h.1.state }) new h.1.then)
    carried (asked.Add table) change asks h = left (added_if does rows agent now h.1.read old new h.1.then)
    carried asked.Reload change asks h = left (ap guests_in (reload_told path agent now h.1.result (record old { state = h.1.state }) new h.1.tells))
    carried (asked.Follow alerts) change asks h = follows alerts asks h.1
    carried _ change asks h = left (ap guests_in (concluded agent _ h.1.outcome now.elapsed (record old { state = h.1.state }) new h.1.concludes))

  carried_if : (x : Result (Option ClientOrder) AllocError) (change : Option AgentChange) (control : Option (Control T D)) (old tried new : House S T D K E) → old.control ≡ first → ClientsAsk now x old.control control → tried.control ≡ control →
      CarriesIf does rows keeps path reads gives agent now x change tried new → IsTold new
  carried_if (Ok None) change control old tried new same asks kept h =
      left tried new (none_taken (guests_in first) (guests_in tried.control) (ap guests_in (kept ∙ (none_asked now old.control control asks ∙ same)))) (ap (λ (x : House S T D K E). guests_in x.control) h.1)
  carried_if (Ok (Some x)) None control old tried new same asks kept h = absurd h
  carried_if (Ok (Some x)) (Some change) control old tried new same asks kept h =
      let from_first : ClientsAsk now (Ok (Some x)) first tried.control =
      subst (λ (c : Option (Control T D)). ClientsAsk now (Ok (Some x)) first c) (sym kept) (subst (λ (c : Option (Control T D)). ClientsAsk now (Ok (Some x)) c control) same asks) in
      carried tried new (asked_taken now x first tried.control from_first) x change (λ id is. (tried.control, (from_first, is))) h
  carried_if (Err e) change control old tried new same asks kept h =
      left tried new (none_taken (guests_in first) (guests_in tried.control) (ap guests_in (kept ∙ (not_asked now e old.control control asks ∙ same)))) (ap (λ (x : House S T D K E). guests_in x.control) h.1.1)

  goes_on_if : (heard : Bool) (change : Option AgentChange) (mid new : House S T D K E) → mid.control ≡ first → GoesOnIf does rows keeps path reads gives agent now heard change mid new → IsTold new
  goes_on_if true change mid new same h = same_ok (Follows (HasAskedBy now first)) (guests_in first) (guests_in new.control) (ap guests_in (ap (λ x. x.control) h.1 ∙ same))
  goes_on_if false change mid new same h = carried_if h.asked change h.control mid h.tried new same h.clients (ap (λ (x : House S T D K E). x.control) h.tries.rest) h.then

  asked_if : (due : Result (Option (Inventory × Vec Mark Global)) AllocError) (change : Option AgentChange) (old new : House S T D K E) → old.control ≡ first → AsksIf does rows keeps path reads gives agent now due change old new → IsTold new
  asked_if (Ok None) change old new same h = goes_on_if h.heard change h.mid new (heard_for does rows agent now old.awaited h.heard old h.mid h.hears ∙ same) h.then
  asked_if (Ok (Some p)) change old new same h = same_ok (Follows (HasAskedBy now first)) (guests_in first) (guests_in new.control) (ap guests_in (ap (λ x. x.control) h.1.1 ∙ same))
  asked_if (Err e) change old new same h = same_ok (Follows (HasAskedBy now first)) (guests_in first) (guests_in new.control) (ap guests_in (ap (λ x. x.control) h.1.1 ∙ same))

-- whoever is told `ok` where a change is asked for follows the log from then on
pub admitted_alone : {S T D K E : Type 0} (does : KeepCall → K → K → Type 0) (rows : K → List Row) (keeps : K → Bool) (path : K → List ℕ) (reads : K → List ℕ → Result Row Why → Type 0) (gives : ℕ → Result (Option Inventory) AllocError → K → Type 0)
    (agent : Agent) (now : Reading) (change : Option AgentChange) (old new : House S T D K E) → AsksFor does rows keeps path reads gives agent now change old new →
    TellsOk (guests_in old.control) (guests_in new.control) (Follows (λ id alerts. IsTurnOf now old.control id (asked.Follow alerts)))
admitted_alone does rows keeps path reads gives agent now change old new h = asked_if does rows keeps path reads gives agent now old.control h.0 change old new refl h.1.1
