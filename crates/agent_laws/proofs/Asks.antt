-- Asks: what a house asks of whoever keeps changes, for a change and when that is settled, and that the ends are left alone. For the laws
-- of disks.
use Rattle.std.proofs.Common.{◌≡◌, ◌∙◌, ◌⊎◌, ℕ, ◌+◌, ◌≤◌, Bool, true, false, inl, inr, List, [], ◌∷◌, Option, Some, None, Result, Ok, Err, ap, arith, refl, subst, sym}
use Rattle.std.specs.Prelude.{Vec}
use Rattle.std.specs.{declared.alloc.AllocError.AllocError, declared.alloc.Global.Global}
use Rattle.agent_standing.specs.Agent.{Agent}
use Rattle.agent_answers.specs.declared.asked.ClientOrder.{ClientOrder}
use Rattle.agent_answers.specs.declared.asked.ClientOrder.TheVariants as asked
use Rattle.state_changes.specs.{declared.change.ChangeKind.ChangeKind, declared.row.Row.Row}
use Rattle.state_changes.specs.declared.change.ChangeKind.TheVariants as what
use Rattle.base_clock.specs.declared.reading.Reading.{Reading}
use Rattle.vault_inventory.specs.{Inventories.Inventory, declared.need.Need.Need}
use Rattle.vault_lanes.specs.declared.loss.Loss.{Loss}
use Rattle.vault_proving.specs.declared.verdict.Verdict.{Verdict}
use Rattle.vault_proving.specs.declared.verdict.Verdict.TheVariants as verdicts
use Rattle.agent_turns.specs.declared.change.AgentChange.{AgentChange}
use Rattle.agent_house.specs.{Retries.KeeperTries, Retries.is_any_asked, declared.given.Awaited.Awaited, declared.given.Given.Given, declared.house.House.House}
use Rattle.agent_house.specs.Admitting.{AdmitsIf, FollowsLog, asking_in}
use Rattle.agent_house.specs.Awaiting.{HearsFor, Judges, LooksUpBy, LooksUpFirst, LooksUpIf, Makes, ProvesBy, VerdictIs}
use Rattle.agent_house.specs.Commands.{AddsIf, AsksIf, AsksToReload, CarriesIf, CarriesOut, GivesNeed, GoesOnIf, LacksMemory, NeedIsKept, NeedsIf, RereadBy, RereadIf, ServesClients, SettlesBy, SettlesGiven, StateIsServed, TakesIfThere, TakesNeedBy, TellsReload}
use Rattle.agent_house.specs.Houses.{ClientIsSent, Concludes, WillRefuse, WillTell}
use Rattle.agent_laws.specs.Disks.{IsAskedWithin, KeeperIsCalled, looks_of, makes_of, tries_of}
use Rattle.agent_ledger.specs.{declared.keeping.KeepNews.KeepNews, declared.keeping.LookedUp.LookedUp}
use Rattle.agent_ledger.specs.Keeping.{KeepCall, KeeperIsAsked, LookUp, MarkServed, Prove, Reload, Settle, Take, TryAgain}
use Rattle.agent_words.specs.declared.reread.Reread.{Reread}
use Rattle.agent_words.specs.Outcomes.{Outcome, Why, Whys, done_of}
use Rattle.agent_log.specs.{Lines.Line, declared.mark.Mark.Mark}
use Rattle.agent_house.specs.declared.given.Given.TheVariants as givens
use Rattle.agent_ledger.specs.declared.keeping.LookedUp.TheVariants as lookups
use Rattle.agent_laws.proofs.Called.{within_join, within_more, within_none, within_one}

-- ---- one question

module _ {K : Type 0} (does : KeepCall → K → K → Type 0) where
  keeper_asked : (call : Result (Unit {0}) Why → KeepCall) (Says : K → List ℕ → Type 0) (outcome : Outcome) (old new : Option K) → KeeperIsAsked does call Says outcome old new → KeeperIsCalled does (call (done_of outcome) ∷ []) old new
  keeper_asked call Says outcome None new h = h.0
  keeper_asked call Says outcome (Some old) None h = absurd h
  keeper_asked call Says outcome (Some old) (Some new) h = (new, (h.0, refl))

  taken_once : (now : Reading) (name : List ℕ) (need : Need) (result : Result (Unit {0}) Why) (old new : K) → does (Take now.elapsed name (what.Need need) result) old new → IsAskedWithin does 0 1 0 (Some old) (Some new)
  taken_once now name need result old new h = within_one does (Take now.elapsed name (what.Need need) result) (Some old) (Some new) (new, (h, refl))

  taken_if : (now : Reading) (name : List ℕ) (need : Need) (there result : Result (Unit {0}) Why) (old new : K) → TakesIfThere does now name need there result old new → IsAskedWithin does 0 1 0 (Some old) (Some new)
  taken_if now name need (Ok x) result old new h = taken_once now name need result old new h
  taken_if now name need (Err why) result old new h = within_more does 0 0 0 0 1 0 (Some old) (Some new) (omega arith) (omega arith) (omega arith) (within_none does (Some old) (Some new) (ap Some h.1))

  taken_by : (keeps : Bool) (agent : Agent) (now : Reading) (name : List ℕ) (need : Need) (result : Result (Unit {0}) Why) (old new : K) → TakesNeedBy does keeps agent now name need result old new → IsAskedWithin does 0 1 0 (Some old) (Some new)
  taken_by keeps agent now name need result old new (inl h) = taken_once now name need result old new h.1
  taken_by keeps agent now name need result old new (inr h) = taken_if now name need h.1.0 result old new h.1.1.1

  need_kept : (keeps : K → Bool) (agent : Agent) (now : Reading) (name : List ℕ) (need : Need) (result : Result (Unit {0}) Why) (old new : Option K) → NeedIsKept does keeps agent now name need result old new → IsAskedWithin does 0 1 0 old new
  need_kept keeps agent now name need result None new h = within_more does 0 0 0 0 1 0 None new (omega arith) (omega arith) (omega arith) (within_none does None new h.1)
  need_kept keeps agent now name need result (Some old) None h = absurd h
  need_kept keeps agent now name need result (Some old) (Some new) h = taken_by (keeps old) agent now name need result old new h

  keeper_tried : (now : ℕ) (is_asked : Bool) (news : Option KeepNews) (old new : Option K) → KeeperTries does now is_asked news old new → KeeperIsCalled does (TryAgain now is_asked news ∷ []) old new
  keeper_tried now is_asked news None new h = h.1
  keeper_tried now is_asked news (Some old) None h = absurd h
  keeper_tried now is_asked news (Some old) (Some new) h = (new, (h, refl))

  looked_up_by : (now : Reading) (name : List ℕ) (w : ChangeKind) (result : Result LookedUp AllocError) (old new : Option K) → LooksUpBy does now name w result old new → KeeperIsCalled does (LookUp now name w result ∷ []) old new
  looked_up_by now name w result None new h = h.1
  looked_up_by now name w result (Some old) None h = absurd h
  looked_up_by now name w result (Some old) (Some new) h = (new, (h, refl))

  proved_by : (now : ℕ) (result : Result (Option Verdict) AllocError) (old new : Option K) → ProvesBy does now result old new → KeeperIsCalled does (Prove now result ∷ []) old new
  proved_by now result None new h = h.1
  proved_by now result (Some old) None h = absurd h
  proved_by now result (Some old) (Some new) h = (new, (h, refl))

  reload_asked : (now : Reading) (result : Option (Result Reread Whys)) (old new : K) → AsksToReload does now result old new → IsAskedWithin does 0 1 0 (Some old) (Some new)
  reload_asked now None old new h = absurd h
  reload_asked now (Some result) old new h = within_one does (Reload now.elapsed result) (Some old) (Some new) (new, (h, refl))

  reread_if : (keeps : Bool) (now : Reading) (result : Option (Result Reread Whys)) (old new : K) → RereadIf does keeps now result old new → IsAskedWithin does 0 1 0 (Some old) (Some new)
  reread_if keeps now result old new (inl h) = reload_asked now result old new h.1
  reread_if keeps now result old new (inr h) = within_more does 0 0 0 0 1 0 (Some old) (Some new) (omega arith) (omega arith) (omega arith) (within_none does (Some old) (Some new) (ap Some h.1.1))

  reread_by : (keeps : K → Bool) (now : Reading) (result : Option (Result Reread Whys)) (old new : Option K) → RereadBy does keeps now result old new → IsAskedWithin does 0 1 0 old new
  reread_by keeps now result None new h = within_more does 0 0 0 0 1 0 None new (omega arith) (omega arith) (omega arith) (within_none does None new h.1)
  reread_by keeps now result (Some old) None h = absurd h
  reread_by keeps now result (Some old) (Some new) h = reread_if (keeps old) now result old new h

  marked_by : (old new : Option K) → StateIsServed does old new → IsAskedWithin does 0 0 0 old new
  marked_by None new h = within_none does None new h
  marked_by (Some old) None h = absurd h
  marked_by (Some old) (Some new) h = within_one does MarkServed (Some old) (Some new) (new, (h, refl))

-- ---- what else is done leaves who keeps changes and the ends alone

module _ {S T D K E : Type 0} where
  record AreLeft (old new : House S T D K E) : Type 0 where
    state : new.state ≡ old.state
    ends : new.ends ≡ old.ends

  left : (old new : House S T D K E) → new ≡ old → AreLeft old new
  left old new is = record { state = ap (λ h. h.state) is; ends = ap (λ h. h.ends) is }

  sent : (agent : Agent) (text : Option (List ℕ)) (now : ℕ) (old new : House S T D K E) → ClientIsSent agent text now old new → AreLeft old new
  sent agent text now old new h = record { state = ap (λ x. x.state) h.rest; ends = ap (λ x. x.ends) h.rest }

  will_tell : (outcome : Outcome) (now : ℕ) (old new : House S T D K E) → WillTell outcome now old new → AreLeft old new
  will_tell outcome now old new h = record { state = ap (λ x. x.state) h.rest; ends = ap (λ x. x.ends) h.rest }

  will_refuse : (whys : List (List ℕ)) (now : ℕ) (old new : House S T D K E) → WillRefuse whys now old new → AreLeft old new
  will_refuse whys now old new h = record { state = ap (λ x. x.state) h.rest; ends = ap (λ x. x.ends) h.rest }

  concluded : (agent : Agent) (l : Line) (outcome : Outcome) (now : ℕ) (old new : House S T D K E) → Concludes agent l outcome now old new → AreLeft old new
  concluded agent l outcome now old new h = (let all = will_tell outcome now (record old { desk = h.desk }) new h.will in record { state = all.state; ends = all.ends })

  need_given : (agent : Agent) (now : Reading) (name : List ℕ) (until : ℕ) (i : Option ℕ) (change : AgentChange) (old new : House S T D K E) → GivesNeed agent now name until i change old new → AreLeft old new
  need_given agent now name until (Some i) change old new h = record { state = ap (λ x. x.state) h.1; ends = ap (λ x. x.ends) h.1 }
  need_given agent now name until None change old new h = concluded agent _ _ _ old new h.1.1.1

  need_if : (agent : Agent) (now : Reading) (name : List ℕ) (until : ℕ) (result : Result (Unit {0}) Why) (change : AgentChange) (old new : House S T D K E) → NeedsIf agent now name until result change old new → AreLeft old new
  need_if agent now name until (Ok x) change old new h = need_given agent now name until _ change old new h
  need_if agent now name until (Err why) change old new h = will_tell (Err why) now.elapsed old new h.1

  reload_told : (path : K → List ℕ) (agent : Agent) (now : Reading) (result : Option (Result Reread Whys)) (old new : House S T D K E) → TellsReload path agent now result old new → AreLeft old new
  reload_told path agent now None old new h = will_tell (Err h.why) now.elapsed old new h.will
  reload_told path agent now (Some (Ok r)) old new h = (let all = will_tell (Ok h.line) now.elapsed _ new h.will in record { state = all.state; ends = all.ends })
  reload_told path agent now (Some (Err whys)) old new h = (let all = will_refuse whys.items now.elapsed _ new h.will in record { state = all.state; ends = all.ends })

  admitted : (id : Option ℕ) (alerts : Bool) (old new : House S T D K E) → AdmitsIf id alerts old new → AreLeft old new
  admitted None alerts old new h = left old new h
  admitted (Some id) alerts old new h = record { state = ap (λ x. x.state) h.rest; ends = ap (λ x. x.ends) h.rest }

  admits : (now : Reading) (alerts : Bool) (old new : House S T D K E) → AdmitsIf (asking_in old.control) alerts old new ⊎ WillTell (Err None) now.elapsed old new → AreLeft old new
  admits now alerts old new (inl h) = admitted (asking_in old.control) alerts old new h
  admits now alerts old new (inr h) = will_tell (Err None) now.elapsed old new h

  log_followed : (now : Reading) (alerts : Bool) (old new : House S T D K E) → FollowsLog now alerts old new → AreLeft old new
  log_followed now alerts old new (inl h) = will_tell (Err h.why) now.elapsed old new h.will
  log_followed now alerts old new (inr h) = admits now alerts old new h.admits

-- ---- what a change asks for

-- so many changes at most are asked for, it is tried so often to keep them, and the ends are left alone
pub record Spares {S T D K E : Type 0} (does : KeepCall → K → K → Type 0) (makes tries : ℕ) (old new : House S T D K E) : Type 0 where
  pub asked : IsAskedWithin does 0 makes tries old.state new.state
  pub ends : new.ends ≡ old.ends

abbrev pub makes_if : Bool → ℕ
makes_if true = 1
makes_if false = 0

abbrev pub makes_by : Option AgentChange → ℕ
makes_by None = 0
makes_by (Some change) = 1

module _ {S T D K E : Type 0} (does : KeepCall → K → K → Type 0) where
  spares : (old new : House S T D K E) → AreLeft old new → Spares does 0 0 old new
  spares old new h = record { asked = within_none does old.state new.state h.state; ends = h.ends }

  spares_more : (i j s t : ℕ) (old new : House S T D K E) → i ≤ j → s ≤ t → Spares does i s old new → Spares does j t old new
  spares_more i j s t old new few tries h = record { asked = within_more does 0 i s 0 j t old.state new.state (omega arith) few tries h.asked; ends = h.ends }

  -- from a house with another state
  after : (i j most : ℕ) (state : Option K) (old new : House S T D K E) → i + j ≤ most → IsAskedWithin does 0 i 0 old.state state → Spares does j 0 (record old { state = state }) new → Spares does most 0 old new
  after i j most state old new few h k =
      record { asked = within_more does 0 (i + j) 0 0 most 0 old.state new.state (omega arith) few (omega arith) (within_join does 0 i 0 0 j 0 old.state state new.state h k.asked); ends = k.ends }

  both : (i j most tries : ℕ) (old mid new : House S T D K E) → i + j ≤ most → Spares does i 0 old mid → Spares does j tries mid new → Spares does most tries old new
  both i j most tries old mid new few h k = record {
    asked = within_more does 0 (i + j) (0 + tries) 0 most tries old.state new.state (omega arith) few (omega arith) (within_join does 0 i 0 0 j tries old.state mid.state new.state h.asked k.asked);
    ends = k.ends ∙ h.ends;
  }

  -- one change is asked for, and concluded
  concluded_after : (call : Result (Unit {0}) Why → KeepCall) (Says : K → List ℕ → Type 0) (agent : Agent) (l : Line) (outcome : Outcome) (now : ℕ) (state : Option K) (old new : House S T D K E) →
      looks_of (call (done_of outcome)) ≡ 0 → makes_of (call (done_of outcome)) ≡ 1 → tries_of (call (done_of outcome)) ≡ 0 →
      KeeperIsAsked does call Says outcome old.state state → Concludes agent l outcome now (record old { state = state }) new → Spares does 1 0 old new
  concluded_after call Says agent l outcome now state old new looks makes tries comes concludes =
      let one = within_one does (call (done_of outcome)) old.state state (keeper_asked does call Says outcome old.state state comes) in
      after 1 0 1 state old new (omega arith) (within_more does _ _ _ 0 1 0 old.state state (omega (arith, looks)) (omega (arith, makes)) (omega (arith, tries)) one)
      (spares (record old { state = state }) new (concluded agent l outcome now (record old { state = state }) new concludes))

  module _ (rows : K → List Row) (agent : Agent) (now : Reading) where
    made : (name : List ℕ) (w : ChangeKind) (why : Option Loss) (old new : House S T D K E) → Makes does rows agent now name w why old new → Spares does 1 0 old new
    made name (what.Replace credential) why old new h = concluded_after (λ done. Take now.elapsed name (what.Replace credential) done) _ agent _ h.outcome now.elapsed h.state old new refl refl refl h.comes h.concludes
    made name (what.Add row) why old new h = concluded_after (λ done. Take now.elapsed name (what.Add row) done) _ agent _ h.outcome now.elapsed h.state old new refl refl refl h.comes h.concludes
    made name _ why old new h = spares_more 0 1 0 0 old new (omega arith) (omega arith) (spares old new (will_tell (Err None) now.elapsed old new h))

    judged : (name : List ℕ) (w : ChangeKind) (verdict : Verdict) (old new : House S T D K E) → Judges does rows agent now name w verdict old new → Spares does 1 0 old new
    judged name w verdicts.Good old new h = made name w None old new h
    judged name w (verdicts.Missing why) old new h = made name w (Some why) old new h
    judged name w _ old new h = spares_more 0 1 0 0 old new (omega arith) (omega arith) (spares old new (will_tell (Err h.0) now.elapsed old new h.1.1))

    looked_if : (name : List ℕ) (w : ChangeKind) (result : Result LookedUp AllocError) (old new : House S T D K E) → LooksUpIf does rows agent now name w result old new → Spares does 1 0 old new
    looked_if name w (Ok lookups.Out) old new h = spares_more 0 1 0 0 old new (omega arith) (omega arith) (spares old new (record { state = ap (λ x. x.state) h.rest; ends = ap (λ x. x.ends) h.rest }))
    looked_if name w (Ok lookups.Later) old new h = spares_more 0 1 0 0 old new (omega arith) (omega arith) (spares old new (will_tell (Err h.0) now.elapsed old new h.1.1))
    looked_if name w (Ok lookups.Nothing) old new h = made name w None old new h
    looked_if name w (Err e) old new h = spares_more 0 1 0 0 old new (omega arith) (omega arith) (spares old new (will_tell (Err None) now.elapsed old new h))

    looked_up : (name : List ℕ) (w : ChangeKind) (old new : House S T D K E) → LooksUpFirst does rows agent now name w old new → Spares does 1 0 old new
    looked_up name w old new h =
        after 0 1 1 h.state old new (omega arith) (within_one does (LookUp now name w h.looked_up) old.state h.state (looked_up_by does now name w h.looked_up old.state h.state h.asks))
        (looked_if name w h.looked_up (record old { state = h.state }) new h.then)

    given_left : (mid new : House S T D K E) (given : Option Given) → new ≡ record mid { given = given } → AreLeft mid new
    given_left mid new given is = record { state = ap (λ x. x.state) is; ends = ap (λ x. x.ends) is }

    -- a change that has waited is made at most where the broker's word is there
    verdict_is : (a : Awaited) (verdict : Result (Option Verdict) AllocError) (heard : Bool) (old new : House S T D K E) → VerdictIs does rows agent now a verdict heard old new → Spares does (makes_if heard) 0 old new
    verdict_is a (Ok None) heard old new h = subst (λ b. Spares does (makes_if b) 0 old new) (sym h.0) (spares old new (record { state = ap (λ x. x.state) h.1; ends = ap (λ x. x.ends) h.1 }))
    verdict_is a (Ok (Some verdict)) heard old new h =
        subst (λ b. Spares does (makes_if b) 0 old new) (sym h.0) (both 1 0 1 0 old h.1.0 new (omega arith) (judged a.name a.what verdict old h.1.0 h.1.1.0) (spares h.1.0 new (given_left h.1.0 new _ h.1.1.1)))
    verdict_is a (Err e) heard old new h =
        subst (λ b. Spares does (makes_if b) 0 old new) (sym h.0)
        (both 0 0 1 0 old h.1.0 new (omega arith) (spares old h.1.0 (will_tell (Err None) now.elapsed old h.1.0 h.1.1.0)) (spares h.1.0 new (given_left h.1.0 new _ h.1.1.1)))

    heard_for : (a : Option Awaited) (heard : Bool) (old new : House S T D K E) → HearsFor does rows agent now a heard old new → Spares does (makes_if heard) 0 old new
    heard_for None heard old new h = subst (λ b. Spares does (makes_if b) 0 old new) (sym h.0) (spares old new (left old new h.1))
    heard_for (Some a) heard old new h =
        let all = verdict_is a h.verdict heard (record old { state = h.state; awaited = None }) new h.then in
        let one = within_one does (Prove now.elapsed h.verdict) old.state h.state (proved_by does now.elapsed h.verdict old.state h.state h.proves) in
        record { asked = within_more does 0 (0 + makes_if heard) 0 0 (makes_if heard) 0 old.state new.state (omega arith) (omega arith) (omega arith) (within_join does 0 0 0 0 (makes_if heard) 0 old.state h.state new.state one all.asked); ends = all.ends }

    add_if : (read : Result Row Why) (old new : House S T D K E) → AddsIf does rows agent now read old new → Spares does 1 0 old new
    add_if (Ok row) old new h = looked_up row.name (what.Add row) old new h
    add_if (Err why) old new h = spares_more 0 1 0 0 old new (omega arith) (omega arith) (spares old new (will_tell (Err why) now.elapsed old new h))

module _ {S T D K E : Type 0} (does : KeepCall → K → K → Type 0) (rows : K → List Row) (keeps : K → Bool) (path : K → List ℕ) (reads : K → List ℕ → Result Row Why → Type 0)
    (gives : ℕ → Result (Option Inventory) AllocError → K → Type 0) (agent : Agent) (now : Reading) where
  carried_out : (a : ClientOrder) (change : AgentChange) (old new : House S T D K E) → CarriesOut does rows keeps path reads gives agent now a change old new → Spares does 1 0 old new
  carried_out (asked.Need name need) change old new h =
      after does 1 0 1 h.state old new (omega arith) (need_kept does keeps agent now name need h.result old.state h.state h.kept)
      (spares does (record old { state = h.state }) new (need_if agent now name _ h.result change (record old { state = h.state }) new h.then))
  carried_out (asked.Replace name credential) change old new h = looked_up does rows agent now name (what.Replace credential) old new h.1
  carried_out (asked.Add table) change old new h = add_if does rows agent now h.1.read old new h.1.then
  carried_out (asked.Drop name) change old new h = concluded_after does (λ done. Take now.elapsed name what.Drop done) _ agent _ h.1.outcome now.elapsed h.1.state old new refl refl refl h.1.comes h.1.concludes
  carried_out asked.Settle change old new h = concluded_after does Settle _ agent _ h.1.outcome now.elapsed h.1.state old new refl refl refl h.1.comes h.1.concludes
  carried_out asked.Reload change old new h =
      after does 1 0 1 h.1.state old new (omega arith) (reread_by does keeps now h.1.result old.state h.1.state h.1.asks)
      (spares does (record old { state = h.1.state }) new (reload_told path agent now h.1.result (record old { state = h.1.state }) new h.1.tells))
  carried_out (asked.Follow alerts) change old new h = spares_more does 0 1 0 0 old new (omega arith) (omega arith) (spares does old new (log_followed now alerts old new h.1))

  lacked : (change : Option AgentChange) (old new : House S T D K E) → LacksMemory does rows keeps path reads gives agent now change old new → Spares does 0 0 old new
  lacked change old new h = spares does old new (record { state = ap (λ x. x.state) h.1.1; ends = ap (λ x. x.ends) h.1.1 })

  any : (change : Option AgentChange) (old new : House S T D K E) → Spares does 0 0 old new → Spares does (makes_by change) 0 old new
  any change old new h = spares_more does 0 (makes_by change) 0 0 old new (omega arith) (omega arith) h

  any_tried : (change : Option AgentChange) (old new : House S T D K E) → Spares does 0 0 old new → Spares does (makes_by change) 1 old new
  any_tried change old new h = spares_more does 0 (makes_by change) 0 1 old new (omega arith) (omega arith) h

  carried_if : (a : Result (Option ClientOrder) AllocError) (change : Option AgentChange) (old new : House S T D K E) → CarriesIf does rows keeps path reads gives agent now a change old new → Spares does (makes_by change) 0 old new
  carried_if (Ok None) change old new h = any change old new (spares does old new (left old new h.1))
  carried_if (Ok (Some a)) None old new h = absurd h
  carried_if (Ok (Some a)) (Some change) old new h = carried_out a change old new h
  carried_if (Err e) change old new h = any change old new (lacked change old new h)

  -- it is tried to keep changes before that
  served_clients : (change : Option AgentChange) (old new : House S T D K E) → ServesClients does rows keeps path reads gives agent now change old new → Spares does (makes_by change) 1 old new
  served_clients change old new h =
      let all = carried_if h.asked change h.tried new h.then in
      let one = within_one does (TryAgain now.elapsed (is_any_asked h.asked) h.tries.news) old.state h.tried.state (keeper_tried does now.elapsed (is_any_asked h.asked) h.tries.news old.state h.tried.state h.tries.tries) in
      record {
        asked = within_more does (0 + 0) (0 + makes_by change) (1 + 0) 0 (makes_by change) 1 old.state new.state (omega arith) (omega arith) (omega arith)
            (within_join does 0 0 1 0 (makes_by change) 0 old.state h.tried.state new.state one all.asked);
        ends = all.ends ∙ ap (λ x. x.ends) h.tries.rest;
      }

  -- the change that has waited is one
  goes_on_if : (heard : Bool) (change : Option AgentChange) (old mid new : House S T D K E) → Spares does (makes_if heard) 0 old mid → GoesOnIf does rows keeps path reads gives agent now heard change mid new → Spares does (makes_by change) 1 old new
  goes_on_if true change old mid new all h =
      subst (λ c. Spares does (makes_by c) 1 old new) (sym h.0) (spares_more does 1 1 0 1 old new (omega arith) (omega arith) (both does 1 0 1 0 old mid new (omega arith) all (spares does mid new (left mid new h.1))))
  goes_on_if false change old mid new all h = both does 0 (makes_by change) (makes_by change) 1 old mid new (omega arith) all (served_clients change mid new h)

  pub asked_for : (due : Result (Option (Inventory × Vec Mark Global)) AllocError) (change : Option AgentChange) (old new : House S T D K E) → AsksIf does rows keeps path reads gives agent now due change old new → Spares does (makes_by change) 1 old new
  asked_for (Ok None) change old new h = goes_on_if h.heard change old h.mid new (heard_for does rows agent now old.awaited h.heard old h.mid h.hears) h.then
  asked_for (Ok (Some p)) change old new h = any_tried change old new (spares does old new (record { state = ap (λ x. x.state) h.1.1; ends = ap (λ x. x.ends) h.1.1 }))
  asked_for (Err e) change old new h = any_tried change old new (lacked change old new h)

-- ---- what was given is settled

module _ {S T D K E : Type 0} (does : KeepCall → K → K → Type 0) (keeps : K → Bool) (agent : Agent) where
  settled_by : (is_made : Bool) (given : Option Given) (old new : House S T D K E) → SettlesBy does keeps agent is_made given old new → Spares does 0 0 old new
  settled_by is_made None old new h = spares does old new (left old new h)
  settled_by true (Some (givens.Need need)) old new h = (let all = sent agent h.sent need.at (record old { desk = h.desk }) new h.sends in spares does old new (record { state = all.state; ends = all.ends }))
  settled_by true (Some (givens.Answer text at)) old new h = spares does old new (sent agent text at old new h)
  settled_by true (Some (givens.Aside aside)) old new h = spares does old new (record { state = ap (λ x. x.state) h.rest; ends = ap (λ x. x.ends) h.rest })
  settled_by true (Some (givens.Served marks)) old new h = record { asked = marked_by does old.state new.state h.0; ends = ap (λ x. x.ends) h.1 }
  settled_by false (Some (givens.Served marks)) old new h = spares does old new (left old new h)
  settled_by true (Some givens.Unchanged) old new h = record { asked = marked_by does old.state new.state h.0; ends = ap (λ x. x.ends) h.1 }
  settled_by false (Some givens.Unchanged) old new h = spares does old new (left old new h)
  settled_by false (Some _) old new h = spares does old new (record { state = ap (λ x. x.state) h.1; ends = ap (λ x. x.ends) h.1 })

  pub settled_given : (is_made : Bool) (old new : House S T D K E) → SettlesGiven does keeps agent is_made old new → Spares does 0 0 old new
  settled_given is_made old new h = (let all = settled_by is_made old.given (record old { given = None }) new h in record { asked = all.asked; ends = all.ends })
