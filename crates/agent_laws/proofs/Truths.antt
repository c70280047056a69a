-- Truths: in a run of turns each change that is given is settled at once, and so whoever is told `ok` has asked for it, and it is done. For
-- `whoever_is_told_ok_has_it`.
use Rattle.std.proofs.Common.{◌≡◌, ◌∙◌, ◌⊎◌, ℕ, Bool, inl, inr, List, [], ◌∷◌, ◌++◌, Option, Some, None, Result, ap, arith, refl, subst, sym}
use Rattle.std.specs.declared.alloc.AllocError.{AllocError}
use Rattle.agent_standing.specs.Agent.{Agent}
use Rattle.agent_answers.specs.declared.asked.ClientOrder.{ClientOrder}
use Rattle.agent_answers.specs.declared.asked.ClientOrder.TheVariants as asked
use Rattle.state_changes.specs.declared.row.Row.{Row}
use Rattle.base_clients.specs.{Doors.DoorLog, declared.guest.Guest.Guest, declared.talk.TalkCall.TalkCall}
use Rattle.base_clock.specs.declared.reading.Reading.{Reading}
use Rattle.base_device.specs.declared.tried.Tried.{Tried}
use Rattle.base_disk.specs.State.{DiskState}
use Rattle.vault_inventory.specs.Inventories.{Inventory}
use Rattle.agent_turns.specs.{Changes.MadeChange, Held.ServingSide, Runs.AreTurns, Stages.of_stages, Turns.ServingTurn, Turns.TurnHears, declared.change.AgentChange.AgentChange}
use Rattle.agent_turns.specs.Calls.{calls_after, calls_at, calls_in, calls_of, calls_of_answering, calls_of_reading, heard_of_want}
use Rattle.agent_turns.specs.Neighbours.{AllCalled, Answer, End, Give, GoOn, Hear, NeighbourCall, Needs, Rest, Settle, Step, Thing, Time, Want, calls_for_change}
use Rattle.watch_machine.specs.declared.outlook.Next.{Next}
use Rattle.agent_words.specs.Outcomes.{Why}
use Rattle.agent_ledger.specs.Keeping.{KeepCall}
use Rattle.agent_house.specs.{Admitting.asking_in, Doing.DoesToHouse, Doing.HearsOf, Nexts.HearsNext, declared.given.Awaited.Awaited, declared.given.Given.Given, declared.house.House.House}
use Rattle.agent_laws.specs.Acknowledged.{AllTellTruly, Asks, IsShown, TellsOk, TellsOkAmid, TurnsTellTruly, guests_in}
use Rattle.agent_laws.proofs.Shown.{clients_told}
use Rattle.agent_laws.proofs.Admitted.{Follows, admitted_alone, same_ok}
use Rattle.agent_laws.proofs.Owed.{AreDone, IsOwed, IsTurnOf, Owes, WaitsFor, asked_for, none_given}
use Rattle.agent_laws.proofs.Reaching.{AreLeft, IsChanged, IsHeard, Reaches, SettlesOr, unheard}
use Rattle.agent_laws.proofs.Truly.{awaited_then, none_then, told_truly}
use Rattle.agent_laws.proofs.Weighed.{light_stages, light_want, weight}

-- ---- each change that is given is settled at once

-- and nothing else is settled
abbrev EachIsSettled : List NeighbourCall → Type 0
EachIsSettled [] = Unit {0}
EachIsSettled (Hear agent thing ∷ calls) = EachIsSettled calls
EachIsSettled (GoOn agent now is_busy ∷ calls) = EachIsSettled calls
EachIsSettled (Give agent now None ∷ calls) = EachIsSettled calls
EachIsSettled (Give agent now (Some change) ∷ []) = ⊥
EachIsSettled (Give agent now (Some change) ∷ Hear a thing ∷ calls) = ⊥
EachIsSettled (Give agent now (Some change) ∷ GoOn a r is_busy ∷ calls) = ⊥
EachIsSettled (Give agent now (Some change) ∷ Give a r other ∷ calls) = ⊥
EachIsSettled (Give agent now (Some change) ∷ Settle by is_made ∷ calls) = EachIsSettled calls
EachIsSettled (Give agent now (Some change) ∷ Rest at rest ∷ calls) = ⊥
EachIsSettled (Settle agent is_made ∷ calls) = ⊥
EachIsSettled (Rest now rest ∷ calls) = EachIsSettled calls

join : (xs ys : List NeighbourCall) → EachIsSettled xs → EachIsSettled ys → EachIsSettled (xs ++ ys)
join [] ys x y = y
join (Hear agent thing ∷ xs) ys x y = join xs ys x y
join (GoOn agent now is_busy ∷ xs) ys x y = join xs ys x y
join (Give agent now None ∷ xs) ys x y = join xs ys x y
join (Give agent now (Some change) ∷ []) ys x y = absurd x
join (Give agent now (Some change) ∷ Hear a thing ∷ xs) ys x y = absurd x
join (Give agent now (Some change) ∷ GoOn a r is_busy ∷ xs) ys x y = absurd x
join (Give agent now (Some change) ∷ Give a r other ∷ xs) ys x y = absurd x
join (Give agent now (Some change) ∷ Settle by is_made ∷ xs) ys x y = join xs ys x y
join (Give agent now (Some change) ∷ Rest at rest ∷ xs) ys x y = absurd x
join (Settle agent is_made ∷ xs) ys x y = absurd x
join (Rest now rest ∷ xs) ys x y = join xs ys x y

-- a call but to hear
abbrev other : NeighbourCall → ℕ
other (Hear agent thing) = 0
other _ = 1

only_heard : (xs : List NeighbourCall) → weight other xs ≡ 0 → EachIsSettled xs
only_heard [] e = tt
only_heard (Hear agent thing ∷ xs) e = only_heard xs (omega (arith, e))
only_heard (GoOn agent now is_busy ∷ xs) e = absurd (omega (arith, e))
only_heard (Give agent now change ∷ xs) e = absurd (omega (arith, e))
only_heard (Settle agent is_made ∷ xs) e = absurd (omega (arith, e))
only_heard (Rest now rest ∷ xs) e = absurd (omega (arith, e))

change_settled : (a : Agent) (r : Reading) (told : AgentChange → Agent) (made : Option MadeChange) (now : ℕ) (rest : Option ℕ) → EachIsSettled (calls_for_change a r told made ++ Rest now rest ∷ [])
change_settled a r told None now rest = tt
change_settled a r told (Some m) now rest = tt

settled_at : (port : ℕ) (reading : Option Reading) (old : ServingSide) (t : ServingTurn) (mid : ServingSide) (new : Agent) (h : TurnHears port reading old t.is_whole mid) → EachIsSettled (calls_at port reading old t mid new h)
settled_at port None old t mid new h = tt
settled_at port (Some r) old t mid new h =
    let heard = only_heard (of_stages port r calls_of_answering (calls_of_reading r) old t.is_whole mid h) (light_stages other (λ agent thing. refl) port r old t.is_whole mid h) in
    let want = only_heard (heard_of_want t.is_whole mid.held.agent) (light_want other (λ agent thing. refl) t.is_whole mid.held.agent) in
    let rest : List NeighbourCall = GoOn mid.held.agent r t.is_busy ∷ (calls_for_change mid.held.agent r (λ change. new) t.made ++ Rest r.elapsed t.rest ∷ []) in
    join (of_stages port r calls_of_answering (calls_of_reading r) old t.is_whole mid h) (calls_after r t mid.held.agent new) heard
    (join (heard_of_want t.is_whole mid.held.agent) rest want (change_settled mid.held.agent r (λ change. new) t.made r.elapsed t.rest))

settled_run : (port : ℕ) (turns : List ServingTurn) (from to : ServingSide) (h : AreTurns port from turns to) → EachIsSettled (calls_of port from turns to h)
settled_run port [] from to h = tt
settled_run port (t ∷ turns) from to h =
    join (calls_in port from t h.0 h.1.0) (calls_of port h.0 turns to h.1.1) (settled_at port t.reading from t h.1.0.mid h.0.held.agent h.1.0.hears) (settled_run port turns h.0 to h.1.1)

-- ---- what each call does to a house by itself

module _ {S T D K E : Type 0} where
  by_rest : (mid old new : House S T D K E) → mid.given ≡ old.given → mid.awaited ≡ old.awaited → mid.control ≡ old.control → new ≡ mid → IsHeard old new
  by_rest mid old new given awaited control h = record { left = record { given = ap (λ x. x.given) h ∙ given; awaited = ap (λ x. x.awaited) h ∙ awaited }; control = ap (λ x. x.control) h ∙ control }

  next_heard : (agent : Agent) (next : Option (Option Next)) (old new : House S T D K E) → HearsNext agent next old new → IsHeard old new
  next_heard agent None old new h = unheard old new h
  next_heard agent (Some next) old new h = by_rest _ old new refl refl refl h.rest

  heard_of : (agent : Agent) (thing : Thing) (old new : House S T D K E) → HearsOf agent thing old new → IsHeard old new
  heard_of agent (Time notes requests next) old new h =
      let all = next_heard agent next (record old { desk = h.desk }) new h.then in
      record { left = record { given = all.left.given; awaited = all.left.awaited }; control = all.control }
  heard_of agent (Needs (Some shorts)) old new h = by_rest _ old new refl refl refl h.1
  heard_of agent (Needs None) old new h = by_rest _ old new refl refl refl h.1
  heard_of agent (Answer entry operation said notes) old new h = by_rest _ old new refl refl refl h.1
  heard_of agent (End entry end) old new h = by_rest _ old new refl refl refl h.1
  heard_of agent (Step lead requests) old new h = by_rest _ old new refl refl refl h.1
  heard_of agent Want old new h = by_rest _ old new refl refl refl h.1

module _ {S T D K E : Type 0} (given : S → Option (List ℕ)) (failures tries : S → ℕ) (tried : S → Option (List Tried)) (remaining written : T → Option (List ℕ)) (calls : T → Option (List TalkCall)) (log : D → Option (DoorLog T))
    (does : KeepCall → K → K → Type 0) (rows : K → List Row) (keeps : K → Bool) (path : K → List ℕ) (reads : K → List ℕ → Result Row Why → Type 0) (gives : ℕ → Result (Option Inventory) AllocError → K → Type 0)
    (known : Bool) (state : E → DiskState) where
  abbrev pub Does : NeighbourCall → House S T D K E → House S T D K E → Type 0
  Does call old new = DoesToHouse given failures tries tried remaining written calls log does rows keeps path reads gives known state call old new

  went_on : (agent : Agent) (now : Reading) (is_busy : Bool) (old new : House S T D K E) → Does (GoOn agent now is_busy) old new → AreLeft old new
  went_on agent now is_busy old new h = record {
    given = ap (λ x. x.given) h.attend.rest ∙ ap (λ x. x.given) h.look.rest ∙ ap (λ x. x.given) h.ends.rest;
    awaited = ap (λ x. x.awaited) h.attend.rest ∙ ap (λ x. x.awaited) h.look.rest ∙ ap (λ x. x.awaited) h.ends.rest;
  }

  -- and a client that is told `ok` is shown a page
  shown_alone : (agent : Agent) (now : Reading) (is_busy : Bool) (old new : House S T D K E) → Does (GoOn agent now is_busy) old new → TellsOkAmid (guests_in old.control) (guests_in new.control) (λ before client. IsShown agent now before client)
  shown_alone agent now is_busy old new h ok =
      let same : guests_in h.looked.control ≡ guests_in old.control = ap (λ x. guests_in x.control) h.look.rest ∙ ap (λ x. guests_in x.control) h.ends.rest in
      subst (λ (xs : List (Guest T)). TellsOkAmid xs (guests_in new.control) (λ before client. IsShown agent now before client)) same
      (λ told. clients_told remaining written calls log agent h.attend.around now h.attend.answered _ _ _ h.attend.rooms h.looked.control h.attend.fed new.control h.attend.follow h.attend.clients told) ok

  pub reaches_house : Reaches Does Does (λ (h : House S T D K E). h)
  reaches_house = record {
    hears = heard_of;
    goes_on = λ agent now is_busy old new h. (is_busy, h);
    rests = λ now rest old new h. unheard old new h.0;
    none = λ a now old new h. h;
    settles = λ by is_made old new h. inl h;
    one = λ a now change by is_made old mid new h k. inl (h, k);
  }

  -- ---- so each tells truly

  module _ (Done : ClientOrder → Option K → Type 0) (so : AreDone does reads Done) where
    -- nothing waits to be settled, and who waits has asked for it
    record Rests (has : ℕ → ClientOrder → Type 0) (h : House S T D K E) : Type 0 where
      none : h.given ≡ None
      waits : WaitsFor reads has h.awaited

    waits_more : (has more : ℕ → ClientOrder → Type 0) → ((id : ℕ) (a : ClientOrder) → has id a → more id a) → (awaited : Option Awaited) → WaitsFor reads has awaited → WaitsFor reads more awaited
    waits_more has more is None w = tt
    waits_more has more is (Some one) w = λ id e. (let it = w id e in (it.0, (is id it.0 it.1.0, it.1.1)))

    abbrev and_now : (ℕ → ClientOrder → Type 0) → NeighbourCall → House S T D K E → ℕ → ClientOrder → Type 0
    and_now has call old id a = has id a ⊎ Asks call old id a

    rests_on : (has more : ℕ → ClientOrder → Type 0) → ((id : ℕ) (a : ClientOrder) → has id a → more id a) → (old new : House S T D K E) → AreLeft old new → Rests has old → Rests more new
    rests_on has more is old new left rests = record {
      none = left.given ∙ rests.none;
      waits = waits_more has more is new.awaited (subst (λ (a : Option Awaited). WaitsFor reads has a) (sym left.awaited) rests.waits);
    }

    -- what is owed once a change was asked for
    owes_then : (has : ℕ → ClientOrder → Type 0) (agent : Agent) (now : Reading) (by change : Option AgentChange) (old new : House S T D K E) → Rests has old → Does (Give agent now change) old new → Owes reads Done (and_now has (Give agent now by) old) new
    owes_then has agent now by change old new rests h =
        asked_for does rows keeps path reads gives Done so (and_now has (Give agent now by) old) agent now change old new (λ id a it. inr it) rests.none
        (waits_more has (and_now has (Give agent now by) old) (λ id a it. inl it) old.awaited rests.waits) h

    given_none : (has : ℕ → ClientOrder → Type 0) (agent : Agent) (now : Reading) (by : Option AgentChange) (old new : House S T D K E) → Rests has old → Does (Give agent now None) old new → Rests (and_now has (Give agent now by) old) new
    given_none has agent now by old new rests h = record {
      none = none_given does rows keeps path reads gives Done so has agent now old new rests.waits h ∙ rests.none;
      waits = (owes_then has agent now by None old new rests h).waits;
    }

    -- something is settled
    record Settled (has : ℕ → ClientOrder → Type 0) (old new : House S T D K E) : Type 0 where
      told : TellsOk (guests_in old.control) (guests_in new.control) (λ before client. (a : ClientOrder) × (has before.id a × Done a new.state))
      rests : Rests has new

    settled_one : (has : ℕ → ClientOrder → Type 0) (by : Agent) (is_made : Bool) (old new : House S T D K E) → Owes reads Done has old → Does (Settle by is_made) old new → Settled has old new
    settled_one has by is_made old new owes h = record {
      told = told_truly does keeps reads Done has by is_made old new owes h;
      rests = record {
        none = none_then does keeps reads Done has by is_made old new owes h;
        waits = subst (λ (a : Option Awaited). WaitsFor reads has a) (sym (awaited_then does keeps reads Done has by is_made old new owes h)) owes.waits;
      };
    }

    settled_another : (has : ℕ → ClientOrder → Type 0) (by : Agent) (is_made : Bool) (old new : House S T D K E) → Rests has old → SettlesOr Does by is_made old new → Settled has old new
    settled_another has by is_made old new rests (inl h) =
        settled_one has by is_made old new (record { given = subst (λ (g : Option Given). IsOwed Done has (asking_in old.control) old.state g) (sym rests.none) tt; waits = rests.waits }) h
    settled_another has by is_made old new rests (inr h) = record {
      told = same_ok (λ before client. (a : ClientOrder) × (has before.id a × Done a new.state)) (guests_in old.control) (guests_in new.control) (ap guests_in h.control);
      rests = rests_on has has (λ id a it. it) old new h.left rests;
    }

    changed : (has : ℕ → ClientOrder → Type 0) (a : Agent) (now : Reading) (change : Option AgentChange) (by : Agent) (is_made : Bool) (old mid new : House S T D K E) → Rests has old → IsChanged Does a now change by is_made old mid new → Settled (and_now has (Give a now change) old) mid new
    changed has a now change by is_made old mid new rests (inl h) = settled_one (and_now has (Give a now change) old) by is_made mid new (owes_then has a now change change old mid rests h.0) h.1
    changed has a now change by is_made old mid new rests (inr h) = settled_another (and_now has (Give a now change) old) by is_made mid new (given_none has a now change old mid rests h.0) h.1

    -- whoever is told `ok` where a change is given follows the log from then on
    asked_alone : (a : Agent) (now : Reading) (change : Option AgentChange) (by : Agent) (is_made : Bool) (old mid new : House S T D K E) → IsChanged Does a now change by is_made old mid new →
        TellsOk (guests_in old.control) (guests_in mid.control) (Follows (λ id alerts. IsTurnOf now old.control id (asked.Follow alerts)))
    asked_alone a now change by is_made old mid new (inl h) = admitted_alone does rows keeps path reads gives a now change old mid h.0
    asked_alone a now change by is_made old mid new (inr h) = admitted_alone does rows keeps path reads gives a now None old mid h.0

    module _ {N : Type 0} (to : NeighbourCall → N → N → Type 0) (house : N → House S T D K E) (reaches : Reaches Does to house) where
      truly : (has : ℕ → ClientOrder → Type 0) (made : List NeighbourCall) (old new : N) → EachIsSettled made → (run : AllCalled to made old new) → Rests has (house old) → AllTellTruly to house Done has made old new run
      truly has [] old new each run rests = tt
      truly has (Hear agent thing ∷ made) old new each run rests =
          let more = and_now has (Hear agent thing) (house old) in
          let all = reaches.hears agent thing old run.0 run.1.0 in
          (same_ok (λ before client. ⊥) (guests_in (house old).control) (guests_in (house run.0).control) (ap guests_in all.control), truly more made run.0 new each run.1.1 (rests_on has more (λ id a it. inl it) (house old) (house run.0) all.left rests))
      truly has (GoOn agent now is_busy ∷ made) old new each run rests =
          let more = and_now has (GoOn agent now is_busy) (house old) in
          let all = reaches.goes_on agent now is_busy old run.0 run.1.0 in (
            shown_alone agent now all.0 (house old) (house run.0) all.1,
            truly more made run.0 new each run.1.1 (rests_on has more (λ id a it. inl it) (house old) (house run.0) (went_on agent now all.0 (house old) (house run.0) all.1) rests),
          )
      truly has (Give agent now None ∷ made) old new each run rests =
          let all = reaches.none agent now old run.0 run.1.0 in
          (admitted_alone does rows keeps path reads gives agent now None (house old) (house run.0) all, truly (and_now has (Give agent now None) (house old)) made run.0 new each run.1.1 (given_none has agent now None (house old) (house run.0) rests all))
      truly has (Give agent now (Some change) ∷ []) old new each run rests = absurd each
      truly has (Give agent now (Some change) ∷ Hear a thing ∷ made) old new each run rests = absurd each
      truly has (Give agent now (Some change) ∷ GoOn a r is_busy ∷ made) old new each run rests = absurd each
      truly has (Give agent now (Some change) ∷ Give a r more ∷ made) old new each run rests = absurd each
      truly has (Give agent now (Some change) ∷ Settle by is_made ∷ made) old new each run rests =
          let mid = run.0 in
          let last = run.1.1.0 in
          let asked_then = and_now has (Give agent now (Some change)) (house old) in
          let one = reaches.one agent now change by is_made old mid last run.1.0 run.1.1.1.0 in
          let all = changed has agent now (Some change) by is_made (house old) (house mid) (house last) rests one in
          let more = and_now asked_then (Settle by is_made) (house mid) in (
            asked_alone agent now (Some change) by is_made (house old) (house mid) (house last) one,
            (all.told, truly more made last new each run.1.1.1.1 (rests_on asked_then more (λ id a it. inl it) (house last) (house last) (record { given = refl; awaited = refl }) all.rests)),
          )
      truly has (Give agent now (Some change) ∷ Rest at rest ∷ made) old new each run rests = absurd each
      truly has (Settle by is_made ∷ made) old new each run rests = absurd each
      truly has (Rest now rest ∷ made) old new each run rests =
          let more = and_now has (Rest now rest) (house old) in
          let all = reaches.rests now rest old run.0 run.1.0 in
          (same_ok (λ before client. ⊥) (guests_in (house old).control) (guests_in (house run.0).control) (ap guests_in all.control), truly more made run.0 new each run.1.1 (rests_on has more (λ id a it. inl it) (house old) (house run.0) all.left rests))

      pub turns_tell : TurnsTellTruly to house Done
      turns_tell port turns from end first last owes run =
          truly (λ id a. ⊥) (calls_of port from turns end run.is) first last (settled_run port turns from end run.is) run.called
          (record { none = owes.0; waits = subst (λ (a : Option Awaited). WaitsFor reads (λ id a. ⊥) a) (sym owes.1) tt })
