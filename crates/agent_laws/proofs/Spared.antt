-- Spared: what a turn asks of whoever keeps changes, and that the file of the ends is tried once at most. For the laws of disks.
use Rattle.std.proofs.Common.{◌≡◌, ◌∙◌, ◌⊎◌, ℕ, ◌≤◌, Bool, true, false, inl, inr, List, [], ◌∷◌, Option, Some, None, Result, ap, arith, length, refl, subst, sym}
use Rattle.std.specs.Prelude.{option_map}
use Rattle.std.specs.declared.alloc.AllocError.{AllocError}
use Rattle.agent_standing.specs.Agent.{Agent}
use Rattle.agent_behind.specs.{Behinds.PassesBehind, declared.behind.Behind.Behind}
use Rattle.state_changes.specs.declared.row.Row.{Row}
use Rattle.base_clients.specs.{Doors.DoorLog, declared.talk.TalkCall.TalkCall}
use Rattle.base_clock.specs.declared.reading.Reading.{Reading}
use Rattle.base_device.specs.declared.tried.Tried.{Tried}
use Rattle.base_disk.specs.{State.DiskState, declared.fault.DiskFault.DiskFault}
use Rattle.agent_ends.specs.{Files.EndsFileGoesOn, declared.file.EndsFile.EndsFile}
use Rattle.vault_inventory.specs.Inventories.{Inventory}
use Rattle.agent_turns.specs.{Changes.given_by, Days.PassesToOthers, Calls.calls_in, declared.change.AgentChange.AgentChange, declared.day.EarlyDay.EarlyDay}
use Rattle.agent_turns.specs.Neighbours.{AllCalled, Answer, End, Give, GoOn, Hear, NeighbourCall, Needs, Rest, Settle, Step, Thing, Time, Want}
use Rattle.watch_machine.specs.declared.outlook.Next.{Next}
use Rattle.agent_laws.specs.Disks.{AreEndsLeft, AsksLittle, EndsAreTriedOnce, IsAskedWithin, ToHouse, TriesEnds}
use Rattle.agent_house.specs.{Doing.HearsOf, Doing.HearsServedIf, Nexts.HearsNext, Looks.AsksToLook, declared.house.House.House}
use Rattle.agent_house.specs.Ends.{EndsGoOn, after_answer, to_be_kept}
use Rattle.agent_ledger.specs.{Keeping.KeepCall, Keeping.Look, declared.keeping.FileLook.FileLook}
use Rattle.agent_words.specs.Outcomes.{Why}
use Rattle.agent_laws.proofs.Asks.{Spares, asked_for, settled_given}
use Rattle.agent_laws.proofs.Called.{within_join, within_more, within_none, within_one}
use Rattle.agent_laws.proofs.Passed.{Passes, by_day, by_day_behind}
use Rattle.agent_laws.proofs.Weighed.{gives, gives_few, goes, goes_once, offers, offers_once, weight}

-- ---- the ends

module _ {E : Type 0} where
  left_same : (old new : Option (EndsFile E)) → new ≡ old → AreEndsLeft old new
  left_same old new h = subst (λ (o : Option (EndsFile E)). AreEndsLeft old o) (sym h) (itself old) where
    itself : (o : Option (EndsFile E)) → AreEndsLeft o o
    itself None = refl
    itself (Some ends) = refl

  left_join : (a b c : Option (EndsFile E)) → AreEndsLeft a b → AreEndsLeft b c → AreEndsLeft a c
  left_join None b c h k = subst (λ (o : Option (EndsFile E)). AreEndsLeft o c) h k
  left_join (Some a) None c h k = absurd h
  left_join (Some a) (Some b) None h k = absurd k
  left_join (Some a) (Some b) (Some c) h k = k ∙ ap (λ (x : EndsFile E). record x { is_stale = c.is_stale }) h

  -- they may not keep all that was told
  marked : (f : EndsFile E → EndsFile E) → ((x : EndsFile E) → f x ≡ record x { is_stale = (f x).is_stale }) → (old new : Option (EndsFile E)) → new ≡ option_map f old → AreEndsLeft old new
  marked f same None new h = h
  marked f same (Some old) new h = subst (λ (o : Option (EndsFile E)). AreEndsLeft (Some old) o) (sym h) (same old)

module _ {E : Type 0} (known : Bool) (state : E → DiskState) where
  abbrev MayBeTried : Option (EndsFile E) → Option (EndsFile E) → Type 0
  MayBeTried old new = AreEndsLeft old new ⊎ EndsAreTriedOnce known state old new

  tried_left : (a b c : Option (EndsFile E)) → MayBeTried a b → AreEndsLeft b c → MayBeTried a c
  tried_left a b c (inl h) k = inl (left_join a b c h k)
  tried_left a b c (inr h) k = inr (record { agent = h.agent; now = h.now; result = h.result; before = h.before; after = h.after; from = h.from; due = h.due; tried = h.tried; to = left_join (Some h.after) b c h.to k })

  left_tried : (a b c : Option (EndsFile E)) → AreEndsLeft a b → MayBeTried b c → MayBeTried a c
  left_tried a b c h (inl k) = inl (left_join a b c h k)
  left_tried a b c h (inr k) = inr (record { agent = k.agent; now = k.now; result = k.result; before = k.before; after = k.after; from = left_join a b (Some k.before) h k.from; due = k.due; tried = k.tried; to = k.to })

  tried_by : (agent : Agent) (now : ℕ) (tried : Option (Result (Unit {0}) DiskFault)) (old new : EndsFile E) → EndsFileGoesOn known state agent now tried old new → MayBeTried (Some old) (Some new)
  tried_by agent now None old new h = inl (left_same (Some old) (Some new) (ap (λ (x : EndsFile E). Some x) h.1))
  tried_by agent now (Some result) old new h = inr (record { agent = agent; now = now; result = result; before = old; after = new; from = refl; due = h.0; tried = h.1; to = refl })

  gone_on : (agent : Agent) (now : ℕ) (tried : Option (Result (Unit {0}) DiskFault)) (old new : Option (EndsFile E)) → EndsGoOn known state agent now tried old new → MayBeTried old new
  gone_on agent now tried None new h = inl h.1
  gone_on agent now tried (Some old) None h = absurd h
  gone_on agent now tried (Some old) (Some new) h = tried_by agent now tried old new h

  -- they are tried where the house goes on, and else left alone
  abbrev DoesToEnds : NeighbourCall → Option (EndsFile E) → Option (EndsFile E) → Type 0
  DoesToEnds (GoOn agent now is_busy) old new = MayBeTried old new
  DoesToEnds _ old new = AreEndsLeft old new

  module _ {N : Type 0} (does : NeighbourCall → N → N → Type 0) (ends : N → Option (EndsFile E)) (by : (call : NeighbourCall) (old new : N) → does call old new → DoesToEnds call (ends old) (ends new)) where
    left_of : (calls : List NeighbourCall) (old new : N) → AllCalled does calls old new → weight goes calls ≡ 0 → AreEndsLeft (ends old) (ends new)
    left_of [] old new h none = left_same (ends old) (ends new) (ap ends h)
    left_of (Hear agent thing ∷ rest) old new h none = left_join (ends old) (ends h.0) (ends new) (by (Hear agent thing) old h.0 h.1.0) (left_of rest h.0 new h.1.1 (omega (arith, none)))
    left_of (GoOn agent now is_busy ∷ rest) old new h none = absurd (omega (arith, none))
    left_of (Give agent now change ∷ rest) old new h none = left_join (ends old) (ends h.0) (ends new) (by (Give agent now change) old h.0 h.1.0) (left_of rest h.0 new h.1.1 (omega (arith, none)))
    left_of (Settle agent is_made ∷ rest) old new h none = left_join (ends old) (ends h.0) (ends new) (by (Settle agent is_made) old h.0 h.1.0) (left_of rest h.0 new h.1.1 (omega (arith, none)))
    left_of (Rest now left ∷ rest) old new h none = left_join (ends old) (ends h.0) (ends new) (by (Rest now left) old h.0 h.1.0) (left_of rest h.0 new h.1.1 (omega (arith, none)))

    tried_of : (calls : List NeighbourCall) (old new : N) → AllCalled does calls old new → weight goes calls ≤ 1 → MayBeTried (ends old) (ends new)
    tried_of [] old new h few = inl (left_same (ends old) (ends new) (ap ends h))
    tried_of (Hear agent thing ∷ rest) old new h few = left_tried (ends old) (ends h.0) (ends new) (by (Hear agent thing) old h.0 h.1.0) (tried_of rest h.0 new h.1.1 (omega (arith, few)))
    tried_of (GoOn agent now is_busy ∷ rest) old new h few = tried_left (ends old) (ends h.0) (ends new) (by (GoOn agent now is_busy) old h.0 h.1.0) (left_of rest h.0 new h.1.1 (omega (arith, few)))
    tried_of (Give agent now change ∷ rest) old new h few = left_tried (ends old) (ends h.0) (ends new) (by (Give agent now change) old h.0 h.1.0) (tried_of rest h.0 new h.1.1 (omega (arith, few)))
    tried_of (Settle agent is_made ∷ rest) old new h few = left_tried (ends old) (ends h.0) (ends new) (by (Settle agent is_made) old h.0 h.1.0) (tried_of rest h.0 new h.1.1 (omega (arith, few)))
    tried_of (Rest now left ∷ rest) old new h few = left_tried (ends old) (ends h.0) (ends new) (by (Rest now left) old h.0 h.1.0) (tried_of rest h.0 new h.1.1 (omega (arith, few)))

    pub ends_law : TriesEnds does known state ends
    ends_law t old new turn =
        let h = turn.1.1.1 in
        tried_of (calls_in turn.0 turn.1.0 t turn.1.1.0 h.is) old new h.called (goes_once turn.0 t.reading turn.1.0 t h.is.mid turn.1.1.0.held.agent h.is.hears)

-- ---- whoever keeps changes

module _ {K N : Type 0} (asks : KeepCall → K → K → Type 0) (does : NeighbourCall → N → N → Type 0) (keeper : N → Option K)
    (by : (call : NeighbourCall) (old new : N) → does call old new → IsAskedWithin asks (goes call) (gives call) (offers call) (keeper old) (keeper new)) where
  asked_of : (calls : List NeighbourCall) (old new : N) → AllCalled does calls old new → IsAskedWithin asks (weight goes calls) (weight gives calls) (weight offers calls) (keeper old) (keeper new)
  asked_of [] old new h = within_none asks (keeper old) (keeper new) (ap keeper h)
  asked_of (call ∷ rest) old new h =
      within_join asks (goes call) (gives call) (offers call) (weight goes rest) (weight gives rest) (weight offers rest) (keeper old) (keeper h.0) (keeper new) (by call old h.0 h.1.0) (asked_of rest h.0 new h.1.1)

  pub asks_law : AsksLittle does asks keeper
  asks_law t old new turn =
      let h = turn.1.1.1 in
      let calls = calls_in turn.0 turn.1.0 t turn.1.1.0 h.is in
      let last = turn.1.1.0.held.agent in
      within_more asks (weight goes calls) (weight gives calls) (weight offers calls) 1 (length (given_by t.made)) 1 (keeper old) (keeper new) (goes_once turn.0 t.reading turn.1.0 t h.is.mid last h.is.hears)
      (gives_few turn.0 t.reading turn.1.0 t h.is.mid last h.is.hears) (offers_once turn.0 t.reading turn.1.0 t h.is.mid last h.is.hears)
      (asked_of calls old new h.called)

-- ---- a house

module _ {S T D K E : Type 0} where
  next_heard : (agent : Agent) (next : Option (Option Next)) (old new : House S T D K E) → HearsNext agent next old new → (new.state ≡ old.state) × (new.ends ≡ old.ends)
  next_heard agent None old new h = (ap (λ x. x.state) h, ap (λ x. x.ends) h)
  next_heard agent (Some next) old new h = (ap (λ x. x.state) h.rest, ap (λ x. x.ends) h.rest)

  heard_of : (agent : Agent) (thing : Thing) (old new : House S T D K E) → HearsOf agent thing old new → (new.state ≡ old.state) × AreEndsLeft old.ends new.ends
  heard_of agent (Time notes requests next) old new h =
      let next_left = next_heard agent next (record old { desk = h.desk }) new h.then in
      (next_left.0, left_same old.ends new.ends next_left.1)
  heard_of agent (Needs (Some shorts)) old new h = (ap (λ x. x.state) h.1, left_same old.ends new.ends (ap (λ x. x.ends) h.1))
  heard_of agent (Needs None) old new h = (ap (λ x. x.state) h.1, left_same old.ends new.ends (ap (λ x. x.ends) h.1))
  heard_of agent (Answer entry operation said notes) old new h = (ap (λ x. x.state) h.1, marked (after_answer said.reply) (λ x. refl) old.ends new.ends (ap (λ x. x.ends) h.1))
  heard_of agent (End entry end) old new h = (ap (λ x. x.state) h.1, marked to_be_kept (λ x. refl) old.ends new.ends (ap (λ x. x.ends) h.1))
  heard_of agent (Step lead requests) old new h = (ap (λ x. x.state) h.1, left_same old.ends new.ends (ap (λ x. x.ends) h.1))
  heard_of agent Want old new h = (ap (λ x. x.state) h.1, left_same old.ends new.ends (ap (λ x. x.ends) h.1))

  served_heard : (is : Bool) (old new : House S T D K E) → HearsServedIf is old new → (new.state ≡ old.state) × AreEndsLeft old.ends new.ends
  served_heard true old new h = (ap (λ x. x.state) h, marked to_be_kept (λ x. refl) old.ends new.ends (ap (λ x. x.ends) h))
  served_heard false old new h = (ap (λ x. x.state) h, left_same old.ends new.ends (ap (λ x. x.ends) h))

looked_at : {K : Type 0} (asks : KeepCall → K → K → Type 0) (now : Reading) (look : FileLook) (old new : Option K) → AsksToLook asks now look old new → IsAskedWithin asks 1 0 0 old new
looked_at asks now look None new h = within_more asks 0 0 0 1 0 0 None new (omega arith) (omega arith) (omega arith) (within_none asks None new h.1)
looked_at asks now look (Some old) None h = absurd h
looked_at asks now look (Some old) (Some new) h = within_one asks (Look now look) (Some old) (Some new) (new, (h, refl))

module _ {S T D K E : Type 0} (given : S → Option (List ℕ)) (failures tries : S → ℕ) (tried : S → Option (List Tried)) (remaining written : T → Option (List ℕ)) (calls : T → Option (List TalkCall)) (log : D → Option (DoorLog T))
    (asks : KeepCall → K → K → Type 0) (rows : K → List Row) (keeps : K → Bool) (path : K → List ℕ) (reads : K → List ℕ → Result Row Why → Type 0) (gives_served : ℕ → Result (Option Inventory) AllocError → K → Type 0)
    (known : Bool) (state : E → DiskState) where
  abbrev Does : NeighbourCall → House S T D K E → House S T D K E → Type 0
  Does = ToHouse given failures tries tried remaining written calls log asks rows keeps path reads gives_served known state

  given_of : (agent : Agent) (now : Reading) (change : Option AgentChange) (old new : House S T D K E) → Does (Give agent now change) old new → Spares asks (gives (Give agent now change)) 1 old new
  given_of agent now None old new h = asked_for asks rows keeps path reads gives_served agent now h.0 None old new h.1.1
  given_of agent now (Some change) old new h = asked_for asks rows keeps path reads gives_served agent now h.0 (Some change) old new h.1.1

  pub asked_at : (call : NeighbourCall) (old new : House S T D K E) → Does call old new → IsAskedWithin asks (goes call) (gives call) (offers call) old.state new.state
  asked_at (Hear agent thing) old new h = within_none asks old.state new.state (heard_of agent thing old new h).0
  asked_at (GoOn agent now is_busy) old new h =
      subst (λ (s : Option K). IsAskedWithin asks 1 0 0 s new.state) (ap (λ x. x.state) h.ends.rest)
      (subst (λ (s : Option K). IsAskedWithin asks 1 0 0 h.kept.state s) (sym (ap (λ x. x.state) h.attend.rest)) (looked_at asks now h.look.look h.kept.state h.looked.state h.look.asks))
  asked_at (Give agent now None) old new h = (given_of agent now None old new h).asked
  asked_at (Give agent now (Some change)) old new h = (given_of agent now (Some change) old new h).asked
  asked_at (Settle agent is_made) old new h =
      let heard = served_heard _ old h.heard h.served in
      let settled = settled_given asks keeps agent is_made h.heard h.settled h.settles in
      subst (λ (s : Option K). IsAskedWithin asks 0 0 0 s new.state) heard.0
      (subst (λ (s : Option K). IsAskedWithin asks 0 0 0 h.heard.state s) (sym (ap (λ x. x.state) h.rest)) settled.asked)
  asked_at (Rest now rest) old new h = within_none asks old.state new.state (ap (λ x. x.state) h.0)

  pub ends_at : (call : NeighbourCall) (old new : House S T D K E) → Does call old new → DoesToEnds known state call old.ends new.ends
  ends_at (Hear agent thing) old new h = (heard_of agent thing old new h).1
  ends_at (GoOn agent now is_busy) old new h =
      tried_left known state old.ends h.kept.ends new.ends (gone_on known state agent now.elapsed h.ends.tried old.ends h.kept.ends h.ends.ends)
      (left_same h.kept.ends new.ends (ap (λ x. x.ends) h.attend.rest ∙ ap (λ x. x.ends) h.look.rest))
  ends_at (Give agent now None) old new h = left_same old.ends new.ends (given_of agent now None old new h).ends
  ends_at (Give agent now (Some change)) old new h = left_same old.ends new.ends (given_of agent now (Some change) old new h).ends
  ends_at (Settle agent is_made) old new h =
      let heard = served_heard _ old h.heard h.served in
      let settled = settled_given asks keeps agent is_made h.heard h.settled h.settles in
      left_join old.ends h.heard.ends new.ends heard.1 (left_same h.heard.ends new.ends (ap (λ x. x.ends) h.rest ∙ settled.ends))
  ends_at (Rest now rest) old new h = left_same old.ends new.ends (ap (λ x. x.ends) h.0)

  -- ---- the same after one more neighbour

  abbrev ToKeeper : NeighbourCall → House S T D K E → House S T D K E → Type 0
  ToKeeper call old new = IsAskedWithin asks (goes call) (gives call) (offers call) old.state new.state

  given_more : (a : Agent) (now : Reading) (change : Option AgentChange) (x y : House S T D K E) → ToKeeper (Give a now None) x y → ToKeeper (Give a now change) x y
  given_more a now None x y h = h
  given_more a now (Some change) x y h = within_more asks 0 0 1 0 1 1 x.state y.state (omega arith) (omega arith) (omega arith) h

  asks_on : Passes ToKeeper
  asks_on = record {
    heard = λ a one other x y z h k. within_join asks 0 0 0 0 0 0 x.state y.state z.state h k;
    settled = λ a thing is_made x y h. h;
    unsettled = λ a is_made x y same. within_none asks x.state y.state (ap (λ (v : House S T D K E). v.state) same);
    goes = λ a now b c x y h. h;
    gives = given_more;
    rests = λ now rest x y same. within_none asks x.state y.state (ap (λ (v : House S T D K E). v.state) same);
  }

  abbrev ToEnds : NeighbourCall → House S T D K E → House S T D K E → Type 0
  ToEnds call old new = DoesToEnds known state call old.ends new.ends

  ends_on : Passes ToEnds
  ends_on = record {
    heard = λ a one other x y z h k. left_join x.ends y.ends z.ends h k;
    settled = λ a thing is_made x y h. h;
    unsettled = λ a is_made x y same. left_same x.ends y.ends (ap (λ (v : House S T D K E). v.ends) same);
    goes = λ a now b c x y h. h;
    gives = λ a now change x y h. h;
    rests = λ now rest x y same. left_same x.ends y.ends (ap (λ (v : House S T D K E). v.ends) same);
  }

  abbrev DoesOn : NeighbourCall → EarlyDay (House S T D K E) → EarlyDay (House S T D K E) → Type 0
  DoesOn call old new = PassesToOthers Does call old new

  pub asked_day : (call : NeighbourCall) (old new : EarlyDay (House S T D K E)) → DoesOn call old new → IsAskedWithin asks (goes call) (gives call) (offers call) old.others.state new.others.state
  asked_day = by_day Does ToKeeper asks_on asked_at

  pub ends_day : (call : NeighbourCall) (old new : EarlyDay (House S T D K E)) → DoesOn call old new → DoesToEnds known state call old.others.ends new.others.ends
  ends_day = by_day Does ToEnds ends_on ends_at

  abbrev DoesBehind : {L : Type 0} → (ℕ → ℕ → L → ℕ) → NeighbourCall → EarlyDay (Behind (House S T D K E) L) → EarlyDay (Behind (House S T D K E) L) → Type 0
  DoesBehind {L} due_by call old new = PassesToOthers (λ (c : NeighbourCall) (a b : Behind (House S T D K E) L). PassesBehind due_by Does c a b) call old new

  pub asked_behind : {L : Type 0} (due_by : ℕ → ℕ → L → ℕ) (call : NeighbourCall) (old new : EarlyDay (Behind (House S T D K E) L)) → DoesBehind due_by call old new → IsAskedWithin asks (goes call) (gives call) (offers call) old.others.others.state new.others.others.state
  asked_behind due_by = by_day_behind due_by Does ToKeeper asks_on asked_at

  pub ends_behind : {L : Type 0} (due_by : ℕ → ℕ → L → ℕ) (call : NeighbourCall) (old new : EarlyDay (Behind (House S T D K E) L)) → DoesBehind due_by call old new → DoesToEnds known state call old.others.others.ends new.others.others.ends
  ends_behind due_by = by_day_behind due_by Does ToEnds ends_on ends_at
