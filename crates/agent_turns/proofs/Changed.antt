-- Changed: a change is made, and leaves what is held in step with the lanes. For `make_change` and the turn.
use Rattle.std.proofs.Common.{◌≡◌, ◌≢◌, ◌==◌, ◌&&◌, ◌∙◌, ℕ, ◌<◌, All, Bool, true, false, List, [], ◌++◌, Option, Some, None, Result, Ok, Err, append_assoc, eqb-true, length, map, refl, sym, ap, ap₂, subst, arith, inl, inr}
use Rattle.std.proofs.lemmas.{List.nil_from_length, List.Elements.All-nil}
use Rattle.agent_standing.specs.{Agent.Agent, Changed.AgentIsChanged, Changed.all_was, Turns.AgentTurn}
use Rattle.agent_standing.proofs.Left.{turn_entries}
use Rattle.vault_asking.specs.Sending.{Lanes}
use Rattle.vault_asking.specs.InStep.{IsAbreast, entries_answered, entries_out, times}
use Rattle.vault_asking.proofs.Changed.{change_law}
use Rattle.vault_asking.proofs.Sound.{IsQuiet, turn_begin, turn_known, turn_need}
use Rattle.vault_inventory.specs.Inventories.{Inventory}
use Rattle.vault_lanes.specs.Out as lanes
use Rattle.vault_lanes.specs.Out.{renamed}
use Rattle.watch_machine.specs.{declared.command.WatchOutput.WatchOutput, declared.command.WatchRequest.WatchRequest, declared.event.WatchEvent.WatchEvent, declared.fault.WatchFault.WatchFault, declared.lanes.Out.Out, History.Changed}
use Rattle.watch_machine.specs.{State.WatchState}
use Rattle.watch_machine.specs.declared.event.WatchEvent.TheVariants as events
use Rattle.watch_machine.proofs.Changing.{out_length}
use Rattle.agent_turns.specs.declared.change.AgentChange.{AgentChange}
use Rattle.agent_turns.specs.Changes.{AllGiven, ChangeIsMade, InventoryIsServed, MadeChange, OneIsMade, ServesInventory}
use Rattle.agent_turns.specs.Held.{Held, IsInStep, ServingSide, entries_unsent, serving_side}
use Rattle.agent_turns.specs.declared.change.AgentChange.TheVariants.{Need, Begin, Known, Serve, Kept}
use Rattle.agent_turns.proofs.InStep.{still_named}

-- ---- an inventory

pub served_already : (s : Inventory) (old : ServingSide) → s ≡ old.held.agent.inventory → ServesInventory s old old
served_already s old same = inl (same, refl)

pub served_anew : (s : Inventory) (old new : ServingSide) → s ≢ old.held.agent.inventory → InventoryIsServed s old new → ServesInventory s old new
served_anew s old new other served = inr (other, served)

-- lists of no length
none_left : {X : Type 0} (xs : List X) → (length xs == 0) ≡ true → xs ≡ []
none_left xs none = nil_from_length xs (eqb-true (length xs) 0 none)

pub both_none : {X Y : Type 0} (xs : List X) (ys : List Y) → (length xs == 0 && length ys == 0) ≡ true → (xs ≡ []) × (ys ≡ [])
both_none xs ys none = by (length xs == 0) (length ys == 0) refl refl none where
  by : (a b : Bool) → (length xs == 0) ≡ a → (length ys == 0) ≡ b → a && b ≡ true → (xs ≡ []) × (ys ≡ [])
  by true true first second none = (none_left xs first, none_left ys second)
  by true false first second none = absurd (let e : false ≡ true = none in cc)
  by false b first second none = absurd (let e : false ≡ true = none in cc)

-- as many requests are out after a change as before it
pub as_many_out : (old new : Agent) (s : Inventory) → AgentIsChanged old s new → length new.machine.out ≡ length old.machine.out
as_many_out old new s change =
    let was = all_was old.inventory s in
    ap (λ (m : WatchState). length m.out) change.machine.state ∙ out_length was (length s.forest.entries) old.machine.out

pub another_served :
    (s : Inventory) (h k : Held) (old new : Agent) (l m : Lanes) (from to : List ℕ) → h.pending ≡ [] → h.unsent ≡ [] → old ≡ h.agent → AgentIsChanged old s new → k ≡ record h { agent = new } →
    from ≡ entries_out old.machine → to ≡ entries_out new.machine → m ≡ record l { out = renamed from to l.out } → InventoryIsServed s (serving_side h l) (serving_side k m)
another_served s h k old new l m from to pending unsent agent change held from_is to_is lanes_are =
    let is_new : k.agent ≡ new = ap (λ (x : Held). x.agent) held in
    record {
      pending = pending;
      unsent = unsent;
      agent = subst (λ (a : Agent). AgentIsChanged h.agent s a) (sym is_new) (subst (λ (a : Agent). AgentIsChanged a s new) agent change);
      held = held ∙ ap (λ (a : Agent). record h { agent = a }) (sym is_new);
      lanes = lanes_are
          ∙ ap₂ (λ (xs ys : List ℕ). record l { out = renamed xs ys l.out }) (from_is ∙ ap (λ (a : Agent). entries_out a.machine) agent) (to_is ∙ ap (λ (a : Agent). entries_out a.machine) (sym is_new));
    }

-- ---- one after another

pub given_join : (xs ys : List AgentChange) (a b c : Option (List AgentChange)) → AllGiven xs a b → AllGiven ys b c → AllGiven (xs ++ ys) a c
given_join xs ys a b None h k = tt
given_join xs ys a b (Some given) h k =
    let first : AllGiven xs a (Some k.0) = subst (AllGiven xs a) k.1.0 h in
    (first.0, (first.1.0, k.1.1 ∙ ap (λ cs. cs ++ ys) first.1.1 ∙ append_assoc first.0 xs ys))

-- ---- in step

quiet_in_step : (width : ℕ) (out : List lanes.Out) (h : Held) (new : Agent) → IsQuiet h.agent.machine new.machine → length new.machine.forest.entries ≡ length h.agent.machine.forest.entries → IsInStep width out h → IsInStep width out (record h { agent = new })
quiet_in_step width out h new quiet entries step =
    let same = ap length quiet.out in
    let n = step.count in
    let room = step.room in
    record {
      width_is = quiet.width ∙ step.width_is;
      room = omega (arith, same, room);
      sound = quiet.sound;
      count = omega (arith, same, n);
      named = still_named h.unsent (length h.agent.machine.forest.entries) (length new.machine.forest.entries) entries step.named;
      each = λ i. step.each i ∙ sym (ap (λ (o : List Out). times i (map (λ (r : Out). r.entry) o)) quiet.out);
    }

pub turned_in_step : (width : ℕ) (out : List lanes.Out) (event : WatchEvent) (h : Held) (new : Agent) → ((output : WatchOutput) → AgentTurn h.agent event (Ok output) new → IsQuiet h.agent.machine new.machine) → (result : Result WatchOutput WatchFault) → AgentTurn h.agent event result new →
    IsInStep width out h → IsInStep width out (record h { agent = new })
turned_in_step width out event h new quiet (Ok output) turn step =
    quiet_in_step width out h new (quiet output turn) (turn_entries h.agent.machine new.machine event (Ok output) turn.machine) step
turned_in_step width out event h new quiet (Err fault) turn step = subst (λ (a : Agent). IsInStep width out (record h { agent = a })) (sym turn.1) step

-- where no answer waits and nothing is to be sent, all that is out is on the lanes; and then it is in step so
all_on_lanes : (width : ℕ) (out : List lanes.Out) (h : Held) → h.pending ≡ [] → h.unsent ≡ [] → IsInStep width out h → IsAbreast h.agent.machine width out
all_on_lanes width out h pending unsent step =
    let n = step.count in
    let room = step.room in
    let a = ap length pending in
    let b = ap length unsent in
    record {
      width_is = step.width_is;
      room = omega (arith, n, room);
      sound = step.sound;
      in_step = record {
        count = omega (arith, n, a, b);
        each = λ i.
            (let all = step.each i in
            let answers = ap (λ xs. times i (entries_answered xs)) pending in
            let requests = ap (λ xs. times i (entries_unsent xs)) unsent in
            omega (arith, all, answers, requests));
      };
    }

abreast_in_step : (width : ℕ) (out : List lanes.Out) (h : Held) → h.pending ≡ [] → h.unsent ≡ [] → IsAbreast h.agent.machine width out → IsInStep width out h
abreast_in_step width out h pending unsent abreast =
    let IsNamed : WatchRequest → Type 0 = λ r. r.entry < length h.agent.machine.forest.entries in
    let n = abreast.in_step.count in
    let room = abreast.room in
    let a = ap length pending in
    let b = ap length unsent in
    record {
      width_is = abreast.width_is;
      room = omega (arith, n, room);
      sound = abreast.sound;
      count = omega (arith, n, a, b);
      named = subst (All IsNamed) (sym unsent) (All-nil IsNamed);
      each = λ i.
          (let all = abreast.in_step.each i in
          let answers = ap (λ xs. times i (entries_answered xs)) pending in
          let requests = ap (λ xs. times i (entries_unsent xs)) unsent in
          omega (arith, all, answers, requests));
    }

served_in_step : (width : ℕ) (s : Inventory) (old new : ServingSide) → InventoryIsServed s old new → IsInStep width old.lanes.out old.held → IsInStep width new.lanes.out new.held
served_in_step width s old new h step =
    let before = old.held.agent.machine in
    let change : Changed = record { forest = s.forest; was = all_was old.held.agent.inventory s; state = new.held.agent.machine } in
    let abreast = change_law before change width old.lanes.out h.agent.machine (all_on_lanes width old.lanes.out old.held h.pending h.unsent step) in
    subst (λ (l : Lanes). IsInStep width l.out new.held) (sym h.lanes)
    (abreast_in_step width (renamed (entries_out before) (entries_out new.held.agent.machine) old.lanes.out) new.held (ap (λ (x : Held). x.pending) h.held ∙ h.pending) (ap (λ (x : Held). x.unsent) h.held ∙ h.unsent) abreast)

serves_in_step : (width : ℕ) (s : Inventory) (old new : ServingSide) → ServesInventory s old new → IsInStep width old.lanes.out old.held → IsInStep width new.lanes.out new.held
serves_in_step width s old new (inl h) step = subst (λ (x : ServingSide). IsInStep width x.lanes.out x.held) (sym h.1) step
serves_in_step width s old new (inr h) step = served_in_step width s old new h.1 step

made_one : (width : ℕ) (c : AgentChange) (is_made : Bool) (old new : ServingSide) → ChangeIsMade c is_made old new → IsInStep width old.lanes.out old.held → IsInStep width new.lanes.out new.held
made_one width c false old new h step = subst (λ (s : ServingSide). IsInStep width s.lanes.out s.held) (sym h.1) step
made_one width (Need i until) true old new h step =
    subst (λ (s : ServingSide). IsInStep width s.lanes.out s.held) (sym h.rest)
    (turned_in_step width old.lanes.out (events.Need i until) old.held new.held.agent (λ output turn. turn_need old.held.agent.machine new.held.agent.machine i until output turn.machine step.sound) h.result h.turn step)
made_one width Begin true old new h step =
    subst (λ (s : ServingSide). IsInStep width s.lanes.out s.held) (sym h.rest)
    (turned_in_step width old.lanes.out events.Begin old.held new.held.agent (λ output turn. turn_begin old.held.agent.machine new.held.agent.machine output turn.machine step.sound) h.result h.turn step)
made_one width (Known i end renewable) true old new h step =
    subst (λ (s : ServingSide). IsInStep width s.lanes.out s.held) (sym h.rest)
    (turned_in_step width old.lanes.out (events.Known i end renewable) old.held new.held.agent
    (λ output turn. turn_known old.held.agent.machine new.held.agent.machine i end renewable output turn.machine step.sound) h.result h.turn step)
made_one width (Serve s) true old new h step = serves_in_step width s old new h step
made_one width Kept true old new h step = subst (λ (s : ServingSide). IsInStep width s.lanes.out s.held) (sym h) step

pub made_keeps : (width : ℕ) (made : Option MadeChange) (old new : ServingSide) → OneIsMade made old new → IsInStep width old.lanes.out old.held → IsInStep width new.lanes.out new.held
made_keeps width None old new h step = subst (λ (s : ServingSide). IsInStep width s.lanes.out s.held) (sym h) step
made_keeps width (Some m) old new h step = made_one width m.change m.is_made old new h step
