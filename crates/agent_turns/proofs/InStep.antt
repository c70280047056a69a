-- InStep: what each stage leaves is in step with the lanes. For the stages, and the turn over them.
use Rattle.std.proofs.Common.{◌≡◌, ◌≢◌, ◌∙◌, ℕ, ◌<◌, All, List, [], ◌∷◌, ◌++◌, None, Ok, drop, length, slice_index_or, refl, sym, ap, subst, arith, inl, inr}
use Rattle.std.proofs.lemmas.{List.length-append, List.Elements.All-head, List.Elements.All-tail}
use Rattle.agent_standing.specs.{Agent.Agent, Turns.inventory_after}
use Rattle.agent_standing.proofs.Left.{turn_entries}
use Rattle.vault_asking.specs.{Handing.AreHandedIn, Handing.out_of, Told.event_as}
use Rattle.vault_asking.specs.InStep.{AreOut, entries_answered, entries_out, times}
use Rattle.vault_asking.proofs.AnswersOut.{are_over, some_out}
use Rattle.vault_asking.proofs.InStep.{parted_count, parted_times, sent_all}
use Rattle.vault_asking.proofs.Sound.{counts, same_index, times_append, turn_gone}
use Rattle.base_clock.specs.declared.reading.Reading.{Reading}
use Rattle.vault_inventory.specs.Inventories.{Inventory}
use Rattle.vault_lanes.specs.Out as lanes
use Rattle.vault_lanes.specs.declared.lanes.Answered.{Answered}
use Rattle.watch_machine.specs.{declared.command.WatchRequest.WatchRequest, declared.event.Operation.Operation, declared.event.WatchReply.WatchReply, declared.event.WatchTerms.WatchTerms, State.WatchState}
use Rattle.watch_machine.specs.declared.event.Operation.TheVariants.{Look, Renew}
use Rattle.agent_turns.specs.Held.{Held, IsInStep, ServingSide, entries_unsent}
use Rattle.agent_turns.specs.Stages.{AnswersAreTaken, HaveCome, HaveGone, HaveTaken, IsKeptBack, ShortsAreSaid, TimeIsHandedIn}

unsent_append : (xs ys : List WatchRequest) → entries_unsent (xs ++ ys) ≡ entries_unsent xs ++ entries_unsent ys
unsent_append [] ys = refl
unsent_append (x ∷ xs) ys = ap (λ ns. x.entry ∷ ns) (unsent_append xs ys)

answers_append : (xs ys : List Answered) → entries_answered (xs ++ ys) ≡ entries_answered xs ++ entries_answered ys
answers_append [] ys = refl
answers_append (x ∷ xs) ys = ap (λ ns. x.index ∷ ns) (answers_append xs ys)

-- ---- what waits to be sent is of an entry, and finds a lane

abbrev IsNamed : Held → WatchRequest → Type 0
IsNamed h r = r.entry < length h.agent.machine.forest.entries

pub unsent_within : (width : ℕ) (out : List lanes.Out) (h : Held) (r : WatchRequest) (later : List WatchRequest) → IsInStep width out h → h.unsent ≡ r ∷ later → r.entry < length h.agent.machine.forest.entries
unsent_within width out h r later step is = All-head (IsNamed h) r later (subst (All (IsNamed h)) is step.named)

all_behind : {X : Type 0} (P : X → Type 0) (xs ys : List X) → All P (xs ++ ys) → All P ys
all_behind P [] ys all = all
all_behind P (x ∷ xs) ys all = all_behind P xs ys (All-tail P x (xs ++ ys) all)

-- as many entries as before are as many as are named
pub still_named : (requests : List WatchRequest) (n m : ℕ) → m ≡ n → All (λ (r : WatchRequest). r.entry < n) requests → All (λ (r : WatchRequest). r.entry < m) requests
still_named requests n m same named = subst (λ k. All (λ (r : WatchRequest). r.entry < k) requests) (sym same) named

-- the first of a list that has one
pub first_of : {T : Type 0} → (xs : List T) (d : T) → 0 < length xs → xs ≡ slice_index_or xs 0 d ∷ drop 1 xs
first_of [] d some = absurd (omega (arith, some))
first_of (x ∷ xs) d some = refl

pub first_within : (width : ℕ) (out : List lanes.Out) (h : Held) (r : WatchRequest) → IsInStep width out h → 0 < length h.unsent → r ≡ slice_index_or h.unsent 0 r → r.entry < length h.agent.machine.forest.entries
first_within width out h r step some is = unsent_within width out h r (drop 1 h.unsent) step (first_of h.unsent r some ∙ ap (λ x. x ∷ drop 1 h.unsent) (sym is))

-- ---- requests have gone out

pub in_step_gone : (port width : ℕ) (old new : ServingSide) → HaveGone port old new → IsInStep width old.lanes.out old.held → IsInStep width new.lanes.out new.held
in_step_gone port width old new h step =
    let sent = sent_all port _ _ _ _ h.sent old.lanes new.lanes h.out in
    let parts = ap length h.parts ∙ length-append h.sent new.held.unsent in
    let n = step.count in
    let a = sent.count in
    let now : IsInStep width new.lanes.out (record old.held { unsent = new.held.unsent }) = record {
      width_is = step.width_is;
      room = step.room;
      sound = step.sound;
      count = omega (arith, parts, n, a);
      named = all_behind (IsNamed old.held) h.sent new.held.unsent (subst (All (IsNamed old.held)) h.parts step.named);
      each = λ i.
          (let before = step.each i in
          let here = sent.each i in
          let split = ap (λ rs. times i (entries_unsent rs)) h.parts ∙ ap (times i) (unsent_append h.sent new.held.unsent) ∙ times_append i (entries_unsent h.sent) (entries_unsent new.held.unsent) in
          omega (arith, before, here, split));
    } in
    subst (IsInStep width new.lanes.out) (sym h.held) now

pub in_step_kept : (port width : ℕ) (old new : ServingSide) → IsKeptBack port old new → IsInStep width old.lanes.out old.held → IsInStep width new.lanes.out new.held
in_step_kept port width old new h step = subst (λ out. IsInStep width out new.held) (sym h.out) (subst (IsInStep width old.lanes.out) (sym h.held) step)

-- ---- answers have come

pub in_step_come : (now width : ℕ) (old new : ServingSide) → HaveCome now old new → IsInStep width old.lanes.out old.held → IsInStep width new.lanes.out new.held
in_step_come now width old new h step =
    let parts = parted_count old.lanes.out new.held.pending new.lanes.out h.parted in
    let none = ap length h.none in
    let n = step.count in
    let held : IsInStep width new.lanes.out (record old.held { pending = new.held.pending }) = record {
      width_is = step.width_is;
      room = step.room;
      sound = step.sound;
      count = omega (arith, parts, none, n);
      named = step.named;
      each = λ i.
          (let before = step.each i in
          let here = parted_times old.lanes.out new.held.pending new.lanes.out h.parted i in
          let nothing = ap (λ xs. times i (entries_answered xs)) h.none in
          omega (arith, before, here, nothing));
    } in
    subst (IsInStep width new.lanes.out) (sym h.held) held

-- ---- answers have been handed in

same_inventory : (operation : Operation) (i : ℕ) (reply : WatchReply) (terms : WatchTerms) (s : Inventory) → inventory_after (event_as operation i reply terms) s ≡ s
same_inventory Look i reply terms s = refl
same_inventory Renew i reply terms s = refl

pub handed_all : (answers : List Answered) (old new : Agent) → AnswersAreTaken answers old new → AreHandedIn old.inventory answers old.machine new.machine × (new.inventory ≡ old.inventory)
handed_all [] old new h = (ap (λ (a : Agent). a.machine) h, ap (λ (a : Agent). a.inventory) h)
handed_all (a ∷ rest) old new h =
    let mid = h.0 in
    let one = h.1.0 in
    let same = one.turn.inventory ∙ same_inventory one.request.operation a.index one.said.reply one.said.terms old.inventory in
    let more = handed_all rest mid new h.1.1 in (
      (
        mid.machine,
        (
          record { request = one.request; is_out = one.is_out; said = one.said; said_is = one.said_is; output = one.output; turn = one.turn.machine },
          subst (λ s. AreHandedIn s rest mid.machine new.machine) same more.0,
        ),
      ),
      more.1 ∙ same,
    )

-- those that were handed in are answers to requests that were out
pub taken_out : (width : ℕ) (out : List lanes.Out) (h : Held) (taken later : List Answered) → IsInStep width out h → h.pending ≡ taken ++ later → AreOut h.agent.machine taken
taken_out width out h taken later step parts = λ i.
    (let all = step.each i in
    let split = ap (λ xs. times i (entries_answered xs)) parts ∙ ap (times i) (answers_append taken later) ∙ times_append i (entries_answered taken) (entries_answered later) in
    omega (arith, all, split))

-- and there are as many entries as before
entries_taken : (answers : List Answered) (old new : Agent) → AnswersAreTaken answers old new → length new.machine.forest.entries ≡ length old.machine.forest.entries
entries_taken [] old new h = ap (λ (a : Agent). length a.machine.forest.entries) h
entries_taken (a ∷ rest) old new h =
    let one = h.1.0 in
    entries_taken rest h.0 new h.1.1 ∙ turn_entries old.machine h.0.machine (event_as one.request.operation a.index one.said.reply one.said.terms) (Ok one.output) one.turn.machine

pub in_step_taken : (width : ℕ) (out : List lanes.Out) (old new : Held) → HaveTaken old new → IsInStep width out old → IsInStep width out new
in_step_taken width out old new h step =
    let handed = handed_all h.taken old.agent new.agent h.agent in
    let most = taken_out width out old h.taken new.pending step h.parts in
    let over = are_over old.agent.inventory h.taken old.agent.machine new.agent.machine handed.0 step.sound most in
    let parts = ap length h.parts ∙ length-append h.taken new.pending in
    let n = step.count in
    let a = over.count in
    let room = step.room in
    let held : IsInStep width out (record old { agent = new.agent; pending = new.pending }) = record {
      width_is = over.width ∙ step.width_is;
      room = omega (arith, a, room);
      sound = over.sound;
      count = omega (arith, parts, n, a);
      named = still_named old.unsent (length old.agent.machine.forest.entries) (length new.agent.machine.forest.entries) (entries_taken h.taken old.agent new.agent h.agent) step.named;
      each = λ i.
          (let before = step.each i in
          let here = over.each i in
          let split = ap (λ xs. times i (entries_answered xs)) h.parts ∙ ap (times i) (answers_append h.taken new.pending) ∙ times_append i (entries_answered h.taken) (entries_answered new.pending) in
          omega (arith, before, here, split));
    } in
    subst (IsInStep width out) (sym h.held) held

-- ---- the time was handed in

pub said_machine : (old new : Agent) → ShortsAreSaid old new → new.machine ≡ old.machine
said_machine old new (inl same) = ap (λ (a : Agent). a.machine) same
said_machine old new (inr said) = ap (λ (a : Agent). a.machine) said

pub in_step_read : (r : Reading) (width : ℕ) (out : List lanes.Out) (old new : Held) → TimeIsHandedIn r old new → IsInStep width out old → IsInStep width out new
in_step_read r width out old new h step =
    let gone = turn_gone old.agent.machine h.mid.machine r.wall r.elapsed _ new.unsent h.until h.turn.machine refl step.sound in
    let none = ap length h.none in
    let n = step.count in
    let a = gone.count in
    let few = gone.few in
    let room = step.room in
    let w = step.width_is in
    let mid : IsInStep width out (record { agent = record new.agent { machine = h.mid.machine }; pending = old.pending; unsent = new.unsent; asked = r; until = new.until }) = record {
      width_is = gone.width ∙ step.width_is;
      room = omega (arith, a, few, room, w);
      sound = gone.sound;
      count = omega (arith, none, n, a);
      named = gone.within;
      each = λ i.
          (let before = step.each i in
          let nothing = ap (λ rs. times i (entries_unsent rs)) h.none in
          let there = ap (times i) gone.entries ∙ times_append i (entries_out old.agent.machine) (entries_unsent new.unsent) in
          omega (arith, before, nothing, there));
    } in
    let same = said_machine h.mid new.agent h.said in
    let agent : IsInStep width out (record { agent = new.agent; pending = old.pending; unsent = new.unsent; asked = r; until = new.until }) =
    subst (λ (m : WatchState). IsInStep width out (record { agent = record new.agent { machine = m }; pending = old.pending; unsent = new.unsent; asked = r; until = new.until })) (sym same) mid in
    subst (λ (x : Held). IsInStep width out (record x { until = new.until })) (sym h.held) agent

-- ---- the first answer that waits is to a request that is out

pub first_out : (width : ℕ) (out : List lanes.Out) (h : Held) (a : Answered) → IsInStep width out h → 0 < length h.pending → a ≡ slice_index_or h.pending 0 a → out_of h.agent.machine.out a.index ≢ None
first_out width out h a step some is =
    let parts : h.pending ≡ a ∷ drop 1 h.pending = first_of h.pending a some ∙ ap (λ x. x ∷ drop 1 h.pending) (sym is) in
    let first = ap (λ xs. times a.index (entries_answered xs)) parts ∙ counts a.index a.index (entries_answered (drop 1 h.pending)) (same_index a.index) in
    let all = step.each a.index in
    some_out h.agent.machine.out a.index (omega (arith, first, all))
