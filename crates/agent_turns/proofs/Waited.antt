-- Waited: a start waits pause after pause, and then its wait ends. For `wait_apart` and its parts.
use Rattle.std.proofs.Common.{◌≡◌, ℕ, ◌+◌, ◌≤◌, ◌<◌, Bool, true, false, not, ◌||◌, List, [], ◌∷◌, ◌++◌, Option, Some, None, append-nil, length, refl, sym, subst, arith}
use Rattle.std.proofs.lemmas.{List.flat_map_more, List.length-append, List.Elements.All-nil, List.Elements.All-push}
use Rattle.std.specs.List.{All, flat_map}
use Rattle.agent_standing.specs.Agent.{Agent}
use Rattle.base_clock.specs.{declared.call.ClockCall.ClockCall, declared.call.ClockCall.TheVariants.Wait, declared.reading.Reading.Reading}
use Rattle.base_clock.specs.Seen.{AllMade, ClockSeen, read_call}
use Rattle.base_clock.proofs.Joined.{joined_law, none_law}
use Rattle.agent_turns.specs.{Held.IsInStep, Held.ServingSide, code.Pauses.IsEnded, code.Pauses.IsPausedApart, declared.change.AgentChange.AgentChange}
use Rattle.agent_turns.specs.Apart.{Changed, Ending, EndsAfter, EndsBy, IsPause, IsWaitedApart, Over, Pause, AreShown, IsShown, Spent, Unread, Waited, all_called, all_clocked, all_given, called_at, called_by, called_in, clocked_at, clocked_in, given_at, goes_on, is_change_kept, pause_by, told_by}
use Rattle.agent_turns.specs.Changes.{AllGiven, ChangeIsMade, MadeChange, given_by}
use Rattle.agent_turns.specs.Neighbours.{AllCalled, Give, GoOn, NeighbourCall, Settle}
use Rattle.agent_turns.specs.declared.change.AgentChange.TheVariants.{Need, Begin, Known, Serve, Kept}
use Rattle.agent_turns.proofs.{Called.called_join, Called.called_twice, Changed.given_join, Changed.made_keeps, Turned.given_none}

-- ---- one pause

pub ended_over : {N : Type 0} → (does : NeighbourCall → N → N → Type 0) (until : ℕ) (r : Reading) (seen : Agent) (s : ServingSide) (g : Option (List AgentChange)) (a : N) → until ≤ r.elapsed → IsEnded does until (Some r) seen s s g g a a
ended_over does until r seen s g a over = record { ending = Over r; read = refl; shows = tt; is = (over, refl); gives = given_none g; calls = refl }

-- no change is given
pub paused_without :
    {N : Type 0} → (does : NeighbourCall → N → N → Type 0) (until millis : ℕ) (is_busy : Bool) (r : Reading) (seen shown : Agent) (s : ServingSide) (g h : Option (List AgentChange)) (a b c : N) → r.elapsed < until → millis ≡ pause_by is_busy until r → IsShown r seen shown →
    does (GoOn shown r is_busy) a b → does (Give shown r None) b c → AllGiven [] g h → IsPausedApart does until (Some r) millis seen shown s s g h a c
paused_without does until millis is_busy r seen shown s g h a b c before waits shows went gave given =
    record {
      pause = record { reading = r; shown = shown; is_busy = is_busy; made = None; millis = millis };
      read = refl;
      waits = refl;
      is = record { before = before; on = refl; waits = waits };
      shows = shows;
      shown_is = refl;
      same = refl;
      gives = given;
      calls = called_twice does (GoOn shown r is_busy) (Give shown r None) a b c went gave;
    }

-- what is not made now changes nothing
still : (change : AgentChange) (is_made : Bool) (old new : ServingSide) → ChangeIsMade change is_made old new → is_change_kept change || not is_made ≡ true → new ≡ old
still change false old new made on = made.1
still Kept true old new made on = made
still _ true old new made on = absurd (let e : false ≡ true = on in cc)

-- the calls of a pause in which a change is given
called_for_one :
    {N : Type 0} → (does : NeighbourCall → N → N → Type 0) (shown own : Agent) (r : Reading) (is_busy : Bool) (change : AgentChange) (is_made : Bool) (a b c d : N) → does (GoOn shown r is_busy) a b → does (Give shown r (Some change)) b c →
    does (Settle (told_by shown own change) is_made) c d → AllCalled does (called_by shown own r is_busy (Some (record { change = change; is_made = is_made }))) a d
called_for_one does shown own r is_busy change is_made a b c d went gave settled = (b, (went, called_twice does (Give shown r (Some change)) (Settle (told_by shown own change) is_made) b c d gave settled))

-- before the change was given and after it nothing else was
pub given_once : (change : AgentChange) (g h k l : Option (List AgentChange)) → h ≡ g → AllGiven (change ∷ []) h k → l ≡ k → AllGiven (change ∷ []) g l
given_once change g h k l went gave settled = subst (λ x. AllGiven (change ∷ []) g x) (sym settled) (subst (λ x. AllGiven (change ∷ []) x k) went gave)

pub paused_with :
    {N : Type 0} → (does : NeighbourCall → N → N → Type 0) (until millis : ℕ) (is_busy : Bool) (r : Reading) (seen shown : Agent) (change : AgentChange) (is_made : Bool) (old new : ServingSide) (g h : Option (List AgentChange)) (a b c d : N) → r.elapsed < until →
    millis ≡ pause_by (is_made || is_busy) until r → IsShown r seen shown → ChangeIsMade change is_made old new → true ≡ goes_on (Some (record { change = change; is_made = is_made })) → does (GoOn shown r is_busy) a b → does (Give shown r (Some change)) b c →
    does (Settle (told_by shown new.held.agent change) is_made) c d → AllGiven (change ∷ []) g h → IsPausedApart does until (Some r) millis seen shown old new g h a d
paused_with does until millis is_busy r seen shown change is_made old new g h a b c d before waits shows made on went gave settled given =
    let same = still change is_made old new made (sym on) in
    record {
      pause = record { reading = r; shown = shown; is_busy = is_busy; made = Some (record { change = change; is_made = is_made }); millis = millis };
      read = refl;
      waits = refl;
      is = record { before = before; on = sym on; waits = waits };
      shows = shows;
      shown_is = refl;
      same = same;
      gives = given;
      calls = called_for_one does shown old.held.agent r is_busy change is_made a b c d went gave (subst (λ (x : ServingSide). does (Settle (told_by shown x.held.agent change) is_made) c d) same settled);
    }

-- a change is made now
changes_now : (change : AgentChange) (is_made : Bool) → false ≡ goes_on (Some (record { change = change; is_made = is_made })) → (is_change_kept change ≡ false) × (is_made ≡ true)
changes_now Kept true on = absurd (let e : false ≡ true = on in cc)
changes_now (Need i end) false on = absurd (let e : false ≡ true = on in cc)
changes_now Begin false on = absurd (let e : false ≡ true = on in cc)
changes_now (Known i end renewable) false on = absurd (let e : false ≡ true = on in cc)
changes_now (Serve s) false on = absurd (let e : false ≡ true = on in cc)
changes_now Kept false on = absurd (let e : false ≡ true = on in cc)
changes_now _ true on = (refl, refl)

pub ended_changed :
    {N : Type 0} → (does : NeighbourCall → N → N → Type 0) (until : ℕ) (is_busy : Bool) (r : Reading) (seen shown : Agent) (change : AgentChange) (is_made : Bool) (old new : ServingSide) (g h : Option (List AgentChange)) (a b c d : N) → r.elapsed < until →
    IsShown r seen shown → ChangeIsMade change is_made old new → false ≡ goes_on (Some (record { change = change; is_made = is_made })) → does (GoOn shown r is_busy) a b → does (Give shown r (Some change)) b c →
    does (Settle (told_by shown new.held.agent change) is_made) c d → AllGiven (change ∷ []) g h → IsEnded does until (Some r) seen old new g h a d
ended_changed does until is_busy r seen shown change is_made old new g h a b c d before shows made on went gave settled given =
    let now = changes_now change is_made on in
    record {
      ending = Changed r shown is_busy change;
      read = refl;
      shows = shows;
      is = (before, (now.0, subst (λ w. ChangeIsMade change w old new) now.1 made));
      gives = given;
      calls = subst (λ w. AllCalled does (called_by shown new.held.agent r is_busy (Some (record { change = change; is_made = w }))) a d) now.1 (called_for_one does shown new.held.agent r is_busy change is_made a b c d went gave settled);
    }

-- ---- all of them

-- all that some pauses did
pub record ArePaused {N : Type 0} (does : NeighbourCall → N → N → Type 0) (until count : ℕ) (own seen shown : Agent) (clock clock_now : ClockSeen) (before given : Option (List AgentChange)) (a b : N) : Type 0 where
  pub pauses : List Pause
  pub count_is : length pauses ≡ count
  pub all : All (IsPause until) pauses
  pub shows : AreShown pauses seen shown
  pub clocked : AllMade (flat_map clocked_in pauses) clock clock_now
  pub gives : AllGiven (flat_map (λ (p : Pause). given_by p.made) pauses) before given
  pub called : AllCalled does (flat_map (called_in own) pauses) a b

pub none_paused : {N : Type 0} → (does : NeighbourCall → N → N → Type 0) (until : ℕ) (own seen : Agent) (s : ClockSeen) (g : Option (List AgentChange)) (a : N) → ArePaused does until 0 own seen seen s s g g a a
none_paused does until own seen s g a = record { pauses = []; count_is = refl; all = All-nil (IsPause until); shows = refl; clocked = none_law s; gives = given_none g; called = refl }

shown_more : (ps : List Pause) (p : Pause) (a b c : Agent) → AreShown ps a b → IsShown p.reading b p.shown → c ≡ p.shown → AreShown (ps ++ p ∷ []) a c
shown_more [] p a b c h one is = (subst (λ (x : Agent). IsShown p.reading x p.shown) h one, is)
shown_more (q ∷ qs) p a b c h one is = (h.0, shown_more qs p q.shown b c h.1 one is)

pub one_paused :
    {N : Type 0} → (does : NeighbourCall → N → N → Type 0) (until count millis : ℕ) (reading : Option Reading) (own seen mid shown : Agent) (old new : ServingSide) (s t u v : ClockSeen) (g h k : Option (List AgentChange)) (a b c : N) →
    ArePaused does until count own seen mid s t g h a b → old.held.agent ≡ own → AllMade (read_call reading ∷ []) t u → IsPausedApart does until reading millis mid shown old new h k b c → AllMade (Wait millis ∷ []) u v →
    ArePaused does until (count + 1) own seen shown s v g k a c
one_paused does until count millis reading own seen mid shown old new s t u v g h k a b c so_far own_is reads one waits =
    let ps = so_far.pauses in
    let p = one.pause in
    let more = length-append ps (p ∷ []) in
    let count_is = so_far.count_is in
    let read = subst (λ (x : Option Reading). AllMade (read_call x ∷ []) t u) one.read reads in
    let wait = subst (λ (x : ℕ). AllMade (Wait x ∷ []) u v) one.waits waits in
    let clocked = joined_law (flat_map clocked_in ps) (clocked_in p) s t v so_far.clocked (joined_law (read_call (Some p.reading) ∷ []) (Wait p.millis ∷ []) t u v read wait) in
    let calls = subst (λ (x : Agent). AllCalled does (called_in x p) b c) own_is one.calls in
    record {
      pauses = ps ++ p ∷ [];
      count_is = omega (arith, more, count_is);
      all = All-push (IsPause until) ps p so_far.all one.is;
      shows = shown_more ps p seen mid shown so_far.shows one.shows one.shown_is;
      clocked = subst (λ cs. AllMade cs s v) (flat_map_more clocked_in [] ps p) clocked;
      gives = subst (λ cs. AllGiven cs g k) (flat_map_more (λ (q : Pause). given_by q.made) [] ps p) (given_join (flat_map (λ (q : Pause). given_by q.made) ps) (given_by p.made) g h k so_far.gives one.gives);
      called = subst (λ xs. AllCalled does xs a c) (flat_map_more (called_in own) [] ps p) (called_join does (flat_map (called_in own) ps) (called_in own p) a b c so_far.called calls);
    }

-- all that a wait did
abbrev pub HasWaited : {N : Type 0} → (NeighbourCall → N → N → Type 0) → ℕ → ℕ → Agent → ServingSide → ServingSide → ClockSeen → ClockSeen → Option (List AgentChange) → Option (List AgentChange) → N → N → Type 0
HasWaited does until most seen old new s t g h a b =
    (w : Waited) × (IsWaitedApart until most seen old w new × (AllMade (all_clocked w) s t × (AllGiven (all_given w) g h × AllCalled does (all_called old.held.agent new.held.agent w) a b)))

pub waited_long :
    {N : Type 0} → (does : NeighbourCall → N → N → Type 0) (until most : ℕ) (seen shown : Agent) (old new : ServingSide) (s t : ClockSeen) (g h : Option (List AgentChange)) (a b : N) → ArePaused does until most old.held.agent seen shown s t g h a b → new ≡ old →
    HasWaited does until most seen old new s t g h a b
waited_long does until most seen shown old new s t g h a b all same =
    let ps = all.pauses in (
      record { pauses = ps; ending = Spent },
      (
        record { pauses = all.all; last = shown; shows = all.shows; shows_at = tt; after = all.count_is; ends = same },
        (
          subst (λ cs. AllMade cs s t) (sym (append-nil (flat_map clocked_in ps))) all.clocked,
          (
            subst (λ cs. AllGiven cs g h) (sym (append-nil (flat_map (λ (p : Pause). given_by p.made) ps))) all.gives,
            subst (λ xs. AllCalled does xs a b) (sym (append-nil (flat_map (called_in old.held.agent) ps))) all.called,
          ),
        ),
      ),
    )

-- one that reads the clocks comes before all pauses are spent
after_fewer : (pauses most : ℕ) (e : Ending) (call : ClockCall) → clocked_at e ≡ call ∷ [] → pauses < most → EndsAfter pauses most e
after_fewer pauses most Spent call is few = absurd (let e : clocked_at Spent ≡ call ∷ [] = is in cc)
after_fewer pauses most Unread call is few = few
after_fewer pauses most (Over r) call is few = few
after_fewer pauses most (Changed r shown is_busy change) call is few = few

pub waited_less :
    {N : Type 0} → (does : NeighbourCall → N → N → Type 0) (until most count : ℕ) (reading : Option Reading) (seen shown : Agent) (old mid new : ServingSide) (s t u : ClockSeen) (g h k : Option (List AgentChange)) (a b c : N) →
    ArePaused does until count old.held.agent seen shown s t g h a b → count < most → mid ≡ old → AllMade (read_call reading ∷ []) t u → IsEnded does until reading shown mid new h k b c → HasWaited does until most seen old new s u g k a c
waited_less does until most count reading seen shown old mid new s t u g h k a b c all few same reads one =
    let ps = all.pauses in
    let e = one.ending in
    let count_is = all.count_is in
    let read = subst (λ cs. AllMade cs t u) (sym one.read) reads in (
      record { pauses = ps; ending = e },
      (
        record {
          pauses = all.all;
          last = shown;
          shows = all.shows;
          shows_at = one.shows;
          after = after_fewer (length ps) most e (read_call reading) one.read (omega (arith, few, count_is));
          ends = subst (λ (x : ServingSide). EndsBy until e x new) same one.is;
        },
        (
          joined_law (flat_map clocked_in ps) (clocked_at e) s t u all.clocked read,
          (
            given_join (flat_map (λ (p : Pause). given_by p.made) ps) (given_at e) g h k all.gives one.gives,
            called_join does (flat_map (called_in old.held.agent) ps) (called_at new.held.agent e) a b c all.called one.calls,
          ),
        ),
      ),
    )

-- ---- in step

pub ended_in_step : (until width : ℕ) (e : Ending) (old new : ServingSide) → EndsBy until e old new → IsInStep width old.lanes.out old.held → IsInStep width new.lanes.out new.held
ended_in_step until width Spent old new ends step = subst (λ (s : ServingSide). IsInStep width s.lanes.out s.held) (sym ends) step
ended_in_step until width Unread old new ends step = subst (λ (s : ServingSide). IsInStep width s.lanes.out s.held) (sym ends) step
ended_in_step until width (Over r) old new ends step = subst (λ (s : ServingSide). IsInStep width s.lanes.out s.held) (sym ends.1) step
ended_in_step until width (Changed r shown is_busy change) old new ends step =
    let m : MadeChange = record { change = change; is_made = true } in
    made_keeps width (Some m) old new ends.1.1 step
