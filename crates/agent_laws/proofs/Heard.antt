-- Heard: what a house does follows from the machine, the forest, the standings and the beginnings of its agent. For
-- `a_house_shows_no_credential`.
use Rattle.std.proofs.Common.{◌≡◌, ◌∙◌, ℕ, Bool, true, false, inl, inr, List, [], ◌∷◌, Option, Some, None, Result, ap, map, refl, subst, sym, Ok, Err, option_map}
use Rattle.std.specs.Prelude.{Vec}
use Rattle.std.specs.{declared.alloc.AllocError.AllocError, declared.alloc.Global.Global}
use Rattle.agent_standing.specs.{Agent.Agent, declared.standing.EntryStanding.EntryStanding}
use Rattle.agent_answers.specs.{declared.asked.ClientOrder.ClientOrder, declared.control.Control.Control, declared.heads.Heads.Heads, declared.lines.RequestLines.RequestLines, declared.onlookers.Onlookers.Onlookers}
use Rattle.agent_answers.specs.{declared.wanted.Wanted.Wanted, declared.went.Went.Went}
use Rattle.agent_answers.specs.Controlling.{FirstIsReplied, RepliesTo, ShownIf}
use Rattle.agent_answers.specs.Onlooking.{FirstIsSent, IsSentIf, OneIsSent, question_of}
use Rattle.agent_answers.specs.declared.wanted.Wanted.TheVariants as wanted
use Rattle.state_changes.specs.declared.row.Row.{Row}
use Rattle.base_clients.specs.{Doors.DoorLog, Tables.GuestTable, Tables.first_asked, declared.talk.TalkCall.TalkCall}
use Rattle.base_clock.specs.declared.reading.Reading.{Reading}
use Rattle.base_device.specs.declared.tried.Tried.{Tried}
use Rattle.base_disk.specs.{State.DiskState, declared.fault.DiskFault.DiskFault}
use Rattle.agent_ends.specs.declared.file.EndsFile.{EndsFile}
use Rattle.vault_inventory.specs.Inventories.{Inventory}
use Rattle.program_lines.specs.Text.{name_of}
use Rattle.agent_pages.specs.{Answers.IsAnswer, Answers.IsTold, Naming.Around, Naming.named_by, declared.asked.Page.Page, declared.board.Board.Board}
use Rattle.agent_pages.specs.Board.{board_of, row_of, rows_of, served_rows}
use Rattle.agent_turns.specs.Neighbours.{AllCalled, Answer, End, Needs, NeighbourCall, Step, Thing, Time, Want}
use Rattle.vault_proving.specs.declared.verdict.Verdict.{Verdict}
use Rattle.plan_forest.specs.Forest.{Forest}
use Rattle.watch_machine.specs.{Outlook.broker_now, State.WatchState, declared.outlook.Next.Next}
use Rattle.agent_log.specs.{LinesOfClocks.memory_line, LinesOfClocks.trouble_at, LinesOfNexts.next_lines, Marks.mark_at, Marks.with_trouble, Sockets.need_log_line, declared.mark.Mark.Mark, declared.mark.Want.Want as Lack}
use Rattle.agent_log.specs.Lines.{AreSaid, IsSaid, Line}
use Rattle.agent_log.specs.LinesBehind.{ahead_line, steps_in_count, steps_in_lines, with_steps}
use Rattle.agent_log.specs.LogDesk.{Desk, HearsWant, SaysLines}
use Rattle.agent_log.specs.Wants.{HearsTimeBy, HearsUnmade, HearsWantingBy, SaysWant}
use Rattle.agent_log.specs.declared.mark.Want.TheVariants.{Passing, Said, Unsaid}
use Rattle.agent_words.specs.{Moments.now_of, Outcomes.Why, Telling.IsNeedReply}
use Rattle.agent_ledger.specs.Keeping.{KeepCall}
use Rattle.agent_house.specs.{Behind.stepped, Awaiting.HearsFor, Awaiting.VerdictIs, Ends.EndsGoOn, Ends.KeepsEnds, Retries.keeps_in, Looks.LooksAround, Nexts.HearsNext, Nexts.next_there, declared.given.Awaited.Awaited}
use Rattle.agent_house.specs.{declared.given.Given.Given, declared.house.House.House}
use Rattle.agent_house.specs.Commands.{AsksFor, AsksIf, CarriesIf, GoesOnIf, GoesOnWithClients, LacksMemory, SettlesBy, TellsNeed, reach_of_need}
use Rattle.agent_house.specs.Doing.{HearsOf, HearsServedIf, HouseGoesOn, SettlesChange}
use Rattle.agent_house.specs.Houses.{Attends, ClientIsSent, ClientsGoOn, OnlookersGoOn, SendsAside}
use Rattle.agent_house.specs.declared.given.Given.TheVariants as givens
use Rattle.agent_laws.specs.Alike.{AgentsAreAlike}
use Rattle.agent_laws.specs.Heard.{AreBothAlike, Both, BothGoOn, BothHear, BothRest, BothSettle, Does, IsBothAlike, NeitherGives, of_one, of_other}
use Rattle.agent_laws.proofs.Asks.{asked_for, settled_given}
use Rattle.agent_laws.proofs.Alike.{answered_alike, bare, carried_alike, clocked_alike, marks_alike, next_alike, same, shorts_alike}

module _ (a b : Agent) (alike : AgentsAreAlike a b) where
  -- ---- what is said

  now_same : now_of b.machine ≡ now_of a.machine
  now_same = ap now_of alike.machine

  says : (la lb : List Line) (ma mb : List Mark) (old new : Desk) → lb ≡ la → mb ≡ ma → SaysLines a la ma old new → SaysLines b lb mb old new
  says la lb ma mb old new lines marks x = record {
    said = subst (λ (n : ℕ). AreSaid old.form n lb old.room new.room) (sym now_same) (subst (λ (l : List Line). AreSaid old.form (now_of a.machine) l old.room new.room) (sym lines) x.said);
    rest = subst (λ (m : List Mark). new ≡ record old { room = new.room; marks = m }) (sym marks) x.rest;
  }

  pub says_so : (l : List Line) (m : List Mark) (old new : Desk) → SaysLines a l m old new → SaysLines b l m old new
  says_so l m old new x = says l l m m old new refl refl x

  says_lack : (left : Lack) (old new : Desk) → SaysWant a left old new → SaysWant b left old new
  says_lack left old new x = record { is_said = x.is_said; line = subst (λ (n : ℕ). IsSaid x.is_said old.form n memory_line old.room new.room) (sym now_same) x.line; rest = x.rest }

  lacks : (w : Lack) (old new : Desk) → HearsWantingBy w a old new → HearsWantingBy w b old new
  lacks Said old new x = x
  lacks Passing old new x = x
  lacks _ old new x = says_lack Said old new x

  passes : (w : Lack) (old new : Desk) → HearsTimeBy w a old new → HearsTimeBy w b old new
  passes Unsaid old new x = says_lack Passing old new x
  passes _ old new x = x

  unmade : (is_made : Bool) (old new : Desk) → HearsUnmade is_made a old new → HearsUnmade is_made b old new
  unmade true old new x = x
  unmade false old new x = lacks old.want old new x

  wants : (enough : Bool) (old new : Desk) → HearsWant a enough old new → HearsWant b enough old new
  wants true old new x = x
  wants false old new x = says_so (memory_line ∷ []) old.marks old new x

  module _ {S T D K E : Type 0} where
    nexts : (next : Option (Option Next)) (old new : House S T D K E) → HearsNext a next old new → HearsNext b next old new
    nexts None old new x = x
    nexts (Some next) old new x =
        let there : next_there b.machine next ≡ next_there a.machine next = ap (λ (m : WatchState). next_there m next) alike.machine in record {
          desk = says (next_lines a old.next (next_there a.machine next)) (next_lines b old.next (next_there b.machine next)) old.desk.marks old.desk.marks old.desk new.desk (next_alike a b alike old.next next) refl x.desk;
          rest = subst (λ (n : Option Next). new ≡ record old { desk = new.desk; next = Some n }) (sym there) x.rest;
        }

    pub heard : (thing : Thing) (old new : House S T D K E) → HearsOf a thing old new → HearsOf b thing old new
    heard (Time notes requests next) old new x = record {
      timed = x.timed;
      desk = x.desk;
      time = passes old.desk.want old.desk x.timed x.time;
      clock = says _ _ _ _ x.timed x.desk (clocked_alike a b alike notes requests x.timed.marks) (marks_alike a b alike x.timed.marks) x.clock;
      then = nexts next (record old { desk = x.desk }) new x.then;
    }
    heard (Needs (Some shorts)) old new x = (says _ _ _ _ old.desk new.desk (shorts_alike a b alike shorts) refl x.0, x.1)
    heard (Needs None) old new x = (lacks old.desk.want old.desk new.desk x.0, x.1)
    heard (Answer entry operation said notes) old new x = (
      says _ _ _ _ old.desk new.desk (answered_alike old.desk.place a b alike entry operation said notes (mark_at old.desk.marks entry).trouble)
          (same (λ m f xs. with_trouble entry (trouble_at (bare m f xs) entry) old.desk.marks) a b alike) x.0,
      x.1,
    )
    heard (End entry end) old new x = (says _ _ _ _ old.desk new.desk (same (λ m f xs. ahead_line (bare m f xs) entry end ∷ []) a b alike) refl x.0, x.1)
    heard (Step lead requests) old new x = (
      says _ _ _ _ old.desk new.desk (same (λ m f xs. steps_in_lines (bare m f xs) lead old.desk.marks requests) a b alike) (ap (λ (m : WatchState). with_steps m lead requests old.desk.marks) alike.machine) x.0,
      subst (λ (m : WatchState). new ≡ record old { desk = new.desk; standby = stepped (steps_in_count m lead old.desk.marks requests) old.standby }) (sym alike.machine) x.1,
    )
    heard Want old new x = (lacks old.desk.want old.desk new.desk x.0, x.1)

    -- ---- what is settled

    sends : (sent : Option (List ℕ)) (now : ℕ) (old new : House S T D K E) → ClientIsSent a sent now old new → ClientIsSent b sent now old new
    sends sent now old new x = record { client = x.client; desk = wants _ old.desk new.desk x.desk; rest = x.rest }

    sends_aside : (client : Option ℕ) (sent : Option (List ℕ)) (now : ℕ) (old new : House S T D K E) → SendsAside a client sent now old new → SendsAside b client sent now old new
    sends_aside client sent now old new x = record { answered = x.answered; desk = wants _ old.desk new.desk x.desk; rest = x.rest }

    module _ (does : KeepCall → K → K → Type 0) (keeps : K → Bool) where
      settles : (is_made : Bool) (given : Option Given) (old new : House S T D K E) → SettlesBy does keeps a is_made given old new → SettlesBy does keeps b is_made given old new
      settles is_made None old new x = x
      settles true (Some (givens.Need need)) old new x =
          subst (λ (f : Forest). TellsNeed keeps b (name_of f need.entry) (reach_of_need b.machine need.entry need.until) need.until need.at old new) (sym alike.forest) (record {
            desk = x.desk;
            heard = says_so (need_log_line (name_of a.inventory.forest need.entry) need.until ∷ []) old.desk.marks old.desk x.desk x.heard;
            line = x.line;
            says = x.says;
            sent = x.sent;
            reply = subst (λ (r : Option ℕ). IsNeedReply (keeps_in keeps old.state) r x.line x.sent) (ap (λ (m : WatchState). reach_of_need m need.entry need.until) (sym alike.machine)) x.reply;
            sends = sends x.sent need.at (record old { desk = x.desk }) new x.sends;
          })
      settles false (Some (givens.Need need)) old new x = x
      settles true (Some (givens.Answer sent at)) old new x = sends sent at old new x
      settles false (Some (givens.Answer sent at)) old new x = x
      settles true (Some (givens.Aside aside)) old new x = sends_aside aside.client aside.sent aside.at old new x
      settles false (Some (givens.Aside aside)) old new x = x
      settles true (Some (givens.Served marks)) old new x = (x.0, subst (λ (m : List Mark). new ≡ record old { state = new.state; desk = record old.desk { marks = m } }) (sym (carried_alike a b alike _)) x.1)
      settles false (Some (givens.Served marks)) old new x = x
      settles true (Some givens.Unchanged) old new x = x
      settles false (Some givens.Unchanged) old new x = x

      pub settled : (is_made : Bool) (old new : House S T D K E) → SettlesChange does keeps a is_made old new → SettlesChange does keeps b is_made old new
      settled is_made old new x = record {
        heard = x.heard;
        settled = x.settled;
        served = x.served;
        settles = settles is_made x.heard.given (record x.heard { given = None }) x.settled x.settles;
        unmade = unmade is_made x.settled.desk new.desk x.unmade;
        rest = x.rest;
      }

-- ---- where no change is given

module _ (a b : Agent) (alike : AgentsAreAlike a b) {S T D K E : Type 0} (does : KeepCall → K → K → Type 0) (rows : K → List Row) (keeps : K → Bool) (path : K → List ℕ) (reads : K → List ℕ → Result Row Why → Type 0)
    (gives : ℕ → Result (Option Inventory) AllocError → K → Type 0) (now : Reading) where
  abbrev Lacks : Agent → House S T D K E → House S T D K E → Type 0
  Lacks agent old new = LacksMemory does rows keeps path reads gives agent now None old new

  lacks_memory : (old new : House S T D K E) → Lacks a old new → Lacks b old new
  lacks_memory old new h = (h.0, (says_so a b alike (memory_line ∷ []) old.desk.marks old.desk new.desk h.1.0, h.1.1))

  verdict_none : (w : Awaited) (verdict : Result (Option Verdict) AllocError) (old new : House S T D K E) → VerdictIs does rows a now w verdict false old new → VerdictIs does rows b now w verdict false old new
  verdict_none w (Ok None) old new h = h
  verdict_none w (Ok (Some verdict)) old new h = absurd (let clash : false ≡ true = h.0 in cc)
  verdict_none w (Err e) old new h = absurd (let clash : false ≡ true = h.0 in cc)

  hears_none : (awaited : Option Awaited) (old new : House S T D K E) → HearsFor does rows a now awaited false old new → HearsFor does rows b now awaited false old new
  hears_none None old new h = h
  hears_none (Some w) old new h = record { verdict = h.verdict; state = h.state; proves = h.proves; then = verdict_none w h.verdict (record old { awaited = None; state = h.state }) new h.then }

  carries_none : (asked : Result (Option ClientOrder) AllocError) (old new : House S T D K E) → CarriesIf does rows keeps path reads gives a now asked None old new → CarriesIf does rows keeps path reads gives b now asked None old new
  carries_none (Ok None) old new h = h
  carries_none (Ok (Some it)) old new h = absurd h
  carries_none (Err e) old new h = lacks_memory old new h

  goes_on_none : (is : Bool) (old mid new : House S T D K E) → HearsFor does rows a now old.awaited is old mid → GoesOnIf does rows keeps path reads gives a now is None mid new → GoesOnWithClients does rows keeps path reads gives b now None old new
  goes_on_none true old mid new hears h = absurd (let clash = h.0 in cc)
  goes_on_none false old mid new hears h = record {
    heard = false;
    mid = mid;
    hears = hears_none old.awaited old mid hears;
    then = record { asked = h.asked; control = h.control; clients = h.clients; tried = h.tried; tries = h.tries; then = carries_none h.asked h.tried new h.then };
  }

  asks_none : (due : Result (Option (Inventory × Vec Mark Global)) AllocError) (old new : House S T D K E) → AsksIf does rows keeps path reads gives a now due None old new → AsksIf does rows keeps path reads gives b now due None old new
  asks_none (Ok None) old new h = goes_on_none h.heard old h.mid new h.hears h.then
  asks_none (Ok (Some p)) old new h = absurd (let clash = h.0 in cc)
  asks_none (Err e) old new h = lacks_memory old new h

  pub none_given_alike : (old new : House S T D K E) → AsksFor does rows keeps path reads gives a now None old new → AsksFor does rows keeps path reads gives b now None old new
  none_given_alike old new h = (h.0, (h.1.0, asks_none h.0 old new h.1.1))

-- ---- what is shown

module _ (a b : Agent) (around more : Around) (boards : board_of b more ≡ board_of a around) where
  shown_if : (enough : Bool) (page : Page) (sent : List ℕ) → ShownIf enough a around page sent → ShownIf enough b more page sent
  shown_if true page sent x = (x.0, subst (λ (board : Board). IsTold board page x.0) (sym boards) x.1, x.2)
  shown_if false page sent x = x

  replies : {T : Type 0} (now : Reading) (it : Wanted) (enough : Bool) (old new : GuestTable T RequestLines) → RepliesTo a around now it enough old new → RepliesTo b more now it enough old new
  replies now (wanted.Show page) enough old new h = (h.0, (shown_if enough page h.0 h.1.0, h.1.1))
  replies now _ enough old new h = h

  first_replied : {T : Type 0} (now : Reading) (first : Option (List ℕ)) (enough : Bool) (old new : GuestTable T RequestLines) → FirstIsReplied a around now first enough old new → FirstIsReplied b more now first enough old new
  first_replied now None enough old new h = h
  first_replied now (Some bytes) enough old new (inl h) = inl (h.0, (h.1.0, replies now h.0 enough old new h.1.1))
  first_replied now (Some bytes) enough old new (inr h) = inr h

  sent_if : (enough : Bool) (bytes sent : List ℕ) → IsSentIf enough a around bytes sent → IsSentIf enough b more bytes sent
  sent_if true bytes sent (asked, answer, ask, is, bytes_are) = (asked, answer, ask, subst (λ (board : Board). IsAnswer board (question_of asked) answer) (sym boards) is, bytes_are)
  sent_if false bytes sent x = x

  first_sent : {T : Type 0} (now : ℕ) (first : Option (List ℕ)) (enough : Bool) (old new : GuestTable T Heads) → FirstIsSent a around now first enough old new → FirstIsSent b more now first enough old new
  first_sent now None enough old new h = h
  first_sent now (Some bytes) enough old new h = (h.0, (sent_if enough bytes h.0 h.1.0, h.1.1))

  one_sent : {T : Type 0} (is_due : Bool) (now : ℕ) (enough : Bool) (old new : GuestTable T Heads) → OneIsSent is_due a around now enough old new → OneIsSent is_due b more now enough old new
  one_sent true now enough old new h = first_sent now (first_asked old) enough old new h
  one_sent false now enough old new h = h

  module _ {T D : Type 0} (remaining written : T → Option (List ℕ)) (calls : T → Option (List TalkCall)) (log : D → Option (DoorLog T)) (now : Reading) (went : Went) where
    pub onlookers : (old new : Option (Onlookers T D)) → OnlookersGoOn remaining written calls log a around now went old new → OnlookersGoOn remaining written calls log b more now went old new
    onlookers None new h = h
    onlookers (Some old) None h = absurd h
    onlookers (Some old) (Some new) h = record {
      turned = h.turned;
      turned_enough = h.turned_enough;
      sent_enough = h.sent_enough;
      turn = h.turn;
      one = one_sent _ now.elapsed h.sent_enough h.turned new.clients h.one;
      rest = h.rest;
      busy = h.busy;
      enough = h.enough;
    }

    pub clients : (old new : Option (Control T D)) → ClientsGoOn remaining written calls log a around now went old new → ClientsGoOn remaining written calls log b more now went old new
    clients None new h = h
    clients (Some old) None h = absurd h
    clients (Some old) (Some new) h = record {
      turned = h.turned;
      turned_enough = h.turned_enough;
      sent_enough = h.sent_enough;
      turn = h.turn;
      one = first_replied now (first_asked h.turned) h.sent_enough h.turned new.clients h.one;
      asking = h.asking;
      busy = h.busy;
      enough = h.enough;
    }

module _ (a b : Agent) (alike : AgentsAreAlike a b) (begun : b.beginnings ≡ a.beginnings) where
  board_same : (around : Around) → board_of b around ≡ board_of a around
  unfolding rows_of served_rows row_of
  board_same around =
      let shown : WatchState → Forest → List EntryStanding → ℕ → Board = λ m f xs n.
      let g : Agent = record { machine = m; inventory = record { forest = f; credentials = []; terms = [] }; standings = xs; beginnings = n } in
      record { surroundings = around.surroundings; broker_now = broker_now m; beginnings = n; margin = f.margin; rows = rows_of g (map named_by around.named) } in
      ap (λ m. shown m b.inventory.forest b.standings b.beginnings) alike.machine
      ∙ ap (λ f. shown a.machine f b.standings b.beginnings) alike.forest
      ∙ ap (λ xs. shown a.machine a.inventory.forest xs b.beginnings) alike.standings
      ∙ ap (λ n. shown a.machine a.inventory.forest a.standings n) begun

  module _ {S T D K E : Type 0} (given : S → Option (List ℕ)) (failures tries : S → ℕ) (tried : S → Option (List Tried)) (remaining written : T → Option (List ℕ)) (calls : T → Option (List TalkCall)) (log : D → Option (DoorLog T))
      (does : KeepCall → K → K → Type 0) (rows : K → List Row) (keeps : K → Bool) (path : K → List ℕ) (reads : K → List ℕ → Result Row Why → Type 0) (gives : ℕ → Result (Option Inventory) AllocError → K → Type 0)
      (known : Bool) (state : E → DiskState) (now : Reading) where
    pub attended : (goes_on : Bool) (old new : House S T D K E) → Attends given failures tries tried remaining written calls log rows keeps a now goes_on old new → Attends given failures tries tried remaining written calls log rows keeps b now goes_on old new
    attended goes_on old new h = record {
      room = h.room;
      rooms = h.rooms;
      fed = h.fed;
      is_more = h.is_more;
      shown = h.shown;
      answered = h.answered;
      gives = h.gives;
      few = h.few;
      follow = h.follow;
      around = h.around;
      around_is = h.around_is;
      onlookers = onlookers a b h.around h.around (board_same h.around) remaining written calls log now h.shown old.onlookers new.onlookers h.onlookers;
      clients = clients a b h.around h.around (board_same h.around) remaining written calls log now h.answered h.fed new.control h.clients;
      desk = wants a b alike _ (record old.desk { room = h.rooms }) new.desk h.desk;
      rest = h.rest;
      more = h.more;
    }

    ends_on : (result : Option (Result (Unit {0}) DiskFault)) (old new : Option (EndsFile E)) → old ≡ None → EndsGoOn known state a now.elapsed result old new → EndsGoOn known state b now.elapsed result old new
    ends_on result None new none h = h
    ends_on result (Some old) new none h = absurd cc

    keeps_ends : (old new : House S T D K E) → old.ends ≡ None → KeepsEnds known state a now.elapsed old new → KeepsEnds known state b now.elapsed old new
    keeps_ends old new none h = record { tried = h.tried; ends = ends_on h.tried old.ends new.ends none h.ends; desk = says_so a b alike _ old.desk.marks old.desk new.desk h.desk; rest = h.rest }

    looks : (goes_on : Bool) (old new : House S T D K E) → LooksAround does a now goes_on old new → LooksAround does b now goes_on old new
    looks goes_on old new h = record { look = h.look; asks = h.asks; desk = says_so a b alike _ old.desk.marks old.desk new.desk h.desk; rest = h.rest; more = h.more }

    pub went_on : (is_busy : Bool) (old new : House S T D K E) → old.ends ≡ None → HouseGoesOn given failures tries tried remaining written calls log does rows keeps path reads gives known state a now is_busy old new →
        HouseGoesOn given failures tries tried remaining written calls log does rows keeps path reads gives known state b now is_busy old new
    went_on is_busy old new none h = record {
      kept = h.kept;
      looked = h.looked;
      goes_on = h.goes_on;
      is_more = h.is_more;
      ends = keeps_ends old h.kept none h.ends;
      look = looks h.goes_on h.kept h.looked h.look;
      attend = attended h.is_more h.looked new h.attend;
      busy = h.busy;
    }

-- ---- a stretch

none_mapped : {E : Type 0} (f : EndsFile E → EndsFile E) (o : Option (EndsFile E)) → o ≡ None → option_map f o ≡ None
none_mapped f None none = refl
none_mapped f (Some x) none = absurd cc

pub ends_none : {E : Type 0} (known : Bool) (state : E → DiskState) (agent : Agent) (now : ℕ) (tried : Option (Result (Unit {0}) DiskFault)) (old new : Option (EndsFile E)) → old ≡ None → EndsGoOn known state agent now tried old new → new ≡ None
ends_none known state agent now tried None new none h = h.1
ends_none known state agent now tried (Some old) new none h = absurd cc

-- a house without a file of the ends stays one
module _ {S T D K E : Type 0} where
  next_ends : (agent : Agent) (next : Option (Option Next)) (old new : House S T D K E) → HearsNext agent next old new → new.ends ≡ old.ends
  next_ends agent None old new h = ap (λ x. x.ends) h
  next_ends agent (Some next) old new h = ap (λ x. x.ends) h.rest

  pub heard_ends : (agent : Agent) (thing : Thing) (old new : House S T D K E) → old.ends ≡ None → HearsOf agent thing old new → new.ends ≡ None
  heard_ends agent (Time notes requests next) old new none h = next_ends agent next (record old { desk = h.desk }) new h.then ∙ none
  heard_ends agent (Needs (Some shorts)) old new none h = ap (λ x. x.ends) h.1 ∙ none
  heard_ends agent (Needs None) old new none h = ap (λ x. x.ends) h.1 ∙ none
  heard_ends agent (Answer entry operation said notes) old new none h = ap (λ x. x.ends) h.1 ∙ none_mapped _ old.ends none
  heard_ends agent (End entry end) old new none h = ap (λ x. x.ends) h.1 ∙ none_mapped _ old.ends none
  heard_ends agent (Step lead requests) old new none h = ap (λ x. x.ends) h.1 ∙ none
  heard_ends agent Want old new none h = ap (λ x. x.ends) h.1 ∙ none

  pub served_ends : (is : Bool) (old new : House S T D K E) → old.ends ≡ None → HearsServedIf is old new → new.ends ≡ None
  served_ends true old new none h = ap (λ x. x.ends) h ∙ none_mapped _ old.ends none
  served_ends false old new none h = ap (λ x. x.ends) h ∙ none

module _ {S T D K E : Type 0} (given : S → Option (List ℕ)) (failures tries : S → ℕ) (tried : S → Option (List Tried)) (remaining written : T → Option (List ℕ)) (calls : T → Option (List TalkCall)) (log : D → Option (DoorLog T))
    (does : KeepCall → K → K → Type 0) (rows : K → List Row) (keeps : K → Bool) (path : K → List ℕ) (reads : K → List ℕ → Result Row Why → Type 0) (gives : ℕ → Result (Option Inventory) AllocError → K → Type 0)
    (known : Bool) (state : E → DiskState) where
  abbrev Makes : NeighbourCall → House S T D K E → House S T D K E → Type 0
  Makes call old new = Does given failures tries tried remaining written calls log does rows keeps path reads gives known state call old new

  makes_alike : (call : Both) (old new : House S T D K E) → IsBothAlike call → old.ends ≡ None → Makes (of_one call) old new → Makes (of_other call) old new
  makes_alike (BothHear a b thing) old new alike none h = heard a b alike thing old new h
  makes_alike (BothGoOn a b now is_busy) old new alike none h = went_on a b alike.0 alike.1 given failures tries tried remaining written calls log does rows keeps path reads gives known state now is_busy old new none h
  makes_alike (NeitherGives a b now) old new alike none h = none_given_alike a b alike does rows keeps path reads gives now old new h
  makes_alike (BothSettle a b is_made) old new alike none h = settled a b alike does keeps is_made old new h
  makes_alike (BothRest now rest) old new alike none h = h

  makes_none : (call : Both) (old new : House S T D K E) → old.ends ≡ None → Makes (of_one call) old new → new.ends ≡ None
  makes_none (BothHear a b thing) old new none h = heard_ends a thing old new none h
  makes_none (BothGoOn a b now is_busy) old new none h =
      ap (λ x. x.ends) h.attend.rest ∙ ap (λ x. x.ends) h.look.rest ∙ ends_none known state a now.elapsed h.ends.tried old.ends h.kept.ends none h.ends.ends
  makes_none (NeitherGives a b now) old new none h = (asked_for does rows keeps path reads gives a now h.0 None old new h.1.1).ends ∙ none
  makes_none (BothSettle a b is_made) old new none h = ap (λ x. x.ends) h.rest ∙ (settled_given does keeps a is_made h.heard h.settled h.settles).ends ∙ served_ends _ old h.heard none h.served
  makes_none (BothRest now rest) old new none h = ap (λ x. x.ends) h.0 ∙ none

  pub stretch_alike : (made : List Both) (old new : House S T D K E) → AreBothAlike made → old.ends ≡ None → AllCalled Makes (map of_one made) old new → AllCalled Makes (map of_other made) old new
  stretch_alike [] old new alike none run = run
  stretch_alike (call ∷ made) old new alike none run = (run.0, (makes_alike call old run.0 alike.0 none run.1.0, stretch_alike made run.0 new alike.1 (makes_none call old run.0 none run.1.0) run.1.1))
