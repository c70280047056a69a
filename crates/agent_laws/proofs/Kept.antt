-- Kept: what whoever keeps changes is asked for, and what a client asks for, where that has other credentials. For `no_kept_credential_shows`.
use Rattle.std.proofs.Common.{◌≡◌, ◌∙◌, ◌⊎◌, ◌++◌, ℕ, Bool, true, false, inl, inr, List, [], ◌∷◌, Option, Some, None, Result, Ok, Err, ap, map, option_map, refl, subst, sym}
use Rattle.std.specs.Prelude.{IfSome, Vec, codes, is_ok}
use Rattle.std.specs.{Cmp.Lexicographic.bytes_decides, declared.alloc.AllocError.AllocError, declared.alloc.Global.Global}
use Rattle.agent_standing.specs.Agent.{Agent}
use Rattle.agent_answers.specs.declared.asked.ClientOrder.{ClientOrder}
use Rattle.agent_answers.specs.declared.asked.ClientOrder.TheVariants as asked
use Rattle.state_changes.specs.{Rows.named, declared.change.ChangeKind.ChangeKind, declared.row.Row.Row}
use Rattle.state_changes.specs.declared.change.ChangeKind.TheVariants as what
use Rattle.base_clock.specs.declared.reading.Reading.{Reading}
use Rattle.vault_inventory.specs.{Inventories.Inventory, declared.need.Need.Need, declared.terms.Terms.Terms}
use Rattle.vault_lanes.specs.declared.loss.Loss.{Loss}
use Rattle.vault_proving.specs.declared.verdict.Verdict.{Verdict}
use Rattle.vault_proving.specs.declared.verdict.Verdict.TheVariants as verdicts
use Rattle.plan_forest.specs.Forest.{Forest, index_named}
use Rattle.watch_machine.specs.Outlook.{broker_now}
use Rattle.agent_pages.specs.{Board.board_of, Board.rows_of, declared.board.Board.Board}
use Rattle.agent_pages.specs.Naming.{Around, Named, named_by}
use Rattle.agent_turns.specs.declared.change.AgentChange.{AgentChange}
use Rattle.agent_log.specs.{Lines.Line, LinesOfClocks.memory_line, LogDesk.Desk, LogDesk.HearsIf, LookupLosses.line_with_loss, Sockets.need_log_line, declared.mark.Mark.Mark}
use Rattle.agent_log.specs.Changed.{entry_log_line, fault_lines, reread_lines, settled_line}
use Rattle.agent_words.specs.declared.reread.Reread.{Reread}
use Rattle.agent_words.specs.Outcomes.{Outcome, SaysSo, Why, Whys, done_of}
use Rattle.agent_words.specs.Telling.{IsDropLine, reload_line, replaced_text, settle_line, until_of_need}
use Rattle.agent_words.specs.VerdictWords.{endless_words, kept_words, later_words, status_words}
use Rattle.agent_ledger.specs.{declared.keeping.FileLook.FileLook, declared.keeping.KeepNews.KeepNews, declared.keeping.LookedUp.LookedUp}
use Rattle.agent_ledger.specs.Keeping.{KeepCall, KeeperIsAsked, Look, LookUp, MarkServed, Prove, Reload, RestFor, Settle, Take, TryAgain}
use Rattle.agent_ledger.specs.declared.keeping.LookedUp.TheVariants as lookups
use Rattle.agent_house.specs.{Looks.AsksToLook, Rests.KeeperRests, declared.given.Awaited.Awaited, declared.given.Given.Given, declared.house.House.House}
use Rattle.agent_house.specs.Admitting.{AdmitsIf, FollowsLog, asking_in}
use Rattle.agent_house.specs.Awaiting.{AddsRow, HearsFor, IsAddedLine, IsRefusedFor, Judges, LooksUpBy, LooksUpFirst, LooksUpIf, Makes, ProvesBy, Replaces, VerdictIs}
use Rattle.agent_house.specs.Commands.{AddsIf, AsksFor, AsksIf, AsksToReload, CarriesIf, CarriesOut, DropsEntry, GivesNeed, GoesOnIf, InventoryIsDue, IsGivenWith, LacksMemory, NeedIsKept, Needs, NeedsIf, ReadsIf, ReadsRow, RereadBy, RereadIf, SettlesFile, StateIsServed, TakesIfThere, TakesNeedBy, TellsReload, end_named, path_if_kept}
use Rattle.agent_house.specs.Houses.{Concludes, WillRefuse, WillTell, named_in}
use Rattle.agent_house.specs.Retries.{KeeperTries, folder_in, folder_where, is_any_asked, keeps_in, read_badly, read_well}
use Rattle.agent_house.specs.declared.given.Given.TheVariants as givens
use Rattle.agent_laws.specs.Alike.{AgentsAreAlike}
use Rattle.agent_laws.specs.Decided.{IsPairing, row_beside, rows_beside}
use Rattle.agent_laws.specs.Keepers.{AreKeepersBeside, AsksSame, agent_beside, change_beside, house_beside, inventory_beside}
use Rattle.agent_laws.proofs.{Alike.end_alike, Decided.named_beside, Heard.says_so}

-- ---- agents, inventories and entries with other credentials

module _ (beside : List ℕ → List ℕ) where
  pub alike_beside : (a : Agent) → AgentsAreAlike a (agent_beside beside a)
  alike_beside a = record { machine = refl; forest = refl; standings = refl }

  hears_if : (is : Bool) (a : Agent) (l : Line) (old new : Desk) → HearsIf is a l old new → HearsIf is (agent_beside beside a) l old new
  hears_if true a l old new x = says_so a (agent_beside beside a) (alike_beside a) (l ∷ []) old.marks old new x
  hears_if false a l old new x = x

  -- what is told of an entry has no credential
  named_same : (rows : List Row) → map named_by (rows_beside beside rows) ≡ map named_by rows
  named_same [] = refl
  named_same (r ∷ rows) = ap (λ (l : List Named). named_by r ∷ l) (named_same rows)

  abbrev pub around_beside : Around → Around
  around_beside around = record around { named = rows_beside beside around.named }

  abbrev board_with : Agent → Around → List Named → Board
  board_with a around xs =
      record { surroundings = around.surroundings; broker_now = broker_now a.machine; beginnings = a.beginnings; margin = a.inventory.forest.margin; rows = rows_of a xs }

  pub boards : (a : Agent) (around : Around) → board_of a (around_beside around) ≡ board_of a around
  boards a around = ap (board_with a around) (named_same around.named)

  replaced_of : (name : List ℕ) (o : Option Row) → replaced_text name (option_map (row_beside beside) o) ≡ replaced_text name o
  replaced_of name None = refl
  replaced_of name (Some r) = refl

  replaced_same : (name : List ℕ) (rows : List Row) → replaced_text name (named (rows_beside beside rows) name) ≡ replaced_text name (named rows name)
  replaced_same name rows = ap (replaced_text name) (named_beside beside rows name) ∙ replaced_of name (named rows name)

  abbrev due_beside : Result (Option (Inventory × Vec Mark Global)) AllocError → Result (Option (Inventory × Vec Mark Global)) AllocError
  due_beside (Ok None) = Ok None
  due_beside (Ok (Some p)) = Ok (Some (inventory_beside beside p.0, p.1))
  due_beside (Err e) = Err e

  -- two inventories are equal only where those beside them are
  module _ (pairing : IsPairing beside) where
    credential_back : (c d : List ℕ) → beside c ≡ beside d → c ≡ d
    credential_back c d e = (bytes_decides c d).0 (sym (pairing c d) ∙ (bytes_decides (beside c) (beside d)).1 e)

    credentials_back : (cs ds : List (List ℕ)) → map beside cs ≡ map beside ds → cs ≡ ds
    credentials_back [] [] e = refl
    credentials_back [] (d ∷ ds) e = let no : ◌≡◌ {A = List (List ℕ)} [] (beside d ∷ map beside ds) = e in cc
    credentials_back (c ∷ cs) [] e = let no : ◌≡◌ {A = List (List ℕ)} (beside c ∷ map beside cs) [] = e in cc
    credentials_back (c ∷ cs) (d ∷ ds) e =
        let both : beside c ∷ map beside cs ≡ beside d ∷ map beside ds = e in
        let heads : beside c ≡ beside d = cc in
        let tails : map beside cs ≡ map beside ds = cc in
        ap (λ (x : List ℕ). x ∷ cs) (credential_back c d heads) ∙ ap (λ (l : List (List ℕ)). d ∷ l) (credentials_back cs ds tails)

    abbrev of_parts : Forest → List (List ℕ) → List Terms → Inventory
    of_parts f cs ts = record { forest = f; credentials = cs; terms = ts }

    inventory_back : (s t : Inventory) → inventory_beside beside s ≡ inventory_beside beside t → s ≡ t
    inventory_back s t e =
        ap (λ (f : Forest). of_parts f s.credentials s.terms) (ap (λ (x : Inventory). x.forest) e)
        ∙ ap (λ (cs : List (List ℕ)). of_parts t.forest cs s.terms) (credentials_back s.credentials t.credentials (ap (λ (x : Inventory). x.credentials) e))
        ∙ ap (λ (ts : List Terms). of_parts t.forest t.credentials ts) (ap (λ (x : Inventory). x.terms) e)

    given_with : (a : Agent) (s : Inventory) (marks : List Mark) (given : Option Given) → IsGivenWith a s marks given → IsGivenWith (agent_beside beside a) (inventory_beside beside s) marks given
    given_with a s marks None x = absurd x
    given_with a s marks (Some (givens.Served given)) x = ((λ e. x.0 (inventory_back s a.inventory e)), x.1)
    given_with a s marks (Some givens.Unchanged) x = ap (inventory_beside beside) x
    given_with a s marks (Some _) x = absurd x

-- ---- what whoever keeps changes is asked for

module _ {K : Type 0} (does : KeepCall → K → K → Type 0) (rows : K → List Row) (keeps : K → Bool) (path : K → List ℕ) (reads : K → List ℕ → Result Row Why → Type 0)
    (gives : ℕ → Result (Option Inventory) AllocError → K → Type 0) (beside : List ℕ → List ℕ) (other : K → K) (h : AreKeepersBeside does rows keeps path reads gives beside other) where
  says_same : (Says More : K → List ℕ → Type 0) → ((k : K) (line : List ℕ) → Says k line → More (other k) line) → (k : K) (outcome : Outcome) → SaysSo (Says k) outcome → SaysSo (More (other k)) outcome
  says_same Says More same k (Ok None) x = x
  says_same Says More same k (Ok (Some line)) x = same k line x
  says_same Says More same k (Err why) x = x

  asked_same : (call : Result (Unit {0}) Why → KeepCall) (Says More : K → List ℕ → Type 0) → ((k : K) (line : List ℕ) → Says k line → More (other k) line) → (outcome : Outcome) (old new : Option K) →
      KeeperIsAsked (AsksSame beside does) call Says outcome old new → KeeperIsAsked does call More outcome (option_map other old) (option_map other new)
  asked_same call Says More same outcome None new x = (ap (option_map other) x.0, x.1)
  asked_same call Says More same outcome (Some old) None x = absurd x
  asked_same call Says More same outcome (Some old) (Some new) x = (h.answers (call (done_of outcome)) old new x.0, says_same Says More same new outcome x.1)

  taken_if : (now : Reading) (name : List ℕ) (need : Need) (there result : Result (Unit {0}) Why) (old new : K) → TakesIfThere (AsksSame beside does) now name need there result old new → TakesIfThere does now name need there result (other old) (other new)
  taken_if now name need (Ok x) result old new t = h.answers (Take now.elapsed name (what.Need need) result) old new t
  taken_if now name need (Err why) result old new t = (t.0, ap other t.1)

  taken_by : (is : Bool) (a : Agent) (now : Reading) (name : List ℕ) (need : Need) (result : Result (Unit {0}) Why) (old new : K) →
      TakesNeedBy (AsksSame beside does) is a now name need result old new → TakesNeedBy does is (agent_beside beside a) now name need result (other old) (other new)
  taken_by is a now name need result old new (inl t) = inl (t.0, h.answers (Take now.elapsed name (what.Need need) result) old new t.1)
  taken_by is a now name need result old new (inr t) = inr (t.0, (t.1.0, (t.1.1.0, taken_if now name need t.1.0 result old new t.1.1.1)))

  need_kept : (a : Agent) (now : Reading) (name : List ℕ) (need : Need) (result : Result (Unit {0}) Why) (old new : Option K) →
      NeedIsKept (AsksSame beside does) keeps a now name need result old new → NeedIsKept does keeps (agent_beside beside a) now name need result (option_map other old) (option_map other new)
  need_kept a now name need result None new t = (t.0, ap (option_map other) t.1)
  need_kept a now name need result (Some old) None t = absurd t
  need_kept a now name need result (Some old) (Some new) t =
      subst (λ (b : Bool). TakesNeedBy does b (agent_beside beside a) now name need result (other old) (other new)) (sym (h.still old)) (taken_by (keeps old) a now name need result old new t)

  tried_again : (now : ℕ) (is_asked : Bool) (news : Option KeepNews) (old new : Option K) → KeeperTries (AsksSame beside does) now is_asked news old new → KeeperTries does now is_asked news (option_map other old) (option_map other new)
  tried_again now is_asked news None new t = (t.0, ap (option_map other) t.1)
  tried_again now is_asked news (Some old) None t = absurd t
  tried_again now is_asked news (Some old) (Some new) t = h.answers (TryAgain now is_asked news) old new t

  looked_up_by : (now : Reading) (name : List ℕ) (w : ChangeKind) (result : Result LookedUp AllocError) (old new : Option K) → LooksUpBy (AsksSame beside does) now name w result old new → LooksUpBy does now name w result (option_map other old) (option_map other new)
  looked_up_by now name w result None new t = (t.0, ap (option_map other) t.1)
  looked_up_by now name w result (Some old) None t = absurd t
  looked_up_by now name w result (Some old) (Some new) t = h.answers (LookUp now name w result) old new t

  proved_by : (now : ℕ) (result : Result (Option Verdict) AllocError) (old new : Option K) → ProvesBy (AsksSame beside does) now result old new → ProvesBy does now result (option_map other old) (option_map other new)
  proved_by now result None new t = (t.0, ap (option_map other) t.1)
  proved_by now result (Some old) None t = absurd t
  proved_by now result (Some old) (Some new) t = h.answers (Prove now result) old new t

  reload_asked : (now : Reading) (result : Option (Result Reread Whys)) (old new : K) → AsksToReload (AsksSame beside does) now result old new → AsksToReload does now result (other old) (other new)
  reload_asked now None old new t = absurd t
  reload_asked now (Some result) old new t = h.answers (Reload now.elapsed result) old new t

  reread_if : (is : Bool) (now : Reading) (result : Option (Result Reread Whys)) (old new : K) → RereadIf (AsksSame beside does) is now result old new → RereadIf does is now result (other old) (other new)
  reread_if is now result old new (inl t) = inl (t.0, reload_asked now result old new t.1)
  reread_if is now result old new (inr t) = inr (t.0, (t.1.0, ap other t.1.1))

  reread_by : (now : Reading) (result : Option (Result Reread Whys)) (old new : Option K) → RereadBy (AsksSame beside does) keeps now result old new → RereadBy does keeps now result (option_map other old) (option_map other new)
  reread_by now result None new t = (t.0, ap (option_map other) t.1)
  reread_by now result (Some old) None t = absurd t
  reread_by now result (Some old) (Some new) t = subst (λ (b : Bool). RereadIf does b now result (other old) (other new)) (sym (h.still old)) (reread_if (keeps old) now result old new t)

  pub marked_by : (old new : Option K) → StateIsServed (AsksSame beside does) old new → StateIsServed does (option_map other old) (option_map other new)
  marked_by None new t = ap (option_map other) t
  marked_by (Some old) None t = absurd t
  marked_by (Some old) (Some new) t = h.answers MarkServed old new t

  pub rests_so : (now : ℕ) (rest : Option ℕ) (k : Option K) → KeeperRests (AsksSame beside does) now rest k → KeeperRests does now rest (option_map other k)
  rests_so now rest None t = t
  rests_so now rest (Some k) t = h.answers (RestFor now rest) k k t

  pub looked_by : (now : Reading) (look : FileLook) (old new : Option K) → AsksToLook (AsksSame beside does) now look old new → AsksToLook does now look (option_map other old) (option_map other new)
  looked_by now look None new t = (t.0, ap (option_map other) t.1)
  looked_by now look (Some old) None t = absurd t
  looked_by now look (Some old) (Some new) t = h.answers (Look now look) old new t

  reads_if : (table : List ℕ) (row : Result Row Why) (k : Option K) → ReadsIf reads table row k → ReadsIf reads table row (option_map other k)
  reads_if table row None t = t
  reads_if table row (Some k) t = h.tables k table row t

  reads_row : (table : List ℕ) (row : Result Row Why) (k : Option K) → ReadsRow reads table row k → ReadsRow reads table row (option_map other k)
  reads_row table (Err None) k t = t
  reads_row table (Err (Some why)) k t = reads_if table (Err (Some why)) k t
  reads_row table (Ok row) k t = reads_if table (Ok row) k t

  pub keeps_same : (k : Option K) → keeps_in keeps (option_map other k) ≡ keeps_in keeps k
  keeps_same None = refl
  keeps_same (Some k) = h.still k

  pub folder_same : (k : Option K) → folder_in keeps (option_map other k) ≡ folder_in keeps k
  folder_same None = refl
  folder_same (Some k) = ap folder_where (h.still k)

  path_same : (k : Option K) → path_if_kept path (option_map other k) ≡ path_if_kept path k
  path_same None = refl
  path_same (Some k) = h.place k

  pub named_beside_in : (k : Option K) → named_in rows (option_map other k) ≡ rows_beside beside (named_in rows k)
  named_beside_in None = refl
  named_beside_in (Some k) = h.entries k

  is_due : (now : Reading) (due : Result (Option (Inventory × Vec Mark Global)) AllocError) (k : Option K) → InventoryIsDue gives now due k → InventoryIsDue gives now (due_beside beside due) (option_map other k)
  is_due now (Err e) None t = absurd t
  is_due now (Err e) (Some k) (inl t) = inl (h.served now.elapsed (Err e) k t)
  is_due now (Err e) (Some k) (inr t) = inr (inventory_beside beside t.0, h.served now.elapsed (Ok (Some t.0)) k t.1)
  is_due now (Ok None) None t = t
  is_due now (Ok (Some p)) None t = absurd t
  is_due now (Ok None) (Some k) t = h.served now.elapsed (Ok None) k t
  is_due now (Ok (Some p)) (Some k) t = (h.served now.elapsed (Ok (Some p.0)) k t.0, t.1)

-- ---- what a client asks for

module _ {S T D K E : Type 0} (does : KeepCall → K → K → Type 0) (rows : K → List Row) (keeps : K → Bool) (path : K → List ℕ) (reads : K → List ℕ → Result Row Why → Type 0)
    (gives : ℕ → Result (Option Inventory) AllocError → K → Type 0) (beside : List ℕ → List ℕ) (other : K → K) (h : AreKeepersBeside does rows keeps path reads gives beside other) where
  abbrev twin : House S T D K E → House S T D K E
  twin x = house_beside other x

  will_tell : (outcome : Outcome) (now : ℕ) (old new : House S T D K E) → WillTell outcome now old new → WillTell outcome now (twin old) (twin new)
  will_tell outcome now old new x = record { sent = x.sent; reply = x.reply; rest = ap twin x.rest }

  will_refuse : (whys : List (List ℕ)) (now : ℕ) (old new : House S T D K E) → WillRefuse whys now old new → WillRefuse whys now (twin old) (twin new)
  will_refuse whys now old new x = record { sent = x.sent; reply = x.reply; rest = ap twin x.rest }

  module _ (a : Agent) (now : Reading) where
    concluded : (l : Line) (outcome : Outcome) (old new : House S T D K E) → Concludes a l outcome now.elapsed old new → Concludes (agent_beside beside a) l outcome now.elapsed (twin old) (twin new)
    concluded l outcome old new x = record {
      desk = x.desk;
      heard = hears_if beside (is_ok outcome) a l old.desk x.desk x.heard;
      will = will_tell outcome now.elapsed (record old { desk = x.desk }) new x.will;
    }

    -- ---- need, drop, settle

    need_given : (name : List ℕ) (until : ℕ) (i : Option ℕ) (change : AgentChange) (old new : House S T D K E) → GivesNeed a now name until i change old new → GivesNeed (agent_beside beside a) now name until i (change_beside beside change) (twin old) (twin new)
    need_given name until (Some i) change old new x = (ap (change_beside beside) x.0, ap twin x.1)
    need_given name until None change old new x = (ap (change_beside beside) x.0, (x.1.0, (x.1.1.0, concluded (need_log_line name until) (Ok x.1.0) old new x.1.1.1)))

    need_if : (name : List ℕ) (until : ℕ) (result : Result (Unit {0}) Why) (change : AgentChange) (old new : House S T D K E) →
        NeedsIf a now name until result change old new → NeedsIf (agent_beside beside a) now name until result (change_beside beside change) (twin old) (twin new)
    need_if name until (Ok done) change old new x = need_given name until (index_named a.inventory.forest.entries name) change old new x
    need_if name until (Err why) change old new x = (ap (change_beside beside) x.0, will_tell (Err why) now.elapsed old new x.1)

    needs_so : (name : List ℕ) (need : Need) (change : AgentChange) (old new : House S T D K E) → Needs (AsksSame beside does) keeps a now name need change old new → Needs does keeps (agent_beside beside a) now name need (change_beside beside change) (twin old) (twin new)
    needs_so name need change old new x = record {
      result = x.result;
      state = option_map other x.state;
      kept = need_kept does rows keeps path reads gives beside other h a now name need x.result old.state x.state x.kept;
      then = need_if name (until_of_need need) x.result change (record old { state = x.state }) new x.then;
    }

    drops : (name : List ℕ) (old new : House S T D K E) → DropsEntry (AsksSame beside does) a now name old new → DropsEntry does (agent_beside beside a) now name (twin old) (twin new)
    drops name old new x = record {
      outcome = x.outcome;
      state = option_map other x.state;
      comes = asked_same does rows keeps path reads gives beside other h (λ done. Take now.elapsed name what.Drop done) (λ k line. IsDropLine name (end_named a name) line) (λ k line. IsDropLine name (end_named (agent_beside beside a) name) line)
          (λ k line y. subst (λ (e : Option ℕ). IsDropLine name e line) (sym (end_alike a (agent_beside beside a) (alike_beside beside a) name)) y) x.outcome old.state x.state x.comes;
      concludes = concluded (entry_log_line (codes "drop") name) x.outcome (record old { state = x.state }) new x.concludes;
    }

    settles_file : (old new : House S T D K E) → SettlesFile (AsksSame beside does) path a now old new → SettlesFile does path (agent_beside beside a) now (twin old) (twin new)
    settles_file old new x = record {
      outcome = x.outcome;
      state = option_map other x.state;
      comes = asked_same does rows keeps path reads gives beside other h Settle (λ k line. line ≡ settle_line (path k)) (λ k line. line ≡ settle_line (path k))
          (λ k line y. y ∙ ap settle_line (sym (h.place k))) x.outcome old.state x.state x.comes;
      concludes = concluded settled_line x.outcome (record old { state = x.state }) new x.concludes;
    }

    -- ---- what is looked up first

    refused_for : (words : List ℕ) (old new : House S T D K E) → IsRefusedFor (AsksSame beside does) rows a now words old new → IsRefusedFor does rows (agent_beside beside a) now words (twin old) (twin new)
    refused_for words old new x = (x.0, (x.1.0, will_tell (Err x.0) now.elapsed old new x.1.1))

    replaces : (name credential : List ℕ) (why : Option Loss) (old new : House S T D K E) → Replaces (AsksSame beside does) rows a now name credential why old new → Replaces does rows (agent_beside beside a) now name credential why (twin old) (twin new)
    replaces name credential why old new x = record {
      outcome = x.outcome;
      state = option_map other x.state;
      comes = asked_same does rows keeps path reads gives beside other h (λ done. Take now.elapsed name (what.Replace credential) done)
          (λ k line. line ≡ line_with_loss why (replaced_text name (named (rows k) name))) (λ k line. line ≡ line_with_loss why (replaced_text name (named (rows k) name)))
          (λ k line y. y ∙ ap (line_with_loss why) (sym (ap (λ (l : List Row). replaced_text name (named l name)) (h.entries k) ∙ replaced_same beside name (rows k)))) x.outcome old.state x.state x.comes;
      concludes = concluded (entry_log_line (codes "replace") name) x.outcome (record old { state = x.state }) new x.concludes;
    }

    adds_row : (name : List ℕ) (row : Row) (why : Option Loss) (old new : House S T D K E) → AddsRow (AsksSame beside does) a now name row why old new → AddsRow does (agent_beside beside a) now name row why (twin old) (twin new)
    adds_row name row why old new x = record {
      outcome = x.outcome;
      state = option_map other x.state;
      comes = asked_same does rows keeps path reads gives beside other h (λ done. Take now.elapsed name (what.Add row) done) (λ k line. IsAddedLine name (until_of_need row.need) why line)
          (λ k line. IsAddedLine name (until_of_need row.need) why line) (λ k line y. y) x.outcome old.state x.state x.comes;
      concludes = concluded (entry_log_line (codes "add") name) x.outcome (record old { state = x.state }) new x.concludes;
    }

    makes : (name : List ℕ) (w : ChangeKind) (why : Option Loss) (old new : House S T D K E) → Makes (AsksSame beside does) rows a now name w why old new → Makes does rows (agent_beside beside a) now name w why (twin old) (twin new)
    makes name (what.Replace credential) why old new x = replaces name credential why old new x
    makes name (what.Add row) why old new x = adds_row name row why old new x
    makes name _ why old new x = will_tell (Err None) now.elapsed old new x

    looks_up_if : (name : List ℕ) (w : ChangeKind) (result : Result LookedUp AllocError) (old new : House S T D K E) → LooksUpIf (AsksSame beside does) rows a now name w result old new → LooksUpIf does rows (agent_beside beside a) now name w result (twin old) (twin new)
    looks_up_if name w (Ok lookups.Out) old new x = record { client = x.client; aside = x.aside; rest = ap twin x.rest }
    looks_up_if name w (Ok lookups.Later) old new x = refused_for later_words old new x
    looks_up_if name w (Ok lookups.Nothing) old new x = makes name w None old new x
    looks_up_if name w (Err e) old new x = will_tell (Err None) now.elapsed old new x

    looks_up : (name : List ℕ) (w : ChangeKind) (old new : House S T D K E) → LooksUpFirst (AsksSame beside does) rows a now name w old new → LooksUpFirst does rows (agent_beside beside a) now name w (twin old) (twin new)
    looks_up name w old new x = record {
      looked_up = x.looked_up;
      state = option_map other x.state;
      asks = looked_up_by does rows keeps path reads gives beside other h now name w x.looked_up old.state x.state x.asks;
      then = looks_up_if name w x.looked_up (record old { state = x.state }) new x.then;
    }

    judges : (name : List ℕ) (w : ChangeKind) (verdict : Verdict) (old new : House S T D K E) → Judges (AsksSame beside does) rows a now name w verdict old new → Judges does rows (agent_beside beside a) now name w verdict (twin old) (twin new)
    judges name w verdicts.Good old new x = makes name w None old new x
    judges name w (verdicts.Refused status) old new x = refused_for (status_words status ++ kept_words name w) old new x
    judges name w verdicts.Endless old new x = refused_for (endless_words ++ kept_words name w) old new x
    judges name w (verdicts.Missing why) old new x = makes name w (Some why) old new x

    verdict_is : (w : Awaited) (verdict : Result (Option Verdict) AllocError) (is : Bool) (old new : House S T D K E) → VerdictIs (AsksSame beside does) rows a now w verdict is old new → VerdictIs does rows (agent_beside beside a) now w verdict is (twin old) (twin new)
    verdict_is w (Ok None) is old new x = (x.0, ap twin x.1)
    verdict_is w (Ok (Some verdict)) is old new x = (x.0, (twin x.1.0, (judges w.name w.what verdict old x.1.0 x.1.1.0, ap twin x.1.1.1)))
    verdict_is w (Err e) is old new x = (x.0, (twin x.1.0, (will_tell (Err None) now.elapsed old x.1.0 x.1.1.0, ap twin x.1.1.1)))

    hears_for : (awaited : Option Awaited) (is : Bool) (old new : House S T D K E) → HearsFor (AsksSame beside does) rows a now awaited is old new → HearsFor does rows (agent_beside beside a) now awaited is (twin old) (twin new)
    hears_for None is old new x = (x.0, ap twin x.1)
    hears_for (Some w) is old new x = record {
      verdict = x.verdict;
      state = option_map other x.state;
      proves = proved_by does rows keeps path reads gives beside other h now.elapsed x.verdict old.state x.state x.proves;
      then = verdict_is w x.verdict is (record old { awaited = None; state = x.state }) new x.then;
    }

    -- ---- add, reload, follow

    adds_if : (read : Result Row Why) (old new : House S T D K E) → AddsIf (AsksSame beside does) rows a now read old new → AddsIf does rows (agent_beside beside a) now read (twin old) (twin new)
    adds_if (Ok row) old new x = looks_up row.name (what.Add row) old new x
    adds_if (Err why) old new x = will_tell (Err why) now.elapsed old new x

    tells_reload : (result : Option (Result Reread Whys)) (old new : House S T D K E) → TellsReload path a now result old new → TellsReload path (agent_beside beside a) now result (twin old) (twin new)
    tells_reload None old new x = record { why = x.why; is_not = x.is_not; will = will_tell (Err x.why) now.elapsed old new x.will }
    tells_reload (Some (Ok reread)) old new x = record {
      desk = x.desk;
      heard = says_so a (agent_beside beside a) (alike_beside beside a) (reread_lines reread) old.desk.marks old.desk x.desk x.heard;
      line = x.line;
      says = subst (λ (place : List ℕ). IfSome x.line (λ l. l ≡ reload_line place)) (sym (path_same does rows keeps path reads gives beside other h old.state)) x.says;
      will = will_tell (Ok x.line) now.elapsed (record old { desk = x.desk; file = read_well now }) new x.will;
    }
    tells_reload (Some (Err whys)) old new x = record {
      desk = x.desk;
      heard = says_so a (agent_beside beside a) (alike_beside beside a) (fault_lines whys.items) old.desk.marks old.desk x.desk x.heard;
      will = will_refuse whys.items now.elapsed (record old { desk = x.desk; file = read_badly now old.file }) new x.will;
    }

    admits_if : (id : Option ℕ) (alerts : Bool) (old new : House S T D K E) → AdmitsIf id alerts old new → AdmitsIf id alerts (twin old) (twin new)
    admits_if None alerts old new x = ap twin x
    admits_if (Some id) alerts old new x = record { client = x.client; rest = ap twin x.rest }

    admits_so : (alerts : Bool) (old new : House S T D K E) → AdmitsIf (asking_in old.control) alerts old new ⊎ WillTell (Err None) now.elapsed old new →
        AdmitsIf (asking_in old.control) alerts (twin old) (twin new) ⊎ WillTell (Err None) now.elapsed (twin old) (twin new)
    admits_so alerts old new (inl x) = inl (admits_if (asking_in old.control) alerts old new x)
    admits_so alerts old new (inr x) = inr (will_tell (Err None) now.elapsed old new x)

    follows : (alerts : Bool) (old new : House S T D K E) → FollowsLog now alerts old new → FollowsLog now alerts (twin old) (twin new)
    follows alerts old new (inl x) = inl (record { many = x.many; why = x.why; says = x.says; will = will_tell (Err x.why) now.elapsed old new x.will })
    follows alerts old new (inr x) = inr (record { few = x.few; admits = admits_so alerts old new x.admits })

    -- ---- each of them

    carries_out : (it : ClientOrder) (change : AgentChange) (old new : House S T D K E) → CarriesOut (AsksSame beside does) rows keeps path reads gives a now it change old new →
        CarriesOut does rows keeps path reads gives (agent_beside beside a) now it (change_beside beside change) (twin old) (twin new)
    carries_out (asked.Need name need) change old new x = needs_so name need change old new x
    carries_out (asked.Replace name credential) change old new x = (ap (change_beside beside) x.0, looks_up name (what.Replace credential) old new x.1)
    carries_out (asked.Add table) change old new x = (
      ap (change_beside beside) x.0,
      record { read = x.1.read; reads_row = reads_row does rows keeps path reads gives beside other h table x.1.read old.state x.1.reads_row; then = adds_if x.1.read old new x.1.then },
    )
    carries_out (asked.Drop name) change old new x = (ap (change_beside beside) x.0, drops name old new x.1)
    carries_out asked.Settle change old new x = (ap (change_beside beside) x.0, settles_file old new x.1)
    carries_out asked.Reload change old new x = (
      ap (change_beside beside) x.0,
      record {
        result = x.1.result;
        state = option_map other x.1.state;
        asks = reread_by does rows keeps path reads gives beside other h now x.1.result old.state x.1.state x.1.asks;
        tells = tells_reload x.1.result (record old { state = x.1.state }) new x.1.tells;
      },
    )
    carries_out (asked.Follow alerts) change old new x = (ap (change_beside beside) x.0, follows alerts old new x.1)

    lacks_memory : (change : Option AgentChange) (old new : House S T D K E) → LacksMemory (AsksSame beside does) rows keeps path reads gives a now change old new →
        LacksMemory does rows keeps path reads gives (agent_beside beside a) now (option_map (change_beside beside) change) (twin old) (twin new)
    lacks_memory change old new x = (ap (option_map (change_beside beside)) x.0, (says_so a (agent_beside beside a) (alike_beside beside a) (memory_line ∷ []) old.desk.marks old.desk new.desk x.1.0, ap twin x.1.1))

    carries_if : (it : Result (Option ClientOrder) AllocError) (change : Option AgentChange) (old new : House S T D K E) → CarriesIf (AsksSame beside does) rows keeps path reads gives a now it change old new →
        CarriesIf does rows keeps path reads gives (agent_beside beside a) now it (option_map (change_beside beside) change) (twin old) (twin new)
    carries_if (Ok None) change old new x = (ap (option_map (change_beside beside)) x.0, ap twin x.1)
    carries_if (Ok (Some it)) None old new x = absurd x
    carries_if (Ok (Some it)) (Some change) old new x = carries_out it change old new x
    carries_if (Err e) change old new x = lacks_memory change old new x

    goes_on_if : (is : Bool) (change : Option AgentChange) (old new : House S T D K E) → GoesOnIf (AsksSame beside does) rows keeps path reads gives a now is change old new →
        GoesOnIf does rows keeps path reads gives (agent_beside beside a) now is (option_map (change_beside beside) change) (twin old) (twin new)
    goes_on_if true change old new x = (ap (option_map (change_beside beside)) x.0, ap twin x.1)
    goes_on_if false change old new x = record {
      asked = x.asked;
      control = x.control;
      clients = x.clients;
      tried = twin x.tried;
      tries = record {
        news = x.tries.news;
        tries = tried_again does rows keeps path reads gives beside other h now.elapsed (is_any_asked x.asked) x.tries.news old.state x.tried.state x.tries.tries;
        says = x.tries.says;
        rest = ap twin x.tries.rest;
      };
      then = carries_if x.asked change x.tried new x.then;
    }

    asks_if : (due : Result (Option (Inventory × Vec Mark Global)) AllocError) (change : Option AgentChange) (old new : House S T D K E) → AsksIf (AsksSame beside does) rows keeps path reads gives a now due change old new →
        AsksIf does rows keeps path reads gives (agent_beside beside a) now (due_beside beside due) (option_map (change_beside beside) change) (twin old) (twin new)
    asks_if (Ok None) change old new x = record {
      heard = x.heard;
      mid = twin x.mid;
      hears = hears_for old.awaited x.heard old x.mid x.hears;
      then = goes_on_if x.heard change x.mid new x.then;
    }
    asks_if (Ok (Some p)) change old new x = (ap (option_map (change_beside beside)) x.0, (given_with beside h.pairing a p.0 p.1.items new.given x.1.0, ap twin x.1.1))
    asks_if (Err e) change old new x = lacks_memory change old new x

    pub asks_for : (change : Option AgentChange) (old new : House S T D K E) → AsksFor (AsksSame beside does) rows keeps path reads gives a now change old new →
        AsksFor does rows keeps path reads gives (agent_beside beside a) now (option_map (change_beside beside) change) (twin old) (twin new)
    asks_for change old new x = (due_beside beside x.0, (is_due does rows keeps path reads gives beside other h now x.0 old.state x.1.0, asks_if x.0 change old new x.1.1))
