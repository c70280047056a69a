-- Awaiting: a credential is looked up before a client's change is made that brings it.
-- Source: this project's own; docs/running.md, "Changes while it runs".
use Rattle.std.specs.Prelude.{◌≡◌, ℕ, Bool, true, false, List, ◌++◌, Option, Some, None, IfSome, Result, Ok, Err, codes}
use Rattle.std.specs.declared.alloc.AllocError.{AllocError}
use Rattle.agent_standing.specs.Agent.{Agent}
use Rattle.state_changes.specs.{Rows.named, declared.change.ChangeKind.ChangeKind, declared.row.Row.Row}
use Rattle.state_changes.specs.declared.change.ChangeKind.TheVariants as what
use Rattle.base_clock.specs.declared.reading.Reading.{Reading}
use Rattle.vault_lanes.specs.declared.loss.Loss.{Loss}
use Rattle.vault_proving.specs.declared.verdict.Verdict.{Verdict}
use Rattle.vault_proving.specs.declared.verdict.Verdict.TheVariants as verdicts
use Rattle.agent_log.specs.{Changed.entry_log_line, LookupLosses.line_with_loss}
use Rattle.agent_house.specs.{declared.given.Awaited.Awaited, declared.given.Given.Given, declared.house.House.House}
use Rattle.agent_house.specs.Houses.{ClientIsAside, Concludes, WillTell}
use Rattle.agent_ledger.specs.declared.keeping.LookedUp.{LookedUp}
use Rattle.agent_ledger.specs.Keeping.{KeepCall, KeeperIsAsked, LookUp, Prove, Take}
use Rattle.agent_words.specs.Outcomes.{Outcome, Why}
use Rattle.agent_words.specs.Telling.{IsAddLine, replaced_text, until_of_need}
use Rattle.agent_words.specs.VerdictWords.{endless_words, kept_words, later_words, status_words}
use Rattle.agent_house.specs.declared.given.Given.TheVariants as givens
use Rattle.agent_ledger.specs.declared.keeping.LookedUp.TheVariants as looked

-- ---- a change that brings a credential is made; why says why the broker has said nothing of it, where it was asked and has not

-- that an entry is kept from now on, and that the broker has said nothing of its credential, where it has not
abbrev pub IsAddedLine : List ℕ → ℕ → Option Loss → List ℕ → Type 0
IsAddedLine name until why text = (line : List ℕ) × (IsAddLine name until line × (text ≡ line_with_loss why line))

pub record Replaces {S T D K E : Type 0} (does : KeepCall → K → K → Type 0) (rows : K → List Row) (agent : Agent) (now : Reading) (name credential : List ℕ) (why : Option Loss) (old new : House S T D K E) : Type 0 where
  pub outcome : Outcome
  pub state : Option K
  pub comes : KeeperIsAsked does (λ done. Take now.elapsed name (what.Replace credential) done) (λ k line. line ≡ line_with_loss why (replaced_text name (named (rows k) name))) outcome old.state state
  pub concludes : Concludes agent (entry_log_line (codes "replace") name) outcome now.elapsed (record old { state = state }) new

pub record AddsRow {S T D K E : Type 0} (does : KeepCall → K → K → Type 0) (agent : Agent) (now : Reading) (name : List ℕ) (row : Row) (why : Option Loss) (old new : House S T D K E) : Type 0 where
  pub outcome : Outcome
  pub state : Option K
  pub comes : KeeperIsAsked does (λ done. Take now.elapsed name (what.Add row) done) (λ k line. IsAddedLine name (until_of_need row.need) why line) outcome old.state state
  pub concludes : Concludes agent (entry_log_line (codes "add") name) outcome now.elapsed (record old { state = state }) new

-- whoever keeps changes is asked to look it up, and for the broker's word
abbrev pub LooksUpBy : {K : Type 0} → (KeepCall → K → K → Type 0) → Reading → List ℕ → ChangeKind → Result LookedUp AllocError → Option K → Option K → Type 0
LooksUpBy does now name w result None new = (result ≡ Ok looked.Nothing) × (new ≡ None)
LooksUpBy does now name w result (Some old) None = ⊥
LooksUpBy does now name w result (Some old) (Some new) = does (LookUp now name w result) old new

abbrev pub ProvesBy : {K : Type 0} → (KeepCall → K → K → Type 0) → ℕ → Result (Option Verdict) AllocError → Option K → Option K → Type 0
ProvesBy does now result None new = (result ≡ Ok None) × (new ≡ None)
ProvesBy does now result (Some old) None = ⊥
ProvesBy does now result (Some old) (Some new) = does (Prove now result) old new

-- it waits for the broker's word, and its client is set aside
pub record SetsAside {S T D K E : Type 0} (name : List ℕ) (w : ChangeKind) (old new : House S T D K E) : Type 0 where
  pub client : Option ℕ
  pub aside : ClientIsAside client old.control new.control
  pub rest : new ≡ record old { control = new.control; awaited = Some (record { client = client; name = name; what = w }) }

module _ {S T D K E : Type 0} (does : KeepCall → K → K → Type 0) (rows : K → List Row) (agent : Agent) (now : Reading) where
  -- no other change brings one
  abbrev pub Makes : List ℕ → ChangeKind → Option Loss → House S T D K E → House S T D K E → Type 0
  Makes name (what.Need need) why old new = WillTell (Err None) now.elapsed old new
  Makes name (what.Replace credential) why old new = Replaces does rows agent now name credential why old new
  Makes name (what.Add row) why old new = AddsRow does agent now name row why old new
  Makes name what.Drop why old new = WillTell (Err None) now.elapsed old new

  -- its client is told why it is not, unless memory is wanting for that
  abbrev pub IsRefusedFor : List ℕ → House S T D K E → House S T D K E → Type 0
  IsRefusedFor words old new = (why : Why) × (IfSome why (λ text. text ≡ words) × WillTell (Err why) now.elapsed old new)

  -- ---- it is looked up first

  abbrev pub LooksUpIf : List ℕ → ChangeKind → Result LookedUp AllocError → House S T D K E → House S T D K E → Type 0
  LooksUpIf name w (Ok looked.Out) old new = SetsAside name w old new
  LooksUpIf name w (Ok looked.Later) old new = IsRefusedFor later_words old new
  LooksUpIf name w (Ok looked.Nothing) old new = Makes name w None old new
  LooksUpIf name w (Err e) old new = WillTell (Err None) now.elapsed old new

  pub record LooksUpFirst (name : List ℕ) (w : ChangeKind) (old new : House S T D K E) : Type 0 where
    pub looked_up : Result LookedUp AllocError
    pub state : Option K
    pub asks : LooksUpBy does now name w looked_up old.state state
    pub then : LooksUpIf name w looked_up (record old { state = state }) new

  -- ---- the broker's word is there

  abbrev pub Judges : List ℕ → ChangeKind → Verdict → House S T D K E → House S T D K E → Type 0
  Judges name w verdicts.Good old new = Makes name w None old new
  Judges name w (verdicts.Refused status) old new = IsRefusedFor (status_words status ++ kept_words name w) old new
  Judges name w verdicts.Endless old new = IsRefusedFor (endless_words ++ kept_words name w) old new
  Judges name w (verdicts.Missing why) old new = Makes name w (Some why) old new

-- an answer is for a client that was set aside
abbrev pub addressed : Option ℕ → Option Given → Option Given
addressed client None = None
addressed client (Some (givens.Need need)) = Some (givens.Need need)
addressed client (Some (givens.Answer sent at)) = Some (givens.Aside (record { client = client; sent = sent; at = at }))
addressed client (Some (givens.Aside aside)) = Some (givens.Aside aside)
addressed client (Some (givens.Served marks)) = Some (givens.Served marks)
addressed client (Some givens.Unchanged) = Some givens.Unchanged

abbrev pub TellsNothingAside : {S T D K E : Type 0} → Reading → Awaited → House S T D K E → House S T D K E → Type 0
TellsNothingAside {S} {T} {D} {K} {E} now a old new = (mid : House S T D K E) × (WillTell (Err None) now.elapsed old mid × (new ≡ record mid { given = addressed a.client mid.given }))

module _ {S T D K E : Type 0} (does : KeepCall → K → K → Type 0) (rows : K → List Row) (agent : Agent) (now : Reading) where
  -- the change that has waited is made or refused, and its client is told once that is settled; till there is a word it waits on. Where
  -- memory is wanting for the word, it is not made, and its client is told nothing
  abbrev pub JudgesAside : Awaited → Verdict → House S T D K E → House S T D K E → Type 0
  JudgesAside a verdict old new = (mid : House S T D K E) × (Judges does rows agent now a.name a.what verdict old mid × (new ≡ record mid { given = addressed a.client mid.given }))

  abbrev pub VerdictIs : Awaited → Result (Option Verdict) AllocError → Bool → House S T D K E → House S T D K E → Type 0
  VerdictIs a (Ok None) heard old new = (heard ≡ false) × (new ≡ record old { awaited = Some a })
  VerdictIs a (Ok (Some verdict)) heard old new = (heard ≡ true) × JudgesAside a verdict old new
  VerdictIs a (Err e) heard old new = (heard ≡ true) × TellsNothingAside now a old new

  pub record HearsOfAwaited (a : Awaited) (heard : Bool) (old new : House S T D K E) : Type 0 where
    pub verdict : Result (Option Verdict) AllocError
    pub state : Option K
    pub proves : ProvesBy does now.elapsed verdict old.state state
    pub then : VerdictIs a verdict heard (record old { state = state }) new

  abbrev pub HearsFor : Option Awaited → Bool → House S T D K E → House S T D K E → Type 0
  HearsFor None heard old new = (heard ≡ false) × (new ≡ old)
  HearsFor (Some a) heard old new = HearsOfAwaited a heard (record old { awaited = None }) new

  abbrev pub HearsVerdict : Bool → House S T D K E → House S T D K E → Type 0
  HearsVerdict heard old new = HearsFor old.awaited heard old new
