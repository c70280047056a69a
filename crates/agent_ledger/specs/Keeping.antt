-- Keeping: what is asked of whoever keeps the changes that clients give, and what comes of it.
-- Source: this project's own.
use Rattle.std.specs.Prelude.{◌≡◌, ℕ, Bool, List, Option, Some, None, Result}
use Rattle.std.specs.declared.alloc.AllocError.{AllocError}
use Rattle.state_changes.specs.declared.change.ChangeKind.{ChangeKind}
use Rattle.base_clock.specs.declared.reading.Reading.{Reading}
use Rattle.vault_proving.specs.declared.verdict.Verdict.{Verdict}
use Rattle.agent_ledger.specs.{declared.keeping.FileLook.FileLook, declared.keeping.KeepNews.KeepNews, declared.keeping.LookedUp.LookedUp}
use Rattle.agent_words.specs.declared.reread.Reread.{Reread}
use Rattle.agent_words.specs.Outcomes.{IsNotKept, Outcome, SaysSo, Why, Whys, done_of}

-- at a moment of the clock that never steps, in milliseconds, a change of the entry of that name is to be made, and was or was not; at a
-- reading the credential that it brings is to be looked up, and at a moment the verdict on it is asked for; the file is to hold every
-- change; at a moment it is to be read anew; at a reading files of credentials are to be looked at; what was due is served; at a moment it is
-- asked for how long it may be left alone; and at a moment it is to try again to keep what it takes, where a client asks for a change or not, and
-- does so from then on or does not
pub data KeepCall : Type 0 where
  Take : ℕ → List ℕ → ChangeKind → Result (Unit {0}) Why → KeepCall
  LookUp : Reading → List ℕ → ChangeKind → Result LookedUp AllocError → KeepCall
  Prove : ℕ → Result (Option Verdict) AllocError → KeepCall
  Settle : Result (Unit {0}) Why → KeepCall
  Reload : ℕ → Result Reread Whys → KeepCall
  Look : Reading → FileLook → KeepCall
  MarkServed : KeepCall
  RestFor : ℕ → Option ℕ → KeepCall
  TryAgain : ℕ → Bool → Option KeepNews → KeepCall

-- whoever keeps changes was asked for that, and the line says so; where nobody does, that is why it was not done
abbrev pub KeeperIsAsked : {K : Type 0} → (KeepCall → K → K → Type 0) → (Result (Unit {0}) Why → KeepCall) → (K → List ℕ → Type 0) → Outcome → Option K → Option K → Type 0
KeeperIsAsked does call Says outcome None new = (new ≡ None) × IsNotKept outcome
KeeperIsAsked does call Says outcome (Some old) None = ⊥
KeeperIsAsked does call Says outcome (Some old) (Some new) = does (call (done_of outcome)) old new × SaysSo (Says new) outcome
