-- OpenedLater: a ledger that is filled is one that was opened later. For `later_with`.
use Rattle.std.proofs.Common.{◌≡◌, ◌∙◌, ap, subst, sym}
use Rattle.agent_ledger.specs.declared.ledger.Ledger.{Ledger}
use Rattle.agent_words.specs.declared.demands.Demands.{Demands}
use Rattle.state_secrets.specs.Looking.{IsBegun}
use Rattle.agent_start.specs.{Later.IsLaterLedger, Starts.IsFreshLedger}

pub filled_later : {D I L : Type 0} → (d : Demands) (l k : Ledger D I L) → IsFreshLedger l → l.demands ≡ d → k ≡ record l { state = k.state; inputs = k.inputs } → IsLaterLedger d k
filled_later d l k fresh demands filled = record {
  demands = ap (λ x. x.demands) filled ∙ demands;
  fresh = record {
    looking = subst IsBegun (sym (ap (λ x. x.looking) filled)) fresh.looking;
    proving = ap (λ x. x.proving) filled ∙ fresh.proving;
    askers = ap (λ x. x.askers.items) filled ∙ fresh.askers;
  };
}
