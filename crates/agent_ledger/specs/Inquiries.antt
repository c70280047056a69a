-- Inquiries: the credential that a client's change brings is looked up over a lane of its own, where there is one, and the broker's word
-- on it is heard.
-- Source: this project's own.
use Rattle.std.specs.Prelude.{◌≡◌, ℕ, Option, Some, None, Result, Ok, Err}
use Rattle.std.specs.declared.alloc.AllocError.{AllocError}
use Rattle.vault_asking.specs.Sending.{Lanes}
use Rattle.base_clock.specs.declared.reading.Reading.{Reading}
use Rattle.vault_proving.specs.{declared.candidate.Candidate.Candidate, declared.verdict.Verdict.Verdict}
use Rattle.vault_proving.specs.Lookups.{CandidateGoesOut, Inquiry, InquiryGoesOn}
use Rattle.agent_words.specs.Moments.{second_of}
use Rattle.agent_ledger.specs.declared.keeping.LookedUp.{LookedUp}
use Rattle.agent_ledger.specs.declared.keeping.LookedUp.TheVariants as lookups

abbrev pub asked_in : {L : Type 0} → Option (Inquiry L) → Option Candidate
asked_in None = None
asked_in (Some inquiry) = inquiry.asked

module _ {L : Type 0} (lanes_seen : L → Lanes) (port : L → ℕ) where
  -- its lookup goes out, where no other one is; or memory is wanting for it
  abbrev pub GoesOutIf : Option Candidate → Reading → Candidate → Result LookedUp AllocError → Inquiry L → Inquiry L → Type 0
  GoesOutIf (Some other) now c result old new = (result ≡ Ok lookups.Later) × (new ≡ old)
  GoesOutIf None now c (Ok lookups.Out) old new = (new.asked ≡ Some c) × CandidateGoesOut (port old.lanes) (second_of now.wall) now.elapsed c (lanes_seen old.lanes) (lanes_seen new.lanes)
  GoesOutIf None now c (Ok lookups.Later) old new = ⊥
  GoesOutIf None now c (Ok lookups.Nothing) old new = ⊥
  GoesOutIf None now c (Err e) old new = new.asked ≡ None

  -- where there is one, and lanes
  abbrev pub AsksAbout : Reading → Option Candidate → Result LookedUp AllocError → Option (Inquiry L) → Option (Inquiry L) → Type 0
  AsksAbout now None result old new = (result ≡ Ok lookups.Nothing) × (new ≡ old)
  AsksAbout now (Some c) result None new = (result ≡ Ok lookups.Nothing) × (new ≡ None)
  AsksAbout now (Some c) result (Some old) None = ⊥
  AsksAbout now (Some c) result (Some old) (Some new) = GoesOutIf old.asked now c result old new

module _ {L : Type 0} (lanes_seen : L → Lanes) where
  -- the broker's word, where there are lanes and it is there
  abbrev pub ProvesOn : ℕ → Result (Option Verdict) AllocError → Option (Inquiry L) → Option (Inquiry L) → Type 0
  ProvesOn now result None new = (result ≡ Ok None) × (new ≡ None)
  ProvesOn now result (Some old) None = ⊥
  ProvesOn now (Ok verdict) (Some old) (Some new) = InquiryGoesOn now old.asked (lanes_seen old.lanes) verdict new.asked (lanes_seen new.lanes)
  ProvesOn now (Err e) (Some old) (Some new) = new.asked ≡ None
