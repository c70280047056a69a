-- Lookups: one credential is looked up at a time, and one request is out for it.
-- Source: this project's own.
use Rattle.std.specs.Prelude.{◌≡◌, ℕ, ◌<◌, true, false, List, [], ◌∷◌, Option, Some, None, IfSome, length}
use Rattle.vault_asking.specs.{Asking.patience_in, Sending.Lanes}
use Rattle.vault_exchange.specs.Requests.{lookup_of}
use Rattle.vault_lanes.specs.{Losses.Answer, Out.Out, Out.is_there, Serving.RequestIsSent, declared.lanes.Ask.Ask}
use Rattle.watch_machine.specs.declared.command.Patience.TheVariants.{Full}
use Rattle.vault_proving.specs.{Verdicts.verdict_on, declared.candidate.Candidate.Candidate, declared.candidate.TheConstants.LOOKUP_NUMBER, declared.verdict.Verdict.Verdict}

-- lanes, and the credential that is looked up over them, if one is
pub record Inquiry (L : Type 0) : Type 0 where
  pub lanes : L
  pub asked : Option Candidate

-- it is that of an entry
abbrev pub IsCandidate : Candidate → Type 0
IsCandidate c = c.entry < length c.inventory.forest.entries

-- one request is out where a credential is looked up, and else none
abbrev pub AreOutFor : Option Candidate → List Out → Type 0
AreOutFor None out = out ≡ []
AreOutFor (Some c) out = IsCandidate c × ((o : Out) × (out ≡ o ∷ []))

-- and there is a lane for it
pub record IsInquiry (width : ℕ) (out : List Out) (asked : Option Candidate) : Type 0 where
  pub wide : 0 < width
  pub out_for : AreOutFor asked out

-- ---- it is asked

-- the lookup of the entry, which may take as long as any request
abbrev pub candidate_ask : ℕ → Candidate → Ask
candidate_ask port c = record { index = LOOKUP_NUMBER; patience = patience_in Full; request = lookup_of port c.inventory.credentials c.inventory.forest c.entry }

-- it goes out on a lane, at that moment of the wall and of the elapsed clock
pub record CandidateGoesOut (port t now : ℕ) (c : Candidate) (old new : Lanes) : Type 0 where
  pub sent : RequestIsSent old.seconds t now (candidate_ask port c) old.behind old.out new.behind new.out
  pub seconds : new.seconds ≡ old.seconds

-- ---- and it is heard

-- the one request that is out has no answer yet, where it is known when that comes
abbrev pub IsAwaited : ℕ → Lanes → Type 0
IsAwaited now lanes = (o : Out) × ((lanes.out ≡ o ∷ []) × IfSome lanes.behind (λ _. is_there now o ≡ false))

-- it has this one
abbrev pub IsAnswered : ℕ → Lanes → Answer → Type 0
IsAnswered now lanes answer = (o : Out) × ((lanes.out ≡ o ∷ []) × (IfSome o.comes (λ comes. answer ≡ comes.answer) × IfSome lanes.behind (λ _. is_there now o ≡ true)))

-- there is a verdict where the answer is there, by that; till then the request stays out
abbrev pub Hears : ℕ → Candidate → Lanes → Option Verdict → Lanes → Type 0
Hears now c old None new = IsAwaited now old × (new ≡ old)
Hears now c old (Some verdict) new = (answer : Answer) × (IsAnswered now old answer × ((verdict ≡ verdict_on c answer) × (new ≡ record old { out = [] })))

-- and the credential is looked up until there is one. Where none is looked up, nothing is done
abbrev pub candidate_left : Option Verdict → Candidate → Option Candidate
candidate_left None c = Some c
candidate_left (Some verdict) c = None

abbrev pub InquiryGoesOn : ℕ → Option Candidate → Lanes → Option Verdict → Option Candidate → Lanes → Type 0
InquiryGoesOn now None old verdict asked new = (verdict ≡ None) × ((asked ≡ None) × (new ≡ old))
InquiryGoesOn now (Some c) old verdict asked new = (asked ≡ candidate_left verdict c) × Hears now c old verdict new
