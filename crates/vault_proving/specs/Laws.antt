-- Laws: what a verdict says of the broker's answer, and that there is one in time. The contracts of public functions without a body.
-- Source: Vault, HTTP API, "HTTP status codes"; the rest is this project's own.
use Rattle.std.specs.Prelude.{◌≡◌, ℕ, ◌*◌, ◌^◌, ◌<◌, ◌≤◌, ◌==◌, ◌||◌, Bool, true, false, [], Some, None, Ok, Err, if◌then◌else◌}
use Rattle.vault_asking.specs.Sending.{Lanes}
use Rattle.vault_lanes.specs.{Allowed.millis_after, Serving.BehindLanes, declared.loss.Loss.Loss}
use Rattle.vault_lanes.specs.declared.loss.Loss.TheVariants as losses
use Rattle.plan_forest.specs.{Forest.entry_at, declared.entry.Kind.Kind, declared.entry.Kind.TheVariants.Token}
use Rattle.vault_http.specs.declared.dated_reply.DatedReply.{DatedReply}
use Rattle.vault_proving.specs.{Lookups.CandidateGoesOut, Lookups.Hears, Verdicts.verdict_on, declared.candidate.Candidate.Candidate, declared.verdict.Verdict.Verdict}
use Rattle.vault_proving.specs.declared.verdict.Verdict.TheVariants.{Good, Refused, Endless, Missing}

-- ---- by its status

-- these speak of the request itself
abbrev pub is_refusal : ℕ → Bool
is_refusal status = status == 400 || (status == 403 || (status == 404 || status == 405))

-- a reply with another status than 200 refuses the credential, or says nothing of it
abbrev pub OtherStatusLaw : Type 0
OtherStatusLaw =
    (c : Candidate) (d : DatedReply) → (d.reply.status == 200) ≡ false →
    verdict_on c (Ok d) ≡ (if is_refusal d.reply.status then Refused d.reply.status else Missing (losses.Status d.reply.status))

-- one with 200 says that it is known, and of a token that it never ends; or it cannot be read, or is said of another
abbrev pub IsToldVerdict : Kind → Verdict → Type 0
IsToldVerdict kind Good = Unit {0}
IsToldVerdict kind (Refused status) = ⊥
IsToldVerdict kind Endless = kind ≡ Token
IsToldVerdict kind (Missing loss) = loss ≡ losses.Reply

abbrev pub ToldVerdictLaw : Type 0
ToldVerdictLaw = (c : Candidate) (d : DatedReply) → (d.reply.status == 200) ≡ true → IsToldVerdict (entry_at c.inventory.forest.entries c.entry).kind (verdict_on c (Ok d))

-- where there is no reply nothing is said of it
abbrev pub LostLaw : Type 0
LostLaw = (c : Candidate) (loss : Loss) → verdict_on c (Err loss) ≡ Missing loss

-- ---- in time

-- in memory, where the time-out has passed since it went out there is a verdict
abbrev pub VerdictTimeLaw : Type 0
VerdictTimeLaw =
    (port t now later : ℕ) (c : Candidate) (behind : BehindLanes) (old mid new : Lanes) → now < 2 ^ 64 → old.behind ≡ Some behind → old.out ≡ [] → CandidateGoesOut port t now c old mid →
    millis_after now (1000 * old.seconds) ≤ later → Hears later c mid None new → ⊥
