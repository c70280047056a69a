-- Judgements: from the line about a certificate to that about its text, for `run_check`.
use Rattle.std.proofs.Common.{◌≡◌, ℕ, List, Option, Some, Result, Ok, Err, length, inl, inr, subst, sym}
use Rattle.std.proofs.lemmas.Bool.{cases_lt}
use Rattle.plan_forest.specs.Forest.{Forest}
use Rattle.plan_rule.specs.Runs.{all_wakes}
use Rattle.plan_certificate.specs.{declared.cert.Body.Body, declared.cert.Cert.Cert, declared.fault.CertFault.CertFault, Answers.FailsWithCertFault, CertificateText.WritesCertificate, Reading.certificate_of}
use Rattle.plan_certificate.specs.declared.cert.Body.TheVariants as body
use Rattle.plan_certificate.specs.declared.fault.CertFault.TheVariants as certs
use Rattle.plan_check.specs.{declared.answer.Answer.TheVariants.No, declared.answer.Cause.Cause, Answer.IsBodyAnswer, Answer.IsCertificateAnswer}
use Rattle.plan_check.specs.declared.answer.Cause.TheVariants as cause
use Rattle.plan_check.proofs.Judged.{kept_past}
use Rattle.program_report.specs.{declared.exit.Exit.Exit, declared.stop.Stop.Stop}
use Rattle.program_report.specs.declared.exit.Exit.TheVariants as exits
use Rattle.plan_commands.specs.{declared.outcome.Outcome.Outcome, Running.NoHalts, CheckText.unreadable_line, code.Making.MakesOf}
use Rattle.plan_commands.specs.code.CheckAnswers.{CauseIsNamed, IsStartVerdict, IsVerdict, StartTexts, VerdictTexts}
use Rattle.plan_commands.specs.CheckRun.{CertificateIsUnreadable, CheckTexts, IsJudged, StartsAsAsked}
use Rattle.program_report.specs.declared.stop.Stop.TheVariants as stops

-- ---- an entry that is not kept is one of the forest

named_in_body : (g : Forest) (s : ℕ) (b : Body) (why : Cause) → IsBodyAnswer g s b (No why) → CauseIsNamed (length g.entries) why
named_in_body g s (body.Unkeepable entry needed) (cause.NotKept i) says = absurd says
named_in_body g s (body.Runs rs) (cause.NotKept i) says =
    elim (cases_lt i (length g.entries)) [
      | inl within ↦ within
      | inr past ↦ absurd (says.1.0 (kept_past g s (all_wakes rs) i past))
    ]
named_in_body g s b _ says = tt

pub cause_named : (g : Forest) (c : Cert) (why : Cause) → IsCertificateAnswer g c (No why) → CauseIsNamed (length g.entries) why
cause_named g c why says = named_in_body g c.start c.body why says

-- ---- the line about a text

verdict_judged : (asked : Option ℕ) (g : Forest) (text : List ℕ) (c : Cert) (exit : Exit) (line : List ℕ) → WritesCertificate g.entries text c → StartsAsAsked asked c → IsVerdict g c exit line → IsJudged asked g text exit line
verdict_judged asked g text c exits.Done line writes starts is = record { cert = c; writes = writes; starts = starts; answer = is.0; holds = is.1.0; spelled = is.1.1 }
verdict_judged asked g text c exits.No line writes starts is = inl (record { cert = c; writes = writes; starts = starts; cause = is.0; answer = is.1; spelled = is.2 })
verdict_judged asked g text c _ line writes starts is = absurd is

start_judged : (asked : Option ℕ) (g : Forest) (text : List ℕ) (c : Cert) (exit : Exit) (line : List ℕ) → WritesCertificate g.entries text c → IsStartVerdict asked g c exit line → IsJudged asked g text exit line
start_judged asked g text c exit line writes (inl is) = verdict_judged asked g text c exit line writes is.0 is.1
start_judged asked g text c exit line writes (inr is) =
    subst (λ (e : Exit). IsJudged asked g text e line) (sym is.1) (inr (inl (record { cert = c; writes = writes; elsewhere = is.0; spelled = is.2 })))

-- a certificate that starts as it is asked for is judged by what it claims
pub judged_from : (asked : Option ℕ) (g : Forest) (c : Cert) (made : Result Outcome Stop) → StartsAsAsked asked c → MakesOf (VerdictTexts c) NoHalts g made → MakesOf (StartTexts asked c) NoHalts g made
judged_from asked g c (Ok outcome) starts judged = inl (starts, judged)
judged_from asked g c (Err stops.Memory) starts judged = tt
judged_from asked g c (Err _) starts judged = absurd judged

pub text_judged : (asked : Option ℕ) (g : Forest) (text : List ℕ) (c : Cert) (made : Result Outcome Stop) → WritesCertificate g.entries text c → MakesOf (StartTexts asked c) NoHalts g made → MakesOf (CheckTexts asked text) NoHalts g made
text_judged asked g text c (Ok outcome) writes judged = start_judged asked g text c outcome.exit outcome.text writes judged
text_judged asked g text c (Err stops.Memory) writes judged = tt
text_judged asked g text c (Err _) writes judged = absurd judged

pub text_unreadable : (g : Forest) (text line : List ℕ) (fault : CertFault) → FailsWithCertFault fault (certificate_of g.entries text) → unreadable_line fault ≡ Some line → CertificateIsUnreadable g text line
unfolding unreadable_line
text_unreadable g text line certs.BadHeader fails is = record { fault = certs.BadHeader; fails = fails; spelled = is }
text_unreadable g text line (certs.BadLine n) fails is = record { fault = certs.BadLine n; fails = fails; spelled = is }
text_unreadable g text line (certs.UnknownName n) fails is = record { fault = certs.UnknownName n; fails = fails; spelled = is }
text_unreadable g text line (certs.BadNumber n) fails is = record { fault = certs.BadNumber n; fails = fails; spelled = is }
text_unreadable g text line certs.Truncated fails is = record { fault = certs.Truncated; fails = fails; spelled = is }
text_unreadable g text line certs.Trailing fails is = record { fault = certs.Trailing; fails = fails; spelled = is }
text_unreadable g text line certs.OutOfMemory fails is = absurd cc
