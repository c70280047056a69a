-- Verdicts: what the broker says of a credential that is looked up before it is taken.
-- Source: Vault, HTTP API: `auth/token`, "Lookup a token (self)"; `sys/leases`, "Read lease". What is made of that is this project's
-- own.
use Rattle.std.specs.Prelude.{Bool, if◌then◌else◌}
use Rattle.vault_asking.specs.{Told.said_of_entry, declared.told.Said.Said}
use Rattle.vault_lanes.specs.{Losses.Answer, declared.loss.Loss.Loss}
use Rattle.watch_machine.specs.{declared.event.Operation.TheVariants.Look, declared.event.WatchReply.WatchReply}
use Rattle.watch_machine.specs.declared.event.WatchReply.TheVariants as replies
use Rattle.vault_proving.specs.{declared.candidate.Candidate.Candidate, declared.verdict.Verdict.Verdict}
use Rattle.vault_proving.specs.declared.verdict.Verdict.TheVariants.{Good, Refused, Endless, Missing}

-- it is known, and never ends or ends
abbrev pub told_verdict : Bool → Verdict
told_verdict endless = if endless then Endless else Good

-- by what is told, whether that never ends, and why the answer counts as lost, where it does
abbrev pub verdict_by : WatchReply → Bool → Loss → Verdict
verdict_by (replies.Told seconds renewable date) endless loss = told_verdict endless
verdict_by (replies.Refused status date) endless loss = Refused status
verdict_by replies.Busy endless loss = Missing loss
verdict_by replies.Lost endless loss = Missing loss

-- by what an answer says
abbrev pub verdict_of : Said → Verdict
verdict_of said = verdict_by said.reply said.terms.endless said.loss

-- by the answer to the lookup of the credential
abbrev pub verdict_on : Candidate → Answer → Verdict
verdict_on c answer = verdict_of (said_of_entry c.inventory Look c.entry answer)
