-- Told: what the machine is told of an answer.
-- Source: Vault, HTTP API: `auth/token`, "Lookup a token (self)"; `sys/leases`, "Read lease". That one said of another entry, or
-- of the other kind, counts as lost is this project's own.
use Rattle.std.specs.Prelude.{ℕ, ◌==◌, ◌||◌, Bool, true, false, if◌then◌else◌, Option, Some, None, Ok, Err, length, nat_lt}
use Rattle.vault_lanes.specs.{Heard.looked_up_by_answer, Heard.renewed_by_answer, Losses.Answer, declared.heard.HeardAnswer.HeardAnswer, declared.lanes.Answered.Answered, declared.loss.Loss.Loss}
use Rattle.vault_lanes.specs.declared.heard.HeardAnswer.TheVariants as heard
use Rattle.vault_lanes.specs.declared.loss.Loss.TheVariants as losses
use Rattle.vault_exchange.specs.declared.heard.ToldTerms as looked
use Rattle.vault_inventory.specs.{Lookup.lookup_fault, Lookup.told_terms, Terms.ceiling_of, Terms.step_of, declared.lookup.LookupFault.LookupFault}
use Rattle.vault_inventory.specs.Inventories.{Inventory, credential_at, terms_at}
use Rattle.vault_inventory.specs.declared.lookup.LookupFault.TheVariants.{OtherKind, OtherEntry, OtherTree, NoStep}
use Rattle.plan_forest.specs.Forest.{entry_at}
use Rattle.watch_machine.specs.{declared.event.WatchEvent.WatchEvent, declared.event.Operation.Operation, declared.event.WatchReply.WatchReply, declared.event.WatchTerms.WatchTerms}
use Rattle.watch_machine.specs.declared.event.WatchEvent.TheVariants.{Looked, Renewed}
use Rattle.watch_machine.specs.declared.event.Operation.TheVariants.{Look, Renew}
use Rattle.watch_machine.specs.declared.event.WatchReply.TheVariants.{Told, Refused, Busy, Lost}
use Rattle.vault_asking.specs.declared.told.Said.{Said}
use Rattle.vault_json.specs.declared.lookup.Lookup.{Lookup}
use Rattle.vault_json.specs.declared.lookup.Lookup.TheVariants as lookups
use Rattle.vault_json.specs.declared.renewed.Renewed as grants

-- the terms of a reply that tells none
abbrev pub no_terms : WatchTerms
no_terms = record { step = None; ceiling = None; orphan = false; endless = false }

-- ---- a renewal

abbrev pub renewal_reply : HeardAnswer grants.Renewed → WatchReply
renewal_reply (heard.Told renewed date) = Told renewed.seconds renewed.renewable date
renewal_reply (heard.Refused status date) = Refused status date
renewal_reply heard.Busy = Busy
renewal_reply (heard.Lost why) = Lost

-- ---- a lookup

-- it is said of another entry, or of the other kind
abbrev pub is_of_another : Option LookupFault → Bool
is_of_another None = false
is_of_another (Some OtherKind) = true
is_of_another (Some OtherEntry) = true
is_of_another (Some OtherTree) = false
is_of_another (Some NoStep) = false

abbrev pub end_told : Lookup → Option ℕ → WatchReply
end_told (lookups.Token ttl created explicit_max orphan renewable period) date = Told ttl renewable date
end_told (lookups.Lease id issued renewable ttl) date = Told ttl renewable date

unfoldable pub lookup_reply : Inventory → ℕ → HeardAnswer looked.ToldTerms → WatchReply
lookup_reply s i (heard.Told said date) = if is_of_another (lookup_fault s i said.lookup) then Lost else end_told said.lookup date
lookup_reply s i (heard.Refused status date) = Refused status date
lookup_reply s i heard.Busy = Busy
lookup_reply s i (heard.Lost why) = Lost

-- a step and an orphan are a token's alone
abbrev pub step_in : Inventory → ℕ → Lookup → Option ℕ
step_in s i (lookups.Token ttl created explicit_max orphan renewable period) =
    Some (step_of (told_terms (lookups.Token ttl created explicit_max orphan renewable period) (terms_at s.terms i)))
step_in s i (lookups.Lease id issued renewable ttl) = None

abbrev pub orphan_in : Lookup → Bool
orphan_in (lookups.Token ttl created explicit_max orphan renewable period) = orphan
orphan_in (lookups.Lease id issued renewable ttl) = false

-- the terms as the lookup tells them: a ceiling counts from the issue that it tells
abbrev pub terms_told : Inventory → ℕ → looked.ToldTerms → WatchTerms
terms_told s i said = record {
  step = step_in s i said.lookup;
  ceiling = ceiling_of (told_terms said.lookup (terms_at s.terms i));
  orphan = orphan_in said.lookup;
  endless = said.never_ends;
}

unfoldable pub lookup_terms : Inventory → ℕ → HeardAnswer looked.ToldTerms → WatchTerms
lookup_terms s i (heard.Told said date) = if is_of_another (lookup_fault s i said.lookup) then no_terms else terms_told s i said
lookup_terms s i (heard.Refused status date) = no_terms
lookup_terms s i heard.Busy = no_terms
lookup_terms s i (heard.Lost why) = no_terms

-- ---- the answer to a request

-- why it counts as lost, where it does: a lookup that is said of another entry can't be used, and the broker was busy with 429
abbrev pub loss_in : {T : Type 0} → HeardAnswer T → Loss
loss_in (heard.Told told date) = losses.Reply
loss_in (heard.Refused status date) = losses.Status status
loss_in heard.Busy = losses.Status 429
loss_in (heard.Lost why) = why

-- what the machine is told of it, what terms, and why it counts as lost, where it does
abbrev pub reply_as : Operation → Inventory → ℕ → Answer → WatchReply
reply_as Look s i answer = lookup_reply s i (looked_up_by_answer (entry_at s.forest.entries i).kind answer)
reply_as Renew s i answer = renewal_reply (renewed_by_answer (entry_at s.forest.entries i).kind (credential_at s.credentials i) answer)

abbrev pub terms_as : Operation → Inventory → ℕ → Answer → WatchTerms
terms_as Look s i answer = lookup_terms s i (looked_up_by_answer (entry_at s.forest.entries i).kind answer)
terms_as Renew s i answer = no_terms

abbrev pub loss_as : Operation → Inventory → ℕ → Answer → Loss
loss_as Look s i answer = loss_in (looked_up_by_answer (entry_at s.forest.entries i).kind answer)
loss_as Renew s i answer = loss_in (renewed_by_answer (entry_at s.forest.entries i).kind (credential_at s.credentials i) answer)

abbrev pub said_of_entry : Inventory → Operation → ℕ → Answer → Said
said_of_entry s operation i answer = record { reply = reply_as operation s i answer; terms = terms_as operation s i answer; loss = loss_as operation s i answer }

-- where its entry is no more, its kind and its credential are not known: the answer is read by its status alone. One that speaks of the
-- request, or that the broker was busy, says that the broker is there; anything else is lost
abbrev pub is_of_broker : ℕ → Bool
is_of_broker status = status == 200 || (status == 400 || (status == 403 || (status == 404 || (status == 405 || status == 429))))

abbrev pub said_of_nobody : Answer → Said
said_of_nobody (Ok dated) = record { reply = if is_of_broker dated.reply.status then Busy else Lost; terms = no_terms; loss = losses.Status dated.reply.status }
said_of_nobody (Err why) = record { reply = Lost; terms = no_terms; loss = why }

abbrev pub said_to : Inventory → Operation → ℕ → Answer → Said
said_to s operation i answer = if nat_lt i (length s.forest.entries) then said_of_entry s operation i answer else said_of_nobody answer

-- the event of an answer: that of its own request
abbrev pub event_as : Operation → ℕ → WatchReply → WatchTerms → WatchEvent
event_as Look i reply terms = Looked i reply terms
event_as Renew i reply terms = Renewed i reply

-- the event that an answer says, where that was asked of its entry: the reply, and the terms that a lookup tells
abbrev pub event_of_answer : Inventory → Operation → Answered → WatchEvent
event_of_answer s operation a = event_as operation a.index (said_to s operation a.index a.answer).reply (said_to s operation a.index a.answer).terms
