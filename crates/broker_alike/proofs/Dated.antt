-- Dated: a broker's step leaves each row issued when it was, and speaks of one of them. For the laws that secrets change no answer.
use Rattle.std.proofs.Common.{ℕ, ◌≤◌, Bool, true, false, cond, List, [], ◌∷◌, Option, Some, None, IfSome, Result, Ok, Err, All, bytes_eq}
use Rattle.std.proofs.lemmas.List.Elements.{All-filter, All-head, All-map, All-tail, All-weaker}
use Rattle.std.specs.List.{find}
use Rattle.base_moment.specs.declared.moment.TheConstants.{LAST}
use Rattle.broker_rule.specs.{declared.asked.AskedBody.AskedBody, declared.call.ApiCall.ApiCall, declared.fault.Fault.Fault, declared.refusal.Refusal.Refusal, declared.row.BrokerRow.BrokerRow, Faults.fault_at, Faults.next_number}
use Rattle.broker_rule.specs.{Sweep.lives, Sweep.swept, Table.BrokerTable}
use Rattle.broker_rule.specs.declared.refusal.Refusal.TheVariants.{NotRenewable, PermissionDenied, UnsupportedMethod}
use Rattle.broker_rule.specs.Renewing.{granted_row, is_deny, new_end, renewal_by_broker, rows_after, with_row}
use Rattle.broker_rule.specs.Request.{allows, asked, call_of, is_renewal}
use Rattle.broker_rule.specs.Step.{BrokerOutcome, after_sweep, broker_step, by_call, drops, is_drop, lookup_answer, refuses, renewal_answer, renewal_outcome, tells}
use Rattle.broker_rule.specs.Subject.{Subject, bearer, belongs, is_lease_with, is_token_with, lease_with, named_subject, owned, subject, token_with, with_asked, with_bearer}
use Rattle.vault_http.specs.declared.request.Request.{Request}
use Rattle.broker_alike.specs.{Alike.AreDated, Answers.Speaks}

-- what holds of both branches holds of the whole
pub if_both : {X : Type 0} (P : X → Type 0) (b : Bool) (x y : X) → P x → P y → P (cond b x y)
if_both P true x y here there = here
if_both P false x y here there = there

abbrev IsDated : BrokerRow → Type 0
IsDated r = r.issued ≤ LAST

found : (p : BrokerRow → Bool) (rows : List BrokerRow) → All IsDated rows → IfSome (find p rows) IsDated
found p [] all = tt
found p (r ∷ rows) all = if_both (λ o. IfSome o IsDated) (p r) (Some r) (find p rows) (All-head IsDated r rows all) (found p rows (All-tail IsDated r rows all))

abbrev OfSubject : Result Subject Refusal → Type 0
OfSubject (Ok s) = IsDated s.row
OfSubject (Err refusal) = Unit {0}

abbrev OfRow : Result BrokerRow Refusal → Type 0
OfRow (Ok r) = IsDated r
OfRow (Err refusal) = Unit {0}

owned_dated : (token : BrokerRow) (increment : Option ℕ) (o : Option BrokerRow) → IfSome o IsDated → OfSubject (owned token increment o)
owned_dated token increment None lease = tt
owned_dated token increment (Some r) lease = if_both OfSubject (belongs r.parent token.name) (Ok (record { row = r; increment = increment })) (Err PermissionDenied) lease tt

named_dated : (rows : List BrokerRow) → All IsDated rows → (token : BrokerRow) → IsDated token → (increment : Option ℕ) (o : Option (List ℕ)) → OfSubject (named_subject rows token increment o)
unfolding lease_with
named_dated rows all token is increment None = is
named_dated rows all token is increment (Some id) = owned_dated token increment (lease_with rows id) (found (λ r. is_lease_with id r) rows all)

asked_dated : (rows : List BrokerRow) → All IsDated rows → (token : BrokerRow) → IsDated token → (o : Option AskedBody) → OfSubject (with_asked rows token o)
asked_dated rows all token is None = tt
asked_dated rows all token is (Some a) = named_dated rows all token is a.increment a.lease_id

bearer_dated : (rows : List BrokerRow) → All IsDated rows → (call : ApiCall) (body : List ℕ) (o : Option BrokerRow) → IfSome o IsDated → OfSubject (with_bearer rows call body o)
bearer_dated rows all call body None is = tt
bearer_dated rows all call body (Some token) is = asked_dated rows all token is (asked call body)

borne : (rows : List BrokerRow) → All IsDated rows → (o : Option (List ℕ)) → IfSome (bearer rows o) IsDated
unfolding token_with
borne rows all None = tt
borne rows all (Some credential) = found (λ r. is_token_with credential r) rows all

subject_dated : (rows : List BrokerRow) → All IsDated rows → (call : ApiCall) (r : Request) → OfSubject (subject rows call r)
unfolding subject
subject_dated rows all call r = bearer_dated rows all call r.body (bearer rows r.token) (borne rows all r.token)

granted_dated : (fault : Option Fault) (t : ℕ) (x : Result Subject Refusal) → OfSubject x → OfRow (granted_row fault t x)
granted_dated fault t (Err refusal) is = tt
granted_dated fault t (Ok s) is = if_both OfRow s.row.renewable (Ok (record s.row { end = new_end fault t s.row s.increment })) (Err NotRenewable) is tt

renewal_dated : (rows : List BrokerRow) → All IsDated rows → (t : ℕ) (call : ApiCall) (r : Request) (fault : Option Fault) → OfRow (renewal_by_broker rows t call r fault)
unfolding renewal_by_broker
renewal_dated rows all t call r fault = if_both OfRow (is_deny fault) (Err PermissionDenied) (granted_row fault t (subject rows call r)) tt (granted_dated fault t (subject rows call r) (subject_dated rows all call r))

rows_dated : (rows : List BrokerRow) → All IsDated rows → (x : Result BrokerRow Refusal) → OfRow x → All IsDated (rows_after rows x)
unfolding with_row
rows_dated rows all (Err refusal) is = all
rows_dated rows all (Ok row) is =
    All-map IsDated (λ r. cond (bytes_eq r.name row.name) row r) rows (All-weaker IsDated (λ r. IsDated (cond (bytes_eq r.name row.name) row r)) (λ r here. if_both IsDated (bytes_eq r.name row.name) row r is here) rows all)

abbrev Leaves : BrokerOutcome → Type 0
Leaves o = Speaks o.answer × All IsDated o.table.rows

looked_speaks : (call : ApiCall) (x : Result Subject Refusal) → OfSubject x → Speaks (lookup_answer call x)
looked_speaks call (Err refusal) is = tt
looked_speaks call (Ok s) is = is

renewed_speaks : (call : ApiCall) (fault : Option Fault) (x : Result BrokerRow Refusal) → OfRow x → Speaks (renewal_answer call fault x)
renewed_speaks call fault (Err refusal) is = tt
renewed_speaks call fault (Ok row) is = if_both Speaks (is_drop fault) drops (tells call row) tt is

renews_dated : (l : BrokerTable) → AreDated l → (t : ℕ) (call : ApiCall) (r : Request) → Leaves (renewal_outcome l t call r)
unfolding renewal_outcome
renews_dated l all t call r =
    let fault = fault_at l.faults (next_number l.count) in
    let x = renewal_by_broker l.rows t call r fault in
    let is = renewal_dated l.rows all t call r fault in
    (renewed_speaks call fault x is, rows_dated l.rows all x is)

call_dated : (l : BrokerTable) → AreDated l → (t : ℕ) (r : Request) (o : Option ApiCall) → Leaves (by_call l t r o)
call_dated l all t r None = (tt, all)
call_dated l all t r (Some call) =
    let seen : BrokerOutcome = record { answer = lookup_answer call (subject l.rows call r); table = l } in
    let refused : BrokerOutcome = record { answer = refuses UnsupportedMethod; table = l } in
    if_both Leaves (allows call r.method) (cond (is_renewal call) (renewal_outcome l t call r) seen) refused
    (if_both Leaves (is_renewal call) (renewal_outcome l t call r) seen (renews_dated l all t call r) (looked_speaks call (subject l.rows call r) (subject_dated l.rows all call r), all))
    (tt, all)

pub step_dated : (l : BrokerTable) → AreDated l → (t : ℕ) (r : Request) → Speaks (broker_step l t r).answer × AreDated (broker_step l t r).table
unfolding broker_step swept
step_dated l all t r = call_dated (after_sweep l t) (All-filter (lives l.rows t) IsDated l.rows all) t r (call_of r.path)
