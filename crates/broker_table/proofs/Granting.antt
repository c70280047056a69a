-- One renewal that is served without a fault: what a request for an entry asks is granted to exactly the renewal rule's end
-- where the rule grants it, and is refused elsewhere.
use Rattle.std.proofs.Common.{◌≡◌, ◌==◌, ℕ, ◌+◌, ◌<◌, ◌&&◌, Bool, true, false, not, cond, List, Option, Some, None, is_none, Result, Ok, Err, bytes_eq, length, option_map, refl, sym, ap, ◌∙◌, arith, inl, inr}
use Rattle.std.proofs.lemmas.Bool.{cases_Bool, cond-true, cond-false}
use Rattle.std.specs.Cmp.Lexicographic.{bytes_decides}
use Rattle.plan_forest.specs.{declared.entry.Entry.Entry, declared.entry.Kind.Kind}
use Rattle.plan_forest.specs.declared.entry.Kind.TheVariants.{Token, Lease}
use Rattle.plan_forest.specs.Forest.{Forest, end_of, entry_at}
use Rattle.plan_forest.specs.Push.{IsForest, is_lease, is_under_lease}
use Rattle.plan_forest.specs.Renewal.{capped, is_granted, renewal, renewed}
use Rattle.plan_forest.proofs.{Carrying.and_left, Carrying.and_right, Chains.cases_Option}
use Rattle.vault_inventory.specs.Inventories.{IsInventory, Inventory, credential_at, terms_at}
use Rattle.vault_inventory.proofs.Inventories.{period_is}
use Rattle.vault_http.specs.declared.request.Request.{Request}
use Rattle.broker_rule.specs.{declared.row.BrokerRow.BrokerRow, declared.call.ApiCall.ApiCall, declared.refusal.Refusal.Refusal, Faults.fault_at, Faults.next_number, Table.BrokerTable, Listed.is_entry_alive, Listed.rows_listed}
use Rattle.broker_rule.specs.{Request.asked, Request.is_write, Rows.broker_row, Sweep.swept}
use Rattle.broker_rule.specs.declared.call.ApiCall.TheVariants.{RenewSelf, RenewLease}
use Rattle.broker_rule.specs.declared.refusal.Refusal.TheVariants.{NotRenewable, PermissionDenied, UnknownLease, UnsupportedMethod}
use Rattle.broker_rule.specs.Granted.{AsksRenewal, asked_for, bearer_for, call_for, renewed_row}
use Rattle.broker_rule.specs.Renewing.{granted_row, new_end, renewal_by_broker as renewal_served, step_of_row}
use Rattle.broker_rule.specs.Step.{after_sweep, broker_step, by_call, counted_renewal, refuses as refused, renewal_outcome}
use Rattle.broker_rule.specs.Subject.{bearer, is_lease_with, is_token_with, lease_with, belongs, owned, subject, token_with, with_asked, with_bearer}
use Rattle.broker_table.specs.Laws.{RenewalIsByTheRule, UngrantedIsRefused}
use Rattle.broker_table.proofs.{Ranges.found_lone, Ranges.found_none, Sweeping.alive_up}

cases_Kind : (k : Kind) (P : Type 0) → (k ≡ Token → P) → (k ≡ Lease → P) → P
cases_Kind Token P token lease = token refl
cases_Kind Lease P token lease = lease refl

kind_in : (s : Inventory) (i : ℕ) → (broker_row s i).kind ≡ (entry_at s.forest.entries i).kind
unfolding broker_row
kind_in s i = refl

pub credential_in : (s : Inventory) (i : ℕ) → (broker_row s i).credential ≡ credential_at s.credentials i
unfolding broker_row
credential_in s i = refl

parent_name : (s : Inventory) (i p : ℕ) → (entry_at s.forest.entries i).parent ≡ Some p → (broker_row s i).parent ≡ Some (broker_row s p).name
unfolding broker_row
parent_name s i p child = ap (option_map (λ q. (entry_at s.forest.entries q).name)) child

pub renewable_in : (s : Inventory) (i : ℕ) → (broker_row s i).renewable ≡ (entry_at s.forest.entries i).renewable
unfolding broker_row
renewable_in s i = refl

-- ---- who is found

is_token_there : (s : Inventory) (i : ℕ) → (entry_at s.forest.entries i).kind ≡ Token → is_token_with (credential_at s.credentials i) (broker_row s i) ≡ true
unfolding is_token_with
is_token_there s i token =
    ap (λ k. not (is_lease k) && bytes_eq (broker_row s i).credential (credential_at s.credentials i)) (kind_in s i ∙ token)
    ∙ (bytes_decides (broker_row s i).credential (credential_at s.credentials i)).1 (credential_in s i)

not_lease : (k : Kind) → not (is_lease k) ≡ true → k ≡ Token
not_lease Token e = refl
not_lease Lease e = absurd cc

lease_is : (k : Kind) → is_lease k ≡ true → k ≡ Lease
lease_is Lease e = refl
lease_is Token e = absurd cc

token_hit : (s : Inventory) (c : List ℕ) (j : ℕ) → is_token_with c (broker_row s j) ≡ true → ((entry_at s.forest.entries j).kind ≡ Token) × (credential_at s.credentials j ≡ c)
unfolding is_token_with
token_hit s c j hit =
    let b = bytes_eq (broker_row s j).credential c in (
      sym (kind_in s j) ∙ not_lease (broker_row s j).kind (and_left (not (is_lease (broker_row s j).kind)) b hit),
      sym (credential_in s j) ∙ (bytes_decides (broker_row s j).credential c).0 (and_right (not (is_lease (broker_row s j).kind)) b hit),
    )

token_found :
    (s : Inventory) → IsInventory s → (t i : ℕ) → i < length s.forest.entries → (entry_at s.forest.entries i).kind ≡ Token → is_entry_alive s.forest t i ≡ true →
    token_with (rows_listed s t) (credential_at s.credentials i) ≡ Some (broker_row s i)
unfolding token_with rows_listed
token_found s inventory t i within token alive =
    found_lone (λ r. is_token_with (credential_at s.credentials i) r) (broker_row s) (is_entry_alive s.forest t) i (length s.forest.entries) 0
    (is_token_there s i token) alive (omega arith) (omega arith)
    (λ j low high hit. let is = token_hit s (credential_at s.credentials i) j hit in inventory.apart j i (omega arith) within (is.0 ∙ sym token) is.1)

is_lease_there : (s : Inventory) (i : ℕ) → (entry_at s.forest.entries i).kind ≡ Lease → is_lease_with (credential_at s.credentials i) (broker_row s i) ≡ true
unfolding is_lease_with
is_lease_there s i lease =
    ap (λ k. is_lease k && bytes_eq (broker_row s i).credential (credential_at s.credentials i)) (kind_in s i ∙ lease)
    ∙ (bytes_decides (broker_row s i).credential (credential_at s.credentials i)).1 (credential_in s i)

lease_hit : (s : Inventory) (c : List ℕ) (j : ℕ) → is_lease_with c (broker_row s j) ≡ true → ((entry_at s.forest.entries j).kind ≡ Lease) × (credential_at s.credentials j ≡ c)
unfolding is_lease_with
lease_hit s c j hit =
    let b = bytes_eq (broker_row s j).credential c in (
      sym (kind_in s j) ∙ lease_is (broker_row s j).kind (and_left (is_lease (broker_row s j).kind) b hit),
      sym (credential_in s j) ∙ (bytes_decides (broker_row s j).credential c).0 (and_right (is_lease (broker_row s j).kind) b hit),
    )

lease_found :
    (s : Inventory) → IsInventory s → (t i : ℕ) → i < length s.forest.entries → (entry_at s.forest.entries i).kind ≡ Lease → is_entry_alive s.forest t i ≡ true →
    lease_with (rows_listed s t) (credential_at s.credentials i) ≡ Some (broker_row s i)
unfolding lease_with rows_listed
lease_found s inventory t i within lease alive =
    found_lone (λ r. is_lease_with (credential_at s.credentials i) r) (broker_row s) (is_entry_alive s.forest t) i (length s.forest.entries) 0
    (is_lease_there s i lease) alive (omega arith) (omega arith)
    (λ j low high hit. let is = lease_hit s (credential_at s.credentials i) j hit in inventory.apart j i (omega arith) within (is.0 ∙ sym lease) is.1)

-- ---- of whom the request speaks

subject_token :
    (s : Inventory) → IsInventory s → (t i : ℕ) → i < length s.forest.entries → (entry_at s.forest.entries i).kind ≡ Token → is_entry_alive s.forest t i ≡ true →
    (r : Request) → r.token ≡ Some (credential_at s.credentials i) → asked RenewSelf r.body ≡ Some (asked_for Token (credential_at s.credentials i) (entry_at s.forest.entries i).step) →
    subject (rows_listed s t) RenewSelf r ≡ Ok (record { row = broker_row s i; increment = Some (entry_at s.forest.entries i).step })
unfolding subject
subject_token s inventory t i within token alive r bears body =
    let rows = rows_listed s t in
    ap (λ o. with_bearer rows RenewSelf r.body (bearer rows o)) bears
    ∙ ap (λ o. with_bearer rows RenewSelf r.body o) (token_found s inventory t i within token alive)
    ∙ ap (λ a. with_asked rows (broker_row s i) a) body

not_leased : (k : Kind) → is_lease k ≡ false → k ≡ Token
not_leased Token e = refl
not_leased Lease e = absurd cc

token_under : (es : List Entry) (p : ℕ) → is_under_lease es (Some p) ≡ false → (entry_at es p).kind ≡ Token
unfolding is_under_lease
token_under es p e = not_leased (entry_at es p).kind e

-- a lease has a token over it
lease_has_token : (s : Inventory) → IsForest s.forest → (i : ℕ) → i < length s.forest.entries → (entry_at s.forest.entries i).kind ≡ Lease →
    (p : ℕ) × (((entry_at s.forest.entries i).parent ≡ Some p) × ((p < i) × ((entry_at s.forest.entries p).kind ≡ Token)))
lease_has_token s forest i within lease =
    let es = s.forest.entries in
    let placed = forest.placed i within in
    let some : is_none (entry_at es i).parent ≡ false = sym (ap (λ k. is_lease k && is_none (entry_at es i).parent) lease) ∙ placed.lease_has_token in
    let Goal = (p : ℕ) × (((entry_at es i).parent ≡ Some p) × ((p < i) × ((entry_at es p).kind ≡ Token))) in
    cases_Option (entry_at es i).parent Goal
    (λ root. absurd (let bad : true ≡ false = sym (ap is_none root) ∙ some in cc))
    (λ p child.
    let under : is_under_lease es (Some p) ≡ false = sym (ap (is_under_lease es) child) ∙ placed.parent_is_token in
    (p, (child, (placed.parent_first p child, token_under es p under))))

-- a token may renew its own lease
owner_may : (token lease : BrokerRow) (increment : Option ℕ) → lease.parent ≡ Some token.name → owned token increment (Some lease) ≡ Ok (record { row = lease; increment = increment })
owner_may token lease increment over =
    cond-true (belongs lease.parent token.name) (Ok (record { row = lease; increment = increment })) (Err PermissionDenied)
    (ap (λ o. belongs o token.name) over ∙ (bytes_decides token.name token.name).1 refl)

subject_lease :
    (s : Inventory) → IsInventory s → (t i : ℕ) → i < length s.forest.entries → (entry_at s.forest.entries i).kind ≡ Lease → is_entry_alive s.forest t i ≡ true →
    (r : Request) → r.token ≡ option_map (credential_at s.credentials) (entry_at s.forest.entries i).parent →
    asked RenewLease r.body ≡ Some (asked_for Lease (credential_at s.credentials i) (entry_at s.forest.entries i).step) →
    subject (rows_listed s t) RenewLease r ≡ Ok (record { row = broker_row s i; increment = Some (entry_at s.forest.entries i).step })
unfolding subject
subject_lease s inventory t i within lease alive r bears body =
    let g = s.forest in
    let e = entry_at g.entries i in
    let rows = rows_listed s t in
    let over = lease_has_token s inventory.forest i within lease in
    let p = over.0 in
    let child = over.1.0 in
    let first : p < i = over.1.1.0 in
    ap (λ o. with_bearer rows RenewLease r.body (bearer rows o)) bears
    ∙ ap (λ o. with_bearer rows RenewLease r.body (bearer rows (option_map (credential_at s.credentials) o))) child
    ∙ ap (λ o. with_bearer rows RenewLease r.body o) (token_found s inventory t p (omega arith) over.1.1.1 (alive_up g inventory.forest t i p child alive))
    ∙ ap (λ a. with_asked rows (broker_row s p) a) body
    ∙ ap (λ o. owned (broker_row s p) (Some e.step) o) (lease_found s inventory t i within lease alive)
    ∙ owner_may (broker_row s p) (broker_row s i) (Some e.step) (parent_name s i p child)

subject_is :
    (s : Inventory) → IsInventory s → (t i : ℕ) → i < length s.forest.entries → is_entry_alive s.forest t i ≡ true → (r : Request) → AsksRenewal s i r →
    subject (rows_listed s t) (call_for (entry_at s.forest.entries i).kind) r ≡ Ok (record { row = broker_row s i; increment = Some (entry_at s.forest.entries i).step })
subject_is s inventory t i within alive r asks =
    let e = entry_at s.forest.entries i in
    let c = credential_at s.credentials i in
    cases_Kind e.kind (subject (rows_listed s t) (call_for e.kind) r ≡ Ok (record { row = broker_row s i; increment = Some e.step }))
    (λ token.
    ap (λ k. subject (rows_listed s t) (call_for k) r) token
    ∙ subject_token s inventory t i within token alive r (asks.token ∙ ap (λ k. bearer_for k s i) token)
    (sym (ap (λ k. asked (call_for k) r.body) token) ∙ asks.body ∙ ap (λ k. Some (asked_for k c e.step)) token))
    (λ lease.
    ap (λ k. subject (rows_listed s t) (call_for k) r) lease
    ∙ subject_lease s inventory t i within lease alive r (asks.token ∙ ap (λ k. bearer_for k s i) lease)
    (sym (ap (λ k. asked (call_for k) r.body) lease) ∙ asks.body ∙ ap (λ k. Some (asked_for k c e.step)) lease))

-- ---- the end that it gives

same_cond : (b : Bool) (n : ℕ) → cond b n n ≡ n
same_cond true n = refl
same_cond false n = refl

step_is : (s : Inventory) → IsInventory s → (i : ℕ) → i < length s.forest.entries → step_of_row (broker_row s i) (Some (entry_at s.forest.entries i).step) ≡ (entry_at s.forest.entries i).step
unfolding step_of_row broker_row
step_is s inventory i within =
    let period = (terms_at s.terms i).period in
    let step = (entry_at s.forest.entries i).step in
    elim (cases_Bool (period == 0)) [
      | inl none ↦ cond-true (period == 0) (cond (step == 0) step step) period none ∙ same_cond (step == 0) step
      | inr some ↦ cond-false (period == 0) (cond (step == 0) step step) period some ∙ sym (period_is s inventory i within some)
    ]

ceiling_in : (s : Inventory) (i : ℕ) → (broker_row s i).ceiling ≡ (entry_at s.forest.entries i).ceiling
unfolding broker_row
ceiling_in s i = refl

end_is : (s : Inventory) → IsInventory s → (t i : ℕ) → i < length s.forest.entries → new_end None t (broker_row s i) (Some (entry_at s.forest.entries i).step) ≡ renewal (entry_at s.forest.entries i) t
unfolding new_end renewal
end_is s inventory t i within =
    ap (λ n. capped (broker_row s i).ceiling (t + n)) (step_is s inventory i within) ∙ ap (λ c. capped c (t + (entry_at s.forest.entries i).step)) (ceiling_in s i)

-- ---- the step

granted_is :
    (s : Inventory) → IsInventory s → (t i : ℕ) → i < length s.forest.entries → (entry_at s.forest.entries i).renewable ≡ true → is_entry_alive s.forest t i ≡ true → (r : Request) → AsksRenewal s i r →
    renewal_served (rows_listed s t) t (call_for (entry_at s.forest.entries i).kind) r None ≡ Ok (record (broker_row s i) { end = renewal (entry_at s.forest.entries i) t })
unfolding renewal_served
granted_is s inventory t i within able alive r asks =
    let e = entry_at s.forest.entries i in
    let row = broker_row s i in
    ap (granted_row None t) (subject_is s inventory t i within alive r asks)
    ∙ cond-true row.renewable (Ok (record row { end = new_end None t row (Some e.step) })) (Err NotRenewable) (renewable_in s i ∙ able)
    ∙ ap (λ n. Ok (record row { end = n })) (end_is s inventory t i within)

allowed : (l : BrokerTable) (t : ℕ) (r : Request) (k : Kind) → is_write r.method ≡ true → by_call l t r (Some (call_for k)) ≡ renewal_outcome l t (call_for k) r
allowed l t r Token write = cond-true (is_write r.method) (renewal_outcome l t RenewSelf r) (record { answer = refused UnsupportedMethod; table = l }) write
allowed l t r Lease write = cond-true (is_write r.method) (renewal_outcome l t RenewLease r) (record { answer = refused UnsupportedMethod; table = l }) write

renews_plain :
    (l : BrokerTable) (t : ℕ) (call : ApiCall) (r : Request) → fault_at l.faults (next_number l.count) ≡ None →
    renewal_outcome l t call r ≡ counted_renewal l (next_number l.count) call None (renewal_served l.rows t call r None)
unfolding renewal_outcome
renews_plain l t call r none = ap (λ f. counted_renewal l (next_number l.count) call f (renewal_served l.rows t call r f)) none

-- what the rule grants is renewable and alive
grant_parts : (g : Forest) (t i : ℕ) → is_granted g.entries 1 (end_of g.entries) t i ≡ true → ((entry_at g.entries i).renewable ≡ true) × (is_entry_alive g t i ≡ true)
unfolding is_granted is_entry_alive
grant_parts g t i grant = (and_left (entry_at g.entries i).renewable _ grant, and_right (entry_at g.entries i).renewable _ grant)

-- and its row is renewed to the rule's end
pub renewed_by : (s : Inventory) (t i : ℕ) → is_granted s.forest.entries 1 (end_of s.forest.entries) t i ≡ true → record (broker_row s i) { end = renewal (entry_at s.forest.entries i) t } ≡ renewed_row s t i
unfolding renewed_row renewed
renewed_by s t i grant =
    ap (λ n. record (broker_row s i) { end = n })
    (sym (cond-true (is_granted s.forest.entries 1 (end_of s.forest.entries) t i) (renewal (entry_at s.forest.entries i) t) (end_of s.forest.entries i) grant))

-- a renewal without a fault is counted with what it comes to
serves : (s : Inventory) (t i : ℕ) (l : BrokerTable) → swept t l.rows ≡ rows_listed s t → fault_at l.faults (next_number l.count) ≡ None → (r : Request) → AsksRenewal s i r →
    (found : Result BrokerRow Refusal) → renewal_served (rows_listed s t) t (call_for (entry_at s.forest.entries i).kind) r None ≡ found →
    broker_step l t r ≡ counted_renewal (record { rows = rows_listed s t; faults = l.faults; count = l.count }) (next_number l.count) (call_for (entry_at s.forest.entries i).kind) None found
unfolding broker_step
serves s t i l same none r asks found is =
    let k = (entry_at s.forest.entries i).kind in
    let left : BrokerTable = record { rows = rows_listed s t; faults = l.faults; count = l.count } in
    ap (by_call (after_sweep l t) t r) asks.call
    ∙ allowed (after_sweep l t) t r k asks.method
    ∙ ap (λ rows. renewal_outcome (record { rows = rows; faults = l.faults; count = l.count }) t (call_for k) r) same
    ∙ renews_plain left t (call_for k) r none
    ∙ ap (λ x. counted_renewal left (next_number l.count) (call_for k) None x) is

pub by_the_rule : RenewalIsByTheRule
by_the_rule s inventory t i within grant l same none r asks =
    let parts = grant_parts s.forest t i grant in
    serves s t i l same none r asks (Ok (renewed_row s t i)) (granted_is s inventory t i within parts.0 parts.1 r asks ∙ ap (λ row. Ok row) (renewed_by s t i grant))

-- ---- what the rule does not grant

token_gone :
    (s : Inventory) → IsInventory s → (t i : ℕ) → i < length s.forest.entries → (entry_at s.forest.entries i).kind ≡ Token → is_entry_alive s.forest t i ≡ false →
    token_with (rows_listed s t) (credential_at s.credentials i) ≡ None
unfolding token_with rows_listed
token_gone s inventory t i within token gone =
    found_none (λ r. is_token_with (credential_at s.credentials i) r) (broker_row s) (is_entry_alive s.forest t) (length s.forest.entries) 0
    (λ j low high alive hit.
    let is = token_hit s (credential_at s.credentials i) j hit in
    let same : j ≡ i = inventory.apart j i (omega arith) within (is.0 ∙ sym token) is.1 in
    let bad : true ≡ false = sym alive ∙ ap (is_entry_alive s.forest t) same ∙ gone in cc)

lease_gone :
    (s : Inventory) → IsInventory s → (t i : ℕ) → i < length s.forest.entries → (entry_at s.forest.entries i).kind ≡ Lease → is_entry_alive s.forest t i ≡ false →
    lease_with (rows_listed s t) (credential_at s.credentials i) ≡ None
unfolding lease_with rows_listed
lease_gone s inventory t i within lease gone =
    found_none (λ r. is_lease_with (credential_at s.credentials i) r) (broker_row s) (is_entry_alive s.forest t) (length s.forest.entries) 0
    (λ j low high alive hit.
    let is = lease_hit s (credential_at s.credentials i) j hit in
    let same : j ≡ i = inventory.apart j i (omega arith) within (is.0 ∙ sym lease) is.1 in
    let bad : true ≡ false = sym alive ∙ ap (is_entry_alive s.forest t) same ∙ gone in cc)

-- a token that is not listed is not let in
denied : (s : Inventory) → IsInventory s → (t i : ℕ) → i < length s.forest.entries → (entry_at s.forest.entries i).kind ≡ Token → is_entry_alive s.forest t i ≡ false →
    (call : ApiCall) (r : Request) → r.token ≡ Some (credential_at s.credentials i) → subject (rows_listed s t) call r ≡ Err PermissionDenied
unfolding subject
denied s inventory t i within token gone call r bears =
    let rows = rows_listed s t in
    ap (λ o. with_bearer rows call r.body (bearer rows o)) bears
    ∙ ap (λ o. with_bearer rows call r.body o) (token_gone s inventory t i within token gone)

-- nor is a lease found that is not
unknown : (s : Inventory) → IsInventory s → (t i p : ℕ) → i < length s.forest.entries → (entry_at s.forest.entries i).kind ≡ Lease → is_entry_alive s.forest t i ≡ false →
    p < length s.forest.entries → (entry_at s.forest.entries p).kind ≡ Token → is_entry_alive s.forest t p ≡ true →
    (r : Request) → r.token ≡ Some (credential_at s.credentials p) → asked RenewLease r.body ≡ Some (asked_for Lease (credential_at s.credentials i) (entry_at s.forest.entries i).step) →
    subject (rows_listed s t) RenewLease r ≡ Err UnknownLease
unfolding subject
unknown s inventory t i p within lease gone inside token alive r bears body =
    let rows = rows_listed s t in
    ap (λ o. with_bearer rows RenewLease r.body (bearer rows o)) bears
    ∙ ap (λ o. with_bearer rows RenewLease r.body o) (token_found s inventory t p inside token alive)
    ∙ ap (λ a. with_asked rows (broker_row s p) a) body
    ∙ ap (λ o. owned (broker_row s p) (Some (entry_at s.forest.entries i).step) o) (lease_gone s inventory t i within lease gone)

abbrev IsRefused : Inventory → ℕ → ℕ → Request → Type 0
IsRefused s t i r = (refusal : Refusal) × (subject (rows_listed s t) (call_for (entry_at s.forest.entries i).kind) r ≡ Err refusal)

gone_lease : (s : Inventory) → IsInventory s → (t i : ℕ) → i < length s.forest.entries → (entry_at s.forest.entries i).kind ≡ Lease → is_entry_alive s.forest t i ≡ false →
    (r : Request) → r.token ≡ option_map (credential_at s.credentials) (entry_at s.forest.entries i).parent →
    asked RenewLease r.body ≡ Some (asked_for Lease (credential_at s.credentials i) (entry_at s.forest.entries i).step) →
    (refusal : Refusal) × (subject (rows_listed s t) RenewLease r ≡ Err refusal)
gone_lease s inventory t i within lease gone r bears body =
    let over = lease_has_token s inventory.forest i within lease in
    let p = over.0 in
    let first : p < i = over.1.1.0 in
    let inside : p < length s.forest.entries = omega arith in
    let carries = bears ∙ ap (option_map (credential_at s.credentials)) over.1.0 in
    elim (cases_Bool (is_entry_alive s.forest t p)) [
      | inl alive ↦ (UnknownLease, unknown s inventory t i p within lease gone inside over.1.1.1 alive r carries body)
      | inr ended ↦ (PermissionDenied, denied s inventory t p inside over.1.1.1 ended RenewLease r carries)
    ]

gone_is : (s : Inventory) → IsInventory s → (t i : ℕ) → i < length s.forest.entries → is_entry_alive s.forest t i ≡ false → (r : Request) → AsksRenewal s i r → IsRefused s t i r
gone_is s inventory t i within gone r asks =
    let e = entry_at s.forest.entries i in
    let c = credential_at s.credentials i in
    cases_Kind e.kind (IsRefused s t i r)
    (λ token. (
      PermissionDenied,
      ap (λ k. subject (rows_listed s t) (call_for k) r) token ∙ denied s inventory t i within token gone RenewSelf r (asks.token ∙ ap (λ k. bearer_for k s i) token),
    ))
    (λ lease.
    let w = gone_lease s inventory t i within lease gone r (asks.token ∙ ap (λ k. bearer_for k s i) lease)
    (sym (ap (λ k. asked (call_for k) r.body) lease) ∙ asks.body ∙ ap (λ k. Some (asked_for k c e.step)) lease) in
    (w.0, ap (λ k. subject (rows_listed s t) (call_for k) r) lease ∙ w.1))

not_both : (a b : Bool) → a && b ≡ false → b ≡ true → a ≡ false
not_both true b e h = sym h ∙ e
not_both false b e h = refl

not_renewable : (g : Forest) (t i : ℕ) → is_granted g.entries 1 (end_of g.entries) t i ≡ false → is_entry_alive g t i ≡ true → (entry_at g.entries i).renewable ≡ false
unfolding is_granted is_entry_alive
not_renewable g t i ungrant alive = not_both (entry_at g.entries i).renewable _ ungrant alive

refused_is : (s : Inventory) → IsInventory s → (t i : ℕ) → i < length s.forest.entries → is_granted s.forest.entries 1 (end_of s.forest.entries) t i ≡ false → (r : Request) → AsksRenewal s i r →
    (refusal : Refusal) × (renewal_served (rows_listed s t) t (call_for (entry_at s.forest.entries i).kind) r None ≡ Err refusal)
unfolding renewal_served
refused_is s inventory t i within ungrant r asks =
    let e = entry_at s.forest.entries i in
    let row = broker_row s i in
    elim (cases_Bool (is_entry_alive s.forest t i)) [
      | inl alive ↦ (
        NotRenewable,
        ap (granted_row None t) (subject_is s inventory t i within alive r asks)
            ∙ cond-false row.renewable (Ok (record row { end = new_end None t row (Some e.step) })) (Err NotRenewable) (renewable_in s i ∙ not_renewable s.forest t i ungrant alive),
      )
      | inr gone ↦ (let w = gone_is s inventory t i within gone r asks in (w.0, ap (granted_row None t) w.1))
    ]

pub ungranted : UngrantedIsRefused
ungranted s inventory t i within ungrant l same none r asks =
    let w = refused_is s inventory t i within ungrant r asks in
    (w.0, serves s t i l same none r asks (Err w.0) w.1)
