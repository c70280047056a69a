-- Kept: what a forest keeps when one entry is written anew; and that two brokers whose tables differ in credentials alone say the
-- same to the renewal that such a forest asks.
use Rattle.std.proofs.Common.{◌≡◌, ◌∙◌, ℕ, ◌<◌, List, length, set, refl, sym, ap, ap₂, subst, inl, inr}
use Rattle.std.proofs.lemmas.{Bool.cases_eq, List.length-set}
use Rattle.vault_exchange.specs.Requests.{asked_as, renewal_request, token_renewal}
use Rattle.vault_inventory.specs.{Inventories.IsInventory, Inventories.credential_at, declared.terms.Terms.Terms}
use Rattle.broker_alike.specs.{Alike.AreTablesAlike, Alike.KeepsSupplied, Answers.OutcomesOf}
use Rattle.broker_alike.proofs.{Looks.token_renewals_both, Steps.by_kind, Steps.steps_both}
use Rattle.plan_forest.specs.{declared.entry.Entry.Entry, declared.entry.Kind.Kind, Forest.Forest, Forest.entry_at}
use Rattle.plan_forest.specs.declared.entry.Kind.TheVariants.{Token, Lease}
use Rattle.plan_forest.proofs.Entries.{entry_at_set_other, entry_at_set_same}
use Rattle.broker_rule.specs.{Granted.call_for, Step.broker_step, Table.BrokerTable}
use Rattle.vault_http.specs.declared.request.Request.{Request}

-- ---- what is kept

pub kept_itself : (g : Forest) → KeepsSupplied g g
kept_itself g = record { count = refl; kinds = λ i. refl; owners = λ i lease. refl; steps = λ i lease. refl }

module _ (g : Forest) where
  -- an entry is written anew
  pub kept_with : (h : Forest) (i : ℕ) (e : Entry) → i < length h.entries → KeepsSupplied g h → e.kind ≡ (entry_at h.entries i).kind →
      ((entry_at g.entries i).kind ≡ Lease → e.parent ≡ (entry_at h.entries i).parent) → ((entry_at g.entries i).kind ≡ Lease → e.step ≡ (entry_at h.entries i).step) → KeepsSupplied g (record h { entries = set h.entries i e })
  kept_with h i e within kept kind parent step =
      let here = entry_at_set_same h.entries i e within in
      record {
        count = length-set h.entries i e ∙ kept.count;
        kinds = λ j. elim (cases_eq j i) as (λ _. (entry_at (set h.entries i e) j).kind ≡ (entry_at g.entries j).kind) [
          | inl same ↦ ap (λ k. (entry_at (set h.entries i e) k).kind) same ∙ ap (λ (x : Entry). x.kind) here ∙ kind ∙ kept.kinds i ∙ ap (λ k. (entry_at g.entries k).kind) (sym same)
          | inr other ↦ ap (λ (x : Entry). x.kind) (entry_at_set_other h.entries i j e other) ∙ kept.kinds j
        ];
        owners = λ j lease. elim (cases_eq j i) as (λ _. (entry_at (set h.entries i e) j).parent ≡ (entry_at g.entries j).parent) [
          | inl same ↦
              let lease_i = ap (λ k. (entry_at g.entries k).kind) (sym same) ∙ lease in
              ap (λ k. (entry_at (set h.entries i e) k).parent) same ∙ ap (λ (x : Entry). x.parent) here ∙ parent lease_i ∙ kept.owners i lease_i ∙ ap (λ k. (entry_at g.entries k).parent) (sym same)
          | inr other ↦ ap (λ (x : Entry). x.parent) (entry_at_set_other h.entries i j e other) ∙ kept.owners j lease
        ];
        steps = λ j lease. elim (cases_eq j i) as (λ _. (entry_at (set h.entries i e) j).step ≡ (entry_at g.entries j).step) [
          | inl same ↦
              let lease_i = ap (λ k. (entry_at g.entries k).kind) (sym same) ∙ lease in
              ap (λ k. (entry_at (set h.entries i e) k).step) same ∙ ap (λ (x : Entry). x.step) here ∙ step lease_i ∙ kept.steps i lease_i ∙ ap (λ k. (entry_at g.entries k).step) (sym same)
          | inr other ↦ ap (λ (x : Entry). x.step) (entry_at_set_other h.entries i j e other) ∙ kept.steps j lease
        ];
      }

-- ---- a renewal

renewal_as : (k : Kind) (port : ℕ) (xs : List (List ℕ)) (i : ℕ) (e : Entry) → k ≡ Token → asked_as k port xs i e ≡ token_renewal port (credential_at xs i) e.step
renewal_as k port xs i e token = ap (λ z. asked_as z port xs i e) token

lease_as : (k : Kind) (port : ℕ) (xs : List (List ℕ)) (i : ℕ) (e f : Entry) → k ≡ Lease → f.parent ≡ e.parent → f.step ≡ e.step → asked_as k port xs i f ≡ asked_as k port xs i e
lease_as Token port xs i e f lease parent step' = absurd cc
lease_as Lease port xs i e f lease parent step' = ap₂ (λ p n. asked_as Lease port xs i (record e { parent = p; step = n })) parent step'

-- the renewal of a token by the step that the forest has, and that of a lease
token_message : (port : ℕ) (xs : List (List ℕ)) (g h : Forest) (i : ℕ) → KeepsSupplied g h → (entry_at g.entries i).kind ≡ Token → renewal_request port xs h i ≡ token_renewal port (credential_at xs i) (entry_at h.entries i).step
unfolding renewal_request
token_message port xs g h i kept token = renewal_as (entry_at h.entries i).kind port xs i (entry_at h.entries i) (kept.kinds i ∙ token)

lease_message : (port : ℕ) (xs : List (List ℕ)) (g h : Forest) (i : ℕ) → KeepsSupplied g h → (entry_at g.entries i).kind ≡ Lease → renewal_request port xs h i ≡ renewal_request port xs g i
unfolding renewal_request
lease_message port xs g h i kept lease =
    lease_as (entry_at h.entries i).kind port xs i (entry_at g.entries i) (entry_at h.entries i) (kept.kinds i ∙ lease) (kept.owners i lease) (kept.steps i lease)
    ∙ ap (λ k. asked_as k port xs i (entry_at g.entries i)) (kept.kinds i)

module _ (g : Forest) (cs ds : List (List ℕ)) (ts : List Terms) (one : IsInventory (record { forest = g; credentials = cs; terms = ts })) (two : IsInventory (record { forest = g; credentials = ds; terms = ts })) where
  pub renewals_both : (port other t i : ℕ) (h : Forest) (l m : BrokerTable) → i < length g.entries → KeepsSupplied g h → AreTablesAlike g cs ds l m →
      OutcomesOf g cs ds (call_for (entry_at g.entries i).kind) i (broker_step l t (renewal_request port cs h i)) (broker_step m t (renewal_request other ds h i))
  renewals_both port other t i h l m within kept alike =
      let kind = (entry_at g.entries i).kind in
      let P : Request → Request → Type 0 = λ r q. OutcomesOf g cs ds (call_for kind) i (broker_step l t r) (broker_step m t q) in
      by_kind kind (P (renewal_request port cs h i) (renewal_request other ds h i))
      (λ token.
      subst (λ r. P r (renewal_request other ds h i)) (sym (token_message port cs g h i kept token))
      (subst (P (token_renewal port (credential_at cs i) (entry_at h.entries i).step)) (sym (token_message other ds g h i kept token))
      (token_renewals_both g cs ds port other t i (entry_at h.entries i).step l m within token alike)))
      (λ lease.
      subst (λ r. P r (renewal_request other ds h i)) (sym (lease_message port cs g h i kept lease))
      (subst (P (renewal_request port cs g i)) (sym (lease_message other ds g h i kept lease)) (steps_both g cs ds ts ts one two port other t i l m within alike)))
