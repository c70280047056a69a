-- Steps: two brokers whose tables differ in credentials alone say the same to the renewal of an entry, and their tables
-- differ in no more after it.
use Rattle.std.proofs.Common.{◌≡◌, ◌∙◌, ℕ, ◌<◌, ◌&&◌, Bool, true, false, not, List, Option, Some, None, is_none, Result, Ok, Err, bytes_eq, length, option_map, refl, sym, ap, subst, arith}
use Rattle.std.proofs.lemmas.Bool.{cond-true}
use Rattle.std.specs.{Cmp.Lexicographic.bytes_decides, List.AllZip}
use Rattle.plan_forest.specs.{declared.entry.Kind.Kind, declared.entry.Entry.Entry, Forest.Forest, Forest.entry_at}
use Rattle.plan_forest.specs.declared.entry.Kind.TheVariants.{Token, Lease}
use Rattle.plan_forest.specs.Push.{IsForest, is_lease, is_under_lease}
use Rattle.plan_forest.proofs.{Carrying.and_right, Chains.cases_Option}
use Rattle.vault_inventory.specs.declared.terms.Terms.{Terms}
use Rattle.vault_inventory.specs.Inventories.{IsInventory, Inventory, credential_at}
use Rattle.vault_http.specs.declared.request.Request.{Request}
use Rattle.broker_rule.specs.{declared.row.BrokerRow.BrokerRow, declared.call.ApiCall.ApiCall, declared.fault.Fault.Fault, declared.refusal.Refusal.Refusal, Table.BrokerTable, Request.asked, Request.is_write}
use Rattle.broker_rule.specs.declared.call.ApiCall.TheVariants.{RenewSelf, RenewLease}
use Rattle.broker_rule.specs.declared.refusal.Refusal.TheVariants.{NotRenewable, PermissionDenied, UnsupportedMethod}
use Rattle.broker_rule.specs.Faults.{fault_at, next_number, without_fault}
use Rattle.broker_rule.specs.Granted.{AsksRenewal, asked_for, bearer_for, call_for}
use Rattle.broker_rule.specs.Renewing.{granted_row, is_deny, new_end, renewal_by_broker, step_of_row}
use Rattle.broker_rule.specs.Step.{after_sweep, broker_step, by_call, counted_renewal, drops, is_drop, refuses, renewal_outcome, tells}
use Rattle.broker_rule.specs.Subject.{Subject, bearer, belongs, is_lease_with, is_token_with, lease_with, owned, subject, token_with, with_asked, with_bearer}
use Rattle.vault_exchange.specs.Requests.{renewal_request}
use Rattle.broker_alike.specs.Alike.{AreRowsAlike, AreTablesAlike}
use Rattle.broker_alike.specs.Answers.{AnswersOf, OutcomesOf, RowsOf}
use Rattle.broker_alike.proofs.Asking.{asks_renewal}
use Rattle.broker_alike.proofs.Rows.{BothFound, by_test, lease_found_both, name_both, swept_both, token_found_both, with_both}

pub as_both : {X Y : Type 0} (P : X → Y → Type 0) (a b : X) (c d : Y) → b ≡ a → d ≡ c → P a c → P b d
as_both P a b c d left right is = subst (λ x. P x d) (sym left) (subst (P a) (sym right) is)

pub by_kind : (k : Kind) (P : Type 0) → (k ≡ Token → P) → (k ≡ Lease → P) → P
by_kind Token P token lease = token refl
by_kind Lease P token lease = lease refl

not_leased : (k : Kind) → is_lease k ≡ false → k ≡ Token
not_leased Token e = refl
not_leased Lease e = absurd cc

token_under : (es : List Entry) (p : ℕ) → is_under_lease es (Some p) ≡ false → (entry_at es p).kind ≡ Token
unfolding is_under_lease
token_under es p e = not_leased (entry_at es p).kind e

-- the token that a lease belongs to
abbrev HasOwner : Forest → ℕ → Type 0
HasOwner g i = (p : ℕ) × (((entry_at g.entries i).parent ≡ Some p) × ((p < i) × ((entry_at g.entries p).kind ≡ Token)))

pub owner_of : (g : Forest) → IsForest g → (i : ℕ) → i < length g.entries → (entry_at g.entries i).kind ≡ Lease → HasOwner g i
owner_of g forest i within lease =
    let es = g.entries in
    let placed = forest.placed i within in
    let some : is_none (entry_at es i).parent ≡ false = sym (ap (λ k. is_lease k && is_none (entry_at es i).parent) lease) ∙ placed.lease_has_token in
    cases_Option (entry_at es i).parent (HasOwner g i)
    (λ root. absurd (let bad : true ≡ false = sym (ap is_none root) ∙ some in cc))
    (λ p child. (p, (child, (placed.parent_first p child, token_under es p (sym (ap (is_under_lease es) child) ∙ placed.parent_is_token)))))

-- ---- of whom a request speaks

pub by_token : Option ℕ → Option BrokerRow → Result Subject Refusal
by_token n None = Err PermissionDenied
by_token n (Some r) = Ok (record { row = r; increment = n })

pub by_owner : List BrokerRow → List ℕ → Option ℕ → Option BrokerRow → Result Subject Refusal
by_owner rows id n None = Err PermissionDenied
by_owner rows id n (Some token) = owned token n (lease_with rows id)

token_told : (rows : List BrokerRow) (call : ApiCall) (body : List ℕ) (n : Option ℕ) → asked call body ≡ Some (record { lease_id = None; increment = n }) → (o : Option BrokerRow) → with_bearer rows call body o ≡ by_token n o
unfolding by_token
token_told rows call body n is None = refl
token_told rows call body n is (Some token) = ap (with_asked rows token) is

lease_told : (rows : List BrokerRow) (call : ApiCall) (body c : List ℕ) (n : Option ℕ) → asked call body ≡ Some (record { lease_id = Some c; increment = n }) → (o : Option BrokerRow) → with_bearer rows call body o ≡ by_owner rows c n o
unfolding by_owner
lease_told rows call body c n is None = refl
lease_told rows call body c n is (Some token) = ap (with_asked rows token) is

pub token_subject : (rows : List BrokerRow) (call : ApiCall) (r : Request) (c : List ℕ) (n : Option ℕ) → r.token ≡ Some c → asked call r.body ≡ Some (record { lease_id = None; increment = n }) →
    subject rows call r ≡ by_token n (token_with rows c)
unfolding subject
token_subject rows call r c n bears body = ap (λ o. with_bearer rows call r.body (bearer rows o)) bears ∙ token_told rows call r.body n body (token_with rows c)

pub lease_subject : (rows : List BrokerRow) (call : ApiCall) (r : Request) (owner c : List ℕ) (n : Option ℕ) → r.token ≡ Some owner → asked call r.body ≡ Some (record { lease_id = Some c; increment = n }) →
    subject rows call r ≡ by_owner rows c n (token_with rows owner)
unfolding subject
lease_subject rows call r owner c n bears body = ap (λ o. with_bearer rows call r.body (bearer rows o)) bears ∙ lease_told rows call r.body c n body (token_with rows owner)

allowed : (l : BrokerTable) (t : ℕ) (r : Request) (k : Kind) → is_write r.method ≡ true → by_call l t r (Some (call_for k)) ≡ renewal_outcome l t (call_for k) r
allowed l t r Token write = cond-true (is_write r.method) (renewal_outcome l t RenewSelf r) (record { answer = refuses UnsupportedMethod; table = l }) write
allowed l t r Lease write = cond-true (is_write r.method) (renewal_outcome l t RenewLease r) (record { answer = refuses UnsupportedMethod; table = l }) write

credential_hit : (c : List ℕ) (b : Bool) (r : BrokerRow) → b && bytes_eq r.credential c ≡ true → r.credential ≡ c
credential_hit c b r hit = (bytes_decides r.credential c).0 (and_right b (bytes_eq r.credential c) hit)

token_hit : (c : List ℕ) (r : BrokerRow) → is_token_with c r ≡ true → r.credential ≡ c
unfolding is_token_with
token_hit c r hit = credential_hit c (not (is_lease r.kind)) r hit

lease_hit : (c : List ℕ) (r : BrokerRow) → is_lease_with c r ≡ true → r.credential ≡ c
unfolding is_lease_with
lease_hit c r hit = credential_hit c (is_lease r.kind) r hit

same_end : (fault : Option Fault) (t : ℕ) (r q : BrokerRow) (x y : Option ℕ) → q ≡ record r { credential = q.credential } → y ≡ x → new_end fault t q y ≡ new_end fault t r x
unfolding new_end step_of_row
same_end fault t r q x y same increment = ap (λ (row : BrokerRow). new_end fault t row y) same ∙ ap (new_end fault t r) increment

module _ (g : Forest) (cs ds : List (List ℕ)) where
  abbrev R : BrokerRow → BrokerRow → Type 0
  R = AreRowsAlike g cs ds

  abbrev pub SubjectsOf : ℕ → Result Subject Refusal → Result Subject Refusal → Type 0
  SubjectsOf i (Err x) (Err y) = y ≡ x
  SubjectsOf i (Ok a) (Ok b) = RowsOf g cs ds i a.row b.row × (b.increment ≡ a.increment)
  SubjectsOf i _ _ = ⊥

  abbrev RenewedOf : ℕ → Result BrokerRow Refusal → Result BrokerRow Refusal → Type 0
  RenewedOf i (Err x) (Err y) = y ≡ x
  RenewedOf i (Ok r) (Ok q) = RowsOf g cs ds i r q
  RenewedOf i _ _ = ⊥

  pub token_both : (i : ℕ) (n : Option ℕ) (x y : Option BrokerRow) → BothFound R (is_token_with (credential_at cs i)) (is_token_with (credential_at ds i)) x y → SubjectsOf i (by_token n x) (by_token n y)
  unfolding by_token
  token_both i n None None both = refl
  token_both i n (Some r) (Some q) both = ((both.0, (token_hit (credential_at cs i) r both.1.0, token_hit (credential_at ds i) q both.1.1)), refl)
  token_both i n _ _ both = absurd both

  belongs_both : (r q a b : BrokerRow) → R r q → R a b → belongs q.parent b.name ≡ belongs r.parent a.name
  belongs_both r q a b one two = ap (λ n. belongs q.parent n) (name_both g cs ds a b two) ∙ ap (λ (x : BrokerRow). belongs x.parent a.name) one.same

  owned_both : (i : ℕ) (n : Option ℕ) (a b : BrokerRow) → R a b → (x y : Option BrokerRow) → BothFound R (is_lease_with (credential_at cs i)) (is_lease_with (credential_at ds i)) x y → SubjectsOf i (owned a n x) (owned b n y)
  owned_both i n a b two None None both = refl
  owned_both i n a b two (Some r) (Some q) both =
      by_test (SubjectsOf i) (belongs r.parent a.name) (belongs q.parent b.name) (Ok (record { row = r; increment = n })) (Err PermissionDenied) (Ok (record { row = q; increment = n })) (Err PermissionDenied)
      (belongs_both r q a b both.0 two) (λ hit. ((both.0, (lease_hit (credential_at cs i) r both.1.0, lease_hit (credential_at ds i) q both.1.1)), refl)) (λ miss. refl)
  owned_both i n a b two _ _ both = absurd both

  pub owner_both : (i : ℕ) (n : Option ℕ) (c d : List ℕ) (xs ys : List BrokerRow) → BothFound R (is_lease_with (credential_at cs i)) (is_lease_with (credential_at ds i)) (lease_with xs (credential_at cs i)) (lease_with ys (credential_at ds i)) →
      (x y : Option BrokerRow) → BothFound R (is_token_with c) (is_token_with d) x y → SubjectsOf i (by_owner xs (credential_at cs i) n x) (by_owner ys (credential_at ds i) n y)
  unfolding by_owner
  owner_both i n c d xs ys leases None None both = refl
  owner_both i n c d xs ys leases (Some a) (Some b) both = owned_both i n a b both.0 (lease_with xs (credential_at cs i)) (lease_with ys (credential_at ds i)) leases
  owner_both i n c d xs ys leases _ _ both = absurd both

  -- ---- what a renewal leaves

  with_end : (i m n : ℕ) (r q : BrokerRow) → RowsOf g cs ds i r q → n ≡ m → RowsOf g cs ds i (record r { end = m }) (record q { end = n })
  with_end i m n r q a is = (
    record {
      same = ap (λ (row : BrokerRow). record row { end = n }) a.0.same ∙ ap (λ k. record r { end = k; credential = q.credential }) is;
      found = a.0.found;
    },
    a.1,
  )

  granted_both : (i t : ℕ) (fault : Option Fault) (x y : Result Subject Refusal) → SubjectsOf i x y → RenewedOf i (granted_row fault t x) (granted_row fault t y)
  granted_both i t fault (Err x) (Err y) same = same
  granted_both i t fault (Ok a) (Ok b) same =
      by_test (RenewedOf i) a.row.renewable b.row.renewable (Ok (record a.row { end = new_end fault t a.row a.increment })) (Err NotRenewable) (Ok (record b.row { end = new_end fault t b.row b.increment })) (Err NotRenewable)
      (ap (λ (row : BrokerRow). row.renewable) same.0.0.same)
      (λ able. with_end i (new_end fault t a.row a.increment) (new_end fault t b.row b.increment) a.row b.row same.0 (same_end fault t a.row b.row a.increment b.increment same.0.0.same same.1))
      (λ unable. refl)
  granted_both i t fault _ _ same = absurd same

  renewal_both : (i t : ℕ) (xs ys : List BrokerRow) (call : ApiCall) (r q : Request) (fault : Option Fault) → SubjectsOf i (subject xs call r) (subject ys call q) → RenewedOf i (renewal_by_broker xs t call r fault) (renewal_by_broker ys t call q fault)
  unfolding renewal_by_broker
  renewal_both i t xs ys call r q fault same =
      by_test (RenewedOf i) (is_deny fault) (is_deny fault) (Err PermissionDenied) (granted_row fault t (subject xs call r)) (Err PermissionDenied) (granted_row fault t (subject ys call q)) refl
      (λ deny. refl) (λ none. granted_both i t fault (subject xs call r) (subject ys call q) same)

  counted_both : (i n : ℕ) (l m : BrokerTable) (fault : Option Fault) (x y : Result BrokerRow Refusal) → AreTablesAlike g cs ds l m → RenewedOf i x y →
      OutcomesOf g cs ds (call_for (entry_at g.entries i).kind) i (counted_renewal l n (call_for (entry_at g.entries i).kind) fault x) (counted_renewal m n (call_for (entry_at g.entries i).kind) fault y)
  counted_both i n l m fault (Err x) (Err y) a same = (same, record { rows = a.rows; faults = ap (λ fs. without_fault fs n) a.faults; count = refl })
  counted_both i n l m fault (Ok r) (Ok q) a same =
      let call = call_for (entry_at g.entries i).kind in (
        by_test (AnswersOf g cs ds call i) (is_drop fault) (is_drop fault) drops (tells call r) drops (tells call q) refl (λ dropped. tt) (λ told. (refl, (refl, same))),
        record { rows = with_both g cs ds l.rows m.rows a.rows r q same.0; faults = ap (λ fs. without_fault fs n) a.faults; count = refl },
      )
  counted_both i n l m fault _ _ a same = absurd same

  pub renews_both : (i t : ℕ) (l m : BrokerTable) (r q : Request) → AreTablesAlike g cs ds l m → SubjectsOf i (subject l.rows (call_for (entry_at g.entries i).kind) r) (subject m.rows (call_for (entry_at g.entries i).kind) q) →
      OutcomesOf g cs ds (call_for (entry_at g.entries i).kind) i (renewal_outcome l t (call_for (entry_at g.entries i).kind) r) (renewal_outcome m t (call_for (entry_at g.entries i).kind) q)
  unfolding renewal_outcome
  renews_both i t l m r q a same =
      let call = call_for (entry_at g.entries i).kind in
      let n = next_number l.count in
      let fault = fault_at l.faults n in
      let found : RenewedOf i (renewal_by_broker l.rows t call r fault) (renewal_by_broker m.rows t call q fault) = renewal_both i t l.rows m.rows call r q fault same in
      let one : OutcomesOf g cs ds call i (counted_renewal l n call fault (renewal_by_broker l.rows t call r fault)) (counted_renewal m n call fault (renewal_by_broker m.rows t call q fault)) =
      counted_both i n l m fault (renewal_by_broker l.rows t call r fault) (renewal_by_broker m.rows t call q fault) a found in
      let two = subst (λ k. OutcomesOf g cs ds call i (counted_renewal l n call fault (renewal_by_broker l.rows t call r fault)) (counted_renewal m k call (fault_at l.faults k) (renewal_by_broker m.rows t call q (fault_at l.faults k)))) (sym (ap next_number a.count)) one in
      let k = next_number m.count in
      subst (λ fs. OutcomesOf g cs ds call i (counted_renewal l n call fault (renewal_by_broker l.rows t call r fault)) (counted_renewal m k call (fault_at fs k) (renewal_by_broker m.rows t call q (fault_at fs k)))) (sym a.faults) two

  -- ---- the step

  pub swept_tables : (t : ℕ) (l m : BrokerTable) → AreTablesAlike g cs ds l m → AreTablesAlike g cs ds (after_sweep l t) (after_sweep m t)
  swept_tables t l m a = record { rows = swept_both g cs ds l.rows m.rows a.rows t; faults = a.faults; count = a.count }

  module _ (ts us : List Terms) (one : IsInventory (record { forest = g; credentials = cs; terms = ts })) (two : IsInventory (record { forest = g; credentials = ds; terms = us })) where
    s : Inventory
    s = record { forest = g; credentials = cs; terms = ts }

    u : Inventory
    u = record { forest = g; credentials = ds; terms = us }

    subjects_both : (i : ℕ) (r q : Request) (xs ys : List BrokerRow) → i < length g.entries → AllZip R xs ys → AsksRenewal s i r → AsksRenewal u i q →
        SubjectsOf i (subject xs (call_for (entry_at g.entries i).kind) r) (subject ys (call_for (entry_at g.entries i).kind) q)
    unfolding s u
    subjects_both i r q xs ys within zip a b =
        let e = entry_at g.entries i in
        let c = credential_at cs i in
        let d = credential_at ds i in
        by_kind e.kind (SubjectsOf i (subject xs (call_for e.kind) r) (subject ys (call_for e.kind) q))
        (λ token.
        as_both (SubjectsOf i) (by_token (Some e.step) (token_with xs c)) (subject xs (call_for e.kind) r) (by_token (Some e.step) (token_with ys d)) (subject ys (call_for e.kind) q)
        (ap (λ k. subject xs (call_for k) r) token
        ∙ token_subject xs RenewSelf r c (Some e.step) (a.token ∙ ap (λ k. bearer_for k s i) token) (sym (ap (λ k. asked (call_for k) r.body) token) ∙ a.body ∙ ap (λ k. Some (asked_for k c e.step)) token))
        (ap (λ k. subject ys (call_for k) q) token
        ∙ token_subject ys RenewSelf q d (Some e.step) (b.token ∙ ap (λ k. bearer_for k u i) token) (sym (ap (λ k. asked (call_for k) q.body) token) ∙ b.body ∙ ap (λ k. Some (asked_for k d e.step)) token))
        (token_both i (Some e.step) (token_with xs c) (token_with ys d) (token_found_both g cs ds xs ys zip i within token)))
        (λ lease.
        let over = owner_of g one.forest i within lease in
        let p = over.0 in
        let first : p < i = over.1.1.0 in
        as_both (SubjectsOf i) (by_owner xs c (Some e.step) (token_with xs (credential_at cs p))) (subject xs (call_for e.kind) r) (by_owner ys d (Some e.step) (token_with ys (credential_at ds p))) (subject ys (call_for e.kind) q)
        (ap (λ k. subject xs (call_for k) r) lease
        ∙ lease_subject xs RenewLease r (credential_at cs p) c (Some e.step) (a.token ∙ ap (λ k. bearer_for k s i) lease ∙ ap (option_map (credential_at cs)) over.1.0)
        (sym (ap (λ k. asked (call_for k) r.body) lease) ∙ a.body ∙ ap (λ k. Some (asked_for k c e.step)) lease))
        (ap (λ k. subject ys (call_for k) q) lease
        ∙ lease_subject ys RenewLease q (credential_at ds p) d (Some e.step) (b.token ∙ ap (λ k. bearer_for k u i) lease ∙ ap (option_map (credential_at ds)) over.1.0)
        (sym (ap (λ k. asked (call_for k) q.body) lease) ∙ b.body ∙ ap (λ k. Some (asked_for k d e.step)) lease))
        (owner_both i (Some e.step) (credential_at cs p) (credential_at ds p) xs ys (lease_found_both g cs ds xs ys zip i within lease) (token_with xs (credential_at cs p)) (token_with ys (credential_at ds p))
        (token_found_both g cs ds xs ys zip p (omega arith) over.1.1.1)))

    steps_by : (v : Inventory) (t i : ℕ) (l : BrokerTable) (r : Request) → AsksRenewal v i r → broker_step l t r ≡ renewal_outcome (after_sweep l t) t (call_for (entry_at v.forest.entries i).kind) r
    unfolding broker_step
    steps_by v t i l r asks = ap (by_call (after_sweep l t) t r) asks.call ∙ allowed (after_sweep l t) t r (entry_at v.forest.entries i).kind asks.method

    -- the renewal of an entry
    pub steps_both : (port other t i : ℕ) (l m : BrokerTable) → i < length g.entries → AreTablesAlike g cs ds l m →
        OutcomesOf g cs ds (call_for (entry_at g.entries i).kind) i (broker_step l t (renewal_request port cs g i)) (broker_step m t (renewal_request other ds g i))
    unfolding s u
    steps_both port other t i l m within a =
        let r = renewal_request port cs g i in
        let q = renewal_request other ds g i in
        let call = call_for (entry_at g.entries i).kind in
        let asks = asks_renewal s one port i within in
        let asks' = asks_renewal u two other i within in
        let left = swept_tables t l m a in
        as_both (OutcomesOf g cs ds call i) (renewal_outcome (after_sweep l t) t call r) (broker_step l t r) (renewal_outcome (after_sweep m t) t call q) (broker_step m t q) (steps_by s t i l r asks) (steps_by u t i m q asks')
        (renews_both i t (after_sweep l t) (after_sweep m t) r q left (subjects_both i r q (after_sweep l t).rows (after_sweep m t).rows within left.rows asks asks'))
