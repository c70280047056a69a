-- Looks: two brokers whose tables differ in credentials alone say the same to the lookup of an entry, and to a token's renewal
-- by any step, and their tables differ in no more after it.
use Rattle.std.proofs.Common.{◌≡◌, ◌∙◌, ℕ, ◌<◌, List, Option, Some, None, Result, Ok, Err, IsUtf8, length, option_map, refl, sym, ap, subst, arith}
use Rattle.std.proofs.lemmas.{Bool.cond-true, Str.is_utf8-from_IsUtf8}
use Rattle.std.specs.{List.AllZip, Str.is_utf8}
use Rattle.plan_forest.specs.Forest.{Forest, entry_at}
use Rattle.plan_forest.specs.declared.entry.Kind.TheVariants.{Token, Lease}
use Rattle.vault_inventory.specs.declared.terms.Terms.{Terms}
use Rattle.vault_inventory.specs.Inventories.{IsInventory, Inventory, credential_at}
use Rattle.vault_inventory.proofs.Inventories.{credential_text}
use Rattle.vault_http.specs.declared.request.Request.{Request}
use Rattle.vault_json.specs.Written.{lookup_text, renew_text}
use Rattle.vault_json.proofs.ReadBack.{lookup_body_is_read}
use Rattle.broker_rule.specs.{declared.row.BrokerRow.BrokerRow, declared.call.ApiCall.ApiCall, declared.refusal.Refusal.Refusal, Granted.call_for, Table.BrokerTable}
use Rattle.broker_rule.specs.declared.call.ApiCall.TheVariants.{RenewSelf, LookupSelf, LookupLease}
use Rattle.broker_rule.specs.declared.refusal.Refusal.TheVariants.{BadRequest, PermissionDenied}
use Rattle.broker_rule.specs.Request.{read_or_none, asked, call_of, increment_in, is_write, lease_id_in, asked_of_lease, asked_of_token, a_text}
use Rattle.broker_rule.specs.Step.{after_sweep, broker_step, lookup_answer, renewal_outcome}
use Rattle.broker_rule.specs.Subject.{Subject, bearer, is_token_with, subject, token_with, with_bearer, with_asked}
use Rattle.vault_exchange.specs.Requests.{lease_looked, looked_as, lookup_of, token_looked, token_renewal}
use Rattle.broker_alike.specs.Alike.{AreRowsAlike, AreTablesAlike}
use Rattle.broker_alike.specs.Answers.{AnswersOf, OutcomesOf, look_for}
use Rattle.broker_alike.proofs.Rows.{BothFound, lease_found_both, token_found_both}
use Rattle.broker_alike.proofs.Steps.{SubjectsOf, as_both, by_kind, by_owner, by_token, lease_subject, owner_both, owner_of, renews_both, swept_tables, token_both, token_subject}

-- ---- what a body asks

look_asked : (id : List ℕ) → IsUtf8 id → asked LookupLease (lookup_text id) ≡ Some (record { lease_id = Some id; increment = None })
unfolding asked lease_id_in
look_asked id utf8 =
    ap (λ a. asked_of_lease (a_text (read_or_none a)) (Some None)) (lookup_body_is_read id utf8) ∙ ap (λ a. asked_of_lease a (Some None)) (cond-true (is_utf8 id) (Some id) None (is_utf8-from_IsUtf8 id utf8))

-- a body that names no increment that can be read
unread : Option BrokerRow → Result Subject Refusal
unread None = Err PermissionDenied
unread (Some r) = Err BadRequest

unread_told : (rows : List BrokerRow) (body : List ℕ) → asked RenewSelf body ≡ None → (o : Option BrokerRow) → with_bearer rows RenewSelf body o ≡ unread o
unfolding unread
unread_told rows body is None = refl
unread_told rows body is (Some token) = ap (with_asked rows token) is

unread_subject : (rows : List BrokerRow) (r : Request) (c : List ℕ) → r.token ≡ Some c → asked RenewSelf r.body ≡ None → subject rows RenewSelf r ≡ unread (token_with rows c)
unfolding subject
unread_subject rows r c bears body = ap (λ o. with_bearer rows RenewSelf r.body (bearer rows o)) bears ∙ unread_told rows r.body body (token_with rows c)

asked_by : (body : List ℕ) → asked RenewSelf body ≡ asked_of_token (increment_in body)
unfolding asked
asked_by body = refl

-- ---- a lookup, and a token's renewal, as a broker's step

token_step : (l : BrokerTable) (t port : ℕ) (c : List ℕ) → broker_step l t (token_looked port c) ≡ record { answer = lookup_answer LookupSelf (subject (after_sweep l t).rows LookupSelf (token_looked port c)); table = after_sweep l t }
unfolding broker_step call_of
token_step l t port c = refl

lease_step : (l : BrokerTable) (t port : ℕ) (owner : Option (List ℕ)) (id : List ℕ) →
    broker_step l t (lease_looked port owner id) ≡ record { answer = lookup_answer LookupLease (subject (after_sweep l t).rows LookupLease (lease_looked port owner id)); table = after_sweep l t }
unfolding broker_step call_of is_write
lease_step l t port owner id = refl

renewal_step : (l : BrokerTable) (t port : ℕ) (c : List ℕ) (n : ℕ) → broker_step l t (token_renewal port c n) ≡ renewal_outcome (after_sweep l t) t RenewSelf (token_renewal port c n)
unfolding broker_step call_of is_write
renewal_step l t port c n = refl

module _ (g : Forest) (cs ds : List (List ℕ)) where
  abbrev R : BrokerRow → BrokerRow → Type 0
  R = AreRowsAlike g cs ds

  looked_both : (call : ApiCall) (i : ℕ) (x y : Result Subject Refusal) → SubjectsOf g cs ds i x y → AnswersOf g cs ds call i (lookup_answer call x) (lookup_answer call y)
  looked_both call i (Err x) (Err y) same = same
  looked_both call i (Ok a) (Ok b) same = (refl, (refl, same.0))
  looked_both call i _ _ same = absurd same

  unread_both : (i : ℕ) (x y : Option BrokerRow) → BothFound R (is_token_with (credential_at cs i)) (is_token_with (credential_at ds i)) x y → SubjectsOf g cs ds i (unread x) (unread y)
  unfolding unread
  unread_both i None (Some q) both = absurd both
  unread_both i (Some r) None both = absurd both
  unread_both i _ _ both = refl

  -- ---- a token's renewal by any step

  renewed_both : (i : ℕ) (xs ys : List BrokerRow) (r q : Request) → i < length g.entries → (entry_at g.entries i).kind ≡ Token → AllZip R xs ys → r.token ≡ Some (credential_at cs i) → q.token ≡ Some (credential_at ds i) →
      q.body ≡ r.body → (o : Option (Option ℕ)) → asked RenewSelf r.body ≡ asked_of_token o → SubjectsOf g cs ds i (subject xs RenewSelf r) (subject ys RenewSelf q)
  renewed_both i xs ys r q within token zip bears bears' body None is =
      let c = credential_at cs i in
      let d = credential_at ds i in
      as_both (SubjectsOf g cs ds i) (unread (token_with xs c)) (subject xs RenewSelf r) (unread (token_with ys d)) (subject ys RenewSelf q)
      (unread_subject xs r c bears is) (unread_subject ys q d bears' (ap (asked RenewSelf) body ∙ is))
      (unread_both i (token_with xs c) (token_with ys d) (token_found_both g cs ds xs ys zip i within token))
  renewed_both i xs ys r q within token zip bears bears' body (Some n) is =
      let c = credential_at cs i in
      let d = credential_at ds i in
      as_both (SubjectsOf g cs ds i) (by_token n (token_with xs c)) (subject xs RenewSelf r) (by_token n (token_with ys d)) (subject ys RenewSelf q)
      (token_subject xs RenewSelf r c n bears is) (token_subject ys RenewSelf q d n bears' (ap (asked RenewSelf) body ∙ is))
      (token_both g cs ds i n (token_with xs c) (token_with ys d) (token_found_both g cs ds xs ys zip i within token))

  pub token_renewals_both : (port other t i n : ℕ) (l m : BrokerTable) → i < length g.entries → (entry_at g.entries i).kind ≡ Token → AreTablesAlike g cs ds l m →
      OutcomesOf g cs ds (call_for (entry_at g.entries i).kind) i (broker_step l t (token_renewal port (credential_at cs i) n)) (broker_step m t (token_renewal other (credential_at ds i) n))
  token_renewals_both port other t i n l m within token a =
      let kind = (entry_at g.entries i).kind in
      let r = token_renewal port (credential_at cs i) n in
      let q = token_renewal other (credential_at ds i) n in
      let left = swept_tables g cs ds t l m a in
      let xs = (after_sweep l t).rows in
      let ys = (after_sweep m t).rows in
      let found = renewed_both i xs ys r q within token left.rows refl refl refl (increment_in (renew_text n)) (asked_by (renew_text n)) in
      let same : SubjectsOf g cs ds i (subject xs (call_for kind) r) (subject ys (call_for kind) q) = subst (λ k. SubjectsOf g cs ds i (subject xs (call_for k) r) (subject ys (call_for k) q)) (sym token) found in
      as_both (OutcomesOf g cs ds (call_for kind) i) (renewal_outcome (after_sweep l t) t (call_for kind) r) (broker_step l t r) (renewal_outcome (after_sweep m t) t (call_for kind) q) (broker_step m t q)
      (renewal_step l t port (credential_at cs i) n ∙ ap (λ k. renewal_outcome (after_sweep l t) t (call_for k) r) (sym token))
      (renewal_step m t other (credential_at ds i) n ∙ ap (λ k. renewal_outcome (after_sweep m t) t (call_for k) q) (sym token))
      (renews_both g cs ds i t (after_sweep l t) (after_sweep m t) r q left same)

  -- ---- a lookup

  module _ (ts us : List Terms) (one : IsInventory (record { forest = g; credentials = cs; terms = ts })) (two : IsInventory (record { forest = g; credentials = ds; terms = us })) where
    abbrev s : Inventory
    s = record { forest = g; credentials = cs; terms = ts }

    abbrev u : Inventory
    u = record { forest = g; credentials = ds; terms = us }

    token_looks : (port other t i : ℕ) (l m : BrokerTable) → i < length g.entries → (entry_at g.entries i).kind ≡ Token → AreTablesAlike g cs ds l m →
        OutcomesOf g cs ds LookupSelf i (broker_step l t (token_looked port (credential_at cs i))) (broker_step m t (token_looked other (credential_at ds i)))
    unfolding asked
    token_looks port other t i l m within token a =
        let c = credential_at cs i in
        let d = credential_at ds i in
        let r = token_looked port c in
        let q = token_looked other d in
        let left = swept_tables g cs ds t l m a in
        let xs = (after_sweep l t).rows in
        let ys = (after_sweep m t).rows in
        let same : SubjectsOf g cs ds i (subject xs LookupSelf r) (subject ys LookupSelf q) =
        as_both (SubjectsOf g cs ds i) (by_token None (token_with xs c)) (subject xs LookupSelf r) (by_token None (token_with ys d)) (subject ys LookupSelf q)
        (token_subject xs LookupSelf r c None refl refl) (token_subject ys LookupSelf q d None refl refl)
        (token_both g cs ds i None (token_with xs c) (token_with ys d) (token_found_both g cs ds xs ys left.rows i within token)) in
        as_both (OutcomesOf g cs ds LookupSelf i) (record { answer = lookup_answer LookupSelf (subject xs LookupSelf r); table = after_sweep l t }) (broker_step l t r) (record { answer = lookup_answer LookupSelf (subject ys LookupSelf q); table = after_sweep m t }) (broker_step m t q)
        (token_step l t port c) (token_step m t other d)
        (looked_both LookupSelf i (subject xs LookupSelf r) (subject ys LookupSelf q) same, left)

    lease_looks : (port other t i : ℕ) (l m : BrokerTable) → i < length g.entries → (entry_at g.entries i).kind ≡ Lease → AreTablesAlike g cs ds l m →
        OutcomesOf g cs ds LookupLease i (broker_step l t (lease_looked port (option_map (credential_at cs) (entry_at g.entries i).parent) (credential_at cs i))) (broker_step m t (lease_looked other (option_map (credential_at ds) (entry_at g.entries i).parent) (credential_at ds i)))
    lease_looks port other t i l m within lease a =
        let over = owner_of g one.forest i within lease in
        let p = over.0 in
        let first : p < i = over.1.1.0 in
        let c = credential_at cs i in
        let d = credential_at ds i in
        let owner = option_map (credential_at cs) (entry_at g.entries i).parent in
        let other_owner = option_map (credential_at ds) (entry_at g.entries i).parent in
        let r = lease_looked port owner c in
        let q = lease_looked other other_owner d in
        let left = swept_tables g cs ds t l m a in
        let xs = (after_sweep l t).rows in
        let ys = (after_sweep m t).rows in
        let same : SubjectsOf g cs ds i (subject xs LookupLease r) (subject ys LookupLease q) =
        as_both (SubjectsOf g cs ds i) (by_owner xs c None (token_with xs (credential_at cs p))) (subject xs LookupLease r) (by_owner ys d None (token_with ys (credential_at ds p))) (subject ys LookupLease q)
        (lease_subject xs LookupLease r (credential_at cs p) c None (ap (option_map (credential_at cs)) over.1.0) (look_asked c (credential_text s one i within)))
        (lease_subject ys LookupLease q (credential_at ds p) d None (ap (option_map (credential_at ds)) over.1.0) (look_asked d (credential_text u two i within)))
        (owner_both g cs ds i None (credential_at cs p) (credential_at ds p) xs ys (lease_found_both g cs ds xs ys left.rows i within lease) (token_with xs (credential_at cs p)) (token_with ys (credential_at ds p))
        (token_found_both g cs ds xs ys left.rows p (omega arith) over.1.1.1)) in
        as_both (OutcomesOf g cs ds LookupLease i) (record { answer = lookup_answer LookupLease (subject xs LookupLease r); table = after_sweep l t }) (broker_step l t r) (record { answer = lookup_answer LookupLease (subject ys LookupLease q); table = after_sweep m t }) (broker_step m t q)
        (lease_step l t port owner c) (lease_step m t other other_owner d)
        (looked_both LookupLease i (subject xs LookupLease r) (subject ys LookupLease q) same, left)

    -- the lookup of an entry
    pub looks_both : (port other t i : ℕ) (l m : BrokerTable) → i < length g.entries → AreTablesAlike g cs ds l m →
        OutcomesOf g cs ds (look_for (entry_at g.entries i).kind) i (broker_step l t (lookup_of port cs g i)) (broker_step m t (lookup_of other ds g i))
    unfolding lookup_of
    looks_both port other t i l m within a =
        let e = entry_at g.entries i in
        by_kind e.kind (OutcomesOf g cs ds (look_for e.kind) i (broker_step l t (looked_as e.kind port cs i e)) (broker_step m t (looked_as e.kind other ds i e)))
        (λ token. subst (λ k. OutcomesOf g cs ds (look_for k) i (broker_step l t (looked_as k port cs i e)) (broker_step m t (looked_as k other ds i e))) (sym token) (token_looks port other t i l m within token a))
        (λ lease. subst (λ k. OutcomesOf g cs ds (look_for k) i (broker_step l t (looked_as k port cs i e)) (broker_step m t (looked_as k other ds i e))) (sym lease) (lease_looks port other t i l m within lease a))
