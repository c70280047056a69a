-- Alike lookups: over two brokers whose tables differ in credentials alone, lookups make of two inventories that do the same, and
-- a run is opened by one text.
use Rattle.std.proofs.Common.{◌≡◌, ◌∙◌, ◌==◌, ℕ, ◌+◌, ◌<◌, ◌≤◌, Bool, true, false, cond, is_none, List, [], ◌∷◌, ◌++◌, Option, Some, None, IfSome, Result, Ok, Err, bytes_eq, length, nat_le, option_map, refl, sym, ap, subst, arith}
use Rattle.std.proofs.lemmas.{Bool.cond-true, List.Elements.All-head, List.Elements.All-tail}
use Rattle.std.specs.List.{All}
use Rattle.tick_keeper.specs.{Replan.Replan, State.CoreState, State.unplanned}
use Rattle.tick_keeper.proofs.Orders.{replan_once}
use Rattle.vault_exchange.specs.{declared.fault.ExchangeFault.ExchangeFault, declared.fault.ExchangeFault.TheVariants.Http, Requests.lookup_of, Requests.looked_as}
use Rattle.vault_exchange.specs.Exchanges.{Behind, IsExchanged, received, reply_that_came, wire_of}
use Rattle.vault_exchange.specs.Lookups.{EntryIsLookedUp, applied, behind_if, inventory_after_lookup, lookup_in}
use Rattle.vault_inventory.specs.{declared.lookup.LookupFault.LookupFault, declared.terms.Terms.Terms}
use Rattle.vault_inventory.specs.Inventories.{IsInventory, Inventory, credential_at, terms_at}
use Rattle.vault_inventory.specs.Lookup.{lookup_fault, told, told_entry, told_terms}
use Rattle.vault_inventory.specs.declared.lookup.LookupFault.TheVariants.{OtherEntry, OtherKind}
use Rattle.vault_inventory.proofs.Inventories.{credential_text}
use Rattle.base_moment.specs.declared.moment.TheConstants.{LAST}
use Rattle.plan_forest.specs.{declared.entry.Entry.Entry, declared.entry.Kind.Kind, Forest.Forest, Forest.entry_at, Push.is_lease}
use Rattle.plan_forest.specs.declared.entry.Kind.TheVariants.{Token, Lease}
use Rattle.broker_rule.specs.{declared.refusal.Refusal.Refusal, declared.refusal.Refusal.TheVariants.UnsupportedPath, declared.row.BrokerRow.BrokerRow, declared.served.Served.Served, Request.status_of_refusal, Table.BrokerTable}
use Rattle.broker_rule.specs.declared.call.ApiCall.TheVariants.{LookupSelf, LookupLease}
use Rattle.broker_rule.specs.Step.{BrokerAnswer, IsReplyBody, SaysAnswer, TellsRow, broker_step, drops, refuses, seconds_to, tells}
use Rattle.broker_rule.specs.declared.served.Served.TheVariants as served
use Rattle.vault_http.specs.declared.http_fault.HttpFault.TheVariants as https
use Rattle.vault_http.specs.{declared.known.TheConstants.MOST_MESSAGE, declared.reply.Reply.Reply, declared.request.Request.Request, Written.reply_text}
use Rattle.vault_json.specs.{declared.fault.ReplyFault.ReplyFault, declared.lookup.Lookup.Lookup, Laws.LookedLeaseIsRead, Lookup.lookup_lease_answer, Written.looked_self_text}
use Rattle.vault_json.specs.declared.lookup.Lookup.TheVariants as lookups
use Rattle.vault_start.specs.Start.{from_start}
use Rattle.broker_alike.specs.Alike.{AreBrokersAlike, AreDated, AreTablesAlike, KeepsSupplied}
use Rattle.broker_alike.specs.Answers.{AnswersOf, Speaks, look_for}
use Rattle.tick_runs.specs.{Closed.World, Closed.shorts_taken, LiveRun.IsLiveOpening, Text.short_need_lines}
use Rattle.tick_runs.specs.Looking.{AreLookedUp, Looked, first_indices, looked_text}
use Rattle.tick_runs.specs.Secrecy.{AlikeLookupsLaw, AlikeOpeningsLaw, AreLookedAlike, AreWorldsAlike}
use Rattle.tick_runs.proofs.Within.{all_to}
use Rattle.broker_alike.proofs.{Kept.kept_itself, Kept.kept_with, Dated.if_both, Dated.step_dated, Looks.looks_both, Steps.by_kind}
use Rattle.broker_alike.proofs.Received.{brief, lease_read, lease_told, own_lease, reply_of_parts}

-- ---- what a lookup leaves of the forest

module _ (g : Forest) where
  same_kind : (now : ℕ) (lookup : Lookup) (t : Terms) (e : Entry) → (told_entry now lookup t e).kind ≡ e.kind
  same_kind now (lookups.Token ttl created explicit_max orphan renewable period) t e = refl
  same_kind now (lookups.Lease id issued renewable ttl) t e = refl

  same_parent : (now : ℕ) (lookup : Lookup) (t : Terms) (e : Entry) → (told_entry now lookup t e).parent ≡ e.parent
  same_parent now (lookups.Token ttl created explicit_max orphan renewable period) t e = refl
  same_parent now (lookups.Lease id issued renewable ttl) t e = refl

  -- of a lease, a lookup that is applied keeps the step
  same_step : (v : Inventory) (i now : ℕ) (lookup : Lookup) (t : Terms) → lookup_fault v i lookup ≡ None → (entry_at v.forest.entries i).kind ≡ Lease → (told_entry now lookup t (entry_at v.forest.entries i)).step ≡ (entry_at v.forest.entries i).step
  unfolding lookup_fault
  same_step v i now (lookups.Token ttl created explicit_max orphan renewable period) t free lease =
      let lookup = lookups.Token ttl created explicit_max orphan renewable period in
      absurd (let bad : Some OtherKind ≡ None = sym (cond-true (is_lease (entry_at v.forest.entries i).kind) (Some OtherKind) _ (ap is_lease lease)) ∙ free in cc)
  same_step v i now (lookups.Lease id issued renewable ttl) t free lease = refl

  -- what it leaves of an inventory
  abbrev Leaves : Inventory → Inventory → Type 0
  Leaves v new = KeepsSupplied g new.forest × (new.credentials ≡ v.credentials)

  told_leaves : (v : Inventory) (i t : ℕ) → i < length v.forest.entries → KeepsSupplied g v.forest → (lookup : Lookup) → lookup_fault v i lookup ≡ None → Leaves v (told v i lookup t)
  unfolding told
  told_leaves v i t within like lookup free =
      let e = entry_at v.forest.entries i in
      let terms = told_terms lookup (terms_at v.terms i) in (
        kept_with g v.forest i (told_entry t lookup terms e) within like (same_kind t lookup terms e) (λ lease. same_parent t lookup terms e)
            (λ lease. same_step v i t lookup terms free (like.kinds i ∙ lease)),
        refl,
      )

  module _ (v new : Inventory) (i t : ℕ) (within : i < length v.forest.entries) (like : KeepsSupplied g v.forest) where
    abbrev LeavesIf : Option Inventory → Type 0
    LeavesIf o = o ≡ Some new → Leaves v new

    applied_leaves : (answer : Result Lookup ReplyFault) → LeavesIf (applied v i t answer)
    applied_leaves (Err fault) is = absurd (let bad : None ≡ Some new = is in cc)
    applied_leaves (Ok lookup) is = by_fault (lookup_fault v i lookup) refl is where
      by_fault : (fault : Option LookupFault) → lookup_fault v i lookup ≡ fault → LeavesIf (cond (is_none fault) (Some (told v i lookup t)) None)
      by_fault None free is' =
          let taken' : told v i lookup t ≡ new = (let some : Some (told v i lookup t) ≡ Some new = is' in cc) in
          subst (Leaves v) taken' (told_leaves v i t within like lookup free)
      by_fault (Some fault) other is' = absurd (let bad : None ≡ Some new = is' in cc)

    reply_leaves : (came : Result Reply ExchangeFault) → LeavesIf (inventory_after_lookup v i t came)
    reply_leaves (Err fault) is = absurd (let bad : None ≡ Some new = is in cc)
    reply_leaves (Ok r) is =
        let answer = lookup_in (entry_at v.forest.entries i).kind r.body in
        if_both LeavesIf (r.status == 200) (applied v i t answer) None (applied_leaves answer) (λ none. absurd (let bad : None ≡ Some new = none in cc)) is

  -- the request is that of the inventory before
  looked_lease : (k : Kind) (port : ℕ) (xs : List (List ℕ)) (i : ℕ) (e f : Entry) → (k ≡ Lease → f.parent ≡ e.parent) → looked_as k port xs i f ≡ looked_as k port xs i e
  looked_lease Token port xs i e f same = refl
  looked_lease Lease port xs i e f same = ap (λ p. looked_as Lease port xs i (record e { parent = p })) (same refl)

  lookup_same : (port : ℕ) (xs : List (List ℕ)) (h : Forest) (i : ℕ) → KeepsSupplied g h → lookup_of port xs h i ≡ lookup_of port xs g i
  unfolding lookup_of
  lookup_same port xs h i like =
      looked_lease (entry_at h.entries i).kind port xs i (entry_at g.entries i) (entry_at h.entries i) (λ lease. like.owners i (sym (like.kinds i) ∙ lease))
      ∙ ap (λ k. looked_as k port xs i (entry_at g.entries i)) (like.kinds i)

-- ---- what a reply makes of two inventories

mapped_if : {X Y : Type 0} (f : X → Y) (b : Bool) (x : Option X) (y : Option Y) → y ≡ option_map f x → cond b y None ≡ option_map f (cond b x None)
mapped_if f true x y same = same
mapped_if f false x y same = refl

by_refusal : {X : Type 0} (v : Refusal) (x : Option X) → cond (status_of_refusal v == 200) x None ≡ None
by_refusal UnsupportedPath x = refl
by_refusal _ x = refl

none_of_refusal : (v : Inventory) (i t : ℕ) (refusal : Refusal) (reply : Reply) → reply.status ≡ status_of_refusal refusal → inventory_after_lookup v i t (received (served.Reply reply)) ≡ None
none_of_refusal v i t refusal reply is =
    if_both (λ r. inventory_after_lookup v i t r ≡ None) (nat_le (length (reply_text reply)) MOST_MESSAGE) (Ok reply) (Err (Http https.TooLong))
    (ap (λ n. cond (n == 200) (applied v i t (lookup_in (entry_at v.forest.entries i).kind reply.body)) None) is ∙ by_refusal refusal (applied v i t (lookup_in (entry_at v.forest.entries i).kind reply.body)))
    refl

module _ (g : Forest) (cs ds : List (List ℕ)) (ts : List Terms) (one : IsInventory (record { forest = g; credentials = cs; terms = ts })) (two : IsInventory (record { forest = g; credentials = ds; terms = ts })) (read : LookedLeaseIsRead) where
  abbrev s : Inventory
  s = record { forest = g; credentials = cs; terms = ts }

  abbrev u : Inventory
  u = record { forest = g; credentials = ds; terms = ts }

  abbrev other_of : Inventory → Inventory
  other_of v = record v { credentials = ds }

  abbrev Alike : Inventory → ℕ → ℕ → Served → Served → Type 0
  Alike v i t a b = inventory_after_lookup (other_of v) i t (received b) ≡ option_map other_of (inventory_after_lookup v i t (received a))

  -- of a token, one lookup is applied alike
  applied_alike : (v : Inventory) (i t : ℕ) → (entry_at v.forest.entries i).kind ≡ Token → (answer : Result Lookup ReplyFault) → applied (other_of v) i t answer ≡ option_map other_of (applied v i t answer)
  unfolding lookup_fault told
  applied_alike v i t token (Err fault) = refl
  applied_alike v i t token (Ok (lookups.Token ttl created explicit_max orphan renewable period)) =
      let lookup = lookups.Token ttl created explicit_max orphan renewable period in
      mapped_if other_of (is_none (lookup_fault v i lookup)) (Some (told v i lookup t)) (Some (told (other_of v) i lookup t)) refl
  applied_alike v i t token (Ok (lookups.Lease id issued renewable ttl)) =
      let lookup = lookups.Lease id issued renewable ttl in
      ap (λ k. cond (is_none (cond (is_lease k) (cond (bytes_eq (credential_at ds i) id) None (Some OtherEntry)) (Some OtherKind))) (Some (told (other_of v) i lookup t)) None) token
      ∙ sym (ap (λ k. option_map other_of (cond (is_none (cond (is_lease k) (cond (bytes_eq (credential_at v.credentials i) id) None (Some OtherEntry)) (Some OtherKind))) (Some (told v i lookup t)) None)) token)

  reply_alike : (v : Inventory) (i t : ℕ) → (entry_at v.forest.entries i).kind ≡ Token → (r : Result Reply ExchangeFault) → inventory_after_lookup (other_of v) i t r ≡ option_map other_of (inventory_after_lookup v i t r)
  reply_alike v i t token (Err fault) = refl
  reply_alike v i t token (Ok r) =
      let answer = lookup_in (entry_at v.forest.entries i).kind r.body in
      mapped_if other_of (r.status == 200) (applied v i t answer) (applied (other_of v) i t answer) (applied_alike v i t token answer)

  refused_alike : (v : Inventory) (i t : ℕ) (x y : Refusal) (a b : Served) → SaysAnswer t (refuses x) a → SaysAnswer t (refuses y) b → Alike v i t a b
  refused_alike v i t x y served.Dropped b p q = absurd p
  refused_alike v i t x y (served.Reply reply) served.Dropped p q = absurd q
  refused_alike v i t x y (served.Reply reply) (served.Reply other) p q = none_of_refusal (other_of v) i t y other q.0 ∙ sym (ap (option_map other_of) (none_of_refusal v i t x reply p.0))

  dropped_alike : (v : Inventory) (i t : ℕ) (a b : Served) → SaysAnswer t drops a → SaysAnswer t drops b → Alike v i t a b
  dropped_alike v i t served.Dropped served.Dropped p q = refl
  dropped_alike v i t (served.Reply reply) b p q = absurd p
  dropped_alike v i t served.Dropped (served.Reply other) p q = absurd q

  token_alike : (v : Inventory) (i t : ℕ) (r q : BrokerRow) → (entry_at v.forest.entries i).kind ≡ Token → q ≡ record r { credential = q.credential } → (a b : Served) → TellsRow t LookupSelf r a → TellsRow t LookupSelf q b → Alike v i t a b
  unfolding IsReplyBody
  token_alike v i t r q token same served.Dropped b x y = absurd x
  token_alike v i t r q token same (served.Reply reply) served.Dropped x y = absurd y
  token_alike v i t r q token same (served.Reply reply) (served.Reply other) x y =
      let text : BrokerRow → List ℕ = λ row. looked_self_text (seconds_to row.end t) row.issued row.explicit_max (is_none row.parent) row.renewable row.period in
      let replied : other ≡ reply = reply_of_parts reply other (y.0 ∙ sym x.0) (y.1 ∙ ap text same ∙ sym x.1) in
      ap (λ z. inventory_after_lookup (other_of v) i t (received (served.Reply z))) replied ∙ reply_alike v i t token (received (served.Reply reply))

  -- a lease that is told by its own id
  taken_lease : (v : Inventory) (i t : ℕ) (id : List ℕ) (row : BrokerRow) (reply : Reply) → credential_at v.credentials i ≡ id → (entry_at v.forest.entries i).kind ≡ Lease → reply.status ≡ 200 → received (served.Reply reply) ≡ Ok reply → lookup_lease_answer reply.body ≡ Ok (lease_told id row t) →
      inventory_after_lookup v i t (received (served.Reply reply)) ≡ Some (told v i (lease_told id row t) t)
  taken_lease v i t id row reply own lease ok here said =
      let answer = lookup_in (entry_at v.forest.entries i).kind reply.body in
      ap (inventory_after_lookup v i t) here
      ∙ cond-true (reply.status == 200) (applied v i t answer) None (ap (λ n. n == 200) ok)
      ∙ ap (λ k. applied v i t (lookup_in k reply.body)) lease
      ∙ ap (applied v i t) said
      ∙ ap (λ fault. cond (is_none fault) (Some (told v i (lease_told id row t) t)) None) (own_lease v i id row.issued (seconds_to row.end t) row.renewable own lease)

  lease_alike : (v : Inventory) (i t : ℕ) (r q : BrokerRow) → i < length g.entries → v.credentials ≡ cs → (entry_at v.forest.entries i).kind ≡ Lease → q ≡ record r { credential = q.credential } → r.credential ≡ credential_at cs i → q.credential ≡ credential_at ds i →
      r.issued ≤ LAST → (a b : Served) → TellsRow t LookupLease r a → TellsRow t LookupLease q b → Alike v i t a b
  unfolding told
  lease_alike v i t r q within credentials lease same c d early served.Dropped b x y = absurd x
  lease_alike v i t r q within credentials lease same c d early (served.Reply reply) served.Dropped x y = absurd y
  lease_alike v i t r q within credentials lease same c d early (served.Reply reply) (served.Reply other) x y =
      let dated : q.issued ≤ LAST = subst (λ (row : BrokerRow). row.issued ≤ LAST) (sym same) early in
      let first = lease_read read (credential_at cs i) t r reply c (credential_text s one i within) (brief s one i within) early x in
      let second = lease_read read (credential_at ds i) t q other d (credential_text u two i within) (brief u two i within) dated y in
      let said : lookup_lease_answer other.body ≡ Ok (lease_told (credential_at ds i) r t) = second.1 ∙ ap (λ (row : BrokerRow). Ok (lease_told (credential_at ds i) row t)) same in
      taken_lease (other_of v) i t (credential_at ds i) r other refl lease y.0 second.0 said
      ∙ sym (ap (option_map other_of) (taken_lease v i t (credential_at cs i) r reply (ap (λ xs. credential_at xs i) credentials) lease x.0 first.0 first.1))

  looked_alike : (v : Inventory) (i t : ℕ) → i < length g.entries → v.credentials ≡ cs → KeepsSupplied g v.forest → (x y : BrokerAnswer) → AnswersOf g cs ds (look_for (entry_at g.entries i).kind) i x y → Speaks x → (a b : Served) → SaysAnswer t x a → SaysAnswer t y b → Alike v i t a b
  looked_alike v i t within own like (refuses x) (refuses y) same speaks a b p q = refused_alike v i t x y a b p q
  looked_alike v i t within own like (refuses x) (tells d q) same speaks a b p o = absurd same
  looked_alike v i t within own like (refuses x) drops same speaks a b p o = absurd same
  looked_alike v i t within own like (tells c r) (refuses y) same speaks a b p o = absurd same
  looked_alike v i t within own like (tells c r) drops same speaks a b p o = absurd same
  looked_alike v i t within own like drops (refuses y) same speaks a b p o = absurd same
  looked_alike v i t within own like drops (tells d q) same speaks a b p o = absurd same
  looked_alike v i t within own like drops drops same speaks a b p o = dropped_alike v i t a b p o
  looked_alike v i t within own like (tells c r) (tells d q) same speaks a b p o =
      let kind = (entry_at g.entries i).kind in
      let first = subst (λ call. TellsRow t call r a) same.0 p in
      let second = subst (λ call. TellsRow t call q b) same.1.0 o in
      let rows = same.1.1 in
      by_kind kind (Alike v i t a b)
      (λ token. token_alike v i t r q (like.kinds i ∙ token) rows.0.same a b (subst (λ k. TellsRow t (look_for k) r a) token first) (subst (λ k. TellsRow t (look_for k) q b) token second))
      (λ lease. lease_alike v i t r q within own (like.kinds i ∙ lease) rows.0.same rows.1.0 rows.1.1 speaks a b (subst (λ k. TellsRow t (look_for k) r a) lease first) (subst (λ k. TellsRow t (look_for k) q b) lease second))

  -- ---- one lookup

  flag_same : (x y : Bool) (after behind : Inventory) → behind_if y behind ≡ option_map other_of (behind_if x after) → y ≡ x
  flag_same true false after behind same = absurd cc
  flag_same false true after behind same = absurd cc
  flag_same _ _ after behind same = refl

  value_same : (x y : Inventory) → Some y ≡ Some (other_of x) → y ≡ other_of x
  value_same x y same = cc

  exchanged_known : (o : Option Behind) (b : Behind) (t : ℕ) (r : Request) (came : Result Reply ExchangeFault) (new : Option Behind) → o ≡ Some b → IfSome o (λ a. IsExchanged a.table t r came new) → IsExchanged b.table t r came new
  exchanged_known o b t r came new known is = subst (λ (a : Option Behind). IfSome a (λ z. IsExchanged z.table t r came new)) known is

  -- where the table is known, so it is after a lookup
  table_behind : (old : BrokerTable) (t : ℕ) (r : Request) (came : Result Reply ExchangeFault) (new : Option Behind) → IsExchanged old t r came new → (b : Behind) × ((new ≡ Some b) × (b.table ≡ (broker_step old t r).table))
  table_behind old t r came new is = (record { table = (broker_step old t r).table; wire = wire_of r (reply_that_came came) }, (is.is, refl))

  module _ (port other t i : ℕ) (old begun : Looked) (within : i < length g.entries) (alike : AreLookedAlike g cs ds old begun) where
    abbrev l : BrokerTable
    l = alike.brokers.behind.table

    abbrev m : BrokerTable
    m = alike.brokers.other_behind.table

    r : Request
    r = lookup_of port cs g i

    q : Request
    q = lookup_of other ds g i

    asked : lookup_of port old.inventory.credentials old.inventory.forest i ≡ r
    unfolding r
    asked = ap (λ xs. lookup_of port xs old.inventory.forest i) alike.credentials ∙ lookup_same g port cs old.inventory.forest i alike.kept

    asked_too : lookup_of other begun.inventory.credentials begun.inventory.forest i ≡ q
    unfolding q
    asked_too = ap (λ (v : Inventory). lookup_of other v.credentials v.forest i) alike.inventory ∙ lookup_same g other ds old.inventory.forest i alike.kept

    results : (x y : Bool) (after behind : Inventory) (new last : Option Behind) → EntryIsLookedUp port old.behind t old.inventory i x after new → EntryIsLookedUp other begun.behind t begun.inventory i y behind last →
        behind_if y behind ≡ option_map other_of (behind_if x after)
    unfolding r q
    results x y after behind new last a b =
        let outcome = looks_both g cs ds ts ts one two port other t i l m within alike.brokers.tables in
        let speaks = (step_dated l alike.dated t r).0 in
        let first = exchanged_known old.behind alike.brokers.behind t (lookup_of port old.inventory.credentials old.inventory.forest i) a.came new alike.brokers.known a.exchanged in
        let second = exchanged_known begun.behind alike.brokers.other_behind t (lookup_of other begun.inventory.credentials begun.inventory.forest i) b.came last alike.brokers.other_known b.exchanged in
        let says = subst (λ z. SaysAnswer t (broker_step l t z).answer first.sent) asked first.says in
        let says_too = subst (λ z. SaysAnswer t (broker_step m t z).answer second.sent) asked_too second.says in
        let same = looked_alike old.inventory i t within alike.credentials alike.kept (broker_step l t r).answer (broker_step m t q).answer outcome.0 speaks first.sent second.sent says says_too in
        sym b.applied_is
        ∙ ap (λ (v : Inventory). inventory_after_lookup v i t b.came) alike.inventory
        ∙ ap (inventory_after_lookup (other_of old.inventory) i t) second.received_as
        ∙ same
        ∙ ap (λ z. option_map other_of (inventory_after_lookup old.inventory i t z)) (sym first.received_as)
        ∙ ap (option_map other_of) a.applied_is

    pub flags : (x y : Bool) (after behind : Inventory) (new last : Option Behind) → EntryIsLookedUp port old.behind t old.inventory i x after new → EntryIsLookedUp other begun.behind t begun.inventory i y behind last → y ≡ x
    flags x y after behind new last a b = flag_same x y after behind (results x y after behind new last a b)

    pub one_both : (mid after : Looked) → EntryIsLookedUp port old.behind t old.inventory i true mid.inventory mid.behind → EntryIsLookedUp other begun.behind t begun.inventory i true after.inventory after.behind → AreLookedAlike g cs ds mid after
    unfolding r q
    one_both mid after a b =
        let outcome = looks_both g cs ds ts ts one two port other t i l m within alike.brokers.tables in
        let left = step_dated l alike.dated t r in
        let n = alike.kept.count in
        let leaves = reply_leaves g old.inventory mid.inventory i t (omega (arith, within, n)) alike.kept a.came a.applied_is in
        let gone = table_behind l t (lookup_of port old.inventory.credentials old.inventory.forest i) a.came mid.behind
        (exchanged_known old.behind alike.brokers.behind t (lookup_of port old.inventory.credentials old.inventory.forest i) a.came mid.behind alike.brokers.known a.exchanged) in
        let gone_too = table_behind m t (lookup_of other begun.inventory.credentials begun.inventory.forest i) b.came after.behind
        (exchanged_known begun.behind alike.brokers.other_behind t (lookup_of other begun.inventory.credentials begun.inventory.forest i) b.came after.behind alike.brokers.other_known b.exchanged) in
        let first : gone.0.table ≡ (broker_step l t r).table = gone.1.1 ∙ ap (λ z. (broker_step l t z).table) asked in
        let second : gone_too.0.table ≡ (broker_step m t q).table = gone_too.1.1 ∙ ap (λ z. (broker_step m t z).table) asked_too in
        record {
          credentials = leaves.1 ∙ alike.credentials;
          inventory = value_same mid.inventory after.inventory (results true true mid.inventory after.inventory mid.behind after.behind a b);
          kept = leaves.0;
          brokers = record {
            behind = gone.0;
            known = gone.1.0;
            other_behind = gone_too.0;
            other_known = gone_too.1.0;
            tables = subst (λ z. AreTablesAlike g cs ds z gone_too.0.table) (sym first) (subst (AreTablesAlike g cs ds (broker_step l t r).table) (sym second) outcome.1);
          };
          dated = subst AreDated (sym first) left.1;
        }

  -- ---- lookups, one after another

  all_both : (port other t : ℕ) (is : List ℕ) (old begun new last : Looked) → All (λ i. i < length g.entries) is → AreLookedAlike g cs ds old begun → AreLookedUp port t old is new → AreLookedUp other t begun is last → AreLookedAlike g cs ds new last
  all_both port other t [] old begun new last within alike a b = subst (λ x. AreLookedAlike g cs ds x last) (sym a) (subst (AreLookedAlike g cs ds old) (sym b) alike)
  all_both port other t (i ∷ is) old begun new last within alike a b =
      all_both port other t is a.0 b.0 new last (All-tail (λ k. k < length g.entries) i is within)
      (one_both port other t i old begun (All-head (λ k. k < length g.entries) i is within) alike a.0 b.0 a.1.0 b.1.0) a.1.1 b.1.1

  -- ---- the opening

  abbrev pub started : Inventory → Behind → Looked
  started v b = record { inventory = v; behind = Some b }

  fresh_both : (b c : Behind) → AreTablesAlike g cs ds b.table c.table → AreDated b.table → AreLookedAlike g cs ds (started s b) (started u c)
  fresh_both b c tables dated = record { credentials = refl; inventory = refl; kept = kept_itself g; brokers = record { behind = b; known = refl; other_behind = c; other_known = refl; tables = tables }; dated = dated }

  pub opened_looked : (port other start : ℕ) (always : List Bool) (b c : Behind) (opening last : World) (text more : List ℕ) → AreTablesAlike g cs ds b.table c.table → AreDated b.table →
      (a : IsLiveOpening port start always (started s b) opening text) (d : IsLiveOpening other start always (started u c) last more) → AreLookedAlike g cs ds a.looked d.looked
  opened_looked port other start always b c opening last text more tables dated a d =
      let n = length g.entries in
      all_both port other start (first_indices n) (started s b) (started u c) a.looked d.looked (all_to n n 0 (omega arith)) (fresh_both b c tables dated) a.all d.all

  -- other credentials leave the forest from a start on as it is
  start_same : (v : Inventory) (always : List Bool) (start : ℕ) → (from_start (record v { credentials = ds }) always start).forest ≡ (from_start v always start).forest
  unfolding from_start
  start_same v always start = refl

  pub opened_both : (port other start : ℕ) (always : List Bool) (b c : Behind) (opening last : World) (text more : List ℕ) → AreTablesAlike g cs ds b.table c.table → AreDated b.table →
      IsLiveOpening port start always (started s b) opening text → IsLiveOpening other start always (started u c) last more → (more ≡ text) × AreWorldsAlike g cs ds opening last
  unfolding looked_text
  opened_both port other start always b c opening last text more tables dated a d =
      let n = length g.entries in
      let alike = opened_looked port other start always b c opening last text more tables dated a d in
      let from = λ (v : Inventory). (from_start v always start).forest in
      let second : from d.looked.inventory ≡ from a.looked.inventory = subst (λ (v : Inventory). ◌≡◌ {A = Forest} (from v) (from a.looked.inventory)) (sym alike.inventory) (start_same a.looked.inventory always start) in
      let keeper : d.keeper ≡ a.keeper = sym (replan_once (unplanned (from a.looked.inventory)) start a.keeper d.keeper a.planned (subst (λ h. Replan (unplanned h) start d.keeper) second d.planned)) in
      let opened = ap (λ (w : World). w.keeper) a.is in (
        d.text_is
            ∙ ap (λ (v : Inventory). looked_text v (first_indices n) ++ short_need_lines v.forest d.keeper.shortened) alike.inventory
            ∙ ap (λ (k : CoreState). looked_text a.looked.inventory (first_indices n) ++ short_need_lines a.looked.inventory.forest k.shortened) keeper
            ∙ sym a.text_is,
        record {
          keeper = ap (λ (w : World). w.keeper) d.is ∙ ap shorts_taken keeper ∙ sym opened;
          brokers = subst (λ (w : World). AreBrokersAlike g cs ds w.behind last.behind) (sym a.is) (subst (λ (w : World). AreBrokersAlike g cs ds a.looked.behind w.behind) (sym d.is) alike.brokers);
        },
      )

pub alike_openings : LookedLeaseIsRead → AlikeOpeningsLaw
alike_openings read g cs ds ts one two port other start always b c opening last text more tables dated a d = opened_both g cs ds ts one two read port other start always b c opening last text more tables dated a d

pub alike_lookups : LookedLeaseIsRead → AlikeLookupsLaw
alike_lookups read g cs ds ts one two port other t old begun new last is within alike a b =
    let behind = all_both g cs ds ts one two read port other t is old begun new last within alike a b in
    (behind, λ i x y after then' left gone low c d. flags g cs ds ts one two read port other t i new last low behind x y after then' left gone c d)
