-- Received: the reply to a lookup of a lease is received and read, and its own id is taken. For the laws that secrets change no answer.
use Rattle.std.proofs.Common.{◌≡◌, ◌∙◌, ℕ, ◌<◌, ◌≤◌, ◌^◌, Bool, true, cond, List, [], ◌∷◌, ◌++◌, Some, None, Ok, Err, IsUtf8, bytes_eq, length, nat_le, refl, sym, ap, ap₂, subst, arith}
use Rattle.std.proofs.lemmas.{Bool.cond-true, Bool.Decides.nat_tests}
use Rattle.std.specs.Cmp.Lexicographic.{bytes_decides}
use Rattle.vault_exchange.specs.{declared.fault.ExchangeFault.TheVariants.Http, Exchanges.received, Requests.ReplyFits}
use Rattle.vault_exchange.proofs.Lengths.{looked_lease_short, ok_short, reply_short, status_short}
use Rattle.vault_inventory.specs.Lookup.{lookup_fault}
use Rattle.vault_inventory.specs.Inventories.{IsInventory, Inventory, credential_at}
use Rattle.vault_inventory.specs.declared.lookup.LookupFault.TheVariants.{OtherEntry, OtherKind}
use Rattle.vault_inventory.proofs.Inventories.{sendable_at}
use Rattle.base_moment.specs.{declared.moment.TheConstants.LAST, Rfc3339.face}
use Rattle.plan_forest.specs.{declared.entry.Kind.TheVariants.Lease, Forest.entry_at, Push.is_lease}
use Rattle.broker_rule.specs.{declared.call.ApiCall.TheVariants.LookupLease, declared.row.BrokerRow.BrokerRow}
use Rattle.broker_rule.specs.Step.{IsReplyBody, TellsRow, seconds_to}
use Rattle.broker_rule.specs.declared.served.Served.TheVariants as served
use Rattle.vault_http.specs.declared.http_fault.HttpFault.TheVariants as https
use Rattle.vault_http.specs.{declared.known.TheConstants.MOST_MESSAGE, declared.reply.Reply.Reply, Written.reply_text}
use Rattle.vault_json.specs.{declared.lookup.Lookup.Lookup, Laws.LookedLeaseIsRead, Lookup.lookup_lease_answer}
use Rattle.vault_json.specs.declared.lookup.Lookup.TheVariants as lookups

pub fits_received : (reply : Reply) → ReplyFits (served.Reply reply) → received (served.Reply reply) ≡ Ok reply
fits_received reply fits =
    let test : nat_le (length (reply_text reply)) MOST_MESSAGE ≡ true = grind (arith, fits, nat_tests) in
    cond-true (nat_le (length (reply_text reply)) MOST_MESSAGE) (Ok reply) (Err (Http https.TooLong)) test

pub reply_of_parts : (x y : Reply) → y.status ≡ x.status → y.body ≡ x.body → y ≡ x
reply_of_parts x y status body = ap₂ (λ n bs. record { status = n; body = bs }) status body

pub small : (end t : ℕ) → seconds_to end t < 2 ^ 32
small end t = omega arith

-- what a lookup of a lease tells, and that its reply is received
abbrev pub lease_told : List ℕ → BrokerRow → ℕ → Lookup
lease_told id row t = lookups.Lease id row.issued row.renewable (seconds_to row.end t)

pub lease_read : LookedLeaseIsRead → (id : List ℕ) (t : ℕ) (row : BrokerRow) (reply : Reply) → row.credential ≡ id → IsUtf8 id → length id ≤ 256 → row.issued ≤ LAST → TellsRow t LookupLease row (served.Reply reply) →
    (received (served.Reply reply) ≡ Ok reply) × (lookup_lease_answer reply.body ≡ Ok (lease_told id row t))
unfolding IsReplyBody
lease_read read id t row reply same text brief early is =
    let n = seconds_to row.end t in
    let body = is.1 in
    let twenty : length (face body.1.0 84 ++ 90 ∷ []) ≡ 20 = refl in
    let short : length reply.body ≤ 2000 =
    subst (λ (bs : List ℕ). length bs ≤ 2000) (sym body.2) (looked_lease_short row.credential body.0 row.renewable n (subst (λ (bs : List ℕ). length bs ≤ 256) (sym same) brief) (subst (λ (bs : List ℕ). length bs ≤ 20) (sym body.1.4) (omega (arith, twenty))) (small row.end t)) in (
      fits_received reply (reply_short reply (status_short reply.status 200 is.0 ok_short) short),
      read reply.body row.credential row.issued row.renewable n (subst IsUtf8 (sym same) text) early (small row.end t) body ∙ ap (λ c. Ok (lease_told c row t)) same,
    )

pub brief : (v : Inventory) → IsInventory v → (i : ℕ) → i < length v.forest.entries → length (credential_at v.credentials i) ≤ 256
brief v is i within = (sendable_at v.credentials i (omega (arith, within, is.credentials)) is.sendable).1

-- the lookup of a lease that tells its own id is taken
pub own_lease : (v : Inventory) (i : ℕ) (id : List ℕ) (issued ttl : ℕ) (renewable : Bool) → credential_at v.credentials i ≡ id → (entry_at v.forest.entries i).kind ≡ Lease → lookup_fault v i (lookups.Lease id issued renewable ttl) ≡ None
unfolding lookup_fault
own_lease v i id issued ttl renewable same lease =
    ap (λ k. cond (is_lease k) (cond (bytes_eq (credential_at v.credentials i) id) None (Some OtherEntry)) (Some OtherKind)) lease
    ∙ cond-true (bytes_eq (credential_at v.credentials i) id) None (Some OtherEntry) ((bytes_decides (credential_at v.credentials i) id).1 same)
