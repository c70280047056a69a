-- The reply to a renewal that was granted: the keeper is told the renewal rule's end.
use Rattle.std.proofs.Common.{◌≡◌, ◌==◌, ℕ, ◌-◌, ◌<◌, ◌≤◌, true, List, Some, None, IsUtf8, bytes_eq, length, min, refl, ap, ◌∙◌, arith}
use Rattle.std.proofs.lemmas.Bool.{cond-true}
use Rattle.std.specs.Cmp.Lexicographic.{bytes_decides}
use Rattle.base_moment.specs.declared.moment.TheConstants.{LAST}
use Rattle.plan_forest.specs.{declared.entry.Kind.Kind, Forest.entry_at, Renewal.renewal}
use Rattle.plan_forest.specs.declared.entry.Kind.TheVariants.{Token, Lease}
use Rattle.vault_inventory.specs.Inventories.{IsInventory, Inventory, credential_at}
use Rattle.vault_inventory.proofs.Inventories.{credential_text}
use Rattle.vault_http.specs.declared.reply.Reply.{Reply}
use Rattle.vault_json.specs.{Renewed.renew_lease_answer, Renewed.renew_self_answer, Written.renewed_lease_text}
use Rattle.vault_json.proofs.ReadBack.{renewed_lease_is_read, renewed_self_is_read}
use Rattle.broker_rule.specs.{declared.row.BrokerRow.BrokerRow, declared.served.Served.Served, Rows.broker_row, Granted.call_for}
use Rattle.broker_rule.specs.Step.{IsReplyBody, SaysAnswer, TellsRow, seconds_to, tells}
use Rattle.broker_rule.specs.declared.served.Served.TheVariants as served
use Rattle.tick_keeper.specs.declared.event.Event.TheVariants.{Told, Refused, Lost}
use Rattle.tick_runs.specs.Replies.{event_if_refused, event_of, told_by_body, told_of_body}
use Rattle.vault_exchange.specs.{Heard.renewed_of_lease, Heard.renewed_of_token, Requests.reply_in_served}
use Rattle.tick_runs.proofs.{Mirroring.renewal_within, Serving.renewed_row}
use Rattle.broker_table.proofs.Granting.{credential_in, renewable_in}

ok_is_told : (kind : Kind) (id : List ℕ) (i : ℕ) (r : Reply) → r.status ≡ 200 → event_of kind id i (Some r) ≡ told_by_body kind id i r.body
unfolding event_of
ok_is_told kind id i r ok = cond-true (r.status == 200) (told_by_body kind id i r.body) (event_if_refused r.status (Refused i) (Lost i)) (ap (λ n. n == 200) ok)

body_told :
    (kind : Kind) (id : List ℕ) (i t : ℕ) (row : BrokerRow) (body : List ℕ) → row.credential ≡ id → (kind ≡ Lease → IsUtf8 id) → IsReplyBody (call_for kind) row t body →
    told_by_body kind id i body ≡ Told i (seconds_to row.end t) row.renewable
unfolding IsReplyBody
body_told Token id i t row body same text is =
    let n = seconds_to row.end t in
    ap (λ b. told_of_body i (renewed_of_token (renew_self_answer b))) is ∙ ap (λ r. told_of_body i (renewed_of_token r)) (renewed_self_is_read n row.renewable (omega arith))
body_told Lease id i t row body same text is =
    let n = seconds_to row.end t in
    ap (λ b. told_of_body i (renewed_of_lease id (renew_lease_answer b))) is
    ∙ ap (λ c. told_of_body i (renewed_of_lease id (renew_lease_answer (renewed_lease_text c n row.renewable)))) same
    ∙ ap (λ r. told_of_body i (renewed_of_lease id r)) (renewed_lease_is_read id n row.renewable (text refl) (omega arith))
    ∙ ap (told_of_body i) (cond-true (bytes_eq id id) (Some (record { seconds = n; renewable = row.renewable })) None ((bytes_decides id id).1 refl))

pub sent_told :
    (kind : Kind) (id : List ℕ) (i t : ℕ) (row : BrokerRow) → row.credential ≡ id → (kind ≡ Lease → IsUtf8 id) → (sent : Served) → TellsRow t (call_for kind) row sent →
    event_of kind id i (reply_in_served sent) ≡ Told i (seconds_to row.end t) row.renewable
sent_told kind id i t row same text (served.Reply reply) says = ok_is_told kind id i reply says.0 ∙ body_told kind id i t row reply.body same text says.1
sent_told kind id i t row same text served.Dropped says = absurd says

-- the reply tells the seconds to the rule's end
pub tells_rule :
    (s : Inventory) → IsInventory s → (t i : ℕ) → t ≤ LAST → i < length s.forest.entries → (entry_at s.forest.entries i).renewable ≡ true → (sent : Served) →
    SaysAnswer t (tells (call_for (entry_at s.forest.entries i).kind) (renewed_row s t i)) sent →
    event_of (entry_at s.forest.entries i).kind (credential_at s.credentials i) i (reply_in_served sent) ≡ Told i (renewal (entry_at s.forest.entries i) t - t) true
tells_rule s supplied t i late within able sent says =
    let e = entry_at s.forest.entries i in
    let end = renewal e t in
    let far = renewal_within e t late (supplied.steps i within) in
    sent_told e.kind (credential_at s.credentials i) i t (renewed_row s t i) (credential_in s i) (λ lease. credential_text s supplied i within) sent says
    ∙ ap (λ n. Told i n (broker_row s i).renewable) (let k : min (end - t) 4294967295 ≡ end - t = omega arith in k)
    ∙ ap (λ b. Told i (end - t) b) (renewable_in s i ∙ able)
