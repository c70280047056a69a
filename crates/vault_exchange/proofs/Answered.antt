-- Of which row an answer of the broker speaks: so no reply to a renewal is longer than is read.
use Rattle.std.proofs.Common.{◌≡◌, ℕ, ◌<◌, ◌≤◌, ◌^◌, ◌⊎◌, inl, inr, Bool, true, false, cond, List, [], ◌∷◌, length, bytes_eq, ◌&&◌, refl, sym, subst, ap, ◌∙◌, arith, Option, Some, None, Result, Ok, Err, if◌then◌else◌, IsUtf8}
use Rattle.std.specs.{Cmp.Lexicographic.bytes_decides, List.find, Str.is_utf8}
use Rattle.plan_forest.specs.Push.{is_lease}
use Rattle.plan_forest.proofs.Carrying.{and_right}
use Rattle.vault_exchange.specs.Requests.{ReplyFits, lease_renewal, token_renewal}
use Rattle.vault_exchange.proofs.Lengths.{errors_short, ok_short, refusal_short, refused_short, renewed_lease_short, renewed_self_short, reply_short, status_short}
use Rattle.broker_rule.specs.{declared.call.ApiCall.ApiCall, declared.fault.Fault.Fault, declared.refusal.Refusal.Refusal, declared.row.BrokerRow.BrokerRow, declared.served.Served.Served, Table.BrokerTable}
use Rattle.broker_rule.specs.{Faults.fault_at, Faults.next_number}
use Rattle.broker_rule.specs.declared.call.ApiCall.TheVariants.{RenewSelf, RenewLease}
use Rattle.broker_rule.specs.declared.refusal.Refusal.TheVariants.{NotRenewable, PermissionDenied}
use Rattle.broker_rule.specs.Renewing.{granted_row, is_deny, new_end, renewal_by_broker}
use Rattle.broker_rule.specs.Request.{a_text, allows, asked, asked_of_lease, call_of, increment_in, is_renewal, lease_id_in, read_or_none}
use Rattle.broker_rule.specs.Step.{BrokerAnswer, BrokerOutcome, IsReplyBody, SaysAnswer, after_sweep, broker_step, by_call, drops, is_drop, lookup_answer, refuses, renewal_answer, renewal_outcome, seconds_to, tells}
use Rattle.broker_rule.specs.Subject.{Subject, bearer, belongs, is_lease_with, lease_with, owned, subject, with_asked, with_bearer}
use Rattle.broker_rule.specs.declared.served.Served.TheVariants as served
use Rattle.std.proofs.lemmas.{Bool.cond-true, Str.is_utf8-from_IsUtf8}
use Rattle.vault_http.specs.declared.request.Request.{Request}
use Rattle.vault_json.proofs.ReadBack.{lease_body_is_read}
use Rattle.vault_json.specs.{Request.increment_answer, Written.lease_text}

-- ---- the row of which a request speaks

find_passes : {X : Type 0} (p : X → Bool) (xs : List X) (x : X) → find p xs ≡ Some x → p x ≡ true
find_passes p [] x e = absurd cc
find_passes p (y ∷ ys) x e = first_or p y ys x (p y) refl e (find_passes p ys x)
  where
    first_or :
        {X : Type 0} (p : X → Bool) (y : X) (ys : List X) (x : X) (b : Bool) → p y ≡ b → cond b (Some y) (find p ys) ≡ Some x → (find p ys ≡ Some x → p x ≡ true) → p x ≡ true
    first_or p y ys x true passes e rest = let same : Some y ≡ Some x = e in let is : y ≡ x = cc in sym (ap p is) ∙ passes
    first_or p y ys x false passes e rest = rest e

lease_found : (rows : List BrokerRow) (id : List ℕ) (lease : BrokerRow) → lease_with rows id ≡ Some lease → lease.credential ≡ id
unfolding lease_with is_lease_with
lease_found rows id lease e = (bytes_decides lease.credential id).0 (and_right (is_lease lease.kind) (bytes_eq lease.credential id) (find_passes (λ r. is_lease r.kind && bytes_eq r.credential id) rows lease e))

owned_is : (token : BrokerRow) (increment : Option ℕ) (found : Option BrokerRow) (s : Subject) → owned token increment found ≡ Ok s → found ≡ Some s.row
owned_is token increment None s e = absurd cc
owned_is token increment (Some lease) s e = by_owner (belongs lease.parent token.name) e
  where
    by_owner : (b : Bool) → ◌≡◌ {A = Result Subject Refusal} (if b then Ok (record { row = lease; increment = increment }) else Err PermissionDenied) (Ok s) → Some lease ≡ Some s.row
    by_owner true e = let same : record { row = lease; increment = increment } ≡ s = cc in ap (λ (u : Subject). Some u.row) same
    by_owner false e = absurd cc

-- a request that names a lease's id speaks of a row with that id
subject_names :
    (rows : List BrokerRow) (call : ApiCall) (r : Request) (id : List ℕ) (increment : Option ℕ) (s : Subject) →
    asked call r.body ≡ Some (record { lease_id = Some id; increment = increment }) → subject rows call r ≡ Ok s → s.row.credential ≡ id
unfolding subject
subject_names rows call r id increment s is e = by_bearer (bearer rows r.token) e
  where
    by_bearer : (o : Option BrokerRow) → with_bearer rows call r.body o ≡ Ok s → s.row.credential ≡ id
    by_bearer None e = absurd cc
    by_bearer (Some token) e =
        lease_found rows id s.row (owned_is token increment (lease_with rows id) s (ap (with_asked rows token) (sym is) ∙ e))

-- ---- the row of which an answer speaks

looked_tells : (call c : ApiCall) (found : Result Subject Refusal) (row : BrokerRow) → lookup_answer call found ≡ tells c row → (call ≡ c) × ((s : Subject) × ((found ≡ Ok s) × (s.row.credential ≡ row.credential)))
looked_tells call c (Err refusal) row e = absurd cc
looked_tells call c (Ok s) row e = let same : s.row ≡ row = cc in (cc, (s, (refl, ap (λ (r : BrokerRow). r.credential) same)))

renewed_tells : (call c : ApiCall) (fault : Option Fault) (found : Result BrokerRow Refusal) (row : BrokerRow) → renewal_answer call fault found ≡ tells c row → (call ≡ c) × (found ≡ Ok row)
renewed_tells call c fault (Err refusal) row e = absurd cc
renewed_tells call c fault (Ok made) row e = by_drop (is_drop fault) e
  where
    by_drop : (b : Bool) → (if b then drops else tells call made) ≡ tells c row → (call ≡ c) × (◌≡◌ {A = Result BrokerRow Refusal} (Ok made) (Ok row))
    by_drop true e = absurd cc
    by_drop false e = (cc, cc)

granted_names : (fault : Option Fault) (t : ℕ) (found : Result Subject Refusal) (row : BrokerRow) → granted_row fault t found ≡ Ok row → (s : Subject) × ((found ≡ Ok s) × (s.row.credential ≡ row.credential))
granted_names fault t (Err refusal) row e = absurd cc
granted_names fault t (Ok s) row e = (s, (refl, by_renewable s.row.renewable e))
  where
    by_renewable : (b : Bool) → ◌≡◌ {A = Result BrokerRow Refusal} (if b then Ok (record s.row { end = new_end fault t s.row s.increment }) else Err NotRenewable) (Ok row) → s.row.credential ≡ row.credential
    by_renewable true e = let same : record s.row { end = new_end fault t s.row s.increment } ≡ row = cc in ap (λ (r : BrokerRow). r.credential) same
    by_renewable false e = absurd cc

renewal_names :
    (rows : List BrokerRow) (t : ℕ) (call : ApiCall) (r : Request) (fault : Option Fault) (row : BrokerRow) → renewal_by_broker rows t call r fault ≡ Ok row →
    (s : Subject) × ((subject rows call r ≡ Ok s) × (s.row.credential ≡ row.credential))
unfolding renewal_by_broker
renewal_names rows t call r fault row e = by_deny (is_deny fault) e
  where
    by_deny :
        (b : Bool) → ◌≡◌ {A = Result BrokerRow Refusal} (if b then Err PermissionDenied else granted_row fault t (subject rows call r)) (Ok row) →
        (s : Subject) × ((subject rows call r ≡ Ok s) × (s.row.credential ≡ row.credential))
    by_deny true e = absurd cc
    by_deny false e = granted_names fault t (subject rows call r) row e

-- what an answer's row is: that of the call, and of the lease that the body names
abbrev pub Names : Request → Option ApiCall → ApiCall → BrokerRow → Type 0
Names r found c row =
    (found ≡ Some c) × ((id : List ℕ) (increment : Option ℕ) → asked c r.body ≡ Some (record { lease_id = Some id; increment = increment }) → row.credential ≡ id)

of_subject :
    (rows : List BrokerRow) (r : Request) (call c : ApiCall) (row : BrokerRow) → call ≡ c → (s : Subject) × ((subject rows call r ≡ Ok s) × (s.row.credential ≡ row.credential)) →
    Names r (Some call) c row
of_subject rows r call c row same found =
    let s = found.0 in (
      ap (λ (x : ApiCall). Some x) same,
      λ id increment is. sym found.1.1 ∙ subject_names rows call r id increment s (ap (λ (x : ApiCall). asked x r.body) same ∙ is) found.1.0,
    )

split : (b : Bool) (x y : BrokerOutcome) (c : ApiCall) (row : BrokerRow) → (if b then x else y).answer ≡ tells c row → (x.answer ≡ tells c row) ⊎ (y.answer ≡ tells c row)
split true x y c row e = inl e
split false x y c row e = inr e

by_call_names : (l : BrokerTable) (t : ℕ) (r : Request) (found : Option ApiCall) (c : ApiCall) (row : BrokerRow) → (by_call l t r found).answer ≡ tells c row → Names r found c row
unfolding renewal_outcome
by_call_names l t r None c row e = absurd cc
by_call_names l t r (Some call) c row e =
    elim (split (allows call r.method) _ _ c row e) [
      | inl e' ↦ elim (split (is_renewal call) _ _ c row e') [
        | inl e'' ↦
            let fault = fault_at l.faults (next_number l.count) in
            let is = renewed_tells call c fault (renewal_by_broker l.rows t call r fault) row e'' in
            of_subject l.rows r call c row is.0 (renewal_names l.rows t call r fault row is.1)
        | inr e'' ↦ let is = looked_tells call c (subject l.rows call r) row e'' in of_subject l.rows r call c row is.0 is.1
      ]
      | inr e' ↦ absurd cc
    ]

answer_names : (l : BrokerTable) (t : ℕ) (r : Request) (c : ApiCall) (row : BrokerRow) → (broker_step l t r).answer ≡ tells c row → Names r (call_of r.path) c row
unfolding broker_step
answer_names l t r c row e = by_call_names (after_sweep l t) t r (call_of r.path) c row e

-- ---- how long its reply is

seconds_small : (end t : ℕ) → seconds_to end t < 2 ^ 32
seconds_small end t = omega arith

fits :
    (t : ℕ) (answer : BrokerAnswer) → ((c : ApiCall) (row : BrokerRow) (body : List ℕ) → answer ≡ tells c row → IsReplyBody c row t body → length body ≤ 2000) →
    (sent : Served) → SaysAnswer t answer sent → ReplyFits sent
fits t (refuses refusal) short (served.Reply reply) says =
    reply_short reply (status_short reply.status _ says.0 (refused_short refusal))
    (subst (λ bs. length bs ≤ 2000) (sym says.1) (errors_short _ (refusal_short refusal)))
fits t (tells c row) short (served.Reply reply) says = reply_short reply (status_short reply.status 200 says.0 ok_short) (short c row reply.body refl says.1)
fits t drops short (served.Reply reply) says = absurd says
fits t answer short served.Dropped says = tt

token_body : (t : ℕ) (c : ApiCall) (row : BrokerRow) (body : List ℕ) → Some RenewSelf ≡ Some c → IsReplyBody c row t body → length body ≤ 2000
unfolding IsReplyBody
token_body t RenewSelf row body e is = subst (λ (bs : List ℕ). length bs ≤ 2000) (sym is) (renewed_self_short _ row.renewable (seconds_small row.end t))
token_body t _ row body e is = absurd cc

-- the reply to the renewal of a token
pub token_fits : (port : ℕ) (credential : List ℕ) (step' : ℕ) (l : BrokerTable) (t : ℕ) (sent : Served) → SaysAnswer t (broker_step l t (token_renewal port credential step')).answer sent → ReplyFits sent
unfolding call_of
token_fits port credential step' l t sent says =
    let r = token_renewal port credential step' in
    fits t (broker_step l t r).answer (λ c row body e is. token_body t c row body (answer_names l t r c row e).0 is) sent says

-- the id and the step that the body of a lease's renewal asks for
pub lease_renew_asked : (id : List ℕ) (n : ℕ) → IsUtf8 id → n < 2 ^ 32 → asked RenewLease (lease_text id n) ≡ Some (record { lease_id = Some id; increment = Some n })
unfolding asked increment_in lease_id_in
lease_renew_asked id n utf8 small =
    let read = lease_body_is_read id n utf8 (omega (arith, small)) in
    ap (λ a. asked_of_lease (a_text (read_or_none a)) (read_or_none (increment_answer (lease_text id n)))) read.0
    ∙ ap (λ a. asked_of_lease (a_text (Some id)) (read_or_none a)) read.1
    ∙ ap (λ a. asked_of_lease a (Some (Some n))) (cond-true (is_utf8 id) (Some id) None (is_utf8-from_IsUtf8 id utf8))

lease_body :
    (t : ℕ) (id : List ℕ) → length id ≤ 256 → (c : ApiCall) (row : BrokerRow) (body : List ℕ) → Some RenewLease ≡ Some c → (c ≡ RenewLease → row.credential ≡ id) → IsReplyBody c row t body → length body ≤ 2000
unfolding IsReplyBody
lease_body t id small RenewLease row body e names is =
    subst (λ (bs : List ℕ). length bs ≤ 2000) (sym is) (renewed_lease_short row.credential _ row.renewable (subst (λ (bs : List ℕ). length bs ≤ 256) (sym (names refl)) small) (seconds_small row.end t))
lease_body t id small _ row body e names is = absurd cc

-- and to that of a lease
pub lease_fits :
    (port : ℕ) (owner : Option (List ℕ)) (id : List ℕ) (step' : ℕ) → length id ≤ 256 → IsUtf8 id → step' < 2 ^ 32 →
    (l : BrokerTable) (t : ℕ) (sent : Served) → SaysAnswer t (broker_step l t (lease_renewal port owner id step')).answer sent → ReplyFits sent
unfolding call_of
lease_fits port owner id step' short utf8 small l t sent says =
    let r = lease_renewal port owner id step' in
    fits t (broker_step l t r).answer (λ c row body e is.
    let names = answer_names l t r c row e in
    lease_body t id short c row body names.0
    (λ same. names.1 id (Some step') (ap (λ (x : ApiCall). asked x (lease_text id step')) same ∙ lease_renew_asked id step' utf8 small)) is) sent says
