-- The id of a lease that a request names is a text, and so is the credential of the lease that it finds: for the replies.
use Rattle.std.proofs.Common.{◌≡◌, ℕ, Bool, true, false, cond, ◌&&◌, List, [], ◌∷◌, Option, Some, None, IfSome, IsUtf8, bytes_eq, refl, sym, subst, Result, Ok, Err}
use Rattle.std.proofs.lemmas.Str.{IsUtf8-from_is_utf8}
use Rattle.std.specs.{Cmp.Lexicographic.bytes_decides, List.find, Str.is_utf8}
use Rattle.plan_forest.specs.Push.{is_lease}
use Rattle.vault_http.specs.declared.request.Request.{Request}
use Rattle.broker_rule.specs.{declared.row.BrokerRow.BrokerRow, declared.call.ApiCall.ApiCall, declared.fault.Fault.Fault, declared.refusal.Refusal.Refusal}
use Rattle.broker_rule.specs.declared.call.ApiCall.TheVariants.{RenewSelf, RenewLease, LookupSelf, LookupLease}
use Rattle.broker_rule.specs.Renewing.{granted_row, is_deny, new_end, renewal_by_broker}
use Rattle.broker_rule.specs.Request.{a_text, asked, asked_of_lease, increment_in, lease_id_in}
use Rattle.broker_rule.specs.Subject.{Subject, bearer, belongs, is_lease_with, lease_with, owned, subject, with_asked, with_bearer}
use Rattle.broker_table.specs.Found.{GrantNamesText, SubjectNamesText}

text_if : (b : Bool) (id : List ℕ) → b ≡ is_utf8 id → IfSome (cond b (Some id) None) IsUtf8
text_if true id e = IsUtf8-from_is_utf8 id (sym e)
text_if false id e = tt

a_text_is : (o : Option (List ℕ)) → IfSome (a_text o) IsUtf8
a_text_is None = tt
a_text_is (Some id) = text_if (is_utf8 id) id refl

lease_id_is_text : (body : List ℕ) → IfSome (lease_id_in body) IsUtf8
unfolding lease_id_in
lease_id_is_text body = a_text_is _

second : (a b : Bool) → a && b ≡ true → b ≡ true
second true b e = e
second false b e = absurd cc

found_or_later : {X : Type 0} (P : X → Type 0) (b : Bool) (x : X) (o : Option X) → (b ≡ true → P x) → IfSome o P → IfSome (cond b (Some x) o) P
found_or_later P true x o here later = here refl
found_or_later P false x o here later = later

lease_has_id : (id : List ℕ) (rows : List BrokerRow) → IfSome (find (λ r. is_lease_with id r) rows) (λ r. r.credential ≡ id)
unfolding is_lease_with
lease_has_id id [] = tt
lease_has_id id (r ∷ rows) =
    found_or_later (λ (q : BrokerRow). q.credential ≡ id) (is_lease r.kind && bytes_eq r.credential id) r (find (λ (q : BrokerRow). is_lease q.kind && bytes_eq q.credential id) rows)
    (λ e. (bytes_decides r.credential id).0 (second (is_lease r.kind) (bytes_eq r.credential id) e)) (lease_has_id id rows)

text_of_id : (id : List ℕ) (o : Option BrokerRow) → IsUtf8 id → IfSome o (λ r. r.credential ≡ id) → IfSome o (λ r. IsUtf8 r.credential)
text_of_id id None text same = tt
text_of_id id (Some r) text same = subst IsUtf8 (sym same) text

lease_is_text : (rows : List BrokerRow) (id : List ℕ) → IsUtf8 id → IfSome (lease_with rows id) (λ r. IsUtf8 r.credential)
unfolding lease_with
lease_is_text rows id text = text_of_id id (find (λ r. is_lease_with id r) rows) text (lease_has_id id rows)

abbrev IsTextSubject : Result Subject Refusal → Type 0
IsTextSubject (Ok s) = IsUtf8 s.row.credential
IsTextSubject (Err refusal) = Unit {0}

owned_is_text : (token : BrokerRow) (increment : Option ℕ) (found : Option BrokerRow) → IfSome found (λ r. IsUtf8 r.credential) → IsTextSubject (owned token increment found)
owned_is_text token increment None text = tt
owned_is_text token increment (Some lease) text =
    elim (belongs lease.parent token.name) as (λ b. IsTextSubject (cond b (Ok (record { row = lease; increment = increment })) (Err Rattle.broker_rule.specs.declared.refusal.Refusal.TheVariants.PermissionDenied))) [ true ↦ text | false ↦ tt ]

lease_asked_is_text : (rows : List BrokerRow) (token : BrokerRow) (id : Option (List ℕ)) (increment : Option (Option ℕ)) → IfSome id IsUtf8 → IsTextSubject (with_asked rows token (asked_of_lease id increment))
lease_asked_is_text rows token None increment text = tt
lease_asked_is_text rows token (Some id) None text = tt
lease_asked_is_text rows token (Some id) (Some increment) text = owned_is_text token increment (lease_with rows id) (lease_is_text rows id text)

renew_lease_is_text : (rows : List BrokerRow) (body : List ℕ) (token : Option BrokerRow) → IsTextSubject (with_bearer rows RenewLease body token)
unfolding asked
renew_lease_is_text rows body None = tt
renew_lease_is_text rows body (Some token) = lease_asked_is_text rows token (lease_id_in body) (increment_in body) (lease_id_is_text body)

lookup_lease_is_text : (rows : List BrokerRow) (body : List ℕ) (token : Option BrokerRow) → IsTextSubject (with_bearer rows LookupLease body token)
unfolding asked
lookup_lease_is_text rows body None = tt
lookup_lease_is_text rows body (Some token) = lease_asked_is_text rows token (lease_id_in body) (Some None) (lease_id_is_text body)

of_renew_self : (s : Result Subject Refusal) → SubjectNamesText RenewSelf s
of_renew_self (Ok s) = tt
of_renew_self (Err refusal) = tt

of_lookup_self : (s : Result Subject Refusal) → SubjectNamesText LookupSelf s
of_lookup_self (Ok s) = tt
of_lookup_self (Err refusal) = tt

of_renew_lease : (s : Result Subject Refusal) → IsTextSubject s → SubjectNamesText RenewLease s
of_renew_lease (Ok s) text = text
of_renew_lease (Err refusal) text = tt

of_lookup_lease : (s : Result Subject Refusal) → IsTextSubject s → SubjectNamesText LookupLease s
of_lookup_lease (Ok s) text = text
of_lookup_lease (Err refusal) text = tt

-- the row that a request speaks of has a text where the reply names one
pub subject_names_text : (rows : List BrokerRow) (call : ApiCall) (r : Request) → SubjectNamesText call (subject rows call r)
unfolding subject
subject_names_text rows RenewSelf r = of_renew_self _
subject_names_text rows RenewLease r = of_renew_lease _ (renew_lease_is_text rows r.body (bearer rows r.token))
subject_names_text rows LookupSelf r = of_lookup_self _
subject_names_text rows LookupLease r = of_lookup_lease _ (lookup_lease_is_text rows r.body (bearer rows r.token))

granted_names_text : (call : ApiCall) (fault : Option Fault) (t : ℕ) (s : Result Subject Refusal) → SubjectNamesText call s → GrantNamesText call (granted_row fault t s)
granted_names_text call fault t (Err refusal) text = tt
granted_names_text call fault t (Ok s) text =
    elim (s.row.renewable) as (λ b. GrantNamesText call (cond b (Ok (record s.row { end = new_end fault t s.row s.increment })) (Err Rattle.broker_rule.specs.declared.refusal.Refusal.TheVariants.NotRenewable))) [ true ↦ text | false ↦ tt ]

-- the same of a row that is renewed
pub grant_names_text : (rows : List BrokerRow) (t : ℕ) (call : ApiCall) (r : Request) (fault : Option Fault) → GrantNamesText call (renewal_by_broker rows t call r fault)
unfolding renewal_by_broker
grant_names_text rows t call r fault =
    elim (is_deny fault) as (λ b. GrantNamesText call (cond b (Err Rattle.broker_rule.specs.declared.refusal.Refusal.TheVariants.PermissionDenied) (granted_row fault t (subject rows call r)))) [
      | true ↦ tt
      | false ↦ granted_names_text call fault t (subject rows call r) (subject_names_text rows call r)
    ]
