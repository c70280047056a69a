-- Written: the inventory of a text is what its document writes.
use Rattle.std.proofs.Common.{◌≡◌, ℕ, ◌+◌, List, [], ◌∷◌, ◌++◌, None, Ok, Option, Result, length, refl, sym, ap, ◌∙◌, subst, arith, unwrap_or}
use Rattle.std.proofs.lemmas.List.{append-nil, append_assoc, length_push}
use Rattle.std.proofs.Math.ListN.{length-append}
use Rattle.toml.specs.Data.{Members, no_items}
use Rattle.plan_forest.specs.declared.forest.TheConstants.{MARGIN_MAX}
use Rattle.vault_inventory.specs.{declared.fault.InvFault.InvFault, declared.limits.TheConstants.SPAN_MAX, declared.limits.TheConstants.SYSTEM_MAX, declared.row.TableRow.TableRow, Intake.Intake, Intake.empty_intake, Languages.full}
use Rattle.vault_inventory.specs.{Keys.top_keys, Laws.WrittenLaw}
use Rattle.vault_inventory.specs.declared.key.Key.TheVariants.{SystemMax, Margin, Token, Lease}
use Rattle.vault_inventory.specs.Inventory.{document_tree, entered_by, if_read, intake_of, lease_entered, read_served, served_of, system_max_in, token_entered}
use Rattle.vault_inventory.specs.Values.{is_key_there, only, span, tables, value_at}
use Rattle.vault_inventory.specs.Written.{DocumentWrites, IsLease, IsLeaseAt, IsToken, count_of}
use Rattle.vault_inventory.proofs.Chains.{bind_ok}
use Rattle.vault_inventory.proofs.Grown.{Pushed, Takes, all_taken, lease_over, read_so_far, stays_written, token_over}
use Rattle.vault_inventory.proofs.Rowed.{lease_row_is, only_is, token_row_is, writes_is}
use Rattle.vault_inventory.proofs.Taken.{KeepsIt, all_keep, lease_entered_ok, token_entered_ok, took_lease, took_token}

-- ---- one credential and one set of terms for each entry, and at first no lease

record Matched (s : Intake) : Type 0 where
  credited : length s.secrets + length s.lease_ids ≡ length s.forest.entries
  termed : length s.terms ≡ length s.forest.entries
  noted : length s.notes ≡ length s.forest.entries

abbrev TokensAlone : Intake → Type 0
TokensAlone s = Matched s × (s.lease_ids ≡ [])

token_matched : (s : Intake) (row : TableRow) → TokensAlone s → TokensAlone (took_token s row)
token_matched s row alone =
    let a = length_push s.forest.entries row.entry in
    let b = length_push s.secrets row.credential in
    let c = length_push s.terms row.terms in
    let d = length_push s.notes row.note in
    let m = alone.0.credited in
    let n = alone.0.termed in
    let o = alone.0.noted in
    (record { credited = omega (arith, a, b, m); termed = omega (arith, a, c, n); noted = omega (arith, a, d, o) }, alone.1)

lease_matched : (s : Intake) (row : TableRow) → Matched s → Matched (took_lease s row)
lease_matched s row matched =
    let a = length_push s.forest.entries row.entry in
    let b = length_push s.lease_ids row.credential in
    let c = length_push s.terms row.terms in
    let d = length_push s.notes row.note in
    let m = matched.credited in
    let n = matched.termed in
    let o = matched.noted in
    record { credited = omega (arith, a, b, m); termed = omega (arith, a, c, n); noted = omega (arith, a, d, o) }

token_step : (system_max : ℕ) → KeepsIt TokensAlone (token_entered full system_max)
token_step system_max s t ms alone e = let taken = token_entered_ok full system_max s t ms e in subst TokensAlone taken.3 (token_matched s taken.0 alone)

lease_step : (system_max : ℕ) → KeepsIt Matched (lease_entered full system_max)
lease_step system_max s t ms matched e = let taken = lease_entered_ok full system_max s t ms e in subst Matched taken.3 (lease_matched s taken.0 matched)

-- ---- a step takes one row

no_lease : (secrets lease_ids : List (List ℕ)) (c : List ℕ) → lease_ids ≡ [] → (secrets ++ c ∷ []) ++ lease_ids ≡ (secrets ++ lease_ids) ++ c ∷ []
no_lease secrets lease_ids c none = ap (λ ls. (secrets ++ c ∷ []) ++ ls) none ∙ append-nil (secrets ++ c ∷ []) ∙ ap (λ xs. xs ++ c ∷ []) (sym (ap (λ ls. secrets ++ ls) none ∙ append-nil secrets))

token_pushed : (s : Intake) (row : TableRow) → TokensAlone s → Pushed (read_so_far s) (read_so_far (took_token s row)) row
token_pushed s row alone = record {
  entries = refl;
  margin = refl;
  credentials = no_lease s.secrets s.lease_ids row.credential alone.1;
  terms = refl;
  notes = refl;
  credited = length-append s.secrets s.lease_ids ∙ alone.0.credited;
  termed = alone.0.termed;
  noted = alone.0.noted;
}

lease_pushed : (s : Intake) (row : TableRow) → Matched s → Pushed (read_so_far s) (read_so_far (took_lease s row)) row
lease_pushed s row matched = record {
  entries = refl;
  margin = refl;
  credentials = sym (append_assoc s.secrets s.lease_ids (row.credential ∷ []));
  terms = refl;
  notes = refl;
  credited = length-append s.secrets s.lease_ids ∙ matched.credited;
  termed = matched.termed;
  noted = matched.noted;
}

tokens_taken : (system_max : ℕ) → Takes (IsToken system_max) TokensAlone (token_entered full system_max)
tokens_taken system_max s t ms alone e =
    let taken = token_entered_ok full system_max s t ms e in
    (taken.0, subst (λ u. Pushed (read_so_far s) (read_so_far u) taken.0) taken.3 (token_pushed s taken.0 alone), token_row_is system_max s.forest ms taken.0 taken.1 taken.2.entry)

leases_taken : (system_max : ℕ) → Takes (IsLease system_max) Matched (lease_entered full system_max)
leases_taken system_max s t ms matched e =
    let taken = lease_entered_ok full system_max s t ms e in
    (taken.0, subst (λ u. Pushed (read_so_far s) (read_so_far u) taken.0) taken.3 (lease_pushed s taken.0 matched), lease_row_is system_max s.forest ms taken.0 taken.1 taken.2.entry)

-- ---- a document

none_matched : (margin : ℕ) → TokensAlone (empty_intake margin)
none_matched margin = (record { credited = refl; termed = refl; noted = refl }, refl)

read_is : (ms : Members) (o : Option ℕ) → value_at (span full 1 SPAN_MAX) None SystemMax ms ≡ Ok o → system_max_in ms ≡ o
unfolding system_max_in
read_is ms o e = ap (λ (r : Result (Option ℕ) InvFault). if_read r) e

abbrev WritesAll : Members → Intake → Option ℕ → Type 0
WritesAll ms t o = DocumentWrites ms (record (read_so_far t) { has_margin = is_key_there Margin ms; system_max = o })

intake_written : (ms : Members) (t : Intake) → intake_of full ms ≡ Ok t → WritesAll ms t (system_max_in ms)
unfolding intake_of
intake_written ms t e =
    bind_ok (only top_keys None ms) _ t e (λ known k e1.
    bind_ok (value_at (span full 1 SPAN_MAX) None SystemMax ms) _ t e1 (λ system_max a e2.
    bind_ok (value_at (span full 1 MARGIN_MAX) None Margin ms) _ t e2 (λ margin b e3.
    bind_ok (value_at tables None Token ms) _ t e3 (λ tokens c e4.
    bind_ok (value_at tables None Lease ms) _ t e4 (λ leases d e5.
    bind_ok (entered_by (token_entered full (unwrap_or system_max SYSTEM_MAX)) Token (empty_intake (unwrap_or margin 1)) (unwrap_or tokens no_items)) _ t e5 (λ u f e6.
    let most = unwrap_or system_max SYSTEM_MAX in
    let start = empty_intake (unwrap_or margin 1) in
    let first = all_taken (IsToken most) (token_over most) TokensAlone (token_entered full most) (token_step most) (tokens_taken most) Token start u (unwrap_or tokens no_items) (none_matched (unwrap_or margin 1)) f in
    let alone = all_keep TokensAlone (token_entered full most) (token_step most) Token start u (unwrap_or tokens no_items) (none_matched (unwrap_or margin 1)) f in
    let rest = all_taken (IsLease most) (lease_over most) Matched (lease_entered full most) (lease_step most) (leases_taken most) Lease u t (unwrap_or leases no_items) alone.0 e6 in
    let written : WritesAll ms t system_max = record {
      keys = only_is top_keys None ms known k;
      system_max = writes_is (span full 1 SPAN_MAX) None SystemMax ms system_max a;
      margin = (margin, writes_is (span full 1 MARGIN_MAX) None Margin ms margin b, rest.grown.margin ∙ first.grown.margin);
      has_margin = refl;
      tokens = unwrap_or tokens no_items;
      tokens_written = (tokens, writes_is tables None Token ms tokens c, refl);
      leases = unwrap_or leases no_items;
      leases_written = (leases, writes_is tables None Lease ms leases d, refl);
      count = let m = first.count in let n = rest.count in omega (arith, m, n);
      each_token = stays_written (IsToken most) (token_over most) (read_so_far start) (read_so_far u) (read_so_far t) (unwrap_or tokens no_items) refl first rest.grown;
      each_lease = λ i ns there.
          let place : length u.forest.entries ≡ count_of (unwrap_or tokens no_items) = let m = first.count in omega (arith, m) in
          subst (λ k. IsLeaseAt most (read_so_far t) (k + i) ns) place (rest.each i ns there);
    } in
    subst (WritesAll ms t) (sym (read_is ms system_max a)) written))))))

pub written_law : WrittenLaw
unfolding read_served served_of
written_law bytes v e =
    bind_ok (document_tree bytes) _ v e (λ ms read e1.
    bind_ok (intake_of full ms) _ v e1 (λ t is e2.
    let same : record (read_so_far t) { has_margin = is_key_there Margin ms; system_max = system_max_in ms } ≡ v = cc in
    (ms, read, subst (DocumentWrites ms) same (intake_written ms t is))))
