-- Spans: the step of a row that was read is a duration; step and ceiling are those of its terms.
use Rattle.std.proofs.Common.{◌≡◌, ◌==◌, ◌&&◌, ℕ, ◌≤◌, false, Some, None, Option, Ok, refl, sym, subst, arith, unwrap_or, inl, inr}
use Rattle.std.specs.Option.{is_some}
use Rattle.std.proofs.lemmas.Bool.{cases_Bool, cond-true, cond-false}
use Rattle.toml.specs.Data.{Members}
use Rattle.plan_forest.specs.{declared.entry.Entry.Entry, Forest.Forest}
use Rattle.vault_inventory.specs.{Languages.Language, Languages.is_strict, declared.limits.TheConstants.SPAN_MAX, declared.limits.TheConstants.STEP_ABSENT, declared.row.TableRow.TableRow, declared.terms.Terms.Terms}
use Rattle.vault_inventory.specs.declared.key.Key.TheVariants.{Increment, Period, MaxTtl, ExplicitMaxTtl, Reissued}
use Rattle.vault_inventory.specs.Values.{flag_value, has_if, span, value_at}
use Rattle.vault_inventory.specs.Rows.{lease_terms, step_or, token_terms}
use Rattle.vault_inventory.specs.Terms.{ceiling_of, max_ttl_of, step_of}
use Rattle.vault_inventory.proofs.{Chains.bind_ok, Entered.within_read, Parts.LeaseParts, Parts.TokenParts}

record AreSpans (t : Terms) : Type 0 where
  increment : unwrap_or t.increment 0 ≤ SPAN_MAX
  period : t.period ≤ SPAN_MAX

step_or_within : (increment : Option ℕ) (period : ℕ) → unwrap_or increment 0 ≤ SPAN_MAX → unwrap_or (step_or increment period) 0 ≤ SPAN_MAX
step_or_within increment period h =
    elim (cases_Bool (period == 0)) [
      | inl none ↦ subst (λ (o : Option ℕ). unwrap_or o 0 ≤ SPAN_MAX) (sym (cond-true (period == 0) (Some (unwrap_or increment STEP_ABSENT)) increment none)) (or_hour increment h)
      | inr some ↦ subst (λ (o : Option ℕ). unwrap_or o 0 ≤ SPAN_MAX) (sym (cond-false (period == 0) (Some (unwrap_or increment STEP_ABSENT)) increment some)) h
    ]
  where
    or_hour : (o : Option ℕ) → unwrap_or o 0 ≤ SPAN_MAX → unwrap_or o STEP_ABSENT ≤ SPAN_MAX
    or_hour None h = omega arith
    or_hour (Some n) h = h

token_terms_are : (l : Language) (system_max index issued : ℕ) (ms : Members) (t : Terms) → token_terms l system_max index issued ms ≡ Ok t → AreSpans t
unfolding token_terms
token_terms_are l system_max index issued ms t e =
    bind_ok (value_at (span l 0 SPAN_MAX) (Some index) Increment ms) _ t e (λ increment a e1.
    bind_ok (value_at (span l 0 SPAN_MAX) (Some index) Period ms) _ t e1 (λ period b e2.
    bind_ok (has_if (is_strict l && (unwrap_or period 0 == 0)) index Increment (is_some increment)) _ t e2 (λ u c e3.
    bind_ok (value_at (span l 0 SPAN_MAX) (Some index) MaxTtl ms) _ t e3 (λ max_ttl d e4.
    bind_ok (value_at (span l 0 SPAN_MAX) (Some index) ExplicitMaxTtl ms) _ t e4 (λ explicit_max f e5.
    bind_ok (value_at flag_value (Some index) Reissued ms) _ t e5 (λ reissued g e6.
    let made : Terms = record { issued = issued; increment = step_or increment (unwrap_or period 0); period = unwrap_or period 0; max_ttl = max_ttl_of system_max max_ttl; explicit_max = unwrap_or explicit_max 0; reissued = unwrap_or reissued false } in
    let same : made ≡ t = cc in
    subst AreSpans same (record {
      increment = step_or_within increment (unwrap_or period 0) (within_read l 0 SPAN_MAX 0 (omega arith, omega arith) (Some index) Increment ms increment a).1;
      period = (within_read l 0 SPAN_MAX 0 (omega arith, omega arith) (Some index) Period ms period b).1;
    })))))))

lease_terms_are : (l : Language) (system_max index issued : ℕ) (ms : Members) (t : Terms) → lease_terms l system_max index issued ms ≡ Ok t → AreSpans t
unfolding lease_terms
lease_terms_are l system_max index issued ms t e =
    bind_ok (value_at (span l 0 SPAN_MAX) (Some index) Increment ms) _ t e (λ increment a e1.
    bind_ok (has_if (is_strict l) index Increment (is_some increment)) _ t e1 (λ u b e2.
    bind_ok (value_at (span l 0 SPAN_MAX) (Some index) MaxTtl ms) _ t e2 (λ max_ttl d e3.
    bind_ok (value_at flag_value (Some index) Reissued ms) _ t e3 (λ reissued g e4.
    let made : Terms = record { issued = issued; increment = Some (unwrap_or increment STEP_ABSENT); period = 0; max_ttl = max_ttl_of system_max max_ttl; explicit_max = 0; reissued = unwrap_or reissued false } in
    let same : made ≡ t = cc in
    subst AreSpans same (record {
      increment = (within_read l 0 SPAN_MAX STEP_ABSENT (omega arith, omega arith) (Some index) Increment ms increment a).1;
      period = omega arith;
    })))))

-- a step that is a duration, and step and ceiling by the terms
abbrev pub IsGood : Entry → Terms → Type 0
IsGood e t = (e.step ≤ SPAN_MAX) × (e.step ≡ step_of t) × (e.ceiling ≡ ceiling_of t)

pub step_within : (t : Terms) → unwrap_or t.increment 0 ≤ SPAN_MAX → t.period ≤ SPAN_MAX → step_of t ≤ SPAN_MAX
step_within t increment period =
    elim (cases_Bool (t.period == 0)) [
      | inl none ↦ subst (λ n. n ≤ SPAN_MAX) (sym (cond-true (t.period == 0) (unwrap_or t.increment 0) t.period none)) increment
      | inr some ↦ subst (λ n. n ≤ SPAN_MAX) (sym (cond-false (t.period == 0) (unwrap_or t.increment 0) t.period some)) period
    ]

pub token_good : (l : Language) (system_max : ℕ) (g : Forest) (ms : Members) (row : TableRow) → TokenParts l system_max g ms row → IsGood row.entry row.terms
token_good l system_max g ms row parts =
    let spans = token_terms_are l system_max _ parts.life.issued ms parts.terms parts.terms_read in
    subst (λ (r : TableRow). IsGood r.entry r.terms) parts.made (step_within parts.terms spans.increment spans.period, refl, refl)

pub lease_good : (l : Language) (system_max : ℕ) (g : Forest) (ms : Members) (row : TableRow) → LeaseParts l system_max g ms row → IsGood row.entry row.terms
lease_good l system_max g ms row parts =
    let spans = lease_terms_are l system_max _ parts.life.issued ms parts.terms parts.terms_read in
    subst (λ (r : TableRow). IsGood r.entry r.terms) parts.made (step_within parts.terms spans.increment spans.period, refl, refl)
