-- The laws of `specs/Laws.antt`: each tree is read back from its text, and the fields are found in it.
use Rattle.std.proofs.Common.{◌≡◌, ℕ, ◌<◌, ◌≤◌, ◌^◌, ◌==◌, Bool, false, List, Ok, Some, IsUtf8, refl, sym, ap, ◌∙◌, arith, lt-ltb, le-leb, inl, inr, length, ◌≢◌, ne_eqb}
use Rattle.std.proofs.lemmas.Bool.{cases_eq}
use Rattle.base_moment.specs.{declared.moment.TheConstants.LAST, MomentOf.moment_of, Rfc3339.IsDateText}
use Rattle.json.proofs.Printed.Utf8.{IsUtf8-are_ascii}
use Rattle.json.specs.Tree as tree
use Rattle.serde_json.specs.{Data.Data, Data.object, Data.Members, Read.of_json, Read.max_depth, Written.outline, Written.compact_text}
use Rattle.serde_json.proofs.Numbers.{number_of-decimal}
use Rattle.vault_json.specs.{Body.json_tree, Body.object_of_bytes, Body.reply_object, Body.unwrapped, Field.key_of, Field.member_of, Field.required, Field.optional}
use Rattle.vault_json.specs.{Laws.RenewedSelfIsRead, Laws.RenewedLeaseIsRead, Laws.LookedSelfIsRead, Laws.LookedLeaseIsRead, Laws.RenewBodyIsRead, Laws.LeaseBodyIsRead, Laws.LookupBodyIsRead}
use Rattle.vault_json.specs.{Lookup.looked_self_in, Lookup.looked_lease_in, Lookup.lookup_self_answer, Lookup.lookup_lease_answer, Renewed.renewed_in_object, Renewed.renewed_lease_in, Renewed.renew_self_answer, Renewed.renew_lease_answer}
use Rattle.vault_json.specs.{Request.increment_answer, Request.lease_id_answer}
use Rattle.vault_json.specs.{Trees.renew_tree, Trees.lease_tree, Trees.lookup_tree, Trees.renewed_self_tree, Trees.renewed_lease_tree, Trees.looked_plain_tree, Trees.looked_periodic_tree, Trees.looked_lease_tree}
use Rattle.vault_json.specs.{Written.renew_text, Written.lease_text, Written.lookup_text, Written.renewed_self_text, Written.renewed_lease_text, Written.looked_self_text, Written.looked_lease_text}
use Rattle.vault_json.specs.{declared.lookup.Lookup.TheVariants.Token, declared.lookup.Lookup.TheVariants.Lease}
use Rattle.vault_json.proofs.{Bodies.tree_of_text, Dates.date_utf8, Plain.IsPlain, Plain.compact_utf8, Plain.read_compact}
use Rattle.vault_json.proofs.{Texts.renew_text_is, Texts.lease_text_is, Texts.lookup_text_is, Texts.renewed_self_text_is, Texts.renewed_lease_text_is, Texts.looked_plain_text_is, Texts.looked_periodic_text_is, Texts.looked_lease_text_is}

-- the body that was written of an object
body_written : (ms : Members) (text : List ℕ) → compact_text (object ms) ≡ text → IsPlain (object ms) → tree.depth (outline (object ms)) ≤ max_depth → of_json (outline (object ms)) ≡ Some (object ms)
    → object_of_bytes text ≡ Ok (object ms)
unfolding object_of_bytes
body_written ms text is plain shallow same =
    let whole : json_tree text ≡ Some (object ms) = ap json_tree (sym is) ∙ tree_of_text (compact_text (object ms)) (compact_utf8 (object ms) plain) ∙ read_compact (object ms) plain shallow same in
    rw whole refl

-- a text that was written has a byte
some_text : (d : Data) (text : List ℕ) → compact_text d ≡ text → 0 < length (compact_text d) → (length text == 0) ≡ false
some_text d text is some = ap (λ t. length t == 0) (sym is) ∙ ne_eqb (length (compact_text d)) 0 (λ none. omega arith)

pub renewed_self_is_read : RenewedSelfIsRead
unfolding renew_self_answer reply_object unwrapped renewed_in_object required optional member_of key_of
renewed_self_is_read seconds renewable small =
    let wide : seconds < 2 ^ 64 = omega arith in
    let plain : IsPlain (renewed_self_tree seconds renewable) =
    (IsUtf8-are_ascii _ refl, (IsUtf8-are_ascii _ refl, wide, (IsUtf8-are_ascii _ refl, tt, tt)), tt) in
    let read : object_of_bytes (renewed_self_text seconds renewable) ≡ Ok (renewed_self_tree seconds renewable) =
    body_written _ _ (renewed_self_text_is seconds renewable) plain (omega arith) (rw (number_of-decimal seconds wide) refl) in
    rw (read, lt-ltb _ _ small) refl

pub renewed_lease_is_read : RenewedLeaseIsRead
unfolding renew_lease_answer reply_object unwrapped renewed_lease_in required optional member_of key_of
renewed_lease_is_read id seconds renewable utf8 small =
    let wide : seconds < 2 ^ 64 = omega arith in
    let plain : IsPlain (renewed_lease_tree id seconds renewable) =
    (IsUtf8-are_ascii _ refl, wide, (IsUtf8-are_ascii _ refl, utf8, (IsUtf8-are_ascii _ refl, tt, tt))) in
    let read : object_of_bytes (renewed_lease_text id seconds renewable) ≡ Ok (renewed_lease_tree id seconds renewable) =
    body_written _ _ (renewed_lease_text_is id seconds renewable) plain (omega arith) (rw (number_of-decimal seconds wide) refl) in
    rw (read, lt-ltb _ _ small) refl

pub renew_body_is_read : RenewBodyIsRead
unfolding increment_answer optional member_of key_of
renew_body_is_read step small =
    let wide : step < 2 ^ 64 = omega arith in
    let plain : IsPlain (renew_tree step) = (IsUtf8-are_ascii _ refl, wide, tt) in
    let read : object_of_bytes (renew_text step) ≡ Ok (renew_tree step) =
    body_written _ _ (renew_text_is step) plain (omega arith) (rw (number_of-decimal step wide) refl) in
    rw (some_text (renew_tree step) _ (renew_text_is step) (omega arith), read, lt-ltb _ _ small) refl

pub lease_body_is_read : LeaseBodyIsRead
unfolding increment_answer lease_id_answer required optional member_of key_of
lease_body_is_read id step utf8 small =
    let wide : step < 2 ^ 64 = omega arith in
    let plain : IsPlain (lease_tree id step) = (IsUtf8-are_ascii _ refl, wide, (IsUtf8-are_ascii _ refl, utf8, tt)) in
    let read : object_of_bytes (lease_text id step) ≡ Ok (lease_tree id step) =
    body_written _ _ (lease_text_is id step) plain (omega arith) (rw (number_of-decimal step wide) refl) in
    (rw read refl, rw (some_text (lease_tree id step) _ (lease_text_is id step) (omega arith), read, lt-ltb _ _ small) refl)

pub lookup_body_is_read : LookupBodyIsRead
unfolding lease_id_answer required member_of key_of
lookup_body_is_read id utf8 =
    let plain : IsPlain (lookup_tree id) = (IsUtf8-are_ascii _ refl, utf8, tt) in
    let read : object_of_bytes (lookup_text id) ≡ Ok (lookup_tree id) = body_written _ _ (lookup_text_is id) plain (omega arith) refl in
    rw read refl

-- ---- a token's lookup, without a period and with one

plain_read : (ttl created explicit_max : ℕ) (orphan renewable : Bool) → ttl < 2 ^ 32 → created ≤ LAST → explicit_max < 2 ^ 32
    → lookup_self_answer (looked_self_text ttl created explicit_max orphan renewable 0) ≡ Ok (Token ttl created explicit_max orphan renewable 0)
unfolding lookup_self_answer reply_object unwrapped looked_self_in required optional member_of key_of
plain_read ttl created explicit_max orphan renewable small_ttl early small_max =
    let wide_ttl : ttl < 2 ^ 64 = omega arith in
    let wide_created : created < 2 ^ 64 = omega arith in
    let wide_max : explicit_max < 2 ^ 64 = omega arith in
    let plain : IsPlain (looked_plain_tree ttl created explicit_max orphan renewable) = (IsUtf8-are_ascii _ refl, (IsUtf8-are_ascii _ refl, wide_created, (IsUtf8-are_ascii _ refl, wide_max, (IsUtf8-are_ascii _ refl, tt, (IsUtf8-are_ascii _ refl, tt, (IsUtf8-are_ascii _ refl, wide_ttl, tt))))), tt) in
    let read : object_of_bytes (looked_self_text ttl created explicit_max orphan renewable 0) ≡ Ok (looked_plain_tree ttl created explicit_max orphan renewable) =
    body_written _ _ (looked_plain_text_is ttl created explicit_max orphan renewable) plain (omega arith)
    (rw (number_of-decimal created wide_created, number_of-decimal explicit_max wide_max, number_of-decimal ttl wide_ttl) refl) in
    rw (read, lt-ltb ttl _ small_ttl, le-leb created _ early, lt-ltb explicit_max _ small_max) refl

periodic_read : (ttl created explicit_max : ℕ) (orphan renewable : Bool) (period : ℕ) → ttl < 2 ^ 32 → created ≤ LAST → explicit_max < 2 ^ 32 → period < 2 ^ 32 → period ≢ 0
    → lookup_self_answer (looked_self_text ttl created explicit_max orphan renewable period) ≡ Ok (Token ttl created explicit_max orphan renewable period)
unfolding lookup_self_answer reply_object unwrapped looked_self_in required optional member_of key_of
periodic_read ttl created explicit_max orphan renewable period small_ttl early small_max small_period some =
    let wide_ttl : ttl < 2 ^ 64 = omega arith in
    let wide_created : created < 2 ^ 64 = omega arith in
    let wide_max : explicit_max < 2 ^ 64 = omega arith in
    let wide_period : period < 2 ^ 64 = omega arith in
    let plain : IsPlain (looked_periodic_tree ttl created explicit_max orphan renewable period) = (
      IsUtf8-are_ascii _ refl,
      (
        IsUtf8-are_ascii _ refl,
        wide_created,
        (
          IsUtf8-are_ascii _ refl,
          wide_max,
          (
            IsUtf8-are_ascii _ refl,
            tt,
            (IsUtf8-are_ascii _ refl, wide_period, (IsUtf8-are_ascii _ refl, tt, (IsUtf8-are_ascii _ refl, wide_ttl, tt))),
          ),
        ),
      ),
      tt,
    ) in
    let read : object_of_bytes (looked_self_text ttl created explicit_max orphan renewable period) ≡ Ok (looked_periodic_tree ttl created explicit_max orphan renewable period) =
    body_written _ _ (looked_periodic_text_is ttl created explicit_max orphan renewable period some) plain (omega arith)
    (rw (number_of-decimal created wide_created, number_of-decimal explicit_max wide_max, number_of-decimal period wide_period, number_of-decimal ttl wide_ttl) refl) in
    rw (read, lt-ltb ttl _ small_ttl, le-leb created _ early, lt-ltb explicit_max _ small_max, lt-ltb period _ small_period) refl

pub looked_self_is_read : LookedSelfIsRead
looked_self_is_read ttl created explicit_max orphan renewable period small_ttl early small_max small_period =
    elim (cases_eq period 0) [
      | inl none ↦ rw none (plain_read ttl created explicit_max orphan renewable small_ttl early small_max)
      | inr some ↦ periodic_read ttl created explicit_max orphan renewable period small_ttl early small_max small_period some
    ]

-- ---- a lease's lookup, where the text of a date is read as its moment

lease_read : (id date : List ℕ) (issued : ℕ) (renewable : Bool) (ttl : ℕ) → IsUtf8 id → IsUtf8 date → moment_of date ≡ Ok issued → ttl < 2 ^ 32
    → lookup_lease_answer (looked_lease_text id date renewable ttl) ≡ Ok (Lease id issued renewable ttl)
unfolding lookup_lease_answer reply_object unwrapped looked_lease_in required optional member_of key_of
lease_read id date issued renewable ttl id_utf8 date_is_utf8 dated small =
    let wide : ttl < 2 ^ 64 = omega arith in
    let plain : IsPlain (looked_lease_tree id date renewable ttl) =
    (IsUtf8-are_ascii _ refl, (IsUtf8-are_ascii _ refl, id_utf8, (IsUtf8-are_ascii _ refl, date_is_utf8, (IsUtf8-are_ascii _ refl, tt, (IsUtf8-are_ascii _ refl, wide, tt)))), tt) in
    let read : object_of_bytes (looked_lease_text id date renewable ttl) ≡ Ok (looked_lease_tree id date renewable ttl) =
    body_written _ _ (looked_lease_text_is id date renewable ttl) plain (omega arith) (rw (number_of-decimal ttl wide) refl) in
    rw (read, dated, lt-ltb ttl _ small) refl

pub looked_lease_is_read : ((text : List ℕ) (moment : ℕ) → moment ≤ LAST → IsDateText text moment → moment_of text ≡ Ok moment) → LookedLeaseIsRead
looked_lease_is_read dates body id issued renewable ttl id_utf8 early small is =
    rw is.2 (lease_read id is.0 issued renewable ttl id_utf8 (date_utf8 is.0 issued is.1) (dates is.0 issued early is.1) small)
