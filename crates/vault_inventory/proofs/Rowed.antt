-- Rowed: the row that is read of a table is what the table writes.
use Rattle.std.proofs.Common.{◌≡◌, ℕ, suc, ◌<◌, ◌&&◌, ◌∙◌, Bool, true, false, cond, List, [], ◌∷◌, Some, None, Option, Result, Ok, Err, bytes_eq, length, option_map, refl, sym, ap, subst, arith, unwrap_or}
use Rattle.std.specs.{Option.is_some, Cmp.Lexicographic.bytes_decides}
use Rattle.toml.specs.Data.{Data, Members, get_member}
use Rattle.plan_forest.specs.{declared.entry.Entry.Entry, Push.entry_refusal, Push.lacks_parent}
use Rattle.plan_forest.specs.Forest.{Forest, entry_at, index_named}
use Rattle.plan_forest.proofs.Placed.{parent_below, taken_from_refusal}
use Rattle.vault_inventory.specs.{declared.fault.InvFault.InvFault, declared.key.Key.Key, declared.limits.TheConstants.SPAN_MAX, declared.limits.TheConstants.STEP_ABSENT, declared.row.Life.Life, declared.row.TableRow.TableRow}
use Rattle.vault_inventory.specs.{declared.terms.Terms.Terms, Languages.full, Terms.max_ttl_of}
use Rattle.vault_inventory.specs.declared.fault.InvFault.TheVariants.{BadValue, UnknownKey}
use Rattle.vault_inventory.specs.declared.key.Key.TheVariants.{Token, Name, Parent, Issued, End, Renewable, Increment, Period, MaxTtl, ExplicitMaxTtl, Reissued, Need, Secret, SecretFile, LeaseId, LeaseIdFile}
use Rattle.vault_inventory.specs.Keys.{all_keys, is_one_of, key_text, lease_keys, token_keys}
use Rattle.vault_inventory.specs.Values.{alone_if, credential, end_value, flag_value, has_if, is_key_there, moment_value, need, needed_value, only, path, read_if, span, text, value_at}
use Rattle.vault_inventory.specs.Rows.{file_at, index_or_none, lease_row, lease_terms, life_of_table, step_or, token_row, token_terms}
use Rattle.vault_inventory.specs.Written.{EndIsTold, IsLease, IsParent, IsSecret, IsToken, ParentIsNamed, WritesKey, WritesMost, WritesOr}
use Rattle.vault_inventory.proofs.Chains.{bind_ok, test_passed}
use Rattle.vault_inventory.proofs.Parts.{lease_parts, made_lease, made_token, token_parts}

-- ---- the value at a key

abbrev taken : {A : Type 0} → Option ℕ → Key → Option A → Result (Option A) InvFault
taken place key o = elim o [ Some x ↦ Ok (Some x) | None ↦ Err (BadValue place key) ]

found_writes : {A : Type 0} (f : Data → Option A) (place : Option ℕ) (key : Key) (ms : Members) (d : Data) (r o : Option A) → get_member (key_text key) ms ≡ Some d → f d ≡ r → taken place key r ≡ Ok o → WritesKey f key ms o
found_writes f place key ms d (Some x) o there reads e = let same : Some x ≡ o = cc in subst (λ u. WritesKey f key ms u) same (d, there, reads)
found_writes f place key ms d None o there reads e = absurd cc

member_writes : {A : Type 0} (f : Data → Option A) (place : Option ℕ) (key : Key) (ms : Members) (m : Option Data) (o : Option A) → get_member (key_text key) ms ≡ m → read_if f place key m ≡ Ok o → WritesKey f key ms o
member_writes f place key ms None o absent e = let same : None ≡ o = cc in subst (λ u. WritesKey f key ms u) same absent
member_writes f place key ms (Some d) o there e = found_writes f place key ms d (f d) o there refl e

pub writes_is : {A : Type 0} (f : Data → Option A) (place : Option ℕ) (key : Key) (ms : Members) (o : Option A) → value_at f place key ms ≡ Ok o → WritesKey f key ms o
writes_is f place key ms o e = member_writes f place key ms (get_member (key_text key) ms) o refl e

needed_is : {A : Type 0} (index : ℕ) (key : Key) (o : Option A) (x : A) → needed_value index key o ≡ Ok x → o ≡ Some x
needed_is index key (Some y) x e = let same : y ≡ x = cc in ap Some same
needed_is index key None x e = absurd cc

needed_writes : {A : Type 0} (f : Data → Option A) (place : Option ℕ) (index : ℕ) (key : Key) (ms : Members) (o : Option A) (x : A) → value_at f place key ms ≡ Ok o → needed_value index key o ≡ Ok x → WritesKey f key ms (Some x)
needed_writes f place index key ms o x read there = subst (λ u. WritesKey f key ms u) (needed_is index key o x there) (writes_is f place key ms o read)

passed : (b : Bool) (f : InvFault) (u : Unit {0}) → cond b (Ok tt) (Err f) ≡ Ok u → b ≡ true
passed true f u e = refl
passed false f u e = absurd cc

pub only_is : (keys : List Key) (place : Option ℕ) (ms : Members) (u : Unit {0}) → only keys place ms ≡ Ok u → all_keys (is_one_of keys) ms ≡ true
only_is keys place ms u e = passed (all_keys (is_one_of keys) ms) (UnknownKey place) u e

-- ---- issue, end, and whether it can be renewed

record Lived (ms : Members) (life : Life) (e : Entry) (t : Terms) : Type 0 where
  told : t.issued ≡ life.issued → e.end ≡ life.end → EndIsTold ms e t life.is_told
  renewable : WritesOr flag_value Renewable ms true life.renewable

told_is : (ms : Members) (e : Entry) (t : Terms) (issued ends : Option ℕ) (u w : Unit {0}) (index : ℕ) → WritesKey moment_value Issued ms issued → WritesKey end_value End ms ends →
    has_if (is_key_there End ms) index Issued (is_some issued) ≡ Ok u → has_if (is_some issued) index End (is_some ends) ≡ Ok w → t.issued ≡ unwrap_or issued 0 → e.end ≡ unwrap_or ends 0 → EndIsTold ms e t (is_some issued)
told_is ms e t (Some n) (Some m) u w index a b c d same_issue same_end = (subst (λ k. WritesKey moment_value Issued ms (Some k)) (sym same_issue) a, subst (λ k. WritesKey end_value End ms (Some k)) (sym same_end) b)
told_is ms e t (Some n) None u w index a b c d same_issue same_end = absurd cc
told_is ms e t None (Some m) u w index a b c d same_issue same_end = absurd (no_end ms index u b.0 b.1 c)
  where
    no_end : (ms : Members) (index : ℕ) (u : Unit {0}) (d : Data) → get_member (key_text End) ms ≡ Some d → has_if (is_key_there End ms) index Issued false ≡ Ok u → ⊥
    no_end ms index u d is e = let here : has_if true index Issued false ≡ Ok u = ap (λ (o : Option Data). has_if (is_some o) index Issued false) (sym is) ∙ e in cc
told_is ms e t None None u w index a b c d same_issue same_end = (a, b, same_issue, same_end)

lived : (index : ℕ) (ms : Members) (life : Life) (e : Entry) (t : Terms) → life_of_table full index ms ≡ Ok life → Lived ms life e t
unfolding life_of_table
lived index ms life e t read =
    bind_ok (value_at moment_value (Some index) Issued ms) _ life read (λ issued a e1.
    bind_ok (has_if (is_key_there End ms) index Issued (is_some issued)) _ life e1 (λ u b e2.
    bind_ok (value_at end_value (Some index) End ms) _ life e2 (λ ends c e3.
    bind_ok (has_if (is_some issued) index End (is_some ends)) _ life e3 (λ w d e4.
    bind_ok (value_at flag_value (Some index) Renewable ms) _ life e4 (λ renewable f e5.
    let made : Life = record { issued = unwrap_or issued 0; end = unwrap_or ends 0; renewable = unwrap_or renewable true; is_told = is_some issued } in
    let same : made ≡ life = cc in
    subst (λ (x : Life). Lived ms x e t) same (record {
      told = λ same_issue same_end. told_is ms e t issued ends u w index (writes_is moment_value (Some index) Issued ms issued a) (writes_is end_value (Some index) End ms ends c) b d same_issue same_end;
      renewable = (renewable, writes_is flag_value (Some index) Renewable ms renewable f, refl);
    }))))))

-- ---- the terms

record TokenTerms (system_max from : ℕ) (ms : Members) (t : Terms) : Type 0 where
  issued : t.issued ≡ from
  increment : Option ℕ
  written : WritesKey (span full 0 SPAN_MAX) Increment ms increment
  increment_is : t.increment ≡ step_or increment t.period
  period : WritesOr (span full 0 SPAN_MAX) Period ms 0 t.period
  max_ttl : WritesMost system_max ms t.max_ttl
  explicit_max : WritesOr (span full 0 SPAN_MAX) ExplicitMaxTtl ms 0 t.explicit_max
  reissued : WritesOr flag_value Reissued ms false t.reissued

token_termed : (system_max index issued : ℕ) (ms : Members) (t : Terms) → token_terms full system_max index issued ms ≡ Ok t → TokenTerms system_max issued ms t
unfolding token_terms
token_termed system_max index issued ms t e =
    bind_ok (value_at (span full 0 SPAN_MAX) (Some index) Increment ms) _ t e (λ increment a e1.
    bind_ok (value_at (span full 0 SPAN_MAX) (Some index) Period ms) _ t e1 (λ period b e2.
    bind_ok (value_at (span full 0 SPAN_MAX) (Some index) MaxTtl ms) _ t e2 (λ max_ttl d e4.
    bind_ok (value_at (span full 0 SPAN_MAX) (Some index) ExplicitMaxTtl ms) _ t e4 (λ explicit_max f e5.
    bind_ok (value_at flag_value (Some index) Reissued ms) _ t e5 (λ reissued g e6.
    let made : Terms = record { issued = issued; increment = step_or increment (unwrap_or period 0); period = unwrap_or period 0; max_ttl = max_ttl_of system_max max_ttl; explicit_max = unwrap_or explicit_max 0; reissued = unwrap_or reissued false } in
    let same : made ≡ t = cc in
    subst (TokenTerms system_max issued ms) same (record {
      issued = refl;
      increment = increment;
      written = writes_is (span full 0 SPAN_MAX) (Some index) Increment ms increment a;
      increment_is = refl;
      period = (period, writes_is (span full 0 SPAN_MAX) (Some index) Period ms period b, refl);
      max_ttl = (max_ttl, writes_is (span full 0 SPAN_MAX) (Some index) MaxTtl ms max_ttl d, refl);
      explicit_max = (explicit_max, writes_is (span full 0 SPAN_MAX) (Some index) ExplicitMaxTtl ms explicit_max f, refl);
      reissued = (reissued, writes_is flag_value (Some index) Reissued ms reissued g, refl);
    }))))))

record LeaseTerms (system_max from : ℕ) (ms : Members) (t : Terms) : Type 0 where
  issued : t.issued ≡ from
  increment : Option ℕ
  written : WritesKey (span full 0 SPAN_MAX) Increment ms increment
  increment_is : t.increment ≡ Some (unwrap_or increment STEP_ABSENT)
  period : t.period ≡ 0
  max_ttl : WritesMost system_max ms t.max_ttl
  explicit_max : t.explicit_max ≡ 0
  reissued : WritesOr flag_value Reissued ms false t.reissued

lease_termed : (system_max index issued : ℕ) (ms : Members) (t : Terms) → lease_terms full system_max index issued ms ≡ Ok t → LeaseTerms system_max issued ms t
unfolding lease_terms
lease_termed system_max index issued ms t e =
    bind_ok (value_at (span full 0 SPAN_MAX) (Some index) Increment ms) _ t e (λ increment a e1.
    bind_ok (value_at (span full 0 SPAN_MAX) (Some index) MaxTtl ms) _ t e1 (λ max_ttl d e3.
    bind_ok (value_at flag_value (Some index) Reissued ms) _ t e3 (λ reissued g e4.
    let made : Terms = record { issued = issued; increment = Some (unwrap_or increment STEP_ABSENT); period = 0; max_ttl = max_ttl_of system_max max_ttl; explicit_max = 0; reissued = unwrap_or reissued false } in
    let same : made ≡ t = cc in
    subst (LeaseTerms system_max issued ms) same (record {
      issued = refl;
      increment = increment;
      written = writes_is (span full 0 SPAN_MAX) (Some index) Increment ms increment a;
      increment_is = refl;
      period = refl;
      max_ttl = (max_ttl, writes_is (span full 0 SPAN_MAX) (Some index) MaxTtl ms max_ttl d, refl);
      explicit_max = refl;
      reissued = (reissued, writes_is flag_value (Some index) Reissued ms reissued g, refl);
    }))))

-- ---- the credential, or its file

secret_is : (index : ℕ) (key file_key : Key) (ms : Members) (name : List ℕ) (secret file : Option (List ℕ)) → value_at credential (Some index) key ms ≡ Ok secret →
    file_at index file_key (is_some secret) ms ≡ Ok file → IsSecret key file_key ms name (unwrap_or secret name) file
secret_is index key file_key ms name secret file a b =
    bind_ok (value_at path (Some index) file_key ms) _ file b (λ o c e1.
    bind_ok (alone_if (is_some secret) index file_key (is_some o)) _ file e1 (λ u d e2.
    let same : o ≡ file = cc in
    record {
      secret = secret;
      written = writes_is credential (Some index) key ms secret a;
      sent_is = refl;
      file_written = subst (λ (x : Option (List ℕ)). WritesKey path file_key ms x) same (writes_is path (Some index) file_key ms o c);
      alone = subst (λ (x : Option (List ℕ)). is_some secret && is_some x ≡ false) same (test_passed (is_some secret && is_some o) (BadValue (Some index) file_key) u d);
    }))

-- ---- the parent

abbrev HasName : List Entry → List ℕ → ℕ → Type 0
HasName es name p = (entry_at es p).name ≡ name

named_here : (x : Entry) (es : List Entry) (name : List ℕ) (b : Bool) (o : Option ℕ) (p : ℕ) → (b ≡ true → x.name ≡ name) → ((k : ℕ) → o ≡ Some k → HasName es name k) →
    cond b (Some 0) (option_map (λ i. suc i) o) ≡ Some p → HasName (x ∷ es) name p
unfolding entry_at
named_here x es name true o p here later e = let same : 0 ≡ p = cc in subst (λ q. HasName (x ∷ es) name q) same (here refl)
named_here x es name false None p here later e = absurd cc
named_here x es name false (Some k) p here later e = let same : suc k ≡ p = cc in subst (λ q. HasName (x ∷ es) name q) same (later k refl)

-- the entry at the index of a name has that name
named_at : (es : List Entry) (name : List ℕ) (p : ℕ) → index_named es name ≡ Some p → HasName es name p
unfolding index_named
named_at [] name p e = absurd cc
named_at (x ∷ es) name p e = named_here x es name (bytes_eq x.name name) (index_named es name) p (λ same. (bytes_decides x.name name).0 same) (λ k h. named_at es name k h) e

found_index : (o : Option ℕ) (n p : ℕ) → unwrap_or o n ≡ p → p < n → o ≡ Some p
found_index (Some i) n p e h = ap Some e
found_index None n p e h = absurd (omega (arith, e, h))

named_is : (g : Forest) (name : List ℕ) → index_or_none g name < length g.entries → ParentIsNamed g.entries (length g.entries) name (Some (index_or_none g name))
unfolding index_or_none
named_is g name h = (h, named_at g.entries name _ (found_index (index_named g.entries name) (length g.entries) _ refl h))

parent_is : (g : Forest) (name : Option (List ℕ)) → lacks_parent g.entries (option_map (index_or_none g) name) ≡ false → IsParent g.entries (length g.entries) name (option_map (index_or_none g) name)
parent_is g None there = refl
parent_is g (Some name) there = named_is g name (parent_below g.entries (Some (index_or_none g name)) there (index_or_none g name) refl)

-- ---- a row

token_keys_only : (system_max : ℕ) (g : Forest) (ms : Members) (row : TableRow) → token_row full system_max g ms ≡ Ok row → all_keys (is_one_of (token_keys full)) ms ≡ true
unfolding token_row
token_keys_only system_max g ms row e = bind_ok (only (token_keys full) (Some (length g.entries)) ms) _ row e (λ u known e1. only_is (token_keys full) (Some (length g.entries)) ms u known)

lease_keys_only : (system_max : ℕ) (g : Forest) (ms : Members) (row : TableRow) → lease_row full system_max g ms ≡ Ok row → all_keys (is_one_of (lease_keys full)) ms ≡ true
unfolding lease_row
lease_keys_only system_max g ms row e = bind_ok (only (lease_keys full) (Some (length g.entries)) ms) _ row e (λ u known e1. only_is (lease_keys full) (Some (length g.entries)) ms u known)

abbrev IsTokenRow : ℕ → Forest → Members → TableRow → Type 0
IsTokenRow system_max g ms row = IsToken system_max g.entries (length g.entries) ms row.entry row.credential row.terms row.note

abbrev IsLeaseRow : ℕ → Forest → Members → TableRow → Type 0
IsLeaseRow system_max g ms row = IsLease system_max g.entries (length g.entries) ms row.entry row.credential row.terms row.note

pub token_row_is : (system_max : ℕ) (g : Forest) (ms : Members) (row : TableRow) → token_row full system_max g ms ≡ Ok row → entry_refusal g row.entry ≡ None → IsTokenRow system_max g ms row
token_row_is system_max g ms row read fits =
    let parts = token_parts full system_max g ms row read in
    let place = Some (length g.entries) in
    let life = lived (length g.entries) ms parts.life (made_token g parts.name parts.parent parts.life parts.terms parts.need_if parts.secret parts.file).entry parts.terms parts.life_read in
    let terms = token_termed system_max (length g.entries) parts.life.issued ms parts.terms parts.terms_read in
    let there : lacks_parent g.entries row.entry.parent ≡ false = (taken_from_refusal g row.entry fits).parent_there in
    subst (λ (r : TableRow). IsTokenRow system_max g ms r) parts.made (record {
      keys = token_keys_only system_max g ms row read;
      kind = refl;
      life = record {
        name = needed_writes text place (length g.entries) Name ms parts.name_if parts.name parts.name_read parts.name_there;
        told = life.told terms.issued refl;
        renewable = life.renewable;
        until = parts.need_if;
        need = writes_is (need full) place Need ms parts.need_if parts.need_read;
        need_is = refl;
        always_is = refl;
        step = refl;
        ceiling = refl;
      };
      name = parts.parent;
      parent = writes_is text place Parent ms parts.parent parts.parent_read;
      parent_is = parent_is g parts.parent (subst (λ (r : TableRow). lacks_parent g.entries r.entry.parent ≡ false) (sym parts.made) there);
      increment = terms.increment;
      increment_written = terms.written;
      increment_is = terms.increment_is;
      period = terms.period;
      max_ttl = terms.max_ttl;
      explicit_max = terms.explicit_max;
      reissued = terms.reissued;
      secret = secret_is (length g.entries) Secret SecretFile ms parts.name parts.secret parts.file parts.secret_read parts.file_read;
    })

pub lease_row_is : (system_max : ℕ) (g : Forest) (ms : Members) (row : TableRow) → lease_row full system_max g ms ≡ Ok row → entry_refusal g row.entry ≡ None → IsLeaseRow system_max g ms row
lease_row_is system_max g ms row read fits =
    let parts = lease_parts full system_max g ms row read in
    let place = Some (length g.entries) in
    let life = lived (length g.entries) ms parts.life (made_lease g parts.name parts.token parts.life parts.terms parts.need_if parts.lease_id parts.file).entry parts.terms parts.life_read in
    let terms = lease_termed system_max (length g.entries) parts.life.issued ms parts.terms parts.terms_read in
    let there : lacks_parent g.entries row.entry.parent ≡ false = (taken_from_refusal g row.entry fits).parent_there in
    subst (λ (r : TableRow). IsLeaseRow system_max g ms r) parts.made (record {
      keys = lease_keys_only system_max g ms row read;
      kind = refl;
      life = record {
        name = needed_writes text place (length g.entries) Name ms parts.name_if parts.name parts.name_read parts.name_there;
        told = life.told terms.issued refl;
        renewable = life.renewable;
        until = parts.need_if;
        need = writes_is (need full) place Need ms parts.need_if parts.need_read;
        need_is = refl;
        always_is = refl;
        step = refl;
        ceiling = refl;
      };
      token = parts.token;
      token_written = needed_writes text place (length g.entries) Token ms parts.token_if parts.token parts.token_read parts.token_there;
      token_is = named_is g parts.token (parent_below g.entries (Some (index_or_none g parts.token)) (subst (λ (r : TableRow). lacks_parent g.entries r.entry.parent ≡ false) (sym parts.made) there) (index_or_none g parts.token) refl);
      increment = terms.increment;
      increment_written = terms.written;
      increment_is = terms.increment_is;
      period = terms.period;
      max_ttl = terms.max_ttl;
      explicit_max = terms.explicit_max;
      reissued = terms.reissued;
      lease_id = secret_is (length g.entries) LeaseId LeaseIdFile ms parts.name parts.lease_id parts.file parts.lease_id_read parts.file_read;
    })
