-- Parts: what was read of a table whose row was read.
use Rattle.std.proofs.Common.{◌≡◌, ℕ, List, length, Some, Option, Ok, option_map, unwrap_or}
use Rattle.std.specs.Option.{is_some}
use Rattle.toml.specs.Data.{Members}
use Rattle.plan_forest.specs.declared.entry.Kind.TheVariants as kind
use Rattle.plan_forest.specs.Forest.{Forest}
use Rattle.vault_inventory.specs.{declared.row.Life.Life, declared.row.TableRow.TableRow, declared.terms.Terms.Terms, Languages.Language, Keys.token_keys, Keys.lease_keys, Terms.step_of, Terms.ceiling_of, Needs.until_of}
use Rattle.vault_inventory.specs.declared.key.Key.TheVariants.{Token, Name, Parent, Need, Secret, SecretFile, LeaseId, LeaseIdFile}
use Rattle.vault_inventory.specs.Values.{only, need, text, credential, value_at, needed_value}
use Rattle.vault_inventory.specs.Rows.{file_at, index_or_none, note_of, life_of_table, lease_row, lease_terms, token_row, token_terms}
use Rattle.vault_inventory.specs.declared.need.Need as needs
use Rattle.vault_inventory.proofs.Chains.{bind_ok}

abbrev pub made_token : Forest → List ℕ → Option (List ℕ) → Life → Terms → Option needs.Need → Option (List ℕ) → Option (List ℕ) → TableRow
made_token g name parent life terms need_if secret file = record {
  entry = record { name = name; kind = kind.Token; parent = option_map (index_or_none g) parent; end = life.end; renewable = life.renewable; step = step_of terms; ceiling = ceiling_of terms; need = until_of need_if };
  credential = unwrap_or secret name;
  terms = terms;
  note = note_of life need_if file;
}

abbrev pub made_lease : Forest → List ℕ → List ℕ → Life → Terms → Option needs.Need → Option (List ℕ) → Option (List ℕ) → TableRow
made_lease g name token life terms need_if lease_id file = record {
  entry = record { name = name; kind = kind.Lease; parent = Some (index_or_none g token); end = life.end; renewable = life.renewable; step = step_of terms; ceiling = ceiling_of terms; need = until_of need_if };
  credential = unwrap_or lease_id name;
  terms = terms;
  note = note_of life need_if file;
}

pub record TokenParts (l : Language) (system_max : ℕ) (g : Forest) (ms : Members) (row : TableRow) : Type 0 where
  pub known : Unit {0}
  pub known_read : only (token_keys l) (Some (length g.entries)) ms ≡ Ok known
  pub name_if : Option (List ℕ)
  pub name_read : value_at text (Some (length g.entries)) Name ms ≡ Ok name_if
  pub name : List ℕ
  pub name_there : needed_value (length g.entries) Name name_if ≡ Ok name
  pub parent : Option (List ℕ)
  pub parent_read : value_at text (Some (length g.entries)) Parent ms ≡ Ok parent
  pub life : Life
  pub life_read : life_of_table l (length g.entries) ms ≡ Ok life
  pub terms : Terms
  pub terms_read : token_terms l system_max (length g.entries) life.issued ms ≡ Ok terms
  pub need_if : Option needs.Need
  pub need_read : value_at (need l) (Some (length g.entries)) Need ms ≡ Ok need_if
  pub secret : Option (List ℕ)
  pub secret_read : value_at credential (Some (length g.entries)) Secret ms ≡ Ok secret
  pub file : Option (List ℕ)
  pub file_read : file_at (length g.entries) SecretFile (is_some secret) ms ≡ Ok file
  pub made : made_token g name parent life terms need_if secret file ≡ row

pub record LeaseParts (l : Language) (system_max : ℕ) (g : Forest) (ms : Members) (row : TableRow) : Type 0 where
  pub known : Unit {0}
  pub known_read : only (lease_keys l) (Some (length g.entries)) ms ≡ Ok known
  pub name_if : Option (List ℕ)
  pub name_read : value_at text (Some (length g.entries)) Name ms ≡ Ok name_if
  pub name : List ℕ
  pub name_there : needed_value (length g.entries) Name name_if ≡ Ok name
  pub token_if : Option (List ℕ)
  pub token_read : value_at text (Some (length g.entries)) Token ms ≡ Ok token_if
  pub token : List ℕ
  pub token_there : needed_value (length g.entries) Token token_if ≡ Ok token
  pub life : Life
  pub life_read : life_of_table l (length g.entries) ms ≡ Ok life
  pub terms : Terms
  pub terms_read : lease_terms l system_max (length g.entries) life.issued ms ≡ Ok terms
  pub need_if : Option needs.Need
  pub need_read : value_at (need l) (Some (length g.entries)) Need ms ≡ Ok need_if
  pub lease_id : Option (List ℕ)
  pub lease_id_read : value_at credential (Some (length g.entries)) LeaseId ms ≡ Ok lease_id
  pub file : Option (List ℕ)
  pub file_read : file_at (length g.entries) LeaseIdFile (is_some lease_id) ms ≡ Ok file
  pub made : made_lease g name token life terms need_if lease_id file ≡ row

pub token_parts : (l : Language) (system_max : ℕ) (g : Forest) (ms : Members) (row : TableRow) → token_row l system_max g ms ≡ Ok row → TokenParts l system_max g ms row
unfolding token_row
token_parts l system_max g ms row e =
    bind_ok (only (token_keys l) (Some (length g.entries)) ms) _ row e (λ known a0 e0.
    bind_ok (value_at text (Some (length g.entries)) Name ms) _ row e0 (λ name_if a1 e1.
    bind_ok (needed_value (length g.entries) Name name_if) _ row e1 (λ name a2 e2.
    bind_ok (value_at text (Some (length g.entries)) Parent ms) _ row e2 (λ parent a3 e3.
    bind_ok (life_of_table l (length g.entries) ms) _ row e3 (λ life a4 e4.
    bind_ok (token_terms l system_max (length g.entries) life.issued ms) _ row e4 (λ terms a5 e5.
    bind_ok (value_at (need l) (Some (length g.entries)) Need ms) _ row e5 (λ need_if a6 e6.
    bind_ok (value_at credential (Some (length g.entries)) Secret ms) _ row e6 (λ secret a7 e7.
    bind_ok (file_at (length g.entries) SecretFile (is_some secret) ms) _ row e7 (λ file a8 e8.
    record {
      known = known;
      known_read = a0;
      name_if = name_if;
      name_read = a1;
      name = name;
      name_there = a2;
      parent = parent;
      parent_read = a3;
      life = life;
      life_read = a4;
      terms = terms;
      terms_read = a5;
      need_if = need_if;
      need_read = a6;
      secret = secret;
      secret_read = a7;
      file = file;
      file_read = a8;
      made = cc;
    })))))))))

pub lease_parts : (l : Language) (system_max : ℕ) (g : Forest) (ms : Members) (row : TableRow) → lease_row l system_max g ms ≡ Ok row → LeaseParts l system_max g ms row
unfolding lease_row
lease_parts l system_max g ms row e =
    bind_ok (only (lease_keys l) (Some (length g.entries)) ms) _ row e (λ known a0 e0.
    bind_ok (value_at text (Some (length g.entries)) Name ms) _ row e0 (λ name_if a1 e1.
    bind_ok (needed_value (length g.entries) Name name_if) _ row e1 (λ name a2 e2.
    bind_ok (value_at text (Some (length g.entries)) Token ms) _ row e2 (λ token_if a3 e3.
    bind_ok (needed_value (length g.entries) Token token_if) _ row e3 (λ token a4 e4.
    bind_ok (life_of_table l (length g.entries) ms) _ row e4 (λ life a5 e5.
    bind_ok (lease_terms l system_max (length g.entries) life.issued ms) _ row e5 (λ terms a6 e6.
    bind_ok (value_at (need l) (Some (length g.entries)) Need ms) _ row e6 (λ need_if a7 e7.
    bind_ok (value_at credential (Some (length g.entries)) LeaseId ms) _ row e7 (λ lease_id a8 e8.
    bind_ok (file_at (length g.entries) LeaseIdFile (is_some lease_id) ms) _ row e8 (λ file a9 e9.
    record {
      known = known;
      known_read = a0;
      name_if = name_if;
      name_read = a1;
      name = name;
      name_there = a2;
      token_if = token_if;
      token_read = a3;
      token = token;
      token_there = a4;
      life = life;
      life_read = a5;
      terms = terms;
      terms_read = a6;
      need_if = need_if;
      need_read = a7;
      lease_id = lease_id;
      lease_id_read = a8;
      file = file;
      file_read = a9;
      made = cc;
    }))))))))))
