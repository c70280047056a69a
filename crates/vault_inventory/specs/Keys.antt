-- The keys of an inventory, and the tables that have no other.
-- Source: TOML 1.1, "Keys" and "Table"; which keys there are is this project's own.
use Rattle.std.specs.Prelude.{ℕ, Bool, true, ◌&&◌, List, [], ◌∷◌, codes, bytes_eq}
use Rattle.std.specs.List.{list_any}
use Rattle.toml.specs.Data.{Members, no_members, member}
use Rattle.vault_inventory.specs.declared.key.Key.{Key}
use Rattle.vault_inventory.specs.declared.key.Key.TheVariants.{SystemMax, Margin, Token, Lease, Name, Parent, Issued, End, Renewable, Increment, Period, MaxTtl, ExplicitMaxTtl, Reissued, Need, Secret, SecretFile, LeaseId, LeaseIdFile}
use Rattle.vault_inventory.specs.Languages.{Language, strict, full}

-- the bytes of a key
abbrev pub key_text : Key → List ℕ
key_text SystemMax = codes "system_max"
key_text Margin = codes "margin"
key_text Token = codes "token"
key_text Lease = codes "lease"
key_text Name = codes "name"
key_text Parent = codes "parent"
key_text Issued = codes "issued"
key_text End = codes "end"
key_text Renewable = codes "renewable"
key_text Increment = codes "increment"
key_text Period = codes "period"
key_text MaxTtl = codes "max_ttl"
key_text ExplicitMaxTtl = codes "explicit_max_ttl"
key_text Reissued = codes "reissued"
key_text Need = codes "need"
key_text Secret = codes "secret"
key_text SecretFile = codes "secret_file"
key_text LeaseId = codes "lease_id"
key_text LeaseIdFile = codes "lease_id_file"

-- the text of one of these keys
abbrev pub is_one_of : List Key → List ℕ → Bool
is_one_of keys text = list_any (λ key. bytes_eq (key_text key) text) keys

-- the keys of a document outside its tables of entries
abbrev pub top_keys : List Key
top_keys = SystemMax ∷ Margin ∷ Token ∷ Lease ∷ []

-- a key that names a file, and the one that says that another program writes a new credential: the strict language has neither
abbrev pub file_keys : Language → Key → List Key
file_keys strict key = []
file_keys full key = key ∷ Reissued ∷ []

-- the keys of a table `[[token]]`
abbrev pub token_keys : Language → List Key
token_keys l = Name ∷ Parent ∷ Issued ∷ End ∷ Renewable ∷ Increment ∷ Period ∷ MaxTtl ∷ ExplicitMaxTtl ∷ Need ∷ Secret ∷ file_keys l SecretFile

-- the keys of a table `[[lease]]`
abbrev pub lease_keys : Language → List Key
lease_keys l = Name ∷ Token ∷ Issued ∷ End ∷ Renewable ∷ Increment ∷ MaxTtl ∷ Need ∷ LeaseId ∷ file_keys l LeaseIdFile

-- each key passes the test
abbrev pub all_keys : (List ℕ → Bool) → Members → Bool
all_keys test no_members = true
all_keys test (member k d ms) = test k && all_keys test ms
