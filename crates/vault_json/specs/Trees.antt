-- The trees of the bodies that this crate writes, for the functions that build them and for the laws.
use Rattle.std.specs.Prelude.{ℕ, List, Bool, codes}
use Rattle.serde_json.specs.Data.{Data, boolean, number, unsigned, string, array, item, no_items, object, Members, member, no_members}

abbrev pub renew_tree : ℕ → Data
renew_tree step = object (member (codes "increment") (number (unsigned step)) no_members)

abbrev pub lease_tree : List ℕ → ℕ → Data
lease_tree id step = object (member (codes "increment") (number (unsigned step)) (member (codes "lease_id") (string id) no_members))

abbrev pub lookup_tree : List ℕ → Data
lookup_tree id = object (member (codes "lease_id") (string id) no_members)

abbrev pub renewed_self_tree : ℕ → Bool → Data
renewed_self_tree seconds renewable =
    object (member (codes "auth") (object (member (codes "lease_duration") (number (unsigned seconds)) (member (codes "renewable") (boolean renewable) no_members))) no_members)

abbrev pub renewed_lease_tree : List ℕ → ℕ → Bool → Data
renewed_lease_tree id seconds renewable =
    object (member (codes "lease_duration") (number (unsigned seconds)) (member (codes "lease_id") (string id) (member (codes "renewable") (boolean renewable) no_members)))

abbrev about_token : ℕ → ℕ → ℕ → Bool → Members → Members
about_token ttl created explicit_max orphan more =
    member (codes "creation_time") (number (unsigned created)) (member (codes "explicit_max_ttl") (number (unsigned explicit_max)) (member (codes "orphan") (boolean orphan) more))

abbrev renewable_and_ttl : Bool → ℕ → Members
renewable_and_ttl renewable ttl = member (codes "renewable") (boolean renewable) (member (codes "ttl") (number (unsigned ttl)) no_members)

-- of a token that is not periodic, and of one that is
abbrev pub looked_plain_tree : ℕ → ℕ → ℕ → Bool → Bool → Data
looked_plain_tree ttl created explicit_max orphan renewable =
    object (member (codes "data") (object (about_token ttl created explicit_max orphan (renewable_and_ttl renewable ttl))) no_members)

abbrev pub looked_periodic_tree : ℕ → ℕ → ℕ → Bool → Bool → ℕ → Data
looked_periodic_tree ttl created explicit_max orphan renewable period =
    object (member (codes "data") (object (about_token ttl created explicit_max orphan (member (codes "period") (number (unsigned period)) (renewable_and_ttl renewable ttl)))) no_members)

abbrev pub errors_tree : List ℕ → Data
errors_tree text = object (member (codes "errors") (array (item (string text) no_items)) no_members)

abbrev pub looked_lease_tree : List ℕ → List ℕ → Bool → ℕ → Data
looked_lease_tree id issue_time renewable ttl =
    object (member (codes "data") (object (member (codes "id") (string id) (member (codes "issue_time") (string issue_time) (renewable_and_ttl renewable ttl)))) no_members)
