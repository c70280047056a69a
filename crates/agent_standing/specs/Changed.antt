-- Changed: what an agent is that serves another inventory from then on. Its Watch goes on, and what is said of an entry that was served before
-- stands.
-- Source: this project's own.
use Rattle.std.specs.Prelude.{◌≡◌, ℕ, Bool, true, false, not, ◌&&◌, ◌==◌, if◌then◌else◌, List, [], Option, Some, None, bytes_eq, length, map}
use Rattle.std.specs.List.{range_with_len}
use Rattle.vault_inventory.specs.declared.terms.Terms.{Terms}
use Rattle.vault_inventory.specs.Inventories.{Inventory, credential_at, terms_at}
use Rattle.plan_forest.specs.{declared.entry.Entry.Entry, declared.entry.Kind.Kind, Forest.entry_at, Forest.index_named}
use Rattle.plan_forest.specs.declared.entry.Kind.TheVariants.{Token, Lease}
use Rattle.watch_machine.specs.{declared.change.Was.Was, History.IsChanged}
use Rattle.watch_machine.specs.declared.change.Was.TheVariants.{New, Same, Retold}
use Rattle.agent_standing.specs.{declared.standing.EntryStanding.EntryStanding, Agent.Agent, Agent.standing_at, Standings.fresh_standing}

-- ---- where an entry was served before, and what is said of it

abbrev pub is_same_kind : Kind → Kind → Bool
is_same_kind Token Token = true
is_same_kind Token Lease = false
is_same_kind Lease Token = false
is_same_kind Lease Lease = true

-- the entry at an index of one inventory is that at an index of another: of its kind, and with its credential
unfoldable pub is_same_entry : Inventory → Inventory → ℕ → ℕ → Bool
is_same_entry s t i j =
    is_same_kind (entry_at s.forest.entries i).kind (entry_at t.forest.entries j).kind && bytes_eq (credential_at s.credentials i) (credential_at t.credentials j)

abbrev pub if_same : Inventory → Inventory → ℕ → Option ℕ → Option ℕ
if_same s t j None = None
if_same s t j (Some i) = if is_same_entry s t i j then Some i else None

-- where an entry of the second inventory stood in the first: that of its name, if it is the same
unfoldable pub former : Inventory → Inventory → ℕ → Option ℕ
former s t j = if_same s t j (index_named s.forest.entries (entry_at t.forest.entries j).name)

abbrev pub standing_of : Agent → Option ℕ → EntryStanding
standing_of a None = fresh_standing
standing_of a (Some i) = standing_at a i

-- its standing there, a fresh one where it was not
unfoldable pub carried_standing : Agent → Inventory → ℕ → EntryStanding
carried_standing a t j = standing_of a (former a.inventory t j)

-- ---- what the inventory says of an entry, but for its need

abbrev pub is_same_answer : Bool → Bool → Bool
is_same_answer one other = if one then other else not other

abbrev pub is_same_number : Option ℕ → Option ℕ → Bool
is_same_number None None = true
is_same_number None (Some n) = false
is_same_number (Some m) None = false
is_same_number (Some m) (Some n) = m == n

-- its terms
unfoldable pub is_same_terms : Terms → Terms → Bool
is_same_terms t u =
    t.issued == u.issued && (is_same_number t.increment u.increment && (t.period == u.period && (t.max_ttl == u.max_ttl && (t.explicit_max == u.explicit_max && is_same_answer t.reissued u.reissued))))

-- the name of its parent, which is the same where that has another index; no name where it has none
abbrev pub parent_name : List Entry → Option ℕ → List ℕ
parent_name es None = []
parent_name es (Some p) = (entry_at es p).name

unfoldable pub has_same_parent : List Entry → List Entry → Entry → Entry → Bool
has_same_parent es fs e f = bytes_eq (parent_name es e.parent) (parent_name fs f.parent)

-- the second inventory says of its entry at j what the first says of its entry at i: its end, whether it can be renewed, its parent, and its
-- terms, from which its step and its ceiling follow
unfoldable pub is_said_again : Inventory → Inventory → ℕ → ℕ → Bool
is_said_again s t i j =
    let e = entry_at s.forest.entries i in
    let f = entry_at t.forest.entries j in
    e.end == f.end && (is_same_answer e.renewable f.renewable && (has_same_parent s.forest.entries t.forest.entries e f && is_same_terms (terms_at s.terms i) (terms_at t.terms j)))

-- ---- where entries were

abbrev pub was_by : Inventory → Inventory → ℕ → Option ℕ → Was
was_by s t j None = New
was_by s t j (Some i) = if is_said_again s t i j then Same i else Retold i

-- where an entry of the second inventory stood in the first
unfoldable pub was_of : Inventory → Inventory → ℕ → Was
was_of s t j = was_by s t j (former s t j)

unfoldable pub all_was : Inventory → Inventory → List Was
all_was s t = map (was_of s t) (range_with_len 0 (length t.forest.entries))

-- ---- the agent

-- the agent serves another inventory from then on: its Watch goes on over the forest of that, what was said of the entries that were served
-- before stands, and so does the count of beginnings
pub record AgentIsChanged (old : Agent) (s : Inventory) (new : Agent) : Type 0 where
  pub inventory : new.inventory ≡ s
  pub standings : new.standings ≡ map (carried_standing old s) (range_with_len 0 (length s.forest.entries))
  pub machine : IsChanged old.machine (record { forest = s.forest; was = all_was old.inventory s; state = new.machine })
  pub beginnings : new.beginnings ≡ old.beginnings
