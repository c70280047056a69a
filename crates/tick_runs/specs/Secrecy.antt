-- Secrecy: a live run is opened by the same lines, and answers the same event lines by the same lines, whatever the secrets are. The
-- contract of a public function without a body.
use Rattle.std.specs.Prelude.{◌≡◌, ℕ, ◌<◌, ◌++◌, All, Bool, List, Option, Some, length}
use Rattle.plan_forest.specs.Forest.{Forest}
use Rattle.vault_inventory.specs.{Inventories.Inventory, Inventories.IsInventory, declared.terms.Terms.Terms}
use Rattle.vault_exchange.specs.{Exchanges.Behind, Lookups.EntryIsLookedUp}
use Rattle.broker_alike.specs.Alike.{AreBrokersAlike, AreDated, AreTablesAlike, KeepsSupplied}
use Rattle.tick_runs.specs.{Closed.World, Listening.EventLinesAreHeard, LiveRun.IsLiveOpening, LiveRun.IsLiveRun, Looking.AreLookedUp, Looking.Looked}

-- two sides with one keeper, over brokers that differ in credentials alone
pub record AreWorldsAlike (g : Forest) (cs ds : List (List ℕ)) (old other : World) : Type 0 where
  pub keeper : other.keeper ≡ old.keeper
  pub brokers : AreBrokersAlike g cs ds old.behind other.behind

-- of two inventories with one forest, which differ in their credentials: a keeper of that forest, as lookups and renewals have left
-- it, hears the same lines with the one and with the other, over two such brokers, at whatever ports. Then the texts are the same, and
-- so are the keepers, and the brokers differ in credentials alone
abbrev pub AlikeAnswersLaw : Type 0
AlikeAnswersLaw =
    (g : Forest) (cs ds : List (List ℕ)) (ts : List Terms) → IsInventory (record { forest = g; credentials = cs; terms = ts }) → IsInventory (record { forest = g; credentials = ds; terms = ts }) →
    (port other_port : ℕ) (old other new last : World) (lines : List (List ℕ)) (text more : List ℕ) → KeepsSupplied g old.keeper.forest → AreWorldsAlike g cs ds old other →
    EventLinesAreHeard port cs old lines new text → EventLinesAreHeard other_port ds other lines last more → (more ≡ text) × AreWorldsAlike g cs ds new last

-- ---- the lookups before

-- two inventories that differ in their credentials alone, which are looked up over brokers that do
pub record AreLookedAlike (g : Forest) (cs ds : List (List ℕ)) (old other : Looked) : Type 0 where
  pub credentials : old.inventory.credentials ≡ cs
  pub inventory : other.inventory ≡ record old.inventory { credentials = ds }
  pub kept : KeepsSupplied g old.inventory.forest
  pub brokers : AreBrokersAlike g cs ds old.behind other.behind
  pub dated : AreDated brokers.behind.table

-- after the same lookups they are alike again, and the next is applied to both, or to neither
abbrev pub AlikeLookupsLaw : Type 0
AlikeLookupsLaw =
    (g : Forest) (cs ds : List (List ℕ)) (ts : List Terms) → IsInventory (record { forest = g; credentials = cs; terms = ts }) → IsInventory (record { forest = g; credentials = ds; terms = ts }) →
    (port other_port t : ℕ) (old other new last : Looked) (is : List ℕ) → All (λ i. i < length g.entries) is → AreLookedAlike g cs ds old other → AreLookedUp port t old is new → AreLookedUp other_port t other is last →
    AreLookedAlike g cs ds new last
    × ((i : ℕ) (x y : Bool) (after behind : Inventory) (left gone : Option Behind) → i < length g.entries →
    EntryIsLookedUp port new.behind t new.inventory i x after left → EntryIsLookedUp other_port last.behind t last.inventory i y behind gone → y ≡ x)

-- so two runs of such inventories, over such brokers, that are opened are opened by one text, with one keeper, and leave brokers that
-- differ in credentials alone
abbrev pub AlikeOpeningsLaw : Type 0
AlikeOpeningsLaw =
    (g : Forest) (cs ds : List (List ℕ)) (ts : List Terms) → IsInventory (record { forest = g; credentials = cs; terms = ts }) → IsInventory (record { forest = g; credentials = ds; terms = ts }) →
    (port other_port start : ℕ) (always : List Bool) (b c : Behind) (opening last : World) (text more : List ℕ) → AreTablesAlike g cs ds b.table c.table → AreDated b.table →
    IsLiveOpening port start always (record { inventory = record { forest = g; credentials = cs; terms = ts }; behind = Some b }) opening text →
    IsLiveOpening other_port start always (record { inventory = record { forest = g; credentials = ds; terms = ts }; behind = Some c }) last more →
    (more ≡ text) × AreWorldsAlike g cs ds opening last

-- and the same event lines are answered by the same lines: one text for the whole run
abbrev pub AlikeWholeLaw : Type 0
AlikeWholeLaw =
    (g : Forest) (cs ds : List (List ℕ)) (ts : List Terms) → IsInventory (record { forest = g; credentials = cs; terms = ts }) → IsInventory (record { forest = g; credentials = ds; terms = ts }) →
    (port other_port start : ℕ) (always : List Bool) (b c : Behind) (lines : List (List ℕ)) (final last : World) (text more : List ℕ) → AreTablesAlike g cs ds b.table c.table → AreDated b.table →
    IsLiveRun port start always (record { inventory = record { forest = g; credentials = cs; terms = ts }; behind = Some b }) lines final text →
    IsLiveRun other_port start always (record { inventory = record { forest = g; credentials = ds; terms = ts }; behind = Some c }) lines last more →
    (more ≡ text) × AreWorldsAlike g cs ds final last

-- this text is how that one begins
abbrev pub IsBeginningOf : List ℕ → List ℕ → Type 0
IsBeginningOf text longer = (rest : List ℕ) × (longer ≡ text ++ rest)

-- where one of them has heard the lines of the other and later ones, as where the other was cut short, its text begins with the
-- other's
abbrev pub AlikeSoFarLaw : Type 0
AlikeSoFarLaw =
    (g : Forest) (cs ds : List (List ℕ)) (ts : List Terms) → IsInventory (record { forest = g; credentials = cs; terms = ts }) → IsInventory (record { forest = g; credentials = ds; terms = ts }) →
    (port other_port start : ℕ) (always : List Bool) (b c : Behind) (lines later : List (List ℕ)) (final last : World) (text more : List ℕ) → AreTablesAlike g cs ds b.table c.table → AreDated b.table →
    (IsLiveRun port start always (record { inventory = record { forest = g; credentials = cs; terms = ts }; behind = Some b }) lines final text →
    IsLiveRun other_port start always (record { inventory = record { forest = g; credentials = ds; terms = ts }; behind = Some c }) (lines ++ later) last more → IsBeginningOf text more)
    × (IsLiveRun port start always (record { inventory = record { forest = g; credentials = cs; terms = ts }; behind = Some b }) (lines ++ later) final text →
    IsLiveRun other_port start always (record { inventory = record { forest = g; credentials = ds; terms = ts }; behind = Some c }) lines last more → IsBeginningOf more text)

-- so two runs are told alike, as far as both go
abbrev pub AlikeRunsLaw : Type 0
AlikeRunsLaw = AlikeWholeLaw × AlikeSoFarLaw
