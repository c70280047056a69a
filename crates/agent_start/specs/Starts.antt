-- Starts: what is served from the start on, and with what.
-- Source: this project's own; docs/commands/serve.md, "Changes".
use Rattle.std.specs.Prelude.{◌≡◌, ℕ, Bool, true, false, List, [], ◌∷◌, None, IfSome, Result, Ok, Err, is_some}
use Rattle.std.specs.List.{All}
use Rattle.agent_ledger.specs.declared.ledger.Ledger.{Ledger}
use Rattle.agent_words.specs.{Reading.IsWide, declared.demands.Demands.Demands, declared.said.SaidLine.SaidLine}
use Rattle.agent_words.specs.declared.said.About.TheVariants.{Folder, SecretFile}
use Rattle.vault_inventory.specs.Inventories.{Inventory}
use Rattle.base_log.specs.declared.level.Level.TheVariants.{Alert}
use Rattle.state_secrets.specs.Looking.{IsBegun}
use Rattle.vault_served.specs.ForGood.{inventory_for_good}
use Rattle.state_keeping.specs.{States.book_in, Keepers.waiting_in}
use Rattle.agent_system.specs.Saying.{IsSaidAs}
use Rattle.agent_start.specs.{declared.folder.NotBegun.NotBegun, declared.start.Start.Start}
use Rattle.agent_start.specs.declared.folder.NotBegun.TheVariants as nots

-- ---- a folder that cannot be used

abbrev pub SaysUnused : SaidLine → Type 0
SaysUnused s = IsSaidAs Alert Folder s

-- why nothing is served with a folder: if that is because it cannot be used, it is said
abbrev pub IsOfFolder : NotBegun → Type 0
IsOfFolder nots.NoFolder = ⊥
IsOfFolder (nots.Unused s) = SaysUnused s
IsOfFolder nots.Held = Unit {0}
IsOfFolder nots.Refused = Unit {0}
IsOfFolder nots.Memory = Unit {0}

abbrev pub is_unused : NotBegun → Bool
is_unused nots.NoFolder = false
is_unused why = true

-- if a folder cannot be used, that is said
abbrev pub IsReason : NotBegun → Type 0
IsReason (nots.Unused s) = SaysUnused s
IsReason why = Unit {0}

-- there is none; or it is of the folder
abbrev pub IsWhyNotBegun : Bool → NotBegun → Type 0
IsWhyNotBegun false why = why ≡ nots.NoFolder
IsWhyNotBegun true why = IsOfFolder why

-- an entry is left out whose file holds no credential
abbrev pub SaysUnheld : SaidLine → Type 0
SaysUnheld s = IsSaidAs Alert SecretFile s

-- of a start without a ledger it is said that the folder cannot be used, and of which entries the files hold nothing; and nothing where there
-- is no folder
abbrev pub IsSaidAlone : Bool → List SaidLine → Type 0
IsSaidAlone false said = said ≡ []
IsSaidAlone true [] = ⊥
IsSaidAlone true (s ∷ rest) = SaysUnused s × All SaysUnheld rest

-- ---- a start

-- no file of a credential is looked at or looked up yet
pub record IsFreshLedger {D I L : Type 0} (l : Ledger D I L) : Type 0 where
  pub looking : IsBegun l.looking
  pub proving : l.proving ≡ None
  pub askers : l.askers.items ≡ []

-- a ledger at a start, where nothing waits to be served
pub record IsLedgerAtStart {D I L : Type 0} (d : Demands) (l : Ledger D I L) : Type 0 where
  pub demands : l.demands ≡ d
  pub still : waiting_in l.state.keeper ≡ None
  pub fresh : IsFreshLedger l

-- what is served of the text of a book: its inventory, with the margin that is demanded
abbrev pub IsServedOf : Demands → List ℕ → Inventory → Type 0
IsServedOf d text inventory = (narrow : Inventory) × ((inventory_for_good text ≡ Ok narrow) × IsWide d text narrow inventory)

-- what a ledger has served
abbrev pub IsServedBy : {D I L : Type 0} → Ledger D I L → Inventory → Type 0
IsServedBy l inventory = IsServedOf l.demands (book_in l.state).text inventory

-- the part of a spread is the one that is demanded, and so is the number behind another; without a part nothing is shown while a start waits
pub record IsSpread {K : Type 0} (d : Demands) (s : Start K) : Type 0 where
  pub part : s.part ≡ d.earlier
  pub behind : s.behind ≡ d.behind
  pub alone : d.earlier ≡ 0 → s.inventories.again ≡ None

-- without a ledger; whether there is a folder, which then cannot be used
pub record IsStartAlone {K : Type 0} (d : Demands) (has_folder : Bool) (s : Start K) : Type 0 where
  pub spread : IsSpread d s
  pub none : s.ledger ≡ None
  pub said : IsSaidAlone has_folder s.said.items
  pub good : s.is_good ≡ true

-- a ledger is there only where there is a folder, and what it has served is served; and where there is a folder and no ledger, that is said
pub record IsStart {D I L : Type 0} (d : Demands) (has_folder : Bool) (s : Start (Ledger D I L)) : Type 0 where
  pub spread : IsSpread d s
  pub ledger : IfSome s.ledger (λ l. (has_folder ≡ true) × (IsLedgerAtStart d l × IsServedBy l s.inventories.served))
  pub without : s.ledger ≡ None → IsSaidAlone has_folder s.said.items × (s.is_good ≡ true)

-- there is one, with a ledger; or why it has not begun
abbrev pub Begins : {D I L : Type 0} → Demands → Bool → Result (Start (Ledger D I L)) NotBegun → Type 0
Begins d has_folder (Ok s) = IsStart d has_folder s × (is_some s.ledger ≡ true)
Begins d has_folder (Err why) = IsWhyNotBegun has_folder why

-- it is served; or what is served without it
abbrev pub StartsBy : {K : Type 0} → Demands → Result (Start K) NotBegun → Start K → Type 0
StartsBy d (Ok begun) s = s ≡ begun
StartsBy d (Err why) s = IsStartAlone d (is_unused why) s
