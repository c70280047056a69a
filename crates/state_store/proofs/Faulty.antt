-- Why a file is not served, by what the crates below say of it.
use Rattle.std.proofs.Common.{◌≡◌, ℕ, List, sym, subst}
use Rattle.state_changes.specs.{declared.change.Record.Record, declared.replaying.File.File, declared.row.Row.Row, declared.secret.Secret.Secret, Replay.replayed}
use Rattle.vault_inventory.specs.{declared.fault.InvFault.InvFault, Answers.FailsWithInvFault, Inventory.read_served}
use Rattle.vault_inventory.specs.declared.fault.InvFault.TheVariants.{NotToml, MissingKey, UnknownKey, BadValue, Tree}
use Rattle.vault_inventory.specs.declared.fault.InvFault.TheVariants as inventories
use Rattle.state_file.specs.declared.fault.SettleFault.{SettleFault}
use Rattle.state_file.specs.declared.fault.SettleFault.TheVariants.{TooLong, Refused, Differs}
use Rattle.state_file.specs.declared.fault.SettleFault.TheVariants as settles
use Rattle.state_store.specs.declared.fault.FileFault.{FileFault}
use Rattle.state_store.specs.declared.fault.FileFault.TheVariants.{Unread, Faulty, Unwritten, OutOfMemory}
use Rattle.state_store.specs.Books.{IsFault, IsFileOf, IsWhyUnhanded}
use Rattle.state_store.specs.code.Faults.{IsNoFile, faulty, unhanded}

-- memory may be wanting for any bytes
pub memory_fault : (bytes : List ℕ) (fault : FileFault) → fault ≡ OutOfMemory → IsNoFile bytes fault
memory_fault bytes fault same = subst (IsNoFile bytes) (sym same) tt

pub faulty_is : (bytes : List ℕ) (fault : InvFault) → FailsWithInvFault fault (read_served bytes) → IsNoFile bytes (faulty fault)
faulty_is bytes NotToml fails = fails
faulty_is bytes (MissingKey i k) fails = fails
faulty_is bytes (UnknownKey i) fails = fails
faulty_is bytes (BadValue i k) fails = fails
faulty_is bytes (Tree i f) fails = fails
faulty_is bytes inventories.OutOfMemory fails = tt

pub no_file_is : (bytes : List ℕ) (records : List Record) (secrets : List Secret) (fault : FileFault) → IsNoFile bytes fault → IsFault bytes records secrets fault
no_file_is bytes records secrets Unread is = absurd is
no_file_is bytes records secrets (Faulty fault) is = is
no_file_is bytes records secrets (Unwritten fault) is = absurd is
no_file_is bytes records secrets OutOfMemory is = tt

-- a file that was read, of which what is handed cannot be written
module _ (bytes : List ℕ) (records : List Record) (secrets : List Secret) (f : File) (rows : List Row) where
  pub unhanded_is : (fault : SettleFault) → IsFileOf bytes f → (replayed f records).rows ≡ rows → IsWhyUnhanded f.margin secrets rows fault → IsFault bytes records secrets (unhanded fault)
  unhanded_is TooLong is same why = (f, is, subst (λ (rs : List Row). IsWhyUnhanded f.margin secrets rs TooLong) (sym same) why)
  unhanded_is (Refused fault) is same why = (f, is, subst (λ (rs : List Row). IsWhyUnhanded f.margin secrets rs (Refused fault)) (sym same) why)
  unhanded_is Differs is same why = (f, is, subst (λ (rs : List Row). IsWhyUnhanded f.margin secrets rs Differs) (sym same) why)
  unhanded_is settles.OutOfMemory is same why = tt
