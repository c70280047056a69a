-- Why what is kept, or what is handed of it, cannot be written as one file.
use Rattle.std.proofs.Common.{◌≡◌, ℕ, List, Option, Some, inl, inr, sym, ap, subst, ◌∙◌}
use Rattle.vault_inventory.specs.Served.{Served}
use Rattle.state_changes.specs.{declared.replaying.File.File, declared.row.Row.Row, declared.secret.Secret.Secret, Listed.rows_of_served, Words.fingerprint}
use Rattle.state_file.specs.{declared.fault.SettleFault.SettleFault, Order.in_order, Unwritten.IsWhyUnwritten}
use Rattle.state_file.specs.declared.fault.SettleFault.TheVariants.{TooLong, Refused, Differs, OutOfMemory}
use Rattle.state_store.specs.{Books.Book, Books.IsWhyUnhanded, Books.file_of, code.Faults.unsaid}
use Rattle.state_store.specs.Moved.{IsWhyUnsaid, IsWhyUnsettled, SaysAllKept}

-- memory may be wanting for any rows
memory_unwritten : (margin most : Option ℕ) (rows : List Row) (fault : SettleFault) → fault ≡ OutOfMemory → IsWhyUnwritten margin most rows fault
unfolding IsWhyUnwritten
memory_unwritten margin most rows fault same = subst (IsWhyUnwritten margin most rows) (sym same) tt

pub memory_unhanded : (margin : ℕ) (secrets : List Secret) (rows : List Row) (fault : SettleFault) → fault ≡ OutOfMemory → IsWhyUnhanded margin secrets rows fault
memory_unhanded margin secrets rows fault same = memory_unwritten _ _ _ fault same

pub memory_unsaid : (b : Book) (fault : SettleFault) → fault ≡ OutOfMemory → IsWhyUnsaid b fault
memory_unsaid b fault same = inl (memory_unwritten _ _ _ fault same)

pub unwritten_unsaid : (b : Book) (fault : SettleFault) → IsWhyUnwritten (Some b.file.margin) b.file.system_max b.rows fault → IsWhyUnsaid b fault
unwritten_unsaid b fault why = inl why

pub unhanded_unsaid : (b : Book) (fault : SettleFault) → IsWhyUnhanded b.file.margin b.secrets (in_order b.rows) fault → IsWhyUnsaid b fault
unhanded_unsaid b fault why = inr why

-- a file that says all that is kept has the margin of the one before, and its rows in order
pub handed_again : (b : Book) (text : List ℕ) (v : Served) (f : File) (secrets : List Secret) (rows : List Row) (fault : SettleFault) → SaysAllKept b text v → f ≡ file_of text v → secrets ≡ b.secrets → rows ≡ rows_of_served v
    → IsWhyUnhanded f.margin secrets rows fault → IsWhyUnhanded b.file.margin b.secrets (in_order b.rows) fault
handed_again b text v f secrets rows fault says file same listed why =
    let margin : f.margin ≡ b.file.margin = ap (λ (g : File). g.margin) file ∙ says.margin_is in
    subst (λ (m : ℕ). IsWhyUnhanded m b.secrets (in_order b.rows) fault) margin
    (subst (λ (ss : List Secret). IsWhyUnhanded f.margin ss (in_order b.rows) fault) same
    (subst (λ (rs : List Row). IsWhyUnhanded f.margin secrets rs fault) (listed ∙ says.listed) why))

-- the file is the one that was read
pub unsaid_unsettled : (b : Book) (present : List ℕ) (fault : SettleFault) → fingerprint present ≡ b.file.mark → IsWhyUnsaid b fault → IsWhyUnsettled b present (unsaid fault)
unsaid_unsettled b present TooLong same why = (same, why)
unsaid_unsettled b present (Refused fault) same why = (same, why)
unsaid_unsettled b present Differs same why = (same, why)
unsaid_unsettled b present OutOfMemory same why = tt
