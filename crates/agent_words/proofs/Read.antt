-- Read: what a start comes to, step by step. For `read_to_serve`, `serve_text`, `filled_text` and `wide`.
use Rattle.std.proofs.Common.{◌≡◌, ◌∙◌, ◌⊎◌, List, ℕ, true, false, Some, None, Result, Ok, Err, IfErr, IfOk, IsErr, IsErrAnd, inl, inr, refl, sym, ap, subst}
use Rattle.state_changes.specs.{Listed.rows_of_served, declared.row.Row.Row}
use Rattle.base_files.specs.Files.{Files}
use Rattle.vault_inventory.specs.Answers.{◌>>=◌, FailsWithInvFault}
use Rattle.vault_inventory.specs.{Inventories.Inventory, Inventory.read_served, Served.Served, declared.fault.InvFault.InvFault}
use Rattle.vault_inventory.specs.declared.fault.InvFault.TheVariants as inventories
use Rattle.vault_served.specs.ForGood.{inventory_for_good, served_for_good}
use Rattle.state_file.specs.{Unwritten.IsWhyUnwritten, declared.fault.SettleFault.SettleFault}
use Rattle.state_file.specs.declared.fault.SettleFault.TheVariants as settling
use Rattle.agent_words.specs.{Faults.start_of_inventory, Faults.start_of_settling, Filling.AreFilled, Starts.first_start_fault, declared.demands.Demands.Demands, declared.fault.StartFault.StartFault}
use Rattle.agent_words.specs.{declared.fault.StartFault.TheVariants.OutOfMemory}
use Rattle.agent_words.specs.Reading.{IsFilledText, IsToServe, IsUnfilled, IsWide, IsWideText, NotTogether, is_as_written, is_full, keeps_margin, margin_for}

-- ---- a text that can be read

is_no_fault : {X : Type 0} (x : X) (fault : InvFault) → Ok x ≡ Err fault → ⊥
is_no_fault x fault bad = cc

-- it is one for a watch
good : (text : List ℕ) (v : Served) → read_served text ≡ Ok v → (inventory : Inventory) × (inventory_for_good text ≡ Ok inventory)
unfolding inventory_for_good
good text v reads = (_, ap (λ read. read >>= λ (w : Served). Ok (served_for_good w)) reads)

-- what was read of it is that
written_so : (text : List ℕ) (v : Served) (inventory : Inventory) → read_served text ≡ Ok v → inventory ≡ served_for_good v → inventory_for_good text ≡ Ok inventory
unfolding inventory_for_good
written_so text v inventory reads is = ap (λ read. read >>= λ (w : Served). Ok (served_for_good w)) reads ∙ ap (λ (x : Inventory). Ok x) (sym is)

-- it has no fault but lack of memory
pub only_memory : (text : List ℕ) (v : Served) (fault : InvFault) → read_served text ≡ Ok v → FailsWithInvFault fault (inventory_for_good text) → start_of_inventory fault ≡ OutOfMemory
only_memory text v inventories.OutOfMemory reads h = refl
only_memory text v inventories.NotToml reads h = let g = good text v reads in absurd (is_no_fault g.0 inventories.NotToml (sym g.1 ∙ h))
only_memory text v (inventories.MissingKey i k) reads h = let g = good text v reads in absurd (is_no_fault g.0 (inventories.MissingKey i k) (sym g.1 ∙ h))
only_memory text v (inventories.UnknownKey i) reads h = let g = good text v reads in absurd (is_no_fault g.0 (inventories.UnknownKey i) (sym g.1 ∙ h))
only_memory text v (inventories.BadValue i k) reads h = let g = good text v reads in absurd (is_no_fault g.0 (inventories.BadValue i k) (sym g.1 ∙ h))
only_memory text v (inventories.Tree i f) reads h = let g = good text v reads in absurd (is_no_fault g.0 (inventories.Tree i f) (sym g.1 ∙ h))

-- ---- a start

pub no_inventory : (d : Demands) (known : Files) (folder bytes : List ℕ) (fault : InvFault) → FailsWithInvFault fault (read_served bytes) → IsToServe d known folder bytes (Err (start_of_inventory fault))
no_inventory d known folder bytes inventories.OutOfMemory h = inl refl
no_inventory d known folder bytes inventories.NotToml h = inr (inl (inventories.NotToml, (refl, h)))
no_inventory d known folder bytes (inventories.MissingKey i k) h = inr (inl (inventories.MissingKey i k, (refl, h)))
no_inventory d known folder bytes (inventories.UnknownKey i) h = inr (inl (inventories.UnknownKey i, (refl, h)))
no_inventory d known folder bytes (inventories.BadValue i k) h = inr (inl (inventories.BadValue i k, (refl, h)))
no_inventory d known folder bytes (inventories.Tree i f) h = inr (inl (inventories.Tree i f, (refl, h)))

pub not_served : (d : Demands) (known : Files) (folder bytes : List ℕ) (v : Served) (fault : StartFault) → read_served bytes ≡ Ok v → first_start_fault d v ≡ Some fault → IsToServe d known folder bytes (Err fault)
not_served d known folder bytes v fault reads is = inr (inr (v, (reads, inl is)))

-- it is served as it is written
pub served_plain : (d : Demands) (known : Files) (folder bytes : List ℕ) (v : Served) (inventory : Inventory) → read_served bytes ≡ Ok v → first_start_fault d v ≡ None → is_as_written d v.notes ≡ true → inventory ≡ served_for_good v →
    IsToServe d known folder bytes (Ok inventory)
served_plain d known folder bytes v inventory reads none plain is = (v, (reads, (none, (bytes, (inl (plain, refl), written_so bytes v inventory reads is)))))

-- or memory was wanting for it
pub lacks_memory : (d : Demands) (known : Files) (folder bytes : List ℕ) (fault : StartFault) → fault ≡ OutOfMemory → IsToServe d known folder bytes (Err fault)
lacks_memory d known folder bytes fault is = inl is

-- its files give credentials, and its margin has room
pub served_filled : (d : Demands) (known : Files) (folder bytes text : List ℕ) (v : Served) (result : Result Inventory StartFault) → read_served bytes ≡ Ok v → first_start_fault d v ≡ None → is_as_written d v.notes ≡ false →
    IsFilledText known folder d v text → IfOk result (λ inventory. inventory_for_good text ≡ Ok inventory) → IfErr result (λ fault. fault ≡ OutOfMemory) → IsToServe d known folder bytes result
served_filled d known folder bytes text v (Ok inventory) reads none named filled is memory = (v, (reads, (none, (text, (inr (named, filled), is)))))
served_filled d known folder bytes text v (Err fault) reads none named filled is memory = inl memory

-- or one does not
pub not_filled : (d : Demands) (known : Files) (folder bytes : List ℕ) (v : Served) (fault : StartFault) → read_served bytes ≡ Ok v → first_start_fault d v ≡ None →
    (fault ≡ OutOfMemory) ⊎ (IsUnfilled known folder v fault ⊎ NotTogether d known folder v fault) → IsToServe d known folder bytes (Err fault)
not_filled d known folder bytes v fault reads none (inl memory) = inl memory
not_filled d known folder bytes v fault reads none (inr why) = inr (inr (v, (reads, inr (none, why))))

-- that is handed on
pub none_filled : (d : Demands) (known : Files) (folder bytes : List ℕ) (v : Served) (fault : StartFault) (result : Result Inventory StartFault) → read_served bytes ≡ Ok v → first_start_fault d v ≡ None →
    (fault ≡ OutOfMemory) ⊎ (IsUnfilled known folder v fault ⊎ NotTogether d known folder v fault) → IsErr result × IsErrAnd result (λ e. e ≡ fault) → IsToServe d known folder bytes result
none_filled d known folder bytes v fault (Ok inventory) reads none why is = absurd is.1
none_filled d known folder bytes v fault (Err e) reads none why is = subst (λ f. IsToServe d known folder bytes (Err f)) (sym is.1) (not_filled d known folder bytes v fault reads none why)

-- what they hold does not go together
pub not_together : (d : Demands) (known : Files) (folder : List ℕ) (v : Served) (margin : ℕ) (filled : List Row) (fault : SettleFault) → AreFilled known folder (rows_of_served v) filled → margin ≡ margin_for d v →
    IsWhyUnwritten (Some margin) None filled fault →
    (start_of_settling fault ≡ OutOfMemory) ⊎ (IsUnfilled known folder v (start_of_settling fault) ⊎ NotTogether d known folder v (start_of_settling fault))
not_together d known folder v margin filled settling.OutOfMemory are same why = inl refl
not_together d known folder v margin filled settling.TooLong are same why =
    inr (inr (settling.TooLong, (refl, (filled, (are, subst (λ (m : ℕ). IsWhyUnwritten (Some m) None filled settling.TooLong) same why)))))
not_together d known folder v margin filled (settling.Refused fault) are same why =
    inr (inr (settling.Refused fault, (refl, (filled, (are, subst (λ (m : ℕ). IsWhyUnwritten (Some m) None filled (settling.Refused fault)) same why)))))
not_together d known folder v margin filled settling.Differs are same why =
    inr (inr (settling.Differs, (refl, (filled, (are, subst (λ (m : ℕ). IsWhyUnwritten (Some m) None filled settling.Differs) same why)))))

-- ---- the margin that is demanded

-- nothing is
pub stays_narrow : (d : Demands) (text : List ℕ) (narrow : Inventory) → keeps_margin d ≡ true → IsWide d text narrow narrow
stays_narrow d text narrow keeps = inl (inl keeps, refl)

-- or there is no room for it
pub stays_full : (d : Demands) (text : List ℕ) (narrow : Inventory) → is_full text ≡ true → IsWide d text narrow narrow
stays_full d text narrow full = inl (inr full, refl)

pub widens : (d : Demands) (text wide : List ℕ) (narrow inventory : Inventory) → IsWideText d text wide → inventory_for_good wide ≡ Ok inventory → IsWide d text narrow inventory
widens d text wide narrow inventory is reads = inr (wide, (is, reads))
