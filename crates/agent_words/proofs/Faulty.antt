-- Faulty: all faults of a start, and that the first of them is why it is refused. For `faults_to_serve`,
-- `faults_as_written`, `faults_of`, `last_fault` and `why_not_served`.
use Rattle.std.proofs.Common.{◌≡◌, ◌∙◌, ◌==◌, ℕ, List, [], ◌∷◌, ◌++◌, false, true, Result, Ok, Err, IfOk, ap, arith, inl, inr, length, refl, subst, sym}
use Rattle.std.proofs.lemmas.Bool.{eqb-false, eqb-true}
use Rattle.std.specs.Prelude.{Vec}
use Rattle.std.specs.{declared.alloc.AllocError.AllocError, declared.alloc.Global.Global}
use Rattle.std.proofs.Math.Path.{fun_ext}
use Rattle.state_changes.specs.{Listed.rows_of_served, declared.row.Row.Row}
use Rattle.base_files.specs.Files.{Files}
use Rattle.vault_inventory.specs.{Answers.FailsWithInvFault, Inventories.Inventory, Inventory.read_served, Served.Served, declared.fault.InvFault.InvFault}
use Rattle.vault_inventory.specs.declared.fault.InvFault.TheVariants as inventories
use Rattle.agent_words.specs.{Filling.AreUnfilled, Noting.AreWhysNotServed, Noting.SaysFaults, declared.demands.Demands.Demands, declared.fault.StartFault.StartFault}
use Rattle.agent_words.specs.Reading.{AreAllOr, AreFaults, AreFaultsOf, AreLast, AreOfNoInventory, AreWrittenFaults, FirstIsWhy, IsStartFaultOf, IsWellWritten}
use Rattle.agent_words.specs.Starts.{first_listed_fault, first_start_fault, written_faults}
use Rattle.agent_words.specs.declared.fault.StartFault.TheVariants as faults
use Rattle.agent_words.proofs.Unfilled.{first_unfilled}

-- ---- a text that is no inventory

of_none : (bytes : List ℕ) (fault : InvFault) (fs : List StartFault) → (fault ≡ inventories.OutOfMemory → ⊥) → FailsWithInvFault fault (read_served bytes) → fs ≡ faults.Inventory fault ∷ [] → AreOfNoInventory bytes fs
of_none bytes inventories.OutOfMemory fs other h is = absurd (other refl)
of_none bytes inventories.NotToml fs other h is = (faults.Inventory inventories.NotToml, ((inventories.NotToml, (refl, h)), is))
of_none bytes (inventories.MissingKey i k) fs other h is = (faults.Inventory (inventories.MissingKey i k), ((inventories.MissingKey i k, (refl, h)), is))
of_none bytes (inventories.UnknownKey i) fs other h is = (faults.Inventory (inventories.UnknownKey i), ((inventories.UnknownKey i, (refl, h)), is))
of_none bytes (inventories.BadValue i k) fs other h is = (faults.Inventory (inventories.BadValue i k), ((inventories.BadValue i k, (refl, h)), is))
of_none bytes (inventories.Tree i f) fs other h is = (faults.Inventory (inventories.Tree i f), ((inventories.Tree i f, (refl, h)), is))

pub no_inventory : (d : Demands) (known : Files) (folder bytes : List ℕ) (fault : InvFault) (fs : List StartFault) → (fault ≡ inventories.OutOfMemory → ⊥) → FailsWithInvFault fault (read_served bytes) → fs ≡ faults.Inventory fault ∷ [] → AreFaults d known folder bytes fs
no_inventory d known folder bytes fault fs other h is = inl (of_none bytes fault fs other h is)

pub none_written : (d : Demands) (bytes : List ℕ) (fault : InvFault) (fs : List StartFault) → (fault ≡ inventories.OutOfMemory → ⊥) → FailsWithInvFault fault (read_served bytes) → fs ≡ faults.Inventory fault ∷ [] → AreWrittenFaults d bytes fs
none_written d bytes fault fs other h is = inl (of_none bytes fault fs other h is)

-- ---- one that is

pub read_so : (d : Demands) (known : Files) (folder bytes : List ℕ) (v : Served) (fs : List StartFault) → read_served bytes ≡ Ok v → AreFaultsOf d known folder bytes v fs → AreFaults d known folder bytes fs
read_so d known folder bytes v fs reads are = inr (v, (reads, are))

pub written_so : (d : Demands) (bytes : List ℕ) (v : Served) (fs : List StartFault) → read_served bytes ≡ Ok v → fs ≡ written_faults d v → AreWrittenFaults d bytes fs
written_so d bytes v fs reads are = inr (v, (reads, are))

nil_of : (fs : List StartFault) → (length fs == 0) ≡ true → fs ≡ []
nil_of [] e = refl
nil_of (f ∷ fs) e = let n = eqb-true _ _ e in absurd (omega (arith, n))

-- those of what is written and of files are all, where there are any
all_there : (Last : List StartFault → Type 0) (every : List StartFault) → (length every == 0) ≡ false → AreAllOr Last every every
all_there Last [] some = absurd (eqb-false (length {A = StartFault} []) 0 some refl)
all_there Last (first ∷ more) some = refl

module _ (d : Demands) (known : Files) (folder named bytes : List ℕ) (v : Served) (rows : List Row) (written fs unfilled : List StartFault) (is : written ≡ written_faults d v) (listed : rows ≡ rows_of_served v) (same_folder : named ≡ folder)
    (are : AreUnfilled known named 0 rows unfilled) (all : fs ≡ written ++ unfilled) where
  here : AreUnfilled known folder 0 (rows_of_served v) unfilled
  here = subst (λ (f : List ℕ). AreUnfilled known f 0 (rows_of_served v) unfilled) same_folder (subst (λ (rs : List Row). AreUnfilled known named 0 rs unfilled) listed are)

  every : fs ≡ written_faults d v ++ unfilled
  every = all ∙ ap (λ w. w ++ unfilled) is

  pub are_there : (length fs == 0) ≡ false → AreFaultsOf d known folder bytes v fs
  are_there some = (unfilled, (here, subst (λ w. AreAllOr (AreLast d known folder bytes) w fs) every (all_there (AreLast d known folder bytes) fs some)))

  -- and where there are none, what is left
  left_so : (now : Files) (last : List StartFault) → fs ≡ [] → ((path : List ℕ) → now path ≡ known path) → AreLast d now folder bytes last → AreFaultsOf d known folder bytes v last
  left_so now last none same left =
      let none_there : [] ≡ written_faults d v ++ unfilled = sym none ∙ every in
      let by = subst (λ (f : Files). AreLast d f folder bytes last) (fun_ext same) left in
      (unfilled, (here, subst (λ w. AreAllOr (AreLast d known folder bytes) w last) none_there by))

  pub are_last : (now : Files) (result : Result (Vec StartFault Global) AllocError) → (length fs == 0) ≡ true → ((path : List ℕ) → now path ≡ known path) → IfOk result (λ l. AreLast d now folder bytes l.items)
      → IfOk result (λ l. AreFaultsOf d known folder bytes v l.items)
  are_last now (Ok l) none same left = left_so now l.items (nil_of fs none) same left
  are_last now (Err e) none same left = tt

-- ---- the first

first_written : (d : Demands) (known : Files) (folder bytes : List ℕ) (v : Served) (w unfilled : List StartFault) (fault : StartFault) (more : List StartFault) → read_served bytes ≡ Ok v → written_faults d v ≡ w →
    AreUnfilled known folder 0 (rows_of_served v) unfilled → w ++ unfilled ≡ fault ∷ more → IsStartFaultOf d known folder v fault
unfolding first_start_fault
first_written d known folder bytes v [] unfilled fault more reads is are e = inr (ap first_listed_fault is, inl (first_unfilled known folder 0 (rows_of_served v) fault more unfilled e are))
first_written d known folder bytes v (other ∷ others) unfilled fault more reads is are e = inl (ap first_listed_fault is ∙ ap first_listed_fault e)

first_of_all : (d : Demands) (known : Files) (folder bytes : List ℕ) (v : Served) (every unfilled fs : List StartFault) → read_served bytes ≡ Ok v → AreUnfilled known folder 0 (rows_of_served v) unfilled → written_faults d v ++ unfilled ≡ every →
    AreAllOr (AreLast d known folder bytes) every fs → FirstIsWhy d known folder bytes fs
first_of_all d known folder bytes v [] unfilled [] reads are e left = left
first_of_all d known folder bytes v [] unfilled (fault ∷ []) reads are e left = inr (inr left)
first_of_all d known folder bytes v [] unfilled (fault ∷ next ∷ fs) reads are e left = absurd left
first_of_all d known folder bytes v (fault ∷ more) unfilled fs reads are e is =
    subst (FirstIsWhy d known folder bytes) (sym is) (inr (inr (v, (reads, first_written d known folder bytes v (written_faults d v) unfilled fault more reads refl are e))))

pub first_is_why : (d : Demands) (known : Files) (folder bytes : List ℕ) (fs : List StartFault) → AreFaults d known folder bytes fs → FirstIsWhy d known folder bytes fs
first_is_why d known folder bytes fs (inl (fault, (none, is))) = subst (FirstIsWhy d known folder bytes) (sym is) (inr (inl none))
first_is_why d known folder bytes fs (inr (v, (reads, (unfilled, (are, all))))) = first_of_all d known folder bytes v (written_faults d v ++ unfilled) unfilled fs reads are refl all

-- ---- in words

pub well_written : (d : Demands) (bytes : List ℕ) (fs : List StartFault) → AreWrittenFaults d bytes fs → length fs ≡ 0 → IsWellWritten d bytes
well_written d bytes [] are none = are
well_written d bytes (fault ∷ more) are none = absurd (omega (arith, none))

pub says_each : (d : Demands) (bytes : List ℕ) (fs : List StartFault) (whys : List (List ℕ)) → AreWrittenFaults d bytes fs → (length fs ≡ 0 → ⊥) → AreWhysNotServed d bytes fs whys → SaysFaults d bytes whys
says_each d bytes [] whys are some says = absurd (some refl)
says_each d bytes (fault ∷ more) whys are some says = (fault, (more, (are, says)))
