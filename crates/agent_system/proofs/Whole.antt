-- Whole: where paths start, and what is served of FILE, step by step. For `folder_of`, `serve_bytes`, `read_inventory` and `refuse_bytes`.
use Rattle.std.proofs.Common.{◌≡◌, ◌≢◌, ◌∙◌, ◌+◌, ◌<◌, ℕ, suc, zero, true, false, List, [], ◌∷◌, None, Option, Result, Ok, Err, IfOk, add-one, ap, arith, eq-eqb, get_or, length, ne_eqb, refl, subst, sym, take}
use Rattle.std.proofs.lemmas.{Bool.cond-false, Bool.cond-true, List.Folds.list_any_at}
use Rattle.std.specs.List.{list_any}
use Rattle.agent_words.specs.{declared.demands.Demands.Demands, declared.fault.StartFault.StartFault}
use Rattle.agent_words.specs.Reading.{AreWrittenFaults, IsToServe, IsWellWritten}
use Rattle.base_files.specs.Files.{FileIsRead, Files}
use Rattle.vault_inventory.specs.{Inventories.Inventory, declared.limits.TheConstants.MOST_INVENTORY}
use Rattle.program_report.specs.declared.exit.Exit.{Exit}
use Rattle.agent_system.specs.declared.reading.Inventories.{Inventories}
use Rattle.agent_system.specs.Whole.{IsServedFile, IsServedWhole, folder_of, is_slash}

-- ---- where paths start

no_slash : (bs : List ℕ) → ((i : ℕ) → i < length bs → get_or bs i 0 ≢ 47) → list_any is_slash bs ≡ false
no_slash [] h = refl
no_slash (b ∷ bs) h = rw (ne_eqb b 47 (h 0 (omega arith)), no_slash bs (λ i l. h (suc i) (omega arith))) refl

folder_none : (bs : List ℕ) → list_any is_slash bs ≡ false → folder_of bs ≡ []
folder_none [] h = refl
folder_none (b ∷ bs) h = cond-false _ _ _ h

folder_some : (b : ℕ) (bs : List ℕ) → list_any is_slash (b ∷ bs) ≡ true → folder_of (b ∷ bs) ≡ b ∷ folder_of bs
folder_some b bs h = cond-true _ _ _ h

-- up to the last slash
pub folder_cut : (k : ℕ) (bs : List ℕ) → k < length bs → get_or bs k 0 ≡ 47 → ((i : ℕ) → k < i → i < length bs → get_or bs i 0 ≢ 47) → take (suc k) bs ≡ folder_of bs
folder_cut k [] l at after = absurd (omega arith)
folder_cut zero (b ∷ bs) l at after = ap (λ t. b ∷ t) (sym (folder_none bs (no_slash bs (λ i w. after (suc i) (omega arith) (omega arith))))) ∙ sym (folder_some b bs (list_any_at is_slash (b ∷ bs) 0 0 l (eq-eqb b 47 at)))
folder_cut (suc k) (b ∷ bs) l at after = ap (λ t. b ∷ t) (folder_cut k bs (omega arith) at (λ i a w. after (suc i) (omega arith) (omega arith))) ∙ sym (folder_some b bs (list_any_at is_slash (b ∷ bs) (suc k) 0 l (eq-eqb _ 47 at)))

pub folder_found : (bs : List ℕ) (k : ℕ) → (k < length bs) × ((get_or bs k 0 ≡ 47) × ((i : ℕ) → k < i → i < length bs → get_or bs i 0 ≢ 47)) → take (k + 1) bs ≡ folder_of bs
folder_found bs k h = ap (λ n. take n bs) (add-one k) ∙ folder_cut k bs h.0 h.1.0 h.1.1

-- or nothing, where there is none
pub folder_whole : (bs : List ℕ) → ((i : ℕ) → i < length bs → get_or bs i 0 ≢ 47) → [] ≡ folder_of bs
folder_whole bs h = sym (folder_none bs (no_slash bs h))

-- ---- of bytes of FILE

pub well_written : (d : Demands) (bytes other : List ℕ) (faults none : List StartFault) → AreWrittenFaults d other faults → other ≡ bytes → none ≡ faults → none ≡ [] → IsWellWritten d bytes
well_written d bytes other faults none are same is empty = subst (λ b. AreWrittenFaults d b []) same (subst (AreWrittenFaults d other) (sym is ∙ empty) are)

pub served_whole : (known : Files) (folder other bytes text : List ℕ) (d : Demands) (served : Inventory) (again : Option Inventory) → other ≡ folder → text ≡ bytes → IsToServe d known other text (Ok served) →
    IsServedWhole known folder bytes d (record { served = served; again = again; named = None })
served_whole known folder other bytes text d served again same is serves =
    record { served = subst (λ b. IsToServe d known folder b (Ok served)) is (subst (λ f. IsToServe d known f text (Ok served)) same serves); named = refl }

-- ---- of FILE, by its path

pub file_served : (known_file known : Files) (file bytes : List ℕ) (d : Demands) (result : Result Inventories Exit) → FileIsRead (known_file file) MOST_INVENTORY (Ok bytes) → IfOk result (IsServedWhole known (folder_of file) bytes d) → IfOk result (IsServedFile known_file known file d)
file_served known_file known file bytes d (Ok i) read whole = record { bytes = bytes; read = read; whole = whole }
file_served known_file known file bytes d (Err exit) read whole = tt
