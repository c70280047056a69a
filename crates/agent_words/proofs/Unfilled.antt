-- Unfilled: the faults of rows whose files give nothing, one after another; and the first of them. For `unfilled`, `push_unfilled` and `faults_to_serve`.
use Rattle.std.proofs.Common.{◌≡◌, ◌∙◌, ◌⊎◌, ℕ, ◌+◌, List, [], ◌∷◌, ◌++◌, Option, Some, None, append-nil, append_assoc, drop, inl, inr, refl, subst, sym}
use Rattle.state_changes.specs.declared.row.Row.{Row}
use Rattle.base_files.specs.Files.{Files}
use Rattle.agent_words.specs.{Starts.fault_list, declared.fault.StartFault.StartFault}
use Rattle.agent_words.specs.Filling.{AreUnfilled, CannotFill, FirstUnfilled, IsFaultOfRow}
use Rattle.agent_words.specs.declared.fault.StartFault.TheVariants as faults
use Rattle.agent_words.proofs.Filled.{cannot_as, fills_as}

-- ---- a row

-- what is not lack of memory is its fault
pub row_fault : (k : Files) (folder : List ℕ) (i : ℕ) (r : Row) (fault : StartFault) → (fault ≡ faults.OutOfMemory → ⊥) → (fault ≡ faults.OutOfMemory) ⊎ CannotFill k folder i r fault → IsFaultOfRow k folder i r (Some fault)
row_fault k folder i r fault other (inl memory) = absurd (other memory)
row_fault k folder i r fault other (inr cannot) = cannot

fault_as : (k now : Files) (folder : List ℕ) (i : ℕ) (r : Row) (fault : Option StartFault) → ((p : List ℕ) → now p ≡ k p) → IsFaultOfRow now folder i r fault → IsFaultOfRow k folder i r fault
fault_as k now folder i r None same h = (h.0, fills_as now k folder r h.0 same h.1)
fault_as k now folder i r (Some fault) same h = cannot_as now k folder i r fault same h

-- ---- rows, one after another

-- the faults of those before i are said, by files that still say what they said at the start
pub record UnfilledSoFar (k now : Files) (folder : List ℕ) (rows : List Row) (begun said : List StartFault) (i : ℕ) : Type 0 where
  pub all : (later : List StartFault) → AreUnfilled k folder i (drop i rows) later → (every : List StartFault) × (AreUnfilled k folder 0 rows every × (said ++ later ≡ begun ++ every))
  pub same : (path : List ℕ) → now path ≡ k path

pub unfilled_none : (k : Files) (folder : List ℕ) (rows : List Row) (begun : List StartFault) → UnfilledSoFar k k folder rows begun begun 0
unfilled_none k folder rows begun = record { all = λ later are. (later, (are, refl)); same = λ path. refl }

pub unfilled_more : (k now after : Files) (folder : List ℕ) (rows : List Row) (begun said next : List StartFault) (i : ℕ) (r : Row) (fault : Option StartFault) → UnfilledSoFar k now folder rows begun said i → drop i rows ≡ r ∷ drop (i + 1) rows →
    IsFaultOfRow now folder i r fault → ((path : List ℕ) → after path ≡ now path) → next ≡ said ++ fault_list fault → UnfilledSoFar k after folder rows begun next (i + 1)
unfilled_more k now after folder rows begun said next i r fault so here is same grown = record {
  all = λ later are.
      let e = so.all (fault_list fault ++ later) (subst (λ rs. AreUnfilled k folder i rs (fault_list fault ++ later)) (sym here) (fault, (fault_as k now folder i r fault so.same is, (later, (are, refl))))) in
      (e.0, (e.1.0, subst (λ (l : List StartFault). l ++ later ≡ begun ++ e.0) (sym grown) (append_assoc said (fault_list fault) later ∙ e.1.1)));
  same = λ path. same path ∙ so.same path;
}

pub unfilled_all : (k now : Files) (folder : List ℕ) (rows : List Row) (begun said : List StartFault) (i : ℕ) → UnfilledSoFar k now folder rows begun said i → drop i rows ≡ [] →
    (every : List StartFault) × (AreUnfilled k folder 0 rows every × (said ≡ begun ++ every))
unfilled_all k now folder rows begun said i so none =
    let e = so.all [] (subst (λ rs. AreUnfilled k folder i rs []) (sym none) refl) in
    (e.0, (e.1.0, sym (append-nil said) ∙ e.1.1))

-- ---- the first

first_from : (k : Files) (folder : List ℕ) (i : ℕ) (r : Row) (rs : List Row) (fault : StartFault) (more rest : List StartFault) (here : Option StartFault) → IsFaultOfRow k folder i r here → AreUnfilled k folder (i + 1) rs rest →
    fault ∷ more ≡ fault_list here ++ rest → ((fs : List StartFault) → fs ≡ fault ∷ more → AreUnfilled k folder (i + 1) rs fs → FirstUnfilled k folder (i + 1) rs fault) → FirstUnfilled k folder i (r ∷ rs) fault
first_from k folder i r rs fault more rest None is are e later = inr (is.0, (is.1, later rest (sym e) are))
first_from k folder i r rs fault more rest (Some other) is are e later = inl (subst (λ f. CannotFill k folder i r f) (let no = e in cc) is)

pub first_unfilled : (k : Files) (folder : List ℕ) (i : ℕ) (rs : List Row) (fault : StartFault) (more fs : List StartFault) → fs ≡ fault ∷ more → AreUnfilled k folder i rs fs → FirstUnfilled k folder i rs fault
first_unfilled k folder i [] fault more fs is are = let no : fault ∷ more ≡ [] = sym is ∙ are in cc
first_unfilled k folder i (r ∷ rs) fault more fs is are =
    first_from k folder i r rs fault more are.1.1.0 are.0 are.1.0 are.1.1.1.0 (sym is ∙ are.1.1.1.1) (λ fs e later. first_unfilled k folder (i + 1) rs fault more fs e later)
