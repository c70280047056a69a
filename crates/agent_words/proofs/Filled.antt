-- Filled: what is filled by one list of files is filled by another that says the same; and rows that are filled one after another.
use Rattle.std.proofs.Common.{◌≡◌, ◌∙◌, ◌⊎◌, ℕ, ◌+◌, List, [], ◌∷◌, ◌++◌, Option, Some, None, Ok, Err, IsErr, IsErrAnd, IfErr, IsUtf8, Result, false, true, append-nil, append_assoc, drop, inl, inr, refl, subst, sym, ⊎_elim}
use Rattle.std.proofs.lemmas.{Bool.false_from_ne_true, Str.IsUtf8-from_is_utf8}
use Rattle.std.specs.Str.{is_utf8}
use Rattle.state_changes.specs.declared.row.Row.{Row}
use Rattle.base_device.specs.declared.fault.InputFault.TheVariants as inputs
use Rattle.base_files.specs.Files.{FileIsRead, Files}
use Rattle.state_secrets.specs.{Credentials.placed, declared.credential.TheConstants.MOST_SECRET}
use Rattle.agent_words.specs.declared.fault.StartFault.{StartFault}
use Rattle.agent_words.specs.Filling.{AreFilled, CannotFill, FillingFails, FillsFrom, FillsRow, FirstUnfilled}
use Rattle.agent_words.specs.declared.fault.StartFault.TheVariants as faults

-- ---- a file

pub not_utf8 : (path : List ℕ) → (IsUtf8 path → ⊥) → is_utf8 path ≡ false
not_utf8 path fails = false_from_ne_true _ (λ (is : is_utf8 path ≡ true). fails (IsUtf8-from_is_utf8 path is))

-- ---- what files say

pub fills_as : (k other : Files) (folder : List ℕ) (r f : Row) → ((p : List ℕ) → k p ≡ other p) → FillsRow k folder r f → FillsRow other folder r f
unfolding FillsRow
fills_as k other folder r f same = from r.file where
  from : (file : Option (List ℕ)) → FillsFrom k folder r f file → FillsFrom other folder r f file
  from None h = h
  from (Some path) h =
      (h.0, ((h.1.0.0, (subst (λ o. FileIsRead o MOST_SECRET (Ok h.1.0.0)) (same (placed folder path)) h.1.0.1.0, h.1.0.1.1)), h.1.1))

pub wants_as : (k other : Files) (path : List ℕ) (i : ℕ) (fault : StartFault) → ((p : List ℕ) → k p ≡ other p) → FillingFails k path i fault → FillingFails other path i fault
wants_as k other path i (faults.NoFile j) same h = (h.0, ⊎_elim (λ untold. inl untold) (λ read. inr (subst (λ o. FileIsRead o MOST_SECRET (Err inputs.ReadFailed)) (same path) read)) h.1)
wants_as k other path i (faults.NoSecret j) same h =
    (h.0, ⊎_elim (λ long. inl (subst (λ o. FileIsRead o MOST_SECRET (Err inputs.TooLong)) (same path) long)) (λ read. inr (read.0, (subst (λ o. FileIsRead o MOST_SECRET (Ok read.0)) (same path) read.1.0, read.1.1))) h.1)
wants_as k other path i (faults.Inventory why) same h = absurd h
wants_as k other path i faults.NoMargin same h = absurd h
wants_as k other path i faults.SmallMargin same h = absurd h
wants_as k other path i (faults.NoCredential j) same h = absurd h
wants_as k other path i (faults.Together why) same h = absurd h
wants_as k other path i faults.OutOfMemory same h = absurd h

pub cannot_as : (k other : Files) (folder : List ℕ) (i : ℕ) (r : Row) (fault : StartFault) → ((p : List ℕ) → k p ≡ other p) → CannotFill k folder i r fault → CannotFill other folder i r fault
unfolding CannotFill
cannot_as k other folder i r fault same h = (h.0, (h.1.0, wants_as k other (placed folder h.0) i fault same h.1.1))

-- ---- rows, one after another

-- those before i are filled, by files that still say what they said at the start
pub record FilledSoFar (k now : Files) (folder : List ℕ) (rows done : List Row) (i : ℕ) : Type 0 where
  pub all : (later : List Row) → AreFilled k folder (drop i rows) later → AreFilled k folder rows (done ++ later)
  pub first : (fault : StartFault) → FirstUnfilled k folder i (drop i rows) fault → FirstUnfilled k folder 0 rows fault
  pub same : (path : List ℕ) → now path ≡ k path

pub filled_none : (k : Files) (folder : List ℕ) (rows done : List Row) → done ≡ [] → FilledSoFar k k folder rows done 0
filled_none k folder rows done none = subst (λ (fs : List Row). FilledSoFar k k folder rows fs 0) (sym none) (record { all = λ later are. are; first = λ fault is. is; same = λ path. refl })

pub filled_more : (k now after : Files) (folder : List ℕ) (rows done : List Row) (i : ℕ) (r f : Row) → FilledSoFar k now folder rows done i → drop i rows ≡ r ∷ drop (i + 1) rows → FillsRow now folder r f →
    ((path : List ℕ) → after path ≡ now path) → FilledSoFar k after folder rows (done ++ f ∷ []) (i + 1)
filled_more k now after folder rows done i r f so here fills same = let filled = fills_as now k folder r f so.same fills in record {
  all = λ later are.
      subst (AreFilled k folder rows) (sym (append_assoc done (f ∷ []) later)) (so.all (f ∷ later) (subst (λ rs. AreFilled k folder rs (f ∷ later)) (sym here) (filled, are)));
  first = λ fault is. so.first fault (subst (λ rs. FirstUnfilled k folder i rs fault) (sym here) (inr (f, (filled, is))));
  same = λ path. same path ∙ so.same path;
}

pub filled_not : (k now : Files) (folder : List ℕ) (rows done : List Row) (i : ℕ) (r : Row) (fault : StartFault) → FilledSoFar k now folder rows done i → drop i rows ≡ r ∷ drop (i + 1) rows → CannotFill now folder i r fault → FirstUnfilled k folder 0 rows fault
filled_not k now folder rows done i r fault so here cannot = so.first fault (subst (λ rs. FirstUnfilled k folder i rs fault) (sym here) (inl (cannot_as now k folder i r fault so.same cannot)))

-- that one cannot be filled is handed on
pub handed_on : {X : Type 0} (k now : Files) (folder : List ℕ) (rows done : List Row) (i : ℕ) (r : Row) (fault : StartFault) (result : Result X StartFault) → FilledSoFar k now folder rows done i → drop i rows ≡ r ∷ drop (i + 1) rows →
    (fault ≡ faults.OutOfMemory) ⊎ CannotFill now folder i r fault → IsErr result × IsErrAnd result (λ e. e ≡ fault) → IfErr result (λ e. (e ≡ faults.OutOfMemory) ⊎ FirstUnfilled k folder 0 rows e)
handed_on k now folder rows done i r fault (Ok x) so here why is = tt
handed_on k now folder rows done i r fault (Err e) so here (inl memory) is = inl (is.1 ∙ memory)
handed_on k now folder rows done i r fault (Err e) so here (inr cannot) is = inr (subst (FirstUnfilled k folder 0 rows) (sym is.1) (filled_not k now folder rows done i r fault so here cannot))

pub filled_all : (k now : Files) (folder : List ℕ) (rows done : List Row) (i : ℕ) → FilledSoFar k now folder rows done i → drop i rows ≡ [] → AreFilled k folder rows done
filled_all k now folder rows done i so none = subst (AreFilled k folder rows) (append-nil done) (so.all [] (subst (λ rs. AreFilled k folder rs []) (sym none) tt))
