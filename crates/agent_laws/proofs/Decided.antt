-- Decided: what is decided hangs on which credentials are equal. For `no_credential_decides`.
use Rattle.std.proofs.Common.{◌≡◌, ◌∙◌, ℕ, zero, suc, ◌+◌, ◌++◌, Bool, true, false, not, cond, ◌&&◌, ◌||◌, List, [], ◌∷◌, Option, Some, None, Result, Ok, Err, ap, bytes_eq, filter, is_none, is_some, length, map, nat_le, nat_lt, refl, sym}
use Rattle.std.specs.Bool.{beq}
use Rattle.std.specs.List.{AllZip, find, list_any}
use Rattle.std.specs.Prelude.{option_map}
use Rattle.plan_forest.specs.{Push.first_met, Push.is_lease, declared.forest.TheConstants.MAX_DEPTH, declared.forest.TheConstants.MAX_ENTRIES}
use Rattle.vault_inventory.specs.Terms.{step_of}
use Rattle.state_changes.specs.{Secrets.is_of, Secrets.taken_from, declared.change.Change.Change, declared.change.Record.Record, declared.change.ChangeKind.ChangeKind, declared.fault.ChangeFault.ChangeFault, declared.replaying.File.File}
use Rattle.state_changes.specs.{declared.replaying.NotMadeReason.TheVariants.FileWins, declared.row.Row.Row, declared.secret.Secret.Secret}
use Rattle.state_changes.specs.Changes.{change_refusal, is_added, never_refuses, refusal_of_entry, refused_credential, refused_drop, refused_row, rows_changed, rows_unless, rows_with_change}
use Rattle.state_changes.specs.Replay.{ReplayState, holds, holds_of, is_as_then, made, made_with, overruled, replay_begun, replay_from, replay_step, replayed}
use Rattle.state_changes.specs.Rows.{has_under, holds_of_parent, is_deep, is_lease_if, is_row_named, is_row_under_lease, is_taken, is_under, named, row_lacks_parent, with_named, without_row}
use Rattle.state_changes.specs.declared.change.Record.TheVariants.{Made, Settling}
use Rattle.state_changes.specs.declared.fault.ChangeFault.TheVariants.{CredentialTwice, Full, HasUnder, InFile, NameTwice, NoParent, ParentIsLease, StepTooSmall, TooDeep}
use Rattle.state_changes.specs.declared.change.ChangeKind.TheVariants as what
use Rattle.state_secrets.specs.{Looking.is_held, declared.looking.DueFile.DueFile}
use Rattle.state_secrets.specs.Outcomes.{has_it, is_credential_of, names_file, secrets_with, stays}
use Rattle.state_store.specs.Handed.{all_filled, all_ready, filled, filled_from, filled_with, handed, holds_if_parent, if_there, is_ready}
use Rattle.agent_ledger.specs.declared.secret_changes.TheConstants.{ALWAYS_FIT}
use Rattle.agent_ledger.specs.Shared.{has_of_kind, is_any_shared, may_be_apart}
use Rattle.agent_ledger.specs.Takings.{brings_others, has_credential, is_anothers, may_be_anothers}
use Rattle.agent_laws.specs.Decided.{IsFileBeside, IsPairing, IsRecordBeside, made_beside, row_beside, rows_beside, secret_beside, secrets_beside, what_beside}

-- ---- lists with something beside each element

module _ {X : Type 0} (f : X → X) (p q : X → Bool) (same : (x : X) → q (f x) ≡ p x) where
  found : (xs : List X) → find q (map f xs) ≡ option_map f (find p xs)
  found [] = refl
  found (x ∷ xs) =
      ap (λ b. cond b (Some (f x)) (find q (map f xs))) (same x)
      ∙ elim (p x) as (λ b. cond b (Some (f x)) (find q (map f xs)) ≡ option_map f (cond b (Some x) (find p xs))) [ true ↦ refl | false ↦ found xs ]

  kept : (xs : List X) → filter q (map f xs) ≡ map f (filter p xs)
  kept [] = refl
  kept (x ∷ xs) =
      ap (λ b. cond b (f x ∷ filter q (map f xs)) (filter q (map f xs))) (same x)
      ∙ elim (p x) as (λ b. cond b (f x ∷ filter q (map f xs)) (filter q (map f xs)) ≡ map f (cond b (x ∷ filter p xs) (filter p xs))) [
        | true ↦ ap (λ (l : List X). f x ∷ l) (kept xs)
        | false ↦ kept xs
      ]

  any : (xs : List X) → list_any q (map f xs) ≡ list_any p xs
  any [] = refl
  any (x ∷ xs) = ap (λ b. b || list_any q (map f xs)) (same x) ∙ ap (λ b. p x || b) (any xs)

pushed : {X : Type 0} (f : X → X) (xs : List X) (x : X) → map f (xs ++ x ∷ []) ≡ map f xs ++ f x ∷ []
pushed f [] x = refl
pushed f (y ∷ xs) x = ap (λ l. f y ∷ l) (pushed f xs x)

as_long : {X : Type 0} (f : X → X) (xs : List X) → length (map f xs) ≡ length xs
as_long f [] = refl
as_long f (x ∷ xs) = ap (λ (n : ℕ). suc n) (as_long f xs)

some_same : {X : Type 0} (f : X → X) (o : Option X) → is_some (option_map f o) ≡ is_some o
some_same f None = refl
some_same f (Some x) = refl

none_same : {X : Type 0} (f : X → X) (o : Option X) → is_none (option_map f o) ≡ is_none o
none_same f None = refl
none_same f (Some x) = refl

-- ---- entries by name

module _ (beside : List ℕ → List ℕ) where
  pub named_beside : (rows : List Row) (name : List ℕ) → named (rows_beside beside rows) name ≡ option_map (row_beside beside) (named rows name)
  unfolding named
  named_beside rows name = found (row_beside beside) (is_row_named name) (is_row_named name) (λ r. refl) rows

  there : (rows : List Row) (name : List ℕ) → is_some (named (rows_beside beside rows) name) ≡ is_some (named rows name)
  there rows name = ap is_some (named_beside rows name) ∙ some_same (row_beside beside) (named rows name)

  lacks : (rows : List Row) (p : Option (List ℕ)) → row_lacks_parent (rows_beside beside rows) p ≡ row_lacks_parent rows p
  lacks rows None = refl
  lacks rows (Some name) = ap is_none (named_beside rows name) ∙ none_same (row_beside beside) (named rows name)

  lease_same : (o : Option Row) → is_lease_if (option_map (row_beside beside) o) ≡ is_lease_if o
  lease_same None = refl
  lease_same (Some r) = refl

  under_lease : (rows : List Row) (p : Option (List ℕ)) → is_row_under_lease (rows_beside beside rows) p ≡ is_row_under_lease rows p
  under_lease rows None = refl
  under_lease rows (Some name) = ap is_lease_if (named_beside rows name) ∙ lease_same (named rows name)

  parent_same : (f g : Option (List ℕ) → Bool) → ((p : Option (List ℕ)) → g p ≡ f p) → (o : Option Row) → holds_of_parent g (option_map (row_beside beside) o) ≡ holds_of_parent f o
  parent_same f g same None = refl
  parent_same f g same (Some r) = same r.parent

  deep : (rows : List Row) (n : ℕ) (p : Option (List ℕ)) → is_deep n (rows_beside beside rows) p ≡ is_deep n rows p
  unfolding is_deep
  deep rows zero p = refl
  deep rows (suc n) None = refl
  deep rows (suc n) (Some name) =
      ap (holds_of_parent (is_deep n (rows_beside beside rows))) (named_beside rows name) ∙ parent_same (is_deep n rows) (is_deep n (rows_beside beside rows)) (deep rows n) (named rows name)

  under : (rows : List Row) (name : List ℕ) → has_under (rows_beside beside rows) name ≡ has_under rows name
  unfolding has_under
  under rows name = any (row_beside beside) (is_under name) (is_under name) (λ r. refl) rows

  -- ---- what a change makes

  entry_same : (f g : Row → Option ChangeFault) → ((r : Row) → g (row_beside beside r) ≡ f r) → (o : Option Row) → refusal_of_entry g (option_map (row_beside beside) o) ≡ refusal_of_entry f o
  entry_same f g same None = refl
  entry_same f g same (Some r) = same r

  by_entry : (f g : Row → Option ChangeFault) → ((r : Row) → g (row_beside beside r) ≡ f r) → (rows : List Row) (name : List ℕ) →
      refusal_of_entry g (named (rows_beside beside rows) name) ≡ refusal_of_entry f (named rows name)
  by_entry f g same rows name = ap (refusal_of_entry g) (named_beside rows name) ∙ entry_same f g same (named rows name)

  drop_same : (rows : List Row) (r : Row) → refused_drop (rows_beside beside rows) (row_beside beside r) ≡ refused_drop rows r
  drop_same rows r = ap (λ b. cond b (Some HasUnder) None) (under rows r.name)

  with_same : (f g : Row → Row) → ((r : Row) → g (row_beside beside r) ≡ row_beside beside (f r)) → (name : List ℕ) (rows : List Row) →
      with_named g name (rows_beside beside rows) ≡ rows_beside beside (with_named f name rows)
  unfolding with_named
  with_same f g same name [] = refl
  with_same f g same name (r ∷ rows) =
      elim (is_row_named name r) as (λ b.
      cond b (g (row_beside beside r) ∷ rows_beside beside rows) (row_beside beside r ∷ with_named g name (rows_beside beside rows)) ≡ rows_beside beside (cond b (f r ∷ rows) (r ∷ with_named f name rows))) [
        | true ↦ ap (λ (x : Row). x ∷ rows_beside beside rows) (same r)
        | false ↦ ap (λ (l : List Row). row_beside beside r ∷ l) (with_same f g same name rows)
      ]

  without_same : (name : List ℕ) (rows : List Row) → without_row name (rows_beside beside rows) ≡ rows_beside beside (without_row name rows)
  unfolding without_row
  without_same name [] = refl
  without_same name (r ∷ rows) =
      elim (is_row_named name r) as (λ b.
      cond b (rows_beside beside rows) (row_beside beside r ∷ without_row name (rows_beside beside rows)) ≡ rows_beside beside (cond b rows (r ∷ without_row name rows))) [
        | true ↦ refl
        | false ↦ ap (λ (l : List Row). row_beside beside r ∷ l) (without_same name rows)
      ]

  changed_same : (rows : List Row) (name : List ℕ) (w : ChangeKind) → rows_with_change (rows_beside beside rows) name (what_beside beside w) ≡ rows_beside beside (rows_with_change rows name w)
  changed_same rows name (what.Need until) = with_same (λ row. record row { need = until }) (λ row. record row { need = until }) (λ r. refl) name rows
  changed_same rows name (what.Replace credential) = with_same (λ row. record row { credential = credential }) (λ row. record row { credential = beside credential }) (λ r. refl) name rows
  changed_same rows name (what.Add row) = sym (pushed (row_beside beside) rows row)
  changed_same rows name what.Drop = without_same name rows

  unless_same : (rows : List Row) (o : Option ChangeFault) → rows_unless (rows_beside beside rows) o ≡ made_beside beside (rows_unless rows o)
  unless_same rows None = refl
  unless_same rows (Some fault) = refl

  -- ---- what files of credentials have given

  pub taken_same : (secrets : List Secret) (name file : List ℕ) → taken_from (secrets_beside beside secrets) name file ≡ option_map (secret_beside beside) (taken_from secrets name file)
  unfolding taken_from
  taken_same secrets name file = found (secret_beside beside) (is_of name file) (is_of name file) (λ s. refl) secrets

  held_there : (secrets : List Secret) (name file : List ℕ) → is_held (secrets_beside beside secrets) name file ≡ is_held secrets name file
  held_there secrets name file = ap is_some (taken_same secrets name file) ∙ some_same (secret_beside beside) (taken_from secrets name file)

  names_same : (file : List ℕ) (o : Option Row) → names_file (option_map (row_beside beside) o) file ≡ names_file o file
  names_same file None = refl
  names_same file (Some r) = refl

  stays_same : (rows : List Row) (name : List ℕ) (s : Secret) → stays (rows_beside beside rows) name (secret_beside beside s) ≡ stays rows name s
  stays_same rows name s =
      ap (λ b. not (bytes_eq s.name name) && b) (ap (λ (o : Option Row). names_file o s.file) (named_beside rows s.name) ∙ names_same s.file (named rows s.name))

  pub taken : (rows : List Row) (secrets : List Secret) (secret : Secret) →
      secrets_with (rows_beside beside rows) (secrets_beside beside secrets) (secret_beside beside secret) ≡ secrets_beside beside (secrets_with rows secrets secret)
  taken rows secrets secret =
      ap (λ (l : List Secret). l ++ secret_beside beside secret ∷ []) (kept (secret_beside beside) (stays rows secret.name) (stays (rows_beside beside rows) secret.name) (stays_same rows secret.name) secrets)
      ∙ sym (pushed (secret_beside beside) (filter (stays rows secret.name) secrets) secret)

  -- ---- what is served

  with_given : (r : Row) (o : Option Secret) → filled_with (row_beside beside r) (option_map (secret_beside beside) o) ≡ row_beside beside (filled_with r o)
  with_given r None = refl
  with_given r (Some s) = refl

  given_from : (secrets : List Secret) (r : Row) (file : Option (List ℕ)) → filled_from (secrets_beside beside secrets) (row_beside beside r) file ≡ row_beside beside (filled_from secrets r file)
  given_from secrets r None = refl
  given_from secrets r (Some file) = ap (filled_with (row_beside beside r)) (taken_same secrets r.name file) ∙ with_given r (taken_from secrets r.name file)

  filled_same : (secrets : List Secret) (r : Row) → filled (secrets_beside beside secrets) (row_beside beside r) ≡ row_beside beside (filled secrets r)
  unfolding filled
  filled_same secrets r = given_from secrets r r.file

  all_filled_same : (secrets : List Secret) (rows : List Row) → all_filled (secrets_beside beside secrets) (rows_beside beside rows) ≡ rows_beside beside (all_filled secrets rows)
  unfolding all_filled
  all_filled_same secrets [] = refl
  all_filled_same secrets (r ∷ rows) =
      ap (λ (x : Row). x ∷ map (filled (secrets_beside beside secrets)) (rows_beside beside rows)) (filled_same secrets r)
      ∙ ap (λ (l : List Row). row_beside beside (filled secrets r) ∷ l) (all_filled_same secrets rows)

  if_there_same : (f g : Row → Bool) → ((r : Row) → g (row_beside beside r) ≡ f r) → (o : Option Row) → if_there g (option_map (row_beside beside) o) ≡ if_there f o
  if_there_same f g same None = refl
  if_there_same f g same (Some r) = same r

  over_same : (rows : List Row) (f g : Row → Bool) → ((r : Row) → g (row_beside beside r) ≡ f r) → (p : Option (List ℕ)) → holds_if_parent (rows_beside beside rows) g p ≡ holds_if_parent rows f p
  over_same rows f g same None = refl
  over_same rows f g same (Some name) = ap (if_there g) (named_beside rows name) ∙ if_there_same f g same (named rows name)

  ready_same : (rows : List Row) (n : ℕ) (r : Row) → is_ready n (rows_beside beside rows) (row_beside beside r) ≡ is_ready n rows r
  unfolding is_ready
  ready_same rows zero r = refl
  ready_same rows (suc n) r = ap (λ b. is_none r.file && b) (over_same rows (is_ready n rows) (is_ready n (rows_beside beside rows)) (ready_same rows n) r.parent)

  all_ready_same : (rows : List Row) → all_ready (rows_beside beside rows) ≡ rows_beside beside (all_ready rows)
  unfolding all_ready
  all_ready_same rows = kept (row_beside beside) (is_ready MAX_DEPTH rows) (is_ready MAX_DEPTH (rows_beside beside rows)) (ready_same rows MAX_DEPTH) rows

  pub handed_on : (secrets : List Secret) (rows : List Row) → handed (secrets_beside beside secrets) (rows_beside beside rows) ≡ rows_beside beside (handed secrets rows)
  unfolding handed
  handed_on secrets rows = ap all_ready (all_filled_same secrets rows) ∙ all_ready_same (all_filled secrets rows)

  -- ---- where two are equal

  module _ (pairing : IsPairing beside) where
    taken_twice : (rows : List Row) (own : Row) (credential : List ℕ) → is_taken (rows_beside beside rows) (row_beside beside own) (beside credential) ≡ is_taken rows own credential
    unfolding is_taken
    taken_twice rows own credential =
        any (row_beside beside)
        (λ r. not (bytes_eq r.name own.name) && (beq (is_lease r.kind) (is_lease own.kind) && bytes_eq r.credential credential))
        (λ r. not (bytes_eq r.name own.name) && (beq (is_lease r.kind) (is_lease own.kind) && bytes_eq r.credential (beside credential)))
        (λ r. ap (λ b. not (bytes_eq r.name own.name) && (beq (is_lease r.kind) (is_lease own.kind) && b)) (pairing r.credential credential))
        rows

    credential_same : (rows : List Row) (credential : List ℕ) (r : Row) → refused_credential (rows_beside beside rows) (beside credential) (row_beside beside r) ≡ refused_credential rows credential r
    credential_same rows credential r = ap (λ b. cond b (Some CredentialTwice) (cond (is_some r.file) (Some InFile) None)) (taken_twice rows r credential)

    -- the first fault of an entry that is added, by what is so of it
    abbrev first : Bool → Bool → Bool → Bool → Bool → Bool → Bool → Option ChangeFault
    first twice orphan under small far many equal =
        first_met ((twice, NameTwice) ∷ (orphan, NoParent) ∷ (under, ParentIsLease) ∷ (small, StepTooSmall) ∷ (far, TooDeep) ∷ (many, Full) ∷ (equal, CredentialTwice) ∷ [])

    first_same : (a b c d e f g k l m n o p : Bool) → k ≡ a → l ≡ b → m ≡ c → n ≡ e → o ≡ f → p ≡ g → first k l m d n o p ≡ first a b c d e f g
    first_same a b c d e f g k l m n o p ka lb mc ne fo pg =
        ap (λ x. first x l m d n o p) ka ∙ ap (λ x. first a x m d n o p) lb ∙ ap (λ x. first a b x d n o p) mc ∙ ap (λ x. first a b c d x o p) ne ∙ ap (λ x. first a b c d e x p) fo ∙ ap (λ x. first a b c d e f x) pg

    row_same : (margin : ℕ) (rows : List Row) (r : Row) → refused_row margin (rows_beside beside rows) (row_beside beside r) ≡ refused_row margin rows r
    unfolding refused_row
    row_same margin rows r =
        first_same _ _ _ (nat_lt (step_of r.terms) (margin + 1)) _ _ _ _ _ _ _ _ _ (there rows r.name) (lacks rows r.parent) (under_lease rows r.parent) (deep rows MAX_DEPTH r.parent)
        (ap (λ n. nat_le MAX_ENTRIES n) (as_long (row_beside beside) rows)) (taken_twice rows r r.credential)

    pub refused : (margin : ℕ) (rows : List Row) (name : List ℕ) (w : ChangeKind) → change_refusal margin (rows_beside beside rows) name (what_beside beside w) ≡ change_refusal margin rows name w
    unfolding change_refusal
    refused margin rows name (what.Need until) = by_entry never_refuses never_refuses (λ r. refl) rows name
    refused margin rows name (what.Replace credential) = by_entry (refused_credential rows credential) (refused_credential (rows_beside beside rows) (beside credential)) (credential_same rows credential) rows name
    refused margin rows name (what.Add row) = row_same margin rows row
    refused margin rows name what.Drop = by_entry (refused_drop rows) (refused_drop (rows_beside beside rows)) (drop_same rows) rows name

    pub made_so : (margin : ℕ) (rows : List Row) (name : List ℕ) (w : ChangeKind) → rows_changed margin (rows_beside beside rows) name (what_beside beside w) ≡ made_beside beside (rows_changed margin rows name w)
    unfolding rows_changed
    made_so margin rows name w =
        ap (rows_unless (rows_with_change (rows_beside beside rows) name (what_beside beside w))) (refused margin rows name w)
        ∙ ap (λ (l : List Row). rows_unless l (change_refusal margin rows name w)) (changed_same rows name w)
        ∙ unless_same (rows_with_change rows name w) (change_refusal margin rows name w)

    of_secret : (credential : List ℕ) (o : Option Secret) → is_credential_of (beside credential) (option_map (secret_beside beside) o) ≡ is_credential_of credential o
    of_secret credential None = refl
    of_secret credential (Some s) = pairing s.credential credential

    pub held : (secrets : List Secret) (name file credential : List ℕ) → has_it (secrets_beside beside secrets) name file (beside credential) ≡ has_it secrets name file credential
    held secrets name file credential = ap (is_credential_of (beside credential)) (taken_same secrets name file) ∙ of_secret credential (taken_from secrets name file)

    has_same : (secrets : List Secret) (credential : List ℕ) (r : Row) (file : Option (List ℕ)) →
        has_credential (secrets_beside beside secrets) (beside credential) (row_beside beside r) file ≡ has_credential secrets credential r file
    has_same secrets credential r None = pairing r.credential credential
    has_same secrets credential r (Some file) = held secrets r.name file credential

    anothers_same : (secrets : List Secret) (rows : List Row) (credential : List ℕ) (own : Row) →
        is_anothers (secrets_beside beside secrets) (rows_beside beside rows) (beside credential) (row_beside beside own) ≡ is_anothers secrets rows credential own
    anothers_same secrets rows credential own =
        any (row_beside beside)
        (λ r. not (bytes_eq r.name own.name) && (beq (is_lease r.kind) (is_lease own.kind) && has_credential secrets credential r r.file))
        (λ r. not (bytes_eq r.name own.name) && (beq (is_lease r.kind) (is_lease own.kind) && has_credential (secrets_beside beside secrets) (beside credential) r r.file))
        (λ r. ap (λ b. not (bytes_eq r.name own.name) && (beq (is_lease r.kind) (is_lease own.kind) && b)) (has_same secrets credential r r.file))
        rows

    brings_same : (secrets : List Secret) (rows : List Row) (due : DueFile) → brings_others (secrets_beside beside secrets) (rows_beside beside rows) due ≡ brings_others secrets rows due
    brings_same secrets rows due =
        ap (λ b. not b && has_under (rows_beside beside rows) due.name) (held_there secrets due.name due.file) ∙ ap (λ b. not (is_held secrets due.name due.file) && b) (under rows due.name)

    anothers_of : (secrets : List Secret) (rows : List Row) (due : DueFile) (credential : List ℕ) (o : Option Row) →
        may_be_anothers (secrets_beside beside secrets) (rows_beside beside rows) due (beside credential) (option_map (row_beside beside) o) ≡ may_be_anothers secrets rows due credential o
    anothers_of secrets rows due credential None = refl
    anothers_of secrets rows due credential (Some own) =
        ap (λ b. b || brings_others (secrets_beside beside secrets) (rows_beside beside rows) due) (anothers_same secrets rows credential own)
        ∙ ap (λ b. is_anothers secrets rows credential own || b) (brings_same secrets rows due)

    pub anothers : (secrets : List Secret) (rows : List Row) (due : DueFile) (credential : List ℕ) →
        may_be_anothers (secrets_beside beside secrets) (rows_beside beside rows) due (beside credential) (named (rows_beside beside rows) due.name) ≡ may_be_anothers secrets rows due credential (named rows due.name)
    anothers secrets rows due credential =
        ap (may_be_anothers (secrets_beside beside secrets) (rows_beside beside rows) due (beside credential)) (named_beside rows due.name) ∙ anothers_of secrets rows due credential (named rows due.name)

    shared_same : (rows : List Row) → is_any_shared (rows_beside beside rows) ≡ is_any_shared rows
    unfolding is_any_shared
    shared_same [] = refl
    shared_same (r ∷ rows) =
        ap (λ b. b || list_any (has_of_kind (is_lease r.kind) (beside r.credential)) (rows_beside beside rows)) (shared_same rows)
        ∙ ap (λ b. is_any_shared rows || b)
        (any (row_beside beside) (has_of_kind (is_lease r.kind) r.credential) (has_of_kind (is_lease r.kind) (beside r.credential))
        (λ x. ap (λ b. beq (is_lease x.kind) (is_lease r.kind) && b) (pairing x.credential r.credential)) rows)

    pub apart : (rows : List Row) → may_be_apart (rows_beside beside rows) ≡ may_be_apart rows
    unfolding may_be_apart
    apart rows =
        ap (λ n. nat_lt ALWAYS_FIT n || is_any_shared (rows_beside beside rows)) (as_long (row_beside beside) rows) ∙ ap (λ b. nat_lt ALWAYS_FIT (length rows) || b) (shared_same rows)

    -- ---- a journal

    abbrev state_beside : ReplayState → ReplayState
    state_beside s = record { rows = rows_beside beside s.rows; notes = s.notes }

    -- whether an entry, or that there is none, is as a change would make it
    abbrev holds_in : ChangeKind → Option Row → Bool
    holds_in w o = elim o [ None ↦ not (is_added w) | Some row ↦ holds_of row w ]

    holds_same : (w : ChangeKind) (o : Option Row) → holds_in (what_beside beside w) (option_map (row_beside beside) o) ≡ holds_in w o
    holds_same (what.Need until) None = refl
    holds_same (what.Need until) (Some r) = refl
    holds_same (what.Replace credential) None = refl
    holds_same (what.Replace credential) (Some r) = pairing r.credential credential
    holds_same (what.Add row) None = refl
    holds_same (what.Add row) (Some r) = refl
    holds_same what.Drop None = refl
    holds_same what.Drop (Some r) = refl

    holds_beside : (rows : List Row) (c d : Change) → d.name ≡ c.name → d.what ≡ what_beside beside c.what → holds (rows_beside beside rows) d ≡ holds rows c
    unfolding holds
    holds_beside rows c d name w =
        ap (λ (x : ChangeKind). holds_in x (named (rows_beside beside rows) d.name)) w
        ∙ ap (λ (n : List ℕ). holds_in (what_beside beside c.what) (named (rows_beside beside rows) n)) name
        ∙ ap (holds_in (what_beside beside c.what)) (named_beside rows c.name)
        ∙ holds_same c.what (named rows c.name)

    made_with_same : (at : ℕ) (s : ReplayState) (r : Result (List Row) ChangeFault) → made_with at (state_beside s) (made_beside beside r) ≡ state_beside (made_with at s r)
    made_with_same at s (Ok rows) = refl
    made_with_same at s (Err fault) = refl

    module _ (f g : File) (files : IsFileBeside beside f g) where
      made_beside_so : (at : ℕ) (s : ReplayState) (c d : Change) → d.name ≡ c.name → d.what ≡ what_beside beside c.what → made g.margin at (state_beside s) d ≡ state_beside (made f.margin at s c)
      unfolding made
      made_beside_so at s c d name w =
          ap (λ (m : ℕ). made_with at (state_beside s) (rows_changed m (rows_beside beside s.rows) d.name d.what)) files.margin
          ∙ ap (λ (n : List ℕ). made_with at (state_beside s) (rows_changed f.margin (rows_beside beside s.rows) n d.what)) name
          ∙ ap (λ (x : ChangeKind). made_with at (state_beside s) (rows_changed f.margin (rows_beside beside s.rows) c.name x)) w
          ∙ ap (made_with at (state_beside s)) (made_so f.margin s.rows c.name c.what)
          ∙ made_with_same at s (rows_changed f.margin s.rows c.name c.what)

      abbrev overruled_if : ℕ → ReplayState → Bool → ReplayState
      overruled_if at s b = record { rows = s.rows; notes = cond b s.notes (s.notes ++ record { at = at; why = FileWins } ∷ []) }

      overruled_so : (at : ℕ) (s : ReplayState) (c d : Change) → d.name ≡ c.name → d.what ≡ what_beside beside c.what → overruled at (state_beside s) d ≡ state_beside (overruled at s c)
      unfolding overruled
      overruled_so at s c d name w = ap (overruled_if at (state_beside s)) (holds_beside s.rows c d name w)

      abbrev begun_with : List Row → ReplayState
      begun_with rows = record { rows = rows; notes = [] }

      begun_so : replay_begun g ≡ state_beside (replay_begun f)
      begun_so = ap begun_with files.rows

      step_so : (at : ℕ) (s : ReplayState) (r t : Record) → IsRecordBeside beside f g r t → replay_step g at (state_beside s) t ≡ state_beside (replay_step f at s r)
      step_so at s (Made c) (Made d) h =
          ap (λ b. cond b (made g.margin at (state_beside s) d) (overruled at (state_beside s) d)) h.1.1
          ∙ elim (is_as_then f.rows c) as (λ b. cond b (made g.margin at (state_beside s) d) (overruled at (state_beside s) d) ≡ state_beside (cond b (made f.margin at s c) (overruled at s c))) [
            | true ↦ made_beside_so at s c d h.0 h.1.0
            | false ↦ overruled_so at s c d h.0 h.1.0
          ]
      step_so at s (Settling mark) (Settling other) h =
          ap (λ b. cond b (replay_begun g) (state_beside s)) h
          ∙ elim (bytes_eq mark f.mark) as (λ b. cond b (replay_begun g) (state_beside s) ≡ state_beside (cond b (replay_begun f) s)) [ true ↦ begun_so | false ↦ refl ]
      step_so at s _ _ h = absurd h

      from_so : (at : ℕ) (s : ReplayState) (records others : List Record) → AllZip (IsRecordBeside beside f g) records others → replay_from g at (state_beside s) others ≡ state_beside (replay_from f at s records)
      from_so at s [] [] zip = refl
      from_so at s (r ∷ rs) (t ∷ ts) zip = ap (λ (x : ReplayState). replay_from g (at + 1) x ts) (step_so at s r t zip.0) ∙ from_so (at + 1) (replay_step f at s r) rs ts zip.1
      from_so at s _ _ zip = absurd zip

      pub replayed_so : (records others : List Record) → AllZip (IsRecordBeside beside f g) records others → replayed g others ≡ state_beside (replayed f records)
      unfolding replayed
      replayed_so records others zip = ap (λ (s : ReplayState). replay_from g 0 s others) begun_so ∙ from_so 0 (replay_begun f) records others zip
