-- Holders: another entry has a credential as its own, or it is what is held of that entry's file. For `is_anothers`.
use Rattle.std.proofs.Common.{◌≡◌, ◌∙◌, ◌⊎◌, ℕ, ◌<◌, Bool, true, false, cond, not, ◌&&◌, ◌||◌, List, [], ◌∷◌, Option, Some, None, bytes_eq, find, get_or, is_none, length, refl, sym, ap, inl, inr, true≢false}
use Rattle.std.proofs.lemmas.List.Folds.{Any-from_list_any, list_any-from_Any}
use Rattle.std.proofs.lemmas.Bool.{and_from, and_parts, or_left, or_right}
use Rattle.std.specs.{Bool.beq, Cmp.Lexicographic.bytes_decides, List.list_any}
use Rattle.plan_forest.specs.Push.{is_lease}
use Rattle.state_changes.specs.{declared.row.Row.Row, Secrets.is_of, Secrets.taken_from, declared.secret.Secret.Secret}
use Rattle.state_secrets.specs.Outcomes.{has_it, is_credential_of, is_own_file}
use Rattle.agent_ledger.specs.Takings.{has_credential, is_anothers}
use Rattle.agent_ledger.specs.code.Holders.{is_for, is_for_another, is_other, is_others_by_file, is_others_own}

same_answer : (a b : Bool) → (a ≡ true → b ≡ true) → (b ≡ true → a ≡ true) → a ≡ b
same_answer true b there back = sym (there refl)
same_answer false true there back = back refl
same_answer false false there back = refl

module _ {X : Type 0} (p : X → Bool) where
  passes_by : (b : Bool) (x s : X) (rest : Option X) → p x ≡ b → (rest ≡ Some s → p s ≡ true) → cond b (Some x) rest ≡ Some s → p s ≡ true
  passes_by true x s rest is more e = let same : x ≡ s = cc in ap p (sym same) ∙ is
  passes_by false x s rest is more e = more e

  -- what is found passes
  found_passes : (xs : List X) (s : X) → find p xs ≡ Some s → p s ≡ true
  found_passes [] s e = cc
  found_passes (x ∷ xs) s e = passes_by (p x) x s (find p xs) refl (found_passes xs s) e

  module _ (q : X → Bool) where
    any_by : (b : Bool) (x s : X) (xs : List X) → q s ≡ true → (find p xs ≡ Some s → list_any q xs ≡ true) → cond b (Some x) (find p xs) ≡ Some s → (q x || list_any q xs) ≡ true
    any_by true x s xs is more e = let same : x ≡ s = cc in or_left (q x) (list_any q xs) (ap q same ∙ is)
    any_by false x s xs is more e = or_right (q x) (list_any q xs) (more e)

    -- and it is one of them
    found_any : (xs : List X) (s : X) → q s ≡ true → find p xs ≡ Some s → list_any q xs ≡ true
    found_any [] s is e = cc
    found_any (x ∷ xs) s is e = any_by (p x) x s xs is (found_any xs s is) e

module _ (secrets : List Secret) (rows : List Row) (credential : List ℕ) (own : Row) where
  abbrev has_now : Row → Bool
  has_now = λ row. has_credential secrets credential row row.file

  abbrev is_another_with : Row → Bool
  is_another_with = λ row. not (bytes_eq row.name own.name) && (beq (is_lease row.kind) (is_lease own.kind) && has_now row)

  abbrev is_another_own : Row → Bool
  is_another_own = λ row. is_other own row && (is_none row.file && bytes_eq row.credential credential)

  abbrev is_another_for : Secret → Row → Bool
  is_another_for secret = λ row. is_other own row && is_for secret row

  abbrev is_held_for : Secret → Bool
  is_held_for = λ secret. bytes_eq secret.credential credential && (has_it secrets secret.name secret.file credential && is_for_another rows own secret)

  -- ---- an entry that has it is found

  by_file : (row : Row) (at : ℕ) → at < length rows → get_or rows at row ≡ row → is_other own row ≡ true → (file : List ℕ) → row.file ≡ Some file
      → (held : Option Secret) → taken_from secrets row.name file ≡ held → is_credential_of credential held ≡ true → is_others_by_file secrets rows credential own ≡ true
  unfolding taken_from
  by_file row at within there other file names None held is = cc
  by_file row at within there other file names (Some s) held is =
      let parts = and_parts (bytes_eq s.name row.name) (bytes_eq s.file file) (found_passes (is_of row.name file) secrets s held) in
      let named : s.name ≡ row.name = (bytes_decides s.name row.name).0 parts.0 in
      let filed : s.file ≡ file = (bytes_decides s.file file).0 parts.1 in
      let has : has_it secrets s.name s.file credential ≡ true =
      ap (λ n. has_it secrets n s.file credential) named ∙ ap (λ f. has_it secrets row.name f credential) filed ∙ ap (is_credential_of credential) held ∙ is in
      let its : is_for s row ≡ true =
      and_from (bytes_eq row.name s.name) (is_own_file row.file s.file) ((bytes_decides row.name s.name).1 (sym named))
      (ap (λ (f : Option (List ℕ)). is_own_file f s.file) names ∙ (bytes_decides file s.file).1 (sym filed)) in
      let another : is_for_another rows own s ≡ true =
      list_any-from_Any (is_another_for s) rows (at, row, within, there, and_from (is_other own row) (is_for s row) other its) in
      found_any (is_of row.name file) is_held_for secrets s
      (and_from (bytes_eq s.credential credential) (has_it secrets s.name s.file credential && is_for_another rows own s) is
      (and_from (has_it secrets s.name s.file credential) (is_for_another rows own s) has another)) held

  by_either : (row : Row) (at : ℕ) → at < length rows → get_or rows at row ≡ row → is_other own row ≡ true → (file : Option (List ℕ)) → row.file ≡ file → has_credential secrets credential row file ≡ true
      → (is_others_own rows credential own ≡ true) ⊎ (is_others_by_file secrets rows credential own ≡ true)
  by_either row at within there other None none has =
      inl (list_any-from_Any is_another_own rows
      (at, row, within, there, and_from (is_other own row) (is_none row.file && bytes_eq row.credential credential) other (and_from (is_none row.file) (bytes_eq row.credential credential) (ap is_none none) has)))
  by_either row at within there other (Some file) names has = inr (by_file row at within there other file names (taken_from secrets row.name file) refl has)

  found_by : is_anothers secrets rows credential own ≡ true → (is_others_own rows credential own ≡ true) ⊎ (is_others_by_file secrets rows credential own ≡ true)
  found_by h =
      let one = Any-from_list_any is_another_with rows h in
      let row = one.1 in
      let first = and_parts (not (bytes_eq row.name own.name)) (beq (is_lease row.kind) (is_lease own.kind) && has_now row) one.4 in
      let second = and_parts (beq (is_lease row.kind) (is_lease own.kind)) (has_now row) first.1 in
      by_either row one.0 one.2 one.3 (and_from (not (bytes_eq row.name own.name)) (beq (is_lease row.kind) (is_lease own.kind)) first.0 second.0) row.file refl second.1

  -- ---- what is found is an entry that has it

  has_own : (row : Row) (file : Option (List ℕ)) → is_none file ≡ true → bytes_eq row.credential credential ≡ true → has_credential secrets credential row file ≡ true
  has_own row None none is = is
  has_own row (Some file) none is = cc

  has_held : (row : Row) (s : Secret) → bytes_eq row.name s.name ≡ true → has_it secrets s.name s.file credential ≡ true → (file : Option (List ℕ)) → is_own_file file s.file ≡ true
      → has_credential secrets credential row file ≡ true
  has_held row s named has None is = cc
  has_held row s named has (Some file) is =
      ap (λ n. has_it secrets n file credential) ((bytes_decides row.name s.name).0 named) ∙ ap (λ f. has_it secrets s.name f credential) ((bytes_decides file s.file).0 is) ∙ has

  has_at : (row : Row) (at : ℕ) → at < length rows → get_or rows at row ≡ row → is_other own row ≡ true → has_now row ≡ true → is_anothers secrets rows credential own ≡ true
  has_at row at within there other has =
      let parts = and_parts (not (bytes_eq row.name own.name)) (beq (is_lease row.kind) (is_lease own.kind)) other in
      list_any-from_Any is_another_with rows
      (at, row, within, there, and_from (not (bytes_eq row.name own.name)) (beq (is_lease row.kind) (is_lease own.kind) && has_now row) parts.0 (and_from (beq (is_lease row.kind) (is_lease own.kind)) (has_now row) parts.1 has))

  -- as its own
  pub own_is : is_others_own rows credential own ≡ true → is_anothers secrets rows credential own ≡ true
  own_is h =
      let one = Any-from_list_any is_another_own rows h in
      let row = one.1 in
      let parts = and_parts (is_other own row) (is_none row.file && bytes_eq row.credential credential) one.4 in
      let has = and_parts (is_none row.file) (bytes_eq row.credential credential) parts.1 in
      has_at row one.0 one.2 one.3 parts.0 (has_own row row.file has.0 has.1)

  file_is : is_others_by_file secrets rows credential own ≡ true → is_anothers secrets rows credential own ≡ true
  file_is h =
      let held = Any-from_list_any is_held_for secrets h in
      let s = held.1 in
      let parts = and_parts (bytes_eq s.credential credential) (has_it secrets s.name s.file credential && is_for_another rows own s) held.4 in
      let more = and_parts (has_it secrets s.name s.file credential) (is_for_another rows own s) parts.1 in
      let one = Any-from_list_any (is_another_for s) rows more.1 in
      let row = one.1 in
      let both = and_parts (is_other own row) (is_for s row) one.4 in
      let its = and_parts (bytes_eq row.name s.name) (is_own_file row.file s.file) both.1 in
      has_at row one.0 one.2 one.3 both.0 (has_held row s its.0 more.0 row.file its.1)

  not_own : is_others_own rows credential own ≡ false → (is_others_own rows credential own ≡ true) ⊎ (is_others_by_file secrets rows credential own ≡ true) → is_others_by_file secrets rows credential own ≡ true
  not_own none (inl is) = absurd (true≢false (sym is ∙ none))
  not_own none (inr is) = is

  -- and where none has it as its own, by its file
  pub else_by_file : is_others_own rows credential own ≡ false → is_others_by_file secrets rows credential own ≡ is_anothers secrets rows credential own
  else_by_file none = same_answer (is_others_by_file secrets rows credential own) (is_anothers secrets rows credential own) file_is (λ h. not_own none (found_by h))
