-- A need counts for nothing but itself: so the rows of a replay in which one is left out that is given again differ, up to there,
-- in that need alone, and from there on in nothing.
use Rattle.std.proofs.Common.{◌≡◌, ℕ, zero, suc, ◌+◌, inl, inr, Bool, true, false, cond, ◌&&◌, ◌||◌, not, List, [], ◌∷◌, ◌++◌, length, Option, Some, None, option_map, is_some, is_none, bytes_eq, unwrap_or, refl, sym, ap, ◌∙◌, subst}
use Rattle.std.proofs.lemmas.Bool.{and_parts, cases_Bool, cond-true, cond-false}
use Rattle.std.specs.{Bool.beq, Cmp.Lexicographic.bytes_decides, List.find, List.list_any}
use Rattle.plan_forest.specs.{declared.forest.TheConstants.MAX_DEPTH, Push.is_lease}
use Rattle.vault_inventory.specs.{declared.need.Need.Need, declared.need.Need.TheVariants.Always}
use Rattle.state_changes.specs.{declared.change.Change.Change, declared.change.Record.Record, declared.change.ChangeKind.ChangeKind, declared.fault.ChangeFault.ChangeFault, declared.row.Row.Row, declared.replaying.File.File}
use Rattle.state_changes.specs.{Laws.CompactedLaw, Said.said}
use Rattle.state_changes.specs.declared.change.Record.TheVariants.{Made, Settling}
use Rattle.state_changes.specs.declared.fault.ChangeFault.TheVariants.{NoEntry, CredentialTwice, InFile, HasUnder}
use Rattle.state_changes.specs.Changes.{change_refusal, never_refuses, refusal_of_entry, refused_credential, refused_drop, refused_row, rows_changed, rows_unless, rows_with_change}
use Rattle.state_changes.specs.Compaction.{compacted, is_need, is_need_of, is_void, records_kept, voids}
use Rattle.state_changes.specs.Replay.{ReplayState, is_as_then, made, made_with, overruled, replay_begun, replay_from, replay_step, replayed}
use Rattle.state_changes.specs.Rows.{has_under, holds_of_parent, is_deep, is_lease_if, is_row_named, is_row_under_lease, is_taken, is_under, named, row_lacks_parent, with_named, without_row}
use Rattle.state_changes.specs.declared.change.ChangeKind.TheVariants as what

-- ---- the rows of a replay, apart from its notes

abbrev settled : Option ChangeFault → List Row → List Row → List Row
settled None rows new = new
settled (Some fault) rows new = rows

-- the rows after a change, or as they were
abbrev made_rows : ℕ → List Row → List ℕ → ChangeKind → List Row
made_rows margin rows name w = settled (change_refusal margin rows name w) rows (rows_with_change rows name w)

abbrev next : File → List Row → Record → List Row
next f rows (Settling mark) = cond (bytes_eq mark f.mark) f.rows rows
next f rows (Made c) = cond (is_as_then f.rows c) (made_rows f.margin rows c.name c.what) rows

abbrev all : File → List Row → List Record → List Row
all f rows [] = rows
all f rows (r ∷ rs) = all f (next f rows r) rs

made_by : (at : ℕ) (s : ReplayState) (new : List Row) (o : Option ChangeFault) → (made_with at s (rows_unless new o)).rows ≡ settled o s.rows new
made_by at s new None = refl
made_by at s new (Some fault) = refl

made_is : (margin at : ℕ) (s : ReplayState) (c : Change) → (made margin at s c).rows ≡ made_rows margin s.rows c.name c.what
unfolding made rows_changed
made_is margin at s c = made_by at s (rows_with_change s.rows c.name c.what) (change_refusal margin s.rows c.name c.what)

overruled_is : (at : ℕ) (s : ReplayState) (c : Change) → (overruled at s c).rows ≡ s.rows
unfolding overruled
overruled_is at s c = refl

chosen_rows : (b : Bool) (s t : ReplayState) → (cond b s t).rows ≡ cond b s.rows t.rows
chosen_rows true s t = refl
chosen_rows false s t = refl

step_rows : (f : File) (at : ℕ) (s : ReplayState) (r : Record) → (replay_step f at s r).rows ≡ next f s.rows r
step_rows f at s (Settling mark) = chosen_rows (bytes_eq mark f.mark) (replay_begun f) s
step_rows f at s (Made c) =
    chosen_rows (is_as_then f.rows c) (made f.margin at s c) (overruled at s c)
    ∙ ap (λ rows. cond (is_as_then f.rows c) rows (overruled at s c).rows) (made_is f.margin at s c)
    ∙ ap (λ rows. cond (is_as_then f.rows c) (made_rows f.margin s.rows c.name c.what) rows) (overruled_is at s c)

replay_rows : (f : File) (rs : List Record) (at : ℕ) (s : ReplayState) → (replay_from f at s rs).rows ≡ all f s.rows rs
replay_rows f [] at s = refl
replay_rows f (r ∷ rs) at s = replay_rows f rs (at + 1) (replay_step f at s r) ∙ ap (λ rows. all f rows rs) (step_rows f at s r)

-- ---- rows but for one need

abbrev needed : Need → Row → Row
needed u row = record row { need = u }

-- the rows as if the entry of that name were always needed
abbrev alike : List ℕ → List Row → List Row
alike n rows = with_named (needed Always) n rows

named_yes : (f : Row → Row) (n : List ℕ) (r : Row) (rows : List Row) → is_row_named n r ≡ true → with_named f n (r ∷ rows) ≡ f r ∷ rows
unfolding with_named
named_yes f n r rows e = cond-true (is_row_named n r) (f r ∷ rows) (r ∷ with_named f n rows) e

named_no : (f : Row → Row) (n : List ℕ) (r : Row) (rows : List Row) → is_row_named n r ≡ false → with_named f n (r ∷ rows) ≡ r ∷ with_named f n rows
unfolding with_named
named_no f n r rows e = cond-false (is_row_named n r) (f r ∷ rows) (r ∷ with_named f n rows) e

without_yes : (n : List ℕ) (r : Row) (rows : List Row) → is_row_named n r ≡ true → without_row n (r ∷ rows) ≡ rows
unfolding without_row
without_yes n r rows e = cond-true (is_row_named n r) rows (r ∷ without_row n rows) e

without_no : (n : List ℕ) (r : Row) (rows : List Row) → is_row_named n r ≡ false → without_row n (r ∷ rows) ≡ r ∷ without_row n rows
unfolding without_row
without_no n r rows e = cond-false (is_row_named n r) rows (r ∷ without_row n rows) e

-- the later of two needs counts
twice : (u v : Need) (n : List ℕ) (rows : List Row) → with_named (needed u) n (with_named (needed v) n rows) ≡ with_named (needed u) n rows
unfolding with_named
twice u v n [] = refl
twice u v n (r ∷ rows) =
    elim (cases_Bool (is_row_named n r)) [
      | inl e ↦ simp e refl
      | inr e ↦ simp (e, twice u v n rows) refl
    ]

-- a change of another word, of rows that differ in one need
module _ (n : List ℕ) (f : Row → Row) (m : List ℕ) (named_same : (r : Row) → (f r).name ≡ r.name) (heedless : (r : Row) → needed Always (f (needed Always r)) ≡ needed Always (f r)) where
  still : (k : List ℕ) (r : Row) (b : Bool) → is_row_named k r ≡ b → is_row_named k (f r) ≡ b
  still k r b e = ap (λ name. bytes_eq name k) (named_same r) ∙ e

  with_alike : (rows : List Row) → alike n (with_named f m rows) ≡ alike n (with_named f m (alike n rows))
  unfolding with_named
  with_alike [] = refl
  with_alike (r ∷ rows) =
      elim (cases_Bool (is_row_named n r)) [
        | inl en ↦ elim (cases_Bool (is_row_named m r)) [
          | inl em ↦
              ap (alike n) (named_yes f m r rows em) ∙ named_yes (needed Always) n (f r) rows (still n r true en) ∙ ap (λ x. x ∷ rows) (sym (heedless r))
              ∙ sym (named_yes (needed Always) n (f (needed Always r)) rows (still n (needed Always r) true en))
              ∙ ap (alike n) (sym (named_yes f m (needed Always r) rows em)) ∙ ap (λ l. alike n (with_named f m l)) (sym (named_yes (needed Always) n r rows en))
          | inr em ↦
              ap (alike n) (named_no f m r rows em) ∙ named_yes (needed Always) n r (with_named f m rows) en
              ∙ sym (named_yes (needed Always) n (needed Always r) (with_named f m rows) en)
              ∙ ap (alike n) (sym (named_no f m (needed Always r) rows em)) ∙ ap (λ l. alike n (with_named f m l)) (sym (named_yes (needed Always) n r rows en))
        ]
        | inr en ↦ elim (cases_Bool (is_row_named m r)) [
          | inl em ↦
              ap (alike n) (named_yes f m r rows em) ∙ named_no (needed Always) n (f r) rows (still n r false en)
              ∙ ap (λ l. f r ∷ l) (sym (twice Always Always n rows)) ∙ sym (named_no (needed Always) n (f r) (alike n rows) (still n r false en))
              ∙ ap (alike n) (sym (named_yes f m r (alike n rows) em)) ∙ ap (λ l. alike n (with_named f m l)) (sym (named_no (needed Always) n r rows en))
          | inr em ↦
              ap (alike n) (named_no f m r rows em) ∙ named_no (needed Always) n r (with_named f m rows) en
              ∙ ap (λ l. r ∷ l) (with_alike rows) ∙ sym (named_no (needed Always) n r (with_named f m (alike n rows)) en)
              ∙ ap (alike n) (sym (named_no f m r (alike n rows) em)) ∙ ap (λ l. alike n (with_named f m l)) (sym (named_no (needed Always) n r rows en))
        ]
      ]

without_alike : (n m : List ℕ) (rows : List Row) → alike n (without_row m rows) ≡ alike n (without_row m (alike n rows))
unfolding with_named without_row
without_alike n m [] = refl
without_alike n m (r ∷ rows) =
    elim (cases_Bool (is_row_named n r)) [
      | inl en ↦ elim (cases_Bool (is_row_named m r)) [
        | inl em ↦
            ap (alike n) (without_yes m r rows em)
            ∙ ap (alike n) (sym (without_yes m (needed Always r) rows em)) ∙ ap (λ l. alike n (without_row m l)) (sym (named_yes (needed Always) n r rows en))
        | inr em ↦
            ap (alike n) (without_no m r rows em) ∙ named_yes (needed Always) n r (without_row m rows) en
            ∙ sym (named_yes (needed Always) n (needed Always r) (without_row m rows) en)
            ∙ ap (alike n) (sym (without_no m (needed Always r) rows em)) ∙ ap (λ l. alike n (without_row m l)) (sym (named_yes (needed Always) n r rows en))
      ]
      | inr en ↦ elim (cases_Bool (is_row_named m r)) [
        | inl em ↦
            ap (alike n) (without_yes m r rows em) ∙ sym (twice Always Always n rows)
            ∙ ap (alike n) (sym (without_yes m r (alike n rows) em)) ∙ ap (λ l. alike n (without_row m l)) (sym (named_no (needed Always) n r rows en))
        | inr em ↦
            ap (alike n) (without_no m r rows em) ∙ named_no (needed Always) n r (without_row m rows) en
            ∙ ap (λ l. r ∷ l) (without_alike n m rows) ∙ sym (named_no (needed Always) n r (without_row m (alike n rows)) en)
            ∙ ap (alike n) (sym (without_no m r (alike n rows) em)) ∙ ap (λ l. alike n (without_row m l)) (sym (named_no (needed Always) n r rows en))
      ]
    ]

-- an entry at the end
push_alike : (n : List ℕ) (rows : List Row) (x : Row) → alike n (rows ++ x ∷ []) ≡ alike n (alike n rows ++ x ∷ [])
unfolding with_named
push_alike n [] x = refl
push_alike n (r ∷ rows) x =
    elim (cases_Bool (is_row_named n r)) [
      | inl e ↦
          named_yes (needed Always) n r (rows ++ x ∷ []) e ∙ sym (named_yes (needed Always) n (needed Always r) (rows ++ x ∷ []) e)
          ∙ ap (λ l. alike n (l ++ x ∷ [])) (sym (named_yes (needed Always) n r rows e))
      | inr e ↦
          named_no (needed Always) n r (rows ++ x ∷ []) e ∙ ap (λ l. r ∷ l) (push_alike n rows x) ∙ sym (named_no (needed Always) n r (alike n rows ++ x ∷ []) e)
          ∙ ap (λ l. alike n (l ++ x ∷ [])) (sym (named_no (needed Always) n r rows e))
    ]

after_alike : (n m : List ℕ) (w : ChangeKind) (rows : List Row) → alike n (rows_with_change rows m w) ≡ alike n (rows_with_change (alike n rows) m w)
after_alike n m (what.Need u) rows = with_alike n (needed u) m (λ r. refl) (λ r. refl) rows
after_alike n m (what.Replace c) rows = with_alike n (λ row. record row { credential = c }) m (λ r. refl) (λ r. refl) rows
after_alike n m (what.Add x) rows = push_alike n rows x
after_alike n m what.Drop rows = without_alike n m rows

-- ---- refusals heed no need

-- a test that heeds no need
abbrev IsHeedless : {A : Type 0} → (Row → A) → Type 0
IsHeedless g = (r : Row) (u : Need) → g (record r { need = u }) ≡ g r

any_alike : (n : List ℕ) (test : Row → Bool) → IsHeedless test → (rows : List Row) → list_any test (alike n rows) ≡ list_any test rows
unfolding with_named
any_alike n test h [] = refl
any_alike n test h (r ∷ rows) =
    elim (cases_Bool (is_row_named n r)) [
      | inl e ↦ ap (list_any test) (named_yes (needed Always) n r rows e) ∙ ap (λ b. b || list_any test rows) (h r Always)
      | inr e ↦ ap (list_any test) (named_no (needed Always) n r rows e) ∙ ap (λ b. test r || b) (any_alike n test h rows)
    ]

length_alike : (n : List ℕ) (rows : List Row) → length (alike n rows) ≡ length rows
unfolding with_named
length_alike n [] = refl
length_alike n (r ∷ rows) =
    elim (cases_Bool (is_row_named n r)) [
      | inl e ↦ ap length (named_yes (needed Always) n r rows e)
      | inr e ↦ ap length (named_no (needed Always) n r rows e) ∙ ap (λ k. suc k) (length_alike n rows)
    ]

found_alike : {A : Type 0} (n m : List ℕ) (g : Row → A) → IsHeedless g → (rows : List Row) → option_map g (named (alike n rows) m) ≡ option_map g (named rows m)
unfolding with_named named
found_alike n m g h [] = refl
found_alike n m g h (r ∷ rows) =
    elim (cases_Bool (is_row_named n r)) [
      | inl e ↦
          ap (λ l. option_map g (find (is_row_named m) l)) (named_yes (needed Always) n r rows e)
          ∙ elim (is_row_named m r) as (λ b. option_map g (cond b (Some (needed Always r)) (find (is_row_named m) rows)) ≡ option_map g (cond b (Some r) (find (is_row_named m) rows))) [ true ↦ ap Some (h r Always) | false ↦ refl ]
      | inr e ↦
          ap (λ l. option_map g (find (is_row_named m) l)) (named_no (needed Always) n r rows e)
          ∙ elim (is_row_named m r) as (λ b. option_map g (cond b (Some r) (find (is_row_named m) (alike n rows))) ≡ option_map g (cond b (Some r) (find (is_row_named m) rows))) [ true ↦ refl | false ↦ found_alike n m g h rows ]
    ]

-- what is seen of the entry of a name by such a test alone
seen_alike : {A B : Type 0} (n m : List ℕ) (g : Row → A) → IsHeedless g → (h : Option Row → B) (k : Option A → B) → ((o : Option Row) → h o ≡ k (option_map g o))
    → (rows : List Row) → h (named (alike n rows) m) ≡ h (named rows m)
seen_alike n m g heedless h k by rows = by (named (alike n rows) m) ∙ ap k (found_alike n m g heedless rows) ∙ sym (by (named rows m))

some_mapped : {A : Type 0} (g : Row → A) (o : Option Row) → is_some o ≡ is_some (option_map g o)
some_mapped g None = refl
some_mapped g (Some r) = refl

none_mapped : {A : Type 0} (g : Row → A) (o : Option Row) → is_none o ≡ is_none (option_map g o)
none_mapped g None = refl
none_mapped g (Some r) = refl

there_alike : (n m : List ℕ) (rows : List Row) → is_some (named (alike n rows) m) ≡ is_some (named rows m)
there_alike n m rows = seen_alike n m (λ r. r.kind) (λ r u. refl) is_some is_some (some_mapped (λ r. r.kind)) rows

lacks_alike : (n : List ℕ) (rows : List Row) (p : Option (List ℕ)) → row_lacks_parent (alike n rows) p ≡ row_lacks_parent rows p
lacks_alike n rows None = refl
lacks_alike n rows (Some m) = seen_alike n m (λ r. r.kind) (λ r u. refl) is_none is_none (none_mapped (λ r. r.kind)) rows

lease_mapped : (o : Option Row) → is_lease_if o ≡ unwrap_or (option_map (λ (r : Row). is_lease r.kind) o) false
lease_mapped None = refl
lease_mapped (Some r) = refl

under_lease_alike : (n : List ℕ) (rows : List Row) (p : Option (List ℕ)) → is_row_under_lease (alike n rows) p ≡ is_row_under_lease rows p
under_lease_alike n rows None = refl
under_lease_alike n rows (Some m) = seen_alike n m (λ r. is_lease r.kind) (λ r u. refl) is_lease_if (λ o. unwrap_or o false) lease_mapped rows

of_parent_mapped : (f : Option (List ℕ) → Bool) (o : Option Row) → holds_of_parent f o ≡ unwrap_or (option_map (λ (r : Row). f r.parent) o) false
of_parent_mapped f None = refl
of_parent_mapped f (Some r) = refl

of_parent_same : (f g : Option (List ℕ) → Bool) → ((p : Option (List ℕ)) → f p ≡ g p) → (o : Option Row) → holds_of_parent f o ≡ holds_of_parent g o
of_parent_same f g same None = refl
of_parent_same f g same (Some r) = same r.parent

deep_alike : (n : List ℕ) (rows : List Row) (k : ℕ) (p : Option (List ℕ)) → is_deep k (alike n rows) p ≡ is_deep k rows p
unfolding is_deep
deep_alike n rows zero p = refl
deep_alike n rows (suc k) None = refl
deep_alike n rows (suc k) (Some m) =
    of_parent_same (is_deep k (alike n rows)) (is_deep k rows) (deep_alike n rows k) (named (alike n rows) m)
    ∙ seen_alike n m (λ r. is_deep k rows r.parent) (λ r u. refl) (holds_of_parent (is_deep k rows)) (λ o. unwrap_or o false) (of_parent_mapped (is_deep k rows)) rows

taken_alike : (n : List ℕ) (rows : List Row) (r : Row) (c : List ℕ) → is_taken (alike n rows) r c ≡ is_taken rows r c
unfolding is_taken
taken_alike n rows r c = any_alike n (λ x. not (bytes_eq x.name r.name) && (beq (is_lease x.kind) (is_lease r.kind) && bytes_eq x.credential c)) (λ x u. refl) rows

under_alike : (n : List ℕ) (rows : List Row) (m : List ℕ) → has_under (alike n rows) m ≡ has_under rows m
unfolding has_under
under_alike n rows m = any_alike n (is_under m) (λ x u. refl) rows

row_alike : (margin : ℕ) (n : List ℕ) (rows : List Row) (r : Row) → refused_row margin (alike n rows) r ≡ refused_row margin rows r
unfolding refused_row
row_alike margin n rows r =
    simp (there_alike n r.name rows, lacks_alike n rows r.parent, under_lease_alike n rows r.parent, deep_alike n rows MAX_DEPTH r.parent, length_alike n rows, taken_alike n rows r r.credential) refl

-- what is asked of the entry of a name
of_entry_mapped : (f : Row → Option ChangeFault) (o : Option Row) → refusal_of_entry f o ≡ unwrap_or (option_map f o) (Some NoEntry)
of_entry_mapped f None = refl
of_entry_mapped f (Some r) = refl

of_entry_same : (f g : Row → Option ChangeFault) → ((r : Row) → f r ≡ g r) → (o : Option Row) → refusal_of_entry f o ≡ refusal_of_entry g o
of_entry_same f g same None = refl
of_entry_same f g same (Some r) = same r

entry_alike : (n m : List ℕ) (f g : Row → Option ChangeFault) → ((r : Row) → f r ≡ g r) → IsHeedless g → (rows : List Row) → refusal_of_entry f (named (alike n rows) m) ≡ refusal_of_entry g (named rows m)
entry_alike n m f g same heedless rows = of_entry_same f g same (named (alike n rows) m) ∙ seen_alike n m g heedless (refusal_of_entry g) (λ o. unwrap_or o (Some NoEntry)) (of_entry_mapped g) rows

credential_alike : (n : List ℕ) (rows : List Row) (c : List ℕ) (r : Row) → refused_credential (alike n rows) c r ≡ refused_credential rows c r
credential_alike n rows c r = ap (λ b. cond b (Some CredentialTwice) (cond (is_some r.file) (Some InFile) None)) (taken_alike n rows r c)

drop_alike : (n : List ℕ) (rows : List Row) (r : Row) → refused_drop (alike n rows) r ≡ refused_drop rows r
drop_alike n rows r = ap (λ b. cond b (Some HasUnder) None) (under_alike n rows r.name)

credential_heedless : (rows : List Row) (c : List ℕ) → IsHeedless (refused_credential rows c)
unfolding is_taken
credential_heedless rows c r u = refl

refusal_alike : (margin : ℕ) (n m : List ℕ) (w : ChangeKind) (rows : List Row) → change_refusal margin (alike n rows) m w ≡ change_refusal margin rows m w
unfolding change_refusal
refusal_alike margin n m (what.Need u) rows = entry_alike n m never_refuses never_refuses (λ r. refl) (λ r v. refl) rows
refusal_alike margin n m (what.Replace c) rows = entry_alike n m (refused_credential (alike n rows) c) (refused_credential rows c) (credential_alike n rows c) (credential_heedless rows c) rows
refusal_alike margin n m (what.Add row) rows = row_alike margin n rows row
refusal_alike margin n m what.Drop rows = entry_alike n m (refused_drop (alike n rows)) (refused_drop rows) (drop_alike n rows) (λ r u. refl) rows

-- ---- so rows that differ in one need go on so

settled_alike : (n : List ℕ) (o : Option ChangeFault) (a b new other : List Row) → alike n a ≡ alike n b → alike n new ≡ alike n other → alike n (settled o a new) ≡ alike n (settled o b other)
settled_alike n None a b new other h k = k
settled_alike n (Some fault) a b new other h k = h

made_alike : (margin : ℕ) (n m : List ℕ) (w : ChangeKind) (a : List Row) → alike n (made_rows margin a m w) ≡ alike n (made_rows margin (alike n a) m w)
made_alike margin n m w a =
    settled_alike n (change_refusal margin a m w) a (alike n a) (rows_with_change a m w) (rows_with_change (alike n a) m w) (sym (twice Always Always n a)) (after_alike n m w a)
    ∙ ap (λ o. alike n (settled o (alike n a) (rows_with_change (alike n a) m w))) (sym (refusal_alike margin n m w a))

chosen_alike : (n : List ℕ) (t : Bool) (x y a b : List Row) → alike n x ≡ alike n y → alike n a ≡ alike n b → alike n (cond t x a) ≡ alike n (cond t y b)
chosen_alike n true x y a b h k = h
chosen_alike n false x y a b h k = k

next_alike : (n : List ℕ) (f : File) (r : Record) (a b : List Row) → alike n a ≡ alike n b → alike n (next f a r) ≡ alike n (next f b r)
next_alike n f (Settling mark) a b h = chosen_alike n (bytes_eq mark f.mark) f.rows f.rows a b refl h
next_alike n f (Made c) a b h =
    chosen_alike n (is_as_then f.rows c) (made_rows f.margin a c.name c.what) (made_rows f.margin b c.name c.what) a b
    (made_alike f.margin n c.name c.what a ∙ ap (λ x. alike n (made_rows f.margin x c.name c.what)) h ∙ sym (made_alike f.margin n c.name c.what b)) h

-- ---- up to where the need is given again

nobody : (f : Row → Row) (n : List ℕ) (rows : List Row) → named rows n ≡ None → with_named f n rows ≡ rows
unfolding named with_named
nobody f n [] e = refl
nobody f n (r ∷ rows) e =
    elim (cases_Bool (is_row_named n r)) [
      | inl t ↦ let no : Some r ≡ None = sym (cond-true (is_row_named n r) (Some r) (find (is_row_named n) rows) t) ∙ e in cc
      | inr t ↦ named_no f n r rows t ∙ ap (λ l. r ∷ l) (nobody f n rows (sym (cond-false (is_row_named n r) (Some r) (find (is_row_named n) rows) t) ∙ e))
    ]

made_need_by : (n : List ℕ) (u : Need) (a : List Row) (o : Option Row) → named a n ≡ o → settled (refusal_of_entry never_refuses o) a (with_named (needed u) n a) ≡ with_named (needed u) n a
made_need_by n u a None e = sym (nobody (needed u) n a e)
made_need_by n u a (Some r) e = refl

made_need : (margin : ℕ) (n : List ℕ) (u : Need) (a : List Row) → made_rows margin a n (what.Need u) ≡ with_named (needed u) n a
unfolding change_refusal
made_need margin n u a = made_need_by n u a (named a n) refl

again : (margin : ℕ) (n : List ℕ) (u : Need) (a b : List Row) → alike n a ≡ alike n b → made_rows margin a n (what.Need u) ≡ made_rows margin b n (what.Need u)
again margin n u a b h = made_need margin n u a ∙ sym (twice u Always n a) ∙ ap (with_named (needed u) n) h ∙ twice u Always n b ∙ sym (made_need margin n u b)

-- what a file says of a need is not about the need that is wanted
said_same : (rows : List Row) (n : List ℕ) (u v : Need) → said rows n (what.Need u) ≡ said rows n (what.Need v)
unfolding said
said_same rows n u v = refl

-- the words of the file are those of then
abbrev IsThen : File → List ℕ → List ℕ → Need → Type 0
IsThen f n was u = bytes_eq (said f.rows n (what.Need u)) was ≡ true

made_again : (f : File) (c : Change) (w : ChangeKind) (u : Need) (a b : List Row) → c.what ≡ w → is_need w ≡ true → IsThen f c.name c.was u → alike c.name a ≡ alike c.name b → next f a (Made c) ≡ next f b (Made c)
unfolding is_as_then
made_again f c (what.Need v) u a b is need then h =
    let now : is_as_then f.rows c ≡ true = ap (λ x. bytes_eq (said f.rows c.name x) c.was) is ∙ ap (λ x. bytes_eq x c.was) (said_same f.rows c.name v u) ∙ then in
    cond-true (is_as_then f.rows c) (made_rows f.margin a c.name c.what) a now
    ∙ ap (made_rows f.margin a c.name) is ∙ again f.margin c.name v a b h ∙ ap (made_rows f.margin b c.name) (sym is)
    ∙ sym (cond-true (is_as_then f.rows c) (made_rows f.margin b c.name c.what) b now)
made_again f c (what.Replace d) u a b is need then h = cc
made_again f c (what.Add row) u a b is need then h = cc
made_again f c what.Drop u a b is need then h = cc

next_again : (f : File) (n was : List ℕ) (u : Need) (r : Record) (a b : List Row) → is_need_of n was r ≡ true → IsThen f n was u → alike n a ≡ alike n b → next f a r ≡ next f b r
next_again f n was u (Settling mark) a b e then h = cc
next_again f n was u (Made c) a b e then h =
    let p = and_parts (is_need c.what) (bytes_eq c.name n && bytes_eq c.was was) e in
    let q = and_parts (bytes_eq c.name n) (bytes_eq c.was was) p.1 in
    let name_is : n ≡ c.name = sym ((bytes_decides c.name n).0 q.0) in
    let was_is : was ≡ c.was = sym ((bytes_decides c.was was).0 q.1) in
    made_again f c c.what u a b refl p.0 (subst (λ k. IsThen f k c.was u) name_is (subst (λ k. IsThen f n k u) was_is then)) (subst (λ k. alike k a ≡ alike k b) name_is h)

any_later : (b : Bool) (rest : Bool) → (b || rest) ≡ true → b ≡ false → rest ≡ true
any_later true rest e f = cc
any_later false rest e f = e

all_again : (f : File) (n was : List ℕ) (u : Need) → IsThen f n was u → (rs : List Record) → list_any (is_need_of n was) rs ≡ true → (a b : List Row) → alike n a ≡ alike n b → all f a rs ≡ all f b rs
all_again f n was u then [] any a b h = cc
all_again f n was u then (r ∷ rs) any a b h =
    elim (cases_Bool (is_need_of n was r)) [
      | inl e ↦ ap (λ rows. all f rows rs) (next_again f n was u r a b e then h)
      | inr e ↦ all_again f n was u then rs (any_later (is_need_of n was r) (list_any (is_need_of n was) rs) any e) (next f a r) (next f b r) (next_alike n f r a b h)
    ]

-- ---- so a void record may be left out

void_change : (f : File) (c : Change) (w : ChangeKind) (rs : List Record) (a : List Row) → c.what ≡ w → is_need w ≡ true → list_any (is_need_of c.name c.was) rs ≡ true → all f a rs ≡ all f (next f a (Made c)) rs
unfolding is_as_then
void_change f c (what.Need u) rs a is need any =
    elim (cases_Bool (is_as_then f.rows c)) [
      | inl t ↦
          let now : next f a (Made c) ≡ with_named (needed u) c.name a =
          cond-true (is_as_then f.rows c) (made_rows f.margin a c.name c.what) a t ∙ ap (made_rows f.margin a c.name) is ∙ made_need f.margin c.name u a in
          let then : IsThen f c.name c.was u = ap (λ x. bytes_eq (said f.rows c.name x) c.was) (sym is) ∙ t in
          all_again f c.name c.was u then rs any a (next f a (Made c)) (sym (ap (alike c.name) now ∙ twice Always u c.name a))
      | inr t ↦ ap (λ rows. all f rows rs) (sym (cond-false (is_as_then f.rows c) (made_rows f.margin a c.name c.what) a t))
    ]
void_change f c (what.Replace d) rs a is need any = cc
void_change f c (what.Add row) rs a is need any = cc
void_change f c what.Drop rs a is need any = cc

void_next : (f : File) (r : Record) (rs : List Record) (a : List Row) → is_void r rs ≡ true → all f a rs ≡ all f (next f a r) rs
void_next f (Settling mark) rs a e = cc
void_next f (Made c) rs a e =
    let p = and_parts (is_need c.what) (list_any (is_need_of c.name c.was) rs) e in
    void_change f c c.what rs a refl p.0 p.1

all_compacted : (f : File) (rs : List Record) (a : List Row) → all f a (compacted rs) ≡ all f a rs
unfolding compacted records_kept voids
all_compacted f [] a = refl
all_compacted f (r ∷ rs) a =
    elim (cases_Bool (is_void r rs)) [
      | inl e ↦ ap (all f a) (cond-true (is_void r rs) (records_kept rs (voids rs)) (r ∷ records_kept rs (voids rs)) e) ∙ all_compacted f rs a ∙ void_next f r rs a e
      | inr e ↦ ap (all f a) (cond-false (is_void r rs) (records_kept rs (voids rs)) (r ∷ records_kept rs (voids rs)) e) ∙ all_compacted f rs (next f a r)
    ]

pub compaction : CompactedLaw
unfolding replayed
compaction f rs = replay_rows f (compacted rs) 0 (replay_begun f) ∙ all_compacted f rs f.rows ∙ sym (replay_rows f rs 0 (replay_begun f))
