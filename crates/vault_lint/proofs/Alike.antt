-- Alike: of two texts that differ in credentials alone, and whose lines begin the same, the same is said of the same fault.
use Rattle.std.proofs.Common.{◌≡◌, ◌∙◌, ℕ, zero, suc, ◌-◌, List, ◌++◌, Option, Some, None, ap, codes, if◌then◌else◌, nat_lt, option_map, refl, subst, sym}
use Rattle.toml.specs.Data.{Data, string, integer, float, boolean, datetime, array, table, Items, no_items, item, Members, get_item, get_member}
use Rattle.vault_inventory.specs.{Inventory.document_tree, Keys.key_text, Written.count_of, declared.fault.InvFault.InvFault}
use Rattle.vault_inventory.specs.Bare.{DocumentsAreAlike, bare_items, bare_members, bare_value, is_secret_key}
use Rattle.vault_inventory.specs.declared.key.Key.TheVariants.{Name, Token, Lease}
use Rattle.vault_inventory.specs.declared.fault.InvFault.TheVariants as faults
use Rattle.vault_inventory.proofs.Barely.{bare_found}
use Rattle.vault_lint.specs.{Marks.marks_of, Places.heads_of, declared.mark.Mark.Mark}
use Rattle.vault_lint.specs.FaultNames.{called, called_at, called_if, called_in, items_in, name_in, tables_at, text_in}
use Rattle.vault_lint.specs.FaultWords.{IsLineOf, IsSaidOf, fault_key, fault_mend, fault_problem, fault_words, line_words, said_words}

-- ---- names

items_bare : (d : Option Data) → items_in (option_map bare_value d) ≡ bare_items (items_in d)
items_bare None = refl
items_bare (Some (string s)) = refl
items_bare (Some (integer z)) = refl
items_bare (Some (float x)) = refl
items_bare (Some (boolean b)) = refl
items_bare (Some (datetime dt)) = refl
items_bare (Some (array ds)) = refl
items_bare (Some (table ms)) = refl

count_bare : (ds : Items) → count_of (bare_items ds) ≡ count_of ds
count_bare no_items = refl
count_bare (item d ds) = ap suc (count_bare ds)

item_bare : (n : ℕ) (ds : Items) → get_item n (bare_items ds) ≡ option_map bare_value (get_item n ds)
item_bare n no_items = refl
item_bare zero (item d ds) = refl
item_bare (suc n) (item d ds) = item_bare n ds

text_bare : (d : Option Data) → text_in (option_map bare_value d) ≡ text_in d
text_bare None = refl
text_bare (Some (string s)) = refl
text_bare (Some (integer z)) = refl
text_bare (Some (float x)) = refl
text_bare (Some (boolean b)) = refl
text_bare (Some (datetime dt)) = refl
text_bare (Some (array ds)) = refl
text_bare (Some (table ms)) = refl

name_bare : (d : Option Data) → name_in (option_map bare_value d) ≡ name_in d
unfolding is_secret_key
name_bare None = refl
name_bare (Some (string s)) = refl
name_bare (Some (integer z)) = refl
name_bare (Some (float x)) = refl
name_bare (Some (boolean b)) = refl
name_bare (Some (datetime dt)) = refl
name_bare (Some (array ds)) = refl
name_bare (Some (table ms)) = ap text_in (bare_found (key_text Name) refl ms) ∙ text_bare (get_member (key_text Name) ms)

tokens_bare : (ms : Members) → tables_at Token (bare_members ms) ≡ bare_items (tables_at Token ms)
unfolding is_secret_key
tokens_bare ms = ap items_in (bare_found (key_text Token) refl ms) ∙ items_bare (get_member (key_text Token) ms)

leases_bare : (ms : Members) → tables_at Lease (bare_members ms) ≡ bare_items (tables_at Lease ms)
unfolding is_secret_key
leases_bare ms = ap items_in (bare_found (key_text Lease) refl ms) ∙ items_bare (get_member (key_text Lease) ms)

at_bare : (kind : List ℕ) (ds : Items) (n : ℕ) → called_at kind (bare_items ds) n ≡ called_at kind ds n
at_bare kind ds n = ap (λ d. called kind n (name_in d)) (item_bare n ds) ∙ ap (called kind n) (name_bare (get_item n ds))

called_bare : (ms : Members) (i : ℕ) → called_in (bare_members ms) i ≡ called_in ms i
unfolding called_in
called_bare ms i =
    let tokens = tables_at Token ms in
    let leases = tables_at Lease ms in
    let among : Items → Items → List ℕ = λ ts ls. if nat_lt i (count_of ts) then called_at (codes "token") ts i else called_at (codes "lease") ls (i - count_of ts) in
    ap (λ ts. among ts (tables_at Lease (bare_members ms))) (tokens_bare ms)
    ∙ ap (λ ls. among (bare_items tokens) ls) (leases_bare ms)
    ∙ ap (λ n. if nat_lt i n then called_at (codes "token") (bare_items tokens) i else called_at (codes "lease") (bare_items leases) (i - n)) (count_bare tokens)
    ∙ ap (λ t. if nat_lt i (count_of tokens) then t else called_at (codes "lease") (bare_items leases) (i - count_of tokens)) (at_bare (codes "token") tokens i)
    ∙ ap (λ l. if nat_lt i (count_of tokens) then called_at (codes "token") tokens i else l) (at_bare (codes "lease") leases (i - count_of tokens))

called_alike : (bytes other : List ℕ) → DocumentsAreAlike bytes other → (i : ℕ) → called_if (document_tree other) i ≡ called_if (document_tree bytes) i
called_alike bytes other h i =
    ap (λ r. called_if r i) h.other_reads
    ∙ sym (called_bare h.other_tree i)
    ∙ ap (λ ms. called_in ms i) (sym h.same)
    ∙ called_bare h.tree i
    ∙ ap (λ r. called_if r i) (sym h.reads)

-- ---- words

line_alike : (bytes other : List ℕ) (found : List Mark) (heads : List ℕ) (fault : InvFault) (n m : ℕ) → (fault ≡ faults.NotToml → ⊥) → IsLineOf bytes found heads fault n → IsLineOf other found heads fault m → m ≡ n
line_alike bytes other found heads faults.NotToml n m toml is also = absurd (toml refl)
line_alike bytes other found heads (faults.MissingKey i key) n m toml is also = also ∙ sym is
line_alike bytes other found heads (faults.UnknownKey entry) n m toml is also = also ∙ sym is
line_alike bytes other found heads (faults.BadValue entry key) n m toml is also = also ∙ sym is
line_alike bytes other found heads (faults.Tree i fault) n m toml is also = also ∙ sym is
line_alike bytes other found heads faults.OutOfMemory n m toml is also = also ∙ sym is

abbrev with_entry : (bytes : List ℕ) (found : List Mark) (heads : List ℕ) (fault : InvFault) → List ℕ → List ℕ
with_entry bytes found heads fault entry = said_words entry (fault_key found heads fault) (fault_problem bytes fault) (fault_mend bytes found heads fault)

words_alike : (bytes other : List ℕ) (found : List Mark) (heads : List ℕ) (fault : InvFault) → (fault ≡ faults.NotToml → ⊥) → ((i : ℕ) → called_if (document_tree other) i ≡ called_if (document_tree bytes) i) →
    fault_words other found heads fault ≡ fault_words bytes found heads fault
words_alike bytes other found heads faults.NotToml toml same = absurd (toml refl)
words_alike bytes other found heads (faults.MissingKey i key) toml same = ap (with_entry bytes found heads (faults.MissingKey i key)) (same i)
words_alike bytes other found heads (faults.UnknownKey None) toml same = refl
words_alike bytes other found heads (faults.UnknownKey (Some i)) toml same = ap (with_entry bytes found heads (faults.UnknownKey (Some i))) (same i)
words_alike bytes other found heads (faults.BadValue None key) toml same = refl
words_alike bytes other found heads (faults.BadValue (Some i) key) toml same = ap (with_entry bytes found heads (faults.BadValue (Some i) key)) (same i)
words_alike bytes other found heads (faults.Tree i fault) toml same = ap (with_entry bytes found heads (faults.Tree i fault)) (same i)
words_alike bytes other found heads faults.OutOfMemory toml same = refl

pub said_alike : (bytes other : List ℕ) (fault : InvFault) (said more : List ℕ) → DocumentsAreAlike bytes other → marks_of other ≡ marks_of bytes → (fault ≡ faults.NotToml → ⊥) → IsSaidOf bytes fault said → IsSaidOf other fault more → more ≡ said
said_alike bytes other fault said more alike marks toml (n, (is, e)) also =
    let Says : List Mark → Type 0 = λ found. (m : ℕ) × (IsLineOf other found (heads_of found) fault m × (more ≡ line_words m ++ fault_words other found (heads_of found) fault)) in
    let here : Says (marks_of bytes) = subst Says marks also in
    let found = marks_of bytes in
    here.1.1
    ∙ ap (λ m. line_words m ++ fault_words other found (heads_of found) fault) (line_alike bytes other found (heads_of found) fault n here.0 toml is here.1.0)
    ∙ ap (λ w. line_words n ++ w) (words_alike bytes other found (heads_of found) fault toml (called_alike bytes other alike))
    ∙ sym e
