-- What is read at an index of an inventory, and that an inventory keeps one credential and one set of terms for each entry.
use Rattle.std.proofs.Common.{◌≡◌, ◌==◌, ℕ, false, unwrap_or, ◌∙◌, ◌+◌, ◌-◌, ◌<◌, ◌≤◌, List, [], ◌∷◌, ◌++◌, length, get_or, sym, arith, IsUtf8}
use Rattle.std.specs.List.{All}
use Rattle.std.proofs.lemmas.{Bool.cond-false, List.Elements.All-from_get_or, List.Elements.All-get_or, Str.IsUtf8-from_ascii, Str.Ascii.IsAscii-from_all}
use Rattle.std.proofs.lemmas.List.{get_or_append_left, get_or_push, get_or_read}
use Rattle.std.proofs.{Math.ListN.length-append, Math.Seq.get_or-append_right}
use Rattle.plan_forest.specs.Forest.{entry_at}
use Rattle.vault_inventory.specs.{declared.note.EntryNote.EntryNote, declared.terms.Terms.Terms, Served.no_note, Served.note_at, Laws.TextLaw}
use Rattle.vault_inventory.specs.Inventories.{IsSendableText, IsInventory, Inventory, empty_terms, terms_at, credential_at}

pub terms_read : (ts : List Terms) (i : ℕ) (x : Terms) → i < length ts → x ≡ get_or ts i x → x ≡ terms_at ts i
unfolding terms_at
terms_read ts i x h e = get_or_read ts i x h e empty_terms

pub credential_read : (cs : List (List ℕ)) (i : ℕ) (x : List ℕ) → i < length cs → x ≡ get_or cs i x → x ≡ credential_at cs i
unfolding credential_at
credential_read cs i x h e = get_or_read cs i x h e []

pub first_half : (ss ls : List (List ℕ)) (i : ℕ) → i < length ss → credential_at ss i ≡ credential_at (ss ++ ls) i
unfolding credential_at
first_half ss ls i h = sym (get_or_append_left ss ls [] i h)

pub second_half : (ss ls : List (List ℕ)) (i : ℕ) → length ss ≤ i → credential_at ls (i - length ss) ≡ credential_at (ss ++ ls) i
unfolding credential_at
second_half ss ls i h = sym (get_or-append_right ss ls i [] h)

-- what is read at an index after one more was pushed
pub terms_old : (ts : List Terms) (t : Terms) (i : ℕ) → i < length ts → terms_at (ts ++ t ∷ []) i ≡ terms_at ts i
unfolding terms_at
terms_old ts t i h = get_or_append_left ts (t ∷ []) empty_terms i h

pub terms_new : (ts : List Terms) (t : Terms) (n : ℕ) → length ts ≡ n → terms_at (ts ++ t ∷ []) n ≡ t
unfolding terms_at
terms_new ts t n h = get_or_push ts t empty_terms n h

pub note_old : (ns : List EntryNote) (n : EntryNote) (i : ℕ) → i < length ns → note_at (ns ++ n ∷ []) i ≡ note_at ns i
unfolding note_at
note_old ns n i h = get_or_append_left ns (n ∷ []) no_note i h

pub note_new : (ns : List EntryNote) (note : EntryNote) (n : ℕ) → length ns ≡ n → note_at (ns ++ note ∷ []) n ≡ note
unfolding note_at
note_new ns note n h = get_or_push ns note no_note n h

pub credential_old : (cs : List (List ℕ)) (c : List ℕ) (i : ℕ) → i < length cs → credential_at (cs ++ c ∷ []) i ≡ credential_at cs i
unfolding credential_at
credential_old cs c i h = get_or_append_left cs (c ∷ []) [] i h

pub credential_new : (cs : List (List ℕ)) (c : List ℕ) (n : ℕ) → length cs ≡ n → credential_at (cs ++ c ∷ []) n ≡ c
unfolding credential_at
credential_new cs c n h = get_or_push cs c [] n h

-- each of these texts can be sent
pub sendable_at : (cs : List (List ℕ)) (i : ℕ) → i < length cs → All IsSendableText cs → IsSendableText (credential_at cs i)
unfolding credential_at
sendable_at cs i h all = All-get_or IsSendableText cs i [] h all

-- what can be sent is ASCII, so UTF-8
pub text_law : TextLaw
text_law text sendable =
    IsUtf8-from_ascii text (IsAscii-from_all text (All-from_get_or (λ b. b < 128) text 0
    (λ i h. let fine = All-get_or (λ b. (0x21 ≤ b) × (b ≤ 0x7E)) text i 0 h sendable.2 in omega (arith, fine.1))))

-- and so is each credential of an inventory
pub credential_text : (s : Inventory) → IsInventory s → (i : ℕ) → i < length s.forest.entries → IsUtf8 (credential_at s.credentials i)
credential_text s inventory i h = text_law (credential_at s.credentials i) (sendable_at s.credentials i (omega (arith, h, inventory.credentials)) inventory.sendable)

-- a token that has a period has it as its step
pub period_is : (s : Inventory) → IsInventory s → (i : ℕ) → i < length s.forest.entries → ((terms_at s.terms i).period == 0) ≡ false → (entry_at s.forest.entries i).step ≡ (terms_at s.terms i).period
period_is s inventory i h some = let t = terms_at s.terms i in inventory.step_is i h ∙ cond-false (t.period == 0) (unwrap_or t.increment 0) t.period some

pub length_of_halves : (ss ls : List (List ℕ)) → length (ss ++ ls) ≡ length ss + length ls
length_of_halves ss ls = length-append ss ls

pub ruleset halves = (length_of_halves, first_half, second_half)
