-- Said: what is said of a fault, from what its finding has. For `words_of_fault`.
use Rattle.std.proofs.Common.{◌≡◌, ◌∙◌, ℕ, List, ◌++◌, ap, inl, inr, refl, string_bytes, subst}
use Rattle.vault_inventory.specs.declared.fault.InvFault.{InvFault}
use Rattle.vault_lint.specs.{FaultPlaces.IsSomeLine, FaultPlaces.line_at, Marks.marks_of, Places.heads_of, declared.finding.Finding.Finding, declared.mark.Mark.Mark}
use Rattle.vault_lint.specs.FaultWords.{IsLineOf, IsSaidOf, fault_entry, fault_key, fault_mend, fault_problem, fault_words, finding_words, line_words, said_words}

words_of : (bytes : List ℕ) (found : List Mark) (heads : List ℕ) (fault : InvFault) (f : Finding) → string_bytes f.entry ≡ fault_entry bytes fault → f.key.now ≡ fault_key found heads fault → string_bytes f.problem ≡ fault_problem bytes fault
    → string_bytes f.mend ≡ fault_mend bytes found heads fault → finding_words f ≡ fault_words bytes found heads fault
unfolding finding_words
words_of bytes found heads fault f entry key problem mend =
    ap (λ e. said_words e f.key.now (string_bytes f.problem) (string_bytes f.mend)) entry
    ∙ ap (λ k. said_words (fault_entry bytes fault) k (string_bytes f.problem) (string_bytes f.mend)) key
    ∙ ap (λ p. said_words (fault_entry bytes fault) (fault_key found heads fault) p (string_bytes f.mend)) problem
    ∙ ap (λ m. said_words (fault_entry bytes fault) (fault_key found heads fault) (fault_problem bytes fault) m) mend

said_in : (bytes : List ℕ) (found : List Mark) (heads : List ℕ) (fault : InvFault) (line : ℕ) (text : List ℕ) → found ≡ marks_of bytes → heads ≡ heads_of (marks_of bytes) → IsLineOf bytes found heads fault line
    → text ≡ line_words line ++ fault_words bytes found heads fault → IsSaidOf bytes fault text
said_in bytes found heads fault line text marks tables is said =
    let Says : List Mark → List ℕ → Type 0 = λ fs hs. (n : ℕ) × (IsLineOf bytes fs hs fault n × (text ≡ line_words n ++ fault_words bytes fs hs fault)) in
    subst (λ (hs : List ℕ). Says (marks_of bytes) hs) tables (subst (λ (fs : List Mark). Says fs heads) marks (line, (is, said)))

pub said_of : (bytes : List ℕ) (found : List Mark) (heads : List ℕ) (fault : InvFault) (f : Finding) (text : List ℕ) → found ≡ marks_of bytes → heads ≡ heads_of (marks_of bytes) → IsLineOf bytes found heads fault f.line
    → string_bytes f.entry ≡ fault_entry bytes fault → f.key.now ≡ fault_key found heads fault → string_bytes f.problem ≡ fault_problem bytes fault → string_bytes f.mend ≡ fault_mend bytes found heads fault
    → text ≡ line_words f.line ++ finding_words f → IsSaidOf bytes fault text
said_of bytes found heads fault f text marks tables is entry key problem mend said =
    said_in bytes found heads fault f.line text marks tables is (said ∙ ap (λ w. line_words f.line ++ w) (words_of bytes found heads fault f entry key problem mend))

-- ---- the line of the syntax. For `syntax_line`

pub no_line : (bytes : List ℕ) → IsSomeLine bytes 0
no_line bytes = inl refl

pub some_line : (bytes : List ℕ) (at line : ℕ) → line ≡ line_at bytes at → IsSomeLine bytes line
some_line bytes at line is = inr (at, is)
