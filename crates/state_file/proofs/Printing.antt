-- Lines that are added one after the other.
use Rattle.std.proofs.Common.{◌≡◌, ℕ, pos, Bool, ◌+◌, ◌<◌, List, [], ◌∷◌, ◌++◌, append-nil, length, take, get_or, refl, sym, ap, ◌∙◌, subst, codes}
use Rattle.std.proofs.lemmas.{Grind.flat_map-append, List.take_more}
use Rattle.std.specs.List.{flat_map}
use Rattle.base_moment.specs.Rfc3339.{IsDateText}
use Rattle.toml.specs.Data.{Data, string, integer, boolean}
use Rattle.vault_inventory.specs.{Keys.key_text, declared.key.Key.Key}
use Rattle.state_changes.specs.declared.row.Row.{Row}
use Rattle.state_file.specs.declared.text.Form.{Form}
use Rattle.state_file.specs.FileText.{Line, header, field, dated, quoted, number, flag, Adds, AddsField, gap, row_lines}

pub adds_none : (old new : List ℕ) → new ≡ old → Adds [] old new
unfolding Adds
adds_none old new is = is

pub adds_quoted : (key : Key) (t : List ℕ) (d : Data) (old new : List ℕ) → d ≡ string t → AddsField key d old new → Adds (field key (quoted t) ∷ []) old new
unfolding Adds
adds_quoted key t d old new is h = (new, subst (λ e. AddsField key e old new) is h, refl)

pub adds_number : (key : Key) (n : ℕ) (old new : List ℕ) → AddsField key (integer (pos n)) old new → Adds (field key (number n) ∷ []) old new
unfolding Adds
adds_number key n old new h = (new, h, refl)

pub adds_flag : (key : Key) (b : Bool) (old new : List ℕ) → AddsField key (boolean b) old new → Adds (field key (flag b) ∷ []) old new
unfolding Adds
adds_flag key b old new h = (new, h, refl)

pub adds_dated : (key : Key) (moment : ℕ) (date old new : List ℕ) → IsDateText date moment → Adds (field key (quoted date) ∷ []) old new → Adds (dated key moment ∷ []) old new
unfolding Adds
adds_dated key moment date old new is (between, h, same) = (between, (date, is, h), same)

pub adds_header : (key : Key) (old new : List ℕ) → new ≡ old ++ (gap old ++ (codes "[[" ++ (key_text key ++ codes "]]\n"))) → Adds (header key ∷ []) old new
unfolding Adds
adds_header key old new h = (new, h, refl)

pub adds_both : (a b : List Line) (old between new : List ℕ) → Adds a old between → Adds b between new → Adds (a ++ b) old new
unfolding Adds
adds_both [] b old between new h k = subst (λ t. Adds b t new) h k
adds_both (line ∷ a) b old between new (t, h, hs) k = (t, h, adds_both a b t between new hs k)

-- the lines of one row more
pub adds_row : (form : Form) (rows : List Row) (i : ℕ) (row : Row) (old between new : List ℕ) → i < length rows → row ≡ get_or rows i row → Adds (flat_map (row_lines form) (take i rows)) old between → Adds (row_lines form row) between new → Adds (flat_map (row_lines form) (take (i + 1) rows)) old new
adds_row form rows i row old between new h read front last =
    let more : take (i + 1) rows ≡ take i rows ++ row ∷ [] = take_more rows i row h ∙ ap (λ r. take i rows ++ r ∷ []) (sym read) in
    let lines : flat_map (row_lines form) (take (i + 1) rows) ≡ flat_map (row_lines form) (take i rows) ++ row_lines form row =
    ap (flat_map (row_lines form)) more ∙ flat_map-append (row_lines form) (take i rows) (row ∷ []) ∙ ap (λ ls. flat_map (row_lines form) (take i rows) ++ ls) (append-nil (row_lines form row)) in
    subst (λ ls. Adds ls old new) (sym lines) (adds_both (flat_map (row_lines form) (take i rows)) (row_lines form row) old between new front last)
