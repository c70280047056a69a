-- Wording: the line of some words, and of the names of entries. For `push_wake`.
use Rattle.std.proofs.Common.{◌≡◌, ℕ, List, [], ◌∷◌, ◌++◌, flat_map, refl, sym, ap, ◌∙◌}
use Rattle.std.proofs.lemmas.List.{append_assoc}
use Rattle.plan_forest.specs.Forest.{Forest}
use Rattle.program_lines.specs.Text.{line, name_of, names_of}

pub line_is : (w : List ℕ) (ws : List (List ℕ)) → line (w ∷ ws) ≡ w ++ (flat_map (λ x. 32 ∷ x) ws ++ (10 ∷ []))
line_is w [] = refl
line_is w (x ∷ ws) = ap (λ xs. w ++ (32 ∷ xs)) (line_is x ws ∙ sym (append_assoc x (flat_map (λ y. 32 ∷ y) ws) (10 ∷ [])))

names_are : (g : Forest) (asked : List ℕ) → flat_map (λ x. 32 ∷ x) (names_of g asked) ≡ flat_map (λ i. 32 ∷ name_of g i) asked
names_are g [] = refl
names_are g (i ∷ asked) = ap (λ xs. (32 ∷ name_of g i) ++ xs) (names_are g asked)

pub named_line : (g : Forest) (w : List ℕ) (asked : List ℕ) → line (w ∷ names_of g asked) ≡ w ++ (flat_map (λ i. 32 ∷ name_of g i) asked ++ (10 ∷ []))
named_line g w asked = line_is w (names_of g asked) ∙ ap (λ xs. w ++ (xs ++ (10 ∷ []))) (names_are g asked)

pub five : (a b c d e : List ℕ) → (((a ++ b) ++ c) ++ d) ++ e ≡ a ++ (b ++ (c ++ (d ++ e)))
five a b c d e =
    append_assoc ((a ++ b) ++ c) d e
    ∙ append_assoc (a ++ b) c (d ++ e)
    ∙ append_assoc a b (c ++ (d ++ e))
