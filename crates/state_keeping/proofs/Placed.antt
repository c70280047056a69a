-- Two names in one folder are two paths.
use Rattle.std.proofs.Common.{◌≡◌, ℕ, List, ap, ◌∙◌}
use Rattle.std.specs.Prelude.{codes}
use Rattle.state_keeping.specs.Places.{Places, in_folder, places_of}

abbrev made : List ℕ → List ℕ → List ℕ → List ℕ → List ℕ → Places
made f j c a l = record { file = f; journal = j; copy = c; aside = a; lock = l }

pub places_are : (file folder f j c a l : List ℕ) → f ≡ file → j ≡ in_folder folder (codes "journal") → c ≡ in_folder folder (codes "copy") → a ≡ in_folder folder (codes "journal.set-aside") → l ≡ in_folder folder (codes "lock")
    → made f j c a l ≡ places_of file folder
places_are file folder f j c a l is_f is_j is_c is_a is_l =
    ap (λ (x : List ℕ). made x j c a l) is_f
    ∙ ap (λ (x : List ℕ). made file x c a l) is_j
    ∙ ap (λ (x : List ℕ). made file (in_folder folder (codes "journal")) x a l) is_c
    ∙ ap (λ (x : List ℕ). made file (in_folder folder (codes "journal")) (in_folder folder (codes "copy")) x l) is_a
    ∙ ap (λ (x : List ℕ). made file (in_folder folder (codes "journal")) (in_folder folder (codes "copy")) (in_folder folder (codes "journal.set-aside")) x) is_l
