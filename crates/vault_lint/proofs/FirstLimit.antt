-- FirstLimit: the first limit of an entry and of those over it is its own, else the first of its parent and of those over that.
use Rattle.std.proofs.Common.{◌≡◌, ◌∙◌, ℕ, List, [], ◌∷◌, Option, Some, None, ap, map}
use Rattle.plan_forest.proofs.Chains.{ParentsFirst, chain_child, chain_root}
use Rattle.plan_forest.specs.{Forest.entry_at, Over.chain, Over.chain_of}
use Rattle.vault_lint.specs.{declared.subject.Subject.Subject, declared.what.EntryDoubt.EntryDoubt}
use Rattle.vault_lint.specs.Limits.{first_of, limit_at, limit_in}

pub limit_own : (s : Subject) (need i : ℕ) (what : EntryDoubt) → limit_at s need i ≡ Some what → limit_in s need i ≡ Some what
unfolding limit_in chain chain_of
limit_own s need i what own =
    let above : List ℕ = elim ((entry_at s.inventory.forest.entries i).parent) [ None ↦ [] | Some p ↦ chain_of i s.inventory.forest.entries p ] in
    ap (λ (o : Option EntryDoubt). first_of (o ∷ map (limit_at s need) above)) own

pub limit_root : (s : Subject) (need i : ℕ) → limit_at s need i ≡ None → (entry_at s.inventory.forest.entries i).parent ≡ None → limit_in s need i ≡ None
unfolding limit_in
limit_root s need i none root =
    ap (λ (over : List ℕ). first_of (map (limit_at s need) over)) (chain_root s.inventory.forest.entries i root) ∙ ap (λ (o : Option EntryDoubt). first_of (o ∷ [])) none

pub limit_child : (s : Subject) (need i p : ℕ) → limit_at s need i ≡ None → ParentsFirst s.inventory.forest.entries → (entry_at s.inventory.forest.entries i).parent ≡ Some p
    → limit_in s need i ≡ limit_in s need p
unfolding limit_in
limit_child s need i p none first child =
    ap (λ (over : List ℕ). first_of (map (limit_at s need) over)) (chain_child s.inventory.forest.entries i p first child)
    ∙ ap (λ (o : Option EntryDoubt). first_of (o ∷ map (limit_at s need) (chain s.inventory.forest.entries p))) none
