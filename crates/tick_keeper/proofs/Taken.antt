-- A forest in which a changed entry is put back; and a moment that was made from a number.
use Rattle.std.proofs.Common.{◌≡◌, ◌∙◌, ℕ, ◌<◌, Option, Some, Result, Ok, Err, OnErr, IfSome, length, set, refl, sym, ap, subst, arith, inl, inr}
use Rattle.std.proofs.lemmas.{Bool.cases_eq, List.length-set}
use Rattle.plan_forest.specs.{declared.entry.Entry.Entry, Forest.Forest, Forest.entry_at}
use Rattle.plan_forest.proofs.Entries.{entry_at_set_other, entry_at_set_same}
use Rattle.tick_keeper.specs.declared.fault.StepFault.{StepFault}
use Rattle.tick_keeper.proofs.Orders.{same_forest}

-- a moment that was made from a number
pub moment_is : (o : Option ℕ) (v n : ℕ) → o ≡ Some v → IfSome o (λ m. m ≡ n) → v ≡ n
moment_is o v n is value = subst (λ (p : Option ℕ). IfSome p (λ m. m ≡ n)) is value

-- an entry that was changed is put back
pub set_back : (g : Forest) (i : ℕ) (e : Entry) → i < length g.entries → record { entries = set (set g.entries i e) i (entry_at g.entries i); margin = g.margin } ≡ g
set_back g i e within =
    let es = set g.entries i e in
    let fs = set es i (entry_at g.entries i) in
    let one = length-set g.entries i e in
    let other = length-set es i (entry_at g.entries i) in
    same_forest (record { entries = fs; margin = g.margin }) g (omega arith) refl (λ k h. elim (cases_eq k i) [
      | inl same ↦ ap (entry_at fs) same ∙ entry_at_set_same es i (entry_at g.entries i) (omega arith) ∙ ap (entry_at g.entries) (sym same)
      | inr apart ↦ entry_at_set_other es i k (entry_at g.entries i) apart ∙ entry_at_set_other g.entries i k e apart
    ])

-- a need that was set, and set back
pub need_back :
    (g h : Forest) (i until before : ℕ) → i < length g.entries → before ≡ (entry_at g.entries i).need → h ≡ record { entries = set g.entries i (record (entry_at g.entries i) { need = until }); margin = g.margin } →
    record { entries = set h.entries i (record (entry_at h.entries i) { need = before }); margin = h.margin } ≡ g
need_back g h i until before within was is =
    let e : Entry = record (entry_at g.entries i) { need = until } in
    let next : Forest → Forest = λ x. record { entries = set x.entries i (record (entry_at x.entries i) { need = before }); margin = x.margin } in
    ap next is ∙ ap (λ (x : Entry). record { entries = set (set g.entries i e) i (record x { need = before }); margin = g.margin }) (entry_at_set_same g.entries i e within)
    ∙ ap (λ n. record { entries = set (set g.entries i e) i (record (entry_at g.entries i) { need = n }); margin = g.margin }) was
    ∙ set_back g i e within

pub on_err : {X : Type 0} (r : Result X StepFault) (P Q : Type 0) → (P → Q) → OnErr r P → OnErr r Q
on_err (Ok x) P Q f h = tt
on_err (Err e) P Q f h = f h
