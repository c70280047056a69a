-- The groups of a queue: those bound by their present end wait, those bound by their step have joined.
use Rattle.std.proofs.Common.{ℕ, ◌+◌, ◌<◌, ◌≤◌, Option, Some, None, arith, inl, inr}
use Rattle.std.proofs.lemmas.Bool.{cases_lt}
use Rattle.plan_schedule.specs.{Terms.Ahead, Terms.Leads, Terms.Terms, Terms.lasts_until, code.Groups.Grouped}
use Rattle.plan_schedule.proofs.Leading.{ahead}

-- what is grouped stays so at a later wake-up
pub later : (t : Terms) (v w : ℕ) (wait join : ℕ → Type 0) → v ≤ w → Grouped t (Some v) wait join → Grouped t (Some w) wait join
later t v w wait join le g = record {
  all = λ i h. g.all i (omega arith);
  short = g.short;
  joined = λ i j. let k = g.joined i j in omega arith;
}

-- of the joined and the waiting, one that has joined and is the first of both leads
pub join_leads :
    (t : Terms) (v f : ℕ) (wait join : ℕ → Type 0) → Grouped t (Some v) wait join → join f → v + t.step f < t.need f →
    ((i : ℕ) → join i → Ahead (t.step f) f (t.step i) i) → ((i : ℕ) → wait i → Ahead (v + t.step f) f (t.end i) i) → Leads t (Some v) f
join_leads t v f wait join g joins short among before =
    let mine : t.end f ≤ v + t.step f = g.joined f joins in
    record {
      short = omega arith;
      first = λ i s. elim (g.all i s) [
        | inl waits ↦ let a = before i waits in ahead _ _ _ _ (omega arith) (λ e. omega arith)
        | inr joined ↦ let a = among i joined in let o = g.joined i joined in ahead _ _ _ _ (omega arith) (λ e. omega arith)
      ];
    }

-- one that waits and is the first of both leads
pub wait_leads :
    (t : Terms) (v f : ℕ) (wait join : ℕ → Type 0) → Grouped t (Some v) wait join → wait f → v + t.step f < t.end f →
    ((i : ℕ) → join i → Ahead (t.end f) f (v + t.step i) i) → ((i : ℕ) → wait i → Ahead (t.end f) f (t.end i) i) → Leads t (Some v) f
wait_leads t v f wait join g waits unjoined among before =
    let mine = g.short f waits in
    record {
      short = omega arith;
      first = λ i s. elim (g.all i s) [
        | inl other ↦ let a = before i other in ahead _ _ _ _ (omega arith) (λ e. omega arith)
        | inr joined ↦ let a = among i joined in let o = g.joined i joined in ahead _ _ _ _ (omega arith) (λ e. omega arith)
      ];
    }

-- before any wake-up the first that waits leads
pub first_leads :
    (t : Terms) (f : ℕ) (wait join : ℕ → Type 0) → Grouped t None wait join → wait f → ((i : ℕ) → wait i → Ahead (t.end f) f (t.end i) i) → Leads t None f
first_leads t f wait join g waits before =
    record {
      short = g.short f waits;
      first = λ i s. elim (g.all i s) [ inl other ↦ before i other | inr joined ↦ absurd (g.joined i joined) ];
    }

-- where no group has anything, nothing falls short
pub none_lacks : (t : Terms) (prev : Option ℕ) (wait join : ℕ → Type 0) → Grouped t prev wait join → ((i : ℕ) → wait i → ⊥) → ((i : ℕ) → join i → ⊥) → (i : ℕ) → t.need i ≤ lasts_until t prev i
none_lacks t prev wait join g no_wait no_join i =
    elim (cases_lt (lasts_until t prev i) (t.need i)) [
      | inl short ↦ elim (g.all i short) [ inl waits ↦ absurd (no_wait i waits) | inr joined ↦ absurd (no_join i joined) ]
      | inr lasts ↦ lasts
    ]
