-- A forest in which a need is set, or an answer changed an entry, is one.
use Rattle.std.proofs.Common.{ℕ, ◌+◌, ◌<◌, ◌≤◌, Bool, false, length, refl, arith}
use Rattle.base_moment.specs.declared.moment.TheConstants.{LAST}
use Rattle.plan_forest.specs.{declared.entry.Entry.Entry, declared.forest.TheConstants.END_MAX, Forest.Forest, Forest.entry_at, Push.IsForest}
use Rattle.plan_forest.proofs.Placed.{read_range, read_step, replaced_is_forest, replaces_read}
use Rattle.tick_keeper.specs.{declared.event.Event.Event, Refusal.TellsSpan, Step.entry_after_answer, Step.with_entry_changed}
use Rattle.tick_keeper.specs.declared.event.Event.TheVariants.{Told, Refused}

-- a forest with an entry changed, in its end within the range, in its need, or in whether it is renewable
changed_forest :
    (g : Forest) → IsForest g → (i : ℕ) → i < length g.entries → (end need : ℕ) (renewable : Bool) → end ≤ END_MAX → need ≤ LAST →
    IsForest (with_entry_changed g i (λ e. record e { end = end; need = need; renewable = renewable }))
changed_forest g forest i within end need renewable far late =
    let x = entry_at g.entries i in
    let e : Entry = record x { end = end; need = need; renewable = renewable } in
    let old = read_range g forest i x within refl in
    replaced_is_forest g forest i e (replaces_read g forest i x e within refl refl refl refl (read_step g forest i x within refl) (record { end = far; ceiling = old.ceiling; need = late }))

pub needed_forest : (g : Forest) → IsForest g → (i : ℕ) → i < length g.entries → (until : ℕ) → until ≤ LAST → IsForest (with_entry_changed g i (λ e. record e { need = until }))
needed_forest g forest i within until late =
    let x = entry_at g.entries i in
    changed_forest g forest i within x.end until x.renewable (read_range g forest i x within refl).end late

pub answered_forest :
    (g : Forest) → IsForest g → (event : Event) → TellsSpan event → (i : ℕ) → i < length g.entries → (at : ℕ) → at ≤ LAST →
    IsForest (with_entry_changed g i (entry_after_answer at event))
unfolding entry_after_answer
answered_forest g forest event seconds i within at late = by_event event seconds where
  x : Entry
  x = entry_at g.entries i

  by_event : (event : Event) → TellsSpan event → IsForest (with_entry_changed g i (entry_after_answer at event))
  by_event (Told j n renewable) span = let old = read_range g forest i x within refl in changed_forest g forest i within (at + n) x.need renewable (omega arith) old.need
  by_event (Refused j) span = let old = read_range g forest i x within refl in changed_forest g forest i within x.end x.need false old.end old.need
  by_event _ span = let old = read_range g forest i x within refl in changed_forest g forest i within x.end x.need x.renewable old.end old.need
