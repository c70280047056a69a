-- Shaped: no step of a keeper changes more of its forest than lookups and renewals may. For the laws that secrets change no answer.
use Rattle.std.proofs.Common.{◌∙◌, ap}
use Rattle.broker_alike.specs.Alike.{KeepsSupplied}
use Rattle.tick_keeper.specs.LawsOfSteps.{IsShaped}
use Rattle.plan_forest.specs.{declared.entry.Entry.Entry, Forest.Forest}

pub kept_shaped : (g h k : Forest) → KeepsSupplied g h → IsShaped h k → KeepsSupplied g k
kept_shaped g h k kept like = record {
  count = like.count ∙ kept.count;
  kinds = λ i. ap (λ (e : Entry). e.kind) (like.each i) ∙ kept.kinds i;
  owners = λ i lease. ap (λ (e : Entry). e.parent) (like.each i) ∙ kept.owners i lease;
  steps = λ i lease. ap (λ (e : Entry). e.step) (like.each i) ∙ kept.steps i lease;
}
