-- LineByLine: what was sent after what was sent before.
use Rattle.std.proofs.Common.{◌≡◌, ℕ, List, ◌++◌, sym, ap, ◌∙◌, subst}
use Rattle.std.proofs.KnownBytes.{Appends-trans}
use Rattle.std.specs.Io.KnownBytes.{Appends}
use Rattle.base_device.specs.Seen.{Change, Seen}
use Rattle.program_lines.specs.Hearing.{joined_changes}
use Rattle.program_report.specs.Sent.{IsAll}
use Rattle.tick_runs.specs.code.Telling.{IsSentWhole}

-- ---- what was sent, and then more

module _ (a b : Change) (same : a.new ≡ b.old) where
  pub appends : (t u : List ℕ) → Appends a.old.output.written a.new.output.written t → Appends b.old.output.written b.new.output.written u → Appends a.old.output.written b.new.output.written (t ++ u)
  appends t u first second = Appends-trans a.old.output.written a.new.output.written b.new.output.written t u first (subst (λ (o : Seen). Appends o.output.written b.new.output.written u) (sym same) second)

  pub sent_then : (t u : List ℕ) → IsSentWhole t a → IsSentWhole u b → IsSentWhole (t ++ u) (joined_changes a b)
  sent_then t u first second = ((appends t u first.0.0 second.0.0, second.0.1), second.1 ∙ sym (ap (λ (s : Seen). s.failed_calls) same) ∙ first.1)

  pub all_then : (t u : List ℕ) → IsSentWhole t a → IsAll u b → IsAll (t ++ u) (joined_changes a b)
  all_then t u first second = (appends t u first.0.0 second.0, second.1)
