-- Fit: which certificates can be judged over a forest, as each that was read from a text can.
-- Source: this project's own.
use Rattle.std.specs.Prelude.{ℕ, length}
use Rattle.plan_forest.specs.Forest.{Forest}
use Rattle.plan_rule.specs.{declared.run.Run.Run, Runs.HasMoments, Runs.IsAmong}
use Rattle.plan_certificate.specs.{declared.cert.Body.Body, CertificateText.IsMadeOf}

-- a run whose indices are those of n entries, with a wake-up or more, none of them after LAST
pub record RunIsFit (n : ℕ) (r : Run) : Type 0 where
  pub among : IsAmong n r
  pub moments : HasMoments r

-- each run is fit, and they have at most LIMIT wake-ups; or the indices of the pair are those of entries
abbrev pub CanBeJudged : Forest → Body → Type 0
CanBeJudged g body = IsMadeOf (RunIsFit (length g.entries)) g.entries body
