-- Points: a moment as people are told it, a date in UTC.
-- Source: this project's own, docs/running.md, "What the operator sees".
use Rattle.std.specs.Prelude.{◌≡◌, ℕ, ◌==◌, if◌then◌else◌, List, Option, Some, None, codes, nat_lt}
use Rattle.base_moment.specs.{Rfc3339.IsDateText, declared.moment.TheConstants.LAST}
use Rattle.agent_pages.specs.declared.point.Point.{Point}
use Rattle.agent_pages.specs.declared.point.Point.TheVariants.{Unknown, At, Always}

-- 0 is no moment, and the last one stands for always
abbrev pub point_at : ℕ → Point
point_at moment = if moment == 0 then Unknown else (if nat_lt moment LAST then At moment else Always)

abbrev pub point_of : Option ℕ → Point
point_of None = Unknown
point_of (Some moment) = point_at moment

abbrev pub SaysPoint : Point → List ℕ → Type 0
SaysPoint Unknown text = text ≡ codes "-"
SaysPoint (At moment) text = IsDateText text moment
SaysPoint Always text = text ≡ codes "always"
