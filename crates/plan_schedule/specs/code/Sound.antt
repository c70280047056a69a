-- What is known of the terms that a schedule looks at. No public clause cites it.
-- Source: this project's own.
use Rattle.std.specs.Prelude.{◌≡◌, ℕ, ◌≤◌, ◌<◌, length}
use Rattle.base_moment.specs.declared.moment.TheConstants.{LAST}
use Rattle.plan_schedule.specs.{Prospect.Prospect, Prospect.terms_of, Terms.Terms}

-- each entry that falls short can be asked the margin before its end, gains by it, and is needed at a moment at most
pub record TermsAreSound (t : Terms) : Type 0 where
  pub step : (i : ℕ) → t.end i < t.need i → t.margin < t.step i
  pub end : (i : ℕ) → t.end i < t.need i → t.margin ≤ t.end i
  pub need : (i : ℕ) → t.need i ≤ LAST

-- what is known of its terms
pub record IsInSight (o : Prospect) : Type 0 where
  pub count : length o.loads ≡ length o.forest.entries
  pub sound : TermsAreSound (terms_of o)
