-- What was not judged yet is judged before more is read: for `read_on`.
use Rattle.std.proofs.Common.{◌≡◌, ℕ, ◌⊎◌, inl, inr, IsTrue, ap, subst, ◌∙◌}
use Rattle.vault_lanes.specs.{Lanes.AreWaitedFor, code.Courses.came_by, code.Courses.is_unjudged, declared.lane.Course.Course}

-- nothing was read or judged yet
pub record IsStill {L : Type 0} (counter : ℕ) (was line : L) (old course : Course) : Type 0 where
  pub none : counter ≡ 0
  pub uncalled : line ≡ was
  pub same : came_by course ≡ came_by old
  pub ended : course.has_ended ≡ old.has_ended
  pub unjudged : IsTrue (is_unjudged course)

-- where there is no answer by what was held, more is waited for
pub waited_first : {L R : Type 0} (counter : ℕ) (was line read : L) (old course got : Course) → (IsTrue (is_unjudged old) → IsStill counter was line old course ⊎ AreWaitedFor (came_by old))
    → (IsTrue (is_unjudged course) → (read ≡ line) × ((got ≡ course) × R)) → AreWaitedFor (came_by got) → IsTrue (is_unjudged old) → AreWaitedFor (came_by old)
waited_first counter was line read old course got first held h u = elim (first u) [
  | inl s ↦ subst AreWaitedFor (ap came_by (held s.unjudged).1.0 ∙ s.same) h
  | inr w ↦ w
]
