-- It is heard from where it was before it was written on.
use Rattle.std.proofs.Common.{◌≡◌, ◌++◌, ◌∙◌, ap, subst, sym}
use Rattle.std.specs.Io.KnownBytes.{Keeps}
use Rattle.std.proofs.KnownBytes.{Keeps-refl}
use Rattle.vault_lanes.specs.{code.Courses.came_by, code.Ways.left_of}
use Rattle.vault_lanes.proofs.Arrives.{heard_from}
use Rattle.vault_lanes.proofs.lane.Lane.go_on.Goals as goal
use Rattle.vault_lanes.proofs.lane.Lane.go_on.Goals.{then-not-is_empty+in_default+else-not-is_empty-2, else-not-is_empty}

pub returns-clause-heard : goal.returns-clause-heard
returns-clause-heard g c =
    let was = c.args.self.now in
    let mid = c.if-not-is_empty.self in
    let kept : (came_by mid.course ≡ came_by was.course) × Keeps (left_of g.L.Line.remaining was) (left_of g.L.Line.remaining mid) = elim c.if-not-is_empty.branch [
      | then-not-is_empty+in_default+else-not-is_empty-2 w ↦
          let same : came_by w.write_on.new.self.course ≡ came_by was.course = ap (λ l. l ++ w.write_on.new.self.course.piece.items) w.write_on.ensures.arriving
          ∙ ap (λ v. was.course.arriving ++ v.items) w.write_on.ensures.piece in
          (ap (λ s. came_by s.course) w.self-is ∙ same, subst (λ s. Keeps (left_of g.L.Line.remaining was) (left_of g.L.Line.remaining s)) (sym w.self-is) w.write_on.ensures.remaining)
      | else-not-is_empty w ↦
          (ap (λ s. came_by s.course) w.self-is, subst (λ s. Keeps (left_of g.L.Line.remaining was) (left_of g.L.Line.remaining s)) (sym w.self-is) (Keeps-refl (left_of g.L.Line.remaining was)))
    ] in
    heard_from c.read_on.result (came_by was.course) (came_by mid.course) (came_by c.read_on.new.course) _ _ _ kept.0 kept.1 c.read_on.ensures.heard
