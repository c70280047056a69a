-- It goes on from its begin.
use Rattle.std.proofs.Common.{◌≡◌, ◌≤◌, [], IfSome, arith, length, subst, sym, vec_capacity}
use Rattle.vault_lanes.proofs.Moved.{begun, refused_then}
use Rattle.vault_lanes.specs.code.Courses.{came_by}
use Rattle.vault_http.specs.Written.{request_text}
use Rattle.vault_lanes.proofs.running.begin.Goals as goal

pub returns-clause-begins : goal.returns-clause-begins
returns-clause-begins g c =
    let text : c.new.result.unsent.items ≡ request_text c.args.ask.now.request = rw c.new.ensures.unsent c.in_ok-text.ensures in
    let none : came_by c.new.result.course ≡ [] = search in
    let room : length c.args.room.now ≤ vec_capacity c.new.result.course.piece =
    subst (λ p. length c.args.room.now ≤ vec_capacity p) (sym c.new.ensures.piece) (omega (arith, c.in_ok-reserve.ensures.ok)) in
    begun g.W.Line.Line.written g.W.Line.Line.remaining g.W.Line.Line.failures g.W.Line.Line.reason (request_text c.args.ask.now.request) c.args.allowance c.new.result c.go_on.new.self c.go_on.result (record {
      unwritten = subst (λ l. IfSome (g.W.Line.Line.written l) (λ bytes. bytes ≡ [])) (sym c.new.ensures.line) c.dial-line.ensures.unwritten;
      unsent = text;
      allowance_is = c.new.ensures.allowance;
      stage = c.new.ensures.stage;
      none = none;
      unended = c.new.ensures.unended;
    }) c.go_on.ensures.moves c.go_on.ensures.wants (refused_then _ _ c.go_on.result c.go_on.ensures.holds room)
