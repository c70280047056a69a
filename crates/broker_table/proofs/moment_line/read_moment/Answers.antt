-- Where there is no line, or one that spells no moment, the input has no moment in front, and its line is passed.
use Rattle.std.proofs.Common.{◌∙◌, ◌<◌, ◌++◌, ◌∷◌, [], ℕ, List, Option, Vec, Global, IfSome, Ok, ap, inl, length, subst}
use Rattle.std.specs.Io.KnownBytes.{Consumes}
use Rattle.broker_table.specs.{declared.moment_line.TheConstants.MOST_LINE, MomentLine.IsOneLine}
use Rattle.broker_table.proofs.MomentLines.{no_line_no_moment, other_line}
use Rattle.broker_table.proofs.moment_line.read_moment.Goals as goal

pub returns-in_default-clause-none : goal.returns-in_default-clause-none
returns-in_default-clause-none g c = λ is. no_line_no_moment (g.S.Device.seen c.args.source.now).input.remaining (c.in_ok-line.ensures.none (ap (λ o. Ok o) c.in_default.is))

pub returns-in_default-number_up_to-clause-none : goal.returns-in_default-number_up_to-clause-none
returns-in_default-number_up_to-clause-none g c = λ is.
    let before = (g.S.Device.seen c.args.source.now).input.remaining in
    let now = (g.S.Device.seen c.read_line.new.source).input.remaining in
    let line : List ℕ = c.in-Some.line.items in
    let given : Consumes before now (line ++ 10 ∷ []) = subst (λ (o : Option (Vec ℕ Global)). IfSome o (λ text. Consumes before now (text.items ++ 10 ∷ []))) c.in-Some.is c.in_ok-line.ensures.line in
    let one : IsOneLine line = subst (λ (o : Option (Vec ℕ Global)). IfSome o (λ text. IsOneLine text.items)) c.in-Some.is c.in_ok-line.ensures.one in
    other_line before now line given one (λ n late same. c.number_up_to.ensures.none c.in_default-number_up_to.is n late (c.deref.ensures.value ∙ same))

pub returns-in_default-clause-passed : goal.returns-in_default-clause-passed
returns-in_default-clause-passed g c = λ is. c.in_ok-line.ensures.passed (ap (λ o. Ok o) c.in_default.is)

pub returns-in_default-number_up_to-clause-passed : goal.returns-in_default-number_up_to-clause-passed
returns-in_default-number_up_to-clause-passed g c = λ is.
    let before = (g.S.Device.seen c.args.source.now).input.remaining in
    let now = (g.S.Device.seen c.read_line.new.source).input.remaining in
    let line : List ℕ = c.in-Some.line.items in
    let given : Consumes before now (line ++ 10 ∷ []) = subst (λ (o : Option (Vec ℕ Global)). IfSome o (λ text. Consumes before now (text.items ++ 10 ∷ []))) c.in-Some.is c.in_ok-line.ensures.line in
    let one : IsOneLine line = subst (λ (o : Option (Vec ℕ Global)). IfSome o (λ text. IsOneLine text.items)) c.in-Some.is c.in_ok-line.ensures.one in
    let short : length line < MOST_LINE = subst (λ (o : Option (Vec ℕ Global)). IfSome o (λ text. length text.items < MOST_LINE)) c.in-Some.is c.in_ok-line.ensures.short in
    (line, one, inl (short, given))
