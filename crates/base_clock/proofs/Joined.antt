-- Calls that follow each other.
use Rattle.std.proofs.Common.{◌≡◌, ◌∙◌, List, [], ◌++◌, Option, None, Some, IfSome, ap, append_assoc, append-nil, refl, subst, sym}
use Rattle.base_clock.specs.{Laws.JoinedLaw, Laws.NoneLaw, declared.call.ClockCall.ClockCall}

-- these are known, and are others and then `more`
abbrev Adds : Option (List ClockCall) → List ClockCall → List ClockCall → Type 0
Adds old more now = (before : List ClockCall) × (old ≡ Some before) × (now ≡ before ++ more)

added : (cs ds : List ClockCall) (a b c : Option (List ClockCall)) → IfSome b (Adds a cs) → IfSome c (Adds b ds) → IfSome c (Adds a (cs ++ ds))
added cs ds a b None first second = tt
added cs ds a b (Some now) first second =
    let mid = subst (λ (o : Option (List ClockCall)). IfSome o (Adds a cs)) second.1 first in
    (mid.0, mid.1, second.2 ∙ ap (λ l. l ++ ds) mid.2 ∙ append_assoc mid.0 cs ds)

pub joined_law : JoinedLaw
joined_law cs ds a b c first second = added cs ds a.calls b.calls c.calls first second

nothing : (o : Option (List ClockCall)) → IfSome o (Adds o [])
nothing None = tt
nothing (Some cs) = (cs, refl, sym (append-nil cs))

pub none_law : NoneLaw
none_law s = nothing s.calls
