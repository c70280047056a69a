-- Rooms: the room of the entries from an index on. For `room_of`.
use Rattle.std.proofs.Common.{◌≡◌, refl, ℕ, zero, suc, ◌+◌, ◌*◌, ◌/◌, ◌<◌, ◌≤◌, List, [], ◌∷◌, length, drop, min, arith}
use native.Mathlib.Numerals.{unary_clauses}
use Rattle.plan_forest.specs.{declared.entry.Entry.Entry, declared.forest.TheConstants.MARGIN_MAX, Forest.Forest, Forest.entry_at, Margins.IsMargin, Push.IsForest}
use Rattle.plan_forest.proofs.Margins.{own_allowed}
use Rattle.plan_spread.specs.Margins.{room_of, wider}

pub small : (es : List Entry) → room_of es ≤ MARGIN_MAX
small [] = omega arith
small (e ∷ es) = let rest = small es in omega arith

-- the room from an index on is that of its entry, or that from the next one on
after : (es : List Entry) (i : ℕ) → i < length es → room_of (drop i es) ≡ min ((entry_at es i).step * 3 / 4) (room_of (drop (suc i) es))
unfolding entry_at
after [] i within = absurd (omega (arith, within))
after (e ∷ es) zero within = refl
after (e ∷ es) (suc i) within = after es i (omega (arith, within))

pub next : (es : List Entry) (i : ℕ) → i < length es → room_of (drop i es) ≡ min ((entry_at es i).step * 3 / 4) (room_of (drop (i + 1) es))
next es i within = simp unary_clauses (after es i within)

-- after the last one nothing is narrower than the greatest margin
pub none_left : (es : List Entry) → room_of (drop (length es) es) ≡ MARGIN_MAX
none_left [] = refl
none_left (e ∷ es) = none_left es

-- each step has the room
pub below : (es : List Entry) (i : ℕ) → i < length es → room_of es ≤ (entry_at es i).step * 3 / 4
unfolding entry_at
below [] i within = absurd (omega (arith, within))
below (e ∷ es) zero within = omega arith
below (e ∷ es) (suc i) within = let rest = below es i (omega (arith, within)) in omega (arith, rest)

-- a wider margin is allowed as the own one is
pub wider_allowed : (g : Forest) (seconds : ℕ) → IsForest g → IsMargin g.entries (wider g.margin seconds (room_of g.entries))
wider_allowed g seconds forest =
    let own = own_allowed g forest in
    let above = own.above in
    let within = own.within in
    let most = small g.entries in
    record {
      above = omega (arith, above);
      within = omega (arith, within, most);
      below = λ i here. (let step = own.below i here in let room = below g.entries i here in omega (arith, above, step, room));
    }
