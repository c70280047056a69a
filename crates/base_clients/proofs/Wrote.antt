-- What one write takes of what is left: for `write_on`.
use Rattle.std.proofs.Common.{◌≡◌, ℕ, ◌<◌, ◌≤◌, ◌∙◌, Bool, List, [], length, take, Option, None, Some, refl, sym, subst, ap, append-nil, length-take, arith}
use Rattle.std.proofs.lemmas.List.{length-take-le, take-take}
use Rattle.std.specs.Io.KnownBytes.{Appends, Consumes, IsAtEnd, Keeps}
use Rattle.base_clients.specs.{Guests.count, declared.guest.Guest.Guest, declared.stage.GuestStage.GuestStage}
use Rattle.base_device.specs.{Tries.IfTryDone, Tries.MatchTried, declared.tried.Tried.Tried}
use Rattle.base_device.specs.declared.tried.Tried.TheVariants.{Done, Waits, Failed}

-- a front of a front
front_of : {X : Type 0} (n m : ℕ) (xs : List X) → n ≤ m → take n (take m xs) ≡ take n xs
front_of n m xs le = take-take n m xs le

front_long : {X : Type 0} (m : ℕ) (xs : List X) → (length (take m xs) ≤ m) × (length (take m xs) ≤ length xs)
front_long m xs = let long = length-take m xs in (omega arith, omega arith)

pub within : (tried : Tried) (left piece : List ℕ) → piece ≡ take 4096 left → IfTryDone tried (λ n. (n ≤ length piece) × (0 < length piece → 0 < n)) → (count tried ≤ 4096) × (count tried ≤ length left)
within (Done n) left piece is bound =
    let long = front_long 4096 left in
    let few : n ≤ length (take 4096 left) = subst (λ p. n ≤ length p) is bound.0 in
    (omega arith, omega arith)
within Waits left piece is bound = (omega arith, omega arith)
within Failed left piece is bound = (omega arith, omega arith)

kept : (before after : Option (List ℕ)) → Keeps before after → Appends before after []
kept None after h = tt
kept (Some x) None h = absurd h
kept (Some x) (Some y) h = h ∙ sym (append-nil x)

pub appended : (tried : Tried) (left piece : List ℕ) (before after : Option (List ℕ)) → piece ≡ take 4096 left → count tried ≤ 4096
    → MatchTried tried (λ n. Appends before after (take n piece)) (Keeps before after) → Appends before after (take (count tried) left)
appended (Done n) left piece before after is few h = subst (λ l. Appends before after l) (ap (take n) is ∙ front_of n 4096 left few) h
appended Waits left piece before after is few h = kept before after h
appended Failed left piece before after is few h = kept before after h

-- a guest that one call has moved
pub made : {T : Type 0} (old : Guest T) (talk : T) (s t : GuestStage) (m n : ℕ) (v w : Bool) → s ≡ t → m ≡ n → v ≡ w
    → (let it : Guest T = record { id = old.id; talk = talk; stage = s; by = old.by; moved = m; waits = v } in it) ≡ record old { talk = talk; stage = t; moved = n; waits = w }
made {T} old talk s t m n v w stages moments waiting =
    ap (λ (x : GuestStage). let it : Guest T = record { id = old.id; talk = talk; stage = x; by = old.by; moved = m; waits = v } in it) stages
    ∙ ap (λ (x : ℕ). let it : Guest T = record { id = old.id; talk = talk; stage = t; by = old.by; moved = x; waits = v } in it) moments
    ∙ ap (λ (x : Bool). let it : Guest T = record { id = old.id; talk = talk; stage = t; by = old.by; moved = n; waits = x } in it) waiting

-- what has come of a read
pub counted : (tried : Tried) (room : List ℕ) → IfTryDone tried (λ n. n ≤ length room) → length (take (count tried) room) ≡ count tried
counted (Done n) room bound = let long = length-take n room in length-take-le n room bound
counted Waits room bound = refl
counted Failed room bound = refl

pub consumed : (tried : Tried) (room : List ℕ) (before after : Option (List ℕ)) → 0 < length room
    → MatchTried tried (λ n. Consumes before after (take n room) × (n ≡ 0 → 0 < length room → IsAtEnd after)) (Keeps before after)
    → MatchTried tried (λ n. Consumes before after (take (count tried) room) × (n ≡ 0 → IsAtEnd after)) (Keeps before after)
consumed (Done n) room before after some h = (h.0, λ z. h.1 z some)
consumed Waits room before after some h = h
consumed Failed room before after some h = h

pub within_room : (tried : Tried) (room : List ℕ) → IfTryDone tried (λ n. n ≤ length room) → count tried ≤ length room
within_room (Done n) room bound = bound
within_room Waits room bound = omega arith
within_room Failed room bound = omega arith
