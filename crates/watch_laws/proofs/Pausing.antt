-- Pausing: how long an entry that failed may wait. For the law of pauses.
use Rattle.std.proofs.Common.{◌≡◌, ◌∙◌, ℕ, ◌-◌, ◌*◌, ◌/◌, ◌≤◌, Bool, true, false, ◌&&◌, if◌then◌else◌, Option, Some, None, max, min, nat_le, nat_lt, refl, ap, arith}
use Rattle.std.proofs.lemmas.Bool.Decides.{nat_tests}
use Rattle.std.proofs.lemmas.Bool.{and_from, cond-false, cond-true}
use Rattle.watch_machine.specs.{declared.track.End.End, declared.track.Track.Track, declared.track.Try.Try, Clocks.ms}
use Rattle.watch_machine.specs.declared.track.End.TheVariants.{Unknown, At, Never}
use Rattle.watch_machine.specs.Pauses.{cap, cap_of, left_to}
use Rattle.watch_machine.proofs.Cases.{if_both}
use Rattle.watch_laws.specs.Pauses.{IsLeft, LongestLaw, PauseLaw, longest_by}

-- what is left, as the machine has it
left_is : (margin at : ℕ) (x : Track) (t : Try) (left : ℕ) → IsLeft at x left → cap margin at x t ≡ cap_of (ms (2 * margin)) t.lost (Some left)
unfolding cap
left_is margin at x t left h =
    let twice = ms (2 * margin) in
    let ahead = h.ahead in
    let test : nat_lt at (ms h.end) ≡ true = grind (arith, nat_tests, ahead) in
    let same : ms h.end - at ≡ left = let is = h.is in omega (arith, is) in
    ap (λ e. cap_of twice t.lost (left_to at twice e t.lost)) h.ends
    ∙ ap (cap_of twice t.lost) (cond-true (nat_lt at (ms h.end)) (Some (ms h.end - at)) None test)
    ∙ ap (λ n. cap_of twice t.lost (Some n)) same

-- the greatest pause by what is left
by_sixteenth : (twice left : ℕ) (lost : Bool) → cap_of twice lost (Some left) ≤ max 1000 (left / 16)
by_sixteenth twice left lost = if_both (λ m. min m (max 1000 (left / 16)) ≤ max 1000 (left / 16)) (lost && nat_le left twice) 30000 300000 (omega arith) (omega arith)

by_most : (twice : ℕ) (lost : Bool) (o : Option ℕ) → cap_of twice lost o ≤ 300000
by_most twice lost None = omega arith
by_most twice lost (Some left) = if_both (λ m. min m (max 1000 (left / 16)) ≤ 300000) (lost && nat_le left twice) 30000 300000 (omega arith) (omega arith)

by_loss : (twice left : ℕ) (lost : Bool) → lost ≡ true → left ≤ twice → cap_of twice lost (Some left) ≤ 30000
by_loss twice left lost is near =
    let test : (lost && nat_le left twice) ≡ true = and_from lost (nat_le left twice) is (grind (arith, nat_tests, near)) in
    let same = cond-true {A = ℕ} (lost && nat_le left twice) 30000 300000 test in
    omega (arith, same)

sixteenth : (margin at : ℕ) (x : Track) (t : Try) (left : ℕ) → IsLeft at x left → cap margin at x t ≤ max 1000 (left / 16)
sixteenth margin at x t left h =
    let is = left_is margin at x t left h in
    let most = by_sixteenth (ms (2 * margin)) left t.lost in
    omega (arith, is, most)

near : (margin at : ℕ) (x : Track) (t : Try) (left : ℕ) → IsLeft at x left → t.lost ≡ true → left ≤ 2000 * margin → cap margin at x t ≤ 30000
near margin at x t left h lost low =
    let is = left_is margin at x t left h in
    let most = by_loss (ms (2 * margin)) left t.lost lost (omega (arith, low)) in
    omega (arith, is, most)

unknown_left : (at twice : ℕ) (lost : Bool) → lost ≡ true → left_to at twice Unknown lost ≡ Some twice
unknown_left at twice true is = refl
unknown_left at twice false is = absurd cc

unknown : (margin at : ℕ) (x : Track) (t : Try) → x.end ≡ Unknown → t.lost ≡ true → cap margin at x t ≤ 30000
unfolding cap
unknown margin at x t ends lost =
    let twice = ms (2 * margin) in
    let is : cap_of twice t.lost (left_to at twice x.end t.lost) ≡ cap_of twice t.lost (Some twice) =
    ap (λ e. cap_of twice t.lost (left_to at twice e t.lost)) ends ∙ ap (cap_of twice t.lost) (unknown_left at twice t.lost lost) in
    let most = by_loss twice twice t.lost lost (omega arith) in
    omega (arith, is, most)

most : (margin at : ℕ) (x : Track) (t : Try) → cap margin at x t ≤ 300000
unfolding cap
most margin at x t = by_most (ms (2 * margin)) t.lost (left_to at (ms (2 * margin)) x.end t.lost)

pub paused_so : PauseLaw
paused_so = record { sixteenth = sixteenth; near = near; unknown = unknown; most = most }

-- and just how long
by_left : (margin left : ℕ) (lost : Bool) → cap_of (ms (2 * margin)) lost (Some left) ≡ longest_by margin lost left
by_left margin left lost =
    let twice : ms (2 * margin) ≡ 2000 * margin = omega arith in
    ap (λ n. min (if lost && nat_le left n then 30000 else 300000) (max 1000 (left / 16))) twice

longest_ahead : (margin at : ℕ) (x : Track) (t : Try) (left : ℕ) → IsLeft at x left → cap margin at x t ≡ longest_by margin t.lost left
longest_ahead margin at x t left h = left_is margin at x t left h ∙ by_left margin left t.lost

-- by the end
by_end : (margin at : ℕ) (x : Track) (t : Try) (end : End) → x.end ≡ end → cap margin at x t ≡ cap_of (ms (2 * margin)) t.lost (left_to at (ms (2 * margin)) end t.lost)
unfolding cap
by_end margin at x t end ends = ap (λ e. cap_of (ms (2 * margin)) t.lost (left_to at (ms (2 * margin)) e t.lost)) ends

longest_unknown : (margin at : ℕ) (x : Track) (t : Try) → x.end ≡ Unknown → t.lost ≡ true → cap margin at x t ≡ longest_by margin true (2000 * margin)
longest_unknown margin at x t ends lost =
    let twice : ms (2 * margin) ≡ 2000 * margin = omega arith in
    by_end margin at x t Unknown ends ∙ ap (λ b. cap_of (ms (2 * margin)) b (left_to at (ms (2 * margin)) Unknown b)) lost ∙ ap (λ n. cap_of n true (Some n)) twice

longest_refused : (margin at : ℕ) (x : Track) (t : Try) → x.end ≡ Unknown → t.lost ≡ false → cap margin at x t ≡ 300000
longest_refused margin at x t ends lost = by_end margin at x t Unknown ends ∙ ap (λ b. cap_of (ms (2 * margin)) b (left_to at (ms (2 * margin)) Unknown b)) lost

longest_past : (margin at : ℕ) (x : Track) (t : Try) (end : ℕ) → x.end ≡ At end → 1000 * end ≤ at → cap margin at x t ≡ 300000
longest_past margin at x t end ends past =
    let test : nat_lt at (ms end) ≡ false = grind (arith, nat_tests, past) in
    by_end margin at x t (At end) ends ∙ ap (cap_of (ms (2 * margin)) t.lost) (cond-false (nat_lt at (ms end)) (Some (ms end - at)) None test)

longest_never : (margin at : ℕ) (x : Track) (t : Try) → x.end ≡ Never → cap margin at x t ≡ 300000
longest_never margin at x t ends = by_end margin at x t Never ends

pub longest_so : LongestLaw
longest_so = record { ahead = longest_ahead; unknown = longest_unknown; refused = longest_refused; past = longest_past; never = longest_never }
