-- A file that a call on another one leaves alone, and what a crash leaves at the end of a run.
use Rattle.std.proofs.Common.{◌≡◌, ⊎_elim, ℕ, ◌≤◌, List, false, sym, ◌∙◌}
use Rattle.std.proofs.lemmas.Bool.{true≢false, cases_Bool}
use Rattle.std.proofs.lemmas.Slice.Eq.{bytes_eq-Decides}
use Rattle.std.specs.Str.{bytes_eq}
use Rattle.base_disk.specs.{Image.Image, State.DiskState, State.LeavesOnly}

pub at_end : (old new : DiskState) (P : Image → Type 0) → LeavesOnly old new P → ((t : ℕ) (c : Image) → t ≤ new.moment → new.may_leave c → new.left_since t c) → (c : Image) → new.may_leave c → P c
at_end old new P run counts c now = run.each c (counts old.moment c run.later now)

-- a path is another than this one either way round
pub apart_back : (path other : List ℕ) → bytes_eq path other ≡ false → bytes_eq other path ≡ false
apart_back path other apart = ⊎_elim
    (λ same. absurd (true≢false (sym ((bytes_eq-Decides path other).1 (sym ((bytes_eq-Decides other path).0 same))) ∙ apart)))
    (λ no. no)
    (cases_Bool (bytes_eq other path))
