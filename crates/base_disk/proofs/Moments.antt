-- How a run of calls of a disk goes on.
use Rattle.std.proofs.Common.{inl, inr, ⊎_elim, arith}
use Rattle.base_disk.specs.{Image.Image, State.DiskState, State.Elapses, State.LeavesOnly}

-- before the first call
pub started : (old : DiskState) (P : Image → Type 0) → ((c : Image) → old.left_since old.moment c → old.may_leave c) → ((c : Image) → old.may_leave c → P c) → LeavesOnly old old P
started old P only here = record { later = omega arith; each = λ c left. here c (only c left); before = λ t c le left. inl left }

-- one call more, after which a crash leaves what has P
pub goes_on : (old mid new : DiskState) (P : Image → Type 0) → LeavesOnly old mid P → Elapses mid new → ((c : Image) → new.may_leave c → P c) → LeavesOnly old new P
goes_on old mid new P so_far time here = record {
  later = omega (arith, so_far.later, time.later);
  each = λ c left. ⊎_elim (so_far.each c) (here c) (time.nothing_else old.moment c so_far.later left);
  before = λ t c le left. ⊎_elim (so_far.before t c le) (λ now. inr (here c now)) (time.nothing_else t c (omega (arith, le, so_far.later)) left);
}

-- a run of calls, and then another
pub and_then : (old mid new : DiskState) (P Q : Image → Type 0) → LeavesOnly old mid P → LeavesOnly mid new Q → ((c : Image) → Q c → P c) → LeavesOnly old new P
and_then old mid new P Q first second means = record {
  later = omega (arith, first.later, second.later);
  each = λ c left. ⊎_elim (first.each c) (means c) (second.before old.moment c first.later left);
  before = λ t c le left. ⊎_elim (first.before t c le) (λ now. inr (means c now)) (second.before t c (omega (arith, le, first.later)) left);
}

-- what is left has as much as follows from it
pub weaker : (old new : DiskState) (P Q : Image → Type 0) → LeavesOnly old new P → ((c : Image) → P c → Q c) → LeavesOnly old new Q
weaker old new P Q run means = record {
  later = run.later;
  each = λ c left. means c (run.each c left);
  before = λ t c le left. ⊎_elim (λ was. inl was) (λ now. inr (means c now)) (run.before t c le left);
}
