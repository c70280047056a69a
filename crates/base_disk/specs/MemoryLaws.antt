-- What the trait asks of the moments of a disk in memory.
use Rattle.std.specs.Prelude.{List, [], ◌∷◌}
use Rattle.std.proofs.Common.{inr, ⊎_elim, le_trans, le_of_lt, lt-suc_self}
use Rattle.std.proofs.Math.Nat.{not-suc-le_self}
use Rattle.base_disk.specs.{Image.Image, State.DiskState, History.state_after_call, History.state_after_calls, Memory.at_first, Memory.image_of, Memory.kept_of, Memory.memory_state, Memory.IsLawful, declared.call.DiskCall.DiskCall}
use Rattle.base_disk.specs.{declared.fault.DiskTrouble.DiskTrouble, declared.memory.MemoryDisk.MemoryDisk}

lawful_first : (image kept : Image) (why : DiskTrouble) → IsLawful (at_first image kept why)
lawful_first image kept why = record {
  counts = λ t c le now. (le, now);
  only = λ t c le left. left.1;
  none_later = λ t c left. left.0;
}

lawful_after : (call : DiskCall) (s : DiskState) → IsLawful s → IsLawful (state_after_call call s)
lawful_after call s laws = record {
  counts = λ t c le now. inr (le, now);
  only = λ t c le left. ⊎_elim (λ was. absurd (not-suc-le_self s.moment (le_trans le (laws.none_later t c was)))) (λ now. now.1) left;
  none_later = λ t c left. ⊎_elim (λ was. le_trans (laws.none_later t c was) (le_of_lt (lt-suc_self s.moment))) (λ now. now.0) left;
}

lawful_all : (calls : List DiskCall) (s : DiskState) → IsLawful s → IsLawful (state_after_calls calls s)
lawful_all [] s laws = laws
lawful_all (call ∷ calls) s laws = lawful_all calls (state_after_call call s) (lawful_after call s laws)

pub memory_lawful : (m : MemoryDisk) → IsLawful (memory_state m)
memory_lawful m =
    let laws = lawful_all m.calls.items (at_first (image_of m.files.items) (kept_of m.files.items m.kept) m.fault) (lawful_first (image_of m.files.items) (kept_of m.files.items m.kept) m.fault) in
    record { counts = laws.counts; only = laws.only; none_later = laws.none_later }
