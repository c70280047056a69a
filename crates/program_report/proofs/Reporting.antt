-- Reporting: what was told once a fault line was written and flushed, for `tell` and `Stop::report`.
use Rattle.std.proofs.Common.{◌≡◌, ℕ, Bool, IsTrue, List, Result, Ok, Err, OnOk, refl, inl, inr, ◌⊎◌}
use Rattle.std.specs.Prelude.{IsErrOf}
use Rattle.std.specs.Io.KnownBytes.{Appends, Keeps}
use Rattle.std.proofs.KnownBytes.{Appends-kept}
use Rattle.base_device.specs.{Failures.Counts, Seen.Seen, Seen.change, declared.fault.SinkFault.SinkFault}
use Rattle.base_device.specs.declared.fault.SinkFault.TheVariants as sink
use Rattle.program_report.specs.{Sent.GaveUp, Sent.Puts, Told.Reports}
use Rattle.program_report.proofs.Counting.{failed_once, still, later_once}

module _ (line : List ℕ) (old mid new : Seen) (in_memory : Bool) where
  flushed_or_not : (q : Result (Unit {0}) SinkFault) → mid.failed_calls ≡ old.failed_calls → OnOk q (IsTrue new.output.is_flushed) →
      (IsErrOf q sink.OutOfMemory → IsTrue in_memory) → Counts q mid.failed_calls new.failed_calls → IsTrue new.output.is_flushed ⊎ GaveUp (change in_memory old new)
  flushed_or_not (Ok u) count flushed memory more = inl flushed
  flushed_or_not (Err sink.Failed) count flushed memory more = inr (inl (later_once _ _ _ count more))
  flushed_or_not (Err sink.OutOfMemory) count flushed memory more = inr (inr (memory refl))

  -- the line was put, and then the device was flushed
  pub reported : (r q : Result (Unit {0}) SinkFault) → Puts r line (change in_memory old mid) → Keeps mid.output.written new.output.written →
      OnOk q (IsTrue new.output.is_flushed) → (IsErrOf q sink.OutOfMemory → IsTrue in_memory) → Counts q mid.failed_calls new.failed_calls → Reports line (change in_memory old new)
  reported (Ok u) q (whole, count) kept flushed wants more = inl (Appends-kept _ _ _ _ whole kept, flushed_or_not q count flushed wants more)
  reported (Err sink.Failed) q (front, count) kept flushed wants more =
      inr ((front.0, Appends-kept _ _ _ _ front.1 kept), inl (still q _ _ _ (failed_once old.failed_calls mid.failed_calls count) more))
  reported (Err sink.OutOfMemory) q (front, count, memory) kept flushed wants more = inr ((front.0, Appends-kept _ _ _ _ front.1 kept), inr memory)
