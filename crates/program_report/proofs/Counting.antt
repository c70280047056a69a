-- Counting: a call that failed shows in the count, also after a further call.
use Rattle.std.proofs.Common.{◌≡◌, ◌∙◌, ap, ℕ, ◌+◌, ◌-◌, ◌^◌, Bool, true, false, cond, Result, Ok, Err, nat_lt, refl, sym, subst, arith, inl, inr}
use Rattle.std.proofs.lemmas.Bool.Decides.{nat_tests}
use Rattle.base_device.specs.declared.fault.SinkFault.{SinkFault}
use Rattle.base_device.specs.Failures.{Counts, HasFailed, one_more}
use Rattle.base_device.specs.declared.fault.SinkFault.TheVariants as sink

risen : (b : Bool) (n : ℕ) → b ≡ nat_lt n (2 ^ 64 - 1) → HasFailed n (cond b (n + 1) n)
risen true n e = inl (omega arith)
risen false n e = inr (grind (arith, nat_tests))

later : (b : Bool) (n m : ℕ) → HasFailed n m → HasFailed n (cond b (m + 1) m)
later true n m (inl h) = inl (omega (arith, h))
later true n m (inr h) = inr (omega (arith, h))
later false n m h = h

pub still : (q : Result (Unit {0}) SinkFault) (n m k : ℕ) → HasFailed n m → Counts q m k → HasFailed n k
still (Ok u) n m k h e = subst (HasFailed n) (sym e) h
still (Err sink.Failed) n m k h e = subst (HasFailed n) (sym e) (later (nat_lt m (2 ^ 64 - 1)) n m h)
still (Err sink.OutOfMemory) n m k h e = subst (HasFailed n) (sym e) h

pub failed_once : (n m : ℕ) → m ≡ one_more n → HasFailed n m
failed_once n m e = subst (HasFailed n) (sym e) (risen (nat_lt n (2 ^ 64 - 1)) n refl)

pub later_once : (n m k : ℕ) → m ≡ n → k ≡ one_more m → HasFailed n k
later_once n m k e f = failed_once n k (f ∙ ap one_more e)
