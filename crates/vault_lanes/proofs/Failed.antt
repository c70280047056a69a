-- What a failure of the connection makes of a request: for `Lane` and `read_on`.
use Rattle.std.proofs.Common.{◌≡◌, ◌∙◌, ℕ, ◌+◌, ◌<◌, ◌-◌, Bool, IsTrue, true, false, inl, inr, List, drop, length, Option, None, Some, Result, Ok, Err, IfOk, ap, arith, refl, subst, sym, nat_lt, if◌then◌else◌}
use Rattle.std.proofs.lemmas.Bool.{false≢true}
use Rattle.std.proofs.lemmas.List.{length-drop}
use Rattle.std.specs.Io.KnownBytes.{Keeps}
use Rattle.vault_lanes.specs.{Allowed.deadline, Lanes.IsCounted, Losses.Answer, Stages.failed, Stages.waits, declared.allowance.Allowance.Allowance, declared.loss.Loss.Loss, declared.reason.ConnectReason.ConnectReason}
use Rattle.vault_lanes.specs.{declared.stage.RequestStage.RequestStage, declared.stage.RequestStage.TheVariants.Connecting}
use Rattle.vault_lanes.specs.Failing.{AreCut, FailsAs, FailsMore, answer_of_sending}
use Rattle.vault_lanes.specs.declared.loss.Loss.TheVariants as losses

pub fails_none : (x : Option ℕ) → FailsMore 0 x x
fails_none None = tt
fails_none (Some n) =
    let same : n ≡ 0 + n = omega arith in
    ap Some same

pub kept_then : (more : ℕ) (x y z : Option ℕ) → FailsMore 0 x y → FailsMore more y z → FailsMore more x z
kept_then more None y z kept then' = tt
kept_then more (Some n) y z kept then' =
    let same : 0 + n ≡ n = omega arith in
    subst (λ m. FailsMore more (Some m) z) same (subst (λ v. FailsMore more v z) kept then')

-- what is cut of the rest is cut of all
cut_kept : (old mid : List ℕ) (r s : Option (List ℕ)) → mid ≡ old → Keeps r s → AreCut mid s → AreCut old r
cut_kept old mid None s same keeps h = tt
cut_kept old mid (Some bytes) None same keeps h = absurd keeps
cut_kept old mid (Some bytes) (Some rest) same keeps h = subst (λ o. AreCut o (Some bytes)) same (subst (λ b. AreCut mid (Some b)) keeps h)

-- and what comes of it then
pub kept_as : (a : Option Answer) (old mid : List ℕ) (r s : Option (List ℕ)) (why : ConnectReason) (x y z : Option ℕ) → mid ≡ old → Keeps r s → FailsMore 0 x y → FailsAs mid s why a y z → FailsAs old r why a x z
kept_as None old mid r s why x y z same keeps kept h = kept_then 0 x y z kept h
kept_as (Some (Ok dated)) old mid r s why x y z same keeps kept h = kept_then 0 x y z kept h
kept_as (Some (Err (losses.Connect reason))) old mid r s why x y z same keeps kept h = (kept_then 1 x y z kept h.0, h.1)
kept_as (Some (Err losses.Timeout)) old mid r s why x y z same keeps kept h = kept_then 0 x y z kept h
kept_as (Some (Err losses.Closed)) old mid r s why x y z same keeps kept (inl h) = inl (kept_then 1 x y z kept h)
kept_as (Some (Err losses.Closed)) old mid r s why x y z same keeps kept (inr h) = inr (kept_then 0 x y z kept h.0, cut_kept old mid r s same keeps h.1)
kept_as (Some (Err losses.Reply)) old mid r s why x y z same keeps kept h = kept_then 0 x y z kept h
kept_as (Some (Err (losses.Status status))) old mid r s why x y z same keeps kept h = kept_then 0 x y z kept h

-- a try that failed
pub failed_as : (stage : RequestStage) (old : List ℕ) (r : Option (List ℕ)) (why : ConnectReason) (x y : Option ℕ) → FailsMore 1 x y → FailsAs old r why (Some (Err (failed why stage))) x y
failed_as Connecting old r why x y h = (h, refl)
failed_as _ old r why x y h = inl h

-- one that would have had to wait
pub waits_as : (result : Result Unit Loss) (a : Allowance) (now : ℕ) (stage : RequestStage) (old : List ℕ) (r : Option (List ℕ)) (why : ConnectReason) (x y : Option ℕ) → result ≡ waits a now stage → FailsMore 0 x y
    → FailsAs old r why (answer_of_sending result) x y
waits_as result a now stage old r why x y is h = subst (λ s. FailsAs old r why (answer_of_sending s) x y) (sym is) (by_test (nat_lt now (deadline a stage)))
  where
    by_test : (b : Bool) → FailsAs old r why (answer_of_sending (if b then Ok tt else Err losses.Timeout)) x y
    by_test true = h
    by_test false = h

pub kept_all : {E : Type 0} (result : Result (Option Answer) E) (old mid : List ℕ) (r s : Option (List ℕ)) (why : ConnectReason) (x y z : Option ℕ) → mid ≡ old → Keeps r s → FailsMore 0 x y → IfOk result (λ a. FailsAs mid s why a y z)
    → IfOk result (λ a. FailsAs old r why a x z)
kept_all (Ok a) old mid r s why x y z same keeps kept h = kept_as a old mid r s why x y z same keeps kept h
kept_all (Err e) old mid r s why x y z same keeps kept h = tt

-- bytes that came are no failure of the connection
pub counted_as : (a : Allowance) (now : ℕ) (stage new : RequestStage) (said : Answer) (old : List ℕ) (r : Option (List ℕ)) (why : ConnectReason) (x y : Option ℕ) → IsCounted a now stage (Some said) new → FailsMore 0 x y
    → (said ≡ Err losses.Closed → AreCut old r) → FailsAs old r why (Some said) x y
counted_as a now stage new (Ok dated) old r why x y counted h cut = h
counted_as a now stage new (Err (losses.Connect reason)) old r why x y counted h cut = absurd counted
counted_as a now stage new (Err losses.Closed) old r why x y counted h cut = inr (h, cut refl)
counted_as a now stage new (Err _) old r why x y counted h cut = h

-- ---- whether it failed while a text was written
