-- Passed: what came so far is shown, and one read more. For `pass_on`, `begin` and `follow`.
use Rattle.std.proofs.Common.{◌≡◌, ◌∙◌, ℕ, ◌+◌, ◌<◌, ◌≤◌, Bool, List, [], ◌++◌, Some, None, ap, append-nil, arith, inl, inr, length, length-append, refl, subst, sym}
use Rattle.std.proofs.KnownBytes.{Appends-trans, Consumes-trans}
use Rattle.std.specs.Io.KnownBytes.{Consumes}
use Rattle.base_device.specs.Failures.{one_more as one_more_failed}
use Rattle.base_device.specs.Seen.{Change, Seen, change}
use Rattle.program_calls.specs.declared.following.Followed.{Followed}
use Rattle.program_calls.specs.Following.{PassesOn, PassesOne, ReadsOn, ShowsAll, TakesBytes}
use Rattle.program_calls.specs.declared.following.Followed.TheVariants as ways

-- what came so far is shown, in so many pieces, and no call failed
pub record SoFar (pieces : ℕ) (line out : Change) : Type 0 where
  pub came : List ℕ
  pub taken : TakesBytes came line
  pub reads_on : ReadsOn line
  pub many : pieces ≤ length came
  pub shown : ShowsAll came out
  pub still : out.new.failed_calls ≡ out.old.failed_calls

one_longer : (n : ℕ) (xs ys : List ℕ) → n ≤ length xs → 0 < length ys → n + 1 ≤ length (xs ++ ys)
one_longer n xs ys many some = let l = length-append xs ys in grind (arith, l, many, some)

module _ (l0 l1 l2 o0 o1 o2 : Seen) (a b : Bool) (n : ℕ) where
  pub one_more : SoFar n (change a l0 l1) (change b o0 o1) → PassesOne None (change a l1 l2) (change b o1 o2) → SoFar (n + 1) (change a l0 l2) (change b o0 o2)
  one_more s p = record {
    came = s.came ++ p.0;
    taken = (Consumes-trans _ _ _ s.came p.0 s.taken.0 p.1.0.0, p.1.0.1 ∙ s.taken.1);
    reads_on = p.1.1.0 ∙ s.reads_on;
    many = one_longer n s.came p.0 s.many p.1.1.1;
    shown = (Appends-trans _ _ _ s.came p.0 s.shown.0 p.1.1.2.0, inr p.1.1.2.1);
    still = p.1.1.3 ∙ s.still;
  }

  -- nothing more came
  nothing_more : (xs ys : List ℕ) → ys ≡ [] → xs ++ ys ≡ xs
  nothing_more xs ys is = ap (λ l. xs ++ l) is ∙ append-nil xs

  takes_no_more : (xs ys : List ℕ) → ys ≡ [] → TakesBytes xs (change a l0 l1) → TakesBytes ys (change a l1 l2) → TakesBytes xs (change a l0 l2)
  takes_no_more xs ys is first then =
      (subst (Consumes l0.input.remaining l2.input.remaining) (nothing_more xs ys is) (Consumes-trans _ _ _ xs ys first.0 then.0), then.1 ∙ first.1)

  shows_no_more : (xs : List ℕ) → o2 ≡ o1 → ShowsAll xs (change b o0 o1) → ShowsAll xs (change b o0 o2)
  shows_no_more xs same h = subst (λ (o : Seen). ShowsAll xs (change b o0 o)) (sym same) h

  pub ended : (followed : Followed) → SoFar n (change a l0 l1) (change b o0 o1) → PassesOne (Some followed) (change a l1 l2) (change b o1 o2) → PassesOn followed (change a l0 l2) (change b o0 o2)
  ended ways.Ended s p =
      (s.came, (takes_no_more s.came p.0 p.1.1.1 s.taken p.1.0, (p.1.1.0 ∙ s.reads_on, p.1.1.2, shows_no_more s.came p.1.1.3 s.shown)))
  ended ways.Lost s p = (s.came, (takes_no_more s.came p.0 p.1.1.1 s.taken p.1.0, (inl (p.1.1.0 ∙ ap one_more_failed s.reads_on), shows_no_more s.came p.1.1.2 s.shown)))
  ended (ways.Stopped stop) s p = (
    s.came ++ p.0,
    (
      (Consumes-trans _ _ _ s.came p.0 s.taken.0 p.1.0.0, p.1.0.1 ∙ s.taken.1),
      (
        p.1.1.0 ∙ s.reads_on,
        record {
          before = s.came;
          last = p.0;
          mid = o1;
          parts = refl;
          short = p.1.1.1;
          shown = s.shown;
          still = s.still;
          stopped = p.1.1.2;
        },
      ),
    ),
  )
