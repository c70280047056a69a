-- Own certificates: a walk over forces finds no fault, so what is printed of a decision gets Yes.
use Rattle.std.proofs.Common.{◌≡◌, ◌∙◌, ℕ, ◌+◌, ◌<◌, ◌≤◌, ◌&&◌, true, List, [], ◌∷◌, Option, Some, None, Ok, nat_le, nat_lt, refl, sym, ap, subst, arith}
use Rattle.std.proofs.lemmas.{Bool.cond-true, Bool.Decides.nat_tests}
use Rattle.plan_forest.specs.{declared.entry.Entry.Entry, Forest.Forest, Forest.end_of, Push.IsForest}
use Rattle.plan_rule.specs.{Schedule.RisesStrictly, Unkeepable.AllKeepable, declared.force.Force.Force, declared.run.Run.Run, Runs.all_wakes, Runs.moments_of}
use Rattle.plan_rule.proofs.Keeping.{unkeepable}
use Rattle.plan_schedule.specs.Forces.{AreForced}
use Rattle.plan_schedule.proofs.Forces.{forces_are_best}
use Rattle.plan_search.specs.{declared.decision.Decision.Decision, Decides.AreBest, Decides.Decides}
use Rattle.plan_search.specs.declared.decision.Decision.TheVariants as decision
use Rattle.plan_certificate.specs.{declared.cert.Body.Body, declared.cert.Version.TheVariants.Two, CertificateText.certificate_text, Reading.certificate_of}
use Rattle.plan_certificate.specs.Printing.{PrintsClaim, certified, claim}
use Rattle.plan_certificate.specs.declared.cert.Body.TheVariants as body
use Rattle.plan_certificate.proofs.Printing.{claim_is_body, printed_is_read}
use Rattle.plan_check.specs.{declared.answer.Answer.TheVariants.Yes, Answer.IsCertificateAnswer, Answer.IsWalkAnswer}
use Rattle.plan_check.specs.Walk.{fault, is_forced, rises}
use Rattle.plan_check.proofs.Written.{body_fits}
use Rattle.plan_check.proofs.Answers.{forced_tests, from_behind, one_answer}
use Rattle.plan_commands.specs.Laws.{OwnCertificateLaw}

rises_behind : (s : ℕ) (prev : Option ℕ) (t : ℕ) → s ≤ t → from_behind s prev ≤ t → rises s prev t ≡ true
unfolding rises
rises_behind s None t a b = grind (arith, nat_tests)
rises_behind s (Some u) t a b =
    let later : u < t = omega arith in
    let first : nat_le s t ≡ true = grind (arith, nat_tests) in
    let second : nat_lt u t ≡ true = grind (arith, nat_tests) in
    ap (λ p. p && nat_lt u t) first ∙ second

walk_faultless :
    (es : List Entry) (margin s : ℕ) (ends : ℕ → ℕ) (prev : Option ℕ) (k : ℕ) (ws : List Force) → s ≤ from_behind s prev →
    RisesStrictly (from_behind s prev) (moments_of ws) → AreForced es margin s ends prev ws → fault es margin s ends prev k ws ≡ None
unfolding fault
walk_faultless es margin s ends prev k [] low rise forced = refl
walk_faultless es margin s ends prev k (w ∷ ws) low rise forced =
    let above : from_behind s prev ≤ w.at = rise.0 in
    let after : s ≤ w.at = omega arith in
    cond-true (rises s prev w.at) _ _ (rises_behind s prev w.at after above)
    ∙ cond-true (is_forced es margin s ends prev w.at w.entry w.needed) _ _ (forced_tests es margin s ends prev w.at w.entry w.needed forced.0)
    ∙ walk_faultless es margin s ends (Some w.at) (k + 1) ws (omega arith) rise.1 forced.1

best_is_keepable : (g : Forest) (s : ℕ) (rs : List Run) → AreBest g s rs → AllKeepable g s (end_of g.entries)
best_is_keepable g s rs best = λ entry needed pair. unkeepable g.entries g.margin s (end_of g.entries) entry needed pair best.least.plan best.least.in_order best.least.kept

-- the forces of a plan get Yes
pub best_gets_yes : (g : Forest) (s : ℕ) (rs : List Run) → IsForest g → AreBest g s rs → IsWalkAnswer g s (all_wakes rs) Yes
best_gets_yes g s rs forest best =
    let es = g.entries in
    let law = forces_are_best g s forest (best_is_keepable g s rs best) in
    let same : all_wakes rs ≡ law.0 = law.1.1.0 (all_wakes rs) best.forces in
    let rise : RisesStrictly s (moments_of (all_wakes rs)) = subst (λ xs. RisesStrictly s (moments_of xs)) (sym same) law.1.1.1.1.0 in
    let forced : AreForced es g.margin s (end_of es) None (all_wakes rs) = subst (AreForced es g.margin s (end_of es) None) (sym same) law.1.1.1.0 in
    (walk_faultless es g.margin s (end_of es) None 1 (all_wakes rs) (omega arith) rise forced, λ i. best.kept i)

-- what a decision claims gets Yes
claim_gets_yes : (g : Forest) (s : ℕ) (d : Decision) (b : Body) → IsForest g → Decides g s d → claim d ≡ Some b → IsCertificateAnswer g (certified s b) Yes
claim_gets_yes g s (decision.Keep p) b forest decides is =
    let is' : body.Runs p.runs ≡ b = cc in
    subst (λ x. IsCertificateAnswer g (certified s x) Yes) is' (best_gets_yes g s p.runs forest decides.best)
claim_gets_yes g s (decision.Unkeepable entry needed) b forest decides is =
    let is' : body.Unkeepable entry needed ≡ b = cc in
    subst (λ x. IsCertificateAnswer g (certified s x) Yes) is' decides.0.pair
claim_gets_yes g s decision.TooLong b forest decides is = absurd cc

-- what is printed is the text of what is claimed
claim_printed : (es : List Entry) (s : ℕ) (o : Option Body) (text : List ℕ) → PrintsClaim es s o (Ok text) → (b : Body) × (o ≡ Some b) × (text ≡ certificate_text es (certified s b))
claim_printed es s None text printed = absurd cc
claim_printed es s (Some b) text printed = (b, refl, printed)

pub own_accepted : OwnCertificateLaw
own_accepted g s d text forest start decides printed =
    let found = claim_printed g.entries s (claim d) text printed in
    let b = found.0 in
    let c = certified s b in (
      c,
      ap (certificate_of g.entries) found.2 ∙ printed_is_read g s d b forest start decides found.1,
      body_fits g Two b (claim_is_body g s d b forest decides found.1),
      λ answer is. one_answer g c answer Yes is (claim_gets_yes g s d b forest decides found.1),
    )
