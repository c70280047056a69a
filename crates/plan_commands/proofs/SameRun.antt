-- Same run: of two inventories that differ in credentials alone each run that comes to its end has one exit and one text,
-- for every command whose text and whose reason to have none are told by the forest.
use Rattle.std.proofs.Common.{◌≡◌, ◌∙◌, ℕ, Bool, List, [], Option, Some, Result, Ok, Err, length, refl, sym, ap, subst, arith, inl, inr, ◌⊎◌}
use Rattle.std.specs.Io.KnownBytes.{Appends, Keeps}
use Rattle.std.proofs.lemmas.List.{length-map}
use Rattle.std.proofs.KnownBytes.{Appends-nil, Keeps-refl}
use Rattle.base_device.specs.{Seen.Change, Seen.Seen, Front.AppendsFront}
use Rattle.plan_forest.specs.{Forest.Forest, Push.IsForest}
use Rattle.plan_rule.specs.{declared.wake.Wake.Wake, Plans.moments, declared.run.Run.Run, Runs.all_wakes, Runs.moments_of}
use Rattle.plan_search.specs.Decides.{AreBest, NoneKeeps, PlanIsTooLong}
use Rattle.vault_inventory.specs.{declared.fault.InvFault.InvFault, Inventories.Inventory}
use Rattle.vault_served.specs.ForGood.{marks}
use Rattle.vault_start.specs.Start.{from_start, inventory_at}
use Rattle.vault_start.proofs.Started.{known_at, secrecy_law, start_law}
use Rattle.program_report.specs.{declared.exit.Exit.Exit, declared.stop.Stop.Stop, Exits.exit_of, Sent.IsUntouched, Sent.SendsText, Told.Reports, FaultLine.line_of_stop}
use Rattle.program_report.specs.declared.exit.Exit.TheVariants as exits
use Rattle.program_report.specs.declared.stop.Stop.TheVariants as stops
use Rattle.program_report.proofs.Fronts.{whole_front}
use Rattle.plan_commands.specs.{CheckRun.CheckTexts, CheckRun.stated_start, EndsRun.EndsHalts, EndsRun.EndsTexts, declared.margin.MarginQuery.MarginQuery, MarginRun.MarginHalts, MarginRun.MarginTexts, MarginText.asked_about}
use Rattle.plan_commands.specs.{PlanDates.IsInDates, PlanDates.PlanDatesTexts, ReachRun.ReachTexts}
use Rattle.plan_commands.specs.PlanRun.{IsCertified, PlanHalts, PlanTexts}
use Rattle.plan_commands.specs.Running.{Halted, Halts, NoHalts, RunOf, Texts}
use Rattle.plan_commands.specs.Secrecy.{CheckSecrecy, DifferInSecrets, EndsSecrecy, MarginSecrecy, PlanDatesSecrecy, PlanSecrecy, ReachSecrecy, RunAlike, RunIsWhole, TellSame, WriteFronts, WriteSame}
use Rattle.plan_commands.proofs.{Dated.one_plan_in_dates, Reaching.one_reach_text}
use Rattle.plan_commands.proofs.Margins.{one_margin_text, one_reason, text_or_reason}
use Rattle.plan_commands.proofs.OneText.{one_check_text, one_ends_text, one_plan_text}
use Rattle.plan_search.proofs.Deciding.{length_moments}

-- ---- the forest is one

-- two answers, both inventories, with one forest
pub record AreAlike (answer other : Result Inventory InvFault) : Type 0 where
  pub inventory : Inventory
  pub reads : answer ≡ Ok inventory
  pub other_inventory : Inventory
  pub other_reads : other ≡ Ok other_inventory
  pub forest : IsForest inventory.forest
  pub same : inventory.forest ≡ other_inventory.forest

-- from a start on
alike_at : (s : ℕ) (bytes other : List ℕ) → DifferInSecrets bytes other → AreAlike (inventory_at s bytes) (inventory_at s other)
alike_at s bytes other d =
    let v = from_start d.served.inventory (marks d.served.notes) s in
    let w = from_start d.other_served.inventory (marks d.other_served.notes) s in
    let reads = known_at s bytes d.served d.reads in
    let other_reads = known_at s other d.other_served d.other_reads in
    record {
      inventory = v;
      reads = reads;
      other_inventory = w;
      other_reads = other_reads;
      forest = (start_law s bytes v reads).forest;
      same = (secrecy_law s bytes other v w d.alike reads other_reads).0;
    }

one_inventory : (answer : Result Inventory InvFault) (x y : Inventory) → answer ≡ Ok x → answer ≡ Ok y → x.forest ≡ y.forest
one_inventory answer x y a b = let same : x ≡ y = cc in ap (λ (s : Inventory). s.forest) same

-- ---- sendings that were cut short, and none

untouched_appends : (out : Change) → IsUntouched out → Appends out.old.output.written out.new.output.written []
untouched_appends out none = subst (λ (s : Seen). Appends out.old.output.written s.output.written []) (sym none) (Appends-nil out.old.output.written)

cut_front : (stop : Stop) (text : List ℕ) (out : Change) → SendsText (Err stop) text out → AppendsFront out.old.output.written out.new.output.written text
cut_front stops.Write text out sends = sends.1
cut_front stops.Memory text out sends = sends.1
cut_front _ text out sends = absurd sends

not_cut : {X : Type 0} (stop : Stop) (text : List ℕ) (out : Change) → SendsText (Err stop) text out → RunIsWhole (exit_of stop) → X
not_cut stops.Write text out sends whole = absurd whole
not_cut stops.Memory text out sends whole = absurd whole
not_cut _ text out sends whole = absurd sends

-- ---- any command

-- a forest has one text with one exit, or one reason for none
pub record IsOne (Text : Texts) (Halt : Halts) : Type 0 where
  pub text : (g : Forest) (e f : Exit) (t u : List ℕ) → IsForest g → Text g e t → Text g f u → (e ≡ f) × (t ≡ u)
  pub reason : (g : Forest) (x y : Stop) → Halt g x → Halt g y → x ≡ y
  pub apart : (g : Forest) (e : Exit) (t : List ℕ) (x : Stop) → Text g e t → Halt g x → ⊥

module _ (Text : Texts) (Halt : Halts) where
  -- how a run over a forest comes to its end
  abbrev EndsIn : Forest → Exit → Change → Change → Type 0
  EndsIn g exit out errors =
      ((text : List ℕ) × Text g exit text × Appends out.old.output.written out.new.output.written text × IsUntouched errors)
      ⊎ ((stop : Stop) × Halt g stop × (exit ≡ exit_of stop) × IsUntouched out × Reports (line_of_stop stop) errors)

  halted_in : (answer : Result Inventory InvFault) (inventory : Inventory) (stop : Stop) → answer ≡ Ok inventory → RunIsWhole (exit_of stop) → Halted Halt answer stop → Halt inventory.forest stop
  halted_in answer inventory (stops.Inventory fault) reads whole halted = absurd cc
  halted_in answer inventory (stops.Moments fault) reads whole halted = subst (λ g. Halt g (stops.Moments fault)) (one_inventory answer halted.0 inventory halted.1 reads) halted.2
  halted_in answer inventory (stops.FaultWord position) reads whole halted = subst (λ g. Halt g (stops.FaultWord position)) (one_inventory answer halted.0 inventory halted.1 reads) halted.2
  halted_in answer inventory stops.TooLong reads whole halted = subst (λ g. Halt g stops.TooLong) (one_inventory answer halted.0 inventory halted.1 reads) halted.2
  halted_in answer inventory _ reads whole halted = absurd whole

  ends_in : (answer : Result Inventory InvFault) (inventory : Inventory) (exit : Exit) (out errors : Change) → answer ≡ Ok inventory → RunIsWhole exit → RunOf Text Halt answer exit out errors → EndsIn inventory.forest exit out errors
  ends_in answer inventory exit out errors reads whole (inl run) =
      inl (run.2, subst (λ g. Text g exit run.2) (one_inventory answer run.0 inventory run.1 reads) run.3, run.4.0, run.5)
  ends_in answer inventory exit out errors reads whole (inr (inl run)) =
      inr (run.0, halted_in answer inventory run.0 reads (subst RunIsWhole run.2 whole) run.1, run.2, run.3, run.4)
  ends_in answer inventory exit out errors reads whole (inr (inr run)) = not_cut run.5 run.3 out run.6 (subst RunIsWhole run.7 whole)

  both_end : (g : Forest) (exit exit' : Exit) (out out' errors errors' : Change) → IsOne Text Halt → IsForest g → EndsIn g exit out errors → EndsIn g exit' out' errors' →
      (exit ≡ exit') × WriteSame out out' × TellSame errors errors'
  both_end g exit exit' out out' errors errors' one forest (inl a) (inl b) =
      let same = one.text g exit exit' a.0 b.0 forest a.1 b.1 in
      (same.0, (a.0, a.2, subst (Appends out'.old.output.written out'.new.output.written) (sym same.1) b.2), inl (a.3, b.3))
  both_end g exit exit' out out' errors errors' one forest (inr a) (inr b) =
      let same = one.reason g a.0 b.0 a.1 b.1 in
      (a.2 ∙ ap exit_of same ∙ sym b.2, ([], untouched_appends out a.3, untouched_appends out' b.3), inr (line_of_stop a.0, a.4, subst (λ (x : Stop). Reports (line_of_stop x) errors') (sym same) b.4))
  both_end g exit exit' out out' errors errors' one forest (inl a) (inr b) = absurd (one.apart g exit a.0 b.0 a.1 b.1)
  both_end g exit exit' out out' errors errors' one forest (inr a) (inl b) = absurd (one.apart g exit' b.0 a.0 b.1 a.1)

  -- a front of a text was written, or nothing
  abbrev Fronts : Forest → Change → Type 0
  Fronts g out = ((text : List ℕ) × ((exit : Exit) × Text g exit text) × AppendsFront out.old.output.written out.new.output.written text) ⊎ IsUntouched out

  fronts_in : (answer : Result Inventory InvFault) (inventory : Inventory) (exit : Exit) (out errors : Change) → answer ≡ Ok inventory → RunOf Text Halt answer exit out errors → Fronts inventory.forest out
  fronts_in answer inventory exit out errors reads (inl run) =
      subst (λ g. Fronts g out) (one_inventory answer run.0 inventory run.1 reads) (inl (run.2, (exit, run.3), whole_front out.old.output.written out.new.output.written out.new.output.written run.2 run.4.0 (Keeps-refl out.new.output.written)))
  fronts_in answer inventory exit out errors reads (inr (inl run)) = inr run.3
  fronts_in answer inventory exit out errors reads (inr (inr run)) =
      subst (λ g. Fronts g out) (one_inventory answer run.0 inventory run.1 reads) (inl (run.3, (run.2, run.4), cut_front run.5 run.3 out run.6))

  two_fronts : (g : Forest) (out out' : Change) → IsOne Text Halt → IsForest g → Fronts g out → Fronts g out' → WriteFronts out out'
  two_fronts g out out' one forest (inl a) (inl b) =
      (a.0, a.2, subst (AppendsFront out'.old.output.written out'.new.output.written) (sym (one.text g a.1.0 b.1.0 a.0 b.0 forest a.1.1 b.1.1).1) b.2)
  two_fronts g out out' one forest (inl a) (inr kept) = (a.0, a.2, (0, untouched_appends out' kept))
  two_fronts g out out' one forest (inr kept) (inl b) = (b.0, (0, untouched_appends out kept), b.2)
  two_fronts g out out' one forest (inr kept) (inr same) = ([], (0, untouched_appends out kept), (0, untouched_appends out' same))

  pub runs_alike : (answer other : Result Inventory InvFault) (exit exit' : Exit) (out out' errors errors' : Change) → IsOne Text Halt → AreAlike answer other →
      RunOf Text Halt answer exit out errors → RunOf Text Halt other exit' out' errors' → RunAlike exit exit' out out' errors errors'
  runs_alike answer other exit exit' out out' errors errors' one d a b =
      let same = sym d.same in
      let g = d.inventory.forest in (
        two_fronts g out out' one d.forest (fronts_in answer d.inventory exit out errors d.reads a) (subst (λ g. Fronts g out') same (fronts_in other d.other_inventory exit' out' errors' d.other_reads b)),
        λ whole whole'. both_end g exit exit' out out' errors errors' one d.forest (ends_in answer d.inventory exit out errors d.reads whole a)
            (subst (λ g. EndsIn g exit' out' errors') same (ends_in other d.other_inventory exit' out' errors' d.other_reads whole' b)),
      )

-- ---- each command

one_ends : (s : ℕ) (at : List ℕ) → IsOne (EndsTexts s at) (EndsHalts s at)
one_ends s at = record {
  text = λ g e f t u forest a b. (a.0 ∙ sym b.0, one_ends_text g s at t u a.1 b.1);
  reason = λ g x y a b. let lines : Some a.0 ≡ Some b.0 = sym a.2 ∙ b.2 in let fault : a.0 ≡ b.0 = cc in a.1 ∙ ap (λ f. stops.Moments f) fault ∙ sym b.1;
  apart = λ g e t x a b. let none = a.1.in_order in let some = b.2 in cc;
}

pub ends_secrecy : EndsSecrecy
ends_secrecy bytes other s at exit exit' out out' errors errors' d a b = runs_alike (EndsTexts s at) (EndsHalts s at) (inventory_at s bytes) (inventory_at s other) exit exit' out out' errors errors' (one_ends s at) (alike_at s bytes other d) a b

long_or_best : {X : Type 0} (g : Forest) (s : ℕ) (rs : List Run) → PlanIsTooLong g s → AreBest g s rs → X
long_or_best g s rs a best =
    let plan = best.least.plan in
    let long = a.long plan best.least.in_order best.least.kept in
    let few = best.few in
    let one : length (moments plan) ≡ length plan = length-map plan (λ (w : Wake). w.at) in
    let two : length (moments plan) ≡ length (moments_of (all_wakes rs)) = ap length best.least.at_these in
    let three = length_moments (all_wakes rs) in
    absurd (omega (arith, long, few, one, two, three))

long_or_none : {X : Type 0} (g : Forest) (s : ℕ) → PlanIsTooLong g s → NoneKeeps g s → X
long_or_none g s a none = absurd (none a.some.0 a.some.1.0 a.some.1.1)

long_or_certified : (g : Forest) (s : ℕ) (exit : Exit) (text : List ℕ) → PlanIsTooLong g s → IsCertified g s exit text → ⊥
long_or_certified g s exits.Done text long is = long_or_best g s is.runs long is.best
long_or_certified g s exits.Unkeepable text long is = long_or_none g s long is.none
long_or_certified g s _ text long is = is

one_plan : (s : ℕ) → IsOne (PlanTexts s) (PlanHalts s)
one_plan s = record {
  text = λ g e f t u forest a b. one_plan_text g s e f t u a b;
  reason = λ g x y a b. a.0 ∙ sym b.0;
  apart = λ g e t x a b. long_or_certified g s e t b.1 a;
}

pub plan_secrecy : PlanSecrecy
plan_secrecy bytes other s exit exit' out out' errors errors' d a b = runs_alike (PlanTexts s) (PlanHalts s) (inventory_at s bytes) (inventory_at s other) exit exit' out out' errors errors' (one_plan s) (alike_at s bytes other d) a b

long_or_dated : (g : Forest) (s : ℕ) (exit : Exit) (text : List ℕ) → PlanIsTooLong g s → IsInDates g s exit text → ⊥
long_or_dated g s exits.Done text long is = long_or_best g s is.runs long is.best
long_or_dated g s exits.Unkeepable text long is = long_or_none g s long is.none
long_or_dated g s _ text long is = is

one_dated : (s : ℕ) → IsOne (PlanDatesTexts s) (PlanHalts s)
one_dated s = record {
  text = λ g e f t u forest a b. one_plan_in_dates g s e f t u a b;
  reason = λ g x y a b. a.0 ∙ sym b.0;
  apart = λ g e t x a b. long_or_dated g s e t b.1 a;
}

pub plan_dates_secrecy : PlanDatesSecrecy
plan_dates_secrecy bytes other s exit exit' out out' errors errors' d a b = runs_alike (PlanDatesTexts s) (PlanHalts s) (inventory_at s bytes) (inventory_at s other) exit exit' out out' errors errors' (one_dated s) (alike_at s bytes other d) a b

one_margin : (q : MarginQuery) → IsOne (MarginTexts q) (MarginHalts q)
one_margin q = record {
  text = λ g e f t u forest a b. one_margin_text (asked_about q g) q.start q.most_wakes e f t u a b;
  reason = λ g x y a b. one_reason (asked_about q g) q.start q.most_wakes x y a b;
  apart = λ g e t x a b. text_or_reason (asked_about q g) q.start q.most_wakes e t x a b;
}

pub margin_secrecy : MarginSecrecy
margin_secrecy bytes other q exit exit' out out' errors errors' d a b = runs_alike (MarginTexts q) (MarginHalts q) (inventory_at q.start bytes) (inventory_at q.start other) exit exit' out out' errors errors' (one_margin q) (alike_at q.start bytes other d) a b

one_reach : (s : ℕ) (dates : Bool) → IsOne (ReachTexts s dates) NoHalts
one_reach s dates = record {
  text = λ g e f t u forest a b. (a.0 ∙ sym b.0, one_reach_text g s dates t u a.1 b.1);
  reason = λ g x y a b. absurd a;
  apart = λ g e t x a b. b;
}

pub reach_secrecy : ReachSecrecy
reach_secrecy bytes other s dates exit exit' out out' errors errors' d a b = runs_alike (ReachTexts s dates) NoHalts (inventory_at s bytes) (inventory_at s other) exit exit' out out' errors errors' (one_reach s dates) (alike_at s bytes other d) a b

one_check : (asked : Option ℕ) (text : List ℕ) → IsOne (CheckTexts asked text) NoHalts
one_check asked text = record {
  text = λ g e f t u forest a b. one_check_text asked g text e f t u forest a b;
  reason = λ g x y a b. absurd a;
  apart = λ g e t x a b. b;
}

pub check_secrecy : CheckSecrecy
check_secrecy bytes other text asked exit exit' out out' errors errors' d a b = runs_alike (CheckTexts asked text) NoHalts (inventory_at (stated_start text) bytes) (inventory_at (stated_start text) other) exit exit' out out' errors errors' (one_check asked text) (alike_at (stated_start text) bytes other d) a b
