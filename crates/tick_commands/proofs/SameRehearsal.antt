-- Same rehearsal: of two inventories that differ in credentials alone the rehearsals with the same FAULT words that come to their
-- end have one exit and one text.
use Rattle.std.proofs.Common.{◌≡◌, ◌∙◌, ℕ, List, [], Result, Ok, Err, refl, sym, ap, subst, inl, inr, ◌⊎◌}
use Rattle.std.specs.Io.KnownBytes.{Appends, Keeps}
use Rattle.std.proofs.KnownBytes.{Keeps-refl}
use Rattle.base_device.specs.{Seen.Change, Front.AppendsFront}
use Rattle.plan_forest.specs.Forest.{Forest}
use Rattle.tick_keeper.specs.{Replan.ReplanTooLong, State.unplanned}
use Rattle.tick_keeper.proofs.Orders.{not_both}
use Rattle.vault_inventory.specs.{declared.fault.InvFault.InvFault, declared.terms.Terms.Terms, Inventories.IsInventory, Inventories.Inventory}
use Rattle.vault_served.specs.ForGood.{marks}
use Rattle.vault_start.specs.Start.{from_start, inventory_at}
use Rattle.vault_start.proofs.Started.{known_at, secrecy_law, start_law}
use Rattle.broker_rule.specs.declared.fault.NumberedFault.{NumberedFault}
use Rattle.vault_exchange.specs.Exchanges.{Behind}
use Rattle.program_report.specs.{declared.exit.Exit.Exit, Sent.IsUntouched, Told.Reports, FaultLine.line_of_stop}
use Rattle.program_report.specs.declared.exit.Exit.TheVariants as exits
use Rattle.program_report.specs.declared.stop.Stop.TheVariants as stops
use Rattle.program_report.proofs.{Fronts.whole_front, Pieces.front_cut}
use Rattle.tick_runs.specs.{FaultWords.faults_of, Stops.RunIsStopped, Text.course_text}
use Rattle.tick_runs.specs.Closed.{IsClosedRun, RunCourse, World}
use Rattle.tick_runs.specs.Rehearse.{IsRunText, RehearseRun, RehearseTold}
use Rattle.tick_runs.proofs.AlikeCourses.{courses_both, not_stopped, stops_both}
use Rattle.tick_runs.proofs.AlikeFronts.{fronts_both, run_of_course, run_of_stopped}
use Rattle.plan_commands.specs.Secrecy.{RunIsWhole, TellSame, WriteFronts, WriteSame}
use Rattle.program_lines.proofs.LineByLine.{untouched_appends}
use Rattle.tick_commands.specs.Secrecy.{RehearseSecrecy}

-- ---- how a rehearsal of an inventory comes to its end

abbrev IsDone : Inventory → ℕ → List (List ℕ) → Exit → Change → Change → Type 0
IsDone v start words exit out errors =
    (exit ≡ exits.Done) × ((faults : List NumberedFault) × ((faults_of words ≡ Ok faults) × ((course : RunCourse) × ((final : World) × (IsClosedRun v faults start course final
    × (Appends out.old.output.written out.new.output.written (course_text v course) × IsUntouched errors))))))

abbrev IsMisspelt : List (List ℕ) → Exit → Change → Change → Type 0
IsMisspelt words exit out errors =
    (exit ≡ exits.CommandLine) × ((position : ℕ) × ((faults_of words ≡ Err position) × (IsUntouched out × Reports (line_of_stop (stops.FaultWord position)) errors)))

abbrev IsUnplanned : Inventory → ℕ → List (List ℕ) → Exit → Change → Change → Type 0
IsUnplanned v start words exit out errors =
    (exit ≡ exits.TooLong) × ((faults : List NumberedFault) × ((faults_of words ≡ Ok faults) × (ReplanTooLong v.forest start × (IsUntouched out × Reports (line_of_stop stops.TooLong) errors))))

abbrev IsHalted : Inventory → ℕ → List (List ℕ) → Exit → Change → Change → Type 0
IsHalted v start words exit out errors =
    (exit ≡ exits.TooLong) × ((faults : List NumberedFault) × ((faults_of words ≡ Ok faults) × ((final : World) × ((text : List ℕ) × (RunIsStopped v faults start final text
    × (Appends out.old.output.written out.new.output.written text × Reports (line_of_stop stops.TooLong) errors))))))

abbrev EndsIn : Inventory → ℕ → List (List ℕ) → Exit → Change → Change → Type 0
EndsIn v start words exit out errors = (IsDone v start words exit out errors ⊎ IsMisspelt words exit out errors) ⊎ (IsUnplanned v start words exit out errors ⊎ IsHalted v start words exit out errors)

one_inventory : (answer : Result Inventory InvFault) (v x : Inventory) → answer ≡ Ok v → answer ≡ Ok x → x ≡ v
one_inventory answer v x a b = let same : x ≡ v = cc in same

ends_in : (answer : Result Inventory InvFault) (v : Inventory) (start : ℕ) (words : List (List ℕ)) (exit : Exit) (out errors : Change) (old new : Behind) → answer ≡ Ok v → RunIsWhole exit → RehearseRun answer start words exit out old new →
    RehearseTold answer words exit errors → EndsIn v start words exit out errors
ends_in answer v start words exits.Done out errors old new reads end run told =
    let same = one_inventory answer v run.0 reads run.2.read in
    inl (inl (refl, (run.1, (run.2.faults_are, (run.3, (run.4, (subst (λ x. IsClosedRun x run.1 start run.3 run.4) same run.5, (subst (λ x. Appends out.old.output.written out.new.output.written (course_text x run.3)) same run.6.0, told))))))))
ends_in answer v start words exits.CommandLine out errors old new reads end run told =
    let position : told.0 ≡ run.2 = (let e = sym told.1 ∙ run.3 in cc) in
    inl (inr (refl, (run.2, (run.3, (run.4, subst (λ n. Reports (line_of_stop (stops.FaultWord n)) errors) position told.2)))))
ends_in answer v start words exits.TooLong out errors old new reads end run told =
    let same = one_inventory answer v run.0 reads run.2.read in
    elim run.3 [
      | inl long ↦ inr (inl (refl, (run.1, (run.2.faults_are, (subst (λ (x : Inventory). ReplanTooLong x.forest start) same long.0, (long.1, told))))))
      | inr long ↦ inr (inr (refl, (run.1, (run.2.faults_are, (long.0, (long.1, (subst (λ x. RunIsStopped x run.1 start long.0 long.1) same long.2, (long.3.0, told))))))))
    ]
ends_in answer v start words exits.Inventory out errors old new reads end run told = absurd (let fault = run.1 in cc)
ends_in answer v start words exits.Unkeepable out errors old new reads end run told = absurd run
ends_in answer v start words exits.No out errors old new reads end run told = absurd run
ends_in answer v start words exits.Device out errors old new reads end run told = absurd end
ends_in answer v start words exits.Memory out errors old new reads end run told = absurd end

-- ---- what it has written, if it was cut short

abbrev Fronts : Inventory → ℕ → List (List ℕ) → Change → Type 0
Fronts v start words out =
    ((faults : List NumberedFault) × ((faults_of words ≡ Ok faults) × ((text : List ℕ) × (IsRunText v faults start text × AppendsFront out.old.output.written out.new.output.written text)))) ⊎ IsUntouched out

abbrev IsWritten : Result Inventory InvFault → ℕ → List (List ℕ) → Change → Type 0
IsWritten answer start words out =
    (inventory : Inventory) × (faults : List NumberedFault) × (answer ≡ Ok inventory) × (faults_of words ≡ Ok faults) × (text : List ℕ) × IsRunText inventory faults start text × AppendsFront out.old.output.written out.new.output.written text

written_front : (answer : Result Inventory InvFault) (v : Inventory) (start : ℕ) (words : List (List ℕ)) (out : Change) → answer ≡ Ok v → IsWritten answer start words out → Fronts v start words out
written_front answer v start words out reads w = inl (w.1, (w.3, (w.4, (subst (λ x. IsRunText x w.1 start w.4) (one_inventory answer v w.0 reads w.2) w.5, w.6))))

fronts_in : (answer : Result Inventory InvFault) (v : Inventory) (start : ℕ) (words : List (List ℕ)) (exit : Exit) (out : Change) (old new : Behind) → answer ≡ Ok v → RehearseRun answer start words exit out old new → Fronts v start words out
fronts_in answer v start words exits.Done out old new reads run =
    written_front answer v start words out reads
    (run.0, run.1, run.2.read, run.2.faults_are, course_text run.0 run.3, run_of_course run.0 run.1 start run.3 run.4 run.5, whole_front out.old.output.written out.new.output.written out.new.output.written (course_text run.0 run.3) run.6.0 (Keeps-refl out.new.output.written))
fronts_in answer v start words exits.CommandLine out old new reads run = inr run.4
fronts_in answer v start words exits.TooLong out old new reads run = elim run.3 [
  | inl long ↦ inr long.1
  | inr long ↦
      written_front answer v start words out reads
      (run.0, run.1, run.2.read, run.2.faults_are, long.1, run_of_stopped run.0 run.1 start long.0 long.1 long.2, whole_front out.old.output.written out.new.output.written out.new.output.written long.1 long.3.0 (Keeps-refl out.new.output.written))
]
fronts_in answer v start words exits.Inventory out old new reads run = inr run.2
fronts_in answer v start words exits.Unkeepable out old new reads run = absurd run
fronts_in answer v start words exits.No out old new reads run = absurd run
fronts_in answer v start words exits.Device out old new reads run =
    let w = run.1 in
    written_front answer v start words out reads (w.0, w.1, w.2.read, w.2.faults_are, w.3, w.4, w.5)
fronts_in answer v start words exits.Memory out old new reads run = elim run [
  | inl none ↦ inr none
  | inr w ↦ written_front answer v start words out reads (w.0, w.1, w.2.read, w.2.faults_are, w.3, w.4, w.5)
]

-- ---- two of them

one_list : (words : List (List ℕ)) (x y : List NumberedFault) → faults_of words ≡ Ok x → faults_of words ≡ Ok y → y ≡ x
one_list words x y a b = let same : y ≡ x = cc in same

not_misspelt : {X : Type 0} (words : List (List ℕ)) (x : List NumberedFault) (n : ℕ) → faults_of words ≡ Ok x → faults_of words ≡ Err n → X
not_misspelt words x n a b = absurd cc

both_same : (exit exit' : Exit) (out out' errors errors' : Change) (e : Exit) (text other line : List ℕ) → exit ≡ e → exit' ≡ e → other ≡ text → Appends out.old.output.written out.new.output.written text → Appends out'.old.output.written out'.new.output.written other →
    Reports line errors → Reports line errors' → (exit ≡ exit') × WriteSame out out' × TellSame errors errors'
both_same exit exit' out out' errors errors' e text other line is is' same wrote wrote' told told' =
    (is ∙ sym is', (text, wrote, subst (Appends out'.old.output.written out'.new.output.written) same wrote'), inr (line, told, told'))

module _ (g : Forest) (cs ds : List (List ℕ)) (ts : List Terms) (one : IsInventory (record { forest = g; credentials = cs; terms = ts })) (two : IsInventory (record { forest = g; credentials = ds; terms = ts })) where
  abbrev s : Inventory
  s = record { forest = g; credentials = cs; terms = ts }

  abbrev u : Inventory
  u = record { forest = g; credentials = ds; terms = ts }

  both_end : (start : ℕ) (words : List (List ℕ)) (exit exit' : Exit) (out out' errors errors' : Change) → EndsIn s start words exit out errors → EndsIn u start words exit' out' errors' → (exit ≡ exit') × WriteSame out out' × TellSame errors errors'
  both_end start words exit exit' out out' errors errors' (inl (inl a)) (inl (inl b)) =
      let faults = one_list words a.1.0 b.1.0 a.1.1.0 b.1.1.0 in
      let run = subst (λ fs. IsClosedRun u fs start b.1.1.1.0 b.1.1.1.1.0) faults b.1.1.1.1.1.0 in
      let same = courses_both g cs ds ts one two a.1.0 start a.1.1.1.0 b.1.1.1.0 a.1.1.1.1.0 b.1.1.1.1.0 a.1.1.1.1.1.0 run in
      (a.0 ∙ sym b.0, (course_text s a.1.1.1.0, a.1.1.1.1.1.1.0, subst (Appends out'.old.output.written out'.new.output.written) same b.1.1.1.1.1.1.0), inl (a.1.1.1.1.1.1.1, b.1.1.1.1.1.1.1))
  both_end start words exit exit' out out' errors errors' (inl (inl a)) (inl (inr b)) = not_misspelt words a.1.0 b.1.0 a.1.1.0 b.1.1.0
  both_end start words exit exit' out out' errors errors' (inl (inl a)) (inr (inl b)) =
      let opened = a.1.1.1.1.1.0.opened in
      absurd (not_both (unplanned g) start opened.keeper opened.planned b.1.1.1.0)
  both_end start words exit exit' out out' errors errors' (inl (inl a)) (inr (inr b)) =
      let faults = one_list words a.1.0 b.1.0 a.1.1.0 b.1.1.0 in
      let stopped = subst (λ fs. RunIsStopped u fs start b.1.1.1.0 b.1.1.1.1.0) faults b.1.1.1.1.1.0 in
      absurd (not_stopped g cs ds ts one two a.1.0 start a.1.1.1.0 a.1.1.1.1.0 b.1.1.1.0 b.1.1.1.1.0 a.1.1.1.1.1.0 stopped)
  both_end start words exit exit' out out' errors errors' (inl (inr a)) (inl (inl b)) = not_misspelt words b.1.0 a.1.0 b.1.1.0 a.1.1.0
  both_end start words exit exit' out out' errors errors' (inl (inr a)) (inl (inr b)) =
      let position : b.1.0 ≡ a.1.0 = (let e = sym b.1.1.0 ∙ a.1.1.0 in cc) in
      both_same exit exit' out out' errors errors' exits.CommandLine [] [] (line_of_stop (stops.FaultWord a.1.0)) a.0 b.0 refl (untouched_appends out a.1.1.1.0) (untouched_appends out' b.1.1.1.0) a.1.1.1.1
      (subst (λ n. Reports (line_of_stop (stops.FaultWord n)) errors') position b.1.1.1.1)
  both_end start words exit exit' out out' errors errors' (inl (inr a)) (inr (inl b)) = not_misspelt words b.1.0 a.1.0 b.1.1.0 a.1.1.0
  both_end start words exit exit' out out' errors errors' (inl (inr a)) (inr (inr b)) = not_misspelt words b.1.0 a.1.0 b.1.1.0 a.1.1.0
  both_end start words exit exit' out out' errors errors' (inr (inl a)) (inl (inl b)) =
      let opened = b.1.1.1.1.1.0.opened in
      absurd (not_both (unplanned g) start opened.keeper opened.planned a.1.1.1.0)
  both_end start words exit exit' out out' errors errors' (inr (inl a)) (inl (inr b)) = not_misspelt words a.1.0 b.1.0 a.1.1.0 b.1.1.0
  both_end start words exit exit' out out' errors errors' (inr (inl a)) (inr (inl b)) =
      both_same exit exit' out out' errors errors' exits.TooLong [] [] (line_of_stop stops.TooLong) a.0 b.0 refl (untouched_appends out a.1.1.1.1.0) (untouched_appends out' b.1.1.1.1.0) a.1.1.1.1.1 b.1.1.1.1.1
  both_end start words exit exit' out out' errors errors' (inr (inl a)) (inr (inr b)) =
      let opened = b.1.1.1.1.1.0.so_far.opened in
      absurd (not_both (unplanned g) start opened.keeper opened.planned a.1.1.1.0)
  both_end start words exit exit' out out' errors errors' (inr (inr a)) (inl (inl b)) =
      let faults = one_list words a.1.0 b.1.0 a.1.1.0 b.1.1.0 in
      let run = subst (λ fs. IsClosedRun u fs start b.1.1.1.0 b.1.1.1.1.0) faults b.1.1.1.1.1.0 in
      absurd (not_stopped g ds cs ts two one a.1.0 start b.1.1.1.0 b.1.1.1.1.0 a.1.1.1.0 a.1.1.1.1.0 run a.1.1.1.1.1.0)
  both_end start words exit exit' out out' errors errors' (inr (inr a)) (inl (inr b)) = not_misspelt words a.1.0 b.1.0 a.1.1.0 b.1.1.0
  both_end start words exit exit' out out' errors errors' (inr (inr a)) (inr (inl b)) =
      let opened = a.1.1.1.1.1.0.so_far.opened in
      absurd (not_both (unplanned g) start opened.keeper opened.planned b.1.1.1.0)
  both_end start words exit exit' out out' errors errors' (inr (inr a)) (inr (inr b)) =
      let faults = one_list words a.1.0 b.1.0 a.1.1.0 b.1.1.0 in
      let stopped = subst (λ fs. RunIsStopped u fs start b.1.1.1.0 b.1.1.1.1.0) faults b.1.1.1.1.1.0 in
      let same = stops_both g cs ds ts one two a.1.0 start a.1.1.1.0 b.1.1.1.0 a.1.1.1.1.0 b.1.1.1.1.0 a.1.1.1.1.1.0 stopped in
      both_same exit exit' out out' errors errors' exits.TooLong a.1.1.1.1.0 b.1.1.1.1.0 (line_of_stop stops.TooLong) a.0 b.0 same a.1.1.1.1.1.1.0 b.1.1.1.1.1.1.0 a.1.1.1.1.1.1.1 b.1.1.1.1.1.1.1

  two_fronts : (start : ℕ) (words : List (List ℕ)) (out out' : Change) → Fronts s start words out → Fronts u start words out' → WriteFronts out out'
  two_fronts start words out out' (inl a) (inl b) =
      let faults = one_list words a.0 b.0 a.1.0 b.1.0 in
      let x = a.1.1.0 in
      let y = b.1.1.0 in
      elim (fronts_both g cs ds ts one two a.0 start x y a.1.1.1.0 (subst (λ fs. IsRunText u fs start y) faults b.1.1.1.0)) [
        | inl less ↦ (y, subst (AppendsFront out.old.output.written out.new.output.written) (sym less.1) (front_cut out.old.output.written out.new.output.written x less.0 a.1.1.1.1), b.1.1.1.1)
        | inr more ↦ (x, a.1.1.1.1, subst (AppendsFront out'.old.output.written out'.new.output.written) (sym more.1) (front_cut out'.old.output.written out'.new.output.written y more.0 b.1.1.1.1))
      ]
  two_fronts start words out out' (inl a) (inr kept) = (a.1.1.0, a.1.1.1.1, (0, untouched_appends out' kept))
  two_fronts start words out out' (inr kept) (inl b) = (b.1.1.0, (0, untouched_appends out kept), b.1.1.1.1)
  two_fronts start words out out' (inr kept) (inr same) = ([], (0, untouched_appends out kept), (0, untouched_appends out' same))

pub rehearse_secrecy : RehearseSecrecy
rehearse_secrecy bytes other start words exit exit' out out' errors errors' d a b =
    let s = from_start d.served.inventory (marks d.served.notes) start in
    let o = from_start d.other_served.inventory (marks d.other_served.notes) start in
    let reads : inventory_at start bytes ≡ Ok s = known_at start bytes d.served d.reads in
    let other_reads : inventory_at start other ≡ Ok o = known_at start other d.other_served d.other_reads in
    let alike = secrecy_law start bytes other s o d.alike reads other_reads in
    let u : Inventory = record { forest = s.forest; credentials = o.credentials; terms = s.terms } in
    let is : o ≡ u =
    ap (λ g. record { forest = g; credentials = o.credentials; terms = o.terms }) (sym alike.0) ∙ ap (λ ts. record { forest = s.forest; credentials = o.credentials; terms = ts }) (sym alike.1) in
    let reads_so : inventory_at start other ≡ Ok u = other_reads ∙ ap (λ (v : Inventory). Ok v) is in
    let one = start_law start bytes s reads in
    let two = start_law start other u reads_so in (
      two_fronts s.forest s.credentials o.credentials s.terms one two start words out out' (fronts_in (inventory_at start bytes) s start words exit out a.0 a.1 reads a.2) (fronts_in (inventory_at start other) u start words exit' out' b.0 b.1 reads_so b.2),
      λ end end'. both_end s.forest s.credentials o.credentials s.terms one two start words exit exit' out out' errors errors' (ends_in (inventory_at start bytes) s start words exit out errors a.0 a.1 reads end a.2 a.3)
          (ends_in (inventory_at start other) u start words exit' out' errors' b.0 b.1 reads_so end' b.2 b.3),
    )
