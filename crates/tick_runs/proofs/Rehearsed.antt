-- Rehearsed: from playing a run to the rehearsal.
use Rattle.std.proofs.Common.{◌≡◌, ◌∙◌, ℕ, ◌≤◌, Bool, List, ◌++◌, Option, Some, None, Result, Ok, Err, ap, arith, inl, inr, length, refl, subst, sym, ◌⊎◌}
use Rattle.std.proofs.lemmas.List.{append_assoc}
use Rattle.std.specs.{Result.IsErr, Result.IsErrAnd, Io.KnownBytes.Appends}
use Rattle.base_device.specs.Front.{AppendsFront}
use Rattle.base_device.specs.Seen.{Change, Seen, change}
use Rattle.vault_inventory.specs.{declared.fault.InvFault.InvFault, Inventories.IsInventory, Inventories.Inventory}
use Rattle.base_moment.specs.declared.moment.TheConstants.{LAST}
use Rattle.plan_forest.specs.Forest.{Forest}
use Rattle.broker_rule.specs.{Table.BrokerTable, declared.fault.NumberedFault.NumberedFault}
use Rattle.tick_keeper.specs.{LawsOfSteps.IsShaped, Replan.Replan, Replan.ReplanTooLong, State.CoreState, State.unplanned}
use Rattle.tick_keeper.proofs.Shaped.{replanned, same}
use Rattle.vault_exchange.specs.Exchanges.{Behind}
use Rattle.program_report.specs.{declared.stop.Stop.Stop, Exits.exit_of, FaultLine.line_of_stop, Told.Reports}
use Rattle.program_report.specs.declared.stop.Stop.TheVariants as stops
use Rattle.tick_runs.specs.{FaultWords.SetsFaults, FaultWords.faults_of, Hearing.IsBetweenEvents, Stops.SoFar, Stops.both}
use Rattle.tick_runs.specs.Closed.{IsRunOpening, World, shorts_taken}
use Rattle.tick_runs.specs.code.Playing.{IsText, MayCome, Plays, PlaysFront, RunGoes}
use Rattle.tick_runs.specs.Rehearse.{IsCalled, IsRunText, RehearsesTo, RehearseRun, RehearseTold, WritesFront, fresh_broker}
use Rattle.tick_runs.specs.Text.{done_text, inventory_with, short_need_lines}
use Rattle.tick_runs.proofs.{Loops.at_end, Texts.same_beat_texts, Texts.same_shorts}

-- ---- the run of an inventory, from that of a keeper

module _ (inventory : Inventory) (faults : List NumberedFault) (start : ℕ) (k : CoreState) (r : Replan (unplanned inventory.forest) start k) where
  like : IsShaped inventory.forest k.forest
  like = replanned inventory.forest (unplanned inventory.forest) start k (same inventory.forest) r

  opening : World
  opening = both (shorts_taken k) (Some (fresh_broker inventory faults))

  opens : IsRunOpening inventory faults start k.shortened (both (shorts_taken k) (Some (fresh_broker inventory faults)))
  opens = record { keeper = k; planned = r; short_is = refl; is = refl }

  pub shorts_are : (lines : List ℕ) → lines ≡ short_need_lines k.forest k.shortened → lines ≡ short_need_lines inventory.forest k.shortened
  shorts_are lines is = is ∙ same_shorts inventory.forest k.forest like k.shortened

  pub so_far_of :
      (final : World) (next : Option ℕ) (w a : ℕ) (lines : List ℕ) → RunGoes (inventory_with inventory.credentials k.forest) (both (shorts_taken k) (Some (fresh_broker inventory faults))) (Some start) final next w a lines →
      SoFar inventory faults start final next w a (short_need_lines inventory.forest k.shortened ++ lines)
  so_far_of final next w a lines goes = record {
    short = k.shortened;
    opening = both (shorts_taken k) (Some (fresh_broker inventory faults));
    opened = opens;
    beats = goes.beats;
    played = goes.played;
    wakes_are = goes.wakes_are;
    asked_are = goes.asked_are;
    text_is = ap (λ l. short_need_lines inventory.forest k.shortened ++ l) (goes.text_is ∙ same_beat_texts inventory (inventory_with inventory.credentials k.forest) like refl goes.beats);
  }

  pub is_run_text :
      (text : List ℕ) → IsText (inventory_with inventory.credentials k.forest) (both (shorts_taken k) (Some (fresh_broker inventory faults))) start text → IsRunText inventory faults start (short_need_lines inventory.forest k.shortened ++ text)
  is_run_text text t = record {
    final = t.new;
    next = t.next;
    wakes = t.wakes;
    asked = t.asked;
    lines = short_need_lines inventory.forest k.shortened ++ t.lines;
    so_far = so_far_of t.new t.next t.wakes t.asked t.lines t.goes;
    text_is = by_text t.text_is;
  } where
    by_text : (text ≡ t.lines) ⊎ ((t.next ≡ None) × (text ≡ t.lines ++ done_text t.wakes t.asked)) →
        (short_need_lines inventory.forest k.shortened ++ text ≡ short_need_lines inventory.forest k.shortened ++ t.lines)
        ⊎ ((t.next ≡ None) × (short_need_lines inventory.forest k.shortened ++ text ≡ (short_need_lines inventory.forest k.shortened ++ t.lines) ++ done_text t.wakes t.asked))
    by_text (inl is) = inl (ap (λ l. short_need_lines inventory.forest k.shortened ++ l) is)
    by_text (inr is) = inr (is.0, ap (λ l. short_need_lines inventory.forest k.shortened ++ l) is.1 ∙ sym (append_assoc (short_need_lines inventory.forest k.shortened) t.lines (done_text t.wakes t.asked)))

-- ---- the rehearsal

front_written :
    (found : Result Inventory InvFault) (words : List (List ℕ)) (inventory : Inventory) (faults : List NumberedFault) (start : ℕ) (k : CoreState) (lines : List ℕ) (out : Change) → IsCalled found words inventory faults → (r : Replan (unplanned inventory.forest) start k) →
    lines ≡ short_need_lines k.forest k.shortened → PlaysFront (inventory_with inventory.credentials k.forest) (both (shorts_taken k) (Some (fresh_broker inventory faults))) start lines out → WritesFront found start words out
front_written found words inventory faults start k lines out called r lines_are front = (
  inventory,
  faults,
  called,
  short_need_lines inventory.forest k.shortened ++ front.0,
  is_run_text inventory faults start k r front.0 front.1,
  subst (λ l. AppendsFront out.old.output.written out.new.output.written (l ++ front.0)) (shorts_are inventory faults start k r lines lines_are) front.2,
)

pub rehearsed :
    (found : Result Inventory InvFault) (words : List (List ℕ)) (inventory : Inventory) (faults : List NumberedFault) (start : ℕ) (k : CoreState) (lines : List ℕ) (result : Result (Unit {0}) Stop) (new : World) (left : Behind) (out : Change) (old : Behind) →
    IsCalled found words inventory faults → (r : Replan (unplanned inventory.forest) start k) → lines ≡ short_need_lines k.forest k.shortened →
    Plays inventory.credentials (both (shorts_taken k) (Some (fresh_broker inventory faults))) start lines result new out → new.behind ≡ Some left → RehearsesTo found start words result out old left
rehearsed found words inventory faults start k lines (Ok u) new left out old called r lines_are p is =
    let so_far = so_far_of inventory faults start k r new None p.wakes p.asked p.lines p.goes in
    let whole = at_end inventory faults start new p.wakes p.asked (short_need_lines inventory.forest k.shortened ++ p.lines) so_far p.few in
    let text = ap (λ l. l ++ (p.lines ++ done_text p.wakes p.asked)) (shorts_are inventory faults start k r lines lines_are)
    ∙ sym (append_assoc (short_need_lines inventory.forest k.shortened) p.lines (done_text p.wakes p.asked))
    ∙ whole.1.1 in
    (inventory, faults, called, whole.0, new, whole.1.0, (subst (Appends out.old.output.written out.new.output.written) text p.sent.0, p.sent.1), is)
rehearsed found words inventory faults start k lines (Err stops.TooLong) new left out old called r lines_are p is =
    let final = both p.keeper new.behind in
    let text = short_need_lines inventory.forest k.shortened ++ p.lines in (
      inventory,
      faults,
      called,
      inr (
        final,
        text,
        record { due = p.due; asked = p.asked; so_far = so_far_of inventory faults start k r final (Some p.due) 100000 p.asked p.lines p.goes; more = p.more },
        (subst (λ l. Appends out.old.output.written out.new.output.written (l ++ p.lines)) (shorts_are inventory faults start k r lines lines_are) p.sent.0, p.sent.1),
        is,
      ),
    )
rehearsed found words inventory faults start k lines (Err stops.Write) new left out old called r lines_are p is = (p.0, front_written found words inventory faults start k lines out called r lines_are p.1)
rehearsed found words inventory faults start k lines (Err stops.Memory) new left out old called r lines_are p is = inr (front_written found words inventory faults start k lines out called r lines_are p)
rehearsed found words inventory faults start k lines (Err _) new left out old called r lines_are p is = absurd p

-- ---- by exit

pub run_stopped : (found : Result Inventory InvFault) (start : ℕ) (words : List (List ℕ)) (stop : Stop) (out : Change) (old new : Behind) → RehearsesTo found start words (Err stop) out old new → RehearseRun found start words (exit_of stop) out old new
run_stopped found start words (stops.Inventory fault) out old new r = (fault, r.0, r.1, r.2)
run_stopped found start words (stops.FaultWord n) out old new r = (r.0, r.1, n, r.2, r.3, r.4)
run_stopped found start words stops.TooLong out old new r = r
run_stopped found start words stops.Write out old new r = r
run_stopped found start words stops.Memory out old new r = r
run_stopped found start words _ out old new r = absurd r

pub stopped_told :
    (found : Result Inventory InvFault) (start : ℕ) (words : List (List ℕ)) (stop : Stop) (out errors : Change) (old new : Behind) → RehearsesTo found start words (Err stop) out old new → Reports (line_of_stop stop) errors →
    RehearseTold found words (exit_of stop) errors
stopped_told found start words (stops.Inventory fault) out errors old new r told = (fault, r.0, told)
stopped_told found start words (stops.FaultWord n) out errors old new r told = (n, r.2, told)
stopped_told found start words stops.TooLong out errors old new r told = told
stopped_told found start words stops.Write out errors old new r told = told
stopped_told found start words stops.Memory out errors old new r told = told
stopped_told found start words _ out errors old new r told = absurd r

-- ---- what the calls of the code give

-- the FAULT words are not taken
pub words_stopped :
    (found : Result Inventory InvFault) (start : ℕ) (words : List (List ℕ)) (inventory : Inventory) (answer : Result (Unit {0}) Stop) (stop : Stop) (table now : BrokerTable) (a : Seen) (m : Bool) (old : Behind) → found ≡ Ok inventory →
    IsErr answer × IsErrAnd answer (λ (q : Stop). q ≡ stop) → SetsFaults words table (Err stop) now →
    RehearsesTo found start words answer (change m a a) old old
words_stopped found start words inventory (Ok u) stop table now a m old read is sets = absurd (let no = is.0 in cc)
words_stopped found start words inventory (Err q) stop table now a m old read is sets =
    subst (λ (x : Stop). RehearsesTo found start words (Err x) (change m a a) old old) (sym is.1) (by_stop stop sets) where
      by_stop : (x : Stop) → SetsFaults words table (Err x) now →
          RehearsesTo found start words (Err x) (change m a a) old old
      by_stop (stops.FaultWord k) is' = (inventory, read, is', refl, refl)
      by_stop stops.Memory is' = inl (refl)
      by_stop stops.TooLong is' = absurd is'
      by_stop stops.Read is' = absurd is'
      by_stop stops.Write is' = absurd is'
      by_stop (stops.Inventory fault) is' = absurd is'
      by_stop (stops.Moments fault) is' = absurd is'
      by_stop (stops.Broker name) is' = absurd is'
      by_stop (stops.Line k) is' = absurd is'

pub memory_stopped :
    (found : Result Inventory InvFault) (start : ℕ) (words : List (List ℕ)) (answer : Result (Unit {0}) Stop) (a : Seen) (m : Bool) (old new : Behind) → IsErr answer × IsErrAnd answer (λ (q : Stop). q ≡ stops.Memory) →
    RehearsesTo found start words answer (change m a a) old new
memory_stopped found start words (Ok u) a m old new is = absurd (let no = is.0 in cc)
memory_stopped found start words (Err q) a m old new is =
    subst (λ (x : Stop). RehearsesTo found start words (Err x) (change m a a) old new) (sym is.1) (inl (refl))

-- the opening is not planned
pub opening_stopped :
    (found : Result Inventory InvFault) (start : ℕ) (words : List (List ℕ)) (inventory : Inventory) (faults : List NumberedFault) (g : Forest) (answer : Result (Unit {0}) Stop) (stop : Stop) (a : Seen) (m : Bool) (old new : Behind) →
    found ≡ Ok inventory → faults_of words ≡ Ok faults → g ≡ inventory.forest → new ≡ fresh_broker inventory faults → IsErr answer × IsErrAnd answer (λ (q : Stop). q ≡ stop) → (stop ≡ stops.Memory) ⊎ ((stop ≡ stops.TooLong) × ReplanTooLong g start) →
    RehearsesTo found start words answer (change m a a) old new
opening_stopped found start words inventory faults g (Ok u) stop a m old new read taken' is_g is_new is long = absurd (let no = is.0 in cc)
opening_stopped found start words inventory faults g (Err q) stop a m old new read taken' is_g is_new is (inl memory) =
    subst (λ (x : Stop). RehearsesTo found start words (Err x) (change m a a) old new) (sym (is.1 ∙ memory)) (inl (refl))
opening_stopped found start words inventory faults g (Err q) stop a m old new read taken' is_g is_new is (inr long) =
    subst (λ (x : Stop). RehearsesTo found start words (Err x) (change m a a) old new) (sym (is.1 ∙ long.0))
    (inventory, faults, record { read = read; faults_are = taken' }, inl (subst (λ h. ReplanTooLong h start) is_g long.1, refl, is_new))

-- the run is played
pub plays_on :
    (found : Result Inventory InvFault) (words : List (List ℕ)) (inventory : Inventory) (faults : List NumberedFault) (start at : ℕ) (g : Forest) (cs : List (List ℕ)) (k now : CoreState) (behind : Behind) (lines : List ℕ) (result : Result (Unit {0}) Stop) (new : World) (left : Behind) (out : Change) (old : Behind) →
    found ≡ Ok inventory → faults_of words ≡ Ok faults → g ≡ inventory.forest → cs ≡ inventory.credentials → behind ≡ fresh_broker inventory faults → Replan (unplanned g) start k → now ≡ shorts_taken k → at ≡ start →
    lines ≡ short_need_lines k.forest k.shortened → Plays cs (both now (Some behind)) at lines result new out → new.behind ≡ Some left → RehearsesTo found start words result out old left
plays_on found words inventory faults start at g cs k now behind lines result new left out old read taken' is_g is_cs is_behind r is_now is_at lines_are plays is =
    let p1 = subst (λ c. Plays c (both now (Some behind)) at lines result new out) is_cs plays in
    let p2 = subst (λ e. Plays inventory.credentials (both now (Some e)) at lines result new out) is_behind p1 in
    let p3 = subst (λ s. Plays inventory.credentials (both s (Some (fresh_broker inventory faults))) at lines result new out) is_now p2 in
    let p4 = subst (λ t. Plays inventory.credentials (both (shorts_taken k) (Some (fresh_broker inventory faults))) t lines result new out) is_at p3 in
    rehearsed found words inventory faults start k lines result new left out old (record { read = read; faults_are = taken' }) (subst (λ h. Replan (unplanned h) start k) is_g r) lines_are p4 is

-- the keeper is ready for its first tick
pub ready_opened : (g : Forest) (start : ℕ) (k now : CoreState) → Replan (unplanned g) start k → now ≡ shorts_taken k → IsBetweenEvents now
ready_opened g start k now r is_now = record { quiet = ap (λ (s : CoreState). s.shortened) is_now; closed = ap (λ (s : CoreState). s.round) is_now ∙ ap (λ (s : CoreState). s.round) r.is }

-- and there is a credential for each of its entries
pub fit_opened :
    (inventory : Inventory) (g : Forest) (cs : List (List ℕ)) (start : ℕ) (k now : CoreState) → IsInventory inventory → g ≡ inventory.forest → cs ≡ inventory.credentials → Replan (unplanned g) start k → now ≡ shorts_taken k →
    length cs ≡ length now.forest.entries
fit_opened inventory g cs start k now sound is_g is_cs r is_now =
    let like = replanned inventory.forest (unplanned inventory.forest) start k (same inventory.forest) (subst (λ h. Replan (unplanned h) start k) is_g r) in
    ap length is_cs ∙ sound.credentials ∙ sym (ap (λ (s : CoreState). length s.forest.entries) is_now ∙ like.count)

pub comes_first : (g : Forest) (start at : ℕ) (k now : CoreState) → Replan (unplanned g) start k → now ≡ shorts_taken k → at ≡ start → start ≤ LAST → MayCome now.last (Some at)
comes_first g start at k now r is_now is_at late =
    let last : now.last ≡ start = ap (λ (s : CoreState). s.last) is_now ∙ ap (λ (s : CoreState). s.last) r.is in
    (omega arith, omega arith)
