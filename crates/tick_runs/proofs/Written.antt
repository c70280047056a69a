-- Written: what a run has written so far, and what it has written at its end.
use Rattle.std.proofs.Common.{◌≡◌, ◌∙◌, ℕ, ◌+◌, ◌*◌, ◌<◌, ◌≤◌, IsTrue, List, [], ◌++◌, Option, Some, None, Result, Ok, Err, ap, arith, inl, inr, length, refl, subst, sym, take}
use Rattle.std.specs.{Result.IsErr, Result.IsErrAnd, Io.KnownBytes.Appends, Io.KnownBytes.Keeps}
use Rattle.std.proofs.{KnownBytes.Appends-kept, KnownBytes.Appends-trans, Math.Seq.take-append_seam}
use Rattle.std.proofs.lemmas.List.{append-nil, append_assoc}
use Rattle.base_device.specs.{Seen.Change, Front.AppendsFront, declared.fault.SinkFault.SinkFault}
use Rattle.base_device.specs.Failures.{Counts, HasFailed, one_more}
use Rattle.base_device.specs.declared.fault.SinkFault.TheVariants as sink
use Rattle.vault_inventory.specs.Inventories.{Inventory}
use Rattle.vault_exchange.specs.Exchanges.{Behind}
use Rattle.tick_keeper.specs.{LawsOfSteps.IsShaped, State.CoreState}
use Rattle.tick_keeper.proofs.Shaped.{both_shaped, same}
use Rattle.program_report.specs.{declared.stop.Stop.Stop, Exits.stop_of_sink}
use Rattle.program_report.specs.declared.stop.Stop.TheVariants as stops
use Rattle.program_report.proofs.{Counting.failed_once, Pieces.front_more}
use Rattle.tick_runs.specs.{Closed.World, Hearing.IsBetweenEvents, Stops.both, Text.done_text, Text.inventory_with}
use Rattle.tick_runs.specs.code.Playing.{Finishes, IsText, LastFront, LastPlays, MayCome, Plays, PlaysFront, RunEnds, RunGoes}
use Rattle.tick_runs.proofs.Goes.{ends_go, goes_as, goes_nowhere, goes_on}

-- ---- one text after another

pub whole_front : (a b : Option (List ℕ)) (x y : List ℕ) → Appends a b x → AppendsFront a b (x ++ y)
whole_front a b x y all = (length x, subst (Appends a b) (sym (take-append_seam x y)) all)

-- a run's text so far, and with its last line
so_far : (s : Inventory) (old new : World) (start : ℕ) (next : Option ℕ) (w a : ℕ) (lines : List ℕ) → RunGoes s old (Some start) new next w a lines → IsText s old start lines
so_far s old new start next w a lines goes = record { new = new; next = next; wakes = w; asked = a; lines = lines; goes = goes; text_is = inl refl }

with_done : (s : Inventory) (old new : World) (start : ℕ) (w a : ℕ) (lines : List ℕ) → RunGoes s old (Some start) new None w a lines → IsText s old start (lines ++ done_text w a)
with_done s old new start w a lines goes = record { new = new; next = None; wakes = w; asked = a; lines = lines; goes = goes; text_is = inr (refl, refl) }

-- ---- the loop

-- a run that has come so far: its lines were written after those before it, and no write has failed
pub record Going (cs : List (List ℕ)) (old : World) (start : ℕ) (before : List ℕ) (first : Option (List ℕ)) (failed : ℕ) (now : World) (due wakes asked : ℕ) (written : Option (List ℕ)) (failed_now : ℕ) : Type 0 where
  pub lines : List ℕ
  pub goes : RunGoes (inventory_with cs old.keeper.forest) old (Some start) now (Some due) wakes asked lines
  pub all : Appends first written (before ++ lines)
  pub count : failed_now ≡ failed
  pub ready : IsBetweenEvents now.keeper
  pub comes : MayCome now.keeper.last (Some due)
  pub like : IsShaped old.keeper.forest now.keeper.forest
  pub few : asked ≤ wakes * 4096

pub going_first :
    (cs : List (List ℕ)) (old : World) (start : ℕ) (before : List ℕ) (first : Option (List ℕ)) (failed : ℕ) (written : Option (List ℕ)) (failed_now : ℕ) → IsBetweenEvents old.keeper → MayCome old.keeper.last (Some start) →
    Appends first written before → failed_now ≡ failed → Going cs old start before first failed old start 0 0 written failed_now
going_first cs old start before first failed written failed_now ready comes all count = record {
  lines = [];
  goes = goes_nowhere (inventory_with cs old.keeper.forest) old (Some start);
  all = subst (Appends first written) (sym (append-nil before)) all;
  count = count;
  ready = ready;
  comes = comes;
  like = same old.keeper.forest;
  few = omega arith;
}

module _ (cs : List (List ℕ)) (old : World) (start : ℕ) (before : List ℕ) (first : Option (List ℕ)) (failed : ℕ) (now : World) (due wakes asked : ℕ) (written : Option (List ℕ)) (failed_now : ℕ)
    (g : Going cs old start before first failed now due wakes asked written failed_now) where
  s : Inventory
  s = inventory_with cs old.keeper.forest

  on : (new : World) (next : Option ℕ) (w a : ℕ) (text : List ℕ) → RunGoes (inventory_with cs now.keeper.forest) now (Some due) new next w a text → RunGoes (inventory_with cs old.keeper.forest) old (Some start) new next (wakes + w) (asked + a) (g.lines ++ text)
  unfolding s
  on new next w a text more =
      goes_on s old now new (Some start) (Some due) next wakes w asked a g.lines text g.goes (goes_as s (inventory_with cs now.keeper.forest) now new (Some due) next w a text g.like refl more)

  -- a wake-up more, and its lines were written
  pub going_more :
      (new : World) (then' a : ℕ) (text : List ℕ) (after : Option (List ℕ)) (failed_after : ℕ) → RunGoes (inventory_with cs now.keeper.forest) now (Some due) new (Some then') 1 a text → IsShaped now.keeper.forest new.keeper.forest →
      IsBetweenEvents new.keeper → MayCome new.keeper.last (Some then') → a ≤ 4096 → Appends written after text → failed_after ≡ failed_now → Going cs old start before first failed new then' (wakes + 1) (asked + a) after failed_after
  unfolding on
  going_more new then' a text after failed_after more like ready comes few all count = record {
    lines = g.lines ++ text;
    goes = on new (Some then') 1 a text more;
    all = subst (Appends first after) (append_assoc before g.lines text) (Appends-trans first written after (before ++ g.lines) text g.all all);
    count = count ∙ g.count;
    ready = ready;
    comes = comes;
    like = both_shaped old.keeper.forest now.keeper.forest new.keeper.forest g.like like;
    few = (let f = g.few in omega arith);
  }

  -- memory was wanting: what was written stands
  pub going_stops : (new : World) (out : Change) → out.old.output.written ≡ first → out.new.output.written ≡ written → Plays cs old start before (Err stops.Memory) new out
  going_stops new out old_is new_is = (
    g.lines,
    so_far (inventory_with cs old.keeper.forest) old now start (Some due) wakes asked g.lines g.goes,
    subst (λ o. AppendsFront o out.new.output.written (before ++ g.lines)) (sym old_is)
        (subst (λ o. AppendsFront first o (before ++ g.lines)) (sym new_is) (subst (AppendsFront first written) (append-nil (before ++ g.lines)) (whole_front first written (before ++ g.lines) [] g.all))),
  )

  -- a front of a wake-up's lines was written
  cut_in :
      (new : World) (next : Option ℕ) (w a : ℕ) (text : List ℕ) (out : Change) → RunGoes (inventory_with cs now.keeper.forest) now (Some due) new next w a text → out.old.output.written ≡ first →
      AppendsFront written out.new.output.written text → PlaysFront (inventory_with cs old.keeper.forest) old start before out
  unfolding on
  cut_in new next w a text out more old_is front = (
    g.lines ++ text,
    so_far (inventory_with cs old.keeper.forest) old new start next (wakes + w) (asked + a) (g.lines ++ text) (on new next w a text more),
    subst (λ o. AppendsFront o out.new.output.written (before ++ (g.lines ++ text))) (sym old_is)
        (subst (AppendsFront first out.new.output.written) (append_assoc before g.lines text) (front_more first written out.new.output.written (before ++ g.lines) text g.all front)),
  )

  -- the lines of a wake-up were not written whole
  pub going_unwritten :
      (answer : Result (Unit {0}) Stop) (fault : SinkFault) (new final : World) (next : Option ℕ) (w a : ℕ) (text : List ℕ) (out : Change) → IsErr answer × IsErrAnd answer (λ stop. stop ≡ stop_of_sink fault) →
      RunGoes (inventory_with cs now.keeper.forest) now (Some due) new next w a text → out.old.output.written ≡ first → out.old.failed_calls ≡ failed → AppendsFront written out.new.output.written text → Counts {X = Unit {0}} (Err fault) failed_now out.new.failed_calls →
      Plays cs old start before answer final out
  going_unwritten (Ok u) fault new final next w a text out is more old_is failed_is front count = absurd (let no = is.0 in cc)
  going_unwritten (Err stop) sink.Failed new final next w a text out is more old_is failed_is front count =
      subst (λ (q : Stop). Plays cs old start before (Err q) final out) (sym is.1)
      (failed_once out.old.failed_calls out.new.failed_calls (count ∙ ap one_more (g.count ∙ sym failed_is)), cut_in new next w a text out more old_is front)
  going_unwritten (Err stop) sink.OutOfMemory new final next w a text out is more old_is failed_is front count =
      subst (λ (q : Stop). Plays cs old start before (Err q) final out) (sym is.1) (cut_in new next w a text out more old_is front)

-- ---- the end

regroup : (a b c d : List ℕ) → (a ++ b) ++ (c ++ d) ≡ a ++ ((b ++ c) ++ d)
regroup a b c d = append_assoc a b (c ++ d) ∙ ap (λ l. a ++ l) (sym (append_assoc b c d))

-- only a front of what was left was sent
cut_at :
    (cs : List (List ℕ)) (old : World) (start : ℕ) (before : List ℕ) (new : World) (w a : ℕ) (front rest : List ℕ) (written : Option (List ℕ)) (last out : Change) →
    RunGoes (inventory_with cs old.keeper.forest) old (Some start) new None w a (front ++ rest) → Appends out.old.output.written written (before ++ front) → AppendsFront last.old.output.written last.new.output.written (rest ++ done_text w a) → last.old.output.written ≡ written → last.new.output.written ≡ out.new.output.written →
    PlaysFront (inventory_with cs old.keeper.forest) old start before out
cut_at cs old start before new w a front rest written last out goes all ends old_is new_is =
    let part : AppendsFront written out.new.output.written (rest ++ done_text w a) = subst (λ o. AppendsFront o out.new.output.written (rest ++ done_text w a)) old_is (subst (λ o. AppendsFront last.old.output.written o (rest ++ done_text w a)) new_is ends) in (
      (front ++ rest) ++ done_text w a,
      with_done (inventory_with cs old.keeper.forest) old new start w a (front ++ rest) goes,
      subst (AppendsFront out.old.output.written out.new.output.written) (regroup before front rest (done_text w a)) (front_more out.old.output.written written out.new.output.written (before ++ front) (rest ++ done_text w a) all part),
    )

-- the run has come to its end; front of its lines is written, and what is left of them is sent with the last line
pub finished :
    (cs : List (List ℕ)) (old : World) (start : ℕ) (before : List ℕ) (new : World) (w a : ℕ) (front rest : List ℕ) (written : Option (List ℕ)) (failed_now : ℕ) (result : Result (Unit {0}) Stop) (last out : Change) →
    RunGoes (inventory_with cs old.keeper.forest) old (Some start) new None w a (front ++ rest) → Appends out.old.output.written written (before ++ front) → w ≤ 100000 → Finishes (rest ++ done_text w a) result last → last.old.output.written ≡ written → last.new.output.written ≡ out.new.output.written →
    last.old.failed_calls ≡ out.old.failed_calls → last.new.failed_calls ≡ out.new.failed_calls → last.new.output.is_flushed ≡ out.new.output.is_flushed → Plays cs old start before result new out
finished cs old start before new w a front rest written failed_now (Ok u) last out goes all few ends old_is new_is failed_is failed_after_is flushed_is =
    let whole : Appends written out.new.output.written (rest ++ done_text w a) = subst (λ o. Appends o out.new.output.written (rest ++ done_text w a)) old_is (subst (λ o. Appends last.old.output.written o (rest ++ done_text w a)) new_is ends.0) in
    record {
      wakes = w;
      asked = a;
      lines = front ++ rest;
      goes = goes;
      few = few;
      sent = (subst (Appends out.old.output.written out.new.output.written) (regroup before front rest (done_text w a)) (Appends-trans out.old.output.written written out.new.output.written (before ++ front) (rest ++ done_text w a) all whole), subst IsTrue flushed_is ends.1);
    }
finished cs old start before new w a front rest written failed_now (Err stops.Write) last out goes all few ends old_is new_is failed_is failed_after_is flushed_is = (
  subst (λ n. HasFailed n out.new.failed_calls) failed_is (subst (HasFailed last.old.failed_calls) failed_after_is ends.0),
  cut_at cs old start before new w a front rest written last out goes all ends.1 old_is new_is,
)
finished cs old start before new w a front rest written failed_now (Err stops.Memory) last out goes all few ends old_is new_is failed_is failed_after_is flushed_is = cut_at cs old start before new w a front rest written last out goes all ends old_is new_is
finished cs old start before new w a front rest written failed_now (Err _) last out goes all few ends old_is new_is failed_is failed_after_is flushed_is = absurd ends

last_cut :
    (cs : List (List ℕ)) (old : World) (start : ℕ) (before : List ℕ) (first : Option (List ℕ)) (failed : ℕ) (now : World) (due asked : ℕ) (written : Option (List ℕ)) (failed_now : ℕ) (last out : Change) →
    Going cs old start before first failed now due 100000 asked written failed_now → LastFront cs now.behind now.keeper due asked last → out.old.output.written ≡ first → last.old.output.written ≡ written → last.new.output.written ≡ out.new.output.written →
    PlaysFront (inventory_with cs old.keeper.forest) old start before out
last_cut cs old start before first failed now due asked written failed_now last out g (inl kept) old_is last_old_is new_is =
    let stays : Keeps written out.new.output.written = subst (λ o. Keeps o out.new.output.written) last_old_is (subst (λ o. Keeps last.old.output.written o) new_is kept) in (
      g.lines,
      so_far (inventory_with cs old.keeper.forest) old now start (Some due) 100000 asked g.lines g.goes,
      subst (λ o. AppendsFront o out.new.output.written (before ++ g.lines)) (sym old_is)
          (subst (AppendsFront first out.new.output.written) (append-nil (before ++ g.lines)) (whole_front first out.new.output.written (before ++ g.lines) [] (Appends-kept first written out.new.output.written (before ++ g.lines) g.all stays))),
    )
last_cut cs old start before first failed now due asked written failed_now last out g (inr part) old_is last_old_is new_is =
    cut_at cs old start before part.0 100000 asked g.lines part.1 written last out
    (subst (λ n. RunGoes (inventory_with cs old.keeper.forest) old (Some start) part.0 None 100000 n (g.lines ++ part.1)) (let z : asked + 0 ≡ asked = omega arith in z)
    (goes_on (inventory_with cs old.keeper.forest) old now part.0 (Some start) (Some due) None 100000 0 asked 0 g.lines part.1 g.goes
    (goes_as (inventory_with cs old.keeper.forest) (inventory_with cs now.keeper.forest) now part.0 (Some due) None 0 0 part.1 g.like refl part.2)))
    (subst (λ o. Appends o written (before ++ g.lines)) (sym old_is) g.all) part.3 last_old_is new_is

-- after the last wake-up that a run may have
pub last_played :
    (cs : List (List ℕ)) (old : World) (start : ℕ) (before : List ℕ) (first : Option (List ℕ)) (failed : ℕ) (now : World) (due asked : ℕ) (written : Option (List ℕ)) (failed_now : ℕ) (result : Result (Unit {0}) Stop)
    (keeper : CoreState) (last out : Change) → Going cs old start before first failed now due 100000 asked written failed_now → LastPlays cs now.behind now.keeper due asked result keeper last → out.old.output.written ≡ first → last.old.output.written ≡ written →
    last.new.output.written ≡ out.new.output.written → last.old.failed_calls ≡ out.old.failed_calls → last.new.failed_calls ≡ out.new.failed_calls → last.new.output.is_flushed ≡ out.new.output.is_flushed → Plays cs old start before result (both keeper now.behind) out
last_played cs old start before first failed now due asked written failed_now (Ok u) keeper last out g ends old_is last_old_is new_is failed_is failed_after_is flushed_is =
    finished cs old start before (both keeper now.behind) 100000 asked g.lines ends.0 written failed_now (Ok u) last out
    (subst (λ n. RunGoes (inventory_with cs old.keeper.forest) old (Some start) (both keeper now.behind) None 100000 n (g.lines ++ ends.0)) (let z : asked + 0 ≡ asked = omega arith in z)
    (goes_on (inventory_with cs old.keeper.forest) old now (both keeper now.behind) (Some start) (Some due) None 100000 0 asked 0 g.lines ends.0 g.goes
    (goes_as (inventory_with cs old.keeper.forest) (inventory_with cs now.keeper.forest) now (both keeper now.behind) (Some due) None 0 0 ends.0 g.like refl ends.1)))
    (subst (λ o. Appends o written (before ++ g.lines)) (sym old_is) g.all) (omega arith) ends.2 last_old_is new_is failed_is failed_after_is flushed_is
last_played cs old start before first failed now due asked written failed_now (Err stops.TooLong) keeper last out g ends old_is last_old_is new_is failed_is failed_after_is flushed_is =
    let none : Appends written out.new.output.written [] = subst (λ o. Appends o out.new.output.written []) last_old_is (subst (λ o. Appends last.old.output.written o []) new_is ends.1.0) in
    record {
      keeper = now.keeper;
      due = due;
      asked = asked;
      lines = g.lines;
      goes = g.goes;
      more = ends.0;
      sent = (
        subst (λ o. Appends o out.new.output.written (before ++ g.lines)) (sym old_is) (subst (Appends first out.new.output.written) (append-nil (before ++ g.lines)) (Appends-trans first written out.new.output.written (before ++ g.lines) [] g.all none)),
        subst IsTrue flushed_is ends.1.1,
      );
    }
last_played cs old start before first failed now due asked written failed_now (Err stops.Write) keeper last out g ends old_is last_old_is new_is failed_is failed_after_is flushed_is = (
  subst (λ n. HasFailed n out.new.failed_calls) failed_is (subst (HasFailed last.old.failed_calls) failed_after_is ends.0),
  last_cut cs old start before first failed now due asked written failed_now last out g ends.1 old_is last_old_is new_is,
)
last_played cs old start before first failed now due asked written failed_now (Err stops.Memory) keeper last out g ends old_is last_old_is new_is failed_is failed_after_is flushed_is =
    last_cut cs old start before first failed now due asked written failed_now last out g ends old_is last_old_is new_is
last_played cs old start before first failed now due asked written failed_now (Err _) keeper last out g ends old_is last_old_is new_is failed_is failed_after_is flushed_is = absurd ends

-- what `last` comes to, where the run is at its end
pub last_ends :
    (cs : List (List ℕ)) (behind : Option Behind) (old new : CoreState) (due asked : ℕ) (before text : List ℕ) (result : Result (Unit {0}) Stop) (out : Change) → before ≡ [] → RunEnds cs behind old due new before text →
    Finishes (text ++ done_text 100000 asked) result out → LastPlays cs behind old due asked result new out
last_ends cs behind old new due asked before text result out none e ends = by_result result ends where
  goes : (piece : List ℕ) × (RunGoes (inventory_with cs old.forest) (both old behind) (Some due) (both new behind) None 0 0 piece × (text ≡ before ++ piece))
  goes = ends_go cs behind old new due before text e

  here : RunGoes (inventory_with cs old.forest) (both old behind) (Some due) (both new behind) None 0 0 text
  here = subst (RunGoes (inventory_with cs old.forest) (both old behind) (Some due) (both new behind) None 0 0) (sym (goes.1.1 ∙ ap (λ l. l ++ goes.0) none)) goes.1.0

  by_result : (r : Result (Unit {0}) Stop) → Finishes (text ++ done_text 100000 asked) r out → LastPlays cs behind old due asked r new out
  by_result (Ok u) is = (text, here, is)
  by_result (Err stops.Write) is = (is.0, inr (both new behind, text, here, is.1))
  by_result (Err stops.Memory) is = inr (both new behind, text, here, is)
  by_result (Err _) is = absurd is

pub keeps_appends : (a b : Option (List ℕ)) → Keeps a b → Appends a b []
keeps_appends None b kept = tt
keeps_appends (Some p) None kept = absurd kept
keeps_appends (Some p) (Some q) kept = kept ∙ sym (append-nil p)

-- the lines before the run were not written whole
pub unwritten_before :
    (cs : List (List ℕ)) (old new : World) (start : ℕ) (before : List ℕ) (answer : Result (Unit {0}) Stop) (fault : SinkFault) (out : Change) → IsErr answer × IsErrAnd answer (λ stop. stop ≡ stop_of_sink fault) →
    AppendsFront out.old.output.written out.new.output.written before → Counts {X = Unit {0}} (Err fault) out.old.failed_calls out.new.failed_calls → Plays cs old start before answer new out
unwritten_before cs old new start before answer fault out is front count = by_answer answer fault is count where
  cut : PlaysFront (inventory_with cs old.keeper.forest) old start before out
  cut = (
    [],
    so_far (inventory_with cs old.keeper.forest) old old start (Some start) 0 0 [] (goes_nowhere (inventory_with cs old.keeper.forest) old (Some start)),
    subst (AppendsFront out.old.output.written out.new.output.written) (sym (append-nil before)) front,
  )

  by_answer : (r : Result (Unit {0}) Stop) (f : SinkFault) → IsErr r × IsErrAnd r (λ stop. stop ≡ stop_of_sink f) → Counts {X = Unit {0}} (Err f) out.old.failed_calls out.new.failed_calls → Plays cs old start before r new out
  by_answer (Ok u) f one counts = absurd (let no = one.0 in cc)
  by_answer (Err stop) sink.Failed one counts = subst (λ (q : Stop). Plays cs old start before (Err q) new out) (sym one.1) (failed_once out.old.failed_calls out.new.failed_calls counts, cut)
  by_answer (Err stop) sink.OutOfMemory one counts = subst (λ (q : Stop). Plays cs old start before (Err q) new out) (sym one.1) cut

-- ---- the turns of the loop

-- a piece of text that a wake-up made
abbrev pub Piece : (cs : List (List ℕ)) → World → ℕ → World → Option ℕ → ℕ → ℕ → List ℕ → List ℕ → Type 0
Piece cs now due new next w a before after = (text : List ℕ) × (RunGoes (inventory_with cs now.keeper.forest) now (Some due) new next w a text × (after ≡ before ++ text))

pub piece_goes : (cs : List (List ℕ)) (now new : World) (due : ℕ) (next : Option ℕ) (w a : ℕ) (before after : List ℕ) → before ≡ [] → Piece cs now due new next w a before after → RunGoes (inventory_with cs now.keeper.forest) now (Some due) new next w a after
piece_goes cs now new due next w a before after none piece =
    subst (RunGoes (inventory_with cs now.keeper.forest) now (Some due) new next w a) (sym (piece.1.1 ∙ ap (λ l. l ++ piece.0) none)) piece.1.0

-- no wake-up was left, and the lines after the last one are sent with the last line
pub going_to_end :
    (cs : List (List ℕ)) (old : World) (start : ℕ) (before : List ℕ) (first : Option (List ℕ)) (failed : ℕ) (now : World) (due wakes asked : ℕ) (written : Option (List ℕ)) (failed_now : ℕ) (new : World) (text : List ℕ)
    (result : Result (Unit {0}) Stop) (last out : Change) → Going cs old start before first failed now due wakes asked written failed_now → RunGoes (inventory_with cs now.keeper.forest) now (Some due) new None 0 0 text → wakes ≤ 100000 →
    Finishes (text ++ done_text wakes asked) result last → out.old.output.written ≡ first → last.old.output.written ≡ written → last.new.output.written ≡ out.new.output.written → last.old.failed_calls ≡ out.old.failed_calls → last.new.failed_calls ≡ out.new.failed_calls → last.new.output.is_flushed ≡ out.new.output.is_flushed →
    Plays cs old start before result new out
going_to_end cs old start before first failed now due wakes asked written failed_now new text result last out g more few ends old_is last_old_is new_is failed_is failed_after_is flushed_is =
    let s = inventory_with cs old.keeper.forest in
    let goes = goes_on s old now new (Some start) (Some due) None wakes 0 asked 0 g.lines text g.goes (goes_as s (inventory_with cs now.keeper.forest) now new (Some due) None 0 0 text g.like refl more) in
    let goes' = subst (λ n. RunGoes s old (Some start) new None n (asked + 0) (g.lines ++ text)) (let z : wakes + 0 ≡ wakes = omega arith in z) goes in
    let goes'' = subst (λ n. RunGoes s old (Some start) new None wakes n (g.lines ++ text)) (let z : asked + 0 ≡ asked = omega arith in z) goes' in
    finished cs old start before new wakes asked g.lines text written failed_now result last out goes'' (subst (λ o. Appends o written (before ++ g.lines)) (sym old_is) g.all) few ends last_old_is new_is failed_is failed_after_is flushed_is

-- a wake-up was the last, its lines are written, and the last line is sent
pub going_done :
    (cs : List (List ℕ)) (old : World) (start : ℕ) (before : List ℕ) (first : Option (List ℕ)) (failed : ℕ) (now : World) (due wakes asked : ℕ) (written : Option (List ℕ)) (failed_now : ℕ) (new : World) (a : ℕ) (text rest : List ℕ)
    (after : Option (List ℕ)) (result : Result (Unit {0}) Stop) (last out : Change) → Going cs old start before first failed now due wakes asked written failed_now → RunGoes (inventory_with cs now.keeper.forest) now (Some due) new None 1 a text →
    wakes < 100000 → Appends written after text → rest ≡ [] → Finishes (rest ++ done_text (wakes + 1) (asked + a)) result last → out.old.output.written ≡ first → last.old.output.written ≡ after → last.new.output.written ≡ out.new.output.written → last.old.failed_calls ≡ out.old.failed_calls →
    last.new.failed_calls ≡ out.new.failed_calls → last.new.output.is_flushed ≡ out.new.output.is_flushed → Plays cs old start before result new out
going_done cs old start before first failed now due wakes asked written failed_now new a text rest after result last out g more few all none ends old_is last_old_is new_is failed_is failed_after_is flushed_is =
    let s = inventory_with cs old.keeper.forest in
    let goes = goes_on s old now new (Some start) (Some due) None wakes 1 asked a g.lines text g.goes (goes_as s (inventory_with cs now.keeper.forest) now new (Some due) None 1 a text g.like refl more) in
    let whole = g.lines ++ text in
    finished cs old start before new (wakes + 1) (asked + a) whole rest after failed_now result last out
    (subst (RunGoes s old (Some start) new None (wakes + 1) (asked + a)) (sym (ap (λ l. whole ++ l) none ∙ append-nil whole)) goes)
    (subst (λ o. Appends o after (before ++ whole)) (sym old_is) (subst (Appends first after) (append_assoc before g.lines text) (Appends-trans first written after (before ++ g.lines) text g.all all)))
    (omega arith) ends last_old_is new_is failed_is failed_after_is flushed_is

pub for_memory :
    (cs : List (List ℕ)) (old : World) (start : ℕ) (before : List ℕ) (new : World) (out : Change) (answer : Result (Unit {0}) Stop) (stop : Stop) → IsErr answer × IsErrAnd answer (λ (q : Stop). q ≡ stop) → stop ≡ stops.Memory →
    Plays cs old start before (Err stops.Memory) new out → Plays cs old start before answer new out
for_memory cs old start before new out (Ok u) stop is memory plays = absurd (let no = is.0 in cc)
for_memory cs old start before new out (Err q) stop is memory plays = subst (λ (r : Stop). Plays cs old start before (Err r) new out) (sym (is.1 ∙ memory)) plays
