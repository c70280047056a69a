-- What was acknowledged holds through kills and losses of power.
use Rattle.std.proofs.Common.{◌≡◌, ◌⊎◌, inl, inr, ⊎_elim, ℕ, ◌≤◌, true, false, List, [], ◌∷◌, ◌++◌, Option, Some, None, Result, Ok, Err, refl, sym, ap, subst, ◌∙◌}
use Rattle.base_disk.specs.{Image.File, Image.Image, State.DiskState, declared.fault.DiskFault.DiskFault}
use Rattle.base_journal.specs.{Records.StandsFor, Records.lines_kept, declared.journal.Journal.Journal}
use Rattle.base_journal.specs.Journals.{Exchanging, JournalIsWhole, bytes_of_file, lines_of_journal, path_of_journal}
use Rattle.base_journal.specs.Lives.{Aim, AllHappen, Answered, AreMade, Call, CallsMake, Compact, Elsewhere, End, Event, Exchange, HoldsAll, IsCall, IsDone, IsEnd, LeavesAmid, LeftAtEnd, OverStarts, Put, Standing, answered, calls_at_end, lines_with, standing_after, standing_after_all}
use Rattle.base_journal.proofs.{Readings.stands_once, Runs.rest_has, Steps.at_end}

-- ---- one call more

made_by : (calls : List Answered) (from lines : List (List ℕ)) (call : Answered) → CallsMake calls from lines → CallsMake (calls ++ call ∷ []) from (lines_with call.aim lines)
made_by [] from lines call so = inl (ap (lines_with call.aim) so)
made_by (first ∷ calls) from lines call (inl so) = inl (made_by calls (lines_with first.aim from) lines call so)
made_by (first ∷ calls) from lines call (inr (left, so)) = inr (left, made_by calls from lines call so)

made_without : (calls : List Answered) (from lines : List (List ℕ)) (call : Answered) → call.is_acknowledged ≡ false → CallsMake calls from lines → CallsMake (calls ++ call ∷ []) from lines
made_without [] from lines call left so = inr (left, so)
made_without (first ∷ calls) from lines call left (inl so) = inl (made_without calls (lines_with first.aim from) lines call left so)
made_without (first ∷ calls) from lines call left (inr (other, so)) = inr (other, made_without calls from lines call left so)

-- ---- one call

-- the file as it might have been left before, or with the lines that were held, or with what the call makes of them
abbrev Amid : Aim → List ℕ → List (List ℕ) → DiskState → Image → Type 0
Amid aim path lines s c = ((d : Image) × s.may_leave d × (c path ≡ d path)) ⊎ (StandsFor (bytes_of_file (c path)) lines ⊎ StandsFor (bytes_of_file (c path)) (lines_with aim lines))

exchanged : (path target : List ℕ) (file : File) (lines more : List (List ℕ)) (s : DiskState) (c : Image) → Exchanging path target file (λ bytes. StandsFor bytes more) s c
    → ((d : Image) × s.may_leave d × (c path ≡ d path)) ⊎ (StandsFor (bytes_of_file (c path)) lines ⊎ StandsFor (bytes_of_file (c path)) more)
exchanged path target file lines more s c e = ⊎_elim
    (λ both. inl (e.was, e.before, both.1))
    (λ moved. ⊎_elim (λ same. inl (e.was, e.before, same)) (λ stands. inr (inr stands)) moved.1)
    e.both

amid : (aim : Aim) (path : List ℕ) (lines : List (List ℕ)) (s : DiskState) (c : Image) → LeavesAmid aim path lines s c → Amid aim path lines s c
amid (Put line) path lines s c (d, was, elsewhere, inl same) = inl (d, was, same)
amid (Put line) path lines s c (d, was, elsewhere, inr stands) = inr stands
amid (Compact outs) path lines s c (d, was, elsewhere, inl same) = inl (d, was, same)
amid (Compact outs) path lines s c (d, was, elsewhere, inr stands) = inr (inr stands)
amid (Exchange target file outs) path lines s c e = exchanged path target file lines (lines_kept lines outs) s c e
amid Elsewhere path lines s c left = inl left

done_lines : (aim : Aim) (old new : Journal) (s : DiskState) → IsDone aim old new s → lines_of_journal new ≡ lines_with aim (lines_of_journal old)
done_lines (Put line) old new s done = done.0
done_lines (Compact outs) old new s done = done.0
done_lines (Exchange target file outs) old new s done = done.0
done_lines Elsewhere old new s done = done

-- its lines are on the disk, or it had nothing to do with them
done_is : (aim : Aim) (old new : Journal) (s : DiskState) → IsDone aim old new s → JournalIsWhole new s ⊎ (aim ≡ Elsewhere)
done_is (Put line) old new s done = inl done.1
done_is (Compact outs) old new s done = inl done.1
done_is (Exchange target file outs) old new s done = inl done.1
done_is Elsewhere old new s done = inr refl

-- what has nothing to do with them makes the same, acknowledged or not
made_elsewhere : (calls : List Answered) (from lines : List (List ℕ)) → CallsMake (calls ++ record { aim = Elsewhere; is_acknowledged = false } ∷ []) from lines
    → CallsMake (calls ++ record { aim = Elsewhere; is_acknowledged = true } ∷ []) from lines
made_elsewhere [] from lines (inl so) = inl so
made_elsewhere [] from lines (inr (left, so)) = inl so
made_elsewhere (first ∷ calls) from lines (inl so) = inl (made_elsewhere calls (lines_with first.aim from) lines so)
made_elsewhere (first ∷ calls) from lines (inr (left, so)) = inr (left, made_elsewhere calls from lines so)

-- ---- all of them

module _ {D : Type 0} (state : D → DiskState) (counts : (disk : D) (t : ℕ) (c : Image) → t ≤ (state disk).moment → (state disk).may_leave c → (state disk).left_since t c) (first : Standing D) where
  more : (calls : List Answered) (lines : List (List ℕ)) (call : Answered) → AreMade state first calls lines → AreMade state first (calls ++ call ∷ []) (lines_with call.aim lines)
  more calls lines call (from, were, so) = (from, were, made_by calls from lines call so)

  without : (calls : List Answered) (lines : List (List ℕ)) (call : Answered) → call.is_acknowledged ≡ false → AreMade state first calls lines → AreMade state first (calls ++ call ∷ []) lines
  without calls lines call left (from, were, so) = (from, were, made_without calls from lines call left so)

  elsewhere_too : (aim : Aim) (calls : List Answered) (lines : List (List ℕ)) → aim ≡ Elsewhere → AreMade state first (calls ++ record { aim = aim; is_acknowledged = false } ∷ []) lines
      → AreMade state first (calls ++ record { aim = aim; is_acknowledged = true } ∷ []) lines
  elsewhere_too aim calls lines is made = subst (λ (a : Aim). AreMade state first (calls ++ record { aim = a; is_acknowledged = true } ∷ []) lines) (sym is)
      (let m = subst (λ (a : Aim). AreMade state first (calls ++ record { aim = a; is_acknowledged = false } ∷ []) lines) is made in (m.0, m.1, made_elsewhere calls m.0 lines m.2))

  -- what a crash amid a call leaves
  amid_call : (old : Standing D) (aim : Aim) → HoldsAll state first old → (c : Image) → Amid aim (path_of_journal old.journal) (lines_of_journal old.journal) (state old.disk) c
      → (lines : List (List ℕ)) → StandsFor (bytes_of_file (c (path_of_journal old.journal))) lines → AreMade state first (old.calls ++ record { aim = aim; is_acknowledged = false } ∷ []) lines
  amid_call old aim so c (inl (d, was, same)) lines stands =
      without old.calls lines (record { aim = aim; is_acknowledged = false }) refl (so.left d was lines (subst (λ (o : Option File). StandsFor (bytes_of_file o) lines) same stands))
  amid_call old aim so c (inr (inl has)) lines stands =
      subst (AreMade state first (old.calls ++ record { aim = aim; is_acknowledged = false } ∷ [])) (stands_once (bytes_of_file (c (path_of_journal old.journal))) (lines_of_journal old.journal) lines has stands)
      (without old.calls (lines_of_journal old.journal) (record { aim = aim; is_acknowledged = false }) refl so.held)
  amid_call old aim so c (inr (inr has)) lines stands =
      subst (AreMade state first (old.calls ++ record { aim = aim; is_acknowledged = false } ∷ []))
      (stands_once (bytes_of_file (c (path_of_journal old.journal))) (lines_with aim (lines_of_journal old.journal)) lines has stands)
      (more old.calls (lines_of_journal old.journal) (record { aim = aim; is_acknowledged = false }) so.held)

  -- and what one behind it does, whatever its answer
  behind_call : (old : Standing D) (call : Call D) → HoldsAll state first old → IsCall state old call → (c : Image) → (state call.disk).may_leave c
      → (lines : List (List ℕ)) → StandsFor (bytes_of_file (c (path_of_journal call.journal))) lines → AreMade state first (old.calls ++ record { aim = call.aim; is_acknowledged = false } ∷ []) lines
  behind_call old call so is c left lines stands =
      amid_call old call.aim so c
      (amid call.aim (path_of_journal old.journal) (lines_of_journal old.journal) (state old.disk) c
      (at_end (state old.disk) (state call.disk) (LeavesAmid call.aim (path_of_journal old.journal) (lines_of_journal old.journal) (state old.disk)) is.any_moment (counts call.disk) c left))
      lines (subst (λ (p : List ℕ). StandsFor (bytes_of_file (c p)) lines) is.path stands)

  call_holds : (old : Standing D) (aim : Aim) (answer : Result (Unit {0}) DiskFault) (journal : Journal) (disk : D) → HoldsAll state first old
      → IsCall state old (record { aim = aim; answer = answer; journal = journal; disk = disk }) → HoldsAll state first (record { calls = old.calls ++ answered aim answer ∷ []; journal = journal; disk = disk })
  call_holds old aim (Ok x) journal disk so is =
      let now = more old.calls (lines_of_journal old.journal) (record { aim = aim; is_acknowledged = true }) so.held in
      let lines_are = done_lines aim old.journal journal (state disk) is.acknowledged in
      record {
        held = subst (AreMade state first (old.calls ++ record { aim = aim; is_acknowledged = true } ∷ [])) (sym lines_are) now;
        left = λ c left lines stands. ⊎_elim
            (λ whole. subst (AreMade state first (old.calls ++ record { aim = aim; is_acknowledged = true } ∷ []))
            (sym lines_are ∙ stands_once (bytes_of_file (c (path_of_journal journal))) (lines_of_journal journal) lines (rest_has (path_of_journal journal) (lines_of_journal journal) journal.size (state disk) whole c left) stands)
            now)
            (λ is_elsewhere. elsewhere_too aim old.calls lines is_elsewhere (behind_call old (record { aim = aim; answer = Ok x; journal = journal; disk = disk }) so is c left lines stands))
            (done_is aim old.journal journal (state disk) is.acknowledged);
      }
  call_holds old aim (Err fault) journal disk so is = record {
    held = without old.calls (lines_of_journal journal) (record { aim = aim; is_acknowledged = false }) refl (subst (AreMade state first old.calls) (sym is.refused) so.held);
    left = λ c left lines stands. behind_call old (record { aim = aim; answer = Err fault; journal = journal; disk = disk }) so is c left lines stands;
  }

  left_at_end : (old : Standing D) (inside : Option (Call D)) → HoldsAll state first old → (c : Image) → LeftAtEnd state old inside c
      → (lines : List (List ℕ)) → StandsFor (bytes_of_file (c (path_of_journal old.journal))) lines → AreMade state first (calls_at_end old.calls inside) lines
  left_at_end old None so c left lines stands = so.left c left lines stands
  left_at_end old (Some call) so c (is, left) lines stands =
      amid_call old call.aim so c (amid call.aim (path_of_journal old.journal) (lines_of_journal old.journal) (state old.disk) c (is.any_moment.each c left)) lines stands

  end_holds : (old : Standing D) (e : End D) → HoldsAll state first old → IsEnd state old e → HoldsAll state first (record { calls = calls_at_end old.calls e.amid; journal = e.journal; disk = e.disk })
  end_holds old e so is = record {
    held = left_at_end old e.amid so e.seen is.seen (lines_of_journal e.journal) (subst (λ (p : List ℕ). StandsFor (bytes_of_file (e.seen p)) (lines_of_journal e.journal)) is.path is.read);
    left = λ c left lines stands. left_at_end old e.amid so c (is.left c left) lines (subst (λ (p : List ℕ). StandsFor (bytes_of_file (c p)) lines) is.path stands);
  }

  pub all_hold : (events : List (Event D)) (s : Standing D) → HoldsAll state first s → AllHappen state s events → HoldsAll state first (standing_after_all s events)
  all_hold [] s so happened = so
  all_hold (inl call ∷ events) s so happened = all_hold events (standing_after s (inl call)) (call_holds s call.aim call.answer call.journal call.disk so happened.0) happened.1
  all_hold (inr e ∷ events) s so happened = all_hold events (standing_after s (inr e)) (end_holds s e so happened.0) happened.1

pub over_starts : {D : Type 0} (state : D → DiskState) → ((disk : D) (t : ℕ) (c : Image) → t ≤ (state disk).moment → (state disk).may_leave c → (state disk).left_since t c) → OverStarts state
over_starts {D} state counts first none events happened =
    let nothing : HoldsAll state first first = record {
      held = (lines_of_journal first.journal, inl refl, subst (λ (calls : List Answered). CallsMake calls (lines_of_journal first.journal) (lines_of_journal first.journal)) (sym none) refl);
      left = λ c left lines stands. (lines, inr (c, left, stands), subst (λ (calls : List Answered). CallsMake calls lines lines) (sym none) refl);
    } in
    all_hold state counts first events first nothing happened
