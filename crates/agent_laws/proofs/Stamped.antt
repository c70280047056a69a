-- Stamped: how many stamps a ledger looks at and how many files it reads, and that its disk is left alone. For the laws of disks.
use Rattle.std.proofs.Common.{◌≡◌, ◌∙◌, ℕ, zero, suc, ◌+◌, ◌-◌, ◌*◌, ◌≤◌, ◌≢◌, ◌⊎◌, Bool, inl, inr, List, [], ◌∷◌, ◌++◌, Option, Some, None, Result, Ok, Err, ap, append-nil, append_assoc, arith, length, refl, subst, sym}
use Rattle.std.proofs.lemmas.List.Sums.{sum_by-append, sum_by-cons}
use Rattle.std.specs.{List.sum_by, declared.alloc.AllocError.AllocError}
use Rattle.vault_asking.specs.Sending.{Lanes}
use Rattle.state_changes.specs.{declared.row.Row.Row, declared.secret.Secret.Secret}
use Rattle.base_clock.specs.declared.reading.Reading.{Reading}
use Rattle.base_device.specs.declared.fault.InputFault.{InputFault}
use Rattle.base_disk.specs.State.{DiskState}
use Rattle.vault_proving.specs.{declared.candidate.Candidate.Candidate, declared.verdict.Verdict.Verdict}
use Rattle.state_secrets.specs.{declared.looking.DueFile.DueFile, declared.looking.FileMark.FileMark, declared.looking.Pass.Pass, declared.looking.SecretTrouble.SecretTrouble, declared.looking.Step.Step, declared.news.Looked.Looked}
use Rattle.state_secrets.specs.{declared.secret_files.FileStamp.FileStamp}
use Rattle.state_secrets.specs.Looking.{Passes, PassesByStep, Steps}
use Rattle.state_secrets.specs.Stamps.{FileCall, Made, Opened, Stamped}
use Rattle.state_secrets.specs.declared.looking.Step.TheVariants.{Bare, Same, Ends}
use Rattle.state_secrets.specs.declared.looking.Pass.TheVariants as passes
use Rattle.agent_turns.specs.{Changes.given_by, Neighbours.NeighbourCall}
use Rattle.agent_laws.specs.Disks.{AllAsked, AsksLittle, FewAreMade, KeeperIsCalled, LedgerIsSpared, LedgerLaw, SparesIf, SparesLate, SparesLedger, looks_of, makes_of, opens_of, stamps_of}
use Rattle.agent_ledger.specs.{Lates.DoesBoth, Lates.DoesLate, Ledgers.DoesLedger, declared.asked_file.AskedFile.AskedFile, declared.asker.FileWord.FileWord, declared.late.Late.Late, declared.ledger.Ledger.Ledger}
use Rattle.agent_ledger.specs.{declared.keeping.FileLook.FileLook}
use Rattle.agent_ledger.specs.Keeping.{KeepCall, Look, LookUp, MarkServed, Prove, Reload, RestFor, Settle, Take, TryAgain}
use Rattle.agent_ledger.specs.Takings.{AwaitsIf, IsEarly, IsFileReadAs, IsPass, JudgesFile, LooksBy, LooksByWord, LooksOn, LooksOrHears, LooksUpBy, LooksUpNew, ReadsNew, ReadsUp, TakesHeldUp, TakesRead, TakesUpFile}
use Rattle.agent_ledger.specs.declared.late.Late.TheVariants.{Open, NotYet}

-- ---- calls of files, one after another

few_same : (stamps reads : ℕ) (old new : Option (List FileCall)) → new ≡ old → FewAreMade stamps reads old new
few_same stamps reads old None h = tt
few_same stamps reads old (Some calls) h = (calls, ([], (sym h, (sym (append-nil calls), (omega arith, omega arith)))))

few_stamp : (path : List ℕ) (stamp : Option FileStamp) (old new : Option (List FileCall)) → Made (Stamped path stamp) old new → FewAreMade 1 0 old new
few_stamp path stamp old None h = tt
few_stamp path stamp old (Some calls) h =
    let stamps = sum_by-cons stamps_of (Stamped path stamp) [] in
    let reads = sum_by-cons opens_of (Stamped path stamp) [] in
    (h.0, (Stamped path stamp ∷ [], (h.1.0, (h.1.1, (omega (arith, stamps), omega (arith, reads))))))

few_read : (path : List ℕ) (most : ℕ) (read : Result (List ℕ) InputFault) (old new : Option (List FileCall)) → Made (Opened path most read) old new → FewAreMade 0 1 old new
few_read path most read old None h = tt
few_read path most read old (Some calls) h =
    let stamps = sum_by-cons stamps_of (Opened path most read) [] in
    let reads = sum_by-cons opens_of (Opened path most read) [] in
    (h.0, (Opened path most read ∷ [], (h.1.0, (h.1.1, (omega (arith, stamps), omega (arith, reads))))))

few_more : (i j k l : ℕ) (old new : Option (List FileCall)) → i ≤ k → j ≤ l → FewAreMade i j old new → FewAreMade k l old new
few_more i j k l old None stamps reads h = tt
few_more i j k l old (Some calls) stamps reads h =
    let stamps_in = h.1.1.1.1.0 in
    let reads_in = h.1.1.1.1.1 in
    (h.0, (h.1.0, (h.1.1.0, (h.1.1.1.0, (omega (arith, stamps, stamps_in), omega (arith, reads, reads_in))))))

few_join : (i j k l : ℕ) (a b c : Option (List FileCall)) → FewAreMade i j a b → FewAreMade k l b c → FewAreMade (i + k) (j + l) a c
few_join i j k l a b None h g = tt
few_join i j k l a b (Some calls) h g =
    let first : FewAreMade i j a (Some g.0) = subst (λ (o : Option (List FileCall)). FewAreMade i j a o) g.1.1.0 h in
    let stamps = sum_by-append stamps_of first.1.0 g.1.0 in
    let reads = sum_by-append opens_of first.1.0 g.1.0 in
    let stamps_first = first.1.1.1.1.0 in
    let reads_first = first.1.1.1.1.1 in
    let stamps_last = g.1.1.1.1.0 in
    let reads_last = g.1.1.1.1.1 in (
      first.0,
      (
        first.1.0 ++ g.1.0,
        (
          first.1.1.0,
          (
            g.1.1.1.0 ∙ ap (λ l. l ++ g.1.0) first.1.1.1.0 ∙ append_assoc first.0 first.1.0 g.1.0,
            (omega (arith, stamps, stamps_first, stamps_last), omega (arith, reads, reads_first, reads_last)),
          ),
        ),
      ),
    )

-- ---- a pass

positive : (n : ℕ) → n ≢ 0 → 1 ≤ n
positive zero h = absurd (h refl)
positive (suc n) h = omega arith

module _ {I : Type 0} (calls : I → Option (List FileCall)) (marks : List FileMark) (secrets : List Secret) (folder : List ℕ) (now : ℕ) where
  abbrev Few : ℕ → ℕ → I → I → Type 0
  Few stamps reads old new = FewAreMade stamps reads (calls old) (calls new)

  few_at : (stamps : ℕ) (old new : I) → new ≡ old → Few stamps 0 old new
  few_at stamps old new h = few_same stamps 0 (calls old) (calls new) (ap calls h)

  -- one stamp was looked at, where some more may be
  then_few : (path : List ℕ) (stamp : Option FileStamp) (left rest : ℕ) (old mid new : I) → 1 + rest ≤ left → Made (Stamped path stamp) (calls old) (calls mid) → Few rest 0 mid new → Few left 0 old new
  then_few path stamp left rest old mid new room one more =
      few_more (1 + rest) 0 left 0 (calls old) (calls new) room (omega arith) (few_join 1 0 rest 0 (calls old) (calls mid) (calls new) (few_stamp path stamp (calls old) (calls mid) one) more)

  -- by what is done at the row, if the rows after it are looked at so too
  step_few : (i : ℕ) (row : Row) (rows : List Row) (left : ℕ) (old : I) (step : Step) (mid : I) (pass : Pass) (new : I) →
      ((left : ℕ) (mid : I) → Passes calls marks secrets folder now (i + 1) rows left mid pass new → Few left 0 mid new) → Steps calls marks secrets folder now i row left old step mid →
      PassesByStep calls marks secrets folder now step (Passes calls marks secrets folder now (i + 1) rows) left mid pass new → Few left 0 old new
  step_few i row rows left old Bare mid pass new later h k = subst (λ (x : I). Few left 0 x new) h.1 (later left mid k)
  step_few i row rows left old Same mid pass new later h k =
      let some = positive left h.more in
      then_few _ h.stamp left (left - 1) old mid new (omega (arith, some)) h.looked (later (left - 1) mid k)
  step_few i row rows left old (Ends passes.End) mid pass new later h k = absurd h
  step_few i row rows left old (Ends (passes.Later at)) mid pass new later h k = few_at left old new (k.1 ∙ h.1.1)
  step_few i row rows left old (Ends (passes.Due due)) mid pass new later h k =
      let some = positive left h.more in
      then_few _ h.stamp left 0 old mid new (omega (arith, some)) h.looked (few_at 0 mid new k.1)
  step_few i row rows left old (Ends passes.Want) mid pass new later (inl h) k = few_at left old new (k.1 ∙ h)
  step_few i row rows left old (Ends passes.Want) mid pass new later (inr h) k =
      let some = positive left h.1.1.1.0 in
      then_few _ h.1.0 left 0 old mid new (omega (arith, some)) h.1.1.1.1 (few_at 0 mid new k.1)

  pass_few : (i : ℕ) (rows : List Row) (left : ℕ) (old : I) (pass : Pass) (new : I) → Passes calls marks secrets folder now i rows left old pass new → Few left 0 old new
  pass_few i [] left old pass new h = few_at left old new h.1
  pass_few i (row ∷ rows) left old pass new h = step_few i row rows left old h.0 h.1.0 pass new (λ rest mid k. pass_few (i + 1) rows rest mid pass new k) h.1.1.0 h.1.1.1

-- ---- a look of a ledger

read_few : {I : Type 0} → (calls : I → Option (List FileCall)) (due : DueFile) (read : Result (Result (List ℕ) SecretTrouble) AllocError) (old new : I) → IsFileReadAs calls due read old new → FewAreMade 0 1 (calls old) (calls new)
read_few calls due (Ok held) old new (inl h) = few_same 0 1 (calls old) (calls new) (ap calls h.unopened)
read_few calls due (Ok held) old new (inr (inl h)) = few_same 0 1 (calls old) (calls new) (ap calls h.unopened)
read_few calls due (Ok held) old new (inr (inr h)) = few_read _ _ h.read (calls old) (calls new) h.made
read_few calls due (Err e) old new (inl h) = few_same 0 1 (calls old) (calls new) (ap calls h)
read_few calls due (Err e) old new (inr h) = few_read _ _ h.0 (calls old) (calls new) h.1

module _ {D I L : Type 0} (calls : I → Option (List FileCall)) (lanes_seen : L → Lanes) (port : L → ℕ) (now : Reading) (looked : Looked) where
  -- no file is looked at, and the disk is left alone
  record IsBeside (old new : Ledger D I L) : Type 0 where
    inputs : new.inputs ≡ old.inputs
    disk : new.state.disk ≡ old.state.disk

  beside : (old new : Ledger D I L) → new ≡ old → IsBeside old new
  beside old new h = record { inputs = ap (λ l. l.inputs) h; disk = ap (λ l. l.state.disk) h }

  disk_left : (due : DueFile) (held : Result (List ℕ) SecretTrouble) (old new : Ledger D I L) → TakesUpFile now.elapsed due held old.looking old.state looked new.looking new.state → new.state.disk ≡ old.state.disk
  disk_left due held old new (inl h) = h.disk
  disk_left due held old new (inr h) = h.disk

  taken : (due : DueFile) (held : Result (List ℕ) SecretTrouble) (old new : Ledger D I L) → TakesHeldUp calls lanes_seen port now looked due held old new → IsBeside old new
  taken due held old new h = record { inputs = ap (λ l. l.inputs) h.rest; disk = disk_left due held old new h.takes }

  awaited : (due : DueFile) (result : Result (Unit {0}) AllocError) (old new : Ledger D I L) → AwaitsIf calls lanes_seen port now looked due result old new → IsBeside old new
  awaited due (Ok x) old new h = record { inputs = ap (λ l. l.inputs) h.1; disk = ap (λ l. l.state.disk) h.1 }
  awaited due (Err e) old new h = beside old new h.1

  looked_up_by : (a : AskedFile) (c : Result (Option Candidate) AllocError) (old new : Ledger D I L) → LooksUpBy calls lanes_seen port now looked a c old new → IsBeside old new
  looked_up_by a (Ok None) old new h = taken a.due (Ok a.credential) old new h
  looked_up_by a (Ok (Some c)) old new (inl h) = taken a.due (Ok a.credential) old new h.1
  looked_up_by a (Ok (Some c)) old new (inr h) =
      let all = awaited a.due h.result h.mid new h.then in
      record { inputs = all.inputs ∙ ap (λ l. l.inputs) h.beside; disk = all.disk ∙ ap (λ l. l.state.disk) h.beside }
  looked_up_by a (Err e) old new h = beside old new h.1

  looked_up : (due : DueFile) (credential : List ℕ) (old new : Ledger D I L) → LooksUpNew calls lanes_seen port now looked due credential old new → IsBeside old new
  looked_up due credential old new h = looked_up_by _ h.candidate old new h.looks

  read_taken : (due : DueFile) (read : Result (Result (List ℕ) SecretTrouble) AllocError) (old new : Ledger D I L) → TakesRead calls lanes_seen port now looked due read old new → IsBeside old new
  read_taken due (Ok (Ok credential)) old new (inl h) = taken due (Ok credential) old new h.1
  read_taken due (Ok (Ok credential)) old new (inr h) = looked_up due credential old new h.1
  read_taken due (Ok (Err trouble)) old new h = taken due (Err trouble) old new h
  read_taken due (Err e) old new h = beside old new h.1

  judged : (a : AskedFile) (verdict : Verdict) (old new : Ledger D I L) → JudgesFile calls lanes_seen port now looked a verdict old new → IsBeside old new
  judged a verdict old new (inl h) = beside old new h.1.1
  judged a verdict old new (inr h) =
      let all = taken a.due _ old h.1.mid h.1.takes in
      record { inputs = ap (λ l. l.inputs) h.1.rest ∙ all.inputs; disk = ap (λ l. l.state.disk) h.1.rest ∙ all.disk }

  -- ---- how often files are called

  spared : (stamps reads : ℕ) (old new : Ledger D I L) → IsBeside old new → LedgerIsSpared calls stamps reads old new
  spared stamps reads old new h = record { files = few_same stamps reads (calls old.inputs) (calls new.inputs) (ap calls h.inputs); disk = h.disk }

  read_up : (due : DueFile) (old new : Ledger D I L) → ReadsUp calls lanes_seen port now looked due old new → LedgerIsSpared calls 0 1 old new
  read_up due old new h =
      let rest = read_taken due h.read (record old { inputs = h.files }) new h.then in
      record {
        files = subst (λ (i : I). FewAreMade 0 1 (calls old.inputs) (calls i)) (sym rest.inputs) (read_few calls due h.read old.inputs h.files h.reads);
        disk = rest.disk;
      }

  read_new : (due : DueFile) (old new : Ledger D I L) → ReadsNew calls lanes_seen port now looked due old new → LedgerIsSpared calls 0 1 old new
  read_new due old new (inl h) = spared 0 1 old new (record { inputs = ap (λ l. l.inputs) h.1.1; disk = ap (λ l. l.state.disk) h.1.1 })
  read_new due old new (inr h) = read_up due old new h.1

  passed : (pass : Pass) (old new : Ledger D I L) → LooksBy calls lanes_seen port now looked pass old new → LedgerIsSpared calls 0 1 old new
  passed passes.End old new h = spared 0 1 old new (record { inputs = ap (λ l. l.inputs) h.1.1; disk = ap (λ l. l.state.disk) h.1.1 })
  passed (passes.Later at) old new h = spared 0 1 old new (record { inputs = ap (λ l. l.inputs) h.1; disk = ap (λ l. l.state.disk) h.1 })
  passed (passes.Due due) old new h = read_new due old new h
  passed passes.Want old new h = spared 0 1 old new (beside old new h.1)

  looks_around : (old new : Ledger D I L) → IsEarly calls lanes_seen port now looked old new ⊎ IsPass calls lanes_seen port now looked old new → LedgerIsSpared calls 64 1 old new
  looks_around old new (inl h) = spared 64 1 old new (beside old new h.same)
  looks_around old new (inr h) =
      let rest = passed h.pass (record old { inputs = h.files }) new h.ends in
      let looked_at = pass_few calls _ _ _ _ _ _ 64 old.inputs h.pass h.files h.passes in
      record {
        files = few_more (64 + 0) (0 + 1) 64 1 (calls old.inputs) (calls new.inputs) (omega arith) (omega arith) (few_join 64 0 0 1 (calls old.inputs) (calls h.files) (calls new.inputs) looked_at rest.files);
        disk = rest.disk;
      }

  looks_on : (old new : Ledger D I L) → LooksOn calls lanes_seen port now looked old new → LedgerIsSpared calls 64 1 old new
  looks_on old new (inl h) = looks_around old new h.1
  looks_on old new (inr h) = spared 64 1 old new (beside old new h.1.1)

  looks_by : (word : Result (Option FileWord) AllocError) (old new : Ledger D I L) → LooksByWord calls lanes_seen port now looked word old new → LedgerIsSpared calls 64 1 old new
  looks_by (Ok None) old new h = looks_on old new h
  looks_by (Ok (Some word)) old new h = spared 64 1 old new (judged word.asked word.verdict old new h)
  looks_by (Err e) old new h = spared 64 1 old new (beside old new h.1)

-- hearing of what was asked before calls no file
looks_few : {D I L : Type 0} (calls : I → Option (List FileCall)) (lanes_seen : L → Lanes) (port : L → ℕ) (now : Reading) (look : FileLook) (old new : Ledger D I L) →
    LooksOrHears calls lanes_seen port now look old new → LedgerIsSpared calls 64 1 old new
looks_few calls lanes_seen port now look old new h =
    let all = looks_by calls lanes_seen port now look.looked h.word h.heard new h.looks in
    record { files = subst (λ i. FewAreMade 64 1 (calls i) (calls new.inputs)) (ap (λ l. l.inputs) h.beside) all.files; disk = all.disk ∙ ap (λ l. l.state.disk) h.beside }

-- ---- each call of a ledger

module _ {D I L : Type 0} (known : Bool) (seen : D → DiskState) (calls : I → Option (List FileCall)) (lanes_seen : L → Lanes) (port : L → ℕ) where
  abbrev Does : KeepCall → Ledger D I L → Ledger D I L → Type 0
  Does = DoesLedger known seen calls lanes_seen port

  untouched : (old new : Ledger D I L) → new.inputs ≡ old.inputs → new.state.disk ≡ old.state.disk → LedgerIsSpared calls 0 0 old new
  untouched old new inputs disk = record { files = few_same 0 0 (calls old.inputs) (calls new.inputs) (ap calls inputs); disk = disk }

  by_call : (call : KeepCall) (old new : Ledger D I L) → makes_of call ≡ 0 → Does call old new → LedgerIsSpared calls (64 * looks_of call) (looks_of call) old new
  by_call (Take now name w result) old new none h = absurd (omega (arith, none))
  by_call (LookUp now name w result) old new none h = untouched old new (ap (λ l. l.inputs) h.1) (ap (λ l. l.state.disk) h.1)
  by_call (Prove now result) old new none h = untouched old new (ap (λ l. l.inputs) h.1) (ap (λ l. l.state.disk) h.1)
  by_call (Settle result) old new none h = absurd (omega (arith, none))
  by_call (Reload now result) old new none h = absurd (omega (arith, none))
  by_call (Look now look) old new none h = looks_few calls lanes_seen port now look old new h
  by_call MarkServed old new none h = untouched old new (ap (λ l. l.inputs) h.1.1.1) h.1.1.0
  by_call (RestFor now rest) old new none h = untouched old new (ap (λ l. l.inputs) h.0) (ap (λ l. l.state.disk) h.0)
  by_call (TryAgain now is_asked news) old new none h = untouched old new (ap (λ l. l.inputs) h.1) (ap (λ l. l.state.disk) h.1)

  pub ledger_law : LedgerLaw known seen calls lanes_seen port
  ledger_law = by_call

  -- ---- and calls one after another

  spared_join : (i j k l : ℕ) (a b c : Ledger D I L) → LedgerIsSpared calls i j a b → LedgerIsSpared calls k l b c → LedgerIsSpared calls (i + k) (j + l) a c
  spared_join i j k l a b c h g = record { files = few_join i j k l (calls a.inputs) (calls b.inputs) (calls c.inputs) h.files g.files; disk = g.disk ∙ h.disk }

  spared_more : (i j k l : ℕ) (a b : Ledger D I L) → i ≤ k → j ≤ l → LedgerIsSpared calls i j a b → LedgerIsSpared calls k l a b
  spared_more i j k l a b stamps reads h = record { files = few_more i j k l (calls a.inputs) (calls b.inputs) stamps reads h.files; disk = h.disk }

  spared_all : (asked : List KeepCall) (old new : Ledger D I L) → AllAsked Does asked old new → sum_by makes_of asked ≤ 0 → LedgerIsSpared calls (64 * sum_by looks_of asked) (sum_by looks_of asked) old new
  spared_all [] old new h none = spared_more 0 0 (64 * sum_by looks_of []) (sum_by looks_of []) old new (omega arith) (omega arith) (untouched old new (ap (λ l. l.inputs) h) (ap (λ l. l.state.disk) h))
  spared_all (call ∷ rest) old new h none =
      let makes = sum_by-cons makes_of call rest in
      let looks = sum_by-cons looks_of call rest in
      spared_more (64 * looks_of call + 64 * sum_by looks_of rest) (looks_of call + sum_by looks_of rest) (64 * sum_by looks_of (call ∷ rest)) (sum_by looks_of (call ∷ rest)) old new (omega (arith, looks)) (omega (arith, looks))
      (spared_join (64 * looks_of call) (looks_of call) (64 * sum_by looks_of rest) (sum_by looks_of rest) old h.0 new (by_call call old h.0 (omega (arith, makes, none)) h.1.0) (spared_all rest h.0 new h.1.1 (omega (arith, makes, none))))

  -- ---- a ledger that is there stays

  module _ {F : Type 0} where
    abbrev DoesLater : KeepCall → Late D I L F → Late D I L F → Type 0
    DoesLater = DoesLate known seen calls lanes_seen port

    both_open : (call : KeepCall) (old : Ledger D I L) (new : Late D I L F) → DoesBoth known seen calls lanes_seen port call (Open old) new → (l : Ledger D I L) × ((new ≡ Open l) × Does call old l)
    both_open call old (Open new) h = (new, (refl, h))
    both_open call old (NotYet new) h = absurd h

    open_call : (call : KeepCall) (old : Ledger D I L) (new : Late D I L F) → DoesLater call (Open old) new → (l : Ledger D I L) × ((new ≡ Open l) × Does call old l)
    open_call (Take now name w result) old new h = both_open (Take now name w result) old new h
    open_call (LookUp now name w result) old new h = both_open (LookUp now name w result) old new h
    open_call (Prove now result) old new h = both_open (Prove now result) old new h
    open_call (Settle result) old new h = both_open (Settle result) old new h
    open_call (Reload now result) old new h = both_open (Reload now result) old new h
    open_call (Look now look) old new h = both_open (Look now look) old new h
    open_call MarkServed old new h = both_open MarkServed old new h
    open_call (RestFor now rest) old new h = both_open (RestFor now rest) old new h
    open_call (TryAgain now is_asked news) old new h = (old, (h.1, (h.0, refl)))

    open_all : (asked : List KeepCall) (old : Ledger D I L) (new : Late D I L F) → AllAsked DoesLater asked (Open old) new → (l : Ledger D I L) × ((new ≡ Open l) × AllAsked Does asked old l)
    open_all [] old new h = (old, (h, refl))
    open_all (call ∷ rest) old new h =
        let first = open_call call old h.0 h.1.0 in
        let all = open_all rest first.0 new (subst (λ (m : Late D I L F). AllAsked DoesLater rest m new) first.1.0 h.1.1) in
        (all.0, (all.1.0, (first.0, (first.1.1, all.1.1))))

    spared_by : (asked : List KeepCall) (old new : Option (Late D I L F)) → KeeperIsCalled DoesLater asked old new → sum_by makes_of asked ≤ 0 → sum_by looks_of asked ≤ 1 → SparesIf calls old new
    spared_by asked None new h none few = h
    spared_by asked (Some old) None h none few = absurd h
    spared_by asked (Some (Open old)) (Some new) h none few =
        let all = open_all asked old new h in
        subst (λ (m : Late D I L F). SparesLate calls (Open old) m) (sym all.1.0)
        (spared_more (64 * sum_by looks_of asked) (sum_by looks_of asked) 64 1 old all.0 (omega (arith, few)) few (spared_all asked old all.0 all.1.1 none))
    spared_by asked (Some (NotYet old)) (Some new) h none few = tt

    pub spares_law : {N : Type 0} → (does : NeighbourCall → N → N → Type 0) (ledger : N → Option (Late D I L F)) → AsksLittle does DoesLater ledger → SparesLedger does calls ledger
    spares_law does ledger little t old new h none =
        let within = little t old new h in
        let makes = within.few_makes in
        let no_change = ap (λ made. length (given_by made)) none in
        spared_by within.calls (ledger old) (ledger new) within.asked (omega (arith, makes, no_change)) within.few_looks
