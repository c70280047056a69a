-- With the mark the old file gives the same rows, and so does the new one, which is there.
use Rattle.std.proofs.Common.{inl, inr, ℕ, List, [], ◌∷◌, ◌++◌, refl, sym, ap, subst, ◌∙◌}
use Rattle.std.specs.Prelude.{string_bytes}
use Rattle.std.proofs.lemmas.Option.{MatchOption-at_some}
use Rattle.base_disk.specs.{Image.File, State.LeavesOnly}
use Rattle.base_disk.proofs.Moments.{weaker}
use Rattle.base_journal.specs.{declared.journal.Journal.Journal, Records.IsBeforeOrAfter}
use Rattle.base_journal.specs.Journals.{CrashLeaves, FileIsThere, JournalHolds, JournalIsWhole}
use Rattle.state_store.specs.{declared.store.Store.Store, code.Moving.IsMoving}
use Rattle.state_store.specs.Moved.{LeftByMove, SaysAlready, mark_line}
use Rattle.state_store.specs.Stores.{IsReplayed, book_of, journal_of, lines_in, path_of_store}
use Rattle.base_journal.proofs.Steps.{on_refused}
use Rattle.state_store.proofs.{Kept.holds_past, Marking.first_marked, Stepping.puts_file, Stepping.puts_mark}
use Rattle.state_store.proofs.MovedOn.{marked_replays, marked_then, moved_replays, says_by_itself}
use Rattle.state_store.proofs.store.Store.settle.Goals as goal

pub returns-in_err-put-clause-replayed : goal.returns-in_err-put-clause-replayed
returns-in_err-put-clause-replayed g c =
    let b = c.args.self.now.book in
    let is = MatchOption-at_some (SaysAlready b) (IsMoving b) c.in-Some.moving c.in-Some.is c.in_ok-moving.ensures.next in
    let new : Store = record { alloc = c.args.self.now.alloc; journal = c.put.new.self; book = b; is_sure = c.args.self.now.is_sure; is_kept = c.args.self.now.is_kept } in
    marked_replays c.args.self.now c.in-Some.moving is new c.requires.replayed refl (inl c.in_err-put.ensures.refused)

pub returns-in_err-put-clause-sure : goal.returns-in_err-put-clause-sure
returns-in_err-put-clause-sure g c = on_refused c.from_residual-in_err-put.result (λ sure. record { sure = sure; bytes = λ known. inl ((c.put.ensures.others known).seen c.args.target.now c.requires.apart) })

pub returns-in_err-put-clause-any_moment : goal.returns-in_err-put-clause-any_moment
returns-in_err-put-clause-any_moment g c known =
    let s = g.D.Disk.state in
    let old = c.args.self.now in
    let is = MatchOption-at_some (SaysAlready old.book) (IsMoving old.book) c.in-Some.moving c.in-Some.is c.in_ok-moving.ensures.next in
    let text = string_bytes c.in-Some.moving.text in
    let file : File = record { mode = c.args.mode; bytes = text } in
    let put = subst (λ (l : List ℕ). LeavesOnly (s c.args.disk.now) (s c.put.new.disk) (CrashLeaves (path_of_store old) (IsBeforeOrAfter (lines_in old) l) (s c.args.disk.now))) is.line_is (c.put.ensures.any_moment known) in
    weaker (s c.args.disk.now) (s c.put.new.disk) (CrashLeaves (path_of_store old) (IsBeforeOrAfter (lines_in old) (mark_line text)) (s c.args.disk.now)) (LeftByMove old c.args.target.now c.args.mode (s c.args.disk.now)) put
    (λ d left. inr (text, is.served, is.says, first_marked (path_of_store old) c.args.target.now file (lines_in old) (mark_line text) c.requires.apart (s c.args.disk.now) d left))

pub put_in_place-requires-clause-whole : goal.put_in_place-requires-clause-whole
put_in_place-requires-clause-whole g c known = c.in_ok-put.ensures.acknowledged.1 known

pub returns-in_err-put_in_place-clause-replayed : goal.returns-in_err-put_in_place-clause-replayed
returns-in_err-put_in_place-clause-replayed g c =
    let b = c.args.self.now.book in
    let is = MatchOption-at_some (SaysAlready b) (IsMoving b) c.in-Some.moving c.in-Some.is c.in_ok-moving.ensures.next in
    let new : Store = record { alloc = c.args.self.now.alloc; journal = c.put.new.self; book = b; is_sure = c.put_in_place.new.self.is_sure; is_kept = c.put_in_place.new.self.is_kept } in
    subst IsReplayed (sym c.put_in_place.ensures.rest) (marked_replays c.args.self.now c.in-Some.moving is new c.requires.replayed refl (inr c.in_ok-put.ensures.acknowledged.0))

pub returns-in_err-put_in_place-clause-sure : goal.returns-in_err-put_in_place-clause-sure
returns-in_err-put_in_place-clause-sure g c = on_refused c.from_residual-in_err-put_in_place.result (λ sure.
    let is = c.in_err-put_in_place.ensures.sure sure in record { sure = is.0; bytes = λ known. inr (is.1 known) })

pub returns-in_err-put_in_place-clause-any_moment : goal.returns-in_err-put_in_place-clause-any_moment
returns-in_err-put_in_place-clause-any_moment g c known =
    let s = g.D.Disk.state in
    let old = c.args.self.now in
    let is = MatchOption-at_some (SaysAlready old.book) (IsMoving old.book) c.in-Some.moving c.in-Some.is c.in_ok-moving.ensures.next in
    marked_then old c.in-Some.moving is c.args.target.now c.args.mode c.requires.apart (s c.args.disk.now) (s c.put.new.disk) (s c.put_in_place.new.disk) (c.put.ensures.any_moment known)
    (g.met.D.Disk.counts_now c.put.new.disk) c.put.new.self c.put.ensures.path c.in_ok-put.ensures.acknowledged.0 (c.in_ok-put.ensures.acknowledged.1 known) c.as_bytes.result.now c.as_bytes.ensures.value
    (c.put_in_place.ensures.any_moment known)

pub returns-clause-any_moment : goal.returns-clause-any_moment
returns-clause-any_moment g c known =
    let s = g.D.Disk.state in
    let old = c.args.self.now in
    let is = MatchOption-at_some (SaysAlready old.book) (IsMoving old.book) c.in-Some.moving c.in-Some.is c.in_ok-moving.ensures.next in
    marked_then old c.in-Some.moving is c.args.target.now c.args.mode c.requires.apart (s c.args.disk.now) (s c.put.new.disk) (s c.put_in_place.new.disk) (c.put.ensures.any_moment known)
    (g.met.D.Disk.counts_now c.put.new.disk) c.put.new.self c.put.ensures.path c.in_ok-put.ensures.acknowledged.0 (c.in_ok-put.ensures.acknowledged.1 known) c.as_bytes.result.now c.as_bytes.ensures.value
    (c.put_in_place.ensures.any_moment known)

pub returns-clause-replayed : goal.returns-clause-replayed
returns-clause-replayed g c =
    let old = c.args.self.now in
    let is = MatchOption-at_some (SaysAlready old.book) (IsMoving old.book) c.in-Some.moving c.in-Some.is c.in_ok-moving.ensures.next in
    let put = c.put_in_place.new.self in
    let new : Store = record { alloc = put.alloc; journal = put.journal; book = c.in-Some.moving.book; is_sure = put.is_sure; is_kept = put.is_kept } in
    moved_replays old c.in-Some.moving is new c.requires.replayed refl (ap lines_in c.put_in_place.ensures.rest ∙ c.in_ok-put.ensures.acknowledged.0)

pub returns-clause-settled : goal.returns-clause-settled
returns-clause-settled g c =
    let s = g.D.Disk.state in
    let old = c.args.self.now in
    let is = MatchOption-at_some (SaysAlready old.book) (IsMoving old.book) c.in-Some.moving c.in-Some.is c.in_ok-moving.ensures.next in
    let put = c.put_in_place.new.self in
    let new : Store = record { alloc = put.alloc; journal = put.journal; book = c.in-Some.moving.book; is_sure = put.is_sure; is_kept = put.is_kept } in
    record {
      served = is.served;
      says = is.says;
      book = is.book;
      lines = ap lines_in c.put_in_place.ensures.rest ∙ c.in_ok-put.ensures.acknowledged.0 ∙ ap (λ (l : List ℕ). lines_in old ++ l ∷ []) is.line_is;
      by_itself = says_by_itself old c.in-Some.moving is new c.requires.replayed refl;
      sure = c.in_ok-put_in_place.ensures.placed;
      there = λ known. subst (λ (b : List ℕ). FileIsThere c.args.target.now (record { mode = c.args.mode; bytes = b }) (s c.put_in_place.new.disk)) c.as_bytes.ensures.value (c.in_ok-put_in_place.ensures.there known);
      whole = λ known. subst (λ (j : Journal). JournalIsWhole j (s c.put_in_place.new.disk)) (ap journal_of (sym c.put_in_place.ensures.rest)) (c.put_in_place.ensures.whole known);
    }

pub returns-clause-held : goal.returns-clause-held
returns-clause-held g c =
    let s = g.D.Disk.state in
    subst (λ (j : Journal). JournalHolds g.D.Disk.is_known j (s c.put_in_place.new.disk)) (ap journal_of (sym c.put_in_place.ensures.rest))
    (record { are_lines = c.put.ensures.held.are_lines; whole = λ known yes. c.put_in_place.ensures.whole known })

pub returns-in_err-put_in_place-clause-held : goal.returns-in_err-put_in_place-clause-held
returns-in_err-put_in_place-clause-held g c =
    let s = g.D.Disk.state in
    subst (λ (j : Journal). JournalHolds g.D.Disk.is_known j (s c.put_in_place.new.disk)) (ap journal_of (sym c.put_in_place.ensures.rest))
    (record { are_lines = c.put.ensures.held.are_lines; whole = λ known yes. c.put_in_place.ensures.whole known })

pub returns-in_err-put-clause-file : goal.returns-in_err-put-clause-file
returns-in_err-put-clause-file g c =
    let s = g.D.Disk.state in
    let old = c.args.self.now in
    let new : Store = record { alloc = old.alloc; journal = c.put.new.self; book = old.book; is_sure = old.is_sure; is_kept = old.is_kept } in
    holds_past g.D.Disk.is_known old new (path_of_store old) c.args.target.now (IsBeforeOrAfter (lines_in old) c.in-Some.moving.line) (s c.args.disk.now) (s c.put.new.disk) c.requires.apart c.put.ensures.others
    c.put.ensures.any_moment (g.met.D.Disk.counts_now c.put.new.disk) refl c.requires.file

pub returns-in_err-put-clause-begun : goal.returns-in_err-put-clause-begun
returns-in_err-put-clause-begun g c = on_refused c.from_residual-in_err-put.result (λ known.
    let s = g.D.Disk.state in
    let old = c.args.self.now in
    let is = MatchOption-at_some (SaysAlready old.book) (IsMoving old.book) c.in-Some.moving c.in-Some.is c.in_ok-moving.ensures.next in
    let new : Store = record { alloc = old.alloc; journal = c.put.new.self; book = old.book; is_sure = old.is_sure; is_kept = old.is_kept } in
    inr (
      string_bytes c.in-Some.moving.text,
      is.served,
      is.says,
      inl (puts_mark g.D.Disk.is_known s old c.in-Some.moving is c.args.target.now c.args.disk.now c.put.new.disk new c.requires.replayed refl refl c.put.ensures.path
          (inl c.in_err-put.ensures.refused) c.put.ensures.held (returns-in_err-put-clause-file g c) (c.put.ensures.others known) (c.put.ensures.any_moment known)),
    ))

pub returns-in_err-put_in_place-clause-begun : goal.returns-in_err-put_in_place-clause-begun
returns-in_err-put_in_place-clause-begun g c = on_refused c.from_residual-in_err-put_in_place.result (λ known.
    let s = g.D.Disk.state in
    let old = c.args.self.now in
    let is = MatchOption-at_some (SaysAlready old.book) (IsMoving old.book) c.in-Some.moving c.in-Some.is c.in_ok-moving.ensures.next in
    let marked : Store = record { alloc = old.alloc; journal = c.put.new.self; book = old.book; is_sure = old.is_sure; is_kept = old.is_kept } in
    let new = c.put_in_place.new.self in
    let first = puts_mark g.D.Disk.is_known s old c.in-Some.moving is c.args.target.now c.args.disk.now c.put.new.disk marked c.requires.replayed refl refl c.put.ensures.path
    (inr c.in_ok-put.ensures.acknowledged.0) c.put.ensures.held
    (holds_past g.D.Disk.is_known old marked (path_of_store old) c.args.target.now (IsBeforeOrAfter (lines_in old) c.in-Some.moving.line) (s c.args.disk.now) (s c.put.new.disk) c.requires.apart c.put.ensures.others
    c.put.ensures.any_moment (g.met.D.Disk.counts_now c.put.new.disk) refl c.requires.file)
    (c.put.ensures.others known) (c.put.ensures.any_moment known) in
    let second = puts_file g.D.Disk.is_known s old c.in-Some.moving is c.args.target.now c.put.new.disk c.put_in_place.new.disk c.args.mode c.args.present.now c.as_bytes.result.now marked new c.in_ok-put.ensures.acknowledged.0
    (c.in_ok-put.ensures.acknowledged.1 known) (ap journal_of c.put_in_place.ensures.rest) c.as_bytes.ensures.value (c.put_in_place.ensures.seen known) (c.put_in_place.ensures.any_moment known)
    (inr (record { book = ap book_of c.put_in_place.ensures.rest; sure = λ sure. let is = c.in_err-put_in_place.ensures.sure sure in (is.0, is.1 known) })) in
    inr (string_bytes c.in-Some.moving.text, is.served, is.says, inr (marked, c.put.new.disk, first, second)))

pub returns-clause-steps : goal.returns-clause-steps
unfolding returns-clause-settled
returns-clause-steps g c known =
    let s = g.D.Disk.state in
    let old = c.args.self.now in
    let is = MatchOption-at_some (SaysAlready old.book) (IsMoving old.book) c.in-Some.moving c.in-Some.is c.in_ok-moving.ensures.next in
    let marked : Store = record { alloc = old.alloc; journal = c.put.new.self; book = old.book; is_sure = old.is_sure; is_kept = old.is_kept } in
    let put = c.put_in_place.new.self in
    let new : Store = record { alloc = put.alloc; journal = put.journal; book = c.in-Some.moving.book; is_sure = put.is_sure; is_kept = put.is_kept } in
    let first = puts_mark g.D.Disk.is_known s old c.in-Some.moving is c.args.target.now c.args.disk.now c.put.new.disk marked c.requires.replayed refl refl c.put.ensures.path
    (inr c.in_ok-put.ensures.acknowledged.0) c.put.ensures.held
    (holds_past g.D.Disk.is_known old marked (path_of_store old) c.args.target.now (IsBeforeOrAfter (lines_in old) c.in-Some.moving.line) (s c.args.disk.now) (s c.put.new.disk) c.requires.apart c.put.ensures.others
    c.put.ensures.any_moment (g.met.D.Disk.counts_now c.put.new.disk) refl c.requires.file)
    (c.put.ensures.others known) (c.put.ensures.any_moment known) in
    let moved = returns-clause-settled g c in
    let second = puts_file g.D.Disk.is_known s old c.in-Some.moving is c.args.target.now c.put.new.disk c.put_in_place.new.disk c.args.mode c.args.present.now c.as_bytes.result.now marked new c.in_ok-put.ensures.acknowledged.0
    (c.in_ok-put.ensures.acknowledged.1 known) (ap journal_of c.put_in_place.ensures.rest) c.as_bytes.ensures.value (c.put_in_place.ensures.seen known) (c.put_in_place.ensures.any_moment known)
    (inl (record { there = moved.there known; book = moved.book; by_itself = moved.by_itself; sure = moved.sure })) in
    (is.served, is.says, (marked, c.put.new.disk, first, second))
