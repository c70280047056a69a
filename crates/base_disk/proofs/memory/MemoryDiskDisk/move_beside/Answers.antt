use Rattle.std.proofs.Common.{◌≡◌, sym, ◌∙◌, ap, subst, not, true, Option}
use Rattle.std.proofs.lemmas.Result.{on_ok_weaker}
use Rattle.base_disk.specs.{Image.File, Image.with_file_at, Torn.MovesFile, State.Beside, State.OutcomesFollow, Memory.memory_state, Memory.beside_of}
use Rattle.base_disk.specs.declared.call.CallMade.TheVariants as what
use Rattle.base_disk.proofs.Runs.{touches, elapses, at_ok, moved, not_moved, move_crash, file_of}
use Rattle.base_disk.proofs.memory.MemoryDiskDisk.move_beside.Goals as goal

pub returns-clause-moved : goal.returns-clause-moved
returns-clause-moved c =
    let m = c.args.self.now in
    let n = c.enter.new.self in
    let same = c.enter.ensures.same in
    let draft = c.in-Some.draft in
    let asked = what.Move draft.file.mode c.in_ok-bytes.bytes (not c.is_turn-done.result) in
    on_ok_weaker c.enter.result (λ ok known file ready.
    let is_file : record { mode = draft.file.mode; bytes = c.in_ok-bytes.bytes.items } ≡ file =
    (λ i. record { mode = draft.file.mode; bytes = (c.in_ok-bytes.ensures.items ∙ c.deref.ensures.value) i })
    ∙ ap (λ (o : Option Beside). file_of o file) (sym (ap beside_of c.in-Some.is) ∙ ready) in
    subst (λ (f : File). ((memory_state n).seen ≡ with_file_at c.args.path.now f (memory_state m).seen) × ((memory_state n).is_sound c.args.path.now ≡ true)) is_file
    (moved m n same c.args.path.now draft.file.mode c.in_ok-bytes.bytes (not c.is_turn-done.result) (ap not (c.is_turn-done.ensures ∙ ok.0)) ok.1))
    (at_ok m n same c.args.path.now asked _ c.enter.result c.enter.ensures.entered c.enter.ensures.done)

pub returns-clause-seen : goal.returns-clause-seen
returns-clause-seen c = λ known file ready.
    let m = c.args.self.now in
    let n = c.enter.new.self in
    let same = c.enter.ensures.same in
    let draft = c.in-Some.draft in
    let asked = what.Move draft.file.mode c.in_ok-bytes.bytes (not c.is_turn-done.result) in
    let is_file : record { mode = draft.file.mode; bytes = c.in_ok-bytes.bytes.items } ≡ file =
    (λ i. record { mode = draft.file.mode; bytes = (c.in_ok-bytes.ensures.items ∙ c.deref.ensures.value) i })
    ∙ ap (λ (o : Option Beside). file_of o file) (sym (ap beside_of c.in-Some.is) ∙ ready) in
    subst (λ (f : File). MovesFile c.args.path.now f (memory_state m).seen (memory_state n).seen) is_file
    (not_moved m n same c.args.path.now draft.file.mode c.in_ok-bytes.bytes (not c.is_turn-done.result) c.enter.result c.enter.ensures.entered)

pub returns-clause-sound : goal.returns-clause-sound
returns-clause-sound c = λ known.
    let m = c.args.self.now in
    let n = c.enter.new.self in
    let same = c.enter.ensures.same in
    let draft = c.in-Some.draft in
    let asked = what.Move draft.file.mode c.in_ok-bytes.bytes (not c.is_turn-done.result) in
    (touches m n same c.args.path.now asked c.enter.result c.enter.ensures.entered).sound

pub returns-clause-crash : goal.returns-clause-crash
returns-clause-crash c = λ known file ready.
    let m = c.args.self.now in
    let n = c.enter.new.self in
    let same = c.enter.ensures.same in
    let draft = c.in-Some.draft in
    let asked = what.Move draft.file.mode c.in_ok-bytes.bytes (not c.is_turn-done.result) in
    let is_file : record { mode = draft.file.mode; bytes = c.in_ok-bytes.bytes.items } ≡ file =
    (λ i. record { mode = draft.file.mode; bytes = (c.in_ok-bytes.ensures.items ∙ c.deref.ensures.value) i })
    ∙ ap (λ (o : Option Beside). file_of o file) (sym (ap beside_of c.in-Some.is) ∙ ready) in
    subst (λ (f : File). OutcomesFollow (MovesFile c.args.path.now f) (memory_state m) (memory_state n)) is_file
    (move_crash m n same c.args.path.now draft.file.mode c.in_ok-bytes.bytes (not c.is_turn-done.result) c.enter.result c.enter.ensures.entered)

pub returns-clause-time : goal.returns-clause-time
returns-clause-time c = λ known.
    let m = c.args.self.now in
    let n = c.enter.new.self in
    let same = c.enter.ensures.same in
    let draft = c.in-Some.draft in
    let asked = what.Move draft.file.mode c.in_ok-bytes.bytes (not c.is_turn-done.result) in
    elapses m n same c.args.path.now asked c.enter.result c.enter.ensures.entered
