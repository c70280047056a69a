use Rattle.std.proofs.Common.{◌≡◌, ◌<◌, List, length, get_or, take, sym, ◌∙◌, ap, subst, Option, Bool, arith}
use Rattle.std.proofs.lemmas.Slice.Eq.{bytes_eq-Decides}
use Rattle.std.specs.Str.{bytes_eq}
use Rattle.base_disk.specs.{Image.File, State.DiskState, History.sound_after, History.state_after_call, History.state_after_calls, Memory.at_first, Memory.image_of, Memory.kept_of, Memory.held_file, Left.PathIsFollowed}
use Rattle.base_disk.specs.{declared.call.DiskCall.DiskCall}
use Rattle.base_disk.proofs.Left.{state_more, followed_here, followed_past, elsewhere, not_elsewhere}
use Rattle.base_disk.proofs.memory.MemoryDisk.left.Goals as goal

pub loop-call-preserved-then-is_elsewhere : goal.loop-call-preserved-then-is_elsewhere
loop-call-preserved-then-is_elsewhere c =
    let m = c.args.self.now in
    let path = c.args.path.now in
    let first = at_first (image_of m.files.items) (kept_of m.files.items m.kept) m.fault in
    let call = c.call-item.result in
    let k = c.loop-call.call-index in
    let long : length c.deref-call-items.result.now ≡ length m.calls.items = ap (λ (l : List DiskCall). length l) c.deref-call-items.ensures.value in
    let below : k < length m.calls.items = omega (arith, c.loop-call-test.true, long) in
    let item : call ≡ get_or m.calls.items k call = cc (c.deref-call-items.ensures.value, c.call-item.is) in
    subst (λ (t : DiskState). PathIsFollowed path (held_file c.loop-call.seen) (held_file c.loop-call.left) c.loop-call.sound t) (sym (state_more m.calls.items k call first below item))
    (followed_past call path (held_file c.loop-call.seen) (held_file c.loop-call.left) c.loop-call.sound (state_after_calls (take k m.calls.items) first)
    (elsewhere (bytes_eq call.path.items path) (sym c.is_elsewhere.ensures ∙ c.if-is_elsewhere.true)) c.loop-call.invariant)

pub loop-call-preserved : goal.loop-call-preserved
loop-call-preserved c =
    let m = c.args.self.now in
    let path = c.args.path.now in
    let first = at_first (image_of m.files.items) (kept_of m.files.items m.kept) m.fault in
    let call = c.call-item.result in
    let k = c.loop-call.call-index in
    let long : length c.deref-call-items.result.now ≡ length m.calls.items = ap (λ (l : List DiskCall). length l) c.deref-call-items.ensures.value in
    let below : k < length m.calls.items = omega (arith, c.loop-call-test.true, long) in
    let item : call ≡ get_or m.calls.items k call = cc (c.deref-call-items.ensures.value, c.call-item.is) in
    let mid = state_after_calls (take k m.calls.items) first in
    let left = held_file c.in_ok-left-2.left in
    let is = (bytes_eq-Decides call.path.items path).0 (not_elsewhere (bytes_eq call.path.items path) (sym c.is_elsewhere.ensures ∙ c.if-is_elsewhere.false)) in
    let here = followed_here call path (held_file c.loop-call.seen) (held_file c.loop-call.left) left c.loop-call.sound mid is c.loop-call.invariant c.in_ok-left-2.ensures in
    subst (λ (t : DiskState). PathIsFollowed path (held_file c.in_ok-seen-2.seen) left c.is_sound_after-sound.result t) (sym (state_more m.calls.items k call first below item))
    (subst (λ (b : Bool). PathIsFollowed path (held_file c.in_ok-seen-2.seen) left b (state_after_call call mid)) (sym c.is_sound_after-sound.ensures)
    (subst (λ (o : Option File). PathIsFollowed path o left (sound_after call.what c.loop-call.sound) (state_after_call call mid)) (sym c.in_ok-seen-2.ensures) here))
