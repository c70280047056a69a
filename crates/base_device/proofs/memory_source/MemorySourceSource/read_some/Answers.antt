-- The bytes that are handed out are the next ones, and the rest stays.
use Rattle.std.proofs.Common.{◌≡◌, ℕ, ◌+◌, ◌-◌, ◌<◌, ◌≤◌, inl, inr, subst, length-drop, length, take, drop, List, ◌++◌, arith, ap, sym, ◌∙◌}
use Rattle.std.proofs.lemmas.{List.drop-drop, Grind.common_steps}
use Rattle.std.proofs.Math.Seq.{length-take-le}
use Rattle.base_device.specs.Memory.{handed_out, reads_of}
use Rattle.base_device.proofs.Handing.{handed_front, none_handed, rest_empty, next_pieces, fewer_reads}
use Rattle.base_device.proofs.memory_source.MemorySourceSource.read_some.Goals as goal

same_room : (new old : List ℕ) (n : ℕ) → length new ≡ n → n ≤ length old → length (new ++ drop n old) ≡ length old
same_room new old n e h = grind (arith, common_steps)

pub returns-clause-bytes : goal.returns-clause-bytes
returns-clause-bytes c =
    let bytes = ap (λ v. v.bytes) c.self.view_is in
    let fits : c.next_length-n.result ≤ length c.args.buf.now = omega (arith, c.next_length-n.ensures) in
    let count : length c.copy_from_slice.new.self ≡ c.next_length-n.result = c.copy_from_slice.ensures.len ∙ length-take-le c.next_length-n.result c.args.buf.now fits in
    let copied = c.copy_from_slice.ensures.after ∙ ap (λ xs. take (c.self.inside.place + c.next_length-n.result - c.self.inside.place) (drop c.self.inside.place xs)) c.deref.ensures.value in
    let front = handed_front c.self.inside.bytes.items c.copy_from_slice.new.self c.args.buf.now c.self.inside.place c.next_length-n.result copied count in
    let same = same_room c.copy_from_slice.new.self c.args.buf.now c.next_length-n.result count fits in (
      sym bytes ∙ front,
      λ none room. let offered : 0 < length c.args.buf.now = omega (arith, same, room) in
          rest_empty c.self.inside.bytes.items c.self.inside.place c.next_length-n.result (ap length bytes ∙ none_handed c.args.self.now.pieces (length c.args.self.now.bytes) (length c.args.buf.now) offered (sym c.next_length-n.ensures ∙ none)),
    )

pub returns-clause-pieces : goal.returns-clause-pieces
returns-clause-pieces c =
    let bytes = ap (λ v. v.bytes) c.self.view_is in
    let pieces = ap (λ v. v.pieces) c.self.view_is in
    let fits : c.next_length-n.result ≤ length c.args.buf.now = omega (arith, c.next_length-n.ensures) in
    let count : length c.copy_from_slice.new.self ≡ c.next_length-n.result = c.copy_from_slice.ensures.len ∙ length-take-le c.next_length-n.result c.args.buf.now fits in
    let same = same_room c.copy_from_slice.new.self c.args.buf.now c.next_length-n.result count fits in (
      c.next_length-n.ensures ∙ ap (handed_out c.args.self.now) (sym same),
      sym (drop-drop c.next_length-n.result c.self.inside.place c.self.inside.bytes.items) ∙ ap (drop c.next_length-n.result) bytes,
      ap (λ k. drop k c.self.inside.pieces.items) c.min-self-inside.ensures ∙ next_pieces c.self.inside.pieces.items c.self.inside.next c.len.result (grind (arith, common_steps)) ∙ ap (drop 1) pieces,
    )

pub returns-clause-pace : goal.returns-clause-pace
returns-clause-pace c =
    let bytes = ap (λ v. v.bytes) c.self.view_is in
    let pieces = ap (λ v. v.pieces) c.self.view_is in
    let fits : c.next_length-n.result ≤ length c.args.buf.now = omega (arith, c.next_length-n.ensures) in
    let count : length c.copy_from_slice.new.self ≡ c.next_length-n.result = c.copy_from_slice.ensures.len ∙ length-take-le c.next_length-n.result c.args.buf.now fits in
    let same = same_room c.copy_from_slice.new.self c.args.buf.now c.next_length-n.result count fits in
    let left : length (drop (c.self.inside.place + c.next_length-n.result) c.self.inside.bytes.items) ≡ length c.args.self.now.bytes - c.next_length-n.result =
    ap length (sym (drop-drop c.next_length-n.result c.self.inside.place c.self.inside.bytes.items) ∙ ap (drop c.next_length-n.result) bytes) ∙ length-drop c.next_length-n.result c.args.self.now.bytes in
    let to_come : drop c.min-self-inside.result c.self.inside.pieces.items ≡ drop 1 c.args.self.now.pieces =
    ap (λ k. drop k c.self.inside.pieces.items) c.min-self-inside.ensures ∙ next_pieces c.self.inside.pieces.items c.self.inside.next c.len.result (grind (arith, common_steps)) ∙ ap (drop 1) pieces in
    λ some room.
    let fewer = fewer_reads c.args.self.now.pieces (length c.args.self.now.bytes) (length c.args.buf.now) c.next_length-n.result c.next_length-n.ensures some
    (elim room [ inl short ↦ inl (omega (arith, short, same)) | inr full ↦ inr (omega (arith, full, same)) ]) in
    let by_pieces = subst (λ ps. reads_of ps (length c.args.self.now.bytes - c.next_length-n.result) < reads_of c.args.self.now.pieces (length c.args.self.now.bytes)) (sym to_come) fewer in
    let by_left = subst (λ k. reads_of (drop c.min-self-inside.result c.self.inside.pieces.items) k < reads_of c.args.self.now.pieces (length c.args.self.now.bytes)) (sym left) by_pieces in
    (omega (arith, by_left), omega arith)
