-- Sends: a text all of which was written, and whose flush failed, for `send`.
use Rattle.std.proofs.Common.{ℕ, List, Option, Result, Ok, Err, OnErr, arith, length, subst, sym}
use Rattle.std.proofs.KnownBytes.{Appends-kept}
use Rattle.std.proofs.lemmas.List.{take_all}
use Rattle.std.specs.Io.KnownBytes.{Appends, Keeps}
use Rattle.base_device.specs.Front.{AppendsFront}

whole_front : (old mid new : Option (List ℕ)) (text : List ℕ) → Appends old mid text → Keeps mid new → AppendsFront old new text
whole_front old mid new text whole kept = (length text, subst (Appends old new) (sym (take_all (length text) text (omega arith))) (Appends-kept old mid new text whole kept))

pub unflushed : {X E : Type 0} (r : Result X E) (old mid new : Option (List ℕ)) (text : List ℕ) → Appends old mid text → Keeps mid new → OnErr r (AppendsFront old new text)
unflushed (Ok x) old mid new text whole kept = tt
unflushed (Err e) old mid new text whole kept = whole_front old mid new text whole kept
