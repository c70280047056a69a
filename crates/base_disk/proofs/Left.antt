-- What a crash may leave at one path goes on through the calls of a disk in memory.
use Rattle.std.proofs.Common.{◌≡◌, ◌⊎◌, inl, inr, ⊎_elim, ℕ, suc, zero, ◌+◌, ◌-◌, ◌<◌, ◌≤◌, List, [], ◌∷◌, ◌++◌, length, take, drop, get_or, Bool, true, false, if◌then◌else◌, not, Option, Some, refl, sym, ◌∙◌, ap, subst, arith, length-append, length-take, length-drop}
use Rattle.std.proofs.lemmas.Bool.{true≢false, false≢true, cases_Bool}
use Rattle.std.proofs.lemmas.{Slice.Eq.bytes_eq-Decides, List.take_at, List.take_more}
use Rattle.std.specs.Str.{bytes_eq}
use Rattle.base_disk.specs.{Image.File, Image.Image, Image.image_changed, Image.with_file_at, Image.with_bytes, Image.overwritten, Torn.Torn, Torn.Tears, Torn.MovesFile, Torn.IsTornFile, State.DiskState}
use Rattle.base_disk.specs.{History.state_after_call, History.state_after_calls, History.left_after_what, History.file_after, History.sound_after, Left.MayStand, Left.MayMake, Left.PathIsFollowed, Memory.EitherEach}
use Rattle.base_disk.specs.{declared.call.DiskCall.DiskCall, declared.call.CallMade.CallMade}
use Rattle.base_disk.specs.declared.call.CallMade.TheVariants as what
use Rattle.base_disk.proofs.Runs.{after_all_push}

yes_side : {X : Type 0} (b : Bool) (x y : X) → b ≡ true → (if b then x else y) ≡ x
yes_side true x y is = refl
yes_side false x y is = absurd (false≢true is)

no_side : {X : Type 0} (b : Bool) (x y : X) → b ≡ false → (if b then x else y) ≡ y
no_side true x y is = absurd (true≢false is)
no_side false x y is = refl

back : (path other : List ℕ) → bytes_eq path other ≡ false → bytes_eq other path ≡ false
back path other apart = ⊎_elim
    (λ same. absurd (true≢false (sym ((bytes_eq-Decides path other).1 (sym ((bytes_eq-Decides other path).0 same))) ∙ apart)))
    (λ no. no)
    (cases_Bool (bytes_eq other path))

at_place : (path : List ℕ) (f : Option File) (c : Image) → image_changed path (λ _. f) c path ≡ f
at_place path f c = yes_side (bytes_eq path path) f (c path) ((bytes_eq-Decides path path).1 refl)

past_place : (path : List ℕ) (f : Option File) (c : Image) (other : List ℕ) → bytes_eq path other ≡ false → image_changed path (λ _. f) c other ≡ c other
past_place path f c other apart = no_side (bytes_eq path other) f (c other) apart

-- a file in the place of one that was just put there
twice_side : (b : Bool) (f g h : Option File) → (if b then f else (if b then g else h)) ≡ (if b then f else h)
twice_side true f g h = refl
twice_side false f g h = refl

put_twice : (path : List ℕ) (f g : Option File) (c : Image) → image_changed path (λ _. f) (image_changed path (λ _. g) c) ≡ image_changed path (λ _. f) c
put_twice path f g c = λ i other. twice_side (bytes_eq path other) f g (c other) i

-- the file that stands there already
there_side : (c : Image) (path other : List ℕ) (b : Bool) → (b ≡ true → path ≡ other) → (if b then c path else c other) ≡ c other
there_side c path other true is = ap c (is refl)
there_side c path other false is = refl

put_back : (path : List ℕ) (c : Image) → image_changed path (λ _. c path) c ≡ c
put_back path c = λ i other. there_side c path other (bytes_eq path other) (bytes_eq-Decides path other).0 i

-- two files at two paths, in either order
swap_side : (a b : Bool) (f g h : Option File) → (a ≡ true → b ≡ true → ⊥) → (if a then f else (if b then g else h)) ≡ (if b then g else (if a then f else h))
swap_side true true f g h apart = absurd (apart refl refl)
swap_side true false f g h apart = refl
swap_side false true f g h apart = refl
swap_side false false f g h apart = refl

put_both : (p q : List ℕ) (f g : Option File) (c : Image) → bytes_eq q p ≡ false → image_changed p (λ _. f) (image_changed q (λ _. g) c) ≡ image_changed q (λ _. g) (image_changed p (λ _. f) c)
put_both p q f g c apart = λ i other. swap_side (bytes_eq p other) (bytes_eq q other) f g (c other)
    (λ one two. true≢false (sym ((bytes_eq-Decides q p).1 ((bytes_eq-Decides q other).0 two ∙ sym ((bytes_eq-Decides p other).0 one))) ∙ apart)) i

-- a file that is torn in its place, and one past it
tears_here : (path : List ℕ) (step : List ℕ → List ℕ → Type 0) (old new : Option File) (d c : Image) → Tears path step d c → IsTornFile step old new
    → Tears path step (image_changed path (λ _. old) d) (image_changed path (λ _. new) c)
tears_here path step old new d c tears torn = record {
  elsewhere = λ other apart. past_place path new c other apart ∙ tears.elsewhere other apart ∙ sym (past_place path old d other apart);
  there = subst (λ (o : Option File). IsTornFile step o (image_changed path (λ _. new) c path)) (sym (at_place path old d))
      (subst (λ (o : Option File). IsTornFile step old o) (sym (at_place path new c)) torn);
}

tears_past : (q p : List ℕ) (step : List ℕ → List ℕ → Type 0) (f : Option File) (d c : Image) → bytes_eq q p ≡ false → Tears q step d c
    → Tears q step (image_changed p (λ _. f) d) (image_changed p (λ _. f) c)
tears_past q p step f d c apart tears = record {
  elsewhere = λ other other_apart i. if bytes_eq p other then f else tears.elsewhere other other_apart i;
  there = subst (λ (o : Option File). IsTornFile step o (image_changed p (λ _. f) c q)) (sym (past_place p f d q (back q p apart)))
      (subst (λ (o : Option File). IsTornFile step (d q) o) (sym (past_place p f c q (back q p apart))) tears.there);
}

-- a call at the path
stands_made : (asked : CallMade) (path : List ℕ) (may_leave : Image → Type 0) (sound : Bool) (seen old new : Option File) → MayMake asked sound seen old new
    → ((c : Image) → may_leave c → may_leave (image_changed path (λ _. old) c))
    → (c : Image) → left_after_what asked path may_leave sound seen c → left_after_what asked path may_leave sound seen (image_changed path (λ _. new) c)
stands_made (what.Write at bytes done) path may_leave sound seen old new made stands c left =
    (image_changed path (λ _. old) left.0, stands left.0 left.1, tears_here path (Torn at (length bytes.items)) old new left.0 c left.2 made)
stands_made (what.Sync true) path may_leave true seen old new made stands c left =
    let is : new ≡ c path = made ∙ sym (left.1 refl) in
    let same : image_changed path (λ _. new) c ≡ c = (λ i. image_changed path (λ _. is i) c) ∙ put_back path c in
    (subst may_leave (sym same) left.0, λ sound. at_place path new c ∙ made)
stands_made (what.Sync true) path may_leave false seen old new made stands c left =
    (subst (λ (f : Option File). may_leave (image_changed path (λ _. f) c)) (sym made) (stands c left.0), λ sound. absurd (false≢true sound))
stands_made (what.Sync false) path may_leave sound seen old new made stands c left =
    subst (λ (f : Option File). may_leave (image_changed path (λ _. f) c)) (sym made) (stands c left)
stands_made (what.Move mode bytes done) path may_leave sound seen old new (inl same) stands c left =
    (image_changed path (λ _. old) left.0, stands left.0 left.1, inl (here left.2))
  where
    here : MovesFile path (record { mode = mode; bytes = bytes.items }) left.0 c → image_changed path (λ _. new) c ≡ image_changed path (λ _. old) left.0
    here (inl is) = λ i. image_changed path (λ _. same i) (is i)
    here (inr moved) = (λ i. image_changed path (λ _. same i) (moved i)) ∙ put_twice path old (Some (record { mode = mode; bytes = bytes.items })) left.0
stands_made (what.Move mode bytes done) path may_leave sound seen old new (inr is_new) stands c left =
    (left.0, left.1, inr (here left.2))
  where
    here : MovesFile path (record { mode = mode; bytes = bytes.items }) left.0 c → image_changed path (λ _. new) c ≡ with_file_at path (record { mode = mode; bytes = bytes.items }) left.0
    here (inl is) = λ i. image_changed path (λ _. is_new i) (is i)
    here (inr moved) = (λ i. image_changed path (λ _. is_new i) (moved i))
        ∙ put_twice path (Some (record { mode = mode; bytes = bytes.items })) (Some (record { mode = mode; bytes = bytes.items })) left.0

-- a call at another path
stands_past : (asked : CallMade) (q p : List ℕ) (may_leave : Image → Type 0) (sound : Bool) (seen f : Option File) → bytes_eq q p ≡ false
    → ((c : Image) → may_leave c → may_leave (image_changed p (λ _. f) c))
    → (c : Image) → left_after_what asked q may_leave sound seen c → left_after_what asked q may_leave sound seen (image_changed p (λ _. f) c)
stands_past (what.Write at bytes done) q p may_leave sound seen f apart stands c left =
    (image_changed p (λ _. f) left.0, stands left.0 left.1, tears_past q p (Torn at (length bytes.items)) f left.0 c apart left.2)
stands_past (what.Sync true) q p may_leave sound seen f apart stands c left =
    (stands c left.0, λ is. past_place p f c q (back q p apart) ∙ left.1 is)
stands_past (what.Sync false) q p may_leave sound seen f apart stands c left = stands c left
stands_past (what.Move mode bytes done) q p may_leave sound seen f apart stands c left =
    (image_changed p (λ _. f) left.0, stands left.0 left.1, here left.2)
  where
    here : MovesFile q (record { mode = mode; bytes = bytes.items }) left.0 c → MovesFile q (record { mode = mode; bytes = bytes.items }) (image_changed p (λ _. f) left.0) (image_changed p (λ _. f) c)
    here (inl is) = inl (λ i. image_changed p (λ _. f) (is i))
    here (inr moved) = inr ((λ i. image_changed p (λ _. f) (moved i)) ∙ put_both p q f (Some (record { mode = mode; bytes = bytes.items })) left.0 apart)

pub stands_after : (call : DiskCall) (path : List ℕ) (s : DiskState) (old new : Option File) → call.path.items ≡ path
    → MayMake call.what (s.is_sound path) (s.seen path) old new → MayStand path old s → MayStand path new (state_after_call call s)
stands_after call path s old new is made stands =
    subst (λ (p : List ℕ). MayStand p new (state_after_call call s)) is
    (λ c left. stands_made call.what call.path.items s.may_leave (s.is_sound call.path.items) (s.seen call.path.items) old new
    (subst (λ (p : List ℕ). MayMake call.what (s.is_sound p) (s.seen p) old new) (sym is) made)
    (subst (λ (p : List ℕ). MayStand p old s) (sym is) stands) c left)

pub stands_still : (call : DiskCall) (path : List ℕ) (s : DiskState) (f : Option File) → bytes_eq call.path.items path ≡ false → MayStand path f s → MayStand path f (state_after_call call s)
stands_still call path s f apart stands c left =
    stands_past call.what call.path.items path s.may_leave (s.is_sound call.path.items) (s.seen call.path.items) f apart stands c left

drop_past : (xs ys : List ℕ) (m k : ℕ) → m ≡ length xs + k → drop m (xs ++ ys) ≡ drop k ys
drop_past [] ys m k is = let same : m ≡ k = omega arith in ap (λ (j : ℕ). drop j ys) same
drop_past (x ∷ xs) ys zero k is = absurd (omega arith)
drop_past (x ∷ xs) ys (suc m) k is = drop_past xs ys m k (omega arith)

drop_none : (m n : ℕ) → drop {A = ℕ} m [] ≡ drop n []
drop_none zero zero = refl
drop_none zero (suc n) = refl
drop_none (suc m) zero = refl
drop_none (suc m) (suc n) = refl

drop_twice : (m k n : ℕ) (xs : List ℕ) → n ≡ m + k → drop k (drop m xs) ≡ drop n xs
drop_twice zero k n xs is = let same : k ≡ n = omega arith in ap (λ (j : ℕ). drop j xs) same
drop_twice (suc m) k n [] is = drop_none k n
drop_twice (suc m) k zero (x ∷ xs) is = absurd (omega arith)
drop_twice (suc m) k (suc n) (x ∷ xs) is = drop_twice m k n xs (omega arith)

-- a piece of what was written
pub torn_piece : (at n : ℕ) (piece old : List ℕ) → length piece ≤ n → at ≤ length old → Torn at n old (overwritten at piece old)
torn_piece at n piece old short within =
    let front : length (take at old) ≡ at = omega (arith, length-take at old) in
    let end = drop (at + length piece) old in
    let m = at + length piece in
    let long : length (overwritten at piece old) ≡ at + (length piece + length end) =
    length-append (take at old) (piece ++ end) ∙ (λ i. front i + length-append piece end i) in
    let ends : length end ≡ length old - m = length-drop m old in
    record {
      before = take_at (take at old) (piece ++ end) at front;
      after = drop_past (take at old) (piece ++ end) (at + n) n (omega (arith, front))
          ∙ drop_past piece end n (n - length piece) (omega arith)
          ∙ drop_twice m (n - length piece) (at + n) old (omega arith);
      no_shorter = omega (arith, long, ends);
      no_longer = omega (arith, long, ends);
    }

pub torn_in_file : (at n : ℕ) (piece : List ℕ) (file : File) → length piece ≤ n → at ≤ length file.bytes
    → IsTornFile (Torn at n) (Some file) (with_bytes (overwritten at piece) (Some file))
torn_in_file at n piece file short within = (refl, torn_piece at n piece file.bytes short within)

pub followed_here : (call : DiskCall) (path : List ℕ) (seen left new : Option File) (sound : Bool) (s : DiskState) → call.path.items ≡ path → PathIsFollowed path seen left sound s
    → MayMake call.what sound seen left new → PathIsFollowed path (file_after call.what seen) new (sound_after call.what sound) (state_after_call call s)
followed_here call path seen left new sound s is f made = record {
  seen_is = ap (file_after call.what) f.seen_is ∙ sym (yes_side (bytes_eq call.path.items path) (file_after call.what (s.seen path)) (s.seen path) ((bytes_eq-Decides call.path.items path).1 is));
  sound_is = ap (sound_after call.what) f.sound_is ∙ sym (yes_side (bytes_eq call.path.items path) (sound_after call.what (s.is_sound path)) (s.is_sound path) ((bytes_eq-Decides call.path.items path).1 is));
  stands = stands_after call path s left new is
      (subst (λ (b : Bool). MayMake call.what b (s.seen path) left new) f.sound_is (subst (λ (o : Option File). MayMake call.what sound o left new) f.seen_is made)) f.stands;
}

pub followed_past : (call : DiskCall) (path : List ℕ) (seen left : Option File) (sound : Bool) (s : DiskState) → bytes_eq call.path.items path ≡ false → PathIsFollowed path seen left sound s
    → PathIsFollowed path seen left sound (state_after_call call s)
followed_past call path seen left sound s apart f = record {
  seen_is = f.seen_is ∙ sym (no_side (bytes_eq call.path.items path) (file_after call.what (s.seen path)) (s.seen path) apart);
  sound_is = f.sound_is ∙ sym (no_side (bytes_eq call.path.items path) (sound_after call.what (s.is_sound path)) (s.is_sound path) apart);
  stands = stands_still call path s left apart f.stands;
}

-- the state after one call more
pub state_more : (calls : List DiskCall) (k : ℕ) (call : DiskCall) (s : DiskState) → k < length calls → call ≡ get_or calls k call → state_after_calls (take (k + 1) calls) s ≡ state_after_call call (state_after_calls (take k calls) s)
state_more calls k call s below is =
    (λ i. state_after_calls (take_more calls k call below i) s)
    ∙ after_all_push (take k calls) (get_or calls k call) s
    ∙ (λ i. state_after_call (sym is i) (state_after_calls (take k calls) s))

-- what the test of a path says
pub elsewhere : (b : Bool) → not b ≡ true → b ≡ false
elsewhere true is = absurd (false≢true is)
elsewhere false is = refl

pub not_elsewhere : (b : Bool) → not b ≡ false → b ≡ true
not_elsewhere true is = refl
not_elsewhere false is = absurd (true≢false is)

-- before the first call a crash leaves at each path either of two files, whatever it leaves at the others
module _ (image kept : Image) (path : List ℕ) (f : Option File) (is : (f ≡ image path) ⊎ (f ≡ kept path)) (c : Image) (may : EitherEach image kept c) (other : List ℕ) where
  either_side : (b : Bool) → (b ≡ true → path ≡ other) → ((if b then f else c other) ≡ image other) ⊎ ((if b then f else c other) ≡ kept other)
  either_side true same = ⊎_elim (λ seen. inl (seen ∙ ap image (same refl))) (λ left. inr (left ∙ ap kept (same refl))) is
  either_side false same = may other

  pub stands_first : (image_changed path (λ _. f) c other ≡ image other) ⊎ (image_changed path (λ _. f) c other ≡ kept other)
  stands_first = either_side (bytes_eq path other) (bytes_eq-Decides path other).0
