-- WhyUnserved: why a file that is read again is not served, or that it is. For `judged` and `reload`.
use Rattle.std.proofs.Common.{◌≡◌, ◌∙◌, ℕ, Bool, IsTrue, List, [], Option, Some, None, Ok, Err, IfSome, ap, inl, inr, subst, sym}
use Rattle.agent_standing.specs.Waiting.{changed}
use Rattle.state_changes.specs.declared.replaying.JournalNote.{JournalNote}
use Rattle.base_disk.specs.{State.DiskState, declared.fault.DiskFault.DiskFault}
use Rattle.state_keeping.specs.{Settles.IsCopied, Keepers.store_of, Keepers.waiting_in}
use Rattle.state_keeping.specs.States.{Kept, book_in, store_in}
use Rattle.state_store.specs.{Books.IsBookIf, Records.records_in, Stores.book_of, Stores.lines_in}
use Rattle.agent_words.specs.{Outcomes.Whys, Reading.IsWellWritten, Noting.SaysFaults, declared.demands.Demands.Demands, declared.reread.Reread.Reread}
use Rattle.agent_ledger.specs.{Ledgers.ReloadsOn, Untouched.IsAsItWas, declared.ledger.Ledger.Ledger}
use Rattle.agent_ledger.specs.Rereading.{AreAtMost, AreBytesOf, IsOneWhy, IsWhyNotReread, SaysCopy, SaysNoBook, SaysNotes, SaysUnread}

-- the one reason says so
one_says : (P : List ℕ → Type 0) (why : Option (List ℕ)) (whys : List (List ℕ)) → IfSome why P → AreAtMost why whys → IsOneWhy P whys
one_says P None whys h none = subst (IsOneWhy P) (sym none) tt
one_says P (Some why) whys h (inl none) = subst (IsOneWhy P) (sym none) tt
one_says P (Some why) whys h (inr one) = subst (IsOneWhy P) (sym one) h

pub unread_why : {D : Type 0} (known : Bool) (seen : D → DiskState) (demands : Demands) (kept : Kept D) (why : Option (List ℕ)) (whys : List (List ℕ)) → IfSome why (SaysUnread known seen kept)
    → AreAtMost why whys → IsWhyNotReread known seen demands kept whys
unread_why known seen demands kept why whys says most = inl (one_says (SaysUnread known seen kept) why whys says most)

pub unserved_why : {D : Type 0} (known : Bool) (seen : D → DiskState) (demands : Demands) (kept : Kept D) (bytes : List ℕ) (whys : List (List ℕ))
    → AreBytesOf known seen kept bytes → SaysFaults demands bytes whys → IsWhyNotReread known seen demands kept whys
unserved_why known seen demands kept bytes whys stand says = inr (bytes, (stand, inl (inr says)))

-- or memory is wanting for the reasons
pub wanting_why : {D : Type 0} (known : Bool) (seen : D → DiskState) (demands : Demands) (kept : Kept D) (bytes : List ℕ) (whys : List (List ℕ))
    → AreBytesOf known seen kept bytes → whys ≡ [] → IsWhyNotReread known seen demands kept whys
wanting_why known seen demands kept bytes whys stand none = inr (bytes, (stand, inl (inl none)))

-- one that is read again is served with every change
pub reread_as :
    {D : Type 0} → (known : Bool) (seen : D → DiskState) (demands : Demands) (now : ℕ) (bytes : List ℕ) (r : Reread) (old mid new : Kept D) →
    AreBytesOf known seen old bytes → AreBytesOf known seen mid bytes → IsWellWritten demands bytes → mid.keeper ≡ old.keeper → mid.places ≡ old.places →
    (notes : List JournalNote) × (IsBookIf (Some bytes) (records_in (lines_in (store_in mid))) (book_in mid).secrets (book_in new) notes
    × SaysNotes (book_in new).file.margin (records_in (lines_in (store_in new))) notes r.notes.items) →
    (copy : Option DiskFault) × (IsCopied known mid.places bytes copy (seen new.disk) × SaysCopy copy r.unkept) →
    lines_in (store_in new) ≡ lines_in (store_in mid) → (IsTrue known → (seen new.disk).seen new.places.file ≡ (seen mid.disk).seen mid.places.file) →
    waiting_in new.keeper ≡ changed (waiting_in mid.keeper) now → ReloadsOn known seen demands now (Ok r) old new
reread_as known seen demands now bytes r old mid new stand stays written keeper places reloaded copied lines file waiting = record {
  bytes = bytes;
  stand = stand;
  left = (stays.0, λ is. file is ∙ stays.1 is);
  written = written;
  notes = reloaded.0;
  book = subst (λ k. IsBookIf (Some bytes) (records_in (lines_in (store_of k))) (book_of (store_of k)).secrets (book_in new) reloaded.0) keeper reloaded.1.0;
  lines = lines ∙ ap (λ k. lines_in (store_of k)) keeper;
  waiting = waiting ∙ ap (λ k. changed (waiting_in k) now) keeper;
  noted = reloaded.1.1;
  copy = copied.0;
  copied = subst (λ p. IsCopied known p bytes copied.0 (seen new.disk)) places copied.1.0;
  unkept = copied.1.1;
}

-- or is none with them, and all is as it was
pub none_as :
    {D : Type 0} → (known : Bool) (seen : D → DiskState) (demands : Demands) (now : ℕ) (bytes : List ℕ) (why : Option (List ℕ)) (whys : Whys) (old mid new : Kept D) →
    AreBytesOf known seen old bytes → mid.keeper ≡ old.keeper → IfSome why (SaysNoBook (store_in mid) bytes) → AreAtMost why whys.items → IsAsItWas mid new → ReloadsOn known seen demands now (Err whys) old new
none_as known seen demands now bytes why whys old mid new stand keeper says most same = (
  record {
    book = same.book ∙ ap (λ k. book_of (store_of k)) keeper;
    lines = same.lines ∙ ap (λ k. lines_in (store_of k)) keeper;
    waiting = same.waiting ∙ ap (λ k. waiting_in k) keeper;
  },
  inr (bytes, (stand, inr (one_says (SaysNoBook (store_in old) bytes) why whys.items (subst (λ k. IfSome why (SaysNoBook (store_of k) bytes)) keeper says) most))),
)

-- both steps of a reload touch the state alone
module _ {D I L : Type 0} where
  pub touched : (old mid new : Ledger D I L) → mid ≡ record old { state = mid.state } → new ≡ record mid { state = new.state } → new ≡ record old { state = new.state }
  touched old mid new first second = second ∙ ap (λ (l : Ledger D I L). record l { state = new.state }) first
