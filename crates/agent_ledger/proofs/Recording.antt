-- Recording: the place of a need is that of one, and how the recording of needs goes on. For `note`, the loop of `record_needs` and `untold`.
use Rattle.std.proofs.Common.{◌≡◌, ◌∙◌, ℕ, ◌+◌, ◌<◌, ◌≤◌, Bool, true, false, cond, inl, inr, List, [], ◌∷◌, Option, Some, None, IfSome, ap, drop, get_or, length, ltb-true, refl, subst, sym}
use Rattle.std.proofs.lemmas.List.{drop_all, drop_more}
use Rattle.std.specs.List.{position, position_or_len}
use Rattle.state_changes.specs.declared.row.Row.{Row}
use Rattle.agent_ledger.specs.{Keeping.KeepCall, Rereading.AreAtMost, Lates.IsUntold, declared.opening.NeedMeanwhile.NeedMeanwhile, declared.opening.OpenedLedger.OpenedLedger}
use Rattle.agent_ledger.specs.Openings.{RecordsNeed, RecordsNeeds, is_need_of}
use Rattle.agent_words.specs.Outcomes.{nothing_kept}

chosen : (b : Bool) (m n : ℕ) → cond b (Some m) None ≡ Some n → (b ≡ true) × (m ≡ n)
chosen true m n e = (refl, cc)
chosen false m n e = cc

pub need_within : (name : List ℕ) (needs : List NeedMeanwhile) (i : ℕ) → position (is_need_of name) needs ≡ Some i → i < length needs
need_within name needs i e =
    let h = chosen _ (position_or_len (is_need_of name) needs) i e in
    subst (λ k. k < length needs) h.1 (ltb-true _ _ h.0)

-- that nothing is kept is told, or nothing
pub untold_so : (why : Option (List ℕ)) (whys : List (List ℕ)) → IfSome why (λ w. w ≡ nothing_kept) → AreAtMost why whys → IsUntold whys
untold_so None whys so most = inl most
untold_so (Some why) whys so (inl none) = inl none
untold_so (Some why) whys so (inr one) = inr (one ∙ ap (λ w. w ∷ []) so)

module _ {K : Type 0} (does : KeepCall → K → K → Type 0) (rows : K → List Row) (now : ℕ) where
  -- where those from one on are recorded so, all are recorded so from the start on
  abbrev pub SoFar : List NeedMeanwhile → OpenedLedger K → ℕ → OpenedLedger K → Type 0
  SoFar needs first at here = (holds : Bool) → (last : OpenedLedger K) → RecordsNeeds does rows now (drop at needs) holds here last → RecordsNeeds does rows now needs holds first last

  pub so_begins : (needs : List NeedMeanwhile) (first : OpenedLedger K) → SoFar needs first 0 first
  so_begins needs first holds last h = h

  -- one more is recorded
  pub so_goes_on :
      (needs : List NeedMeanwhile) (i : ℕ) (n : NeedMeanwhile) (first here next : OpenedLedger K) → i < length needs → n ≡ get_or needs i n → SoFar needs first i here → RecordsNeed does rows now n true here next →
      SoFar needs first (i + 1) next
  so_goes_on needs i n first here next within is so one holds last h =
      let rest : drop i needs ≡ n ∷ drop (i + 1) needs = drop_more needs i n within ∙ ap (λ m. m ∷ drop (i + 1) needs) (sym is) in
      so holds last (subst (λ ns. RecordsNeeds does rows now ns holds here last) (sym rest) (true, (next, (one, h))))

  -- or one is not
  pub so_stops :
      (needs : List NeedMeanwhile) (i : ℕ) (n : NeedMeanwhile) (first here next : OpenedLedger K) → i < length needs → n ≡ get_or needs i n → SoFar needs first i here → RecordsNeed does rows now n false here next →
      RecordsNeeds does rows now needs false first next
  so_stops needs i n first here next within is so one =
      let rest : drop i needs ≡ n ∷ drop (i + 1) needs = drop_more needs i n within ∙ ap (λ m. m ∷ drop (i + 1) needs) (sym is) in
      so false next (subst (λ ns. RecordsNeeds does rows now ns false here next) (sym rest) (false, (next, (one, (refl, refl)))))

  pub so_ends : (needs : List NeedMeanwhile) (i : ℕ) (first here : OpenedLedger K) → length needs ≤ i → SoFar needs first i here → RecordsNeeds does rows now needs true first here
  so_ends needs i first here past so = so true here (subst (λ ns. RecordsNeeds does rows now ns true here here) (sym (drop_all i needs past)) (refl, refl))
