-- TakenUp: what a file gives was taken, and what came of it is kept and told. For `take_up`.
use Rattle.std.proofs.Common.{◌≡◌, ◌∙◌, ℕ, Bool, List, Option, Result, true, ap, inl, subst}
use Rattle.state_keeping.specs.States.{Kept, book_in}
use Rattle.state_secrets.specs.{Looking.is_held, Looking.seen_of, declared.looking.DueFile.DueFile, declared.looking.FileSeen.FileSeen, declared.looking.Looking.Looking, declared.looking.SecretTrouble.SecretTrouble}
use Rattle.state_secrets.specs.{declared.news.Became.Became, declared.news.Looked.Looked, declared.news.SecretNews.SecretNews, declared.news.SecretWord.SecretWord}
use Rattle.state_secrets.specs.Outcomes.{IsNoted, news_about, news_of, seen_after}
use Rattle.agent_ledger.specs.Takings.{TakesHeld, TakesUpFile}

abbrev telling : Option SecretNews → Looked
telling news = record { news = news; goes_on = true; is_enough = true }

pub taken_up : {D : Type 0} (now : ℕ) (due : DueFile) (held : Result (List ℕ) SecretTrouble) (old new : Looking) (kept left : Kept D)
    (seen : Option FileSeen) (was_held : Bool) (became : Became) (then : FileSeen) (what : Option SecretWord) (news : Option SecretNews)
    → seen ≡ seen_of old.marks.items due.name due.file → was_held ≡ is_held (book_in kept).secrets due.name due.file
    → TakesHeld now due held kept became left
    → what ≡ news_of seen was_held became → then ≡ seen_after seen due.stamp now became → IsNoted due then old new → news ≡ news_about due.name what → left.disk ≡ kept.disk
    → TakesUpFile now due held old kept (record { news = news; goes_on = true; is_enough = true }) new left
taken_up now due held old new kept left seen was_held became then what news seen_is held_is taken what_is then_is noted news_is disk =
    inl (record {
      became = became;
      taken = taken;
      noted = subst (λ (s : FileSeen). IsNoted due s old new) (then_is ∙ ap (λ (s : Option FileSeen). seen_after s due.stamp now became) seen_is) noted;
      told = ap (λ (n : Option SecretNews). telling n)
          (news_is ∙ ap (λ (w : Option SecretWord). news_about due.name w)
          (what_is ∙ ap (λ (s : Option FileSeen). news_of s was_held became) seen_is ∙ ap (λ (h : Bool). news_of (seen_of old.marks.items due.name due.file) h became) held_is));
      disk = disk;
    })
