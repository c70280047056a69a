-- A verdict on the bytes read so far.
use Rattle.vault_http.specs.{declared.verdict.Verdict.Verdict, declared.verdict.Verdict.TheVariants.More, declared.verdict.Verdict.TheVariants.Done}

-- it is an answer
abbrev pub VerdictIsDone : {K T : Type 0} → Verdict K T → Type 0
VerdictIsDone (More known) = ⊥
VerdictIsDone (Done answer) = Unit {0}

-- P of the answer, if it is one
abbrev pub IfDone : {K T : Type 0} → Verdict K T → (T → Type 0) → Type 0
IfDone (More known) P = Unit {0}
IfDone (Done answer) P = P answer

-- P of what is known, if there is no answer yet
abbrev pub IfMore : {K T : Type 0} → Verdict K T → (K → Type 0) → Type 0
IfMore (More known) P = P known
IfMore (Done answer) P = Unit {0}
