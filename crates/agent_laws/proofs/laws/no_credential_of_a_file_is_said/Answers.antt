-- What is said hangs on names, on the forest and on which file gives a credential.
use Rattle.std.proofs.Common.{ap}
use Rattle.state_secrets.specs.Outcomes.{news_about, news_of}
use Rattle.agent_words.specs.Refusing.{start_refusal_line}
use Rattle.agent_log.specs.SecretLines.{news_lines}
use Rattle.agent_laws.proofs.Alike.{faulty_alike, forests_alike, held_alike, judged_alike, notes_alike, unfilled_alike, whys_alike, written_alike}
use Rattle.agent_laws.proofs.laws.no_credential_of_a_file_is_said.Goals as goal

pub returns-clause-notes : goal.returns-clause-notes
returns-clause-notes c = notes_alike

pub returns-clause-whys : goal.returns-clause-whys
returns-clause-whys c = whys_alike

pub returns-clause-faulty : goal.returns-clause-faulty
returns-clause-faulty c = faulty_alike

pub returns-clause-start : goal.returns-clause-start
returns-clause-start c = λ program d bytes other v w fault alike reads others. ap (λ g. start_refusal_line program d g fault) (forests_alike bytes other v w alike reads others)

pub returns-clause-written : goal.returns-clause-written
returns-clause-written c = written_alike

pub returns-clause-unfilled : goal.returns-clause-unfilled
returns-clause-unfilled c = unfilled_alike

pub returns-clause-news : goal.returns-clause-news
returns-clause-news c = λ secrets others name file before became h. ap (λ b. news_lines (news_about name (news_of before b became))) (held_alike secrets others name file h)

pub returns-clause-judged : goal.returns-clause-judged
returns-clause-judged c = judged_alike
