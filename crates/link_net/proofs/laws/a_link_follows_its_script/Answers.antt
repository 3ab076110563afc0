use Rattle.link_net.proofs.FollowedLemmas.{followed_at_start, followed_next, followed_post, followed_note}
use Rattle.link_net.proofs.laws.a_link_follows_its_script.Goals as goal

pub returns-clause-start : goal.returns-clause-start
returns-clause-start c = λ waiting script. followed_at_start waiting script

pub returns-clause-next : goal.returns-clause-next
returns-clause-next c = λ waiting script steps old new h is gives. followed_next waiting script steps old new h is gives

pub returns-clause-post : goal.returns-clause-post
returns-clause-post c = λ waiting script s earlier link d is. followed_post waiting script s earlier link is d

pub returns-clause-note : goal.returns-clause-note
returns-clause-note c = λ waiting script s earlier link n is. followed_note waiting script s earlier link is n
