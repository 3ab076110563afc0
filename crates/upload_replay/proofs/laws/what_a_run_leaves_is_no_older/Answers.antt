use Rattle.upload_replay.proofs.NoOlder.{all_no_older, left_no_older}
use Rattle.upload_replay.proofs.laws.what_a_run_leaves_is_no_older.Goals as goal

pub returns-clause-active : goal.returns-clause-active
returns-clause-active g c = λ set steps last. all_no_older c.contents_follow_their_trace.ensures set steps last

pub returns-clause-left : goal.returns-clause-left
returns-clause-left g c = λ set began link since disk result left. left_no_older c.contents_follow_their_trace.ensures set began link since (g.K.Disk.state disk) result left
