use Rattle.session_rules.proofs.FairLemmas.{loader_gives_media_files, loader_moves_fit, loader_stays_fair, target_moves_fit, target_stays_fair}
use Rattle.session_rules.proofs.laws.both_sides_stay_fair.Goals as goal

pub returns-clause-loader_moves : goal.returns-clause-loader_moves
returns-clause-loader_moves c = loader_moves_fit

pub returns-clause-target_moves : goal.returns-clause-target_moves
returns-clause-target_moves c = target_moves_fit

pub returns-clause-loader : goal.returns-clause-loader
returns-clause-loader c = loader_stays_fair c.what_comes_was_sent.ensures.moves

pub returns-clause-target : goal.returns-clause-target
returns-clause-target c = target_stays_fair c.what_comes_was_sent.ensures.moves

pub returns-clause-media : goal.returns-clause-media
returns-clause-media c = loader_gives_media_files
