-- All that holds of clean uploads, and what follows.
use Rattle.session_rules.proofs.BufferLemmas.{SumsJoin}
use Rattle.session_completion.specs.Finish.{UploadFinishEnds}
use Rattle.session_completion.specs.Laws.{CleanLaws, NextMoves, OldIsHarmless}
use Rattle.session_completion.specs.Safety.{DeliveringIsSafe, TickingIsSafe}
use Rattle.session_completion.proofs.Again.{next_comes_again}
use Rattle.session_completion.proofs.Finish.{finish_ends}
use Rattle.session_completion.proofs.ReadOff.{all_come_out, all_have_shape, few_are_ahead, last_is_done, last_was_posted, next_resets, two_are_quiet}
use Rattle.session_completion.proofs.Safety.{delivering_is_safe, ticking_is_safe}
use Rattle.session_completion.proofs.Shapes.{next_moves, old_is_harmless}

pub old_changes_nothing : SumsJoin → OldIsHarmless
old_changes_nothing joins = old_is_harmless (all_have_shape joins)

pub next_goes_on : SumsJoin → NextMoves
next_goes_on joins = next_moves (next_resets joins)

pub clean_laws : SumsJoin → CleanLaws
clean_laws joins = record {
  old = old_changes_nothing joins;
  moves = next_goes_on joins;
  last = last_was_posted joins;
  again = next_comes_again joins;
  done = last_is_done joins;
  few = few_are_ahead joins;
  two = two_are_quiet joins;
  come_out = all_come_out joins;
}

pub delivering_keeps : SumsJoin → DeliveringIsSafe
delivering_keeps joins = delivering_is_safe (old_changes_nothing joins) (next_goes_on joins)

pub ticking_keeps : SumsJoin → TickingIsSafe
ticking_keeps joins = ticking_is_safe (last_was_posted joins)

pub finish_comes_to_an_end : SumsJoin → UploadFinishEnds
finish_comes_to_an_end joins = finish_ends (clean_laws joins)
