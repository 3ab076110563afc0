use Rattle.std.proofs.Common.{sym}
use Rattle.session_rules.proofs.BufferLemmas.{SumsJoin}
use Rattle.session_rules.proofs.ContentLemmas.{are_kept, contents_extended}
use Rattle.session_rules.proofs.TargetLemmas.{target_follows}
use Rattle.replay_rules.specs.BothEnds.{Is_down, Is_up, Setting, TargetStanding, target_at}
use Rattle.replay_rules.specs.ContentTraces.{ContentsFollowAt}
use Rattle.replay_rules.proofs.TieLemmas.{HasLive, target_is_live}
use Rattle.replay_rules.proofs.laws.contents_follow_their_trace.Goals as goal

at_state : SumsJoin → (set : Setting) (state : TargetStanding) → HasLive state → ContentsFollowAt set state
at_state joins set (Is_up r) live = record {
  kept = are_kept r;
  view = λ e. sym (target_follows joins set.accepts r e live).0;
  contents = λ e. contents_extended joins set.accepts r e live;
}
at_state joins set (Is_down active interrupted) live = tt

pub returns : goal.returns
returns c =
    let joins : SumsJoin = record { crc16 = c.check_sum_laws.ensures.crc16_joined; crc32 = c.check_sum_laws.ensures.crc32_joined } in
    λ set steps. at_state joins set (target_at set steps) (target_is_live joins set steps)
