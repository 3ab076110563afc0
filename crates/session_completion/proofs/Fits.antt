-- The check sums that a target keeps of a load have 32 bits, whatever happens.
use Rattle.std.proofs.Common.{◌≡◌, ℕ, ◌-◌, ◌≤◌, List, [], Option, Some, None, refl, arith}
use Rattle.crc_fields.specs.CheckSums.{bits_of, crc16_after, crc32_after, register_after, register_after_bits}
use Rattle.load_base.specs.Config.{LoadView}
use Rattle.exchange_trace.specs.declared.trace.Side.{Side}
use Rattle.exchange_trace.specs.declared.trace.Side.TheVariants as sides
use Rattle.exchange_trace.specs.Logs.{Event, Gets, Learns}
use Rattle.transfer_end.specs.Views.{EndView}
use Rattle.transfer_end.specs.Moves.{views_after}
use Rattle.accept_rules.specs.Permissions.{Accepts}
use Rattle.session_rules.specs.TargetRows.{Arriving, Kept_bytes, Kept_sums, with_bytes, arriving_of, arriving_load, RowView, RowMove, Awaits_lur, Gives_lci, Writes_lcs, Writes_lcl, Gives_lui, Gives_denial, Writes_ready, Reads_file, Writes_progress, Writes_stop, Writes_completion, Over, view_moved}
use Rattle.session_rules.specs.Target as target
use Rattle.session_rules.specs.Target.{TargetView, TargetSession, TargetChange, target_after, target_changed, target_decision}
use Rattle.session_rules.specs.Uploads.{OpenLoadView}
use Rattle.replay_rules.specs.BothEnds.{Setting}
use Rattle.session_completion.specs.Clean.{Clean, starts, learns, goes}
use Rattle.session_completion.specs.Requests.{SumFits, SessionFits, NoMoreSums}
use Rattle.session_completion.specs.Worlds.{World, delivered_to}

-- no byte changes no sum
crc16_stays : (sum : ℕ) → crc16_after sum [] ≡ sum
unfolding crc16_after register_after register_after_bits bits_of
crc16_stays sum = refl

twice : (sum : ℕ) → sum ≤ 4294967295 → 4294967295 - (4294967295 - sum) ≡ sum
twice sum small = omega arith

crc32_stays : (sum : ℕ) → sum ≤ 4294967295 → crc32_after sum [] ≡ sum
unfolding crc32_after register_after register_after_bits bits_of
crc32_stays sum small = twice sum small

pub no_more_sums : NoMoreSums
no_more_sums = record { crc16 = crc16_stays; crc32 = crc32_stays }

sum_small : (sum : ℕ) (bytes : List ℕ) → crc32_after sum bytes ≤ 4294967295
unfolding crc32_after
sum_small sum bytes = omega arith

more_fits : (a : Arriving) (more : List ℕ) → SumFits (with_bytes a more)
more_fits (Kept_bytes b) more = tt
more_fits (Kept_sums s) more = sum_small s.load_crc _

load_fits : (l : Option OpenLoadView) (bytes : List ℕ) → SumFits (arriving_load l bytes)
load_fits None bytes = tt
load_fits (Some l) bytes = sum_small l.crc _

row_fits : (row : RowView) (bytes : List ℕ) → SumFits (arriving_of row bytes)
row_fits (Reads_file u) bytes = load_fits u.current bytes
row_fits Gives_lci bytes = tt
row_fits Writes_lcs bytes = tt
row_fits Writes_lcl bytes = tt
row_fits Gives_lui bytes = tt
row_fits Gives_denial bytes = tt
row_fits Writes_ready bytes = tt
row_fits Awaits_lur bytes = tt
row_fits (Writes_progress u) bytes = tt
row_fits (Writes_stop e) bytes = tt
row_fits (Writes_completion e loads) bytes = tt
row_fits Over bytes = tt

with_fits : (live : Option TargetSession) (more : List ℕ) → SessionFits (target.continued live more)
with_fits None more = tt
with_fits (Some s) more = more_fits s.arriving more

turned_fits : (end : EndView) (v : TargetView) (live : Option TargetSession) (m : RowMove) (last : List ℕ) → SessionFits (target.session_turned target.view_turned end v live m last).live
turned_fits end v None m last = tt
turned_fits end v (Some s) m last = row_fits (view_moved s.row (with_bytes s.arriving last) m) []

spent_fits : (end : EndView) (v : TargetView) (live : Option TargetSession) (m : RowMove) (last : List ℕ) → SessionFits (target.session_turned target.view_without_port end v live m last).live
spent_fits end v None m last = tt
spent_fits end v (Some s) m last = tt

changed_fits : (end : EndView) (v : TargetView) (c : TargetChange) → SessionFits (target_changed end v c).live
changed_fits end v (target.Continues more) = with_fits v.live more
changed_fits end v (target.Begins kind) = row_fits _ []
changed_fits end v (target.Turns m last) = turned_fits end v v.live m last
changed_fits end v (target.Turns_without_port m last) = spent_fits end v v.live m last
changed_fits end v (target.Ends reason) = tt

after_fits : (accepts : Accepts) (v : TargetView) (e : Event) → SessionFits (target_after accepts v e).live
after_fits accepts v e = changed_fits (views_after sides.Target v.end (target_decision accepts v e).moves) v (target_decision accepts v e).change

none_fits : (live : Option TargetSession) → live ≡ None → SessionFits live
none_fits None e = tt
none_fits (Some s) e = absurd cc

delivered_fits : (set : Setting) (w : World) (side : Side) (e : Event) → SessionFits w.target.live → SessionFits (delivered_to set w side e).target.live
delivered_fits set w sides.Target e fits = fits
delivered_fits set w sides.Loader e fits = after_fits set.accepts w.target e

pub clean_fits : (set : Setting) (loads : List LoadView) (n : ℕ) (c : World) → Clean set loads n c → SessionFits c.target.live
clean_fits set loads n c (starts w parts wanted more idle course few on_media) = none_fits w.target.live idle.target
clean_fits set loads n c (learns m w size before) = after_fits set.accepts w.target (Learns size)
clean_fits set loads n c (goes m w d before next) = delivered_fits set w d.side (Gets d.from d.to d.bytes) (clean_fits set loads m w before)
