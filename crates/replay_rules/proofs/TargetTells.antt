-- What holds of each file that the target gives or writes in a run, whatever comes.
use Rattle.std.proofs.Common.{◌≡◌, ℕ, ◌≤◌, List, [], ◌∷◌, ◌++◌, length, Some, true, false, refl, sym, subst, arith}
use Rattle.std.specs.List.{AllByRecursion}
use Rattle.load_base.specs.Ident.{IsIdent, is_ident_byte}
use Rattle.disk_layout.specs.declared.identity.Identity.{Identity}
use Rattle.exchange_trace.specs.declared.trace.Side.TheVariants as sides
use Rattle.exchange_trace.specs.Happenings.{DatagramView, HappeningView}
use Rattle.exchange_trace.specs.Logs.{Event, event_for}
use Rattle.exchange_trace.specs.Posts.{posted_in}
use Rattle.exchange_trace.specs.Steps.{Step}
use Rattle.transfer_end.specs.OtherEnds.{Among, MoveHasRole}
use Rattle.transfer_end.specs.Transfers.{Reads, Role, ServesRead, ServesWrite, Transfer, Writes}
use Rattle.session_rules.proofs.BufferLemmas.{SumsJoin}
use Rattle.session_rules.specs.Reports.{denying_lui}
use Rattle.session_rules.specs.Target.{target_decision}
use Rattle.session_rules.specs.TargetLog.{TargetReading, target_extended, target_view}
use Rattle.replay_rules.specs.BothEnds.{Is_up, Setting, TargetStanding, target_at}
use Rattle.replay_rules.proofs.ChangeLemmas.{HasTarget, has_target}
use Rattle.replay_rules.specs.Changes.{AllStayOrAreNew}
use Rattle.replay_rules.specs.OtherEndTraces.{former_at, transfers_of}
use Rattle.replay_rules.proofs.TieLemmas.{HasLive, target_is_live}
use Rattle.replay_rules.proofs.EachBefore.{NewOver, over_at, roles_mapped, trace_over}
use Rattle.replay_rules.proofs.Spent.{AllSpent, step_spent}
use Rattle.replay_rules.proofs.TargetFiles.{BeginsWell, IsDenial, IsGiven, IsLcsStop, IsStop, TellsCause, moves_tell}

-- ---- the target's hardware

pub ident_begins : (hw : List ℕ) → IsIdent hw → BeginsWell hw
ident_begins [] is = absurd (none is.size.0)
  where
    none : 1 ≤ 0 → ⊥
    none size = omega (arith, size)
ident_begins (b ∷ rest) is = record { first = b; rest = rest; is = refl; not_3 = λ e. never (subst (λ (x : ℕ). is_ident_byte x ≡ true) e (is.good 0 (omega arith))) }
  where
    never : false ≡ true → ⊥
    never f = cc

-- ---- what holds of a file

-- a reply that denies is given only where no sequence number is left
pub record IsReply (state : TargetStanding) (file : List ℕ) : Type 0 where
  pub small : length file ≤ 4294967295
  pub spent : IsDenial file → AllSpent state
  pub no_stop : IsStop file → ⊥
  pub no_lcs : IsLcsStop file → ⊥
  pub denies : IsDenial file → file ≡ denying_lui
  pub given : IsGiven file

pub record IsWritten (file : List ℕ) : Type 0 where
  pub no_denial : IsDenial file → ⊥
  pub no_lcs : IsLcsStop file → ⊥

abbrev pub IsToldCause : Setting → List Step → Role → Type 0
IsToldCause set steps (Writes name options file) = IsWritten file
IsToldCause set steps (ServesRead name options file) = IsReply (target_at set steps) file
IsToldCause set steps role = Unit {0}

still_told : (set : Setting) (s : Step) (steps : List Step) (role : Role) → IsToldCause set steps role → IsToldCause set (s ∷ steps) role
still_told set s steps (Writes name o file) h = record { no_denial = h.no_denial; no_lcs = h.no_lcs }
still_told set s steps (ServesRead name o file) h = record { small = h.small; spent = λ denial. step_spent set s steps (h.spent denial); no_stop = h.no_stop; no_lcs = h.no_lcs; denies = h.denies; given = h.given }
still_told set s steps (Reads name o) h = tt
still_told set s steps (ServesWrite name o) h = tt

-- whatever was before it
abbrev ToldOver : Setting → List Step → Role → List Transfer → Type 0
ToldOver set steps role earlier = IsToldCause set steps role

-- ---- a trace

pub hardware_at : (set : Setting) (r : TargetReading) → BeginsWell set.start.identity.hw → HasTarget set (Is_up r) → BeginsWell r.active.identity.hw
hardware_at set r hw same = subst (λ (id : Identity). BeginsWell id.hw) (sym same) hw

module _ (joins : SumsJoin) (set : Setting) (hw : BeginsWell set.start.identity.hw) where
  told_role : (given : HappeningView) (posts : List DatagramView) (steps : List Step) (r : TargetReading) (e : Event) (role : Role) → target_at set steps ≡ Is_up r → TellsCause set.accepts r e role → IsToldCause set (record { given = given; posts = posts; notes = [] } ∷ steps) role
  told_role given posts steps r e (Writes name o file) up (no_denial, no_lcs, stops) = record { no_denial = no_denial; no_lcs = no_lcs }
  told_role given posts steps r e (ServesRead name o file) up h = record {
    small = h.small;
    spent = λ denial. step_spent set (record { given = given; posts = posts; notes = [] }) steps (subst AllSpent (sym up) (h.spent denial));
    no_stop = h.no_stop;
    no_lcs = h.no_lcs;
    denies = h.denies;
    given = h.given;
  }
  told_role given posts steps r e (Reads name o) up h = tt
  told_role given posts steps r e (ServesWrite name o) up h = tt

  abbrev Fact : List Step → Type 0
  Fact steps = AllStayOrAreNew set steps

  begins : (given : HappeningView) (posts : List DatagramView) (steps : List Step) (r : TargetReading) (e : Event) → target_at set steps ≡ Is_up r → event_for sides.Target (posted_in steps) given ≡ Some e → Fact (record { given = given; posts = posts; notes = [] } ∷ steps)
      → AllByRecursion (MoveHasRole (NewOver (ToldOver set (record { given = given; posts = posts; notes = [] } ∷ steps)) (former_at set steps) (target_extended set.accepts r e).end)) (target_decision set.accepts (target_view r) e).moves
  begins given posts steps r e up comes changes =
      roles_mapped (TellsCause set.accepts r e) (NewOver (ToldOver set (record { given = given; posts = posts; notes = [] } ∷ steps)) (former_at set steps) (target_extended set.accepts r e).end)
      (λ role h t live. told_role given posts steps r e role up h) _
      (moves_tell joins set.accepts r e (subst (λ (state : TargetStanding). HasLive state) up (target_is_live joins set steps)) (hardware_at set r hw (subst (λ (state : TargetStanding). HasTarget set state) up (has_target set steps changes.1))))

  pub told_cause : (steps : List Step) → AllStayOrAreNew set steps → (t : Transfer) → Among t (transfers_of (target_at set steps) ++ former_at set steps) → IsToldCause set steps t.role
  told_cause steps changes t a =
      (over_at (ToldOver set steps) (transfers_of (target_at set steps) ++ former_at set steps) t (trace_over set (ToldOver set) Fact (λ s before fact. fact.1) (λ s before role earlier. still_told set s before role) begins steps changes) a).over
