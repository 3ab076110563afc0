use Rattle.std.proofs.Common.{◌&&◌, Bool, not, sym, ap, ◌∙◌}
use Rattle.session_rules.specs.KeptLoads.{types_of}
use Rattle.load_intake.specs.Keeping.{entries, says_type}
use Rattle.load_intake.proofs.Kept.{other_one}
use Rattle.load_intake.proofs.keeping.is_kept_with.Goals as goal

pub returns-then-is_kept_beside : goal.returns-then-is_kept_beside
returns-then-is_kept_beside c =
    ap not c.has_type.ensures
    ∙ (ap (λ (b : Bool). b && not (says_type c.args.type_id c.args.load.now.type_id)) (sym c.if-is_kept_beside.true ∙ c.is_kept_beside.ensures)
    ∙ sym (other_one (types_of (entries c.args.new.now)) c.args.type_id c.args.load.now.type_id))

pub returns-else-is_kept_beside : goal.returns-else-is_kept_beside
returns-else-is_kept_beside c =
    c.if-is_kept_beside.false
    ∙ (ap (λ (b : Bool). b && not (says_type c.args.type_id c.args.load.now.type_id)) (sym c.if-is_kept_beside.false ∙ c.is_kept_beside.ensures)
    ∙ sym (other_one (types_of (entries c.args.new.now)) c.args.type_id c.args.load.now.type_id))
