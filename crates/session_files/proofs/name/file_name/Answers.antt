use Rattle.std.proofs.Common.{◌≡◌, subst, sym, ◌∙◌, true, false}
use Rattle.load_base.specs.Ident.{IsIdent}
use Rattle.load_base.specs.Name.{IsName}
use Rattle.session_files.proofs.Names.{is_name}
use Rattle.session_files.proofs.name.file_name.Goals as goal

untrue : false ≡ true → ⊥
untrue e = absurd cc

-- src/name.rt:21:19
pub unreachable-requires : goal.unreachable-requires
unreachable-requires c =
    let named = is_name c.as_slice.result.now c.as_slice-2.result.now c.args.kind
    (subst IsIdent (sym c.as_slice.ensures.bytes) c.as_slice.ensures.is_ident) (subst IsIdent (sym c.as_slice-2.ensures.bytes) c.as_slice-2.ensures.is_ident) in
    untrue (c.in-Err.ensures.only (subst IsName (sym (c.as_slice-3.ensures.value ∙ c.name_bytes-bytes.ensures)) named))
