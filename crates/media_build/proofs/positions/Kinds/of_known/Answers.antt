use Rattle.std.proofs.Common.{◌∷◌, ◌++◌, [], ap, sym, ◌∙◌}
use Rattle.std.proofs.Math.Seq.{map-set_same}
use Rattle.std.proofs.lemmas.List.{map-set, get_or-map}
use Rattle.load_header.specs.Header.{HardwareAtView, hardware_at_view}
use Rattle.load_header.specs.declared.header.HardwareAt.{HardwareAt}
use Rattle.media_build.proofs.positions.Kinds.of_known.Goals as goal

pub invariant_of-result : goal.invariant_of-result
invariant_of-result c =
    c.requires.names
    ∙ sym (map-set_same (λ (k : HardwareAt). k.hardware) c.args.kinds.items c.args.index c.add_position.new.kind c.index_mut.result.now
    (c.in_ok-add_position.ensures.hardware ∙ ap (λ (k : HardwareAt). k.hardware) c.index_mut.ensures.value))

pub returns : goal.returns
returns c =
    let new = c.add_position.new.kind in
    let old = c.index_mut.result.now in
    let at = get_or-map hardware_at_view c.args.kinds.items c.args.index old (hardware_at_view new) c.requires.within ∙ ap hardware_at_view (sym c.index_mut.ensures.value) in
    record {
      kind = hardware_at_view new;
      hardware = c.in_ok-add_position.ensures.hardware ∙ sym (ap (λ (k : HardwareAtView). k.hardware) at);
      positions = c.in_ok-add_position.ensures.positions ∙ sym (ap (λ (k : HardwareAtView). k.positions ++ c.args.position.now ∷ []) at);
      is = map-set hardware_at_view c.args.kinds.items c.args.index new;
    }
