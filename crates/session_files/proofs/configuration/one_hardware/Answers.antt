use Rattle.std.proofs.Common.{◌≡◌, ℕ, List, [], ◌∷◌, ◌++◌, map, ap, subst, ◌∙◌}
use Rattle.std.proofs.lemmas.Result.{IfOk-weaker}
use Rattle.load_protocol_files.specs.declared.lcl.Hardware.{Hardware}
use Rattle.load_protocol_files.specs.Lcl.{LclSpells, hardware_view}
use Rattle.session_files.proofs.WrittenFiles.{is_lcl, is_writable, one_hardware, short_lcl}
use Rattle.session_files.proofs.configuration.one_hardware.Goals as goal

pub encode-requires : goal.encode-requires
encode-requires c =
    is_writable (record { hardware = c.push.new.self }) (record { name = c.args.name; serial = c.args.serial; parts = c.args.parts })
    (c.in_ok-push.ensures.ok ∙ ap (λ (list : List Hardware). list ++ record { name = c.args.name; serial = c.args.serial; parts = c.args.parts } ∷ []) c.new-hardware.ensures)
    c.as_slice-name.ensures.is_text c.as_slice-serial.ensures.is_text c.requires.few c.requires.fit

-- the list of a hardware alone
abbrev SpellsHardware : List ℕ → List Hardware → Type 0
SpellsHardware bytes list = LclSpells (record { hardware = map hardware_view list }) bytes

pub returns-clause-is : goal.returns-clause-is
returns-clause-is c =
    let one : Hardware = record { name = c.args.name; serial = c.args.serial; parts = c.args.parts } in
    let items : c.push.new.self.items ≡ one ∷ [] = c.in_ok-push.ensures.ok ∙ ap (λ (list : List Hardware). list ++ one ∷ []) c.new-hardware.ensures in
    IfOk-weaker c.encode.result _ _ (λ bytes spells. is_lcl (one_hardware c.args.name c.args.serial c.args.parts.items) bytes.items (subst (SpellsHardware bytes.items) items spells)) c.encode.ensures

pub returns-clause-short : goal.returns-clause-short
returns-clause-short c =
    let one : Hardware = record { name = c.args.name; serial = c.args.serial; parts = c.args.parts } in
    let items : c.push.new.self.items ≡ one ∷ [] = c.in_ok-push.ensures.ok ∙ ap (λ (list : List Hardware). list ++ one ∷ []) c.new-hardware.ensures in
    IfOk-weaker c.encode.result _ _
    (λ bytes spells.
    short_lcl c.args.name c.args.serial c.args.parts.items bytes.items (subst (SpellsHardware bytes.items) items spells) c.as_slice-name.ensures.is_text c.as_slice-serial.ensures.is_text
    c.requires.few c.requires.fit)
    c.encode.ensures
