-- The faults of fields, as those of protocol files.
use Rattle.field_grammar.specs.declared.fault.FieldFault.{FieldFault}
use Rattle.field_grammar.specs.declared.fault.FieldFault.TheVariants as fields
use Rattle.load_protocol_files.specs.declared.fault.FileFault.{FileFault}
use Rattle.load_protocol_files.specs.declared.fault.FileFault.TheVariants.{Short}

-- A field that doesn't fit. No field of these files has a pad.
abbrev pub named : FieldFault → FileFault
named (fields.Short offset) = Short offset
named (fields.BadPad offset) = Short offset
