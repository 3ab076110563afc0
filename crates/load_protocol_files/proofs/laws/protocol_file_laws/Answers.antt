use Rattle.load_protocol_files.specs.Lci.{lci_body, lci_fields, LciFits}
use Rattle.load_protocol_files.specs.Lcl.{lcl_body, lcl_fields, LclFits}
use Rattle.load_protocol_files.specs.Lcs.{lcs_body, lcs_fields, LcsFits}
use Rattle.load_protocol_files.specs.Lui.{lui_body, lui_fields, LuiFits}
use Rattle.load_protocol_files.specs.Lur.{lur_body, lur_fields, LurFits}
use Rattle.load_protocol_files.specs.Lus.{lus_body, lus_fields, LusFits}
use Rattle.load_protocol_files.specs.Laws.Replies.{spelled-lci, spelled-lui}
use Rattle.load_protocol_files.specs.Laws.Lcl.{spelled-lcl}
use Rattle.load_protocol_files.specs.Laws.Lcs.{spelled-lcs}
use Rattle.load_protocol_files.specs.Laws.Lur.{spelled-lur}
use Rattle.load_protocol_files.specs.Laws.Lus.{spelled-lus}
use Rattle.load_protocol_files.proofs.FileSpellings.{exact_of}
use Rattle.load_protocol_files.proofs.laws.protocol_file_laws.Goals as goal

pub returns-clause-lci : goal.returns-clause-lci
returns-clause-lci c = exact_of lci_body lci_fields (λ v. LciFits v) spelled-lci

pub returns-clause-lcl : goal.returns-clause-lcl
returns-clause-lcl c = exact_of lcl_body lcl_fields (λ v. LclFits v) spelled-lcl

pub returns-clause-lcs : goal.returns-clause-lcs
returns-clause-lcs c = exact_of lcs_body lcs_fields (λ v. LcsFits v) spelled-lcs

pub returns-clause-lui : goal.returns-clause-lui
returns-clause-lui c = exact_of lui_body lui_fields (λ v. LuiFits v) spelled-lui

pub returns-clause-lur : goal.returns-clause-lur
returns-clause-lur c = exact_of lur_body lur_fields (λ v. LurFits v) spelled-lur

pub returns-clause-lus : goal.returns-clause-lus
returns-clause-lus c = exact_of lus_body lus_fields (λ v. LusFits v) spelled-lus
