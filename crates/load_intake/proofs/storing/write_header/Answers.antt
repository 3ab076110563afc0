use Rattle.std.proofs.Common.{arith, [], ℕ, List, Some, Ok, length, ◌+◌, ◌≡◌, length-append, subst}
use Rattle.bank_store.specs.Store.{bank_size_of}
use Rattle.disk_layout.specs.Manifest.{LoadEntry}
use Rattle.load_header.specs.Header.{header_view}
use Rattle.session_rules.specs.Uploads.{files_of}
use Rattle.bank_store.specs.Given.{with_bytes, with_file, with_load}
use Rattle.load_intake.specs.declared.down.Down.{Down}
use Rattle.load_intake.specs.Contents.{GivesContents}
use Rattle.load_intake.proofs.Filling.{gives_fails, gives_more}
use Rattle.load_intake.proofs.Going.{continued, then_on}
use Rattle.load_intake.proofs.Sizes.{total_more}
use Rattle.load_intake.proofs.Steps.{awaits_end, awaits_file, header_there, room}
use Rattle.load_intake.proofs.storing.write_header.Goals as goal

pub append-requires-clause-awaits : goal.append-requires-clause-awaits
append-requires-clause-awaits g c = awaits_file c.start_load.new.store _ _ _ (c.start_load.ensures.has c.args.whole.now.loads c.requires.can.has) (omega arith)

pub append-requires-clause-room : goal.append-requires-clause-room
append-requires-clause-room g c =
    let has = c.start_load.ensures.has c.args.whole.now.loads c.requires.can.has in
    let begun : LoadEntry = record { part = c.text.result; type_id = Some c.args.header.now.type_id; files = [] } in
    let same : bank_size_of c.start_load.new.store ≡ bank_size_of c.args.store.now = c.start_load.ensures.continues.active.size in
    room c.start_load.new.store _ _ 0 (length c.args.bytes.now) has (omega (arith, same, c.requires.can.room, total_more c.args.whole.now.loads begun))

pub end_file-requires : goal.end_file-requires
end_file-requires g c =
    let has = c.in_ok-append.ensures.has _ _ _ (c.start_load.ensures.has c.args.whole.now.loads c.requires.can.has) in
    record { awaits = awaits_end c.append.new.store _ _ _ has (omega arith) (omega (arith, c.requires.can.short)) }

pub returns-clause-has : goal.returns-clause-has
returns-clause-has g c =
    let has = c.in_ok-append.ensures.has _ _ _ (c.start_load.ensures.has c.args.whole.now.loads c.requires.can.has) in
    let few : c.len.result + c.len-2.result ≡ length (files_of (header_view c.args.header.now)) =
    omega (arith, c.len.ensures, c.len-2.ensures, length-append c.args.header.now.data_files.items c.args.header.now.support_files.items) in
    header_there c.end_file.new.store c.args.whole.now.loads c.args.wanted.now c.text.result c.args.header.now.type_id (length c.args.bytes.now) _ _ c.text.ensures few
    (c.end_file.ensures.has c.args.whole.now.loads (record { part = c.text.result; type_id = Some c.args.header.now.type_id; files = [] }) (c.len.result + c.len-2.result) (0 + length c.args.bytes.now) has)

pub returns-clause-goes_on : goal.returns-clause-goes_on
returns-clause-goes_on g c =
    then_on _ _ _ _ _ _ (continued _ _ _ c.start_load.ensures.continues c.requires.running)
    (then_on _ _ _ _ _ _ c.in_ok-append.ensures.goes_on (continued _ _ _ c.end_file.ensures.continues c.in_ok-append.ensures.goes_on.running))

pub returns-in_err-append-clause-gives : goal.returns-in_err-append-clause-gives
returns-in_err-append-clause-gives g c = λ s given is.
    gives_fails (g.K.Disk.state c.args.disk.now) c.append.new.store c.append.new.store (g.K.Disk.state c.append.new.disk) s _ _ c.append.result c.from_residual.result c.from_residual.ensures.0
    (c.append.ensures.gives s _ (gives_more c.args.store.now c.start_load.new.store (g.K.Disk.state c.args.disk.now) s given _ c.start_load.ensures.continues (λ image has. c.start_load.ensures.given image given has) is))

pub returns-clause-gives : goal.returns-clause-gives
returns-clause-gives g c = λ s given is.
    let n = length (files_of (header_view c.args.header.now)) in
    let few : c.len.result + c.len-2.result + 1 ≡ n + 1 = omega (arith, c.len.ensures, c.len-2.ensures, length-append c.args.header.now.data_files.items c.args.header.now.support_files.items) in
    let begun = gives_more c.args.store.now c.start_load.new.store (g.K.Disk.state c.args.disk.now) s given _ c.start_load.ensures.continues (λ image has. c.start_load.ensures.given image given has) is in
    let wrote = c.in_ok-append.ensures.gives s _ begun in
    let ended = gives_more c.append.new.store c.end_file.new.store (g.K.Disk.state c.append.new.disk) s _ _ c.end_file.ensures.continues (λ image has. c.end_file.ensures.given image _ has) wrote.ok in
    subst (λ (part : List ℕ). GivesContents {E = Down} (g.K.Disk.state c.args.disk.now) c.end_file.new.store (g.K.Disk.state c.append.new.disk) s (with_file c.args.wanted.now.header (with_bytes c.args.bytes.now (with_load part c.args.header.now.type_id (n + 1) given))) (Ok tt)) c.text.ensures
    (subst (λ (k : ℕ). GivesContents {E = Down} (g.K.Disk.state c.args.disk.now) c.end_file.new.store (g.K.Disk.state c.append.new.disk) s (with_file c.args.wanted.now.header (with_bytes c.args.bytes.now (with_load c.text.result c.args.header.now.type_id k given))) (Ok tt)) few
    (record { adds = wrote.adds; ok = ended }))
