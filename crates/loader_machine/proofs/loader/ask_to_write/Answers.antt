use Rattle.std.proofs.Common.{[], ◌∷◌, length, ap, ◌∙◌}
use Rattle.exchange_trace.specs.declared.trace.Side.TheVariants as sides
use Rattle.exchange_trace.specs.Happenings.{datagram_view}
use Rattle.transfer_end.specs.Packets.{wanted_options}
use Rattle.session_rules.specs.declared.outcome.FileKind.TheVariants.{Lur}
use Rattle.session_rules.specs.FileNames.{file_name}
use Rattle.session_rules.specs.Reports.{lur_file}
use Rattle.loader_machine.proofs.Requests.{asks_so, is_request}
use Rattle.loader_machine.proofs.loader.ask_to_write.Goals as goal

pub returns : goal.returns
returns c =
    let start = c.args.start.now in
    let written = is_request start.request.loads.items c.in_ok-file.file.items c.in_ok-file.ensures.spells in
    asks_so sides.Loader c.args.end.now c.ask_to_write.new.self (datagram_view c.in_ok-ask_to_write.field-0 ∷ []) c.file_name-name.result (file_name start.hw start.pos Lur)
    c.in_ok-file.file.items (lur_file start.request.loads.items) c.wanted_options-options.result (wanted_options c.args.end.now.asks_size (length (lur_file start.request.loads.items)))
    c.file_name-name.ensures (c.wanted_options-options.ensures.is ∙ ap (λ n. wanted_options c.args.end.now.asks_size n) (c.len.ensures ∙ ap length written)) written c.in_ok-ask_to_write.ensures
