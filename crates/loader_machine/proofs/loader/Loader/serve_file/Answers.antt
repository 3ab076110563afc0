use Rattle.std.proofs.Common.{rules, [], ◌∷◌, Some, None, ◌∙◌, sym, ap, subst}
use Rattle.exchange_trace.specs.Happenings.{datagram_view}
use Rattle.media_check.specs.Sets.{bytes_of}
use Rattle.loader_machine.specs.Machine.{LoaderState}
use Rattle.transfer_end.specs.Calls.{Makes, posts_view}
use Rattle.transfer_end.specs.Moves.{Serves}
use Rattle.exchange_trace.specs.declared.trace.Side.TheVariants as sides
use Rattle.transfer_end.specs.Transfers.{ServesRead}
use Rattle.loader_machine.proofs.Serving.{makes_so, not_taken, reads, refuses, serves}
use Rattle.loader_machine.proofs.loader.Loader.serve_file.Goals as goal

pub returns-in_default : goal.returns-in_default
returns-in_default c = λ x live.
    reads c.args.self.now c.args.self.now x c.args.from c.args.name.now c.args.options (posts_view c.of.result) None (sym (c.serves_files.ensures x live) ∙ search rules) (sym (c.in_default.ensures.bytes ∙ ap (λ (st : LoaderState). bytes_of st.set c.args.name.now) c.self.view_is))
    (refuses _ c.args.self.now c.args.from (posts_view c.of.result) c.self.view_is (makes_so _ _ _ _ _ c.of.ensures c.in_ok-refusal.ensures))

pub returns-then-not-branch : goal.returns-then-not-branch
returns-then-not-branch c = λ x live.
    reads c.args.self.now c.may_serve.new.self x c.args.from c.args.name.now c.args.options (posts_view c.none-then-not-branch.result) (Some c.in-Some.file.now.items) (sym (c.serves_files.ensures x live) ∙ search rules) (sym (c.in-Some.ensures.bytes ∙ ap (λ (st : LoaderState). bytes_of st.set c.args.name.now) c.self.view_is))
    (not_taken c.args.self.now c.may_serve.new.self c.args.from (ServesRead c.args.name.now c.args.options c.in-Some.file.now.items) c.in_ok-may_serve.field-0 (posts_view c.none-then-not-branch.result)
    c.in_ok-may_serve.ensures c.if-not-branch.true c.none-then-not-branch.ensures)

pub returns : goal.returns
returns c = λ x live.
    reads c.args.self.now _ x c.args.from c.args.name.now c.args.options (posts_view c.of-2.result) (Some c.in-Some.file.now.items) (sym (c.serves_files.ensures x live) ∙ search rules) (sym (c.in-Some.ensures.bytes ∙ ap (λ (st : LoaderState). bytes_of st.set c.args.name.now) c.self.view_is))
    (serves _ c.may_serve.new.self c.args.self.now c.serve_read.new.self c.args.from (ServesRead c.args.name.now c.args.options c.in-Some.file.now.items) (posts_view c.of-2.result) c.in_ok-may_serve.field-0
    c.self-2.view_is c.in_ok-may_serve.ensures c.if-not-branch.false (makes_so _ _ _ _ _ c.of-2.ensures
    (subst (λ file. Makes sides.Loader (Serves c.args.from (ServesRead c.args.name.now c.args.options file) ∷ []) c.self-2.inside.end c.serve_read.new.self (datagram_view c.in_ok-post.post ∷ [])) c.as_slice.ensures
    (c.in_ok-post.ensures c.args.name.now))))
