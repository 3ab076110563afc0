-- A list of batches is spelled by its fields, and nothing stands after it.
use Rattle.std.proofs.Common.{◌≡◌, ℕ, ◌+◌, [], ◌++◌, length, refl, subst, arith}
use Rattle.std.specs.List.{concat}
use Rattle.field_grammar.specs.Grammar.{EndsTheBytes}
use Rattle.field_grammar.proofs.ExactLemmas.{ends_renamed}
use Rattle.field_grammar.specs.Spelling.{IsSpelledBy, SpellsWhole}
use Rattle.field_grammar.specs.Fields.{number_fields, padded_fields}
use Rattle.media_lists.specs.Lists.{media_list}
use Rattle.media_lists.specs.ListFields.{list_fields}
use Rattle.media_lists.proofs.PieceLemmas.{spelled-member_of, spelled-name, spelled-part}
use Rattle.media_lists.proofs.SpelledLemmas.{HasEntries, spells-list, ends-media_list}
use Rattle.batch_lists.specs.BatchFaults.{batches_fault}
use Rattle.batch_lists.specs.Batches.{batch_body, batch_file, batch_entries, batches_list, batch_body_fields, IsListedBatch, IsBatchesList}
use Rattle.batch_lists.specs.declared.batches.BatchEntry.{BatchEntry}
use Rattle.batch_lists.proofs.BatchesSizes.{even_batch}

spelled-batch_body : (members : ℕ) → IsSpelledBy (batch_body members) batch_body_fields (IsListedBatch members)
unfolding batch_body batch_body_fields
spelled-batch_body members = record {
  to = λ before fields after value follows.
      let (number, f1, o1, e1, h1, (title, f2, o2, e2, h2, (member, f3, o3, e3, h3, last))) = follows in
      let a = spelled-part.to before f1 (length (concat o1) + after) number h1 in
      let b = spelled-name.to (before ++ concat f1) f2 (length (concat o2) + after) title h2 in
      let c = (spelled-member_of members).to ((before ++ concat f1) ++ concat f2) f3 (length (concat o3) + after) member h3 in
      let is : BatchEntry = record { part = number; file = title; member = member } in
      let whole : fields ≡ batch_body_fields is = rw (e1, e2, e3, last.0, a.0, b.0, c.0) refl in
      let fits : IsListedBatch members is = record { part = a.1; file = b.1; member = c.1 } in
      subst (λ (v : BatchEntry). (fields ≡ batch_body_fields v) × IsListedBatch members v) last.1 (whole, fits);
  from = λ before after value fits. (
    value.part,
    padded_fields value.part,
    padded_fields value.file ++ number_fields 2 value.member,
    refl,
    spelled-part.from _ _ value.part fits.part,
    (
      value.file,
      padded_fields value.file,
      number_fields 2 value.member,
      refl,
      spelled-name.from _ _ value.file fits.file,
      (value.member, number_fields 2 value.member, [], refl, (spelled-member_of members).from _ _ value.member fits.member, (refl, refl)),
    ),
  );
}

has_batches : HasEntries batch_body batch_body_fields IsListedBatch
has_batches = record { even = even_batch; spelled = spelled-batch_body }

spells-entries : SpellsWhole (media_list 0xB004 batch_entries) (list_fields 0xB004 batch_body_fields) IsBatchesList
spells-entries = spells-list 0xB004 batch_body batch_file batch_body_fields IsListedBatch (omega arith) has_batches

pub spells-batches_list : SpellsWhole batches_list (list_fields 0xB004 batch_body_fields) IsBatchesList
spells-batches_list = record { to = λ fields after value follows. spells-entries.to fields after value follows; from = λ value fits. spells-entries.from value fits }

pub ends-batches_list : EndsTheBytes batches_list
ends-batches_list = ends_renamed batches_fault (media_list 0xB004 batch_entries) (ends-media_list _ _)
