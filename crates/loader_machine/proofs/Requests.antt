-- The request for some loads.
use Rattle.std.proofs.Common.{◌≡◌, ℕ, ◌+◌, List, [], ◌∷◌, ◌++◌, Result, Ok, Err, Some, None, length, refl, sym, ap, subst, ◌∙◌}
use Rattle.std.specs.List.{concat}
use Rattle.std.proofs.lemmas.List.{append_assoc, append-nil}
use Rattle.exchange_trace.specs.declared.trace.Side.{Side}
use Rattle.exchange_trace.specs.Happenings.{DatagramView}
use Rattle.tftp_packet.specs.declared.options.Options.{Options}
use Rattle.transfer_end.specs.Calls.{Makes}
use Rattle.transfer_end.specs.Moves.{Asks}
use Rattle.transfer_end.specs.Transfers.{Writes}
use Rattle.transfer_end.specs.Views.{EndView}
use Rattle.load_protocol_files.specs.declared.lur.Wanted.{Wanted}
use Rattle.load_protocol_files.specs.Files.{file_fields}
use Rattle.load_protocol_files.specs.Lur.{LurSpells, lur_fields}
use Rattle.field_grammar.specs.Fields.{number_bytes}
use Rattle.session_rules.specs.MediaFiles.{after_entry, entry_with, wanted_of}
use Rattle.session_rules.specs.Reports.{lur_file}

pub is_request : (loads : List Wanted) (bytes : List ℕ) → LurSpells (record { loads = loads }) bytes → bytes ≡ lur_file loads
unfolding file_fields lur_file
is_request loads bytes is = is.1.written ∙ append_assoc (number_bytes 4 (6 + length (concat (lur_fields (record { loads = loads }))))) (number_bytes 2 0x4133) (concat (lur_fields (record { loads = loads })))

-- a move with the same request
pub asks_so : (side : Side) (before after : EndView) (posts : List DatagramView) (name named file written : List ℕ) (options wanted : Options)
    → name ≡ named → options ≡ wanted → file ≡ written
    → Makes side (Asks (Writes name options file) ∷ []) before after posts → Makes side (Asks (Writes named wanted written) ∷ []) before after posts
asks_so side before after posts name named file written options wanted n o f makes =
    subst (λ x. Makes side (Asks (Writes x wanted written) ∷ []) before after posts) n
    (subst (λ x. Makes side (Asks (Writes name x written) ∷ []) before after posts) o (subst (λ x. Makes side (Asks (Writes name options x) ∷ []) before after posts) f makes))

-- these loads, and then what is listed of later parts
abbrev pub and_later : List Wanted → Result (List Wanted) (List ℕ) → Result (List Wanted) (List ℕ)
and_later loads (Ok later) = Ok (loads ++ later)
and_later loads (Err part) = Err part

module _ (entries : List Wanted) where
  -- what is listed of all parts, where these loads are listed so far, and this part isn't
  pub not_listed : (parts left : List (List ℕ)) (loads : List Wanted) (part : List ℕ) (later : List (List ℕ)) → wanted_of entries parts ≡ and_later loads (wanted_of entries left) → left ≡ part ∷ later
      → entry_with part entries ≡ None → wanted_of entries parts ≡ Err part
  not_listed parts left loads part later e is none = e ∙ ap (λ x. and_later loads (wanted_of entries x)) is ∙ rw none refl

  after_one : (loads : List Wanted) (load : Wanted) (later : Result (List Wanted) (List ℕ)) → and_later loads (after_entry load later) ≡ and_later (loads ++ load ∷ []) later
  after_one loads load (Ok later) = ap (λ x. Ok x) (sym (append_assoc loads (load ∷ []) later))
  after_one loads load (Err part) = refl

  pub one_more : (parts left : List (List ℕ)) (loads more : List Wanted) (load : Wanted) (part : List ℕ) (later : List (List ℕ)) → wanted_of entries parts ≡ and_later loads (wanted_of entries left)
      → left ≡ part ∷ later → entry_with part entries ≡ Some load → more ≡ loads ++ load ∷ [] → wanted_of entries parts ≡ and_later more (wanted_of entries later)
  one_more parts left loads more load part later e is found m =
      e ∙ ap (λ x. and_later loads (wanted_of entries x)) is ∙ rw (found, m) (after_one loads load (wanted_of entries later))

  pub all_listed : (parts left : List (List ℕ)) (loads : List Wanted) → wanted_of entries parts ≡ and_later loads (wanted_of entries left) → left ≡ [] → wanted_of entries parts ≡ Ok loads
  all_listed parts left loads e none = e ∙ ap (λ x. and_later loads (wanted_of entries x)) none ∙ ap (λ x. Ok x) (append-nil loads)
