-- The lines of a load, one more at a time.
use Rattle.std.proofs.Common.{◌≡◌, ℕ, ◌+◌, ◌<◌, List, [], ◌∷◌, ◌++◌, length, take, get_or, append-nil, sym, ap, ◌∙◌}
use Rattle.std.specs.Prelude.{map}
use Rattle.std.specs.List.{flat_map}
use Rattle.std.proofs.lemmas.List.{map-append, take_more}
use Rattle.std.proofs.lemmas.Grind.{flat_map-append}
use Rattle.media_build.specs.Building.{unread}
use Rattle.media_build.specs.Parts.{FileBytes, LoadFilesView, bytes_from, files_from, statements, with_file}
use Rattle.media_build.specs.RecipeSets.{data_in, support_in}
use Rattle.media_build.specs.declared.statements.FileLine.{FileLine}
use Rattle.media_build.specs.declared.statements.RecipeLine.{RecipeLine}
use Rattle.media_build.specs.declared.statements.Statement.{Statement}

-- what one more line says
pub statements_more : (own : List RecipeLine) (i : ℕ) (line : RecipeLine) → i < length own → line ≡ get_or own i line
    → statements (take (i + 1) own) ≡ statements (take i own) ++ line.statement ∷ []
statements_more own i line within is =
    ap statements (take_more own i line within ∙ ap (λ (last : RecipeLine). take i own ++ last ∷ []) (sym is)) ∙ map-append (λ (l : RecipeLine). l.statement) (take i own) (line ∷ [])

-- what one more line adds
pub said_more : {A : Type 0} (said : Statement → List A) (own : List RecipeLine) (i : ℕ) (line : RecipeLine) → i < length own → line ≡ get_or own i line
    → flat_map said (statements (take (i + 1) own)) ≡ flat_map said (statements (take i own)) ++ said line.statement
said_more said own i line within is =
    ap (λ (lines : List Statement). flat_map said lines) (statements_more own i line within is)
    ∙ (flat_map-append said (statements (take i own)) (line.statement ∷ []) ∙ ap (λ (last : List _). flat_map said (statements (take i own)) ++ last) (append-nil (said line.statement)))

abbrev kept : (Statement → List FileLine) → List RecipeLine → List FileBytes
kept said lines = map (bytes_from unread) (flat_map said (statements lines))

abbrev both : List FileBytes → List FileBytes → LoadFilesView
both d s = record { data_files = d; support_files = s }

-- one more line, of files without bytes
pub unread_more : (own : List RecipeLine) (i : ℕ) (line : RecipeLine) → i < length own → line ≡ get_or own i line
    → with_file (files_from unread (statements (take i own))) line.statement [] ≡ files_from unread (statements (take (i + 1) own))
unread_more own i line within is = sym (ap (λ (d : List FileBytes). both d (kept support_in (take (i + 1) own))) (more data_in) ∙ ap (λ (s : List FileBytes). both (kept data_in (take i own) ++ map (bytes_from unread) (data_in line.statement)) s) (more support_in))
  where
    more : (said : Statement → List FileLine) → map (bytes_from unread) (flat_map said (statements (take (i + 1) own)))
        ≡ map (bytes_from unread) (flat_map said (statements (take i own))) ++ map (bytes_from unread) (said line.statement)
    more said = ap (λ (lines : List FileLine). map (bytes_from unread) lines) (said_more said own i line within is) ∙ map-append (bytes_from unread) (flat_map said (statements (take i own))) (said line.statement)
