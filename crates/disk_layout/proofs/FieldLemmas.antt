-- How the fields on a disk are spelled.
use Rattle.std.proofs.Common.{◌≡◌, ℕ, ◌+◌, List, [], ◌++◌, length, Bool, true, Option, Some, None, refl, sym, subst}
use Rattle.std.specs.Prelude.{is_none}
use Rattle.std.specs.List.{concat}
use Rattle.std.proofs.lemmas.List.{append-nil}
use Rattle.field_grammar.specs.Grammar.{Grammar}
use Rattle.field_grammar.specs.Spelling.{IsSpelledBy}
use Rattle.field_grammar.specs.declared.fault.FieldFault.{FieldFault}
use Rattle.disk_layout.specs.Fields.{sound}

-- another way to say which values fit
pub spelled-as : {F A : Type 0} (g : Grammar F A) (s : A → List (List ℕ)) (P Q : A → Type 0) → ((x : A) → P x → Q x) → ((x : A) → Q x → P x) → IsSpelledBy g s P → IsSpelledBy g s Q
spelled-as g s P Q there back one = record {
  to = λ before fields after value follows.
      let a = one.to before fields after value follows in
      (a.0, there value a.1);
  from = λ before after value fits. one.from before after value (back value fits);
}

-- a field that passes a test
pub spelled-sound : {F A : Type 0} (wrong : ℕ → F) (g : Grammar FieldFault A) (test : A → Bool) (s : A → List (List ℕ)) (P : A → Type 0)
    → IsSpelledBy g s P → IsSpelledBy (sound wrong g test) s (λ x. P x × (test x ≡ true))
spelled-sound {A = A} wrong g test s P one = record {
  to = λ before fields after value follows.
      let (b, f1, o1, parts1, h1, (x, f2, o2, parts2, fx, (u, f3, o3, parts3, h3, last))) = follows in
      let a = one.to (before ++ concat f1) f2 (length (concat o2) + after) x fx in
      let whole : fields ≡ s x = rw (parts1, h1.0, parts2, parts3, h3.0, last.0, a.0, append-nil) refl in
      subst (λ (v : A). (fields ≡ s v) × (P v × (test v ≡ true))) last.1 (whole, (a.1, h3.1));
  from = λ before after value fits. (
    before,
    [],
    s value,
    refl,
    (refl, refl),
    (value, s value, [], sym (append-nil (s value)), one.from (before ++ []) (0 + after) value fits.0, (tt, [], [], refl, (refl, fits.1), (refl, refl))),
  );
}

pub nothing_wrong : {E : Type 0} (found : Option E) → is_none found ≡ true → found ≡ None
nothing_wrong None e = refl
nothing_wrong (Some fault) e = absurd cc

pub no_fault : {E : Type 0} (found : Option E) → found ≡ None → is_none found ≡ true
no_fault found e = rw e refl
