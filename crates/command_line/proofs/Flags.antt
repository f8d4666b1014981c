-- What a flag's text says of the flag.
use Rattle.std.proofs.Common.{◌≡◌, Bool, true, false, List, ℕ, Option, Some, None, refl, sym, ap, inl, inr, codes}
use Rattle.std.specs.Prelude.{unwrap_or, bytes_eq}
use Rattle.std.specs.Option.{option_map_or}
use Rattle.std.specs.Str.Parse.{ParsesBool}
use Rattle.std.proofs.lemmas.Bool.{cases_Bool}
use Rattle.std.proofs.lemmas.Slice.Eq.{bytes_eq-Decides}
use Rattle.clap.specs.Words.{ReadsOne}

-- a text that is read as a `bool`, and false where it is none, is `true` or isn't
pub flag_read : (E : Type 0) (text : Option (List ℕ)) (r : Option Bool) → (text ≡ None → r ≡ None) → ((t : List ℕ) → text ≡ Some t → ReadsOne (ParsesBool {E = E}) t r)
    → unwrap_or r false ≡ option_map_or (λ t. bytes_eq t (codes "true")) text false
flag_read E None r none value = ap (λ o. unwrap_or o false) (none refl)
flag_read E (Some t) (Some true) none value = sym (ap (λ t. bytes_eq t (codes "true")) (value t refl))
flag_read E (Some t) (Some false) none value = sym (ap (λ t. bytes_eq t (codes "true")) (value t refl))
flag_read E (Some t) None none value = elim (cases_Bool (bytes_eq t (codes "true"))) [
  | inl same ↦ absurd ((value t refl).1.0 ((bytes_eq-Decides t (codes "true")).0 same))
  | inr other ↦ sym other
]
