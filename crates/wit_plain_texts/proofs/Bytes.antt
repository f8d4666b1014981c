-- No byte of an identifier is a mark.
use Rattle.std.proofs.Common.{◌≡◌, ℕ, Bool, true, false, List, [], ◌∷◌, ◌⊎◌, inl, inr, Option, Some, None, refl, sym, subst, ap, ◌∙◌}
use Rattle.std.specs.Prelude.{◌==◌, ◌||◌}
use Rattle.std.specs.Char.{is_ascii_digit, is_ascii_lowercase, is_ascii_uppercase}
use Rattle.wit_order.specs.Order.{Has}
use Rattle.wit_words.specs.declared.identifier.Part.{Part}
use Rattle.wit_words.specs.declared.identifier.Part.TheVariants.{Start, Hyphen, Digits, Small, Capital}
use Rattle.wit_words.specs.Identifier.{next, and_then, goes_on, is_identifier}
use Rattle.wit_plain_texts.specs.Plain.{IsWithout, IsPlain}
use Rattle.wit_plain_texts.specs.Law.{IdentifiersArePlain}

-- a byte behind which nothing goes on is none of the text
module _ (mark : ℕ) (stops : (p : Part) → next p mark ≡ None) where
  later : (text : List ℕ) (o : Option Part) → ((p : Part) → goes_on p text ≡ true → IsWithout mark text) → and_then o (λ after. goes_on after text) ≡ true → IsWithout mark text
  later text None more h = absurd cc
  later text (Some p) more h = more p h

  first : (p : Part) (b : ℕ) (text : List ℕ) → and_then (next p b) (λ after. goes_on after text) ≡ true → mark ≡ b → ⊥
  first p b text h same =
      let none : and_then (next p mark) (λ after. goes_on after text) ≡ false = ap (λ (o : Option Part). and_then o (λ after. goes_on after text)) (stops p) in
      let yes : and_then (next p mark) (λ after. goes_on after text) ≡ true = subst (λ (c : ℕ). and_then (next p c) (λ after. goes_on after text) ≡ true) (sym same) h in
      cc

  not_within : (p : Part) (text : List ℕ) → goes_on p text ≡ true → IsWithout mark text
  not_within p [] h has = has
  not_within p (b ∷ text) h (inl same) = first p b text h same
  not_within p (b ∷ text) h (inr more) = later text (next p b) (λ q k. not_within q text k) h more

no_colon : (p : Part) → next p 58 ≡ None
no_colon Start = refl
no_colon Hyphen = refl
no_colon Digits = refl
no_colon Small = refl
no_colon Capital = refl

no_slash : (p : Part) → next p 47 ≡ None
no_slash Start = refl
no_slash Hyphen = refl
no_slash Digits = refl
no_slash Small = refl
no_slash Capital = refl

no_at : (p : Part) → next p 64 ≡ None
no_at Start = refl
no_at Hyphen = refl
no_at Digits = refl
no_at Small = refl
no_at Capital = refl

pub identifiers_are_plain : IdentifiersArePlain
unfolding is_identifier
identifiers_are_plain text h = record { colon = not_within 58 no_colon Start text h; slash = not_within 47 no_slash Start text h; at = not_within 64 no_at Start text h }
