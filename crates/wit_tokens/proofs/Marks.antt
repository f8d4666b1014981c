-- What stands in front of a text: a byte order mark, or a `%`.
use Rattle.std.proofs.Common.{◌≡◌, ℕ, ◌+◌, eqb, [], ◌∷◌, length, drop, Option, Some, None, refl, sym, ap, ◌∙◌, arith, inl, inr}
use Rattle.std.specs.Option.{MatchOption}
use Rattle.std.specs.Str.Pattern.{FindsCharPrefix}
use Rattle.std.proofs.lemmas.Bool.{cases_Bool, eqb-true}
use Rattle.std.proofs.lemmas.Str.Pattern.{strip_prefix_char}
use denote.Ref.{Bor}
use lib.Utf8.{encode}
use Rattle.wit_tokens.specs.Lex.{Text, unmarked, without_mark}

abbrev Strips : ℕ → Text → Option (Bor Text) → Type 0
Strips c bs r = MatchOption r (FindsCharPrefix c bs None) (λ x. (n : ℕ) × FindsCharPrefix c bs (Some n) × (x.now ≡ drop n bs) × (length x.now + n ≡ length bs))

marked : (bs : Text) (x : Bor Text) → bs ≡ 37 ∷ x.now → x.now ≡ unmarked bs
marked bs x e = rw e refl

pub percent_some : (bs : Text) (x : Bor Text) → Strips 37 bs (Some x) → x.now ≡ unmarked bs
percent_some bs x h = marked bs x (strip_prefix_char 37 bs (Some x) h (omega arith))

pub percent_none : (bs : Text) → Strips 37 bs None → bs ≡ unmarked bs
percent_none [] h = refl
percent_none (b ∷ z) h = elim (cases_Bool (eqb b 37)) [
  | inl is ↦ absurd (strip_prefix_char 37 (b ∷ z) None h (omega arith) z (ap (λ c. c ∷ z) (eqb-true b 37 is)))
  | inr other ↦ rw other refl
]

pub mark_some : (at : ℕ) (bs : Text) (x : Bor Text) → Strips 65279 bs (Some x) → without_mark at bs ≡ (at + 3, x.now)
unfolding encode
mark_some at bs x h =
    let e : bs ≡ 239 ∷ 187 ∷ 191 ∷ x.now = h.1.split ∙ ap (λ l. 239 ∷ 187 ∷ 191 ∷ l) (sym h.2) in
    rw e refl

pub mark_length : (bs : Text) (x : Bor Text) → Strips 65279 bs (Some x) → 3 + length x.now ≡ length bs
unfolding encode
mark_length bs x h =
    let e : bs ≡ 239 ∷ 187 ∷ 191 ∷ x.now = h.1.split ∙ ap (λ l. 239 ∷ 187 ∷ 191 ∷ l) (sym h.2) in
    rw e (omega arith)

pub mark_none : (at : ℕ) (bs : Text) → Strips 65279 bs None → without_mark at bs ≡ (at, bs)
unfolding encode
mark_none at [] h = refl
mark_none at (a ∷ []) h = refl
mark_none at (a ∷ b ∷ []) h = refl
mark_none at (a ∷ b ∷ c ∷ z) h = elim (cases_Bool (eqb a 239)) [
  | inl is-a ↦ elim (cases_Bool (eqb b 187)) [
    | inl is-b ↦ elim (cases_Bool (eqb c 191)) [
      | inl is-c ↦ absurd (h z (rw (eqb-true a 239 is-a, eqb-true b 187 is-b, eqb-true c 191 is-c) refl))
      | inr other ↦ rw (is-a, is-b, other) refl
    ]
    | inr other ↦ rw (is-a, other) refl
  ]
  | inr other ↦ rw other refl
]
