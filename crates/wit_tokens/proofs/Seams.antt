-- A text may be cut behind each lexeme.
use Rattle.std.proofs.Common.{◌≡◌, ℕ, zero, suc, ◌+◌, ◌-◌, ◌<◌, ◌≤◌, Bool, true, false, eqb, ◌&&◌, add-one, [], ◌∷◌, length, take, get_or, Option, Some, None, Ok, Err, refl, sym, ap, subst, arith, inl, inr}
use Rattle.std.specs.Prelude.{◌⊎◌}
use Rattle.std.specs.List.{prefix_len}
use Rattle.std.specs.Str.{IsUtf8, IsCharBoundary}
use Rattle.std.proofs.lemmas.Bool.{cases_Bool, cases_lt, eqb-true}
use Rattle.std.proofs.lemmas.Bool.Decides.{nat_tests}
use Rattle.std.proofs.lemmas.List.{get_or-take}
use Rattle.std.proofs.lemmas.Str.{IsCharBoundary-end, IsCharBoundary-before_ascii, IsCharBoundary-after_ascii}
use Rattle.wit_tokens.specs.declared.lex.Class.{Class}
use Rattle.wit_tokens.specs.declared.lex.Class.TheVariants as class
use Rattle.wit_tokens.specs.declared.lex.Lexeme.{Lexeme}
use Rattle.wit_tokens.specs.declared.lex.Lexeme.TheVariants as lexeme
use Rattle.wit_words.specs.declared.token.Kind.TheVariants as kind
use Rattle.wit_tokens.specs.Lex.{Text, Cut, is_in, comment_from, closed, slash, minus, percent, sign, version_or_number, lexeme_at}
use Rattle.wit_words.specs.Version.{version_len}
use Rattle.wit_words.proofs.Versions.{version_found, version_within, version_ascii}

-- the byte before a place, and prev at the front
abbrev before : ℕ → ℕ → Text → ℕ
before prev zero z = prev
before prev (suc n) [] = 0
before prev (suc n) (b ∷ z) = before b n z

before-get : (prev n : ℕ) (z : Text) → before prev n z ≡ get_or (prev ∷ z) n 0
before-get prev zero z = refl
before-get prev (suc n) [] = refl
before-get prev (suc n) (b ∷ z) = before-get b n z

run_ends : (p : ℕ → Bool) → ((b : ℕ) → p b ≡ true → b < 128) → (prev : ℕ) (z : Text) → prev < 128 → before prev (prefix_len p z) z < 128
run_ends p ascii prev [] h = h
run_ends p ascii prev (b ∷ z) h = elim (cases_Bool (p b)) [
  | inl is ↦ let e : 1 + prefix_len p z ≡ suc (prefix_len p z) = omega arith in rw (is, e) (run_ends p ascii b z (ascii b is))
  | inr other ↦ rw other h
]

run_stops : (p : ℕ → Bool) (z : Text) → (prefix_len p z ≡ length z) ⊎ ((prefix_len p z < length z) × (p (get_or z (prefix_len p z) 0) ≡ false))
run_stops p [] = inl refl
run_stops p (b ∷ z) = elim (cases_Bool (p b)) [
  | inl is ↦
      let e : 1 + prefix_len p z ≡ suc (prefix_len p z) = omega arith in
      rw (is, e) (elim (run_stops p z) [ inl all ↦ inl (ap suc all) | inr some ↦ inr (omega arith, some.1) ])
  | inr other ↦ rw other (inr (omega arith, other))
]

run_within : (p : ℕ → Bool) (z : Text) → prefix_len p z ≤ length z
run_within p z = elim (run_stops p z) [ inl all ↦ omega arith | inr some ↦ omega (arith, some.0) ]

word_ascii : (b : ℕ) → is_in class.Word b ≡ true → b < 128
word_ascii b e = grind (arith, nat_tests)

digit_ascii : (b : ℕ) → is_in class.Digit b ≡ true → b < 128
digit_ascii b e = grind (arith, nat_tests)

letter_ascii : (b : ℕ) → is_in class.Letter b ≡ true → b < 128
letter_ascii b e = grind (arith, nat_tests)

blank_ascii : (b : ℕ) → is_in class.Blank b ≡ true → b < 128
blank_ascii b e = grind (arith, nat_tests)

line_end : (b : ℕ) → is_in class.Line b ≡ false → b < 128
line_end b e = grind (arith, nat_tests)

sign_ascii : (b : ℕ) → 128 ≤ b → sign b ≡ Err Rattle.wit_words.specs.declared.fault.Rule.TheVariants.BadCharacter
sign_ascii b h = grind (arith, nat_tests)

abbrev Ends : ℕ → ℕ → Text → ℕ → Type 0
Ends at prev z n = (k : ℕ) × (n ≡ at + k) × (0 < k) × (k ≤ length z) × (before prev k z ≡ 47)

one_more : (at prev b : ℕ) (z : Text) (n : ℕ) → Ends (at + 1) b z n → Ends at prev (b ∷ z) n
one_more at prev b z n (k, is, some, fits, last) = (suc k, omega arith, omega arith, omega arith, last)

closes : (l b : ℕ) → (eqb l 42 && eqb b 47) ≡ true → b ≡ 47
closes l b e = grind (arith, nat_tests)

some_is : (m n : ℕ) → Some m ≡ Some n → m ≡ n
some_is m n e = cc

comment_ends : (depth last at : ℕ) (z : Text) (n prev : ℕ) → comment_from depth last at z ≡ Some n → Ends at prev z n
comment_ends depth last at [] n prev e = absurd cc
comment_ends depth last at (b ∷ z) n prev e = elim (cases_Bool (eqb last 42 && eqb b 47)) [
  | inl closing ↦ elim (cases_Bool (eqb depth 1)) [
    | inl outer ↦ let is : at + 1 ≡ n = some_is (at + 1) n (rw (closing, outer) at e) in (1, sym is, omega arith, omega arith, closes last b closing)
    | inr inner ↦ one_more at prev b z n (comment_ends (depth - 1) 0 (at + 1) z n b (rw (closing, inner) at e))
  ]
  | inr going ↦ elim (cases_Bool (eqb last 47 && eqb b 42)) [
    | inl opening ↦ one_more at prev b z n (comment_ends (depth + 1) 0 (at + 1) z n b (rw (going, opening) at e))
    | inr other ↦ one_more at prev b z n (comment_ends depth b (at + 1) z n b (rw (going, other) at e))
  ]
]

-- ---- the front

after_ascii : (b : ℕ) (z : Text) (k : ℕ) → IsUtf8 (b ∷ z) → k ≤ length z → before b k z < 128 → IsCharBoundary (b ∷ z) (suc k)
after_ascii b z k utf8 fits last =
    subst (λ n. IsCharBoundary (b ∷ z) n) (add-one k) (IsCharBoundary-after_ascii (b ∷ z) k utf8 (omega arith) (rw (← before-get b k z) last))

abbrev cut : Lexeme × ℕ → Cut
cut x = Ok x

cut_is : (x y : Lexeme × ℕ) → cut x ≡ cut y → x.1 ≡ y.1
cut_is x y e = let q : x ≡ y = cc in ap (λ (p : Lexeme × ℕ). p.1) q

run_cut : (c : Class) (l : Lexeme) (b : ℕ) (z : Text) (x : Lexeme × ℕ) → ((d : ℕ) → is_in c d ≡ true → d < 128) → b < 128 → IsUtf8 (b ∷ z) → prefix_len (is_in c) z ≤ length z
    → cut (l, 1 + prefix_len (is_in c) z) ≡ Ok x → IsCharBoundary (b ∷ z) x.1
run_cut c l b z x ascii first utf8 fits e =
    let n : 1 + prefix_len (is_in c) z ≡ x.1 = cut_is (l, 1 + prefix_len (is_in c) z) x e in
    let k : x.1 ≡ suc (prefix_len (is_in c) z) = omega arith in
    rw k (after_ascii b z (prefix_len (is_in c) z) utf8 fits (run_ends (is_in c) ascii b z first))

one_cut : (l : Lexeme) (b : ℕ) (z : Text) (x : Lexeme × ℕ) → b < 128 → IsUtf8 (b ∷ z) → cut (l, 1) ≡ Ok x → IsCharBoundary (b ∷ z) x.1
one_cut l b z x first utf8 e =
    let n : 1 ≡ x.1 = cut_is (l, 1) x e in rw (← n) (after_ascii b z 0 utf8 (omega arith) first)

slash_cut : (b : ℕ) (z : Text) (x : Lexeme × ℕ) → b < 128 → IsUtf8 (b ∷ z) → slash z ≡ Ok x → IsCharBoundary (b ∷ z) x.1
slash_cut b [] x first utf8 e = one_cut (lexeme.Plain kind.Slash) b [] x first utf8 e
slash_cut b (c ∷ y) x first utf8 e = elim (cases_Bool (eqb c 47)) [
  | inl line ↦
      let n : 2 + prefix_len (is_in class.Line) y ≡ x.1 = cut_is (lexeme.Comment, 2 + prefix_len (is_in class.Line) y) x (rw line at e) in
      elim (run_stops (is_in class.Line) y) [
        | inl all ↦ let k : x.1 ≡ length (b ∷ c ∷ y) = omega arith in rw k (IsCharBoundary-end (b ∷ c ∷ y))
        | inr some ↦
            let k : x.1 ≡ suc (suc (prefix_len (is_in class.Line) y)) = omega arith in
            rw k (IsCharBoundary-before_ascii (b ∷ c ∷ y) (suc (suc (prefix_len (is_in class.Line) y))) (omega arith) (line_end _ some.1))
      ]
  | inr other ↦ elim (cases_Bool (eqb c 42)) [
    | inl opening ↦ comment_cut (comment_from 1 0 0 y) refl (rw (other, opening) at e)
    | inr sign ↦ one_cut (lexeme.Plain kind.Slash) b (c ∷ y) x first utf8 (rw (other, sign) at e)
  ]
]
  where
    comment_cut : (o : Option ℕ) → comment_from 1 0 0 y ≡ o → closed o ≡ Ok x → IsCharBoundary (b ∷ c ∷ y) x.1
    comment_cut None is e = absurd cc
    comment_cut (Some n) is e =
        let (k, n-is, some, fits, last) = comment_ends 1 0 0 y n c is in
        let m : 2 + n ≡ x.1 = cut_is (lexeme.Comment, 2 + n) x e in
        let l : x.1 ≡ suc (suc k) = omega arith in
        rw l (after_ascii b (c ∷ y) (suc k) utf8 (omega arith) (omega (arith, last)))

minus_cut : (b : ℕ) (z : Text) (x : Lexeme × ℕ) → b < 128 → IsUtf8 (b ∷ z) → minus z ≡ Ok x → IsCharBoundary (b ∷ z) x.1
minus_cut b [] x first utf8 e = absurd cc
minus_cut b (c ∷ y) x first utf8 e = elim (cases_Bool (eqb c 62)) [
  | inl arrow ↦
      let n : 2 ≡ x.1 = cut_is (lexeme.Plain kind.RightArrow, 2) x (rw arrow at e) in
      rw (← n) (after_ascii b (c ∷ y) 1 utf8 (omega arith) (let is = eqb-true c 62 arrow in omega arith))
  | inr other ↦ absurd (let bad = rw other at e in cc)
]

percent_cut : (b : ℕ) (z : Text) (x : Lexeme × ℕ) → IsUtf8 (b ∷ z) → percent z ≡ Ok x → IsCharBoundary (b ∷ z) x.1
percent_cut b [] x utf8 e = absurd cc
percent_cut b (c ∷ y) x utf8 e = elim (cases_Bool (is_in class.Letter c)) [
  | inl letter ↦
      let n : 2 + prefix_len (is_in class.Word) y ≡ x.1 = cut_is (lexeme.Marked, 2 + prefix_len (is_in class.Word) y) x (rw letter at e) in
      let k : x.1 ≡ suc (suc (prefix_len (is_in class.Word) y)) = omega arith in
      let fits = run_within (is_in class.Word) y in
      rw k (after_ascii b (c ∷ y) (suc (prefix_len (is_in class.Word) y)) utf8 (omega (arith, fits)) (run_ends (is_in class.Word) word_ascii c y (letter_ascii c letter)))
  | inr other ↦ absurd (let bad = rw other at e in cc)
]

sign_cut : (b : ℕ) (z : Text) (x : Lexeme × ℕ) → x.1 ≡ 1 → IsUtf8 (b ∷ z) → sign b ≡ Ok x → IsCharBoundary (b ∷ z) x.1
sign_cut b z x one utf8 e = elim (cases_lt b 128) [
  | inl first ↦ rw one (after_ascii b z 0 utf8 (omega arith) first)
  | inr high ↦ absurd (let bad = sign_ascii b high in cc)
]

sign_one : (b : ℕ) (x : Lexeme × ℕ) → sign b ≡ Ok x → x.1 ≡ 1
sign_one b x e = grind (arith, nat_tests)

version_boundary : (z : Text) (n : ℕ) → IsUtf8 z → version_len z ≡ Some n → IsCharBoundary z n
version_boundary z zero utf8 e = absurd (let w = version_within z 0 e in omega (arith, w.0))
version_boundary z (suc m) utf8 e =
    let w = version_within z (suc m) e in
    let ascii = version_ascii (take (suc m) z) (version_found z (suc m) e).version in
    subst (λ n. IsCharBoundary z n) (add-one m) (IsCharBoundary-after_ascii z m utf8 (omega (arith, w.1)) (omega (arith, get_or-take (suc m) z m 0 (omega arith), ascii m)))

digits_cut : (b : ℕ) (z : Text) (x : Lexeme × ℕ) → IsUtf8 (b ∷ z) → is_in class.Digit b ≡ true → (o : Option ℕ) → version_len (b ∷ z) ≡ o → version_or_number o (b ∷ z) ≡ Ok x → IsCharBoundary (b ∷ z) x.1
digits_cut b z x utf8 digit (Some n) is e =
    let k : n ≡ x.1 = cut_is (lexeme.Version, n) x e in
    rw (← k) (version_boundary (b ∷ z) n utf8 is)
digits_cut b z x utf8 digit None is e =
    run_cut class.Digit lexeme.Number b z x digit_ascii (digit_ascii b digit) utf8 (run_within (is_in class.Digit) z) (rw digit at e)

pub front_cut : (z : Text) (x : Lexeme × ℕ) → IsUtf8 z → x.1 ≤ length z → lexeme_at z ≡ Ok x → IsCharBoundary z x.1
unfolding lexeme_at
front_cut [] x utf8 fits e = absurd cc
front_cut (b ∷ z) x utf8 fits e = elim (cases_Bool (is_in class.Blank b)) [
  | inl blank ↦ one_cut lexeme.Blank b z x (blank_ascii b blank) utf8 (rw blank at e)
  | inr a ↦ elim (cases_Bool (is_in class.Letter b)) [
    | inl letter ↦ run_cut class.Word lexeme.Word b z x word_ascii (letter_ascii b letter) utf8 (run_within (is_in class.Word) z) (rw (a, letter) at e)
    | inr c ↦ elim (cases_Bool (is_in class.Digit b)) [
      | inl digit ↦ digits_cut b z x utf8 digit (version_len (b ∷ z)) refl (rw (a, c, digit) at e)
      | inr d ↦ elim (cases_Bool (eqb b 47)) [
        | inl slash ↦ slash_cut b z x (let is = eqb-true b 47 slash in omega arith) utf8 (rw (a, c, d, slash) at e)
        | inr f ↦ elim (cases_Bool (eqb b 45)) [
          | inl minus ↦ minus_cut b z x (let is = eqb-true b 45 minus in omega arith) utf8 (rw (a, c, d, f, minus) at e)
          | inr g ↦ elim (cases_Bool (eqb b 37)) [
            | inl percent ↦ percent_cut b z x utf8 (rw (a, c, d, f, g, percent) at e)
            | inr h ↦ let s = rw (a, c, d, f, g, h) at e in sign_cut b z x (sign_one b x s) utf8 s
          ]
        ]
      ]
    ]
  ]
]
