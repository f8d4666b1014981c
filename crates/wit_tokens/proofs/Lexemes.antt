-- What stands for a lexeme is cut, and what is cut stands for one.
use Rattle.std.proofs.Common.{◌≡◌, ℕ, suc, ◌+◌, ◌-◌, ◌≤◌, true, false, eqb, ◌&&◌, List, [], ◌∷◌, ◌++◌, length, take, drop, Option, Some, None, Result, Ok, Err, refl, sym, ap, subst, ◌∙◌, arith, inl, inr, length-append, length-take, take-append-drop}
use Rattle.std.specs.List.{prefix_len}
use Rattle.std.proofs.lemmas.Bool.{cases_Bool, eqb-true}
use Rattle.std.proofs.lemmas.Bool.Decides.{nat_tests}
use Rattle.std.proofs.lemmas.List.{take_at, drop_at}
use Rattle.wit_words.specs.declared.fault.Rule.{Rule}
use Rattle.wit_tokens.specs.declared.lex.Class.{Class}
use Rattle.wit_tokens.specs.declared.lex.Class.TheVariants as class
use Rattle.wit_tokens.specs.declared.lex.Lexeme.{Lexeme}
use Rattle.wit_tokens.specs.declared.lex.Lexeme.TheVariants as lexeme
use Rattle.wit_words.specs.declared.token.Kind.{Kind}
use Rattle.wit_words.specs.declared.token.Kind.TheVariants as kind
use Rattle.wit_words.specs.declared.fault.Rule.TheVariants.{BadCharacter}
use Rattle.wit_words.specs.declared.fault.SyntaxFault.{SyntaxFault}
use Rattle.wit_words.specs.declared.fault.SyntaxFault.TheVariants as faults
use Rattle.wit_words.specs.declared.source_map.Span.{Span}
use Rattle.wit_words.specs.Outcome.{AnswersText}
use Rattle.wit_words.specs.Token.{Tok}
use Rattle.wit_tokens.specs.Lex.{Text, Cut, is_in, comment_from, closed, slash, minus, percent, sign, digits, version_or_number, lexeme_at, Piece, piece_of, span_of, Reading, broken_span, stops, read_piece, read_bare, read, GivesReading}
use Rattle.wit_words.specs.Version.{IsVersion, IsVersionFront, HasNoVersion, version_len}
use Rattle.wit_words.proofs.Versions.{version_found, version_only, no_version_found, no_version_only, version_digit}
use Rattle.wit_tokens.proofs.Comments.{comment_scanned, comment_inside}
use Rattle.wit_tokens.proofs.LexLaws.{read_from-drop, drop-cons}
use Rattle.wit_tokens.specs.Lexical.{IsRun, IsSign, IsLexeme, Adds, Lexes, LexesText, ends, goes}

abbrev cut : Lexeme → ℕ → Cut
cut l n = Ok (l, n)

run_only : (c : Class) (x rest : Text) → IsRun c x rest → prefix_len (is_in c) (x ++ rest) ≡ length x
run_only c [] [] r = refl
run_only c [] (b ∷ z) r = rw r.1 refl
run_only c (b ∷ x) rest r =
    let same = run_only c x rest (r.0.1, r.1) in
    rw r.0.0 (omega arith)

letter_blank : (b : ℕ) → is_in class.Letter b ≡ true → is_in class.Blank b ≡ false
letter_blank b e = grind (arith, nat_tests)

digit_blank : (b : ℕ) → is_in class.Digit b ≡ true → is_in class.Blank b ≡ false
digit_blank b e = grind (arith, nat_tests)

digit_letter : (b : ℕ) → is_in class.Digit b ≡ true → is_in class.Letter b ≡ false
digit_letter b e = grind (arith, nat_tests)

-- a comment that ends is one, whatever follows
comment_only : (depth last at : ℕ) (y rest : Text) (n : ℕ) → comment_from depth last at y ≡ Some n → comment_from depth last at (y ++ rest) ≡ Some n
comment_only depth last at [] rest n e = absurd cc
comment_only depth last at (b ∷ y) rest n e = elim (cases_Bool (eqb last 42 && eqb b 47)) [
  | inl closing ↦ elim (cases_Bool (eqb depth 1)) [
    | inl outer ↦ let is = rw (closing, outer) at e in rw (closing, outer) is
    | inr inner ↦ let is = rw (closing, inner) at e in rw (closing, inner) (comment_only (depth - 1) 0 (at + 1) y rest n is)
  ]
  | inr going ↦ elim (cases_Bool (eqb last 47 && eqb b 42)) [
    | inl opening ↦ let is = rw (going, opening) at e in rw (going, opening) (comment_only (depth + 1) 0 (at + 1) y rest n is)
    | inr other ↦ let is = rw (going, other) at e in rw (going, other) (comment_only depth b (at + 1) y rest n is)
  ]
]

sign_only : (k : Kind) (x rest : Text) → IsSign k x rest → lexeme_at (x ++ rest) ≡ Ok (lexeme.Plain k, length x)
unfolding lexeme_at
sign_only kind.Slash x [] h = rw h.0 refl
sign_only kind.Slash x (b ∷ z) h = rw (h.0, h.1.0, h.1.1) refl
sign_only kind.Equals x rest h = rw h refl
sign_only kind.Comma x rest h = rw h refl
sign_only kind.Colon x rest h = rw h refl
sign_only kind.Dot x rest h = rw h refl
sign_only kind.Semicolon x rest h = rw h refl
sign_only kind.LeftParenthesis x rest h = rw h refl
sign_only kind.RightParenthesis x rest h = rw h refl
sign_only kind.LeftBrace x rest h = rw h refl
sign_only kind.RightBrace x rest h = rw h refl
sign_only kind.LessThan x rest h = rw h refl
sign_only kind.GreaterThan x rest h = rw h refl
sign_only kind.At x rest h = rw h refl
sign_only kind.Underscore x rest h = rw h refl
sign_only kind.RightArrow x rest h = rw h refl
sign_only _ x rest h = absurd h

comment_lexeme : (x rest : Text) → IsLexeme lexeme.Comment x rest → lexeme_at (x ++ rest) ≡ Ok (lexeme.Comment, length x)
unfolding lexeme_at
comment_lexeme x rest (inl (y, is, run)) = rw (is, run_only class.Line y rest run) (ap (cut lexeme.Comment) (omega arith))
comment_lexeme x rest (inr (y, is, whole)) = rw (is, comment_only 1 0 0 y rest (length y) (comment_scanned y whole)) (ap (cut lexeme.Comment) (omega arith))

-- a run of digits that no version begins is cut as a number, and a version as one
number_only : (x rest : Text) → IsRun class.Digit x rest → HasNoVersion (x ++ rest) → digits (x ++ rest) ≡ Ok (lexeme.Number, length x)
number_only x rest r none = rw (no_version_only (x ++ rest) none, run_only class.Digit x rest r) refl

version_cut : (x rest : Text) → IsVersionFront x rest → digits (x ++ rest) ≡ Ok (lexeme.Version, length x)
version_cut x rest h = rw (version_only x rest h) refl

version_first : (b : ℕ) (x : Text) → IsVersion (b ∷ x) → is_in class.Digit b ≡ true
version_first b x h = let (c, y, is, digit) = version_digit (b ∷ x) h in let same : b ≡ c = cc in rw same digit

no_empty_version : (rest : Text) → IsVersionFront [] rest → ⊥
no_empty_version rest h = let (c, y, is, digit) = version_digit [] h.version in absurd cc

pub lexeme_only : (l : Lexeme) (x rest : Text) → IsLexeme l x rest → lexeme_at (x ++ rest) ≡ Ok (l, length x)
unfolding lexeme_at
lexeme_only lexeme.Blank x rest ((b, is, blank)) = rw (is, blank) refl
lexeme_only lexeme.Comment x rest h = comment_lexeme x rest h
lexeme_only (lexeme.Plain k) x rest h = sign_only k x rest h
lexeme_only lexeme.Number [] rest h = absurd h.0
lexeme_only lexeme.Number (b ∷ x) rest h =
    let d = h.0.0 in
    rw (digit_blank b d, digit_letter b d, d) (number_only (b ∷ x) rest ((d, h.0.1.0), h.0.1.1) h.1)
lexeme_only lexeme.Version [] rest h = absurd (no_empty_version rest h)
lexeme_only lexeme.Version (b ∷ x) rest h =
    let d = version_first b x h.version in
    rw (digit_blank b d, digit_letter b d, d) (version_cut (b ∷ x) rest h)
lexeme_only lexeme.Word [] rest h = absurd h
lexeme_only lexeme.Word (b ∷ x) rest h =
    rw (letter_blank b h.0, h.0, run_only class.Word x rest h.1) (ap (cut lexeme.Word) (omega arith))
lexeme_only lexeme.Marked x rest (([], is, h)) = absurd h
lexeme_only lexeme.Marked x rest ((b ∷ y, is, h)) =
    rw (is, h.0, run_only class.Word y rest h.1) (ap (cut lexeme.Marked) (omega arith))

-- ---- all tokens

sign_some : (k : Kind) (x rest : Text) → IsSign k x rest → 1 ≤ length x
sign_some kind.Slash x rest h = rw h.0 (omega arith)
sign_some kind.Equals x rest h = rw h (omega arith)
sign_some kind.Comma x rest h = rw h (omega arith)
sign_some kind.Colon x rest h = rw h (omega arith)
sign_some kind.Dot x rest h = rw h (omega arith)
sign_some kind.Semicolon x rest h = rw h (omega arith)
sign_some kind.LeftParenthesis x rest h = rw h (omega arith)
sign_some kind.RightParenthesis x rest h = rw h (omega arith)
sign_some kind.LeftBrace x rest h = rw h (omega arith)
sign_some kind.RightBrace x rest h = rw h (omega arith)
sign_some kind.LessThan x rest h = rw h (omega arith)
sign_some kind.GreaterThan x rest h = rw h (omega arith)
sign_some kind.At x rest h = rw h (omega arith)
sign_some kind.Underscore x rest h = rw h (omega arith)
sign_some kind.RightArrow x rest h = rw h (omega arith)
sign_some _ x rest h = absurd h

pub lexeme_some : (l : Lexeme) (x rest : Text) → IsLexeme l x rest → 1 ≤ length x
lexeme_some lexeme.Blank x rest ((b, is, blank)) = rw is (omega arith)
lexeme_some lexeme.Comment x rest (inl (y, is, run)) = rw is (omega arith)
lexeme_some lexeme.Comment x rest (inr (y, is, whole)) = rw is (omega arith)
lexeme_some (lexeme.Plain k) x rest h = sign_some k x rest h
lexeme_some lexeme.Number [] rest h = absurd h.0
lexeme_some lexeme.Number (b ∷ x) rest h = omega arith
lexeme_some lexeme.Version [] rest h = absurd (no_empty_version rest h)
lexeme_some lexeme.Version (b ∷ x) rest h = omega arith
lexeme_some lexeme.Word [] rest h = absurd h
lexeme_some lexeme.Word (b ∷ x) rest h = omega arith
lexeme_some lexeme.Marked x rest (y, is, h) = rw is (omega arith)

pub reads_lexeme : (at : ℕ) (z : Text) (l : Lexeme) (n : ℕ) → 1 ≤ length z → lexeme_at z ≡ Ok (l, n) → 1 ≤ n
    → read_bare at z ≡ read_piece at z (span_of l at (take n z)) (read_bare (at + length (take n z)) (drop n z)) (piece_of l (take n z))
unfolding read_bare
reads_lexeme at [] l n long e some = absurd (omega arith)
reads_lexeme at (b ∷ z) l n long e some = rw (e, read_from-drop (n - 1) (at + length (take n (b ∷ z))) z, drop-cons n b z some) refl

abbrev pub whole : List Tok → Reading
whole ts = record { tokens = ts; broken = None }

piece_adds : (at : ℕ) (z : Text) (span : Span) (o : Result Piece Rule) (ts us : List Tok) → Adds span o ts us → read_piece at z span (whole ts) o ≡ whole us
piece_adds at z span (Ok p) ts us h = ap whole (sym h)
piece_adds at z span (Err rule) ts us h = absurd h

pub lexes_only : {at : ℕ} {text : Text} {us : List Tok} → Lexes at text us → read_bare at text ≡ whole us
unfolding read_bare
lexes_only (ends at) = refl
lexes_only (goes at l x rest text ts us is h more adds) =
    let some = lexeme_some l x rest h in
    let one : read_bare at text ≡ read_piece at (x ++ rest) (span_of l at x) (read_bare (at + length x) rest) (piece_of l x) =
    rw is (reads_lexeme at (x ++ rest) l (length x) (omega (arith, length-append x rest)) (lexeme_only l x rest h) some ∙ rw (take_at x rest (length x) refl, drop_at x rest (length x) refl) refl) in
    one ∙ rw (lexes_only more) (piece_adds at (x ++ rest) (span_of l at x) (piece_of l x) ts us adds)

unbroken : (rule : Rule) (at : Span) (us : List Tok) → stops rule at ≡ whole us → ⊥
unbroken rule at us e = let none = ap (λ (r : Reading). r.broken) e in absurd cc

-- a byte order mark begins no lexeme
no_mark : (at : ℕ) (z : Text) (us : List Tok) → Lexes at (239 ∷ z) us → ⊥
unfolding read_bare lexeme_at
no_mark at z us h = unbroken BadCharacter (broken_span BadCharacter at (239 ∷ z)) us (lexes_only h)

pub text_only : (at : ℕ) (text : Text) (ts : List Tok) → LexesText at text ts → read at text ≡ whole ts
unfolding read
text_only at text ts (inl (rest, is, h)) = rw is (lexes_only h)
text_only at [] ts (inr h) = lexes_only h
text_only at (a ∷ []) ts (inr h) = lexes_only h
text_only at (a ∷ b ∷ []) ts (inr h) = lexes_only h
text_only at (a ∷ b ∷ c ∷ z) ts (inr h) = elim (cases_Bool (eqb a 239)) [
  | inl is ↦ absurd (no_mark at (b ∷ c ∷ z) ts (subst (λ d. Lexes at (d ∷ b ∷ c ∷ z) ts) (eqb-true a 239 is) h))
  | inr other ↦ rw other (lexes_only h)
]

tokens_same : (ts us : List Tok) → whole ts ≡ whole us → ts ≡ us
tokens_same ts us e = ap (λ (r : Reading). r.tokens) e

-- a text is one list of tokens at most
pub one_lexing : (at : ℕ) (text : Text) (ts us : List Tok) → LexesText at text ts → LexesText at text us → ts ≡ us
one_lexing at text ts us h k = tokens_same ts us (sym (text_only at text ts h) ∙ text_only at text us k)

pub answers_only : {X : Type 0} (view : X → List Tok) (r : Result X SyntaxFault) (at : ℕ) (text : Text) (ts : List Tok) → GivesReading view r (read at text) → LexesText at text ts → AnswersText view r ts
answers_only view (Ok x) at text ts e h = tokens_same (view x) ts (sym e ∙ text_only at text ts h)
answers_only view (Err faults.OutOfMemory) at text ts e h = tt
answers_only view (Err faults.TooLarge) at text ts e h = e
answers_only view (Err (faults.Broken rule place)) at text ts e h = let good = text_only at text ts h in absurd cc

-- ---- what is cut stands for a lexeme

some_is : (m n : ℕ) → Some m ≡ Some n → m ≡ n
some_is m n e = cc

at_cut : (k : Lexeme) (m : ℕ) (l : Lexeme) (n : ℕ) (z : Text) → cut k m ≡ Ok (l, n) → IsLexeme k (take m z) (drop m z) → IsLexeme l (take n z) (drop n z)
at_cut k m l n z e h = subst (λ (p : Lexeme × ℕ). IsLexeme p.0 (take p.1 z) (drop p.1 z)) (pair_is (k, m) (l, n) e) h
  where
    pair_is : (p q : Lexeme × ℕ) → cut p.0 p.1 ≡ cut q.0 q.1 → p ≡ q
    pair_is p q e = cc

run_found : (c : Class) (z : Text) → IsRun c (take (prefix_len (is_in c) z) z) (drop (prefix_len (is_in c) z) z)
run_found c [] = (tt, tt)
run_found c (b ∷ z) = elim (cases_Bool (is_in c b)) [
  | inl is ↦ let e : 1 + prefix_len (is_in c) z ≡ suc (prefix_len (is_in c) z) = omega arith in let r = run_found c z in rw (is, e) ((is, r.0), r.1)
  | inr off ↦ rw off (tt, off)
]

starts_found : (k : Lexeme) (c : Class) (l : Lexeme) (n b : ℕ) (z : Text) → cut k (1 + prefix_len (is_in c) z) ≡ Ok (l, n)
    → IsLexeme k (b ∷ take (prefix_len (is_in c) z) z) (drop (prefix_len (is_in c) z) z) → IsLexeme l (take n (b ∷ z)) (drop n (b ∷ z))
starts_found k c l n b z e h =
    let m : 1 + prefix_len (is_in c) z ≡ suc (prefix_len (is_in c) z) = omega arith in
    at_cut k (suc (prefix_len (is_in c) z)) l n (b ∷ z) (rw m at e) h

sign_found : (b : ℕ) (z : Text) (l : Lexeme) (n : ℕ) → sign b ≡ Ok (l, n) → IsLexeme l (take n (b ∷ z)) (drop n (b ∷ z))
sign_found b z l n e = elim (cases_Bool (eqb b 61)) [
  | inl is ↦ at_cut (lexeme.Plain kind.Equals) 1 l n (b ∷ z) (rw (is) at e) (ap (λ c. c ∷ []) (eqb-true b 61 is))
  | inr no0 ↦ elim (cases_Bool (eqb b 44)) [
    | inl is ↦ at_cut (lexeme.Plain kind.Comma) 1 l n (b ∷ z) (rw (no0, is) at e) (ap (λ c. c ∷ []) (eqb-true b 44 is))
    | inr no1 ↦ elim (cases_Bool (eqb b 58)) [
      | inl is ↦ at_cut (lexeme.Plain kind.Colon) 1 l n (b ∷ z) (rw (no0, no1, is) at e) (ap (λ c. c ∷ []) (eqb-true b 58 is))
      | inr no2 ↦ elim (cases_Bool (eqb b 46)) [
        | inl is ↦ at_cut (lexeme.Plain kind.Dot) 1 l n (b ∷ z) (rw (no0, no1, no2, is) at e) (ap (λ c. c ∷ []) (eqb-true b 46 is))
        | inr no3 ↦ elim (cases_Bool (eqb b 59)) [
          | inl is ↦ at_cut (lexeme.Plain kind.Semicolon) 1 l n (b ∷ z) (rw (no0, no1, no2, no3, is) at e) (ap (λ c. c ∷ []) (eqb-true b 59 is))
          | inr no4 ↦ elim (cases_Bool (eqb b 40)) [
            | inl is ↦ at_cut (lexeme.Plain kind.LeftParenthesis) 1 l n (b ∷ z) (rw (no0, no1, no2, no3, no4, is) at e) (ap (λ c. c ∷ []) (eqb-true b 40 is))
            | inr no5 ↦ elim (cases_Bool (eqb b 41)) [
              | inl is ↦ at_cut (lexeme.Plain kind.RightParenthesis) 1 l n (b ∷ z) (rw (no0, no1, no2, no3, no4, no5, is) at e) (ap (λ c. c ∷ []) (eqb-true b 41 is))
              | inr no6 ↦ elim (cases_Bool (eqb b 123)) [
                | inl is ↦ at_cut (lexeme.Plain kind.LeftBrace) 1 l n (b ∷ z) (rw (no0, no1, no2, no3, no4, no5, no6, is) at e) (ap (λ c. c ∷ []) (eqb-true b 123 is))
                | inr no7 ↦ elim (cases_Bool (eqb b 125)) [
                  | inl is ↦ at_cut (lexeme.Plain kind.RightBrace) 1 l n (b ∷ z) (rw (no0, no1, no2, no3, no4, no5, no6, no7, is) at e) (ap (λ c. c ∷ []) (eqb-true b 125 is))
                  | inr no8 ↦ elim (cases_Bool (eqb b 60)) [
                    | inl is ↦ at_cut (lexeme.Plain kind.LessThan) 1 l n (b ∷ z) (rw (no0, no1, no2, no3, no4, no5, no6, no7, no8, is) at e) (ap (λ c. c ∷ []) (eqb-true b 60 is))
                    | inr no9 ↦ elim (cases_Bool (eqb b 62)) [
                      | inl is ↦ at_cut (lexeme.Plain kind.GreaterThan) 1 l n (b ∷ z) (rw (no0, no1, no2, no3, no4, no5, no6, no7, no8, no9, is) at e) (ap (λ c. c ∷ []) (eqb-true b 62 is))
                      | inr no10 ↦ elim (cases_Bool (eqb b 64)) [
                        | inl is ↦ at_cut (lexeme.Plain kind.At) 1 l n (b ∷ z) (rw (no0, no1, no2, no3, no4, no5, no6, no7, no8, no9, no10, is) at e) (ap (λ c. c ∷ []) (eqb-true b 64 is))
                        | inr no11 ↦ elim (cases_Bool (eqb b 95)) [
                          | inl is ↦ at_cut (lexeme.Plain kind.Underscore) 1 l n (b ∷ z) (rw (no0, no1, no2, no3, no4, no5, no6, no7, no8, no9, no10, no11, is) at e) (ap (λ c. c ∷ []) (eqb-true b 95 is))
                          | inr no12 ↦ absurd (let bad = rw (no0, no1, no2, no3, no4, no5, no6, no7, no8, no9, no10, no11, no12) at e in cc)
                        ]
                      ]
                    ]
                  ]
                ]
              ]
            ]
          ]
        ]
      ]
    ]
  ]
]

minus_found : (b : ℕ) (z : Text) (l : Lexeme) (n : ℕ) → b ≡ 45 → minus z ≡ Ok (l, n) → IsLexeme l (take n (b ∷ z)) (drop n (b ∷ z))
minus_found b [] l n is e = absurd cc
minus_found b (c ∷ y) l n is e = elim (cases_Bool (eqb c 62)) [
  | inl arrow ↦ at_cut (lexeme.Plain kind.RightArrow) 2 l n (b ∷ c ∷ y) (rw arrow at e) (rw (is, eqb-true c 62 arrow) refl)
  | inr off ↦ absurd (let bad = rw off at e in cc)
]

comment_closes : (depth last at b : ℕ) (y : Text) (n : ℕ) → (eqb last 42 && eqb b 47) ≡ true → eqb depth 1 ≡ true → at + 1 ≡ n → (k : ℕ) × (n ≡ at + k) × (k ≤ length (b ∷ y)) × (comment_from depth last at (take k (b ∷ y)) ≡ Some n)
comment_closes depth last at b y n closing outer one = (1, sym one, omega arith, rw (closing, outer) (ap (λ i. Some i) one))

abbrev Closes : ℕ → ℕ → ℕ → Text → ℕ → Type 0
Closes depth last at y n = (k : ℕ) × (n ≡ at + k) × (k ≤ length y) × (comment_from depth last at (take k y) ≡ Some n)

comment_goes : (depth last at d l b : ℕ) (y : Text) (n : ℕ) → ((w : Text) → comment_from depth last at (b ∷ w) ≡ comment_from d l (at + 1) w) → Closes d l (at + 1) y n → Closes depth last at (b ∷ y) n
comment_goes depth last at d l b y n same (k, is, fits, h) = (suc k, omega arith, omega arith, same (take k y) ∙ h)

comment_found : (depth last at : ℕ) (y : Text) (n : ℕ) → comment_from depth last at y ≡ Some n → Closes depth last at y n
comment_found depth last at [] n e = absurd cc
comment_found depth last at (b ∷ y) n e = elim (cases_Bool (eqb last 42 && eqb b 47)) [
  | inl closing ↦ elim (cases_Bool (eqb depth 1)) [
    | inl outer ↦ comment_closes depth last at b y n closing outer (some_is (at + 1) n (rw (closing, outer) at e))
    | inr inner ↦ comment_goes depth last at (depth - 1) 0 b y n (λ w. rw (closing, inner) refl) (comment_found (depth - 1) 0 (at + 1) y n (rw (closing, inner) at e))
  ]
  | inr going ↦ elim (cases_Bool (eqb last 47 && eqb b 42)) [
    | inl opening ↦ comment_goes depth last at (depth + 1) 0 b y n (λ w. rw (going, opening) refl) (comment_found (depth + 1) 0 (at + 1) y n (rw (going, opening) at e))
    | inr other ↦ comment_goes depth last at depth b b y n (λ w. rw (going, other) refl) (comment_found depth b (at + 1) y n (rw (going, other) at e))
  ]
]

percent_found : (b : ℕ) (z : Text) (l : Lexeme) (n : ℕ) → b ≡ 37 → percent z ≡ Ok (l, n) → IsLexeme l (take n (b ∷ z)) (drop n (b ∷ z))
percent_found b [] l n is e = absurd cc
percent_found b (c ∷ y) l n is e = elim (cases_Bool (is_in class.Letter c)) [
  | inl letter ↦
      let m : 2 + prefix_len (is_in class.Word) y ≡ suc (suc (prefix_len (is_in class.Word) y)) = omega arith in
      let f : cut lexeme.Marked (2 + prefix_len (is_in class.Word) y) ≡ Ok (l, n) = rw letter at e in
      at_cut lexeme.Marked (suc (suc (prefix_len (is_in class.Word) y))) l n (b ∷ c ∷ y) (rw m at f)
      (c ∷ take (prefix_len (is_in class.Word) y) y, rw is refl, (letter, run_found class.Word y))
  | inr off ↦ absurd (let bad = rw off at e in cc)
]

slash_found : (b : ℕ) (z : Text) (l : Lexeme) (n : ℕ) → b ≡ 47 → slash z ≡ Ok (l, n) → IsLexeme l (take n (b ∷ z)) (drop n (b ∷ z))
slash_found b [] l n is e = at_cut (lexeme.Plain kind.Slash) 1 l n (b ∷ []) e (ap (λ c. c ∷ []) is, tt)
slash_found b (c ∷ y) l n is e = elim (cases_Bool (eqb c 47)) [
  | inl line ↦
      let k : 2 + prefix_len (is_in class.Line) y ≡ suc (suc (prefix_len (is_in class.Line) y)) = omega arith in
      let f : cut lexeme.Comment (2 + prefix_len (is_in class.Line) y) ≡ Ok (l, n) = rw line at e in
      at_cut lexeme.Comment (suc (suc (prefix_len (is_in class.Line) y))) l n (b ∷ c ∷ y) (rw k at f)
      (inl (take (prefix_len (is_in class.Line) y) y, rw (is, eqb-true c 47 line) refl, run_found class.Line y))
  | inr other ↦ elim (cases_Bool (eqb c 42)) [
    | inl opening ↦ go (comment_from 1 0 0 y) refl (eqb-true c 42 opening) (rw (other, opening) at e)
    | inr off ↦ at_cut (lexeme.Plain kind.Slash) 1 l n (b ∷ c ∷ y) (rw (other, off) at e) (ap (λ c. c ∷ []) is, (other, off))
  ]
]
  where
    go : (o : Option ℕ) → comment_from 1 0 0 y ≡ o → c ≡ 42 → closed o ≡ Ok (l, n) → IsLexeme l (take n (b ∷ c ∷ y)) (drop n (b ∷ c ∷ y))
    go None o-is star e = absurd cc
    go (Some m) o-is star e =
        let r = comment_found 1 0 0 y m o-is in
        let k : 2 + m ≡ suc (suc r.0) = omega arith in
        let len : m ≡ length (take r.0 y) = omega (arith, length-take r.0 y) in
        let f : cut lexeme.Comment (2 + m) ≡ Ok (l, n) = e in
        at_cut lexeme.Comment (suc (suc r.0)) l n (b ∷ c ∷ y) (rw k at f) (inr (take r.0 y, rw (is, star) refl, comment_inside (take r.0 y) (r.3 ∙ ap (λ i. Some i) len)))

digits_found : (b : ℕ) (z : Text) (l : Lexeme) (n : ℕ) → is_in class.Digit b ≡ true → (o : Option ℕ) → version_len (b ∷ z) ≡ o → version_or_number o (b ∷ z) ≡ Ok (l, n) → IsLexeme l (take n (b ∷ z)) (drop n (b ∷ z))
digits_found b z l n digit (Some m) is e = at_cut lexeme.Version m l n (b ∷ z) e (version_found (b ∷ z) m is)
digits_found b z l n digit None is e =
    let k : prefix_len (is_in class.Digit) (b ∷ z) ≡ suc (prefix_len (is_in class.Digit) z) = rw digit (omega arith) in
    at_cut lexeme.Number (suc (prefix_len (is_in class.Digit) z)) l n (b ∷ z) (rw k at e)
    ((digit, run_found class.Digit z), rw (take-append-drop (prefix_len (is_in class.Digit) z) z) (no_version_found (b ∷ z) is))

pub lexeme_found : (z : Text) (l : Lexeme) (n : ℕ) → lexeme_at z ≡ Ok (l, n) → IsLexeme l (take n z) (drop n z)
unfolding lexeme_at
lexeme_found [] l n e = absurd cc
lexeme_found (b ∷ z) l n e = elim (cases_Bool (is_in class.Blank b)) [
  | inl blank ↦ at_cut lexeme.Blank 1 l n (b ∷ z) (rw blank at e) (b, refl, blank)
  | inr a ↦ elim (cases_Bool (is_in class.Letter b)) [
    | inl letter ↦ starts_found lexeme.Word class.Word l n b z (rw (a, letter) at e) (letter, run_found class.Word z)
    | inr c ↦ elim (cases_Bool (is_in class.Digit b)) [
      | inl digit ↦ digits_found b z l n digit (version_len (b ∷ z)) refl (rw (a, c, digit) at e)
      | inr d ↦ elim (cases_Bool (eqb b 47)) [
        | inl is ↦ slash_found b z l n (eqb-true b 47 is) (rw (a, c, d, is) at e)
        | inr f ↦ elim (cases_Bool (eqb b 45)) [
          | inl is ↦ minus_found b z l n (eqb-true b 45 is) (rw (a, c, d, f, is) at e)
          | inr g ↦ elim (cases_Bool (eqb b 37)) [
            | inl is ↦ percent_found b z l n (eqb-true b 37 is) (rw (a, c, d, f, g, is) at e)
            | inr h ↦ sign_found b z l n (rw (a, c, d, f, g, h) at e)
          ]
        ]
      ]
    ]
  ]
]
