-- What a comment says, by its form.
use Rattle.std.proofs.Common.{◌≡◌, ◌≢◌, ℕ, ◌-◌, true, List, [], ◌∷◌, ◌++◌, length, take, drop, None, Some, refl, sym, ap, ◌∙◌, arith, inl, inr}
use Rattle.std.specs.Prelude.{◌==◌, codes, nat_eq}
use Rattle.std.specs.List.{starts_with, ends_with}
use Rattle.std.specs.Str.{trim}
use Rattle.std.specs.Str.Pattern.{FindsCharPrefix, HasCharAt, CutsPrefixes, IsTrimStartMatches}
use Rattle.std.proofs.lemmas.Bool.{cases_Bool, and_parts}
use Rattle.std.proofs.lemmas.Bool.Decides.{Decides-eqb}
use Rattle.std.proofs.lemmas.List.{take-append-drop, take_at, drop_at, length-append}
use Rattle.std.proofs.lemmas.Slice.Eq.{bytes_eq-Decides}
use Rattle.std.proofs.lemmas.Str.{encode_ascii}
use Rattle.std.proofs.lemmas.Str.Pattern.{drop_at_char}
use Rattle.wit_words.specs.Docs.{IsBlock, is_block, without_slashes, comment_text}

-- ---- comments with marks

record Marked (comment inside : List ℕ) : Type 0 where
  pub so : is_block comment ≡ true
  pub between : take (length comment - 5) (drop 3 comment) ≡ inside

marked : (comment inside : List ℕ) → IsBlock comment inside → Marked comment inside
marked comment inside e =
    let behind : drop 3 comment ≡ inside ++ codes "*/" = ap (drop 3) e in
    let long : length (inside ++ codes "*/") - 2 ≡ length inside = omega (arith, length-append inside (codes "*/")) in
    let most : length comment - 5 ≡ length inside = omega (arith, ap length e, length-append inside (codes "*/")) in
    let begins : starts_with nat_eq comment (codes "/**") ≡ true = ap (λ z. starts_with nat_eq z (codes "/**")) e in
    let last : drop (length (inside ++ codes "*/") - 2) (inside ++ codes "*/") ≡ codes "*/" = drop_at inside (codes "*/") _ (sym long) in
    let stops : ends_with nat_eq (drop 3 comment) (codes "*/") ≡ true = ap (λ z. ends_with nat_eq z (codes "*/")) behind ∙ (bytes_eq-Decides (codes "*/") (drop (length (inside ++ codes "*/") - 2) (inside ++ codes "*/"))).1 (sym last) in
    record { so = rw (begins, stops) refl; between = ap (take (length comment - 5)) behind ∙ take_at inside (codes "*/") _ (sym most) }

inside_of : (comment : List ℕ) → is_block comment ≡ true → (inside : List ℕ) × IsBlock comment inside
inside_of comment h =
    let both = and_parts (starts_with nat_eq comment (codes "/**")) (ends_with nat_eq (drop 3 comment) (codes "*/")) h in
    let behind = drop 3 comment in
    let n = length behind - 2 in
    let front : codes "/**" ≡ take 3 comment = (bytes_eq-Decides (codes "/**") (take 3 comment)).0 both.0 in
    let back : codes "*/" ≡ drop n behind = (bytes_eq-Decides (codes "*/") (drop n behind)).0 both.1 in
    (take n behind, sym (take-append-drop 3 comment) ∙ ap (λ z. z ++ behind) (sym front) ∙ ap (λ z. codes "/**" ++ z) (sym (take-append-drop n behind) ∙ ap (λ z. take n behind ++ z) (sym back)))

pub block_text : (comment inside : List ℕ) → IsBlock comment inside → comment_text comment ≡ trim inside
unfolding comment_text
block_text comment inside e = let m = marked comment inside e in rw (m.so, m.between) refl

pub other_text : (comment : List ℕ) → ((inside : List ℕ) → IsBlock comment inside → ⊥) → comment_text comment ≡ trim (without_slashes comment)
unfolding comment_text
other_text comment none = elim (cases_Bool (is_block comment)) [
  | inl t ↦ (let m = inside_of comment t in absurd (none m.0 m.1))
  | inr t ↦ rw t refl
]

-- ---- slashes in front

one_slash : (m : List ℕ) (n : ℕ) → HasCharAt 47 m 0 n → without_slashes m ≡ without_slashes (drop n m)
one_slash m n h = ap without_slashes (drop_at_char 47 m 0 n h (omega arith))

cut_slashes : (ns s r : List ℕ) → CutsPrefixes (FindsCharPrefix 47) s ns r → without_slashes s ≡ without_slashes r
cut_slashes [] s r e = sym (ap without_slashes e)
cut_slashes (n ∷ ns) s r (m, front, one, e) = cut_slashes ns s m front ∙ one_slash m n one ∙ sym (ap without_slashes e)

no_slash : (r : List ℕ) → ((rest : List ℕ) → r ≢ 47 ∷ rest) → without_slashes r ≡ r
no_slash [] none = refl
no_slash (b ∷ z) none = elim (cases_Bool (b == 47)) [ inl t ↦ absurd (none z (ap (λ c. c ∷ z) ((Decides-eqb b 47).0 t))) | inr t ↦ rw t refl ]

pub trimmed_slashes : (s r : List ℕ) → IsTrimStartMatches (FindsCharPrefix 47) s r → r ≡ without_slashes s
trimmed_slashes s r ((ns, cuts), (None, none, done)) = sym (cut_slashes ns s r cuts ∙ no_slash r (λ rest e. none rest (e ∙ ap (λ z. z ++ rest) (sym (encode_ascii 47 (omega arith))))))
trimmed_slashes s r ((ns, cuts), (Some n, one, empty)) = absurd (omega (arith, one.ends, empty))
