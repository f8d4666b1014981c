-- A name key is what its definition says, and what follows for names.
use Rattle.std.proofs.Common.{◌≡◌, ℕ, ◌-◌, ◌/◌, ◌≤◌, ◌<◌, ◌⊎◌, Bool, true, false, ◌&&◌, List, [], ◌∷◌, ◌++◌, length, take, drop, get_or, None, Some, refl, sym, ap, ◌∙◌, arith, inl, inr}
use Rattle.std.specs.Prelude.{◌==◌, slice_range, codes, nat_lt, bytes_eq}
use Rattle.std.specs.Bool.{Decides}
use Rattle.std.specs.Char.{to_ascii_lowercase}
use Rattle.std.proofs.lemmas.Bool.{cases_Bool}
use Rattle.std.proofs.lemmas.Bool.Decides.{nat_tests, same_from_decides, Decides-eqb, Decides-ltb, Decides-and, Decides-or}
use Rattle.std.proofs.lemmas.List.{take-map, drop-map, map-append, length-map, get_or-map, take-append-drop, take_at, drop_at, get_or-take, length-take-le, length-append}
use Rattle.std.proofs.lemmas.Slice.Eq.{bytes_eq-Decides}
use Rattle.std.specs.Str.{IsUtf8, IsCharBoundary}
use Rattle.std.proofs.lemmas.Str.{IsCharBoundary-after_ascii}
use Rattle.wit_words.specs.declared.identifier.Part.{Part}
use Rattle.wit_words.specs.declared.identifier.Part.TheVariants.{Start, Hyphen, Digits, Small, Capital}
use Rattle.wit_words.specs.Identifier.{IsIdentifier, next, and_then, goes_on, is_identifier}
use Rattle.wit_words.specs.NameKey.{folded, BeginsWithMark, HasNoMark, IsTwice, IsNameKey, is_mark, unmarked, is_twice, halved, name_key}
use Rattle.wit_words.proofs.Identifiers.{decides}

-- ---- bytes

-- what folds to a byte below the small letters is that byte
fold_keeps : (b c : ℕ) → c < 97 → to_ascii_lowercase b ≡ c → b ≡ c
fold_keeps b c h e = grind (arith, nat_tests)

fold_same : (b c : ℕ) → c < 65 → (to_ascii_lowercase b == c) ≡ (b == c)
fold_same b c h = same_from_decides {P = b ≡ c} (to_ascii_lowercase b == c) (b == c)
    (λ t. fold_keeps b c (omega arith) ((Decides-eqb (to_ascii_lowercase b) c).0 t), λ e. grind (arith, nat_tests))
    (Decides-eqb b c)

-- ---- marks

is_mark-Decides : (text : List ℕ) → Decides (is_mark text) ((text ≡ codes "[method]") ⊎ (text ≡ codes "[static]"))
is_mark-Decides text = Decides-or _ _ (bytes_eq-Decides text (codes "[method]")) (bytes_eq-Decides text (codes "[static]"))

ends_so : (text word : List ℕ) → folded text ≡ word → length word ≡ 8 → get_or word 7 0 ≡ 93 → get_or text 7 0 ≡ 93
ends_so text word e long last =
    let long : 7 < length text = omega (arith, length-map text to_ascii_lowercase, ap length e) in
    fold_keeps (get_or text 7 0) 93 (omega arith) (sym (get_or-map to_ascii_lowercase text 7 0 0 long) ∙ ap (λ z. get_or z 7 0) e ∙ last)

-- a name may be cut behind a mark
pub cut_behind_mark : (name : List ℕ) → IsUtf8 name → 8 ≤ length name → is_mark (folded (take 8 name)) ≡ true → IsCharBoundary name 8
cut_behind_mark name text long h =
    let last : get_or (take 8 name) 7 0 ≡ 93 = elim ((is_mark-Decides (folded (take 8 name))).0 h) [
      | inl e ↦ ends_so (take 8 name) (codes "[method]") e refl refl
      | inr e ↦ ends_so (take 8 name) (codes "[static]") e refl refl
    ] in
    let at : get_or name 7 0 ≡ 93 = sym (get_or-take 8 name 7 0 (omega arith)) ∙ last in
    IsCharBoundary-after_ascii name 7 text (omega arith) (omega (arith, at))

-- ---- halves

folded_behind : (name back : List ℕ) (half d : ℕ) → drop half name ≡ d ∷ back → drop half (folded name) ≡ to_ascii_lowercase d ∷ folded back
folded_behind name back half d e = drop-map to_ascii_lowercase half name ∙ ap folded e

-- what stands behind the dot is compared with what stands in front of it
pub twice_by_parts : (name back : List ℕ) (half d : ℕ) → drop half name ≡ d ∷ back → is_twice half (folded name) ≡ (nat_lt 0 half && ((d == 46) && bytes_eq (folded back) (folded (take half name))))
twice_by_parts name back half d e =
    ap (λ b. nat_lt 0 half && b)
    ((λ i. bytes_eq (folded_behind name back half d e i) (46 ∷ take-map to_ascii_lowercase half name i))
    ∙ ap (λ b. b && bytes_eq (folded back) (folded (take half name))) (fold_same d 46 (omega arith)))

pub twice_behind_dot : (name back : List ℕ) (half : ℕ) (r : Bool) → drop half name ≡ 46 ∷ back → 0 < half → Decides r (folded back ≡ folded (take half name)) → r ≡ is_twice half (folded name)
twice_behind_dot name back half r e some d =
    same_from_decides r (bytes_eq (folded back) (folded (take half name))) d (bytes_eq-Decides (folded back) (folded (take half name)))
    ∙ sym (twice_by_parts name back half 46 e ∙ ap (λ b. b && (true && bytes_eq (folded back) (folded (take half name)))) ((Decides-ltb 0 half).1 some))

pub halved_folds : (name : List ℕ) (half : ℕ) → half ≡ length name / 2 → is_twice half (folded name) ≡ true → folded (slice_range name 0 half) ≡ halved (folded name)
halved_folds name half e h =
    let at : half ≡ length (folded name) / 2 = e ∙ ap (λ n. n / 2) (sym (length-map name to_ascii_lowercase)) in
    let twice : is_twice (length (folded name) / 2) (folded name) ≡ true = sym (ap (λ n. is_twice n (folded name)) at) ∙ h in
    let whole : half - 0 ≡ half = omega arith in
    ap (λ n. folded (take n name)) whole ∙ sym (take-map to_ascii_lowercase half name) ∙ ap (λ n. take n (folded name)) at ∙ rw twice refl

-- ---- the key is what its definition says

marked_so : (name behind : List ℕ) → BeginsWithMark name behind → (is_mark (take 8 name) ≡ true) × (drop 8 name ≡ behind)
marked_so name behind (inl e) = (ap (λ z. is_mark (take 8 z)) e, ap (drop 8) e)
marked_so name behind (inr e) = (ap (λ z. is_mark (take 8 z)) e, ap (drop 8) e)

unmarked_behind : (name behind : List ℕ) → BeginsWithMark name behind → unmarked name ≡ behind
unmarked_behind name behind m = let s = marked_so name behind m in rw s.0 s.1

unmarked_of : (name : List ℕ) → BeginsWithMark name (unmarked name) ⊎ ((unmarked name ≡ name) × HasNoMark name)
unmarked_of name = elim (cases_Bool (is_mark (take 8 name))) [
  | inl t ↦ (let whole = sym (take-append-drop 8 name) in
      inl (rw t (elim ((is_mark-Decides (take 8 name)).0 t) [ inl e ↦ inl (whole ∙ ap (λ z. z ++ drop 8 name) e) | inr e ↦ inr (whole ∙ ap (λ z. z ++ drop 8 name) e) ])))
  | inr t ↦ inr (rw t refl, λ behind m. let s = (marked_so name behind m).0 in absurd cc)
]

unmarked_plain : (name : List ℕ) → HasNoMark name → unmarked name ≡ name
unmarked_plain name none = elim (unmarked_of name) [ inl m ↦ absurd (none (unmarked name) m) | inr p ↦ p.0 ]

twice_so : (name half : List ℕ) → IsTwice name half → (is_twice (length name / 2) name ≡ true) × (take (length name / 2) name ≡ half)
twice_so name half (some, e) =
    let long : length name / 2 ≡ length half = omega (arith, ap length e, length-append half (46 ∷ half)) in
    let front : take (length name / 2) name ≡ half = ap (λ n. take n name) long ∙ ap (take (length half)) e ∙ take_at half (46 ∷ half) (length half) refl in
    let back : drop (length name / 2) name ≡ 46 ∷ half = ap (λ n. drop n name) long ∙ ap (drop (length half)) e ∙ drop_at half (46 ∷ half) (length half) refl in
    ((Decides-and _ _ (Decides-ltb 0 (length name / 2)) (bytes_eq-Decides (drop (length name / 2) name) (46 ∷ take (length name / 2) name))).1 (omega (arith, long), back ∙ ap (λ z. 46 ∷ z) (sym front)), front)

halved_half : (name half : List ℕ) → IsTwice name half → halved name ≡ half
halved_half name half t = let s = twice_so name half t in rw s.0 s.1

halved_of : (name : List ℕ) → IsTwice name (halved name) ⊎ ((halved name ≡ name) × ((l : List ℕ) → IsTwice name l → ⊥))
halved_of name =
    let n = length name / 2 in
    elim (cases_Bool (is_twice n name)) [
      | inl t ↦ (let d = (Decides-and _ _ (Decides-ltb 0 n) (bytes_eq-Decides (drop n name) (46 ∷ take n name))).0 t in
          inl (rw t (omega (arith, length-take-le n name (omega arith), d.0), sym (take-append-drop n name) ∙ ap (λ z. take n name ++ z) d.1)))
      | inr t ↦ inr (rw t refl, λ l h. let s = (twice_so name l h).0 in absurd cc)
    ]

halved_whole : (name : List ℕ) → ((l : List ℕ) → IsTwice name l → ⊥) → halved name ≡ name
halved_whole name none = elim (halved_of name) [ inl t ↦ absurd (none (halved name) t) | inr p ↦ p.0 ]

pub meets : (name : List ℕ) → IsNameKey name (name_key name)
unfolding name_key
meets name = record { behind = unmarked (folded name); mark = unmarked_of (folded name); half = halved_of (unmarked (folded name)) }

pub only : (name key : List ℕ) → IsNameKey name key → key ≡ name_key name
unfolding name_key
only name key k =
    let behind : k.behind ≡ unmarked (folded name) = elim k.mark [ inl m ↦ sym (unmarked_behind (folded name) k.behind m) | inr p ↦ p.0 ∙ sym (unmarked_plain (folded name) p.1) ] in
    let half : key ≡ halved k.behind = elim k.half [ inl t ↦ sym (halved_half k.behind key t) | inr p ↦ p.0 ∙ sym (halved_whole k.behind p.1) ] in
    half ∙ ap halved behind

-- ---- keys of identifiers, and of names with a mark

dot_stops : (p : Part) (x y : List ℕ) → goes_on p (x ++ 46 ∷ y) ≡ false
dot_stops Start [] y = refl
dot_stops Hyphen [] y = refl
dot_stops Digits [] y = refl
dot_stops Small [] y = refl
dot_stops Capital [] y = refl
dot_stops p (b ∷ x) y = elim (next p b) as (λ o. and_then o (λ q. goes_on q (x ++ 46 ∷ y)) ≡ false) [ None ↦ refl | Some q ↦ dot_stops q x y ]

first_is_dot : (z half : List ℕ) → folded z ≡ 46 ∷ half → (y : List ℕ) × (z ≡ 46 ∷ y)
first_is_dot [] half e = absurd cc
first_is_dot (b ∷ y) half e = (y, ap (λ c. c ∷ y) (fold_keeps b 46 (omega arith) (ap (λ z. get_or z 0 0) e)))

-- an identifier has no dot
stands_once : (l half : List ℕ) → goes_on Start l ≡ true → IsTwice (folded l) half → ⊥
stands_once l half is (some, e) =
    let n = length half in
    let d = first_is_dot (drop n l) half (sym (drop-map to_ascii_lowercase n l) ∙ ap (drop n) e ∙ drop_at half (46 ∷ half) n refl) in
    let stops : goes_on Start l ≡ false = ap (goes_on Start) (sym (take-append-drop n l) ∙ ap (λ z. take n l ++ z) d.1) ∙ dot_stops Start (take n l) d.0 in
    absurd cc

-- nor begins one with `[`
no_bracket : (b : ℕ) (z : List ℕ) → goes_on Start (b ∷ z) ≡ true → to_ascii_lowercase b ≡ 91 → ⊥
no_bracket b z is e = let stops : goes_on Start (b ∷ z) ≡ false = ap (λ c. goes_on Start (c ∷ z)) (fold_keeps b 91 (omega arith) e) in absurd cc

no_mark : (b : ℕ) (z rest : List ℕ) → goes_on Start (b ∷ z) ≡ true → HasNoMark (folded (b ∷ rest))
no_mark b z rest is behind (inl e) = no_bracket b z is (ap (λ z. get_or z 0 0) e)
no_mark b z rest is behind (inr e) = no_bracket b z is (ap (λ z. get_or z 0 0) e)

is_read : (l : List ℕ) → IsIdentifier l → goes_on Start l ≡ true
unfolding is_identifier
is_read l i = (decides l (is_identifier l) refl).1 i

key_of : (l : List ℕ) → goes_on Start l ≡ true → name_key l ≡ folded l
unfolding name_key
key_of [] is = absurd cc
key_of (b ∷ z) is = ap halved (unmarked_plain (folded (b ∷ z)) (no_mark b z z is)) ∙ halved_whole (folded (b ∷ z)) (λ half. stands_once (b ∷ z) half is)

key_of_twice : (l : List ℕ) → goes_on Start l ≡ true → name_key (l ++ 46 ∷ l) ≡ folded l
unfolding name_key
key_of_twice [] is = absurd cc
key_of_twice (b ∷ z) is =
    let l = b ∷ z in
    ap halved (unmarked_plain (folded (l ++ 46 ∷ l)) (no_mark b z (z ++ 46 ∷ l) is))
    ∙ halved_half (folded (l ++ 46 ∷ l)) (folded l) (omega arith, map-append to_ascii_lowercase l (46 ∷ l))

first_of_half : (name half : List ℕ) → IsTwice name half → get_or half 0 0 ≡ get_or name 0 0
first_of_half name [] (some, e) = absurd (omega arith)
first_of_half name (b ∷ z) (some, e) = sym (ap (λ z. get_or z 0 0) e)

first_of_halved : (name : List ℕ) → get_or (halved name) 0 0 ≡ get_or name 0 0
first_of_halved name = elim (halved_of name) [ inl t ↦ first_of_half name (halved name) t | inr p ↦ ap (λ z. get_or z 0 0) p.0 ]

not_of_constructor : (n l : List ℕ) → goes_on Start l ≡ true → name_key (codes "[constructor]" ++ n) ≡ folded l → ⊥
unfolding name_key
not_of_constructor n [] is e = absurd cc
not_of_constructor n (b ∷ z) is e = no_bracket b z is (sym (ap (λ z. get_or z 0 0) e) ∙ first_of_halved (folded (codes "[constructor]" ++ n)))

-- ---- the laws

pub folds : (a b : List ℕ) → folded a ≡ folded b → name_key a ≡ name_key b
unfolding name_key
folds a b e = ap (λ z. halved (unmarked z)) e

pub identifier : (l : List ℕ) → IsIdentifier l → name_key l ≡ folded l
identifier l i = key_of l (is_read l i)

pub twice : (l : List ℕ) → IsIdentifier l → name_key (l ++ 46 ∷ l) ≡ name_key l
twice l i = key_of_twice l (is_read l i) ∙ sym (identifier l i)

pub marked : (name n : List ℕ) → BeginsWithMark (folded name) (folded n) → HasNoMark (folded n) → name_key name ≡ name_key n
unfolding name_key
marked name n m none = ap halved (unmarked_behind (folded name) (folded n) m ∙ sym (unmarked_plain (folded n) none))

pub constructor : (n l : List ℕ) → IsIdentifier l → name_key (codes "[constructor]" ++ n) ≡ name_key l → ⊥
constructor n l i e = not_of_constructor n l (is_read l i) (e ∙ identifier l i)
