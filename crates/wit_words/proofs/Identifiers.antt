-- Reading an identifier byte by byte finds the words that it is made of.
use Rattle.std.proofs.Common.{◌≡◌, ℕ, ◌≤◌, ◌<◌, ◌⊎◌, Bool, true, false, List, [], ◌∷◌, Some, refl, sym, ap, ◌∙◌, arith, inl, inr}
use Rattle.std.specs.Prelude.{◌==◌, nat_le}
use Rattle.std.specs.Bool.{Decides}
use Rattle.std.specs.Int.{is_in_range}
use Rattle.std.specs.Char.{is_ascii_digit, is_ascii_lowercase, is_ascii_uppercase}
use Rattle.std.specs.List.{AllByRecursion as Each, list_all}
use Rattle.std.proofs.lemmas.Bool.{cases_Bool, and_parts, leb-true, lt-leb}
use Rattle.std.proofs.lemmas.Bool.Decides.{Decides-eqb}
use Rattle.wit_words.specs.declared.identifier.Part.{Part}
use Rattle.wit_words.specs.declared.identifier.Part.TheVariants.{Start, Hyphen, Digits, Small, Capital}
use Rattle.wit_words.specs.Identifier.{is_small, is_capital, HasOneCase, IsWord, BeginsWithLetter, joined, IsIdentifier, next, and_then, goes_on, is_identifier}

-- ---- classes of bytes

within : (low high b : ℕ) → is_in_range low high b ≡ true → (low ≤ b) × (b ≤ high)
within low high b h = let p = and_parts (nat_le low b) (nat_le b high) h in (leb-true low b p.0, leb-true b high p.1)

outside : (low high b : ℕ) → (b < low) ⊎ (high < b) → is_in_range low high b ≡ false
outside low high b (inl lt) = rw (lt-leb low b lt) refl
outside low high b (inr lt) = elim (cases_Bool (nat_le low b)) [ inl t ↦ rw (t, lt-leb b high lt) refl | inr t ↦ rw t refl ]

not_hyphen : (b : ℕ) → 45 < b → (b == 45) ≡ false
not_hyphen b lt = elim (cases_Bool (b == 45)) [ inl t ↦ (let e = (Decides-eqb b 45).0 t in absurd (omega (arith, e))) | inr t ↦ t ]

-- a byte is a hyphen, a digit, a small or a capital letter, or none of these, and no two of them
data Class (b : ℕ) : Type 0 where
  a_digit : is_ascii_digit b ≡ true → is_ascii_lowercase b ≡ false → is_ascii_uppercase b ≡ false → (b == 45) ≡ false → Class b
  a_small : is_ascii_digit b ≡ false → is_ascii_lowercase b ≡ true → is_ascii_uppercase b ≡ false → (b == 45) ≡ false → Class b
  a_capital : is_ascii_digit b ≡ false → is_ascii_lowercase b ≡ false → is_ascii_uppercase b ≡ true → (b == 45) ≡ false → Class b
  another : is_ascii_digit b ≡ false → is_ascii_lowercase b ≡ false → is_ascii_uppercase b ≡ false → Class b

class : (b : ℕ) → Class b
class b = elim (cases_Bool (is_ascii_digit b)) [
  | inl d ↦ (let w = within 48 57 b d in a_digit d (outside 97 122 b (inl (omega (arith, w.1)))) (outside 65 90 b (inl (omega (arith, w.1)))) (not_hyphen b (omega (arith, w.0))))
  | inr d ↦ elim (cases_Bool (is_ascii_lowercase b)) [
    | inl s ↦ (let w = within 97 122 b s in a_small d s (outside 65 90 b (inr (omega (arith, w.0)))) (not_hyphen b (omega (arith, w.0))))
    | inr s ↦ elim (cases_Bool (is_ascii_uppercase b)) [
      | inl c ↦ (let w = within 65 90 b c in a_capital d s c (not_hyphen b (omega (arith, w.0))))
      | inr c ↦ another d s c
    ]
  ]
]

-- ---- what is left of a word, and the words behind it

abbrev Tail : Part → List ℕ → Type 0
Tail Start word = BeginsWithLetter word × IsWord word
Tail Hyphen word = IsWord word
Tail Digits word = HasOneCase word
Tail Small word = list_all is_small word ≡ true
Tail Capital word = list_all is_capital word ≡ true

record Left (p : Part) (z : List ℕ) : Type 0 where
  pub word : List ℕ
  pub more : List (List ℕ)
  pub parts : z ≡ joined word more
  pub tail : Tail p word
  pub each : Each IsWord more

joined_cons : (b : ℕ) (word : List ℕ) (more : List (List ℕ)) → b ∷ joined word more ≡ joined (b ∷ word) more
joined_cons b word [] = refl
joined_cons b word (v ∷ more) = refl

-- ---- one byte more

digit_small : (b : ℕ) (w : List ℕ) → is_ascii_digit b ≡ true → list_all is_small w ≡ true → list_all is_small (b ∷ w) ≡ true
digit_small b w d h = rw (d, h) refl

digit_capital : (b : ℕ) (w : List ℕ) → is_ascii_digit b ≡ true → list_all is_capital w ≡ true → list_all is_capital (b ∷ w) ≡ true
digit_capital b w d h = rw (d, h) refl

letter_small : (b : ℕ) (w : List ℕ) → is_ascii_digit b ≡ false → is_ascii_lowercase b ≡ true → list_all is_small w ≡ true → list_all is_small (b ∷ w) ≡ true
letter_small b w d s h = rw (d, s, h) refl

letter_capital : (b : ℕ) (w : List ℕ) → is_ascii_digit b ≡ false → is_ascii_uppercase b ≡ true → list_all is_capital w ≡ true → list_all is_capital (b ∷ w) ≡ true
letter_capital b w d c h = rw (d, c, h) refl

digit_case : (b : ℕ) (w : List ℕ) → is_ascii_digit b ≡ true → HasOneCase w → HasOneCase (b ∷ w)
digit_case b w d (inl h) = inl (digit_small b w d h)
digit_case b w d (inr h) = inr (digit_capital b w d h)

-- where reading goes on behind one byte, that byte and what is left behind it are what was left before
grown : (p q : Part) (b : ℕ) (z : List ℕ) (r : Left q z) → Tail p (b ∷ r.word) → Left p (b ∷ z)
grown p q b z r t = record { word = b ∷ r.word; more = r.more; parts = ap (λ (y : List ℕ). b ∷ y) r.parts ∙ joined_cons b r.word r.more; tail = t; each = r.each }

hyphened : (p : Part) (b : ℕ) (z : List ℕ) → (b == 45) ≡ true → Left Hyphen z → Tail p [] → Left p (b ∷ z)
hyphened p b z is r t = record {
  word = [];
  more = r.word ∷ r.more;
  parts = ap (λ (y : List ℕ). b ∷ y) r.parts ∙ ap (λ (c : ℕ). c ∷ joined r.word r.more) ((Decides-eqb b 45).0 is);
  tail = t;
  each = (r.tail, r.each);
}

-- ---- what is read is made of words

step : (p : Part) (b : ℕ) (z : List ℕ) → ((q : Part) → goes_on q z ≡ true → Left q z) → goes_on p (b ∷ z) ≡ true → Left p (b ∷ z)
step Start b z later h = elim (class b) [
  | a_digit d s c n ↦ (let bad = rw (s, c) at h in absurd cc)
  | a_small d s c n ↦ (let k : goes_on Small z ≡ true = rw s at h in let r = later Small k in grown Start Small b z r (rw s refl, (omega arith, inl (letter_small b r.word d s r.tail))))
  | a_capital d s c n ↦ (let k : goes_on Capital z ≡ true = rw (s, c) at h in let r = later Capital k in grown Start Capital b z r (rw (s, c) refl, (omega arith, inr (letter_capital b r.word d c r.tail))))
  | another d s c ↦ (let bad = rw (s, c) at h in absurd cc)
]
step Hyphen b z later h = elim (class b) [
  | a_digit d s c n ↦ (let k : goes_on Digits z ≡ true = rw d at h in let r = later Digits k in grown Hyphen Digits b z r (omega arith, digit_case b r.word d r.tail))
  | a_small d s c n ↦ (let k : goes_on Small z ≡ true = rw (d, s) at h in let r = later Small k in grown Hyphen Small b z r (omega arith, inl (letter_small b r.word d s r.tail)))
  | a_capital d s c n ↦ (let k : goes_on Capital z ≡ true = rw (d, s, c) at h in let r = later Capital k in grown Hyphen Capital b z r (omega arith, inr (letter_capital b r.word d c r.tail)))
  | another d s c ↦ (let bad = rw (d, s, c) at h in absurd cc)
]
step Digits b z later h = elim (class b) [
  | a_digit d s c n ↦ (let k : goes_on Digits z ≡ true = rw (n, d) at h in let r = later Digits k in grown Digits Digits b z r (digit_case b r.word d r.tail))
  | a_small d s c n ↦ (let k : goes_on Small z ≡ true = rw (n, d, s) at h in let r = later Small k in grown Digits Small b z r (inl (letter_small b r.word d s r.tail)))
  | a_capital d s c n ↦ (let k : goes_on Capital z ≡ true = rw (n, d, s, c) at h in let r = later Capital k in grown Digits Capital b z r (inr (letter_capital b r.word d c r.tail)))
  | another d s c ↦ elim (cases_Bool (b == 45)) [
    | inl is ↦ (let k : goes_on Hyphen z ≡ true = rw is at h in hyphened Digits b z is (later Hyphen k) (inl refl))
    | inr n ↦ (let bad = rw (n, d, s, c) at h in absurd cc)
  ]
]
step Small b z later h = elim (class b) [
  | a_digit d s c n ↦ (let k : goes_on Small z ≡ true = rw (n, d) at h in let r = later Small k in grown Small Small b z r (digit_small b r.word d r.tail))
  | a_small d s c n ↦ (let k : goes_on Small z ≡ true = rw (n, d, s) at h in let r = later Small k in grown Small Small b z r (letter_small b r.word d s r.tail))
  | a_capital d s c n ↦ (let bad = rw (n, d, s) at h in absurd cc)
  | another d s c ↦ elim (cases_Bool (b == 45)) [
    | inl is ↦ (let k : goes_on Hyphen z ≡ true = rw is at h in hyphened Small b z is (later Hyphen k) refl)
    | inr n ↦ (let bad = rw (n, d, s) at h in absurd cc)
  ]
]
step Capital b z later h = elim (class b) [
  | a_digit d s c n ↦ (let k : goes_on Capital z ≡ true = rw (n, d) at h in let r = later Capital k in grown Capital Capital b z r (digit_capital b r.word d r.tail))
  | a_small d s c n ↦ (let bad = rw (n, d, c) at h in absurd cc)
  | a_capital d s c n ↦ (let k : goes_on Capital z ≡ true = rw (n, d, c) at h in let r = later Capital k in grown Capital Capital b z r (letter_capital b r.word d c r.tail))
  | another d s c ↦ elim (cases_Bool (b == 45)) [
    | inl is ↦ (let k : goes_on Hyphen z ≡ true = rw is at h in hyphened Capital b z is (later Hyphen k) refl)
    | inr n ↦ (let bad = rw (n, d, c) at h in absurd cc)
  ]
]

found : (p : Part) (z : List ℕ) → goes_on p z ≡ true → Left p z
found Start [] h = absurd cc
found Hyphen [] h = absurd cc
found Digits [] h = record { word = []; more = []; parts = refl; tail = inl refl; each = tt }
found Small [] h = record { word = []; more = []; parts = refl; tail = refl; each = tt }
found Capital [] h = record { word = []; more = []; parts = refl; tail = refl; each = tt }
found p (b ∷ z) h = step p b z (λ q k. found q z k) h

-- ---- what is made of words is read

-- reading goes on behind the first byte of what is left of a word
record Goes (p : Part) (b : ℕ) (word : List ℕ) : Type 0 where
  pub to : Part
  pub is : next p b ≡ Some to
  pub tail : Tail to word

small_parts : (b : ℕ) (w : List ℕ) → list_all is_small (b ∷ w) ≡ true → (is_small b ≡ true) × (list_all is_small w ≡ true)
small_parts b w h = and_parts (is_small b) (list_all is_small w) h

capital_parts : (b : ℕ) (w : List ℕ) → list_all is_capital (b ∷ w) ≡ true → (is_capital b ≡ true) × (list_all is_capital w ≡ true)
capital_parts b w h = and_parts (is_capital b) (list_all is_capital w) h

rest_case : (b : ℕ) (w : List ℕ) → HasOneCase (b ∷ w) → HasOneCase w
rest_case b w (inl h) = inl (small_parts b w h).1
rest_case b w (inr h) = inr (capital_parts b w h).1

-- behind a small letter all are small, and behind a capital one capital
small_rest : (b : ℕ) (w : List ℕ) → is_ascii_digit b ≡ false → is_ascii_uppercase b ≡ false → HasOneCase (b ∷ w) → list_all is_small w ≡ true
small_rest b w d c (inl h) = (small_parts b w h).1
small_rest b w d c (inr h) = (let bad : is_capital b ≡ true = (capital_parts b w h).0 in let no_way = rw (d, c) at bad in absurd cc)

capital_rest : (b : ℕ) (w : List ℕ) → is_ascii_digit b ≡ false → is_ascii_lowercase b ≡ false → HasOneCase (b ∷ w) → list_all is_capital w ≡ true
capital_rest b w d s (inr h) = (capital_parts b w h).1
capital_rest b w d s (inl h) = (let bad : is_small b ≡ true = (small_parts b w h).0 in let no_way = rw (d, s) at bad in absurd cc)

no_class : (b : ℕ) (w : List ℕ) → is_ascii_digit b ≡ false → is_ascii_lowercase b ≡ false → is_ascii_uppercase b ≡ false → HasOneCase (b ∷ w) → ⊥
no_class b w d s c (inl h) = (let bad : is_small b ≡ true = (small_parts b w h).0 in let no_way = rw (d, s) at bad in absurd cc)
no_class b w d s c (inr h) = (let bad : is_capital b ≡ true = (capital_parts b w h).0 in let no_way = rw (d, c) at bad in absurd cc)

goes : (p : Part) (b : ℕ) (w : List ℕ) → Tail p (b ∷ w) → Goes p b w
goes Start b w (begins, (long, h)) = elim (class b) [
  | a_digit d s c n ↦ (let bad = rw (s, c) at begins in absurd cc)
  | a_small d s c n ↦ record { to = Small; is = rw s refl; tail = small_rest b w d c h }
  | a_capital d s c n ↦ record { to = Capital; is = rw (s, c) refl; tail = capital_rest b w d s h }
  | another d s c ↦ absurd (no_class b w d s c h)
]
goes Hyphen b w (long, h) = elim (class b) [
  | a_digit d s c n ↦ record { to = Digits; is = rw d refl; tail = rest_case b w h }
  | a_small d s c n ↦ record { to = Small; is = rw (d, s) refl; tail = small_rest b w d c h }
  | a_capital d s c n ↦ record { to = Capital; is = rw (d, s, c) refl; tail = capital_rest b w d s h }
  | another d s c ↦ absurd (no_class b w d s c h)
]
goes Digits b w h = elim (class b) [
  | a_digit d s c n ↦ record { to = Digits; is = rw (n, d) refl; tail = rest_case b w h }
  | a_small d s c n ↦ record { to = Small; is = rw (n, d, s) refl; tail = small_rest b w d c h }
  | a_capital d s c n ↦ record { to = Capital; is = rw (n, d, s, c) refl; tail = capital_rest b w d s h }
  | another d s c ↦ absurd (no_class b w d s c h)
]
goes Small b w h = elim (class b) [
  | a_digit d s c n ↦ record { to = Small; is = rw (n, d) refl; tail = (small_parts b w h).1 }
  | a_small d s c n ↦ record { to = Small; is = rw (n, d, s) refl; tail = (small_parts b w h).1 }
  | a_capital d s c n ↦ (let bad : is_small b ≡ true = (small_parts b w h).0 in let no_way = rw (d, s) at bad in absurd cc)
  | another d s c ↦ absurd (no_class b w d s c (inl h))
]
goes Capital b w h = elim (class b) [
  | a_digit d s c n ↦ record { to = Capital; is = rw (n, d) refl; tail = (capital_parts b w h).1 }
  | a_small d s c n ↦ (let bad : is_capital b ≡ true = (capital_parts b w h).0 in let no_way = rw (d, c) at bad in absurd cc)
  | a_capital d s c n ↦ record { to = Capital; is = rw (n, d, c) refl; tail = (capital_parts b w h).1 }
  | another d s c ↦ absurd (no_class b w d s c (inr h))
]

again : (p : Part) (word : List ℕ) (more : List (List ℕ)) → Tail p word → Each IsWord more → goes_on p (joined word more) ≡ true
again Start [] more (begins, word) each = absurd begins
again Hyphen [] more (long, h) each = absurd (omega arith)
again Digits [] [] t each = refl
again Small [] [] t each = refl
again Capital [] [] t each = refl
again Digits [] (v ∷ more) t each = again Hyphen v more each.0 each.1
again Small [] (v ∷ more) t each = again Hyphen v more each.0 each.1
again Capital [] (v ∷ more) t each = again Hyphen v more each.0 each.1
again p (b ∷ word) more t each =
    let g = goes p b word t in
    sym (ap (goes_on p) (joined_cons b word more)) ∙ ap (λ o. and_then o (λ q. goes_on q (joined word more))) g.is ∙ again g.to word more g.tail each

-- ---- the whole

pub decides : (text : List ℕ) (r : Bool) → r ≡ is_identifier text → Decides r (IsIdentifier text)
unfolding is_identifier
decides text r e = (
  λ h. let l = found Start text (sym e ∙ h) in record { first = l.word; more = l.more; parts = l.parts; begins = l.tail.0; word = l.tail.1; each = l.each },
  λ i. e ∙ ap (goes_on Start) i.parts ∙ again Start i.first i.more (i.begins, i.word) i.each,
)
