-- The version at the front of a text is found, and what is found is one.
use Rattle.std.proofs.Common.{◌≡◌, ℕ, zero, suc, ◌+◌, ◌-◌, ◌*◌, ◌^◌, ◌<◌, ◌≤◌, ◌==◌, ◌||◌, ◌⊎◌, Bool, true, false, not, [], ◌∷◌, ◌++◌, length, take, drop, Option, Some, None, Result, Ok, Err, refl, sym, ap, subst, ◌∙◌, arith, inl, inr, append_assoc, length-append, length-take, take-append-drop}
use Rattle.std.specs.Prelude.{IsAscii, IsOk, is_ok, nat_le, if◌then◌else◌}
use Rattle.std.specs.Char.{is_ascii_digit, is_ascii_alphabetic}
use Rattle.std.specs.Fmt.{decimal}
use Rattle.std.proofs.lemmas.Bool.{cases_Bool, cases_eq, cases_lt, eqb-true, lt-leb, lt-ltb}
use Rattle.std.proofs.lemmas.Bool.Decides.{nat_tests}
use Rattle.std.proofs.Math.Seq.{take-append-add}
use Rattle.std.proofs.lemmas.Fmt.{decimal_digit}
use Rattle.semver.specs.Grammar.{is_pre_release, is_build}
use Rattle.semver.specs.Identifiers.{marked}
use Rattle.semver.proofs.Grammar.{bind-ok, version_parts-sound, version_parts-complete}
use Rattle.semver.proofs.Numerals.{ok-value}
use Rattle.std.proofs.lemmas.Str.Ascii.{IsAscii-cons, IsAscii-nil}
use Rattle.std.proofs.lemmas.Option.{same_Some}
use Rattle.std.proofs.lemmas.List.{drop-drop, nil_from_length}
use Rattle.semver.specs.Parse.{◌>>=◌, Parts, digits_from, dot_of, fail, identifier_of, is_bad_zero, is_letter, numeric, part_end, scan, starts_zero, tail_build, tail_end, tail_pre, version_parts}
use Rattle.semver.specs.declared.error.Error.{Error}
use Rattle.semver.specs.declared.error.ErrorKind.TheVariants as kind
use Rattle.semver.specs.declared.error.Position.{Position}
use Rattle.semver.specs.declared.error.Position.TheVariants as place
use Rattle.wit_words.specs.declared.version.Identifier.{Identifier}
use Rattle.wit_words.specs.declared.version.Identifier.TheVariants.{Empty, Zero, LeadingZero, Other}
use Rattle.wit_words.specs.declared.version.Number.{Number}
use Rattle.wit_words.specs.declared.version.Number.TheVariants.{Major, Minor, Patch}
use Rattle.wit_words.specs.declared.version.State.{State}
use Rattle.wit_words.specs.declared.version.State.TheVariants.{Before, Digits, Within}
use Rattle.wit_words.specs.declared.version.Tail.{Tail}
use Rattle.wit_words.specs.declared.version.Tail.TheVariants.{PreRelease, Build}
use Rattle.wit_words.specs.Version.{Text, AreDigits, IsNumeric, IsVersion, IsVersionFront, HasNoVersion, longer, digits, with_digit, may_end, behind, after, within, step, is_whole, is_past, reads_on, reads, one_more, onward, len_from, version_len}

abbrev Outcome : Type 0
Outcome = Result Parts Error

-- ---- what `semver` reads as a whole, byte by byte

-- numbers

abbrev NoDigit : Text → Type 0
NoDigit [] = Unit {0}
NoDigit (b ∷ z) = is_ascii_digit b ≡ false

-- what reads on behind a number reads what is accepted there
abbrev Follows : Number → (ℕ × Text → Outcome) → Type 0
Follows number f = (value : ℕ) (rest : Text) → NoDigit rest → is_ok (f (value, rest)) ≡ reads (Digits number (Some value)) rest

not_none : (n : ℕ) → 1 ≤ n → (n == 0) ≡ false
not_none n h = grind (arith, nat_tests)

digits_accepted : (pos : Position) (number : Number) (f : ℕ × Text → Outcome) (value len : ℕ) (z : Text) → 0 < len → Follows number f
    → is_ok (digits_from pos value len z >>= f) ≡ reads (Digits number (Some value)) z
unfolding digits_from
digits_accepted pos number f value len [] some h = rw (lt-ltb 0 len some) (h value [] tt)
digits_accepted pos number f zero len (b ∷ z) some h = elim (cases_Bool (is_ascii_digit b)) [
  | inl digit ↦ rw (digit, lt-ltb 0 len some) refl
  | inr other ↦ rw (other, lt-ltb 0 len some) (rw other at (h zero (b ∷ z) other))
]
digits_accepted pos number f (suc k) len (b ∷ z) some h = elim (cases_Bool (is_ascii_digit b)) [
  | inl digit ↦ elim (cases_Bool (nat_le (2 ^ 64) (suc k * 10 + (b - 48)))) [
    | inl over ↦ rw (digit, not_none (suc k) (omega arith), over) refl
    | inr fits ↦ rw (digit, not_none (suc k) (omega arith), fits) (digits_accepted pos number f (suc k * 10 + (b - 48)) (len + 1) z (omega arith) h)
  ]
  | inr other ↦ rw (other, lt-ltb 0 len some) (rw other at (h (suc k) (b ∷ z) other))
]

digit_fits : (b : ℕ) → is_ascii_digit b ≡ true → b - 48 < 2 ^ 64
digit_fits b e = grind (arith, nat_tests)

number_accepted : (pos : Position) (number : Number) (f : ℕ × Text → Outcome) (z : Text) → Follows number f
    → is_ok (numeric pos z >>= f) ≡ reads (Before number) z
unfolding digits_from
number_accepted pos number f [] h = refl
number_accepted pos number f (b ∷ z) h = elim (cases_Bool (is_ascii_digit b)) [
  | inl digit ↦
      let first : 0 * 10 + (b - 48) ≡ b - 48 = omega arith in
      rw (digit, first, lt-leb _ _ (digit_fits b digit)) (digits_accepted pos number f (b - 48) 1 z (omega arith) h)
  | inr other ↦ rw other refl
]

dot_accepted : (pos : Position) (number : Number) (g : Text → Outcome) (b : ℕ) (z : Text) → is_ok (g z) ≡ reads (Before number) z
    → is_ok (dot_of pos (b ∷ z) >>= g) ≡ reads_on (if b == 46 then Some (Before number) else None) (λ next. reads next z)
dot_accepted pos number g b z h = elim (cases_Bool (b == 46)) [
  | inl dot ↦ rw dot h
  | inr other ↦ rw other refl
]

-- identifiers

-- what `scan` holds of an identifier: its length, whether it has a byte that is no digit, whether it begins with a zero
abbrev Holds : Identifier → ℕ → Bool → Bool → Type 0
Holds Empty seg nondigit lead = (seg ≡ 0) × (nondigit ≡ false) × (lead ≡ false)
Holds Zero seg nondigit lead = (seg ≡ 1) × (nondigit ≡ false) × (lead ≡ true)
Holds LeadingZero seg nondigit lead = (2 ≤ seg) × (nondigit ≡ false) × (lead ≡ true)
Holds Other seg nondigit lead = (1 ≤ seg) × ((nondigit || not lead) ≡ true)

holds_digit : (i : Identifier) (seg : ℕ) (nondigit lead : Bool) (b : ℕ) → Holds i seg nondigit lead → Holds (with_digit i b) (seg + 1) nondigit (starts_zero lead seg b)
holds_digit Empty seg nondigit lead b h = elim (cases_Bool (b == 48)) [
  | inl is ↦ rw (is, h.0, h.1, h.2) (refl, refl, refl)
  | inr other ↦ rw (other, h.0, h.1, h.2) (omega arith, refl)
]
holds_digit Zero seg nondigit lead b h = (omega arith, h.1, rw h.2 refl)
holds_digit LeadingZero seg nondigit lead b h = (omega arith, h.1, rw h.2 refl)
holds_digit Other seg nondigit lead b h =
    let some : (seg == 0) ≡ false = grind (arith, nat_tests) in
    (omega arith, rw some (same lead h.1))
  where
    same : (lead : Bool) → (nondigit || not lead) ≡ true → (nondigit || not (lead || false)) ≡ true
    same true e = e
    same false e = e

abbrev position : Tail → Position
position PreRelease = place.Pre
position Build = place.Build

-- whether an identifier may end: one that isn't whole is refused
abbrev Ends : Tail → ℕ → Bool → Bool → Bool → Type 0
Ends tail seg nondigit lead true = ((seg == 0) ≡ false) × (is_bad_zero (position tail) seg nondigit lead ≡ false)
Ends tail seg nondigit lead false = ((seg == 0) ≡ true) ⊎ (((seg == 0) ≡ false) × (is_bad_zero (position tail) seg nondigit lead ≡ true))

holds_ends : (tail : Tail) (i : Identifier) (seg : ℕ) (nondigit lead : Bool) → Holds i seg nondigit lead → Ends tail seg nondigit lead (may_end tail i)
holds_ends PreRelease Empty seg nondigit lead h = inl (rw h.0 refl)
holds_ends Build Empty seg nondigit lead h = inl (rw h.0 refl)
holds_ends PreRelease Zero seg nondigit lead h = rw h.0 (refl, refl)
holds_ends Build Zero seg nondigit lead h = rw h.0 (refl, refl)
holds_ends PreRelease LeadingZero seg nondigit lead h = inr (not_none seg (omega arith), rw (lt-ltb 1 seg h.0, h.1, h.2) refl)
holds_ends Build LeadingZero seg nondigit lead h = (not_none seg (omega arith), refl)
holds_ends PreRelease Other seg nondigit lead h = (not_none seg h.0, grind (arith, nat_tests))
holds_ends Build Other seg nondigit lead h = (not_none seg h.0, refl)

-- what stands behind a whole identifier is accepted
abbrev behind_tail : Tail → Text → Bool
behind_tail tail [] = true
behind_tail PreRelease (b ∷ z) = if b == 43 then reads (Within Build Empty) z else false
behind_tail Build (b ∷ z) = false

abbrev taken : Position → Text → ℕ → Result (Text × Text) Error
taken pos xs n = if n == 0 then fail (kind.EmptySegment pos) else Ok (take n xs, drop n xs)

part_ends : (tail : Tail) (f : Text × Text → Outcome) (acc seg : ℕ) (nondigit lead : Bool) (xs z : Text) (whole : Bool) → Ends tail seg nondigit lead whole → drop (acc + seg) xs ≡ z
    → is_ok (part_end (position tail) acc seg nondigit lead >>= taken (position tail) xs >>= f) ≡ (if whole then is_ok (f (take (acc + seg) xs, z)) else false)
part_ends tail f acc seg nondigit lead xs z true h is =
    let some : (acc + seg == 0) ≡ false = grind (arith, nat_tests) in
    rw (h.0, h.1) (rw (some, is) refl)
part_ends tail f acc seg nondigit lead xs z false (inl none) is = elim (cases_Bool (acc == 0)) [
  | inl first ↦ rw (none, first) refl
  | inr later ↦ rw (none, later) refl
]
part_ends tail f acc seg nondigit lead xs z false (inr bad) is = rw (bad.0, bad.1) refl

drop_next : (n b : ℕ) (xs z : Text) → drop n xs ≡ b ∷ z → drop (n + 1) xs ≡ z
drop_next n b xs z e = sym (drop-drop 1 n xs) ∙ ap (drop 1) e

after_dot : (tail : Tail) (b : ℕ) → (b == 46) ≡ true → after tail b ≡ Some (Within tail Empty)
after_dot PreRelease b dot = rw dot refl
after_dot Build b dot = rw dot refl

after_end : (tail : Tail) (b : ℕ) (z : Text) → (b == 46) ≡ false → reads_on (after tail b) (λ next. reads next z) ≡ behind_tail tail (b ∷ z)
after_end PreRelease b z other = elim (cases_Bool (b == 43)) [
  | inl plus ↦ rw (other, plus) refl
  | inr none ↦ rw (other, none) refl
]
after_end Build b z other = rw other refl

module _ (tail : Tail) (f : Text × Text → Outcome) (xs : Text) (follows : (x rest : Text) → is_ok (f (x, rest)) ≡ behind_tail tail rest) where
  part_accepted : (i : Identifier) (acc seg : ℕ) (nondigit lead : Bool) (z : Text) → Holds i seg nondigit lead → drop (acc + seg) xs ≡ z
      → is_ok (part_end (position tail) acc seg nondigit lead >>= taken (position tail) xs >>= f) ≡ (if may_end tail i then behind_tail tail z else false)
  part_accepted i acc seg nondigit lead z h is =
      part_ends tail f acc seg nondigit lead xs z (may_end tail i) (holds_ends tail i seg nondigit lead h) is ∙ rw (follows (take (acc + seg) xs) z) refl

  scan_accepted : (i : Identifier) (acc seg : ℕ) (nondigit lead : Bool) (z : Text) → Holds i seg nondigit lead → drop (acc + seg) xs ≡ z
      → is_ok (scan (position tail) acc seg nondigit lead z >>= taken (position tail) xs >>= f) ≡ reads (Within tail i) z
  unfolding scan
  scan_accepted i acc seg nondigit lead [] h is = part_accepted i acc seg nondigit lead [] h is ∙ same (may_end tail i)
    where
      same : (whole : Bool) → (if whole then true else false) ≡ whole
      same true = refl
      same false = refl
  scan_accepted i acc seg nondigit lead (b ∷ z) h is = elim (cases_Bool (is_letter b)) [
    | inl letter ↦ rw letter (scan_accepted Other acc (seg + 1) true lead z (omega arith, refl) (same_part next))
    | inr plain ↦ elim (cases_Bool (is_ascii_digit b)) [
      | inl digit ↦ rw (plain, digit) (scan_accepted (with_digit i b) acc (seg + 1) nondigit (starts_zero lead seg b) z (holds_digit i seg nondigit lead b h) (same_part next))
      | inr none ↦ elim (cases_Bool (b == 46)) [
        | inl dot ↦ rw (plain, none, dot) (dotted dot (may_end tail i) (holds_ends tail i seg nondigit lead h) (scan_accepted Empty (acc + seg + 1) 0 false false z (refl, refl, refl) (next_part next)))
        | inr other ↦ rw (plain, none, other) (part_accepted i acc seg nondigit lead (b ∷ z) h is ∙ ended other (may_end tail i))
      ]
    ]
  ]
    where
      next : drop (acc + seg + 1) xs ≡ z
      next = drop_next (acc + seg) b xs z is

      same_part : drop (acc + seg + 1) xs ≡ z → drop (acc + (seg + 1)) xs ≡ z
      same_part e = let sum : acc + (seg + 1) ≡ acc + seg + 1 = omega arith in rw sum e

      next_part : drop (acc + seg + 1) xs ≡ z → drop (acc + seg + 1 + 0) xs ≡ z
      next_part e = let sum : acc + seg + 1 + 0 ≡ acc + seg + 1 = omega arith in rw sum e

      dotted : b == 46 ≡ true → (whole : Bool) → Ends tail seg nondigit lead whole
          → is_ok (scan (position tail) (acc + seg + 1) 0 false false z >>= taken (position tail) xs >>= f) ≡ reads (Within tail Empty) z
          → is_ok ((if seg == 0 then fail (kind.EmptySegment (position tail)) else if is_bad_zero (position tail) seg nondigit lead then fail (kind.LeadingZero (position tail)) else scan (position tail) (acc + seg + 1) 0 false false z) >>= taken (position tail) xs >>= f)
          ≡ reads_on (if whole then after tail b else None) (λ next. reads next z)
      dotted dot true h more = rw (h.0, h.1, after_dot tail b dot) more
      dotted dot false (inl empty) more = rw empty refl
      dotted dot false (inr bad) more = rw (bad.0, bad.1) refl

      ended : b == 46 ≡ false → (whole : Bool) → (if whole then behind_tail tail (b ∷ z) else false) ≡ reads_on (if whole then after tail b else None) (λ next. reads next z)
      ended other true = sym (after_end tail b z other)
      ended other false = refl

identifier_accepted : (tail : Tail) (f : Text × Text → Outcome) (xs : Text) → ((x rest : Text) → is_ok (f (x, rest)) ≡ behind_tail tail rest)
    → is_ok (identifier_of (position tail) xs >>= f) ≡ reads (Within tail Empty) xs
identifier_accepted tail f xs follows = scan_accepted tail f xs follows Empty 0 0 false false xs (refl, refl, refl) refl

-- whole versions

end_accepted : (a b c : ℕ) (pre build rest : Text) → is_ok (tail_end place.Build a b c pre build rest) ≡ behind_tail Build rest
end_accepted a b c pre build [] = refl
end_accepted a b c pre build (x ∷ z) = refl

build_accepted : (pos : Position) (a b c : ℕ) (pre rest : Text) → is_ok (tail_build pos a b c pre rest) ≡ behind_tail PreRelease rest
build_accepted pos a b c pre [] = refl
build_accepted pos a b c pre (x ∷ z) = elim (cases_Bool (x == 43)) [
  | inl plus ↦ rw plus (identifier_accepted Build (λ y. tail_end place.Build a b c pre y.0 y.1) z (end_accepted a b c pre))
  | inr other ↦ rw other refl
]

patch_follows : (a b : ℕ) → Follows Patch (λ x. tail_pre a b x.0 x.1)
patch_follows a b value [] stop = refl
patch_follows a b value (x ∷ z) stop = elim (cases_Bool (x == 45)) [
  | inl minus ↦ rw (stop, minus) (identifier_accepted PreRelease (λ y. tail_build place.Pre a b value y.0 y.1) z (build_accepted place.Pre a b value))
  | inr other ↦ rw (stop, other) (build_accepted place.Patch a b value [] (x ∷ z) ∙ same)
]
  where
    same : (if x == 43 then reads (Within Build Empty) z else false) ≡ reads_on (if x == 43 then Some (Within Build Empty) else None) (λ next. reads next z)
    same = elim (cases_Bool (x == 43)) [
      | inl plus ↦ rw plus refl
      | inr other ↦ rw other refl
    ]

minor_follows : (a : ℕ) → Follows Minor (λ x. dot_of place.Minor x.1 >>= λ u. numeric place.Patch u >>= λ y. tail_pre a x.0 y.0 y.1)
minor_follows a value [] stop = refl
minor_follows a value (b ∷ z) stop =
    rw stop (dot_accepted place.Minor Patch (λ u. numeric place.Patch u >>= λ y. tail_pre a value y.0 y.1) b z (number_accepted place.Patch Patch _ z (patch_follows a value)))

major_follows : Follows Major (λ x. dot_of place.Major x.1 >>= λ t. numeric place.Minor t >>= λ y. dot_of place.Minor y.1 >>= λ u. numeric place.Patch u >>= λ w. tail_pre x.0 y.0 w.0 w.1)
major_follows value [] stop = refl
major_follows value (b ∷ z) stop =
    rw stop (dot_accepted place.Major Minor (λ t. numeric place.Minor t >>= λ y. dot_of place.Minor y.1 >>= λ u. numeric place.Patch u >>= λ w. tail_pre value y.0 w.0 w.1) b z (number_accepted place.Minor Minor _ z (minor_follows value)))

-- `semver` reads what is read so
pub version_read : (x : Text) → is_ok (version_parts x) ≡ reads (Before Major) x
version_read [] = refl
version_read (b ∷ z) =
    let some : (length (b ∷ z) == 0) ≡ false = not_none (length (b ∷ z)) (omega arith) in
    rw some (number_accepted place.Major Major _ (b ∷ z) major_follows)

-- ---- what is a version as a whole, byte by byte

abbrev goes_on : Option State → (State → Bool) → Bool
goes_on None next = false
goes_on (Some state) next = next state

abbrev accepts : State → Text → Bool
accepts state [] = is_whole state
accepts state (b ∷ z) = goes_on (step state b) (λ next. accepts next z)

-- behind a tail's mark no number is read

abbrev InTail : Option State → Type 0
InTail None = Unit {0}
InTail (Some (Within tail i)) = Unit {0}
InTail (Some state) = ⊥

after_in_tail : (tail : Tail) (b : ℕ) → InTail (after tail b)
after_in_tail PreRelease b = elim (cases_Bool (b == 46)) [
  | inl dot ↦ rw dot tt
  | inr other ↦ elim (cases_Bool (b == 43)) [
    | inl plus ↦ rw (other, plus) tt
    | inr none ↦ rw (other, none) tt
  ]
]
after_in_tail Build b = elim (cases_Bool (b == 46)) [
  | inl dot ↦ rw dot tt
  | inr other ↦ rw other tt
]

within_in_tail : (tail : Tail) (i : Identifier) (b : ℕ) → InTail (within tail i b)
within_in_tail tail i b = elim (cases_Bool (is_ascii_alphabetic b || b == 45)) [
  | inl letter ↦ rw letter tt
  | inr plain ↦ elim (cases_Bool (is_ascii_digit b)) [
    | inl digit ↦ rw (plain, digit) tt
    | inr none ↦ elim (cases_Bool (may_end tail i)) [
      | inl whole ↦ rw (plain, none, whole) (after_in_tail tail b)
      | inr open_one ↦ rw (plain, none, open_one) tt
    ]
  ]
]

tail_same : (tail : Tail) (i : Identifier) (z : Text) → accepts (Within tail i) z ≡ reads (Within tail i) z
tail_same tail i [] = refl
tail_same tail i (b ∷ z) = go (within tail i b) (within_in_tail tail i b) (λ t j. tail_same t j z)
  where
    go : (o : Option State) → InTail o → ((t : Tail) (j : Identifier) → accepts (Within t j) z ≡ reads (Within t j) z)
        → goes_on o (λ next. accepts next z) ≡ reads_on o (λ next. reads next z)
    go None h same = refl
    go (Some (Within t j)) h same = same t j
    go (Some (Before n)) h same = absurd h
    go (Some (Digits n v)) h same = absurd h

-- behind the numbers stand a pre-release and build metadata

patch_same : (t : Text) → NoDigit t → accepts (Digits Patch (Some 0)) t ≡ reads (Digits Patch (Some 0)) t
patch_same [] stop = refl
patch_same (b ∷ z) stop = elim (cases_Bool (b == 45)) [
  | inl minus ↦ rw (stop, minus) (tail_same PreRelease Empty z)
  | inr other ↦ elim (cases_Bool (b == 43)) [
    | inl plus ↦ rw (stop, other, plus) (tail_same Build Empty z)
    | inr none ↦ rw (stop, other, none) refl
  ]
]

-- the text of a version whose numbers are zeros
abbrev zeros : Text → Text
zeros t = 48 ∷ 46 ∷ 48 ∷ 46 ∷ 48 ∷ t

zeros_read : (t : Text) → NoDigit t → version_parts (zeros t) ≡ tail_pre 0 0 0 t
unfolding digits_from
zeros_read [] stop = refl
zeros_read (b ∷ z) stop = rw (not_none (length (zeros (b ∷ z))) (omega arith), stop) refl

is_ok_some : (r : Outcome) → is_ok r ≡ true → (p : Parts) × (r ≡ Ok p)
is_ok_some (Ok p) h = (p, refl)
is_ok_some (Err e) h = absurd cc

abbrev HasZeros : Parts → Type 0
HasZeros p = (p.0 ≡ 0) × (p.1 ≡ 0) × (p.2 ≡ 0)

end_zeros : (pos : Position) (pre build rest : Text) (p : Parts) → tail_end pos 0 0 0 pre build rest ≡ Ok p → HasZeros p
end_zeros pos pre build [] p h = let same = ok-value _ _ h in (sym (ap (λ (q : Parts). q.0) same), sym (ap (λ (q : Parts). q.1) same), sym (ap (λ (q : Parts). q.2) same))
end_zeros pos pre build (x ∷ r) p h = absurd cc

build_zeros : (pos : Position) (pre text : Text) (p : Parts) → tail_build pos 0 0 0 pre text ≡ Ok p → HasZeros p
build_zeros pos pre [] p h = end_zeros pos pre [] [] p h
build_zeros pos pre (x ∷ r) p h = elim (cases_Bool (x == 43)) [
  | inl plus ↦ let b = bind-ok (identifier_of place.Build r) _ p (rw plus at h) in end_zeros place.Build pre b.0.0 b.0.1 p b.2
  | inr other ↦ end_zeros pos pre [] (x ∷ r) p (rw other at h)
]

pre_zeros : (text : Text) (p : Parts) → tail_pre 0 0 0 text ≡ Ok p → HasZeros p
pre_zeros [] p h = build_zeros place.Patch [] [] p h
pre_zeros (x ∷ r) p h = elim (cases_Bool (x == 45)) [
  | inl minus ↦ let b = bind-ok (identifier_of place.Pre r) _ p (rw minus at h) in build_zeros place.Pre b.0.0 b.0.1 p b.2
  | inr other ↦ build_zeros place.Patch [] (x ∷ r) p (rw other at h)
]

zero_text : decimal 0 ≡ 48 ∷ []
zero_text = decimal_digit 0 (omega arith)

-- the tail is of the grammar
pub record IsTail (t : Text) : Type 0 where
  pub pre : Text
  pub build : Text
  pub parts : t ≡ marked 45 pre ++ marked 43 build
  pub pre_release : is_pre_release pre ≡ true
  pub metadata : is_build build ≡ true

tail_is : (t : Text) → NoDigit t → accepts (Digits Patch (Some 0)) t ≡ true → IsTail t
tail_is t stop h =
    let read = patch_follows 0 0 0 t stop ∙ sym (patch_same t stop) ∙ h in
    let some = is_ok_some (tail_pre 0 0 0 t) read in
    let p = some.0 in
    let sound = version_parts-sound (zeros t) p (zeros_read t stop ∙ some.1) in
    let none = pre_zeros t p some.1 in
    let back : zeros (marked 45 p.3 ++ marked 43 p.4) ≡ zeros t = rw (none.0, none.1, none.2, zero_text) at sound.0 in
    record { pre = p.3; build = p.4; parts = sym (ap (drop 5) back); pre_release = sound.1.3; metadata = sound.1.4 }

marked_no_digit : (pre build : Text) → NoDigit (marked 45 pre ++ marked 43 build)
marked_no_digit [] [] = tt
marked_no_digit [] (y ∷ ys) = refl
marked_no_digit (x ∷ xs) build = refl

tail_passes : (pre build : Text) → is_pre_release pre ≡ true → is_build build ≡ true → accepts (Digits Patch (Some 0)) (marked 45 pre ++ marked 43 build) ≡ true
tail_passes pre build good well =
    let t = marked 45 pre ++ marked 43 build in
    let stop = marked_no_digit pre build in
    let whole = version_parts-complete (0, 0, 0, pre, build) (omega arith, omega arith, omega arith, good, well) in
    let read : version_parts (zeros t) ≡ Ok (0, 0, 0, pre, build) = rw zero_text at whole in
    patch_same t stop ∙ sym (patch_follows 0 0 0 t stop) ∙ ap is_ok (sym (zeros_read t stop) ∙ read)

-- numbers of any size

any_value : (n : Number) (v w : Option ℕ) (t : Text) → NoDigit t → accepts (Digits n v) t ≡ accepts (Digits n w) t
any_value Major v w [] stop = refl
any_value Minor v w [] stop = refl
any_value Patch v w [] stop = refl
any_value n v w (b ∷ z) stop = rw stop refl

-- the number isn't a lone zero
abbrev IsMore : Option ℕ → Type 0
IsMore None = Unit {0}
IsMore (Some zero) = ⊥
IsMore (Some (suc k)) = Unit {0}

is_more : (m : ℕ) → 0 < m → IsMore (Some m)
is_more zero h = absurd (omega arith)
is_more (suc k) h = tt

longer_more : (v : Option ℕ) (digit : ℕ) → IsMore v → IsMore (longer v digit)
longer_more None digit h = tt
longer_more (Some zero) digit h = absurd h
longer_more (Some (suc k)) digit h = elim (cases_Bool (nat_le (2 ^ 64) (suc k * 10 + digit))) [
  | inl over ↦ rw over tt
  | inr fits ↦ rw fits (is_more (suc k * 10 + digit) (omega arith))
]

digits_more : (n : Number) (v : Option ℕ) (digit : ℕ) → IsMore v → digits n v digit ≡ Some (Digits n (longer v digit))
digits_more n None digit h = refl
digits_more n (Some zero) digit h = absurd h
digits_more n (Some (suc k)) digit h = refl

step_more : (n : Number) (v : Option ℕ) (b : ℕ) → IsMore v → is_ascii_digit b ≡ true → step (Digits n v) b ≡ Some (Digits n (longer v (b - 48)))
step_more n v b h digit = rw digit (digits_more n v (b - 48) h)

more_passes : (n : Number) (v : Option ℕ) (x t : Text) → IsMore v → AreDigits x → NoDigit t → accepts (Digits n v) (x ++ t) ≡ accepts (Digits n (Some 0)) t
more_passes n v [] t h digits stop = any_value n v (Some 0) t stop
more_passes n v (b ∷ x) t h digits stop =
    ap (λ o. goes_on o (λ next. accepts next (x ++ t))) (step_more n v b h digits.0) ∙ more_passes n (longer v (b - 48)) x t (longer_more v (b - 48) h) digits.1 stop

digit_low : (b : ℕ) → is_ascii_digit b ≡ true → 48 ≤ b
digit_low b h = grind (arith, nat_tests)

number_passes : (n : Number) (x t : Text) → IsNumeric x → NoDigit t → accepts (Before n) (x ++ t) ≡ accepts (Digits n (Some 0)) t
number_passes n [] t h stop = absurd h
number_passes n (b ∷ x) t h stop =
    let low = digit_low b h.0.0 in
    elim (cases_eq b 48) [
      | inl is ↦ rw (h.0.0, h.1 is, is) refl
      | inr other ↦ rw h.0.0 (more_passes n (Some (b - 48)) x t (is_more (b - 48) (omega arith)) h.0.1 stop)
    ]

-- digits, and what stands behind them
pub record Parted (n : Number) (x : Text) : Type 0 where
  pub digits : Text
  pub rest : Text
  pub parts : x ≡ digits ++ rest
  pub are : AreDigits digits
  pub stop : NoDigit rest
  pub accepted : accepts (Digits n (Some 0)) rest ≡ true

more_parts : (n : Number) (v : Option ℕ) (x : Text) → IsMore v → accepts (Digits n v) x ≡ true → Parted n x
more_parts n v [] h e = record { digits = []; rest = []; parts = refl; are = tt; stop = tt; accepted = any_value n (Some 0) v [] tt ∙ e }
more_parts n v (b ∷ x) h e = elim (cases_Bool (is_ascii_digit b)) [
  | inl digit ↦
      let on = ap (λ o. goes_on o (λ next. accepts next x)) (sym (step_more n v b h digit)) ∙ e in
      let p = more_parts n (longer v (b - 48)) x (longer_more v (b - 48) h) on in
      record { digits = b ∷ p.digits; rest = p.rest; parts = ap (λ l. b ∷ l) p.parts; are = (digit, p.are); stop = p.stop; accepted = p.accepted }
  | inr other ↦ record { digits = []; rest = b ∷ x; parts = refl; are = tt; stop = other; accepted = any_value n (Some 0) v (b ∷ x) other ∙ e }
]

-- a number, and what stands behind it
pub record Numbered (n : Number) (x : Text) : Type 0 where
  pub number : Text
  pub rest : Text
  pub parts : x ≡ number ++ rest
  pub is : IsNumeric number
  pub stop : NoDigit rest
  pub accepted : accepts (Digits n (Some 0)) rest ≡ true

number_parts : (n : Number) (x : Text) → accepts (Before n) x ≡ true → Numbered n x
number_parts n [] e = absurd cc
number_parts n (b ∷ x) e = elim (cases_Bool (is_ascii_digit b)) [
  | inl digit ↦ elim (cases_eq b 48) [
    | inl is ↦ zero_parts digit is x (rw (digit, is) at e)
    | inr other ↦
        let low = digit_low b digit in
        let p = more_parts n (Some (b - 48)) x (is_more (b - 48) (omega arith)) (rw digit at e) in
        record { number = b ∷ p.digits; rest = p.rest; parts = ap (λ l. b ∷ l) p.parts; is = ((digit, p.are), λ same. absurd (other same)); stop = p.stop; accepted = p.accepted }
  ]
  | inr other ↦ absurd (let no = rw other at e in cc)
]
  where
    zero_parts : is_ascii_digit b ≡ true → b ≡ 48 → (x : Text) → accepts (Digits n (Some 0)) x ≡ true → Numbered n (b ∷ x)
    zero_parts digit is [] e = record { number = b ∷ []; rest = []; parts = refl; is = ((digit, tt), λ _. refl); stop = tt; accepted = e }
    zero_parts digit is (c ∷ x) e = elim (cases_Bool (is_ascii_digit c)) [
      | inl more ↦ absurd (let no = rw more at e in cc)
      | inr stop ↦ record { number = b ∷ []; rest = c ∷ x; parts = refl; is = ((digit, tt), λ _. refl); stop = stop; accepted = e }
    ]

-- a dot behind a number, and the next
dot_parts : (n next : Number) (t : Text) → NoDigit t → is_whole (Digits n (Some 0)) ≡ false → ((b : ℕ) → behind n b ≡ (if b == 46 then Some (Before next) else None)) → accepts (Digits n (Some 0)) t ≡ true
    → (u : Text) × (t ≡ 46 ∷ u) × (accepts (Before next) u ≡ true)
dot_parts n next [] stop open_one dots e = absurd (let no = sym open_one ∙ e in cc)
dot_parts n next (b ∷ z) stop open_one dots e = elim (cases_Bool (b == 46)) [
  | inl dot ↦ (z, ap (λ c. c ∷ z) (eqb-true b 46 dot), rw (stop, dots b, dot) at e)
  | inr other ↦ absurd (let no = rw (stop, dots b, other) at e in cc)
]

version_is : (x : Text) → accepts (Before Major) x ≡ true → IsVersion x
version_is x h =
    let major = number_parts Major x h in
    let first = dot_parts Major Minor major.rest major.stop refl (λ b. refl) major.accepted in
    let minor = number_parts Minor first.0 first.2 in
    let second = dot_parts Minor Patch minor.rest minor.stop refl (λ b. refl) minor.accepted in
    let patch = number_parts Patch second.0 second.2 in
    let tail = tail_is patch.rest patch.stop patch.accepted in
    record {
      major = major.number;
      minor = minor.number;
      patch = patch.number;
      pre = tail.pre;
      build = tail.build;
      parts = major.parts ∙ ap (λ l. major.number ++ l) (first.1 ∙ ap (λ l. 46 ∷ l) (minor.parts ∙ ap (λ l. minor.number ++ l) (second.1 ∙ ap (λ l. 46 ∷ l) (patch.parts ∙ ap (λ l. patch.number ++ l) tail.parts))));
      numbers = (major.is, minor.is, patch.is);
      pre_release = tail.pre_release;
      metadata = tail.metadata;
    }

pub version_passes : (x : Text) → IsVersion x → accepts (Before Major) x ≡ true
version_passes x h =
    let tail = marked 45 h.pre ++ marked 43 h.build in
    let third = number_passes Patch h.patch tail h.numbers.2 (marked_no_digit h.pre h.build) ∙ tail_passes h.pre h.build h.pre_release h.metadata in
    let second = number_passes Minor h.minor (46 ∷ (h.patch ++ tail)) h.numbers.1 refl ∙ third in
    rw h.parts (number_passes Major h.major (46 ∷ (h.minor ++ (46 ∷ (h.patch ++ tail)))) h.numbers.0 refl ∙ second)

-- what `semver` reads is a version

reads_accepts : (state : State) (x : Text) → reads state x ≡ true → accepts state x ≡ true
reads_accepts state [] h = h
reads_accepts state (b ∷ z) h = go (step state b) h (λ next. reads_accepts next z)
  where
    go : (o : Option State) → reads_on o (λ next. reads next z) ≡ true → ((next : State) → reads next z ≡ true → accepts next z ≡ true) → goes_on o (λ next. accepts next z) ≡ true
    go None h more = absurd cc
    go (Some next) h more = elim (cases_Bool (is_past next)) [
      | inl past ↦ absurd (let no = rw past at h in cc)
      | inr fits ↦ more next (rw fits at h)
    ]

pub semver_reads : (x : Text) → IsOk (version_parts x) → IsVersion x
semver_reads x h = version_is x (reads_accepts (Before Major) x (sym (version_read x) ∙ h))

-- ---- the longest front that is accepted

onward_some : (o : Option State) (next : State → Option ℕ) (n : ℕ) → onward o next ≡ Some n → (state : State) × (o ≡ Some state) × (one_more (is_whole state) (next state) ≡ Some n)
onward_some None next n e = absurd cc
onward_some (Some state) next n e = (state, refl, e)

one_more_some : (whole : Bool) (o : Option ℕ) (n : ℕ) → one_more whole o ≡ Some n → ((m : ℕ) × (o ≡ Some m) × (n ≡ m + 1)) ⊎ ((whole ≡ true) × (n ≡ 1))
one_more_some whole (Some m) n e = inl (m, refl, cc)
one_more_some true None n e = inr (refl, cc)
one_more_some false None n e = absurd cc

goes_on_some : (o : Option State) (next : State → Bool) → goes_on o next ≡ true → (state : State) × (o ≡ Some state) × (next state ≡ true)
goes_on_some None next e = absurd cc
goes_on_some (Some state) next e = (state, refl, e)

abbrev AtLeast : ℕ → Option ℕ → Type 0
AtLeast least o = (n : ℕ) × (o ≡ Some n) × (least ≤ n)

one_more_whole : (o : Option ℕ) → AtLeast 1 (one_more true o)
one_more_whole (Some n) = (n + 1, refl, omega arith)
one_more_whole None = (1, refl, omega arith)

len_at_least : (state : State) (x rest : Text) → accepts state x ≡ true → AtLeast (length x + 1) (one_more (is_whole state) (len_from state (x ++ rest)))
len_at_least state [] rest h = rw h (one_more_whole (len_from state rest))
len_at_least state (b ∷ x) rest h =
    let s = goes_on_some (step state b) (λ next. accepts next x) h in
    let more = len_at_least s.0 x rest s.2 in
    (more.0 + 1, ap (one_more (is_whole state)) (ap (λ o. onward o (λ next. len_from next (x ++ rest))) s.1 ∙ more.1), omega arith)

len_accepted : (state : State) (z : Text) (n : ℕ) → len_from state z ≡ Some n → (1 ≤ n) × (n ≤ length z) × (accepts state (take n z) ≡ true)
len_accepted state [] n e = absurd cc
len_accepted state (b ∷ z) n e =
    let s = onward_some (step state b) (λ next. len_from next z) n e in
    elim (one_more_some (is_whole s.0) (len_from s.0 z) n s.2) [
      | inl (m, is, more) ↦
          let h = len_accepted s.0 z m is in
          let sum : n ≡ suc m = omega arith in
          (omega arith, omega arith, rw (sum, s.1) h.2)
      | inr (whole, one) ↦ (omega arith, omega arith, rw (one, s.1) whole)
    ]

front_at_least : (x rest : Text) → IsVersion x → AtLeast (length x) (version_len (x ++ rest))
unfolding version_len
front_at_least x rest h =
    let more = len_at_least (Before Major) x rest (version_passes x h) in
    elim (one_more_some false (len_from (Before Major) (x ++ rest)) more.0 more.1) [
      | inl (n, is, one) ↦ (n, is, omega arith)
      | inr (whole, one) ↦ absurd cc
    ]

front_is : (z : Text) (n : ℕ) → version_len z ≡ Some n → IsVersion (take n z)
unfolding version_len
front_is z n e = version_is (take n z) (len_accepted (Before Major) z n e).2

pub version_within : (z : Text) (n : ℕ) → version_len z ≡ Some n → (1 ≤ n) × (n ≤ length z)
unfolding version_len
version_within z n e = let h = len_accepted (Before Major) z n e in (h.0, h.1)

pub version_found : (z : Text) (n : ℕ) → version_len z ≡ Some n → IsVersionFront (take n z) (drop n z)
version_found z n e = record { version = front_is z n e; longest = ends }
  where
    ends : (more behind : Text) → drop n z ≡ more ++ behind → IsVersion (take n z ++ more) → more ≡ []
    ends more behind is h =
        let least = front_at_least (take n z ++ more) behind h in
        let whole : (take n z ++ more) ++ behind ≡ z = append_assoc (take n z) more behind ∙ ap (λ t. take n z ++ t) (sym is) ∙ take-append-drop n z in
        let same = same_Some n least.0 (sym e ∙ ap version_len (sym whole) ∙ least.1) in
        let fits = version_within z n e in
        nil_from_length more (omega (arith, length-append (take n z) more, length-take n z))

pub version_only : (x rest : Text) → IsVersionFront x rest → version_len (x ++ rest) ≡ Some (length x)
version_only x rest h =
    let least = front_at_least x rest h.version in
    let fits = version_within (x ++ rest) least.0 least.1 in
    let more = least.0 - length x in
    let sum : least.0 ≡ length x + more = omega arith in
    let whole : take least.0 (x ++ rest) ≡ x ++ take more rest = ap (λ n. take n (x ++ rest)) sum ∙ take-append-add x rest more in
    let none = h.longest (take more rest) (drop more rest) (sym (take-append-drop more rest)) (subst IsVersion whole (front_is (x ++ rest) least.0 least.1)) in
    let same : least.0 ≡ length x = omega (arith, ap length none, length-take more rest, length-append x rest) in
    least.1 ∙ ap (λ n. Some n) same

pub no_version_found : (z : Text) → version_len z ≡ None → HasNoVersion z
no_version_found z e x rest is h = absurd (let least = front_at_least x rest h in let found = sym e ∙ ap version_len is ∙ least.1 in cc)

pub no_version_only : (z : Text) → HasNoVersion z → version_len z ≡ None
no_version_only z none = go (version_len z) refl
  where
    go : (o : Option ℕ) → version_len z ≡ o → version_len z ≡ None
    go None e = e
    go (Some n) e = absurd (none (take n z) (drop n z) (sym (take-append-drop n z)) (front_is z n e))

-- ---- what bytes a version has

behind_high : (number : Number) (b : ℕ) → 128 ≤ b → behind number b ≡ None
behind_high Major b h = grind (arith, nat_tests)
behind_high Minor b h = grind (arith, nat_tests)
behind_high Patch b h = grind (arith, nat_tests)

after_high : (tail : Tail) (b : ℕ) → 128 ≤ b → after tail b ≡ None
after_high PreRelease b h = grind (arith, nat_tests)
after_high Build b h = grind (arith, nat_tests)

digit_high : (b : ℕ) → 128 ≤ b → is_ascii_digit b ≡ false
digit_high b h = grind (arith, nat_tests)

letter_high : (b : ℕ) → 128 ≤ b → is_letter b ≡ false
letter_high b h = grind (arith, nat_tests)

step_high : (state : State) (b : ℕ) → 128 ≤ b → step state b ≡ None
step_high (Before number) b h = rw (digit_high b h) refl
step_high (Digits number value) b h = rw (digit_high b h) (behind_high number b h)
step_high (Within tail i) b h = rw (letter_high b h, digit_high b h, after_high tail b h) (same (may_end tail i))
  where
    same : (whole : Bool) → ◌≡◌ {A = Option State} (if whole then None else None) None
    same true = refl
    same false = refl

step_ascii : (state next : State) (b : ℕ) → step state b ≡ Some next → b < 128
step_ascii state next b e = elim (cases_lt b 128) [
  | inl low ↦ low
  | inr high ↦ absurd (let none = step_high state b high in cc)
]

accepted_ascii : (state : State) (x : Text) → accepts state x ≡ true → IsAscii x
accepted_ascii state [] h = IsAscii-nil
accepted_ascii state (b ∷ x) h =
    let s = goes_on_some (step state b) (λ next. accepts next x) h in
    IsAscii-cons b x (step_ascii state s.0 b s.1) (accepted_ascii s.0 x s.2)

pub version_ascii : (x : Text) → IsVersion x → IsAscii x
version_ascii x h = accepted_ascii (Before Major) x (version_passes x h)

-- a version begins with a digit
pub version_digit : (x : Text) → IsVersion x → (b : ℕ) × (y : Text) × (x ≡ b ∷ y) × (is_ascii_digit b ≡ true)
version_digit [] h = absurd (let no = version_passes [] h in cc)
version_digit (b ∷ y) h = elim (cases_Bool (is_ascii_digit b)) [
  | inl digit ↦ (b, y, refl, digit)
  | inr other ↦ absurd (let refused = rw other at (version_passes (b ∷ y) h) in cc)
]

-- ---- the length, as a loop finds it

-- the length, where this many bytes were read and the last place was longest
abbrev pub so_far : Option ℕ → ℕ → Option ℕ → Option ℕ
so_far longest at None = longest
so_far longest at (Some n) = Some (at + n)

pub from_start : (z : Text) → so_far None 0 (len_from (Before Major) z) ≡ version_len z
unfolding version_len
from_start z = go (len_from (Before Major) z)
  where
    go : (o : Option ℕ) → so_far None 0 o ≡ o
    go None = refl
    go (Some n) = ap (λ m. Some m) (omega arith)
