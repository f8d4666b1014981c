-- What a grammar is made of, and its faces: which bytes stand for which value, where they break a rule, how they are read,
-- and how a value is written.
use Rattle.std.specs.Prelude.{◌≡◌, ℕ, zero, suc, ℤ, ◌<◌, ◌≤◌, ◌^◌, ◌/◌, ◌%◌, ◌+◌, ◌-◌, List, [], ◌∷◌, ◌++◌, length, Result, Ok, Bool, true, false, nat_lt, ◌==◌, if◌then◌else◌}
use Rattle.std.specs.Str.{is_utf8}
use Rattle.std.specs.List.{flat_map, All}
use Rattle.binary_grammar.specs.declared.fault.Rule.{Rule}
use Rattle.binary_grammar.specs.declared.fault.Rule.TheVariants as rules
use Rattle.binary_grammar.specs.Format as f
use Rattle.binary_grammar.specs.Format.{Format, Whole}
use Rattle.binary_grammar.specs.Judged.{passed, weigh, then_all, seen_as}
use Rattle.binary_grammar.specs.Several as several
use Rattle.binary_grammar.specs.Signed.{signed, signed_bytes, lies_in}

-- what is known of the end: nothing, so that any bytes may stand behind, or that it is all of some bytes
pub data Extent : Type 0 where
  unbounded : Extent
  bounded : Extent

-- A grammar by its extent, by what is known where it stands, and by its values. What is known reaches tests alone: which
-- parts there are doesn't depend on it.
pub data Syntax : Extent → Type 0 → Type 0 → Type 1 where
  -- a byte
  one_byte : {C : Type 0} → Syntax unbounded C ℕ
  -- a number of at most 32 bits (WebAssembly Core, Binary Format, Values, Integers)
  number : {C : Type 0} → Syntax unbounded C ℕ
  -- a signed number of so many bits
  signed_number : {C : Type 0} → ℕ → Syntax unbounded C ℤ
  -- so many bytes
  some_bytes : {C : Type 0} → ℕ → Syntax unbounded C (List ℕ)
  -- a length, and so many bytes of UTF-8 (Values, Names)
  some_name : {C : Type 0} → Syntax unbounded C (List ℕ)
  -- no bytes, and this value
  gives : {C X : Type 0} → X → Syntax unbounded C X
  -- nothing: any bytes break this rule
  refuses : {C X : Type 0} → Rule → Syntax unbounded C X
  -- those whose value passes a test; a break lies where they begin
  tested : {C X : Type 0} → Rule → (C → X → Bool) → Syntax unbounded C X → Syntax unbounded C X
  -- a value that stands for another one, which shows it, or that breaks a rule where it begins
  judged : {C A B : Type 0} → (C → A → Result B Rule) → (B → A) → Syntax unbounded C A → Syntax unbounded C B
  -- those that pass a test of how many bytes they take
  measured : {C X : Type 0} → Rule → (ℕ → X → Bool) → Syntax unbounded C X → Syntax unbounded C X
  -- a part, which of the whole it is, and what stands behind it
  part : {e : Extent} {C A B : Type 0} → Syntax unbounded C A → (B → A) → (A → Syntax e C B) → Syntax e C B
  -- so many, each where those before it are known
  times : {C X : Type 0} → (C → X → C) → Syntax unbounded C X → ℕ → Syntax unbounded C (List X)
  -- values, each behind a byte that says which it is, up to the byte that says that none follows
  up_to : {C X : Type 0} → ℕ → (X → ℕ) → (ℕ → Syntax unbounded C X) → Syntax unbounded C (List X)
  -- a size, and so many bytes, which are this
  sized : {C X : Type 0} → Syntax bounded C X → Syntax unbounded C X
  -- the same, where this is known
  where_known : {e : Extent} {C D X : Type 0} → (C → D) → Syntax e D X → Syntax e C X
  -- nothing stands behind it
  exactly : {C X : Type 0} → Syntax unbounded C X → Syntax bounded C X
  -- anything may stand behind it, and isn't written
  begins : {C X : Type 0} → Syntax unbounded C X → Syntax bounded C X
  -- whatever the bytes are
  everything : {C : Type 0} → Syntax bounded C (List ℕ)
  -- the value together with all of the bytes
  keeping : {C X : Type 0} → Syntax bounded C X → Syntax bounded C (X × List ℕ)
  -- under another view
  seen : {C A B : Type 0} → (A → B) → (B → A) → Syntax bounded C A → Syntax bounded C B
  -- steps up to the end, each behind a byte that says which it is, and where those before it are known
  steps : {C X : Type 0} → (C → X → C) → (X → ℕ) → (ℕ → Syntax unbounded C X) → Syntax bounded C (List X)

-- one of two grammars
abbrev pub pick : {e : Extent} {C X : Type 0} → Bool → Syntax e C X → Syntax e C X → Syntax e C X
pick true s t = s
pick false s t = t

-- ---- the faces form, breaks and read

abbrev pub Faces : Extent → Type 0 → Type 1
Faces unbounded X = Format X
Faces bounded X = Whole X

abbrev pub then_in : (e : Extent) (A B : Type 0) → Format A → (A → Faces e B) → Faces e B
then_in unbounded A B first next = f.◌>>=◌ first next
then_in bounded A B first next = then_all first next

abbrev pub meaning : {e : Extent} {C X : Type 0} → Syntax e C X → C → Faces e X
meaning one_byte there = f.byte
meaning number there = f.u32
meaning (signed_number bits) there = signed bits
meaning (some_bytes n) there = f.chunk n
meaning some_name there = f.name
meaning (gives x) there = f.yield x
meaning (refuses rule) there = f.refuse rule
meaning (tested rule test s) there = f.such rule (test there) (meaning s there)
meaning (judged judge view s) there = weigh (λ _ x. judge there x) (meaning s there)
meaning (measured rule test s) there = weigh (λ size x. passed rule (test size x) x) (meaning s there)
meaning (part {e = e} {A = A} {B = B} s view next) there = then_in e A B (meaning s there) (λ a. meaning (next a) there)
meaning (times grow s n) there = several.series (meaning s) grow n there
meaning (up_to last which next) there = several.up_to last (λ b. meaning (next b) there)
meaning (sized s) there = f.◌>>=◌ f.u32 (λ n. f.sized (meaning s there) n)
meaning (where_known known s) there = meaning s (known there)
meaning (exactly s) there = f.exactly (meaning s there)
meaning (begins s) there = f.begins (meaning s there)
meaning everything there = f.everything
meaning (keeping s) there = f.keeping (meaning s there) (λ x bytes. (x, bytes))
meaning (seen make view s) there = seen_as make (meaning s there)
meaning (steps grow which next) there = several.to_end (λ t. f.◌>>=◌ f.byte (λ b. meaning (next b) t)) grow there

-- ---- the face bytes

-- a number in unsigned LEB128, in at most so many bytes and one more
unfoldable pub leb_bytes : ℕ → ℕ → List ℕ
leb_bytes zero n = n ∷ []
leb_bytes (suc k) n = if nat_lt n 128 then n ∷ [] else (n % 128 + 128) ∷ leb_bytes k (n / 128)

unfoldable pub u32_bytes : ℕ → List ℕ
u32_bytes n = leb_bytes 4 n

-- bytes behind their length
abbrev pub with_length : List ℕ → List ℕ
with_length xs = u32_bytes (length xs) ++ xs

-- the shortest bytes of a value
abbrev pub bytes : {e : Extent} {C X : Type 0} → Syntax e C X → X → List ℕ
bytes one_byte b = b ∷ []
bytes number n = u32_bytes n
bytes (signed_number bits) z = signed_bytes bits z
bytes (some_bytes n) xs = xs
bytes some_name xs = with_length xs
bytes (gives x) y = []
bytes (refuses rule) y = []
bytes (tested rule test s) x = bytes s x
bytes (judged judge view s) y = bytes s (view y)
bytes (measured rule test s) x = bytes s x
bytes (part s view next) y = bytes s (view y) ++ bytes (next (view y)) y
bytes (times grow s n) xs = flat_map (bytes s) xs
bytes (up_to last which next) xs = flat_map (λ x. which x ∷ bytes (next (which x)) x) xs ++ last ∷ []
bytes (sized s) x = with_length (bytes s x)
bytes (where_known known s) x = bytes s x
bytes (exactly s) x = bytes s x
bytes (begins s) x = bytes s x
bytes everything xs = xs
bytes (keeping s) y = y.1
bytes (seen make view s) y = bytes s (view y)
bytes (steps grow which next) xs = flat_map (λ x. which x ∷ bytes (next (which x)) x) xs

-- ---- which values have bytes

-- UTF-8, of which 32 bits can say the length
abbrev pub IsText : List ℕ → Type 0
IsText xs = (is_utf8 xs ≡ true) × (length xs < 2 ^ 32)

-- what the types of the code say of a value: its numbers have so many bits, also its counts and lengths, and its names are text
abbrev pub IsTyped : {e : Extent} {C X : Type 0} → Syntax e C X → X → Type 0
IsTyped one_byte b = Unit {0}
IsTyped number n = n < 2 ^ 32
IsTyped (signed_number bits) z = (1 ≤ bits) × (lies_in (2 ^ (bits - 1)) z ≡ true)
IsTyped (some_bytes n) xs = Unit {0}
IsTyped some_name xs = IsText xs
IsTyped (gives x) y = Unit {0}
IsTyped (refuses rule) y = Unit {0}
IsTyped (tested rule test s) x = IsTyped s x
IsTyped (judged judge view s) y = IsTyped s (view y)
IsTyped (measured rule test s) x = IsTyped s x
IsTyped (part s view next) y = IsTyped s (view y) × IsTyped (next (view y)) y
IsTyped (times grow s n) xs = All (IsTyped s) xs
IsTyped (up_to last which next) xs = All (λ x. IsTyped (next (which x)) x) xs
IsTyped (sized s) x = IsTyped s x × (length (bytes s x) < 2 ^ 32)
IsTyped (where_known known s) x = IsTyped s x
IsTyped (exactly s) x = IsTyped s x
IsTyped (begins s) x = IsTyped s x
IsTyped everything xs = Unit {0}
IsTyped (keeping s) y = Unit {0}
IsTyped (seen make view s) y = IsTyped s (view y)
IsTyped (steps grow which next) xs = All (λ x. IsTyped (next (which x)) x) xs

-- each holds where those before it are known
abbrev pub EachWhere : {C X : Type 0} → (C → X → Type 0) → (C → X → C) → C → List X → Type 0
EachWhere P grow there [] = Unit {0}
EachWhere P grow there (x ∷ xs) = P there x × EachWhere P grow (grow there x) xs

-- a value meets the tests and is made of its parts
abbrev pub Meets : {e : Extent} {C X : Type 0} → Syntax e C X → C → X → Type 0
Meets one_byte there b = Unit {0}
Meets number there n = Unit {0}
Meets (signed_number bits) there z = Unit {0}
Meets (some_bytes n) there xs = length xs ≡ n
Meets some_name there xs = Unit {0}
Meets (gives x) there y = y ≡ x
Meets (refuses rule) there y = ⊥
Meets (tested rule test s) there x = Meets s there x × (test there x ≡ true)
Meets (judged judge view s) there y = Meets s there (view y) × (judge there (view y) ≡ Ok y)
Meets (measured rule test s) there x = Meets s there x × (test (length (bytes s x)) x ≡ true)
Meets (part s view next) there y = Meets s there (view y) × Meets (next (view y)) there y
Meets (times grow s n) there xs = EachWhere (Meets s) grow there xs × (length xs ≡ n)
Meets (up_to last which next) there xs = All (λ x. Meets (next (which x)) there x × ((which x == last) ≡ false)) xs
Meets (sized s) there x = Meets s there x
Meets (where_known known s) there x = Meets s (known there) x
Meets (exactly s) there x = Meets s there x
Meets (begins s) there x = Meets s there x
Meets everything there xs = Unit {0}
Meets (keeping s) there y = (meaning s there).form y.1 y.0
Meets (seen make view s) there y = Meets s there (view y) × (make (view y) ≡ y)
Meets (steps grow which next) there xs = EachWhere (λ t x. Meets (next (which x)) t x) grow there xs

-- ---- how rules are written

pub record PartOf (C B A : Type 0) : Type 1 where
  pub syntax_of : Syntax unbounded C A
  pub view : B → A

infixl 12 ◌◂◌
-- this part of the whole
abbrev pub ◌◂◌ : {C A B : Type 0} → (B → A) → Syntax unbounded C A → PartOf C B A
view ◂ s = record { syntax_of = s; view = view }

infixl 10 ◌>>=◌
abbrev pub ◌>>=◌ : {e : Extent} {C A B : Type 0} → PartOf C B A → (A → Syntax e C B) → Syntax e C B
p >>= next = part p.syntax_of p.view next

-- this byte
abbrev pub byte_is : {C : Type 0} → Rule → ℕ → Syntax unbounded C ℕ
byte_is rule n = tested rule (λ _ b. b == n) one_byte

-- a section: which it is, and its content behind the size (Modules, Sections)
abbrev pub section : {C X : Type 0} → ℕ → Syntax bounded C X → Syntax unbounded C X
section id s = do
  i ← (λ _. id) ◂ byte_is rules.Tag id
  sized s

-- a count, and so many (Conventions, Vectors), each where those before it are known
abbrev pub growing : {C X : Type 0} → (C → X → C) → Syntax unbounded C X → Syntax unbounded C (List X)
growing grow s = do
  n ← length ◂ number
  times grow s n

-- a count, and so many
abbrev pub vec : {C X : Type 0} → Syntax unbounded C X → Syntax unbounded C (List X)
vec s = growing (λ there _. there) s
