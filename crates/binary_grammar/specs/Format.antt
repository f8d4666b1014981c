-- Formats: which bytes stand for which value, where bytes break a rule, and the reading from left to right that finds both.
use Rattle.std.specs.Prelude.{◌≡◌, ℕ, zero, suc, ◌+◌, ◌-◌, ◌*◌, ◌<◌, ◌≤◌, ◌^◌, ◌⊎◌, List, [], ◌∷◌, ◌++◌, length, take, drop, Result, Ok, Err, Bool, true, false, nat_lt, ◌==◌, if◌then◌else◌}
use Rattle.std.specs.Str.{is_utf8}
use Rattle.binary_grammar.specs.declared.fault.Fault.{Fault}
use Rattle.binary_grammar.specs.declared.fault.Rule.{Rule}
use Rattle.binary_grammar.specs.declared.fault.Rule.TheVariants as rules
use Rattle.binary_grammar.specs.declared.fault.ReadError.{ReadError}
use Rattle.binary_grammar.specs.declared.fault.ReadError.TheVariants as errors

-- form says which bytes stand for which value. breaks says where bytes break a rule: the parts of the form stand
-- in them, one after the other, up to the one that breaks this rule, and so many bytes are left there. read takes
-- bytes of the form from the front, or says which rule is broken.
pub record Format (X : Type 0) : Type 1 where
  pub form : List ℕ → X → Type 0
  pub breaks : List ℕ → Fault → Type 0
  pub read : List ℕ → Result (X × List ℕ) Fault

-- the same, of all of the bytes
pub record Whole (X : Type 0) : Type 1 where
  pub form : List ℕ → X → Type 0
  pub breaks : List ℕ → Fault → Type 0
  pub read : List ℕ → Result X Fault

-- this rule is broken where these bytes begin
abbrev pub fault_at : Rule → List ℕ → Fault
fault_at rule bytes = record { rule = rule; left = length bytes }

abbrev pub wrong : {X : Type 0} → Rule → List ℕ → Result X Fault
wrong rule bytes = Err (fault_at rule bytes)

abbrev pub and_then : {A B : Type 0} → Result A Fault → (A → Result B Fault) → Result B Fault
and_then (Ok x) f = f x
and_then (Err e) f = Err e

-- ---- one part after the other

-- bytes in two parts: the second may speak of the first's value
pub record Then {A B : Type 0} (F : List ℕ → A → Type 0) (G : A → List ℕ → B → Type 0) (bytes : List ℕ) (y : B) : Type 0 where
  pub value : A
  pub front : List ℕ
  pub back : List ℕ
  pub parts : bytes ≡ front ++ back
  pub first : F front value
  pub second : G value back y

-- the form stands at the front, and of the bytes behind it something is said
pub record Behind {X : Type 0} (F : List ℕ → X → Type 0) (G : X → List ℕ → Type 0) (bytes : List ℕ) : Type 0 where
  pub value : X
  pub front : List ℕ
  pub back : List ℕ
  pub parts : bytes ≡ front ++ back
  pub first : F front value
  pub second : G value back

infixl 10 ◌>>=◌
-- one part and then another; a break is in the first, or behind it in the second
abbrev pub ◌>>=◌ : {A B : Type 0} → Format A → (A → Format B) → Format B
f >>= g = record {
  form = Then f.form (λ a. (g a).form);
  breaks = λ bytes e. f.breaks bytes e ⊎ Behind f.form (λ a back. (g a).breaks back e) bytes;
  read = λ bytes. and_then (f.read bytes) (λ a. (g a.0).read a.1);
}

-- no bytes, and this value
abbrev pub yield : {X : Type 0} → X → Format X
yield x = record { form = λ bytes y. (bytes ≡ []) × (y ≡ x); breaks = λ bytes e. ⊥; read = λ bytes. Ok (x, bytes) }

-- nothing: any bytes break this rule
abbrev pub refuse : {X : Type 0} → Rule → Format X
refuse rule = record { form = λ bytes y. ⊥; breaks = λ bytes e. e ≡ fault_at rule bytes; read = λ bytes. wrong rule bytes }

-- the value that was found, or the rule that is broken
abbrev pub judge : {X : Type 0} → Result X Rule → Format X
judge (Ok x) = yield x
judge (Err rule) = refuse rule

-- those whose value passes a test; where it fails, the break is where they begin
abbrev pub such : {X : Type 0} → Rule → (X → Bool) → Format X → Format X
such rule test f = record {
  form = λ bytes x. f.form bytes x × (test x ≡ true);
  breaks = λ bytes e. f.breaks bytes e ⊎ Behind f.form (λ x back. (test x ≡ false) × (e ≡ fault_at rule bytes)) bytes;
  read = λ bytes. and_then (f.read bytes) (λ x. if test x.0 then Ok x else wrong rule bytes);
}

-- ---- bytes

abbrev pub byte_at : List ℕ → Result (ℕ × List ℕ) Fault
byte_at [] = wrong rules.Short []
byte_at (b ∷ rest) = Ok (b, rest)

-- a byte; at the end there is none
abbrev pub byte : Format ℕ
byte = record { form = λ bytes b. bytes ≡ b ∷ []; breaks = λ bytes e. (bytes ≡ []) × (e ≡ fault_at rules.Short []); read = byte_at }

-- that many bytes, or there are fewer
abbrev pub chunk : ℕ → Format (List ℕ)
chunk n = record {
  form = λ bytes x. (bytes ≡ x) × (length x ≡ n);
  breaks = λ bytes e. (length bytes < n) × (e ≡ fault_at rules.Short bytes);
  read = λ bytes. if nat_lt (length bytes) n then wrong rules.Short bytes else Ok (take n bytes, drop n bytes);
}

-- ---- numbers: unsigned LEB128 (WebAssembly Core, Binary Format, Values, Integers)

-- A byte below 128 is the last, and stands for itself. One from 128 on has the low seven bits, and the
-- bytes after it stand for the rest.
abbrev pub IsLeb : List ℕ → ℕ → Type 0
IsLeb [] n = ⊥
IsLeb (b ∷ []) n = (b < 128) × (n ≡ b)
IsLeb (b ∷ c ∷ bs) n = (128 ≤ b) × (high : ℕ) × (n + 128 ≡ b + 128 * high) × IsLeb (c ∷ bs) high

-- a number of at most 32 bits in at most five bytes
pub record IsU32 (bytes : List ℕ) (n : ℕ) : Type 0 where
  pub digits : IsLeb bytes n
  pub short : length bytes ≤ 5
  pub small : n < 2 ^ 32

-- every one of the bytes says that another digit is behind it
abbrev pub AllGoOn : List ℕ → Type 0
AllGoOn [] = Unit {0}
AllGoOn (b ∷ bs) = (128 ≤ b) × AllGoOn bs

-- the bytes end within the number, before so many digits are there
pub record EndsWithin (most : ℕ) (bytes : List ℕ) (e : Fault) : Type 0 where
  pub digits : AllGoOn bytes
  pub few : length bytes < most
  pub place : e ≡ fault_at rules.Short []

-- so many digits are there, and the number still goes on
pub record GoesOn (most : ℕ) (bytes : List ℕ) (e : Fault) : Type 0 where
  pub front : List ℕ
  pub back : List ℕ
  pub parts : bytes ≡ front ++ back
  pub digits : AllGoOn front
  pub many : length front ≡ most
  pub place : e ≡ fault_at rules.Number back

-- a number stands there that has more than 32 bits
pub record IsTooLarge (bytes : List ℕ) (e : Fault) : Type 0 where
  pub number : ℕ
  pub front : List ℕ
  pub back : List ℕ
  pub parts : bytes ≡ front ++ back
  pub digits : IsLeb front number
  pub short : length front ≤ 5
  pub large : 2 ^ 32 ≤ number
  pub place : e ≡ fault_at rules.Number bytes

-- how bytes break the rules of a number of at most 32 bits in at most five bytes
abbrev pub BreaksU32 : List ℕ → Fault → Type 0
BreaksU32 bytes e = EndsWithin 5 bytes e ⊎ (GoesOn 5 bytes e ⊎ IsTooLarge bytes e)

-- the digits, of which there are at most as many
unfoldable pub leb_at : ℕ → List ℕ → Result (ℕ × List ℕ) Fault
leb_at zero bytes = wrong rules.Number bytes
leb_at (suc k) bytes = and_then (byte_at bytes) (λ b. if nat_lt b.0 128 then Ok b else and_then (leb_at k b.1) (λ high. Ok (b.0 - 128 + 128 * high.0, high.1)))

unfoldable pub u32_at : List ℕ → Result (ℕ × List ℕ) Fault
u32_at bytes = and_then (leb_at 5 bytes) (λ n. if nat_lt n.0 (2 ^ 32) then Ok n else wrong rules.Number bytes)

abbrev pub u32 : Format ℕ
u32 = record { form = IsU32; breaks = BreaksU32; read = u32_at }

-- a number below a limit
abbrev pub index : ℕ → Format ℕ
index limit = such rules.Index (λ i. nat_lt i limit) u32

-- a size, and so many bytes
abbrev pub counted_bytes : Format (List ℕ)
counted_bytes = u32 >>= chunk

-- ---- names (Values, Names): a length, and so many bytes of UTF-8

unfoldable pub name : Format (List ℕ)
name = do
  n ← u32
  such rules.Text is_utf8 (chunk n)

-- ---- several of one kind

-- bytes in two parts
pub record Joins (P Q : List ℕ → Type 0) (bytes : List ℕ) : Type 0 where
  pub front : List ℕ
  pub back : List ℕ
  pub parts : bytes ≡ front ++ back
  pub first : P front
  pub second : Q back

-- one after the other, for each value
abbrev pub Each : {X : Type 0} → (List ℕ → X → Type 0) → List ℕ → List X → Type 0
Each F bytes [] = bytes ≡ []
Each F bytes (x ∷ xs) = Joins (λ s. F s x) (λ s. Each F s xs) bytes

-- ---- all of some bytes

-- nothing stands behind it; a break is in it, or some bytes stand behind it
abbrev pub exactly : {X : Type 0} → Format X → Whole X
exactly f = record {
  form = f.form;
  breaks = λ bytes e. f.breaks bytes e ⊎ Behind f.form (λ x back. (1 ≤ length back) × (e ≡ fault_at rules.Trailing back)) bytes;
  read = λ bytes. and_then (f.read bytes) (λ x. if length x.1 == 0 then Ok x.0 else wrong rules.Trailing x.1);
}

-- anything may stand behind it
abbrev pub begins : {X : Type 0} → Format X → Whole X
begins f = record {
  form = Then f.form (λ x _ z. z ≡ x);
  breaks = f.breaks;
  read = λ bytes. and_then (f.read bytes) (λ x. Ok x.0);
}

-- whatever the bytes are
abbrev pub everything : Whole (List ℕ)
everything = record { form = λ bytes x. x ≡ bytes; breaks = λ bytes e. ⊥; read = λ bytes. Ok bytes }

-- the value together with the bytes
pub record Kept {X Y : Type 0} (F : List ℕ → X → Type 0) (make : X → List ℕ → Y) (bytes : List ℕ) (y : Y) : Type 0 where
  pub value : X
  pub formed : F bytes value
  pub made : y ≡ make value bytes

abbrev pub keeping : {X Y : Type 0} → Whole X → (X → List ℕ → Y) → Whole Y
keeping w make = record {
  form = Kept w.form make;
  breaks = w.breaks;
  read = λ bytes. and_then (w.read bytes) (λ x. Ok (make x bytes));
}

-- what a rule is called that is broken inside of a size: bytes behind the size don't mend what ends too soon in it
abbrev pub inner_rule : Rule → Rule
inner_rule rules.Short = rules.Size
inner_rule rule = rule

-- a fault inside of a size, seen from bytes that go on for so many more behind it
abbrev pub outward : ℕ → Fault → Fault
outward k f = record { rule = inner_rule f.rule; left = f.left + k }

abbrev pub beyond : {X : Type 0} → ℕ → Result X Fault → Result X Fault
beyond k (Ok x) = Ok x
beyond k (Err f) = Err (outward k f)

-- that many bytes stand at the front and break a rule; what is left there goes on behind them
pub record BreaksInside (B : List ℕ → Fault → Type 0) (n : ℕ) (bytes : List ℕ) (e : Fault) : Type 0 where
  pub inside : List ℕ
  pub after : List ℕ
  pub parts : bytes ≡ inside ++ after
  pub size : length inside ≡ n
  pub inner : Fault
  pub broken : B inside inner
  pub place : e ≡ outward (length after) inner

-- that many bytes, which are this; in a break there are fewer, or they break a rule
abbrev pub sized : {X : Type 0} → Whole X → ℕ → Format X
sized w n = record {
  form = λ bytes x. w.form bytes x × (length bytes ≡ n);
  breaks = λ bytes e. (length bytes < n) × (e ≡ fault_at rules.Short bytes) ⊎ BreaksInside w.breaks n bytes e;
  read = λ bytes. if nat_lt (length bytes) n then wrong rules.Short bytes else and_then (beyond (length (drop n bytes)) (w.read (take n bytes))) (λ x. Ok (x, drop n bytes));
}

-- ---- what loops keep

-- what was read before, and what is read behind it
abbrev pub onto : {X : Type 0} → List X → Result (List X × List ℕ) Fault → Result (List X × List ℕ) Fault
onto front read = and_then read (λ x. Ok (front ++ x.0, x.1))

-- an error inside of a size, seen from bytes that go on behind it
abbrev pub further : ℕ → ReadError → ReadError
further k errors.Memory = errors.Memory
further k (errors.Malformed f) = errors.Malformed (outward k f)

abbrev pub CanMove : ℕ → ReadError → Type 0
CanMove k errors.Memory = Unit {0}
CanMove k (errors.Malformed f) = f.left + k < 2 ^ 64
