-- Several of one kind: where each is known, up to a sign, and up to the end.
use Rattle.std.specs.Prelude.{◌≡◌, ℕ, zero, suc, ◌≤◌, List, [], ◌∷◌, ◌++◌, length, Option, Some, None, Result, Ok, Bool, true, false, ◌==◌, if◌then◌else◌}
use Rattle.binary_grammar.specs.declared.fault.Fault.{Fault}
use Rattle.binary_grammar.specs.declared.fault.Rule.TheVariants as rules
use Rattle.binary_grammar.specs.Format.{Format, Whole, Joins, Behind, Each, ◌>>=◌, yield, byte, wrong, and_then}

-- ---- so many, each where those before it are known

-- what is known behind all of them
abbrev pub grown : {S X : Type 0} → (S → X → S) → S → List X → S
grown grow s [] = s
grown grow s (x ∷ xs) = grown grow (grow s x) xs

unfoldable pub series : {S X : Type 0} → (S → Format X) → (S → X → S) → ℕ → S → Format (List X)
series f grow zero s = yield []
series f grow (suc n) s = do
  x ← f s
  xs ← series f grow n (grow s x)
  yield (x ∷ xs)

-- ---- up to a sign

-- what was read, and what is read behind it; or the sign, behind which nothing is read
abbrev pub onward : {X : Type 0} → Option X → List ℕ → Result (List X × List ℕ) Fault → Result (List X × List ℕ) Fault
onward None rest more = Ok ([], rest)
onward (Some x) rest more = and_then more (λ xs. Ok (x ∷ xs.0, xs.1))

-- one after the other, for each value, and then the sign, which stands for none
abbrev pub Until : {X : Type 0} → (List ℕ → Option X → Type 0) → List ℕ → List X → Type 0
Until F bytes [] = F bytes None
Until F bytes (x ∷ xs) = Joins (λ s. F s (Some x)) (λ s. Until F s xs) bytes

unfoldable pub until_at : {X : Type 0} → (List ℕ → Result (Option X × List ℕ) Fault) → ℕ → List ℕ → Result (List X × List ℕ) Fault
until_at read zero bytes = wrong rules.Short bytes
until_at read (suc fuel) bytes = and_then (read bytes) (λ x. onward x.0 x.1 (until_at read fuel x.1))

-- some stand there, and the next one breaks
abbrev pub UntilBreak : {X : Type 0} → Format (Option X) → List ℕ → Fault → Type 0
UntilBreak f bytes e = Behind (Each (λ s x. f.form s (Some x))) (λ _ back. f.breaks back e) bytes

abbrev pub until : {X : Type 0} → Format (Option X) → Format (List X)
until f = record {
  form = Until f.form;
  breaks = UntilBreak f;
  read = λ bytes. until_at f.read (suc (length bytes)) bytes;
}

-- the sign, or a value
abbrev pub unless : {X : Type 0} → Bool → Format X → Format (Option X)
unless true f = yield None
unless false f = do
  x ← f
  yield (Some x)

-- values, each behind a byte that says which it is, up to the byte that says that none follows
abbrev pub up_to : {X : Type 0} → ℕ → (ℕ → Format X) → Format (List X)
up_to last next = until (byte >>= (λ b. unless (b == last) (next b)))

-- ---- up to the end

-- steps up to the end, each where those before it are known
abbrev pub AreSteps : {S X : Type 0} → (S → List ℕ → X → Type 0) → (S → X → S) → S → List ℕ → List X → Type 0
AreSteps F grow s bytes [] = bytes ≡ []
AreSteps F grow s bytes (x ∷ xs) = Joins (λ t. F s t x) (λ t. AreSteps F grow (grow s x) t xs) bytes

-- some steps stand there, and the next one breaks
pub data StepsBreak {S X : Type 0} (step : S → Format X) (grow : S → X → S) : S → List ℕ → Fault → Type 0 where
  here : (s : S) (bytes : List ℕ) (e : Fault) → 1 ≤ length bytes → (step s).breaks bytes e → StepsBreak step grow s bytes e
  later : (s : S) (x : X) (bytes front back : List ℕ) (e : Fault) → bytes ≡ front ++ back → (step s).form front x → StepsBreak step grow (grow s x) back e → StepsBreak step grow s bytes e

unfoldable pub steps_at : {S X : Type 0} → (S → List ℕ → Result (X × List ℕ) Fault) → (S → X → S) → ℕ → S → List ℕ → Result (List X) Fault
steps_at read grow zero s bytes = if length bytes == 0 then Ok [] else wrong rules.Short bytes
steps_at read grow (suc fuel) s bytes = if length bytes == 0 then Ok [] else and_then (read s bytes) (λ x. and_then (steps_at read grow fuel (grow s x.0) x.1) (λ xs. Ok (x.0 ∷ xs)))

-- what was read before, and what is read of all that is left
abbrev pub onto_all : {X : Type 0} → List X → Result (List X) Fault → Result (List X) Fault
onto_all front read = and_then read (λ xs. Ok (front ++ xs))

abbrev pub to_end : {S X : Type 0} → (S → Format X) → (S → X → S) → S → Whole (List X)
to_end step grow s = record {
  form = AreSteps (λ t. (step t).form) grow s;
  breaks = StepsBreak step grow s;
  read = λ bytes. steps_at (λ t. (step t).read) grow (length bytes) s bytes;
}
