-- Productions: which tokens stand for which value between two places, and the reading from left to right that finds it.
use Rattle.std.specs.Prelude.{◌≡◌, ℕ, zero, suc, ◌-◌, ◌<◌, ◌⊎◌, List, [], ◌∷◌, ◌++◌, length, take, Option, Some, None, Result, Ok, Err, Bool, true, false, if◌then◌else◌}
use Rattle.wit_productions.specs.declared.fault.Fault.{Fault}
use Rattle.wit_tokens.specs.Passed.wit_words-declared-fault-Rule.{Rule}
use Rattle.wit_tokens.specs.Passed.wit_words-declared-fault-Rule-TheVariants as rules
use Rattle.wit_productions.specs.declared.fault.ReadError.{ReadError}
use Rattle.wit_productions.specs.declared.fault.ReadError.TheVariants as errors
use Rattle.wit_tokens.specs.Passed.wit_words-declared-token-Kind.{Kind}
use Rattle.wit_tokens.specs.Passed.wit_words-declared-token-Kind-TheVariants as kind
use Rattle.wit_tokens.specs.Passed.wit_words-declared-source_map-Span.{Span}
use Rattle.wit_tokens.specs.Passed.wit_words-Slice.{Slice}
use Rattle.wit_tokens.specs.Passed.wit_words-Token.{What, Tok, plain, number, version, ident, explicit, same_kind}

abbrev pub Outcome : Type 0 → Type 0
Outcome A = Result (A × List Tok) Fault

-- front says which tokens, from one place to a later one, stand for which value.
-- read takes such tokens from the front, or says what is wrong.
pub record Production (X : Type 0) : Type 1 where
  pub front : X → List Tok → List Tok → Type 0
  pub read : List Tok → Outcome X

abbrev pub wrong : {X : Type 0} → Rule → List Tok → Outcome X
wrong rule ts = Err (record { rule = rule; left = length ts })

abbrev pub and_then : {A B : Type 0} → Outcome A → (A → List Tok → Outcome B) → Outcome B
and_then (Ok p) f = f p.0 p.1
and_then (Err e) f = Err e

-- one after the other: the second may speak of the first's value
pub record Then {A B : Type 0} (f : Production A) (g : A → Production B) (y : B) (ts rest : List Tok) : Type 0 where
  pub value : A
  pub mid : List Tok
  pub first : f.front value ts mid
  pub second : (g value).front y mid rest

infixl 10 ◌>>=◌
abbrev pub ◌>>=◌ : {A B : Type 0} → Production A → (A → Production B) → Production B
f >>= g = record { front = Then f g; read = λ ts. and_then (f.read ts) (λ a. (g a).read) }

infixl 10 ◌>>◌
abbrev pub ◌>>◌ : {A B : Type 0} → Production A → Production B → Production B
f >> g = f >>= (λ _. g)

-- no tokens, and this value
abbrev pub yield : {X : Type 0} → X → Production X
yield x = record { front = λ y ts rest. (ts ≡ rest) × (y ≡ x); read = λ ts. Ok (x, ts) }

abbrev pub refuse : {X : Type 0} → Rule → Production X
refuse rule = record { front = λ y ts rest. ⊥; read = λ ts. wrong rule ts }

abbrev pub is_kind : Kind → What → Bool
is_kind k (plain j) = same_kind j k
is_kind k (number s) = false
is_kind k (version s) = false
is_kind k (ident s) = false
is_kind k (explicit s) = false

unfoldable pub sees : Kind → List Tok → Bool
sees k [] = false
sees k (t ∷ ts) = is_kind k t.what

unfoldable pub after : Kind → List Tok → List Tok
after k [] = []
after k (t ∷ ts) = if is_kind k t.what then ts else t ∷ ts

-- a sign or keyword stands there, whatever docs are in front of it
pub record Stands (k : Kind) (ts rest : List Tok) : Type 0 where
  pub token : Tok
  pub first : ts ≡ token ∷ rest
  pub is : token.what ≡ plain k

-- a sign or keyword
unfoldable pub sign : Kind → Production (Unit {0})
sign k = record { front = λ _ ts rest. Stands k ts rest; read = λ ts. if sees k ts then Ok (tt, after k ts) else wrong rules.Unexpected (after k ts) }

-- a token that is judged by itself
abbrev pub judged : {X : Type 0} → List Tok → Result X Rule → List Tok → Outcome X
judged whole (Ok x) ts = Ok (x, ts)
judged whole (Err rule) ts = wrong rule whole

abbrev pub one_at : {X : Type 0} → (What → Result X Rule) → List Tok → Outcome X
one_at judge [] = wrong rules.Unexpected []
one_at judge (t ∷ ts) = judged (t ∷ ts) (judge t.what) ts

pub record Taken {X : Type 0} (judge : What → Result X Rule) (x : X) (ts rest : List Tok) : Type 0 where
  pub token : Tok
  pub first : ts ≡ token ∷ rest
  pub good : judge token.what ≡ Ok x

abbrev pub one : {X : Type 0} → (What → Result X Rule) → Production X
one judge = record { front = Taken judge; read = one_at judge }

-- a token that is judged by itself, and where it stands
abbrev pub spanned : Span → Result (List ℕ) Rule → Result Slice Rule
spanned span (Ok s) = Ok (record { text = s; span = span })
spanned span (Err rule) = Err rule

abbrev pub slice_at : (What → Result (List ℕ) Rule) → List Tok → Outcome Slice
slice_at judge [] = wrong rules.Unexpected []
slice_at judge (t ∷ ts) = judged (t ∷ ts) (spanned t.span (judge t.what)) ts

pub record Stood (judge : What → Result (List ℕ) Rule) (s : Slice) (ts rest : List Tok) : Type 0 where
  pub token : Tok
  pub first : ts ≡ token ∷ rest
  pub good : judge token.what ≡ Ok s.text
  pub there : s.span ≡ token.span

abbrev pub slice : (What → Result (List ℕ) Rule) → Production Slice
slice judge = record { front = Stood judge; read = slice_at judge }

-- the docs in front of the next token
abbrev pub docs_at : List Tok → List Slice
docs_at [] = []
docs_at (t ∷ ts) = t.docs

-- what takes a token, and the docs in front of its first
pub record Documents {A : Type 0} (p : Production A) (x : List Slice × A) (ts rest : List Tok) : Type 0 where
  pub docs : x.0 ≡ docs_at ts
  pub item : p.front x.1 ts rest

unfoldable pub documented : {A : Type 0} → Production A → Production (List Slice × A)
documented p = record { front = Documents p; read = λ ts. and_then (p.read ts) (λ x rest. Ok ((docs_at ts, x), rest)) }

-- the tokens from one place to a later one
abbrev pub between : List Tok → List Tok → List Tok
between ts rest = take (length ts - length rest) ts

abbrev pub last_end : Tok → List Tok → ℕ
last_end t [] = t.span.end
last_end t (u ∷ us) = last_end u us

-- where the first of some tokens begins, and the last of them ends
abbrev pub extent : List Tok → Span
extent [] = record { start = 0; end = 0 }
extent (t ∷ ts) = record { start = t.span.start; end = last_end t ts }

-- what is read, and where it stands
pub record Locates {A : Type 0} (p : Production A) (x : Span × A) (ts rest : List Tok) : Type 0 where
  pub place : x.0 ≡ extent (between ts rest)
  pub item : p.front x.1 ts rest

unfoldable pub located : {A : Type 0} → Production A → Production (Span × A)
located p = record { front = Locates p; read = λ ts. and_then (p.read ts) (λ x rest. Ok ((extent (between ts rest), x), rest)) }

-- a sign or keyword and what comes after it, or else something that doesn't begin so
pub record Branches {X : Type 0} (k : Kind) (p q : Production X) (x : X) (ts rest : List Tok) : Type 0 where
  pub way : ((mid : List Tok) × Stands k ts mid × p.front x mid rest) ⊎ q.front x ts rest

abbrev pub branch_at : {X : Type 0} → Kind → Production X → Production X → List Tok → Outcome X
branch_at k p q ts = if sees k ts then p.read (after k ts) else q.read ts

unfoldable pub branch : {X : Type 0} → Kind → Production X → Production X → Production X
branch k p q = record { front = Branches k p q; read = branch_at k p q }

abbrev pub optional : {X : Type 0} → Kind → Production X → Production (Option X)
optional k p = branch k (p >>= (λ x. yield (Some x))) (yield None)

abbrev pub flag : Kind → Production Bool
flag k = branch k (yield true) (yield false)

-- what comes after a token, by that token
pub data Next (X : Type 0) : Type 1 where
  none : Next X
  goes : Production X → Next X

abbrev pub leads_on : {X : Type 0} → Next X → Bool
leads_on none = false
leads_on (goes p) = true

abbrev pub next_front : {X : Type 0} → Next X → X → List Tok → List Tok → Type 0
next_front none x ts rest = ⊥
next_front (goes p) x ts rest = p.front x ts rest

abbrev pub next_at : {X : Type 0} → List Tok → Next X → List Tok → Outcome X
next_at whole none ts = wrong rules.Unexpected whole
next_at whole (goes p) ts = p.read ts

abbrev pub by_at : {X : Type 0} → (What → Next X) → List Tok → Outcome X
by_at table [] = wrong rules.Unexpected []
by_at table (t ∷ ts) = next_at (t ∷ ts) (table t.what) ts

pub record Chosen {X : Type 0} (table : What → Next X) (x : X) (ts rest : List Tok) : Type 0 where
  pub token : Tok
  pub mid : List Tok
  pub first : ts ≡ token ∷ mid
  pub second : next_front (table token.what) x mid rest

abbrev pub by : {X : Type 0} → (What → Next X) → Production X
by table = record { front = Chosen table; read = by_at table }

-- the same, or else something that begins with a token which leads nowhere
abbrev pub or_at : {X : Type 0} → List Tok → (List Tok → Outcome X) → Next X → List Tok → Outcome X
or_at whole other none ts = other whole
or_at whole other (goes p) ts = p.read ts

abbrev pub by_or_at : {X : Type 0} → (What → Next X) → (List Tok → Outcome X) → List Tok → Outcome X
by_or_at table other [] = other []
by_or_at table other (t ∷ ts) = or_at (t ∷ ts) other (table t.what) ts

unfoldable pub by_or : {X : Type 0} → (What → Next X) → Production X → Production X
by_or table q = record { front = λ x ts rest. Chosen table x ts rest ⊎ q.front x ts rest; read = by_or_at table q.read }

-- so many turns, each of which says what the rest of them has to be
unfoldable pub turns : {X : Type 0} → (Production X → Production X) → ℕ → Production X
turns step zero = refuse rules.Unexpected
turns step (suc n) = step (turns step n)

-- any number of turns
abbrev pub repeat : {X : Type 0} → (Production X → Production X) → Production X
repeat step = record {
  front = λ x ts rest. (n : ℕ) × (turns step n).front x ts rest;
  read = λ ts. (turns step (suc (length ts))).read ts;
}

-- with commas, and an optional last one, up to a closing sign
abbrev pub comma_step : {A : Type 0} → Production A → Kind → Production (List A) → Production (List A)
comma_step item shut rest = branch shut (yield []) (item >>= (λ x. branch kind.Comma (rest >>= (λ xs. yield (x ∷ xs))) (sign shut >> yield (x ∷ []))))

unfoldable pub commas : {A : Type 0} → Production A → Kind → Production (List A)
commas item shut = repeat (comma_step item shut)

-- up to a closing sign
abbrev pub until_step : {A : Type 0} → Production A → Kind → Production (List A) → Production (List A)
until_step item shut rest = branch shut (yield []) (item >>= (λ x. rest >>= (λ xs. yield (x ∷ xs))))

unfoldable pub until : {A : Type 0} → Production A → Kind → Production (List A)
until item shut = repeat (until_step item shut)

-- as many as begin with a sign
abbrev pub many_step : {A : Type 0} → Kind → Production A → Production (List A) → Production (List A)
many_step k item rest = branch k (item >>= (λ x. rest >>= (λ xs. yield (x ∷ xs)))) (yield [])

unfoldable pub many : {A : Type 0} → Kind → Production A → Production (List A)
many k item = repeat (many_step k item)

-- at least one, with commas
abbrev pub some_commas : {A : Type 0} → Production A → Kind → Production (List A)
some_commas item shut = item >>= (λ x. branch kind.Comma (commas item shut >>= (λ xs. yield (x ∷ xs))) (sign shut >> yield (x ∷ [])))

-- nothing at the end, and else something
abbrev pub at_end_at : {X : Type 0} → X → (List Tok → Outcome X) → List Tok → Outcome X
at_end_at x read [] = Ok (x, [])
at_end_at x read (t ∷ ts) = read (t ∷ ts)

abbrev pub at_end : {X : Type 0} → X → Production X → Production X
at_end x q = record {
  front = λ y ts rest. ((ts ≡ []) × (rest ≡ []) × (y ≡ x)) ⊎ q.front y ts rest;
  read = at_end_at x q.read;
}

abbrev pub all_step : {A : Type 0} → Production A → Production (List A) → Production (List A)
all_step item rest = at_end [] (item >>= (λ x. rest >>= (λ xs. yield (x ∷ xs))))

-- up to the end
unfoldable pub all : {A : Type 0} → Production A → Production (List A)
all item = repeat (all_step item)

-- nothing is left
abbrev pub finish : {X : Type 0} → X → Production X
finish x = at_end x (refuse rules.Unexpected)

-- what is chosen, and something after it
abbrev pub next_then : {A B : Type 0} → Next A → (A → Production B) → Next B
next_then none g = none
next_then (goes p) g = goes (p >>= g)

-- it takes a token wherever it reads something
abbrev pub Takes : {X : Type 0} → Production X → Type 0
Takes {X = X} p = (ts : List Tok) (x : X) (rest : List Tok) → p.read ts ≡ Ok (x, rest) → length rest < length ts

-- a refusal is what reading gives, unless memory ran out
abbrev pub Fails : {Y : Type 0} → ReadError → Result Y Fault → Type 0
Fails errors.Memory read = Unit {0}
Fails (errors.Malformed f) read = read ≡ Err f

-- What a function returned, seen by view, and the tokens that it left, are what reading gives, unless memory ran out.
abbrev pub Reads : {X Y : Type 0} → (X → Y) → Result X ReadError → List Tok → Outcome Y → Type 0
Reads view (Ok x) new read = read ≡ Ok (view x, new)
Reads view (Err e) new read = Fails e read

-- what was found before, and what is read behind it
abbrev pub onto : {A : Type 0} → List A → Outcome (List A) → Outcome (List A)
onto found o = and_then o (λ xs rest. Ok (found ++ xs, rest))
