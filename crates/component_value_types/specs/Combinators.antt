-- Ways of composing that definitions share.
use Rattle.std.specs.Prelude.{ℕ, List, [], ◌∷◌, map, length, Option, Some, None, Result, Ok, Err, ◌==◌, if◌then◌else◌}
use Rattle.binary_grammar.specs.declared.fault.Rule.{Rule}
use Rattle.binary_grammar.specs.declared.fault.Rule.TheVariants as rules
use Rattle.binary_grammar.specs.Syntax.{Syntax, unbounded, ◌◂◌, ◌>>=◌, some_name, gives, tested, judged, times, vec}
use Rattle.wasm_types.specs.Code.{coded}
use Rattle.distinct_names.specs.Names.{all_new}

-- those whose names are distinct
abbrev pub distinct : {C X : Type 0} → (X → List ℕ) → Syntax unbounded C (List X) → Syntax unbounded C (List X)
distinct name s = tested rules.Duplicate (λ _ xs. all_new [] (map name xs)) s

-- ---- an optional thing: `00`, or `01` and the thing

-- how many follow
unfoldable pub presence_of : ℕ → Result ℕ Rule
presence_of b = if b == 0 then Ok 0 else if b == 1 then Ok 1 else Err rules.Tag

abbrev pub one_or_none : {X : Type 0} → List X → Result (Option X) Rule
one_or_none [] = Ok None
one_or_none (x ∷ xs) = Ok (Some x)

abbrev pub listed : {X : Type 0} → Option X → List X
listed None = []
listed (Some x) = x ∷ []

abbrev pub optional : {C X : Type 0} → Syntax unbounded C X → Syntax unbounded C (Option X)
optional s = judged (λ _ xs. one_or_none xs) listed (do
  n ← length ◂ coded presence_of (λ n. n)
  times (λ there _. there) s n)

-- ---- what has a name in front of it

pub record NamedValue (X : Type 0) : Type 0 where
  pub name : List ℕ
  pub item : X

abbrev pub named : {C X : Type 0} → Syntax unbounded C X → Syntax unbounded C (NamedValue X)
named s = do
  n ← (λ e. e.name) ◂ some_name
  x ← (λ e. e.item) ◂ s
  gives (record { name = n; item = x })

-- so many, with distinct names
abbrev pub named_vec : {C X : Type 0} → Syntax unbounded C X → Syntax unbounded C (List (NamedValue X))
named_vec s = distinct (λ e. e.name) (vec (named s))

-- names alone, all distinct
abbrev pub labels : {C : Type 0} → Syntax unbounded C (List (List ℕ))
labels = distinct (λ l. l) (vec some_name)
